-- Laws of writing from a place on: one store, and one writer behind another.
-- Assumes nothing.
use mathlib.Core.Path.{◌≡◌, sym, ◌∙◌, ap, subst}
use mathlib.Core.List.{List, [], ◌∷◌, ◌++◌, append_assoc, append-nil}
use Prim.Native.Nat.{ℕ, suc, ◌+◌, ◌-◌, ◌≤◌, ◌<◌}
use native.Mathlib.Omega.{arith}
use lib.ListN.{length, take, drop, set, length-append, length-take, length-drop, take-append-drop}
use lib.Seq.{take_at, drop_at, drop-drop, drop-length, take_all, set_split}
use Rattle.plan.specs.Front.{Room, Put}

module _ {A : Type 0} where
  pub put_as : {ws vs old new : List A} {at end : ℕ} → ws ≡ vs → Put ws at old new end → Put vs at old new end
  put_as {ws} {vs} {old} {new} {at} {end} e p = subst (λ x. Put x at old new end) e p

  pub room_as : {ws vs old : List A} {at : ℕ} → ws ≡ vs → Room ws at old → Room vs at old
  room_as {ws} {vs} {old} {at} e h = subst (λ x. Room x at old) e h

  pub put_none : (at : ℕ) (old : List A) → at ≤ length old → Put [] at old old at
  put_none at old l =
      let size : length (take at old) ≡ at = omega (arith, length-take at old) in
      record {
        count = omega arith;
        inside = l;
        is = sym (ap (λ x. x ++ drop (length x) old) (append-nil (take at old)) ∙ ap (λ k. take at old ++ drop k old) size ∙ take-append-drop at old);
      }

  pub put_one : (x : A) (at : ℕ) (old : List A) → at < length old → Put (x ∷ []) at old (set old at x) (at + 1)
  put_one x at old l =
      let size : suc at ≡ length (take at old ++ (x ∷ [])) = omega (arith, length-append (take at old) (x ∷ []), length-take at old) in
      record {
        count = omega arith;
        inside = omega arith;
        is = set_split old at x l ∙ sym (append_assoc (take at old) (x ∷ []) (drop (suc at) old)) ∙ ap (λ k. (take at old ++ (x ∷ [])) ++ drop k old) size;
      }

  module _ {ws old new : List A} {at end : ℕ} (p : Put ws at old new end) where
    abbrev front : List A
    front = take at old ++ ws

    front_length : length front ≡ end
    front_length = omega (arith, p.count, p.inside, length-append (take at old) ws, length-take at old)

    pub put_length : length new ≡ length old
    put_length = ap length p.is ∙ omega (arith, p.inside, front_length, length-append front (drop (length front) old), length-drop (length front) old)

    pub up_to : take end new ≡ front
    up_to = ap (take end) p.is ∙ take_at front _ end front_length

    behind : (k : ℕ) → drop (end + k) new ≡ drop (end + k) old
    behind k =
        sym (drop-drop k end new)
        ∙ ap (drop k) (ap (drop end) p.is ∙ drop_at front _ end front_length ∙ ap (λ n. drop n old) front_length)
        ∙ drop-drop k end old

  pub put_then : {ws vs old mid new : List A} {at a b : ℕ} → Put ws at old mid a → Put vs a mid new b → Put (ws ++ vs) at old new b
  put_then {ws} {vs} {old} {mid} {new} {at} {a} {b} p q =
      let whole = take at old ++ (ws ++ vs) in
      let same : take a mid ++ vs ≡ whole = ap (λ x. x ++ vs) (up_to p) ∙ append_assoc (take at old) ws vs in
      let size : length whole ≡ a + length vs = sym (ap length same) ∙ front_length q ∙ q.count in
      record {
        count = omega (arith, p.count, q.count, length-append ws vs);
        inside = omega (arith, q.inside, put_length p);
        is = q.is ∙ ap (λ x. x ++ drop (length x) mid) same ∙ ap (λ l. whole ++ l) (ap (λ k. drop k mid) size ∙ behind p (length vs) ∙ ap (λ k. drop k old) (sym size));
      }

  -- what is lent on from the place a on, and the whole once t stands there
  abbrev pub rest : ℕ → List A → List A
  rest a l = take (length l - a) (drop a l)

  abbrev pub joined : ℕ → List A → List A → List A
  joined a l t = take a l ++ (t ++ drop (length l - a) (drop a l))

  module _ (a : ℕ) (old : List A) where
    lent : rest a old ≡ drop a old
    lent = take_all (length old - a) (drop a old) (omega (arith, length-drop a old))

    none : drop (length old - a) (drop a old) ≡ []
    none = ap (λ k. drop k (drop a old)) (sym (length-drop a old)) ∙ drop-length (drop a old)

    pub rest_length : length (rest a old) ≡ length old - a
    rest_length = ap length lent ∙ length-drop a old

    pub room_tail : {ws : List A} → Room ws a old → Room ws 0 (rest a old)
    room_tail h = record { fits = omega (arith, h.fits, rest_length) }

    -- who writes at the front of that writes at a
    pub put_tail : {ws t : List A} {b : ℕ} → a ≤ length old → Put ws 0 (rest a old) t b → Put ws a old (joined a old t) (a + b)
    put_tail {ws} {t} {b} l p =
        let size : length (take a old ++ ws) ≡ a + length ws = omega (arith, length-append (take a old) ws, length-take a old) in
        let tail : t ≡ ws ++ drop (length (take a old ++ ws)) old =
        p.is ∙ ap (λ x. ws ++ x) (ap (drop (length ws)) lent ∙ drop-drop (length ws) a old ∙ ap (λ k. drop k old) (sym size)) in
        record {
          count = omega (arith, p.count);
          inside = omega (arith, p.inside, rest_length);
          is = ap (λ x. take a old ++ (t ++ x)) none ∙ ap (λ x. take a old ++ x) (append-nil t ∙ tail) ∙ sym (append_assoc (take a old) ws (drop (length (take a old ++ ws)) old));
        }

  -- the room of two pieces: the first's, and the second's behind it
  pub room_first : (ws vs : List A) {old : List A} {at : ℕ} → Room (ws ++ vs) at old → Room ws at old
  room_first ws vs h = record { fits = omega (arith, h.fits, length-append ws vs) }

  pub room_rest : (ws vs : List A) {old mid : List A} {at a : ℕ} → Room (ws ++ vs) at old → Put ws at old mid a → Room vs a mid
  room_rest ws vs h p = record { fits = omega (arith, h.fits, length-append ws vs, p.count, put_length p) }
