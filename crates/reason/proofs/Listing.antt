-- The marked variables as a list, rising, each once; and the clause written from them, place by place.
-- Assumes nothing.
use mathlib.Core.Path.{◌≡◌, refl, sym, ap, subst, ◌∙◌}
use mathlib.Core.Logic.{◌↔◌, ⊎_elim}
use mathlib.Core.Bool.{Bool, true, false, cond}
use mathlib.Core.List.Memᴰ
use mathlib.Core.List.{List, [], ◌∷◌, ◌++◌, append-nil, append_assoc, map, map-append, Memᴰ}
use Prim.Native.Nat.{ℕ, zero, suc, ◌+◌, ◌≤◌, ◌<◌}
use native.Mathlib.Omega.{arith}
use native.Mathlib.Numerals.{add-one}
use lib.ListN.{length, get_or, set, take, drop, length-append, length-drop, length-map}
use lib.Seq.{drop-cons, set_at}
use lib.IntN.{ℤ}
use lib.Dec.{T}
use Rattle.std.specs.Prelude.{filter}
use Rattle.std.proofs.lemmas.List.Filters.{length-filter_more}
use Rattle.plan.specs.Meaning.{literal_of}
use Rattle.plan.specs.Buffers.{Wrote}
use Rattle.plan.specs.Reason.{Rising, end, more, Listed}
use Rattle.plan.proofs.Lists.{le_or_lt}
use Rattle.reason.specs.Marks.{premises, piece, clause_of, Appends}

-- ---- rising, each once

abbrev Marked : List Bool → ℕ → ℕ → Type 0
Marked m n v = (i : ℕ) × (i < n) × (v ≡ suc i) × T (get_or m i false)

piece_iff : (b : Bool) (v w : ℕ) → Memᴰ w (piece b v) ↔ ((w ≡ v) × T b)
piece_iff true v w = ((λ h. (Memᴰ.eq_of_singleton h, tt)), (λ q. Memᴰ.head q.0))
piece_iff false v w = ((λ h. absurd (Memᴰ.not-nil h)), (λ q. absurd q.1))

marked_out : (m : List Bool) (n v : ℕ) → Memᴰ v (premises m n) → Marked m n v
unfolding premises
marked_out m zero v h = absurd (Memᴰ.not-nil h)
marked_out m (suc n) v h = ⊎_elim
    (λ k. let q = marked_out m n v k in (q.0, omega (arith, q.1), q.2, q.3))
    (λ k. let q = (piece_iff (get_or m n false) (suc n) v).0 k in (n, omega arith, q.0, q.1))
    (Memᴰ.append_cases (premises m n) h)

marked_in : (m : List Bool) (n v : ℕ) → Marked m n v → Memᴰ v (premises m n)
unfolding premises
marked_in m zero v q = absurd (omega (arith, q.1))
marked_in m (suc n) v q = ⊎_elim
    (λ l. let e : q.0 ≡ n = omega (arith, q.1) in Memᴰ.append_right (premises m n) ((piece_iff (get_or m n false) (suc n) v).1 (q.2 ∙ ap suc e, subst (λ (i : ℕ). T (get_or m i false)) e q.3)))
    (λ l. Memᴰ.append_left _ (marked_in m n v (q.0, l, q.2, q.3)))
    (le_or_lt n q.0)

rising_last : {b w : ℕ} {vs : List ℕ} → Rising b vs → b < w → ((v : ℕ) → Memᴰ v vs → v < w) → Rising b (vs ++ (w ∷ []))
rising_last {b} {w} end l f = more {b = b} {v = w} l end
rising_last {b} (more {v = v} h r) l f = more {b = b} {v = v} h (rising_last r (f v (Memᴰ.head refl)) (λ u i. f u (Memᴰ.tail i)))

rising_piece : (b : Bool) {n : ℕ} {vs : List ℕ} → Rising 0 vs → ((v : ℕ) → Memᴰ v vs → v ≤ n) → Rising 0 (vs ++ piece b (suc n))
rising_piece true r f = rising_last r (omega arith) (λ v i. omega (arith, f v i))
rising_piece false r f = rw append-nil r

premises_rising : (m : List Bool) (n : ℕ) → Rising 0 (premises m n)
unfolding premises
premises_rising m zero = end
premises_rising m (suc n) = rising_piece (get_or m n false) (premises_rising m n) (λ v i. let q = marked_out m n v i in omega (arith, q.1, q.2))

-- marks that say which variables have a property give their list
pub listed_marks : (P : ℕ → Type 0) (m : List Bool) (n : ℕ) → ((i : ℕ) → T (get_or m i false) ↔ P (suc i)) → ((v : ℕ) → P v → (1 ≤ v) × (v ≤ n)) → Listed P (premises m n)
listed_marks P m n f range = record { rising = premises_rising m n; exact = λ v. ((λ h. out v (marked_out m n v h)), into v) }
  where
    out : (v : ℕ) → Marked m n v → P v
    out v q = subst P (sym q.2) ((f q.0).0 q.3)

    into : (v : ℕ) → P v → Memᴰ v (premises m n)
    into zero p = absurd (omega (arith, range 0 p))
    into (suc i) p = marked_in m n (suc i) (i, omega (arith, range (suc i) p), refl, (f i).1 p)

-- ---- how many

piece_length : (b : Bool) (v w : ℕ) → length (piece b v) ≡ length (piece b w)
piece_length true v w = refl
piece_length false v w = refl

piece_few : (b : Bool) (v : ℕ) → length (piece b v) ≤ 1
piece_few true v = omega arith
piece_few false v = omega arith

pub premises_count : (m : List Bool) (n v : ℕ) → length (premises m (suc n)) ≡ length (premises m n) + length (piece (get_or m n false) v)
unfolding premises
premises_count m n v = length-append (premises m n) _ ∙ ap (λ (k : ℕ). length (premises m n) + k) (piece_length (get_or m n false) (suc n) v)

one_piece : (b : Bool) (v : ℕ) → length (piece b v) ≡ cond b 1 0
one_piece true v = refl
one_piece false v = refl

pub premises_zero : (m : List Bool) → premises m 0 ≡ []
unfolding premises
premises_zero m = refl

pub premises_most : (m : List Bool) (n : ℕ) → length (premises m n) ≤ n
premises_most m zero = omega (arith, ap length (premises_zero m))
premises_most m (suc n) = omega (arith, premises_most m n, premises_count m n 0, piece_few (get_or m n false) 0)

pub premises_fewer : (m : List Bool) (k n : ℕ) → k ≤ n → length (premises m k) ≤ length (premises m n)
premises_fewer m k zero l = let e : k ≡ 0 = omega arith in subst (λ (i : ℕ). length (premises m i) ≤ length (premises m 0)) (sym e) (omega arith)
premises_fewer m k (suc n) l = ⊎_elim
    (λ s. let e : k ≡ suc n = omega arith in subst (λ (i : ℕ). length (premises m i) ≤ length (premises m (suc n))) (sym e) (omega arith))
    (λ s. omega (arith, premises_fewer m k n (omega arith), premises_count m n 0))
    (le_or_lt (suc n) k)

-- as many as marks are set
pub premises_set : (m : List Bool) (n : ℕ) → n ≤ length m → length (premises m n) ≡ length (filter (λ b. b) (take n m))
premises_set m zero l = ap length (premises_zero m)
premises_set m (suc n) l =
    let more = rw add-one at (length-filter_more (λ b. b) m n false (omega arith)) in
    omega (arith, premises_set m n (omega arith), premises_count m n 0, one_piece (get_or m n false) 0, more)

-- a marked one is one more
premises_more : (m : List Bool) (k n : ℕ) → k < n → get_or m k false ≡ true → length (premises m k) < length (premises m n)
premises_more m k n l e = omega (arith, premises_fewer m (suc k) n l, rw e at (premises_count m k 0))

-- ---- the buffer

pub appends_none : (at : ℕ) (out : List ℤ) → Appends at [] out out at
appends_none at out = record { ends = omega arith; wrote = λ w before e s. subst (λ x. Wrote x before out) (sym (append-nil w)) s }

pub appends_one : (at : ℕ) (x : ℤ) (out : List ℤ) → at < length out → Appends at (x ∷ []) out (set out at x) (at + 1)
appends_one at x out l = record { ends = refl; wrote = there }
  where
    there : (w before : List ℤ) → at ≡ length w → Wrote w before out → Wrote (w ++ (x ∷ [])) before (set out at x)
    there w before e s =
        let h : length w < length before = omega (arith, ap length s, length-append w (drop (length w) before), length-drop (length w) before) in
        let d : drop (length w) before ≡ get_or before (length w) x ∷ drop (suc (length w)) before = drop-cons before (length w) x h in
        let k : suc (length w) ≡ length (w ++ (x ∷ [])) = omega (arith, length-append w (x ∷ [])) in
        ap (λ o. set o at x) (s ∙ ap (λ r. w ++ r) d) ∙ set_at w (get_or before (length w) x) (drop (suc (length w)) before) x at (sym e)
        ∙ ap (λ (i : ℕ). w ++ (x ∷ drop i before)) k ∙ sym (append_assoc w (x ∷ []) (drop (length (w ++ (x ∷ []))) before))

pub appends_then : {at mid stop : ℕ} {p q out out' out'' : List ℤ} → Appends at p out out' mid → Appends mid q out' out'' stop → Appends at (p ++ q) out out'' stop
appends_then {mid = mid} {p = p} {q = q} {out'' = out''} f g = record {
  ends = omega (arith, f.ends, g.ends, length-append p q);
  wrote = λ w before e s.
      let m : mid ≡ length (w ++ p) = omega (arith, f.ends, length-append w p) in
      subst (λ x. Wrote x before out'') (append_assoc w p q) (g.wrote (w ++ p) before m (f.wrote w before e s));
}

pub clause_length : (x : ℤ) (sign : Bool) (m : List Bool) (n : ℕ) → length (clause_of x sign m n) ≡ suc (length (premises m n))
clause_length x sign m n = ap suc (length-map (premises m n) (literal_of sign))

pub premises_next : (sign : Bool) (m : List Bool) (n : ℕ)
    → map (literal_of sign) (premises m n) ++ map (literal_of sign) (piece (get_or m n false) (n + 1)) ≡ map (literal_of sign) (premises m (n + 1))
unfolding premises
premises_next sign m n = rw (add-one n) (sym (map-append (literal_of sign) (premises m n) (piece (get_or m n false) (suc n))))

-- one variable more, which is marked or not
module _ (sign : Bool) (m : List Bool) (n : ℕ) {at end : ℕ} {out mid : List ℤ} (so_far : Appends at (map (literal_of sign) (premises m n)) out mid end) where
  pub room : get_or m n false ≡ true → (total : ℕ) → n < total → at + length (premises m total) ≤ length mid → end < length mid
  room e total l r = omega (arith, premises_more m n total l e, so_far.ends, length-map (premises m n) (literal_of sign), r)

  pub appends_marked : get_or m n false ≡ true → end < length mid → Appends at (map (literal_of sign) (premises m (n + 1))) out (set mid end (literal_of sign (n + 1))) (end + 1)
  appends_marked e l = subst (λ p. Appends at p out (set mid end (literal_of sign (n + 1))) (end + 1)) (rw e at (premises_next sign m n)) (appends_then so_far (appends_one end (literal_of sign (n + 1)) mid l))

  pub appends_unmarked : get_or m n false ≡ false → Appends at (map (literal_of sign) (premises m (n + 1))) out mid end
  appends_unmarked e = subst (λ p. Appends at p out mid end) (rw e at (premises_next sign m n)) (appends_then so_far (appends_none end mid))
