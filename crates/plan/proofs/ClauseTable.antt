-- The clauses of the flat table: one behind the other, each where it stands, and one around each place.
-- Assumes nothing.
use mathlib.Core.Path.{◌≡◌, refl, sym, subst, ◌∙◌, ap}
use mathlib.Core.Logic.{◌⊎◌, inl, inr, ◌≢◌, ⊎_elim}
use mathlib.Core.List.Memᴰ
use mathlib.Core.List.{List, [], ◌∷◌, ◌++◌, append_assoc, Memᴰ}
use Prim.Native.Nat.{ℕ, zero, suc, ◌+◌, ◌-◌, ◌≤◌, ◌<◌}
use native.Mathlib.Numerals.{add-one}
use native.Mathlib.Decide.{ℕ_discrete}
use native.Mathlib.Omega.{arith}
use lib.ListN.{length, get_or, drop, take-append-drop, length-append, length-drop, drop_of_length-le}
use lib.Seq.{drop-drop, drop-cons, get_or-take, get_or-drop, get_or-append-add, length-take-le}
use lib.IntN.{ℤ, pos, negsuc, ℤ_discrete, nat_abs}
use Rattle.plan.specs.Ranged.{LiteralFits, InRange, literals}
use Rattle.plan.specs.Written.{flat}
use Rattle.plan.specs.Tables.{in_front, clauses_of, Lent}
use Rattle.plan.specs.ClauseTable.{EndsAt, Ended, Table, End, BeginsAt, Begin, part, Stands, Around}
use Rattle.plan.specs.declared.Plan.{Plan}
use Rattle.plan.specs.declared.Edge as struct-of-edge
use Rattle.plan.specs.declared.Atom as struct-of-atom
use Rattle.plan.proofs.Lists.{le_or_lt, mem_at, at_mem}
use Rattle.plan.proofs.Places.{found_back, found_on, found_one, found_ahead}

-- a clause, and what stands behind its 0
pub clause_at_lem : (C : List ℤ) (r : List ℤ) → ((l : ℤ) → Memᴰ l C → l ≢ pos 0) → clauses_of (C ++ (pos 0 ∷ r)) ≡ C ∷ clauses_of r
unfolding clauses_of
clause_at_lem [] r h = refl
clause_at_lem (pos zero ∷ C) r h = absurd (h (pos 0) (Memᴰ.head refl) refl)
clause_at_lem (pos (suc n) ∷ C) r h = ap (in_front (pos (suc n))) (clause_at_lem C r (λ l m. h l (Memᴰ.tail m)))
clause_at_lem (negsuc n ∷ C) r h = ap (in_front (negsuc n)) (clause_at_lem C r (λ l m. h l (Memᴰ.tail m)))

-- a table of clauses whose literals are not 0, read back
pub clauses_back : (Cs : List (List ℤ)) → ((C : List ℤ) → Memᴰ C Cs → (l : ℤ) → Memᴰ l C → l ≢ pos 0) → clauses_of (flat Cs) ≡ Cs
unfolding clauses_of flat
clauses_back [] h = refl
clauses_back (C ∷ Cs) h = clause_at_lem C (flat Cs) (λ l m. h C (Memᴰ.head refl) l m) ∙ ap (λ z. C ∷ z) (clauses_back Cs (λ D m. h D (Memᴰ.tail m)))

-- the table of clauses: how long it is, how it ends, and what stands in it
pub flat_length : (Cs : List (List ℤ)) → length (flat Cs) ≡ literals Cs + length Cs
unfolding flat literals
flat_length [] = refl
flat_length (C ∷ Cs) = length-append C (pos 0 ∷ flat Cs) ∙ omega (arith, flat_length Cs)

-- one clause more
pub flat_clause : (Cs : List (List ℤ)) (C : List ℤ) → flat (Cs ++ (C ∷ [])) ≡ flat Cs ++ (C ++ (pos 0 ∷ []))
unfolding flat
flat_clause [] C = refl
flat_clause (D ∷ Cs) C = ap (λ l. D ++ (pos 0 ∷ l)) (flat_clause Cs C) ∙ simp append_assoc

pub count_clause : (Cs : List (List ℤ)) (C : List ℤ) → literals (Cs ++ (C ∷ [])) ≡ literals Cs + length C
unfolding literals
count_clause [] C = omega arith
count_clause (D ∷ Cs) C = omega (arith, count_clause Cs C)

flat_ended : (Cs : List (List ℤ)) → Ended (flat Cs)
unfolding flat
flat_ended [] = refl
flat_ended (C ∷ Cs) =
    let l = length-append C (pos 0 ∷ flat Cs) in
    let e : length (C ++ (pos 0 ∷ flat Cs)) - 1 ≡ length C + length (flat Cs) = omega (arith, l) in
    ap (λ k. get_or (C ++ (pos 0 ∷ flat Cs)) k (pos 0)) e ∙ get_or-append-add C (pos 0 ∷ flat Cs) (length (flat Cs)) (pos 0) ∙ go (flat Cs) (flat_ended Cs)
  where
    go : (r : List ℤ) → Ended r → get_or (pos 0 ∷ r) (length r) (pos 0) ≡ pos 0
    go [] h = refl
    go (x ∷ r) h = let p : length (x ∷ r) - 1 ≡ length r = omega arith in sym (ap (λ k. get_or (x ∷ r) k (pos 0)) p) ∙ h

flat_literal : (Cs : List (List ℤ)) (l : ℤ) → Memᴰ l (flat Cs) → l ≢ pos 0 → (C : List ℤ) × Memᴰ C Cs × Memᴰ l C
unfolding flat
flat_literal [] l m n = absurd (Memᴰ.not-nil m)
flat_literal (C ∷ Cs) l m n =
    ⊎_elim (λ i. (C, Memᴰ.head refl, i))
    (λ i. ⊎_elim (λ e. absurd (n e)) (λ j. let q = flat_literal Cs l j n in (q.0, Memᴰ.tail q.1, q.2)) (Memᴰ.cases_cons i)) (Memᴰ.append_cases C m)

-- clauses whose literals fit
module _ {v : ℕ} (Cs : List (List ℤ)) (fit : InRange v Cs) where
  pub flat_table : Table v (flat Cs)
  flat_table = record { ended = flat_ended Cs; fits = fits }
    where
      fits : (k : ℕ) → k < length (flat Cs) → (EndsAt (flat Cs) k → ⊥) → LiteralFits v (get_or (flat Cs) k (pos 0))
      fits k h n = let q = flat_literal Cs (get_or (flat Cs) k (pos 0)) (mem_at (flat Cs) (pos 0) k h) n in fit q.0 q.1 (get_or (flat Cs) k (pos 0)) q.2

  pub flat_back : clauses_of (flat Cs) ≡ Cs
  flat_back = clauses_back Cs (λ C m l k e. let z : nat_abs l ≡ 0 = ap nat_abs e in omega (arith, (fit C m l k).low))

-- what the reader guarantees of it
module _ {p : Plan} {es : List struct-of-edge.Edge} {bs : List struct-of-atom.Atom} {cs : List ℤ} (lent : Lent p es bs cs) where
  pub lent_table : Table p.variables cs
  lent_table = subst (Table p.variables) lent.ended (flat_table (clauses_of cs) lent.ranged.literal)

  pub lent_length : length cs ≡ literals (clauses_of cs) + length (clauses_of cs)
  lent_length = ap length (sym lent.ended) ∙ flat_length (clauses_of cs)

-- a number that is not 0 is not the last
pub not_last : (cs : List ℤ) (at : ℕ) → Ended cs → at < length cs → (EndsAt cs at → ⊥) → at + 1 < length cs
not_last cs at e h n = go (ℕ_discrete (at + 1) (length cs))
  where
    go : Dec (at + 1 ≡ length cs) → at + 1 < length cs
    go (yes q) = let p : at ≡ length cs - 1 = omega arith in absurd (n (ap (λ k. get_or cs k (pos 0)) p ∙ e))
    go (no m) = omega arith

-- a 0 stands at place p, so there is a first one from each place before it on
zero_ahead : (cs : List ℤ) (p at : ℕ) → p < length cs → EndsAt cs p → at ≤ p → (e : ℕ) × (e ≤ p) × End cs at e
zero_ahead cs p at h z a = found_ahead (EndsAt cs) (λ k. ℤ_discrete (get_or cs k (pos 0)) (pos 0)) p (length cs) h z (p - at) at (omega arith)

pub end_some : (cs : List ℤ) (at : ℕ) → Ended cs → at < length cs → (e : ℕ) × End cs at e
end_some cs at z h = let q = zero_ahead cs (length cs - 1) at (omega arith) z (omega arith) in (q.0, q.2)

-- the literals of the clause that begins at `at` and whose 0 is at e
module _ (cs : List ℤ) (at e : ℕ) (n : End cs at e) where
  pub part_length : length (part cs at e) ≡ e - at
  part_length = let b = n.inside in length-take-le (e - at) (drop at cs) (simp length-drop (omega arith))

  part_get_d : (k : ℕ) → k < e - at → get_or (part cs at e) k (pos 0) ≡ get_or cs (at + k) (pos 0)
  part_get_d k h = get_or-take (e - at) (drop at cs) k (pos 0) h ∙ get_or-drop at cs k (pos 0)

  pub part_in : (k : ℕ) → at ≤ k → k < e → Memᴰ (get_or cs k (pos 0)) (part cs at e)
  part_in k x y =
      let q : at + (k - at) ≡ k = omega arith in
      subst (λ l. Memᴰ l (part cs at e)) (part_get_d (k - at) (omega arith) ∙ ap (λ j. get_or cs j (pos 0)) q)
      (mem_at (part cs at e) (pos 0) (k - at) (omega (arith, part_length)))

  pub part_out : (l : ℤ) → Memᴰ l (part cs at e) → (k : ℕ) × (at ≤ k) × (k < e) × (l ≡ get_or cs k (pos 0))
  part_out l m =
      let q = at_mem (part cs at e) (pos 0) l m in
      (at + q.0, omega arith, omega (arith, part_length, q.1, n.after), q.2 ∙ part_get_d q.0 (omega (arith, part_length, q.1)))

  part_nonzero : (l : ℤ) → Memᴰ l (part cs at e) → l ≢ pos 0
  part_nonzero l m z = let q = part_out l m in n.before q.0 q.1 q.2 (sym q.3 ∙ z)

  pub part_fits : {variables : ℕ} → Table variables cs → (l : ℤ) → Memᴰ l (part cs at e) → LiteralFits variables l
  part_fits t l m =
      let q = part_out l m in
      rw q.3 (t.fits q.0 (omega (arith, q.2, n.inside)) (n.before q.0 q.1 q.2))

  rest_is : drop at cs ≡ part cs at e ++ (pos 0 ∷ drop (e + 1) cs)
  rest_is =
      let a = n.after in
      let p : at + (e - at) ≡ e = omega arith in
      sym (take-append-drop (e - at) (drop at cs))
      ∙ ap (λ t. part cs at e ++ t)
      (drop-drop (e - at) at cs ∙ ap (λ k. drop k cs) p ∙ drop-cons cs e (pos 0) n.inside ∙ ap (λ x. x ∷ drop (suc e) cs) n.here ∙ ap (λ k. pos 0 ∷ drop k cs) (sym (add-one e)))

  -- it is the first clause of the rest of the table
  pub first_clause : clauses_of (drop at cs) ≡ part cs at e ∷ clauses_of (drop (e + 1) cs)
  first_clause = ap clauses_of rest_is ∙ clause_at_lem (part cs at e) (drop (e + 1) cs) part_nonzero

-- behind the last number there is no clause
pub no_more : (cs : List ℤ) (at : ℕ) → length cs ≤ at → clauses_of (drop at cs) ≡ []
unfolding clauses_of
no_more cs at h = ap clauses_of (drop_of_length-le cs h)

-- a clause that stands in the table is among the clauses of the rest of the table, from each beginning before it on
module _ {cs C : List ℤ} {start stop : ℕ} (t : Stands cs C start stop) where
  met : (n at : ℕ) → at ≤ start → start ≤ at + n → Memᴰ C (clauses_of (drop at cs))
  met zero at p q = let y : at ≡ start = omega arith in rw (y, first_clause cs start stop t.ends, t.is) (Memᴰ.head refl)
  met (suc n) at p q = go (le_or_lt start at) (met n)
    where
      go : (start ≤ at) ⊎ (at < start) → ((k : ℕ) → k ≤ start → start ≤ k + n → Memᴰ C (clauses_of (drop k cs))) → Memᴰ C (clauses_of (drop at cs))
      go (inl h) r = r at p (omega arith)
      go (inr h) r =
          let s = zero_ahead cs (start - 1) at (omega (arith, t.ends.after, t.ends.inside)) (t.begins (omega arith)) (omega arith) in
          let x = s.1 in
          rw (first_clause cs at s.0 s.2) (Memᴰ.tail (r (s.0 + 1) (omega arith) (omega (arith, s.2.after))))

  pub stands_in : Memᴰ C (clauses_of cs)
  stands_in = met start 0 (omega arith) (omega arith)

-- behind a clause's 0 the next one begins
pub begins_behind : (cs : List ℤ) (at e : ℕ) → End cs at e → BeginsAt cs (e + 1)
begins_behind cs at e n h = let y : e + 1 - 1 ≡ e = omega arith in ap (λ k. get_or cs k (pos 0)) y ∙ n.here

-- and each clause stands somewhere
module _ (cs : List ℤ) (z : Ended cs) (C : List ℤ) where
  abbrev Standing : Type 0
  Standing = (start : ℕ) × (stop : ℕ) × Stands cs C start stop

  standing : (n at : ℕ) → length cs ≤ at + n → BeginsAt cs at → Memᴰ C (clauses_of (drop at cs)) → Standing
  standing zero at q b i = absurd (Memᴰ.not-nil (rw (no_more cs at (omega arith)) at i))
  standing (suc n) at q b i = go (le_or_lt (length cs) at) (standing n)
    where
      go : (length cs ≤ at) ⊎ (at < length cs) → ((k : ℕ) → length cs ≤ k + n → BeginsAt cs k → Memᴰ C (clauses_of (drop k cs)) → Standing) → Standing
      go (inl h) r = absurd (Memᴰ.not-nil (rw (no_more cs at h) at i))
      go (inr h) r = let s = end_some cs at z h in pick s.0 s.1 (Memᴰ.cases_cons (rw (first_clause cs at s.0 s.1) at i))
        where
          pick : (e : ℕ) → End cs at e → (C ≡ part cs at e) ⊎ Memᴰ C (clauses_of (drop (e + 1) cs)) → Standing
          pick e t (inl y) = (at, e, record { begins = b; ends = t; is = y })
          pick e t (inr o) = r (e + 1) (omega (arith, t.after)) (begins_behind cs at e t) o

  pub in_stands : Memᴰ C (clauses_of cs) → Standing
  in_stands i = standing (length cs) 0 (omega arith) (λ h. absurd (omega arith)) i

-- the clause around a place, from its beginning and its 0
pub stands_from : {cs : List ℤ} {k start stop : ℕ} → Begin cs k start → End cs k stop → Stands cs (part cs start stop) start stop
stands_from {cs} b n = record { begins = b.behind; ends = found_back (EndsAt cs) b.before b.within n; is = refl }

-- there is one
pub around_one : {cs C D : List ℤ} {k : ℕ} → Around cs k C → Around cs k D → C ≡ D
around_one {cs} {C} {D} {k} a b =
    a.stands.is
    ∙ ap (λ s. part cs s a.stop) (omega (arith, upto a b, upto b a))
    ∙ ap (λ e. part cs b.start e) (found_one (EndsAt cs) (ahead a) (ahead b))
    ∙ sym b.stands.is
  where
    ahead : {C : List ℤ} (a : Around cs k C) → End cs k a.stop
    ahead a = found_on (EndsAt cs) a.stands.ends a.from a.upto

    upto : {C D : List ℤ} (a : Around cs k C) (b : Around cs k D) → a.start ≤ b.start
    upto a b = go (le_or_lt a.start b.start)
      where
        go : (a.start ≤ b.start) ⊎ (b.start < a.start) → a.start ≤ b.start
        go (inl h) = h
        go (inr h) = absurd (b.stands.ends.before (a.start - 1) (omega arith) (omega (arith, a.from, b.upto)) (a.stands.begins (omega arith)))

-- each literal of each clause has a place
pub around_some : (cs : List ℤ) → Ended cs → (C : List ℤ) → Memᴰ C (clauses_of cs) → (m : ℤ) → Memᴰ m C
    → (k : ℕ) × (k < length cs) × (get_or cs k (pos 0) ≡ m) × Around cs k C
around_some cs z C i m j =
    let s = in_stands cs z C i in
    let t = s.2 in
    let q = part_out cs s.0 s.1 t.ends m (rw t.is at j) in
    (q.0, omega (arith, q.2, t.ends.inside), sym q.3, record { start = s.0; stop = s.1; stands = t; from = q.1; upto = omega (arith, q.2) })
