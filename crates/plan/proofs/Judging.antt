-- Judging has one judgement, and antt computes it.
-- Assumes nothing.
use mathlib.Core.Path.{◌≡◌, refl, sym, subst, ap}
use mathlib.Core.Logic.{◌⊎◌, inl, inr, ◌↔◌}
use mathlib.Core.Bool.{Bool, true, false, cond, beq}
use mathlib.Core.List.Memᴰ
use mathlib.Core.List.{List, [], ◌∷◌, Memᴰ}
use Prim.Native.Nat.{ℕ, zero, suc}
use lib.IntN.{ℤ}
use lib.Dec.{T}
use Rattle.plan.specs.Meaning.{Atom, PlanFile, on, true_in, under, Full, HasTrue, IsRight}
use Rattle.plan.specs.Ranged.{Ranged}
use Rattle.plan.specs.Judging.{FirstWithout, here, later, Judgement, plan, no_true, wrong, Judged}
use Rattle.plan.proofs.Bools.{any_of, any_some, some_any}
use Rattle.plan.proofs.Levels.{is_true?}
use Rattle.plan.proofs.Closing.{true_in_lem}

module _ {A : Type 0} (P : A → Type 0) where
  pub first_unique : {xs : List A} {m n : ℕ} → FirstWithout P xs m → FirstWithout P xs n → m ≡ n
  first_unique (here f) (here g) = refl
  first_unique (here f) (later p r) = absurd (f p)
  first_unique (later p r) (here f) = absurd (f p)
  first_unique (later p r) (later q s) = ap suc (first_unique r s)

  first_not_all : {xs : List A} {n : ℕ} → FirstWithout P xs n → ((x : A) → Memᴰ x xs → P x) → ⊥
  first_not_all (here f) h = f (h _ (Memᴰ.head refl))
  first_not_all (later p r) h = first_not_all r (λ x m. h x (Memᴰ.tail m))

module _ (φ : PlanFile) (a : List ℤ) where
  -- no second judgement fits
  pub judged_unique : (v w : Judgement) → Judged φ a v → Judged φ a w → v ≡ w
  judged_unique plan plan x y = refl
  judged_unique plan (no_true n) x y = absurd (first_not_all (HasTrue a) y x.clause)
  judged_unique plan (wrong n) x y = absurd (first_not_all (IsRight φ a) y.1 x.atom)
  judged_unique (no_true m) plan x y = absurd (first_not_all (HasTrue a) x y.clause)
  judged_unique (no_true m) (no_true n) x y = ap no_true (first_unique (HasTrue a) x y)
  judged_unique (no_true m) (wrong n) x y = absurd (first_not_all (HasTrue a) x y.0)
  judged_unique (wrong m) plan x y = absurd (first_not_all (IsRight φ a) x.1 y.atom)
  judged_unique (wrong m) (no_true n) x y = absurd (first_not_all (HasTrue a) y x.0)
  judged_unique (wrong m) (wrong n) x y = ap wrong (first_unique (IsRight φ a) x.1 y.1)

-- the computed judgement: 0 if every element passes, else the first place that does not
abbrev pub one_up : ℕ → ℕ
one_up zero = zero
one_up (suc n) = suc (suc n)

abbrev pub first_not {ℓ} : {A : Type ℓ} → (A → Bool) → List A → ℕ
first_not f [] = zero
first_not f (x ∷ xs) = cond (f x) (one_up (first_not f xs)) (suc zero)

abbrev FirstIs : {A : Type 0} (P : A → Type 0) → List A → ℕ → Type 0
FirstIs {A} P xs zero = (x : A) → Memᴰ x xs → P x
FirstIs P xs (suc n) = FirstWithout P xs (suc n)

first_cons : {A : Type 0} (P : A → Type 0) (x : A) (xs : List A) (n : ℕ) → P x → FirstIs P xs n → FirstIs P (x ∷ xs) (one_up n)
first_cons {A} P x xs zero p h = λ y m. go y (Memᴰ.cases_cons m)
  where
    go : (y : A) → (y ≡ x) ⊎ Memᴰ y xs → P y
    go y (inl e) = subst P (sym e) p
    go y (inr k) = h y k
first_cons P x xs (suc n) p h = later p h

first_not_is : {A : Type 0} (P : A → Type 0) (f : A → Bool) (xs : List A) → ((x : A) → Memᴰ x xs → T (f x) ↔ P x) → FirstIs P xs (first_not f xs)
first_not_is P f [] h = λ x m. absurd (Memᴰ.not-nil m)
first_not_is P f (x ∷ xs) h = go (f x) (h x (Memᴰ.head refl)) (first_not_is P f xs (λ y m. h y (Memᴰ.tail m)))
  where
    go : (b : Bool) → (T b ↔ P x) → FirstIs P xs (first_not f xs) → FirstIs P (x ∷ xs) (cond b (one_up (first_not f xs)) (suc zero))
    go true e r = first_cons P x xs (first_not f xs) (e.0 tt) r
    go false e r = here (λ p. e.1 p)

abbrev pub judgement_of : ℕ → ℕ → Judgement
judgement_of zero zero = plan
judgement_of zero (suc n) = wrong (suc n)
judgement_of (suc m) n = no_true (suc m)

abbrev pub has_true? : List ℤ → List ℤ → Bool
has_true? a C = any_of (true_in a) C

abbrev pub is_right? : PlanFile → List ℤ → Atom → Bool
is_right? φ a A = beq (true_in a (on A.variable)) (is_true? φ.nodes φ.edges (under (true_in a)) A)

unfoldable pub judge : PlanFile → List ℤ → Judgement
judge φ a = judgement_of (first_not (has_true? a) φ.clauses) (first_not (is_right? φ a) φ.atoms)

beq_iff : {P : Type 0} (b c : Bool) → (T c ↔ P) → T (beq b c) ↔ (T b ↔ P)
beq_iff true true e = ((λ t. ((λ u. e.0 tt), (λ p. tt))), (λ q. tt))
beq_iff true false e = ((λ t. absurd t), (λ q. e.1 (q.0 tt)))
beq_iff false true e = ((λ t. absurd t), (λ q. q.1 (e.0 tt)))
beq_iff false false e = ((λ t. ((λ u. absurd u), (λ p. e.1 p))), (λ q. tt))

module _ (φ : PlanFile) (ok : Ranged φ) (a : List ℤ) (f : Full φ.variables a) where
  judgement_is : (m n : ℕ) → FirstIs (HasTrue a) φ.clauses m → FirstIs (IsRight φ a) φ.atoms n → Judged φ a (judgement_of m n)
  judgement_is zero zero x y = record { full = f; clause = x; atom = y }
  judgement_is zero (suc n) x y = (x, y)
  judgement_is (suc m) n x y = x

  pub judge_is : Judged φ a (judge φ a)
  unfolding judge
  judge_is =
      judgement_is (first_not (has_true? a) φ.clauses) (first_not (is_right? φ a) φ.atoms)
      (first_not_is (HasTrue a) (has_true? a) φ.clauses (λ C m. ((λ t. any_some (true_in a) C t), (λ q. some_any (true_in a) C q.0 q.1 q.2))))
      (first_not_is (IsRight φ a) (is_right? φ a) φ.atoms
      (λ A m. beq_iff (true_in a (on A.variable)) (is_true? φ.nodes φ.edges (under (true_in a)) A)
      (true_in_lem φ ok (under (true_in a)) A (ok.atom A m).from_in)))
