-- From what the code tests to what a call meets, and from what it meets to its statement: once for all calls.
-- Assumes nothing.
use mathlib.Core.Path.{◌≡◌, refl, sym, ap, ◌∙◌, subst}
use mathlib.Core.Bool.{Bool, true, false, cond, not, false≢true, ◌&&◌}
use mathlib.Core.Logic.{◌⊎◌, inl, inr}
use mathlib.Core.List.{List, [], ◌∷◌}
use Prim.Native.Nat.{ℕ, zero, suc, ◌+◌, ◌≤◌, ◌<◌}
use native.Mathlib.Omega.{arith}
use lib.IntN.{ℤ, pos, negsuc}
use lib.Dec.{eqb, leb, ltb}
use borrow.Author.Tests.{eq-eqb, ne_eqb, eqb-true, le-leb, lt-leb, ltb-true, ltb-false}
use lib.ListN.{length, get_or}
use Rattle.std.specs.Prelude.{Result, Ok, Err, Some, None}
use Rattle.std.specs.Result.{IsErrAnd}
use Rattle.std.proofs.lemmas.Result.{err_from_is_err_and}
use Rattle.std.specs.List.{position, position_or_len}
use Rattle.std.proofs.lemmas.List.Recursion.{is_position_or_len}
use Rattle.plan.specs.Buffers.{Kept}
use Rattle.plan.specs.Meaning.{PlanFile, Full}
use Rattle.plan.specs.Places.{first_not}
use Rattle.plan.specs.Search.{Assigned}
use Rattle.plan.specs.Written.{has_block, AllHaveBlocks, first_unwritten}
use Rattle.plan.proofs.Places.{all_pass, first_le}
use Rattle.plan.specs.Refusals.{number_of, value_of}
use Rattle.plan.specs.File.{file_of}
use Rattle.plan.specs.declared.refusal.Refusal.{Refusal}
use Rattle.plan.specs.declared.tables.Tables.{Tables}
use Rattle.reader.specs.Format.{Reading, refused, accepted, read_plan}
use Rattle.reader.specs.Reads.{Reads}
use Rattle.planner.specs.Refusing.{Met, refusal, clear, Case, By, KeepingBy, Refuses, require, after_reading, require_values, require_atom, require_blocks, is_set, is_value}

-- a statement holds if its case does at what is met
pub meets : {m n : Met} {R : ℕ → ℕ → Type 0} {C : PlanFile → Type 0} → m ≡ n → Case R C n → By m R C
meets {R = R} {C = C} e h = record { case = subst (Case R C) (sym e) h }

pub met : {m n : Met} {R : ℕ → ℕ → Type 0} {C : PlanFile → Type 0} → m ≡ n → By m R C → Case R C n
met {R = R} {C = C} e b = subst (Case R C) e b.case

-- the refusal that a call hands on is the one that is met
module _ {A : Type 0} (y : Refusal) {r : Result A Refusal} (h : IsErrAnd r (λ e. e ≡ y)) where
  names : Refuses {A = Result A Refusal} Err (number_of y) (value_of y) r
  names = let p = err_from_is_err_and r h in record { why = y; names = record { number = refl; value = refl }; is = p.1 ∙ ap Err p.2 }

  pub stops : {m : Met} {C : PlanFile → Type 0} → m ≡ refusal (number_of y) (value_of y) → By m (λ n v. Refuses Err n v r) C
  stops e = meets e names

  pub stops_keeping : {m : Met} {C : PlanFile → Type 0} {B : Type 0} {before after : List B} → Kept before after → m ≡ refusal (number_of y) (value_of y) → KeepingBy m Err C before after r
  stops_keeping kept e = meets e (names, kept)

module _ (file : List ℕ) (checks : PlanFile → Met) where
  -- an accepted file is met by the checks
  pub checked : {φ : PlanFile} → read_plan file ≡ accepted φ → after_reading (read_plan file) checks ≡ checks φ
  unfolding after_reading
  checked e = ap (λ (q : Reading). after_reading q checks) e

  pub accepts : (t : Tables) → Reads (read_plan file) (Ok t) → after_reading (read_plan file) checks ≡ checks (file_of t)
  unfolding after_reading
  accepts t = go (read_plan file)
    where
      go : (q : Reading) → Reads q (Ok t) → after_reading q checks ≡ checks (file_of t)
      go (refused n v) h = absurd h
      go (accepted φ) h = ap checks (sym h)

  -- the reader's refusal is the call's
  pub refuses : (y : Refusal) → Reads (read_plan file) (Err y) → after_reading (read_plan file) checks ≡ refusal (number_of y) (value_of y)
  unfolding after_reading
  refuses y = go (read_plan file)
    where
      go : (q : Reading) → Reads q (Err y) → after_reading q checks ≡ refusal (number_of y) (value_of y)
      go (refused n v) h = ap (λ (x : ℕ). refusal x v) h.0 ∙ ap (refusal (number_of y)) h.1
      go (accepted φ) h = absurd h

-- the first place whose value is not taken, as the code looks for it
module _ (ok : ℤ → Bool) (a : List ℤ) where
  at : first_not ok a ≡ position_or_len (λ x. not (ok x)) a
  unfolding first_not
  at = is_position_or_len (first_not ok) (λ x. not (ok x)) refl (λ x xs. step (ok x) (first_not ok xs)) a
    where
      step : (b : Bool) (n : ℕ) → cond b (suc n) zero ≡ cond (not b) 0 (1 + n)
      step true n = omega arith
      step false n = refl

  pub place_some : {k : ℕ} → position (λ x. not (ok x)) a ≡ Some k → (first_not ok a ≡ k) × (k < length a)
  place_some {k} e = go (ltb (position_or_len (λ x. not (ok x)) a) (length a)) refl e
    where
      go : (b : Bool) → ltb (position_or_len (λ x. not (ok x)) a) (length a) ≡ b → cond b (Some (position_or_len (λ x. not (ok x)) a)) None ≡ Some k → (first_not ok a ≡ k) × (k < length a)
      go true t h = let q : position_or_len (λ x. not (ok x)) a ≡ k = cc in (at ∙ q, subst (λ n. n < length a) q (ltb-true _ _ t))
      go false t h = cc

  pub place_none : position (λ x. not (ok x)) a ≡ None → first_not ok a ≡ length a
  place_none e = go (ltb (position_or_len (λ x. not (ok x)) a) (length a)) refl e
    where
      go : (b : Bool) → ltb (position_or_len (λ x. not (ok x)) a) (length a) ≡ b → cond b (Some (position_or_len (λ x. not (ok x)) a)) None ≡ None → first_not ok a ≡ length a
      go true t h = cc
      go false t h = omega (arith, at, ltb-false _ _ t, first_le ok a)

-- the two ways of a check of the values, and of the atom's number
module _ (ok : ℤ → Bool) (a : List ℤ) (m : Met) where
  pub values_fail : {k : ℕ} → first_not ok a ≡ k → k < length a → require_values ok a m ≡ refusal 10 k
  values_fail is h = ap (λ (b : Bool). require b 10 (first_not ok a) m) (ne_eqb (first_not ok a) (length a) (λ e. absurd (omega (arith, is, e, h)))) ∙ ap (refusal 10) is

  pub values_hold : first_not ok a ≡ length a → require_values ok a m ≡ m
  values_hold h = ap (λ (b : Bool). require b 10 (first_not ok a) m) (eq-eqb (first_not ok a) (length a) h)

module _ (φ : PlanFile) (k : ℕ) (m : Met) {n : ℕ} (is : length φ.atoms ≡ n) where
  abbrev tests : Bool → Met
  tests b = require b 11 (length φ.atoms) m

  pub atom_zero : k ≡ 0 → require_atom φ k m ≡ refusal 11 n
  atom_zero h = ap (λ (x : ℕ). tests (leb 1 x && leb x (length φ.atoms))) h ∙ ap (refusal 11) is

  pub atom_beyond : n < k → require_atom φ k m ≡ refusal 11 n
  atom_beyond h =
      ap (λ (x : Bool). tests (x && leb k (length φ.atoms))) (le-leb 1 k (omega arith)) ∙ ap tests (lt-leb k (length φ.atoms) (omega (arith, is))) ∙ ap (refusal 11) is

  pub atom_holds : 1 ≤ k → k ≤ n → require_atom φ k m ≡ m
  atom_holds l h = ap (λ (x : Bool). tests (x && leb k (length φ.atoms))) (le-leb 1 k l) ∙ ap tests (le-leb k (length φ.atoms) (omega (arith, is)))

-- an answer is no refusal
pub never : {A : Type 0} {n v : ℕ} {a : A} → Refuses Err n v (Ok a) → ⊥
never h = let e = h.is in let z : ◌≡◌ {A = ℕ} 0 1 = cc in omega arith

-- where a call answers, it passed its checks
pub passed : {A B : Type 0} {a : A} {before after : List B} {C : PlanFile → Type 0} (b : Bool) (n v : ℕ) (m : Met) → KeepingBy (require b n v m) Err C before after (Ok a)
    → (b ≡ true) × KeepingBy m Err C before after (Ok a)
passed true n v m h = (refl, h)
passed false n v m h = absurd (never h.case.0)

-- where no refusal fits the answer, every atom has a block, and the other checks go on
pub blocks_met : (φ : PlanFile) (m : Met) (R : ℕ → ℕ → Type 0) (C : PlanFile → Type 0) → ((n v : ℕ) → R n v → ⊥) → Case R C (require_blocks φ m) → AllHaveBlocks φ.atoms × Case R C m
blocks_met φ m R C never h = go (eqb (first_unwritten φ.atoms) (length φ.atoms)) refl h
  where
    go : (b : Bool) → eqb (first_unwritten φ.atoms) (length φ.atoms) ≡ b → Case R C (require b 13 (first_unwritten φ.atoms + 1) m) → AllHaveBlocks φ.atoms × Case R C m
    go true e k = (all_pass (λ A. has_block A.kind) φ.atoms (eqb-true (first_unwritten φ.atoms) (length φ.atoms) e), k)
    go false e k = absurd (never 13 (first_unwritten φ.atoms + 1) k)

-- so where a call writes the blocks every atom has one, and there was room
pub wrote_clear : {A B : Type 0} {a : A} {before after : List B} {C : PlanFile → Type 0} (φ : PlanFile) (room : Bool) (n : ℕ)
    → KeepingBy (require_blocks φ (require room 12 n (clear φ))) Err C before after (Ok a) → AllHaveBlocks φ.atoms × C φ
wrote_clear {C = C} φ room n h =
    let p = blocks_met φ (require room 12 n (clear φ)) _ C (λ k w x. never x.0) h.case in
    (p.0, (passed room 12 n (clear φ) (record { case = p.1 })).1.case)

-- a buffer's room
module _ (m : Met) (n k : ℕ) where
  pub room_fails : k < n → require (leb n k) 12 n m ≡ refusal 12 n
  room_fails h = ap (λ (b : Bool). require b 12 n m) (lt-leb n k h)

  pub room_holds : n ≤ k → require (leb n k) 12 n m ≡ m
  room_holds h = ap (λ (b : Bool). require b 12 n m) (le-leb n k h)

-- values that are all taken
module _ (ok : ℤ → Bool) (P : ℤ → Type 0) (is : (x : ℤ) → ok x ≡ true → P x) where
  all_taken : (a : List ℤ) → first_not ok a ≡ length a → (i : ℕ) → i < length a → P (get_or a i (pos 0))
  unfolding first_not
  all_taken [] e i h = absurd (omega arith)
  all_taken (x ∷ a) e i h = go (ok x) refl e (all_taken a) i h
    where
      go : (b : Bool) → ok x ≡ b → cond b (suc (first_not ok a)) zero ≡ suc (length a)
          → (first_not ok a ≡ length a → (j : ℕ) → j < length a → P (get_or a j (pos 0))) → (j : ℕ) → j < suc (length a) → P (get_or (x ∷ a) j (pos 0))
      go true t q r zero l = is x t
      go true t q r (suc j) l = r (omega arith) j (omega arith)
      go false t q r j l = absurd (omega arith)

is_set_lem : (x : ℤ) → is_set x ≡ true → (x ≡ pos 1) ⊎ (x ≡ negsuc 0)
is_set_lem (pos zero) e = absurd (false≢true e)
is_set_lem (pos (suc zero)) e = inl refl
is_set_lem (pos (suc (suc n))) e = absurd (false≢true e)
is_set_lem (negsuc zero) e = inr refl
is_set_lem (negsuc (suc n)) e = absurd (false≢true e)

is_value_lem : (x : ℤ) → is_value x ≡ true → (x ≡ pos 1) ⊎ (x ≡ negsuc 0) ⊎ (x ≡ pos 0)
is_value_lem (pos zero) e = inr (inr refl)
is_value_lem (pos (suc zero)) e = inl refl
is_value_lem (pos (suc (suc n))) e = absurd (false≢true e)
is_value_lem (negsuc zero) e = inr (inl refl)
is_value_lem (negsuc (suc n)) e = absurd (false≢true e)

pub full_of : {n : ℕ} (a : List ℤ) → length a ≡ n → first_not is_set a ≡ length a → Full n a
full_of a e g = record { long = e; each = λ i h. all_taken is_set _ is_set_lem a g i (omega arith) }

pub assigned_of : {n : ℕ} (a : List ℤ) → length a ≡ n → first_not is_value a ≡ length a → Assigned n a
assigned_of a e g = record { long = e; each = λ i h. all_taken is_value _ is_value_lem a g i (omega arith) }
