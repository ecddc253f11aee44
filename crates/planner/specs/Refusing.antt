-- What a call refuses. Document 01, "Numbers given on refusal".
-- Assumes nothing.
use Rattle.std.specs.Prelude.{◌≡◌, Bool, true, false, ◌&&◌, ◌||◌, List, ℕ, zero, suc, ◌+◌, ℤ, pos, negsuc, eqb, leb, length}
use Rattle.plan.specs.Meaning.{PlanFile, is_on, is_off}
use Rattle.plan.specs.Buffers.{Kept}
use Rattle.plan.specs.Places.{first_not}
use Rattle.plan.specs.Written.{first_unwritten}
use Rattle.plan.specs.Refusals.{number_of, value_of}
use Rattle.plan.specs.declared.refusal.Refusal.{Refusal}
use Rattle.reader.specs.Format.{Reading, refused, accepted}

-- What a call meets: a refusal with its number and value, or a file that is accepted and nothing in the way.
pub data Met : Type 0 where
  refusal : ℕ → ℕ → Met
  clear : PlanFile → Met

-- Goes on if the test holds, else refuses with that number and value. "The first met is returned."
abbrev pub require : Bool → ℕ → ℕ → Met → Met
require true n v m = m
require false n v m = refusal n v

-- "Order: 1; then record by record ..; then 9 to 12."
unfoldable pub after_reading : Reading → (PlanFile → Met) → Met
after_reading (refused n v) checks = refusal n v
after_reading (accepted φ) checks = checks φ

-- "9: assignment or result length is not the variable count; that count"
abbrev pub require_length : PlanFile → List ℤ → Met → Met
require_length φ a m = require (eqb (length a) φ.variables) 9 φ.variables m

-- "10: a value not in -1, 0, 1; when judging, also 0": what is taken otherwise, and when judging
abbrev pub is_set : ℤ → Bool
is_set x = is_on x || is_off x

abbrev pub is_open : ℤ → Bool
is_open (pos zero) = true
is_open (pos (suc n)) = false
is_open (negsuc n) = false

abbrev pub is_value : ℤ → Bool
is_value x = is_set x || is_open x

-- the values that are taken, with 0 or without
abbrev pub taken : Bool → ℤ → Bool
taken true = is_value
taken false = is_set

-- "the first such place, from 0"
abbrev pub require_values : (ℤ → Bool) → List ℤ → Met → Met
require_values ok a m = require (eqb (first_not ok a) (length a)) 10 (first_not ok a) m

-- "11: atom number 0 or too large; atom count"
abbrev pub require_atom : PlanFile → ℕ → Met → Met
require_atom φ k m = require (leb 1 k && leb k (length φ.atoms)) 11 (length φ.atoms) m

-- "13, kind 3 present when clauses are written out, after 11 and before 12, with the first such atom's number" (02, C-13)
abbrev pub require_blocks : PlanFile → Met → Met
require_blocks φ m = require (eqb (first_unwritten φ.atoms) (length φ.atoms)) 13 (first_unwritten φ.atoms + 1) m

-- The code's refusal is the one with this number and this value.
pub record Names (n v : ℕ) (y : Refusal) : Type 0 where
  pub number : n ≡ number_of y
  pub value : v ≡ value_of y

-- The answer r is the refusal with this number and this value.
pub record Refuses {A : Type 0} (refuse : Refusal → A) (n v : ℕ) (r : A) : Type 0 where
  pub why : Refusal
  pub names : Names n v why
  pub is : r ≡ refuse why

-- A call's statement goes by what the call meets: R at a refusal, and C at a file with nothing in the way.
abbrev pub Case : (ℕ → ℕ → Type 0) → (PlanFile → Type 0) → Met → Type 0
Case R C (refusal n v) = R n v
Case R C (clear φ) = C φ

pub record By (m : Met) (R : ℕ → ℕ → Type 0) (C : PlanFile → Type 0) : Type 0 where
  pub case : Case R C m

-- "Every buffer then keeps its bytes": a call with a lent buffer, before and after.
abbrev pub KeepingBy : {A B : Type 0} → Met → (Refusal → A) → (PlanFile → Type 0) → List B → List B → A → Type 0
KeepingBy m refuse C before after r = By m (λ n v. Refuses refuse n v r × Kept before after) C
