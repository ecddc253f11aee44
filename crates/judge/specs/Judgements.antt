-- The answer of judging as the document's judgement, and what the inner functions promise one another.
-- Assumes nothing.
use Rattle.std.specs.Prelude.{◌≡◌, ◌↔◌, Bool, ℕ, ◌≤◌, ◌<◌, ℤ, T, Option, None, Some}
use mathlib.Core.List.{List, Memᴰ}
use Rattle.plan.specs.Meaning.{Edge, Atom, IsTrue, on, true_in, under}
use Rattle.plan.specs.Judging.{FirstWithout, plan, no_true, wrong}
use Rattle.plan.specs.Judging as judging
use Rattle.walk.specs.declared.distances.Distances.{Distances}
use Rattle.walk.specs.Walking.{bit, Truth}
use Rattle.judge.specs.declared.Judgement.{Judgement}
use Rattle.judge.specs.declared.Judgement.TheVariants.{Plan, Clause, Atom as WrongAtom}

-- The document's judgement for each case of the code's answer.
abbrev pub judgement_of : Judgement → judging.Judgement
judgement_of Plan = plan
judgement_of (Clause n) = no_true n
judgement_of (WrongAtom n) = wrong n

-- The first element without the property P, or that each has it.
abbrev pub FirstIs : {A : Type 0} → (A → Type 0) → List A → Option ℕ → Type 0
FirstIs {A} P xs None = (x : A) → Memᴰ x xs → P x
FirstIs P xs (Some n) = FirstWithout P xs n

-- The atom's variable equals its truth over these edges.
abbrev pub RightIn : List Edge → List ℤ → Atom → Type 0
RightIn es a A = T (true_in a (on A.variable)) ↔ IsTrue es (under (true_in a)) A

-- The same, told from the atom's truth.
abbrev pub RightBy : List ℤ → Atom → Bool → Bool → Type 0
RightBy a A truth r = (es : List Edge) → T truth ↔ IsTrue es (under (true_in a)) A → T r ↔ RightIn es a A

-- An atom's truth: of one that counts lengths, whether it is in the set of those that are true; of another, by the distances from its source.
pub record TruthOf (A : Atom) (number lengths long : ℕ) (d : Distances) (r : Bool) : Type 0 where
  pub by_length : T (bit number lengths) → r ≡ bit number long
  pub by_hops : (T (bit number lengths) → ⊥) → Truth A d r

-- Atoms between nodes below 64, over so many variables.
abbrev pub AtomsFit : ℕ → List Atom → Type 0
AtomsFit variables As = (A : Atom) → Memᴰ A As → (A.from < 64) × (A.to < 64) × (1 ≤ A.variable) × (A.variable ≤ variables)
