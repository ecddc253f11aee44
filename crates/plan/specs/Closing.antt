-- Closing a set of literals. Document 01, "Meaning", the paragraph on the under and over graphs.
-- Assumes nothing.
use Rattle.std.specs.Prelude.{◌≢◌, Bool, true, false, ℕ, ℤ, neg_ℤ, T}
use mathlib.Core.List.{List, Memᴰ}
use Rattle.plan.specs.Meaning.{Atom, PlanFile, IsTrue, on, off, literal_of, Literals, ◌⊆◌, graph_of}
use Rattle.plan.specs.declared.Kind.{Kind}
use Rattle.plan.specs.declared.Side.{Side}
use Rattle.plan.specs.declared.Side.TheVariants.{Under, Over}
use Rattle.plan.specs.declared.State.{State}
use Rattle.plan.specs.declared.State.TheVariants.{Holds, Fails, Open}

-- Which graph settles that an atom holds (true), and which that it fails (false): the one in which the verdict stays when more literals are
-- known. More edges keep an atom of kind 1 or 2 true, so it holds by the under graph, which only gains edges, and fails by the over graph,
-- which only loses them.
abbrev pub settling : Kind → Bool → Side
settling kind true = Under
settling kind false = Over

-- What a set of literals settles of an atom. "'Holds' (true in the under graph), 'fails' (false in the over graph)".
abbrev pub Settles : PlanFile → Literals → Atom → Bool → Type 0
Settles φ S A true = IsTrue φ.edges (graph_of (settling A.kind true) S) A
Settles φ S A false = IsTrue φ.edges (graph_of (settling A.kind false) S) A → ⊥

-- "or 'open'": what each case of the code's answer says.
abbrev pub Settled : PlanFile → Literals → Atom → State → Type 0
Settled φ S A Holds = Settles φ S A true
Settled φ S A Fails = Settles φ S A false
Settled φ S A Open = (b : Bool) → Settles φ S A b → ⊥

-- The rules: what a set of literals gives.
pub data Gives (φ : PlanFile) (S : Literals) : ℤ → Type 0 where
  -- "a clause whose literals are all false but one, a repeated literal counted once, gives that one"
  unit : (C : List ℤ) → Memᴰ C φ.clauses → (l : ℤ) → Memᴰ l C
      → ((m : ℤ) → Memᴰ m C → m ≢ l → T (S (neg_ℤ m))) → Gives φ S l
  -- "an atom true in the under graph gives its variable on, one false in the over graph gives it off"
  settled : (A : Atom) → Memᴰ A φ.atoms → (b : Bool) → Settles φ S A b → Gives φ S (literal_of b A.variable)

-- A set obeys if it has what it gives.
abbrev pub Obeys : PlanFile → Literals → Type 0
Obeys φ S = (l : ℤ) → Gives φ S l → T (S l)

-- "A variable with both signs is a clash", "a clause with all false is a clash".
pub data Clash (φ : PlanFile) (S : Literals) : Type 0 where
  both : (v : ℕ) → T (S (on v)) → T (S (off v)) → Clash φ S
  all_false : (C : List ℤ) → Memᴰ C φ.clauses → ((l : ℤ) → Memᴰ l C → T (S (neg_ℤ l))) → Clash φ S

-- "Closing is the smallest set of literals that contains the given ones and obeys": G closes to S.
pub record Closing (φ : PlanFile) (G S : Literals) : Type 0 where
  pub given : G ⊆ S
  pub obeys : Obeys φ S
  pub least : (R : Literals) → G ⊆ R → Obeys φ R → S ⊆ R

-- Closing G gives S, without a clash.
pub record Closed (φ : PlanFile) (G S : Literals) : Type 0 where
  pub closing : Closing φ G S
  pub free : Clash φ S → ⊥

-- Closing G gives a clash: so does every set that contains G and obeys.
abbrev pub Clashes : PlanFile → Literals → Type 0
Clashes φ G = (R : Literals) → G ⊆ R → Obeys φ R → Clash φ R
