-- What a plan file means: edges, hops, atoms, literals, plans. Document 01, "Plan file" and "Meaning".
-- Assumes nothing.
use Rattle.std.specs.Prelude.{◌≡◌, ◌↔◌, ◌⊎◌, Bool, true, false, not, cond, ℕ, zero, suc, ◌+◌, ◌≤◌, ◌<◌, length, get_or, set, ℤ, pos, negsuc, neg_ℤ, T, eqb}
use mathlib.Core.List.{List, Memᴰ}
use Rattle.plan.specs.declared.Kind.{Kind}
use Rattle.plan.specs.declared.Kind.TheVariants.{Reaches, Within, LengthAtMost}
use Rattle.plan.specs.declared.Measure.{Measure}
use Rattle.plan.specs.declared.Measure.TheVariants.{Hops, Lengths}
use Rattle.plan.specs.declared.Side.{Side}
use Rattle.plan.specs.declared.Side.TheVariants.{Under, Over}

-- "2 edge: from, to, variable"; "Give every edge a length: new tag 6 is an edge with a fourth field, 1 to 65,535, and tag 2 means length 1." (02, C-13)
pub record Edge : Type 0 where
  pub from : ℕ
  pub to : ℕ
  pub length : ℕ
  pub variable : ℕ

-- "3 atom: kind, from, to, bound, variable"
pub record Atom : Type 0 where
  pub kind : Kind
  pub from : ℕ
  pub to : ℕ
  pub bound : ℕ
  pub variable : ℕ

-- "Kind 1 is 'reaches' .. Kind 2 is 'within'"; "New atom kind 3, 'length at most'" (02, C-13): a kind's number, and the kind of a number, which is one
-- of these in an accepted file.
abbrev pub number_of_kind : Kind → ℕ
number_of_kind Reaches = 1
number_of_kind Within = 2
number_of_kind LengthAtMost = 3

abbrev pub kind_of : ℕ → Kind
kind_of n = cond (eqb n 1) Reaches (cond (eqb n 2) Within LengthAtMost)

-- What a plan file says: the head's two numbers, and the edges, atoms and clauses in file order, each sort by itself.
pub record PlanFile : Type 0 where
  pub nodes : ℕ
  pub variables : ℕ
  pub edges : List Edge
  pub atoms : List Atom
  pub clauses : List (List ℤ)

-- What stands for an edge that a list does not have.
abbrev pub no_edge : Edge
no_edge = record { from = 0; to = 0; length = 0; variable = 0 }

-- The edge numbered k, counted from 0 here; the document counts from 1.
abbrev pub edge : List Edge → ℕ → Edge
edge es k = get_or es k no_edge

-- The atom numbered k, counted from 0 here.
abbrev pub no_atom : Atom
no_atom = record { kind = Reaches; from = 0; to = 0; bound = 0; variable = 0 }

abbrev pub atom : List Atom → ℕ → Atom
atom As k = get_or As k no_atom

-- A graph has some of the edges.
abbrev pub Graph : Type 0
Graph = Edge → Bool

-- An edge of the graph leads from u to w.
pub record Leads (es : List Edge) (g : Graph) (u w : ℕ) : Type 0 where
  pub number : ℕ
  pub listed : number < length es
  pub present : T (g (edge es number))
  pub starts : (edge es number).from ≡ u
  pub ends : (edge es number).to ≡ w

-- What an edge adds to a walk that takes it.
abbrev pub Cost : Type 0
Cost = Edge → ℕ

-- A walk from s over edges of the graph: where it ends, and what its edges cost in all.
pub data Walk (c : Cost) (es : List Edge) (g : Graph) (s : ℕ) : ℕ → ℕ → Type 0 where
  stay : Walk c es g s s zero
  hop : {u w j k : ℕ} → Walk c es g s u j → (d : Leads es g u w) → k ≡ j + c (edge es d.number) → Walk c es g s w k

-- The distance from s to t is what the cheapest walk costs. That it is k is a statement, and where there is no path no k fits it.
pub record Distance (c : Cost) (es : List Edge) (g : Graph) (s t k : ℕ) : Type 0 where
  pub walk : Walk c es g s t k
  pub fewest : (j : ℕ) → Walk c es g s t j → k ≤ j

-- "Hops from s to t: the fewest on-edges that lead from s to t; 0 if s = t; none if there is no path.": the distance where each edge costs 1.
-- "over the smallest sum of lengths" (02, C-13): the distance where each edge costs its length.
abbrev pub one_hop : Cost
one_hop e = 1

abbrev pub own_length : Cost
own_length e = e.length

abbrev pub cost_by : Measure → Cost
cost_by Hops = one_hop
cost_by Lengths = own_length

-- What a kind counts.
abbrev pub measure_of : Kind → Measure
measure_of Reaches = Hops
measure_of Within = Hops
measure_of LengthAtMost = Lengths

abbrev pub cost_of : Kind → Cost
cost_of kind = cost_by (measure_of kind)

-- "'Reaches' is true if there is a hop count, 'within d' if there is one and it is at most d."; 'length at most' d alike: what is asked of the
-- distance k.
abbrev pub Allows : Kind → ℕ → ℕ → Type 0
Allows Reaches d k = T true
Allows Within d k = k ≤ d
Allows LengthAtMost d k = k ≤ d

-- The atom is true in the graph. "No path makes 'within d' false for every d."
abbrev pub IsTrue : List Edge → Graph → Atom → Type 0
IsTrue es g A = (k : ℕ) × Distance (cost_of A.kind) es g A.from A.to k × Allows A.kind A.bound k

-- "A literal is a variable's number, negative for off": the two literals of a variable. A literal's opposite is its negation.
abbrev pub on : ℕ → ℤ
on v = pos v

abbrev pub off : ℕ → ℤ
off v = neg_ℤ (pos v)

abbrev pub literal_of : Bool → ℕ → ℤ
literal_of true v = on v
literal_of false v = off v

-- "Assignments are lent as signed bytes, one for each variable: 1 on, -1 off, 0 open." A variable's value; its place is its number less 1.
unfoldable pub value : List ℤ → ℕ → ℤ
value a zero = pos 0
value a (suc i) = get_or a i (pos 0)

abbrev pub is_on : ℤ → Bool
is_on (pos zero) = false
is_on (pos (suc zero)) = true
is_on (pos (suc (suc n))) = false
is_on (negsuc n) = false

abbrev pub is_off : ℤ → Bool
is_off (pos n) = false
is_off (negsuc zero) = true
is_off (negsuc (suc n)) = false

-- A set of literals.
abbrev pub Literals : Type 0
Literals = ℤ → Bool

infix 4 ◌⊆◌
abbrev pub ◌⊆◌ : Literals → Literals → Type 0
S ⊆ R = (l : ℤ) → T (S l) → T (R l)

-- The literals that are true in an assignment. An assignment's set of literals is this function of it.
unfoldable pub true_in : List ℤ → Literals
true_in a (pos v) = is_on (value a v)
true_in a (negsuc i) = is_off (value a (suc i))

-- "adding one literal to an assignment hands back the new assignment"
unfoldable pub add : List ℤ → ℤ → List ℤ
add a (pos zero) = a
add a (pos (suc i)) = set a i (pos 1)
add a (negsuc i) = set a i (negsuc 0)

-- "The under graph has the edges that are on; the over graph those that are not off."
abbrev pub under : Literals → Graph
under S e = S (on e.variable)

abbrev pub over : Literals → Graph
over S e = not (S (off e.variable))

abbrev pub graph_of : Side → Literals → Graph
graph_of Under S = under S
graph_of Over S = over S

-- "an assignment of all variables": each is on or off.
pub record Full (variables : ℕ) (a : List ℤ) : Type 0 where
  pub long : length a ≡ variables
  pub each : (i : ℕ) → i < variables → (get_or a i (pos 0) ≡ pos 1) ⊎ (get_or a i (pos 0) ≡ negsuc 0)

-- "every clause has a true literal"
abbrev pub HasTrue : List ℤ → List ℤ → Type 0
HasTrue a C = (l : ℤ) × Memᴰ l C × T (true_in a l)

-- "every atom's variable equals the atom's truth"
abbrev pub IsRight : PlanFile → List ℤ → Atom → Type 0
IsRight φ a A = T (true_in a (on A.variable)) ↔ IsTrue φ.edges (under (true_in a)) A

-- "A plan is an assignment of all variables in which every clause has a true literal and every atom's variable equals the atom's truth."
pub record IsPlan (φ : PlanFile) (a : List ℤ) : Type 0 where
  pub full : Full φ.variables a
  pub clause : (C : List ℤ) → Memᴰ C φ.clauses → HasTrue a C
  pub atom : (A : Atom) → Memᴰ A φ.atoms → IsRight φ a A
