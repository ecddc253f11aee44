-- A set of atoms: which are asked, what is settled of them, and their literals given one behind the other.
-- Assumes nothing.
use mathlib.Core.Path.{◌≡◌, sym, subst}
use mathlib.Core.Logic.{◌⊎◌, inl, inr, ⊎_elim}
use mathlib.Core.Bool.{Bool, true, false}
use mathlib.Core.List.{List}
use Prim.Native.Nat.{ℕ, ◌-◌, ◌^◌, ◌<◌}
use lib.Bits.{bit_and}
use lib.ListN.{length}
use lib.IntN.{ℤ}
use lib.Dec.{T}
use Rattle.plan.specs.Meaning.{PlanFile, IsTrue, literal_of, true_in, atom, graph_of}
use Rattle.plan.specs.Closing.{settling, Settles}
use Rattle.plan.specs.Tables.{edges_of, atoms_of}
use Rattle.std.specs.Prelude.{Result, Ok}
use Rattle.plan.specs.declared.Edge as struct-of-edge
use Rattle.plan.specs.declared.Atom as struct-of-atom
use Rattle.plan.specs.declared.Kind.{Kind}
use Rattle.plan.specs.declared.Side.{Side}
use Rattle.plan.proofs.Bools.{T?}
use Rattle.walk.specs.Walking.{bit, Those}
use Rattle.walk.proofs.Sets.{bit_empty, bit_without, Taken}
use Rattle.unit.specs.Onward.{Onward}
use Rattle.unit.specs.declared.Clash.{Clash}
use Rattle.closing.specs.Closed.{Looks}
use Rattle.closing.specs.Atoms.{HasTables, Unsaid, In, Outside, Gets, Heard, Looked, AllGiven}
use Rattle.closing.specs.declared.Step.{Step}
use Rattle.closing.proofs.Looking.{behind, listed, looks_gets, looks_then, looks_so}

-- the literal of the atom numbered j for a verdict is there
abbrev Said : List struct-of-atom.Atom → Bool → List ℤ → ℕ → Type 0
Said bs b a j = T (true_in a (literal_of b (atom (atoms_of bs) j).variable))

-- ---- the literals of a set, if the first assignment settles all of them: those of the atoms that are not left in `rest` are there

abbrev pub GivenTo : List struct-of-edge.Edge → List struct-of-atom.Atom → ℕ → ℕ → Bool → List ℤ → List ℤ → Result Step Clash → Type 0
GivenTo es bs set rest b v₀ v r = (φ : PlanFile) → HasTables es bs v₀ φ → ((j : ℕ) → In set j → Settles φ (true_in v₀) (atom (atoms_of bs) j) b)
    → Looks φ ((j : ℕ) → In set j → Outside rest j → Said bs b v j) v₀ v r

module _ {es : List struct-of-edge.Edge} {bs : List struct-of-atom.Atom} (set : ℕ) (b : Bool) where
  -- one atom more is taken out
  pub given_one : (k rest rest' : ℕ) (v₀ v w : List ℤ) (a : Step) (r : Result Step Clash) → k < length bs → In set k → Taken rest k rest'
      → Gets (literal_of b (atom (atoms_of bs) k).variable) v w r → GivenTo es bs set rest b v₀ v (Ok a) → GivenTo es bs set rest' b v₀ w (behind a r)
  given_one k rest rest' v₀ v w a r h i t g x φ f s =
      let y = x φ f s in
      looks_then φ ((j : ℕ) → In set j → Outside rest' j → Said bs b w j) v₀ v w f.shape a r y
      (looks_gets φ f.ranged (atom (atoms_of bs) k) (listed k h f) b v₀ v w y.onward.shape y.onward.above (s k i) r g)
      (λ o old new j m n. pick o old new j m n (T? (bit j rest)))
    where
      pick : Onward φ v w → ((j : ℕ) → In set j → Outside rest j → Said bs b v j) → Heard φ b v₀ w (atom (atoms_of bs) k)
          → (j : ℕ) → In set j → Outside rest' j → In rest j ⊎ Outside rest j → Said bs b w j
      pick o old new j m n (inl q) = ⊎_elim (λ e. subst (λ (y : ℕ). Said bs b w y) (sym e) (new (s k i))) (λ q. absurd (n q)) (t.other j q)
      pick o old new j m n (inr q) = o.above _ (old j m q)

  pub given_all : (rest : ℕ) (v w : List ℤ) (r : Result Step Clash) → rest ≡ 0 → GivenTo es bs set rest b v w r → AllGiven es bs set b v w r
  given_all rest v w r e x φ f s = looks_so φ v w r (λ h j i. h j i (λ t. bit_empty j (subst (λ (y : ℕ). T (bit j y)) e t))) (x φ f s)

-- ---- the atoms that count lengths

-- by those that are true: which are settled as asked
abbrev pub told_of : Bool → ℕ → ℕ → ℕ
told_of true asked truths = truths
told_of false asked truths = bit_and asked (2 ^ 64 - 1 - truths)

module _ (bs : List struct-of-atom.Atom) (v : List ℤ) (asked truths : ℕ) (small : asked < 2 ^ 64) (fits : truths < 2 ^ 64) where
  settled_told : (b : Bool) (φ : PlanFile) → Those (λ k. IsTrue φ.edges (graph_of (settling (atom (atoms_of bs) k).kind b) (true_in v)) (atom (atoms_of bs) k)) asked truths
      → Those (λ k. Settles φ (true_in v) (atom (atoms_of bs) k) b) asked (told_of b asked truths)
  settled_told true φ x = x
  settled_told false φ x = λ k.
      let q = bit_without k asked truths small fits in
      ((λ t. ((q.0 t).0, λ y. (q.0 t).1 ((x k).1 ((q.0 t).0, y)))), (λ t. q.1 (t.0, λ u. t.1 ((x k).0 u).1)))

  pub told_settled : (es : List struct-of-edge.Edge) (b : Bool) (side : Side) → ((kind : Kind) → side ≡ settling kind b) → Those (λ k. IsTrue (edges_of es) (graph_of side (true_in v)) (atom (atoms_of bs) k)) asked truths
      → (φ : PlanFile) → HasTables es bs v φ → Those (λ k. Settles φ (true_in v) (atom (atoms_of bs) k) b) asked (told_of b asked truths)
  told_settled es b side e x φ f = settled_told b φ (λ k. rw (f.edges, ← e (atom (atoms_of bs) k).kind) (x k))

-- of a set of atoms those are asked whose literal is not there, and those of them that are settled give theirs
pub looks_given : {es : List struct-of-edge.Edge} {bs : List struct-of-atom.Atom} (b : Bool) (v w : List ℤ) (r : Result Step Clash) (set asked told : ℕ) → Those (Unsaid bs b v) set asked
    → ((φ : PlanFile) → HasTables es bs v φ → Those (λ k. Settles φ (true_in v) (atom (atoms_of bs) k) b) asked told)
    → AllGiven es bs told b v w r → Looked (In set) es bs b v w r
looks_given {es} {bs} b v w r set asked told x y g φ f =
    let z = g φ f (λ j t. ((y φ f j).0 t).1) in
    looks_so φ v w r
    (λ h j l i. subst (λ As. Heard φ b v w (atom As j)) (sym f.atoms) (heard z.onward h j i (T? (true_in v (literal_of b (atom (atoms_of bs) j).variable)))))
    z
  where
    heard : Onward φ v w → ((j : ℕ) → In told j → Said bs b w j) → (j : ℕ) → In set j → Said bs b v j ⊎ Unsaid bs b v j → Heard φ b v w (atom (atoms_of bs) j)
    heard o h j i (inl t) s = o.above _ t
    heard o h j i (inr n) s = h j ((y φ f j).1 ((x j).1 (i, n), s))
