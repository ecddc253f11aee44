-- `judge::first_wrong`: atoms are passed in their order as long as each is right; what it should be says the set of those that are true by length, or the
-- walk from the atom's node.
use mathlib.Core.Path.{◌≡◌, refl, sym, subst, ap, ◌∙◌}
use mathlib.Core.Logic.{◌↔◌, ◌⊎◌, inl, inr}
use mathlib.Core.Bool.{Bool}
use mathlib.Core.List.{List, ◌∷◌}
use Prim.Native.Nat.{ℕ, suc, ◌<◌, ◌≤◌}
use native.Mathlib.Numerals.{add-one}
use native.Mathlib.Omega.{arith}
use lib.Dec.{T}
use lib.ListN.{length, drop, drop_of_length-le, get_or}
use lib.Seq.{drop-cons}
use Rattle.plan.specs.Meaning.{Edge, Atom, atom, no_atom, Graph, IsTrue, measure_of, cost_by, one_hop, true_in, under}
use Rattle.plan.specs.Ranged.{EndsFit}
use Rattle.plan.specs.Tables.{edges_of, atoms_of, atom_of}
use Rattle.plan.specs.declared.Measure.TheVariants.{Hops}
use Rattle.plan.specs.declared.tables.Tables.{Tables}
use Rattle.plan.proofs.Bools.{T?}
use Rattle.plan.proofs.ByPlace.{blank_atom, atoms_at, atoms_length, atom_listed}
use Rattle.walk.specs.declared.distances.Distances.{Distances}
use Rattle.walk.specs.Walking.{bit, DistanceTable, Walked}
use Rattle.walk.proofs.Asked.{all_asked, by_hops}
use Rattle.walk.proofs.Lending.{lent_few, lent_inside}
use Rattle.walk.proofs.Truths.{so, not_so}
use Rattle.judge.specs.Judgements.{RightIn, TruthOf}
use Rattle.judge.proofs.Lending.{lent_atoms}
use Rattle.judge.proofs.Passing.{Passed, start, next, passed_none, passed_here}
use Rattle.judge.proofs.first_wrong.Goals as goal
use Rattle.judge.proofs.first_wrong.Goals.{then-not-has, else-not-has, After-is_right}

-- a numbered atom of the table fits
fits : (t : Tables) (number : ℕ) → number < length t.atoms.now → EndsFit 64 t.plan.variables (get_or t.atoms.now number blank_atom).from (get_or t.atoms.now number blank_atom).to (get_or t.atoms.now number blank_atom).variable
fits t number n =
    let f = lent_atoms t.lent t.plan.variables refl (atom_of (get_or t.atoms.now number blank_atom)) (rw (atoms_at t.atoms.now number) (atom_listed t.atoms.now number n)) in
    record { from_in = f.0; to_in = f.1; low = f.2; high = f.3 }

-- its truth: by the set where it counts lengths, and by the distances where it counts hops
truth : (es : List Edge) (g : Graph) (As : List Atom) (number lengths long s : ℕ) (d : Distances) (A : Atom) (t : Bool)
    → A ≡ atom As number
    → ((T (bit number lengths) → ⊥) → measure_of (atom As number).kind ≡ Hops)
    → T (bit number long) ↔ (T (bit number lengths) × IsTrue es g (atom As number))
    → TruthOf A number lengths long d t
    → ((T (bit number lengths) → ⊥) → s ≡ A.from)
    → DistanceTable one_hop es g s d
    → T t ↔ IsTrue es g A
truth es g As number lengths long s d A t its hops q told source table = go (T? (bit number lengths))
  where
    by_set : T (bit number lengths) → T t ↔ IsTrue es g (atom As number)
    by_set b = let e = told.by_length b in ((λ u. (q.0 (subst (λ x. T x) e u)).1), (λ x. subst (λ y. T y) (sym e) (q.1 (b, x))))

    go : T (bit number lengths) ⊎ (T (bit number lengths) → ⊥) → T t ↔ IsTrue es g A
    go (inl b) = subst (λ B. T t ↔ IsTrue es g B) (sym its) (by_set b)
    go (inr n) =
        told.by_hops n es g
        (subst (λ m. DistanceTable (cost_by m) es g A.from d) (sym (ap (λ B. measure_of B.kind) its ∙ hops n))
        (subst (λ (k : ℕ). DistanceTable one_hop es g k d) (source n) table))

pub length_atoms-lengths-requires : goal.length_atoms-lengths-requires
length_atoms-lengths-requires c = let l = c.args.tables.now.lent in omega (arith, lent_few l, l.atoms)

pub true_by_length-long-requires-clause-length_atoms : goal.true_by_length-long-requires-clause-length_atoms
true_by_length-long-requires-clause-length_atoms c =
    let t = c.args.tables.now in
    all_asked _ _ _ (atoms_length t.atoms.now) (λ A m. let f = lent_atoms t.lent t.plan.variables refl A m in (f.0, f.1)) c.length_atoms-lengths.ensures

pub loop-number-init : goal.loop-number-init
loop-number-init c = record { walked = c.walk.ensures; passed = start }

pub walk_on-requires-clause-next_bound : goal.walk_on-requires-clause-next_bound
walk_on-requires-clause-next_bound c = omega (arith, (fits c.args.tables.now c.loop-number.number c.loop-number-test.true).from_in, c.from-from.ensures)

pub truth_of-truth-requires-clause-to_bound : goal.truth_of-truth-requires-clause-to_bound
truth_of-truth-requires-clause-to_bound c = (fits c.args.tables.now c.loop-number.number c.loop-number-test.true).to_in

pub is_right-requires : goal.is_right-requires
is_right-requires c =
    let f = fits c.args.tables.now c.loop-number.number c.loop-number-test.true in
    record { le_variable = f.low; variable_in_bounds = omega (arith, f.high, c.requires.long) }

-- at the answer: whose distances they are, what the answer says, and which atom it is about
module _ (c : After-is_right) where
  abbrev As : List Atom
  As = atoms_of c.args.tables.now.atoms.now

  abbrev es : List Edge
  es = edges_of c.args.tables.now.edges.now

  abbrev number : ℕ
  number = c.loop-number.number

  abbrev A : Atom
  A = atom_of (get_or c.args.tables.now.atoms.now number blank_atom)

  walked : Walked c.neighbours-neighbours.result c.if-not-has.source c.if-not-has.distances
  walked = elim c.if-not-has.branch [
    | then-not-has w ↦ rw (w.source-is, w.distances-is) w.walk_on.ensures
    | else-not-has w ↦ rw (w.source-is, w.distances-is) c.loop-number.invariant.walked
  ]

  source : (T (bit number c.length_atoms-lengths.result) → ⊥) → c.if-not-has.source ≡ A.from
  source n = elim c.if-not-has.branch [
    | then-not-has w ↦ w.source-is ∙ w.from-from.ensures
    | else-not-has w ↦ absurd (n (so c.has.ensures w.if-not-has.false))
  ]

  right : T c.is_right.result ↔ RightIn es c.args.assignment.now A
  right =
      let g = under (true_in c.args.assignment.now) in
      c.is_right.ensures es
      (truth es g As number _ _ _ _ A _ (atoms_at c.args.tables.now.atoms.now number) (by_hops number c.length_atoms-lengths.ensures c.loop-number-test.true)
      (c.true_by_length-long.ensures number) c.truth_of-truth.ensures source (walked.table es g (lent_inside c.args.tables.now.lent) c.neighbours-neighbours.ensures))

  here : Passed (RightIn es c.args.assignment.now) As number (A ∷ drop (suc number) As)
  here =
      let n : number < length As = omega (arith, atoms_length c.args.tables.now.atoms.now, c.loop-number-test.true) in
      rw (atoms_at c.args.tables.now.atoms.now number) (rw (drop-cons As number no_atom n) at c.loop-number.invariant.passed)

pub returns-then-not-is_right : goal.returns-then-not-is_right
returns-then-not-is_right c =
    let d = (goal.at.returns-then-not-is_right c).After-is_right in
    passed_here (here d) (λ r. not_so {r = c.is_right.result} refl c.if-not-is_right.true ((right d).1 r))

pub loop-number-preserved : goal.loop-number-preserved
loop-number-preserved c =
    let d = (goal.at.loop-number-preserved c).After-is_right in
    record { walked = walked d; passed = rw (add-one c.loop-number.number) (next (here d) ((right d).0 (so {r = c.is_right.result} refl c.if-not-is_right.false))) }

pub returns : goal.returns
returns c =
    let l : length (atoms_of c.args.tables.now.atoms.now) ≤ c.loop-number.number = omega (arith, atoms_length c.args.tables.now.atoms.now, c.loop-number-test.false) in
    passed_none c.loop-number.invariant.passed (drop_of_length-le _ l)
