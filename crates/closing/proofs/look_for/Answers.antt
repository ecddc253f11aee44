-- `closing::look_for`: the atoms before the place that count hops are heard without a clash, and the distances are those from the source in the graph that settles the verdict.
use mathlib.Core.Path.{◌≡◌, refl, sym, ◌∙◌, subst}
use mathlib.Core.Bool.{Bool}
use mathlib.Core.List.{List}
use Prim.Native.Nat.{ℕ, ◌+◌, ◌<◌}
use native.Mathlib.Omega.{arith}
use lib.IntN.{ℤ}
use lib.ListN.{length}
use Rattle.std.specs.Prelude.{Result, Ok, Err}
use Rattle.std.proofs.lemmas.Result.{err_from_is_err_and}
use Rattle.plan.specs.Meaning.{Atom, atom, true_in, graph_of}
use Rattle.plan.specs.Search.{Assigned}
use Rattle.plan.specs.Tables.{edges_of, atoms_of, Lent}
use Rattle.plan.specs.Closing.{settling}
use Rattle.plan.specs.declared.Plan.{Plan}
use Rattle.plan.specs.declared.Edge as struct-of-edge
use Rattle.plan.specs.declared.Atom as struct-of-atom
use Rattle.plan.specs.declared.Kind.{Kind}
use Rattle.plan.specs.declared.Side.{Side}
use Rattle.plan.proofs.ByPlace.{atoms_at}
use Rattle.plan.proofs.Places.{without_none, without_more}
use Rattle.walk.specs.Walking.{Neighbours, CountLengths, Walked}
use Rattle.walk.specs.declared.distances.Distances.{Distances}
use Rattle.walk.proofs.Truths.{not_so}
use Rattle.walk.proofs.Asked.{by_hops}
use Rattle.walk.proofs.Lending.{lent_inside}
use Rattle.unit.specs.declared.Clash.{Clash}
use Rattle.closing.specs.Atoms.{AtomReady, Outside, Due, Told}
use Rattle.closing.specs.declared.Step.{Step}
use Rattle.closing.specs.declared.Step.TheVariants.{Still}
use Rattle.closing.proofs.Lending.{atom_ready, lent_tables}
use Rattle.closing.proofs.Looking.{behind, same_from, looks_clash, Sweeps, sweep_start, sweep_past, sweep_one, sweep_end, settles_by}
use Rattle.closing.proofs.look_for.Goals as goal
use Rattle.closing.proofs.look_for.Goals.{then-atom-source+else-not-is_due, else-atom-source}

module _ {p : Plan} {es : List struct-of-edge.Edge} {bs : List struct-of-atom.Atom} {cs : List ℤ} (lent : Lent p es bs cs) {v : List ℤ} (s : Assigned p.variables v) where
  -- an atom of the table has its variable where the sweep has come
  ready_at : (Q : ℕ → Type 0) (b : Bool) {w : List ℤ} {at : ℕ} {r : Result Step Clash} → Sweeps Q es bs b v w at r → (k : ℕ) → k < length bs → AtomReady w (atom (atoms_of bs) k)
  ready_at Q b x k h = atom_ready lent (x _ (lent_tables lent s)).onward.shape k h

  -- the look at it
  swept : (lengths : ℕ) (b : Bool) (w u : List ℤ) (at : ℕ) (side : Side) (sets : List ℕ) (d : Distances) (source : ℕ) (a : Step) (r : Result Step Clash)
      → CountLengths (atoms_of bs) p.atoms lengths → at < length bs → ((kind : Kind) → side ≡ settling kind b) → Neighbours (edges_of es) (graph_of side (true_in v)) sets
      → Walked sets source d × (source ≡ (atom (atoms_of bs) at).from) → {A : Atom} → A ≡ atom (atoms_of bs) at → Told (Outside lengths at) b A d w u r
      → Sweeps (Outside lengths) es bs b v w at (Ok a) → Sweeps (Outside lengths) es bs b v u (at + 1) (behind a r)
  swept lengths b w u at side sets d source a r n h k y z q t i =
      let Q : ℕ → Type 0 = Outside lengths in
      sweep_one Q b v w u at d a r h
      (λ o. settles_by b v side sets (atom (atoms_of bs) at) source d k (by_hops at n (omega (arith, h, lent.atoms)) o) (lent_inside lent) y z.0 z.1)
      (subst (λ A. Told (Q at) b A d w u r) q t) i

pub returns-in_default : goal.returns-in_default
returns-in_default c =
    let a = c.args in
    let v = a.values.now in
    sweep_end (Outside a.prepared.now.lengths) a.holds v v (length a.prepared.now.tables.atoms.now) (Ok Still) (omega arith)
    (sweep_past (Outside a.prepared.now.lengths) a.holds v v 0 (length a.prepared.now.tables.atoms.now) (Ok Still) c.in_default.ensures (sweep_start (Outside a.prepared.now.lengths) a.holds v))

pub walk-requires : goal.walk-requires
walk-requires c =
    let r = atom_ready c.args.prepared.now.tables.lent c.requires c.in-Some.first c.in-Some.ensures.inside in
    omega (arith, c.from.ensures, same_from c.args.prepared.now.tables.atoms.now c.in-Some.first, r.fits.from_in)

-- a turn of the loop, for its atom
pub is_due-requires-clause-atom_ready : goal.is_due-requires-clause-atom_ready
is_due-requires-clause-atom_ready c =
    ready_at c.args.prepared.now.tables.lent c.requires (Outside c.args.prepared.now.lengths) c.args.holds c.loop-number.invariant.1 c.loop-number.number c.loop-number-test.true

-- it is passed by where it is not due
pub loop-number-preserved-then-not-is_due : goal.loop-number-preserved-then-not-is_due
loop-number-preserved-then-not-is_due c =
    let a = c.args in
    let l = c.loop-number in
    let D : ℕ → Type 0 = Due a.prepared.now.lengths a.prepared.now.tables.atoms.now a.holds l.values in
    let n : D l.number → ⊥ = λ d. not_so {r = c.is_due.result} refl c.if-not-is_due.true (c.is_due.ensures.1 d) in
    (l.invariant.0, sweep_past (Outside a.prepared.now.lengths) a.holds a.values.now l.values l.number (l.number + 1) (Ok l.step) (without_more D (without_none _ _) n) l.invariant.1)

pub walk-requires-then-atom-source : goal.walk-requires-then-atom-source
walk-requires-then-atom-source c =
    let r = ready_at c.args.prepared.now.tables.lent c.requires (Outside c.args.prepared.now.lengths) c.args.holds c.loop-number.invariant.1 c.loop-number.number c.loop-number-test.true in
    omega (arith, c.from-then-atom-source.ensures, same_from c.args.prepared.now.tables.atoms.now c.loop-number.number, r.fits.from_in)

pub look_at-requires-clause-atom_ready : goal.look_at-requires-clause-atom_ready
look_at-requires-clause-atom_ready c =
    subst (AtomReady c.loop-number.values) (sym (atoms_at c.args.prepared.now.tables.atoms.now c.loop-number.number))
    (ready_at c.args.prepared.now.tables.lent c.requires (Outside c.args.prepared.now.lengths) c.args.holds c.loop-number.invariant.1 c.loop-number.number c.loop-number-test.true)

-- the distances are those from its source, walked anew or kept
walked_as : (sets : List ℕ) {s t g : ℕ} {d e : Distances} → s ≡ t → d ≡ e → Walked sets t e → t ≡ g → Walked sets s d × (s ≡ g)
walked_as sets p q w f = (rw (p, q) w, p ∙ f)

pub returns-in_err-told : goal.returns-in_err-told
returns-in_err-told c =
    let a = c.args in
    let l = c.loop-number in
    let q = same_from a.prepared.now.tables.atoms.now l.number in
    let known : Walked c.neighbours-sets.result c.if-atom-source.source c.if-atom-source.distances × (c.if-atom-source.source ≡ (atom (atoms_of a.prepared.now.tables.atoms.now) l.number).from) =
    elim c.if-atom-source.branch [
      | then-atom-source+else-not-is_due w ↦ let e = w.from-then-atom-source.ensures in walked_as _ (w.source-is ∙ sym e) w.distances-is w.walk-then-atom-source.ensures (e ∙ q)
      | else-atom-source w ↦ walked_as _ w.source-is w.distances-is l.invariant.0 (sym w.if-atom-source.false ∙ q)
    ] in
    let p = err_from_is_err_and c.from_residual.result c.from_residual.ensures.1 in
    rw p.1
    (λ φ f. looks_clash
    (swept a.prepared.now.tables.lent c.requires a.prepared.now.lengths a.holds l.values c.look_at.new.values l.number _ _ _ _ l.step (Err c.in_err-told.field-0.0) c.args.prepared.now.counted c.loop-number-test.true c.settling.ensures
    c.neighbours-sets.ensures known (atoms_at a.prepared.now.tables.atoms.now l.number) c.in_err-told.ensures l.invariant.1 φ f))

pub loop-number-preserved : goal.loop-number-preserved
loop-number-preserved c =
    let a = c.args in
    let l = c.loop-number in
    let q = same_from a.prepared.now.tables.atoms.now l.number in
    let known : Walked c.neighbours-sets.result c.if-atom-source.source c.if-atom-source.distances × (c.if-atom-source.source ≡ (atom (atoms_of a.prepared.now.tables.atoms.now) l.number).from) =
    elim c.if-atom-source.branch [
      | then-atom-source+else-not-is_due w ↦ let e = w.from-then-atom-source.ensures in walked_as _ (w.source-is ∙ sym e) w.distances-is w.walk-then-atom-source.ensures (e ∙ q)
      | else-atom-source w ↦ walked_as _ w.source-is w.distances-is l.invariant.0 (sym w.if-atom-source.false ∙ q)
    ] in (
      known.0,
      rw c.or-step.ensures
          (swept a.prepared.now.tables.lent c.requires a.prepared.now.lengths a.holds l.values c.look_at.new.values l.number _ _ _ _ l.step (Ok c.in_ok-told.told) c.args.prepared.now.counted c.loop-number-test.true c.settling.ensures
          c.neighbours-sets.ensures known (atoms_at a.prepared.now.tables.atoms.now l.number) c.in_ok-told.ensures l.invariant.1),
    )

pub returns : goal.returns
returns c =
    let a = c.args in
    let l = c.loop-number in
    sweep_end (Outside a.prepared.now.lengths) a.holds a.values.now l.values l.number (Ok l.step) c.loop-number-test.false l.invariant.1
