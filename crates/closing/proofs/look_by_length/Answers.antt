-- `closing::look_by_length`: of the atoms whose literal is not there, those give it that the walks settle as asked.
use mathlib.Core.Path.{◌≡◌, sym, ap, ◌∙◌, subst}
use mathlib.Core.Bool.{Bool}
use mathlib.Core.List.{List}
use Prim.Native.Nat.{ℕ, ◌^◌, ◌<◌}
use native.Mathlib.Omega.{arith}
use borrow.Author.Rules.{rules}
use lib.IntN.{ℤ}
use Rattle.plan.specs.Meaning.{PlanFile, IsTrue, atom, true_in, graph_of}
use Rattle.plan.specs.Closing.{settling, Settles}
use Rattle.plan.specs.Tables.{edges_of, atoms_of}
use Rattle.plan.specs.declared.Edge as struct-of-edge
use Rattle.plan.specs.declared.Atom as struct-of-atom
use Rattle.plan.specs.declared.Kind.{Kind}
use Rattle.plan.specs.declared.Side.{Side}
use Rattle.plan.proofs.ByPlace.{atoms_length}
use Rattle.walk.specs.Walking.{Those}
use Rattle.walk.proofs.Asked.{asked_part, all_asked}
use Rattle.walk.proofs.Lending.{atom_from, atom_to}
use Rattle.closing.specs.Atoms.{HasTables}
use Rattle.closing.proofs.Lending.{lent_tables}
use Rattle.closing.proofs.Giving.{told_of, told_settled, looks_given}
use Rattle.closing.proofs.look_by_length.Goals as goal
use Rattle.closing.proofs.look_by_length.Goals.{then-holds, else-holds}

-- the atoms that are asked
pub true_by_length-truths-requires-clause-length_atoms : goal.true_by_length-truths-requires-clause-length_atoms
true_by_length-truths-requires-clause-length_atoms c =
    let lent = c.args.prepared.now.tables.lent in
    asked_part (all_asked (atoms_of c.args.prepared.now.tables.atoms.now) c.args.prepared.now.tables.plan.atoms c.args.prepared.now.lengths (atoms_length c.args.prepared.now.tables.atoms.now ∙ lent.atoms) (λ A m. (atom_from lent A m, atom_to lent A m)) c.args.prepared.now.counted)
    (λ k t. ((c.to_say-asked.ensures k).0 t).0)

-- those of them that are settled as asked
told_right : (es : List struct-of-edge.Edge) (bs : List struct-of-atom.Atom) (v : List ℤ) (asked truths told : ℕ) (b : Bool) (side : Side) → asked < 2 ^ 64 → truths < 2 ^ 64 → told ≡ told_of b asked truths
    → ((kind : Kind) → side ≡ settling kind b) → Those (λ k. IsTrue (edges_of es) (graph_of side (true_in v)) (atom (atoms_of bs) k)) asked truths
    → (φ : PlanFile) → HasTables es bs v φ → Those (λ k. Settles φ (true_in v) (atom (atoms_of bs) k) b) asked told
told_right es bs v asked truths told b side small fits e s x φ f =
    subst (λ (y : ℕ). Those (λ k. Settles φ (true_in v) (atom (atoms_of bs) k) b) asked y) (sym e) (told_settled bs v asked truths small fits es b side s x φ f)

pub give_all-requires-clause-by_index : goal.give_all-requires-clause-by_index
give_all-requires-clause-by_index c =
    let a = c.args in
    let n = c.to_say-asked.result in
    let t = c.true_by_length-truths.result in
    let e : c.if-holds.told ≡ told_of a.holds n t = elim c.if-holds.branch [
      | then-holds w ↦ w.told-is ∙ ap (λ b. told_of b n t) (sym w.if-holds.true)
      | else-holds w ↦ w.told-is ∙ ap (λ b. told_of b n t) (sym w.if-holds.false)
    ] in
    let right = told_right a.prepared.now.tables.edges.now a.prepared.now.tables.atoms.now a.values.now n t _ a.holds _ (search rules) (search rules) e c.settling-side.ensures c.true_by_length-truths.ensures in
    let lent = a.prepared.now.tables.lent in
    λ k t. omega (arith, lent.atoms, ((c.args.prepared.now.counted.exact k).0 ((c.to_say-asked.ensures k).0 ((right _ (lent_tables lent c.requires) k).0 t).0).0).0)

pub returns : goal.returns
returns c =
    let a = c.args in
    let n = c.to_say-asked.result in
    let t = c.true_by_length-truths.result in
    let e : c.if-holds.told ≡ told_of a.holds n t = elim c.if-holds.branch [
      | then-holds w ↦ w.told-is ∙ ap (λ b. told_of b n t) (sym w.if-holds.true)
      | else-holds w ↦ w.told-is ∙ ap (λ b. told_of b n t) (sym w.if-holds.false)
    ] in
    looks_given a.holds a.values.now c.give_all.new.values c.give_all.result a.prepared.now.lengths n c.if-holds.told c.to_say-asked.ensures
    (told_right a.prepared.now.tables.edges.now a.prepared.now.tables.atoms.now a.values.now n t _ a.holds _ (search rules) (search rules) e c.settling-side.ensures c.true_by_length-truths.ensures) c.give_all.ensures
