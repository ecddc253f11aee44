-- `closing::round`: where the look at the atoms changed nothing, or no edge is other than before it, all that the atoms settle is there.
use mathlib.Core.Path.{sym, subst}
use mathlib.Core.List.{List}
use lib.IntN.{ℤ}
use Rattle.std.specs.Prelude.{Ok}
use Rattle.std.proofs.lemmas.Result.{err_from_is_err_and}
use Rattle.plan.specs.File.{file_of}
use Rattle.plan.specs.Meaning.{PlanFile, true_in}
use Rattle.plan.specs.Search.{Assigned, nothing}
use Rattle.plan.specs.Tables.{BeginsWith, clauses_of}
use Rattle.walk.proofs.Lending.{lent_placed}
use Rattle.unit.specs.Clauses.{AllQuiet}
use Rattle.unit.specs.Onward.{Onward}
use Rattle.unit.specs.Queue.{Since}
use Rattle.unit.proofs.Steps.{onward_then}
use Rattle.closing.proofs.Lending.{lent_ready, lent_tables, passed_on, passed_clash, passed_quiet}
use Rattle.closing.specs.Closed.{Looks}
use Rattle.closing.specs.Atoms.{BothHeard}
use Rattle.closing.specs.Rounds.{Unchanged}
use Rattle.closing.proofs.Rounds.{same_copy, round_still, round_set, round_same}
use Rattle.closing.proofs.round.Goals as goal

pub returns-in_err-look_at_atoms : goal.returns-in_err-look_at_atoms
returns-in_err-look_at_atoms c =
    let x = c.in_err-look_at_atoms.ensures _ (lent_tables c.args.prepared.now.tables.lent c.requires.assigned) in
    rw (err_from_is_err_and c.from_residual.result c.from_residual.ensures.1).1 (record { onward = x.onward; tells = x.tells })

pub returns-in-Still : goal.returns-in-Still
returns-in-Still c =
    let t = c.args.prepared.now.tables in
    let v = c.args.values.now in
    let u = c.look_at_atoms.new.values in
    round_still (file_of t) t.lent.ranged v u c.requires.all_quiet
    (subst (λ r. Looks (file_of t) (BothHeard (file_of t) v u) v u (Ok r)) c.in-Still.is (c.in_ok-look_at_atoms.ensures _ (lent_tables t.lent c.requires.assigned)))

-- what the copy is to the set after the look at the atoms: its front is the set before it, which was quiet
since : (φ : PlanFile) {cs : List ℤ} (v copy u : List ℤ) → Assigned φ.variables v → BeginsWith copy v → AllQuiet (true_in v) (clauses_of cs) → Onward φ v u → Since cs copy u
since φ v copy u s b q o = record {
  kept = record { before = v; begins = b; shape = subst (λ n. Assigned n v) (sym o.shape.long) s; above = o.above };
  quiet = q;
}

pub propagate_changes-requires : goal.propagate_changes-requires
propagate_changes-requires c =
    let t = c.args.prepared.now.tables in
    let o = (c.in_ok-look_at_atoms.ensures _ (lent_tables t.lent c.requires.assigned)).onward in
    record {
      ready = lent_ready t.lent o.shape;
      since = since (file_of t) c.args.values.now c.of-before.result.values c.look_at_atoms.new.values c.requires.assigned c.of-before.ensures c.requires.all_quiet o;
    }

-- after what the clauses give
pub returns-in_err-propagate_changes : goal.returns-in_err-propagate_changes
returns-in_err-propagate_changes c =
    let t = c.args.prepared.now.tables in
    let o = (c.in_ok-look_at_atoms.ensures _ (lent_tables t.lent c.requires.assigned)).onward in
    let p = c.in_err-propagate_changes.ensures in
    rw (err_from_is_err_and c.from_residual-in_err-propagate_changes.result c.from_residual-in_err-propagate_changes.ensures.1).1 (record {
      onward = onward_then (file_of t) c.args.values.now c.look_at_atoms.new.values c.propagate_changes.new.values o (passed_on t.lent o.shape p);
      tells = o.back nothing (passed_clash t.lent o.shape p);
    })

-- no clash
pub returns-then-same_edges : goal.returns-then-same_edges
returns-then-same_edges c =
    let t = c.args.prepared.now.tables in
    let v = c.args.values.now in
    let u = c.look_at_atoms.new.values in
    let w = c.propagate_changes.new.values in
    let x = subst (λ r. Looks (file_of t) (BothHeard (file_of t) v u) v u (Ok r)) c.in-Set.is (c.in_ok-look_at_atoms.ensures _ (lent_tables t.lent c.requires.assigned)) in
    round_same (file_of t) t.lent.ranged v u w x (passed_on t.lent x.onward.shape c.propagate_changes.ensures) (passed_quiet t.lent x.onward.shape c.in_ok-propagate_changes.ensures)
    (same_copy t.edges.now v c.of-before.result.values w (lent_placed t.lent _ c.requires.assigned.long) c.of-before.ensures
    (subst (λ b. Unchanged t.edges.now c.of-before.result.values w b) c.if-same_edges.true c.same_edges.ensures))

pub returns : goal.returns
returns c =
    let t = c.args.prepared.now.tables in
    let v = c.args.values.now in
    let u = c.look_at_atoms.new.values in
    let x = subst (λ r. Looks (file_of t) (BothHeard (file_of t) v u) v u (Ok r)) c.in-Set.is (c.in_ok-look_at_atoms.ensures _ (lent_tables t.lent c.requires.assigned)) in
    round_set (file_of t) t.lent.ranged v u c.propagate_changes.new.values x (passed_on t.lent x.onward.shape c.propagate_changes.ensures) (passed_quiet t.lent x.onward.shape c.in_ok-propagate_changes.ensures)
