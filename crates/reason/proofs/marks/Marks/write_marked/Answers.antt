-- `Marks::write_marked`: after v variables the literals of those that are marked are appended.
use mathlib.Core.Path.{sym, subst}
use mathlib.Core.List.{map}
use Prim.Native.Nat.{◌<◌}
use native.Mathlib.Omega.{arith}
use mir.Facts.{to_z-of_z}
use mir.Syntax.{w16}
use mir.Val.{SFits}
use lib.ListN.{length}
use Rattle.std.proofs.Common.{length-take, get_or-take}
use Rattle.plan.specs.Meaning.{literal_of}
use Rattle.reason.specs.Marks.{Appends}
use Rattle.reason.proofs.Listing.{premises_zero, appends_none, room, appends_marked, appends_unmarked}
use Rattle.reason.proofs.marks.Marks.write_marked.Goals as goal
use Rattle.reason.proofs.marks.Marks.write_marked.Goals.{then-mark, else-mark}

pub loop-v-init : goal.loop-v-init
loop-v-init c =
    let t = c.args in
    subst (λ vs. Appends t.at (map (literal_of t.sign) vs) t.out.now t.out.now t.at) (sym (premises_zero t.self.now.marked)) (appends_none t.at t.out.now)

pub bounds-out-end : goal.bounds-out-end
bounds-out-end c =
    let t = c.args in
    let n = length t.question.now.assignment.now in
    let inside : c.loop-v.v < n = omega (arith, length-take n t.self.now.marked, c.loop-v-test.true) in
    room t.sign t.self.now.marked c.loop-v.v c.loop-v.invariant (rw get_or-take at c.if-mark.true) n inside (omega arith)

pub offset_bounds-out-end : goal.offset_bounds-out-end
offset_bounds-out-end c = let b = bounds-out-end c in omega arith

pub overflow_add-end : goal.overflow_add-end
overflow_add-end c = let b = bounds-out-end c in omega arith

pub loop-v-preserved : goal.loop-v-preserved
loop-v-preserved c =
    let t = c.args in
    let n = length t.question.now.assignment.now in
    let inside : c.loop-v.v < n = omega (arith, length-take n t.self.now.marked, c.loop-v-test.true) in
    elim c.if-mark.branch [
      | then-mark w ↦
          let f : SFits w16 w.literal_of.result = record { sfits = w.literal_of.type_inv } in
          let set = rw get_or-take at w.if-mark.true in
          rw (w.out-is, w.end-is, to_z-of_z f, w.literal_of.ensures)
          (appends_marked t.sign t.self.now.marked c.loop-v.v c.loop-v.invariant set (room t.sign t.self.now.marked c.loop-v.v c.loop-v.invariant set n inside (omega arith)))
      | else-mark w ↦ rw (w.out-is, w.end-is) (appends_unmarked t.sign t.self.now.marked c.loop-v.v c.loop-v.invariant (rw get_or-take at w.if-mark.false))
    ]
