-- `Marks::write`: the clause has one literal more than there are marks.
use mathlib.Core.Path.{refl}
use mathlib.Core.Bool.{not}
use mathlib.Core.List.{[]}
use native.Mathlib.Omega.{arith}
use mir.Facts.{to_z-of_z}
use mir.Syntax.{w16}
use mir.Val.{SFits}
use lib.ListN.{length}
use Rattle.plan.specs.Meaning.{literal_of}
use Rattle.reason.proofs.Listing.{clause_length, premises_most, appends_one, appends_then}
use Rattle.reason.proofs.marks.Marks.write.Goals as goal

pub overflow_add-length : goal.overflow_add-length
overflow_add-length c = omega (arith, c.count-length.ensures, premises_most c.args.self.now.marked (length c.args.question.now.assignment.now), c.args.question.now.fits.few)

pub returns-then-out-length : goal.returns-then-out-length
returns-then-out-length c =
    let t = c.args in
    let q = t.question.now in
    let n = clause_length (literal_of t.holds q.atom.variable) (not t.holds) t.self.now.marked (length q.assignment.now) in
    record { counted = omega (arith, c.count-length.ensures, n); short = omega (arith, c.count-length.ensures, n, c.if-out-length.true); kept = refl }

pub returns : goal.returns
returns c =
    let t = c.args in
    let q = t.question.now in
    let n = clause_length (literal_of t.holds q.atom.variable) (not t.holds) t.self.now.marked (length q.assignment.now) in
    let f : SFits w16 c.literal_of.result = record { sfits = c.literal_of.type_inv } in
    let first = appends_one 0 (literal_of t.holds q.atom.variable) t.out.now (omega arith) in
    record {
      counted = omega (arith, c.count-length.ensures, n);
      fits = omega (arith, c.count-length.ensures, n, c.if-out-length.false);
      wrote = (appends_then first (rw (to_z-of_z f, c.literal_of.ensures, c.from.ensures) at c.write_marked.ensures)).wrote [] t.out.now refl refl;
    }
