-- The literals that are new in an assignment, one place after the other, put behind one another into the queue.
use Rattle.std.proofs.Common.{◌≢◌, ◌∙◌, ap, sym, ℤ, pos, get_or, rules, of_z}
use mir.Syntax.{w8, w16}
use mir.Val.{SFits}
use mir.Facts.{to_z-of_z}
use Rattle.plan.proofs.Signs.{bits_same}
use Rattle.unit.specs.Queue.{literal_at}
use Rattle.unit.proofs.Changes.{queueing_same, queueing_put, queueing_ends}
use Rattle.unit.proofs.queue_changes.Goals as goal
use Rattle.unit.proofs.queue_changes.Goals.{then-value-before, else-value-before}

pub loop-i-preserved : goal.loop-i-preserved
loop-i-preserved c =
    let l = c.loop-i in
    let was : ℤ = get_or c.args.before.now l.i (pos 0) in
    let is : ℤ = get_or c.args.values.now l.i (pos 0) in
    let was_fits : SFits w8 was = search rules in
    let is_fits : SFits w8 is = search rules in
    elim c.if-value-before.branch [
      | then-value-before w ↦
          let apart : of_z w8 is ≢ of_z w8 was = w.if-value-before.true in
          let f : SFits w16 w.literal_of.result = search rules in
          let e = to_z-of_z f ∙ w.literal_of.ensures ∙ ap (literal_at l.i) (to_z-of_z is_fits) in
          rw (w.queue-is, w.push.ensures.literals, w.push.ensures.end, e) (queueing_put _ _ _ _ _ l.invariant c.loop-i-test.true c.requires.values_len_bound c.requires.above (λ q. apart (ap (of_z w8) (sym q))))
      | else-value-before w ↦ rw w.queue-is (queueing_same _ _ _ _ _ l.invariant c.loop-i-test.true (sym (bits_same w8 _ _ is_fits was_fits w.if-value-before.false)))
    ]

pub returns : goal.returns
returns c = queueing_ends _ _ _ _ _ c.loop-i.invariant c.loop-i-test.false c.requires.values_len_bound
