-- The index from the table's end to its beginning: before each turn it is that of the part behind the place.
use Rattle.std.proofs.Common.{◌≡◌, ◌-◌, ◌<◌, ap, ◌∙◌, subst, arith, rules, length, pos, ℤ, slice_index_or, to_z, of_z}
use mir.Syntax.{w16}
use Rattle.index.specs.Places.{slot}
use Rattle.index.proofs.Building.{Built, built_start, built_more}
use Rattle.index.proofs.index_of.Goals as goal

pub loop-at-init : goal.loop-at-init
loop-at-init c = built_start c.args.clauses.now

pub loop-at-preserved : goal.loop-at-preserved
loop-at-preserved c =
    let l = c.loop-at in
    let inside : l.at - 1 < length c.args.clauses.now = omega arith in
    let number : ℤ = slice_index_or c.args.clauses.now (l.at - 1) (pos 0) in
    let read_back : to_z w16 (of_z w16 number) ≡ number = search rules in
    rw (c.slot_of-slot.ensures ∙ ap slot read_back) (built_more c.args.clauses.now l.places (l.at - 1) c.requires inside (subst (λ k. Built c.args.clauses.now k l.places) (omega arith) l.invariant))
