-- The entries one by one: those of the list's beginning are printed.
use mathlib.Core.Path.{◌≡◌, sym, ap, ◌∙◌}
use Prim.Native.Nat.{◌≤◌, ◌<◌}
use native.Mathlib.Omega.{arith}
use borrow.Author.Rules.{rules}
use lib.IntN.{pos}
use lib.ListN.{length, take, get_or, length-take}
use mir.Syntax.{w32}
use mir.Val.{SFits}
use mir.Facts.{to_z-of_z}
use Rattle.std.proofs.lemmas.List.{take_all}
use Rattle.dimacs.specs.Printing.{entry, entries}
use Rattle.dimacs.proofs.Digits.{entries_next, entries_length}
use Rattle.dimacs.proofs.Printers.{lays_as, lays_none, lays_then, lays_ends}
use Rattle.dimacs.proofs.printing.Printer.numbers.Goals as goal

pub loop-number-init : goal.loop-number-init
unfolding entries
loop-number-init g c = lays_none _

pub entry-requires : goal.entry-requires
entry-requires g c =
    let loop = c.loop-number in
    let xs = g.T.Entry.numbers c.args.numbers.now in
    omega (arith, loop.invariant.laid.count, entries_length (take loop.number-index xs), length-take loop.number-index xs, g.met.T.Entry.as_many c.args.numbers.now)

pub loop-number-preserved : goal.loop-number-preserved
loop-number-preserved g c =
    let loop = c.loop-number in
    let xs = g.T.Entry.numbers c.args.numbers.now in
    let l : loop.number-index < length xs = omega (arith, g.met.T.Entry.as_many c.args.numbers.now) in
    let f : SFits w32 c.widened.result = search rules in
    let x : c.widened.result ≡ get_or xs loop.number-index (pos 0) =
    c.widened.ensures
    ∙ ap g.T.Entry.number c.number-item.is
    ∙ sym (g.met.T.Entry.one_by_one c.args.numbers.now loop.number-index c.number-item.result c.loop-number-test.true)
    in
    lays_as (sym (entries_next xs loop.number-index l)) (lays_then loop.invariant (lays_as (ap entry (to_z-of_z f ∙ x)) c.entry.ensures))

pub returns : goal.returns
returns g c =
    let l : length (g.T.Entry.numbers c.args.numbers.now) ≤ c.loop-number.number-index = omega (arith, g.met.T.Entry.as_many c.args.numbers.now) in
    record { laid = lays_ends (lays_as (ap entries (take_all _ _ l)) c.loop-number.invariant) (search rules); same_reference = search rules }
