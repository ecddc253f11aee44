-- The numbers one by one: so many of the table stand, those of its beginning.
use mathlib.Core.Path.{sym, ap, ◌∙◌}
use Prim.Native.Nat.{◌<◌}
use native.Mathlib.Numerals.{add-one}
use native.Mathlib.Omega.{arith}
use borrow.Author.Rules.{rules}
use lib.IntN.{pos}
use lib.ListN.{length, take, get_or}
use lib.Seq.{take-suc}
use Rattle.plan.proofs.Fronts.{put_one, put_then, put_as}
use Rattle.plan.proofs.Signs.{wide_kept}
use Rattle.clauses.proofs.put_own.Goals as goal

pub loop-i-preserved : goal.loop-i-preserved
loop-i-preserved c =
    let loop = c.loop-i in
    let table = c.args.clauses.now in
    let x = get_or table loop.i (pos 0) in
    let l : loop.i < length table = omega arith in
    rw (c.from.ensures, wide_kept x (search rules))
    (put_as (sym (take-suc table loop.i (pos 0) l) ∙ ap (λ k. take k table) (sym (add-one loop.i)))
    (put_then loop.invariant (put_one x loop.i loop.out (omega (arith, c.requires.fits)))))
