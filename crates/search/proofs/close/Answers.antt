-- The first n places of the assignment, closed in place.
use mathlib.Core.Path.{◌≡◌, sym, ap, subst}
use lib.ListN.{take}
use lib.Seq.{take_at}
use Rattle.plan.specs.File.{file_of}
use Rattle.plan.specs.Search.{CloseIs}
use Rattle.closing.specs.Closed.{closed_of}
use Rattle.search.proofs.close.Goals as goal

pub returns : goal.returns
returns c =
    let φ = file_of c.args.prepared.now.tables in
    let n = c.args.prepared.now.tables.plan.variables in
    let r = c.close_after.result in
    let w = c.close_after.new.values in
    let e : take c.from-n.result c.args.a.now.values ≡ take n c.args.a.now.values = ap (λ m. take m c.args.a.now.values) c.from-n.ensures in
    subst (λ l. CloseIs φ (take n c.args.a.now.values) (closed_of r l)) (sym (take_at w _ n c.close_after.ensures.assigned_2.long))
    (subst (λ l. CloseIs φ l (closed_of r w)) e c.close_after.ensures.close_is)
