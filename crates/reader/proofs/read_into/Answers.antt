-- `read_into` answers with what the file reads as: each step of the code is one of the definition.
use Rattle.std.proofs.lemmas.Result.{err_from_is_err_and}
use Rattle.reader.proofs.Kit.{refl}
use Rattle.reader.proofs.Loop.{begins, head_refused, cut_at, refused_at, whole, standing, goes_on, falls}
use Rattle.reader.proofs.read_into.Goals as goal

pub returns-in_err-step : goal.returns-in_err-step
returns-in_err-step c =
    let q = err_from_is_err_and c.from_residual.result c.from_residual.ensures.1 in
    rw ((head_refused c.args.file.now (c.in_err-step.ensures c.args.buffers.now)).is, q.1, q.2) (refl, refl)

pub loop-step-init : goal.loop-step-init
loop-step-init c = begins _ (c.in_ok-step.ensures _)

pub returns-in_err-record-in-Next : goal.returns-in_err-record-in-Next
returns-in_err-record-in-Next c =
    let w = standing c.loop-step.invariant c.in-Next.is in
    let e = c.in_err-record-in-Next.ensures in
    let q = err_from_is_err_and c.from_residual-in_err-record-in-Next.result c.from_residual-in_err-record-in-Next.ensures.1 in
    rw ((cut_at w e.1).is, q.1, q.2, e.0) (refl, refl)

pub returns-in_err-step-in-Next : goal.returns-in_err-step-in-Next
returns-in_err-step-in-Next c =
    let w = standing c.loop-step.invariant c.in-Next.is in
    let e = c.in_ok-record-in-Next.ensures in
    let q = err_from_is_err_and c.from_residual-in_err-step-in-Next.result c.from_residual-in_err-step-in-Next.ensures.1 in
    rw ((refused_at w _ _ (rw (e.0, e.1, e.2) at c.in_err-step-in-Next.ensures)).is, q.1, q.2) (refl, refl)

pub loop-step-smaller : goal.loop-step-smaller
loop-step-smaller c =
    let e = c.in_ok-record-in-Next.ensures in
    rw c.in-Next.is (falls (standing c.loop-step.invariant c.in-Next.is) _ _ (rw (e.0, e.1, e.2) at c.in_ok-step-in-Next.ensures))

pub loop-step-preserved : goal.loop-step-preserved
loop-step-preserved c =
    let e = c.in_ok-record-in-Next.ensures in
    goes_on (standing c.loop-step.invariant c.in-Next.is) _ _ (rw (e.0, e.1, e.2) at c.in_ok-step-in-Next.ensures)

pub returns-in-Done : goal.returns-in-Done
returns-in-Done c = let w = whole c.loop-step.invariant c.in-Done.is in rw w.reads w.tables
