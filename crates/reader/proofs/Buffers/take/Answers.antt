-- `take` leads where the definition does, by the record's tag.
use Rattle.reader.proofs.Kit.{◌≡◌, refl, sym, ℕ, arith, ne_eqb}
use Rattle.plan.specs.Meaning.{PlanFile}
use Rattle.reader.specs.Format.{tagged, step_at}
use Rattle.reader.specs.Filling.{refuses}
use Rattle.reader.proofs.Runs.{fits_so}
use Rattle.reader.proofs.Buffers.take.Goals as goal
use Rattle.reader.proofs.Buffers.take.Goals.{After-tag}

-- the step is that of the tag
step_is : (c : After-tag) (p : PlanFile) → step_at c.args.source.file.now c.args.source.at p ≡ tagged c.tag.result c.args.source.file.now c.args.source.at p
unfolding step_at
step_is c p = rw (fits_so c.args.source.file.now c.args.source.at c.args.source.ready.within, sym c.tag.ensures) refl

pub returns-in-1 : goal.returns-in-1
returns-in-1 c = λ p t. rw (step_is (goal.at.returns-in-1 c).After-tag p, c.in-1.is) (refuses refl refl)

pub returns-in-2 : goal.returns-in-2
returns-in-2 c = λ p t. rw (step_is (goal.at.returns-in-2 c).After-tag p, c.in-2.is) (c.take_edge.ensures p t)

pub returns-in-3 : goal.returns-in-3
returns-in-3 c = λ p t. rw (step_is (goal.at.returns-in-3 c).After-tag p, c.in-3.is) (c.take_atom.ensures p t)

pub returns-in-4 : goal.returns-in-4
returns-in-4 c = λ p t. rw (step_is (goal.at.returns-in-4 c).After-tag p, c.in-4.is) (c.take_clause.ensures p t)

pub returns-in-5 : goal.returns-in-5
returns-in-5 c = λ p t. rw (step_is (goal.at.returns-in-5 c).After-tag p, c.in-5.is) (c.take_end.ensures _ p t)

pub returns-in-6 : goal.returns-in-6
returns-in-6 c = λ p t. rw (step_is (goal.at.returns-in-6 c).After-tag p, c.in-6.is) (c.take_edge-in-6.ensures p t)

pub returns-in_default : goal.returns-in_default
returns-in_default c =
    let n : ℕ = c.tag.result in
    λ p t.
    rw (
      step_is (goal.at.returns-in_default c).After-tag p,
      ne_eqb n 1 (omega arith),
      ne_eqb n 2 (omega arith),
      ne_eqb n 3 (omega arith),
      ne_eqb n 4 (omega arith),
      ne_eqb n 5 (omega arith),
      ne_eqb n 6 (omega arith),
    ) (refuses refl refl)
