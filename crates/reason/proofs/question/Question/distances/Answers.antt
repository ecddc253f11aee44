-- `Question::distances`: they are those of the graph that settles the verdict, by what the kind counts.
use Rattle.reason.proofs.question.Question.distances.Goals as goal

pub returns : goal.returns
returns c = rw (c.measure.ensures, c.settling.ensures c.args.self.now.atom.kind, c.from.ensures) at c.distances_by.ensures
