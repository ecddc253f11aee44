use lib.ListN.{take}
use Rattle.plan.specs.Front.{Put}
use Rattle.clauses.proofs.put_own.Given as goal

abbrev pub invariant-loop-i : goal.invariant-loop-i
invariant-loop-i l = Put (take l.i l.clauses) 0 l.initial.out l.out l.i
