-- The digits where there is room for all.
use mathlib.Core.Path.{refl}
use native.Mathlib.Omega.{arith}
use Rattle.plan.proofs.Laying.{put_laid, laid_past}
use Rattle.dimacs.specs.Printing.{numeral}
use Rattle.dimacs.proofs.Digits.{digits_most}
use Rattle.dimacs.proofs.printing.Printer.number.Goals as goal
use Rattle.dimacs.proofs.printing.Printer.number.Goals.{then-end-self, else-end-self}

pub overflow_add-end : goal.overflow_add-end
overflow_add-end c = omega (arith, digits_most 10 c.args.number)

pub returns : goal.returns
returns c =
    elim c.if-end-self.branch [
      | then-end-self w ↦ rw w.self-is (record { laid = put_laid w.spell.ensures; same_reference = refl })
      | else-end-self w ↦
          let past = laid_past (numeral c.args.number) c.args.self.now.at c.args.self.now.out.now (omega arith) in
          rw w.self-is (record { laid = rw c.width-digits.ensures past; same_reference = refl })
    ]
