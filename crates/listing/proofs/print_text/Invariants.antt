use Rattle.plan.specs.File.{file_of}
use Rattle.plan.specs.Written.{each}
use Rattle.dimacs.specs.Printers.{Lays}
use Rattle.listing.specs.Text.{part}
use Rattle.listing.proofs.print_text.Given as goal

abbrev pub invariant-loop-k : goal.invariant-loop-k
invariant-loop-k l = Lays (each l.k (part (file_of l.tables))) l.initial.printer l.printer
