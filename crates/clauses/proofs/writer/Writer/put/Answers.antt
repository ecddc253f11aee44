-- One store, of the number itself.
use mathlib.Core.List.{[], ◌∷◌}
use mathlib.Core.Path.{ap}
use native.Mathlib.Omega.{arith}
use borrow.Author.Rules.{rules}
use mir.Syntax.{w32}
use mir.Val.{to_z, of_z}
use Rattle.clauses.proofs.Appending.{appends_as, appends_one}
use Rattle.clauses.proofs.writer.Writer.put.Goals as goal

pub returns : goal.returns
returns c = appends_as (ap (λ z. z ∷ []) (search rules)) (appends_one (to_z w32 (of_z w32 c.args.number)) c.args.self.now (omega arith))
