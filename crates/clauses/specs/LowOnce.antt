-- That a block's numbers are low has one proof at the most, which a field of a struct needs.
-- Assumes nothing.
use Rattle.std.specs.Prelude.{List, ℕ}
use Rattle.std.proofs.Props.{props}
use Rattle.plan.specs.Meaning.{Edge}
use Rattle.clauses.specs.Rows.{LowBlock}

pub low_once : (es : List Edge) (n base top : ℕ) → IsProp (LowBlock es n base top)
low_once es n base top = Prim.hlevel props
