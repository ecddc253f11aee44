-- Every number on the way is at most the first of that level.
use mathlib.Core.Path.{sym, ap}
use Prim.Native.Nat.{◌+◌, ◌*◌}
use native.Mathlib.Omega.{arith}
use Rattle.plan.proofs.ByPlace.{edges_length}
use Rattle.clauses.proofs.Rows.{low_upto}
use Rattle.clauses.proofs.shape.Shape.first.Goals as goal

pub overflow_mul-result : goal.overflow_mul-result
overflow_mul-result c = let s = c.args.self.now in let low = low_upto s.low c.requires in omega (arith, edges_length s.edges.now, rw (edges_length s.edges.now) at low.last)

pub overflow_add-result-3 : goal.overflow_add-result-3
overflow_add-result-3 c = let s = c.args.self.now in let low = low_upto s.low c.requires in omega (arith, edges_length s.edges.now, rw (edges_length s.edges.now) at low.last)

pub returns : goal.returns
returns c = let s = c.args.self.now in ap (λ m. s.base + 1 + c.args.i * (s.nodes + m)) (sym (edges_length s.edges.now))
