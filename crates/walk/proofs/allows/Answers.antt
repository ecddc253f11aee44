-- `walk::allows`: the test of both kinds is what the definition asks of the distance. It stands here, and is not left to the search, so that a wrong test is refused
-- by the types and not by a limit of the search.
use mathlib.Core.Path.{◌≡◌}
use mathlib.Core.Logic.{◌↔◌, ◌⊎◌, inl, inr}
use Prim.Native.Nat.{ℕ}
use lib.Dec.{T, leb, leb→le, le→leb}
use Rattle.plan.specs.Meaning.{Allows}
use Rattle.plan.specs.declared.Kind.{Kind}
use Rattle.plan.specs.declared.Kind.TheVariants.{Within, LengthAtMost}
use Rattle.walk.proofs.allows.Goals as goal

at_most : (kind : Kind) (bound k : ℕ) → (kind ≡ Within) ⊎ (kind ≡ LengthAtMost) → T (leb k bound) ↔ Allows kind bound k
at_most kind bound k (inl e) = rw e (leb→le k bound, le→leb k bound)
at_most kind bound k (inr e) = rw e (leb→le k bound, le→leb k bound)

pub returns-in-Within : goal.returns-in-Within
returns-in-Within c = rw c.from.ensures (at_most _ _ _ c.in-Within.is)
