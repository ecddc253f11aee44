-- That the tables are lent has one proof at the most, which a field of a struct needs.
-- Assumes nothing.
use Rattle.std.specs.Prelude.{List, ℕ, ℤ}
use Rattle.std.proofs.Props.{props}
use Rattle.plan.specs.Ranged.{BoundFits}
use Rattle.plan.specs.Tables.{Lent}
use Rattle.plan.specs.declared.Kind.{Kind}
use Rattle.plan.specs.declared.Kind.TheVariants.{Reaches, Within, LengthAtMost}
use Rattle.plan.specs.declared.Plan.{Plan}
use Rattle.plan.specs.declared.Edge.{Edge}
use Rattle.plan.specs.declared.Atom.{Atom}

pub bound_fits_once : (kind : Kind) (d : ℕ) → IsProp (BoundFits kind d)
bound_fits_once Reaches d = Prim.hlevel props
bound_fits_once Within d = Prim.hlevel props
bound_fits_once LengthAtMost d = Prim.hlevel props

pub lent_once : (p : Plan) (es : List Edge) (bs : List Atom) (cs : List ℤ) → IsProp (Lent p es bs cs)
lent_once p es bs cs = Prim.hlevel (props, bound_fits_once)
