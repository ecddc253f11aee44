-- `walk::lengths::lower`: the end of the edge gets the distance over it where `is_better` says so, and else keeps its own.
use mathlib.Core.Path.{◌≡◌, refl, sym, ◌∙◌}
use mathlib.Core.Logic.{◌⊎◌, inl, inr}
use mathlib.Core.Bool.{true, false}
use mathlib.Core.List.{List}
use Prim.Native.Nat.{ℕ, ◌+◌}
use lib.ListN.{get_or, set}
use lib.Seq.{set-get_or}
use Rattle.walk.specs.Nearest.{is_better, lowered}
use Rattle.walk.proofs.lengths.lower.Goals as goal
use Rattle.walk.proofs.lengths.lower.Goals.{then-is_better, else-is_better}

-- the better of the two, written in either case
lowers : (known node k : ℕ) (d : List ℕ) (best : ℕ) → ((is_better known d node k ≡ true) × (best ≡ k)) ⊎ ((is_better known d node k ≡ false) × (best ≡ get_or d node 0))
    → set d node best ≡ lowered known node k d
lowers known node k d best (inl x) = rw (x.0, x.1) refl
lowers known node k d best (inr x) = rw (x.0, x.1) (set-get_or d node 0)

pub returns : goal.returns
returns c =
    let w = c.from-to.ensures in
    let l = c.from.ensures in
    let a = c.args in
    rw w
    (lowers a.known a.edge.to (a.near + a.edge.length) a.far.now c.if-is_better.best
    (elim c.if-is_better.branch [
      | then-is_better t ↦ inl (rw (w, l) at (sym c.is_better.ensures ∙ t.if-is_better.true), rw l at t.best-is)
      | else-is_better e ↦ inr (rw (w, l) at (sym c.is_better.ensures ∙ e.if-is_better.false), rw w at e.best-is)
    ]))
