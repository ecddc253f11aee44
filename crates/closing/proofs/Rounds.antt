-- Atoms and clauses in turn, to the end: what no rule changes any more is closed.
-- Assumes nothing.
use mathlib.Core.Path.{refl, sym, subst, ◌∙◌}
use mathlib.Core.Bool.{Bool, true, false, not}
use mathlib.Core.List.{List, Memᴰ}
use Prim.Native.Nat.{◌-◌}
use native.Mathlib.Omega.{arith}
use lib.ListN.{length}
use lib.IntN.{ℤ}
use lib.Dec.{T, T_not, not_T}
use Rattle.plan.specs.Meaning.{Edge, Atom, PlanFile, on, off, true_in, under, over}
use Rattle.plan.specs.Ranged.{Ranged}
use Rattle.plan.specs.Closing.{Settles, unit, settled, Obeys}
use Rattle.plan.specs.Search.{Assigned, Closes}
use Rattle.plan.specs.Tables.{edges_of, BeginsWith}
use Rattle.std.specs.Prelude.{Ok}
use Rattle.plan.specs.declared.Edge as struct-of-edge
use Rattle.plan.proofs.Closing.{edges_long}
use Rattle.plan.proofs.Exists.{step_done}
use Rattle.plan.proofs.Values.{true_on, true_off, value_at_lem}
use Rattle.plan.proofs.Walks.{true_mono}
use Rattle.walk.specs.Walking.{Placed}
use Rattle.unit.specs.Onward.{Onward}
use Rattle.unit.proofs.Steps.{onward_then, onward_fewer}
use Rattle.closing.specs.Closed.{Looks}
use Rattle.closing.specs.Atoms.{BothHeard}
use Rattle.closing.specs.Rounds.{SameEdges, ClausesQuiet, AtomsQuiet, Round}
use Rattle.closing.specs.declared.Step.TheVariants.{Set, Still}

-- with the same edges the same is settled of an atom
settles_same : (b : Bool) (φ : PlanFile) → Ranged φ → (v w : List ℤ) → SameEdges φ.edges v w → (A : Atom) → Settles φ (true_in w) A b → Settles φ (true_in v) A b
settles_same true φ ok v w s A x = true_mono φ.edges (edges_long φ ok) (under (true_in w)) (under (true_in v)) A back x
  where
    back : (e : Edge) → Memᴰ e φ.edges → T (true_in w (on e.variable)) → T (true_in v (on e.variable))
    back e i t = (true_on v e.variable).1 (sym (s e i) ∙ (true_on w e.variable).0 t)
settles_same false φ ok v w s A x = λ y. x (true_mono φ.edges (edges_long φ ok) (over (true_in v)) (over (true_in w)) A back y)
  where
    back : (e : Edge) → Memᴰ e φ.edges → T (not (true_in v (off e.variable))) → T (not (true_in w (off e.variable)))
    back e i t =
        let low = (ok.edge e i).low in
        not_T (true_in w (off e.variable)) (λ u. T_not (true_in v (off e.variable)) t ((true_off v e.variable low).1 (sym (s e i) ∙ (true_off w e.variable low).0 u)))

-- a copy has the same values
pub same_copy : (es : List struct-of-edge.Edge) (v r w : List ℤ) → Placed (edges_of es) (length v) → BeginsWith r v → SameEdges (edges_of es) r w → SameEdges (edges_of es) v w
same_copy es v r w p b s e m =
    let q = p e m in
    s e m ∙ value_at_lem r e.variable (e.variable - 1) q.0 refl ∙ b (e.variable - 1) (omega (arith, q.0, q.1)) ∙ sym (value_at_lem v e.variable (e.variable - 1) q.0 refl)

-- a round, from v by the atoms to u and by the clauses to w
module _ (φ : PlanFile) (ok : Ranged φ) (v u : List ℤ) where
  pub round_still : ClausesQuiet φ v → Looks φ (BothHeard φ v u) v u (Ok Still) → Round φ v u (Ok Still)
  round_still q x =
      let e = sym x.tells.0 in
      record { onward = x.onward; tells = (subst (ClausesQuiet φ) e q, subst (λ z. BothHeard φ z u) e x.tells.1) }

  module _ (w : List ℤ) (x : Looks φ (BothHeard φ v u) v u (Ok Set)) (o : Onward φ u w) (q : ClausesQuiet φ w) where
    pub round_set : Round φ v w (Ok Set)
    round_set = record { onward = onward_then φ v u w x.onward o; tells = (omega (arith, x.tells.0, onward_fewer φ u w x.onward.shape o), q) }

    pub round_same : SameEdges φ.edges v w → Round φ v w (Ok Still)
    round_same s = record {
      onward = onward_then φ v u w x.onward o;
      tells = (q, λ b A m y. o.above _ (x.tells.1 b A m (settles_same b φ ok v w s A y)));
    }

-- all quiet: closed
pub all_quiet : (φ : PlanFile) → Ranged φ → (a : List ℤ) → Assigned φ.variables a → ClausesQuiet φ a → AtomsQuiet φ a → Closes φ a a
all_quiet φ ok a s q r = step_done φ ok a s obeys (λ C m f. (q C m).free f)
  where
    obeys : Obeys φ (true_in a)
    obeys l (unit C m k i others) = (q C m).there k i others
    obeys l (settled A m b x) = r b A m x
