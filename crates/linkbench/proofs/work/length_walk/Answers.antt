-- The chains stay those of the edges from turn to turn.
use Rattle.std.proofs.Common.{rules}
use denote.Param.Always.{mut_by}
use Rattle.plan.specs.Tables.{edges_of}
use Rattle.walk.specs.Walking.{AreChains}
use Rattle.linkbench.proofs.work.length_walk.Goals as goal

pub summed-requires : goal.summed-requires
summed-requires c =
    mut_by _ (λ s. AreChains (edges_of s.0.now) s.1.now) (λ s a i. i) (λ s a r t i e. search rules) _ c.chains_of-chains.ensures
