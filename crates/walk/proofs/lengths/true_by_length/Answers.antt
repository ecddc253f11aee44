-- `walk::lengths::true_by_length`: all atoms of a source are taken out of the set at once, and one walk says which of them are true.
use mathlib.Core.Path.{◌≡◌, sym, ap, ◌∙◌}
use Prim.Native.Nat.{ℕ, ◌-◌, ◌^◌, ◌<◌}
use native.Mathlib.Omega.{arith}
use borrow.Author.Rules.{rules}
use lib.ListN.{length, get_or}
use lib.Dec.{T, eqb→eq}
use lib.Bits.{bit_and}
use borrow.Author.Tests.{eq-eqb}
use lib.Count.{count_trailing_zeros}
use Rattle.std.proofs.Common.{nat_eq}
use Rattle.std.proofs.iter.Serving.{serving}
use Rattle.plan.specs.Meaning.{atom}
use Rattle.plan.specs.Tables.{atom_of, atoms_of}
use Rattle.plan.proofs.ByPlace.{blank_atom, atoms_length, atoms_at}
use Rattle.walk.specs.Walking.{bit, Those, Truth, TrueBy}
use Rattle.walk.proofs.Sets.{bit_empty, taken}
use Rattle.walk.proofs.Picking.{Less, less_part, left_all, left_less, chosen_none, chosen_all, chosen_more}
use Rattle.walk.proofs.Asked.{asked_true}
use Rattle.walk.proofs.Keeping.{those_kept}
use Rattle.walk.proofs.lengths.true_by_length.Goals as goal
use Rattle.walk.proofs.lengths.true_by_length.Goals.{After-filtered-same}

-- those of the atoms left that start where the lowest of them starts
module _ (c : After-filtered-same) where
  abbrev source : ℕ
  source = (get_or c.args.atoms.now (count_trailing_zeros 64 c.loop-rest.rest) blank_atom).from

  same : Those (λ k. (atom (atoms_of c.args.atoms.now) k).from ≡ source) c.loop-rest.rest c.filtered-same.result
  same = those_kept _ _ _ (λ k. (c.filtered-same.ensures k).1) (λ k t.
      let a = (c.filtered-same.ensures k).0 t in
      let q : bit k c.filtered-same.result ≡ nat_eq (get_or c.args.atoms.now k blank_atom).from source = search rules in
      let e = ap (λ x. x.from) (atoms_at c.args.atoms.now k) in
      rw q ((λ u. sym e ∙ eqb→eq _ _ u), (λ u. rw (eq-eqb _ _ (e ∙ u)) tt)))

  out : Less c.filtered-same.result c.loop-rest.rest (bit_and c.loop-rest.rest (2 ^ 64 - 1 - c.filtered-same.result))
  out = less_part _ _ _ c.loop-rest.auto.rest-fits.fits c.filtered-same.type_inv (λ k t. ((same k).0 t).0)
      ((same _).1 ((taken _ c.loop-rest.invariant.0.fits c.loop-rest-test.true).is, sym (ap (λ x. x.from) (atoms_at c.args.atoms.now (count_trailing_zeros 64 c.loop-rest.rest)))))

pub returns-then-asked-eq0 : goal.returns-then-asked-eq0
returns-then-asked-eq0 c = let e = c.if-asked-eq0.true in rw e (λ k. ((λ t. absurd (bit_empty k t)), (λ t. absurd (bit_empty k t.0))))

pub loop-rest-init : goal.loop-rest-init
loop-rest-init c = (left_all _ c.ranges.asked.fits, λ g x. chosen_none _ _)

pub bounds-atoms-rest : goal.bounds-atoms-rest
bounds-atoms-rest c =
    let l = c.loop-rest.invariant.0 in
    omega (arith, c.requires.length_atoms.listed _ (l.part _ (taken _ l.fits c.loop-rest-test.true).is), atoms_length c.args.atoms.now)

pub filtered-same-requires : goal.filtered-same-requires
filtered-same-requires c =
    λ k t.
    let h : k < length c.args.atoms.now = omega (arith, c.requires.length_atoms.listed k (c.loop-rest.invariant.0.part k t), atoms_length c.args.atoms.now) in
    grind (arith, serving)

pub filtered-those-requires : goal.filtered-those-requires
filtered-those-requires c =
    λ k t.
    let a = c.requires.length_atoms in
    let u : T (bit k c.args.asked) = c.loop-rest.invariant.0.part k ((c.filtered-same.ensures k).1 t) in
    let h : k < length c.args.atoms.now = omega (arith, a.listed k u, atoms_length c.args.atoms.now) in
    let h2 : (get_or c.args.atoms.now k blank_atom).to < 64 = omega (arith, a.to_in k u, ap (λ x. x.to) (atoms_at c.args.atoms.now k)) in
    grind (arith, serving)

pub length_walk-requires : goal.length_walk-requires
length_walk-requires c =
    let l = c.loop-rest.invariant.0 in
    record {
      chains = record { graph = _; chained = c.of-chains.ensures; inside = c.args.graph.now.inside; few = c.requires.edges_len_bound };
      source_bound = omega (arith, c.from.ensures, ap (λ x. x.from) (atoms_at c.args.atoms.now (count_trailing_zeros 64 c.loop-rest.rest)), c.requires.length_atoms.from_in _ (l.part _ (taken _ l.fits c.loop-rest-test.true).is));
    }

pub loop-rest-smaller : goal.loop-rest-smaller
loop-rest-smaller c = (out (goal.at.loop-rest-smaller c).After-filtered-same).fewer

pub loop-rest-preserved : goal.loop-rest-preserved
loop-rest-preserved c =
    let l = c.loop-rest.invariant in
    let s = (goal.at.loop-rest-preserved c).After-filtered-same in
    let by : TrueBy (atoms_of c.args.atoms.now) c.filtered-same.result c.length_walk.new.distances c.filtered-those.result =
    λ es g x. those_kept _ _ _ (λ k. (c.filtered-those.ensures k).1) (λ k t.
    let a = (c.filtered-those.ensures k).0 t in
    let q : Truth (atom_of (get_or c.args.atoms.now k blank_atom)) c.length_walk.new.distances (bit k c.filtered-those.result) = search rules in
    asked_true k c.requires.length_atoms (l.0.part k ((same s k).0 t).0) _ (atoms_at c.args.atoms.now k) _ _ q es g (x k t)) in (
      left_less l.0 (out s),
      λ g x. chosen_more _ _ _ _ l.0 (l.1 g x) _ _ _ (out s) (by _ g (λ k t. rw ((same s k).0 t).1 (rw c.from.ensures at (c.length_walk.ensures.table g x)))),
    )

pub returns : goal.returns
returns c = chosen_all _ _ _ _ c.loop-rest-test.false (c.loop-rest.invariant.1 _ c.of-chains.ensures)
