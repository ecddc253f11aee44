-- `walk::lengths::length_atoms`: the atoms before the place that count lengths are in the set, and no others.
use mathlib.Core.Path.{◌≡◌, refl, sym, ap, ◌∙◌, subst}
use mathlib.Core.Logic.{◌↔◌, ⊎_elim}
use mathlib.Core.Bool.{true, false}
use Prim.Native.Nat.{ℕ, ◌+◌, ◌^◌, ◌<◌}
use native.Mathlib.Decide.{dec_lt}
use native.Mathlib.Omega.{arith}
use denote.Enum.Bare.{sameb}
use lib.Bits.{bit_or}
use lib.Dec.{T}
use lib.ListN.{length}
use Rattle.plan.specs.Meaning.{measure_of}
use Rattle.plan.specs.contracts.Measure.{the_type}
use Rattle.plan.specs.declared.Measure.{Measure}
use Rattle.plan.specs.declared.Measure.TheVariants.{Hops, Lengths}
use Rattle.plan.proofs.ByPlace.{atoms_at}
use Rattle.walk.specs.Walking.{bit}
use Rattle.walk.proofs.Sets.{bit_empty, one_shifted, more_old, more_new, more_which}
use Rattle.walk.proofs.lengths.length_atoms.Goals as goal
use Rattle.walk.proofs.lengths.length_atoms.Goals.{then-eq, else-eq}

counts : (m : Measure) → sameb the_type m Lengths ≡ true → m ≡ Lengths
counts Hops e = cc
counts Lengths e = refl

counts_not : (m : Measure) → sameb the_type m Lengths ≡ false → m ≡ Lengths → ⊥
counts_not Hops e q = cc
counts_not Lengths e q = cc

-- one atom more: in the set where it counts lengths, and the others as they were
module _ (P : ℕ → Type 0) (k those : ℕ) (old : (j : ℕ) → T (bit j those) ↔ ((j < k) × P j)) where
  more_in : P k → (j : ℕ) → T (bit j (bit_or those (2 ^ k))) ↔ ((j < k + 1) × P j)
  more_in p j = (
    (λ t. ⊎_elim (λ u. let q = (old j).0 u in (omega (arith, q.0), q.1)) (λ e. (omega arith, subst P (sym e) p)) (more_which k j those t)),
    (λ q. elim (dec_lt j k) [
      | yes y ↦ more_old k j those ((old j).1 (y, q.1))
      | no n ↦ let e : k ≡ j = omega (arith, q.0) in subst (λ (i : ℕ). T (bit i (bit_or those (2 ^ k)))) e (more_new k those)
    ]),
  )

  none_in : (P k → ⊥) → (j : ℕ) → T (bit j those) ↔ ((j < k + 1) × P j)
  none_in n j = (
    (λ t. let q = (old j).0 t in (omega (arith, q.0), q.1)),
    (λ q. elim (dec_lt j k) [
      | yes y ↦ (old j).1 (y, q.1)
      | no o ↦ let e : j ≡ k = omega (arith, q.0) in absurd (n (subst P e q.1))
    ]),
  )

pub loop-k-init : goal.loop-k-init
loop-k-init c = λ j. ((λ t. absurd (bit_empty j t)), (λ q. absurd (omega (arith, q.0))))

pub loop-k-preserved : goal.loop-k-preserved
loop-k-preserved c =
    let is = sym (ap (λ A. measure_of A.kind) (atoms_at c.args.atoms.now c.loop-k.k)) ∙ sym c.measure.ensures in
    elim c.if-eq.branch [
      | then-eq w ↦ rw (w.those-is, one_shifted c.loop-k.k (omega arith)) (more_in _ _ _ c.loop-k.invariant (is ∙ counts _ (sym c.eq.ensures ∙ w.if-eq.true)))
      | else-eq w ↦ rw w.those-is (none_in _ _ _ c.loop-k.invariant (λ p. counts_not _ (sym c.eq.ensures ∙ w.if-eq.false) (sym is ∙ p)))
    ]

pub returns : goal.returns
returns c =
    let e : c.loop-k.k ≡ length c.args.atoms.now = omega arith in
    record { few = c.requires; exact = λ j. rw e at (c.loop-k.invariant j) }
