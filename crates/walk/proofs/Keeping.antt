-- The members of a set that a test keeps: what holds while one member after another is asked, and what the answers then say.
-- Assumes nothing.
use mathlib.Core.Path.{◌≡◌, refl, sym, subst}
use mathlib.Core.Logic.{◌⊎◌, inl, inr, ⊎_elim, ◌≢◌, ◌↔◌}
use mathlib.Core.Bool.{Bool, true, false}
use Prim.Native.Nat.{ℕ, ◌*◌, ◌%◌, ◌^◌}
use native.Mathlib.Decide.{ℕ_discrete}
use lib.Bits.{bit_or}
use lib.Dec.{T}
use Rattle.plan.proofs.Bools.{T_same}
use Rattle.walk.specs.Walking.{bit, Those}
use Rattle.walk.proofs.Sets.{bit_empty, one_shifted, more_old, more_new, more_which, Taken}

-- What a test may answer of each number.
abbrev pub Answers : Type 1
Answers = ℕ → Bool → Type 0

-- A member is left, or it is in `those` exactly as the test answered; who is left is not in `those` yet.
pub record Kept (A : Answers) (set those rest : ℕ) : Type 0 where
  pub part : (k : ℕ) → T (bit k rest) → T (bit k set)
  pub kept : (k : ℕ) → T (bit k those) → T (bit k set)
  pub apart : (k : ℕ) → T (bit k those) → T (bit k rest) → ⊥
  pub told : (k : ℕ) → T (bit k set) → T (bit k rest) ⊎ A k (bit k those)

module _ {A : Answers} {set : ℕ} where
  pub kept_none : Kept A set 0 set
  kept_none = record {
    part = λ k t. t;
    kept = λ k t. absurd (bit_empty k t);
    apart = λ k t. absurd (bit_empty k t);
    told = λ k t. inl t;
  }

  pub kept_all : {those rest : ℕ} → Kept A set those rest → rest ≡ 0 → (k : ℕ) → (T (bit k set) → A k (bit k those)) × (T (bit k those) → T (bit k set))
  kept_all v e k = ((λ t. ⊎_elim (λ u. absurd (bit_empty k (subst (λ (y : ℕ). T (bit k y)) e u))) (λ a. a) (v.told k t)), v.kept k)

  -- one member is asked
  module _ {those rest k rest' : ℕ} (v : Kept A set those rest) (t : Taken rest k rest') where
    one_more : (b : Bool) → A k b → (those' : ℕ) → bit k those' ≡ b → ((j : ℕ) → j ≢ k → bit j those' ≡ bit j those) → Kept A set those' rest'
    one_more b a those' here same = record {
      part = λ j u. v.part j (t.kept j u);
      kept = λ j u. elim (ℕ_discrete j k) [
        | yes e ↦ v.part j (subst (λ (y : ℕ). T (bit y rest)) (sym e) t.is)
        | no d ↦ v.kept j (subst (λ x. T x) (same j d) u)
      ];
      apart = λ j u w. elim (ℕ_discrete j k) [
        | yes e ↦ t.gone (subst (λ (y : ℕ). T (bit y rest')) e w)
        | no d ↦ v.apart j (subst (λ x. T x) (same j d) u) (t.kept j w)
      ];
      told = λ j u. elim (ℕ_discrete j k) [
        | yes e ↦ inr (subst (λ (y : ℕ). A y (bit y those')) (sym e) (subst (λ x. A k x) (sym here) a))
        | no d ↦ ⊎_elim
            (λ w. ⊎_elim (λ e. absurd (d e)) (λ o. inl o) (t.other j w))
            (λ a'. inr (subst (λ x. A j x) (sym (same j d)) a'))
            (v.told j u)
      ];
    }

    pub kept_in : A k true → Kept A set (bit_or those ((1 * 2 ^ k) % 18446744073709551616)) rest'
    kept_in a =
        rw (one_shifted k t.inside) (one_more true a _ (T_same _ true (λ _. tt) (λ _. more_new k those))
        (λ j d. T_same _ _ (λ u. ⊎_elim (λ o. o) (λ e. absurd (d e)) (more_which k j those u)) (more_old k j those)))

    pub kept_out : A k false → Kept A set those rest'
    kept_out a = one_more false a those (T_same _ false (λ u. v.apart k u t.is) (λ u. absurd u)) (λ j d. refl)

-- where the answers say whether a member has a property, those that are kept are those with the property
pub those_kept : (P : ℕ → Type 0) (set r : ℕ) → ((k : ℕ) → T (bit k r) → T (bit k set)) → ((k : ℕ) → T (bit k set) → T (bit k r) ↔ P k) → Those P set r
those_kept P set r part h j = ((λ t. let m = part j t in (m, (h j m).0 t)), (λ p. (h j p.0).1 p.1))
