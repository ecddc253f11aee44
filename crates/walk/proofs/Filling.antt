-- The sets of neighbours, filled edge by edge.
-- Assumes nothing.
use mathlib.Core.Path.{◌≡◌, refl, sym, ap, subst, ◌∙◌}
use mathlib.Core.Logic.{◌⊎◌, inl, inr, ⊎_elim}
use mathlib.Core.List.{List}
use Prim.Native.Nat.{ℕ, suc, ◌*◌, ◌%◌, ◌^◌, ◌<◌, ◌≤◌}
use native.Mathlib.Decide.{ℕ_discrete, dec_lt}
use native.Mathlib.Omega.{arith}
use lib.Bits.{bit_or}
use lib.ListN.{length, get_or, set, length-set, replicate}
use lib.Seq.{get_or-set_same, get_or-set_other}
use lib.Dec.{T}
use Rattle.plan.specs.Meaning.{Edge, Graph, edge}
use Rattle.plan.proofs.Bools.{or_cases, or_left, or_right}
use Rattle.walk.specs.Walking.{bit, Neighbours}
use Rattle.walk.specs.Front.{LeadsBelow, UpTo}
use Rattle.walk.proofs.Sets.{zeros, one_shifted, bit_empty, bit_or_lem, bit_one}

-- ---- one edge more

pub filled_none : (es : List Edge) (g : Graph) → UpTo es g 0 (replicate 64 0)
filled_none es g = record {
  places = refl;
  exact = λ u w l m. ((λ t. absurd (bit_empty w (subst (λ (x : ℕ). T (bit w x)) (zeros 64 u) t))), (λ d. absurd (omega (arith, d.1))));
}

module _ {es : List Edge} {g : Graph} {n : ℕ} {sets : List ℕ} (f : UpTo es g n sets) where
  up : {u w : ℕ} → LeadsBelow n es g u w → LeadsBelow (suc n) es g u w
  up d = (d.0, omega (arith, d.1))

  -- the last edge, or one before it
  last : {u w : ℕ} (d : LeadsBelow (suc n) es g u w) → (d.0.number ≡ n) ⊎ LeadsBelow n es g u w
  last d = elim (dec_lt d.0.number n) [ yes y ↦ inr (d.0, y) | no m ↦ inl (omega (arith, d.1)) ]

  pub filled_skip : (T (g (edge es n)) → ⊥) → UpTo es g (suc n) sets
  filled_skip o = record {
    places = f.places;
    exact = λ u w l m. (
      (λ t. up ((f.exact u w l m).0 t)),
      (λ d. ⊎_elim (λ e. absurd (o (subst (λ k. T (g (edge es k))) e d.0.present))) (λ b. (f.exact u w l m).1 b) (last d)),
    );
  }

  module _ (from to : ℕ) (inside : from < 64) (short : to < 64) (listed : n < length es) (present : T (g (edge es n))) (starts : (edge es n).from ≡ from) (ends : (edge es n).to ≡ to) where
    this : LeadsBelow (suc n) es g from to
    this = (record { number = n; listed = listed; present = present; starts = starts; ends = ends }, omega arith)

    its_set : (w : ℕ) → bit w (get_or (set sets from (bit_or (get_or sets from 0) (2 ^ to))) from 0) ≡ bit w (bit_or (get_or sets from 0) (2 ^ to))
    its_set w = ap (bit w) (get_or-set_same sets from (bit_or (get_or sets from 0) (2 ^ to)) 0 (omega (arith, f.places)))

    of_this : (w : ℕ) → w < 64 → T (bit w (get_or (set sets from (bit_or (get_or sets from 0) (2 ^ to))) from 0)) → LeadsBelow (suc n) es g from w
    of_this w m t = ⊎_elim
        (λ y. up ((f.exact from w inside m).0 y))
        (λ y. subst (λ x. LeadsBelow (suc n) es g from x) (sym ((bit_one w to).0 y)) this)
        (or_cases (bit w (get_or sets from 0)) (bit w (2 ^ to)) (subst (λ x. T x) (its_set w ∙ bit_or_lem w (get_or sets from 0) (2 ^ to)) t))

    to_this : (w : ℕ) → T (bit w (get_or sets from 0)) ⊎ (w ≡ to) → T (bit w (get_or (set sets from (bit_or (get_or sets from 0) (2 ^ to))) from 0))
    to_this w c = subst (λ x. T x) (sym (its_set w ∙ bit_or_lem w (get_or sets from 0) (2 ^ to)))
        (⊎_elim (λ y. or_left (bit w (get_or sets from 0)) _ y) (λ e. or_right (bit w (get_or sets from 0)) _ ((bit_one w to).1 e)) c)

    others : (u w : ℕ) → (u ≡ from → ⊥) → bit w (get_or (set sets from (bit_or (get_or sets from 0) (2 ^ to))) u 0) ≡ bit w (get_or sets u 0)
    others u w d = ap (bit w) (get_or-set_other sets from u (bit_or (get_or sets from 0) (2 ^ to)) 0 d)

    into : (u w : ℕ) → u < 64 → w < 64 → LeadsBelow (suc n) es g u w → T (bit w (get_or (set sets from (bit_or (get_or sets from 0) (2 ^ to))) u 0))
    into u w l m d = elim (ℕ_discrete u from) [
      | yes e ↦ subst (λ x. T (bit w (get_or (set sets from (bit_or (get_or sets from 0) (2 ^ to))) x 0))) (sym e) (to_this w (⊎_elim
          (λ k. inr (sym d.0.ends ∙ ap (λ x. (edge es x).to) k ∙ ends))
          (λ b. inl ((f.exact from w inside m).1 (subst (λ x. LeadsBelow n es g x w) e b)))
          (last d)))
      | no o ↦ subst (λ x. T x) (sym (others u w o)) (⊎_elim
          (λ k. absurd (o (sym d.0.starts ∙ ap (λ x. (edge es x).from) k ∙ starts)))
          (λ b. (f.exact u w l m).1 b)
          (last d))
    ]

    with_this : UpTo es g (suc n) (set sets from (bit_or (get_or sets from 0) (2 ^ to)))
    with_this = record {
      places = length-set sets from (bit_or (get_or sets from 0) (2 ^ to)) ∙ f.places;
      exact = λ u w l m. (
        (λ t. elim (ℕ_discrete u from) [
          | yes e ↦ subst (λ x. LeadsBelow (suc n) es g x w) (sym e) (of_this w m (subst (λ x. T (bit w (get_or (set sets from (bit_or (get_or sets from 0) (2 ^ to))) x 0))) e t))
          | no o ↦ up ((f.exact u w l m).0 (subst (λ x. T x) (others u w o) t))
        ]),
        (λ d. into u w l m d),
      );
    }

    -- as the code writes it
    pub filled_put : UpTo es g (suc n) (set sets from (bit_or (get_or sets from 0) ((1 * 2 ^ to) % 18446744073709551616)))
    filled_put = rw (one_shifted to short) with_this

-- all edges
pub filled_all : {es : List Edge} {g : Graph} {n : ℕ} {sets : List ℕ} → UpTo es g n sets → length es ≤ n → Neighbours es g sets
filled_all f h = record {
  exact = λ u w l m. ((λ t. ((f.exact u w l m).0 t).0), (λ d. (f.exact u w l m).1 (d, omega (arith, d.listed))));
}
