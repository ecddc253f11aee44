-- Choosing from a set, part by part, its elements that have a property: what holds while parts are taken out of it, and why one part more keeps it.
-- Assumes nothing.
use mathlib.Core.Path.{◌≡◌, sym, subst}
use mathlib.Core.Logic.{◌⊎◌, inl, inr, ⊎_elim, ◌≢◌}
use Prim.Native.Nat.{ℕ, ◌-◌, ◌%◌, ◌^◌, ◌<◌}
use native.Mathlib.Omega.{arith}
use lib.Bits.{bit_and, bit_or, and_le_l}
use lib.Dec.{T}
use Rattle.plan.proofs.Bools.{T?, or_cases, or_left, or_right}
use Rattle.walk.specs.Walking.{bit, Those}
use Rattle.walk.proofs.Sets.{bit_empty, bit_or_lem, bit_without, taken}

-- the elements of X, some of those of `rest`, are taken out of it
pub record Less (X rest rest' : ℕ) : Type 0 where
  pub inside : (k : ℕ) → T (bit k X) → T (bit k rest)
  pub others : (k : ℕ) → T (bit k rest) → (T (bit k X) → ⊥) → T (bit k rest')
  pub kept : (k : ℕ) → T (bit k rest') → T (bit k rest)
  pub fewer : rest' < rest

-- all of a part that has one
pub less_part : (rest X i : ℕ) → rest < 2 ^ 64 → X < 2 ^ 64 → ((k : ℕ) → T (bit k X) → T (bit k rest)) → T (bit i X) → Less X rest (bit_and rest (2 ^ 64 - 1 - X))
less_part rest X i fits small inside t =
    let n : bit_and rest (2 ^ 64 - 1 - X) ≢ rest = λ e. ((bit_without i rest X fits small).0 (subst (λ (y : ℕ). T (bit i y)) (sym e) (inside i t))).1 t in
    record {
      inside = inside;
      others = λ k u o. (bit_without k rest X fits small).1 (u, o);
      kept = λ k u. ((bit_without k rest X fits small).0 u).0;
      fewer = omega (arith, and_le_l rest (2 ^ 64 - 1 - X), n);
    }

-- what is left to look at
pub record Left (asked rest : ℕ) : Type 0 where
  pub fits : rest < 2 ^ 64
  pub part : (k : ℕ) → T (bit k rest) → T (bit k asked)

pub left_all : (asked : ℕ) → asked < 2 ^ 64 → Left asked asked
left_all asked fits = record { fits = fits; part = λ k t. t }

pub left_less : {asked rest X rest' : ℕ} → Left asked rest → Less X rest rest' → Left asked rest'
left_less l x = record { fits = omega (arith, l.fits, x.fewer); part = λ k t. l.part k (x.kept k t) }

-- those chosen so far have the property, and whatever has it is chosen or left
pub record Chosen (P : ℕ → Type 0) (asked those rest : ℕ) : Type 0 where
  pub right : (k : ℕ) → T (bit k those) → T (bit k asked) × P k
  pub all : (k : ℕ) → T (bit k asked) → P k → T (bit k those) ⊎ T (bit k rest)

module _ (P : ℕ → Type 0) where
  pub chosen_none : (asked : ℕ) → Chosen P asked 0 asked
  chosen_none asked = record { right = λ k t. absurd (bit_empty k t); all = λ k t p. inr t }

  pub chosen_all : (asked those rest : ℕ) → rest ≡ 0 → Chosen P asked those rest → Those P asked those
  chosen_all asked those rest e c k =
      ((λ t. c.right k t), (λ t. ⊎_elim (λ u. u) (λ u. absurd (bit_empty k (subst (λ (y : ℕ). T (bit k y)) e u))) (c.all k t.0 t.1)))

  module _ (asked those rest : ℕ) (l : Left asked rest) (c : Chosen P asked those rest) where
    -- a part X is taken out, of which r has the property
    pub chosen_more : (X r rest' : ℕ) → Less X rest rest' → Those P X r → Chosen P asked (bit_or those r) rest'
    chosen_more X r rest' x h = record {
      right = λ k t. ⊎_elim
          (λ u. c.right k u)
          (λ u. let q = (h k).0 u in (l.part k (x.inside k q.0), q.1))
          (or_cases (bit k those) (bit k r) (subst (λ b. T b) (bit_or_lem k those r) t));
      all = λ k t p. ⊎_elim
          (λ u. inl (subst (λ b. T b) (sym (bit_or_lem k those r)) (or_left (bit k those) (bit k r) u)))
          (λ u. ⊎_elim
          (λ y. inl (subst (λ b. T b) (sym (bit_or_lem k those r)) (or_right (bit k those) (bit k r) ((h k).1 (y, p)))))
          (λ n. inr (x.others k u n))
          (T? (bit k X)))
          (c.all k t p);
    }
