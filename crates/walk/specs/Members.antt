-- What a walk over the members of a set says of each step.
-- Assumes nothing.
use Rattle.std.specs.Prelude.{◌≡◌, ℕ, ◌-◌, ◌^◌, ◌<◌, MatchOption, Option, bit_and}
use Rattle.std.specs.Int.Count.{count_trailing_zeros}
use Rattle.walk.specs.declared.members.Members.{Members}

-- The lowest member of the set x is k, and `rest` is the set without it.
pub record Lowest (x k rest : ℕ) : Type 0 where
  pub fits : x < 2 ^ 64
  pub some : x ≡ 0 → ⊥
  pub inside : k < 64
  pub first : k ≡ count_trailing_zeros 64 x
  pub others : rest ≡ bit_and x (x - 1)

-- A step takes out the lowest member, or finds none.
abbrev pub TakesLowest : Members → Option ℕ → Members → Type 0
TakesLowest s r t = MatchOption r (s.0 ≡ 0) (λ k. Lowest s.0 k t.0)
