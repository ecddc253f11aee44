-- Writing into a lent slice from a place on.
-- Assumes nothing.
use Rattle.std.specs.Prelude.{◌≡◌, List, ◌++◌, ℕ, ◌+◌, ◌≤◌, length, take}
use Rattle.plan.specs.Buffers.{Wrote}

-- There is room for ws from the place at on.
pub record Room {A : Type 0} (ws : List A) (at : ℕ) (before : List A) : Type 0 where
  pub fits : at + length ws ≤ length before

-- What ws holds stands from the place at on, every other place keeps its value, and `end` is the place behind.
pub record Put {A : Type 0} (ws : List A) (at : ℕ) (before after : List A) (end : ℕ) : Type 0 where
  pub count : end ≡ at + length ws
  pub inside : end ≤ length before
  pub is : Wrote (take at before ++ ws) before after

-- The same as far as there is room; where there is none, nothing is said of what then stands there, and `end` is the place that would be behind.
pub record Laid {A : Type 0} (ws : List A) (at : ℕ) (before after : List A) (end : ℕ) : Type 0 where
  pub count : end ≡ at + length ws
  pub same : length after ≡ length before
  pub is : end ≤ length before → Wrote (take at before ++ ws) before after
