-- What a call leaves in a lent buffer. Document 01, "Numbers given on refusal", the last paragraph.
-- Assumes nothing.
use Rattle.std.specs.Prelude.{◌≡◌, List, ◌++◌, ℕ, ◌≤◌, ℤ, length, drop}

-- "Every buffer then keeps its bytes."
abbrev pub Kept : {A : Type 0} → List A → List A → Type 0
Kept before after = after ≡ before

-- "A written answer fills its first places; the rest stays."
abbrev pub Wrote : {A : Type 0} → List A → List A → List A → Type 0
Wrote answer before after = after ≡ answer ++ drop (length answer) before

-- The answer has room and is written, and n is its length.
pub record Answered (answer before after : List ℤ) (n : ℕ) : Type 0 where
  pub counted : n ≡ length answer
  pub fits : length answer ≤ length before
  pub wrote : Wrote answer before after
