-- The words of a text. Document 02, C-11, with the readings of docs/DECISIONS.md.
-- Assumes nothing.
use Rattle.std.specs.Prelude.{ℕ, suc, Bool, true, cond, ◌&&◌, ◌||◌, List, [], ◌∷◌, ◌++◌, eqb}

-- "words are divided by blank, tab, CR, LF"; LF alone ends a line.
abbrev pub blank : ℕ
blank = 32

abbrev pub tab : ℕ
tab = 9

abbrev pub return : ℕ
return = 13

abbrev pub line_end : ℕ
line_end = 10

unfoldable pub divides : ℕ → Bool
divides b = eqb b blank || eqb b tab || eqb b return || eqb b line_end

-- A word: the offset of its first byte, whether it is the first of its line, and its bytes.
pub record Word : Type 0 where
  pub at : ℕ
  pub leads : Bool
  pub bytes : List ℕ

-- Where a byte stands: between two words, in a line that has none yet or in one that has; in a comment; in a word.
pub data Place : Type 0 where
  between : Bool → Place
  comment : Place
  inside : Word → Place

-- "A line whose first word begins with `c` is a comment, wherever it stands"
abbrev pub opens : Bool → ℕ → Bool
opens leads b = leads && eqb b 99

-- Where the byte behind the byte b at an offset stands.
unfoldable pub moved : Place → ℕ → ℕ → Place
moved (between leads) at b = cond (divides b) (between (leads || eqb b line_end)) (cond (opens leads b) comment (inside (record { at = at; leads = leads; bytes = b ∷ [] })))
moved comment at b = cond (eqb b line_end) (between true) comment
moved (inside w) at b = cond (divides b) (between (eqb b line_end)) (inside (record { at = w.at; leads = w.leads; bytes = w.bytes ++ (b ∷ []) }))

-- The word that the byte b ends; the word that the text's end ends.
unfoldable pub ended : Place → ℕ → List Word
ended (between leads) b = []
ended comment b = []
ended (inside w) b = cond (divides b) (w ∷ []) []

unfoldable pub last : Place → List Word
last (between leads) = []
last comment = []
last (inside w) = w ∷ []

-- The words of the bytes from an offset on, the first of which stands at a place.
unfoldable pub words : Place → ℕ → List ℕ → List Word
words p at [] = last p
words p at (b ∷ t) = ended p b ++ words (moved p at b) (suc at) t

-- "comments" are no words of the text
abbrev pub words_of : List ℕ → List Word
words_of text = words (between true) 0 text
