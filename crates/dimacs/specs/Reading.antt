-- What a text reads as. Document 02, C-11, with the readings of docs/DECISIONS.md: refusals 20, 21, 22 and 7.
-- Assumes nothing.
use Rattle.std.specs.Prelude.{ℕ, zero, suc, ◌+◌, Bool, true, false, not, cond, ◌&&◌, List, [], ◌∷◌, ◌++◌, ltb, leb, eqb, ℤ, pos, negsuc, length}
use Rattle.std.proofs.Math.Option.{Option, none, some}
use Rattle.plan.specs.Ranged.{max_clauses, max_literals}
use Rattle.dimacs.specs.Words.{Word, words_of}
use Rattle.dimacs.specs.Numbers.{number_in}

-- A clause of the text: the offset of its first word, and its literals.
pub record Rule : Type 0 where
  pub at : ℕ
  pub literals : List ℤ

-- "20 bad text, at its first bad word or the end"; or a good text: the offset of its word `p`, the two numbers of the `p` line, and the clauses.
pub data Text : Type 0 where
  bad : ℕ → Text
  good : ℕ → ℕ → ℕ → List Rule → Text

abbrev pub check : Bool → ℕ → Text → Text
check true at t = t
check false at t = bad at

unfoldable pub same : List ℕ → List ℕ → Bool
same [] [] = true
same [] (b ∷ y) = false
same (a ∷ x) [] = false
same (a ∷ x) (b ∷ y) = eqb a b && same x y

abbrev pub problem : List ℕ
problem = 112 ∷ []

abbrev pub format : List ℕ
format = 99 ∷ 110 ∷ 102 ∷ []

-- "V and C not below 0"
abbrev pub not_below : Option ℤ → Option ℕ
not_below none = none
not_below (some (pos n)) = some n
not_below (some (negsuc n)) = none

abbrev pub counted : Option ℕ → ℕ → (ℕ → Text) → Text
counted none at f = bad at
counted (some n) at f = f n

-- The clause that is not ended yet; with no literals where one is yet to begin.
abbrev pub nothing : Rule
nothing = record { at = 0; literals = [] }

abbrev pub begun : Rule → Bool
begun r = ltb 0 (length r.literals)

-- "the clause's first word", for 7: where no literal came before the word at an offset it is that word, so it is the 0 of a clause with no literals
abbrev pub first_word : Rule → ℕ → ℕ
first_word r at = cond (begun r) r.at at

abbrev pub longer : Rule → ℕ → ℤ → Rule
longer r at l = record { at = first_word r at; literals = r.literals ++ (l ∷ []) }

abbrev pub ended_at : Rule → ℕ → Rule
ended_at r at = record { at = first_word r at; literals = r.literals }

-- What a word behind the `p` line leads to: it is bad, or these clauses are ended and this one is not.
pub data Turn : Type 0 where
  wrong : Turn
  goes : List Rule → Rule → Turn

-- "a literal above the `p` line's variable count" is bad; a 0 with no literal before it is an empty clause (02, C-12)
abbrev pub taken : ℕ → List Rule → Rule → ℕ → Option ℤ → Turn
taken variables done r at none = wrong
taken variables done r at (some (pos zero)) = goes (done ++ (ended_at r at ∷ [])) nothing
taken variables done r at (some (pos (suc n))) = cond (leb (suc n) variables) (goes done (longer r at (pos (suc n)))) wrong
taken variables done r at (some (negsuc n)) = cond (leb (suc n) variables) (goes done (longer r at (negsuc n))) wrong

unfoldable pub turn : ℕ → List Rule → Rule → Word → Turn
turn variables done r w = taken variables done r w.at (number_in w.bytes)

abbrev pub onward : ℕ → (List Rule → Rule → Text) → Turn → Text
onward at f wrong = bad at
onward at f (goes done r) = f done r

-- A text with its end at an offset.
module _ (end : ℕ) where
  -- "A clause may start and end anywhere behind the `p` line"; "a clause unended" is bad at the end
  unfoldable pub clauses : ℕ → ℕ → ℕ → List Rule → Rule → List Word → Text
  clauses p variables count done r [] = check (not (begun r)) end (good p variables count done)
  clauses p variables count done r (w ∷ ws) = onward w.at (λ d s. clauses p variables count d s ws) (turn variables done r w)

  -- The next word, and what it leads to; "or the end"
  abbrev pub next : List Word → (Word → List Word → Text) → Text
  next [] f = bad end
  next (w ∷ ws) f = f w ws

  -- "one line of exactly the four words `p cnf V C`": a word of that line is no other line's first
  abbrev pub on_line : List Word → (Word → List Word → Text) → Text
  on_line ws f = next ws (λ w rest. check (not w.leads) w.at (f w rest))

  -- "a word too many on it .. is the bad word"
  unfoldable pub behind : ℕ → ℕ → ℕ → List Word → Text
  behind p variables count [] = clauses p variables count [] nothing []
  behind p variables count (w ∷ ws) = check w.leads w.at (clauses p variables count [] nothing (w ∷ ws))

  unfoldable pub count : ℕ → ℕ → List Word → Text
  count p variables ws = on_line ws (λ w rest. counted (not_below (number_in w.bytes)) w.at (λ n. behind p variables n rest))

  unfoldable pub variables : ℕ → List Word → Text
  variables p ws = on_line ws (λ w rest. counted (not_below (number_in w.bytes)) w.at (λ n. count p n rest))

  unfoldable pub cnf : ℕ → List Word → Text
  cnf p ws = on_line ws (λ w rest. check (same w.bytes format) w.at (variables p rest))

  unfoldable pub whole : List Word → Text
  whole ws = next ws (λ w rest. check (same w.bytes problem) w.at (cnf w.at rest))

unfoldable pub read_text : List ℕ → Text
read_text text = whole (length text) (words_of text)

-- The clauses that a text holds.
unfoldable pub literals_of : List Rule → List (List ℤ)
literals_of [] = []
literals_of (r ∷ rs) = r.literals ∷ literals_of rs

-- "7 .., where the file's clauses and the text's so far would be above 1,024 or 4,096": the offset of the first such clause behind so many
-- clauses and literals, where there is one.
unfoldable pub first_over : ℕ → ℕ → List Rule → Option ℕ
first_over clauses literals [] = none
first_over clauses literals (r ∷ rs) =
    cond (ltb clauses max_clauses && leb (literals + length r.literals) max_literals) (first_over (suc clauses) (literals + length r.literals) rs) (some r.at)

-- What reading a text as rules for a plan comes to: a refusal with its number and returned value, or the clauses.
pub data Rules : Type 0 where
  refused : ℕ → ℕ → Rules
  rules : List Rule → Rules

abbrev pub require : Bool → ℕ → ℕ → Rules → Rules
require true n v r = r
require false n v r = refused n v

abbrev pub limited : Option ℕ → Rules → Rules
limited none r = r
limited (some at) r = refused 7 at

-- "Refusals, in this order: 20 .., 21 clause count not the `p` line's, 22 more variables than the plan's, both at the `p` line; then 7, at the clause": for
-- a plan of so many variables, clauses and literals.
abbrev pub rules_of : ℕ → ℕ → ℕ → Text → Rules
rules_of variables clauses literals (bad at) = refused 20 at
rules_of variables clauses literals (good p v c rs) =
    require (eqb (length rs) c) 21 p (require (leb v variables) 22 p (limited (first_over clauses literals rs) (rules rs)))

unfoldable pub read_rules : ℕ → ℕ → ℕ → List ℕ → Rules
read_rules variables clauses literals text = rules_of variables clauses literals (read_text text)
