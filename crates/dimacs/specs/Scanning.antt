-- What the code's answers say of the definition of reading.
-- Assumes nothing.
use Rattle.std.specs.Prelude.{ℕ, ◌+◌, ◌-◌, ◌≤◌, ◌<◌, ◌≡◌, Bool, true, false, List, [], ◌∷◌, ◌++◌, ℤ, length, get_or, take, drop, Option as Option·code, Some, None, Result, Ok, Err}
use Rattle.std.proofs.Math.Option.{Option, none, some}
use Rattle.plan.specs.Front.{Laid}
use Rattle.plan.specs.Ranged.{literals}
use Rattle.plan.specs.Written.{flat}
use Rattle.plan.specs.Refusals.{number_of, value_of}
use Rattle.plan.specs.declared.refusal.Refusal.{Refusal}
use Rattle.dimacs.specs.Words.{Word, Place, between, comment, inside, divides, words}
use Rattle.dimacs.specs.Numbers.{number_in}
use Rattle.dimacs.specs.Reading as reading
use Rattle.dimacs.specs.Reading.{Rule, Text, bad, good, Rules, refused, rules, counted, not_below, on_line, nothing, begun, clauses, literals_of, first_over}
use Rattle.dimacs.specs.declared.words.Word as struct-of-word
use Rattle.dimacs.specs.declared.words.Gap.{Gap}
use Rattle.dimacs.specs.declared.head.Head.{Head}
use Rattle.dimacs.specs.declared.head.BadText.{BadText}
use Rattle.dimacs.specs.declared.clauses.Tally.{Tally}
use Rattle.dimacs.specs.declared.Rules as struct-of-rules

-- The words that are left at an offset which stands at a place.
abbrev pub left : Place → List ℕ → ℕ → List Word
left p text at = words p at (drop at text)

-- The bytes from one offset up to another.
abbrev pub part : List ℕ → ℕ → ℕ → List ℕ
part text from to = take (to - from) (drop from text)

-- The code's word, with its bytes.
abbrev pub word_of : List ℕ → struct-of-word.Word → Word
word_of text w = record { at = w.start; leads = w.leads; bytes = part text w.start w.end }

-- Behind the dividers from an offset on.
pub record Skipped (text : List ℕ) (from : ℕ) (leads : Bool) (g : Gap) : Type 0 where
  pub after : from ≤ g.at
  pub within : g.at ≤ length text
  pub here : g.at < length text → divides (get_or text g.at 0) ≡ false
  pub same : left (between leads) text from ≡ left (between g.leads) text g.at

-- Behind the rest of a comment.
pub record Passed (text : List ℕ) (from r : ℕ) : Type 0 where
  pub after : from ≤ r
  pub within : r ≤ length text
  pub same : left comment text from ≡ left (between true) text r

-- Behind the rest of a word.
pub record Extended (text : List ℕ) (from r : ℕ) : Type 0 where
  pub after : from ≤ r
  pub within : r ≤ length text
  pub same : (w : Word) → left (inside w) text from ≡ record { at = w.at; leads = w.leads; bytes = w.bytes ++ part text from r } ∷ left (between false) text r

-- The next word.
pub record Ahead (text : List ℕ) (from : ℕ) (leads : Bool) (w : struct-of-word.Word) : Type 0 where
  pub after : from ≤ w.start
  pub some_bytes : w.start < w.end
  pub within : w.end ≤ length text
  pub same : left (between leads) text from ≡ word_of text w ∷ left (between false) text w.end

abbrev pub WordIs : List ℕ → ℕ → Bool → Option·code struct-of-word.Word → Type 0
WordIs text from leads (Some w) = Ahead text from leads w
WordIs text from leads None = left (between leads) text from ≡ []

-- What the code's answer has, if it has something.
abbrev pub as_option : {A : Type 0} → Option·code A → Option A
as_option None = none
as_option (Some x) = some x

-- A word of the `p` line, and a number not below 0 there: what the definition goes on with.
pub record FieldAt (text : List ℕ) (from : ℕ) (w : struct-of-word.Word) : Type 0 where
  pub some_bytes : w.start < w.end
  pub within : w.end ≤ length text
  pub same : (f : Word → List Word → Text) → on_line (length text) (left (between false) text from) f ≡ f (word_of text w) (left (between false) text w.end)

abbrev pub FieldIs : List ℕ → ℕ → Result struct-of-word.Word BadText → Type 0
FieldIs text from (Err e) = (f : Word → List Word → Text) → on_line (length text) (left (between false) text from) f ≡ bad e.at
FieldIs text from (Ok w) = FieldAt text from w

abbrev pub count_at : List ℕ → ℕ → (ℕ → List Word → Text) → Text
count_at text from f = on_line (length text) (left (between false) text from) (λ w rest. counted (not_below (number_in w.bytes)) w.at (λ n. f n rest))

abbrev pub CountIs : List ℕ → ℕ → Result (ℕ × ℕ) BadText → Type 0
CountIs text from (Err e) = (f : ℕ → List Word → Text) → count_at text from f ≡ bad e.at
CountIs text from (Ok (n, end)) = (end ≤ length text) × ((f : ℕ → List Word → Text) → count_at text from f ≡ f n (left (between false) text end))

-- The `p` line, or its rest: what the definition leads to is bad at an offset, or the clauses behind the line.
abbrev pub HeadIs : List ℕ → Text → Result Head BadText → Type 0
HeadIs text x (Err e) = x ≡ bad e.at
HeadIs text x (Ok h) = (h.end ≤ length text) × (x ≡ clauses (length text) h.at h.variables h.count [] nothing (left (between false) text h.end))

-- How many places of the table are in use, or would be with room for all.
abbrev pub used : Tally → ℕ
used t = t.literals + t.clauses + t.unended

-- What stands of the clauses so far: those that are ended and the one that is not, behind the own clauses and literals of a plan file. In the table
-- stand the literals, each ended clause with its 0, as far as there is room.
pub record Tallied (ownClauses ownLiterals : ℕ) (done : List Rule) (r : Rule) (before after : List ℤ) (t : Tally) : Type 0 where
  pub clauses : t.clauses ≡ length done
  pub literals : t.literals ≡ literals (literals_of done)
  pub begins : begun r ≡ true → t.start ≡ r.at
  pub unended : t.unended ≡ length r.literals
  pub limit : as_option t.past ≡ first_over ownClauses ownLiterals done
  pub stands : Laid (flat (literals_of done) ++ r.literals) 0 before after (used t)

-- A turn counts one place more.
abbrev pub OneMore : Tally → Result Tally BadText → Type 0
OneMore t (Err e) = Unit {0}
OneMore t (Ok u) = used u ≡ used t + 1

-- A word at an offset behind the `p` line: the code's turn is the definition's.
abbrev pub TurnIs : ℕ → ℕ → ℕ → List ℤ → List ℤ → reading.Turn → Result Tally BadText → Type 0
TurnIs ownClauses ownLiterals at before after reading.wrong (Err e) = e.at ≡ at
TurnIs ownClauses ownLiterals at before after reading.wrong (Ok t) = ⊥
TurnIs ownClauses ownLiterals at before after (reading.goes done r) (Err e) = ⊥
TurnIs ownClauses ownLiterals at before after (reading.goes done r) (Ok t) = Tallied ownClauses ownLiterals done r before after t

-- All words behind the `p` line.
abbrev pub ScanIs : ℕ → ℕ → List ℤ → List ℤ → Text → Result Tally BadText → Type 0
ScanIs ownClauses ownLiterals before after (bad at) (Err e) = e.at ≡ at
ScanIs ownClauses ownLiterals before after (bad at) (Ok t) = ⊥
ScanIs ownClauses ownLiterals before after (good p v c rs) (Err e) = ⊥
ScanIs ownClauses ownLiterals before after (good p v c rs) (Ok t) = Tallied ownClauses ownLiterals rs nothing before after t

-- The rules stand in the table's front.
pub record Read (rs : List Rule) (table : List ℤ) (c l : ℕ) : Type 0 where
  pub clauses : c ≡ length rs
  pub literals : l ≡ literals (literals_of rs)
  pub is : take (l + c) table ≡ flat (literals_of rs)

abbrev pub RulesAre : Rules → List ℤ → Result struct-of-rules.Rules Refusal → Type 0
RulesAre (refused n v) table (Err y) = (n ≡ number_of y) × (v ≡ value_of y)
RulesAre (refused n v) table (Ok r) = ⊥
RulesAre (rules rs) table (Err y) = ⊥
RulesAre (rules rs) table (Ok r) = Read rs table r.clauses r.literals
