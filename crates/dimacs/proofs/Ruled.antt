-- The clauses of a good text are in range: every literal is one of the `p` line's variables; the rules for a plan are few enough.
-- Assumes nothing.
use mathlib.Core.Path.{◌≡◌, refl, sym, subst}
use mathlib.Core.Bool.{Bool, true, false, not, cond}
use mathlib.Core.Logic.{⊎_elim}
use mathlib.Core.Option.{Option, none, some}
use mathlib.Core.List.Memᴰ
use mathlib.Core.List.{List, [], ◌∷◌, ◌++◌, Memᴰ}
use Prim.Native.Nat.{ℕ, zero, suc, ◌+◌, ◌≤◌}
use native.Mathlib.Omega.{arith}
use borrow.Author.Tests.{leb-true}
use lib.Dec.{leb, eqb}
use lib.IntN.{ℤ, pos, negsuc}
use lib.ListN.{length}
use Rattle.plan.specs.Ranged.{LiteralFits, LiteralsFit, InRange, literals, max_clauses, max_literals}
use Rattle.dimacs.proofs.Tallies.{literals_of_more}
use Rattle.dimacs.proofs.Verdicts.{within}
use Rattle.dimacs.specs.Numbers.{number_in}
use Rattle.dimacs.specs.Words.{Word, words_of}
use Rattle.dimacs.specs.Reading.{Rule, Text, bad, good, check, same, problem, format, counted, not_below, nothing, begun, longer, ended_at, Turn, wrong, goes, taken, turn, onward, clauses, next, on_line, behind, count, variables, cnf, whole, read_text, literals_of, first_over, Rules, refused, rules, require, limited, rules_of, read_rules}

-- what holds of the clauses that are ended
abbrev Ended : ℕ → List Rule → Type 0
Ended v rs = InRange v (literals_of rs)

-- one more at the end
member_snoc : {A : Type 0} (P : A → Type 0) (xs : List A) (x : A) → ((a : A) → Memᴰ a xs → P a) → P x → (a : A) → Memᴰ a (xs ++ (x ∷ [])) → P a
member_snoc P xs x all one a m = ⊎_elim (λ n. all a n) (λ n. subst P (sym (Memᴰ.eq_of_singleton n)) one) (Memᴰ.append_cases xs m)

all_snoc : (v : ℕ) (rs : List Rule) (r : Rule) → Ended v rs → LiteralsFit v r.literals → Ended v (rs ++ (r ∷ []))
all_snoc v rs r all one C m = member_snoc (LiteralsFit v) (literals_of rs) r.literals all one C (subst (Memᴰ C) (literals_of_more rs r) m)

-- what holds of a turn: wrong, or clauses in range
abbrev Fair : ℕ → Turn → Type 0
Fair v wrong = Unit {0}
Fair v (goes done r) = Ended v done × LiteralsFit v r.literals

module _ (v : ℕ) (done : List Rule) (r : Rule) (at : ℕ) (all : Ended v done) (fits : LiteralsFit v r.literals) where
  literal_fair : (l : ℤ) → (b : Bool) → (b ≡ true → LiteralFits v l) → Fair v (cond b (goes done (longer r at l)) wrong)
  literal_fair l true h = (all, member_snoc (LiteralFits v) r.literals l fits (h refl))
  literal_fair l false h = tt

  fair : (z : Option ℤ) → Fair v (taken v done r at z)
  fair none = tt
  fair (some (pos zero)) = (all_snoc v done (ended_at r at) all fits, λ l m. absurd (Memᴰ.not-nil m))
  fair (some (pos (suc n))) = literal_fair (pos (suc n)) (leb (suc n) v) (λ e. record { low = omega arith; high = leb-true (suc n) v e })
  fair (some (negsuc n)) = literal_fair (negsuc n) (leb (suc n) v) (λ e. record { low = omega arith; high = leb-true (suc n) v e })

-- what holds of a text: bad, or clauses in range of its variables
abbrev Sound : Text → Type 0
Sound (bad at) = Unit {0}
Sound (good p v c rs) = Ended v rs

sound_check : (b : Bool) (at : ℕ) (t : Text) → Sound t → Sound (check b at t)
sound_check true at t h = h
sound_check false at t h = tt

sound_onward : (v at : ℕ) (f : List Rule → Rule → Text) → ((done : List Rule) (r : Rule) → Ended v done → LiteralsFit v r.literals → Sound (f done r)) → (t : Turn) → Fair v t → Sound (onward at f t)
sound_onward v at f h wrong k = tt
sound_onward v at f h (goes done r) k = h done r k.0 k.1

module _ (end : ℕ) where
  clauses_sound : (p v c : ℕ) (ws : List Word) (done : List Rule) (r : Rule) → Ended v done → LiteralsFit v r.literals → Sound (clauses end p v c done r ws)
  unfolding clauses turn
  clauses_sound p v c [] done r all fits = sound_check (not (begun r)) end (good p v c done) all
  clauses_sound p v c (w ∷ ws) done r all fits =
      sound_onward v w.at (λ d s. clauses end p v c d s ws) (λ d s a f. clauses_sound p v c ws d s a f) (turn v done r w) (fair v done r w.at all fits (number_in w.bytes))

  begin_sound : (p v c : ℕ) (ws : List Word) → Sound (clauses end p v c [] nothing ws)
  unfolding literals_of
  begin_sound p v c ws = clauses_sound p v c ws [] nothing (λ C m. absurd (Memᴰ.not-nil m)) (λ l m. absurd (Memᴰ.not-nil m))

  next_sound : (ws : List Word) (f : Word → List Word → Text) → ((w : Word) (rest : List Word) → Sound (f w rest)) → Sound (next end ws f)
  next_sound [] f h = tt
  next_sound (w ∷ ws) f h = h w ws

  line_sound : (ws : List Word) (f : Word → List Word → Text) → ((w : Word) (rest : List Word) → Sound (f w rest)) → Sound (on_line end ws f)
  line_sound ws f h = next_sound ws _ (λ w rest. sound_check (not w.leads) w.at (f w rest) (h w rest))

  counted_sound : (n : Option ℕ) (at : ℕ) (f : ℕ → Text) → ((k : ℕ) → Sound (f k)) → Sound (counted n at f)
  counted_sound none at f h = tt
  counted_sound (some k) at f h = h k

  behind_sound : (p v c : ℕ) (ws : List Word) → Sound (behind end p v c ws)
  unfolding behind
  behind_sound p v c [] = begin_sound p v c []
  behind_sound p v c (w ∷ ws) = sound_check w.leads w.at _ (begin_sound p v c (w ∷ ws))

  whole_sound : (ws : List Word) → Sound (whole end ws)
  unfolding whole cnf variables count
  whole_sound ws =
      next_sound ws _ (λ w rest. sound_check (same w.bytes problem) w.at _
      (line_sound rest _ (λ w₂ rest₂. sound_check (same w₂.bytes format) w₂.at _
      (line_sound rest₂ _ (λ w₃ rest₃. counted_sound (not_below (number_in w₃.bytes)) w₃.at _ (λ v.
      line_sound rest₃ _ (λ w₄ rest₄. counted_sound (not_below (number_in w₄.bytes)) w₄.at _ (λ c. behind_sound w.at v c rest₄))))))))

pub good_in_range : (text : List ℕ) {p v c : ℕ} {rs : List Rule} → read_text text ≡ good p v c rs → InRange v (literals_of rs)
unfolding read_text
good_in_range text e = subst Sound e (whole_sound (length text) (words_of text))

-- the rules of a reading that has them
abbrev pub rules_in : Rules → List Rule
rules_in (refused n v) = []
rules_in (rules rs) = rs

-- the rules for a plan of so many variables, clauses and literals
pub record Ruled (variables clauses literal : ℕ) (rs : List Rule) : Type 0 where
  pub ranged : InRange variables (literals_of rs)
  pub few : clauses + length rs ≤ max_clauses
  pub short : literal + literals (literals_of rs) ≤ max_literals

module _ (variables clauses literal : ℕ) (few : clauses ≤ max_clauses) (short : literal ≤ max_literals) where
  abbrev Met : Rules → Type 0
  Met (refused n v) = Unit {0}
  Met (rules rs) = Ruled variables clauses literal rs

  met_require : (b : Bool) (n v : ℕ) (r : Rules) → (b ≡ true → Met r) → Met (require b n v r)
  met_require true n v r h = h refl
  met_require false n v r h = tt

  met_limited : (o : Option ℕ) (r : Rules) → (o ≡ none → Met r) → Met (limited o r)
  met_limited none r h = h refl
  met_limited (some at) r h = tt

  wider : (v : ℕ) (rs : List Rule) → v ≤ variables → Ended v rs → InRange variables (literals_of rs)
  wider v rs h all C m l k = let f = all C m l k in record { low = f.low; high = omega (arith, f.high) }

  met_text : (t : Text) → Sound t → Met (rules_of variables clauses literal t)
  met_text (bad at) s = tt
  met_text (good p v c rs) s =
      met_require (eqb (length rs) c) 21 p _ (λ e. met_require (leb v variables) 22 p _ (λ f. met_limited (first_over clauses literal rs) (rules rs) (λ g.
      let w = within clauses literal rs g in
      record { ranged = wider v rs (leb-true v variables f) s; few = omega (arith, w.0); short = omega (arith, w.1) })))

  pub rules_ruled : (text : List ℕ) {rs : List Rule} → read_rules variables clauses literal text ≡ rules rs → Ruled variables clauses literal rs
  unfolding read_rules read_text
  rules_ruled text e = subst Met e (met_text (read_text text) (whole_sound (length text) (words_of text)))
