-- The words behind the `p` line, one after the other: what was read of them, and what is left.
-- Assumes nothing.
use mathlib.Core.Path.{◌≡◌, refl, sym, ap, ◌∙◌}
use mathlib.Core.Logic.{◌⊎◌, inl, inr}
use mathlib.Core.Bool.{Bool, true, false, not}
use mathlib.Core.List.{List, [], ◌∷◌, ◌++◌}
use mathlib.Core.Option.{Option}
use Prim.Native.Nat.{ℕ, ◌≤◌, ◌<◌}
use native.Mathlib.Omega.{arith}
use borrow.Author.Tests.{ltb-true, lt-ltb, le-ltb}
use lib.IntN.{ℤ}
use lib.ListN.{length}
use Rattle.std.specs.Prelude.{None, Ok, Err}
use Rattle.plan.specs.Ranged.{literals}
use Rattle.plan.specs.Written.{flat}
use Rattle.plan.proofs.Laying.{laid_none, laid_as}
use Rattle.dimacs.specs.Words as words
use Rattle.dimacs.specs.Words.{between}
use Rattle.dimacs.specs.Numbers.{number_in}
use Rattle.dimacs.specs.Reading as reading
use Rattle.dimacs.specs.Reading.{Rule, Text, bad, good, nothing, begun, check, taken, turn, onward, clauses, literals_of, first_over}
use Rattle.dimacs.specs.Scanning.{left, part, Ahead, Tallied, TurnIs, ScanIs}
use Rattle.dimacs.specs.declared.words.Word.{Word}
use Rattle.dimacs.specs.declared.head.BadText.{BadText}
use Rattle.dimacs.specs.declared.clauses.Tally.{Tally}

-- At an offset: what the whole text reads as is what these clauses and the words that are left lead to.
pub record Underway (a b : ℕ) (text : List ℕ) (p v c : ℕ) (x : Text) (before after : List ℤ) (t : Tally) (at : ℕ) : Type 0 where
  pub done : List Rule
  pub rule : Rule
  pub tallied : Tallied a b done rule before after t
  pub same : x ≡ clauses (length text) p v c done rule (left (between false) text at)

-- nothing yet
pub begins : (a b : ℕ) (text : List ℕ) (p v c : ℕ) (table : List ℤ) (at : ℕ)
    → Underway a b text p v c (clauses (length text) p v c [] nothing (left (between false) text at)) table table (record { clauses = 0; literals = 0; past = None; start = 0; unended = 0 }) at
unfolding literals literals_of first_over flat
begins a b text p v c table at = record {
  done = [];
  rule = nothing;
  tallied = record {
    clauses = refl;
    literals = refl;
    begins = λ x. absurd (omega (arith, ltb-true 0 0 x));
    unended = refl;
    limit = refl;
    stands = laid_none 0 table;
  };
  same = refl;
}

-- no literal behind the last 0: no clause is begun
none_begun : {a b : ℕ} {done : List Rule} {r : Rule} {before after : List ℤ} {t : Tally} → Tallied a b done r before after t → t.unended ≤ 0 → Tallied a b done nothing before after t
none_begun {done = done} {r = r} h l = record {
  clauses = h.clauses;
  literals = h.literals;
  begins = λ x. absurd (omega (arith, ltb-true 0 0 x));
  unended = omega arith;
  limit = h.limit;
  stands = laid_as (ap (λ y. flat (literals_of done) ++ y) (go r.literals (omega (arith, h.unended)))) h.stands;
}
  where
    go : (ls : List ℤ) → length ls ≤ 0 → ls ≡ []
    go [] l = refl
    go (x ∷ ls) l = absurd (omega arith)

-- the code's turn, and the definition's
module _ (a b at : ℕ) (before after : List ℤ) where
  is_wrong : {e : BadText} (y : reading.Turn) → TurnIs a b at before after y (Err e) → (y ≡ reading.wrong) × (e.at ≡ at)
  is_wrong reading.wrong h = (refl, h)
  is_wrong (reading.goes done r) h = absurd h

  is_on_lem : {t : Tally} (y : reading.Turn) → TurnIs a b at before after y (Ok t) → (done : List Rule) × (r : Rule) × (y ≡ reading.goes done r) × Tallied a b done r before after t
  is_on_lem reading.wrong h = absurd h
  is_on_lem (reading.goes done r) h = (done, r, refl, h)

module _ {a b : ℕ} {text : List ℕ} {p v c : ℕ} {x : Text} {before after : List ℤ} {t : Tally} {at : ℕ} (u : Underway a b text p v c x before after t at) where
  -- no word is left
  module _ (e : left (between false) text at ≡ []) where
    at_end : x ≡ check (not (begun u.rule)) (length text) (good p v c u.done)
    unfolding clauses
    at_end = u.same ∙ ap (clauses (length text) p v c u.done u.rule) e

    pub ends_bad : 0 < t.unended → ScanIs a b before after x (Err (record { at = length text }))
    ends_bad l = rw (at_end, lt-ltb 0 (length u.rule.literals) (omega (arith, u.tallied.unended))) refl

    pub ends_good : t.unended ≤ 0 → ScanIs a b before after x (Ok t)
    ends_good l = rw (at_end, le-ltb 0 (length u.rule.literals) (omega (arith, u.tallied.unended))) (none_begun u.tallied l)

  -- a word, and its turn
  module _ {w : Word} {z : Option ℤ} (h : Ahead text at false w) (e : number_in (part text w.start w.end) ≡ z) where
    abbrev go_on : List Rule → Rule → Text
    go_on done r = clauses (length text) p v c done r (left (between false) text w.end)

    abbrev the_turn : reading.Turn
    the_turn = taken v u.done u.rule w.start z

    onto : x ≡ onward w.start go_on the_turn
    unfolding clauses turn
    onto = u.same ∙ ap (clauses (length text) p v c u.done u.rule) h.same ∙ ap (λ z. onward w.start go_on (taken v u.done u.rule w.start z)) e

    module _ (new : List ℤ) where
      pub turns_bad : (y : BadText) → ((done : List Rule) (r : Rule) → Tallied a b done r before after t → TurnIs a b w.start before new (taken v done r w.start z) (Err y))
          → ScanIs a b before new x (Err y)
      turns_bad y k = let q = is_wrong a b w.start before new the_turn (k u.done u.rule u.tallied) in rw (onto, q.0) q.1

      pub turns_on : (s : Tally) → ((done : List Rule) (r : Rule) → Tallied a b done r before after t → TurnIs a b w.start before new (taken v done r w.start z) (Ok s))
          → Underway a b text p v c x before new s w.end
      turns_on s k = on (is_on_lem a b w.start before new the_turn (k u.done u.rule u.tallied))
        where
          on : (done : List Rule) × (r : Rule) × (the_turn ≡ reading.goes done r) × Tallied a b done r before new s → Underway a b text p v c x before new s w.end
          on (done, r, g, l) = record { done = done; rule = r; tallied = l; same = onto ∙ ap (onward w.start go_on) g }

-- what the words lead to: the text is bad, or good with the numbers of its `p` line
abbrev pub OneOf : ℕ → ℕ → ℕ → Text → Type 0
OneOf p v c x = ((at : ℕ) × (x ≡ bad at)) ⊎ ((rs : List Rule) × (x ≡ good p v c rs))

module _ (end p v c : ℕ) where
  pub one_of : (ws : List words.Word) (done : List Rule) (r : Rule) → OneOf p v c (clauses end p v c done r ws)
  unfolding clauses
  one_of [] done r = go (not (begun r))
    where
      go : (y : Bool) → OneOf p v c (check y end (good p v c done))
      go true = inr (done, refl)
      go false = inl (end, refl)
  one_of (w ∷ ws) done r = go (turn v done r w) (one_of ws)
    where
      go : (y : reading.Turn) → ((done : List Rule) (r : Rule) → OneOf p v c (clauses end p v c done r ws))
          → OneOf p v c (onward w.at (λ d s. clauses end p v c d s ws) y)
      go reading.wrong k = inl (w.at, refl)
      go (reading.goes done r) k = k done r

-- the code's scan says which
module _ (a b : ℕ) (before after : List ℤ) where
  pub scan_bad : (x : Text) (e : BadText) → ScanIs a b before after x (Err e) → x ≡ bad e.at
  scan_bad (bad n) e h = ap bad (sym h)
  scan_bad (good p v c rs) e h = absurd h

  pub scan_good : {p v c : ℕ} {x : Text} {t : Tally} → OneOf p v c x → ScanIs a b before after x (Ok t) → (rs : List Rule) × (x ≡ good p v c rs) × Tallied a b rs nothing before after t
  scan_good (inl (at, q)) h = absurd (rw q at h)
  scan_good (inr (rs, q)) h = (rs, q, rw q at h)
