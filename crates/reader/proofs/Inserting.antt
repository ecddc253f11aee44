-- A plan file with clause records put in before its end record is the same plan file with these clauses behind its own.
-- Assumes nothing.
use Rattle.reader.proofs.Kit.{◌≡◌, refl, sym, ap, ◌∙◌, subst, true, List, [], ◌∷◌, ◌++◌, append-nil, ℕ, ◌+◌, ◌-◌, ◌*◌, ◌/◌, ◌<◌, ◌≤◌, arith, lt-ltb, le-leb, eq-eqb, ℤ, nat_abs, length, take, drop, get_or, length-drop}
use mathlib.Core.Path.{ap₂}
use mathlib.Core.List.Memᴰ
use native.Mathlib.Numerals.{add-one}
use lib.ListN.{take-append-drop, drop_of_length-le}
use lib.Seq.{append_snoc, get_or-drop, drop-cons}
use Rattle.plan.specs.Meaning.{PlanFile}
use Rattle.plan.specs.Ranged.{max_bytes, max_clauses, max_literals, literals, LiteralsFit, InRange}
use Rattle.reader.specs.Format.{next, accepted, word, tag_at, len_at, after, literal_ok, literals_ok, literals_in, clause_len, add_clause, clause_at, step_at, read_plan, with_clauses}
use Rattle.plan.proofs.ClauseTable.{count_clause}
use Rattle.reader.proofs.Rows.{length_snoc}
use Rattle.reader.proofs.Cases.{Ended}
use Rattle.reader.proofs.Runs.{Leads, here, further, leads_then, leads_ahead, fits_so, runs_read, read_runs, head_long}
use Rattle.reader.proofs.Alike.{Alike, leads_same, head_same}

-- what stands at an offset, by the bytes from there on
module _ (g : List ℕ) (at : ℕ) (r : List ℕ) (e : drop at g ≡ r) where
  pub byte_at : (i n : ℕ) → n ≡ at + i → get_or g n 0 ≡ get_or r i 0
  byte_at i n h = ap (λ k. get_or g k 0) h ∙ sym (get_or-drop at g i 0) ∙ ap (λ l. get_or l i 0) e

  pub word_at : (i n : ℕ) → n ≡ at + i → word g n ≡ word r i
  word_at i n h = ap₂ (λ a b. a * 256 + b) (byte_at i n h) (byte_at (i + 1) (n + 1) (omega arith))

-- the bytes of the end record
abbrev pub end_record : List ℕ
end_record = 5 ∷ 0 ∷ 0 ∷ []

pub bytes_ended : (g : List ℕ) (at : ℕ) → drop at g ≡ end_record → Ended g at
bytes_ended g at e = record {
  tag = byte_at g at end_record e 0 at (omega arith);
  none = word_at g at end_record e 1 (at + 1) refl;
  last = omega (arith, length-drop at g, ap length e);
}

pub ended_bytes : {g : List ℕ} {at : ℕ} → Ended g at → drop at g ≡ end_record
ended_bytes {g} {at} e =
    let high : get_or g (at + 1) 0 ≡ 0 = omega (arith, e.none) in
    let low : get_or g (at + 1 + 1) 0 ≡ 0 = omega (arith, e.none) in
    next_byte at (omega (arith, e.last)) e.tag (next_byte (at + 1) (omega (arith, e.last)) high
    (next_byte (at + 1 + 1) (omega (arith, e.last)) low (drop_of_length-le g {i = at + 1 + 1 + 1} (omega (arith, e.last)))))
  where
    next_byte : (n : ℕ) {a : ℕ} {r : List ℕ} → n < length g → get_or g n 0 ≡ a → drop (n + 1) g ≡ r → drop n g ≡ a ∷ r
    next_byte n h b t = drop-cons g n 0 h ∙ ap₂ (λ a l. a ∷ l) b (ap (λ k. drop k g) (sym (add-one n)) ∙ t)

-- the record of the clause C stands at an offset
pub record ClauseStands (g : List ℕ) (at : ℕ) (C : List ℤ) : Type 0 where
  pub tag : tag_at g at ≡ 4
  pub long : len_at g at ≡ length C * 2
  pub value : literals_in g (at + 3) (length C) ≡ C
  pub inside : after g at ≤ length g

-- records of clauses, one behind the other, from an offset up to another
pub data Row (g : List ℕ) : ℕ → List (List ℤ) → ℕ → Type 0 where
  none : {at : ℕ} → Row g at [] at
  more : {at to : ℕ} {C : List ℤ} {Cs : List (List ℤ)} → ClauseStands g at C → Row g (after g at) Cs to → Row g at (C ∷ Cs) to

-- clauses that a plan file may have behind its own
pub record Joins (p : PlanFile) (Cs : List (List ℤ)) : Type 0 where
  pub literal : InRange p.variables Cs
  pub clauses : length p.clauses + length Cs ≤ max_clauses
  pub literals : literals p.clauses + literals Cs ≤ max_literals

-- the plan file with other clauses; with some behind its own
abbrev having : PlanFile → List (List ℤ) → PlanFile
having p Cs = record { nodes = p.nodes; variables = p.variables; edges = p.edges; atoms = p.atoms; clauses = Cs }

fit_literals : (v : ℕ) (C : List ℤ) → LiteralsFit v C → literals_ok v C ≡ true
unfolding literals_ok literal_ok
fit_literals v [] h = refl
fit_literals v (l ∷ C) h =
    let w = h l (Memᴰ.head refl) in
    rw (le-leb 1 (nat_abs l) w.low, le-leb (nat_abs l) v w.high) (fit_literals v C (λ k m. h k (Memᴰ.tail m)))

-- the first of the clauses, and the others
module _ {p : PlanFile} {C : List ℤ} {Cs : List (List ℤ)} (j : Joins p (C ∷ Cs)) where
  joins_rest : Joins (add_clause p C) Cs
  unfolding literals
  joins_rest = record {
    literal = λ D m. j.literal D (Memᴰ.tail m);
    clauses = omega (arith, j.clauses, length_snoc p.clauses C);
    literals = omega (arith, j.literals, count_clause p.clauses C);
  }

  clause_step : {g : List ℕ} {at : ℕ} → ClauseStands g at C → step_at g at p ≡ next (after g at) (add_clause p C)
  unfolding step_at clause_at clause_len literals
  clause_step {g} {at} s =
      let half : len_at g at / 2 ≡ length C = omega (arith, s.long) in
      let ok = fit_literals p.variables C (j.literal C (Memᴰ.head refl)) in
      simp (
        fits_so g at s.inside,
        s.tag,
        half,
        s.value,
        ok,
        eq-eqb (length C * 2) (len_at g at) (sym s.long),
        lt-ltb (length p.clauses) max_clauses (omega (arith, j.clauses)),
        le-leb (literals p.clauses + length C) max_literals (omega (arith, j.literals)),
      )

row_leads : {g : List ℕ} {at to : ℕ} {Cs : List (List ℤ)} → Row g at Cs to → (p : PlanFile) → Joins p Cs → Leads g at p to (with_clauses p Cs)
row_leads {g} {at} none p j = let e : p ≡ with_clauses p [] = ap (having p) (sym (append-nil p.clauses)) in subst (Leads g at p at) e here
row_leads {g} {at} {to} (more {C} {Cs} s r) p j =
    let e : with_clauses (add_clause p C) Cs ≡ with_clauses p (C ∷ Cs) = ap (having p) (append_snoc p.clauses C Cs) in
    further (clause_step j s) (subst (Leads g (after g at) (add_clause p C) to) e (row_leads r (add_clause p C) (joins_rest j)))

module _ (f : List ℕ) {φ : PlanFile} (h : read_plan f ≡ accepted φ) where
  pub read_ended : Ended f (length f - 3)
  read_ended = let r = read_runs h in subst (Ended f) (omega (arith, r.ended.last)) r.ended

  -- an accepted file's last bytes are the end record
  pub end_record_lem : f ≡ take (length f - 3) f ++ end_record
  end_record_lem = sym (take-append-drop (length f - 3) f) ∙ ap (λ l. take (length f - 3) f ++ l) (ended_bytes read_ended)

  pub inserting : {g : List ℕ} {to : ℕ} {Cs : List (List ℤ)} → Joins φ Cs → Alike f g (length f - 3) → Row g (length f - 3) Cs to → Ended g to
      → length f ≤ length g → length g ≤ max_bytes → read_plan g ≡ accepted (with_clauses φ Cs)
  inserting {g} {to} {Cs} j same row e longer short =
      let r = read_runs h in
      let here : r.stop ≡ length f - 3 = omega (arith, r.ended.last) in
      let l = subst (λ n. Leads f 7 r.start n φ) here r.leads in
      runs_read (record {
        start = r.start;
        stop = to;
        head = sym (head_same same (head_long f r.head) (leads_ahead l) (omega arith) short) ∙ r.head;
        leads = leads_then (leads_same same l) (row_leads row φ j);
        ended = e;
      })
