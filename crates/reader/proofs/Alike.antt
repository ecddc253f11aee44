-- Two files with the same bytes up to a place read alike up to there.
-- Assumes nothing.
use Rattle.reader.proofs.Kit.{◌≡◌, refl, sym, ◌∙◌, Bool, true, false, List, ◌∷◌, ℕ, zero, suc, ◌+◌, ◌*◌, ◌/◌, ◌<◌, ◌≤◌, arith, le-leb, ne_eqb, eqb-true, eqb, length, get_or}
use mathlib.Core.Path.{ap₂}
use Rattle.plan.specs.Meaning.{PlanFile}
use Rattle.plan.specs.Ranged.{max_bytes}
use Rattle.reader.specs.Format.{Step, check, word, twos, len_at, after, edge_len, length_in, literals_in, edge_at, atom_at, clause_at, end_at, step_at, head_at}
use Rattle.reader.proofs.Rows.{edge_least}
use Rattle.reader.proofs.Runs.{Leads, here, further, passed, leads_ahead, fits_so}

pub record Alike (f g : List ℕ) (m : ℕ) : Type 0 where
  pub byte : (i : ℕ) → i < m → get_or f i 0 ≡ get_or g i 0
  pub left : m < length f
  pub right : m < length g

-- behind a test that holds in both
if_same : (b : Bool) (n v : ℕ) (s u : Step) → (b ≡ true → s ≡ u) → check b n v s ≡ check b n v u
if_same true n v s u h = h refl
if_same false n v s u h = refl

module _ {f g : List ℕ} {m : ℕ} (same : Alike f g m) where
  word_same : (i : ℕ) → i + 1 < m → word f i ≡ word g i
  word_same i h = ap₂ (λ a b. a * 256 + b) (same.byte i (omega arith)) (same.byte (i + 1) h)

  literals_same : (n i : ℕ) → i + n * 2 ≤ m → literals_in f i n ≡ literals_in g i n
  unfolding literals_in
  literals_same zero i h = refl
  literals_same (suc n) i h = ap₂ (λ w ls. twos w ∷ ls) (word_same i (omega arith)) (literals_same n (i + 2) (omega arith))

  module _ (at : ℕ) (p : PlanFile) (inside : after f at ≤ m) where
    len_same : len_at f at ≡ len_at g at
    len_same = word_same (at + 1) (omega arith)

    length_same : (long : Bool) → len_at g at ≡ edge_len long → length_in long f at ≡ length_in long g at
    length_same true l = word_same (at + 9) (omega (arith, len_same))
    length_same false l = refl

    edge_same : (long : Bool) → edge_at long f at p ≡ edge_at long g at p
    unfolding edge_at
    edge_same long =
        rw len_same (if_same (eqb (len_at g at) (edge_len long)) 5 at _ _ (λ e.
        let l = eqb-true (len_at g at) (edge_len long) e in
        let h = edge_least long in
        simp (word_same (at + 3) (omega (arith, len_same)), word_same (at + 5) (omega (arith, len_same)), word_same (at + 7) (omega (arith, len_same)), length_same long l)))

    atom_same : atom_at f at p ≡ atom_at g at p
    unfolding atom_at
    atom_same =
        rw len_same (if_same (eqb (len_at g at) 9) 5 at _ _ (λ e.
        let l = eqb-true (len_at g at) 9 e in
        simp (
          same.byte (at + 3) (omega (arith, len_same)),
          word_same (at + 4) (omega (arith, len_same)),
          word_same (at + 6) (omega (arith, len_same)),
          word_same (at + 8) (omega (arith, len_same)),
          word_same (at + 10) (omega (arith, len_same)),
        )))

    clause_same : clause_at f at p ≡ clause_at g at p
    unfolding clause_at
    clause_same = simp (len_same, literals_same (len_at g at / 2) (at + 3) (omega (arith, len_same)))

    end_same : end_at f at p ≡ end_at g at p
    unfolding end_at
    end_same =
        rw len_same (if_same (eqb (len_at g at) 0) 5 at _ _ (λ e.
        simp (ne_eqb (length f) (at + 3) (λ n. omega (arith, same.left)), ne_eqb (length g) (at + 3) (λ n. omega (arith, same.right)))))

    step_same : step_at f at p ≡ step_at g at p
    unfolding step_at
    step_same =
        simp (
          fits_so f at (omega (arith, same.left)),
          fits_so g at (omega (arith, same.right, len_same)),
          same.byte at (omega arith),
          edge_same,
          atom_same,
          clause_same,
          end_same,
        )

  -- records that pass in one pass in the other
  pub leads_same : {at : ℕ} {p q : PlanFile} → Leads f at p m q → Leads g at p m q
  leads_same {at} {p} {q} here = here
  leads_same {at} {p} {q} (further e l) =
      let s = passed e in
      further (sym (step_same at p (omega (arith, s.ends, leads_ahead l))) ∙ e) (leads_same l)

  -- and so does the head, as long as neither file is too long
  pub head_same : len_at f 0 ≡ 4 → 7 ≤ m → length f ≤ max_bytes → length g ≤ max_bytes → head_at f ≡ head_at g
  unfolding head_at
  head_same l w x y =
      simp (
        le-leb (length f) max_bytes x,
        le-leb (length g) max_bytes y,
        fits_so f 0 (omega (arith, same.left)),
        fits_so g 0 (omega (arith, same.right, word_same 1 (omega arith))),
        same.byte 0 (omega arith),
        word_same 1 (omega arith),
        word_same 3 (omega arith),
        word_same 5 (omega arith),
      )
