-- A proof by cases over the records: what holds of every refusal, and of what a record that passes its tests leads to, holds of every record's step.
-- Assumes nothing.
use Rattle.reader.proofs.Kit.{◌≡◌, refl, Bool, true, false, not, ◌&&◌, and-eq-true_iff, List, ℕ, ◌+◌, ◌*◌, ◌/◌, ◌<◌, ◌≤◌, arith, ltb-true, leb-true, eqb-true, not-true, ltb, leb, eqb, length}
use Rattle.plan.specs.Meaning.{PlanFile}
use Rattle.plan.specs.Ranged.{max_bytes, max_edges, max_atoms, max_clauses, max_literals, literals}
use Rattle.reader.specs.Format.{Step, refuse, next, done, check, pick, in_order, word, tag_at, len_at, after, fits, head_ok, edge_ok, atom_ok, literals_ok, clause_len, edge_uses, atom_uses, edge_len, edge_in, kind_in, atom_in, clause_in, add_edge, add_atom, add_clause, empty_plan, edge_at, atom_at, clause_at, end_at, step_at, head_at}
use Rattle.reader.proofs.Steps.{fits_is}

pub both : (a b : Bool) → (a && b) ≡ true → (a ≡ true) × (b ≡ true)
both a b h = (and-eq-true_iff a b).0 h

clause_long : (n : ℕ) → clause_len n ≡ true → n / 2 * 2 ≡ n
unfolding clause_len
clause_long n h = eqb-true (n / 2 * 2) n h

-- the end record stands at the offset, and nothing behind it
pub record Ended (f : List ℕ) (at : ℕ) : Type 0 where
  pub tag : tag_at f at ≡ 5
  pub none : len_at f at ≡ 0
  pub last : length f ≡ at + 3

module _ (G : Step → Type 0) (no : (n v : ℕ) → G (refuse n v)) where
  if_held : (b : Bool) (n v : ℕ) (s : Step) → (b ≡ true → G s) → G (check b n v s)
  if_held true n v s g = g refl
  if_held false n v s g = no n v

  one_of : (b : Bool) (s u : Step) → (b ≡ true → G s) → G u → G (pick b s u)
  one_of true s u g h = g refl
  one_of false s u g h = h

  in_order_lem : (long ranged room apart : Bool) (at : ℕ) (s : Step) → (long ≡ true → ranged ≡ true → room ≡ true → apart ≡ true → G s)
      → G (in_order long ranged room apart at s)
  in_order_lem long ranged room apart at s g =
      if_held long _ _ _ (λ l. if_held ranged _ _ _ (λ r. if_held room _ _ _ (λ m. if_held apart _ _ _ (λ a. g l r m a))))

  pub head_by : (f : List ℕ) → (len_at f 0 ≡ 4 → 7 ≤ length f → head_ok (word f 3) (word f 5) ≡ true → G (next 7 (empty_plan (word f 3) (word f 5)))) → G (head_at f)
  unfolding head_at
  head_by f g =
      if_held (leb (length f) max_bytes) _ _ _ (λ a. if_held (fits f 0) _ _ _ (λ b. if_held (eqb (tag_at f 0) 1) _ _ _ (λ c.
      if_held (eqb (len_at f 0) 4) _ _ _ (λ d. if_held (head_ok (word f 3) (word f 5)) _ _ _ (λ e.
      let l = eqb-true (len_at f 0) 4 d in g l (omega (arith, fits_is f 0 b)) e)))))

  module _ (f : List ℕ) (at : ℕ) (p : PlanFile) where
    pub edge_by : (long : Bool)
        → (len_at f at ≡ edge_len long → edge_ok p.nodes p.variables (edge_in long f at) ≡ true → length p.edges < max_edges → atom_uses p.atoms (word f (at + 7)) ≡ false
        → G (next (after f at) (add_edge p (edge_in long f at)))) → G (edge_at long f at p)
    unfolding edge_at
    edge_by long g =
        in_order_lem (eqb (len_at f at) (edge_len long)) (edge_ok p.nodes p.variables (edge_in long f at)) (ltb (length p.edges) max_edges)
        (not (atom_uses p.atoms (word f (at + 7)))) _ _ (λ l r m a. g (eqb-true (len_at f at) (edge_len long) l) r (ltb-true _ _ m) (not-true _ a))

    pub atom_by : (len_at f at ≡ 9 → atom_ok p.nodes p.variables (kind_in f at) (atom_in f at) ≡ true → length p.atoms < max_atoms → edge_uses p.edges (word f (at + 10)) ≡ false
        → G (next (after f at) (add_atom p (atom_in f at)))) → G (atom_at f at p)
    unfolding atom_at
    atom_by g =
        in_order_lem (eqb (len_at f at) 9) (atom_ok p.nodes p.variables (kind_in f at) (atom_in f at)) (ltb (length p.atoms) max_atoms)
        (not (edge_uses p.edges (word f (at + 10)))) _ _ (λ l r m a. g (eqb-true (len_at f at) 9 l) r (ltb-true _ _ m) (not-true _ a))

    pub clause_by : (len_at f at / 2 * 2 ≡ len_at f at → literals_ok p.variables (clause_in f at) ≡ true → length p.clauses < max_clauses
        → literals p.clauses + len_at f at / 2 ≤ max_literals → G (next (after f at) (add_clause p (clause_in f at)))) → G (clause_at f at p)
    unfolding clause_at
    clause_by g =
        in_order_lem (clause_len (len_at f at)) (literals_ok p.variables (clause_in f at))
        (ltb (length p.clauses) max_clauses && leb (literals p.clauses + len_at f at / 2) max_literals) true _ _ (λ l r m a.
        let d = both (ltb (length p.clauses) max_clauses) (leb (literals p.clauses + len_at f at / 2) max_literals) m in
        g (clause_long (len_at f at) l) r (ltb-true _ _ d.0) (leb-true _ _ d.1))

    end_by : tag_at f at ≡ 5 → (Ended f at → G (done p)) → G (end_at f at p)
    unfolding end_at
    end_by t g =
        if_held (eqb (len_at f at) 0) _ _ _ (λ l. if_held (eqb (length f) (at + 3)) _ _ _ (λ e.
        g (record { tag = t; none = eqb-true (len_at f at) 0 l; last = eqb-true (length f) (at + 3) e })))

    pub step_by : ((long : Bool) → after f at ≤ length f → G (edge_at long f at p)) → (after f at ≤ length f → G (atom_at f at p)) → (after f at ≤ length f → G (clause_at f at p))
        → (Ended f at → G (done p)) → G (step_at f at p)
    unfolding step_at
    step_by e a c d =
        if_held (fits f at) _ _ _ (λ w. if_held (not (eqb (tag_at f at) 1)) _ _ _ (λ n.
        let h = fits_is f at w in
        one_of (eqb (tag_at f at) 2) _ _ (λ t. e false h) (one_of (eqb (tag_at f at) 3) _ _ (λ t. a h) (one_of (eqb (tag_at f at) 4) _ _ (λ t. c h)
        (one_of (eqb (tag_at f at) 5) _ _ (λ t. end_by (eqb-true (tag_at f at) 5 t) d)
        (one_of (eqb (tag_at f at) 6) _ _ (λ t. e true h) (no 4 at)))))))
