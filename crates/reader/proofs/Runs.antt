-- A file is accepted exactly if its records lead from its head to its end record. How long an accepted file is at the most.
-- Assumes nothing.
use Rattle.reader.proofs.Kit.{◌≡◌, refl, ap, ◌∙◌, subst, true, List, ℕ, zero, suc, ◌+◌, ◌*◌, ◌/◌, ◌≤◌, arith, le-leb, eq-eqb, length}
use Rattle.plan.specs.Meaning.{PlanFile}
use Rattle.plan.specs.Ranged.{literals}
use Rattle.reader.specs.Format.{Step, refuse, next, done, refused, accepted, onward, len_at, after, fits, edge_in, atom_in, clause_in, end_at, step_at, head_at, records, read_plan}
use Rattle.plan.proofs.ClauseTable.{count_clause}
use Rattle.reader.proofs.Rows.{edge_most, length_snoc, literals_length}
use Rattle.reader.proofs.Cases.{Ended, head_by, step_by, edge_by, atom_by, clause_by}
use Rattle.reader.proofs.Exact.{read_from, read_head, read_step}

-- the bytes that a plan's records between head and end take at the most: an edge has 11 with its length, 9 without
abbrev pub bytes : PlanFile → ℕ
bytes p = 11 * length p.edges + 12 * length p.atoms + 3 * length p.clauses + 2 * literals p.clauses

-- a record that passes: where it ends, and what it adds
pub record Passed (f : List ℕ) (at : ℕ) (p : PlanFile) (b : ℕ) (q : PlanFile) : Type 0 where
  pub ends : b ≡ after f at
  pub inside : b ≤ length f
  pub adds : b + bytes p ≤ at + bytes q

abbrev Moved : List ℕ → ℕ → PlanFile → Step → Type 0
Moved f at p (refuse n v) = Unit
Moved f at p (next b q) = Passed f at p b q
Moved f at p (done q) = (p ≡ q) × Ended f at

moved : (f : List ℕ) (at : ℕ) (p : PlanFile) → Moved f at p (step_at f at p)
moved f at p =
    let G = Moved f at p in
    step_by G (λ n v. tt) f at p
    (λ long h. edge_by G (λ n v. tt) f at p long (λ l r m a. record { ends = refl; inside = h; adds = omega (arith, l, edge_most long, length_snoc p.edges (edge_in long f at)) }))
    (λ h. atom_by G (λ n v. tt) f at p (λ l r m a. record { ends = refl; inside = h; adds = omega (arith, length_snoc p.atoms (atom_in f at)) }))
    (λ h. clause_by G (λ n v. tt) f at p (λ l r m a.
    let n = literals_length f (at + 3) (len_at f at / 2) in
    record { ends = refl; inside = h; adds = omega (arith, l, n, length_snoc p.clauses (clause_in f at), count_clause p.clauses (clause_in f at)) }))
    (λ e. (refl, e))

pub passed : {f : List ℕ} {at b : ℕ} {p q : PlanFile} → step_at f at p ≡ next b q → Passed f at p b q
passed {f} {at} {b} {p} {q} e = subst (Moved f at p) e (moved f at p)

-- records that pass, one behind the other
pub data Leads (f : List ℕ) : ℕ → PlanFile → ℕ → PlanFile → Type 0 where
  here : {at : ℕ} {p : PlanFile} → Leads f at p at p
  further : {at b to : ℕ} {p q r : PlanFile} → step_at f at p ≡ next b q → Leads f b q to r → Leads f at p to r

pub leads_then : {f : List ℕ} {at b to : ℕ} {p q r : PlanFile} → Leads f at p b q → Leads f b q to r → Leads f at p to r
leads_then here m = m
leads_then (further e l) m = further e (leads_then l m)

pub leads_ahead : {f : List ℕ} {at to : ℕ} {p r : PlanFile} → Leads f at p to r → at ≤ to
leads_ahead here = omega arith
leads_ahead (further e l) = omega (arith, (passed e).ends, leads_ahead l)

leads_bytes : {f : List ℕ} {at to : ℕ} {p r : PlanFile} → Leads f at p to r → to + bytes p ≤ at + bytes r
leads_bytes here = omega arith
leads_bytes (further e l) = omega (arith, (passed e).adds, leads_bytes l)

-- the head, the records and the end
pub record Runs (f : List ℕ) (φ : PlanFile) : Type 0 where
  pub start : PlanFile
  pub stop : ℕ
  pub head : head_at f ≡ next 7 start
  pub leads : Leads f 7 start stop φ
  pub ended : Ended f stop

never : {A : Type 0} {n v : ℕ} {φ : PlanFile} → refused n v ≡ accepted φ → A
never e = let z : ◌≡◌ {A = ℕ} 0 1 = cc in absurd (omega arith)

to_end : (k : ℕ) (f : List ℕ) (at : ℕ) (p φ : PlanFile) → records k f at p ≡ accepted φ → (to : ℕ) × Leads f at p to φ × Ended f to
unfolding records
to_end zero f at p φ h = never h
to_end (suc k) f at p φ h = go (to_end k f) (step_at f at p) refl (moved f at p) h
  where
    go : ((b : ℕ) (q φ : PlanFile) → records k f b q ≡ accepted φ → (to : ℕ) × Leads f b q to φ × Ended f to)
        → (s : Step) → step_at f at p ≡ s → Moved f at p s → onward (records k f) s ≡ accepted φ → (to : ℕ) × Leads f at p to φ × Ended f to
    go more (refuse n v) e m r = never r
    go more (next b q) e m r = let t = more b q φ r in (t.0, further e t.1, t.2)
    go more (done q) e m r = let same : p ≡ φ = cc in (at, subst (λ x. Leads f at p at x) same here, m.1)

pub fits_so : (f : List ℕ) (at : ℕ) → after f at ≤ length f → fits f at ≡ true
unfolding fits
fits_so f at h = rw (le-leb (at + 3) (length f) (omega arith), le-leb (after f at) (length f) h)

end_step : (f : List ℕ) (at : ℕ) (p : PlanFile) → Ended f at → step_at f at p ≡ done p
unfolding step_at end_at
end_step f at p e =
    let w : fits f at ≡ true = fits_so f at (omega arith) in
    simp (w, e.tag, eq-eqb (len_at f at) 0 e.none, eq-eqb (length f) (at + 3) e.last)

from_there : {f : List ℕ} {at to : ℕ} {p φ : PlanFile} → Leads f at p to φ → Ended f to → read_from f at p ≡ accepted φ
from_there {f} {at} {to} {p} {φ} here e = read_step f at p (omega arith) ∙ ap (onward (read_from f)) (end_step f at p e)
from_there {f} {at} {to} {p} {φ} (further s l) e = read_step f at p (omega (arith, (passed s).ends, (passed s).inside)) ∙ ap (onward (read_from f)) s ∙ from_there l e

pub runs_read : {f : List ℕ} {φ : PlanFile} → Runs f φ → read_plan f ≡ accepted φ
runs_read {f} r = read_head f ∙ ap (onward (read_from f)) r.head ∙ from_there r.leads r.ended

abbrev Headed : List ℕ → Step → Type 0
Headed f (refuse n v) = Unit
Headed f (next b p) = (b ≡ 7) × (len_at f 0 ≡ 4) × (bytes p ≡ 0)
Headed f (done p) = ⊥

headed : (f : List ℕ) → Headed f (head_at f)
unfolding literals
headed f = head_by (Headed f) (λ n v. tt) f (λ l w h. (refl, l, omega arith))

pub head_long : (f : List ℕ) {b : ℕ} {p : PlanFile} → head_at f ≡ next b p → len_at f 0 ≡ 4
head_long f e = (subst (Headed f) e (headed f)).1

pub read_runs : {f : List ℕ} {φ : PlanFile} → read_plan f ≡ accepted φ → Runs f φ
unfolding read_plan
read_runs {f} {φ} h = go (head_at f) refl (headed f) h
  where
    go : (s : Step) → head_at f ≡ s → Headed f s → onward (records (length f) f) s ≡ accepted φ → Runs f φ
    go (refuse n v) e m r = never r
    go (next b p) e m r =
        let t = to_end (length f) f b p φ r in
        record {
          start = p;
          stop = t.0;
          head = subst (λ n. head_at f ≡ next n p) m.0 e;
          leads = subst (λ n. Leads f n p t.0 φ) m.0 t.1;
          ended = t.2;
        }
    go (done p) e m r = absurd m

-- the head has 7 bytes, an edge 11 at the most, an atom 12, a clause 3 and 2 for each literal, the end 3
pub size : (f : List ℕ) {φ : PlanFile} → read_plan f ≡ accepted φ → length f ≤ 10 + bytes φ
size f h =
    let r = read_runs h in
    let b = subst (Headed f) r.head (headed f) in
    omega (arith, b.2, leads_bytes r.leads, r.ended.last)
