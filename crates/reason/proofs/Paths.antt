-- Marks on variables, and the path read back from a node: what each edge marks.
-- Assumes nothing.
use mathlib.Core.Path.{◌≡◌, refl, sym, ap, subst, subst₂, ◌∙◌}
use mathlib.Core.Logic.{◌↔◌, ◌⊎◌, inl, inr, ⊎_elim}
use mathlib.Core.Bool.{Bool}
use mathlib.Core.List.Memᴰ
use mathlib.Core.List.{List, [], ◌∷◌, Memᴰ}
use Prim.Native.Nat.{ℕ, suc, ◌+◌, ◌-◌, ◌≤◌, ◌<◌}
use native.Mathlib.Omega.{arith}
use lib.ListN.{length, get_or}
use lib.IntN.{ℤ}
use Rattle.plan.specs.Meaning.{Edge, Atom, Graph, Cost, edge, measure_of, cost_of}
use Rattle.plan.specs.Reason.{Nearer, Back, source, step}
use Rattle.plan.specs.Tables.{edges_of, edge_of}
use Rattle.plan.specs.declared.Edge as struct-of-edge
use Rattle.plan.proofs.ByPlace.{blank_edge, edges_at, edge_listed}
use Rattle.plan.proofs.Lists.{mem_at}
use Rattle.plan.proofs.Walks.{pays_by}
use Rattle.plan.proofs.Explain.{last_nearer}
use Rattle.walk.specs.Walking.{Placed}
use Rattle.reason.specs.Marks.{Fits, EdgeFits, MarksAlso, holding, Away, Leads, FirstNearer, PathMarked}

-- ---- marks

pub marks_none : {P : ℕ → Type 0} (m : List Bool) → ((v : ℕ) → P v → ⊥) → MarksAlso P m m
marks_none m n = record { long = refl; exact = λ i. ((λ t. inl t), (λ q. ⊎_elim (λ t. t) (λ p. absurd (n (suc i) p)) q)) }

pub marks_as : {P Q : ℕ → Type 0} {m m' : List Bool} → ((v : ℕ) → P v ↔ Q v) → MarksAlso P m m' → MarksAlso Q m m'
marks_as e x = record {
  long = x.long;
  exact = λ i. (
    (λ t. ⊎_elim (λ y. inl y) (λ p. inr ((e (suc i)).0 p)) ((x.exact i).0 t)),
    (λ q. (x.exact i).1 (⊎_elim (λ y. inl y) (λ p. inr ((e (suc i)).1 p)) q)),
  );
}

pub marks_then : {P Q : ℕ → Type 0} {m n o : List Bool} → MarksAlso P m n → MarksAlso Q n o → MarksAlso (λ v. P v ⊎ Q v) m o
marks_then x y = record {
  long = y.long ∙ x.long;
  exact = λ i. (
    (λ t. ⊎_elim (λ u. ⊎_elim (λ z. inl z) (λ p. inr (inl p)) ((x.exact i).0 u)) (λ q. inr (inr q)) ((y.exact i).0 t)),
    (λ z. (y.exact i).1 (⊎_elim (λ t. inl ((x.exact i).1 (inl t))) (λ r. ⊎_elim (λ p. inl ((x.exact i).1 (inr p))) (λ q. inr q) r) z)),
  );
}

-- ---- what a test answers: no, and with a fact known before it

pub never : {P : Type 0} → (P → ⊥) → ⊥ ↔ P
never n = ((λ z. absurd z), n)

pub also : {R P Q : Type 0} → P → R ↔ Q → R ↔ (P × Q)
also p f = ((λ t. (p, f.0 t)), (λ q. f.1 q.1))

-- ---- the nearer edge

pub edge_fits : {es : List Edge} {a : List ℤ} {e : Edge} → Fits es a → Memᴰ e es → EdgeFits a e
edge_fits {e = e} f m =
    let i = f.inside e m in
    let p = f.placed e m in
    record { from_in = i.0; to_in = i.1; low = p.0; high = p.1 }

pub place_fits : (es : List struct-of-edge.Edge) {a : List ℤ} → Fits (edges_of es) a → (k : ℕ) → k < length es → EdgeFits a (edge_of (get_or es k blank_edge))
place_fits es f k l = edge_fits {e = edge_of (get_or es k blank_edge)} f (rw (edges_at es k) (edge_listed es k l))

module _ (es : List Edge) (a : List ℤ) (A : Atom) {node k : ℕ} where
  -- an edge as the code reads it
  module _ {e : Edge} (j : ℕ) (is : e ≡ edge es j) where
    pub nearer_of : j < length es → Leads es a A node k e → Nearer (cost_of A.kind) es (holding a A) A.from node k j
    nearer_of l q =
        let r = subst (Leads es a A node k) is q in
        record { listed = l; present = r.present; ends = r.ends; before = r.before; near = r.near; sum = r.sum }

    pub of_nearer : Nearer (cost_of A.kind) es (holding a A) A.from node k j → Leads es a A node k e
    of_nearer n = subst (Leads es a A node k) (sym is) (record { present = n.present; ends = n.ends; before = n.before; near = n.near; sum = n.sum })

  -- there is such an edge
  pub some_nearer : (n : ℕ) → Away es a A node k → 1 ≤ k → length es ≤ n → ((i : ℕ) → i < n → Nearer (cost_of A.kind) es (holding a A) A.from node k i → ⊥) → ⊥
  some_nearer n h some l none = ⊎_elim (λ e. omega (arith, e.1)) (λ q. none q.0 (omega (arith, q.1.listed)) q.1) (last_nearer h.walk h.fewest)

  pub first_in : {e : Edge} → FirstNearer es a A node k e → Memᴰ e es
  first_in f = subst (λ x. Memᴰ x es) (sym f.2) (mem_at es _ f.0 f.1.is.listed)

  -- what it costs, as the code computes it
  module _ {e : Edge} (f : FirstNearer es a A node k e) (cost : ℕ) (paid : cost ≡ cost_of A.kind e) where
    pub cost_low : Fits es a → 1 ≤ cost
    cost_low fits = omega (arith, pays_by (measure_of A.kind) es fits.long e (first_in f))

    nearer_by : k ≡ f.1.is.before + cost
    nearer_by = f.1.is.sum ∙ ap (λ (i : ℕ). f.1.is.before + i) (ap (cost_of A.kind) (sym f.2) ∙ sym paid)

    -- its start is nearer by that
    module _ (from : ℕ) (u : from ≡ e.from) where
      at_start : (edge es f.0).from ≡ from
      at_start = sym (u ∙ ap (λ x. x.from) f.2)

      before_is : f.1.is.before ≡ k - cost
      before_is = omega (arith, nearer_by)

      pub start_away : Away es a A from (k - cost)
      start_away = subst₂ (λ w i. Away es a A w i) at_start before_is f.1.is.near

      -- ---- the path

      pub path_more : {m n o : List Bool} → MarksAlso (λ v. v ≡ e.variable) m n → PathMarked es a A from (k - cost) n o → PathMarked es a A node k m o
      path_more {m} {n} {o} first rest = record {
        path = e.variable ∷ rest.path;
        back = subst (λ (v : ℕ). Back (cost_of A.kind) es (holding a A) A.from node k (v ∷ rest.path)) (sym (ap (λ x. x.variable) f.2))
            (step f.1 (subst₂ (λ w i. Back (cost_of A.kind) es (holding a A) A.from w i rest.path) (sym at_start) (sym before_is) rest.back));
        marks = marks_as (λ v. ((λ c. ⊎_elim (λ i. Memᴰ.head i) (λ i. Memᴰ.tail i) c), (λ i. Memᴰ.cases_cons i))) (marks_then first rest.marks);
      }

  pub path_none : (m : List Bool) → Fits es a → k ≡ 0 → Away es a A node k → PathMarked es a A node k m m
  path_none m fits z h = ⊎_elim
      (λ e. record {
        path = [];
        back = subst₂ (λ w i. Back (cost_of A.kind) es (holding a A) A.from w i []) e.0 (sym z) source;
        marks = marks_none m (λ v i. Memᴰ.not-nil i);
      })
      (λ q. absurd (omega (arith, q.1.sum, pays_by (measure_of A.kind) es fits.long (edge es q.0) (mem_at es _ q.0 q.1.listed))))
      (last_nearer h.walk h.fewest)

-- the variables of a path have places in the assignment
pub path_placed : {c : Cost} {es : List Edge} {g : Graph} {s n w k : ℕ} {vs : List ℕ} → Placed es n → Back c es g s w k vs → (v : ℕ) → Memᴰ v vs → (1 ≤ v) × (v ≤ n)
path_placed f source v m = absurd (Memᴰ.not-nil m)
path_placed {es} {n = n} f (step {j = j} p b) v m = ⊎_elim
    (λ e. subst (λ (x : ℕ). (1 ≤ x) × (x ≤ n)) (sym e) (f (edge es j) (mem_at es _ j p.is.listed)))
    (λ i. path_placed f b v i)
    (Memᴰ.cases_cons m)
