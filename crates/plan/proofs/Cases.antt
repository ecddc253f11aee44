-- The document's proved cases P1 to P10, and cases of edges with a length, as one table: each is a test that antt computes, and one law turns a passed test into what
-- the definitions say.
-- Assumes nothing.
use mathlib.Core.Path.{◌≡◌, refl, subst, ap, ap₂}
use mathlib.Core.Logic.{◌⊎◌, inl, inr, ◌↔◌}
use mathlib.Core.Bool.{Bool, true, false, not, ◌&&◌, ◌||◌}
use mathlib.Core.List.{List, [], ◌∷◌, Memᴰ}
use Prim.Native.Nat.{ℕ, zero, suc, ◌≤◌, ◌<◌}
use native.Mathlib.Omega.{arith}
use lib.ListN.{length, get_or}
use lib.IntN.{ℤ, pos, negsuc, nat_abs}
use lib.Dec.{T, T_not, eqb, eqb→eq, eqb_refl, ltb, ltb→lt, leb, leb→le}
use Rattle.plan.specs.Meaning.{Edge, Atom, PlanFile, IsTrue, is_on, is_off, value, true_in, add, under, Full}
use Rattle.plan.specs.Ranged.{max_nodes, max_variables, max_edges, max_length, max_atoms, max_bound, max_length_bound, max_clauses, max_literals, literals, EndsFit, BoundFits, Ranged}
use Rattle.plan.specs.declared.Kind.{Kind}
use Rattle.plan.specs.declared.Kind.TheVariants.{Reaches, Within, LengthAtMost}
use Rattle.plan.specs.Search.{Assigned, CloseIs, Outcome, nothing, found, Tree}
use Rattle.plan.specs.Judging.{Judgement, plan, no_true, wrong, Judged}
use Rattle.plan.specs.Reason.{Reason, holds, fails, neither, ReasonIs}
use Rattle.plan.proofs.Bools.{all_of, and_left, and_right, or_cases, all_each}
use Rattle.plan.proofs.Levels.{next, up_to, is_true?}
use Rattle.plan.proofs.Closing.{true_in_lem}
use Rattle.plan.proofs.Add.{on_one, off_one}
use Rattle.plan.proofs.Compute.{eqℤ, close, search}
use Rattle.plan.proofs.Exists.{eqℤ→eq, closing_is, searching_is}
use Rattle.plan.proofs.Judging.{judge, judge_is}
use Rattle.plan.proofs.Explain.{reason, reason_is}

-- tests of shape: what an accepted file has
abbrev between : ℕ → ℕ → ℕ → Bool
between a v b = leb a v && leb v b

between_is : (a v b : ℕ) → T (between a v b) → (a ≤ v) × (v ≤ b)
between_is a v b t = (leb→le a v (and_left (leb a v) _ t), leb→le v b (and_right (leb a v) _ t))

abbrev ends? : ℕ → ℕ → ℕ → ℕ → ℕ → Bool
ends? n m f t v = ltb f n && (ltb t n && between 1 v m)

ends_fit : (n m f t v : ℕ) → T (ends? n m f t v) → EndsFit n m f t v
ends_fit n m f t v h =
    let h1 = and_right (ltb f n) _ h in
    let h2 = between_is 1 v m (and_right (ltb t n) _ h1) in
    record { from_in = ltb→lt f n (and_left (ltb f n) _ h); to_in = ltb→lt t n (and_left (ltb t n) _ h1); low = h2.0; high = h2.1 }

abbrev edge_fits? : PlanFile → Edge → Bool
edge_fits? φ e = ends? φ.nodes φ.variables e.from e.to e.variable && between 1 e.length max_length

abbrev bound? : Kind → ℕ → Bool
bound? Reaches d = eqb d 0
bound? Within d = leb d max_bound
bound? LengthAtMost d = leb d max_length_bound

bound_is : (kind : Kind) (d : ℕ) → T (bound? kind d) → BoundFits kind d
bound_is Reaches d t = eqb→eq d 0 t
bound_is Within d t = leb→le d max_bound t
bound_is LengthAtMost d t = leb→le d max_length_bound t

abbrev atom_fits? : PlanFile → Atom → Bool
atom_fits? φ A = ends? φ.nodes φ.variables A.from A.to A.variable && (bound? A.kind A.bound && all_of (λ e. not (eqb e.variable A.variable)) φ.edges)

abbrev clause_fits? : PlanFile → List ℤ → Bool
clause_fits? φ C = all_of (λ l. between 1 (nat_abs l) φ.variables) C

abbrev counts? : PlanFile → Bool
counts? φ =
    between 1 φ.nodes max_nodes && (between 1 φ.variables max_variables && (leb (length φ.edges) max_edges
    && (leb (length φ.atoms) max_atoms && (leb (length φ.clauses) max_clauses && leb (literals φ.clauses) max_literals))))

abbrev ranged? : PlanFile → Bool
ranged? φ = counts? φ && (all_of (edge_fits? φ) φ.edges && (all_of (atom_fits? φ) φ.atoms && all_of (clause_fits? φ) φ.clauses))

ranged : (φ : PlanFile) → T (ranged? φ) → Ranged φ
ranged φ t =
    let c0 = and_left (counts? φ) _ t in
    let c1 = and_right (between 1 φ.nodes max_nodes) _ c0 in
    let c2 = and_right (between 1 φ.variables max_variables) _ c1 in
    let c3 = and_right (leb (length φ.edges) max_edges) _ c2 in
    let c4 = and_right (leb (length φ.atoms) max_atoms) _ c3 in
    let n = between_is 1 φ.nodes max_nodes (and_left (between 1 φ.nodes max_nodes) _ c0) in
    let v = between_is 1 φ.variables max_variables (and_left (between 1 φ.variables max_variables) _ c1) in
    let t1 = and_right (counts? φ) _ t in
    let t2 = and_right (all_of (edge_fits? φ) φ.edges) _ t1 in
    let es = all_each (edge_fits? φ) φ.edges (and_left (all_of (edge_fits? φ) φ.edges) _ t1) in
    let bs = all_each (atom_fits? φ) φ.atoms (and_left (all_of (atom_fits? φ) φ.atoms) _ t2) in
    let cs = all_each (clause_fits? φ) φ.clauses (and_right (all_of (atom_fits? φ) φ.atoms) _ t2) in
    record {
      node = n.0;
      nodes = n.1;
      variable = v.0;
      variables = v.1;
      edges = leb→le (length φ.edges) max_edges (and_left (leb (length φ.edges) max_edges) _ c2);
      atoms = leb→le (length φ.atoms) max_atoms (and_left (leb (length φ.atoms) max_atoms) _ c3);
      clauses = leb→le (length φ.clauses) max_clauses (and_left (leb (length φ.clauses) max_clauses) _ c4);
      literals = leb→le (literals φ.clauses) max_literals (and_right (leb (length φ.clauses) max_clauses) _ c4);
      edge = λ e m. ends_fit φ.nodes φ.variables e.from e.to e.variable (and_left (ends? φ.nodes φ.variables e.from e.to e.variable) _ (es e m));
      long = λ e m.
          let h = between_is 1 e.length max_length (and_right (ends? φ.nodes φ.variables e.from e.to e.variable) _ (es e m)) in
          record { low = h.0; high = h.1 };
      atom = λ A m. ends_fit φ.nodes φ.variables A.from A.to A.variable (and_left (ends? φ.nodes φ.variables A.from A.to A.variable) _ (bs A m));
      bound = λ A m. bound_is A.kind A.bound (and_left (bound? A.kind A.bound) _ (and_right (ends? φ.nodes φ.variables A.from A.to A.variable) _ (bs A m)));
      literal = λ C m l k.
          let h = between_is 1 (nat_abs l) φ.variables (all_each (λ l. between 1 (nat_abs l) φ.variables) C (cs C m) l k) in
          record { low = h.0; high = h.1 };
      apart = λ e m A k q.
          let h = all_each (λ e. not (eqb e.variable A.variable)) φ.edges (and_right (bound? A.kind A.bound) _ (and_right (ends? φ.nodes φ.variables A.from A.to A.variable) _ (bs A k))) e m in
          T_not (eqb e.variable A.variable) h (subst (λ z. T (eqb e.variable z)) q (eqb_refl e.variable));
    }

all_get_d : {A : Type 0} (f : A → Bool) (xs : List A) (d : A) → T (all_of f xs) → (i : ℕ) → i < length xs → T (f (get_or xs i d))
all_get_d f [] d t i h = absurd (omega arith)
all_get_d f (x ∷ xs) d t zero h = and_left (f x) _ t
all_get_d f (x ∷ xs) d t (suc i) h = all_get_d f xs d (and_right (f x) _ t) i (omega arith)

abbrev full? : ℕ → List ℤ → Bool
full? n a = eqb (length a) n && all_of (λ x. is_on x || is_off x) a

full_is : (n : ℕ) (a : List ℤ) → T (full? n a) → Full n a
full_is n a t = record { long = long; each = λ i h. go i (or_cases (is_on (get_or a i (pos 0))) _ (all_get_d _ a (pos 0) (and_right (eqb (length a) n) _ t) i (omega (arith, long)))) }
  where
    long : length a ≡ n
    long = eqb→eq (length a) n (and_left (eqb (length a) n) _ t)

    go : (i : ℕ) → T (is_on (get_or a i (pos 0))) ⊎ T (is_off (get_or a i (pos 0))) → (get_or a i (pos 0) ≡ pos 1) ⊎ (get_or a i (pos 0) ≡ negsuc 0)
    go i (inl h) = inl (on_one (get_or a i (pos 0)) h)
    go i (inr h) = inr (off_one (get_or a i (pos 0)) h)

abbrev assigned? : ℕ → List ℤ → Bool
assigned? n a = eqb (length a) n && all_of (λ x. is_on x || (is_off x || eqℤ x (pos 0))) a

assigned_is : (n : ℕ) (a : List ℤ) → T (assigned? n a) → Assigned n a
assigned_is n a t = record { long = long; each = λ i h. go i (or_cases (is_on (get_or a i (pos 0))) _ (all_get_d _ a (pos 0) (and_right (eqb (length a) n) _ t) i (omega (arith, long)))) }
  where
    long : length a ≡ n
    long = eqb→eq (length a) n (and_left (eqb (length a) n) _ t)

    rest : (i : ℕ) → T (is_off (get_or a i (pos 0))) ⊎ T (eqℤ (get_or a i (pos 0)) (pos 0)) → (get_or a i (pos 0) ≡ pos 1) ⊎ (get_or a i (pos 0) ≡ negsuc 0) ⊎ (get_or a i (pos 0) ≡ pos 0)
    rest i (inl h) = inr (inl (off_one (get_or a i (pos 0)) h))
    rest i (inr h) = inr (inr (eqℤ→eq (get_or a i (pos 0)) (pos 0) h))

    go : (i : ℕ) → T (is_on (get_or a i (pos 0))) ⊎ T (is_off (get_or a i (pos 0)) || eqℤ (get_or a i (pos 0)) (pos 0))
        → (get_or a i (pos 0) ≡ pos 1) ⊎ (get_or a i (pos 0) ≡ negsuc 0) ⊎ (get_or a i (pos 0) ≡ pos 0)
    go i (inl h) = inl (on_one (get_or a i (pos 0)) h)
    go i (inr h) = rest i (or_cases (is_off (get_or a i (pos 0))) _ h)

-- tests of equality
abbrev eq_list : List ℤ → List ℤ → Bool
eq_list [] [] = true
eq_list [] (y ∷ ys) = false
eq_list (x ∷ xs) [] = false
eq_list (x ∷ xs) (y ∷ ys) = eqℤ x y && eq_list xs ys

eq_list→eq : (xs ys : List ℤ) → T (eq_list xs ys) → xs ≡ ys
eq_list→eq [] [] t = refl
eq_list→eq [] (y ∷ ys) t = absurd t
eq_list→eq (x ∷ xs) [] t = absurd t
eq_list→eq (x ∷ xs) (y ∷ ys) t = ap₂ (λ z zs. z ∷ zs) (eqℤ→eq x y (and_left (eqℤ x y) _ t)) (eq_list→eq xs ys (and_right (eqℤ x y) _ t))

abbrev eq_outcome : Outcome → Outcome → Bool
eq_outcome nothing nothing = true
eq_outcome nothing (found q) = false
eq_outcome (found p) nothing = false
eq_outcome (found p) (found q) = eq_list p q

eq_outcome→eq : (o r : Outcome) → T (eq_outcome o r) → o ≡ r
eq_outcome→eq nothing nothing t = refl
eq_outcome→eq nothing (found q) t = absurd t
eq_outcome→eq (found p) nothing t = absurd t
eq_outcome→eq (found p) (found q) t = ap found (eq_list→eq p q t)

abbrev eq_judgement : Judgement → Judgement → Bool
eq_judgement plan plan = true
eq_judgement plan (no_true n) = false
eq_judgement plan (wrong n) = false
eq_judgement (no_true m) plan = false
eq_judgement (no_true m) (no_true n) = eqb m n
eq_judgement (no_true m) (wrong n) = false
eq_judgement (wrong m) plan = false
eq_judgement (wrong m) (no_true n) = false
eq_judgement (wrong m) (wrong n) = eqb m n

eq_judgement→eq : (v w : Judgement) → T (eq_judgement v w) → v ≡ w
eq_judgement→eq plan plan t = refl
eq_judgement→eq plan (no_true n) t = absurd t
eq_judgement→eq plan (wrong n) t = absurd t
eq_judgement→eq (no_true m) plan t = absurd t
eq_judgement→eq (no_true m) (no_true n) t = ap no_true (eqb→eq m n t)
eq_judgement→eq (no_true m) (wrong n) t = absurd t
eq_judgement→eq (wrong m) plan t = absurd t
eq_judgement→eq (wrong m) (no_true n) t = absurd t
eq_judgement→eq (wrong m) (wrong n) t = ap wrong (eqb→eq m n t)

abbrev eq_reason : Reason → Reason → Bool
eq_reason (holds r) (holds r') = eq_list r r'
eq_reason (holds r) (fails r') = false
eq_reason (holds r) neither = false
eq_reason (fails r) (holds r') = false
eq_reason (fails r) (fails r') = eq_list r r'
eq_reason (fails r) neither = false
eq_reason neither (holds r') = false
eq_reason neither (fails r') = false
eq_reason neither neither = true

eq_reason→eq : (r r' : Reason) → T (eq_reason r r') → r ≡ r'
eq_reason→eq (holds r) (holds r') t = ap holds (eq_list→eq r r' t)
eq_reason→eq (holds r) (fails r') t = absurd t
eq_reason→eq (holds r) neither t = absurd t
eq_reason→eq (fails r) (holds r') t = absurd t
eq_reason→eq (fails r) (fails r') t = ap fails (eq_list→eq r r' t)
eq_reason→eq (fails r) neither t = absurd t
eq_reason→eq neither (holds r') t = absurd t
eq_reason→eq neither (fails r') t = absurd t
eq_reason→eq neither neither t = refl

-- a case: over a file and an assignment, what is so
pub data Case : Type 0 where
  is_true : PlanFile → List ℤ → Atom → Case
  is_false : PlanFile → List ℤ → Atom → Case
  judges : PlanFile → List ℤ → Judgement → Case
  closes : PlanFile → List ℤ → Outcome → Case
  explains : PlanFile → List ℤ → Atom → Reason → Case
  finds : PlanFile → List ℤ → Outcome → ℕ → Case

abbrev pub Says : Case → Type 0
Says (is_true φ a A) = IsTrue φ.edges (under (true_in a)) A
Says (is_false φ a A) = IsTrue φ.edges (under (true_in a)) A → ⊥
Says (judges φ a v) = Judged φ a v
Says (closes φ a o) = CloseIs φ a o
Says (explains φ a A r) = ReasonIs φ a A r
Says (finds φ a o b) = Tree φ a o b

abbrev atom_fits : PlanFile → Atom → Bool
atom_fits φ A = ranged? φ && ltb A.from φ.nodes

abbrev pub passes : Case → Bool
passes (is_true φ a A) = atom_fits φ A && is_true? φ.nodes φ.edges (under (true_in a)) A
passes (is_false φ a A) = atom_fits φ A && not (is_true? φ.nodes φ.edges (under (true_in a)) A)
passes (judges φ a v) = ranged? φ && (full? φ.variables a && eq_judgement (judge φ a) v)
passes (closes φ a o) = ranged? φ && (assigned? φ.variables a && eq_outcome (close (suc φ.variables) φ a) o)
passes (explains φ a A r) = atom_fits φ A && eq_reason (reason φ a A) r
passes (finds φ a o b) = ranged? φ && (assigned? φ.variables a && (eq_outcome (search (suc φ.variables) φ a).outcome o && eqb (search (suc φ.variables) φ a).count b))

fits_iff : (φ : PlanFile) (a : List ℤ) (A : Atom) → T (atom_fits φ A) → T (is_true? φ.nodes φ.edges (under (true_in a)) A) ↔ IsTrue φ.edges (under (true_in a)) A
fits_iff φ a A t =
    true_in_lem φ (ranged φ (and_left (ranged? φ) _ t)) (under (true_in a)) A (ltb→lt A.from φ.nodes (and_right (ranged? φ) _ t))

-- a case that passes is so
pub passed : (c : Case) → T (passes c) → Says c
passed (is_true φ a A) t = (fits_iff φ a A (and_left (atom_fits φ A) _ t)).0 (and_right (atom_fits φ A) _ t)
passed (is_false φ a A) t = λ h. T_not (is_true? φ.nodes φ.edges (under (true_in a)) A) (and_right (atom_fits φ A) _ t) ((fits_iff φ a A (and_left (atom_fits φ A) _ t)).1 h)
passed (judges φ a v) t =
    let u = and_right (ranged? φ) _ t in
    subst (λ w. Judged φ a w) (eq_judgement→eq (judge φ a) v (and_right (full? φ.variables a) _ u))
    (judge_is φ (ranged φ (and_left (ranged? φ) _ t)) a (full_is φ.variables a (and_left (full? φ.variables a) _ u)))
passed (closes φ a o) t =
    let u = and_right (ranged? φ) _ t in
    subst (λ r. CloseIs φ a r) (eq_outcome→eq (close (suc φ.variables) φ a) o (and_right (assigned? φ.variables a) _ u))
    (closing_is φ (ranged φ (and_left (ranged? φ) _ t)) a (assigned_is φ.variables a (and_left (assigned? φ.variables a) _ u)))
passed (explains φ a A r) t =
    let u = and_left (atom_fits φ A) _ t in
    subst (λ x. ReasonIs φ a A x) (eq_reason→eq (reason φ a A) r (and_right (atom_fits φ A) _ t))
    (reason_is φ a A (ranged φ (and_left (ranged? φ) _ u)) (ltb→lt A.from φ.nodes (and_right (ranged? φ) _ u)))
passed (finds φ a o b) t =
    let u = and_right (ranged? φ) _ t in
    let w = and_right (assigned? φ.variables a) _ u in
    let p = eq_outcome→eq (search (suc φ.variables) φ a).outcome o (and_left (eq_outcome (search (suc φ.variables) φ a).outcome o) _ w) in
    let q = eqb→eq (search (suc φ.variables) φ a).count b (and_right (eq_outcome (search (suc φ.variables) φ a).outcome o) _ w) in
    subst (λ k. Tree φ a o k) q (subst (λ r. Tree φ a r (search (suc φ.variables) φ a).count) p
    (searching_is φ (ranged φ (and_left (ranged? φ) _ t)) a (assigned_is φ.variables a (and_left (assigned? φ.variables a) _ u))))

-- the files
abbrev long : ℕ → ℕ → ℕ → ℕ → Edge
long f t l v = record { from = f; to = t; length = l; variable = v }

abbrev pub link : ℕ → ℕ → ℕ → Edge
link f t v = long f t 1 v

abbrev pub reaches : ℕ → ℕ → ℕ → Atom
reaches f t v = record { kind = Reaches; from = f; to = t; bound = 0; variable = v }

abbrev pub within : ℕ → ℕ → ℕ → ℕ → Atom
within d f t v = record { kind = Within; from = f; to = t; bound = d; variable = v }

abbrev lasting : ℕ → ℕ → ℕ → ℕ → Atom
lasting d f t v = record { kind = LengthAtMost; from = f; to = t; bound = d; variable = v }

lone : PlanFile
lone = record { nodes = 1; variables = 1; edges = []; atoms = reaches 0 0 1 ∷ []; clauses = [] }

row : PlanFile
row = record { nodes = 5; variables = 4; edges = link 0 1 1 ∷ link 1 2 2 ∷ link 2 3 3 ∷ []; atoms = within 3 0 3 4 ∷ []; clauses = [] }

abbrev pub sample : PlanFile
sample = record {
  nodes = 3;
  variables = 5;
  edges = link 0 1 1 ∷ link 1 2 2 ∷ link 0 2 3 ∷ [];
  atoms = within 1 0 2 4 ∷ reaches 0 2 5 ∷ [];
  clauses = (pos 5 ∷ []) ∷ (negsuc 3 ∷ []) ∷ [];
}

-- the sample with a clause that has no literals between its two
never : PlanFile
never = record {
  nodes = 3;
  variables = 5;
  edges = sample.edges;
  atoms = sample.atoms;
  clauses = (pos 5 ∷ []) ∷ [] ∷ (negsuc 3 ∷ []) ∷ [];
}

-- two hops round the lake outlast four downtown: to node 5 it is 9 + 9 over node 1, and 4 + 4 + 4 + 4 over 2, 3 and 4
lake : PlanFile
lake = record {
  nodes = 6;
  variables = 8;
  edges = long 0 1 9 1 ∷ long 1 5 9 2 ∷ long 0 2 4 3 ∷ long 2 3 4 4 ∷ long 3 4 4 5 ∷ long 4 5 4 6 ∷ [];
  atoms = lasting 16 0 5 7 ∷ within 2 0 5 8 ∷ [];
  clauses = [];
}

-- node 2 is 4 away over node 1, and 4 by the edge that leads there at once and has the last number
tie : PlanFile
tie = record { nodes = 3; variables = 5; edges = long 1 2 2 1 ∷ long 0 1 2 2 ∷ long 0 2 4 3 ∷ []; atoms = lasting 4 0 2 4 ∷ within 2 0 2 5 ∷ []; clauses = [] }

y : ℤ
y = pos 1

n : ℤ
n = negsuc 0

o : ℤ
o = pos 0

-- P1 to P10 in order (P4 has two lines), then the sample's plan with its count B, then what the empty clause makes of it; then lengths
pub table : List Case
table =
    is_true lone (o ∷ []) (reaches 0 0 1)
    ∷ is_false row (y ∷ y ∷ y ∷ y ∷ []) (within 0 0 1 4)
    ∷ is_false row (y ∷ y ∷ y ∷ y ∷ []) (within 255 0 4 4)
    ∷ is_true row (y ∷ y ∷ y ∷ y ∷ []) (within 3 0 3 4)
    ∷ is_false row (y ∷ y ∷ y ∷ y ∷ []) (within 2 0 3 4)
    ∷ judges sample (y ∷ y ∷ n ∷ n ∷ y ∷ []) plan
    ∷ judges sample (y ∷ y ∷ y ∷ n ∷ y ∷ []) (wrong 1)
    ∷ closes sample (o ∷ o ∷ o ∷ o ∷ o ∷ []) (found (o ∷ o ∷ o ∷ n ∷ y ∷ []))
    ∷ closes sample (n ∷ o ∷ n ∷ o ∷ o ∷ []) nothing
    ∷ explains sample (y ∷ y ∷ o ∷ o ∷ o ∷ []) (reaches 0 2 5) (holds (pos 5 ∷ negsuc 0 ∷ negsuc 1 ∷ []))
    ∷ explains sample (o ∷ o ∷ n ∷ o ∷ o ∷ []) (within 1 0 2 4) (fails (negsuc 3 ∷ pos 3 ∷ []))
    ∷ finds sample (o ∷ o ∷ o ∷ o ∷ o ∷ []) (found (y ∷ y ∷ n ∷ n ∷ y ∷ [])) 7
    ∷ judges never (y ∷ y ∷ n ∷ n ∷ y ∷ []) (no_true 2)
    ∷ closes never (o ∷ o ∷ o ∷ o ∷ o ∷ []) nothing
    ∷ finds never (o ∷ o ∷ o ∷ o ∷ o ∷ []) nothing 0
    -- the way downtown is the shorter one, and the way round the lake has fewer hops
    ∷ is_true lake (y ∷ y ∷ y ∷ y ∷ y ∷ y ∷ y ∷ y ∷ []) (lasting 16 0 5 7)
    ∷ is_false lake (y ∷ y ∷ y ∷ y ∷ y ∷ y ∷ y ∷ y ∷ []) (lasting 15 0 5 7)
    ∷ is_true lake (y ∷ y ∷ y ∷ y ∷ y ∷ y ∷ y ∷ y ∷ []) (within 2 0 5 8)
    -- a node is 0 from itself; and where there is no path no bound helps (255, since of the most that a file may ask, 65,535, antt would compute
    -- as many levels)
    ∷ is_true lake (n ∷ n ∷ n ∷ n ∷ n ∷ n ∷ n ∷ n ∷ []) (lasting 0 0 0 7)
    ∷ is_false lake (y ∷ y ∷ y ∷ y ∷ y ∷ y ∷ y ∷ y ∷ []) (lasting 255 5 0 7)
    -- downtown is shut at its first edge: what is left takes 18
    ∷ is_false lake (y ∷ y ∷ n ∷ y ∷ y ∷ y ∷ n ∷ y ∷ []) (lasting 17 0 5 7)
    ∷ explains lake (y ∷ y ∷ n ∷ o ∷ o ∷ o ∷ o ∷ o ∷ []) (lasting 17 0 5 7) (fails (negsuc 6 ∷ pos 3 ∷ []))
    ∷ explains lake (y ∷ y ∷ n ∷ o ∷ o ∷ o ∷ o ∷ o ∷ []) (lasting 18 0 5 7) (holds (pos 7 ∷ negsuc 0 ∷ negsuc 1 ∷ []))
    ∷ closes lake (y ∷ y ∷ n ∷ o ∷ o ∷ o ∷ o ∷ o ∷ []) (found (y ∷ y ∷ n ∷ o ∷ o ∷ o ∷ n ∷ y ∷ []))
    -- an off edge that starts 9 away counts where the bound is 10, and not where it is 9
    ∷ explains lake (y ∷ n ∷ n ∷ o ∷ o ∷ o ∷ o ∷ o ∷ []) (lasting 10 0 5 7) (fails (negsuc 6 ∷ pos 2 ∷ pos 3 ∷ []))
    ∷ explains lake (y ∷ n ∷ n ∷ o ∷ o ∷ o ∷ o ∷ o ∷ []) (lasting 9 0 5 7) (fails (negsuc 6 ∷ pos 3 ∷ []))
    -- of two shortest ways by length the smallest edge number at node 2 decides; by hops there is one
    ∷ explains tie (y ∷ y ∷ y ∷ o ∷ o ∷ []) (lasting 4 0 2 4) (holds (pos 4 ∷ negsuc 0 ∷ negsuc 1 ∷ []))
    ∷ explains tie (y ∷ y ∷ y ∷ o ∷ o ∷ []) (within 2 0 2 5) (holds (pos 5 ∷ negsuc 2 ∷ []))
    -- an off edge that would be no shorter is no premise, and it is one where it would save a hop
    ∷ explains tie (y ∷ y ∷ n ∷ o ∷ o ∷ []) (lasting 3 0 2 4) (fails (negsuc 3 ∷ []))
    ∷ explains tie (y ∷ y ∷ n ∷ o ∷ o ∷ []) (within 1 0 2 5) (fails (negsuc 4 ∷ pos 3 ∷ []))
    ∷ []

pub shown : (c : Case) → Memᴰ c table → Says c
unfolding table lone row never lake tie y n o literals next up_to is_true? judge close search reason true_in value add
shown c m = passed c (all_each passes table tt c m)
