-- What closing means for plans: it is one set, a plan keeps it, and a full closing is a plan.
-- Assumes nothing.
use mathlib.Core.Path.{◌≡◌, subst}
use mathlib.Core.Logic.{◌⊎◌, inl, inr, ◌↔◌}
use mathlib.Core.Bool.{Bool, true, false, not}
use mathlib.Core.List.{List, Memᴰ}
use Prim.Native.Nat.{ℕ, zero, suc, ◌≤◌, ◌<◌}
use native.Mathlib.Omega.{arith}
use lib.ListN.{get_or}
use lib.IntN.{ℤ, pos, negsuc, neg_ℤ, nat_abs, ℤ_discrete}
use lib.Dec.{T, T_not, not_T}
use Rattle.plan.specs.Meaning.{Edge, Atom, PlanFile, Graph, IsTrue, on, off, literal_of, value, is_on, is_off, Literals, ◌⊆◌, true_in, add, under, over, Full, IsRight, IsPlan}
use Rattle.plan.specs.Ranged.{Ranged}
use Rattle.plan.specs.Closing.{Settles, Gives, unit, settled, Obeys, Clash, both, all_false, Closing, Closed, Clashes}
use Rattle.plan.proofs.Bools.{T?, T_same, any_or_none}
use Rattle.plan.proofs.Walks.{Long, true_mono}
use Rattle.plan.proofs.Levels.{is_true?, true_iff}

-- every edge of an accepted file has a length
pub edges_long : (φ : PlanFile) → Ranged φ → Long φ.edges
edges_long φ ok e m = (ok.long e m).low

-- a larger set of literals has more in its under graph and less in its over graph; so what it settles of an atom stays settled
over_less : (S R : Literals) → S ⊆ R → (e : Edge) → T (over R e) → T (over S e)
over_less S R h e t = not_T (S (off e.variable)) (λ u. T_not (R (off e.variable)) t (h (off e.variable) u))

pub settles_mono : (φ : PlanFile) → Ranged φ → (S R : Literals) → S ⊆ R → (A : Atom) (b : Bool) → Settles φ S A b → Settles φ R A b
settles_mono φ ok S R h A true x = true_mono φ.edges (edges_long φ ok) (under S) (under R) A (λ e i t. h (on e.variable) t) x
settles_mono φ ok S R h A false n = λ x. n (true_mono φ.edges (edges_long φ ok) (over R) (over S) A (λ e i t. over_less S R h e t) x)

-- what is settled, as antt computes it
abbrev pub settles? : PlanFile → Literals → Atom → Bool → Bool
settles? φ S A true = is_true? φ.nodes φ.edges (under S) A
settles? φ S A false = not (is_true? φ.nodes φ.edges (over S) A)

pub true_in_lem : (φ : PlanFile) → Ranged φ → (g : Graph) (A : Atom) → A.from < φ.nodes → T (is_true? φ.nodes φ.edges g A) ↔ IsTrue φ.edges g A
true_in_lem φ ok g A start = true_iff φ.nodes φ.edges g A (edges_long φ ok) (λ e i. (ok.edge e i).to_in) start

pub settles_iff : (φ : PlanFile) → Ranged φ → (S : Literals) (A : Atom) → A.from < φ.nodes → (b : Bool) → T (settles? φ S A b) ↔ Settles φ S A b
settles_iff φ ok S A start true = true_in_lem φ ok (under S) A start
settles_iff φ ok S A start false =
    let q = true_in_lem φ ok (over S) A start in
    ((λ t x. T_not (is_true? φ.nodes φ.edges (over S) A) t (q.1 x)), (λ n. not_T (is_true? φ.nodes φ.edges (over S) A) (λ t. n (q.0 t))))

-- what a set gives, a larger one gives too
pub gives_mono : (φ : PlanFile) → Ranged φ → (S R : Literals) → S ⊆ R → (l : ℤ) → Gives φ S l → Gives φ R l
gives_mono φ ok S R h l (unit C m z i others) = unit C m z i (λ x k n. h (neg_ℤ x) (others x k n))
gives_mono φ ok S R h l (settled A m b x) = settled A m b (settles_mono φ ok S R h A b x)

-- sets
pub clash_mono : (φ : PlanFile) (S R : Literals) → S ⊆ R → Clash φ S → Clash φ R
clash_mono φ S R h (both v p q) = both v (h _ p) (h _ q)
clash_mono φ S R h (all_false C m f) = all_false C m (λ l k. h _ (f l k))

module _ (φ : PlanFile) where
  pub closing_unique : (G S R : Literals) → Closing φ G S → Closing φ G R → (l : ℤ) → S l ≡ R l
  closing_unique G S R c d l = T_same (S l) (R l) (c.least R d.given d.obeys l) (d.least S c.given c.obeys l)

  -- closing has a clash exactly if the closing set, where there is one, has
  pub closing_clash : (G S : Literals) → Closing φ G S → Clash φ S ↔ Clashes φ G
  closing_clash G S c = ((λ x R g o. clash_mono φ S R (c.least R g o) x), (λ f. f S c.given c.obeys))

  pub not_both : (G S : Literals) → Closed φ G S → Clashes φ G → ⊥
  not_both G S c f = c.free (f S c.closing.given c.closing.obeys)

-- an assignment's set never has both signs, and a full one's has one of them
on_off : (z : ℤ) → T (is_on z) → T (is_off z) → ⊥
on_off (pos n) p q = q
on_off (negsuc n) p q = p

pub never_both : (a : List ℤ) (l : ℤ) → T (true_in a l) → T (true_in a (neg_ℤ l)) → ⊥
unfolding true_in value add
never_both a (pos zero) p q = p
never_both a (pos (suc i)) p q = on_off (get_or a i (pos 0)) p q
never_both a (negsuc i) p q = on_off (get_or a i (pos 0)) q p

pub one_of : (n : ℕ) (a : List ℤ) → Full n a → (l : ℤ) → zero < nat_abs l → nat_abs l ≤ n → T (true_in a l) ⊎ T (true_in a (neg_ℤ l))
unfolding true_in value add
one_of n a f (pos zero) p q = absurd (omega arith)
one_of n a f (pos (suc i)) p q = go (f.each i q)
  where
    go : (get_or a i (pos 0) ≡ pos 1) ⊎ (get_or a i (pos 0) ≡ negsuc 0) → T (true_in a (pos (suc i))) ⊎ T (true_in a (negsuc i))
    go (inl e) = inl (rw e tt)
    go (inr e) = inr (rw e tt)
one_of n a f (negsuc i) p q = go (f.each i q)
  where
    go : (get_or a i (pos 0) ≡ pos 1) ⊎ (get_or a i (pos 0) ≡ negsuc 0) → T (true_in a (negsuc i)) ⊎ T (true_in a (pos (suc i)))
    go (inl e) = inr (rw e tt)
    go (inr e) = inl (rw e tt)

-- the over graph of an assignment has its on edges, and no more where it is full
pub on_over : (a : List ℤ) (v : ℕ) → T (true_in a (on v)) → T (not (true_in a (off v)))
on_over a v t = not_T (true_in a (off v)) (λ u. never_both a (on v) t u)

over_on : (n : ℕ) (a : List ℤ) → Full n a → (v : ℕ) → zero < v → v ≤ n → T (not (true_in a (off v))) → T (true_in a (on v))
over_on n a f v p q t = go (one_of n a f (on v) p q)
  where
    go : T (true_in a (on v)) ⊎ T (true_in a (off v)) → T (true_in a (on v))
    go (inl h) = h
    go (inr h) = absurd (T_not (true_in a (off v)) t h)

module _ (φ : PlanFile) (ok : Ranged φ) (a : List ℤ) where
  pub plan_free : IsPlan φ a → Clash φ (true_in a) → ⊥
  plan_free p (both v x y) = never_both a (on v) x y
  plan_free p (all_false C m f) = let q = p.clause C m in never_both a q.0 q.2 (f q.0 q.1)

  -- what a full assignment settles of an atom whose variable equals its truth is so in it
  pub settled_true : Full φ.variables a → (A : Atom) → Memᴰ A φ.atoms → IsRight φ a A → (b : Bool) → Settles φ (true_in a) A b → T (true_in a (literal_of b A.variable))
  settled_true f A m right true x = right.1 x
  settled_true f A m right false n = go (one_of φ.variables a f (on A.variable) (ok.atom A m).low (ok.atom A m).high)
    where
      go : T (true_in a (on A.variable)) ⊎ T (true_in a (off A.variable)) → T (true_in a (off A.variable))
      go (inl t) = absurd (n (true_mono φ.edges (edges_long φ ok) (under (true_in a)) (over (true_in a)) A (λ e i u. on_over a e.variable u) (right.0 t)))
      go (inr t) = t

  pub plan_obeys : IsPlan φ a → Obeys φ (true_in a)
  plan_obeys p l (unit C m z i others) = let q = p.clause C m in go q.0 q.1 q.2 (ℤ_discrete q.0 l)
    where
      go : (x : ℤ) → Memᴰ x C → T (true_in a x) → Dec (x ≡ l) → T (true_in a l)
      go x k t (yes e) = subst (λ z. T (true_in a z)) e t
      go x k t (no n) = absurd (never_both a x t (others x k n))
  plan_obeys p l (settled A m b x) = settled_true p.full A m (p.atom A m) b x

  pub full_plan : Full φ.variables a → Obeys φ (true_in a) → (Clash φ (true_in a) → ⊥) → IsPlan φ a
  full_plan f o free = record { full = f; clause = some_true; atom = λ A m. (right A m, λ h. o (on A.variable) (settled A m true h)) }
    where
      some_true : (C : List ℤ) → Memᴰ C φ.clauses → (l : ℤ) × Memᴰ l C × T (true_in a l)
      some_true C m = go (any_or_none (true_in a) C)
        where
          false_one : ((x : ℤ) → Memᴰ x C → T (true_in a x) → ⊥) → (l : ℤ) → Memᴰ l C → T (true_in a l) ⊎ T (true_in a (neg_ℤ l)) → T (true_in a (neg_ℤ l))
          false_one n l k (inl t) = absurd (n l k t)
          false_one n l k (inr t) = t

          go : ((x : ℤ) × Memᴰ x C × T (true_in a x)) ⊎ ((x : ℤ) → Memᴰ x C → T (true_in a x) → ⊥) → (l : ℤ) × Memᴰ l C × T (true_in a l)
          go (inl q) = q
          go (inr n) = absurd (free (all_false C m (λ l k. false_one n l k (one_of φ.variables a f l (ok.literal C m l k).low (ok.literal C m l k).high))))

      right : (A : Atom) → Memᴰ A φ.atoms → T (true_in a (on A.variable)) → IsTrue φ.edges (under (true_in a)) A
      right A m t = go (T? (is_true? φ.nodes φ.edges (under (true_in a)) A))
        where
          same : T (is_true? φ.nodes φ.edges (under (true_in a)) A) ↔ IsTrue φ.edges (under (true_in a)) A
          same = true_in_lem φ ok (under (true_in a)) A (ok.atom A m).from_in

          ov : IsTrue φ.edges (over (true_in a)) A → IsTrue φ.edges (under (true_in a)) A
          ov h = true_mono φ.edges (edges_long φ ok) (over (true_in a)) (under (true_in a)) A (λ e i u. over_on φ.variables a f e.variable (ok.edge e i).low (ok.edge e i).high u) h

          go : T (is_true? φ.nodes φ.edges (under (true_in a)) A) ⊎ (T (is_true? φ.nodes φ.edges (under (true_in a)) A) → ⊥)
              → IsTrue φ.edges (under (true_in a)) A
          go (inl h) = same.0 h
          go (inr n) = absurd (never_both a (on A.variable) t (o (off A.variable) (settled A m false (λ h. n (same.1 (ov h))))))

  -- a plan that contains the given literals contains their closing; and if closing them clashes, none does
  pub plan_above : IsPlan φ a → (G S : Literals) → Closing φ G S → G ⊆ true_in a → S ⊆ true_in a
  plan_above p G S c h = c.least (true_in a) h (plan_obeys p)

  pub no_plan : IsPlan φ a → (G : Literals) → Clashes φ G → G ⊆ true_in a → ⊥
  no_plan p G f h = plan_free p (f (true_in a) h (plan_obeys p))

  pub closed_plan : (G : Literals) → Full φ.variables a → Closed φ G (true_in a) → IsPlan φ a
  closed_plan G f c = full_plan f c.closing.obeys c.free
