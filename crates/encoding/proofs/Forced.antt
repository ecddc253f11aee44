-- A block's variables have to have one value each: R(i, w) says that w is reached with i edges, T(i, e) that e is on and its start is.
-- Assumes nothing.
use mathlib.Core.Path.{◌≡◌, refl, sym, ◌∙◌, ap, ap₂, subst, fun_ext}
use mathlib.Core.List.{List}
use mathlib.Core.Bool.{Bool, true, false, ◌&&◌, ◌||◌, cond}
use mathlib.Core.Logic.{◌↔◌, ◌⊎◌, inl, inr}
use Prim.Native.Nat.{ℕ, zero, suc, ◌+◌, ◌*◌, ◌-◌, ◌/◌, ◌%◌, ◌≤◌, ◌<◌}
use native.Mathlib.Omega.{arith}
use native.Mathlib.Nat.{div-add-mod', mod-lt, mul-add-div_right, mul-add-mod_self_right, mod-eq_of_lt, div-eq_of_lt, mul-le-mul_right}
use lib.Dec.{T, eqb, eqb→eq, eqb_refl, ltb, lt→ltb, ltb→lt}
use lib.ListN.{length, get_or}
use Rattle.plan.specs.Meaning.{Edge, Graph, no_edge, edge, one_hop}
use Rattle.plan.specs.Written.{R, U, block_variables}
use Rattle.plan.proofs.Bools.{any_of, T_same, any_some, some_any, tab_at}
use Rattle.plan.proofs.Lists.{le_or_lt, mem_at, at_mem}
use Rattle.plan.proofs.Levels.{next, up_to, reached}
use Rattle.encoding.proofs.Each.{some, some_same, some_iff}
use Rattle.encoding.proofs.Block.{Values, Says}

pub cond_true : {A : Type 0} (b : Bool) (x y : A) → T b → cond b x y ≡ x
cond_true true x y h = refl
cond_true false x y h = absurd h

pub cond_false : {A : Type 0} (b : Bool) (x y : A) → (T b → ⊥) → cond b x y ≡ y
cond_false true x y h = absurd (h tt)
cond_false false x y h = refl

eqb_sym : (x y : ℕ) → eqb x y ≡ eqb y x
eqb_sym x y = T_same (eqb x y) (eqb y x) (turn x y) (turn y x)
  where
    turn : (a b : ℕ) → T (eqb a b) → T (eqb b a)
    turn a b h = subst (λ z. T (eqb z a)) (eqb→eq a b h) (eqb_refl a)

and_swap : (a b c : Bool) → (a && (b && c)) ≡ (b && (a && c))
and_swap true b c = refl
and_swap false true c = refl
and_swap false false c = refl

-- a test of the edges, by membership and by number
any_numbered : (test : Edge → Bool) (es : List Edge) → any_of test es ≡ some (length es) (λ k. test (edge es k))
any_numbered test es =
    T_same (any_of test es) (some (length es) (λ k. test (edge es k)))
    (λ h.
    let q = any_some test es h in
    let r = at_mem es no_edge q.0 q.1 in
    (some_iff (length es) (λ k. test (edge es k))).1 (r.0, r.1, subst (λ e. T (test e)) r.2 q.2))
    (λ h. let q = (some_iff (length es) (λ k. test (edge es k))).0 h in some_any test es (edge es q.0) (mem_at es _ q.0 q.1) q.2)

module _ (n : ℕ) (es : List Edge) (f : Graph) (s : ℕ) where
  abbrev D : ℕ
  D = n + length es

  -- node w is reached with i edges
  abbrev pub at : ℕ → ℕ → Bool
  at i w = get_or (reached one_hop n es f s i) w false

  -- edge k is on, and its start is reached with i edges
  abbrev pub by : ℕ → ℕ → Bool
  by i k = f (edge es k) && at i (edge es k).from

  at_zero : (w : ℕ) → w < n → at 0 w ≡ eqb w s
  unfolding up_to
  at_zero w l = tab_at n (λ x. eqb s x) false w l ∙ eqb_sym s w

  at_suc : (i w : ℕ) → w < n → at (suc i) w ≡ (at i w || some (length es) (λ k. eqb w (edge es k).to && by i k))
  unfolding up_to next
  at_suc i w l =
      tab_at n (λ x. at i x || any_of (λ e. f e && (eqb e.to x && at i e.from)) es) false w l
      ∙ ap (λ b. at i w || b)
      (any_numbered (λ e. f e && (eqb e.to w && at i e.from)) es
      ∙ ap (some (length es))
      (fun_ext (λ k.
      and_swap (f (edge es k)) (eqb (edge es k).to w) (at i (edge es k).from)
      ∙ ap (λ b. b && by i k) (eqb_sym (edge es k).to w))))

  -- the value of the block's variable j, counted from 0
  unfoldable pub value_at : ℕ → Bool
  value_at j = cond (ltb (j % D) n) (at (j / D) (j % D)) (by (j / D) (j % D - n))

  value_R : (i w : ℕ) → w < n → value_at (i * D + w) ≡ at i w
  unfolding value_at
  value_R i w l =
      let q : (i * D + w) / D ≡ i = mul-add-div_right (omega arith) i w ∙ ap (i +◌) (div-eq_of_lt (omega arith)) ∙ omega arith in
      let r : (i * D + w) % D ≡ w = mul-add-mod_self_right i D w ∙ mod-eq_of_lt (omega arith) in
      rw (q, r) (cond_true (ltb w n) _ _ (lt→ltb w n l))

  value_U : (i k : ℕ) → k < length es → value_at (i * D + (n + k)) ≡ by i k
  unfolding value_at
  value_U i k l =
      let q : (i * D + (n + k)) / D ≡ i = mul-add-div_right (omega arith) i (n + k) ∙ ap (i +◌) (div-eq_of_lt (omega arith)) ∙ omega arith in
      let r : (i * D + (n + k)) % D ≡ n + k = mul-add-mod_self_right i D (n + k) ∙ mod-eq_of_lt (omega arith) in
      let u : n + k - n ≡ k = omega arith in
      rw (q, r) (cond_false (ltb (n + k) n) _ _ (λ h. let z = ltb→lt (n + k) n h in omega arith) ∙ rw u)

-- the places of R and T in a block of L levels, and that each place is one of them
module _ (n m L : ℕ) where
  pub R_in : (i w : ℕ) → i ≤ L → w < n → i * (n + m) + w < block_variables n m L
  unfolding block_variables
  R_in i w l h = omega (arith, mul-le-mul_right {m = i} {n = L} (n + m) l)

  pub U_in : (i k : ℕ) → i < L → k < m → i * (n + m) + (n + k) < block_variables n m L
  unfolding block_variables
  U_in i k l h = omega (arith, mul-le-mul_right {m = suc i} {n = L} (n + m) l)

  abbrev Named : ℕ → Type 0
  Named j = ((i : ℕ) × (i ≤ L) × (w : ℕ) × (w < n) × (j ≡ i * (n + m) + w)) ⊎ ((i : ℕ) × (i < L) × (k : ℕ) × (k < m) × (j ≡ i * (n + m) + (n + k)))

  named : 0 < n → (j : ℕ) → j < block_variables n m L → Named j
  unfolding block_variables
  named hn j h = go (j / (n + m)) (j % (n + m)) (div-add-mod' j (n + m)) (mod-lt j (omega arith))
    where
      go : (i r : ℕ) → i * (n + m) + r ≡ j → r < n + m → Named j
      go i r e lr = side (le_or_lt n r) (le_or_lt (suc L) i) (le_or_lt L i)
        where
          side : (n ≤ r) ⊎ (r < n) → (suc L ≤ i) ⊎ (i < suc L) → (L ≤ i) ⊎ (i < L) → Named j
          side (inr a) (inr b) _ = inl (i, omega arith, r, a, sym e)
          side (inr a) (inl b) _ = absurd (omega (arith, mul-le-mul_right {m = suc L} {n = i} (n + m) b))
          side (inl a) _ (inr b) = inr (i, b, r - n, omega arith, sym e ∙ omega arith)
          side (inl a) _ (inl b) = absurd (omega (arith, mul-le-mul_right {m = L} {n = i} (n + m) b))

module _ (n : ℕ) (es : List Edge) (base L s t a : ℕ) (f : Graph) (ν : Values)
    (graph : (k : ℕ) → k < length es → ν (edge es k).variable ≡ f (edge es k))
    (node : 0 < n) (from_in : (k : ℕ) → k < length es → (edge es k).from < n) (t-in : t < n) where
  -- the block's variables have their values
  abbrev Set : Type 0
  Set = (j : ℕ) → j < block_variables n (length es) L → ν (suc (base + j)) ≡ value_at n es f s j

  -- a node of the next level, once this level's edges are known
  node_is : (i : ℕ) → ((k : ℕ) → k < length es → ν (U n es base i k) ≡ by n es f s i k) → (w : ℕ) → w < n → ν (R n es base i w) ≡ at n es f s i w
      → (ν (R n es base i w) || some (length es) (λ k. eqb w (edge es k).to && ν (U n es base i k))) ≡ at n es f s (suc i) w
  node_is i u w lw e =
      ap₂ ◌||◌ e (some_same (length es) _ _ (λ k lk. ap (λ b. eqb w (edge es k).to && b) (u k lk)))
      ∙ sym (at_suc n es f s i w lw)

  module _ (e : Says n es base L s t a ν) where
    U_is : (i : ℕ) → i < L → ((w : ℕ) → w < n → ν (R n es base i w) ≡ at n es f s i w) → (k : ℕ) → k < length es → ν (U n es base i k) ≡ by n es f s i k
    U_is i l r k lk = e.edges i l k lk ∙ ap₂ ◌&&◌ (graph k lk) (r (edge es k).from (from_in k lk))

    R_is : (i : ℕ) → i ≤ L → (w : ℕ) → w < n → ν (R n es base i w) ≡ at n es f s i w
    R_is zero l w lw = e.start w lw ∙ sym (at_zero n es f s w lw)
    R_is (suc i) l w lw = e.nodes i l w lw ∙ node_is i (U_is i l (R_is i (omega arith))) w lw (R_is i (omega arith) w lw)

    says_set : Set
    unfolding R U
    says_set j l =
        elim (named n (length es) L node j l) [
          | inl r ↦ ap (λ x. ν (suc (base + x))) r.4 ∙ R_is r.0 r.1 r.2 r.3 ∙ sym (value_R n es f s r.0 r.2 r.3) ∙ ap (value_at n es f s) (sym r.4)
          | inr r ↦
              ap (λ x. ν (suc (base + x))) r.4 ∙ U_is r.0 r.1 (R_is r.0 (omega (arith, r.1))) r.2 r.3 ∙ sym (value_U n es f s r.0 r.2 r.3)
              ∙ ap (value_at n es f s) (sym r.4)
        ]

  module _ (e : Set) where
    R_set : (i : ℕ) → i ≤ L → (w : ℕ) → w < n → ν (R n es base i w) ≡ at n es f s i w
    unfolding R
    R_set i l w lw = e (i * (n + length es) + w) (R_in n (length es) L i w l lw) ∙ value_R n es f s i w lw

    U_set : (i : ℕ) → i < L → (k : ℕ) → k < length es → ν (U n es base i k) ≡ by n es f s i k
    unfolding U
    U_set i l k lk = e (i * (n + length es) + (n + k)) (U_in n (length es) L i k l lk) ∙ value_U n es f s i k lk

    set_says : ν a ≡ at n es f s L t → Says n es base L s t a ν
    set_says end =
        record {
          start = λ w lw. R_set 0 (omega arith) w lw ∙ at_zero n es f s w lw;
          edges = λ i l k lk. U_set i l k lk ∙ ap₂ ◌&&◌ (sym (graph k lk)) (sym (R_set i (omega arith) (edge es k).from (from_in k lk)));
          nodes = λ i l w lw. R_set (suc i) l w lw ∙ sym (node_is i (U_set i l) w lw (R_set i (omega arith) w lw));
          end = end ∙ sym (R_set L (omega arith) t t-in);
        }

  -- the equations have one solution, and the atom's variable has to be right
  pub says_iff : Says n es base L s t a ν ↔ (Set × (ν a ≡ at n es f s L t))
  says_iff = ((λ e. (says_set e, e.end ∙ R_is e L (omega arith) t t-in)), (λ h. set_says h.0 h.1))
