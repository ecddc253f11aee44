-- The clauses of a block as equations between the values of its variables.
-- Assumes nothing.
use mathlib.Core.Path.{◌≡◌, refl, sym, ◌∙◌, ap, subst, fun_ext}
use mathlib.Core.List.{List, [], ◌∷◌, ◌++◌}
use mathlib.Core.Bool.{Bool, true, false, not, ◌&&◌, ◌||◌, cond}
use mathlib.Core.Logic.{◌↔◌}
use Prim.Native.Nat.{ℕ, zero, suc, ◌<◌}
use native.Mathlib.Omega.{arith}
use lib.IntN.{ℤ, pos, negsuc}
use lib.Dec.{T, eqb}
use lib.ListN.{length}
use Rattle.plan.specs.Meaning.{Edge, Literals, edge, on, off}
use Rattle.plan.specs.Written.{each, R, U, into, start_clauses, edge_clauses, node_clauses, level_clauses, end_clauses, block}
use Rattle.plan.proofs.Bools.{any_of, all_of}
use Rattle.encoding.proofs.Each.{below_zero, some, any_each, all_append, all_each, both}

-- a value for every variable; only those of the clauses at hand are looked at
abbrev pub Values : Type 0
Values = ℕ → Bool

-- the literals that are true then
abbrev pub signed : Values → Literals
signed ν (pos v) = ν v
signed ν (negsuc i) = not (ν (suc i))

abbrev pub satisfied : Values → List (List ℤ) → Bool
satisfied ν Cs = all_of (any_of (signed ν)) Cs

signed_off : (ν : Values) (v : ℕ) → 0 < v → signed ν (off v) ≡ not (ν v)
signed_off ν zero h = absurd (below_zero h)
signed_off ν (suc v) h = refl

-- equality as a test
abbrev same : Bool → Bool → Bool
same true b = b
same false b = not b

same_iff : (a b : Bool) → T (same a b) ↔ (a ≡ b)
same_iff true true = (λ h. refl, λ e. tt)
same_iff true false = (λ h. absurd h, λ e. subst T e tt)
same_iff false true = (λ h. absurd h, λ e. subst T (sym e) tt)
same_iff false false = (λ h. refl, λ e. tt)

or_false : (b : Bool) → (b || false) ≡ b
or_false true = refl
or_false false = refl

and_true : (b : Bool) → (b && true) ≡ b
and_true true = refl
and_true false = refl

-- the clauses of a group, as Bool functions of the values in them
alone : (b r : Bool) → (((cond b r (not r)) || false) && true) ≡ same r b
alone true true = refl
alone true false = refl
alone false true = refl
alone false false = refl

and_gate : (t x r : Bool) → ((not t || (x || false)) && ((not t || (r || false)) && ((not x || (not r || (t || false))) && true))) ≡ same t (x && r)
and_gate true true true = refl
and_gate true true false = refl
and_gate true false true = refl
and_gate true false false = refl
and_gate false true true = refl
and_gate false true false = refl
and_gate false false true = refl
and_gate false false false = refl

or_gate : (q r x : Bool) → ((not q || (r || x)) && ((not r || (q || false)) && (not x || q))) ≡ same q (r || x)
or_gate true true true = refl
or_gate true true false = refl
or_gate true false true = refl
or_gate true false false = refl
or_gate false true true = refl
or_gate false true false = refl
or_gate false false true = refl
or_gate false false false = refl

equal_gate : (a r : Bool) → ((not a || (r || false)) && ((a || (not r || false)) && true)) ≡ same a r
equal_gate true true = refl
equal_gate true false = refl
equal_gate false true = refl
equal_gate false false = refl

-- x gives q, and y gives q
either_gives : (x y q : Bool) → ((not x || q) && (not y || q)) ≡ (not (x || y) || q)
either_gives true true true = refl
either_gives true true false = refl
either_gives true false q = and_true q
either_gives false y q = refl

module _ (ν : Values) where
  pub split : (Cs Ds : List (List ℤ)) → T (satisfied ν (Cs ++ Ds)) ↔ (T (satisfied ν Cs) × T (satisfied ν Ds))
  split = both (any_of (signed ν))

  every : (n : ℕ) (f : ℕ → List (List ℤ)) → T (satisfied ν (each n f)) ↔ ((i : ℕ) → i < n → T (satisfied ν (f i)))
  every = all_each (any_of (signed ν))

  alone_iff : (r : ℕ) → 0 < r → (b : Bool) → T (satisfied ν ((cond b (on r) (off r) ∷ []) ∷ [])) ↔ (ν r ≡ b)
  alone_iff r h b = rw (sign b, alone b (ν r)) (same_iff (ν r) b)
    where
      sign : (c : Bool) → signed ν (cond c (on r) (off r)) ≡ cond c (ν r) (not (ν r))
      sign true = refl
      sign false = signed_off ν r h

  edge_iff : (t x r : ℕ) → 0 < t → 0 < x → 0 < r
      → T (satisfied ν ((off t ∷ on x ∷ []) ∷ (off t ∷ on r ∷ []) ∷ (off x ∷ off r ∷ on t ∷ []) ∷ [])) ↔ (ν t ≡ (ν x && ν r))
  edge_iff t x r ht hx hr = rw (signed_off ν t ht, signed_off ν x hx, signed_off ν r hr, and_gate (ν t) (ν x) (ν r)) (same_iff (ν t) (ν x && ν r))

  end_iff : (a r : ℕ) → 0 < a → 0 < r → T (satisfied ν ((off a ∷ on r ∷ []) ∷ (on a ∷ off r ∷ []) ∷ [])) ↔ (ν a ≡ ν r)
  end_iff a r ha hr = rw (signed_off ν a ha, signed_off ν r hr, equal_gate (ν a) (ν r)) (same_iff (ν a) (ν r))

  -- of the variables x k that b picks, one is on
  some_of : (m : ℕ) (b : ℕ → Bool) (x : ℕ → ℕ) → any_of (signed ν) (each m (λ k. cond (b k) (on (x k) ∷ []) [])) ≡ some m (λ k. b k && ν (x k))
  some_of m b x = any_each (signed ν) m (λ k. cond (b k) (on (x k) ∷ []) []) ∙ ap (some m) (fun_ext (λ k. one (b k) (x k)))
    where
      one : (c : Bool) (v : ℕ) → any_of (signed ν) (cond c (on v ∷ []) []) ≡ (c && ν v)
      one true v = or_false (ν v)
      one false v = refl

  -- each of them gives q
  each_gives : (q m : ℕ) (b : ℕ → Bool) (x : ℕ → ℕ) → ((k : ℕ) → 0 < x k)
      → satisfied ν (each m (λ k. cond (b k) ((off (x k) ∷ on q ∷ []) ∷ []) [])) ≡ (not (some m (λ k. b k && ν (x k))) || ν q)
  unfolding each some
  each_gives q zero b x h = refl
  each_gives q (suc m) b x h = rw (all_append, each_gives q m b x h, one (b m) (x m) (h m)) (either_gives (some m (λ k. b k && ν (x k))) (b m && ν (x m)) (ν q))
    where
      one : (c : Bool) (v : ℕ) → 0 < v → satisfied ν (cond c ((off v ∷ on q ∷ []) ∷ []) []) ≡ (not (c && ν v) || ν q)
      one true v hv = rw (signed_off ν v hv, or_false, and_true)
      one false v hv = refl

  node_iff : (q r m : ℕ) (b : ℕ → Bool) (x : ℕ → ℕ) → 0 < q → 0 < r → ((k : ℕ) → 0 < x k)
      → T (satisfied ν ((off q ∷ on r ∷ each m (λ k. cond (b k) (on (x k) ∷ []) []))
      ∷ (off r ∷ on q ∷ [])
      ∷ each m (λ k. cond (b k) ((off (x k) ∷ on q ∷ []) ∷ []) [])))
      ↔ (ν q ≡ (ν r || some m (λ k. b k && ν (x k))))
  node_iff q r m b x hq hr hx =
      let y = some m (λ k. b k && ν (x k)) in
      rw (signed_off ν q hq, signed_off ν r hr, some_of m b x, each_gives q m b x hx, or_gate (ν q) (ν r) y) (same_iff (ν q) (ν r || y))

module _ (n : ℕ) (es : List Edge) (base : ℕ) where
  pub R_pos : (i w : ℕ) → 0 < R n es base i w
  unfolding R
  R_pos i w = omega arith

  pub U_pos : (i k : ℕ) → 0 < U n es base i k
  unfolding U
  U_pos i k = omega arith

  -- what the clauses of a block of L levels say, from the source s to the target t with the atom's variable a
  pub record Says (L s t a : ℕ) (ν : Values) : Type 0 where
    pub start : (w : ℕ) → w < n → ν (R n es base 0 w) ≡ eqb w s
    pub edges : (i : ℕ) → i < L → (k : ℕ) → k < length es → ν (U n es base i k) ≡ (ν (edge es k).variable && ν (R n es base i (edge es k).from))
    pub nodes : (i : ℕ) → i < L → (w : ℕ) → w < n
        → ν (R n es base (suc i) w) ≡ (ν (R n es base i w) || some (length es) (λ k. eqb w (edge es k).to && ν (U n es base i k)))
    pub end : ν a ≡ ν (R n es base L t)

  module _ (ν : Values) (from-1 : (k : ℕ) → k < length es → 0 < (edge es k).variable) where
    start_says : (s : ℕ) → T (satisfied ν (start_clauses n es base s)) ↔ ((w : ℕ) → w < n → ν (R n es base 0 w) ≡ eqb w s)
    unfolding start_clauses
    start_says s = (
      λ h w l. (alone_iff ν (R n es base 0 w) (R_pos 0 w) (eqb w s)).0 ((every ν n _).0 h w l),
      λ h. (every ν n _).1 (λ w l. (alone_iff ν (R n es base 0 w) (R_pos 0 w) (eqb w s)).1 (h w l)),
    )

    edge_says : (i k : ℕ) → k < length es → T (satisfied ν (edge_clauses n es base i k)) ↔ (ν (U n es base i k) ≡ (ν (edge es k).variable && ν (R n es base i (edge es k).from)))
    unfolding edge_clauses
    edge_says i k l = edge_iff ν (U n es base i k) (edge es k).variable (R n es base i (edge es k).from) (U_pos i k) (from-1 k l) (R_pos i (edge es k).from)

    node_says : (i w : ℕ) → T (satisfied ν (node_clauses n es base i w))
        ↔ (ν (R n es base (suc i) w) ≡ (ν (R n es base i w) || some (length es) (λ k. eqb w (edge es k).to && ν (U n es base i k))))
    unfolding node_clauses into
    node_says i w = node_iff ν (R n es base (suc i) w) (R n es base i w) (length es) (λ k. eqb w (edge es k).to) (U n es base i) (R_pos (suc i) w) (R_pos i w) (U_pos i)

    end_says : (L t a : ℕ) → 0 < a → T (satisfied ν (end_clauses n es base L t a)) ↔ (ν a ≡ ν (R n es base L t))
    unfolding end_clauses
    end_says L t a h = end_iff ν a (R n es base L t) h (R_pos L t)

    pub block_says : (L s t a : ℕ) → 0 < a → T (satisfied ν (block n es base L s t a)) ↔ Says L s t a ν
    unfolding block level_clauses
    block_says L s t a ha = (
      λ h.
          let p = (split ν (start_clauses n es base s) _).0 h in
          let q = (split ν (each L (level_clauses n es base)) _).0 p.1 in
          let level : (i : ℕ) → i < L → T (satisfied ν (each (length es) (edge_clauses n es base i))) × T (satisfied ν (each n (node_clauses n es base i))) = λ i l.
          (split ν (each (length es) (edge_clauses n es base i)) _).0 ((every ν L (level_clauses n es base)).0 q.0 i l) in
          record {
            start = (start_says s).0 p.0;
            edges = λ i l k lk. (edge_says i k lk).0 ((every ν (length es) (edge_clauses n es base i)).0 (level i l).0 k lk);
            nodes = λ i l w lw. (node_says i w).0 ((every ν n (node_clauses n es base i)).0 (level i l).1 w lw);
            end = (end_says L t a ha).0 q.1;
          },
      λ f.
          (split ν (start_clauses n es base s) _).1 (
            (start_says s).1 f.start,
            (split ν (each L (level_clauses n es base)) _).1 (
              (every ν L (level_clauses n es base)).1
                  (λ i l. (split ν (each (length es) (edge_clauses n es base i)) _).1 (
                    (every ν (length es) (edge_clauses n es base i)).1 (λ k lk. (edge_says i k lk).1 (f.edges i l k lk)),
                    (every ν n (node_clauses n es base i)).1 (λ w lw. (node_says i w).1 (f.nodes i l w lw)),
                  )),
              (end_says L t a ha).1 f.end,
            ),
          ),
    )
