-- Every literal of the written clauses is one of a variable from 1 to the last; so the numbers read back at the zeros are the clauses. No clause is empty.
-- Assumes nothing.
use mathlib.Core.Path.{◌≡◌, refl, sym, subst}
use mathlib.Core.List.{List, [], ◌∷◌, ◌++◌, Memᴰ}
use mathlib.Core.Bool.{Bool, true, false, cond}
use Prim.Native.Nat.{ℕ, zero, suc, ◌+◌, ◌≤◌, ◌<◌}
use native.Mathlib.Omega.{arith}
use lib.IntN.{ℤ, pos}
use lib.Dec.{eqb}
use lib.ListN.{length}
use Rattle.plan.specs.Meaning.{Edge, Atom, PlanFile, edge, on, off}
use Rattle.plan.specs.Ranged.{EndsFit, LiteralFits, InRange, Ranged}
use Rattle.plan.specs.Tables.{clauses_of}
use Rattle.plan.specs.Written.{each, flat, R, U, into, start_clauses, edge_clauses, node_clauses, level_clauses, end_clauses, block, levels, block_variables, atom_block, after, blocks, last, written, last_variable}
use Rattle.plan.proofs.Signs.{nat_abs_neg}
use Rattle.plan.proofs.ClauseTable.{flat_back}
use Rattle.plan.proofs.Lists.{mem_at}
use Rattle.encoding.proofs.Forced.{R_in, U_in}
use Rattle.encoding.proofs.Blocks.{last_ge}

-- what holds of every entry
abbrev pub All : {A : Type 0} → (A → Type 0) → List A → Type 0
All P [] = Unit {0}
All P (x ∷ xs) = P x × All P xs

module _ {A : Type 0} (P : A → Type 0) where
  pub all_in : (xs : List A) (x : A) → Memᴰ x xs → All P xs → P x
  all_in [] x m h = elim m [ ]
  all_in (y ∷ xs) x (Memᴰ.head e) h = subst P (sym e) h.0
  all_in (y ∷ xs) x (Memᴰ.tail m) h = all_in xs x m h.1

  in_all : (xs : List A) → ((x : A) → Memᴰ x xs → P x) → All P xs
  in_all [] h = tt
  in_all (x ∷ xs) h = (h x (Memᴰ.head refl), in_all xs (λ y m. h y (Memᴰ.tail m)))

  all_append : (xs ys : List A) → All P xs → All P ys → All P (xs ++ ys)
  all_append [] ys h k = k
  all_append (x ∷ xs) ys h k = (h.0, all_append xs ys h.1 k)

  all_each : (n : ℕ) (f : ℕ → List A) → ((i : ℕ) → i < n → All P (f i)) → All P (each n f)
  unfolding each
  all_each zero f h = tt
  all_each (suc n) f h = all_append (each n f) (f n) (all_each n f (λ i l. h i (omega arith))) (h n (omega arith))

  all_if : (b : Bool) (xs : List A) → All P xs → All P (cond b xs [])
  all_if true xs h = h
  all_if false xs h = tt

-- the literals of each clause are of the variables from 1 to top
abbrev pub Fit : ℕ → List (List ℤ) → Type 0
Fit top Cs = All (All (LiteralFits top)) Cs

on_fits : (top v : ℕ) → 1 ≤ v → v ≤ top → LiteralFits top (on v)
on_fits top v h k = record { low = h; high = k }

off_fits : (top v : ℕ) → 1 ≤ v → v ≤ top → LiteralFits top (off v)
off_fits top v h k = let e = nat_abs_neg (pos v) in record { low = omega arith; high = omega arith }

sign_fits : (top : ℕ) (b : Bool) (v : ℕ) → 1 ≤ v → v ≤ top → LiteralFits top (cond b (on v) (off v))
sign_fits top true v h k = on_fits top v h k
sign_fits top false v h k = off_fits top v h k

module _ (n : ℕ) (es : List Edge) (variables top : ℕ) (fits : (k : ℕ) → k < length es → EndsFit n variables (edge es k).from (edge es k).to (edge es k).variable) where
  module _ (base : ℕ) (low : variables ≤ base) (L : ℕ) (high : base + block_variables n (length es) L ≤ top) where
    -- both signs of a variable
    abbrev Named : ℕ → Type 0
    Named v = LiteralFits top (on v) × LiteralFits top (off v)

    both : (v : ℕ) → 1 ≤ v → v ≤ top → Named v
    both v h k = (on_fits top v h k, off_fits top v h k)

    R_fits : (i w : ℕ) → i ≤ L → w < n → Named (R n es base i w)
    unfolding R
    R_fits i w l h = both (R n es base i w) (omega arith) (omega (arith, R_in n (length es) L i w l h))

    U_fits : (i k : ℕ) → i < L → k < length es → Named (U n es base i k)
    unfolding U
    U_fits i k l h = both (U n es base i k) (omega arith) (omega (arith, U_in n (length es) L i k l h))

    edge_fits : (i k : ℕ) → i < L → k < length es → Fit top (edge_clauses n es base i k)
    unfolding edge_clauses
    edge_fits i k l lk =
        let u = U_fits i k l lk in
        let r = R_fits i (edge es k).from (omega arith) (fits k lk).from_in in
        let x = both (edge es k).variable (fits k lk).low (omega (arith, (fits k lk).high)) in
        ((u.1, (x.0, tt)), ((u.1, (r.0, tt)), ((x.1, (r.1, (u.0, tt))), tt)))

    node_fits : (i w : ℕ) → i < L → w < n → Fit top (node_clauses n es base i w)
    unfolding node_clauses into
    node_fits i w l lw =
        let r = R_fits i w (omega arith) lw in
        let q = R_fits (suc i) w l lw in
        let m = length es in (
          (q.1, (r.0, all_each (LiteralFits top) m _ (λ k lk. all_if (LiteralFits top) (eqb w (edge es k).to) _ ((U_fits i k l lk).0, tt)))),
          ((r.1, (q.0, tt)), all_each (All (LiteralFits top)) m _ (λ k lk. all_if (All (LiteralFits top)) (eqb w (edge es k).to) _ (((U_fits i k l lk).1, (q.0, tt)), tt))),
        )

    pub block_fits : (s t a : ℕ) → t < n → 1 ≤ a → a ≤ variables → Fit top (block n es base L s t a)
    unfolding block start_clauses level_clauses end_clauses
    block_fits s t a ht ha ha' =
        let e = R_fits L t (omega arith) ht in
        let v = both a ha (omega arith) in
        let P = All (LiteralFits top) in
        all_append P (start_clauses n es base s) _
        (all_each P n _ (λ w lw. let r = R_fits 0 w (omega arith) lw in ((sign_fits top (eqb w s) _ r.0.low r.0.high, tt), tt)))
        (all_append P (each L (level_clauses n es base)) _
        (all_each P L _ (λ i l. all_append P (each (length es) (edge_clauses n es base i)) _ (all_each P (length es) _ (λ k lk. edge_fits i k l lk)) (all_each P n _ (λ w lw. node_fits i w l lw))))
        ((v.1, (e.0, tt)), ((v.0, (e.1, tt)), tt)))

  blocks_fit : (base : ℕ) (As : List Atom) → variables ≤ base → ((A : Atom) → Memᴰ A As → EndsFit n variables A.from A.to A.variable)
      → last n es base As ≤ top → Fit top (blocks n es base As)
  unfolding blocks atom_block last
  blocks_fit base [] low all high = tt
  blocks_fit base (A ∷ As) low all high =
      let a = all A (Memᴰ.head refl) in
      all_append (All (LiteralFits top)) (atom_block n es base A) _
      (block_fits base low (levels n A) (omega (arith, last_ge n es (after n es base A) As)) A.from A.to A.variable a.to_in a.low a.high)
      (blocks_fit (after n es base A) As (omega arith) (λ B m. all B (Memᴰ.tail m)) high)

module _ (φ : PlanFile) (r : Ranged φ) where
  pub edge_ends : (k : ℕ) → k < length φ.edges → EndsFit φ.nodes φ.variables (edge φ.edges k).from (edge φ.edges k).to (edge φ.edges k).variable
  edge_ends k l = r.edge (edge φ.edges k) (mem_at φ.edges _ k l)

  pub variables_first : φ.variables ≤ last_variable φ
  unfolding last_variable
  variables_first = last_ge φ.nodes φ.edges φ.variables φ.atoms

  -- the file's own literals, for any last variable
  pub own_fits : (top : ℕ) → φ.variables ≤ top → Fit top φ.clauses
  own_fits top h =
      in_all (All (LiteralFits top)) φ.clauses
      (λ C m. in_all (LiteralFits top) C (λ l k. let f = r.literal C m l k in record { low = f.low; high = omega (arith, f.high) }))

  pub written_fits : Fit (last_variable φ) (written φ)
  unfolding written last_variable
  written_fits =
      all_append (All (LiteralFits (last_variable φ))) φ.clauses _ (own_fits (last_variable φ) variables_first)
      (blocks_fit φ.nodes φ.edges φ.variables (last_variable φ) edge_ends φ.variables φ.atoms (omega arith) r.atom (omega arith))

  pub written_in_range : InRange (last_variable φ) (written φ)
  written_in_range C m l k = all_in (LiteralFits (last_variable φ)) C l k (all_in (All (LiteralFits (last_variable φ))) (written φ) C m written_fits)

  -- reading the numbers back at the zeros gives the clauses
  pub read_back : clauses_of (flat (written φ)) ≡ written φ
  read_back = flat_back (written φ) written_in_range
