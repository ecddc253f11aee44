-- Demand 3: the written clauses continue each plan in exactly one way, and nothing else in any.
-- Assumes nothing.
use mathlib.Core.Path.{◌≡◌, refl, sym, ◌∙◌, ap, ap₂, subst}
use mathlib.Core.List.{List, [], ◌∷◌, ◌++◌, Memᴰ}
use mathlib.Core.Bool.{Bool, true, false, not, ◌&&◌, ◌||◌}
use mathlib.Core.Logic.{◌↔◌, ◌⊎◌, inl, inr}
use Prim.Native.Nat.{ℕ, zero, suc, ◌+◌, ◌-◌, ◌≤◌, ◌<◌}
use native.Mathlib.Omega.{arith}
use lib.IntN.{ℤ, pos, negsuc}
use lib.Dec.{T}
use lib.ListN.{length, get_or, length-append, get_or-append}
use lib.Seq.{ext_get_or, get_or-append-add}
use Rattle.plan.specs.Meaning.{Atom, PlanFile, Graph, edge, one_hop, on, value, is_on, is_off, true_in, under, Full, IsRight, IsPlan}
use Rattle.plan.specs.Ranged.{LiteralFits, Ranged}
use Rattle.plan.specs.Written.{AllHaveBlocks, levels, blocks, written, last_variable, Satisfies, ExactlyOne}
use Rattle.plan.proofs.Bools.{tab, any_of, all_of, any_some, some_any, all_each, each_all, T_same, tab_length, tab_at}
use Rattle.plan.proofs.Lists.{le_or_lt}
use Rattle.plan.proofs.Closing.{edges_long}
use Rattle.plan.proofs.Levels.{reached, block_iff}
use Rattle.encoding.proofs.Block.{Values, signed, satisfied, split}
use Rattle.encoding.proofs.Blocks.{value_of, Fixed, RightAt, blocks_iff}
use Rattle.encoding.proofs.Literals.{All, Fit, edge_ends, variables_first, own_fits, written_fits}

-- the values of an assignment's variables
abbrev values : List ℤ → Values
values a v = true_in a (on v)

-- a variable's value, on or off
abbrev sign : Bool → ℤ
sign true = pos 1
sign false = negsuc 0

sign_on : (b : Bool) → is_on (sign b) ≡ b
sign_on true = refl
sign_on false = refl

sign_is : (b : Bool) → (sign b ≡ pos 1) ⊎ (sign b ≡ negsuc 0)
sign_is true = inl refl
sign_is false = inr refl

-- a value that is on or off is known by whether it is on
off_is : (x : ℤ) → (x ≡ pos 1) ⊎ (x ≡ negsuc 0) → is_off x ≡ not (is_on x)
off_is x (inl e) = rw e
off_is x (inr e) = rw e

sign_of : (x : ℤ) → (x ≡ pos 1) ⊎ (x ≡ negsuc 0) → x ≡ sign (is_on x)
sign_of x (inl e) = rw e
sign_of x (inr e) = rw e

-- in a full assignment the true literals are those of the values
signed_is : (top : ℕ) (a : List ℤ) → Full top a → (l : ℤ) → LiteralFits top l → true_in a l ≡ signed (values a) l
unfolding true_in value
signed_is top a h (pos v) f = refl
signed_is top a h (negsuc i) f = off_is (get_or a i (pos 0)) (h.each i f.high)

module _ (top : ℕ) (a : List ℤ) (h : Full top a) where
  any_signed : (C : List ℤ) → All (LiteralFits top) C → any_of (true_in a) C ≡ any_of (signed (values a)) C
  any_signed [] f = refl
  any_signed (l ∷ C) f = ap₂ ◌||◌ (signed_is top a h l f.0) (any_signed C f.1)

  all_signed : (Cs : List (List ℤ)) → Fit top Cs → all_of (any_of (true_in a)) Cs ≡ satisfied (values a) Cs
  all_signed [] f = refl
  all_signed (C ∷ Cs) f = ap₂ ◌&&◌ (any_signed C f.0) (all_signed Cs f.1)

  satisfies_iff : (Cs : List (List ℤ)) → Fit top Cs → Satisfies a Cs ↔ T (satisfied (values a) Cs)
  satisfies_iff Cs f = (
    λ g. subst T (all_signed Cs f) (each_all (any_of (true_in a)) Cs (λ C m. let q = g C m in some_any (true_in a) C q.0 q.1 q.2)),
    λ t C m. any_some (true_in a) C (all_each (any_of (true_in a)) Cs (subst T (sym (all_signed Cs f)) t) C m),
  )

-- an assignment and its continuation
module _ (variables : ℕ) (a b : List ℤ) (long : length a ≡ variables) where
  front : (l : ℤ) → LiteralFits variables l → true_in (a ++ b) l ≡ true_in a l
  unfolding true_in value
  front (pos zero) f = refl
  front (pos (suc i)) f = ap is_on (get_or-append a b (pos 0) i (omega (arith, f.high)))
  front (negsuc i) f = ap is_off (get_or-append a b (pos 0) i (omega (arith, f.high)))

  back_at : (i : ℕ) → get_or (a ++ b) (variables + i) (pos 0) ≡ get_or b i (pos 0)
  back_at i = ap (λ k. get_or (a ++ b) (k + i) (pos 0)) (sym long) ∙ get_or-append-add a b i (pos 0)

  back : (i : ℕ) → values (a ++ b) (suc (variables + i)) ≡ is_on (get_or b i (pos 0))
  unfolding true_in value
  back i = ap is_on (back_at i)

  full_append : (top : ℕ) → variables ≤ top → Full variables a → Full (top - variables) b → Full top (a ++ b)
  full_append top h fa fb = record { long = length-append a b ∙ omega (arith, fb.long); each = λ i l. place i l (le_or_lt variables i) }
    where
      place : (i : ℕ) → i < top → (variables ≤ i) ⊎ (i < variables) → (get_or (a ++ b) i (pos 0) ≡ pos 1) ⊎ (get_or (a ++ b) i (pos 0) ≡ negsuc 0)
      place i l (inl k) =
          let e : variables + (i - variables) ≡ i = omega arith in
          subst (λ x. (x ≡ pos 1) ⊎ (x ≡ negsuc 0)) (sym (back_at (i - variables)) ∙ ap (λ j. get_or (a ++ b) j (pos 0)) e) (fb.each (i - variables) (omega arith))
      place i l (inr k) = subst (λ x. (x ≡ pos 1) ⊎ (x ≡ negsuc 0)) (sym (get_or-append a b (pos 0) i (omega arith))) (fa.each i k)

module _ (φ : PlanFile) (r : Ranged φ) (all : AllHaveBlocks φ.atoms) where
  abbrev n : ℕ
  n = φ.nodes

  abbrev top : ℕ
  top = last_variable φ

  literal : (A : Atom) → Memᴰ A φ.atoms → LiteralFits φ.variables (on A.variable)
  literal A m = let f = r.atom A m in record { low = f.low; high = f.high }

  module _ (a b : List ℤ) (fa : Full φ.variables a) (fb : Full (top - φ.variables) b) where
    abbrev f : Graph
    f = under (true_in a)

    own_iff : Satisfies (a ++ b) φ.clauses ↔ Satisfies a φ.clauses
    own_iff = (
      λ h C m. let q = h C m in (q.0, q.1, subst T (front φ.variables a b fa.long q.0 (r.literal C m q.0 q.1)) q.2),
      λ h C m. let q = h C m in (q.0, q.1, subst T (sym (front φ.variables a b fa.long q.0 (r.literal C m q.0 q.1))) q.2),
    )

    right_iff : (A : Atom) → Memᴰ A φ.atoms → RightAt n φ.edges f (values (a ++ b)) A ↔ IsRight φ a A
    right_iff A m =
        let t = block_iff n φ.edges f A (edges_long φ r) (λ e k. (r.edge e k).to_in) (r.atom A m).from_in (all A m) in
        let x = front φ.variables a b fa.long (on A.variable) (literal A m) in (
          λ e. let z = sym x ∙ e in (λ h. t.0 (subst T z h), λ h. subst T (sym z) (t.1 h)),
          λ i. x ∙ T_same (true_in a (on A.variable)) (get_or (reached one_hop n φ.edges f A.from (levels n A)) A.to false) (λ h. t.1 (i.0 h)) (λ h. i.1 (t.0 h)),
        )

    -- a plan, with the one value for each new variable
    whole_iff : Satisfies (a ++ b) (written φ) ↔ (IsPlan φ a × Fixed n φ.edges f (values (a ++ b)) φ.variables φ.atoms)
    unfolding written
    whole_iff =
        let full = full_append φ.variables a b fa.long top (variables_first φ r) fa fb in
        let all = satisfies_iff top (a ++ b) full (written φ) (written_fits φ r) in
        let own = satisfies_iff top (a ++ b) full φ.clauses (own_fits φ r top (variables_first φ r)) in
        let parts = split (values (a ++ b)) φ.clauses (blocks n φ.edges φ.variables φ.atoms) in
        let graph : (k : ℕ) → k < length φ.edges → values (a ++ b) (edge φ.edges k).variable ≡ f (edge φ.edges k) = λ k l.
        let e = edge_ends φ r k l in
        front φ.variables a b fa.long (on (edge φ.edges k).variable) (record { low = e.low; high = e.high }) in
        let new = blocks_iff n φ.edges f (values (a ++ b)) φ.variables r.node (edge_ends φ r) graph φ.variables φ.atoms r.atom in (
          λ h.
              let p = parts.0 (all.0 h) in
              let q = new.0 p.1 in
              (record { full = fa; clause = own_iff.0 (own.1 p.0); atom = λ A m. (right_iff A m).0 (q.1 A m) }, q.0),
          λ h. all.1 (parts.1 (own.0 (own_iff.1 h.0.clause), new.1 (h.1, λ A m. (right_iff A m).1 (h.0.atom A m)))),
        )

  module _ (a : List ℤ) (fa : Full φ.variables a) where
    -- the value of the new variable i, counted from 0
    new : ℕ → Bool
    new i = value_of n φ.edges (under (true_in a)) φ.variables φ.atoms (suc (φ.variables + i))

    continuation : List ℤ
    continuation = tab (top - φ.variables) (λ i. sign (new i))

    continuation_at : (i : ℕ) → i < top - φ.variables → get_or continuation i (pos 0) ≡ sign (new i)
    unfolding continuation
    continuation_at i l = tab_at (top - φ.variables) (λ j. sign (new j)) (pos 0) i l

    continuation_full : Full (top - φ.variables) continuation
    unfolding continuation
    continuation_full = record { long = tab_length (top - φ.variables) _; each = λ i l. subst (λ x. (x ≡ pos 1) ⊎ (x ≡ negsuc 0)) (sym (continuation_at i l)) (sign_is (new i)) }

    -- by number or by place
    fixed_iff : (b : List ℤ) → Full (top - φ.variables) b
        → Fixed n φ.edges (under (true_in a)) (values (a ++ b)) φ.variables φ.atoms ↔ (b ≡ continuation)
    unfolding last_variable new
    fixed_iff b fb = (
      λ h. ext_get_or (pos 0) b continuation (fb.long ∙ sym continuation_full.long) (λ i l.
          let l' : i < top - φ.variables = subst (λ k. i < k) fb.long l in
          sign_of (get_or b i (pos 0)) (fb.each i l')
          ∙ ap sign (sym (back φ.variables a b fa.long i) ∙ h (suc (φ.variables + i)) (omega arith) (omega arith))
          ∙ sym (continuation_at i l')),
      λ e v l k.
          let i = v - suc φ.variables in
          let p : suc (φ.variables + i) ≡ v = omega arith in
          subst (λ x. values (a ++ b) x ≡ value_of n φ.edges (under (true_in a)) φ.variables φ.atoms x) p
          (back φ.variables a b fa.long i ∙ ap (λ c. is_on (get_or c i (pos 0))) e ∙ ap is_on (continuation_at i (omega arith)) ∙ sign_on (new i)),
    )

  pub exactly_one : ExactlyOne φ (written φ) (last_variable φ)
  exactly_one =
      record {
        continued = λ a p.
            let b = continuation a p.full in
            let fb = continuation_full a p.full in
            (b, fb, (whole_iff a b p.full fb).1 (p, (fixed_iff a p.full b fb).1 refl));
        one_way = λ a b c fa fb fc hb hc.
            (fixed_iff a fa b fb).0 ((whole_iff a b fa fb).0 hb).1 ∙ sym ((fixed_iff a fa c fc).0 ((whole_iff a c fa fc).0 hc).1);
        only_plans = λ a b fa fb h. ((whole_iff a b fa fb).0 h).0;
      }
