-- `closing::same_edges`: the edge's variable has the value that it had.
use Rattle.std.proofs.Common.{◌≡◌, Bool, true, false, List, ℕ, ◌-◌, ◌≤◌, ◌<◌, length, slice_index_or, w8, ℤ, pos, of_z, sym, ap, ◌∙◌, subst, arith, rules}
use Rattle.std.specs.Prelude.{MatchBool}
use Rattle.std.specs.List.{HoldsAt, AllWithin}
use mir.Val.{SFits}
use borrow.Author.Tests.{tests}
use Rattle.std.proofs.lemmas.List.{get_or_default}
use Rattle.std.proofs.lemmas.Iterator.{cases_from_all, YieldsList-from_slice}
use Rattle.std.proofs.lemmas.Iterator.Adapters.{serves_from_places}
use Rattle.plan.specs.Meaning.{edge, no_edge, value}
use Rattle.plan.specs.Tables.{edge_of, edges_of}
use Rattle.plan.specs.declared.Edge as struct-of-edge
use Rattle.plan.proofs.ByPlace.{blank_edge, edges_length, edges_at, edge_listed}
use Rattle.plan.proofs.Lists.{at_mem}
use Rattle.plan.proofs.Signs.{bits_same}
use Rattle.plan.proofs.Values.{value_at_lem}
use Rattle.walk.specs.Walking.{Placed}
use Rattle.closing.specs.Rounds.{Unchanged}
use Rattle.closing.proofs.same_edges.Goals as goal

-- an edge of the table has its variable
placed_at : (es : List struct-of-edge.Edge) (n k : ℕ) (x : struct-of-edge.Edge) → Placed (edges_of es) n → k < length es → x ≡ slice_index_or es k x → (1 ≤ x.variable) × (x.variable ≤ n)
placed_at es n k x p h e =
    let q = p (edge (edges_of es) k) (edge_listed es k h) in
    let same : (edge (edges_of es) k).variable ≡ x.variable = ap (λ e. e.variable) (sym (edges_at es k)) ∙ ap (λ (y : struct-of-edge.Edge). y.variable) (get_or_default es k blank_edge x h ∙ sym e) in
    (omega (arith, q.0), omega (arith, q.1))

-- one that has the value that it had
abbrev Same : List ℤ → List ℤ → struct-of-edge.Edge → Type 0
Same v w x = 1 ≤ x.variable → value w x.variable ≡ value v x.variable

same : (v w : List ℤ) (n at : ℕ) → at ≡ n → SFits w8 (slice_index_or v (at - 1) (pos 0)) → SFits w8 (slice_index_or w (at - 1) (pos 0))
    → of_z w8 (slice_index_or v (at - 1) (pos 0)) ≡ of_z w8 (slice_index_or w (at - 1) (pos 0)) → 1 ≤ n → value w n ≡ value v n
same v w n at i f g e h =
    let p : at - 1 ≡ n - 1 = omega arith in
    value_at_lem w n (at - 1) h p ∙ sym (bits_same w8 _ _ f g e) ∙ sym (value_at_lem v n (at - 1) h p)

-- what `all` says of the table
exactly : (es : List struct-of-edge.Edge) (v w : List ℤ) (n : ℕ) → Placed (edges_of es) n → (r : Bool)
    → MatchBool r (AllWithin (Same v w) es 0 (length es)) ((k : ℕ) × (k < length es) × HoldsAt (λ _. Unit {0}) es k) → Unchanged es v w r
exactly es v w n p false h = tt
exactly es v w n p true h = λ e m.
    let q = at_mem (edges_of es) no_edge e m in
    let l : q.0 < length es = omega (arith, q.1, edges_length es) in
    let i : e ≡ edge_of (slice_index_or es q.0 blank_edge) = q.2 ∙ sym (edges_at es q.0) in
    subst (λ d. value w d.variable ≡ value v d.variable) (sym i) (h q.0 blank_edge (omega arith) l (placed_at es n q.0 _ p l (get_or_default es q.0 _ _ l)).0)

pub all-requires-clause-callable : goal.all-requires-clause-callable
all-requires-clause-callable c =
    let few = c.requires.values_len_bound in
    serves_from_places (YieldsList-from_slice c.args.edges.now cc) (λ x q k. search rules)
    (λ x k l e.
    let q = placed_at c.args.edges.now _ k x.now c.requires.placed l e in
    ((λ _ _ _ _ _ _ _ from. omega (arith, from.ensures, q.0)), (λ _ _ _ _ _ _ _ from _. omega (arith, from.ensures, q.0, q.1)), (λ _ _ _ _ _ _ _ from _ _. omega (arith, from.ensures, q.0, q.1))))

pub returns : goal.returns
returns c =
    let v = c.args.before.now.values in
    let w = c.args.values.now in
    exactly c.args.edges.now v w _ c.requires.placed c.all.result
    (cases_from_all _ _ _ (Same v w) (λ _. Unit {0}) c.all.ensures.ran (YieldsList-from_slice c.args.edges.now cc) (λ x q k. (search rules, λ h. search (rules, tests, same))) (λ x q k. tt))
