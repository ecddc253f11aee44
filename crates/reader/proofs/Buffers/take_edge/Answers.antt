-- `take_edge` leads where the definition does: each way out by the tests on the way to it.
use borrow.Author.Tests.{tests}
use Rattle.std.proofs.lemmas.Iterator.{YieldsList-from_slice}
use Rattle.std.proofs.lemmas.Iterator.Search.{any_from_yields_List}
use Rattle.std.specs.List.{list_any}
use Rattle.reader.proofs.Kit.{◌≡◌, sym, ap, ◌∙◌, true, ◌+◌, arith, rules, lt-ltb, le-ltb, eq-eqb, ne_eqb, eqb, take}
use Rattle.plan.specs.Meaning.{Edge}
use Rattle.plan.specs.declared.Atom as struct-of-atom
use Rattle.reader.specs.Format.{word, len_at, edge_len, edge_ok, edge_in}
use Rattle.reader.specs.Filling.{leads}
use Rattle.reader.proofs.Steps.{bad_length, out_of_range, too_many, shared, taken, edge_tests, edge_tables}
use Rattle.reader.proofs.Buffers.take_edge.Goals as goal
use Rattle.reader.proofs.Buffers.take_edge.Goals.{After-edge-edge, After-edge_ok, After-any}

-- the tests that were passed, as the definition's
long_is : (c : After-edge-edge) → eqb (len_at c.args.source.file.now c.args.source.at) (edge_len c.args.long) ≡ true
long_is c = eq-eqb _ _ (sym c.len.ensures ∙ c.if-len-edge_len.false ∙ c.edge_len.ensures)

ranged_is : (c : After-edge_ok)
    → edge_ok c.args.source.counts.nodes c.args.source.counts.variables (edge_in c.args.long c.args.source.file.now c.args.source.at) ≡ c.edge_ok.result
ranged_is c = sym (c.edge_ok.ensures ∙ ap (edge_ok c.args.source.counts.nodes c.args.source.counts.variables) c.edge-edge.ensures)

used_is : (c : After-any)
    → list_any (λ (a : struct-of-atom.Atom). eqb a.variable (word c.args.source.file.now (c.args.source.at + 7))) (take c.args.source.counts.atoms c.args.self.now.atoms) ≡ c.any.result
used_is c =
    let atoms = take c.args.source.counts.atoms c.args.self.now.atoms in
    let found = any_from_yields_List (λ (a : struct-of-atom.Atom). eqb a.variable c.edge-edge.result.variable) _ _ c.any.result c.any.ensures.ran (YieldsList-from_slice atoms cc)
    (λ x b q k. (search (rules, tests), search (rules, tests))) in
    sym (found ∙ ap (λ (e : Edge). list_any (λ (a : struct-of-atom.Atom). eqb a.variable e.variable) atoms) c.edge-edge.ensures)

pub returns-then-len-edge_len : goal.returns-then-len-edge_len
returns-then-len-edge_len c = λ p t. bad_length (edge_tests _ _ t _) (ne_eqb _ _ (λ e. c.if-len-edge_len.true (c.len.ensures ∙ e ∙ sym c.edge_len.ensures)))

pub returns-then-not-edge_ok : goal.returns-then-not-edge_ok
returns-then-not-edge_ok c =
    let g = goal.at.returns-then-not-edge_ok c in
    λ p t.
    out_of_range (edge_tests _ _ t _) (long_is g.After-edge-edge) (ranged_is g.After-edge_ok ∙ c.if-not-edge_ok.true)

pub returns-then-n-ge-MAX_EDGES : goal.returns-then-n-ge-MAX_EDGES
returns-then-n-ge-MAX_EDGES c =
    let g = goal.at.returns-then-n-ge-MAX_EDGES c in
    λ p t.
    too_many (edge_tests _ _ t _) (long_is g.After-edge-edge) (ranged_is g.After-edge_ok ∙ c.if-not-edge_ok.false) (le-ltb _ 256 c.if-n-ge-MAX_EDGES.true)

pub returns-then-any : goal.returns-then-any
returns-then-any c =
    let g = goal.at.returns-then-any c in
    λ p t.
    shared (edge_tests _ _ t _) (long_is g.After-edge-edge) (ranged_is g.After-edge_ok ∙ c.if-not-edge_ok.false) (lt-ltb _ 256 c.if-n-ge-MAX_EDGES.false)
    (used_is g.After-any ∙ c.if-any.true)

pub returns : goal.returns
returns c =
    let g = goal.at.returns c in
    λ p t.
    taken (edge_tests _ _ t _) (long_is g.After-edge-edge) (ranged_is g.After-edge_ok ∙ c.if-not-edge_ok.false) (lt-ltb _ 256 c.if-n-ge-MAX_EDGES.false)
    (used_is g.After-any ∙ c.if-any.false) (leads (sym c.end.ensures) (edge_tables _ _ t _ _ c.edge-edge.ensures (omega arith)))
