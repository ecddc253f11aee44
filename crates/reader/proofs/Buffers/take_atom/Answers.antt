-- `take_atom` leads where the definition does: each way out by the tests on the way to it.
use borrow.Author.Tests.{tests}
use mathlib.Core.Path.{ap₂}
use Rattle.std.proofs.lemmas.Iterator.{YieldsList-from_slice}
use Rattle.std.proofs.lemmas.Iterator.Search.{any_from_yields_List}
use Rattle.std.specs.List.{list_any}
use Rattle.reader.proofs.Kit.{◌≡◌, refl, sym, ap, ◌∙◌, true, false, ◌+◌, arith, rules, lt-ltb, le-ltb, eq-eqb, ne_eqb, eqb, take}
use Rattle.plan.specs.Meaning.{Atom, kind_of}
use Rattle.plan.specs.declared.Edge as struct-of-edge
use Rattle.reader.specs.Format.{word, len_at, kind_in, kind_ok, atom_in, atom_ok}
use Rattle.reader.specs.Filling.{leads}
use Rattle.reader.proofs.Steps.{bad_length, out_of_range, too_many, shared, taken, atom_tests, atom_tables}
use Rattle.reader.proofs.Buffers.take_atom.Goals as goal
use Rattle.reader.proofs.Buffers.take_atom.Goals.{After-atom, After-atom_ok, After-any}

-- the tests that were passed, as the definition's
long_is : (c : After-atom) → eqb (len_at c.args.source.file.now c.args.source.at) 9 ≡ true
long_is c = eq-eqb _ 9 (sym c.len.ensures ∙ c.if-len-ne9.false)

ranged_is : (c : After-atom_ok)
    → atom_ok c.args.source.counts.nodes c.args.source.counts.variables (kind_in c.args.source.file.now c.args.source.at) (atom_in c.args.source.file.now c.args.source.at)
    ≡ c.atom_ok.result
ranged_is c =
    let read = c.in-Ok.ensures in
    sym (c.atom_ok.ensures ∙ ap₂ (atom_ok c.args.source.counts.nodes c.args.source.counts.variables) read.0 read.1)

used_is : (c : After-any)
    → list_any (λ (e : struct-of-edge.Edge). eqb e.variable (word c.args.source.file.now (c.args.source.at + 10))) (take c.args.source.counts.edges c.args.self.now.edges)
    ≡ c.any.result
used_is c =
    let edges = take c.args.source.counts.edges c.args.self.now.edges in
    let read = c.in-Ok.ensures in
    let found = any_from_yields_List (λ (e : struct-of-edge.Edge). eqb e.variable c.in-Ok.atom.variable) _ _ c.any.result c.any.ensures.ran (YieldsList-from_slice edges cc)
    (λ x b q k. (search (rules, tests), search (rules, tests))) in
    sym (found ∙ ap (λ (a : Atom). list_any (λ (e : struct-of-edge.Edge). eqb e.variable a.variable) edges) read.1)

pub returns-then-len-ne9 : goal.returns-then-len-ne9
returns-then-len-ne9 c = λ p t. bad_length (atom_tests _ _ t) (ne_eqb _ 9 (λ e. c.if-len-ne9.true (c.len.ensures ∙ e)))

pub returns-in_default : goal.returns-in_default
unfolding kind_ok
returns-in_default c =
    let g = goal.at.returns-in_default c in
    let r = c.args.source in
    let ranged : atom_ok r.counts.nodes r.counts.variables (kind_in r.file.now r.at) (atom_in r.file.now r.at) ≡ false =
    rw (ne_eqb _ _ (c.in_default.ensures (kind_of (kind_in r.file.now r.at)))) refl in
    λ p t.
    out_of_range (atom_tests _ _ t) (long_is g.After-atom) ranged

pub returns-then-not-atom_ok : goal.returns-then-not-atom_ok
returns-then-not-atom_ok c =
    let g = goal.at.returns-then-not-atom_ok c in
    λ p t.
    out_of_range (atom_tests _ _ t) (long_is g.After-atom) (ranged_is g.After-atom_ok ∙ c.if-not-atom_ok.true)

pub returns-then-n-ge-MAX : goal.returns-then-n-ge-MAX
returns-then-n-ge-MAX c =
    let g = goal.at.returns-then-n-ge-MAX c in
    λ p t.
    too_many (atom_tests _ _ t) (long_is g.After-atom) (ranged_is g.After-atom_ok ∙ c.if-not-atom_ok.false) (le-ltb _ 64 c.if-n-ge-MAX.true)

pub returns-then-any : goal.returns-then-any
returns-then-any c =
    let g = goal.at.returns-then-any c in
    λ p t.
    shared (atom_tests _ _ t) (long_is g.After-atom) (ranged_is g.After-atom_ok ∙ c.if-not-atom_ok.false) (lt-ltb _ 64 c.if-n-ge-MAX.false)
    (used_is g.After-any ∙ c.if-any.true)

pub returns : goal.returns
returns c =
    let g = goal.at.returns c in
    let read = c.in-Ok.ensures in
    λ p t.
    taken (atom_tests _ _ t) (long_is g.After-atom) (ranged_is g.After-atom_ok ∙ c.if-not-atom_ok.false) (lt-ltb _ 64 c.if-n-ge-MAX.false)
    (used_is g.After-any ∙ c.if-any.false) (leads (sym c.end.ensures) (atom_tables c.args.source.file.now c.args.source.at t _ read.1 (omega arith)))
