-- `head` leads where the definition does: each way out by the tests on the way to it.
use mathlib.Core.Path.{ap₂}
use Rattle.std.proofs.lemmas.Result.{err_from_is_err_and}
use Rattle.reader.proofs.Kit.{◌≡◌, refl, sym, ap, ◌∙◌, List, ℕ, ◌+◌, arith, lt-leb, le-leb, eq-eqb, ne_eqb, length}
use Rattle.reader.specs.Format.{head_at, head_ok, word, tag_at, len_at, after}
use Rattle.reader.specs.Filling.{refuses, leads}
use Rattle.reader.proofs.Steps.{empty_tables}
use Rattle.reader.proofs.head.Goals as goal
use Rattle.reader.proofs.head.Goals.{After-tag, After-len, After-word-variables}

-- what was read, as the definition reads it
tag_is : (c : After-tag) → c.tag.result ≡ tag_at c.args.file.now 0
tag_is c = let e = c.in_ok-record.ensures in c.tag.ensures ∙ ap₂ tag_at e.0 e.1

len_is : (c : After-len) → c.len.result ≡ len_at c.args.file.now 0
len_is c = let e = c.in_ok-record.ensures in c.len.ensures ∙ ap₂ len_at e.0 e.1

nodes_are : (c : After-word-variables) → c.word-nodes.result ≡ word c.args.file.now 3
nodes_are c = let e = c.in_ok-record.ensures in c.word-nodes.ensures ∙ ap₂ (λ (f : List ℕ) (at : ℕ). word f (at + 3)) e.0 e.1

variables_are : (c : After-word-variables) → c.word-variables.result ≡ word c.args.file.now 5
variables_are c = let e = c.in_ok-record.ensures in c.word-variables.ensures ∙ ap₂ (λ (f : List ℕ) (at : ℕ). word f (at + 5)) e.0 e.1

pub returns-then-file-gt-MAX_BYTES : goal.returns-then-file-gt-MAX_BYTES
unfolding head_at
returns-then-file-gt-MAX_BYTES c = λ b. rw (lt-leb (length c.args.file.now) 16384 (omega arith)) (refuses refl refl)

pub returns-in_err-record : goal.returns-in_err-record
unfolding head_at
returns-in_err-record c =
    let e = c.in_err-record.ensures in
    let q = err_from_is_err_and c.from_residual.result c.from_residual.ensures.1 in
    λ b.
    rw (le-leb _ 16384 c.if-file-gt-MAX_BYTES.false, e.1, q.1, q.2, e.0) (refuses refl refl)

pub returns-then-tag-ne1 : goal.returns-then-tag-ne1
unfolding head_at
returns-then-tag-ne1 c =
    let g = goal.at.returns-then-tag-ne1 c in
    λ b.
    rw (le-leb _ 16384 c.if-file-gt-MAX_BYTES.false, c.in_ok-record.ensures.3, ne_eqb _ 1 (λ q. c.if-tag-ne1.true (tag_is g.After-tag ∙ q))) (refuses refl refl)

pub returns-then-len-ne4 : goal.returns-then-len-ne4
unfolding head_at
returns-then-len-ne4 c =
    let g = goal.at.returns-then-len-ne4 c in
    λ b.
    rw (
      le-leb _ 16384 c.if-file-gt-MAX_BYTES.false,
      c.in_ok-record.ensures.3,
      eq-eqb _ 1 (sym (tag_is g.After-tag) ∙ c.if-tag-ne1.false),
      ne_eqb _ 4 (λ q. c.if-len-ne4.true (len_is g.After-len ∙ q)),
    ) (refuses refl refl)

pub returns-then-not-head_ok : goal.returns-then-not-head_ok
unfolding head_at
returns-then-not-head_ok c =
    let g = goal.at.returns-then-not-head_ok c in
    let ranged = sym (c.head_ok.ensures ∙ ap₂ head_ok (nodes_are g.After-word-variables) (variables_are g.After-word-variables)) in
    λ b.
    rw (
      le-leb _ 16384 c.if-file-gt-MAX_BYTES.false,
      c.in_ok-record.ensures.3,
      eq-eqb _ 1 (sym (tag_is g.After-tag) ∙ c.if-tag-ne1.false),
      eq-eqb _ 4 (sym (len_is g.After-len) ∙ c.if-len-ne4.false),
      ranged ∙ c.if-not-head_ok.true,
    ) (refuses refl refl)

pub returns : goal.returns
unfolding head_at
returns c =
    let g = goal.at.returns c in
    let e = c.in_ok-record.ensures in
    let ranged = sym (c.head_ok.ensures ∙ ap₂ head_ok (nodes_are g.After-word-variables) (variables_are g.After-word-variables)) in
    let long = sym (len_is g.After-len) ∙ c.if-len-ne4.false in
    let end : c.end.result ≡ 7 = c.end.ensures ∙ ap₂ after e.0 e.1 ∙ ap (λ n. 0 + 3 + n) long in
    λ b.
    rw (
      le-leb _ 16384 c.if-file-gt-MAX_BYTES.false,
      e.3,
      eq-eqb _ 1 (sym (tag_is g.After-tag) ∙ c.if-tag-ne1.false),
      eq-eqb _ 4 long,
      ranged ∙ c.if-not-head_ok.false,
      ← nodes_are g.After-word-variables,
      ← variables_are g.After-word-variables,
      e.2,
    ) (leads (sym end) (empty_tables _ _ b))
