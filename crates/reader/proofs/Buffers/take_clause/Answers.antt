-- `take_clause` leads where the definition does: each way out by the tests on the way to it.
use Rattle.std.proofs.lemmas.Bool.Decides.{nat_tests}
use Rattle.std.proofs.lemmas.Result.{err_from_is_err_and}
use Rattle.reader.proofs.Kit.{◌≡◌, refl, sym, ap, ◌∙◌, true, false, ◌&&◌, ◌/◌, ◌+◌, arith, lt-ltb, le-leb, eq-eqb, ne_eqb, ltb, leb}
use Rattle.reader.specs.Format.{len_at, clause_len}
use Rattle.reader.specs.Filling.{leads}
use Rattle.plan.proofs.Fronts.{up_to}
use Rattle.plan.proofs.Laying.{laid_put}
use Rattle.reader.proofs.Steps.{bad_length, out_of_range, too_many, taken, clause_tests, clause_tables}
use Rattle.reader.proofs.Buffers.take_clause.Goals as goal
use Rattle.reader.proofs.Buffers.take_clause.Goals.{After-take_literals, then-counts-ge-MAX-via-then-counts-ge-MAX, then-counts-ge-MAX-via-else-counts-ge-MAX+then-counts-n-gt-MAX_LITERALS}

-- the length that was read, and the test that it passed, as the definition's
len_is : (c : After-take_literals) → c.from-len.result ≡ len_at c.args.source.file.now c.args.source.at
len_is c = c.from-len.ensures ∙ c.len.ensures

long_is : (c : After-take_literals) → clause_len (len_at c.args.source.file.now c.args.source.at) ≡ true
unfolding clause_len
long_is c = eq-eqb _ _ (omega (arith, len_is c, c.if-len-ne0.false))

pub returns-then-len-ne0 : goal.returns-then-len-ne0
unfolding clause_len
returns-then-len-ne0 c = λ p t. bad_length (clause_tests _ _ t) (ne_eqb _ _ (λ e. c.if-len-ne0.true (omega (arith, c.from-len.ensures, c.len.ensures, e))))

pub returns-in_err-take_literals : goal.returns-in_err-take_literals
returns-in_err-take_literals c =
    let g = (goal.at.returns-in_err-take_literals c).After-take_literals in
    let e = rw (len_is g) at c.in_err-take_literals.ensures in
    let q = err_from_is_err_and c.from_residual.result c.from_residual.ensures.1 in
    λ p t.
    rw (q.1, q.2, e.0) (out_of_range (clause_tests _ _ t) (long_is g) e.1)

pub returns-then-counts-ge-MAX : goal.returns-then-counts-ge-MAX
returns-then-counts-ge-MAX c =
    let g = (goal.at.returns-then-counts-ge-MAX c).After-take_literals in
    let r = c.args.source in
    let taken = rw (len_is g) at c.in_ok-take_literals.ensures in
    let room : (ltb r.counts.clauses 1024 && leb (r.counts.literals + len_at r.file.now r.at / 2) 4096) ≡ false = rw (← len_is g)
    (elim c.then-counts-ge-MAX.branch [
      | then-counts-ge-MAX-via-then-counts-ge-MAX w ↦ grind (arith, nat_tests)
      | then-counts-ge-MAX-via-else-counts-ge-MAX+then-counts-n-gt-MAX_LITERALS w ↦ grind (arith, nat_tests)
    ]) in
    λ p t.
    too_many (clause_tests _ _ t) (long_is g) taken.0 room

pub returns : goal.returns
returns c =
    let g = (goal.at.returns c).After-take_literals in
    let r = c.args.source in
    let laid = c.in_ok-take_literals.ensures in
    let most : leb (r.counts.literals + len_at r.file.now r.at / 2) 4096 ≡ true = rw (← len_is g) (le-leb _ 4096 (omega arith)) in
    λ p t.
    taken (clause_tests _ _ t) (long_is g) (rw (len_is g) at laid.0) (simp (lt-ltb r.counts.clauses 1024 (omega arith), most)) refl
    (leads (sym c.end.ensures) (clause_tables _ _ t (ap (λ n. n / 2) (len_is g)) (up_to (laid_put laid.1 (omega arith)))))
