-- `dimacs::read_rules`: the `p` line, and the scan of what stands behind it, whose tally is judged. The table is lent whole where the plan has the
-- text's variables, else not at all.
use mathlib.Core.Path.{◌≡◌, refl, ◌∙◌}
use mathlib.Core.Bool.{false}
use mathlib.Core.List.{List, []}
use Prim.Native.Nat.{◌≤◌}
use native.Mathlib.Omega.{arith}
use lib.IntN.{ℤ}
use lib.ListN.{length, take, drop}
use lib.Seq.{length-take-le}
use Rattle.std.proofs.lemmas.Result.{err_from_is_err_and}
use Rattle.dimacs.specs.Words.{between}
use Rattle.dimacs.specs.Reading.{Rule, Text, good, nothing, clauses, read_rules, rules_of}
use Rattle.dimacs.specs.Scanning.{left, Tallied}
use Rattle.dimacs.proofs.Scans.{one_of, scan_bad, scan_good}
use Rattle.dimacs.proofs.Verdicts.{rules_front}
use Rattle.dimacs.proofs.read_rules.Goals as goal
use Rattle.dimacs.proofs.read_rules.Goals.{then-head-from, else-head-from}

pub returns-in_err-head : goal.returns-in_err-head
unfolding read_rules
returns-in_err-head c =
    let p = err_from_is_err_and c.from_residual.result c.from_residual.ensures.1 in
    rw (p.1, p.2, c.in_err-head.ensures) (refl, refl)

pub returns-in_err-tally : goal.returns-in_err-tally
unfolding read_rules
returns-in_err-tally c =
    let a = c.args in
    let p = err_from_is_err_and c.from_residual-in_err-tally.result c.from_residual-in_err-tally.ensures.1 in
    rw (p.1, p.2, c.in_ok-head.ensures.1, scan_bad a.plan.clauses a.plan.literals (take c.if-head-from.room a.table.now) c.scan.new.table _ _ c.in_err-tally.ensures) (refl, refl)

pub returns : goal.returns
unfolding read_rules
returns c =
    let a = c.args in
    let head = c.in_ok-head.head in
    let room = c.if-head-from.room in
    let front : List ℤ = take room a.table.now in
    let filled : List ℤ = c.scan.new.table in
    let text_is : Text = clauses (length a.text.now) head.at head.variables head.count [] nothing (left (between false) a.text.now head.end) in
    let fits : room ≤ length a.table.now =
    elim c.if-head-from.branch [ then-head-from w ↦ omega (arith, w.room-is) | else-head-from w ↦ omega (arith, w.room-is) ]
    in
    let whole : head.variables ≤ a.plan.variables → room ≡ length a.table.now =
    λ l. elim c.if-head-from.branch [ then-head-from w ↦ w.room-is | else-head-from w ↦ absurd (omega (arith, w.if-head-from.false, c.from.ensures)) ]
    in
    let g : (rs : List Rule) × (text_is ≡ good head.at head.variables head.count rs) × Tallied a.plan.clauses a.plan.literals rs nothing front filled c.in_ok-tally.tally =
    scan_good a.plan.clauses a.plan.literals front filled (one_of _ _ _ _ _ _ _) c.in_ok-tally.ensures
    in
    rw (c.in_ok-head.ensures.1, g.1)
    (rules_front
    (rules_of a.plan.variables a.plan.clauses a.plan.literals (good head.at head.variables head.count g.0))
    c.judged.result
    filled
    (drop room a.table.now)
    (c.judged.ensures g.0 front filled g.2 (λ l. length-take-le room a.table.now fits ∙ whole l ∙ c.requires.table_len)))
