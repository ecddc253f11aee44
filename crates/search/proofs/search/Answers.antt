-- The search from all open: its answer, and what stands in the result.
use mathlib.Core.Path.{◌≡◌, refl, sym, subst, ap, ◌∙◌}
use mathlib.Core.List.{List}
use Prim.Native.Nat.{ℕ, ◌≤◌}
use native.Mathlib.Omega.{arith}
use borrow.Author.Rules.{rules}
use lib.IntN.{ℤ, pos}
use lib.ListN.{take, replicate}
use Rattle.plan.specs.File.{file_of}
use Rattle.plan.specs.Meaning.{PlanFile}
use Rattle.plan.specs.Ranged.{max_variables}
use Rattle.plan.specs.Search.{found, decided, Searched}
use Rattle.search.proofs.Firsts.{all_open_is, all_open_shape}
use Rattle.search.proofs.Parts.{report_whole}
use Rattle.search.specs.Report.{verdict_of, Reported}
use Rattle.search.specs.declared.Verdict.{Verdict}
use Rattle.closing.proofs.Lending.{lent_indexable}
use Rattle.walk.proofs.Lending.{lent_few}
use Rattle.search.proofs.search.Goals as goal

pub index_of-index-requires : goal.index_of-index-requires
index_of-index-requires c =
    let t = c.args.tables.now in lent_indexable t.plan t.edges.now t.atoms.now t.clauses.now t.lent

pub length_atoms-requires : goal.length_atoms-requires
length_atoms-requires c = omega (arith, lent_few c.args.tables.now.lent, c.args.tables.now.lent.atoms)

pub settle-verdict-requires-clause-begins : goal.settle-verdict-requires-clause-begins
settle-verdict-requires-clause-begins c =
    let n = c.args.tables.now.plan.variables in
    let starts = all_open_is n c.all_open.result.values c.args.tables.now.lent.ranged.variables c.all_open.ensures in
    record { shape = rw starts (all_open_shape n); left = omega arith }

-- after the search
searched : (φ : PlanFile) (a : List ℤ) (budget total : ℕ) (v w : Verdict) → φ.variables ≤ max_variables → a ≡ replicate max_variables (pos 0) → v ≡ w → Reported φ (take φ.variables a) budget 0 v total
    → Searched φ (replicate φ.variables (pos 0)) budget (verdict_of φ.variables w) total
searched φ a budget total v w h e is r = rw (sym is, sym (all_open_is φ.variables a h e)) (report_whole φ (take φ.variables a) budget total v r)

pub returns-in-Plan : goal.returns-in-Plan
returns-in-Plan c =
    let φ = file_of c.args.tables.now in
    let r = c.settle-verdict.result in
    let s = searched φ c.all_open.result.values c.args.budget r.count r.verdict _ c.args.tables.now.lent.ranged.variables c.all_open.ensures c.in-Plan.is c.settle-verdict.ensures in
    let e = c.write_to.ensures ∙ ap (λ n. take n c.in-Plan.held.values) c.requires in
    record {
      searched = subst (λ p. Searched φ (replicate φ.variables (pos 0)) c.args.budget (decided (found p)) r.count) (sym e) s;
      keeps = search rules;
    }

pub returns-in-Impossible : goal.returns-in-Impossible
returns-in-Impossible c =
    let r = c.settle-verdict.result in
    record {
      searched = searched (file_of c.args.tables.now) c.all_open.result.values c.args.budget r.count r.verdict _ c.args.tables.now.lent.ranged.variables c.all_open.ensures c.in-Impossible.is c.settle-verdict.ensures;
      keeps = refl;
    }

pub returns-in-Undecided : goal.returns-in-Undecided
returns-in-Undecided c =
    let r = c.settle-verdict.result in
    record {
      searched = searched (file_of c.args.tables.now) c.all_open.result.values c.args.budget r.count r.verdict _ c.args.tables.now.lent.ranged.variables c.all_open.ensures c.in-Undecided.is c.settle-verdict.ensures;
      keeps = refl;
    }
