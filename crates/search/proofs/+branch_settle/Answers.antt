-- The two functions that call one another: `settle` closes, and `branch` tries the two literals of the lowest open variable.
use mathlib.Core.Path.{◌≡◌, ap, ◌∙◌, subst}
use mathlib.Core.List.{List}
use Prim.Native.Nat.{ℕ, suc, ◌+◌, ◌<◌, ◌≤◌}
use native.Mathlib.Numerals.{add-one}
use native.Mathlib.Omega.{arith}
use lib.IntN.{ℤ, nat_abs}
use lib.ListN.{take}
use mir.Syntax.{w16}
use mir.Val.{SFits, of_z, to_z}
use mir.Facts.{to_z-of_z}
use borrow.Author.Rules.{rules}
use Rattle.std.specs.Prelude.{Some, None}
use Rattle.plan.specs.File.{file_of}
use Rattle.plan.specs.Meaning.{PlanFile, on, off, add, true_in}
use Rattle.plan.specs.Search.{opens, Lowest, tried_first, tried_then}
use Rattle.plan.specs.Tables.{clauses_of}
use Rattle.plan.proofs.Search.{low_n, tried_shape, tried_opens, first_of, then_of}
use Rattle.unit.specs.Clauses.{AllQuiet}
use Rattle.unit.specs.Queue.{Known}
use Rattle.search.specs.Report.{Reported, Filled, FirstOpen, Begins}
use Rattle.search.proofs.Firsts.{take_add, filled_closed, first_lowest, first_full, filled_tried, fewer_closed}
use Rattle.search.proofs.Trying.{closed_quiet, known_tried}
use Rattle.search.proofs.Parts.{report_clash, report_plan, report_from, stop_here, first_side, then_side}
use Rattle.search.proofs.+branch_settle.Invariants.{twice_open}
use Rattle.search.proofs.+branch_settle.Goals as goal

-- a branching on the variable at a place
module _ (n : ℕ) (clauses : List ℤ) (values : List ℤ) (place budget count : ℕ) where
  abbrev set : List ℤ
  set = take n values

  module _ (begins : Begins n set budget count) (low : Lowest set place) where
    inside : suc place ≤ n
    inside = low_n n set place begins.shape low

    -- a literal x of the variable, which the code has as y, and the assignment with it, as the call of `with` gives it
    module _ (x y : ℤ) (of : nat_abs x ≡ suc place) (is : y ≡ x) (r : List ℤ) (e : r ≡ add values y) where
      with_it : take n r ≡ add set x
      with_it = ap (take n) (e ∙ ap (add values) is) ∙ take_add n values x (omega (arith, inside))

      -- what `settle` is called with
      starts : (t so_far : ℕ) → twice_open n values ≡ t → AllQuiet (true_in set) (clauses_of clauses) → so_far ≤ budget
          → (twice_open n r + 1 < t) × (Begins n (take n r) budget so_far × (Known clauses (take n r) (Some y) × ((place + 1 ≤ n) × Filled (take n r) (place + 1))))
      starts t so_far is-t quiet left =
          let known = known_tried n clauses set place begins.shape low quiet x of in
          let next : Begins n (take n r) budget so_far = record { shape = rw with_it (tried_shape n set place begins.shape low x of); left = left } in
          let fewer : twice_open n r + 1 < t = omega (arith, ap opens with_it, tried_opens n set place begins.shape low x of, is-t) in
          (fewer, (next, (rw (with_it, is) known, (omega (arith, inside), rw with_it (filled_tried set place low x of)))))

-- the two literals, as the code makes them
is_first : (φ : PlanFile) (place : ℕ) (l : ℤ) → SFits w16 l → l ≡ off (place + 1) → to_z w16 (of_z w16 l) ≡ tried_first φ (suc place)
is_first φ place l f e = to_z-of_z f ∙ e ∙ ap off (add-one place)

is_then : (φ : PlanFile) (place : ℕ) (l : ℤ) → SFits w16 l → l ≡ on (place + 1) → to_z w16 (of_z w16 l) ≡ tried_then φ (suc place)
is_then φ place l f e = to_z-of_z f ∙ e ∙ ap on (add-one place)

pub branch-returns-then-count-budget : goal.branch-returns-then-count-budget
branch-returns-then-count-budget t c = λ b k.
    let tables = c.args.prepared.now.tables in
    stop_here (file_of tables) tables.lent.ranged b (take tables.plan.variables c.args.a.values) c.args.place k c.requires.lowest c.args.budget c.args.count c.if-count-budget.true

pub branch-settle-tried-requires : goal.branch-settle-tried-requires
branch-settle-tried-requires t c =
    let tables = c.args.prepared.now.tables in
    let φ = file_of tables in
    let f : SFits w16 c.literal_of-first.result = search rules in
    starts tables.plan.variables tables.clauses.now c.args.a.values c.args.place c.args.budget c.args.count c.requires.begins c.requires.lowest
    _ _ (first_of φ (suc c.args.place)) (is_first φ c.args.place c.literal_of-first.result f c.literal_of-first.ensures) c.with.result.values c.with.ensures
    t (c.args.count + 1) c.decreases c.requires.all_quiet (omega (arith, c.requires.begins.left, c.if-count-budget.false))

pub branch-settle-requires : goal.branch-settle-requires
branch-settle-requires t c =
    let tables = c.args.prepared.now.tables in
    let φ = file_of tables in
    let f : SFits w16 c.literal_of-then.result = search rules in
    starts tables.plan.variables tables.clauses.now c.args.a.values c.args.place c.args.budget c.args.count c.requires.begins c.requires.lowest
    _ _ (then_of φ (suc c.args.place)) (is_then φ c.args.place c.literal_of-then.result f c.literal_of-then.ensures) c.with-in-Impossible.result.values c.with-in-Impossible.ensures
    t c.settle-tried.result.count c.decreases c.requires.all_quiet c.settle-tried.ensures.most

pub branch-returns-in-Impossible : goal.branch-returns-in-Impossible
branch-returns-in-Impossible t c = λ b k.
    let tables = c.args.prepared.now.tables in
    let φ = file_of tables in
    let n = tables.plan.variables in
    let s = take n c.args.a.values in
    let f : SFits w16 c.literal_of-first.result = search rules in
    let g : SFits w16 c.literal_of-then.result = search rules in
    let r = c.settle-tried.result in
    let first = with_it n tables.clauses.now c.args.a.values c.args.place c.args.budget c.args.count c.requires.begins c.requires.lowest
    _ _ (first_of φ (suc c.args.place)) (is_first φ c.args.place c.literal_of-first.result f c.literal_of-first.ensures) c.with.result.values c.with.ensures in
    let then = with_it n tables.clauses.now c.args.a.values c.args.place c.args.budget c.args.count c.requires.begins c.requires.lowest
    _ _ (then_of φ (suc c.args.place)) (is_then φ c.args.place c.literal_of-then.result g c.literal_of-then.ensures) c.with-in-Impossible.result.values c.with-in-Impossible.ensures in
    let left : Reported φ (add s (tried_first φ (suc c.args.place))) c.args.budget (c.args.count + 1) r.verdict r.count = report_from φ _ _ _ _ _ r.verdict first c.settle-tried.ensures in
    then_side φ tables.lent.ranged b s c.args.place k c.requires.lowest c.args.budget c.args.count (omega (arith, c.requires.begins.left, c.if-count-budget.false)) r.count
    (subst (λ v. Reported φ (add s (tried_first φ (suc c.args.place))) c.args.budget (c.args.count + 1) v r.count) c.in-Impossible.is left)
    c.settle.result.verdict c.settle.result.count (report_from φ _ _ _ _ _ c.settle.result.verdict then c.settle.ensures)

pub branch-returns-in_default : goal.branch-returns-in_default
branch-returns-in_default t c = λ b k.
    let tables = c.args.prepared.now.tables in
    let φ = file_of tables in
    let n = tables.plan.variables in
    let f : SFits w16 c.literal_of-first.result = search rules in
    let r = c.settle-tried.result in
    let first = with_it n tables.clauses.now c.args.a.values c.args.place c.args.budget c.args.count c.requires.begins c.requires.lowest
    _ _ (first_of φ (suc c.args.place)) (is_first φ c.args.place c.literal_of-first.result f c.literal_of-first.ensures) c.with.result.values c.with.ensures in
    first_side φ tables.lent.ranged b (take n c.args.a.values) c.args.place k c.requires.lowest c.args.budget c.args.count
    (omega (arith, c.requires.begins.left, c.if-count-budget.false)) r.verdict c.in_default.not-Impossible r.count (report_from φ _ _ _ _ _ r.verdict first c.settle-tried.ensures)

pub settle-returns-in_default : goal.settle-returns-in_default
settle-returns-in_default t c =
    let tables = c.args.prepared.now.tables in
    report_clash (file_of tables) (take tables.plan.variables c.args.a.values) c.args.budget c.args.count c.requires.begins.left c.in_default.ensures

-- what no clash leaves is closed, and filled as far as what was given
pub settle-returns-in-None : goal.settle-returns-in-None
settle-returns-in-None t c =
    let tables = c.args.prepared.now.tables in
    let φ = file_of tables in
    let n = tables.plan.variables in
    let given = take n c.args.a.values in
    let after = take n c.close.new.a.values in
    let closes = c.in-Ok.ensures in
    let none : FirstOpen after c.args.from None = subst (λ m. FirstOpen (take m c.close.new.a.values) c.args.from None) c.from-n.ensures c.in-None.ensures in
    report_plan φ given c.close.new.a c.args.budget c.args.count c.requires.begins.left closes
    (first_full after c.args.from (filled_closed φ given after c.args.from c.requires.begins.shape c.requires.from_le_variables closes c.requires.filled) n closes.shape none)

pub settle-branch-prepared-requires : goal.settle-branch-prepared-requires
settle-branch-prepared-requires t c =
    let tables = c.args.prepared.now.tables in
    let φ = file_of tables in
    let n = tables.plan.variables in
    let given = take n c.args.a.values in
    let after = take n c.close.new.a.values in
    let closes = c.in-Ok.ensures in
    let place : FirstOpen after c.args.from (Some c.in-Some.place) = subst (λ m. FirstOpen (take m c.close.new.a.values) c.args.from (Some c.in-Some.place)) c.from-n.ensures c.in-Some.ensures in
    let filled = filled_closed φ given after c.args.from c.requires.begins.shape c.requires.from_le_variables closes c.requires.filled in
    let m = c.decreases in
    let f = fewer_closed φ given after c.requires.begins.shape closes in
    (omega arith, (record { shape = closes.shape; left = c.requires.begins.left }, (closed_quiet φ given after closes, first_lowest after c.args.from filled c.in-Some.place place)))
