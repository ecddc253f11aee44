-- `Marks::count`: there are as many premises as marks that are set.
use mathlib.Core.Path.{◌≡◌, sym, ◌∙◌}
use mathlib.Core.Bool.{Bool}
use Prim.Native.Nat.{◌≤◌}
use borrow.Author.Rules.{rules}
use lib.ListN.{length, take}
use Rattle.std.specs.Prelude.{count_by}
use Rattle.std.proofs.lemmas.List.Sums.{length-filter}
use Rattle.reason.proofs.Listing.{premises_set}
use Rattle.reason.proofs.marks.Marks.count.Goals as goal

pub returns : goal.returns
returns c =
    let m = c.args.self.now.marked in
    let n = length c.args.question.now.assignment.now in
    let e : c.count.result ≡ count_by (λ (b : Bool). b) (take n m) = search rules in
    let l : n ≤ length m = search rules in
    e ∙ sym (premises_set m n l ∙ length-filter (λ (b : Bool). b) (take n m))
