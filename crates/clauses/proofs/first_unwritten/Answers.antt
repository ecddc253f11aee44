-- The search stops at the first atom that has no block.
use borrow.Author.Rules.{rules}
use borrow.Author.Tests.{tests}
use Rattle.std.proofs.lemmas.Iterator.{YieldsList-from_slice}
use Rattle.std.proofs.lemmas.Iterator.Search.{position_from_yields_List}
use Rattle.clauses.proofs.Unwritten.{unwritten, first_place}
use Rattle.clauses.proofs.first_unwritten.Goals as goal

pub returns : goal.returns
returns c =
    let atoms = c.args.atoms.now in
    first_place atoms c.position.result
    (position_from_yields_List unwritten _ _ c.position.result c.position.ensures.ran (YieldsList-from_slice atoms cc) (λ x b q k. search (rules, tests)))
