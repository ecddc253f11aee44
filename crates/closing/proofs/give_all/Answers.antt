-- `closing::give_all`: the literals of the atoms that are taken out are given, without a clash, and the assignment keeps its shape.
use mathlib.Core.Path.{◌≡◌, ap, ◌∙◌, subst}
use mathlib.Core.Bool.{Bool}
use mathlib.Core.List.{List}
use Prim.Native.Nat.{ℕ}
use native.Mathlib.Omega.{arith}
use borrow.Author.Rules.{rules}
use lib.IntN.{ℤ}
use mir.Syntax.{w16}
use mir.Val.{SFits, of_z, to_z}
use mir.Facts.{to_z-of_z}
use Rattle.std.specs.Prelude.{Result, Ok, Err}
use Rattle.std.proofs.lemmas.Result.{err_from_is_err_and}
use Rattle.plan.specs.Meaning.{atom, literal_of}
use Rattle.plan.specs.Ranged.{LiteralFits}
use Rattle.plan.specs.Tables.{atoms_of}
use Rattle.walk.proofs.Sets.{taken_lowest}
use Rattle.unit.specs.declared.Clash.{Clash}
use Rattle.closing.specs.declared.Step.{Step}
use Rattle.closing.specs.Atoms.{Gets}
use Rattle.closing.proofs.Lending.{atom_ready}
use Rattle.closing.proofs.Looking.{literal_fits, same_variable, gets_shape, looks_clash}
use Rattle.closing.proofs.Giving.{given_one, given_all}
use Rattle.closing.proofs.give_all.Goals as goal

-- an atom's literal, as its bits are passed on
module _ (b : Bool) (n m : ℕ) (l : ℤ) (f : SFits w16 l) (e : l ≡ literal_of b n) (q : n ≡ m) where
  literal_is : to_z w16 (of_z w16 l) ≡ literal_of b m
  literal_is = to_z-of_z f ∙ e ∙ ap (literal_of b) q

  gets_it : (v w : List ℤ) (r : Result Step Clash) → Gets (to_z w16 (of_z w16 l)) v w r → Gets (literal_of b m) v w r
  gets_it v w r g = subst (λ x. Gets x v w r) literal_is g

pub bounds-tables-number : goal.bounds-tables-number
bounds-tables-number c = c.requires.by_index _ (c.loop-number.invariant.0 _ (taken_lowest c.in-Some.ensures.steps).is)

pub given-requires : goal.given-requires
given-requires c =
    let k = c.in-Some.number in
    let r = atom_ready c.args.tables.now.lent c.loop-number.invariant.1 k (c.requires.by_index k (c.loop-number.invariant.0 k (taken_lowest c.in-Some.ensures.steps).is)) in
    omega (arith, same_variable c.args.tables.now.atoms.now k, r.fits.high, r.small)

pub give-requires-clause-literal_fits : goal.give-requires-clause-literal_fits
give-requires-clause-literal_fits c =
    let k = c.in-Some.number in
    let r = atom_ready c.args.tables.now.lent c.loop-number.invariant.1 k (c.requires.by_index k (c.loop-number.invariant.0 k (taken_lowest c.in-Some.ensures.steps).is)) in
    rw (literal_is c.args.holds _ _ c.given.result (search rules) c.given.ensures (same_variable c.args.tables.now.atoms.now k)) (literal_fits c.loop-number.values _ c.args.holds r)

pub returns-in_err-told : goal.returns-in_err-told
returns-in_err-told c =
    let l = c.loop-number in
    let k = c.in-Some.number in
    let t = taken_lowest c.in-Some.ensures.steps in
    let n = l.invariant.0 k t.is in
    let r = Err c.in_err-told.field-0.0 in
    let g = gets_it c.args.holds _ _ c.given.result (search rules) c.given.ensures (same_variable c.args.tables.now.atoms.now k) l.values c.give.new.values r c.in_err-told.ensures in
    rw (err_from_is_err_and c.from_residual.result c.from_residual.ensures.1).1
    (λ φ f s. looks_clash (given_one _ c.args.holds k l.number-iterator.0 _ c.args.values.now l.values c.give.new.values l.step r (c.requires.by_index k n) n t g l.invariant.2 φ f s))

pub loop-number-preserved : goal.loop-number-preserved
loop-number-preserved c =
    let a = c.args in
    let l = c.loop-number in
    let k = c.in-Some.number in
    let t = taken_lowest c.in-Some.ensures.steps in
    let n = l.invariant.0 k t.is in
    let i = c.requires.by_index k n in
    let x = literal_of a.holds (atom (atoms_of a.tables.now.atoms.now) k).variable in
    let f = subst (λ m. LiteralFits m x) l.invariant.1.long (literal_fits l.values _ a.holds (atom_ready a.tables.now.lent l.invariant.1 k i)) in
    let g = gets_it a.holds _ _ c.given.result (search rules) c.given.ensures (same_variable a.tables.now.atoms.now k) l.values c.give.new.values (Ok c.in_ok-told.told) c.in_ok-told.ensures in (
      (λ j m. l.invariant.0 j (t.kept j m)),
      gets_shape a.tables.now.plan.variables x l.values c.give.new.values (Ok c.in_ok-told.told) l.invariant.1 f g,
      rw c.or-step.ensures (given_one _ a.holds k l.number-iterator.0 _ a.values.now l.values c.give.new.values l.step (Ok c.in_ok-told.told) i n t g l.invariant.2),
    )

pub returns : goal.returns
returns c =
    let a = c.args in
    given_all a.set a.holds c.loop-number.number-iterator.0 a.values.now c.loop-number.values (Ok c.loop-number.step) c.in-None.ensures.steps c.loop-number.invariant.2
