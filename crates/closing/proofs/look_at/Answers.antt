-- `closing::look_at`: where the atom's truth is the verdict that is asked for, it is settled and, if it is not one of the others, gives its literal; else it says nothing.
use mathlib.Core.Path.{◌≡◌, refl, ◌∙◌, subst}
use mathlib.Core.Bool.{Bool, beq}
use mathlib.Core.List.{List}
use borrow.Author.Rules.{rules}
use borrow.Author.Tests.{not-true, not-false}
use lib.IntN.{ℤ}
use mir.Syntax.{w16}
use mir.Val.{SFits, of_z, to_z}
use mir.Facts.{to_z-of_z}
use Rattle.std.specs.Prelude.{Ok}
use Rattle.plan.specs.Meaning.{Atom, PlanFile, literal_of, true_in}
use Rattle.plan.specs.Closing.{Settles}
use Rattle.plan.specs.Tables.{atom_of}
use Rattle.walk.specs.Walking.{Settling}
use Rattle.walk.specs.declared.distances.Distances.{Distances}
use Rattle.walk.proofs.Truths.{so, not_so}
use Rattle.closing.specs.Atoms.{Outside, Gets, Told}
use Rattle.closing.specs.declared.Step.TheVariants.{Still}
use Rattle.closing.proofs.Looking.{literal_fits, verdict, looks_silent, looks_gets, looks_so}
use Rattle.closing.proofs.look_at.Goals as goal
use Rattle.closing.proofs.look_at.Goals.{then-is_true-holds-via-then-is_true-holds, then-is_true-holds-via-else-is_true-holds+then-has}

-- one that is not heard
silent : (Q : Type 0) (b : Bool) (A : Atom) (d : Distances) (v : List ℤ)
    → ((φ : PlanFile) (v₀ : List ℤ) → Q → Settling φ.edges v₀ A b d → Settles φ (true_in v₀) A b → ⊥) → Told Q b A d v v (Ok Still)
silent Q b A d v n φ ok s m v₀ sub k = looks_silent φ ok A m b v₀ v v s Q (λ q. n φ v₀ q (k q))

pub returns-then-is_true-holds : goal.returns-then-is_true-holds
returns-then-is_true-holds c =
    let a = c.args in
    let r = c.is_true.result in
    silent (Outside a.others a.at) a.holds (atom_of a.atom) a.distances.now a.values.now
    (λ φ v₀ q k x.
    let no : ⊥ = elim c.then-is_true-holds.branch [
      | then-is_true-holds-via-then-is_true-holds w ↦ not_so {r = beq r a.holds} refl (not-true _ w.if-is_true-holds.true) ((verdict a.holds r φ v₀ (atom_of a.atom) a.distances.now c.is_true.ensures k).1 x)
      | then-is_true-holds-via-else-is_true-holds+then-has w ↦ q (so w.has.ensures w.if-has.true)
    ] in no)

-- the literal
literal_is : (g l : ℤ) → SFits w16 g → g ≡ l → to_z w16 (of_z w16 g) ≡ l
literal_is g l f e = to_z-of_z f ∙ e

pub give-requires : goal.give-requires
give-requires c =
    let a = c.args in
    let r = c.requires.atom_ready in
    rw (literal_is c.given.result (literal_of a.holds a.atom.variable) (search rules) c.given.ensures) (record {
      assigned = r.shape;
      values_len_bound = r.small;
      literal_fits = literal_fits a.values.now (atom_of a.atom) a.holds r;
    })

pub returns : goal.returns
returns c = λ φ ok s m v₀ sub k.
    let a = c.args in
    let g = c.give in
    let r = c.is_true.result in
    let q = not_so c.has.ensures c.if-has.false in
    let x = (verdict a.holds r φ v₀ (atom_of a.atom) a.distances.now c.is_true.ensures (k q)).0 (so {r = beq r a.holds} refl (not-false _ c.if-is_true-holds.false)) in
    looks_so φ a.values.now g.new.values g.result (λ h o. h)
    (looks_gets φ ok (atom_of a.atom) m a.holds v₀ a.values.now g.new.values s sub x g.result
    (subst (λ l. Gets l a.values.now g.new.values g.result) (literal_is c.given.result _ (search rules) c.given.ensures) g.ensures))
