-- `closing::to_say`: each atom of the set is looked at once, and kept where its literal is not there.
use Rattle.std.proofs.Common.{◌≡◌, Bool, ◌<◌, T, arith, rules, subst, sym, ap, ◌∙◌, ◌↔◌, length, slice_index_or}
use mathlib.Core.Bool.{not}
use lib.Dec.{T_not, not_T}
use Rattle.plan.specs.Meaning.{atom, true_in, literal_of}
use Rattle.plan.specs.Tables.{atoms_of}
use Rattle.plan.proofs.ByPlace.{blank_atom}
use Rattle.walk.specs.Walking.{bit}
use Rattle.closing.proofs.Lending.{atom_ready}
use Rattle.closing.proofs.Looking.{same_variable, same_literal}
use Rattle.closing.proofs.to_say.Goals as goal

pub filtered-requires : goal.filtered-requires
filtered-requires c = λ k t.
    let a = c.args in
    let lent = a.tables.now.lent in
    let h : k < length a.tables.now.atoms.now = omega (arith, lent.atoms, ((c.requires.count_lengths.exact k).0 t).0) in
    let f = (atom_ready lent c.requires.assigned k h).fits in
    let e = same_variable a.tables.now.atoms.now k in
    ((λ _ _ _ _ b _ _. search rules), (λ _ _ _ _ _ _ _. h), (λ _ _ _ _ _ _ _ _ _. (omega (arith, f.low, e), omega (arith, f.high, e))))

-- what is kept
kept : (r b d : Bool) → (T b → r ≡ not d) → (T r → T b) → T r ↔ (T b × (T d → ⊥))
kept r b d is part = (
  (λ t. let q = part t in (q, (λ u. T_not d (subst (λ x. T x) (is q) t) u))),
  (λ h. subst (λ x. T x) (sym (is h.0)) (not_T d h.1)),
)

pub returns : goal.returns
returns c = λ k.
    let a = c.args in
    let h = c.filtered.ensures k in
    let is : T (bit k a.set) → bit k c.filtered.result ≡ not (true_in a.values.now (literal_of a.holds (slice_index_or a.tables.now.atoms.now k blank_atom).variable)) = λ t. let p = h.0 t in search rules in
    kept (bit k c.filtered.result) (bit k a.set) (true_in a.values.now (literal_of a.holds (atom (atoms_of a.tables.now.atoms.now) k).variable))
    (λ t. is t ∙ ap not (same_literal a.values.now a.holds a.tables.now.atoms.now k)) h.1
