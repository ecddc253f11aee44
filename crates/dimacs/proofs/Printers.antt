-- Laws of a printer: one byte, and one row behind another.
-- Assumes nothing.
use mathlib.Core.Path.{◌≡◌, refl, sym, ◌∙◌, subst}
use mathlib.Core.List.{List, [], ◌++◌}
use Prim.Native.Nat.{ℕ}
use native.Mathlib.Omega.{arith}
use lib.ListN.{length-append}
use Rattle.plan.specs.Front.{Room, Put, Laid}
use Rattle.plan.proofs.Laying.{laid_put, laid_none, laid_then}
use Rattle.dimacs.specs.Printers.{Lays}
use Rattle.dimacs.specs.declared.printing.Printer.{Printer}

pub lays_as : {row rows : List ℕ} {old new : Printer} → row ≡ rows → Lays row old new → Lays rows old new
lays_as {row} {rows} {old} {new} e p = subst (λ x. Lays x old new) e p

pub lays_none : (p : Printer) → Lays [] p p
lays_none p = record { laid = laid_none p.at p.out.now; same_reference = refl }

pub lays_then : {row rows : List ℕ} {old mid new : Printer} → Lays row old mid → Lays rows mid new → Lays (row ++ rows) old new
lays_then p q = record { laid = laid_then p.laid q.laid; same_reference = q.same_reference ∙ p.same_reference }

-- what the printer's buffer holds at the end of its loan, the buffer holds that was lent
pub lays_ends : {row : List ℕ} {old new : Printer} {last : List ℕ} → Lays row old new → last ≡ new.out.now → Laid row old.at old.out.now last new.at
lays_ends {row} {old} {new} {last} p e = subst (λ x. Laid row old.at old.out.now x new.at) (sym e) p.laid

-- where there is room, all of it stands in the end
pub lays_put : {row : List ℕ} {old new : Printer} {last : List ℕ} → Room row old.at old.out.now → Lays row old new → last ≡ new.out.now → Put row old.at old.out.now last new.at
lays_put r p e = laid_put (lays_ends p e) (omega (arith, r.fits, p.laid.count))

-- the room of the second of two rows, behind the first
pub room_behind : (row rows : List ℕ) {old mid : Printer} → Room (row ++ rows) old.at old.out.now → Lays row old mid → Room rows mid.at mid.out.now
room_behind row rows r p = record { fits = omega (arith, r.fits, length-append row rows, p.laid.count, p.laid.same) }
