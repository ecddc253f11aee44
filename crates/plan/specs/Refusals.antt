-- The document's number and returned value of each refusal. Document 01, "Numbers given on refusal"; 13: document 02, C-13; 20 to 22: C-11.
-- Assumes nothing.
use Rattle.std.specs.Prelude.{ℕ}
use Rattle.plan.specs.declared.refusal.Refusal.{Refusal}
use Rattle.plan.specs.declared.refusal.Refusal.TheVariants.{TooLong, Cut, Misplaced, UnknownTag, BadLength, OutOfRange, TooMany, Shared, WrongLength, BadValue, NoSuchAtom, NoRoom, NoBlock, BadText, WrongCount, TooManyVariables}

abbrev pub number_of : Refusal → ℕ
number_of TooLong = 1
number_of (Cut offset) = 2
number_of (Misplaced offset) = 3
number_of (UnknownTag offset) = 4
number_of (BadLength offset) = 5
number_of (OutOfRange offset) = 6
number_of (TooMany offset) = 7
number_of (Shared offset) = 8
number_of (WrongLength variables) = 9
number_of (BadValue place) = 10
number_of (NoSuchAtom atoms) = 11
number_of (NoRoom needed) = 12
number_of (NoBlock atom) = 13
number_of (BadText offset) = 20
number_of (WrongCount offset) = 21
number_of (TooManyVariables offset) = 22

abbrev pub value_of : Refusal → ℕ
value_of TooLong = 0
value_of (Cut offset) = offset
value_of (Misplaced offset) = offset
value_of (UnknownTag offset) = offset
value_of (BadLength offset) = offset
value_of (OutOfRange offset) = offset
value_of (TooMany offset) = offset
value_of (Shared offset) = offset
value_of (WrongLength variables) = variables
value_of (BadValue place) = place
value_of (NoSuchAtom atoms) = atoms
value_of (NoRoom needed) = needed
value_of (NoBlock atom) = atom
value_of (BadText offset) = offset
value_of (WrongCount offset) = offset
value_of (TooManyVariables offset) = offset
