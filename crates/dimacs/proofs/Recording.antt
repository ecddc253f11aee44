-- Writing records: literal by literal, and clause by clause of a flat table.
-- Assumes nothing.
use mathlib.Core.Path.{◌≡◌, refl, sym, ◌∙◌, ap}
use mathlib.Core.List.{List, [], ◌∷◌, ◌++◌, append_assoc, append-nil}
use Prim.Native.Nat.{ℕ, ◌+◌, ◌*◌, ◌/◌, ◌%◌, ◌≤◌, ◌<◌}
use native.Mathlib.Numerals.{add-one}
use native.Mathlib.Omega.{arith}
use lib.IntN.{ℤ, pos}
use borrow.Rule.Slice.Mut.{set_vals}
use lib.ListN.{length, get_or, take, drop, set, length-set}
use lib.Seq.{take-suc, length-take-le}
use Rattle.plan.specs.ClauseTable.{End, part}
use Rattle.plan.specs.Front.{Room, Put}
use Rattle.plan.specs.Tables.{clauses_of}
use Rattle.plan.proofs.ClauseTable.{first_clause, no_more}
use Rattle.plan.proofs.Fronts.{put_one, put_then, room_as, room_first}
use Rattle.plan.proofs.Laying.{laid_one}
use Rattle.dimacs.specs.Printers.{Lays}
use Rattle.dimacs.specs.declared.printing.Printer.{Printer}
use Rattle.dimacs.specs.Records.{two, complement, literal_bytes, clause_record, records}
use Rattle.dimacs.proofs.Printers.{lays_as, lays_none, lays_then, room_behind}
use Rattle.dimacs.proofs.RecordSizes.{literals_length, record_length}

-- a number in two bytes, by two stores
pub two_stores : (n at : ℕ) (old : List ℕ) → Room (two n) at old → Put (two n) at old (set (set old at (n / 256)) (at + 1) (n % 256)) (at + 2)
two_stores n at old r =
    let e : at + 1 + 1 ≡ at + 2 = omega arith in
    rw e at (put_then (put_one (n / 256) at old (omega (arith, r.fits))) (put_one (n % 256) (at + 1) (set old at (n / 256)) (simp length-set (omega (arith, r.fits)))))

literals_join : (xs ys : List ℤ) → literal_bytes (xs ++ ys) ≡ literal_bytes xs ++ literal_bytes ys
unfolding literal_bytes
literals_join [] ys = refl
literals_join (x ∷ xs) ys = rw (literals_join xs ys)

-- one literal more
module _ (C : List ℤ) {old mid : Printer} {i : ℕ} (l : i < length C) (p : Lays (literal_bytes (take i C)) old mid) where
  pub literal_room : (n : ℕ) → Room (literal_bytes C) old.at old.out.now → Room (two n) mid.at mid.out.now
  literal_room n r =
      record { fits = omega (arith, r.fits, p.laid.count, p.laid.same, literals_length C, literals_length (take i C), length-take-le i C (omega arith)) }

  pub literal_more : {new : Printer} {n : ℕ} → n ≡ complement (get_or C i (pos 0)) → Lays (two n) mid new → Lays (literal_bytes (take (i + 1) C)) old new
  unfolding literal_bytes
  literal_more e q = lays_as (rw (e, add-one, take-suc C i (pos 0), literals_join)) (lays_then p q)

-- the tag is printed
abbrev tagged : Printer → Printer
tagged p = record { out = set_vals (set p.out.now p.at 4) p.out; at = p.at + 1 }

-- a clause's record behind its tag
module _ (C : List ℤ) (old : Printer) (r : Room (clause_record C) old.at old.out.now) where
  pub tag_inside : old.at < length old.out.now
  tag_inside = omega (arith, r.fits, record_length C)

  tag : Lays (4 ∷ []) old (tagged old)
  tag = record { laid = laid_one 4 old.at old.out.now tag_inside; same_reference = refl }

  behind_tag : Room (two (length C * 2) ++ literal_bytes C) (tagged old).at (tagged old).out.now
  unfolding clause_record
  behind_tag = room_behind (4 ∷ []) _ r tag

  pub count_room : Room (two (length C * 2)) (tagged old).at (tagged old).out.now
  count_room = room_first _ (literal_bytes C) behind_tag

  module _ {mid : Printer} (p : Lays (two (length C * 2)) (tagged old) mid) where
    pub literals_room : Room (literal_bytes C) mid.at mid.out.now
    literals_room = room_behind (two (length C * 2)) _ behind_tag p

    pub record_lays : {new : Printer} → Lays (literal_bytes C) mid new → Lays (clause_record C) old new
    unfolding clause_record
    record_lays q = lays_then tag (lays_then p q)

pub records_join : (Cs Ds : List (List ℤ)) → records (Cs ++ Ds) ≡ records Cs ++ records Ds
unfolding records
records_join [] Ds = refl
records_join (C ∷ Cs) Ds = rw (records_join Cs Ds, append_assoc)

-- the records of the clauses before a place of the table
pub record Recorded (cs : List ℤ) (at : ℕ) (old new : Printer) : Type 0 where
  pub done : List (List ℤ)
  pub all : clauses_of cs ≡ done ++ clauses_of (drop at cs)
  pub lays : Lays (records done) old new

pub recorded_none : (cs : List ℤ) (p : Printer) → Recorded cs 0 p p
unfolding records
recorded_none cs p = record { done = []; all = refl; lays = lays_none p }

module _ (cs : List ℤ) {at : ℕ} {old mid : Printer} (s : Recorded cs at old mid) where
  pub recorded_all : length cs ≤ at → Lays (records (clauses_of cs)) old mid
  recorded_all l = lays_as (sym (ap records (s.all ∙ ap (λ t. s.done ++ t) (no_more cs at l) ∙ append-nil s.done))) s.lays

  -- the next clause's
  module _ {stop : ℕ} (n : End cs at stop) where
    next : clauses_of cs ≡ s.done ++ (part cs at stop ∷ clauses_of (drop (stop + 1) cs))
    next = s.all ∙ ap (λ t. s.done ++ t) (first_clause cs at stop n)

    pub clause_room : Room (records (clauses_of cs)) old.at old.out.now → Room (clause_record (part cs at stop)) mid.at mid.out.now
    unfolding records
    clause_room r =
        room_first _ (records (clauses_of (drop (stop + 1) cs)))
        (room_behind (records s.done) _ (room_as (ap records next ∙ records_join s.done _) r) s.lays)

    pub recorded_more : {new : Printer} → Lays (clause_record (part cs at stop)) mid new → Recorded cs (stop + 1) old new
    unfolding records
    recorded_more q =
        record {
          done = s.done ++ (part cs at stop ∷ []);
          all = next ∙ sym (append_assoc s.done (part cs at stop ∷ []) (clauses_of (drop (stop + 1) cs)));
          lays = lays_as (rw (records_join, append-nil)) (lays_then s.lays q);
        }
