-- The tables that are lent, their counts, and the whole list.
-- Assumes nothing.
use mathlib.Core.Path.{◌≡◌, sym, ◌∙◌, ap}
use mathlib.Core.List.{List, ◌++◌}
use Prim.Native.Nat.{ℕ, ◌≤◌, ◌<◌}
use native.Mathlib.Omega.{arith}
use lib.IntN.{ℤ}
use lib.ListN.{length, get_or}
use Rattle.plan.specs.declared.Plan.{Plan}
use Rattle.plan.specs.declared.Edge as struct-of-edge
use Rattle.plan.specs.declared.Atom as struct-of-atom
use Rattle.plan.specs.Meaning.{PlanFile}
use Rattle.plan.specs.Tables.{atom_of, clauses_of, plan_of, Lent}
use Rattle.plan.specs.Written.{flat, levels, blocks, written, last_variable}
use Rattle.encoding.proofs.Each.{flat_append}
use Rattle.encoding.proofs.Sizes.{counted, small}
use Rattle.clauses.specs.declared.Counts.{Counts}
use Rattle.plan.specs.Front.{Room, Put}
use Rattle.clauses.specs.Rows.{LowBlocks}
use Rattle.clauses.specs.Writing.{Counting, WrittenOut, Added, Countable, file_blocks}
use Rattle.plan.proofs.ClauseTable.{lent_length}
use Rattle.plan.proofs.ByPlace.{blank_atom, atoms_length, atoms_at}
use Rattle.plan.proofs.Fronts.{put_as, put_then, room_first, room_rest}
use Rattle.clauses.proofs.Stepping.{before, Turn}

module _ {p : Plan} {edges : List struct-of-edge.Edge} {atoms : List struct-of-atom.Atom} {clauses : List ℤ} (lent : Lent p edges atoms clauses) where
  abbrev φ : PlanFile
  φ = plan_of p edges atoms clauses

  -- the file's own counts
  abbrev pub own : Counts
  own = record { variables = p.variables; clauses = p.clauses; numbers = length clauses }

  pub countable : Countable φ.nodes φ.edges φ.atoms own
  countable =
      let r = lent.ranged in
      record {
        node = r.node;
        nodes = r.nodes;
        edges = r.edges;
        atoms = r.atoms;
        variables = r.variables;
        clauses = omega (arith, r.clauses, lent.clauses);
        numbers = omega (arith, r.clauses, r.literals, lent_length lent);
      }

  pub low : LowBlocks φ.edges φ.nodes φ.variables φ.atoms
  unfolding last_variable
  low =
      let r = lent.ranged in
      record { few = r.edges; node = r.node; nodes = r.nodes; last = omega (arith, (small φ r).variables) }

  -- a turn of a loop over the atoms, which reads the file's nodes and the atom
  pub turn_of : {nodes j b top : ℕ} → nodes ≡ p.nodes → j < length atoms → b ≡ before φ.nodes φ.edges φ.variables φ.atoms j
      → top ≡ levels nodes (atom_of (get_or atoms j blank_atom)) → Turn φ.nodes φ.edges φ.variables φ.atoms j b top (atom_of (get_or atoms j blank_atom))
  turn_of {nodes} {j} nodes-are inside at levels-are = record {
    low = low;
    inside = omega (arith, atoms_length atoms);
    at = at;
    is = atoms_at atoms j;
    levels_is = levels-are ∙ ap (λ n. levels n (atom_of (get_or atoms j blank_atom))) nodes-are;
  }

  -- the file's own numbers, then those of the blocks
  whole_is : clauses ++ file_blocks φ ≡ flat (written φ)
  unfolding written
  whole_is = ap (λ l. l ++ file_blocks φ) (sym lent.ended) ∙ sym (flat_append (clauses_of clauses) (blocks φ.nodes φ.edges φ.variables φ.atoms))

  pub counting : {counts : Counts} → Added φ.nodes (length φ.edges) φ.atoms own counts → Counting φ counts
  counting {counts} added =
      let c = counted φ lent.ranged in
      record {
        variables = omega (arith, added.variables, c.variables);
        clauses = omega (arith, added.clauses, lent.clauses, c.clauses);
        numbers = omega (arith, added.numbers, lent_length lent, c.numbers);
      }

  module _ {counts : Counts} (is : Counting φ counts) {old : List ℤ} (h : counts.numbers ≤ length old) where
    pub room : Room (clauses ++ file_blocks φ) 0 old
    room = record { fits = omega (arith, is.numbers, ap length whole_is) }

    pub room_own : Room clauses 0 old
    room_own = room_first clauses (file_blocks φ) room

    module _ {mid : List ℤ} {a : ℕ} (first : Put clauses 0 old mid a) where
      pub room_blocks : Room (file_blocks φ) a mid
      room_blocks = room_rest clauses (file_blocks φ) room first

      pub written_out : {new : List ℤ} {b : ℕ} → Put (file_blocks φ) a mid new b → WrittenOut φ old new counts
      written_out second = record { counted = is; room = omega (arith, is.numbers); is = (put_as whole_is (put_then first second)).is }
