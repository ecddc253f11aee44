-- What each record leads to, told by the counts and the tables: the tests that the code makes are the definition's.
-- Assumes nothing.
use Rattle.reader.proofs.Kit.{◌≡◌, refl, sym, ap, ◌∙◌, Bool, true, false, not, ◌&&◌, and-eq-true_iff, List, [], ◌∷◌, ◌++◌, ℕ, ◌+◌, ◌/◌, ◌<◌, ◌≤◌, arith, leb-true, eq-eqb, ne_eqb, ltb, leb, eqb, ℤ, pos, length, take, set}
use mathlib.Core.List.{map}
use Rattle.std.specs.Prelude.{Result, Ok, Err}
use Rattle.std.specs.List.{list_any}
use Rattle.std.proofs.lemmas.List.{take_more_set, map_push}
use Rattle.plan.specs.Meaning.{PlanFile}
use Rattle.plan.specs.Ranged.{max_edges, max_atoms, max_clauses, max_literals, literals}
use Rattle.plan.specs.Written.{flat}
use Rattle.plan.specs.Tables.{edge_of, atom_of, edges_of, atoms_of}
use Rattle.plan.specs.declared.Plan as counted
use Rattle.plan.specs.declared.Edge as struct-of-edge
use Rattle.plan.specs.declared.Atom as struct-of-atom
use Rattle.plan.specs.declared.refusal.Refusal.{Refusal}
use Rattle.plan.specs.declared.refusal.Refusal.TheVariants.{Misplaced, BadLength, OutOfRange, TooMany, Shared}
use Rattle.plan.proofs.ClauseTable.{flat_clause, count_clause}
use Rattle.reader.specs.declared.Buffers.{Buffers}
use Rattle.reader.specs.declared.Step as code
use Rattle.reader.specs.declared.Step.TheVariants.{Done}
use Rattle.reader.specs.Format.{Step, next, in_order, word, len_at, after, fits, edge_ok, atom_ok, literals_ok, clause_len, edge_len, edge_in, kind_in, atom_in, clause_in, literals_in, add_edge, add_atom, add_clause, empty_plan, edge_at, atom_at, clause_at, end_at}
use Rattle.reader.specs.Filling.{Steps, refuses, ends, Tables, Filled}
use Rattle.reader.proofs.Rows.{serves_any, length_snoc, literals_length}

-- a record that fits ends in the file
pub fits_is : (f : List ℕ) (at : ℕ) → fits f at ≡ true → after f at ≤ length f
unfolding fits
fits_is f at h = leb-true _ _ ((and-eq-true_iff (leb (at + 3) (length f)) (leb (after f at) (length f))).0 h).1

-- one more thing in a table, behind those that stand there
one_more : {A B : Type 0} (meant : B → A) {xs : List A} {n : ℕ} {t : List B} (x : B) → n < length t → Filled (map meant) xs n t
    → Filled (map meant) (xs ++ (meant x ∷ [])) (n + 1) (set t n x)
one_more meant {xs} {n} {t} x l h = record {
  count = length_snoc xs (meant x) ∙ ap (λ k. k + 1) h.count;
  stand = ap (map meant) (take_more_set t n x l) ∙ map_push meant (take n t) x ∙ ap (λ k. k ++ (meant x ∷ [])) h.stand;
}

-- other counts beside the same nodes and variables
abbrev pub counting : counted.Plan → ℕ → ℕ → ℕ → ℕ → counted.Plan
counting c e a k l = record { nodes = c.nodes; variables = c.variables; edges = e; atoms = a; clauses = k; literals = l }

pub empty_tables : (nodes variables : ℕ) (b : Buffers)
    → Tables (empty_plan nodes variables) (record { nodes = nodes; variables = variables; edges = 0; atoms = 0; clauses = 0; literals = 0 }) b
unfolding edges_of atoms_of flat literals
empty_tables nodes variables b = record {
  nodes = refl;
  variables = refl;
  edges = record { count = refl; stand = refl };
  atoms = record { count = refl; stand = refl };
  clauses = refl;
  literals = refl;
  written = refl;
}

-- A record's step q is its four tests in the document's order, and then the step s. The ways out, and the way on.
pub record Tested (q : Step) (long ranged room used : Bool) (at : ℕ) (s : Step) : Type 0 where
  pub is : q ≡ in_order long ranged room (not used) at s

module _ {q s : Step} {long ranged room used : Bool} {at : ℕ} (k : Tested q long ranged room used at s) {b : Buffers} where
  pub bad_length : long ≡ false → Steps b q (Err (BadLength at))
  bad_length l = rw (k.is, l) (refuses refl refl)

  module _ (l : long ≡ true) where
    pub out_of_range : ranged ≡ false → Steps b q (Err (OutOfRange at))
    out_of_range r = rw (k.is, l, r) (refuses refl refl)

    module _ (r : ranged ≡ true) where
      pub too_many : room ≡ false → Steps b q (Err (TooMany at))
      too_many m = rw (k.is, l, r, m) (refuses refl refl)

      module _ (m : room ≡ true) where
        pub shared : used ≡ true → Steps b q (Err (Shared at))
        shared u = rw (k.is, l, r, m, u) (refuses refl refl)

        pub taken : {x : Result code.Step Refusal} → used ≡ false → Steps b s x → Steps b q x
        taken u h = rw (k.is, l, r, m, u) h

module _ (f : List ℕ) (at : ℕ) {p : PlanFile} {c : counted.Plan} {b : Buffers} (t : Tables p c b) where
  pub edge_tests : (long : Bool)
      → Tested (edge_at long f at p) (eqb (len_at f at) (edge_len long)) (edge_ok c.nodes c.variables (edge_in long f at)) (ltb c.edges max_edges)
      (list_any (λ a. eqb a.variable (word f (at + 7))) (take c.atoms b.atoms)) at (next (after f at) (add_edge p (edge_in long f at)))
  unfolding edge_at atoms_of
  edge_tests long = record { is = simp (← t.nodes, ← t.variables, ← t.edges.count, ← t.atoms.stand, serves_any) }

  pub edge_tables : (long : Bool) (e : struct-of-edge.Edge) → edge_of e ≡ edge_in long f at → c.edges < length b.edges
      → Tables (add_edge p (edge_in long f at)) (counting c (c.edges + 1) c.atoms c.clauses c.literals) (record b { edges = set b.edges c.edges e })
  unfolding edges_of
  edge_tables long e is h = record {
    nodes = t.nodes;
    variables = t.variables;
    edges = rw (← is) (one_more edge_of e h t.edges);
    atoms = t.atoms;
    clauses = t.clauses;
    literals = t.literals;
    written = t.written;
  }

  pub atom_tests :
      Tested (atom_at f at p) (eqb (len_at f at) 9) (atom_ok c.nodes c.variables (kind_in f at) (atom_in f at)) (ltb c.atoms max_atoms)
      (list_any (λ e. eqb e.variable (word f (at + 10))) (take c.edges b.edges)) at (next (after f at) (add_atom p (atom_in f at)))
  unfolding atom_at edges_of
  atom_tests = record { is = simp (← t.nodes, ← t.variables, ← t.atoms.count, ← t.edges.stand, serves_any) }

  pub atom_tables : (a : struct-of-atom.Atom) → atom_of a ≡ atom_in f at → c.atoms < length b.atoms
      → Tables (add_atom p (atom_in f at)) (counting c c.edges (c.atoms + 1) c.clauses c.literals) (record b { atoms = set b.atoms c.atoms a })
  unfolding atoms_of
  atom_tables a is h = record {
    nodes = t.nodes;
    variables = t.variables;
    edges = t.edges;
    atoms = rw (← is) (one_more atom_of a h t.atoms);
    clauses = t.clauses;
    literals = t.literals;
    written = t.written;
  }

  pub clause_tests :
      Tested (clause_at f at p) (clause_len (len_at f at)) (literals_ok c.variables (clause_in f at))
      (ltb c.clauses max_clauses && leb (c.literals + len_at f at / 2) max_literals) false at (next (after f at) (add_clause p (clause_in f at)))
  unfolding clause_at
  clause_tests = record { is = simp (← t.variables, ← t.clauses, ← t.literals) }

  pub clause_tables : {n : ℕ} {d : List ℤ} → n ≡ len_at f at / 2
      → take (c.literals + c.clauses + n + 1) d ≡ take (c.literals + c.clauses) b.clauses ++ (literals_in f (at + 3) n ++ (pos 0 ∷ []))
      → Tables (add_clause p (clause_in f at)) (counting c c.edges c.atoms (c.clauses + 1) (c.literals + n)) (record b { clauses = d })
  clause_tables {n = n} {d = d} e h =
      let m : c.literals + n + (c.clauses + 1) ≡ c.literals + c.clauses + n + 1 = omega arith in
      record {
        nodes = t.nodes;
        variables = t.variables;
        edges = t.edges;
        atoms = t.atoms;
        clauses = length_snoc p.clauses (clause_in f at) ∙ ap (λ k. k + 1) t.clauses;
        literals = count_clause p.clauses (clause_in f at) ∙ simp (t.literals, literals_length, e);
        written = rw (m, h, t.written, e) (sym (flat_clause p.clauses (clause_in f at)));
      }

  -- the end record: nothing in it and nothing behind it
  pub end_long : (len_at f at ≡ 0 → ⊥) → Steps b (end_at f at p) (Err (BadLength at))
  unfolding end_at
  end_long n = rw (ne_eqb _ 0 n) (refuses refl refl)

  module _ (z : len_at f at ≡ 0) {e : ℕ} (end : e ≡ at + 3) where
    pub end_behind : (length f ≡ e → ⊥) → Steps b (end_at f at p) (Err (Misplaced e))
    unfolding end_at
    end_behind n = rw (eq-eqb _ 0 z, ne_eqb _ _ (λ q. n (q ∙ sym end))) (refuses refl (sym end))

    pub end_here : length f ≡ e → Steps b (end_at f at p) (Ok (Done c))
    unfolding end_at
    end_here q = rw (eq-eqb _ 0 z, eq-eqb _ _ (q ∙ end)) (ends t)
