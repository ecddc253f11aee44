-- The plan file: what a file reads as. Document 01, "Plan file" and "Numbers given on refusal", 1 to 8.
-- Assumes nothing.
use Rattle.std.specs.Prelude.{ℕ, zero, suc, ◌+◌, ◌-◌, ◌*◌, ◌/◌, Bool, true, false, not, ◌&&◌, ◌||◌, List, [], ◌∷◌, ◌++◌, ltb, leb, eqb, ℤ, pos, negsuc, nat_abs, length, get_or}
use Rattle.plan.specs.Meaning.{Edge, Atom, PlanFile, number_of_kind, kind_of}
use Rattle.plan.specs.declared.Kind.{Kind}
use Rattle.plan.specs.declared.Kind.TheVariants.{Reaches, Within, LengthAtMost}
use Rattle.plan.specs.Ranged.{max_bytes, max_nodes, max_variables, max_edges, max_length, max_atoms, max_bound, max_length_bound, max_clauses, max_literals, literals}

-- What a record leads to: a refusal with its number and returned value, the plan file so far with the next record's offset, or the whole.
pub data Step : Type 0 where
  refuse : ℕ → ℕ → Step
  next : ℕ → PlanFile → Step
  done : PlanFile → Step

pub data Reading : Type 0 where
  refused : ℕ → ℕ → Reading
  accepted : PlanFile → Reading

abbrev pub pick : Bool → Step → Step → Step
pick true a b = a
pick false a b = b

-- Goes on if the test holds, else refuses with that number and value.
abbrev pub check : Bool → ℕ → ℕ → Step → Step
check b n v s = pick b s (refuse n v)

-- "5: value length not allowed. 6: field or literal out of range. 7: one too many of its sort, or literals above 4,096. 8: variable used by
-- edge and atom", each at the record's offset: "record by record, .. then 2 to 8. The first met is returned."
abbrev pub in_order : Bool → Bool → Bool → Bool → ℕ → Step → Step
in_order long ranged room apart at s = check long 5 at (check ranged 6 at (check room 7 at (check apart 8 at s)))

-- "literals, 16-bit two's complement"
abbrev pub pick_z : Bool → ℤ → ℤ → ℤ
pick_z true a b = a
pick_z false a b = b

abbrev pub twos : ℕ → ℤ
twos x = pick_z (ltb x 32768) (pos x) (negsuc (65535 - x))

-- "All numbers are high byte first." Two bytes at i; then, of the record at an offset, "a tag (1 byte), a value length (2 bytes, high byte first)
-- and the value": its tag, its value length, the next record's offset. The value stands at the offset plus 3.
abbrev pub word : List ℕ → ℕ → ℕ
word f i = get_or f i 0 * 256 + get_or f (i + 1) 0

abbrev pub tag_at : List ℕ → ℕ → ℕ
tag_at f at = get_or f at 0

abbrev pub len_at : List ℕ → ℕ → ℕ
len_at f at = word f (at + 1)

abbrev pub after : List ℕ → ℕ → ℕ
after f at = at + 3 + len_at f at

-- "2: no room for a record's 3 head bytes, or its value runs past the end"
unfoldable pub fits : List ℕ → ℕ → Bool
fits f at = leb (at + 3) (length f) && leb (after f at) (length f)

-- "Ranges: nodes 1 to 64, numbered from 0; variables 1 to 512, numbered from 1"
abbrev pub variable_ok : ℕ → ℕ → Bool
variable_ok variables v = leb 1 v && leb v variables

unfoldable pub head_ok : ℕ → ℕ → Bool
head_ok nodes variables = leb 1 nodes && leb nodes max_nodes && leb 1 variables && leb variables max_variables

unfoldable pub ends_ok : ℕ → ℕ → ℕ → ℕ → ℕ → Bool
ends_ok nodes variables from to variable = ltb from nodes && ltb to nodes && variable_ok variables variable

-- "a fourth field, 1 to 65,535" (02, C-13)
unfoldable pub length_ok : ℕ → Bool
length_ok length = leb 1 length && leb length max_length

abbrev pub edge_ok : ℕ → ℕ → Edge → Bool
edge_ok nodes variables e = ends_ok nodes variables e.from e.to e.variable && length_ok e.length

-- "Kind 1 is 'reaches', bound 0. Kind 2 is 'within', bound 0 to 255."; "kind 3, 'length at most', bound 0 to 65,535" (02, C-13): the number is that of a
-- kind, and the bound is in its range.
abbrev pub bound_ok : Kind → ℕ → Bool
bound_ok Reaches bound = eqb bound 0
bound_ok Within bound = leb bound max_bound
bound_ok LengthAtMost bound = leb bound max_length_bound

unfoldable pub kind_ok : ℕ → ℕ → Bool
kind_ok number bound = eqb (number_of_kind (kind_of number)) number && bound_ok (kind_of number) bound

abbrev pub atom_ok : ℕ → ℕ → ℕ → Atom → Bool
atom_ok nodes variables number a = kind_ok number a.bound && ends_ok nodes variables a.from a.to a.variable

-- "A literal is a variable's number, negative for off, and never 0; -32,768 .. is out of range like any other below minus the variable count."
unfoldable pub literal_ok : ℕ → ℤ → Bool
literal_ok variables l = variable_ok variables (nat_abs l)

unfoldable pub literals_ok : ℕ → List ℤ → Bool
literals_ok variables [] = true
literals_ok variables (l ∷ ls) = literal_ok variables l && literals_ok variables ls

-- "A variable may not serve an edge and an atom." Whether variable v serves one of a list; one of the edges; one of the atoms.
unfoldable pub serves : {A : Type 0} → (A → ℕ) → List A → ℕ → Bool
serves variable [] v = false
serves variable (x ∷ xs) v = eqb (variable x) v || serves variable xs v

abbrev pub edge_uses : List Edge → ℕ → Bool
edge_uses = serves (λ e. e.variable)

abbrev pub atom_uses : List Atom → ℕ → Bool
atom_uses = serves (λ a. a.variable)

-- "2 edge: from, to, variable (u16 each). 3 atom: kind (u8), from, to, bound, variable (u16 each). 4 clause: literals"; "new tag 6 is an edge with a
-- fourth field .., and tag 2 means length 1" (02, C-13): the values of the record at an offset; an edge's by whether it has the fourth field.
abbrev pub edge_len : Bool → ℕ
edge_len false = 6
edge_len true = 8

abbrev pub length_in : Bool → List ℕ → ℕ → ℕ
length_in false f at = 1
length_in true f at = word f (at + 9)

abbrev pub edge_in : Bool → List ℕ → ℕ → Edge
edge_in long f at = record { from = word f (at + 3); to = word f (at + 5); length = length_in long f at; variable = word f (at + 7) }

abbrev pub kind_in : List ℕ → ℕ → ℕ
kind_in f at = get_or f (at + 3) 0

abbrev pub atom_in : List ℕ → ℕ → Atom
atom_in f at = record { kind = kind_of (kind_in f at); from = word f (at + 4); to = word f (at + 6); bound = word f (at + 8); variable = word f (at + 10) }

-- n literals from i on
unfoldable pub literals_in : List ℕ → ℕ → ℕ → List ℤ
literals_in f i zero = []
literals_in f i (suc n) = twos (word f i) ∷ literals_in f (i + 2) n

-- one more of a sort
abbrev pub add_edge : PlanFile → Edge → PlanFile
add_edge p e = record { nodes = p.nodes; variables = p.variables; edges = p.edges ++ (e ∷ []); atoms = p.atoms; clauses = p.clauses }

abbrev pub add_atom : PlanFile → Atom → PlanFile
add_atom p a = record { nodes = p.nodes; variables = p.variables; edges = p.edges; atoms = p.atoms ++ (a ∷ []); clauses = p.clauses }

abbrev pub add_clause : PlanFile → List ℤ → PlanFile
add_clause p c = record { nodes = p.nodes; variables = p.variables; edges = p.edges; atoms = p.atoms; clauses = p.clauses ++ (c ∷ []) }

-- clauses behind a plan file's own
abbrev pub with_clauses : PlanFile → List (List ℤ) → PlanFile
with_clauses p Cs = record { nodes = p.nodes; variables = p.variables; edges = p.edges; atoms = p.atoms; clauses = p.clauses ++ Cs }

abbrev pub empty_plan : ℕ → ℕ → PlanFile
empty_plan nodes variables = record { nodes = nodes; variables = variables; edges = []; atoms = []; clauses = [] }

-- the records, each with its checks
unfoldable pub edge_at : Bool → List ℕ → ℕ → PlanFile → Step
edge_at long f at p =
    in_order (eqb (len_at f at) (edge_len long)) (edge_ok p.nodes p.variables (edge_in long f at)) (ltb (length p.edges) max_edges) (not (atom_uses p.atoms (edge_in long f at).variable)) at
    (next (after f at) (add_edge p (edge_in long f at)))

unfoldable pub atom_at : List ℕ → ℕ → PlanFile → Step
atom_at f at p =
    in_order (eqb (len_at f at) 9) (atom_ok p.nodes p.variables (kind_in f at) (atom_in f at)) (ltb (length p.atoms) max_atoms) (not (edge_uses p.edges (atom_in f at).variable)) at
    (next (after f at) (add_atom p (atom_in f at)))

-- "even", and 0 too: "5 no longer covers a clause of length 0 ..; odd lengths stay." (02, C-12)
unfoldable pub clause_len : ℕ → Bool
clause_len n = eqb (n / 2 * 2) n

abbrev pub clause_in : List ℕ → ℕ → List ℤ
clause_in f at = literals_in f (at + 3) (len_at f at / 2)

unfoldable pub clause_at : List ℕ → ℕ → PlanFile → Step
clause_at f at p =
    in_order (clause_len (len_at f at)) (literals_ok p.variables (clause_in f at))
    (ltb (length p.clauses) max_clauses && leb (literals p.clauses + len_at f at / 2) max_literals) true at
    (next (after f at) (add_clause p (clause_in f at)))

-- "The end record is last": a byte after it is looked at before anything else, "3: .. a byte after the end record; its offset"
unfoldable pub end_at : List ℕ → ℕ → PlanFile → Step
end_at f at p =
    check (eqb (len_at f at) 0) 5 at
    (check (eqb (length f) (at + 3)) 3 (at + 3)
    (done p))

-- A record behind the head, by its tag. "3: .. a later tag 1"; "4: unknown tag".
abbrev pub tagged : ℕ → List ℕ → ℕ → PlanFile → Step
tagged tag f at p =
    check (not (eqb tag 1)) 3 at
    (pick (eqb tag 2) (edge_at false f at p)
    (pick (eqb tag 3) (atom_at f at p)
    (pick (eqb tag 4) (clause_at f at p)
    (pick (eqb tag 5) (end_at f at p)
    (pick (eqb tag 6) (edge_at true f at p)
    (refuse 4 at))))))

unfoldable pub step_at : List ℕ → ℕ → PlanFile → Step
step_at f at p = check (fits f at) 2 at (tagged (tag_at f at) f at p)

-- "The head is first": 1, then 2, 3, 5, 6 of the first record. "3: first tag not 1".
unfoldable pub head_at : List ℕ → Step
head_at f =
    check (leb (length f) max_bytes) 1 0
    (check (fits f 0) 2 0
    (check (eqb (tag_at f 0) 1) 3 0
    (check (eqb (len_at f 0) 4) 5 0
    (check (head_ok (word f 3) (word f 5)) 6 0
    (next 7 (empty_plan (word f 3) (word f 5)))))))

-- Where a step leads: a refusal and the whole plan file are the reading, and from the next record on g reads.
abbrev pub onward : (ℕ → PlanFile → Reading) → Step → Reading
onward g (refuse n v) = refused n v
onward g (next at p) = g at p
onward g (done p) = accepted p

-- Record by record, from an offset on. A record has at least 3 bytes, so the file's length is more turns than are met (proofs/Exact: `enough`).
unfoldable pub records : ℕ → List ℕ → ℕ → PlanFile → Reading
records zero f at p = refused 2 at
records (suc k) f at p = onward (records k f) (step_at f at p)

unfoldable pub read_plan : List ℕ → Reading
read_plan f = onward (records (length f) f) (head_at f)
