-- The definition needs no count of turns, and no second answer fits the reader's contract.
-- Assumes nothing.
use Rattle.reader.proofs.Kit.{◌≡◌, refl, sym, ap, ◌∙◌, subst, List, [], ◌∷◌, ℕ, zero, suc, ◌+◌, ◌<◌, ◌≤◌, arith, length, take}
use mathlib.Core.Path.{ap₂}
use mathlib.Core.List.{map}
use Rattle.std.specs.Prelude.{Result, Ok, Err}
use Rattle.plan.specs.Meaning.{PlanFile}
use Rattle.plan.specs.Ranged.{max_nodes, max_variables, max_edges, max_atoms, max_clauses, max_literals, literals, Ranged}
use Rattle.plan.specs.Written.{flat}
use Rattle.plan.specs.Tables.{edge_of, atom_of, edges_of, atoms_of}
use Rattle.plan.specs.File.{file_of}
use Rattle.plan.specs.declared.Plan as counted
use Rattle.plan.specs.declared.Edge as struct-of-edge
use Rattle.plan.specs.declared.Atom as struct-of-atom
use Rattle.plan.specs.declared.refusal.Refusal.{Refusal}
use Rattle.plan.specs.declared.tables.Tables as lent
use Rattle.plan.proofs.ByPlace.{edges_length, atoms_length}
use Rattle.plan.proofs.Refusals.{one_refusal}
use Rattle.reader.specs.declared.Buffers.{Buffers}
use Rattle.reader.specs.Format.{Step, refuse, next, done, Reading, refused, accepted, onward, step_at, head_at, records, read_plan}
use Rattle.reader.specs.Filling.{Tables, Answers}
use Rattle.reader.specs.Reads.{Reads}
use Rattle.reader.specs.Ready.{Room}
use Rattle.reader.proofs.Accepts.{read_ranged}
use Rattle.reader.proofs.Cases.{head_by, step_by, edge_by, atom_by, clause_by}

-- a step goes forward, and stays in the file
abbrev pub Ahead : List ℕ → ℕ → Step → Type 0
Ahead f at (refuse n v) = Unit
Ahead f at (next b p) = (at < b) × (b ≤ length f)
Ahead f at (done p) = Unit

pub step_ahead : (f : List ℕ) (at : ℕ) (p : PlanFile) → Ahead f at (step_at f at p)
step_ahead f at p =
    let G = Ahead f at in
    step_by G (λ n v. tt) f at p
    (λ long h. edge_by G (λ n v. tt) f at p long (λ l r m a. (omega arith, h)))
    (λ h. atom_by G (λ n v. tt) f at p (λ l r m a. (omega arith, h)))
    (λ h. clause_by G (λ n v. tt) f at p (λ l r m a. (omega arith, h)))
    (λ e. tt)

pub head_ahead : (f : List ℕ) → Ahead f 0 (head_at f)
head_ahead f = head_by (Ahead f 0) (λ n v. tt) f (λ l w h. (omega arith, w))

on_same : (f : List ℕ) (at : ℕ) (g h : ℕ → PlanFile → Reading) → ((b : ℕ) (q : PlanFile) → at < b → b ≤ length f → g b q ≡ h b q) → (s : Step) → Ahead f at s
    → onward g s ≡ onward h s
on_same f at g h e (refuse n v) a = refl
on_same f at g h e (next b q) a = e b q a.0 a.1
on_same f at g h e (done p) a = refl

-- two counts that are enough give the same
pub enough : (k j : ℕ) (f : List ℕ) (at : ℕ) (p : PlanFile) → at ≤ length f → length f < at + k → length f < at + j → records k f at p ≡ records j f at p
unfolding records
enough zero j f at p w x y = absurd (omega arith)
enough (suc k) zero f at p w x y = absurd (omega arith)
enough (suc k) (suc j) f at p w x y =
    on_same f at (records k f) (records j f) (λ b q m l. enough k j f b q l (omega arith) (omega arith)) (step_at f at p) (step_ahead f at p)

-- the reading from an offset on, and the equations that it obeys, with no count
pub read_from : List ℕ → ℕ → PlanFile → Reading
read_from f at p = records (suc (length f)) f at p

pub read_head : (f : List ℕ) → read_plan f ≡ onward (read_from f) (head_at f)
unfolding read_plan read_from
read_head f =
    on_same f 0 (records (length f) f) (read_from f) (λ b q m l. enough (length f) (suc (length f)) f b q l (omega arith) (omega arith)) (head_at f)
    (head_ahead f)

pub read_step : (f : List ℕ) (at : ℕ) (p : PlanFile) → at ≤ length f → read_from f at p ≡ onward (read_from f) (step_at f at p)
unfolding read_from records
read_step f at p w =
    on_same f at (records (length f) f) (read_from f) (λ b q m l. enough (length f) (suc (length f)) f b q l (omega arith) (omega arith)) (step_at f at p)
    (step_ahead f at p)

-- a struct is told by what it stands for, and so is a table
same_edges : (es ds : List struct-of-edge.Edge) → edges_of es ≡ edges_of ds → es ≡ ds
unfolding edges_of
same_edges [] [] e = refl
same_edges [] (d ∷ ds) e = absurd (cc)
same_edges (x ∷ es) [] e = absurd (cc)
same_edges (x ∷ es) (d ∷ ds) e =
    let one : edge_of x ≡ edge_of d = cc in
    let rest : map edge_of es ≡ map edge_of ds = cc in
    ap₂ (λ y ys. y ∷ ys) (λ i. record { from = (one i).from; to = (one i).to; length = (one i).length; variable = (one i).variable }) (same_edges es ds rest)

same_atoms : (As Bs : List struct-of-atom.Atom) → atoms_of As ≡ atoms_of Bs → As ≡ Bs
unfolding atoms_of
same_atoms [] [] e = refl
same_atoms [] (B ∷ Bs) e = absurd (cc)
same_atoms (A ∷ As) [] e = absurd (cc)
same_atoms (A ∷ As) (B ∷ Bs) e =
    let one : atom_of A ≡ atom_of B = cc in
    let rest : map atom_of As ≡ map atom_of Bs = cc in
    ap₂ (λ y ys. y ∷ ys) (λ i. record { kind = (one i).kind; from = (one i).from; to = (one i).to; bound = (one i).bound; variable = (one i).variable }) (same_atoms As Bs rest)

-- two answers say the same: the same refusal, or the same counts and the same tables
abbrev pub Same : Result lent.Tables Refusal → Result lent.Tables Refusal → Type 0
Same (Err x) (Err y) = x ≡ y
Same (Err x) (Ok u) = ⊥
Same (Ok t) (Err y) = ⊥
Same (Ok t) (Ok u) = (t.plan ≡ u.plan) × (t.edges.now ≡ u.edges.now) × (t.atoms.now ≡ u.atoms.now) × (t.clauses.now ≡ u.clauses.now)

-- tables that are lent on are told by their plan file
same_tables : (t u : lent.Tables) → file_of t ≡ file_of u → Same (Ok t) (Ok u)
same_tables t u e = (
  λ i. record {
    nodes = (e i).nodes;
    variables = (e i).variables;
    edges = (sym edges_t ∙ ap (λ p. length p.edges) e ∙ edges_u) i;
    atoms = (sym atoms_t ∙ ap (λ p. length p.atoms) e ∙ atoms_u) i;
    clauses = (sym t.lent.clauses ∙ ap (λ p. length p.clauses) e ∙ u.lent.clauses) i;
    literals = (sym t.lent.literals ∙ ap (λ p. literals p.clauses) e ∙ u.lent.literals) i;
  },
  same_edges t.edges.now u.edges.now (ap (λ p. p.edges) e),
  same_atoms t.atoms.now u.atoms.now (ap (λ p. p.atoms) e),
  sym t.lent.ended ∙ ap (λ p. flat p.clauses) e ∙ u.lent.ended,
)
  where
    edges_t : length (edges_of t.edges.now) ≡ t.plan.edges
    edges_t = edges_length t.edges.now ∙ t.lent.edges

    edges_u : length (edges_of u.edges.now) ≡ u.plan.edges
    edges_u = edges_length u.edges.now ∙ u.lent.edges

    atoms_t : length (atoms_of t.atoms.now) ≡ t.plan.atoms
    atoms_t = atoms_length t.atoms.now ∙ t.lent.atoms

    atoms_u : length (atoms_of u.atoms.now) ≡ u.plan.atoms
    atoms_u = atoms_length u.atoms.now ∙ u.lent.atoms

-- no second answer fits, and no second contents of the tables
pub one_answer : (q : Reading) (r s : Result lent.Tables Refusal) → Reads q r → Reads q s → Same r s
one_answer (refused n v) (Err x) (Err y) h k = one_refusal x y (sym h.0 ∙ k.0) (sym h.1 ∙ k.1)
one_answer (refused n v) (Err x) (Ok u) h k = absurd k
one_answer (refused n v) (Ok t) s h k = absurd h
one_answer (accepted p) (Err x) s h k = absurd h
one_answer (accepted p) (Ok t) (Err y) h k = absurd k
one_answer (accepted p) (Ok t) (Ok u) h k = same_tables t u (h ∙ sym k)

-- and what stands in the buffers behind an accepted file is told by it, as far as they are filled
pub one_filling : (p : PlanFile) (c : counted.Plan) (b b' : Buffers) → Tables p c b → Tables p c b'
    → (take c.edges b.edges ≡ take c.edges b'.edges) × (take c.atoms b.atoms ≡ take c.atoms b'.atoms)
    × (take (c.literals + c.clauses) b.clauses ≡ take (c.literals + c.clauses) b'.clauses)
one_filling p c b b' t u = (
  same_edges _ _ (t.edges.stand ∙ sym u.edges.stand),
  same_atoms _ _ (t.atoms.stand ∙ sym u.atoms.stand),
  t.written ∙ sym u.written,
)

-- the counts of a plan file in range
pub room_of : {p : PlanFile} {c : counted.Plan} {b : Buffers} → Ranged p → Tables p c b → Room c
room_of r t = record {
  nodes = subst (λ n. n ≤ max_nodes) t.nodes r.nodes;
  variables = subst (λ n. n ≤ max_variables) t.variables r.variables;
  edges = subst (λ n. n ≤ max_edges) t.edges.count r.edges;
  atoms = subst (λ n. n ≤ max_atoms) t.atoms.count r.atoms;
  clauses = subst (λ n. n ≤ max_clauses) t.clauses r.clauses;
  literals = subst (λ n. n ≤ max_literals) t.literals r.literals;
}

-- what a caller has of an accepted file: its plan, in range, in the tables, and the counts within the tables' room
pub record Given (f : List ℕ) (c : counted.Plan) (b : Buffers) : Type 0 where
  pub plan : PlanFile
  pub reads : read_plan f ≡ accepted plan
  pub ranged : Ranged plan
  pub tables : Tables plan c b
  pub room : Room c

given_by : (f : List ℕ) (q : Reading) → read_plan f ≡ q → (c : counted.Plan) (b : Buffers) → Answers q (Ok c) b → Given f c b
given_by f (refused n v) e c b h = absurd h
given_by f (accepted p) e c b h = let r = read_ranged f p e in record { plan = p; reads = e; ranged = r; tables = h; room = room_of r h }

pub given : (f : List ℕ) (c : counted.Plan) (b : Buffers) → Answers (read_plan f) (Ok c) b → Given f c b
given f c b h = given_by f (read_plan f) refl c b h
