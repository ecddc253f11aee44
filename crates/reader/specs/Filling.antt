-- A plan in the tables, and what the reader's answers say of them.
-- Assumes nothing.
use Rattle.std.specs.Prelude.{ℕ, ◌+◌, ◌≡◌, List, length, take, Result, Ok, Err}
use Rattle.plan.specs.Meaning.{PlanFile}
use Rattle.plan.specs.Ranged.{literals}
use Rattle.plan.specs.Written.{flat}
use Rattle.plan.specs.Tables.{edges_of, atoms_of}
use Rattle.plan.specs.Refusals.{number_of, value_of}
use Rattle.plan.specs.declared.Plan as counted
use Rattle.plan.specs.declared.refusal.Refusal.{Refusal}
use Rattle.reader.specs.Format.{Step, refuse, next, done, Reading, refused, accepted}
use Rattle.reader.specs.declared.Buffers.{Buffers}
use Rattle.reader.specs.declared.Step as code
use Rattle.reader.specs.declared.Step.TheVariants.{Next, Done}

-- n things stand in a table: they are what its first n structs stand for.
pub record Filled {A B : Type 0} (meant : List B → List A) (things : List A) (n : ℕ) (table : List B) : Type 0 where
  pub count : length things ≡ n
  pub stand : meant (take n table) ≡ things

-- the plan stands in the tables, its clauses as `flat` writes them
pub record Tables (p : PlanFile) (c : counted.Plan) (b : Buffers) : Type 0 where
  pub nodes : p.nodes ≡ c.nodes
  pub variables : p.variables ≡ c.variables
  pub edges : Filled edges_of p.edges c.edges b.edges
  pub atoms : Filled atoms_of p.atoms c.atoms b.atoms
  pub clauses : length p.clauses ≡ c.clauses
  pub literals : literals p.clauses ≡ c.literals
  pub written : take (c.literals + c.clauses) b.clauses ≡ flat p.clauses

-- The code's step is the definition's: the same refusal; the same offset, and the plan file so far stands in the tables; or the whole plan file does.
pub data Steps (b : Buffers) : Step → Result code.Step Refusal → Type 0 where
  refuses : {n v : ℕ} {y : Refusal} → n ≡ number_of y → v ≡ value_of y → Steps b (refuse n v) (Err y)
  leads : {a to : ℕ} {p : PlanFile} {c : counted.Plan} → a ≡ to → Tables p c b → Steps b (next a p) (Ok (Next to c))
  ends : {p : PlanFile} {c : counted.Plan} → Tables p c b → Steps b (done p) (Ok (Done c))

-- What taking a record promises: of every plan file that stood in the tables before, with the counts c, the code's step is the definition's.
abbrev pub Takes : (PlanFile → Step) → counted.Plan → Buffers → Result code.Step Refusal → Buffers → Type 0
Takes s c b r b' = (p : PlanFile) → Tables p c b → Steps b' (s p) r

-- What a read answer says of a reading: of an accepted file the plan stands in the tables.
abbrev pub Answers : Reading → Result counted.Plan Refusal → Buffers → Type 0
Answers (refused n v) (Err y) b = (n ≡ number_of y) × (v ≡ value_of y)
Answers (refused n v) (Ok c) b = ⊥
Answers (accepted p) (Err y) b = ⊥
Answers (accepted p) (Ok c) b = Tables p c b
