-- What reading a file into buffers answers.
-- Assumes nothing.
use Rattle.std.specs.Prelude.{◌≡◌, Result, Ok, Err}
use Rattle.plan.specs.File.{file_of}
use Rattle.plan.specs.Refusals.{number_of, value_of}
use Rattle.plan.specs.declared.refusal.Refusal.{Refusal}
use Rattle.plan.specs.declared.tables.Tables.{Tables}
use Rattle.reader.specs.Format.{Reading, refused, accepted}

-- The tables stand for the plan file that is accepted, or the refusal is the reading's.
abbrev pub Reads : Reading → Result Tables Refusal → Type 0
Reads (refused n v) (Err y) = (n ≡ number_of y) × (v ≡ value_of y)
Reads (refused n v) (Ok t) = ⊥
Reads (accepted p) (Err y) = ⊥
Reads (accepted p) (Ok t) = file_of t ≡ p
