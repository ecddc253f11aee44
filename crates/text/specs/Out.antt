-- What a contract sees of an `Out`.
-- Assumes nothing.
use Rattle.std.specs.Prelude.{ℕ, List, take, Option}
use Rattle.std.specs.Io.KnownBytes.{append_known}
use Rattle.std.specs.declared.io.Write.{Ghosts}
use Rattle.text.specs.declared.print.Out.{Out}

-- the bytes in the buffer, which are not yet written
abbrev pub gathered : {W : Type 0} {g : Ghosts W} → Out W g → List ℕ
gathered out = take out.used out.bytes

module _ {W : Type 0} {g : Ghosts W} where
  -- what the writer holds once the buffer is written too
  abbrev pub held : Out W g → Option (List ℕ)
  held out = append_known (g.contents out.to) (gathered out)
