-- What is written for a text. Assumes nothing.
use Rattle.std.specs.Prelude.{ℕ, List, Option}
use Rattle.std.specs.Io.KnownBytes.{Appends}
use Rattle.lines.specs.Lines.{fed}
use Rattle.intake.specs.Yields.{ReadAs, lines_for}

-- the lines that its one reading asks for, each with its feed, come behind the bytes that a writer held
abbrev pub Answers : List ℕ → Option (List ℕ) → Option (List ℕ) → Type 0
Answers text before after = (read : ReadAs text) × Appends before after (fed (lines_for read.reading))
