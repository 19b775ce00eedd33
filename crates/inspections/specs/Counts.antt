-- How many lines of a text are frames of each kind, and how many are refused. Assumes nothing.
use Rattle.std.specs.Prelude.{ℕ, List, take, Some, None, Option, ◌==◌, count_by}
use Rattle.terms.specs.declared.refusal.Refusal.{Refusal}
use Rattle.frames.specs.Frames.{line_refusal}
use Rattle.frames.specs.Hex.{number_of}
use Rattle.frames.specs.Kinds.{all_kinds}
use Rattle.lines.specs.declared.frame_line.FrameKind.{FrameKind}
use Rattle.lines.specs.FrameLines.{named_kind}

-- the kind byte of what a line is told as, and 0 of a refused line
abbrev pub told_byte : Option FrameKind → ℕ
told_byte None = 0
told_byte (Some kind) = (named_kind kind).byte

abbrev pub byte_told : Option Refusal → ℕ → ℕ
byte_told None byte = byte
byte_told (Some refusal) byte = 0

-- the kind byte of a line, and 0 where it is refused
abbrev pub line_byte : List ℕ → ℕ
line_byte line = byte_told (line_refusal all_kinds line) (number_of (take 2 line))

-- how many of the lines have this byte
abbrev pub count_of : ℕ → List (List ℕ) → ℕ
count_of byte lines = count_by (λ line. line_byte line == byte) lines
