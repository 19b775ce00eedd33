-- The lines of a text. A line ends in a line feed; the last may lack it; no bytes left are no line.
-- Assumes nothing.
use Rattle.std.specs.Prelude.{ℕ, ◌+◌, cond, ◌≢◌, List, [], ◌∷◌, ◌++◌, length, drop, Option, ◌==◌}
use Rattle.std.specs.Iterator.{YieldsFirstBy}
use Rattle.std.specs.List.{AllByRecursion}
use Rattle.lines.specs.declared.part.Part.{Part}
use Rattle.lines.specs.declared.reader.LineReader.{LineReader}

-- the first line of a text, without its line feed
abbrev pub first_line : List ℕ → List ℕ
first_line [] = []
first_line (c ∷ cs) = cond (c == 10) [] (c ∷ first_line cs)

-- what is left after the first line and its line feed
abbrev pub after_line : List ℕ → List ℕ
after_line [] = []
after_line (c ∷ cs) = cond (c == 10) cs (after_line cs)

-- a byte before the first of these lines
abbrev pub before : ℕ → List (List ℕ) → List (List ℕ)
before c [] = (c ∷ []) ∷ []
before c (line ∷ lines) = (c ∷ line) ∷ lines

-- the lines of a text
abbrev pub lines_of : List ℕ → List (List ℕ)
lines_of [] = []
lines_of (c ∷ cs) = cond (c == 10) ([] ∷ lines_of cs) (before c (lines_of cs))

-- no byte of a line is a line feed
abbrev pub Unbroken : List ℕ → Type 0
Unbroken = AllByRecursion (λ c. c ≢ 10)

-- lines, each with its line feed
abbrev pub fed : List (List ℕ) → List ℕ
fed [] = []
fed (line ∷ lines) = line ++ (10 ∷ fed lines)

-- a text, with the line feed that its last line may lack
abbrev pub closed : List ℕ → List ℕ
closed [] = []
closed (c ∷ []) = cond (c == 10) (c ∷ []) (c ∷ 10 ∷ [])
closed (c ∷ d ∷ cs) = c ∷ closed (d ∷ cs)

-- what a reader has still to read
abbrev pub rest_of : LineReader → List ℕ
rest_of reader = drop reader.at reader.text.now

-- the lines that it has still to read
abbrev pub lines_left : LineReader → List (List ℕ)
lines_left reader = lines_of (rest_of reader)

-- a call gives the first of the lines left, and leaves the others; none where none is left, and then none is
abbrev pub GivesFirstLine : LineReader → Option Part → LineReader → Type 0
GivesFirstLine = YieldsFirstBy (λ part. part.digits.now) lines_left

-- a line, and its place in the text
pub record Placed : Type 0 where
  pub place : ℕ
  pub line : List ℕ

-- lines of which the first stands at this place; each other one stands behind the line feed of the one before
abbrev pub with_places : ℕ → List (List ℕ) → List Placed
with_places place [] = []
with_places place (line ∷ lines) = record { place = place; line = line } ∷ with_places (place + length line + 1) lines

-- the lines that a reader has still to read, with their places
abbrev pub places_left : LineReader → List Placed
places_left reader = with_places reader.at (lines_left reader)

-- a call gives the first of these
abbrev pub GivesFirstPlace : LineReader → Option Part → LineReader → Type 0
GivesFirstPlace = YieldsFirstBy (λ part. record { place = part.place; line = part.digits.now }) places_left

-- a call gives the first line and its place
abbrev pub GivesFirst : LineReader → Option Part → LineReader → Type 0
GivesFirst reader given left = GivesFirstLine reader given left × GivesFirstPlace reader given left
