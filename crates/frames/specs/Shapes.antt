-- How code knows a kind of frame. Assumes nothing.
use Rattle.std.specs.Prelude.{◌≡◌, ℕ, ◌+◌, Bool}
use Rattle.frames.specs.Fields.{bytes}
use Rattle.frames.specs.Kinds.{Kind}

-- the kind byte, the length in bytes with the kind byte, and the choice are those of the kind
pub record Shaped (k : Kind) (byte length : ℕ) (choice : Bool) : Type 0 where
  pub of_byte : byte ≡ k.byte
  pub of_length : length ≡ 1 + bytes k.widths
  pub of_choice : choice ≡ k.choice
