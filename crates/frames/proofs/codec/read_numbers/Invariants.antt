use Rattle.std.proofs.Common.{◌≡◌, ◌*◌, true, ◌++◌, length, drop}
use Rattle.frames.specs.Fields.{numbers_of, bytes}
use Rattle.frames.specs.Hex.{are_digits}
use Rattle.frames.proofs.codec.read_numbers.Given as goal

-- the fields that are left are as long as their widths, and their numbers stand behind those that are read
abbrev pub invariant-loop-width : goal.invariant-loop-width
invariant-loop-width l = record {
  left : length l.rest ≡ 2 * bytes (drop l.width-index l.widths);
  digits : are_digits l.rest ≡ true;
  count : length l.numbers.items ≡ l.width-index;
  read : l.numbers.items ++ numbers_of (drop l.width-index l.widths) l.rest ≡ numbers_of l.widths l.fields;
}
