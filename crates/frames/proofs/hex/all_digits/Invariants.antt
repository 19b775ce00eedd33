use Rattle.std.proofs.Common.{◌≡◌, ◌&&◌, ltb, drop}
use Rattle.frames.specs.Hex.{are_digits}
use Rattle.frames.proofs.hex.all_digits.Given as goal

abbrev pub invariant-loop-code : goal.invariant-loop-code
invariant-loop-code l = (ltb l.bits 16 && are_digits (drop l.code-index l.text)) ≡ are_digits l.text
