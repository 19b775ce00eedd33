use Rattle.std.proofs.Common.{◌≡◌, take}
use Rattle.frames.specs.Hex.{number_of}
use Rattle.frames.proofs.hex.number.Given as goal

abbrev pub invariant-loop-code : goal.invariant-loop-code
invariant-loop-code l = l.n ≡ number_of (take l.code-index l.field)
