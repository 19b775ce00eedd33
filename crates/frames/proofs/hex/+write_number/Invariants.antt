use Rattle.std.proofs.Common.{length}
use Rattle.frames.proofs.hex.+write_number.Given as goal

abbrev pub decreases-write_number : goal.decreases-write_number
decreases-write_number l = length l.field.now
