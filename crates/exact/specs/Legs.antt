-- The laws of credits with no rounding. Assumes nothing.
use Rattle.std.specs.Prelude.{ℕ, ◌*◌, ◌≤◌}
use Rattle.std.proofs.Common.{arith}
use Rattle.rules.specs.Margin.{exact}
use Rattle.terms.specs.Limits.{whole}
use Rattle.exact.specs.Sizes.{part_limit, worths_limit}

pub lowered : (crt matched : ℕ) → 1 * exact.credit crt matched ≤ crt * matched
lowered crt matched = omega arith

pub room : whole * worths_limit ≤ 1 * part_limit
room = omega arith
