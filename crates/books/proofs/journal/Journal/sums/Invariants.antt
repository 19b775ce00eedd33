use Rattle.std.proofs.Common.{◌≡◌, ℕ, ◌<◌, length, get_or, pos, take}
use Rattle.lists.specs.Lists.{items}
use Rattle.terms.specs.Limits.{security_count}
use Rattle.books.specs.Totals.{total}
use Rattle.books.proofs.journal.Journal.sums.Given as goal

abbrev pub invariant-loop-booking : goal.invariant-loop-booking
invariant-loop-booking l =
    (length l.nets ≡ security_count) × ((s : ℕ) → s < security_count → get_or l.nets s (pos 0) ≡ total (take l.booking-index (items l.self.list)) s)
