use Rattle.std.proofs.Common.{◌≡◌, take}
use Rattle.lists.specs.Lists.{items}
use Rattle.books.specs.Totals.{total}
use Rattle.books.proofs.journal.Journal.sum.Given as goal

abbrev pub invariant-loop-booking : goal.invariant-loop-booking
invariant-loop-booking l = l.sum ≡ total (take l.booking-index (items l.self.list)) l.security
