-- What a top holds is what its tally says. Assumes nothing.
use Rattle.std.specs.Prelude.{◌≡◌}
use Rattle.std.proofs.Common.{sym}
use Rattle.books.specs.Books.{Account}
use Rattle.books.proofs.Accounts.{plus_minus, plus_nothing}
use Rattle.tops.specs.Tallies.{bare_tally, tally_account, trial_tally}

pub bare_shown : (a : Account) → a ≡ tally_account (bare_tally a)
bare_shown a = λ i. record { holdings = λ s. sym (plus_nothing (a.holdings s)) i; left = a.left }

pub trial_shown : (above below : Account) → above ≡ tally_account (trial_tally above below)
trial_shown above below = λ i. record { holdings = λ s. sym (plus_minus (above.holdings s) (below.holdings s)) i; left = above.left }
