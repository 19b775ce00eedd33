-- What a journal means: its nets are the sums of the bookings that it lists. Assumes nothing.
use Rattle.std.specs.Prelude.{◌≡◌, ℕ, ◌-◌, ◌≤◌, min, length, ℤ, pos}
use Rattle.std.proofs.Common.{subst, arith, take_all}
use Rattle.lists.specs.declared.list.List.{List}
use Rattle.lists.specs.Lists.{items, lender, memory, Appended}
use Rattle.terms.specs.Limits.{booking_limit, net_limit, security_count}
use Rattle.terms.specs.declared.layer.Layer.TheVariants as layers
use Rattle.books.specs.Books.{Account, Meaning, Within, account_of}
use Rattle.books.specs.Totals.{total}
use Rattle.books.specs.declared.booking.Booking.{Booking}
use Rattle.books.specs.declared.journal.Journal.{Journal}

-- the net of each security
abbrev pub journal_nets : Journal → ℕ → ℤ
journal_nets j = total (items j.list)

-- how many of the places that a journal uses are free, of so many, where `used` are filled
abbrev pub free : (places used : ℕ) → ℕ
free places used = min booking_limit places - used

-- how many bookings are left
abbrev pub journal_left : Journal → ℕ
journal_left j = free (length (memory j.list)) (length (items j.list))

abbrev pub journal_account : Journal → Account
journal_account j = account_of (journal_nets j) (journal_left j)

-- What an accepted booking does to the list that holds the bookings, and to its memory: the booking stands in the first
-- free place, and no other place changes.
pub record Listed (booking : Booking) (before after : List Booking) : Type 0 where
  pub lender : lender after ≡ lender before
  pub appended : Appended booking before after

-- what a journal means
abbrev pub journal_meaning : Meaning Journal
journal_meaning = record { account = journal_account; posts = λ j b k. Listed b j.list k.list; layer = layers.Book }

-- each net keeps to its limit
pub journal_limited : (j : Journal) (s : ℕ) → Within net_limit (journal_nets j s)
journal_limited j s =
    let n = length (items j.list) in
    subst (λ bs. Within net_limit (total bs s)) (take_all n (items j.list) (omega arith)) (j.limited n s)

-- there are no securities past the last
pub journal_absent : (j : Journal) (s : ℕ) → security_count ≤ s → journal_nets j s ≡ pos 0
journal_absent j s h = j.known s h
