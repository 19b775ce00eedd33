-- What a history leaves of a book that is lent.
use Rattle.std.proofs.Common.{◌≡◌, Ok, Err, Result, OnOk, ap}
use mathlib.Core.List as L
use Rattle.std.specs.Borrow.{MutBor}
use Rattle.terms.specs.declared.fault.Fault.{Fault}
use Rattle.lists.specs.Lists.{Extended, items}
use Rattle.books.specs.Books.{lent_meaning}
use Rattle.books.specs.Journals.{journal_meaning}
use Rattle.books.specs.declared.journal.Journal.{Journal}
use Rattle.trials.specs.Trials.{Taken}
use Rattle.trials.proofs.Lent.{taken_lent, taken_listed}
use Rattle.tops.specs.Tallies.{Rules}
use Rattle.rules.specs.Rows.{Rows}
use Rattle.surcharges.specs.declared.setting.Setting.{Setting}
use Rattle.histories.specs.declared.step.Step.{Step}
use Rattle.histories.specs.Histories.{posted_in}
use Rattle.histories.specs.Replays.{Basis, State, Closed, Replayed, first}

module _ {O P B : Type 0} (basis : Basis O P B) where
  -- the book, where it is lent
  abbrev pub lent : Basis O P (MutBor B)
  lent = record { rules = basis.rules; means = basis.means; rows = basis.rows; below = lent_meaning basis.below }

  abbrev pub of_lender : State (MutBor B) → State B
  of_lender s = record { book = s.book.now; memory = s.memory; log = s.log }

  module _ (before after : State (MutBor B)) (script : L.List (Step O P)) where
    took : Replayed lent before script after → (after.book.ghost_name ≡ before.book.ghost_name) × Taken basis.below before.book.now (posted_in basis.rules basis.means (first lent before script) script (items after.log)) after.book.now
    took h = taken_lent basis.below before.book (posted_in basis.rules basis.means (first lent before script) script (items after.log)) after.book h.posted

    -- the reference that comes back is the one that was lent
    pub same_loan : (r : Result (Unit {0}) Fault) → Closed lent before script r after → after.book.ghost_name ≡ before.book.ghost_name
    same_loan (Ok _) h = (took h).0
    same_loan (Err f) h = ap (λ (s : State (MutBor B)). s.book.ghost_name) h.same

    -- and the law holds of the lender's book
    pub lender_closed : (r : Result (Unit {0}) Fault) → Closed lent before script r after → Closed basis (of_lender before) script r (of_lender after)
    lender_closed (Ok _) h = record {
      room = h.room;
      past = h.past;
      lender = h.lender;
      history = h.history;
      blank = h.blank;
      posted = (took h).1;
      written = h.written;
    }
    lender_closed (Err f) h = record { room = h.room; fault = h.fault; same = ap of_lender h.same }

-- a journal then lists what it took
module _ {O P : Type 0} (rules : Rules O) (means : P → Setting) (rows : Rows) where
  abbrev pub journals : Basis O P Journal
  journals = record { rules = rules; means = means; rows = rows; below = journal_meaning }

  pub lender_listed : (before after : State Journal) (script : L.List (Step O P)) (r : Result (Unit {0}) Fault) → Closed journals before script r after → OnOk r (Extended (posted_in rules means (first journals before script) script (items after.log)) before.book.list after.book.list)
  lender_listed before after script (Ok _) h = taken_listed before.book (posted_in rules means (first journals before script) script (items after.log)) after.book h.posted
  lender_listed before after script (Err f) h = tt
