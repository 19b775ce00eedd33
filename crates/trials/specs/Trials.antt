-- What a trial layer means: what is held below, and what it holds itself, which is that and what is on trial. Assumes nothing.
use Rattle.std.specs.Prelude.{◌≡◌, ℕ, zero, suc, ◌+◌, Bool, true, false, cond, not, List, [], ◌∷◌, ◌++◌, ℤ, is_ok, None, Ok, nat_le}
use Rattle.books.specs.Books.{Account, Answer, Books, Holding, Meaning, booking_of, is_nothing, minus}
use Rattle.books.specs.Ledgers.{ledger_account, ledger_nets}
use Rattle.books.specs.declared.booking.Booking.{Booking}
use Rattle.terms.specs.Limits.{security_count, trial_limit}
use Rattle.terms.specs.Questions.{ask}
use Rattle.terms.specs.Refusals.{answer_at}
use Rattle.terms.specs.declared.layer.Layer.TheVariants as layers
use Rattle.terms.specs.declared.refusal.Refusal.TheVariants.{TooFewBookingsBelow}
use Rattle.trials.specs.declared.trial.Trial.{Trial}

-- the layer's own nets
abbrev pub trial_nets : {B : Type 0} → Trial B → ℕ → ℤ
trial_nets t = ledger_nets t.above

-- what the layer holds of each security, and how many bookings it has left
abbrev pub trial_account : {B : Type 0} → Trial B → Account
trial_account t = ledger_account t.above

-- what a trial layer means: a booking on it leaves the book below as it is
abbrev pub trial_meaning : {B : Type 0} → Meaning (Trial B)
trial_meaning = record { account = trial_account; posts = λ before booking after. after.below ≡ before.below; layer = layers.Trial }

-- what is on trial of each security, by what is held at the layer and below it
abbrev pub on_trial : Account → Account → ℕ → Holding
on_trial above below s = minus (above.holdings s) (below.holdings s)

-- whether anything is on trial of a security
abbrev pub moves : (ℕ → Holding) → ℕ → Bool
moves trial s = not (is_nothing (trial s))

-- how many of the first n securities pass the test
unfoldable pub count : (ℕ → Bool) → ℕ → ℕ
count test zero = 0
count test (suc n) = count test n + cond (test n) 1 0

-- of how many securities something is on trial
abbrev pub nonzero : (ℕ → Holding) → ℕ
nonzero trial = count (moves trial) security_count

-- the question put to a commit
abbrev pub commit_answer : (ℕ → Holding) → ℕ → Answer
commit_answer trial left_below = answer_at 0 tt (ask (nat_le (nonzero trial) left_below) TooFewBookingsBelow None)

-- the booking of what is on trial of a security, if anything is
abbrev pub posting : (ℕ → Holding) → ℕ → List Booking
posting trial s = cond (moves trial s) (booking_of s (trial s) ∷ []) []

-- those of the first n securities, by rising security
unfoldable pub postings : (ℕ → Holding) → ℕ → List Booking
postings trial zero = []
postings trial (suc n) = postings trial n ++ posting trial n

module _ {B : Type 0} (book : Meaning B) where
  -- a book takes these bookings, one after another, none refused
  abbrev pub Taken : B → List Booking → B → Type 0
  Taken before [] after = after ≡ before
  Taken before (b ∷ bs) after = (next : B) × (Books book before b (Ok tt) next × Taken next bs after)

  -- what is on trial at a layer above a book
  abbrev pub laid : Trial B → ℕ → Holding
  laid t = on_trial (trial_account t) (book.account t.below)

  -- What a commit does, above a book with this meaning.
  pub record Commits (before : Trial B) (result : Answer) (after : Trial B) : Type 0 where
    pub decided : result ≡ commit_answer (laid before) (book.account before.below).left
    -- a refusal changes nothing
    pub refused : is_ok result ≡ false → after ≡ before
    -- what the layer holds does not change, and what is held below comes to it, so that nothing is on trial
    pub still : is_ok result ≡ true → (trial_account after).holdings ≡ (trial_account before).holdings
    pub posted : is_ok result ≡ true → (book.account after.below).holdings ≡ (trial_account before).holdings
    -- one booking below is used for each security of which something is on trial
    pub spent : is_ok result ≡ true → (book.account after.below).left + nonzero (laid before) ≡ (book.account before.below).left
    -- they are posted by rising security, and nothing else happens below
    pub taken : is_ok result ≡ true → Taken before.below (postings (laid before) security_count) after.below
    -- and the layer has all its bookings again
    pub renewed : is_ok result ≡ true → (trial_account after).left ≡ trial_limit
