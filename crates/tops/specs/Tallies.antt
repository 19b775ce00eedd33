-- The tally that judges a run of calls: it is fed each call's arguments and whether the call was refused. Assumes nothing.
use Rattle.std.specs.Prelude.{ℕ, ◌-◌, Bool, true, false, cond, List, [], ◌∷◌, ℤ, Ok}
use Rattle.terms.specs.Limits.{security_count, trial_limit}
use Rattle.terms.specs.declared.layer.Layer.{Layer}
use Rattle.terms.specs.declared.layer.Layer.TheVariants as layers
use Rattle.tops.specs.declared.call.Call.{Call}
use Rattle.tops.specs.declared.call.Call.TheVariants.{Book, Own}
use Rattle.std.specs.declared.convert.Infallible.{Infallible}
use Rattle.tops.specs.declared.call.TrialCall.{TrialCall}
use Rattle.tops.specs.declared.call.TrialCall.TheVariants.{Commit, Drop}
use Rattle.books.specs.declared.booking.Booking.{Booking}
use Rattle.books.specs.Books.{Account, Answer, Holding, booking_answer, nets_of, no_holdings, plus, with_booking}
use Rattle.trials.specs.Trials.{nonzero, commit_answer, on_trial, postings}

-- per security what was kept and what is on trial; the bookings left at the top, and in the book below it
pub record Tally : Type 0 where
  pub kept : ℕ → Holding
  pub trial : ℕ → Holding
  pub left : ℕ
  pub left_below : ℕ

-- kept and trial together are what the top holds
abbrev pub tally_account : Tally → Account
tally_account t = record { holdings = λ s. plus (t.kept s) (t.trial s); left = t.left }

abbrev pub tally_nets : Tally → ℕ → ℤ
tally_nets t = nets_of (tally_account t)

-- a booking is added to trial
abbrev pub add_trial : Tally → Booking → Tally
add_trial t b = record { kept = t.kept; trial = with_booking t.trial b; left = t.left - 1; left_below = t.left_below }

-- with no trial layer, to kept
abbrev pub add_kept : Tally → Booking → Tally
add_kept t b = record { kept = with_booking t.kept b; trial = t.trial; left = t.left - 1; left_below = t.left_below }

-- a commit is refused by its question, and a drop never
abbrev pub trial_answer : Tally → TrialCall → Answer
trial_answer t Commit = commit_answer t.trial t.left_below
trial_answer t Drop = Ok tt

-- a commit adds trial to kept; it and a drop zero trial, and give the layer all its bookings back
abbrev pub trial_fed : Tally → TrialCall → Tally
trial_fed t Commit = record { kept = (tally_account t).holdings; trial = no_holdings; left = trial_limit; left_below = t.left_below - nonzero t.trial }
trial_fed t Drop = record { kept = t.kept; trial = no_holdings; left = trial_limit; left_below = t.left_below }

-- a commit posts a booking beneath for each security of which something is on trial, by rising security, and a drop nothing
abbrev pub trial_posted : Tally → TrialCall → List Booking
trial_posted t Commit = postings t.trial security_count
trial_posted t Drop = []

-- What differs from top to top: the layer that its faults carry, whether it is a trial layer, and what its own calls
-- are. There are no other freedoms: what each call does is said once, below.
pub record Rules (O : Type 0) : Type 0 where
  pub layer : Layer
  pub on_trial : Bool
  pub means : O → TrialCall

abbrev pub trial_rules : Rules TrialCall
trial_rules = record { layer = layers.Trial; on_trial = true; means = λ o. o }

-- with no trial layer there is nothing but bookings
abbrev pub bare_rules : Layer → Rules Infallible
bare_rules layer = record { layer = layer; on_trial = false; means = λ o. elim o [ ] }

-- the tally that a bare book shows
abbrev pub bare_tally : Account → Tally
bare_tally a = record { kept = a.holdings; trial = no_holdings; left = a.left; left_below = 0 }

-- the tally that a trial layer shows, by its account and that of the book below
abbrev pub trial_tally : Account → Account → Tally
trial_tally above below = record { kept = below.holdings; trial = on_trial above below; left = above.left; left_below = below.left }

module _ {O : Type 0} (rules : Rules O) where
  -- the tally of a top that was just opened over a book with this account
  abbrev pub opened : Account → Tally
  opened a = cond rules.on_trial
      (record { kept = a.holdings; trial = no_holdings; left = trial_limit; left_below = a.left })
      (record { kept = a.holdings; trial = no_holdings; left = a.left; left_below = 0 })

  -- what the tally decides of a call
  abbrev pub decide : Tally → Call O → Answer
  decide t (Book b) = booking_answer rules.layer (tally_account t) b
  decide t (Own o) = trial_answer t (rules.means o)

  -- the tally after a call, by whether it was accepted
  abbrev pub fed : Tally → Call O → Bool → Tally
  fed t c false = t
  fed t (Book b) true = cond rules.on_trial (add_trial t b) (add_kept t b)
  fed t (Own o) true = trial_fed t (rules.means o)

  -- what a call posts to the book beneath, by whether it was accepted: with no trial layer a booking goes there itself
  abbrev pub posted : Tally → Call O → Bool → List Booking
  posted t c false = []
  posted t (Book b) true = cond rules.on_trial [] (b ∷ [])
  posted t (Own o) true = trial_posted t (rules.means o)
