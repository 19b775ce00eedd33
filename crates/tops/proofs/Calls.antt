-- What the calls of a top do to its tally is what the rules say.
use Rattle.std.proofs.Common.{◌≡◌, ℕ, ◌-◌, Bool, true, false, cond, eqb, ℤ, ◌+ℤ◌, ◌-ℤ◌, is_ok, Ok, Err, sym, refl, ap, ◌∙◌, subst, ⊎_elim, arith}
use Rattle.std.proofs.lemmas.Int.{ints}
use Rattle.std.proofs.lemmas.Bool.{cases_Bool}
use Rattle.terms.specs.declared.layer.Layer.TheVariants as layers
use Rattle.books.specs.declared.booking.Booking.{Booking}
use Rattle.books.proofs.Bookings.{booking_answered}
use Rattle.books.specs.Books.{Account, Answer, Books, Holding, Meaning, added, booked, booking_answer, minus, no_holdings, plus, with_booking}
use Rattle.books.proofs.Accounts.{minus_same, same_holding}
use Rattle.trials.specs.declared.trial.Trial.{Trial}
use Rattle.trials.specs.Trials.{Commits, Taken, laid, nonzero, on_trial, trial_account, trial_meaning}
use Rattle.tops.specs.declared.call.Call.{Call}
use Rattle.tops.specs.declared.call.Call.TheVariants.{Book, Own}
use Rattle.tops.specs.declared.call.TrialCall.{TrialCall}
use Rattle.tops.specs.declared.call.TrialCall.TheVariants.{Commit}
use Rattle.tops.specs.Tallies.{Tally, bare_rules, bare_tally, decide, fed, posted, trial_rules, trial_tally}
use Rattle.tops.specs.Shown.{bare_shown, trial_shown}

same_tally : {a b c d : ℕ → Holding} {k l m n : ℕ} → a ≡ b → c ≡ d → k ≡ l → m ≡ n → ◌≡◌ {A = Tally} (record { kept = a; trial = c; left = k; left_below = m }) (record { kept = b; trial = d; left = l; left_below = n })
same_tally p q r s = λ i. record { kept = p i; trial = q i; left = r i; left_below = s i }

-- a booking above moves what is on trial of one security
moved_apart : (a q c : ℤ) → (a +ℤ q) -ℤ c ≡ (a -ℤ c) +ℤ q
moved_apart a q c = omega (arith, ints)

either_way : (t : Bool) (a q c : Holding) → minus (cond t (plus a q) a) c ≡ cond t (plus (minus a c) q) (minus a c)
either_way true a q c = same_holding _ _ (moved_apart a.net q.net c.net)
either_way false a q c = refl

booked_trial : (above below : Account) (b : Booking) → on_trial (booked above b) below ≡ with_booking (on_trial above below) b
booked_trial above below b = λ i s. either_way (eqb s b.security) (above.holdings s) (added b) (below.holdings s) i

-- nothing is on trial where the layer holds what is held below
none_left : (above below : ℕ → Holding) (l k : ℕ) → above ≡ below → on_trial (record { holdings = above; left = l }) (record { holdings = below; left = k }) ≡ no_holdings
none_left above below l k same = (λ i s. minus (same i s) (below s)) ∙ (λ i s. minus_same (below s) i)

module _ {B : Type 0} (book : Meaning B) where
  -- a booking on a bare book
  pub bare_booking : (before after : B) (b : Booking) (r : Answer) → Books book before b r after
      → (r ≡ decide (bare_rules book.layer) (bare_tally (book.account before)) (Book b))
      × (bare_tally (book.account after) ≡ fed (bare_rules book.layer) (bare_tally (book.account before)) (Book b) (is_ok r))
      × Taken book before (posted (bare_rules book.layer) (bare_tally (book.account before)) (Book b) (is_ok r)) after
  bare_booking before after b (Ok _) h = (
    booking_answered book before b (Ok _) after h ∙ ap (λ a. booking_answer book.layer a b) (bare_shown (book.account before)),
    ap bare_tally (h.step.moved refl),
    (after, (h, refl)),
  )
  bare_booking before after b (Err f) h = (
    booking_answered book before b (Err f) after h ∙ ap (λ a. booking_answer book.layer a b) (bare_shown (book.account before)),
    ap (λ x. bare_tally (book.account x)) (h.step.refused refl),
    h.step.refused refl,
  )

  abbrev tallied : Trial B → Tally
  tallied t = trial_tally (trial_account t) (book.account t.below)

  -- a booking at the layer is judged, and taken, by the tally
  module _ (before after : Trial B) (b : Booking) (call : Call TrialCall) (r : Answer) (is : call ≡ Book b) (h : Books trial_meaning before b r after) where
    pub booking_decided : r ≡ decide trial_rules (tallied before) call
    booking_decided =
        booking_answered trial_meaning before b r after h ∙ ap (λ a. booking_answer layers.Trial a b) (trial_shown (trial_account before) (book.account before.below))
        ∙ ap (decide trial_rules (tallied before)) (sym is)

    pub booking_noted : tallied after ≡ fed trial_rules (tallied before) call (is_ok r)
    booking_noted =
        ⊎_elim
        (λ ok.
        let same = ap book.account (h.posted ok) in
        let trial = (λ i. on_trial (h.step.moved ok i) (same i)) ∙ booked_trial (trial_account before) (book.account before.below) b in
        same_tally (ap (λ a. a.holdings) same) trial (ap (λ a. a.left) (h.step.moved ok)) (ap (λ a. a.left) same) ∙ (λ i. fed trial_rules (tallied before) (sym is i) (sym ok i)))
        (λ err. ap tallied (h.step.refused err) ∙ (λ i. fed trial_rules (tallied before) (sym is i) (sym err i)))
        (cases_Bool (is_ok r))

  -- and so is a commit; it posts what is on trial
  module _ (before after : Trial B) (call : Call TrialCall) (r : Answer) (is : call ≡ Own Commit) (h : Commits book before r after) where
    pub commit_noted : tallied after ≡ fed trial_rules (tallied before) call (is_ok r)
    commit_noted =
        ⊎_elim
        (λ ok.
        let kept = h.posted ok ∙ ap (λ a. a.holdings) (trial_shown (trial_account before) (book.account before.below)) in
        let trial = none_left (trial_account after).holdings (book.account after.below).holdings (trial_account after).left (book.account after.below).left (h.still ok ∙ sym (h.posted ok)) in
        let spent : (book.account after.below).left ≡ (book.account before.below).left - nonzero (laid book before) = omega (arith, h.spent ok) in
        same_tally kept trial (h.renewed ok) spent ∙ (λ i. fed trial_rules (tallied before) (sym is i) (sym ok i)))
        (λ err. ap tallied (h.refused err) ∙ (λ i. fed trial_rules (tallied before) (sym is i) (sym err i)))
        (cases_Bool (is_ok r))

    pub commit_posted : Taken book before.below (posted trial_rules (tallied before) call (is_ok r)) after.below
    commit_posted =
        ⊎_elim
        (λ ok. subst (λ bs. Taken book before.below bs after.below) (λ i. posted trial_rules (tallied before) (sym is i) (sym ok i)) (h.taken ok))
        (λ err. subst (λ bs. Taken book before.below bs after.below) (λ i. posted trial_rules (tallied before) (sym is i) (sym err i)) (ap (λ t. t.below) (h.refused err)))
        (cases_Bool (is_ok r))
