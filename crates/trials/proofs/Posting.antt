-- A commit's walk by rising security: the book below comes to the nets above it, and none of its bookings is refused.
use Rattle.std.proofs.Common.{◌≡◌, ℕ, suc, ◌+◌, ◌<◌, ◌≤◌, Bool, true, false, cond, not, List, [], ◌∷◌, ◌++◌, ℤ, ◌+ℤ◌, ◌-ℤ◌, Ok, sym, refl, ap, ◌∙◌, subst, ⊎_elim, add-one, arith, w64, SFits, to_z, of_z}
use Rattle.std.proofs.lemmas.Int.{ints, to_z-of_z}
use Rattle.std.proofs.lemmas.Bool.{and_from, both_ways, cases_Bool, lt-ltb}
use Rattle.terms.specs.Limits.{net_limit, quantity_limit, security_count}
use Rattle.terms.specs.Questions.{answer}
use Rattle.books.specs.Books.{Books, Holding, Meaning, Within, booking_answer, booking_of, is_nothing, is_zero, minus, with_booking}
use Rattle.books.specs.declared.booking.Booking.{Booking}
use Rattle.books.proofs.Accounts.{booked_other, booked_same, plus_minus, same_holding}
use Rattle.books.proofs.Bookings as bookings
use Rattle.books.proofs.Limits.{apart, yes_within}
use Rattle.books.proofs.Questions.{accepted}
use Rattle.books.proofs.Walks.{upto, upto_none, upto_at, upto_next, upto_all}
use Rattle.books.specs.Ledgers.{ledger_account}
use Rattle.trials.specs.declared.trial.Trial.{Trial}
use Rattle.trials.specs.Trials.{count, laid, moves, nonzero, posting, postings, trial_account, Taken}
use Rattle.trials.proofs.Counts.{count_none, count_one, count_same, count_rises, zero_is}

-- what the first holdings have above the others
abbrev over : (ℕ → Holding) → (ℕ → Holding) → ℕ → Holding
over above below s = minus (above s) (below s)

-- the bookings of a walk, by one security more
postings_none : (q : ℕ → Holding) → postings q 0 ≡ []
unfolding postings
postings_none q = refl

postings_suc : (q : ℕ → Holding) (n : ℕ) → postings q (suc n) ≡ postings q n ++ posting q n
unfolding postings
postings_suc q n = refl

pub postings_next : (q : ℕ → Holding) (n : ℕ) → postings q (n + 1) ≡ postings q n ++ posting q n
postings_next q n = ap (postings q) (add-one n) ∙ postings_suc q n

not_moved : (z : ℤ) → not (is_zero z) ≡ false → is_zero z ≡ true
not_moved z e = ⊎_elim (λ t. t) (λ f. let h : ◌≡◌ {A = Bool} true false = sym (ap not f) ∙ e in absurd (both_ways true h refl)) (cases_Bool (is_zero z))

module _ {B : Type 0} (book : Meaning B) where
  abbrev held : B → ℕ → Holding
  held b = (book.account b).holdings

  abbrev left : B → ℕ
  left b = (book.account b).left

  -- a book that takes some bookings and then others takes them all
  pub taken_append : (before : B) (bs cs : List Booking) (next after : B) → Taken book before bs next → Taken book next cs after → Taken book before (bs ++ cs) after
  taken_append before [] cs next after t u = subst (λ x. Taken book x cs after) t u
  taken_append before (b ∷ bs) cs next after t u = (t.0, (t.1.0, taken_append t.0 bs cs next after t.1.1 u))

  -- a quantity other than 0 is posted, and 0 is not
  pub posting_taken : (before after : B) (q : ℕ → Holding) (i : ℕ) → is_nothing (q i) ≡ false → Books book before (booking_of i (q i)) (Ok tt) after → Taken book before (posting q i) after
  posting_taken before after q i e books = subst (λ z. Taken book before (cond (not z) (booking_of i (q i) ∷ []) []) after) (sym e) (after, (books, refl))

  pub posting_none : (b : B) (q : ℕ → Holding) (i : ℕ) → is_nothing (q i) ≡ true → Taken book b (posting q i) b
  posting_none b q i e = subst (λ z. Taken book b (cond (not z) (booking_of i (q i) ∷ []) []) b) (sym e) refl

  -- the walk has come to security i: the book b began as `start`
  pub record Posted (above : ℕ → Holding) (start : B) (i : ℕ) (b : B) : Type 0 where
    pub so_far : (s : ℕ) → held b s ≡ upto i above (held start) s
    pub spent : left b + count (moves (over above (held start))) i ≡ left start
    pub taken : Taken book start (postings (over above (held start)) i) b

  module _ (above : ℕ → Holding) (start : B) where
    abbrev quantities : ℕ → Holding
    quantities = over above (held start)

    abbrev Went_from : B → List Booking → B → Type 0
    Went_from = Taken book

    abbrev Went : List Booking → B → Type 0
    Went = Went_from start

    pub posted_none : Posted above start 0 start
    posted_none = record {
      so_far = λ s. sym (upto_none above (held start) s);
      spent = omega (arith, count_none (moves quantities));
      taken = subst (λ bs. Went bs start) (sym (postings_none quantities)) refl;
    }

    pub posted_all : (i : ℕ) (b : B) → i ≡ security_count → ((s : ℕ) → security_count ≤ s → above s ≡ held start s) → Posted above start i b → (held b ≡ above) × (left b + nonzero quantities ≡ left start) × Went (postings quantities security_count) b
    posted_all i b e agree p = (
      λ j s. (p.so_far s ∙ upto_all above (held start) i (λ t h. agree t (omega arith)) s) j,
      ap (λ n. left b + count (moves quantities) n) (sym e) ∙ p.spent,
      subst (λ n. Went (postings quantities n) b) e p.taken,
    )

    module _ (i : ℕ) (b : B) (p : Posted above start i b) where
      -- the walk has not come to i before
      untouched : held b i ≡ held start i
      untouched = p.so_far i ∙ upto_at above (held start) i

      pub same_quantity : over above (held b) i ≡ quantities i
      same_quantity = ap (λ n. minus (above i) n) untouched

      same_test : moves (over above (held b)) i ≡ moves quantities i
      same_test = ap (λ z. not (is_nothing z)) same_quantity

      counted : moves (over above (held b)) i ≡ true → count (moves quantities) (i + 1) ≡ count (moves quantities) i + 1
      counted m = count_one (moves quantities) i (sym same_test ∙ m)

      -- there is a booking left for what is posted
      pub posted_room : i < security_count → nonzero quantities ≤ left start → moves (over above (held b)) i ≡ true → 0 < left b
      posted_room within enough m = omega (arith, p.spent, counted m, enough, count_rises (moves quantities) (i + 1) security_count (omega arith))

      -- which brings the walk one further
      pub posted_next : (after : B) → Went_from b (posting (over above (held b)) i) after → Posted above start (i + 1) after
      posted_next after t =
          let taken : Went (postings quantities (i + 1)) after =
          subst (λ bs. Went bs after) (sym (postings_next quantities i))
          (taken_append start (postings quantities i) (posting quantities i) b after p.taken
          (subst (λ z. Went_from b (cond (not (is_nothing z)) (booking_of i z ∷ []) []) after) same_quantity t)) in
          ⊎_elim
          (λ m.
          let one : Went_from b (booking_of i (over above (held b) i) ∷ []) after = subst (λ z. Went_from b (cond z (booking_of i (over above (held b) i) ∷ []) []) after) m t in
          let books : Books book b (booking_of i (over above (held b) i)) (Ok tt) after = subst (Books book b (booking_of i (over above (held b) i)) (Ok tt)) (sym one.1.1) one.1.0 in
          let bk = booking_of i (over above (held b) i) in
          let moved : (s : ℕ) → held after s ≡ with_booking (held b) bk s = λ s. ap (λ a. a.holdings s) (books.step.moved refl) in
          record {
            so_far = upto_next above (held start) i (held after) (λ s ne. moved s ∙ booked_other (held b) bk s ne ∙ p.so_far s) (moved i ∙ booked_same (held b) bk ∙ plus_minus (above i) (held b i));
            spent = omega (arith, p.spent, counted m, bookings.spent book b bk after books);
            taken = taken;
          })
          (λ r.
          let same : after ≡ b = subst (λ z. Went_from b (cond z (booking_of i (over above (held b) i) ∷ []) []) after) r t in
          let z = zero_is ((above i).net -ℤ (held b i).net) (not_moved (over above (held b) i).net r) in
          let level : held after i ≡ above i = ap (λ x. held x i) same ∙ same_holding (held b i) (above i) (omega (arith, ints)) in
          record {
            so_far = upto_next above (held start) i (held after) (λ s _. ap (λ x. held x s) same ∙ p.so_far s) level;
            spent = ap (λ x. left x + count (moves quantities) (i + 1)) same ∙ ap (λ n. left b + n) (count_same (moves quantities) i (sym same_test ∙ r)) ∙ p.spent;
            taken = taken;
          })
          (cases_Bool (moves (over above (held b)) i))

  -- the posting is accepted
  pub posting_accepted : (above : ℕ → Holding) (b : B) (i : ℕ) → i < security_count → 0 < left b → is_nothing (over above (held b) i) ≡ false → Within net_limit (above i).net → Within net_limit (held b i).net →
      booking_answer book.layer (book.account b) (booking_of i (over above (held b) i)) ≡ Ok tt
  posting_accepted above b i within room moving limited limited_below =
      let level : (held b i).net +ℤ ((above i).net -ℤ (held b i).net) ≡ (above i).net = omega (arith, ints) in
      ap (answer book.layer i tt) (accepted (book.account b) (booking_of i (over above (held b) i)) (record {
        known = lt-ltb i security_count within;
        lawful = and_from _ _ (ap not moving) (yes_within quantity_limit ((above i).net -ℤ (held b i).net) (apart (above i).net (held b i).net limited limited_below));
        free = lt-ltb 0 (left b) room;
        fits = yes_within net_limit ((held b i).net +ℤ ((above i).net -ℤ (held b i).net)) (subst (Within net_limit) (sym level) limited);
      }))

  -- a layer whose walk has come to security i: it began as `start`
  unfoldable pub Walked : Trial B → ℕ → Trial B → Type 0
  Walked start i now = (now.above ≡ start.above) × Posted (trial_account start).holdings start.below i now.below

  pub walked_none : (start : Trial B) → Walked start 0 start
  unfolding Walked
  walked_none start = (refl, posted_none (trial_account start).holdings start.below)

  module _ (start now : Trial B) (i : ℕ) (w : Walked start i now) where
    -- the walk asks of the nets that the layer began with
    began : Posted (trial_account now).holdings start.below i now.below
    unfolding Walked
    began = subst (λ a. Posted (ledger_account a).holdings start.below i now.below) (sym w.0) w.1

    pub walked_room : i < security_count → nonzero (laid book start) ≤ left start.below → moves (laid book now) i ≡ true → 0 < left now.below
    unfolding Walked
    walked_room within enough = posted_room (trial_account now).holdings start.below i now.below began within (subst (λ a. nonzero (over (ledger_account a).holdings (held start.below)) ≤ left start.below) (sym w.0) enough)

    -- and posts what the layer had at first above the book below
    pub walked_quantity : (z : ℤ) → i < security_count → SFits w64 z → z ≡ (laid book start i).net → to_z w64 (of_z w64 z) ≡ (laid book now i).net
    unfolding Walked
    walked_quantity z within fits e =
        to_z-of_z w64 z fits ∙ e ∙ ap (λ a. (over (ledger_account a).holdings (held start.below) i).net) (sym w.0)
        ∙ sym (ap (λ h. h.net) (same_quantity (trial_account now).holdings start.below i now.below began))

    pub walked_next : (after : Trial B) → after.above ≡ now.above → Taken book now.below (posting (laid book now) i) after.below → Walked start (i + 1) after
    unfolding Walked
    walked_next after same t = (same ∙ w.0, subst (λ a. Posted (ledger_account a).holdings start.below (i + 1) after.below) w.0 (posted_next (trial_account now).holdings start.below i now.below began after.below t))

  -- the walk is over
  pub walked_all : (start now : Trial B) (i : ℕ) → i ≡ security_count → ((s : ℕ) → security_count ≤ s → (trial_account start).holdings s ≡ held start.below s) → Walked start i now
      → (now.above ≡ start.above) × (held now.below ≡ (trial_account start).holdings) × (left now.below + nonzero (laid book start) ≡ left start.below)
      × Taken book start.below (postings (laid book start) security_count) now.below
  unfolding Walked
  walked_all start now i e agree w = let all = posted_all (trial_account start).holdings start.below i now.below e agree w.1 in (w.0, all.0, all.1, all.2)
