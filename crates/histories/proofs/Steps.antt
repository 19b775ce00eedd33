-- One step more of a history. Assumes nothing.
use Rattle.std.proofs.Common.{◌≡◌, ℕ, Bool, true, false, cond, List, [], ◌∷◌, ◌++◌, sym, refl, ap, ◌∙◌, subst, append_assoc}
use Rattle.terms.specs.Limits.{trial_limit}
use Rattle.books.specs.Books.{Account, Meaning, no_holdings, nothing}
use Rattle.books.specs.declared.booking.Booking.{Booking}
use Rattle.trials.specs.Trials.{Taken}
use Rattle.trials.proofs.Posting.{taken_append}
use Rattle.tops.specs.Tallies.{Rules}
use Rattle.tops.specs.Tallies as tops
use Rattle.rules.specs.Rows.{Rows}
use Rattle.surcharges.specs.declared.setting.Setting.{Setting}
use Rattle.histories.specs.declared.step.Step.{Step}
use Rattle.histories.specs.declared.step.Entry.{Entry}
use Rattle.histories.specs.Histories.{Tally, Blank, at_first, Fits, noted, noted_in, History, posted_by, posted_in}
use Rattle.histories.specs.Memories.{Memory, entered_into, written_by}

none_behind : (bs : List Booking) → bs ++ [] ≡ bs
none_behind [] = refl
none_behind (b ∷ bs) = ap (λ l. b ∷ l) (none_behind bs)

module _ {O P : Type 0} (rules : Rules O) (means : P → Setting) (below : Rows) (places room : ℕ) where
  abbrev After : Tally → List (Step O P) → List Entry → Tally
  After = noted_in rules means

  abbrev Right : Tally → List (Step O P) → List Entry → Type 0
  Right = History rules means below places room

  -- the tally by one step more
  noted_push : (t : Tally) (ss : List (Step O P)) (es : List Entry) (s : Step O P) (e : Entry) → Right t ss es → After t (ss ++ s ∷ []) (es ++ e ∷ []) ≡ noted rules means (After t ss es) s e
  noted_push t [] [] s e h = refl
  noted_push t [] (x ∷ es) s e h = absurd h
  noted_push t (x ∷ ss) [] s e h = absurd h
  noted_push t (x ∷ ss) (y ∷ es) s e h = noted_push (noted rules means t x y) ss es s e h.1

  history_push : (t : Tally) (ss : List (Step O P)) (es : List Entry) (s : Step O P) (e : Entry) → Right t ss es → Fits rules means below places room (After t ss es) s e → Right t (ss ++ s ∷ []) (es ++ e ∷ [])
  history_push t [] [] s e h fits = (fits, tt)
  history_push t [] (x ∷ es) s e h fits = absurd h
  history_push t (x ∷ ss) [] s e h fits = absurd h
  history_push t (x ∷ ss) (y ∷ es) s e h fits = (h.0, history_push (noted rules means t x y) ss es s e h.1 fits)

  -- what it posts comes behind what the steps before it post
  posted_push : (t : Tally) (ss : List (Step O P)) (es : List Entry) (s : Step O P) (e : Entry) → Right t ss es → posted_in rules means t (ss ++ s ∷ []) (es ++ e ∷ []) ≡ posted_in rules means t ss es ++ posted_by rules means (After t ss es) s e
  posted_push t [] [] s e h = none_behind (posted_by rules means t s e)
  posted_push t [] (x ∷ es) s e h = absurd h
  posted_push t (x ∷ ss) [] s e h = absurd h
  posted_push t (x ∷ ss) (y ∷ es) s e h =
      ap (λ l. posted_by rules means t x y ++ l) (posted_push (noted rules means t x y) ss es s e h.1)
      ∙ sym (append_assoc (posted_by rules means t x y) (posted_in rules means (noted rules means t x y) ss es) (posted_by rules means (After (noted rules means t x y) ss es) s e))

  module _ (t now : Tally) (ss ss' : List (Step O P)) (es es' : List Entry) (s : Step O P) (e : Entry) (p : ss' ≡ ss ++ s ∷ []) (q : es' ≡ es ++ e ∷ []) (n : now ≡ After t ss es) (h : Right t ss es) where
    pub noted_next : (after : Tally) → after ≡ noted rules means now s e → after ≡ After t ss' es'
    noted_next after m = m ∙ ap (λ u. noted rules means u s e) n ∙ sym (noted_push t ss es s e h) ∙ sym (λ i. After t (p i) (q i))

    pub history_next : Fits rules means below places room now s e → Right t ss' es'
    history_next fits =
        subst (λ xs. Right t xs es') (sym p)
        (subst (λ ys. Right t (ss ++ s ∷ []) ys) (sym q)
        (history_push t ss es s e h (subst (λ u. Fits rules means below places room u s e) n fits)))

    module _ {B : Type 0} (book : Meaning B) where
      pub posted_next : (start next after : B) →
          Taken book start (posted_in rules means t ss es) next →
          Taken book next (posted_by rules means now s e) after →
          Taken book start (posted_in rules means t ss' es') after
      posted_next start next after before step =
          subst (λ bs. Taken book start bs after)
          (sym ((λ i. posted_in rules means t (p i) (q i)) ∙ posted_push t ss es s e h))
          (taken_append book start (posted_in rules means t ss es) (posted_by rules means (After t ss es) s e) next after before
          (subst (λ u. Taken book next (posted_by rules means u s e) after) n step))

written_push : (es : List Entry) (e : Entry) (m : Memory) → written_by (es ++ e ∷ []) m ≡ entered_into (written_by es m) e
written_push [] e m = refl
written_push (x ∷ es) e m = written_push es e (entered_into m x)

pub written_next : (es es' : List Entry) (e : Entry) (m n o : Memory) → es' ≡ es ++ e ∷ [] → n ≡ written_by es m → o ≡ entered_into n e → o ≡ written_by es' m
written_next es es' e m n o p h f =
    f ∙ ap (λ x. entered_into x e) h ∙ sym (written_push es e m) ∙ ap (λ xs. written_by xs m) (sym p)

-- where nothing is held, two tops that were just opened have nothing in their tally
module _ (account : Account) (none : (s : ℕ) → account.holdings s ≡ nothing) where
  abbrev first : Bool → tops.Tally
  first b = cond b (record { kept = account.holdings; trial = no_holdings; left = trial_limit; left_below = account.left }) (record { kept = account.holdings; trial = no_holdings; left = account.left; left_below = 0 })

  kept_none : (b : Bool) (s : ℕ) → (first b).kept s ≡ nothing
  kept_none true s = none s
  kept_none false s = none s

  trial_none : (b : Bool) (s : ℕ) → (first b).trial s ≡ nothing
  trial_none true s = refl
  trial_none false s = refl

  pub blank : {O : Type 0} (rules : Rules O) → Blank (at_first rules account)
  blank rules = record { kept = kept_none rules.on_trial; trial = trial_none rules.on_trial; on_y = λ c. refl; on_x = λ c. refl }
