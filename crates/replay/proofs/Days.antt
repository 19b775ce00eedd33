-- A day is what its orders, their script and the replay of it come to. Assumes nothing.
use Rattle.std.proofs.Common.{◌≡◌, ℕ, ◌<◌, ◌≤◌, suc, min, List, [], ◌∷◌, length, take, Option, Some, Result, Ok, Err, OnOk, refl, sym, ap, ◌∙◌, subst, arith}
use Rattle.std.proofs.lemmas.List.{length-map, length-take, take_min}
use Rattle.terms.specs.declared.fault.Fault.{Fault}
use Rattle.rules.specs.Rows.{Rows}
use Rattle.lists.specs.Lists.{items, lender, memory}
use Rattle.surcharges.specs.declared.setting.Setting.{Setting}
use Rattle.tops.specs.Tallies.{Rules}
use Rattle.trials.specs.Trials.{Taken}
use Rattle.histories.specs.declared.step.Step.{Step}
use Rattle.histories.specs.declared.step.Entry.{Entry}
use Rattle.histories.specs.Histories.{History, Tally, at_first, noted, posted_in}
use Rattle.histories.specs.Replays.{Basis, Closed, State}
use Rattle.replay.specs.declared.order.Order.{Order}
use Rattle.replay.specs.declared.answer.Answers.{Answers}
use Rattle.replay.specs.declared.answer.Unmade.{Unmade}
use Rattle.replay.specs.declared.desks.Places.{Places}
use Rattle.replay.specs.Scripts.{Beside, step_of}
use Rattle.replay.specs.Days.{Answered, DayOf, TooFew, answers_in, entries_of, entry_places}

-- the first n places of a list's memory are its records, if there are n of them
filled : {X : Type 0} (n len : ℕ) (places : List X) → n ≡ length (take len places) → take n places ≡ take len places
filled n len places e = ap (λ k. take k places) (e ∙ length-take len places) ∙ take_min len places

fewer : {X : Type 0} (n len : ℕ) (places : List X) → n ≡ length (take len places) → n ≤ length places
fewer n len places e = let short : n ≡ min len (length places) = e ∙ length-take len places in omega arith

-- a history has one entry a step
one_each : {O P : Type 0} (rules : Rules O) (means : P → Setting) (below : Rows) (places room : ℕ) (t : Tally) (script : List (Step O P)) (entries : List Entry) → History rules means below places room t script entries → length script ≡ length entries
one_each rules means below places room t [] [] h = refl
one_each rules means below places room t [] (e ∷ es) h = absurd h
one_each rules means below places room t (s ∷ ss) [] h = absurd h
one_each rules means below places room t (s ∷ ss) (e ∷ es) h = ap suc (one_each rules means below places room (noted rules means t s e) ss es h.1)

module _ {O P : Type 0} (f : Order → Option O) (g : Order → Option P) where
  -- and a script one step an order
  beside_each : (orders : List Order) (script : List (Step O P)) → Beside f g orders script → length orders ≡ length script
  beside_each orders script b = sym (length-map orders (step_of f g)) ∙ sym (ap length b) ∙ length-map script (λ step. Some step)

  module _ {B : Type 0} (basis : Basis O P B) (before : State B) (orders : List Order) (script : List (Step O P)) (after : State B) where
    -- an accepted replay notes one entry an order
    noted_each : Closed basis before script (Ok tt) after → Beside f g orders script → length orders ≡ length (items after.log)
    noted_each law b = beside_each orders script b ∙ one_each basis.rules basis.means basis.rows _ _ _ script (items after.log) law.history

    -- the log lies in the memory that it lay in before
    pub still_lent : (made : Result (Unit {0}) Fault) → Closed basis before script made after → lender after.log ≡ lender before.log
    still_lent (Ok u) law = law.lender
    still_lent (Err fault) law = ap (λ state. lender state.log) law.same

    pub closed_each : (made : Result (Unit {0}) Fault) (places : List Entry) → Closed basis before script made after → Beside f g orders script → places ≡ memory after.log → OnOk made (length orders ≤ length places)
    closed_each (Ok u) places law b same = subst (λ (es : List Entry). length orders ≤ length es) (sym same) (fewer (length orders) after.log.len (memory after.log) (noted_each law b))
    closed_each (Err fault) places law b same = tt

    -- a script that is replayed, with each order beside the entry at its place, is a day
    pub day_of : (places : Places) (made : Result (Unit {0}) Fault) (logged : List Entry) (outcome : Result Answers Unmade)
        → Closed basis before script made after → length before.memory.classes ≡ places.classes → length before.memory.matches ≡ places.matches → length (memory before.log) ≡ entry_places places orders
        → Beside f g orders script → logged ≡ memory after.log → Answered orders (take (length orders) logged) made outcome
        → DayOf f g basis places before.book orders outcome after.book
    day_of places (Ok u) logged (Ok answers) law classes matches log b same a =
        let of_log : entries_of (answers_in answers) ≡ items after.log =
        a.1 ∙ ap (λ (es : List Entry). take (length orders) es) same ∙ filled (length orders) after.log.len (memory after.log) (noted_each law b) in
        let tally : Tally = at_first basis.rules (basis.below.account before.book) in
        record {
          answered = a.0;
          script = script;
          beside = b;
          history =
              subst (λ (es : List Entry). History basis.rules basis.means basis.rows places.classes places.matches tally script es) (sym of_log)
              (subst (λ (n : ℕ). History basis.rules basis.means basis.rows places.classes n tally script (items after.log)) matches
              (subst (λ (n : ℕ). History basis.rules basis.means basis.rows n (length before.memory.matches) tally script (items after.log)) classes law.history));
          posted = subst (λ (es : List Entry). Taken basis.below before.book (posted_in basis.rules basis.means tally script es) after.book) (sym of_log) law.posted;
        }
    day_of places (Ok u) logged (Err unmade) law classes matches log b same a = absurd a
    day_of places (Err fault) logged (Ok answers) law classes matches log b same a = absurd a
    day_of places (Err fault) logged (Err unmade) law classes matches log b same a =
        let none : TooFew f g basis places before.book orders fault after.book = record {
          fault = law.fault;
          room = subst (λ (n : ℕ). n < length orders) log (subst (λ (n : ℕ). length (memory before.log) < n) (sym (beside_each orders script b)) law.room);
          same = ap (λ state. state.book) law.same;
        } in
        subst (λ (u : Unmade). DayOf f g basis places before.book orders (Err u) after.book) (sym a) none
