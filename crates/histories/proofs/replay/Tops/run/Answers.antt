use Rattle.std.proofs.Common.{◌≡◌, ℕ, ◌+◌, ◌<◌, [], ◌∷◌, ◌++◌, length, take, drop, Ok, Err, Result, sym, ap, ◌∙◌, subst, arith, length-set, take_all, drop-set-lt, rules}
use Rattle.std.proofs.lemmas.List.{take_more, length_push}
use Rattle.terms.specs.declared.fault.Fault.{Fault}
use Rattle.lists.specs.declared.list.List.{List}
use Rattle.lists.specs.Lists.{items, memory, Appended, Appends}
use Rattle.rules.specs.Rows.{Rows}
use Rattle.trials.specs.Trials.{Taken}
use Rattle.histories.specs.Histories.{Tally, tally, Fits, History, noted_in, posted_in}
use Rattle.histories.specs.Memories.{memory_of}
use Rattle.histories.proofs.Steps.{history_next, noted_next, posted_next, written_next}
use Rattle.histories.proofs.replay.Tops.run.Given as given
use Rattle.histories.proofs.replay.Tops.run.Goals as goal
use Rattle.histories.proofs.replay.Tops.run.Goals.{After-append}

-- where a place is free, an append is no refusal
appended : {X : Type 0} (x : X) (s t : List X) (r : Result (Unit {0}) Fault) → length (items s) < length (memory s) → Appends x s t r → Appended x s t
appended x s t (Ok _) l a = a
appended x s t (Err e) l a = absurd (omega (arith, a.0))

-- the log has a place for the entry
free : (g : given.Over) (c : After-append g) → length (items c.loop-step.log) < length (memory c.loop-step.log)
free g c =
    let inv = c.loop-step.invariant in
    omega (arith, inv.count, inv.room, c.requires.room, c.loop-step-test.true)

pub unwrap-requires : goal.unwrap-requires
unwrap-requires g c =
    let room = free g (goal.at.unwrap-requires g c).After-append in
    search rules

pub loop-step-preserved : goal.loop-step-preserved
loop-step-preserved g c =
    let rules = g.T.Top.rules in
    let means = g.U.Cover.means in
    let below = g.U.Cover.under c.args.self.now.cover in
    let places = length c.args.classes.now in
    let room = length c.args.matches.now in
    let start : Tally = tally (g.T.Top.tally c.args.self.now.top) (g.U.Cover.additions c.args.self.now.cover) in
    let before : Tally = tally (g.T.Top.tally c.loop-step.self.top) (g.U.Cover.additions c.loop-step.self.cover) in
    let after : Tally = tally (g.T.Top.tally c.take_step-entry.new.self.top) (g.U.Cover.additions c.take_step-entry.new.self.cover) in
    let script = c.args.script.now in
    let i = c.loop-step.step-index in
    let step = c.step-item.result in
    let entry = c.take_step-entry.result in
    let log = c.loop-step.log in
    let inv = c.loop-step.invariant in
    let took = c.take_step-entry.ensures in
    let l : i < length script = c.loop-step-test.true in
    let spare = free g (goal.at.loop-step-preserved g c).After-append in
    let added : Appended entry log c.append.new.self = appended _ _ _ _ spare c.append.ensures.cases in
    let at : length (items log) < length script = omega (arith, inv.count, l) in
    let same_classes : length c.loop-step.classes ≡ places = omega (arith, c.loop-step.auto.classes) in
    let same_matches : length c.loop-step.matches ≡ room = omega (arith, c.loop-step.auto.matches) in
    let done = take i script in
    let entries = items log in
    let pushed : take (i + 1) script ≡ take i script ++ (step ∷ []) = take_more script i step l ∙ ap (λ x. take i script ++ (x ∷ [])) (sym c.step-item.is) in
    let fits : Fits rules means below places room before step entry =
    (let P : (n m : ℕ) → Rows → Type 0 = λ n m rows. Fits rules means rows n m before step entry in
    subst (λ (rows : Rows). P places room rows) inv.under
    (subst (λ (n : ℕ). P n room (g.U.Cover.under c.loop-step.self.cover)) same_classes
    (subst (λ (n : ℕ). P (length c.loop-step.classes) n (g.U.Cover.under c.loop-step.self.cover)) same_matches took.fits))) in
    record {
      log = c.append.ensures.lender ∙ inv.log;
      count = ap length added.items ∙ length_push (items log) entry ∙ ap (λ n. n + 1) inv.count;
      room = ap length added.memory ∙ length-set (memory log) (length (items log)) entry ∙ inv.room;
      past = ap (drop (length script)) added.memory ∙ drop-set-lt (length script) (memory log) (length (items log)) entry at ∙ inv.past;
      under = took.under ∙ inv.under;
      written = written_next (items log) (items c.append.new.self) entry (memory_of c.args.classes.now c.args.matches.now)
          (memory_of c.loop-step.classes c.loop-step.matches) (memory_of c.take_step-entry.new.classes c.take_step-entry.new.matches)
          added.items inv.written took.written;
      history = history_next rules means below places room start before done (take (i + 1) script) entries (items c.append.new.self) step entry
          pushed added.items inv.noted inv.history fits;
      noted = noted_next rules means below places room start before done (take (i + 1) script) entries (items c.append.new.self) step entry
          pushed added.items inv.noted inv.history after took.noted;
      posted = posted_next rules means below places room start before done (take (i + 1) script) entries (items c.append.new.self) step entry
          pushed added.items inv.noted inv.history g.T.Below.Book.meaning
          (g.T.Top.beneath c.args.self.now.top) (g.T.Top.beneath c.loop-step.self.top) (g.T.Top.beneath c.take_step-entry.new.self.top)
          inv.posted took.posted;
    }

pub returns : goal.returns
returns g c =
    let start : Tally = tally (g.T.Top.tally c.args.self.now.top) (g.U.Cover.additions c.args.self.now.cover) in
    let end : Tally = tally (g.T.Top.tally c.loop-step.self.top) (g.U.Cover.additions c.loop-step.self.cover) in
    let rules = g.T.Top.rules in
    let means = g.U.Cover.means in
    let entries = items c.loop-step.log in
    let inv = c.loop-step.invariant in
    let whole = take_all _ _ c.loop-step-test.false in
    record {
      log = inv.log;
      history = subst (λ ss. History rules means (g.U.Cover.under c.args.self.now.cover) (length c.args.classes.now) (length c.args.matches.now) start ss entries) whole inv.history;
      noted = subst (λ ss. end ≡ noted_in rules means start ss entries) whole inv.noted;
      posted = subst (λ ss. Taken g.T.Below.Book.meaning (g.T.Top.beneath c.args.self.now.top) (posted_in rules means start ss entries) (g.T.Top.beneath c.loop-step.self.top)) whole inv.posted;
      under = inv.under;
      written = inv.written;
      past = inv.past;
    }
