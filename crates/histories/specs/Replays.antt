-- What a replay does: from what it is handed to what it leaves. Assumes nothing.
use Rattle.std.specs.Prelude.{◌≡◌, ℕ, ◌<◌, ◌≤◌, length, drop, Ok, Err, Result}
use mathlib.Core.List as L
use Rattle.terms.specs.declared.fault.Fault.{Fault}
use Rattle.books.specs.Books.{Account, Meaning, nothing}
use Rattle.lists.specs.declared.list.List.{List}
use Rattle.lists.specs.Lists.{items, lender, memory, no_such_place}
use Rattle.rules.specs.Rows.{Rows}
use Rattle.surcharges.specs.declared.setting.Setting.{Setting}
use Rattle.surcharges.specs.Surcharges.{with_additions}
use Rattle.trials.specs.Trials.{Taken}
use Rattle.tops.specs.Tallies.{Rules, tally_account}
use Rattle.histories.specs.declared.step.Step.{Step}
use Rattle.histories.specs.declared.step.Entry.{Entry}
use Rattle.histories.specs.declared.replay.Unopened.{Unopened}
use Rattle.histories.specs.Histories.{Tally, Blank, History, at_first, noted_in, posted_in}
use Rattle.histories.specs.Memories.{Memory, written_by}

-- What decides a replay: the rules of the top of the book, what the calls of the top of the sheet mean, the rows of the
-- sheet below, and what the book below means.
pub record Basis (O P B : Type 0) : Type 1 where
  pub rules : Rules O
  pub means : P → Setting
  pub rows : Rows
  pub below : Meaning B

-- what it is handed, and what it leaves: the book below, the memory of deposits, and the log
pub record State (B : Type 0) : Type 0 where
  pub book : B
  pub memory : Memory
  pub log : List Entry

-- what two tops show of themselves
pub record Tops : Type 0 where
  pub tally : Tally
  pub account : Account
  pub rows : Rows

module _ {O P B : Type 0} (basis : Basis O P B) (before : State B) (script : L.List (Step O P)) where
  -- the tally before the first step
  abbrev pub first : Tally
  first = at_first basis.rules (basis.below.account before.book)

  -- and after the last entry of a log
  abbrev pub last : List Entry → Tally
  last log = noted_in basis.rules basis.means first script (items log)

  -- The law: what a replay of the script does.
  pub record Replayed (after : State B) : Type 0 where
    -- the log has a place for each entry, and nothing is written past the entries
    pub room : length script ≤ length (memory before.log)
    pub past : drop (length script) (memory after.log) ≡ drop (length script) (memory before.log)
    pub lender : lender after.log ≡ lender before.log
    -- it has one entry a step, each right by the tally of those before it
    pub history : History basis.rules basis.means basis.rows (length before.memory.classes) (length before.memory.matches) first script (items after.log)
    -- over a book in which nothing is held the tally begins blank
    pub blank : ((s : ℕ) → (basis.below.account before.book).holdings s ≡ nothing) → Blank first
    -- the book below took what the entries post, in their order, none of it refused, and nothing else
    pub posted : Taken basis.below before.book (posted_in basis.rules basis.means first script (items after.log)) after.book
    -- memory has what the last deposit told, and is otherwise as it was
    pub written : after.memory ≡ written_by (items after.log) before.memory

  -- A replay that did not begin: the log has too few places, and all is as it was.
  pub record Refused (told : Fault) (after : State B) : Type 0 where
    pub room : length (memory before.log) < length script
    pub fault : told ≡ no_such_place
    pub same : after ≡ before

  -- What is left where the two tops are closed.
  abbrev pub Closed : Result (Unit {0}) Fault → State B → Type 0
  Closed (Ok _) after = Replayed after
  Closed (Err f) after = Refused f after

  -- What is left where they are given back: they show the tally after the last entry.
  pub record Opened (after : State B) (tops : Tops) : Type 0 where
    pub law : Replayed after
    pub noted : tops.tally ≡ last after.log
    pub shown : tops.account ≡ tally_account (last after.log).book
    pub covered : tops.rows ≡ with_additions (last after.log).additions basis.rows

  -- What is left where book and sheet are.
  pub record HandedBack {S : Type 0} (sheet : S) (given : Unopened B S) (memory_after : Memory) (log_after : List Entry) : Type 0 where
    pub refused : Refused given.fault (record { book = given.book; memory = memory_after; log = log_after })
    pub sheet_back : given.sheet ≡ sheet
