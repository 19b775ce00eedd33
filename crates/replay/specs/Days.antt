-- The day of a desk: each order beside what it gave, and the law over all of them. Assumes nothing.
use Rattle.std.specs.Prelude.{◌≡◌, ℕ, ◌<◌, List, map, length, Some, Option, Result, Ok, Err}
use Rattle.std.specs.List.{zip}
use Rattle.std.specs.Option.{unwrap_or}
use Rattle.terms.specs.declared.fault.Fault.{Fault}
use Rattle.lists.specs.Lists.{no_such_place}
use Rattle.trials.specs.Trials.{Taken}
use Rattle.histories.specs.declared.step.Step.{Step}
use Rattle.histories.specs.declared.step.Entry.{Entry}
use Rattle.histories.specs.Histories.{History, Tally, at_first, posted_in}
use Rattle.histories.specs.Replays.{Basis}
use Rattle.replay.specs.declared.order.Memory.{Memory}
use Rattle.replay.specs.declared.order.Memory.TheVariants.{Classes, Matches, Entries, Bookings}
use Rattle.replay.specs.declared.order.Order.{Order}
use Rattle.replay.specs.declared.answer.Answers.{Answers}
use Rattle.replay.specs.declared.answer.Unmade.{Unmade}
use Rattle.replay.specs.declared.answer.Unmade.TheVariants.{Refused, NoCall}
use Rattle.replay.specs.declared.desks.Calls.{Calls}
use Rattle.replay.specs.declared.desks.Places.{Places}
use Rattle.replay.specs.Scripts as scripts
use Rattle.replay.specs.Scripts.{Beside}

-- each order beside the entry at its place
abbrev pub answers_in : Answers → List (Order × Entry)
answers_in a = zip a.orders.now a.entries.now

-- the orders of these answers, and their entries
abbrev pub orders_of : List (Order × Entry) → List Order
orders_of answers = map (λ answer. answer.0) answers

abbrev pub entries_of : List (Order × Entry) → List Entry
entries_of answers = map (λ answer. answer.1) answers

-- each of these orders beside one of these entries, by place; or the fault of the refused replay
abbrev pub Answered : List Order → List Entry → Result (Unit {0}) Fault → Result Answers Unmade → Type 0
Answered orders entries (Ok _) (Ok answers) = (orders_of (answers_in answers) ≡ orders) × (entries_of (answers_in answers) ≡ entries)
Answered orders entries (Ok _) (Err unmade) = ⊥
Answered orders entries (Err fault) (Ok answers) = ⊥
Answered orders entries (Err fault) (Err unmade) = unmade ≡ Refused fault

-- one memory is to have so many places, and the others as many as before
abbrev pub given : Memory → ℕ → Places → Places
given Classes n p = record { classes = n; matches = p.matches; entries = p.entries; bookings = p.bookings }
given Matches n p = record { classes = p.classes; matches = n; entries = p.entries; bookings = p.bookings }
given Entries n p = record { classes = p.classes; matches = p.matches; entries = Some n; bookings = p.bookings }
given Bookings n p = record { classes = p.classes; matches = p.matches; entries = p.entries; bookings = n }

-- how many places the log has: as many as there are orders, where nothing is said
abbrev pub entry_places : Places → List Order → ℕ
entry_places places orders = unwrap_or places.entries (length orders)

-- tops whose own calls are asked for as f and g say
module _ {O P : Type 0} (f : Order → Option O) (g : Order → Option P) where
  -- the script of the orders, and as many places as each memory of a deposit is to have
  pub record Ready (places : Places) (orders : List Order) (calls : Calls O P) : Type 0 where
    pub beside : Beside f g orders calls.script.items
    pub classes : length calls.classes.items ≡ places.classes
    pub matches : length calls.matches.items ≡ places.matches

  module _ {B : Type 0} (basis : Basis O P B) (places : Places) (book : B) (orders : List Order) where
    -- the tally before the first order
    abbrev pub opening : Tally
    opening = at_first basis.rules (basis.below.account book)

    -- A day: each order has one answer, in their order, and the entry beside it is that of the call that it asks for.
    pub record Day (answers : List (Order × Entry)) (beneath : B) : Type 0 where
      pub answered : orders_of answers ≡ orders
      pub script : List (Step O P)
      pub beside : Beside f g orders script
      -- each entry is the right one by the tally of those before it
      pub history : History basis.rules basis.means basis.rows places.classes places.matches opening script (entries_of answers)
      -- and the book beneath took what they post, in their order, and nothing else
      pub posted : Taken basis.below book (posted_in basis.rules basis.means opening script (entries_of answers)) beneath

    -- no call is made, since the log has too few places: the book is as it was
    pub record TooFew (told : Fault) (beneath : B) : Type 0 where
      pub fault : told ≡ no_such_place
      pub room : entry_places places orders < length orders
      pub same : beneath ≡ book

    -- or since the tops have no call for this order
    pub record Uncalled (order : Order) (beneath : B) : Type 0 where
      pub none : scripts.NoCall f g orders order
      pub same : beneath ≡ book

    -- a day, or why no call is made
    abbrev pub DayOf : Result Answers Unmade → B → Type 0
    DayOf (Ok answers) beneath = Day (answers_in answers) beneath
    DayOf (Err (Refused fault)) beneath = TooFew fault beneath
    DayOf (Err (NoCall order)) beneath = Uncalled order beneath
