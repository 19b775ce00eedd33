-- What the program prints: a desk, an order and what it gave, and what is kept beneath, in plain words and zloty. Assumes nothing.
use Rattle.terms.specs.Texts.{◌⧺◌, fed}
use Rattle.std.specs.Prelude.{ℕ, zero, suc, cond, List, [], ◌∷◌, ℤ, pos, negsuc, unsigned_abs, Some, None, Option, Ok, Err, Result, codes, decimal, flat_map}
use Rattle.terms.specs.declared.fault.Fault.{Fault}
use Rattle.terms.specs.Faults.{fault_words}
use Rattle.terms.specs.Limits.{security_count}
use Rattle.books.specs.Books.{is_zero}
use Rattle.books.specs.declared.booking.Booking.{Booking}
use Rattle.surcharges.specs.declared.setting.Setting.{Setting}
use Rattle.deposits.specs.declared.records.ClassMargin.{ClassMargin}
use Rattle.deposits.specs.declared.records.Match.{Match}
use Rattle.deposits.specs.declared.records.Summary.{Summary}
use Rattle.histories.specs.declared.step.Entry.{Entry}
use Rattle.histories.specs.declared.step.Entry.TheVariants.{Done, Told}
use Rattle.histories.specs.declared.telling.Telling.{Telling}
use Rattle.wording.specs.Decimals.{amount, left_over, money, percent}
use Rattle.replay.specs.declared.order.Order.{Order}
use Rattle.replay.specs.declared.order.Order.TheVariants.{Book, Commit, Drop, Surcharge, Deposit}
use Rattle.replay.specs.declared.order.Desk.{Desk}
use Rattle.replay.specs.declared.order.Desk.TheVariants.{Rates, Pairs, Journal, Layered, Stacked}
use Rattle.replay.specs.declared.order.PassedOver.{PassedOver}
use Rattle.replay.specs.declared.order.PassedOver.TheVariants.{NoDeskCan, NotUnderstood}
use Rattle.replay.specs.declared.answer.Answers.{Answers}
use Rattle.replay.specs.declared.answer.Unmade.{Unmade}
use Rattle.replay.specs.declared.answer.Unmade.TheVariants.{Refused, NoCall}
use Rattle.replay.specs.Days.{answers_in}

-- a desk, and what it is opened over
abbrev pub desk_words : Desk → List ℕ
desk_words Rates = codes "Desk over the rates of January 2020: a trial layer above a net table."
desk_words Pairs = codes "Desk over a sheet with pairs, under a surcharge: two trial layers above a net table."
desk_words Journal = codes "Desk over the rates of January 2020: a journal."
desk_words Layered = codes "Desk over the rates of January 2020: a trial layer above a journal."
desk_words Stacked =
    codes "Desk over a sheet with pairs, under a surcharge above one of 1% on y of class 0: a trial layer above a lent net table."

-- bought quantities are positive, sold ones negative
abbrev pub buy_or_sell : ℤ → List ℕ
buy_or_sell (pos n) = codes "buy"
buy_or_sell (negsuc n) = codes "sell"

abbrev pub bought_or_sold : ℤ → List ℕ
bought_or_sold (pos n) = codes "bought"
bought_or_sold (negsuc n) = codes "sold"

abbrev pub booking_words : Booking → List ℕ
booking_words b = buy_or_sell b.quantity ⧺ codes " " ⧺ decimal (unsigned_abs b.quantity) ⧺ codes " of security " ⧺ decimal b.security

abbrev pub setting_words : Setting → List ℕ
setting_words s =
    codes "add " ⧺ percent s.addition.y ⧺ codes " to y and " ⧺ percent s.addition.x ⧺ codes " to x of class " ⧺ decimal s.class

-- an order, as a dealer says it
unfoldable pub order_words : Order → List ℕ
order_words (Book b) = booking_words b
order_words Commit = codes "commit"
order_words Drop = codes "drop the trial"
order_words (Deposit classes matches) = codes "deposit"
order_words (Surcharge s) = setting_words s

-- a line that is passed over
abbrev pub passed_over : PassedOver → List ℕ
passed_over (NoDeskCan line order) = codes "line " ⧺ decimal line ⧺ codes " is passed over: no open desk can " ⧺ order_words order
passed_over (NotUnderstood line) = codes "line " ⧺ decimal line ⧺ codes " is passed over: it is not understood"

-- why a call was refused
abbrev pub refused_line : Fault → List ℕ
refused_line fault = fed (codes "  refused: " ⧺ fault_words fault)

-- DSPAN, and what is held
abbrev pub total_line : Summary → List ℕ
total_line s =
    codes "  " ⧺ money s.dspan.grosz ⧺ codes " zloty (held: classes " ⧺ decimal s.classes ⧺ codes ", securities " ⧺ decimal s.securities
    ⧺ codes ", pairs " ⧺ decimal s.pairs ⧺ codes ")"

-- PK and PS of a class, and what is left over of it
abbrev pub sums_line : ℕ → ClassMargin → List ℕ
sums_line number class =
    codes "  class " ⧺ decimal number ⧺ codes ": " ⧺ amount class.bought.units ⧺ codes " bought, " ⧺ amount class.sold.units
    ⧺ codes " sold; left over: " ⧺ left_over class.leftover.net

-- the parts of its deposit, and their sum
abbrev pub parts_line : ClassMargin → List ℕ
parts_line class =
    codes "    DRR " ⧺ money class.drr.grosz ⧺ codes " + DRS " ⧺ money class.drs.grosz ⧺ codes " + DSWK " ⧺ money class.dswk.grosz
    ⧺ codes " - KSPK " ⧺ money class.kspk.grosz ⧺ codes " = " ⧺ money class.dolr.grosz ⧺ codes " zloty"

-- the two lines of a class, if it is held
unfoldable pub class_lines : ℕ → ClassMargin → List ℕ
class_lines number class = cond class.held (fed (sums_line number class) ⧺ fed (parts_line class)) []

-- and those of the classes from this number on
abbrev pub classes_lines : ℕ → List ClassMargin → List ℕ
classes_lines number [] = []
classes_lines number (class ∷ rest) = class_lines number class ⧺ classes_lines (suc number) rest

-- what a pair matches
abbrev pub match_line : Match → List ℕ
match_line pair =
    codes "  classes " ⧺ decimal pair.first ⧺ codes " and " ⧺ decimal pair.second ⧺ codes ": " ⧺ amount pair.matched.units ⧺ codes " matched"

-- the line of a match, if there is one
unfoldable pub place_lines : Option Match → List ℕ
place_lines (Some pair) = fed (match_line pair)
place_lines None = []

-- what a deposit tells
abbrev pub telling_lines : Telling → List ℕ
telling_lines t = fed (total_line t.summary) ⧺ classes_lines 0 t.classes ⧺ flat_map place_lines t.matches

-- what a call gave
abbrev pub entry_lines : Entry → List ℕ
entry_lines (Done (Ok _)) = fed (codes "  done")
entry_lines (Done (Err fault)) = refused_line fault
entry_lines (Told (Ok t)) = telling_lines t
entry_lines (Told (Err fault)) = refused_line fault

-- an order, and below it what its call gave, if there is an entry for it
unfoldable pub answer_lines : Order → Option Entry → List ℕ
answer_lines order (Some entry) = fed (order_words order) ⧺ entry_lines entry
answer_lines order None = []

-- all answers of a day, in their order
abbrev pub answers_lines : List (Order × Entry) → List ℕ
answers_lines answers = flat_map (λ answer. answer_lines answer.0 (Some answer.1)) answers

-- why no call is made
abbrev pub unmade_lines : Unmade → List ℕ
unmade_lines (Refused fault) = fed (codes "no call is made") ⧺ refused_line fault
unmade_lines (NoCall order) = fed (codes "no call is made") ⧺ fed (codes "  this desk has no call to " ⧺ order_words order)

-- the answers of a day; or why no call is made
abbrev pub outcome_lines : Result Answers Unmade → List ℕ
outcome_lines (Ok answers) = answers_lines (answers_in answers)
outcome_lines (Err unmade) = unmade_lines unmade

-- the net of a security, if it is other than 0
unfoldable pub net_words : ℕ → ℤ → List ℕ
net_words security net =
    cond (is_zero net) [] (codes "; security " ⧺ decimal security ⧺ codes ": " ⧺ decimal (unsigned_abs net) ⧺ codes " " ⧺ bought_or_sold net)

-- and those of the first n securities
unfoldable pub nets_words : (ℕ → ℤ) → ℕ → List ℕ
nets_words nets zero = []
nets_words nets (suc n) = nets_words nets n ⧺ net_words n (nets n)

-- what is kept beneath a desk: the bookings left there, and the nets
unfoldable pub kept_line : (ℕ → ℤ) → ℕ → List ℕ
kept_line nets left = fed (codes "beneath: bookings left " ⧺ decimal left ⧺ nets_words nets security_count)

-- a day, and what is kept beneath after it
abbrev pub day_lines : Result Answers Unmade → (ℕ → ℤ) → ℕ → List ℕ
day_lines outcome nets left = outcome_lines outcome ⧺ kept_line nets left
