-- The one table of refusals: the number of each, the layer that refuses so, the place that it tells and its words. Assumes nothing.
use Rattle.std.specs.Prelude.{ℕ, Bool, true, false, Some, None, Ok, Err, Option, Result, List as Sequence, codes}
use Prim.Native.String.{String}
use Rattle.std.specs.Option.{unwrap_or}
use Rattle.terms.specs.declared.fault.Fault.{Fault}
use Rattle.terms.specs.declared.layer.Layer.{Layer}
use Rattle.terms.specs.declared.layer.Layer.TheVariants.{Frame, Sheet, Book, Trial, Deposit, Surcharge, List, WholeText}
use Rattle.terms.specs.declared.refusal.Refusal.{Refusal}
use Rattle.terms.specs.declared.refusal.Refusal.TheVariants.{UnknownSecurity, QuantityOutOfRange, NoBookingLeft, NetOutOfRange, TooFewBookingsBelow, NoSuchPlace, UnknownClass, RepeatedClass, UnlawfulClass, UnknownOrRepeatedSecurity, ClassWithoutRow, UnlawfulSecurity, UnlawfulPair, CreditAboveRate, TooManyPairs, TooFewPlaces, SecurityWithoutRow, AmountTooLarge, UnknownSurchargeClass, AdditionOutOfRange, NotHexadecimal, UnknownKind, WrongLength, UnknownChoice, LineMemoryTooShort, LineOutOfOrder, AnswerMemoryTooShort, TextTooLong}
use Rattle.terms.specs.declared.unknown.NoSuchNumber.{NoSuchNumber}
use Rattle.terms.specs.Numbers.{Names}
use Rattle.terms.specs.Questions.{fault}

-- the place that a fault tells: the security that the call is about or, without one, the class as given; or none, which is 0
pub data PlaceRule : Type 0 where
  at_security : PlaceRule
  at_class : PlaceRule
  nowhere : PlaceRule

-- what a refusal is each time: its number, its layer where it is always the same, its place and its words
pub record Meaning : Type 0 where
  pub number : ℕ
  pub layer : Option Layer
  pub place : PlaceRule
  pub words : Sequence ℕ

abbrev pub means : ℕ → Option Layer → PlaceRule → String → Meaning
means number layer place words = record { number = number; layer = layer; place = place; words = codes words }

-- the layer that always refuses so
abbrev pub always : Layer → Option Layer
always layer = Some layer

-- a book and a trial layer put these questions alike, each as a layer of its own
abbrev pub by_part : Option Layer
by_part = None

-- the table
abbrev pub meaning : Refusal → Meaning
meaning UnknownSecurity = means 1 by_part at_security "there is no such security"
meaning QuantityOutOfRange = means 2 by_part at_security "the quantity is zero or beyond 200,000,000"
meaning NoBookingLeft = means 3 by_part at_security "no booking is left"
meaning NetOutOfRange = means 4 by_part at_security "the net would pass 100,000,000"
meaning TooFewBookingsBelow = means 5 (always Trial) nowhere "too few bookings are left below"
meaning NoSuchPlace = means 6 (always List) nowhere "the list has no such place"
meaning UnknownClass = means 10 (always Sheet) at_class "there is no such class"
meaning RepeatedClass = means 11 (always Sheet) at_class "the class has a row already"
meaning UnlawfulClass = means 12 (always Sheet) at_class "a figure of the class is not lawful"
meaning UnknownOrRepeatedSecurity = means 13 (always Sheet) at_security "there is no such security, or it has a row already"
meaning ClassWithoutRow = means 14 (always Sheet) at_security "its class has no row"
meaning UnlawfulSecurity = means 15 (always Sheet) at_security "a figure of the security is not lawful"
meaning UnlawfulPair = means 16 (always Sheet) at_class "the two classes have no rows, are one or differ in kind"
meaning CreditAboveRate = means 17 (always Sheet) at_class "the credit rate is above the y of a class"
meaning TooManyPairs = means 18 (always Sheet) at_class "the sheet has all its pairs"
meaning TooFewPlaces = means 20 (always Deposit) nowhere "too few places for classes or matches"
meaning SecurityWithoutRow = means 21 (always Deposit) at_security "a held security has no row"
meaning AmountTooLarge = means 22 (always Deposit) at_security "the amount of a position is too large"
meaning UnknownSurchargeClass = means 25 (always Surcharge) at_class "there is no such class to surcharge"
meaning AdditionOutOfRange = means 26 (always Surcharge) at_class "an addition is above the whole"
meaning NotHexadecimal = means 30 (always Frame) nowhere "the line is not an even number of hexadecimal digits"
meaning UnknownKind = means 31 (always Frame) nowhere "the kind of frame is not known"
meaning WrongLength = means 32 (always Frame) nowhere "the frame is too short or too long"
meaning UnknownChoice = means 33 (always Frame) nowhere "the side or the kind of class is neither 01 nor 02"
meaning LineMemoryTooShort = means 34 (always Frame) nowhere "the memory does not hold the line"
meaning LineOutOfOrder = means 35 (always WholeText) nowhere "no such line may stand here"
meaning AnswerMemoryTooShort = means 36 (always WholeText) nowhere "the memory for the answer is too short"
meaning TextTooLong = means 37 (always WholeText) nowhere "the text is longer than 65,536 bytes"

abbrev pub refusal_number : Refusal → ℕ
refusal_number refusal = (meaning refusal).number

unfoldable pub refusal_words : Refusal → Sequence ℕ
refusal_words refusal = (meaning refusal).words

abbrev pub layer_of : Refusal → Option Layer
layer_of refusal = (meaning refusal).layer

-- the layer that a fault of it tells, of a book where a trial layer may refuse so, too
abbrev pub told_layer : Refusal → Layer
told_layer refusal = unwrap_or (layer_of refusal) Book

-- the place that it tells of a call about this one
abbrev pub placed : PlaceRule → ℕ → ℕ
placed at_security place = place
placed at_class place = place
placed nowhere place = 0

abbrev pub told_place : Refusal → ℕ → ℕ
told_place refusal place = placed (meaning refusal).place place

abbrev pub has_place : PlaceRule → Bool
has_place at_security = true
has_place at_class = true
has_place nowhere = false

-- the fault of a refusal, by the table
abbrev pub fault_at : ℕ → Refusal → Fault
fault_at place refusal = fault (told_layer refusal) (told_place refusal place) refusal

-- that of the question that refuses, if there is one
abbrev pub refused_at : ℕ → Option Refusal → Option Fault
refused_at place None = None
refused_at place (Some refusal) = Some (fault_at place refusal)

-- the answer of a call about a place: its value, or the fault of the question that refuses
abbrev pub answer_at : {V : Type 0} → ℕ → V → Option Refusal → Result V Fault
answer_at place value None = Ok value
answer_at place value (Some refusal) = Err (fault_at place refusal)

abbrev pub NamesRefusal : ℕ → Result Refusal NoSuchNumber → Type 0
NamesRefusal = Names refusal_number
