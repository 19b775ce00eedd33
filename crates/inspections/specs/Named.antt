-- The refusal and the layer that a number names, and their words. What is shown of a number is a function of it, so all are listed here; no refusal is missing (`refusal_found` in proofs/Named.antt). Assumes nothing.
use Rattle.terms.specs.Texts.{◌⧺◌}
use Rattle.std.specs.Prelude.{ℕ, cond, List as Sequence, [], ◌∷◌, ◌==◌, None, Some, Option, codes}
use Rattle.terms.specs.declared.layer.Layer.{Layer}
use Rattle.terms.specs.declared.layer.Layer.TheVariants.{Frame, Sheet, Book, Trial, Deposit, Surcharge, List, WholeText}
use Rattle.terms.specs.declared.refusal.Refusal.{Refusal}
use Rattle.terms.specs.declared.refusal.Refusal.TheVariants.{UnknownSecurity, QuantityOutOfRange, NoBookingLeft, NetOutOfRange, TooFewBookingsBelow, NoSuchPlace, UnknownClass, RepeatedClass, UnlawfulClass, UnknownOrRepeatedSecurity, ClassWithoutRow, UnlawfulSecurity, UnlawfulPair, CreditAboveRate, TooManyPairs, TooFewPlaces, SecurityWithoutRow, AmountTooLarge, UnknownSurchargeClass, AdditionOutOfRange, NotHexadecimal, UnknownKind, WrongLength, UnknownChoice, LineMemoryTooShort, LineOutOfOrder, AnswerMemoryTooShort, TextTooLong}
use Rattle.terms.specs.Numbers.{layer_number}
use Rattle.terms.specs.Refusals.{refusal_number}

abbrev pub all_refusals : Sequence Refusal
all_refusals =
    UnknownSecurity ∷ QuantityOutOfRange ∷ NoBookingLeft ∷ NetOutOfRange ∷ TooFewBookingsBelow ∷ NoSuchPlace ∷ UnknownClass ∷ RepeatedClass ∷ UnlawfulClass ∷ UnknownOrRepeatedSecurity ∷ ClassWithoutRow ∷ UnlawfulSecurity ∷ UnlawfulPair ∷ CreditAboveRate
    ∷ TooManyPairs ∷ TooFewPlaces ∷ SecurityWithoutRow ∷ AmountTooLarge ∷ UnknownSurchargeClass ∷ AdditionOutOfRange ∷ NotHexadecimal ∷ UnknownKind ∷ WrongLength ∷ UnknownChoice ∷ LineMemoryTooShort ∷ LineOutOfOrder ∷ AnswerMemoryTooShort ∷ TextTooLong ∷ []

abbrev pub all_layers : Sequence Layer
all_layers = Frame ∷ Sheet ∷ Book ∷ Trial ∷ Deposit ∷ Surcharge ∷ List ∷ WholeText ∷ []

-- the first of these that has a number
abbrev pub named_in : {X : Type 0} → (X → ℕ) → ℕ → Sequence X → Option X
named_in number n [] = None
named_in number n (x ∷ xs) = cond (number x == n) (Some x) (named_in number n xs)

abbrev pub refusal_named : ℕ → Option Refusal
refusal_named n = named_in refusal_number n all_refusals

abbrev pub layer_named : ℕ → Option Layer
layer_named n = named_in layer_number n all_layers

-- the words in brackets; nothing where a number names nothing
abbrev pub in_brackets : {X : Type 0} → (X → Sequence ℕ) → Option X → Sequence ℕ
in_brackets words None = []
in_brackets words (Some x) = codes " (" ⧺ words x ⧺ codes ")"
