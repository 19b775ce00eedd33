-- What a number names is found in the list of all. Assumes nothing.
use Rattle.std.proofs.Common.{◌≡◌, ◌≢◌, ℕ, cond, List, [], ◌∷◌, Some, None, Ok, Err, Result, sym, refl, ap, ◌∙◌}
use Rattle.std.proofs.lemmas.Bool.{ne_eqb}
use Rattle.std.specs.Result.{result_ok}
use Rattle.terms.specs.declared.layer.Layer.{Layer}
use Rattle.terms.specs.declared.layer.Layer.TheVariants.{Frame, Sheet, Book, Trial, Deposit, Surcharge, List as ListLayer, WholeText}
use Rattle.terms.specs.declared.refusal.Refusal.{Refusal}
use Rattle.terms.specs.declared.refusal.Refusal.TheVariants.{UnknownSecurity, QuantityOutOfRange, NoBookingLeft, NetOutOfRange, TooFewBookingsBelow, NoSuchPlace, UnknownClass, RepeatedClass, UnlawfulClass, UnknownOrRepeatedSecurity, ClassWithoutRow, UnlawfulSecurity, UnlawfulPair, CreditAboveRate, TooManyPairs, TooFewPlaces, SecurityWithoutRow, AmountTooLarge, UnknownSurchargeClass, AdditionOutOfRange, NotHexadecimal, UnknownKind, WrongLength, UnknownChoice, LineMemoryTooShort, LineOutOfOrder, AnswerMemoryTooShort, TextTooLong}
use Rattle.terms.specs.declared.unknown.NoSuchNumber.{NoSuchNumber}
use Rattle.terms.specs.Numbers.{NamesLayer, layer_number}
use Rattle.terms.specs.Refusals.{NamesRefusal, refusal_number}
use Rattle.inspections.specs.Named.{all_layers, all_refusals, layer_named, named_in, refusal_named}

none_named : {X : Type 0} (number : X → ℕ) (n : ℕ) (xs : List X) → ((x : X) → number x ≢ n) → named_in number n xs ≡ None
none_named number n [] h = refl
none_named number n (x ∷ xs) h = ap (λ b. cond b (Some x) (named_in number n xs)) (ne_eqb (number x) n (h x)) ∙ none_named number n xs h

refusal_found : (x : Refusal) → refusal_named (refusal_number x) ≡ Some x
refusal_found UnknownSecurity = refl
refusal_found QuantityOutOfRange = refl
refusal_found NoBookingLeft = refl
refusal_found NetOutOfRange = refl
refusal_found TooFewBookingsBelow = refl
refusal_found NoSuchPlace = refl
refusal_found UnknownClass = refl
refusal_found RepeatedClass = refl
refusal_found UnlawfulClass = refl
refusal_found UnknownOrRepeatedSecurity = refl
refusal_found ClassWithoutRow = refl
refusal_found UnlawfulSecurity = refl
refusal_found UnlawfulPair = refl
refusal_found CreditAboveRate = refl
refusal_found TooManyPairs = refl
refusal_found TooFewPlaces = refl
refusal_found SecurityWithoutRow = refl
refusal_found AmountTooLarge = refl
refusal_found UnknownSurchargeClass = refl
refusal_found AdditionOutOfRange = refl
refusal_found NotHexadecimal = refl
refusal_found UnknownKind = refl
refusal_found WrongLength = refl
refusal_found UnknownChoice = refl
refusal_found LineMemoryTooShort = refl
refusal_found LineOutOfOrder = refl
refusal_found AnswerMemoryTooShort = refl
refusal_found TextTooLong = refl

layer_found : (x : Layer) → layer_named (layer_number x) ≡ Some x
layer_found Frame = refl
layer_found Sheet = refl
layer_found Book = refl
layer_found Trial = refl
layer_found Deposit = refl
layer_found Surcharge = refl
layer_found ListLayer = refl
layer_found WholeText = refl

pub refusal_is : (n : ℕ) (r : Result Refusal NoSuchNumber) → NamesRefusal n r → result_ok r ≡ refusal_named n
refusal_is n (Ok x) h = sym (refusal_found x) ∙ ap refusal_named h
refusal_is n (Err e) h = sym (none_named refusal_number n all_refusals h.1)

pub layer_is : (n : ℕ) (r : Result Layer NoSuchNumber) → NamesLayer n r → result_ok r ≡ layer_named n
layer_is n (Ok x) h = sym (layer_found x) ∙ ap layer_named h
layer_is n (Err e) h = sym (none_named layer_number n all_layers h.1)
