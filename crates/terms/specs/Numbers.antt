-- The number and the words of every layer, and what a number names. Assumes nothing.
use Rattle.std.specs.Prelude.{◌≡◌, ◌≢◌, ℕ, Result, MatchResult, List as Sequence, codes}
use Rattle.terms.specs.declared.unknown.NoSuchNumber.{NoSuchNumber}
use Rattle.terms.specs.declared.layer.Layer.{Layer}
use Rattle.terms.specs.declared.layer.Layer.TheVariants.{Frame, Sheet, Book, Trial, Deposit, Surcharge, List, WholeText}

abbrev pub layer_number : Layer → ℕ
layer_number Frame = 1
layer_number Sheet = 2
layer_number Book = 3
layer_number Trial = 4
layer_number Deposit = 5
layer_number Surcharge = 6
layer_number List = 7
layer_number WholeText = 8

-- the one of these whose number it is, or the number where none has it
abbrev pub Names : {X : Type 0} → (X → ℕ) → ℕ → Result X NoSuchNumber → Type 0
Names {X} number_of n r = MatchResult r (λ x. number_of x ≡ n) (λ e. (e.0 ≡ n) × ((x : X) → number_of x ≢ n))

abbrev pub NamesLayer : ℕ → Result Layer NoSuchNumber → Type 0
NamesLayer = Names layer_number

-- each layer in plain words
abbrev pub layer_words : Layer → Sequence ℕ
layer_words Frame = codes "frame"
layer_words Sheet = codes "sheet"
layer_words Book = codes "book"
layer_words Trial = codes "trial"
layer_words Deposit = codes "deposit"
layer_words Surcharge = codes "surcharge"
layer_words List = codes "list"
layer_words WholeText = codes "whole text"
