-- The byte that stands for each choice, the sign of a side, and their words. Assumes nothing.
use Rattle.std.specs.Prelude.{ℕ, ℤ, pos, neg_ℤ, Result, List, codes}
use Rattle.terms.specs.declared.choice.ClassKind.{ClassKind}
use Rattle.terms.specs.declared.choice.ClassKind.TheVariants.{Liquidity, Duration}
use Rattle.terms.specs.declared.choice.Side.{Side}
use Rattle.terms.specs.declared.choice.Side.TheVariants.{Bought, Sold}
use Rattle.terms.specs.declared.unknown.NoSuchNumber.{NoSuchNumber}
use Rattle.terms.specs.Numbers.{Names}

abbrev pub class_kind_byte : ClassKind → ℕ
class_kind_byte Liquidity = 1
class_kind_byte Duration = 2

abbrev pub side_byte : Side → ℕ
side_byte Bought = 1
side_byte Sold = 2

abbrev pub NamesClassKind : ℕ → Result ClassKind NoSuchNumber → Type 0
NamesClassKind = Names class_kind_byte

abbrev pub NamesSide : ℕ → Result Side NoSuchNumber → Type 0
NamesSide = Names side_byte

-- bought quantities are positive, sold ones negative
abbrev pub signed : Side → ℕ → ℤ
signed Bought quantity = pos quantity
signed Sold quantity = neg_ℤ (pos quantity)

-- each in plain words
abbrev pub class_kind_words : ClassKind → List ℕ
class_kind_words Liquidity = codes "liquidity"
class_kind_words Duration = codes "duration"

abbrev pub side_words : Side → List ℕ
side_words Bought = codes "bought"
side_words Sold = codes "sold"
