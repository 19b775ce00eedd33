-- What a draft takes: the questions put to a row, and the rows once it is taken. Assumes nothing.
use Rattle.std.specs.Prelude.{ℕ, not, ◌&&◌, [], ◌∷◌, ◌++◌, length, is_some, Some, None, Option, Result, nat_eq, nat_lt}
use Rattle.std.specs.Map.{update}
use Rattle.terms.specs.Limits.{security_count, class_count, pair_limit}
use Rattle.terms.specs.Questions.{ask}
use Rattle.terms.specs.Outcomes.{Step}
use Rattle.terms.specs.Refusals.{refused_at}
use Rattle.terms.specs.declared.fault.Fault.{Fault}
use Rattle.terms.specs.declared.refusal.Refusal.{Refusal}
use Rattle.terms.specs.declared.refusal.Refusal.TheVariants.{UnknownClass, RepeatedClass, UnlawfulClass, UnknownOrRepeatedSecurity, ClassWithoutRow, UnlawfulSecurity, UnlawfulPair, CreditAboveRate, TooManyPairs}
use Rattle.rules.specs.declared.rows.ClassRow.{ClassRow}
use Rattle.rules.specs.declared.rows.SecurityRow.{SecurityRow}
use Rattle.rules.specs.declared.rows.PairRow.{PairRow}
use Rattle.rules.specs.Rows.{Rows}
use Rattle.rules.specs.Tables.{has_test, class_figures, security_figures, pair_classes, pair_credit}

-- no class, no security, no pair
abbrev pub no_rows : Rows
no_rows = record { classes = λ c. None; securities = λ s. None; pairs = [] }

-- ---- the rows with one more

abbrev pub with_class : Rows → ℕ → ClassRow → Rows
with_class rows class row = record { classes = update nat_eq rows.classes class (Some row); securities = rows.securities; pairs = rows.pairs }

abbrev pub with_security : Rows → ℕ → SecurityRow → Rows
with_security rows security row = record { classes = rows.classes; securities = update nat_eq rows.securities security (Some row); pairs = rows.pairs }

-- a pair comes last in the order
abbrev pub with_pair : Rows → PairRow → Rows
with_pair rows pair = record { classes = rows.classes; securities = rows.securities; pairs = rows.pairs ++ pair ∷ [] }

-- ---- the questions put to a row, in their order

abbrev pub class_refusal : Rows → ℕ → ClassRow → Option Refusal
class_refusal rows class row =
    ask (nat_lt class class_count) UnknownClass
    (ask (not (is_some (rows.classes class))) RepeatedClass
    (ask (class_figures row) UnlawfulClass
    None))

abbrev pub security_refusal : Rows → ℕ → SecurityRow → Option Refusal
security_refusal rows security row =
    ask (nat_lt security security_count && not (is_some (rows.securities security))) UnknownOrRepeatedSecurity
    (ask (is_some (rows.classes row.class)) ClassWithoutRow
    (ask (has_test (λ class. security_figures class.kind row) (rows.classes row.class)) UnlawfulSecurity
    None))

abbrev pub pair_refusal : Rows → PairRow → Option Refusal
pair_refusal rows pair =
    ask (pair_classes rows.classes pair) UnlawfulPair
    (ask (pair_credit rows.classes pair) CreditAboveRate
    (ask (nat_lt (length rows.pairs) pair_limit) TooManyPairs
    None))

-- What a call does that adds a row, for a draft that means `rows`: it is put these questions at this place, and the rows with the row are `more`.
abbrev pub Takes : {D : Type 0} → (D → Rows) → D → ℕ → Option Refusal → Rows → Result (Unit {0}) Fault → D → Type 0
Takes rows before place refusal more result after = Step rows (refused_at place refusal) more before result after

-- ---- what the three calls of a draft do

abbrev pub TakesClass : {D : Type 0} → (D → Rows) → D → ℕ → ClassRow → Result (Unit {0}) Fault → D → Type 0
TakesClass rows before class row result after = Takes rows before class (class_refusal (rows before) class row) (with_class (rows before) class row) result after

abbrev pub TakesSecurity : {D : Type 0} → (D → Rows) → D → ℕ → SecurityRow → Result (Unit {0}) Fault → D → Type 0
TakesSecurity rows before security row result after = Takes rows before security (security_refusal (rows before) security row) (with_security (rows before) security row) result after

-- the place of its faults is the first class
abbrev pub TakesPair : {D : Type 0} → (D → Rows) → D → PairRow → Result (Unit {0}) Fault → D → Type 0
TakesPair rows before pair result after = Takes rows before pair.first (pair_refusal (rows before) pair) (with_pair (rows before) pair) result after
