-- What a surcharge means: additions to the y and the x of each class of the sheet below. Assumes nothing.
use Rattle.std.specs.Prelude.{ℕ, Bool, true, false, cond, ◌&&◌, None, Option, Result, ◌==◌, nat_le, nat_lt}
use Rattle.terms.specs.Limits.{class_count, whole}
use Rattle.terms.specs.Questions.{ask}
use Rattle.terms.specs.Outcomes.{Step}
use Rattle.terms.specs.Refusals.{answer_at, refused_at}
use Rattle.terms.specs.declared.fault.Fault.{Fault}
use Rattle.terms.specs.declared.refusal.Refusal.{Refusal}
use Rattle.terms.specs.declared.refusal.Refusal.TheVariants.{UnknownSurchargeClass, AdditionOutOfRange}
use Rattle.std.specs.declared.convert.Infallible.{Infallible}
use Rattle.rules.specs.Rows.{Rows, raised}
use Rattle.surcharges.specs.declared.setting.Setting.{Setting}

-- per class, what is added to y and to x
pub record Additions : Type 0 where
  pub on_y : ℕ → ℕ
  pub on_x : ℕ → ℕ

abbrev pub no_additions : Additions
no_additions = record { on_y = λ c. 0; on_x = λ c. 0 }

-- the rows of a sheet with these additions
abbrev pub with_additions : Additions → Rows → Rows
with_additions a rows = raised a.on_y a.on_x rows

-- the questions put to a setting, in their order
abbrev pub setting_refusal : Setting → Option Refusal
setting_refusal s =
    ask (nat_lt s.class class_count) UnknownSurchargeClass
    (ask (nat_le s.addition.y whole && nat_le s.addition.x whole) AdditionOutOfRange
    None)

abbrev pub setting_answer : Setting → Result (Unit {0}) Fault
setting_answer s = answer_at s.class tt (setting_refusal s)

-- f with the value v at a class
abbrev pub put_at : (ℕ → ℕ) → ℕ → ℕ → ℕ → ℕ
put_at f class v c = cond (c == class) v (f c)

-- the additions after a setting: it replaces those of its class
abbrev pub after_setting : Additions → Setting → Additions
after_setting a s = record { on_y = put_at a.on_y s.class s.addition.y; on_x = put_at a.on_x s.class s.addition.x }

-- the same by whether it was accepted
abbrev pub set_by : Additions → Setting → Bool → Additions
set_by a s false = a
set_by a s true = after_setting a s

-- What a setting does, for a surcharge with these additions.
abbrev pub Sets : {S : Type 0} → (S → Additions) → S → Setting → Result (Unit {0}) Fault → S → Type 0
Sets additions before setting result after =
    Step additions (refused_at setting.class (setting_refusal setting)) (after_setting (additions before) setting) before result after

-- with no surcharge there is no setting
abbrev pub no_setting : Infallible → Setting
no_setting o = elim o [ ]
