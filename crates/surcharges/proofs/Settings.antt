-- What a setting does, by whether it was accepted. Assumes nothing.
use Rattle.std.proofs.Common.{◌≡◌, ℕ, Some, None, Ok, Err, Option, Result, refl, ap, arith}
use Rattle.std.specs.Result.{result_err}
use Rattle.std.specs.Prelude.{is_ok}
use Rattle.terms.specs.declared.fault.Fault.{Fault}
use Rattle.terms.specs.declared.refusal.Refusal.{Refusal}
use Rattle.terms.specs.Refusals.{answer_at, refused_at}
use Rattle.surcharges.specs.declared.setting.Setting.{Setting}
use Rattle.surcharges.specs.Surcharges.{Additions, Sets, set_by, setting_answer, setting_refusal}

answered : (place : ℕ) (o : Option Refusal) (r : Result (Unit {0}) Fault) → result_err r ≡ refused_at place o → r ≡ answer_at place tt o
answered place None (Ok t) e = refl
answered place None (Err f) e = let z : ◌≡◌ {A = ℕ} 0 1 = cc in absurd (omega arith)
answered place (Some refusal) (Ok t) e = let z : ◌≡◌ {A = ℕ} 0 1 = cc in absurd (omega arith)
answered place (Some refusal) (Err f) e = cc

pub setting_decided : {S : Type 0} (additions : S → Additions) (before : S) (setting : Setting) (r : Result (Unit {0}) Fault) (after : S) → Sets additions before setting r after → r ≡ setting_answer setting
setting_decided additions before setting r after s = answered setting.class (setting_refusal setting) r s.decided

pub setting_made : {S : Type 0} (additions : S → Additions) (before : S) (setting : Setting) (r : Result (Unit {0}) Fault) (after : S) → Sets additions before setting r after → additions after ≡ set_by (additions before) setting (is_ok r)
setting_made additions before setting (Ok t) after s = s.moved refl
setting_made additions before setting (Err f) after s = ap additions (s.refused refl)
