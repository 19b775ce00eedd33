-- The question put to a whole text. Assumes nothing.
use Rattle.std.specs.Prelude.{ℕ, List, length, None, Option, Result, nat_le}
use Rattle.terms.specs.Refusals.{answer_at}
use Rattle.terms.specs.declared.fault.Fault.{Fault}
use Rattle.terms.specs.declared.refusal.Refusal.{Refusal}
use Rattle.terms.specs.declared.refusal.Refusal.TheVariants.{TextTooLong}
use Rattle.terms.specs.Limits.{text_limit}
use Rattle.terms.specs.Questions.{ask}

-- a text is at most so long
abbrev pub length_refusal : List ℕ → Option Refusal
length_refusal text = ask (nat_le (length text) text_limit) TextTooLong None

abbrev pub length_answer : List ℕ → Result (Unit {0}) Fault
length_answer text = answer_at 0 tt (length_refusal text)
