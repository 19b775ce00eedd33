-- What a text is told as, by what its lines make of a desk. Assumes nothing.
use Rattle.std.proofs.Common.{◌≡◌, ℕ, ◌≤◌, leb, List, length, Some, None, Option, refl, ap, le-leb}
use Rattle.terms.specs.Refusals.{refused_at}
use Rattle.terms.specs.declared.refusal.Refusal.{Refusal}
use Rattle.terms.specs.declared.refusal.Refusal.TheVariants.{TextTooLong}
use Rattle.terms.specs.Limits.{text_limit}
use Rattle.terms.specs.Questions.{ask}
use Rattle.lines.specs.Lines.{lines_of}
use Rattle.entries.specs.Desks.{nothing_taken}
use Rattle.entries.specs.Reading.{after_lines, after_text, or_later}
use Rattle.intake.specs.Answering.{answer_lines, text_lines, told_lines, unless_long}

told_by : (o : Option Refusal) (text : List ℕ) → answer_lines (or_later (refused_at 0 o) 0 (after_lines 1 nothing_taken (lines_of text))) ≡ unless_long o text
told_by None text = refl
told_by (Some refusal) text = refl

pub told_whole : (text : List ℕ) → answer_lines (after_text text) ≡ told_lines text
told_whole text = told_by (ask (leb (length text) text_limit) TextTooLong None) text

-- a text that is short enough is told by its lines
pub told_short : (text : List ℕ) → length text ≤ text_limit → told_lines text ≡ text_lines text
told_short text short = ap (λ b. unless_long (ask b TextTooLong None) text) (le-leb (length text) text_limit short)
