-- The answer to a whole text. Assumes nothing.
use Rattle.std.specs.Prelude.{ℕ, zero, suc, cond, List, [], ◌∷◌, ◌++◌, length, drop, ℤ, pos, neg_ℤ, Some, None, Ok, Err, Option, Result, nat_le, unsigned_abs}
use Rattle.terms.specs.declared.fault.Fault.{Fault}
use Rattle.terms.specs.declared.refusal.Refusal.{Refusal}
use Rattle.terms.specs.declared.refusal.Refusal.TheVariants.{AnswerMemoryTooShort, TextTooLong}
use Rattle.terms.specs.Limits.{answer_memory, class_count}
use Rattle.terms.specs.Numbers.{layer_number}
use Rattle.terms.specs.Refusals.{refusal_number, answer_at, fault_at}
use Rattle.terms.specs.Questions.{ask}
use Rattle.frames.specs.Frames.{line_of}
use Rattle.frames.specs.Kinds.{deposit_kind, fault_kind, total_kind}
use Rattle.lines.specs.Lines.{fed, lines_of}
use Rattle.lines.specs.Texts.{length_refusal}
use Rattle.rules.specs.Rows.{Rows}
use Rattle.rules.specs.Margin.{rounded, DRR, DRS, DSWK, KSPK, DOLR, DSPAN}
use Rattle.rules.specs.Held.{held_class, securities_held, classes_held, pairs_held}
use Rattle.books.specs.Books.{nets_of}
use Rattle.positions.specs.Questions.{portfolio_fault}
use Rattle.entries.specs.Desks.{Desk, nothing_taken}
use Rattle.entries.specs.declared.line_fault.LineFault.{LineFault}
use Rattle.entries.specs.Reading.{after_lines, in_line}

-- ---- the lines of an answer

-- F: the refusal, the layer, the line and the place
abbrev pub fault_told : LineFault → List ℕ
fault_told e = refusal_number e.fault.refusal ∷ layer_number e.fault.layer ∷ e.line ∷ e.fault.place ∷ []

abbrev pub fault_line : LineFault → List ℕ
fault_line e = line_of fault_kind (fault_told e)

-- D: the deposit of a class
abbrev pub class_told : Rows → (ℕ → ℤ) → ℕ → List ℕ
class_told rows nets c = c ∷ DRR rounded rows nets c ∷ DRS rounded rows nets c ∷ DSWK rounded rows nets c ∷ KSPK rounded rows nets c ∷ unsigned_abs (DOLR rounded rows nets c) ∷ []

abbrev pub class_line : Rows → (ℕ → ℤ) → ℕ → List ℕ
class_line rows nets c = line_of deposit_kind (class_told rows nets c)

-- T: what is held, and the deposit of the portfolio
abbrev pub total_told : Rows → (ℕ → ℤ) → List ℕ
total_told rows nets = classes_held rows nets ∷ securities_held nets ∷ pairs_held rows nets ∷ unsigned_abs (DSPAN rounded rows nets) ∷ []

abbrev pub total_line : Rows → (ℕ → ℤ) → List ℕ
total_line rows nets = line_of total_kind (total_told rows nets)

-- the lines of the held classes among those below n, by rising number
unfoldable pub held_lines : ℕ → Rows → (ℕ → ℤ) → List (List ℕ)
held_lines zero rows nets = []
held_lines (suc n) rows nets = held_lines n rows nets ++ cond (held_class rows nets n) (class_line rows nets n ∷ []) []

-- the frames of a deposit: one for each held class, and the total
abbrev pub margin_lines : Rows → (ℕ → ℤ) → List (List ℕ)
margin_lines rows nets = held_lines class_count rows nets ++ total_line rows nets ∷ []

-- a refused deposit is told alone, with no line
abbrev pub deposit_lines : Option Fault → Rows → (ℕ → ℤ) → List (List ℕ)
deposit_lines (Some f) rows nets = fault_line (in_line 0 f) ∷ []
deposit_lines None rows nets = margin_lines rows nets

-- and so is a refused line
abbrev pub answer_lines : Result Desk LineFault → List (List ℕ)
answer_lines (Ok d) = deposit_lines (portfolio_fault d.rows (nets_of d.account)) d.rows (nets_of d.account)
answer_lines (Err e) = fault_line e ∷ []

-- what a text gives: its lines are numbered from 1
abbrev pub text_lines : List ℕ → List (List ℕ)
text_lines text = answer_lines (after_lines 1 nothing_taken (lines_of text))

abbrev pub answer_bytes : List ℕ → List ℕ
answer_bytes text = fed (text_lines text)

-- ---- the call

-- refusals 36 and 37
abbrev pub memory_too_short : Fault
memory_too_short = fault_at 0 AnswerMemoryTooShort

abbrev pub text_too_long : Fault
text_too_long = fault_at 0 TextTooLong

abbrev pub text_refusal : List ℕ → List ℕ → Option Refusal
text_refusal text memory =
    ask (nat_le answer_memory (length memory)) AnswerMemoryTooShort
    (length_refusal text)

-- how many bytes are written, or the refusal
abbrev pub call_answer : List ℕ → List ℕ → Result ℕ Fault
call_answer text memory = answer_at 0 (length (answer_bytes text)) (text_refusal text memory)

-- the memory once these bytes stand at its front, unless the call is refused
abbrev pub unless_refused : Option Refusal → List ℕ → List ℕ → List ℕ
unless_refused None bytes memory = bytes ++ drop (length bytes) memory
unless_refused (Some refusal) bytes memory = memory

abbrev pub memory_after : List ℕ → List ℕ → List ℕ
memory_after text memory = unless_refused (text_refusal text memory) (answer_bytes text) memory

-- ---- the call of a program, which tells a text that is too long by a frame as well

-- refusal 36 alone
abbrev pub room_refusal : List ℕ → Option Refusal
room_refusal memory = ask (nat_le answer_memory (length memory)) AnswerMemoryTooShort None

-- the frame of refusal 37 has no line
abbrev pub unless_long : Option Refusal → List ℕ → List (List ℕ)
unless_long None text = text_lines text
unless_long (Some refusal) text = fault_line (in_line 0 (fault_at 0 refusal)) ∷ []

abbrev pub told_lines : List ℕ → List (List ℕ)
told_lines text = unless_long (length_refusal text) text

abbrev pub tell_answer : List ℕ → List ℕ → Result ℕ Fault
tell_answer text memory = answer_at 0 (length (fed (told_lines text))) (room_refusal memory)

abbrev pub tell_memory : List ℕ → List ℕ → List ℕ
tell_memory text memory = unless_refused (room_refusal memory) (fed (told_lines text)) memory

-- ---- the call of C

-- the count as C is told it: a refusal is minus its number
abbrev pub told_in_c : Result ℕ Fault → ℤ
told_in_c (Ok count) = pos count
told_in_c (Err f) = neg_ℤ (pos (refusal_number f.refusal))
