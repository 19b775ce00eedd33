-- One byte more than a text may have is enough to tell that it is too long. Assumes nothing.
use Rattle.std.proofs.Common.{◌≡◌, ℕ, ◌+◌, ◌<◌, ◌≤◌, List, length, take, drop, None, Some, Option, sym, ap, ◌∙◌, subst, ⊎_elim, arith}
use Rattle.std.proofs.lemmas.Bool.{cases_lt, lt-leb}
use Rattle.std.proofs.lemmas.List.{length-take-le, take_all, take_at}
use Rattle.std.specs.Io.KnownBytes.{Appends}
use Rattle.std.specs.Option.{IfSome}
use Rattle.terms.specs.declared.refusal.Refusal.TheVariants.{TextTooLong}
use Rattle.terms.specs.Limits.{text_limit}
use Rattle.terms.specs.Questions.{ask}
use Rattle.lines.specs.Lines.{fed}
use Rattle.intake.specs.Answering.{told_lines, unless_long}
use Rattle.intake.specs.Yields.{YieldsFrames, lines_for}
use Rattle.intake.proofs.Yielding.{read_as, told_for}
use Rattle.margins.specs.Answers.{Answers}

cut_told : (text : List ℕ) → told_lines (take (text_limit + 1) text) ≡ told_lines text
cut_told text = ⊎_elim
    (λ (l : text_limit < length text).
    let front = take (text_limit + 1) text in
    let size : length front ≡ text_limit + 1 = length-take-le (text_limit + 1) text (omega arith) in
    let long : text_limit < length front = omega arith in
    ap (λ b. unless_long (ask b TextTooLong None) front) (lt-leb (length front) text_limit long) ∙ sym (ap (λ b. unless_long (ask b TextTooLong None) text) (lt-leb (length text) text_limit l)))
    (λ (l : length text ≤ text_limit). ap told_lines (take_all (text_limit + 1) text (omega arith)))
    (cases_lt text_limit (length text))

-- what stands at the front of the memory, written behind what a writer held
written : (text front memory answer : List ℕ) (count : ℕ) (before after : Option (List ℕ)) → front ≡ take (text_limit + 1) text → YieldsFrames front memory count answer
    → Appends before after (take count answer) → Answers text before after
written text front memory answer count before after cut yields appends =
    let read = read_as text in
    let lines = lines_for yields.0.reading in
    let same : lines ≡ lines_for read.reading =
    sym (told_for front yields.0.reading yields.0.is) ∙ ap told_lines cut ∙ cut_told text ∙ told_for text read.reading read.is in
    let whole : take count answer ≡ fed lines = ap (take count) yields.1.memory ∙ take_at (fed lines) (drop count memory) count (sym yields.1.told) in
    (read, subst (Appends before after) (whole ∙ ap fed same) appends)

pub answers : (known : Option (List ℕ)) (front memory answer : List ℕ) (count : ℕ) (before after : Option (List ℕ)) → IfSome known (λ text. front ≡ take (text_limit + 1) text)
    → YieldsFrames front memory count answer → Appends before after (take count answer) → IfSome known (λ text. Answers text before after)
answers None front memory answer count before after cut yields appends = tt
answers (Some text) front memory answer count before after cut yields appends = written text front memory answer count before after cut yields appends
