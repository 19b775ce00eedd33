-- Lines at the front of a memory. Assumes nothing.
use Rattle.std.proofs.Common.{◌≡◌, ℕ, ◌+◌, ◌-◌, ◌<◌, ◌≤◌, List, [], ◌∷◌, ◌++◌, length, take, drop, None, Ok, sym, refl, ap, ◌∙◌, arith, length-append, length-drop}
use borrow.Rule.Slice.PartMut.{put_mid}
use Rattle.std.proofs.lemmas.List.{append_assoc, append-nil, drop_all, drop_at, drop-drop, take_at, take_rest}
use Rattle.std.proofs.lemmas.Bool.{lt-ltb, cond-true}
use Rattle.terms.specs.Refusals.{answer_at}
use Rattle.terms.specs.declared.refusal.Refusal.TheVariants.{LineMemoryTooShort}
use Rattle.terms.specs.Limits.{answer_memory}
use Rattle.terms.specs.Questions.{ask}
use Rattle.frames.specs.Written.{written, written_answer}
use Rattle.lines.specs.Lines.{fed}
use Rattle.intake.specs.Filling.{Fills}

-- lines one after the other
pub fed_append : (a b : List (List ℕ)) → fed (a ++ b) ≡ fed a ++ fed b
fed_append [] b = refl
fed_append (line ∷ a) b = ap (λ l. line ++ (10 ∷ l)) (fed_append a b) ∙ sym (append_assoc line (10 ∷ fed a) (fed b))

pub length_one : (line : List ℕ) → length (fed (line ∷ [])) ≡ length line + 1
length_one line = omega (arith, length-append line (10 ∷ []))

-- ---- one line

module _ (line memory : List ℕ) (room : length line < length memory) where
  pub answers : written_answer line memory ≡ Ok (length line + 1)
  answers = ap (λ b. answer_at 0 (length line + 1) (ask b LineMemoryTooShort None)) (lt-ltb (length line) (length memory) room)

  pub one_line : (count : ℕ) (after : List ℕ) → Ok count ≡ written_answer line memory → after ≡ written line memory → Fills (line ∷ []) memory count after
  one_line count after told is =
      let a = answers in
      let counted : count ≡ length line + 1 = cc in record {
        told = counted ∙ sym (length_one line);
        memory = is ∙ cond-true _ _ memory (lt-ltb (length line) (length memory) room) ∙ sym (append_assoc line (10 ∷ []) (drop (length line + 1) memory)) ∙ ap (λ n. fed (line ∷ []) ++ drop n memory) (sym counted);
      }

-- what fills the places of an answer is no more than they are
pub fits : (lines : List (List ℕ)) (before after : List ℕ) (count : ℕ) → Fills lines before count after → length before ≡ answer_memory → length after ≡ answer_memory → count ≤ answer_memory
fits lines before after count h long kept = omega (arith, h.told, ap length h.memory, length-append (fed lines) (drop count before), length-drop count before, long, kept)

-- no line
pub no_line : (memory : List ℕ) → Fills [] memory 0 memory
no_line memory = record { told = refl; memory = refl }

-- ---- more lines after those that are there, written through `&mut memory[count..]`

pub more_lines : (a b : List (List ℕ)) (before middle : List ℕ) (count more : ℕ) (rest : List ℕ) → Fills a before count middle
    → Fills b (take (length middle - count) (drop count middle)) more rest → Fills (a ++ b) before (count + more) (put_mid count (length middle - count) middle rest)
more_lines a b before middle count more rest first second =
    let k = length middle - count in
    let long : length (fed a) ≡ count = sym first.told in
    let front : take count middle ≡ fed a = ap (take count) first.memory ∙ take_at (fed a) (drop count before) count long in
    let behind : drop count middle ≡ drop count before = ap (drop count) first.memory ∙ drop_at (fed a) (drop count before) count long in
    let written' : rest ≡ fed b ++ drop (count + more) before =
    second.memory ∙ ap (λ l. fed b ++ drop more l) (take_rest middle count ∙ behind) ∙ ap (λ l. fed b ++ l) (drop-drop more count before) in
    let none : drop k (drop count middle) ≡ [] = drop_all k (drop count middle) (omega (arith, length-drop count middle)) in
    record {
      told = omega (arith, ap length (fed_append a b), length-append (fed a) (fed b), first.told, second.told);
      memory = ap (λ l. l ++ (rest ++ drop k (drop count middle))) front ∙ ap (λ l. fed a ++ (rest ++ l)) none ∙ ap (λ l. fed a ++ l) (append-nil rest)
          ∙ ap (λ l. fed a ++ l) written' ∙ sym (append_assoc (fed a) (fed b) (drop (count + more) before)) ∙ ap (λ l. l ++ drop (count + more) before) (sym (fed_append a b));
    }
