-- From an answer in the first places of a memory, ws before the rest of cs, to that of the whole memory. Assumes nothing.
use Rattle.std.proofs.Common.{◌≡◌, ℕ, ◌≤◌, leb, List, ◌++◌, length, drop, None, Ok, Err, Option, Result, Bool, true, false, sym, refl, ap, ◌∙◌, subst, le-leb, arith}
use Rattle.std.proofs.lemmas.List.{append_assoc, drop-append-le, length-take-le, take-append-drop}
use Rattle.std.specs.Array.{IsFirstChunk}
use Rattle.terms.specs.Refusals.{answer_at}
use Rattle.terms.specs.declared.fault.Fault.{Fault}
use Rattle.terms.specs.declared.refusal.Refusal.{Refusal}
use Rattle.terms.specs.declared.refusal.Refusal.TheVariants.{AnswerMemoryTooShort, TextTooLong}
use Rattle.terms.specs.Limits.{answer_memory, text_limit}
use Rattle.terms.specs.Questions.{ask}
use Rattle.lines.specs.Lines.{fed}
use Rattle.lines.specs.Texts.{length_answer}
use Rattle.intake.specs.Answering.{answer_bytes, call_answer, memory_after, tell_answer, tell_memory, text_lines, text_refusal, text_too_long, told_lines, unless_long, unless_refused}
use Rattle.intake.specs.Filling.{Fills}

-- ---- the length of a text, as it is told

was_short : (b : Bool) → ◌≡◌ {A = Result (Unit {0}) Fault} (answer_at 0 tt (ask b TextTooLong None)) (Ok tt) → b ≡ true
was_short true e = refl
was_short false e = let z : ◌≡◌ {A = ℕ} 0 1 = cc in absurd (omega arith)

was_long : (b : Bool) (f : Fault) → ◌≡◌ {A = Result (Unit {0}) Fault} (answer_at 0 tt (ask b TextTooLong None)) (Err f) → b ≡ false
was_long true f e = let z : ◌≡◌ {A = ℕ} 0 1 = cc in absurd (omega arith)
was_long false f e = refl

module _ (cs xs : List ℕ) (first : IsFirstChunk cs xs answer_memory) where
  long : length xs ≡ answer_memory
  long = ap length first.same ∙ length-take-le answer_memory cs first.enough

  front : (bytes : List ℕ) (k : ℕ) → k ≤ answer_memory → (bytes ++ drop k xs) ++ drop answer_memory cs ≡ bytes ++ drop k cs
  front bytes k small =
      append_assoc bytes (drop k xs) (drop answer_memory cs)
      ∙ ap (λ l. bytes ++ l) (sym (drop-append-le k xs (drop answer_memory cs) (omega (arith, long, small)))
      ∙ ap (λ l. drop k (l ++ drop answer_memory cs)) first.same ∙ ap (drop k) (take-append-drop answer_memory cs))

  fills_placed : (lines : List (List ℕ)) (count : ℕ) (ws : List ℕ) → count ≤ answer_memory → Fills lines xs count ws → Fills lines cs count (ws ++ drop answer_memory cs)
  fills_placed lines count ws small h = record {
    told = h.told;
    memory = ap (λ l. l ++ drop answer_memory cs) h.memory ∙ front (fed lines) count small;
  }

  -- ---- the call of a program

  module _ (text : List ℕ) where
    enough : leb answer_memory (length cs) ≡ true
    enough = le-leb answer_memory (length cs) first.enough

    module _ (count : ℕ) (ws : List ℕ) (h : Fills (told_lines text) xs count ws) where
      pub count_placed : Ok count ≡ tell_answer text cs
      count_placed = ap Ok h.told ∙ sym (ap (λ b. answer_at 0 (length (fed (told_lines text))) (ask b AnswerMemoryTooShort None)) enough)

      pub lines_placed : count ≤ answer_memory → ws ++ drop answer_memory cs ≡ tell_memory text cs
      lines_placed small =
          (fills_placed _ count ws small h).memory ∙ ap (λ k. fed (told_lines text) ++ drop k cs) h.told
          ∙ sym (ap (λ b. unless_refused (ask b AnswerMemoryTooShort None) (fed (told_lines text)) cs) enough)

    -- ---- the call, which asks for the length of the text as well

    abbrev asked : Bool → Option Refusal
    asked b = ask b TextTooLong None

    refusal_by : text_refusal text cs ≡ asked (leb (length text) text_limit)
    refusal_by = ap (λ b. ask b AnswerMemoryTooShort (asked (leb (length text) text_limit))) enough

    module _ (short : length_answer text ≡ Ok tt) where
      fine : leb (length text) text_limit ≡ true
      fine = was_short (leb (length text) text_limit) short

      passes : text_refusal text cs ≡ None
      passes = refusal_by ∙ ap asked fine

      module _ (count : ℕ) (ws : List ℕ) (h : Fills (told_lines text) xs count ws) where
        filled : Fills (text_lines text) xs count ws
        filled = subst (λ lines. Fills lines xs count ws) (ap (λ b. unless_long (asked b) text) fine) h

        pub count_answered : Ok count ≡ call_answer text cs
        count_answered = ap Ok filled.told ∙ sym (ap (answer_at 0 (length (answer_bytes text))) passes)

        pub bytes_answered : count ≤ answer_memory → ws ++ drop answer_memory cs ≡ memory_after text cs
        bytes_answered small =
            (fills_placed _ count ws small filled).memory ∙ ap (λ k. answer_bytes text ++ drop k cs) filled.told
            ∙ sym (ap (λ o. unless_refused o (answer_bytes text) cs) passes)

    pub long_answered : (f : Fault) → length_answer text ≡ Err f → Err f ≡ call_answer text cs
    long_answered f e =
        let long' = was_long (leb (length text) text_limit) f e in
        let told : ◌≡◌ {A = Result (Unit {0}) Fault} (Err text_too_long) (Err f) = sym (ap (λ b. answer_at {V = Unit {0}} 0 tt (asked b)) long') ∙ e in
        let same : f ≡ text_too_long = cc in
        ap Err same ∙ sym (ap (answer_at 0 (length (answer_bytes text))) (refusal_by ∙ ap asked long'))

    pub kept : (f : Fault) → length_answer text ≡ Err f → xs ++ drop answer_memory cs ≡ memory_after text cs
    kept f e =
        ap (λ l. l ++ drop answer_memory cs) first.same ∙ take-append-drop answer_memory cs
        ∙ sym (ap (λ o. unless_refused o (answer_bytes text) cs) (refusal_by ∙ ap asked (was_long (leb (length text) text_limit) f e)))
