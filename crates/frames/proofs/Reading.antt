-- What reading a line tells of the records of a kind. Assumes nothing.
use Rattle.std.proofs.Common.{◌≡◌, ℕ, ◌*◌, ◌%◌, ◌<◌, ◌≤◌, true, ◌&&◌, eqb, leb, List, ◌++◌, length, take, drop, Some, None, Ok, Err, Option, Result, sym, ap, ◌∙◌, arith, take-append-drop}
use Rattle.std.proofs.ByRecursion.{All-append, All-take, All-drop}
use Rattle.std.proofs.lemmas.List.{take_at, drop_at, length-take-le}
use Rattle.std.proofs.lemmas.Bool.{and_parts, eq-eqb, eqb-true, leb-true}
use Rattle.std.specs.Result.{result_err}
use Rattle.terms.specs.Refusals.{refused_at}
use Rattle.terms.specs.declared.fault.Fault.{Fault}
use Rattle.terms.specs.declared.refusal.Refusal.{Refusal}
use Rattle.terms.specs.declared.refusal.Refusal.TheVariants.{NotHexadecimal, WrongLength, UnknownChoice}
use Rattle.terms.specs.Questions.{ask}
use Rattle.terms.proofs.Answered.{asked}
use Rattle.frames.specs.Fields.{text_of, numbers_of, carries, bytes}
use Rattle.frames.specs.Frames.{Reads, choice_known, choice_lawful, digits_refusal, fields_refusal, frame_fault, hexadecimal, kind_refusal, line_of, line_refusal}
use Rattle.frames.specs.Hex.{value_of, are_digits, number_of, digits_of}
use Rattle.frames.specs.Kinds.{Kind, find_kind}
use Rattle.frames.proofs.Framing.{is_hexadecimal}
use Rattle.frames.specs.Numbers.{hex_from, hex_digits, hex_digits_of, length_digits_of, number_digits_of, digits_of_number}
use Rattle.frames.proofs.Sound.{Sound, found_byte}
use Rattle.frames.specs.Texts.{numbers_text, text_numbers, carried_numbers, length_text, length_line, hex_text}

pub not_both : {R : Type 0} (o : Option R) (e : R) → o ≡ Some e → o ≡ None → ⊥
not_both o e p q = let z : ◌≡◌ {A = ℕ} 0 1 = cc in omega arith

-- lines that are written of records are not refused, and tell the record
module _ {R : Type 0} (text : R → List ℕ) (questions : List ℕ → Option Refusal) (passes : (x : R) → questions (text x) ≡ None) (line : List ℕ) where
  pub refused : (e : Refusal) (r : Result R Fault) → r ≡ Err (frame_fault e) → questions line ≡ Some e → Reads text (questions line) line r
  refused e r is_r is = record {
    back = λ x same. absurd (not_both (questions line) e is (ap questions same ∙ passes x));
    only = λ x same. let z : ◌≡◌ {A = ℕ} 0 1 = cc in absurd (omega arith);
    decided = ap result_err is_r ∙ sym (ap (refused_at 0) is);
  }

  pub accepted : ((x y : R) → text x ≡ text y → x ≡ y) → (x : R) → questions line ≡ None → line ≡ text x → Reads text (questions line) line (Ok x)
  accepted told x is same = record {
    back = λ y other. ap Ok (told x y (sym same ∙ other));
    only = λ y other. let equal : x ≡ y = cc in same ∙ ap text equal;
    decided = sym (ap (refused_at 0) is);
  }

-- the fields of a line are digits where the line is hexadecimal
pub fields_digits : (line : List ℕ) → hexadecimal line ≡ true → are_digits (drop 2 line) ≡ true
fields_digits line h =
    let digits = (and_parts (are_digits line) (eqb (length line % 2) 0 && leb 2 (length line)) h).0 in
    hex_digits (drop 2 line) (All-drop (λ c. value_of c < 16) 2 line (hex_from line digits))

-- a hexadecimal line is the digits of its kind byte and its fields
line_parts : (line : List ℕ) (byte : ℕ) → hexadecimal line ≡ true → byte ≡ number_of (take 2 line) → line ≡ digits_of 2 byte ++ drop 2 line
line_parts line byte h is =
    let parts = and_parts (are_digits line) (eqb (length line % 2) 0 && leb 2 (length line)) h in
    let two : 2 ≤ length line = leb-true 2 (length line) (and_parts (eqb (length line % 2) 0) (leb 2 (length line)) parts.1).1 in
    let long : length (take 2 line) ≡ 2 = length-take-le 2 line two in
    let hex = All-take (λ c. value_of c < 16) 2 line (hex_from line parts.0) in
    let first : digits_of 2 byte ≡ take 2 line = ap (digits_of 2) is ∙ ap (λ n. digits_of n (number_of (take 2 line))) (sym long) ∙ digits_of_number (take 2 line) hex in
    sym (take-append-drop 2 line) ∙ ap (λ l. l ++ drop 2 line) (sym first)

-- a kind of frame and its records
module _ {R : Type 0} (k : Kind) (ok : Sound k) (figures : R → List ℕ)
    (carried : (x : R) → carries k.widths (figures x) ≡ true)
    (chosen : (x : R) → choice_lawful k (figures x) ≡ true)
    (told : (x y : R) → figures x ≡ figures y → x ≡ y)
    (made : (numbers : List ℕ) → carries k.widths numbers ≡ true → choice_lawful k numbers ≡ true → (x : R) × (figures x ≡ numbers)) where
  abbrev text : R → List ℕ
  text x = text_of k.widths (figures x)

  abbrev whole : R → List ℕ
  whole x = line_of k (figures x)

  -- the fields of a record pass every question
  fields_pass : (x : R) → fields_refusal k (text x) ≡ None
  fields_pass x =
      let long = eq-eqb (length (text x)) (2 * bytes k.widths) (length_text k.widths (figures x) (carried x)) in
      let choice = ok.choice (text x) ∙ ap (choice_lawful k) (numbers_text k.widths (figures x) (carried x)) ∙ chosen x in
      ap (λ b. ask b WrongLength (ask (choice_known k (text x)) UnknownChoice None)) long ∙ ap (λ b. ask b UnknownChoice None) choice

  text_digits : (x : R) → are_digits (text x) ≡ true
  text_digits x = hex_digits _ (hex_text k.widths (figures x))

  digits_pass : (x : R) → digits_refusal k (text x) ≡ None
  digits_pass x = ap (λ b. ask b NotHexadecimal (fields_refusal k (text x))) (text_digits x) ∙ fields_pass x

  text_told : (x y : R) → text x ≡ text y → x ≡ y
  text_told x y e = told x y (sym (numbers_text k.widths (figures x) (carried x)) ∙ ap (numbers_of k.widths) e ∙ numbers_text k.widths (figures y) (carried y))

  -- fields that are no digits, or that fail the questions
  pub fields_refused : (fields : List ℕ) (e : Refusal) (r : Result R Fault) → r ≡ Err (frame_fault e) → digits_refusal k fields ≡ Some e → Reads text (digits_refusal k fields) fields r
  fields_refused fields e r is_r is = refused text (digits_refusal k) digits_pass fields e r is_r is

  module _ (fields : List ℕ) (digits : are_digits fields ≡ true) (passed : fields_refusal k fields ≡ None) where
    long : length fields ≡ 2 * bytes k.widths
    long = eqb-true _ _ (asked (eqb (length fields) (2 * bytes k.widths)) (ask (choice_known k fields) UnknownChoice None) WrongLength passed).0

    choice : choice_known k fields ≡ true
    choice = (asked (choice_known k fields) None UnknownChoice (asked (eqb (length fields) (2 * bytes k.widths)) (ask (choice_known k fields) UnknownChoice None) WrongLength passed).1).0

    -- are those of a record
    pub fields_made : ((x : R) → figures x ≡ numbers_of k.widths fields → ⊥) → ⊥
    fields_made none =
        let x = made (numbers_of k.widths fields) (carried_numbers k.widths fields (hex_from fields digits) long) (sym (ok.choice fields) ∙ choice) in
        none x.0 x.1

    pub fields_accepted : (x : R) → figures x ≡ numbers_of k.widths fields → Reads text (digits_refusal k fields) fields (Ok x)
    fields_accepted x is =
        accepted text (digits_refusal k) digits_pass fields text_told x
        (ap (λ b. ask b NotHexadecimal (fields_refusal k fields)) digits ∙ passed)
        (sym (text_numbers k.widths fields (hex_from fields digits) long) ∙ ap (text_of k.widths) (sym is))

  -- a reader that knows the kind
  module _ (kinds : List Kind) (known : find_kind kinds k.byte ≡ Some k) where
    -- of a line of this kind, the questions are those put to its fields
    pub line_questions : (line : List ℕ) → hexadecimal line ≡ true → k.byte ≡ number_of (take 2 line) → line_refusal kinds line ≡ fields_refusal k (drop 2 line)
    line_questions line h is =
        ap (λ b. ask b NotHexadecimal (kind_refusal (find_kind kinds (number_of (take 2 line))) (drop 2 line))) h
        ∙ ap (λ n. kind_refusal (find_kind kinds n) (drop 2 line)) (sym is)
        ∙ ap (λ o. kind_refusal o (drop 2 line)) known

    -- the line of a record passes every question
    pub line_pass : (x : R) → line_refusal kinds (whole x) ≡ None
    line_pass x =
        let line = whole x in
        let two_long = length_digits_of 2 k.byte in
        let long = length_line k (figures x) (carried x) in
        let even : length line % 2 ≡ 0 = omega (arith, long) in
        let two : 2 ≤ length line = omega (arith, long) in
        let digits = hex_digits line (All-append (λ c. value_of c < 16) (digits_of 2 k.byte) (text x) (hex_digits_of 2 k.byte) (hex_text k.widths (figures x))) in
        let first : take 2 line ≡ digits_of 2 k.byte = take_at (digits_of 2 k.byte) (text x) 2 two_long in
        let rest : drop 2 line ≡ text x = drop_at (digits_of 2 k.byte) (text x) 2 two_long in
        line_questions line (is_hexadecimal line digits even two) (sym (ap number_of first ∙ number_digits_of 2 k.byte ok.byte))
        ∙ ap (fields_refusal k) rest ∙ fields_pass x

    -- no two records have one line
    pub whole_told : (x y : R) → whole x ≡ whole y → x ≡ y
    whole_told x y e =
        let rest = λ (z : R). drop_at (digits_of 2 k.byte) (text z) 2 (length_digits_of 2 k.byte) in
        text_told x y (sym (rest x) ∙ ap (drop 2) e ∙ rest y)

    -- a line of this kind that passes every question is the line of a record
    pub line_made : (line : List ℕ) → line_refusal kinds line ≡ None → find_kind kinds (number_of (take 2 line)) ≡ Some k → (x : R) × (line ≡ whole x)
    line_made line passes found =
        let fields = drop 2 line in
        let first = asked (hexadecimal line) (kind_refusal (find_kind kinds (number_of (take 2 line))) fields) NotHexadecimal passes in
        let passed : fields_refusal k fields ≡ None = sym (ap (λ o. kind_refusal o fields) found) ∙ first.1 in
        let digits = fields_digits line first.0 in
        let size = long fields digits passed in
        let x = made (numbers_of k.widths fields) (carried_numbers k.widths fields (hex_from fields digits) size) (sym (ok.choice fields) ∙ choice fields digits passed) in (
          x.0,
          line_parts line k.byte first.0 (sym (found_byte kinds (number_of (take 2 line)) k found))
              ∙ ap (λ l. digits_of 2 k.byte ++ l) (sym (text_numbers k.widths fields (hex_from fields digits) size) ∙ ap (text_of k.widths) (sym x.1)),
        )

    pub line_refused : (line : List ℕ) (e : Refusal) (r : Result R Fault) → r ≡ Err (frame_fault e) → line_refusal kinds line ≡ Some e → Reads whole (line_refusal kinds line) line r
    line_refused line e r is_r is = refused whole (line_refusal kinds) line_pass line e r is_r is

    -- what the fields of a line tell, the line tells
    pub line_reads : (line fields : List ℕ) → hexadecimal line ≡ true → k.byte ≡ number_of (take 2 line) → fields ≡ drop 2 line → (r : Result R Fault) → Reads text (digits_refusal k fields) fields r → Reads whole (line_refusal kinds line) line r
    line_reads line fields h is is_fields r reads = record {
      back = λ x e. reads.back x (is_fields ∙ ap (drop 2) e ∙ drop_at (digits_of 2 k.byte) (text x) 2 (length_digits_of 2 k.byte));
      only = λ x e. line_parts line k.byte h is ∙ ap (λ l. digits_of 2 k.byte ++ l) (sym is_fields ∙ reads.only x e);
      decided = reads.decided ∙ ap (refused_at 0)
          (ap (digits_refusal k) is_fields
          ∙ ap (λ b. ask b NotHexadecimal (fields_refusal k (drop 2 line))) (fields_digits line h)
          ∙ sym (line_questions line h is));
    }
