-- What is told of fields, frames and lines. Assumes nothing.
use Rattle.std.proofs.Common.{◌≡◌, ℕ, List, take, drop, Some, None, Ok, Err, Option, Result, true, sym, refl, ap, ◌∙◌, codes, arith}
use Rattle.terms.specs.Refusals.{fault_at, refused_at}
use Rattle.terms.specs.declared.fault.Fault.{Fault}
use Rattle.terms.specs.declared.refusal.Refusal.{Refusal}
use Rattle.terms.specs.declared.refusal.Refusal.TheVariants.{NotHexadecimal}
use Rattle.terms.specs.Questions.{ask}
use Rattle.frames.specs.Fields.{carries, numbers_of, text_of}
use Rattle.frames.specs.Frames.{Reads, digits_refusal, fields_refusal, hexadecimal, kind_refusal, line_refusal}
use Rattle.frames.specs.Hex.{are_digits, number_of}
use Rattle.frames.specs.Kinds.{Kind, all_kinds, find_kind}
use Rattle.frames.specs.Texts.{numbers_text}
use Rattle.inspections.specs.Fields.{ReadAs, shown}
use Rattle.inspections.specs.Words.{frame_words, line_words, spoken_words, told_words, unless_refused, what_words}
use Rattle.lines.specs.declared.frame_line.FrameLine.{FrameLine}
use Rattle.lines.specs.FrameLines.{Framed, Tells, kind_of, part_of}
use Rattle.terms.proofs.Answered.{asked}
use Rattle.inspections.specs.declared.totals.Totals.{Totals}
use Rattle.inspections.specs.Sums.{Counted, totals_of}
use Rattle.std.proofs.Output.{displays_on_ok_of_eq}
use Rattle.std.specs.Fmt.{DisplaysOnOk, WritesOnOk}
use Rattle.std.specs.declared.fmt.Error.{Error}
use Rattle.std.specs.declared.fmt.Formatter.{Formatter}

same_questions : (k : Kind) (fields : List ℕ) → are_digits fields ≡ true → digits_refusal k fields ≡ fields_refusal k fields
same_questions k fields digits = ap (λ b. ask b NotHexadecimal (fields_refusal k fields)) digits

none_refused : (o : Option Refusal) → None ≡ refused_at 0 o → o ≡ None
none_refused None e = refl
none_refused (Some refusal) e = let z : ◌≡◌ {A = ℕ} 0 1 = cc in absurd (omega arith)

-- what reading digits tells, said of the numbers in them
pub read_as : {R : Type 0} (k : Kind) (figures : R → List ℕ) (fields : List ℕ) (item : R) → are_digits fields ≡ true → ((x : R) → carries k.widths (figures x) ≡ true)
    → Reads (λ x. text_of k.widths (figures x)) (digits_refusal k fields) fields (Ok item) → (fields_refusal k fields ≡ None) × (figures item ≡ numbers_of k.widths fields)
read_as k figures fields item digits carried reads = (
  none_refused (fields_refusal k fields) (reads.decided ∙ ap (refused_at 0) (same_questions k fields digits)),
  sym (numbers_text k.widths (figures item) (carried item)) ∙ ap (numbers_of k.widths) (sym (reads.only item refl)),
)

not_read : (o : Option Refusal) (f : Fault) (words : List ℕ) → Some f ≡ refused_at 0 o → codes "not a frame" ≡ unless_refused o words
not_read None f words e = let z : ◌≡◌ {A = ℕ} 0 1 = cc in absurd (omega arith)
not_read (Some refusal) f words e = refl

-- what is said of the fields of a kind
fields_said : {T : Type 0} (k : Kind) (figures : T → List ℕ) (output : T → Option (List ℕ)) (fields : List ℕ) (t : Result T Fault) → ReadAs k figures fields t
    → ((item : T) → output item ≡ Some (frame_words k.byte (figures item)))
    → shown output t ≡ Some (unless_refused (fields_refusal k fields) (frame_words k.byte (numbers_of k.widths fields)))
fields_said k figures output fields (Ok item) reads is =
    is item ∙ ap (λ n. Some (frame_words k.byte n)) reads.1 ∙ ap (λ o. Some (unless_refused o (frame_words k.byte (numbers_of k.widths fields)))) (sym reads.0)
fields_said k figures output fields (Err f) reads is = ap Some (not_read (fields_refusal k fields) f (frame_words k.byte (numbers_of k.widths fields)) reads)

-- what is said of a frame of a text
pub frame_said : {W T : Type 0} (took : W → List ℕ → W → Type 0) (f g : Formatter W) (r : Result (Unit {0}) Error) (frame told : FrameLine) (figures : T → List ℕ) (output : T → Option (List ℕ)) (t : Result T Fault)
    → frame ≡ told → ReadAs (kind_of told) figures (part_of told).digits.text.now t → DisplaysOnOk took f r (shown output t) g
    → ((item : T) → output item ≡ Some (frame_words (kind_of told).byte (figures item)))
    → WritesOnOk took f r (spoken_words frame) g
frame_said took f g r frame told figures output t is reads displays words =
    displays_on_ok_of_eq took f g r _ _
    (fields_said (kind_of told) figures output (part_of told).digits.text.now t reads words ∙ ap (λ x. Some (spoken_words x)) (sym is))
    displays

-- ---- a line

line_frame : (line : List ℕ) (at : ℕ) (frame : FrameLine) → Framed line at frame → spoken_words frame ≡ line_words line
unfolding line_words
line_frame line at frame framed =
    let kind = kind_of frame in
    let fields = drop 2 line in
    let byte = number_of (take 2 line) in
    let passes = (asked (hexadecimal line) (kind_refusal (find_kind all_kinds byte) fields) NotHexadecimal framed.passes).1 in
    let lawful : fields_refusal kind fields ≡ None = ap (λ o. kind_refusal o fields) (sym framed.kind) ∙ passes in
    ap (λ text. unless_refused (fields_refusal kind text) (frame_words kind.byte (numbers_of kind.widths text))) framed.fields
    ∙ ap (λ o. unless_refused o (frame_words kind.byte (numbers_of kind.widths fields))) lawful
    ∙ ap (λ k. told_words None k fields) (sym framed.kind)
    ∙ ap (λ o. told_words o (find_kind all_kinds byte) fields) (sym framed.passes)

line_fault : (o : Option Refusal) (kind : Option Kind) (fields : List ℕ) (f : Fault) → Some f ≡ refused_at 0 o → what_words (Err f) ≡ told_words o kind fields
line_fault None kind fields f e = let z : ◌≡◌ {A = ℕ} 0 1 = cc in absurd (omega arith)
line_fault (Some refusal) kind fields f e = let same : f ≡ fault_at 0 refusal = cc in ap (λ x. what_words (Err x)) same

-- what is said of what a line tells
pub line_said : (line : List ℕ) (at : ℕ) (r : Result FrameLine Fault) → Tells line at r → what_words r ≡ line_words line
unfolding line_words
line_said line at (Ok frame) tells = line_frame line at frame tells
line_said line at (Err f) tells = line_fault (line_refusal all_kinds line) (find_kind all_kinds (number_of (take 2 line))) (drop 2 line) f tells

-- ---- the totals

pub counted_are : (text : List (List ℕ)) (t : Totals) → Counted text t → t ≡ totals_of text
counted_are text t c i = record {
  lines = c.lines i;
  classes = c.classes i;
  securities = c.securities i;
  pairs = c.pairs i;
  bookings = c.bookings i;
  deposits = c.deposits i;
  totals = c.totals i;
  faults = c.faults i;
  refused = c.refused i;
}
