-- What an intake does with a line that is a frame. Assumes nothing.
use Rattle.std.proofs.Common.{◌≡◌, ℕ, true, List, take, drop, ℤ, Some, None, Ok, Err, Option, Result, sym, refl, ap, ◌∙◌, subst, arith}
use Rattle.terms.specs.Refusals.{refused_at}
use Rattle.terms.specs.declared.fault.Fault.{Fault}
use Rattle.terms.specs.declared.refusal.Refusal.TheVariants.{NotHexadecimal}
use Rattle.terms.specs.Questions.{ask, or_else}
use Rattle.frames.specs.Frames.{digits_refusal, fields_refusal, hexadecimal, kind_refusal, line_refusal}
use Rattle.frames.specs.Hex.{number_of}
use Rattle.frames.specs.Kinds.{all_kinds, find_kind}
use Rattle.terms.proofs.Answered.{asked}
use Rattle.frames.proofs.Reading.{fields_digits}
use Rattle.frames.proofs.Sound.{found_byte}
use Rattle.lines.specs.declared.frame_line.FrameLine.{FrameLine}
use Rattle.lines.specs.FrameLines.{Framed, kind_of, part_of}
use Rattle.books.specs.declared.table.NetTable.{NetTable}
use Rattle.sheets.specs.declared.draft.Draft.{Draft}
use Rattle.entries.specs.declared.intake.Intake.{Intake}
use Rattle.entries.specs.declared.intake.Stage.{Stage}
use Rattle.entries.specs.declared.intake.Stage.TheVariants.{Rows, Bookings}
use Rattle.entries.specs.Desks.{Desk, booking_fault, entered, entry_fault, in_order, line_fault_lem, out_of_order, row_fault, with_brought}
use Rattle.entries.specs.Entries.{Row, Entry, row_entry, booking_entry, brought, entry_of}
use Rattle.entries.specs.Intakes.{Adds, Posts, TakesLine, desk_of}

-- ---- what a frame tells of its line

module _ (line : List ℕ) (at : ℕ) (frame other : FrameLine) (framed : Framed line at frame) (same : frame ≡ other) where
  -- its fields pass every question
  pub fields_pass : digits_refusal (kind_of other) (part_of other).digits.text.now ≡ None
  fields_pass =
      let byte = number_of (take 2 line) in
      let passed = asked (hexadecimal line) (kind_refusal (find_kind all_kinds byte) (drop 2 line)) NotHexadecimal framed.passes in
      let kinds : fields_refusal (kind_of frame) (drop 2 line) ≡ None = sym (ap (λ o. kind_refusal o (drop 2 line)) framed.kind) ∙ passed.1 in
      let digits : digits_refusal (kind_of frame) (drop 2 line) ≡ None = ap (λ b. ask b NotHexadecimal (fields_refusal (kind_of frame) (drop 2 line))) (fields_digits line passed.0) ∙ kinds in
      sym (ap (λ f. digits_refusal (kind_of f) (part_of f).digits.text.now) same) ∙ ap (digits_refusal (kind_of frame)) framed.fields ∙ digits

  -- and say what the line brings
  pub frame_brings : entry_of line ≡ brought (kind_of other).byte (part_of other).digits.text.now
  frame_brings =
      ap (λ b. brought b (drop 2 line)) (found_byte all_kinds (number_of (take 2 line)) (kind_of frame) framed.kind)
      ∙ ap (brought (kind_of frame).byte) (sym framed.fields)
      ∙ ap (λ f. brought (kind_of f).byte (part_of f).digits.text.now) same

-- ---- what an intake does with it

-- a booking is in order at any stage
pub always : (s : Stage) (security : ℕ) (quantity : ℤ) → in_order s (booking_entry security quantity) ≡ true
always Rows security quantity = refl
always Bookings security quantity = refl

module _ (i : Intake) (line : List ℕ) (passes : line_refusal all_kinds line ≡ None) where
  abbrev d : Desk
  d = desk_of i

  brings : (o : Option Entry) → entry_of line ≡ o → line_fault_lem d line ≡ entry_fault d o
  brings o is = ap (λ q. or_else (refused_at 0 q) (entry_fault d (entry_of line))) passes ∙ ap (entry_fault d) is

  -- a row goes to the draft
  pub row_taken : (row : Row) → entry_of line ≡ Some (row_entry row) → i.stage ≡ Rows → (result : Result (Unit {0}) Fault) (after : Draft) → Adds row i.draft result after
      → TakesLine i line result (record { stage = i.stage; draft = after; book = i.book })
  row_taken row is stage result after adds = record {
    decided = adds.decided ∙ sym (brings (Some (row_entry row)) is ∙ ap (λ s. ask (in_order s (row_entry row)) out_of_order (row_fault d.rows row)) stage);
    refused = λ no. ap (λ x. record { stage = i.stage; draft = x; book = i.book }) (adds.refused no);
    moved = λ ok. (λ j. record { stage = i.stage; rows = adds.moved ok j; account = d.account }) ∙ sym (ap (with_brought d) is);
  }

  -- a booking goes to the book
  module _ (security : ℕ) (quantity : ℤ) (is : entry_of line ≡ Some (booking_entry security quantity)) where
    books : line_fault_lem d line ≡ booking_fault d.account (entered security quantity)
    books = brings (Some (booking_entry security quantity)) is ∙ ap (λ b. ask b out_of_order (booking_fault d.account (entered security quantity))) (always i.stage security quantity)

    pub booking_taken : (after : NetTable) → Posts security quantity i.book (Ok tt) after → TakesLine i line (Ok tt) (record { stage = Bookings; draft = i.draft; book = after })
    booking_taken after posts = record {
      decided = posts.decided ∙ sym books;
      refused = λ no. absurd (let z : ◌≡◌ {A = ℕ} 0 1 = cc in omega arith);
      moved = λ ok. (λ j. record { stage = Bookings; rows = d.rows; account = posts.moved refl j }) ∙ sym (ap (with_brought d) is);
    }

    pub booking_refused : (f : Fault) (after : NetTable) → Posts security quantity i.book (Err f) after → (result : Result (Unit {0}) Fault) → result ≡ Err f
        → TakesLine i line result (record { stage = i.stage; draft = i.draft; book = after })
    booking_refused f after posts result err = subst (λ r. TakesLine i line r (record { stage = i.stage; draft = i.draft; book = after })) (sym err) (record {
      decided = posts.decided ∙ sym books;
      refused = λ no. ap (λ x. record { stage = i.stage; draft = i.draft; book = x }) (posts.refused refl);
      moved = λ ok. absurd (let z : ◌≡◌ {A = ℕ} 0 1 = cc in omega arith);
    })
