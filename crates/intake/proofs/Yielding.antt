-- What is told of a text is what its one reading asks for. Assumes nothing.
use Rattle.std.proofs.Common.{◌≡◌, ℕ, ◌+◌, ◌<◌, ◌≤◌, Bool, true, leb, List, [], ◌∷◌, ◌++◌, length, drop, ℤ, None, Result, inl, inr, refl, ap, ◌∙◌, sym, subst, ⊎_elim, le-leb, arith}
use Rattle.std.proofs.lemmas.Bool.{cases_lt, lt-leb}
use Rattle.terms.specs.Refusals.{answer_at}
use Rattle.terms.specs.declared.fault.Fault.{Fault}
use Rattle.terms.specs.declared.refusal.Refusal.TheVariants.{AnswerMemoryTooShort, TextTooLong}
use Rattle.terms.specs.Limits.{answer_memory, text_limit}
use Rattle.terms.specs.Questions.{ask}
use Rattle.frames.specs.declared.kinds.booking.BookingRecord.{BookingRecord}
use Rattle.lines.specs.Lines.{fed}
use Rattle.rules.specs.Laws.{Matching}
use Rattle.rules.specs.Margin.{net_value, rounded, sums_of}
use Rattle.rules.proofs.Accuracy.{accuracy}
use Rattle.rules.proofs.Theorems.{matching, no_negative}
use Rattle.positions.proofs.Agreeing.{all_asked, amounts_small}
use Rattle.entries.specs.Desks.{nothing_taken}
use Rattle.entries.specs.Reading.{after_lines}
use Rattle.intake.specs.Answering.{answer_bytes, answer_lines, call_answer, deposit_lines, memory_after, tell_answer, tell_memory, text_lines, text_too_long, told_lines, unless_long, unless_refused}
use Rattle.intake.specs.Listings.{RowRecord, sheet_of, nets_of}
use Rattle.intake.specs.Readings.{Reading, too_long, line_refused, deposit_refused, deposit_told, Begins, IsReading}
use Rattle.intake.specs.Yields.{LawsFor, ReadAs, YieldsFrames, YieldsMargin, YieldsInC, TellsMargin, lines_for}
use Rattle.intake.proofs.Faulting.{deposit_place, fault_fits, refused_fits}
use Rattle.intake.proofs.Fitting.{classes_fit, total_fits}
use Rattle.intake.proofs.Runs.{desk_with, frames_run, refused_is, refused_run, rows_lawful}
use Rattle.intake.proofs.Single.{one_reading}
use Rattle.intake.proofs.Splitting.{found_reading}
use Rattle.intake.proofs.Texts.{lines_are}
use Rattle.intake.proofs.Whole.{told_short}

-- ---- a reading says what is told

begun : (items : List RowRecord) (bookings : List BookingRecord) (later : List (List ℕ)) (text : List ℕ) → Begins items bookings later text
    → told_lines text ≡ answer_lines (after_lines (length items + length bookings + 1) (desk_with items bookings) later)
begun items bookings later text b =
    told_short text b.short
    ∙ ap (λ lines. answer_lines (after_lines 1 nothing_taken lines)) (lines_are items bookings later text b.lines b.unbroken)
    ∙ ap answer_lines (frames_run items bookings b.rows_accepted b.bookings_accepted later)

pub told_for : (text : List ℕ) (r : Reading) → IsReading r text → told_lines text ≡ lines_for r
told_for text too_long long = ap (λ b. unless_long (ask b TextTooLong None) text) (lt-leb (length text) text_limit long)
told_for text (line_refused items bookings line later f) is =
    begun items bookings (line ∷ later) text is.0
    ∙ ap answer_lines (refused_run (length items + length bookings + 1) (desk_with items bookings) line later f (refused_is items bookings line f is.1))
told_for text (deposit_refused items bookings f) is = begun items bookings [] text is.0 ∙ ap (λ o. deposit_lines o (sheet_of items) (nets_of bookings)) is.1
told_for text (deposit_told items bookings) is = begun items bookings [] text is.0 ∙ ap (λ o. deposit_lines o (sheet_of items) (nets_of bookings)) is.1

laws_for : (text : List ℕ) (r : Reading) → IsReading r text → LawsFor r
unfolding Matching
laws_for text too_long is = fault_fits text_too_long 0 (omega arith) (omega arith)
laws_for text (line_refused items bookings line later f) is = refused_fits items bookings line later f text is.0 is.1
laws_for text (deposit_refused items bookings f) is = fault_fits f 0 (omega arith) (deposit_place (sheet_of items) (nets_of bookings) f is.1)
laws_for text (deposit_told items bookings) is =
    let rows = sheet_of items in
    let nets = nets_of bookings in
    let lawful = rows_lawful items is.0.rows_accepted in
    let amounts = amounts_small rows lawful nets (all_asked rows nets is.1) in
    record {
      accurate = accuracy rows lawful nets;
      matched = matching rows lawful (net_value rounded rows nets);
      owed = no_negative rows lawful (sums_of rounded rows nets);
      classes_fit = classes_fit rows lawful nets amounts;
      total_fits = total_fits rows lawful nets amounts;
    }

pub read_as : (text : List ℕ) → ReadAs text
read_as text =
    let found = found_reading text in
    record {
      reading = found.0;
      is = found.1;
      only = λ other is. one_reading text other found.0 is found.1;
      laws = laws_for text found.0 found.1;
    }

-- ---- and so do the calls

module _ (text before : List ℕ) where
  frames_yielded : (lines : List (List ℕ)) → lines ≡ told_lines text → YieldsFrames text before (length (fed lines)) (fed lines ++ drop (length (fed lines)) before)
  frames_yielded lines are =
      let read = read_as text in
      let same : lines ≡ lines_for read.reading = are ∙ told_for text read.reading read.is in
      (read, record { told = ap (λ l. length (fed l)) same; memory = ap (λ l. fed l ++ drop (length (fed lines)) before) same })

  abbrev tell_by : Bool → Type 0
  tell_by room =
      let lines = told_lines text in
      TellsMargin text before (answer_at 0 (length (fed lines)) (ask room AnswerMemoryTooShort None)) (unless_refused (ask room AnswerMemoryTooShort None) (fed lines) before)

  told_yields : TellsMargin text before (tell_answer text before) (tell_memory text before)
  told_yields = ⊎_elim
      (λ (l : length before < answer_memory). subst tell_by (sym (lt-leb answer_memory (length before) l)) (refl, refl, l))
      (λ (l : answer_memory ≤ length before). subst tell_by (sym (le-leb answer_memory (length before) l)) (l, frames_yielded (told_lines text) refl))
      (cases_lt (length before) answer_memory)

  abbrev answer_by : Bool → Bool → Type 0
  answer_by room short =
      let refused = ask room AnswerMemoryTooShort (ask short TextTooLong None) in
      YieldsMargin text before (answer_at 0 (length (answer_bytes text)) refused) (unless_refused refused (answer_bytes text) before)

  answered : (answer_memory ≤ length before) → answer_by true (leb (length text) text_limit)
  answered enough = ⊎_elim
      (λ (l : text_limit < length text). subst (answer_by true) (sym (lt-leb (length text) text_limit l)) (refl, inr (refl, enough, l)))
      (λ (l : length text ≤ text_limit). subst (answer_by true) (sym (le-leb (length text) text_limit l)) (enough, l, frames_yielded (text_lines text) (sym (told_short text l))))
      (cases_lt text_limit (length text))

  answer_yields : YieldsMargin text before (call_answer text before) (memory_after text before)
  answer_yields = ⊎_elim
      (λ (l : length before < answer_memory). subst (λ room. answer_by room (leb (length text) text_limit)) (sym (lt-leb answer_memory (length before) l)) (refl, inl (refl, l)))
      (λ (l : answer_memory ≤ length before). subst (λ room. answer_by room (leb (length text) text_limit)) (sym (le-leb answer_memory (length before) l)) (answered l))
      (cases_lt (length before) answer_memory)

  pub tells : (result : Result ℕ Fault) (after : List ℕ) → result ≡ tell_answer text before → after ≡ tell_memory text before → TellsMargin text before result after
  tells result after told memory = subst (λ r. TellsMargin text before r after) (sym told) (subst (TellsMargin text before (tell_answer text before)) (sym memory) told_yields)

  pub yields : (result : Result ℕ Fault) (after : List ℕ) → result ≡ call_answer text before → after ≡ memory_after text before → YieldsMargin text before result after
  yields result after told memory = subst (λ r. YieldsMargin text before r after) (sym told) (subst (YieldsMargin text before (call_answer text before)) (sym memory) answer_yields)

-- what holds of the number that C is told holds of the same number
pub told_on : (text before after : List ℕ) (told r : ℤ) → YieldsInC text before told after → r ≡ told → YieldsInC text before r after
told_on text before after told r yields same = (yields.0, same ∙ yields.1, yields.2)
