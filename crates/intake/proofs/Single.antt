-- A text has no two readings. Assumes nothing.
use Rattle.std.proofs.Common.{◌≡◌, ℕ, List, [], ◌∷◌, ◌++◌, map, Some, None, Option, sym, refl, ap, ◌∙◌, subst, arith}
use Rattle.std.proofs.lemmas.List.{append-nil, append_assoc}
use Rattle.terms.specs.Refusals.{refused_at}
use Rattle.terms.specs.declared.fault.Fault.{Fault}
use Rattle.terms.specs.declared.layer.Layer.TheVariants.{Book}
use Rattle.terms.specs.Questions.{fault_of}
use Rattle.frames.specs.declared.kinds.booking.BookingRecord.{BookingRecord}
use Rattle.positions.specs.Questions.{portfolio_fault}
use Rattle.entries.specs.Desks.{line_fault_lem}
use Rattle.intake.specs.Listings.{RowRecord, row_frame, booking_frame, sheet_of, nets_of, AcceptsRow, AcceptsBooking, Each}
use Rattle.intake.specs.Readings.{of_row, of_booking, place_of, RefusedAfter, Reading, too_long, line_refused, deposit_refused, deposit_told, Begins, IsReading}
use Rattle.intake.proofs.Decoding.{row_told, booking_told_by, row_no_booking}
use Rattle.intake.proofs.Runs.{desk_with, fault_is, refused_is}
use Rattle.intake.proofs.Splitting.{Halts}
use Rattle.intake.proofs.Texts.{lines_are}

-- ---- frames that are accepted, up to what does not begin with one that is

module _ {A : Type 0} (frame : A → List ℕ) (told : (x y : A) → frame x ≡ frame y → x ≡ y) (P : List A → A → Type 0) where
  abbrev Stops : List A → List (List ℕ) → Type 0
  Stops xs rest = (x : A) (more : List (List ℕ)) → rest ≡ frame x ∷ more → P xs x → ⊥

  goes_on : (before : List A) (y : A) (ys : List A) (rest more : List (List ℕ)) → Each P (before ++ y ∷ ys) → Stops (before ++ []) rest → rest ≡ frame y ∷ more → ⊥
  goes_on before y ys rest more each stops e = stops y more e (subst (λ l. P l y) (sym (append-nil before)) (each before ys y refl))

  pub same_front : (before xs ys : List A) (rest other : List (List ℕ)) → Each P (before ++ xs) → Each P (before ++ ys) → Stops (before ++ xs) rest → Stops (before ++ ys) other
      → map frame xs ++ rest ≡ map frame ys ++ other → (xs ≡ ys) × (rest ≡ other)
  same_front before [] [] rest other p q s t e = (refl, e)
  same_front before [] (y ∷ ys) rest other p q s t e = absurd (goes_on before y ys rest (map frame ys ++ other) q s e)
  same_front before (x ∷ xs) [] rest other p q s t e = absurd (goes_on before x xs other (map frame xs ++ rest) p t (sym e))
  same_front before (x ∷ xs) (y ∷ ys) rest other p q s t e =
      let head : frame x ≡ frame y = cc in
      let tail : map frame xs ++ rest ≡ map frame ys ++ other = cc in
      let same : x ≡ y = told x y head in
      let mine : before ++ x ∷ xs ≡ (before ++ x ∷ []) ++ xs = sym (append_assoc before (x ∷ []) xs) in
      let theirs : before ++ y ∷ ys ≡ (before ++ x ∷ []) ++ ys = ap (λ z. before ++ z ∷ ys) (sym same) ∙ sym (append_assoc before (x ∷ []) ys) in
      let later = same_front (before ++ x ∷ []) xs ys rest other (subst (Each P) mine p) (subst (Each P) theirs q) (subst (λ l. Stops l rest) mine s) (subst (λ l. Stops l other) theirs t) tail in
      (ap (λ z. z ∷ xs) same ∙ ap (λ l. y ∷ l) later.0, later.1)

-- ---- a refused line is no accepted one

not_both : (o : Option Fault) (f : Fault) → o ≡ Some f → o ≡ None → ⊥
not_both o f p q = let z : ◌≡◌ {A = ℕ} 0 1 = cc in omega arith

no_row : (items : List RowRecord) (line : List ℕ) (f : Fault) → RefusedAfter items [] line f → (item : RowRecord) → line ≡ row_frame item → AcceptsRow items item → ⊥
no_row items line f refused item is accepted =
    not_both (line_fault_lem (desk_with items []) line) f (refused_is items [] line f refused) (fault_is items [] (of_row item) line is ∙ ap (refused_at (place_of item)) accepted)

no_booking : (items : List RowRecord) (bookings : List BookingRecord) (line : List ℕ) (f : Fault) → RefusedAfter items bookings line f → (b : BookingRecord) → line ≡ booking_frame b
    → AcceptsBooking bookings b → ⊥
no_booking items bookings line f refused b is accepted =
    not_both (line_fault_lem (desk_with items bookings) line) f (refused_is items bookings line f refused) (fault_is items bookings (of_booking b) line is ∙ ap (fault_of Book b.security) accepted)

module _ (items : List RowRecord) where
  rows_stop : (bookings : List BookingRecord) (later : List (List ℕ)) → Halts items bookings later → Stops row_frame row_told AcceptsRow items (map booking_frame bookings ++ later)
  rows_stop [] [] halts = λ item more e accepted. let z : ◌≡◌ {A = ℕ} 0 1 = cc in omega arith
  rows_stop [] (line ∷ later) halts = λ item more e accepted. let is : line ≡ row_frame item = cc in no_row items line halts.0 halts.1 item is accepted
  rows_stop (b ∷ bookings) later halts = λ item more e accepted. let is : booking_frame b ≡ row_frame item = cc in row_no_booking b item is

  bookings_stop : (bookings : List BookingRecord) (later : List (List ℕ)) → Halts items bookings later → Stops booking_frame booking_told_by AcceptsBooking bookings later
  bookings_stop bookings [] halts = λ b more e accepted. let z : ◌≡◌ {A = ℕ} 0 1 = cc in omega arith
  bookings_stop bookings (line ∷ later) halts = λ b more e accepted. let is : line ≡ booking_frame b = cc in no_booking items bookings line halts.0 halts.1 b is accepted

-- ---- so a text begins in one way

pub record Same (items others : List RowRecord) (bookings booked : List BookingRecord) (later rest : List (List ℕ)) : Type 0 where
  pub rows : items ≡ others
  pub bookings_same : bookings ≡ booked
  pub lines : later ≡ rest

begins_once : (text : List ℕ) (items others : List RowRecord) (bookings booked : List BookingRecord) (later rest : List (List ℕ)) → Begins items bookings later text → Begins others booked rest text
    → Halts items bookings later → Halts others booked rest → Same items others bookings booked later rest
begins_once text items others bookings booked later rest p q halts stops =
    let whole : map row_frame items ++ (map booking_frame bookings ++ later) ≡ map row_frame others ++ (map booking_frame booked ++ rest) =
    sym (append_assoc (map row_frame items) (map booking_frame bookings) later)
    ∙ sym (lines_are items bookings later text p.lines p.unbroken) ∙ lines_are others booked rest text q.lines q.unbroken
    ∙ append_assoc (map row_frame others) (map booking_frame booked) rest in
    let rows = same_front row_frame row_told AcceptsRow [] items others (map booking_frame bookings ++ later) (map booking_frame booked ++ rest) p.rows_accepted q.rows_accepted
    (rows_stop items bookings later halts) (rows_stop others booked rest stops) whole in
    let nets = same_front booking_frame booking_told_by AcceptsBooking [] bookings booked later rest p.bookings_accepted q.bookings_accepted
    (bookings_stop items bookings later halts) (bookings_stop others booked rest stops) rows.1 in
    record { rows = rows.0; bookings_same = nets.0; lines = nets.1 }

-- ---- and has one reading

same_fault : (items others : List RowRecord) (bookings booked : List BookingRecord) (line other : List ℕ) (f g : Fault) → items ≡ others → bookings ≡ booked → line ≡ other
    → RefusedAfter items bookings line f → RefusedAfter others booked other g → f ≡ g
same_fault items others bookings booked line other f g rows nets is p q =
    let mine = refused_is items bookings line f p in
    let theirs = refused_is others booked other g q in
    let same : line_fault_lem (desk_with items bookings) line ≡ line_fault_lem (desk_with others booked) other =
    ap (λ xs. line_fault_lem (desk_with xs bookings) line) rows ∙ ap (λ bs. line_fault_lem (desk_with others bs) line) nets ∙ ap (line_fault_lem (desk_with others booked)) is in
    let both : Some f ≡ Some g = sym mine ∙ same ∙ theirs in
    cc

same_portfolio : (items others : List RowRecord) (bookings booked : List BookingRecord) → items ≡ others → bookings ≡ booked → portfolio_fault (sheet_of items) (nets_of bookings) ≡ portfolio_fault (sheet_of others) (nets_of booked)
same_portfolio items others bookings booked rows nets = ap (λ xs. portfolio_fault (sheet_of xs) (nets_of bookings)) rows ∙ ap (λ bs. portfolio_fault (sheet_of others) (nets_of bs)) nets

pub one_reading : (text : List ℕ) (r other : Reading) → IsReading r text → IsReading other text → r ≡ other
one_reading text too_long too_long p q = refl
one_reading text too_long (line_refused others booked other rest g) p q = absurd (omega (arith, p, q.0.short))
one_reading text too_long (deposit_refused others booked g) p q = absurd (omega (arith, p, q.0.short))
one_reading text too_long (deposit_told others booked) p q = absurd (omega (arith, p, q.0.short))
one_reading text (line_refused items bookings line later f) too_long p q = absurd (omega (arith, q, p.0.short))
one_reading text (line_refused items bookings line later f) (line_refused others booked other rest g) p q =
    let same = begins_once text items others bookings booked (line ∷ later) (other ∷ rest) p.0 q.0 (f, p.1) (g, q.1) in
    let is : line ≡ other = cc (same.lines) in
    let behind : later ≡ rest = cc (same.lines) in
    let fault : f ≡ g = same_fault items others bookings booked line other f g same.rows same.bookings_same is p.1 q.1 in
    cc (same.rows, same.bookings_same)
one_reading text (line_refused items bookings line later f) (deposit_refused others booked g) p q =
    let same = (begins_once text items others bookings booked (line ∷ later) [] p.0 q.0 (f, p.1) tt).lines in
    let z : ◌≡◌ {A = ℕ} 0 1 = cc in absurd (omega arith)
one_reading text (line_refused items bookings line later f) (deposit_told others booked) p q =
    let same = (begins_once text items others bookings booked (line ∷ later) [] p.0 q.0 (f, p.1) tt).lines in
    let z : ◌≡◌ {A = ℕ} 0 1 = cc in absurd (omega arith)
one_reading text (deposit_refused items bookings f) too_long p q = absurd (omega (arith, q, p.0.short))
one_reading text (deposit_refused items bookings f) (line_refused others booked other rest g) p q =
    let same = (begins_once text items others bookings booked [] (other ∷ rest) p.0 q.0 tt (g, q.1)).lines in
    let z : ◌≡◌ {A = ℕ} 0 1 = cc in absurd (omega arith)
one_reading text (deposit_refused items bookings f) (deposit_refused others booked g) p q =
    let same = begins_once text items others bookings booked [] [] p.0 q.0 tt tt in
    let both : Some f ≡ Some g = sym p.1 ∙ same_portfolio items others bookings booked same.rows same.bookings_same ∙ q.1 in
    cc (same.rows, same.bookings_same)
one_reading text (deposit_refused items bookings f) (deposit_told others booked) p q =
    let same = begins_once text items others bookings booked [] [] p.0 q.0 tt tt in
    absurd (not_both (portfolio_fault (sheet_of others) (nets_of booked)) f (sym (same_portfolio items others bookings booked same.rows same.bookings_same) ∙ p.1) q.1)
one_reading text (deposit_told items bookings) too_long p q = absurd (omega (arith, q, p.0.short))
one_reading text (deposit_told items bookings) (line_refused others booked other rest g) p q =
    let same = (begins_once text items others bookings booked [] (other ∷ rest) p.0 q.0 tt (g, q.1)).lines in
    let z : ◌≡◌ {A = ℕ} 0 1 = cc in absurd (omega arith)
one_reading text (deposit_told items bookings) (deposit_refused others booked g) p q =
    let same = begins_once text items others bookings booked [] [] p.0 q.0 tt tt in
    absurd (not_both (portfolio_fault (sheet_of items) (nets_of bookings)) g (same_portfolio items others bookings booked same.rows same.bookings_same ∙ q.1) p.1)
one_reading text (deposit_told items bookings) (deposit_told others booked) p q =
    let same = begins_once text items others bookings booked [] [] p.0 q.0 tt tt in
    cc (same.rows, same.bookings_same)
