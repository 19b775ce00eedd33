-- Orders beside the first places of a log's memory, and their lines. Assumes nothing.
use Rattle.std.proofs.Common.{◌≡◌, ℕ, zero, suc, ◌+◌, ◌<◌, ◌≤◌, List, [], ◌∷◌, ◌++◌, length, take, get_or, Option, Some, None, refl, sym, ap, ◌∙◌, ⊎_elim, append_assoc, append-nil, arith}
use Rattle.std.proofs.lemmas.List.{length-take-le}
use Rattle.std.proofs.lemmas.Option.{slice_get_cases, slice_get_past, slice_get_read}
use Rattle.std.proofs.lemmas.Slice.Zip.{firsts-zip, seconds-zip}
use Rattle.std.specs.List.{slice_get, zip}
use Rattle.std.specs.Option.{option_copied}
use Rattle.std.specs.Slice.{IsItemAt}
use denote.Bor.{Bor}
use Rattle.histories.specs.declared.step.Entry.{Entry}
use Rattle.replay.specs.declared.order.Order.{Order}
use Rattle.replay.specs.Days.{entries_of, orders_of}
use Rattle.replay.specs.Words.{answer_lines, answers_lines}

pub orders_first : (orders : List Order) (places entries : List Entry) → length orders ≤ length places → entries ≡ take (length orders) places → orders_of (zip orders entries) ≡ orders
orders_first orders places entries room e = firsts-zip orders entries (ap length e ∙ length-take-le (length orders) places room)

pub entries_second : (orders : List Order) (places entries : List Entry) → length orders ≤ length places → entries ≡ take (length orders) places → entries_of (zip orders entries) ≡ take (length orders) places
entries_second orders places entries room e = seconds-zip orders entries (ap length e ∙ length-take-le (length orders) places room) ∙ e

-- the lines of one answer more
one_more : (i : ℕ) (orders : List Order) (entries : List Entry) (o : Order) (e : Entry) → i < length orders → i < length entries
    → answers_lines (zip (take i orders) entries) ++ answer_lines (get_or orders i o) (Some (get_or entries i e)) ≡ answers_lines (zip (take (suc i) orders) entries)
one_more i [] entries o e l m = absurd (omega arith)
one_more i (order ∷ orders) [] o e l m = absurd (omega arith)
one_more zero (order ∷ orders) (entry ∷ entries) o e l m = sym (append-nil (answer_lines order (Some entry)))
one_more (suc i) (order ∷ orders) (entry ∷ entries) o e l m =
    append_assoc (answer_lines order (Some entry)) (answers_lines (zip (take i orders) entries)) (answer_lines (get_or orders i o) (Some (get_or entries i e)))
    ∙ ap (λ lines. answer_lines order (Some entry) ++ lines) (one_more i orders entries o e (omega arith) (omega arith))

-- past the last entry there is none
no_more : (i : ℕ) (orders : List Order) (entries : List Entry) → length entries ≤ i → zip (take i orders) entries ≡ zip (take (suc i) orders) entries
no_more zero [] entries l = refl
no_more (suc i) [] entries l = refl
no_more zero (order ∷ orders) [] l = refl
no_more zero (order ∷ orders) (entry ∷ entries) l = absurd (omega arith)
no_more (suc i) (order ∷ orders) [] l = refl
no_more (suc i) (order ∷ orders) (entry ∷ entries) l = ap (λ answers. (order, entry) ∷ answers) (no_more i orders entries (omega arith))

no_lines : (order : Order) → answer_lines order None ≡ []
unfolding answer_lines
no_lines order = refl

pub answers_more : (i : ℕ) (orders : List Order) (entries : List Entry) (o : Order) (given : Option Entry) → i < length orders → given ≡ slice_get entries i
    → answers_lines (zip (take i orders) entries) ++ answer_lines (get_or orders i o) given ≡ answers_lines (zip (take (i + 1) orders) entries)
answers_more i orders entries o given l is =
    let next : suc i ≡ i + 1 = omega arith in
    let front = answers_lines (zip (take i orders) entries) in
    ⊎_elim
    (λ (h : (x : Entry) × (i < length entries) × (slice_get entries i ≡ Some x) × (get_or entries i x ≡ x)).
    ap (λ g. front ++ answer_lines (get_or orders i o) g) (is ∙ h.2 ∙ sym (ap Some h.3)) ∙ one_more i orders entries o h.0 l h.1)
    (λ (h : (length entries ≤ i) × (slice_get entries i ≡ None)).
    ap (λ g. front ++ answer_lines (get_or orders i o) g) (is ∙ h.1)
    ∙ ap (λ lines. front ++ lines) (no_lines (get_or orders i o))
    ∙ append-nil front
    ∙ ap answers_lines (no_more i orders entries h.0))
    (slice_get_cases entries i).1
    ∙ ap (λ k. answers_lines (zip (take k orders) entries)) next

-- the entry at a place, if there is one
pub lent_at : (entries : List Entry) (i : ℕ) (r : Option (Bor Entry)) → IsItemAt entries i r → option_copied r ≡ slice_get entries i
lent_at entries i None h = sym (slice_get_past entries i h.3)
lent_at entries i (Some x) h = sym (slice_get_read entries (length entries) i x.now refl h.3.0 h.1)
