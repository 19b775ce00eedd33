-- The deposit is as near to the exact margin as the roundings allow. Assumes nothing.
use Rattle.std.proofs.Common.{◌≡◌, ℕ, ◌+◌, ◌*◌, ◌^◌, ◌<◌, ◌≤◌, ℤ, pos, ◌-ℤ◌, ◌*ℤ◌, nat_abs, Some, None, Option, refl, le_trans, arith}
use borrow.Author.Differences.{up, down, ints}
use Rattle.std.proofs.lemmas.Bool.{ltb-false}
use Rattle.terms.specs.Sums.{sum_below}
use Rattle.rules.specs.declared.rows.ClassRow.{ClassRow}
use Rattle.rules.specs.declared.rows.PairRow.{PairRow}
use Rattle.rules.specs.Rows.{Rows, Lawful, LawfulClass, LawfulPair, Present, Has, figure}
use Rattle.rules.specs.Margin.{Rounding, rounded, exact, bought, sold, net_value, KSPK, DSPAN}
use Rattle.rules.specs.Held.{held_in, held_class, securities_held, classes_held, pairs_held}
use Rattle.rules.specs.Laws.{Accuracy}
use Rattle.rules.proofs.Parts.{minus_parts}
use Rattle.rules.proofs.Sums.{sum_le, sum_times, sum_minus}
use Rattle.rules.proofs.Values.{Within, units_in, units_split, value_in_near, rounded_none, exact_none}
use Rattle.rules.proofs.Classes.{risk, risks_near, nothing, held_total}
use Rattle.rules.proofs.Walk.{every_map}
use Rattle.rules.proofs.Runs.{gap, distance, PairLawful, ZeroOff, credits_near, all_credits}
use Rattle.terms.specs.Limits.{class_count, whole}

-- ---- where the two walks start

gap_minus : (a b x y d e : ℕ) → Within d (10000000000 * a) x → Within e (10000000000 * b) y → gap (pos a -ℤ pos b) (pos x -ℤ pos y) ≤ d + e
gap_minus a b x y d e h k = omega (arith, minus_parts a b, minus_parts x y)

start_gap : (rows : Rows) → Lawful rows → (nets : ℕ → ℤ) (c : ℕ) → gap (net_value rounded rows nets c) (net_value exact rows nets c) ≤ 155000000000 * held_in rows nets c
start_gap rows h nets c =
    let d : ℕ = 155000000000 * units_in rows (λ s. up (nets s)) c in
    let e : ℕ = 155000000000 * units_in rows (λ s. down (nets s)) c in
    let same : d + e ≡ 155000000000 * held_in rows nets c = omega (arith, units_split rows nets c) in
    rw (← same) (gap_minus (bought rounded rows nets c) (sold rounded rows nets c) (bought exact rows nets c) (sold exact rows nets c) d e
    (value_in_near rows h (λ s. up (nets s)) c) (value_in_near rows h (λ s. down (nets s)) c))

start_distance : (rows : Rows) → Lawful rows → (nets : ℕ → ℤ) → distance (net_value rounded rows nets) (net_value exact rows nets) ≤ 155000000000 * securities_held nets
start_distance rows h nets =
    let bounds : distance (net_value rounded rows nets) (net_value exact rows nets) ≤ sum_below class_count (λ c. 155000000000 * held_in rows nets c) =
    sum_le class_count (λ c. gap (net_value rounded rows nets c) (net_value exact rows nets c)) (λ c. 155000000000 * held_in rows nets c) (λ c l. start_gap rows h nets c) in
    le_trans bounds (omega (arith, sum_times class_count 155000000000 (held_in rows nets), held_total rows nets))

start_off : (k : Rounding) → ((p r d : ℕ) → k.value 0 p r d ≡ 0) → (rows : Rows) (nets : ℕ → ℤ) → ZeroOff (held_class rows nets) (net_value k rows nets)
start_off k n rows nets c e =
    let z : (bought k rows nets c ≡ 0) × (sold k rows nets c ≡ 0) = nothing k n rows nets c (omega (arith, ltb-false 0 (held_in rows nets c) e)) in
    rw (z.0, z.1) (refl, refl)

pair_numbers : (c d : ℕ) (o o' : Option ClassRow) → Present (LawfulClass c) o → Present (LawfulClass d) o' → Has (λ one. Has (λ other. one.kind ≡ other.kind) o') o → (c < class_count) × (d < class_count)
pair_numbers c d (Some r) (Some q) h k e = (h.number, k.number)
pair_numbers c d (Some r) None h k e = absurd e
pair_numbers c d None o' h k e = absurd e

y_at_most : (c : ℕ) (o : Option ClassRow) → Present (LawfulClass c) o → figure (λ r. r.y) o ≤ whole
y_at_most c (Some r) h = h.y_small
y_at_most c None h = omega arith

pub lawful_pair : (rows : Rows) → Lawful rows → (p : PairRow) → LawfulPair rows p → PairLawful p
lawful_pair rows h p l =
    let n : (p.first < class_count) × (p.second < class_count) =
    pair_numbers p.first p.second (rows.classes p.first) (rows.classes p.second) (h.of_classes p.first) (h.of_classes p.second) l.kinds in
    record {
      apart = l.apart;
      one = n.0;
      other = n.1;
      small = le_trans l.crt_first (y_at_most p.first (rows.classes p.first) (h.of_classes p.first));
    }

-- ---- the whole

close : (A X K L C N R : ℕ) (D E : ℤ) → D ≡ pos A -ℤ pos K → E ≡ pos X -ℤ pos L →
    Within (150000000000000000 * C + 46500000000000000 * N) (10 ^ 17 * A) X →
    Within (R * (2 * (10 ^ 17 + 100000 * (155000000000 * N)))) (10 ^ 17 * K) L →
    1000 * nat_abs (D *ℤ pos (10 ^ 17) -ℤ E) ≤ (1500 * C + 465 * N + R * (2000 + 310 * N)) * 10 ^ 17
close A X K L C N R D E d e h k = omega (arith, ints)

pub accuracy : Accuracy
accuracy rows h nets =
    close (sum_below class_count (risk rounded rows nets)) (sum_below class_count (risk exact rows nets))
    (all_credits rounded (net_value rounded rows nets) rows.pairs) (all_credits exact (net_value exact rows nets) rows.pairs)
    (classes_held rows nets) (securities_held nets) (pairs_held rows nets) (DSPAN rounded rows nets) (DSPAN exact rows nets)
    (sum_minus class_count (risk rounded rows nets) (KSPK rounded rows nets)) (sum_minus class_count (risk exact rows nets) (KSPK exact rows nets))
    (risks_near rows h nets)
    (credits_near (held_class rows nets) (net_value rounded rows nets) (net_value exact rows nets) rows.pairs (155000000000 * securities_held nets)
    (every_map (lawful_pair rows h) rows.pairs h.of_pairs) (start_off rounded rounded_none rows nets) (start_off exact exact_none rows nets) (start_distance rows h nets))
