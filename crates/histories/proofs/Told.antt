-- What a deposit wrote, copied out of the memory, is told right. Assumes nothing.
use Rattle.std.proofs.Common.{◌≡◌, ℕ, ◌≤◌, ◌&&◌, leb, ◌++◌, map, length, take, drop, ℤ, ◌≤ℤ◌, None, Ok, Err, Result, IfOk, refl, sym, ap, ◌∙◌, subst, arith, append_assoc}
use mathlib.Core.List as L
use Rattle.std.specs.Option.{some_prefix}
use Rattle.std.proofs.lemmas.List.{get_or-take, length-take-le, take-append-drop, drop-append-le}
use Rattle.std.proofs.lemmas.Bool.{and_parts, leb-true}
use Rattle.terms.specs.Limits.{class_count, pair_limit}
use Rattle.terms.specs.declared.fault.Fault.{Fault}
use Rattle.terms.proofs.Answered.{asked}
use Rattle.lists.specs.declared.list.List.{List}
use Rattle.lists.specs.Lists.{items, memory}
use Rattle.rules.specs.Rows.{Rows, Lawful}
use Rattle.rules.specs.Margin.{rounded, net_value, DOLR}
use Rattle.rules.specs.Held.{exposure_of}
use Rattle.rules.specs.Laws.{Matched}
use Rattle.rules.proofs.Theorems.{monotone}
use Rattle.surcharges.specs.Surcharges.{Additions, with_additions}
use Rattle.deposits.specs.declared.records.ClassMargin.{ClassMargin}
use Rattle.deposits.specs.declared.records.Match.{Match}
use Rattle.deposits.specs.declared.records.Summary.{Summary}
use Rattle.deposits.specs.Told.{none}
use Rattle.deposits.specs.Deposits.{deposit_fault, Margin, Deposited, Deposits, Upholds, left_told}
use Rattle.deposits.proofs.Walking.{told_length}
use Rattle.histories.specs.declared.telling.Telling.{Telling}
use Rattle.histories.specs.Tellings.{padded, telling_of, told_matches, Tells}
use Rattle.histories.specs.Demands.{Right}
use Rattle.histories.specs.Memories.{answered_into, memory_of, told_into}
use Rattle.histories.proofs.Copies.{front}

pub roomy : (rows : Rows) (nets : ℕ → ℤ) (places room : ℕ) → deposit_fault rows nets places room ≡ None → (class_count ≤ places) × (pair_limit ≤ room)
roomy rows nets places room e =
    let both = and_parts (leb class_count places) (leb pair_limit room) (asked (leb class_count places && leb pair_limit room) _ _ e).0 in
    (leb-true class_count places both.0, leb-true pair_limit room both.1)

module _ (rows : Rows) (lawful : Lawful rows) (nets : ℕ → ℤ) (cs : L.List ClassMargin) (l : List Match) (ds : L.List ClassMargin) (m : List Match) (s : Summary) (d : Deposited rows (exposure_of rounded rows nets) cs l ds m s) where
  pub item_count : length (items m) ≡ length rows.pairs
  item_count = ap length d.items ∙ told_length (net_value rounded rows nets) rows.pairs

  pub few_items : length (items m) ≤ pair_limit
  few_items = omega (arith, item_count, lawful.few_pairs)

  pub tells : class_count ≤ length ds → Tells rows nets (telling_of s ds (items m))
  tells h = record {
    summary = d.summary;
    long = length-take-le class_count ds h;
    classes = λ c k. subst (Margin rows (exposure_of rounded rows nets) c) (sym (get_or-take class_count ds c none k)) (d.classes c k);
    pairs = ap length (front (items m)) ∙ item_count;
    matches = ap padded d.items;
  }

  pub wrote : memory_of ds (memory m) ≡ told_into (memory_of cs (memory l)) (telling_of s ds (items m))
  wrote =
      let classes : ds ≡ take class_count ds ++ drop class_count cs = sym (take-append-drop class_count ds) ∙ ap (λ xs. take class_count ds ++ xs) d.past in
      let told : items m ≡ some_prefix (padded (items m)) = sym (front (items m)) in
      let matches : memory m ≡ some_prefix (padded (items m)) ++ drop (length (some_prefix (padded (items m)))) (memory l) =
      d.memory ∙ ap (λ ms. ms ++ drop (length rows.pairs) (memory l)) (sym d.items ∙ told)
      ∙ ap (λ n. some_prefix (padded (items m)) ++ drop n (memory l)) (sym item_count ∙ ap length told) in
      λ i. record { classes = classes i; matches = matches i }

module _ (below : Rows) (lawful : Lawful below) (a : Additions) (nets : ℕ → ℤ) where
  abbrev rows : Rows
  rows = with_additions a below

  pub right : (cs : L.List ClassMargin) (l : List Match) (ds : L.List ClassMargin) (m : List Match) (s : Summary) → Lawful rows → class_count ≤ length ds →
      Deposits rows nets cs l ds m (Ok s) → Upholds rows nets ds m (Ok s) → Right (length cs) (length (memory l)) below rows nets (Ok (telling_of s ds (items m)))
  right cs l ds m s sound h d u =
      let t = tells rows sound nets cs l ds m s d.1 h in (
        refl,
        (
          d.0,
          (
            t,
            record {
              near = u.accurate;
              matched = subst (λ (ms : L.List Match). Matched (net_value rounded rows nets) rows.pairs (map (λ x. x.matched.units) ms) (left_told ds)) (sym (front (items m))) u.matched;
              no_negative = λ c k. (u.owed c k).1;
              lifted = λ c k. subst (λ (z : ℤ). DOLR rounded below nets c ≤ℤ z) (sym (t.classes c k).dolr) (monotone below lawful nets a.on_y a.on_x c);
            },
          ),
        ),
      )

-- what is written at the front of the first m places is written at the front of all
behind : {X : Type 0} (k m : ℕ) (xs ts : L.List X) → k ≤ m → m ≤ length xs → (ts ++ drop k (take m xs)) ++ drop m xs ≡ ts ++ drop k xs
behind k m xs ts h l =
    append_assoc ts (drop k (take m xs)) (drop m xs)
    ∙ ap (λ ys. ts ++ ys) (sym (drop-append-le k (take m xs) (drop m xs) (omega (arith, length-take-le m xs l))) ∙ ap (drop k) (take-append-drop m xs))

-- there is room for what is told right
told_room : (places room : ℕ) (below rows : Rows) (nets : ℕ → ℤ) (r : Result Telling Fault) → Lawful rows → Right places room below rows nets r → IfOk r (λ t. (class_count ≤ places) × (length (told_matches t) ≤ room))
told_room places room below rows nets (Ok t) lawful h =
    let both = roomy rows nets places room h.1.0 in
    (both.0, omega (arith, both.1, h.1.1.0.pairs, lawful.few_pairs))
told_room places room below rows nets (Err f) lawful h = tt

-- a deposit that is handed the first places alone writes what one that is handed all of them writes
module _ (m n : ℕ) (cs ds : L.List ClassMargin) (xs ys : L.List Match) (in_classes : m ≤ length cs) (in_matches : n ≤ length xs) where
  within : (r : Result Telling Fault) → IfOk r (λ t. (class_count ≤ length (take m cs)) × (length (told_matches t) ≤ length (take n xs))) →
      memory_of ds ys ≡ answered_into (memory_of (take m cs) (take n xs)) r → memory_of (ds ++ drop m cs) (ys ++ drop n xs) ≡ answered_into (memory_of cs xs) r
  within (Ok t) room e =
      let classes = ap (λ w. w.classes ++ drop m cs) e ∙ behind class_count m cs t.classes (omega (arith, room.0, length-take-le m cs in_classes)) in_classes in
      let matches = ap (λ w. w.matches ++ drop n xs) e ∙ behind (length (told_matches t)) n xs (told_matches t) (omega (arith, room.1, length-take-le n xs in_matches)) in_matches in
      λ i. memory_of (classes i) (matches i)
  within (Err f) room e =
      let classes = ap (λ w. w.classes ++ drop m cs) e ∙ take-append-drop m cs in
      let matches = ap (λ w. w.matches ++ drop n xs) e ∙ take-append-drop n xs in
      λ i. memory_of (classes i) (matches i)

  pub written_within : (r : Result Telling Fault) (below rows : Rows) (nets : ℕ → ℤ) → Lawful rows → Right (length (take m cs)) (length (take n xs)) below rows nets r →
      memory_of ds ys ≡ answered_into (memory_of (take m cs) (take n xs)) r → memory_of (ds ++ drop m cs) (ys ++ drop n xs) ≡ answered_into (memory_of cs xs) r
  written_within r below rows nets lawful h = within r (told_room (length (take m cs)) (length (take n xs)) below rows nets r lawful h)
