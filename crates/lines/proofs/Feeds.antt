-- The first line of a text and what is left after it. Assumes nothing.
use Rattle.std.proofs.Common.{◌≡◌, ℕ, zero, suc, ◌+◌, ◌-◌, ◌<◌, ◌≤◌, min, Bool, true, false, cond, eqb, ◌≢◌, List, [], ◌∷◌, ◌++◌, length, get_or, take, drop, Some, None, Option, sym, refl, ap, ◌∙◌, subst, ⊎_elim, arith, length-drop}
use Rattle.std.proofs.lemmas.List.{drop_all, drop-drop, take_rest}
use Rattle.std.specs.List.{AllByRecursion}
use Rattle.std.specs.Option.{unwrap_or}
use Rattle.std.proofs.lemmas.Bool.{eq-eqb, ne_eqb, cases_eq, cases_lt}
use Rattle.memchr.specs.Find.{IsFirstByte, is_byte}
use Rattle.lines.specs.Lines.{first_line, after_line, before, lines_of, Unbroken, fed, closed, with_places}

bool_false : (t : Bool) → (t ≡ true → ⊥) → t ≡ false
bool_false true h = absurd (h refl)
bool_false false h = refl

-- a line feed with none before it ends the first line
ends_line : (text : List ℕ) (k : ℕ) → k < length text → ((j : ℕ) → j < k → eqb (get_or text j 0) 10 ≡ true → ⊥) → eqb (get_or text k 0) 10 ≡ true → k ≡ length (first_line text)
ends_line [] k l none is = absurd (omega arith)
ends_line (c ∷ cs) zero l none is = ap (λ b. length (cond b [] (c ∷ first_line cs))) (sym is)
ends_line (c ∷ cs) (suc k) l none is =
    let later : suc k ≡ length (c ∷ first_line cs) = omega (arith, ends_line cs k (omega arith) (λ j b. none (suc j) (omega arith)) is) in
    later ∙ ap (λ b. length (cond b [] (c ∷ first_line cs))) (sym (bool_false (eqb c 10) (none 0 (omega arith))))

-- a text with no line feed is one line
one_line : (text : List ℕ) → ((j : ℕ) → j < length text → eqb (get_or text j 0) 10 ≡ true → ⊥) → length text ≡ length (first_line text)
one_line [] none = refl
one_line (c ∷ cs) none =
    let later : length (c ∷ cs) ≡ length (c ∷ first_line cs) = omega (arith, one_line cs (λ j b. none (suc j) (omega arith))) in
    later ∙ ap (λ b. length (cond b [] (c ∷ first_line cs))) (sym (bool_false (eqb c 10) (none 0 (omega arith))))

-- where one is found, it stands there, and else the text has one line
pub found_length : (text : List ℕ) (r : Option ℕ) → IsFirstByte (is_byte 10) text r → unwrap_or r (length text) ≡ length (first_line text)
found_length text None none = one_line text (λ j b. none j (omega arith) b)
found_length text (Some k) found = ends_line text k found.0.high (λ j b. found.0.before j (omega arith) b) found.1

-- the line is the front of the text, and what is left is the rest of it
pub first_take : (text : List ℕ) → take (length (first_line text)) text ≡ first_line text
first_take [] = refl
first_take (c ∷ cs) = elim (eqb c 10) as (λ b. take (length (cond b [] (c ∷ first_line cs))) (c ∷ cs) ≡ cond b [] (c ∷ first_line cs)) [ true ↦ refl | false ↦ ap (λ l. c ∷ l) (first_take cs) ]

pub after_drop : (text : List ℕ) → drop (suc (length (first_line text))) text ≡ after_line text
after_drop [] = refl
after_drop (c ∷ cs) = elim (eqb c 10) as (λ b. drop (suc (length (cond b [] (c ∷ first_line cs)))) (c ∷ cs) ≡ cond b cs (after_line cs)) [ true ↦ refl | false ↦ after_drop cs ]

pub first_within : (text : List ℕ) → length (first_line text) ≤ length text
first_within [] = omega arith
first_within (c ∷ cs) = elim (eqb c 10) as (λ b. length (cond b [] (c ∷ first_line cs)) ≤ suc (length cs)) [ true ↦ omega arith | false ↦ omega (arith, first_within cs) ]

-- the length of the first line from `start` on, as `&text[start..]` has it
pub line_end : (text : List ℕ) (start n : ℕ) → start < length text → n ≡ length (first_line (take (length text - start) (drop start text))) → (n ≡ length (first_line (drop start text))) × (start + n ≤ length text)
line_end text start n in' is =
    let same : n ≡ length (first_line (drop start text)) = is ∙ ap (λ l. length (first_line l)) (take_rest text start) in
    (same, omega (arith, first_within (drop start text), length-drop start text))

module _ (text : List ℕ) (start end : ℕ) (is : end ≡ start + length (first_line (drop start text))) where
  pub after_fed : drop (end + 1) text ≡ after_line (drop start text)
  after_fed =
      let n = length (first_line (drop start text)) in
      let on : end + 1 ≡ start + suc n = omega arith in
      ap (λ k. drop k text) on ∙ sym (drop-drop (suc n) start text) ∙ after_drop (drop start text)

-- a text that is not empty has a first line, and the lines of what is left after it
pub lines_first : (text : List ℕ) → 0 < length text → lines_of text ≡ first_line text ∷ lines_of (after_line text)
lines_first [] h = absurd (omega arith)
lines_first (c ∷ []) h = elim (eqb c 10) as (λ b. cond b ([] ∷ []) ((c ∷ []) ∷ []) ≡ cond b [] (c ∷ []) ∷ lines_of (cond b [] [])) [ true ↦ refl | false ↦ refl ]
lines_first (c ∷ d ∷ cs) h = elim (eqb c 10) as (λ b. cond b ([] ∷ lines_of (d ∷ cs)) (before c (lines_of (d ∷ cs))) ≡ cond b [] (c ∷ first_line (d ∷ cs)) ∷ lines_of (cond b (d ∷ cs) (after_line (d ∷ cs)))) [
  | true ↦ refl
  | false ↦ ap (before c) (lines_first (d ∷ cs) (omega arith))
]

-- the next line stands behind the line feed, and where that is past the end there is none
pub next_place : (text : List ℕ) (next behind : ℕ) → next ≡ min behind (length text) → with_places next (lines_of (drop next text)) ≡ with_places behind (lines_of (drop next text))
next_place text next behind is = ⊎_elim
    (λ past.
    let none : drop next text ≡ [] = drop_all next text (omega arith) in
    ap (λ t. with_places next (lines_of t)) none ∙ sym (ap (λ t. with_places behind (lines_of t)) none))
    (λ within. let same : next ≡ behind = omega arith in ap (λ k. with_places k (lines_of (drop next text))) same)
    (cases_lt (length text) behind)

-- the lines of a text, each with its line feed, are the text
pub lines_joined : (text : List ℕ) → fed (lines_of text) ≡ closed text
lines_joined [] = refl
lines_joined (c ∷ []) = ⊎_elim
    (λ e. ap (λ b. fed (cond b ([] ∷ []) ((c ∷ []) ∷ []))) (eq-eqb c 10 e) ∙ ap (λ x. x ∷ []) (sym e) ∙ sym (ap (λ b. cond b (c ∷ []) (c ∷ 10 ∷ [])) (eq-eqb c 10 e)))
    (λ e. ap (λ b. fed (cond b ([] ∷ []) ((c ∷ []) ∷ []))) (ne_eqb c 10 e) ∙ sym (ap (λ b. cond b (c ∷ []) (c ∷ 10 ∷ [])) (ne_eqb c 10 e)))
    (cases_eq c 10)
lines_joined (c ∷ d ∷ cs) =
    let rest = lines_of (d ∷ cs) in
    let first = lines_first (d ∷ cs) (omega arith) in
    let joined = lines_joined (d ∷ cs) in
    ⊎_elim
    (λ e. ap (λ b. fed (cond b ([] ∷ rest) (before c rest))) (eq-eqb c 10 e) ∙ ap (λ x. x ∷ fed rest) (sym e) ∙ ap (λ l. c ∷ l) joined)
    (λ e. ap (λ b. fed (cond b ([] ∷ rest) (before c rest))) (ne_eqb c 10 e) ∙ ap (λ l. fed (before c l)) first ∙ ap (λ l. c ∷ fed l) (sym first) ∙ ap (λ l. c ∷ l) joined)
    (cases_eq c 10)

-- a text has no more lines than bytes
pub lines_few : (text : List ℕ) → length (lines_of text) ≤ length text
lines_few [] = omega arith
lines_few (c ∷ []) = elim (eqb c 10) as (λ b. length (cond b ([] ∷ []) ((c ∷ []) ∷ [])) ≤ 1) [ true ↦ omega arith | false ↦ omega arith ]
lines_few (c ∷ d ∷ cs) =
    let rest = lines_of (d ∷ cs) in
    let first = lines_first (d ∷ cs) (omega arith) in
    let few = lines_few (d ∷ cs) in
    let one : length (before c rest) ≡ length rest = ap (λ l. length (before c l)) first ∙ ap length (sym first) in
    elim (eqb c 10) as (λ b. length (cond b ([] ∷ rest) (before c rest)) ≤ suc (length (d ∷ cs))) [ true ↦ omega arith | false ↦ omega arith ]

-- ---- no line holds a line feed

before_unbroken : (c : ℕ) → c ≢ 10 → (lines : List (List ℕ)) → AllByRecursion Unbroken lines → AllByRecursion Unbroken (before c lines)
before_unbroken c h [] all = ((h, tt), tt)
before_unbroken c h (line ∷ lines) all = ((h, all.0), all.1)

pub lines_unbroken : (text : List ℕ) → AllByRecursion Unbroken (lines_of text)
lines_unbroken [] = tt
lines_unbroken (c ∷ cs) =
    let rest = lines_of cs in
    let later = lines_unbroken cs in
    ⊎_elim
    (λ e. subst (λ b. AllByRecursion Unbroken (cond b ([] ∷ rest) (before c rest))) (sym (eq-eqb c 10 e)) (tt, later))
    (λ d. subst (λ b. AllByRecursion Unbroken (cond b ([] ∷ rest) (before c rest))) (sym (ne_eqb c 10 d)) (before_unbroken c d rest later))
    (cases_eq c 10)

-- ---- and no other lines without a line feed make up the text

first_of : (line rest : List ℕ) → Unbroken line → lines_of (line ++ (10 ∷ rest)) ≡ line ∷ lines_of rest
first_of [] rest h = refl
first_of (c ∷ line) rest h =
    ap (λ b. cond b ([] ∷ lines_of (line ++ (10 ∷ rest))) (before c (lines_of (line ++ (10 ∷ rest))))) (ne_eqb c 10 h.0)
    ∙ ap (before c) (first_of line rest h.1)

lines_fed : (lines : List (List ℕ)) → AllByRecursion Unbroken lines → lines_of (fed lines) ≡ lines
lines_fed [] h = refl
lines_fed (line ∷ lines) h = first_of line (fed lines) h.0 ∙ ap (λ rest. line ∷ rest) (lines_fed lines h.1)

-- the feed that the last line may lack makes no other lines
lines_closed : (text : List ℕ) → lines_of (closed text) ≡ lines_of text
lines_closed [] = refl
lines_closed (c ∷ []) = ⊎_elim
    (λ e. ap (λ b. lines_of (cond b (c ∷ []) (c ∷ 10 ∷ []))) (eq-eqb c 10 e))
    (λ e. ap (λ b. lines_of (cond b (c ∷ []) (c ∷ 10 ∷ []))) (ne_eqb c 10 e) ∙ ap (λ b. cond b ([] ∷ ([] ∷ [])) ((c ∷ []) ∷ [])) (ne_eqb c 10 e) ∙ sym (ap (λ b. cond b ([] ∷ []) ((c ∷ []) ∷ [])) (ne_eqb c 10 e)))
    (cases_eq c 10)
lines_closed (c ∷ d ∷ cs) = ap (λ rest. cond (eqb c 10) ([] ∷ rest) (before c rest)) (lines_closed (d ∷ cs))

pub lines_only : (text : List ℕ) (lines : List (List ℕ)) → closed text ≡ fed lines → AllByRecursion Unbroken lines → lines_of text ≡ lines
lines_only text lines is unbroken = sym (lines_closed text) ∙ ap lines_of is ∙ lines_fed lines unbroken
