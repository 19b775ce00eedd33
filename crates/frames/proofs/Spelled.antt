-- A list of known length is the list of its items. Assumes nothing.
use Rattle.std.specs.Prelude.{◌≡◌, ℕ, zero, suc, ◌+◌, List, [], ◌∷◌, length, drop, slice_index, refl}
use Rattle.std.proofs.Common.{sym, ap, ◌∙◌, arith}
use Rattle.std.proofs.lemmas.List.{drop_all, drop_more}

-- n items of the list, from i on
abbrev pub spell : ℕ → ℕ → List ℕ → List ℕ
spell i zero ys = []
spell i (suc n) ys = slice_index ys i ∷ spell (suc i) n ys

-- the items of the first list stand in the second, from i on
abbrev pub Items : ℕ → List ℕ → List ℕ → Type 0
Items i [] ys = Unit {0}
Items i (x ∷ xs) ys = (x ≡ slice_index ys i) × Items (suc i) xs ys

items_from : (i : ℕ) (xs ys : List ℕ) → i + length xs ≡ length ys → Items i xs ys → xs ≡ drop i ys
items_from i [] ys e h = sym (drop_all i ys (omega arith))
items_from i (x ∷ xs) ys e h =
    let one : suc i ≡ i + 1 = omega arith in
    ap (λ z. z ∷ xs) h.0 ∙ ap (λ l. slice_index ys i ∷ l) (items_from (suc i) xs ys (omega arith) h.1 ∙ ap (λ k. drop k ys) one) ∙ sym (drop_more ys i 0 (omega arith))

pub items_are : (xs ys : List ℕ) → length xs ≡ length ys → Items 0 xs ys → xs ≡ ys
items_are xs ys e h = items_from 0 xs ys (omega arith) h

spell_items : (i n : ℕ) (ys : List ℕ) → Items i (spell i n ys) ys
spell_items i zero ys = tt
spell_items i (suc n) ys = (refl, spell_items (suc i) n ys)

spell_length : (i n : ℕ) (ys : List ℕ) → length (spell i n ys) ≡ n
spell_length i zero ys = refl
spell_length i (suc n) ys = ap suc (spell_length (suc i) n ys)

pub spelled : (n : ℕ) (ys : List ℕ) → n ≡ length ys → spell 0 n ys ≡ ys
spelled n ys e = items_are (spell 0 n ys) ys (spell_length 0 n ys ∙ e) (spell_items 0 n ys)
