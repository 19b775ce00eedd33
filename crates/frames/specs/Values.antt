-- What fields hold is told by their numbers, and numbers that fields carry stand for what fields hold. Assumes nothing.
use Rattle.std.specs.Prelude.{◌≡◌, ℕ, ◌*◌, ◌^◌, true, not, ◌||◌, List, [], ◌∷◌, ◌==◌, nat_lt, refl}
use Rattle.std.proofs.Common.{sym, ap, ◌∙◌, ⊎_elim, arith}
use Rattle.std.proofs.Math.Bool.{Bool-set}
use Rattle.std.proofs.lemmas.Bool.{and_parts, and_from, eqb-true, or_cases, false≢true}
use mathlib.Core.HLevel.{is_prop→PathP}
use Rattle.terms.specs.declared.choice.ClassKind.TheVariants.{Liquidity, Duration}
use Rattle.terms.specs.declared.choice.Side.TheVariants.{Bought, Sold}
use Rattle.frames.specs.Choices.{is_choice}
use Rattle.frames.specs.Fields.{carries}
use Rattle.frames.specs.Frames.{choice_lawful}
use Rattle.frames.specs.Kinds.{Kind, kind_of}
use Rattle.frames.specs.Sorts.{Sort, unsigned, class_kind_choice, side_choice, width_of, chooses, Value, number, stands, widths_of, Values, numbers, all_stand, no_choice, choice_second}

-- ---- of one field

value_told : (s : Sort) (v w : Value s) → number s v ≡ number s w → v ≡ w
value_told (unsigned width) v w e = e
value_told class_kind_choice Liquidity Liquidity e = refl
value_told class_kind_choice Liquidity Duration e = absurd (omega arith)
value_told class_kind_choice Duration Liquidity e = absurd (omega arith)
value_told class_kind_choice Duration Duration e = refl
value_told side_choice Bought Bought e = refl
value_told side_choice Bought Sold e = absurd (omega arith)
value_told side_choice Sold Bought e = absurd (omega arith)
value_told side_choice Sold Sold e = refl

-- what is told by a byte of two
two_made : {C : Type 0} (byte : C → ℕ) (one two : C) → byte one ≡ 1 → byte two ≡ 2 → (n : ℕ) → is_choice n ≡ true → (v : C) × (byte v ≡ n)
two_made byte one two is_one is_two n h = ⊎_elim
    (λ e. (one, is_one ∙ sym (eqb-true n 1 e)))
    (λ e. (two, is_two ∙ sym (eqb-true n 2 e)))
    (or_cases (n == 1) (n == 2) h)

value_made : (s : Sort) (n : ℕ) → stands s n ≡ true → (v : Value s) × (number s v ≡ n)
value_made (unsigned width) n h = (n, refl)
value_made class_kind_choice n h = two_made (number class_kind_choice) Liquidity Duration refl refl n h
value_made side_choice n h = two_made (number side_choice) Bought Sold refl refl n h

-- ---- of the fields of a frame

values_told : (sorts : List Sort) (v w : Values sorts) → numbers sorts v ≡ numbers sorts w → v ≡ w
values_told [] v w e = refl
values_told (s ∷ sorts) v w e = λ j. (value_told s v.0 w.0 (cc) j, values_told sorts v.1 w.1 (cc) j)

values_made : (sorts : List Sort) (ns : List ℕ) → carries (widths_of sorts) ns ≡ true → all_stand sorts ns ≡ true → (v : Values sorts) × (numbers sorts v ≡ ns)
values_made [] [] h stand = (tt, refl)
values_made [] (n ∷ ns) h stand = absurd (false≢true h)
values_made (s ∷ sorts) [] h stand = absurd (false≢true h)
values_made (s ∷ sorts) (n ∷ ns) h stand =
    let parts = and_parts (nat_lt n (16 ^ (2 * width_of s))) (carries (widths_of sorts) ns) h in
    let each = and_parts (stands s n) (all_stand sorts ns) stand in
    let one = value_made s n each.0 in
    let rest = values_made sorts ns parts.1 each.1 in
    ((one.0, rest.0), λ j. one.1 j ∷ rest.1 j)

-- any number stands in a field that is no choice
plain_stands : (s : Sort) (n : ℕ) → not (chooses s) ≡ true → stands s n ≡ true
plain_stands s n h = ap (λ b. b || is_choice n) h

none_stands : (sorts : List Sort) (ns : List ℕ) → no_choice sorts ≡ true → all_stand sorts ns ≡ true
none_stands [] ns h = refl
none_stands (s ∷ sorts) [] h = refl
none_stands (s ∷ sorts) (n ∷ ns) h = let parts = and_parts (not (chooses s)) (no_choice sorts) h in and_from _ _ (plain_stands s n parts.0) (none_stands sorts ns parts.1)

-- a known choice at the second field is enough where no other field is a choice
lawful_stand : (byte : ℕ) (sorts : List Sort) (ns : List ℕ) → choice_second sorts ≡ true → choice_lawful (kind_of byte sorts) ns ≡ true → all_stand sorts ns ≡ true
lawful_stand byte [] ns only h = refl
lawful_stand byte (s ∷ sorts) [] only h = refl
lawful_stand byte (s ∷ []) (n ∷ ns) only h = and_from _ _ (plain_stands s n only) refl
lawful_stand byte (s ∷ t ∷ sorts) (n ∷ []) only h = and_from _ _ (plain_stands s n (and_parts (not (chooses s)) (no_choice sorts) only).0) refl
lawful_stand byte (s ∷ t ∷ sorts) (n ∷ m ∷ ns) only h =
    let parts = and_parts (not (chooses s)) (no_choice sorts) only in
    and_from _ _ (plain_stands s n parts.0) (and_from _ _ h (none_stands sorts ns parts.1))

-- ---- of a record

-- The figures of a record tell it, and whatever the fields of its kind carry, with a choice that is known, are those of one.
pub record Recorded {R : Type 0} (k : Kind) (figures : R → List ℕ) : Type 0 where
  pub told : (x y : R) → figures x ≡ figures y → x ≡ y
  pub made : (ns : List ℕ) → carries k.widths ns ≡ true → choice_lawful k ns ≡ true → (x : R) × (figures x ≡ ns)

-- This holds of a record that is made of what its fields hold, and of that they carry it.
pub recorded : {R : Type 0} (byte : ℕ) (sorts : List Sort) (figures : R → List ℕ)
    (values : R → Values sorts)
    (made_of : (v : Values sorts) → carries (widths_of sorts) (numbers sorts v) ≡ true → R)
    (carried : (x : R) → carries (widths_of sorts) (numbers sorts (values x)) ≡ true)
    → ((x : R) → made_of (values x) (carried x) ≡ x)
    → ((x : R) → figures x ≡ numbers sorts (values x))
    → ((v : Values sorts) (c : carries (widths_of sorts) (numbers sorts v) ≡ true) → figures (made_of v c) ≡ numbers sorts v)
    → choice_second sorts ≡ true
    → Recorded (kind_of byte sorts) figures
recorded byte sorts figures values made_of carried back figured numbered only = record {
  told = λ x y e.
      let same : values x ≡ values y = values_told sorts (values x) (values y) (sym (figured x) ∙ e ∙ figured y) in
      sym (back x)
      ∙ (λ j. made_of (same j) (is_prop→PathP (λ k. carries (widths_of sorts) (numbers sorts (same k)) ≡ true) (λ k. Bool-set _ _) (carried x) (carried y) j))
      ∙ back y;
  made = λ ns h lawful.
      let v = values_made sorts ns h (lawful_stand byte sorts ns only lawful) in
      let c : carries (widths_of sorts) (numbers sorts v.0) ≡ true = ap (carries (widths_of sorts)) v.1 ∙ h in
      (made_of v.0 c, numbered v.0 c ∙ v.1);
}
