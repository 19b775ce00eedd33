-- What every kind of frame has, by one look at the list of kinds. Assumes nothing.
use Rattle.std.proofs.Common.{◌≡◌, ℕ, ◌*◌, ◌<◌, ◌≤◌, Bool, true, false, not, ◌&&◌, ◌||◌, cond, eqb, ltb, leb, List, [], ◌∷◌, length, get_or, take, drop, Some, sym, refl, ap, ◌∙◌, subst, ⊎_elim, arith}
use Rattle.std.proofs.lemmas.Bool.{and_parts, cases_Bool, eqb-true, ltb-true, leb-true, false≢true}
use Rattle.std.specs.List.{AllByRecursion}
use Rattle.frames.specs.Choices.{is_choice}
use Rattle.frames.specs.Fields.{numbers_of, bytes}
use Rattle.frames.specs.Frames.{choice_known, choice_lawful}
use Rattle.frames.specs.Hex.{number_of}
use Rattle.frames.specs.Kinds.{Kind, Listed, all_kinds, find_kind}

pub record Sound (k : Kind) : Type 0 where
  pub byte : k.byte < 256
  pub few : length k.widths ≤ 8
  pub narrow : AllByRecursion (λ w. w ≤ 8) k.widths
  pub small : bytes k.widths ≤ 64
  -- a choice is the second field
  pub wide : k.choice ≡ true → 2 ≤ bytes k.widths
  pub choice : (fields : List ℕ) → choice_known k fields ≡ choice_lawful k (numbers_of k.widths fields)

-- what holds of each of these kinds holds of the one that is found
pub found : (P : Kind → Type 0) (kinds : List Kind) → AllByRecursion P kinds → (byte : ℕ) (k : Kind) → find_kind kinds byte ≡ Some k → P k
found P [] all byte k e = let z : ◌≡◌ {A = ℕ} 0 1 = cc in absurd (omega arith)
found P (x ∷ kinds) all byte k e = by_test (eqb byte x.byte) (λ rest. found P kinds all.1 byte k rest) e
  where
    by_test : (b : Bool) → (find_kind kinds byte ≡ Some k → P k) → cond b (Some x) (find_kind kinds byte) ≡ Some k → P k
    by_test true later e = let same : x ≡ k = cc in subst P same all.0
    by_test false later e = later e

-- the kind that is found has the byte
pub found_byte : (kinds : List Kind) (byte : ℕ) (k : Kind) → find_kind kinds byte ≡ Some k → byte ≡ k.byte
found_byte [] byte k e = let z : ◌≡◌ {A = ℕ} 0 1 = cc in absurd (omega arith)
found_byte (x ∷ kinds) byte k e = ⊎_elim
    (λ yes'. let same : x ≡ k = first (eqb byte x.byte) yes' e in eqb-true byte x.byte yes' ∙ ap (λ (l : Kind). l.byte) same)
    (λ no'. found_byte kinds byte k (sym (ap (λ b. cond b (Some x) (find_kind kinds byte)) no') ∙ e))
    (cases_Bool (eqb byte x.byte))
  where
    first : (b : Bool) → b ≡ true → cond b (Some x) (find_kind kinds byte) ≡ Some k → x ≡ k
    first true t e = cc
    first false t e = absurd (false≢true t)

-- ---- the one test that is put to each kind of the table

abbrev narrow_test : List ℕ → Bool
narrow_test [] = true
narrow_test (w ∷ widths) = leb w 8 && narrow_test widths

-- a choice is the second of two bytes
abbrev choice_test : Bool → List ℕ → Bool
choice_test false widths = true
choice_test true [] = false
choice_test true (w ∷ []) = false
choice_test true (w ∷ v ∷ widths) = eqb w 1 && eqb v 1

abbrev kind_test : Kind → Bool
kind_test k = ltb k.byte 256 && (leb (length k.widths) 8 && (narrow_test k.widths && (leb (bytes k.widths) 64 && choice_test k.choice k.widths)))

narrow_tested : (widths : List ℕ) → narrow_test widths ≡ true → AllByRecursion (λ w. w ≤ 8) widths
narrow_tested [] h = tt
narrow_tested (w ∷ widths) h = let parts = and_parts (leb w 8) (narrow_test widths) h in (leb-true w 8 parts.0, narrow_tested widths parts.1)

wide_tested : (choice : Bool) (widths : List ℕ) → choice_test choice widths ≡ true → choice ≡ true → 2 ≤ bytes widths
wide_tested false widths h e = absurd (false≢true e)
wide_tested true [] h e = absurd (false≢true h)
wide_tested true (w ∷ []) h e = absurd (false≢true h)
wide_tested true (w ∷ v ∷ widths) h e =
    let parts = and_parts (eqb w 1) (eqb v 1) h in
    omega (arith, eqb-true w 1 parts.0, eqb-true v 1 parts.1)

choice_tested : (choice : Bool) (widths : List ℕ) → choice_test choice widths ≡ true → (fields : List ℕ)
    → (not choice || is_choice (number_of (take 2 (drop 2 fields)))) ≡ (not choice || is_choice (get_or (numbers_of widths fields) 1 0))
choice_tested false widths h fields = refl
choice_tested true [] h fields = absurd (false≢true h)
choice_tested true (w ∷ []) h fields = absurd (false≢true h)
choice_tested true (w ∷ v ∷ widths) h fields =
    let parts = and_parts (eqb w 1) (eqb v 1) h in
    let first = sym (eqb-true w 1 parts.0) in
    let second = sym (eqb-true v 1 parts.1) in
    λ j. is_choice (number_of (take (2 * second j) (drop (2 * first j) fields)))

sound_tested : (k : Kind) → kind_test k ≡ true → Sound k
sound_tested k h =
    let byte = and_parts (ltb k.byte 256) (leb (length k.widths) 8 && (narrow_test k.widths && (leb (bytes k.widths) 64 && choice_test k.choice k.widths))) h in
    let few = and_parts (leb (length k.widths) 8) (narrow_test k.widths && (leb (bytes k.widths) 64 && choice_test k.choice k.widths)) byte.1 in
    let narrow = and_parts (narrow_test k.widths) (leb (bytes k.widths) 64 && choice_test k.choice k.widths) few.1 in
    let small = and_parts (leb (bytes k.widths) 64) (choice_test k.choice k.widths) narrow.1 in
    record {
      byte = ltb-true k.byte 256 byte.0;
      few = leb-true (length k.widths) 8 few.0;
      narrow = narrow_tested k.widths narrow.0;
      small = leb-true (bytes k.widths) 64 small.0;
      wide = wide_tested k.choice k.widths small.1;
      choice = choice_tested k.choice k.widths small.1;
    }

abbrev all_tested : List Kind → Bool
all_tested [] = true
all_tested (k ∷ kinds) = kind_test k && all_tested kinds

sound_each : (kinds : List Kind) → all_tested kinds ≡ true → AllByRecursion Sound kinds
sound_each [] h = tt
sound_each (k ∷ kinds) h = let parts = and_parts (kind_test k) (all_tested kinds) h in (sound_tested k parts.0, sound_each kinds parts.1)

all_sound : AllByRecursion Sound all_kinds
all_sound = sound_each all_kinds refl

pub sound : (k : Kind) → find_kind all_kinds k.byte ≡ Some k → Sound k
sound k e = found Sound all_kinds all_sound k.byte k e

-- ---- of a kind that is listed

pub sound_listed : (k : Kind) → Listed k → Sound k
unfolding Listed
sound_listed k e = sound k e

pub few_listed : (k : Kind) → Listed k → length k.widths ≤ 8
few_listed k e = (sound_listed k e).few

pub narrow_listed : (k : Kind) → Listed k → AllByRecursion (λ w. w ≤ 8) k.widths
narrow_listed k e = (sound_listed k e).narrow

pub small_listed : (k : Kind) → Listed k → bytes k.widths ≤ 64
small_listed k e = (sound_listed k e).small

pub wide_listed : (k : Kind) → Listed k → k.choice ≡ true → 2 ≤ bytes k.widths
wide_listed k e = (sound_listed k e).wide
