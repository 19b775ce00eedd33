-- Lines written one after the other. Assumes nothing.
use Rattle.std.proofs.Common.{◌≡◌, ℕ, zero, suc, ◌+◌, ◌<◌, List, [], ◌∷◌, ◌++◌, take, length, get_or, ℤ, refl, sym, ap, ◌∙◌, append_assoc, append-nil, arith}
use Rattle.deposits.specs.declared.records.ClassMargin.{ClassMargin}
use Rattle.replay.specs.Words.{class_lines, classes_lines, net_words, nets_words}

-- the lines of one class more
classes_from : (n i : ℕ) (classes : List ClassMargin) (d : ClassMargin) → i < length classes → classes_lines n (take (suc i) classes) ≡ classes_lines n (take i classes) ++ class_lines (n + i) (get_or classes i d)
classes_from n i [] d some = absurd (omega arith)
classes_from n zero (class ∷ rest) d some =
    let here : n ≡ n + 0 = omega arith in
    append-nil (class_lines n class) ∙ ap (λ k. class_lines k class) here
classes_from n (suc i) (class ∷ rest) d some =
    let here : suc n + i ≡ n + suc i = omega arith in
    ap (λ lines. class_lines n class ++ lines) (classes_from (suc n) i rest d (omega arith))
    ∙ sym (append_assoc (class_lines n class) (classes_lines (suc n) (take i rest)) (class_lines (suc n + i) (get_or rest i d)))
    ∙ ap (λ k. (class_lines n class ++ classes_lines (suc n) (take i rest)) ++ class_lines k (get_or rest i d)) here

pub classes_more : (i : ℕ) (classes : List ClassMargin) (d : ClassMargin) → i < length classes → classes_lines 0 (take i classes) ++ class_lines i (get_or classes i d) ≡ classes_lines 0 (take (i + 1) classes)
classes_more i classes d some =
    let here : i ≡ 0 + i = omega arith in
    let next : suc i ≡ i + 1 = omega arith in
    ap (λ k. classes_lines 0 (take i classes) ++ class_lines k (get_or classes i d)) here
    ∙ sym (classes_from 0 i classes d some)
    ∙ ap (λ k. classes_lines 0 (take k classes)) next

-- the words of one net more
pub nets_none : (nets : ℕ → ℤ) → [] ≡ nets_words nets 0
unfolding nets_words
nets_none nets = refl

pub nets_more : (nets : ℕ → ℤ) (n : ℕ) (net : ℤ) → net ≡ nets n → nets_words nets n ++ net_words n net ≡ nets_words nets (n + 1)
unfolding nets_words
nets_more nets n net is =
    let next : suc n ≡ n + 1 = omega arith in
    ap (λ v. nets_words nets n ++ net_words n v) is ∙ ap (nets_words nets) next
