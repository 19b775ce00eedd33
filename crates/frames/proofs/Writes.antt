-- A line and its feed, written at the front of a memory. Assumes nothing.
use Rattle.std.proofs.Common.{◌≡◌, ℕ, ◌+◌, ◌<◌, List, ◌∷◌, ◌++◌, length, take, drop, set, sym, ap, ◌∙◌, arith}
use Rattle.std.proofs.lemmas.List.{drop_more, take_at}
use Rattle.std.proofs.lemmas.Bool.{lt-ltb, cond-true}
use Rattle.frames.specs.Frames.{line_of}
use Rattle.frames.specs.Kinds.{Kind}
use Rattle.frames.specs.Written.{ReadsBack, written}

-- the line and its feed stand at the front of a memory that holds both
pub written_fits : (line memory front rest : List ℕ) (n : ℕ) → length line < length memory → n ≡ length line → front ≡ line → rest ≡ drop n memory → front ++ set rest 0 10 ≡ written line memory
written_fits line memory front rest n h is is_front is_rest =
    ap (λ l. l ++ set rest 0 10) is_front
    ∙ ap (λ l. line ++ set l 0 10) (is_rest ∙ drop_more memory n 0 (omega (arith, is)))
    ∙ ap (λ k. line ++ (10 ∷ drop (k + 1) memory)) is
    ∙ sym (cond-true _ _ memory (lt-ltb (length line) (length memory) h))

-- and without the feed they read back
pub read_back : {R : Type 0} (k : Kind) (figures : R → List ℕ) (item : R) (memory after : List ℕ) (count : ℕ) → length (line_of k (figures item)) < length memory → count ≡ length (line_of k (figures item))
    → after ≡ written (line_of k (figures item)) memory → ReadsBack k figures item (take count after)
unfolding ReadsBack
read_back k figures item memory after count h is is_after = λ r reads.
    let line = line_of k (figures item) in
    reads.back item (ap (take count) (is_after ∙ cond-true _ _ memory (lt-ltb (length line) (length memory) h)) ∙ take_at line (10 ∷ drop (length line + 1) memory) count (sym is))
