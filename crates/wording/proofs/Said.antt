-- A text that is said piece by piece. Assumes nothing.
use Rattle.std.proofs.Common.{◌≡◌, ℕ, List, [], ◌++◌, sym, ap, ◌∙◌, append_assoc, append-nil}
use Rattle.std.proofs.Output.{has_written_append, has_written_of_eq, writes_in_calls_nil}
use Rattle.std.specs.Fmt.{HasWritten, IsPlainFormatter}
use Rattle.std.specs.declared.fmt.Formatter.{Formatter}

-- g is f after a front of the whole is written; this rest of it is left
pub record Said {W : Type 0} (took : W → List ℕ → W → Type 0) (f : Formatter W) (rest whole : List ℕ) (g : Formatter W) : Type 0 where
  pub text : List ℕ
  pub wrote : HasWritten took f text g
  pub is : text ++ rest ≡ whole

module _ {W : Type 0} (took : W → List ℕ → W → Type 0) (f : Formatter W) where
  -- nothing is said yet
  pub said_none : (rest whole : List ℕ) → rest ≡ whole → IsPlainFormatter f → Said took f rest whole f
  said_none rest whole same plain = record { text = []; wrote = record { wrote = writes_in_calls_nil took f.writer; plain = plain }; is = same }

  -- one piece more
  pub said_more : (before piece rest whole : List ℕ) (g h : Formatter W) → before ≡ piece ++ rest → Said took f before whole g → HasWritten took g piece h → Said took f rest whole h
  said_more before piece rest whole g h cut said more = record {
    text = said.text ++ piece;
    wrote = has_written_append took f said.text g piece h said.wrote more;
    is = append_assoc said.text piece rest ∙ ap (λ t. said.text ++ t) (sym cut) ∙ said.is;
  }

  -- nothing is left
  pub said_all : (rest whole : List ℕ) (g : Formatter W) → rest ≡ [] → Said took f rest whole g → HasWritten took f whole g
  said_all rest whole g none said =
      has_written_of_eq took f said.text whole g (sym (append-nil said.text) ∙ ap (λ t. said.text ++ t) (sym none) ∙ said.is) said.wrote
