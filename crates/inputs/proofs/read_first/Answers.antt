use Rattle.std.proofs.Common.{◌≡◌, ℕ, List, [], ◌++◌, take, Some, None, Option, ap, ◌∙◌, subst, arith}
use Rattle.std.proofs.lemmas.List.{take-take}
use Rattle.std.specs.Option.{IfSome, option_map}
use Rattle.inputs.proofs.read_first.Goals as goal

-- what is read, where the bytes are known, is the front of them, and cut to so many it stays as it is
front : (known : Option (List ℕ)) (most : ℕ) (start items cut : List ℕ) → start ≡ [] → cut ≡ take most items → IfSome (option_map (take most) known) (λ bytes. items ≡ start ++ bytes)
    → IfSome known (λ bytes. cut ≡ take most bytes)
front None most start items cut none is_cut is = is
front (Some bytes) most start items cut none is_cut is = is_cut ∙ ap (take most) (is ∙ ap (λ s. s ++ take most bytes) none) ∙ take-take most most bytes (omega arith)

pub returns-clause-front : goal.returns-clause-front
returns-clause-front g c =
    let remaining = g.R.Read.remaining in
    let items = c.read_to_end.new.buf.items in
    let start = c.new-text.result.items in
    let most = c.args.most in
    front (remaining c.args.input) most start items c.truncate.new.self.items c.new-text.ensures.items c.truncate.ensures.items
    (subst (λ r. IfSome (option_map (take most) (remaining r)) (λ bytes. items ≡ start ++ bytes)) c.take.ensures.inner
    (subst (λ k. IfSome (option_map (take k) (remaining c.take.result.inner)) (λ bytes. items ≡ start ++ bytes)) c.take.ensures.limit c.in_ok-read_to_end.ensures.bytes))
