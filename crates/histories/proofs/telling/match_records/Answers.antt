use Rattle.std.proofs.Common.{None, rules}
use Rattle.std.specs.List.{slice_get}
use Rattle.terms.specs.Limits.{pair_limit}
use Rattle.lists.proofs.Filled.{filled_at}
use Rattle.histories.proofs.Copies.{copied}
use Rattle.histories.proofs.telling.match_records.Goals as goal

pub returns : goal.returns
returns c =
    let ms = c.args.matches.now in
    let made = c.from_fn.ensures.items in
    copied c.from_fn.result ms c.requires made.long (λ k. filled_at _ _ (slice_get ms) pair_limit (λ i y q l h. search rules) _ made k None)
