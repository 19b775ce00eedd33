use Rattle.std.proofs.Common.{◌≡◌, ◌+◌, ◌<◌, [], ◌∷◌, ◌++◌, map, take, length, get_or, drop, set, sym, ap, ◌∙◌, arith, length-take}
use Rattle.std.proofs.lemmas.List.{length-map, map_push, take_more}
use Rattle.lists.specs.Lists.{memory}
use Rattle.spreads.specs.Legs.{no_spread}
use Rattle.deposits.specs.declared.records.Match.{Match}
use Rattle.deposits.specs.Told.{told_of}
use Rattle.deposits.proofs.Walking.{front_more}
use Rattle.deposits.proofs.tell.tell.Goals as goal

pub loop-spread-preserved : goal.loop-spread-preserved
loop-spread-preserved c =
    let xs = c.args.spreads.now in
    let i = c.loop-spread.spread-index in
    let mem = memory c.args.matches.now in
    let inv = c.loop-spread.invariant in
    let here : i < length xs = c.loop-spread-test.true in
    let x : Match = told_of (get_or xs i no_spread) in
    let list : map told_of (take i xs) ++ x ∷ [] ≡ map told_of (take (i + 1) xs) =
    sym (ap (map told_of) (take_more xs i no_spread here) ∙ map_push told_of (take i xs) (get_or xs i no_spread)) in
    let count : length (map told_of (take i xs)) ≡ i = omega (arith, length-map (take i xs) told_of, length-take i xs) in
    record {
      lender = c.tell_one.ensures.lender ∙ inv.lender;
      items = c.tell_one.ensures.told.items ∙ ap (λ ys. ys ++ x ∷ []) inv.items ∙ list;
      memory = c.tell_one.ensures.told.memory ∙ ap (λ n. set (memory c.loop-spread.matches) n x) (ap length inv.items ∙ count) ∙ ap (λ m. set m i x) inv.memory
          ∙ front_more (map told_of (take i xs)) mem i x count (omega (arith, c.requires.room)) ∙ ap (λ ys. ys ++ drop (i + 1) mem) list;
    }
