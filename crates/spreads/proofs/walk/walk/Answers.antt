use Rattle.std.proofs.Common.{◌≡◌, List, [], ◌∷◌, ◌++◌, length, sym, ap, ◌∙◌, subst, append_assoc, append-nil, arith, length-append}
use Rattle.rules.specs.Rows.{Every}
use Rattle.rules.specs.declared.rows.PairRow.{PairRow}
use Rattle.spreads.specs.declared.spread.Spread.{Spread}
use Rattle.spreads.specs.Legs.{Sound, Walked, left_of, part, spreads_of, told}
use Rattle.spreads.proofs.Walking.{every_front, every_back, fits, part_reached, reached_more, reached_none, sounds, spreads_push}
use Rattle.spreads.proofs.walk.walk.Given as given
use Rattle.spreads.proofs.walk.walk.Goals as goal
use Rattle.spreads.proofs.walk.walk.Goals.{In-Some}

-- the pairs served, the pair of this turn and the pairs after it
parts : (g : given.Over) (c : In-Some g) → c.loop-pair.yielded ++ (c.in-Some.pair ∷ c.next.new.self) ≡ (g.S.Sheet.rows c.args.sheet.now).pairs
parts g c = ap (λ (ps : List PairRow). c.loop-pair.yielded ++ ps) (sym c.in-Some.ensures.steps) ∙ c.loop-pair.invariant.parts

every : (g : given.Over) (c : In-Some g) → Every Sound (c.loop-pair.yielded ++ (c.in-Some.pair ∷ c.next.new.self))
every g c = subst (Every Sound) (sym (parts g c)) (sounds (g.S.Sheet.rows c.args.sheet.now) (g.S.Sheet.lawful c.args.sheet.now))

sound : (g : given.Over) (c : In-Some g) → Sound c.in-Some.pair
sound g c = (every_back Sound c.loop-pair.yielded (c.in-Some.pair ∷ c.next.new.self) (every g c)).0

pub serve_and_tell-requires-clause-sound : goal.serve_and_tell-requires-clause-sound
serve_and_tell-requires-clause-sound g c = sound g (goal.at.serve_and_tell-requires-clause-sound g c).In-Some

pub loop-pair-init : goal.loop-pair-init
loop-pair-init g c =
    let leg = g.L.Leg in
    record {
      parts = c.into_iter-pair-iterator.ensures.into_iter_gives ∙ c.pairs_of-pair-items.ensures.left;
      wide = c.if-legs-lt-CLASSES.false;
      count = ap length c.new-spreads.ensures;
      walked = λ none fresh. (reached_none leg.rounding leg.left leg.credits leg.with none c.args.legs.now g.met.L.Leg.itself fresh.credits, c.new-spreads.ensures);
    }

pub loop-pair-preserved : goal.loop-pair-preserved
loop-pair-preserved g c =
    let d = (goal.at.loop-pair-preserved g c).In-Some in
    let leg = g.L.Leg in
    let law = g.met.L.Leg in
    let k = leg.rounding in
    let front = c.loop-pair.yielded in
    let p = c.in-Some.pair in
    let s : Sound p = sound g d in
    let inv = c.loop-pair.invariant in
    let before : Every Sound front = every_front Sound front (p ∷ c.next.new.self) (every g d) in
    record {
      parts = append_assoc front (p ∷ []) c.next.new.self ∙ parts g d;
      wide = omega arith;
      count = omega (arith, c.serve_and_tell.ensures.counted, inv.count, length-append front (p ∷ []));
      walked = λ none fresh.
          let r = inv.walked none fresh in
          let init = c.args.legs.now in
          let ls = c.loop-pair.legs in
          let f = left_of leg.left none init in
          let room = fits k leg.left leg.credits leg.with none init law.shows_left law.shows_credits front ls r.0 p s before leg.largest fresh.small leg.unit leg.most law.lowered law.counted law.room in
          let done = c.serve_and_tell.ensures.legs none room in (
            reached_more k leg.left leg.credits leg.with none init law.shows_left law.shows_credits front ls r.0 p s before law.replaces c.serve_and_tell.new.legs inv.wide done,
            c.serve_and_tell.ensures.told none ∙ ap (λ (xs : List Spread). xs ++ told p (part leg.left none p ls) ∷ []) r.1
                ∙ ap (λ m. spreads_of f front ++ told p m ∷ []) (part_reached k leg.left leg.credits leg.with none init law.shows_left law.shows_credits front ls r.0 p s)
                ∙ sym (spreads_push f front p),
          );
    }

pub returns : goal.returns
returns g c = λ none fresh.
    let leg = g.L.Leg in
    let r = c.loop-pair.invariant.walked none fresh in
    let all : c.loop-pair.yielded ≡ (g.S.Sheet.rows c.args.sheet.now).pairs =
    sym (append-nil c.loop-pair.yielded) ∙ ap (λ (ps : List PairRow). c.loop-pair.yielded ++ ps) (sym c.in-None.ensures.steps.0) ∙ c.loop-pair.invariant.parts in
    subst (λ (ps : List PairRow). Walked leg.rounding leg.left leg.with ps none c.args.legs.now c.loop-pair.legs c.loop-pair.spreads.items) all (record { legs = r.0; spreads = r.1 })
