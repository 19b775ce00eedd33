use Rattle.std.proofs.Common.{◌≡◌, ℕ, ◌<◌, length, get_or, None}
use Rattle.terms.specs.Limits.{security_count}
use Rattle.positions.specs.declared.position.Valuation.TheVariants.{Flat}
use Rattle.positions.specs.Questions.{first_below, held_fault}
use Rattle.positions.specs.Values.{valuation_of}
use Rattle.positions.proofs.value.valuations.Given as goal

abbrev pub invariant-loop-security : goal.invariant-loop-security
invariant-loop-security g l =
    let rows = g.S.Sheet.rows l.sheet in
    let nets = g.P.Positions.nets l.book in
    (length l.place-items ≡ security_count)
    × (first_below l.security (held_fault rows nets) ≡ None)
    × ((s : ℕ) → s < l.security → get_or l.place-items s Flat ≡ valuation_of rows nets s)
