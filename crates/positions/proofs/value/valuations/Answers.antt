use Rattle.std.proofs.Common.{◌<◌, length, get_or, set, ℤ, pos, refl, ap, ◌∙◌, ◌≡◌, None, arith, length-set, w64, SFits, to_z, of_z, rules}
use Rattle.std.proofs.lemmas.Int.{to_z-of_z}
use Rattle.std.proofs.lemmas.List.Edits.{fill_by_more}
use Rattle.terms.specs.Limits.{security_count}
use Rattle.terms.specs.Refusals.{answer_at}
use Rattle.positions.specs.declared.position.Valuation.TheVariants.{Flat}
use Rattle.positions.specs.Questions.{portfolio_fault, held_refusal, held_fault}
use Rattle.positions.specs.Values.{valuation_of}
use Rattle.positions.proofs.Agreeing.{all_asked}
use Rattle.positions.proofs.Refusing.{first_none, first_more, first_found, answered_err, answered_ok}
use Rattle.positions.proofs.value.valuations.Goals as goal

-- a net is handed on as its bits
net : (z n : ℤ) → SFits w64 z → z ≡ n → to_z w64 (of_z w64 z) ≡ n
net z n f e = to_z-of_z w64 z f ∙ e

pub loop-security-init : goal.loop-security-init
loop-security-init g c = (refl, first_none _, λ s l. absurd (omega arith))

pub returns-in_err-place : goal.returns-in_err-place
returns-in_err-place g c =
    let rows = g.S.Sheet.rows c.args.sheet.now in
    let nets = g.P.Positions.nets c.args.book.now in
    let i = c.loop-security.security in
    let x = c.in_err-place.field-0.0 in
    let z = net (get_or c.all_nets-nets.result i (pos 0)) (nets i) (search rules) (c.all_nets-nets.ensures i c.loop-security-test.true) in
    let h = answered_err i (valuation_of rows nets i) (held_refusal rows nets i) x (c.in_err-place.ensures ∙ ap (λ (n : ℤ). answer_at i (valuation_of rows (λ _. n) i) (held_refusal rows (λ _. n) i)) z) in
    let first = first_found i security_count (held_fault rows nets) x c.loop-security-test.true c.loop-security.invariant.1 h in
    search rules

pub loop-security-preserved : goal.loop-security-preserved
loop-security-preserved g c =
    let rows = g.S.Sheet.rows c.args.sheet.now in
    let nets = g.P.Positions.nets c.args.book.now in
    let i = c.loop-security.security in
    let all = c.loop-security.place-items in
    let p = c.in_ok-place.field-0 in
    let z = net (get_or c.all_nets-nets.result i (pos 0)) (nets i) (search rules) (c.all_nets-nets.ensures i c.loop-security-test.true) in
    let h = answered_ok i (valuation_of rows nets i) (held_refusal rows nets i) p (c.in_ok-place.ensures ∙ ap (λ (n : ℤ). answer_at i (valuation_of rows (λ _. n) i) (held_refusal rows (λ _. n) i)) z) in
    let l : i < length all = omega (arith, c.loop-security.invariant.0) in (
      length-set all i p ∙ c.loop-security.invariant.0,
      first_more i (held_fault rows nets) c.loop-security.invariant.1 ∙ h.0,
      λ s b. ap (λ q. get_or (set all i q) s Flat) h.1 ∙ fill_by_more (valuation_of rows nets) all i Flat l c.loop-security.invariant.2 s b,
    )

pub returns : goal.returns
returns g c =
    let rows = g.S.Sheet.rows c.args.sheet.now in
    let nets = g.P.Positions.nets c.args.book.now in
    let pass : portfolio_fault rows nets ≡ None = search rules in
    (pass, record { long = c.loop-security.invariant.0; each = λ s l. c.loop-security.invariant.2 s (omega arith); asked = all_asked rows nets pass })
