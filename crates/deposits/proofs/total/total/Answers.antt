use Rattle.std.proofs.Common.{◌≡◌, ℕ, ◌+◌, get_or, sym, ap, ◌∙◌, arith}
use Rattle.rules.proofs.Sums.{sum_more, sum_none}
use Rattle.deposits.specs.Told.{none}
use Rattle.deposits.proofs.total.total.Goals as goal

pub loop-class-init : goal.loop-class-init
loop-class-init c = (sym (sum_none _), omega arith)

pub loop-class-preserved : goal.loop-class-preserved
loop-class-preserved c =
    let i = c.loop-class.class-index in
    let f : ℕ → ℕ = λ k. (get_or c.args.classes.now k none).dolr.grosz in
    let next : c.add_assign.new.self.grosz ≡ c.loop-class.total.grosz + f i =
    c.add_assign.ensures.after.1 (omega (arith, c.loop-class.invariant.1, c.requires i c.loop-class-test.true)) in (
      next ∙ ap (λ (n : ℕ). n + f i) c.loop-class.invariant.0 ∙ sym (sum_more i f),
      omega (arith, next, c.loop-class.invariant.1, c.requires i c.loop-class-test.true),
    )
