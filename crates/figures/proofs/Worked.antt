-- The figures of the table, computed. Assumes nothing.
use Rattle.std.proofs.Common.{refl}
use Rattle.rules.proofs.Tables.{table_lawful}
use Rattle.rules.specs.Held.{held_in}
use Rattle.rules.specs.Margin.{value_in, step}
use Rattle.terms.specs.Sums.{sum_below, sum_belowℤ}
use Rattle.sheets.specs.Rates2020.{rates_2020}
use Rattle.trials.specs.Trials.{count}
use Rattle.positions.specs.Questions.{first_below}
use Rattle.intake.specs.Answering.{held_lines}
use Rattle.figures.specs.Figures.{FiguresHold, one_share, two_classes, three_classes}

pub figures_hold : FiguresHold
unfolding sum_below sum_belowℤ value_in held_in step count first_below held_lines
figures_hold = (
  table_lawful rates_2020 refl,
  (
    (refl, refl, refl, refl, refl),
    (
      (refl, refl, refl, refl),
      (
        (refl, refl, refl, refl, refl),
        (
          (refl, refl, refl, refl),
          (
            table_lawful two_classes refl,
            (
              (refl, refl, refl, refl, refl),
              (
                (refl, refl, refl, refl, refl),
                (
                  (refl, refl, refl, refl),
                  (
                    table_lawful three_classes refl,
                    (
                      (refl, refl, refl, refl, refl),
                      (
                        (refl, refl, refl, refl, refl),
                        (
                          (refl, refl, refl, refl, refl),
                          (
                            (refl, refl, refl, refl),
                            (
                              refl,
                              (
                                refl,
                                (
                                  refl,
                                  (
                                    refl,
                                    (
                                      refl,
                                      (
                                        table_lawful (one_share 1000000) refl,
                                        (
                                          refl,
                                          (
                                            table_lawful (one_share 1000001) refl,
                                            (
                                              refl,
                                              (
                                                (refl, refl, refl),
                                                (
                                                  refl,
                                                  tt,
                                                ),
                                              ),
                                            ),
                                          ),
                                        ),
                                      ),
                                    ),
                                  ),
                                ),
                              ),
                            ),
                          ),
                        ),
                      ),
                    ),
                  ),
                ),
              ),
            ),
          ),
        ),
      ),
    ),
  ),
)
