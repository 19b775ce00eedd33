-- The class records as the steps of a deposit leave them. Assumes nothing.
use Rattle.std.specs.Prelude.{ℕ, ◌+◌, ◌-◌, ◌≤◌, min, Bool, ◌&&◌, get_or, ℤ, pos, ◌-ℤ◌, nat_lt, unsigned_abs}
use mathlib.Core.List as L
use Rattle.rules.specs.declared.rows.PairRow.{PairRow}
use Rattle.rules.specs.Laws.{deposit_limit}
use Rattle.rules.specs.Rows.{Rows}
use Rattle.rules.specs.Margin.{rounded}
use Rattle.sheets.specs.Readings.{Figures, rates_in}
use Rattle.positions.specs.declared.class_sum.ClassSum.{ClassSum}
use Rattle.positions.specs.Values.{zl}
use Rattle.deposits.specs.declared.records.ClassMargin.{ClassMargin}
use Rattle.deposits.specs.Told.{gr, none, sz}

-- a class before any pair is served, by its rates, its two sums and whether it is held
abbrev pub opened_by : Figures → ℕ → ℕ → Bool → ClassMargin
opened_by rates pk ps held = record {
  bought = zl pk;
  sold = zl ps;
  leftover = sz (pos pk -ℤ pos ps);
  held = held;
  drr = gr (rounded.part rates.y (unsigned_abs (pos pk -ℤ pos ps)));
  drs = gr (rounded.part rates.x (pk + ps));
  dswk = gr (rounded.part rates.dep (min pk ps));
  kspk = gr 0;
  dolr = gr 0;
}

abbrev pub class_opened : Rows → ClassSum → ℕ → ClassMargin
class_opened rows sum c = opened_by (rates_in (rows.classes c)) sum.bought.units sum.sold.units (nat_lt 0 sum.held)

-- ---- the walk over the pairs

abbrev pub left_of : L.List ClassMargin → ℕ → ℤ
left_of cs c = (get_or cs c none).leftover.net

-- a class with another leftover and other credits
abbrev pub walked : ClassMargin → ℤ → ℕ → ClassMargin
walked w left credits = record {
  bought = w.bought;
  sold = w.sold;
  leftover = sz left;
  held = w.held;
  drr = w.drr;
  drs = w.drs;
  dswk = w.dswk;
  kspk = gr credits;
  dolr = w.dolr;
}

-- ---- what a class owes

abbrev pub closed : ClassMargin → ClassMargin
closed w = record {
  bought = w.bought;
  sold = w.sold;
  leftover = w.leftover;
  held = w.held;
  drr = w.drr;
  drs = w.drs;
  dswk = w.dswk;
  kspk = w.kspk;
  dolr = gr (w.drr.grosz - w.kspk.grosz + w.drs.grosz + w.dswk.grosz);
}

-- a class whose credits are at most its part for the net value, and whose parts fit
abbrev pub Owing : ClassMargin → Type 0
Owing w = (w.kspk.grosz ≤ w.drr.grosz) × (w.drr.grosz + w.drs.grosz + w.dswk.grosz ≤ deposit_limit)

-- whether a class, and both classes of a pair, are told as held
abbrev pub held_flag : L.List ClassMargin → ℕ → Bool
held_flag cs c = (get_or cs c none).held

abbrev pub both_flagged : L.List ClassMargin → PairRow → Bool
both_flagged cs p = held_flag cs p.first && held_flag cs p.second
