-- What is said of a text: how near the deposit of its bookings, by its rows, is to the exact margin, or why it is refused. Assumes nothing.
use Rattle.std.specs.Prelude.{ℕ, zero, suc, ◌+◌, List, [], ◌∷◌, ℤ, Some, None, Ok, Err, Option, Result, unsigned_abs}
use Rattle.terms.specs.Limits.{class_count}
use Rattle.terms.specs.declared.fault.Fault.{Fault}
use Rattle.rules.specs.Rows.{Rows}
use Rattle.rules.specs.Margin.{exact, rounded, bought, sold, net_value, leftovers, DRR, DRS, DSWK, KSPK, DOLR, DSPAN}
use Rattle.rules.specs.Held.{held_class, securities_held, classes_held, pairs_held}
use Rattle.rules.specs.Laws.{accuracy_bound_lem}
use Rattle.books.specs.Books.{nets_of}
use Rattle.positions.specs.Questions.{portfolio_fault}
use Rattle.positions.specs.Values.{zl}
use Rattle.deposits.specs.declared.records.ClassMargin.{ClassMargin}
use Rattle.deposits.specs.declared.records.Match.{Match}
use Rattle.deposits.specs.declared.records.Summary.{Summary}
use Rattle.deposits.specs.Told.{gr, sz, told_by}
use Rattle.measures.specs.declared.record.Measure.{Measure}
use Rattle.measures.specs.Measures.{gap_of}
use Rattle.entries.specs.declared.line_fault.LineFault.{LineFault}
use Rattle.entries.specs.Desks.{Desk}
use Rattle.entries.specs.Reading.{after_text}
use Rattle.gaps.specs.Lines.{deposit_refused, measure_lines, text_refused}

-- DSPAN, C, N and R of a portfolio
abbrev pub summary_of : Rows → (ℕ → ℤ) → Summary
summary_of rows nets = record {
  dspan = gr (unsigned_abs (DSPAN rounded rows nets));
  classes = classes_held rows nets;
  securities = securities_held nets;
  pairs = pairs_held rows nets;
}

-- these, the exact margin, the gap between it and the deposit, and how large the gap may be
abbrev pub measure_of : Rows → (ℕ → ℤ) → Measure
measure_of rows nets = record {
  summary = summary_of rows nets;
  exact = DSPAN exact rows nets;
  gap = gap_of (summary_of rows nets).dspan (DSPAN exact rows nets);
  bound = accuracy_bound_lem (classes_held rows nets) (securities_held nets) (pairs_held rows nets);
}

-- the figures of one class
abbrev pub margin_of : Rows → (ℕ → ℤ) → ℕ → ClassMargin
margin_of rows nets c = record {
  bought = zl (bought rounded rows nets c);
  sold = zl (sold rounded rows nets c);
  leftover = sz (leftovers (net_value rounded rows nets) rows.pairs c);
  held = held_class rows nets c;
  drr = gr (DRR rounded rows nets c);
  drs = gr (DRS rounded rows nets c);
  dswk = gr (DSWK rounded rows nets c);
  kspk = gr (KSPK rounded rows nets c);
  dolr = gr (unsigned_abs (DOLR rounded rows nets c));
}

-- so many classes, from this one on
unfoldable pub margins_from : Rows → (ℕ → ℤ) → ℕ → ℕ → List ClassMargin
margins_from rows nets c zero = []
margins_from rows nets c (suc n) = margin_of rows nets c ∷ margins_from rows nets (c + 1) n

-- all that is measured, or why the deposit is refused
unfoldable pub measured_lines : Result Measure Fault → List ClassMargin → List Match → List ℕ
measured_lines (Ok measure) classes matches = measure_lines measure classes matches
measured_lines (Err fault) classes matches = deposit_refused fault

-- why the deposit of a portfolio is refused, or else all that is measured of it
abbrev pub unless_refused : Option Fault → Rows → (ℕ → ℤ) → List ℕ
unless_refused (Some fault) rows nets = deposit_refused fault
unless_refused None rows nets = measure_lines (measure_of rows nets) (margins_from rows nets 0 class_count) (told_by (net_value rounded rows nets) rows.pairs)

unfoldable pub portfolio_lines : Rows → (ℕ → ℤ) → List ℕ
portfolio_lines rows nets = unless_refused (portfolio_fault rows nets) rows nets

-- the same of what the lines of a text make up, or why the text is refused
abbrev pub desk_lines : Result Desk LineFault → List ℕ
desk_lines (Ok desk) = portfolio_lines desk.rows (nets_of desk.account)
desk_lines (Err refused) = text_refused refused

-- all that is said of a text
abbrev pub report_lines : List ℕ → List ℕ
report_lines text = desk_lines (after_text text)
