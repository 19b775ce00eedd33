-- What is told of a class that is not held, and of the pairs of a sheet. Assumes nothing.
use Rattle.std.specs.Prelude.{ℕ, false, [], ◌∷◌, ℤ, pos}
use mathlib.Core.List as L
use Rattle.terms.specs.declared.money.Grosz.{Grosz}
use Rattle.terms.specs.declared.money.SignedZloty.{SignedZloty}
use Rattle.rules.specs.declared.rows.PairRow.{PairRow}
use Rattle.rules.specs.Margin.{matches}
use Rattle.positions.specs.Values.{zl}
use Rattle.spreads.specs.declared.spread.Spread.{Spread}
use Rattle.deposits.specs.declared.records.ClassMargin.{ClassMargin}
use Rattle.deposits.specs.declared.records.Match.{Match}

-- so many grosz
abbrev pub gr : ℕ → Grosz
gr n = record { grosz = n }

-- so many zloty units: bought above 0, sold below
abbrev pub sz : ℤ → SignedZloty
sz n = record { net = n }

-- the record of a class that is not held
abbrev pub none : ClassMargin
none = record { bought = zl 0; sold = zl 0; leftover = sz (pos 0); held = false; drr = gr 0; drs = gr 0; dswk = gr 0; kspk = gr 0; dolr = gr 0 }

-- the record of a match
abbrev pub match_record : PairRow → ℕ → Match
match_record p m = record { first = p.first; second = p.second; matched = zl m }

-- the record of a pair that is served
abbrev pub told_of : Spread → Match
told_of x = match_record x.pair x.matched

-- the records of the matches, a pair and its m
abbrev pub told : L.List PairRow → L.List ℕ → L.List Match
told [] ms = []
told (p ∷ ps) [] = []
told (p ∷ ps) (m ∷ ms) = match_record p m ∷ told ps ms

-- what a walk over the pairs tells, from these net values
abbrev pub told_by : (ℕ → ℤ) → L.List PairRow → L.List Match
told_by f ps = told ps (matches f ps)
