-- Worked figures of the margin, in one table. Assumes nothing.
use Rattle.std.specs.Prelude.{◌≡◌, ℕ, zero, suc, true, cond, List, [], ◌∷◌, map, ℤ, pos, negsuc, neg_ℤ, Some, None, Ok, codes, Option, ◌==◌}
use Rattle.std.specs.Option.{option_map}
use Prim.Native.String.{String}
use Rattle.terms.specs.declared.choice.ClassKind.{ClassKind}
use Rattle.terms.specs.declared.choice.ClassKind.TheVariants.{Liquidity, Duration}
use Rattle.terms.specs.declared.fault.Fault.{Fault}
use Rattle.terms.specs.Limits.{booking_limit, class_count, pair_limit}
use Rattle.terms.specs.Numbers.{layer_number}
use Rattle.terms.specs.Refusals.{refusal_number}
use Rattle.rules.specs.declared.rows.ClassRow.{ClassRow}
use Rattle.rules.specs.declared.rows.PairRow.{PairRow}
use Rattle.rules.specs.declared.rows.SecurityRow.{SecurityRow}
use Rattle.rules.specs.Held.{securities_held, classes_held, pairs_held}
use Rattle.rules.specs.Margin.{rounded, amount, position_value, DRR, DRS, DSWK, KSPK, DOLR, DSPAN}
use Rattle.rules.specs.Rows.{Every, Lawful}
use Rattle.rules.specs.Tables.{Table, rows_of}
use Rattle.sheets.specs.Rates2020.{rates_2020}
use Rattle.books.specs.declared.booking.Booking.{Booking}
use Rattle.books.specs.Books.{account_of}
use Rattle.tops.specs.declared.call.Call.TheVariants.{Book, Own}
use Rattle.tops.specs.declared.call.TrialCall.TheVariants.{Commit}
use Rattle.tops.specs.Tallies.{Tally, trial_rules, opened, decide, fed}
use Rattle.deposits.specs.Deposits.{deposit_fault}
use Rattle.lines.specs.Lines.{fed as lines_fed}
use Rattle.intake.specs.Answering.{answer_bytes}

-- ---- sheets and portfolios

-- a liquidity class, with y and x in 10^-5 of the whole
abbrev pub shares_class : ℕ → ℕ → Option ClassRow
shares_class y x = Some (record { kind = Liquidity; y = y; x = x; dep = 0 })

-- a share of a class that is quoted in zloty
abbrev pub share : ℕ → ℕ → Option SecurityRow
share class price = Some (record { class = class; price = price; rate = 10000; duration = 1000000 })

abbrev pub pair : ℕ → ℕ → ℕ → PairRow
pair first second crt = record { first = first; second = second; crt = crt }

-- two classes of shares, and a pair
abbrev pub two_classes : Table
two_classes = record {
  class_rows = shares_class 10000 2000 ∷ shares_class 8000 1000 ∷ [];
  security_rows = share 0 500000 ∷ share 1 300000 ∷ [];
  pair_rows = pair 0 1 5000 ∷ [];
}

-- three classes of shares, and two pairs
abbrev pub three_classes : Table
three_classes = record {
  class_rows = shares_class 50000 0 ∷ shares_class 50000 0 ∷ shares_class 50000 0 ∷ [];
  security_rows = share 0 200 ∷ share 1 100 ∷ share 2 100 ∷ [];
  pair_rows = pair 0 1 50000 ∷ pair 0 2 50000 ∷ [];
}

-- one class of shares, and security 1 alone in it, at a price in zloty
abbrev pub one_share : ℕ → Table
one_share price = record {
  class_rows = shares_class 10000 2000 ∷ [];
  security_rows = None ∷ share 0 price ∷ [];
  pair_rows = [];
}

-- the net of each security, from security 0 on, and 0 past the last
abbrev pub net_at : List ℤ → ℕ → ℤ
net_at [] s = pos 0
net_at (net ∷ nets) zero = net
net_at (net ∷ nets) (suc s) = net_at nets s

-- nets over a sheet
pub record Portfolio : Type 0 where
  pub sheet : Table
  pub nets : List ℤ

abbrev pub over : Table → List ℤ → Portfolio
over sheet nets = record { sheet = sheet; nets = nets }

-- ---- refusals

-- what a fault tells: the number of its refusal, that of its layer, and its place
abbrev pub numbers_of : Fault → ℕ × ℕ × ℕ
numbers_of f = (refusal_number f.refusal, layer_number f.layer, f.place)

-- the fault of the deposit of a portfolio, where there are places for all classes and pairs
abbrev pub refusal_of : Portfolio → Option (ℕ × ℕ × ℕ)
refusal_of p = option_map numbers_of (deposit_fault (rows_of p.sheet) (net_at p.nets) class_count pair_limit)

-- a bond, or a share of class 0, at a price, a currency rate and a duration
abbrev pub priced : ℕ → ℕ → ℕ → SecurityRow
priced price rate duration = record { class = 0; price = price; rate = rate; duration = duration }

-- ---- a trial layer

-- a trial layer just opened over a book in which this net of security 0 is kept
abbrev pub opened_over : ℤ → Tally
opened_over net = opened trial_rules (account_of (λ s. cond (s == 0) net (pos 0)) booking_limit)

-- so much of security 0
abbrev pub of_first : ℤ → Booking
of_first quantity = record { security = 0; quantity = quantity }

-- the same layer once this quantity of security 0 is on trial
abbrev pub trialled : ℤ → ℤ → Tally
trialled net quantity = fed trial_rules (opened_over net) (Book (of_first quantity)) true

-- ---- the table

-- what a figure says
pub data Figure : Type 0 where
  -- the sheet is lawful
  lawful : Table → Figure
  -- what a class owes: DRR, DRS, DSWK, KSPK and DOLR
  class_owes : Portfolio → ℕ → ℕ → ℕ → ℕ → ℕ → ℤ → Figure
  -- what a portfolio owes and holds: DSPAN, C, N and R
  owes : Portfolio → ℤ → ℕ → ℕ → ℕ → Figure
  -- A of so many units at a price and a currency rate
  amount_is : ℕ → ℕ → ℕ → ℕ → Figure
  -- A and V of so many units of a security in a class of this kind
  values : ℕ → SecurityRow → ClassKind → ℕ → ℕ → Figure
  -- such a position has no value, since its A is above the limit
  too_large : ℕ → SecurityRow → ClassKind → Figure
  -- the deposit of a portfolio is accepted
  accepted : Portfolio → Figure
  -- the deposit of a portfolio is refused: the number of the refusal, that of the layer, and the place
  refused : Portfolio → ℕ → ℕ → ℕ → Figure
  -- a net below, a quantity booked on trial, and the net below after the commit; neither call is refused
  committed : ℤ → ℤ → ℤ → Figure
  -- the answer to a text of these lines is these lines
  answered : List String → List String → Figure

-- lines as bytes, each with its feed
abbrev pub bytes_of : List String → List ℕ
bytes_of lines = lines_fed (map codes lines)

abbrev pub Holds : Figure → Type 0
Holds (lawful sheet) = Lawful (rows_of sheet)
Holds (class_owes p c drr drs dswk kspk dolr) =
    (DRR rounded (rows_of p.sheet) (net_at p.nets) c ≡ drr)
    × (DRS rounded (rows_of p.sheet) (net_at p.nets) c ≡ drs)
    × (DSWK rounded (rows_of p.sheet) (net_at p.nets) c ≡ dswk)
    × (KSPK rounded (rows_of p.sheet) (net_at p.nets) c ≡ kspk)
    × (DOLR rounded (rows_of p.sheet) (net_at p.nets) c ≡ dolr)
Holds (owes p dspan classes securities pairs) =
    (DSPAN rounded (rows_of p.sheet) (net_at p.nets) ≡ dspan)
    × (classes_held (rows_of p.sheet) (net_at p.nets) ≡ classes)
    × (securities_held (net_at p.nets) ≡ securities)
    × (pairs_held (rows_of p.sheet) (net_at p.nets) ≡ pairs)
Holds (amount_is q price rate a) = amount q price rate ≡ a
Holds (values q row kind a v) = position_value q row kind ≡ Some (record { units = a }, record { units = v })
Holds (too_large q row kind) = position_value q row kind ≡ None
Holds (accepted p) = refusal_of p ≡ None
Holds (refused p number layer place) = refusal_of p ≡ Some (number, layer, place)
Holds (committed net quantity after) =
    (decide trial_rules (opened_over net) (Book (of_first quantity)) ≡ Ok tt)
    × (decide trial_rules (trialled net quantity) (Own Commit) ≡ Ok tt)
    × (((fed trial_rules (trialled net quantity) (Own Commit) true).kept 0).net ≡ after)
Holds (answered lines told) = answer_bytes (bytes_of lines) ≡ bytes_of told

-- the two bonds of the fixed table, one bought and the other sold
abbrev pub bond_spread : Portfolio
bond_spread = over rates_2020 (pos 1000 ∷ negsuc 999 ∷ [])

-- the same without the sale
abbrev pub one_bond : Portfolio
one_bond = over rates_2020 (pos 1000 ∷ [])

abbrev pub share_spread : Portfolio
share_spread = over two_classes (pos 100 ∷ negsuc 99 ∷ [])

abbrev pub small_spread : Portfolio
small_spread = over three_classes (pos 1 ∷ negsuc 0 ∷ negsuc 0 ∷ [])

-- the largest net of security 1, at a price
abbrev pub large_position : ℕ → Portfolio
large_position price = over (one_share price) (pos 0 ∷ pos 100000000 ∷ [])

-- the text of the two bonds, one bought and the other sold
abbrev pub bond_lines : List String
bond_lines =
    "43020200014A000050000118"
    ∷ "53000200ABE0000027100028380A"
    ∷ "53010200A07EB8002710002D6F3F"
    ∷ "420001000003E8"
    ∷ "420102000003E8"
    ∷ []

abbrev pub bond_answer : List String
bond_answer =
    "4402000000000000D20D000000000007728400000000000CAF4A0000000000000000000000000014F3DB"
    ∷ "5401000200000000000014F3DB"
    ∷ []

-- Limits stand here as the numbers that they are: under a name a figure would hold at any limit.
abbrev pub figures : List Figure
figures =
    lawful rates_2020
    ∷ class_owes bond_spread 2 53773 488068 831306 0 (pos 1373147)
    ∷ owes bond_spread (pos 1373147) 1 2 0
    ∷ class_owes one_bond 2 979753 237516 0 0 (pos 1217269)
    ∷ owes one_bond (pos 1217269) 1 1 0
    ∷ lawful two_classes
    ∷ class_owes share_spread 0 50000 10000 0 15000 (pos 45000)
    ∷ class_owes share_spread 1 24000 3000 0 15000 (pos 12000)
    ∷ owes share_spread (pos 57000) 2 2 1
    ∷ lawful three_classes
    ∷ class_owes small_spread 0 1 0 0 0 (pos 1)
    ∷ class_owes small_spread 1 1 0 0 0 (pos 1)
    ∷ class_owes small_spread 2 1 0 0 0 (pos 1)
    ∷ owes small_spread (pos 3) 3 3 2
    ∷ values 10 (priced 10000000 10000 300000) Duration 100000000 50000000
    ∷ amount_is 1 1 15000 2
    ∷ amount_is 1 1 4999 0
    ∷ values 100000000 (priced 1000000 10000 1000000) Liquidity 100000000000000 100000000000000
    ∷ too_large 100000000 (priced 1000001 10000 1000000) Liquidity
    ∷ lawful (one_share 1000000)
    ∷ accepted (large_position 1000000)
    ∷ lawful (one_share 1000001)
    ∷ refused (large_position 1000001) 22 5 1
    ∷ committed (neg_ℤ (pos 100000000)) (pos 200000000) (pos 100000000)
    ∷ answered bond_lines bond_answer
    ∷ []

-- every figure of the table is true
abbrev pub FiguresHold : Type 0
FiguresHold = Every Holds figures
