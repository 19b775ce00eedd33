-- What a deposit tells, with every figure. Assumes nothing.
use Rattle.std.specs.Prelude.{◌≡◌, ℕ, ◌-◌, ◌<◌, List, ◌++◌, map, length, take, replicate, ℤ, Some, None, Option, slice_index_or}
use Rattle.std.specs.Option.{some_prefix}
use Rattle.terms.specs.Limits.{class_count, pair_limit}
use Rattle.rules.specs.Rows.{Rows}
use Rattle.rules.specs.Margin.{rounded, net_value}
use Rattle.rules.specs.Held.{exposure_of}
use Rattle.deposits.specs.declared.records.ClassMargin.{ClassMargin}
use Rattle.deposits.specs.declared.records.Match.{Match}
use Rattle.deposits.specs.declared.records.Summary.{Summary}
use Rattle.deposits.specs.Told.{none, told_by}
use Rattle.deposits.specs.Deposits.{Margin, SummedUp}
use Rattle.histories.specs.declared.telling.Telling.{Telling}

-- matches at the front of the places of a telling, and none behind them
abbrev pub padded : List Match → List (Option Match)
padded ms = map Some ms ++ replicate (pair_limit - length ms) None

-- what is told by a summary, the class places and the matches that a deposit leaves
abbrev pub telling_of : Summary → List ClassMargin → List Match → Telling
telling_of s classes ms = record { summary = s; classes = take class_count classes; matches = padded ms }

-- what is told of a class
abbrev pub told_class : Telling → ℕ → ClassMargin
told_class t c = slice_index_or t.classes c none

-- the matches that are told, one a pair
abbrev pub told_matches : Telling → List Match
told_matches t = some_prefix t.matches

-- how much each of them matches, and the leftover of each class
abbrev pub told_parts : Telling → List ℕ
told_parts t = map (λ x. x.matched.units) (told_matches t)

abbrev pub told_leftover : Telling → ℕ → ℤ
told_leftover t c = (told_class t c).leftover.net

-- Every figure is the defined one, of these nets and over these rows: the summary, the record of each class, and the
-- match of each pair, with no match in the places behind them.
pub record Tells (rows : Rows) (nets : ℕ → ℤ) (t : Telling) : Type 0 where
  pub summary : SummedUp rows (exposure_of rounded rows nets) t.summary
  pub long : length t.classes ≡ class_count
  pub classes : (c : ℕ) → c < class_count → Margin rows (exposure_of rounded rows nets) c (told_class t c)
  pub pairs : length (told_matches t) ≡ length rows.pairs
  pub matches : t.matches ≡ padded (told_by (net_value rounded rows nets) rows.pairs)
