-- Amounts as people write them, in zloty and to their last digit. Assumes nothing.
use Rattle.std.specs.Prelude.{ℕ, suc, List, [], ℤ, pos, negsuc, codes}
use Rattle.terms.specs.Texts.{◌⧺◌}
use Rattle.wording.specs.Decimals.{decimals}

-- thousandths of a grosz, and 10^-19 zloty
unfoldable pub thousandths : ℕ → List ℕ
thousandths n = decimals 5 n []

unfoldable pub exact_amount : ℕ → List ℕ
exact_amount n = decimals 19 n []

-- the same with its sign
unfoldable pub signed_exact : ℤ → List ℕ
signed_exact (pos n) = exact_amount n
signed_exact (negsuc n) = codes "-" ⧺ exact_amount (suc n)
