-- What a rate sheet means: its rows, and the laws that they obey. Assumes nothing.
use Rattle.std.specs.Prelude.{◌≡◌, ℕ, ◌+◌, ◌<◌, ◌≤◌, min, ◌≢◌, List, [], ◌∷◌, length, Some, None, Option}
use Rattle.terms.specs.declared.choice.ClassKind.TheVariants.{Liquidity}
use Rattle.terms.specs.Limits.{security_count, class_count, pair_limit, whole, price_limit, rate_limit, duration_limit, duration_one}
use Rattle.rules.specs.declared.rows.ClassRow.{ClassRow}
use Rattle.rules.specs.declared.rows.SecurityRow.{SecurityRow}
use Rattle.rules.specs.declared.rows.PairRow.{PairRow}

-- the row of a class and of a security, if it has one, and the pairs in their order
pub record Rows : Type 0 where
  pub classes : ℕ → Option ClassRow
  pub securities : ℕ → Option SecurityRow
  pub pairs : List PairRow

-- P holds of each row of the list
abbrev pub Every : {A : Type 0} → (A → Type 0) → List A → Type 0
Every P [] = Unit {0}
Every P (a ∷ rest) = P a × Every P rest

-- P holds of the row, if there is one
abbrev pub Present : {A : Type 0} → (A → Type 0) → Option A → Type 0
Present P (Some a) = P a
Present P None = Unit {0}

-- there is a row, and P holds of it
abbrev pub Has : {A : Type 0} → (A → Type 0) → Option A → Type 0
Has P (Some a) = P a
Has P None = ⊥

-- a figure of a row, 0 where there is none
abbrev pub figure : (ClassRow → ℕ) → Option ClassRow → ℕ
figure f (Some r) = f r
figure f None = 0

pub record LawfulClass (c : ℕ) (r : ClassRow) : Type 0 where
  pub number : c < class_count
  pub y_small : r.y ≤ whole
  pub x_small : r.x ≤ whole
  pub dep_small : r.dep ≤ whole
  pub no_dep : r.kind ≡ Liquidity → r.dep ≡ 0

pub record LawfulSecurity (rows : Rows) (s : ℕ) (r : SecurityRow) : Type 0 where
  pub number : s < security_count
  pub price_some : 1 ≤ r.price
  pub price_small : r.price ≤ price_limit
  pub rate_some : 1 ≤ r.rate
  pub rate_small : r.rate ≤ rate_limit
  pub duration_small : r.duration ≤ duration_limit
  pub plain : Has (λ row. row.kind ≡ Liquidity → r.duration ≡ duration_one) (rows.classes r.class)

pub record LawfulPair (rows : Rows) (p : PairRow) : Type 0 where
  pub apart : p.first ≢ p.second
  pub kinds : Has (λ one. Has (λ other. one.kind ≡ other.kind) (rows.classes p.second)) (rows.classes p.first)
  pub crt_first : p.crt ≤ figure (λ r. r.y) (rows.classes p.first)
  pub crt_second : p.crt ≤ figure (λ r. r.y) (rows.classes p.second)

pub record Lawful (rows : Rows) : Type 0 where
  pub of_classes : (c : ℕ) → Present (LawfulClass c) (rows.classes c)
  pub of_securities : (s : ℕ) → Present (LawfulSecurity rows s) (rows.securities s)
  pub of_pairs : Every (LawfulPair rows) rows.pairs
  pub few_pairs : length rows.pairs ≤ pair_limit

-- a rate with a surcharge: the smaller of the whole and the sum
abbrev pub surcharged : ℕ → ℕ → ℕ
surcharged rate addition = min whole (rate + addition)

-- a row with additions to its y and its x
abbrev pub raised_class : ℕ → ℕ → ClassRow → ClassRow
raised_class a b r = record { kind = r.kind; y = surcharged r.y a; x = surcharged r.x b; dep = r.dep }

abbrev pub raised_row_lem : ℕ → ℕ → Option ClassRow → Option ClassRow
raised_row_lem a b (Some r) = Some (raised_class a b r)
raised_row_lem a b None = None

-- the rows with additions to the y and the x of each class; all else is as before
abbrev pub raised : (ℕ → ℕ) → (ℕ → ℕ) → Rows → Rows
raised a b rows = record { classes = λ c. raised_row_lem (a c) (b c) (rows.classes c); securities = rows.securities; pairs = rows.pairs }
