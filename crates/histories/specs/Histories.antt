-- The law over every history: each call is refused or answered as the tally of the calls before it decides. Assumes nothing.
use Rattle.std.specs.Prelude.{◌≡◌, ℕ, min, List, [], ◌∷◌, ◌++◌, ℤ, is_ok}
use Rattle.books.specs.declared.booking.Booking.{Booking}
use Rattle.books.specs.Books.{Account, nothing}
use Rattle.tops.specs.Tallies.{Rules, opened, decide, fed, posted, tally_nets}
use Rattle.tops.specs.Tallies as tops
use Rattle.rules.specs.Rows.{Rows}
use Rattle.surcharges.specs.declared.setting.Setting.{Setting}
use Rattle.surcharges.specs.Surcharges.{Additions, no_additions, with_additions, setting_answer, set_by}
use Rattle.histories.specs.declared.step.Step.{Step}
use Rattle.histories.specs.declared.step.Step.TheVariants.{Book, Sheet, Deposit}
use Rattle.histories.specs.declared.step.Entry.{Entry}
use Rattle.histories.specs.declared.step.Entry.TheVariants.{Done, Told}
use Rattle.histories.specs.Demands.{Right}

-- the tally: per security what was kept and what is on trial, with the bookings left; per class the additions
pub record Tally : Type 0 where
  pub book : tops.Tally
  pub additions : Additions

abbrev pub tally : tops.Tally → Additions → Tally
tally book additions = record { book = book; additions = additions }

-- kept and trial together
abbrev pub nets_of : Tally → ℕ → ℤ
nets_of t = tally_nets t.book

-- nothing is kept, nothing is on trial, and nothing is added
pub record Blank (t : Tally) : Type 0 where
  pub kept : (s : ℕ) → t.book.kept s ≡ nothing
  pub trial : (s : ℕ) → t.book.trial s ≡ nothing
  pub on_y : (c : ℕ) → t.additions.on_y c ≡ 0
  pub on_x : (c : ℕ) → t.additions.on_x c ≡ 0

-- the tally of two tops that were just opened, over a book with this account
abbrev pub at_first : {O : Type 0} → Rules O → Account → Tally
at_first rules account = tally (opened rules account) no_additions

-- the tally after a step, by the rules of the top of the book and what the calls of the top of the sheet mean: a refused
-- call and a deposit change nothing
abbrev pub noted : {O P : Type 0} → Rules O → (P → Setting) → Tally → Step O P → Entry → Tally
noted rules means t (Book c) (Done r) = tally (fed rules t.book c (is_ok r)) t.additions
noted rules means t (Book c) (Told r) = t
noted rules means t (Sheet p) (Done r) = tally t.book (set_by t.additions (means p) (is_ok r))
noted rules means t (Sheet p) (Told r) = t
noted rules means t (Deposit classes matches) e = t

module _ {O P : Type 0} (rules : Rules O) (means : P → Setting) where
  -- the tally after all the steps that have an entry
  abbrev pub noted_in : Tally → List (Step O P) → List Entry → Tally
  noted_in t [] es = t
  noted_in t (s ∷ ss) [] = t
  noted_in t (s ∷ ss) (e ∷ es) = noted_in (noted rules means t s e) ss es

  -- what a step posts to the book beneath the top, by what it gave
  abbrev pub posted_by : Tally → Step O P → Entry → List Booking
  posted_by t (Book c) (Done r) = posted rules t.book c (is_ok r)
  posted_by t (Book c) (Told r) = []
  posted_by t (Sheet p) e = []
  posted_by t (Deposit classes matches) e = []

  -- what all of them post, in their order
  abbrev pub posted_in : Tally → List (Step O P) → List Entry → List Booking
  posted_in t [] es = []
  posted_in t (s ∷ ss) [] = []
  posted_in t (s ∷ ss) (e ∷ es) = posted_by t s e ++ posted_in (noted rules means t s e) ss es

-- `below` are the rows of the sheet below its top; there are so many class places, and so many places for matches
module _ {O P : Type 0} (rules : Rules O) (means : P → Setting) (below : Rows) (places room : ℕ) where
  -- the entry is the right one
  abbrev pub Fits : Tally → Step O P → Entry → Type 0
  Fits t (Book c) (Done r) = r ≡ decide rules t.book c
  Fits t (Book c) (Told r) = ⊥
  Fits t (Sheet p) (Done r) = r ≡ setting_answer (means p)
  Fits t (Sheet p) (Told r) = ⊥
  Fits t (Deposit classes matches) (Done r) = ⊥
  Fits t (Deposit classes matches) (Told r) =
      Right (min classes places) (min matches room) below (with_additions t.additions below) (nets_of t) r

  -- there is one entry a step, and each is right by the tally of what came before it
  abbrev pub History : Tally → List (Step O P) → List Entry → Type 0
  History t [] [] = Unit {0}
  History t [] (e ∷ es) = ⊥
  History t (s ∷ ss) [] = ⊥
  History t (s ∷ ss) (e ∷ es) = Fits t s e × History (noted rules means t s e) ss es
