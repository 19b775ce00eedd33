-- From a deposit in the first places of a slice, ws before the rest of cs, to that of the whole slice. Assumes nothing.
use Rattle.std.proofs.Common.{◌≡◌, ℕ, ◌<◌, ◌≤◌, Bool, true, false, ◌&&◌, leb, ◌++◌, length, get_or, take, drop, ℤ, pos, Some, None, Ok, Err, Option, Result, sym, refl, ap, ◌∙◌, subst, ap₂, arith}
use mathlib.Core.List as L
use Rattle.std.proofs.lemmas.Bool.{le-leb}
use Rattle.std.proofs.lemmas.List.{get_or_append_left, take_all, take_at, drop_at}
use Rattle.std.specs.Array.{IsFirstChunk}
use Rattle.terms.specs.Limits.{class_count, pair_limit}
use Rattle.terms.specs.Questions.{ask}
use Rattle.terms.specs.Refusals.{fault_at}
use Rattle.terms.specs.declared.fault.Fault.{Fault}
use Rattle.terms.specs.declared.refusal.Refusal.TheVariants.{TooFewPlaces}
use Rattle.lists.specs.declared.list.List.{List}
use Rattle.lists.specs.Lists.{memory}
use Rattle.rules.specs.Rows.{Rows, Lawful}
use Rattle.rules.specs.Margin.{rounded, net_in}
use Rattle.rules.specs.Held.{Exposure, exposure_of}
use Rattle.rules.specs.Laws.{Accurate, Matched}
use Rattle.rules.proofs.Accuracy.{accuracy}
use Rattle.positions.specs.Questions.{portfolio_fault}
use Rattle.deposits.specs.declared.records.ClassMargin.{ClassMargin}
use Rattle.deposits.specs.declared.records.Match.{Match}
use Rattle.deposits.specs.declared.records.Summary.{Summary}
use Rattle.deposits.specs.Told.{none}
use Rattle.deposits.specs.Deposits.{Balanced, Margin, Deposited, Settles, Deposits, Upholds, ask_room, matched_told}

module _ (rows : Rows) (exposure : Exposure) (cs ws : L.List ClassMargin) (m : List Match) (wide : length ws ≡ class_count) where
  at_front : (c : ℕ) → c < class_count → get_or ws c none ≡ get_or (ws ++ drop class_count cs) c none
  at_front c b = sym (get_or_append_left ws (drop class_count cs) none c (omega arith))

  front : take class_count ws ≡ take class_count (ws ++ drop class_count cs)
  front = take_all class_count ws (omega arith) ∙ sym (take_at ws (drop class_count cs) class_count wide)

  balanced : Balanced rows exposure.sums ws m → Balanced rows exposure.sums (ws ++ drop class_count cs) m
  balanced h = record {
    matched = subst (λ (ds : L.List ClassMargin). Matched (net_in exposure.sums) rows.pairs (matched_told m) (λ c. (get_or ds c none).leftover.net)) front h.matched;
    owed = λ c b. (ap (λ (w : ClassMargin). pos w.dolr.grosz) (sym (at_front c b)) ∙ (h.owed c b).0, (h.owed c b).1);
  }

  deposited : (l : List Match) (s : Summary) → Deposited rows exposure (take class_count cs) l ws m s → Deposited rows exposure cs l (ws ++ drop class_count cs) m s
  deposited l s h = record {
    classes = λ c b. subst (Margin rows exposure c) (at_front c b) (h.classes c b);
    past = drop_at ws (drop class_count cs) class_count wide;
    items = h.items;
    memory = h.memory;
    summary = h.summary;
  }

-- there is room
roomy : (places room : ℕ) (next : Option Fault) → class_count ≤ places → pair_limit ≤ room → ask_room places room next ≡ next
roomy places room next p q = ap₂ (λ a b. ask (a && b) (fault_at 0 TooFewPlaces) next) (le-leb class_count places p) (le-leb pair_limit room q)

pub settles_placed : (rows : Rows) (exposure : Exposure) (cs ws xs : L.List ClassMargin) (l m : List Match) → length ws ≡ class_count → IsFirstChunk cs xs class_count → pair_limit ≤ length (memory l) → (s : Summary) →
    Deposited rows exposure xs l ws m s → Balanced rows exposure.sums ws m → Settles rows exposure cs l (ws ++ drop class_count cs) m (Ok s)
settles_placed rows exposure cs ws xs l m wide first room s d u = (
  roomy (length cs) (length (memory l)) None first.enough room,
  (
    deposited rows exposure cs ws m wide l s (subst (λ (ys : L.List ClassMargin). Deposited rows exposure ys l ws m s) first.same d),
    balanced rows exposure cs ws m wide u,
  ),
)

-- ---- from what is told of right sums to the deposit

next_is : (b : Bool) (f : Fault) (next : Option Fault) → ask b f None ≡ None → ask b f next ≡ next
next_is true f next e = refl
next_is false f next e = absurd (let z : ◌≡◌ {A = ℕ} 0 1 = cc in omega arith)

asked_first : (b : Bool) (f x : Fault) (next : Option Fault) → ask b f None ≡ Some x → ask b f next ≡ Some x
asked_first true f x next e = absurd (let z : ◌≡◌ {A = ℕ} 0 1 = cc in omega arith)
asked_first false f x next e = e

module _ (rows : Rows) (lawful : Lawful rows) (nets : ℕ → ℤ) (exposure : Exposure) (same : exposure ≡ exposure_of rounded rows nets) (cs : L.List ClassMargin) (l : List Match) (ds : L.List ClassMargin) (m : List Match) where
  -- where no question refuses the nets, it is their deposit
  pub deposits_settled : portfolio_fault rows nets ≡ None → (r : Result Summary Fault) → Settles rows exposure cs l ds m r → Deposits rows nets cs l ds m r
  deposits_settled pass (Ok s) h = (
    next_is (leb class_count (length cs) && leb pair_limit (length (memory l))) (fault_at 0 TooFewPlaces) (portfolio_fault rows nets) h.0 ∙ pass,
    subst (λ (b : Exposure). Deposited rows b cs l ds m s) same h.1.0,
  )
  deposits_settled pass (Err x) h =
      (asked_first (leb class_count (length cs) && leb pair_limit (length (memory l))) (fault_at 0 TooFewPlaces) x (portfolio_fault rows nets) h.0, h.1)

  pub upholds_settled : (r : Result Summary Fault) → Settles rows exposure cs l ds m r → Upholds rows nets ds m r
  upholds_settled (Ok s) h =
      let d : Deposited rows (exposure_of rounded rows nets) cs l ds m s = subst (λ (b : Exposure). Deposited rows b cs l ds m s) same h.1.0 in
      let b : Balanced rows (exposure_of rounded rows nets).sums ds m = subst (λ (b : Exposure). Balanced rows b.sums ds m) same h.1.1 in
      record { accurate = subst (Accurate rows nets) (sym d.summary.dspan) (accuracy rows lawful nets); matched = b.matched; owed = b.owed }
  upholds_settled (Err x) h = tt

-- a deposit that is refused by a security
pub deposit_refused : (rows : Rows) (nets : ℕ → ℤ) (cs : L.List ClassMargin) (l : List Match) (x : Fault) → class_count ≤ length cs → pair_limit ≤ length (memory l) → portfolio_fault rows nets ≡ Some x →
    Deposits rows nets cs l cs l (Err x)
deposit_refused rows nets cs l x p q e = (roomy (length cs) (length (memory l)) (portfolio_fault rows nets) p q ∙ e, (refl, refl))
