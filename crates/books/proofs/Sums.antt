-- One booking more of a journal.
use Rattle.std.proofs.Common.{◌≡◌, ℕ, suc, ◌+◌, ◌<◌, ◌≤◌, Bool, true, false, cond, eqb, [], ◌∷◌, ◌++◌, length, get_or, take, ℤ, pos, ◌+ℤ◌, sym, refl, ap, ◌∙◌, subst, ⊎_elim, arith, length-append, length-set, take_all}
use mathlib.Core.List as L
use lib.IntN.{+ℤ_assoc, +ℤ_idr, +ℤ_idl}
use lib.Seq.{take-append-le}
use Rattle.std.proofs.lemmas.List.{take_more, length_push}
use Rattle.std.proofs.lemmas.Bool.{cases_lt}
use Rattle.lists.specs.declared.list.List.{List}
use Rattle.lists.specs.Lists.{items, memory, Appended}
use Rattle.terms.specs.Limits.{net_limit, security_count}
use Rattle.books.specs.declared.booking.Booking.{Booking}
use Rattle.books.specs.Books.{Within}
use Rattle.books.proofs.Accounts.{shifted}
use Rattle.books.specs.Journals.{free}
use Rattle.books.specs.Totals.{share, total}
use Rattle.books.proofs.Limits.{shifted_all, shifted_other}

pub total_push : (bs : L.List Booking) (b : Booking) (s : ℕ) → total (bs ++ b ∷ []) s ≡ total bs s +ℤ share b s
total_push [] b s = +ℤ_idr (share b s) ∙ sym (+ℤ_idl (share b s))
total_push (x ∷ bs) b s = ap (λ z. share x s +ℤ z) (total_push bs b s) ∙ sym (+ℤ_assoc (share x s) (total bs s) (share b s))

-- one booking more of a walk
pub total_more : (bs : L.List Booking) (i : ℕ) (d : Booking) (s : ℕ) → i < length bs → total (take (i + 1) bs) s ≡ total (take i bs) s +ℤ share (get_or bs i d) s
total_more bs i d s h = ap (λ l. total l s) (take_more bs i d h) ∙ total_push (take i bs) (get_or bs i d) s

added : (t : Bool) (n q : ℤ) → n +ℤ cond t q (pos 0) ≡ cond t (n +ℤ q) n
added true n q = refl
added false n q = +ℤ_idr n

-- it moves the sums as a booking moves the nets
pub total_books : (bs : L.List Booking) (b : Booking) (s : ℕ) → total (bs ++ b ∷ []) s ≡ shifted (total bs) b.security b.quantity s
total_books bs b s = total_push bs b s ∙ added (eqb s b.security) (total bs s) b.quantity

-- it keeps every limit, where the new sum does
pub push_limited : (bs : L.List Booking) (b : Booking) → ((n s : ℕ) → Within net_limit (total (take n bs) s)) → Within net_limit (total bs b.security +ℤ b.quantity) → (n s : ℕ) → Within net_limit (total (take n (bs ++ b ∷ [])) s)
push_limited bs b each new n s =
    let Kept : L.List Booking → Type 0 = λ l. Within net_limit (total l s) in
    let whole : (t : ℕ) → Within net_limit (total bs t) = λ t. subst (λ l. Within net_limit (total l t)) (take_all (length bs) bs (omega arith)) (each (length bs) t) in
    let after = shifted_all (Within net_limit) (total bs) b.security b.quantity whole new s in
    ⊎_elim
    (λ (le : n < suc (length bs)). subst Kept (sym (take-append-le n bs (b ∷ []) (omega arith))) (each n s))
    (λ (gt : suc (length bs) ≤ n). subst Kept (sym (take_all n (bs ++ b ∷ []) (simp length-append (omega arith))))
    (subst (Within net_limit) (sym (total_books bs b s)) after))
    (cases_lt n (suc (length bs)))

-- the list with one booking more
module _ (booking : Booking) (before after : List Booking) (h : Appended booking before after) where
  pub nets_after : (s : ℕ) → total (items after) s ≡ shifted (total (items before)) booking.security booking.quantity s
  nets_after s = ap (λ l. total l s) h.items ∙ total_books (items before) booking s

  pub count_after : length (items after) ≡ length (items before) + 1
  count_after = ap length h.items ∙ length_push (items before) booking

  pub left_after : 0 < free (length (memory before)) (length (items before)) → free (length (memory after)) (length (items after)) + 1 ≡ free (length (memory before)) (length (items before))
  left_after f = omega (arith, count_after, ap length h.memory, length-set (memory before) (length (items before)) booking)

  pub limited_after : ((n s : ℕ) → Within net_limit (total (take n (items before)) s)) → Within net_limit (total (items before) booking.security +ℤ booking.quantity) → (n s : ℕ) → Within net_limit (total (take n (items after)) s)
  limited_after each new n s =
      subst (λ l. Within net_limit (total (take n l) s)) (sym h.items) (push_limited (items before) booking each new n s)

  pub known_after : booking.security < security_count → ((s : ℕ) → security_count ≤ s → total (items before) s ≡ pos 0) → (s : ℕ) → security_count ≤ s → total (items after) s ≡ pos 0
  known_after within known s past = nets_after s ∙ shifted_other (total (items before)) booking.security booking.quantity s (λ e. omega arith) ∙ known s past
