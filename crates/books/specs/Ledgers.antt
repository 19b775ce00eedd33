-- What a ledger means. Assumes nothing.
use Rattle.std.specs.Prelude.{◌≡◌, ℕ, ◌≤◌, ℤ, pos, slice_index_or}
use Rattle.std.proofs.Common.{arith}
use Rattle.std.proofs.lemmas.List.{get_or_past}
use Rattle.terms.specs.Limits.{security_count, net_limit}
use Rattle.books.specs.Books.{Account, Meaning, Within, account_of, no_more}
use Rattle.terms.specs.declared.layer.Layer.{Layer}
use Rattle.books.specs.declared.ledger.Ledger.{Ledger}

-- the net of each security
abbrev pub ledger_nets : Ledger → ℕ → ℤ
ledger_nets l s = slice_index_or l.nets s (pos 0)

-- what is held of each security, and how many bookings are left
abbrev pub ledger_account : Ledger → Account
ledger_account l = account_of (ledger_nets l) l.left

-- what a ledger means whose faults carry this layer
abbrev pub ledger_meaning : Layer → Meaning Ledger
ledger_meaning layer = record { account = ledger_account; posts = no_more; layer = layer }

-- each net keeps to its limit
pub ledger_limited : (l : Ledger) (s : ℕ) → Within net_limit (ledger_nets l s)
ledger_limited l s = l.limited s

-- there are no securities past the last
pub ledger_absent : (l : Ledger) (s : ℕ) → security_count ≤ s → ledger_nets l s ≡ pos 0
ledger_absent l s h = get_or_past l.nets s (pos 0) (omega (arith, l.long))
