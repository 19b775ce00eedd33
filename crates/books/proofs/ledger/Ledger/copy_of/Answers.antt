use Rattle.std.proofs.Common.{◌≡◌, ◌∙◌}
use Rattle.books.specs.Ledgers.{ledger_nets}
use Rattle.books.proofs.ledger.Ledger.copy_of.Goals as goal

pub returns-clause-nets : goal.returns-clause-nets
returns-clause-nets g c =
    let renewed : ledger_nets c.renew.new.self ≡ ledger_nets c.with_nets_of-ledger.result = λ i s. (c.renew.ensures.holdings i s).net in
    renewed ∙ c.with_nets_of-ledger.ensures.nets
