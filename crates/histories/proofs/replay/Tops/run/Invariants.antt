use Rattle.std.proofs.Common.{◌≡◌, length, take, drop}
use Rattle.lists.specs.Lists.{items, lender, memory}
use Rattle.trials.specs.Trials.{Taken}
use Rattle.histories.specs.Histories.{Tally, History, tally, noted_in, posted_in}
use Rattle.histories.specs.Memories.{memory_of, written_by}
use Rattle.histories.proofs.replay.Tops.run.Given as goal

abbrev pub invariant-loop-step : goal.invariant-loop-step
invariant-loop-step g l =
    let start : Tally = tally (g.T.Top.tally l.initial.self.top) (g.U.Cover.additions l.initial.self.cover) in
    let now : Tally = tally (g.T.Top.tally l.self.top) (g.U.Cover.additions l.self.cover) in
    record {
      log : lender l.log ≡ lender l.initial.log;
      count : length (items l.log) ≡ l.step-index;
      room : length (memory l.log) ≡ length (memory l.initial.log);
      past : drop (length l.script) (memory l.log) ≡ drop (length l.script) (memory l.initial.log);
      under : g.U.Cover.under l.self.cover ≡ g.U.Cover.under l.initial.self.cover;
      written : memory_of l.classes l.matches ≡ written_by (items l.log) (memory_of l.initial.classes l.initial.matches);
      history : History g.T.Top.rules g.U.Cover.means (g.U.Cover.under l.initial.self.cover) (length l.initial.classes) (length l.initial.matches) start (take l.step-index l.script) (items l.log);
      noted : now ≡ noted_in g.T.Top.rules g.U.Cover.means start (take l.step-index l.script) (items l.log);
      posted : Taken g.T.Below.Book.meaning (g.T.Top.beneath l.initial.self.top) (posted_in g.T.Top.rules g.U.Cover.means start (take l.step-index l.script) (items l.log)) (g.T.Top.beneath l.self.top);
    }
