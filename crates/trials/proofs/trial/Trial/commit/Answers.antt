use Rattle.std.proofs.Common.{rules}
use Rattle.trials.proofs.trial.Trial.commit.Goals as goal

pub returns : goal.returns
returns g c = record {
  decided = search rules;
  refused = search rules;
  still = λ _. search rules;
  posted = λ _. search rules;
  spent = λ _. search rules;
  taken = λ _. search rules;
  renewed = λ _. search rules;
}
