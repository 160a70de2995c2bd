use Rattle.std.proofs.Common.{inr, rules}
use Rattle.std.proofs.lemmas.Fn.{called_at}
use Rattle.arguments.proofs.run_file.Goals as goal

pub returns-in_ok-trial-clause-ran : goal.returns-in_ok-trial-clause-ran
returns-in_ok-trial-clause-ran g c = inr (_, called_at g.F.FnMut c.trial.ensures (search rules))
