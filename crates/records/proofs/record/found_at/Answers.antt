-- `records::record::found_at` meets its contract. Assumes nothing.
use native.Mathlib.Omega.{arith}
use Rattle.records.proofs.Tests.{past-plan}
use Rattle.records.proofs.record.found_at.Goals as goal

pub returns-else-step-plan : goal.returns-else-step-plan
returns-else-step-plan c = past-plan _ _ (omega arith)
