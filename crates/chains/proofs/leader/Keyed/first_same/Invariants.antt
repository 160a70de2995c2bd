-- `chains::leader::Keyed::first_same` meets its contract. The loop: no leader passed has the row's keys. Assumes nothing.
use Prim.Native.Nat.{ℕ, ◌<◌}
use mathlib.Core.Path.{◌≡◌}
use mathlib.Core.Bool.{false}
use Rattle.chains.specs.promises.Leads.{same_rows, lead_at}
use Rattle.chains.proofs.leader.Keyed.first_same.Given as goal

abbrev pub invariant-loop-lead : goal.invariant-loop-lead
invariant-loop-lead l = (i : ℕ) → i < l.lead-index → same_rows l.self (lead_at l.leads i).row l.own.row ≡ false
