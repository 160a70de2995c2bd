-- `chains::leader::Keyed::leaders` meets its contract. The loop: the rows passed have their leaders, and those that lead groups are listed with their hash values. Assumes nothing.
use Prim.Native.Nat.{ℕ, ◌+◌, ◌-◌, ◌*◌, ◌≤◌}
use mathlib.Core.Path.{◌≡◌}
use mathlib.Core.List.{List, []}
use lib.ListN.{length, drop, take, replicate}
use Rattle.cells.specs.promises.Cells.{cells_of, table_rows}
use Rattle.chains.specs.promises.Chains.{leaders_after}
use Rattle.chains.specs.promises.Leads.{rows_of, LeadsBefore}
use Rattle.chains.proofs.Listing.{Listed}
use Rattle.chains.proofs.leader.Keyed.leaders.Given as goal

abbrev pub invariant-loop-row : goal.invariant-loop-row
invariant-loop-row l =
    let t = l.self.table in
    (length l.found ≡ 256) × (length l.leads ≡ 256) × Listed l.row l.found (rows_of l.leads) l.count × (drop t.rows l.found ≡ replicate (256 - t.rows) 0)
    × ((labels : List ℕ) → t.at + l.row * t.columns ≤ length labels → take l.row l.found ≡ leaders_after l.self.keys t.columns [] (table_rows t.columns l.row (cells_of l.self.values.now labels) t.at))
    × LeadsBefore l.self l.row l.leads l.count
