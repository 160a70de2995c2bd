-- The rows of a table that lead groups, found by their values.
use Rattle.std.specs.Prelude.{ℕ, zero, suc, ◌+◌, ◌*◌, ◌≤◌, ◌<◌, ◌≡◌, Bool, true, false, not, ◌&&◌, ◌||◌, List, map, ℤ, pos, length, get_or, take, drop}
use Rattle.chains.specs.declared.leader.Keyed.{Keyed}
use Rattle.chains.specs.declared.leader.Lead.{Lead}
use Rattle.chains.specs.promises.Hash.{hash_of}
use Rattle.comparison.specs.Comparison.{same}
use Rattle.plan.specs.Masks.{in_mask}

-- a table that lies within the values
pub record Inside (t : Keyed) : Type 0 where
  pub few-rows : t.table.rows ≤ 256
  pub few-columns : t.table.columns ≤ 8
  pub within : t.table.at + t.table.rows * t.table.columns ≤ length t.values.now

-- the values of a row
abbrev pub row_values : Keyed → ℕ → List ℤ
row_values t row = take t.table.columns (drop (t.table.at + row * t.table.columns) t.values.now)

-- two rows have the same keys among the first columns, and among all
abbrev pub same_upto : ℕ → List ℤ → List ℤ → ℕ → Bool
same_upto keys a b zero = true
same_upto keys a b (suc column) = same_upto keys a b column && (not (in_mask keys column) || same (get_or a column (pos 0)) (get_or b column (pos 0)))

abbrev pub same_values : ℕ → List ℤ → List ℤ → Bool
same_values keys a b = same_upto keys a b (length a)

abbrev pub same_rows : Keyed → ℕ → ℕ → Bool
same_rows t first second = same_values t.keys (row_values t first) (row_values t second)

-- a row with the hash value of its keys
abbrev pub lead_of : Keyed → ℕ → Lead
lead_of t row = record { row = row; hash = hash_of t.keys (row_values t row) }

abbrev pub lead_at : List Lead → ℕ → Lead
lead_at leads i = get_or leads i (record { row = 0; hash = 0 })

abbrev pub rows_of : List Lead → List ℕ
rows_of leads = map (λ lead. lead.row) leads

-- so many of a list stand before a row, each with its hash value
abbrev pub LeadsBefore : Keyed → ℕ → List Lead → ℕ → Type 0
LeadsBefore t row leads count = (i : ℕ) → i < count → ((lead_at leads i).row < row) × (lead_at leads i ≡ lead_of t (lead_at leads i).row)

-- the first of them with the keys of a row; where there is none, the row itself
pub record FirstLead (t : Keyed) (leads : List Lead) (row first : ℕ) : Type 0 where
  pub led : (first ≡ row → ⊥) → (i : ℕ) × (i < length leads) × ((lead_at leads i).row ≡ first) × (same_rows t first row ≡ true)
  pub none : first ≡ row → (i : ℕ) → i < length leads → same_rows t (lead_at leads i).row row ≡ false
