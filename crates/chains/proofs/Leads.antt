-- The first of a list of rows that lead groups, with their hash values. Assumes nothing.
use Prim.Native.Nat.{ℕ, ◌+◌, ◌*◌, ◌≤◌, ◌<◌}
use mathlib.Core.Path.{◌≡◌, refl, sym, ap, ◌∙◌}
use mathlib.Core.Bool.{Bool, true, false}
use mathlib.Core.List.{List, []}
use native.Mathlib.Nat.{mul-le-mul_right}
use native.Mathlib.Omega.{arith}
use lib.Dec.{eqb}
use lib.ListN.{length, get_or, get_or-map, take, drop, set, length-drop}
use lib.Seq.{get_or-take, get_or-set_same, get_or-set_other, length-take-le, take_all}
use borrow.Author.Tests.{eqb-true, eqb-false}
use Rattle.cells.specs.promises.Cells.{cells_of, row_from, table_rows}
use Rattle.chains.specs.declared.leader.Keyed.{Keyed}
use Rattle.chains.specs.declared.leader.Lead.{Lead}
use Rattle.chains.specs.promises.Chains.{first_of, leaders_after}
use Rattle.chains.specs.promises.Leads.{Inside, row_values, rows_of, lead_at, lead_of, LeadsBefore, FirstLead}
use Rattle.plan.specs.Table.{Cell}
use Rattle.cells.proofs.Rows.{rows-length}
use Rattle.chains.proofs.Listing.{Listed, one-more}
use Rattle.chains.proofs.Reading.{keys-read}
use Rattle.chains.proofs.Searching.{none-same, leader-first, none_before}

-- one of them
row-is : (leads : List Lead) (i : ℕ) → get_or (rows_of leads) i 0 ≡ (lead_at leads i).row
row-is leads i = get_or-map (λ (lead : Lead). lead.row) leads i (record { row = 0; hash = 0 })

-- a row's values are within those of the table
module _ {t : Keyed} (inside : Inside t) (row : ℕ) (h : row < t.table.rows) where
  pub row_within : t.table.at + row * t.table.columns + t.table.columns ≤ t.table.at + t.table.rows * t.table.columns
  row_within = omega (arith, mul-le-mul_right t.table.columns h)

  pub row-long : length (row_values t row) ≡ t.table.columns
  row-long = length-take-le t.table.columns (drop (t.table.at + row * t.table.columns) t.values.now) (omega (arith, row_within, inside.within, length-drop (t.table.at + row * t.table.columns) t.values.now))

module _ (t : Keyed) (row count : ℕ) (leads : List Lead) (before : LeadsBefore t row leads count) where
  -- those of the part of the list that has them
  pub before-first : count ≤ length leads → LeadsBefore t row (take count leads) (length (take count leads))
  before-first h i k =
      let low : i < count = rw (length-take-le count leads h) at k in
      let same : lead_at (take count leads) i ≡ lead_at leads i = get_or-take count leads i (record { row = 0; hash = 0 }) low in
      rw same (before i low)

  -- the next row, and whether it leads a group
  pub before-next : LeadsBefore t (row + 1) leads count
  before-next i k = (omega (arith, (before i k).0), (before i k).1)

  pub before-more : count < length leads → LeadsBefore t (row + 1) (set leads count (lead_of t row)) (count + 1)
  before-more h = one-more (λ i. ((lead_at (set leads count (lead_of t row)) i).row < row + 1) × (lead_at (set leads count (lead_of t row)) i ≡ lead_of t (lead_at (set leads count (lead_of t row)) i).row)) count
      (λ i k. rw (get_or-set_other leads count i (lead_of t row) (record { row = 0; hash = 0 }) (λ e. omega arith)) (before-next i k))
      (rw (get_or-set_same leads count (lead_of t row) (record { row = 0; hash = 0 }) h) (omega arith, refl))

-- the first of the leads with the keys of a row is the first row with them
module _ (t : Keyed) (inside : Inside t) (labels : List ℕ) (row count : ℕ) (h : row < t.table.rows) (enough : t.table.at + (row + 1) * t.table.columns ≤ length labels) (found : List ℕ) (leads : List Lead)
    (listed : Listed row found (rows_of leads) count) (long : count ≤ length leads)
    (known : take row found ≡ leaders_after t.keys t.table.columns [] (table_rows t.table.columns row (cells_of t.values.now labels) t.table.at)) where
  abbrev memory : List Cell
  memory = cells_of t.values.now labels

  abbrev place : ℕ → ℕ
  place other = t.table.at + other * t.table.columns

  within : (other : ℕ) → other ≤ row → (place other + t.table.columns ≤ length t.values.now) × (place other + t.table.columns ≤ length labels)
  within other k =
      let low : other < t.table.rows = omega arith in
      let upto : other + 1 ≤ row + 1 = omega arith in
      (omega (arith, row_within inside other low, inside.within), omega (arith, enough, mul-le-mul_right t.table.columns upto))

  pub first-is : {first : ℕ} → FirstLead t (take count leads) row first → first ≡ first_of t.keys t.table.columns row memory t.table.at
  first-is {first} is = go (eqb first row) refl
    where
      many : length (take count leads) ≡ count
      many = length-take-le count leads long

      lead-is : (i : ℕ) → i < count → (lead_at (take count leads) i).row ≡ get_or (rows_of leads) i 0
      lead-is i k = ap (λ (lead : Lead). lead.row) (get_or-take count leads i (record { row = 0; hash = 0 }) k) ∙ sym (row-is leads i)

      go : (b : Bool) → eqb first row ≡ b → first ≡ first_of t.keys t.table.columns row memory t.table.at
      go true e =
          let same : first ≡ row = eqb-true first row e in
          let n : length (table_rows t.table.columns row memory t.table.at) ≡ row = rows-length t.table.columns row (drop t.table.at memory) in
          let none = none_before t.keys t.table.columns row t.table.at (row_from t.table.columns memory (place row)) memory found known
          (λ other k f.
          let w = listed.all other k f in
          let here = within other (omega arith) in
          let own = within row (omega arith) in
          let differ = rw (lead-is w.0 w.1 ∙ w.2) at (is.none same w.0 (omega (arith, many, w.1))) in
          keys-read t.values.now labels t.keys t.table.columns (place other) (place row) here.0 own.0 here.1 own.1 ∙ differ) row (omega arith) in
          same ∙ sym (none-same t.keys t.table.columns _ (table_rows t.table.columns row memory t.table.at) (rw (take_all row (table_rows t.table.columns row memory t.table.at) (omega arith)) at none) ∙ n)
      go false e =
          let w = is.led (eqb-false first row e) in
          let k : w.0 < count = omega (arith, many, w.1) in
          let at_lead : get_or (rows_of leads) w.0 0 ≡ first = sym (lead-is w.0 k) ∙ w.2 in
          let below = rw at_lead at (listed.below w.0 k) in
          let lead = rw at_lead at (listed.lead w.0 k) in
          let here = within first (omega arith) in
          let own = within row (omega arith) in
          sym (leader-first t.keys t.table.columns row t.table.at (row_from t.table.columns memory (place row)) memory found known first below lead
          (keys-read t.values.now labels t.keys t.table.columns (place first) (place row) here.0 own.0 here.1 own.1 ∙ w.3))
