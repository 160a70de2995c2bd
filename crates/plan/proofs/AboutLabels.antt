-- An aggregate's label is the least that is at least as strict as each member's after discharge. Assumes nothing.
use Prim.Native.Nat.{ℕ}
use mathlib.Core.Path.{◌≡◌, sym, ap, subst}
use mathlib.Core.List.{List, [], ◌∷◌, map}
use lib.Seq.{get_or_at}
use Rattle.label_composition.specs.Composition.{composed}
use Rattle.label_discharge.specs.Discharge.{after_a}
use Rattle.label_laws.specs.Order.{AsStrict}
use Rattle.label_laws.proofs.OrderProof.{reflexive, transitive, clear-below, composed-above, composed-least}
use Rattle.plan.specs.Group.{group_size, composed_after}
use Rattle.plan.specs.Keep.{kept_count, kept_cells}
use Rattle.plan.specs.Numbers.{aggregate_code}
use Rattle.plan.specs.Sense.Labels.{member_label, aggregate_label, AggregateAsStrict, AggregateNoStricter}
use Rattle.plan.specs.Table.{Cell, Row, blank, cell_at, Each}
use Rattle.plan.specs.declared.Aggregate.{Aggregate}
use Rattle.plan.proofs.SenseKeep.{kept-length}

module _ (code size column : ℕ) where
  abbrev member : Row → ℕ
  member row = after_a (cell_at column row).label code size

  -- the composition of a label and the members' of some rows
  abbrev over : ℕ → List Row → ℕ
  over label rows = composed_after code size label (map (λ cell. cell.label) (map (cell_at column) rows))

  above-first : (label : ℕ) (rows : List Row) → AsStrict label (over label rows)
  above-first label [] = reflexive label
  above-first label (row ∷ rest) =
      transitive label (composed label (member row)) _ (composed-above label (member row)).0 (above-first (composed label (member row)) rest)

  above-each : (label : ℕ) (rows : List Row) → Each (λ row. AsStrict (member row) (over label rows)) rows
  above-each label [] = tt
  above-each label (row ∷ rest) = (
    transitive (member row) (composed label (member row)) _ (composed-above label (member row)).1 (above-first (composed label (member row)) rest),
    above-each (composed label (member row)) rest,
  )

  least : (label other : ℕ) (rows : List Row) → AsStrict label other → Each (λ row. AsStrict (member row) other) rows → AsStrict (over label rows) other
  least label other [] h p = h
  least label other (row ∷ rest) h p = least (composed label (member row)) other rest (composed-least label (member row) other h p.0) p.1

module _ (keys columns : ℕ) (aggregate : Aggregate) (column : ℕ) where
  label_is : (first : Row) (rest : List Row)
      → aggregate_label keys columns aggregate column (first ∷ rest) ≡ over (aggregate_code aggregate) (group_size (first ∷ rest)) column 0 (first ∷ rest)
  label_is first rest =
      ap (λ (cell : Cell). cell.label) (get_or_at (kept_cells keys columns first) _ [] blank (kept_count keys columns) (kept-length keys columns first))

pub aggregate-as-strict : AggregateAsStrict
aggregate-as-strict keys columns aggregate column [] = tt
aggregate-as-strict keys columns aggregate column (first ∷ rest) =
    subst (λ (label : ℕ). Each (λ row. AsStrict (member_label keys columns aggregate column (first ∷ rest) row) label) (first ∷ rest))
    (sym (label_is keys columns aggregate column first rest)) (above-each (aggregate_code aggregate) (group_size (first ∷ rest)) column 0 (first ∷ rest))

pub aggregate-no-stricter : AggregateNoStricter
aggregate-no-stricter keys columns aggregate column [] label p = clear-below label
aggregate-no-stricter keys columns aggregate column (first ∷ rest) label p =
    rw (label_is keys columns aggregate column first rest)
    (least (aggregate_code aggregate) (group_size (first ∷ rest)) column 0 label (first ∷ rest) (clear-below label) p)
