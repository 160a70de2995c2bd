-- A check that goes through cells in order refuses at the first that fails. Assumes nothing.
use Prim.Native.Nat.{ℕ, zero, suc, ◌+◌, ◌≤◌, ◌<◌}
use mathlib.Core.Path.{◌≡◌, refl, sym, ap, ◌∙◌}
use mathlib.Core.Bool.{Bool, true, false, not, ◌&&◌, true≢false, false≢true, and-false}
use mathlib.Core.List.{List, [], ◌∷◌, map}
use mathlib.Core.Logic.{◌⊎◌, inl, inr, ⊎_elim}
use native.Mathlib.Nat.{zero-add, add-zero}
use native.Mathlib.Omega.{arith}
use lib.Dec.{eqb, leb}
use lib.IntN.{pos}
use lib.ListN.{length, get_or, length-map, get_or-map}
use borrow.Author.Tests.{eqb-true, eq-eqb, leb-true, le-leb, not-true}
use Rattle.label_discharge.specs.Discharge.{forbids_t, forbids_a, forbids_n}
use Rattle.label_words.specs.Word.{field_at}
use Rattle.plan.specs.Apply.{operand_clear, second_clear, apply_row, check_apply}
use Rattle.plan.specs.Evaluate.{over_in, first_over, check_release}
use Rattle.plan.specs.Filter.{read_by, check_filter}
use Rattle.plan.specs.Masks.{in_mask}
use Rattle.plan.specs.Group.{check_group}
use Rattle.plan.specs.Join.{check_join}
use Rattle.plan.specs.Noise.{noise_row, check_noise}
use Rattle.plan.specs.Sense.Refusals.{RefusalPlace, place, FirstAt, nowhere, at, RowByRow, NumberByNumber, InEachRow, row_in, cell_in, NotClear, OperandColumn, FilterRefusal, JoinRefusal, GroupRefusal, SecondColumn, ApplyRefusal, NoiseRefusal, ReleaseRefusal}
use Rattle.plan.specs.Steps.{check}
use Rattle.plan.specs.Table.{Cell, Row, Table, clear, blank, no_table, cell_at, labels_of, grid, top, second}
use Rattle.plan.specs.Verdict.{Verdict, fine, or_else, refuse_if, first_row, first_not_clear, not_clear}
use Rattle.plan.specs.declared.Operand.{Operand}
use Rattle.plan.specs.declared.Operand.TheVariants.{Constant, Column}
use Rattle.plan.specs.declared.Transform.{Transform}
use Rattle.plan.specs.declared.Transform.TheVariants.{Add, Sub, Cut, Band}
use Rattle.value.specs.Range.{least, most, in_range}
use Rattle.plan.proofs.Bools.{and-true, clash, or_left, or_right, either_true}

-- ---- orders of places

-- no place to the right is before one, and no place of the same number below is
record Order (Before : RefusalPlace → RefusalPlace → Type 0) : Type 0 where
  right : (p q : RefusalPlace) → p.number ≡ q.number → p.row ≡ q.row → p.column ≤ q.column → Before q p → ⊥
  below : (p q : RefusalPlace) → p.number ≡ q.number → p.row < q.row → Before q p → ⊥

by_row : Order RowByRow
by_row = record {
  right = λ p q e f h. ⊎_elim (λ l. omega arith) (λ l. omega arith);
  below = λ p q e h. ⊎_elim (λ l. omega arith) (λ l. omega arith);
}

by_number : Order NumberByNumber
by_number = record {
  right = λ p q e f h. ⊎_elim (λ l. omega arith) (λ l. by_row.right p q e f h l.1);
  below = λ p q e h. ⊎_elim (λ l. omega arith) (λ l. by_row.below p q e h l.1);
}

in-each-row : Order InEachRow
in-each-row = record {
  right = λ p q e f h. ⊎_elim (λ l. omega arith) (λ l. omega arith);
  below = λ p q e h. ⊎_elim (λ l. omega arith) (λ l. omega arith);
}

-- ---- the first of several tests

-- the place of one cell, of which a fact holds
record At (number row column : ℕ) (Fact : Type 0) (p : RefusalPlace) : Type 0 where
  numbered : p.number ≡ number
  in_row : p.row ≡ row
  in-column : p.column ≡ column
  fact : Fact

-- a place in one row, of whose column a fact holds
record InRow (number row : ℕ) (Fact : ℕ → Type 0) (p : RefusalPlace) : Type 0 where
  numbered : p.number ≡ number
  in_row : p.row ≡ row
  fact : Fact p.column

-- a place in a table whose rows are numbered from `first` on, of whose row and column a fact holds
record InTable (number first : ℕ) (Fact : ℕ → ℕ → Type 0) (p : RefusalPlace) : Type 0 where
  numbered : p.number ≡ number
  place : ℕ
  in_row : p.row ≡ first + place
  fact : Fact place p.column

-- the first refusal of a test of each element, which are numbered from `i` on
abbrev walk : {A : Type 0} → (ℕ → A → Verdict) → ℕ → List A → Verdict
walk test i [] = fine
walk test i (x ∷ xs) = or_else (test i x) (walk test (suc i) xs)

module _ {Before : RefusalPlace → RefusalPlace → Type 0} where
  first-same : {F G : RefusalPlace → Type 0} → ((p : RefusalPlace) → F p → G p) → ((p : RefusalPlace) → G p → F p) → {v : Verdict} → FirstAt Before F v → FirstAt Before G v
  first-same f g (nowhere h) = nowhere (λ p x. h p (g p x))
  first-same f g (at h k) = at (f _ h) (λ p b x. k p b (g p x))

  first-or : {F G : RefusalPlace → Type 0} → ((p q : RefusalPlace) → F p → G q → Before q p → ⊥) → {v w : Verdict} → FirstAt Before F v → FirstAt Before G w
      → FirstAt Before (λ p. F p ⊎ G p) (or_else v w)
  first-or apart (nowhere h) (nowhere k) = nowhere (λ p. ⊎_elim (h p) (k p))
  first-or apart (nowhere h) (at k l) = at (inr k) (λ p b. ⊎_elim (h p) (l p b))
  first-or apart (at h k) l = at (inl h) (λ p b. ⊎_elim (k p b) (λ g. apart _ p h g b))

  module _ {A : Type 0} (none : A) (test : ℕ → A → Verdict) (F : ℕ → A → RefusalPlace → Type 0) (first : (i : ℕ) (x : A) → FirstAt Before (F i x) (test i x))
      (apart : (i j : ℕ) (x y : A) (p q : RefusalPlace) → i < j → F i x p → F j y q → Before q p → ⊥) (nothing : (i : ℕ) (p : RefusalPlace) → F i none p → ⊥) where
    abbrev Walked : ℕ → List A → RefusalPlace → Type 0
    Walked i xs p = (k : ℕ) × F (i + k) (get_or xs k none) p

    walked : (i : ℕ) (xs : List A) → FirstAt Before (Walked i xs) (walk test i xs)
    walked i [] = nowhere (λ p x. nothing (i + x.0) p x.1)
    walked i (x ∷ xs) =
        first-same {F = λ p. F i x p ⊎ Walked (suc i) xs p} (λ p. ⊎_elim (λ f. (0, rw add-zero f)) (λ f. (suc f.0, rw (next f.0) f.1))) (λ p f. split p f.0 f.1)
        (first-or (λ p q f g b. apart i (suc i + g.0) x (get_or xs g.0 none) p q (omega arith) f g.1 b) (first i x) (walked (suc i) xs))
      where
        next : (k : ℕ) → i + suc k ≡ suc i + k
        next k = omega arith

        split : (p : RefusalPlace) (k : ℕ) → F (i + k) (get_or (x ∷ xs) k none) p → F i x p ⊎ Walked (suc i) xs p
        split p zero f = inl (rw add-zero at f)
        split p (suc k) f = inr (k, rw (next k) at f)

module _ {Before : RefusalPlace → RefusalPlace → Type 0} (order : Order Before) (number : ℕ) where
  first-if : (fact : Bool) (row column : ℕ) → FirstAt Before (At number row column (fact ≡ true)) (refuse_if fact number row column)
  first-if true row column =
      at record { numbered = refl; in_row = refl; in-column = refl; fact = refl }
      (λ p b x. order.right (place number row column) p (sym x.numbered) (sym x.in_row) (omega arith) b)
  first-if false row column = nowhere (λ p x. false≢true x.fact)

  -- a test of each cell of a row
  first-in-row : {A : Type 0} (none : A) (test : ℕ → A → Bool) → ((c : ℕ) → test c none ≡ false) → (row : ℕ) (xs : List A)
      → FirstAt Before (InRow number row (λ c. test c (get_or xs c none) ≡ true)) (walk (λ c x. refuse_if (test c x) number row c) 0 xs)
  first-in-row none test nothing row xs =
      first-same (λ p f.
      let c : f.0 ≡ p.column = omega (arith, f.1.in-column) in
      record { numbered = f.1.numbered; in_row = f.1.in_row; fact = rw (zero-add, c) at f.1.fact })
      (λ p f. (p.column, record { numbered = f.numbered; in_row = f.in_row; in-column = sym (zero-add p.column); fact = rw zero-add f.fact }))
      (walked none (λ c x. refuse_if (test c x) number row c) (λ c x. At number row c (test c x ≡ true)) (λ c x. first-if (test c x) row c)
      (λ c d x y p q h f g. order.right p q (f.numbered ∙ sym g.numbered) (f.in_row ∙ sym g.in_row) (omega arith)) (λ c p f. clash f.fact (nothing c)) 0 xs)

  -- a test of each row of a table
  first-in-table : {A : Type 0} (none : A) (Fact : A → ℕ → Type 0) → ((c : ℕ) → ¬ Fact none c) → (test : ℕ → A → Verdict)
      → ((row : ℕ) (x : A) → FirstAt Before (InRow number row (Fact x)) (test row x)) → (first : ℕ) (xs : List A)
      → FirstAt Before (InTable number first (λ row. Fact (get_or xs row none))) (walk test first xs)
  first-in-table none Fact nothing test in_rows first xs =
      first-same (λ p f. record { numbered = f.1.numbered; place = f.0; in_row = f.1.in_row; fact = f.1.fact })
      (λ p f. (f.place, record { numbered = f.numbered; in_row = f.in_row; fact = f.fact }))
      (walked none test (λ row x. InRow number row (Fact x)) in_rows (λ r s x y p q h f g. order.below p q (f.numbered ∙ sym g.numbered) (omega arith)) (λ r p f. nothing p.column f.fact) first xs)

-- places of a table whose rows are numbered from 0 on
in-table : {number : ℕ} {Fact : ℕ → ℕ → Type 0} {p : RefusalPlace} → InTable number 0 Fact p → (p.number ≡ number) × Fact p.row p.column
in-table {p = p} t = let e : t.place ≡ p.row = omega arith in (t.numbered, rw e at t.fact)

to-table : {number : ℕ} (Fact : ℕ → ℕ → Type 0) (p : RefusalPlace) → p.number ≡ number → Fact p.row p.column → InTable number 0 Fact p
to-table Fact p e f = record { numbered = e; place = p.row; in_row = sym (zero-add p.row); fact = f }

-- ---- the checks as walks

rows-walk : (test : ℕ → List ℕ → Verdict) (row : ℕ) (rows : List (List ℕ)) → first_row test row rows ≡ walk test row rows
rows-walk test row [] = refl
rows-walk test row (labels ∷ rest) = ap (or_else (test row labels)) (rows-walk test (suc row) rest)

cells-walk : (wanted : ℕ → Bool) (number column row : ℕ) (labels : List ℕ)
    → first_not_clear wanted number column row labels ≡ walk (λ c label. refuse_if (wanted c && not (clear label)) number row c) column labels
cells-walk wanted number column row [] = refl
cells-walk wanted number column row (label ∷ rest) =
    ap (or_else (refuse_if (wanted column && not (clear label)) number row column)) (cells-walk wanted number (suc column) row rest)

over-walk : (row column : ℕ) (cells : List Cell) → over_in row column cells ≡ walk (λ c cell. refuse_if (not (in_range cell.value)) 36 row c) column cells
over-walk row column [] = refl
over-walk row column (cell ∷ rest) = ap (or_else (refuse_if (not (in_range cell.value)) 36 row column)) (over-walk row (suc column) rest)

overs-walk : (row : ℕ) (rows : List Row) → first_over row rows ≡ walk (λ r next. over_in r 0 next.cells) row rows
overs-walk row [] = refl
overs-walk row (next ∷ rest) = ap (or_else (over_in row 0 next.cells)) (overs-walk (suc row) rest)

-- ---- labels of a table

label_at : (table : Table) (row column : ℕ) → get_or (get_or (grid table) row []) column 0 ≡ (cell_in table row column).label
label_at table row column =
    ap (λ (labels : List ℕ). get_or labels column 0) (get_or-map labels_of table.rows row (record { cells = []; mark = 0 }))
    ∙ get_or-map (λ cell. cell.label) (row_in row table).cells column blank

grid-at : (n : ℕ) (stack : List Table) → get_or (map grid stack) n [] ≡ grid (get_or stack n no_table)
grid-at n stack = get_or-map grid stack n no_table

-- a label of the wanted columns that is not clear
abbrev unclear : (ℕ → Bool) → ℕ → ℕ → Bool
unclear wanted column label = wanted column && not (clear label)

-- the first cell of a table that is wanted and not clear
first-unclear : {Before : RefusalPlace → RefusalPlace → Type 0} → Order Before → (wanted : ℕ → Bool) (number : ℕ) (table : Table) (first : ℕ)
    → FirstAt Before (InTable number first (λ row column. (wanted column ≡ true) × NotClear table row column)) (not_clear wanted number first (grid table))
first-unclear order wanted number table first =
    rw (rows-walk (first_not_clear wanted number 0) first (grid table))
    (first-same (λ p t.
    let s = and-true (wanted p.column) _ t.fact in
    record { numbered = t.numbered; place = t.place; in_row = t.in_row; fact = (s.0, rw (← label_at table t.place p.column) (not-true _ s.1)) })
    (λ p t. record { numbered = t.numbered; place = t.place; in_row = t.in_row; fact = rw (label_at table t.place p.column, t.fact.0, t.fact.1) })
    (first-in-table order number [] (λ labels c. unclear wanted c (get_or labels c 0) ≡ true) (λ c e. clash e (and-false (wanted c))) (first_not_clear wanted number 0)
    (λ row labels. rw (cells-walk wanted number 0 row labels) (first-in-row order number 0 (unclear wanted) (λ c. and-false (wanted c)) row labels)) first (grid table)))

-- ---- FILTER and JOIN

reads : (column : ℕ) (operand : Operand) (c : ℕ) → read_by column operand c ≡ true → (c ≡ column) ⊎ OperandColumn operand c
reads column (Constant value) c e = inl (eqb-true c column e)
reads column (Column other) c e = either_true (eqb c column) (eqb c other) (λ f. inl (eqb-true c column f)) (λ f. inr (eqb-true c other f)) e

read : (column : ℕ) (operand : Operand) (c : ℕ) → (c ≡ column) ⊎ OperandColumn operand c → read_by column operand c ≡ true
read column (Constant value) c = ⊎_elim (eq-eqb c column) absurd
read column (Column other) c =
    ⊎_elim (λ e. or_left (eqb c column) (eqb c other) (eq-eqb c column e)) (λ e. or_right (eqb c column) (eqb c other) (eq-eqb c other e))

pub filter-refusal : FilterRefusal
unfolding check check_filter
filter-refusal column comparison operand left stack =
    rw (grid-at 0 stack)
    (first-same (λ p t. let f = in-table t in (f.0, reads column operand p.column f.1.0, f.1.1))
    (λ p f. to-table _ p f.0 (read column operand p.column f.1, f.2)) (first-unclear by_row (read_by column operand) 31 (top stack) 0))

-- a cell that is not clear stands in a row of the table
in_rows : (rows : List Row) (row column : ℕ) → clear (cell_at column (get_or rows row (record { cells = []; mark = 0 }))).label ≡ false → row < length rows
in_rows [] row column e = absurd (true≢false e)
in_rows (next ∷ rest) zero column e = omega arith
in_rows (next ∷ rest) (suc row) column e = let h = in_rows rest row column e in omega arith

pub join-refusal : JoinRefusal
unfolding check check_join
join-refusal a b draws stack =
    let left = second stack in
    let right = top stack in
    rw (grid-at 1 stack, grid-at 0 stack, length-map left.rows labels_of)
    (first-same (λ p. ⊎_elim (λ t. let f = in-table t in (f.0, inl (eqb-true _ a f.1.0, f.1.1)))
    (λ t. (t.numbered, inr (t.place, t.in_row, eqb-true _ b t.fact.0, t.fact.1))))
    (λ p f. ⊎_elim (λ l. inl (to-table _ p f.0 (eq-eqb _ a l.0, l.1)))
    (λ r. inr (record { numbered = f.0; place = r.0; in_row = r.1; fact = (eq-eqb _ b r.2, r.3) })) f.1)
    (first-or (λ p q f g. by_row.below p q (f.numbered ∙ sym g.numbered) (omega (arith, in_rows left.rows f.place p.column f.fact.1)))
    (first-unclear by_row (λ c. eqb c a) 31 left 0) (first-unclear by_row (λ c. eqb c b) 31 right (length left.rows))))

-- ---- GROUP and APPLY

clear-allows-A : forbids_a 0 ≡ false
unfolding forbids_a field_at
clear-allows-A = refl

clear-allows-T : forbids_t 0 ≡ false
unfolding forbids_t field_at
clear-allows-T = refl

-- a column of a row whose label is forbidden
abbrev Forbidden : (ℕ → Bool) → ℕ → List ℕ → ℕ → Type 0
Forbidden forbids column labels c = (c ≡ column) × (forbids (get_or labels c 0) ≡ true)

first-forbidden : {Before : RefusalPlace → RefusalPlace → Type 0} → Order Before → (forbids : ℕ → Bool) (column row : ℕ) (labels : List ℕ)
    → FirstAt Before (InRow 32 row (Forbidden forbids column labels)) (refuse_if (forbids (get_or labels column 0)) 32 row column)
first-forbidden order forbids column row labels =
    first-same (λ p f. record { numbered = f.numbered; in_row = f.in_row; fact = (f.in-column, rw f.in-column f.fact) })
    (λ p f. record { numbered = f.numbered; in_row = f.in_row; in-column = f.fact.0; fact = rw f.fact.0 at f.fact.1 })
    (first-if order 32 (forbids (get_or labels column 0)) row column)

pub group-refusal : GroupRefusal
unfolding check check_group
group-refusal keys aggregate column left stack =
    let table = top stack in
    let test : ℕ → List ℕ → Verdict = λ row labels. refuse_if (forbids_a (get_or labels column 0)) 32 row column in
    rw (grid-at 0 stack, rows-walk test 0 (grid table))
    (first-same (λ p. ⊎_elim (λ t. let f = in-table t in inl (f.0, f.1.0, f.1.1)) (λ t. let f = in-table t in inr (f.0, f.1.0, rw (← label_at table p.row p.column) f.1.1)))
    (λ p. ⊎_elim (λ f. inl (to-table _ p f.0 (f.1, f.2))) (λ f. inr (to-table _ p f.0 (f.1, rw (label_at table p.row p.column) f.2))))
    (first-or (λ p q f g. ⊎_elim (λ l. omega arith) (λ l. omega arith)) (first-unclear by_number (in_mask keys) 31 table 0)
    (first-in-table by_number 32 [] (Forbidden forbids_a column) (λ c f. clash f.1 clear-allows-A) test (first-forbidden by_number forbids_a column) 0 (grid table))))

-- the second operand's column of a row, where its label is not clear
abbrev Unclear : (ℕ → Type 0) → List ℕ → ℕ → Type 0
Unclear Wanted labels c = Wanted c × (clear (get_or labels c 0) ≡ false)

operand-unclear : (operand : Operand) (row : ℕ) (labels : List ℕ) → FirstAt InEachRow (InRow 33 row (Unclear (OperandColumn operand) labels)) (operand_clear operand row labels)
operand-unclear (Constant value) row labels = nowhere (λ p f. f.fact.0)
operand-unclear (Column c) row labels =
    first-same (λ p f. record { numbered = f.numbered; in_row = f.in_row; fact = (f.in-column, rw f.in-column (not-true _ f.fact)) })
    (λ p f. record { numbered = f.numbered; in_row = f.in_row; in-column = f.fact.0; fact = ap not (rw f.fact.0 at f.fact.1) })
    (first-if in-each-row 33 (not (clear (get_or labels c 0))) row c)

second-unclear : (transform : Transform) (row : ℕ) (labels : List ℕ) → FirstAt InEachRow (InRow 33 row (Unclear (SecondColumn transform) labels)) (second_clear transform row labels)
second-unclear (Add operand) row labels = operand-unclear operand row labels
second-unclear (Sub operand) row labels = operand-unclear operand row labels
second-unclear (Cut digits) row labels = nowhere (λ p f. f.fact.0)
second-unclear (Band width) row labels = nowhere (λ p f. f.fact.0)

module _ (column : ℕ) (transform : Transform) where
  abbrev Refused : ℕ → List ℕ → RefusalPlace → Type 0
  Refused row labels p = InRow 32 row (Forbidden forbids_t column labels) p ⊎ InRow 33 row (Unclear (SecondColumn transform) labels) p

  row-refused : (row : ℕ) (labels : List ℕ) → FirstAt InEachRow (Refused row labels) (apply_row column transform row labels)
  row-refused row labels =
      first-or (λ p q f g. ⊎_elim (λ l. omega arith) (λ l. omega arith)) (first-forbidden in-each-row forbids_t column row labels) (second-unclear transform row labels)

  row-of : (row : ℕ) (labels : List ℕ) (p : RefusalPlace) → Refused row labels p → p.row ≡ row
  row-of row labels p = ⊎_elim (λ f. f.in_row) (λ f. f.in_row)

  -- a row below is not before one, whatever the numbers
  below : (r s : ℕ) (a b : List ℕ) (p q : RefusalPlace) → r < s → Refused r a p → Refused s b q → InEachRow q p → ⊥
  below r s a b p q h f g = ⊎_elim (λ l. omega (arith, row-of r a p f, row-of s b q g)) (λ l. omega (arith, row-of r a p f, row-of s b q g))

pub apply-refusal : ApplyRefusal
unfolding check check_apply
apply-refusal column transform left stack =
    let table = top stack in
    rw (grid-at 0 stack, rows-walk (apply_row column transform) 0 (grid table))
    (first-same (λ p f.
    let k : f.0 ≡ p.row = omega (arith, row-of column transform (0 + f.0) (get_or (grid table) f.0 []) p f.1) in
    let label = label_at table f.0 p.column in
    ⊎_elim (λ g. inl (g.numbered, g.fact.0, rw (← k, ← label) g.fact.1)) (λ g. inr (g.numbered, g.fact.0, rw (← k, ← label) g.fact.1)) f.1)
    (λ p f.
    let k = sym (zero-add p.row) in
    let label = label_at table p.row p.column in
    (p.row, ⊎_elim (λ g. inl (record { numbered = g.0; in_row = k; fact = (g.1, rw label g.2) })) (λ g. inr (record { numbered = g.0; in_row = k; fact = (g.1, rw label g.2) })) f))
    (walked [] (apply_row column transform) (Refused column transform) (row-refused column transform) (below column transform)
    (λ r p. ⊎_elim (λ f. clash f.fact.1 clear-allows-T) (λ f. true≢false f.fact.1)) 0 (grid table)))

-- ---- NOISE

module _ (column left : ℕ) where
  -- what fails in rows that are numbered from `first` on: one of the rows, by its label or for want of a draw
  abbrev Fails : ℕ → List (List ℕ) → RefusalPlace → Type 0
  Fails first rows p = (k : ℕ) × (k < length rows) × (p.row ≡ first + k) × (p.column ≡ column)
      × (((p.number ≡ 32) × (forbids_n (get_or (get_or rows k []) column 0) ≡ true)) ⊎ ((p.number ≡ 37) × (left ≤ p.row)))

  -- and in one row
  abbrev Here : ℕ → List ℕ → RefusalPlace → Type 0
  Here row labels p = At 32 row column (forbids_n (get_or labels column 0) ≡ true) p ⊎ At 37 row column (leb left row ≡ true) p

  noise-row : (row : ℕ) (labels : List ℕ) → FirstAt InEachRow (Here row labels) (noise_row column left row labels)
  noise-row row labels =
      first-or (λ p q f g. ⊎_elim (λ l. omega (arith, f.in_row, g.in_row)) (λ l. omega (arith, f.numbered, g.numbered)))
      (first-if in-each-row 32 (forbids_n (get_or labels column 0)) row column) (first-if in-each-row 37 (leb left row) row column)

  noise-rows : (first : ℕ) (rows : List (List ℕ)) → FirstAt InEachRow (Fails first rows) (first_row (noise_row column left) first rows)
  noise-rows first [] = nowhere (λ p f. omega (arith, f.1))
  noise-rows first (labels ∷ rest) =
      first-same to from (first-or apart (noise-row first labels) (noise-rows (suc first) rest))
    where
      apart : (p q : RefusalPlace) → Here first labels p → Fails (suc first) rest q → InEachRow q p → ⊥
      apart p q f g =
          let r : p.row ≡ first = ⊎_elim (λ x. x.in_row) (λ x. x.in_row) f in
          ⊎_elim (λ l. omega (arith, r, g.2)) (λ l. omega (arith, r, g.2))

      to : (p : RefusalPlace) → Here first labels p ⊎ Fails (suc first) rest p → Fails first (labels ∷ rest) p
      to p = ⊎_elim
          (⊎_elim (λ x. (0, omega arith, x.in_row ∙ sym (add-zero first), x.in-column, inl (x.numbered, x.fact)))
          (λ x. (0, omega arith, x.in_row ∙ sym (add-zero first), x.in-column, inr (x.numbered, rw x.in_row (leb-true left first x.fact)))))
          (λ f. (suc f.0, omega (arith, f.1), omega (arith, f.2), f.3, f.4))

      from : (p : RefusalPlace) → Fails first (labels ∷ rest) p → Here first labels p ⊎ Fails (suc first) rest p
      from p f = split f.0 f.1 f.2 f.3 f.4
        where
          split : (k : ℕ) → k < length (labels ∷ rest) → p.row ≡ first + k → p.column ≡ column
              → ((p.number ≡ 32) × (forbids_n (get_or (get_or (labels ∷ rest) k []) column 0) ≡ true)) ⊎ ((p.number ≡ 37) × (left ≤ p.row))
              → Here first labels p ⊎ Fails (suc first) rest p
          split zero h r c e = ⊎_elim
              (λ g. inl (inl record { numbered = g.0; in_row = r ∙ add-zero first; in-column = c; fact = g.1 }))
              (λ g. inl (inr record { numbered = g.0; in_row = r ∙ add-zero first; in-column = c; fact = le-leb left first (omega (arith, r, g.1)) })) e
          split (suc k) h r c e = inr (k, omega (arith, h), omega (arith, r), c, e)

pub noise-refusal : NoiseRefusal
unfolding check check_noise
noise-refusal column left stack =
    let table = top stack in
    rw (grid-at 0 stack)
    (first-same (λ p f.
    let k : f.0 ≡ p.row = omega (arith, f.2) in
    (rw (length-map table.rows labels_of, k) at f.1, f.3, ⊎_elim (λ g. inl (g.0, rw (← label_at table p.row column, ← k) g.1)) inr f.4))
    (λ p f.
    (p.row, rw (length-map table.rows labels_of) f.0, sym (zero-add p.row), f.1, ⊎_elim (λ g. inl (g.0, rw (label_at table p.row column) g.1)) inr f.2))
    (noise-rows column left 0 (grid table)))

-- ---- the release

-- a cell in range, where there is none
abbrev zero_cell : Cell
zero_cell = record { value = pos 0; label = 0 }

abbrev is_over : Cell → Bool
is_over cell = not (in_range cell.value)

zero_in : is_over zero_cell ≡ false
unfolding in_range least most
zero_in = refl

abbrev Over : Row → ℕ → Type 0
Over row c = (c < length row.cells) × (in_range (cell_at c row).value ≡ false)

over-there : (cells : List Cell) (k : ℕ) → is_over (get_or cells k zero_cell) ≡ true → (k < length cells) × (in_range (get_or cells k blank).value ≡ false)
over-there [] k e = absurd (clash e zero_in)
over-there (cell ∷ rest) zero e = (omega arith, not-true _ e)
over-there (cell ∷ rest) (suc k) e = let h = over-there rest k e in (omega arith, h.1)

over-here : (cells : List Cell) (k : ℕ) → k < length cells → in_range (get_or cells k blank).value ≡ false → is_over (get_or cells k zero_cell) ≡ true
over-here [] k h e = absurd (omega arith)
over-here (cell ∷ rest) zero h e = ap not e
over-here (cell ∷ rest) (suc k) h e = over-here rest k (omega arith) e

row-over : (row : ℕ) (next : Row) → FirstAt NumberByNumber (InRow 36 row (Over next)) (over_in row 0 next.cells)
row-over row next =
    rw (over-walk row 0 next.cells)
    (first-same (λ p f. record { numbered = f.numbered; in_row = f.in_row; fact = over-there next.cells p.column f.fact })
    (λ p f. record { numbered = f.numbered; in_row = f.in_row; fact = over-here next.cells p.column f.fact.0 f.fact.1 })
    (first-in-row by_number 36 zero_cell (λ c. is_over) (λ c. zero_in) row next.cells))

pub release-refusal : ReleaseRefusal
unfolding check_release
release-refusal table =
    rw (overs-walk 0 table.rows)
    (first-same (λ p. ⊎_elim (λ t. let f = in-table t in inl (f.0, f.1.1)) (λ t. let f = in-table t in inr (f.0, f.1.0, f.1.1)))
    (λ p. ⊎_elim (λ f. inl (to-table _ p f.0 (refl, f.1))) (λ f. inr (to-table _ p f.0 (f.1, f.2))))
    (first-or (λ p q f g. ⊎_elim (λ l. omega arith) (λ l. omega arith)) (first-unclear by_number (λ column. true) 35 table 0)
    (first-in-table by_number 36 (record { cells = []; mark = 0 }) Over (λ c f. omega arith) (λ row next. over_in row 0 next.cells) row-over 0 table.rows)))
