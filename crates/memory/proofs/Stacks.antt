-- The stack in work memory: what a table in one slot leaves of the tables below it. Assumes nothing.
use Prim.Native.Nat.{ℕ, zero, suc, ◌+◌, ◌-◌, ◌*◌, ◌≤◌, ◌<◌}
use mathlib.Core.Path.{◌≡◌, refl, sym, ap, ap₂, ◌∙◌}
use mathlib.Core.Bool.{Bool, true, false, cond, ◌&&◌, and-eq-true_iff}
use mathlib.Core.List.{List, ◌∷◌, map}
use mathlib.Core.Logic.{◌≢◌}
use native.Mathlib.Nat.{add-zero, add-suc, mul-le-mul}
use native.Mathlib.Omega.{arith}
use lib.Dec.{leb, eqb}
use lib.ListN.{length, get_or, take, drop, length-drop}
use lib.Seq.{length-take-le, drop_at, take-add, take-take}
use borrow.Author.Tests.{leb-true, le-leb, lt-ltb, ne_eqb}
use Rattle.cells.specs.promises.Work.{Work, Memory, cells_in, room, mark_room}
use Rattle.memory.specs.promises.Stack.{ready, Ready, slot, mark_slot, mark_part, table_in, tables_to, stack_in, widths_to, replaced, with_table}
use Rattle.live_tables.specs.declared.Stack.{Stack}
use Rattle.plan.specs.Table.{Row, rows_of}
use Rattle.cells.proofs.Rows.{marked-same}

-- ---- a stack that fits

-- what holds at 0, 1 and 2 holds below 3
below-three : (P : ℕ → Type 0) → P 0 → P 1 → P 2 → (i : ℕ) → i < 3 → P i
below-three P a b c zero h = a
below-three P a b c (suc zero) h = b
below-three P a b c (suc (suc zero)) h = c
below-three P a b c (suc (suc (suc i))) h = absurd (omega arith)

both : (a b : Bool) → (a && b) ≡ true → (a ≡ true) × (b ≡ true)
both a b e = (and-eq-true_iff a b).0 e

all-nine : (a b c d e f g h i : Bool) → (a && b && c && d && e && f && g && h && i) ≡ true
    → (a ≡ true) × (b ≡ true) × (c ≡ true) × (d ≡ true) × (e ≡ true) × (f ≡ true) × (g ≡ true) × (h ≡ true) × (i ≡ true)
all-nine a b c d e f g h i t =
    let t₈ = both (a && b && c && d && e && f && g && h) i t in
    let t₇ = both (a && b && c && d && e && f && g) h t₈.0 in
    let t₆ = both (a && b && c && d && e && f) g t₇.0 in
    let t₅ = both (a && b && c && d && e) f t₆.0 in
    let t₄ = both (a && b && c && d) e t₅.0 in
    let t₃ = both (a && b && c) d t₄.0 in
    let t₂ = both (a && b) c t₃.0 in
    let t₁ = both a b t₂.0 in
    (t₁.0, t₁.1, t₂.1, t₃.1, t₄.1, t₅.1, t₆.1, t₇.1, t₈.1)

pub is-ready : (values labels : ℕ) (stack : Stack) → ready values labels stack ≡ true → Ready values labels stack
unfolding ready
is-ready values labels stack e =
    let t = all-nine (leb 8192 values) (leb 8192 labels) (leb stack.depth 3) (leb (get_or stack.rows 0 0) 256) (leb (get_or stack.rows 1 0) 256) (leb (get_or stack.rows 2 0) 256)
    (leb (get_or stack.columns 0 0) 8) (leb (get_or stack.columns 1 0) 8) (leb (get_or stack.columns 2 0) 8) e in
    record {
      values-room = leb-true _ _ t.0;
      labels-room = leb-true _ _ t.1;
      depth = leb-true _ _ t.2;
      rows = below-three (λ i. get_or stack.rows i 0 ≤ 256) (leb-true _ _ t.3) (leb-true _ _ t.4) (leb-true _ _ t.5);
      columns = below-three (λ i. get_or stack.columns i 0 ≤ 8) (leb-true _ _ t.6) (leb-true _ _ t.7) (leb-true _ _ t.8);
    }

pub to-ready : (values labels : ℕ) (stack : Stack) → Ready values labels stack → ready values labels stack ≡ true
unfolding ready
to-ready values labels stack r =
    rw (
      le-leb 8192 values r.values-room,
      le-leb 8192 labels r.labels-room,
      le-leb _ 3 r.depth,
      le-leb _ 256 (r.rows 0 (omega arith)),
      le-leb _ 256 (r.rows 1 (omega arith)),
      le-leb _ 256 (r.rows 2 (omega arith)),
      le-leb _ 8 (r.columns 0 (omega arith)),
      le-leb _ 8 (r.columns 1 (omega arith)),
      le-leb _ 8 (r.columns 2 (omega arith)),
    )

-- ---- one entry replaced

pub replaced-there : (numbers : List ℕ) (index new : ℕ) → index < 3 → get_or (replaced numbers index new) index 0 ≡ new
replaced-there numbers index new h = below-three (λ i. get_or (replaced numbers i new) i 0 ≡ new) refl refl refl index h

pub replaced-other : (numbers : List ℕ) (index new i : ℕ) → i < 3 → i ≢ index → get_or (replaced numbers index new) i 0 ≡ get_or numbers i 0
replaced-other numbers index new i h =
    below-three (λ i. i ≢ index → get_or (replaced numbers index new) i 0 ≡ get_or numbers i 0) (λ n. rw (ne_eqb index 0 (λ e. n (sym e)))) (λ n. rw (ne_eqb index 1 (λ e. n (sym e))))
    (λ n. rw (ne_eqb index 2 (λ e. n (sym e)))) i h

module _ (values labels : ℕ) (stack : Stack) (index columns rows : ℕ) (r : Ready values labels stack) (h : index < 3) (c : columns ≤ 8) (k : rows ≤ 256) where
  -- a stack that fits still does with a table that fits
  pub with-ready : Ready values labels (with_table stack index columns rows)
  unfolding with_table
  with-ready = rw (lt-ltb index 3 h) record {
    values-room = r.values-room;
    labels-room = r.labels-room;
    depth = h;
    rows = one_of stack.rows rows 256 r.rows k;
    columns = one_of stack.columns columns 8 r.columns c;
  }
    where
      cond-le : (b : Bool) {x y n : ℕ} → x ≤ n → y ≤ n → cond b x y ≤ n
      cond-le true p q = p
      cond-le false p q = q

      one_of : (numbers : List ℕ) (new limit : ℕ) → ((i : ℕ) → i < 3 → get_or numbers i 0 ≤ limit) → new ≤ limit → (i : ℕ) → i < 3 → get_or (replaced numbers index new) i 0 ≤ limit
      one_of numbers new limit old n =
          below-three (λ i. get_or (replaced numbers index new) i 0 ≤ limit) (cond-le (eqb index 0) n (old 0 (omega arith))) (cond-le (eqb index 1) n (old 1 (omega arith)))
          (cond-le (eqb index 2) n (old 2 (omega arith)))

-- ---- the tables below a slot

-- a part of a list lies in a longer front of it
pub part-of-front : {A : Type 0} (b k n : ℕ) (l : List A) → b + k ≤ n → n ≤ length l → take k (drop b (take n l)) ≡ take k (drop b l)
part-of-front {A} b k n l h m =
    let e : b + (n - b) ≡ n = omega arith in
    let d : drop b (take n l) ≡ take (n - b) (drop b l)
    = ap (λ (i : ℕ). drop b (take i l)) (sym e) ∙ ap (drop b) (take-add b (n - b) l) ∙ drop_at (take b l) (take (n - b) (drop b l)) b (length-take-le b l (omega arith)) in
    ap (take k) d ∙ take-take k (n - b) (drop b l) (omega arith)

-- a part of a list is as it was, where a longer front of it is
pub part-still : {A : Type 0} (before after : List A) (at count n : ℕ) → at + count ≤ n → n ≤ length before → length after ≡ length before
    → take n after ≡ take n before → take count (drop at after) ≡ take count (drop at before)
part-still {A} before after at count n h m long e =
    sym (part-of-front at count n after h (omega arith)) ∙ ap (λ (l : List A). take count (drop at l)) e ∙ part-of-front at count n before h m

-- a table's cells fit its slot
pub fits-slot : (rows columns : ℕ) → rows ≤ 256 → columns ≤ 8 → rows * columns ≤ 2048
fits-slot rows columns r c = mul-le-mul r c

-- so many marks
pub marks-count : (marks : List ℕ) (at rows : ℕ) → at + rows ≤ length marks → length (mark_part marks at rows) ≡ rows
marks-count marks at rows h = length-take-le rows (drop at marks) (simp length-drop (omega arith))

module _ (before after : Work) (room-is : room ≤ length (cells_in before)) (same_length : length (cells_in after) ≡ length (cells_in before)) where
  -- a table below a place from which on memory was changed is as it was, whatever its marks
  pub rows-still : (at n columns : ℕ) (marks : List ℕ) → at + length marks * columns ≤ n → n ≤ room → take n (cells_in after) ≡ take n (cells_in before)
      → rows_of columns marks (drop at (cells_in after)) ≡ rows_of columns marks (drop at (cells_in before))
  rows-still at n columns marks h m e =
      marked-same columns marks (drop at (cells_in after)) (drop at (cells_in before)) (simp length-drop (omega arith)) (simp length-drop (omega arith))
      (part-still (cells_in before) (cells_in after) at (length marks * columns) n h (omega arith) same_length e)

-- memory with both kinds of slices long enough, and as long afterwards
pub record Lengths (before after : Memory) : Type 0 where
  pub cells-room : room ≤ length (cells_in before.work)
  pub cells-long : length (cells_in after.work) ≡ length (cells_in before.work)
  pub marks-room : mark_room ≤ length before.marks
  pub marks-long : length after.marks ≡ length before.marks

-- the slots below one are as they were
pub record Below (index : ℕ) (before after : Memory) : Type 0 where
  pub cells : take (slot index) (cells_in after.work) ≡ take (slot index) (cells_in before.work)
  pub marks : take (mark_slot index) after.marks ≡ take (mark_slot index) before.marks

module _ (before after : Memory) (long : Lengths before after) where
  pub table_same : (index n columns rows : ℕ) → rows ≤ 256 → columns ≤ 8 → index < n → n ≤ 4 → Below n before after
      → table_in after index columns rows ≡ table_in before index columns rows
  table_same index n columns rows few narrow h m low =
      let cells = fits-slot rows columns few narrow in
      let marks = part-still before.marks after.marks (mark_slot index) rows (mark_slot n) (omega arith) (omega (arith, long.marks-room)) long.marks-long low.marks in
      let count = marks-count before.marks (mark_slot index) rows (omega (arith, long.marks-room)) in
      let read = rows-still before.work after.work long.cells-room long.cells-long (slot index) (slot n) columns (mark_part before.marks (mark_slot index) rows)
      (rw count (omega arith)) (omega arith) low.cells in
      let all = ap (λ (m : List ℕ). rows_of columns m (drop (slot index) (cells_in after.work))) marks ∙ read in
      λ i. record { columns = columns; rows = all i }

  pub below_less : (index n : ℕ) → index ≤ n → Below n before after → Below index before after
  below_less index n h low = record {
    cells = sym (take-take (slot index) (slot n) (cells_in after.work) (omega arith)) ∙ ap (take (slot index)) low.cells
        ∙ take-take (slot index) (slot n) (cells_in before.work) (omega arith);
    marks = sym (take-take (mark_slot index) (mark_slot n) after.marks (omega arith)) ∙ ap (take (mark_slot index)) low.marks
        ∙ take-take (mark_slot index) (mark_slot n) before.marks (omega arith);
  }

  pub tables-same : {values labels : ℕ} (stack other : Stack) → Ready values labels stack → (n : ℕ) → n ≤ 3
      → ((i : ℕ) → i < n → get_or other.rows i 0 ≡ get_or stack.rows i 0) → ((i : ℕ) → i < n → get_or other.columns i 0 ≡ get_or stack.columns i 0)
      → Below n before after → tables_to after other n ≡ tables_to before stack n
  tables-same stack other k zero h r c low = refl
  tables-same stack other k (suc n) h r c low =
      ap₂ ◌∷◌ (ap₂ (table_in after n) (c n (omega arith)) (r n (omega arith))
      ∙ table_same n (suc n) (get_or stack.columns n 0) (get_or stack.rows n 0) (k.rows n h) (k.columns n h) (omega arith) (omega arith) low)
      (tables-same stack other k n (omega arith) (λ i l. r i (omega arith)) (λ i l. c i (omega arith)) (below_less n (suc n) (omega arith) low))

drop-tables : (work : Memory) (stack : Stack) (n k : ℕ) → drop k (tables_to work stack (n + k)) ≡ tables_to work stack n
drop-tables work stack n zero = ap (tables_to work stack) (add-zero n)
drop-tables work stack n (suc k) = ap (λ (i : ℕ). drop (suc k) (tables_to work stack i)) (add-suc n k) ∙ drop-tables work stack n k

-- a table made in a slot, memory below which is as it was: it stands on what is left of the stack
pub stack-with : {values labels : ℕ} (before after : Memory) (stack : Stack) (index taken columns rows : ℕ) (made : List Row) → Ready values labels stack
    → Lengths before after → index < 3 → stack.depth ≡ index + taken → Below index before after
    → table_in after index columns rows ≡ record { columns = columns; rows = made }
    → stack_in after (with_table stack index columns rows) ≡ record { columns = columns; rows = made } ∷ drop taken (stack_in before stack)
unfolding with_table
stack-with before after stack index taken columns rows made ready long h depth below read =
    let s : Stack = record { depth = suc index; rows = replaced stack.rows index rows; columns = replaced stack.columns index columns } in
    rw (lt-ltb index 3 h) (
    let table : table_in after index (get_or s.columns index 0) (get_or s.rows index 0) ≡ record { columns = columns; rows = made }
    = ap₂ (table_in after index) (replaced-there stack.columns index columns h) (replaced-there stack.rows index rows h) ∙ read in
    let lower : tables_to after s index ≡ tables_to before stack index
    = tables-same before after long stack s ready index (omega arith) (λ i l. replaced-other stack.rows index rows i (omega arith) (omega arith))
    (λ i l. replaced-other stack.columns index columns i (omega arith) (omega arith)) below in
    ap₂ ◌∷◌ table (lower ∙ sym (ap (λ (n : ℕ). drop taken (tables_to before stack n)) depth ∙ drop-tables before stack index taken)))

-- the widths on the stack are the tables' columns
pub widths-are : (work : Memory) (stack : Stack) (n : ℕ) → map (λ table. table.columns) (tables_to work stack n) ≡ widths_to stack n
widths-are work stack zero = refl
widths-are work stack (suc n) = ap (λ (rest : List ℕ). get_or stack.columns n 0 ∷ rest) (widths-are work stack n)

pub stack-length : (work : Memory) (stack : Stack) (n : ℕ) → length (tables_to work stack n) ≡ n
stack-length work stack zero = refl
stack-length work stack (suc n) = ap suc (stack-length work stack n)
