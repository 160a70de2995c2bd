-- The turns of the two loops: one right row more, one left row more. Assumes nothing.
use Prim.Native.Nat.{ℕ, zero, suc, ◌+◌, ◌-◌, ◌*◌, ◌≤◌, ◌<◌}
use mathlib.Core.Path.{◌≡◌, refl, sym, ap, ap₂, ◌∙◌}
use mathlib.Core.Bool.{false}
use mathlib.Core.List.{List, [], ◌∷◌, ◌++◌, append-nil}
use native.Mathlib.Nat.{mul-le-mul_right, add-zero, add-mul, suc-mul}
use native.Mathlib.Numerals.{add-one}
use native.Mathlib.Omega.{arith}
use lib.IntN.{pos}
use lib.ListN.{length, get_or, take, drop, length-drop}
use lib.Seq.{length-take-le, drop-drop}
use Rattle.std.specs.Prelude.{Result, Ok, Err}
use Rattle.pairs.specs.declared.TooMany.{TooMany}
use Rattle.pairs.specs.promises.Pairs.{SidesFit, Grown, width, side_row, side_rows, pair_rows, left_rows}
use Rattle.pairs.specs.declared.Side.{Side}
use Rattle.cells.specs.promises.Cells.{bare_row, bare_rows, Wide}
use Rattle.cells.specs.promises.Work.{Work, cells_in, Kept}
use Rattle.plan.specs.Join.{joined_to, joined_rows}
use Rattle.plan.specs.Table.{Cell, Row, Each}
use Rattle.value.specs.Equality.{eq_z}
use Rattle.pairs.proofs.Above.{part_same, cells_same}
use Rattle.pairs.proofs.Growing.{keys-differ, unmatched, cells-room, cells-in, rows-in-wide, few-made, then-made, over-made}
use Rattle.pairs.proofs.Joining.{to-add, rows-add, row_more, fewer, to-joined-wide, rows-joined-wide}
use Rattle.cells.proofs.Rows.{rows_same, rows-wide}

-- the rows of one left row and the first right rows
abbrev pub Paired : Side → Side → Work → ℕ → ℕ → ℕ → Result ℕ TooMany → Work → Type 0
Paired left right w made at i count u =
    Grown made left right (joined_to left.key right.key (side_row (cells_in w) left at) (bare_rows right.table.columns i (drop right.table.at (cells_in w)))) w count u

-- the rows of the first left rows
abbrev pub Lefts : Side → Side → Work → ℕ → Result ℕ TooMany → Work → Type 0
Lefts left right w i count u =
    Grown 0 left right (joined_rows left.key right.key (bare_rows left.table.columns i (drop left.table.at (cells_in w))) (side_rows (cells_in w) right)) w count u

module _ {left right : Side} (w : Work) (sides : SidesFit (length w.values) (length w.labels) left right) where
  abbrev memory : List Cell
  memory = cells_in w

  pub sides-kept : {u : Work} → Kept w u → SidesFit (length u.values) (length u.labels) left right
  sides-kept k = rw (k.as-many-values, k.as-many-labels) sides

  -- ---- rows made of a table's rows, in any way that takes them one after the other

  module _ (of : List Row → List Row) (add : (xs ys : List Row) → of (xs ++ ys) ≡ of xs ++ of ys) (n : ℕ) (cells : List Cell) where
    -- one row more
    row_next : (i : ℕ) → ((xs : List Row) → Each (Wide n) xs → Each (Wide (width left right)) (of xs)) → suc i * n ≤ length cells
        → {u x : Work} {made count : ℕ} {total : Result ℕ TooMany} {more : List Row} → Grown made left right (of (bare_rows n i cells)) w (Ok count) u
        → more ≡ of (bare_row (take n (drop (i * n) cells)) ∷ []) → Grown count left right more u total x → Grown made left right (of (bare_rows n (i + 1) cells)) w total x
    row_next i wide h g same f =
        rw (add-one, row_more of add n cells i)
        (then-made w sides (wide _ (rows-wide n i cells (omega arith))) (wide _ (length-take-le n (drop (i * n) cells) (simp length-drop (omega arith)), tt)) g (rw same at f))

    -- too many, with rows left
    rows-over : (i m : ℕ) → i ≤ m → {u : Work} {made : ℕ} {wrong : TooMany} → Grown made left right (of (bare_rows n i cells)) w (Err wrong) u
        → Grown made left right (of (bare_rows n m cells)) w (Err wrong) u
    rows-over i m h g = let e : i + (m - i) ≡ m = omega arith in over-made w sides _ (rw e at (fewer of add n cells i (m - i))) g

  -- ---- right rows

  -- a row below the last slot is as it was
  row_same : {u : Work} → Kept w u → take 6144 (cells_in u) ≡ take 6144 memory → (side : Side) (at : ℕ) → at + side.table.columns ≤ 6144
      → side_row (cells_in u) side at ≡ side_row memory side at
  row_same {u} kept e side at h =
      let part = part_same memory (cells-room w sides) (cells_in u) at side.table.columns 6144 (cells_same kept) h (omega arith) e in
      ap bare_row part

  module _ (at : ℕ) (low : at + left.table.columns ≤ 6144) where
    abbrev with : List Row → List Row
    with = joined_to left.key right.key (side_row memory left at)

    pub right-next : (other i : ℕ) {u x : Work} {made count : ℕ} {total : Result ℕ TooMany} → i < right.table.rows → other ≡ right.table.at + i * right.table.columns
        → Paired left right w made at i (Ok count) u → Grown count left right (pair_rows (cells_in u) left right at other) u total x
        → Paired left right w made at (i + 1) total x
    right-next other i h e g f =
        let inside = mul-le-mul_right right.table.columns h in
        let place : drop other memory ≡ drop (i * right.table.columns) (drop right.table.at memory) = ap (λ (n : ℕ). drop n memory) e ∙ sym (drop-drop (i * right.table.columns) right.table.at memory) in
        let l = row_same g.kept g.below left at low in
        let r = row_same g.kept g.below right other (omega (arith, sides.right-below)) ∙ ap (λ (x : List Cell). bare_row (take right.table.columns x)) place in
        let wide : Wide left.table.columns (side_row memory left at) = length-take-le left.table.columns (drop at memory) (simp length-drop (omega (arith, cells-room w sides))) in
        row_next with (to-add left.key right.key (side_row memory left at)) right.table.columns (drop right.table.at memory) i
        (λ xs x. to-joined-wide left.key right.key left.table.columns right.table.columns sides.left_key sides.right_key (side_row memory left at) xs wide x)
        (omega (arith, cells-in w sides right sides.right-below)) g (ap₂ (λ (x y : Row). joined_to left.key right.key x (y ∷ [])) l r) f

    -- right rows whose keys differ from the left one are passed over
    pub rights-skipped : (other i r : ℕ) {u : Work} {made count : ℕ} → i + r ≤ right.table.rows → other ≡ right.table.at + i * right.table.columns
        → Paired left right w made at i (Ok count) u
        → ((j : ℕ) → j < r → eq_z (get_or u.values (at + left.key) (pos 0)) (get_or u.values (other + right.key + j * right.table.columns) (pos 0)) ≡ false)
        → Paired left right w made at (i + r) (Ok count) u
    rights-skipped other i zero h e g differ = rw add-zero g
    rights-skipped other i (suc r) {u} h e g differ =
        let place : right.table.at + (i + r) * right.table.columns ≡ other + r * right.table.columns = omega (arith, e, add-mul i r right.table.columns) in
        let inside : right.table.at + (i + r) * right.table.columns + right.table.columns ≤ 6144 = omega (arith, mul-le-mul_right right.table.columns h, sides.right-below, suc-mul (i + r) right.table.columns) in
        let key : other + right.key + r * right.table.columns ≡ right.table.at + (i + r) * right.table.columns + right.key = omega (arith, place) in
        let apart = ap (λ (n : ℕ). eq_z (get_or u.values (at + left.key) (pos 0)) (get_or u.values n (pos 0))) (sym key) ∙ differ r (omega arith) in
        let next : i + r + 1 ≡ i + suc r = omega arith in
        let s = sides-kept g.kept in
        rw next at (right-next (right.table.at + (i + r) * right.table.columns) (i + r) (omega arith) refl
        (rights-skipped other i r (omega arith) e g (λ j l. differ j (omega arith)))
        (unmatched u s at (right.table.at + (i + r) * right.table.columns) (keys-differ u s at (right.table.at + (i + r) * right.table.columns) low inside apart) (few-made w sides g)))

    pub rights-over : (i : ℕ) {u : Work} {made : ℕ} {wrong : TooMany} → i ≤ right.table.rows → Paired left right w made at i (Err wrong) u
        → Paired left right w made at right.table.rows (Err wrong) u
    rights-over i h g = rows-over with (to-add left.key right.key (side_row memory left at)) right.table.columns (drop right.table.at memory) i right.table.rows h g

  -- ---- left rows

  abbrev joined : List Row → List Row
  joined lefts = joined_rows left.key right.key lefts (side_rows memory right)

  pub left-next : (i : ℕ) {u x : Work} {count : ℕ} {total : Result ℕ TooMany} → i < left.table.rows → Lefts left right w i (Ok count) u
      → Grown count left right (left_rows (cells_in u) left right (left.table.at + i * left.table.columns)) u total x → Lefts left right w (i + 1) total x
  left-next i {u} h g f =
      let inside = mul-le-mul_right left.table.columns h in
      let l = row_same g.kept g.below left (left.table.at + i * left.table.columns) (omega (arith, sides.left_below))
      ∙ ap (λ (x : List Cell). bare_row (take left.table.columns x)) (sym (drop-drop (i * left.table.columns) left.table.at memory)) in
      let r : side_rows (cells_in u) right ≡ side_rows memory right
      = rows_same right.table.columns right.table.rows (drop right.table.at (cells_in u)) (drop right.table.at memory)
      (simp length-drop (omega (arith, sides.right-below, cells-room w sides, cells_same g.kept))) (simp length-drop (omega (arith, sides.right-below, cells-room w sides)))
      (part_same memory (cells-room w sides) (cells_in u) right.table.at (right.table.rows * right.table.columns) 6144 (cells_same g.kept) sides.right-below (omega arith) g.below) in
      row_next joined (rows-add left.key right.key (side_rows memory right)) left.table.columns (drop left.table.at memory) i
      (λ xs x. rows-joined-wide left.key right.key left.table.columns right.table.columns sides.left_key sides.right_key xs (side_rows memory right) x (rows-in-wide w sides right sides.right-below))
      (omega (arith, cells-in w sides left sides.left_below)) g (ap₂ (joined_to left.key right.key) l r ∙ sym (append-nil _)) f

  pub lefts-over : (i : ℕ) {u : Work} {wrong : TooMany} → i ≤ left.table.rows → Lefts left right w i (Err wrong) u → Lefts left right w left.table.rows (Err wrong) u
  lefts-over i h g = rows-over joined (rows-add left.key right.key (side_rows memory right)) left.table.columns (drop left.table.at memory) i left.table.rows h g
