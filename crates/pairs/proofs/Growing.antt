-- Rows made after others in the last slot. Assumes nothing.
use Prim.Native.Nat.{ℕ, ◌+◌, ◌*◌, ◌≤◌, ◌<◌, ◌^◌}
use mathlib.Core.Path.{◌≡◌, refl, sym, ap, ap₂, ◌∙◌}
use mathlib.Core.Bool.{Bool, true, false, cond, and-false}
use mathlib.Core.List.{List, [], ◌++◌, append-nil}
use native.Mathlib.Nat.{add-zero}
use native.Mathlib.Omega.{arith}
use lib.Dec.{leb}
use lib.IntN.{pos}
use lib.ListN.{length, get_or, take, drop, length-append, length-drop, take-append-drop}
use lib.Seq.{length-take-le, take-append-le, take-take, get_or-take, get_or-drop}
use lib.Signed.{mag}
use borrow.Author.Tests.{le-leb, lt-leb, leb-true, leb-false}
use Rattle.std.specs.Prelude.{Result, Ok, Err, IsErrAnd}
use Rattle.pairs.specs.promises.Pairs.{SidesFit, Grown, width, side_row, side_rows, row_made, pair_rows, with_cells, count_of}
use Rattle.pairs.specs.declared.TooMany.{TooMany}
use Rattle.pairs.specs.declared.Side.{Side}
use Rattle.cells.specs.promises.Cells.{Wide}
use Rattle.cells.specs.promises.Work.{Work, cells_in, room, Kept}
use Rattle.cells.specs.promises.Written.{Written}
use Rattle.plan.specs.Join.{matches}
use Rattle.plan.specs.Table.{Each, Cell, Row, blank, cell_at, flat}
use Rattle.value.specs.Equality.{eq_z}
use Rattle.comparison.specs.Comparison.{equal}
use Rattle.cells.proofs.CellLaws.{cells-length, cells-get, kept-none, kept_then}
use Rattle.cells.proofs.RowReads.{flat_append, flat-length}
use Rattle.cells.proofs.Rows.{rows-wide}
use Rattle.memory.proofs.Stacks.{fits-slot}
use Rattle.cells.proofs.Written.{as_long, then-written}
use Rattle.value.proofs.Machine.{back, back_is}

-- ---- so many rows, or too many

abbrev count_if : ℕ → Bool → Result ℕ TooMany
count_if rows few = cond few (Ok rows) (Err (record {}))

pub counted-few : (rows : ℕ) {count : ℕ} → Ok count ≡ count_of rows → (count ≡ rows) × (rows ≤ 256)
counted-few rows {count} e = go (leb rows 256) refl e
  where
    go : (few : Bool) → leb rows 256 ≡ few → Ok count ≡ count_if rows few → (count ≡ rows) × (rows ≤ 256)
    go true h e = (cc, leb-true rows 256 h)
    go false h e = cc

pub counted-many : (rows : ℕ) {wrong : TooMany} → Err wrong ≡ count_of rows → 256 < rows
counted-many rows {wrong} e = go (leb rows 256) refl e
  where
    go : (few : Bool) → leb rows 256 ≡ few → Err wrong ≡ count_if rows few → 256 < rows
    go true h e = cc
    go false h e = leb-false rows 256 h

few-counted : (rows : ℕ) {count : ℕ} → count ≡ rows → rows ≤ 256 → Ok count ≡ count_of rows
few-counted rows e h = rw (le-leb rows 256 h) (ap Ok e)

many-counted : (rows : ℕ) {wrong : TooMany} → 256 < rows → Err wrong ≡ count_of rows
many-counted rows h = rw (lt-leb rows 256 h)

-- what `?` passes on
pub passed-on : (P : TooMany → Type 0) (done : Result ℕ TooMany) → IsErrAnd done P → done ≡ Err (record {})
passed-on P (Ok rows) e = absurd e
passed-on P (Err wrong) e = refl

-- whether the keys of two rows in memory match
abbrev pub keys_match : List Cell → Side → Side → ℕ → ℕ → Bool
keys_match memory left right at other = matches left.key right.key (side_row memory left at) (side_row memory right other)

module _ {left right : Side} (w : Work) (sides : SidesFit (length w.values) (length w.labels) left right) where
  abbrev memory : List Cell
  memory = cells_in w

  pub cells-room : room ≤ length memory
  cells-room = cells-length w room sides.values-room sides.labels-room

  -- a table below the last slot has all its cells
  pub cells-in : (side : Side) → side.table.at + side.table.rows * side.table.columns ≤ 6144 → side.table.rows * side.table.columns ≤ length (drop side.table.at memory)
  cells-in side h = simp length-drop (omega (arith, cells-room))

  pub rows-in-wide : (side : Side) → side.table.at + side.table.rows * side.table.columns ≤ 6144 → Each (Wide side.table.columns) (side_rows memory side)
  rows-in-wide side h = rows-wide side.table.columns side.table.rows (drop side.table.at memory) (cells-in side h)

  -- rows that are counted are few
  pub few-made : {made count : ℕ} {new : List Row} {u : Work} → Grown made left right new w (Ok count) u → count ≤ 256
  few-made {made} {new = new} g = let few = counted-few (made + length new) g.counted in omega (arith, few.0, few.1)

  -- ---- one row with one row

  key-at : (side : Side) (at : ℕ) → side.key < side.table.columns → at + side.table.columns ≤ 6144 → (cell_at side.key (side_row memory side at)).value ≡ get_or w.values (at + side.key) (pos 0)
  key-at side at h k =
      ap (λ (cell : Cell). cell.value)
      (get_or-take side.table.columns (drop at memory) side.key blank h ∙ get_or-drop at memory side.key blank
      ∙ cells-get w (at + side.key) (pos 0) (omega (arith, sides.values-room)) (omega (arith, sides.labels-room)))

  -- what the comparison of the two values says
  pub keys-match : (at other : ℕ) {r : Bool} → at + left.table.columns ≤ 6144 → other + right.table.columns ≤ 6144
      → mag (get_or w.values (at + left.key) (pos 0)) < 2 ^ 63 → mag (get_or w.values (other + right.key) (pos 0)) < 2 ^ 63
      → r ≡ equal (back (get_or w.values (at + left.key) (pos 0))) (back (get_or w.values (other + right.key) (pos 0))) → keys_match memory left right at other ≡ r
  keys-match at other h k m n e = ap₂ equal (key-at left at sides.left_key h) (key-at right other sides.right_key k) ∙ sym (e ∙ ap₂ equal (back_is _ m) (back_is _ n))

  -- two values that differ do not match
  pub keys-differ : (at other : ℕ) → at + left.table.columns ≤ 6144 → other + right.table.columns ≤ 6144 → eq_z (get_or w.values (at + left.key) (pos 0)) (get_or w.values (other + right.key) (pos 0)) ≡ false
      → keys_match memory left right at other ≡ false
  unfolding equal
  keys-differ at other h k e = ap₂ equal (key-at left at sides.left_key h) (key-at right other sides.right_key k) ∙ rw (e, and-false)

  pub none_made : {made : ℕ} → made ≤ 256 → Grown made left right [] w (Ok made) w
  none_made {made} h = record {
    counted = few-counted _ (omega arith) (omega arith);
    put = λ k. sym (rw add-zero (take-append-drop (6144 + made * width left right) memory));
    below = refl;
    kept = kept-none w;
  }

  module _ (at other : ℕ) {made : ℕ} where
    pub unmatched : keys_match memory left right at other ≡ false → made ≤ 256 → Grown made left right (pair_rows memory left right at other) w (Ok made) w
    unmatched e h = rw e (none_made h)

    -- a row after 256 is counted and not written
    pub one-too-many : keys_match memory left right at other ≡ true → made ≡ 256 → Grown made left right (pair_rows memory left right at other) w (Err (record {})) w
    one-too-many e h = rw e record { counted = many-counted _ (omega arith); put = λ k. absurd (omega arith); below = refl; kept = kept-none w }

    pub one-made : {u : Work} → keys_match memory left right at other ≡ true → made < 256
        → cells_in u ≡ with_cells (6144 + made * width left right) (row_made memory left right at other).cells memory → Kept w u
        → Grown made left right (pair_rows memory left right at other) w (Ok (made + 1)) u
    one-made m h e k =
        let place = 6144 + made * width left right in
        let high : place ≤ length memory = omega (arith, cells-room, fits-slot made (width left right) (omega arith) sides.few) in
        rw m record {
          counted = few-counted _ (omega arith) (omega arith);
          put = λ n. e ∙ ap (λ (x : List Cell). with_cells place x memory) (sym (append-nil (row_made memory left right at other).cells));
          below = ap (take 6144) e ∙ take-append-le 6144 (take place memory) _ (rw (length-take-le place memory high) (omega arith)) ∙ take-take 6144 place memory (omega arith);
          kept = k;
        }

  -- ---- rows after rows

  pub then-made : {u x : Work} {made count : ℕ} {total : Result ℕ TooMany} {new more : List Row} → Each (Wide (width left right)) new → Each (Wide (width left right)) more
      → Grown made left right new w (Ok count) u → Grown count left right more u total x → Grown made left right (new ++ more) w total x
  then-made {u} {x} {made} {count} {new = new} {more} new-wide more-wide g f =
      let n = width left right in
      let sum : length (new ++ more) ≡ length new + length more = length-append new more in
      let now = (counted-few (made + length new) g.counted).0 in
      let new-long = flat-length n new new-wide in
      let more-long = flat-length n more more-wide in
      let place : 6144 + count * n ≡ 6144 + made * n + length (flat new) = omega (arith, ap (λ (k : ℕ). k * n) now) in
      record {
        counted = let e : count + length more ≡ made + length (new ++ more) = omega arith in f.counted ∙ ap count_of e;
        put = λ m.
            let slot = fits-slot (count + length more) n (omega arith) sides.few in
            let first : Written memory (6144 + made * n) (flat new) (cells_in u) = record { room = omega (arith, cells-room); is = g.put (omega arith) } in
            let second : Written (cells_in u) (6144 + count * n) (flat more) (cells_in x) = record { room = omega (arith, cells-room, as_long first); is = f.put (omega arith) } in
            (then-written first place second).is
            ∙ ap (λ (x : List Cell). with_cells (6144 + made * n) x memory) (sym (flat_append new more));
        below = f.below ∙ g.below;
        kept = kept_then g.kept f.kept;
      }

  -- once there are too many, there are whatever follows
  pub over-made : {u : Work} {made : ℕ} {wrong : TooMany} {new : List Row} (all : List Row) → length new ≤ length all → Grown made left right new w (Err wrong) u
      → Grown made left right all w (Err wrong) u
  over-made {made = made} {new = new} all h g =
      let many = counted-many (made + length new) g.counted in
      record { counted = many-counted _ (omega arith); put = λ k. absurd (omega arith); below = g.below; kept = g.kept }
