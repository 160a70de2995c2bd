-- What a table's header says where it passes. Assumes nothing.
use Prim.Native.Nat.{ℕ, ◌+◌, ◌*◌, ◌≤◌}
use mathlib.Core.Path.{◌≡◌}
use mathlib.Core.Bool.{true, ◌&&◌, and-eq-true_iff}
use mathlib.Core.List.{List}
use lib.Dec.{eqb, leb}
use lib.ListN.{length}
use borrow.Author.Tests.{leb-true, eqb-true}
use Rattle.table_part.specs.TablePart.{columns_of, row_count, header_fits}

pub record Header (part : List ℕ) : Type 0 where
  pub some : 1 ≤ columns_of part
  pub few : columns_of part ≤ 8
  pub small : row_count part ≤ 256
  pub whole : length part ≡ 4 + 12 * (row_count part * columns_of part)

pub header : (part : List ℕ) → header_fits part ≡ true → Header part
unfolding header_fits
header part e =
    let columns = columns_of part in
    let first = leb 4 (length part) && leb 1 columns in
    let a = (and-eq-true_iff (first && leb columns 8 && leb (row_count part) 256) (eqb (length part) (4 + 12 * (row_count part * columns)))).0 e in
    let b = (and-eq-true_iff (first && leb columns 8) (leb (row_count part) 256)).0 a.0 in
    let f = (and-eq-true_iff first (leb columns 8)).0 b.0 in
    record {
      some = leb-true 1 columns ((and-eq-true_iff (leb 4 (length part)) (leb 1 columns)).0 f.0).1;
      few = leb-true columns 8 f.1;
      small = leb-true (row_count part) 256 b.1;
      whole = eqb-true (length part) (4 + 12 * (row_count part * columns)) a.1;
    }
