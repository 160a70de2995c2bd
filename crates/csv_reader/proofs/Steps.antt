-- The steps of a reader, one by one, and what the values and rows so far have to do with where it stands. Assumes nothing.
use Prim.Native.Nat.{ℕ, ◌+◌, ◌*◌, ◌-◌, ◌/◌, ◌%◌, ◌≤◌, ◌<◌}
use mathlib.Core.Path.{◌≡◌, refl, ap, ◌∙◌}
use mathlib.Core.Bool.{Bool, true, false, cond, ◌&&◌, and-eq-true_iff, true≢false}
use native.Mathlib.Nat.{zero-mul}
use native.Mathlib.Omega.{arith}
use lib.Dec.{leb, ltb, eqb}
use lib.ListN.{length, get_or}
use borrow.Author.Tests.{leb-true, ltb-true, eqb-true}
use Rattle.csv_text.specs.Text.{names}
use Rattle.csv_reader.specs.Reader.{largest, is_digit, digit_of, more_digits, after_names, after_return, after_separator, after_minus, after_digits, next_spot, ended, rows_ended, is_wrong}
use Rattle.csv_reader.specs.declared.spot.Spot.{Spot}
use Rattle.csv_reader.specs.declared.spot.Spot.TheVariants.{Names, Header, Value, Minus, Digits, Row, Wrong}
use Rattle.csv_reader.proofs.Spots.{digit-size, more-is}

-- a byte that takes a reader from one spot to another
pub data Step (fewest : ℕ) : Spot → ℕ → Spot → Type 0 where
  name : {i byte : ℕ} → i < 23 → byte ≡ get_or names i 0 → Step fewest (Names i) byte (Names (i + 1))
  header : {i byte : ℕ} → byte ≡ 13 → i % 3 ≡ 2 → fewest ≤ i / 3 + 1 → Step fewest (Names i) byte (Header (i / 3 + 1))
  header-feed : {columns byte : ℕ} → byte ≡ 10 → Step fewest (Header columns) byte (Value columns columns)
  minus : {columns left byte : ℕ} → byte ≡ 45 → Step fewest (Value columns left) byte (Minus columns left)
  first : {columns left byte : ℕ} → is_digit byte ≡ true → Step fewest (Value columns left) byte (Digits columns left false (digit_of byte))
  first_below : {columns left byte : ℕ} → is_digit byte ≡ true → 48 < byte → Step fewest (Minus columns left) byte (Digits columns left true (digit_of byte))
  more : {columns left : ℕ} {negative : Bool} {size byte : ℕ} → more_digits negative size byte ≡ true
      → Step fewest (Digits columns left negative size) byte (Digits columns left negative (10 * size + digit_of byte))
  last : {columns left : ℕ} {negative : Bool} {size byte : ℕ} → left ≡ 1 → byte ≡ 13 → Step fewest (Digits columns left negative size) byte (Row columns)
  other : {columns left : ℕ} {negative : Bool} {size byte : ℕ} → 1 < left → byte ≡ 44 → Step fewest (Digits columns left negative size) byte (Value columns (left - 1))
  row-feed : {columns byte : ℕ} → byte ≡ 10 → Step fewest (Row columns) byte (Value columns columns)

module _ (fewest : ℕ) where
  from-names : (i byte : ℕ) (t u : Bool) → (ltb i 23 && eqb byte (get_or names i 0)) ≡ t → (eqb byte 13 && eqb (i % 3) 2 && leb fewest (i / 3 + 1)) ≡ u
      → is_wrong (cond t (Names (i + 1)) (cond u (Header (i / 3 + 1)) Wrong)) ≡ false
      → Step fewest (Names i) byte (cond t (Names (i + 1)) (cond u (Header (i / 3 + 1)) Wrong))
  unfolding is_wrong
  from-names i byte true u e f h =
      let k = (and-eq-true_iff (ltb i 23) (eqb byte (get_or names i 0))).0 e in
      name (ltb-true i 23 k.0) (eqb-true byte (get_or names i 0) k.1)
  from-names i byte false true e f h =
      let k = (and-eq-true_iff (eqb byte 13 && eqb (i % 3) 2) (leb fewest (i / 3 + 1))).0 f in
      let l = (and-eq-true_iff (eqb byte 13) (eqb (i % 3) 2)).0 k.0 in
      header (eqb-true byte 13 l.0) (eqb-true (i % 3) 2 l.1) (leb-true fewest (i / 3 + 1) k.1)
  from-names i byte false false e f h = absurd (true≢false h)

  from-header : (columns byte : ℕ) (t : Bool) → eqb byte 10 ≡ t → is_wrong (cond t (Value columns columns) Wrong) ≡ false
      → Step fewest (Header columns) byte (cond t (Value columns columns) Wrong)
  unfolding is_wrong
  from-header columns byte true e h = header-feed (eqb-true byte 10 e)
  from-header columns byte false e h = absurd (true≢false h)

  from_row : (columns byte : ℕ) (t : Bool) → eqb byte 10 ≡ t → is_wrong (cond t (Value columns columns) Wrong) ≡ false
      → Step fewest (Row columns) byte (cond t (Value columns columns) Wrong)
  unfolding is_wrong
  from_row columns byte true e h = row-feed (eqb-true byte 10 e)
  from_row columns byte false e h = absurd (true≢false h)

  from-value : (columns left byte : ℕ) (t u : Bool) → eqb byte 45 ≡ t → is_digit byte ≡ u
      → is_wrong (cond t (Minus columns left) (cond u (Digits columns left false (digit_of byte)) Wrong)) ≡ false
      → Step fewest (Value columns left) byte (cond t (Minus columns left) (cond u (Digits columns left false (digit_of byte)) Wrong))
  unfolding is_wrong
  from-value columns left byte true u e f h = minus (eqb-true byte 45 e)
  from-value columns left byte false true e f h = first f
  from-value columns left byte false false e f h = absurd (true≢false h)

  from-minus : (columns left byte : ℕ) (t : Bool) → (is_digit byte && ltb 48 byte) ≡ t → is_wrong (cond t (Digits columns left true (digit_of byte)) Wrong) ≡ false
      → Step fewest (Minus columns left) byte (cond t (Digits columns left true (digit_of byte)) Wrong)
  unfolding is_wrong
  from-minus columns left byte true e h = let k = (and-eq-true_iff (is_digit byte) (ltb 48 byte)).0 e in first_below k.0 (ltb-true 48 byte k.1)
  from-minus columns left byte false e h = absurd (true≢false h)

  from-digits : (columns left : ℕ) (negative : Bool) (size byte : ℕ) (t u v : Bool) → more_digits negative size byte ≡ t → (eqb left 1 && eqb byte 13) ≡ u → (ltb 1 left && eqb byte 44) ≡ v
      → is_wrong (cond t (Digits columns left negative (10 * size + digit_of byte)) (cond u (Row columns) (cond v (Value columns (left - 1)) Wrong))) ≡ false
      → Step fewest (Digits columns left negative size) byte (cond t (Digits columns left negative (10 * size + digit_of byte)) (cond u (Row columns) (cond v (Value columns (left - 1)) Wrong)))
  unfolding is_wrong
  from-digits columns left negative size byte true u v e f g h = more e
  from-digits columns left negative size byte false true v e f g h =
      let k = (and-eq-true_iff (eqb left 1) (eqb byte 13)).0 f in last (eqb-true left 1 k.0) (eqb-true byte 13 k.1)
  from-digits columns left negative size byte false false true e f g h =
      let k = (and-eq-true_iff (ltb 1 left) (eqb byte 44)).0 g in other (ltb-true 1 left k.0) (eqb-true byte 44 k.1)
  from-digits columns left negative size byte false false false e f g h = absurd (true≢false h)

  -- every step of the definition is one of these
  pub step : (spot : Spot) (byte : ℕ) → is_wrong (next_spot fewest spot byte) ≡ false → Step fewest spot byte (next_spot fewest spot byte)
  unfolding next_spot after_names after_return after_separator after_minus after_digits is_wrong
  step (Names i) byte h = from-names i byte _ _ refl refl h
  step (Header columns) byte h = from-header columns byte _ refl h
  step (Value columns left) byte h = from-value columns left byte _ _ refl refl h
  step (Minus columns left) byte h = from-minus columns left byte _ refl h
  step (Digits columns left negative size) byte h = from-digits columns left negative size byte _ _ _ refl refl refl h
  step (Row columns) byte h = from_row columns byte _ refl h
  step Wrong byte h = absurd (true≢false h)

-- ---- how many values and rows there are at each spot

abbrev pub InRow : ℕ → ℕ → ℕ → ℕ → Type 0
InRow columns left count rows = (1 ≤ left) × (left ≤ columns) × (columns ≤ 8) × (count + left ≡ rows * columns + columns)

abbrev pub Shape : Spot → ℕ → ℕ → Type 0
Shape (Names i) count rows = (i ≤ 23) × (count ≡ 0) × (rows ≡ 0)
Shape (Header columns) count rows = (1 ≤ columns) × (columns ≤ 8) × (count ≡ 0) × (rows ≡ 0)
Shape (Value columns left) count rows = InRow columns left count rows
Shape (Minus columns left) count rows = InRow columns left count rows
Shape (Digits columns left negative size) count rows = (size ≤ largest negative) × InRow columns left count rows
Shape (Row columns) count rows = (1 ≤ columns) × (columns ≤ 8) × (count ≡ rows * columns + columns)
Shape Wrong count rows = Unit

small : (byte : ℕ) → is_digit byte ≡ true → digit_of byte ≤ largest false
unfolding digit_of largest
small byte e = omega (arith, digit-size byte e)

small-below : (byte : ℕ) → is_digit byte ≡ true → digit_of byte ≤ largest true
unfolding digit_of largest
small-below byte e = omega (arith, digit-size byte e)

no_rows : (rows columns : ℕ) → rows ≡ 0 → rows * columns ≡ 0
no_rows rows columns z = ap (λ (r : ℕ). r * columns) z ∙ zero-mul columns

-- CR and the comma are no digits
pub return-ends : (byte : ℕ) → byte ≡ 13 → is_digit byte ≡ false
unfolding is_digit
return-ends byte e = rw e

pub comma-ends : (byte : ℕ) → byte ≡ 44 → is_digit byte ≡ false
unfolding is_digit
comma-ends byte e = rw e

pub shape-next : {fewest : ℕ} {spot : Spot} {byte : ℕ} {next : Spot} (count rows : ℕ) → Step fewest spot byte next → Shape spot count rows
    → Shape next (count + length (ended spot byte)) (rows + rows_ended spot)
unfolding ended rows_ended
shape-next count rows (name h e) s = omega arith
shape-next count rows (header e f h) s = omega arith
shape-next count rows (header-feed {columns} e) s = omega (arith, no_rows rows columns s.3)
shape-next count rows (minus e) s = omega arith
shape-next count rows (first {byte = byte} e) s = (small byte e, omega arith)
shape-next count rows (first_below {byte = byte} e h) s = (small-below byte e, omega arith)
shape-next count rows (more {negative = negative} {size} {byte} e) s =
    let m = more-is negative size byte e in
    rw m.digit (m.fits, omega arith)
shape-next count rows (last {byte = byte} f e) s = rw (return-ends byte e) (omega arith)
shape-next count rows (other {byte = byte} h e) s = rw (comma-ends byte e) (omega arith)
shape-next count rows (row-feed e) s = omega arith
