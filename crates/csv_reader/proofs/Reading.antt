-- A text read byte by byte. Assumes nothing.
use Prim.Native.Nat.{ℕ, zero, suc, ◌+◌, ◌*◌, ◌≤◌, ◌<◌}
use mathlib.Core.Path.{◌≡◌, refl, sym, ap, ◌∙◌}
use mathlib.Core.Bool.{Bool, true, false, cond}
use mathlib.Core.List.{List, [], ◌∷◌, ◌++◌, append-nil}
use native.Mathlib.Nat.{zero-mul}
use native.Mathlib.Numerals.{add-one}
use native.Mathlib.Omega.{arith}
use lib.Dec.{eqb, ltb}
use lib.IntN.{ℤ}
use lib.ListN.{length, get_or, take, drop, set, length-append, length-drop, take-append-drop, drop_of_length-le}
use lib.Seq.{take-nil, drop-cons, take_all, take-append-le, length-take-le}
use borrow.Author.Tests.{eqb-true, ltb-true, ltb-false, le-leb, lt-leb}
use Rattle.std.specs.Prelude.{Result, Ok, Err}
use Rattle.cells.specs.promises.Written.{Written}
use Rattle.cells.proofs.Written.{nothing_written, one_written, as_long}
use Rattle.csv_text.specs.Text.{cut}
use Rattle.csv_reader.specs.Reader.{Read, table, fails_at, is_digit, value_of, next_spot, ended, rows_ended, is_wrong, at_end, read_from, read_text}
use Rattle.csv_reader.specs.promises.Reading.{concat, reading_of, values_after, stored, size_fits, pass_end, Passed}
use Rattle.csv_reader.specs.declared.read.Counts.{Counts}
use Rattle.csv_reader.specs.declared.read.ReadingError.{ReadingError}
use Rattle.csv_reader.specs.declared.read.ReadingError.TheVariants as reading
use Rattle.csv_reader.specs.declared.read.TextTable.{TextTable}
use Rattle.csv_reader.specs.declared.spot.Spot.{Spot}
use Rattle.csv_reader.specs.declared.spot.Spot.TheVariants.{Names, Header, Value, Minus, Digits, Row, Wrong}
use Rattle.csv_reader.proofs.Spots.{largest-most}
use Rattle.csv_reader.proofs.Steps.{step, Shape, shape-next}

-- ---- one byte

module _ (fewest : ℕ) (at : Spot) (values : List ℤ) (rows place byte : ℕ) (bytes : List ℕ) where
  pub read-on : is_wrong (next_spot fewest at byte) ≡ false
      → read_from fewest at values rows place (byte ∷ bytes) ≡ read_from fewest (next_spot fewest at byte) (values ++ ended at byte) (rows + rows_ended at) (suc place) bytes
  unfolding read_from
  read-on e = rw (e, read_from)

  pub read-stops : is_wrong (next_spot fewest at byte) ≡ true → read_from fewest at values rows place (byte ∷ bytes) ≡ fails_at place
  unfolding read_from
  read-stops e = rw (e, read_from)

-- ---- the values so far, of which the first are written

one_at_most : (spot : Spot) (byte : ℕ) → length (ended spot byte) ≤ 1
unfolding ended
one_at_most (Names i) byte = omega arith
one_at_most (Header columns) byte = omega arith
one_at_most (Value columns left) byte = omega arith
one_at_most (Minus columns left) byte = omega arith
one_at_most (Digits columns left negative size) byte = go (is_digit byte)
  where
    go : (t : Bool) → length (cond t [] (value_of negative size ∷ [])) ≤ 1
    go true = omega arith
    go false = omega arith
one_at_most (Row columns) byte = omega arith
one_at_most Wrong byte = omega arith

one-row : (spot : Spot) → rows_ended spot ≤ 1
unfolding rows_ended
one-row (Names i) = omega arith
one-row (Header columns) = omega arith
one-row (Value columns left) = omega arith
one-row (Minus columns left) = omega arith
one-row (Digits columns left negative size) = omega arith
one-row (Row columns) = omega arith
one-row Wrong = omega arith

next-stored : {old new : List ℤ} (values : List ℤ) (count : ℕ) (more : List ℤ) → length more ≤ 1 → count ≡ length values → Written old 0 (take (length old) values) new
    → Written old 0 (take (length old) (values ++ more)) (stored count more new)
next-stored values count [] h e w = rw append-nil w
next-stored {old} {new} values count (v ∷ []) h e w = go (ltb count (length new)) refl
  where
    room : ℕ
    room = length old

    go : (t : Bool) → ltb count (length new) ≡ t → Written old 0 (take room (values ++ (v ∷ []))) (cond t (set new count v) new)
    go true f =
        let l = ltb-true count (length new) f in
        let m = as_long w in
        let a : take room (values ++ (v ∷ [])) ≡ values ++ (v ∷ []) = take_all room (values ++ (v ∷ [])) (simp length-append (omega arith)) in
        let b : take room values ≡ values = take_all room values (omega arith) in
        let k : count ≡ 0 + length values = omega arith in
        rw (a, k) (one_written (rw b at w) v (omega arith))
    go false f = let l = ltb-false count (length new) f in let m = as_long w in rw (take-append-le room values (v ∷ []) (omega arith)) w
next-stored values count (v ∷ u ∷ more) h e w = absurd (omega arith)

-- ---- the loop

pub record Reads (text : List ℕ) (fewest : ℕ) (old new : List ℤ) (spot : Spot) (count rows i : ℕ) : Type 0 where
  pub values : List ℤ
  pub inside : i ≤ length text
  pub counted : count ≡ length values
  pub few : count ≤ i
  pub few-rows : rows ≤ i
  pub shape : Shape spot count rows
  pub same : read_from fewest (Names 0) [] 0 0 text ≡ read_from fewest spot values rows i (drop i text)
  pub written : Written old 0 (take (length old) values) new

pub reads-begins : (text : List ℕ) (fewest : ℕ) (old : List ℤ) → Reads text fewest old old (Names 0) 0 0 0
reads-begins text fewest old = record {
  values = [];
  inside = omega arith;
  counted = refl;
  few = omega arith;
  few-rows = omega arith;
  shape = (omega arith, refl, refl);
  same = refl;
  written = rw (take-nil (length old)) (nothing_written old 0 (omega arith));
}

shape_size : (spot : Spot) (count rows : ℕ) → Shape spot count rows → size_fits spot
shape_size (Names i) count rows s = tt
shape_size (Header columns) count rows s = tt
shape_size (Value columns left) count rows s = tt
shape_size (Minus columns left) count rows s = tt
shape_size (Digits columns left negative size) count rows s = omega (arith, s.0, largest-most negative)
shape_size (Row columns) count rows s = tt
shape_size Wrong count rows s = tt

module _ {text : List ℕ} {fewest : ℕ} {old new : List ℤ} {spot : Spot} {count rows i : ℕ} (s : Reads text fewest old new spot count rows i) where
  pub reads-size : size_fits spot
  reads-size = shape_size spot count rows s.shape

  byte-there : {byte : ℕ} → i < length text → byte ≡ get_or text i 0 → drop i text ≡ byte ∷ drop (suc i) text
  byte-there h e = rw e (drop-cons text i 0 h)

  pub reads-next : {then : Spot} {byte count' rows' : ℕ} {new' : List ℤ} → i < length text → byte ≡ get_or text i 0 → then ≡ next_spot fewest spot byte
      → is_wrong then ≡ false → count' ≡ count + length (ended spot byte) → new' ≡ stored count (ended spot byte) new → rows' ≡ rows_ended spot
      → Reads text fewest old new' then count' (rows + rows') (i + 1)
  reads-next {then} {byte} h e t g c n w =
      let going : is_wrong (next_spot fewest spot byte) ≡ false = rw t at g in
      let k = s.counted in
      let one = one_at_most spot byte in
      let row = one-row spot in
      record {
        values = s.values ++ ended spot byte;
        inside = omega arith;
        counted = c ∙ simp length-append (omega arith);
        few = omega (arith, s.few);
        few-rows = omega (arith, s.few-rows);
        shape = rw (t, c, w) (shape-next count rows (step fewest spot byte going) s.shape);
        same = rw (t, w, add-one) (s.same ∙ ap (read_from fewest spot s.values rows i) (byte-there h e) ∙ read-on fewest spot s.values rows i byte (drop (suc i) text) going);
        written = rw n (next-stored s.values count (ended spot byte) one k s.written);
      }

  pub reads-stops : {then : Spot} {byte : ℕ} → i < length text → byte ≡ get_or text i 0 → then ≡ next_spot fewest spot byte → is_wrong then ≡ true
      → Passed (read_from fewest (Names 0) [] 0 0 text) old (Err (reading.Wrong i)) new
  reads-stops {then} {byte} h e t g =
      (s.values, s.same ∙ ap (read_from fewest spot s.values rows i) (byte-there h e) ∙ read-stops fewest spot s.values rows i byte (drop (suc i) text) (rw t at g), s.written)

ends_at : (spot : Spot) {read : Read} {old new : List ℤ} (values : List ℤ) (count rows i : ℕ) → Shape spot count rows → count ≡ length values → read ≡ at_end spot values rows i
    → Written old 0 (take (length old) values) new → Passed read old (pass_end spot rows count i) new
unfolding at_end
ends_at (Names k) values count rows i s c e w = (values, e, w)
ends_at (Header columns) values count rows i s c e w = (values, e, w)
ends_at (Value columns left) {read} {old} {new} values count rows i s c e w = go (eqb left columns) refl e
  where
    go : (t : Bool) → eqb left columns ≡ t → read ≡ cond t (table columns (cut columns rows values)) (fails_at i) → Passed read old (cond t (Ok (record { columns = columns; rows = rows; count = count })) (Err (reading.Wrong i))) new
    go true f g = (values, g, omega (arith, eqb-true left columns f, s.3), c, w)
    go false f g = (values, g, w)
ends_at (Minus columns left) values count rows i s c e w = (values, e, w)
ends_at (Digits columns left negative size) values count rows i s c e w = (values, e, w)
ends_at (Row columns) values count rows i s c e w = (values, e, w)
ends_at Wrong values count rows i s c e w = (values, e, w)

pub reads-ends : {text : List ℕ} {fewest : ℕ} {old new : List ℤ} {spot : Spot} {count rows i : ℕ} → Reads text fewest old new spot count rows i → length text ≤ i
    → Passed (read_from fewest (Names 0) [] 0 0 text) old (pass_end spot rows count i) new
unfolding read_from
reads-ends {text} {fewest} {spot = spot} {count} {rows} {i} s h =
    ends_at spot s.values count rows i s.shape s.counted (s.same ∙ ap (read_from fewest spot s.values rows i) (drop_of_length-le text {i = i} h)) s.written

-- ---- the two passes

concat-cut : (columns rows : ℕ) (values : List ℤ) → length values ≡ rows * columns → concat (cut columns rows values) ≡ values
concat-cut columns zero [] e = refl
concat-cut columns zero (v ∷ values) e = absurd (omega (arith, e, zero-mul columns))
concat-cut columns (suc rows) values e =
    ap (λ (l : List ℤ). take columns values ++ l) (concat-cut columns rows (drop columns values) (simp length-drop (omega arith))) ∙ take-append-drop columns values

cut-length : (columns rows : ℕ) (values : List ℤ) → length (cut columns rows values) ≡ rows
cut-length columns zero values = refl
cut-length columns (suc rows) values = ap suc (cut-length columns rows (drop columns values))

-- what was read, without its rows
values_read : Read → List ℤ
values_read (table columns rows) = concat rows
values_read (fails_at place) = []

abbrev pub Answers : Read → List ℤ → Result TextTable ReadingError → List ℤ → Type 0
Answers read old answer new = (answer ≡ reading_of read (length old)) × (new ≡ values_after read old)

-- the first pass is lent the slice's empty beginning, so it writes nothing
pub fails-first : (read : Read) (old mid : List ℤ) (error : ReadingError) → Passed read [] (Err error) mid → Answers read old (Err error) (mid ++ old)
fails-first read old mid (reading.Wrong place) p = rw (p.1, p.2.is) (refl, refl)
fails-first read old mid reading.DoesNotFit p = absurd p

module _ {read : Read} {mid : List ℤ} where
  module _ (columns rows count : ℕ) (p : Passed read [] (Ok (record { columns = columns; rows = rows; count = count })) mid) where
    none-first : mid ≡ []
    none-first = p.4.is

    all-together : concat (cut columns rows p.0) ≡ p.0
    all-together = concat-cut columns rows p.0 p.2

    pub no_room : (old : List ℤ) → length (mid ++ old) < count → Answers read old (Err reading.DoesNotFit) (mid ++ old)
    no_room old i =
        let h : length old < count = rw none-first at i in
        let l : length old < length (concat (cut columns rows p.0)) = rw all-together (omega (arith, p.3)) in
        rw (p.1, lt-leb (length (concat (cut columns rows p.0))) (length old) l, none-first) (refl, refl)

    -- the second pass is lent as many values as the first one counts
    same-values : (old new : List ℤ) (again : Result Counts ReadingError) → count ≤ length old → Passed read (take count old) again new → new ≡ p.0
    unfolding values_read
    same-values old new (Ok found) h q =
        let v : q.0 ≡ p.0 = sym (concat-cut found.columns found.rows q.0 q.2) ∙ ap values_read (sym q.1 ∙ p.1) ∙ all-together in
        let n : length (take count old) ≡ count = length-take-le count old h in
        let t : take count q.0 ≡ p.0 = ap (take count) v ∙ take_all count p.0 (omega (arith, p.3)) in
        let z : drop (0 + length p.0) (take count old) ≡ [] = drop_of_length-le (take count old) {i = 0 + length p.0} (omega (arith, p.3)) in
        rw (n, t, z, append-nil) at q.4.is
    same-values old new (Err (reading.Wrong place)) h q = let z : ◌≡◌ {A = ℕ} 0 1 = cc (p.1, q.1) in absurd (omega arith)
    same-values old new (Err reading.DoesNotFit) h q = absurd q

    pub all_read : (old new : List ℤ) (again : Result Counts ReadingError) → count ≤ length (mid ++ old) → Passed read (take count (mid ++ old)) again new
        → Answers read old (Ok (record { columns = columns; rows = rows })) (new ++ drop count (mid ++ old))
    all_read old new again i r =
        let h : count ≤ length old = rw none-first at i in
        let q : Passed read (take count old) again new = rw none-first at r in
        let l : length (concat (cut columns rows p.0)) ≤ length old = rw all-together (omega (arith, p.3)) in
        rw (p.1, le-leb (length (concat (cut columns rows p.0))) (length old) l, cut-length columns rows p.0, all-together, same-values old new again h q, none-first, p.3) (refl, refl)

-- no text has more than 8 columns
pub few-columns : (fewest : ℕ) (text : List ℕ) → fewest ≤ 8 → read_text fewest text ≡ read_from fewest (Names 0) [] 0 0 text
unfolding read_text
few-columns fewest text h = rw (le-leb fewest 8 h)

pub many-columns : (fewest : ℕ) (text : List ℕ) → 8 < fewest → read_text fewest text ≡ fails_at 0
unfolding read_text
many-columns fewest text h = rw (lt-leb fewest 8 h)
