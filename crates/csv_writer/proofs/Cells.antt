-- A table's text, value by value. Assumes nothing.
use Prim.Native.Nat.{ℕ, zero, suc, ◌+◌, ◌-◌, ◌*◌, ◌≤◌, ◌<◌}
use mathlib.Core.Path.{◌≡◌, refl, sym, ap, ◌∙◌}
use mathlib.Core.Bool.{Bool, true, false}
use mathlib.Core.List.{List, [], ◌∷◌, ◌++◌, append_assoc}
use native.Mathlib.Nat.{zero-mul, mul-le-mul_right}
use native.Mathlib.Numerals.{add-one}
use native.Mathlib.Omega.{arith}
use lib.IntN.{ℤ, pos}
use lib.Dec.{eqb}
use lib.ListN.{length, get_or, take, drop, length-append, length-take, length-drop, drop_of_length-le}
use lib.Seq.{drop-cons, take-add, length-take-le}
use borrow.Author.Tests.{eq-eqb, ne_eqb, eqb-true, eqb-false}
use Rattle.cells.specs.promises.Search.{table_within}
use Rattle.cells.proofs.Searching.{within-table}
use Rattle.csv_text.specs.Text.{line_end, header, decimal, line, lines, text_of, cut}
use Rattle.csv_writer.specs.promises.Cells.{separator, next_left, spelled}

-- ---- the separators

pub last-separator : (left : ℕ) → left ≡ 1 → separator left ≡ line_end
unfolding separator
last-separator left e = rw (eq-eqb left 1 e)

pub other-separator : (left : ℕ) → (left ≡ 1 → ⊥) → separator left ≡ 44 ∷ []
unfolding separator
other-separator left h = rw (ne_eqb left 1 h)

pub last-left : (columns left : ℕ) → left ≡ 1 → next_left columns left ≡ columns
unfolding next_left
last-left columns left e = rw (eq-eqb left 1 e)

pub other-left : (columns left : ℕ) → (left ≡ 1 → ⊥) → next_left columns left ≡ left - 1
unfolding next_left
other-left columns left h = rw (ne_eqb left 1 h)

-- ---- a value, and what comes after it

pub next-value : (columns left : ℕ) (values : List ℤ) (i : ℕ) → i < length values
    → spelled columns left (drop i values)
    ≡ decimal (get_or values i (pos 0)) ++ (separator left ++ spelled columns (next_left columns left) (drop (i + 1) values))
unfolding spelled
next-value columns left values i h = rw (drop-cons values i (pos 0) h, add-one i)

-- ---- rows

row-spelled : (columns : ℕ) (row : List ℤ) (left : ℕ) (rest : List ℤ) → left ≡ length row → 1 ≤ left
    → spelled columns left (row ++ rest) ≡ line row ++ spelled columns columns rest
unfolding spelled line
row-spelled columns [] left rest e h = absurd (omega arith)
row-spelled columns (v ∷ []) left rest e h =
    rw (last-separator left e, last-left columns left e) (sym (append_assoc (decimal v) line_end (spelled columns columns rest)))
row-spelled columns (v ∷ w ∷ vs) left rest e h =
    let more : left ≡ 1 → ⊥ = λ z. omega arith in
    rw (other-separator left more, other-left columns left more, row-spelled columns (w ∷ vs) (left - 1) rest (omega arith) (omega arith))
    (sym (append_assoc (decimal v) (44 ∷ line (w ∷ vs)) (spelled columns columns rest)))

pub rows-spelled : (columns rows : ℕ) (values : List ℤ) → 1 ≤ columns → rows * columns ≤ length values
    → lines (cut columns rows values) ≡ spelled columns columns (take (rows * columns) values)
unfolding spelled lines
rows-spelled columns zero values h k = rw zero-mul
rows-spelled columns (suc rows) values h k =
    let s : suc rows * columns ≡ columns + rows * columns = omega arith in
    let l : length (take columns values) ≡ columns = length-take-le columns values (omega arith) in
    ap (λ (t : List ℕ). line (take columns values) ++ t) (rows-spelled columns rows (drop columns values) h (simp length-drop (omega arith)))
    ∙ sym (row-spelled columns (take columns values) columns (take (rows * columns) (drop columns values)) (sym l) h)
    ∙ ap (spelled columns columns) (sym (take-add columns (rows * columns) values) ∙ ap (λ (n : ℕ). take n values) (sym s))

-- ---- what stands before the rows

pub header-length : (columns : ℕ) → 1 ≤ columns → columns ≤ 8 → length (header columns) ≡ 3 * columns + 1
unfolding header
header-length columns h k = simp (length-append, length-take) (omega arith)

pub text-spelled : (columns rows : ℕ) (values : List ℤ) → 1 ≤ columns → rows * columns ≤ length values
    → text_of columns (cut columns rows values) ≡ header columns ++ spelled columns columns (take (rows * columns) values)
unfolding text_of
text-spelled columns rows values h k = rw (rows-spelled columns rows values h k)

pub text-length : (columns rows : ℕ) (values : List ℤ) → 1 ≤ columns → columns ≤ 8 → rows * columns ≤ length values
    → length (text_of columns (cut columns rows values)) ≡ 3 * columns + 1 + length (spelled columns columns (take (rows * columns) values))
text-length columns rows values h k l = rw (text-spelled columns rows values h l, length-append) (omega (arith, header-length columns h k))

pub left-stays : (columns left : ℕ) → 1 ≤ columns → 1 ≤ left → 1 ≤ next_left columns left
left-stays columns left h k = go (eqb left 1) refl
  where
    go : (t : Bool) → eqb left 1 ≡ t → 1 ≤ next_left columns left
    go true e = rw (last-left columns left (eqb-true left 1 e)) h
    go false e = let more : left ≡ 1 → ⊥ = eqb-false left 1 e in rw (other-left columns left more) (omega arith)

-- what the test of a table says
pub table-fits : (rows columns n : ℕ) → table_within 0 rows columns n ≡ true → (rows * columns ≤ 2048) × (columns ≤ 8) × (rows * columns ≤ n)
table-fits rows columns n e =
    let t = within-table 0 rows columns n e in
    (omega (arith, mul-le-mul_right columns t.0, t.1), t.1, omega (arith, t.2))

-- ---- a loop over the values: what is left of the text, by its length or as it is

pub next-counted : (columns left : ℕ) (values : List ℤ) (i total bytes : ℕ) {v s next : ℕ} → i < length values
    → total ≡ bytes + length (spelled columns left (drop i values)) → v ≡ length (decimal (get_or values i (pos 0))) → s ≡ length (separator left)
    → next ≡ next_left columns left → total ≡ bytes + (v + s) + length (spelled columns next (drop (i + 1) values))
next-counted columns left values i total bytes h e ve se ne =
    let m = simp length-append at (ap length (next-value columns left values i h)) in
    rw ne (omega arith)

pub none_left : (columns left : ℕ) (values : List ℤ) (i : ℕ) → length values ≤ i → spelled columns left (drop i values) ≡ []
unfolding spelled
none_left columns left values i h =
    let e : drop i values ≡ [] = drop_of_length-le values {i = i} h in
    rw e
