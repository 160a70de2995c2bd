-- Reading a table's text gives the table. Assumes nothing.
use Prim.Native.Nat.{ℕ, zero, suc, ◌+◌, ◌-◌, ◌*◌, ◌/◌, ◌%◌, ◌≤◌, ◌<◌}
use mathlib.Core.Path.{◌≡◌, refl, sym, ◌∙◌}
use mathlib.Core.Bool.{Bool, true, false, cond, false≢true}
use mathlib.Core.List.{List, [], ◌∷◌, ◌++◌, append-nil, append_assoc}
use native.Mathlib.Nat.{add-zero}
use native.Mathlib.Numerals.{add-one}
use native.Mathlib.Omega.{arith}
use lib.Dec.{eqb, ltb}
use lib.IntN.{ℤ, pos, negsuc}
use lib.ListN.{length, get_or, take, length-append}
use lib.Seq.{take-suc, take_at, drop_at}
use borrow.Author.Tests.{le-leb, lt-ltb, le-ltb, eq-eqb, ne_eqb}
use Rattle.plan.specs.Table.{Each}
use Rattle.value.specs.Range.{in_range}
use Rattle.value.specs.Pattern.{negative, magnitude_of}
use Rattle.value.proofs.Sizes.{in_size}
use Rattle.csv_text.specs.Text.{names, header, digits, decimal, line, lines, text_of, cut}
use Rattle.csv_reader.specs.Reader.{largest, is_digit, digit_of, value_of, after_names, after_return, after_separator, after_minus, after_digits, next_spot, ended, rows_ended, is_wrong, at_end, read_from}
use Rattle.csv_table.specs.Propositions.{TextReadsBack}
use Rattle.csv_reader.specs.promises.Reading.{concat}
use Rattle.csv_reader.specs.declared.spot.Spot.{Spot}
use Rattle.csv_reader.specs.declared.spot.Spot.TheVariants.{Names, Header, Value, Minus, Digits, Row}
use Rattle.csv_writer.proofs.Digits.{digits-one, digits_more, by_size, minus-first, no_minus}
use Rattle.csv_reader.proofs.Spots.{and-false, one-more, no_digit}
use Rattle.csv_reader.proofs.Reading.{read-on, few-columns}

-- ---- from one spot to another, whatever stands around

-- the bytes take a reader from one spot to another, with these values and rows more
pub record Goes (fewest : ℕ) (from to : Spot) (more : List ℤ) (rows_more : ℕ) (bytes : List ℕ) : Type 0 where
  pub goes : (values : List ℤ) (rows place : ℕ) (rest : List ℕ)
      → read_from fewest from values rows place (bytes ++ rest) ≡ read_from fewest to (values ++ more) (rows + rows_more) (place + length bytes) rest

pub then-goes : {fewest : ℕ} {a b c : Spot} {v w : List ℤ} {m n : ℕ} {x y : List ℕ} → Goes fewest a b v m x → Goes fewest b c w n y → Goes fewest a c (v ++ w) (m + n) (x ++ y)
then-goes {fewest} {a} {b} {c} {v} {w} {m} {n} {x} {y} g h = record {
  goes = λ values rows place rest.
      let p : place + length x + length y ≡ place + length (x ++ y) = simp length-append (omega arith) in
      let r : rows + m + n ≡ rows + (m + n) = omega arith in
      rw (append_assoc x y rest) (g.goes values rows place (y ++ rest) ∙ h.goes (values ++ v) (rows + m) (place + length x) rest ∙ rw (append_assoc values v w, p, r));
}

pub one-goes : (fewest : ℕ) (a b : Spot) (byte : ℕ) → next_spot fewest a byte ≡ b → is_wrong b ≡ false → Goes fewest a b (ended a byte) (rows_ended a) (byte ∷ [])
one-goes fewest a b byte e f = record {
  goes = λ values rows place rest. rw (← e, add-one place) (read-on fewest a values rows place byte rest (rw e f));
}

none-goes : (fewest : ℕ) (a : Spot) → Goes fewest a a [] 0 []
none-goes fewest a = record { goes = λ values rows place rest. rw (append-nil, add-zero rows, add-zero place) }

-- ---- the header

pub name-goes : (fewest j : ℕ) → j < 23 → Goes fewest (Names j) (Names (j + 1)) [] 0 (get_or names j 0 ∷ [])
unfolding next_spot after_names ended rows_ended is_wrong
name-goes fewest j h = one-goes fewest (Names j) (Names (j + 1)) (get_or names j 0) (rw (lt-ltb j 23 h, eq-eqb (get_or names j 0) (get_or names j 0) refl)) refl

names-goes : (fewest j : ℕ) → j ≤ 23 → Goes fewest (Names 0) (Names j) [] 0 (take j names)
names-goes fewest zero h = none-goes fewest (Names 0)
names-goes fewest (suc j) h =
    rw (take-suc names j 0 h) (then-goes (names-goes fewest j (omega arith)) (rw (add-one j) at (name-goes fewest j h)))

-- no CR stands in the names
without : List ℕ → Bool
without [] = true
without (x ∷ xs) = cond (eqb 13 x) false (without xs)

not_there : (xs : List ℕ) (i : ℕ) → without xs ≡ true → eqb 13 (get_or xs i 0) ≡ false
unfolding without
not_there [] i e = refl
not_there (x ∷ xs) zero e = go (eqb 13 x) e
  where
    go : (t : Bool) → cond t false (without xs) ≡ true → t ≡ false
    go true f = absurd (false≢true f)
    go false f = refl
not_there (x ∷ xs) (suc i) e = not_there xs i (go (eqb 13 x) e)
  where
    go : (t : Bool) → cond t false (without xs) ≡ true → without xs ≡ true
    go true f = absurd (false≢true f)
    go false f = f

pub return-goes : (fewest n : ℕ) → 1 ≤ n → n ≤ 8 → fewest ≤ n → Goes fewest (Names (3 * n - 1)) (Header n) [] 0 (13 ∷ [])
unfolding next_spot after_names ended rows_ended is_wrong without
return-goes fewest n h k l =
    let i = 3 * n - 1 in
    let r : i % 3 ≡ 2 = omega arith in
    let q : i / 3 + 1 ≡ n = omega arith in
    one-goes fewest (Names i) (Header n) 13 (rw (not_there names i refl, and-false (ltb i 23), r, q, le-leb fewest n l)) refl

pub feed-goes : (fewest n : ℕ) → Goes fewest (Header n) (Value n n) [] 0 (10 ∷ [])
unfolding next_spot after_return ended rows_ended is_wrong
feed-goes fewest n = one-goes fewest (Header n) (Value n n) 10 refl refl

header-goes : (fewest n : ℕ) → 1 ≤ n → n ≤ 8 → fewest ≤ n → Goes fewest (Names 0) (Value n n) [] 0 (header n)
unfolding header
header-goes fewest n h k l = then-goes (names-goes fewest (3 * n - 1) (omega arith)) (then-goes (return-goes fewest n h k l) (feed-goes fewest n))

-- ---- the digits

digit-byte : (s : ℕ) → s < 10 → (is_digit (48 + s) ≡ true) × (digit_of (48 + s) ≡ s)
unfolding is_digit digit_of
digit-byte s h = (rw (le-leb 48 (48 + s) (omega arith), le-leb (48 + s) 57 (omega arith)), omega arith)

module _ (fewest columns left : ℕ) (below : Bool) (a : Spot)
    (begin : (s : ℕ) → s < 10 → (below ≡ true → 0 < s) → Goes fewest a (Digits columns left below s) [] 0 ((48 + s) ∷ [])) where
  next-digit : (s byte : ℕ) → 0 < s → is_digit byte ≡ true → 10 * s + digit_of byte ≤ largest below
      → Goes fewest (Digits columns left below s) (Digits columns left below (10 * s + digit_of byte)) [] 0 (byte ∷ [])
  unfolding next_spot after_digits ended rows_ended is_wrong
  next-digit s byte h e k =
      rw e at (one-goes fewest (Digits columns left below s) (Digits columns left below (10 * s + digit_of byte)) byte (rw (one-more below s byte e h k)) refl)

  last-digit : (s : ℕ) → 10 ≤ s → s ≤ largest below → Goes fewest (Digits columns left below (s / 10)) (Digits columns left below s) [] 0 ((48 + s % 10) ∷ [])
  last-digit s b l =
      let d = digit-byte (s % 10) (omega arith) in
      let z : 10 * (s / 10) + digit_of (48 + s % 10) ≡ s = omega (arith, d.1) in
      rw z at (next-digit (s / 10) (48 + s % 10) (omega arith) d.0 (omega (arith, z)))

  digits-go : (k s : ℕ) → s ≤ k → s ≤ largest below → (below ≡ true → 0 < s) → Goes fewest a (Digits columns left below s) [] 0 (digits s)
  digits-go zero s h l n = rw (digits-one s (omega arith)) (begin s (omega arith) n)
  digits-go (suc k) s h l n =
      by_size s (λ b. rw (digits-one s b) (begin s b n))
      (λ b. rw (digits_more s b) (then-goes (digits-go k (s / 10) (omega arith) (omega arith) (λ e. omega arith)) (last-digit s b l)))

pub from-value : (fewest columns left s : ℕ) → s < 10 → Goes fewest (Value columns left) (Digits columns left false s) [] 0 ((48 + s) ∷ [])
unfolding next_spot after_separator ended rows_ended is_wrong
from-value fewest columns left s h =
    let d = digit-byte s h in
    one-goes fewest (Value columns left) (Digits columns left false s) (48 + s) (rw (ne_eqb (48 + s) 45 (λ e. omega arith), d.0, d.1)) refl

pub from-minus : (fewest columns left s : ℕ) → s < 10 → 0 < s → Goes fewest (Minus columns left) (Digits columns left true s) [] 0 ((48 + s) ∷ [])
unfolding next_spot after_minus ended rows_ended is_wrong
from-minus fewest columns left s h k =
    let d = digit-byte s h in
    one-goes fewest (Minus columns left) (Digits columns left true s) (48 + s) (rw (d.0, lt-ltb 48 (48 + s) (omega arith), d.1)) refl

minus-goes : (fewest columns left : ℕ) → Goes fewest (Value columns left) (Minus columns left) [] 0 (45 ∷ [])
unfolding next_spot after_separator ended rows_ended is_wrong
minus-goes fewest columns left = one-goes fewest (Value columns left) (Minus columns left) 45 refl refl

value-goes : {P : Type 0} (fewest columns left : ℕ) (v : ℤ) → in_range v ≡ true
    → ((below : Bool) (size : ℕ) → value_of below size ≡ v → Goes fewest (Value columns left) (Digits columns left below size) [] 0 (decimal v) → P) → P
unfolding value_of largest negative magnitude_of
value-goes fewest columns left (pos n) e f =
    f false n refl
    (rw (no_minus (pos n) (le-ltb n 0 (omega arith)))
    (digits-go fewest columns left false (Value columns left) (λ s h z. from-value fewest columns left s h) n n (omega arith) (omega (arith, in_size (pos n) e)) (λ z. absurd (false≢true z))))
value-goes fewest columns left (negsuc n) e f =
    f true (suc n) refl
    (rw (minus-first (negsuc n) refl)
    (then-goes (minus-goes fewest columns left)
    (digits-go fewest columns left true (Minus columns left) (λ s h z. from-minus fewest columns left s h (z refl)) (suc n) (suc n) (omega arith) (omega (arith, in_size (negsuc n) e)) (λ z. omega arith))))

-- ---- the separators

pub last_goes : (fewest columns left : ℕ) (below : Bool) (size : ℕ) → left ≡ 1 → Goes fewest (Digits columns left below size) (Row columns) (value_of below size ∷ []) 0 (13 ∷ [])
unfolding next_spot after_digits ended rows_ended is_wrong is_digit
last_goes fewest columns left below size e =
    one-goes fewest (Digits columns left below size) (Row columns) 13 (rw (no_digit below size 13 refl, eq-eqb left 1 e)) refl

pub other_goes : (fewest columns left : ℕ) (below : Bool) (size : ℕ) → 1 < left → Goes fewest (Digits columns left below size) (Value columns (left - 1)) (value_of below size ∷ []) 0 (44 ∷ [])
unfolding next_spot after_digits ended rows_ended is_wrong is_digit
other_goes fewest columns left below size h =
    one-goes fewest (Digits columns left below size) (Value columns (left - 1)) 44 (rw (no_digit below size 44 refl, ne_eqb left 1 (λ e. omega arith), lt-ltb 1 left h)) refl

pub row_goes : (fewest n : ℕ) → Goes fewest (Row n) (Value n n) [] 1 (10 ∷ [])
unfolding next_spot after_return ended rows_ended is_wrong
row_goes fewest n = one-goes fewest (Row n) (Value n n) 10 refl refl

-- ---- the rows

line-goes : (fewest columns left : ℕ) (row : List ℤ) → left ≡ length row → 1 ≤ left → Each (λ v. in_range v ≡ true) row → Goes fewest (Value columns left) (Value columns columns) row 1 (line row)
unfolding line
line-goes fewest columns left [] e h a = absurd (omega arith)
line-goes fewest columns left (v ∷ []) e h a =
    value-goes fewest columns left v a.0
    (λ below size f g. rw f at (then-goes g (then-goes (last_goes fewest columns left below size e) (row_goes fewest columns))))
line-goes fewest columns left (v ∷ w ∷ row) e h a =
    let r = line-goes fewest columns (left - 1) (w ∷ row) (omega arith) (omega arith) a.1 in
    value-goes fewest columns left v a.0
    (λ below size f g. rw f at (then-goes g (then-goes (other_goes fewest columns left below size (omega arith)) r)))

lines-goes : (fewest columns : ℕ) (rows : List (List ℤ)) → 1 ≤ columns → Each (λ row. length row ≡ columns) rows → Each (λ row. Each (λ v. in_range v ≡ true) row) rows
    → Goes fewest (Value columns columns) (Value columns columns) (concat rows) (length rows) (lines rows)
unfolding lines
lines-goes fewest columns [] h w a = none-goes fewest (Value columns columns)
lines-goes fewest columns (row ∷ rows) h w a =
    let z : 1 + length rows ≡ suc (length rows) = omega arith in
    rw z at (then-goes (line-goes fewest columns columns row (sym w.0) h a.0) (lines-goes fewest columns rows h w.1 a.1))

cut-concat : (columns : ℕ) (rows : List (List ℤ)) → Each (λ row. length row ≡ columns) rows → cut columns (length rows) (concat rows) ≡ rows
cut-concat columns [] w = refl
cut-concat columns (row ∷ rows) w =
    rw (take_at row (concat rows) columns w.0, drop_at row (concat rows) columns w.0, cut-concat columns rows w.1)

pub text-reads-back : TextReadsBack
unfolding text_of read_from at_end
text-reads-back fewest columns rows h t =
    let g = then-goes (header-goes fewest columns t.some t.most h) (lines-goes fewest columns rows t.some t.wide t.values) in
    let m = t.most in
    let r = g.goes [] 0 0 [] in
    let z : 0 + (0 + length rows) ≡ length rows = omega arith in
    rw (few-columns fewest (header columns ++ lines rows) (omega arith), ← append-nil (header columns ++ lines rows))
    (r ∙ rw (z, eq-eqb columns columns refl, cut-concat columns rows t.wide))
