-- A text that reads as a table is that table's text: each spot of a reader is led to by one list of bytes. Assumes nothing.
use Prim.Native.Nat.{ℕ, zero, suc, ◌+◌, ◌-◌, ◌*◌, ◌/◌, ◌%◌, ◌≤◌, ◌<◌}
use mathlib.Core.Path.{◌≡◌, refl, sym, ap, ◌∙◌}
use mathlib.Core.Bool.{Bool, true, false, cond, true≢false}
use mathlib.Core.List.{List, [], ◌∷◌, ◌++◌, append-nil, append_assoc}
use native.Mathlib.Nat.{zero-mul}
use native.Mathlib.Numerals.{add-one}
use native.Mathlib.Omega.{arith}
use lib.Dec.{eqb, leb}
use lib.IntN.{ℤ, pos, negsuc}
use lib.ListN.{length, take, drop, length-append, length-drop}
use lib.Seq.{take-suc, append_snoc, take_all, length-take-le}
use borrow.Author.Tests.{eqb-true, eqb-false, leb-true, leb-false, le-ltb}
use Rattle.plan.specs.Table.{Each}
use Rattle.value.specs.Range.{in_range}
use Rattle.value.specs.Pattern.{negative, magnitude_of}
use Rattle.value.proofs.Sizes.{size_in}
use Rattle.csv_text.specs.Text.{names, header, digits, decimal, text_of, cut}
use Rattle.csv_reader.specs.Reader.{Read, table, fails_at, largest, is_digit, digit_of, value_of, next_spot, ended, rows_ended, is_wrong, at_end, read_from, read_text}
use Rattle.csv_table.specs.Propositions.{IsTable, OneText}
use Rattle.csv_writer.specs.promises.Cells.{separator, spelled}
use Rattle.csv_reader.specs.declared.spot.Spot.{Spot}
use Rattle.csv_reader.specs.declared.spot.Spot.TheVariants.{Names, Header, Value, Minus, Digits, Row, Wrong}
use Rattle.csv_writer.proofs.Cells.{last-separator, other-separator, last-left, other-left, text-spelled}
use Rattle.csv_writer.proofs.Digits.{digits-one, digits_more}
use Rattle.csv_reader.proofs.Spots.{digit-size, more-is}
use Rattle.csv_reader.proofs.Steps.{Step, name, header as header-ended, header-feed, minus, first, first_below, more, last, other, row-feed, step, Shape, shape-next, return-ends, comma-ends}
use Rattle.csv_reader.proofs.Reading.{read-on, read-stops, few-columns, many-columns}

-- ---- one value more

snoc-step : (columns l next : ℕ) (u : ℤ) (vs : List ℤ) (v : ℤ) (t : List ℕ) → spelled columns next (vs ++ (v ∷ [])) ≡ spelled columns next vs ++ t
    → decimal u ++ (separator l ++ spelled columns next (vs ++ (v ∷ []))) ≡ (decimal u ++ (separator l ++ spelled columns next vs)) ++ t
snoc-step columns l next u vs v t e =
    rw (e, ← append_assoc (separator l) (spelled columns next vs) t) (sym (append_assoc (decimal u) (separator l ++ spelled columns next vs) t))

spelled-snoc : (columns l left k : ℕ) (vs : List ℤ) (v : ℤ) (b : Bool) → eqb l 1 ≡ b → 1 ≤ l → l ≤ columns → 1 ≤ left → left ≤ columns → length vs + left ≡ k * columns + l
    → spelled columns l (vs ++ (v ∷ [])) ≡ spelled columns l vs ++ (decimal v ++ separator left)
unfolding spelled
spelled-snoc columns l left zero [] v b q a c d f e =
    let z : l ≡ left = omega (arith, zero-mul columns) in
    rw z (ap (λ (t : List ℕ). decimal v ++ t) (append-nil (separator left)))
spelled-snoc columns l left (suc k) [] v b q a c d f e = absurd (omega arith)
spelled-snoc columns l left zero (u ∷ vs) v true q a c d f e = absurd (omega (arith, zero-mul columns, eqb-true l 1 q))
spelled-snoc columns l left (suc k) (u ∷ vs) v true q a c d f e =
    let one = eqb-true l 1 q in
    rw (last-left columns l one)
    (snoc-step columns l columns u vs v (decimal v ++ separator left)
    (spelled-snoc columns columns left k vs v (eqb columns 1) refl (omega arith) (omega arith) d f (omega arith)))
spelled-snoc columns l left zero (u ∷ vs) v false q a c d f e =
    let more = eqb-false l 1 q in
    rw (other-left columns l more)
    (snoc-step columns l (l - 1) u vs v (decimal v ++ separator left)
    (spelled-snoc columns (l - 1) left zero vs v (eqb (l - 1) 1) refl (omega arith) (omega arith) d f (omega arith)))
spelled-snoc columns l left (suc k) (u ∷ vs) v false q a c d f e =
    let more = eqb-false l 1 q in
    rw (other-left columns l more)
    (snoc-step columns l (l - 1) u vs v (decimal v ++ separator left)
    (spelled-snoc columns (l - 1) left (suc k) vs v (eqb (l - 1) 1) refl (omega arith) (omega arith) d f (omega arith)))

-- a value's bytes by its sign and size
signed : Bool → ℕ → List ℕ
signed negative size = cond negative (45 ∷ digits size) (digits size)

value-bytes : (below : Bool) (size : ℕ) → (below ≡ true → 0 < size) → decimal (value_of below size) ≡ signed below size
unfolding decimal value_of negative magnitude_of signed
value-bytes true zero h = absurd (omega (arith, h refl))
value-bytes true (suc n) h = refl
value-bytes false size h = rw (le-ltb size 0 (omega arith))

value-in-range : (below : Bool) (size : ℕ) → size ≤ largest below → in_range (value_of below size) ≡ true
unfolding value_of largest
value-in-range true zero h = size_in (pos 0) (omega arith)
value-in-range true (suc n) h = size_in (negsuc n) (omega arith)
value-in-range false size h = size_in (pos size) (omega arith)

-- ---- the bytes that lead to a spot, with the values so far

abbrev Led : ℕ → Spot → List ℤ → List ℕ → Type 0
Led fewest (Names i) vs p = (vs ≡ []) × (p ≡ take i names)
Led fewest (Header n) vs p = (fewest ≤ n) × (vs ≡ []) × (p ++ (10 ∷ []) ≡ header n)
Led fewest (Value n left) vs p = (fewest ≤ n) × (p ≡ header n ++ spelled n n vs)
Led fewest (Minus n left) vs p = (fewest ≤ n) × (p ≡ (header n ++ spelled n n vs) ++ (45 ∷ []))
Led fewest (Digits n left below size) vs p = (fewest ≤ n) × (below ≡ true → 0 < size) × (p ≡ (header n ++ spelled n n vs) ++ signed below size)
Led fewest (Row n) vs p = (fewest ≤ n) × (p ++ (10 ∷ []) ≡ header n ++ spelled n n vs)
Led fewest Wrong vs p = Unit

one_byte : (byte : ℕ) → is_digit byte ≡ true → digits (digit_of byte) ≡ byte ∷ []
unfolding digit_of
one_byte byte e =
    let h = digit-size byte e in
    let z : 48 + (byte - 48) ≡ byte = omega arith in
    digits-one (byte - 48) (omega arith) ∙ ap (λ (n : ℕ). n ∷ []) z

more_bytes : (size byte : ℕ) → 0 < size → is_digit byte ≡ true → digits (10 * size + digit_of byte) ≡ digits size ++ (byte ∷ [])
unfolding digit_of
more_bytes size byte h e =
    let k = digit-size byte e in
    let n = 10 * size + (byte - 48) in
    let q : n / 10 ≡ size = omega arith in
    let r : 48 + n % 10 ≡ byte = omega arith in
    digits_more n (omega arith) ∙ rw (q, r)

signed-more : (below : Bool) (size byte : ℕ) → 0 < size → is_digit byte ≡ true → signed below (10 * size + digit_of byte) ≡ signed below size ++ (byte ∷ [])
unfolding signed
signed-more true size byte h e = ap (λ (l : List ℕ). 45 ∷ l) (more_bytes size byte h e)
signed-more false size byte h e = more_bytes size byte h e

value-ended : (columns left rows : ℕ) (below : Bool) (size : ℕ) (vs : List ℤ) → 1 ≤ left → left ≤ columns → length vs + left ≡ rows * columns + columns → (below ≡ true → 0 < size)
    → header columns ++ spelled columns columns (vs ++ (value_of below size ∷ [])) ≡ ((header columns ++ spelled columns columns vs) ++ signed below size) ++ separator left
value-ended columns left rows below size vs a b e h =
    let s = spelled columns columns vs in
    rw (spelled-snoc columns columns left rows vs (value_of below size) (eqb columns 1) refl (omega arith) (omega arith) a b e, value-bytes below size h)
    (sym (append_assoc (header columns ++ s) (signed below size) (separator left) ∙ append_assoc (header columns) s (signed below size ++ separator left)))

small : (byte : ℕ) → 48 < byte → 0 < digit_of byte
unfolding digit_of
small byte h = omega arith

led-next : {fewest : ℕ} {spot : Spot} {byte : ℕ} {next : Spot} (rows : ℕ) (vs : List ℤ) (p : List ℕ) → Step fewest spot byte next → Shape spot (length vs) rows → Led fewest spot vs p
    → Led fewest next (vs ++ ended spot byte) (p ++ (byte ∷ []))
unfolding ended header signed spelled
led-next rows vs p (name {i} {byte} h e) s d =
    (append-nil vs ∙ d.0, rw (d.1, e, add-one i) (sym (take-suc names i 0 h)))
led-next rows vs p (header-ended {i} e f h) s d =
    let n : 3 * (i / 3 + 1) - 1 ≡ i = omega arith in
    (h, append-nil vs ∙ d.0, rw (d.1, e, n) (append_assoc (take i names) (13 ∷ []) (10 ∷ [])))
led-next rows vs p (header-feed e) s d = (d.0, rw (append-nil, d.1, e) (d.2 ∙ sym (append-nil _)))
led-next rows vs p (minus e) s d = (d.0, rw (append-nil, e, d.1))
led-next rows vs p (first {byte = byte} e) s d = (d.0, λ f. absurd (true≢false (sym f)), rw (append-nil, d.1, one_byte byte e))
led-next rows vs p (first_below {columns} {byte = byte} e h) s d = (d.0, λ f. small byte h, rw (append-nil, d.1, one_byte byte e) (append_assoc (header columns ++ spelled columns columns vs) (45 ∷ []) (byte ∷ [])))
led-next rows vs p (more {columns} {negative = below} {size} {byte} e) s d =
    let m = more-is below size byte e in
    (d.0, λ f. omega (arith, m.some), rw (m.digit, append-nil, d.2, signed-more below size byte m.some m.digit) (append_assoc (header columns ++ spelled columns columns vs) (signed below size) (byte ∷ [])))
led-next rows vs p (last {columns} {left} {negative = below} {size} {byte} f e) s d =
    (d.0, rw (return-ends byte e, value-ended columns left rows below size vs s.1.0 s.1.1 s.1.3 d.1, last-separator left f, d.2, e) (append_assoc ((header columns ++ spelled columns columns vs) ++ signed below size) (13 ∷ []) (10 ∷ [])))
led-next rows vs p (other {columns} {left} {negative = below} {size} {byte} h e) s d =
    let z : left ≡ 1 → ⊥ = λ f. omega arith in
    (d.0, rw (comma-ends byte e, value-ended columns left rows below size vs s.1.0 s.1.1 s.1.3 d.1, other-separator left z, d.2, e))
led-next rows vs p (row-feed e) s d = (d.0, rw (append-nil, e) d.1)

-- ---- values in range, and rows of one width

each_append : (vs ws : List ℤ) → Each (λ v. in_range v ≡ true) vs → Each (λ v. in_range v ≡ true) ws → Each (λ v. in_range v ≡ true) (vs ++ ws)
each_append [] ws a b = b
each_append (v ∷ vs) ws a b = (a.0, each_append vs ws a.1 b)

each_take : (n : ℕ) (vs : List ℤ) → Each (λ v. in_range v ≡ true) vs → Each (λ v. in_range v ≡ true) (take n vs)
each_take zero vs a = tt
each_take (suc n) [] a = tt
each_take (suc n) (v ∷ vs) a = (a.0, each_take n vs a.1)

each-drop : (n : ℕ) (vs : List ℤ) → Each (λ v. in_range v ≡ true) vs → Each (λ v. in_range v ≡ true) (drop n vs)
each-drop zero vs a = a
each-drop (suc n) [] a = tt
each-drop (suc n) (v ∷ vs) a = each-drop n vs a.1

each-cut : (columns rows : ℕ) (vs : List ℤ) → Each (λ v. in_range v ≡ true) vs → Each (λ row. Each (λ v. in_range v ≡ true) row) (cut columns rows vs)
each-cut columns zero vs a = tt
each-cut columns (suc rows) vs a = (each_take columns vs a, each-cut columns rows (drop columns vs) (each-drop columns vs a))

wide-cut : (columns rows : ℕ) (vs : List ℤ) → length vs ≡ rows * columns → Each (λ row. length row ≡ columns) (cut columns rows vs)
wide-cut columns zero vs e = tt
wide-cut columns (suc rows) vs e = (length-take-le columns vs (omega arith), wide-cut columns rows (drop columns vs) (simp length-drop (omega arith)))

ended-in-range : {fewest : ℕ} {spot : Spot} {byte : ℕ} {next : Spot} (count rows : ℕ) → Step fewest spot byte next → Shape spot count rows → Each (λ v. in_range v ≡ true) (ended spot byte)
unfolding ended
ended-in-range count rows (name h e) s = tt
ended-in-range count rows (header-ended e f h) s = tt
ended-in-range count rows (header-feed e) s = tt
ended-in-range count rows (minus e) s = tt
ended-in-range count rows (first e) s = tt
ended-in-range count rows (first_below e h) s = tt
ended-in-range count rows (more {negative = below} {size} {byte} e) s = rw (more-is below size byte e).digit tt
ended-in-range count rows (last {negative = below} {size} {byte} f e) s = rw (return-ends byte e) (value-in-range below size s.0, tt)
ended-in-range count rows (other {negative = below} {size} {byte} h e) s = rw (comma-ends byte e) (value-in-range below size s.0, tt)
ended-in-range count rows (row-feed e) s = tt

-- ---- the whole

abbrev Told : ℕ → Read → List ℕ → Type 0
Told fewest (table columns rows) bytes = (bytes ≡ text_of columns rows) × (fewest ≤ columns) × IsTable columns rows
Told fewest (fails_at place) bytes = Unit

told-end : (fewest : ℕ) (spot : Spot) (vs : List ℤ) (rows place : ℕ) (p : List ℕ) → Shape spot (length vs) rows → Led fewest spot vs p → Each (λ v. in_range v ≡ true) vs → Told fewest (at_end spot vs rows place) p
unfolding at_end
told-end fewest (Names i) vs rows place p s d a = tt
told-end fewest (Header columns) vs rows place p s d a = tt
told-end fewest (Value columns left) vs rows place p s d a = go (eqb left columns) refl
  where
    go : (t : Bool) → eqb left columns ≡ t → Told fewest (cond t (table columns (cut columns rows vs)) (fails_at place)) p
    go true e =
        let l : length vs ≡ rows * columns = omega (arith, eqb-true left columns e, s.3) in (
          d.1 ∙ sym (text-spelled columns rows vs (omega (arith, s.0, s.1)) (omega arith) ∙ ap (λ (w : List ℤ). header columns ++ spelled columns columns w) (take_all (rows * columns) vs (omega arith))),
          d.0,
          record { some = omega (arith, s.0, s.1); most = s.2; wide = wide-cut columns rows vs l; values = each-cut columns rows vs a },
        )
    go false e = tt
told-end fewest (Minus columns left) vs rows place p s d a = tt
told-end fewest (Digits columns left below size) vs rows place p s d a = tt
told-end fewest (Row columns) vs rows place p s d a = tt
told-end fewest Wrong vs rows place p s d a = tt

told : (fewest : ℕ) (bytes : List ℕ) (spot : Spot) (vs : List ℤ) (rows place : ℕ) (p : List ℕ) → Shape spot (length vs) rows → Led fewest spot vs p → Each (λ v. in_range v ≡ true) vs
    → Told fewest (read_from fewest spot vs rows place bytes) (p ++ bytes)
unfolding read_from
told fewest [] spot vs rows place p s d a = rw append-nil (told-end fewest spot vs rows place p s d a)
told fewest (byte ∷ bytes) spot vs rows place p s d a =
    go (is_wrong (next_spot fewest spot byte)) refl (λ next ws r q. told fewest bytes next ws r (suc place) q)
  where
    go : (t : Bool) → is_wrong (next_spot fewest spot byte) ≡ t
        → ((next : Spot) (ws : List ℤ) (r : ℕ) (q : List ℕ) → Shape next (length ws) r → Led fewest next ws q → Each (λ v. in_range v ≡ true) ws → Told fewest (read_from fewest next ws r (suc place) bytes) (q ++ bytes))
        → Told fewest (read_from fewest spot vs rows place (byte ∷ bytes)) (p ++ (byte ∷ bytes))
    go true e f = rw (read-stops fewest spot vs rows place byte bytes e) tt
    go false e f =
        let k = step fewest spot byte e in
        rw (read-on fewest spot vs rows place byte bytes e, ← append_snoc p byte bytes)
        (f (next_spot fewest spot byte) (vs ++ ended spot byte) (rows + rows_ended spot) (p ++ (byte ∷ [])) (rw length-append (shape-next (length vs) rows k s)) (led-next rows vs p k s d)
        (each_append vs (ended spot byte) a (ended-in-range (length vs) rows k s)))

pub one-text : OneText
one-text fewest columns rows bytes e = rw e at (go (leb fewest 8) refl)
  where
    go : (t : Bool) → leb fewest 8 ≡ t → Told fewest (read_text fewest bytes) bytes
    go true f = rw (few-columns fewest bytes (leb-true fewest 8 f)) (told fewest bytes (Names 0) [] 0 0 [] (omega arith, refl, refl) (refl, refl) tt)
    go false f = rw (many-columns fewest bytes (leb-false fewest 8 f)) tt
