-- The longest text. Assumes nothing.
use Prim.Native.Nat.{ℕ, zero, suc, ◌+◌, ◌-◌, ◌*◌, ◌^◌, ◌≤◌}
use mathlib.Core.Path.{◌≡◌, refl}
use mathlib.Core.Bool.{Bool, true, false}
use mathlib.Core.List.{List, [], ◌∷◌}
use native.Mathlib.Omega.{arith}
use lib.IntN.{ℤ, negsuc}
use lib.ListN.{length, replicate, length-append, length-replicate}
use lib.Signed.{nat_abs-le}
use Rattle.plan.specs.Table.{Each}
use Rattle.value.specs.Range.{in_range, least, most}
use Rattle.value.specs.Pattern.{negative, magnitude_of}
use Rattle.value.proofs.Sizes.{in_size}
use Rattle.csv_text.specs.Text.{digits_of, digits, decimal, line, lines, text_of}
use Rattle.csv_table.specs.Propositions.{LongestText}
use Rattle.csv_writer.proofs.Cells.{header-length}
use Rattle.csv_writer.proofs.Digits.{few, minus-first, no_minus}

value-short : (v : ℤ) → in_range v ≡ true → length (decimal v) ≤ 16
unfolding magnitude_of
value-short v e = go (negative v) refl
  where
    size : magnitude_of v ≤ 2 ^ 47
    size = nat_abs-le v (in_size v e)

    short : length (digits (magnitude_of v)) ≤ 15
    short = few 14 (magnitude_of v) (omega (arith, size))

    go : (t : Bool) → negative v ≡ t → length (decimal v) ≤ 16
    go true f = rw (minus-first v f) (omega (arith, short))
    go false f = rw (no_minus v f) (omega (arith, short))

line-short : (row : List ℤ) → 1 ≤ length row → Each (λ v. in_range v ≡ true) row → length (line row) ≤ 17 * length row + 1
unfolding line
line-short [] h e = absurd (omega arith)
line-short (v ∷ []) h e = simp length-append (omega (arith, value-short v e.0))
line-short (v ∷ w ∷ row) h e = simp length-append (omega (arith, value-short v e.0, line-short (w ∷ row) (omega arith) e.1))

lines-short : (columns : ℕ) (rows : List (List ℤ)) → 1 ≤ columns → columns ≤ 8 → Each (λ row. length row ≡ columns) rows → Each (λ row. Each (λ v. in_range v ≡ true) row) rows
    → length (lines rows) ≤ 137 * length rows
unfolding lines
lines-short columns [] h k w e = omega arith
lines-short columns (row ∷ rows) h k w e =
    simp length-append (omega (arith, line-short row (omega (arith, w.0)) e.0, w.0, lines-short columns rows h k w.1 e.1))

abbrev widest : List ℤ
widest = replicate 8 (negsuc (2 ^ 47 - 1))

-- the one that meets the bound: 256 rows of 8 times −2^47
longest : List (List ℤ)
longest = replicate 256 widest

all_alike : {A : Type 0} (P : A → Type 0) (n : ℕ) (x : A) → P x → Each P (replicate n x)
all_alike P zero x p = tt
all_alike P (suc n) x p = (p, all_alike P n x p)

one_line : length (line widest) ≡ 137
unfolding line decimal digits digits_of negative magnitude_of
one_line = refl

lines-alike : (n : ℕ) (row : List ℤ) → length (lines (replicate n row)) ≡ n * length (line row)
unfolding lines
lines-alike zero row = omega arith
lines-alike (suc n) row = simp length-append (omega (arith, lines-alike n row))

pub longest-text : LongestText
unfolding text_of longest in_range least most
longest-text = (
  λ columns rows t n.
      simp length-append
      (omega (arith, header-length columns t.some t.most, lines-short columns rows t.some t.most t.wide t.values, t.most)),
  (
    longest,
    record {
      some = omega arith;
      most = omega arith;
      wide = all_alike (λ row. length row ≡ 8) 256 widest refl;
      values = all_alike (λ row. Each (λ v. in_range v ≡ true) row) 256 widest (all_alike (λ v. in_range v ≡ true) 8 (negsuc (2 ^ 47 - 1)) refl);
    },
    length-replicate 256 widest,
    simp length-append (omega (arith, header-length 8 (omega arith) (omega arith), lines-alike 256 widest, one_line)),
  ),
)
