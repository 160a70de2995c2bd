-- A number is read in two parts, and is 0 past the end. Assumes nothing.
use Prim.Native.Nat.{ℕ, zero, suc, ◌+◌, ◌-◌, ◌*◌, ◌^◌, ◌≤◌}
use mathlib.Core.Path.{◌≡◌, refl, sym, ap, ◌∙◌}
use mathlib.Core.List.{List, [], ◌∷◌}
use native.Mathlib.Nat.{zero-add, suc-add, pow-zero, pow-suc, one-mul, mul-zero, mul_assoc, mul_comm, min-le_left, add-sub_cancel_left}
use native.Mathlib.Numerals.{add-one}
use native.Mathlib.Omega.{arith}
use lib.ListN.{length, get_or, take, drop, drop_of_length-le, length-take}
use lib.Seq.{take-nil, take_all, drop-drop}
use Rattle.std.specs.Array.{IsFirstChunk}
use Rattle.std.specs.Int.{sum_through, byte_worth}
use Rattle.little_endian.specs.Bytes.{little_endian, number_at, byte_at}

one_byte : (l : List ℕ) (at : ℕ) → little_endian (take 1 (drop at l)) ≡ get_or l at 0
one_byte [] zero = refl
one_byte [] (suc at) = refl
one_byte (x ∷ l) zero = omega arith
one_byte (x ∷ l) (suc at) = one_byte l at

-- a byte is a number of one byte
pub number-one : (bytes : List ℕ) (at : ℕ) {x : ℕ} → x ≡ byte_at bytes at → x ≡ number_at bytes at 1
unfolding number_at
number-one bytes at e = e ∙ sym (one_byte bytes at)

parts : (m n : ℕ) (l : List ℕ) → little_endian (take (m + n) l) ≡ little_endian (take m l) + 256 ^ m * little_endian (take n (drop m l))
parts zero n l = rw (zero-add n, pow-zero, one-mul, zero-add)
parts (suc m) n [] = rw (suc-add, take-nil, mul-zero)
parts (suc m) n (x ∷ l) =
    let e : 256 ^ suc m * little_endian (take n (drop m l)) ≡ 256 * (256 ^ m * little_endian (take n (drop m l))) = rw (pow-suc, mul_comm (256 ^ m) 256, mul_assoc) in
    rw (suc-add) (omega (arith, parts m n l, e))

-- the number of so many bytes and of those after them makes the number of them all
pub joined : (bytes : List ℕ) (at m n : ℕ) {x y : ℕ} → x ≡ number_at bytes at m → y ≡ number_at bytes (at + m) n → x + 256 ^ m * y ≡ number_at bytes at (m + n)
unfolding number_at
joined bytes at m n e f = rw (e, f, ← drop-drop m at bytes) (sym (parts m n (drop at bytes)))

sum_of_bytes : (l : List ℕ) (n : ℕ) → sum_through (λ i. byte_worth i (get_or l i 0)) n ≡ little_endian (take (suc n) l)
sum_of_bytes l zero = sym (one_byte l zero)
sum_of_bytes l (suc n) =
    let last : byte_worth (suc n) (get_or l (suc n) 0) ≡ 256 ^ suc n * little_endian (take 1 (drop (suc n) l)) = rw (one_byte l (suc n)) (mul_comm (get_or l (suc n) 0) (256 ^ suc n)) in
    rw (← add-one (suc n), parts (suc n) 1 l, sum_of_bytes l n, last)

-- the library's number of the bytes of a chunk is the number at its place
pub of_chunk : (bytes : List ℕ) (at n : ℕ) {chunk : List ℕ} → IsFirstChunk (drop at bytes) chunk (suc n) → sum_through (λ i. byte_worth i (get_or chunk i 0)) n ≡ number_at bytes at (suc n)
unfolding number_at
of_chunk bytes at n {chunk = chunk} is =
    let whole : length chunk ≤ suc n = rw (is.same, length-take (suc n) (drop at bytes)) (min-le_left (suc n) (length (drop at bytes))) in
    sum_of_bytes chunk n ∙ ap little_endian (take_all (suc n) chunk whole ∙ is.same)

-- past the end there is nothing to read
pub past_end : (bytes : List ℕ) (at width : ℕ) → length bytes ≤ at → 0 ≡ number_at bytes at width
unfolding number_at
past_end bytes at width h = rw (drop_of_length-le bytes h, take-nil width)

-- the number at the start of the bytes from a place on is the number at the place
pub in_rest : (bytes : List ℕ) (at width : ℕ) {there : List ℕ} → there ≡ drop at bytes → number_at there 0 width ≡ number_at bytes at width
unfolding number_at
in_rest bytes at width e = ap (λ (l : List ℕ). little_endian (take width l)) e

-- the number of the part from a place to the end of its bytes is the number at the place
pub of_part : (bytes : List ℕ) (at width : ℕ) → number_at (take (at + width - at) (drop at bytes)) 0 width ≡ number_at bytes at width
unfolding number_at
of_part bytes at width =
    rw (add-sub_cancel_left at width)
    (ap little_endian (take_all width (take width (drop at bytes)) (rw (length-take width (drop at bytes)) (min-le_left width (length (drop at bytes))))))
