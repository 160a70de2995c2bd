-- Laws of the words of a text, for the loops that read them. Assumes nothing.
use Rattle.std.proofs.Common.{◌≡◌, ℕ, zero, suc, ◌+◌, ◌<◌, ◌≤◌, List, [], ◌∷◌, length, get_or, drop, refl, add-one, arith, drop-cons}
use Rattle.step_trials.specs.Words.{with_digit, with_digits}
use Rattle.std.specs.Prelude.{Option, None}

pub digits_next : (base : ℕ) (number : Option ℕ) (word : List ℕ) (i : ℕ) → i < length word
    → with_digits base number (drop i word) ≡ with_digits base (with_digit base number (get_or word i 0)) (drop (i + 1) word)
unfolding with_digits
digits_next base number word i h = rw (add-one, drop-cons word i 0)

-- no number has no number with more digits
pub digits_none : (base : ℕ) (word : List ℕ) → with_digits base None word ≡ None
unfolding with_digits with_digit
digits_none base [] = refl
digits_none base (byte ∷ word) = digits_none base word

pub nothing_left : {A : Type 0} (l : List A) (n : ℕ) → length l ≤ n → drop n l ≡ []
nothing_left [] zero h = refl
nothing_left [] (suc n) h = refl
nothing_left (x ∷ l) zero h = absurd (omega arith)
nothing_left (x ∷ l) (suc n) h = nothing_left l n (omega arith)
