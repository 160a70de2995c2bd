-- The list of the rows that lead groups. Assumes nothing.
use Prim.Native.Nat.{ℕ, ◌+◌, ◌≤◌, ◌<◌}
use mathlib.Core.Path.{◌≡◌, refl, sym, ◌∙◌}
use mathlib.Core.Bool.{Bool, true, false}
use mathlib.Core.List.{List}
use native.Mathlib.Omega.{arith}
use lib.Dec.{eqb}
use lib.ListN.{length, get_or, set}
use lib.Seq.{get_or-set_same, get_or-set_other}
use borrow.Author.Tests.{eqb-true, eqb-false}

-- the rows before one that lead groups are listed
pub record Listed (row : ℕ) (found leads : List ℕ) (count : ℕ) : Type 0 where
  pub few : count ≤ row
  pub below : (i : ℕ) → i < count → get_or leads i 0 < row
  pub lead : (i : ℕ) → i < count → get_or found (get_or leads i 0) 0 ≡ get_or leads i 0
  pub all : (other : ℕ) → other < row → get_or found other 0 ≡ other → (i : ℕ) × (i < count) × (get_or leads i 0 ≡ other)

module _ {row : ℕ} {found leads : List ℕ} {count : ℕ} (l : Listed row found leads count) (first : ℕ) (h : row < length found) where
  -- what stands beside the rows before is as it was
  kept : (other : ℕ) → other < row → get_or (set found row first) other 0 ≡ get_or found other 0
  kept other k = get_or-set_other found row other first 0 (λ (e : other ≡ row). omega arith)

  pub listed-passed : (first ≡ row → ⊥) → Listed (row + 1) (set found row first) leads count
  listed-passed n = record {
    few = omega (arith, l.few);
    below = λ i k. omega (arith, l.below i k);
    lead = λ i k. kept (get_or leads i 0) (l.below i k) ∙ l.lead i k;
    all = λ other k e. go other k e (eqb other row) refl;
  }
    where
      go : (other : ℕ) → other < row + 1 → get_or (set found row first) other 0 ≡ other → (b : Bool) → eqb other row ≡ b → (i : ℕ) × (i < count) × (get_or leads i 0 ≡ other)
      go other k e true t = let s : other ≡ row = eqb-true other row t in absurd (n (sym (get_or-set_same found row first 0 h) ∙ rw s at e))
      go other k e false t =
          let s = eqb-false other row t in
          let o : other < row = omega arith in
          l.all other o (sym (kept other o) ∙ e)

  module _ (is : first ≡ row) (room : count < length leads) where
    listed : (i : ℕ) → i < count → get_or (set leads count row) i 0 ≡ get_or leads i 0
    listed i k = get_or-set_other leads count i row 0 (λ (e : i ≡ count). omega arith)

    last : get_or (set leads count row) count 0 ≡ row
    last = get_or-set_same leads count row 0 room

    pub listed_more : Listed (row + 1) (set found row first) (set leads count row) (count + 1)
    listed_more = record {
      few = omega (arith, l.few);
      below = λ i k. below i k (eqb i count) refl;
      lead = λ i k. lead i k (eqb i count) refl;
      all = λ other k e. all other k e (eqb other row) refl;
    }
      where
        below : (i : ℕ) → i < count + 1 → (b : Bool) → eqb i count ≡ b → get_or (set leads count row) i 0 < row + 1
        below i k true t = rw (eqb-true i count t, last) (omega arith)
        below i k false t = let s = eqb-false i count t in let o : i < count = omega arith in rw (listed i o) (omega (arith, l.below i o))

        lead : (i : ℕ) → i < count + 1 → (b : Bool) → eqb i count ≡ b → get_or (set found row first) (get_or (set leads count row) i 0) 0 ≡ get_or (set leads count row) i 0
        lead i k true t = rw (eqb-true i count t, last) (get_or-set_same found row first 0 h ∙ is)
        lead i k false t = let s = eqb-false i count t in let o : i < count = omega arith in rw (listed i o) (kept (get_or leads i 0) (l.below i o) ∙ l.lead i o)

        all : (other : ℕ) → other < row + 1 → get_or (set found row first) other 0 ≡ other → (b : Bool) → eqb other row ≡ b → (i : ℕ) × (i < count + 1) × (get_or (set leads count row) i 0 ≡ other)
        all other k e true t = (count, omega arith, last ∙ sym (eqb-true other row t))
        all other k e false t =
            let s = eqb-false other row t in
            let o : other < row = omega arith in
            let w = l.all other o (sym (kept other o) ∙ e) in
            (w.0, omega (arith, w.1), listed w.0 w.1 ∙ w.2)

-- one number more
pub one-more : (P : ℕ → Type 0) (n : ℕ) → ((i : ℕ) → i < n → P i) → P n → (i : ℕ) → i < n + 1 → P i
one-more P n f p i h = go (eqb i n) refl
  where
    go : (b : Bool) → eqb i n ≡ b → P i
    go true t = rw (eqb-true i n t) p
    go false t = let s = eqb-false i n t in f i (omega arith)
