-- The different marks of a group, counted by the numbers of their first rows. Assumes nothing.
use Prim.Native.Nat.{ℕ, zero, suc, ◌+◌, ◌-◌, ◌≤◌, ◌<◌}
use mathlib.Core.Path.{◌≡◌, refl, sym, ap, ap₂, ◌∙◌}
use mathlib.Core.Bool.{Bool, true, false, cond, ◌||◌}
use mathlib.Core.List.{List, [], ◌∷◌, map}
use native.Mathlib.Nat.{zero-add, add-zero, add_assoc}
use native.Mathlib.Omega.{arith}
use lib.Dec.{eqb}
use lib.ListN.{length, get_or, take, drop, set, replicate, length-append, length-take, length-map, length-set, length-replicate, get_or-replicate, drop_of_length-le}
use lib.Seq.{drop-cons, get_or-take, get_or-set_same, get_or-set_other, take_at, take_all}
use borrow.Author.Tests.{eq-eqb, ne_eqb, eqb-true, eqb-false}
use Rattle.chains.specs.promises.Chains.{FirstLed, Chain, Onward}
use Rattle.group.specs.promises.Members.{chosen, GroupSheets}
use Rattle.mark_numbers.specs.promises.Numbers.{first_same, first_of, firsts_from, numbers_at}
use Rattle.memory.specs.promises.Stack.{mark_part}
use Rattle.plan.specs.Group.{any_mark, distinct_after, distinct}
use Rattle.plan.specs.Table.{Each}
use Rattle.group.proofs.Choosing.{chosen-next, chosen-map, drop-map, each_chosen}
use Rattle.mark_numbers.proofs.Firsts.{first-mark, first-upto}
use Rattle.mark_numbers.proofs.RowNumbers.{numbers-is, number_at}
use Rattle.memory.proofs.Stacks.{marks-count}
use Rattle.plan.proofs.SenseEach.{each_at, each-drop}

-- ---- numbers that tell marks apart

-- numbers from which the marks can be read back are different where the marks are
module _ (f back : ℕ → ℕ) where
  tell : (x y : ℕ) → back (f x) ≡ x → back (f y) ≡ y → eqb (f x) (f y) ≡ eqb x y
  tell x y p q = by (eqb x y) refl
    where
      by : (b : Bool) → eqb x y ≡ b → eqb (f x) (f y) ≡ b
      by true e = eq-eqb (f x) (f y) (ap f (eqb-true x y e))
      by false e = ne_eqb (f x) (f y) (λ s. eqb-false x y e (sym p ∙ ap back s ∙ q))

  any_told : (x : ℕ) (seen : List ℕ) → back (f x) ≡ x → Each (λ y. back (f y) ≡ y) seen → any_mark (f x) (map f seen) ≡ any_mark x seen
  any_told x [] p e = refl
  any_told x (y ∷ seen) p e = ap₂ ◌||◌ (tell y x e.0 p) (any_told x seen p e.1)

  after-told : (seen marks : List ℕ) → Each (λ x. back (f x) ≡ x) seen → Each (λ x. back (f x) ≡ x) marks → distinct_after (map f seen) (map f marks) ≡ distinct_after seen marks
  after-told seen [] s e = refl
  after-told seen (mark ∷ rest) s e = ap₂ (λ (b : Bool) (n : ℕ). cond b 0 1 + n) (any_told mark seen e.0 s) (after-told (mark ∷ seen) rest (e.0, s) e.1)

  pub as-distinct : (marks : List ℕ) → Each (λ x. back (f x) ≡ x) marks → distinct (map f marks) ≡ distinct marks
  as-distinct marks e = after-told [] marks tt e

-- ---- the first row with a mark as its number

module _ (marks : List ℕ) (at rows : ℕ) (few : rows ≤ 256) (within : at + rows ≤ length marks) where
  abbrev own : List ℕ
  own = mark_part marks at rows

  as_many : length own ≡ rows
  as_many = marks-count marks at rows within

  abbrev first_row : ℕ → ℕ
  first_row mark = first_same mark own

  abbrev mark_of : ℕ → ℕ
  mark_of row = get_or own row 0

  firsts-are : (row n : ℕ) → row + n ≤ rows → firsts_from own row n ≡ map first_row (take n (drop row own))
  firsts-are row zero h = refl
  firsts-are row (suc n) h = rw (drop-cons own row 0 (omega (arith, as_many))) (ap (λ (l : List ℕ). first_of own row ∷ l) (firsts-are (suc row) n (omega arith)))

  all-firsts : firsts_from own 0 rows ≡ map first_row own
  all-firsts = firsts-are 0 rows (omega arith) ∙ ap (map first_row) (take_all rows own (omega (arith, as_many)))

  all-long : length (firsts_from own 0 rows) ≡ rows
  all-long = ap length all-firsts ∙ length-map own first_row ∙ as_many

  pub numbers-are : take rows (numbers_at marks at rows) ≡ map first_row own
  numbers-are = rw (numbers-is marks at rows few within) (take_at (firsts_from own 0 rows) _ rows all-long ∙ all-firsts)

  -- 256 numbers, each below 256
  pub numbers-long : length (numbers_at marks at rows) ≡ 256
  numbers-long = rw (numbers-is marks at rows few within) (length-append (firsts_from own 0 rows) _ ∙ omega (arith, all-long, length-replicate {A = ℕ} (256 - rows) 0))

  pub numbers-small : (row : ℕ) → row < rows → get_or (numbers_at marks at rows) row 0 < 256
  numbers-small row h = omega (arith, number_at marks at rows few within row h, first-upto own row (omega (arith, as_many)))

  told_back : Each (λ mark. mark_of (first_row mark) ≡ mark) own
  told_back = each_at (λ mark. mark_of (first_row mark) ≡ mark) own 0 (λ row h. first-mark own row h)

  -- the different numbers of some rows are as many as their different marks
  sheets-are : (row : ℕ) (leaders : List ℕ) → distinct (chosen row (drop row leaders) (drop row (take rows (numbers_at marks at rows)))) ≡ distinct (chosen row (drop row leaders) (drop row (mark_part marks at rows)))
  sheets-are row leaders =
      let some = drop row (mark_part marks at rows) in
      ap (λ (l : List ℕ). distinct (chosen row (drop row leaders) (drop row l))) numbers-are
      ∙ ap (λ (l : List ℕ). distinct (chosen row (drop row leaders) l)) (drop-map first_row row (mark_part marks at rows))
      ∙ ap distinct (chosen-map first_row row (drop row leaders) some)
      ∙ as-distinct first_row mark_of (chosen row (drop row leaders) some) (each_chosen _ row (drop row leaders) some (each-drop _ row (mark_part marks at rows) told_back))

  -- the same of what `find` and `group_sheets` answer
  pub sheets-told : {numbers : List ℕ} {sheets : ℕ} (row : ℕ) (leaders : List ℕ) → numbers ≡ numbers_at marks at rows → sheets ≡ distinct (chosen row (drop row leaders) (drop row (take rows numbers)))
      → sheets ≡ distinct (chosen row (drop row leaders) (drop row (mark_part marks at rows)))
  sheets-told row leaders is told = told ∙ ap (λ (l : List ℕ). distinct (chosen row (drop row leaders) (drop row (take rows l)))) is ∙ sheets-are row leaders

-- ---- the numbers seen so far

-- an array says which numbers were met
abbrev pub Seen : List Bool → List ℕ → Type 0
Seen seen met = (n : ℕ) → n < 256 → get_or seen n false ≡ any_mark n met

-- one number more
pub seen_more : (seen : List Bool) (met : List ℕ) (number : ℕ) → Seen seen met → length seen ≡ 256 → number < 256 → get_or seen number false ≡ false → Seen (set seen number true) (number ∷ met)
seen_more seen met number s long h new n k = by (eqb number n) refl
  where
    by : (b : Bool) → eqb number n ≡ b → get_or (set seen number true) n false ≡ (b || any_mark n met)
    by true e = let same = eqb-true number n e in ap (λ (i : ℕ). get_or (set seen number true) i false) (sym same) ∙ get_or-set_same seen number true false (omega (arith, long))
    by false e = get_or-set_other seen number n true false (λ f. eqb-false number n e (sym f)) ∙ s n k

pub seen-again : (seen : List Bool) (met : List ℕ) (number : ℕ) → Seen seen met → number < 256 → get_or seen number false ≡ true → Seen seen (number ∷ met)
seen-again seen met number s h old n k = by (eqb number n) refl
  where
    by : (b : Bool) → eqb number n ≡ b → get_or seen n false ≡ (b || any_mark n met)
    by true e = ap (λ (i : ℕ). get_or seen i false) (sym (eqb-true number n e)) ∙ old
    by false e = s n k

-- the members met so far, and those to come
pub record Counting (rows : ℕ) (numbers next : List ℕ) (row : ℕ) (seen : List Bool) (sheets other : ℕ) : Type 0 where
  pub upto : other ≤ rows
  pub few : sheets ≤ other
  pub long : length seen ≡ 256
  pub met : List ℕ
  pub is_seen : Seen seen met
  pub rest : (leaders : List ℕ) → Chain rows leaders next → get_or leaders row 0 ≡ row
      → (other < rows → get_or leaders other 0 ≡ row)
      × (distinct (chosen row (drop row leaders) (drop row (take rows numbers))) ≡ sheets + distinct_after met (chosen row (drop other leaders) (drop other (take rows numbers))))

module _ {rows : ℕ} {numbers next : List ℕ} {row : ℕ} (few-rows : rows ≤ 256) (h : row < rows) (long : length numbers ≡ 256) (onward : Onward rows next) where
  pub count-begins : Counting rows numbers next row (replicate 256 false) 0 row
  count-begins = record {
    upto = omega arith;
    few = omega arith;
    long = length-replicate {A = Bool} 256 false;
    met = [];
    is_seen = λ n k. get_or-replicate {A = Bool} 256 n false false k;
    rest = λ leaders chain e. (λ _. e, sym (zero-add _));
  }

  module _ {seen : List Bool} {sheets other : ℕ} (c : Counting rows numbers next row seen sheets other) (k : other < rows) (small : get_or numbers other 0 < 256) where
    taken : length (take rows numbers) ≡ rows
    taken = length-take rows numbers ∙ omega arith

    next-rest : (b : Bool) (now : ℕ) → now ≡ sheets + cond b 0 1 → any_mark (get_or numbers other 0) c.met ≡ b → (leaders : List ℕ) → Chain rows leaders next → get_or leaders row 0 ≡ row
        → (get_or next other 0 < rows → get_or leaders (get_or next other 0) 0 ≡ row)
        × (distinct (chosen row (drop row leaders) (drop row (take rows numbers))) ≡ now
        + distinct_after (get_or numbers other 0 ∷ c.met) (chosen row (drop (get_or next other 0) leaders) (drop (get_or next other 0) (take rows numbers))))
    next-rest b now is a leaders chain e =
        let before = c.rest leaders chain e in
        let led = before.0 k in
        let first : FirstLed rows leaders row (other + 1) (get_or next other 0) = rw led at (chain.each other k) in
        let later = chosen row (drop (get_or next other 0) leaders) (drop (get_or next other 0) (take rows numbers)) in
        let more = distinct_after (get_or numbers other 0 ∷ c.met) later in
        let here : chosen row (drop other leaders) (drop other (take rows numbers)) ≡ get_or numbers other 0 ∷ chosen row (drop (get_or next other 0) leaders) (drop (get_or next other 0) (take rows numbers))
        = chosen-next chain row (take rows numbers) 0 taken other k led
        ∙ ap (λ (n : ℕ). n ∷ chosen row (drop (get_or next other 0) leaders) (drop (get_or next other 0) (take rows numbers))) (get_or-take rows numbers other 0 k) in
        (first.led, before.1 ∙ ap (λ (l : List ℕ). sheets + distinct_after c.met l) here ∙ ap (λ (t : Bool). sheets + (cond t 0 1 + more)) a ∙ sym (add_assoc sheets (cond b 0 1) more) ∙ ap (λ (n : ℕ). n + more) (sym is))

    pub new-sheet : get_or seen (get_or numbers other 0) false ≡ false → Counting rows numbers next row (set seen (get_or numbers other 0) true) (sheets + 1) (get_or next other 0)
    new-sheet e = record {
      upto = onward.upto other k;
      few = omega (arith, c.few, onward.further other k);
      long = length-set seen (get_or numbers other 0) true ∙ c.long;
      met = get_or numbers other 0 ∷ c.met;
      is_seen = seen_more seen c.met (get_or numbers other 0) c.is_seen c.long small e;
      rest = next-rest false (sheets + 1) refl (sym (c.is_seen (get_or numbers other 0) small) ∙ e);
    }

    pub old-sheet : get_or seen (get_or numbers other 0) false ≡ true → Counting rows numbers next row seen sheets (get_or next other 0)
    old-sheet e = record {
      upto = onward.upto other k;
      few = omega (arith, c.few, onward.further other k);
      long = c.long;
      met = get_or numbers other 0 ∷ c.met;
      is_seen = seen-again seen c.met (get_or numbers other 0) c.is_seen small e;
      rest = next-rest true sheets (sym (add-zero sheets)) (sym (c.is_seen (get_or numbers other 0) small) ∙ e);
    }

pub all-counted : {rows : ℕ} {numbers next : List ℕ} {row : ℕ} {seen : List Bool} {sheets other : ℕ} → Counting rows numbers next row seen sheets other → rows ≤ other → GroupSheets rows numbers next row sheets
all-counted {rows} {numbers} {row = row} {sheets = sheets} {other = other} c h leaders chain e =
    let short : length (take rows numbers) ≤ other = omega (arith, length-take rows numbers) in
    let none : drop other (take rows numbers) ≡ [] = drop_of_length-le (take rows numbers) short in
    sym ((c.rest leaders chain e).1 ∙ ap (λ (l : List ℕ). sheets + distinct_after c.met (chosen row (drop other leaders) l)) none ∙ add-zero sheets)
