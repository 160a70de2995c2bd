-- The members of a group, one row after the other. Assumes nothing.
use Prim.Native.Nat.{ℕ, zero, suc, ◌+◌, ◌-◌, ◌*◌, ◌≤◌, ◌<◌}
use mathlib.Core.Path.{◌≡◌, refl, sym, ap, ap₂, ◌∙◌}
use mathlib.Core.Bool.{Bool, true, false, cond}
use mathlib.Core.List.{List, [], ◌∷◌, map}
use native.Mathlib.Numerals.{add-one}
use native.Mathlib.Omega.{arith}
use lib.Dec.{eqb}
use lib.ListN.{length, get_or, drop}
use lib.Seq.{drop-cons, drop-drop}
use borrow.Author.Tests.{eq-eqb, ne_eqb}
use Rattle.cells.specs.promises.Cells.{bare_rows, row_from}
use Rattle.chains.specs.promises.Chains.{FirstLed, Chain}
use Rattle.group.specs.promises.Members.{grouped_rows, rows_from, chosen}
use Rattle.group.specs.declared.Grouping.{Grouping}
use Rattle.plan.specs.Table.{Each, Cell, Row}
use Rattle.chains.proofs.Leading.{rows_next}

-- the numbers from one on
pub numbers-next : (numbers : List ℕ) (i : ℕ) → i < length numbers → drop i numbers ≡ get_or numbers i 0 ∷ drop (i + 1) numbers
numbers-next numbers i h = drop-cons numbers i 0 h ∙ ap (λ (n : ℕ). get_or numbers i 0 ∷ drop n numbers) (sym (add-one i))

-- the members among the rows from one on, whose first cell stands at a place
module _ (leaders : List ℕ) (row columns rows other place : ℕ) (memory : List Cell) (h : other < rows) (k : other < length leaders) where
  member-taken : get_or leaders other 0 ≡ row → chosen row (drop other leaders) (bare_rows columns (rows - other) (drop place memory))
      ≡ row_from columns memory place ∷ chosen row (drop (other + 1) leaders) (bare_rows columns (rows - (other + 1)) (drop (place + columns) memory))
  member-taken e = rw (rows_next columns rows other place memory h, numbers-next leaders other k, eq-eqb (get_or leaders other 0) row e)

  member-passed : (get_or leaders other 0 ≡ row → ⊥) → chosen row (drop other leaders) (bare_rows columns (rows - other) (drop place memory))
      ≡ chosen row (drop (other + 1) leaders) (bare_rows columns (rows - (other + 1)) (drop (place + columns) memory))
  member-passed n = rw (rows_next columns rows other place memory h, numbers-next leaders other k, ne_eqb (get_or leaders other 0) row n)

-- the members are met one after the other in a chain
module _ {rows : ℕ} {leaders next : List ℕ} (chain : Chain rows leaders next) (row columns at : ℕ) (memory : List Cell) where
  -- those among the rows from one on
  abbrev left : ℕ → List Row
  left other = chosen row (drop other leaders) (bare_rows columns (rows - other) (drop (at + other * columns) memory))

  skip : (n other : ℕ) → other + n ≤ rows → ((o : ℕ) → other ≤ o → o < other + n → get_or leaders o 0 ≡ row → ⊥) → left other ≡ left (other + n)
  skip zero other h none = let e : other + 0 ≡ other = omega arith in rw e
  skip (suc n) other h none =
      let e : other + suc n ≡ other + 1 + n = omega arith in
      let p : at + other * columns + columns ≡ at + (other + 1) * columns = omega arith in
      rw e (rw p at (member-passed leaders row columns rows other (at + other * columns) memory (omega arith) (omega (arith, chain.long)) (none other (omega arith) (omega arith)))
      ∙ skip n (other + 1) (omega arith) (λ o a b. none o (omega arith) (omega arith)))

  module _ (other : ℕ) (h : other < rows) (e : get_or leaders other 0 ≡ row) where
    first : FirstLed rows leaders row (other + 1) (get_or next other 0)
    first = rw e at (chain.each other h)

    pub next-led : get_or next other 0 < rows → get_or leaders (get_or next other 0) 0 ≡ row
    next-led = first.led

    pub next-left : left (other + 1) ≡ left (get_or next other 0)
    next-left =
        let n : other + 1 + (get_or next other 0 - (other + 1)) ≡ get_or next other 0 = omega (arith, first.onward) in
        rw n at (skip (get_or next other 0 - (other + 1)) (other + 1) (omega (arith, first.upto)) (λ o a b. first.none o a (omega arith)))

    pub member-next : left other ≡ row_from columns memory (at + other * columns) ∷ left (get_or next other 0)
    member-next =
        let p : at + other * columns + columns ≡ at + (other + 1) * columns = omega arith in
        rw p at (member-taken leaders row columns rows other (at + other * columns) memory h (omega (arith, chain.long)) e) ∙ ap (λ (l : List Row). row_from columns memory (at + other * columns) ∷ l) next-left

-- the same of any list that has an element for each row
module _ {A : Type 0} {rows : ℕ} {leaders next : List ℕ} (chain : Chain rows leaders next) (row : ℕ) (list : List A) (d : A) (long : length list ≡ rows) where
  abbrev pub chosen_from : ℕ → List A
  chosen_from other = chosen row (drop other leaders) (drop other list)

  here : (other : ℕ) → other < rows → drop other list ≡ get_or list other d ∷ drop (other + 1) list
  here other h = drop-cons list other d (omega (arith, long)) ∙ ap (λ (n : ℕ). get_or list other d ∷ drop n list) (sym (add-one other))

  pass : (n other : ℕ) → other + n ≤ rows → ((o : ℕ) → other ≤ o → o < other + n → get_or leaders o 0 ≡ row → ⊥) → chosen_from other ≡ chosen_from (other + n)
  pass zero other h none = let e : other + 0 ≡ other = omega arith in rw e
  pass (suc n) other h none =
      let e : other + suc n ≡ other + 1 + n = omega arith in
      rw (e, here other (omega arith), numbers-next leaders other (omega (arith, chain.long)), ne_eqb (get_or leaders other 0) row (none other (omega arith) (omega arith)))
      (pass n (other + 1) (omega arith) (λ o a b. none o (omega arith) (omega arith)))

  pub chosen-next : (other : ℕ) → other < rows → get_or leaders other 0 ≡ row → chosen_from other ≡ get_or list other d ∷ chosen_from (get_or next other 0)
  chosen-next other h e =
      let first : FirstLed rows leaders row (other + 1) (get_or next other 0) = rw e at (chain.each other h) in
      let n : other + 1 + (get_or next other 0 - (other + 1)) ≡ get_or next other 0 = omega (arith, first.onward) in
      rw (here other h, numbers-next leaders other (omega (arith, chain.long)), eq-eqb (get_or leaders other 0) row e)
      (ap (λ (l : List A). get_or list other d ∷ l) (rw n at (pass (get_or next other 0 - (other + 1)) (other + 1) (omega (arith, first.upto)) (λ o a b. first.none o a (omega arith)))))

pub chosen-map : {A B : Type 0} (f : A → B) (number : ℕ) (numbers : List ℕ) (list : List A) → chosen number numbers (map f list) ≡ map f (chosen number numbers list)
chosen-map f number numbers [] = refl
chosen-map f number [] (x ∷ list) = refl
chosen-map f number (n ∷ numbers) (x ∷ list) = rw (chosen-map f number numbers list) (either (eqb n number))
  where
    either : (b : Bool) → cond b (f x ∷ map f (chosen number numbers list)) (map f (chosen number numbers list)) ≡ map f (cond b (x ∷ chosen number numbers list) (chosen number numbers list))
    either true = refl
    either false = refl

pub drop-map : {A B : Type 0} (f : A → B) (n : ℕ) (list : List A) → drop n (map f list) ≡ map f (drop n list)
drop-map f zero list = refl
drop-map f (suc n) [] = refl
drop-map f (suc n) (x ∷ list) = drop-map f n list

pub each_chosen : {A : Type 0} (P : A → Type 0) (number : ℕ) (numbers : List ℕ) (list : List A) → Each P list → Each P (chosen number numbers list)
each_chosen P number numbers [] e = tt
each_chosen P number [] (x ∷ list) e = tt
each_chosen P number (n ∷ numbers) (x ∷ list) e = either (eqb n number) (each_chosen P number numbers list e.1)
  where
    either : (b : Bool) → Each P (chosen number numbers list) → Each P (cond b (x ∷ chosen number numbers list) (chosen number numbers list))
    either true rest = (e.0, rest)
    either false rest = rest

pub chosen-fewer : {A : Type 0} (number : ℕ) (numbers : List ℕ) (list : List A) → length (chosen number numbers list) ≤ length list
chosen-fewer number numbers [] = omega arith
chosen-fewer number [] (x ∷ list) = omega arith
chosen-fewer number (n ∷ numbers) (x ∷ list) = either (eqb n number) (chosen-fewer number numbers list)
  where
    either : (b : Bool) → length (chosen number numbers list) ≤ length list → length (cond b (x ∷ chosen number numbers list) (chosen number numbers list)) ≤ suc (length list)
    either true h = omega arith
    either false h = omega arith

-- the rows from one on are what is left of the table's rows
rows_drop : (columns rows n : ℕ) (cells : List Cell) → drop n (bare_rows columns rows cells) ≡ bare_rows columns (rows - n) (drop (n * columns) cells)
rows_drop columns rows zero cells =
    let e : rows - 0 ≡ rows = omega arith in
    let z : 0 * columns ≡ 0 = omega arith in
    rw (e, z)
rows_drop columns zero (suc n) cells = let e : 0 - suc n ≡ 0 = omega arith in rw e
rows_drop columns (suc rows) (suc n) cells =
    let e : suc rows - suc n ≡ rows - n = omega arith in
    let m : columns + n * columns ≡ suc n * columns = omega arith in
    rows_drop columns rows n (drop columns cells) ∙ ap₂ (bare_rows columns) (sym e) (drop-drop (n * columns) columns cells ∙ ap (λ (k : ℕ). drop k cells) m)

pub rows-left : (g : Grouping) (memory : List Cell) (row : ℕ) → rows_from g memory row ≡ drop row (grouped_rows g memory)
rows-left g memory row = sym (rows_drop g.table.columns g.table.rows row (drop g.table.at memory) ∙ ap (bare_rows g.table.columns (g.table.rows - row)) (drop-drop (row * g.table.columns) g.table.at memory))
