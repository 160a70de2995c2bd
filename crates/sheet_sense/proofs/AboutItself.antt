-- A table united with itself: its groups are twice over, of as many sheets, and have the same labels. Assumes nothing.
use Prim.Native.Nat.{ℕ}
use mathlib.Core.Path.{◌≡◌, refl, sym, ap, ap₂, ◌∙◌}
use mathlib.Core.Bool.{Bool, true, false, cond, ◌||◌, or_assoc, true≢false}
use mathlib.Core.List.{List, [], ◌∷◌, ◌++◌, map, append-nil}
use native.Mathlib.Omega.{arith}
use lib.Dec.{eqb}
use lib.Seq.{append_snoc}
use borrow.Author.Tests.{eq-eqb}
use Rattle.label_words.specs.WellFormed.{well_formed}
use Rattle.plan.specs.Filter.{passing}
use Rattle.plan.specs.Group.{same_keys, any_same, groups_after, any_mark, distinct_after, group_size, composed_after, group_row, grouped}
use Rattle.plan.specs.Keep.{kept_cells}
use Rattle.plan.specs.Numbers.{aggregate_code}
use Rattle.plan.specs.Sense.Groups.{Whole}
use Rattle.plan.specs.Sense.Rows.{Sifted, keeps, drops}
use Rattle.plan.specs.Table.{Cell, Row, cell_at, labels_of, Each}
use Rattle.plan.specs.Union.{united}
use Rattle.plan.specs.declared.Aggregate.{Aggregate}
use Rattle.plan.proofs.AboutGroups.{groups-whole}
use Rattle.plan.proofs.SenseEach.{each_weaken, each_map}
use Rattle.plan.proofs.SenseGroups.{same-keys-refl, same-keys-sym}
use Rattle.sheet_sense.specs.Itself.{TwiceCounted, TwiceGrouped, UnitedWithItself}
use Rattle.sheet_sense.proofs.Either.{neither, or_right}
use Rattle.sheet_sense.proofs.LabelsTwice.{twice-composed}

-- what is made of two lists, one after the other
map-append : {A B : Type 0} (f : A → B) (xs ys : List A) → map f (xs ++ ys) ≡ map f xs ++ map f ys
map-append f [] ys = refl
map-append {A} {B} f (x ∷ xs) ys = ap (λ (l : List B). f x ∷ l) (map-append f xs ys)

-- ---- sheets

-- marks that were seen do not count
seen-count : (seen marks : List ℕ) → Each (λ mark. any_mark mark seen ≡ true) marks → distinct_after seen marks ≡ 0
seen-count seen [] p = refl
seen-count seen (mark ∷ rest) p =
    let later = each_weaken _ (λ other. any_mark other (mark ∷ seen) ≡ true) (λ other e. or_right (eqb mark other) _ e) rest p.1 in
    rw p.0 (omega (arith, seen-count (mark ∷ seen) rest later))

-- and those that stand before do not count again
again-count : (seen marks others : List ℕ) → Each (λ mark. (any_mark mark marks || any_mark mark seen) ≡ true) others
    → distinct_after seen (marks ++ others) ≡ distinct_after seen marks
again-count seen [] others p = seen-count seen others p
again-count seen (mark ∷ rest) others p =
    let later = each_weaken _ _ (λ other e. moved (eqb mark other) (any_mark other rest) (any_mark other seen) e) others p in
    rw (again-count (mark ∷ seen) rest others later)
  where
    moved : (a b c : Bool) → ((a || b) || c) ≡ true → (b || (a || c)) ≡ true
    moved true b c e = or_right b true refl
    moved false b c e = e

-- each mark of a list is found in it
marks-found : (marks : List ℕ) → Each (λ mark. any_mark mark marks ≡ true) marks
marks-found [] = tt
marks-found (mark ∷ rest) = (rw (eq-eqb mark mark refl), each_weaken _ _ (λ other e. or_right (eqb mark other) _ e) rest (marks-found rest))

pub twice-counted : TwiceCounted
unfolding group_size
twice-counted group =
    let marks = map (λ (row : Row). row.mark) group in
    rw (map-append (λ (row : Row). row.mark) group group)
    (again-count [] marks marks (each_weaken _ _ (λ mark e. rw e) marks (marks-found marks)))

-- ---- groups

-- the rows of two lists that pass, one after the other
passing-append : (pass : Row → Bool) (rows others : List Row) → passing pass (rows ++ others) ≡ passing pass rows ++ passing pass others
passing-append pass [] others = refl
passing-append pass (row ∷ rest) others = rw (passing-append pass rest others) (either (pass row))
  where
    either : (b : Bool) → cond b (row ∷ (passing pass rest ++ passing pass others)) (passing pass rest ++ passing pass others)
        ≡ cond b (row ∷ passing pass rest) (passing pass rest) ++ passing pass others
    either true = refl
    either false = refl

abbrev twice : List (List Row) → List (List Row)
twice groups = map (λ group. group ++ group) groups

module _ (keys columns : ℕ) where
  abbrev alike : Row → Row → Bool
  alike = same_keys keys columns

  abbrev any : Row → List Row → Bool
  any = any_same keys columns

  -- a row has the keys of one of two lists' rows if it has those of either
  any_append : (row : Row) (rows others : List Row) → any row (rows ++ others) ≡ (any row rows || any row others)
  any_append row [] others = refl
  any_append row (other ∷ rest) others = rw (any_append row rest others) (sym (or_assoc (alike other row) _ _))

  any_left : (row : Row) (rows others : List Row) → any row rows ≡ true → any row (rows ++ others) ≡ true
  any_left row rows others e = rw (any_append row rows others, e)

  -- each row has the keys of a row of its table: its own
  rows-found : (rows : List Row) → Each (λ row. any row rows ≡ true) rows
  rows-found [] = tt
  rows-found (row ∷ rest) = (
    rw (same-keys-refl keys columns row),
    each_weaken _ _ (λ other e. or_right (alike row other) _ e) rest (rows-found rest),
  )

  -- rows with keys that were there make no group
  no-group : (earlier rows : List Row) → Each (λ row. any row earlier ≡ true) rows → groups_after keys columns earlier rows ≡ []
  no-group earlier [] p = refl
  no-group earlier (row ∷ rest) p =
      rw p.0 (no-group (earlier ++ (row ∷ [])) rest (each_weaken _ _ (λ other. any_left other earlier (row ∷ [])) rest p.1))

  -- where no row has the keys of a row, it has the keys of none
  none_pass : (row : Row) (rows : List Row) → any row rows ≡ false → passing (alike row) rows ≡ []
  none_pass row [] e = refl
  none_pass row (other ∷ rest) e =
      let s = neither (alike other row) _ e in
      rw (swapped (alike row other) refl s.0) (none_pass row rest s.1)
    where
      swapped : (b : Bool) → alike row other ≡ b → alike other row ≡ false → b ≡ false
      swapped true e f = absurd (true≢false (sym (same-keys-sym keys columns row other e) ∙ f))
      swapped false e f = refl

  -- a row, and those after it that have its keys
  abbrev group : Row → List Row → List Row
  group row rest = row ∷ passing (alike row) rest

  -- a new row's group, where all rows follow once more
  group-twice : (earlier : List Row) (row : Row) (rest : List Row) → any row earlier ≡ false
      → group row (rest ++ (earlier ++ (row ∷ rest))) ≡ group row rest ++ group row rest
  group-twice earlier row rest e =
      let split = passing-append (alike row) rest (earlier ++ (row ∷ rest)) in
      rw (split, passing-append (alike row) earlier (row ∷ rest), none_pass row earlier e, same-keys-refl keys columns row)

  -- the groups of the rows that are left, where all rows follow once more
  twice-from : (earlier rest : List Row)
      → groups_after keys columns earlier (rest ++ (earlier ++ rest)) ≡ twice (groups_after keys columns earlier rest)
  twice-from earlier [] = rw (append-nil earlier) (no-group earlier earlier (rows-found earlier))
  twice-from earlier (row ∷ rest) = first-or-not (any row earlier) refl _ _ (rw append_snoc at (twice-from (earlier ++ (row ∷ [])) rest))
    where
      first-or-not : (b : Bool) → any row earlier ≡ b → (groups others : List (List Row)) → groups ≡ twice others
          → cond b [] (group row (rest ++ (earlier ++ (row ∷ rest))) ∷ []) ++ groups ≡ twice (cond b [] (group row rest ∷ []) ++ others)
      first-or-not true e groups others f = f
      first-or-not false e groups others f = ap₂ ◌∷◌ (group-twice earlier row rest e) f

pub twice-grouped : TwiceGrouped
twice-grouped keys columns rows = twice-from keys columns [] rows

-- ---- labels

-- a fact of each row of a table is one of each row that is sifted from it
sifted-all : (P : Row → Type 0) {test : Row → Bool} {xs us : List Row} → Sifted test xs us → Each P us → Each P xs
sifted-all P Sifted.end p = tt
sifted-all P (keeps e s) p = (p.0, sifted-all P s p.1)
sifted-all P (drops e s) p = sifted-all P s p.1

abbrev label_of : Cell → ℕ
label_of cell = cell.label

module _ (keys columns : ℕ) (aggregate : Aggregate) (column : ℕ) where
  abbrev Formed : Row → Type 0
  Formed row = well_formed (cell_at column row).label ≡ true

  -- the labels that a group's aggregate reads, and those of the row that it makes
  abbrev read : List Row → List ℕ
  read rows = map label_of (map (cell_at column) rows)

  abbrev made : List Row → List ℕ
  made group = labels_of (group_row keys columns aggregate column group)

  read-append : (rows others : List Row) → read (rows ++ others) ≡ read rows ++ read others
  read-append rows others =
      rw (map-append (cell_at column) rows others) (map-append label_of (map (cell_at column) rows) (map (cell_at column) others))

  -- the labels of the first row's keys, then the aggregate's
  made-is : (first : Row) (rest : List Row)
      → made (first ∷ rest)
      ≡ map label_of (kept_cells keys columns first)
      ++ (composed_after (aggregate_code aggregate) (group_size (first ∷ rest)) 0 (read (first ∷ rest)) ∷ [])
  made-is first rest = map-append label_of (kept_cells keys columns first) _

  -- a group twice over makes a row with the same labels
  made-twice : (first : Row) (rest : List Row) → Each Formed (first ∷ rest) → made ((first ∷ rest) ++ (first ∷ rest)) ≡ made (first ∷ rest)
  made-twice first rest p =
      let group = first ∷ rest in
      let formed = each_map _ _ label_of (λ cell w. w) (map (cell_at column) group) (each_map _ _ (cell_at column) (λ row w. w) group p) in
      let same = twice-composed (aggregate_code aggregate) (group_size group) 0 (read group) formed in
      made-is first (rest ++ group) ∙ (rw (twice-counted group, read-append group group, same)) ∙ sym (made-is first rest)

  -- the same of a group of the table
  whole_twice : (rows : List Row) → Each Formed rows → (group : List Row) → Whole keys columns rows group
      → made (group ++ group) ≡ made group
  whole_twice rows p [] w = absurd w
  whole_twice rows p (first ∷ rest) w = made-twice first rest (sifted-all Formed w p)

  -- the same of all groups
  all-twice : (groups : List (List Row)) → Each (λ group. made (group ++ group) ≡ made group) groups
      → map labels_of (map (group_row keys columns aggregate column) (twice groups))
      ≡ map labels_of (map (group_row keys columns aggregate column) groups)
  all-twice [] p = refl
  all-twice (group ∷ rest) p = ap₂ ◌∷◌ p.0 (all-twice rest p.1)

pub united-with-itself : UnitedWithItself
unfolding grouped united
united-with-itself keys aggregate column table p =
    let groups = groups_after keys table.columns [] table.rows in
    let whole = groups-whole keys table.columns table.rows in
    rw (twice-grouped keys table.columns table.rows)
    (all-twice keys table.columns aggregate column groups
    (each_weaken _ _ (whole_twice keys table.columns aggregate column table.rows p) groups whole))
