-- The groups of a table: each is the rows that have its keys, and they stand in the order of their first rows. Assumes nothing.
use Prim.Native.Nat.{ℕ}
use mathlib.Core.Path.{◌≡◌, refl}
use mathlib.Core.Bool.{Bool, true, false, cond, false≢true}
use mathlib.Core.List.{List, [], ◌∷◌, ◌++◌}
use lib.Seq.{append_snoc}
use Rattle.plan.specs.Filter.{passing}
use Rattle.plan.specs.Group.{same_keys, any_same, groups_after, grouped}
use Rattle.plan.specs.Sense.Groups.{GroupRows, Whole, GroupsWhole, GroupsAlike, EachTwo, GroupsApart, Firsts, new, known, first_rows, GroupsInOrder}
use Rattle.plan.specs.Sense.Rows.{Sifted, keeps, drops}
use Rattle.plan.specs.Steps.{make}
use Rattle.plan.specs.Table.{Row, Each}
use Rattle.plan.proofs.AboutRows.{sifted-append, sifted-each, passing-sifts}
use Rattle.plan.proofs.Bools.{or-false, clash, is_false}
use Rattle.plan.proofs.SenseEach.{each_append, each_weaken, each_left, each_last, each-if}
use Rattle.plan.proofs.SenseGroups.{same-keys-refl, same-keys-sym, same-keys-trans}

pub group-rows : GroupRows
unfolding make grouped
group-rows keys aggregate column supply stack = refl

two-if : {A : Type 0} (R : A → A → Type 0) (b : Bool) (x : A) (xs : List A) → Each (R x) xs → EachTwo R xs → EachTwo R (cond b [] (x ∷ []) ++ xs)
two-if R true x xs p q = q
two-if R false x xs p q = (p, q)

module _ (keys columns : ℕ) where
  abbrev Same : Row → Row → Type 0
  Same a b = same_keys keys columns a b ≡ true

  abbrev Differ : Row → Row → Type 0
  Differ a b = same_keys keys columns a b ≡ false

  swapped : (a b : Row) → Differ a b → Differ b a
  swapped a b e = is_false _ (λ t. clash (same-keys-sym keys columns b a t) e)

  -- what differs from a row differs from each row with its keys
  differs : (a b c : Row) → Differ a b → Same b c → Differ a c
  differs a b c e s = is_false _ (λ t. clash (same-keys-trans keys columns a c b t (same-keys-sym keys columns b c s)) e)

  -- a group: a row, and those after it that have its keys
  abbrev group : Row → List Row → List Row
  group row rest = row ∷ passing (same_keys keys columns row) rest

  members : (row : Row) (rest : List Row) → Each (Same row) (group row rest)
  members row rest = (same-keys-refl keys columns row, sifted-each (passing-sifts (same_keys keys columns row) rest))

  -- the groups of the rows after a row
  abbrev later : List Row → Row → List Row → List (List Row)
  later earlier row rest = groups_after keys columns (earlier ++ (row ∷ [])) rest

  -- no earlier row has the keys of a row
  abbrev New : List Row → Row → Type 0
  New earlier row = Each (λ other. Differ other row) earlier

  is-new : (row : Row) (earlier : List Row) → any_same keys columns row earlier ≡ false → New earlier row
  is-new row [] e = tt
  is-new row (other ∷ rest) e =
      let s = or-false (same_keys keys columns other row) _ e in
      (s.0, is-new row rest s.1)

  not_new : (row : Row) (earlier : List Row) → any_same keys columns row earlier ≡ true → ¬ New earlier row
  not_new row [] e n = false≢true e
  not_new row (other ∷ rest) e n = not_new row rest (rw n.0 at e) n.1

  dropped : (row : Row) (earlier : List Row) → New earlier row → Sifted (same_keys keys columns row) [] earlier
  dropped row [] n = Sifted.end
  dropped row (other ∷ rest) n = drops (swapped other row n.0) (dropped row rest n.1)

  -- a fact of each group: of a new row's, and of those after it
  each-group : (P : List Row → Type 0) (earlier : List Row) (row : Row) (rest : List Row) → (New earlier row → P (group row rest)) → Each P (later earlier row rest)
      → Each P (groups_after keys columns earlier (row ∷ rest))
  each-group P earlier row rest f p =
      each_append P (cond (any_same keys columns row earlier) [] (group row rest ∷ [])) (later earlier row rest)
      (each-if P (any_same keys columns row earlier) (group row rest) (λ e. f (is-new row earlier e))) p

  whole_from : (earlier rows : List Row) → Each (Whole keys columns (earlier ++ rows)) (groups_after keys columns earlier rows)
  whole_from earlier [] = tt
  whole_from earlier (row ∷ rest) =
      let after = whole_from (earlier ++ (row ∷ [])) rest in
      each-group (Whole keys columns (earlier ++ (row ∷ rest))) earlier row rest (λ n.
      sifted-append (dropped row earlier n) (keeps (same-keys-refl keys columns row) (passing-sifts (same_keys keys columns row) rest))) (rw append_snoc at after)

  alike : (rows group : List Row) → Whole keys columns rows group → Each (λ a. Each (Same a) group) group
  alike rows [] w = tt
  alike rows (first ∷ rest) w =
      let firsts = sifted-each w in
      each_weaken _ _ (λ a p. each_weaken _ _ (λ b q. same-keys-trans keys columns a first b (same-keys-sym keys columns first a p) q) (first ∷ rest) firsts) (first ∷ rest) firsts

  -- the rows of the groups that are left have the keys of no earlier row
  new-from : (earlier rows : List Row) → Each (Each (New earlier)) (groups_after keys columns earlier rows)
  new-from earlier [] = tt
  new-from earlier (row ∷ rest) =
      each-group (Each (New earlier)) earlier row rest
      (λ n. each_weaken _ (New earlier) (λ b s. each_weaken _ _ (λ other e. differs other row b e s) earlier n) (group row rest) (members row rest))
      (each_weaken _ (Each (New earlier)) (λ g. each_weaken _ (New earlier) (λ b. each_left _ earlier (row ∷ [])) g) (later earlier row rest) (new-from (earlier ++ (row ∷ [])) rest))

  abbrev Apart : List Row → List Row → Type 0
  Apart g h = Each (λ a. Each (Differ a) h) g

  -- rows that have not the keys of a row before them are apart from its group
  apart : (earlier : List Row) (row : Row) (rest g : List Row) → Each (New (earlier ++ (row ∷ []))) g → Apart (group row rest) g
  apart earlier row rest g n =
      each_weaken _ _ (λ a s. each_weaken _ _ (λ b m. swapped b a (differs b row a (swapped row b (each_last _ earlier row m)) s)) g n) (group row rest) (members row rest)

  apart_from : (earlier rows : List Row) → EachTwo Apart (groups_after keys columns earlier rows)
  apart_from earlier [] = tt
  apart_from earlier (row ∷ rest) =
      two-if Apart (any_same keys columns row earlier) (group row rest) (later earlier row rest)
      (each_weaken _ (Apart (group row rest)) (apart earlier row rest) (later earlier row rest) (new-from (earlier ++ (row ∷ [])) rest))
      (apart_from (earlier ++ (row ∷ [])) rest)

  order_from : (earlier rows : List Row) → Firsts (same_keys keys columns) earlier (first_rows (groups_after keys columns earlier rows)) rows
  order_from earlier [] = Firsts.end
  order_from earlier (row ∷ rest) = first-or-not (any_same keys columns row earlier) refl (order_from (earlier ++ (row ∷ [])) rest)
    where
      first-or-not : (b : Bool) → any_same keys columns row earlier ≡ b → Firsts (same_keys keys columns) (earlier ++ (row ∷ [])) (first_rows (later earlier row rest)) rest
          → Firsts (same_keys keys columns) earlier (first_rows (cond b [] (group row rest ∷ []) ++ later earlier row rest)) (row ∷ rest)
      first-or-not true e f = known (not_new row earlier e) f
      first-or-not false e f = new (is-new row earlier e) f

pub groups-whole : GroupsWhole
groups-whole keys columns rows = whole_from keys columns [] rows

pub groups-alike : GroupsAlike
groups-alike keys columns rows = each_weaken _ _ (alike keys columns rows) (groups_after keys columns [] rows) (groups-whole keys columns rows)

pub groups-apart : GroupsApart
groups-apart keys columns rows = apart_from keys columns [] rows

pub groups-in-order : GroupsInOrder
groups-in-order keys columns rows = order_from keys columns [] rows
