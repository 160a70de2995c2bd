-- Sheets are the different marks of a group. Assumes nothing.
use Prim.Native.Nat.{ℕ, ◌+◌, ◌≤◌}
use mathlib.Core.Path.{◌≡◌, refl, sym, ◌∙◌}
use mathlib.Core.Bool.{Bool, true, false, cond, ◌||◌, false≢true}
use mathlib.Core.List.{List, [], ◌∷◌, ◌++◌, map}
use native.Mathlib.Omega.{arith}
use lib.Dec.{eqb}
use lib.ListN.{length, length-map}
use borrow.Author.Tests.{eqb-true, ne_eqb}
use Rattle.plan.specs.Group.{any_mark, distinct_after, group_size}
use Rattle.plan.specs.Sense.Groups.{Firsts, new, known, EachTwo}
use Rattle.plan.specs.Table.{Row, Each}
use Rattle.sheet_sense.specs.Counted.{SheetsCounted, SheetsBounded, DifferentCounted}
use Rattle.sheet_sense.proofs.Either.{neither}
use Rattle.sheet_sense.proofs.Times.{one, times, AtMostOnce, rows-count, groups-count}

-- ---- each mark where it stands first

-- marks of which none is this one
abbrev None : ℕ → List ℕ → Type 0
None mark marks = Each (λ other. eqb other mark ≡ false) marks

-- no mark is found exactly where there is none
none-if : (mark : ℕ) (marks : List ℕ) → any_mark mark marks ≡ false → None mark marks
none-if mark [] e = tt
none-if mark (other ∷ rest) e =
    let s = neither (eqb other mark) (any_mark mark rest) e in
    (s.0, none-if mark rest s.1)

not_none : (mark : ℕ) (marks : List ℕ) → any_mark mark marks ≡ true → ¬ None mark marks
not_none mark [] e n = false≢true e
not_none mark (other ∷ rest) e n = not_none mark rest (rw n.0 at e) n.1

-- the marks of a list that stand first, after those that were passed
abbrev firsts_after : List ℕ → List ℕ → List ℕ
firsts_after passed [] = []
firsts_after passed (mark ∷ rest) = cond (any_mark mark passed) [] (mark ∷ []) ++ firsts_after (passed ++ (mark ∷ [])) rest

-- they are what `Firsts` says
firsts-are : (passed marks : List ℕ) → Firsts eqb passed (firsts_after passed marks) marks
firsts-are passed [] = Firsts.end
firsts-are passed (mark ∷ rest) = first-or-not (any_mark mark passed) refl (firsts-are (passed ++ (mark ∷ [])) rest)
  where
    first-or-not : (b : Bool) → any_mark mark passed ≡ b → Firsts eqb (passed ++ (mark ∷ [])) (firsts_after (passed ++ (mark ∷ [])) rest) rest
        → Firsts eqb passed (cond b [] (mark ∷ []) ++ firsts_after (passed ++ (mark ∷ [])) rest) (mark ∷ rest)
    first-or-not true e f = known (not_none mark passed e) f
    first-or-not false e f = new (none-if mark passed e) f

-- a mark that is passed last is found as one that is seen first
any_last : (mark : ℕ) (passed : List ℕ) (last : ℕ) → any_mark mark (passed ++ (last ∷ [])) ≡ any_mark mark (last ∷ passed)
any_last mark [] last = refl
any_last mark (other ∷ rest) last = rw (any_last mark rest last) (swap (eqb other mark) (eqb last mark) (any_mark mark rest))
  where
    swap : (a b c : Bool) → (a || (b || c)) ≡ (b || (a || c))
    swap true true c = refl
    swap true false c = refl
    swap false b c = refl

-- those that stand first are as many as are counted
as_many : (seen passed marks : List ℕ) → ((mark : ℕ) → any_mark mark passed ≡ any_mark mark seen)
    → distinct_after seen marks ≡ length (firsts_after passed marks)
as_many seen passed [] h = refl
as_many seen passed (mark ∷ rest) h =
    let found : (m : ℕ) → any_mark m (passed ++ (mark ∷ [])) ≡ any_mark m (mark ∷ seen) = λ m. any_last m passed mark ∙ (rw (h m)) in
    rw (h mark) (more (any_mark mark seen) _ _ (as_many (mark ∷ seen) (passed ++ (mark ∷ [])) rest found))
  where
    more : (b : Bool) (n : ℕ) (firsts : List ℕ) → n ≡ length firsts → cond b 0 1 + n ≡ length (cond b [] (mark ∷ []) ++ firsts)
    more true n firsts e = omega arith
    more false n firsts e = omega arith

pub sheets-counted : SheetsCounted
unfolding group_size
sheets-counted group =
    let marks = map (λ (row : Row). row.mark) group in
    (firsts_after [] marks, firsts-are [] marks, as_many [] [] marks (λ mark. refl))

-- ---- no more than rows

-- a mark counts at most once
at-most : (seen marks : List ℕ) → distinct_after seen marks ≤ length marks
at-most seen [] = omega arith
at-most seen (mark ∷ rest) = omega (arith, at-most (mark ∷ seen) rest, small (any_mark mark seen))
  where
    small : (b : Bool) → cond b 0 1 ≤ 1
    small true = omega arith
    small false = omega arith

pub sheets-bounded : SheetsBounded
unfolding group_size
sheets-bounded [] h = absurd (omega arith)
sheets-bounded (row ∷ rest) h =
    let marks = map (λ (other : Row). other.mark) rest in
    (omega arith, omega (arith, at-most (row.mark ∷ []) marks, length-map rest (λ (other : Row). other.mark)))

-- ---- different marks

-- a mark that differs from each later one does not stand there
none-later : (row : Row) (rest : List Row) → Each (λ other. ¬ (row.mark ≡ other.mark)) rest → times row.mark rest ≡ 0
none-later row [] p = refl
none-later row (other ∷ rest) p = rw (ne_eqb other.mark row.mark (λ e. p.0 (sym e)), none-later row rest p.1)

-- marks that differ, each two of them, stand at most once
once : (rows : List Row) → EachTwo (λ row other. ¬ (row.mark ≡ other.mark)) rows → AtMostOnce rows
once [] p mark = omega arith
once (row ∷ rest) p mark = here-or-later (eqb row.mark mark) refl (once rest p.1 mark)
  where
    here-or-later : (b : Bool) → eqb row.mark mark ≡ b → times mark rest ≤ 1 → one b + times mark rest ≤ 1
    here-or-later true e h = omega (arith, rw (eqb-true row.mark mark e) at (none-later row rest p.0))
    here-or-later false e h = omega arith

pub different-counted : DifferentCounted
different-counted keys columns rows p = (rows-count rows (once rows p), groups-count keys columns rows (once rows p))
