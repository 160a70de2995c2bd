-- The two slices as one list of cells. Assumes nothing.
use Prim.Native.Nat.{ℕ, zero, suc, ◌+◌, ◌-◌, ◌≤◌, ◌<◌}
use mathlib.Core.Path.{◌≡◌, refl, sym, ap, ap₂, ◌∙◌}
use mathlib.Core.Bool.{Bool, true, false, ◌&&◌, ◌||◌, cond, and-eq-true_iff, and-false, or-true}
use mathlib.Core.List.{List, [], ◌∷◌, ◌++◌, map}
use native.Mathlib.Nat.{le_of_suc-le-suc, not-suc-le-zero}
use native.Mathlib.Omega.{arith}
use lib.Dec.{leb}
use lib.IntN.{ℤ}
use lib.ListN.{length, get_or, take, drop, set, length-set, length-take, length-drop}
use lib.Seq.{drop-set-lt}
use borrow.Author.Tests.{leb-true, le-leb}
use Rattle.cells.specs.promises.Cells.{cells_of, moved, within, can_move, moves_within}
use Rattle.cells.specs.promises.Work.{Work, Memory, work, cells_in, room, mark_room, Kept, MarksKept, AllKept}
use Rattle.cells.specs.promises.Written.{Written, CellsWritten, Put}
use Rattle.plan.specs.Table.{Cell, blank}
use Rattle.cells.proofs.Written.{Moves, down, up, within-from, within-to, part_moved, as_long, past-any}

abbrev pub cell : ℤ → ℕ → Cell
cell value label = record { value = value; label = label }

long : (vs : List ℤ) (ls : List ℕ) (n : ℕ) → n ≤ length vs → n ≤ length ls → n ≤ length (cells_of vs ls)
long [] ls n v l = v
long (v ∷ vs) [] n h k = k
long (v ∷ vs) (l ∷ ls) zero h k = omega arith
long (v ∷ vs) (l ∷ ls) (suc n) h k = omega (arith, long vs ls n (le_of_suc-le-suc h) (le_of_suc-le-suc k))

read : (vs : List ℤ) (ls : List ℕ) (i : ℕ) (d : ℤ) → i < length vs → i < length ls → get_or (cells_of vs ls) i blank ≡ cell (get_or vs i d) (get_or ls i 0)
read [] ls i d h k = absurd (not-suc-le-zero h)
read (v ∷ vs) [] i d h k = absurd (not-suc-le-zero k)
read (v ∷ vs) (l ∷ ls) zero d h k = refl
read (v ∷ vs) (l ∷ ls) (suc i) d h k = read vs ls i d (le_of_suc-le-suc h) (le_of_suc-le-suc k)

stored : (vs : List ℤ) (ls : List ℕ) (i : ℕ) (v : ℤ) (l : ℕ) → cells_of (set vs i v) (set ls i l) ≡ set (cells_of vs ls) i (cell v l)
stored [] ls i v l = refl
stored (w ∷ vs) [] zero v l = refl
stored (w ∷ vs) [] (suc i) v l = refl
stored (w ∷ vs) (m ∷ ls) zero v l = refl
stored (w ∷ vs) (m ∷ ls) (suc i) v l = ap (λ (rest : List Cell). cell w m ∷ rest) (stored vs ls i v l)

module _ (w : Work) where
  -- as many cells as both slices have elements
  pub cells-length : (n : ℕ) → n ≤ length w.values → n ≤ length w.labels → n ≤ length (cells_in w)
  cells-length = long w.values w.labels

  -- the cell at a place that both slices have
  pub cells-get : (i : ℕ) (d : ℤ) → i < length w.values → i < length w.labels → get_or (cells_in w) i blank ≡ cell (get_or w.values i d) (get_or w.labels i 0)
  cells-get = read w.values w.labels

  -- a value and a label stored at one place are a cell stored there
  pub cells-set : (i : ℕ) (v : ℤ) (l : ℕ) → cells_in (work (set w.values i v) (set w.labels i l)) ≡ set (cells_in w) i (cell v l)
  cells-set = stored w.values w.labels

pub cells-drop : (n : ℕ) (vs : List ℤ) (ls : List ℕ) → cells_of (drop n vs) (drop n ls) ≡ drop n (cells_of vs ls)
cells-drop zero vs ls = refl
cells-drop (suc n) [] ls = refl
cells-drop (suc n) (v ∷ vs) [] = none (drop n vs)
  where
    none : (us : List ℤ) → cells_of us [] ≡ []
    none [] = refl
    none (u ∷ us) = refl
cells-drop (suc n) (v ∷ vs) (l ∷ ls) = cells-drop n vs ls

pub cells-take : (n : ℕ) (vs : List ℤ) (ls : List ℕ) → cells_of (take n vs) (take n ls) ≡ take n (cells_of vs ls)
cells-take zero vs ls = refl
cells-take (suc n) [] ls = refl
cells-take (suc n) (v ∷ vs) [] = refl
cells-take (suc n) (v ∷ vs) (l ∷ ls) = ap (λ (rest : List Cell). (record { value = v; label = l }) ∷ rest) (cells-take n vs ls)

pub cells-append : (us vs : List ℤ) (ks ls : List ℕ) → length us ≡ length ks → cells_of (us ++ vs) (ks ++ ls) ≡ cells_of us ks ++ cells_of vs ls
cells-append [] vs [] ls e = refl
cells-append [] vs (k ∷ ks) ls e = absurd (omega arith)
cells-append (u ∷ us) vs [] ls e = absurd (omega arith)
cells-append (u ∷ us) vs (k ∷ ks) ls e = ap (λ (rest : List Cell). (record { value = u; label = k }) ∷ rest) (cells-append us vs ks ls (omega arith))

-- the first cells give the first values and labels back
values-first : (n : ℕ) (vs : List ℤ) (ls : List ℕ) → n ≤ length ls → map (λ cell. cell.value) (take n (cells_of vs ls)) ≡ take n vs
values-first zero vs ls h = refl
values-first (suc n) [] ls h = refl
values-first (suc n) (v ∷ vs) [] h = absurd (not-suc-le-zero h)
values-first (suc n) (v ∷ vs) (l ∷ ls) h = ap (λ (rest : List ℤ). v ∷ rest) (values-first n vs ls (le_of_suc-le-suc h))

labels-first : (n : ℕ) (vs : List ℤ) (ls : List ℕ) → n ≤ length vs → map (λ cell. cell.label) (take n (cells_of vs ls)) ≡ take n ls
labels-first zero vs ls h = refl
labels-first (suc n) [] ls h = absurd (not-suc-le-zero h)
labels-first (suc n) (v ∷ vs) [] h = refl
labels-first (suc n) (v ∷ vs) (l ∷ ls) h = ap (λ (rest : List ℕ). l ∷ rest) (labels-first n vs ls (le_of_suc-le-suc h))

pub values-front : (w : Work) (n : ℕ) → n ≤ length w.labels → map (λ cell. cell.value) (take n (cells_in w)) ≡ take n w.values
values-front w n = values-first n w.values w.labels

pub labels-front : (w : Work) (n : ℕ) → n ≤ length w.values → map (λ cell. cell.label) (take n (cells_in w)) ≡ take n w.labels
labels-front w n = labels-first n w.values w.labels

-- ---- what a step keeps

pub kept-none : (w : Work) → Kept w w
kept-none w = record { as-many-values = refl; as-many-labels = refl; values-past = refl; labels-past = refl }

pub kept_then : {first then last : Work} → Kept first then → Kept then last → Kept first last
kept_then a b = record {
  as-many-values = b.as-many-values ∙ a.as-many-values;
  as-many-labels = b.as-many-labels ∙ a.as-many-labels;
  values-past = b.values-past ∙ a.values-past;
  labels-past = b.labels-past ∙ a.labels-past;
}

pub marks-none : (marks : List ℕ) → MarksKept marks marks
marks-none marks = record { as_many = refl; past = refl }

pub marks_then : {first then last : List ℕ} → MarksKept first then → MarksKept then last → MarksKept first last
marks_then a b = record { as_many = b.as_many ∙ a.as_many; past = b.past ∙ a.past }

-- marks written among those that a run uses
pub marks-written : {before after done : List ℕ} {at : ℕ} → Written before at done after → at + length done ≤ mark_room → MarksKept before after
marks-written w h = record { as_many = as_long w; past = past-any w mark_room h }

pub all_none : (m : Memory) → AllKept m m
all_none m = record { work = kept-none m.work; marks = marks-none m.marks }

-- a cell stored among the elements that a run uses
pub kept_set : {before w : Work} (i : ℕ) (v : ℤ) (l : ℕ) → i < room → Kept before w → Kept before (work (set w.values i v) (set w.labels i l))
kept_set {w = w} i v l h k = record {
  as-many-values = length-set w.values i v ∙ k.as-many-values;
  as-many-labels = length-set w.labels i l ∙ k.as-many-labels;
  values-past = drop-set-lt room w.values i v h ∙ k.values-past;
  labels-past = drop-set-lt room w.labels i l h ∙ k.labels-past;
}

-- ---- parts of slices

pub within-le : (from count n : ℕ) → within from count n ≡ true → from + count ≤ n
within-le from count n e =
    let h = (and-eq-true_iff (leb from n) (leb count (n - from))).0 e in
    omega (arith, leb-true from n h.0, leb-true count (n - from) h.1)

pub le-within : (from count n : ℕ) → from + count ≤ n → within from count n ≡ true
le-within from count n h = rw (le-leb from n (omega arith), le-leb count (n - from) (omega arith))

-- ---- moves

module _ {from to count n : ℕ} where
  pub can-move : Moves from to count n → can_move from to count n ≡ true
  can-move (down h k) = rw (le-leb to from h, le-within from count n k, le-within to count n (omega arith))
  can-move (up h k) = rw (le-leb (from + count) to h, or-true, le-within from count n (omega arith), le-within to count n k)

  pub moves : can_move from to count n ≡ true → Moves from to count n
  moves e =
      let both = (and-eq-true_iff ((leb to from || leb (from + count) to) && within from count n) (within to count n)).0 e in
      let order = (and-eq-true_iff (leb to from || leb (from + count) to) (within from count n)).0 both.0 in
      by_order (leb to from) refl order.0 (within-le from count n order.1) (within-le to count n both.1)
    where
      by_order : (t : Bool) → leb to from ≡ t → (t || leb (from + count) to) ≡ true → from + count ≤ n → to + count ≤ n → Moves from to count n
      by_order true e o f g = down (leb-true to from e) f
      by_order false e o f g = up (leb-true (from + count) to o) g

-- for each of the two ways, the test of one of the two places is enough
module _ (from to count n : ℕ) where
  pub down-within : to ≤ from → can_move from to count n ≡ within from count n
  down-within h = by-room (within from count n) refl
    where
      by-room : (t : Bool) → within from count n ≡ t → can_move from to count n ≡ within from count n
      by-room true e = can-move (down h (within-le from count n e)) ∙ sym e
      by-room false e = rw (le-leb to from h, e)

  pub up-within : from + count ≤ to → can_move from to count n ≡ within to count n
  up-within h = by-room (within to count n) refl
    where
      by-room : (t : Bool) → within to count n ≡ t → can_move from to count n ≡ within to count n
      by-room true e = can-move (up h (within-le to count n e)) ∙ sym e
      by-room false e = rw (e, and-false)

-- a move that both slices have room for is made
pub both-move : (w : Work) {from to count : ℕ} → Moves from to count (length w.values) → Moves from to count (length w.labels)
    → moves_within w.values w.labels from to count ≡ true
both-move w v l = rw (can-move v, can-move l)

-- work memory with a part moved
abbrev pub moved_in : ℕ → ℕ → ℕ → Work → Work
moved_in from to count w = work (moved from to count w.values) (moved from to count w.labels)

-- values and labels moved alike are cells moved
pub cells-moved : (w : Work) {from to count : ℕ} → Moves from to count (length w.values) → Moves from to count (length w.labels)
    → cells_in (moved_in from to count w) ≡ moved from to count (cells_in w)
cells-moved w {from} {to} {count} v l =
    let vs = w.values in
    let ls = w.labels in
    let front : length (take to vs) ≡ length (take to ls) = simp length-take (omega (arith, within-to v, within-to l)) in
    let part : length (take count (drop from vs)) ≡ length (take count (drop from ls)) = simp (length-take, length-drop) (omega (arith, within-from v, within-from l)) in
    cells-append (take to vs) _ (take to ls) _ front
    ∙ ap₂ ◌++◌ (cells-take to vs ls)
    (cells-append (take count (drop from vs)) _ (take count (drop from ls)) _ part
    ∙ ap₂ ◌++◌ (cells-take count (drop from vs) (drop from ls) ∙ ap (take count) (cells-drop from vs ls)) (cells-drop (to + count) vs ls))

-- a move within the elements that a run uses
pub kept-moved : {before w : Work} {from to count : ℕ} → Moves from to count (length w.values) → Moves from to count (length w.labels) → to + count ≤ room → Kept before w
    → Kept before (moved_in from to count w)
kept-moved {w = w} {from} {to} {count} v l m k = record {
  as-many-values = as_long (part_moved w.values v) ∙ k.as-many-values;
  as-many-labels = as_long (part_moved w.labels l) ∙ k.as-many-labels;
  values-past = moved-past w.values v ∙ k.values-past;
  labels-past = moved-past w.labels l ∙ k.labels-past;
}
  where
    moved-past : {A : Type 0} (l : List A) → Moves from to count (length l) → drop room (moved from to count l) ≡ drop room l
    moved-past l r =
        let part : length (take count (drop from l)) ≡ count = simp (length-take, length-drop) (omega (arith, within-from r)) in
        past-any (part_moved l r) room (omega arith)

-- What `move_cells` answers and leaves, where both slices have room for the move: the contents after it.
module _ (w : Work) {us : List ℤ} {ks : List ℕ} {r : Bool} {from to count : ℕ} (v : Moves from to count (length w.values)) (l : Moves from to count (length w.labels))
    (answered : r ≡ moves_within w.values w.labels from to count) (values-are : us ≡ cond r (moved from to count w.values) w.values)
    (labels-are : ks ≡ cond r (moved from to count w.labels) w.labels) where
  made : r ≡ true
  made = answered ∙ both-move w v l

  pub values_moved : us ≡ moved from to count w.values
  values_moved = values-are ∙ rw made

  pub labels-moved : ks ≡ moved from to count w.labels
  labels-moved = labels-are ∙ rw made

  pub after-move : work us ks ≡ moved_in from to count w
  after-move = ap₂ work values_moved labels-moved

-- cells moved to a place wholly past them
pub written-up : (w : Work) (from to count : ℕ) → from + count ≤ to → to + count ≤ length w.values → to + count ≤ length w.labels
    → CellsWritten w to (take count (drop from (cells_in w))) (moved_in from to count w)
written-up w from to count h v l =
    let in_cells : Moves from to count (length (cells_in w)) = up h (cells-length w (to + count) v l) in
    rw (cells-moved w (up h v) (up h l)) (part_moved (cells_in w) in_cells)

-- what `move_cells` answers and leaves, as one fact
abbrev pub AfterMove : ℕ → ℕ → ℕ → Work → Bool → List ℤ → List ℕ → Type 0
AfterMove from to count w r us ks =
    (r ≡ moves_within w.values w.labels from to count)
    × ((us ≡ cond r (moved from to count w.values) w.values) × (ks ≡ cond r (moved from to count w.labels) w.labels))

-- cells moved to a place wholly past them, among the elements that a run uses
pub put_up : (w : Work) {us : List ℤ} {ks : List ℕ} {r : Bool} (from to count : ℕ) → from + count ≤ to → to + count ≤ room → room ≤ length w.values → room ≤ length w.labels
    → AfterMove from to count w r us ks → Put to (take count (drop from (cells_in w))) w (work us ks)
put_up w from to count h m v l after =
    let in-values : Moves from to count (length w.values) = up h (omega arith) in
    let in-labels : Moves from to count (length w.labels) = up h (omega arith) in
    rw (after-move w in-values in-labels after.0 after.1.0 after.1.1) record {
      written = written-up w from to count h (omega arith) (omega arith);
      kept = kept-moved in-values in-labels m (kept-none w);
    }
