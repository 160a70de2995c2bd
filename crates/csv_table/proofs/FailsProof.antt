-- A failure's place is right: from every spot some bytes lead to a text's end, and a byte that fails fails whatever follows it. Assumes nothing.
use Prim.Native.Nat.{ℕ, zero, suc, ◌+◌, ◌-◌, ◌≤◌, ◌<◌}
use mathlib.Core.Path.{◌≡◌, refl, sym, ap, ◌∙◌}
use mathlib.Core.Bool.{Bool, true, false, cond, true≢false}
use mathlib.Core.List.{List, [], ◌∷◌, ◌++◌, append-nil}
use native.Mathlib.Omega.{arith}
use lib.Dec.{eqb, leb}
use lib.IntN.{ℤ}
use lib.ListN.{length, take, length-append}
use borrow.Author.Tests.{leb-true, leb-false, eq-eqb}
use Rattle.csv_text.specs.Text.{cut}
use Rattle.csv_reader.specs.Reader.{table, fails_at, next_spot, ended, rows_ended, is_wrong, at_end, read_from, read_text}
use Rattle.csv_table.specs.Propositions.{IsText, BreaksAt, FailsFirst}
use Rattle.csv_reader.specs.declared.spot.Spot.{Spot}
use Rattle.csv_reader.specs.declared.spot.Spot.TheVariants.{Names, Header, Value, Minus, Digits, Row, Wrong}
use Rattle.csv_reader.proofs.Steps.{step, Shape, shape-next}
use Rattle.csv_reader.proofs.Reading.{read-on, read-stops, few-columns, many-columns}
use Rattle.csv_table.proofs.OneTextProof.{one-text}
use Rattle.csv_table.proofs.ReadsBackProof.{Goes, then-goes, one-goes, name-goes, return-goes, feed-goes, from-value, from-minus, last_goes, other_goes, row_goes, text-reads-back}

-- ---- from every spot to the end of a line

-- the bytes take a reader from the spot to the end of a line
record Whole (fewest : ℕ) (from : Spot) (bytes : List ℕ) : Type 0 where
  columns : ℕ
  values : List ℤ
  rows : ℕ
  goes : Goes fewest from (Value columns columns) values rows bytes

-- and the first of them are these
abbrev Begun : ℕ → Spot → List ℕ → Type 0
Begun fewest from bytes = (rest : List ℕ) × Whole fewest from (bytes ++ rest)

then-whole : {fewest : ℕ} {a b : Spot} {v : List ℤ} {m : ℕ} {x y : List ℕ} → Goes fewest a b v m x → Whole fewest b y → Whole fewest a (x ++ y)
then-whole {v = v} {m} g w = record { columns = w.columns; values = v ++ w.values; rows = m + w.rows; goes = then-goes g w.goes }

then-begun : {fewest : ℕ} {a b : Spot} {v : List ℤ} {m : ℕ} {x : List ℕ} → Goes fewest a b v m x → Begun fewest b [] → Begun fewest a []
then-begun {x = x} g b = (x ++ b.0, then-whole g b.1)

begun : {fewest : ℕ} {a : Spot} {n : ℕ} {v : List ℤ} {m : ℕ} {x : List ℕ} → Goes fewest a (Value n n) v m x → Begun fewest a []
begun {n = n} {v} {m} {x} g = (x, record { columns = n; values = v; rows = m; goes = g })

module _ (fewest : ℕ) (few : fewest ≤ 8) where
  -- the other names of eight, and the line's end
  names-begun : (k i : ℕ) → i + k ≡ 23 → Begun fewest (Names i) []
  names-begun zero i e =
      let z : i ≡ 23 = omega arith in
      rw z (begun (then-goes (return-goes fewest 8 (omega arith) (omega arith) few) (feed-goes fewest 8)))
  names-begun (suc k) i e = then-begun (name-goes fewest i (omega arith)) (names-begun k (i + 1) (omega arith))

  -- a zero for each value that is left, and the line's end
  digits-begun : (k columns left : ℕ) (below : Bool) (size : ℕ) → left ≡ suc k → Begun fewest (Digits columns left below size) []
  digits-begun zero columns left below size e = begun (then-goes (last_goes fewest columns left below size e) (row_goes fewest columns))
  digits-begun (suc k) columns left below size e =
      then-begun (then-goes (other_goes fewest columns left below size (omega arith)) (from-value fewest columns (left - 1) 0 (omega arith)))
      (digits-begun k columns (left - 1) false 0 (omega arith))

  spot-begun : (spot : Spot) (count rows : ℕ) → is_wrong spot ≡ false → Shape spot count rows → Begun fewest spot []
  unfolding is_wrong
  spot-begun (Names i) count rows e s = names-begun (23 - i) i (omega arith)
  spot-begun (Header columns) count rows e s = begun (feed-goes fewest columns)
  spot-begun (Value columns left) count rows e s =
      then-begun (from-value fewest columns left 0 (omega arith)) (digits-begun (left - 1) columns left false 0 (omega arith))
  spot-begun (Minus columns left) count rows e s =
      then-begun (from-minus fewest columns left 1 (omega arith) (omega arith)) (digits-begun (left - 1) columns left true 1 (omega arith))
  spot-begun (Digits columns left below size) count rows e s = digits-begun (left - 1) columns left below size (omega arith)
  spot-begun (Row columns) count rows e s = begun (row_goes fewest columns)
  spot-begun Wrong count rows e s = absurd (true≢false e)

-- ---- where reading fails

-- reading fails behind so many of the bytes: they begin a text from the spot on, and whatever follows the next one, it fails there
record Fails (fewest : ℕ) (spot : Spot) (values : List ℤ) (rows at : ℕ) (bytes : List ℕ) (place : ℕ) : Type 0 where
  before : ℕ
  there : place ≡ at + before
  inside : before ≤ length bytes
  begins : Begun fewest spot (take before bytes)
  stops : before < length bytes → (rest : List ℕ) → read_from fewest spot values rows at (take (suc before) bytes ++ rest) ≡ fails_at place

-- at the end of the bytes it fails there, if it does
end-fails : (spot : Spot) (values : List ℤ) (rows at place : ℕ) → at_end spot values rows at ≡ fails_at place → place ≡ at
unfolding at_end
end-fails (Names i) values rows at place e = cc
end-fails (Header columns) values rows at place e = cc
end-fails (Value columns left) values rows at place e = go (eqb left columns) e
  where
    go : (t : Bool) → cond t (table columns (cut columns rows values)) (fails_at at) ≡ fails_at place → place ≡ at
    go true f = cc
    go false f = cc
end-fails (Minus columns left) values rows at place e = cc
end-fails (Digits columns left below size) values rows at place e = cc
end-fails (Row columns) values rows at place e = cc
end-fails Wrong values rows at place e = cc

-- where reading fails from a spot on
fails : (fewest : ℕ) → fewest ≤ 8 → (bytes : List ℕ) (spot : Spot) (values : List ℤ) (rows at place : ℕ) → is_wrong spot ≡ false → Shape spot (length values) rows
    → read_from fewest spot values rows at bytes ≡ fails_at place → Fails fewest spot values rows at bytes place
unfolding read_from
fails fewest few [] spot values rows at place w s e = record {
  before = 0;
  there = omega (arith, end-fails spot values rows at place e);
  inside = omega arith;
  begins = spot-begun fewest few spot (length values) rows w s;
  stops = λ h. absurd (omega arith);
}
fails fewest few (byte ∷ bytes) spot values rows at place w s e =
    go (is_wrong (next_spot fewest spot byte)) refl (λ next vs m. fails fewest few bytes next vs m (suc at) place)
  where
    go : (t : Bool) → is_wrong (next_spot fewest spot byte) ≡ t
        → ((next : Spot) (vs : List ℤ) (m : ℕ) → is_wrong next ≡ false → Shape next (length vs) m → read_from fewest next vs m (suc at) bytes ≡ fails_at place → Fails fewest next vs m (suc at) bytes place)
        → Fails fewest spot values rows at (byte ∷ bytes) place
    go true f again =
        let z : place ≡ at = cc (read-stops fewest spot values rows at byte bytes f) in
        record {
          before = 0;
          there = omega arith;
          inside = omega arith;
          begins = spot-begun fewest few spot (length values) rows w s;
          stops = λ h rest. rw z (read-stops fewest spot values rows at byte rest f);
        }
    go false f again =
        let next = next_spot fewest spot byte in
        let shape = shape-next (length values) rows (step fewest spot byte f) s in
        let i = again next (values ++ ended spot byte) (rows + rows_ended spot) f (rw length-append shape) (sym (read-on fewest spot values rows at byte bytes f) ∙ e) in
        record {
          before = suc i.before;
          there = omega (arith, i.there);
          inside = omega (arith, i.inside);
          begins = (i.begins.0, then-whole (one-goes fewest spot next byte refl f) i.begins.1);
          stops = λ h rest. read-on fewest spot values rows at byte (take (suc i.before) bytes ++ rest) f ∙ i.stops (omega arith) rest;
        }

-- ---- the whole

-- bytes that are read to the end of a line are a text
whole-text : (fewest : ℕ) (bytes : List ℕ) → fewest ≤ 8 → Whole fewest (Names 0) bytes → IsText fewest bytes
unfolding read_from at_end
whole-text fewest bytes h w =
    let n = w.columns in
    let rows = cut n (0 + w.rows) w.values in
    let read = read_from fewest (Names 0) [] 0 0 in
    let r : read_text fewest bytes ≡ table n rows = few-columns fewest bytes h ∙ ap read (sym (append-nil bytes)) ∙ w.goes.goes [] 0 0 [] ∙ rw (eq-eqb n n refl) in
    let t = one-text fewest n rows bytes r in
    record { columns = n; rows = rows; enough = t.1; is_table = t.2; same = t.0 }

-- a text does not fail
text-reads : (fewest place : ℕ) (bytes : List ℕ) → IsText fewest bytes → read_text fewest bytes ≡ fails_at place → ⊥
text-reads fewest place bytes t e =
    let z : ◌≡◌ {A = ℕ} 0 1 = cc (text-reads-back fewest t.columns t.rows t.enough t.is_table, t.same) in
    omega arith

-- no text has more than 8 columns
no-wider : {fewest : ℕ} {bytes : List ℕ} → 8 < fewest → IsText fewest bytes → ⊥
no-wider h t = omega (arith, t.enough, t.is_table.most)

pub fails-first : FailsFirst
unfolding is_wrong
fails-first fewest place bytes e = go (leb fewest 8) refl
  where
    go : (t : Bool) → leb fewest 8 ≡ t → BreaksAt fewest place bytes
    go true f =
        let few = leb-true fewest 8 f in
        let b = fails fewest few bytes (Names 0) [] 0 0 place refl (omega arith, refl, refl) (sym (few-columns fewest bytes few) ∙ e) in
        let z : place ≡ b.before = omega (arith, b.there) in
        record {
          inside = omega (arith, b.inside);
          before = λ h. rw z (b.begins.0, whole-text fewest (take b.before bytes ++ b.begins.0) few b.begins.1);
          there = λ h c.
              let longer : ℕ → List ℕ = λ n. take (suc n) bytes ++ c.0 in
              text-reads fewest place (longer place) c.1
              (few-columns fewest (longer place) few ∙ ap (λ (n : ℕ). read_from fewest (Names 0) [] 0 0 (longer n)) z ∙ b.stops (omega arith) c.0);
          none = λ t. text-reads fewest place bytes t e;
          wider = λ h. absurd (omega arith);
        }
    go false f =
        let many = leb-false fewest 8 f in
        let z : place ≡ 0 = cc (many-columns fewest bytes many) in
        record {
          inside = omega arith;
          before = λ h. absurd (omega arith);
          there = λ h c. no-wider many c.1;
          none = no-wider many;
          wider = λ h. (z, λ c. no-wider many c.1);
        }
