-- A text written piece by piece. Assumes nothing.
use Prim.Native.Nat.{ℕ, ◌+◌, ◌-◌, ◌/◌, ◌%◌, ◌≤◌, ◌<◌}
use mathlib.Core.Path.{◌≡◌, sym, ap, ◌∙◌}
use mathlib.Core.List.{List, [], ◌∷◌, ◌++◌, append-nil, append_assoc}
use native.Mathlib.Nat.{add-zero}
use native.Mathlib.Omega.{arith}
use lib.ListN.{length, take, drop, set, length-append, length-drop}
use lib.Seq.{take_all, length-take-le, take-take, drop-drop, take-add, take-append_seam, drop-append_seam}
use Rattle.cells.specs.promises.Written.{Written}
use Rattle.cells.proofs.Written.{nothing_written, one_written, then-written, as_long, below-written, from-written}
use Rattle.csv_text.specs.Text.{digits}
use Rattle.csv_writer.specs.promises.Cells.{pair_of}
use Rattle.csv_writer.proofs.Digits.{digits-pair}

module _ {A : Type 0} where
  pub one-put : (list : List A) (at : ℕ) (x : A) → at < length list → Written list at (x ∷ []) (set list at x)
  one-put list at x h = rw add-zero at (one_written (nothing_written list at (omega arith)) x (omega arith))

  -- more written, right before what was written
  pub before-written : {list done mid more after : List A} {at to : ℕ} → to ≡ at + length more → Written list to done mid → Written mid at more after → Written list at (more ++ done) after
  before-written {list} {done} {mid} {more} {after} {at} {to} e w u =
      let longer : at + length (more ++ done) ≡ to + length done = simp length-append (omega arith) in
      let front : take at mid ≡ take at list
      = sym (take-take at to mid (omega arith)) ∙ ap (take at) (below-written w) ∙ take-take at to list (omega arith) in
      record {
        room = omega (arith, longer, w.room);
        is = u.is ∙ rw (front, ← e, from-written w, longer) (ap (λ (t : List A). take at list ++ t) (sym (append_assoc more done (drop (to + length done) list))));
      }

-- ---- a list written piece by piece from a place on: it stands up to `to`, and what is left of it comes next

pub record Sofar {A : Type 0} (whole list : List A) (at : ℕ) (after : List A) (to : ℕ) (rest : List A) : Type 0 where
  pub past : at ≤ to
  pub within : to - at ≤ length whole
  pub written : Written list at (take (to - at) whole) after
  pub left : drop (to - at) whole ≡ rest

module _ {A : Type 0} where
  pub sofar-begins : (whole list : List A) (at : ℕ) → at + length whole ≤ length list → Sofar whole list at list at whole
  sofar-begins whole list at h =
      let z : at - at ≡ 0 = omega arith in
      record { past = omega arith; within = omega arith; written = rw z (nothing_written list at (omega arith)); left = rw z }

  module _ {whole list after : List A} {at to : ℕ} where
    pub sofar-long : {rest : List A} → Sofar whole list at after to rest → length after ≡ length list
    sofar-long s = as_long s.written

    pub sofar-ends : Sofar whole list at after to [] → Written list at whole after
    sofar-ends s =
        let l = simp length-drop at (ap length s.left) in
        rw (take_all (to - at) whole (omega arith)) at s.written

  module _ {whole list mid : List A} {at to : ℕ} (piece more : List A) (s : Sofar whole list at mid to (piece ++ more)) where
    long : length whole ≡ (to - at) + (length piece + length more)
    long = let l = simp (length-drop, length-append) at (ap length s.left) in omega (arith, s.within)

    pub sofar-room : at + length whole ≤ length list → to + length piece ≤ length mid
    sofar-room r = omega (arith, long, s.past, sofar-long s)

    pub sofar-next : {after : List A} {next : ℕ} → next ≡ to + length piece → Written mid to piece after → Sofar whole list at after next more
    sofar-next {after} {next} n u =
        let h = s.past in
        let front : next - at ≡ (to - at) + length piece = omega arith in
        let t : to ≡ at + length (take (to - at) whole) = omega (arith, length-take-le (to - at) whole s.within) in
        record {
          past = omega arith;
          within = omega (arith, long);
          written = rw (front, take-add (to - at) (length piece) whole, s.left, take-append_seam piece more) (then-written s.written t u);
          left = rw front (sym (drop-drop (length piece) (to - at) whole) ∙ rw s.left (drop-append_seam piece more));
        }

-- ---- digits, the last two first

-- the digits of `rest` are left to write, so many; the last ones of n are written
pub record DigitsLeft (list : List ℕ) (at n : ℕ) (after : List ℕ) (left rest : ℕ) : Type 0 where
  pub counted : left ≡ length (digits rest)
  pub last : List ℕ
  pub parted : digits n ≡ digits rest ++ last
  pub written : Written list (at + left) last after

pub digits-begin : (list : List ℕ) (at n count : ℕ) → count ≡ length (digits n) → at + count ≤ length list → DigitsLeft list at n list count n
digits-begin list at n count e h =
    record { counted = e; last = []; parted = sym (append-nil (digits n)); written = nothing_written list (at + count) h }

module _ {list mid : List ℕ} {at n left rest : ℕ} (s : DigitsLeft list at n mid left rest) where
  pub left-room : at + left ≤ length mid
  left-room = omega (arith, s.written.room, as_long s.written)

  two-more : 100 ≤ rest → left ≡ length (digits (rest / 100)) + 2
  two-more h = s.counted ∙ ap length (digits-pair rest h) ∙ simp length-append

  pub pair_left : 100 ≤ rest → 2 ≤ left
  pair_left h = omega (arith, two-more h)

  pub pair_put : {after : List ℕ} → 100 ≤ rest → Written mid (at + (left - 2)) (pair_of (rest % 100)) after → DigitsLeft list at n after (left - 2) (rest / 100)
  pair_put h u =
      let m = two-more h in
      record {
        counted = omega arith;
        last = pair_of (rest % 100) ++ s.last;
        parted = s.parted ∙ rw (digits-pair rest h) (append_assoc (digits (rest / 100)) (pair_of (rest % 100)) s.last);
        written = before-written (omega arith) s.written u;
      }

  module _ {piece : List ℕ} (e : digits rest ≡ piece) where
    pub last-room : at + length piece ≤ length mid
    last-room = omega (arith, left-room, s.counted, ap length e)

    pub last-put : {after : List ℕ} → Written mid at piece after → Written list at (digits n) after
    last-put u = rw (s.parted, e) (before-written (omega (arith, s.counted, ap length e)) s.written u)
