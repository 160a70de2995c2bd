-- Cells written one after the other from a place on: what is done, put before what is left. Assumes nothing.
use Prim.Native.Nat.{ℕ, suc, ◌+◌, ◌-◌, ◌≤◌, ◌<◌}
use mathlib.Core.Path.{◌≡◌, sym, ap, ◌∙◌}
use mathlib.Core.List.{List, [], ◌∷◌, ◌++◌, append_assoc}
use native.Mathlib.Nat.{add-zero}
use native.Mathlib.Numerals.{add-one}
use native.Mathlib.Omega.{arith}
use lib.ListN.{length, get_or, take, drop, set, length-append, length-drop, take-append-drop}
use Rattle.cells.specs.promises.Written.{Written}
use lib.Seq.{length-take-le, take-suc, drop-cons, set_at, take_at, drop_at, get_or-take, get_or-drop, drop-drop}

-- `count` elements of a list that long, copied to a place not after theirs or wholly past them
pub data Moves (from to count long : ℕ) : Type 0 where
  down : to ≤ from → from + count ≤ long → Moves from to count long
  up : from + count ≤ to → to + count ≤ long → Moves from to count long

module _ {from to count long : ℕ} where
  pub within-from : Moves from to count long → from + count ≤ long
  within-from (down h k) = k
  within-from (up h k) = omega arith

  pub within-to : Moves from to count long → to + count ≤ long
  within-to (down h k) = omega arith
  within-to (up h k) = k

module _ {A : Type 0} where
  pub nothing_written : (list : List A) (at : ℕ) → at ≤ length list → Written list at [] list
  nothing_written list at h = record { room = omega arith; is = sym (rw add-zero (take-append-drop at list)) }

  module _ {list done after : List A} {at : ℕ} (w : Written list at done after) where
    front : length (take at list) ≡ at
    front = length-take-le at list (omega (arith, w.room))

    before : length (take at list ++ done) ≡ at + length done
    before = simp length-append (omega (arith, front))

    parted : after ≡ (take at list ++ done) ++ drop (at + length done) list
    parted = w.is ∙ sym (append_assoc (take at list) done (drop (at + length done) list))

    -- one more, at the next place
    pub one_written : (x : A) → at + length done < length list → Written list at (done ++ (x ∷ [])) (set after (at + length done) x)
    one_written x h =
        let k = at + length done in
        let longer : at + length (done ++ (x ∷ [])) ≡ suc k = simp length-append (omega arith) in
        record {
          room = omega (arith, longer);
          is = ap (λ (l : List A). set l k x) (parted ∙ ap (λ (l : List A). (take at list ++ done) ++ l) (drop-cons list k x h))
              ∙ set_at (take at list ++ done) (get_or list k x) (drop (suc k) list) x k before
              ∙ append_assoc (take at list) done (x ∷ drop (suc k) list)
              ∙ ap (λ (l : List A). take at list ++ l)
              (sym (append_assoc done (x ∷ []) (drop (suc k) list)) ∙ ap (λ (n : ℕ). (done ++ (x ∷ [])) ++ drop n list) (sym longer));
        }

    pub as_long : length after ≡ length list
    as_long = ap length w.is ∙ simp (length-append, length-drop) (omega (arith, w.room, front))

    -- what stands before the place, and what stands past what was written, is as it was
    pub below-written : take at after ≡ take at list
    below-written = ap (take at) w.is ∙ take_at (take at list) _ at front

    pub from-written : drop at after ≡ done ++ drop (at + length done) list
    from-written = ap (drop at) w.is ∙ drop_at (take at list) _ at front

    pub past-written : drop (at + length done) after ≡ drop (at + length done) list
    past-written = ap (drop (at + length done)) parted ∙ drop_at (take at list ++ done) _ (at + length done) before

    pub read_below : (i : ℕ) (d : A) → i < at → get_or after i d ≡ get_or list i d
    read_below i d h = sym (get_or-take at after i d h) ∙ ap (λ (l : List A). get_or l i d) below-written ∙ get_or-take at list i d h

    pub read_past : (i : ℕ) (d : A) → at + length done ≤ i → get_or after i d ≡ get_or list i d
    read_past i d h =
        let k = at + length done in
        let e : k + (i - k) ≡ i = omega arith in
        rw (← e) (sym (get_or-drop k after (i - k) d) ∙ ap (λ (l : List A). get_or l (i - k) d) past-written ∙ get_or-drop k list (i - k) d)

  -- what stands past what was written, from any place on
  pub past-any : {list done after : List A} {at : ℕ} → Written list at done after → (i : ℕ) → at + length done ≤ i → drop i after ≡ drop i list
  past-any {list} {done} {after} {at} w i h =
      let k = at + length done in
      let e : k + (i - k) ≡ i = omega arith in
      rw (← e) (sym (drop-drop (i - k) k after) ∙ ap (drop (i - k)) (past-written w) ∙ drop-drop (i - k) k list)

  -- more written, right behind what was written
  pub then-written : {list done mid more after : List A} {at to : ℕ} → Written list at done mid → to ≡ at + length done → Written mid to more after → Written list at (done ++ more) after
  then-written {list} {done} {mid} {more} {after} {at} {to} w e u =
      let longer : at + length (done ++ more) ≡ to + length more = simp length-append (omega arith) in
      let front-is : take to mid ≡ take at list ++ done = ap (take to) (parted w) ∙ take_at (take at list ++ done) _ to (before w ∙ sym e) in
      record {
        room = omega (arith, longer, u.room, as_long w);
        is = u.is ∙ rw (front-is, past-any w (to + length more) (omega arith), longer)
            (append_assoc (take at list) done (more ++ drop (to + length more) list) ∙ ap (λ (t : List A). take at list ++ t) (sym (append_assoc done more (drop (to + length more) list))));
      }

  -- ---- a part copied

  part_length : (list : List A) (from i : ℕ) → from + i ≤ length list → length (take i (drop from list)) ≡ i
  part_length list from i h = length-take-le i (drop from list) (simp length-drop (omega arith))

  -- the element copied next is none that was written
  not-yet-written : {list after : List A} {from to count : ℕ} → Moves from to count (length list) → (i : ℕ) (d : A) → i < count → Written list to (take i (drop from list)) after
      → get_or after (from + i) d ≡ get_or list (from + i) d
  not-yet-written {list} {from = from} (down h k) i d j w = read_past w (from + i) d (omega (arith, part_length list from i (omega arith)))
  not-yet-written {from = from} (up h k) i d j w = read_below w (from + i) d (omega arith)

  pub one-copied : {list after : List A} {from to count : ℕ} → Moves from to count (length list) → (i : ℕ) (d : A) → i < count → Written list to (take i (drop from list)) after
      → Written list to (take (i + 1) (drop from list)) (set after (to + i) (get_or after (from + i) d))
  one-copied {list} {after} {from} {to} {count} m i d j w =
      let l : length (take i (drop from list)) ≡ i = part_length list from i (omega (arith, within-from m)) in
      let read : get_or after (from + i) d ≡ get_or (drop from list) i d = not-yet-written m i d j w ∙ sym (get_or-drop from list i d) in
      let more : take (i + 1) (drop from list) ≡ take i (drop from list) ++ (get_or (drop from list) i d ∷ [])
      = ap (λ (n : ℕ). take n (drop from list)) (add-one i) ∙ take-suc (drop from list) i d (simp length-drop (omega (arith, within-from m))) in
      rw (more, read) (rw l at (one_written w (get_or (drop from list) i d) (omega (arith, within-to m))))

  pub copied : {list after : List A} (from to count : ℕ) → Written list to (take count (drop from list)) after → from + count ≤ length list
      → after ≡ take to list ++ (take count (drop from list) ++ drop (to + count) list)
  copied {list} from to count w h = w.is ∙ ap (λ (n : ℕ). take to list ++ (take count (drop from list) ++ drop (to + n) list)) (part_length list from count h)

  -- a list with a part moved is that list with the part written over it
  pub part_moved : (list : List A) {from to count : ℕ} → Moves from to count (length list)
      → Written list to (take count (drop from list)) (take to list ++ (take count (drop from list) ++ drop (to + count) list))
  part_moved list {from} {to} {count} m =
      let l : length (take count (drop from list)) ≡ count = part_length list from count (within-from m) in
      record { room = omega (arith, within-to m); is = rw l }

  -- more written, copied from a place at or past the end of what was written
  pub then-copied : {list done after : List A} {at : ℕ} → Written list at done after → (from to count : ℕ) → to ≡ at + length done → to ≤ from → from + count ≤ length list
      → Written list at (done ++ take count (drop from list)) (take to after ++ (take count (drop from after) ++ drop (to + count) after))
  then-copied {list} {done} {after} {at} w from to count e h k =
      let same : drop from after ≡ drop from list = past-any w from (omega arith) in
      let m : Moves from to count (length after) = down h (omega (arith, as_long w)) in
      rw (← same) (then-written w e (part_moved after m))
