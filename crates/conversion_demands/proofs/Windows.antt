-- Bytes from a place on, in two lists that are alike there. Assumes nothing.
use Prim.Native.Nat.{ℕ, ◌+◌, ◌<◌, ◌≤◌}
use mathlib.Core.Path.{◌≡◌, sym, ap, ◌∙◌}
use mathlib.Core.List.{List}
use native.Mathlib.Decide.{dec_lt}
use native.Mathlib.Omega.{arith}
use lib.ListN.{length, take, drop, length-take, length-drop, get_or-eq_default}
use lib.Seq.{get_or-take, get_or-drop, ext_get_or}
use Rattle.little_endian.specs.Bytes.{little_endian, number_at, byte_at}

pub byte-in : (l : List ℕ) (at width i : ℕ) → i < width → byte_at (take width (drop at l)) i ≡ byte_at l (at + i)
byte-in l at width i h = rw (get_or-take, get_or-drop)

module _ (a b : List ℕ) (e : length a ≡ length b) (at width : ℕ) where
  pub same-window : ((i : ℕ) → i < width → byte_at a (at + i) ≡ byte_at b (at + i)) → take width (drop at a) ≡ take width (drop at b)
  same-window f =
      ext_get_or 0 (take width (drop at a)) (take width (drop at b)) (simp (length-take, length-drop, e))
      (λ i h. let w : i < width = omega (arith, h, length-take width (drop at a)) in byte-in a at width i w ∙ f i w ∙ sym (byte-in b at width i w))

  pub same_number : ((i : ℕ) → i < width → byte_at a (at + i) ≡ byte_at b (at + i)) → number_at a at width ≡ number_at b at width
  unfolding number_at
  same_number f = ap little_endian (same-window f)

  -- one byte of the two
  pub same_byte : (i : ℕ) → (i < width → byte_at a (at + i) ≡ byte_at b (at + i)) → byte_at (take width (drop at a)) i ≡ byte_at (take width (drop at b)) i
  same_byte i f = go (dec_lt i width)
    where
      past : (l : List ℕ) → width ≤ i → byte_at (take width (drop at l)) i ≡ 0
      past l h = get_or-eq_default (take width (drop at l)) 0 (omega (arith, h, length-take width (drop at l)))

      go : Dec (i < width) → byte_at (take width (drop at a)) i ≡ byte_at (take width (drop at b)) i
      go (yes h) = byte-in a at width i h ∙ f h ∙ sym (byte-in b at width i h)
      go (no h) = past a (omega arith) ∙ sym (past b (omega arith))
