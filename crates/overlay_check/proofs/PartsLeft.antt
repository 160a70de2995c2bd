-- What is left of a check of parts one after the other, after one of them. Assumes nothing.
use Prim.Native.Nat.{ℕ, ◌+◌, ◌-◌, ◌<◌}
use mathlib.Core.Path.{◌≡◌}
use native.Mathlib.Numerals.{add-one}
use Rattle.input.specs.Verdict.{InputVerdict, accepted}
use Rattle.input.proofs.Laws.{one_left}
use Rattle.overlay_check.specs.OverlayCheck.{each_part}

pub after_part : (check : ℕ → InputVerdict) (count index : ℕ) → index < count → check index ≡ accepted
    → each_part check index (count - index) ≡ each_part check (index + 1) (count - (index + 1))
after_part check count index h e = rw (add-one index, one_left index count h, e)
