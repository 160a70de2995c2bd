-- The sentence on sums with draws, as a theorem about the definition beside this file. It is proved; nothing here is to be believed.
use Rattle.std.specs.Prelude.{◌≡◌, true, false, ℤ, ◌+ℤ◌}
use Rattle.value.specs.Range.{in_range, OVER}
use Rattle.value.specs.Sentences.{Settles}
use Rattle.noise_value.specs.Noise.{noisy}

-- the exact sum where it is in range, whatever the draw; OVER where it is not, and of an OVER value
abbrev pub NoisyIsSum : Type 0
NoisyIsSum = (value draw : ℤ)
    → (in_range value ≡ true → Settles (value +ℤ draw) (noisy value draw)) × (in_range value ≡ false → noisy value draw ≡ OVER)
