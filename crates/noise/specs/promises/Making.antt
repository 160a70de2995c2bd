-- The label of the new cell that NOISE makes, in work memory. Its value is `noisy`, of the row's draw.
use Rattle.std.specs.Prelude.{ℕ}
use Rattle.extension.specs.promises.Labels.{label_left}
use Rattle.label_discharge.specs.Discharge.{noise_answer}

abbrev pub label_at : ℕ → ℕ
label_at word = label_left word (noise_answer word)
