-- What a run tells of a release.
use Rattle.std.specs.Prelude.{ℕ, Result, Ok, Err}
use Rattle.demands.specs.Answers.{Told, released, refused_state}
use Rattle.release.specs.declared.ReleaseRefusal.{ReleaseRefusal}
use Rattle.release.specs.declared.ReleaseRefusal.TheVariants as refusal

-- of the table of so many rows and columns that so many steps leave
abbrev pub release_tells : ℕ → ℕ → ℕ → Result ℕ ReleaseRefusal → Told
release_tells steps rows columns (Ok bytes) = released rows columns bytes
release_tells steps rows columns (Err (refusal.StageLeft at)) = refused_state 35 steps at.row at.column
release_tells steps rows columns (Err (refusal.Over at)) = refused_state 36 steps at.row at.column
release_tells steps rows columns (Err refusal.NoRoom) = refused_state 51 steps 0 0
release_tells steps rows columns (Err refusal.DoesNotFit) = refused_state 1 0 0 0
