-- The release of the table of so many rows and columns at the start of work memory.
use Rattle.std.specs.Prelude.{ℕ, ◌*◌, ◌≡◌, cond, not, ◌&&◌, List, leb, ℤ, length, Result, Ok, Err}
use Rattle.cells.specs.promises.Search.{Reply, says, unfit, not_clear_at}
use Rattle.cells.specs.promises.Work.{Work}
use Rattle.plan.specs.Verdict.{fine, refused, refuse_if}
use Rattle.release.specs.declared.ReleaseRefusal.{ReleaseRefusal}
use Rattle.release.specs.declared.ReleaseRefusal.TheVariants as refusal
use Rattle.csv_writer.specs.declared.write.WritingError.{WritingError}
use Rattle.csv_writer.specs.declared.write.WritingError.TheVariants.{TooShort, NoTable}
use Rattle.csv_writer.specs.promises.Writing.{is_table, text_fits, text_from, text_written}
use Rattle.table_values.specs.promises.Output.{copied}
use Rattle.table_values.specs.promises.Over.{first_over_at}

-- what each answer says
abbrev pub release_says : Result ℕ ReleaseRefusal → Reply
release_says (Ok bytes) = says fine
release_says (Err (refusal.StageLeft at)) = says (refused 35 at.row at.column)
release_says (Err (refusal.Over at)) = says (refused 36 at.row at.column)
release_says (Err refusal.NoRoom) = says (refused 51 0 0)
release_says (Err refusal.DoesNotFit) = unfit

-- the bytes of the text that it tells
abbrev pub bytes_told : Result ℕ ReleaseRefusal → ℕ
bytes_told (Ok bytes) = bytes
bytes_told (Err wrong) = 0

-- why a table is not released whose text cannot be written
abbrev pub refusal_of : WritingError → ReleaseRefusal
refusal_of TooShort = refusal.NoRoom
refusal_of NoTable = refusal.DoesNotFit

-- the second reply, where the first finds nothing
abbrev pub after_fine : Reply → Reply → Reply
after_fine (says fine) next = next
after_fine (says (refused number row column)) next = says (refused number row column)
after_fine unfit next = unfit

-- whether the output has room and there is a table, and then 51
abbrev pub room_reply : List ℤ → List ℤ → List ℕ → ℕ → ℕ → Reply
room_reply values output text rows columns =
    cond (leb (rows * columns) (length output) && is_table values rows columns)
    (says (refuse_if (not (text_fits values rows columns text)) 51 0 0)) unfit

-- 35, then 36, and then these
abbrev pub release_reply : Work → List ℤ → List ℕ → ℕ → ℕ → Reply
release_reply work output text rows columns =
    after_fine (not_clear_at 35 0 work.labels 0 rows columns 255)
    (after_fine (first_over_at 0 work.values 0 rows columns) (room_reply work.values output text rows columns))

-- the bytes told: the text's where the table is released
abbrev pub bytes_after : Reply → List ℤ → ℕ → ℕ → ℕ
bytes_after (says fine) values rows columns = length (text_from values rows columns)
bytes_after (says (refused number row column)) values rows columns = 0
bytes_after unfit values rows columns = 0

-- the output afterwards: the values of a table that is released at its start, else as it was
abbrev pub output_after : Reply → List ℤ → List ℤ → ℕ → ℕ → List ℤ
output_after (says fine) values output rows columns = copied values 0 (rows * columns) output
output_after (says (refused number row column)) values output rows columns = output
output_after unfit values output rows columns = output

-- the slice for the text afterwards: the text of a table that is released at its start, else as it was
abbrev pub export_after : Reply → List ℤ → List ℕ → ℕ → ℕ → List ℕ
export_after (says fine) values text rows columns = text_written values rows columns text
export_after (says (refused number row column)) values text rows columns = text
export_after unfit values text rows columns = text

-- What a release with a reply means, of an output and a slice for the text that held `output` and `text` before, and hold `output₁` and `text₁`
-- afterwards.
pub record Releases (reply : Reply) (values output : List ℤ) (text : List ℕ) (rows columns : ℕ) (answer : Result ℕ ReleaseRefusal) (output₁ : List ℤ) (text₁ : List ℕ) : Type 0 where
  pub says_so : release_says answer ≡ reply
  pub bytes-are : bytes_told answer ≡ bytes_after reply values rows columns
  pub output-is : output₁ ≡ output_after reply values output rows columns
  pub text-is : text₁ ≡ export_after reply values text rows columns
