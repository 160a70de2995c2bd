-- "Discharge: an operation has level T or A", and #102: NOISE has level N. The paper's Figure 2.
use Rattle.std.specs.Prelude.{ℕ, ◌+◌, Bool, cond, not, ◌&&◌, ◌||◌, eqb, leb, ltb}
use Rattle.std.specs.Int.Bits.{bit_and}
use Rattle.label_words.specs.Answers.{LabelVerdict, label, forbidden, refused}
use Rattle.label_words.specs.WellFormed.{well_formed}
use Rattle.label_words.specs.Word.{bit_at, has_h, has_t, has_a, has_n, stages_of, transforms_of, digits_of, aggregates_of, minimum_of, noise_of, packed}

-- The operations of level T: 0 add, 1 sub, 2 cut, 3 band. `digits` is how many a cut takes off; the others have none.
abbrev pub is_cut : ℕ → Bool
is_cut operation = eqb operation 2

-- an operation of level T exists: "k from 1 to 6" for cut
unfoldable pub transform_exists : ℕ → ℕ → Bool
transform_exists operation digits = ltb operation 4 && (not (is_cut operation) || (leb 1 digits && leb digits 6))

-- stage T "allows the operation (cut: at least the named digits ..)"
unfoldable pub allows_transform : ℕ → ℕ → ℕ → Bool
allows_transform word operation digits = bit_at word (24 + operation) && (not (is_cut operation) || leb (digits_of word) digits)

-- The operations of level A: 0 count, 1 sum, 2 min, 3 max, 4 avg.
unfoldable pub aggregate_exists : ℕ → Bool
aggregate_exists operation = ltb operation 5

-- stage A allows the operation, whatever the group
unfoldable pub allows_aggregate : ℕ → ℕ → Bool
allows_aggregate word operation = bit_at word (16 + operation)

-- ".. aggregates: at least the minimum of rows in the group"; #103: "The group minimum shall count distinct sheets."
unfoldable pub enough_sheets : ℕ → ℕ → Bool
enough_sheets word sheets = leb (minimum_of word) sheets

-- stage A allows the operation over so many sheets
abbrev pub discharges_a : ℕ → ℕ → ℕ → Bool
discharges_a word operation sheets = allows_aggregate word operation && enough_sheets word sheets

-- Level N has one operation, noise: "Bit 23: noise allowed at N."
unfoldable pub allows_noise : ℕ → Bool
allows_noise word = bit_at word 23

-- "that stage and its fields go to zero"
unfoldable pub without_t : ℕ → ℕ
without_t word = packed (bit_and (stages_of word) 0b1011) 0 (noise_of word) (aggregates_of word) 0 (minimum_of word)

unfoldable pub without_a : ℕ → ℕ
without_a word = packed (bit_and (stages_of word) 0b1101) (transforms_of word) (noise_of word) 0 (digits_of word) 0

unfoldable pub without_n : ℕ → ℕ
without_n word = packed (bit_and (stages_of word) 0b1110) (transforms_of word) 0 (aggregates_of word) (digits_of word) (minimum_of word)

-- "If the highest stage present is above that level, it is forbidden": the paper has no rule there. H stands above T, both above A, and all
-- three above N.
unfoldable pub forbids_t : ℕ → Bool
forbids_t word = has_h word

unfoldable pub forbids_a : ℕ → Bool
forbids_a word = has_h word || has_t word

unfoldable pub forbids_n : ℕ → Bool
forbids_n word = has_h word || has_t word || has_a word

-- "If the highest stage is of that level and allows the operation .., that stage and its fields go to zero": DLOWER.
-- "Otherwise the label stays": DPRESERVE, and EMPTY for a clear label.
unfoldable pub after_t : ℕ → ℕ → ℕ → ℕ
after_t word operation digits = cond (not (forbids_t word) && has_t word && allows_transform word operation digits) (without_t word) word

unfoldable pub after_a : ℕ → ℕ → ℕ → ℕ
after_a word operation sheets = cond (not (forbids_a word) && has_a word && discharges_a word operation sheets) (without_a word) word

unfoldable pub after_n : ℕ → ℕ
after_n word = cond (not (forbids_n word) && has_n word && allows_noise word) (without_n word) word

-- a label discharged by an operation of level T, of level A over a group of so many sheets, or by noise
unfoldable pub transformed : ℕ → ℕ → ℕ → LabelVerdict
transformed word operation digits = cond (forbids_t word) forbidden (label (after_t word operation digits))

unfoldable pub aggregated : ℕ → ℕ → ℕ → LabelVerdict
aggregated word operation sheets = cond (forbids_a word) forbidden (label (after_a word operation sheets))

unfoldable pub noised : ℕ → LabelVerdict
noised word = cond (forbids_n word) forbidden (label (after_n word))

-- the library's answers, for every word and every operation
unfoldable pub transform_answer : ℕ → ℕ → ℕ → LabelVerdict
transform_answer word operation digits =
    cond (well_formed word) (cond (transform_exists operation digits) (transformed word operation digits) (refused 17 0)) (refused 15 0)

unfoldable pub aggregate_answer : ℕ → ℕ → ℕ → LabelVerdict
aggregate_answer word operation sheets =
    cond (well_formed word) (cond (aggregate_exists operation) (aggregated word operation sheets) (refused 17 0)) (refused 15 0)

unfoldable pub noise_answer : ℕ → LabelVerdict
noise_answer word = cond (well_formed word) (noised word) (refused 15 0)
