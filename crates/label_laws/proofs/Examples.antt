-- Document 01's examples 1 to 7 hold of the definitions, by one computation. Assumes nothing.
use mathlib.Core.Path.{◌≡◌, refl}
use mathlib.Core.Bool.{true, and-eq-true_iff}
use mathlib.Core.List.{List, [], ◌∷◌, ◌++◌}
use Rattle.label_composition.specs.Composition.{transforms_both, digits_both, aggregates_both, minimum_both, noise_both, composed}
use Rattle.label_discharge.specs.Discharge.{allows_transform, allows_aggregate, enough_sheets, without_t, without_a, transformed, aggregated, forbids_t, forbids_a, after_t, after_a}
use Rattle.label_laws.specs.Examples.{Example, all, label_rows}
use Rattle.label_words.specs.WellFormed.{digits_fit, minimum_fits, well_formed_from, well_formed}
use Rattle.label_words.specs.Word.{field_at, packed}

-- two tables one after the other
pub all_append : (rows others : List Example) → all rows ≡ true → all others ≡ true → all (rows ++ others) ≡ true
all_append [] others e f = f
all_append (row ∷ rows) others e f =
    let both = (and-eq-true_iff row.holds (all rows)).0 e in
    rw both.0 (all_append rows others both.1 f)

pub label-rows-hold : all label_rows ≡ true
unfolding label_rows composed transforms_both digits_both aggregates_both minimum_both noise_both transformed aggregated forbids_t forbids_a after_t after_a without_t without_a allows_transform allows_aggregate enough_sheets well_formed well_formed_from digits_fit minimum_fits packed field_at
label-rows-hold = refl
