-- What a conversion answers, and what it leaves in the two slices that it is lent: one for the new container, one for the offsets.
use Rattle.std.specs.Prelude.{ℕ, cond, ◌&&◌, List, ◌++◌, Result, Ok, Err, leb, length, drop}
use Rattle.container.specs.Check.{InputVerdict, accepted, rejected}
use Rattle.input.specs.Answers.{input_tells}
use Rattle.conversion.specs.Conversion.{check_before, changed_labels, converted}
use Rattle.conversion.specs.declared.ConversionRefusal.{ConversionRefusal}
use Rattle.conversion.specs.declared.ConversionRefusal.TheVariants as refusal

-- how many labels were changed; or a number and a place
pub data ConversionVerdict : Type 0 where
  changed : ℕ → ConversionVerdict
  refused : ℕ → ℕ → ConversionVerdict

-- the number and the place of each refusal
abbrev pub conversion_tells : {A : Type 0} → (ℕ → ℕ → A) → ConversionRefusal → A
conversion_tells tell refusal.TooShort = tell 1 0
conversion_tells tell (refusal.Input why) = input_tells tell why

-- what the answer of a conversion says
abbrev pub conversion_says : Result ℕ ConversionRefusal → ConversionVerdict
conversion_says (Ok count) = changed count
conversion_says (Err why) = conversion_tells refused why

pub record Conversion : Type 0 where
  pub told : ConversionVerdict
  pub new : List ℕ
  pub offsets : List ℕ

abbrev pub ended : ConversionVerdict → List ℕ → List ℕ → Conversion
ended told new offsets = record { told = told; new = new; offsets = offsets }

-- the new container and the offsets stand at the starts of their slices, and the rest is as it was; a refusal changes nothing
abbrev pub by_check : InputVerdict → List ℕ → List ℕ → List ℕ → Conversion
by_check accepted bytes new offsets =
    ended (changed (length (changed_labels bytes)))
    (converted bytes ++ drop (length (converted bytes)) new) (changed_labels bytes ++ drop (length (changed_labels bytes)) offsets)
by_check (rejected number place) bytes new offsets = ended (refused number place) new offsets

-- "1: a lent slice is too short .. First of all checks; place zeros; nothing changes." The new container has as many bytes as the old one; offsets
-- need 8,192 elements, as work labels do, which no container has cells for.
unfoldable pub conversion : List ℕ → List ℕ → List ℕ → Conversion
conversion bytes new offsets =
    cond (leb (length bytes) (length new) && leb 8192 (length offsets)) (by_check (check_before bytes) bytes new offsets) (ended (refused 1 0) new offsets)
