-- #107, of containers that the old check accepts.
use Rattle.std.specs.Prelude.{ℕ, ◌+◌, ◌-◌, ◌<◌, ◌≡◌, List, [], ◌∷◌, ◌↔◌, ◌⊎◌, ◌≢◌, length}
use Rattle.container.specs.Check.{accepted, check_input}
use Rattle.container.specs.Contents.{plan_of, input_tables}
use Rattle.conversion.specs.Conversion.{check_before, changed_labels, converted}
use Rattle.label_words.specs.Word.{field_at, minimum_of}
use Rattle.layout.specs.Layout.{part_count, rule_year, offset_of, part_of}
use Rattle.little_endian.specs.Bytes.{byte_at}
use Rattle.plan.specs.Secrecy.{Pairwise}
use Rattle.plan.specs.Sense.Groups.{EachTwo}
use Rattle.plan.specs.Sheets.{InputTable}
use Rattle.plan.specs.Table.{Cell}
use Rattle.table_part.specs.TablePart.{cell_count, label_place, label_of}

-- The elements are bytes, as those of a slice of `u8` are. Without it a first byte of 257 could carry a minimum of 1.
abbrev pub AreBytes : List ℕ → Type 0
AreBytes bytes = (place : ℕ) → byte_at bytes place < 256

-- the new container passes the input checks
abbrev pub ConvertedPasses : Type 0
ConvertedPasses = (bytes : List ℕ) → AreBytes bytes → check_before bytes ≡ accepted → check_input (converted bytes) ≡ accepted

-- ---- what it holds

-- "raises each 1 to 2": a label with another minimum is the old one, and one with a minimum of 1 differs in that alone, the ten lowest bits
pub data LabelConverted (old new : ℕ) : Type 0 where
  kept : minimum_of old ≢ 1 → new ≡ old → LabelConverted old new
  raised : minimum_of old ≡ 1 → minimum_of new ≡ 2 → field_at new 10 22 ≡ field_at old 10 22 → LabelConverted old new

pub record CellConverted (old new : Cell) : Type 0 where
  pub value : new.value ≡ old.value
  pub label : LabelConverted old.label new.label

pub record TableConverted (old new : InputTable) : Type 0 where
  pub columns : new.columns ≡ old.columns
  pub sheets : new.sheets ≡ old.sheets
  pub rows : new.rows ≡ old.rows
  pub cells : Pairwise CellConverted old.cells new.cells

-- the plan and the tables' shapes and values are the same
abbrev pub ConvertedContents : Type 0
ConvertedContents = (bytes : List ℕ) → AreBytes bytes → check_before bytes ≡ accepted
    → (plan_of (converted bytes) ≡ plan_of bytes) × Pairwise TableConverted (input_tables bytes) (input_tables (converted bytes))

-- ---- the offsets

abbrev pub Among : ℕ → List ℕ → Type 0
Among offset [] = ⊥
Among offset (first ∷ rest) = (offset ≡ first) ⊎ Among offset rest

-- a label of some table that differs in the new container stands there
pub record Differs (bytes : List ℕ) (offset : ℕ) : Type 0 where
  pub table : ℕ
  pub cell : ℕ
  pub is-table : table < part_count bytes - 1
  pub is-cell : cell < cell_count (part_of bytes (1 + table))
  pub place : offset ≡ offset_of bytes (1 + table) + label_place cell
  pub differs : label_of (part_of (converted bytes) (1 + table)) cell ≢ label_of (part_of bytes (1 + table)) cell

-- "the offset of each label changed": of each, and of no other
abbrev pub OffsetsExact : Type 0
OffsetsExact = (bytes : List ℕ) → check_before bytes ≡ accepted → (offset : ℕ) → Among offset (changed_labels bytes) ↔ Differs bytes offset

-- each before every one after it
abbrev pub OffsetsRise : Type 0
OffsetsRise = (bytes : List ℕ) → check_before bytes ≡ accepted → EachTwo (λ one later. one < later) (changed_labels bytes)

-- ---- the bytes

-- "leaves all other bytes the same"
pub record BytesKept (bytes : List ℕ) : Type 0 where
  pub same_length : length (converted bytes) ≡ length bytes
  pub others : (place : ℕ) → ¬ Among place (changed_labels bytes) → byte_at (converted bytes) place ≡ byte_at bytes place
  pub changed : (place : ℕ) → Among place (changed_labels bytes) → (byte_at bytes place ≡ 1) × (byte_at (converted bytes) place ≡ 2)

abbrev pub OtherBytesKept : Type 0
OtherBytesKept = (bytes : List ℕ) → AreBytes bytes → check_before bytes ≡ accepted → BytesKept bytes

-- a container without a 1 and without a rule year, one that passes the input checks, is accepted by the old check too and comes back byte for byte
abbrev pub CurrentUnchanged : Type 0
CurrentUnchanged = (bytes : List ℕ) → check_input bytes ≡ accepted → rule_year bytes ≡ 0
    → (check_before bytes ≡ accepted) × (changed_labels bytes ≡ []) × (converted bytes ≡ bytes)
