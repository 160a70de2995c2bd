-- #106: "It refuses with 21 when an overlay's count, directory, header or length does not fit the container, and with 22 at a label"; "each overlay's 21
-- before its 22, and the place is the offset in the overlay, found as for 11, 12, 13 and 15".
use Rattle.std.specs.Prelude.{ℕ, zero, suc, ◌+◌, cond, not, ◌||◌, List, eqb, ltb, length}
use Rattle.directory.specs.Directory.{check_directory}
use Rattle.input.specs.Verdict.{InputVerdict, accepted, and_then, reject_if}
use Rattle.layout.specs.Layout.{part_count, pair_at, offset_of, part_of}
use Rattle.little_endian.specs.Bytes.{number_at}
use Rattle.overlay_part.specs.Labels.{check_labels}
use Rattle.overlay_part.specs.OverlayPart.{part_fits}

-- "a 16-bit count", in which there is no rule year
abbrev pub overlay_count : List ℕ → ℕ
overlay_count overlay = number_at overlay 0 2

-- as 11: "at most 65,536 bytes: a 16-bit count equal to the number of tables, a directory"; the container has one part more, the plan
unfoldable pub check_count : List ℕ → List ℕ → InputVerdict
check_count container overlay =
    reject_if
    (ltb 65536 (length overlay) || ltb (length overlay) 2 || not (eqb (overlay_count overlay + 1) (part_count container))
    || ltb (length overlay) (pair_at (overlay_count overlay)))
    21 0

-- as 13, of one part: part 0 is of the container's part 1, table 0
abbrev pub check_part : List ℕ → List ℕ → ℕ → InputVerdict
check_part container overlay part = reject_if (not (part_fits (part_of container (part + 1)) (part_of overlay part))) 21 (offset_of overlay part)

-- as 15, of one part
abbrev pub check_part_labels : List ℕ → ℕ → InputVerdict
check_part_labels overlay part = check_labels (part_of overlay part) (offset_of overlay part)

-- so many parts from one on
abbrev pub each_part : (ℕ → InputVerdict) → ℕ → ℕ → InputVerdict
each_part check part zero = accepted
each_part check part (suc more) = and_then (check part) (each_part check (suc part) more)

-- "an empty slice is no overlay"
unfoldable pub check_overlay : List ℕ → List ℕ → InputVerdict
check_overlay container overlay =
    cond (eqb (length overlay) 0) accepted
    (and_then (check_count container overlay)
    (and_then (check_directory 21 (overlay_count overlay) overlay)
    (and_then (each_part (check_part container overlay) 0 (overlay_count overlay)) (each_part (check_part_labels overlay) 0 (overlay_count overlay)))))
