-- The runs of a trial on the bytes of files.
use Rattle.std.specs.Prelude.{◌≡◌, ◌⊎◌, ℕ, List, Option, Some, None, Result, Ok}
use Rattle.std.specs.Fn.{CalledAt, Mut}
use Rattle.std.specs.declared.io.Error.{Error}
use denote.Ref.{Bor}

-- a run on some bytes, which answered that all went well, left `after` of `before`
abbrev pub RanOn : {F : Type 0} → Mut F (Bor (List ℕ) × Unit {0}) (Result (Unit {0}) Error) → F → List ℕ → F → Type 0
RanOn trial before bytes after = CalledAt trial before bytes (Ok tt) after

-- one such run, or none
abbrev pub RanOnce : {F : Type 0} → Mut F (Bor (List ℕ) × Unit {0}) (Result (Unit {0}) Error) → F → F → Type 0
RanOnce trial before after = (before ≡ after) ⊎ ((bytes : List ℕ) × RanOn trial before bytes after)

-- a run on the bytes of a file, or none where it could not be opened
abbrev pub RanIf : {F : Type 0} → Mut F (Bor (List ℕ) × Unit {0}) (Result (Unit {0}) Error) → F → Option (List ℕ) → F → Type 0
RanIf trial before None after = before ≡ after
RanIf trial before (Some bytes) after = RanOn trial before bytes after
