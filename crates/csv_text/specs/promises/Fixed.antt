-- The fixed bytes of a text, as the code has them, are the definition's.
use Rattle.std.specs.Prelude.{◌≡◌}
use Rattle.csv_text.specs.Text.{names, line_end}
use Rattle.csv_text.specs.declared.TheConstants.{NAMES, LINE_END}

abbrev pub NamesAreFixed : Type 0
NamesAreFixed = NAMES ≡ names

abbrev pub LineEndIsFixed : Type 0
LineEndIsFixed = LINE_END ≡ line_end
