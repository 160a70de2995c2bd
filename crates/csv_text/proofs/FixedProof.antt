-- The fixed bytes of a text are the definition's. Assumes nothing.
use mathlib.Core.Path.{refl}
use Rattle.csv_text.specs.promises.Fixed.{NamesAreFixed, LineEndIsFixed}

pub names-are-fixed : NamesAreFixed
names-are-fixed = refl

pub line-end-is-fixed : LineEndIsFixed
line-end-is-fixed = refl
