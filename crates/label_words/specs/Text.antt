-- The highest stage and a refusal as text, for people.
use Rattle.std.specs.Prelude.{ℕ, List, codes}
use Rattle.label_words.specs.declared.Highest.{Highest}
use Rattle.label_words.specs.declared.Highest.TheVariants.{H, T, A, N, Clear}
use Rattle.label_words.specs.declared.LabelRefusal.{LabelRefusal}
use Rattle.label_words.specs.declared.LabelRefusal.TheVariants.{Forbidden, IllFormed, NoOperation}

abbrev pub highest_text : Highest → List ℕ
highest_text H = codes "highest H"
highest_text T = codes "highest T"
highest_text A = codes "highest A"
highest_text N = codes "highest N"
highest_text Clear = codes "clear"

-- a refusal with a number stands with its place
abbrev pub refusal_text : LabelRefusal → List ℕ
refusal_text Forbidden = codes "forbidden"
refusal_text IllFormed = codes "15 at 0"
refusal_text NoOperation = codes "17 at 0"
