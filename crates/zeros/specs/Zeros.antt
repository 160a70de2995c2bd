-- "Both leave the first 8,192 elements of both work slices zero"; #103's slice of marks is "left zero".
use Rattle.std.specs.Prelude.{ℕ, List, ◌++◌, drop, replicate}

-- a list with its first `count` elements all set to one element
unfoldable pub filled : {A : Type 0} → ℕ → A → List A → List A
filled count element list = replicate count element ++ drop count list
