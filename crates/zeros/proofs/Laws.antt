-- What `filled` is. Assumes nothing.
use Prim.Native.Nat.{ℕ}
use mathlib.Core.Path.{◌≡◌, refl}
use mathlib.Core.List.{List, ◌++◌}
use lib.ListN.{drop, replicate}
use Rattle.zeros.specs.Zeros.{filled}

pub filled_is : {A : Type 0} (count : ℕ) (element : A) (list : List A) → filled count element list ≡ replicate count element ++ drop count list
unfolding filled
filled_is count element list = refl
