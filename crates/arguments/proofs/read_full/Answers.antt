use Rattle.std.proofs.Common.{◌≡◌, ℕ, ◌+◌, ◌≤◌, List, ◌++◌, rules, arith, length, take, subst, drop_at, length-take}
use Rattle.std.proofs.lemmas.Slice.{take-put_mid_below}
use Rattle.std.specs.Io.KnownBytes.{Consumes}
use Rattle.std.proofs.KnownBytes.{Consumes-trans}
use borrow.Rule.Slice.PartMut.{put_mid}
use lib.Seq.{take-add, take-append-le}
use Rattle.arguments.proofs.read_full.Goals as goal

-- what was read into the part stands behind the front
read_behind : (a k n : ℕ) (xs ys : List ℕ) → a ≤ length xs → n ≤ length ys → take a xs ++ take n ys ≡ take (a + n) (put_mid a k xs ys)
read_behind a k n xs ys within fits = grind (arith, take-add a n (put_mid a k xs ys), take-put_mid_below a k xs ys a, drop_at, length-take, take-append-le)

pub loop-read-preserved : goal.loop-read-preserved
loop-read-preserved g c =
    let before = c.loop-read.invariant in (
      search rules,
      subst (Consumes _ _) (read_behind _ _ _ _ _ before.0 c.in_ok-more.ensures.bound.0) (Consumes-trans _ _ _ _ _ before.1 c.in_ok-more.ensures.bytes.0),
    )
