-- `conversion::raising::copy` meets its contract. Assumes nothing.
use Prim.Native.Nat.{ℕ}
use mathlib.Core.Path.{◌≡◌, ap, ◌∙◌}
use mathlib.Core.List.{List}
use native.Mathlib.Omega.{arith}
use lib.ListN.{length, get_or, set, length-set}
use lib.Seq.{take-length}
use Rattle.conversion.proofs.Ones.{one-copied}
use Rattle.conversion.proofs.raising.copy.Goals as goal

pub loop-i-preserved : goal.loop-i-preserved
loop-i-preserved c =
    let a = c.args in (
      rw length-set c.loop-i.invariant.0,
      ap (λ (s : List ℕ). set s c.loop-i.i (get_or a.bytes.now c.loop-i.i 0)) c.loop-i.invariant.1 ∙ one-copied a.bytes.now a.new.now c.loop-i.i (omega arith) (omega arith),
    )

pub returns : goal.returns
returns c =
    let all : c.loop-i.i ≡ length c.args.bytes.now = omega arith in
    c.loop-i.invariant.1 ∙ rw (all, take-length c.args.bytes.now)
