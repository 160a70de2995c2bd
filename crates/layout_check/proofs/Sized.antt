-- What the check 11 says of a container. Assumes nothing.
use Prim.Native.Nat.{ℕ, ◌≤◌}
use mathlib.Core.Path.{◌≡◌, refl}
use mathlib.Core.Bool.{Bool, true, false, true≢false, not, ◌&&◌, ◌||◌, and-eq-true_iff}
use mathlib.Core.List.{List}
use lib.Dec.{leb, ltb}
use lib.ListN.{length}
use borrow.Author.Tests.{ltb-false, leb-true, not-false}
use Rattle.input.specs.Verdict.{accepted}
use Rattle.layout.specs.Layout.{part_count, rule_year, pair_at}
use Rattle.layout_check.specs.Checks.{check_container}
use Rattle.input.proofs.Laws.{not_so}

or-false : (a b : Bool) → (a || b) ≡ false → (a ≡ false) × (b ≡ false)
or-false true b e = absurd (true≢false e)
or-false false b e = (refl, e)

pub record Sized (bytes : List ℕ) : Type 0 where
  pub short : length bytes ≤ 65536
  pub year : rule_year bytes ≤ 1
  pub least : 2 ≤ part_count bytes
  pub most : part_count bytes ≤ 9
  pub room : pair_at (part_count bytes) ≤ length bytes

pub sized : (bytes : List ℕ) → check_container bytes ≡ accepted → Sized bytes
unfolding check_container
sized bytes e =
    let long = ltb 65536 (length bytes) in
    let short = ltb (length bytes) 2 in
    let counted = leb 2 (part_count bytes) && leb (part_count bytes) 9 in
    let late = ltb 1 (rule_year bytes) in
    let o = or-false (long || short || late || not counted) (ltb (length bytes) (pair_at (part_count bytes))) (not_so _ 11 0 e) in
    let p = or-false (long || short || late) (not counted) o.0 in
    let y = or-false (long || short) late p.0 in
    let q = or-false long short y.0 in
    let b = (and-eq-true_iff (leb 2 (part_count bytes)) (leb (part_count bytes) 9)).0 (not-false counted p.1) in
    record {
      short = ltb-false 65536 (length bytes) q.0;
      year = ltb-false 1 (rule_year bytes) y.1;
      least = leb-true 2 (part_count bytes) b.0;
      most = leb-true (part_count bytes) 9 b.1;
      room = ltb-false (length bytes) (pair_at (part_count bytes)) o.1;
    }
