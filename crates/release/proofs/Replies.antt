-- The reply of a release, search by search. Assumes nothing.
use Prim.Native.Nat.{ℕ, ◌*◌, ◌≤◌}
use mathlib.Core.Path.{◌≡◌, refl, sym, ap, subst, ◌∙◌}
use mathlib.Core.Bool.{Bool, true, false, ◌&&◌, and-eq-true_iff}
use mathlib.Core.List.{List}
use native.Mathlib.Nat.{zero-add, mul-le-mul}
use native.Mathlib.Omega.{arith}
use lib.Dec.{leb}
use lib.IntN.{ℤ}
use lib.ListN.{length}
use borrow.Author.Tests.{leb-true}
use Rattle.std.specs.Prelude.{Some, None, Result, Ok, Err, IsErrAnd}
use Rattle.cells.specs.declared.At.{At}
use Rattle.cells.specs.declared.DoesNotFit as cells
use Rattle.cells.specs.promises.Cells.{within}
use Rattle.cells.specs.promises.Search.{Reply, says, unfit, table_within, place_says, not_clear_at}
use Rattle.cells.specs.promises.Work.{Work}
use Rattle.plan.specs.Verdict.{fine, refused}
use Rattle.release.specs.declared.ReleaseRefusal.{ReleaseRefusal}
use Rattle.release.specs.declared.ReleaseRefusal.TheVariants.{StageLeft, Over, DoesNotFit}
use Rattle.release.specs.promises.Release.{after_fine, room_reply, release_reply, Releases}
use Rattle.table_values.specs.promises.Over.{first_over_at}

module _ (w : Work) (output : List ℤ) (text : List ℕ) (rows columns : ℕ) where
  abbrev stages : Reply
  stages = not_clear_at 35 0 w.labels 0 rows columns 255

  abbrev overs : Reply
  overs = first_over_at 0 w.values 0 rows columns

  abbrev room : Reply
  room = room_reply w.values output text rows columns

  abbrev Promised : Reply → Result ℕ ReleaseRefusal → List ℤ → List ℕ → Type 0
  Promised reply = Releases reply w.values output text rows columns

  -- a table that is searched is small
  pub few-cells : place_says 35 0 (Ok None) ≡ stages → rows * columns ≤ 2048
  few-cells e = by-fit (table_within 0 rows columns (length w.labels)) refl
    where
      by-fit : (b : Bool) → table_within 0 rows columns (length w.labels) ≡ b → rows * columns ≤ 2048
      by-fit true f =
          let a = (and-eq-true_iff (leb rows 256 && leb columns 8) (within 0 (rows * columns) (length w.labels))).0 f in
          let b = (and-eq-true_iff (leb rows 256) (leb columns 8)).0 a.0 in
          mul-le-mul (leb-true rows 256 b.0) (leb-true columns 8 b.1)
      by-fit false f = let g : says fine ≡ unfit = e ∙ rw f in let z : ◌≡◌ {A = ℕ} 0 1 = cc in absurd (omega arith)

  -- the first search ends it
  first_ends : {reply : Reply} → (next : Reply) → reply ≡ stages → after_fine reply next ≡ after_fine stages next
  first_ends next e = ap (λ (r : Reply). after_fine r next) e

  abbrev whole : Reply
  whole = release_reply w output text rows columns

  -- an answer that says the reply
  as_said : {reply : Reply} {answer : Result ℕ ReleaseRefusal} {o : List ℤ} {t : List ℕ} → Promised reply answer o t → reply ≡ whole → Promised whole answer o t
  as_said {answer = answer} {o} {t} p e = subst (λ (r : Reply). Promised r answer o t) e p

  pub stage-left : (at : At) → place_says 35 0 (Ok (Some at)) ≡ stages → Promised whole (Err (StageLeft at)) output text
  stage-left at e =
      as_said (record { says_so = refl; bytes-are = refl; output-is = refl; text-is = refl })
      (ap (λ (n : ℕ). says (refused 35 n at.column)) (sym (zero-add at.row)) ∙ first_ends (after_fine overs room) e)

  pub labels-unfit : {wrong : cells.DoesNotFit} {answer : Result ℕ ReleaseRefusal} → place_says 35 0 (Err wrong) ≡ stages → IsErrAnd answer (λ found. found ≡ DoesNotFit)
      → Promised whole answer output text
  labels-unfit {answer = Ok bytes} e is = absurd is
  labels-unfit {answer = Err found} e is = rw is (as_said (record { says_so = refl; bytes-are = refl; output-is = refl; text-is = refl }) (first_ends (after_fine overs room) e))

  module _ (clear : place_says 35 0 (Ok None) ≡ stages) where
    -- the second search ends it, or the room
    second-ends : {reply : Reply} → reply ≡ overs → after_fine reply room ≡ whole
    second-ends e = ap (λ (r : Reply). after_fine r room) e ∙ first_ends (after_fine overs room) clear

    pub over-left : (at : At) → place_says 36 0 (Ok (Some at)) ≡ overs → Promised whole (Err (Over at)) output text
    over-left at e =
        as_said (record { says_so = refl; bytes-are = refl; output-is = refl; text-is = refl })
        (ap (λ (n : ℕ). says (refused 36 n at.column)) (sym (zero-add at.row)) ∙ second-ends e)

    pub values-unfit : {wrong : cells.DoesNotFit} {answer : Result ℕ ReleaseRefusal} → place_says 36 0 (Err wrong) ≡ overs → IsErrAnd answer (λ found. found ≡ DoesNotFit)
        → Promised whole answer output text
    values-unfit {answer = Ok bytes} e is = absurd is
    values-unfit {answer = Err found} e is = rw is (as_said (record { says_so = refl; bytes-are = refl; output-is = refl; text-is = refl }) (second-ends e))

    pub then-written : {answer : Result ℕ ReleaseRefusal} {o : List ℤ} {t : List ℕ} → place_says 36 0 (Ok None) ≡ overs → Promised room answer o t → Promised whole answer o t
    then-written e p = as_said p (second-ends e)
