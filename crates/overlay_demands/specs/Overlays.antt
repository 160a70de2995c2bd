-- #106, of runs that are given the same container and draws, and other overlays.
use Rattle.std.specs.Prelude.{ℕ, ◌<◌, ◌≡◌, List, [], ◌∷◌, ◌++◌, ℤ}
use Rattle.demands.specs.Answers.{released}
use Rattle.demands.specs.Given.{Given, check_given}
use Rattle.demands.specs.Lent.{Lent}
use Rattle.demands.specs.Monitor.{monitor}
use Rattle.input.specs.Verdict.{accepted}
use Rattle.layout.specs.Layout.{part_of}
use Rattle.overlay_check.specs.OverlayCheck.{overlay_count}
use Rattle.overlay_part.specs.OverlayPart.{label_in}
use Rattle.plan.specs.Table.{Each}

-- a container and draws with these overlays
abbrev pub with : List ℕ → List ℤ → List (List ℕ) → Given
with container draws overlays = record { container = container; draws = draws; overlays = overlays }

-- ---- the order

-- two lists of the same elements in any two orders
pub data Reordered {A : Type 0} : List A → List A → Type 0 where
  same : {xs : List A} → Reordered xs xs
  later : {x : A} {xs ys : List A} → Reordered xs ys → Reordered (x ∷ xs) (x ∷ ys)
  exchanged : {x y : A} {xs : List A} → Reordered (x ∷ y ∷ xs) (y ∷ x ∷ xs)
  then : {xs ys zs : List A} → Reordered xs ys → Reordered ys zs → Reordered xs zs

-- "The order of accepted overlays makes no difference."
abbrev pub OrderMakesNoDifference : Type 0
OrderMakesNoDifference = (container : List ℕ) (draws : List ℤ) (overlays others : List (List ℕ)) → Reordered overlays others
    → check_given (with container draws overlays) ≡ accepted
    → (lent : Lent) → monitor (with container draws overlays) lent ≡ monitor (with container draws others) lent

-- ---- without them

-- "If a run with overlays releases, the run without them releases the same rows", and the same text. Without overlays every slice is empty.
abbrev pub ReleasedWithout : Type 0
ReleasedWithout = (container : List ℕ) (draws : List ℤ) (overlays none : List (List ℕ)) → Each (λ overlay. overlay ≡ []) none
    → (lent : Lent) (rows columns bytes : ℕ) → (monitor (with container draws overlays) lent).answer ≡ released rows columns bytes
    → ((monitor (with container draws none) lent).answer ≡ released rows columns bytes)
    × ((monitor (with container draws none) lent).left.output ≡ (monitor (with container draws overlays) lent).left.output)
    × ((monitor (with container draws none) lent).left.text ≡ (monitor (with container draws overlays) lent).left.text)

-- ---- labels of zero

abbrev pub ZeroLabels : List ℕ → Type 0
ZeroLabels overlay = (part : ℕ) → part < overlay_count overlay → (cell : ℕ) → label_in (part_of overlay part) cell ≡ 0

-- an accepted overlay of zero labels changes nothing: an empty slice in its place gives the same run
abbrev pub ZeroChangesNothing : Type 0
ZeroChangesNothing = (container : List ℕ) (draws : List ℤ) (before after : List (List ℕ)) (overlay : List ℕ) → ZeroLabels overlay
    → check_given (with container draws (before ++ (overlay ∷ after))) ≡ accepted
    → (lent : Lent) → monitor (with container draws (before ++ (overlay ∷ after))) lent ≡ monitor (with container draws (before ++ ([] ∷ after))) lent
