-- The labels of a group twice over compose to what those of the group do. Assumes nothing.
use Prim.Native.Nat.{ℕ}
use mathlib.Core.Path.{◌≡◌, refl, sym, ap, ◌∙◌}
use mathlib.Core.Bool.{true}
use mathlib.Core.List.{List, [], ◌∷◌, ◌++◌}
use Rattle.label_composition.specs.Composition.{composed}
use Rattle.label_discharge.specs.Discharge.{after_a}
use Rattle.label_words.specs.WellFormed.{well_formed}
use Rattle.label_laws.proofs.Laws.{compose-comm, compose-assoc, compose-idem, after-A-well-formed}
use Rattle.plan.specs.Group.{composed_after}
use Rattle.plan.specs.Table.{Each}

-- two labels that are composed after a third may change places
swap : (a b c : ℕ) → composed (composed a b) c ≡ composed (composed a c) b
swap a b c = compose-assoc a b c ∙ ap (λ (l : ℕ). composed a l) (compose-comm b c) ∙ sym (compose-assoc a c b)

-- a label composed in once more changes nothing
again : (a b : ℕ) → well_formed b ≡ true → composed (composed a b) b ≡ composed a b
again a b w = compose-assoc a b b ∙ ap (λ (l : ℕ). composed a l) (compose-idem b w)

module _ (code sheets : ℕ) where
  abbrev after : ℕ → ℕ
  after label = after_a label code sheets

  abbrev over : ℕ → List ℕ → ℕ
  over label labels = composed_after code sheets label labels

  -- a label that is composed last might be composed first
  last-first : (label last : ℕ) (labels : List ℕ) → composed (over label labels) last ≡ over (composed label last) labels
  last-first label last [] = refl
  last-first label last (next ∷ rest) =
      last-first (composed label (after next)) last rest ∙ ap (λ (l : ℕ). over l rest) (swap label (after next) last)

  -- a label that takes in each of some labels is not changed by them
  taken_in : (label : ℕ) (labels : List ℕ) → Each (λ next. composed label (after next) ≡ label) labels → over label labels ≡ label
  taken_in label [] p = refl
  taken_in label (next ∷ rest) p = rw p.0 (taken_in label rest p.1)

  -- what labels compose to takes in each of them
  takes-in : (label : ℕ) (labels : List ℕ) → Each (λ next. well_formed next ≡ true) labels
      → Each (λ next. composed (over label labels) (after next) ≡ over label labels) labels
  takes-in label [] p = tt
  takes-in label (next ∷ rest) p =
      let same = again label (after next) (after-A-well-formed next code sheets p.0) in
      let first = last-first (composed label (after next)) (after next) rest ∙ ap (λ (l : ℕ). over l rest) same in
      (first, takes-in (composed label (after next)) rest p.1)

  -- labels one after the other
  over-append : (label : ℕ) (labels others : List ℕ) → over label (labels ++ others) ≡ over (over label labels) others
  over-append label [] others = refl
  over-append label (next ∷ rest) others = over-append (composed label (after next)) rest others

  pub twice-composed : (label : ℕ) (labels : List ℕ) → Each (λ next. well_formed next ≡ true) labels
      → over label (labels ++ labels) ≡ over label labels
  twice-composed label labels p = over-append label labels labels ∙ taken_in (over label labels) labels (takes-in label labels p)
