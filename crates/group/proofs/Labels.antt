-- Labels discharged and composed through the label library. Assumes nothing.
use Prim.Native.Nat.{ℕ, ◌<◌}
use mathlib.Core.Path.{◌≡◌, refl, ◌∙◌}
use mathlib.Core.Bool.{true}
use mathlib.Core.List.{List, ◌∷◌}
use borrow.Author.Tests.{lt-ltb}
use Rattle.group.specs.promises.Members.{AllowedLabel, Allowed, column_labels}
use Rattle.label_words.specs.Answers.{label_says, label}
use Rattle.label_composition.specs.Composition.{composed, compose_answer}
use Rattle.label_discharge.specs.Discharge.{after_a, aggregate_exists, aggregated, aggregate_answer}
use Rattle.label_words.specs.WellFormed.{well_formed}
use Rattle.std.specs.Prelude.{Result, Ok, Err}
use Rattle.label_words.specs.declared.LabelRefusal.{LabelRefusal}
use Rattle.label_words.specs.declared.LabelRefusal.TheVariants.{Forbidden, IllFormed, NoOperation}
use Rattle.plan.specs.Group.{composed_after}
use Rattle.plan.specs.Table.{Each, Row, cell_at}
use Rattle.label_laws.proofs.Laws.{compose-well-formed, after-A-well-formed, zero-well-formed}

pub is-label : (answer : Result ℕ LabelRefusal) (word : ℕ) → label_says answer ≡ label word → answer ≡ Ok word
is-label (Ok w) word e = cc
is-label (Err Forbidden) word e = cc
is-label (Err IllFormed) word e = cc
is-label (Err NoOperation) word e = cc

pub discharged : (answer : Result ℕ LabelRefusal) (word code rows : ℕ) → label_says answer ≡ aggregate_answer word code rows → AllowedLabel word → code < 5 → answer ≡ Ok (after_a word code rows)
unfolding aggregate_answer aggregate_exists aggregated
discharged answer word code rows e a h = is-label answer (after_a word code rows) (e ∙ rw (a.0, lt-ltb code 5 h, a.1))

pub composes : (answer : Result ℕ LabelRefusal) (a b : ℕ) → label_says answer ≡ compose_answer a b → well_formed a ≡ true → well_formed b ≡ true → answer ≡ Ok (composed a b)
unfolding compose_answer
composes answer a b e p q = is-label answer (composed a b) (e ∙ rw (p, q))

-- what stands in the answer
pub word_of : {answer : Result ℕ LabelRefusal} {a b : ℕ} → answer ≡ Ok a → answer ≡ Ok b → a ≡ b
word_of p q = cc

-- a label composed with a row's, discharged
pub composed-formed : (all next code size : ℕ) → well_formed all ≡ true → well_formed next ≡ true → well_formed (composed all (after_a next code size)) ≡ true
composed-formed all next code size p q = compose-well-formed all (after_a next code size) p (after-A-well-formed next code size q)

-- a composition so far, and the members that are left
pub record Composing (code size column whole all : ℕ) (left : List Row) : Type 0 where
  pub formed : well_formed all ≡ true
  pub allowed : Each (Allowed column) left
  pub rest : whole ≡ composed_after code size all (column_labels column left)

pub none-composed : (code size column : ℕ) (left : List Row) → Each (Allowed column) left → Composing code size column (composed_after code size 0 (column_labels column left)) 0 left
none-composed code size column left a = record { formed = zero-well-formed; allowed = a; rest = refl }

pub label-taken : {code size column whole all next : ℕ} {left : List Row} {row : Row} → Composing code size column whole all (row ∷ left)
    → next ≡ composed all (after_a (cell_at column row).label code size) → Composing code size column whole next left
label-taken {code} {size} {column} {whole} {all} {next} {left} {row} c e = record {
  formed = rw e (composed-formed all (cell_at column row).label code size c.formed c.allowed.0.0);
  allowed = c.allowed.1;
  rest = rw e c.rest;
}
