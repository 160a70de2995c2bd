-- `group::labelling::with_label` meets its contract: labels that allow it are discharged and composed, and no other answer comes. Assumes nothing.
use Prim.Native.Nat.{ℕ, ◌<◌}
use native.Mathlib.Omega.{arith}
use mathlib.Core.Path.{◌≡◌, sym, ap, ◌∙◌}
use Rattle.std.specs.Prelude.{Result, Ok}
use Rattle.std.specs.Result.{result_unwrap_or}
use Rattle.label_words.specs.declared.LabelRefusal.{LabelRefusal}
use Rattle.group.specs.promises.Members.{AllowedLabel}
use Rattle.label_composition.specs.Composition.{composed}
use Rattle.label_discharge.specs.Discharge.{after_a}
use Rattle.group.proofs.Labels.{word_of, discharged, composes}
use Rattle.label_laws.proofs.Laws.{after-A-well-formed, compose-clear}
use Rattle.group.proofs.labelling.with_label.Goals as goal
use Rattle.group.proofs.labelling.with_label.Goals.{After-discharge_aggregate}

-- the label that is left
left_is : (c : After-discharge_aggregate) → let s = c.args in AllowedLabel s.next → s.code < 5 → c.discharge_aggregate.result ≡ Ok (after_a s.next s.code s.size)
left_is c n h =
    let s = c.args in
    discharged c.discharge_aggregate.result s.next s.code s.size c.discharge_aggregate.ensures n h

-- it is clear
pub returns-in-Ok-eq0 : goal.returns-in-Ok-eq0
returns-in-Ok-eq0 c = λ a n h.
    let s = c.args in
    let left = word_of c.in-Ok-eq0.is (left_is (goal.at.returns-in-Ok-eq0 c).After-discharge_aggregate n h) in
    let clear : after_a s.next s.code s.size ≡ 0 = omega arith in
    sym (ap (composed s.all) clear ∙ (compose-clear s.all a).0)

pub returns-in-Ok : goal.returns-in-Ok
returns-in-Ok c = λ a n h.
    let s = c.args in
    let left = word_of c.in-Ok.is (left_is (goal.at.returns-in-Ok c).After-discharge_aggregate n h) in
    let made = composes c.compose.result s.all (after_a s.next s.code s.size) (rw left at c.compose.ensures) a (after-A-well-formed s.next s.code s.size n.0) in
    c.unwrap_or.ensures ∙ ap (λ (r : Result ℕ LabelRefusal). result_unwrap_or r 0) made

pub returns-in-Err : goal.returns-in-Err
returns-in-Err c = λ a n h.
    let left = left_is (goal.at.returns-in-Err c).After-discharge_aggregate n h in
    cc (c.in-Err.is)
