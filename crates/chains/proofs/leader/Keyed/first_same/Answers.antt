-- `chains::leader::Keyed::first_same` meets its contract. The loop: no leader passed has the row's keys. Assumes nothing.
use mathlib.Core.Path.{◌≡◌, refl, sym, ap, ◌∙◌}
use mathlib.Core.Bool.{false}
use native.Mathlib.Omega.{arith}
use lib.ListN.{length}
use Rattle.chains.specs.declared.leader.Lead.{Lead}
use Rattle.chains.specs.promises.Leads.{same_rows, lead_at}
use Rattle.chains.proofs.Hashing.{other-hash}
use Rattle.chains.proofs.Leads.{row-long}
use Rattle.chains.proofs.Listing.{one-more}
use Rattle.chains.proofs.leader.Keyed.first_same.Goals as goal
use Rattle.chains.proofs.leader.Keyed.first_same.Goals.{else-lead-own-via-then-lead-own+else-same_keys, else-lead-own-via-else-lead-own}

pub returns-then-same_keys : goal.returns-then-same_keys
returns-then-same_keys c =
    let a = c.args in
    let i = c.loop-lead.lead-index in
    let before = c.requires.3 i c.loop-lead-test.true in
    record {
      led = λ _. (i, c.loop-lead-test.true, refl, sym (rw (c.row.ensures, c.row-then-lead-own.ensures) at c.same_keys.ensures) ∙ c.if-same_keys.true);
      none = λ e. absurd (omega (arith, before.0, e));
    }

pub loop-lead-preserved : goal.loop-lead-preserved
loop-lead-preserved c =
    let a = c.args in
    let i = c.loop-lead.lead-index in
    let before = c.requires.3 i c.loop-lead-test.true in
    let own = row-long c.requires.0 a.own.row c.requires.1 in
    let other = row-long c.requires.0 (lead_at a.leads.now i).row (omega (arith, before.0, c.requires.1)) in
    one-more (λ i. same_rows a.self (lead_at a.leads.now i).row a.own.row ≡ false) i c.loop-lead.invariant
    (elim c.else-lead-own.branch [
      | else-lead-own-via-then-lead-own+else-same_keys w ↦ sym (rw (w.row.ensures, w.row-then-lead-own.ensures) at w.same_keys.ensures) ∙ w.if-same_keys.false
      | else-lead-own-via-else-lead-own w ↦ other-hash a.self.keys _ _ (own ∙ sym other)
          (λ e. w.if-lead-own.false (ap (λ (lead : Lead). lead.hash) before.1 ∙ e ∙ sym (ap (λ (lead : Lead). lead.hash) c.requires.2)))
    ])

pub returns : goal.returns
returns c =
    let e : c.loop-lead.lead-index ≡ length c.args.leads.now = omega arith in
    record { led = λ n. absurd (n refl); none = λ _. rw e at c.loop-lead.invariant }
