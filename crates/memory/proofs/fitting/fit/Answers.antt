-- `memory::fitting::fit` meets its contract. Assumes nothing.
use mathlib.Core.Path.{sym, ap, ◌∙◌}
use mathlib.Core.List.{[]}
use Rattle.std.specs.Prelude.{Option, ok_or}
use Prim.Native.Nat.{ℕ}
use Rattle.memory.proofs.TopWidths.{fit_is}
use Rattle.memory.proofs.fitting.fit.Goals as goal

pub returns : goal.returns
returns c =
    let a = c.args in
    c.ok_or.ensures.value ∙ ap (λ (made : Option ℕ). ok_or made (record {})) c.made_width.ensures
    ∙ fit_is a.step [] a.values a.labels a.stack (sym c.ready.ensures ∙ c.if-not-ready.false)
    (sym c.enough_tables.ensures ∙ c.if-not-enough_tables.false) c.live_table-left.ensures c.live_table-right.ensures
