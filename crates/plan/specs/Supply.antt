-- What a plan is given besides its steps: the container's tables, and the draws (#102), of which each NOISE uses up some.
use Rattle.std.specs.Prelude.{ℕ, List, ℤ, drop}
use Rattle.plan.specs.Table.{Table}

pub record Supply : Type 0 where
  pub tables : List Table
  pub draws : List ℤ

abbrev pub supplied : List Table → List ℤ → Supply
supplied tables draws = record { tables = tables; draws = draws }

-- what is left of it when so many draws are used
abbrev pub without_draws : ℕ → Supply → Supply
without_draws used supply = supplied supply.tables (drop used supply.draws)
