-- Demand 3, secrecy: two inputs that differ only in the values of locked cells give the same answer, and leave the same contents in every lent
-- slice. #108: "secrecy for two inputs of one year".
use Rattle.std.specs.Prelude.{ℕ, ◌≡◌, true}
use Rattle.input.specs.Verdict.{accepted}
use Rattle.plan.specs.Secrecy.{Pairwise, AlikeTables}
use Rattle.demands.specs.Given.{Given, check_given, plan_given, year_given, tables_given}
use Rattle.demands.specs.Lent.{Lent, enough}
use Rattle.demands.specs.Monitor.{monitor}

-- two inputs of this year with the same plan, with tables alike but for the values of cells that the plan locks (#103: byte 1 is the same in both), and
-- #102: "The two compared inputs use the same list." #106: "The secrecy rule speaks of the composed labels", those of the tables with the overlays, as the
-- year reads them.
pub record AlikeInputs (year : ℕ) (a b : Given) : Type 0 where
  pub years : (year_given a ≡ year) × (year_given b ≡ year)
  pub plans : plan_given a ≡ plan_given b
  pub tables : Pairwise (AlikeTables (plan_given a)) (tables_given year a) (tables_given year b)
  pub draws : a.draws ≡ b.draws

-- Two inputs that differ only in the values of locked cells give the same answer, rows, places and trace lines, and leave every lent slice
-- with the same contents.
abbrev pub SecrecyOfRuns : Type 0
SecrecyOfRuns = (year : ℕ) (a b : Given) → check_given a ≡ accepted → check_given b ≡ accepted → AlikeInputs year a b → (lent : Lent) → enough lent ≡ true
    → monitor a lent ≡ monitor b lent
