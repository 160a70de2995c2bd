-- A step's record as it is copied out of a plan.
use Rattle.std.specs.Prelude.{Bool, cond, Option, Some, None}

-- what a record's fields give, where they are as they should be
abbrev pub where_so : {A : Type 0} → Bool → A → Option A
where_so fits given = cond fits (Some given) None
