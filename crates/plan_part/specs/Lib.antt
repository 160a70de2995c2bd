-- A plan part. `PlanPart` is what a reader must believe; `promises` has what crates promise one another.
pub mod PlanPart
pub mod promises
