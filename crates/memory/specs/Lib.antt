-- Work memory as tables. `Refusals` has the numbers of the steps' refusals, which a reader must believe; `promises` has what the crates promise one
-- another.
pub mod Refusals
pub mod promises
