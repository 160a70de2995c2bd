-- The checks 16 to 19. `PlanCheck` is what a reader must believe; `promises` has what the functions of this crate promise one another.
pub mod PlanCheck
pub mod promises
