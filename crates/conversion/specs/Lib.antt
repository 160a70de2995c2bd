-- The conversion of stored containers. `Conversion` and `Converting` are what a reader must believe; `promises` has what the functions here promise.
pub mod Conversion
pub mod Converting
pub mod promises
