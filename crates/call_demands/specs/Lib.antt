-- The library's calls, and the three demands on them. These files are what a reader must believe.
pub mod Calls
pub mod CallMemory
pub mod CallAccuracy
pub mod CheckDemands
pub mod ConvertDemands
