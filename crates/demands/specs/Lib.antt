-- The monitor and its three demands. These files are what a reader must believe.
pub mod Given
pub mod Lent
pub mod Answers
pub mod Monitor
pub mod Memory
pub mod Accuracy
pub mod Secrecy
