-- What the crates promise one another of the stack in work memory, and what every step promises.
pub mod Stack
pub mod Steps
