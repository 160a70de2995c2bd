-- `Number`: the number that a report answers.
pub mod Number
