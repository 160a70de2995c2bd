-- `Reading`: what the function that reads a text answers.
pub mod Reading
