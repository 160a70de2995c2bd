-- `Release`: what a release answers, and what the output holds afterwards.
pub mod Release
