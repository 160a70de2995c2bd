-- #108: what the rule year of a run can and cannot change. Each of these propositions is proved.
pub mod Years
