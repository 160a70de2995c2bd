-- #107: what a conversion makes of a container that the old check accepts. Each of these propositions is proved.
pub mod Converted
