-- #106: what the overlays of a run can and cannot change. Each of these propositions is proved.
pub mod Overlays
