-- What tables with accepted overlays hold under a rule year. Nothing here is to be believed: each of these propositions is proved.
pub mod Overlaid
