-- What an accepted container holds. Nothing here is to be believed: each of these propositions is proved.
pub mod Accepted
