-- `AboutOverlays` proves the propositions.
mod Same
mod Orders
pub mod AboutOverlays
