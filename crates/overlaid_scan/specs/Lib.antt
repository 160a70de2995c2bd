-- What SCAN, the overlays and the floor leave in work memory. Nothing here is to be believed: it is proved.
pub mod Scanned
