-- What SCAN asks of its arguments.
pub mod Scanning
