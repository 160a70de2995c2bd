-- What the chains of a table promise, the rows that lead groups, and the hash values that they are found by.
pub mod Chains
pub mod Hash
pub mod Leads
