-- What the proofs share. `About..` prove the propositions of specs/Sense/: they are read first, so that a wrong definition is refused by the
-- sentence that it breaks.
pub mod AboutAggregates
pub mod AboutEnding
pub mod AboutGroups
pub mod AboutLabels
pub mod AboutRefusals
pub mod AboutRows
pub mod AboutTrace
mod Bools
pub mod Pairs
pub mod SecrecyProof
pub mod SenseEach
pub mod SenseEnd
pub mod SenseGroups
pub mod SenseKeep
pub mod SenseLocked
pub mod SenseNoise
pub mod SenseShape
pub mod ExamplesProof
pub mod LockedLaws
pub mod Alike
mod AlikeApply
pub mod AlikeFilter
mod AlikeGroup
mod AlikeJoin
mod AlikeKeep
mod AlikeNoise
