pub mod As
pub mod DraftPairs
pub mod GivenTrees
pub mod Giving
pub mod MadeProofs
pub mod NoMore
pub mod OneTaken
pub mod Told
