-- Definitions that the contracts of functions speak of, beside those of the paper's words.
pub mod BoxMatches
pub mod FirstBox
pub mod Follows
pub mod LeftOver
pub mod Matches
pub mod OneCall
pub mod OneField
pub mod RunA
pub mod Sim
pub mod SimStep
