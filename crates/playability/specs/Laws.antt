-- Definitions that the contracts of functions speak of, beside those of the paper's words.
pub mod Counted
pub mod Held
pub mod PlayableCode
pub mod SettleCode
pub mod Theorem
pub mod Walk
