-- Definitions that the contracts of functions speak of, beside those of the paper's words.
pub mod Done
pub mod Entry
pub mod Example
pub mod Order
pub mod Progress
pub mod Run
pub mod Sound
pub mod Step
