-- Definitions that the contracts of functions speak of, beside those of the paper's words.
pub mod Each
pub mod FirstUnmet
pub mod Look
pub mod Moved
pub mod Next
pub mod Sound
