-- Definitions that the contracts of functions speak of, beside those of the paper's words.
pub mod Answered
pub mod ReasonsEach
pub mod Told
pub mod ToldBound
