-- Definitions that the contracts of functions speak of, beside those of the paper's words.
pub mod BlockCode
