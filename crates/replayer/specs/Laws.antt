-- Definitions that the contracts of functions speak of, beside those of the paper's words.
pub mod Along
pub mod ByHead
pub mod Frame
pub mod Left
pub mod OpenCode
pub mod OpenOf
pub mod OpenedOf
pub mod ReadyOf
pub mod StepCode
pub mod StepOf
