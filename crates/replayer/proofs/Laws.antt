-- Laws of the definitions of specs/. All of them are proved; a reader does not have to trust anything here.
pub mod Along
pub mod ByHead
pub mod Frame
pub mod Left
pub mod OpenCode
pub mod OpenOf
pub mod OpenedOf
pub mod ReadyOf
pub mod StepCode
pub mod StepOf
pub mod Word
