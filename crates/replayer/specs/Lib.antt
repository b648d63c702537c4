pub mod InPlace
pub mod Laws
pub mod Memory
pub mod OpenOf
pub mod OpenedOf
pub mod ReadyOf
pub mod StepOf
pub mod Word
