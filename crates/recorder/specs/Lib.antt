pub mod AccessOf
pub mod Full
pub mod WholeRun
pub mod Laws
