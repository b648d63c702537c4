pub mod Alike
pub mod Shown
pub mod ToEnd
pub mod Laws
