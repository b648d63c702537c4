pub mod Calls
pub mod Layout
pub mod Parse
pub mod Range
pub mod Section
pub mod Starting
pub mod Laws
