pub mod Follow
pub mod Within
pub mod Laws
