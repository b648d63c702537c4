pub mod Hold
pub mod Order
pub mod PlayableOf
pub mod Settle
pub mod Statement
pub mod Laws
