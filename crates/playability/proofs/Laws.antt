-- Laws of the definitions of specs/. All of them are proved; a reader does not have to trust anything here.
pub mod Counted
pub mod Example
pub mod Held
pub mod Order
pub mod PlayableCode
pub mod PlayableOf
pub mod SettleCode
pub mod Theorem
pub mod Walk
