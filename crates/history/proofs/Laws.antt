-- Laws of the definitions of specs/. All of them are proved; a reader does not have to trust anything here.
pub mod Access
pub mod Advance
pub mod Closed
pub mod Done
pub mod Entry
pub mod Example
pub mod Faithful
pub mod History
pub mod Memory
pub mod OneMore
pub mod Order
pub mod Progress
pub mod Ready
pub mod Run
pub mod Sound
pub mod Step
