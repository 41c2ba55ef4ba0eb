mod Answering
mod AskLaws
mod BeginLaws
mod DeskLaws
mod Inside
mod Keeping
mod Landing
mod FoundRows
mod Redoing
mod Restoring
pub mod Lending
pub mod Looking
mod Narrow
mod Noting
mod Publishing
mod Returning
pub mod RoomLaws
mod Saying
mod SessionLaws
pub mod Spares
mod Transactions
mod Writing
