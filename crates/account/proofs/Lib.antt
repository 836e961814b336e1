mod Fair
mod FairRegisters
mod FairTurn
pub mod Keeping
mod Phases
mod Shares
mod Fate
mod Registering
mod Turning
pub mod Account
pub mod Accounting
pub mod Records
pub mod Running
pub mod Alike
