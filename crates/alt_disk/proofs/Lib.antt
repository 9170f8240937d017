pub mod Calls
pub mod Shapes
pub mod Settled
pub mod Runs
mod Replay
mod ToFail
mod MemoryCalls
mod Picking
mod Walk
mod Settle
mod PickedFits
pub mod Staying
