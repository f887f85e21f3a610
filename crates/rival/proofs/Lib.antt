pub mod Passing
pub mod Meetings
pub mod Cuts
pub mod Fields
pub mod Lines
pub mod Exact
pub mod Piecemeal
pub mod Examples
