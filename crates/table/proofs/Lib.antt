pub mod Passes
pub mod Theorems
pub mod Order
pub mod Joining
pub mod Walks
pub mod Octets
