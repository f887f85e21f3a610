pub mod Copied
pub mod LentLaws
pub mod LinkLists
