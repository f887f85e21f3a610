pub mod Alike
pub mod Log
pub mod Says
pub mod Beside
pub mod Pieces
