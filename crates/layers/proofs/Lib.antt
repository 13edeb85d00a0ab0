pub mod Missed
pub mod Piles
pub mod Commons
