pub mod Pairs
pub mod Lends
