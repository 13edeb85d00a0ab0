pub mod Shapes
pub mod Facts
pub mod Limit
