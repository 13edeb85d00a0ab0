pub mod Whole
pub mod Rows
pub mod Ranges
pub mod Box
pub mod View
pub mod Stated
pub mod Refusals
pub mod Blank
