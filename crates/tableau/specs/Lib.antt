pub mod Lines
pub mod Choices
pub mod Tableau
pub mod Pivot
pub mod Sound
