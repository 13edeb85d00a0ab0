pub mod Words
pub mod Desk
pub mod Answer
pub mod Line
