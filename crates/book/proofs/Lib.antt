pub mod Faults
pub mod Drafts
pub mod Propers
