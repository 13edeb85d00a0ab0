pub mod Fault
pub mod Draft
