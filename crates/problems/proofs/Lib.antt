pub mod Tests
pub mod Propers
pub mod Boxes
pub mod Views
pub mod Cuts
pub mod Builds
