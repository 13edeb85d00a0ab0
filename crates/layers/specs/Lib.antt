pub mod Divisor
pub mod Pile
pub mod Divisors
pub mod Frees
