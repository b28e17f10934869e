pub mod Columns
pub mod Numbers
pub mod Strides
pub mod Divisors
pub mod WireIds
