pub mod Printed
pub mod Endings
pub mod Examples
