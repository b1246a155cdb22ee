pub mod Faults
pub mod Finding
pub mod Defining
pub mod Stating
pub mod Checking
pub mod Families
pub mod Naming
