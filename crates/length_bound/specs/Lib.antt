pub mod Certificates
pub mod Growth
pub mod Trees
