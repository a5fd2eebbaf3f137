pub mod Words
pub mod Sections
pub mod SectionForms
pub mod Nets
pub mod NetForms
pub mod Slices
pub mod NetOptions
