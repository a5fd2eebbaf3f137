pub mod VerilogText
pub mod NetTexts
pub mod Written
pub mod Inserted
pub mod Wired
