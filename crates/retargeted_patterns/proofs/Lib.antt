mod Counts
mod PortTexts
