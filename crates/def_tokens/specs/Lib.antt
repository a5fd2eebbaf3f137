pub mod DefSplit
pub mod DefStatements
pub mod DefTokens
pub mod Numbers
