pub mod StilSplit
pub mod StilStatements
pub mod StilTokens
