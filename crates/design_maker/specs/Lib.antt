pub mod Pieces
pub mod Numbers
pub mod Chains
pub mod MadeCells
pub mod MadeVerilog
pub mod MadeDef
pub mod MadeStil
pub mod Made
