use Rattle.token_forms.specs.Tokens.{tokens_of}
use Rattle.verilog_syntax.specs.VerilogTokens.{verilog_tokens}
use Rattle.verilog_syntax.proofs.ChunkReads.{fault_found}
use Rattle.verilog_syntax.proofs.reading.read_text.Goals as goal

pub returns-in-Err-Fault : goal.returns-in-Err-Fault
returns-in-Err-Fault c =
    let text = c.args.text.now in
    record { value = rw c.fault_of.ensures.value (fault_found text c.args.line (tokens_of text (verilog_tokens text)) c.in-Err-Fault.found c.requires.first (rw (c.in-Err-Fault.field-0-is, c.of.ensures.value) at c.in-Err-Fault.ensures.value)) }
