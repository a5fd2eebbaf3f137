use Rattle.made_law.proofs.verilog.Texts.{words_are}
use Rattle.made_law.proofs.verilog.made_words_law.Goals as goal

pub returns : goal.returns
returns c = record { law = words_are }
