-- The table of commands: a row for each.
use Rattle.std.specs.Prelude.{Bool, true, false, if◌then◌else◌, List, [], ◌∷◌, codes, Option, Some, None}
use Rattle.std.specs.Str.{bytes_eq}
use Rattle.scan_words.specs.declared.table.OptionName.{OptionName}
use Rattle.scan_words.specs.declared.table.OptionName.TheVariants as options
use Rattle.scan_words.specs.declared.table.Need.TheVariants.{Needed, Optional, With}
use Rattle.scan_words.specs.declared.table.OptionForm.{OptionForm}
use Rattle.scan_words.specs.declared.verb.Verb.{Verb}
use Rattle.scan_words.specs.declared.verb.Verb.TheVariants.{Rewire, Trace, Check, Reorder, Play, Bound, Verify, Failmap, Bench, Balance, Draw}
use Rattle.scan_words.specs.Form.{Text}
use Rattle.scan_words.specs.Table.{texts}

-- what is known of a command: its word, its options in the order of their values, and whether it takes further words
pub record VerbRow : Type 0 where
  pub word : Text
  pub options : List OptionForm
  pub takes_further : Bool

-- an option that stands
abbrev pub needed : OptionName → OptionForm
needed name = record { name = name; need = Needed }

-- an option that may be left out
abbrev pub optional : OptionName → OptionForm
optional name = record { name = name; need = Optional }

-- an option that stands exactly where another one does
abbrev pub beside : OptionName → OptionName → OptionForm
beside other name = record { name = name; need = With other }

-- the commands
abbrev pub verbs : List Verb
verbs = Rewire ∷ Trace ∷ Check ∷ Reorder ∷ Play ∷ Bound ∷ Verify ∷ Failmap ∷ Bench ∷ Balance ∷ Draw ∷ []

-- the row of a command
abbrev pub verb_row : Verb → VerbRow
verb_row Rewire = record {
  word = codes "rewire";
  options = needed options.Verilog ∷ needed options.Cell ∷ needed options.InPin ∷ needed options.OutPin ∷ needed options.ScanIn ∷ needed options.ScanOut ∷ needed options.OutVerilog ∷ [];
  takes_further = true;
}
verb_row Trace = record {
  word = codes "trace";
  options = needed options.Table ∷ needed options.Verilog ∷ needed options.ScanOut ∷ [];
  takes_further = false;
}
verb_row Check = record {
  word = codes "check";
  options = needed options.Table ∷ needed options.Lef ∷ needed options.Verilog ∷ needed options.Def ∷ [];
  takes_further = false;
}
verb_row Reorder = record {
  word = codes "reorder";
  options = needed options.Table ∷ needed options.Lef ∷ needed options.Verilog ∷ needed options.Def ∷ needed options.OutVerilog ∷ needed options.OutDef ∷ needed options.Effort
      ∷ optional options.Stil ∷ beside options.Stil options.OutStil ∷ [];
  takes_further = false;
}
verb_row Play = record {
  word = codes "play";
  options = needed options.Table ∷ needed options.Verilog ∷ needed options.Stil ∷ needed options.Device ∷ [];
  takes_further = false;
}
verb_row Bound = record {
  word = codes "bound";
  options = needed options.Table ∷ needed options.Lef ∷ needed options.Verilog ∷ needed options.Def ∷ optional options.Rounds ∷ [];
  takes_further = false;
}
verb_row Verify = record {
  word = codes "verify";
  options = needed options.Table ∷ needed options.Verilog ∷ needed options.Stil ∷ needed options.NewVerilog ∷ needed options.NewStil ∷ [];
  takes_further = false;
}
verb_row Failmap = record {
  word = codes "failmap";
  options = needed options.Table ∷ needed options.Verilog ∷ needed options.Stil ∷ needed options.NewVerilog ∷ needed options.NewStil ∷ needed options.Log ∷ [];
  takes_further = false;
}
verb_row Bench = record {
  word = codes "bench";
  options = needed options.Units ∷ [];
  takes_further = false;
}
verb_row Balance = record {
  word = codes "balance";
  options = needed options.Table ∷ needed options.Lef ∷ needed options.Verilog ∷ needed options.Def ∷ needed options.OutVerilog ∷ needed options.OutDef
      ∷ optional options.Stil ∷ beside options.Stil options.OutStil ∷ [];
  takes_further = false;
}
verb_row Draw = record {
  word = codes "draw";
  options = needed options.Table ∷ needed options.Lef ∷ needed options.Verilog ∷ needed options.Def ∷ needed options.OutSvg ∷ [];
  takes_further = false;
}

-- the command word
abbrev pub verb_name : Verb → Text
verb_name verb = (verb_row verb).word

-- the table of a command's options
abbrev pub options_of : Verb → List OptionForm
options_of verb = (verb_row verb).options

-- the names of a command's options
abbrev pub option_names : Verb → List Text
option_names verb = texts (options_of verb)

-- whether a command takes further words
abbrev pub takes_further : Verb → Bool
takes_further verb = (verb_row verb).takes_further

-- the first of some commands that has the word
abbrev pub verb_among : List Verb → Text → Option Verb
verb_among [] word = None
verb_among (verb ∷ others) word = if bytes_eq word (verb_name verb) then Some verb else verb_among others word

-- the command of a word
unfoldable pub verb_of : Text → Option Verb
verb_of word = verb_among verbs word
