-- The table of a command: its options, what their values are, and which of them stand.
use Rattle.std.specs.Prelude.{ℕ, ◌+◌, ◌-◌, Bool, true, false, ◌&&◌, ◌||◌, not, if◌then◌else◌, List, [], ◌∷◌, ◌++◌, map, codes, decimal, Option, Some, None}
use Rattle.std.specs.List.{list_any, range_with_len}
use Rattle.std.specs.Str.{bytes_eq}
use Rattle.scan_words.specs.declared.table.OptionName.{OptionName}
use Rattle.scan_words.specs.declared.table.OptionName.TheVariants as options
use Rattle.scan_words.specs.declared.table.ValueForm.{ValueForm}
use Rattle.scan_words.specs.declared.table.ValueForm.TheVariants as forms
use Rattle.scan_words.specs.declared.table.Need.{Need}
use Rattle.scan_words.specs.declared.table.Need.TheVariants.{Needed, Optional, With}
use Rattle.scan_words.specs.declared.table.OptionForm.{OptionForm}
use Rattle.scan_words.specs.Form.{◌>>=◌, Text, is_name}

-- what is known of an option: the name behind the two hyphens, and what its value is
pub record OptionRow : Type 0 where
  pub text : Text
  pub form : ValueForm

-- an option of this name whose value has this form
abbrev pub option : Text → ValueForm → OptionRow
option text form = record { text = text; form = form }

-- the table of options: a row for each
abbrev pub option_row : OptionName → OptionRow
option_row options.Table = option (codes "table") forms.File
option_row options.Lef = option (codes "lef") forms.File
option_row options.Verilog = option (codes "verilog") forms.File
option_row options.Def = option (codes "def") forms.File
option_row options.Stil = option (codes "stil") forms.File
option_row options.NewVerilog = option (codes "new-verilog") forms.File
option_row options.NewStil = option (codes "new-stil") forms.File
option_row options.Log = option (codes "log") forms.File
option_row options.OutVerilog = option (codes "out-verilog") forms.File
option_row options.OutDef = option (codes "out-def") forms.File
option_row options.OutStil = option (codes "out-stil") forms.File
option_row options.OutSvg = option (codes "out-svg") forms.File
option_row options.Cell = option (codes "cell") forms.Name
option_row options.InPin = option (codes "in-pin") forms.Pin
option_row options.OutPin = option (codes "out-pin") forms.Pin
option_row options.ScanIn = option (codes "scan-in") forms.Name
option_row options.ScanOut = option (codes "scan-out") forms.Name
option_row options.Effort = option (codes "effort") forms.Effort
option_row options.Device = option (codes "device") forms.Device
option_row options.Rounds = option (codes "rounds") forms.Rounds
option_row options.Units = option (codes "units") forms.Units

-- the name behind the two hyphens
abbrev pub option_text : OptionName → Text
option_text name = (option_row name).text

-- what the option's value is
abbrev pub value_form : OptionName → ValueForm
value_form name = (option_row name).form

-- the names of a table's options
abbrev pub texts : List OptionForm → List Text
texts table = map (λ o. option_text o.name) table

-- whether a text is the decimal of a number from one to another, without sign or leading zero
unfoldable pub is_number : ℕ → ℕ → Text → Bool
is_number low high value = list_any (λ number. bytes_eq value (decimal number)) (range_with_len low (high + 1 - low))

-- whether a text is of the form, besides being a value
abbrev pub has_form : ValueForm → Text → Bool
has_form forms.File value = true
has_form forms.Pin value = true
has_form forms.Name value = true
has_form forms.Effort value = bytes_eq value (codes "order") || bytes_eq value (codes "full")
has_form forms.Device value = bytes_eq value (codes "hold") || bytes_eq value (codes "mix")
has_form forms.Rounds value = is_number 0 1000 value
has_form forms.Units value = is_number 8 16384 value

-- the values that the words give each name
abbrev pub Values : Type 0
Values = Text → List Text

-- an option stands among the words
abbrev pub is_given : List Text → Bool
is_given [] = false
is_given (v ∷ vs) = true

-- the option may be left out
abbrev pub may_lack : Need → Values → Bool
may_lack Needed values = false
may_lack Optional values = true
may_lack (With other) values = not (is_given (values (option_text other)))

-- the option may stand
abbrev pub may_stand : Need → Values → Bool
may_stand Needed values = true
may_stand Optional values = true
may_stand (With other) values = is_given (values (option_text other))

-- the value of an option among those that stand with its name: the only one, of its form, or none where it may be left out
abbrev pub value_among : OptionForm → Values → List Text → Option (Option Text)
value_among o values [] = if may_lack o.need values then Some None else None
value_among o values (v ∷ []) = if may_stand o.need values && has_form (value_form o.name) v then Some (Some v) else None
value_among o values (v ∷ w ∷ ws) = None

-- the value of an option, where its row allows one so
abbrev pub option_value : OptionForm → Values → Option (Option Text)
option_value o values = value_among o values (values (option_text o.name))

-- a value that may be left out, as a list
abbrev pub value_list : Option Text → List Text
value_list None = []
value_list (Some v) = v ∷ []

-- the values of a table's options, in its order
unfoldable pub each_value : Values → List OptionForm → Option (List Text)
each_value values [] = Some []
each_value values (o ∷ os) = do
  value ← option_value o values
  others ← each_value values os
  Some (value_list value ++ others)

-- both are files, or both are pins
abbrev pub is_like : ValueForm → ValueForm → Bool
is_like forms.File forms.File = true
is_like forms.Pin forms.Pin = true
is_like form other = false

-- the values that stand with the options of a form
abbrev pub values_like : ValueForm → Values → List OptionForm → List Text
values_like form values [] = []
values_like form values (o ∷ os) = (if is_like form (value_form o.name) then values (option_text o.name) else []) ++ values_like form values os

-- no two of some texts are the same
abbrev pub are_distinct : List Text → Bool
are_distinct [] = true
are_distinct (v ∷ vs) = not (is_name vs v) && are_distinct vs

-- the files of a command are pairwise different, and so are its pins
abbrev pub are_apart : Values → List OptionForm → Bool
are_apart values table = are_distinct (values_like forms.File values table) && are_distinct (values_like forms.Pin values table)
