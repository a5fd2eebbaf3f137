-- The command that clap is given.
use Rattle.std.specs.Prelude.{◌≡◌, Bool, true, false, List, [], ◌∷◌, ◌++◌, map, codes, Some, unwrap_or, option_map}
use Rattle.clap.specs.Matches.{found_of, matched_of, raw_values}
use Rattle.clap.specs.declared.builder.command.Command.{Command}
use Rattle.clap.specs.declared.builder.command.Command.TheViews.{out-Command}
use Rattle.clap.specs.declared.parser.matches.ArgMatches.{ArgMatches}
use Rattle.clap.specs.Simple.{App, Shape, new_app, new_rule, on_top, with_subcommand}
use Rattle.clap.specs.Walk.{Rule, Text}
use Rattle.scan_words.specs.declared.verb.Verb.{Verb}
use Rattle.scan_words.specs.Verbs.{verbs, verb_name, option_names, takes_further}
use Rattle.clap.specs.declared.builder.action.ArgAction.TheVariants.{Append}

-- the rule of an option: it may stand as often as it likes, each time with a value
abbrev pub bare_option : Text → Rule
bare_option name = record (new_rule name) { long = Some name; action = Some Append }

-- the rule of further words
abbrev pub bare_further : Rule
bare_further = record (new_rule (codes "further")) { action = Some Append }

-- the rule of further words, where the command takes any
abbrev pub bare_furthers : Bool → List Rule
bare_furthers true = bare_further ∷ []
bare_furthers false = []

-- the rules of a command's options and further words
abbrev pub bare_rules : List Text → Bool → List Rule
bare_rules names takes_further = map bare_option names ++ bare_furthers takes_further

-- a command's shape with these rules
abbrev pub with_bare_rules : List Rule → Shape → Shape
with_bare_rules rules s = record s { rules = rules }

-- the subcommand of a name with its rules
abbrev pub app_for : Text → List Text → Bool → App
app_for name names takes_further = on_top (with_bare_rules (bare_rules names takes_further)) (new_app name)

-- the subcommand of a command
abbrev pub app_of_verb : Verb → App
app_of_verb verb = app_for (verb_name verb) (option_names verb) (takes_further verb)

-- the program, with a subcommand for each command, and neither help nor a name before the words
abbrev pub program_top : App
program_top = on_top (λ s. record s { no_binary_name = true; disable_help_flag = true; disable_help_subcommand = true }) (new_app (codes "wrenpewter"))

-- a program with a subcommand for each of some commands besides
abbrev pub with_verbs : App → List Verb → App
with_verbs app [] = app
with_verbs app (verb ∷ others) = with_verbs (with_subcommand app (app_of_verb verb).top) others

-- the program with a subcommand for each command
abbrev pub program : App
program = with_verbs program_top verbs

-- no argument is global
abbrev pub IsLocal : Command → Type 0
IsLocal c = (out-Command c).has_globals ≡ false

-- the values that a parse found with a name
abbrev pub raw_of : ArgMatches → Text → List Text
raw_of m name = unwrap_or (option_map raw_values (matched_of (found_of m) name)) []
