-- What clap finds in words that have parts.
use Rattle.std.proofs.Common.{◌≡◌, Bool, true, false, cond, ◌&&◌, ◌++◌, append_assoc, List, [], ◌∷◌, codes, Option, Some, None, is_some, refl, sym, ap, ◌∙◌}
use Rattle.std.specs.Prelude.{fold}
use Rattle.std.specs.List.{AllByRecursion}
use Rattle.std.specs.Option.{option_map_or}
use Rattle.clap.specs.Lexer.{long_of}
use Rattle.clap.specs.Simple.{Shape, built, entered, is_simple, names_of, new_shape, subcommand_of}
use Rattle.clap.specs.Takes.{level_passes, takes, walk_passes}
use Rattle.clap.specs.Walk.{Names, Row, Rule, Walk, idle, has_row, nothing_held, rows_after, walk, walked, with_default}
use Rattle.std.proofs.lemmas.List.{append-nil}
use Rattle.scan_words.specs.declared.form.WordKind.TheVariants as kinds
use Rattle.scan_words.specs.declared.verb.Verb.{Verb}
use Rattle.scan_words.specs.declared.verb.Verb.TheVariants.{Rewire, Trace, Check, Reorder, Play, Bound, Verify, Failmap, Bench, Balance, Draw}
use Rattle.scan_words.specs.Command.{program}
use Rattle.scan_words.specs.Form.{Text, Part, is_name, is_value, word_kind, long_kind, kind_turn, turn, have_parts, with_part, word_parts, parts_from}
use Rattle.scan_words.specs.Verbs.{verb_name, option_names, takes_further}
use Rattle.scan_words.proofs.Rules.{Finds, finds}
use Rattle.scan_words.proofs.Steps.{walk_at}
use Rattle.scan_words.proofs.Sim.{Goes, add_parts, follows}

-- the words have parts exactly where the test says so
with_part_some : (p : Part) (o : Option (List Part)) → is_some (with_part p o) ≡ is_some o
with_part_some p None = refl
with_part_some p (Some ps) = refl

module _ (names : List Text) (further : Bool) where
  abbrev Same : List Text → Type 0
  Same ws = (want : Option Text) → have_parts names further (is_some want) ws ≡ is_some (parts_from names further want ws)

  module _ (w : Text) (ws : List Text) (ih : Same ws) where
    abbrev behind : Option Text → Option (List Part)
    behind want = parts_from names further want ws

    abbrev test : Option Bool → Bool
    test o = option_map_or (λ next. have_parts names further next ws) o false

    part_same : (p : Part) → have_parts names further false ws ≡ is_some (with_part p (behind None))
    part_same p = ih None ∙ sym (with_part_some p (behind None))

    plain_same : (t : Bool) → test (cond t (Some false) None) ≡ is_some (cond t (with_part (codes "further", w) (behind None)) None)
    plain_same true = part_same (codes "further", w)
    plain_same false = refl

    alone_same : (name : Text) (b : Bool) → test (kind_turn further (cond b kinds.Alone kinds.Wrong)) ≡ is_some (word_parts further w (cond b kinds.Alone kinds.Wrong) (Some (name, None)) behind)
    alone_same name true = ih (Some name)
    alone_same name false = refl

    attached_same : (name value : Text) (b : Bool) → test (kind_turn further (cond b kinds.Attached kinds.Wrong)) ≡ is_some (word_parts further w (cond b kinds.Attached kinds.Wrong) (Some (name, Some value)) behind)
    attached_same name value true = part_same (name, value)
    attached_same name value false = refl

    long_same : (l : Option (Text × Option Text)) → test (kind_turn further (long_kind names l)) ≡ is_some (word_parts further w (long_kind names l) l behind)
    long_same None = refl
    long_same (Some (name, None)) = alone_same name (is_name names name)
    long_same (Some (name, Some value)) = attached_same name value (is_name names name && is_value value)

    word_same : (b : Bool) (l : Option (Text × Option Text)) → test (kind_turn further (cond b kinds.Plain (long_kind names l))) ≡ is_some (word_parts further w (cond b kinds.Plain (long_kind names l)) l behind)
    word_same true l = plain_same further
    word_same false l = long_same l

    value_same : (name : Text) (b : Bool) → test (cond b (Some false) None) ≡ is_some (cond b (with_part (name, w) (behind None)) None)
    value_same name true = part_same (name, w)
    value_same name false = refl

  pub parts_exist : (ws : List Text) → Same ws
  unfolding have_parts parts_from turn word_kind
  parts_exist [] None = refl
  parts_exist [] (Some name) = refl
  parts_exist (w ∷ ws) None = word_same w ws (parts_exist ws) (is_value w) (long_of w)
  parts_exist (w ∷ ws) (Some name) = value_same w ws (parts_exist ws) name (is_value w)

-- no argument has a default
no_default : (rows : List Row) (a : Rule) → a.defaults ≡ [] → with_default rows a ≡ rows
no_default rows a none =
    let cases : (b : Bool) → has_row a.id rows ≡ b → with_default rows a ≡ rows
    = λ b. elim b as (λ b. has_row a.id rows ≡ b → with_default rows a ≡ rows) [ true ↦ λ e. rw e refl | false ↦ λ e. rw (e, none) refl ]
    in cases (has_row a.id rows) refl

no_defaults : (rules : List Rule) (rows : List Row) → AllByRecursion (λ a. a.defaults ≡ []) rules → fold with_default rows rules ≡ rows
no_defaults [] rows h = refl
no_defaults (a ∷ rest) rows h = ap (λ (rs : List Row). fold with_default rs rest) (no_default rows a h.0) ∙ no_defaults rest rows h.1

-- the subcommand of a command, as it is built
abbrev first_shape : List Shape → Shape
first_shape [] = new_shape []
first_shape (s ∷ ss) = s

abbrev second_shape : List Shape → Shape
second_shape [] = new_shape []
second_shape (s ∷ ss) = first_shape ss

abbrev third_shape : List Shape → Shape
third_shape [] = new_shape []
third_shape (s ∷ ss) = second_shape ss

abbrev fourth_shape : List Shape → Shape
fourth_shape [] = new_shape []
fourth_shape (s ∷ ss) = third_shape ss

abbrev fifth_shape : List Shape → Shape
fifth_shape [] = new_shape []
fifth_shape (s ∷ ss) = fourth_shape ss

abbrev sixth_shape : List Shape → Shape
sixth_shape [] = new_shape []
sixth_shape (s ∷ ss) = fifth_shape ss

abbrev seventh_shape : List Shape → Shape
seventh_shape [] = new_shape []
seventh_shape (s ∷ ss) = sixth_shape ss

abbrev eighth_shape : List Shape → Shape
eighth_shape [] = new_shape []
eighth_shape (s ∷ ss) = seventh_shape ss

abbrev ninth_shape : List Shape → Shape
ninth_shape [] = new_shape []
ninth_shape (s ∷ ss) = eighth_shape ss

abbrev tenth_shape : List Shape → Shape
tenth_shape [] = new_shape []
tenth_shape (s ∷ ss) = ninth_shape ss

abbrev eleventh_shape : List Shape → Shape
eleventh_shape [] = new_shape []
eleventh_shape (s ∷ ss) = tenth_shape ss

abbrev shape : Verb → Shape
shape Rewire = first_shape (built program).subs
shape Trace = second_shape (built program).subs
shape Check = third_shape (built program).subs
shape Reorder = fourth_shape (built program).subs
shape Play = fifth_shape (built program).subs
shape Bound = sixth_shape (built program).subs
shape Verify = seventh_shape (built program).subs
shape Failmap = eighth_shape (built program).subs
shape Bench = ninth_shape (built program).subs
shape Balance = tenth_shape (built program).subs
shape Draw = eleventh_shape (built program).subs

finds_for : (verb : Verb) → Finds (option_names verb) (takes_further verb) (shape verb).rules
finds_for Rewire = finds (option_names Rewire) true refl
finds_for Trace = finds (option_names Trace) false refl
finds_for Check = finds (option_names Check) false refl
finds_for Reorder = finds (option_names Reorder) false refl
finds_for Play = finds (option_names Play) false refl
finds_for Bound = finds (option_names Bound) false refl
finds_for Verify = finds (option_names Verify) false refl
finds_for Failmap = finds (option_names Failmap) false refl
finds_for Bench = finds (option_names Bench) false refl
finds_for Balance = finds (option_names Balance) false refl
finds_for Draw = finds (option_names Draw) false refl

goes : (verb : Verb) (words : List Text) (parts : List Part) → parts_from (option_names verb) (takes_further verb) None words ≡ Some parts → Goes (shape verb) (walk_at nothing_held idle) words (add_parts [] parts)
goes verb words parts read = follows (shape verb) (option_names verb) (takes_further verb) (finds_for verb) words None nothing_held idle [] parts (record { passes = refl; rows = refl; idle = tt }) read

-- behind the word of a subcommand the walk only takes the words down
abbrev stopped_at : Text → List Text → Walk
stopped_at name seen = record { held = nothing_held; waiting = idle; position = 1; is_trailing = false; stopped = Some (name, seen) }

goes_down : (rules : List Rule) (names : Names) (name : Text) (seen words : List Text) → fold (walked rules names) (stopped_at name seen) words ≡ stopped_at name (seen ++ words)
unfolding walked
goes_down rules names name seen [] = ap (stopped_at name) (sym (append-nil seen))
goes_down rules names name seen (w ∷ ws) = goes_down rules names name (seen ++ w ∷ []) ws ∙ ap (stopped_at name) (append_assoc seen (w ∷ []) ws)

passes_down : (s : Shape) (names : Names) (name : Text) (seen words : List Text) → walk_passes s names (stopped_at name seen) words ≡ true
unfolding walked walk_passes
passes_down s names name seen [] = refl
passes_down s names name seen (w ∷ ws) = passes_down s names name (seen ++ w ∷ []) ws

abbrev program_names : Names
program_names = names_of (built program)

at_word : (verb : Verb) → walked (built program).top.rules program_names (walk_at nothing_held idle) (verb_name verb) ≡ stopped_at (verb_name verb) []
unfolding walked
at_word Rewire = refl
at_word Trace = refl
at_word Check = refl
at_word Reorder = refl
at_word Play = refl
at_word Bound = refl
at_word Verify = refl
at_word Failmap = refl
at_word Bench = refl
at_word Balance = refl
at_word Draw = refl

ends_at : (verb : Verb) (words : List Text) → walk (built program).top.rules program_names nothing_held (verb_name verb ∷ words) ≡ stopped_at (verb_name verb) words
ends_at verb words = ap (λ (w : Walk). fold (walked (built program).top.rules program_names) w words) (at_word verb) ∙ goes_down (built program).top.rules program_names (verb_name verb) [] words

top_passes : (verb : Verb) (words : List Text) → walk_passes (built program).top program_names (walk_at nothing_held idle) (verb_name verb ∷ words) ≡ true
unfolding walk_passes
top_passes Rewire words = rw (at_word Rewire) (passes_down (built program).top program_names (verb_name Rewire) [] words)
top_passes Trace words = rw (at_word Trace) (passes_down (built program).top program_names (verb_name Trace) [] words)
top_passes Check words = rw (at_word Check) (passes_down (built program).top program_names (verb_name Check) [] words)
top_passes Reorder words = rw (at_word Reorder) (passes_down (built program).top program_names (verb_name Reorder) [] words)
top_passes Play words = rw (at_word Play) (passes_down (built program).top program_names (verb_name Play) [] words)
top_passes Bound words = rw (at_word Bound) (passes_down (built program).top program_names (verb_name Bound) [] words)
top_passes Verify words = rw (at_word Verify) (passes_down (built program).top program_names (verb_name Verify) [] words)
top_passes Failmap words = rw (at_word Failmap) (passes_down (built program).top program_names (verb_name Failmap) [] words)
top_passes Bench words = rw (at_word Bench) (passes_down (built program).top program_names (verb_name Bench) [] words)
top_passes Balance words = rw (at_word Balance) (passes_down (built program).top program_names (verb_name Balance) [] words)
top_passes Draw words = rw (at_word Draw) (passes_down (built program).top program_names (verb_name Draw) [] words)

pub simple : is_simple program ≡ true
simple = refl

-- the subcommand passes its words
passes_sub : (verb : Verb) (words : List Text) (parts : List Part) → parts_from (option_names verb) (takes_further verb) None words ≡ Some parts → level_passes (shape verb) [] nothing_held words false ≡ true
passes_sub Rewire words parts read = let g = goes Rewire words parts read in rw (g.turns, g.settles) refl
passes_sub Trace words parts read = let g = goes Trace words parts read in rw (g.turns, g.settles) refl
passes_sub Check words parts read = let g = goes Check words parts read in rw (g.turns, g.settles) refl
passes_sub Reorder words parts read = let g = goes Reorder words parts read in rw (g.turns, g.settles) refl
passes_sub Play words parts read = let g = goes Play words parts read in rw (g.turns, g.settles) refl
passes_sub Bound words parts read = let g = goes Bound words parts read in rw (g.turns, g.settles) refl
passes_sub Verify words parts read = let g = goes Verify words parts read in rw (g.turns, g.settles) refl
passes_sub Failmap words parts read = let g = goes Failmap words parts read in rw (g.turns, g.settles) refl
passes_sub Bench words parts read = let g = goes Bench words parts read in rw (g.turns, g.settles) refl
passes_sub Balance words parts read = let g = goes Balance words parts read in rw (g.turns, g.settles) refl
passes_sub Draw words parts read = let g = goes Draw words parts read in rw (g.turns, g.settles) refl

pub taken : (verb : Verb) (words : List Text) (parts : List Part) → parts_from (option_names verb) (takes_further verb) None words ≡ Some parts → takes program (verb_name verb ∷ words) ≡ true
taken Rewire words parts read = rw (ends_at Rewire words, top_passes Rewire words, passes_sub Rewire words parts read) refl
taken Trace words parts read = rw (ends_at Trace words, top_passes Trace words, passes_sub Trace words parts read) refl
taken Check words parts read = rw (ends_at Check words, top_passes Check words, passes_sub Check words parts read) refl
taken Reorder words parts read = rw (ends_at Reorder words, top_passes Reorder words, passes_sub Reorder words parts read) refl
taken Play words parts read = rw (ends_at Play words, top_passes Play words, passes_sub Play words parts read) refl
taken Bound words parts read = rw (ends_at Bound words, top_passes Bound words, passes_sub Bound words parts read) refl
taken Verify words parts read = rw (ends_at Verify words, top_passes Verify words, passes_sub Verify words parts read) refl
taken Failmap words parts read = rw (ends_at Failmap words, top_passes Failmap words, passes_sub Failmap words parts read) refl
taken Bench words parts read = rw (ends_at Bench words, top_passes Bench words, passes_sub Bench words parts read) refl
taken Balance words parts read = rw (ends_at Balance words, top_passes Balance words, passes_sub Balance words parts read) refl
taken Draw words parts read = rw (ends_at Draw words, top_passes Draw words, passes_sub Draw words parts read) refl

found_sub : (verb : Verb) (words : List Text) (parts : List Part) → parts_from (option_names verb) (takes_further verb) None words ≡ Some parts → rows_after (shape verb).rules [] words ≡ add_parts [] parts
found_sub Rewire words parts read = no_defaults (shape Rewire).rules _ (refl, (refl, (refl, (refl, (refl, (refl, (refl, (refl, tt)))))))) ∙ (goes Rewire words parts read).rows
found_sub Trace words parts read = no_defaults (shape Trace).rules _ (refl, (refl, (refl, tt))) ∙ (goes Trace words parts read).rows
found_sub Check words parts read = no_defaults (shape Check).rules _ (refl, (refl, (refl, (refl, tt)))) ∙ (goes Check words parts read).rows
found_sub Reorder words parts read = no_defaults (shape Reorder).rules _ (refl, (refl, (refl, (refl, (refl, (refl, (refl, (refl, (refl, tt))))))))) ∙ (goes Reorder words parts read).rows
found_sub Play words parts read = no_defaults (shape Play).rules _ (refl, (refl, (refl, (refl, tt)))) ∙ (goes Play words parts read).rows
found_sub Bound words parts read = no_defaults (shape Bound).rules _ (refl, (refl, (refl, (refl, (refl, tt))))) ∙ (goes Bound words parts read).rows
found_sub Verify words parts read = no_defaults (shape Verify).rules _ (refl, (refl, (refl, (refl, (refl, tt))))) ∙ (goes Verify words parts read).rows
found_sub Failmap words parts read = no_defaults (shape Failmap).rules _ (refl, (refl, (refl, (refl, (refl, (refl, tt)))))) ∙ (goes Failmap words parts read).rows
found_sub Bench words parts read = no_defaults (shape Bench).rules _ (refl, tt) ∙ (goes Bench words parts read).rows
found_sub Balance words parts read = no_defaults (shape Balance).rules _ (refl, (refl, (refl, (refl, (refl, (refl, (refl, (refl, tt)))))))) ∙ (goes Balance words parts read).rows
found_sub Draw words parts read = no_defaults (shape Draw).rules _ (refl, (refl, (refl, (refl, (refl, tt))))) ∙ (goes Draw words parts read).rows

named : (verb : Verb) (words : List Text) → entered (built program) (Some (verb_name verb, words)) ≡ Some (verb_name verb, rows_after (shape verb).rules [] words)
named Rewire words = refl
named Trace words = refl
named Check words = refl
named Reorder words = refl
named Play words = refl
named Bound words = refl
named Verify words = refl
named Failmap words = refl
named Bench words = refl
named Balance words = refl
named Draw words = refl

pub matched : (verb : Verb) (words : List Text) (parts : List Part) → parts_from (option_names verb) (takes_further verb) None words ≡ Some parts → subcommand_of program (verb_name verb ∷ words) ≡ Some (verb_name verb, add_parts [] parts)
matched verb words parts read =
    ap (λ (w : Walk). entered (built program) w.stopped) (ends_at verb words) ∙ named verb words ∙ ap (λ (rows : List Row). Some (verb_name verb, rows)) (found_sub verb words parts read)
