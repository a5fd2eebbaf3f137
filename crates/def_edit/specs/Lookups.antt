-- Nets and connections as the code has them at hand.
use Rattle.std.specs.Prelude.{◌≡◌, ℕ, ◌==◌, Bool, true, false, List, [], map, Option, Some, None, option_map}
use Rattle.std.specs.List.{find, list_any, filter_map}
use Rattle.std.specs.Borrow.{Bor}
use Rattle.std.specs.HashMap.{HashMap, get}
use Rattle.std.specs.Str.{bytes_eq}
use Rattle.base_types.specs.declared.span.Span.{Span}
use Rattle.splice.specs.declared.Edit.{Edit}
use Rattle.token_forms.specs.Runs.{bytes_of}
use Rattle.def_syntax.specs.declared.design.Located.{Located}
use Rattle.def_syntax.specs.declared.design.Section.{Section}
use Rattle.def_syntax.specs.declared.design.DesignText.{DesignText}
use Rattle.def_syntax.specs.declared.frame.SectionKind.{SectionKind}
use Rattle.def_syntax.specs.declared.frame.SectionKind.TheVariants.{Components, Pins, Nets, ScanChains}
use Rattle.def_syntax.specs.declared.net.Net.{Net}
use Rattle.def_syntax.specs.declared.net.NetStatement.{NetStatement}
use Rattle.def_syntax.specs.declared.net.NetStatement.TheVariants as net_statements
use Rattle.def_layout.specs.NetForms.{IsNetOf}
use Rattle.def_reader.specs.declared.design.Net.{Net as DesignNet}
use Rattle.def_edit.specs.Moved.{moving_pin, is_port}
use Rattle.def_edit.specs.Groups.{group_of}
use Rattle.def_edit.specs.NetChanges.{moves_from, moves_to}
use Rattle.def_layout.specs.Nets.{connection_in}
use Rattle.def_edit.specs.Alike.Changes.{NetWords, net_in}
use Rattle.def_edit.specs.declared.pin_moves.PinMove.{PinMove}
use Rattle.def_edit.specs.declared.nets.NetRow.{NetRow}

-- a net by its words
abbrev pub words_of : List ℕ → NetRow → NetWords
words_of text row = record { name = row.name.now; connections = map (connection_in text) row.connections.now }

-- nets by their words
abbrev pub rows_of : List ℕ → List NetRow → List NetWords
rows_of text rows = map (words_of text) rows

-- the nets of statements by their words, without MUSTJOIN
abbrev pub words_in : List ℕ → List (Located NetStatement) → List NetWords
words_in text statements = filter_map (λ x. x) (map (λ (n : Located NetStatement). net_in text n.statement) statements)

-- a pin of these that leave one net stands at this place
abbrev pub leaves_at : List PinMove → ℕ → Bool
leaves_at leaving place = list_any (λ m. m.place == place) leaving

-- the moves from each net, and those to it
pub record HasGroups {S T : Type 0} (moves : List PinMove) (leaving : HashMap ℕ (List PinMove) S) (coming : HashMap ℕ (List PinMove) T) : Type 0 where
  pub from : (q : ℕ) → group_of (get ◌==◌ leaving q) ≡ moves_from q moves
  pub to : (q : ℕ) → group_of (get ◌==◌ coming q) ≡ moves_to q moves

-- the net to which each port goes
abbrev pub HasPorts : {S : Type 0} → List DesignNet → List PinMove → HashMap (Bor (List ℕ)) ℕ S → Type 0
HasPorts nets moves ports = (q : Bor (List ℕ)) → get (λ x y. bytes_eq x.now y.now) ports q ≡ option_map (λ m. m.to) (find (λ m. is_port q.now (moving_pin nets m)) moves)

-- the bytes at a net's place are by themselves the statement of a net of the same words
abbrev pub IsOwnNet : List ℕ → Span → NetStatement → Type 0
IsOwnNet text span net_statements.MustJoin = Unit {0}
IsOwnNet text span (net_statements.Net x) =
    (y : Net) → IsNetOf (bytes_of text span) y → (y.name ≡ x.name) × (map (connection_in (bytes_of text span)) y.connections ≡ map (connection_in text) x.connections)

-- so are those of a statement
abbrev pub IsOwn : List ℕ → Located NetStatement → Type 0
IsOwn text n = IsOwnNet text n.span n.statement

-- what becomes of a member, if it changes
abbrev pub maybe_edit : {C : Type 0} → (C → List Edit) → Option C → List Edit
maybe_edit f None = []
maybe_edit f (Some c) = f c

-- the section is NETS
abbrev pub is_nets : SectionKind → Bool
is_nets Components = false
is_nets Pins = false
is_nets Nets = true
is_nets ScanChains = false

-- a text without NETS has no statements of nets
abbrev pub HasSection : DesignText → Type 0
HasSection t = list_any (λ (s : Section). is_nets s.kind) t.sections ≡ false → t.nets ≡ []

-- how many nets lost wiring, behind a section: those of NETS, else as many as before
abbrev pub counted_behind : SectionKind → ℕ → ℕ → ℕ
counted_behind Components count before = before
counted_behind Pins count before = before
counted_behind Nets count before = count
counted_behind ScanChains count before = before
