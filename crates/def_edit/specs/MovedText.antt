-- A text of DEF in which pins moved from net to net, and the chains have other elements.
use Rattle.std.specs.Prelude.{◌≡◌, ℕ, ◌+◌, Bool, false, if◌then◌else◌, List, [], ◌∷◌, ◌++◌, map, drop, codes, Option, Some, None}
use Rattle.std.specs.List.{flat_map}
use Rattle.base_types.specs.declared.span.Span.{Span}
use Rattle.token_forms.specs.Runs.{bytes_of}
use Rattle.splice.specs.declared.Edit.{Edit}
use Rattle.splice.specs.Spliced.{spliced}
use Rattle.def_syntax.specs.declared.design.Located.{Located}
use Rattle.def_syntax.specs.declared.design.Section.{Section}
use Rattle.def_syntax.specs.declared.design.DesignText.{DesignText}
use Rattle.def_syntax.specs.declared.frame.SectionKind.{SectionKind}
use Rattle.def_syntax.specs.declared.frame.SectionKind.TheVariants.{Components, Pins, Nets, ScanChains}
use Rattle.def_syntax.specs.declared.net.Net.{Net}
use Rattle.def_syntax.specs.declared.net.NetStatement.{NetStatement}
use Rattle.def_syntax.specs.declared.net.NetStatement.TheVariants as net_statements
use Rattle.def_syntax.specs.declared.pin.DesignPin.{DesignPin}
use Rattle.cell_table.specs.Cells.{Cells}
use Rattle.def_reader.specs.declared.design.Design.{Design}
use Rattle.def_reader.specs.Denoted.{DenotesDesign}
use Rattle.def_layout.specs.Words.{texts, joined}
use Rattle.def_layout.specs.Nets.{connection_words, connection_in, other_words, has_wiring, closed}
use Rattle.def_layout.specs.Sections.{section_text}
use Rattle.def_edit.specs.Alike.Changes.{NetChange, changed_connections, Changes}
use Rattle.def_edit.specs.Alike.Fields.{fields}
use Rattle.def_edit.specs.declared.pin_moves.PinMove.{PinMove}
use Rattle.def_edit.specs.Moved.{moved_nets, moved_pin}
use Rattle.def_edit.specs.declared.chains.NewChain.{NewChain}
use Rattle.def_edit.specs.declared.text.DefOut.{DefOut}
use Rattle.def_edit.specs.Words.{word_before}
use Rattle.def_edit.specs.NetChanges.{net_changes, pin_changes}
use Rattle.def_edit.specs.NewChains.{chain_layouts, new_chains_of}

-- what changes in the statements of a text that denotes the design
abbrev pub changes_of : List ℕ → DesignText → Design → List PinMove → List NewChain → Changes
changes_of text t d moves news =
    record { pins = pin_changes text t d.nets moves; nets = net_changes text t d.components moves; chains = chain_layouts d.components t.chains news }

-- what each member becomes that changes
abbrev pub each_edit : {X C : Type 0} → (X → C → List Edit) → List X → List (Option C) → List Edit
each_edit f [] cs = []
each_edit f (x ∷ xs) [] = []
each_edit f (x ∷ xs) (None ∷ cs) = each_edit f xs cs
each_edit f (x ∷ xs) (Some c ∷ cs) = f x c ++ each_edit f xs cs

-- another word for the net of a design pin
abbrev pub pin_edit : List ℕ → Located DesignPin → List ℕ → List Edit
pin_edit text p word = record { span = p.statement.net_span; text = word_before word (drop p.statement.net_span.end text) } ∷ []

-- the words of a net's statement that is written anew, but for its semicolon: its name, the connections that stay, those that come, and the
-- options that aren't wiring
abbrev pub new_words : List ℕ → Span → Net → NetChange → List (List ℕ)
new_words text span x c =
    codes "-" ∷ x.name ∷ (flat_map connection_words (changed_connections c (map (connection_in text) x.connections)) ++ other_words 0 false (texts (bytes_of text span)))

-- a statement of NETS, written anew; MUSTJOIN stays
abbrev pub statement_edit : List ℕ → Span → NetStatement → NetChange → List Edit
statement_edit text span (net_statements.Net x) c = record { span = span; text = closed (joined (new_words text span x c)) } ∷ []
statement_edit text span net_statements.MustJoin c = []

-- the same, at its place
abbrev pub net_edit : List ℕ → Located NetStatement → NetChange → List Edit
net_edit text n c = statement_edit text n.span n.statement c

-- the edits of a section
abbrev pub section_edits : List ℕ → DesignText → Changes → SectionKind → Span → List Edit
section_edits text t c Components span = []
section_edits text t c Pins span = each_edit (pin_edit text) t.pins c.pins
section_edits text t c Nets span = each_edit (net_edit text) t.nets c.nets
section_edits text t c ScanChains span = record { span = span; text = section_text c.chains } ∷ []

-- all edits of a text, section by section in the order of the file
abbrev pub edits_of : List ℕ → DesignText → Changes → List Edit
edits_of text t c = flat_map (λ (s : Section). section_edits text t c s.kind s.span) t.sections

-- a net's statement changes, and has wiring
abbrev pub is_cut : List ℕ → Located NetStatement → Option NetChange → Bool
is_cut text n None = false
is_cut text n (Some c) = has_wiring 0 (texts (bytes_of text n.span))

-- how many nets that change have wiring
unfoldable pub cut_count : List ℕ → List (Located NetStatement) → List (Option NetChange) → ℕ
cut_count text [] cs = 0
cut_count text (n ∷ ns) [] = 0
cut_count text (n ∷ ns) (c ∷ cs) = (if is_cut text n c then 1 else 0) + cut_count text ns cs

-- the text with exactly these edits
pub record IsMovedText (text : List ℕ) (cells : Cells) (d : Design) (moves : List PinMove) (news : List NewChain) (out : DefOut) : Type 0 where
  pub read : DenotesDesign text cells d
  pub is : out.text ≡ spliced text (edits_of text read.statements (changes_of text read.statements d moves news))
  pub cut : out.nets_cut ≡ cut_count text read.statements.nets (net_changes text read.statements d.components moves)

-- a design behind moves of pins, with other chains
abbrev pub moved_design : Design → List PinMove → List NewChain → Design
moved_design d moves news = record {
  units = d.units;
  components = d.components;
  pins = map (moved_pin d.nets moves) d.pins;
  nets = moved_nets d.nets moves;
  chains = new_chains_of d.chains news;
  chains_span = d.chains_span;
}

-- what the text denotes: the design behind the moves with the new chains, but for lines and places
pub record DenotesMoved (text : List ℕ) (cells : Cells) (d : Design) (moves : List PinMove) (news : List NewChain) : Type 0 where
  pub placed : Design
  pub denoted : DenotesDesign text cells placed
  pub is : fields placed ≡ fields (moved_design d moves news)
