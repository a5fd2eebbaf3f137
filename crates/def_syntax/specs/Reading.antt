-- What a text is read as, as a function: its statements, or the place of its first fault of form. Meaning: Designs.
use Rattle.std.specs.Prelude.{◌≡◌, ℕ, Bool, false, ◌&&◌, ◌||◌, not, ◌==◌, if◌then◌else◌, List, [], ◌∷◌, ◌++◌, length, Option, Some, None, is_some, Result, Ok, Err, codes}
use Rattle.base_types.specs.Lines.{line_at}
use Rattle.base_types.specs.Faults.{at_line}
use Rattle.base_types.specs.declared.fault.FileKind.TheVariants.{Def}
use Rattle.base_types.specs.declared.fault.ReadFault.{ReadFault}
use Rattle.base_types.specs.declared.fault.ReadFault.TheVariants as faults
use Rattle.base_types.specs.declared.kind.Kind.TheVariants.{DefSyntax}
use Rattle.base_types.specs.declared.stop.Stop.{Stop}
use Rattle.base_types.specs.declared.stop.Stop.TheVariants as stops
use Rattle.token_forms.specs.Tokens.{Token, place_of}
use Rattle.token_forms.specs.Forms.{Form}
use Rattle.token_forms.specs.Parsing.{◌>>=◌}
use Rattle.def_syntax.specs.Grammar.{units, component, design_pin, net, chain}
use Rattle.def_syntax.specs.Frames.{word_of, opened_by, is_end, is_head, start_of}
use Rattle.def_syntax.specs.Designs.{statements_of}
use Rattle.def_syntax.specs.declared.units.Units.{Units}
use Rattle.def_syntax.specs.declared.frame.SectionKind.{SectionKind}
use Rattle.def_syntax.specs.declared.frame.SectionKind.TheVariants.{Components, Pins, Nets, ScanChains}
use Rattle.def_syntax.specs.declared.outline.Outline.{Outline}
use Rattle.def_syntax.specs.declared.design.Located.{Located}
use Rattle.def_syntax.specs.declared.design.DesignText.{DesignText}
use Rattle.def_syntax.specs.declared.found.Opened.{Opened}
use Rattle.def_syntax.specs.declared.found.Found.{Found}

-- the value that the statement's tokens spell, all of them
unfoldable pub statement_of : {X : Type 0} → Form X → List Token → Option X
statement_of form s = form.reads s >>= λ p. if length p.1 == 0 then Some p.0 else None

-- the value of a statement, with its place and line
abbrev pub located : {X : Type 0} → List ℕ → List Token → X → Located X
located text s x = record { statement = x; span = place_of s; line = line_at text (start_of s) }

-- nothing is read so far
abbrev pub fresh_outline : Outline
fresh_outline = record { section = None; start = 0; units = false }

-- behind a statement within a section
abbrev pub outline_inside : Outline → SectionKind → List Token → Outline
outline_inside o kind s = if is_end (word_of kind) s then record o { section = None } else o

-- behind a statement outside sections
abbrev pub outline_outside : Outline → Option SectionKind → List Token → Outline
outline_outside o None s = record o { units = o.units || is_some (statement_of units s) }
outline_outside o (Some kind) s = record o { section = Some kind; start = start_of s }

-- behind a statement, within a section or outside
abbrev pub outline_by : Outline → Option SectionKind → List Token → Outline
outline_by o None s = outline_outside o (opened_by s) s
outline_by o (Some kind) s = outline_inside o kind s

-- behind a statement
unfoldable pub outline_turn : Outline → List Token → Outline
outline_turn o s = outline_by o o.section s

-- up to END DESIGN: the section that is open there and the place of the last one that was opened, and whether UNITS stands
-- outside sections; nothing, where there is no END DESIGN
unfoldable pub outline_from : Outline → List (List Token) → Option Outline
outline_from o [] = None
outline_from o (s ∷ ss) = if is_end (codes "DESIGN") s then Some o else outline_from (outline_turn o s) ss

-- the place of the section that isn't closed
abbrev pub unclosed_of : Outline → Option ℕ
unclosed_of o = elim o.section [ None ↦ None | Some kind ↦ Some o.start ]

-- nothing is read so far
abbrev pub fresh_found : Found
fresh_found = record { section = None; units = None; components = []; pins = []; nets = []; chains = []; sections = [] }

-- the section at this place isn't closed
abbrev pub is_unclosed : Option ℕ → ℕ → Bool
is_unclosed None at = false
is_unclosed (Some place) at = at == place

-- a statement outside sections
abbrev pub read_units : List ℕ → Found → List Token → Option Units → Option Found
read_units text found s None = Some found
read_units text found s (Some u) = if is_some found.units then None else Some (record found { units = Some (located text s u) })

-- a statement that opens a section
abbrev pub read_head : List ℕ → Option ℕ → Found → SectionKind → List Token → Option Found
read_head text unclosed found kind s =
    if is_head s && not (is_unclosed unclosed (start_of s)) then Some (record found { section = Some (record { kind = kind; start = start_of s; line = line_at text (start_of s) }) })
    else None

-- a statement outside sections, or one that opens a section
abbrev pub read_outside : List ℕ → Option ℕ → Found → Option SectionKind → List Token → Option Found
read_outside text unclosed found None s = read_units text found s (statement_of units s)
read_outside text unclosed found (Some kind) s = read_head text unclosed found kind s

-- a statement within a section
abbrev pub read_inside : List ℕ → Found → SectionKind → List Token → Option Found
read_inside text found Components s = statement_of component s >>= λ x. Some (record found { components = found.components ++ located text s x ∷ [] })
read_inside text found Pins s = statement_of design_pin s >>= λ x. Some (record found { pins = found.pins ++ located text s x ∷ [] })
read_inside text found Nets s = statement_of net s >>= λ x. Some (record found { nets = found.nets ++ located text s x ∷ [] })
read_inside text found ScanChains s = statement_of chain s >>= λ x. Some (record found { chains = found.chains ++ located text s x ∷ [] })

-- the END of a section
abbrev pub closed_by : Found → Opened → List Token → Found
closed_by found o s =
    record found {
      section = None;
      sections = found.sections ++ record { kind = o.kind; span = record { start = o.start; end = (place_of s).end }; line = o.line } ∷ [];
    }

-- a statement where a section is open or none: its END, one within, or one outside
abbrev pub read_by : List ℕ → Option ℕ → Found → Option Opened → List Token → Option Found
read_by text unclosed found None s = read_outside text unclosed found (opened_by s) s
read_by text unclosed found (Some o) s = if is_end (word_of o.kind) s then Some (closed_by found o s) else read_inside text found o.kind s

-- what is read so far, and a statement behind it
unfoldable pub read_turn : List ℕ → Option ℕ → Found → List Token → Option Found
read_turn text unclosed found s = read_by text unclosed found found.section s

-- what a value leads to; the place of the fault where there is none
abbrev pub or_place : {A B : Type 0} → Option A → ℕ → (A → Result B ℕ) → Result B ℕ
or_place None at more = Err at
or_place (Some x) at more = more x

-- the statements up to END DESIGN, or the place of the first that isn't read
unfoldable pub read_from : List ℕ → Option ℕ → Found → List (List Token) → Result Found ℕ
read_from text unclosed found [] = Ok found
read_from text unclosed found (s ∷ ss) =
    if is_end (codes "DESIGN") s then Ok found else or_place (read_turn text unclosed found s) (start_of s) (λ next. read_from text unclosed next ss)

-- what is read, with its UNITS
abbrev pub design_of : Found → Option DesignText
design_of found =
    found.units >>= λ units. Some (record { units = units; components = found.components; pins = found.pins; nets = found.nets; chains = found.chains; sections = found.sections })

-- the value of what is read, or the place of the fault
abbrev pub with_design : Result Found ℕ → Result DesignText ℕ
with_design (Ok found) = or_place (design_of found) 0 (λ d. Ok d)
with_design (Err at) = Err at

-- where END DESIGN and UNITS stand
abbrev pub read_outlined : List ℕ → Option Outline → Result DesignText ℕ
read_outlined text None = Err 0
read_outlined text (Some o) = if o.units then with_design (read_from text (unclosed_of o) fresh_found (statements_of text)) else Err 0

-- what a text is read as, or the place of its first fault
unfoldable pub read_design : List ℕ → Result DesignText ℕ
read_design text = read_outlined text (outline_from fresh_outline (statements_of text))

-- a call answers what is defined, with the fault at its line, unless memory ran out
abbrev pub Reads : {X : Type 0} → List ℕ → Result X ReadFault → Result X ℕ → Type 0
Reads text (Ok x) read = read ≡ Ok x
Reads text (Err (faults.Fault f)) read = (at : ℕ) × (read ≡ Err at) × (f ≡ at_line DefSyntax Def (line_at text at))
Reads text (Err faults.NoMemory) read = Unit {0}

-- what a turn changes, where the statement is read
abbrev pub Turns : {X Y : Type 0} → Result X Stop → Y → Option Y → Type 0
Turns (Ok x) next read = read ≡ Some next
Turns (Err stops.NoForm) next read = read ≡ None
Turns (Err stops.NoMemory) next read = Unit {0}
