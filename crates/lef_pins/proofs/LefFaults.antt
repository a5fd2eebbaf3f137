-- The faults of a LEF: what is answered is the first of them, and where nothing is refused there is none.
use Rattle.std.proofs.Common.{◌≡◌, ℕ, ◌≤◌, List, [], Option, Some, None, Contains, Ordering, Less, Equal, Greater, refl, sym, ap, ◌∙◌, subst, arith}
use Rattle.std.specs.Ordering.{nat_cmp, ordering_then}
use Rattle.std.specs.List.{count_by}
use Rattle.std.proofs.lemmas.Cmp.{ranked}
use Rattle.base_types.specs.Lines.{line_at}
use Rattle.base_types.specs.Faults.{at_line}
use Rattle.base_types.specs.FirstFault.{ComesBefore, IsFirstFault}
use Rattle.base_types.specs.declared.fault.Fault.{Fault}
use Rattle.base_types.specs.declared.fault.FileKind.TheVariants.{Lef}
use Rattle.base_types.specs.declared.kind.Kind.TheVariants.{LefSyntax, LefNumber, LefTwice}
use Rattle.base_types.proofs.FirstFaults.{later}
use Rattle.base_types.proofs.LineLemmas.{line_at-from}
use Rattle.base_types.specs.declared.span.Span.{Span}
use Rattle.token_forms.specs.Tokens.{Token, tokens_of}
use Rattle.def_tokens.specs.DefTokens.{def_tokens, tokens_in}
use Rattle.lef_pins.specs.BlockReading.{lef_at}
use Rattle.lef_pins.specs.Blocks.{name_of, FileItem, IsLef}
use Rattle.lef_pins.specs.Faults.{macros_of, syntax_places, number_places, twice_places, HoldsInLef, Syntax, Number, Twice}
use Rattle.lef_pins.specs.Macros.{NamedMacros}
use Rattle.lef_pins.specs.Denoted.{macro_of, DenotesMacros}
use Rattle.lef_pins.specs.Reading.{gathered, put_file_item, file_start}
use Rattle.list_laws.specs.Leasts.{lesser, least_of}
use Rattle.lef_pins.specs.declared.file.FileReading.{FileReading}
use Rattle.lef_pins.proofs.Trees.{lef_law, only_lef_law}
use Rattle.list_laws.proofs.Leasts.{IsLeastPlace, least_place, no_places, none_there}
use Rattle.lef_pins.proofs.FileGathered.{file_syntax, file_number, file_twice, file_macros}

-- a later place is on no earlier line
lines_rise : (text : List ℕ) (a b : ℕ) → a ≤ b → line_at text a ≤ line_at text b
lines_rise text a b le = let more = line_at-from text a b le in omega arith

line_case : (a b : ℕ) (r rest : Ordering) → r ≡ nat_cmp b a → a ≤ b → rest ≡ Equal → ordering_then r rest ≡ Less → ⊥
line_case a b Less rest is le same e = let below = ranked b a Less is in omega arith
line_case a b Equal rest is le same e = let both = sym same ∙ e in absurd cc
line_case a b Greater rest is le same e = absurd cc

syntax_line : (a b : ℕ) → a ≤ b → ComesBefore (at_line LefSyntax Lef b) (at_line LefSyntax Lef a) → ⊥
syntax_line a b le e = line_case a b (nat_cmp b a) Equal refl le refl e

number_line : (a b : ℕ) → a ≤ b → ComesBefore (at_line LefNumber Lef b) (at_line LefNumber Lef a) → ⊥
number_line a b le e = line_case a b (nat_cmp b a) Equal refl le refl e

twice_line : (a b : ℕ) → a ≤ b → ComesBefore (at_line LefTwice Lef b) (at_line LefTwice Lef a) → ⊥
twice_line a b le e = line_case a b (nat_cmp b a) Equal refl le refl e

module _ (text : List ℕ) where
  -- the items of the text
  abbrev pub all : List FileItem
  all = lef_at (tokens_in text)

  at_places : (places : List FileItem → List ℕ) (items : List FileItem) (place : ℕ) → IsLef (tokens_in text) items → Contains (places items) place → Contains (places all) place
  at_places places items place is there = subst (λ (x : List FileItem). Contains (places x) place) (only_lef_law (tokens_in text) items is) there

  no_place : (places : List FileItem → List ℕ) (items : List FileItem) (place : ℕ) → places all ≡ [] → IsLef (tokens_in text) items → Contains (places items) place → ⊥
  no_place places items place none is there = none_there place (subst (λ (ps : List ℕ). Contains ps place) none (at_places places items place is there))

  below_line : (places : List FileItem → List ℕ) (items : List FileItem) (place least : ℕ) → IsLeastPlace (places all) least → IsLef (tokens_in text) items → Contains (places items) place → line_at text least ≤ line_at text place
  below_line places items place least h is there = lines_rise text least place (h.below place (at_places places items place is there))

  syntax_least : (least : ℕ) → IsLeastPlace (syntax_places all) least → (g : Fault) → HoldsInLef text g → ComesBefore g (at_line LefSyntax Lef (line_at text least)) → ⊥
  syntax_least least h _ (Syntax items place is there) before = syntax_line (line_at text least) (line_at text place) (below_line syntax_places items place least h is there) before
  syntax_least least h _ (Number items place is there) before = later (at_line LefSyntax Lef (line_at text least)) (at_line LefNumber Lef (line_at text place)) (omega arith) before
  syntax_least least h _ (Twice items place is there) before = later (at_line LefSyntax Lef (line_at text least)) (at_line LefTwice Lef (line_at text place)) (omega arith) before

  pub syntax_first : (least : ℕ) → IsLeastPlace (syntax_places all) least → IsFirstFault (HoldsInLef text) (at_line LefSyntax Lef (line_at text least))
  syntax_first least h = record { holds = Syntax all least (lef_law (tokens_in text)) h.there; least = syntax_least least h }

  number_least : (least : ℕ) → syntax_places all ≡ [] → IsLeastPlace (number_places all) least → (g : Fault) → HoldsInLef text g → ComesBefore g (at_line LefNumber Lef (line_at text least)) → ⊥
  number_least least none h _ (Syntax items place is there) before = no_place syntax_places items place none is there
  number_least least none h _ (Number items place is there) before = number_line (line_at text least) (line_at text place) (below_line number_places items place least h is there) before
  number_least least none h _ (Twice items place is there) before = later (at_line LefNumber Lef (line_at text least)) (at_line LefTwice Lef (line_at text place)) (omega arith) before

  pub number_first : (least : ℕ) → syntax_places all ≡ [] → IsLeastPlace (number_places all) least → IsFirstFault (HoldsInLef text) (at_line LefNumber Lef (line_at text least))
  number_first least none h = record { holds = Number all least (lef_law (tokens_in text)) h.there; least = number_least least none h }

  twice_least : (least : ℕ) → syntax_places all ≡ [] → number_places all ≡ [] → IsLeastPlace (twice_places all) least → (g : Fault) → HoldsInLef text g → ComesBefore g (at_line LefTwice Lef (line_at text least)) → ⊥
  twice_least least none fit h _ (Syntax items place is there) before = no_place syntax_places items place none is there
  twice_least least none fit h _ (Number items place is there) before = no_place number_places items place fit is there
  twice_least least none fit h _ (Twice items place is there) before = twice_line (line_at text least) (line_at text place) (below_line twice_places items place least h is there) before

  pub twice_first : (least : ℕ) → syntax_places all ≡ [] → number_places all ≡ [] → IsLeastPlace (twice_places all) least → IsFirstFault (HoldsInLef text) (at_line LefTwice Lef (line_at text least))
  twice_first least none fit h = record { holds = Twice all least (lef_law (tokens_in text)) h.there; least = twice_least least none fit h }

  pub no_fault : syntax_places all ≡ [] → number_places all ≡ [] → twice_places all ≡ [] → (g : Fault) → HoldsInLef text g → ⊥
  no_fault none fit once _ (Syntax items place is there) = no_place syntax_places items place none is there
  no_fault none fit once _ (Number items place is there) = no_place number_places items place fit is there
  no_fault none fit once _ (Twice items place is there) = no_place twice_places items place once is there

  pub denoted : (macros : NamedMacros) → syntax_places all ≡ [] → number_places all ≡ [] → twice_places all ≡ [] → macros ≡ (gathered put_file_item file_start all).macros → DenotesMacros text macros
  denoted macros none fit once is = record { items = all; is = lef_law (tokens_in text); no_syntax = none; no_number = fit; no_twice = once; values = is ∙ file_macros all once }

-- what the reader gathered of a text
abbrev pub IsRead : List ℕ → FileReading → Type 0
IsRead text file = file ≡ gathered put_file_item file_start (lef_at (tokens_in text))

pub is_read : (text : List ℕ) (file : FileReading) (tokens : List Token) (spans : List Span) → file ≡ gathered put_file_item file_start (lef_at tokens) → tokens ≡ tokens_of text spans → spans ≡ def_tokens text → IsRead text file
is_read text file tokens spans is cut all = is ∙ ap (λ (ts : List Token). gathered put_file_item file_start (lef_at ts)) (cut ∙ ap (tokens_of text) all)

module _ (text : List ℕ) (file : FileReading) (is : IsRead text file) where
  syntax_is : (o : Option ℕ) → file.least.syntax ≡ o → least_of (syntax_places (all text)) ≡ o
  syntax_is o e = sym (ap (λ (f : FileReading). f.least.syntax) is ∙ file_syntax (all text)) ∙ e

  number_is : (o : Option ℕ) → file.least.number ≡ o → least_of (number_places (all text)) ≡ o
  number_is o e = sym (ap (λ (f : FileReading). f.least.number) is ∙ file_number (all text)) ∙ e

  twice_is : (o : Option ℕ) → lesser file.least.twice file.again ≡ o → least_of (twice_places (all text)) ≡ o
  twice_is o e = sym (ap (λ (f : FileReading). lesser f.least.twice f.again) is ∙ file_twice (all text)) ∙ e

  pub refused_syntax : (place : ℕ) → file.least.syntax ≡ Some place → IsFirstFault (HoldsInLef text) (at_line LefSyntax Lef (line_at text place))
  refused_syntax place e = syntax_first text place (least_place (syntax_places (all text)) place (syntax_is (Some place) e))

  module _ (no_syntax : file.least.syntax ≡ None) where
    none : syntax_places (all text) ≡ []
    none = no_places (syntax_places (all text)) (syntax_is None no_syntax)

    pub refused_number : (place : ℕ) → file.least.number ≡ Some place → IsFirstFault (HoldsInLef text) (at_line LefNumber Lef (line_at text place))
    refused_number place e = number_first text place none (least_place (number_places (all text)) place (number_is (Some place) e))

    module _ (no_number : file.least.number ≡ None) where
      fit : number_places (all text) ≡ []
      fit = no_places (number_places (all text)) (number_is None no_number)

      pub refused_twice : (place : ℕ) → lesser file.least.twice file.again ≡ Some place → IsFirstFault (HoldsInLef text) (at_line LefTwice Lef (line_at text place))
      refused_twice place e = twice_first text place none fit (least_place (twice_places (all text)) place (twice_is (Some place) e))

      module _ (no_twice : lesser file.least.twice file.again ≡ None) where
        once : twice_places (all text) ≡ []
        once = no_places (twice_places (all text)) (twice_is None no_twice)

        pub not_refused : (g : Fault) → HoldsInLef text g → ⊥
        not_refused g holds = no_fault text none fit once g holds

        pub denotes : DenotesMacros text file.macros
        denotes = denoted text file.macros none fit once (ap (λ (f : FileReading). f.macros) is)

pub only_one : (text : List ℕ) (a : NamedMacros) → DenotesMacros text a → (b : NamedMacros) → DenotesMacros text b → b ≡ a
only_one text a d b e =
    let same = only_lef_law (tokens_in text) e.items e.is ∙ sym (only_lef_law (tokens_in text) d.items d.is) in
    e.values ∙ ap (λ (is : List FileItem). Rattle.std.specs.Prelude.map {B = List ℕ × Rattle.lef_pins.specs.declared.macros.Macro.Macro} (λ m. (name_of m.0, macro_of m.1.items)) (macros_of is)) same ∙ sym d.values
