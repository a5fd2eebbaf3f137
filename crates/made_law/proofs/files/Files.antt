-- Nothing is wrong with the files of a made design.
use Rattle.std.proofs.Common.{◌≡◌, ℕ, ◌≤◌, List, [], ◌∷◌, map, Contains, arith, Option, Some, None, refl, sym, ap, ◌∙◌, subst}
use Rattle.std.specs.Prelude.{IsSomeAnd}
use Rattle.base_types.specs.declared.fault.Fault.{Fault}
use Rattle.netlist_core.specs.declared.netlist.Netlist.{Netlist}
use Rattle.cell_table.specs.Cells.{Cells}
use Rattle.cell_table.specs.Entries.{DenotesCells}
use Rattle.cell_table.specs.Table.{small_cells}
use Rattle.cell_table.proofs.TableFaults.{one_table}
use Rattle.lef_pins.specs.Macros.{NamedMacros}
use Rattle.lef_pins.specs.Denoted.{DenotesMacros}
use Rattle.lef_pins.proofs.LefFaults.{only_one}
use Rattle.verilog_reader.specs.Denoted.{DenotesNetlist}
use Rattle.verilog_reader.proofs.OneNetlist.{one_netlist}
use Rattle.def_reader.specs.declared.design.Design.{Design}
use Rattle.def_reader.specs.Designs.{design_of}
use Rattle.def_reader.specs.Denoted.{DenotesDesign}
use Rattle.def_reader.specs.Agreement.{HoldsInAgreement}
use Rattle.chain_trace.specs.declared.path.Path.{Path}
use Rattle.chain_rules.specs.ChainFaults.{IsRefusal}
use Rattle.traced_paths.specs.Asked.{Asked}
use Rattle.head_checks.specs.Asked.{asked_by_block}
use Rattle.head_chains.specs.Asked.{asked_by, file_of}
use Rattle.traced_paths.specs.Traced.{ArePathsOf, HoldsInPaths}
use Rattle.path_numbers.specs.Numbers.{path_specs}
use Rattle.traced_paths.specs.Bits.{HaveTooManyBits}
use Rattle.traced_paths.proofs.PathsFaults.{one_list}
use Rattle.design_elements.specs.Elements.{chain_specs}
use Rattle.design_elements.specs.Faults.{HoldsInElements}
use Rattle.design_places.specs.NetPins.{HoldsInNets}
use Rattle.design_places.specs.Ends.{HoldsInPlaces}
use Rattle.stil_types.specs.declared.head.StilHead.{StilHead}
use Rattle.head_checks.specs.Heads.{HoldsInHeads}
use Rattle.head_chains.specs.Chains.{HoldsInChains}
use Rattle.stil_head.specs.Faults.{HoldsInHead, Syntax, Twice, Barred}
use Rattle.stil_head.specs.Heads.{DenotesHead}
use Rattle.stil_head.proofs.Texts.{only_head}
use Rattle.design_files.specs.Files.{Texts, texts_with, IsHeadIn}
use Rattle.design_files.specs.Faults.{ArePathsFor, IsElementFault, IsAgreementFault, IsUndeclaredFault, IsPathFault, IsTracedFault, OfHeads, OfBits, OfNets, OfChains, OfPlaces, HoldsInFiles, OfTable, OfLef, OfVerilog, OfDesign, OfElements, OfAgreement, OfHead, OfDeclared, OfPaths, OfTraced}
use Rattle.design_maker.specs.MadeCells.{table_text, lef_text}
use Rattle.design_maker.specs.MadeDef.{def_text}
use Rattle.design_maker.specs.MadeVerilog.{verilog_text}
use Rattle.made_law.specs.Designs.MadeMacros.{made_macros}
use Rattle.made_law.specs.Designs.MadeDesign.{made_design}
use Rattle.made_law.specs.Designs.Laws.{DenotesMadeDesign}
use Rattle.made_law.proofs.designs.Table.{table_is, table_faultless}
use Rattle.made_law.proofs.designs.Lef.{lef_denotes, lef_faultless}
use Rattle.made_law.proofs.designs.Denoting.{exact_of, design_denotes, design_faultless}
use Rattle.made_law.specs.Designs.Places.{Place, Places}
use Rattle.made_law.specs.Paths.MadeNetlist.{NetlistPlaces, made_netlist}
use Rattle.made_law.proofs.paths.Netlists.{netlist_is}
use Rattle.made_law.specs.Checks.MadeAsked.{made_asked, made_paths}
use Rattle.made_law.proofs.checks.Elements.{elements_right}
use Rattle.made_law.proofs.checks.Agreeing.{agreement_right}
use Rattle.made_law.proofs.checks.Traces.{asked_are, traced_right, bits_right}
use Rattle.made_law.proofs.checks.NetPins.{nets_right}
use Rattle.made_law.proofs.checks.Placing.{places_right}
use Rattle.made_law.proofs.checks.Chains.{chains_right}
use Rattle.made_law.specs.Checks.MadeBlocks.{BlockPlace}
use Rattle.made_law.proofs.checks.Heads.{heads_right, declared_right}
use Rattle.made_law.specs.Verilog.Laws.{DenotesMade}
use Rattle.made_law.proofs.verilog.Denoting.{denotes, no_verilog_fault}
use Rattle.made_law.specs.Files.Laws.{FilesLaw, HeadFilesLaw}

-- a text denotes one design at most beside the same cells
one_design : (text : List ℕ) (cells : Cells) (d e : Design) → DenotesDesign text cells d → DenotesDesign text cells e → e ≡ d
one_design text cells d e a b = b.is ∙ ap (design_of text cells) ((exact_of text a.statements a.reads).1 b.statements b.reads) ∙ sym a.is

-- the head's part in what is asked: a text, maybe, with the head that it denotes
record Beside (n : ℕ) (v : NetlistPlaces) (d : Places) (text : Option (List ℕ)) (head : Option StilHead) : Type 0 where
  only : (other : Option StilHead) → IsHeadIn text other → other ≡ head
  no_text : (fault : Fault) → IsSomeAnd text (λ bytes. HoldsInHead bytes fault) → ⊥
  no_chain : (fault : Fault) → IsSomeAnd head (λ h. HoldsInChains (made_design d n) h fault) → ⊥
  lines : ℕ → Place
  asked : asked_by (Some (made_design d n)) head ≡ made_asked lines
  no_other : (fault : Fault) → IsSomeAnd head (λ h. HoldsInHeads (made_netlist v n) small_cells (made_paths n) h fault) → ⊥

module _ (n : ℕ) (some : 8 ≤ n) (most : n ≤ 16384) where
  abbrev verilog : DenotesMade (verilog_text n) n
  verilog = denotes n some most

  abbrev design : DenotesMadeDesign (def_text n) n
  design = design_denotes n some most

  abbrev netlist_here : Netlist
  netlist_here = made_netlist verilog.at n

  abbrev design_here : Design
  design_here = made_design design.at n

  same_cells : (cells : Cells) → DenotesCells table_text cells → cells ≡ small_cells
  same_cells cells h = one_table table_text cells small_cells h table_is

  same_macros : (macros : NamedMacros) → DenotesMacros lef_text macros → macros ≡ made_macros
  same_macros macros h = only_one lef_text made_macros lef_denotes macros h

  same_netlist : (m : Netlist) → DenotesNetlist (verilog_text n) m → m ≡ netlist_here
  same_netlist m h = one_netlist (verilog_text n) m netlist_here h verilog.is

  same_design : (cells : Cells) (d : Design) → DenotesDesign (def_text n) cells d → d ≡ design_here
  same_design cells d h = one_design (def_text n) cells design_here d (design.denotes cells) h

  module _ (text : Option (List ℕ)) (head : Option StilHead) (beside : Beside n verilog.at design.at text head) where
    abbrev files : Texts
    files = texts_with table_text lef_text (verilog_text n) (def_text n) text

    element : (fault : Fault) → IsElementFault files fault → ⊥
    element fault h =
        elements_right n design.at some most fault
        (subst (λ (c : Cells). HoldsInElements c made_macros design_here fault) (same_cells h.cells h.cells_are)
        (subst (λ (m : NamedMacros). HoldsInElements h.cells m design_here fault) (same_macros h.macros h.macros_are)
        (subst (λ (d : Design). HoldsInElements h.cells h.macros d fault) (same_design h.cells h.design h.design_is) h.holds)))

    agreement : (fault : Fault) → IsAgreementFault files fault → ⊥
    agreement fault h =
        agreement_right n verilog.at design.at some most fault
        (subst (λ (m : Netlist). HoldsInAgreement m design_here fault) (same_netlist h.netlist h.read.netlist_is)
        (subst (λ (d : Design). HoldsInAgreement h.netlist d fault) (same_design h.cells h.design h.read.design_is) h.holds))

    abbrev PathFault : Netlist → Cells → Design → Option StilHead → Fault → Type 0
    PathFault m c d head fault = HoldsInPaths m c (file_of head) (asked_by (Some d) head) fault

    on_path : (fault : Fault) → IsPathFault files fault → ⊥
    on_path fault h =
        (traced_right n verilog.at beside.lines some most).none (file_of head) fault
        (subst (λ (asked : List Asked). HoldsInPaths netlist_here small_cells (file_of head) asked fault) beside.asked
        (subst (λ (m : Netlist). PathFault m small_cells design_here head fault) (same_netlist h.netlist h.read.netlist_is)
        (subst (λ (c : Cells). PathFault h.netlist c design_here head fault) (same_cells h.cells h.read.cells_are)
        (subst (λ (d : Design). PathFault h.netlist h.cells d head fault) (same_design h.cells h.design h.read.design_is)
        (subst (λ (o : Option StilHead). PathFault h.netlist h.cells h.design o fault) (beside.only h.head h.head_is) h.holds)))))

    -- of other values that the files denote, with their paths
    module _ (Holds : Netlist → Cells → NamedMacros → Design → Option StilHead → List Path → Type 0) (cells : Cells) (macros : NamedMacros) (m : Netlist) (d : Design) (other : Option StilHead) (paths : List Path)
        (are : ArePathsFor files cells macros m d other paths) where
      abbrev c_same : cells ≡ small_cells
      c_same = same_cells cells are.read.cells_are

      abbrev m_same : m ≡ netlist_here
      m_same = same_netlist m are.read.netlist_is

      abbrev d_same : d ≡ design_here
      d_same = same_design cells d are.read.design_is

      abbrev h_same : other ≡ head
      h_same = beside.only other are.head_is

      traced : ArePathsOf netlist_here small_cells (made_asked beside.lines) paths
      traced =
          subst (λ (asked : List Asked). ArePathsOf netlist_here small_cells asked paths) beside.asked
          (subst (λ (k : Netlist). ArePathsOf k small_cells (asked_by (Some design_here) head) paths) m_same
          (subst (λ (c : Cells). ArePathsOf m c (asked_by (Some design_here) head) paths) c_same
          (subst (λ (x : Design). ArePathsOf m cells (asked_by (Some x) head) paths) d_same
          (subst (λ (o : Option StilHead). ArePathsOf m cells (asked_by (Some d) o) paths) h_same are.traced))))

      p_same : paths ≡ made_paths n
      p_same = one_list netlist_here small_cells (made_asked beside.lines) (netlist_is n verilog.at some most) paths (made_paths n) traced (traced_right n verilog.at beside.lines some most).are

      here : Holds m cells macros d other paths → Holds netlist_here small_cells made_macros design_here head (made_paths n)
      here h =
          subst (λ (k : Netlist). Holds k small_cells made_macros design_here head (made_paths n)) m_same
          (subst (λ (c : Cells). Holds m c made_macros design_here head (made_paths n)) c_same
          (subst (λ (x : NamedMacros). Holds m cells x design_here head (made_paths n)) (same_macros macros are.read.macros_are)
          (subst (λ (x : Design). Holds m cells macros x head (made_paths n)) d_same
          (subst (λ (o : Option StilHead). Holds m cells macros d o (made_paths n)) h_same (subst (λ (ps : List Path). Holds m cells macros d other ps) p_same h)))))

    traced_fault : (fault : Fault) → IsTracedFault files fault → ⊥
    traced_fault fault (OfHeads cells macros m d other paths are h) =
        beside.no_other fault (here (λ k c x e o ps. IsSomeAnd o (λ one. HoldsInHeads k c ps one fault)) cells macros m d other paths are h)
    traced_fault fault (OfBits cells macros m d other paths are h) =
        bits_right n verilog.at some most fault (here (λ k c x e o ps. HaveTooManyBits k c ps fault) cells macros m d other paths are h)
    traced_fault fault (OfNets cells macros m d other paths are h) =
        nets_right n verilog.at design.at some most fault (here (λ k c x e o ps. HoldsInNets k c e ps fault) cells macros m d other paths are h)
    traced_fault fault (OfChains cells macros m d other paths are h) =
        chains_right n verilog.at design.at some most fault (here (λ k c x e o ps. IsRefusal (path_specs k c (Some e) ps) (chain_specs k c e) fault) cells macros m d other paths are h)
    traced_fault fault (OfPlaces cells macros m d other paths are h) =
        places_right n verilog.at design.at some most fault (here (λ k c x e o ps. HoldsInPlaces k x e ps fault) cells macros m d other paths are h)

    undeclared : (fault : Fault) → IsUndeclaredFault files fault → ⊥
    undeclared fault h =
        beside.no_chain fault
        (subst (λ (d : Design). IsSomeAnd head (λ one. HoldsInChains d one fault)) (same_design h.cells h.design h.read.design_is)
        (subst (λ (o : Option StilHead). IsSomeAnd o (λ one. HoldsInChains h.design one fault)) (beside.only h.head h.head_is) h.holds))

    none_holds : (fault : Fault) → HoldsInFiles files fault → ⊥
    none_holds fault (OfTable h) = table_faultless fault h
    none_holds fault (OfLef h) = lef_faultless fault h
    none_holds fault (OfVerilog h) = no_verilog_fault n some most fault h
    none_holds fault (OfDesign h) = design_faultless n some most fault h
    none_holds fault (OfElements h) = element fault h
    none_holds fault (OfAgreement h) = agreement fault h
    none_holds fault (OfHead h) = beside.no_text fault h
    none_holds fault (OfDeclared h) = undeclared fault h
    none_holds fault (OfPaths h) = on_path fault h
    none_holds fault (OfTraced h) = traced_fault fault h

-- without patterns there is no head
no_head : (head : Option StilHead) → IsHeadIn None head → head ≡ None
no_head None h = refl
no_head (Some head) h = absurd h

pub files_right : FilesLaw
files_right n some most fault holds =
    let d = (design_denotes n some most).at in
    none_holds n some most None None
    (record { only = no_head; no_text = λ fault h. absurd h; no_chain = λ fault h. absurd h; lines = d.chains; asked = asked_are n d.chains; no_other = λ fault h. absurd h }) fault holds

-- a head is the only one, and has no fault
only_some : (text : List ℕ) (head : StilHead) → DenotesHead text head → (other : Option StilHead) → IsHeadIn (Some text) other → other ≡ Some head
only_some text head is None h = absurd h
only_some text head is (Some other) h = ap Some (only_head text head other is h)

nothing_in : (places : List ℕ) (place : ℕ) → places ≡ [] → Contains places place → ⊥
nothing_in [] place e h = absurd (omega (arith, h.1))
nothing_in (p ∷ ps) place e h = absurd cc

no_text_fault : (text : List ℕ) (head : StilHead) → DenotesHead text head → (fault : Fault) → HoldsInHead text fault → ⊥
no_text_fault text head is _ (Syntax place h) = nothing_in _ place is.says.no_syntax h
no_text_fault text head is _ (Twice place h) = nothing_in _ place is.says.no_twice h
no_text_fault text head is _ (Barred place h) = nothing_in _ place is.says.no_unsupported h

-- the line of a block
abbrev line_at : (ℕ → BlockPlace) → ℕ → Place
line_at at k = record { line = (at k).line; span = record { start = 0; end = 0 } }

pub head_files_right : HeadFilesLaw
head_files_right n text head at some most denoted is fault holds =
    let v = (denotes n some most).at in
    let d = (design_denotes n some most).at in
    none_holds n some most (Some text) (Some head)
    (record {
      only = only_some text head denoted;
      no_text = no_text_fault text head denoted;
      no_chain = declared_right n d at head is;
      lines = line_at at;
      asked = ap (map asked_by_block) is;
      no_other = heads_right n v at head some most is;
    })
    fault holds
