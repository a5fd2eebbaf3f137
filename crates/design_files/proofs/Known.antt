-- What is known of the files makes the faults of each stage the first of all.
use Rattle.std.proofs.Common.{◌≡◌, ℕ, ◌≤◌, List, Err, inl, inr, sym, ◌∙◌, subst, arith}
use Rattle.std.specs.Prelude.{Option, Some, IsSomeAnd}
use Rattle.base_types.specs.declared.fault.Fault.{Fault}
use Rattle.base_types.specs.declared.fault.ReadFault.{ReadFault}
use Rattle.base_types.specs.declared.fault.ReadFault.TheVariants as faults
use Rattle.base_types.specs.FirstFault.{ComesBefore, IsFirstFault, IfFault}
use Rattle.base_types.proofs.FirstFaults.{itself}
use Rattle.netlist_core.specs.declared.netlist.Netlist.{Netlist}
use Rattle.cell_table.specs.Cells.{Cells}
use Rattle.cell_table.specs.Entries.{HoldsInTable}
use Rattle.lef_pins.specs.Macros.{NamedMacros}
use Rattle.lef_pins.specs.Faults.{HoldsInLef}
use Rattle.verilog_checks.specs.Faults.{HoldsInVerilog}
use Rattle.def_reader.specs.declared.design.Design.{Design}
use Rattle.def_reader.specs.Faults.{HoldsInDesign}
use Rattle.def_reader.specs.Denoted.{DenotesDesign}
use Rattle.def_reader.specs.Agreement.{HoldsInAgreement}
use Rattle.chain_trace.specs.declared.path.Path.{Path}
use Rattle.head_chains.specs.Asked.{asked_by, file_of}
use Rattle.traced_paths.specs.Traced.{ArePathsOf, HoldsInPaths}
use Rattle.traced_paths.specs.Bits.{all_bits, HaveTooManyBits}
use Rattle.design_elements.specs.Faults.{HoldsInElements}
use Rattle.design_places.specs.NetPins.{HoldsInNets}
use Rattle.head_chains.specs.Chains.{HoldsInChains}
use Rattle.stil_types.specs.declared.head.StilHead.{StilHead}
use Rattle.stil_head.specs.Faults.{HoldsInHead}
use Rattle.design_files.specs.Files.{Texts}
use Rattle.design_files.specs.Faults.{ArePathsFor, IsElementFault, IsAgreementFault, IsUndeclaredFault, IsPathFault, OfHeads, OfBits, OfNets, OfChains, OfPlaces, HoldsInFiles, OfTable, OfLef, OfVerilog, OfDesign, OfElements, OfAgreement, OfHead, OfDeclared, OfPaths, OfTraced, IsFilesFault}
use Rattle.design_files.specs.Stages.{AreKnown, IsHeadKnown, DoAgree, HavePaths, AreInDesign}
use Rattle.design_files.proofs.Layers.{OfPath, Declared, Bits, Nets, ChainsOrPlaces, OnPaths}
use Rattle.design_files.proofs.Firsts.{NoneBefore, none_before_more, first_at, none_at_all}

-- two faults that are one don't come one before the other
itself_after : (f g x : Fault) → f ≡ x → g ≡ x → ComesBefore g f → ⊥
itself_after f g x one other e = itself f (subst (λ (y : Fault). ComesBefore y f) (other ∙ sym one) e)

-- few bits are not too many
pub no_bits : (n : Netlist) (cells : Cells) (paths : List Path) → all_bits n cells paths ≤ 262144 → (f : Fault) → HaveTooManyBits n cells paths f → ⊥
no_bits n cells paths few f h =
    let many = h.many in
    absurd (omega arith)

module _ (t : Texts) where
  none_zero : NoneBefore t 0
  none_zero j f lt h = absurd (omega arith)

  pub first_table : (f : Fault) → IsFirstFault (HoldsInTable t.table) f → IsFilesFault t f
  first_table f w = first_at t 0 f (OfTable w.holds) w.holds none_zero w.least

  module _ (no_table : (f : Fault) → HoldsInTable t.table f → ⊥) where
    none_one : NoneBefore t 1
    none_one = none_before_more t 0 none_zero no_table

    pub first_lef : (f : Fault) → IsFirstFault (HoldsInLef t.lef) f → IsFilesFault t f
    first_lef f w = first_at t 1 f (OfLef w.holds) w.holds none_one w.least

    module _ (no_lef : (f : Fault) → HoldsInLef t.lef f → ⊥) where
      none_two : NoneBefore t 2
      none_two = none_before_more t 1 none_one no_lef

      pub first_verilog : (f : Fault) → IsFirstFault (HoldsInVerilog t.verilog) f → IsFilesFault t f
      first_verilog f w = first_at t 2 f (OfVerilog w.holds) w.holds none_two w.least

      module _ (no_verilog : (f : Fault) → HoldsInVerilog t.verilog f → ⊥) where
        none_three : NoneBefore t 3
        none_three = none_before_more t 2 none_two no_verilog

        pub first_design : (f : Fault) → IsFirstFault (HoldsInDesign t.def) f → IsFilesFault t f
        first_design f w = first_at t 3 f (OfDesign w.holds) w.holds none_three w.least

        pub none_four : ((f : Fault) → HoldsInDesign t.def f → ⊥) → NoneBefore t 4
        none_four no_design = none_before_more t 3 none_three no_design

module _ (t : Texts) (cells : Cells) (macros : NamedMacros) (n : Netlist) (d : Design) (known : AreKnown t cells macros n d) where
  before_elements : NoneBefore t 4
  before_elements = none_four t known.no_table known.no_lef known.no_verilog known.no_design

  -- other cells and another design of the same texts are these
  same_design : (other_cells : Cells) (other : Design) → other_cells ≡ cells → DenotesDesign t.def other_cells other → other ≡ d
  same_design other_cells other same is = known.only_design other (subst (λ (c : Cells). DenotesDesign t.def c other) same is)

  element_here : (f : Fault) → IsElementFault t f → HoldsInElements cells macros d f
  element_here f h =
      let same_cells = known.only_cells h.cells h.cells_are in
      let same_macros = known.only_macros h.macros h.macros_are in
      let same = same_design h.cells h.design same_cells h.design_is in
      subst (λ (c : Cells). HoldsInElements c macros d f) same_cells
      (subst (λ (m : NamedMacros). HoldsInElements h.cells m d f) same_macros (subst (λ (x : Design). HoldsInElements h.cells h.macros x f) same h.holds))

  pub first_element : (f : Fault) → IsFirstFault (HoldsInElements cells macros d) f → IsFilesFault t f
  first_element f w =
      let here : IsElementFault t f =
      record { cells = cells; macros = macros; design = d; cells_are = known.read.cells_are; macros_are = known.read.macros_are; design_is = known.read.design_is; holds = w.holds } in
      first_at t 4 f (OfElements here) here before_elements (λ g h. w.least g (element_here g h))

  module _ (no_element : (f : Fault) → HoldsInElements cells macros d f → ⊥) where
    before_agreement : NoneBefore t 5
    before_agreement = none_before_more t 4 before_elements (λ f h. no_element f (element_here f h))

    agreement_here : (f : Fault) → IsAgreementFault t f → HoldsInAgreement n d f
    agreement_here f h =
        let same_cells = known.only_cells h.cells h.read.cells_are in
        let same = same_design h.cells h.design same_cells h.read.design_is in
        let same_netlist = known.only_netlist h.netlist h.read.netlist_is in
        subst (λ (m : Netlist). HoldsInAgreement m d f) same_netlist (subst (λ (x : Design). HoldsInAgreement h.netlist x f) same h.holds)

    pub first_agreement : (f : Fault) → IsFirstFault (HoldsInAgreement n d) f → IsFilesFault t f
    first_agreement f w =
        let here : IsAgreementFault t f = record { cells = cells; macros = macros; netlist = n; design = d; read = known.read; holds = w.holds } in
        first_at t 5 f (OfAgreement here) here before_agreement (λ g h. w.least g (agreement_here g h))

    module _ (no_difference : (f : Fault) → HoldsInAgreement n d f → ⊥) where
      before_head : NoneBefore t 6
      before_head = none_before_more t 5 before_agreement (λ f h. no_difference f (agreement_here f h))

      pub first_head : (text : List ℕ) → t.head ≡ Some text → (f : Fault) → IsFirstFault (HoldsInHead text) f → IsFilesFault t f
      first_head text is f w =
          let there : IsFirstFault (λ g. IsSomeAnd t.head (λ bytes. HoldsInHead bytes g)) f =
          subst (λ (o : Option (List ℕ)). IsFirstFault (λ g. IsSomeAnd o (λ bytes. HoldsInHead bytes g)) f) (sym is) w in
          first_at t 6 f (OfHead there.holds) there.holds before_head there.least

  module _ (agreed : DoAgree n cells macros d) (head : Option StilHead) (head_known : IsHeadKnown t.head head) where
    before_declared : NoneBefore t 7
    before_declared = none_before_more t 6 (before_head agreed.no_element agreed.no_difference) head_known.no_head

    abbrev OfChain : Design → Option StilHead → Fault → Type 0
    OfChain x h f = IsSomeAnd h (λ one. HoldsInChains x one f)

    declared_here : (f : Fault) → IsUndeclaredFault t f → OfChain d head f
    declared_here f h =
        let same = same_design h.cells h.design (known.only_cells h.cells h.read.cells_are) h.read.design_is in
        subst (λ (x : Option StilHead). OfChain d x f) (head_known.only h.head h.head_is) (subst (λ (x : Design). OfChain x h.head f) same h.holds)

    pub first_declared : (f : Fault) → IsFirstFault (OfChain d head) f → IsFilesFault t f
    first_declared f w =
        let here : IsUndeclaredFault t f = record { cells = cells; macros = macros; netlist = n; design = d; head = head; read = known.read; head_is = head_known.is; holds = w.holds } in
        first_at t 7 f (OfDeclared here) here before_declared (λ g h. w.least g (declared_here g h))

    module _ (no_undeclared : (f : Fault) → OfChain d head f → ⊥) where
      before_paths : NoneBefore t 8
      before_paths = none_before_more t 7 before_declared (λ f h. no_undeclared f (declared_here f h))

      abbrev PathFault : Netlist → Cells → Design → Option StilHead → Fault → Type 0
      PathFault m c x h f = HoldsInPaths m c (file_of h) (asked_by (Some x) h) f

      path_here : (f : Fault) → IsPathFault t f → PathFault n cells d head f
      path_here f h =
          let same_cells = known.only_cells h.cells h.read.cells_are in
          let same = same_design h.cells h.design same_cells h.read.design_is in
          let same_netlist = known.only_netlist h.netlist h.read.netlist_is in
          subst (λ (m : Netlist). PathFault m cells d head f) same_netlist
          (subst (λ (c : Cells). PathFault h.netlist c d head f) same_cells
          (subst (λ (x : Design). PathFault h.netlist h.cells x head f) same
          (subst (λ (x : Option StilHead). PathFault h.netlist h.cells h.design x f) (head_known.only h.head h.head_is) h.holds)))

      pub first_path : (f : Fault) → IsFirstFault (PathFault n cells d head) f → IsFilesFault t f
      first_path f w =
          let here : IsPathFault t f = record { cells = cells; macros = macros; netlist = n; design = d; head = head; read = known.read; head_is = head_known.is; holds = w.holds } in
          first_at t 8 f (OfPaths here) here before_paths (λ g h. w.least g (path_here g h))

      before_found : ((f : Fault) → PathFault n cells d head f → ⊥) → NoneBefore t 9
      before_found no_path = none_before_more t 8 before_paths (λ f h. no_path f (path_here f h))

    module _ (paths : List Path) (have : HavePaths n cells d head paths) where
      before_nine : NoneBefore t 9
      before_nine = before_found have.no_undeclared have.no_path

      are : ArePathsFor t cells macros n d head paths
      are = record { read = known.read; head_is = head_known.is; traced = have.traced }

      -- paths of other values are these
      module _ (Holds : OfPath) where
        here_of : (f : Fault) → OnPaths t Holds f → Holds cells macros n d head paths f
        here_of f h =
            let same_cells = known.only_cells h.cells h.are.read.cells_are in
            let same_macros = known.only_macros h.macros h.are.read.macros_are in
            let same_netlist = known.only_netlist h.netlist h.are.read.netlist_is in
            let same = same_design h.cells h.design same_cells h.are.read.design_is in
            let same_head = head_known.only h.head h.are.head_is in
            let traced : ArePathsOf n cells (asked_by (Some d) head) h.paths =
            subst (λ (m : Netlist). ArePathsOf m cells (asked_by (Some d) head) h.paths) same_netlist
            (subst (λ (c : Cells). ArePathsOf h.netlist c (asked_by (Some d) head) h.paths) same_cells
            (subst (λ (x : Design). ArePathsOf h.netlist h.cells (asked_by (Some x) head) h.paths) same
            (subst (λ (x : Option StilHead). ArePathsOf h.netlist h.cells (asked_by (Some h.design) x) h.paths) same_head h.are.traced))) in
            let same_paths = have.only h.paths traced in
            subst (λ (c : Cells). Holds c macros n d head paths f) same_cells
            (subst (λ (m : NamedMacros). Holds h.cells m n d head paths f) same_macros
            (subst (λ (m : Netlist). Holds h.cells h.macros m d head paths f) same_netlist
            (subst (λ (x : Design). Holds h.cells h.macros h.netlist x head paths f) same
            (subst (λ (x : Option StilHead). Holds h.cells h.macros h.netlist h.design x paths f) same_head
            (subst (λ (ps : List Path). Holds h.cells h.macros h.netlist h.design h.head ps f) same_paths h.holds)))))

        on_these : (f : Fault) → Holds cells macros n d head paths f → OnPaths t Holds f
        on_these f h = record { cells = cells; macros = macros; netlist = n; design = d; head = head; paths = paths; are = are; holds = h }

      pub first_other : (f : Fault) → IsFirstFault (Declared cells macros n d head paths) f → IsFilesFault t f
      first_other f w = first_at t 9 f (OfTraced (OfHeads cells macros n d head paths are w.holds)) (on_these Declared f w.holds) before_nine (λ g h. w.least g (here_of Declared g h))

      module _ (no_other : (f : Fault) → Declared cells macros n d head paths f → ⊥) where
        before_ten : NoneBefore t 10
        before_ten = none_before_more t 9 before_nine (λ f h. no_other f (here_of Declared f h))

        -- there is one fault of bits at most
        pub first_bits : (f : Fault) → HaveTooManyBits n cells paths f → IsFilesFault t f
        first_bits f h =
            first_at t 10 f (OfTraced (OfBits cells macros n d head paths are h)) (on_these Bits f h) before_ten
            (λ g w e. let other = here_of Bits g w in itself_after f g _ h.is other.is e)

        module _ (few : all_bits n cells paths ≤ 262144) where
          before_eleven : NoneBefore t 11
          before_eleven = none_before_more t 10 before_ten (λ f h. no_bits n cells paths few f (here_of Bits f h))

          pub first_nets : (f : Fault) → IsFirstFault (HoldsInNets n cells d paths) f → IsFilesFault t f
          first_nets f w =
              first_at t 11 f (OfTraced (OfNets cells macros n d head paths are w.holds)) (on_these Nets f w.holds) before_eleven (λ g h. w.least g (here_of Nets g h))

      module _ (inside : AreInDesign n cells d head paths) where
        before_last : NoneBefore t 12
        before_last = none_before_more t 11 (before_eleven inside.no_other inside.few_bits) (λ f h. inside.no_pin f (here_of Nets f h))

        abbrev Last : Fault → Type 0
        Last f = ChainsOrPlaces cells macros n d head paths f

        holds_last : (f : Fault) → Last f → HoldsInFiles t f
        holds_last f (inl h) = OfTraced (OfChains cells macros n d head paths are h)
        holds_last f (inr h) = OfTraced (OfPlaces cells macros n d head paths are h)

        pub first_last : (f : Fault) → IsFirstFault Last f → IsFilesFault t f
        first_last f w = first_at t 12 f (holds_last f w.holds) (on_these ChainsOrPlaces f w.holds) before_last (λ g h. w.least g (here_of ChainsOrPlaces g h))

        pub none_of_all : ((f : Fault) → Last f → ⊥) → (f : Fault) → HoldsInFiles t f → ⊥
        none_of_all no_last = none_at_all t (none_before_more t 12 before_last (λ f h. no_last f (here_of ChainsOrPlaces f h)))

-- what holds of the fault of a call, of that of another one
pub carried : (X Y : Type 0) (e : ReadFault) (P Q : Fault → Type 0) → ((f : Fault) → P f → Q f) → IfFault {X = X} (Err e) P → IfFault {X = Y} (Err e) Q
carried X Y (faults.Fault f) P Q goes h = goes f h
carried X Y faults.NoMemory P Q goes h = tt
