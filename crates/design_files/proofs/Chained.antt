-- The first fault of the chains and of the places of the paths' cells.
use Rattle.std.proofs.Common.{◌≡◌, ◌≢◌, ◌⊎◌, ℕ, ◌<◌, ◌≤◌, List, Err, inl, inr, ⊎_elim, refl, sym, ap, ◌∙◌, subst, arith}
use Rattle.std.specs.Prelude.{◌==◌, if◌then◌else◌}
use Rattle.std.proofs.lemmas.Bool.{cases_order}
use Rattle.base_types.specs.declared.fault.Fault.{Fault}
use Rattle.base_types.specs.declared.fault.FileKind.{FileKind}
use Rattle.base_types.specs.declared.fault.ReadFault.{ReadFault}
use Rattle.base_types.specs.declared.fault.ReadFault.TheVariants as faults
use Rattle.base_types.specs.declared.fault.FileKind.TheVariants.{Verilog}
use Rattle.base_types.specs.declared.fault.Spot.{Spot}
use Rattle.base_types.specs.declared.fault.Spot.TheVariants.{Line}
use Rattle.base_types.specs.declared.kind.Kind.{Kind}
use Rattle.base_types.specs.declared.kind.Kind.TheVariants as kinds
use Rattle.base_types.specs.Faults.{number_of}
use Rattle.base_types.specs.FirstFault.{ComesBefore, IsFirstFault, IfFault}
use Rattle.base_types.proofs.FirstFaults.{itself, later}
use Rattle.netlist_core.specs.declared.netlist.Netlist.{Netlist}
use Rattle.cell_table.specs.Cells.{Cells}
use Rattle.lef_pins.specs.Macros.{NamedMacros}
use Rattle.def_reader.specs.declared.design.Design.{Design}
use Rattle.chain_trace.specs.declared.path.Path.{Path}
use Rattle.chain_rules.specs.declared.spec.PathSpec.{PathSpec}
use Rattle.chain_rules.specs.declared.spec.ChainSpec.{ChainSpec}
use Rattle.chain_rules.specs.Stretches.{spec_at}
use Rattle.chain_rules.specs.ChainFaults.{IsFaulty, IsRefusal, IsFaultless}
use Rattle.design_places.specs.Ends.{HoldsInPlaces}
use Rattle.design_files.specs.Stages.{IsFirstOf}
use Rattle.design_files.proofs.LayerKinds.{chain_kind}

-- a refusal of no kind but this one comes before PlaceUnknown
before_place : (paths : List PathSpec) (chains : List ChainSpec) (k : Kind) (c : ℕ) → IsFaulty paths chains k c → k ≢ kinds.TooManyUnits → number_of k < 74
before_place paths chains kinds.NotAStretch c h other = omega arith
before_place paths chains kinds.UnlistedBits c h other = omega arith
before_place paths chains kinds.OrderBroken c h other = omega arith
before_place paths chains kinds.OverMaxBits c h other = omega arith
before_place paths chains kinds.TooManyUnits c h other = absurd (other refl)
before_place paths chains kind c h other = absurd h

-- the chains' kinds by their numbers
abbrev kind_by : ℕ → Kind
kind_by n =
    if n == 70 then kinds.NotAStretch
    else (if n == 71 then kinds.UnlistedBits
    else (if n == 72 then kinds.OrderBroken
    else (if n == 73 then kinds.OverMaxBits
    else kinds.TooManyUnits)))

kind_back : (paths : List PathSpec) (chains : List ChainSpec) (k : Kind) (c : ℕ) → IsFaulty paths chains k c → kind_by (number_of k) ≡ k
kind_back paths chains kinds.NotAStretch c h = refl
kind_back paths chains kinds.UnlistedBits c h = refl
kind_back paths chains kinds.OrderBroken c h = refl
kind_back paths chains kinds.OverMaxBits c h = refl
kind_back paths chains kinds.TooManyUnits c h = refl
kind_back paths chains kind c h = absurd h

abbrev fault : Kind → FileKind → Spot → Fault
fault kind file spot = record { kind = kind; file = file; spot = spot }

-- faults of one kind, file and spot are one
made : (f g : Fault) → f.kind ≡ g.kind → f.file ≡ g.file → f.spot ≡ g.spot → f ≡ g
made f g kind file spot =
    ap (λ (k : Kind). fault k f.file f.spot) kind ∙ ap (λ (x : FileKind). fault g.kind x f.spot) file ∙ ap (λ (x : Spot). fault g.kind g.file x) spot

module _ (paths : List PathSpec) (chains : List ChainSpec) where
  -- of two refusals neither is of a lesser kind
  not_less : (f g : Fault) → IsRefusal paths chains f → IsRefusal paths chains g → number_of g.kind < number_of f.kind → ⊥
  not_less f g a b lt = a.first.least g.kind b.chain lt b.first.within b.first.faulty

  not_earlier : (k : Kind) (f g : Fault) → (a : IsRefusal paths chains f) (b : IsRefusal paths chains g) → f.kind ≡ k → g.kind ≡ k → b.chain < a.chain → ⊥
  not_earlier k f g a b one other lt =
      a.first.earliest b.chain lt (subst (λ (x : Kind). IsFaulty paths chains x b.chain) (other ∙ sym one) b.first.faulty)

  -- so they are one
  pub one_refusal : (f g : Fault) → IsRefusal paths chains f → IsRefusal paths chains g → g ≡ f
  one_refusal f g a b =
      let equal : number_of g.kind ≡ number_of f.kind =
      ⊎_elim (λ (e : number_of g.kind ≡ number_of f.kind). e)
      (λ (far : (number_of g.kind < number_of f.kind) ⊎ (number_of f.kind < number_of g.kind)). ⊎_elim (λ (lt : number_of g.kind < number_of f.kind). absurd (not_less f g a b lt)) (λ (gt : number_of f.kind < number_of g.kind). absurd (not_less g f b a gt)) far)
      (cases_order (number_of g.kind) (number_of f.kind)) in
      let kind : g.kind ≡ f.kind = sym (kind_back paths chains g.kind b.chain b.first.faulty) ∙ ap kind_by equal ∙ kind_back paths chains f.kind a.chain a.first.faulty in
      let chain : b.chain ≡ a.chain =
      ⊎_elim (λ (e : b.chain ≡ a.chain). e)
      (λ (far : (b.chain < a.chain) ⊎ (a.chain < b.chain)). ⊎_elim (λ (lt : b.chain < a.chain). absurd (not_earlier f.kind f g a b refl kind lt)) (λ (gt : a.chain < b.chain). absurd (not_earlier f.kind g f b a kind refl gt)) far)
      (cases_order b.chain a.chain) in
      made g f kind (b.file ∙ sym a.file) (b.spot ∙ ap (λ (c : ℕ). Line (spec_at chains c).line) chain ∙ sym a.spot)

  module _ (n : Netlist) (macros : NamedMacros) (d : Design) (traced : List Path) where
    -- a fault of the chains, or of the places
    abbrev Last : Fault → Type 0
    Last f = IsRefusal paths chains f ⊎ HoldsInPlaces n macros d traced f

    of_place : (f : Fault) → HoldsInPlaces n macros d traced f → number_of f.kind ≡ 74
    of_place f h = ap (λ (x : Fault). number_of x.kind) h.is

    -- a refusal of a kind before PlaceUnknown is the first
    pub first_chain : (f : Fault) → IsRefusal paths chains f → f.kind ≢ kinds.TooManyUnits → IsFirstFault Last f
    first_chain f h other = record {
      holds = inl h;
      least = λ g k e. elim k [
        | inl refused ↦ itself f (subst (λ (x : Fault). ComesBefore x f) (one_refusal f g h refused) e)
        | inr place ↦
            let low = before_place paths chains f.kind h.chain h.first.faulty other in
            later f g (omega (arith, of_place g place)) e
      ];
    }

    -- a cell without a place is, where the chains are refused by TooManyUnits alone
    pub place_before_units : (f u : Fault) → IsFirstFault (HoldsInPlaces n macros d traced) f → IsRefusal paths chains u → u.kind ≡ kinds.TooManyUnits → IsFirstFault Last f
    place_before_units f u w h kind = record {
      holds = inr w.holds;
      least = λ g k e. elim k [
        | inl refused ↦
            let number : number_of u.kind ≡ 75 = ap number_of kind in
            let same : number_of g.kind ≡ number_of u.kind = ap (λ (x : Fault). number_of x.kind) (one_refusal u g h refused) in
            later f g (omega (arith, of_place f w.holds)) e
        | inr place ↦ w.least g place e
      ];
    }

    -- or not at all
    pub place_alone : (f : Fault) → IsFirstFault (HoldsInPlaces n macros d traced) f → ((g : Fault) → IsRefusal paths chains g → ⊥) → IsFirstFault Last f
    place_alone f w none = record { holds = inr w.holds; least = λ g k e. elim k [ inl refused ↦ none g refused | inr place ↦ w.least g place e ] }

    -- and TooManyUnits is, where all cells are placed
    pub units_alone : (f : Fault) → IsRefusal paths chains f → ((g : Fault) → HoldsInPlaces n macros d traced g → ⊥) → IsFirstFault Last f
    units_alone f h none = record {
      holds = inl h;
      least = λ g k e. elim k [
        | inl refused ↦ itself f (subst (λ (x : Fault). ComesBefore x f) (one_refusal f g h refused) e)
        | inr place ↦ none g place
      ];
    }

  pub no_refusal : IsFaultless paths chains → (f : Fault) → IsRefusal paths chains f → ⊥
  no_refusal faultless f h = faultless f.kind h.chain h.first.within h.first.faulty

-- the places refuse, and the chains by TooManyUnits alone
pub refused_place : (n : Netlist) (macros : NamedMacros) (d : Design) (traced : List Path) (u : Fault) (e : ReadFault) → IfFault {X = Unit {0}} (Err e) (IsFirstFault (HoldsInPlaces n macros d traced)) → u.kind ≡ kinds.TooManyUnits
    → IsFirstOf n macros d traced u e
refused_place n macros d traced u (faults.Fault f) w kind = λ specs chains h. place_before_units specs chains n macros d traced f u w h kind
refused_place n macros d traced u faults.NoMemory w kind = tt

-- the places refuse, and the chains not
pub refused_alone : (n : Netlist) (macros : NamedMacros) (d : Design) (traced : List Path) (specs : List PathSpec) (chains : List ChainSpec) (X : Type 0) (e : ReadFault) (Q : Fault → Type 0) → IsFaultless specs chains
    → ((f : Fault) → IsFirstFault (λ g. IsRefusal specs chains g ⊎ HoldsInPlaces n macros d traced g) f → Q f) → IfFault {X = Unit {0}} (Err e) (IsFirstFault (HoldsInPlaces n macros d traced)) → IfFault {X = X} (Err e) Q
refused_alone n macros d traced specs chains X (faults.Fault f) Q faultless goes w = goes f (place_alone specs chains n macros d traced f w (no_refusal specs chains faultless))
refused_alone n macros d traced specs chains X faults.NoMemory Q faultless goes w = tt

-- what was found first, as the call answers it
pub found_first : (n : Netlist) (macros : NamedMacros) (d : Design) (traced : List Path) (specs : List PathSpec) (chains : List ChainSpec) (X : Type 0) (u : Fault) (e : ReadFault) (Q : Fault → Type 0) → IsRefusal specs chains u
    → ((f : Fault) → IsFirstFault (λ g. IsRefusal specs chains g ⊎ HoldsInPlaces n macros d traced g) f → Q f) → IsFirstOf n macros d traced u e → IfFault {X = X} (Err e) Q
found_first n macros d traced specs chains X u (faults.Fault f) Q h goes first = goes f (first specs chains h)
found_first n macros d traced specs chains X u faults.NoMemory Q h goes first = tt
