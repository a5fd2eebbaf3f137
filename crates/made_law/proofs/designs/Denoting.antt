-- The made DEF denotes the made design, and nothing is wrong with it by itself.
use Rattle.std.proofs.Common.{◌≡◌, ℕ, zero, suc, ◌≤◌, Bool, true, false, cond, eqb, List, [], ◌∷◌, map, get_or, Option, Some, Contains, refl, sym, ◌∙◌, subst, codes, arith}
use Rattle.std.specs.Prelude.{Result, Ok, Err, ℤ, pos}
use Rattle.std.specs.List.{filter_map, AllByRecursion as Each}
use Rattle.base_types.specs.Lines.{line_at}
use Rattle.base_types.specs.Faults.{at_line}
use Rattle.base_types.specs.declared.fault.Fault.{Fault}
use Rattle.base_types.specs.declared.fault.FileKind.TheVariants.{Def}
use Rattle.base_types.specs.declared.fault.ReadFault.TheVariants as faults
use Rattle.base_types.specs.declared.kind.Kind.TheVariants.{DefSyntax}
use Rattle.base_types.specs.declared.span.Span.{Span}
use Rattle.cell_table.specs.Cells.{Cells}
use Rattle.token_forms.specs.Tokens.{Token, place_of}
use Rattle.token_forms.specs.Parts.{token_texts}
use Rattle.def_tokens.specs.Numbers.{integer_of}
use Rattle.def_syntax.specs.Frames.{start_of}
use Rattle.def_syntax.specs.Designs.{statements_of, IsDesignText, IsExactDesign}
use Rattle.def_syntax.specs.Reading.{read_design}
use Rattle.def_syntax.specs.declared.design.Located.{Located}
use Rattle.def_syntax.specs.declared.design.DesignText.{DesignText}
use Rattle.def_syntax.proofs.ExactDesigns.{exact_design}
use Rattle.def_layout.specs.NetForms.{AreIn}
use Rattle.def_reader.specs.Numbers.{units_of}
use Rattle.def_reader.specs.Designs.{component_of, pin_of, net_of, design_of}
use Rattle.def_reader.specs.Faults.{are_no_units, has_far_component, has_far_pin, has_many_bits, FailsAt, NumberAt, BadUnits, FarComponent, FarPin, ManyBits, names_in, StandsAgain, section_rows, TwiceAt, SameComponent, SamePin, SameNet, SameChain, SameSection, SameConnection, HoldsInDesign}
use Rattle.def_reader.specs.declared.design.Component.{Component}
use Rattle.def_reader.specs.declared.design.DesignPin.{DesignPin}
use Rattle.def_reader.specs.declared.design.Net.{Net}
use Rattle.def_reader.specs.declared.design.ScanChainText.{ScanChainText}
use Rattle.def_reader.specs.declared.design.Design.{Design}
use Rattle.def_reader.proofs.DesignFaults.{no_fault}
use Rattle.design_maker.specs.MadeDef.{def_text}
use Rattle.made_law.specs.Designs.Places.{Places}
use Rattle.made_law.specs.Designs.MadeComponents.{made_components}
use Rattle.made_law.specs.Designs.MadePins.{made_pins}
use Rattle.made_law.specs.Designs.MadeNets.{made_net, made_nets, net_rows}
use Rattle.made_law.specs.Designs.MadeChains.{made_chains}
use Rattle.made_law.specs.Designs.MadeStatements.{made_statements}
use Rattle.made_law.specs.Designs.MadeDesign.{made_design}
use Rattle.made_law.specs.Designs.Laws.{DenotesMadeDesign, DesignLaw, NoDefFaultLaw}
use Rattle.made_law.proofs.designs.Nets.{all_some}
use Rattle.made_law.proofs.designs.Chains.{Beside, chain_beside}
use Rattle.made_law.proofs.designs.Rising.{never_again}
use Rattle.made_law.proofs.designs.Once.{components_once, pins_once, nets_once, chains_once, connections_once}
use Rattle.made_law.proofs.designs.Design.{def_cuts, statements, is_design, w, c_rows, p_rows, m_rows, h_rows}

each_contains : {X : Type 0} (P : X → Type 0) (xs : List X) (x : X) → Each P xs → Contains xs x → P x
each_contains P [] x e h = absurd (let lt = h.1 in omega arith)
each_contains P (y ∷ xs) x e (zero, lt, is) = subst P is e.0
each_contains P (y ∷ xs) x e (suc k, lt, is) = each_contains P xs x e.1 (k, omega arith, is)

never_fails : {X : Type 0} (bad : X → Bool) (rows : List (Located X)) (line : ℕ) → Each (λ r. bad r.statement ≡ false) rows → FailsAt bad rows line → ⊥
never_fails bad rows line fits h =
    let right = each_contains (λ r. bad r.statement ≡ false) rows h.row fits h.there in
    let both : false ≡ true = sym right ∙ h.fails in
    absurd cc

thousand : units_of (codes "1000") ≡ Some 1000
unfolding integer_of
thousand = refl

-- the sections by their words
abbrev section_key : List ℕ → ℕ
section_key word = cond (eqb (get_or word 0 0) 78) 81 (get_or word 0 0)

sections_once : (rows : List (List ℕ × ℕ)) → names_in rows ≡ codes "COMPONENTS" ∷ codes "PINS" ∷ codes "NETS" ∷ codes "SCANCHAINS" ∷ [] → (line : ℕ) → StandsAgain rows line → ⊥
sections_once rows e = never_again section_key 0 100 rows (codes "COMPONENTS" ∷ codes "PINS" ∷ codes "NETS" ∷ codes "SCANCHAINS" ∷ []) e (omega arith, (omega arith, (omega arith, (omega arith, omega arith))))

same_design : (u : ℤ) (c d : List Component) (p q : List DesignPin) (m l : List Net) (h g : List ScanChainText) (s : Option Span) → c ≡ d → p ≡ q → m ≡ l → h ≡ g
    → ◌≡◌ {A = Design} (record { units = u; components = c; pins = p; nets = m; chains = h; chains_span = s }) (record { units = u; components = d; pins = q; nets = l; chains = g; chains_span = s })
same_design u c d p q m l h g s a b e f = rw (a, b, e, f) refl

-- a text that is a design's is exactly that
pub exact_of : (text : List ℕ) (t : DesignText) → IsDesignText text t → IsExactDesign text (Ok t)
exact_of text t is = of (read_design text) refl
  where
    of : (r : Result DesignText ℕ) → read_design text ≡ r → IsExactDesign text (Ok t)
    of (Ok d) e = let x = exact_design text (Ok d) e in (is, λ u k. x.1 u k ∙ sym (x.1 t is), x.2)
    of (Err at) e = let x = exact_design text (Err (faults.Fault (at_line DefSyntax Def (line_at text at)))) (at, e, refl) in absurd (x.1 t is)

module _ (n : ℕ) (some : 8 ≤ n) (most : n ≤ 16384) (text : List ℕ) (ss : List (List Token)) (cut : statements_of text ≡ ss) (words : map token_texts ss ≡ made_statements n) (inside : Each (AreIn text) ss) where
  abbrev t : DesignText
  t = statements n some most text ss cut words inside

  is : IsDesignText text t
  is = is_design n some most text ss cut words inside

  components : map component_of t.components ≡ made_components (c_rows n some most text ss cut words inside).at n
  components = (c_rows n some most text ss cut words inside).is tt

  pins : map pin_of t.pins ≡ made_pins (p_rows n some most text ss cut words inside).at n
  pins = (p_rows n some most text ss cut words inside).is tt

  nets : filter_map (net_of text) t.nets ≡ made_nets (m_rows n some most text ss cut words inside).at n
  nets = let r = m_rows n some most text ss cut words inside in all_some (net_of text) made_net t.nets r.at (net_rows n) (r.is tt)

  chains : (c : Beside) → map (chain_beside c) t.chains ≡ made_chains (h_rows n some most text ss cut words inside).at n
  chains c = (h_rows n some most text ss cut words inside).is c

  numbers : (line : ℕ) → NumberAt t line → ⊥
  numbers line (BadUnits h) = never_fails are_no_units (t.units ∷ []) line (rw thousand refl, tt) h
  numbers line (FarComponent h) = never_fails has_far_component t.components line (c_rows n some most text ss cut words inside).fits h
  numbers line (FarPin h) = never_fails has_far_pin t.pins line (p_rows n some most text ss cut words inside).fits h
  numbers line (ManyBits h) = never_fails has_many_bits t.chains line (h_rows n some most text ss cut words inside).fits h

  once : (line : ℕ) → TwiceAt text t line → ⊥
  once line (SameComponent h) = components_once n most (c_rows n some most text ss cut words inside).at _ components line h
  once line (SamePin h) = pins_once n (p_rows n some most text ss cut words inside).at _ pins line h
  once line (SameNet h) = nets_once n some most (m_rows n some most text ss cut words inside).at _ nets line h
  once line (SameChain h) = chains_once n (h_rows n some most text ss cut words inside).at ([], []) t.chains (chains ([], [])) line h
  once line (SameSection h) = sections_once (section_rows t.sections) refl line h
  once line (SameConnection h) = connections_once n some most (m_rows n some most text ss cut words inside).at _ nets line h

  pub faultless : (fault : Fault) → HoldsInDesign text fault → ⊥
  faultless fault h = no_fault text t (exact_of text t is) numbers once fault h

  abbrev places : Places
  places = let v = w n some most text ss cut words inside in
      record {
        components = (c_rows n some most text ss cut words inside).at;
        pins = (p_rows n some most text ss cut words inside).at;
        nets = (m_rows n some most text ss cut words inside).at;
        chains = (h_rows n some most text ss cut words inside).at;
        section = record { start = start_of v.h.first; end = (place_of v.h.last).end };
      }

  made_is : (cells : Cells) → design_of text cells t ≡ made_design places n
  unfolding design_of
  made_is cells =
      rw thousand (same_design (pos 1000) (map component_of t.components) (made_components places.components n) (map pin_of t.pins) (made_pins places.pins n) (filter_map (net_of text) t.nets) (made_nets places.nets n)
      (map (chain_beside (cells, map component_of t.components)) t.chains) (made_chains places.chains n) (Some places.section) components pins nets (chains (cells, map component_of t.components)))

  pub denoting : DenotesMadeDesign text n
  denoting = record { at = places; denotes = λ cells. record { statements = t; reads = is; numbers = numbers; once = once; is = sym (made_is cells) } }

pub design_denotes : DesignLaw
design_denotes n some most = let c = def_cuts n in denoting n some most (def_text n) c.statements c.is c.words c.inside

pub design_faultless : NoDefFaultLaw
design_faultless n some most = let c = def_cuts n in faultless n some most (def_text n) c.statements c.is c.words c.inside
