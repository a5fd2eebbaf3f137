-- What is written of checked files for a legal plan is what the contract says.
use Rattle.std.proofs.Common.{◌≡◌, ◌≤◌, ℕ, true, List, Contains, refl, sym, subst}
use Rattle.std.specs.Prelude.{Some}
use Rattle.base_types.specs.declared.fault.Fault.{Fault}
use Rattle.netlist_core.specs.declared.netlist.Netlist.{Netlist}
use Rattle.netlist_core.specs.Netlists.{IsNetlist}
use Rattle.cell_table.specs.Cells.{Cells}
use Rattle.def_reader.specs.declared.design.Design.{Design}
use Rattle.chain_trace.specs.declared.path.Path.{Path}
use Rattle.chain_trace.specs.Named.{NamesLaw}
use Rattle.chain_rules.specs.declared.spec.ChainSpec.{ChainSpec}
use Rattle.chain_rules.specs.declared.plan.Plan.{Plan}
use Rattle.chain_rules.specs.Legality.{IsLegal}
use Rattle.chain_rules.specs.Rules.{AreRulesOf}
use Rattle.wire_cost.specs.declared.ends.Ends.{Ends}
use Rattle.net_edit.specs.declared.changes.Change.{Change}
use Rattle.net_edit.specs.declared.edits.Edits.{Edits}
use Rattle.net_edit.specs.Changes.{changes}
use Rattle.net_edit.specs.Rearranged.{AreRearranged}
use Rattle.net_edit.specs.Tails.{freed_between, rewired, AreTailNames}
use Rattle.net_edit.specs.Agreement.{Placing, AgreeOnPins, AreMoved}
use Rattle.net_edit.specs.Laws.{HasPath}
use Rattle.net_edit.specs.Wires.{AreEditsFor, IsErasedAlike, names_of}
use Rattle.plan_paths.specs.NewPaths.{new_paths}
use Rattle.plan_paths.specs.Laws.{ReadOffLaw}
use Rattle.traced_paths.specs.Traced.{NameEntries}
use Rattle.path_numbers.specs.Numbers.{path_specs}
use Rattle.traced_paths.specs.Bits.{all_bits}
use Rattle.design_elements.specs.Elements.{chain_specs}
use Rattle.design_places.specs.NetPins.{HoldsInNets}
use Rattle.def_writer.specs.Placing.{placing, PlacingLaw}
use Rattle.def_writer.specs.Moved.Laws.{AgreementLaw}
use Rattle.design_files.specs.declared.read.DesignFiles.{DesignFiles}
use Rattle.design_files.specs.Files.{Texts}
use Rattle.design_files.specs.Stages.{AreChecked}
use Rattle.verilog_writer.specs.Written.{DenotesAlike}
use Rattle.verilog_writer.specs.Wired.{IsWiredText, DeclareBehind}
use Rattle.def_edit.specs.declared.text.DefOut.{DefOut}
use Rattle.def_writer.specs.DefTexts.{IsDefText, IsErasedDef, IsPlacedAfter}
use Rattle.reorder_command.specs.declared.goal.Goal.{Goal}
use Rattle.reorder_command.specs.declared.figures.Figures.{Figures}
use Rattle.reorder_command.specs.Goals.{IsGoodFor, AreMeasures}
use Rattle.reorder_command.specs.Planned.{fixed_of, IsGoodIn, AreMeasuredIn}
use Rattle.reorder_command.specs.Reordered.{is_free_port, IsVerilogOf, IsReadOff, AgreeAfter, AreFigures, IsWrittenDesign, IsReordered}
use Rattle.reorder_command.specs.PatternPlans.{IsMadeFor}
use Rattle.reorder_command.proofs.Numbered.{numbers}
use Rattle.reorder_command.proofs.FreeChanges.{changes_free}
use Rattle.reorder_command.proofs.SamePaths.{HaveSamePaths, only_plan}
use Rattle.reorder_command.proofs.Heads.{heads_kept}
use Rattle.reorder_command.proofs.Standing.{stands}
use Rattle.reorder_command.proofs.Twins.{agree_written}
use Rattle.reorder_command.proofs.Agreed.{components_kept}
use Rattle.reorder_command.proofs.Written.{same_paths, erased}

module _ (t : Texts) (f : DesignFiles) (checked : AreChecked t f) (plan : Plan) (legal : IsLegal f.rules plan) where
  abbrev n : Netlist
  n = f.netlist

  abbrev cells : Cells
  cells = f.table

  abbrev d : Design
  d = f.design

  abbrev old : List Path
  old = f.paths.items

  abbrev pub new : List Path
  new = new_paths old f.rules plan

  abbrev chains : List ChainSpec
  chains = chain_specs n cells d

  all_free : (c : Change) → Contains (changes old new) c → is_free_port n cells d old c.port ≡ true
  all_free c there = changes_free n cells d old chains f.rules plan checked.rules legal c there

  -- what the calls ask of the paths as read, those after the plan, and the chains
  pub record AreReady (ps ns : List Path) (cs : List ChainSpec) : Type 0 where
    pub rearranged : AreRearranged n cells ps ns
    pub free : (c : Change) → Contains (changes ps ns) c → is_free_port n cells d ps c.port ≡ true
    pub standing : (fault : Fault) → HoldsInNets n cells d ps fault → ⊥
    pub entries : NameEntries n cells ps
    pub few : all_bits n cells ps ≤ 262144
    pub chains : cs ≡ chain_specs n cells d
    pub rules : AreRulesOf (path_specs n cells (Some d) ps) cs f.rules
    pub new : ns ≡ new_paths ps f.rules plan

  ready_here : AreRearranged n cells old new → AreReady old new chains
  ready_here rearranged = record {
    rearranged = rearranged;
    free = all_free;
    standing = checked.inside.no_pin;
    entries = checked.paths.entries;
    few = checked.inside.few_bits;
    chains = refl;
    rules = checked.rules;
    new = refl;
  }

  -- so it is with what is computed
  pub are_ready : AreRearranged n cells old new → (ps ns : List Path) → ps ≡ old → ns ≡ new → AreReady ps ns chains
  are_ready rearranged ps ns ps_is ns_is = rw (ps_is, ns_is) (ready_here rearranged)

  -- what the calls give that make the edits and the texts
  pub record AreWritten (old new : List Path) (edits : Edits) (verilog : List ℕ) (out : DefOut) : Type 0 where
    pub rearranged : AreRearranged n cells old new
    pub edits_are : AreEditsFor n cells old new edits
    pub given : AreTailNames n (freed_between n cells old new) (names_of edits)
    pub sound : IsNetlist (rewired n cells (names_of edits) old new)
    pub paths : (path : Path) → Contains new path → HasPath (rewired n cells (names_of edits) old new) cells path
    pub erased : IsErasedAlike n cells (is_free_port n cells d old) old new (names_of edits)
    pub agrees : (before after : Placing) → AreMoved n cells old new before after → AgreeOnPins n before → AgreeOnPins (rewired n cells (names_of edits) old new) after
    pub wired : IsWiredText t.verilog n cells edits verilog
    pub denoted : DenotesAlike verilog (rewired n cells (names_of edits) old new) (names_of edits)
    pub declared : DeclareBehind t.verilog (names_of edits) verilog
    pub def_text : IsDefText t.def n cells d old f.rules plan out
    pub def_erased : IsErasedDef t.def n cells d old new out.text
    pub placed : IsPlacedAfter n cells d old new out.text

  pub as_read : (ps ns : List Path) (edits : Edits) (verilog : List ℕ) (out : DefOut) → ps ≡ old → ns ≡ new → AreWritten ps ns edits verilog out → AreWritten old new edits verilog out
  as_read ps ns edits verilog out ps_is ns_is w = subst (λ (l : List Path). AreWritten old l edits verilog out) ns_is (subst (λ (l : List Path). AreWritten l ns edits verilog out) ps_is w)

  module _ (edits : Edits) (verilog : List ℕ) (out : DefOut) (w : AreWritten old new edits verilog out) where
    abbrev names : List (List ℕ)
    names = names_of edits

    abbrev written : Netlist
    written = w.denoted.netlist

    pub after : NamesLaw → HaveSamePaths n written cells new
    after law = same_paths n cells names old new written checked.sound.is_netlist w.denoted.is.sound w.sound w.denoted.same law w.paths

    verilog_is : IsVerilogOf t.verilog n cells d old new edits verilog written
    verilog_is = record {
      denoted = w.denoted.is;
      declared = w.declared;
      erased = erased n cells names old new written checked.sound.is_netlist w.denoted.is.sound (is_free_port n cells d old) w.rearranged w.given w.denoted.same w.erased;
    }

    read_off : ReadOffLaw → (same : HaveSamePaths n written cells new) → IsReadOff n written cells old same.after f.rules plan
    read_off law same = record {
      same = same.same;
      only = λ other other_legal other_same. only_plan law (numbers n cells d) n written cells old chains f.rules plan other same.after checked.rules legal other_legal same.same other_same;
    }

    agree_after : PlacingLaw → AgreementLaw → (same : HaveSamePaths n written cells new) → AgreeAfter written cells w.placed.placed same.after
    agree_after placing_law agreement_law same =
        let v = w.placed.placed in
        let n_ok = checked.sound.is_netlist in
        let w_ok = w.denoted.is.sound in
        let kept = heads_kept n cells names old new written w.denoted.same.wired in
        let agree = w.agrees (placing n d) (placing n v) w.placed.moved (placing_law n d n_ok checked.agreed.agree) in
        record {
          agree =
              agreement_law written v w_ok w.placed.once (components_kept n written d v kept w.placed.components checked.agreed.agree.components)
              (agree_written n cells names old new written v n_ok w.sound w_ok w.denoted.same.wired agree);
          standing = stands n written cells v kept new same.after same.same w.placed.standing;
        }

    pub is_made : (goal : Goal) (figures : Figures) → ReadOffLaw → NamesLaw → PlacingLaw → AgreementLaw → IsGoodIn goal f plan → AreMeasuredIn goal f plan figures.measured → AreFigures d f.rules edits figures → figures.nets_cut ≡ out.nets_cut
        → IsMadeFor f plan goal t verilog out.text figures
    is_made goal figures read_off_law names_law placing_law agreement_law good measured figures_are cut patterns planned =
        let same = after names_law in
        let made : IsWrittenDesign t verilog out.text figures.nets_cut = record {
          cells = cells;
          macros = f.macros;
          netlist = n;
          design = d;
          head = f.head;
          paths = old;
          rules = f.rules;
          checked = record { read = checked.known.read; head_is = checked.head.is; traced = checked.paths.traced; rules_are = checked.rules };
          plan = plan;
          legal = legal;
          edits = edits;
          edits_are = w.edits_are;
          verilog_text = w.wired;
          def_text = subst (λ (k : ℕ). let other : DefOut = record { text = out.text; nets_cut = k } in IsDefText t.def n cells d old f.rules plan other) (sym cut) w.def_text;
          written = written;
          placed = w.placed.placed;
          after = same.after;
          verilog_is = verilog_is;
          def_is = w.placed.denoted;
          def_erased = w.def_erased;
          read_off = read_off read_off_law same;
          agree = agree_after placing_law agreement_law same;
        } in
        let is : IsReordered goal t verilog out.text figures = record {
          made = made;
          good = subst (λ (ends : Ends). IsGoodFor goal f.rules ends (fixed_of f) plan) checked.ends good;
          figures_are = figures_are;
          measured = subst (λ (ends : Ends). AreMeasures goal n old f.rules ends (fixed_of f) plan figures.measured) checked.ends measured;
        } in
        record { reordered = is; planned = planned }
