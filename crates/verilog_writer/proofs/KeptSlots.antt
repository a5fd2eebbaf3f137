-- Where all places of the expressions of a text stand.
use Rattle.std.proofs.Common.{◌≡◌, ℕ, List, length, sym, subst}
use Rattle.base_types.specs.declared.span.Span.{Span}
use Rattle.netlist_core.specs.declared.netlist.Netlist.{Netlist}
use Rattle.verilog_syntax.specs.Laws.{module_parts}
use Rattle.verilog_syntax.proofs.SpelledLaw.{spelled_law}
use Rattle.verilog_names.specs.Declarations.{declarations}
use Rattle.verilog_checks.proofs.Faultless.{passed}
use Rattle.verilog_reader.specs.Denoted.{DenotesNetlist}
use Rattle.verilog_writer.proofs.Edited.{slots_rising}
use Rattle.verilog_writer.proofs.KeptLists.{Has, Spaced}
use Rattle.verilog_writer.proofs.KeptPlaces.{places, pin_places, right_places, places_spaced, pins_spaced, rights_spaced, pin_within, right_within, one_kind, instance_spans, right_spans, instances_placed, assigns_placed}
use Rattle.verilog_writer.proofs.KeptEdits.{AreSlots}

pub slots_are : (text : List ℕ) (n : Netlist) (d : DenotesNetlist text n) → AreSlots n (places d.statements) (length text)
slots_are text n d =
    let ps = d.statements in
    let p = passed text ps d.reads in
    let s = spelled_law text ps p.read in
    let end = length text in
    let spaced = places_spaced s.listed ps end (slots_rising text (module_parts s.listed ps) s.fits) in
    let pins : instance_spans n.instances ≡ pin_places ps = instances_placed n.nets n.instances (declarations ps) ps d.is.instances in
    let rights : right_spans n.assigns ≡ right_places ps = assigns_placed n.nets n.assigns (declarations ps) ps d.is.assigns in
    record {
      spaced = spaced;
      pins = subst (λ (l : List Span). Spaced 0 end l) (sym pins) (pins_spaced ps 0 end spaced);
      rights = subst (λ (l : List Span). Spaced 0 end l) (sym rights) (rights_spaced ps 0 end spaced);
      pin = λ s h. pin_within s ps (subst (λ (l : List Span). Has s l) pins h);
      right = λ s h. right_within s ps (subst (λ (l : List Span). Has s l) rights h);
      apart = λ s a b. one_kind s ps 0 end spaced (subst (λ (l : List Span). Has s l) pins a) (subst (λ (l : List Span). Has s l) rights b);
    }
