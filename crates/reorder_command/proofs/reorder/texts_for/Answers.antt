use Rattle.std.proofs.Common.{List, subst, sym}
use Rattle.chain_trace.specs.declared.path.Path.{Path}
use Rattle.net_edit.specs.Rearranged.{AreRearranged}
use Rattle.design_files.specs.Files.{Texts, texts_with}
use Rattle.reorder_command.specs.declared.figures.Measured.{Measured}
use Rattle.reorder_command.specs.Planned.{AreMeasuredIn}
use Rattle.reorder_command.specs.Reordered.{is_free_port}
use Rattle.reorder_command.proofs.IsMade.{are_ready, AreWritten, as_read, is_made}
use Rattle.reorder_command.proofs.reorder.texts_for.Goals as goal

pub verilog_text-requires-clause-edits : goal.verilog_text-requires-clause-edits
verilog_text-requires-clause-edits c =
    let f = c.args.files.now in
    let ps = c.as_slice-paths.result.now in
    let r : AreRearranged f.netlist f.table ps c.args.new.now =
    subst (λ (l : List Path). AreRearranged f.netlist f.table l c.args.new.now) (sym c.as_slice-paths.ensures.value) c.requires.new.rearranged in
    record { old = ps; new = c.args.new.now; are = c.in_ok-edits.ensures.value r; rearranged = r }

pub def_text-requires-clause-rearranged : goal.def_text-requires-clause-rearranged
def_text-requires-clause-rearranged c =
    let f = c.args.files.now in
    subst (λ (l : List Path). AreRearranged f.netlist f.table l c.args.new.now) (sym c.as_slice-paths.ensures.value) c.requires.new.rearranged

pub returns : goal.returns
returns c = record {
  reordered = λ goal table lef head checked good measured.
      let f = c.args.files.now in
      let plan = c.args.plan.now in
      let legal = c.requires.legal in
      let t : Texts = texts_with table lef c.args.verilog.now c.args.def.now head in
      let ps = c.as_slice-paths.result.now in
      let ns = c.args.new.now in
      let ps_is = c.as_slice-paths.ensures.value in
      let ns_is = c.requires.new.are in
      let here = subst (λ (l : List Path). AreRearranged f.netlist f.table f.paths.items l) ns_is c.requires.new.rearranged in
      let ready = are_ready t f checked plan legal here ps ns ps_is ns_is in
      let r = ready.rearranged in
      let edits = c.in_ok-edits.edits in
      let are = c.in_ok-edits.ensures.value r in
      let given = c.in_ok-edits.ensures.names r in
      let text = c.in_ok-text.text in
      let out = c.in_ok-moved.moved in
      let w : AreWritten t f checked plan legal ps ns edits text out = record {
        rearranged = r;
        edits_are = are;
        given = given;
        sound = c.in_ok-edits.ensures.netlist r;
        paths = c.in_ok-edits.ensures.paths r;
        erased = c.in_ok-edits.ensures.erased (is_free_port f.netlist f.table f.design ps) r ready.free;
        agrees = λ before behind moved agree. c.in_ok-edits.ensures.agrees before behind r moved agree;
        wired = c.in_ok-text.ensures.value;
        denoted = c.in_ok-text.ensures.denoted ps ns are r given;
        declared = c.in_ok-text.ensures.declared ps ns are r given;
        def_text = c.in_ok-moved.ensures.text;
        def_erased = c.in_ok-moved.ensures.erased;
        placed = c.in_ok-moved.ensures.denoted;
      } in
      let figures = c.figures_of-figures.result in
      let measures = subst (λ (m : Measured). AreMeasuredIn goal f plan m) (sym c.figures_of-figures.ensures.measured) measured in
      is_made t f checked plan legal edits text out (as_read t f checked plan legal ps ns edits text out ps_is ns_is w) goal figures c.plan_law.ensures.read_off c.names_law.ensures.same
      c.placing_law.ensures.law c.agreement_law.ensures.agree good measures c.figures_of-figures.ensures.figures c.figures_of-figures.ensures.cut;
}
