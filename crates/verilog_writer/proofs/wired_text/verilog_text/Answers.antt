use Rattle.std.proofs.Common.{rules, ◌∙◌, ℕ, List, length, sym, ap, subst}
use Rattle.std.specs.Prelude.{IsPermutation}
use Rattle.std.proofs.lemmas.Result.{IfOk-weaker}
use Rattle.std.proofs.lemmas.List.Sorted.{IsNonDecreasingBy-from_sort_by_key}
use Rattle.splice.specs.declared.Edit.{Edit}
use Rattle.splice.specs.Spliced.{AreRising, spliced}
use Rattle.net_edit.specs.declared.edits.TailEdit.{TailEdit}
use Rattle.net_edit.specs.Tails.{rewired}
use Rattle.net_edit.specs.Wires.{names_of}
use Rattle.verilog_writer.specs.Written.{DenotesAlike}
use Rattle.verilog_writer.specs.Wired.{with_tails, DeclareBehind}
use Rattle.verilog_writer.proofs.TailLaw.{text_law}
use Rattle.verilog_writer.proofs.TailRise.{tails_rise}
use Rattle.verilog_writer.proofs.wired_text.verilog_text.Goals as goal

pub spliced-requires : goal.spliced-requires
spliced-requires c =
    let sorted = c.sort_unstable_by_key.new.self.items in
    let same = subst (λ (l : List Edit). IsPermutation l sorted) c.in_ok-all.ensures.value c.sort_unstable_by_key.ensures.permutation in
    let order = IsNonDecreasingBy-from_sort_by_key (λ (e : Edit). e.span.start) sorted c.sort_unstable_by_key.ensures.sorted (λ a r q k. search rules) in
    record {
      rising = subst (λ (l : List Edit). AreRising 0 (length c.args.text.now) l) (sym (c.deref.ensures.value ∙ c.in_ok-put_lines.ensures.value ∙ ap (λ (ts : List TailEdit). with_tails c.args.text.now c.args.netlist.now ts sorted) c.as_slice.ensures.value))
          (tails_rise c.args.text.now c.args.netlist.now c.requires.read c.args.table.now c.args.edits.now c.requires.edits sorted same order);
    }

pub returns-clause-value : goal.returns-clause-value
returns-clause-value c =
    let sorted = c.sort_unstable_by_key.new.self.items in
    let same = subst (λ (l : List Edit). IsPermutation l sorted) c.in_ok-all.ensures.value c.sort_unstable_by_key.ensures.permutation in
    let order = IsNonDecreasingBy-from_sort_by_key (λ (e : Edit). e.span.start) sorted c.sort_unstable_by_key.ensures.sorted (λ a r q k. search rules) in
    IfOk-weaker c.spliced.result _ _
    (λ written is. record {
      all = sorted;
      same = same;
      rising = tails_rise c.args.text.now c.args.netlist.now c.requires.read c.args.table.now c.args.edits.now c.requires.edits sorted same order;
      is = is ∙ ap (spliced c.args.text.now) (c.deref.ensures.value ∙ c.in_ok-put_lines.ensures.value ∙ ap (λ (ts : List TailEdit). with_tails c.args.text.now c.args.netlist.now ts sorted) c.as_slice.ensures.value);
    })
    c.spliced.ensures.value

pub returns-clause-denoted : goal.returns-clause-denoted
returns-clause-denoted c old new are r named =
    let text = c.args.text.now in
    let n = c.args.netlist.now in
    let edits = c.args.edits.now in
    let sorted = c.sort_unstable_by_key.new.self.items in
    let same = subst (λ (l : List Edit). IsPermutation l sorted) c.in_ok-all.ensures.value c.sort_unstable_by_key.ensures.permutation in
    let order = IsNonDecreasingBy-from_sort_by_key (λ (e : Edit). e.span.start) sorted c.sort_unstable_by_key.ensures.sorted (λ a r q k. search rules) in
    let rising = tails_rise text n c.requires.read c.args.table.now edits c.requires.edits sorted same order in
    IfOk-weaker c.spliced.result _ _
    (λ written is. subst (λ (t : List ℕ). DenotesAlike t (rewired n c.args.table.now (names_of edits) old new) (names_of edits)) (sym (is ∙ ap (spliced text) (c.deref.ensures.value ∙ c.in_ok-put_lines.ensures.value ∙ ap (λ (ts : List TailEdit). with_tails c.args.text.now c.args.netlist.now ts sorted) c.as_slice.ensures.value)))
    (text_law text n c.requires.read c.args.table.now old new edits are r named sorted same rising).denoted)
    c.spliced.ensures.value

pub returns-clause-declared : goal.returns-clause-declared
returns-clause-declared c old new are r named =
    let text = c.args.text.now in
    let n = c.args.netlist.now in
    let edits = c.args.edits.now in
    let sorted = c.sort_unstable_by_key.new.self.items in
    let same = subst (λ (l : List Edit). IsPermutation l sorted) c.in_ok-all.ensures.value c.sort_unstable_by_key.ensures.permutation in
    let order = IsNonDecreasingBy-from_sort_by_key (λ (e : Edit). e.span.start) sorted c.sort_unstable_by_key.ensures.sorted (λ a r q k. search rules) in
    let rising = tails_rise text n c.requires.read c.args.table.now edits c.requires.edits sorted same order in
    IfOk-weaker c.spliced.result _ _
    (λ written is. subst (DeclareBehind text (names_of edits)) (sym (is ∙ ap (spliced text) (c.deref.ensures.value ∙ c.in_ok-put_lines.ensures.value ∙ ap (λ (ts : List TailEdit). with_tails c.args.text.now c.args.netlist.now ts sorted) c.as_slice.ensures.value)))
    (text_law text n c.requires.read c.args.table.now old new edits are r named sorted same rising).declared)
    c.spliced.ensures.value
