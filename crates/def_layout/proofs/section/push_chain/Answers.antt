use Rattle.std.proofs.Common.{◌∷◌, List, ℕ, ◌++◌, ap, ◌∙◌, codes}
use Rattle.std.specs.List.{flat_map}
use Rattle.def_layout.specs.Sections.{line_text, floating_lines, list_lines}
use Rattle.def_layout.specs.declared.chains.ElementLayout.{ElementLayout}
use Rattle.def_layout.proofs.Appends.{chain_pushed}
use Rattle.def_layout.proofs.section.push_chain.Goals as goal

pub returns : goal.returns
returns c = record {
  value = chain_pushed c.args.chain.now _ _ _ _ _ _ _ _ _
      c.in_ok-extend_from_slice.ensures.items
      (c.in_ok-push_word.ensures.value ∙ ap (λ (w : List ℕ). c.extend_from_slice.new.self.items ++ 32 ∷ w) c.text.ensures.value)
      c.in_ok-push_partition.ensures.value
      c.in_ok-push_terminal.ensures.value
      (c.in_ok-push_floating.ensures.value ∙ ap (λ (es : List ElementLayout). c.push_terminal.new.out.items ++ flat_map line_text (floating_lines es)) c.as_slice.ensures.value)
      (c.in_ok-push_ordered.ensures.value ∙ ap (λ (ls : List (List ElementLayout)). c.push_floating.new.out.items ++ flat_map line_text (flat_map (list_lines (codes "ORDERED")) ls)) c.as_slice-2.ensures.value)
      c.in_ok-push_terminal-2.ensures.value
      c.in_ok-extend_from_slice-2.ensures.items;
}
