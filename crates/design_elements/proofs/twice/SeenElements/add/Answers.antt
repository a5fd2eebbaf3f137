use Rattle.def_reader.proofs.Again.{seen_more}
use Rattle.design_elements.specs.Seen.{same_element, has_element, element_at}
use Rattle.design_elements.proofs.ElementRows.{key_exact, key_back}
use Rattle.design_elements.proofs.twice.SeenElements.add.Goals as goal

pub returns : goal.returns
returns c = record {
  value = λ rows seen.
      rw (c.lesser-self.ensures.value, c.line_if.ensures.value)
      (seen_more element_at (has_element c.args.self.now.elements) (has_element c.insert.new.self) (λ q. same_element (c.args.component, c.args.path) q) (c.args.component, c.args.path)
      (key_exact (c.args.component, c.args.path)) (key_back (c.args.component, c.args.path)) c.in_ok-again.field-0 c.args.self.now.least rows c.args.line (λ q. c.in_ok-again.ensures.updates.0 q)
      c.in_ok-again.ensures.added seen);
}
