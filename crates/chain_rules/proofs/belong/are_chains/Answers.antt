use Rattle.std.proofs.Common.{◌<◌, ◌^◌, ℕ, List, sum_by, length, subst, sym, ap, ◌∙◌}
use Rattle.std.proofs.lemmas.Bool.{iff_false}
use Rattle.chain_rules.specs.declared.spec.PathSpec.{PathSpec}
use Rattle.chain_rules.specs.declared.spec.ElementSpec.{ElementSpec}
use Rattle.chain_rules.specs.Stretches.{elements_of, StepsOnce, NamedOnce}
use Rattle.chain_rules.proofs.Belonging.{as_many}
use Rattle.chain_rules.proofs.Outcomes.{says_no}
use Rattle.chain_rules.proofs.belong.are_chains.Goals.{then-not-are_few_elements-via-then-not-are_few_elements, then-not-are_few_elements-via-else-not-are_few_elements+then-not-stand_once}
use Rattle.chain_rules.proofs.belong.are_chains.Goals as goal

pub returns : goal.returns
returns c =
    let few : sum_by length c.deref.result.now < 2 ^ 32 = c.are_few_elements.ensures.value.0 c.if-not-are_few_elements.false in
    let lists = c.deref.ensures.value ∙ c.in_ok-lists.ensures.value in
    let elements : sum_by (λ chain. length (elements_of chain)) c.args.chains.now < 2 ^ 32 = subst (λ (n : ℕ). n < 2 ^ 32) (ap (λ (ls : List (List ElementSpec)). sum_by length ls) lists ∙ as_many c.args.chains.now) few in
    record {
      value = (
        λ yes. record {
          steps_once = subst StepsOnce c.in_ok-index.ensures.value (c.stand_once.ensures.value.0 c.if-not-stand_once.false);
          named_once = subst (λ (ps : List PathSpec). NamedOnce ps c.args.chains.now) c.in_ok-index.ensures.value (c.name_once.ensures.value.0 yes);
          elements = c.have_elements.ensures.value.0 c.if-not-have_elements.false;
          bits = c.are_few_bits.ensures.value.0 c.if-not-are_few_bits.false;
          few_paths = c.if-paths-ge-MANY.false;
          few_steps = c.are_few_steps.ensures.value.0 c.if-not-are_few_steps.false;
          few_chains = c.if-chains-ge-MANY.false;
          few_elements = elements;
        },
        λ good. c.name_once.ensures.value.1 (subst (λ (ps : List PathSpec). NamedOnce ps c.args.chains.now) (sym c.in_ok-index.ensures.value) good.named_once),
      );
    }

pub returns-then-not-are_few_elements : goal.returns-then-not-are_few_elements
returns-then-not-are_few_elements c =
    let lists = c.deref.ensures.value ∙ c.in_ok-lists.ensures.value in
    let many = ap (λ (ls : List (List ElementSpec)). sum_by length ls) lists ∙ as_many c.args.chains.now in
    record {
      value = says_no (λ good.
          elim c.then-not-are_few_elements.branch [
            | then-not-are_few_elements-via-then-not-are_few_elements w ↦ iff_false c.are_few_elements.ensures.value w.if-not-are_few_elements.true (subst (λ (n : ℕ). n < 2 ^ 32) (sym many) good.few_elements)
            | then-not-are_few_elements-via-else-not-are_few_elements+then-not-stand_once w ↦ iff_false w.stand_once.ensures.value w.if-not-stand_once.true (subst StepsOnce (sym c.in_ok-index.ensures.value) good.steps_once)
          ]);
    }
