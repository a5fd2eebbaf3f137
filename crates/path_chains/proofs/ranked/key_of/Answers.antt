use Rattle.std.proofs.Common.{ℕ, List, option_map, ap, sym, ◌∙◌, Bor}
use Rattle.netlist_core.specs.declared.netlist.Instance.{Instance}
use Rattle.path_chains.specs.Ranked.{name_of}
use Rattle.path_chains.proofs.ranked.key_of.Goals as goal
use Rattle.path_chains.proofs.ranked.key_of.Goals.{in-Some, in-None}

pub returns : goal.returns
returns c = elim c.match-instance_at.branch [
  | in-Some w ↦ record { value = ap (λ (name : List ℕ). (name, c.args.bit.path, c.args.bit.index)) (ap (λ (name : Bor (List ℕ)). name.now) w.name-is ∙ w.bytes-name.ensures.value ∙ ap name_of (sym (ap (option_map (λ (x : Bor Instance). x.now)) w.in-Some.is) ∙ c.instance_at.ensures.value)) }
  | in-None w ↦ record { value = ap (λ (name : List ℕ). (name, c.args.bit.path, c.args.bit.index)) (ap (λ (name : Bor (List ℕ)). name.now) w.name-is ∙ ap name_of (sym (ap (option_map (λ (x : Bor Instance). x.now)) w.in-None.is) ∙ c.instance_at.ensures.value)) }
]
