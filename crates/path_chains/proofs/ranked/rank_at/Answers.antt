use Rattle.std.proofs.Common.{ℕ, List, map, count_by, ap, ◌∙◌}
use Rattle.std.specs.Ordering.{is_lt}
use Rattle.path_chains.specs.Ranked.{key_cmp, seen}
use Rattle.path_chains.proofs.ranked.rank_at.Goals as goal

pub returns : goal.returns
returns c = record { value = c.rank_of.ensures.value ∙ ap (λ (k : List ℕ × ℕ × ℕ). count_by (λ other. is_lt (key_cmp other k)) (map seen c.args.keys.now)) c.key_of.ensures.value }
