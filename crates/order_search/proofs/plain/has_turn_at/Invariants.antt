use Rattle.std.proofs.Common.{ℕ, ◌<◌}
use Rattle.order_search.specs.Trials.{IsGain, turned_plan}
use Rattle.order_search.proofs.plain.has_turn_at.Given as goal

abbrev pub invariant-loop-m : goal.invariant-loop-m
invariant-loop-m l = (n : ℕ) → n < l.m → ¬ IsGain l.rules l.ends l.plan (turned_plan l.plan l.c l.i n)
