use Rattle.std.proofs.Common.{◌*◌, ◌/◌, inl, inr, arith}
use Rattle.std.proofs.lemmas.Bool.{cases_lt}
use Rattle.order_search.proofs.blocks.first_place.Goals as goal

pub first_among-requires-clause-order : goal.first_among-requires-clause-order
first_among-requires-clause-order c = omega (arith, c.max-low.ensures, c.min-high.ensures, c.in-Some.ensures.within, c.tries.invariant.low, c.requires.order)

pub tries-preserved : goal.tries-preserved
tries-preserved c = record {
  low = omega (arith, c.in-Some.ensures.within, c.tries.invariant.low);
  high = omega (arith, c.in-Some.ensures.within);
  none = λ j lo hi below. elim (cases_lt j (32 * c.tries.at)) [
    | inl a ↦ c.tries.invariant.none j lo hi a
    | inr a ↦ elim (cases_lt j (32 * c.in-Some.block)) [
      | inl b ↦ c.in-Some.ensures.before (j / 32) (omega arith) (omega arith) j (omega arith) (omega arith) (omega (arith, c.requires.within)) (c.requires.somewhere j lo hi)
      | inr b ↦ c.in_default-first_among.ensures.none j (omega (arith, c.max-low.ensures)) (omega (arith, c.min-high.ensures))
    ]
  ];
}

pub returns-clause-none : goal.returns-clause-none
returns-clause-none c = λ j lo hi. elim (cases_lt j (32 * c.tries.at)) [
  | inl a ↦ c.tries.invariant.none j lo hi a
  | inr a ↦ c.in_default.ensures.none (j / 32) (omega arith) (omega arith) j (omega arith) (omega arith) (omega (arith, c.requires.within)) (c.requires.somewhere j lo hi)
]
