use Rattle.std.proofs.Common.{◌≡◌, ◌≤◌, ◌+◌, ◌++◌, ◌||◌, false, length}
use Rattle.token_forms.specs.Parts.{token_texts}
use Rattle.def_layout.specs.Words.{spaced}
use Rattle.def_layout.specs.Nets.{other_words, has_wiring}
use Rattle.def_layout.proofs.net.push_others.Given as goal

abbrev pub invariant-loop-token : goal.invariant-loop-token
invariant-loop-token l = record {
  words : l.out.items ++ spaced (other_words l.place.depth l.place.stays (token_texts l.tokens)) ≡ l.fn.out.items ++ spaced (other_words 0 false (token_texts l.fn.statement));
  wiring : (l.place.wiring || has_wiring l.place.depth (token_texts l.tokens)) ≡ has_wiring 0 (token_texts l.fn.statement);
  room : l.place.depth + length l.tokens ≤ l.most;
}

abbrev pub decreases-loop-token : goal.decreases-loop-token
decreases-loop-token l = length l.tokens
