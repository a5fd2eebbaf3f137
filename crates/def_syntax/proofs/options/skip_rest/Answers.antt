use Rattle.std.proofs.Common.{sym, ◌∙◌, arith, ◌≡◌, ◌≤◌, ◌+◌, length, drop}
use Rattle.token_forms.proofs.PassLoops.{one_less}
use Rattle.def_syntax.proofs.Unread.{takes_one, stops_here, none_left, one_deeper}
use Rattle.def_syntax.proofs.options.skip_rest.Goals as goal

pub returns-then-not-may_stand-clause-value : goal.returns-then-not-may_stand-clause-value
returns-then-not-may_stand-clause-value c =
    stops_here c.loop-token.depth _ c.loop-token.parser.tokens (drop 1 c.loop-token.parser.tokens) c.in-Some.ensures.value (sym c.may_stand.ensures.value ∙ c.if-not-may_stand.true) ∙ c.loop-token.invariant.read

pub loop-token-preserved : goal.loop-token-preserved
loop-token-preserved c =
    let less : length c.skip.new.parser.tokens + 1 ≡ length c.loop-token.parser.tokens = one_less _ c.loop-token.parser.tokens (drop 1 c.loop-token.parser.tokens) c.skip.new.parser.tokens c.in-Some.ensures.value c.skip.ensures.value in
    let deeper : c.open_behind-depth.result ≤ c.loop-token.depth + 1 = rw (c.open_behind-depth.ensures.value) (one_deeper c.loop-token.depth c.in-Some.token.text.now) in
    record {
      read = rw (c.open_behind-depth.ensures.value, c.skip.ensures.value)
          (takes_one c.loop-token.depth _ c.loop-token.parser.tokens (drop 1 c.loop-token.parser.tokens) c.in-Some.ensures.value (sym c.may_stand.ensures.value ∙ c.if-not-may_stand.false) ∙ c.loop-token.invariant.read);
      room = omega (arith, c.loop-token.invariant.room);
      shorter = omega (arith, c.loop-token.invariant.shorter);
    }

pub returns-clause-value : goal.returns-clause-value
returns-clause-value c = none_left c.loop-token.depth c.loop-token.parser.tokens c.in_default.ensures.value ∙ c.loop-token.invariant.read
