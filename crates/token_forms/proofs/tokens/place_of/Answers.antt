use Rattle.std.proofs.Common.{arith}
use Rattle.token_forms.proofs.TokenPlaces.{place_is}
use Rattle.token_forms.proofs.tokens.place_of.Goals as goal

pub returns : goal.returns
returns c = record { value = place_is c.args.text.now c.args.spans.now c.args.count (omega arith) c.requires.within }
