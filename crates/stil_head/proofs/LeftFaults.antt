-- The least fault of a head that is left, by lists that are the same.
use Rattle.std.proofs.Common.{◌≡◌, ℕ, List, Option, sym, ap, ◌∙◌}
use Rattle.token_forms.specs.Tokens.{Token}
use Rattle.stil_blocks.specs.declared.chain.ReadChain.{ReadChain}
use Rattle.stil_blocks.specs.declared.callee.ReadCallee.{ReadCallee}
use Rattle.list_laws.specs.Leasts.{least_of}
use Rattle.stil_head.specs.Twice.{twice_among}
use Rattle.stil_head.specs.Unsupported.{unsupported_in}

pub twice_by : (cs ds : List ReadChain) (ps qs ms ns : List ReadCallee) (o : Option ℕ) → ds ≡ cs → qs ≡ ps → ns ≡ ms → o ≡ least_of (twice_among ds qs ns) → least_of (twice_among cs ps ms) ≡ o
twice_by cs ds ps qs ms ns o a b d e =
    sym
    (e ∙ ap (λ (l : List ReadChain). least_of (twice_among l qs ns)) a ∙ ap (λ (l : List ReadCallee). least_of (twice_among cs l ns)) b
    ∙ ap (λ (l : List ReadCallee). least_of (twice_among cs ps l)) d)

pub left_by : (ss : List (List Token)) (cs ds : List ReadChain) (ps qs ms ns : List ReadCallee) (o : Option ℕ) → ds ≡ cs → qs ≡ ps → ns ≡ ms → o ≡ least_of (unsupported_in ds qs ns ss) → least_of (unsupported_in cs ps ms ss) ≡ o
left_by ss cs ds ps qs ms ns o a b d e =
    sym
    (e ∙ ap (λ (l : List ReadChain). least_of (unsupported_in l qs ns ss)) a ∙ ap (λ (l : List ReadCallee). least_of (unsupported_in cs l ns ss)) b
    ∙ ap (λ (l : List ReadCallee). least_of (unsupported_in cs ps l ss)) d)
