-- Parities, one bit more at a time.
use Rattle.std.proofs.Common.{◌≡◌, ℕ, ◌+◌, ◌<◌, List, [], ◌∷◌, length, take, drop, Bool, true, false, refl, sym, ap, ◌∙◌, get_or}
use Rattle.std.proofs.lemmas.List.{take_more, take-append-drop}
use Rattle.stil_tester.specs.declared.chains.ChainBits.{ChainBits}
use Rattle.retarget.specs.Places.{parity_to, parity_after}
use Rattle.stil_tester.specs.Symbols.{differ, parity_of}
use Rattle.stil_tester.proofs.OneChain.{parity_of-append, differ_false}

pub parity_of-more : (ps : List Bool) (i : ℕ) (d : Bool) → i < length ps → parity_of (take (i + 1) ps) ≡ differ (parity_of (take i ps)) (get_or ps i d)
parity_of-more ps i d l =
    ap parity_of (take_more ps i d l) ∙ parity_of-append (take i ps) (get_or ps i d ∷ []) ∙ ap (differ (parity_of (take i ps))) (differ_false (get_or ps i d))

rest_of : (t d o : Bool) → differ t (differ (differ t d) o) ≡ differ d o
rest_of true true true = refl
rest_of true true false = refl
rest_of true false true = refl
rest_of true false false = refl
rest_of false true true = refl
rest_of false true false = refl
rest_of false false true = refl
rest_of false false false = refl

-- the parity up to a bit and that of the whole chain give the one behind it
pub parity_after_is : (chain : ChainBits) (i : ℕ) → differ (parity_to chain i) (differ (parity_of chain.parity) chain.out_parity) ≡ parity_after chain i
parity_after_is chain i =
    ap (λ q. differ (parity_to chain i) (differ q chain.out_parity)) (ap parity_of (sym (take-append-drop (i + 1) chain.parity)) ∙ parity_of-append (take (i + 1) chain.parity) (drop (i + 1) chain.parity))
    ∙ rest_of (parity_to chain i) (parity_of (drop (i + 1) chain.parity)) chain.out_parity
