-- The outputs that a head asks for.
use Rattle.std.proofs.Common.{◌≡◌, ℕ, Bool, false, cond, List, [], ◌∷◌, map, Option, Some, None, refl, ap, ◌∙◌}
use Rattle.std.specs.List.{list_any, filter_map}
use Rattle.std.specs.Str.{bytes_eq}
use Rattle.stil_types.specs.declared.head.ScanChainDecl.{ScanChainDecl}
use Rattle.stil_types.specs.declared.head.StilHead.{StilHead}
use Rattle.stil_head.specs.Heads.{DenotesHead}
use Rattle.stil_head.proofs.Declared.{AreNew, new_outs}
use Rattle.traced_paths.specs.Asked.{Asked, once_behind, outputs_of}
use Rattle.head_checks.specs.Asked.{asked_by_block, asked_by_head}

kept_first : (before names : List (List ℕ)) (name : List ℕ) → list_any (bytes_eq name) before ≡ false → once_behind before (name ∷ names) ≡ name ∷ once_behind (name ∷ before) names
unfolding once_behind
kept_first before names name e = ap (λ (b : Bool). cond b (once_behind before names) (name ∷ once_behind (name ∷ before) names)) e

kept_none : (before : List (List ℕ)) → once_behind before [] ≡ []
unfolding once_behind
kept_none before = refl

-- new names are all kept
all_kept : (before names : List (List ℕ)) → AreNew before names → once_behind before names ≡ names
all_kept before [] new = kept_none before
all_kept before (name ∷ names) new = kept_first before names name new.0 ∙ ap (λ (xs : List (List ℕ)). name ∷ xs) (all_kept (name ∷ before) names new.1)

named_outs : (cs : List ScanChainDecl) → filter_map (λ (a : Asked). a.output) (map asked_by_block cs) ≡ map (λ (c : ScanChainDecl). c.scan_out) cs
named_outs [] = refl
named_outs (c ∷ cs) = ap (λ (names : List (List ℕ)). c.scan_out ∷ names) (named_outs cs)

-- the outputs are the ScanOuts of its chains
pub head_outputs : (text : List ℕ) (head : StilHead) → DenotesHead text head → outputs_of (asked_by_head head) ≡ map (λ (c : ScanChainDecl). c.scan_out) head.chains
head_outputs text head is =
    ap (once_behind []) (named_outs head.chains) ∙ all_kept [] (map (λ (c : ScanChainDecl). c.scan_out) head.chains) (new_outs text head is)
