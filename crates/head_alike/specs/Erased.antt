-- The tokens of a head without what may be written anew in its ScanStructures (IEEE 1450-1999, ScanStructures).
use Rattle.std.specs.Prelude.{◌≡◌, ℕ, Bool, true, false, ◌&&◌, not, if◌then◌else◌, List, [], ◌∷◌, map, codes}
use Rattle.std.specs.List.{flat_map}
use Rattle.token_forms.specs.Tokens.{Token}
use Rattle.token_forms.specs.Classes.{is_among}
use Rattle.stil_tokens.specs.StilTokens.{tokens_in}
use Rattle.stil_tokens.specs.StilStatements.{stil_statements}
use Rattle.stil_blocks.specs.Statements.{has_word}
use Rattle.head_alike.specs.Steps.{Step, olds, news, AreSteps, starts_behind, changed_words}

-- the bytes of the tokens, but for those that stand between a changed word, where a statement may begin, and what ends it
abbrev pub erased_from : Bool → Bool → List Token → List (List ℕ)
erased_from begins skips [] = []
erased_from begins skips (t ∷ ts) =
    if skips && not (starts_behind t.text) then erased_from false true ts
    else t.text ∷ erased_from (starts_behind t.text) (begins && is_among changed_words t.text) ts

-- the tokens of both are equal without what may be written anew
abbrev pub ErasedLaw : Type 0
ErasedLaw = (begins : Bool) (s : List Step) → AreSteps true begins s → erased_from begins false (olds s) ≡ erased_from begins false (news s)

-- the bytes of the tokens of a statement of the head; those of ScanStructures without what may be written anew
abbrev pub erased_statement : List Token → List (List ℕ)
erased_statement s = if has_word (codes "ScanStructures") s then erased_from true false s else map (λ t. t.text) s

-- the bytes of the tokens of a head but for what stands between ScanLength, ScanInversion or ScanCells and its ; where such a word
-- begins a statement in ScanStructures
abbrev pub head_tokens : List ℕ → List (List ℕ)
head_tokens text = flat_map erased_statement (stil_statements (tokens_in text))
