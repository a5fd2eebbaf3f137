-- Where a part of a STIL text ends, by its tokens.
use Rattle.std.specs.Prelude.{◌≡◌, ℕ, Bool, false, if◌then◌else◌, List, [], ◌∷◌, Option, Some, None}
use Rattle.token_forms.specs.Tokens.{Token}
use Rattle.stil_tokens.specs.StilTokens.{tokens_in}
use Rattle.stil_tokens.specs.StilStatements.{token_ends, depth_behind}
use Rattle.stil_parts.specs.declared.word.Word.TheVariants.{Known}
use Rattle.stil_parts.specs.declared.scan.Found.{Found}
use Rattle.stil_parts.specs.Scanner.{end_of}
use Rattle.stil_parts.specs.Parts.{begin}

-- the place behind the token that ends the first statement of some tokens
abbrev pub statement_end : ℕ → List Token → Option ℕ
statement_end depth [] = None
statement_end depth (t ∷ ts) = if token_ends depth t.text then Some t.end else statement_end (depth_behind depth t.text) ts

-- the place of what was found
abbrev pub end_place : Option Found → Option ℕ
end_place None = None
end_place (Some f) = Some f.len

-- where a scan in a Pattern ends a statement its tokens end it, and nowhere else
abbrev pub EndLaw : Type 0
EndLaw = (last : Bool) (text : List ℕ) → end_place (end_of last (begin (Known false)) text) ≡ statement_end 0 (tokens_in text)
