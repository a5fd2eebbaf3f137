-- The judge of the parts of a STIL text: what is wrong with each, if anything is.
use Rattle.std.specs.Prelude.{ℕ, ◌||◌, not, if◌then◌else◌, List, [], ◌∷◌, codes, Option, Some, None}
use Rattle.std.specs.Str.{bytes_eq}
use Rattle.base_types.specs.Names.{plain_name}
use Rattle.token_forms.specs.Tokens.{Token}
use Rattle.token_forms.specs.Parsing.{◌>>=◌}
use Rattle.base_types.specs.declared.kind.Kind.{Kind}
use Rattle.base_types.specs.declared.kind.Kind.TheVariants.{PatternSyntax, PatternUnsupported}
use Rattle.stil_tokens.specs.StilTokens.{tokens_in}
use Rattle.stil_tokens.specs.StilStatements.{is_closed, is_only}
use Rattle.stil_parts.specs.declared.part.Part.TheVariants.{Passes, Opens, Whole}
use Rattle.stil_parts.specs.Coming.{Judge}
use Rattle.stil_types.specs.declared.head.StilHead.{StilHead}
use Rattle.stil_syntax.specs.Names.{is_word, name_at}
use Rattle.stil_syntax.specs.Shapes.{behind_labels, closes_nothing}
use Rattle.stil_calls.specs.declared.judging.Judging.{Judging}
use Rattle.stil_calls.specs.declared.judging.Judging.TheVariants.{Form, Lengths}
use Rattle.stil_calls.specs.Faults.{fault_by, fault_or}

-- the name of a Pattern, where only { stands behind it
abbrev pub opened_name : Option (List ℕ × List Token) → Option (List ℕ)
opened_name None = None
opened_name (Some (name, [])) = None
opened_name (Some (name, t ∷ [])) = if is_only 123 t.text then Some name else None
opened_name (Some (name, t ∷ u ∷ ts)) = None

-- behind the labels stand Pattern, one name and {
abbrev pub opens_by : List Token → Option (List ℕ)
opens_by [] = None
opens_by (t ∷ ts) = if bytes_eq t.text (codes "Pattern") then opened_name (name_at ts) else None

-- the plain name of the Pattern that bytes open
unfoldable pub opened_in : List ℕ → Option (List ℕ)
opened_in text = opens_by (behind_labels (tokens_in text)) >>= λ name. Some (plain_name name)

-- what opens a Pattern has this form
abbrev pub opening_kind : Option (List ℕ) → Option Kind
opening_kind None = Some PatternSyntax
opening_kind (Some name) = None

-- a statement outside a Pattern by its word: Ann passes, and Pattern without a block is of no form
abbrev pub passing_kind : List Token → Option Kind
passing_kind [] = Some PatternSyntax
passing_kind (t ∷ ts) =
    if not (is_word t.text) || bytes_eq t.text (codes "Pattern") then Some PatternSyntax
    else (if bytes_eq t.text (codes "Ann") then None else Some PatternUnsupported)

-- the same by all its tokens
abbrev pub top_kind : List Token → Option Kind
top_kind ts = if not (is_closed ts) || closes_nothing 0 ts then Some PatternSyntax else passing_kind (behind_labels ts)

-- the kind of what is wrong with a statement outside a Pattern
unfoldable pub passing_in : List ℕ → Option Kind
passing_in text = top_kind (tokens_in text)

-- what is wrong with a part
unfoldable pub judge_by : Judging → StilHead → Judge
judge_by judging head p (Whole n) text = fault_by judging head p.line text
judge_by judging head p (Opens n) text = fault_or (opening_kind (opened_in text)) p.line None
judge_by judging head p (Passes n) text = fault_or (passing_in text) p.line None

-- where all kinds count
abbrev pub judge_of : StilHead → Judge
judge_of head = judge_by Lengths head

-- where loads may be short and compares long
abbrev pub lenient_judge_of : StilHead → Judge
lenient_judge_of head = judge_by Form head
