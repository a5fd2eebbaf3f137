-- Where a statement ends, token by token, by its first token (LEF/DEF 5.8).
use Rattle.std.specs.Prelude.{ℕ, if◌then◌else◌, List, codes}
use Rattle.std.specs.Str.{bytes_eq}
use Rattle.token_forms.specs.declared.source.Step.{Step}
use Rattle.token_forms.specs.declared.source.Step.TheVariants.{GoesOn, Closes}
use Rattle.def_syntax.specs.declared.statements.StatementCut.{StatementCut}
use Rattle.def_syntax.specs.declared.statements.StatementCut.TheVariants.{First, End, Extension, Other}

-- a token where the statement goes up to a word
abbrev pub step_to : List ℕ → List ℕ → Step
step_to word text = if bytes_eq text word then Closes else GoesOn

-- the first token
abbrev pub first_step : List ℕ → Step × StatementCut
first_step text =
    if bytes_eq text (codes "END") then (GoesOn, End)
    else (if bytes_eq text (codes "PROPERTYDEFINITIONS") then (Closes, Other)
    else (if bytes_eq text (codes "BEGINEXT") then (GoesOn, Extension)
    else (step_to (codes ";") text, Other)))

-- a token, and what follows from it
abbrev pub cut_step : StatementCut → List ℕ → Step × StatementCut
cut_step First text = first_step text
cut_step End text = (Closes, End)
cut_step Extension text = (step_to (codes "ENDEXT") text, Extension)
cut_step Other text = (step_to (codes ";") text, Other)
