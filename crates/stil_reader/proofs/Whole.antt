-- What a text in pieces says is what a whole one does.
use Rattle.std.proofs.Common.{ℕ, [], ◌∷◌, take, drop, sym, ap, ◌∙◌}
use Rattle.std.proofs.lemmas.Option.{same_Some}
use Rattle.stil_parts.specs.declared.gap.Place.TheVariants.{Top}
use Rattle.stil_parts.specs.declared.gap.Comment.TheVariants.{Outside}
use Rattle.stil_parts.specs.Coming.{moved}
use Rattle.stil_reader.specs.Sayings.{Head, after, beginning, told_before, told_behind}
use Rattle.stil_reader.specs.Laws.{EndLaw, WholeLaw}
use Rattle.stil_reader.proofs.Heads.{shown_end}

pub end_law : EndLaw
end_law bytes head n e d = same_Some _ _ (sym (shown_end bytes n e) ∙ d.ends)

pub whole_law : WholeLaw
whole_law bytes head n e d =
    ap (told_before head beginning bytes) e
    ∙ ap (λ (m : ℕ). after (Head (take m bytes) ∷ []) (told_behind head (moved beginning (take m bytes) Top Outside) (drop m bytes))) (end_law bytes head n e d)
