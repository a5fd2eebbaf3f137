-- At the top a scan finds the brace that opens a Pattern, or else the statement's end, where the tokens have it.
use Rattle.std.proofs.Common.{◌≡◌, ℕ, Bool, true, List, length, sym, ap, ◌∙◌}
use Rattle.stil_tokens.specs.StilTokens.{tokens_in}
use Rattle.stil_parts.specs.declared.gap.Place.TheVariants.{Top, Pattern}
use Rattle.stil_parts.specs.declared.word.Word.TheVariants.{Start}
use Rattle.stil_parts.specs.Scanner.{end_of}
use Rattle.stil_parts.specs.Parts.{begin, parted, part_at}
use Rattle.stil_parts.specs.ByTokens.{shown, part_in, OpensLaw, PartLaw}
use Rattle.stil_parts.proofs.Scans.{later-zero}
use Rattle.stil_parts.proofs.Stages.{Begin}
use Rattle.stil_parts.proofs.TokenScan.{holds}
use Rattle.stil_parts.proofs.Labels.{word-is, ends-top, top_end}
use Rattle.stil_parts.proofs.EndLaw.{front-as, end_found}

opens_whole : (text : List ℕ) → end_of true (begin Start) text ≡ part_in (tokens_in text)
opens_whole text =
    let ts = tokens_in text in
    let h = holds text Begin 0 0 in
    sym (later-zero (end_of true (begin Start) text)) ∙ h.ends ∙ ends-top Begin 0 ts ∙ ap (λ (b : Bool). top_end b ts) (word-is 0 ts)

pub opens_law : OpensLaw
opens_law last text = front-as last (begin Start) text ∙ ap (shown last (length text)) (opens_whole text)

pub part_law : PartLaw
unfolding part_at
part_law last Top text = ap (parted Top) (opens_law last text)
part_law last (Pattern line) text = ap (parted (Pattern line)) (end_found last text)
