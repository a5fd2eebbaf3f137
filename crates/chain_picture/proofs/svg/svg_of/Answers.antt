use Rattle.std.proofs.Common.{◌≡◌, ◌++◌, List, ℕ, sym, subst, ap, ◌∙◌}
use Rattle.std.specs.Prelude.{All, codes}
use Rattle.chain_picture.specs.declared.sheet.Sheet.{Sheet}
use Rattle.chain_picture.specs.Pictures.{svg_by, svg_of}
use Rattle.chain_picture.specs.Xml.{IsPlainByte, count_of}
use Rattle.chain_picture.proofs.Written.{line_count, plain_svg}
use Rattle.chain_picture.proofs.svg.svg_of.Goals as goal

pub returns : goal.returns
unfolding svg_of
returns c =
    let units = c.args.units in
    let chains = c.args.chains.now in
    let is = ap (λ (s : Sheet). svg_by s units chains) c.sheet_of-sheet.ensures.value in
    let whole : c.push_svg.new.text.items ≡ svg_of units chains =
    c.in_ok-push_svg.ensures.value ∙ ap (λ (l : List ℕ). l ++ svg_by c.sheet_of-sheet.result units chains) c.new-text.ensures.items ∙ is in
    let value = c.of.ensures.value ∙ whole in
    record {
      value = value;
      plain = subst (All IsPlainByte) (sym value) (plain_svg units chains);
      lines = ap (count_of (codes "<line ")) value ∙ line_count units chains;
    }
