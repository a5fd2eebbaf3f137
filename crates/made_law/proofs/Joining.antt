-- The made files and the made patterns together.
use Rattle.std.proofs.Common.{◌≡◌, ℕ, ◌≤◌, List, length, take, Option, Some, None, refl, sym, ap, ◌∙◌, subst}
use Rattle.std.proofs.lemmas.Option.{same_Some}
use Rattle.stil_parts.specs.declared.part.PartFault.{PartFault}
use Rattle.stil_head.specs.Heads.{DenotesHead}
use Rattle.declared_chains.specs.Files.{IsHeadText}
use Rattle.design_maker.specs.MadeStil.{stil_text}
use Rattle.made_law.specs.Checks.MadeBlocks as blocks
use Rattle.made_law.proofs.files.Files.{head_files_right}
use Rattle.made_law.specs.Patterns.MadeHead.{BlockPlace, head_bytes, made_head}
use Rattle.made_law.proofs.patterns.Denoting.{head_law, text_law}
use Rattle.made_law.proofs.patterns.Behind.{no_pattern_fault}
use Rattle.made_law.specs.Laws.{BesideHeadLaw, PatternsLaw}

-- the text of the head
text_is : (n : ℕ) (text : List ℕ) → 8 ≤ n → n ≤ 16384 → IsHeadText (stil_text n) text → text ≡ head_bytes n
text_is n text least most is =
    let t = text_law n least most in
    let same : is.len ≡ length (head_bytes n) = same_Some _ _ (sym is.ends ∙ t.shown) in
    is.is ∙ ap (λ (m : ℕ). take m (stil_text n)) same ∙ t.are

-- the blocks at their places
block_place : (ℕ → BlockPlace) → ℕ → blocks.BlockPlace
block_place at k = record { line = (at k).line; length = (at k).length; inversion = (at k).inversion }

blocks_are : (n : ℕ) (at : ℕ → BlockPlace) → (made_head at n).chains ≡ blocks.made_blocks (block_place at) n
unfolding block_place
blocks_are n at = refl

pub beside_head : BesideHeadLaw
beside_head n text least most is fault holds =
    let m = head_law n least most in
    let e = text_is n text least most is in
    let denotes : DenotesHead text (made_head m.at n) = subst (λ (t : List ℕ). DenotesHead t (made_head m.at n)) (sym e) m.denotes in
    head_files_right n text (made_head m.at n) (block_place m.at) least most denotes (blocks_are n m.at) fault holds

none_some : (o : Option PartFault) (f : PartFault) → o ≡ None → o ≡ Some f → ⊥
none_some None f e g = absurd cc
none_some (Some x) f e g = absurd cc

pub patterns_right : PatternsLaw
patterns_right n text least most is fault p =
    let denotes = subst (λ (t : List ℕ). DenotesHead t p.head) (text_is n text least most is) p.head_is in
    none_some _ p.found (no_pattern_fault n p.head least most denotes) p.says
