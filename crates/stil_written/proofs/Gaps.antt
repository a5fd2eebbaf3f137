-- A gap at two points at the same place of the form is the same, and leads to the same place.
use Rattle.std.proofs.Common.{◌≡◌, ℕ, Bool, true, false, cond, eqb, ◌||◌, List, [], ◌∷◌, refl}
use Rattle.stil_tokens.specs.StilTokens.{is_blank}
use Rattle.stil_parts.specs.declared.gap.Place.{Place}
use Rattle.stil_parts.specs.declared.gap.Place.TheVariants.{Top, Pattern}
use Rattle.stil_parts.specs.declared.gap.Comment.{Comment}
use Rattle.stil_parts.specs.declared.gap.Comment.TheVariants.{Outside, Line, Block}
use Rattle.stil_parts.specs.declared.gap.Gap.{Gap}
use Rattle.stil_parts.specs.Gaps.{gap_of, line_gap, block_gap, slash_gap, close_gap, outside_gap, gap_at}
use Rattle.stil_written.specs.Written.{SamePlace}

pub record SameGap (g h : Gap) : Type 0 where
  pub len : h.len ≡ g.len
  pub place : SamePlace g.place h.place
  pub comment : h.comment ≡ g.comment

same_of : (n : ℕ) (a b : Place) (c : Comment) → SamePlace a b → SameGap (gap_of n a c) (gap_of n b c)
same_of n a b c s = record { len = refl; place = s; comment = refl }

either : (t : Bool) (a b c d : Gap) → SameGap a c → SameGap b d → SameGap (cond t a b) (cond t c d)
either true a b c d s u = s
either false a b c d s u = u

module _ (a b : Place) (s : SamePlace a b) where
  slash_same : (bs : List ℕ) → SameGap (slash_gap a bs) (slash_gap b bs)
  unfolding slash_gap
  slash_same [] = same_of 0 a b Outside s
  slash_same (c ∷ cs) = either (eqb c 47) _ _ _ _ (same_of 2 a b Line s) (either (eqb c 42) _ _ _ _ (same_of 2 a b (Block false) s) (same_of 0 a b Outside s))

close_same : (a b : Place) → SamePlace a b → SameGap (close_gap a) (close_gap b)
close_same Top Top s = same_of 0 Top Top Outside tt
close_same Top (Pattern line) s = absurd s
close_same (Pattern line) Top s = absurd s
close_same (Pattern line) (Pattern other) s = same_of 1 Top Top Outside tt

outside_same : (a b : Place) → SamePlace a b → (bs : List ℕ) → SameGap (outside_gap a bs) (outside_gap b bs)
unfolding outside_gap
outside_same a b s [] = same_of 0 a b Outside s
outside_same a b s (c ∷ cs) =
    either (is_blank c || eqb c 59) _ _ _ _ (same_of 1 a b Outside s)
    (either (eqb c 47) _ _ _ _ (slash_same a b s cs) (either (eqb c 125) _ _ _ _ (close_same a b s) (same_of 0 a b Outside s)))

pub gap_same : (a b : Place) (comment : Comment) (bs : List ℕ) → SamePlace a b → SameGap (gap_at a comment bs) (gap_at b comment bs)
unfolding gap_at line_gap block_gap
gap_same a b Outside bs s = outside_same a b s bs
gap_same a b Line [] s = same_of 0 a b Line s
gap_same a b Line (c ∷ cs) s = same_of 1 a b _ s
gap_same a b (Block star) [] s = same_of 0 a b (Block star) s
gap_same a b (Block star) (c ∷ cs) s = same_of 1 a b _ s
