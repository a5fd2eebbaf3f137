-- A loop that appends pieces.
use Rattle.std.proofs.Common.{rules, ap, append_assoc, ◌∙◌, ◌≡◌, ℕ, ◌+◌, List, ◌++◌, add-one}
use Rattle.std.proofs.lemmas.Grind.{common_steps}
use Rattle.design_maker.specs.Pieces.{pieces}

pub no_pieces : (f : ℕ → List ℕ) (text : List ℕ) → text ≡ text ++ pieces f 0
unfolding pieces
no_pieces f text = search (rules, common_steps)

pub one_more : (f : ℕ → List ℕ) (before text next : List ℕ) (n : ℕ) → text ≡ before ++ pieces f n → next ≡ text ++ f n → next ≡ before ++ pieces f (n + 1)
unfolding pieces
one_more f before text next n e g = rw add-one (g ∙ ap (λ t. t ++ f n) e ∙ append_assoc before (pieces f n) (f n))

-- two parts written one after another
pub two_parts : (s0 s1 s2 a b : List ℕ) → s1 ≡ s0 ++ a → s2 ≡ s1 ++ b → s2 ≡ s0 ++ (a ++ b)
two_parts s0 s1 s2 a b e f = f ∙ ap (λ t. t ++ b) e ∙ append_assoc s0 a b

-- three parts written one after another
pub three_parts : (s0 s1 s2 s3 a b c : List ℕ) → s1 ≡ s0 ++ a → s2 ≡ s1 ++ b → s3 ≡ s2 ++ c → s3 ≡ s0 ++ (a ++ (b ++ c))
three_parts s0 s1 s2 s3 a b c e f g =
    g ∙ ap (λ t. t ++ c) (f ∙ ap (λ t. t ++ b) e) ∙ append_assoc (s0 ++ a) b c ∙ append_assoc s0 a (b ++ c)
