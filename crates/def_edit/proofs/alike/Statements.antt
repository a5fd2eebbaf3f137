-- What holds of the statements of a text: where their tokens stand, and that a statement before others ends by itself.
use Rattle.std.proofs.Common.{◌≡◌, ℕ, ◌<◌, ◌≤◌, true, false, List, [], ◌∷◌, ◌++◌, length, take, refl, sym, ◌∙◌, subst, arith, ◌⊎◌, inl, inr}
use Rattle.std.specs.List.{AllByRecursion as Each}
use Rattle.base_types.specs.declared.span.Span.{Span}
use Rattle.token_forms.specs.Tokens.{Token, tokens_of}
use Rattle.token_forms.specs.Parts.{token_texts}
use Rattle.token_forms.specs.Splits.{SplitFrom}
use Rattle.def_tokens.specs.DefTokens.{def_tokens, tokens_in}
use Rattle.def_tokens.specs.DefSplit.{IsBlankPart, IsToken}
use Rattle.def_tokens.specs.DefStatements.{is_closed, def_statements, IsFirstStatement, IsStatementSplit}
use Rattle.def_tokens.proofs.DefSplitLaw.{def_split}
use Rattle.def_tokens.proofs.DefCuts.{statements_law, only_statements_law}
use Rattle.def_syntax.specs.Designs.{statements_of}
use Rattle.def_syntax.proofs.FrameLaws.{each_front}
use Rattle.def_edit.proofs.alike.Lists.{each_weaker}
use Rattle.def_edit.proofs.alike.SameStatements.{same_length, same_take}
use Rattle.def_edit.proofs.alike.SameFrames.{same_closed}

-- of tokens with this each statement has it, where each part has it
module _ (P : List Token → Type 0) (front : (a b : List Token) → P (a ++ b) → P a) (behind : (a b : List Token) → P (a ++ b) → P b) where
  split_each : (ts : List Token) (ss : List (List Token)) → P ts → IsStatementSplit ts ss → Each P ss
  split_each ts [] p h = tt
  split_each ts (s ∷ ss) p h =
      let cut = subst P h.0.is p in
      (front s h.0.rest cut, split_each h.0.rest ss (behind s h.0.rest cut) h.1)

  pub statements_have : (ts : List Token) → P ts → Each P (def_statements ts)
  statements_have ts p = split_each ts (def_statements ts) p (statements_law ts)

-- each token begins behind the one before
abbrev pub Strict : List Token → Type 0
Strict [] = Unit {0}
Strict (t ∷ ts) = Each (λ u. t.start < u.start) ts × Strict ts

from_place : (text : List ℕ) (at : ℕ) (ss : List Span) → SplitFrom IsBlankPart IsToken text at ss → Each (λ t. at ≤ t.start) (tokens_of text ss)
from_place text at [] h = tt
from_place text at (s ∷ ss) h =
    let ordered = h.0.ordered in
    let some = h.1.some in
    (ordered, each_weaker (λ t. s.end ≤ t.start) (λ t. at ≤ t.start) (tokens_of text ss) (λ t k. omega (arith, ordered, some)) (from_place text s.end ss h.2))

strict_from : (text : List ℕ) (at : ℕ) (ss : List Span) → SplitFrom IsBlankPart IsToken text at ss → Strict (tokens_of text ss)
strict_from text at [] h = tt
strict_from text at (s ∷ ss) h =
    let some = h.1.some in
    (each_weaker (λ t. s.end ≤ t.start) (λ t. s.start < t.start) (tokens_of text ss) (λ t k. omega (arith, some)) (from_place text s.end ss h.2), strict_from text s.end ss h.2)

pub strict_front : (a b : List Token) → Strict (a ++ b) → Strict a
strict_front [] b h = tt
strict_front (t ∷ a) b h = (each_front (λ u. t.start < u.start) a b h.0, strict_front a b h.1)

pub strict_behind : (a b : List Token) → Strict (a ++ b) → Strict b
strict_behind [] b h = h
strict_behind (t ∷ a) b h = strict_behind a b h.1

pub each_strict : (text : List ℕ) → Each Strict (statements_of text)
each_strict text = statements_have Strict strict_front strict_behind (tokens_in text) (strict_from text 0 (def_tokens text) (def_split text))

-- the tokens are a statement, whatever stands behind them
abbrev pub IsShut : List Token → Type 0
IsShut s = (rest : List Token) → def_statements (s ++ rest) ≡ s ∷ def_statements rest

-- what shows it
pub record IsEnded (s : List Token) : Type 0 where
  pub some : 0 < length s
  pub ends : is_closed s ≡ true
  pub shortest : (n : ℕ) → n < length s → is_closed (take n s) ≡ false

pub shut_of : (s : List Token) → IsEnded s → IsShut s
shut_of s h rest =
    let first : IsFirstStatement s (s ++ rest) = record { rest = rest; is = refl; some = h.some; ends = inl h.ends; shortest = h.shortest } in
    sym (only_statements_law (s ++ rest) (s ∷ def_statements rest) (first, statements_law rest))

-- tokens of the same words end too
pub ended_again : (s u : List Token) → token_texts s ≡ token_texts u → IsEnded s → IsEnded u
ended_again s u e h =
    let len = same_length s u e in
    record {
      some = subst (λ (n : ℕ). 0 < n) len h.some;
      ends = sym (same_closed s u e) ∙ h.ends;
      shortest = λ n lt. sym (same_closed (take n s) (take n u) (same_take n s u e)) ∙ h.shortest n (subst (λ (m : ℕ). n < m) (sym len) lt);
    }

-- each statement that another one follows ends by itself
pub all_ended : (ts : List Token) (ss more : List (List Token)) (last : List Token) → IsStatementSplit ts (ss ++ last ∷ more) → Each IsEnded ss
all_ended ts [] more last h = tt
all_ended ts (s ∷ ss) more last h = (record { some = h.0.some; ends = closed ss h.0.rest h.1 h.0.ends; shortest = h.0.shortest }, all_ended h.0.rest ss more last h.1)
  where
    none : (x rest : List Token) (u : List Token) → 0 < length x → u ≡ x ++ rest → u ≡ [] → ⊥
    none [] rest u some e f = absurd (omega arith)
    none (t ∷ x) rest u some e f = let g : [] ≡ t ∷ (x ++ rest) = sym f ∙ e in absurd cc

    closed : (ys : List (List Token)) (u : List Token) → IsStatementSplit u (ys ++ last ∷ more) → (is_closed s ≡ true) ⊎ (u ≡ []) → is_closed s ≡ true
    closed ys u k (inl c) = c
    closed [] u k (inr e) = absurd (none last k.0.rest u k.0.some k.0.is e)
    closed (y ∷ ys) u k (inr e) = absurd (none y k.0.rest u k.0.some k.0.is e)

-- behind such statements the others are those of the tokens that are left
pub record Behind (ts : List Token) (ss more : List (List Token)) : Type 0 where
  pub rest : List Token
  pub is : more ≡ def_statements rest

pub behind_all : (ts : List Token) (ss more : List (List Token)) → IsStatementSplit ts (ss ++ more) → Behind ts ss more
behind_all ts [] more h = record { rest = ts; is = only_statements_law ts more h }
behind_all ts (s ∷ ss) more h = let b = behind_all h.0.rest ss more h.1 in record { rest = b.rest; is = b.is }
