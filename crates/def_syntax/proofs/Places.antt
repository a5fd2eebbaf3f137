-- The statements of a text begin one behind the other.
use Rattle.std.proofs.Common.{◌≤◌, ◌<◌, ℕ, List, [], ◌∷◌, ◌++◌, length, subst, arith}
use Rattle.std.specs.List.{AllByRecursion as Each}
use Rattle.base_types.specs.declared.span.Span.{Span}
use Rattle.token_forms.specs.Tokens.{Token, tokens_of}
use Rattle.token_forms.specs.Splits.{SplitFrom}
use Rattle.def_tokens.specs.DefTokens.{def_tokens, tokens_in}
use Rattle.def_tokens.specs.DefSplit.{IsBlankPart, IsToken}
use Rattle.def_tokens.specs.DefStatements.{IsStatementSplit}
use Rattle.def_tokens.proofs.DefSplitLaw.{def_split}
use Rattle.def_tokens.proofs.DefCuts.{statements_law}
use Rattle.def_syntax.specs.Frames.{start_of}
use Rattle.def_syntax.specs.Designs.{statements_of}
use Rattle.def_syntax.proofs.FrameLaws.{each_front, each_behind}
use Rattle.def_syntax.proofs.Designs.{Rising}

each_weaker : {X : Type 0} (P Q : X → Type 0) (xs : List X) → ((x : X) → P x → Q x) → Each P xs → Each Q xs
each_weaker P Q [] f e = tt
each_weaker P Q (x ∷ xs) f e = (f x (e.0), each_weaker P Q xs f e.1)

Higher : List Token → Type 0
Higher [] = Unit {0}
Higher (t ∷ ts) = Each (λ u. t.start ≤ u.start) ts × Higher ts

from_place : (text : List ℕ) (at : ℕ) (ss : List Span) → SplitFrom IsBlankPart IsToken text at ss → Each (λ t. at ≤ t.start) (tokens_of text ss)
from_place text at [] h = tt
from_place text at (s ∷ ss) h =
    let ordered = h.0.ordered in
    let some = h.1.some in
    (ordered, each_weaker (λ t. s.end ≤ t.start) (λ t. at ≤ t.start) (tokens_of text ss) (λ t k. omega (arith, ordered, some)) (from_place text s.end ss h.2))

higher : (text : List ℕ) (at : ℕ) (ss : List Span) → SplitFrom IsBlankPart IsToken text at ss → Higher (tokens_of text ss)
unfolding Higher
higher text at [] h = tt
higher text at (s ∷ ss) h =
    let some = h.1.some in
    (each_weaker (λ t. s.end ≤ t.start) (λ t. s.start ≤ t.start) (tokens_of text ss) (λ t k. omega (arith, some)) (from_place text s.end ss h.2), higher text s.end ss h.2)

higher_behind : (ts us : List Token) → Higher (ts ++ us) → Higher us
unfolding Higher
higher_behind [] us h = h
higher_behind (t ∷ ts) us h = higher_behind ts us h.1

starts_from : (k : ℕ) (ts : List Token) (ss : List (List Token)) → Each (λ t. k ≤ t.start) ts → IsStatementSplit ts ss → Each (λ u. k ≤ start_of u) ss
starts_from k ts [] e h = tt
starts_from k ts (s ∷ ss) e h =
    let all = subst (Each (λ t. k ≤ t.start)) h.0.is e in
    (first s h.0.some all, starts_from k h.0.rest ss (each_behind (λ t. k ≤ t.start) s h.0.rest all) h.1)
  where
    first : (u : List Token) → 0 < length u → Each (λ t. k ≤ t.start) (u ++ h.0.rest) → k ≤ start_of u
    first [] some all = absurd (omega arith)
    first (t ∷ u) some all = all.0

rising : (ts : List Token) (ss : List (List Token)) → Higher ts → IsStatementSplit ts ss → Rising ss
unfolding Higher
rising ts [] up h = tt
rising ts (s ∷ ss) up h =
    let all = subst Higher h.0.is up in
    (first s h.0.some all, rising h.0.rest ss (higher_behind s h.0.rest all) h.1)
  where
    first : (u : List Token) → 0 < length u → Higher (u ++ h.0.rest) → Each (λ v. start_of u ≤ start_of v) ss
    first [] some all = absurd (omega arith)
    first (t ∷ u) some all = starts_from t.start h.0.rest ss (each_behind (λ v. t.start ≤ v.start) u h.0.rest all.0) h.1

pub rising_statements : (text : List ℕ) → Rising (statements_of text)
rising_statements text = rising (tokens_in text) (statements_of text) (higher text 0 (def_tokens text) (def_split text)) (statements_law (tokens_in text))

pub rising_front : (ss us : List (List Token)) → Rising (ss ++ us) → Rising ss
rising_front [] us h = tt
rising_front (s ∷ ss) us h = (each_front (λ v. start_of s ≤ start_of v) ss us h.0, rising_front ss us h.1)
