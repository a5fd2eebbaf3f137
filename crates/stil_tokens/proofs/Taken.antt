-- The loop that takes the statements of a text from its tokens, one after the other.
use Rattle.std.proofs.Common.{◌≡◌, ℕ, ◌<◌, List, [], ◌∷◌, ◌++◌, length, take, drop, map, sym, ap, ◌∙◌, append_assoc, subst, arith}
use Rattle.std.proofs.lemmas.List.{take-map, drop-map, map-append, append-nil}
use Rattle.std.proofs.lemmas.List.Elements.{All-push, All-take, All-drop}
use Rattle.std.specs.List.{All}
use Rattle.base_types.specs.declared.span.Span.{Span}
use Rattle.token_forms.specs.Tokens.{Token, token_of, tokens_of, IsSpanOf, AreSpansOf}
use Rattle.stil_tokens.specs.declared.statements.Statement.{Statement}
use Rattle.stil_tokens.specs.StilTokens.{tokens_in}
use Rattle.stil_tokens.specs.StilStatements.{is_closed, statement_len, statements_within, stil_statements, IsStatementSplit}
use Rattle.stil_tokens.proofs.StilCuts.{first_law, statements_law}

-- the first statement at some spans, and those behind it
first_at : (text : List ℕ) (left : List Span) (n : ℕ) → 0 < length left → n ≡ statement_len (tokens_of text left)
    → stil_statements (tokens_of text left) ≡ tokens_of text (take n left) ∷ stil_statements (tokens_of text (drop n left))
first_at text [] n some is = absurd (omega arith)
first_at text (s ∷ ss) n some is =
    first_law (token_of text s) (tokens_of text ss)
    ∙ ap (λ (k : ℕ). take k (tokens_of text (s ∷ ss)) ∷ stil_statements (drop k (tokens_of text (s ∷ ss)))) (sym is)
    ∙ ap (λ (x : List Token). x ∷ stil_statements (drop n (tokens_of text (s ∷ ss)))) (take-map (token_of text) n (s ∷ ss))
    ∙ ap (λ (x : List Token). tokens_of text (take n (s ∷ ss)) ∷ stil_statements x) (drop-map (token_of text) n (s ∷ ss))

-- the tokens of a statement
abbrev tokens_at : List ℕ → Statement → List Token
tokens_at text s = tokens_of text s.tokens

-- what is taken so far
pub record Taken (text : List ℕ) (left : List Span) (ss : List Statement) : Type 0 where
  pub inside : AreSpansOf text left
  pub within : All (λ s. AreSpansOf text s.tokens) ss
  pub closed : All (λ s. s.closed ≡ is_closed (tokens_of text s.tokens)) ss
  pub same : map (λ s. tokens_of text s.tokens) ss ++ stil_statements (tokens_of text left) ≡ stil_statements (tokens_in text)

-- one statement more
pub takes_one : (text : List ℕ) (left behind : List Span) (n : ℕ) (ss new : List Statement) (row : Statement) → Taken text left ss → 0 < length left → n ≡ statement_len (tokens_of text left)
    → behind ≡ drop n left → row.tokens ≡ take n left → row.closed ≡ is_closed (tokens_of text row.tokens) → new ≡ ss ++ row ∷ [] → Taken text behind new
takes_one text left behind n ss new row so_far some is cut front closed pushed =
    let fits : AreSpansOf text row.tokens = subst (AreSpansOf text) (sym front) (All-take (IsSpanOf text) n left so_far.inside) in
    rw (pushed, cut) (record {
      inside = All-drop (IsSpanOf text) n left so_far.inside;
      within = All-push (λ s. AreSpansOf text s.tokens) ss row so_far.within fits;
      closed = All-push (λ s. s.closed ≡ is_closed (tokens_of text s.tokens)) ss row so_far.closed closed;
      same = ap (λ (x : List (List Token)). x ++ stil_statements (tokens_of text (drop n left))) (map-append (tokens_at text) ss (row ∷ []))
          ∙ append_assoc (map (tokens_at text) ss) (tokens_of text row.tokens ∷ []) (stil_statements (tokens_of text (drop n left)))
          ∙ ap (λ (x : List Span). map (tokens_at text) ss ++ tokens_of text x ∷ stil_statements (tokens_of text (drop n left))) front
          ∙ ap (λ (x : List (List Token)). map (tokens_at text) ss ++ x) (sym (first_at text left n some is))
          ∙ so_far.same;
    })

-- none is left
pub takes_all : (text : List ℕ) (left : List Span) (ss : List Statement) → Taken text left ss → length left ≡ 0 → map (λ s. tokens_of text s.tokens) ss ≡ stil_statements (tokens_in text)
unfolding statements_within
takes_all text [] ss so_far none = sym (append-nil (map (tokens_at text) ss)) ∙ so_far.same
takes_all text (s ∷ left) ss so_far none = absurd (omega arith)

pub is_split : (text : List ℕ) (left : List Span) (ss : List Statement) → Taken text left ss → length left ≡ 0 → IsStatementSplit (tokens_in text) (map (λ s. tokens_of text s.tokens) ss)
is_split text left ss so_far none = subst (IsStatementSplit (tokens_in text)) (sym (takes_all text left ss so_far none)) (statements_law (tokens_in text))
