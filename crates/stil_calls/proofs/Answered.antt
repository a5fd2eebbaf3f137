-- What is read of a statement is what its bytes denote, or its first fault.
use Rattle.std.proofs.Common.{◌≡◌, ℕ, false, List, Option, Some, None, sym, ap, ◌∙◌, inl}
use Rattle.std.proofs.lemmas.Option.{same_Some}
use Rattle.base_types.specs.declared.fault.Fault.{Fault}
use Rattle.base_types.specs.declared.fault.FileKind.TheVariants.{Stil}
use Rattle.base_types.specs.Faults.{at_line}
use Rattle.base_types.specs.FirstFault.{IsFirstFault}
use Rattle.base_types.proofs.FirstFaults.{first_of}
use Rattle.base_types.specs.declared.span.Span.{Span}
use Rattle.token_forms.specs.Tokens.{Token, tokens_of}
use Rattle.stil_tokens.specs.StilTokens.{stil_tokens, tokens_in}
use Rattle.stil_parts.specs.declared.part.PartFault.{PartFault}
use Rattle.stil_types.specs.declared.head.StilHead.{StilHead}
use Rattle.stil_syntax.specs.declared.shape.Shape.{Shape}
use Rattle.stil_types.specs.declared.statement.PatternStatement.{PatternStatement}
use Rattle.stil_syntax.specs.Shapes.{shape_of}
use Rattle.stil_calls.specs.declared.judging.Judging.{Judging}
use Rattle.stil_calls.specs.Faults.{shape_fault, fault_by}
use Rattle.stil_calls.specs.Statements.{statement_of, DenotesBy, HoldsBy}

-- the tokens at the spans that were found are those of the text
pub all_tokens : (text : List ℕ) (tokens : List Token) (items spans : List Span) → tokens ≡ tokens_of text spans → spans ≡ items → items ≡ stil_tokens text → tokens ≡ tokens_in text
all_tokens text tokens items spans a b c = a ∙ ap (tokens_of text) (b ∙ c)

module _ (judging : Judging) (head : StilHead) (line : ℕ) (text : List ℕ) (shape : Shape) (tokens : List Token) (read : shape ≡ shape_of head false tokens) (all : tokens ≡ tokens_in text) where
  pub shape_is : shape ≡ shape_of head false (tokens_in text)
  shape_is = read ∙ ap (shape_of head false) all

  fault_is : shape_fault judging head line text shape ≡ fault_by judging head line text
  unfolding fault_by
  fault_is = ap (shape_fault judging head line text) shape_is

  pub is_first : (found : Option PartFault) (f : PartFault) (fault : Fault) → found ≡ shape_fault judging head line text shape → found ≡ Some f → fault ≡ at_line f.kind Stil f.line → IsFirstFault (HoldsBy judging head line text) fault
  is_first found f fault a b c =
      let here : fault_by judging head line text ≡ Some f = sym fault_is ∙ sym a ∙ b in
      first_of (HoldsBy judging head line text) fault (f, here, c)
      (λ g h. inl (h.2 ∙ ap (λ (p : PartFault). at_line p.kind Stil p.line) (same_Some _ _ (sym (h.1) ∙ here)) ∙ sym c))

  pub denotes : (pattern : ℕ) (found : Option PartFault) (s : PatternStatement) → found ≡ shape_fault judging head line text shape → found ≡ None → statement_of head pattern line text shape ≡ Some s → DenotesBy judging head pattern line text s
  denotes pattern found s a b e = record {
    sound = sym fault_is ∙ sym a ∙ b;
    is = ap (λ (x : Shape). statement_of head pattern line text x) (sym shape_is) ∙ e;
  }
