-- The form of a statement doesn't hang on the chains, so that what is no scan call and no Loop stays what it is.
use Rattle.std.proofs.Common.{◌≡◌, ℕ, Bool, true, false, ◌&&◌, ◌||◌, not, cond, List, [], ◌∷◌, Option, Some, None, refl, ap, ◌∙◌}
use Rattle.std.specs.List.{list_any}
use Rattle.std.specs.Str.{bytes_eq}
use Rattle.stil_tokens.specs.StilStatements.{is_closed, stil_statements}
use Rattle.std.specs.Prelude.{codes}
use Rattle.token_forms.specs.Tokens.{Token}
use Rattle.stil_tokens.specs.StilTokens.{tokens_in}
use Rattle.stil_types.specs.declared.head.ScanChainDecl.{ScanChainDecl}
use Rattle.stil_types.specs.declared.head.StilHead.{StilHead}
use Rattle.stil_types.specs.declared.statement.PatternStatement.TheVariants as statements
use Rattle.stil_syntax.specs.declared.shape.Shape.{Shape}
use Rattle.stil_syntax.specs.declared.shape.Shape.TheVariants.{NoForm, Unsupported, Other, Scan, Loop}
use Rattle.stil_syntax.specs.Names.{is_word, name_at}
use Rattle.stil_syntax.specs.Shapes.{is_call, is_scan_call, begins_behind, holds_scan, passes_unread, other_shape, scans_by, callees, callee_shape, call_shape, before_block, in_block, loop_times, loop_by, closes_nothing, loop_shape, word_shape, unlabelled_shape, behind_labels, shape_of}
use Rattle.stil_calls.specs.declared.judging.Judging.{Judging}
use Rattle.stil_calls.specs.declared.judging.Judging.TheVariants.{Form, Lengths}
use Rattle.stil_calls.specs.Faults.{shape_fault, fault_by}
use Rattle.stil_calls.specs.Statements.{statement_of}
use Rattle.stil_written.specs.Written.{with_chains}
use Rattle.stil_written.specs.Laws.{OtherLaw, ShapeLaw}

module _ (head : StilHead) (chains : List ScanChainDecl) (marks : Bool) (end : ℕ) where
  abbrev anew : StilHead
  anew = with_chains head chains marks end

  holds_same : (begins : Bool) (ts : List Token) → holds_scan anew begins ts ≡ holds_scan head begins ts
  holds_same begins [] = refl
  holds_same begins (t ∷ ts) = ap (λ (b : Bool). (begins && is_scan_call head (t ∷ ts)) || b) (holds_same (begins_behind t.text) ts)

  other_same : (ts : List Token) → other_shape anew ts ≡ other_shape head ts
  other_same ts = ap (λ (b : Bool). cond b Unsupported Other) (holds_same false ts)

  callee_same : (ts : List Token) (o : Option Bool) → callee_shape anew ts o ≡ callee_shape head ts o
  callee_same ts None = refl
  callee_same ts (Some true) = refl
  callee_same ts (Some false) = other_same ts

  call_same : (word : List ℕ) (n : Option (List ℕ × List Token)) → call_shape anew word n ≡ call_shape head word n
  call_same word None = refl
  call_same word (Some n) = callee_same n.1 (scans_by (callees head word) n.0)

  either : (t : Bool) (a b c d : Shape) → a ≡ c → b ≡ d → cond t a b ≡ cond t c d
  either true a b c d e f = e
  either false a b c d e f = f

  loop_same : (ts : List Token) → loop_shape anew ts ≡ loop_shape head ts
  loop_same ts =
      let l = loop_by (loop_times (before_block ts)) (in_block ts) in
      either (list_any (is_scan_call head) (stil_statements (in_block ts))) l (other_shape anew ts) l (other_shape head ts) refl (other_same ts)

  word_same : (inside : Bool) (word : List ℕ) (ts : List Token) → word_shape anew inside word ts ≡ word_shape head inside word ts
  word_same inside word ts =
      either (is_call word) _ _ _ _ (call_same word (name_at ts))
      (either (bytes_eq word (codes "Loop")) _ _ _ _ (either inside _ _ _ _ (other_same ts) (loop_same ts)) (either (passes_unread head word) _ _ _ _ (other_same ts) refl))

  unlabelled_same : (inside : Bool) (ts : List Token) → unlabelled_shape anew inside ts ≡ unlabelled_shape head inside ts
  unlabelled_same inside [] = refl
  unlabelled_same inside (t ∷ ts) = either (is_word t.text) (word_shape anew inside t.text ts) NoForm (word_shape head inside t.text ts) NoForm (word_same inside t.text ts) refl

  pub shape_same : (inside : Bool) (ts : List Token) → shape_of anew inside ts ≡ shape_of head inside ts
  unfolding shape_of
  shape_same inside ts =
      either (not (is_closed ts) || closes_nothing 0 ts) NoForm (unlabelled_shape anew inside (behind_labels ts)) NoForm (unlabelled_shape head inside (behind_labels ts)) refl (unlabelled_same inside (behind_labels ts))

  is_other : (pattern line : ℕ) (text : List ℕ) (shape : Shape) → statement_of head pattern line text shape ≡ Some (statements.Other pattern text) → shape ≡ Other
  is_other pattern line text NoForm e = absurd cc
  is_other pattern line text Unsupported e = absurd cc
  is_other pattern line text Other e = refl
  is_other pattern line text (Scan items) e = absurd cc
  is_other pattern line text (Loop times body) e = absurd cc

  no_fault : (judging : Judging) (line : ℕ) (text : List ℕ) → shape_fault judging anew line text Other ≡ None
  no_fault Form line text = refl
  no_fault Lengths line text = refl

  sound_other : (judging : Judging) (line : ℕ) (text : List ℕ) → shape_of anew false (tokens_in text) ≡ Other → fault_by judging anew line text ≡ None
  unfolding fault_by
  sound_other judging line text e = ap (shape_fault judging anew line text) e ∙ no_fault judging line text

pub shape_law : ShapeLaw
shape_law = shape_same

pub other_law : OtherLaw
other_law judging head chains marks end old new pattern text s =
    let shape = is_other head chains marks end pattern s.line text (shape_of head false (tokens_in text)) s.is in
    let here = shape_same head chains marks end false (tokens_in text) ∙ shape in
    record {
      begins = refl;
      whole = s.whole;
      reads = λ line. record {
        sound = sound_other head chains marks end judging line text here;
        statement = statements.Other pattern text;
        is = ap (statement_of (with_chains head chains marks end) pattern line text) here;
        pairs = record { alike = (refl, refl); shows = tt };
      };
    }
