-- Each call of a statement without fault is accepted by the chains of the head.
use Rattle.std.proofs.Common.{◌≡◌, ℕ, Bool, true, false, cond, List, [], ◌∷◌, map, All, Option, Some, None, refl, subst}
use Rattle.std.specs.List.{list_any}
use Rattle.std.proofs.lemmas.Bool.{or_from}
use Rattle.std.proofs.lemmas.Option.{same_Some}
use Rattle.std.proofs.lemmas.List.Elements.{All-cons, All-nil}
use Rattle.token_forms.specs.Tokens.{Token, place_of}
use Rattle.base_types.specs.declared.kind.Kind.{Kind}
use Rattle.stil_parts.specs.declared.part.PartFault.{PartFault}
use Rattle.stil_types.specs.declared.head.StilHead.{StilHead}
use Rattle.stil_syntax.specs.declared.item.Item.{Item}
use Rattle.stil_syntax.specs.declared.shape.Shape.{Shape}
use Rattle.stil_syntax.specs.declared.shape.Shape.TheVariants.{NoForm, Unsupported, Other, Scan, Loop}
use Rattle.stil_types.specs.declared.statement.PatternStatement.{PatternStatement}
use Rattle.stil_syntax.specs.Shapes.{shape_of, body_statements}
use Rattle.stil_calls.specs.Scans.{gives_twice, has_unsound, is_foreign, is_short, is_long, call_of}
use Rattle.stil_calls.specs.declared.judging.Judging.{Judging}
use Rattle.stil_calls.specs.declared.judging.Judging.TheVariants.{Form, Lengths}
use Rattle.stil_calls.specs.Given.{names_twice}
use Rattle.stil_calls.specs.Faults.{is_pattern_syntax, kind_of, line_in, fault_or, body_fault, shape_fault}
use Rattle.stil_calls.specs.Statements.{call_in, body_of, is_read, statement_of, IsAcceptedBy, IsAcceptedIn, AreAcceptedBy}
use Rattle.stil_calls.proofs.Accepted.{is_call, is_accepted}

-- a test that would give a kind doesn't hold
passed : (b : Bool) (k : Kind) (more : Option Kind) → cond b (Some k) more ≡ None → (b ≡ false) × (more ≡ None)
passed true k more e = absurd cc
passed false k more e = (refl, e)

scan_accepted : (judging : Judging) (head : StilHead) (items : List Item) → kind_of judging head (Scan items) ≡ None → IsAcceptedBy judging head (call_of head.chains items)
scan_accepted Form head items e =
    let a = passed (gives_twice items) _ _ e in
    let b = passed (has_unsound head.chains items) _ _ (a.1) in
    is_call head.chains items (b.0)
scan_accepted Lengths head items e =
    let a = passed (gives_twice items) _ _ e in
    let b = passed (has_unsound head.chains items) _ _ (a.1) in
    let c = passed (is_foreign head.chains items) _ _ (b.1) in
    let d = passed (is_short head.chains items) _ _ (c.1) in
    let f = passed (is_long head.chains items) _ _ (d.1) in
    (is_call head.chains items (b.0), is_accepted head.chains items (d.0) (f.0))

-- no fault, and none behind
clean : (k : Option Kind) (line : ℕ) (more : Option PartFault) → fault_or k line more ≡ None → (k ≡ None) × (more ≡ None)
clean None line more e = (refl, e)
clean (Some k) line more e = absurd cc

-- a Loop itself is never at fault
loop_clean : (judging : Judging) (head : StilHead) (line : ℕ) (text : List ℕ) (times : ℕ) (body : List Token) → shape_fault judging head line text (Loop times body) ≡ None
    → body_fault judging head line text (body_statements body) ≡ None
loop_clean Form head line text times body e = e
loop_clean Lengths head line text times body e = e

module _ (judging : Judging) (head : StilHead) (line : ℕ) (text : List ℕ) where
  call_accepted : (shape : Shape) → kind_of judging head shape ≡ None → IsAcceptedIn judging head (call_in head shape)
  call_accepted NoForm e = tt
  call_accepted Unsupported e = tt
  call_accepted Other e = tt
  call_accepted (Scan items) e = scan_accepted judging head items e
  call_accepted (Loop times body) e = tt

  body_accepted : (ss : List (List Token)) → body_fault judging head line text ss ≡ None → All (λ s. IsAcceptedIn judging head s.call) (map (body_of head line text) ss)
  body_accepted [] e = All-nil (λ s. IsAcceptedIn judging head s.call)
  body_accepted (s ∷ ss) e =
      let p = clean (kind_of judging head (shape_of head true s)) (line_in line text (place_of s).start) (body_fault judging head line text ss) e in
      All-cons (λ s. IsAcceptedIn judging head s.call) (body_of head line text s) (map (body_of head line text) ss) (call_accepted (shape_of head true s) (p.0)) (body_accepted ss (p.1))

  pub are_accepted : (pattern : ℕ) (shape : Shape) (s : PatternStatement) → shape_fault judging head line text shape ≡ None → statement_of head pattern line text shape ≡ Some s → AreAcceptedBy judging head s
  are_accepted pattern NoForm s sound e = absurd cc
  are_accepted pattern Unsupported s sound e = absurd cc
  are_accepted pattern Other s sound e = subst (AreAcceptedBy judging head) (same_Some _ _ e) tt
  are_accepted pattern (Scan items) s sound e =
      subst (AreAcceptedBy judging head) (same_Some _ _ e) (scan_accepted judging head items ((clean (kind_of judging head (Scan items)) line None sound).0))
  are_accepted pattern (Loop times body) s sound e =
      subst (AreAcceptedBy judging head) (same_Some _ _ e) (body_accepted (body_statements body) (loop_clean judging head line text times body sound))

  body_once : (ss : List (List Token)) → body_fault judging head line text ss ≡ None → list_any (λ s. is_pattern_syntax (shape_of head true s)) ss ≡ false
  body_once [] e = refl
  body_once (s ∷ ss) e =
      let p = clean (kind_of judging head (shape_of head true s)) (line_in line text (place_of s).start) (body_fault judging head line text ss) e in
      or_from (is_pattern_syntax (shape_of head true s)) (list_any (λ s. is_pattern_syntax (shape_of head true s)) ss) ((passed (is_pattern_syntax (shape_of head true s)) _ _ (p.0)).0) (body_once ss (p.1))

  pub is_once : (shape : Shape) → shape_fault judging head line text shape ≡ None → names_twice head shape ≡ false
  is_once NoForm sound = refl
  is_once Unsupported sound = refl
  is_once Other sound = refl
  is_once (Scan items) sound = (passed (is_pattern_syntax (Scan items)) _ _ ((clean (kind_of judging head (Scan items)) line None sound).0)).0
  is_once (Loop times body) sound = body_once (body_statements body) (loop_clean judging head line text times body sound)

  pub is_read_so : (shape : Shape) → shape_fault judging head line text shape ≡ None → is_read shape ≡ true
  is_read_so NoForm sound = absurd cc
  is_read_so Unsupported sound = absurd cc
  is_read_so Other sound = refl
  is_read_so (Scan items) sound = refl
  is_read_so (Loop times body) sound = refl
