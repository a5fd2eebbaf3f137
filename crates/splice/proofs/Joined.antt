-- Edits of parts that stand one behind the other.
use Rattle.std.proofs.Common.{◌≡◌, ℕ, List, [], ◌∷◌, ◌++◌, refl, sym, ap, ◌∙◌, append_assoc}
use Rattle.base_types.specs.declared.span.Span.{Span}
use Rattle.splice.specs.declared.Edit.{Edit}
use Rattle.token_forms.specs.Parts.{Part, Fixed, Slot}
use Rattle.splice.proofs.Edited.{IsEdit, AreEdits}

module _ (texts : List ℕ → List (List ℕ)) where
  -- parts in front that stay
  edits_behind : (xs : List Part) (es : List Edit) (ps qs : List Part) → AreEdits texts es ps qs → AreEdits texts es (xs ++ ps) (xs ++ qs)
  edits_behind xs [] ps qs f = ap (λ (l : List Part). xs ++ l) f
  edits_behind xs (e ∷ es) ps qs f = record {
    before = xs ++ f.before;
    opening = f.opening;
    inner = f.inner;
    closing = f.closing;
    behind = f.behind;
    later = f.later;
    is = ap (λ (l : List Part). xs ++ l) f.is ∙ sym (append_assoc xs f.before (Slot f.opening e.span f.inner f.closing ∷ f.behind));
    edited = ap (λ (l : List Part). xs ++ l) f.edited ∙ sym (append_assoc xs f.before (Slot f.opening e.span (texts e.text) f.closing ∷ f.later));
    more = f.more;
  }

  -- the edits of two lists of parts are those of both lists together
  pub edits_join : (es fs : List Edit) (ps qs vs ws : List Part) → AreEdits texts es ps qs → AreEdits texts fs vs ws → AreEdits texts (es ++ fs) (ps ++ vs) (qs ++ ws)
  edits_join [] fs ps qs vs ws f g = rw f (edits_behind ps fs vs ws g)
  edits_join (e ∷ es) fs ps qs vs ws f g = record {
    before = f.before;
    opening = f.opening;
    inner = f.inner;
    closing = f.closing;
    behind = f.behind ++ vs;
    later = f.later ++ ws;
    is = ap (λ (l : List Part). l ++ vs) f.is ∙ append_assoc f.before (Slot f.opening e.span f.inner f.closing ∷ f.behind) vs;
    edited = ap (λ (l : List Part). l ++ ws) f.edited ∙ append_assoc f.before (Slot f.opening e.span (texts e.text) f.closing ∷ f.later) ws;
    more = edits_join es fs f.behind f.later vs ws f.more g;
  }

  -- one expression that is replaced
  pub edit_one : (o c : ℕ) (e : Edit) (ws : List (List ℕ)) → AreEdits texts (e ∷ []) (Slot o e.span ws c ∷ []) (Slot o e.span (texts e.text) c ∷ [])
  edit_one o c e ws = record { before = []; opening = o; inner = ws; closing = c; behind = []; later = []; is = refl; edited = refl; more = refl }
