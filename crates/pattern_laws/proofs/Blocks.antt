-- A scan call without a brace has no items.
use Rattle.std.proofs.Common.{◌≡◌, inl, inr, ℕ, ◌<◌, Bool, true, false, cond, not, ◌||◌, max, List, [], ◌∷◌, ◌++◌, codes, Option, Some, None, refl, sym, ap, ◌∙◌, subst, arith}
use Rattle.std.specs.List.{AllByRecursion as Each}
use Rattle.std.specs.Str.{bytes_eq}
use Rattle.std.proofs.lemmas.Bool.{cases_Bool, true≢false}
use Rattle.token_forms.specs.Tokens.{Token}
use Rattle.stil_tokens.specs.StilStatements.{is_only, is_closed}
use Rattle.stil_types.specs.Calls.{longest_string}
use Rattle.stil_types.specs.declared.head.ScanChainDecl.{ScanChainDecl}
use Rattle.stil_types.specs.declared.head.StilHead.{StilHead}
use Rattle.stil_syntax.specs.declared.item.Item.{Item}
use Rattle.stil_syntax.specs.declared.shape.Shape.TheVariants.{NoForm, Unsupported, Scan}
use Rattle.stil_syntax.specs.Names.{is_word, name_at}
use Rattle.stil_syntax.specs.Grammar.{call_end, block}
use Rattle.stil_syntax.specs.Shapes.{is_call, scans_by, callees, passes_unread, other_shape, loop_shape, callee_shape, call_shape, word_shape, unlabelled_shape, behind_labels, closes_nothing, shape_of}
use Rattle.stil_syntax.proofs.Labelled.{items_law, labels_law}
use Rattle.stil_calls.specs.declared.repeats.Side.{Side}
use Rattle.stil_calls.specs.declared.repeats.Side.TheVariants.{Load, Compare}
use Rattle.stil_calls.specs.Scans.{strings_of, call_of}
use Rattle.stil_writer.specs.Calls.{brace_end}
use Rattle.stil_writer.proofs.Transfer.{IsPlainToken, each_behind, no_other, no_word, not_scan, name_tail}
use Rattle.pattern_laws.specs.Laws.{BlockLaw}

-- no items, no shifts
none_longest : (side : Side) (chains : List ScanChainDecl) → longest_string (strings_of side chains []) ≡ 0
none_longest side [] = refl
none_longest side (c ∷ cs) = ap (max 0) (none_longest side cs)

none_shifts : (chains : List ScanChainDecl) → (call_of chains []).shifts ≡ 0
none_shifts chains = ap (λ (n : ℕ). max n (longest_string (strings_of Compare chains []))) (none_longest Load chains) ∙ ap (max 0) (none_longest Compare chains)

plain_as : (t : Token) (ts : List Token) → brace_end (t ∷ ts) ≡ None → IsPlainToken t × (brace_end ts ≡ None)
plain_as t ts e = elim (cases_Bool (is_only 123 t.text)) [
  | inl h ↦ absurd (let k : Some t.end ≡ None = sym (ap (λ (b : Bool). cond b (Some t.end) (brace_end ts)) h) ∙ e in cc)
  | inr h ↦ (h, sym (ap (λ (b : Bool). cond b (Some t.end) (brace_end ts)) h) ∙ e)
]

pub none_plain : (ts : List Token) → brace_end ts ≡ None → Each IsPlainToken ts
none_plain [] e = tt
none_plain (t ∷ ts) e = let p = plain_as t ts e in (p.0, none_plain ts p.1)

-- what is spelled without a brace is a lone ;
no_block : (items : List Item) (r : List Token) → Each IsPlainToken r → call_end.spells items r → items ≡ []
unfolding call_end block
no_block items r e (inl s) = sym s.is
no_block items [] e (inr s) =
    let outer = s.holds in
    let pair = outer.first.holds in
    let open_ = pair.first.holds in
    absurd (let whole : [] ≡ open_.token ∷ (pair.back ++ outer.back) = outer.is ∙ ap (λ (l : List Token). l ++ outer.back) (pair.is ∙ ap (λ (l : List Token). l ++ pair.back) open_.is) in cc)
no_block items (t ∷ ts) e (inr s) =
    let outer = s.holds in
    let pair = outer.first.holds in
    let open_ = pair.first.holds in
    let whole : t ∷ ts ≡ open_.token ∷ (pair.back ++ outer.back) = outer.is ∙ ap (λ (l : List Token). l ++ outer.back) (pair.is ∙ ap (λ (l : List Token). l ++ pair.back) open_.is) in
    let same : t ≡ open_.token = cc in
    let is : is_only 123 t.text ≡ true = ap (λ (u : Token). is_only 123 u.text) same ∙ ap (is_only 123) open_.text in
    absurd (true≢false (sym is ∙ e.0))

module _ (head : StilHead) (inside : Bool) (items : List Item) where
  by_scan : (r : List Token) (o : Option Bool) → Each IsPlainToken r → callee_shape head r o ≡ Scan items → items ≡ []
  by_scan r None e h = absurd cc
  by_scan r (Some false) e h = absurd (not_scan _ items (no_other head r) h)
  by_scan r (Some true) e h = no_block items r e ((items_law r items).0 h)

  by_name : (word : List ℕ) (us : List Token) (o : Option (List ℕ × List Token)) → Each IsPlainToken us → name_at us ≡ o → call_shape head word o ≡ Scan items → items ≡ []
  by_name word us None e m h = absurd cc
  by_name word us (Some n) e m h = let t = name_tail us n m in by_scan n.1 (scans_by (callees head word) n.0) (each_behind IsPlainToken t.0 n.1 (subst (Each IsPlainToken) t.1 e)) h

  by_call : (word : List ℕ) (us : List Token) (c : Bool) → Each IsPlainToken us → is_call word ≡ c → word_shape head inside word us ≡ Scan items → items ≡ []
  by_call word us false e c h = absurd (not_scan _ items (no_word head inside word us c) h)
  by_call word us true e c h =
      by_name word us (name_at us) e refl
      (sym (ap (λ (t : Bool). cond t (call_shape head word (name_at us)) (cond (bytes_eq word (codes "Loop")) (cond inside (other_shape head us) (loop_shape head us)) (cond (passes_unread head word) (other_shape head us) Unsupported))) c) ∙ h)

  by_word : (t : Token) (us : List Token) (w : Bool) → Each IsPlainToken us → cond w (word_shape head inside t.text us) NoForm ≡ Scan items → items ≡ []
  by_word t us false e h = absurd cc
  by_word t us true e h = by_call t.text us (is_call t.text) e refl h

  by_labels : (us : List Token) → Each IsPlainToken us → unlabelled_shape head inside us ≡ Scan items → items ≡ []
  by_labels [] e h = absurd cc
  by_labels (t ∷ us) e h = by_word t us (is_word t.text) e.1 h

  by_closed : (b : Bool) (us : List Token) → Each IsPlainToken us → cond b NoForm (unlabelled_shape head inside us) ≡ Scan items → items ≡ []
  by_closed true us e h = absurd cc
  by_closed false us e h = by_labels us e h

  no_items : (ts : List Token) → Each IsPlainToken ts → shape_of head inside ts ≡ Scan items → items ≡ []
  unfolding shape_of
  no_items ts e h =
      let l = labels_law ts in
      by_closed (not (is_closed ts) || closes_nothing 0 ts) (behind_labels ts) (each_behind IsPlainToken l.stand.front (behind_labels ts) (subst (Each IsPlainToken) l.stand.is e)) h

  block_as : (ts : List Token) (o : Option ℕ) → brace_end ts ≡ o → shape_of head inside ts ≡ Scan items → 0 < (call_of head.chains items).shifts → (brace : ℕ) × (o ≡ Some brace)
  block_as ts (Some n) e h some = (n, refl)
  block_as ts None e h some =
      let none = no_items ts (none_plain ts e) h in
      let zero : (call_of head.chains items).shifts ≡ 0 = ap (λ (l : List Item). (call_of head.chains l).shifts) none ∙ none_shifts head.chains in
      absurd (omega (arith, zero, some))

pub block_law : BlockLaw
block_law head inside ts items h some = block_as head inside items ts (brace_end ts) refl h some
