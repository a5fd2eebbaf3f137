-- A scan call is one whatever items stand in its block.
use Rattle.std.proofs.Common.{◌≡◌, inl, inr, ℕ, Bool, true, false, cond, eqb, ◌&&◌, List, [], ◌∷◌, ◌++◌, length, codes, Option, Some, None, refl, sym, ap, ◌∙◌, subst, arith, length-append}
use Rattle.std.specs.List.{AllByRecursion as Each, list_any}
use Rattle.std.specs.Str.{bytes_eq}
use Rattle.std.proofs.lemmas.Bool.{true≢false}
use Rattle.std.proofs.lemmas.Option.{same_Some}
use Rattle.token_forms.specs.Tokens.{Token}
use Rattle.stil_tokens.specs.StilStatements.{is_only, stil_statements}
use Rattle.stil_types.specs.declared.head.StilHead.{StilHead}
use Rattle.stil_types.specs.declared.head.Callee.{Callee}
use Rattle.stil_syntax.specs.declared.item.Item.{Item}
use Rattle.stil_syntax.specs.declared.shape.Shape.{Shape}
use Rattle.stil_syntax.specs.declared.shape.Shape.TheVariants.{NoForm, Unsupported, Other, Scan, Loop}
use Rattle.stil_syntax.specs.Names.{is_word, is_string, inner, name_at}
use Rattle.stil_syntax.specs.Grammar.{call_end, block}
use Rattle.stil_syntax.specs.Shapes.{is_call, scans_by, callees, is_scan_call, holds_scan, passes_unread, other_shape, scan_shape, callee_shape, call_shape, before_block, in_block, loop_times, loop_by, loop_shape, word_shape, unlabelled_shape}
use Rattle.stil_syntax.proofs.Labelled.{items_law}
use Rattle.stil_writer.proofs.Heads.{with_more, name_on}

abbrev pub IsPlainToken : Token → Type 0
IsPlainToken t = is_only 123 t.text ≡ false

pub each_behind : (P : Token → Type 0) (xs ys : List Token) → Each P (xs ++ ys) → Each P ys
each_behind P [] ys e = e
each_behind P (x ∷ xs) ys e = each_behind P xs ys e.1

-- no scan call
abbrev pub IsNoScan : Shape → Type 0
IsNoScan NoForm = Unit {0}
IsNoScan Unsupported = Unit {0}
IsNoScan Other = Unit {0}
IsNoScan (Scan items) = ⊥
IsNoScan (Loop times body) = Unit {0}

pub record NoScan (s : Shape) : Type 0 where
  pub is : IsNoScan s

either : (t : Bool) (a b : Shape) → NoScan a → NoScan b → NoScan (cond t a b)
either true a b x y = x
either false a b x y = y

pub no_other : (head : StilHead) (ts : List Token) → NoScan (other_shape head ts)
no_other head ts = either (holds_scan head false ts) _ _ (record { is = tt }) (record { is = tt })

no_loop_by : (o : Option ℕ) (body : List Token) → NoScan (loop_by o body)
no_loop_by None body = record { is = tt }
no_loop_by (Some times) body = record { is = tt }

no_loop : (head : StilHead) (ts : List Token) → NoScan (loop_shape head ts)
no_loop head ts = either (list_any (is_scan_call head) (stil_statements (in_block ts))) _ _ (no_loop_by (loop_times (before_block ts)) (in_block ts)) (no_other head ts)

pub no_word : (head : StilHead) (inside : Bool) (word : List ℕ) (ts : List Token) → is_call word ≡ false → NoScan (word_shape head inside word ts)
no_word head inside word ts e = subst (λ (c : Bool). NoScan (cond c (call_shape head word (name_at ts)) (cond (bytes_eq word (codes "Loop")) (cond inside (other_shape head ts) (loop_shape head ts)) (cond (passes_unread head word) (other_shape head ts) Unsupported)))) (sym e)
    (either (bytes_eq word (codes "Loop")) _ _ (either inside _ _ (no_other head ts) (no_loop head ts)) (either (passes_unread head word) _ _ (no_other head ts) (record { is = tt })))

pub not_scan : (s : Shape) (items : List Item) → NoScan s → s ≡ Scan items → ⊥
not_scan s items n e = let k = subst (λ (x : Shape). NoScan x) e n in k.is

-- what stands before the brace of a scan call, behind its labels
pub record IsCallBefore (head : StilHead) (us : List Token) : Type 0 where
  pub word : Token
  pub behind : List Token
  pub name : List ℕ
  pub cut : us ≡ word ∷ behind
  pub is_word_there : is_word word.text ≡ true
  pub calls : is_call word.text ≡ true
  pub named : name_at behind ≡ Some (name, [])
  pub scan : scans_by (callees head word.text) name ≡ Some true

-- the tokens behind a name
name_cut : (w s j : Bool) (x y z : List ℕ) (t u : Token) (us : List Token) (n : List ℕ × List Token) → cond w (Some (x, u ∷ us)) (cond s (Some (cond j (y, us) (z, u ∷ us))) None) ≡ Some n → (front : List Token) × (t ∷ u ∷ us ≡ front ++ n.1)
name_cut true s j x y z t u us n e = (t ∷ [], ap (λ (p : List ℕ × List Token). t ∷ p.1) (same_Some (x, u ∷ us) n e))
name_cut false true true x y z t u us n e = (t ∷ u ∷ [], ap (λ (p : List ℕ × List Token). t ∷ u ∷ p.1) (same_Some (y, us) n e))
name_cut false true false x y z t u us n e = (t ∷ [], ap (λ (p : List ℕ × List Token). t ∷ p.1) (same_Some (z, u ∷ us) n e))
name_cut false false j x y z t u us n e = absurd cc

name_end : (w s : Bool) (x y : List ℕ) (t : Token) (n : List ℕ × List Token) → cond w (Some (x, [])) (cond s (Some (y, [])) None) ≡ Some n → (front : List Token) × (t ∷ [] ≡ front ++ n.1)
name_end true s x y t n e = (t ∷ [], ap (λ (p : List ℕ × List Token). t ∷ p.1) (same_Some (x, []) n e))
name_end false true x y t n e = (t ∷ [], ap (λ (p : List ℕ × List Token). t ∷ p.1) (same_Some (y, []) n e))
name_end false false x y t n e = absurd cc

pub name_tail : (ts : List Token) (n : List ℕ × List Token) → name_at ts ≡ Some n → (front : List Token) × (ts ≡ front ++ n.1)
unfolding name_at
name_tail [] n e = absurd cc
name_tail (t ∷ []) n e = name_end (is_word t.text) (is_string t.text) t.text (inner t.text) t n e
name_tail (t ∷ u ∷ us) n e = name_cut (is_word t.text) (is_string t.text) (is_word u.text && eqb u.start t.end) t.text (inner t.text ++ u.text) (inner t.text) t u us n e

module _ (b : Token) (brace : b.text ≡ 123 ∷ []) where
  -- a block begins with its brace, so that nothing stands before it
  begins : (items : List Item) (r : Token) (rs ts : List Token) → call_end.spells items (r ∷ rs ++ b ∷ ts) → is_only 123 r.text ≡ true
  unfolding call_end block
  begins items r rs ts (inl s) = absurd (let k = ap (λ (l : List Token). length l) s.holds.is in omega (arith, length-append rs (b ∷ ts)))
  begins items r rs ts (inr s) =
      let outer = s.holds in
      let pair = outer.first.holds in
      let open_ = pair.first.holds in
      let whole : r ∷ rs ++ b ∷ ts ≡ open_.token ∷ (pair.back ++ outer.back) = outer.is ∙ ap (λ (l : List Token). l ++ outer.back) (pair.is ∙ ap (λ (l : List Token). l ++ pair.back) open_.is) in
      let same : r ≡ open_.token = cc in
      ap (λ (t : Token). is_only 123 t.text) same ∙ ap (is_only 123) open_.text

  nothing_before : (items : List Item) (r ts : List Token) → Each IsPlainToken r → call_end.spells items (r ++ b ∷ ts) → r ≡ []
  nothing_before items [] ts e s = refl
  nothing_before items (r ∷ rs) ts e s = absurd (true≢false (sym (begins items r rs ts s) ∙ e.0))

  module _ (head : StilHead) (inside : Bool) (bs : List Token) (items : List Item) where
    by_scan : (word : Token) (us : List Token) (n : List ℕ × List Token) (o : Option Bool) → Each IsPlainToken n.1 → is_word word.text ≡ true → is_call word.text ≡ true → name_at us ≡ Some n → scans_by (callees head word.text) n.0 ≡ o
        → callee_shape head (n.1 ++ b ∷ bs) o ≡ Scan items → IsCallBefore head (word ∷ us)
    by_scan word us n None e w c m s h = absurd cc
    by_scan word us n (Some false) e w c m s h = absurd (not_scan _ items (no_other head (n.1 ++ b ∷ bs)) h)
    by_scan word us n (Some true) e w c m s h =
        let none = nothing_before items n.1 bs e ((items_law (n.1 ++ b ∷ bs) items).0 h) in
        record { word = word; behind = us; name = n.0; cut = refl; is_word_there = w; calls = c; named = m ∙ ap (λ (l : List Token). Some (n.0, l)) none; scan = s }

    by_name : (word : Token) (us : List Token) (o : Option (List ℕ × List Token)) → Each IsPlainToken us → is_word word.text ≡ true → is_call word.text ≡ true → name_at us ≡ o → call_shape head word.text (with_more o (b ∷ bs)) ≡ Scan items → IsCallBefore head (word ∷ us)
    by_name word us None e w c m h = absurd cc
    by_name word us (Some n) e w c m h =
        let t = name_tail us n m in
        by_scan word us n (scans_by (callees head word.text) n.0) (each_behind IsPlainToken t.0 n.1 (subst (Each IsPlainToken) t.1 e)) w c m refl h

    by_call : (word : Token) (us : List Token) (c : Bool) → Each IsPlainToken us → is_word word.text ≡ true → is_call word.text ≡ c → word_shape head inside word.text (us ++ b ∷ bs) ≡ Scan items → IsCallBefore head (word ∷ us)
    by_call word us false e w c h = absurd (not_scan _ items (no_word head inside word.text (us ++ b ∷ bs) c) h)
    by_call word us true e w c h =
        let k : call_shape head word.text (name_at (us ++ b ∷ bs)) ≡ Scan items = sym (ap (λ (t : Bool). cond t (call_shape head word.text (name_at (us ++ b ∷ bs))) (cond (bytes_eq word.text (codes "Loop")) (cond inside (other_shape head (us ++ b ∷ bs)) (loop_shape head (us ++ b ∷ bs))) (cond (passes_unread head word.text) (other_shape head (us ++ b ∷ bs)) Unsupported))) c) ∙ h in
        by_name word us (name_at us) e w c refl (ap (call_shape head word.text) (sym (name_on b bs brace us)) ∙ k)

    by_word : (word : Token) (us : List Token) (w : Bool) → Each IsPlainToken us → is_word word.text ≡ w → cond w (word_shape head inside word.text (us ++ b ∷ bs)) NoForm ≡ Scan items → IsCallBefore head (word ∷ us)
    by_word word us false e w h = absurd cc
    by_word word us true e w h = by_call word us (is_call word.text) e w refl h

    pub find_call : (us : List Token) → Each IsPlainToken us → unlabelled_shape head inside (us ++ b ∷ bs) ≡ Scan items → IsCallBefore head us
    find_call [] e h = absurd (let k : NoForm ≡ Scan items = sym (ap (λ (t : Bool). cond t (word_shape head inside b.text bs) NoForm) (ap is_word brace)) ∙ h in cc)
    find_call (word ∷ us) e h = by_word word us (is_word word.text) e.1 refl h

  -- and with another block beside another head with the same procedures and macros
  pub reads_call : (head other : StilHead) (inside : Bool) (us bs : List Token) → IsCallBefore head us → other.procedures ≡ head.procedures → other.macros ≡ head.macros → unlabelled_shape other inside (us ++ b ∷ bs) ≡ scan_shape (call_end.reads (b ∷ bs))
  reads_call head other inside us bs c p m =
      let same : callees other c.word.text ≡ callees head c.word.text =
      ap (λ (l : List Callee). cond (bytes_eq c.word.text (codes "Call")) l other.macros) p ∙ ap (λ (l : List Callee). cond (bytes_eq c.word.text (codes "Call")) head.procedures l) m in
      let scan : scans_by (callees other c.word.text) c.name ≡ Some true = ap (λ (l : List Callee). scans_by l c.name) same ∙ c.scan in
      let name : name_at (c.behind ++ b ∷ bs) ≡ Some (c.name, b ∷ bs) = name_on b bs brace c.behind ∙ ap (λ (o : Option (List ℕ × List Token)). with_more o (b ∷ bs)) c.named in
      ap (λ (l : List Token). unlabelled_shape other inside (l ++ b ∷ bs)) c.cut
      ∙ ap (λ (t : Bool). cond t (word_shape other inside c.word.text (c.behind ++ b ∷ bs)) NoForm) c.is_word_there
      ∙ ap (λ (t : Bool). cond t (call_shape other c.word.text (name_at (c.behind ++ b ∷ bs))) (cond (bytes_eq c.word.text (codes "Loop")) (cond inside (other_shape other (c.behind ++ b ∷ bs)) (loop_shape other (c.behind ++ b ∷ bs))) (cond (passes_unread other c.word.text) (other_shape other (c.behind ++ b ∷ bs)) Unsupported))) c.calls
      ∙ ap (call_shape other c.word.text) name
      ∙ ap (callee_shape other (b ∷ bs)) scan
