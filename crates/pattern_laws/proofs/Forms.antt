-- What makes a statement a Loop: the word, the number and the statements of its block.
use Rattle.std.proofs.Common.{◌≡◌, ℕ, ◌-◌, Bool, true, false, cond, List, [], ◌∷◌, ◌++◌, length, take, codes, Option, Some, None, refl, sym, ap, ◌∙◌, subst, arith, length-append}
use Rattle.std.specs.List.{AllByRecursion as Each, list_any}
use Rattle.std.specs.Str.{bytes_eq}
use Rattle.std.proofs.lemmas.Bool.{true≢false}
use Rattle.std.proofs.Math.Seq.{take-append_seam}
use Rattle.token_forms.specs.Tokens.{Token}
use Rattle.stil_tokens.specs.StilStatements.{is_only, statements_within, stil_statements}
use Rattle.stil_types.specs.declared.head.StilHead.{StilHead}
use Rattle.stil_syntax.specs.declared.item.Item.{Item}
use Rattle.stil_syntax.specs.declared.shape.Shape.{Shape}
use Rattle.stil_syntax.specs.declared.shape.Shape.TheVariants.{NoForm, Unsupported, Other, Scan, Loop}
use Rattle.stil_syntax.specs.Names.{is_word, name_at}
use Rattle.stil_syntax.specs.Grammar.{call_end}
use Rattle.stil_syntax.specs.Shapes.{is_call, is_scan_call, holds_scan, scans_by, callees, passes_unread, other_shape, scan_shape, callee_shape, call_shape, before_block, behind_brace, in_block, loop_times, loop_by, loop_shape, word_shape, unlabelled_shape, behind_labels}
use Rattle.stil_syntax.proofs.Labelled.{labels_law}
use Rattle.stil_writer.specs.Calls.{brace_end}
use Rattle.stil_writer.proofs.Transfer.{IsPlainToken, each_behind}
use Rattle.pattern_laws.proofs.Blocks.{none_plain}

-- no Loop
abbrev IsNoLoop : Shape → Type 0
IsNoLoop NoForm = Unit {0}
IsNoLoop Unsupported = Unit {0}
IsNoLoop Other = Unit {0}
IsNoLoop (Scan items) = Unit {0}
IsNoLoop (Loop times body) = ⊥

record NoLoop (s : Shape) : Type 0 where
  is : IsNoLoop s

not_loop : (s : Shape) (times : ℕ) (body : List Token) → NoLoop s → s ≡ Loop times body → ⊥
not_loop s times body n e = let k = subst (λ (x : Shape). NoLoop x) e n in k.is

either : (t : Bool) (a b : Shape) → NoLoop a → NoLoop b → NoLoop (cond t a b)
either true a b x y = x
either false a b x y = y

no_other : (head : StilHead) (ts : List Token) → NoLoop (other_shape head ts)
no_other head ts = either (holds_scan head false ts) _ _ (record { is = tt }) (record { is = tt })

no_scan : (o : Option (List Item × List Token)) → NoLoop (scan_shape o)
no_scan None = record { is = tt }
no_scan (Some (items, [])) = record { is = tt }
no_scan (Some (items, t ∷ ts)) = either _ (Scan items) NoForm (record { is = tt }) (record { is = tt })

no_callee : (head : StilHead) (ts : List Token) (o : Option Bool) → NoLoop (callee_shape head ts o)
no_callee head ts None = record { is = tt }
no_callee head ts (Some true) = no_scan (call_end.reads ts)
no_callee head ts (Some false) = no_other head ts

no_call : (head : StilHead) (w : List ℕ) (o : Option (List ℕ × List Token)) → NoLoop (call_shape head w o)
no_call head w None = record { is = tt }
no_call head w (Some n) = no_callee head n.1 (scans_by (callees head w) n.0)

-- what makes the tokens behind the labels a Loop
pub record IsLoop (head : StilHead) (ts : List Token) (times : ℕ) (body : List Token) : Type 0 where
  pub word : Token
  pub behind : List Token
  pub cut : ts ≡ word ∷ behind
  pub is_word_there : is_word word.text ≡ true
  pub calls : is_call word.text ≡ false
  pub loops : bytes_eq word.text (codes "Loop") ≡ true
  pub any : list_any (is_scan_call head) (stil_statements (in_block behind)) ≡ true
  pub times_is : loop_times (before_block behind) ≡ Some times
  pub is : body ≡ in_block behind

by_times : (o : Option ℕ) (b : List Token) (times : ℕ) (body : List Token) → loop_by o b ≡ Loop times body → (o ≡ Some times) × (body ≡ b)
by_times None b times body e = absurd cc
by_times (Some n) b times body e = let k : n ≡ times = cc in let m : b ≡ body = cc in (ap (λ (i : ℕ). Some i) k, sym m)

module _ (head : StilHead) (times : ℕ) (body : List Token) where
  by_any : (us : List Token) (a : Bool) → cond a (loop_by (loop_times (before_block us)) (in_block us)) (other_shape head us) ≡ Loop times body → (a ≡ true) × (loop_times (before_block us) ≡ Some times) × (body ≡ in_block us)
  by_any us false e = absurd (not_loop _ times body (no_other head us) e)
  by_any us true e = let b = by_times (loop_times (before_block us)) (in_block us) times body e in (refl, b.0, b.1)

  by_passing : (us : List Token) (b : Bool) → cond b (other_shape head us) Unsupported ≡ Loop times body → ⊥
  by_passing us b e = not_loop _ times body (either b _ _ (no_other head us) (record { is = tt })) e

  by_word : (w : List ℕ) (us : List Token) (c l : Bool) → cond c (call_shape head w (name_at us)) (cond l (loop_shape head us) (cond (passes_unread head w) (other_shape head us) Unsupported)) ≡ Loop times body
      → (c ≡ false) × (l ≡ true) × (loop_shape head us ≡ Loop times body)
  by_word w us true l e = absurd (not_loop _ times body (no_call head w (name_at us)) e)
  by_word w us false false e = absurd (by_passing us (passes_unread head w) e)
  by_word w us false true e = (refl, refl, e)

  by_first : (t : Token) (us : List Token) (w : Bool) → cond w (word_shape head false t.text us) NoForm ≡ Loop times body → (w ≡ true) × (word_shape head false t.text us ≡ Loop times body)
  by_first t us false e = absurd cc
  by_first t us true e = (refl, e)

  pub find_loop : (ts : List Token) → unlabelled_shape head false ts ≡ Loop times body → IsLoop head ts times body
  find_loop [] e = absurd cc
  find_loop (t ∷ us) e =
      let a = by_first t us (is_word t.text) e in
      let b = by_word t.text us (is_call t.text) (bytes_eq t.text (codes "Loop")) a.1 in
      let c = by_any us (list_any (is_scan_call head) (stil_statements (in_block us))) b.2 in
      record { word = t; behind = us; cut = refl; is_word_there = a.0; calls = b.0; loops = b.1; any = c.0; times_is = c.1; is = c.2 }

-- and back
pub make_loop : (head : StilHead) (word : Token) (us : List Token) (times : ℕ) → is_word word.text ≡ true → is_call word.text ≡ false → bytes_eq word.text (codes "Loop") ≡ true
    → list_any (is_scan_call head) (stil_statements (in_block us)) ≡ true → loop_times (before_block us) ≡ Some times → unlabelled_shape head false (word ∷ us) ≡ Loop times (in_block us)
make_loop head word us times w c l a n =
    let text = word.text in
    ap (λ (t : Bool). cond t (word_shape head false text us) NoForm) w
    ∙ ap (λ (t : Bool). cond t (call_shape head text (name_at us)) (cond (bytes_eq text (codes "Loop")) (loop_shape head us) (cond (passes_unread head text) (other_shape head us) Unsupported))) c
    ∙ ap (λ (t : Bool). cond t (loop_shape head us) (cond (passes_unread head text) (other_shape head us) Unsupported)) l
    ∙ ap (λ (t : Bool). cond t (loop_by (loop_times (before_block us)) (in_block us)) (other_shape head us)) a
    ∙ ap (λ (o : Option ℕ). loop_by o (in_block us)) n

-- the tokens before the brace, and behind it
pub before_plain : (us : List Token) (b : Token) (ts : List Token) → Each IsPlainToken us → b.text ≡ 123 ∷ [] → before_block (us ++ b ∷ ts) ≡ us
before_plain [] b ts e brace = ap (λ (w : List ℕ). cond (is_only 123 w) [] (b ∷ before_block ts)) brace
before_plain (u ∷ us) b ts e brace = ap (λ (t : Bool). cond t [] (u ∷ before_block (us ++ b ∷ ts))) e.0 ∙ ap (λ (l : List Token). u ∷ l) (before_plain us b ts e.1 brace)

pub behind_plain : (us : List Token) (b : Token) (ts : List Token) → Each IsPlainToken us → b.text ≡ 123 ∷ [] → behind_brace (us ++ b ∷ ts) ≡ ts
behind_plain [] b ts e brace = ap (λ (w : List ℕ). cond (is_only 123 w) ts (behind_brace ts)) brace
behind_plain (u ∷ us) b ts e brace = ap (λ (t : Bool). cond t (us ++ b ∷ ts) (behind_brace (us ++ b ∷ ts))) e.0 ∙ behind_plain us b ts e.1 brace

-- the block, where its brace stands last
pub block_in : (us : List Token) (b c : Token) (ts : List Token) → Each IsPlainToken us → b.text ≡ 123 ∷ [] → in_block (us ++ b ∷ (ts ++ c ∷ [])) ≡ ts
block_in us b c ts e brace =
    let n : length (ts ++ c ∷ []) - 1 ≡ length ts = omega (arith, length-append ts (c ∷ [])) in
    ap (λ (l : List Token). take (length l - 1) l) (behind_plain us b (ts ++ c ∷ []) e brace) ∙ ap (λ (k : ℕ). take k (ts ++ c ∷ [])) n ∙ take-append_seam ts (c ∷ [])

-- without a brace there is no block
no_behind : (us : List Token) → Each IsPlainToken us → behind_brace us ≡ []
no_behind [] e = refl
no_behind (u ∷ us) e = ap (λ (t : Bool). cond t us (behind_brace us)) e.0 ∙ no_behind us e.1

none_there : stil_statements [] ≡ []
unfolding statements_within
none_there = refl

no_block : (us : List Token) → Each IsPlainToken us → stil_statements (in_block us) ≡ []
no_block us e = ap (λ (l : List Token). stil_statements (take (length l - 1) l)) (no_behind us e) ∙ none_there

brace_as : (head : StilHead) (ts : List Token) (times : ℕ) (body : List Token) (o : Option ℕ) → IsLoop head (behind_labels ts) times body → brace_end ts ≡ o → (n : ℕ) × (o ≡ Some n)
brace_as head ts times body (Some n) l e = (n, refl)
brace_as head ts times body None l e =
    let h = labels_law ts in
    let plain = each_behind IsPlainToken h.stand.front (behind_labels ts) (subst (Each IsPlainToken) h.stand.is (none_plain ts e)) in
    let more : Each IsPlainToken (l.word ∷ l.behind) = subst (Each IsPlainToken) l.cut plain in
    absurd (true≢false (sym l.any ∙ ap (list_any (is_scan_call head)) (no_block l.behind more.1)))

-- a Loop has a brace
pub has_brace : (head : StilHead) (ts : List Token) (times : ℕ) (body : List Token) → IsLoop head (behind_labels ts) times body → (n : ℕ) × (brace_end ts ≡ Some n)
has_brace head ts times body l = brace_as head ts times body (brace_end ts) l refl
