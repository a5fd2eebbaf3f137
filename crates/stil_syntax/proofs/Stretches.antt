-- Tokens at some spans, cut in two.
use Rattle.std.proofs.Common.{◌≡◌, ◌<◌, ◌-◌, ℕ, zero, suc, Bool, true, false, cond, ◌&&◌, ◌||◌, nat_eq, List, [], ◌∷◌, ◌++◌, length, take, drop, Some, refl, sym, ap, ◌∙◌, subst, arith}
use Rattle.std.proofs.lemmas.Option.{same_Some}
use Rattle.std.proofs.lemmas.Bool.{and_parts}
use Rattle.base_types.specs.declared.span.Span.{Span}
use Rattle.token_forms.specs.Tokens.{Token, token_of, tokens_of, AreSpansOf}
use Rattle.token_forms.proofs.Spelled.{choose}
use Rattle.stil_tokens.specs.StilStatements.{is_only, statements_within, stil_statements}
use Rattle.stil_syntax.specs.Names.{is_word, is_string, inner, string_at, name_at}
use Rattle.stil_types.specs.declared.head.StilHead.{StilHead}
use Rattle.stil_syntax.specs.Shapes.{before_block, behind_within, begins_behind, is_scan_call, holds_scan}

pub take_spans : (text : List ℕ) (n : ℕ) (ss : List Span) → tokens_of text (take n ss) ≡ take n (tokens_of text ss)
take_spans text zero ss = refl
take_spans text (suc n) [] = refl
take_spans text (suc n) (s ∷ ss) = ap (λ (l : List Token). token_of text s ∷ l) (take_spans text n ss)

pub drop_spans : (text : List ℕ) (n : ℕ) (ss : List Span) → tokens_of text (drop n ss) ≡ drop n (tokens_of text ss)
drop_spans text zero ss = refl
drop_spans text (suc n) [] = refl
drop_spans text (suc n) (s ∷ ss) = drop_spans text n ss

pub none_left : (ts : List Token) (n : ℕ) → (0 < length ts → 0 < n) → n ≡ 0 → stil_statements ts ≡ []
unfolding statements_within
none_left [] n some is = refl
none_left (t ∷ ts) n some is = let k = some (omega arith) in absurd (omega arith)

pub spans-rest : (text : List ℕ) (spans : List Span) (s : Span) (rest : List Span) → spans ≡ s ∷ rest → AreSpansOf text spans → AreSpansOf text rest
spans-rest text spans s rest e all = λ k d h.
    let each = subst (AreSpansOf text) e all in each (suc k) d (omega arith)

-- what is left behind a name are the last tokens
one_less : (t : Token) (ts r : List Token) → ts ≡ r → drop (length (t ∷ ts) - length r) (t ∷ ts) ≡ r
one_less t ts r e =
    let k : length (t ∷ ts) - length ts ≡ 1 = omega arith in
    subst (λ (l : List Token). drop (length (t ∷ ts) - length l) (t ∷ ts) ≡ l) e (rw k refl)

two_less : (t u : Token) (us r : List Token) → us ≡ r → drop (length (t ∷ u ∷ us) - length r) (t ∷ u ∷ us) ≡ r
two_less t u us r e =
    let k : length (t ∷ u ∷ us) - length us ≡ 2 = omega arith in
    subst (λ (l : List Token). drop (length (t ∷ u ∷ us) - length l) (t ∷ u ∷ us) ≡ l) e (rw k refl)

string-rest : (t : Token) (ts : List Token) (x : List ℕ) (r : List Token) → string_at t ts ≡ (x, r) → drop (length (t ∷ ts) - length r) (t ∷ ts) ≡ r
string-rest t [] x r e = one_less t [] r (ap (λ (p : List ℕ × List Token). p.1) e)
string-rest t (u ∷ us) x r e =
    choose (is_word u.text && nat_eq u.start t.end) (inner t.text ++ u.text, us) (inner t.text, u ∷ us) (x, r) e (λ j e. two_less t u us r (ap (λ (p : List ℕ × List Token). p.1) e)) (λ j e. one_less t (u ∷ us) r (ap (λ (p : List ℕ × List Token). p.1) e))

pub name-rest : (ts : List Token) (x : List ℕ) (r : List Token) → name_at ts ≡ Some (x, r) → drop (length ts - length r) ts ≡ r
unfolding name_at
name-rest [] x r e = absurd cc
name-rest (t ∷ ts) x r e =
    choose (is_word t.text) _ _ _ e (λ w e. one_less t ts r (ap (λ (p : List ℕ × List Token). p.1) (same_Some _ _ e)))
    (λ w e. choose (is_string t.text) _ _ _ e (λ s e. string-rest t ts x r (same_Some _ _ e)) (λ s e. absurd cc))

-- the tokens before a block are the first ones
before_by : (b : Bool) (t : Token) (ts : List Token) → take (length (before_block ts)) ts ≡ before_block ts → take (length (cond b [] (t ∷ before_block ts))) (t ∷ ts) ≡ cond b [] (t ∷ before_block ts)
before_by true t ts e = refl
before_by false t ts e = ap (λ (l : List Token). t ∷ l) e

pub before-take : (ts : List Token) → take (length (before_block ts)) ts ≡ before_block ts
before-take [] = refl
before-take (t ∷ ts) = before_by (is_only 123 t.text) t ts (before-take ts)

-- where a statement begins and is a scan call, one stands there
pub holds_here : (head : StilHead) (ts : List Token) (b : Bool) → b ≡ true → is_scan_call head ts ≡ true → true ≡ holds_scan head b ts
unfolding behind_within
holds_here head [] b e h = absurd cc
holds_here head (t ∷ ts) b e h = rw (e, h) refl

-- a scan call that begins here is held, and where none does, what is held stands behind the token
pub holds_found : (head : StilHead) (ts : List Token) (b x : Bool) → x ≡ (b && is_scan_call head ts) → x ≡ true → true ≡ holds_scan head b ts
holds_found head ts b x is sure = let k = and_parts b (is_scan_call head ts) (sym is ∙ sure) in holds_here head ts b k.0 k.1

pub holds_on : (head : StilHead) (ts rest : List Token) (t : Token) (b x next total : Bool) → ts ≡ t ∷ rest → x ≡ (b && is_scan_call head ts) → x ≡ false → next ≡ begins_behind t.text → holds_scan head b ts ≡ total
    → holds_scan head next rest ≡ total
holds_on head ts rest t b x next total cut is other behind e =
    ap (λ (n : Bool). holds_scan head n rest) behind
    ∙ ap (λ (k : Bool). k || holds_scan head (begins_behind t.text) rest) (sym other ∙ is ∙ ap (λ (l : List Token). b && is_scan_call head l) cut)
    ∙ ap (holds_scan head b) (sym cut) ∙ e
