-- The form of a statement in the block of a Loop doesn't hang on its place.
use Rattle.std.proofs.Common.{◌≡◌, inl, inr, ℕ, zero, suc, ◌+◌, Bool, true, false, cond, eqb, ◌&&◌, ◌||◌, not, nat_eq, List, [], ◌∷◌, ◌++◌, length, codes, Option, Some, None, refl, ap, ◌∙◌, arith}
use Rattle.std.specs.Str.{bytes_eq}
use Rattle.std.proofs.lemmas.Bool.{cases_Bool, eqb-true}
use Rattle.token_forms.specs.Tokens.{Token}
use Rattle.token_forms.specs.Parsing.{◌>>=◌, word_at}
use Rattle.token_forms.specs.Classes.{Class, is_in, begins}
use Rattle.token_forms.specs.Forms.{Form, key, text_at, ◌&◌, made, ◌◂◌, ◌or◌, many_within, many_at, put_all, gathered_at, gathered}
use Rattle.stil_types.specs.declared.head.StilHead.{StilHead}
use Rattle.stil_tokens.specs.StilStatements.{is_only, token_ends, depth_behind, closed_in, is_closed}
use Rattle.stil_syntax.specs.declared.item.Item.{Item}
use Rattle.stil_syntax.specs.declared.shape.Shape.{Shape}
use Rattle.stil_syntax.specs.declared.shape.Shape.TheVariants.{NoForm, Unsupported, Other, Scan}
use Rattle.stil_syntax.specs.Names.{is_word, is_string, inner, string_at, name_at, name}
use Rattle.stil_syntax.specs.Grammar.{data_token, put_token, fresh_item, item, entry, put_entry, block, call_end}
use Rattle.stil_syntax.specs.Shapes.{colon_at, label_by, label_at, behind_within, behind_labels, closes_nothing, is_call, scans_by, callees, names_scan, calls_scan, is_scan_call, begins_behind, holds_scan, passes_unread, other_shape, scan_shape, callee_shape, call_shape, word_shape, unlabelled_shape, shape_of}
use Rattle.pattern_laws.specs.Laws.{token_on, tokens_on, ShiftLaw}

module _ (k : ℕ) where
  abbrev on : List Token → List Token
  on = tokens_on k

  -- a result, with what is left behind it so many bytes further on
  abbrev moved : {X : Type 0} → Option (X × List Token) → Option (X × List Token)
  moved None = None
  moved (Some p) = Some (p.0, on p.1)

  length_on : (ts : List Token) → length (on ts) ≡ length ts
  length_on [] = refl
  length_on (t ∷ ts) = ap (λ (n : ℕ). suc n) (length_on ts)

  beside : (a b : ℕ) → eqb (k + a) (k + b) ≡ eqb a b
  beside a b = elim (cases_Bool (eqb a b)) [
    | inl e ↦ (let q : a ≡ b = eqb-true a b e in let r : eqb (k + b) (k + b) ≡ eqb b b = grind arith in rw q r)
    | inr e ↦ grind (arith, e)
  ]

  -- a way of reading that doesn't hang on places
  abbrev IsEven : {X : Type 0} → (List Token → Option (X × List Token)) → Type 0
  IsEven reads = (ts : List Token) → reads (on ts) ≡ moved (reads ts)

  begins_on : (cs : List Class) (ts : List Token) → begins cs (on ts) ≡ begins cs ts
  begins_on cs [] = refl
  begins_on cs (t ∷ ts) = refl

  abbrev with_rest : {X : Type 0} → X → List Token → X × List Token
  with_rest x ts = (x, ts)

  one_as : {X : Type 0} (b : Bool) (x : X) (ts : List Token) → cond b (Some (with_rest x (on ts))) None ≡ moved (cond b (Some (with_rest x ts)) None)
  one_as true x ts = refl
  one_as false x ts = refl

  even_word : (w : List ℕ) → IsEven (word_at w)
  unfolding word_at
  even_word w [] = refl
  even_word w (t ∷ ts) = one_as {X = Unit {0}} (bytes_eq t.text w) tt ts

  even_text : (kind : Class) (test : List ℕ → Bool) → IsEven (text_at kind test)
  unfolding text_at
  even_text kind test [] = refl
  even_text kind test (t ∷ ts) = one_as {X = List ℕ} (is_in kind t.text && test t.text) t.text ts

  join_as : (b : Bool) (x y : List ℕ) (u : Token) (us : List Token) → cond b (with_rest x (on us)) (with_rest y (on (u ∷ us))) ≡ with_rest (cond b (with_rest x us) (with_rest y (u ∷ us))).0 (on (cond b (with_rest x us) (with_rest y (u ∷ us))).1)
  join_as true x y u us = refl
  join_as false x y u us = refl

  string_on : (t : Token) (ts : List Token) → string_at (token_on k t) (on ts) ≡ with_rest (string_at t ts).0 (on (string_at t ts).1)
  string_on t [] = refl
  string_on t (u ∷ us) = ap (λ (b : Bool). cond (is_word u.text && b) (with_rest (inner t.text ++ u.text) (on us)) (with_rest (inner t.text) (on (u ∷ us)))) (beside u.start t.end) ∙ join_as (is_word u.text && eqb u.start t.end) (inner t.text ++ u.text) (inner t.text) u us

  name_as : (w s : Bool) (x : List ℕ) (ts : List Token) (p q : List ℕ × List Token) → q ≡ with_rest p.0 (on p.1) → cond w (Some (with_rest x (on ts))) (cond s (Some q) None) ≡ moved (cond w (Some (with_rest x ts)) (cond s (Some p) None))
  name_as true s x ts p q e = refl
  name_as false true x ts p q e = ap (λ (r : List ℕ × List Token). Some r) e
  name_as false false x ts p q e = refl

  pub name_on : IsEven name_at
  unfolding name_at
  name_on [] = refl
  name_on (t ∷ ts) = name_as (is_word t.text) (is_string t.text) t.text ts (string_at t ts) (string_at (token_on k t) (on ts)) (string_on t ts)

  made_as : {A X : Type 0} (f : A → X) (o : Option (A × List Token)) → (moved o >>= λ p. Some (f p.0, p.1)) ≡ moved (o >>= λ p. Some (f p.0, p.1))
  made_as f None = refl
  made_as f (Some p) = refl

  even_made : {A X : Type 0} (f : A → X) (a : Form A) → IsEven a.reads → IsEven (made f a).reads
  even_made f a e ts = ap (λ o. o >>= λ p. Some (f p.0, p.1)) (e ts) ∙ made_as f (a.reads ts)

  and_as : {A B : Type 0} (x : A) (o : Option (B × List Token)) → (moved o >>= λ y. Some (with_rest {X = A × B} (x, y.0) y.1)) ≡ moved (o >>= λ y. Some (with_rest {X = A × B} (x, y.0) y.1))
  and_as x None = refl
  and_as x (Some y) = refl

  and_then : {A B : Type 0} (b : Form B) (o : Option (A × List Token)) → IsEven b.reads → (moved o >>= λ x. b.reads x.1 >>= λ y. Some (with_rest {X = A × B} (x.0, y.0) y.1)) ≡ moved (o >>= λ x. b.reads x.1 >>= λ y. Some (with_rest {X = A × B} (x.0, y.0) y.1))
  and_then {A} {B} b None e = refl
  and_then {A} {B} b (Some x) e = ap (λ o. o >>= λ y. Some (with_rest {X = A × B} (x.0, y.0) y.1)) (e x.1) ∙ and_as x.0 (b.reads x.1)

  even_and : {A B : Type 0} (a : Form A) (b : Form B) → IsEven a.reads → IsEven b.reads → IsEven (a & b).reads
  even_and {A} {B} a b e f ts = ap (λ o. o >>= λ x. b.reads x.1 >>= λ y. Some (with_rest {X = A × B} (x.0, y.0) y.1)) (e ts) ∙ and_then b (a.reads ts) f

  or_as : {X : Type 0} (t : Bool) (o p q r : Option (X × List Token)) → o ≡ moved q → p ≡ moved r → cond t o p ≡ moved (cond t q r)
  or_as true o p q r e f = e
  or_as false o p q r e f = f

  even_or : {X : Type 0} (a b : Form X) → IsEven a.reads → IsEven b.reads → IsEven (a or b).reads
  even_or a b e f ts = ap (λ (t : Bool). cond t (a.reads (on ts)) (b.reads (on ts))) (begins_on a.starts ts) ∙ or_as (begins a.starts ts) (a.reads (on ts)) (b.reads (on ts)) (a.reads ts) (b.reads ts) (e ts) (f ts)

  module _ {X : Type 0} (starts : List Class) (reads : List Token → Option (X × List Token)) (even : IsEven reads) where
    push_as : (x : X) (o : Option (List X × List Token)) → (moved o >>= λ xs. Some (x ∷ xs.0, xs.1)) ≡ moved (o >>= λ xs. Some (x ∷ xs.0, xs.1))
    push_as x None = refl
    push_as x (Some xs) = refl

    push_then : (n : ℕ) (o : Option (X × List Token)) → IsEven (many_within starts reads n)
        → (moved o >>= λ x. many_within starts reads n x.1 >>= λ xs. Some (x.0 ∷ xs.0, xs.1)) ≡ moved (o >>= λ x. many_within starts reads n x.1 >>= λ xs. Some (x.0 ∷ xs.0, xs.1))
    push_then n None e = refl
    push_then n (Some x) e = ap (λ o. o >>= λ xs. Some (x.0 ∷ xs.0, xs.1)) (e x.1) ∙ push_as x.0 (many_within starts reads n x.1)

    even_within : (n : ℕ) → IsEven (many_within starts reads n)
    unfolding many_within
    even_within zero ts = ap (λ (t : Bool). cond t None (Some ([], on ts))) (begins_on starts ts) ∙ or_as (begins starts ts) None (Some ([], on ts)) None (Some ([], ts)) refl refl
    even_within (suc n) ts =
        ap (λ (t : Bool). cond t (reads (on ts) >>= λ x. many_within starts reads n x.1 >>= λ xs. Some (x.0 ∷ xs.0, xs.1)) (Some ([], on ts))) (begins_on starts ts)
        ∙ or_as (begins starts ts) _ (Some ([], on ts)) (reads ts >>= λ x. many_within starts reads n x.1 >>= λ xs. Some (x.0 ∷ xs.0, xs.1)) (Some ([], ts))
        (ap (λ o. o >>= λ x. many_within starts reads n x.1 >>= λ xs. Some (x.0 ∷ xs.0, xs.1)) (even ts) ∙ push_then n (reads ts) (even_within n)) refl

    even_many : IsEven (many_at starts reads)
    unfolding many_at
    even_many ts = ap (λ (n : ℕ). many_within starts reads n (on ts)) (length_on ts) ∙ even_within (length ts) ts

  module _ {S X : Type 0} (put : S → X → Option S) (starts : List Class) (reads : List Token → Option (X × List Token)) (even : IsEven reads) where
    put_as : (rest : List Token) (o : Option S) → (o >>= λ t. Some (t, on rest)) ≡ moved (o >>= λ t. Some (t, rest))
    put_as rest None = refl
    put_as rest (Some t) = refl

    put_then : (s : S) (o : Option (List X × List Token)) → (moved o >>= λ p. put_all put s p.0 >>= λ t. Some (t, p.1)) ≡ moved (o >>= λ p. put_all put s p.0 >>= λ t. Some (t, p.1))
    put_then s None = refl
    put_then s (Some p) = put_as p.1 (put_all put s p.0)

    even_gathered_at : (s : S) → IsEven (gathered_at put starts reads s)
    unfolding gathered_at
    even_gathered_at s ts = ap (λ o. o >>= λ p. put_all put s p.0 >>= λ t. Some (t, p.1)) (even_many starts reads even ts) ∙ put_then s (many_at starts reads ts)

    start_then : (o : Option (S × List Token)) → (moved o >>= λ s. gathered_at put starts reads s.0 s.1) ≡ moved (o >>= λ s. gathered_at put starts reads s.0 s.1)
    start_then None = refl
    start_then (Some s) = even_gathered_at s.0 s.1

  even_gathered : {S X : Type 0} (start : Form S) (put : S → X → Option S) (piece : Form X) → IsEven start.reads → IsEven piece.reads → IsEven (gathered start put piece).reads
  even_gathered start put piece e f ts = ap (λ o. o >>= λ s. gathered_at put piece.starts piece.reads s.0 s.1) (e ts) ∙ start_then put piece.starts piece.reads f (start.reads ts)

  even_item : IsEven item.reads
  unfolding item
  even_item = even_made _ (gathered (made fresh_item (name ◂ "=")) put_token data_token & key ";")
      (even_and (gathered (made fresh_item (name ◂ "=")) put_token data_token) (key ";")
      (even_gathered (made fresh_item (name ◂ "=")) put_token data_token (even_made fresh_item (name ◂ "=") (even_made _ (name & key "=") (even_and name (key "=") name_on (even_word (codes "="))))) (even_text _ _))
      (even_word (codes ";")))

  even_entry : IsEven entry.reads
  unfolding entry
  even_entry = even_or (made (λ nothing. _) (key ";")) (made _ item) (even_made _ (key ";") (even_word (codes ";"))) (even_made _ item even_item)

  even_block : IsEven block.reads
  unfolding block
  even_block = even_made _ (gathered (made (λ nothing. []) (key "{")) put_entry entry & key "}")
      (even_and (gathered (made (λ nothing. []) (key "{")) put_entry entry) (key "}")
      (even_gathered (made (λ nothing. []) (key "{")) put_entry entry (even_made _ (key "{") (even_word (codes "{"))) even_entry)
      (even_word (codes "}")))

  even_end : IsEven call_end.reads
  unfolding call_end
  even_end = even_or (made (λ nothing. []) (key ";")) block (even_made _ (key ";") (even_word (codes ";"))) even_block

  -- labels
  and_on : Option (List Token) → Option (List Token)
  and_on None = None
  and_on (Some ts) = Some (on ts)

  colon_as : (b : Bool) (ts : List Token) → cond b (Some (on ts)) None ≡ and_on (cond b (Some ts) None)
  unfolding and_on
  colon_as true ts = refl
  colon_as false ts = refl

  colon_on : (ts : List Token) → colon_at (on ts) ≡ and_on (colon_at ts)
  unfolding and_on
  colon_on [] = refl
  colon_on (t ∷ ts) = colon_as (bytes_eq t.text (codes ":")) ts

  label_as : (o : Option (List ℕ × List Token)) → label_by (moved o) ≡ and_on (label_by o)
  unfolding and_on
  label_as None = refl
  label_as (Some n) = colon_on n.1

  label_on : (ts : List Token) → label_at (on ts) ≡ and_on (label_at ts)
  unfolding label_at
  label_on ts = ap label_by (name_on ts) ∙ label_as (name_at ts)

  abbrev next : ℕ → List Token → Option (List Token) → List Token
  next n ts o = elim o [ None ↦ ts | Some rest ↦ behind_within n rest ]

  next_as : (n : ℕ) (ts : List Token) (o : Option (List Token)) → ((r : List Token) → behind_within n (on r) ≡ on (behind_within n r)) → next n (on ts) (and_on o) ≡ on (next n ts o)
  unfolding and_on
  next_as n ts None more = refl
  next_as n ts (Some r) more = more r

  within_on : (n : ℕ) (ts : List Token) → behind_within n (on ts) ≡ on (behind_within n ts)
  unfolding behind_within
  within_on zero ts = refl
  within_on (suc n) ts = ap (next n (on ts)) (label_on ts) ∙ next_as n ts (label_at ts) (within_on n)

  labels_on : (ts : List Token) → behind_labels (on ts) ≡ on (behind_labels ts)
  labels_on ts = ap (λ (n : ℕ). behind_within n (on ts)) (length_on ts) ∙ within_on (length ts) ts

  -- what hangs on the texts alone
  pub closed_on : (c : Bool) (depth : ℕ) (ts : List Token) → closed_in c depth (on ts) ≡ closed_in c depth ts
  closed_on c depth [] = refl
  closed_on c depth (t ∷ ts) = closed_on (token_ends depth t.text) (depth_behind depth t.text) ts

  pub closes_on : (depth : ℕ) (ts : List Token) → closes_nothing depth (on ts) ≡ closes_nothing depth ts
  closes_on depth [] = refl
  closes_on depth (t ∷ ts) = ap (λ (b : Bool). (is_only 125 t.text && nat_eq depth 0) || b) (closes_on (depth_behind depth t.text) ts)

  module _ (head : StilHead) where
    names_as : (w : List ℕ) (o : Option (List ℕ × List Token)) → names_scan head w (moved o) ≡ names_scan head w o
    names_as w None = refl
    names_as w (Some n) = refl

    calls_on : (ts : List Token) → calls_scan head (on ts) ≡ calls_scan head ts
    calls_on [] = refl
    calls_on (t ∷ ts) = ap (λ (b : Bool). is_call t.text && b) (ap (names_scan head t.text) (name_on ts) ∙ names_as t.text (name_at ts))

    pub scan_call_on : (ts : List Token) → is_scan_call head (on ts) ≡ is_scan_call head ts
    scan_call_on ts = ap (calls_scan head) (labels_on ts) ∙ calls_on (behind_labels ts)

    holds_on : (begins : Bool) (ts : List Token) → holds_scan head begins (on ts) ≡ holds_scan head begins ts
    holds_on begins [] = refl
    holds_on begins (t ∷ ts) =
        ap (λ (b : Bool). (begins && b) || holds_scan head (begins_behind t.text) (on ts)) (scan_call_on (t ∷ ts))
        ∙ ap (λ (b : Bool). (begins && is_scan_call head (t ∷ ts)) || b) (holds_on (begins_behind t.text) ts)

    other_on : (ts : List Token) → other_shape head (on ts) ≡ other_shape head ts
    other_on ts = ap (λ (b : Bool). cond b Unsupported Other) (holds_on false ts)

    scan_as : (o : Option (List Item × List Token)) → scan_shape (moved o) ≡ scan_shape o
    scan_as None = refl
    scan_as (Some p) = ap (λ (n : ℕ). cond (eqb n 0) (Scan p.0) NoForm) (length_on p.1)

    callee_on : (ts : List Token) (o : Option Bool) → callee_shape head (on ts) o ≡ callee_shape head ts o
    callee_on ts None = refl
    callee_on ts (Some true) = ap scan_shape (even_end ts) ∙ scan_as (call_end.reads ts)
    callee_on ts (Some false) = other_on ts

    call_as : (w : List ℕ) (o : Option (List ℕ × List Token)) → call_shape head w (moved o) ≡ call_shape head w o
    call_as w None = refl
    call_as w (Some n) = callee_on n.1 (scans_by (callees head w) n.0)

    either : (t : Bool) (a b c d : Shape) → a ≡ c → b ≡ d → cond t a b ≡ cond t c d
    either true a b c d e f = e
    either false a b c d e f = f

    word_on : (w : List ℕ) (ts : List Token) → word_shape head true w (on ts) ≡ word_shape head true w ts
    word_on w ts =
        either (is_call w) _ _ _ _ (ap (call_shape head w) (name_on ts) ∙ call_as w (name_at ts))
        (either (bytes_eq w (codes "Loop")) _ _ _ _ (other_on ts) (either (passes_unread head w) _ _ _ _ (other_on ts) refl))

    unlabelled_on : (ts : List Token) → unlabelled_shape head true (on ts) ≡ unlabelled_shape head true ts
    unlabelled_on [] = refl
    unlabelled_on (t ∷ ts) = either (is_word t.text) _ NoForm _ NoForm (word_on t.text ts) refl

    shape_on : (ts : List Token) → shape_of head true (on ts) ≡ shape_of head true ts
    unfolding shape_of
    shape_on ts =
        ap (λ (b : Bool). cond (not b || closes_nothing 0 (on ts)) NoForm (unlabelled_shape head true (behind_labels (on ts)))) (closed_on false 0 ts)
        ∙ ap (λ (b : Bool). cond (not (is_closed ts) || b) NoForm (unlabelled_shape head true (behind_labels (on ts)))) (closes_on 0 ts)
        ∙ either (not (is_closed ts) || closes_nothing 0 ts) NoForm _ NoForm _ refl (ap (unlabelled_shape head true) (labels_on ts) ∙ unlabelled_on (behind_labels ts))

pub shift_law : ShiftLaw
shift_law k head ts = shape_on k head ts
