-- Statements one behind the other, and in blocks.
use Rattle.std.proofs.Common.{◌≡◌, ℕ, zero, suc, ◌+◌, ◌-◌, ◌<◌, ◌≤◌, Bool, true, false, ◌&&◌, ◌||◌, not, cond, inl, inr, List, [], ◌∷◌, ◌++◌, length, take, drop, map, filter, refl, sym, ap, ◌∙◌, subst, arith, append_assoc, length-drop}
use Rattle.std.specs.List.{AllByRecursion as Each}
use Rattle.std.proofs.lemmas.Bool.{cases_Bool, true≢false}
use Rattle.std.proofs.lemmas.List.{drop_all, append-nil}
use Rattle.token_forms.specs.Tokens.{Token}
use Rattle.token_forms.specs.Classes.{is_among}
use Rattle.stil_tokens.specs.StilStatements.{is_only, token_ends, depth_behind, closed_in, is_closed, len_in, statement_len, statements_within, stil_statements}
use Rattle.stil_tokens.proofs.StilCuts.{first_law, statement_len-le}
use Rattle.stil_syntax.specs.Shapes.{is_empty, body_statements, behind_brace, in_block}
use Rattle.stil_blocks.specs.Statements.{statements_in}
use Rattle.head_alike.specs.Steps.{Step, Keep, Anew, olds, news, AreSteps, AreFree, starts_behind, changed_words}
use Rattle.head_alike.specs.Laws.{IsOne}
use Rattle.head_alike.specs.Trees.{joined, IsStatement, counted, JoinedLaw, IsLead, block_steps, InnerLaw}
use Rattle.head_alike.specs.Erased.{erased_from, ErasedLaw}
use Rattle.head_alike.proofs.Words.{free_word}
use Rattle.head_alike.proofs.Cuts.{len_here, len_later, Cut, cut, closed_same}
use Rattle.head_alike.proofs.Rows.{old_rows, new_rows}
use Rattle.head_alike.proofs.Names.{old_length, over_length}

-- all but the last, and what stands behind a brace
pub but_last : (xs : List Token) (t : Token) → take (length (xs ++ t ∷ []) - 1) (xs ++ t ∷ []) ≡ xs
but_last [] t = let e : length (t ∷ []) - 1 ≡ zero = omega arith in ap (λ (n : ℕ). take n (t ∷ [])) e
but_last (x ∷ xs) t =
    let some = over_length xs t [] in
    let a = length_one xs t in
    let e : length (x ∷ (xs ++ t ∷ [])) - 1 ≡ suc (length (xs ++ t ∷ []) - 1) = omega (arith, a) in
    ap (λ (n : ℕ). take n (x ∷ (xs ++ t ∷ []))) e ∙ ap (λ (l : List Token). x ∷ l) (but_last xs t)
  where
    length_one : (xs : List Token) (t : Token) → length (xs ++ t ∷ []) ≡ length xs + 1
    length_one [] t = omega arith
    length_one (x ∷ xs) t = let k = length_one xs t in omega (arith, k)

pub brace_here : (t : Token) (ts : List Token) → is_only 123 t.text ≡ true → behind_brace (t ∷ ts) ≡ ts
brace_here t ts e = ap (λ (b : Bool). cond b ts (behind_brace ts)) e

pub brace_later : (t : Token) (ts : List Token) → is_only 123 t.text ≡ false → behind_brace (t ∷ ts) ≡ behind_brace ts
brace_later t ts e = ap (λ (b : Bool). cond b ts (behind_brace ts)) e

pub no_steps : (allow : Bool) (s : List Step) → length (olds s) ≡ 0 → s ≡ []
no_steps allow [] e = refl
no_steps allow (p ∷ s) e = let k = old_length (p ∷ s) in absurd (omega (arith, k, e))

-- both tokens of joined steps
pub old_append : (r s : List Step) → olds (r ++ s) ≡ olds r ++ olds s
old_append [] s = refl
old_append (Keep t u ∷ r) s = ap (λ (l : List Token). t ∷ l) (old_append r s)
old_append (Anew t u xs ys c d ∷ r) s = ap (λ (l : List Token). t ∷ (xs ++ c ∷ l)) (old_append r s) ∙ ap (λ (l : List Token). t ∷ l) (sym (append_assoc xs (c ∷ olds r) (olds s)))

pub new_append : (r s : List Step) → news (r ++ s) ≡ news r ++ news s
new_append [] s = refl
new_append (Keep t u ∷ r) s = ap (λ (l : List Token). u ∷ l) (new_append r s)
new_append (Anew t u xs ys c d ∷ r) s = ap (λ (l : List Token). u ∷ (ys ++ d ∷ l)) (new_append r s) ∙ ap (λ (l : List Token). u ∷ l) (sym (append_assoc ys (d ∷ news r) (news s)))

-- a statement with its end is the first, whatever follows
len_append : (depth : ℕ) (ts us : List Token) → closed_in false depth ts ≡ true → len_in depth ts ≡ length ts → len_in depth (ts ++ us) ≡ length ts
len_append depth [] us closed len = absurd cc
len_append depth (t ∷ ts) us closed len = elim (cases_Bool (token_ends depth t.text)) [
  | inl e ↦ len_here depth t (ts ++ us) e ∙ sym (len_here depth t ts e) ∙ len
  | inr e ↦
      let a = len_later depth t ts e in
      let more : len_in (depth_behind depth t.text) ts ≡ length ts = omega (arith, a, len) in
      let rest : closed_in false (depth_behind depth t.text) ts ≡ true = ap (λ (b : Bool). closed_in b (depth_behind depth t.text) ts) (sym e) ∙ closed in
      len_later depth t (ts ++ us) e ∙ ap suc (len_append (depth_behind depth t.text) ts us rest more)
]

pub take_first : (ts us : List Token) → take (length ts) (ts ++ us) ≡ ts
take_first [] us = refl
take_first (t ∷ ts) us = ap (λ (l : List Token). t ∷ l) (take_first ts us)

pub drop_first : (ts us : List Token) → drop (length ts) (ts ++ us) ≡ us
drop_first [] us = refl
drop_first (t ∷ ts) us = drop_first ts us

pub first_is : (ts us : List Token) → closed_in false 0 ts ≡ true → len_in 0 ts ≡ length ts → stil_statements (ts ++ us) ≡ ts ∷ stil_statements us
first_is [] us closed len = absurd cc
first_is (t ∷ ts) us closed len =
    let e = len_append 0 (t ∷ ts) us closed len in
    first_law t (ts ++ us) ∙ ap (λ (n : ℕ). take n (t ∷ (ts ++ us)) ∷ stil_statements (drop n (t ∷ (ts ++ us)))) e
    ∙ ap (λ (l : List Token). l ∷ stil_statements (drop (length (t ∷ ts)) (t ∷ (ts ++ us)))) (take_first (t ∷ ts) us) ∙ ap (λ (l : List Token). (t ∷ ts) ∷ stil_statements l) (drop_first (t ∷ ts) us)

-- what is written for one statement is one
pub one_new : (r : List Step) → AreSteps true true r → IsOne r → len_in 0 (news r) ≡ length (news r)
one_new r are one =
    let c = cut true true 0 r are in
    let none : olds c.rest ≡ [] = sym c.old_rest ∙ ap (λ (n : ℕ). drop n (olds r)) one ∙ drop_all (length (olds r)) (olds r) (omega arith) in
    let rest = no_steps true c.rest (ap length none) in
    let empty : drop (len_in 0 (news r)) (news r) ≡ [] = c.new_rest ∙ ap news rest in
    let size : length (news r) - len_in 0 (news r) ≡ 0 = sym (length-drop (len_in 0 (news r)) (news r)) ∙ ap length empty in
    let most = statement_len-le (news r) in
    omega (arith, size, most)

pub no_statements : stil_statements [] ≡ []
unfolding statements_within
no_statements = refl

pub old_joined : (rows : List (List Step)) → Each IsStatement rows → stil_statements (olds (joined rows)) ≡ map olds rows
old_joined [] each = no_statements
old_joined (r ∷ rows) each =
    ap stil_statements (old_append r (joined rows)) ∙ first_is (olds r) (olds (joined rows)) each.0.closed each.0.one ∙ ap (λ (l : List (List Token)). olds r ∷ l) (old_joined rows each.1)

pub new_joined : (rows : List (List Step)) → Each IsStatement rows → stil_statements (news (joined rows)) ≡ map news rows
new_joined [] each = no_statements
new_joined (r ∷ rows) each =
    ap stil_statements (new_append r (joined rows))
    ∙ first_is (news r) (news (joined rows)) (sym (closed_same true true false 0 r each.0.steps) ∙ each.0.closed) (one_new r each.0.steps each.0.one)
    ∙ ap (λ (l : List (List Token)). news r ∷ l) (new_joined rows each.1)

pub each_steps : (rows : List (List Step)) → Each IsStatement rows → Each (AreSteps true true) rows
each_steps [] each = tt
each_steps (r ∷ rows) each = (each.0.steps, each_steps rows each.1)

pub joined_law : JoinedLaw
joined_law rows each = (
  ap (λ (l : List (List Token)). filter (λ s. not (is_empty s)) l) (old_joined rows each) ∙ old_rows rows,
  ap (λ (l : List (List Token)). filter (λ s. not (is_empty s)) l) (new_joined rows each) ∙ new_rows true rows (each_steps rows each),
)

-- blocks
pub old_lead : (lead s : List Step) → IsLead lead → behind_brace (olds (lead ++ s)) ≡ behind_brace (olds s)
old_lead [] s is = refl
old_lead (Keep t u ∷ lead) s is = brace_later t (olds (lead ++ s)) is.1 ∙ old_lead lead s is.2
old_lead (Anew t u xs ys c d ∷ lead) s is = absurd is

pub new_lead : (lead s : List Step) → IsLead lead → behind_brace (news (lead ++ s)) ≡ behind_brace (news s)
new_lead [] s is = refl
new_lead (Keep t u ∷ lead) s is = brace_later u (news (lead ++ s)) (ap (is_only 123) (sym is.0) ∙ is.1) ∙ new_lead lead s is.2
new_lead (Anew t u xs ys c d ∷ lead) s is = absurd is

abbrev init_of : List Token → List Token
init_of ts = take (length ts - 1) ts

pub inner_law : InnerLaw
inner_law lead t u v w rows is t_is u_is each =
    let inner = Keep t u ∷ (joined rows ++ Keep v w ∷ []) in
    let j = joined_law rows each in
    let a : in_block (olds (lead ++ inner)) ≡ olds (joined rows) =
    ap init_of (old_lead lead inner is ∙ brace_here t (olds (joined rows ++ Keep v w ∷ [])) (ap (is_only 123) t_is) ∙ old_append (joined rows) (Keep v w ∷ [])) ∙ but_last (olds (joined rows)) v in
    let b : in_block (news (lead ++ inner)) ≡ news (joined rows) =
    ap init_of (new_lead lead inner is ∙ brace_here u (news (joined rows ++ Keep v w ∷ [])) (ap (is_only 123) u_is) ∙ new_append (joined rows) (Keep v w ∷ [])) ∙ but_last (news (joined rows)) w in
    (ap body_statements a ∙ j.0, ap body_statements b ∙ j.1)

-- equal tokens
semicolon_kept : (b : Bool) (c : Token) (ts : List Token) → c.text ≡ 59 ∷ [] → erased_from b true (c ∷ ts) ≡ (59 ∷ []) ∷ erased_from true false ts
semicolon_kept true c ts e = ap (λ (w : List ℕ). cond (true && not (starts_behind w)) (erased_from false true ts) (w ∷ erased_from (starts_behind w) (true && is_among changed_words w) ts)) e
semicolon_kept false c ts e = ap (λ (w : List ℕ). cond (true && not (starts_behind w)) (erased_from false true ts) (w ∷ erased_from (starts_behind w) (false && is_among changed_words w) ts)) e

skip_over : (xs : List Token) (c : Token) (ts : List Token) (b : Bool) → AreFree xs → c.text ≡ 59 ∷ [] → erased_from b true (xs ++ c ∷ ts) ≡ (59 ∷ []) ∷ erased_from true false ts
skip_over [] c ts b f e = semicolon_kept b c ts e
skip_over (x ∷ xs) c ts b f e =
    ap (λ (k : Bool). cond (not k) (erased_from false true (xs ++ c ∷ ts)) (x.text ∷ erased_from k (b && is_among changed_words x.text) (xs ++ c ∷ ts))) f.0 ∙ skip_over xs c ts false f.1 e

word_erased : (t : Token) (xs : List Token) (c : Token) (ts : List Token) → is_among changed_words t.text ≡ true → AreFree xs → c.text ≡ 59 ∷ [] → erased_from true false (t ∷ (xs ++ c ∷ ts)) ≡ t.text ∷ (59 ∷ []) ∷ erased_from true false ts
word_erased t xs c ts which f e =
    ap (λ (k : Bool). t.text ∷ erased_from (starts_behind t.text) k (xs ++ c ∷ ts)) which
    ∙ ap (λ (l : List (List ℕ)). t.text ∷ l) (skip_over xs c ts (starts_behind t.text) f e)

keeps : (k : Bool) (a b x y : List (List ℕ)) → (k ≡ true → a ≡ x) → (k ≡ false → b ≡ y) → cond k a b ≡ cond k x y
keeps true a b x y f g = f refl
keeps false a b x y f g = g refl

right_of : (a b : Bool) → (a && not b) ≡ true → b ≡ false
right_of true true e = absurd cc
right_of true false e = refl
right_of false b e = absurd cc

changed_free : (w : List ℕ) (b : Bool) → (b && is_among changed_words w) ≡ true → starts_behind w ≡ false
changed_free w true e = free_word w e
changed_free w false e = absurd cc

erased_same : (s : List Step) (begins skips : Bool) → AreSteps true begins s → (skips ≡ true → begins ≡ false) → erased_from begins skips (olds s) ≡ erased_from begins skips (news s)
erased_same [] begins skips are far = refl
erased_same (Keep t u ∷ s) begins skips are far =
    keeps (skips && not (starts_behind t.text)) _ _ (erased_from false true (news s)) (t.text ∷ erased_from (starts_behind t.text) (begins && is_among changed_words t.text) (news s))
    (λ e. erased_same s false true (subst (λ (b : Bool). AreSteps true b s) (right_of skips (starts_behind t.text) e) are.2) (λ k. refl))
    (λ e. ap (λ (l : List (List ℕ)). t.text ∷ l) (erased_same s (starts_behind t.text) (begins && is_among changed_words t.text) are.2 (λ k. changed_free t.text begins k)))
    ∙ ap (λ (w : List ℕ). cond (skips && not (starts_behind w)) (erased_from false true (news s)) (w ∷ erased_from (starts_behind w) (begins && is_among changed_words w) (news s))) are.0
erased_same (Anew t u xs ys c d ∷ s) begins skips are far =
    let is = are.0 in
    let none : skips ≡ false = elim (cases_Bool skips) [ inl e ↦ absurd (true≢false (sym is.first ∙ far e)) | inr e ↦ e ] in
    let which : is_among changed_words u.text ≡ true = ap (is_among changed_words) (sym is.word) ∙ is.which in
    let modes = λ (ts : List Token). ap (λ (b : Bool). erased_from b skips ts) is.first ∙ ap (λ (b : Bool). erased_from true b ts) none in
    modes (t ∷ (xs ++ c ∷ olds s)) ∙ word_erased t xs c (olds s) is.which is.old_free is.old_end
    ∙ ap (λ (l : List (List ℕ)). t.text ∷ (59 ∷ []) ∷ l) (erased_same s true false are.1 (λ e. absurd (true≢false (sym e))))
    ∙ ap (λ (w : List ℕ). w ∷ (59 ∷ []) ∷ erased_from true false (news s)) is.word
    ∙ sym (modes (u ∷ (ys ++ d ∷ news s)) ∙ word_erased u ys d (news s) which is.new_free is.new_end)

pub erased_law : ErasedLaw
erased_law begins s are = erased_same s begins false are (λ e. absurd (true≢false (sym e)))
