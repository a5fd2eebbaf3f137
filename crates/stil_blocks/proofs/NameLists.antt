-- The names among tokens, one more, and those of a statement.
use Rattle.std.proofs.Common.{◌≡◌, ℕ, suc, ◌+◌, ◌-◌, ◌<◌, Bool, true, false, cond, List, [], ◌∷◌, ◌++◌, length, drop, codes, Option, Some, None, refl, sym, ap, ◌∙◌, arith}
use Rattle.std.specs.Prelude.{Result, Ok, Err, OnOk}
use Rattle.std.proofs.lemmas.List.{append_assoc}
use Rattle.base_types.specs.Names.{plain_name}
use Rattle.token_forms.specs.Tokens.{Token}
use Rattle.stil_syntax.specs.Names.{name_at}
use Rattle.stil_blocks.specs.Statements.{has_word, behind_word}
use Rattle.stil_blocks.specs.Callees.{names_within, statement_keywords}

within_next : (n : ℕ) (ts : List Token) (o : Option (List ℕ × List Token)) → name_at ts ≡ o
    → names_within (suc n) ts ≡ elim o [ None ↦ names_within n (drop 1 ts) | Some name ↦ plain_name name.0 ∷ names_within n name.1 ]
unfolding names_within
within_next n ts o e = rw (e, names_within) refl

within_zero : (ts : List Token) → names_within 0 ts ≡ []
unfolding names_within
within_zero ts = refl

one : (n : ℕ) (ts : List Token) → names_within (n + 1) ts ≡ names_within (suc n) ts
one n ts = let e : n + 1 ≡ suc n = omega arith in ap (λ (k : ℕ). names_within k ts) e

pub name_some : (n : ℕ) (names now : List (List ℕ)) (ts before rest : List Token) (x copy : List ℕ) → before ≡ ts → name_at before ≡ Some (x, rest) → copy ≡ plain_name x → now ≡ names ++ copy ∷ []
    → now ++ names_within n rest ≡ names ++ names_within (n + 1) ts
name_some n names now ts before rest x copy same e is put =
    let next : names_within (n + 1) ts ≡ plain_name x ∷ names_within n rest = one n ts ∙ within_next n ts (Some (x, rest)) (ap name_at (sym same) ∙ e) in
    rw (put, is, next) (append_assoc names (plain_name x ∷ []) (names_within n rest))

pub name_none : (n : ℕ) (names : List (List ℕ)) (ts before rest : List Token) → before ≡ ts → name_at before ≡ None → rest ≡ drop 1 ts → names ++ names_within n rest ≡ names ++ names_within (n + 1) ts
name_none n names ts before rest same e left =
    let next : names_within (n + 1) ts ≡ names_within n (drop 1 ts) = one n ts ∙ within_next n ts None (ap name_at (sym same) ∙ e) in
    rw (left, next) refl

pub names_more : (left : ℕ) (old new : List (List ℕ)) (ts rest : List Token) (total : List (List ℕ)) → 0 < left → ((n : ℕ) → new ++ names_within n rest ≡ old ++ names_within (n + 1) ts)
    → old ++ names_within left ts ≡ total → new ++ names_within (left - 1) rest ≡ total
names_more left old new ts rest total some step e =
    let s : left - 1 + 1 ≡ left = omega arith in
    step (left - 1) ∙ ap (λ (k : ℕ). old ++ names_within k ts) s ∙ e

append_none : (ys : List (List ℕ)) → ys ++ [] ≡ ys
append_none [] = refl
append_none (y ∷ ys) = ap (λ (l : List (List ℕ)). y ∷ l) (append_none ys)

pub names_last : (left : ℕ) (names total : List (List ℕ)) (ts : List Token) → left ≡ 0 → names ++ names_within left ts ≡ total → names ≡ total
names_last left names total ts none e =
    sym (append_none names) ∙ ap (λ (l : List (List ℕ)). names ++ l) (sym (ap (λ (k : ℕ). names_within k ts) none ∙ within_zero ts)) ∙ e

-- another statement than UserKeywords adds no name
pub keywords_none : (names : List (List ℕ)) (s : List Token) (h : Bool) → h ≡ has_word (codes "UserKeywords") s → h ≡ false → names ≡ names ++ statement_keywords s
unfolding statement_keywords
keywords_none names s h word other =
    sym (append_none names) ∙ ap (λ (b : Bool). names ++ cond b (names_within (length (behind_word s)) (behind_word s)) []) (sym (sym word ∙ other))

-- and UserKeywords those behind it
pub keywords_some : (names now : List (List ℕ)) (s rest : List Token) (h : Bool) → h ≡ has_word (codes "UserKeywords") s → h ≡ true → rest ≡ behind_word s
    → now ≡ names ++ names_within (length rest) rest → now ≡ names ++ statement_keywords s
unfolding statement_keywords
keywords_some names now s rest h word sure left e =
    e ∙ ap (λ (ts : List Token). names ++ names_within (length ts) ts) left ∙ ap (λ (b : Bool). names ++ cond b (names_within (length (behind_word s)) (behind_word s)) []) (sym (sym word ∙ sure))

-- what an answer says, said otherwise
pub on_ok_weaker : {X E : Type 0} (r : Result X E) (P Q : Type 0) → (P → Q) → OnOk r P → OnOk r Q
on_ok_weaker (Ok x) P Q more h = more h
on_ok_weaker (Err e) P Q more h = tt
