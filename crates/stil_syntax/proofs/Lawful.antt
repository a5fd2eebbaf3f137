-- Each form of Grammar is lawful, and what stands behind the name of a scan call is clear.
use Rattle.std.proofs.Common.{◌≡◌, ℕ, Bool, true, false, ◌&&◌, ◌||◌, nat_eq, List, [], ◌∷◌, ◌++◌, Some, refl, sym, ap, subst}
use Rattle.std.proofs.lemmas.Bool.{eqb-true, and_parts}
use Rattle.std.proofs.lemmas.Bool.Decides.{Decides-eqb}
use Rattle.std.proofs.lemmas.Option.{same_Some}
use Rattle.base_types.proofs.TruthValues.{and_false}
use Rattle.token_forms.specs.Tokens.{Token}
use Rattle.token_forms.specs.Classes.{But, is_in, is_in_any, begins}
use Rattle.token_forms.specs.Laws.{Stands, IsLawful, IsStatement}
use Rattle.token_forms.proofs.Spelled.{choose}
use Rattle.token_forms.proofs.Laws.{word-lawful, text-lawful, seq-lawful, made-lawful, before-lawful, behind-lawful, or-lawful, many-lawful, gathered-lawful}
use Rattle.stil_syntax.specs.Names.{marks, is_word, is_string, inner, IsName, Word, Quoted, Joined, string_at, name_at, name}
use Rattle.stil_syntax.specs.Grammar.{item, entry, block, call_end}

-- what is read is spelled so
string-spelled : (t : Token) (ts : List Token) (x : List ℕ) (rest : List Token) → is_string t.text ≡ true → string_at t ts ≡ (x, rest) → Stands (IsName x) (t ∷ ts) rest
string-spelled t [] x rest s e =
    record { front = t ∷ []; is = ap (λ (p : List ℕ × List Token). t ∷ p.1) e; holds = Quoted t refl s (ap (λ (p : List ℕ × List Token). p.0) e) }
string-spelled t (u ∷ us) x rest s e =
    choose (is_word u.text && nat_eq u.start t.end) (inner t.text ++ u.text, us) (inner t.text, u ∷ us) (x, rest) e
    (λ j e. let b = and_parts (is_word u.text) (nat_eq u.start t.end) j in
    record { front = t ∷ u ∷ []; is = ap (λ (p : List ℕ × List Token). t ∷ u ∷ p.1) e; holds = Joined t u refl s (b.0) (eqb-true u.start t.end (b.1)) (ap (λ (p : List ℕ × List Token). p.0) e) })
    (λ j e. record { front = t ∷ []; is = ap (λ (p : List ℕ × List Token). t ∷ p.1) e; holds = Quoted t refl s (ap (λ (p : List ℕ × List Token). p.0) e) })

pub name-spelled : (ts : List Token) (x : List ℕ) (rest : List Token) → name_at ts ≡ Some (x, rest) → Stands (IsName x) ts rest
unfolding name_at
name-spelled [] x rest e = absurd cc
name-spelled (t ∷ ts) x rest e =
    choose (is_word t.text) _ _ _ e
    (λ w e. let p = same_Some _ _ e in
    record { front = t ∷ []; is = ap (λ (p : List ℕ × List Token). t ∷ p.1) p; holds = Word t refl w (ap (λ (p : List ℕ × List Token). p.0) p) })
    (λ w e. choose (is_string t.text) _ _ _ e (λ s e. string-spelled t ts x rest s (same_Some _ _ e)) (λ s e. absurd cc))

string-no_word : (text : List ℕ) → is_string text ≡ true → is_word text ≡ false
string-no_word text s = rw s (and_false (is_in (But marks) text))

string-no_mark : (text : List ℕ) → is_string text ≡ true → is_in (But marks) text ≡ true
string-no_mark [] s = absurd cc
string-no_mark (b ∷ bs) s = subst (λ (c : ℕ). is_in (But marks) (c ∷ bs) ≡ true) (sym (eqb-true b 34 s)) refl

-- what is spelled so is read
no_mark : (u : Token) (us : List Token) → begins (But marks ∷ []) (u ∷ us) ≡ false → is_in (But marks) u.text ≡ false
no_mark u us e = by (is_in (But marks) u.text) e
  where
    by : (b : Bool) → (b || false) ≡ false → b ≡ false
    by true e = absurd cc
    by false e = refl

string-alone : (t : Token) (rest : List Token) → begins (But marks ∷ []) rest ≡ false → string_at t rest ≡ (inner t.text, rest)
string-alone t [] e = refl
string-alone t (u ∷ us) e = rw (no_mark u us e) refl

pub name-read : (x : List ℕ) (front rest : List Token) → IsName x front → begins (But marks ∷ []) rest ≡ false → name_at (front ++ rest) ≡ Some (x, rest)
unfolding name_at
name-read x front rest (Word t is w e) far = rw (is, w) (ap (λ (n : List ℕ). Some (n, rest)) e)
name-read x front rest (Quoted t is s e) far = rw (is, string-no_word t.text s, s, string-alone t rest far) (ap (λ (n : List ℕ). Some (n, rest)) e)
name-read x front rest (Joined t u is s w a e) far =
    rw (is, string-no_word t.text s, s, w, (Decides-eqb u.start t.end).1 a) (ap (λ (n : List ℕ). Some (n, rest)) e)

head_is : (t s : Token) (ts ss : List Token) → (t ∷ ts) ≡ (s ∷ ss) → t ≡ s
head_is t s ts ss e = cc

or_false : (b : Bool) → b ≡ true → (b || false) ≡ true
or_false b e = rw e refl

name-first : (x : List ℕ) (t : Token) (ts : List Token) → IsName x (t ∷ ts) → is_in_any (But marks ∷ []) t.text ≡ true
name-first x t ts (Word s is w e) = subst (λ (u : Token). is_in_any (But marks ∷ []) u.text ≡ true) (sym (head_is t s ts [] is)) (or_false _ ((and_parts (is_in (But marks) s.text) _ w).0))
name-first x t ts (Quoted s is q e) = subst (λ (u : Token). is_in_any (But marks ∷ []) u.text ≡ true) (sym (head_is t s ts [] is)) (or_false _ (string-no_mark s.text q))
name-first x t ts (Joined s u is q w a e) = subst (λ (u : Token). is_in_any (But marks ∷ []) u.text ≡ true) (sym (head_is t s ts (u ∷ []) is)) (or_false _ (string-no_mark s.text q))

pub name-some : (x : List ℕ) → IsName x [] → ⊥
name-some x (Word s is w e) = absurd cc
name-some x (Quoted s is q e) = absurd cc
name-some x (Joined s u is q w a e) = absurd cc

pub name-lawful : IsLawful name
name-lawful = record { spelled = name-spelled; read = λ clear. name-read; first = name-first; not_empty = λ never. name-some }

ruleset laws = (word-lawful, text-lawful, seq-lawful, made-lawful, before-lawful, behind-lawful, or-lawful, many-lawful, gathered-lawful, name-lawful)

item-lawful : IsLawful item
unfolding item
item-lawful = search laws depth 12

entry-lawful : IsLawful entry
unfolding entry
entry-lawful = search (laws, item-lawful) depth 12

block-lawful : IsLawful block
unfolding block
block-lawful = search (laws, entry-lawful) depth 12

call_end-lawful : IsLawful call_end
unfolding call_end
call_end-lawful = search (laws, block-lawful) depth 12

pub call_statement : IsStatement call_end
unfolding call_end block entry item
call_statement = record { lawful = call_end-lawful; clear = refl; full = refl; closed = refl }
