-- The names in a list of cells, one by one.
use Rattle.std.proofs.Common.{◌≡◌, ℕ, zero, suc, ◌-◌, ◌<◌, ◌≤◌, Bool, true, false, cond, List, [], ◌∷◌, ◌++◌, take, drop, codes, Option, Some, None, refl, sym, ap, ◌∙◌, arith, append_assoc}
use Rattle.std.specs.List.{flat_map}
use Rattle.std.proofs.lemmas.List.{append-nil}
use Rattle.base_types.specs.declared.span.Span.{Span}
use Rattle.chain_trace.specs.declared.path.BitId.{BitId}
use Rattle.token_forms.specs.Tokens.{Token, front_of}
use Rattle.stil_syntax.specs.Names.{name_at}
use Rattle.stil_blocks.specs.Statements.{begins_word}
use Rattle.head_text.specs.Written.{name_texts_within}
use Rattle.head_text.specs.Laws.{names_if}
use Rattle.head_writer.specs.declared.names.NamedBit.{NamedBit}
use Rattle.head_writer.specs.NewChains.{with_names}
use Rattle.head_writer.specs.Cells.{name_text, text_at, behind_mark, named_on, IsAllNamed, GoesOn}

abbrev texts : List Token → List ℕ
texts ts = flat_map (λ t. t.text) ts

pub next_token : (out : List ℕ) (n : ℕ) (t : Token) (ts us : List Token) → 0 < n → ts ≡ t ∷ us → (out ++ t.text) ++ flat_map (λ t. t.text) (take (n - 1) us) ≡ out ++ flat_map (λ t. t.text) (take n ts)
next_token out zero t ts us some is = absurd (omega arith)
next_token out (suc n) t ts us some is =
    let less : suc n - 1 ≡ n = omega arith in
    ap (λ (m : ℕ). (out ++ t.text) ++ texts (take m us)) less ∙ append_assoc out t.text (texts (take n us)) ∙ ap (λ (l : List Token). out ++ texts (take (suc n) l)) (sym is)

take_none : (n : ℕ) → texts (take n []) ≡ []
take_none zero = refl
take_none (suc n) = refl

-- where no token is left
pub no_token : (out total : List ℕ) (n : ℕ) (ts : List Token) → ts ≡ [] → out ++ flat_map (λ t. t.text) (take n ts) ≡ total → out ≡ total
no_token out total n ts none so_far =
    sym (append-nil out) ∙ ap (λ (l : List ℕ). out ++ l) (sym (take_none n)) ∙ ap (λ (l : List Token). out ++ texts (take n l)) (sym none) ∙ so_far

pub none_left : (bits : List BitId) → with_names bits [] ≡ []
none_left [] = refl
none_left (b ∷ bs) = refl

-- a ! is passed
mark_on : (n : ℕ) (ts : List Token) → begins_word (codes "!") ts ≡ true → name_texts_within n (drop 1 ts) ≡ name_texts_within (suc n) ts
unfolding name_texts_within
mark_on n [] is = absurd cc
mark_on n (t ∷ ts) is = ap (λ (b : Bool). cond b (name_texts_within n ts) (elim (name_at (t ∷ ts)) [ None ↦ [] | Some name ↦ flat_map (λ u. u.text) (front_of (t ∷ ts) name.1) ∷ name_texts_within n name.1 ])) (sym is)

pub passes : (named : List NamedBit) (bits : List BitId) (ts rest : List Token) → begins_word (codes "!") ts ≡ true → rest ≡ behind_mark ts → GoesOn named named bits bits ts rest
passes named bits ts rest is behind n =
    let here : rest ≡ drop 1 ts = behind ∙ ap (λ (b : Bool). cond b (drop 1 ts) ts) is in
    ap (λ (l : List Token). named_on named bits n l) here ∙ ap (λ (l : List (List ℕ)). named ++ with_names bits l) (mark_on n ts is)

-- the names from tokens on, by what the first name gives
abbrev names_by : ℕ → Option (List ℕ × List Token) → List (List ℕ)
names_by n None = []
names_by n (Some x) = x.0 ∷ name_texts_within n x.1

by_name : (n : ℕ) (ts : List Token) (name : Option (List ℕ × List Token))
    → elim name [ None ↦ [] | Some x ↦ flat_map (λ u. u.text) (front_of ts x.1) ∷ name_texts_within n x.1 ] ≡ names_by n (name_text ts name)
by_name n ts None = refl
by_name n ts (Some x) = refl

name_on : (n : ℕ) (ts : List Token) → begins_word (codes "!") ts ≡ false → name_texts_within (suc n) ts ≡ names_by n (text_at ts)
unfolding name_texts_within name_at
name_on n [] is = refl
name_on n (t ∷ ts) is =
    ap (λ (b : Bool). cond b (name_texts_within n ts) (elim (name_at (t ∷ ts)) [ None ↦ [] | Some name ↦ flat_map (λ u. u.text) (front_of (t ∷ ts) name.1) ∷ name_texts_within n name.1 ])) is
    ∙ by_name n (t ∷ ts) (name_at (t ∷ ts))

same_tokens : (ts rest : List Token) → begins_word (codes "!") ts ≡ false → rest ≡ behind_mark ts → rest ≡ ts
same_tokens ts rest is behind = behind ∙ ap (λ (b : Bool). cond b (drop 1 ts) ts) is

-- no name is left
pub no_name : (named : List NamedBit) (bits : List BitId) (ts rest : List Token) → begins_word (codes "!") ts ≡ false → rest ≡ behind_mark ts → text_at rest ≡ None → IsAllNamed named named bits ts
no_name named bits ts rest is behind none n =
    let here : text_at ts ≡ None = ap text_at (sym (same_tokens ts rest is behind)) ∙ none in
    sym (append-nil named) ∙ ap (λ (l : List NamedBit). named ++ l) (sym (none_left bits)) ∙ ap (λ (l : List (List ℕ)). named ++ with_names bits l) (sym (name_on n ts is ∙ ap (names_by n) here))

-- a bit is named
pub one_named : (named : List NamedBit) (bits left : List BitId) (bit : BitId) (name : List ℕ) (ts rest behind : List Token) → begins_word (codes "!") ts ≡ false → rest ≡ behind_mark ts
    → text_at rest ≡ Some (name, behind) → bits ≡ bit ∷ left → GoesOn named (named ++ record { bit = bit; name = name } ∷ []) bits left ts behind
one_named named bits left bit name ts rest behind is passed taken first n =
    let here : text_at ts ≡ Some (name, behind) = ap text_at (sym (same_tokens ts rest is passed)) ∙ taken in
    append_assoc named (record { bit = bit; name = name } ∷ []) (with_names left (name_texts_within n behind))
    ∙ ap (λ (l : List BitId). named ++ with_names l (name ∷ name_texts_within n behind)) (sym first)
    ∙ ap (λ (l : List (List ℕ)). named ++ with_names bits l) (sym (name_on n ts is ∙ ap (names_by n) here))

-- the names of as many tokens as there are
pub all_done : (old new total : List NamedBit) (bits : List BitId) (n : ℕ) (ts : List Token) → 0 < n → IsAllNamed old new bits ts → named_on old bits n ts ≡ total → new ≡ total
all_done old new total bits zero ts some done so_far = absurd (omega arith)
all_done old new total bits (suc n) ts some done so_far = done n ∙ so_far

pub all_taken : (named total : List NamedBit) (left : List BitId) (n : ℕ) (ts : List Token) → n ≤ 0 → named_on named left n ts ≡ total → named ≡ total
unfolding name_texts_within
all_taken named total left zero ts none so_far = sym (append-nil named) ∙ ap (λ (l : List NamedBit). named ++ l) (sym (none_left left)) ∙ so_far
all_taken named total left (suc n) ts none so_far = absurd (omega arith)

-- a chain without a list
pub no_list : (text : List ℕ) (at : Option Span) (bits : List BitId) (named : List NamedBit) → at ≡ None → named ≡ named ++ with_names bits (names_if text at)
no_list text at bits named none =
    sym (append-nil named) ∙ ap (λ (l : List NamedBit). named ++ l) (sym (none_left bits)) ∙ ap (λ (o : Option Span). named ++ with_names bits (names_if text o)) (sym none)
