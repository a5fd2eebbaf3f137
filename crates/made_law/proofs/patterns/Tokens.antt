-- Tokens by their texts, at any places; and where a statement of them ends.
use Rattle.std.proofs.Common.{◌≡◌, ℕ, zero, suc, Bool, true, false, not, ◌&&◌, ◌||◌, ◌==◌, if◌then◌else◌, List, [], ◌∷◌, ◌++◌, length, take, drop, refl, sym, ap, ◌∙◌, Option, Some, None, codes, arith, inl, inr}
use Rattle.std.proofs.lemmas.Bool.{cases_Bool, or_parts}
use Rattle.std.proofs.Math.Seq.{drop-append_seam, take-append_seam}
use Rattle.base_types.specs.declared.span.Span.{Span}
use Rattle.token_forms.specs.Tokens.{Token}
use Rattle.token_forms.specs.Parts.{token_texts}
use Rattle.stil_tokens.specs.StilStatements.{is_only, token_ends, depth_behind, len_in, statement_len, closed_in, is_closed, stil_statements}
use Rattle.stil_tokens.proofs.StilCuts.{first_law}
use Rattle.std.specs.Str.{bytes_eq}
use Rattle.stil_syntax.specs.Names.{is_word, name_at}
use Rattle.stil_syntax.specs.Shapes.{closes_nothing, label_at, behind_within, behind_labels}
use Rattle.stil_blocks.specs.Statements.{is_whole}

-- tokens of these texts, each at its place
abbrev pub tokens_by : (ℕ → Span) → List (List ℕ) → List Token
tokens_by at [] = []
tokens_by at (w ∷ ws) = record { text = w; start = (at 0).start; end = (at 0).end } ∷ tokens_by (λ i. at (suc i)) ws

-- the places of tokens
abbrev pub places_of : List Token → ℕ → Span
places_of [] i = record { start = 0; end = 0 }
places_of (t ∷ ts) zero = record { start = t.start; end = t.end }
places_of (t ∷ ts) (suc i) = places_of ts i

pub tokens_are : (ts : List Token) → ts ≡ tokens_by (places_of ts) (token_texts ts)
tokens_are [] = refl
tokens_are (t ∷ ts) = ap (λ (l : List Token). t ∷ l) (tokens_are ts)

-- the places behind those of some words
abbrev pub behind : List (List ℕ) → (ℕ → Span) → ℕ → Span
behind [] at = at
behind (w ∷ ws) at = behind ws (λ i. at (suc i))

pub tokens_append : (at : ℕ → Span) (us ws : List (List ℕ)) → tokens_by at (us ++ ws) ≡ tokens_by at us ++ tokens_by (behind us at) ws
tokens_append at [] ws = refl
tokens_append at (u ∷ us) ws = ap (λ (l : List Token). record { text = u; start = (at 0).start; end = (at 0).end } ∷ l) (tokens_append (λ i. at (suc i)) us ws)

tokens_length : (at : ℕ → Span) (ws : List (List ℕ)) → length (tokens_by at ws) ≡ length ws
tokens_length at [] = refl
tokens_length at (w ∷ ws) = ap (λ (n : ℕ). suc n) (tokens_length (λ i. at (suc i)) ws)

-- the places from a number on
abbrev pub on : ℕ → (ℕ → Span) → ℕ → Span
on zero at = at
on (suc n) at = on n (λ i. at (suc i))

-- a word ends a statement, or closes a block where none is open
abbrev pub stops : ℕ → List ℕ → Bool
stops d w = token_ends d w || (is_only 125 w && d == 0)

-- the open blocks behind words of which nonene does so
abbrev pub pass : ℕ → List (List ℕ) → Option ℕ
pass d [] = Some d
pass d (w ∷ ws) = if stops d w then None else pass (depth_behind d w) ws

-- the last of the words, and none before it, ends a statement
abbrev pub ends : ℕ → List (List ℕ) → Bool
ends d [] = false
ends d (w ∷ []) = token_ends d w && not (is_only 125 w && d == 0)
ends d (w ∷ v ∷ ws) = if stops d w then false else ends (depth_behind d w) (v ∷ ws)

pub pass_both : (d e : ℕ) (us ws : List (List ℕ)) → pass d us ≡ Some e → pass d (us ++ ws) ≡ pass e ws
pass_both d e [] ws p = ap (λ (o : Option ℕ). elim o [ None ↦ None | Some n ↦ pass n ws ]) p
pass_both d e (u ∷ us) ws p = elim (cases_Bool (stops d u)) [
  | inl s ↦ absurd (let q = rw s at p in cc)
  | inr s ↦ (let q : pass (depth_behind d u) us ≡ Some e = rw s at p in rw s (pass_both (depth_behind d u) e us ws q))
]

pub pass_ends : (d e : ℕ) (us : List (List ℕ)) (v : List ℕ) (ws : List (List ℕ)) → pass d us ≡ Some e → ends d (us ++ v ∷ ws) ≡ ends e (v ∷ ws)
pass_ends d e [] v ws p = ap (λ (o : Option ℕ). elim o [ None ↦ false | Some n ↦ ends n (v ∷ ws) ]) p
pass_ends d e (u ∷ []) v ws p = elim (cases_Bool (stops d u)) [
  | inl s ↦ absurd (let q = rw s at p in cc)
  | inr s ↦ (let q : pass (depth_behind d u) [] ≡ Some e = rw s at p in rw s (pass_ends (depth_behind d u) e [] v ws q))
]
pass_ends d e (u ∷ x ∷ us) v ws p = elim (cases_Bool (stops d u)) [
  | inl s ↦ absurd (let q = rw s at p in cc)
  | inr s ↦ (let q : pass (depth_behind d u) (x ∷ us) ≡ Some e = rw s at p in rw s (pass_ends (depth_behind d u) e (x ∷ us) v ws q))
]

split_and : (a b : Bool) → (a && not b) ≡ true → (a ≡ true) × (b ≡ false)
split_and true false e = (refl, refl)
split_and true true e = absurd cc
split_and false b e = absurd cc

len_ends : (d : ℕ) (at : ℕ → Span) (ws : List (List ℕ)) (rest : List Token) → ends d ws ≡ true → len_in d (tokens_by at ws ++ rest) ≡ length ws
len_ends d at [] rest e = absurd cc
len_ends d at (w ∷ []) rest e = let h = split_and (token_ends d w) (is_only 125 w && d == 0) e in rw h.0 refl
len_ends d at (w ∷ v ∷ ws) rest e = elim (cases_Bool (stops d w)) [
  | inl s ↦ absurd (let q = rw s at e in cc)
  | inr s ↦ (
      let h = or_parts (token_ends d w) (is_only 125 w && d == 0) s in
      let q : ends (depth_behind d w) (v ∷ ws) ≡ true = rw s at e in
      let more = len_ends (depth_behind d w) (λ i. at (suc i)) (v ∷ ws) rest q in
      rw h.0 (omega (arith, more)))
]

closed_ends : (c : Bool) (d : ℕ) (at : ℕ → Span) (ws : List (List ℕ)) → ends d ws ≡ true → closed_in c d (tokens_by at ws) ≡ true
closed_ends c d at [] e = absurd cc
closed_ends c d at (w ∷ []) e = (split_and (token_ends d w) (is_only 125 w && d == 0) e).0
closed_ends c d at (w ∷ v ∷ ws) e = elim (cases_Bool (stops d w)) [
  | inl s ↦ absurd (let q = rw s at e in cc)
  | inr s ↦ (let q : ends (depth_behind d w) (v ∷ ws) ≡ true = rw s at e in closed_ends (token_ends d w) (depth_behind d w) (λ i. at (suc i)) (v ∷ ws) q)
]

nothing_ends : (d : ℕ) (at : ℕ → Span) (ws : List (List ℕ)) → ends d ws ≡ true → closes_nothing d (tokens_by at ws) ≡ false
nothing_ends d at [] e = absurd cc
nothing_ends d at (w ∷ []) e = let h = split_and (token_ends d w) (is_only 125 w && d == 0) e in rw h.1 refl
nothing_ends d at (w ∷ v ∷ ws) e = elim (cases_Bool (stops d w)) [
  | inl s ↦ absurd (let q = rw s at e in cc)
  | inr s ↦ (
      let h = or_parts (token_ends d w) (is_only 125 w && d == 0) s in
      let q : ends (depth_behind d w) (v ∷ ws) ≡ true = rw s at e in
      rw h.1 (nothing_ends (depth_behind d w) (λ i. at (suc i)) (v ∷ ws) q))
]

pub closed_is : (at : ℕ → Span) (ws : List (List ℕ)) → ends 0 ws ≡ true → is_closed (tokens_by at ws) ≡ true
closed_is at ws e = closed_ends false 0 at ws e

pub nothing_is : (at : ℕ → Span) (ws : List (List ℕ)) → ends 0 ws ≡ true → closes_nothing 0 (tokens_by at ws) ≡ false
nothing_is at ws e = nothing_ends 0 at ws e

pub whole_is : (at : ℕ → Span) (ws : List (List ℕ)) → ends 0 ws ≡ true → is_whole (tokens_by at ws) ≡ true
whole_is at ws e = rw (closed_is at ws e, nothing_is at ws e) refl

pub one_statement : (at : ℕ → Span) (ws : List (List ℕ)) (rest : List Token) → ends 0 ws ≡ true → stil_statements (tokens_by at ws ++ rest) ≡ tokens_by at ws ∷ stil_statements rest
one_statement at [] rest e = absurd cc
one_statement at (w ∷ ws) rest e =
    let s = tokens_by at (w ∷ ws) in
    let n : statement_len (s ++ rest) ≡ length s = len_ends 0 at (w ∷ ws) rest e ∙ sym (tokens_length at (w ∷ ws)) in
    first_law (record { text = w; start = (at 0).start; end = (at 0).end }) (tokens_by (λ i. at (suc i)) ws ++ rest)
    ∙ ap (λ (m : ℕ). take m (s ++ rest) ∷ stil_statements (drop m (s ++ rest))) n
    ∙ ap (λ (l : List Token). l ∷ stil_statements (drop (length s) (s ++ rest))) (take-append_seam s rest)
    ∙ ap (λ (l : List Token). s ∷ stil_statements l) (drop-append_seam s rest)

-- no label stands before a word behind which no colon stands
label_none : (at : ℕ → Span) (w v : List ℕ) (ws : List (List ℕ)) → is_word w ≡ true → bytes_eq v (codes ":") ≡ false → label_at (tokens_by at (w ∷ v ∷ ws)) ≡ None
unfolding label_at name_at
label_none at w v ws run colon = rw (if◌then◌else◌, run, colon) refl

pub no_labels : (at : ℕ → Span) (w v : List ℕ) (ws : List (List ℕ)) → is_word w ≡ true → bytes_eq v (codes ":") ≡ false
    → behind_labels (tokens_by at (w ∷ v ∷ ws)) ≡ tokens_by at (w ∷ v ∷ ws)
unfolding behind_within
no_labels at w v ws run colon =
    let ts = tokens_by at (w ∷ v ∷ ws) in
    let n = length (tokens_by (λ i. at (suc i)) (v ∷ ws)) in
    ap (λ (o : Option (List Token)). elim o [ None ↦ ts | Some rest ↦ behind_within n rest ]) (label_none at w v ws run colon)
