-- Statements cut from the front of tokens.
use Rattle.std.proofs.Common.{◌≡◌, ℕ, suc, ◌+◌, Bool, true, false, cond, List, [], ◌∷◌, ◌++◌, take, drop, codes, refl, sym, ap, ◌∙◌, arith}
use Rattle.std.specs.List.{flat_map}
use Rattle.std.specs.Str.{bytes_eq}
use Rattle.std.proofs.lemmas.Slice.Eq.{bytes_eq-Decides}
use Rattle.token_forms.specs.Tokens.{Token}
use Rattle.token_forms.specs.Parts.{token_texts}
use Rattle.stil_tokens.specs.StilStatements.{token_ends, depth_behind, len_in, statements_within}
use Rattle.stil_tokens.proofs.StilCuts.{first_law}
use Rattle.stil_blocks.specs.Statements.{has_word}
use Rattle.head_alike.specs.Erased.{erased_from, erased_statement}
use Rattle.scan_verify.specs.Staying.{staying}

-- no statement is left
pub staying_none : staying [] ≡ []
unfolding statements_within
staying_none = refl

either : (b : Bool) → cond b (erased_from true false []) (token_texts []) ≡ []
either true = refl
either false = refl

erased_none : erased_statement [] ≡ []
erased_none = either (has_word (codes "ScanStructures") [])

-- what stays of the first statement, and of those behind it
pub staying_cut : (ts : List Token) → staying ts ≡ erased_statement (take (len_in 0 ts) ts) ++ staying (drop (len_in 0 ts) ts)
staying_cut [] = sym (ap (λ (l : List (List ℕ)). l ++ staying []) erased_none)
staying_cut (t ∷ ts) = ap (flat_map erased_statement) (first_law t ts)

module _ {X : Type 0} where
  pub take_one : (n : ℕ) (x : X) (xs : List X) → take (1 + n) (x ∷ xs) ≡ x ∷ take n xs
  take_one n x xs = let e : 1 + n ≡ suc n = omega arith in ap (λ (k : ℕ). take k (x ∷ xs)) e

  pub drop_one : (n : ℕ) (x : X) (xs : List X) → drop (1 + n) (x ∷ xs) ≡ drop n xs
  drop_one n x xs = let e : 1 + n ≡ suc n = omega arith in ap (λ (k : ℕ). drop k (x ∷ xs)) e

-- a token that doesn't end the statement
pub len_on : (depth : ℕ) (t : Token) (ts : List Token) → token_ends depth t.text ≡ false → len_in depth (t ∷ ts) ≡ 1 + len_in (depth_behind depth t.text) ts
len_on depth t ts e = ap (λ (b : Bool). cond b 1 (1 + len_in (depth_behind depth t.text) ts)) e

pub take_on : (depth : ℕ) (t : Token) (ts : List Token) → token_ends depth t.text ≡ false → take (len_in depth (t ∷ ts)) (t ∷ ts) ≡ t ∷ take (len_in (depth_behind depth t.text) ts) ts
take_on depth t ts e = ap (λ (k : ℕ). take k (t ∷ ts)) (len_on depth t ts e) ∙ take_one (len_in (depth_behind depth t.text) ts) t ts

pub drop_on : (depth : ℕ) (t : Token) (ts : List Token) → token_ends depth t.text ≡ false → drop (len_in depth (t ∷ ts)) (t ∷ ts) ≡ drop (len_in (depth_behind depth t.text) ts) ts
drop_on depth t ts e = ap (λ (k : ℕ). drop k (t ∷ ts)) (len_on depth t ts e) ∙ drop_one (len_in (depth_behind depth t.text) ts) t ts

-- a colon ends nothing
pub colon_end : (text : List ℕ) → bytes_eq text (codes ":") ≡ true → token_ends 0 text ≡ false
colon_end text h = ap (token_ends 0) ((bytes_eq-Decides text (codes ":")).0 h)

pub colon_depth : (text : List ℕ) → bytes_eq text (codes ":") ≡ true → depth_behind 0 text ≡ 0
colon_depth text h = ap (depth_behind 0) ((bytes_eq-Decides text (codes ":")).0 h)
