-- Which tokens end statements and open blocks.
use Rattle.std.proofs.Common.{◌≡◌, ℕ, zero, suc, ◌+◌, ◌-◌, ◌<◌, ◌≤◌, Bool, true, false, ◌&&◌, ◌||◌, not, cond, eqb, List, [], ◌∷◌, ◌++◌, length, take, drop, refl, sym, ap, ◌∙◌, subst, arith}
use Rattle.std.specs.List.{AllByRecursion as Each}
use Rattle.token_forms.specs.Tokens.{Token}
use Rattle.stil_tokens.specs.StilStatements.{is_only, is_note, token_ends, depth_behind, closed_in, len_in}
use Rattle.stil_syntax.specs.Shapes.{begins_behind, closes_nothing, behind_brace}
use Rattle.head_alike.specs.Steps.{starts_behind, AreFree}

pub record IsFree (text : List ℕ) : Type 0 where
  pub opens : is_only 123 text ≡ false
  pub close : is_only 125 text ≡ false
  pub semicolon : is_only 59 text ≡ false
  pub note : is_note text ≡ false
  pub colon : is_only 58 text ≡ false

four : (a b c n e : Bool) → ((a || (b || (c || n))) || e) ≡ false → (a ≡ false) × (b ≡ false) × (c ≡ false) × (n ≡ false) × (e ≡ false)
four false false false false false h = (refl, refl, refl, refl, refl)
four false false false false true h = absurd cc
four false false false true e h = absurd cc
four false false true n e h = absurd cc
four false true c n e h = absurd cc
four true b c n e h = absurd cc

pub is_free : (text : List ℕ) → starts_behind text ≡ false → IsFree text
is_free text h =
    let f = four (is_only 123 text) (is_only 125 text) (is_only 59 text) (is_note text) (is_only 58 text) h in
    record { opens = f.0; close = f.1; semicolon = f.2; note = f.3; colon = f.4 }

pub free_end : (depth : ℕ) (text : List ℕ) → starts_behind text ≡ false → token_ends depth text ≡ false
free_end depth text h =
    let f = is_free text h in
    let a = f.semicolon in
    let b = f.close in
    let c = f.note in
    rw (a, b, c) refl

pub free_depth : (depth : ℕ) (text : List ℕ) → starts_behind text ≡ false → depth_behind depth text ≡ depth
free_depth depth text h =
    let f = is_free text h in
    let a = f.opens in
    let b = f.close in
    rw (a, b) refl

-- a token that ends a statement is none of these
either_one : (a b c n e p q r : Bool) → (c && p || (b && q || n && r)) ≡ true → ((a || (b || (c || n))) || e) ≡ true
either_one true b c n e p q r h = refl
either_one false true c n e p q r h = refl
either_one false false true n e p q r h = refl
either_one false false false true e p q r h = refl
either_one false false false false e p q r h = absurd cc

pub end_starts : (depth : ℕ) (text : List ℕ) → token_ends depth text ≡ true → starts_behind text ≡ true
end_starts depth text h = either_one (is_only 123 text) (is_only 125 text) (is_only 59 text) (is_note text) (is_only 58 text) (eqb depth 0) (eqb depth 1) (eqb depth 0) h

-- over tokens that are free
pub len_over : (depth : ℕ) (xs ts : List Token) → AreFree xs → len_in depth (xs ++ ts) ≡ length xs + len_in depth ts
len_over depth [] ts f = omega arith
len_over depth (x ∷ xs) ts f =
    let a = free_end depth x.text f.0 in
    let b = free_depth depth x.text f.0 in
    let e : len_in depth (x ∷ (xs ++ ts)) ≡ 1 + len_in depth (xs ++ ts) = ap (λ (k : Bool). cond k 1 (1 + len_in (depth_behind depth x.text) (xs ++ ts))) a ∙ ap (λ (d : ℕ). 1 + len_in d (xs ++ ts)) b in
    omega (arith, e, len_over depth xs ts f.1)

pub closed_over : (closed : Bool) (depth : ℕ) (xs : List Token) (c : Token) (ts : List Token) → AreFree xs → closed_in closed depth (xs ++ c ∷ ts) ≡ closed_in (token_ends depth c.text) (depth_behind depth c.text) ts
closed_over closed depth [] c ts f = refl
closed_over closed depth (x ∷ xs) c ts f =
    ap (λ (d : ℕ). closed_in (token_ends depth x.text) d (xs ++ c ∷ ts)) (free_depth depth x.text f.0) ∙ closed_over (token_ends depth x.text) depth xs c ts f.1

pub nothing_over : (depth : ℕ) (xs ts : List Token) → AreFree xs → closes_nothing depth (xs ++ ts) ≡ closes_nothing depth ts
nothing_over depth [] ts f = refl
nothing_over depth (x ∷ xs) ts f =
    ap (λ (b : Bool). (b && eqb depth 0) || closes_nothing (depth_behind depth x.text) (xs ++ ts)) ((is_free x.text f.0).close)
    ∙ ap (λ (d : ℕ). closes_nothing d (xs ++ ts)) (free_depth depth x.text f.0) ∙ nothing_over depth xs ts f.1

pub brace_over : (xs ts : List Token) → AreFree xs → behind_brace (xs ++ ts) ≡ behind_brace ts
brace_over [] ts f = refl
brace_over (x ∷ xs) ts f = ap (λ (b : Bool). cond b (xs ++ ts) (behind_brace (xs ++ ts))) ((is_free x.text f.0).opens) ∙ brace_over xs ts f.1

module _ {X : Type 0} where
  pub take_over : (xs ts : List X) (n : ℕ) → take (length xs + n) (xs ++ ts) ≡ xs ++ take n ts
  take_over [] ts n = let e : 0 + n ≡ n = omega arith in ap (λ (k : ℕ). take k ts) e
  take_over (x ∷ xs) ts n =
      let e : suc (length xs) + n ≡ suc (length xs + n) = omega arith in
      ap (λ (k : ℕ). take k (x ∷ (xs ++ ts))) e ∙ ap (λ (l : List X). x ∷ l) (take_over xs ts n)

  pub drop_over : (xs ts : List X) (n : ℕ) → drop (length xs + n) (xs ++ ts) ≡ drop n ts
  drop_over [] ts n = let e : 0 + n ≡ n = omega arith in ap (λ (k : ℕ). drop k ts) e
  drop_over (x ∷ xs) ts n =
      let e : suc (length xs) + n ≡ suc (length xs + n) = omega arith in
      ap (λ (k : ℕ). drop k (x ∷ (xs ++ ts))) e ∙ drop_over xs ts n
