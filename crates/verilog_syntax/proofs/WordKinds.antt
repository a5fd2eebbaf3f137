-- What passes as a name, a decimal or a constant is no mark and no word of the language.
use Rattle.std.proofs.Common.{◌≡◌, ℕ, Bool, true, false, ◌&&◌, not, List, refl, subst}
use Rattle.std.specs.Str.{bytes_eq}
use Rattle.std.specs.List.{list_all}
use Rattle.base_types.proofs.TruthValues.{bytes_are}
use Rattle.token_forms.specs.Classes.{is_among, is_in, But}
use Rattle.token_forms.proofs.ClassLemmas.{passes_both}
use Rattle.verilog_syntax.specs.Words.{no_operands, marks, is_name, is_decimal, is_constant, is_operand}

-- a test that fails at each of some words tells others apart from them
not_among : (test : List ℕ → Bool) (words : List (List ℕ)) (text : List ℕ) → list_all (λ w. not (test w)) words ≡ true → test text ≡ true → is_among words text ≡ false
not_among test words text fails passes = decide (is_among words text) refl
  where
    not_both : (b : Bool) → b ≡ true → not b ≡ true → ⊥
    not_both true a e = cc
    not_both false a e = cc

    decide : (b : Bool) → is_among words text ≡ b → is_among words text ≡ false
    decide false e = e
    decide true e =
        let h = passes_both (λ w. not (test w)) (bytes_eq text) words fails e in
        absurd (not_both (test h.0) (subst (λ (w : List ℕ). test w ≡ true) (bytes_are text h.0 h.2) passes) h.1)

accepted : (test : List ℕ → Bool) (words : List (List ℕ)) (text : List ℕ) → list_all (λ w. not (test w)) words ≡ true → (is_in (But words) text && test text) ≡ test text
accepted test words text fails = decide (test text) refl
  where
    decide : (b : Bool) → test text ≡ b → (is_in (But words) text && test text) ≡ test text
    decide true e = rw (not_among test words text fails e) refl
    decide false e = rw e (both_false (is_in (But words) text))
      where
        both_false : (b : Bool) → (b && false) ≡ false
        both_false true = refl
        both_false false = refl

pub name_accepted : (text : List ℕ) → (is_in (But no_operands) text && is_name text) ≡ is_name text
unfolding is_name
name_accepted text = accepted is_name no_operands text refl

pub decimal_accepted : (text : List ℕ) → (is_in (But marks) text && is_decimal text) ≡ is_decimal text
unfolding is_decimal
decimal_accepted text = accepted is_decimal marks text refl

pub operand_accepted : (text : List ℕ) → (is_in (But no_operands) text && is_operand text) ≡ is_operand text
unfolding is_operand is_name is_constant
operand_accepted text = accepted is_operand no_operands text refl

-- so are names no operands apart
pub name_in : (text : List ℕ) → is_name text ≡ true → is_in (But no_operands) text ≡ true
unfolding is_name
name_in text e = rw (not_among is_name no_operands text refl e) refl

pub decimal_in : (text : List ℕ) → is_decimal text ≡ true → is_in (But marks) text ≡ true
unfolding is_decimal
decimal_in text e = rw (not_among is_decimal marks text refl e) refl

pub operand_in : (text : List ℕ) → is_operand text ≡ true → is_in (But no_operands) text ≡ true
unfolding is_operand is_name is_constant
operand_in text e = rw (not_among is_operand no_operands text refl e) refl
