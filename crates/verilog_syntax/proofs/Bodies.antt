-- The tokens of a module: those of its body, and endmodule behind them.
use Rattle.std.proofs.Common.{◌≡◌, ℕ, ◌+◌, ◌==◌, Bool, true, false, cond, List, [], ◌∷◌, ◌++◌, length, take, drop, codes, refl, sym, ap, ◌∙◌, subst, arith, append-nil}
use Rattle.std.proofs.lemmas.Bool.{eqb-false}
use Rattle.std.proofs.Math.Seq.{take-append_seam, drop-append-add}
use Rattle.base_types.proofs.TruthValues.{bytes_are}
use Rattle.token_forms.specs.Tokens.{Token}
use Rattle.token_forms.specs.Statements.{is_semicolon, begin_with, statements_of}
use Rattle.verilog_syntax.specs.Reading.{ends_module, body_len}

abbrev pub IsEnd : Token → Type 0
IsEnd t = t.text ≡ codes "endmodule"

-- the tokens up to the first endmodule, and those from it on
record Cut (ts : List Token) (len : ℕ) : Type 0 where
  pub front : List Token
  pub behind : List Token
  pub is : ts ≡ front ++ behind
  pub count : len ≡ length front
  pub ends : (t : Token) (us : List Token) → behind ≡ t ∷ us → IsEnd t

cut_more : (t : Token) (ts : List Token) (b : Bool) → ends_module t ≡ b → Cut ts (body_len ts) → Cut (t ∷ ts) (cond b 0 (1 + body_len ts))
cut_more t ts true e c =
    record { front = []; behind = t ∷ ts; is = refl; count = refl; ends = λ u us same. let k : t ≡ u = cc in subst IsEnd k (bytes_are t.text (codes "endmodule") e) }
cut_more t ts false e c =
    record { front = t ∷ c.front; behind = c.behind; is = ap (λ (l : List Token). t ∷ l) c.is; count = omega (arith, c.count); ends = c.ends }

cut : (ts : List Token) → Cut ts (body_len ts)
cut [] = record { front = []; behind = []; is = refl; count = refl; ends = λ t us e. absurd cc }
cut (t ∷ ts) = cut_more t ts (ends_module t) refl (cut ts)

-- one endmodule, behind the body
pub record Closed (ts : List Token) : Type 0 where
  pub token : Token
  pub is : ts ≡ take (body_len ts) ts ++ token ∷ []
  pub text : IsEnd token

closed_of : (ts : List Token) (front behind : List Token) → ts ≡ front ++ behind → body_len ts ≡ length front → ((t : Token) (us : List Token) → behind ≡ t ∷ us → IsEnd t)
    → (body_len ts == length ts) ≡ false → drop (body_len ts + 1) ts ≡ [] → Closed ts
closed_of ts front [] is count ends some none =
    let all : ts ≡ front = is ∙ append-nil front in
    let same : body_len ts ≡ length ts = count ∙ ap length (sym all) in
    absurd (eqb-false (body_len ts) (length ts) some same)
closed_of ts front (t ∷ us) is count ends some none =
    let begins : take (body_len ts) ts ≡ front = ap (λ (n : ℕ). take n ts) count ∙ ap (take (length front)) is ∙ take-append_seam front (t ∷ us) in
    let rest : drop (body_len ts + 1) ts ≡ us = ap (λ (n : ℕ). drop (n + 1) ts) count ∙ ap (drop (length front + 1)) is ∙ drop-append-add front (t ∷ us) 1 in
    record { token = t; is = is ∙ ap (λ (l : List Token). front ++ t ∷ l) (sym rest ∙ none) ∙ ap (λ (l : List Token). l ++ t ∷ []) (sym begins); text = ends t us refl }

pub closed : (ts : List Token) → (body_len ts == length ts) ≡ false → drop (body_len ts + 1) ts ≡ [] → Closed ts
closed ts some none = let c = cut ts in closed_of ts c.front c.behind c.is c.count c.ends some none

-- the tokens of some statements
abbrev pub joined : List (List Token) → List Token
joined [] = []
joined (s ∷ ss) = s ++ joined ss

joined-begin : (t : Token) (ss : List (List Token)) → joined (begin_with t ss) ≡ t ∷ joined ss
joined-begin t [] = refl
joined-begin t (s ∷ ss) = refl

-- none is lost where they are cut
pub joined-statements : (ts : List Token) → joined (statements_of ts) ≡ ts
unfolding statements_of
joined-statements [] = refl
joined-statements (t ∷ ts) =
    elim (is_semicolon t) as (λ b. joined (cond b ((t ∷ []) ∷ statements_of ts) (begin_with t (statements_of ts))) ≡ t ∷ ts) [
      | true ↦ ap (λ (l : List Token). t ∷ l) (joined-statements ts)
      | false ↦ joined-begin t (statements_of ts) ∙ ap (λ (l : List Token). t ∷ l) (joined-statements ts)
    ]
