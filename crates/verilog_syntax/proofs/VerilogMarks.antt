-- The marks of Verilog, and what ends a new text.
use Rattle.std.proofs.Common.{◌≡◌, ℕ, Bool, true, false, not, ◌||◌, eqb, List, [], ◌∷◌, refl, inl, inr, arith}
use Rattle.std.specs.List.{prefix_len}
use Rattle.std.proofs.lemmas.Bool.{eqb-true, cases_Bool}
use Rattle.std.proofs.lemmas.Bool.Decides.{nat_tests}
use Rattle.base_types.specs.declared.span.Span.{Span}
use Rattle.token_forms.specs.declared.piece.Piece.TheVariants.{Blank, Token}
use Rattle.verilog_syntax.specs.VerilogTokens.{is_blank, is_digit, is_word_start, is_word, open_piece, escaped_piece, piece_at}
use Rattle.verilog_syntax.specs.Seams.{is_mark, IsMarkAt, Starts}
use Rattle.verilog_syntax.proofs.VerilogLongest.{choose}
use Rattle.verilog_syntax.proofs.VerilogSeams.{Hard}
use Rattle.token_forms.proofs.Fronts.{IsMark}
use Rattle.token_forms.proofs.Reaches.{Anchor, Mark}

-- a byte that is a token before a new text, and behind which no word goes on
pub record IsVerilogMark (m : ℕ) : Type 0 where
  pub mark : IsMark piece_at Starts Hard m
  pub no_word : is_word m ≡ false

-- an opening parenthesis is a token by itself before what begins with no star
open_alone : (z : List ℕ) → Starts z → piece_at (40 ∷ z) ≡ Token 1
unfolding piece_at open_piece
open_alone z s = rw (s.is, s.no_star) refl

pub mark_open : IsVerilogMark 40
mark_open = record { mark = record { alone = open_alone; hard = λ x. refl }; no_word = refl }

pub mark_close : IsVerilogMark 41
unfolding piece_at
mark_close = record { mark = record { alone = λ z s. refl; hard = λ x. refl }; no_word = refl }

pub mark_bracket : IsVerilogMark 91
unfolding piece_at
mark_bracket = record { mark = record { alone = λ z s. refl; hard = λ x. refl }; no_word = refl }

pub mark_bracket_close : IsVerilogMark 93
unfolding piece_at
mark_bracket_close = record { mark = record { alone = λ z s. refl; hard = λ x. refl }; no_word = refl }

pub mark_brace : IsVerilogMark 123
unfolding piece_at
mark_brace = record { mark = record { alone = λ z s. refl; hard = λ x. refl }; no_word = refl }

pub mark_brace_close : IsVerilogMark 125
unfolding piece_at
mark_brace_close = record { mark = record { alone = λ z s. refl; hard = λ x. refl }; no_word = refl }

pub mark_comma : IsVerilogMark 44
unfolding piece_at
mark_comma = record { mark = record { alone = λ z s. refl; hard = λ x. refl }; no_word = refl }

pub mark_semicolon : IsVerilogMark 59
unfolding piece_at
mark_semicolon = record { mark = record { alone = λ z s. refl; hard = λ x. refl }; no_word = refl }

pub mark_colon : IsVerilogMark 58
unfolding piece_at
mark_colon = record { mark = record { alone = λ z s. refl; hard = λ x. refl }; no_word = refl }

pub mark_dot : IsVerilogMark 46
unfolding piece_at
mark_dot = record { mark = record { alone = λ z s. refl; hard = λ x. refl }; no_word = refl }

pub mark_equals : IsVerilogMark 61
unfolding piece_at
mark_equals = record { mark = record { alone = λ z s. refl; hard = λ x. refl }; no_word = refl }

either : (m k : ℕ) (t : Bool) → (eqb m k || t) ≡ true → IsVerilogMark k → (t ≡ true → IsVerilogMark m) → IsVerilogMark m
either m k t e here other =
    elim (cases_Bool (eqb m k)) [
      | inl is ↦ let same = eqb-true m k is in rw same here
      | inr none ↦ other (rw none at e)
    ]

pub marks : (m : ℕ) → is_mark m ≡ true → IsVerilogMark m
marks m e =
    either m 40 _ e mark_open (λ e. either m 41 _ e mark_close (λ e. either m 91 _ e mark_bracket (λ e. either m 93 _ e mark_bracket_close
    (λ e. either m 123 _ e mark_brace (λ e. either m 125 _ e mark_brace_close (λ e. either m 44 _ e mark_comma (λ e. either m 59 _ e mark_semicolon
    (λ e. either m 58 _ e mark_colon (λ e. either m 46 _ e mark_dot (λ e. let same = eqb-true m 61 e in rw same mark_equals))))))))))

-- a mark before a seam
pub marked : (text : List ℕ) (mark s : Span) → IsMarkAt text mark → Anchor piece_at Starts Hard text mark s
marked text mark s is = Mark is.mark (marks is.mark is.is).mark is.only

-- no byte goes on with a word
abbrev pub Stop : List ℕ → Type 0
Stop z = prefix_len is_word z ≡ 0

pub mark_stop : (m : ℕ) → IsVerilogMark m → (x : List ℕ) → Stop (m ∷ x)
mark_stop m is x = rw is.no_word refl

blank_not_word : (b : ℕ) → is_blank b ≡ true → is_word b ≡ false
blank_not_word b e = grind (arith, nat_tests)

escaped_no_blank : (bs : List ℕ) (n : ℕ) → escaped_piece bs ≡ Blank n → ⊥
unfolding escaped_piece
escaped_no_blank bs n e = choose (eqb (prefix_len (λ c. not (is_blank c)) bs) 0) _ _ _ e (λ t k. absurd cc) (λ t k. absurd cc)

pub blank_stop : (z : List ℕ) (n : ℕ) → piece_at z ≡ Blank n → Stop z
unfolding piece_at
blank_stop [] n e = refl
blank_stop (b ∷ bs) n e =
    let none : is_word b ≡ false
    = choose (is_blank b) _ _ _ e (λ t k. blank_not_word b t)
    (λ t k. choose (is_word_start b) _ _ _ k (λ t k. absurd cc)
    (λ t k. choose (is_digit b) _ _ _ k (λ t k. absurd cc)
    (λ t k. choose (eqb b 92) _ _ _ k (λ t k. absurd (escaped_no_blank bs n k))
    (λ t k. choose (eqb b 47) _ _ _ k (λ t k. let is = eqb-true b 47 t in rw is refl)
    (λ t k. choose (eqb b 40) _ _ _ k (λ t k. let is = eqb-true b 40 t in rw is refl)
    (λ t k. choose (eqb b 96) _ _ _ k (λ t k. let is = eqb-true b 96 t in rw is refl) (λ t k. absurd cc)))))))
    in rw none refl
