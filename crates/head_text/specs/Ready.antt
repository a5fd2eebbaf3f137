-- What may be written behind a word: a number among blanks; and that every text is its pieces.
use Rattle.std.specs.Prelude.{◌≡◌, ℕ, ◌+◌, ◌<◌, Bool, true, false, List, [], ◌∷◌, ◌++◌, length, codes, is_some, Some, ⊤}
use Rattle.std.specs.List.{list_all}
use Rattle.token_forms.specs.Tokens.{Token}
use Rattle.stil_types.specs.declared.head.ScanChainDecl.{ScanChainDecl}
use Rattle.stil_syntax.specs.Digits.{is_digit}
use Rattle.stil_blocks.specs.Chains.{bit_of, word_clause}
use Rattle.head_alike.specs.Steps.{Step, olds, news}
use Rattle.head_alike.specs.Chains.{IsTurned}
use Rattle.head_text.specs.Mixes.{bytes_in, AreLaid, Mix, old_pieces, new_pieces, steps}

-- a text by its pieces
pub record IsPieces (text : List ℕ) : Type 0 where
  pub pieces : List (Bool × List ℕ)
  pub is : bytes_in pieces ≡ text
  pub are : AreLaid [] pieces

-- every text is made of pieces
abbrev pub PiecesLaw : Type 0
PiecesLaw = (text : List ℕ) → IsPieces text

-- the steps of mixes behind mixes
abbrev pub StepsLaw : Type 0
StepsLaw = (at to : ℕ) (m n : List Mix) → steps at to (m ++ n) ≡ steps at to m ++ steps (at + length (bytes_in (old_pieces m))) (to + length (bytes_in (new_pieces m))) n

-- none of the pieces is a token
abbrev pub AreBlank : List (Bool × List ℕ) → Type 0
AreBlank [] = ⊤
AreBlank (p ∷ ps) = (p.0 ≡ false) × AreBlank ps

-- a number in digits
pub record IsNumber (x : List ℕ) : Type 0 where
  pub some : 0 < length x
  pub digits : list_all is_digit x ≡ true

-- among blanks and before a ; another number may stand where one stood, whatever follows
abbrev pub NumberLaw : Type 0
NumberLaw = (front behind : List (Bool × List ℕ)) (x y z w : List ℕ) → AreBlank front → AreBlank behind → IsNumber x → IsNumber y
    → AreLaid (59 ∷ z) (front ++ (true, x) ∷ behind) → AreLaid (59 ∷ w) (front ++ (true, y) ∷ behind)
