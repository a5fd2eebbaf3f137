-- What a form of tokens must obey, so that new texts may stand where tokens between two marks stood.
use Rattle.std.proofs.Common.{◌≡◌, ℕ, Bool, true, List, ◌∷◌, [], ◌++◌}
use Rattle.std.specs.List.{prefix_len}
use Rattle.base_types.specs.declared.span.Span.{Span}
use Rattle.token_forms.specs.declared.piece.Piece.{Piece}
use Rattle.token_forms.specs.declared.piece.Piece.TheVariants.{Blank}
use Rattle.token_forms.specs.Pieces.{tokens_from, texts_from}
use Rattle.token_forms.specs.Runs.{bytes_of}
use Rattle.token_forms.proofs.Fronts.{IsSeamForm, IsMark}

pub record Seams : Type 1 where
  pub piece_at : List ℕ → Piece
  -- what new texts begin with; and of what stands before one, that the tokens in it are decided by it alone
  pub Starts : List ℕ → Type 0
  pub Hard : List ℕ → Type 0
  pub form : IsSeamForm piece_at Starts Hard
  pub more : (x z : List ℕ) → Starts x → Starts (x ++ z)
  -- the marks between which a new text may stand, and the bytes with which it would go on
  pub marks : ℕ → Bool
  pub goes_on : ℕ → Bool
  pub mark : (m : ℕ) → marks m ≡ true → IsMark piece_at Starts Hard m
  pub mark_stops : (m : ℕ) → marks m ≡ true → (x : List ℕ) → prefix_len goes_on (m ∷ x) ≡ 0
  pub blank_stops : (z : List ℕ) (n : ℕ) → piece_at z ≡ Blank n → prefix_len goes_on z ≡ 0

-- the tokens of a text, as their spans and as their bytes
abbrev pub spans_in : Seams → List ℕ → List Span
spans_in s text = tokens_from s.piece_at 0 0 text

abbrev pub texts_in : Seams → List ℕ → List (List ℕ)
texts_in s text = texts_from s.piece_at 0 text

-- the token is a mark
pub record IsMarkAt (s : Seams) (text : List ℕ) (at : Span) : Type 0 where
  pub mark : ℕ
  pub is : s.marks mark ≡ true
  pub only : bytes_of text at ≡ mark ∷ []

-- a new text that has its own tokens wherever no byte behind it goes on with it
pub record IsReady (s : Seams) (new : List ℕ) : Type 0 where
  pub starts : s.Starts new
  pub goes : (z : List ℕ) → prefix_len s.goes_on z ≡ 0 → texts_in s (new ++ z) ≡ texts_in s new ++ texts_in s z
