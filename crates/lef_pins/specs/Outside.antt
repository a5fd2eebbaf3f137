-- What passes over together outside macros, as texts (LEF 5.8): plain tokens and whole extensions, and an end behind which a macro may
-- begin; or what is left open at the text's end.
use Rattle.std.specs.Prelude.{◌≡◌, ℕ, Bool, true, ◌&&◌, not, List, [], ◌∷◌, ◌++◌, codes, ◌⊎◌}
use Rattle.std.specs.List.{flat_map, list_all, AllByRecursion}
use Rattle.std.specs.Str.{bytes_eq}
use Rattle.token_forms.specs.Tokens.{Token}

-- the token has another text
abbrev pub is_other : List ℕ → Token → Bool
is_other w t = not (bytes_eq t.text w)

-- no word that ends something outside macros, or begins it
abbrev pub is_plain : Token → Bool
is_plain t = (is_other (codes ";") t && is_other (codes "END") t) && (is_other (codes "PROPERTYDEFINITIONS") t && is_other (codes "BEGINEXT") t)

-- a plain token; or an extension: its BEGINEXT, what stands in it, its ENDEXT
pub data Piece : Type 0 where
  Plain : Token → Piece
  Extension : Token → List Token → Token → Piece

-- an extension ends at the first ENDEXT
pub record IsExtension (mark : Token) (inner : List Token) (end : Token) : Type 0 where
  pub begins : mark.text ≡ codes "BEGINEXT"
  pub inside : list_all (is_other (codes "ENDEXT")) inner ≡ true
  pub ends : end.text ≡ codes "ENDEXT"

-- a piece is such
abbrev pub IsPiece : Piece → Type 0
IsPiece (Plain t) = is_plain t ≡ true
IsPiece (Extension mark inner end) = IsExtension mark inner end

-- its tokens
abbrev pub piece_tokens : Piece → List Token
piece_tokens (Plain t) = t ∷ []
piece_tokens (Extension mark inner end) = mark ∷ inner ++ end ∷ []

-- what ends: a semicolon; END and its token; PROPERTYDEFINITIONS, what stands behind it, its END and its token
pub data End : Type 0 where
  Semicolon : Token → End
  Name : Token → Token → End
  Definitions : Token → List Token → Token → Token → End

-- property definitions end at the first END
pub record AreDefinitions (mark : Token) (inner : List Token) (end : Token) : Type 0 where
  pub begins : mark.text ≡ codes "PROPERTYDEFINITIONS"
  pub inside : list_all (is_other (codes "END")) inner ≡ true
  pub ends : end.text ≡ codes "END"

-- an end is such
abbrev pub IsEnd : End → Type 0
IsEnd (Semicolon t) = t.text ≡ codes ";"
IsEnd (Name end name) = end.text ≡ codes "END"
IsEnd (Definitions mark inner end name) = AreDefinitions mark inner end

-- its tokens
abbrev pub end_tokens : End → List Token
end_tokens (Semicolon t) = t ∷ []
end_tokens (Name end name) = end ∷ name ∷ []
end_tokens (Definitions mark inner end name) = mark ∷ inner ++ end ∷ name ∷ []

-- what may be left open at the text's end: nothing; a last END; property definitions without an END and its token; an extension
pub data Rest : Type 0 where
  Nothing : Rest
  LastEnd : Token → Rest
  OpenDefinitions : Token → List Token → List Token → Rest
  OpenExtension : Token → List Token → Rest

-- no END stands in property definitions that are left open, but as the text's last token
pub record AreOpenDefinitions (mark : Token) (inner last : List Token) : Type 0 where
  pub begins : mark.text ≡ codes "PROPERTYDEFINITIONS"
  pub inside : list_all (is_other (codes "END")) inner ≡ true
  pub ends : (last ≡ []) ⊎ ((end : Token) × (last ≡ end ∷ []) × (end.text ≡ codes "END"))

-- no ENDEXT stands in an extension that is left open
pub record IsOpenExtension (mark : Token) (inner : List Token) : Type 0 where
  pub begins : mark.text ≡ codes "BEGINEXT"
  pub inside : list_all (is_other (codes "ENDEXT")) inner ≡ true

-- what is left open is such
abbrev pub IsRest : Rest → Type 0
IsRest Nothing = Unit {0}
IsRest (LastEnd end) = end.text ≡ codes "END"
IsRest (OpenDefinitions mark inner last) = AreOpenDefinitions mark inner last
IsRest (OpenExtension mark inner) = IsOpenExtension mark inner

-- its tokens
abbrev pub rest_tokens : Rest → List Token
rest_tokens Nothing = []
rest_tokens (LastEnd end) = end ∷ []
rest_tokens (OpenDefinitions mark inner last) = mark ∷ inner ++ last
rest_tokens (OpenExtension mark inner) = mark ∷ inner

-- the tokens pass over together before those behind them: pieces and an end; or, at the text's end, pieces and what is left open
pub data IsPassed (s behind : List Token) : Type 0 where
  Ended : (pieces : List Piece) (end : End) → AllByRecursion IsPiece pieces → IsEnd end → s ≡ flat_map piece_tokens pieces ++ end_tokens end → IsPassed s behind
  Open : (pieces : List Piece) (rest : Rest) → AllByRecursion IsPiece pieces → IsRest rest → s ≡ flat_map piece_tokens pieces ++ rest_tokens rest → behind ≡ [] → IsPassed s behind
