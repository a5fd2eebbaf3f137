-- A text cut into pieces, some of which are written anew.
use Rattle.std.specs.Prelude.{◌≡◌, ℕ, ◌+◌, ◌<◌, Bool, true, false, ⊤, List, [], ◌∷◌, ◌++◌, length}
use Rattle.token_forms.specs.declared.piece.Piece.{Piece}
use Rattle.token_forms.specs.declared.piece.Piece.TheVariants.{Blank, Token as token}
use Rattle.token_forms.specs.Classes.{is_among}
use Rattle.token_forms.specs.Tokens.{Token}
use Rattle.stil_tokens.specs.StilSplit.{goes_on}
use Rattle.stil_tokens.specs.StilTokens.{piece_at, tokens_in}
use Rattle.head_alike.specs.Steps.{Step, Keep, Anew, olds, news, AreSteps, AreFree, starts_behind, changed_words}

-- the bytes of pieces, each of which is a token or not
abbrev pub bytes_in : List (Bool × List ℕ) → List ℕ
bytes_in [] = []
bytes_in (p ∷ ps) = p.1 ++ bytes_in ps

-- a piece of so many bytes: a token, or blanks
abbrev pub piece_for : Bool → ℕ → Piece
piece_for true n = token n
piece_for false n = Blank n

-- before some bytes the pieces stand one behind the other
abbrev pub AreLaid : List ℕ → List (Bool × List ℕ) → Type 0
AreLaid z [] = ⊤
AreLaid z (p ∷ ps) = (0 < length p.1) × (piece_at (p.1 ++ (bytes_in ps ++ z)) ≡ piece_for p.0 (length p.1)) × AreLaid z ps

-- the token of a piece that is one, at its place
abbrev pub one_token : Bool → List ℕ → ℕ → List Token
one_token true w at = record { text = w; start = at; end = at + length w } ∷ []
one_token false w at = []

-- the tokens of pieces that begin at a place
abbrev pub laid : ℕ → List (Bool × List ℕ) → List Token
laid at [] = []
laid at (p ∷ ps) = one_token p.0 p.1 at ++ laid (at + length p.1) ps

-- a piece that stays; or a word that stays, other pieces behind it, and then a ;
pub data Mix : Type 0 where
  Stay : Bool → List ℕ → Mix
  Change : List ℕ → List (Bool × List ℕ) → List (Bool × List ℕ) → Mix

-- the pieces read
abbrev pub old_pieces : List Mix → List (Bool × List ℕ)
old_pieces [] = []
old_pieces (Stay t w ∷ m) = (t, w) ∷ old_pieces m
old_pieces (Change w os ns ∷ m) = (true, w) ∷ (os ++ (true, 59 ∷ []) ∷ old_pieces m)

-- the pieces written
abbrev pub new_pieces : List Mix → List (Bool × List ℕ)
new_pieces [] = []
new_pieces (Stay t w ∷ m) = (t, w) ∷ new_pieces m
new_pieces (Change w os ns ∷ m) = (true, w) ∷ (ns ++ (true, 59 ∷ []) ∷ new_pieces m)

-- a token of these bytes at a place
abbrev pub token_of_bytes : List ℕ → ℕ → Token
token_of_bytes w at = record { text = w; start = at; end = at + length w }

-- the tokens of both, where these begin at two places
abbrev pub steps : ℕ → ℕ → List Mix → List Step
steps at to [] = []
steps at to (Stay true w ∷ m) = Keep (token_of_bytes w at) (token_of_bytes w to) ∷ steps (at + length w) (to + length w) m
steps at to (Stay false w ∷ m) = steps (at + length w) (to + length w) m
steps at to (Change w os ns ∷ m) =
    Anew (token_of_bytes w at) (token_of_bytes w to) (laid (at + length w) os) (laid (to + length w) ns)
    (token_of_bytes (59 ∷ []) (at + length w + length (bytes_in os))) (token_of_bytes (59 ∷ []) (to + length w + length (bytes_in ns)))
    ∷ steps (at + length w + length (bytes_in os) + 1) (to + length w + length (bytes_in ns) + 1) m

-- of such pieces none begins a statement
abbrev pub AreFreePieces : List (Bool × List ℕ) → Type 0
AreFreePieces [] = ⊤
AreFreePieces (p ∷ ps) = (p.0 ≡ true → starts_behind p.1 ≡ false) × AreFreePieces ps

-- what may be written behind a word: it doesn't go on with the word, and stands before every text that a ; begins
pub record IsReady (w : List ℕ) (os ns : List (Bool × List ℕ)) : Type 0 where
  pub which : is_among changed_words w ≡ true
  pub old_free : AreFreePieces os
  pub new_free : AreFreePieces ns
  pub stops : goes_on (bytes_in ns ++ 59 ∷ []) ≡ false
  pub stands : (z : List ℕ) → AreLaid (59 ∷ z) ns

-- each change is so, and stands where a statement may begin
abbrev pub AreReady : Bool → List Mix → Type 0
AreReady begins [] = ⊤
AreReady begins (Stay true w ∷ m) = AreReady (starts_behind w) m
AreReady begins (Stay false w ∷ m) = AreReady begins m
AreReady begins (Change w os ns ∷ m) = (begins ≡ true) × IsReady w os ns × AreReady true m

-- two texts have their tokens side by side
pub record AreTokensBeside (text text' : List ℕ) (s : List Step) : Type 0 where
  pub old : tokens_in text ≡ olds s
  pub new : tokens_in text' ≡ news s
  pub are : AreSteps true true s

-- where the pieces read are those of a text, the written ones are those of the written text, and the tokens stand side by side
abbrev pub MixLaw : Type 0
MixLaw = (m : List Mix) → AreLaid [] (old_pieces m) → AreReady true m → AreTokensBeside (bytes_in (old_pieces m)) (bytes_in (new_pieces m)) (steps 0 0 m)
