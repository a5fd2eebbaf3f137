-- What the written text of a head denotes (IEEE 1450-1999, ScanStructures, in this profile).
use Rattle.std.specs.Prelude.{◌≡◌, ℕ, ◌^◌, ◌<◌, true, List, [], ◌∷◌, ◌++◌, length, drop, is_some, Option, Some, None, Contains, ⊤, ◌⊎◌}
use Rattle.std.specs.List.{flat_map, AllByRecursion as Each}
use Rattle.base_types.specs.declared.span.Span.{Span}
use Rattle.splice.specs.Spliced.{AreRising}
use Rattle.stil_types.specs.declared.head.ScanChainDecl.{ScanChainDecl}
use Rattle.stil_types.specs.declared.head.StilHead.{StilHead}
use Rattle.stil_parts.specs.declared.gap.Comment.TheVariants.{Outside}
use Rattle.stil_parts.specs.declared.head.HeadTurn.TheVariants.{Here}
use Rattle.stil_parts.specs.Heads.{head_turn}
use Rattle.stil_head.specs.Ends.{head_text}
use Rattle.stil_head.specs.Heads.{IsHead, DenotesHead}
use Rattle.head_alike.specs.Heads.{AllSayAs, IsHeadAnew}
use Rattle.head_alike.specs.Erased.{head_tokens}
use Rattle.head_text.specs.Written.{name_texts, NewChain, head_edits, written_head, declared}

-- the bytes of the names of a list of cells, where there is one
abbrev pub names_if : List ℕ → Option Span → List (List ℕ)
names_if text None = []
names_if text (Some at) = name_texts text at

-- those of all chains
abbrev pub read_names : List ℕ → List ScanChainDecl → List (List ℕ)
read_names text chains = flat_map (λ (c : ScanChainDecl). names_if text c.cells_at) chains

-- a new chain fits one that was read: 32 bits count its bits, and where ScanCells stood each bit has one of the names
pub record FitsChain (names : List (List ℕ)) (old : ScanChainDecl) (new : NewChain) : Type 0 where
  pub some : 0 < length new.bits
  pub few : length new.bits < 2 ^ 32
  pub named : is_some old.cells ≡ true → Each (λ b. Contains names b.name) new.bits

-- one for each chain
abbrev pub FitChains : List (List ℕ) → List ScanChainDecl → List NewChain → Type 0
FitChains names [] [] = ⊤
FitChains names (c ∷ cs) (n ∷ ns) = FitsChain names c n × FitChains names cs ns
FitChains names cs ns = ⊥

-- the written text of a head is a head that says what was read but for the chains, and of these what is declared anew; it has the
-- tokens of the read one but for the numbers and lists of its chains; and what is replaced lies in its order
pub record IsWrittenText (text : List ℕ) (head : StilHead) (new : List NewChain) : Type 0 where
  pub says : IsHeadAnew (written_head new head text) head (declared head.chains new)
  pub tokens : head_tokens (written_head new head text) ≡ head_tokens text
  pub rising : AreRising 0 (length text) (head_edits head.marks head.chains new)

-- the written text of a head for chains that fit it says them
abbrev pub TextLaw : Type 0
TextLaw = (text : List ℕ) (head : StilHead) (new : List NewChain) → IsHead text head → FitChains (read_names text head.chains) head.chains new → IsWrittenText text head new

-- what may stand behind the written head: nothing, or a Pattern where a Pattern stood
abbrev pub MayFollow : List ℕ → List ℕ → Type 0
MayFollow was rest = (rest ≡ []) ⊎ ((head_turn true Outside was ≡ Some Here) × (head_turn true Outside rest ≡ Some Here))

-- a text that begins with a written head denotes it: what was read but for the chains, and of these what is declared anew
pub record DenotesAnew (head : StilHead) (new : List NewChain) (out rest : List ℕ) : Type 0 where
  pub again : StilHead
  pub is : DenotesHead (out ++ rest) again
  pub end : again.end ≡ length out
  pub chains : AllSayAs (declared head.chains new) again.chains
  pub procedures : again.procedures ≡ head.procedures
  pub macros : again.macros ≡ head.macros
  pub keywords : again.keywords ≡ head.keywords

-- so a text that begins with it denotes that head
abbrev pub HeadLaw : Type 0
HeadLaw = (bytes : List ℕ) (head : StilHead) (new : List NewChain) (rest : List ℕ) → DenotesHead bytes head → FitChains (read_names (head_text bytes) head.chains) head.chains new
    → MayFollow (drop head.end bytes) rest → DenotesAnew head new (written_head new head (head_text bytes)) rest
