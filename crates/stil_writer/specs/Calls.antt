-- How a scan call is written (IEEE 1450-1999, Call and Macro, in this profile): its bytes up to and with the brace that opens its
-- block as they are, and then its data, a line for each string.
use Rattle.std.specs.Prelude.{ℕ, ◌≡◌, ◌==◌, ◌&&◌, if◌then◌else◌, Bool, true, false, not, List, [], ◌∷◌, ◌++◌, take, codes, Option, Some, None, ⊤}
use Rattle.std.specs.List.{list_any, list_all}
use Rattle.std.specs.Str.{bytes_eq}
use Rattle.token_forms.specs.Tokens.{Token}
use Rattle.stil_tokens.specs.StilTokens.{tokens_in}
use Rattle.stil_tokens.specs.StilStatements.{is_only}
use Rattle.stil_types.specs.declared.head.ScanChainDecl.{ScanChainDecl}
use Rattle.stil_types.specs.declared.statement.ScanCall.{ScanCall}

-- the place behind the first token {
abbrev pub brace_end : List Token → Option ℕ
brace_end [] = None
brace_end (t ∷ ts) = if is_only 123 t.text then Some t.end else brace_end ts

-- `    "name"=data;` and a line feed
abbrev pub item_line : List ℕ → List ℕ → List ℕ
item_line port given = codes "    \"" ++ (port ++ (codes "\"=" ++ (given ++ 59 ∷ 10 ∷ [])))

-- the line of a string, where it is written
abbrev pub side_line : List ℕ → Option (List ℕ) → List ℕ
side_line port None = []
side_line port (Some given) = item_line port given

-- for each chain the line of its load and then that of its compare
abbrev pub item_lines : List ScanChainDecl → List (Option (List ℕ)) → List (Option (List ℕ)) → List ℕ
item_lines (c ∷ cs) (load ∷ loads) (compare ∷ compares) = side_line c.scan_in load ++ (side_line c.scan_out compare ++ item_lines cs loads compares)
item_lines chains loads compares = []

-- what stands behind the brace
abbrev pub block_text : List ScanChainDecl → ScanCall → List ℕ
block_text chains call = 10 ∷ (item_lines chains call.loads call.compares ++ codes "  }")

-- the block in its place
abbrev pub with_block : List ℕ → List ℕ → Option ℕ → List ℕ
with_block text block None = text
with_block text block (Some n) = take n text ++ block

-- the bytes of a scan call with other data; one that doesn't shift is as it was
abbrev pub written_scan : List ScanChainDecl → List ℕ → ScanCall → List ℕ
written_scan chains text call = if call.shifts == 0 then text else with_block text (block_text chains call) (brace_end (tokens_in text))

-- a name that can stand in quotes and is read as itself: no byte of it is a quote or a backslash
abbrev pub is_plain : List ℕ → Bool
is_plain name = list_all (λ b. not (b == 34) && not (b == 92)) name

-- the names of the ports, each as often as it stands
abbrev pub ports_of : List ScanChainDecl → List (List ℕ)
ports_of [] = []
ports_of (c ∷ cs) = c.scan_in ∷ c.scan_out ∷ ports_of cs

-- no name stands twice
abbrev pub AreOnce : List (List ℕ) → Type 0
AreOnce [] = ⊤
AreOnce (n ∷ ns) = (list_any (bytes_eq n) ns ≡ false) × AreOnce ns

-- the ports of chains can be written
pub record ArePorts (chains : List ScanChainDecl) : Type 0 where
  pub plain : list_all is_plain (ports_of chains) ≡ true
  pub once : AreOnce (ports_of chains)
