-- The chains that a STIL head is to declare (IEEE 1450-1999, ScanStructures): each bit of a new path goes by the name that it had in the
-- ScanCells of the read head.
use Rattle.std.specs.Prelude.{◌==◌, ◌&&◌, Bool, List, [], ◌∷◌, ◌++◌, ℕ, map, option_map, unwrap_or}
use Rattle.std.specs.List.{find}
use Rattle.chain_trace.specs.declared.path.BitId.{BitId}
use Rattle.chain_trace.specs.declared.path.PathBits.{PathBits}
use Rattle.chain_trace.specs.Parities.{plus, odd}
use Rattle.stil_types.specs.declared.head.ScanChainDecl.{ScanChainDecl}
use Rattle.stil_types.specs.declared.head.StilHead.{StilHead}
use Rattle.head_text.specs.Written.{NewBit, NewChain}
use Rattle.head_text.specs.Laws.{names_if}
use Rattle.head_writer.specs.declared.names.NamedBit.{NamedBit}

-- the first bit with the first name, and so on, as far as there are both
abbrev pub with_names : List BitId → List (List ℕ) → List NamedBit
with_names (b ∷ bs) (n ∷ ns) = record { bit = b; name = n } ∷ with_names bs ns
with_names bs ns = []

-- the bits of a chain's read path with the bytes of their names as they stand in the chain's ScanCells; none where it has no ScanCells
abbrev pub named_bits : List ℕ → ScanChainDecl → List BitId → List NamedBit
named_bits text chain bits = with_names bits (names_if text chain.cells_at)

-- those of all chains beside the read paths
abbrev pub all_named : List ℕ → List ScanChainDecl → List PathBits → List NamedBit
all_named text (c ∷ cs) (b ∷ bs) = named_bits text c b.bits ++ all_named text cs bs
all_named text cs bs = []

-- two bits are the same bit of the same scan path of the same instance
abbrev pub is_bit : BitId → BitId → Bool
is_bit a b = a.instance == b.instance && a.path == b.path && a.index == b.index

-- the bytes of the name of a bit: of several names the first, and no bytes where it has none
abbrev pub name_for : List NamedBit → BitId → List ℕ
name_for names bit = unwrap_or (option_map (λ n. n.name) (find (λ n. is_bit n.bit bit) names)) []

-- the bits of a new path by their names, each with its parity
abbrev pub new_bits : List NamedBit → List BitId → List Bool → List NewBit
new_bits names (b ∷ bs) (p ∷ ps) = record { name = name_for names b; inverts = p } ∷ new_bits names bs ps
new_bits names bs ps = []

-- what a chain is to say of its new path; its inversion is the sum of the parities of all bits and of that behind the last bit
abbrev pub new_chain : List NamedBit → PathBits → NewChain
new_chain names path = record {
  bits = new_bits names path.bits path.parity;
  out_inverts = path.out_parity;
  inversion = plus (odd path.parity) path.out_parity;
}

-- what the chains of a head are to say, by the read path and the new path of each
abbrev pub new_chains : List ℕ → StilHead → List PathBits → List PathBits → List NewChain
new_chains text head old new = map (new_chain (all_named text head.chains old)) new
