-- The STIL of n units: sixteen loads, each with a capture behind it.
use Rattle.std.specs.Prelude.{ℕ, ◌+◌, ◌*◌, ◌%◌, cond, nat_eq, nat_lt, List, [], ◌∷◌, ◌++◌, codes, decimal}
use Rattle.std.specs.List.{concat}
use Rattle.design_maker.specs.Pieces.{pieces, between}
use Rattle.design_maker.specs.Chains.{chain_length}

-- clk, se, d and the ports of the chains
unfoldable pub signals_text : List ℕ
signals_text =
    concat
    (codes "STIL 1.0;\nSignals { clk In; se In; d In;" ∷ pieces (between (codes " si") (codes " In { ScanIn; }")) 8
    ∷ pieces (between (codes " so") (codes " Out { ScanOut; }")) 8 ∷ codes " }\n" ∷ [])

-- the structure of chain k: its length and its two ports
abbrev pub scan_chain : ℕ → ℕ → List ℕ
scan_chain n k =
    concat
    (codes "  ScanChain c" ∷ decimal k ∷ codes " {\n    ScanLength " ∷ decimal (chain_length n k) ∷ codes "; ScanIn si" ∷ decimal k
    ∷ codes "; ScanOut so" ∷ decimal k ∷ codes "; ScanInversion 0;\n  }\n" ∷ [])

-- the structures of the eight chains
unfoldable pub structures_text : ℕ → List ℕ
structures_text n = concat (codes "ScanStructures {\n" ∷ pieces (scan_chain n) 8 ∷ codes "}\n" ∷ [])

-- what one shift gives the ports of chain k
abbrev pub shifted : ℕ → List ℕ
shifted k = concat (codes " si" ∷ decimal k ∷ codes "=#; so" ∷ decimal k ∷ codes "=#;" ∷ [])

-- the procedures that load and unload the chains, and that capture
unfoldable pub procedures_text : List ℕ
procedures_text =
    concat
    (codes "Procedures {\n  load_unload { W t1; C { se=1; } Shift { V { clk=P;" ∷ pieces shifted 8
    ∷ codes " } } }\n  capture { W t1; V { se=0; clk=P; } }\n}\n" ∷ [])

-- character t of what call r loads into chain k
abbrev pub load_character : ℕ → ℕ → ℕ → List ℕ
load_character r k t = cond (nat_lt ((k + 3 * t + 5 * r) % 7) 3) (codes "1") (codes "0")

-- character t of what call r compares at chain k
abbrev pub compare_character : ℕ → ℕ → ℕ → List ℕ
compare_character r k t =
    let rest = (k + 2 * t + r) % 5 in cond (nat_eq rest 0) (codes "L") (cond (nat_eq rest 1) (codes "H") (codes "X"))

-- what call r loads into chain k
unfoldable pub load : ℕ → ℕ → ℕ → List ℕ
load n r k = concat (codes " si" ∷ decimal k ∷ codes "=" ∷ pieces (load_character r k) (chain_length n k) ∷ codes ";" ∷ [])

-- what call r compares at chain k
unfoldable pub compare : ℕ → ℕ → ℕ → List ℕ
compare n r k = concat (codes " so" ∷ decimal k ∷ codes "=" ∷ pieces (compare_character r k) (chain_length n k) ∷ codes ";" ∷ [])

-- the first call compares nothing
unfoldable pub first_call : ℕ → List ℕ
first_call n = concat (codes "  Call load_unload {" ∷ pieces (load n 0) 8 ∷ codes " }\n  Call capture;\n" ∷ [])

-- call r, which loads each chain and compares at it
unfoldable pub later_call : ℕ → ℕ → List ℕ
later_call n r = concat (codes "  Call load_unload {" ∷ pieces (λ k. load n r k ++ compare n r k) 8 ∷ codes " }\n  Call capture;\n" ∷ [])

-- the sixteen calls
unfoldable pub pattern_text : ℕ → List ℕ
pattern_text n = concat (codes "Pattern p {\n" ∷ first_call n ∷ pieces (λ r. later_call n (r + 1)) 15 ∷ codes "}\n" ∷ [])

-- the whole STIL
unfoldable pub stil_text : ℕ → List ℕ
stil_text n = concat (signals_text ∷ structures_text n ∷ procedures_text ∷ pattern_text n ∷ [])
