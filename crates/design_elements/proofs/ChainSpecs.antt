-- The chains as numbers, as one chain more is looked at.
use Rattle.std.proofs.Common.{◌≡◌, ℕ, ◌+◌, ◌<◌, List, [], ◌∷◌, ◌++◌, length, get_or, take, ap, ◌∙◌, arith, length-take}
use Rattle.netlist_core.specs.declared.netlist.Netlist.{Netlist}
use Rattle.cell_table.specs.Cells.{Cells}
use Rattle.def_reader.specs.declared.design.ScanChainText.{ScanChainText}
use Rattle.def_reader.specs.declared.design.Design.{Design}
use Rattle.list_laws.proofs.RowsMore.{take_next}
use Rattle.chain_rules.specs.declared.spec.ChainSpec.{ChainSpec}
use Rattle.design_elements.specs.Elements.{chain_spec, specs_from}

specs_last : (n : Netlist) (cells : Cells) (d : Design) (k : ℕ) (xs : List ScanChainText) (x : ScanChainText)
    → specs_from n cells d k (xs ++ x ∷ []) ≡ specs_from n cells d k xs ++ chain_spec n cells d (k + length xs) x ∷ []
specs_last n cells d k [] x = ap (λ (c : ℕ). chain_spec n cells d c x ∷ []) (omega arith)
specs_last n cells d k (y ∷ ys) x =
    let place : (k + 1) + length ys ≡ k + length (y ∷ ys) = omega arith in
    ap (λ (l : List ChainSpec). chain_spec n cells d k y ∷ l)
    (specs_last n cells d (k + 1) ys x ∙ ap (λ (c : ℕ). specs_from n cells d (k + 1) ys ++ chain_spec n cells d c x ∷ []) place)

-- one chain more
pub specs_next : (n : Netlist) (cells : Cells) (d : Design) (xs : List ScanChainText) (i : ℕ) (x : ScanChainText) → i < length xs → x ≡ get_or xs i x
    → specs_from n cells d 0 (take (i + 1) xs) ≡ specs_from n cells d 0 (take i xs) ++ chain_spec n cells d i x ∷ []
specs_next n cells d xs i x lt is =
    let taken : 0 + length (take i xs) ≡ i = omega (arith, length-take i xs) in
    ap (specs_from n cells d 0) (take_next xs i x lt is) ∙ specs_last n cells d 0 (take i xs) x
    ∙ ap (λ (c : ℕ). specs_from n cells d 0 (take i xs) ++ chain_spec n cells d c x ∷ []) taken
