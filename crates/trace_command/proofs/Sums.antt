-- Sums modulo 2.
use Rattle.std.proofs.Common.{◌≡◌, ℕ, ◌+◌, ◌<◌, Bool, true, false, List, [], ◌∷◌, ◌++◌, length, drop, get_or, Option, Some, None, refl, sym, ap, ap₂, ◌∙◌}
use Rattle.cell_table.specs.declared.paths.ScanPath.{ScanPath}
use Rattle.cell_table.specs.declared.paths.OutPin.{OutPin}
use Rattle.std.specs.List.{flat_map, slice_get}
use Rattle.netlist_core.specs.declared.netlist.Netlist.{Netlist}
use Rattle.cell_table.specs.Cells.{Cells, ◌>>=◌}
use Rattle.chain_trace.specs.declared.path.Step.{Step}
use Rattle.chain_trace.specs.Paths.{scan_path_at, out_pin_at}
use Rattle.std.proofs.lemmas.List.{drop_more}
use Rattle.chain_trace.proofs.Sums.{plus_none, plus_more}
use Rattle.chain_trace.specs.Parities.{plus, odd, entry_inversions}

pub odd_append : (xs ys : List Bool) → odd (xs ++ ys) ≡ plus (odd xs) (odd ys)
odd_append [] ys = refl
odd_append (x ∷ xs) ys = ap (plus x) (odd_append xs ys) ∙ sym (plus_more x (odd xs) (odd ys))

pub odd_last : (xs : List Bool) (b : Bool) → odd (xs ++ b ∷ []) ≡ plus (odd xs) b
odd_last xs b = odd_append xs (b ∷ []) ∙ ap (plus (odd xs)) (plus_none b)

-- a loop that adds up, one turn on
pub odd_turn : (bs : List Bool) (i : ℕ) (so b : Bool) → i < length bs → b ≡ get_or bs i false → plus so (odd (drop i bs)) ≡ plus (plus so b) (odd (drop (i + 1) bs))
odd_turn bs i so b lt is =
    ap (λ (rest : List Bool). plus so (odd rest)) (drop_more bs i false lt) ∙ sym (plus_more so (get_or bs i false) (odd (drop (i + 1) bs)))
    ∙ ap (λ (c : Bool). plus (plus so c) (odd (drop (i + 1) bs))) (sym is)

pub flat_turn : {X : Type 0} (f : X → List Bool) (xs : List X) (i : ℕ) (d : X) (so : Bool) → i < length xs
    → plus so (odd (flat_map f (drop i xs))) ≡ plus (plus so (odd (f (get_or xs i d)))) (odd (flat_map f (drop (i + 1) xs)))
flat_turn f xs i d so lt =
    ap (λ (rest : List _). plus so (odd (flat_map f rest))) (drop_more xs i d lt)
    ∙ ap (plus so) (odd_append (f (get_or xs i d)) (flat_map f (drop (i + 1) xs)))
    ∙ sym (plus_more so (odd (f (get_or xs i d))) (odd (flat_map f (drop (i + 1) xs))))

-- the parity of one step, entry by entry
pub entry_odd : (path : Option ScanPath) (out : Option OutPin) (p : ScanPath) (o : OutPin) → path ≡ Some p → out ≡ Some o → plus (odd p.bits) o.inverted ≡ odd (entry_inversions path out)
entry_odd path out p o ep eo = sym (odd_last p.bits o.inverted) ∙ ap₂ (λ a b. odd (entry_inversions a b)) (sym ep) (sym eo)

pub no_out : (path : Option ScanPath) (out : Option OutPin) → out ≡ None → false ≡ odd (entry_inversions path out)
no_out None out e = refl
no_out (Some p) out e = ap (λ b. odd (entry_inversions (Some p) b)) (sym e)

-- the out pin is looked up in the step's scan path
pub out_of_path : (n : Netlist) (cells : Cells) (step : Step) (p : ScanPath) (out : Option OutPin) → scan_path_at n cells step.instance step.path ≡ Some p → slice_get p.outs step.out ≡ out
    → out_pin_at n cells step ≡ out
out_of_path n cells step p out e f = ap (λ o. o >>= λ path. slice_get path.outs step.out) e ∙ f
