-- The parity of a path is the sum of its bits' parities.
use Rattle.std.proofs.Common.{◌≡◌, ℕ, ◌+◌, Bool, true, false, List, [], ◌∷◌, ◌++◌, Option, Some, None, refl, sym, ap, ap₂, ◌∙◌}
use Rattle.std.specs.List.{flat_map}
use Rattle.netlist_core.specs.declared.netlist.Netlist.{Netlist}
use Rattle.cell_table.specs.declared.paths.ScanPath.{ScanPath}
use Rattle.cell_table.specs.declared.paths.OutPin.{OutPin}
use Rattle.cell_table.specs.Cells.{Cells}
use Rattle.chain_trace.specs.declared.path.Step.{Step}
use Rattle.chain_trace.specs.declared.path.PathBits.{PathBits}
use Rattle.chain_trace.specs.Paths.{scan_path_at, out_pin_at}
use Rattle.chain_trace.specs.Parities.{Mark, Turn, Bit, bit_marks, entry_marks, step_marks, path_marks, plus, odd, entry_inversions, step_inversions, path_parity, parities, last_parity, AreBitsOf}

pub plus_none : (a : Bool) → plus a false ≡ a
plus_none true = refl
plus_none false = refl

pub plus_more : (a b c : Bool) → plus (plus a b) c ≡ plus a (plus b c)
plus_more true true true = refl
plus_more true true false = refl
plus_more true false c = refl
plus_more false b c = refl

-- the inversions among the marks
abbrev turns : List Mark → List Bool
turns [] = []
turns (Turn b ∷ ms) = b ∷ turns ms
turns (Bit bit ∷ ms) = turns ms

turns_append : (xs ys : List Mark) → turns (xs ++ ys) ≡ turns xs ++ turns ys
turns_append [] ys = refl
turns_append (Turn b ∷ xs) ys = ap (λ (bs : List Bool). b ∷ bs) (turns_append xs ys)
turns_append (Bit bit ∷ xs) ys = turns_append xs ys

turns_bits : (instance path k : ℕ) (bs : List Bool) → turns (bit_marks instance path k bs) ≡ bs
turns_bits instance path k [] = refl
turns_bits instance path k (b ∷ bs) = ap (λ (cs : List Bool). b ∷ cs) (turns_bits instance path (k + 1) bs)

turns_entry : (step : Step) (path : Option ScanPath) (out : Option OutPin) → turns (entry_marks step path out) ≡ entry_inversions path out
turns_entry step None out = refl
turns_entry step (Some path) None = refl
turns_entry step (Some path) (Some out) =
    turns_append (bit_marks step.instance step.path 0 path.bits) (Turn out.inverted ∷ []) ∙ ap (λ (bs : List Bool). bs ++ out.inverted ∷ []) (turns_bits step.instance step.path 0 path.bits)

turns_path : (n : Netlist) (cells : Cells) (steps : List Step) → turns (path_marks n cells steps) ≡ flat_map (step_inversions n cells) steps
turns_path n cells [] = refl
turns_path n cells (step ∷ steps) =
    turns_append (step_marks n cells step) (path_marks n cells steps)
    ∙ ap₂ ◌++◌ (turns_entry step (scan_path_at n cells step.instance step.path) (out_pin_at n cells step)) (turns_path n cells steps)

-- the bits' parities and the last one add up to the inversions
sum_marks : (so : Bool) (ms : List Mark) → plus (odd (parities so ms)) (last_parity so ms) ≡ plus so (odd (turns ms))
sum_marks so [] = sym (plus_none so)
sum_marks so (Turn b ∷ ms) = sum_marks (plus so b) ms ∙ plus_more so b (odd (turns ms))
sum_marks so (Bit bit ∷ ms) = plus_more so (odd (parities false ms)) (last_parity false ms) ∙ ap (plus so) (sum_marks false ms)

pub sum_path : (n : Netlist) (cells : Cells) (steps : List Step) (all : PathBits) → AreBitsOf n cells steps all → path_parity n cells steps ≡ plus (odd all.parity) all.out_parity
sum_path n cells steps all are =
    ap odd (sym (turns_path n cells steps)) ∙ sym (sum_marks false (path_marks n cells steps))
    ∙ ap₂ (λ (p : List Bool) (o : Bool). plus (odd p) o) (sym are.parity) (sym are.out_parity)
