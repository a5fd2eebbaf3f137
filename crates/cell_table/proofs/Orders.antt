-- The out pins that are read ascend, since the entries of a table do.
use Rattle.std.proofs.Common.{◌≡◌, ℕ, List, [], ◌∷◌, ◌++◌, String, Global, string_bytes, sym, ap, ◌∙◌, subst, append_assoc}
use Rattle.std.specs.List.{AllByRecursion as Each}
use Rattle.std.proofs.lemmas.List.{append-nil, map-append}
use Rattle.toml.specs.declared.value.Value.{Value}
use Rattle.cell_table.specs.declared.paths.OutPin.{OutPin}
use Rattle.cell_table.specs.declared.paths.ScanPath.{ScanPath}
use Rattle.cell_table.specs.Ascending.{AreAscending, out_names, HasOutsInOrder, HaveOutsInOrder}
use Rattle.cell_table.proofs.Loops.{Entry}
use Rattle.cell_table.proofs.CellLoop.{entry_names}
use Rattle.cell_table.specs.declared.table.Cell.{Cell}
use Rattle.cell_table.specs.Kept.{cells_view}

pub each_more : {X : Type 0} (P : X → Type 0) (xs : List X) (x : X) → Each P xs → P x → Each P (xs ++ x ∷ [])
each_more P [] x all here = (here, tt)
each_more P (y ∷ ys) x all here = (all.0, each_more P ys x all.1 here)

-- the pins so far and those still to come ascend
abbrev pub DoAscend : List OutPin → List Entry → Type 0
DoAscend outs entries = AreAscending (out_names outs ++ entry_names entries)

pub outs_more : (outs : List OutPin) (out : OutPin) (all rest : List Entry) (k : String Global) (v : Value) → all ≡ (k, v) ∷ rest → out.pin ≡ string_bytes k → DoAscend outs all → DoAscend (outs ++ out ∷ []) rest
outs_more outs out all rest k v is name h =
    let named : entry_names all ≡ out.pin ∷ entry_names rest = ap entry_names is ∙ ap (λ (n : List ℕ). n ∷ entry_names rest) (sym name) in
    let more : out_names (outs ++ out ∷ []) ≡ out_names outs ++ out.pin ∷ [] = map-append (λ (o : OutPin). o.pin) outs (out ∷ []) in
    subst AreAscending
    (ap (λ (names : List (List ℕ)). out_names outs ++ names) named ∙ sym (append_assoc (out_names outs) (out.pin ∷ []) (entry_names rest))
    ∙ ap (λ (names : List (List ℕ)). names ++ entry_names rest) (sym more)) h

pub outs_end : (outs : List OutPin) (all : List Entry) → all ≡ [] → DoAscend outs all → AreAscending (out_names outs)
outs_end outs all none h =
    subst AreAscending (ap (λ (es : List Entry). out_names outs ++ entry_names es) none ∙ append-nil (out_names outs)) h

-- the cells so far with one more
pub cells_more : (old new : List Cell) (cell : Cell) → new ≡ old ++ cell ∷ [] → HaveOutsInOrder (cells_view old) → Each HasOutsInOrder cell.paths → HaveOutsInOrder (cells_view new)
cells_more old new cell added all here =
    subst HaveOutsInOrder (sym (ap cells_view added ∙ map-append (λ (c : Cell). (c.name, c.paths)) old (cell ∷ [])))
    (each_more (λ (c : List ℕ × List ScanPath). Each HasOutsInOrder c.1) (cells_view old) (cell.name, cell.paths) all here)
