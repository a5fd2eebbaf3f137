-- The loop that reads the cells: those that stand in front, and the members that are still read.
use Rattle.std.proofs.Common.{◌≡◌, ℕ, List, [], ◌∷◌, ◌++◌, map, Option, Some, None, Result, Ok, Err, String, Global, string_bytes, Less, nat_cmp, refl, sym, ap, ◌∙◌, subst, append_assoc}
use Rattle.std.proofs.lemmas.List.{append-nil, map-append}
use Rattle.std.specs.Cmp.Lexicographic.{slice_cmp}
use Rattle.std.specs.List.{AllByRecursion}
use Rattle.std.specs.List.Sorted.{IsStrictlySortedBy}
use Rattle.std.specs.Map.{keys_of}
use Rattle.std.specs.String.{string_cmp}
use Rattle.base_types.specs.declared.fault.Fault.{Fault}
use Rattle.toml.specs.View.{view, members_view}
use Rattle.toml.specs.declared.value.Value.{Value}
use Rattle.base_types.specs.declared.stop.Stop.{Stop}
use Rattle.base_types.specs.declared.stop.Stop.TheVariants as stops
use Rattle.cell_table.specs.Cells.{Gives, Cells, cell_of, cells_of, with_cell, shape_fault}
use Rattle.cell_table.specs.declared.paths.ScanPath.{ScanPath}
use Rattle.cell_table.proofs.Loops.{Entry}
use Rattle.cell_table.specs.declared.table.Cell.{Cell}
use Rattle.cell_table.specs.Kept.{cells_view, AreInOrder}

abbrev pub with_cells : Cells → Result Cells Fault → Result Cells Fault
with_cells front (Ok cells) = Ok (front ++ cells)
with_cells front (Err fault) = Err fault

pub with_none : (read : Result Cells Fault) → with_cells [] read ≡ read
with_none (Ok cells) = refl
with_none (Err fault) = refl

with_more : (front : Cells) (name : List ℕ) (paths : List ScanPath) (read : Result Cells Fault) → with_cells front (with_cell name (Some paths) read) ≡ with_cells (front ++ (name, paths) ∷ []) read
with_more front name paths (Ok cells) = ap (λ (xs : Cells). Ok xs) (sym (append_assoc front ((name, paths) ∷ []) cells))
with_more front name paths (Err fault) = refl

-- the names so far and those still to come ascend
abbrev pub cell_names : List Cell → List (List ℕ)
cell_names cells = map (λ c. c.name) cells

abbrev pub entry_names : List Entry → List (List ℕ)
entry_names es = map (λ e. string_bytes e.0) es

abbrev pub Ascend : List (List ℕ) → Type 0
Ascend names = IsStrictlySortedBy (slice_cmp nat_cmp) names

above : (k : List ℕ) (es : List Entry) (s : String Global) → string_bytes s ≡ k → AllByRecursion (λ y. string_cmp s y ≡ Less) (keys_of es) → AllByRecursion (λ y. slice_cmp nat_cmp k y ≡ Less) (entry_names es)
above k [] s is h = tt
above k (e ∷ es) s is h = (rw (← is) h.0, above k es s is h.1)

pub ascend_from : (es : List Entry) → IsStrictlySortedBy string_cmp (keys_of es) → Ascend (entry_names es)
unfolding IsStrictlySortedBy
ascend_from [] h = tt
ascend_from (e ∷ es) h = (above (string_bytes e.0) es e.0 refl h.0, ascend_from es h.1)

module _ (front : List Cell) (all rest : List Entry) (k : String Global) (v : Value) (name : List ℕ) (total : Result Cells Fault) (is : all ≡ (k, v) ∷ rest) (same_name : name ≡ string_bytes k) where
  pub cell_goes_on : (paths : List ScanPath) → cell_of (view v) ≡ Some paths
      → with_cells (cells_view front) (cells_of (members_view all)) ≡ total
      → with_cells (cells_view front ++ (name, paths) ∷ []) (cells_of (members_view rest)) ≡ total
  unfolding cells_of
  cell_goes_on paths read same =
      let turn : with_cells (cells_view front) (cells_of (members_view all)) ≡ with_cells (cells_view front ++ (name, paths) ∷ []) (cells_of (members_view rest))
      = rw (is, ← same_name, read) (with_more (cells_view front) name paths (cells_of (members_view rest))) in
      sym turn ∙ same

  pub cell_stops : cell_of (view v) ≡ None → with_cells (cells_view front) (cells_of (members_view all)) ≡ total → total ≡ Err (shape_fault name)
  unfolding cells_of
  cell_stops read same =
      let turn : with_cells (cells_view front) (cells_of (members_view all)) ≡ Err (shape_fault name) = rw (is, ← same_name, read) refl in
      sym same ∙ turn

  -- the names ascend on
  pub ascend_on : Ascend (cell_names front ++ entry_names all) → Ascend (cell_names front ++ name ∷ entry_names rest)
  ascend_on h = subst (λ (names : List (List ℕ)). Ascend (cell_names front ++ names)) (ap entry_names is ∙ ap (λ (n : List ℕ). n ∷ entry_names rest) (sym same_name)) h

pub ascend_more : (front : List Cell) (cell : Cell) (rest : List (List ℕ)) → Ascend (cell_names front ++ cell.name ∷ rest) → Ascend (cell_names (front ++ cell ∷ []) ++ rest)
ascend_more front cell rest h =
    let e = map-append (λ (c : Cell). c.name) front (cell ∷ []) in
    subst Ascend (sym (append_assoc (cell_names front) (cell.name ∷ []) rest) ∙ ap (λ (names : List (List ℕ)). names ++ rest) (sym e)) h

-- all cells are there, and in order
pub in_order : (front : List Cell) (all : List Entry) → all ≡ [] → Ascend (cell_names front ++ entry_names all) → AreInOrder front
in_order front all none h = subst Ascend (ap (λ (es : List Entry). cell_names front ++ entry_names es) none ∙ append-nil (cell_names front)) h

pub cells_end : (front : List Cell) (all : List Entry) (total : Result Cells Fault) → all ≡ [] → with_cells (cells_view front) (cells_of (members_view all)) ≡ total → total ≡ Ok (cells_view front)
unfolding cells_of
cells_end front all total none same =
    let turn : with_cells (cells_view front) (cells_of (members_view all)) ≡ Ok (cells_view front) = rw none (ap (λ (xs : Cells). Ok xs) (append-nil (cells_view front))) in
    sym same ∙ turn

pub gives_none : {X : Type 0} (e : Stop) (read : Option X) → e ≡ stops.NoForm → Gives {X = X} (Err e) read → read ≡ None
gives_none stops.NoForm read is h = h
gives_none stops.NoMemory read is h = absurd cc

-- one turn of the loop, with one more cell
module _ (old new : List Cell) (all rest : List Entry) (k : String Global) (v : Value) (cell : Cell) (total : Result Cells Fault) (is : all ≡ (k, v) ∷ rest) (name : cell.name ≡ string_bytes k) (read : cell_of (view v) ≡ Some cell.paths)
    (same : with_cells (cells_view old) (cells_of (members_view all)) ≡ total) (ascend : Ascend (cell_names old ++ entry_names all)) (added : new ≡ old ++ cell ∷ []) where
  pub same_after : with_cells (cells_view new) (cells_of (members_view rest)) ≡ total
  same_after =
      ap (λ (cs : List Cell). with_cells (cells_view cs) (cells_of (members_view rest))) added
      ∙ ap (λ (cs : Cells). with_cells cs (cells_of (members_view rest))) (map-append (λ (c : Cell). (c.name, c.paths)) old (cell ∷ []))
      ∙ cell_goes_on old all rest k v cell.name total is name cell.paths read same

  pub ascend_after : Ascend (cell_names new ++ entry_names rest)
  ascend_after =
      subst (λ (cs : List Cell). Ascend (cell_names cs ++ entry_names rest)) (sym added) (ascend_more old cell (entry_names rest) (ascend_on old all rest k v cell.name total is name ascend))
