-- The names and the cells of the instances, which edits leave alone, and what hangs on them alone.
use Rattle.std.proofs.Common.{◌≡◌, ℕ, ◌+◌, List, [], ◌∷◌, length, map, Option, Some, None, option_map, option_and_then, refl, sym, ap, ◌∙◌}
use Rattle.std.specs.List.{slice_get}
use Rattle.std.proofs.lemmas.List.{length-map}
use Rattle.std.proofs.lemmas.Option.{slice_get-map}
use Rattle.netlist_core.specs.declared.netlist.NetName.{NetName}
use Rattle.netlist_core.specs.declared.netlist.Instance.{Instance}
use Rattle.netlist_core.specs.declared.netlist.Netlist.{Netlist}
use Rattle.netlist_core.specs.Netlists.{NamedInstance, named_instance, AreWiredAlike}
use Rattle.cell_table.specs.declared.paths.ScanPath.{ScanPath}
use Rattle.cell_table.specs.Cells.{Cells}
use Rattle.cell_table.specs.Table.{paths_at}
use Rattle.chain_trace.specs.declared.path.Step.{Step}
use Rattle.chain_trace.specs.declared.path.Path.{Path}
use Rattle.chain_trace.specs.Paths.{scan_path_at, out_pin_at}
use Rattle.path_links.specs.declared.edits.PinEdit.{PinEdit}
use Rattle.path_links.specs.Edited.{map_from}
use Rattle.net_edit.specs.declared.changes.Change.{Change}
use Rattle.net_edit.specs.Tails.{freed_between, pin_edits, changed_instance, rewired}
use Rattle.def_writer.specs.Placing.{instance_name}

-- the name and the cell of an instance
abbrev pub Head : Type 0
Head = List ℕ × List ℕ

abbrev pub head : Instance → Head
head i = (i.name, i.cell)

abbrev pub heads : Netlist → List Head
heads n = map head n.instances

abbrev named_head : NamedInstance → Head
named_head i = (i.name, i.cell)

named_heads : (nets : List NetName) (instances : List Instance) → map named_head (map (named_instance nets) instances) ≡ map head instances
named_heads nets [] = refl
named_heads nets (i ∷ is) = ap (λ (l : List Head). head i ∷ l) (named_heads nets is)

changed_heads : (n : Netlist) (cells : Cells) (fs : List Change) (pins : List PinEdit) (k : ℕ) (instances : List Instance) → map head (map_from (changed_instance n cells fs pins) k instances) ≡ map head instances
changed_heads n cells fs pins k [] = refl
changed_heads n cells fs pins k (i ∷ is) = ap (λ (l : List Head). head i ∷ l) (changed_heads n cells fs pins (k + 1) is)

heads_alike : (n m : Netlist) → AreWiredAlike n m → heads n ≡ heads m
heads_alike n m same = sym (named_heads n.nets n.instances) ∙ ap (λ (instances : List NamedInstance). map named_head instances) same.instances ∙ named_heads m.nets m.instances

-- a netlist that is wired like the one with the edits has the heads of the read one
pub heads_kept : (n : Netlist) (cells : Cells) (names : List (List ℕ)) (old new : List Path) (w : Netlist) → AreWiredAlike w (rewired n cells names old new) → heads w ≡ heads n
heads_kept n cells names old new w same =
    heads_alike w (rewired n cells names old new) same ∙ changed_heads n cells (freed_between n cells old new) (pin_edits n cells old new) 0 n.instances

module _ (w n : Netlist) (same : heads w ≡ heads n) where
  pub count_kept : length w.instances ≡ length n.instances
  count_kept = sym (length-map w.instances head) ∙ ap (λ (l : List Head). length l) same ∙ length-map n.instances head

  pub head_at : (i : ℕ) → option_map head (slice_get w.instances i) ≡ option_map head (slice_get n.instances i)
  head_at i = sym (slice_get-map head w.instances i) ∙ ap (λ (l : List Head). slice_get l i) same ∙ slice_get-map head n.instances i

  abbrev paths_in : Cells → ℕ → List ℕ → Option ScanPath
  paths_in cells path cell = option_and_then (λ (paths : List ScanPath). slice_get paths path) (paths_at cell cells)

  by_head : (cells : Cells) (path : ℕ) (o : Option Instance) → option_and_then (λ (i : Instance). paths_in cells path i.cell) o ≡ option_and_then (λ (h : Head). paths_in cells path h.1) (option_map head o)
  by_head cells path None = refl
  by_head cells path (Some i) = refl

  pub scan_path_kept : (cells : Cells) (i path : ℕ) → scan_path_at w cells i path ≡ scan_path_at n cells i path
  scan_path_kept cells i path =
      by_head cells path (slice_get w.instances i) ∙ ap (λ (o : Option Head). option_and_then (λ (h : Head). paths_in cells path h.1) o) (head_at i) ∙ sym (by_head cells path (slice_get n.instances i))

  pub out_pin_kept : (cells : Cells) (step : Step) → out_pin_at w cells step ≡ out_pin_at n cells step
  out_pin_kept cells step = ap (λ (o : Option ScanPath). option_and_then (λ (path : ScanPath). slice_get path.outs step.out) o) (scan_path_kept cells step.instance step.path)

  abbrev name_in : Option Head → List ℕ
  name_in None = []
  name_in (Some h) = h.0

  name_by : (o : Option Instance) → instance_name o ≡ name_in (option_map head o)
  name_by None = refl
  name_by (Some i) = refl

  pub name_kept : (i : ℕ) → instance_name (slice_get w.instances i) ≡ instance_name (slice_get n.instances i)
  name_kept i = name_by (slice_get w.instances i) ∙ ap name_in (head_at i) ∙ sym (name_by (slice_get n.instances i))
