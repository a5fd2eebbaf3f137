-- The nets of pins where some stand on others than before.
use Rattle.std.proofs.Common.{◌≡◌, ℕ, ◌+◌, Bool, true, false, cond, List, [], ◌∷◌, map, Option, Some, None, option_map, option_and_then, refl, ap, ◌∙◌, arith}
use Rattle.std.specs.List.{slice_get}
use Rattle.std.specs.Str.{bytes_eq}
use Rattle.std.proofs.lemmas.Slice.Eq.{bytes_eq-Decides}
use Rattle.std.proofs.lemmas.Option.{none-some}
use Rattle.netlist_core.specs.declared.netlist.NetId.{NetId}
use Rattle.netlist_core.specs.declared.netlist.Connection.{Connection}
use Rattle.netlist_core.specs.declared.netlist.Instance.{Instance}
use Rattle.netlist_core.specs.declared.netlist.Netlist.{Netlist}
use Rattle.netlist_core.specs.Netlists.{single_net, connection_at, net_at}
use Rattle.cell_table.specs.declared.paths.ScanPath.{ScanPath}
use Rattle.cell_table.specs.Cells.{Cells}
use Rattle.cell_table.specs.Table.{paths_at}
use Rattle.chain_trace.specs.declared.path.Step.{Step}
use Rattle.chain_trace.specs.Paths.{scan_path_at, out_pin_at, pin_net}
use Rattle.path_links.specs.Edited.{edited_expr, map_from}
use Rattle.path_links.proofs.PathNets.{map_from_at}

-- what stands newly at each pin of an instance
abbrev pub At : Type 0
At = ℕ → List ℕ → Option NetId

abbrev pub changed : At → ℕ → Connection → Connection
changed at i c = record { pin = c.pin; expr = edited_expr (at i c.pin) c.expr }

abbrev pub made : At → ℕ → Instance → Instance
made at k placed = record {
  name = placed.name;
  cell = placed.cell;
  connections = map (changed at k) placed.connections;
  line = placed.line;
}

module _ (n m : Netlist) (cells : Cells) (at : At) (are : m.instances ≡ map_from (made at) 0 n.instances) where
  instance_at : (i : ℕ) → slice_get m.instances i ≡ option_map (made at i) (slice_get n.instances i)
  instance_at i =
      ap (λ (is : List Instance). slice_get is i) are ∙ map_from_at (made at) 0 n.instances i
      ∙ (let e : 0 + i ≡ i = omega arith in ap (λ (j : ℕ). option_map (made at j) (slice_get n.instances i)) e)

  abbrev path_of : ℕ → Instance → Option ScanPath
  path_of path placed = option_and_then (λ (paths : List ScanPath). slice_get paths path) (paths_at placed.cell cells)

  path_made : (i path : ℕ) (o : Option Instance) → option_and_then (path_of path) (option_map (made at i) o) ≡ option_and_then (path_of path) o
  path_made i path None = refl
  path_made i path (Some placed) = refl

  pub scan_path_same : (i path : ℕ) → scan_path_at m cells i path ≡ scan_path_at n cells i path
  scan_path_same i path = ap (λ (o : Option Instance). option_and_then (path_of path) o) (instance_at i) ∙ path_made i path (slice_get n.instances i)

  pub out_pin_same : (step : Step) → out_pin_at m cells step ≡ out_pin_at n cells step
  out_pin_same step = ap (λ (o : Option ScanPath). option_and_then (λ (path : ScanPath). slice_get path.outs step.out) o) (scan_path_same step.instance step.path)

  abbrev net_of : List ℕ → List Connection → Option NetId
  net_of pin cs = option_and_then (λ (c : Connection). single_net c.expr.bits) (connection_at pin cs)

  pin_is : (c : Connection) (pin : List ℕ) → bytes_eq c.pin pin ≡ true → c.pin ≡ pin
  pin_is c pin e = (bytes_eq-Decides c.pin pin).0 e

  kept_case : (i : ℕ) (pin : List ℕ) (c : Connection) (cs : List Connection) (b : Bool) → bytes_eq c.pin pin ≡ b → at i pin ≡ None
      → net_of pin (map (changed at i) cs) ≡ net_of pin cs
      → option_and_then (λ (d : Connection). single_net d.expr.bits) (cond b (Some (changed at i c)) (connection_at pin (map (changed at i) cs)))
      ≡ option_and_then (λ (d : Connection). single_net d.expr.bits) (cond b (Some c) (connection_at pin cs))
  kept_case i pin c cs true e none more =
      ap (λ (o : Option NetId). single_net (edited_expr o c.expr).bits) (ap (at i) (pin_is c pin e) ∙ none)
  kept_case i pin c cs false e none more = more

  net_kept : (i : ℕ) (pin : List ℕ) (cs : List Connection) → at i pin ≡ None → net_of pin (map (changed at i) cs) ≡ net_of pin cs
  net_kept i pin [] none = refl
  net_kept i pin (c ∷ cs) none = kept_case i pin c cs (bytes_eq c.pin pin) refl none (net_kept i pin cs none)

  given_case : (i : ℕ) (pin : List ℕ) (net old : NetId) (c : Connection) (cs : List Connection) (b : Bool) → bytes_eq c.pin pin ≡ b → at i pin ≡ Some net
      → (net_of pin cs ≡ Some old → net_of pin (map (changed at i) cs) ≡ Some net)
      → option_and_then (λ (d : Connection). single_net d.expr.bits) (cond b (Some c) (connection_at pin cs)) ≡ Some old
      → option_and_then (λ (d : Connection). single_net d.expr.bits) (cond b (Some (changed at i c)) (connection_at pin (map (changed at i) cs))) ≡ Some net
  given_case i pin net old c cs true e given more was =
      ap (λ (o : Option NetId). single_net (edited_expr o c.expr).bits) (ap (at i) (pin_is c pin e) ∙ given)
  given_case i pin net old c cs false e given more was = more was

  net_given : (i : ℕ) (pin : List ℕ) (net old : NetId) (cs : List Connection) → at i pin ≡ Some net → net_of pin cs ≡ Some old
      → net_of pin (map (changed at i) cs) ≡ Some net
  net_given i pin net old [] given was = absurd (none-some old was)
  net_given i pin net old (c ∷ cs) given was = given_case i pin net old c cs (bytes_eq c.pin pin) refl given (net_given i pin net old cs given) was

  placed_kept : (i : ℕ) (pin : List ℕ) (o : Option Instance) → at i pin ≡ None → option_and_then (net_at pin) (option_map (made at i) o) ≡ option_and_then (net_at pin) o
  placed_kept i pin None none = refl
  placed_kept i pin (Some placed) none = net_kept i pin placed.connections none

  -- a pin at which nothing new stands
  pub pin_kept : (i : ℕ) (pin : List ℕ) → at i pin ≡ None → pin_net m i pin ≡ pin_net n i pin
  pin_kept i pin none = ap (λ (o : Option Instance). option_and_then (net_at pin) o) (instance_at i) ∙ placed_kept i pin (slice_get n.instances i) none

  placed_given : (i : ℕ) (pin : List ℕ) (net old : NetId) (o : Option Instance) → at i pin ≡ Some net → option_and_then (net_at pin) o ≡ Some old
      → option_and_then (net_at pin) (option_map (made at i) o) ≡ Some net
  placed_given i pin net old None given was = absurd (none-some old was)
  placed_given i pin net old (Some placed) given was = net_given i pin net old placed.connections given was

  -- a pin at which something new stands
  pub pin_given : (i : ℕ) (pin : List ℕ) (net old : NetId) → at i pin ≡ Some net → pin_net n i pin ≡ Some old → pin_net m i pin ≡ Some net
  pin_given i pin net old given was =
      ap (λ (o : Option Instance). option_and_then (net_at pin) o) (instance_at i) ∙ placed_given i pin net old (slice_get n.instances i) given was
