-- The path of the written text: its instances are those of the words, in their order.
use Rattle.std.proofs.Common.{◌≡◌, ℕ, ◌+◌, ◌<◌, List, [], ◌∷◌, length, map, slice_get, Option, Some, None, option_map, refl, sym, ap, ap₂, ◌∙◌}
use Rattle.std.proofs.lemmas.Option.{slice_get-map}
use Rattle.netlist_core.specs.declared.netlist.NetId.{NetId}
use Rattle.netlist_core.specs.declared.netlist.NetName.{NetName}
use Rattle.netlist_core.specs.declared.netlist.Instance.{Instance}
use Rattle.netlist_core.specs.declared.netlist.Netlist.{Netlist}
use Rattle.netlist_core.specs.Netlists.{NamedInstance, named_instance, plain_of, AreWiredAlike, IsNetlist}
use Rattle.cell_table.specs.Cells.{Cells}
use Rattle.chain_trace.specs.declared.path.Step.{Step}
use Rattle.chain_trace.specs.declared.path.Path.{Path}
use Rattle.chain_trace.specs.Paths.{drives, is_driven, IsScanPath}
use Rattle.chain_trace.specs.Named.{HasSamePath, NamesLaw}
use Rattle.chain_trace.proofs.NamedNets.{turned_wiring}
use Rattle.chain_trace.proofs.Ranges.{port_within}
use Rattle.path_links.specs.declared.edits.PinEdit.{PinEdit}
use Rattle.path_links.specs.Edited.{map_from}
use Rattle.net_edit.specs.declared.changes.Change.{Change}
use Rattle.net_edit.specs.Tails.{freed_between, pin_edits, changed_instance, net_named, rewired}
use Rattle.verilog_writer.specs.Written.{DenotesAlike}
use Rattle.verilog_writer.proofs.TailSeen.{front_net}
use Rattle.rewire_command.specs.declared.rewire.Rewire.{Rewire}
use Rattle.rewire_command.specs.Rewiring.{cells_of, name_of, instance_name, instance_names, ordered, IsTraced, HasPath}
use Rattle.rewire_command.proofs.Ports.{input_drives, output_is_driven}

-- the names of a netlist's instances, in order
abbrev all_names : List Instance → List (List ℕ)
all_names instances = map (λ (i : Instance). i.name) instances

named_names : (nets : List NetName) (instances : List Instance) → map (λ (i : NamedInstance). i.name) (map (named_instance nets) instances) ≡ all_names instances
named_names nets [] = refl
named_names nets (i ∷ is) = ap (λ (l : List (List ℕ)). i.name ∷ l) (named_names nets is)

changed_names : (n : Netlist) (cells : Cells) (fs : List Change) (pins : List PinEdit) (k : ℕ) (instances : List Instance) → all_names (map_from (changed_instance n cells fs pins) k instances) ≡ all_names instances
changed_names n cells fs pins k [] = refl
changed_names n cells fs pins k (i ∷ is) = ap (λ (l : List (List ℕ)). i.name ∷ l) (changed_names n cells fs pins (k + 1) is)

names_alike : (n m : Netlist) → AreWiredAlike n m → all_names n.instances ≡ all_names m.instances
names_alike n m same =
    sym (named_names n.nets n.instances) ∙ ap (λ (instances : List NamedInstance). map (λ (i : NamedInstance). i.name) instances) same.instances ∙ named_names m.nets m.instances

abbrev or_none : Option (List ℕ) → List ℕ
or_none None = []
or_none (Some name) = name

name_by : (o : Option Instance) → name_of o ≡ or_none (option_map (λ (i : Instance). i.name) o)
name_by None = refl
name_by (Some i) = refl

name_among : (n : Netlist) (step : Step) → instance_name n step ≡ or_none (slice_get (all_names n.instances) step.instance)
name_among n step = name_by (slice_get n.instances step.instance) ∙ ap or_none (sym (slice_get-map (λ (i : Instance). i.name) n.instances step.instance))

steps_alike : (n m : Netlist) (steps : List Step) → all_names n.instances ≡ all_names m.instances → map (instance_name n) steps ≡ map (instance_name m) steps
steps_alike n m [] e = refl
steps_alike n m (s ∷ ss) e =
    let here = name_among n s ∙ ap (λ (l : List (List ℕ)). or_none (slice_get l s.instance)) e ∙ sym (name_among m s) in
    ap₂ (λ (x : List ℕ) (l : List (List ℕ)). x ∷ l) here (steps_alike n m ss e)

module _ (text : List ℕ) (w : Rewire) (n : Netlist) (path : Path) (traced : IsTraced text w n path) (names : List (List ℕ)) (written : List ℕ) where
  abbrev new : Path
  new = ordered n path w.units

  -- the netlist in which the path is made another one
  abbrev rewired_to : Cells → Path → Netlist
  rewired_to cells made = rewired n cells names (path ∷ []) (made ∷ [])

  abbrev after : Netlist
  after = rewired_to (cells_of w) new

  front_plain : (net : NetId) → net.0 < length n.nets → plain_of after.nets net ≡ plain_of n.nets net
  front_plain net within = front_net n.nets (map net_named names) net within

  path_here : NamesLaw → instance_names n new ≡ w.units → DenotesAlike written after names → IsNetlist after → IsScanPath after (cells_of w) path.output new → HasPath written w w.units
  path_here law words denoted sound is =
      let h : HasSamePath after denoted.netlist (cells_of w) new = law after denoted.netlist (cells_of w) new sound denoted.is.sound (turned_wiring denoted.netlist after denoted.same.wired) is in
      let after_names : all_names denoted.netlist.instances ≡ all_names n.instances
      = names_alike denoted.netlist after denoted.same.wired ∙ changed_names n (cells_of w) (freed_between n (cells_of w) (path ∷ []) (new ∷ [])) (pin_edits n (cells_of w) (path ∷ []) (new ∷ [])) 0 n.instances
      in
      let output = front_plain path.output (port_within n is_driven path.output traced.reads.sound traced.output.port) in
      let input = front_plain path.input (port_within n drives path.input traced.reads.sound (input_drives n (cells_of w) path.output path traced.is)) in
      record {
        netlist = denoted.netlist;
        path = h.path;
        traced = record {
          reads = denoted.is;
          output = record { named = h.same.output ∙ output ∙ traced.output.named; port = output_is_driven denoted.netlist (cells_of w) h.path.output h.path h.is };
          is = h.is;
          input = h.same.input ∙ input ∙ traced.input;
        };
        same = steps_alike denoted.netlist n h.path.steps after_names ∙ ap (map (instance_name n)) h.same.steps ∙ words;
      }

  -- so it is with what is computed
  pub has_path : (cells : Cells) (made : Path) → cells ≡ cells_of w → made ≡ new → NamesLaw → instance_names n new ≡ w.units → DenotesAlike written (rewired_to cells made) names → IsNetlist (rewired_to cells made)
      → IsScanPath (rewired_to cells made) cells made.output made → HasPath written w w.units
  has_path cells made same made_is = rw (same, made_is) path_here
