-- Each pin of the written netlist has one of the netlist with the edits that is joined like it and stands in the same net of the design.
use Rattle.std.proofs.Common.{◌≡◌, ℕ, ◌<◌, ◌||◌, Bool, true, false, cond, List, [], ◌∷◌, length, map, Option, Some, None, option_map, refl, sym, ap, ◌∙◌, subst, arith}
use Rattle.std.specs.Prelude.{All, nat_lt, if◌then◌else◌}
use Rattle.std.specs.List.{slice_get, list_any, position}
use Rattle.std.specs.Str.{bytes_eq}
use Rattle.std.proofs.lemmas.Bool.Decides.{nat_tests}
use Rattle.std.proofs.lemmas.List.Elements.{All-head, All-tail}
use Rattle.std.proofs.lemmas.Option.{none-some, same_Some, cond_some}
use Rattle.std.proofs.lemmas.Slice.Eq.{bytes_eq-Decides}
use Rattle.base_types.proofs.TruthValues.{and_first}
use Rattle.netlist_core.specs.declared.netlist.NetId.{NetId}
use Rattle.netlist_core.specs.declared.netlist.Direction.{Direction}
use Rattle.netlist_core.specs.declared.netlist.Port.{Port as PortRow}
use Rattle.netlist_core.specs.declared.netlist.Netlist.{Netlist}
use Rattle.netlist_core.specs.Netlists.{NamedNetlist, named, named_port, plain_of, net_at, AreWiredAlike, IsInstance, IsNetlist}
use Rattle.cell_table.specs.Cells.{Cells}
use Rattle.chain_trace.specs.declared.path.Path.{Path}
use Rattle.chain_trace.specs.Paths.{pin_net, has_port}
use Rattle.chain_trace.proofs.Ranges.{then_some, all_at, net_at_within, port_within}
use Rattle.chain_trace.proofs.NamedNets.{IsSameNet, same_wiring, turned_wiring, turned, is_port_named, has_port_named, port_by_name, pin_name, pin_by_name}
use Rattle.chain_trace.proofs.NamedSides.{joined_there}
use Rattle.net_edit.specs.Tails.{net_named, rewired}
use Rattle.net_edit.specs.Agreement.{Pin, OfInstance, OfPort, is_any, net_at_pin, AgreeOnPins}
use Rattle.verilog_writer.proofs.TailSeen.{front_net}
use Rattle.def_reader.specs.declared.design.NetPin.{NetPin}
use Rattle.def_reader.specs.declared.design.NetPin.TheVariants.{Cell, Port}
use Rattle.def_reader.specs.declared.design.Net.{Net}
use Rattle.def_reader.specs.declared.design.Design.{Design}
use Rattle.def_writer.specs.Placing.{same_pin, instance_name, placing}
use Rattle.reorder_command.proofs.Heads.{heads_kept, count_kept, name_kept}

-- the net of a pin is one of the netlist's
pin_bound : (n : Netlist) (i : ℕ) (pin : List ℕ) (net : NetId) → IsNetlist n → pin_net n i pin ≡ Some net → net.0 < length n.nets
pin_bound n i pin net ok e =
    let t = then_some (net_at pin) (slice_get n.instances i) net e in
    net_at_within (length n.nets) t.value pin net (all_at (IsInstance (length n.nets)) n.instances i t.value ok.instances t.is) t.gives

-- a net of a name
record IsFound (w m : Netlist) (a : NetId) (o : Option NetId) : Type 0 where
  net : NetId
  is : o ≡ Some net
  name : plain_of w.nets a ≡ plain_of m.nets net

found : (w m : Netlist) (a : NetId) (o : Option NetId) → option_map (plain_of w.nets) (Some a) ≡ option_map (plain_of m.nets) o → IsFound w m a o
found w m a None e = absurd (none-some (plain_of w.nets a) (sym e))
found w m a (Some b) e = record { net = b; is = refl; name = same_Some (plain_of w.nets a) (plain_of m.nets b) e }

is_less : (a b : ℕ) → a < b → nat_lt a b ≡ true
is_less a b lt = grind (arith, nat_tests, lt)

either : {X : Type 0} (a b : Bool) → (a ≡ true → X) → (b ≡ true → X) → (a || b) ≡ true → X
either true b f g e = f refl
either false b f g e = g e

port_of_name : (m : Netlist) (test : Direction → Bool) (name : List ℕ) (ports : List PortRow) → All (λ port. port.net.0 < length m.nets) ports
    → list_any (is_port_named test name) (map (named_port m.nets) ports) ≡ true → (net : NetId) × (net.0 < length m.nets) × (plain_of m.nets net ≡ name)
port_of_name m test name [] all e = absurd cc
port_of_name m test name (p ∷ ps) all e =
    either (is_port_named test name (named_port m.nets p)) (list_any (is_port_named test name) (map (named_port m.nets) ps))
    (λ t. (p.net, All-head (λ (port : PortRow). port.net.0 < length m.nets) p ps all, (bytes_eq-Decides (plain_of m.nets p.net) name).0 (and_first (bytes_eq (plain_of m.nets p.net) name) (test p.direction) t)))
    (λ t. port_of_name m test name ps (All-tail (λ (port : PortRow). port.net.0 < length m.nets) p ps all) t) e

module _ (w m : Netlist) (w_ok : IsNetlist w) (m_ok : IsNetlist m) (same : AreWiredAlike w m) where
  record HasNet (a : NetId) (at : NetId → Type 0) : Type 0 where
    net : NetId
    there : at net
    same_net : IsSameNet w m a net

  pin_there : (i : ℕ) (pin : List ℕ) (a : NetId) → pin_net w i pin ≡ Some a → HasNet a (λ net. pin_net m i pin ≡ Some net)
  pin_there i pin a e =
      let shown : option_map (plain_of w.nets) (pin_net w i pin) ≡ option_map (plain_of m.nets) (pin_net m i pin)
      = pin_by_name w i pin ∙ ap (λ (N : NamedNetlist). pin_name N i pin) (same_wiring w m same) ∙ sym (pin_by_name m i pin)
      in
      let f = found w m a (pin_net m i pin) (ap (option_map (plain_of w.nets)) (sym e) ∙ shown) in
      record { net = f.net; there = f.is; same_net = record { old = pin_bound w i pin a w_ok e; new = pin_bound m i pin f.net m_ok f.is; name = f.name } }

  port_there : (a : NetId) → has_port is_any w a ≡ true → HasNet a (λ net. has_port is_any m net ≡ true)
  port_there a e =
      let within = port_within w is_any a w_ok e in
      let named_there : has_port_named is_any (named m) (plain_of w.nets a) ≡ true
      = ap (λ (N : NamedNetlist). has_port_named is_any N (plain_of w.nets a)) (sym (same_wiring w m same)) ∙ sym (port_by_name w is_any a w_ok within) ∙ e
      in
      let f = port_of_name m is_any (plain_of w.nets a) m.ports m_ok.port_nets named_there in
      record {
        net = f.0;
        there = port_by_name m is_any f.0 m_ok f.1 ∙ ap (has_port_named is_any (named m)) f.2 ∙ named_there;
        same_net = record { old = within; new = f.1; name = sym f.2 };
      }

module _ (n : Netlist) (cells : Cells) (names : List (List ℕ)) (old new : List Path) (w : Netlist) (v : Design) where
  abbrev m : Netlist
  m = rewired n cells names old new

  module _ (n_ok : IsNetlist n) (m_ok : IsNetlist m) (w_ok : IsNetlist w) (same : AreWiredAlike w m) where
    record HasTwin (p : Pin) (a : NetId) : Type 0 where
      pin : Pin
      net : NetId
      at : net_at_pin m pin ≡ Some net
      same_net : IsSameNet w m a net
      stands : placing n v pin ≡ placing w v p

    abbrev net_with : NetPin → Option ℕ
    net_with pin = position (λ (net : Net). list_any (same_pin pin) net.pins) v.nets

    abbrev net_if : Bool → NetPin → Option ℕ
    net_if there pin = if there then net_with pin else None

    twin : (p : Pin) (a : NetId) → net_at_pin w p ≡ Some a → HasTwin p a
    twin (OfInstance i pin) a e =
        let t = pin_there w m w_ok m_ok same i pin a e in
        record {
          pin = OfInstance i pin;
          net = t.net;
          at = t.there;
          same_net = t.same_net;
          stands = ap (λ (k : ℕ). net_if (nat_lt i k) (Cell (instance_name (slice_get n.instances i)) pin)) (sym (count_kept w n (heads_kept n cells names old new w same)))
              ∙ ap (λ (name : List ℕ). net_if (nat_lt i (length w.instances)) (Cell name pin)) (sym (name_kept w n (heads_kept n cells names old new w same) i));
        }
    twin (OfPort net) a e =
        let is = cond_some (has_port is_any w net) net a e in
        let t = port_there w m w_ok m_ok same net is.0 in
        let within = port_within n is_any t.net n_ok t.there in
        record {
          pin = OfPort t.net;
          net = t.net;
          at = ap (λ (b : Bool). cond b (Some t.net) None) t.there;
          same_net = subst (λ (x : NetId). IsSameNet w m x t.net) is.1 t.same_net;
          stands = ap (λ (b : Bool). net_if b (Port (plain_of n.nets t.net))) (is_less t.net.0 (length n.nets) within)
              ∙ ap (λ (name : List ℕ). net_with (Port name)) (sym (front_net n.nets (map net_named names) t.net within) ∙ sym t.same_net.name)
              ∙ ap (λ (b : Bool). net_if b (Port (plain_of w.nets net))) (sym (is_less net.0 (length w.nets) t.same_net.old));
        }

    -- so both agree with a design alike
    pub agree_written : AgreeOnPins m (placing n v) → AgreeOnPins w (placing w v)
    agree_written agree = record {
      same = λ p q a b x y at_p at_q in_p in_q.
          let s = twin p a at_p in
          let t = twin q b at_q in
          let both = agree.same s.pin t.pin s.net t.net x y s.at t.at (s.stands ∙ in_p) (t.stands ∙ in_q) in (
            λ e. joined_there m w m_ok w_ok (turned_wiring w m same) s.net t.net a b (turned w m a s.net s.same_net) (turned w m b t.net t.same_net) (both.0 e),
            λ j. both.1 (joined_there w m w_ok m_ok same a b s.net t.net s.same_net t.same_net j),
          );
    }
