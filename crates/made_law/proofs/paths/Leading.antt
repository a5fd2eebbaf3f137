-- The scan path of each chain of the made netlist.
use Rattle.std.proofs.Common.{◌≡◌, ℕ, zero, suc, ◌+◌, ◌-◌, ◌<◌, ◌≤◌, true, false, map, refl, sym, ap, ◌∙◌, subst, arith}
use Rattle.std.specs.Prelude.{nat_lt}
use Rattle.std.specs.List.{range_with_len}
use Rattle.std.proofs.lemmas.Bool.Decides.{nat_tests}
use Rattle.std.proofs.lemmas.List.FromFn.{length-map-range_with_len, get_or-map-range_with_len}
use Rattle.cell_table.specs.Table.{small_cells}
use Rattle.chain_trace.specs.declared.path.Step.{Step}
use Rattle.chain_trace.specs.declared.path.Source.TheVariants as sources
use Rattle.chain_trace.specs.declared.path.Sink.TheVariants as sinks
use Rattle.chain_trace.specs.Paths.{IsOnlySource, Leads, StandOnce}
use Rattle.netlist_core.specs.Joining.{AreJoined}
use Rattle.design_maker.specs.Chains.{chain_length, unit_of, last_unit}
use Rattle.made_law.specs.Paths.MadeNetlist.{NetlistPlaces, net_id, in_number, out_number, unit_number, input_number, made_netlist}
use Rattle.made_law.specs.Paths.MadePaths.{made_step}
use Rattle.made_law.specs.Paths.Laws.{PathLaw}
use Rattle.made_law.proofs.paths.Joins.{last_joined, itself_joined}
use Rattle.made_law.proofs.paths.Sources.{out_is, in_is, port_sink, input_source, only_source}

pub first_input : (i : ℕ) → i < 8 → input_number i ≡ in_number i
first_input i lt = let low : nat_lt i 8 ≡ true = grind (arith, nat_tests) in rw low refl

pub later_input : (i : ℕ) → input_number (i + 8) ≡ unit_number i
later_input i =
    let high : nat_lt (i + 8) 8 ≡ false = grind (arith, nat_tests) in
    let same : i + 8 - 8 ≡ i = omega arith in
    rw (high, same) refl

module _ (n k : ℕ) (at : NetlistPlaces) (some : 8 ≤ n) (lt : k < 8) where
  -- the units of a chain are below n
  within : (t : ℕ) → t < chain_length n k → unit_of k t < n
  within t less = omega arith

  joined_to : (x y z : ℕ) → y ≡ z → AreJoined (made_netlist at n) x y → AreJoined (made_netlist at n) x z
  joined_to x y z e h = subst (λ (w : ℕ). AreJoined (made_netlist at n) x w) e h

  only_first : IsOnlySource (made_netlist at n) small_cells (sources.Port (net_id (in_number k))) (sinks.In (unit_of k 0) 0)
  only_first =
      let first : k ≡ unit_of k 0 = omega arith in
      subst (λ (i : ℕ). IsOnlySource (made_netlist at n) small_cells (sources.Port (net_id (in_number k))) (sinks.In i 0)) first
      (only_source n at (sources.Port (net_id (in_number k))) (sinks.In k 0) (in_number k) (input_number k) (input_source n at k lt) (in_is n at k (omega arith))
      (joined_to (in_number k) (in_number k) (input_number k) (sym (first_input k lt)) (itself_joined n at (in_number k))) tt)

  only_next : (t : ℕ) → t + 1 < chain_length n k → IsOnlySource (made_netlist at n) small_cells (sources.Out (made_step k t)) (sinks.In (unit_of k (t + 1)) 0)
  only_next t less =
      let i = unit_of k t in
      let next : i + 8 ≡ unit_of k (t + 1) = omega arith in
      subst (λ (j : ℕ). IsOnlySource (made_netlist at n) small_cells (sources.Out (made_step k t)) (sinks.In j 0)) next
      (only_source n at (sources.Out (made_step k t)) (sinks.In (i + 8) 0) (unit_number i) (input_number (i + 8)) (out_is n at i (within t (omega arith))) (in_is n at (i + 8) (omega arith))
      (joined_to (unit_number i) (unit_number i) (input_number (i + 8)) (sym (later_input i)) (itself_joined n at (unit_number i))) tt)

  only_last : (t : ℕ) → t + 1 ≡ chain_length n k → IsOnlySource (made_netlist at n) small_cells (sources.Out (made_step k t)) (sinks.Port (net_id (out_number k)))
  only_last t e =
      let i = unit_of k t in
      let last : last_unit n k ≡ i = omega arith in
      only_source n at (sources.Out (made_step k t)) (sinks.Port (net_id (out_number k))) (unit_number i) (out_number k) (out_is n at i (within t (omega arith))) (port_sink n at k lt)
      (subst (λ (j : ℕ). AreJoined (made_netlist at n) (unit_number j) (out_number k)) last (last_joined n at k lt)) tt

  leads_more : (t m : ℕ) → t + 1 + m ≡ chain_length n k → Leads (made_netlist at n) small_cells (sources.Out (made_step k t)) (map (made_step k) (range_with_len (t + 1) m)) (sinks.Port (net_id (out_number k)))
  leads_more t zero e = only_last t (omega arith)
  leads_more t (suc m) e = (only_next t (omega arith), leads_more (t + 1) m (omega arith))

  leads_all : (m : ℕ) → m ≡ chain_length n k → Leads (made_netlist at n) small_cells (sources.Port (net_id (in_number k))) (map (made_step k) (range_with_len 0 m)) (sinks.Port (net_id (out_number k)))
  leads_all zero e = absurd (omega arith)
  leads_all (suc m) e = (only_first, leads_more 0 m (omega arith))

  once : StandOnce (map (made_step k) (range_with_len 0 (chain_length n k)))
  once i j d low high same =
      let m = chain_length n k in
      let long = length-map-range_with_len (made_step k) 0 m in
      let a = get_or-map-range_with_len (made_step k) 0 m i i d (omega (arith, long)) (omega arith) in
      let b = get_or-map-range_with_len (made_step k) 0 m j j d (omega (arith, long)) (omega arith) in
      let units : unit_of k i ≡ unit_of k j = sym (ap (λ (s : Step). s.instance) a) ∙ same.instance ∙ ap (λ (s : Step). s.instance) b in
      omega (arith, units)

pub path_is : PathLaw
path_is n k at some most lt = record { ends = refl; leads = leads_all n k at some lt (chain_length n k) refl; once = once n k at some lt }
