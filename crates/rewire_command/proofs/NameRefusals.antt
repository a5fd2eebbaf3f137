-- The refusals of the words' names.
use Rattle.std.proofs.Common.{◌≡◌, ◌≢◌, ℕ, Bool, true, false, List, Result, Err, sym, ap, ◌∙◌}
use Rattle.std.specs.Str.{bytes_eq}
use Rattle.std.proofs.lemmas.Slice.Eq.{bytes_eq-Decides}
use Rattle.base_types.specs.declared.fault.ReadFault.{ReadFault}
use Rattle.base_types.specs.declared.fault.ReadFault.TheVariants as faults
use Rattle.base_types.specs.declared.kind.Kind.TheVariants.{NotPermutation, PinnedLast}
use Rattle.netlist_core.specs.declared.netlist.Netlist.{Netlist}
use Rattle.chain_trace.specs.declared.path.Path.{Path}
use Rattle.base_types.specs.declared.fault.Fault.{Fault}
use Rattle.base_types.specs.Faults.{of_words}
use Rattle.base_types.specs.FirstFault.{IfFault}
use Rattle.rewire_command.specs.declared.rewire.Rewire.{Rewire}
use Rattle.rewire_command.specs.Rewiring.{instance_names, is_free_at_end, IsTraced}
use Rattle.rewire_command.specs.Faults.{AreInstances, last_name, IsRewireFault}
use Rattle.rewire_command.specs.Names.{are_instances}
use Rattle.rewire_command.proofs.Firsts.{first_order, first_last}
use Rattle.rewire_command.proofs.Instances.{test_instances, instances_test}

abbrev pub Refuses : {X : Type 0} → Netlist → Rewire → Path → Result X ReadFault → Type 0
Refuses n w path r = IfFault r (λ fault. (text : List ℕ) → IsTraced text w n path → IsRewireFault text w fault)

tested : (n : Netlist) (w : Rewire) (path : Path) (words names : List (List ℕ)) (is : Bool) → words ≡ w.units → names ≡ instance_names n path → is ≡ are_instances words names
    → are_instances w.units (instance_names n path) ≡ is
tested n w path words names is u m e = sym (e ∙ ap (λ (l : List (List ℕ)). are_instances l names) u ∙ ap (are_instances w.units) m)

pub passed : (n : Netlist) (w : Rewire) (path : Path) (words names : List (List ℕ)) (is : Bool) → words ≡ w.units → names ≡ instance_names n path → is ≡ are_instances words names → is ≡ true
    → AreInstances w.units (instance_names n path)
passed n w path words names is u m e t = test_instances w.units (instance_names n path) (tested n w path words names is u m e ∙ t)

pub not_permutation : (X : Type 0) (n : Netlist) (w : Rewire) (path : Path) (words names : List (List ℕ)) (is : Bool) (e : Fault) → words ≡ w.units → names ≡ instance_names n path → is ≡ are_instances words names
    → is ≡ false → e ≡ of_words NotPermutation → Refuses {X = X} n w path (Err (faults.Fault e))
not_permutation X n w path words names is e u m test f fault =
    let other : are_instances w.units (instance_names n path) ≡ false = tested n w path words names is u m test ∙ f in
    rw fault (λ text traced. first_order text w n path traced (λ are. let yes = sym (instances_test w.units (instance_names n path) are) ∙ other in absurd cc))

pub pinned_last : (X : Type 0) (n : Netlist) (w : Rewire) (path : Path) (words names : List (List ℕ)) (is : Bool) (a b : List ℕ) (free : Bool) (e : Fault) → words ≡ w.units → names ≡ instance_names n path
    → is ≡ are_instances words names → is ≡ true → a ≡ last_name words → b ≡ last_name names → bytes_eq a b ≡ false → free ≡ is_free_at_end n w path path.output → free ≡ false → e ≡ of_words PinnedLast → Refuses {X = X} n w path (Err (faults.Fault e))
pinned_last X n w path words names is a b free e u m test t last_a last_b differ free_is pinned fault =
    let are = passed n w path words names is u m test t in
    let apart : last_name w.units ≢ last_name (instance_names n path)
    = λ same. let yes : bytes_eq a b ≡ true = (bytes_eq-Decides a b).1 (last_a ∙ ap last_name u ∙ same ∙ sym (last_b ∙ ap last_name m)) in let both = sym yes ∙ differ in absurd cc
    in
    rw fault (λ text traced. first_last text w n path traced are (sym free_is ∙ pinned) apart)
