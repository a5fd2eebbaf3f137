-- Numbers as they are marked.
use Rattle.std.proofs.Common.{◌≡◌, ℕ, ◌+◌, ◌<◌, inl, inr, Bool, true, false, cond, eqb, List, [], ◌++◌, length, get_or, set, take, replicate, All, Contains, refl, sym, ap, ◌∙◌, subst, arith, eq-eqb, get_or-set_same, get_or-set_other}
use Rattle.std.proofs.lemmas.Bool.{cases_eq, cases_lt, ne_eqb}
use Rattle.std.proofs.lemmas.List.{get_or-replicate, get_or_past, length-replicate}
use Rattle.std.proofs.lemmas.List.Elements.{All-weaker, All-contains_itself}
use Rattle.netlist_core.specs.declared.netlist.Netlist.{Netlist}
use Rattle.netlist_core.specs.Netlists.{IsNetlist}
use Rattle.netlist_core.specs.Joining.{AreClassesOf}
use Rattle.def_reader.specs.declared.design.Net.{Net}
use Rattle.def_reader.specs.Classes.{class_of, net_classes, has_in, HasClasses}
use Rattle.def_reader.specs.Agreement.{net_of_pin}
use Rattle.list_laws.proofs.Members.{contains_from}
use Rattle.list_laws.proofs.RowsMore.{number_added}
use Rattle.def_reader.proofs.Within.{made_some, pin_within}

set_true : (marks : List Bool) (x q : ℕ) → x < length marks → has_in (set marks x true) q ≡ cond (eqb x q) true (has_in marks q)
set_true marks x q lt =
    elim (cases_eq x q) [
      | inl same ↦
          subst (λ (n : ℕ). get_or (set marks x true) n false ≡ cond (eqb x n) true (get_or marks n false)) same
          (get_or-set_same marks x true false lt ∙ sym (ap (λ (t : Bool). cond t true (get_or marks x false)) (eq-eqb x x refl)))
      | inr other ↦
          get_or-set_other marks x q true false (λ e. other (sym e)) ∙ sym (ap (λ (t : Bool). cond t true (get_or marks q false)) (ne_eqb x q other))
    ]

-- one number more is marked
pub mark_added : (old : List Bool) (before cs : List ℕ) (i x : ℕ) → i < length cs → x ≡ get_or cs i 0 → x < length old → HasClasses old (before ++ take i cs) → HasClasses (set old x true) (before ++ take (i + 1) cs)
mark_added old before cs i x lt is within has = λ q.
    number_added before cs i q (has_in (set old x true) q) (has_in old q) lt (set_true old x q within ∙ ap (λ (n : ℕ). cond (eqb n q) true (has_in old q)) is) (has q)

-- none is marked at first
pub none_marked : (n : ℕ) → HasClasses (replicate n false) []
none_marked n = λ c.
    elim (cases_lt c n) [
      | inl lt ↦ get_or-replicate n c false false lt
      | inr le ↦ let count = length-replicate n false in get_or_past (replicate n false) c false (omega arith)
    ]

-- classes are numbers of nets
pub classes_within : (n : Netlist) (classes : List ℕ) (net : Net) → IsNetlist n → AreClassesOf n classes → All (λ c. c < length n.nets) (net_classes n classes net)
classes_within n classes net ok of =
    All-weaker (Contains (net_classes n classes net)) (λ c. c < length n.nets) (λ c there.
    let from = contains_from (class_of n classes) net.pins c there in
    let made = made_some (λ bit. get_or classes bit.0 0) (net_of_pin n from.member) c from.gives in
    let lt = pin_within n ok from.member made.value made.is in
    let least = of.least made.value.0 made.value.0 lt lt (record { over = []; chain = refl }) in
    let is = made.gives in
    omega arith) (net_classes n classes net) (All-contains_itself (net_classes n classes net))

-- so are those that are found
pub found_within : (n : Netlist) (classes : List ℕ) (net : Net) → IsNetlist n → AreClassesOf n classes → (count : ℕ) (found : List ℕ) → count ≡ length n.nets → found ≡ net_classes n classes net → All (λ c. c < count) found
found_within n classes net ok of count found same is =
    subst (λ (k : ℕ). All (λ c. c < k) found) (sym same) (subst (λ (l : List ℕ). All (λ c. c < length n.nets) l) (sym is) (classes_within n classes net ok of))
