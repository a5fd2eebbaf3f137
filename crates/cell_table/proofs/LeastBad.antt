-- Where names ascend, the first bad cell is the least.
use Rattle.std.proofs.Common.{◌≡◌, ◌≢◌, ℕ, List, [], ◌∷◌, Option, Some, None, Result, Ok, Err, Ordering, Less, Equal, Greater, nat_cmp, string_bytes, String, Global, refl, sym, ap, ◌∙◌}
use Rattle.std.specs.Cmp.Lexicographic.{slice_cmp}
use Rattle.std.specs.Cmp.{tied_itself}
use Rattle.std.specs.List.{AllByRecursion}
use Rattle.std.specs.List.Sorted.{IsStrictlySortedBy}
use Rattle.std.specs.Map.{keys_of}
use Rattle.std.specs.Ordering.{match_ordering, ordering_reverse}
use Rattle.std.specs.String.{string_cmp}
use Rattle.std.proofs.lemmas.Cmp.{nat_list_cmp_total}
use Rattle.toml.specs.Data.{Data, Members, no_members, member, get_member}
use Rattle.toml.specs.View.{members_view}
use Rattle.cell_table.specs.declared.paths.ScanPath.{ScanPath}
use Rattle.base_types.specs.declared.fault.Fault.{Fault}
use Rattle.cell_table.specs.Cells.{Cells, cell_of, cells_of, with_cell, shape_fault}
use Rattle.cell_table.specs.Ascending.{AboveAll, Ascending}
use Rattle.cell_table.proofs.Loops.{Entry}

abbrev order : List ℕ → List ℕ → Ordering
order = slice_cmp nat_cmp

-- a lesser name isn't there
below_none : (name n : List ℕ) (ms : Members) → order name n ≡ Less → AboveAll n ms → get_member name ms ≡ None
below_none name n no_members less h = refl
below_none name n (member k d ms) less h =
    let here : order name k ≡ Less = nat_list_cmp_total.trans name n k less h.0 in
    rw here (below_none name n ms less h.1)

-- a name that is there is above
found_above : (name n : List ℕ) (ms : Members) (e : Data) → AboveAll n ms → get_member name ms ≡ Some e → order n name ≡ Less
found_above name n no_members e h found = absurd cc
found_above name n (member k d ms) e h found =
    let cases : (o : Ordering) → order name k ≡ o → match_ordering o (get_member name ms) (Some d) (get_member name ms) ≡ Some e → order n name ≡ Less
    = λ o. elim o as (λ o. order name k ≡ o → match_ordering o (get_member name ms) (Some d) (get_member name ms) ≡ Some e → order n name ≡ Less) [
      | Less ↦ λ i f. found_above name n ms e h.1 f
      | Equal ↦ λ i f. nat_list_cmp_total.antisymm n name ∙ ap ordering_reverse (nat_list_cmp_total.congr name k n i) ∙ sym (nat_list_cmp_total.antisymm n k) ∙ h.0
      | Greater ↦ λ i f. found_above name n ms e h.1 f
    ]
    in cases (order name k) refl found

-- the entry of a name gives no cell, and those of all lesser names do
pub record IsLeastBad (cells : Members) (name : List ℕ) : Type 0 where
  pub entry : Data
  pub there : get_member name cells ≡ Some entry
  pub bad : cell_of entry ≡ None
  pub least : (other : List ℕ) (d : Data) → get_member other cells ≡ Some d → slice_cmp nat_cmp other name ≡ Less → cell_of d ≢ None

-- the fault is that of the least bad cell
pub record IsSaid (cells : Members) (f : Fault) : Type 0 where
  pub name : List ℕ
  pub is : f ≡ shape_fault name
  pub least : IsLeastBad cells name

module _ (n : List ℕ) (d : Data) (ms : Members) (above : AboveAll n ms) where
  here : cell_of d ≡ None → IsLeastBad (member n d ms) n
  here bad = record {
    entry = d;
    there = rw (tied_itself nat_list_cmp_total n) refl;
    bad = bad;
    least = λ other e found less. let none : get_member other (member n d ms) ≡ None = rw less (below_none other n ms less above) in absurd cc;
  }

  behind : (name : List ℕ) (paths : List ScanPath) → cell_of d ≡ Some paths → IsLeastBad ms name → IsLeastBad (member n d ms) name
  behind name paths good w =
      let up = found_above name n ms w.entry above w.there in
      let over : order name n ≡ Greater = nat_list_cmp_total.antisymm name n ∙ ap ordering_reverse up in
      let others : (other : List ℕ) (e : Data) (o : Ordering) → match_ordering o (get_member other ms) (Some d) (get_member other ms) ≡ Some e → order other name ≡ Less → cell_of e ≢ None
      = λ other e o. elim o as (λ o. match_ordering o (get_member other ms) (Some d) (get_member other ms) ≡ Some e → order other name ≡ Less → cell_of e ≢ None) [
        | Less ↦ λ f less. w.least other e f less
        | Equal ↦ λ f less none. let same : d ≡ e = cc in let bad : cell_of d ≡ None = ap cell_of same ∙ none in absurd cc
        | Greater ↦ λ f less. w.least other e f less
      ]
      in record {
        entry = w.entry;
        there = rw over w.there;
        bad = w.bad;
        least = λ other e found less. others other e (order other n) found less;
      }

pub least_bad : (ms : Members) (f : Fault) → Ascending ms → cells_of ms ≡ Err f → IsSaid ms f
unfolding cells_of
least_bad no_members f h read = absurd cc
least_bad (member n d ms) f h read =
    let cases : (o : Option (List ScanPath)) (r : Result Cells Fault) → cell_of d ≡ o → cells_of ms ≡ r → with_cell n o r ≡ Err f → IsSaid (member n d ms) f
    = λ o r. elim o as (λ o. cell_of d ≡ o → cells_of ms ≡ r → with_cell n o r ≡ Err f → IsSaid (member n d ms) f) [
      | None ↦ λ bad rest e. let same : shape_fault n ≡ f = cc in record { name = n; is = sym same; least = here n d ms h.0 bad }
      | Some paths ↦ λ good. elim r as (λ r. cells_of ms ≡ r → with_cell n (Some paths) r ≡ Err f → IsSaid (member n d ms) f) [
        | Ok cells ↦ λ rest e. absurd cc
        | Err fault ↦ λ rest e. let w = least_bad ms f h.1 (rest ∙ e) in record { name = w.name; is = w.is; least = behind n d ms h.0 w.name paths good w.least }
      ]
    ]
    in cases (cell_of d) (cells_of ms) refl refl read

above_from : (k : String Global) (es : List Entry) → AllByRecursion (λ y. string_cmp k y ≡ Less) (keys_of es) → AboveAll (string_bytes k) (members_view es)
above_from k [] h = tt
above_from k (e ∷ es) h = (h.0, above_from k es h.1)

pub ascending_from : (es : List Entry) → IsStrictlySortedBy string_cmp (keys_of es) → Ascending (members_view es)
unfolding IsStrictlySortedBy
ascending_from [] h = tt
ascending_from (e ∷ es) h = (above_from e.0 es h.0, ascending_from es h.1)
