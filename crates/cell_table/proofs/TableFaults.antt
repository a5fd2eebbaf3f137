-- The faults of a table's text: there is one at most, and it is what is answered.
use Rattle.std.proofs.Common.{◌≡◌, ◌≢◌, ℕ, List, [], ◌∷◌, Option, Some, None, Result, Ok, Err, Ordering, Less, Equal, Greater, refl, sym, ap, ◌∙◌, subst}
use Rattle.std.specs.Cmp.Lexicographic.{slice_cmp}
use Rattle.std.specs.Cmp.{tied_itself}
use Rattle.std.specs.Prelude.{IfOk}
use Rattle.std.specs.Ordering.{nat_cmp, match_ordering, ordering_reverse}
use Rattle.std.proofs.lemmas.Cmp.{nat_list_cmp_total}
use Rattle.std.proofs.lemmas.Map.Lookups.{exact_bytes}
use Rattle.std.proofs.lemmas.Option.{same_Some, none-some}
use Rattle.base_types.specs.declared.fault.Fault.{Fault}
use Rattle.base_types.specs.declared.fault.FileKind.TheVariants.{Table as in_table}
use Rattle.base_types.specs.declared.fault.Spot.TheVariants.{Nowhere}
use Rattle.base_types.specs.declared.kind.Kind.TheVariants.{TableSyntax}
use Rattle.base_types.specs.declared.fault.ReadFault.{ReadFault}
use Rattle.base_types.specs.declared.fault.ReadFault.TheVariants as read_faults
use Rattle.base_types.specs.FirstFault.{fault_key, ComesBefore, IsFirstFault, IfFault, Answers}
use Rattle.toml.specs.Data.{Data, Members, no_members, member, get_member}
use Rattle.cell_table.specs.declared.paths.ScanPath.{ScanPath}
use Rattle.cell_table.specs.Cells.{Cells, shape_fault, cell_of, named_cells, cells_in, document_at, document_of, table_of}
use Rattle.cell_table.specs.Ascending.{Ascending}
use Rattle.cell_table.specs.Entries.{AreMembers, IsCell, IsNamedCell, HasCells, DenotesCells, IsLeastBad, HoldsInTable, Syntax, Top, Cell, OneTableLaw, NoFaultLaw}
use Rattle.cell_table.proofs.EntryLaws.{cell_is, is_cell, has_is, is_has, table_denotes, denotes_table}
use Rattle.cell_table.proofs.LeastBad.{least_bad}
use Rattle.cell_table.proofs.LeastBad as read

pub one_table : OneTableLaw
one_table text cells others a b = let same = sym (denotes_table text cells a) ∙ denotes_table text others b in cc

same_entries : (document a b : Members) → HasCells document a → HasCells document b → a ≡ b
same_entries document a b h g = same_Some _ _ (sym h.at ∙ g.at)

-- of two least bad cells one would be less
by_names : (entries : Members) (n m : List ℕ) (o : Ordering) → o ≡ slice_cmp nat_cmp n m → IsLeastBad entries n → IsLeastBad entries m → n ≡ m
by_names entries n m Less is a b = let w = b.least n a.entry a.there (sym is) in absurd (a.bad w.0 w.1)
by_names entries n m Equal is a b = exact_bytes n m (sym is)
by_names entries n m Greater is a b =
    let less : slice_cmp nat_cmp m n ≡ Less = nat_list_cmp_total.antisymm m n ∙ ap ordering_reverse (sym is) in
    let w = a.least m b.entry b.there less in
    absurd (b.bad w.0 w.1)

pub one_fault : (text : List ℕ) (f g : Fault) → HoldsInTable text f → HoldsInTable text g → f ≡ g
one_fault text _ _ (Syntax none) (Syntax other) = refl
one_fault text _ _ (Syntax none) (Top d is wrong) = absurd (none-some _ (sym none ∙ is))
one_fault text _ _ (Syntax none) (Cell d es n is has least) = absurd (none-some _ (sym none ∙ is))
one_fault text _ _ (Top d is wrong) (Syntax none) = absurd (none-some _ (sym none ∙ is))
one_fault text _ _ (Top d is wrong) (Top e other nor) = refl
one_fault text _ _ (Top d is wrong) (Cell e es n other has least) = absurd (wrong es (subst (λ (x : Members). HasCells x es) (same_Some _ _ (sym other ∙ is)) has))
one_fault text _ _ (Cell d es n is has least) (Syntax none) = absurd (none-some _ (sym none ∙ is))
one_fault text _ _ (Cell d es n is has least) (Top e other wrong) = absurd (wrong es (subst (λ (x : Members). HasCells x es) (same_Some _ _ (sym is ∙ other)) has))
one_fault text _ _ (Cell d es n is has least) (Cell e fs m other had lest) =
    let same = same_entries d es fs has (subst (λ (x : Members). HasCells x fs) (same_Some _ _ (sym other ∙ is)) had) in
    ap (λ (k : List ℕ). shape_fault k) (by_names es n m _ refl least (subst (λ (x : Members). IsLeastBad x m) (sym same) lest))

pub first : (text : List ℕ) (f : Fault) → HoldsInTable text f → IsFirstFault (HoldsInTable text) f
first text f h = record {
  holds = h;
  least = λ g other before.
      let same = one_fault text g f other h in
      let tied : slice_cmp nat_cmp (fault_key f) (fault_key f) ≡ Equal = tied_itself nat_list_cmp_total (fault_key f) in
      let here : slice_cmp nat_cmp (fault_key f) (fault_key f) ≡ Less = subst (λ (x : Fault). ComesBefore x f) same before in
      absurd cc;
}

by_key : (name k : List ℕ) (d e : Data) (ms : Members) (o : Ordering) (is : (paths : List ScanPath) × IsCell e paths) → match_ordering o (get_member name ms) (Some e) (get_member name ms) ≡ Some d
    → (get_member name ms ≡ Some d → (paths : List ScanPath) × IsCell d paths) → (paths : List ScanPath) × IsCell d paths
by_key name k d e ms Less is found later = later found
by_key name k d e ms Equal is found later = (is.0, subst (λ (x : Data). IsCell x is.0) (same_Some _ _ found) is.1)
by_key name k d e ms Greater is found later = later found

-- what stands at a name of a table that denotes cells is a cell
each_is_cell : (es : Members) (cells : Cells) (name : List ℕ) (d : Data) → AreMembers IsNamedCell es cells → get_member name es ≡ Some d → (paths : List ScanPath) × IsCell d paths
each_is_cell no_members cells name d a found = absurd cc
each_is_cell (member k e ms) [] name d a found = absurd a
each_is_cell (member k e ms) (c ∷ cs) name d a found = by_key name k d e ms (slice_cmp nat_cmp name k) (c.1, a.0.is) found (each_is_cell ms cs name d a.1)

pub no_fault : NoFaultLaw
no_fault text cells _ w (Syntax none) = none-some _ (sym none ∙ w.is)
no_fault text cells _ w (Top d is wrong) = wrong w.entries (subst (λ (x : Members). HasCells x w.entries) (same_Some _ _ (sym w.is ∙ is)) w.has)
no_fault text cells _ w (Cell d es n is has least) =
    let same = same_entries d es w.entries has (subst (λ (x : Members). HasCells x w.entries) (same_Some _ _ (sym w.is ∙ is)) w.has) in
    let c = each_is_cell w.entries cells n least.entry w.are (subst (λ (x : Members). get_member n x ≡ Some least.entry) same least.there) in
    least.bad c.0 c.1

by_cell : (d : Data) (o : Option (List ScanPath)) → o ≡ cell_of d → o ≢ None → (paths : List ScanPath) × IsCell d paths
by_cell d None is some = absurd (some refl)
by_cell d (Some paths) is some = (paths, cell_is d paths (sym is))

told : (entries : Members) (name : List ℕ) → read.IsLeastBad entries name → IsLeastBad entries name
told entries name w = record {
  entry = w.entry;
  there = w.there;
  bad = λ paths is. none-some _ (sym w.bad ∙ is_cell w.entry paths is);
  least = λ other d there less. by_cell d (cell_of d) refl (w.least other d there less);
}

by_entries : (text : List ℕ) (document : Members) (f : Fault) (o : Option Members) → document_at text ≡ Some document → o ≡ named_cells document → ((entries : Members) → named_cells document ≡ Some entries → Ascending entries)
    → cells_in o ≡ Err f → HoldsInTable text f
by_entries text document f None is named ascending e =
    let same : shape_fault [] ≡ f = cc in
    subst (HoldsInTable text) same (Top document is (λ entries has. none-some _ (named ∙ is_has document entries has)))
by_entries text document f (Some entries) is named ascending e =
    let w = least_bad entries f (ascending entries (sym named)) e in
    subst (HoldsInTable text) (sym w.is) (Cell document entries w.name is (has_is document entries (sym named)) (told entries w.name w.least))

pub holds : (text : List ℕ) (document : Members) (f : Fault) → document_at text ≡ Some document → ((entries : Members) → named_cells document ≡ Some entries → Ascending entries) → document_of document ≡ Err f → HoldsInTable text f
unfolding document_of
holds text document f is ascending e = by_entries text document f (named_cells document) is refl ascending e

-- what a call answers
pub answered : (text : List ℕ) (document : Members) (r : Result Cells ReadFault) → document_at text ≡ Some document → ((entries : Members) → named_cells document ≡ Some entries → Ascending entries) → Answers {X = Cells} r (document_of document)
    → IfFault {X = Cells} r (IsFirstFault (HoldsInTable text))
answered text document (Ok cells) is ascending a = tt
answered text document (Err (read_faults.Fault f)) is ascending a = first text f (holds text document f is ascending a)
answered text document (Err read_faults.NoMemory) is ascending a = tt

pub denoted : (text : List ℕ) (r : Result Cells ReadFault) → Answers {X = Cells} r (table_of text) → IfOk r (DenotesCells text)
denoted text (Ok cells) a = table_denotes text cells a
denoted text (Err e) a = tt

pub syntax_first : (text : List ℕ) → document_at text ≡ None → IsFirstFault (HoldsInTable text) (record { kind = TableSyntax; file = in_table; spot = Nowhere })
syntax_first text none = first text _ (Syntax none)
