-- Files mean one thing at most, and what is kept of them is of this.
use Rattle.std.proofs.Common.{◌≡◌, ◌↔◌, ℕ, List, length, map, Option, Some, None, refl, sym, ap, ◌∙◌, subst}
use Rattle.std.proofs.lemmas.List.{length-map}
use Rattle.netlist_core.specs.declared.netlist.Netlist.{Netlist}
use Rattle.cell_table.specs.Cells.{Cells}
use Rattle.cell_table.proofs.TableFaults.{one_table}
use Rattle.verilog_reader.proofs.OneNetlist.{one_netlist}
use Rattle.chain_trace.specs.declared.path.BitId.{BitId}
use Rattle.chain_trace.specs.declared.path.PathBits.{PathBits}
use Rattle.chain_trace.specs.declared.path.Path.{Path}
use Rattle.stil_types.specs.declared.head.StilHead.{StilHead}
use Rattle.stil_head.specs.Ends.{head_text}
use Rattle.stil_head.proofs.Texts.{only_head}
use Rattle.head_checks.specs.Asked.{asked_by_head}
use Rattle.traced_paths.specs.Traced.{ArePathsOf}
use Rattle.traced_paths.proofs.PathsFaults.{one_list}
use Rattle.path_chains.specs.Numbered.{bits_along, bits_of_paths}
use Rattle.path_chains.specs.Ranked.{bits_of_all, chains_along}
use Rattle.stil_reader.specs.Patterns.{names_in, statements_in}
use Rattle.stil_tester.specs.Meaning.{PatternText}
use Rattle.head_alike.specs.Erased.{head_tokens}
use Rattle.same_files.specs.Meaning.{patterns_in, Means}
use Rattle.same_files.specs.Cells.{HaveSameScanCells}
use Rattle.same_files.specs.Sets.{FileSet, IsFileSet, ReadSet, IsSet, meant_by}
use Rattle.same_files.specs.Same.{HaveCellsAlike}
use Rattle.same_files.proofs.Names.{all_along}

module _ (table verilog stil : List ℕ) (set : ReadSet) (is : IsSet table verilog stil set) where
  abbrev pub file_set : FileSet
  file_set = record { cells = is.cells; netlist = set.netlist; paths = is.paths; meant = meant_by set stil }

  abbrev text_on : Netlist → Cells → List Path → StilHead → PatternText
  text_on n cells paths head = record {
    head = head_tokens (head_text stil);
    names = names_in (patterns_in head stil).says;
    played = record { chains = chains_along n cells paths; statements = statements_in (patterns_in head stil).says };
  }

  meant_is : meant_by set stil ≡ text_on set.netlist is.cells is.paths set.head
  meant_is = λ i. record {
    head = head_tokens (head_text stil);
    names = is.patterns.names_are i;
    played = record { chains = is.chains_are i; statements = statements_in (patterns_in set.head stil).says };
  }

  pub means : IsFileSet table verilog stil file_set
  means = record {
    cells_are = is.cells_are;
    netlist_is = is.netlist_is;
    means = record {
      head = set.head;
      head_is = is.patterns.head_is;
      paths_are = is.paths_are;
      declared = is.declared;
      sound = is.patterns.sound;
      is = meant_is;
    };
  }

  pub one_set : (other : FileSet) → IsFileSet table verilog stil other → other ≡ file_set
  one_set other o =
      let m = o.means in
      let cells : other.cells ≡ is.cells = one_table table other.cells is.cells o.cells_are is.cells_are in
      let netlist : other.netlist ≡ set.netlist = one_netlist verilog other.netlist set.netlist o.netlist_is is.netlist_is in
      let head : m.head ≡ set.head = only_head stil set.head m.head is.patterns.head_is m.head_is in
      let traced : ArePathsOf set.netlist is.cells (asked_by_head set.head) other.paths =
      subst (λ (h : StilHead). ArePathsOf set.netlist is.cells (asked_by_head h) other.paths) head
      (subst (λ (c : Cells). ArePathsOf set.netlist c (asked_by_head m.head) other.paths) cells
      (subst (λ (n : Netlist). ArePathsOf n other.cells (asked_by_head m.head) other.paths) netlist m.paths_are)) in
      let paths : other.paths ≡ is.paths = one_list set.netlist is.cells (asked_by_head set.head) is.netlist_is.sound other.paths is.paths traced is.paths_are in
      let text : other.meant ≡ meant_by set stil = m.is ∙ (λ i. text_on (netlist i) (cells i) (paths i) (head i)) ∙ sym meant_is in
      λ i. record { cells = cells i; netlist = netlist i; paths = paths i; meant = text i }

-- the scan cells of two sets
module _ (table verilog stil : List ℕ) (old : ReadSet) (is : IsSet table verilog stil old) (new_verilog new_stil : List ℕ) (new : ReadSet) (is' : IsSet table new_verilog new_stil new) where
  abbrev Alike : List PathBits → List PathBits → Type 0
  Alike a b = (length a ≡ length b) × HaveSameScanCells old.netlist new.netlist (bits_of_all a) (bits_of_all b)

  abbrev OnPaths : Type 0
  OnPaths = HaveCellsAlike (file_set table verilog stil old is) (file_set table new_verilog new_stil new is')

  abbrev Between : List BitId → List BitId → Type 0
  Between a b = HaveSameScanCells old.netlist new.netlist a b

  old_bits : bits_of_all old.bits ≡ bits_of_paths old.netlist is.cells is.paths
  old_bits = ap bits_of_all is.bits_are ∙ all_along old.netlist is.cells is.paths

  new_bits : bits_of_all new.bits ≡ bits_of_paths new.netlist is'.cells is'.paths
  new_bits = ap bits_of_all is'.bits_are ∙ all_along new.netlist is'.cells is'.paths

  old_count : length old.bits ≡ length is.paths
  old_count = ap length is.bits_are ∙ length-map is.paths (bits_along old.netlist is.cells)

  new_count : length new.bits ≡ length is'.paths
  new_count = ap length is'.bits_are ∙ length-map is'.paths (bits_along new.netlist is'.cells)

  pub alike_sets : Alike old.bits new.bits ↔ OnPaths
  alike_sets = (
    λ a. record { chains = sym old_count ∙ a.0 ∙ new_count; cells = subst (λ (x : List BitId). Between x (bits_of_paths new.netlist is'.cells is'.paths)) old_bits (subst (Between (bits_of_all old.bits)) new_bits a.1) },
    λ p. (
      old_count ∙ p.chains ∙ sym new_count,
      subst (λ (x : List BitId). Between x (bits_of_all new.bits)) (sym old_bits) (subst (Between (bits_of_paths old.netlist is.cells is.paths)) (sym new_bits) p.cells),
    ),
  )
