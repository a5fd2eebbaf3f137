-- What is planned for patterns, from what is known of their head and the paths.
use Rattle.std.proofs.Common.{◌≡◌, ℕ, List, length, map, take, Option, Some, None, IsSome, refl, sym, ap, subst}
use Rattle.std.proofs.lemmas.List.{length-take-le}
use Rattle.std.specs.Prelude.{IsSomeAnd}
use Rattle.base_types.specs.declared.fault.Fault.{Fault}
use Rattle.std.specs.Option.{unwrap_or}
use Rattle.splice.specs.Spliced.{AreRising}
use Rattle.netlist_core.specs.declared.netlist.Netlist.{Netlist}
use Rattle.cell_table.specs.Cells.{Cells}
use Rattle.def_reader.specs.declared.design.Design.{Design}
use Rattle.chain_trace.specs.declared.path.Path.{Path}
use Rattle.chain_trace.specs.declared.path.PathBits.{PathBits}
use Rattle.chain_rules.specs.Plans.{PlanLists}
use Rattle.stil_types.specs.declared.head.StilHead.{StilHead}
use Rattle.stil_head.specs.Ends.{head_text}
use Rattle.head_chains.specs.Asked.{asked_by}
use Rattle.traced_paths.specs.Traced.{ArePathsOf}
use Rattle.head_checks.specs.Heads.{HoldsInHeads}
use Rattle.stil_reader.proofs.Heads.{head_within}
use Rattle.stil_calls.specs.Scans.{bits_of}
use Rattle.stil_tester.specs.Shifting.{bit_counts}
use Rattle.retarget.specs.Retargeting.{HaveSameCells}
use Rattle.path_chains.specs.Numbered.{bits_along}
use Rattle.path_chains.specs.Ranked.{ranked_chains, chains_along}
use Rattle.chain_maps.specs.Along.{RearrangedLaw}
use Rattle.head_chains.proofs.ByBlocks.{by_blocks}
use Rattle.path_laws.specs.Laws.{AreDeclared, DeclaredLaw}
use Rattle.head_text.specs.Written.{head_edits, written_head}
use Rattle.head_text.specs.Laws.{TextLaw}
use Rattle.head_writer.specs.NewChains.{new_chains}
use Rattle.head_writer.specs.Fits.{FitLaw, chains_for}
use Rattle.design_files.specs.declared.read.DesignFiles.{DesignFiles}
use Rattle.design_files.specs.Files.{Texts, IsHeadIn}
use Rattle.design_files.specs.Stages.{AreChecked}
use Rattle.reorder_command.specs.Planned.{AreNewPaths}
use Rattle.reorder_command.specs.PatternPlans.{AreMovable}

module _ (n : Netlist) (cells : Cells) (d : Option Design) (paths new : List Path) (bytes : List ℕ) (head : StilHead) (movable : AreMovable n cells d paths new bytes head) where
  abbrev pub own : List ℕ
  own = head_text bytes

  abbrev pub old_bits : List PathBits
  old_bits = map (bits_along n cells) paths

  abbrev pub new_bits : List PathBits
  new_bits = map (bits_along n cells) new

  declared : DeclaredLaw → AreDeclared n cells head paths
  declared law = let f = movable.fits in law bytes head n cells paths f.denotes f.netlist (by_blocks n cells d head paths f.traced) f.entries f.right

  pub same_cells : DeclaredLaw → RearrangedLaw → HaveSameCells (chains_along n cells paths) (chains_along n cells new)
  same_cells declared_law law = law n cells paths new movable.fits.netlist movable.anew.rearranged movable.fits.traced.once (declared declared_law).bits movable.anew.bits

  pub counts : DeclaredLaw → bit_counts (chains_along n cells paths) ≡ bits_of head.chains
  counts law = (declared law).counts

  -- the bytes up to the head's end are its text
  pub own_is : take head.end bytes ≡ own
  own_is = ap (λ (k : ℕ). take k bytes) (sym (ap (λ (o : Option ℕ). unwrap_or o (length bytes)) movable.fits.denotes.ends))

  pub own_ends : head.end ≡ length (take head.end bytes)
  own_ends = sym (length-take-le head.end bytes (head_within bytes head movable.fits.denotes))

  -- what is computed is what is to be written
  module _ (text : List ℕ) (olds news : List PathBits) (text_is : text ≡ own) (olds_are : olds ≡ old_bits) (news_are : news ≡ new_bits) where
    pub rising : FitLaw → TextLaw → AreRising 0 (length text) (head_edits head.marks head.chains (new_chains text head olds news))
    rising fit_law text_law =
        rw (text_is, olds_are, news_are)
        (text_law own head (chains_for own head n cells paths new) movable.fits.denotes.says (fit_law bytes own head n cells d paths new movable.fits refl movable.anew movable.few)).rising

    pub written_same : written_head (new_chains text head olds news) head text ≡ written_head (chains_for own head n cells paths new) head own
    written_same = rw (text_is, olds_are, news_are) refl

    pub old_chains_are : ranked_chains n olds ≡ chains_along n cells paths
    old_chains_are = ap (ranked_chains n) olds_are

    pub new_chains_are : ranked_chains n news ≡ chains_along n cells new
    new_chains_are = ap (ranked_chains n) news_are

-- where the files have a head, what is known of them is enough for a plan
pub movable : (t : Texts) (f : DesignFiles) → AreChecked t f → (plan : PlanLists) (new : List Path) → AreNewPaths f plan new → (text : List ℕ) (head : StilHead) → t.head ≡ Some text → f.head ≡ Some head
    → AreMovable f.netlist f.table (Some f.design) f.paths.items new text head
movable t f checked plan new are text head text_is head_is = record {
  fits = record {
    denotes = subst (λ (o : Option StilHead). IsHeadIn (Some text) o) head_is (subst (λ (o : Option (List ℕ)). IsHeadIn o f.head) text_is checked.head.is);
    netlist = checked.sound.is_netlist;
    traced = subst (λ (o : Option StilHead). ArePathsOf f.netlist f.table (asked_by (Some f.design) o) f.paths.items) head_is checked.paths.traced;
    entries = checked.paths.entries;
    right = subst (λ (o : Option StilHead). (fault : Fault) → IsSomeAnd o (λ h. HoldsInHeads f.netlist f.table f.paths.items h fault) → ⊥) head_is checked.inside.no_other;
  };
  anew = record {
    rearranged = are.rearranged;
    entries = are.new_entries;
    bits = are.new_bits (subst (λ (o : Option StilHead). IsSome o) (sym head_is) refl);
  };
  few = checked.inside.few_bits;
}

-- a head is denoted where there is a text, and nowhere else
pub no_head : (t : Texts) (f : DesignFiles) → AreChecked t f → t.head ≡ None → f.head ≡ None
no_head t f checked none = by f.head (subst (λ (o : Option (List ℕ)). IsHeadIn o f.head) none checked.head.is)
  where
    by : (o : Option StilHead) → IsHeadIn None o → o ≡ None
    by None is = refl
    by (Some head) is = absurd is

pub some_head : (t : Texts) (f : DesignFiles) → AreChecked t f → (text : List ℕ) → t.head ≡ Some text → f.head ≡ None → ⊥
some_head t f checked text some none = subst (λ (o : Option StilHead). IsHeadIn (Some text) o) none (subst (λ (o : Option (List ℕ)). IsHeadIn o f.head) some checked.head.is)
