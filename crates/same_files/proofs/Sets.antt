-- What is read of a set of files, and its first fault.
use Rattle.std.proofs.Common.{◌≡◌, ℕ, ◌<◌, ◌≤◌, Bool, true, false, cond, List, [], ◌∷◌, length, take, drop, map, Option, Some, None, inl, inr, refl, sym, ap, ◌∙◌, subst, arith}
use Rattle.std.specs.Prelude.{nat_lt}
use Rattle.std.proofs.lemmas.Bool.{cases_Bool, ltb-true}
use Rattle.base_types.specs.declared.fault.Fault.{Fault}
use Rattle.base_types.specs.FirstFault.{IsFirstFault}
use Rattle.path_chains.specs.Ranked.{ranked_chains}
use Rattle.stil_types.specs.declared.head.StilHead.{StilHead}
use Rattle.stil_head.specs.Heads.{DenotesHead}
use Rattle.stil_parts.specs.declared.gap.Comment.TheVariants.{Outside}
use Rattle.stil_parts.specs.Coming.{largest}
use Rattle.stil_parts.specs.Heads.{head_end, head_len}
use Rattle.stil_calls.specs.declared.judging.Judging.TheVariants.{Lengths}
use Rattle.stil_calls.specs.Statements.{IsFaultOf}
use Rattle.stil_reader.specs.Sayings.{Head, Told, after, told_whole}
use Rattle.stil_reader.specs.Patterns.{behind_head, names_in, patterns_told}
use Rattle.stil_reader.proofs.Whole.{whole_law}
use Rattle.declared_chains.specs.declared.declared.Declared.{Declared}
use Rattle.declared_chains.specs.Files.{IsHeadText}
use Rattle.declared_chains.specs.Faults.{HoldsBeforePatterns, HoldsInPlay, OfDeclarations}
use Rattle.declared_chains.specs.Stages.{AreDeclared}
use Rattle.declared_chains.proofs.WholeFaults.{first_pattern, none_at_all}
use Rattle.same_files.specs.Meaning.{patterns_in}
use Rattle.same_files.specs.Sets.{ReadSet, AreNamed, AreNames, IsSet}
use Rattle.same_files.proofs.OwnHeads.{IsOwnHead, own_head, free_behind}
use Rattle.same_files.proofs.Names.{are_named}

-- the head of a text that isn't too long shows
pub shown : (stil text : List ℕ) (n : ℕ) → length stil ≤ 67108864 → head_end true Outside 0 stil ≡ Some n → text ≡ take n stil → IsHeadText stil text
shown stil text n small ends is = record {
  len = n;
  ends = elim (cases_Bool (nat_lt largest (length stil))) [
    | inl large ↦ (let lt = ltb-true largest (length stil) large in absurd (omega (arith, lt, small)))
    | inr few ↦ ap (λ (b : Bool). cond b (head_end false Outside 0 (take largest stil)) (head_end true Outside 0 stil)) few ∙ ends
  ];
  is = is;
}

abbrev pub read_as : Declared → List (List ℕ) → ReadSet
read_as d names = record { head = d.head; netlist = d.netlist; bits = d.bits; chains = d.chains; names = names }

module _ (table verilog stil text : List ℕ) (is_text : IsHeadText stil text) (d : Declared) (are : AreDeclared table verilog text d) where
  own : IsOwnHead stil text d.head
  own = own_head stil text d.head is_text are.traced.read.head_is

  pub denotes : DenotesHead stil d.head
  denotes = own.denotes

  pub named : AreNamed d.netlist d.bits
  named = are_named d.netlist are.cells are.paths d.bits are.traced.read.netlist_is.sound are.traced.paths_are.once are.bits

  fault_is : (told_whole d.head stil).fault ≡ (patterns_told Lengths d.head stil).fault
  fault_is = ap (λ (t : Told). t.fault) (whole_law stil d.head d.head.end own.end own.denotes)

  module _ (none : (f : Fault) → HoldsBeforePatterns table verilog text f → ⊥) where
    pub pattern_fault : (f : Fault) → IsFaultOf (patterns_told Lengths d.head stil).fault f → IsFirstFault (HoldsInPlay table verilog stil) f
    pattern_fault f h = first_pattern table verilog stil text is_text none d.head are.traced.read.head_is f (h.0, fault_is ∙ h.1, h.2)

    pub no_fault : (patterns_told Lengths d.head stil).fault ≡ None → (f : Fault) → HoldsInPlay table verilog stil f → ⊥
    no_fault sound = none_at_all table verilog stil text is_text none d.head are.traced.read.head_is (fault_is ∙ sound)

    pub is_set : (names : List (List ℕ)) → AreNames (patterns_told Lengths d.head stil) names → IsSet table verilog stil (read_as d names)
    is_set names are_names =
        let free : patterns_told Lengths d.head stil ≡ patterns_in d.head stil = free_behind d.head (behind_head d.head stil) (drop d.head.end stil) are_names.sound in
        record {
          cells = are.cells;
          paths = are.paths;
          cells_are = are.traced.read.cells_are;
          netlist_is = are.traced.read.netlist_is;
          patterns = record {
            head_is = own.denotes;
            chains_are = are.is ∙ ap (ranked_chains d.netlist) (sym are.bits);
            fits = are.fits;
            told = free;
            sound = sym (ap (λ (t : Told). t.fault) free) ∙ are_names.sound;
            names_are = are_names.are ∙ ap (λ (t : Told). names_in t.says) free;
          };
          paths_are = are.traced.paths_are;
          declared = λ f h. none f (OfDeclarations are.cells d.netlist d.head are.paths are.traced h);
          bits_are = are.bits;
          chains_are = are.is;
        }
