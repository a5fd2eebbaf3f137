-- The bits of the paths of a head's chains: as many as it declares, and at least one.
use Rattle.std.proofs.Common.{◌≡◌, ℕ, ◌+◌, ◌≤◌, suc, Bool, true, false, not, List, [], ◌∷◌, ◌++◌, length, map, sum_by, Option, Some, None, refl, sym, ap, ap₂, ◌∙◌, arith}
use Rattle.std.specs.Prelude.{All, IsSome, nat_eq}
use Rattle.std.specs.List.{zip, slice_index_or}
use Rattle.std.proofs.lemmas.Bool.{eqb-true, false≢true}
use Rattle.std.proofs.lemmas.List.{length-map}
use Rattle.std.proofs.lemmas.List.Sums.{sum_by-cons}
use Rattle.std.proofs.lemmas.List.Elements.{All-nil, All-cons, All-head, All-tail, All-contains, Contains-get_or}
use Rattle.base_types.specs.declared.fault.Fault.{Fault}
use Rattle.netlist_core.specs.declared.netlist.Netlist.{Netlist}
use Rattle.netlist_core.specs.Netlists.{plain_of}
use Rattle.cell_table.specs.declared.paths.ScanPath.{ScanPath}
use Rattle.cell_table.specs.declared.paths.OutPin.{OutPin}
use Rattle.cell_table.specs.Cells.{Cells}
use Rattle.chain_trace.specs.declared.path.Step.{Step}
use Rattle.chain_trace.specs.declared.path.Path.{Path}
use Rattle.chain_trace.specs.Paths.{scan_path_at, out_pin_at}
use Rattle.chain_trace.specs.Parities.{Mark, Turn, Bit, bit_marks, entry_marks, step_marks, path_marks, bits_in, NamesEntry}
use Rattle.stil_types.specs.declared.head.ScanChainDecl.{ScanChainDecl}
use Rattle.stil_types.specs.declared.head.StilHead.{StilHead}
use Rattle.stil_head.specs.Heads.{DenotesHead}
use Rattle.stil_head.proofs.Declared.{some_bits}
use Rattle.head_checks.specs.Asked.{asked_by_head}
use Rattle.traced_paths.specs.Traced.{ArePathsOf, NameEntries}
use Rattle.traced_paths.specs.Bits.{length_of, step_bits, path_bits}
use Rattle.head_checks.specs.Heads.{Declared, has_other_length, line_of, HoldsInHeads, OfLength}
use Rattle.path_chains.specs.Numbered.{bits_along, HaveBits}
use Rattle.path_laws.proofs.Outputs.{head_outputs}

-- how many bits a path has

last_count : (ms : List Mark) (b : Bool) → length (bits_in (ms ++ Turn b ∷ [])) ≡ length (bits_in ms)
last_count [] b = refl
last_count (Turn c ∷ ms) b = last_count ms b
last_count (Bit c ∷ ms) b = ap suc (last_count ms b)

marks_count : (i p k : ℕ) (bs : List Bool) → length (bits_in (bit_marks i p k bs)) ≡ length bs
marks_count i p k [] = refl
marks_count i p k (b ∷ bs) = ap suc (marks_count i p (k + 1) bs)

entry_count : (s : Step) (path : Option ScanPath) (out : Option OutPin) → IsSome out → length (bits_in (entry_marks s path out)) ≡ length_of path
entry_count s None out some = refl
entry_count s (Some path) None some = absurd (false≢true some)
entry_count s (Some path) (Some out) some = last_count (bit_marks s.instance s.path 0 path.bits) out.inverted ∙ marks_count s.instance s.path 0 path.bits

append_count : (ms ns : List Mark) → length (bits_in (ms ++ ns)) ≡ length (bits_in ms) + length (bits_in ns)
append_count [] ns = omega arith
append_count (Turn b ∷ ms) ns = append_count ms ns
append_count (Bit b ∷ ms) ns = let rest = append_count ms ns in omega arith

steps_count : (n : Netlist) (cells : Cells) (steps : List Step) → All (NamesEntry n cells) steps → length (bits_in (path_marks n cells steps)) ≡ sum_by (step_bits n cells) steps
steps_count n cells [] entries = refl
steps_count n cells (s ∷ ss) entries =
    let here = entry_count s (scan_path_at n cells s.instance s.path) (out_pin_at n cells s) (All-head (NamesEntry n cells) s ss entries) in
    let rest = steps_count n cells ss (All-tail (NamesEntry n cells) s ss entries) in
    let both = append_count (step_marks n cells s) (path_marks n cells ss) in
    let sum = sum_by-cons (step_bits n cells) s ss in
    omega (arith, here, rest, both, sum)

along_count : (n : Netlist) (cells : Cells) (ps : List Path) → NameEntries n cells ps → map (λ (p : Path). length (bits_along n cells p).bits) ps ≡ map (path_bits n cells) ps
along_count n cells [] entries = refl
along_count n cells (p ∷ ps) entries =
    ap₂ (λ (x : ℕ) (xs : List ℕ). x ∷ xs)
    (steps_count n cells p.steps (All-head (λ (p : Path). All (NamesEntry n cells) p.steps) p ps entries))
    (along_count n cells ps (All-tail (λ (p : Path). All (NamesEntry n cells) p.steps) p ps entries))

-- the declarations beside the paths

abbrev lengths_of : List ScanChainDecl → List ℕ
lengths_of cs = map (λ (c : ScanChainDecl). c.length) cs

is_length : (a b : ℕ) → (not (nat_eq a b) ≡ true → ⊥) → a ≡ b
is_length a b h = by (nat_eq a b) refl where
  by : (t : Bool) → nat_eq a b ≡ t → a ≡ b
  by true e = eqb-true a b e
  by false e = absurd (h (ap not e))

module _ (n : Netlist) (cells : Cells) where
  lengths_in : (cs : List ScanChainDecl) (ps : List Path) → length cs ≡ length ps → All (λ (d : Declared). has_other_length n cells d ≡ true → ⊥) (zip cs ps) → map (path_bits n cells) ps ≡ lengths_of cs
  lengths_in [] [] e each = refl
  lengths_in [] (p ∷ ps) e each = absurd (omega arith)
  lengths_in (c ∷ cs) [] e each = absurd (omega arith)
  lengths_in (c ∷ cs) (p ∷ ps) e each =
      ap₂ (λ (x : ℕ) (xs : List ℕ). x ∷ xs)
      (is_length (path_bits n cells p) c.length (All-head (λ (d : Declared). has_other_length n cells d ≡ true → ⊥) (c, p) (zip cs ps) each))
      (lengths_in cs ps (omega arith) (All-tail (λ (d : Declared). has_other_length n cells d ≡ true → ⊥) (c, p) (zip cs ps) each))

  some_in : (cs : List ScanChainDecl) (ps : List Path) → map (path_bits n cells) ps ≡ lengths_of cs → All (λ c. 1 ≤ c.length) cs → All (λ (p : Path). 1 ≤ path_bits n cells p) ps
  some_in cs [] e some = All-nil (λ (p : Path). 1 ≤ path_bits n cells p)
  some_in [] (p ∷ ps) e some = absurd cc
  some_in (c ∷ cs) (p ∷ ps) e some =
      let same : path_bits n cells p ≡ c.length = cc in
      let rest : map (path_bits n cells) ps ≡ lengths_of cs = cc in
      let here = All-head (λ (c : ScanChainDecl). 1 ≤ c.length) c cs some in
      All-cons (λ (p : Path). 1 ≤ path_bits n cells p) p ps (omega arith) (some_in cs ps rest (All-tail (λ (c : ScanChainDecl). 1 ≤ c.length) c cs some))

-- as many paths as declarations
paths_count : (n : Netlist) (cells : Cells) (text : List ℕ) (head : StilHead) (paths : List Path)
    → DenotesHead text head → ArePathsOf n cells (asked_by_head head) paths → length head.chains ≡ length paths
paths_count n cells text head paths is are =
    sym (length-map head.chains (λ (c : ScanChainDecl). c.scan_out)) ∙ ap length (sym (head_outputs text head is)) ∙ ap length (sym are.outputs)
    ∙ length-map paths (λ (p : Path). plain_of n.nets p.output)

-- the lengths are those declared, and each path has a bit
module _ (text : List ℕ) (head : StilHead) (n : Netlist) (cells : Cells) (paths : List Path) (is : DenotesHead text head) (traced : ArePathsOf n cells (asked_by_head head) paths)
    (entries : NameEntries n cells paths) (none : (fault : Fault) → HoldsInHeads n cells paths head fault → ⊥) where
  are_lengths : map (path_bits n cells) paths ≡ lengths_of head.chains
  are_lengths =
      lengths_in n cells head.chains paths (paths_count n cells text head paths is traced)
      (λ k x lt h. none _
      (OfLength (line_of (slice_index_or (zip head.chains paths) k x))
      (record { row = slice_index_or (zip head.chains paths) k x; there = Contains-get_or (zip head.chains paths) k x lt; fails = h; is = refl })))

  pub lengths : map (λ (p : Path). length (bits_along n cells p).bits) paths ≡ lengths_of head.chains
  lengths = along_count n cells paths entries ∙ are_lengths

  pub have_bits : HaveBits n cells paths
  have_bits p there =
      let some = some_in n cells head.chains paths are_lengths (some_bits text head is) in
      let one = All-contains (λ (q : Path). 1 ≤ path_bits n cells q) paths p some there in
      let same = steps_count n cells p.steps (All-contains (λ (q : Path). All (NamesEntry n cells) q.steps) paths p entries there) in
      omega (arith, one, same)
