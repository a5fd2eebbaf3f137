-- The bits of a path: how many there are, and the names of their instances.
use Rattle.std.proofs.Common.{◌≡◌, ℕ, suc, ◌+◌, Bool, true, false, List, [], ◌∷◌, ◌++◌, length, map, replicate, sum_by, Option, Some, None, refl, sym, ap, ap₂, ◌∙◌, arith, length-append}
use Rattle.std.specs.Prelude.{All, IsSome}
use Rattle.std.specs.List.{flat_map, slice_get}
use Rattle.std.proofs.lemmas.Bool.{false≢true}
use Rattle.std.proofs.lemmas.List.{length-map, length-replicate}
use Rattle.std.proofs.lemmas.List.Sums.{sum_by-cons}
use Rattle.std.proofs.lemmas.List.Elements.{All-head, All-tail}
use Rattle.netlist_core.specs.declared.netlist.Netlist.{Netlist}
use Rattle.cell_table.specs.declared.paths.ScanPath.{ScanPath}
use Rattle.cell_table.specs.declared.paths.OutPin.{OutPin}
use Rattle.cell_table.specs.Cells.{Cells}
use Rattle.chain_trace.specs.declared.path.BitId.{BitId}
use Rattle.chain_trace.specs.declared.path.Step.{Step}
use Rattle.chain_trace.specs.declared.path.Path.{Path}
use Rattle.chain_trace.specs.Paths.{scan_path_at, out_pin_at}
use Rattle.chain_trace.specs.Parities.{Mark, Turn, Bit, bit_marks, entry_marks, step_marks, path_marks, bits_in, plus, parities, NamesEntry}
use Rattle.traced_paths.specs.Traced.{NameEntries}
use Rattle.traced_paths.specs.Bits.{length_of, step_bits, path_bits, all_bits}
use Rattle.head_checks.specs.Heads.{name_of, step_names}
use Rattle.path_chains.specs.Numbered.{bits_along, bits_of_paths}

-- as many parities as bits
pub parity_count : (so : Bool) (ms : List Mark) → length (parities so ms) ≡ length (bits_in ms)
parity_count so [] = refl
parity_count so (Turn b ∷ ms) = parity_count (plus so b) ms
parity_count so (Bit b ∷ ms) = ap suc (parity_count false ms)

bits_append : (ms ns : List Mark) → bits_in (ms ++ ns) ≡ bits_in ms ++ bits_in ns
bits_append [] ns = refl
bits_append (Turn b ∷ ms) ns = bits_append ms ns
bits_append (Bit b ∷ ms) ns = ap (λ (bs : List BitId). b ∷ bs) (bits_append ms ns)

last_turn : (ms : List Mark) (b : Bool) → bits_in (ms ++ Turn b ∷ []) ≡ bits_in ms
last_turn [] b = refl
last_turn (Turn c ∷ ms) b = last_turn ms b
last_turn (Bit c ∷ ms) b = ap (λ (bs : List BitId). c ∷ bs) (last_turn ms b)

map_both : (f : BitId → List ℕ) (xs ys : List BitId) → map f (xs ++ ys) ≡ map f xs ++ map f ys
map_both f [] ys = refl
map_both f (x ∷ xs) ys = ap (λ (l : List (List ℕ)). f x ∷ l) (map_both f xs ys)

module _ (n : Netlist) where
  -- the name of a bit's instance
  abbrev pub name_at : BitId → List ℕ
  name_at bit = name_of (slice_get n.instances bit.instance)

  marks_names : (i p k : ℕ) (bs : List Bool) → map name_at (bits_in (bit_marks i p k bs)) ≡ replicate (length bs) (name_of (slice_get n.instances i))
  marks_names i p k [] = refl
  marks_names i p k (b ∷ bs) = ap (λ (l : List (List ℕ)). name_of (slice_get n.instances i) ∷ l) (marks_names i p (k + 1) bs)

  entry_names : (s : Step) (path : Option ScanPath) (out : Option OutPin) → IsSome out → map name_at (bits_in (entry_marks s path out)) ≡ replicate (length_of path) (name_of (slice_get n.instances s.instance))
  entry_names s None out some = refl
  entry_names s (Some path) None some = absurd (false≢true some)
  entry_names s (Some path) (Some out) some =
      ap (map name_at) (last_turn (bit_marks s.instance s.path 0 path.bits) out.inverted) ∙ marks_names s.instance s.path 0 path.bits

  module _ (cells : Cells) where
    -- of a path whose steps name entries each bit has its instance's name
    pub names_along : (steps : List Step) → All (NamesEntry n cells) steps → map name_at (bits_in (path_marks n cells steps)) ≡ flat_map (step_names n cells) steps
    names_along [] entries = refl
    names_along (s ∷ ss) entries =
        ap (map name_at) (bits_append (step_marks n cells s) (path_marks n cells ss))
        ∙ map_both name_at (bits_in (step_marks n cells s)) (bits_in (path_marks n cells ss))
        ∙ ap₂ (λ (a b : List (List ℕ)). a ++ b)
        (entry_names s (scan_path_at n cells s.instance s.path) (out_pin_at n cells s) (All-head (NamesEntry n cells) s ss entries))
        (names_along ss (All-tail (NamesEntry n cells) s ss entries))

    names_count : (steps : List Step) → length (flat_map (step_names n cells) steps) ≡ sum_by (step_bits n cells) steps
    names_count [] = refl
    names_count (s ∷ ss) =
        let here = length-replicate (step_bits n cells s) (name_of (slice_get n.instances s.instance)) in
        let both = length-append (step_names n cells s) (flat_map (step_names n cells) ss) in
        let rest = names_count ss in
        let sum = sum_by-cons (step_bits n cells) s ss in
        omega (arith, here, both, rest, sum)

    -- and it has as many bits as its scan paths
    pub count_along : (p : Path) → All (NamesEntry n cells) p.steps → length (bits_along n cells p).bits ≡ path_bits n cells p
    count_along p entries = sym (length-map (bits_along n cells p).bits name_at) ∙ ap length (names_along p.steps entries) ∙ names_count p.steps

    -- so have all paths together
    pub count_all : (ps : List Path) → NameEntries n cells ps → length (bits_of_paths n cells ps) ≡ all_bits n cells ps
    count_all [] entries = refl
    count_all (p ∷ ps) entries =
        let here = count_along p (All-head (λ (p : Path). All (NamesEntry n cells) p.steps) p ps entries) in
        let rest = count_all ps (All-tail (λ (p : Path). All (NamesEntry n cells) p.steps) p ps entries) in
        let both = length-append (bits_along n cells p).bits (bits_of_paths n cells ps) in
        let sum = sum_by-cons (path_bits n cells) p ps in
        omega (arith, here, rest, both, sum)
