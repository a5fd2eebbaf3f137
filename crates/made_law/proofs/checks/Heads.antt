-- A head with the blocks of a made design fits its paths and its chains.
use Rattle.std.proofs.Common.{◌≡◌, ℕ, zero, suc, ◌+◌, ◌<◌, ◌≤◌, Bool, true, false, not, ◌==◌, List, [], ◌∷◌, ◌++◌, map, refl, sym, ap, ◌∙◌, subst, arith}
use Rattle.std.specs.List.{flat_map, sum_by, zip, range_with_len, AllByRecursion as Each}
use Rattle.std.specs.Fmt.{digits}
use Rattle.std.proofs.lemmas.Bool.Decides.{nat_tests}
use Rattle.std.proofs.lemmas.List.Sums.{sum_by-cons}
use Rattle.base_types.specs.declared.fault.Fault.{Fault}
use Rattle.cell_table.specs.Table.{small_cells}
use Rattle.chain_trace.specs.Parities.{odd, step_inversions}
use Rattle.traced_paths.specs.Bits.{step_bits, path_bits}
use Rattle.def_reader.specs.declared.design.ScanChainText.{ScanChainText}
use Rattle.stil_types.specs.declared.head.ScanChainDecl.{ScanChainDecl}
use Rattle.stil_types.specs.declared.head.StilHead.{StilHead}
use Rattle.head_checks.specs.Heads.{Declared, begins_elsewhere, has_other_length, has_other_inversion, are_listed, lists_others, line_of, FailsOn, HoldsInHeads, OfPort, OfLength, OfInversion, OfCells}
use Rattle.head_chains.specs.Chains.{is_undeclared, Undeclared}
use Rattle.design_maker.specs.Chains.{chain_length, unit_of}
use Rattle.made_law.specs.Designs.Places.{Place}
use Rattle.made_law.specs.Designs.MadeChains.{made_chain, made_chains}
use Rattle.made_law.specs.Paths.MadeNetlist.{NetlistPlaces, made_netlist}
use Rattle.made_law.specs.Paths.MadePaths.{made_step, made_path}
use Rattle.made_law.proofs.paths.Sources.{below_eight, instance_at}
use Rattle.made_law.specs.Checks.MadeAsked.{made_paths}
use Rattle.made_law.specs.Checks.MadeBlocks.{BlockPlace, made_block, made_blocks}
use Rattle.made_law.specs.Checks.Laws.{HeadsLaw, DeclaredLaw}
use Rattle.made_law.proofs.checks.Members.{each_contains}
use Rattle.made_law.proofs.checks.Units.{unit_within}

-- a row that fails where none does
no_failure : {X : Type 0} (test : X → Bool) (lines : X → ℕ) (rows : List X) (line : ℕ) → Each (λ x. test x ≡ false) rows → FailsOn test lines rows line → ⊥
no_failure test lines rows line each h =
    let none = each_contains (λ x. test x ≡ false) rows h.row each h.there in
    let both : true ≡ false = sym h.fails ∙ none in
    absurd cc

same_number : (a b : ℕ) → a ≡ b → not (a == b) ≡ false
same_number a b e = grind (arith, nat_tests)

module _ (n : ℕ) (v : NetlistPlaces) (some : 8 ≤ n) (most : n ≤ 16384) where
  -- of the steps of a path
  bits_of : (k a m : ℕ) → ((t : ℕ) → t < a + m → unit_of k t < n) → sum_by (step_bits (made_netlist v n) small_cells) (map (made_step k) (range_with_len a m)) ≡ m
  bits_of k a zero within = refl
  bits_of k a (suc m) within =
      let one : step_bits (made_netlist v n) small_cells (made_step k a) ≡ 1 = rw (instance_at n v (unit_of k a) (within a (omega arith))) refl in
      let more = bits_of k (a + 1) m (λ t lt. within t (omega arith)) in
      let sum = sum_by-cons (step_bits (made_netlist v n) small_cells) (made_step k a) (map (made_step k) (range_with_len (a + 1) m)) in
      omega (arith, one, more, sum)

  parity_of : (k a m : ℕ) → ((t : ℕ) → t < a + m → unit_of k t < n) → odd (flat_map (step_inversions (made_netlist v n) small_cells) (map (made_step k) (range_with_len a m))) ≡ false
  parity_of k a zero within = refl
  parity_of k a (suc m) within =
      let two : step_inversions (made_netlist v n) small_cells (made_step k a) ≡ false ∷ false ∷ [] = rw (instance_at n v (unit_of k a) (within a (omega arith))) refl in
      ap (λ (l : List Bool). odd (l ++ flat_map (step_inversions (made_netlist v n) small_cells) (map (made_step k) (range_with_len (a + 1) m)))) two ∙ parity_of k (a + 1) m (λ t lt. within t (omega arith))

  abbrev pair : BlockPlace → ℕ → Declared
  pair at k = (made_block n at k, made_path n k)

  begins_there : (at : BlockPlace) (k : ℕ) → k < 8 → begins_elsewhere (made_netlist v n) (pair at k) ≡ false
  unfolding digits
  begins_there at = below_eight (λ k. begins_elsewhere (made_netlist v n) (pair at k) ≡ false) refl refl refl refl refl refl refl refl

  has_length : (at : BlockPlace) (k : ℕ) → k < 8 → has_other_length (made_netlist v n) small_cells (pair at k) ≡ false
  has_length at k lt =
      same_number (path_bits (made_netlist v n) small_cells (made_path n k)) (chain_length n k) (bits_of k 0 (chain_length n k) (λ t less. unit_within n k t some lt (omega (arith, less))))

  has_inversion : (at : BlockPlace) (k : ℕ) → k < 8 → has_other_inversion (made_netlist v n) small_cells (pair at k) ≡ false
  has_inversion at k lt = parity_of k 0 (chain_length n k) (λ t less. unit_within n k t some lt (omega (arith, less)))

  each_pair : (test : Declared → Bool) (at : ℕ → BlockPlace) → ((b : BlockPlace) (k : ℕ) → k < 8 → test (pair b k) ≡ false) → Each (λ x. test x ≡ false) (zip (made_blocks at n) (made_paths n))
  each_pair test at f = (
    f (at 0) 0 (omega arith),
    (f (at 1) 1 (omega arith), (f (at 2) 2 (omega arith), (f (at 3) 3 (omega arith), (f (at 4) 4 (omega arith), (f (at 5) 5 (omega arith), (f (at 6) 6 (omega arith), (f (at 7) 7 (omega arith), tt))))))),
  )

  -- with these blocks no test fails
  module _ (at : ℕ → BlockPlace) (head : StilHead) (is : head.chains ≡ made_blocks at n) where
    abbrev On : (Declared → Bool) → ℕ → Type 0
    On test line = FailsOn test line_of (zip head.chains (made_paths n)) line

    none : (test : Declared → Bool) (line : ℕ) → ((b : BlockPlace) (k : ℕ) → k < 8 → test (pair b k) ≡ false) → On test line → ⊥
    none test line f h =
        no_failure test line_of (zip (made_blocks at n) (made_paths n)) line (each_pair test at f) (subst (λ (l : List ScanChainDecl). FailsOn test line_of (zip l (made_paths n)) line) is h)

    unlisted : are_listed head.chains ≡ false
    unlisted = ap are_listed is

    no_head_fault : (fault : Fault) → HoldsInHeads (made_netlist v n) small_cells (made_paths n) head fault → ⊥
    no_head_fault _ (OfPort line h) = none (begins_elsewhere (made_netlist v n)) line begins_there h
    no_head_fault _ (OfLength line h) = none (has_other_length (made_netlist v n) small_cells) line has_length h
    no_head_fault _ (OfInversion line h) = none (has_other_inversion (made_netlist v n) small_cells) line has_inversion h
    no_head_fault _ (OfCells line h) = none (lists_others (made_netlist v n) small_cells (are_listed head.chains)) line (λ b k lt. unlisted) h

pub heads_right : HeadsLaw
heads_right n v at head some most is fault h = no_head_fault n v some most at head is fault h

-- the ports of the design's chains
chain_declared : (n : ℕ) (at : ℕ → BlockPlace) (p : Place) (k : ℕ) → k < 8 → is_undeclared (made_blocks at n) (made_chain n p k) ≡ false
unfolding digits
chain_declared n at p = below_eight (λ k. is_undeclared (made_blocks at n) (made_chain n p k) ≡ false) refl refl refl refl refl refl refl refl

each_chain : (n : ℕ) (at : ℕ → BlockPlace) (places : ℕ → Place) → Each (λ c. is_undeclared (made_blocks at n) c ≡ false) (made_chains places n)
each_chain n at places =
    let f = chain_declared n at in (
      f (places 0) 0 (omega arith),
      (
        f (places 1) 1 (omega arith),
        (f (places 2) 2 (omega arith), (f (places 3) 3 (omega arith), (f (places 4) 4 (omega arith), (f (places 5) 5 (omega arith), (f (places 6) 6 (omega arith), (f (places 7) 7 (omega arith), tt)))))),
      ),
    )

pub declared_right : DeclaredLaw
declared_right n d at head is _ (Undeclared line h) =
    no_failure (is_undeclared (made_blocks at n)) (λ (c : ScanChainText). c.line) (made_chains d.chains n) line (each_chain n at d.chains)
    (subst (λ (l : List ScanChainDecl). FailsOn (is_undeclared l) (λ (c : ScanChainText). c.line) (made_chains d.chains n) line) is h)
