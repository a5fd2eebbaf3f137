-- The bits of the scan path of each chain.
use Rattle.std.proofs.Common.{◌≡◌, ℕ, zero, suc, ◌+◌, ◌<◌, Bool, false, List, [], ◌∷◌, ◌++◌, map, refl, sym, ap, ◌∙◌, arith}
use Rattle.std.specs.List.{flat_map, range_with_len}
use Rattle.cell_table.specs.Table.{small_cells}
use Rattle.chain_trace.specs.declared.path.BitId.{BitId}
use Rattle.chain_trace.specs.Parities.{Mark, Turn, Bit, step_marks, path_marks, bits_in, parities, last_parity}
use Rattle.design_maker.specs.Chains.{chain_length, unit_of}
use Rattle.made_law.specs.Paths.MadeNetlist.{NetlistPlaces, made_netlist}
use Rattle.made_law.specs.Paths.MadePaths.{made_step}
use Rattle.made_law.specs.Paths.Laws.{BitsLaw}
use Rattle.made_law.proofs.paths.Sources.{instance_at}

-- the bit of element t of chain k
abbrev bit_of : ℕ → ℕ → BitId
bit_of k t = record { instance = unit_of k t; path = 0; index = 0 }

abbrev unit_marks : ℕ → ℕ → List Mark
unit_marks k t = Turn false ∷ Bit (bit_of k t) ∷ Turn false ∷ []

marks_of_step : (n : ℕ) (at : NetlistPlaces) (k t : ℕ) → unit_of k t < n → step_marks (made_netlist at n) small_cells (made_step k t) ≡ unit_marks k t
marks_of_step n at k t lt = rw (instance_at n at (unit_of k t) lt) refl

marks_are : (n : ℕ) (at : NetlistPlaces) (k a m : ℕ) → ((t : ℕ) → t < a + m → unit_of k t < n) → path_marks (made_netlist at n) small_cells (map (made_step k) (range_with_len a m)) ≡ flat_map (unit_marks k) (range_with_len a m)
marks_are n at k a zero within = refl
marks_are n at k a (suc m) within =
    ap (λ (l : List Mark). l ++ path_marks (made_netlist at n) small_cells (map (made_step k) (range_with_len (a + 1) m))) (marks_of_step n at k a (within a (omega arith)))
    ∙ ap (λ (l : List Mark). unit_marks k a ++ l) (marks_are n at k (a + 1) m (λ t lt. within t (omega arith)))

bits_are : (k : ℕ) (ts : List ℕ) → bits_in (flat_map (unit_marks k) ts) ≡ map (bit_of k) ts
bits_are k [] = refl
bits_are k (t ∷ ts) = ap (λ (l : List BitId). bit_of k t ∷ l) (bits_are k ts)

parities_are : (k : ℕ) (ts : List ℕ) → parities false (flat_map (unit_marks k) ts) ≡ map (λ t. false) ts
parities_are k [] = refl
parities_are k (t ∷ ts) = ap (λ (l : List Bool). false ∷ l) (parities_are k ts)

last_is : (k : ℕ) (ts : List ℕ) → last_parity false (flat_map (unit_marks k) ts) ≡ false
last_is k [] = refl
last_is k (t ∷ ts) = last_is k ts

pub bits_of_path : BitsLaw
bits_of_path n k at some most lt =
    let m = chain_length n k in
    let marks = marks_are n at k 0 m (λ t less. omega arith) in
    record {
      bits = sym (ap bits_in marks ∙ bits_are k (range_with_len 0 m));
      parity = sym (ap (parities false) marks ∙ parities_are k (range_with_len 0 m));
      out_parity = sym (ap (last_parity false) marks ∙ last_is k (range_with_len 0 m));
    }
