-- What holds of statements that have passed the number check: their numbers are small, and their vectors have few bits.
use Rattle.std.proofs.Common.{◌≡◌, ◌≤◌, Bool, true, false, cond, not, ◌&&◌, List, [], ◌∷◌, ◌++◌, Ok, Err, refl, ap, ◌∙◌, append_assoc, arith}
use Rattle.std.specs.Prelude.{nat_lt}
use Rattle.std.proofs.lemmas.Bool.{ltb-false}
use Rattle.std.proofs.lemmas.List.{append-nil}
use Rattle.base_types.specs.declared.kind.Kind.TheVariants.{VerilogNumber}
use Rattle.base_types.proofs.TruthValues.{or_first, or_second}
use Rattle.verilog_syntax.specs.declared.reading.Placed.{Placed}
use Rattle.verilog_syntax.specs.Reading.{fault_at}
use Rattle.verilog_names.specs.Declarations.{declarations}
use Rattle.verilog_checks.specs.Checks.{check_from, check_number}
use Rattle.verilog_checks.specs.Faults.{bad_number, vector_bits_from, vector_bits}
use Rattle.verilog_checks.specs.Steps.{has_bad_number, are_small}

-- a statement that passes has small numbers, and few bits with those before it
itself : (before : List Placed) (p : Placed) → bad_number before p ≡ false → has_bad_number p.statement ≡ false
unfolding bad_number
itself before p h = or_first (has_bad_number p.statement) (nat_lt 16777216 (vector_bits (declarations (before ++ p ∷ [])))) h

together : (before : List Placed) (p : Placed) → bad_number before p ≡ false → vector_bits (declarations (before ++ p ∷ [])) ≤ 16777216
unfolding bad_number
together before p h = ltb-false 16777216 (vector_bits (declarations (before ++ p ∷ []))) (or_second (has_bad_number p.statement) (nat_lt 16777216 (vector_bits (declarations (before ++ p ∷ [])))) h)

-- where a check passes from a statement on, the statement passes, and so do those behind it
passed_first : (before : List Placed) (p : Placed) (ps : List Placed) → check_from bad_number VerilogNumber before (p ∷ ps) ≡ Ok tt
    → (bad_number before p ≡ false) × (check_from bad_number VerilogNumber (before ++ p ∷ []) ps ≡ Ok tt)
unfolding check_from
passed_first before p ps h =
    let cases : (t : Bool) → bad_number before p ≡ t → cond t (Err (fault_at VerilogNumber p.line)) (check_from bad_number VerilogNumber (before ++ p ∷ []) ps) ≡ Ok tt
    → (bad_number before p ≡ false) × (check_from bad_number VerilogNumber (before ++ p ∷ []) ps ≡ Ok tt)
    = λ t. elim t as (λ t. bad_number before p ≡ t → cond t (Err (fault_at VerilogNumber p.line)) (check_from bad_number VerilogNumber (before ++ p ∷ []) ps) ≡ Ok tt
    → (bad_number before p ≡ false) × (check_from bad_number VerilogNumber (before ++ p ∷ []) ps ≡ Ok tt)) [
      | true ↦ λ e k. absurd cc
      | false ↦ λ e k. (e, k)
    ]
    in cases (bad_number before p) refl h

small_from : (ps before : List Placed) → check_from bad_number VerilogNumber before ps ≡ Ok tt → are_small ps ≡ true
small_from [] before h = refl
small_from (p ∷ ps) before h =
    let first = passed_first before p ps h in
    ap (λ (t : Bool). not t && are_small ps) (itself before p first.0) ∙ small_from ps (before ++ p ∷ []) first.1

pub small_passed : (ps : List Placed) → check_number ps ≡ Ok tt → are_small ps ≡ true
small_passed ps h = small_from ps [] h

few_from : (ps before : List Placed) → vector_bits (declarations before) ≤ 16777216 → check_from bad_number VerilogNumber before ps ≡ Ok tt → vector_bits (declarations (before ++ ps)) ≤ 16777216
few_from [] before few h = let k = ap (λ (l : List Placed). vector_bits (declarations l)) (append-nil before) in omega (arith, k)
few_from (p ∷ ps) before few h =
    let first = passed_first before p ps h in
    let k = ap (λ (l : List Placed). vector_bits (declarations l)) (append_assoc before (p ∷ []) ps) in
    let rest = few_from ps (before ++ p ∷ []) (together before p first.0) first.1 in
    omega (arith, k, rest)

pub few_bits : (ps : List Placed) → check_number ps ≡ Ok tt → vector_bits (declarations ps) ≤ 16777216
unfolding vector_bits_from
few_bits ps h = few_from ps [] (omega arith) h
