-- The marks of a path, piece by piece.
use Rattle.std.proofs.Common.{◌≡◌, ℕ, ◌+◌, ◌<◌, ◌≤◌, Bool, true, false, List, [], ◌∷◌, ◌++◌, length, get_or, take, refl, sym, ap, ◌∙◌, subst, arith}
use Rattle.std.specs.Prelude.{not}
use Rattle.std.specs.Bool.{beq}
use Rattle.std.proofs.lemmas.List.{take_more, take_all, append_assoc, append-nil, length-take-le, get_or_default}
use Rattle.std.proofs.lemmas.List.Concat.{flat_map-append}
use Rattle.netlist_core.specs.declared.netlist.Netlist.{Netlist}
use Rattle.cell_table.specs.Cells.{Cells}
use Rattle.chain_trace.specs.declared.path.Step.{Step}
use Rattle.chain_trace.specs.declared.path.BitId.{BitId}
use Rattle.chain_trace.specs.declared.path.PathBits.{PathBits}
use Rattle.chain_trace.specs.Parities.{Mark, Turn, Bit, bit_marks, step_marks, path_marks, bits_in, plus, parities, last_parity, AreBitsOf, GoesOn}

bits_in-append : (ms rest : List Mark) → bits_in (ms ++ rest) ≡ bits_in ms ++ bits_in rest
bits_in-append [] rest = refl
bits_in-append (Turn b ∷ ms) rest = bits_in-append ms rest
bits_in-append (Bit b ∷ ms) rest = ap (λ (bs : List BitId). b ∷ bs) (bits_in-append ms rest)

-- nothing stands between
pub stays : (at : PathBits) → GoesOn at at []
stays at = record { bits = sym (append-nil at.bits); parity = λ rest. refl; last = λ rest. refl }

-- one piece after another
pub then-on : (a b c : PathBits) (ms rest : List Mark) → GoesOn a b ms → GoesOn b c rest → GoesOn a c (ms ++ rest)
then-on a b c ms rest p q = record {
  bits = q.bits ∙ ap (λ (bs : List BitId). bs ++ bits_in rest) p.bits ∙ append_assoc a.bits (bits_in ms) (bits_in rest) ∙ ap (λ (bs : List BitId). a.bits ++ bs) (sym (bits_in-append ms rest));
  parity = λ more. ap (λ (xs : List Mark). a.parity ++ parities a.out_parity xs) (append_assoc ms rest more) ∙ p.parity (rest ++ more) ∙ q.parity more;
  last = λ more. ap (λ (xs : List Mark). last_parity a.out_parity xs) (append_assoc ms rest more) ∙ p.last (rest ++ more) ∙ q.last more;
}

bit_marks-push : (instance path k : ℕ) (bs : List Bool) (b : Bool)
    → bit_marks instance path k (bs ++ b ∷ []) ≡ bit_marks instance path k bs ++ Turn b ∷ Bit (record { instance = instance; path = path; index = k + length bs }) ∷ []
bit_marks-push instance path k [] b = ap (λ (i : ℕ). Turn b ∷ Bit (record { instance = instance; path = path; index = i }) ∷ []) (omega arith)
bit_marks-push instance path k (x ∷ bs) b =
    ap (λ (ms : List Mark). Turn x ∷ Bit (record { instance = instance; path = path; index = k }) ∷ ms)
    (bit_marks-push instance path (k + 1) bs b
    ∙ ap (λ (i : ℕ). bit_marks instance path (k + 1) bs ++ Turn b ∷ Bit (record { instance = instance; path = path; index = i }) ∷ []) (omega arith))

-- one more bit
pub bit_more : (a b c d : PathBits) (instance path : ℕ) (bits : List Bool) (k : ℕ) (inverted : Bool) → k < length bits → inverted ≡ get_or bits k inverted
    → GoesOn a b (bit_marks instance path 0 (take k bits)) → GoesOn b c (Turn inverted ∷ [])
    → GoesOn c d (Bit (record { instance = instance; path = path; index = k }) ∷ []) → GoesOn a d (bit_marks instance path 0 (take (k + 1) bits))
bit_more a b c d instance path bits k inverted lt is p q r =
    let more : take (k + 1) bits ≡ take k bits ++ inverted ∷ [] = take_more bits k inverted lt ∙ ap (λ (x : Bool). take k bits ++ x ∷ []) (sym is) in
    let len : 0 + length (take k bits) ≡ k = omega (arith, length-take-le k bits (omega arith)) in
    let marks : bit_marks instance path 0 (take (k + 1) bits) ≡ bit_marks instance path 0 (take k bits) ++ Turn inverted ∷ Bit (record { instance = instance; path = path; index = k }) ∷ [] =
    ap (bit_marks instance path 0) more ∙ bit_marks-push instance path 0 (take k bits) inverted
    ∙ ap (λ (i : ℕ). bit_marks instance path 0 (take k bits) ++ Turn inverted ∷ Bit (record { instance = instance; path = path; index = i }) ∷ []) len in
    subst (GoesOn a d) (sym marks)
    (then-on a b d (bit_marks instance path 0 (take k bits)) (Turn inverted ∷ Bit (record { instance = instance; path = path; index = k }) ∷ []) p
    (then-on b c d (Turn inverted ∷ []) (Bit (record { instance = instance; path = path; index = k }) ∷ []) q r))

pub bit_all : (a b : PathBits) (instance path : ℕ) (bits : List Bool) (k : ℕ) → length bits ≤ k → GoesOn a b (bit_marks instance path 0 (take k bits)) → GoesOn a b (bit_marks instance path 0 bits)
bit_all a b instance path bits k le p = subst (λ (bs : List Bool). GoesOn a b (bit_marks instance path 0 bs)) (take_all k bits le) p

-- one more step
pub step_more : (n : Netlist) (cells : Cells) (a b c : PathBits) (steps : List Step) (i : ℕ) (step : Step) → i < length steps → step ≡ get_or steps i step
    → GoesOn a b (path_marks n cells (take i steps)) → GoesOn b c (step_marks n cells step) → GoesOn a c (path_marks n cells (take (i + 1) steps))
step_more n cells a b c steps i step lt is p q =
    let marks : path_marks n cells (take (i + 1) steps) ≡ path_marks n cells (take i steps) ++ step_marks n cells step =
    ap (path_marks n cells) (take_more steps i step lt ∙ ap (λ (s : Step). take i steps ++ s ∷ []) (sym is))
    ∙ flat_map-append (step_marks n cells) (take i steps) (step ∷ []) ∙ ap (λ (ms : List Mark). path_marks n cells (take i steps) ++ ms) (append-nil (step_marks n cells step)) in
    subst (GoesOn a c) (sym marks) (then-on a b c (path_marks n cells (take i steps)) (step_marks n cells step) p q)

pub bits_all : (n : Netlist) (cells : Cells) (a b : PathBits) (steps : List Step) (i : ℕ) → a.bits ≡ [] → a.parity ≡ [] → a.out_parity ≡ false → length steps ≤ i
    → GoesOn a b (path_marks n cells (take i steps)) → AreBitsOf n cells steps b
bits_all n cells a b steps i eb ep eo le p =
    let all : List Mark = path_marks n cells steps in
    let q : GoesOn a b all = subst (λ (xs : List Step). GoesOn a b (path_marks n cells xs)) (take_all i steps le) p in
    let whole : all ++ [] ≡ all = append-nil all in
    record {
      bits = q.bits ∙ ap (λ (bs : List BitId). bs ++ bits_in all) eb;
      parity =
          sym (append-nil b.parity) ∙ sym (q.parity []) ∙ ap (λ (bs : List Bool). bs ++ parities a.out_parity (all ++ [])) ep
          ∙ ap (λ (o : Bool). parities o (all ++ [])) eo ∙ ap (parities false) whole;
      out_parity = sym (q.last []) ∙ ap (λ (o : Bool). last_parity o (all ++ [])) eo ∙ ap (last_parity false) whole;
    }

plus_is : (a b : Bool) → not (beq a b) ≡ plus a b
plus_is true true = refl
plus_is true false = refl
plus_is false true = refl
plus_is false false = refl

-- one more inversion
pub turn_on : (at : PathBits) (b : Bool) → GoesOn at (record { bits = at.bits; parity = at.parity; out_parity = not (beq at.out_parity b) }) (Turn b ∷ [])
turn_on at b = record {
  bits = sym (append-nil at.bits);
  parity = λ rest. ap (λ (o : Bool). at.parity ++ parities o rest) (sym (plus_is at.out_parity b));
  last = λ rest. ap (λ (o : Bool). last_parity o rest) (sym (plus_is at.out_parity b));
}

-- one more step of a list
pub item_more : (n : Netlist) (cells : Cells) (a b c : PathBits) (steps items : List Step) (i : ℕ) (d : Step) → items ≡ steps → i < length items
    → GoesOn a b (path_marks n cells (take i steps)) → GoesOn b c (step_marks n cells (get_or items i d)) → GoesOn a c (path_marks n cells (take (i + 1) steps))
item_more n cells a b c steps items i d e lt p q =
    let len = ap length e in
    let step = get_or items i d in
    let is : step ≡ get_or steps i step = ap (λ (xs : List Step). get_or xs i d) e ∙ get_or_default steps i d step (omega arith) in
    step_more n cells a b c steps i step (omega arith) is p q
