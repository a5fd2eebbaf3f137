-- How large the made texts are at most: a text for each number is at most their number times the largest of them.
use Rattle.std.proofs.Common.{Bool, true, false, cond, nat_eq, nat_lt, ℕ, zero, suc, ◌+◌, ◌-◌, ◌*◌, ◌%◌, ◌<◌, ◌≤◌, List, [], ◌++◌, length, codes, decimal, arith, length-append}
use Rattle.std.proofs.lemmas.Fmt.{length-decimal-le}
use Rattle.design_maker.specs.Pieces.{pieces, between}
use Rattle.design_maker.specs.Chains.{chain_length}
use Rattle.design_maker.specs.MadeDef.{component, components_text, in_pin, out_pin, pins_text, unit_pin, wide_net, wide_nets, in_net, inner_net, out_net, scan_nets, nets_text, element, chain_head, chain_tail, chain, chains_text, def_text}
use Rattle.design_maker.specs.MadeVerilog.{header_text, wires_text, first_unit, later_unit, assign, verilog_text}
use Rattle.design_maker.specs.MadeStil.{signals_text, structures_text, scan_chain, shifted, procedures_text, load_character, compare_character, load, compare, first_call, later_call, pattern_text, stil_text}
use Rattle.design_maker.specs.Made.{made_files, HasSmallTexts}

decimal_size : (n : ℕ) → n < 4294967296 → length (decimal n) ≤ 10
decimal_size n h = length-decimal-le 10 n (omega arith) (omega arith) (omega arith)

cond_size : (b : Bool) (x y : List ℕ) (m : ℕ) → length x ≤ m → length y ≤ m → length (cond b x y) ≤ m
cond_size true x y m p q = p
cond_size false x y m p q = q

pieces_size : (f : ℕ → List ℕ) (m n : ℕ) → ((i : ℕ) → i < n → length (f i) ≤ m) → length (pieces f n) ≤ n * m
unfolding pieces
pieces_size f m zero each = omega arith
pieces_size f m (suc n) each =
    let before : length (pieces f n) ≤ n * m = pieces_size f m n (λ i h. each i (omega arith)) in
    let last : length (f n) ≤ m = each n (omega arith) in
    rw length-append (omega arith)

components_size : (n : ℕ) → n ≤ 16384 → length (components_text n) ≤ 2000000
unfolding components_text
components_size n most =
    let all = pieces_size component 100 n (λ i h. simp length-append (omega (arith, decimal_size))) in
    simp length-append (omega (arith, decimal_size))

pins_size : (n : ℕ) → n ≤ 16384 → length (pins_text n) ≤ 10000
unfolding pins_text
pins_size n most =
    let ins = pieces_size in_pin 100 8 (λ k h. simp length-append (omega (arith, decimal_size))) in
    let outs = pieces_size (out_pin n) 100 8 (λ k h. simp length-append (omega (arith, decimal_size))) in
    simp length-append (omega arith)

wide_size : (port pin : List ℕ) (n : ℕ) → length port ≤ 3 → length pin ≤ 2 → n ≤ 16384 → length (wide_net port pin n) ≤ 1000000
unfolding wide_net
wide_size port pin n short_port short_pin most =
    let all = pieces_size (unit_pin pin) 30 n (λ i h. simp length-append (omega (arith, decimal_size))) in
    simp length-append (omega arith)

scan_size : (n : ℕ) → 8 ≤ n → n ≤ 16384 → length (scan_nets n) ≤ 2000000
unfolding scan_nets
scan_size n least most =
    let ins = pieces_size in_net 100 8 (λ k h. simp length-append (omega (arith, decimal_size))) in
    let inner = pieces_size inner_net 100 (n - 8) (λ i h. simp length-append (omega (arith, decimal_size))) in
    let outs = pieces_size (λ j. out_net (n - 8 + j)) 100 8 (λ j h. simp length-append (omega (arith, decimal_size))) in
    simp length-append (omega arith)

nets_size : (n : ℕ) → 8 ≤ n → n ≤ 16384 → length (nets_text n) ≤ 6000000
unfolding nets_text wide_nets
nets_size n least most =
    let clk = wide_size (codes "clk") (codes "CK") n (omega arith) (omega arith) most in
    let se = wide_size (codes "se") (codes "SE") n (omega arith) (omega arith) most in
    let d = wide_size (codes "d") (codes "D") n (omega arith) (omega arith) most in
    simp length-append (omega (arith, decimal_size, scan_size n least most))

chain_size : (n k : ℕ) → k < 8 → n ≤ 16384 → length (chain n k) ≤ 200000
unfolding chain chain_head chain_tail
chain_size n k few most =
    let all = pieces_size (element k) 50 (chain_length n k) (λ t h. simp length-append (omega (arith, decimal_size))) in
    simp length-append (omega (arith, decimal_size))

chains_size : (n : ℕ) → n ≤ 16384 → length (chains_text n) ≤ 2000000
unfolding chains_text
chains_size n most =
    let all = pieces_size (chain n) 200000 8 (λ k h. chain_size n k h most) in
    simp length-append (omega arith)

def_size : (n : ℕ) → 8 ≤ n → n ≤ 16384 → length (def_text n) ≤ 67108864
unfolding def_text
def_size n least most = simp length-append (omega (arith, components_size n most, pins_size n most, nets_size n least most, chains_size n most))

header_size : length header_text ≤ 1000
unfolding header_text
header_size =
    let ins = pieces_size (between (codes ", si") []) 20 8 (λ k h. simp length-append (omega (arith, decimal_size))) in
    let outs = pieces_size (between (codes ", so") []) 20 8 (λ k h. simp length-append (omega (arith, decimal_size))) in
    let shown = pieces_size (between (codes "so") (codes ", ")) 20 7 (λ k h. simp length-append (omega (arith, decimal_size))) in
    simp length-append (omega arith)

wires_size : (n : ℕ) → n ≤ 16384 → length (wires_text n) ≤ 1000000
unfolding wires_text
wires_size n most =
    let all = pieces_size (between (codes "q") (codes ", ")) 20 (n - 1) (λ i h. simp length-append (omega (arith, decimal_size))) in
    simp length-append (omega (arith, decimal_size))

verilog_size : (n : ℕ) → 8 ≤ n → n ≤ 16384 → length (verilog_text n) ≤ 67108864
unfolding verilog_text
verilog_size n least most =
    let first = pieces_size first_unit 200 8 (λ i h. simp length-append (omega (arith, decimal_size))) in
    let later = pieces_size later_unit 200 (n - 8) (λ i h. simp length-append (omega (arith, decimal_size))) in
    let assigns = pieces_size (assign n) 200 8 (λ k h. simp length-append (omega (arith, decimal_size))) in
    simp length-append (omega (arith, header_size, wires_size n most))

signals_size : length signals_text ≤ 1000
unfolding signals_text
signals_size =
    let ins = pieces_size (between (codes " si") (codes " In { ScanIn; }")) 40 8 (λ k h. simp length-append (omega (arith, decimal_size))) in
    let outs = pieces_size (between (codes " so") (codes " Out { ScanOut; }")) 40 8 (λ k h. simp length-append (omega (arith, decimal_size))) in
    simp length-append (omega arith)

structures_size : (n : ℕ) → n ≤ 16384 → length (structures_text n) ≤ 2000
unfolding structures_text
structures_size n most =
    let all = pieces_size (scan_chain n) 200 8 (λ k h. simp length-append (omega (arith, decimal_size))) in
    simp length-append (omega arith)

procedures_size : length procedures_text ≤ 1000
unfolding procedures_text
procedures_size =
    let all = pieces_size shifted 50 8 (λ k h. simp length-append (omega (arith, decimal_size))) in
    simp length-append (omega arith)

load_character_size : (r k t : ℕ) → length (load_character r k t) ≤ 1
load_character_size r k t = cond_size (nat_lt ((k + 3 * t + 5 * r) % 7) 3) (codes "1") (codes "0") 1 (omega arith) (omega arith)

compare_character_size : (r k t : ℕ) → length (compare_character r k t) ≤ 1
compare_character_size r k t =
    let rest = (k + 2 * t + r) % 5 in
    cond_size (nat_eq rest 0) (codes "L") (cond (nat_eq rest 1) (codes "H") (codes "X")) 1 (omega arith) (cond_size (nat_eq rest 1) (codes "H") (codes "X") 1 (omega arith) (omega arith))

load_size : (n r k : ℕ) → k < 8 → n ≤ 16384 → length (load n r k) ≤ 3000
unfolding load
load_size n r k few most =
    let all = pieces_size (load_character r k) 1 (chain_length n k) (λ t h. load_character_size r k t) in
    simp length-append (omega (arith, decimal_size))

compare_size : (n r k : ℕ) → k < 8 → n ≤ 16384 → length (compare n r k) ≤ 3000
unfolding compare
compare_size n r k few most =
    let all = pieces_size (compare_character r k) 1 (chain_length n k) (λ t h. compare_character_size r k t) in
    simp length-append (omega (arith, decimal_size))

later_size : (n r : ℕ) → n ≤ 16384 → length (later_call n r) ≤ 60000
unfolding later_call
later_size n r most =
    let all = pieces_size (λ k. load n r k ++ compare n r k) 6000 8 (λ k h. simp length-append (omega (arith, load_size n r k h most, compare_size n r k h most))) in
    simp length-append (omega arith)

pattern_size : (n : ℕ) → n ≤ 16384 → length (pattern_text n) ≤ 1000000
unfolding pattern_text first_call
pattern_size n most =
    let first = pieces_size (load n 0) 3000 8 (λ k h. load_size n 0 k h most) in
    let later = pieces_size (λ r. later_call n (r + 1)) 60000 15 (λ r h. later_size n (r + 1) most) in
    simp length-append (omega arith)

stil_size : (n : ℕ) → n ≤ 16384 → length (stil_text n) ≤ 67108864
unfolding stil_text
stil_size n most = simp length-append (omega (arith, signals_size, structures_size n most, procedures_size, pattern_size n most))

pub small_texts : (n : ℕ) → 8 ≤ n → n ≤ 16384 → HasSmallTexts (made_files n)
small_texts n least most =
    record { table = omega arith; lef = omega arith; verilog = verilog_size n least most; def = def_size n least most; stil = stil_size n most }
