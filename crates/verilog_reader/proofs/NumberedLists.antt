-- Lists that a loop over numbers makes, one member for each number.
use Rattle.std.proofs.Common.{◌≡◌, ℕ, zero, suc, ◌+◌, ◌-◌, ◌^◌, ◌<◌, ◌≤◌, List, [], ◌∷◌, ◌++◌, length, map, Option, Some, None, Bor, refl, sym, ap, ◌∙◌, arith}
use Rattle.std.specs.List.{flat_map}
use Rattle.std.proofs.lemmas.List.{append_assoc, append-nil, length-append, length-map}
use Rattle.netlist_core.specs.declared.netlist.Bit.{Bit}
use Rattle.netlist_core.specs.declared.netlist.Direction.{Direction}
use Rattle.netlist_core.specs.declared.netlist.Port.{Port}
use Rattle.netlist_core.specs.declared.netlist.NetName.{NetName}
use Rattle.verilog_names.specs.declared.bounds.Bounds.{Bounds}
use Rattle.verilog_names.specs.declared.declared.First.{First}
use Rattle.verilog_names.specs.declared.declared.Slot.{Slot}
use Rattle.verilog_names.specs.Declarations.{index_at, indexes_from, indexes, width, width_or_one}
use Rattle.verilog_names.specs.Values.{bit_name, name_text}
use Rattle.verilog_reader.specs.Denoted.{entry_nets, bit_text}
use Rattle.verilog_names.specs.NameTables.{total, bounded, firsts_in}
use Rattle.verilog_reader.specs.Numbering.{numbers_from, net_bit, net_bits, numbered_port}

-- one number more
pub goes_on : {X : Type 0} (G : ℕ → ℕ → List X) (f : ℕ → X) → ((at n : ℕ) → G at (suc n) ≡ f at ∷ G (at + 1) n) → (at end : ℕ) (out new all : List X)
    → at < end → new ≡ out ++ f at ∷ [] → out ++ G at (end - at) ≡ all → new ++ G (at + 1) (end - (at + 1)) ≡ all
goes_on {X} G f step at end out new all lt is was =
    let left : end - at ≡ suc (end - (at + 1)) = omega arith in
    ap (λ (xs : List X). xs ++ G (at + 1) (end - (at + 1))) is ∙ append_assoc out (f at ∷ []) (G (at + 1) (end - (at + 1)))
    ∙ ap (λ (xs : List X). out ++ xs) (sym (step at (end - (at + 1))) ∙ ap (G at) (sym left)) ∙ was

pub ends : {X : Type 0} (G : ℕ → ℕ → List X) → ((at : ℕ) → G at 0 ≡ []) → (at end : ℕ) (out all : List X) → end ≤ at → out ++ G at (end - at) ≡ all → out ≡ all
ends {X} G nil at end out all past was =
    let left : end - at ≡ 0 = omega arith in
    sym (ap (λ (xs : List X). out ++ xs) (ap (G at) left ∙ nil at) ∙ append-nil out) ∙ was

-- nets of an expression
pub bit_more : (at end : ℕ) (out new all : List Bit) → at < end → new ≡ out ++ net_bit at ∷ [] → out ++ net_bits at (end - at) ≡ all → new ++ net_bits (at + 1) (end - (at + 1)) ≡ all
bit_more at end out new all lt is was = goes_on net_bits net_bit (λ at n. refl) at end out new all lt is was

pub bit_end : (at end : ℕ) (out all : List Bit) → end ≤ at → out ++ net_bits at (end - at) ≡ all → out ≡ all
bit_end at end out all past was = ends net_bits (λ at. refl) at end out all past was

-- bits of a vector, by the index at each place
pub name_more : (f : ℕ → NetName) (b : Bounds) (at end : ℕ) (out new all : List NetName) → at < end → new ≡ out ++ f (index_at b at) ∷ []
    → out ++ map f (indexes_from b at (end - at)) ≡ all → new ++ map f (indexes_from b (at + 1) (end - (at + 1))) ≡ all
name_more f b at end out new all lt is was =
    goes_on (λ at n. map f (indexes_from b at n)) (λ at. f (index_at b at)) (λ at n. refl) at end out new all lt is was

pub name_end : (f : ℕ → NetName) (b : Bounds) (at end : ℕ) (out all : List NetName) → end ≤ at → out ++ map f (indexes_from b at (end - at)) ≡ all → out ≡ all
name_end f b at end out all past was = ends (λ at n. map f (indexes_from b at n)) (λ at. refl) at end out all past was

-- ports
pub port_more : (line : ℕ) (direction : Direction) (at end : ℕ) (out new all : List Port) → at < end → new ≡ out ++ numbered_port line direction at ∷ []
    → out ++ map (numbered_port line direction) (numbers_from at (end - at)) ≡ all → new ++ map (numbered_port line direction) (numbers_from (at + 1) (end - (at + 1))) ≡ all
port_more line direction at end out new all lt is was =
    goes_on (λ at n. map (numbered_port line direction) (numbers_from at n)) (numbered_port line direction) (λ at n. refl) at end out new all lt is was

pub port_end : (line : ℕ) (direction : Direction) (at end : ℕ) (out all : List Port) → end ≤ at → out ++ map (numbered_port line direction) (numbers_from at (end - at)) ≡ all → out ≡ all
port_end line direction at end out all past was = ends (λ at n. map (numbered_port line direction) (numbers_from at n)) (λ at. refl) at end out all past was

-- how many there are
pub length-numbers : (first n : ℕ) → length (numbers_from first n) ≡ n
length-numbers first zero = refl
length-numbers first (suc n) = ap suc (length-numbers (first + 1) n)

pub length-indexes_from : (b : Bounds) (k n : ℕ) → length (indexes_from b k n) ≡ n
length-indexes_from b k zero = refl
length-indexes_from b k (suc n) = ap suc (length-indexes_from b (k + 1) n)

pub length-entry : (name : List ℕ) (b : Option Bounds) → length (entry_nets name b) ≡ width_or_one b
length-entry name None = refl
length-entry name (Some b) = length-map (indexes b) _ ∙ length-indexes_from b 0 (width b)

pub length-nets : (es : List (List ℕ × Option Bounds)) → length (flat_map (λ (e : List ℕ × Option Bounds). entry_nets e.0 e.1) es) ≡ total es
length-nets [] = refl
length-nets (e ∷ es) =
    length-append (entry_nets e.0 e.1) (flat_map (λ (e : List ℕ × Option Bounds). entry_nets e.0 e.1) es)
    ∙ ap (λ (n : ℕ). n + length (flat_map (λ (e : List ℕ × Option Bounds). entry_nets e.0 e.1) es)) (length-entry e.0 e.1) ∙ ap (λ (n : ℕ). width_or_one e.1 + n) (length-nets es)

-- the names of so many nets are as many
pub names_few : (names : List NetName) (left all : List (Bor (List ℕ) × Slot)) (table : List (List ℕ × First)) → left ≡ []
    → names ++ flat_map (λ (e : List ℕ × Option Bounds). entry_nets e.0 e.1) (bounded (firsts_in left)) ≡ flat_map (λ (e : List ℕ × Option Bounds). entry_nets e.0 e.1) (bounded (firsts_in all))
    → firsts_in all ≡ table → total (bounded table) < 2 ^ 32 → length names < 2 ^ 32
names_few names left all table done is same few =
    let rest = ap (λ (es : List (Bor (List ℕ) × Slot)). names ++ flat_map (λ (e : List ℕ × Option Bounds). entry_nets e.0 e.1) (bounded (firsts_in es))) done ∙ append-nil names in
    let long = ap length (sym rest ∙ is) ∙ length-nets (bounded (firsts_in all)) ∙ ap (λ (es : List (List ℕ × First)). total (bounded es)) same in
    omega (arith, long, few)

-- the name of a bit, by the text of its vector
pub bit_is : (net : NetName) (name text : List ℕ) (index at : ℕ) → net ≡ record { plain = bit_name name index; text = bit_name text index } → index ≡ at → text ≡ name_text name
    → net ≡ record { plain = bit_name name at; text = bit_text name at }
bit_is net name text index at is same written =
    is ∙ ap (λ (i : ℕ). let n : NetName = record { plain = bit_name name i; text = bit_name text i } in n) same
    ∙ ap (λ (t : List ℕ). let n : NetName = record { plain = bit_name name at; text = bit_name t at } in n) written

pub pushed : {X : Type 0} (out new : List X) (x y : X) → new ≡ out ++ x ∷ [] → x ≡ y → new ≡ out ++ y ∷ []
pushed {X} out new x y is same = is ∙ ap (λ (x : X). out ++ x ∷ []) same
