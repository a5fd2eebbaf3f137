-- The port of a name, by a test of its direction.
use Rattle.std.proofs.Common.{◌≡◌, ℕ, zero, suc, ◌<◌, Bool, true, false, ◌&&◌, ◌||◌, eqb, List, [], ◌∷◌, length, get_or, refl, sym, ap, ap₂, ◌∙◌, arith}
use Rattle.std.specs.List.{list_any}
use Rattle.std.specs.Str.{bytes_eq}
use Rattle.std.proofs.lemmas.Bool.{eqb-true, or_parts, and_parts}
use Rattle.std.proofs.lemmas.Bool.Decides.{nat_tests}
use Rattle.std.proofs.lemmas.Slice.Eq.{bytes_eq-Decides}
use Rattle.netlist_core.specs.declared.netlist.NetId.{NetId}
use Rattle.netlist_core.specs.declared.netlist.Direction.{Direction}
use Rattle.netlist_core.specs.declared.netlist.NetName.{NetName}
use Rattle.netlist_core.specs.declared.netlist.Port.{Port}
use Rattle.netlist_core.specs.declared.netlist.Netlist.{Netlist}
use Rattle.netlist_core.specs.Netlists.{plain_of}
use Rattle.chain_trace.specs.Named.{IsPortNamed}

abbrev pub is_port : (Direction → Bool) → List NetName → List ℕ → Port → Bool
is_port test nets name port = test port.direction && bytes_eq (plain_of nets port.net) name

same_net : (a b : NetId) → eqb a.0 b.0 ≡ true → a ≡ b
same_net a b e = ap (λ (k : ℕ). record { 0 = k }) (eqb-true a.0 b.0 e)

none_here : (test : Direction → Bool) (nets : List NetName) (name : List ℕ) (net : NetId) (p : Port) → is_port test nets name p ≡ false → plain_of nets net ≡ name
    → (eqb p.net.0 net.0 && test p.direction) ≡ true → ⊥
none_here test nets name net p never named has =
    let both = and_parts (eqb p.net.0 net.0) (test p.direction) has in
    let same : plain_of nets p.net ≡ name = ap (plain_of nets) (same_net p.net net both.0) ∙ named in
    let is : bytes_eq (plain_of nets p.net) name ≡ true = (bytes_eq-Decides (plain_of nets p.net) name).1 same in
    let yes : is_port test nets name p ≡ true = ap₂ (λ (a b : Bool). a && b) both.1 is in
    absurd cc

none_named : (test : Direction → Bool) (nets : List NetName) (name : List ℕ) (net : NetId) (ports : List Port) → list_any (is_port test nets name) ports ≡ false → plain_of nets net ≡ name
    → list_any (λ port. eqb port.net.0 net.0 && test port.direction) ports ≡ true → ⊥
none_named test nets name net [] never named has = absurd cc
none_named test nets name net (p ∷ ps) never named has =
    let both = or_parts (is_port test nets name p) (list_any (is_port test nets name) ps) never in
    let cases : (b : Bool) → (eqb p.net.0 net.0 && test p.direction) ≡ b → ⊥
    = λ b. elim b as (λ b. (eqb p.net.0 net.0 && test p.direction) ≡ b → ⊥) [
      | true ↦ λ e. none_here test nets name net p both.0 named e
      | false ↦ λ e. none_named test nets name net ps both.1 named (rw e at has)
    ]
    in cases (eqb p.net.0 net.0 && test p.direction) refl

-- no port was found
pub not_named : (test : Direction → Bool) (n : Netlist) (name : List ℕ) (net : NetId) → list_any (is_port test n.nets name) n.ports ≡ false → IsPortNamed test n name net → ⊥
not_named test n name net never is = none_named test n.nets name net n.ports never is.named is.port

has_here : (test : Port → Bool) (ports : List Port) (i : ℕ) (d : Port) → i < length ports → test (get_or ports i d) ≡ true → list_any test ports ≡ true
has_here test [] i d lt e = absurd (omega (arith, lt))
has_here test (p ∷ ps) zero d lt e = ap (λ (b : Bool). b || list_any test ps) e
has_here test (p ∷ ps) (suc i) d lt e =
    ap (λ (b : Bool). test p || b) (has_here test ps i d (omega (arith, lt)) e) ∙ or_true (test p)
  where
    or_true : (b : Bool) → (b || true) ≡ true
    or_true true = refl
    or_true false = refl

pub eqb_same : (n : ℕ) → eqb n n ≡ true
eqb_same n = grind (arith, nat_tests)

-- the port was found
pub is_named : (test : Direction → Bool) (n : Netlist) (name : List ℕ) (ports : List Port) (i : ℕ) (d : Port) → ports ≡ n.ports → i < length ports → test (get_or ports i d).direction ≡ true
    → plain_of n.nets (get_or ports i d).net ≡ name → IsPortNamed test n name (get_or ports i d).net
is_named test n name ports i d same lt tested named =
    let net = (get_or ports i d).net in
    let has = has_here (λ port. eqb port.net.0 net.0 && test port.direction) ports i d lt (ap₂ (λ (a b : Bool). a && b) (eqb_same net.0) tested) in
    record {
      named = named;
      port = ap (list_any (λ (port : Port). eqb port.net.0 net.0 && test port.direction)) (sym same) ∙ has;
    }
