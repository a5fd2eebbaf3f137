-- The faults of a head: what is answered is the first of them, and where nothing is refused there is none.
use Rattle.std.proofs.Common.{◌≡◌, ℕ, ◌≤◌, List, [], Some, None, Contains, Ordering, Less, Equal, Greater, refl, sym, ◌∙◌, subst, arith}
use Rattle.std.specs.Ordering.{nat_cmp, ordering_then}
use Rattle.std.proofs.lemmas.Cmp.{ranked}
use Rattle.base_types.specs.Lines.{line_at}
use Rattle.base_types.specs.Faults.{at_line}
use Rattle.base_types.specs.FirstFault.{ComesBefore, IsFirstFault}
use Rattle.base_types.specs.declared.fault.Fault.{Fault}
use Rattle.base_types.specs.declared.fault.FileKind.TheVariants.{Stil}
use Rattle.base_types.specs.declared.kind.Kind.TheVariants.{StilSyntax, StilTwice, Unsupported}
use Rattle.base_types.proofs.FirstFaults.{later}
use Rattle.base_types.proofs.LineLemmas.{line_at-from}
use Rattle.list_laws.specs.Leasts.{least_of}
use Rattle.stil_head.specs.Faults.{syntax_places, HoldsInText, Syntax, Twice, Barred}
use Rattle.stil_head.specs.Twice.{twice_places}
use Rattle.stil_head.specs.Unsupported.{unsupported_places}
use Rattle.list_laws.proofs.Leasts.{IsLeastPlace, least_place, no_places, none_there}

-- a later place is on no earlier line
lines_rise : (text : List ℕ) (a b : ℕ) → a ≤ b → line_at text a ≤ line_at text b
lines_rise text a b le = let more = line_at-from text a b le in omega arith

line_case : (a b : ℕ) (r rest : Ordering) → r ≡ nat_cmp b a → a ≤ b → rest ≡ Equal → ordering_then r rest ≡ Less → ⊥
line_case a b Less rest is le same e = let below = ranked b a Less is in omega arith
line_case a b Equal rest is le same e = let both = sym same ∙ e in absurd cc
line_case a b Greater rest is le same e = absurd cc

syntax_line : (a b : ℕ) → a ≤ b → ComesBefore (at_line StilSyntax Stil b) (at_line StilSyntax Stil a) → ⊥
syntax_line a b le e = line_case a b (nat_cmp b a) Equal refl le refl e

twice_line : (a b : ℕ) → a ≤ b → ComesBefore (at_line StilTwice Stil b) (at_line StilTwice Stil a) → ⊥
twice_line a b le e = line_case a b (nat_cmp b a) Equal refl le refl e

barred_line : (a b : ℕ) → a ≤ b → ComesBefore (at_line Unsupported Stil b) (at_line Unsupported Stil a) → ⊥
barred_line a b le e = line_case a b (nat_cmp b a) Equal refl le refl e

no_place : (places : List ℕ) (place : ℕ) → places ≡ [] → Contains places place → ⊥
no_place places place none there = none_there place (subst (λ (ps : List ℕ). Contains ps place) none there)

module _ (text : List ℕ) where
  below_line : (places : List ℕ) (place least : ℕ) → IsLeastPlace places least → Contains places place → line_at text least ≤ line_at text place
  below_line places place least h there = lines_rise text least place (h.below place there)

  syntax_least : (least : ℕ) → IsLeastPlace (syntax_places text) least → (g : Fault) → HoldsInText text g → ComesBefore g (at_line StilSyntax Stil (line_at text least)) → ⊥
  syntax_least least h _ (Syntax place there) before = syntax_line (line_at text least) (line_at text place) (below_line (syntax_places text) place least h there) before
  syntax_least least h _ (Twice place there) before = later (at_line StilSyntax Stil (line_at text least)) (at_line StilTwice Stil (line_at text place)) (omega arith) before
  syntax_least least h _ (Barred place there) before = later (at_line StilSyntax Stil (line_at text least)) (at_line Unsupported Stil (line_at text place)) (omega arith) before

  pub syntax_first : (least : ℕ) → least_of (syntax_places text) ≡ Some least → IsFirstFault (HoldsInText text) (at_line StilSyntax Stil (line_at text least))
  syntax_first least e = let h = least_place (syntax_places text) least e in record { holds = Syntax least h.there; least = syntax_least least h }

  module _ (no_syntax : least_of (syntax_places text) ≡ None) where
    pub none : syntax_places text ≡ []
    none = no_places (syntax_places text) no_syntax

    twice_least : (least : ℕ) → IsLeastPlace (twice_places text) least → (g : Fault) → HoldsInText text g → ComesBefore g (at_line StilTwice Stil (line_at text least)) → ⊥
    twice_least least h _ (Syntax place there) before = no_place (syntax_places text) place none there
    twice_least least h _ (Twice place there) before = twice_line (line_at text least) (line_at text place) (below_line (twice_places text) place least h there) before
    twice_least least h _ (Barred place there) before = later (at_line StilTwice Stil (line_at text least)) (at_line Unsupported Stil (line_at text place)) (omega arith) before

    pub twice_first : (least : ℕ) → least_of (twice_places text) ≡ Some least → IsFirstFault (HoldsInText text) (at_line StilTwice Stil (line_at text least))
    twice_first least e = let h = least_place (twice_places text) least e in record { holds = Twice least h.there; least = twice_least least h }

    module _ (no_twice : least_of (twice_places text) ≡ None) where
      pub once : twice_places text ≡ []
      once = no_places (twice_places text) no_twice

      barred_least : (least : ℕ) → IsLeastPlace (unsupported_places text) least → (g : Fault) → HoldsInText text g → ComesBefore g (at_line Unsupported Stil (line_at text least)) → ⊥
      barred_least least h _ (Syntax place there) before = no_place (syntax_places text) place none there
      barred_least least h _ (Twice place there) before = no_place (twice_places text) place once there
      barred_least least h _ (Barred place there) before = barred_line (line_at text least) (line_at text place) (below_line (unsupported_places text) place least h there) before

      pub barred_first : (least : ℕ) → least_of (unsupported_places text) ≡ Some least → IsFirstFault (HoldsInText text) (at_line Unsupported Stil (line_at text least))
      barred_first least e = let h = least_place (unsupported_places text) least e in record { holds = Barred least h.there; least = barred_least least h }

      module _ (no_barred : least_of (unsupported_places text) ≡ None) where
        pub fit : unsupported_places text ≡ []
        fit = no_places (unsupported_places text) no_barred

        pub no_fault : (g : Fault) → HoldsInText text g → ⊥
        no_fault _ (Syntax place there) = no_place (syntax_places text) place none there
        no_fault _ (Twice place there) = no_place (twice_places text) place once there
        no_fault _ (Barred place there) = no_place (unsupported_places text) place fit there
