-- The first chain of a partition, as one chain more is looked at.
use Rattle.std.proofs.Common.{◌≡◌, ℕ, ◌+◌, ◌<◌, cond, List, length, get_or, take, Bor, Option, Some, None, refl, sym, ap, ◌∙◌}
use Rattle.std.specs.HashMap.{HashMap, get}
use Rattle.std.specs.List.{position}
use Rattle.std.specs.Option.{option_or}
use Rattle.std.specs.Str.{bytes_eq}
use Rattle.def_reader.specs.declared.design.ScanChainText.{ScanChainText}
use Rattle.def_reader.proofs.Places.{position_next}
use Rattle.design_elements.specs.Elements.{names_partition}
use Rattle.design_elements.specs.Firsts.{AreFirsts}

or_none : {X : Type 0} (o : Option X) → option_or o None ≡ o
or_none None = refl
or_none (Some x) = refl

module _ {S : Type 0} (old : HashMap (Bor (List ℕ)) ℕ S) (xs : List ScanChainText) (i : ℕ) (x : ScanChainText) (lt : i < length xs) (is : x ≡ get_or xs i x) (were : AreFirsts old (take i xs)) where
  -- a chain with a partition more
  pub firsts_named : (new : HashMap (Bor (List ℕ)) ℕ S) (name : List ℕ) → Some name ≡ x.partition
      → ((q : Bor (List ℕ)) → get (λ x y. bytes_eq x.now y.now) new q ≡ option_or (get (λ x y. bytes_eq x.now y.now) old q) (cond (bytes_eq name q.now) (Some i) None)) → AreFirsts new (take (i + 1) xs)
  firsts_named new name named added = record {
    is = λ q.
        added q ∙ ap (λ (o : Option ℕ). option_or o (cond (bytes_eq name q.now) (Some i) None)) (were.is q)
        ∙ ap (λ (k : Option (List ℕ)). option_or (position (λ y. names_partition q.now y.partition) (take i xs)) (cond (names_partition q.now k) (Some i) None)) named
        ∙ sym (position_next (λ (y : ScanChainText). names_partition q.now y.partition) xs i x lt is);
  }

  -- one without
  pub firsts_unnamed : None ≡ x.partition → AreFirsts old (take (i + 1) xs)
  firsts_unnamed named = record {
    is = λ q.
        were.is q ∙ sym (or_none (position (λ y. names_partition q.now y.partition) (take i xs)))
        ∙ ap (λ (k : Option (List ℕ)). option_or (position (λ y. names_partition q.now y.partition) (take i xs)) (cond (names_partition q.now k) (Some i) None)) named
        ∙ sym (position_next (λ (y : ScanChainText). names_partition q.now y.partition) xs i x lt is);
  }
