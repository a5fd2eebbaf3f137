-- The least line at which a port is asked for that isn't there.
use Rattle.std.proofs.Common.{◌≡◌, ℕ, ◌+◌, ◌<◌, ◌≤◌, ◌⊎◌, inl, inr, Bool, true, List, [], ◌∷◌, ◌++◌, length, map, get_or, take, Option, None, sym, ap, ◌∙◌, subst, arith}
use Rattle.std.specs.Bool.{Decides}
use Rattle.std.proofs.lemmas.List.{take_all, get_or_default}
use Rattle.std.proofs.lemmas.List.Elements.{Contains-append_left, Contains-push_cases, Contains-push}
use Rattle.netlist_core.specs.declared.netlist.Netlist.{Netlist}
use Rattle.list_laws.specs.Leasts.{IsLeast, lesser, found_if}
use Rattle.list_laws.proofs.LeastLines.{same_least, either, alone}
use Rattle.list_laws.proofs.RowsMore.{map_next}
use Rattle.traced_paths.specs.declared.asks.Ask.{Ask}
use Rattle.traced_paths.specs.Asked.{Asked, told}
use Rattle.traced_paths.specs.Traced.{HasNoInput, HasNoOutput, LacksPort}

module _ (n : Netlist) (asked : List Asked) (one : Asked) (bad : Bool) (exact : Decides bad (HasNoInput n one ⊎ HasNoOutput n one)) where
  to_last : (line : ℕ) → LacksPort n asked line ⊎ ((bad ≡ true) × (line ≡ one.line)) → LacksPort n (asked ++ one ∷ []) line
  to_last line (inl h) = record { one = h.one; there = Contains-append_left asked (one ∷ []) h.one h.there; none = h.none; is = h.is }
  to_last line (inr h) = record { one = one; there = Contains-push asked one; none = exact.0 h.0; is = h.1 }

  from_last : (line : ℕ) → LacksPort n (asked ++ one ∷ []) line → LacksPort n asked line ⊎ ((bad ≡ true) × (line ≡ one.line))
  from_last line h =
      elim (Contains-push_cases asked one h.one h.there) [
        | inl there ↦ inl (record { one = h.one; there = there; none = h.none; is = h.is })
        | inr same ↦
            inr (exact.1 (subst (λ (a : Asked). HasNoInput n a ⊎ HasNoOutput n a) (sym same) h.none), h.is ∙ ap (λ (a : Asked). a.line) (sym same))
      ]

  lacks_last : (r : Option ℕ) → IsLeast (LacksPort n asked) r → IsLeast (LacksPort n (asked ++ one ∷ [])) (lesser r (found_if bad one.line))
  lacks_last r least =
      same_least (λ line. LacksPort n asked line ⊎ ((bad ≡ true) × (line ≡ one.line))) (LacksPort n (asked ++ one ∷ [])) _ to_last from_last
      (either (LacksPort n asked) (λ line. (bad ≡ true) × (line ≡ one.line)) r (found_if bad one.line) least (alone bad one.line))

-- none is asked for
pub lacks_none : (n : Netlist) → IsLeast (LacksPort n []) None
lacks_none n = λ line h. absurd (omega (arith, h.there.1))

-- one more is looked at
lacks_next : (n : Netlist) (asks : List Ask) (i : ℕ) (ask : Ask) (bad : Bool) (r : Option ℕ) → Decides bad (HasNoInput n (told ask) ⊎ HasNoOutput n (told ask)) → i < length asks → ask ≡ get_or asks i ask
    → IsLeast (LacksPort n (map told (take i asks))) r → IsLeast (LacksPort n (map told (take (i + 1) asks))) (lesser r (found_if bad ask.line))
lacks_next n asks i ask bad r exact lt is least =
    subst (λ (l : List Asked). IsLeast (LacksPort n l) (lesser r (found_if bad ask.line))) (sym (map_next told asks i ask lt is)) (lacks_last n (map told (take i asks)) (told ask) bad exact r least)

pub lacks_all : (n : Netlist) (asks : List Ask) (i : ℕ) (r : Option ℕ) → length asks ≤ i → IsLeast (LacksPort n (map told (take i asks))) r → IsLeast (LacksPort n (map told asks)) r
lacks_all n asks i r le least = subst (λ (l : List Ask). IsLeast (LacksPort n (map told l)) r) (take_all i asks le) least

pub lacks_at : (n : Netlist) (asks : List Ask) (i : ℕ) (d : Ask) (bad : Bool) (r : Option ℕ) → Decides bad (HasNoInput n (told (get_or asks i d)) ⊎ HasNoOutput n (told (get_or asks i d))) → i < length asks
    → IsLeast (LacksPort n (map told (take i asks))) r → IsLeast (LacksPort n (map told (take (i + 1) asks))) (lesser r (found_if bad (get_or asks i d).line))
lacks_at n asks i d bad r exact lt least = lacks_next n asks i (get_or asks i d) bad r exact lt (get_or_default asks i d (get_or asks i d) lt) least
