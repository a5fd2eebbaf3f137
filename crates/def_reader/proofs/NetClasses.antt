-- Nets of a design and the classes of their pins, as one net more is looked at.
use Rattle.std.proofs.Common.{◌≡◌, ℕ, zero, suc, ◌+◌, ◌<◌, ◌≤◌, ◌⊎◌, inl, inr, Bool, true, ◌||◌, List, [], ◌∷◌, ◌++◌, length, get_or, take, Bor, Option, Some, None, Contains, refl, sym, ap, ◌∙◌, subst, append_assoc, arith}
use Rattle.std.specs.Prelude.{is_none, option_map}
use Rattle.std.specs.List.{list_any, flat_map}
use Rattle.std.proofs.lemmas.List.{take_all}
use Rattle.std.proofs.lemmas.List.Elements.{Contains-append_left, Contains-append_right, Contains-append_cases}
use Rattle.netlist_core.specs.declared.netlist.Instance.{Instance}
use Rattle.def_reader.specs.declared.design.Net.{Net}
use Rattle.def_reader.specs.Classes.{is_split, has_class, has_in, HasClasses, is_bad_net, IsBadNet, FailsOn}
use Rattle.list_laws.specs.Leasts.{IsLeast, lesser, found_if}
use Rattle.list_laws.proofs.LeastLines.{same_least, either, alone}
use Rattle.list_laws.proofs.RowsMore.{split_last, nil_not, take_next}

module _ (cls : Net → List ℕ) (nets : List Net) (net : Net) where
  to_last : (n : ℕ) → IsBadNet cls nets n ⊎ ((is_bad_net (flat_map cls nets) (cls net) ≡ true) × (n ≡ net.line)) → IsBadNet cls (nets ++ net ∷ []) n
  to_last n (inl h) = record {
    front = h.front;
    net = h.net;
    behind = h.behind ++ net ∷ [];
    is = ap (λ (l : List Net). l ++ net ∷ []) h.is ∙ append_assoc h.front (h.net ∷ h.behind) (net ∷ []);
    bad = h.bad;
    line_is = h.line_is;
  }
  to_last n (inr h) = record { front = nets; net = net; behind = []; is = refl; bad = h.0; line_is = h.1 }

  from_last : (n : ℕ) → IsBadNet cls (nets ++ net ∷ []) n → IsBadNet cls nets n ⊎ ((is_bad_net (flat_map cls nets) (cls net) ≡ true) × (n ≡ net.line))
  from_last n h =
      elim (split_last nets h.front h.behind net h.net h.is) [
        | inl w ↦ inl (record { front = h.front; net = h.net; behind = w.0; is = w.1; bad = h.bad; line_is = h.line_is })
        | inr w ↦
            inr (
              subst (λ (x : Net). is_bad_net (flat_map cls nets) (cls x) ≡ true) (sym w.1) (subst (λ (l : List Net). is_bad_net (flat_map cls l) (cls h.net) ≡ true) (sym w.0) h.bad),
              h.line_is ∙ ap (λ (x : Net). x.line) (sym w.1),
            )
      ]

  pub bad_last : (r : Option ℕ) → IsLeast (IsBadNet cls nets) r → IsLeast (IsBadNet cls (nets ++ net ∷ [])) (lesser r (found_if (is_bad_net (flat_map cls nets) (cls net)) net.line))
  bad_last r least =
      same_least (λ n. IsBadNet cls nets n ⊎ ((is_bad_net (flat_map cls nets) (cls net) ≡ true) × (n ≡ net.line))) (IsBadNet cls (nets ++ net ∷ [])) _ to_last from_last
      (either (IsBadNet cls nets) (λ n. (is_bad_net (flat_map cls nets) (cls net) ≡ true) × (n ≡ net.line)) r (found_if (is_bad_net (flat_map cls nets) (cls net)) net.line) least
      (alone (is_bad_net (flat_map cls nets) (cls net)) net.line))

pub bad_next : (cls : Net → List ℕ) (nets : List Net) (i : ℕ) (net : Net) (r : Option ℕ) (bad : Bool) → i < length nets → net ≡ get_or nets i net → bad ≡ is_bad_net (flat_map cls (take i nets)) (cls net)
    → IsLeast (IsBadNet cls (take i nets)) r → IsLeast (IsBadNet cls (take (i + 1) nets)) (lesser r (found_if bad net.line))
bad_next cls nets i net r bad lt is same least =
    subst (λ (b : Bool). IsLeast (IsBadNet cls (take (i + 1) nets)) (lesser r (found_if b net.line))) (sym same)
    (subst (λ (l : List Net). IsLeast (IsBadNet cls l) (lesser r (found_if (is_bad_net (flat_map cls (take i nets)) (cls net)) net.line))) (sym (take_next nets i net lt is)) (bad_last cls (take i nets) net r least))

pub bad_none : (cls : Net → List ℕ) → IsLeast (IsBadNet cls []) None
bad_none cls = λ n h. nil_not h.front h.behind h.net h.is

any_same : (p q : ℕ → Bool) (xs : List ℕ) → ((x : ℕ) → p x ≡ q x) → list_any p xs ≡ list_any q xs
any_same p q [] e = refl
any_same p q (x ∷ xs) e = ap (λ b. b || list_any p xs) (e x) ∙ ap (λ b. q x || b) (any_same p q xs e)

-- a net is bad as the marks know
pub bad_is : (marks : List Bool) (before cs found : List ℕ) (split shared bad : Bool) → HasClasses marks before → found ≡ cs → split ≡ is_split found → shared ≡ list_any (has_in marks) found → bad ≡ (split || shared)
    → bad ≡ is_bad_net before cs
bad_is marks before cs found split shared bad has same split_is shared_is is =
    is ∙ ap (λ (b : Bool). b || shared) split_is ∙ ap (λ (b : Bool). is_split found || b) (shared_is ∙ any_same (has_in marks) (has_class before) found has)
    ∙ ap (λ (l : List ℕ). is_split l || list_any (has_class before) l) same

module _ (bad : Instance → Bool) (rows : List Instance) (row : Instance) where
  to_end : (n : ℕ) → FailsOn bad rows n ⊎ ((bad row ≡ true) × (n ≡ row.line)) → FailsOn bad (rows ++ row ∷ []) n
  to_end n (inl h) = record { row = h.row; there = Contains-append_left rows (row ∷ []) h.row h.there; fails = h.fails; is = h.is }
  to_end n (inr h) = record { row = row; there = Contains-append_right rows (row ∷ []) row (0, omega arith, refl); fails = h.0; is = h.1 }

  only_end : (x : Instance) → Contains (row ∷ []) x → row ≡ x
  only_end x (zero, lt, is) = is
  only_end x (suc k, lt, is) = absurd (omega arith)

  from_end : (n : ℕ) → FailsOn bad (rows ++ row ∷ []) n → FailsOn bad rows n ⊎ ((bad row ≡ true) × (n ≡ row.line))
  from_end n h =
      elim (Contains-append_cases rows (row ∷ []) h.row h.there) [
        | inl there ↦ inl (record { row = h.row; there = there; fails = h.fails; is = h.is })
        | inr last ↦
            let same = only_end h.row last in inr (subst (λ (x : Instance). bad x ≡ true) (sym same) h.fails, h.is ∙ ap (λ (x : Instance). x.line) (sym same))
      ]

  pub fails_last : (r : Option ℕ) → IsLeast (FailsOn bad rows) r → IsLeast (FailsOn bad (rows ++ row ∷ [])) (lesser r (found_if (bad row) row.line))
  fails_last r least =
      same_least (λ n. FailsOn bad rows n ⊎ ((bad row ≡ true) × (n ≡ row.line))) (FailsOn bad (rows ++ row ∷ [])) _ to_end from_end
      (either (FailsOn bad rows) (λ n. (bad row ≡ true) × (n ≡ row.line)) r (found_if (bad row) row.line) least (alone (bad row) row.line))

pub fails_next : (bad : Instance → Bool) (rows : List Instance) (i : ℕ) (row : Instance) (r : Option ℕ) → i < length rows → row ≡ get_or rows i row → IsLeast (FailsOn bad (take i rows)) r
    → IsLeast (FailsOn bad (take (i + 1) rows)) (lesser r (found_if (bad row) row.line))
fails_next bad rows i row r lt is least =
    subst (λ (l : List Instance). IsLeast (FailsOn bad l) (lesser r (found_if (bad row) row.line))) (sym (take_next rows i row lt is)) (fails_last bad (take i rows) row r least)

pub fails_empty : (bad : Instance → Bool) → IsLeast (FailsOn bad []) None
fails_empty bad = λ n h. absurd (omega (arith, h.there.1))

pub fails_whole : (bad : Instance → Bool) (rows : List Instance) (i : ℕ) (r : Option ℕ) → length rows ≤ i → IsLeast (FailsOn bad (take i rows)) r → IsLeast (FailsOn bad rows) r
fails_whole bad rows i r le least = subst (λ (l : List Instance). IsLeast (FailsOn bad l) r) (take_all i rows le) least

-- by the answer of a test
pub fails_by : (bad : Instance → Bool) (rows : List Instance) (i : ℕ) (row : Instance) (r : Option ℕ) (now : Bool) → i < length rows → row ≡ get_or rows i row → now ≡ bad row → IsLeast (FailsOn bad (take i rows)) r
    → IsLeast (FailsOn bad (take (i + 1) rows)) (lesser r (found_if now row.line))
fails_by bad rows i row r now lt is same least =
    subst (λ (b : Bool). IsLeast (FailsOn bad (take (i + 1) rows)) (lesser r (found_if b row.line))) (sym same) (fails_next bad rows i row r lt is least)

pub none_mapped : (o : Option (Bor (List ℕ))) → is_none o ≡ is_none (option_map (λ x. x.now) o)
none_mapped None = refl
none_mapped (Some x) = refl
