-- Rows that are told apart, as one more is.
use Rattle.std.proofs.Common.{◌≡◌, ℕ, zero, suc, inl, inr, List, [], ◌∷◌, ◌++◌, Contains, subst, arith}
use Rattle.std.proofs.lemmas.List.{map-append}
use Rattle.std.proofs.lemmas.List.Elements.{Contains-append_cases}
use Rattle.def_reader.specs.Faults.{names_in}
use Rattle.def_reader.specs.Hashes.{AreTold}
use Rattle.list_laws.proofs.RowsMore.{nil_not}
use Rattle.def_reader.proofs.Again.{from_last}

module _ {K : Type 0} (Old New : K → Type 0) (rows : List (K × ℕ)) (told : AreTold Old rows) (kept : (k : K) → Old k → New k) where
  -- what was known still is
  pub still_told : AreTold New rows
  still_told = record { known = λ k h. kept k (told.known k h); once = told.once }

  module _ (x : K) (line : ℕ) (fresh : Old x → ⊥) (held : New x) where
    only : (k : K) → Contains (x ∷ []) k → x ≡ k
    only k (zero, lt, is) = is
    only k (suc n, lt, is) = absurd (omega arith)

    -- one row more
    pub told_more : AreTold New (rows ++ (x, line) ∷ [])
    told_more = record {
      known = λ k h.
          elim (Contains-append_cases (names_in rows) (x ∷ []) k (subst (λ (l : List K). Contains l k) (map-append (λ (r : K × ℕ). r.0) rows ((x, line) ∷ [])) h)) [
            | inl there ↦ kept k (told.known k there)
            | inr last ↦ subst New (only k last) held
          ];
      once = λ n h. elim (from_last rows x line n h) [ inl before ↦ told.once n before | inr now ↦ fresh (told.known x now.0) ];
    }

-- no row is told at first
pub none_told : {K : Type 0} (IsKnown : K → Type 0) → AreTold IsKnown []
none_told IsKnown = record { known = λ k h. absurd (omega (arith, h.1)); once = λ n h. nil_not h.front h.behind (h.name, n) h.is }
