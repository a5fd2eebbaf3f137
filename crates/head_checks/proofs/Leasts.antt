-- The least line on which a member fails a test.
use Rattle.std.proofs.Common.{◌≡◌, ℕ, zero, suc, ◌+◌, ◌<◌, ◌≤◌, ◌⊎◌, inl, inr, Bool, true, List, [], ◌∷◌, ◌++◌, length, get_or, take, Option, None, Contains, refl, sym, ap, ap₂, ◌∙◌, subst, arith}
use Rattle.std.proofs.lemmas.List.{take_more, take_all, get_or_default}
use Rattle.std.proofs.lemmas.List.Elements.{Contains-append_left, Contains-append_right, Contains-append_cases}
use Rattle.list_laws.specs.Leasts.{IsLeast, lesser, found_if}
use Rattle.list_laws.proofs.LeastLines.{same_least, either, alone}
use Rattle.std.specs.List.{zip}
use Rattle.std.proofs.lemmas.Slice.Zip.{length-zip, get_or-zip}
use Rattle.stil_types.specs.declared.head.ScanChainDecl.{ScanChainDecl}
use Rattle.chain_trace.specs.declared.path.Path.{Path}
use Rattle.head_checks.specs.Heads.{FailsOn, Declared, line_of}

module _ {X : Type 0} (test : X → Bool) (line_of : X → ℕ) where
  to_last : (rows : List X) (row : X) (n : ℕ) → FailsOn test line_of rows n ⊎ ((test row ≡ true) × (n ≡ line_of row)) → FailsOn test line_of (rows ++ row ∷ []) n
  to_last rows row n (inl h) = record { row = h.row; there = Contains-append_left rows (row ∷ []) h.row h.there; fails = h.fails; is = h.is }
  to_last rows row n (inr h) = record { row = row; there = Contains-append_right rows (row ∷ []) row (0, omega arith, refl); fails = h.0; is = h.1 }

  only_last : (row x : X) → Contains (row ∷ []) x → row ≡ x
  only_last row x (zero, lt, is) = is
  only_last row x (suc k, lt, is) = absurd (omega arith)

  from_last : (rows : List X) (row : X) (n : ℕ) → FailsOn test line_of (rows ++ row ∷ []) n → FailsOn test line_of rows n ⊎ ((test row ≡ true) × (n ≡ line_of row))
  from_last rows row n h =
      elim (Contains-append_cases rows (row ∷ []) h.row h.there) [
        | inl there ↦ inl (record { row = h.row; there = there; fails = h.fails; is = h.is })
        | inr last ↦
            let same = only_last row h.row last in
            inr (subst (λ (x : X). test x ≡ true) (sym same) h.fails, h.is ∙ ap line_of (sym same))
      ]

  -- one member more is looked at
  pub fails_more : (rows : List X) (i : ℕ) (row : X) (r : Option ℕ) → i < length rows → row ≡ get_or rows i row → IsLeast (FailsOn test line_of (take i rows)) r
      → IsLeast (FailsOn test line_of (take (i + 1) rows)) (lesser r (found_if (test row) (line_of row)))
  fails_more rows i row r lt is least =
      let more : take (i + 1) rows ≡ take i rows ++ row ∷ [] = take_more rows i row lt ∙ ap (λ (x : X). take i rows ++ x ∷ []) (sym is) in
      subst (λ (l : List X). IsLeast (FailsOn test line_of l) (lesser r (found_if (test row) (line_of row)))) (sym more)
      (same_least (λ n. FailsOn test line_of (take i rows) n ⊎ ((test row ≡ true) × (n ≡ line_of row))) (FailsOn test line_of (take i rows ++ row ∷ [])) _ (to_last (take i rows) row) (from_last (take i rows) row)
      (either (FailsOn test line_of (take i rows)) (λ n. (test row ≡ true) × (n ≡ line_of row)) r (found_if (test row) (line_of row)) least (alone (test row) (line_of row))))

  -- none is looked at
  pub fails_none : IsLeast (FailsOn test line_of []) None
  fails_none = λ n h. absurd (omega (arith, h.there.1))

  -- all are looked at
  pub fails_all : (rows : List X) (i : ℕ) (r : Option ℕ) → length rows ≤ i → IsLeast (FailsOn test line_of (take i rows)) r → IsLeast (FailsOn test line_of rows) r
  fails_all rows i r le least = subst (λ (l : List X). IsLeast (FailsOn test line_of l) r) (take_all i rows le) least

-- one declaration more is looked at beside its path
pub zip_turn : (test : Declared → Bool) (chains : List ScanChainDecl) (paths : List Path) (i : ℕ) (block other : ScanChainDecl) (path : Path) (fails : Bool) (least here next : Option ℕ)
    → i < length chains → i < length paths → block ≡ get_or chains i block → path ≡ get_or paths i path → fails ≡ test (block, path) → here ≡ found_if fails (get_or chains i other).line → next ≡ lesser least here
    → IsLeast (FailsOn test line_of (take i (zip chains paths))) least → IsLeast (FailsOn test line_of (take (i + 1) (zip chains paths))) next
zip_turn test chains paths i block other path fails least here next lt lp is at told line sum so =
    let long = length-zip chains paths in
    let row : (block, path) ≡ get_or (zip chains paths) i (block, path) = ap₂ (λ (a : ScanChainDecl) (b : Path). (a, b)) is at ∙ sym (get_or-zip chains paths i (block, path) lt lp) in
    let same : get_or chains i other ≡ block = get_or_default chains i other block lt ∙ sym is in
    let value : lesser least (found_if (test (block, path)) block.line) ≡ next =
    ap₂ (λ (b : Bool) (d : ScanChainDecl). lesser least (found_if b d.line)) (sym told) (sym same) ∙ ap (lesser least) (sym line) ∙ sym sum in
    subst (λ (r : Option ℕ). IsLeast (FailsOn test line_of (take (i + 1) (zip chains paths))) r) value
    (fails_more test line_of (zip chains paths) i (block, path) least (omega (arith, long)) row so)
