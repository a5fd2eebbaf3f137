-- Rows of which no two have one name.
use Rattle.std.proofs.Common.{◌≡◌, ℕ, zero, suc, ◌<◌, inl, inr, Bool, true, false, cond, not, List, [], ◌∷◌, length, map, get_or, Option, Some, None, Contains, slice_get, position, bytes_eq, nat_lt, unwrap_or, option_map, is_some, refl, ap, ◌∙◌, subst, arith, lt-ltb}
use Rattle.std.specs.List.{position_or_len}
use Rattle.std.proofs.lemmas.Bool.{cases_Bool}
use Rattle.std.proofs.lemmas.List.{map-append}
use Rattle.std.proofs.lemmas.List.Sums.{position_or_len_is}
use Rattle.std.proofs.lemmas.Option.{slice_get_within, get_or_from_slice_get, slice_get-get_or}
use Rattle.base_types.proofs.TruthValues.{bytes_are, bytes_same}
use Rattle.def_reader.specs.Faults.{StandsAgain, names_in}
use Rattle.def_reader.specs.NamedRows.{AreApart}
use Rattle.list_laws.specs.Leasts.{IsLeast}
use Rattle.list_laws.proofs.Members.{split_at}

module _ {X : Type 0} (name : X → List ℕ) (line : X → ℕ) where
  abbrev row_of : X → List ℕ × ℕ
  row_of r = (name r, line r)

  name_there : (xs : List X) (x : X) (q : List ℕ) → Contains xs x → name x ≡ q → Contains (names_in (map row_of xs)) q
  name_there [] x q h e = absurd (let lt = h.1 in omega arith)
  name_there (y ∷ ys) x q (zero, lt, is) e = (zero, omega arith, ap name is ∙ e)
  name_there (y ∷ ys) x q (suc k, lt, is) e = let t = name_there ys x q (k, omega arith, is) e in (suc t.0, (let more = t.1 in omega arith), t.2)

  module _ (rows : List X) (least : IsLeast (StandsAgain (map row_of rows)) None) where
    -- a row before has another name
    before_fails : (p k : ℕ) (row : X) → slice_get rows p ≡ Some row → k < p → bytes_eq (name (get_or rows k row)) (name row) ≡ false
    before_fails p k row at lt =
        elim (cases_Bool (bytes_eq (name (get_or rows k row)) (name row))) [
          | inl same ↦
              let inside = slice_get_within rows p row at in
              let t = split_at rows p row at in
              let here : slice_get rows k ≡ Some (get_or rows k row) = slice_get-get_or rows k row (omega arith) in
              let there = t.before k (get_or rows k row) lt here in
              absurd (least (line row) (record {
                front = map row_of t.front;
                name = name row;
                behind = map row_of t.behind;
                is = ap (map row_of) t.is ∙ map-append row_of t.front (row ∷ t.behind);
                before = name_there t.front (get_or rows k row) (name row) there (bytes_are (name (get_or rows k row)) (name row) same);
              }))
          | inr other ↦ other
        ]

    -- where no name stands again, each row is the first of its name
    pub apart : AreApart name rows
    apart = λ p row at.
        let test : X → Bool = λ other. bytes_eq (name other) (name row) in
        let inside = slice_get_within rows p row at in
        let is : position_or_len test rows ≡ p = position_or_len_is test rows p row (omega arith) (λ k lt. before_fails p k row at lt) (λ _. ap test (get_or_from_slice_get rows p row row at) ∙ bytes_same (name row) (name row) refl) in
        ap (λ (n : ℕ). cond (nat_lt n (length rows)) (Some n) None) is ∙ ap (λ (t : Bool). cond t (Some p) None) (lt-ltb p (length rows) inside)

named_by : {X : Type 0} (name : X → List ℕ) (q : List ℕ) (o : Option X) → unwrap_or (option_map (λ row. bytes_eq (name row) q) o) false ≡ true → (row : X) × (o ≡ Some row) × (bytes_eq (name row) q ≡ true)
named_by name q None e = absurd cc
named_by name q (Some row) e = (row, refl, e)

-- a row of a name is the first of it, where no two have one name
pub first_named : {X : Type 0} (name : X → List ℕ) (rows : List X) (p : ℕ) (q : List ℕ) → AreApart name rows → unwrap_or (option_map (λ row. bytes_eq (name row) q) (slice_get rows p)) false ≡ true → position (λ row. bytes_eq (name row) q) rows ≡ Some p
first_named name rows p q all e =
    let t = named_by name q (slice_get rows p) e in
    subst (λ (r : List ℕ). position (λ row. bytes_eq (name row) r) rows ≡ Some p) (bytes_are (name t.0) q t.2) (all p t.0 t.1)

pub none_is : {X : Type 0} (o : Option X) (t : Bool) → t ≡ true → is_some o ≡ not t → o ≡ None
none_is None t e is = refl
none_is (Some x) t e is = let no = ap not e in absurd cc
