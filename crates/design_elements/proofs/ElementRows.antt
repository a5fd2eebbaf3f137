-- Elements by their keys, and their rows as one more is looked at.
use Rattle.std.proofs.Common.{◌≡◌, ℕ, ◌+◌, ◌<◌, true, eqb, List, [], ◌++◌, length, get_or, take, Option, Some, refl, sym, ap, ◌∙◌, append_assoc, eq-eqb}
use Rattle.std.specs.Prelude.{option_map}
use Rattle.std.specs.List.{flat_map, filter_map, cons_option}
use Rattle.std.specs.Str.{bytes_eq}
use Rattle.std.proofs.lemmas.Bool.{and_parts, eqb-true, and_from}
use Rattle.std.proofs.lemmas.List.Elements.{filter_map-append}
use Rattle.std.proofs.lemmas.Slice.Eq.{bytes_eq-Decides}
use Rattle.cell_table.specs.Cells.{Cells}
use Rattle.def_reader.specs.declared.design.Component.{Component}
use Rattle.def_reader.specs.declared.design.Element.{Element}
use Rattle.def_reader.specs.declared.design.ElementList.{ElementList}
use Rattle.def_reader.specs.Sound.{elements_in}
use Rattle.list_laws.proofs.RowsMore.{filter_next, flat_next}
use Rattle.design_elements.specs.CellPins.{CellPins, pins_of, path_number}
use Rattle.design_elements.specs.Seen.{ElementKey, same_element, element_at, row_of}

pairs_same : (a b : List ℕ) (p q : ℕ) → a ≡ b → p ≡ q → ◌≡◌ {A = List ℕ × ℕ} (a, p) (b, q)
pairs_same a b p q e f = ap (λ (x : List ℕ). (x, p)) e ∙ ap (λ (n : ℕ). (b, n)) f

-- keys are the same where their elements are
pub key_exact : (x y : ElementKey) → same_element x y ≡ true → element_at x ≡ element_at y
key_exact x y e =
    let parts = and_parts (bytes_eq x.0.now y.0.now) (eqb x.1 y.1) e in
    pairs_same x.0.now y.0.now x.1 y.1 ((bytes_eq-Decides x.0.now y.0.now).0 parts.0) (eqb-true x.1 y.1 parts.1)

pub key_back : (x y : ElementKey) → element_at x ≡ element_at y → same_element x y ≡ true
key_back x y e =
    and_from (bytes_eq x.0.now y.0.now) (eqb x.1 y.1) ((bytes_eq-Decides x.0.now y.0.now).1 (ap (λ (k : List ℕ × ℕ). k.0) e)) (eq-eqb x.1 y.1 (ap (λ (k : List ℕ × ℕ). k.1) e))

-- the row of an element whose pins tell a scan path
pub element_row : (cells : Cells) (components : List Component) (pins : CellPins) (line : ℕ) (e : Element) (name : List ℕ) (path : ℕ) → pins ≡ pins_of e → name ≡ e.component
    → Some path ≡ path_number cells components pins → row_of cells components line e ≡ Some ((name, path), line)
element_row cells components pins line e name path same named is =
    ap (option_map (λ (p : ℕ). ((e.component, p), line))) (sym (is ∙ ap (path_number cells components) same)) ∙ ap (λ (n : List ℕ). Some ((n, path), line)) (sym named)

module _ {A B : Type 0} (rows : List B) (f : A → Option B) where
  -- one element more
  pub rows_next : (xs : List A) (i : ℕ) (x : A) → i < length xs → x ≡ get_or xs i x → (rows ++ filter_map f (take i xs)) ++ cons_option (f x) [] ≡ rows ++ filter_map f (take (i + 1) xs)
  rows_next xs i x lt is =
      append_assoc rows (filter_map f (take i xs)) (cons_option (f x) []) ∙ ap (λ (l : List B). rows ++ l) (sym (filter_next f xs xs i x refl lt is))

-- one list more
pub lists_next : {B : Type 0} (rows : List B) (f : Element → Option B) (lists : List ElementList) (i : ℕ) (list : ElementList) → i < length lists → list ≡ get_or lists i list
    → (rows ++ filter_map f (flat_map elements_in (take i lists))) ++ filter_map f (elements_in list) ≡ rows ++ filter_map f (flat_map elements_in (take (i + 1) lists))
lists_next {B} rows f lists i list lt is =
    append_assoc rows (filter_map f (flat_map elements_in (take i lists))) (filter_map f (elements_in list))
    ∙ ap (λ (l : List B). rows ++ l) (sym (ap (filter_map f) (flat_next elements_in lists i list lt is) ∙ filter_map-append f (flat_map elements_in (take i lists)) (elements_in list)))
