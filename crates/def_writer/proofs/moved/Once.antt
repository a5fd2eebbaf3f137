-- No pin stands twice in the nets of a design that a text denotes.
use Rattle.std.proofs.Common.{◌≡◌, ℕ, zero, suc, List, [], ◌∷◌, ◌++◌, filter_map, Some, option_map, inl, inr, refl, sym, ap, ◌∙◌, subst}
use Rattle.std.specs.List.{slice_get}
use Rattle.std.proofs.lemmas.Option.{same_Some, none-some, slice_get-map}
use Rattle.cell_table.specs.Cells.{Cells}
use Rattle.def_reader.specs.declared.design.NetPin.{NetPin}
use Rattle.def_reader.specs.declared.design.Net.{Net}
use Rattle.def_reader.specs.declared.design.Design.{Design}
use Rattle.def_reader.specs.Designs.{net_of, design_of}
use Rattle.def_reader.specs.Denoted.{DenotesDesign}
use Rattle.def_reader.specs.Faults.{names_in, StandsAgain, connections_of, connection_rows, SameConnection}
use Rattle.def_writer.specs.Moved.Laws.{ArePinsOnceIn, OnceLaw}
use Rattle.path_links.proofs.PathLists.{Has, has, contains, has_left, has_right, flat_has}
use Rattle.net_edit.proofs.NewAssigns.{index_has}
use Rattle.def_writer.proofs.moved.Members.{Apart, apart_place}

record SplitAt {X : Type 0} (xs : List X) (x : X) : Type 0 where
  front : List X
  behind : List X
  is : xs ≡ front ++ x ∷ behind

split_at : {X : Type 0} (xs : List X) (x : X) → Has xs x → SplitAt xs x
split_at [] x h = absurd h
split_at (y ∷ ys) x (inl e) = record { front = []; behind = ys; is = ap (λ (z : _). z ∷ ys) e }
split_at (y ∷ ys) x (inr h) = let r = split_at ys x h in record { front = y ∷ r.front; behind = r.behind; is = ap (λ (zs : List _). y ∷ zs) r.is }

abbrev row_name : {K : Type 0} → K × ℕ → K
row_name row = row.0

-- rows of which none stands again
rows_apart : {K : Type 0} (rows : List (K × ℕ)) → ((line : ℕ) → StandsAgain rows line → ⊥) → Apart row_name rows
rows_apart [] none = tt
rows_apart (r ∷ rs) none = (
  λ y h e.
      let s = split_at rs y h in
      none y.1 (record { front = r ∷ s.front; name = y.0; behind = s.behind; is = ap (λ (zs : List _). r ∷ zs) s.is; before = contains (names_in (r ∷ s.front)) y.0 (inl e) }),
  rows_apart rs (λ line again.
      none line (record {
        front = r ∷ again.front;
        name = again.name;
        behind = again.behind;
        is = ap (λ (zs : List _). r ∷ zs) again.is;
        before = contains (names_in (r ∷ again.front)) again.name (inr (has (names_in again.front) again.name again.before));
      })),
)

record SplitApart {X Y : Type 0} (f : X → Y) (xs ys : List X) : Type 0 where
  left : Apart f xs
  right : Apart f ys
  off : (x y : X) → Has xs x → Has ys y → f x ≡ f y → ⊥

split_apart : {X Y : Type 0} (f : X → Y) (xs ys : List X) → Apart f (xs ++ ys) → SplitApart f xs ys
split_apart f [] ys a = record { left = tt; right = a; off = λ x y h g e. h }
split_apart f (x ∷ xs) ys a =
    let r = split_apart f xs ys a.1 in
    record {
      left = (λ y h e. a.0 y (has_left xs ys y h) e, r.left);
      right = r.right;
      off = off_case f x xs ys a.0 r.off;
    } where
      off_case : {X Y : Type 0} (f : X → Y) (x : X) (xs ys : List X) → ((y : X) → Has (xs ++ ys) y → f x ≡ f y → ⊥) → ((u y : X) → Has xs u → Has ys y → f u ≡ f y → ⊥)
          → (u y : X) → Has (x ∷ xs) u → Has ys y → f u ≡ f y → ⊥
      off_case f x xs ys here more u y (inl s) g e = here y (has_right xs ys y g) (ap f s ∙ e)
      off_case f x xs ys here more u y (inr h) g e = more u y h g e

row_at : (net : Net) (k : ℕ) (pin : NetPin) → slice_get net.pins k ≡ Some pin → slice_get (connections_of net) k ≡ Some (pin, net.line)
row_at net k pin at = slice_get-map (λ (p : NetPin). (p, net.line)) net.pins k ∙ ap (option_map (λ (p : NetPin). (p, net.line))) at

in_rows : (nets : List Net) (j l : ℕ) (net : Net) (pin : NetPin) → slice_get nets j ≡ Some net → slice_get net.pins l ≡ Some pin → Has (connection_rows nets) (pin, net.line)
in_rows nets j l net pin at there =
    flat_has connections_of nets net (pin, net.line) (index_has nets j net at) (index_has (connections_of net) l (pin, net.line) (row_at net l pin there))

here_twice : (net a b : Net) (k l : ℕ) (pin : NetPin) → Apart row_name (connections_of net) → net ≡ a → net ≡ b → slice_get a.pins k ≡ Some pin → slice_get b.pins l ≡ Some pin → k ≡ l
here_twice net a b k l pin apart is_a is_b in_a in_b =
    let one = row_at net k pin (ap (λ (n : Net). slice_get n.pins k) is_a ∙ in_a) in
    let other = row_at net l pin (ap (λ (n : Net). slice_get n.pins l) is_b ∙ in_b) in
    apart_place row_name (connections_of net) apart k l (pin, net.line) (pin, net.line) one other refl

off_there : (net a b : Net) (nets : List Net) (j k l : ℕ) (pin : NetPin) → ((x y : NetPin × ℕ) → Has (connections_of net) x → Has (connection_rows nets) y → x.0 ≡ y.0 → ⊥) → net ≡ a → slice_get nets j ≡ Some b
    → slice_get a.pins k ≡ Some pin → slice_get b.pins l ≡ Some pin → ⊥
off_there net a b nets j k l pin off is_a at_b in_a in_b =
    off (pin, net.line) (pin, b.line) (index_has (connections_of net) k (pin, net.line) (row_at net k pin (ap (λ (n : Net). slice_get n.pins k) is_a ∙ in_a))) (in_rows nets j l b pin at_b in_b) refl

pins_once : (nets : List Net) → Apart row_name (connection_rows nets) → ArePinsOnceIn nets
pins_once [] apart i j k l a b pin at_a at_b in_a in_b = absurd (none-some a at_a)
pins_once (n ∷ ns) apart zero zero k l a b pin at_a at_b in_a in_b =
    let s = split_apart row_name (connections_of n) (connection_rows ns) apart in
    (refl, here_twice n a b k l pin s.left (same_Some n a at_a) (same_Some n b at_b) in_a in_b)
pins_once (n ∷ ns) apart zero (suc j) k l a b pin at_a at_b in_a in_b =
    let s = split_apart row_name (connections_of n) (connection_rows ns) apart in
    absurd (off_there n a b ns j k l pin s.off (same_Some n a at_a) at_b in_a in_b)
pins_once (n ∷ ns) apart (suc i) zero k l a b pin at_a at_b in_a in_b =
    let s = split_apart row_name (connections_of n) (connection_rows ns) apart in
    absurd (off_there n b a ns i l k pin s.off (same_Some n b at_b) at_a in_b in_a)
pins_once (n ∷ ns) apart (suc i) (suc j) k l a b pin at_a at_b in_a in_b =
    let s = split_apart row_name (connections_of n) (connection_rows ns) apart in
    let r = pins_once ns s.right i j k l a b pin at_a at_b in_a in_b in
    (ap suc r.0, r.1)

nets_of : (text : List ℕ) (cells : Cells) (d : Design) → (h : DenotesDesign text cells d) → d.nets ≡ filter_map (net_of text) h.statements.nets
unfolding design_of
nets_of text cells d h = ap (λ (e : Design). e.nets) h.is

pub once_law : OnceLaw
once_law text cells d h =
    let nets = filter_map (net_of text) h.statements.nets in
    subst ArePinsOnceIn (sym (nets_of text cells d h)) (pins_once nets (rows_apart (connection_rows nets) (λ line again. h.once line (SameConnection again))))
