-- How the words that are written are read.
use Rattle.std.proofs.Common.{◌≡◌, ℕ, Bool, true, false, cond, not, ◌||◌, eqb, List, [], ◌∷◌, Some, None, codes, refl, sym, ap, ◌∙◌}
use Rattle.std.specs.Prelude.{option_map, unwrap_or, is_some}
use Rattle.std.specs.List.{find, flat_map}
use Rattle.std.specs.Str.{bytes_eq}
use Rattle.std.proofs.lemmas.Slice.Eq.{bytes_eq-Decides}
use Rattle.base_types.specs.Names.{plain_name}
use Rattle.def_layout.specs.SectionForms.{is_name}
use Rattle.def_reader.specs.declared.design.Component.{Component}
use Rattle.def_reader.specs.declared.design.NetPin.TheVariants as pins
use Rattle.def_reader.specs.Designs.{net_pin_of}
use Rattle.def_edit.specs.Words.{escaped, word_for, component_word, unless_mark, end_word}
use Rattle.def_edit.proofs.MovedNets.{ReadsSame}

-- a name with a backslash before each byte is read as it
black_step : (b : ℕ) (t : Bool) (rest more : List ℕ) → rest ≡ more → cond (not t) (b ∷ rest) rest ≡ cond (not t) (b ∷ more) more
black_step b t rest more e = ap (λ (l : List ℕ). cond (not t) (b ∷ l) l) e

escapes_plain : (bs : List ℕ) → plain_name (flat_map (λ c. 92 ∷ c ∷ []) bs) ≡ plain_name bs
escapes_plain [] = refl
escapes_plain (b ∷ bs) = black_step b (eqb b 92) (plain_name (flat_map (λ c. 92 ∷ c ∷ []) bs)) (plain_name bs) (escapes_plain bs)

pub escaped_plain : (name : List ℕ) → plain_name (escaped name) ≡ plain_name name
escaped_plain [] = refl
escaped_plain (b ∷ bs) = escapes_plain (b ∷ bs)

pub word_plain : (name : List ℕ) → plain_name (word_for name) ≡ plain_name name
word_plain name = step (is_name name)
  where
    step : (b : Bool) → plain_name (cond b name (escaped name)) ≡ plain_name name
    step true = refl
    step false = escaped_plain name

-- the components of a text, with their words
abbrev pub HasPlain : Component → Type 0
HasPlain c = plain_name c.text ≡ c.name

abbrev pub ArePlain : List Component → Type 0
ArePlain [] = Unit {0}
ArePlain (c ∷ cs) = HasPlain c × ArePlain cs

-- a component as COMPONENTS writes it is read as it
pub component_plain : (cs : List Component) → ArePlain cs → (name other : List ℕ) → plain_name other ≡ name → plain_name (component_word cs name other) ≡ name
component_plain [] plain name other e = e
component_plain (c ∷ cs) plain name other e = step (bytes_eq c.name name) refl (component_plain cs plain.1 name other e)
  where
    step : (b : Bool) → bytes_eq c.name name ≡ b → plain_name (component_word cs name other) ≡ name
        → plain_name (unwrap_or (option_map (λ (x : Component). x.text) (cond b (Some c) (find (λ x. bytes_eq x.name name) cs))) other) ≡ name
    step true t more = plain.0 ∙ (bytes_eq-Decides c.name name).0 t
    step false t more = more

-- so where one has the name, whatever word stands for another
pub found_plain : (cs : List Component) → ArePlain cs → (name other : List ℕ) (c : Component) → find (λ x. bytes_eq x.name name) cs ≡ Some c → plain_name (component_word cs name other) ≡ name
found_plain [] plain name other c e = absurd cc
found_plain (x ∷ cs) plain name other c e = step (bytes_eq x.name name) refl e (λ g. found_plain cs plain.1 name other c g)
  where
    step : (b : Bool) → bytes_eq x.name name ≡ b → cond b (Some x) (find (λ y. bytes_eq y.name name) cs) ≡ Some c
        → (find (λ y. bytes_eq y.name name) cs ≡ Some c → plain_name (component_word cs name other) ≡ name)
        → plain_name (unwrap_or (option_map (λ (y : Component). y.text) (cond b (Some x) (find (λ y. bytes_eq y.name name) cs))) other) ≡ name
    step true t h more = plain.0 ∙ (bytes_eq-Decides x.name name).0 t
    step false t h more = more h

abbrev pub star : List ℕ
star = codes "*"

abbrev pub port : List ℕ
port = codes "PIN"

-- the component of a connection or of an end is read as the same
pub end_plain : (cs : List Component) → ArePlain cs → (w : List ℕ) → plain_name (end_word cs w) ≡ plain_name w
end_plain cs plain w = step (bytes_eq w port) (bytes_eq t port || bytes_eq t star)
  where
    t : List ℕ
    t = component_word cs (plain_name w) w

    step : (a b : Bool) → plain_name (cond a w (cond b w t)) ≡ plain_name w
    step true b = refl
    step false true = refl
    step false false = component_plain cs plain (plain_name w) w refl

pub reads_same : (cs : List Component) → ArePlain cs → ReadsSame cs
reads_same cs plain w pin counted = step (bytes_eq w port) refl (bytes_eq t port) refl (bytes_eq t star) refl (bytes_eq w star) refl
  where
    t : List ℕ
    t = component_word cs (plain_name w) w

    some_no : (s : Bool) → is_some (cond s None (cond false (Some (pins.Port (plain_name pin))) (Some (pins.Cell (plain_name w) (plain_name pin))))) ≡ true → s ≡ false
    some_no true e = absurd cc
    some_no false e = refl

    step : (a : Bool) → bytes_eq w port ≡ a → (p : Bool) → bytes_eq t port ≡ p → (s : Bool) → bytes_eq t star ≡ s → (z : Bool) → bytes_eq w star ≡ z → net_pin_of (cond a w (cond (p || s) w t)) pin ≡ net_pin_of w pin
    step true a p ep s es z ez = refl
    step false a true ep s es z ez = refl
    step false a false ep true es z ez = refl
    step false a false ep false es true ez = let no : is_some (net_pin_of w pin) ≡ false = ap (λ (b : Bool). is_some (cond b None (cond (bytes_eq w port) (Some (pins.Port (plain_name pin))) (Some (pins.Cell (plain_name w) (plain_name pin)))))) ez in let bad : true ≡ false = sym counted ∙ no in absurd cc
    step false a false ep false es false ez = rw (a, ep, es, ez) (ap (λ (n : List ℕ). Some (pins.Cell n (plain_name pin))) (component_plain cs plain (plain_name w) w refl))

-- it is no PIN
no_port_there : (cs : List Component) (w : List ℕ) → bytes_eq w port ≡ false → bytes_eq (end_word cs w) port ≡ false
no_port_there cs w e = rw e (step (bytes_eq t port) refl (bytes_eq t star))
  where
    t : List ℕ
    t = component_word cs (plain_name w) w

    step : (p : Bool) → bytes_eq t port ≡ p → (s : Bool) → bytes_eq (cond (p || s) w t) port ≡ false
    step true h s = e
    step false h true = e
    step false h false = h

no_port : (u : List ℕ) → bytes_eq u port ≡ false → bytes_eq (word_for u) port ≡ false
no_port u e = step (is_name u) u e
  where
    step : (b : Bool) (v : List ℕ) → bytes_eq v port ≡ false → bytes_eq (cond b v (escaped v)) port ≡ false
    step true v e = e
    step false [] e = refl
    step false (c ∷ cs) e = refl

pub end_no_port : (cs : List Component) (w : List ℕ) → bytes_eq w port ≡ false → bytes_eq (word_for (end_word cs w)) port ≡ false
end_no_port cs w e = no_port (end_word cs w) (no_port_there cs w e)
