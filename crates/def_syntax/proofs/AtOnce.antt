-- What is read in one pass, statement by statement.
use Rattle.std.proofs.Common.{◌≡◌, ℕ, Bool, true, false, not, ◌&&◌, is_some, if◌then◌else◌, List, [], ◌∷◌, ◌++◌, Option, Some, None, Result, Ok, Err, option_map, refl, sym, ap, ◌∙◌, subst, codes}
use Rattle.std.proofs.lemmas.Option.{option_and_then_some}
use Rattle.token_forms.specs.Tokens.{Token}
use Rattle.token_forms.specs.Parsing.{◌>>=◌}
use Rattle.def_syntax.specs.Grammar.{units, component, design_pin, net, chain}
use Rattle.def_syntax.specs.Frames.{word_of, opened_by, is_end, is_head, start_of}
use Rattle.def_syntax.specs.Designs.{NoneCloses}
use Rattle.def_syntax.specs.Reading.{statement_of, located, read_units, read_outside, read_inside, closed_by, read_by, read_turn, or_place}
use Rattle.def_syntax.specs.AtOnce.{is_component_in, is_component, wanted_turn, read_wanted}
use Rattle.def_syntax.specs.declared.units.Units.{Units}
use Rattle.def_syntax.specs.declared.frame.SectionKind.{SectionKind}
use Rattle.def_syntax.specs.declared.frame.SectionKind.TheVariants.{Components, Pins, Nets, ScanChains}
use Rattle.def_syntax.specs.declared.found.Opened.{Opened}
use Rattle.def_syntax.specs.declared.found.Found.{Found}
use Rattle.def_syntax.proofs.Designs.{read_body}

-- a statement behind others, and none
pub wanted_ends : (components : Bool) (text : List ℕ) (found : Found) (s : List Token) (ss rest : List (List Token)) → ss ≡ s ∷ rest → is_end (codes "DESIGN") s ≡ true → read_wanted components text found ss ≡ Some found
unfolding read_wanted
wanted_ends components text found s ss rest is end = rw (is, end) refl

pub wanted_goes_on : (components : Bool) (text : List ℕ) (found next : Found) (s : List Token) (ss rest : List (List Token)) → ss ≡ s ∷ rest → is_end (codes "DESIGN") s ≡ false → wanted_turn components text found s ≡ Some next
    → read_wanted components text next rest ≡ read_wanted components text found ss
unfolding read_wanted
wanted_goes_on components text found next s ss rest is end turn = rw (is, end, turn) refl

pub wanted_stops : (components : Bool) (text : List ℕ) (found : Found) (s : List Token) (ss rest : List (List Token)) → ss ≡ s ∷ rest → is_end (codes "DESIGN") s ≡ false → wanted_turn components text found s ≡ None
    → read_wanted components text found ss ≡ None
unfolding read_wanted
wanted_stops components text found s ss rest is end turn = rw (is, end, turn) refl

pub wanted_none : (components : Bool) (text : List ℕ) (found : Found) (ss : List (List Token)) → ss ≡ [] → read_wanted components text found ss ≡ None
unfolding read_wanted
wanted_none components text found ss is = rw is refl

-- without END DESIGN nothing is read
pub wanted_open : (components : Bool) (text : List ℕ) (found : Found) (ss : List (List Token)) → NoneCloses ss → read_wanted components text found ss ≡ None
unfolding read_wanted
wanted_open components text found [] none = refl
wanted_open components text found (s ∷ ss) none = rw (none.0) (turn (wanted_turn components text found s) (λ next. wanted_open components text next ss none.1))
  where
    turn : (o : Option Found) → ((next : Found) → read_wanted components text next ss ≡ None) → (o >>= λ next. read_wanted components text next ss) ≡ None
    turn None later = refl
    turn (Some next) later = later next

-- with all components it is what is read of the body, where that is read
pub wanted_body : (text : List ℕ) (found f : Found) (body behind : List (List Token)) (end : List Token) → NoneCloses body → is_end (codes "DESIGN") end ≡ true
    → read_wanted true text found (body ++ end ∷ behind) ≡ Some f → read_body text None found body ≡ Ok f
unfolding read_wanted read_body
wanted_body text found f [] behind end none ends e = let same : Some found ≡ Some f = rw ends at e in cc
wanted_body text found f (s ∷ body) behind end none ends e = turn (read_turn text None found s) (λ next. wanted_body text next f body behind end none.1 ends) (rw (none.0) at e)
  where
    turn : (o : Option Found) → ((next : Found) → read_wanted true text next (body ++ end ∷ behind) ≡ Some f → read_body text None next body ≡ Ok f) → (o >>= λ next. read_wanted true text next (body ++ end ∷ behind)) ≡ Some f
        → or_place o (start_of s) (λ next. read_body text None next body) ≡ Ok f
    turn None later e = absurd cc
    turn (Some next) later e = later next e

-- what is found, but for components
abbrev pub spared : Found → Found
spared found = record found { components = [] }

module _ (text : List ℕ) (found next : Found) (s : List Token) where
  abbrev Same : Option Found → Option Found → Type 0
  Same other o = o ≡ Some next → other ≡ Some (spared next)

  moved : (o : Option Found) → Same (option_map spared o) o
  moved o e = ap (option_map spared) e

  unless : (b : Bool) (x : Found) → Same (if b then None else Some (spared x)) (if b then None else Some x)
  unless true x e = absurd cc
  unless false x e = moved (Some x) e

  only_if : (b : Bool) (x : Found) → Same (if b then Some (spared x) else None) (if b then Some x else None)
  only_if true x e = moved (Some x) e
  only_if false x e = absurd cc

  with_value : {X : Type 0} (o : Option X) (f : X → Found) → Same (o >>= λ x. Some (spared (f x))) (o >>= λ x. Some (f x))
  with_value None f e = absurd cc
  with_value (Some x) f e = moved (Some (f x)) e

  without_value : {X : Type 0} (o : Option X) (f : X → Found) → ((x : X) → spared (f x) ≡ spared found) → Same (Some (spared found)) (o >>= λ x. Some (f x))
  without_value None f same e = absurd cc
  without_value (Some x) f same e = sym (ap Some (same x)) ∙ moved (Some (f x)) e

  of_units : (u : Option Units) → Same (read_units text (spared found) s u) (read_units text found s u)
  of_units None e = moved (Some found) e
  of_units (Some u) e = unless (is_some found.units) (record found { units = Some (located text s u) }) e

  of_outside : (k : Option SectionKind) → Same (read_outside text None (spared found) k s) (read_outside text None found k s)
  of_outside None e = of_units (statement_of units s) e
  of_outside (Some kind) e = only_if (is_head s && not false) _ e

  module _ (o : Opened) where
    abbrev In : SectionKind → Bool → Type 0
    In kind ends =
        Same (if is_component_in kind s then Some (spared found) else (if ends then Some (closed_by (spared found) o s) else read_inside text (spared found) kind s))
        (if ends then Some (closed_by found o s) else read_inside text found kind s)

    of_components : (ends : Bool) → is_end (codes "COMPONENTS") s ≡ ends → In Components ends
    of_components true is e = rw is (moved (Some (closed_by found o s)) e)
    of_components false is e = rw is (without_value (statement_of component s) (λ x. record found { components = found.components ++ located text s x ∷ [] }) (λ x. refl) e)

    of_kind : (kind : SectionKind) → In kind (is_end (word_of kind) s)
    of_kind Components e = of_components (is_end (codes "COMPONENTS") s) refl e
    of_kind Pins e = closes (is_end (word_of Pins) s) e
      where
        closes : (ends : Bool) → In Pins ends
        closes true e = moved (Some (closed_by found o s)) e
        closes false e = with_value (statement_of design_pin s) (λ x. record found { pins = found.pins ++ located text s x ∷ [] }) e
    of_kind Nets e = closes (is_end (word_of Nets) s) e
      where
        closes : (ends : Bool) → In Nets ends
        closes true e = moved (Some (closed_by found o s)) e
        closes false e = with_value (statement_of net s) (λ x. record found { nets = found.nets ++ located text s x ∷ [] }) e
    of_kind ScanChains e = closes (is_end (word_of ScanChains) s) e
      where
        closes : (ends : Bool) → In ScanChains ends
        closes true e = moved (Some (closed_by found o s)) e
        closes false e = with_value (statement_of chain s) (λ x. record found { chains = found.chains ++ located text s x ∷ [] }) e

  of_opened : (o : Option Opened) → Same (if is_component o s then Some (spared found) else read_by text None (spared found) o s) (read_by text None found o s)
  of_opened None e = of_outside (opened_by s) e
  of_opened (Some o) e = of_kind o o.kind e

  spared_turn : read_turn text None found s ≡ Some next → wanted_turn false text (spared found) s ≡ Some (spared next)
  unfolding read_turn
  spared_turn e = of_opened found.section e

-- without components all else is read as with them
pub spared_body : (text : List ℕ) (found f : Found) (body behind : List (List Token)) (end : List Token) → NoneCloses body → is_end (codes "DESIGN") end ≡ true
    → read_body text None found body ≡ Ok f → read_wanted false text (spared found) (body ++ end ∷ behind) ≡ Some (spared f)
unfolding read_wanted read_body
spared_body text found f [] behind end none ends e = rw ends (let same : found ≡ f = cc in ap (λ (x : Found). Some (spared x)) same)
spared_body text found f (s ∷ body) behind end none ends e = rw (none.0) (turn (read_turn text None found s) refl (λ next. spared_body text next f body behind end none.1 ends) e)
  where
    turn : (o : Option Found) → read_turn text None found s ≡ o → ((next : Found) → read_body text None next body ≡ Ok f → read_wanted false text (spared next) (body ++ end ∷ behind) ≡ Some (spared f)) → or_place o (start_of s) (λ next. read_body text None next body) ≡ Ok f
        → (wanted_turn false text (spared found) s >>= λ next. read_wanted false text next (body ++ end ∷ behind)) ≡ Some (spared f)
    turn None is later e = absurd cc
    turn (Some next) is later e = rw (spared_turn text found next s is) (later next e)
