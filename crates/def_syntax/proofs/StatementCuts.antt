-- What is read, statement by statement.
use Rattle.std.proofs.Common.{◌≡◌, ℕ, true, false, List, [], ◌∷◌, Option, Some, None, Ok, Err, refl, codes}
use Rattle.token_forms.specs.Tokens.{Token}
use Rattle.def_syntax.specs.Frames.{is_end, start_of}
use Rattle.def_syntax.specs.Reading.{outline_turn, outline_from, read_turn, read_from}
use Rattle.def_syntax.specs.declared.outline.Outline.{Outline}
use Rattle.def_syntax.specs.declared.found.Found.{Found}

-- the outline, statement by statement
pub outline_ends : (o : Outline) (s : List Token) (ss rest : List (List Token)) → ss ≡ s ∷ rest → is_end (codes "DESIGN") s ≡ true → Some o ≡ outline_from o ss
unfolding outline_from
outline_ends o s ss rest is end = rw (is, end) refl

pub outline_goes_on : (o : Outline) (s : List Token) (ss rest : List (List Token)) → ss ≡ s ∷ rest → is_end (codes "DESIGN") s ≡ false → outline_from (outline_turn o s) rest ≡ outline_from o ss
unfolding outline_from
outline_goes_on o s ss rest is end = rw (is, end) refl

pub outline_none : (o : Outline) (ss : List (List Token)) → ss ≡ [] → None ≡ outline_from o ss
unfolding outline_from
outline_none o ss is = rw is refl

-- what is read, statement by statement
module _ (text : List ℕ) (unclosed : Option ℕ) (found : Found) (s : List Token) (ss rest : List (List Token)) where
  pub read_ends : ss ≡ s ∷ rest → is_end (codes "DESIGN") s ≡ true → read_from text unclosed found ss ≡ Ok found
  unfolding read_from
  read_ends is end = rw (is, end) refl

  pub read_goes_on : (next : Found) → ss ≡ s ∷ rest → is_end (codes "DESIGN") s ≡ false → read_turn text unclosed found s ≡ Some next → read_from text unclosed next rest ≡ read_from text unclosed found ss
  unfolding read_from
  read_goes_on next is end turn = rw (is, end, turn) refl

  pub read_stops : ss ≡ s ∷ rest → is_end (codes "DESIGN") s ≡ false → read_turn text unclosed found s ≡ None → read_from text unclosed found ss ≡ Err (start_of s)
  unfolding read_from
  read_stops is end turn = rw (is, end, turn) refl

pub read_none : (text : List ℕ) (unclosed : Option ℕ) (found : Found) (ss : List (List Token)) → ss ≡ [] → read_from text unclosed found ss ≡ Ok found
unfolding read_from
read_none text unclosed found ss is = rw is refl
