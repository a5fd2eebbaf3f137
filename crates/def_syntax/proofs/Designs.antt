-- What is read of a text is what it is, or its first fault.
use Rattle.std.proofs.Common.{◌≡◌, ◌≤◌, ℕ, Bool, true, false, ◌||◌, is_some, if◌then◌else◌, List, [], ◌∷◌, ◌++◌, Option, Some, None, Result, Ok, Err, refl, sym, ap, ◌∙◌, subst, append-nil, arith, codes}
use Rattle.std.specs.List.{list_any, AllByRecursion as Each}
use Rattle.std.proofs.lemmas.Grind.{flat_map-append}
use Rattle.token_forms.specs.Tokens.{Token}
use Rattle.def_syntax.specs.Grammar.{units}
use Rattle.def_syntax.specs.Frames.{word_of, opened_by, is_end, Block, Outside, Section, Begun, Frame, outside_of, outside, start_of}
use Rattle.def_syntax.specs.Designs.{NoneCloses, HasNoForm}
use Rattle.def_syntax.specs.Reading.{statement_of, fresh_outline, outline_outside, outline_by, outline_turn, outline_from, unclosed_of, read_turn, or_place, read_from}
use Rattle.def_syntax.specs.declared.frame.SectionKind.{SectionKind}
use Rattle.def_syntax.specs.declared.outline.Outline.{Outline}
use Rattle.def_syntax.specs.declared.found.Found.{Found}
use Rattle.def_syntax.proofs.Lawful.{units_statement}
use Rattle.def_syntax.proofs.FrameLaws.{step_out, step_in, step_by, step, steps}
use Rattle.def_syntax.proofs.ReadTurns.{value_none, none_value, FoundIs, TurnFault, turn_is, turn_refuses, Next}

-- the statements up to the first END DESIGN
pub data Cut (ss : List (List Token)) : Type 0 where
  IsOpen : NoneCloses ss → Cut ss
  IsCut : (body behind : List (List Token)) (end : List Token) → ss ≡ body ++ end ∷ behind → is_end (codes "DESIGN") end ≡ true → NoneCloses body → Cut ss

more_cut : (s : List Token) (ss : List (List Token)) (b : Bool) → is_end (codes "DESIGN") s ≡ b → Cut ss → Cut (s ∷ ss)
more_cut s ss true e more = IsCut [] ss s refl e tt
more_cut s ss false e (IsOpen none) = IsOpen (e, none)
more_cut s ss false e (IsCut body behind end is ends none) = IsCut (s ∷ body) behind end (ap (λ (l : List (List Token)). s ∷ l) is) ends (e, none)

pub cut_of : (ss : List (List Token)) → Cut ss
cut_of [] = IsOpen tt
cut_of (s ∷ ss) = more_cut s ss (is_end (codes "DESIGN") s) refl (cut_of ss)

-- the statements of a body, none of which is END DESIGN
unfoldable pub read_body : List ℕ → Option ℕ → Found → List (List Token) → Result Found ℕ
read_body text unclosed found [] = Ok found
read_body text unclosed found (s ∷ ss) = or_place (read_turn text unclosed found s) (start_of s) (λ next. read_body text unclosed next ss)

same_place : {A B : Type 0} (o : Option A) (at : ℕ) (f g : A → Result B ℕ) → ((x : A) → f x ≡ g x) → or_place o at f ≡ or_place o at g
same_place None at f g e = refl
same_place (Some x) at f g e = e x

pub body_read : (text : List ℕ) (unclosed : Option ℕ) (found : Found) (body behind : List (List Token)) (end : List Token) → NoneCloses body → is_end (codes "DESIGN") end ≡ true
    → read_from text unclosed found (body ++ end ∷ behind) ≡ read_body text unclosed found body
unfolding read_from read_body
body_read text unclosed found [] behind end none ends = rw ends refl
body_read text unclosed found (s ∷ body) behind end none ends =
    rw (none.0) (same_place (read_turn text unclosed found s) (start_of s) _ _ (λ next. body_read text unclosed next body behind end none.1 ends))

pub outlines : Outline → List (List Token) → Outline
outlines o [] = o
outlines o (s ∷ ss) = outlines (outline_turn o s) ss

pub body_outline : (o : Outline) (body behind : List (List Token)) (end : List Token) → NoneCloses body → is_end (codes "DESIGN") end ≡ true → outline_from o (body ++ end ∷ behind) ≡ Some (outlines o body)
unfolding outline_from outlines
body_outline o [] behind end none ends = rw ends refl
body_outline o (s ∷ body) behind end none ends = rw (none.0) (body_outline (outline_turn o s) body behind end none.1 ends)

pub open_outline : (o : Outline) (ss : List (List Token)) → NoneCloses ss → outline_from o ss ≡ None
unfolding outline_from
open_outline o [] none = refl
open_outline o (s ∷ ss) none = rw (none.0) (open_outline (outline_turn o s) ss none.1)

-- what the outline says of the blocks
abbrev pub kind_of : Option Begun → Option SectionKind
kind_of None = None
kind_of (Some b) = Some b.kind

abbrev pub StartsAt : Option Begun → ℕ → Type 0
StartsAt None at = Unit {0}
StartsAt (Some b) at = at ≡ start_of b.first

abbrev pub is_units : List Token → Bool
is_units s = is_some (statement_of units s)

pub record OutlineIs (bs : List Block) (g : Option Begun) (o : Outline) : Type 0 where
  pub section : o.section ≡ kind_of g
  pub start : StartsAt g o.start
  pub units : o.units ≡ list_any is_units (outside bs)

any_more : (p : List Token → Bool) (ss : List (List Token)) (s : List Token) → list_any p (ss ++ s ∷ []) ≡ (list_any p ss || p s)
any_more p [] s = left (p s)
  where
    left : (b : Bool) → (b || false) ≡ b
    left true = refl
    left false = refl
any_more p (u ∷ us) s = more (p u) (any_more p us s)
  where
    more : (b : Bool) → list_any p (us ++ s ∷ []) ≡ (list_any p us || p s) → (b || list_any p (us ++ s ∷ [])) ≡ ((b || list_any p us) || p s)
    more true e = refl
    more false e = e

module _ (bs : List Block) (s : List Token) where
  out_is : (o : Outline) (k : Option SectionKind) → OutlineIs bs None o → let f = step_out bs k s in OutlineIs f.blocks f.begun (outline_outside o k s)
  out_is o None h = record {
    section = h.section;
    start = tt;
    units = ap (λ (b : Bool). b || is_units s) h.units ∙ sym (ap (list_any is_units) (flat_map-append outside_of bs (Outside s ∷ [])) ∙ any_more is_units (outside bs) s);
  }
  out_is o (Some kind) h = record { section = refl; start = refl; units = h.units }

  in_is : (o : Outline) (b : Begun) (e : Bool) → OutlineIs bs (Some b) o → let f = step_in bs b e s in OutlineIs f.blocks f.begun (if e then record o { section = None } else o)
  in_is o b true h = record {
    section = refl;
    start = tt;
    units = h.units ∙ sym (ap (list_any is_units) (flat_map-append outside_of bs (Section b.kind b.first b.inner s ∷ []) ∙ append-nil (outside bs)));
  }
  in_is o b false h = record { section = h.section; start = h.start; units = h.units }

  by_is : (o : Outline) (g : Option Begun) → OutlineIs bs g o → let f = step_by bs g s in OutlineIs f.blocks f.begun (outline_by o (kind_of g) s)
  by_is o None h = out_is o (opened_by s) h
  by_is o (Some b) h = in_is o b (is_end (word_of b.kind) s) h

  outline_is : (o : Outline) (g : Option Begun) → OutlineIs bs g o → let f = step_by bs g s in OutlineIs f.blocks f.begun (outline_turn o s)
  unfolding outline_turn
  outline_is o g h = let f = step_by bs g s in subst (λ (k : Option SectionKind). OutlineIs f.blocks f.begun (outline_by o k s)) (sym h.section) (by_is o g h)

pub outlines_are : (f : Frame) (o : Outline) (ss : List (List Token)) → OutlineIs f.blocks f.begun o → let g = steps f ss in OutlineIs g.blocks g.begun (outlines o ss)
unfolding outlines
outlines_are f o [] h = h
outlines_are f o (s ∷ ss) h = outlines_are (step f s) (outline_turn o s) ss (outline_is f.blocks s o f.begun h)

pub fresh_is : OutlineIs [] None fresh_outline
fresh_is = record { section = refl; start = tt; units = refl }

-- the place of a section that isn't closed
abbrev pub place_of_begun : Option Begun → Option ℕ
place_of_begun None = None
place_of_begun (Some b) = Some (start_of b.first)

pub unclosed_is : (bs : List Block) (g : Option Begun) (o : Outline) → OutlineIs bs g o → unclosed_of o ≡ place_of_begun g
unclosed_is bs None o h = rw (h.section) refl
unclosed_is bs (Some b) o h = rw (h.section, h.start) refl

pub no_units : (ss : List (List Token)) → list_any is_units ss ≡ false → Each (HasNoForm units) ss
no_units [] e = tt
no_units (s ∷ ss) e = (none (statement_of units s) refl, no_units ss (rest (is_units s) e))
  where
    first : (b c : Bool) → (b || c) ≡ false → b ≡ false
    first true c e = absurd cc
    first false c e = refl

    rest : (b : Bool) → (b || list_any is_units ss) ≡ false → list_any is_units ss ≡ false
    rest true e = absurd cc
    rest false e = e

    none : (o : Option _) → statement_of units s ≡ o → HasNoForm units s
    none None n = value_none units units_statement s n
    none (Some x) n = let k = first (is_units s) (list_any is_units ss) e in let m : is_units s ≡ true = rw n refl in absurd cc

pub some_units : (ss : List (List Token)) → list_any is_units ss ≡ true → Each (HasNoForm units) ss → ⊥
some_units [] e none = absurd cc
some_units (s ∷ ss) e none = some_units ss (rest (is_units s) here e) none.1
  where
    here : is_units s ≡ false
    here = rw (none_value units units_statement s none.0) refl

    rest : (b : Bool) → b ≡ false → (b || list_any is_units ss) ≡ true → list_any is_units ss ≡ true
    rest true n e = absurd cc
    rest false n e = e

-- the first statements of a list begin before the others
abbrev pub Rising : List (List Token) → Type 0
Rising [] = Unit {0}
Rising (s ∷ ss) = Each (λ u. start_of s ≤ start_of u) ss × Rising ss

-- where what is read ends: nowhere, or at a statement that isn't read
pub data Ends (text : List ℕ) (unclosed : Option ℕ) (f : Frame) (ss : List (List Token)) : Result Found ℕ → Type 0 where
  AtEnd : (found : Found) → (let g = steps f ss in FoundIs text g.blocks g.begun found) → Ends text unclosed f ss (Ok found)
  AtStop : (front rest : List (List Token)) (s : List Token) → ss ≡ front ++ s ∷ rest → (let g = steps f front in TurnFault unclosed g.blocks g.begun s) → Ends text unclosed f ss (Err (start_of s))

-- a fault stands no earlier
abbrev pub NoEarlier : Result Found ℕ → ℕ → Type 0
NoEarlier (Ok found) at = ⊥
NoEarlier (Err place) at = place ≤ at

pub each_at : (P : List Token → Type 0) (front rest : List (List Token)) (s : List Token) → Each P (front ++ s ∷ rest) → P s
each_at P [] rest s e = e.0
each_at P (u ∷ front) rest s e = each_at P front rest s e.1

module _ (text : List ℕ) (unclosed : Option ℕ) where
  ends_more : (f : Frame) (s : List Token) (ss : List (List Token)) (r : Result Found ℕ) → Ends text unclosed (step f s) ss r → Ends text unclosed f (s ∷ ss) r
  ends_more f s ss r (AtEnd found h) = AtEnd found h
  ends_more f s ss r (AtStop front rest u is fault) = AtStop (s ∷ front) rest u (ap (λ (l : List (List Token)). s ∷ l) is) fault

  pub ends_of : (f : Frame) (found : Found) (ss : List (List Token)) → FoundIs text f.blocks f.begun found → Ends text unclosed f ss (read_body text unclosed found ss)
  unfolding read_body Next
  ends_of f found [] h = AtEnd found h
  ends_of f found (s ∷ ss) h = turn (read_turn text unclosed found s) (turn_is text unclosed f.blocks s found f.begun h) (λ next k. ends_of (step f s) next ss k)
    where
      turn : (o : Option Found) → Next text unclosed f.blocks s (step f s) f.begun o
          → ((next : Found) → (let g = step f s in FoundIs text g.blocks g.begun next) → Ends text unclosed (step f s) ss (read_body text unclosed next ss))
          → Ends text unclosed f (s ∷ ss) (or_place o (start_of s) (λ next. read_body text unclosed next ss))
      turn None fault later = AtStop [] ss s refl fault
      turn (Some next) k later = ends_more f s ss (read_body text unclosed next ss) (later next k)

  -- no fault of a turn stands before the one that is answered
  pub no_earlier : (f : Frame) (found : Found) (front rest : List (List Token)) (s : List Token) → FoundIs text f.blocks f.begun found → Rising (front ++ s ∷ rest) → (let g = steps f front in TurnFault unclosed g.blocks g.begun s)
      → NoEarlier (read_body text unclosed found (front ++ s ∷ rest)) (start_of s)
  unfolding read_body Next
  no_earlier f found [] rest s h up fault = rw (turn_refuses text unclosed f.blocks s found f.begun h fault) (omega arith)
  no_earlier f found (u ∷ front) rest s h up fault =
      turn (read_turn text unclosed found u) (turn_is text unclosed f.blocks u found f.begun h) (λ next k. no_earlier (step f u) next front rest s k up.1 fault)
    where
      turn : (o : Option Found) → Next text unclosed f.blocks u (step f u) f.begun o
          → ((next : Found) → (let g = step f u in FoundIs text g.blocks g.begun next) → NoEarlier (read_body text unclosed next (front ++ s ∷ rest)) (start_of s))
          → NoEarlier (or_place o (start_of u) (λ next. read_body text unclosed next (front ++ s ∷ rest))) (start_of s)
      turn None k later = each_at (λ v. start_of u ≤ start_of v) front rest s up.0
      turn (Some next) k later = later next k
