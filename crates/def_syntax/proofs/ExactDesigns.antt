-- What is read of a text is its value and no other, or its first fault.
use Rattle.std.proofs.Common.{◌≡◌, ◌≤◌, ◌==◌, ℕ, Bool, true, false, if◌then◌else◌, List, [], ◌∷◌, ◌++◌, Option, Some, None, is_some, option_map, Result, Ok, Err, refl, sym, ap, ◌∙◌, subst, append-nil, arith, codes}
use Rattle.std.specs.List.{flat_map, list_any, AllByRecursion as Each}
use Rattle.std.proofs.lemmas.Bool.{eqb-true}
use Rattle.std.proofs.lemmas.Option.{option_and_then_some}
use Rattle.base_types.specs.declared.fault.ReadFault.{ReadFault}
use Rattle.base_types.proofs.TruthValues.{not_both}
use Rattle.base_types.specs.declared.fault.ReadFault.TheVariants as faults
use Rattle.token_forms.specs.Tokens.{Token}
use Rattle.token_forms.specs.Parsing.{◌>>=◌}
use Rattle.def_syntax.specs.Grammar.{units, component, design_pin, net, chain}
use Rattle.def_syntax.specs.Frames.{is_end, Block, Begun, Frame, IsFrame, statements_in, outside, within, start_of}
use Rattle.def_syntax.specs.Designs.{statements_of, NoneCloses, IsBody, AreLocated, HasNoForm, IsOnly, section_in, IsDesignText, StandsBehind, StandsAt, NoEnd, NoUnits, Unclosed, NoHead, NoForm, Second, IsExactDesign}
use Rattle.def_syntax.specs.AtOnce.{without_components, closed_design, read_wanted, read_at_once}
use Rattle.def_syntax.specs.Reading.{design_of, fresh_outline, outline_from, unclosed_of, is_unclosed, fresh_found, read_from, or_place, with_design, read_outlined, read_design, Reads}
use Rattle.def_syntax.specs.declared.frame.SectionKind.{SectionKind}
use Rattle.def_syntax.specs.declared.frame.SectionKind.TheVariants.{Components, Pins, Nets, ScanChains}
use Rattle.def_syntax.specs.declared.units.Units.{Units}
use Rattle.def_syntax.specs.declared.outline.Outline.{Outline}
use Rattle.def_syntax.specs.declared.design.Located.{Located}
use Rattle.def_syntax.specs.declared.design.DesignText.{DesignText}
use Rattle.def_syntax.specs.declared.found.Opened.{Opened}
use Rattle.def_syntax.specs.declared.found.Found.{Found}
use Rattle.def_syntax.proofs.Lawful.{component_statement, pin_statement, net_statement, chain_statement}
use Rattle.def_syntax.proofs.FrameLaws.{steps, no_blocks, frame_of, one_frame, steps_append}
use Rattle.def_syntax.proofs.ReadTurns.{FoundIs, TurnFault, Head, Left, Inside, Again, UnitsAre, opened_of, inside_of}
use Rattle.def_syntax.proofs.Designs.{Cut, IsOpen, IsCut, cut_of, read_body, body_read, outlines, body_outline, open_outline, OutlineIs, outlines_are, fresh_is, place_of_begun, unclosed_is, is_units, no_units, some_units, Rising, Ends, AtEnd, AtStop, NoEarlier, ends_of, each_at, no_earlier}
use Rattle.def_syntax.proofs.AtOnce.{spared, wanted_open, wanted_body, spared_body}
use Rattle.def_syntax.proofs.Places.{rising_statements, rising_front}
use Rattle.def_syntax.proofs.Sole.{same_cut, same_located, only_one, Good, good_design, good_before, no_fault}

-- values with the same parts
same_design : (a b : DesignText) → a.units ≡ b.units → a.components ≡ b.components → a.pins ≡ b.pins → a.nets ≡ b.nets → a.chains ≡ b.chains → a.sections ≡ b.sections → a ≡ b
same_design a b u c p n h s =
    ap (λ (v : _). record { units = v; components = a.components; pins = a.pins; nets = a.nets; chains = a.chains; sections = a.sections }) u
    ∙ ap (λ (v : _). record { units = b.units; components = v; pins = a.pins; nets = a.nets; chains = a.chains; sections = a.sections }) c
    ∙ ap (λ (v : _). record { units = b.units; components = b.components; pins = v; nets = a.nets; chains = a.chains; sections = a.sections }) p
    ∙ ap (λ (v : _). record { units = b.units; components = b.components; pins = b.pins; nets = v; chains = a.chains; sections = a.sections }) n
    ∙ ap (λ (v : _). record { units = b.units; components = b.components; pins = b.pins; nets = b.nets; chains = v; sections = a.sections }) h
    ∙ ap (λ (v : _). record { units = b.units; components = b.components; pins = b.pins; nets = b.nets; chains = b.chains; sections = v }) s

fresh_found_is : (text : List ℕ) → FoundIs text [] None fresh_found
fresh_found_is text = record { section = refl; heads = tt; head = tt; units = tt; components = tt; pins = tt; nets = tt; chains = tt; sections = refl }

-- what is exact of a place
abbrev ExactPlace : List ℕ → Result DesignText ℕ → Type 0
ExactPlace text (Ok d) = IsDesignText text d × ((e : DesignText) → IsDesignText text e → e ≡ d) × ((at : ℕ) → StandsAt text at → ⊥)
ExactPlace text (Err at) = StandsAt text at × ((other : ℕ) → StandsAt text other → at ≤ other) × ((d : DesignText) → IsDesignText text d → ⊥)

-- no END DESIGN stands in the text
open_text : (text : List ℕ) → NoneCloses (statements_of text) → ExactPlace text (Err 0)
open_text text none =
    (NoEnd none refl, (λ other st. omega arith), λ d h. not_both (is_end (codes "DESIGN") h.closed.end) h.closed.ends (each_at (λ s. is_end (codes "DESIGN") s ≡ false) h.body h.closed.behind h.closed.end (subst NoneCloses h.closed.is none)))

module _ (text : List ℕ) (body : List (List Token)) (b : IsBody text body) where
  g : Frame
  g = steps no_blocks body

  framed : IsFrame g body
  unfolding g
  framed = frame_of body

  unclosed : Option ℕ
  unclosed = place_of_begun g.begun

  same_body : (other : List (List Token)) → IsBody text other → other ≡ body
  same_body other c = same_cut other body c.behind b.behind c.end b.end (sym c.is ∙ b.is) c.first b.first c.ends b.ends

  same_frame : (f : Frame) (other : List (List Token)) → IsBody text other → IsFrame f other → g ≡ f
  unfolding g
  same_frame f other c h = one_frame f body (subst (IsFrame f) (same_body other c) h)

  rising : Rising body
  rising = rising_front body (b.end ∷ b.behind) (subst Rising b.is (rising_statements text))

  -- a fault at a statement isn't earlier than what is answered
  at_statement : (f : Frame) (front rest : List (List Token)) (s : List Token) → IsBody text (front ++ s ∷ rest) → IsFrame f front → TurnFault unclosed f.blocks f.begun s → NoEarlier (read_body text unclosed fresh_found body) (start_of s)
  at_statement f front rest s c h fault =
      let is = same_body (front ++ s ∷ rest) c in
      subst (λ (l : List (List Token)). NoEarlier (read_body text unclosed fresh_found l) (start_of s)) is
      (no_earlier text unclosed no_blocks fresh_found front rest s (fresh_found_is text) (subst Rising (sym is) rising)
      (subst (λ (f : Frame). TurnFault unclosed f.blocks f.begun s) (sym (one_frame f front h)) fault))

  -- the section that isn't closed begins where its first statement does
  at_open : (blocks : List Block) (begun : Begun) → IsFrame (record { blocks = blocks; begun = Some begun }) body → NoEarlier (read_body text unclosed fresh_found body) (start_of begun.first)
  unfolding unclosed g
  at_open blocks begun h =
      let front = flat_map statements_in blocks in
      let same : unclosed ≡ Some (start_of begun.first) = ap (λ (f : Frame). place_of_begun f.begun) (one_frame (record { blocks = blocks; begun = Some begun }) body h) in
      at_statement (record { blocks = blocks; begun = None }) front begun.inner begun.first (subst (IsBody text) h.is b) (record { blocks = h.blocks; begun = tt; is = sym (append-nil front) })
      (Left begun.kind refl h.begun.0 (ap (λ (o : Option ℕ). is_unclosed o (start_of begun.first)) same ∙ itself (start_of begun.first)))
    where
      itself : (n : ℕ) → (n == n) ≡ true
      itself n = grind arith

  module _ (has : list_any is_units (outside g.blocks) ≡ true) where
    meets : (at : ℕ) → StandsAt text at → NoEarlier (read_body text unclosed fresh_found body) at
    meets at (NoEnd none e) = absurd (not_both (is_end (codes "DESIGN") b.end) b.ends (each_at (λ s. is_end (codes "DESIGN") s ≡ false) body b.behind b.end (subst NoneCloses b.is none)))
    meets at (NoUnits w e) = absurd (some_units (outside g.blocks) has (subst (λ (f : Frame). Each (HasNoForm units) (outside f.blocks)) (sym (same_frame w.frame w.body w.closed w.framed)) w.none))
    meets at (Unclosed s w e) =
        rw (e, sym (ap start_of w.first)) (at_open w.blocks w.begun (subst (IsFrame (record { blocks = w.blocks; begun = Some w.begun })) (same_body w.body w.closed) w.framed))
    meets at (NoHead s w e) = rw e (at_statement (record { blocks = w.blocks; begun = None }) w.stands.front w.stands.rest s w.stands.closed w.stands.framed (Head w.kind refl w.opens w.none))
    meets at (NoForm s w e) = rw e (at_statement (record { blocks = w.blocks; begun = Some w.begun }) w.stands.front w.stands.rest s w.stands.closed w.stands.framed (Inside w.begun refl w.inside w.none))
    meets at (Second s w e) = rw e (at_statement (record { blocks = w.blocks; begun = None }) w.stands.front w.stands.rest s w.stands.closed w.stands.framed (Again refl w.opens (w.here.0) (w.here.1) w.before))

  -- the fault at which reading stops
  module _ (front rest : List (List Token)) (s : List Token) (is : body ≡ front ++ s ∷ rest) where
    f : Frame
    f = steps no_blocks front

    behind_blocks : (h : Option Begun) → f.begun ≡ h → StandsBehind text (record { blocks = f.blocks; begun = h }) s
    unfolding f
    behind_blocks h e = record { front = front; rest = rest; closed = subst (IsBody text) is b; framed = subst (λ (h : Option Begun). IsFrame (record { blocks = f.blocks; begun = h }) front) e (frame_of front) }

    left_open : (h : Option Begun) → g.begun ≡ h → is_unclosed (place_of_begun h) (start_of s) ≡ true → StandsAt text (start_of s)
    left_open None e left = absurd cc
    left_open (Some c) e left =
        Unclosed c.first (record { body = body; blocks = g.blocks; begun = c; closed = b; framed = subst (λ (h : Option Begun). IsFrame (record { blocks = g.blocks; begun = h }) body) e framed; first = refl })
        (eqb-true (start_of s) (start_of c.first) left)

    stops : TurnFault unclosed f.blocks f.begun s → StandsAt text (start_of s)
    unfolding unclosed
    stops (Head kind e opens none) = NoHead s (record { blocks = f.blocks; kind = kind; stands = behind_blocks None e; opens = opens; none = none }) refl
    stops (Left kind e opens left) = left_open g.begun refl left
    stops (Inside c e here none) = NoForm s (record { blocks = f.blocks; begun = c; stands = behind_blocks (Some c) e; inside = here; none = none }) refl
    stops (Again e opens v spelled some) = Second s (record { blocks = f.blocks; stands = behind_blocks None e; opens = opens; here = (v, spelled); before = some }) refl

    no_design : TurnFault unclosed f.blocks f.begun s → (d : DesignText) → IsDesignText text d → ⊥
    unfolding unclosed f g
    no_design fault d h =
        let whole : Frame = record { blocks = h.blocks; begun = None } in
        let same : g ≡ whole = same_frame whole h.body h.closed h.framed in
        let all : steps f (s ∷ rest) ≡ whole = sym (steps_append no_blocks front (s ∷ rest)) ∙ ap (steps no_blocks) (sym is) ∙ same in
        let none : unclosed ≡ None = ap (λ (f : Frame). place_of_begun f.begun) same in
        no_fault text f s rest d.units (good_before f s rest (subst Good (sym all) (good_design text d h))) (subst (λ (u : Option ℕ). TurnFault u f.blocks f.begun s) none fault)
        (subst (λ (f : Frame). IsOnly units text (outside f.blocks) d.units) (sym all) h.units)

  -- the value that is read
  module _ (has : list_any is_units (outside g.blocks) ≡ true) (found : Found) (k : FoundIs text g.blocks g.begun found) (none : g.begun ≡ None) (x : Located Units) (e : found.units ≡ Some x) where
    d : DesignText
    d = record { units = x; components = found.components; pins = found.pins; nets = found.nets; chains = found.chains; sections = found.sections }

    only : IsOnly units text (outside g.blocks) x
    only = subst (UnitsAre text (outside g.blocks)) e k.units

    all_inside : (kind : SectionKind) → inside_of kind g.blocks g.begun ≡ within kind g.blocks
    all_inside kind = ap (inside_of kind g.blocks) none ∙ append-nil (within kind g.blocks)

    components : AreLocated component text (within Components g.blocks) found.components
    components = subst (λ (l : List (List Token)). AreLocated component text l found.components) (all_inside Components) k.components

    pins : AreLocated design_pin text (within Pins g.blocks) found.pins
    pins = subst (λ (l : List (List Token)). AreLocated design_pin text l found.pins) (all_inside Pins) k.pins

    nets : AreLocated net text (within Nets g.blocks) found.nets
    nets = subst (λ (l : List (List Token)). AreLocated net text l found.nets) (all_inside Nets) k.nets

    chains : AreLocated chain text (within ScanChains g.blocks) found.chains
    chains = subst (λ (l : List (List Token)). AreLocated chain text l found.chains) (all_inside ScanChains) k.chains

    is_design : IsDesignText text d
    unfolding d
    is_design = record {
      body = body;
      closed = b;
      blocks = g.blocks;
      framed = subst (λ (h : Option Begun). IsFrame (record { blocks = g.blocks; begun = h }) body) none framed;
      heads = k.heads;
      units = only;
      components = components;
      pins = pins;
      nets = nets;
      chains = chains;
      sections = k.sections;
    }

    sole : (other : DesignText) → IsDesignText text other → other ≡ d
    unfolding d
    sole other h =
        let same : h.blocks ≡ g.blocks = sym (ap (λ (f : Frame). f.blocks) (same_frame (record { blocks = h.blocks; begun = None }) h.body h.closed h.framed)) in
        same_design other d
        (only_one text (outside g.blocks) other.units x (subst (λ (bs : List Block). IsOnly units text (outside bs) other.units) same h.units) only)
        (same_located component component_statement text (within Components g.blocks) other.components found.components (subst (λ (bs : List Block). AreLocated component text (within Components bs) other.components) same h.components) components)
        (same_located design_pin pin_statement text (within Pins g.blocks) other.pins found.pins (subst (λ (bs : List Block). AreLocated design_pin text (within Pins bs) other.pins) same h.pins) pins)
        (same_located net net_statement text (within Nets g.blocks) other.nets found.nets (subst (λ (bs : List Block). AreLocated net text (within Nets bs) other.nets) same h.nets) nets)
        (same_located chain chain_statement text (within ScanChains g.blocks) other.chains found.chains (subst (λ (bs : List Block). AreLocated chain text (within ScanChains bs) other.chains) same h.chains) chains)
        (h.sections ∙ ap (flat_map (section_in text)) same ∙ sym k.sections)

  module _ (has : list_any is_units (outside g.blocks) ≡ true) where
    -- where the statements are read to their end
    none_open : (found : Found) → read_body text unclosed fresh_found body ≡ Ok found → (h : Option Begun) → g.begun ≡ h → h ≡ None
    none_open found e None is = refl
    none_open found e (Some c) is =
        absurd (subst (λ (r : Result Found ℕ). NoEarlier r (start_of c.first)) e (at_open g.blocks c (subst (λ (h : Option Begun). IsFrame (record { blocks = g.blocks; begun = h }) body) is framed)))

    with_units : (found : Found) → read_body text unclosed fresh_found body ≡ Ok found → FoundIs text g.blocks g.begun found → (u : Option (Located Units)) → found.units ≡ u
        → ExactPlace text (or_place (u >>= λ units. Some (record { units = units; components = found.components; pins = found.pins; nets = found.nets; chains = found.chains; sections = found.sections })) 0 (λ (d : DesignText). Ok d))
    unfolding d
    with_units found e k None is = absurd (some_units (outside g.blocks) has (subst (UnitsAre text (outside g.blocks)) is k.units))
    with_units found e k (Some x) is =
        let none = none_open found e g.begun refl in
        (is_design has found k none x is, sole has found k none x is, λ at st. subst (λ (r : Result Found ℕ). NoEarlier r at) e (meets has at st))

    exact_end : (r : Result Found ℕ) → read_body text unclosed fresh_found body ≡ r → Ends text unclosed no_blocks body r → ExactPlace text (with_design r)
    unfolding g f
    exact_end r e (AtEnd found k) = with_units found e k found.units refl
    exact_end r e (AtStop front rest s is fault) =
        (stops front rest s is fault, (λ other st. subst (λ (r : Result Found ℕ). NoEarlier r other) e (meets has other st)), no_design front rest s is fault)

-- a text with its END DESIGN
module _ (text : List ℕ) (body behind : List (List Token)) (end : List Token) (is : statements_of text ≡ body ++ end ∷ behind) (ends : is_end (codes "DESIGN") end ≡ true) (none : NoneCloses body) where
  b : IsBody text body
  b = record { end = end; behind = behind; is = is; ends = ends; first = none }

  o : Outline
  o = outlines fresh_outline body

  found_outline : OutlineIs (g text body b).blocks (g text body b).begun o
  unfolding o g
  found_outline = outlines_are no_blocks fresh_outline body fresh_is

  without_units : o.units ≡ false → ExactPlace text (Err 0)
  without_units e =
      let none = no_units (outside (g text body b).blocks) (sym found_outline.units ∙ e) in (
        NoUnits (record { body = body; frame = g text body b; closed = b; framed = framed text body b; none = none }) refl,
        (λ other st. omega arith),
        λ d h. let all = subst (λ (f : Frame). Each (HasNoForm units) (outside f.blocks)) (same_frame text body b (record { blocks = h.blocks; begun = None }) h.body h.closed h.framed) none in
            each_at (HasNoForm units) h.units.front h.units.behind h.units.statement (subst (Each (HasNoForm units)) h.units.is all) d.units.statement h.units.located.spelled,
      )

  same_read : read_from text (unclosed_of o) fresh_found (statements_of text) ≡ read_body text (unclosed text body b) fresh_found body
  unfolding unclosed
  same_read =
      ap (read_from text (unclosed_of o) fresh_found) is ∙ body_read text (unclosed_of o) fresh_found body behind end none ends
      ∙ ap (λ (u : Option ℕ). read_body text u fresh_found body) (unclosed_is (g text body b).blocks (g text body b).begun o found_outline)

  outlined : (u : Bool) → o.units ≡ u → ExactPlace text (if u then with_design (read_from text (unclosed_of o) fresh_found (statements_of text)) else Err 0)
  outlined false e = without_units e
  outlined true e =
      subst (λ (r : Result Found ℕ). ExactPlace text (with_design r)) (sym same_read)
      (exact_end text body b (sym found_outline.units ∙ e) (read_body text (unclosed text body b) fresh_found body) refl (ends_of text (unclosed text body b) no_blocks fresh_found body (fresh_found_is text)))

  closed_text : ExactPlace text (read_outlined text (outline_from fresh_outline (statements_of text)))
  unfolding o
  closed_text =
      subst (λ (o : Option Outline). ExactPlace text (read_outlined text o)) (sym (ap (outline_from fresh_outline) is ∙ body_outline fresh_outline body behind end none ends)) (outlined o.units refl)

  outline_read : read_outlined text (outline_from fresh_outline (statements_of text)) ≡ (if o.units then with_design (read_from text (unclosed_of o) fresh_found (statements_of text)) else Err 0)
  unfolding o
  outline_read = ap (read_outlined text) (ap (outline_from fresh_outline) is ∙ body_outline fresh_outline body behind end none ends)

  -- what is read in one pass
  module _ (f : Found) (read : read_body text None fresh_found body ≡ Ok f) where
    ended : (r : Result Found ℕ) → r ≡ Ok f → Ends text None no_blocks body r → FoundIs text (g text body b).blocks (g text body b).begun f
    unfolding g
    ended r e (AtEnd x h) = let same : x ≡ f = cc in subst (FoundIs text (steps no_blocks body).blocks (steps no_blocks body).begun) same h
    ended r e (AtStop front rest s at fault) = absurd cc

    found_is : FoundIs text (g text body b).blocks (g text body b).begun f
    found_is = ended (read_body text None fresh_found body) read (ends_of text None no_blocks fresh_found body (fresh_found_is text))

    has_units : (x : Located Units) → f.units ≡ Some x → (u : Bool) → o.units ≡ u → u ≡ true
    has_units x same true e = refl
    has_units x same false e =
        let none = no_units (outside (g text body b).blocks) (sym found_outline.units ∙ e) in
        let only = subst (UnitsAre text (outside (g text body b).blocks)) same found_is.units in
        absurd (each_at (HasNoForm units) only.front only.behind only.statement (subst (Each (HasNoForm units)) only.is none) x.statement only.located.spelled)

    closes : (h : Option Begun) → opened_of text h ≡ None → h ≡ None
    closes None e = refl
    closes (Some c) e = absurd cc

    design_read : (d : DesignText) → f.section ≡ None → design_of f ≡ Some d → read_outlined text (outline_from fresh_outline (statements_of text)) ≡ Ok d
    unfolding unclosed
    design_read d closed e =
        let at_none = ap place_of_begun (closes (g text body b).begun (sym found_is.section ∙ closed)) in
        let same = same_read ∙ ap (λ (u : Option ℕ). read_body text u fresh_found body) at_none ∙ read in
        option_and_then_some _ f.units _ e (λ x u rest.
        outline_read ∙ ap (λ (u : Bool). if u then with_design (read_from text (unclosed_of o) fresh_found (statements_of text)) else Err 0) (has_units x u o.units refl) ∙ ap with_design same
        ∙ ap (λ (q : Option DesignText). or_place q 0 (λ (d : DesignText). Ok d)) e)

    closed_read : (d : DesignText) (s : Option Opened) → f.section ≡ s → (if is_some s then None else design_of f) ≡ Some d → read_outlined text (outline_from fresh_outline (statements_of text)) ≡ Ok d
    closed_read d None same e = design_read d same e
    closed_read d (Some p) same e = absurd cc

    spared_units : (t : DesignText) (u : Option (Located Units))
        → (u >>= λ units. Some (record { units = units; components = f.components; pins = f.pins; nets = f.nets; chains = f.chains; sections = f.sections })) ≡ Some t
        → (u >>= λ units. Some (record { units = units; components = []; pins = f.pins; nets = f.nets; chains = f.chains; sections = f.sections })) ≡ Some (without_components t)
    spared_units t None e = absurd cc
    spared_units t (Some x) e = ap (option_map without_components) e

    spared_read : (t : DesignText) → f.section ≡ None → design_of f ≡ Some t → (read_wanted false text fresh_found (statements_of text) >>= closed_design) ≡ Some (without_components t)
    spared_read t closed e =
        ap (λ (q : Option Found). q >>= closed_design) (ap (read_wanted false text fresh_found) is ∙ spared_body text fresh_found f body behind end none ends read)
        ∙ ap (λ (s : Option Opened). if is_some s then None else design_of (spared f)) closed ∙ spared_units t f.units e

  of_place : (t : DesignText) (q : Option DesignText) → or_place q 0 (λ (d : DesignText). Ok d) ≡ Ok t → q ≡ Some t
  of_place t None e = absurd cc
  of_place t (Some d) e = let same : d ≡ t = cc in ap Some same

  of_result : (t : DesignText) → o.units ≡ true → (r : Result Found ℕ) → read_body text (unclosed text body b) fresh_found body ≡ r → with_design r ≡ Ok t
      → (read_wanted false text fresh_found (statements_of text) >>= closed_design) ≡ Some (without_components t)
  unfolding unclosed
  of_result t has (Err at) read e = absurd cc
  of_result t has (Ok f) read e =
      let none_begun = none_open text body b (sym found_outline.units ∙ has) f read (g text body b).begun refl in
      let read_so = sym (ap (λ (u : Option ℕ). read_body text u fresh_found body) (ap place_of_begun none_begun)) ∙ read in
      spared_read f read_so t ((found_is f read_so).section ∙ ap (opened_of text) none_begun) (of_place t (design_of f) e)

  of_outline : (t : DesignText) (u : Bool) → o.units ≡ u → (if u then with_design (read_from text (unclosed_of o) fresh_found (statements_of text)) else Err 0) ≡ Ok t
      → (read_wanted false text fresh_found (statements_of text) >>= closed_design) ≡ Some (without_components t)
  of_outline t false has e = absurd cc
  of_outline t true has e = of_result t has (read_body text (unclosed text body b) fresh_found body) refl (sym (ap with_design same_read) ∙ e)

exact_place : (text : List ℕ) → ExactPlace text (read_design text)
unfolding read_design
exact_place text = decide (cut_of (statements_of text))
  where
    decide : Cut (statements_of text) → ExactPlace text (read_outlined text (outline_from fresh_outline (statements_of text)))
    decide (IsOpen none) = subst (λ (o : Option Outline). ExactPlace text (read_outlined text o)) (sym (open_outline fresh_outline (statements_of text) none)) (open_text text none)
    decide (IsCut body behind end is ends none) = closed_text text body behind end is ends none

pub exact_design : (text : List ℕ) (result : Result DesignText ReadFault) → Reads text result (read_design text) → IsExactDesign text result
exact_design text (Ok d) e = subst (ExactPlace text) e (exact_place text)
exact_design text (Err (faults.Fault f)) e = let p = subst (ExactPlace text) e.1 (exact_place text) in (record { at = e.0; stands = p.0; least = p.1; is = e.2 }, p.2)
exact_design text (Err faults.NoMemory) e = tt

-- what is read in one pass is what the text is read as
pub at_once_is : (text : List ℕ) (d : DesignText) → read_at_once true text ≡ Some d → read_design text ≡ Ok d
unfolding read_at_once read_design
at_once_is text d e = option_and_then_some _ (read_wanted true text fresh_found (statements_of text)) _ e (λ f read closed. decide f read closed (cut_of (statements_of text)))
  where
    decide : (f : Found) → read_wanted true text fresh_found (statements_of text) ≡ Some f → closed_design f ≡ Some d → Cut (statements_of text) → read_outlined text (outline_from fresh_outline (statements_of text)) ≡ Ok d
    decide f read closed (IsOpen none) = let nothing = wanted_open true text fresh_found (statements_of text) none in absurd cc
    decide f read closed (IsCut body behind end is ends none) =
        closed_read text body behind end is ends none f (wanted_body text fresh_found f body behind end none ends (sym (ap (read_wanted true text fresh_found) is) ∙ read)) d f.section refl closed

-- and so without its components
pub without_is : (text : List ℕ) (t : DesignText) → IsDesignText text t → read_at_once false text ≡ Some (without_components t)
unfolding read_at_once read_design
without_is text t h = decide (cut_of (statements_of text))
  where
    sole : (r : Result DesignText ℕ) → ExactPlace text r → r ≡ Ok t
    sole (Ok d) p = ap Ok (sym (p.1 t h))
    sole (Err at) p = absurd (p.2 t h)

    read : read_outlined text (outline_from fresh_outline (statements_of text)) ≡ Ok t
    read = sole (read_outlined text (outline_from fresh_outline (statements_of text))) (exact_place text)

    decide : Cut (statements_of text) → (read_wanted false text fresh_found (statements_of text) >>= closed_design) ≡ Some (without_components t)
    decide (IsOpen none) = let outlined = open_outline fresh_outline (statements_of text) none in let nothing : read_outlined text None ≡ Ok t = sym (ap (read_outlined text) outlined) ∙ read in absurd cc
    decide (IsCut body behind end is ends none) =
        of_outline text body behind end is ends none t (o text body behind end is ends none).units refl (sym (outline_read text body behind end is ends none) ∙ read)
