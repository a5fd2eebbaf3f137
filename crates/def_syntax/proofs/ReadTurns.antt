-- What is read of statements, statement by statement, is what their frame says.
use Rattle.std.proofs.Common.{◌≡◌, ◌==◌, ℕ, Bool, true, false, ◌&&◌, not, is_some, if◌then◌else◌, List, [], ◌∷◌, ◌++◌, length, Option, Some, None, refl, sym, ap, ◌∙◌, subst, append_assoc, append-nil, arith}
use Rattle.std.specs.Str.{bytes_eq}
use Rattle.std.specs.List.{flat_map, AllByRecursion as Each}
use Rattle.std.proofs.lemmas.Grind.{flat_map-append}
use Rattle.std.proofs.lemmas.Bool.{eqb-true}
use Rattle.std.proofs.lemmas.Option.{option_and_then_some, cond_some}
use Rattle.base_types.specs.Lines.{line_at}
use Rattle.token_forms.specs.Tokens.{Token}
use Rattle.token_forms.specs.Parsing.{◌>>=◌}
use Rattle.token_forms.specs.Forms.{Form}
use Rattle.token_forms.specs.Laws.{IsStatement}
use Rattle.def_syntax.specs.Grammar.{units, component, design_pin, net, chain}
use Rattle.def_syntax.specs.Frames.{word_of, opened_by, is_end, is_head, Block, Outside, Section, Begun, Frame, outside_of, outside, within_block, within, start_of}
use Rattle.def_syntax.specs.Designs.{IsLocated, AreLocated, HasNoForm, IsOnly, BeginsWell, section_in, HasNoFormIn}
use Rattle.def_syntax.specs.Reading.{statement_of, located, is_unclosed, read_units, read_outside, read_inside, closed_by, read_by, read_turn}
use Rattle.def_syntax.specs.declared.units.Units.{Units}
use Rattle.def_syntax.specs.declared.frame.SectionKind.{SectionKind}
use Rattle.def_syntax.specs.declared.frame.SectionKind.TheVariants.{Components, Pins, Nets, ScanChains}
use Rattle.def_syntax.specs.declared.design.Section.{Section as SectionRow}
use Rattle.def_syntax.specs.declared.design.Located.{Located}
use Rattle.def_syntax.specs.declared.found.Opened.{Opened}
use Rattle.def_syntax.specs.declared.found.Found.{Found}
use Rattle.def_syntax.proofs.Lawful.{units_statement, component_statement, pin_statement, net_statement, chain_statement}
use Rattle.def_syntax.proofs.FrameLaws.{each_append, each_behind, step_out, step_in, step_by}

-- the value of a statement, both ways
module _ {X : Type 0} (form : Form X) (st : IsStatement form) where
  nothing_left : (ts : List Token) → (length ts == 0) ≡ true → ts ≡ []
  nothing_left [] e = refl
  nothing_left (t ∷ ts) e = let k = eqb-true (length (t ∷ ts)) 0 e in absurd (omega arith)

  pub value_spelled : (s : List Token) (x : X) → statement_of form s ≡ Some x → form.spells x s
  unfolding statement_of
  value_spelled s x e =
      option_and_then_some _ (form.reads s) _ e (λ p r e.
      let c = cond_some (length p.1 == 0) p.0 _ e in
      let u = st.lawful.spelled s p.0 p.1 r in
      let whole : s ≡ u.front = u.is ∙ ap (λ (l : List Token). u.front ++ l) (nothing_left p.1 c.0) ∙ append-nil u.front in
      subst (λ (y : X). form.spells y s) c.1 (subst (form.spells p.0) (sym whole) u.holds))

  pub value_read : (s : List Token) (x : X) → form.spells x s → statement_of form s ≡ Some x
  unfolding statement_of
  value_read s x h =
      let read : form.reads s ≡ Some (x, []) = sym (ap form.reads (append-nil s)) ∙ st.lawful.read st.clear x s [] h refl in
      rw read refl

  pub value_none : (s : List Token) → statement_of form s ≡ None → HasNoForm form s
  value_none s e x h = let k = value_read s x h in let clash : None ≡ Some x = sym e ∙ k in absurd cc

  pub none_value : (s : List Token) → HasNoForm form s → statement_of form s ≡ None
  none_value s none = decide (statement_of form s) refl
    where
      decide : (o : Option X) → statement_of form s ≡ o → o ≡ None
      decide None e = refl
      decide (Some x) e = absurd (none x (value_spelled s x e))

-- one more value
more_located : {X : Type 0} (form : Form X) (text : List ℕ) (ss : List (List Token)) (xs : List (Located X)) (s : List Token) (x : Located X) → AreLocated form text ss xs → IsLocated form text s x
    → AreLocated form text (ss ++ s ∷ []) (xs ++ x ∷ [])
more_located form text [] [] s x h l = (l, tt)
more_located form text [] (y ∷ ys) s x h l = absurd h
more_located form text (u ∷ us) [] s x h l = absurd h
more_located form text (u ∷ us) (y ∷ ys) s x h l = (h.0, more_located form text us ys s x h.1 l)

abbrev pub opened_of : List ℕ → Option Begun → Option Opened
opened_of text None = None
opened_of text (Some b) = Some (record { kind = b.kind; start = start_of b.first; line = line_at text (start_of b.first) })

abbrev pub within_begun : SectionKind → Option Begun → List (List Token)
within_begun kind None = []
within_begun kind (Some b) = if bytes_eq (word_of kind) (word_of b.kind) then b.inner else []

-- the statements within sections of a kind, also of one that isn't closed
abbrev pub inside_of : SectionKind → List Block → Option Begun → List (List Token)
inside_of kind bs g = within kind bs ++ within_begun kind g

abbrev pub UnitsAre : List ℕ → List (List Token) → Option (Located Units) → Type 0
UnitsAre text ss None = Each (HasNoForm units) ss
UnitsAre text ss (Some x) = IsOnly units text ss x

abbrev pub BegunWell : Option Begun → Type 0
BegunWell None = Unit {0}
BegunWell (Some b) = is_head b.first ≡ true

-- what is found so far is what stands in the blocks
pub record FoundIs (text : List ℕ) (bs : List Block) (g : Option Begun) (found : Found) : Type 0 where
  pub section : found.section ≡ opened_of text g
  pub heads : Each BeginsWell bs
  pub head : BegunWell g
  pub units : UnitsAre text (outside bs) found.units
  pub components : AreLocated component text (inside_of Components bs g) found.components
  pub pins : AreLocated design_pin text (inside_of Pins bs g) found.pins
  pub nets : AreLocated net text (inside_of Nets bs g) found.nets
  pub chains : AreLocated chain text (inside_of ScanChains bs g) found.chains
  pub sections : found.sections ≡ flat_map (section_in text) bs

-- a statement isn't read behind these blocks, where the section at one place isn't closed
pub data TurnFault (unclosed : Option ℕ) (bs : List Block) (g : Option Begun) (s : List Token) : Type 0 where
  Head : (kind : SectionKind) → g ≡ None → opened_by s ≡ Some kind → is_head s ≡ false → TurnFault unclosed bs g s
  Left : (kind : SectionKind) → g ≡ None → opened_by s ≡ Some kind → is_unclosed unclosed (start_of s) ≡ true → TurnFault unclosed bs g s
  Inside : (b : Begun) → g ≡ Some b → is_end (word_of b.kind) s ≡ false → HasNoFormIn b.kind s → TurnFault unclosed bs g s
  Again : g ≡ None → opened_by s ≡ None → (x : Units) → units.spells x s → (Each (HasNoForm units) (outside bs) → ⊥) → TurnFault unclosed bs g s

same_within : (kind : SectionKind) (bs : List Block) (b : Block) (g : Option Begun) → within_block kind b ≡ within_begun kind g → inside_of kind (bs ++ b ∷ []) None ≡ inside_of kind bs g
same_within kind bs b g e =
    append-nil (within kind (bs ++ b ∷ [])) ∙ flat_map-append (within_block kind) bs (b ∷ []) ∙ ap (λ (l : List (List Token)). within kind bs ++ l) (append-nil (within_block kind b) ∙ e)

module _ (text : List ℕ) (unclosed : Option ℕ) (bs : List Block) (s : List Token) where
  -- a block more, which holds nothing more
  more_block : (b : Block) (g : Option Begun) (found next : Found) → FoundIs text bs g found → ((kind : SectionKind) → within_block kind b ≡ within_begun kind g) → BeginsWell b
      → next.section ≡ None → UnitsAre text (outside (bs ++ b ∷ [])) next.units → next.components ≡ found.components → next.pins ≡ found.pins → next.nets ≡ found.nets → next.chains ≡ found.chains
      → next.sections ≡ flat_map (section_in text) (bs ++ b ∷ []) → FoundIs text (bs ++ b ∷ []) None next
  more_block b g found next h same well section us cs ps ns hs rows = record {
    section = section;
    heads = each_append BeginsWell bs (b ∷ []) h.heads (well, tt);
    head = tt;
    units = us;
    components = rw (cs, same_within Components bs b g (same Components)) h.components;
    pins = rw (ps, same_within Pins bs b g (same Pins)) h.pins;
    nets = rw (ns, same_within Nets bs b g (same Nets)) h.nets;
    chains = rw (hs, same_within ScanChains bs b g (same ScanChains)) h.chains;
    sections = rows;
  }

  outside_more : outside (bs ++ Outside s ∷ []) ≡ outside bs ++ s ∷ []
  outside_more = flat_map-append outside_of bs (Outside s ∷ [])

  outside_same : (kind : SectionKind) (first : List Token) (inner : List (List Token)) → outside (bs ++ Section kind first inner s ∷ []) ≡ outside bs
  outside_same kind first inner = flat_map-append outside_of bs (Section kind first inner s ∷ []) ∙ append-nil (outside bs)

  unfoldable pub Next : Frame → Option Begun → Option Found → Type 0
  Next f g None = TurnFault unclosed bs g s
  Next f g (Some next) = FoundIs text f.blocks f.begun next

  units_more : (ss : List (List Token)) (u : Option (Located Units)) → UnitsAre text ss u → HasNoForm units s → UnitsAre text (ss ++ s ∷ []) u
  units_more ss None h none = each_append (HasNoForm units) ss (s ∷ []) h (none, tt)
  units_more ss (Some x) h none = record {
    front = h.front;
    statement = h.statement;
    behind = h.behind ++ s ∷ [];
    is = ap (λ (l : List (List Token)). l ++ s ∷ []) h.is ∙ append_assoc h.front (h.statement ∷ h.behind) (s ∷ []);
    located = h.located;
    others = subst (Each (HasNoForm units)) (append_assoc h.front h.behind (s ∷ [])) (each_append (HasNoForm units) (h.front ++ h.behind) (s ∷ []) h.others (none, tt));
  }

  some_units : (ss : List (List Token)) (x : Located Units) → IsOnly units text ss x → Each (HasNoForm units) ss → ⊥
  some_units ss x h none = (each_behind (HasNoForm units) h.front (h.statement ∷ h.behind) (subst (Each (HasNoForm units)) h.is none)).0 x.statement h.located.spelled

  module _ (found : Found) where
    -- outside sections
    again : FoundIs text bs None found → opened_by s ≡ None → (x : Units) → statement_of units s ≡ Some x → (b : Option (Located Units)) → found.units ≡ b
        → Next (step_out bs None s) None (if is_some b then None else Some (record found { units = Some (located text s x) }))
    unfolding Next
    again h opens x e (Some y) is = Again refl opens x (value_spelled units units_statement s x e) (some_units (outside bs) y (subst (UnitsAre text (outside bs)) is h.units))
    again h opens x e None is =
        let none = subst (UnitsAre text (outside bs)) is h.units in
        let only : IsOnly units text (outside bs ++ s ∷ []) (located text s x) =
        record {
          front = outside bs;
          statement = s;
          behind = [];
          is = refl;
          located = record { spelled = value_spelled units units_statement s x e; span = refl; line = refl };
          others = subst (Each (HasNoForm units)) (sym (append-nil (outside bs))) none;
        }
        in
        more_block (Outside s) None found (record found { units = Some (located text s x) }) h (λ kind. refl) tt h.section (subst (λ (l : List (List Token)). IsOnly units text l (located text s x)) (sym outside_more) only)
        refl refl refl refl (h.sections ∙ sym (flat_map-append (section_in text) bs (Outside s ∷ []) ∙ append-nil (flat_map (section_in text) bs)))

    with_units : FoundIs text bs None found → opened_by s ≡ None → (o : Option Units) → statement_of units s ≡ o → Next (step_out bs None s) None (read_units text found s o)
    unfolding Next
    with_units h opens None e =
        more_block (Outside s) None found found h (λ kind. refl) tt h.section
        (subst (λ (l : List (List Token)). UnitsAre text l found.units) (sym outside_more) (units_more (outside bs) found.units h.units (value_none units units_statement s e)))
        refl refl refl refl (h.sections ∙ sym (flat_map-append (section_in text) bs (Outside s ∷ []) ∙ append-nil (flat_map (section_in text) bs)))
    with_units h opens (Some x) e = again h opens x e found.units refl

    no_inner : (c : Bool) (ss : List (List Token)) → ss ++ [] ≡ ss ++ (if c then [] else [])
    no_inner true ss = refl
    no_inner false ss = refl

    begins : (kind : SectionKind) → FoundIs text bs None found → opened_by s ≡ Some kind → (a : Bool) → is_head s ≡ a → (b : Bool) → is_unclosed unclosed (start_of s) ≡ b
        → Next (step_out bs (Some kind) s) None (if a && not b then Some (record found { section = Some (record { kind = kind; start = start_of s; line = line_at text (start_of s) }) }) else None)
    unfolding Next
    begins kind h opens false ha b hb = Head kind refl opens ha
    begins kind h opens true ha true hb = Left kind refl opens hb
    begins kind h opens true ha false hb = record {
      section = refl;
      heads = h.heads;
      head = ha;
      units = h.units;
      components = subst (λ (l : List (List Token)). AreLocated component text l found.components) (no_inner (bytes_eq (word_of Components) (word_of kind)) (within Components bs)) h.components;
      pins = subst (λ (l : List (List Token)). AreLocated design_pin text l found.pins) (no_inner (bytes_eq (word_of Pins) (word_of kind)) (within Pins bs)) h.pins;
      nets = subst (λ (l : List (List Token)). AreLocated net text l found.nets) (no_inner (bytes_eq (word_of Nets) (word_of kind)) (within Nets bs)) h.nets;
      chains = subst (λ (l : List (List Token)). AreLocated chain text l found.chains) (no_inner (bytes_eq (word_of ScanChains) (word_of kind)) (within ScanChains bs)) h.chains;
      sections = h.sections;
    }

    outside_turn : FoundIs text bs None found → (o : Option SectionKind) → opened_by s ≡ o → Next (step_out bs o s) None (read_outside text unclosed found o s)
    outside_turn h None e = with_units h e (statement_of units s) refl
    outside_turn h (Some kind) e = begins kind h e (is_head s) refl (is_unclosed unclosed (start_of s)) refl

    -- within a section
    module _ (first : List Token) (inner : List (List Token)) where
      abbrev open_in : SectionKind → Option Begun
      open_in kind = Some (record { kind = kind; first = first; inner = inner })

      abbrev Inside_is : SectionKind → Option Found → Type 0
      Inside_is kind r = Next (step_in bs (record { kind = kind; first = first; inner = inner }) false s) (open_in kind) r

      abbrev with_more : {X : Type 0} → Form X → SectionKind → List (Located X) → X → Type 0
      with_more form kind xs x = AreLocated form text (within kind bs ++ (inner ++ s ∷ [])) (xs ++ located text s x ∷ [])

      one_more : {X : Type 0} (form : Form X) (st : IsStatement form) (kind : SectionKind) (xs : List (Located X)) (x : X) → AreLocated form text (within kind bs ++ inner) xs → statement_of form s ≡ Some x → with_more form kind xs x
      one_more form st kind xs x h e =
          subst (λ (l : List (List Token)). AreLocated form text l (xs ++ located text s x ∷ [])) (append_assoc (within kind bs) inner (s ∷ []))
          (more_located form text (within kind bs ++ inner) xs s (located text s x) h (record { spelled = value_spelled form st s x e; span = refl; line = refl }))

      in_components : FoundIs text bs (open_in Components) found → is_end (word_of Components) s ≡ false → (o : Option _) → statement_of component s ≡ o
          → Inside_is Components (o >>= λ x. Some (record found { components = found.components ++ located text s x ∷ [] }))
      unfolding Next
      in_components h e None n = Inside _ refl e (value_none component component_statement s n)
      in_components h e (Some x) n = record { section = h.section; heads = h.heads; head = h.head; units = h.units; components = one_more component component_statement Components found.components x h.components n; pins = h.pins; nets = h.nets; chains = h.chains; sections = h.sections }

      in_pins : FoundIs text bs (open_in Pins) found → is_end (word_of Pins) s ≡ false → (o : Option _) → statement_of design_pin s ≡ o
          → Inside_is Pins (o >>= λ x. Some (record found { pins = found.pins ++ located text s x ∷ [] }))
      unfolding Next
      in_pins h e None n = Inside _ refl e (value_none design_pin pin_statement s n)
      in_pins h e (Some x) n = record { section = h.section; heads = h.heads; head = h.head; units = h.units; components = h.components; pins = one_more design_pin pin_statement Pins found.pins x h.pins n; nets = h.nets; chains = h.chains; sections = h.sections }

      in_nets : FoundIs text bs (open_in Nets) found → is_end (word_of Nets) s ≡ false → (o : Option _) → statement_of net s ≡ o
          → Inside_is Nets (o >>= λ x. Some (record found { nets = found.nets ++ located text s x ∷ [] }))
      unfolding Next
      in_nets h e None n = Inside _ refl e (value_none net net_statement s n)
      in_nets h e (Some x) n = record { section = h.section; heads = h.heads; head = h.head; units = h.units; components = h.components; pins = h.pins; nets = one_more net net_statement Nets found.nets x h.nets n; chains = h.chains; sections = h.sections }

      in_chains : FoundIs text bs (open_in ScanChains) found → is_end (word_of ScanChains) s ≡ false → (o : Option _) → statement_of chain s ≡ o
          → Inside_is ScanChains (o >>= λ x. Some (record found { chains = found.chains ++ located text s x ∷ [] }))
      unfolding Next
      in_chains h e None n = Inside _ refl e (value_none chain chain_statement s n)
      in_chains h e (Some x) n = record { section = h.section; heads = h.heads; head = h.head; units = h.units; components = h.components; pins = h.pins; nets = h.nets; chains = one_more chain chain_statement ScanChains found.chains x h.chains n; sections = h.sections }

      inside_turn : (kind : SectionKind) → FoundIs text bs (open_in kind) found → is_end (word_of kind) s ≡ false → Inside_is kind (read_inside text found kind s)
      inside_turn Components h e = in_components h e (statement_of component s) refl
      inside_turn Pins h e = in_pins h e (statement_of design_pin s) refl
      inside_turn Nets h e = in_nets h e (statement_of net s) refl
      inside_turn ScanChains h e = in_chains h e (statement_of chain s) refl

    ends : (b : Begun) → FoundIs text bs (Some b) found → (e : Bool) → is_end (word_of b.kind) s ≡ e
        → Next (step_in bs b e s) (Some b)
        (if e then Some (closed_by found (record { kind = b.kind; start = start_of b.first; line = line_at text (start_of b.first) }) s) else read_inside text found b.kind s)
    unfolding Next
    ends b h false is = inside_turn b.first b.inner b.kind h is
    ends b h true is =
        let o : Opened = record { kind = b.kind; start = start_of b.first; line = line_at text (start_of b.first) } in
        let block = Section b.kind b.first b.inner s in
        more_block block (Some b) found (closed_by found o s) h (λ kind. refl) h.head refl (subst (λ (l : List (List Token)). UnitsAre text l found.units) (sym (outside_same b.kind b.first b.inner)) h.units)
        refl refl refl refl
        (ap (λ (l : List SectionRow). l ++ section_in text block) h.sections ∙ ap (λ (l : List SectionRow). flat_map (section_in text) bs ++ l) (sym (append-nil (section_in text block))) ∙ sym (flat_map-append (section_in text) bs (block ∷ [])))

    by_begun : (g : Option Begun) → FoundIs text bs g found → Next (step_by bs g s) g (read_by text unclosed found (opened_of text g) s)
    by_begun None h = outside_turn h (opened_by s) refl
    by_begun (Some b) h = ends b h (is_end (word_of b.kind) s) refl

    pub turn_is : (g : Option Begun) → FoundIs text bs g found → Next (step_by bs g s) g (read_turn text unclosed found s)
    unfolding read_turn
    turn_is g h = subst (λ (o : Option Opened). Next (step_by bs g s) g (read_by text unclosed found o s)) (sym h.section) (by_begun g h)

    -- such a statement isn't read
    no_head : (a : Bool) (x : Found) → (if a && not true then Some x else None) ≡ None
    no_head true x = refl
    no_head false x = refl

    no_form : (kind : SectionKind) → HasNoFormIn kind s → read_inside text found kind s ≡ None
    no_form Components n = rw (none_value component component_statement s n) refl
    no_form Pins n = rw (none_value design_pin pin_statement s n) refl
    no_form Nets n = rw (none_value net net_statement s n) refl
    no_form ScanChains n = rw (none_value chain chain_statement s n) refl

    twice : (x : Units) (u : Option (Located Units)) → UnitsAre text (outside bs) u → (Each (HasNoForm units) (outside bs) → ⊥)
        → (if is_some u then None else Some (record found { units = Some (located text s x) })) ≡ None
    twice x None h some = absurd (some h)
    twice x (Some y) h some = refl

    pub turn_refuses : (g : Option Begun) → FoundIs text bs g found → TurnFault unclosed bs g s → read_turn text unclosed found s ≡ None
    unfolding read_turn
    turn_refuses g h (Head kind is opens none) =
        ap (λ (o : Option Opened). read_by text unclosed found o s) (h.section ∙ ap (opened_of text) is) ∙ ap (λ (o : Option SectionKind). read_outside text unclosed found o s) opens ∙ rw none refl
    turn_refuses g h (Left kind is opens left) =
        ap (λ (o : Option Opened). read_by text unclosed found o s) (h.section ∙ ap (opened_of text) is) ∙ ap (λ (o : Option SectionKind). read_outside text unclosed found o s) opens
        ∙ rw left (no_head (is_head s) _)
    turn_refuses g h (Inside b is e none) = ap (λ (o : Option Opened). read_by text unclosed found o s) (h.section ∙ ap (opened_of text) is) ∙ rw e (no_form b.kind none)
    turn_refuses g h (Again is opens x spelled some) =
        ap (λ (o : Option Opened). read_by text unclosed found o s) (h.section ∙ ap (opened_of text) is) ∙ ap (λ (o : Option SectionKind). read_outside text unclosed found o s) opens
        ∙ ap (read_units text found s) (value_read units units_statement s x spelled) ∙ twice x found.units h.units some
