-- What stands in a text's blocks is one value, and no statement of these is a fault.
use Rattle.std.proofs.Common.{◌≡◌, ℕ, Bool, true, false, List, [], ◌∷◌, ◌++◌, Option, Some, None, refl, sym, ap, ◌∙◌, subst, append_assoc, append-nil, codes}
use Rattle.std.specs.List.{AllByRecursion as Each}
use Rattle.std.proofs.lemmas.Grind.{flat_map-append}
use Rattle.std.proofs.lemmas.Option.{same_Some}
use Rattle.base_types.specs.declared.span.Span.{Span}
use Rattle.base_types.proofs.TruthValues.{not_both}
use Rattle.token_forms.specs.Tokens.{Token}
use Rattle.token_forms.specs.Forms.{Form}
use Rattle.token_forms.specs.Laws.{IsStatement}
use Rattle.def_syntax.specs.Grammar.{units, component, design_pin, net, chain}
use Rattle.def_syntax.specs.Frames.{word_of, opened_by, is_end, is_head, Block, Outside, Section, Begun, Frame, outside_of, outside, within}
use Rattle.def_syntax.specs.Designs.{NoneCloses, IsLocated, AreLocated, HasNoForm, IsOnly, BeginsWell, HasNoFormIn, IsDesignText}
use Rattle.def_syntax.specs.declared.units.Units.{Units}
use Rattle.def_syntax.specs.declared.frame.SectionKind.{SectionKind}
use Rattle.def_syntax.specs.declared.frame.SectionKind.TheVariants.{Components, Pins, Nets, ScanChains}
use Rattle.def_syntax.specs.declared.design.Located.{Located}
use Rattle.def_syntax.specs.declared.design.DesignText.{DesignText}
use Rattle.def_syntax.proofs.Lawful.{units_statement, component_statement, pin_statement, net_statement, chain_statement}
use Rattle.def_syntax.proofs.FrameLaws.{each_front, each_behind, step_out, step_in, step_by, step, steps}
use Rattle.def_syntax.proofs.ReadTurns.{value_read, TurnFault, Head, Left, Inside, Again}
use Rattle.def_syntax.proofs.Designs.{each_at}

-- a list of statements is cut in one way at its END DESIGN
pub same_cut : (a b x y : List (List Token)) (e f : List Token) → a ++ e ∷ x ≡ b ++ f ∷ y → NoneCloses a → NoneCloses b → is_end (codes "DESIGN") e ≡ true → is_end (codes "DESIGN") f ≡ true → a ≡ b
same_cut [] [] x y e f is na nb ee fe = refl
same_cut [] (c ∷ b) x y e f is na nb ee fe = let k : e ≡ c = cc in let n = nb.0 in let m = ap (is_end (codes "DESIGN")) k in absurd (true_false (sym ee ∙ m ∙ n))
  where
    true_false : true ≡ false → ⊥
    true_false p = absurd cc
same_cut (c ∷ a) [] x y e f is na nb ee fe = let k : f ≡ c = cc in let n = na.0 in let m = ap (is_end (codes "DESIGN")) k in absurd (true_false (sym fe ∙ m ∙ n))
  where
    true_false : true ≡ false → ⊥
    true_false p = absurd cc
same_cut (c ∷ a) (d ∷ b) x y e f is na nb ee fe =
    let k : c ≡ d = cc in
    let more : a ++ e ∷ x ≡ b ++ f ∷ y = cc in
    rw k (ap (λ (l : List (List Token)). d ∷ l) (same_cut a b x y e f more na.1 nb.1 ee fe))

-- a statement has one value, place and line
module _ {X : Type 0} (form : Form X) (st : IsStatement form) (text : List ℕ) where
  pub one_located : (s : List Token) (x y : Located X) → IsLocated form text s x → IsLocated form text s y → x ≡ y
  one_located s x y h k =
      let v : x.statement ≡ y.statement = same_Some _ _ (sym (value_read form st s x.statement h.spelled) ∙ value_read form st s y.statement k.spelled) in
      let p = h.span ∙ sym k.span in
      let l = h.line ∙ sym k.line in
      ap (λ (v : X). record { statement = v; span = x.span; line = x.line }) v
      ∙ ap (λ (p : Span). record { statement = y.statement; span = p; line = x.line }) p
      ∙ ap (λ (l : ℕ). record { statement = y.statement; span = y.span; line = l }) l

  pub same_located : (ss : List (List Token)) (xs ys : List (Located X)) → AreLocated form text ss xs → AreLocated form text ss ys → xs ≡ ys
  same_located [] [] [] h k = refl
  same_located [] [] (y ∷ ys) h k = absurd k
  same_located [] (x ∷ xs) ys h k = absurd h
  same_located (s ∷ ss) [] ys h k = absurd h
  same_located (s ∷ ss) (x ∷ xs) [] h k = absurd k
  same_located (s ∷ ss) (x ∷ xs) (y ∷ ys) h k =
      let a = one_located s x y h.0 k.0 in
      let b = same_located ss xs ys h.1 k.1 in
      rw (a, b) refl

  -- each of the statements is of the form
  pub spelled_each : (ss : List (List Token)) (xs : List (Located X)) → AreLocated form text ss xs → Each (λ s. HasNoForm form s → ⊥) ss
  spelled_each [] [] h = tt
  spelled_each [] (x ∷ xs) h = absurd h
  spelled_each (s ∷ ss) [] h = absurd h
  spelled_each (s ∷ ss) (x ∷ xs) h = ((λ none. none x.statement h.0.spelled), spelled_each ss xs h.1)

-- the one statement that is of a form
record TheOne {X : Type 0} (form : Form X) (u s : List Token) (a : List (List Token)) : Type 0 where
  pub same : u ≡ s
  pub before : Each (HasNoForm form) a

the_one : {X : Type 0} (form : Form X) (front behind a b : List (List Token)) (s u : List Token) (x : X) → front ++ s ∷ behind ≡ a ++ u ∷ b → Each (HasNoForm form) (front ++ behind) → form.spells x u → TheOne form u s a
the_one form [] behind [] b s u x is none h = record { same = cc; before = tt }
the_one form [] behind (c ∷ a) b s u x is none h =
    let more : behind ≡ a ++ u ∷ b = cc in
    absurd (each_at (HasNoForm form) a b u (subst (Each (HasNoForm form)) more none) x h)
the_one form (c ∷ front) behind [] b s u x is none h = let k : c ≡ u = cc in absurd (none.0 x (subst (form.spells x) (sym k) h))
the_one form (c ∷ front) behind (d ∷ a) b s u x is none h =
    let k : c ≡ d = cc in
    let more : front ++ s ∷ behind ≡ a ++ u ∷ b = cc in
    let t = the_one form front behind a b s u x more none.1 h in
    record { same = t.same; before = (subst (HasNoForm form) k none.0, t.before) }

pub only_one : (text : List ℕ) (ss : List (List Token)) (x y : Located Units) → IsOnly units text ss x → IsOnly units text ss y → x ≡ y
only_one text ss x y h k =
    let t = the_one units h.front h.behind k.front k.behind h.statement k.statement y.statement (sym h.is ∙ k.is) h.others k.located.spelled in
    one_located units units_statement text h.statement x y h.located (subst (λ (s : List Token). IsLocated units text s y) t.same k.located)

pub only_before : (text : List ℕ) (ss a b : List (List Token)) (x : Located Units) (s : List Token) (v : Units) → IsOnly units text ss x → ss ≡ a ++ s ∷ b → units.spells v s → Each (HasNoForm units) a
only_before text ss a b x s v h is spelled = (the_one units h.front h.behind a b h.statement s v (sym h.is ∙ is) h.others spelled).before

-- blocks in which each statement is of its form
abbrev pub GoodInside : SectionKind → List (List Token) → Type 0
GoodInside kind ss = Each (λ s. HasNoFormIn kind s → ⊥) ss

abbrev pub GoodBlock : Block → Type 0
GoodBlock (Outside s) = Unit {0}
GoodBlock (Section kind first inner last) = (is_head first ≡ true) × GoodInside kind inner

abbrev pub GoodBegun : Option Begun → Type 0
GoodBegun None = Unit {0}
GoodBegun (Some b) = (is_head b.first ≡ true) × GoodInside b.kind b.inner

pub record Good (f : Frame) : Type 0 where
  pub blocks : Each GoodBlock f.blocks
  pub begun : GoodBegun f.begun

-- what is good with one more statement was so without it
module _ (bs : List Block) (s : List Token) where
  good_out : (k : Option SectionKind) → Good (step_out bs k s) → Good (record { blocks = bs; begun = None })
  good_out None h = record { blocks = each_front GoodBlock bs (Outside s ∷ []) h.blocks; begun = tt }
  good_out (Some kind) h = record { blocks = h.blocks; begun = tt }

  good_in : (b : Begun) (e : Bool) → Good (step_in bs b e s) → Good (record { blocks = bs; begun = Some b })
  good_in b true h = record { blocks = each_front GoodBlock bs (Section b.kind b.first b.inner s ∷ []) h.blocks; begun = (each_behind GoodBlock bs (Section b.kind b.first b.inner s ∷ []) h.blocks).0 }
  good_in b false h = record { blocks = h.blocks; begun = (h.begun.0, each_front (λ s. HasNoFormIn b.kind s → ⊥) b.inner (s ∷ []) h.begun.1) }

  good_by : (g : Option Begun) → Good (step_by bs g s) → Good (record { blocks = bs; begun = g })
  good_by None h = good_out (opened_by s) h
  good_by (Some b) h = good_in b (is_end (word_of b.kind) s) h

good_steps : (f : Frame) (ss : List (List Token)) → Good (steps f ss) → Good f
good_steps f [] h = h
good_steps f (s ∷ ss) h = good_by f.blocks s f.begun (good_steps (step f s) ss h)

-- the statements outside sections stay in front
record More (ss us : List (List Token)) : Type 0 where
  pub behind : List (List Token)
  pub is : us ≡ ss ++ behind

more_by : (bs : List Block) (g : Option Begun) (s : List Token) → More (outside bs) (outside (step_by bs g s).blocks)
more_by bs None s = out (opened_by s)
  where
    out : (k : Option SectionKind) → More (outside bs) (outside (step_out bs k s).blocks)
    out None = record { behind = s ∷ []; is = flat_map-append outside_of bs (Outside s ∷ []) }
    out (Some kind) = record { behind = []; is = sym (append-nil (outside bs)) }
more_by bs (Some b) s = inside (is_end (word_of b.kind) s)
  where
    inside : (e : Bool) → More (outside bs) (outside (step_in bs b e s).blocks)
    inside true = record { behind = []; is = flat_map-append outside_of bs (Section b.kind b.first b.inner s ∷ []) }
    inside false = record { behind = []; is = sym (append-nil (outside bs)) }

more_steps : (f : Frame) (ss : List (List Token)) → More (outside f.blocks) (outside (steps f ss).blocks)
more_steps f [] = record { behind = []; is = sym (append-nil (outside f.blocks)) }
more_steps f (s ∷ ss) =
    let a = more_by f.blocks f.begun s in
    let b = more_steps (step f s) ss in
    record { behind = a.behind ++ b.behind; is = b.is ∙ ap (λ (l : List (List Token)). l ++ b.behind) a.is ∙ append_assoc (outside f.blocks) a.behind b.behind }

module _ (text : List ℕ) (f : Frame) (s : List Token) (rest : List (List Token)) (x : Located Units) where
  pub no_fault : Good (step f s) → TurnFault None f.blocks f.begun s → IsOnly units text (outside (steps f (s ∷ rest)).blocks) x → ⊥
  no_fault good (Head kind e opens none) only =
      let h : Good (step_out f.blocks (Some kind) s) = subst (λ (k : Option SectionKind). Good (step_out f.blocks k s)) opens (subst (λ (g : Option Begun). Good (step_by f.blocks g s)) e good) in
      not_both (is_head s) (h.begun.0) none
  no_fault good (Left kind e opens left) only = absurd cc
  no_fault good (Inside b e here none) only =
      let h : Good (step_in f.blocks b false s) = subst (λ (t : Bool). Good (step_in f.blocks b t s)) here (subst (λ (g : Option Begun). Good (step_by f.blocks g s)) e good) in
      each_at (λ s. HasNoFormIn b.kind s → ⊥) b.inner [] s (h.begun.1) none
  no_fault good (Again e opens v spelled some) only =
      let m = more_steps (step f s) rest in
      let one : outside (step f s).blocks ≡ outside f.blocks ++ s ∷ [] =
      ap (λ (g : Option Begun). outside (step_by f.blocks g s).blocks) e ∙ ap (λ (k : Option SectionKind). outside (step_out f.blocks k s).blocks) opens ∙ flat_map-append outside_of f.blocks (Outside s ∷ []) in
      let all : outside (steps f (s ∷ rest)).blocks ≡ outside f.blocks ++ s ∷ m.behind = m.is ∙ ap (λ (l : List (List Token)). l ++ m.behind) one ∙ append_assoc (outside f.blocks) (s ∷ []) m.behind in
      some (only_before text (outside (steps f (s ∷ rest)).blocks) (outside f.blocks) m.behind x s v only all spelled)

-- the blocks of a text that has a value are good
abbrev EachSpelled : {X : Type 0} → Form X → List (List Token) → Type 0
EachSpelled form ss = Each (λ s. HasNoForm form s → ⊥) ss

good_blocks : (bs : List Block) → Each BeginsWell bs → EachSpelled component (within Components bs) → EachSpelled design_pin (within Pins bs) → EachSpelled net (within Nets bs) → EachSpelled chain (within ScanChains bs)
    → Each GoodBlock bs
good_blocks [] w c p n h = tt
good_blocks (Outside s ∷ bs) w c p n h = (tt, good_blocks bs w.1 c p n h)
good_blocks (Section Components first inner last ∷ bs) w c p n h =
    ((w.0, each_front _ inner (within Components bs) c), good_blocks bs w.1 (each_behind _ inner (within Components bs) c) p n h)
good_blocks (Section Pins first inner last ∷ bs) w c p n h =
    ((w.0, each_front _ inner (within Pins bs) p), good_blocks bs w.1 c (each_behind _ inner (within Pins bs) p) n h)
good_blocks (Section Nets first inner last ∷ bs) w c p n h =
    ((w.0, each_front _ inner (within Nets bs) n), good_blocks bs w.1 c p (each_behind _ inner (within Nets bs) n) h)
good_blocks (Section ScanChains first inner last ∷ bs) w c p n h =
    ((w.0, each_front _ inner (within ScanChains bs) h), good_blocks bs w.1 c p n (each_behind _ inner (within ScanChains bs) h))

pub good_design : (text : List ℕ) (d : DesignText) (h : IsDesignText text d) → Good (record { blocks = h.blocks; begun = None })
good_design text d h = record {
  blocks = good_blocks h.blocks h.heads (spelled_each component component_statement text _ _ h.components) (spelled_each design_pin pin_statement text _ _ h.pins) (spelled_each net net_statement text _ _ h.nets)
      (spelled_each chain chain_statement text _ _ h.chains);
  begun = tt;
}

pub good_before : (f : Frame) (s : List Token) (rest : List (List Token)) → Good (steps f (s ∷ rest)) → Good (step f s)
good_before f s rest h = good_steps (step f s) rest h
