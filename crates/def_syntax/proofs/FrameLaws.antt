-- The blocks of statements, statement by statement: there is one frame of them, and no other.
use Rattle.std.proofs.Common.{◌≡◌, Bool, true, false, List, [], ◌∷◌, ◌++◌, Option, Some, None, refl, sym, ap, ◌∙◌, subst, append_assoc, append-nil}
use Rattle.std.specs.List.{flat_map, AllByRecursion as Each}
use Rattle.std.proofs.lemmas.Grind.{flat_map-append}
use Rattle.token_forms.specs.Tokens.{Token}
use Rattle.def_syntax.specs.Frames.{word_of, opened_by, is_end, Block, Outside, Section, Begun, Frame, NoneEnds, IsBlock, IsBegun, statements_in, begun_statements, IsFrame}
use Rattle.def_syntax.specs.declared.frame.SectionKind.{SectionKind}

pub each_append : {X : Type 0} (P : X → Type 0) (xs ys : List X) → Each P xs → Each P ys → Each P (xs ++ ys)
each_append P [] ys a b = b
each_append P (x ∷ xs) ys a b = (a.0, each_append P xs ys a.1 b)

pub each_front : {X : Type 0} (P : X → Type 0) (xs ys : List X) → Each P (xs ++ ys) → Each P xs
each_front P [] ys a = tt
each_front P (x ∷ xs) ys a = (a.0, each_front P xs ys a.1)

pub each_behind : {X : Type 0} (P : X → Type 0) (xs ys : List X) → Each P (xs ++ ys) → Each P ys
each_behind P [] ys a = a
each_behind P (x ∷ xs) ys a = each_behind P xs ys a.1

-- the frame behind one more statement
abbrev pub step_out : List Block → Option SectionKind → List Token → Frame
step_out bs None s = record { blocks = bs ++ Outside s ∷ []; begun = None }
step_out bs (Some kind) s = record { blocks = bs; begun = Some (record { kind = kind; first = s; inner = [] }) }

abbrev pub step_in : List Block → Begun → Bool → List Token → Frame
step_in bs b true s = record { blocks = bs ++ Section b.kind b.first b.inner s ∷ []; begun = None }
step_in bs b false s = record { blocks = bs; begun = Some (record { kind = b.kind; first = b.first; inner = b.inner ++ s ∷ [] }) }

abbrev pub step_by : List Block → Option Begun → List Token → Frame
step_by bs None s = step_out bs (opened_by s) s
step_by bs (Some b) s = step_in bs b (is_end (word_of b.kind) s) s

abbrev pub step : Frame → List Token → Frame
step f s = step_by f.blocks f.begun s

abbrev pub steps : Frame → List (List Token) → Frame
steps f [] = f
steps f (s ∷ ss) = steps (step f s) ss

abbrev pub no_blocks : Frame
no_blocks = record { blocks = []; begun = None }

abbrev all_of : List Block → Option Begun → List (List Token)
all_of bs g = flat_map statements_in bs ++ begun_statements g

one_block : (bs : List Block) (b : Block) → all_of (bs ++ b ∷ []) None ≡ flat_map statements_in bs ++ statements_in b
one_block bs b =
    append-nil (flat_map statements_in (bs ++ b ∷ [])) ∙ flat_map-append statements_in bs (b ∷ []) ∙ ap (λ (l : List (List Token)). flat_map statements_in bs ++ l) (append-nil (statements_in b))

module _ (bs : List Block) (ss : List (List Token)) (s : List Token) where
  grows_out : (o : Option SectionKind) → opened_by s ≡ o → IsFrame (record { blocks = bs; begun = None }) ss → IsFrame (step_out bs o s) (ss ++ s ∷ [])
  grows_out None e f = record {
    blocks = each_append IsBlock bs (Outside s ∷ []) f.blocks (e, tt);
    begun = tt;
    is = ap (λ (l : List (List Token)). l ++ s ∷ []) (f.is ∙ append-nil (flat_map statements_in bs)) ∙ sym (one_block bs (Outside s));
  }
  grows_out (Some kind) e f = record {
    blocks = f.blocks;
    begun = (e, tt);
    is = ap (λ (l : List (List Token)). l ++ s ∷ []) (f.is ∙ append-nil (flat_map statements_in bs));
  }

  longer : (b : Begun) → ss ≡ all_of bs (Some b) → ss ++ s ∷ [] ≡ flat_map statements_in bs ++ (b.first ∷ (b.inner ++ s ∷ []))
  longer b is = ap (λ (l : List (List Token)). l ++ s ∷ []) is ∙ append_assoc (flat_map statements_in bs) (b.first ∷ b.inner) (s ∷ [])

  grows_in : (b : Begun) (e : Bool) → is_end (word_of b.kind) s ≡ e → IsFrame (record { blocks = bs; begun = Some b }) ss → IsFrame (step_in bs b e s) (ss ++ s ∷ [])
  grows_in b true e f = record {
    blocks = each_append IsBlock bs (Section b.kind b.first b.inner s ∷ []) f.blocks ((f.begun.0, f.begun.1, e), tt);
    begun = tt;
    is = longer b f.is ∙ sym (one_block bs (Section b.kind b.first b.inner s));
  }
  grows_in b false e f = record {
    blocks = f.blocks;
    begun = (f.begun.0, each_append (λ s. is_end (word_of b.kind) s ≡ false) b.inner (s ∷ []) f.begun.1 (e, tt));
    is = longer b f.is;
  }

  grows_by : (g : Option Begun) → IsFrame (record { blocks = bs; begun = g }) ss → IsFrame (step_by bs g s) (ss ++ s ∷ [])
  grows_by None f = grows_out (opened_by s) refl f
  grows_by (Some b) f = grows_in b (is_end (word_of b.kind) s) refl f

pub grows : (f : Frame) (ss : List (List Token)) (s : List Token) → IsFrame f ss → IsFrame (step f s) (ss ++ s ∷ [])
grows f ss s h = grows_by f.blocks ss s f.begun h

pub frame_behind : (f : Frame) (front ss : List (List Token)) → IsFrame f front → IsFrame (steps f ss) (front ++ ss)
frame_behind f front [] h = subst (IsFrame f) (sym (append-nil front)) h
frame_behind f front (s ∷ ss) h = subst (IsFrame (steps (step f s) ss)) (append_assoc front (s ∷ []) ss) (frame_behind (step f s) (front ++ s ∷ []) ss (grows f front s h))

pub empty_frame : IsFrame no_blocks []
empty_frame = record { blocks = tt; begun = tt; is = refl }

pub frame_of : (ss : List (List Token)) → IsFrame (steps no_blocks ss) ss
frame_of ss = frame_behind no_blocks [] ss empty_frame

pub steps_append : (f : Frame) (ss us : List (List Token)) → steps f (ss ++ us) ≡ steps (steps f ss) us
steps_append f [] us = refl
steps_append f (s ∷ ss) us = steps_append (step f s) ss us

-- the statements of blocks make these blocks
inner_steps : (bs : List Block) (kind : SectionKind) (first : List Token) (so_far inner : List (List Token)) → NoneEnds kind inner
    → steps (record { blocks = bs; begun = Some (record { kind = kind; first = first; inner = so_far }) }) inner ≡ record { blocks = bs; begun = Some (record { kind = kind; first = first; inner = so_far ++ inner }) }
inner_steps bs kind first so_far [] none = ap (λ (l : List (List Token)). record { blocks = bs; begun = Some (record { kind = kind; first = first; inner = l }) }) (sym (append-nil so_far))
inner_steps bs kind first so_far (s ∷ inner) none =
    ap (λ (b : Bool). steps (step_in bs (record { kind = kind; first = first; inner = so_far }) b s) inner) (none.0)
    ∙ inner_steps bs kind first (so_far ++ s ∷ []) inner none.1
    ∙ ap (λ (l : List (List Token)). record { blocks = bs; begun = Some (record { kind = kind; first = first; inner = l }) }) (append_assoc so_far (s ∷ []) inner)

opened_steps : (bs : List Block) (kind : SectionKind) (first : List Token) (inner : List (List Token)) → opened_by first ≡ Some kind → NoneEnds kind inner
    → steps (record { blocks = bs; begun = None }) (first ∷ inner) ≡ record { blocks = bs; begun = Some (record { kind = kind; first = first; inner = inner }) }
opened_steps bs kind first inner opens none = ap (λ (o : Option SectionKind). steps (step_out bs o first) inner) opens ∙ inner_steps bs kind first [] inner none

block_steps : (bs : List Block) (b : Block) → IsBlock b → steps (record { blocks = bs; begun = None }) (statements_in b) ≡ record { blocks = bs ++ b ∷ []; begun = None }
block_steps bs (Outside s) h = ap (λ (o : Option SectionKind). step_out bs o s) h
block_steps bs (Section kind first inner last) h =
    steps_append (record { blocks = bs; begun = None }) (first ∷ inner) (last ∷ [])
    ∙ ap (λ (f : Frame). step f last) (opened_steps bs kind first inner h.0 h.1)
    ∙ ap (λ (b : Bool). step_in bs (record { kind = kind; first = first; inner = inner }) b last) (h.2)

blocks_steps : (bs cs : List Block) → Each IsBlock cs → steps (record { blocks = bs; begun = None }) (flat_map statements_in cs) ≡ record { blocks = bs ++ cs; begun = None }
blocks_steps bs [] h = ap (λ (l : List Block). record { blocks = l; begun = None }) (sym (append-nil bs))
blocks_steps bs (c ∷ cs) h =
    steps_append (record { blocks = bs; begun = None }) (statements_in c) (flat_map statements_in cs)
    ∙ ap (λ (f : Frame). steps f (flat_map statements_in cs)) (block_steps bs c h.0)
    ∙ blocks_steps (bs ++ c ∷ []) cs h.1
    ∙ ap (λ (l : List Block). record { blocks = l; begun = None }) (append_assoc bs (c ∷ []) cs)

begun_steps : (bs : List Block) (g : Option Begun) → IsBegun g → steps (record { blocks = bs; begun = None }) (begun_statements g) ≡ record { blocks = bs; begun = g }
begun_steps bs None h = refl
begun_steps bs (Some b) h = opened_steps bs b.kind b.first b.inner h.0 h.1

pub one_frame : (f : Frame) (ss : List (List Token)) → IsFrame f ss → steps no_blocks ss ≡ f
one_frame f ss h =
    ap (steps no_blocks) h.is
    ∙ steps_append no_blocks (flat_map statements_in f.blocks) (begun_statements f.begun)
    ∙ ap (λ (g : Frame). steps g (begun_statements f.begun)) (blocks_steps [] f.blocks h.blocks)
    ∙ begun_steps f.blocks f.begun h.begun
