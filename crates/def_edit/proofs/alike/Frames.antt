-- The blocks of a text with changes are blocks.
use Rattle.std.proofs.Common.{◌≡◌, ℕ, Bool, true, false, if◌then◌else◌, List, [], ◌∷◌, ◌++◌, length, map, codes, decimal, Some, refl, sym, ◌∙◌, subst}
use Rattle.std.specs.List.{flat_map, AllByRecursion as Each}
use Rattle.std.specs.Str.{bytes_eq}
use Rattle.token_forms.specs.Tokens.{Token}
use Rattle.token_forms.specs.Parts.{token_texts}
use Rattle.def_syntax.specs.Frames.{word_of, section_named, opened_by, is_end, is_head, Block, Outside, Section, IsBlock, statements_in, outside, within, within_block}
use Rattle.def_syntax.specs.Designs.{BeginsWell, section_in}
use Rattle.def_syntax.specs.declared.frame.SectionKind.{SectionKind}
use Rattle.def_syntax.specs.declared.frame.SectionKind.TheVariants.{Components, Pins, Nets, ScanChains}
use Rattle.def_syntax.specs.declared.design.DesignText.{DesignText}
use Rattle.def_syntax.proofs.FrameLaws.{each_append, each_front, each_behind}
use Rattle.def_layout.specs.declared.chains.ChainLayout.{ChainLayout}
use Rattle.def_layout.specs.Sections.{head_words}
use Rattle.def_layout.proofs.SectionWords.{part_number}
use Rattle.def_layout.proofs.SectionStatements.{statement_front}
use Rattle.def_edit.specs.Alike.Changes.{Changes, first_words}
use Rattle.def_edit.proofs.alike.Lists.{each_weaker}
use Rattle.def_edit.proofs.alike.SameFrames.{same_opened, same_end, same_head}
use Rattle.def_edit.proofs.alike.Statements.{IsShut, IsEnded, shut_of, ended_again}
use Rattle.def_edit.proofs.alike.Endings.{BeginsDashed, no_end, free_parts}
use Rattle.def_edit.proofs.alike.Blocks.{AreBeside}

-- what holds of each statement of blocks holds of those within
pub within_each : (P : List Token → Type 0) (kind : SectionKind) (bs : List Block) → Each P (flat_map statements_in bs) → Each P (within kind bs)
within_each P kind [] h = tt
within_each P kind (Outside s ∷ bs) h = within_each P kind bs h.1
within_each P kind (Section other first inner last ∷ bs) h =
    let here = each_front P (first ∷ (inner ++ last ∷ [])) (flat_map statements_in bs) h in
    let rest = each_behind P (first ∷ (inner ++ last ∷ [])) (flat_map statements_in bs) h in
    each_append P (within_block kind (Section other first inner last)) (within kind bs) (of (bytes_eq (word_of kind) (word_of other)) (each_front P inner (last ∷ []) here.1)) (within_each P kind bs rest)
  where
    of : (b : Bool) → Each P inner → Each P (if b then inner else [])
    of true h = h
    of false h = tt

-- of a block each statement within has this
abbrev pub InnerHas : (List Token → Type 0) → Block → Type 0
InnerHas P (Outside s) = Unit {0}
InnerHas P (Section kind first inner last) = Each P inner

pub inner_each : (P : List Token → Type 0) (bs : List Block) → Each P (within Components bs) → Each P (within Pins bs) → Each P (within Nets bs) → Each P (within ScanChains bs) → Each (InnerHas P) bs
inner_each P [] a b c d = tt
inner_each P (Outside s ∷ bs) a b c d = (tt, inner_each P bs a b c d)
inner_each P (Section Components first inner last ∷ bs) a b c d = (each_front P inner (within Components bs) a, inner_each P bs (each_behind P inner (within Components bs) a) b c d)
inner_each P (Section Pins first inner last ∷ bs) a b c d = (each_front P inner (within Pins bs) b, inner_each P bs a (each_behind P inner (within Pins bs) b) c d)
inner_each P (Section Nets first inner last ∷ bs) a b c d = (each_front P inner (within Nets bs) c, inner_each P bs a b (each_behind P inner (within Nets bs) c) d)
inner_each P (Section ScanChains first inner last ∷ bs) a b c d = (each_front P inner (within ScanChains bs) d, inner_each P bs a b c (each_behind P inner (within ScanChains bs) d))

-- the first statement of the section SCANCHAINS that is written
record IsHead (s : List Token) : Type 0 where
  opened : opened_by s ≡ Some ScanChains
  well : is_head s ≡ true
  open_end : (word : List ℕ) → is_end word s ≡ false
  shut : IsShut s

head_is : (cs : List ChainLayout) (s : List Token) → token_texts s ≡ head_words cs → IsHead s
unfolding section_named
head_is cs [] e = absurd cc
head_is cs (t ∷ []) e = absurd cc
head_is cs (t ∷ u ∷ []) e = absurd cc
head_is cs (t ∷ u ∷ v ∷ w ∷ s) e = absurd cc
head_is cs (t ∷ u ∷ v ∷ []) e =
    let here : t.text ≡ codes "SCANCHAINS" = cc in
    let last : v.text ≡ codes ";" = cc in
    record {
      opened = rw here refl;
      well = rw last refl;
      open_end = λ word. refl;
      shut = λ rest. statement_front t (u ∷ v ∷ []) rest (codes "SCANCHAINS") (decimal (length cs) ∷ []) e (free_parts (codes "SCANCHAINS" ∷ decimal (length cs) ∷ []) (rw (part_number (length cs)) refl)) refl refl refl;
    }

module _ (text : List ℕ) (t : DesignText) (c : Changes) where
  opened_first : (kind : SectionKind) (first head : List Token) → token_texts head ≡ first_words c kind first → opened_by first ≡ Some kind → opened_by head ≡ Some kind
  opened_first Components first head e h = same_opened head first e ∙ h
  opened_first Pins first head e h = same_opened head first e ∙ h
  opened_first Nets first head e h = same_opened head first e ∙ h
  opened_first ScanChains first head e h = (head_is c.chains head e).opened

  well_first : (kind : SectionKind) (first head : List Token) → token_texts head ≡ first_words c kind first → is_head first ≡ true → is_head head ≡ true
  well_first Components first head e h = same_head head first e ∙ h
  well_first Pins first head e h = same_head head first e ∙ h
  well_first Nets first head e h = same_head head first e ∙ h
  well_first ScanChains first head e h = (head_is c.chains head e).well

  open_first : (word : List ℕ) (kind : SectionKind) (first head : List Token) → token_texts head ≡ first_words c kind first → is_end word first ≡ false → is_end word head ≡ false
  open_first word Components first head e h = same_end word head first e ∙ h
  open_first word Pins first head e h = same_end word head first e ∙ h
  open_first word Nets first head e h = same_end word head first e ∙ h
  open_first word ScanChains first head e h = (head_is c.chains head e).open_end word

  shut_first : (kind : SectionKind) (first head : List Token) → token_texts head ≡ first_words c kind first → IsEnded first → IsShut head
  shut_first Components first head e h = shut_of head (ended_again first head (sym e) h)
  shut_first Pins first head e h = shut_of head (ended_again first head (sym e) h)
  shut_first Nets first head e h = shut_of head (ended_again first head (sym e) h)
  shut_first ScanChains first head e h = (head_is c.chains head e).shut

  pub blocks_are : (bs ds : List Block) → AreBeside text t c bs ds → Each IsBlock bs → Each (InnerHas BeginsDashed) ds → Each IsBlock ds
  blocks_are [] [] beside h dashed = tt
  blocks_are [] (d ∷ ds) beside h dashed = absurd beside
  blocks_are (b ∷ bs) [] beside h dashed = absurd beside
  blocks_are (Outside s ∷ bs) (Outside u ∷ ds) beside h dashed = (same_opened u s beside.0 ∙ h.0, blocks_are bs ds beside.1 h.1 dashed.1)
  blocks_are (Outside s ∷ bs) (Section other head others end ∷ ds) beside h dashed = absurd beside.0
  blocks_are (Section kind first inner last ∷ bs) (Outside u ∷ ds) beside h dashed = absurd beside.0
  blocks_are (Section kind first inner last ∷ bs) (Section other head others end ∷ ds) beside h dashed =
      let opened = opened_first kind first head beside.0.1 h.0.0 in
      let none = each_weaker BeginsDashed (λ s. is_end (word_of kind) s ≡ false) others (no_end (word_of kind)) dashed.0 in
      let ends = same_end (word_of kind) end last beside.0.3 ∙ h.0.2 in
      (subst (λ (k : SectionKind). IsBlock (Section k head others end)) (sym beside.0.0) (opened, none, ends), blocks_are bs ds beside.1 h.1 dashed.1)

  pub heads_are : (bs ds : List Block) → AreBeside text t c bs ds → Each BeginsWell bs → Each BeginsWell ds
  heads_are [] [] beside h = tt
  heads_are [] (d ∷ ds) beside h = absurd beside
  heads_are (b ∷ bs) [] beside h = absurd beside
  heads_are (Outside s ∷ bs) (Outside u ∷ ds) beside h = (tt, heads_are bs ds beside.1 h.1)
  heads_are (Outside s ∷ bs) (Section other head others end ∷ ds) beside h = absurd beside.0
  heads_are (Section kind first inner last ∷ bs) (Outside u ∷ ds) beside h = absurd beside.0
  heads_are (Section kind first inner last ∷ bs) (Section other head others end ∷ ds) beside h = (well_first kind first head beside.0.1 h.0, heads_are bs ds beside.1 h.1)

  -- none of the statements is END and this word
  abbrev AreOpen : List ℕ → List (List Token) → Type 0
  AreOpen word ss = Each (λ s. is_end word s ≡ false) ss

  pub open_are : (word : List ℕ) (bs ds : List Block) → AreBeside text t c bs ds → AreOpen word (flat_map statements_in bs) → Each (InnerHas BeginsDashed) ds → AreOpen word (flat_map statements_in ds)
  open_are word [] [] beside h dashed = tt
  open_are word [] (d ∷ ds) beside h dashed = absurd beside
  open_are word (b ∷ bs) [] beside h dashed = absurd beside
  open_are word (Outside s ∷ bs) (Outside u ∷ ds) beside h dashed = (same_end word u s beside.0 ∙ h.0, open_are word bs ds beside.1 h.1 dashed.1)
  open_are word (Outside s ∷ bs) (Section other head others end ∷ ds) beside h dashed = absurd beside.0
  open_are word (Section kind first inner last ∷ bs) (Outside u ∷ ds) beside h dashed = absurd beside.0
  open_are word (Section kind first inner last ∷ bs) (Section other head others end ∷ ds) beside h dashed =
      let P = λ (s : List Token). is_end word s ≡ false in
      let here = each_front P (first ∷ (inner ++ last ∷ [])) (flat_map statements_in bs) h in
      let rest = each_behind P (first ∷ (inner ++ last ∷ [])) (flat_map statements_in bs) h in
      let ends = same_end word end last beside.0.3 ∙ (each_behind P inner (last ∷ []) here.1).0 in
      each_append P (head ∷ (others ++ end ∷ [])) (flat_map statements_in ds) (open_first word kind first head beside.0.1 here.0, each_append P others (end ∷ []) (each_weaker BeginsDashed P others (no_end word) dashed.0) (ends, tt))
      (open_are word bs ds beside.1 rest dashed.1)

  pub shut_are : (bs ds : List Block) → AreBeside text t c bs ds → Each IsEnded (flat_map statements_in bs) → Each (InnerHas IsShut) ds → Each IsShut (flat_map statements_in ds)
  shut_are [] [] beside h inner = tt
  shut_are [] (d ∷ ds) beside h inner = absurd beside
  shut_are (b ∷ bs) [] beside h inner = absurd beside
  shut_are (Outside s ∷ bs) (Outside u ∷ ds) beside h inner = (shut_of u (ended_again s u (sym beside.0) h.0), shut_are bs ds beside.1 h.1 inner.1)
  shut_are (Outside s ∷ bs) (Section other head others end ∷ ds) beside h inner = absurd beside.0
  shut_are (Section kind first old last ∷ bs) (Outside u ∷ ds) beside h inner = absurd beside.0
  shut_are (Section kind first old last ∷ bs) (Section other head others end ∷ ds) beside h inner =
      let here = each_front IsEnded (first ∷ (old ++ last ∷ [])) (flat_map statements_in bs) h in
      let rest = each_behind IsEnded (first ∷ (old ++ last ∷ [])) (flat_map statements_in bs) h in
      let ends = shut_of end (ended_again last end (sym beside.0.3) (each_behind IsEnded old (last ∷ []) here.1).0) in
      each_append IsShut (head ∷ (others ++ end ∷ [])) (flat_map statements_in ds) (shut_first kind first head beside.0.1 here.0, each_append IsShut others (end ∷ []) inner.0 (ends, tt)) (shut_are bs ds beside.1 rest inner.1)

  pub outside_same : (bs ds : List Block) → AreBeside text t c bs ds → map token_texts (outside ds) ≡ map token_texts (outside bs)
  outside_same [] [] beside = refl
  outside_same [] (d ∷ ds) beside = absurd beside
  outside_same (b ∷ bs) [] beside = absurd beside
  outside_same (Outside s ∷ bs) (Outside u ∷ ds) beside = rw (beside.0, outside_same bs ds beside.1) refl
  outside_same (Outside s ∷ bs) (Section other head others end ∷ ds) beside = absurd beside.0
  outside_same (Section kind first inner last ∷ bs) (Outside u ∷ ds) beside = absurd beside.0
  outside_same (Section kind first inner last ∷ bs) (Section other head others end ∷ ds) beside = outside_same bs ds beside.1

  pub kinds_same : (written : List ℕ) (bs ds : List Block) → AreBeside text t c bs ds → map (λ s. s.kind) (flat_map (section_in written) ds) ≡ map (λ s. s.kind) (flat_map (section_in text) bs)
  kinds_same written [] [] beside = refl
  kinds_same written [] (d ∷ ds) beside = absurd beside
  kinds_same written (b ∷ bs) [] beside = absurd beside
  kinds_same written (Outside s ∷ bs) (Outside u ∷ ds) beside = kinds_same written bs ds beside.1
  kinds_same written (Outside s ∷ bs) (Section other head others end ∷ ds) beside = absurd beside.0
  kinds_same written (Section kind first inner last ∷ bs) (Outside u ∷ ds) beside = absurd beside.0
  kinds_same written (Section kind first inner last ∷ bs) (Section other head others end ∷ ds) beside = rw (beside.0.0, kinds_same written bs ds beside.1) refl
