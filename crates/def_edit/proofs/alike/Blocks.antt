-- The blocks of a text with changes, beside those of the text.
use Rattle.std.proofs.Common.{◌≡◌, ℕ, zero, suc, Bool, true, false, ◌||◌, List, [], ◌∷◌, ◌++◌, map, refl, sym, ap, ◌∙◌, append_assoc, append-nil, arith}
use Rattle.std.specs.List.{flat_map, list_any}
use Rattle.std.specs.Str.{bytes_eq}
use Rattle.std.proofs.lemmas.Bool.{or_parts}
use Rattle.base_types.specs.Lines.{line_at}
use Rattle.token_forms.specs.Tokens.{Token}
use Rattle.token_forms.specs.Parts.{token_texts}
use Rattle.def_syntax.specs.Frames.{word_of, Block, Outside, Section, statements_in, within, start_of}
use Rattle.def_syntax.specs.Designs.{section_in}
use Rattle.def_syntax.specs.declared.frame.SectionKind.{SectionKind}
use Rattle.def_syntax.specs.declared.frame.SectionKind.TheVariants.{Components, Pins, Nets, ScanChains}
use Rattle.def_syntax.specs.declared.design.DesignText.{DesignText}
use Rattle.def_reader.specs.Faults.{StandsAgain, section_rows}
use Rattle.def_edit.specs.Alike.Changes.{Changes, first_words, inner_words, block_words}
use Rattle.def_edit.proofs.alike.Lists.{cut_map, first_map, none_map}

-- the block is one of the kind
abbrev pub is_kind : SectionKind → Block → Bool
is_kind kind (Outside s) = false
is_kind kind (Section other first inner last) = bytes_eq (word_of kind) (word_of other)

abbrev pub has_kind : SectionKind → List Block → Bool
has_kind kind bs = list_any (is_kind kind) bs

pub same_kind : (k j : SectionKind) → bytes_eq (word_of k) (word_of j) ≡ true → k ≡ j
same_kind Components Components e = refl
same_kind Components Pins e = absurd cc
same_kind Components Nets e = absurd cc
same_kind Components ScanChains e = absurd cc
same_kind Pins Components e = absurd cc
same_kind Pins Pins e = refl
same_kind Pins Nets e = absurd cc
same_kind Pins ScanChains e = absurd cc
same_kind Nets Components e = absurd cc
same_kind Nets Pins e = absurd cc
same_kind Nets Nets e = refl
same_kind Nets ScanChains e = absurd cc
same_kind ScanChains Components e = absurd cc
same_kind ScanChains Pins e = absurd cc
same_kind ScanChains Nets e = absurd cc
same_kind ScanChains ScanChains e = refl

-- no section of a kind stands twice
abbrev pub IsOnce : List Block → Type 0
IsOnce [] = Unit {0}
IsOnce (Outside s ∷ bs) = IsOnce bs
IsOnce (Section kind first inner last ∷ bs) = (has_kind kind bs ≡ false) × IsOnce bs

-- a section's row among those of a text
record RowOf (text : List ℕ) (kind : SectionKind) (bs : List Block) : Type 0 where
  front : List (List ℕ × ℕ)
  line : ℕ
  behind : List (List ℕ × ℕ)
  is : section_rows (flat_map (section_in text) bs) ≡ front ++ (word_of kind, line) ∷ behind

row_of : (text : List ℕ) (kind : SectionKind) (bs : List Block) → has_kind kind bs ≡ true → RowOf text kind bs
row_of text kind [] e = absurd cc
row_of text kind (Outside s ∷ bs) e = let r = row_of text kind bs e in record { front = r.front; line = r.line; behind = r.behind; is = r.is }
row_of text kind (Section other first inner last ∷ bs) e = of (bytes_eq (word_of kind) (word_of other)) refl e (row_of text kind bs)
  where
    of : (b : Bool) → bytes_eq (word_of kind) (word_of other) ≡ b → (b || has_kind kind bs) ≡ true → (has_kind kind bs ≡ true → RowOf text kind bs) → RowOf text kind (Section other first inner last ∷ bs)
    of true f g more =
        let line = line_at text (start_of first) in
        let same = same_kind kind other f in
        record { front = []; line = line; behind = section_rows (flat_map (section_in text) bs); is = ap (λ (k : SectionKind). (word_of k, line) ∷ section_rows (flat_map (section_in text) bs)) (sym same) }
    of false f g more =
        let line = line_at text (start_of first) in
        let r = more g in
        record { front = (word_of other, line) ∷ r.front; line = r.line; behind = r.behind; is = ap (λ (l : List (List ℕ × ℕ)). (word_of other, line) ∷ l) r.is }

pub once_of : (text : List ℕ) (bs : List Block) → ((line : ℕ) → StandsAgain (section_rows (flat_map (section_in text) bs)) line → ⊥) → IsOnce bs
once_of text [] h = tt
once_of text (Outside s ∷ bs) h = once_of text bs h
once_of text (Section kind first inner last ∷ bs) h = (of (has_kind kind bs) refl, once_of text bs (λ line again. h line (later line again)))
  where
    of : (b : Bool) → has_kind kind bs ≡ b → has_kind kind bs ≡ false
    of false e = e
    of true e =
        let r = row_of text kind bs e in
        let row : List ℕ × ℕ = (word_of kind, line_at text (start_of first)) in
        absurd (h r.line (record { front = row ∷ r.front; name = word_of kind; behind = r.behind; is = ap (λ (l : List (List ℕ × ℕ)). row ∷ l) r.is; before = (zero, omega arith, refl) }))

    later : (line : ℕ) → StandsAgain (section_rows (flat_map (section_in text) bs)) line → StandsAgain (section_rows (flat_map (section_in text) (Section kind first inner last ∷ bs))) line
    later line a =
        let row : List ℕ × ℕ = (word_of kind, line_at text (start_of first)) in
        record {
          front = row ∷ a.front;
          name = a.name;
          behind = a.behind;
          is = ap (λ (l : List (List ℕ × ℕ)). row ∷ l) a.is;
          before = (suc a.before.0, (let lt = a.before.1 in omega arith), a.before.2);
        }

module _ (text : List ℕ) (t : DesignText) (c : Changes) where
  -- the one block has the words of the other with the changes
  abbrev pub IsBeside : Block → Block → Type 0
  IsBeside (Outside s) (Outside u) = token_texts u ≡ token_texts s
  IsBeside (Outside s) (Section kind first inner last) = ⊥
  IsBeside (Section kind first inner last) (Outside u) = ⊥
  IsBeside (Section kind first inner last) (Section other head others end) =
      (other ≡ kind) × (token_texts head ≡ first_words c kind first) × (map token_texts others ≡ inner_words text t c kind inner) × (token_texts end ≡ token_texts last)

  abbrev pub AreBeside : List Block → List Block → Type 0
  AreBeside [] [] = Unit {0}
  AreBeside [] (d ∷ ds) = ⊥
  AreBeside (b ∷ bs) [] = ⊥
  AreBeside (b ∷ bs) (d ∷ ds) = IsBeside b d × AreBeside bs ds

  record BlockBack (b : Block) (ss : List (List Token)) : Type 0 where
    block : Block
    is : ss ≡ statements_in block
    beside : IsBeside b block

  block_back : (b : Block) (ss : List (List Token)) → map token_texts ss ≡ block_words text t c b → BlockBack b ss
  block_back (Outside s) ss e =
      let one = first_map token_texts (token_texts s) [] ss e in
      record { block = Outside one.member; is = one.is ∙ ap (λ (l : List (List Token)). one.member ∷ l) (none_map token_texts one.rest one.second); beside = one.first }
  block_back (Section kind first inner last) ss e =
      let one = first_map token_texts (first_words c kind first) (inner_words text t c kind inner ++ token_texts last ∷ []) ss e in
      let cut = cut_map token_texts (inner_words text t c kind inner) (token_texts last ∷ []) one.rest one.second in
      let end = first_map token_texts (token_texts last) [] cut.behind cut.second in
      record {
        block = Section kind one.member cut.front end.member;
        is = one.is
            ∙ ap (λ (l : List (List Token)). one.member ∷ l) (cut.is ∙ ap (λ (l : List (List Token)). cut.front ++ l) (end.is ∙ ap (λ (l : List (List Token)). end.member ∷ l) (none_map token_texts end.rest end.second)));
        beside = (refl, one.first, cut.first, end.first);
      }

  -- statements of the words of blocks, and those behind them
  pub record BlocksBack (bs : List Block) (ss : List (List Token)) (ws : List (List (List ℕ))) : Type 0 where
    pub blocks : List Block
    pub rest : List (List Token)
    pub is : ss ≡ flat_map statements_in blocks ++ rest
    pub beside : AreBeside bs blocks
    pub words : map token_texts rest ≡ ws

  pub blocks_back : (bs : List Block) (ss : List (List Token)) (ws : List (List (List ℕ))) → map token_texts ss ≡ flat_map (block_words text t c) bs ++ ws → BlocksBack bs ss ws
  blocks_back [] ss ws e = record { blocks = []; rest = ss; is = refl; beside = tt; words = e }
  blocks_back (b ∷ bs) ss ws e =
      let cut = cut_map token_texts (block_words text t c b) (flat_map (block_words text t c) bs ++ ws) ss (e ∙ append_assoc (block_words text t c b) (flat_map (block_words text t c) bs) ws) in
      let one = block_back b cut.front cut.first in
      let r = blocks_back bs cut.behind ws cut.second in
      record {
        blocks = one.block ∷ r.blocks;
        rest = r.rest;
        is = cut.is ∙ ap (λ (l : List (List Token)). l ++ cut.behind) one.is ∙ ap (λ (l : List (List Token)). statements_in one.block ++ l) r.is ∙ sym (append_assoc (statements_in one.block) (flat_map statements_in r.blocks) r.rest);
        beside = (one.beside, r.beside);
        words = r.words;
      }

  -- without a section of a kind
  absent : (kind : SectionKind) (bs ds : List Block) → AreBeside bs ds → has_kind kind bs ≡ false → (within kind bs ≡ []) × (within kind ds ≡ [])
  absent kind [] [] h e = (refl, refl)
  absent kind [] (d ∷ ds) h e = absurd h
  absent kind (b ∷ bs) [] h e = absurd h
  absent kind (Outside s ∷ bs) (Outside u ∷ ds) h e = absent kind bs ds h.1 e
  absent kind (Outside s ∷ bs) (Section other head others end ∷ ds) h e = absurd h.0
  absent kind (Section other first inner last ∷ bs) (Outside u ∷ ds) h e = absurd h.0
  absent kind (Section j first inner last ∷ bs) (Section other head others end ∷ ds) h e =
      let f = or_parts (bytes_eq (word_of kind) (word_of j)) (has_kind kind bs) e in
      let r = absent kind bs ds h.1 f.1 in
      let g : bytes_eq (word_of kind) (word_of other) ≡ false = ap (λ (k : SectionKind). bytes_eq (word_of kind) (word_of k)) h.0.0 ∙ f.0 in
      (rw (f.0) r.0, rw g r.1)

  -- none is of the kind, or one is
  pub data OneOf (kind : SectionKind) (bs ds : List Block) : Type 0 where
    Absent : within kind bs ≡ [] → within kind ds ≡ [] → OneOf kind bs ds
    Found : (inner others : List (List Token)) → within kind bs ≡ inner → within kind ds ≡ others → map token_texts others ≡ inner_words text t c kind inner → OneOf kind bs ds

  -- with one block more in front that isn't of the kind
  pub one_of : (kind : SectionKind) (bs ds : List Block) → IsOnce bs → AreBeside bs ds → OneOf kind bs ds
  one_of kind [] [] once h = Absent refl refl
  one_of kind [] (d ∷ ds) once h = absurd h
  one_of kind (b ∷ bs) [] once h = absurd h
  one_of kind (Outside s ∷ bs) (Outside u ∷ ds) once h =
      elim (one_of kind bs ds once h.1) [
        | Absent e f ↦ Absent e f
        | Found inner others e f g ↦ Found inner others e f g
      ]
  one_of kind (Outside s ∷ bs) (Section other head others end ∷ ds) once h = absurd h.0
  one_of kind (Section other first inner last ∷ bs) (Outside u ∷ ds) once h = absurd h.0
  one_of kind (Section j first inner last ∷ bs) (Section other head others end ∷ ds) once h = of (bytes_eq (word_of kind) (word_of j)) refl (one_of kind bs ds once.1 h.1)
    where
      there : (b : Bool) → bytes_eq (word_of kind) (word_of j) ≡ b → bytes_eq (word_of kind) (word_of other) ≡ b
      there b e = ap (λ (k : SectionKind). bytes_eq (word_of kind) (word_of k)) h.0.0 ∙ e

      of : (b : Bool) → bytes_eq (word_of kind) (word_of j) ≡ b → OneOf kind bs ds → OneOf kind (Section j first inner last ∷ bs) (Section other head others end ∷ ds)
      of true e more =
          let same = same_kind kind j e in
          let none = absent kind bs ds h.1 (ap (λ (k : SectionKind). has_kind k bs) same ∙ once.0) in
          let f = there true e in
          Found inner others (rw e (ap (λ (l : List (List Token)). inner ++ l) none.0 ∙ append-nil inner)) (rw f (ap (λ (l : List (List Token)). others ++ l) none.1 ∙ append-nil others))
          (h.0.2 ∙ ap (λ (k : SectionKind). inner_words text t c k inner) (sym same))
      of false e more =
          let f = there false e in
          elim more [
            | Absent a b ↦ Absent (rw e a) (rw f b)
            | Found xs ys a b g ↦ Found xs ys (rw e a) (rw f b) g
          ]
