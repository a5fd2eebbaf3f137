-- The sections of a text with their edits.
use Rattle.std.proofs.Common.{◌≡◌, ℕ, Bool, true, false, not, ◌||◌, if◌then◌else◌, List, [], ◌∷◌, ◌++◌, map, drop, codes, Some, None, refl, sym, ap, ◌∙◌, subst, append_assoc, append-nil, inl}
use Rattle.std.specs.List.{flat_map, list_all, AllByRecursion as Each}
use Rattle.std.specs.Str.{bytes_eq}
use Rattle.std.proofs.lemmas.List.Concat.{flat_map-append}
use Rattle.std.proofs.lemmas.Bool.{and_parts}
use Rattle.base_types.specs.declared.span.Span.{Span}
use Rattle.base_types.proofs.TruthValues.{bytes_are}
use Rattle.token_forms.specs.Tokens.{Token, place_of, last_end_of}
use Rattle.token_forms.specs.Parts.{token_texts}
use Rattle.splice.specs.declared.Edit.{Edit}
use Rattle.def_tokens.specs.DefTokens.{tokens_in}
use Rattle.def_syntax.specs.Grammar.{design_pin, net}
use Rattle.def_syntax.specs.Frames.{word_of, section_named, opened_by, is_end, Block, Outside, Section, IsBlock, statements_in, within, start_of}
use Rattle.def_syntax.specs.Designs.{AreLocated, section_in}
use Rattle.def_syntax.specs.declared.design.Section.{Section as SectionRow}
use Rattle.def_syntax.specs.declared.design.DesignText.{DesignText}
use Rattle.def_syntax.specs.declared.frame.SectionKind.{SectionKind}
use Rattle.def_syntax.specs.declared.frame.SectionKind.TheVariants.{Components, Pins, Nets, ScanChains}
use Rattle.def_syntax.proofs.FrameLaws.{each_front, each_behind}
use Rattle.def_layout.specs.declared.chains.ChainLayout.{ChainLayout}
use Rattle.def_layout.specs.Sections.{head_words, end_line, section_text}
use Rattle.def_layout.specs.SectionForms.{is_written_well, chain_words, section_words}
use Rattle.def_edit.specs.Seams.{begins_quote, is_firm, ends_plain}
use Rattle.def_edit.proofs.seams.Words.{parted_law}
use Rattle.def_edit.specs.Alike.Changes.{Changes, inner_words, block_words}
use Rattle.def_edit.proofs.alike.Statements.{Strict}
use Rattle.def_edit.proofs.alike.Blocks.{has_kind, same_kind, IsOnce}
use Rattle.def_edit.specs.MovedText.{section_edits}
use Rattle.def_edit.proofs.EditsRuns.{IsEdited, unedited, edited_both, one_edited, edited_as}
use Rattle.def_edit.proofs.EditsSections.{section_stands, section_begins}
use Rattle.def_edit.proofs.EditsMoves.{AreChangedWell}
use Rattle.def_edit.proofs.EditsNets.{flat, flat_words, flat_texts, nets_edited}
use Rattle.def_edit.proofs.EditsPins.{AreWhole, pins_edited}

-- what holds of the statements within a section of a kind
abbrev pub BlockHas : (SectionKind → List (List Token) → Type 0) → Block → Type 0
BlockHas P (Outside s) = Unit {0}
BlockHas P (Section kind first inner last) = P kind inner

same_word : (j : SectionKind) → bytes_eq (word_of j) (word_of j) ≡ true
same_word Components = refl
same_word Pins = refl
same_word Nets = refl
same_word ScanChains = refl

none_within : (kind : SectionKind) (bs : List Block) → has_kind kind bs ≡ false → within kind bs ≡ []
none_within kind [] e = refl
none_within kind (Outside s ∷ bs) e = none_within kind bs e
none_within kind (Section j first inner last ∷ bs) e = of (bytes_eq (word_of kind) (word_of j)) e (none_within kind bs)
  where
    of : (b : Bool) → (b || has_kind kind bs) ≡ false → (has_kind kind bs ≡ false → within kind bs ≡ []) → (if b then inner else []) ++ within kind bs ≡ []
    of true f more = absurd cc
    of false f more = more f

-- where no kind stands twice, a section has all statements of its kind
pub each_inner : (P : SectionKind → List (List Token) → Type 0) (bs : List Block) → IsOnce bs → ((kind : SectionKind) → has_kind kind bs ≡ true → P kind (within kind bs)) → Each (BlockHas P) bs
each_inner P [] once h = tt
each_inner P (Outside s ∷ bs) once h = (tt, each_inner P bs once h)
each_inner P (Section j first inner last ∷ bs) once h =
    let all : within j (Section j first inner last ∷ bs) ≡ inner = rw (same_word j) (ap (λ (l : List (List Token)). inner ++ l) (none_within j bs once.0) ∙ append-nil inner) in
    (subst (P j) all (h j (rw (same_word j) refl)), each_inner P bs once.1 (λ kind has. of kind has (bytes_eq (word_of kind) (word_of j)) refl))
  where
    of : (kind : SectionKind) → has_kind kind bs ≡ true → (b : Bool) → bytes_eq (word_of kind) (word_of j) ≡ b → P kind (within kind bs)
    of kind has true e =
        let same = same_kind kind j e in
        let no : true ≡ false = sym has ∙ ap (λ (k : SectionKind). has_kind k bs) same ∙ once.0 in
        absurd cc
    of kind has false e =
        let rest : within kind (Section j first inner last ∷ bs) ≡ within kind bs = rw e refl in
        let there : has_kind kind (Section j first inner last ∷ bs) ≡ true = rw (e, has) refl in
        subst (P kind) rest (h kind there)

-- the END of a section
record IsEnd (word : List ℕ) (ts : List Token) : Type 0 where
  first : Token
  second : Token
  is : ts ≡ first ∷ second ∷ []
  ends : first.text ≡ codes "END"
  named : second.text ≡ word

end_tokens : (word : List ℕ) (ts : List Token) → is_end word ts ≡ true → IsEnd word ts
end_tokens word [] e = absurd cc
end_tokens word (t ∷ []) e = absurd cc
end_tokens word (t ∷ u ∷ []) e =
    let h = and_parts (bytes_eq t.text (codes "END")) (bytes_eq u.text word) e in
    record { first = t; second = u; is = refl; ends = bytes_are t.text (codes "END") h.0; named = bytes_are u.text word h.1 }
end_tokens word (t ∷ u ∷ v ∷ ts) e = absurd cc

end_firm : (word : List ℕ) (ts more : List Token) → is_end word ts ≡ true → is_firm (ts ++ more) ≡ true
end_firm word ts more e = let k = end_tokens word ts e in rw (k.is, k.ends) refl

opened_firm : (kind : SectionKind) (t : Token) → section_named t.text ≡ Some kind → not (bytes_eq t.text (codes ";")) ≡ true
unfolding section_named
opened_firm kind t e = of (bytes_eq t.text (codes ";")) refl
  where
    of : (b : Bool) → bytes_eq t.text (codes ";") ≡ b → not (bytes_eq t.text (codes ";")) ≡ true
    of false f = rw f refl
    of true f =
        let is = bytes_are t.text (codes ";") f in
        let no : None ≡ Some kind = rw is at e in
        absurd cc

-- the last token of some
last_end : (f : Token) (xs : List Token) (a b : Token) → last_end_of f (xs ++ a ∷ b ∷ []) ≡ b.end
last_end f [] a b = refl
last_end f (x ∷ xs) a b = last_end x xs a b

last_plain : (f : Token) (xs : List Token) (a b : Token) → ends_plain (f ∷ (xs ++ a ∷ b ∷ [])) ≡ not (begins_quote b.text)
last_plain f [] a b = refl
last_plain f (x ∷ xs) a b = last_plain x xs a b

words_of_chains : (cs : List ChainLayout) → flat_words (map chain_words cs) ≡ flat_map chain_words cs
words_of_chains [] = refl
words_of_chains (c ∷ cs) = ap (λ (l : List (List ℕ)). chain_words c ++ l) (words_of_chains cs)

-- tokens around those within
around : (text : List ℕ) (first : List Token) (inner : List (List Token)) (last : List Token) (es : List Edit) (ws : List (List (List ℕ))) → IsEdited text (flat inner) es (flat_words ws)
    → IsEdited text (flat (first ∷ (inner ++ last ∷ []))) es (flat_words (token_texts first ∷ (ws ++ token_texts last ∷ [])))
around text first inner last es ws h =
    let behind = edited_both text (flat inner) last es [] (flat_words ws) (token_texts last) h (unedited text last) in
    let all = edited_both text first (flat inner ++ last) [] (es ++ []) (token_texts first) (flat_words ws ++ token_texts last) (unedited text first) behind in
    let ts : first ++ (flat inner ++ last) ≡ flat (first ∷ (inner ++ last ∷ [])) =
    ap (λ (l : List Token). first ++ l) (ap (λ (l : List Token). flat inner ++ l) (sym (append-nil last)) ∙ sym (flat_map-append (λ s. s) inner (last ∷ [])))
    in
    let vs : token_texts first ++ (flat_words ws ++ token_texts last) ≡ flat_words (token_texts first ∷ (ws ++ token_texts last ∷ [])) =
    ap (λ (l : List (List ℕ)). token_texts first ++ l) (ap (λ (l : List (List ℕ)). flat_words ws ++ l) (sym (append-nil (token_texts last))) ∙ sym (flat_map-append (λ w. w) ws (token_texts last ∷ [])))
    in
    edited_as text _ _ _ es _ _ ts (append-nil es) vs all

-- the section SCANCHAINS
chains_edited : (text : List ℕ) (cs : List ChainLayout) (first : List Token) (inner : List (List Token)) (last front behind : List Token) → tokens_in text ≡ front ++ (flat (first ∷ (inner ++ last ∷ [])) ++ behind)
    → list_all is_written_well cs ≡ true → opened_by first ≡ Some ScanChains → is_end (word_of ScanChains) last ≡ true
    → IsEdited text (flat (first ∷ (inner ++ last ∷ []))) (record { span = record { start = start_of first; end = (place_of last).end }; text = section_text cs } ∷ []) (flat_words (head_words cs ∷ (map chain_words cs ++ token_texts last ∷ [])))
chains_edited text cs [] inner last front behind is well opened ends = absurd cc
chains_edited text cs (f ∷ fs) inner last front behind is well opened ends =
    let k = end_tokens (word_of ScanChains) last ends in
    let run = flat ((f ∷ fs) ∷ (inner ++ last ∷ [])) in
    let a = k.first in
    let b = k.second in
    let shape : run ≡ f ∷ ((fs ++ flat inner) ++ a ∷ b ∷ []) =
    ap (λ (l : List Token). f ∷ (fs ++ l)) (flat_map-append (λ s. s) inner (last ∷ []) ∙ ap (λ (l : List Token). flat inner ++ l) (append-nil last ∙ k.is)) ∙ ap (λ (l : List Token). f ∷ l) (sym (append_assoc fs (flat inner) (a ∷ b ∷ [])))
    in
    let no_quote : not (begins_quote b.text) ≡ true = rw (k.named) refl in
    let plain : ends_plain run ≡ true = ap ends_plain shape ∙ last_plain f (fs ++ flat inner) a b ∙ no_quote in
    let place : place_of run ≡ record { start = f.start; end = (place_of last).end } =
    ap place_of shape ∙ ap (λ (n : ℕ). record { start = f.start; end = n }) (last_end f (fs ++ flat inner) a b ∙ sym (ap (λ (l : List Token). (place_of l).end) k.is))
    in
    let edit : Edit = record { span = place_of run; text = section_text cs } in
    let parted = parted_law text front run behind is plain in
    let one = one_edited text [] run [] edit (section_words cs) (opened_firm ScanChains f opened) refl (section_begins cs) (section_stands cs (drop edit.span.end text) well parted) (inl plain) in
    let edits : edit ∷ [] ≡ record { span = record { start = f.start; end = (place_of last).end }; text = section_text cs } ∷ [] = ap (λ (p : Span). record { span = p; text = section_text cs } ∷ []) place in
    let end_words : token_texts last ++ [] ≡ end_line.words = append-nil (token_texts last) ∙ ap token_texts k.is ∙ rw (k.ends, k.named) refl in
    let words : section_words cs ++ [] ≡ flat_words (head_words cs ∷ (map chain_words cs ++ token_texts last ∷ [])) =
    append-nil (section_words cs)
    ∙ ap (λ (l : List (List ℕ)). head_words cs ++ l)
    (ap (λ (l : List (List ℕ)). l ++ end_line.words) (sym (words_of_chains cs)) ∙ ap (λ (l : List (List ℕ)). flat_words (map chain_words cs) ++ l) (sym end_words) ∙ sym (flat_map-append (λ w. w) (map chain_words cs) (token_texts last ∷ [])))
    in
    edited_as text (run ++ []) run (edit ∷ []) _ _ _ (append-nil run) edits words one

module _ (text : List ℕ) (t : DesignText) (c : Changes) where
  -- the statements within a section are those of the text
  abbrev pub InnerIs : SectionKind → List (List Token) → Type 0
  InnerIs Components inner = Unit {0}
  InnerIs Pins inner = AreLocated design_pin text inner t.pins
  InnerIs Nets inner = AreLocated net text inner t.nets
  InnerIs ScanChains inner = Unit {0}

  module _ (whole : AreWhole c.pins) (changed : AreChangedWell t.nets c.nets) (well : list_all is_written_well c.chains ≡ true) where
    section_edited : (kind : SectionKind) (first : List Token) (inner : List (List Token)) (last front behind : List Token) → tokens_in text ≡ front ++ (flat (first ∷ (inner ++ last ∷ [])) ++ behind)
        → Each Strict inner → IsBlock (Section kind first inner last) → InnerIs kind inner
        → IsEdited text (flat (first ∷ (inner ++ last ∷ []))) (section_edits text t c kind (record { start = start_of first; end = (place_of last).end })) (flat_words (block_words text t c (Section kind first inner last)))
    section_edited Components first inner last front behind is strict block h =
        around text first inner last [] (map token_texts inner) (edited_as text (flat inner) (flat inner) [] [] _ _ refl refl (flat_texts inner) (unedited text (flat inner)))
    section_edited Pins first inner last front behind is strict block h = around text first inner last _ (inner_words text t c Pins inner) (pins_edited text inner t.pins c.pins h strict whole)
    section_edited Nets first inner last front behind is strict block h =
        let here : tokens_in text ≡ (front ++ first) ++ (flat inner ++ (last ++ behind)) =
        is ∙ ap (λ (l : List Token). front ++ l) (append_assoc first (flat (inner ++ last ∷ [])) behind) ∙ sym (append_assoc front first (flat (inner ++ last ∷ []) ++ behind))
        ∙ ap (λ (l : List Token). (front ++ first) ++ (l ++ behind)) (flat_map-append (λ s. s) inner (last ∷ []) ∙ ap (λ (l : List Token). flat inner ++ l) (append-nil last))
        ∙ ap (λ (l : List Token). (front ++ first) ++ l) (append_assoc (flat inner) last behind)
        in
        around text first inner last _ (inner_words text t c Nets inner) (nets_edited text inner t.nets c.nets (front ++ first) (last ++ behind) here (end_firm (word_of Nets) last behind block.2) h changed)
    section_edited ScanChains first inner last front behind is strict block h = chains_edited text c.chains first inner last front behind is well block.0 block.2

    -- all blocks
    pub blocks_edited : (bs : List Block) (front behind : List Token) → tokens_in text ≡ front ++ (flat (flat_map statements_in bs) ++ behind) → Each Strict (flat_map statements_in bs) → Each IsBlock bs → Each (BlockHas InnerIs) bs
        → IsEdited text (flat (flat_map statements_in bs)) (flat_map (λ (s : SectionRow). section_edits text t c s.kind s.span) (flat_map (section_in text) bs)) (flat_words (flat_map (block_words text t c) bs))
    blocks_edited [] front behind is strict blocks h = unedited text []
    blocks_edited (Outside s ∷ bs) front behind is strict blocks h =
        let there : tokens_in text ≡ (front ++ s) ++ (flat (flat_map statements_in bs) ++ behind) =
        is ∙ ap (λ (l : List Token). front ++ l) (append_assoc s (flat (flat_map statements_in bs)) behind) ∙ sym (append_assoc front s (flat (flat_map statements_in bs) ++ behind))
        in
        edited_both text s (flat (flat_map statements_in bs)) [] _ (token_texts s) _ (unedited text s) (blocks_edited bs (front ++ s) behind there strict.1 blocks.1 h.1)
    blocks_edited (Section kind first inner last ∷ bs) front behind is strict blocks h =
        let ss = first ∷ (inner ++ last ∷ []) in
        let more = flat_map statements_in bs in
        let cut : flat (ss ++ more) ≡ flat ss ++ flat more = flat_map-append (λ s. s) ss more in
        let here : tokens_in text ≡ front ++ (flat ss ++ (flat more ++ behind)) =
        is ∙ ap (λ (l : List Token). front ++ (l ++ behind)) cut ∙ ap (λ (l : List Token). front ++ l) (append_assoc (flat ss) (flat more) behind)
        in
        let there : tokens_in text ≡ (front ++ flat ss) ++ (flat more ++ behind) = here ∙ sym (append_assoc front (flat ss) (flat more ++ behind)) in
        let own = each_front Strict ss more strict in
        let one = section_edited kind first inner last front (flat more ++ behind) here (each_front Strict inner (last ∷ []) own.1) blocks.0 h.0 in
        let rest = blocks_edited bs (front ++ flat ss) behind there (each_behind Strict ss more strict) blocks.1 h.1 in
        let both_are = edited_both text (flat ss) (flat more) _ _ _ _ one rest in
        let words = sym (flat_map-append (λ w. w) (block_words text t c (Section kind first inner last)) (flat_map (block_words text t c) bs)) in
        edited_as text _ _ _ _ _ _ (sym cut) refl words both_are
