-- The sections of statements by their words.
use Rattle.std.proofs.Common.{◌≡◌, ℕ, true, false, List, [], ◌∷◌, ◌++◌, map, refl, sym, ap, ◌∙◌, append_assoc, codes, Some}
use Rattle.std.specs.List.{AllByRecursion as Each}
use Rattle.std.specs.Str.{bytes_eq}
use Rattle.base_types.proofs.TruthValues.{bytes_same}
use Rattle.token_forms.specs.Tokens.{Token}
use Rattle.token_forms.specs.Parts.{token_texts}
use Rattle.def_syntax.specs.Frames.{section_named, word_of, opened_by, is_end, is_head, NoneEnds, Section, IsBlock}
use Rattle.def_syntax.specs.declared.frame.SectionKind.{SectionKind}
use Rattle.def_layout.specs.NetForms.{AreIn}
use Rattle.def_syntax.proofs.FrameLaws.{each_append, each_front, each_behind}
use Rattle.made_law.specs.Designs.MadeStatements.{opening, closing, section}

-- statements cut where their words are
record CutWords (us ws : List (List (List ℕ))) (ss : List (List Token)) : Type 0 where
  front : List (List Token)
  behind : List (List Token)
  is : ss ≡ front ++ behind
  first : map token_texts front ≡ us
  second : map token_texts behind ≡ ws

cut_words : (us ws : List (List (List ℕ))) (ss : List (List Token)) → map token_texts ss ≡ us ++ ws → CutWords us ws ss
cut_words [] ws ss e = record { front = []; behind = ss; is = refl; first = refl; second = e }
cut_words (u ∷ us) ws [] e = absurd cc
cut_words (u ∷ us) ws (s ∷ ss) e =
    let here : token_texts s ≡ u = cc in
    let tail : map token_texts ss ≡ us ++ ws = cc in
    let c = cut_words us ws ss tail in
    record { front = s ∷ c.front; behind = c.behind; is = ap (λ (l : List (List Token)). s ∷ l) {y = c.front ++ c.behind} c.is; first = rw (here, c.first) refl; second = c.second }

-- the first one
pub record FirstWords (u : List (List ℕ)) (ws : List (List (List ℕ))) (ss : List (List Token)) : Type 0 where
  pub statement : List Token
  pub behind : List (List Token)
  pub is : ss ≡ statement ∷ behind
  pub first : token_texts statement ≡ u
  pub second : map token_texts behind ≡ ws

pub first_words : (u : List (List ℕ)) (ws : List (List (List ℕ))) (ss : List (List Token)) → map token_texts ss ≡ u ∷ ws → FirstWords u ws ss
first_words u ws [] e = absurd cc
first_words u ws (s ∷ ss) e = let here : token_texts s ≡ u = cc in let tail : map token_texts ss ≡ ws = cc in record { statement = s; behind = ss; is = refl; first = here; second = tail }

-- a section, and what stands behind it
pub record SectionCut (word count : List ℕ) (inner behind : List (List (List ℕ))) (ss : List (List Token)) : Type 0 where
  pub first : List Token
  pub within : List (List Token)
  pub last : List Token
  pub rest : List (List Token)
  pub is : ss ≡ (first ∷ (within ++ last ∷ [])) ++ rest
  pub opens : token_texts first ≡ opening word count
  pub inner_is : map token_texts within ≡ inner
  pub ends : token_texts last ≡ closing word
  pub rest_is : map token_texts rest ≡ behind

pub section_cut : (word count : List ℕ) (inner behind : List (List (List ℕ))) (ss : List (List Token)) → map token_texts ss ≡ section word count inner behind → SectionCut word count inner behind ss
section_cut word count inner behind ss e =
    let f = first_words (opening word count) (inner ++ closing word ∷ behind) ss e in
    let c = cut_words inner (closing word ∷ behind) f.behind f.second in
    let l = first_words (closing word) behind c.behind c.second in
    record {
      first = f.statement;
      within = c.front;
      last = l.statement;
      rest = l.behind;
      is =
          f.is ∙ ap (λ (x : List (List Token)). f.statement ∷ x) (c.is ∙ ap (λ (x : List (List Token)). c.front ++ x) l.is ∙ sym (append_assoc c.front (l.statement ∷ []) l.behind));
      opens = f.first;
      inner_is = c.first;
      ends = l.first;
      rest_is = l.second;
    }

-- what words say of a statement
pub no_end_of : (word : List ℕ) (w : List ℕ) (ws : List (List ℕ)) (s : List Token) → token_texts s ≡ w ∷ ws → bytes_eq w (codes "END") ≡ false → is_end word s ≡ false
no_end_of word w ws [] e differs = refl
no_end_of word w ws (t ∷ []) e differs = refl
no_end_of word w ws (t ∷ u ∷ []) e differs = let here : t.text ≡ w = cc in rw (here, differs) refl
no_end_of word w ws (t ∷ u ∷ v ∷ s) e differs = refl

pub end_of : (word : List ℕ) (s : List Token) → token_texts s ≡ closing word → is_end word s ≡ true
end_of word [] e = absurd cc
end_of word (t ∷ []) e = absurd cc
end_of word (t ∷ u ∷ v ∷ s) e = absurd cc
end_of word (t ∷ u ∷ []) e =
    let here : t.text ≡ codes "END" = cc in
    let there : u.text ≡ word = cc in
    rw (here, there, bytes_same word word refl) refl

pub other_end : (word other : List ℕ) (s : List Token) → token_texts s ≡ closing word → bytes_eq word other ≡ false → is_end other s ≡ false
other_end word other [] e differs = refl
other_end word other (t ∷ []) e differs = refl
other_end word other (t ∷ u ∷ v ∷ s) e differs = refl
other_end word other (t ∷ u ∷ []) e differs =
    let here : t.text ≡ codes "END" = cc in
    let there : u.text ≡ word = cc in
    rw (here, there, differs) refl

pub opened_of : (w : List ℕ) (ws : List (List ℕ)) (s : List Token) → token_texts s ≡ w ∷ ws → opened_by s ≡ section_named w
opened_of w ws [] e = absurd cc
opened_of w ws (t ∷ s) e = let here : t.text ≡ w = cc in ap section_named here

pub head_of : (word count : List ℕ) (s : List Token) → token_texts s ≡ opening word count → is_head s ≡ true
head_of word count [] e = absurd cc
head_of word count (t ∷ []) e = absurd cc
head_of word count (t ∷ u ∷ []) e = absurd cc
head_of word count (t ∷ u ∷ v ∷ w ∷ s) e = absurd cc
head_of word count (t ∷ u ∷ v ∷ []) e = let last : v.text ≡ codes ";" = cc in rw last refl

-- each of the statements begins with a dash
pub none_ends : {I : Type 0} (words : I → List (List ℕ)) (behind : I → List (List ℕ)) → ((x : I) → words x ≡ codes "-" ∷ behind x) → (word : List ℕ) (xs : List I) (ss : List (List Token)) → map token_texts ss ≡ map words xs
    → Each (λ s. is_end word s ≡ false) ss
none_ends words behind dash word [] [] e = tt
none_ends words behind dash word [] (s ∷ ss) e = absurd cc
none_ends words behind dash word (x ∷ xs) [] e = absurd cc
none_ends words behind dash word (x ∷ xs) (s ∷ ss) e =
    let here : token_texts s ≡ words x = cc in
    let tail : map token_texts ss ≡ map words xs = cc in
    (no_end_of word (codes "-") (behind x) s (here ∙ dash x) refl, none_ends words behind dash word xs ss tail)

-- a section is a block
pub block_of : (kind : SectionKind) (count : List ℕ) (inner behind : List (List (List ℕ))) (ss : List (List Token)) → (c : SectionCut (word_of kind) count inner behind ss) → section_named (word_of kind) ≡ Some kind
    → NoneEnds kind c.within → IsBlock (Section kind c.first c.within c.last)
block_of kind count inner behind ss c named none =
    (opened_of (word_of kind) (count ∷ codes ";" ∷ []) c.first c.opens ∙ named, none, end_of (word_of kind) c.last c.ends)

-- none of its statements is END DESIGN
pub none_closes : (word count : List ℕ) (inner behind : List (List (List ℕ))) (ss : List (List Token)) → (c : SectionCut word count inner behind ss) → bytes_eq word (codes "END") ≡ false → bytes_eq word (codes "DESIGN") ≡ false
    → Each (λ s. is_end (codes "DESIGN") s ≡ false) c.within → Each (λ s. is_end (codes "DESIGN") s ≡ false) (c.first ∷ (c.within ++ c.last ∷ []))
none_closes word count inner behind ss c no_end no_design within = (
  no_end_of (codes "DESIGN") word (count ∷ codes ";" ∷ []) c.first c.opens no_end,
  each_append (λ s. is_end (codes "DESIGN") s ≡ false) c.within (c.last ∷ []) within (other_end word (codes "DESIGN") c.last c.ends no_design, tt),
)

-- of statements in a text those of the section are so too
pub record InsideOf (text : List ℕ) (within rest : List (List Token)) : Type 0 where
  pub inner : Each (AreIn text) within
  pub behind : Each (AreIn text) rest

pub inside_of : (text : List ℕ) (first last : List Token) (within rest : List (List Token)) → Each (AreIn text) ((first ∷ (within ++ last ∷ [])) ++ rest) → InsideOf text within rest
inside_of text first last within rest h =
    let front = each_front (AreIn text) (first ∷ (within ++ last ∷ [])) rest h in
    record { inner = each_front (AreIn text) within (last ∷ []) front.1; behind = each_behind (AreIn text) (first ∷ (within ++ last ∷ [])) rest h }
