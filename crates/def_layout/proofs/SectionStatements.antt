-- The statements of the section's words.
use Rattle.std.proofs.Common.{◌≡◌, ℕ, ◌+◌, true, false, not, List, [], ◌∷◌, ◌++◌, length, take, drop, map, refl, sym, ap, Some, min, ◌∙◌, subst, codes, decimal, append_assoc, arith}
use Rattle.std.specs.List.{flat_map, list_all}
use Rattle.std.specs.Str.{bytes_eq}
use Rattle.std.proofs.Math.Seq.{drop-append_seam, take-append_seam}
use Rattle.std.proofs.lemmas.Bool.{and_parts, not-true}
use Rattle.token_forms.specs.Tokens.{Token}
use Rattle.token_forms.specs.Parts.{token_texts}
use Rattle.def_tokens.specs.DefStatements.{count_with, statement_len, def_statements}
use Rattle.def_tokens.proofs.DefCuts.{first_law}
use Rattle.def_syntax.specs.Grammar.{chain}
use Rattle.def_syntax.specs.Frames.{section_named, opened_by, is_end, is_head, NoneEnds}
use Rattle.def_syntax.specs.declared.frame.SectionKind.TheVariants.{ScanChains}
use Rattle.def_layout.specs.declared.chains.ChainLayout.{ChainLayout}
use Rattle.def_layout.specs.Words.{is_whole, HasWords}
use Rattle.def_layout.specs.Sections.{head_words, end_line, section_text}
use Rattle.def_layout.specs.SectionForms.{is_written_well, read_chain, chain_words, section_words, AreSpelled, IsSection, IsSectionText}
use Rattle.def_layout.proofs.SectionWords.{is_part, part_number, front_words, words_cut, words_parts, section_has}
use Rattle.def_layout.proofs.Closing.{are_free}
use Rattle.def_layout.proofs.Spellings.{cut_texts}
use Rattle.def_layout.proofs.ChainForms.{chain_spells}

count_front : (s rest : List Token) (ws : List (List ℕ)) → token_texts s ≡ ws ++ codes ";" ∷ [] → are_free ws ≡ true → count_with (codes ";") (s ++ rest) ≡ length s
count_front [] rest [] e all = absurd cc
count_front [] rest (w ∷ ws) e all = absurd cc
count_front (t ∷ []) rest [] e all = let here : t.text ≡ codes ";" = cc in rw here refl
count_front (t ∷ u ∷ s) rest [] e all = absurd cc
count_front (t ∷ s) rest (w ∷ ws) e all =
    let h = and_parts (not (bytes_eq w (codes ";"))) (are_free ws) all in
    let here : t.text ≡ w = cc in
    let free = not-true _ h.0 in
    let tail : token_texts s ≡ ws ++ codes ";" ∷ [] = cc in
    let r = count_front s rest ws tail h.1 in
    rw (here, free, r) (omega arith)

-- a statement whose words are no semicolons, and whose first word opens no other kind
pub statement_front : (t : Token) (s rest : List Token) (w : List ℕ) (ws : List (List ℕ)) → token_texts (t ∷ s) ≡ (w ∷ ws) ++ codes ";" ∷ [] → are_free (w ∷ ws) ≡ true
    → bytes_eq w (codes "END") ≡ false → bytes_eq w (codes "PROPERTYDEFINITIONS") ≡ false → bytes_eq w (codes "BEGINEXT") ≡ false → def_statements (t ∷ s ++ rest) ≡ (t ∷ s) ∷ def_statements rest
unfolding statement_len
statement_front t s rest w ws e all a b c =
    let here : t.text ≡ w = cc in
    let len : statement_len (t ∷ (s ++ rest)) ≡ length (t ∷ s) = rw (here, a, b, c) (rw (← here) (count_front (t ∷ s) rest (w ∷ ws) e all)) in
    first_law t (s ++ rest) ∙ ap (λ (n : ℕ). take n (t ∷ (s ++ rest)) ∷ def_statements (drop n (t ∷ (s ++ rest)))) len
    ∙ ap (λ (x : List Token). x ∷ def_statements (drop (length (t ∷ s)) (t ∷ (s ++ rest)))) (take-append_seam (t ∷ s) rest)
    ∙ ap (λ (x : List Token). (t ∷ s) ∷ def_statements x) (drop-append_seam (t ∷ s) rest)

free_parts : (ws : List (List ℕ)) → list_all is_part ws ≡ true → are_free ws ≡ true
free_parts [] all = refl
free_parts (w ∷ ws) all =
    let h = and_parts (is_part w) (list_all is_part ws) all in
    rw ((and_parts (is_whole w) (not (bytes_eq w (codes ";"))) h.0).1) (free_parts ws h.1)

-- a statement of a chain, whatever stands behind it
chain_statement : (c : ChainLayout) (s rest : List Token) → is_written_well c ≡ true → token_texts s ≡ chain_words c → def_statements (s ++ rest) ≡ s ∷ def_statements rest
chain_statement c [] rest well e = let f : [] ≡ front_words c ++ codes ";" ∷ [] = e ∙ words_cut c in absurd cc
chain_statement c (t ∷ s) rest well e = statement_front t s rest (codes "-") (drop 1 (front_words c)) (e ∙ words_cut c) (free_parts (front_words c) (words_parts c well)) refl refl refl

begins_chain : (c : ChainLayout) (s : List Token) → token_texts s ≡ chain_words c → is_end (codes "SCANCHAINS") s ≡ false
begins_chain c [] e = refl
begins_chain c (t ∷ []) e = refl
begins_chain c (t ∷ u ∷ []) e = let f : t.text ∷ u.text ∷ [] ≡ front_words c ++ codes ";" ∷ [] = e ∙ words_cut c in let here : t.text ≡ codes "-" = cc in rw here refl
begins_chain c (t ∷ u ∷ v ∷ s) e = refl

-- the statements of chains, and what stands behind them
record Chains (cs : List ChainLayout) (ts : List Token) : Type 0 where
  inner : List (List Token)
  is : (rest : List Token) → def_statements (ts ++ rest) ≡ inner ++ def_statements rest
  none : NoneEnds ScanChains inner
  are : AreSpelled chain (map read_chain cs) inner

chains_of : (cs : List ChainLayout) (ts : List Token) → list_all is_written_well cs ≡ true → token_texts ts ≡ flat_map chain_words cs → Chains cs ts
chains_of [] [] well e = record { inner = []; is = λ rest. refl; none = tt; are = tt }
chains_of [] (t ∷ ts) well e = absurd cc
chains_of (c ∷ cs) ts well e =
    let h = and_parts (is_written_well c) (list_all is_written_well cs) well in
    let cut = cut_texts ts (chain_words c) (flat_map chain_words cs) e in
    let r = chains_of cs cut.back h.1 cut.second in
    record {
      inner = cut.front ∷ r.inner;
      is = λ rest.
          ap (λ (x : List Token). def_statements (x ++ rest)) cut.is ∙ ap def_statements (append_assoc cut.front cut.back rest) ∙ chain_statement c cut.front (cut.back ++ rest) h.0 cut.first ∙ ap (λ (x : List (List Token)). cut.front ∷ x) (r.is rest);
      none = (begins_chain c cut.front cut.first, r.none);
      are = (chain_spells c h.0 cut.front cut.first, r.are);
    }

-- the first and the last statement
record Opens (cs : List ChainLayout) (s : List Token) : Type 0 where
  is : (rest : List Token) → def_statements (s ++ rest) ≡ s ∷ def_statements rest
  opened : opened_by s ≡ Some ScanChains
  well : is_head s ≡ true

opens : (cs : List ChainLayout) (s : List Token) → token_texts s ≡ head_words cs → Opens cs s
unfolding section_named
opens cs [] e = absurd cc
opens cs (t ∷ []) e = absurd cc
opens cs (t ∷ u ∷ []) e = absurd cc
opens cs (t ∷ u ∷ v ∷ w ∷ s) e = absurd cc
opens cs (t ∷ u ∷ v ∷ []) e =
    let here : t.text ≡ codes "SCANCHAINS" = cc in
    let last : v.text ≡ codes ";" = cc in
    record {
      is = λ rest. statement_front t (u ∷ v ∷ []) rest (codes "SCANCHAINS") (decimal (length cs) ∷ []) e (free_parts (codes "SCANCHAINS" ∷ decimal (length cs) ∷ []) (rw (part_number (length cs)) refl)) refl refl refl;
      opened = rw here refl;
      well = rw last refl;
    }

record Ends (s : List Token) : Type 0 where
  is : (rest : List Token) → def_statements (s ++ rest) ≡ s ∷ def_statements rest
  ends : is_end (codes "SCANCHAINS") s ≡ true

ends : (s : List Token) → token_texts s ≡ end_line.words → Ends s
unfolding statement_len
ends [] e = absurd cc
ends (t ∷ []) e = absurd cc
ends (t ∷ u ∷ v ∷ s) e = absurd cc
ends (t ∷ u ∷ []) e =
    let here : t.text ≡ codes "END" = cc in
    let there : u.text ≡ codes "SCANCHAINS" = cc in
    record {
      is = λ rest.
          let two : min 2 (1 + length (u ∷ rest)) ≡ 2 = omega arith in
          let len : statement_len (t ∷ u ∷ rest) ≡ 2 = rw (here) two in
          first_law t (u ∷ rest) ∙ ap (λ (n : ℕ). take n (t ∷ u ∷ rest) ∷ def_statements (drop n (t ∷ u ∷ rest))) len;
      ends = rw (here, there) refl;
    }

-- tokens of the section's words are the section of its chains
pub section_reads : (cs : List ChainLayout) → list_all is_written_well cs ≡ true → (ts : List Token) → token_texts ts ≡ section_words cs → IsSection cs ts
section_reads cs well ts e =
    let a = cut_texts ts (head_words cs) (flat_map chain_words cs ++ end_line.words) e in
    let b = cut_texts a.back (flat_map chain_words cs) end_line.words a.second in
    let head = opens cs a.front a.first in
    let inner = chains_of cs b.front well b.first in
    let last = ends b.back b.second in
    record {
      head = a.front;
      inner = inner.inner;
      last = b.back;
      is = λ rest.
          ap (λ (x : List Token). def_statements (x ++ rest)) a.is ∙ ap def_statements (append_assoc a.front a.back rest) ∙ head.is (a.back ++ rest)
          ∙ ap (λ (x : List Token). a.front ∷ def_statements (x ++ rest)) b.is ∙ ap (λ (x : List Token). a.front ∷ def_statements x) (append_assoc b.front b.back rest)
          ∙ ap (λ (x : List (List Token)). a.front ∷ x) (inner.is (b.back ++ rest))
          ∙ ap (λ (x : List (List Token)). a.front ∷ (inner.inner ++ x)) (last.is rest);
      block = (head.opened, inner.none, last.ends);
      well = head.well;
      chains = inner.are;
    }

pub section_text_is : (cs : List ChainLayout) (text : List ℕ) → text ≡ section_text cs → list_all is_written_well cs ≡ true → IsSectionText cs text
section_text_is cs text e well = record { words = subst (λ (t : List ℕ). HasWords t (section_words cs)) (sym e) (section_has cs well); reads = section_reads cs well }
