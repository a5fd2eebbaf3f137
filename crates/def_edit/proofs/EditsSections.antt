-- The section SCANCHAINS that is written, before what stands behind it.
use Rattle.std.proofs.Common.{◌≡◌, ℕ, true, false, List, [], ◌∷◌, ◌++◌, length, codes, decimal, refl, sym, ap, ◌∙◌, subst, append_assoc, inl, inr}
use Rattle.std.specs.List.{flat_map, list_all}
use Rattle.std.proofs.lemmas.List.Folds.{list_all-append}
use Rattle.std.proofs.lemmas.List.Concat.{flat_map-append}
use Rattle.std.proofs.lemmas.Bool.{and_parts}
use Rattle.token_forms.specs.Classes.{But, is_in}
use Rattle.def_tokens.specs.DefSplit.{goes_on}
use Rattle.def_syntax.specs.Words.{marks}
use Rattle.def_layout.specs.declared.chains.ChainLayout.{ChainLayout}
use Rattle.def_layout.specs.Words.{texts, is_whole, HasWords, joined}
use Rattle.def_layout.specs.Sections.{Line, line_text, list_lines, floating_lines, partition_lines, terminal_line, chain_lines, head_words, end_line, section_text}
use Rattle.def_layout.specs.SectionForms.{is_written_well, chain_words, section_words}
use Rattle.def_layout.proofs.WordTokens.{words_behind, blank_words, blank_texts, joined_law, one_word}
use Rattle.def_layout.proofs.NumberWords.{number_name}
use Rattle.def_layout.proofs.SectionWords.{is_whole_line, is_part, is_part_line, lines_have, chain_front, last_line, chain_parts, section_has}
use Rattle.def_edit.specs.Seams.{begins_end, IsParted, HasWordsBefore}
use Rattle.def_edit.proofs.EditsWords.{ends_texts}

chain_cut : (c : ChainLayout) → chain_lines c ≡ chain_front c ++ last_line ∷ []
unfolding chain_lines
chain_cut c =
    let stop = terminal_line (codes "STOP") c.stop ∷ [] in
    let ordered = flat_map (list_lines (codes "ORDERED")) c.ordered in
    let start = terminal_line (codes "START") c.start ∷ (floating_lines c.floating ++ (ordered ++ stop)) in
    rw (append_assoc (partition_lines c.partition) start (last_line ∷ []), append_assoc (floating_lines c.floating) (ordered ++ stop) (last_line ∷ []), append_assoc ordered stop (last_line ∷ [])) refl

words_whole : (ws : List (List ℕ)) → list_all is_part ws ≡ true → list_all is_whole ws ≡ true
words_whole [] all = refl
words_whole (w ∷ ws) all =
    let h = and_parts (is_part w) (list_all is_part ws) all in
    rw ((and_parts (is_whole w) _ h.0).0) (words_whole ws h.1)

lines_whole : (ls : List Line) → list_all is_part_line ls ≡ true → list_all is_whole_line ls ≡ true
lines_whole [] all = refl
lines_whole (l ∷ ls) all =
    let h = and_parts (is_part_line l) (list_all is_part_line ls) all in
    rw (words_whole l.words h.0) (lines_whole ls h.1)

chain_whole : (c : ChainLayout) → is_written_well c ≡ true → list_all is_whole_line (chain_lines c) ≡ true
chain_whole c h =
    ap (λ (ls : List Line). list_all is_whole_line ls) (chain_cut c) ∙ list_all-append is_whole_line (chain_front c) (last_line ∷ []) ∙ rw (lines_whole (chain_front c) (chain_parts c h)) refl

chains_whole : (cs : List ChainLayout) → list_all is_written_well cs ≡ true → list_all is_whole_line (flat_map chain_lines cs) ≡ true
chains_whole [] all = refl
chains_whole (c ∷ cs) all =
    let h = and_parts (is_written_well c) (list_all is_written_well cs) all in
    list_all-append is_whole_line (chain_lines c) (flat_map chain_lines cs) ∙ rw (chain_whole c h.0, chains_whole cs h.1) refl

words_of_lines : (cs : List ChainLayout) → flat_map (λ l. l.words) (flat_map chain_lines cs) ≡ flat_map chain_words cs
words_of_lines [] = refl
words_of_lines (c ∷ cs) = flat_map-append (λ l. l.words) (chain_lines c) (flat_map chain_lines cs) ∙ ap (λ (x : List (List ℕ)). chain_words c ++ x) (words_of_lines cs)

-- the section but for its last word
abbrev section_front : List ChainLayout → List ℕ
section_front cs = joined (head_words cs) ++ (flat_map line_text (flat_map chain_lines cs) ++ 10 ∷ codes "END")

front_has : (cs : List ChainLayout) → list_all is_written_well cs ≡ true → HasWords (section_front cs) (head_words cs ++ (flat_map chain_words cs ++ codes "END" ∷ []))
front_has cs well =
    let number : is_whole (decimal (length cs)) ≡ true = (and_parts (is_whole (decimal (length cs))) (is_in (But marks) (decimal (length cs))) (number_name (length cs))).0 in
    let head : list_all is_whole (head_words cs) ≡ true = rw number refl in
    let chains = subst (HasWords (flat_map line_text (flat_map chain_lines cs))) (words_of_lines cs) (lines_have (flat_map chain_lines cs) (chains_whole cs well)) in
    words_behind (joined (head_words cs)) (flat_map line_text (flat_map chain_lines cs) ++ 10 ∷ codes "END") (head_words cs) (flat_map chain_words cs ++ codes "END" ∷ []) (behind (flat_map chain_lines cs))
    (joined_law (head_words cs) head)
    (words_behind (flat_map line_text (flat_map chain_lines cs)) (10 ∷ codes "END") (flat_map chain_words cs) (codes "END" ∷ []) (λ z. refl) chains (blank_words 10 (codes "END") (codes "END" ∷ []) refl (one_word (codes "END") refl)))
  where
    behind : (ls : List Line) (z : List ℕ) → goes_on ((flat_map line_text ls ++ 10 ∷ codes "END") ++ z) ≡ false
    behind [] z = refl
    behind (l ∷ ls) z = refl

text_cut : (cs : List ChainLayout) (r : List ℕ) → section_text cs ++ r ≡ section_front cs ++ (32 ∷ codes "SCANCHAINS" ++ r)
text_cut cs r =
    let head = joined (head_words cs) in
    let ls = flat_map line_text (flat_map chain_lines cs) in
    append_assoc head (ls ++ line_text end_line) r ∙ ap (λ (x : List ℕ). head ++ x) (append_assoc ls (line_text end_line) r)
    ∙ sym (append_assoc head (ls ++ 10 ∷ codes "END") (32 ∷ codes "SCANCHAINS" ++ r) ∙ ap (λ (x : List ℕ). head ++ x) (append_assoc ls (10 ∷ codes "END") (32 ∷ codes "SCANCHAINS" ++ r)))

words_cut : (cs : List ChainLayout) (ws : List (List ℕ)) → (head_words cs ++ (flat_map chain_words cs ++ codes "END" ∷ [])) ++ codes "SCANCHAINS" ∷ ws ≡ section_words cs ++ ws
words_cut cs ws =
    let head = head_words cs in
    let chains = flat_map chain_words cs in
    append_assoc head (chains ++ codes "END" ∷ []) (codes "SCANCHAINS" ∷ ws) ∙ ap (λ (l : List (List ℕ)). head ++ l) (append_assoc chains (codes "END" ∷ []) (codes "SCANCHAINS" ∷ ws))
    ∙ sym (append_assoc head (chains ++ end_line.words) ws ∙ ap (λ (l : List (List ℕ)). head ++ l) (append_assoc chains end_line.words ws))

section_ends : (cs : List ChainLayout) (r : List ℕ) → list_all is_written_well cs ≡ true → begins_end r ≡ true → texts (section_text cs ++ r) ≡ section_words cs ++ texts r
section_ends cs r well ends =
    let front = head_words cs ++ (flat_map chain_words cs ++ codes "END" ∷ []) in
    ap texts (text_cut cs r) ∙ (front_has cs well).goes (32 ∷ codes "SCANCHAINS" ++ r) refl
    ∙ ap (λ (l : List (List ℕ)). front ++ l) (blank_texts 32 (codes "SCANCHAINS" ++ r) refl ∙ ends_texts (codes "SCANCHAINS") r refl refl ends) ∙ words_cut cs (texts r)

-- the section before a blank, the end, or a semicolon that is cut off
pub section_stands : (cs : List ChainLayout) (z : List ℕ) → list_all is_written_well cs ≡ true → IsParted z → HasWordsBefore (section_text cs) (section_words cs) z
section_stands cs z well (inl free) = record { goes = λ r f g. (section_has cs well).goes r (f free) }
section_stands cs z well (inr ends) = record { goes = λ r f g. section_ends cs r well (g ends) }

pub section_begins : (cs : List ChainLayout) → goes_on (section_text cs) ≡ true
section_begins cs = refl
