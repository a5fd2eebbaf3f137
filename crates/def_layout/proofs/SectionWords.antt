-- The words of the section that is written.
use Rattle.std.proofs.Common.{◌≡◌, ℕ, zero, suc, Bool, true, false, ◌&&◌, ◌||◌, not, List, [], ◌∷◌, ◌++◌, length, map, refl, sym, ap, ◌∙◌, subst, codes, decimal, Option, Some, None, append_assoc}
use Rattle.std.specs.List.{flat_map, list_all}
use Rattle.std.specs.Str.{bytes_eq}
use Rattle.std.proofs.Math.ListN.{replicate}
use Rattle.std.proofs.lemmas.List.Folds.{list_all-append}
use Rattle.std.proofs.lemmas.List.Concat.{flat_map-append}
use Rattle.std.proofs.lemmas.Bool.{and_parts}
use Rattle.token_forms.specs.Classes.{But, is_in}
use Rattle.def_tokens.specs.DefSplit.{goes_on}
use Rattle.def_syntax.specs.Words.{marks}
use Rattle.def_layout.specs.declared.chains.ElementLayout.{ElementLayout}
use Rattle.def_layout.specs.declared.chains.TerminalLayout.{TerminalLayout}
use Rattle.def_layout.specs.declared.chains.TerminalLayout.TheVariants as written
use Rattle.def_layout.specs.declared.chains.PartitionLayout.{PartitionLayout}
use Rattle.def_layout.specs.declared.chains.ChainLayout.{ChainLayout}
use Rattle.def_syntax.specs.Pieces.{some_list}
use Rattle.def_layout.specs.Words.{texts, is_whole, HasWords, joined}
use Rattle.def_layout.specs.Sections.{Line, line_text, element_line, list_lines, floating_lines, max_bits_words, partition_lines, terminal_line, chain_lines, head_words, end_line, section_text}
use Rattle.def_layout.specs.SectionForms.{is_name, names_element, names_terminal, names_partition, names_list, some_element, is_written_well, chain_words, section_words}
use Rattle.def_layout.proofs.WordTokens.{words_behind, no_words, blank_words, joined_law}
use Rattle.def_layout.proofs.NumberWords.{number_name}

-- a line of whole words
abbrev pub is_whole_line : Line → Bool
is_whole_line l = list_all is_whole l.words

indented : (n : ℕ) (x : List ℕ) (ws : List (List ℕ)) → HasWords x ws → HasWords (replicate n 32 ++ x) ws
indented zero x ws h = h
indented (suc n) x ws h = blank_words 32 (replicate n 32 ++ x) ws refl (indented n x ws h)

line_has : (l : Line) → is_whole_line l ≡ true → HasWords (line_text l) l.words
line_has l whole = blank_words 10 (replicate l.indent 32 ++ joined l.words) l.words refl (indented l.indent (joined l.words) l.words (joined_law l.words whole))

-- lines one behind the other: each begins with a line feed
pub lines_have : (ls : List Line) → list_all is_whole_line ls ≡ true → HasWords (flat_map line_text ls) (flat_map (λ l. l.words) ls)
lines_have [] all = no_words
lines_have (l ∷ ls) all =
    let h = and_parts (is_whole_line l) (list_all is_whole_line ls) all in
    record {
      goes = λ z free.
          ap texts (append_assoc (line_text l) (flat_map line_text ls) z) ∙ (line_has l h.0).goes (flat_map line_text ls ++ z) (parted ls z free)
          ∙ ap (λ (x : List (List ℕ)). l.words ++ x) ((lines_have ls h.1).goes z free) ∙ sym (append_assoc l.words (flat_map (λ l. l.words) ls) (texts z));
    }
  where
    parted : (ls : List Line) (z : List ℕ) → goes_on z ≡ false → goes_on (flat_map line_text ls ++ z) ≡ false
    parted [] z free = free
    parted (l ∷ ls) z free = refl

module _ {X : Type 0} (p : X → Bool) where
  both_all : (xs ys : List X) → list_all p xs ≡ true → list_all p ys ≡ true → list_all p (xs ++ ys) ≡ true
  both_all xs ys e f = list_all-append p xs ys ∙ rw (e, f) refl

  all_of : {Y : Type 0} (test : Y → Bool) (f : Y → List X) → ((y : Y) → test y ≡ true → list_all p (f y) ≡ true) → (ys : List Y) → list_all test ys ≡ true → list_all p (flat_map f ys) ≡ true
  all_of test f h [] all = refl
  all_of test f h (y ∷ ys) all =
      let q = and_parts (test y) (list_all test ys) all in
      both_all (f y) (flat_map f ys) (h y q.0) (all_of test f h ys q.1)

  all_map : {Y : Type 0} (test : Y → Bool) (f : Y → X) → ((y : Y) → test y ≡ true → p (f y) ≡ true) → (ys : List Y) → list_all test ys ≡ true → list_all p (map f ys) ≡ true
  all_map test f h [] all = refl
  all_map test f h (y ∷ ys) all =
      let q = and_parts (test y) (list_all test ys) all in
      rw (h y q.0) (all_map test f h ys q.1)

-- a whole word that ends no statement
abbrev pub is_part : List ℕ → Bool
is_part w = is_whole w && not (bytes_eq w (codes ";"))

-- a line of such words
abbrev pub is_part_line : Line → Bool
is_part_line l = list_all is_part l.words

all_weaker : {X : Type 0} (p q : X → Bool) → ((x : X) → p x ≡ true → q x ≡ true) → (xs : List X) → list_all p xs ≡ true → list_all q xs ≡ true
all_weaker p q f [] all = refl
all_weaker p q f (x ∷ xs) all =
    let h = and_parts (p x) (list_all p xs) all in
    rw (f x h.0) (all_weaker p q f xs h.1)

part_whole : (l : Line) → is_part_line l ≡ true → is_whole_line l ≡ true
part_whole l h = all_weaker is_part is_whole (λ w e. (and_parts (is_whole w) (not (bytes_eq w (codes ";"))) e).0) l.words h

pub part_name : (w : List ℕ) → is_name w ≡ true → is_part w ≡ true
part_name w e =
    let h = and_parts (is_whole w) (is_in (But marks) w) e in
    rw (h.0, no_mark (bytes_eq w (codes "(")) (bytes_eq w (codes ")")) (bytes_eq w (codes "+")) (bytes_eq w (codes ";")) h.1) refl
  where
    no_mark : (a b c d : Bool) → not (a || (b || (c || (d || false)))) ≡ true → d ≡ false
    no_mark true b c d e = absurd cc
    no_mark false true c d e = absurd cc
    no_mark false false true d e = absurd cc
    no_mark false false false true e = absurd cc
    no_mark false false false false e = refl

pub part_number : (n : ℕ) → is_part (decimal n) ≡ true
part_number n = part_name (decimal n) (number_name n)

element_part : (e : ElementLayout) → names_element e ≡ true → is_part_line (element_line e) ≡ true
element_part e h =
    let q = and_parts (is_name e.name) (is_name e.input && is_name e.output) h in
    let r = and_parts (is_name e.input) (is_name e.output) q.1 in
    rw (part_name e.name q.0, part_name e.input r.0, part_name e.output r.1, part_number e.bits) refl

list_part : (word : List ℕ) (es : List ElementLayout) → is_part word ≡ true → list_all names_element es ≡ true → list_all is_part_line (list_lines word es) ≡ true
unfolding list_lines
list_part word es e all = rw e (all_map is_part_line names_element element_line element_part es all)

floating_part : (es : List ElementLayout) → list_all names_element es ≡ true → list_all is_part_line (floating_lines es) ≡ true
floating_part [] all = refl
floating_part (e ∷ es) all = list_part (codes "FLOATING") (e ∷ es) refl all

ordered_part : (es : List ElementLayout) → names_list es ≡ true → list_all is_part_line (list_lines (codes "ORDERED") es) ≡ true
ordered_part es h = list_part (codes "ORDERED") es refl (and_parts (some_list es) (list_all names_element es) h).1

partition_part : (p : Option PartitionLayout) → names_partition p ≡ true → list_all is_part_line (partition_lines p) ≡ true
partition_part None h = refl
partition_part (Some p) h = with_bits p.max_bits
  where
    with_bits : (n : Option ℕ) → list_all is_part_line (record { indent = 2; words = codes "+" ∷ codes "PARTITION" ∷ p.name ∷ max_bits_words n } ∷ []) ≡ true
    with_bits None = rw (part_name p.name h) refl
    with_bits (Some n) = rw (part_name p.name h, part_number n) refl

terminal_part : (word : List ℕ) (t : TerminalLayout) → is_part word ≡ true → names_terminal t ≡ true → is_part_line (terminal_line word t) ≡ true
terminal_part word (written.AtPin pin) e h = rw (e, part_name pin h) refl
terminal_part word (written.AtCell component pin) e h =
    let q = and_parts (is_name component && not (bytes_eq component (codes "PIN"))) (is_name pin) h in
    let r = and_parts (is_name component) (not (bytes_eq component (codes "PIN"))) q.0 in
    rw (e, part_name component r.0, part_name pin q.1) refl

-- what a chain that is written well has
pub record Well (c : ChainLayout) : Type 0 where
  pub name : is_name c.name ≡ true
  pub partition : names_partition c.partition ≡ true
  pub start : names_terminal c.start ≡ true
  pub stop : names_terminal c.stop ≡ true
  pub floating : list_all names_element c.floating ≡ true
  pub ordered : list_all names_list c.ordered ≡ true
  pub some : some_element c ≡ true

pub well_of : (c : ChainLayout) → is_written_well c ≡ true → Well c
well_of c h =
    let q = and_parts (is_name c.name && names_partition c.partition) ((names_terminal c.start && names_terminal c.stop) && ((list_all names_element c.floating && list_all names_list c.ordered) && some_element c)) h in
    let r = and_parts (is_name c.name) (names_partition c.partition) q.0 in
    let s = and_parts (names_terminal c.start && names_terminal c.stop) ((list_all names_element c.floating && list_all names_list c.ordered) && some_element c) q.1 in
    let t = and_parts (names_terminal c.start) (names_terminal c.stop) s.0 in
    let u = and_parts (list_all names_element c.floating && list_all names_list c.ordered) (some_element c) s.1 in
    let v = and_parts (list_all names_element c.floating) (list_all names_list c.ordered) u.0 in
    record { name = r.0; partition = r.1; start = t.0; stop = t.1; floating = v.0; ordered = v.1; some = u.1 }

-- the lines of a chain before its semicolon
abbrev pub chain_front : ChainLayout → List Line
chain_front c =
    record { indent = 0; words = codes "-" ∷ c.name ∷ [] } ∷ (partition_lines c.partition
    ++ terminal_line (codes "START") c.start ∷ (floating_lines c.floating ++ (flat_map (list_lines (codes "ORDERED")) c.ordered ++ terminal_line (codes "STOP") c.stop ∷ [])))

-- the line of the semicolon
abbrev pub last_line : Line
last_line = record { indent = 1; words = codes ";" ∷ [] }

chain_cut : (c : ChainLayout) → chain_lines c ≡ chain_front c ++ last_line ∷ []
unfolding chain_lines
chain_cut c =
    let stop = terminal_line (codes "STOP") c.stop ∷ [] in
    let ordered = flat_map (list_lines (codes "ORDERED")) c.ordered in
    let start = terminal_line (codes "START") c.start ∷ (floating_lines c.floating ++ (ordered ++ stop)) in
    rw (append_assoc (partition_lines c.partition) start (last_line ∷ []), append_assoc (floating_lines c.floating) (ordered ++ stop) (last_line ∷ []), append_assoc ordered stop (last_line ∷ [])) refl

pub chain_parts : (c : ChainLayout) → is_written_well c ≡ true → list_all is_part_line (chain_front c) ≡ true
chain_parts c h =
    let w = well_of c h in
    let stop = terminal_line (codes "STOP") c.stop ∷ [] in
    let ordered = flat_map (list_lines (codes "ORDERED")) c.ordered in
    let end : list_all is_part_line stop ≡ true = rw (terminal_part (codes "STOP") c.stop refl w.stop) refl in
    let lists = both_all is_part_line (floating_lines c.floating) (ordered ++ stop) (floating_part c.floating w.floating) (both_all is_part_line ordered stop (all_of is_part_line names_list (list_lines (codes "ORDERED")) ordered_part c.ordered w.ordered) end) in
    let begin : list_all is_part_line (terminal_line (codes "START") c.start ∷ (floating_lines c.floating ++ (ordered ++ stop))) ≡ true = rw (terminal_part (codes "START") c.start refl w.start) lists in
    let all = both_all is_part_line (partition_lines c.partition) _ (partition_part c.partition w.partition) begin in
    rw (part_name c.name w.name) all

chain_whole : (c : ChainLayout) → is_written_well c ≡ true → list_all is_whole_line (chain_lines c) ≡ true
chain_whole c h =
    ap (λ (ls : List Line). list_all is_whole_line ls) (chain_cut c) ∙ both_all is_whole_line (chain_front c) (last_line ∷ []) (all_weaker is_part_line is_whole_line part_whole (chain_front c) (chain_parts c h)) refl

-- the words of a chain before its semicolon
abbrev pub front_words : ChainLayout → List (List ℕ)
front_words c = flat_map (λ l. l.words) (chain_front c)

pub words_cut : (c : ChainLayout) → chain_words c ≡ front_words c ++ codes ";" ∷ []
words_cut c = ap (λ (ls : List Line). flat_map (λ l. l.words) ls) (chain_cut c) ∙ flat_map-append (λ l. l.words) (chain_front c) (last_line ∷ [])

pub words_parts : (c : ChainLayout) → is_written_well c ≡ true → list_all is_part (front_words c) ≡ true
words_parts c h = all_of is_part is_part_line (λ l. l.words) (λ l e. e) (chain_front c) (chain_parts c h)

words_of_lines : (cs : List ChainLayout) → flat_map (λ l. l.words) (flat_map chain_lines cs) ≡ flat_map chain_words cs
words_of_lines [] = refl
words_of_lines (c ∷ cs) = flat_map-append (λ l. l.words) (chain_lines c) (flat_map chain_lines cs) ∙ ap (λ (x : List (List ℕ)). chain_words c ++ x) (words_of_lines cs)

whole_number : (n : ℕ) → is_whole (decimal n) ≡ true
whole_number n = (and_parts (is_whole (decimal n)) (is_in (But marks) (decimal n)) (number_name n)).0

-- the text of a section has its words
pub section_has : (cs : List ChainLayout) → list_all is_written_well cs ≡ true → HasWords (section_text cs) (section_words cs)
section_has cs well =
    let head : list_all is_whole (head_words cs) ≡ true = rw (whole_number (length cs)) refl in
    let whole = all_of is_whole_line is_written_well chain_lines chain_whole cs well in
    let chains = subst (HasWords (flat_map line_text (flat_map chain_lines cs))) (words_of_lines cs) (lines_have (flat_map chain_lines cs) whole) in
    words_behind (joined (head_words cs)) (flat_map line_text (flat_map chain_lines cs) ++ line_text end_line) (head_words cs) (flat_map chain_words cs ++ end_line.words) (parted cs)
    (joined_law (head_words cs) head)
    (words_behind (flat_map line_text (flat_map chain_lines cs)) (line_text end_line) (flat_map chain_words cs) end_line.words (λ z. refl) chains (line_has end_line refl))
  where
    behind : (ls : List Line) (z : List ℕ) → goes_on ((flat_map line_text ls ++ line_text end_line) ++ z) ≡ false
    behind [] z = refl
    behind (l ∷ ls) z = refl

    parted : (cs : List ChainLayout) (z : List ℕ) → goes_on ((flat_map line_text (flat_map chain_lines cs) ++ line_text end_line) ++ z) ≡ false
    parted cs z = behind (flat_map chain_lines cs) z
