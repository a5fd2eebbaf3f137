-- What the words of a chain are read as.
use Rattle.std.proofs.Common.{◌≡◌, ℕ, Bool, true, false, ◌&&◌, ◌||◌, not, if◌then◌else◌, List, [], ◌∷◌, ◌++◌, map, refl, sym, ◌∙◌, subst, codes, decimal, Option, Some, None, append_assoc}
use Rattle.std.specs.List.{flat_map, list_all, list_any}
use Rattle.std.proofs.lemmas.Option.{same_Some}
use Rattle.std.proofs.lemmas.List.{append-nil}
use Rattle.std.proofs.lemmas.List.Folds.{flat_map-map}
use Rattle.std.proofs.lemmas.List.Concat.{flat_map-append}
use Rattle.std.specs.Str.{bytes_eq}
use Rattle.std.proofs.lemmas.Bool.{and_parts}
use Rattle.token_forms.specs.Parsing.{◌>>=◌}
use Rattle.token_forms.specs.Forms.{Form, made, many, maybe, ◌&◌, ◌▸◌, ◌◂◌, ◌or◌, gathered, put_all}
use Rattle.token_forms.specs.Classes.{But, is_among, is_in}
use Rattle.def_syntax.specs.Words.{marks, any, name, cell_name, number, is_number}
use Rattle.def_syntax.specs.Grammar.{bracket, element, elements, element_list, terminal, partition, common_pins, clause, chain}
use Rattle.def_syntax.specs.Pieces.{once, some_list, fresh_element, put_bracket, is_floating, fresh_chain, put_clause, chain_of}
use Rattle.def_syntax.specs.declared.element.Element.{Element}
use Rattle.def_syntax.specs.declared.element.ElementList.{ElementList}
use Rattle.def_syntax.specs.declared.element.ElementList.TheVariants as lists
use Rattle.def_syntax.specs.declared.chain.Terminal.{Terminal}
use Rattle.def_syntax.specs.declared.chain.Terminal.TheVariants as terminals
use Rattle.def_syntax.specs.declared.chain.Partition.{Partition}
use Rattle.def_syntax.specs.declared.chain.CommonPins.{CommonPins}
use Rattle.def_layout.specs.declared.chains.ElementLayout.{ElementLayout}
use Rattle.def_layout.specs.declared.chains.TerminalLayout.{TerminalLayout}
use Rattle.def_layout.specs.declared.chains.TerminalLayout.TheVariants as written
use Rattle.def_layout.specs.declared.chains.PartitionLayout.{PartitionLayout}
use Rattle.def_layout.specs.declared.chains.ChainLayout.{ChainLayout}
use Rattle.def_layout.specs.Words.{is_whole}
use Rattle.def_layout.specs.Sections.{element_line, list_lines, floating_lines, max_bits_words, partition_lines, terminal_words, terminal_line, chain_lines}
use Rattle.def_layout.specs.SectionForms.{is_name, names_element, names_terminal, names_partition, names_list, some_element, is_written_well, element_of, max_bits_of, partition_of, terminal_of, floating_of, read_chain, chain_words}
use Rattle.def_layout.proofs.NumberWords.{number_name, number_number}
use Rattle.def_layout.proofs.SectionWords.{well_of}
use Rattle.def_layout.proofs.Spellings.{Spells, text_spells, left_spells, right_spells, none_spells, maybe_spells, many_nil, many_cons, some_spells, before_spells, behind_spells, seq_spells, made_spells, made_if_spells, gathered_spells, each_spells, many_both}

name_spells : (w : List ℕ) → is_name w ≡ true → Spells name w (w ∷ [])
name_spells w e = text_spells (But marks) any w (and_parts (is_whole w) (is_in (But marks) w) e).1 refl

number_spells : (n : ℕ) → Spells number (decimal n) (decimal n ∷ [])
number_spells n = text_spells (But marks) is_number (decimal n) (and_parts (is_whole (decimal n)) (is_in (But marks) (decimal n)) (number_name n)).1 (number_number n)

-- the brackets of an element, whatever they make
module _ {B : Type 0} (i o n : List ℕ → B) where
  abbrev inner : Form B
  inner = made i ("IN" ▸ name) or (made o ("OUT" ▸ name) or made n ("BITS" ▸ number))

  abbrev bracket_form : Form B
  bracket_form = "(" ▸ (inner ◂ ")")

  in_spells : (w : List ℕ) → is_name w ≡ true → Spells bracket_form (i w) (codes "(" ∷ codes "IN" ∷ w ∷ codes ")" ∷ [])
  in_spells w e =
      before_spells (inner ◂ ")") "(" (i w) (codes "IN" ∷ w ∷ codes ")" ∷ []) (behind_spells inner ")" (i w) (codes "IN" ∷ w ∷ []) (left_spells (made i ("IN" ▸ name)) (made o ("OUT" ▸ name) or made n ("BITS" ▸ number)) (i w) (codes "IN" ∷ w ∷ [])
      (made_spells ("IN" ▸ name) i w (codes "IN" ∷ w ∷ []) (before_spells name "IN" w (w ∷ []) (name_spells w e)))))

  out_spells : (w : List ℕ) → is_name w ≡ true → Spells bracket_form (o w) (codes "(" ∷ codes "OUT" ∷ w ∷ codes ")" ∷ [])
  out_spells w e =
      before_spells (inner ◂ ")") "(" (o w) (codes "OUT" ∷ w ∷ codes ")" ∷ []) (behind_spells inner ")" (o w) (codes "OUT" ∷ w ∷ [])
      (right_spells (made i ("IN" ▸ name)) (made o ("OUT" ▸ name) or made n ("BITS" ▸ number)) (o w) (codes "OUT" ∷ w ∷ [])
      (left_spells (made o ("OUT" ▸ name)) (made n ("BITS" ▸ number)) (o w) (codes "OUT" ∷ w ∷ [])
      (made_spells ("OUT" ▸ name) o w (codes "OUT" ∷ w ∷ []) (before_spells name "OUT" w (w ∷ []) (name_spells w e))))))

  bits_spells : (k : ℕ) → Spells bracket_form (n (decimal k)) (codes "(" ∷ codes "BITS" ∷ decimal k ∷ codes ")" ∷ [])
  bits_spells k =
      before_spells (inner ◂ ")") "(" (n (decimal k)) (codes "BITS" ∷ decimal k ∷ codes ")" ∷ []) (behind_spells inner ")" (n (decimal k)) (codes "BITS" ∷ decimal k ∷ [])
      (right_spells (made i ("IN" ▸ name)) (made o ("OUT" ▸ name) or made n ("BITS" ▸ number)) (n (decimal k)) (codes "BITS" ∷ decimal k ∷ [])
      (right_spells (made o ("OUT" ▸ name)) (made n ("BITS" ▸ number)) (n (decimal k)) (codes "BITS" ∷ decimal k ∷ [])
      (made_spells ("BITS" ▸ number) n (decimal k) (codes "BITS" ∷ decimal k ∷ []) (before_spells number "BITS" (decimal k) (decimal k ∷ []) (number_spells k))))))

in_bracket : (w : List ℕ) → is_name w ≡ true → (b : _) × Spells bracket b (codes "(" ∷ codes "IN" ∷ w ∷ codes ")" ∷ []) × ((e : Element) → put_bracket e b ≡ once e.input (record e { input = Some w }))
unfolding bracket
in_bracket w e = (_, in_spells _ _ _ w e, λ e. refl)

out_bracket : (w : List ℕ) → is_name w ≡ true → (b : _) × Spells bracket b (codes "(" ∷ codes "OUT" ∷ w ∷ codes ")" ∷ []) × ((e : Element) → put_bracket e b ≡ once e.output (record e { output = Some w }))
unfolding bracket
out_bracket w e = (_, out_spells _ _ _ w e, λ e. refl)

bits_bracket : (k : ℕ) → (b : _) × Spells bracket b (codes "(" ∷ codes "BITS" ∷ decimal k ∷ codes ")" ∷ []) × ((e : Element) → put_bracket e b ≡ once e.bits (record e { bits = Some (decimal k) }))
unfolding bracket
bits_bracket k = (_, bits_spells _ _ _ k, λ e. refl)

element_spells : (e : ElementLayout) → names_element e ≡ true → Spells element (element_of e) (element_line e).words
unfolding element put_all
element_spells e h =
    let q = and_parts (is_name e.name) (is_name e.input && is_name e.output) h in
    let r = and_parts (is_name e.input) (is_name e.output) q.1 in
    let a = in_bracket e.input r.0 in
    let b = out_bracket e.output r.1 in
    let n = bits_bracket e.bits in
    gathered_spells (made fresh_element name) bracket put_bracket (fresh_element e.name) (element_of e) (a.0 ∷ b.0 ∷ n.0 ∷ []) (e.name ∷ []) _
    (made_spells name fresh_element e.name (e.name ∷ []) (name_spells e.name q.0))
    (many_cons bracket a.0 (b.0 ∷ n.0 ∷ []) (codes "(" ∷ codes "IN" ∷ e.input ∷ codes ")" ∷ []) _ a.1
    (many_cons bracket b.0 (n.0 ∷ []) (codes "(" ∷ codes "OUT" ∷ e.output ∷ codes ")" ∷ []) _ b.1
    (many_cons bracket n.0 [] (codes "(" ∷ codes "BITS" ∷ decimal e.bits ∷ codes ")" ∷ []) [] n.1 (many_nil bracket))))
    (rw (a.2 (fresh_element e.name), b.2 (record (fresh_element e.name) { input = Some e.input }), n.2 (record (fresh_element e.name) { input = Some e.input; output = Some e.output })) refl)

elements_spell : (es : List ElementLayout) → names_list es ≡ true → Spells elements (map element_of es) (flat_map (λ l. l.words) (map element_line es))
unfolding elements
elements_spell [] h = absurd cc
elements_spell (e ∷ es) h =
    let q = and_parts (names_element e) (list_all names_element es) h in
    let words = flat_map-map (λ l. l.words) element_line es in
    some_spells element (element_of e) (map element_of es) (element_line e).words (flat_map (λ l. l.words) (map element_line es)) (element_spells e q.0)
    (subst (λ (ws : List (List ℕ)). Spells (many element) (map element_of es) ws) (sym words) (each_spells element element_of (λ e. (element_line e).words) names_element element_spells es q.1))

floating_spells : (es : List ElementLayout) → names_list es ≡ true → Spells element_list (lists.Floating (map element_of es)) (codes "FLOATING" ∷ flat_map (λ l. l.words) (map element_line es))
unfolding element_list
floating_spells es h =
    left_spells (made lists.Floating ("FLOATING" ▸ elements)) (made lists.Ordered ("ORDERED" ▸ elements)) (lists.Floating (map element_of es)) _
    (made_spells ("FLOATING" ▸ elements) lists.Floating (map element_of es) _ (before_spells elements "FLOATING" (map element_of es) (flat_map (λ l. l.words) (map element_line es)) (elements_spell es h)))

ordered_spells : (es : List ElementLayout) → names_list es ≡ true → Spells element_list (lists.Ordered (map element_of es)) (codes "ORDERED" ∷ flat_map (λ l. l.words) (map element_line es))
unfolding element_list
ordered_spells es h =
    right_spells (made lists.Floating ("FLOATING" ▸ elements)) (made lists.Ordered ("ORDERED" ▸ elements)) (lists.Ordered (map element_of es)) _
    (made_spells ("ORDERED" ▸ elements) lists.Ordered (map element_of es) _ (before_spells elements "ORDERED" (map element_of es) (flat_map (λ l. l.words) (map element_line es)) (elements_spell es h)))

cell_spells : (w : List ℕ) → (is_name w && not (bytes_eq w (codes "PIN"))) ≡ true → Spells cell_name w (w ∷ [])
cell_spells w e =
    let q = and_parts (is_name w) (not (bytes_eq w (codes "PIN"))) e in
    text_spells (But (codes "PIN" ∷ marks)) any w (no_more (bytes_eq w (codes "PIN")) (is_among marks w) q.1 (and_parts (is_whole w) (is_in (But marks) w) q.0).1) refl
  where
    no_more : (a b : Bool) → not a ≡ true → not b ≡ true → not (a || b) ≡ true
    no_more true b e f = e
    no_more false b e f = f

terminal_spells : (t : TerminalLayout) → names_terminal t ≡ true → Spells terminal (terminal_of t) (terminal_words t)
unfolding terminal
terminal_spells (written.AtPin pin) h =
    left_spells (made terminals.AtPin ("PIN" ▸ name)) (made (λ p. terminals.AtCell p.0 p.1) (cell_name & maybe name)) (terminals.AtPin pin) (codes "PIN" ∷ pin ∷ [])
    (made_spells ("PIN" ▸ name) terminals.AtPin pin (codes "PIN" ∷ pin ∷ []) (before_spells name "PIN" pin (pin ∷ []) (name_spells pin h)))
terminal_spells (written.AtCell component pin) h =
    let q = and_parts (is_name component && not (bytes_eq component (codes "PIN"))) (is_name pin) h in
    right_spells (made terminals.AtPin ("PIN" ▸ name)) (made (λ p. terminals.AtCell p.0 p.1) (cell_name & maybe name)) (terminals.AtCell component (Some pin)) (component ∷ pin ∷ [])
    (made_spells (cell_name & maybe name) (λ p. terminals.AtCell p.0 p.1) (component, Some pin) (component ∷ pin ∷ [])
    (seq_spells cell_name (maybe name) component (Some pin) (component ∷ []) (pin ∷ []) (cell_spells component q.0) (maybe_spells name pin (pin ∷ []) (name_spells pin q.1))))

max_bits_spells : (n : Option ℕ) → Spells (maybe ("MAXBITS" ▸ number)) (max_bits_of n) (max_bits_words n)
max_bits_spells None = none_spells ("MAXBITS" ▸ number)
max_bits_spells (Some n) = maybe_spells ("MAXBITS" ▸ number) (decimal n) (codes "MAXBITS" ∷ decimal n ∷ []) (before_spells number "MAXBITS" (decimal n) (decimal n ∷ []) (number_spells n))

partition_spells : (p : PartitionLayout) → is_name p.name ≡ true → Spells partition (record { name = p.name; max_bits = max_bits_of p.max_bits }) (codes "PARTITION" ∷ p.name ∷ max_bits_words p.max_bits)
unfolding partition
partition_spells p h =
    made_spells ("PARTITION" ▸ (name & maybe ("MAXBITS" ▸ number))) (λ p. record { name = p.0; max_bits = p.1 }) (p.name, max_bits_of p.max_bits) _
    (before_spells (name & maybe ("MAXBITS" ▸ number)) "PARTITION" (p.name, max_bits_of p.max_bits) (p.name ∷ max_bits_words p.max_bits)
    (seq_spells name (maybe ("MAXBITS" ▸ number)) p.name (max_bits_of p.max_bits) (p.name ∷ []) (max_bits_words p.max_bits) (name_spells p.name h) (max_bits_spells p.max_bits)))

-- the clauses of a chain, whatever they make
module _ {C : Type 0} (p : Partition → C) (m : CommonPins → C) (s t : Terminal → C) (l : ElementList → C) where
  abbrev from_lists : Form C
  from_lists = made l element_list

  abbrev from_stop : Form C
  from_stop = made t ("STOP" ▸ terminal) or from_lists

  abbrev from_start : Form C
  from_start = made s ("START" ▸ terminal) or from_stop

  abbrev from_pins : Form C
  from_pins = made m common_pins or from_start

  abbrev any_clause : Form C
  any_clause = made p partition or from_pins

  abbrev clause_form : Form C
  clause_form = "+" ▸ any_clause

  partition_first : (x : Partition) (ws : List (List ℕ)) → Spells partition x ws → Spells clause_form (p x) (codes "+" ∷ ws)
  partition_first x ws h = before_spells any_clause "+" (p x) ws (left_spells (made p partition) from_pins (p x) ws (made_spells partition p x ws h))

  start_first : (x : Terminal) (ws : List (List ℕ)) → Spells terminal x ws → Spells clause_form (s x) (codes "+" ∷ codes "START" ∷ ws)
  start_first x ws h =
      before_spells any_clause "+" (s x) (codes "START" ∷ ws) (right_spells (made p partition) from_pins (s x) (codes "START" ∷ ws) (right_spells (made m common_pins) from_start (s x) (codes "START" ∷ ws)
      (left_spells (made s ("START" ▸ terminal)) from_stop (s x) (codes "START" ∷ ws) (made_spells ("START" ▸ terminal) s x (codes "START" ∷ ws) (before_spells terminal "START" x ws h)))))

  stop_first : (x : Terminal) (ws : List (List ℕ)) → Spells terminal x ws → Spells clause_form (t x) (codes "+" ∷ codes "STOP" ∷ ws)
  stop_first x ws h =
      before_spells any_clause "+" (t x) (codes "STOP" ∷ ws) (right_spells (made p partition) from_pins (t x) (codes "STOP" ∷ ws) (right_spells (made m common_pins) from_start (t x) (codes "STOP" ∷ ws)
      (right_spells (made s ("START" ▸ terminal)) from_stop (t x) (codes "STOP" ∷ ws)
      (left_spells (made t ("STOP" ▸ terminal)) from_lists (t x) (codes "STOP" ∷ ws) (made_spells ("STOP" ▸ terminal) t x (codes "STOP" ∷ ws) (before_spells terminal "STOP" x ws h))))))

  list_first : (x : ElementList) (ws : List (List ℕ)) → Spells element_list x ws → Spells clause_form (l x) (codes "+" ∷ ws)
  list_first x ws h =
      before_spells any_clause "+" (l x) ws (right_spells (made p partition) from_pins (l x) ws (right_spells (made m common_pins) from_start (l x) ws
      (right_spells (made s ("START" ▸ terminal)) from_stop (l x) ws (right_spells (made t ("STOP" ▸ terminal)) from_lists (l x) ws (made_spells element_list l x ws h)))))

partition_clause : (x : Partition) (ws : List (List ℕ)) → Spells partition x ws → (c : _) × Spells clause c (codes "+" ∷ ws) × ((s : _) → put_clause s c ≡ once s.partition (record s { partition = Some x }))
unfolding clause
partition_clause x ws h = (_, partition_first _ _ _ _ _ x ws h, λ s. refl)

start_clause : (x : Terminal) (ws : List (List ℕ)) → Spells terminal x ws → (c : _) × Spells clause c (codes "+" ∷ codes "START" ∷ ws) × ((s : _) → put_clause s c ≡ once s.start (record s { start = Some x }))
unfolding clause
start_clause x ws h = (_, start_first _ _ _ _ _ x ws h, λ s. refl)

stop_clause : (x : Terminal) (ws : List (List ℕ)) → Spells terminal x ws → (c : _) × Spells clause c (codes "+" ∷ codes "STOP" ∷ ws) × ((s : _) → put_clause s c ≡ once s.stop (record s { stop = Some x }))
unfolding clause
stop_clause x ws h = (_, stop_first _ _ _ _ _ x ws h, λ s. refl)

list_clause : (x : ElementList) (ws : List (List ℕ)) → Spells element_list x ws
    → (c : _) × Spells clause c (codes "+" ∷ ws) × ((s : _) → put_clause s c ≡ (if is_floating x && list_any is_floating s.lists then None else Some (record s { lists = s.lists ++ x ∷ [] })))
unfolding clause
list_clause x ws h = (_, list_first _ _ _ _ _ x ws h, λ s. refl)

-- pieces put behind pieces
put_behind : {S X : Type 0} (put : S → X → Option S) (s t : S) (xs ys : List X) (r : Option S) → put_all put s xs ≡ Some t → put_all put t ys ≡ r → put_all put s (xs ++ ys) ≡ r
unfolding put_all
put_behind put s t [] ys r e f = subst (λ (u : _). put_all put u ys ≡ r) (sym (same_Some s t e)) f
put_behind {S} put s t (x ∷ xs) ys r e f = through (put s x) e (λ u h. put_behind put u t xs ys r h f)
  where
    through : (o : Option S) → (o >>= λ u. put_all put u xs) ≡ Some t → ((u : S) → put_all put u xs ≡ Some t → put_all put u (xs ++ ys) ≡ r) → (o >>= λ u. put_all put u (xs ++ ys)) ≡ r
    through None e more = absurd cc
    through (Some u) e more = more u e

-- the clause of a partition, if there is one
partition_part : (n : List ℕ) (p : Option PartitionLayout) → names_partition p ≡ true
    → (cs : List _) × Spells (many clause) cs (flat_map (λ l. l.words) (partition_lines p)) × (put_all put_clause (fresh_chain n) cs ≡ Some (record (fresh_chain n) { partition = partition_of p }))
unfolding put_all
partition_part n None h = ([], many_nil clause, refl)
partition_part n (Some p) h =
    let c = partition_clause (record { name = p.name; max_bits = max_bits_of p.max_bits }) (codes "PARTITION" ∷ p.name ∷ max_bits_words p.max_bits) (partition_spells p h) in
    (c.0 ∷ [], many_cons clause c.0 [] (codes "+" ∷ codes "PARTITION" ∷ p.name ∷ max_bits_words p.max_bits) [] c.1 (many_nil clause), rw (c.2 (fresh_chain n)) refl)

-- the clause of the floating elements, if there are any
floating_part : (es : List ElementLayout) → list_all names_element es ≡ true
    → (cs : List _) × Spells (many clause) cs (flat_map (λ l. l.words) (floating_lines es)) × ((s : _) → put_all put_clause (record s { lists = [] }) cs ≡ Some (record s { lists = floating_of es }))
unfolding put_all list_lines
floating_part [] h = ([], many_nil clause, λ s. refl)
floating_part (e ∷ es) h =
    let c = list_clause (lists.Floating (map element_of (e ∷ es))) (codes "FLOATING" ∷ flat_map (λ l. l.words) (map element_line (e ∷ es))) (floating_spells (e ∷ es) h) in
    (c.0 ∷ [], subst (Spells (many clause) (c.0 ∷ [])) (append-nil _) (many_cons clause c.0 [] (codes "+" ∷ codes "FLOATING" ∷ flat_map (λ l. l.words) (map element_line (e ∷ es))) [] c.1 (many_nil clause)), λ s. rw (c.2 (record s { lists = [] })) refl)

-- the clauses of the ordered lists
ordered_part : (ls : List (List ElementLayout)) → list_all names_list ls ≡ true
    → (cs : List _) × Spells (many clause) cs (flat_map (λ l. l.words) (flat_map (list_lines (codes "ORDERED")) ls))
    × ((s : _) → put_all put_clause s cs ≡ Some (record s { lists = s.lists ++ map (λ es. lists.Ordered (map element_of es)) ls }))
unfolding put_all list_lines
ordered_part [] h = ([], many_nil clause, λ s. rw (append-nil s.lists) refl)
ordered_part (es ∷ ls) h =
    let q = and_parts (names_list es) (list_all names_list ls) h in
    let c = list_clause (lists.Ordered (map element_of es)) (codes "ORDERED" ∷ flat_map (λ l. l.words) (map element_line es)) (ordered_spells es q.0) in
    let r = ordered_part ls q.1 in
    let words = flat_map-append (λ l. l.words) (list_lines (codes "ORDERED") es) (flat_map (list_lines (codes "ORDERED")) ls) in (
      c.0 ∷ r.0,
      subst (Spells (many clause) (c.0 ∷ r.0)) (sym words) (many_cons clause c.0 r.0 (codes "+" ∷ codes "ORDERED" ∷ flat_map (λ l. l.words) (map element_line es)) (flat_map (λ l. l.words) (flat_map (list_lines (codes "ORDERED")) ls)) c.1 r.1),
      λ s. rw (c.2 s) (r.2 (record s { lists = s.lists ++ lists.Ordered (map element_of es) ∷ [] }) ∙ rw (append_assoc s.lists (lists.Ordered (map element_of es) ∷ []) (map (λ es. lists.Ordered (map element_of es)) ls)) refl),
    )

some_lists : (c : ChainLayout) → some_element c ≡ true → some_list (floating_of c.floating ++ map (λ es. lists.Ordered (map element_of es)) c.ordered) ≡ true
some_lists c h = of c.floating c.ordered h
  where
    of : (es : List ElementLayout) (ls : List (List ElementLayout)) → some_list (es ++ flat_map (λ es. es) ls) ≡ true → some_list (floating_of es ++ map (λ es. lists.Ordered (map element_of es)) ls) ≡ true
    of [] [] h = absurd cc
    of [] (l ∷ ls) h = refl
    of (e ∷ es) ls h = refl

-- the words of a chain, part by part
words_of_chain : (c : ChainLayout)
    → chain_words c
    ≡ ((codes "-" ∷ c.name ∷ []) ++ (flat_map (λ l. l.words) (partition_lines c.partition) ++ ((terminal_line (codes "START") c.start).words
    ++ (flat_map (λ l. l.words) (floating_lines c.floating) ++ (flat_map (λ l. l.words) (flat_map (list_lines (codes "ORDERED")) c.ordered) ++ (terminal_line (codes "STOP") c.stop).words))))) ++ codes ";" ∷ []
unfolding chain_lines
words_of_chain c =
    let stop = terminal_line (codes "STOP") c.stop ∷ record { indent = 1; words = codes ";" ∷ [] } ∷ [] in
    let ordered = flat_map (list_lines (codes "ORDERED")) c.ordered in
    let start = terminal_line (codes "START") c.start ∷ (floating_lines c.floating ++ (ordered ++ stop)) in
    let pw = flat_map (λ l. l.words) (partition_lines c.partition) in
    let aw = (terminal_line (codes "START") c.start).words in
    let fw = flat_map (λ l. l.words) (floating_lines c.floating) in
    let ow = flat_map (λ l. l.words) ordered in
    let zw = (terminal_line (codes "STOP") c.stop).words in
    rw (
      flat_map-append (λ l. l.words) (partition_lines c.partition) start,
      flat_map-append (λ l. l.words) (floating_lines c.floating) (ordered ++ stop),
      flat_map-append (λ l. l.words) ordered stop,
      append_assoc pw (aw ++ (fw ++ (ow ++ zw))) (codes ";" ∷ []),
      append_assoc (terminal_words c.start) (fw ++ (ow ++ zw)) (codes ";" ∷ []),
      append_assoc fw (ow ++ zw) (codes ";" ∷ []),
      append_assoc ow zw (codes ";" ∷ []),
    ) refl

pub chain_spells : (c : ChainLayout) → is_written_well c ≡ true → Spells chain (read_chain c) (chain_words c)
unfolding chain put_all
chain_spells c h =
    let w = well_of c h in
    let p = partition_part c.name c.partition w.partition in
    let a = start_clause (terminal_of c.start) (terminal_words c.start) (terminal_spells c.start w.start) in
    let f = floating_part c.floating w.floating in
    let o = ordered_part c.ordered w.ordered in
    let z = stop_clause (terminal_of c.stop) (terminal_words c.stop) (terminal_spells c.stop w.stop) in
    let pw = flat_map (λ l. l.words) (partition_lines c.partition) in
    let aw = (terminal_line (codes "START") c.start).words in
    let fw = flat_map (λ l. l.words) (floating_lines c.floating) in
    let ow = flat_map (λ l. l.words) (flat_map (list_lines (codes "ORDERED")) c.ordered) in
    let zw = (terminal_line (codes "STOP") c.stop).words in
    let s1 = record (fresh_chain c.name) { partition = partition_of c.partition } in
    let s2 = record s1 { start = Some (terminal_of c.start) } in
    let s3 = record s2 { lists = floating_of c.floating } in
    let s4 = record s3 { lists = floating_of c.floating ++ map (λ es. lists.Ordered (map element_of es)) c.ordered } in
    let s5 = record s4 { stop = Some (terminal_of c.stop) } in
    let last : put_all put_clause s4 (z.0 ∷ []) ≡ Some s5 = rw (z.2 s4) refl in
    let lists_put = put_behind put_clause s2 s3 f.0 (o.0 ++ z.0 ∷ []) (Some s5) (f.2 s2) (put_behind put_clause s3 s4 o.0 (z.0 ∷ []) (Some s5) (o.2 s3) last) in
    let begin : put_all put_clause s1 (a.0 ∷ (f.0 ++ (o.0 ++ z.0 ∷ []))) ≡ Some s5 = rw (a.2 s1) lists_put in
    let put = put_behind put_clause (fresh_chain c.name) s1 p.0 (a.0 ∷ (f.0 ++ (o.0 ++ z.0 ∷ []))) (Some s5) p.2 begin in
    let pieces =
    many_both clause p.0 (a.0 ∷ (f.0 ++ (o.0 ++ z.0 ∷ []))) pw (aw ++ (fw ++ (ow ++ zw))) p.1
    (many_cons clause a.0 (f.0 ++ (o.0 ++ z.0 ∷ [])) aw (fw ++ (ow ++ zw)) a.1
    (many_both clause f.0 (o.0 ++ z.0 ∷ []) fw (ow ++ zw) f.1
    (many_both clause o.0 (z.0 ∷ []) ow zw o.1 (subst (Spells (many clause) (z.0 ∷ [])) (append-nil zw) (many_cons clause z.0 [] zw [] z.1 (many_nil clause))))))
    in
    let start = made fresh_chain ("-" ▸ name) in
    let all = gathered start put_clause clause in
    let fits : chain_of s5 ≡ Some (read_chain c) = rw (some_lists c w.some) refl in
    subst (Spells chain (read_chain c)) (sym (words_of_chain c))
    (made_if_spells (all ◂ ";") chain_of s5 (read_chain c) _ fits
    (behind_spells all ";" s5 _ (gathered_spells start clause put_clause (fresh_chain c.name) s5 (p.0 ++ (a.0 ∷ (f.0 ++ (o.0 ++ z.0 ∷ [])))) (codes "-" ∷ c.name ∷ []) _
    (made_spells ("-" ▸ name) fresh_chain c.name (codes "-" ∷ c.name ∷ []) (before_spells name "-" c.name (c.name ∷ []) (name_spells c.name w.name))) pieces put)))
