-- The scan chains of the made DEF.
use Rattle.std.proofs.Common.{◌≡◌, ℕ, zero, suc, ◌/◌, ◌<◌, ◌≤◌, true, false, ◌&&◌, if◌then◌else◌, List, [], ◌∷◌, ◌++◌, map, Some, None, refl, ap, ◌∙◌, subst, append_assoc, codes, decimal, arith}
use Rattle.def_reader.specs.declared.design.ScanChainText.{ScanChainText}
use Rattle.def_syntax.specs.declared.design.Located.{Located}
use Rattle.std.specs.List.{flat_map, list_any, range_with_len, AllByRecursion as Each}
use Rattle.base_types.specs.Lines.{line_at}
use Rattle.cell_table.specs.Cells.{Cells}
use Rattle.token_forms.specs.Tokens.{Token, place_of}
use Rattle.token_forms.specs.Parts.{token_texts}
use Rattle.token_forms.specs.Classes.{But, is_in}
use Rattle.token_forms.specs.Forms.{Form, made, many, maybe, ◌&◌, ◌▸◌, ◌◂◌, ◌or◌, gathered, put_all}
use Rattle.def_syntax.specs.Words.{marks, any, name, cell_name, number, is_number}
use Rattle.def_syntax.specs.Frames.{start_of}
use Rattle.def_syntax.specs.Grammar.{bracket, element, elements, element_list, terminal, partition, common_pins, clause, chain}
use Rattle.def_syntax.specs.Pieces.{once, some_list, fresh_element, put_bracket, is_floating, fresh_chain, put_clause, chain_of}
use Rattle.def_syntax.specs.declared.element.Element.{Element}
use Rattle.def_syntax.specs.declared.element.ElementList.{ElementList}
use Rattle.def_syntax.specs.declared.element.ElementList.TheVariants as lists
use Rattle.def_syntax.specs.declared.chain.Terminal.{Terminal}
use Rattle.def_syntax.specs.declared.chain.Terminal.TheVariants as terminals
use Rattle.def_syntax.specs.declared.chain.Partition.{Partition}
use Rattle.def_syntax.specs.declared.chain.CommonPins.{CommonPins}
use Rattle.def_syntax.specs.declared.chain.Chain.{Chain}
use Rattle.def_layout.specs.NetForms.{AreIn}
use Rattle.def_layout.proofs.NumberWords.{number_number}
use Rattle.def_layout.proofs.Spellings.{Spells, text_spells, left_spells, right_spells, maybe_spells, many_nil, many_cons, some_spells, before_spells, behind_spells, seq_spells, made_spells, made_if_spells, gathered_spells}
use Rattle.def_reader.specs.Designs as denoted
use Rattle.def_reader.specs.Faults.{have_many, has_many_bits}
use Rattle.def_reader.specs.declared.design.Component.{Component}
use Rattle.def_reader.specs.declared.design.Element.{Element as MadeElement}
use Rattle.design_maker.specs.Chains.{chain_length, unit_of, max_bits}
use Rattle.made_law.specs.Designs.Names.{unit, in_port, out_port, chain_name, partition_name}
use Rattle.made_law.specs.Designs.MadeChains.{element_words, element_numbers, head_words, chain_words, chain_numbers, made_element, made_chain}
use Rattle.made_law.proofs.designs.Words.{number_free}
use Rattle.made_law.proofs.designs.Numbers.{plain_unit, plain_in_port, plain_out_port, plain_chain, plain_partition, bits_are}
use Rattle.made_law.proofs.designs.Pins.{each_eight}
use Rattle.made_law.proofs.designs.Rows.{Row, Rows, rows_of}

name_spells : (w : List ℕ) → is_in (But marks) w ≡ true → Spells name w (w ∷ [])
name_spells w e = text_spells (But marks) any w e refl

number_spells : (n : ℕ) → Spells number (decimal n) (decimal n ∷ [])
number_spells n = text_spells (But marks) is_number (decimal n) (number_free n) (number_number n)

-- the brackets of an element, whatever they make
module _ {B : Type 0} (i o n : List ℕ → B) where
  abbrev inner : Form B
  inner = made i ("IN" ▸ name) or (made o ("OUT" ▸ name) or made n ("BITS" ▸ number))

  abbrev bracket_form : Form B
  bracket_form = "(" ▸ (inner ◂ ")")

  in_spells : (w : List ℕ) → is_in (But marks) w ≡ true → Spells bracket_form (i w) (codes "(" ∷ codes "IN" ∷ w ∷ codes ")" ∷ [])
  in_spells w e =
      before_spells (inner ◂ ")") "(" (i w) (codes "IN" ∷ w ∷ codes ")" ∷ [])
      (behind_spells inner ")" (i w) (codes "IN" ∷ w ∷ [])
      (left_spells (made i ("IN" ▸ name)) (made o ("OUT" ▸ name) or made n ("BITS" ▸ number)) (i w) (codes "IN" ∷ w ∷ [])
      (made_spells ("IN" ▸ name) i w (codes "IN" ∷ w ∷ []) (before_spells name "IN" w (w ∷ []) (name_spells w e)))))

  out_spells : (w : List ℕ) → is_in (But marks) w ≡ true → Spells bracket_form (o w) (codes "(" ∷ codes "OUT" ∷ w ∷ codes ")" ∷ [])
  out_spells w e =
      before_spells (inner ◂ ")") "(" (o w) (codes "OUT" ∷ w ∷ codes ")" ∷ [])
      (behind_spells inner ")" (o w) (codes "OUT" ∷ w ∷ [])
      (right_spells (made i ("IN" ▸ name)) (made o ("OUT" ▸ name) or made n ("BITS" ▸ number)) (o w) (codes "OUT" ∷ w ∷ [])
      (left_spells (made o ("OUT" ▸ name)) (made n ("BITS" ▸ number)) (o w) (codes "OUT" ∷ w ∷ [])
      (made_spells ("OUT" ▸ name) o w (codes "OUT" ∷ w ∷ []) (before_spells name "OUT" w (w ∷ []) (name_spells w e))))))

in_bracket : (w : List ℕ) → is_in (But marks) w ≡ true → (b : _) × Spells bracket b (codes "(" ∷ codes "IN" ∷ w ∷ codes ")" ∷ []) × ((e : Element) → put_bracket e b ≡ once e.input (record e { input = Some w }))
unfolding bracket
in_bracket w e = (_, in_spells _ _ _ w e, λ e. refl)

out_bracket : (w : List ℕ) → is_in (But marks) w ≡ true → (b : _) × Spells bracket b (codes "(" ∷ codes "OUT" ∷ w ∷ codes ")" ∷ []) × ((e : Element) → put_bracket e b ≡ once e.output (record e { output = Some w }))
unfolding bracket
out_bracket w e = (_, out_spells _ _ _ w e, λ e. refl)

-- what the words of an element say
abbrev element_text : ℕ → ℕ → Element
element_text k t = record { name = unit (unit_of k t); input = Some (codes "SI"); output = Some (codes "Q"); bits = None }

element_spells : (k t : ℕ) → Spells element (element_text k t) (element_words k t)
unfolding element put_all
element_spells k t =
    let u = unit (unit_of k t) in
    let a = in_bracket (codes "SI") refl in
    let b = out_bracket (codes "Q") refl in
    gathered_spells (made fresh_element name) bracket put_bracket (fresh_element u) (element_text k t) (a.0 ∷ b.0 ∷ []) (u ∷ []) _
    (made_spells name fresh_element u (u ∷ []) (name_spells u refl))
    (many_cons bracket a.0 (b.0 ∷ []) (codes "(" ∷ codes "IN" ∷ codes "SI" ∷ codes ")" ∷ []) _ a.1
    (many_cons bracket b.0 [] (codes "(" ∷ codes "OUT" ∷ codes "Q" ∷ codes ")" ∷ []) [] b.1 (many_nil bracket)))
    (rw (a.2 (fresh_element u), b.2 (record (fresh_element u) { input = Some (codes "SI") })) refl)

many_elements : (k : ℕ) (ts : List ℕ) → Spells (many element) (map (element_text k) ts) (flat_map (element_words k) ts)
many_elements k [] = many_nil element
many_elements k (t ∷ ts) = many_cons element (element_text k t) (map (element_text k) ts) (element_words k t) (flat_map (element_words k) ts) (element_spells k t) (many_elements k ts)

elements_spell : (k : ℕ) (ts : List ℕ) → some_list ts ≡ true → Spells elements (map (element_text k) ts) (flat_map (element_words k) ts)
unfolding elements
elements_spell k [] h = absurd cc
elements_spell k (t ∷ ts) h = some_spells element (element_text k t) (map (element_text k) ts) (element_words k t) (flat_map (element_words k) ts) (element_spells k t) (many_elements k ts)

floating_spells : (k : ℕ) (ts : List ℕ) → some_list ts ≡ true → Spells element_list (lists.Floating (map (element_text k) ts)) (codes "FLOATING" ∷ flat_map (element_words k) ts)
unfolding element_list
floating_spells k ts h =
    left_spells (made lists.Floating ("FLOATING" ▸ elements)) (made lists.Ordered ("ORDERED" ▸ elements)) (lists.Floating (map (element_text k) ts)) _
    (made_spells ("FLOATING" ▸ elements) lists.Floating (map (element_text k) ts) _ (before_spells elements "FLOATING" (map (element_text k) ts) (flat_map (element_words k) ts) (elements_spell k ts h)))

-- a design pin
abbrev port_text : List ℕ → Terminal
port_text port = terminals.AtPin port

port_spells : (port : List ℕ) → is_in (But marks) port ≡ true → Spells terminal (port_text port) (codes "PIN" ∷ port ∷ [])
unfolding terminal
port_spells port e =
    left_spells (made terminals.AtPin ("PIN" ▸ name)) (made (λ p. terminals.AtCell p.0 p.1) (cell_name & maybe name)) (port_text port) (codes "PIN" ∷ port ∷ [])
    (made_spells ("PIN" ▸ name) terminals.AtPin port (codes "PIN" ∷ port ∷ []) (before_spells name "PIN" port (port ∷ []) (name_spells port e)))

abbrev partition_text : ℕ → ℕ → Partition
partition_text n k = record { name = partition_name (k / 4); max_bits = Some (decimal (max_bits n)) }

partition_spells : (n k : ℕ) → Spells partition (partition_text n k) (codes "PARTITION" ∷ partition_name (k / 4) ∷ codes "MAXBITS" ∷ decimal (max_bits n) ∷ [])
unfolding partition
partition_spells n k =
    let p = partition_name (k / 4) in
    let m = decimal (max_bits n) in
    made_spells ("PARTITION" ▸ (name & maybe ("MAXBITS" ▸ number))) (λ p. record { name = p.0; max_bits = p.1 }) (p, Some m) _
    (before_spells (name & maybe ("MAXBITS" ▸ number)) "PARTITION" (p, Some m) (p ∷ codes "MAXBITS" ∷ m ∷ [])
    (seq_spells name (maybe ("MAXBITS" ▸ number)) p (Some m) (p ∷ []) (codes "MAXBITS" ∷ m ∷ []) (name_spells p refl)
    (maybe_spells ("MAXBITS" ▸ number) m (codes "MAXBITS" ∷ m ∷ []) (before_spells number "MAXBITS" m (m ∷ []) (number_spells (max_bits n))))))

-- the clauses of a chain, whatever they make
module _ {C : Type 0} (p : Partition → C) (m : CommonPins → C) (s t : Terminal → C) (l : ElementList → C) where
  abbrev from_lists : Form C
  from_lists = made l element_list

  abbrev from_stop : Form C
  from_stop = made t ("STOP" ▸ terminal) or from_lists

  abbrev from_start : Form C
  from_start = made s ("START" ▸ terminal) or from_stop

  abbrev from_pins : Form C
  from_pins = made m common_pins or from_start

  abbrev any_clause : Form C
  any_clause = made p partition or from_pins

  abbrev clause_form : Form C
  clause_form = "+" ▸ any_clause

  partition_first : (x : Partition) (ws : List (List ℕ)) → Spells partition x ws → Spells clause_form (p x) (codes "+" ∷ ws)
  partition_first x ws h = before_spells any_clause "+" (p x) ws (left_spells (made p partition) from_pins (p x) ws (made_spells partition p x ws h))

  start_first : (x : Terminal) (ws : List (List ℕ)) → Spells terminal x ws → Spells clause_form (s x) (codes "+" ∷ codes "START" ∷ ws)
  start_first x ws h =
      before_spells any_clause "+" (s x) (codes "START" ∷ ws) (right_spells (made p partition) from_pins (s x) (codes "START" ∷ ws) (right_spells (made m common_pins) from_start (s x) (codes "START" ∷ ws)
      (left_spells (made s ("START" ▸ terminal)) from_stop (s x) (codes "START" ∷ ws) (made_spells ("START" ▸ terminal) s x (codes "START" ∷ ws) (before_spells terminal "START" x ws h)))))

  stop_first : (x : Terminal) (ws : List (List ℕ)) → Spells terminal x ws → Spells clause_form (t x) (codes "+" ∷ codes "STOP" ∷ ws)
  stop_first x ws h =
      before_spells any_clause "+" (t x) (codes "STOP" ∷ ws) (right_spells (made p partition) from_pins (t x) (codes "STOP" ∷ ws) (right_spells (made m common_pins) from_start (t x) (codes "STOP" ∷ ws)
      (right_spells (made s ("START" ▸ terminal)) from_stop (t x) (codes "STOP" ∷ ws)
      (left_spells (made t ("STOP" ▸ terminal)) from_lists (t x) (codes "STOP" ∷ ws) (made_spells ("STOP" ▸ terminal) t x (codes "STOP" ∷ ws) (before_spells terminal "STOP" x ws h))))))

  list_first : (x : ElementList) (ws : List (List ℕ)) → Spells element_list x ws → Spells clause_form (l x) (codes "+" ∷ ws)
  list_first x ws h =
      before_spells any_clause "+" (l x) ws (right_spells (made p partition) from_pins (l x) ws (right_spells (made m common_pins) from_start (l x) ws
      (right_spells (made s ("START" ▸ terminal)) from_stop (l x) ws (right_spells (made t ("STOP" ▸ terminal)) from_lists (l x) ws (made_spells element_list l x ws h)))))

partition_clause : (x : Partition) (ws : List (List ℕ)) → Spells partition x ws → (c : _) × Spells clause c (codes "+" ∷ ws) × ((s : _) → put_clause s c ≡ once s.partition (record s { partition = Some x }))
unfolding clause
partition_clause x ws h = (_, partition_first _ _ _ _ _ x ws h, λ s. refl)

start_clause : (x : Terminal) (ws : List (List ℕ)) → Spells terminal x ws → (c : _) × Spells clause c (codes "+" ∷ codes "START" ∷ ws) × ((s : _) → put_clause s c ≡ once s.start (record s { start = Some x }))
unfolding clause
start_clause x ws h = (_, start_first _ _ _ _ _ x ws h, λ s. refl)

stop_clause : (x : Terminal) (ws : List (List ℕ)) → Spells terminal x ws → (c : _) × Spells clause c (codes "+" ∷ codes "STOP" ∷ ws) × ((s : _) → put_clause s c ≡ once s.stop (record s { stop = Some x }))
unfolding clause
stop_clause x ws h = (_, stop_first _ _ _ _ _ x ws h, λ s. refl)

list_clause : (x : ElementList) (ws : List (List ℕ)) → Spells element_list x ws
    → (c : _) × Spells clause c (codes "+" ∷ ws) × ((s : _) → put_clause s c ≡ (if is_floating x && list_any is_floating s.lists then None else Some (record s { lists = s.lists ++ x ∷ [] })))
unfolding clause
list_clause x ws h = (_, list_first _ _ _ _ _ x ws h, λ s. refl)

-- what the words of chain k say
abbrev chain_text : ℕ → ℕ → Chain
chain_text n k =
    record {
      name = chain_name k;
      partition = Some (partition_text n k);
      common_pins = None;
      start = port_text (in_port k);
      stop = port_text (out_port k);
      lists = lists.Floating (map (element_text k) (element_numbers n k)) ∷ [];
    }

chain_spells : (n k : ℕ) → some_list (element_numbers n k) ≡ true → Spells chain (chain_text n k) (chain_words n k)
unfolding chain put_all
chain_spells n k some =
    let es = flat_map (element_words k) (element_numbers n k) in
    let list = lists.Floating (map (element_text k) (element_numbers n k)) in
    let p = partition_clause (partition_text n k) (codes "PARTITION" ∷ partition_name (k / 4) ∷ codes "MAXBITS" ∷ decimal (max_bits n) ∷ []) (partition_spells n k) in
    let a = start_clause (port_text (in_port k)) (codes "PIN" ∷ in_port k ∷ []) (port_spells (in_port k) refl) in
    let f = list_clause list (codes "FLOATING" ∷ es) (floating_spells k (element_numbers n k) some) in
    let z = stop_clause (port_text (out_port k)) (codes "PIN" ∷ out_port k ∷ []) (port_spells (out_port k) refl) in
    let pw = codes "+" ∷ codes "PARTITION" ∷ partition_name (k / 4) ∷ codes "MAXBITS" ∷ decimal (max_bits n) ∷ [] in
    let aw = codes "+" ∷ codes "START" ∷ codes "PIN" ∷ in_port k ∷ [] in
    let fw = codes "+" ∷ codes "FLOATING" ∷ es in
    let zw = codes "+" ∷ codes "STOP" ∷ codes "PIN" ∷ out_port k ∷ [] in
    let s0 = fresh_chain (chain_name k) in
    let s1 = record s0 { partition = Some (partition_text n k) } in
    let s2 = record s1 { start = Some (port_text (in_port k)) } in
    let s3 = record s2 { lists = list ∷ [] } in
    let s4 = record s3 { stop = Some (port_text (out_port k)) } in
    let put : put_all put_clause s0 (p.0 ∷ a.0 ∷ f.0 ∷ z.0 ∷ []) ≡ Some s4 = rw (p.2 s0, a.2 s1, f.2 s2, z.2 s3) refl in
    let pieces =
    many_cons clause p.0 (a.0 ∷ f.0 ∷ z.0 ∷ []) pw (aw ++ (fw ++ (zw ++ []))) p.1
    (many_cons clause a.0 (f.0 ∷ z.0 ∷ []) aw (fw ++ (zw ++ [])) a.1
    (many_cons clause f.0 (z.0 ∷ []) fw (zw ++ []) f.1 (many_cons clause z.0 [] zw [] z.1 (many_nil clause))))
    in
    let start = made fresh_chain ("-" ▸ name) in
    let all = gathered start put_clause clause in
    let fits : chain_of s4 ≡ Some (chain_text n k) = refl in
    let first = made_spells ("-" ▸ name) fresh_chain (chain_name k) (codes "-" ∷ chain_name k ∷ []) (before_spells name "-" (chain_name k) (chain_name k ∷ []) (name_spells (chain_name k) refl)) in
    let whole = gathered_spells start clause put_clause s0 s4 (p.0 ∷ a.0 ∷ f.0 ∷ z.0 ∷ []) (codes "-" ∷ chain_name k ∷ []) (pw ++ (aw ++ (fw ++ (zw ++ [])))) first pieces put in
    subst (λ (l : List (List ℕ)). Spells chain (chain_text n k) (head_words n k ++ l)) (append_assoc es zw (codes ";" ∷ []))
    (made_if_spells (all ◂ ";") chain_of s4 (chain_text n k) _ fits (behind_spells all ";" s4 _ whole))

some_range : (m : ℕ) → 0 < m → some_list (range_with_len 0 m) ≡ true
some_range zero some = absurd (omega arith)
some_range (suc m) some = refl

-- what they make
elements_made : (cells : Cells) (components : List Component) (k : ℕ) (ts : List ℕ) → map (denoted.element_of cells components None) (map (element_text k) ts) ≡ map (made_element k) ts
elements_made cells components k [] = refl
elements_made cells components k (t ∷ ts) =
    let here : denoted.element_of cells components None (element_text k t) ≡ made_element k t = rw (plain_unit (unit_of k t)) refl in
    ap (λ (e : MadeElement). e ∷ map (denoted.element_of cells components None) (map (element_text k) ts)) here ∙ ap (λ (l : List MadeElement). made_element k t ∷ l) (elements_made cells components k ts)

few_elements : (k : ℕ) (ts : List ℕ) → have_many (map (element_text k) ts) ≡ false
few_elements k [] = refl
few_elements k (t ∷ ts) = few_elements k ts

-- a table and components, beside which chains are read
abbrev pub Beside : Type 0
Beside = Cells × List Component

abbrev pub chain_beside : Beside → Located Chain → ScanChainText
chain_beside c = denoted.chain_of c.0 c.1

abbrev pub IsEight : ℕ → Type 0
IsEight k = k < 8

abbrev pub ChainRows : List ℕ → ℕ → List (List Token) → Type 0
ChainRows text n ss = Rows {C = Beside} chain text (chain_words n) chain_beside (made_chain n) has_many_bits IsEight chain_numbers ss

module _ (n : ℕ) (some : 8 ≤ n) (most : n ≤ 16384) (text : List ℕ) where
  chain_row : (k : ℕ) (s : List Token) → IsEight k → AreIn text s → token_texts s ≡ chain_words n k → Row {C = Beside} chain text (chain_words n) chain_beside (made_chain n) has_many_bits IsEight k s
  chain_row k s lt inside e =
      let bits = bits_are (max_bits n) (omega arith) in
      record {
        value = chain_text n k;
        spelled = chain_spells n k (some_range (chain_length n k) (omega arith)) s e;
        place = record { line = line_at text (start_of s); span = place_of s };
        is = λ c. rw (plain_chain k, plain_partition (k / 4), bits, plain_in_port k, plain_out_port k, elements_made c.0 c.1 k (element_numbers n k)) refl;
        fits = rw (bits, few_elements k (element_numbers n k)) refl;
      }

  pub chains_are : (ss : List (List Token)) → Each (AreIn text) ss → map token_texts ss ≡ map (chain_words n) chain_numbers → ChainRows text n ss
  chains_are ss inside e = rows_of chain text (chain_words n) chain_beside (made_chain n) has_many_bits IsEight chain_row chain_numbers ss (each_eight IsEight (λ k lt. lt)) inside e
