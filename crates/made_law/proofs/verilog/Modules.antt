-- The made Verilog is the module of its statements.
use Rattle.std.proofs.Common.{◌≡◌, ℕ, zero, suc, ◌+◌, ◌-◌, ◌≤◌, Bool, true, false, List, [], ◌∷◌, ◌++◌, map, None, refl, sym, ap, ◌∙◌, append_assoc, codes, arith}
use Rattle.std.specs.List.{range_with_len}
use Rattle.std.specs.List.{AllByRecursion as Each}
use Rattle.base_types.specs.declared.span.Span.{Span}
use Rattle.token_forms.specs.Parts.{Fixed, list_parts, spelled, token_texts}
use Rattle.token_forms.specs.Tokens.{tokens_of}
use Rattle.token_forms.specs.Runs.{bytes_of, texts_of}
use Rattle.token_forms.proofs.Spelled.{spelled_append}
use Rattle.verilog_syntax.specs.declared.statement.Declared.{Declared}
use Rattle.verilog_syntax.specs.declared.statement.Declared.TheVariants.{Input, Output, Wire}
use Rattle.verilog_syntax.specs.declared.statement.Item.TheVariants as items
use Rattle.verilog_syntax.specs.declared.statement.Statement.{Statement}
use Rattle.verilog_syntax.specs.declared.statement.Statement.TheVariants.{Declare}
use Rattle.verilog_syntax.specs.declared.reading.Placed.{Placed}
use Rattle.verilog_syntax.specs.VerilogTokens.{texts, verilog_tokens}
use Rattle.verilog_syntax.specs.Words.{is_name}
use Rattle.verilog_syntax.specs.StatementParts.{statement_parts, name_parts, IsName, IsExpression, IsGoodConnection, IsGoodStatement, Operand, is_header}
use Rattle.verilog_syntax.specs.Laws.{tokens_in, module_parts, AreGood, bare_statement, bare}
use Rattle.verilog_syntax.proofs.Modules.{module_law}
use Rattle.verilog_syntax.proofs.ReadLaw.{read_law}
use Rattle.verilog_syntax.proofs.VerilogLaws.{texts_law}
use Rattle.design_maker.specs.Chains.{last_unit}
use Rattle.design_maker.specs.MadeVerilog.{verilog_text}
use Rattle.made_law.specs.Designs.Names.{unit, unit_net, in_port, out_port}
use Rattle.made_law.specs.Designs.MadeComponents.{units}
use Rattle.made_law.specs.Designs.MadeStatements.{flat}
use Rattle.made_law.specs.Verilog.MadeWords.{input_names, output_names, wire_names, comma_words, header_words, declare_words, instance_words, first_words, later_words, assign_words, made_words}
use Rattle.made_law.specs.Verilog.MadeModule.{pin_of, instance_of, first_unit, later_unit, port_assign, made_header, made_body, made_module}
use Rattle.made_law.specs.Verilog.Laws.{ModuleLaw}
use Rattle.def_syntax.proofs.FrameLaws.{each_append}
use Rattle.made_law.proofs.verilog.Laying.{word_number}
use Rattle.made_law.proofs.verilog.Texts.{words_are}

-- names
unit_name : (i : ℕ) → IsName (unit i)
unfolding is_name
unit_name i = rw (word_number i) refl

net_name : (i : ℕ) → IsName (unit_net i)
unfolding is_name
net_name i = rw (word_number i) refl

in_name : (k : ℕ) → IsName (in_port k)
unfolding is_name
in_name k = rw (word_number k) refl

out_name : (k : ℕ) → IsName (out_port k)
unfolding is_name
out_name k = rw (word_number k) refl

record PlainNames : Type 0 where
  clk : IsName (codes "clk")
  se : IsName (codes "se")
  d : IsName (codes "d")
  top : IsName (codes "top")
  cell : IsName (codes "SDF")
  pin_d : IsName (codes "D")
  pin_ck : IsName (codes "CK")
  pin_se : IsName (codes "SE")
  pin_si : IsName (codes "SI")
  pin_q : IsName (codes "Q")

plain : PlainNames
unfolding is_name
plain = record { clk = refl; se = refl; d = refl; top = refl; cell = refl; pin_d = refl; pin_ck = refl; pin_se = refl; pin_si = refl; pin_q = refl }

each_name : (f : ℕ → List ℕ) → ((i : ℕ) → IsName (f i)) → (is : List ℕ) → Each IsName (map f is)
each_name f named [] = tt
each_name f named (i ∷ is) = (named i, each_name f named is)

input_named : Each IsName input_names
input_named = (plain.clk, (plain.se, (plain.d, each_name in_port in_name (range_with_len 0 8))))

output_named : Each IsName output_names
output_named = each_name out_port out_name (range_with_len 0 8)

-- names with commas
listed_names : (closing : ℕ) (name : List ℕ) (names : List (List ℕ)) → spelled (list_parts name_parts closing (name ∷ names)) ≡ comma_words (name ∷ names) ++ (closing ∷ []) ∷ []
listed_names closing name [] = refl
listed_names closing name (other ∷ names) = ap (λ (l : List (List ℕ)). name ∷ codes "," ∷ l) (listed_names closing other names)

-- a statement and its words
record Row (listed : Bool) (s : Statement) (ws : List (List ℕ)) : Type 0 where
  spells : spelled (statement_parts listed s) ≡ ws
  good : IsGoodStatement listed s
  bare : bare_statement s ≡ s

abbrev Rows : List Statement → List (List (List ℕ)) → Type 0
Rows [] [] = Unit {0}
Rows [] (w ∷ ws) = ⊥
Rows (s ∷ ss) [] = ⊥
Rows (s ∷ ss) (w ∷ ws) = (Row true s w × (is_header s ≡ false)) × Rows ss ws

rows_map : (make : ℕ → Statement) (words : ℕ → List (List ℕ)) → ((i : ℕ) → Row true (make i) (words i) × (is_header (make i) ≡ false)) → (is : List ℕ) → Rows (map make is) (map words is)
rows_map make words row [] = tt
rows_map make words row (i ∷ is) = (row i, rows_map make words row is)

rows_join : (ss us : List Statement) (ws vs : List (List (List ℕ))) → Rows ss ws → Rows us vs → Rows (ss ++ us) (ws ++ vs)
rows_join [] us [] vs r q = q
rows_join [] us (w ∷ ws) vs r q = absurd r
rows_join (s ∷ ss) us [] vs r q = absurd r
rows_join (s ∷ ss) us (w ∷ ws) vs r q = (r.0, rows_join ss us ws vs r.1 q)

-- the statements one by one
expression_row : (name : List ℕ) → IsName name → IsExpression (items.Name name ∷ [])
expression_row name named = record { tree = Operand (items.Name name); is = refl; operands = named }

pin_row : (pin net : List ℕ) → IsName pin → IsName net → IsGoodConnection (pin_of pin net)
pin_row pin net a b = record { pin = a; expression = expression_row net b }

instance_row : (name from to : List ℕ) → IsName name → IsName from → IsName to → Row true (instance_of name from to) (instance_words name from to) × (is_header (instance_of name from to) ≡ false)
instance_row name from to a b c = (
  record {
    spells = refl;
    good = (
      plain.cell,
      a,
      (
        pin_row (codes "D") (codes "d") plain.pin_d plain.d,
        (
          pin_row (codes "CK") (codes "clk") plain.pin_ck plain.clk,
          (
            pin_row (codes "SE") (codes "se") plain.pin_se plain.se,
            (pin_row (codes "SI") from plain.pin_si b, (pin_row (codes "Q") to plain.pin_q c, tt)),
          ),
        ),
      ),
    );
    bare = refl;
  },
  refl,
)

first_row : (i : ℕ) → Row true (first_unit i) (first_words i) × (is_header (first_unit i) ≡ false)
first_row i = instance_row (unit i) (in_port i) (unit_net i) (unit_name i) (in_name i) (net_name i)

later_row : (i : ℕ) → Row true (later_unit i) (later_words i) × (is_header (later_unit i) ≡ false)
later_row i = instance_row (unit (i + 8)) (unit_net i) (unit_net (i + 8)) (unit_name (i + 8)) (net_name i) (net_name (i + 8))

assign_row : (n k : ℕ) → Row true (port_assign n k) (assign_words n k) × (is_header (port_assign n k) ≡ false)
assign_row n k =
    (record { spells = refl; good = (expression_row (out_port k) (out_name k), (tt, tt), expression_row (unit_net (last_unit n k)) (net_name (last_unit n k))); bare = refl }, refl)

declare_row : (kind : Declared) (word name : List ℕ) (names : List (List ℕ)) → spelled (statement_parts true (Declare kind None (name ∷ names))) ≡ word ∷ spelled (list_parts name_parts 59 (name ∷ names)) → Each IsName (name ∷ names)
    → Row true (Declare kind None (name ∷ names)) (declare_words word (name ∷ names)) × (is_header (Declare kind None (name ∷ names)) ≡ false)
declare_row kind word name names is named =
    (record { spells = is ∙ ap (λ (l : List (List ℕ)). word ∷ l) (listed_names 59 name names); good = (tt, omega arith, named); bare = refl }, refl)

header_row : Row true made_header header_words
header_row = record {
  spells =
      ap (λ (l : List (List ℕ)). codes "module" ∷ codes "top" ∷ codes "(" ∷ l)
      (spelled_append (list_parts name_parts 41 (input_names ++ output_names)) (Fixed (59 ∷ []) ∷ [])
      ∙ ap (λ (l : List (List ℕ)). l ++ codes ";" ∷ []) (listed_names 41 (codes "clk") (codes "se" ∷ codes "d" ∷ (map in_port (range_with_len 0 8) ++ output_names)))
      ∙ append_assoc (comma_words (input_names ++ output_names)) (codes ")" ∷ []) (codes ";" ∷ []));
  good = (plain.top, each_append IsName input_names output_names input_named output_named);
  bare = refl;
}

wires_row : (n : ℕ) → 8 ≤ n → Row true (Declare Wire None (wire_names n)) (declare_words (codes "wire") (wire_names n)) × (is_header (Declare Wire None (wire_names n)) ≡ false)
wires_row zero le = absurd (omega arith)
wires_row (suc m) le = declare_row Wire (codes "wire") (unit_net 0) (map unit_net (range_with_len 1 m)) refl (each_name unit_net net_name (units (suc m)))

abbrev body_words : ℕ → List (List (List ℕ))
body_words n =
    declare_words (codes "input") input_names ∷ declare_words (codes "output") output_names ∷ declare_words (codes "wire") (wire_names n)
    ∷ (map first_words (range_with_len 0 8) ++ (map later_words (range_with_len 0 (n - 8)) ++ map (assign_words n) (range_with_len 0 8)))

body_rows : (n : ℕ) → 8 ≤ n → Rows (made_body n) (body_words n)
body_rows n le = (
  declare_row Input (codes "input") (codes "clk") (codes "se" ∷ codes "d" ∷ map in_port (range_with_len 0 8)) refl input_named,
  (
    declare_row Output (codes "output") (out_port 0) (map out_port (range_with_len 1 7)) refl output_named,
    (
      wires_row n le,
      rows_join (map first_unit (range_with_len 0 8)) (map later_unit (range_with_len 0 (n - 8)) ++ map (port_assign n) (range_with_len 0 8)) (map first_words (range_with_len 0 8)) (map later_words (range_with_len 0 (n - 8)) ++ map (assign_words n) (range_with_len 0 8))
          (rows_map first_unit first_words first_row (range_with_len 0 8))
          (rows_join (map later_unit (range_with_len 0 (n - 8))) (map (port_assign n) (range_with_len 0 8)) (map later_words (range_with_len 0 (n - 8))) (map (assign_words n) (range_with_len 0 8))
          (rows_map later_unit later_words later_row (range_with_len 0 (n - 8))) (rows_map (port_assign n) (assign_words n) (assign_row n) (range_with_len 0 8))),
    ),
  ),
)

-- all together
abbrev put : Statement → Placed
put s = record { statement = s; line = 0 }

rows_spelled : (ss : List Statement) (ws : List (List (List ℕ))) → Rows ss ws → spelled (module_parts true (map put ss)) ≡ flat ws ++ codes "endmodule" ∷ []
rows_spelled [] [] r = refl
rows_spelled [] (w ∷ ws) r = absurd r
rows_spelled (s ∷ ss) [] r = absurd r
rows_spelled (s ∷ ss) (w ∷ ws) r =
    spelled_append (statement_parts true s) (module_parts true (map put ss)) ∙ ap (λ (l : List (List ℕ)). l ++ spelled (module_parts true (map put ss))) r.0.0.spells
    ∙ ap (λ (l : List (List ℕ)). w ++ l) (rows_spelled ss ws r.1) ∙ sym (append_assoc w (flat ws) (codes "endmodule" ∷ []))

rows_good : (ss : List Statement) (ws : List (List (List ℕ))) → Rows ss ws → Each (λ p. IsGoodStatement true p.statement) (map put ss)
rows_good [] ws r = tt
rows_good (s ∷ ss) [] r = absurd r
rows_good (s ∷ ss) (w ∷ ws) r = (r.0.0.good, rows_good ss ws r.1)

rows_behind : (ss : List Statement) (ws : List (List (List ℕ))) → Rows ss ws → Each (λ p. is_header p.statement ≡ false) (map put ss)
rows_behind [] ws r = tt
rows_behind (s ∷ ss) [] r = absurd r
rows_behind (s ∷ ss) (w ∷ ws) r = (r.0.1, rows_behind ss ws r.1)

rows_plain : (ss : List Statement) (ws : List (List (List ℕ))) → Rows ss ws → bare (map put ss) ≡ ss
rows_plain [] ws r = refl
rows_plain (s ∷ ss) [] r = absurd r
rows_plain (s ∷ ss) (w ∷ ws) r = ap (λ (b : Statement). b ∷ bare (map put ss)) r.0.0.bare ∙ ap (λ (l : List Statement). s ∷ l) (rows_plain ss ws r.1)

-- a text's tokens without their places
texts_again : (text : List ℕ) (ss : List Span) → token_texts (tokens_of text ss) ≡ texts_of text ss
texts_again text [] = refl
texts_again text (s ∷ ss) = ap (λ (l : List (List ℕ)). bytes_of text s ∷ l) (texts_again text ss)

tokens_texts : (text : List ℕ) → token_texts (tokens_in text) ≡ texts text
tokens_texts text = texts_again text (verilog_tokens text) ∙ sym (texts_law text)

pub module_is : ModuleLaw
module_is n le =
    let text = verilog_text n in
    let rows = body_rows n le in
    let ps = map put (made_module n) in
    let good : AreGood true ps = record { order = (refl, rows_behind (made_body n) (body_words n) rows); good = (header_row.good, rows_good (made_body n) (body_words n) rows) } in
    let spells : spelled (module_parts true ps) ≡ flat (made_words n) ++ codes "endmodule" ∷ []
    = spelled_append (statement_parts true made_header) (module_parts true (map put (made_body n))) ∙ ap (λ (l : List (List ℕ)). l ++ spelled (module_parts true (map put (made_body n)))) header_row.spells
    ∙ ap (λ (l : List (List ℕ)). header_words ++ l) (rows_spelled (made_body n) (body_words n) rows) ∙ sym (append_assoc header_words (flat (body_words n)) (codes "endmodule" ∷ []))
    in
    let read = read_law text true ps good (tokens_texts text ∙ words_are n le ∙ sym spells) in
    record {
      statements = read.values;
      is = (module_law text read.values).0 read.is;
      same = read.same ∙ ap (λ (b : Statement). b ∷ bare (map put (made_body n))) header_row.bare ∙ ap (λ (l : List Statement). made_header ∷ l) (rows_plain (made_body n) (body_words n) rows);
    }
