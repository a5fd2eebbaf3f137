-- The lines of the made Verilog.
use Rattle.std.proofs.Common.{◌≡◌, ℕ, zero, suc, ◌+◌, ◌-◌, ◌≤◌, List, [], ◌∷◌, ◌++◌, map, refl, sym, ap, ◌∙◌, subst, append_assoc, codes, decimal, arith}
use Rattle.std.specs.List.{flat_map, range_with_len}
use Rattle.std.specs.Fmt.{digits}
use Rattle.std.proofs.lemmas.List.{append-nil}
use Rattle.token_forms.specs.Pieces.{texts_from}
use Rattle.verilog_syntax.specs.VerilogTokens.{open_piece, piece_at, texts}
use Rattle.design_maker.specs.Pieces.{pieces, between}
use Rattle.design_maker.specs.Chains.{last_unit}
use Rattle.design_maker.specs.MadeVerilog as text
use Rattle.made_law.specs.Designs.Names.{unit, unit_net, in_port, out_port}
use Rattle.made_law.specs.Designs.MadeStatements.{flat}
use Rattle.made_law.specs.Verilog.MadeWords.{input_names, output_names, wire_names, comma_words, header_words, declare_words, first_words, later_words, assign_words, made_words}
use Rattle.made_law.specs.Verilog.Laws.{WordsLaw}
use Rattle.made_law.proofs.verilog.Laying.{blank_texts, laid_texts, word_number, Lines, both_lines, one_line, map_last, line_pieces}

-- units
abbrev instance_laid : List ℕ → List ℕ → List ℕ → List (ℕ × List ℕ)
instance_laid name from to =
    (2, codes "SDF") ∷ (1, name) ∷ (1, codes "(") ∷ (1, codes ".") ∷ (0, codes "D") ∷ (0, codes "(") ∷ (0, codes "d") ∷ (0, codes ")") ∷ (0, codes ",")
    ∷ (1, codes ".") ∷ (0, codes "CK") ∷ (0, codes "(") ∷ (0, codes "clk") ∷ (0, codes ")") ∷ (0, codes ",") ∷ (1, codes ".") ∷ (0, codes "SE") ∷ (0, codes "(") ∷ (0, codes "se") ∷ (0, codes ")") ∷ (0, codes ",")
    ∷ (1, codes ".") ∷ (0, codes "SI") ∷ (0, codes "(") ∷ (0, from) ∷ (0, codes ")") ∷ (0, codes ",") ∷ (1, codes ".") ∷ (0, codes "Q") ∷ (0, codes "(") ∷ (0, to) ∷ (0, codes ")") ∷ (1, codes ")") ∷ (0, codes ";") ∷ []

first_line : (i : ℕ) → Lines (text.first_unit i) (first_words i ∷ [])
first_line i = one_line (instance_laid (unit i) (in_port i) (unit_net i)) (rw (word_number i) refl)

later_line : (i : ℕ) → Lines (text.later_unit i) (later_words i ∷ [])
later_line i = one_line (instance_laid (unit (i + 8)) (unit_net i) (unit_net (i + 8))) (rw (word_number i, word_number (i + 8)) refl)

assign_line : (n k : ℕ) → Lines (text.assign n k) (assign_words n k ∷ [])
assign_line n k = one_line ((2, codes "assign") ∷ (1, out_port k) ∷ (1, codes "=") ∷ (1, unit_net (last_unit n k)) ∷ (0, codes ";") ∷ []) (rw (word_number k, word_number (last_unit n k)) refl)

-- wires
wire_piece : (i : ℕ) → Lines (between (codes "q") (codes ", ") i) ((unit_net i ∷ codes "," ∷ []) ∷ [])
wire_piece i = record {
  goes = λ z. laid_texts ((0, unit_net i) ∷ (0, codes ",") ∷ []) 32 [] z (rw (word_number i) refl) ∙ ap (λ (l : List (List ℕ)). unit_net i ∷ codes "," ∷ l) (blank_texts 32 z refl);
}

wires_laid : (is : List ℕ) (j : ℕ) → flat (map (λ i. unit_net i ∷ codes "," ∷ []) is) ++ unit_net j ∷ [] ≡ comma_words (map unit_net is ++ unit_net j ∷ [])
wires_laid [] j = refl
wires_laid (i ∷ is) j = ap (λ (l : List (List ℕ)). unit_net i ∷ l) (commas is)
  where
    commas : (is : List ℕ) → codes "," ∷ (flat (map (λ i. unit_net i ∷ codes "," ∷ []) is) ++ unit_net j ∷ []) ≡ flat_map (λ other. codes "," ∷ other ∷ []) (map unit_net is ++ unit_net j ∷ [])
    commas [] = refl
    commas (i ∷ is) = ap (λ (l : List (List ℕ)). codes "," ∷ unit_net i ∷ l) (commas is)

wire_lines : (m : ℕ) → Lines (text.wires_text (suc m)) (declare_words (codes "wire") (wire_names (suc m)) ∷ [])
unfolding text.wires_text
wire_lines m = record {
  goes = λ z.
      let e : suc m - 1 ≡ m = omega arith in
      subst (λ (k : ℕ). texts (codes "  wire " ++ (pieces (between (codes "q") (codes ", ")) k ++ (113 ∷ (decimal k ++ codes ";\n"))) ++ z) ≡ flat (declare_words (codes "wire") (wire_names (suc m)) ∷ []) ++ texts z) (sym e) (all z);
}
  where
    rest : List ℕ
    rest = pieces (between (codes "q") (codes ", ")) m ++ (113 ∷ (decimal m ++ codes ";\n"))

    all : (z : List ℕ) → texts (codes "  wire " ++ (pieces (between (codes "q") (codes ", ")) m ++ (113 ∷ (decimal m ++ codes ";\n"))) ++ z) ≡ flat (declare_words (codes "wire") (wire_names (suc m)) ∷ []) ++ texts z
    all z =
        let ps = pieces (between (codes "q") (codes ", ")) m in
        let last = 113 ∷ (decimal m ++ codes ";\n") in
        let commas = flat (map (λ i. unit_net i ∷ codes "," ∷ []) (range_with_len 0 m)) in
        laid_texts ((2, codes "wire") ∷ []) 32 (ps ++ last) z refl
        ∙ ap (λ (l : List (List ℕ)). codes "wire" ∷ l) (blank_texts 32 ((ps ++ last) ++ z) refl ∙ ap texts (append_assoc ps last z) ∙ (line_pieces (between (codes "q") (codes ", ")) (λ i. unit_net i ∷ codes "," ∷ []) wire_piece m).goes (last ++ z)
        ∙ ap (λ (l : List (List ℕ)). commas ++ l) (laid_texts ((0, unit_net m) ∷ (0, codes ";") ∷ []) 10 [] z (rw (word_number m) refl) ∙ ap (λ (l : List (List ℕ)). unit_net m ∷ codes ";" ∷ l) (blank_texts 10 z refl))
        ∙ sym (append_assoc commas (unit_net m ∷ []) (codes ";" ∷ texts z))
        ∙ ap (λ (l : List (List ℕ)). l ++ codes ";" ∷ texts z) (wires_laid (range_with_len 0 m) m ∙ ap comma_words (sym (map_last unit_net m)))
        ∙ sym (append_assoc (comma_words (wire_names (suc m))) (codes ";" ∷ []) (texts z)))
        ∙ ap (λ (l : List (List ℕ)). codes "wire" ∷ l ++ texts z) (sym (append-nil (comma_words (wire_names (suc m)) ++ codes ";" ∷ [])))

-- the header and the ports
abbrev front_statements : List (List (List ℕ))
front_statements = header_words ∷ declare_words (codes "input") input_names ∷ declare_words (codes "output") output_names ∷ []

header_is : (z : List ℕ) → texts (text.header_text ++ z) ≡ flat front_statements ++ texts (10 ∷ z)
unfolding text.header_text pieces digits texts_from piece_at open_piece
header_is z = refl

header_lines : Lines text.header_text front_statements
header_lines = record { goes = λ z. header_is z ∙ ap (λ (l : List (List ℕ)). flat front_statements ++ l) (blank_texts 10 z refl) }

wires_of : (n : ℕ) → 8 ≤ n → Lines (text.wires_text n) (declare_words (codes "wire") (wire_names n) ∷ [])
wires_of zero le = absurd (omega arith)
wires_of (suc m) le = wire_lines m

-- what is left
end_texts : texts (codes "endmodule\n") ≡ codes "endmodule" ∷ []
unfolding texts_from piece_at
end_texts = refl

pub words_are : WordsLaw
unfolding text.verilog_text
words_are n le =
    let firsts = line_pieces text.first_unit first_words first_line 8 in
    let laters = line_pieces text.later_unit later_words later_line (n - 8) in
    let assigns = line_pieces (text.assign n) (assign_words n) (assign_line n) 8 in
    let end = codes "endmodule\n" in
    let a = pieces text.first_unit 8 in
    let b = pieces text.later_unit (n - 8) in
    let c = pieces (text.assign n) 8 in
    let fs = map first_words (range_with_len 0 8) in
    let ls = map later_words (range_with_len 0 (n - 8)) in
    let gs = map (assign_words n) (range_with_len 0 8) in
    let tail = both_lines a (b ++ c) fs (ls ++ gs) firsts (both_lines b c ls gs laters assigns) in
    let body = both_lines (text.wires_text n) (a ++ (b ++ c)) (declare_words (codes "wire") (wire_names n) ∷ []) (fs ++ (ls ++ gs)) (wires_of n le) tail in
    let whole = both_lines text.header_text (text.wires_text n ++ (a ++ (b ++ c))) front_statements (declare_words (codes "wire") (wire_names n) ∷ (fs ++ (ls ++ gs))) header_lines body in
    let nested : text.header_text ++ (text.wires_text n ++ (a ++ (b ++ (c ++ end)))) ≡ (text.header_text ++ (text.wires_text n ++ (a ++ (b ++ c)))) ++ end =
    simp append_assoc refl
    in
    ap texts nested ∙ whole.goes end ∙ ap (λ (l : List (List ℕ)). flat (made_words n) ++ l) end_texts
