-- The lines that are put in have their own tokens, whatever stands behind them: those of the statements that they are.
use Rattle.std.proofs.Common.{◌≡◌, ℕ, Bool, true, false, List, [], ◌∷◌, ◌++◌, map, codes, refl, sym, ap, ◌∙◌, append_assoc}
use Rattle.std.specs.List.{flat_map, AllByRecursion as Each}
use Rattle.std.proofs.lemmas.List.{append-nil}
use Rattle.token_forms.specs.declared.piece.Piece.TheVariants.{Token}
use Rattle.token_forms.specs.Parts.{Part, Fixed, Slot, spelled}
use Rattle.token_forms.proofs.Fronts.{texts-step}
use Rattle.token_forms.proofs.Spelled.{spelled_append}
use Rattle.verilog_syntax.specs.VerilogTokens.{piece_at, texts}
use Rattle.verilog_syntax.specs.declared.reading.Placed.{Placed}
use Rattle.verilog_syntax.specs.Laws.{module_parts}
use Rattle.verilog_syntax.specs.StatementParts.{item_texts, expression_texts, texts_parts, statement_parts}
use Rattle.verilog_syntax.proofs.NameTokens.{plain_law, name_texts}
use Rattle.verilog_syntax.proofs.VerilogPieces.{verilog_cut}
use Rattle.verilog_syntax.proofs.ReadForms.{spelled_texts}
use Rattle.verilog_writer.specs.VerilogText.{NetBit, net_text, net_item, IsNetBit}
use Rattle.verilog_writer.specs.Inserted.{BitAssign, wire_line, bit_line, wire_statement, bit_expression, assign_statement, IsPlainName, IsBitAssign}
use Rattle.verilog_writer.proofs.Bits.{bit_item}
use Rattle.verilog_writer.proofs.Settled.{semicolon_texts, blank_byte}

equals_piece : (z : List ℕ) → piece_at (61 ∷ z) ≡ Token 1
unfolding piece_at
equals_piece z = refl

equals_texts : (z : List ℕ) → texts (61 ∷ z) ≡ (61 ∷ []) ∷ texts z
equals_texts z = texts-step piece_at (61 ∷ z) (Token 1) verilog_cut (equals_piece z)

-- the parts of statements, without endmodule
abbrev pub parts_of : Bool → List Placed → List Part
parts_of listed ps = flat_map (λ (p : Placed). statement_parts listed p.statement) ps

-- a wire
abbrev wire_texts : List ℕ → List (List ℕ)
wire_texts name = codes "wire" ∷ name ∷ (59 ∷ []) ∷ []

wire_goes : (name z : List ℕ) → IsPlainName name → texts (wire_line name ++ z) ≡ wire_texts name ++ texts z
wire_goes name z plain =
    let has = plain_law name plain.identifier in
    let rest = name ++ 59 ∷ z in
    let whole : (name ++ codes ";") ++ z ≡ rest = append_assoc name (codes ";") z in
    ap (λ (l : List ℕ). texts (10 ∷ 32 ∷ 32 ∷ (codes "wire" ++ 32 ∷ l))) whole
    ∙ blank_byte 10 (32 ∷ 32 ∷ (codes "wire" ++ 32 ∷ rest)) refl
    ∙ blank_byte 32 (32 ∷ (codes "wire" ++ 32 ∷ rest)) refl
    ∙ blank_byte 32 (codes "wire" ++ 32 ∷ rest) refl
    ∙ name_texts 119 (codes "ire") (32 ∷ rest) refl refl refl
    ∙ ap (λ (l : List (List ℕ)). codes "wire" ∷ l)
    (blank_byte 32 rest refl ∙ has.ready.goes (59 ∷ z) refl ∙ ap (λ (l : List (List ℕ)). l ++ texts (59 ∷ z)) has.are ∙ ap (λ (l : List (List ℕ)). name ∷ l) (semicolon_texts z))

pub wires_go : (listed : Bool) (names : List (List ℕ)) (z : List ℕ) → Each IsPlainName names → texts (flat_map wire_line names ++ z) ≡ spelled (parts_of listed (map wire_statement names)) ++ texts z
wires_go listed [] z plain = refl
wires_go listed (name ∷ names) z plain =
    ap (λ (l : List ℕ). texts l) (append_assoc (wire_line name) (flat_map wire_line names) z)
    ∙ wire_goes name (flat_map wire_line names ++ z) plain.0
    ∙ ap (λ (l : List (List ℕ)). wire_texts name ++ l) (wires_go listed names z plain.1)

-- an assign
abbrev assign_texts : BitAssign → List (List ℕ)
assign_texts a = codes "assign" ∷ (item_texts (net_item a.left) ++ ((61 ∷ []) ∷ (item_texts (net_item a.right) ++ (59 ∷ []) ∷ [])))

bit_goes : (bit : NetBit) (z : List ℕ) → IsNetBit bit → texts (net_text bit ++ 32 ∷ z) ≡ item_texts (net_item bit) ++ texts z
bit_goes bit z is =
    let has = (bit_item bit is).texts in
    has.ready.goes (32 ∷ z) refl ∙ ap (λ (l : List (List ℕ)). l ++ texts (32 ∷ z)) has.are ∙ ap (λ (l : List (List ℕ)). item_texts (net_item bit) ++ l) (blank_byte 32 z refl)

end_goes : (bit : NetBit) (z : List ℕ) → IsNetBit bit → texts (net_text bit ++ 59 ∷ 10 ∷ z) ≡ item_texts (net_item bit) ++ (59 ∷ []) ∷ texts z
end_goes bit z is =
    let has = (bit_item bit is).texts in
    has.ready.goes (59 ∷ 10 ∷ z) refl ∙ ap (λ (l : List (List ℕ)). l ++ texts (59 ∷ 10 ∷ z)) has.are
    ∙ ap (λ (l : List (List ℕ)). item_texts (net_item bit) ++ l) (semicolon_texts (10 ∷ z) ∙ ap (λ (l : List (List ℕ)). (59 ∷ []) ∷ l) (blank_byte 10 z refl))

assign_cut : (left right z : List ℕ) → (left ++ (codes " = " ++ (right ++ 59 ∷ 10 ∷ []))) ++ z ≡ left ++ (32 ∷ 61 ∷ 32 ∷ (right ++ 59 ∷ 10 ∷ z))
assign_cut left right z = append_assoc left (codes " = " ++ (right ++ 59 ∷ 10 ∷ [])) z ∙ ap (λ (l : List ℕ). left ++ (32 ∷ 61 ∷ 32 ∷ l)) (append_assoc right (59 ∷ 10 ∷ []) z)

assign_goes : (a : BitAssign) (z : List ℕ) → IsBitAssign a → texts (bit_line a ++ z) ≡ assign_texts a ++ texts z
assign_goes a z is =
    let left = net_text a.left in
    let right = net_text a.right in
    let ls = item_texts (net_item a.left) in
    let rs = item_texts (net_item a.right) in
    let rest = left ++ (32 ∷ 61 ∷ 32 ∷ (right ++ 59 ∷ 10 ∷ z)) in
    ap (λ (l : List ℕ). texts (32 ∷ 32 ∷ (codes "assign" ++ 32 ∷ l))) (assign_cut left right z)
    ∙ blank_byte 32 (32 ∷ (codes "assign" ++ 32 ∷ rest)) refl
    ∙ blank_byte 32 (codes "assign" ++ 32 ∷ rest) refl
    ∙ name_texts 97 (codes "ssign") (32 ∷ rest) refl refl refl
    ∙ ap (λ (l : List (List ℕ)). codes "assign" ∷ l)
    (blank_byte 32 rest refl
    ∙ bit_goes a.left (61 ∷ 32 ∷ (right ++ 59 ∷ 10 ∷ z)) is.left
    ∙ ap (λ (l : List (List ℕ)). ls ++ l)
    (equals_texts (32 ∷ (right ++ 59 ∷ 10 ∷ z))
    ∙ ap (λ (l : List (List ℕ)). (61 ∷ []) ∷ l) (blank_byte 32 (right ++ 59 ∷ 10 ∷ z) refl ∙ end_goes a.right z is.right))
    ∙ ap (λ (l : List (List ℕ)). ls ++ (61 ∷ []) ∷ l) (sym (append_assoc rs ((59 ∷ []) ∷ []) (texts z)))
    ∙ sym (append_assoc ls ((61 ∷ []) ∷ (rs ++ (59 ∷ []) ∷ [])) (texts z)))

assign_spelled : (listed : Bool) (a : BitAssign) → spelled (statement_parts listed (assign_statement a).statement) ≡ assign_texts a
assign_spelled listed a =
    let ls = item_texts (net_item a.left) in
    let rs = item_texts (net_item a.right) in
    ap (λ (l : List (List ℕ)). codes "assign" ∷ l)
    (spelled_append (texts_parts (ls ++ [])) (Slot 61 (bit_expression a.right).span (rs ++ []) 59 ∷ [])
    ∙ ap (λ (l : List (List ℕ)). l ++ ((61 ∷ []) ∷ ((rs ++ []) ++ (59 ∷ []) ∷ []))) (spelled_texts (ls ++ []) ∙ append-nil ls)
    ∙ ap (λ (l : List (List ℕ)). ls ++ ((61 ∷ []) ∷ (l ++ (59 ∷ []) ∷ []))) (append-nil rs))

pub assigns_go : (listed : Bool) (all : List BitAssign) (z : List ℕ) → Each IsBitAssign all → texts (flat_map bit_line all ++ z) ≡ spelled (parts_of listed (map assign_statement all)) ++ texts z
assigns_go listed [] z are = refl
assigns_go listed (a ∷ all) z are =
    ap (λ (l : List ℕ). texts l) (append_assoc (bit_line a) (flat_map bit_line all) z)
    ∙ assign_goes a (flat_map bit_line all ++ z) are.0
    ∙ ap (λ (l : List (List ℕ)). assign_texts a ++ l) (assigns_go listed all z are.1)
    ∙ sym (append_assoc (assign_texts a) (spelled (parts_of listed (map assign_statement all))) (texts z))
    ∙ ap (λ (l : List (List ℕ)). l ++ texts z)
    (sym (spelled_append (statement_parts listed (assign_statement a).statement) (parts_of listed (map assign_statement all))
    ∙ ap (λ (l : List (List ℕ)). l ++ spelled (parts_of listed (map assign_statement all))) (assign_spelled listed a)))
