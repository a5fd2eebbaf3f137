-- Where the tokens of a module have the end of its header and endmodule.
use Rattle.std.proofs.Common.{◌≡◌, ℕ, Bool, true, false, cond, List, [], ◌∷◌, ◌++◌, map, codes, refl, sym, ap, ap₂, ◌∙◌, subst, append_assoc}
use Rattle.std.specs.List.{AllByRecursion as Each}
use Rattle.std.specs.Str.{bytes_eq}
use Rattle.base_types.proofs.TruthValues.{bytes_same}
use Rattle.token_forms.specs.Tokens.{Token}
use Rattle.token_forms.specs.Statements.{is_semicolon}
use Rattle.token_forms.specs.Parts.{token_texts, spelled}
use Rattle.token_forms.proofs.Spelled.{spelled_append}
use Rattle.verilog_syntax.specs.declared.reading.Placed.{Placed}
use Rattle.verilog_syntax.specs.StatementParts.{statement_parts, IsGoodStatement}
use Rattle.verilog_syntax.specs.Laws.{module_parts}
use Rattle.verilog_syntax.proofs.Apart.{IsInner}
use Rattle.verilog_syntax.proofs.Closing.{statement_shape}
use Rattle.verilog_writer.specs.Inserted.{header_end, last_start}
use Rattle.verilog_writer.proofs.Lines.{parts_of}

-- the end of the header
pub record Header (front behind : List Token) (ws : List (List ℕ)) : Type 0 where
  pub before : List Token
  pub semicolon : Token
  pub is : front ≡ before ++ semicolon ∷ []
  pub texts : token_texts before ≡ ws
  pub text : semicolon.text ≡ 59 ∷ []
  pub ends : header_end (front ++ behind) ≡ semicolon.end

pub header : (front behind : List Token) (ws : List (List ℕ)) → token_texts front ≡ ws ++ (59 ∷ []) ∷ [] → Each IsInner ws → Header front behind ws
header [] behind [] e inner = absurd cc
header [] behind (w ∷ ws) e inner = absurd cc
header (t ∷ []) behind [] e inner =
    let text : t.text ≡ 59 ∷ [] = cc in
    record { before = []; semicolon = t; is = refl; texts = refl; text = text; ends = rw (bytes_same t.text (59 ∷ []) text) refl }
header (t ∷ u ∷ front) behind [] e inner = absurd cc
header (t ∷ front) behind (w ∷ ws) e inner =
    let text : t.text ≡ w = cc in
    let others : token_texts front ≡ ws ++ (59 ∷ []) ∷ [] = cc in
    let none : is_semicolon t ≡ false = ap (λ (v : List ℕ). bytes_eq v (59 ∷ [])) text ∙ inner.0.0 in
    let h = header front behind ws others inner.1 in
    record {
      before = t ∷ h.before;
      semicolon = h.semicolon;
      is = ap (λ (l : List Token). t ∷ l) h.is;
      texts = ap₂ (λ (v : List ℕ) (vs : List (List ℕ)). v ∷ vs) text h.texts;
      text = h.text;
      ends = rw none h.ends;
    }

-- the last two tokens
pub record Last (ts : List Token) (a b : List ℕ) : Type 0 where
  pub front : List Token
  pub last : Token
  pub end : Token
  pub is : ts ≡ front ++ last ∷ end ∷ []
  pub last_text : last.text ≡ a
  pub end_text : end.text ≡ b
  pub starts : last_start ts ≡ end.start

last_of : (front : List Token) (last end : Token) → last_start (front ++ last ∷ end ∷ []) ≡ end.start
last_of [] last end = refl
last_of (t ∷ []) last end = refl
last_of (t ∷ u ∷ front) last end = last_of (u ∷ front) last end

pub two_last : (ts : List Token) (ws : List (List ℕ)) (a b : List ℕ) → token_texts ts ≡ ws ++ a ∷ b ∷ [] → Last ts a b
two_last [] [] a b e = absurd cc
two_last [] (w ∷ ws) a b e = absurd cc
two_last (t ∷ []) [] a b e = absurd cc
two_last (t ∷ u ∷ []) [] a b e = record { front = []; last = t; end = u; is = refl; last_text = cc; end_text = cc; starts = refl }
two_last (t ∷ u ∷ v ∷ ts) [] a b e = absurd cc
two_last (t ∷ ts) (w ∷ ws) a b e =
    let others : token_texts ts ≡ ws ++ a ∷ b ∷ [] = cc in
    let l = two_last ts ws a b others in
    let is : t ∷ ts ≡ (t ∷ l.front) ++ l.last ∷ l.end ∷ [] = ap (λ (l : List Token). t ∷ l) l.is in
    record { front = t ∷ l.front; last = l.last; end = l.end; is = is; last_text = l.last_text; end_text = l.end_text; starts = ap last_start is ∙ last_of (t ∷ l.front) l.last l.end }

-- a module's statements, and endmodule
pub module_spelled : (listed : Bool) (ps : List Placed) → spelled (module_parts listed ps) ≡ spelled (parts_of listed ps) ++ codes "endmodule" ∷ []
module_spelled listed [] = refl
module_spelled listed (p ∷ ps) =
    spelled_append (statement_parts listed p.statement) (module_parts listed ps)
    ∙ ap (λ (l : List (List ℕ)). spelled (statement_parts listed p.statement) ++ l) (module_spelled listed ps)
    ∙ sym (append_assoc (spelled (statement_parts listed p.statement)) (spelled (parts_of listed ps)) (codes "endmodule" ∷ []))
    ∙ ap (λ (l : List (List ℕ)). l ++ codes "endmodule" ∷ []) (sym (spelled_append (statement_parts listed p.statement) (parts_of listed ps)))

-- a semicolon stands before it
pub record Closed (ws : List (List ℕ)) : Type 0 where
  pub front : List (List ℕ)
  pub is : ws ≡ front ++ (59 ∷ []) ∷ codes "endmodule" ∷ []

pub closed : (listed : Bool) (p : Placed) (ps : List Placed) → Each (λ (q : Placed). IsGoodStatement listed q.statement) (p ∷ ps) → Closed (spelled (module_parts listed (p ∷ ps)))
closed listed p [] good =
    let s = statement_shape listed p.statement good.0 in
    record {
      front = s.front;
      is = module_spelled listed (p ∷ []) ∙ ap (λ (l : List (List ℕ)). l ++ codes "endmodule" ∷ []) (spelled_append (statement_parts listed p.statement) [] ∙ append_nil (spelled (statement_parts listed p.statement)) ∙ s.is)
          ∙ append_assoc s.front ((59 ∷ []) ∷ []) (codes "endmodule" ∷ []);
    }
  where
    append_nil : (l : List (List ℕ)) → l ++ [] ≡ l
    append_nil [] = refl
    append_nil (x ∷ l) = ap (λ (m : List (List ℕ)). x ∷ m) (append_nil l)
closed listed p (q ∷ ps) good =
    let c = closed listed q ps good.1 in
    let own = spelled (statement_parts listed p.statement) in
    record {
      front = own ++ c.front;
      is = spelled_append (statement_parts listed p.statement) (module_parts listed (q ∷ ps)) ∙ ap (λ (l : List (List ℕ)). own ++ l) c.is ∙ sym (append_assoc own c.front ((59 ∷ []) ∷ codes "endmodule" ∷ []));
    }
