-- What the tokens of a text spell is what it is read as.
use Rattle.std.proofs.Common.{◌≡◌, ℕ, ◌+◌, ◌==◌, Bool, false, List, [], ◌∷◌, ◌++◌, length, take, drop, codes, Some, Result, Ok, refl, sym, ap, ◌∙◌, subst, arith, append_assoc, length-append}
use Rattle.std.specs.Str.{bytes_eq}
use Rattle.std.proofs.lemmas.Bool.{ne_eqb}
use Rattle.std.proofs.lemmas.List.{map-append}
use Rattle.std.proofs.Math.Seq.{take-append_seam, drop-append-add}
use Rattle.std.specs.List.{AllByRecursion as Each}
use Rattle.token_forms.specs.Statements.{begin_with, statements_of}
use Rattle.token_forms.specs.Tokens.{Token}
use Rattle.token_forms.specs.Parts.{spelled, token_texts}
use Rattle.base_types.specs.declared.fault.Fault.{Fault}
use Rattle.base_types.proofs.TruthValues.{bytes_same}
use Rattle.token_forms.proofs.Spelled.{spelled_append}
use Rattle.token_forms.proofs.Joined.{CutTexts, cut_texts}
use Rattle.verilog_syntax.specs.declared.statement.Statement.{Statement}
use Rattle.verilog_syntax.specs.declared.reading.Placed.{Placed}
use Rattle.verilog_syntax.specs.StatementParts.{statement_parts, IsGoodStatement, is_header}
use Rattle.verilog_syntax.specs.Reading.{statement_of, header_of, line_of_tokens, read_statement, read_header, read_others, read_body, body_len, read_end, read_module}
use Rattle.verilog_syntax.specs.Laws.{module_parts, AreInOrder, AreGood, bare, ReadLaw, NoStatementLaw, NoHeaderLaw, tokens_in}
use Rattle.verilog_syntax.proofs.Apart.{IsInner}
use Rattle.verilog_syntax.proofs.Closing.{Shape, statement_shape}
use Rattle.verilog_syntax.proofs.ReadForms.{statement-read, header-read}

-- tokens without a semicolon, and one behind them, are a statement
statement_cut : (front : List Token) (t : Token) (behind : List Token) → Each IsInner (token_texts front) → t.text ≡ 59 ∷ []
    → statements_of (front ++ t ∷ behind) ≡ (front ++ t ∷ []) ∷ statements_of behind
unfolding statements_of
statement_cut [] t behind inner text = rw (bytes_same t.text (59 ∷ []) text) refl
statement_cut (u ∷ front) t behind inner text = rw (inner.0.0) (ap (begin_with u) (statement_cut front t behind inner.1 text))

-- the first statement among some tokens
record FirstStatement (ws rest : List (List ℕ)) (ts : List Token) : Type 0 where
  pub statement : List Token
  pub behind : List Token
  pub is : statements_of ts ≡ statement ∷ statements_of behind
  pub first : token_texts statement ≡ ws
  pub second : token_texts behind ≡ rest

first_statement : (ws rest : List (List ℕ)) (ts : List Token) → Shape ws → token_texts ts ≡ ws ++ rest → FirstStatement ws rest ts
first_statement ws rest ts s e = with_cut (cut_texts s.front ((59 ∷ []) ∷ rest) ts (e ∙ ap (λ (l : List (List ℕ)). l ++ rest) s.is ∙ append_assoc s.front ((59 ∷ []) ∷ []) rest))
  where
    closed : (front behind : List Token) → ts ≡ front ++ behind → token_texts front ≡ s.front → token_texts behind ≡ (59 ∷ []) ∷ rest → FirstStatement ws rest ts
    closed front [] is f e = absurd cc
    closed front (t ∷ behind) is f e =
        let text : t.text ≡ 59 ∷ [] = cc in
        record {
          statement = front ++ t ∷ [];
          behind = behind;
          is = ap statements_of is ∙ statement_cut front t behind (subst (Each IsInner) (sym f) s.inner) text;
          first = map-append (λ t. t.text) front (t ∷ []) ∙ rw (f, text) (sym s.is);
          second = cc;
        }

    with_cut : CutTexts s.front ((59 ∷ []) ∷ rest) ts → FirstStatement ws rest ts
    with_cut c = closed c.front c.behind c.is c.first c.second

-- the texts of the statements
abbrev others_texts : Bool → List Placed → List (List ℕ)
others_texts listed [] = []
others_texts listed (p ∷ ps) = spelled (statement_parts listed p.statement) ++ others_texts listed ps

module-texts : (listed : Bool) (ps : List Placed) → spelled (module_parts listed ps) ≡ others_texts listed ps ++ codes "endmodule" ∷ []
module-texts listed [] = refl
module-texts listed (p ∷ ps) =
    spelled_append (statement_parts listed p.statement) (module_parts listed ps)
    ∙ ap (λ (l : List (List ℕ)). spelled (statement_parts listed p.statement) ++ l) (module-texts listed ps)
    ∙ sym (append_assoc (spelled (statement_parts listed p.statement)) (others_texts listed ps) (codes "endmodule" ∷ []))

record ReadAs (read : Result (List Placed) Fault) (ps : List Placed) : Type 0 where
  pub values : List Placed
  pub is : read ≡ Ok values
  pub same : bare values ≡ bare ps

statement-ok : (line : ℕ) (ts : List Token) (s : Statement) → statement_of ts ≡ Some s → read_statement line ts ≡ Ok (record { statement = s; line = line })
unfolding read_statement
statement-ok line ts s e = rw e refl

header-ok : (line : ℕ) (ts : List Token) (s : Statement) → header_of ts ≡ Some s → read_header line ts ≡ Ok (record { statement = s; line = line })
unfolding read_header
header-ok line ts s e = rw e refl

module _ (listed : Bool) (text : List ℕ) where
  others-read : (ps : List Placed) (ts : List Token) → Each (λ p. is_header p.statement ≡ false) ps → Each (λ p. IsGoodStatement listed p.statement) ps → token_texts ts ≡ others_texts listed ps
      → ReadAs (read_others text (statements_of ts)) ps
  unfolding read_others statements_of
  others-read [] [] behind good e = record { values = []; is = refl; same = refl }
  others-read [] (t ∷ ts) behind good e = absurd cc
  others-read (p ∷ ps) ts behind good e =
      let f = first_statement (spelled (statement_parts listed p.statement)) (others_texts listed ps) ts (statement_shape listed p.statement good.0) e in
      let one = statement-read listed p.statement f.statement behind.0 good.0 f.first in
      let more = others-read ps f.behind behind.1 good.1 f.second in
      let line = line_of_tokens text f.statement in
      let first : Placed = record { statement = one.value; line = line } in
      record {
        values = first ∷ more.values;
        is = rw (f.is, statement-ok line f.statement one.value one.is, more.is) (refl {a = Ok (first ∷ more.values)});
        same = rw (one.same, more.same) refl;
      }

  body-read : (line : ℕ) (ps : List Placed) (ts : List Token) → AreInOrder ps → Each (λ p. IsGoodStatement listed p.statement) ps → token_texts ts ≡ others_texts listed ps
      → ReadAs (read_body line text (statements_of ts)) ps
  unfolding read_body
  body-read line [] ts order good e = absurd order
  body-read line (p ∷ ps) ts order good e =
      let f = first_statement (spelled (statement_parts listed p.statement)) (others_texts listed ps) ts (statement_shape listed p.statement good.0) e in
      let one = header-read listed p.statement f.statement order.0 good.0 f.first in
      let more = others-read ps f.behind order.1 good.1 f.second in
      let first : Placed = record { statement = one.value; line = line } in
      record {
        values = first ∷ more.values;
        is = rw (f.is, header-ok line f.statement one.value one.is, more.is) (refl {a = Ok (first ∷ more.values)});
        same = rw (one.same, more.same) refl;
      }

-- no endmodule stands before the last token
abbrev NotEnds : List (List ℕ) → Type 0
NotEnds ws = Each (λ w. bytes_eq w (codes "endmodule") ≡ false) ws

not_ends : (us : List (List ℕ)) → Each IsInner us → NotEnds (us ++ (59 ∷ []) ∷ [])
not_ends [] inner = (refl, tt)
not_ends (u ∷ us) inner = (inner.0.1, not_ends us inner.1)

not_end_join : (us ws : List (List ℕ)) → NotEnds us → NotEnds ws → NotEnds (us ++ ws)
not_end_join [] ws a b = b
not_end_join (u ∷ us) ws a b = (a.0, not_end_join us ws a.1 b)

others_not_end : (listed : Bool) (ps : List Placed) → Each (λ p. IsGoodStatement listed p.statement) ps → NotEnds (others_texts listed ps)
others_not_end listed [] good = tt
others_not_end listed (p ∷ ps) good =
    let s = statement_shape listed p.statement good.0 in
    not_end_join (spelled (statement_parts listed p.statement)) (others_texts listed ps) (subst NotEnds (sym s.is) (not_ends s.front s.inner)) (others_not_end listed ps good.1)

body_len_is : (front : List Token) (t : Token) → NotEnds (token_texts front) → t.text ≡ codes "endmodule" → body_len (front ++ t ∷ []) ≡ length front
body_len_is [] t not_end text = rw text refl
body_len_is (u ∷ front) t not_end text = let k = body_len_is front t not_end.1 text in rw (not_end.0) (omega arith)

end-ok : (text : List ℕ) (ts : List Token) → ts ≡ [] → read_end text ts ≡ Ok tt
unfolding read_end
end-ok text ts none = rw none refl

module-read : (listed : Bool) (text : List ℕ) (ts : List Token) (ps : List Placed) → AreGood listed ps → token_texts ts ≡ spelled (module_parts listed ps) → ReadAs (read_module text ts) ps
unfolding read_module
module-read listed text ts ps good e = with_cut (cut_texts (others_texts listed ps) (codes "endmodule" ∷ []) ts (e ∙ module-texts listed ps))
  where
    ended : (front behind : List Token) → ts ≡ front ++ behind → token_texts front ≡ others_texts listed ps → token_texts behind ≡ codes "endmodule" ∷ [] → ReadAs (read_module text ts) ps
    ended front [] is f e = absurd cc
    ended front (t ∷ u ∷ us) is f e = absurd cc
    ended front (t ∷ []) is f e =
        let text_is : t.text ≡ codes "endmodule" = cc in
        let len : body_len ts ≡ length front = ap body_len is ∙ body_len_is front t (subst NotEnds (sym f) (others_not_end listed ps good.good)) text_is in
        let all : length ts ≡ length front + 1 = ap length is ∙ length-append front (t ∷ []) in
        let differ : (body_len ts == length ts) ≡ false = ne_eqb (body_len ts) (length ts) (λ same. omega (arith, same)) in
        let taken : take (body_len ts) ts ≡ front = ap (λ (n : ℕ). take n ts) len ∙ ap (take (length front)) is ∙ take-append_seam front (t ∷ []) in
        let left : drop (body_len ts + 1) ts ≡ [] = ap (λ (n : ℕ). drop (n + 1) ts) len ∙ ap (drop (length front + 1)) is ∙ drop-append-add front (t ∷ []) 1 in
        let body = body-read listed text (line_of_tokens text ts) ps (take (body_len ts) ts) good.order good.good (ap token_texts taken ∙ f) in
        record { values = body.values; is = rw (differ, body.is, end-ok text (drop (body_len ts + 1) ts) left) refl; same = body.same }

    with_cut : CutTexts (others_texts listed ps) (codes "endmodule" ∷ []) ts → ReadAs (read_module text ts) ps
    with_cut c = ended c.front c.behind c.is c.first c.second

pub read_law : ReadLaw
read_law text listed ps good e = let r = module-read listed text (tokens_in text) ps good e in record { values = r.values; is = r.is; same = r.same }

pub no_statement_law : NoStatementLaw
no_statement_law ts listed s none behind good e = let r = statement-read listed s ts behind good e in let both = sym none ∙ r.is in cc

pub no_header_law : NoHeaderLaw
no_header_law ts listed s none first good e = let r = header-read listed s ts first good e in let both = sym none ∙ r.is in cc
