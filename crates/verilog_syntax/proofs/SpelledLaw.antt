-- What a text is read as is spelled by its tokens.
use Rattle.std.proofs.Common.{◌≡◌, ℕ, ◌+◌, ◌==◌, Bool, false, List, [], ◌∷◌, ◌++◌, length, take, drop, codes, Option, Some, None, Result, Ok, Err, refl, sym, ap, ◌∙◌, subst, append_assoc}
use Rattle.std.specs.Str.{bytes_eq}
use Rattle.std.specs.List.{AllByRecursion as Each}
use Rattle.base_types.specs.Lines.{line_at}
use Rattle.token_forms.specs.Statements.{statements_of}
use Rattle.token_forms.specs.Tokens.{Token}
use Rattle.token_forms.specs.Parts.{Part, Fixed, Slot, Fits}
use Rattle.base_types.specs.declared.fault.Fault.{Fault}
use Rattle.base_types.specs.declared.kind.Kind.TheVariants.{VerilogSyntax, SecondModule}
use Rattle.token_forms.proofs.Spelled.{choose, fits-append}
use Rattle.verilog_syntax.specs.declared.statement.Statement.{Statement}
use Rattle.verilog_syntax.specs.declared.reading.Placed.{Placed}
use Rattle.verilog_syntax.specs.StatementParts.{statement_parts, IsGoodStatement, is_header}
use Rattle.verilog_syntax.specs.Reading.{statement_of, header_of, result_and_then, fault_at, line_of_tokens, placed_or, read_statement, read_header, read_others, read_body, body_len, read_end, read_module}
use Rattle.verilog_syntax.specs.Laws.{module_parts, AreGood, SpelledLaw, tokens_in}
use Rattle.verilog_syntax.proofs.Forms.{statement_of-spells, header_of-spells}
use Rattle.verilog_syntax.proofs.Bodies.{IsEnd, closed, joined, joined-statements}

ok-err : {X P : Type 0} (f : Fault) (x : X) → ◌≡◌ {A = Result X Fault} (Err f) (Ok x) → P
ok-err f x e = absurd cc

same_Ok : {X : Type 0} (x y : X) → ◌≡◌ {A = Result X Fault} (Ok x) (Ok y) → x ≡ y
same_Ok x y e = cc

result-ok : {A B P : Type 0} (f : A → Result B Fault) (r : Result A Fault) (y : B) → result_and_then f r ≡ Ok y → ((x : A) → r ≡ Ok x → f x ≡ Ok y → P) → P
result-ok f (Ok x) y e k = k x refl e
result-ok f (Err fault) y e k = ok-err fault y e

-- more tokens behind those that parts fit
fits-behind : (ps : List Part) (us ts rest : List Token) → Fits ps us ts → Fits ps (us ++ rest) (ts ++ rest)
fits-behind [] us ts rest f = ap (λ (l : List Token). l ++ rest) f
fits-behind (Fixed w ∷ ps) us ts rest f =
    record { token = f.token; behind = f.behind ++ rest; is = ap (λ (l : List Token). l ++ rest) f.is; text = f.text; more = fits-behind ps us f.behind rest f.more }
fits-behind (Slot o sp ws c ∷ ps) us ts rest f =
    record {
      mark = f.mark;
      run = f.run;
      next = f.next;
      behind = f.behind ++ rest;
      is = ap (λ (l : List Token). l ++ rest) f.is ∙ ap (λ (l : List Token). f.mark ∷ l) (append_assoc f.run (f.next ∷ f.behind) rest);
      opens = f.opens;
      closes = f.closes;
      texts = f.texts;
      placed = f.placed;
      more = fits-behind ps us f.behind rest f.more;
    }

placed-ok : (line : ℕ) (read : Option Statement) (p : Placed) → placed_or line read ≡ Ok p → read ≡ Some p.statement
placed-ok line (Some s) p e = ap (λ (q : Placed). Some q.statement) (same_Ok _ p e)
placed-ok line None p e = ok-err (fault_at VerilogSyntax line) p e

statement-ok : (line : ℕ) (ts : List Token) (p : Placed) → read_statement line ts ≡ Ok p → statement_of ts ≡ Some p.statement
unfolding read_statement
statement-ok line ts p e = placed-ok line (statement_of ts) p e

header-ok : (line : ℕ) (ts : List Token) (p : Placed) → read_header line ts ≡ Ok p → header_of ts ≡ Some p.statement
unfolding read_header
header-ok line ts p e = placed-ok line (header_of ts) p e

-- statements behind the header, and endmodule
record SpellsOthers (listed : Bool) (ps : List Placed) (ts : List Token) : Type 0 where
  pub fits : Fits (module_parts listed ps) [] ts
  pub good : Each (λ p. IsGoodStatement listed p.statement) ps
  pub behind : Each (λ p. is_header p.statement ≡ false) ps

append_parts : (listed : Bool) (p : Placed) (ps : List Placed) (s behind : List Token) → Fits (statement_parts listed p.statement) [] s → Fits (module_parts listed ps) [] behind
    → Fits (module_parts listed (p ∷ ps)) [] (s ++ behind)
append_parts listed p ps s behind f g = fits-append (statement_parts listed p.statement) (module_parts listed ps) (s ++ behind) behind [] (fits-behind (statement_parts listed p.statement) [] s behind f) g

module _ (listed : Bool) (text : List ℕ) (end : Token) (ends : IsEnd end) where
  others-spell : (ss : List (List Token)) (ps : List Placed) → read_others text ss ≡ Ok ps → SpellsOthers listed ps (joined ss ++ end ∷ [])
  unfolding read_others
  others-spell [] ps e =
      subst (λ (ps : List Placed). SpellsOthers listed ps (end ∷ [])) (same_Ok _ ps e)
      (record { fits = record { token = end; behind = []; is = refl; text = ends; more = refl }; good = tt; behind = tt })
  others-spell (s ∷ ss) ps e =
      result-ok _ _ ps e (λ first f e. result-ok _ _ ps e (λ others o e.
      let one = statement_of-spells listed s first.statement (statement-ok _ s first f) in
      let more = others-spell ss others o in
      let found : SpellsOthers listed (first ∷ others) (joined (s ∷ ss) ++ end ∷ [])
      = record {
        fits = subst (Fits (module_parts listed (first ∷ others)) []) (sym (append_assoc s (joined ss) (end ∷ []))) (append_parts listed first others s (joined ss ++ end ∷ []) one.fits more.fits);
        good = (one.good, more.good);
        behind = (one.behind, more.behind);
      }
      in
      subst (λ (ps : List Placed). SpellsOthers listed ps (joined (s ∷ ss) ++ end ∷ [])) (same_Ok _ ps e) found))

record SpellsBody (ps : List Placed) (ts : List Token) : Type 0 where
  pub listed : Bool
  pub good : AreGood listed ps
  pub fits : Fits (module_parts listed ps) [] ts

body-spells : (line : ℕ) (text : List ℕ) (end : Token) (ss : List (List Token)) (ps : List Placed) → IsEnd end → read_body line text ss ≡ Ok ps → SpellsBody ps (joined ss ++ end ∷ [])
unfolding read_body
body-spells line text end [] ps ends e = ok-err (fault_at VerilogSyntax line) ps e
body-spells line text end (s ∷ ss) ps ends e =
    result-ok _ _ ps e (λ header h e. result-ok _ _ ps e (λ others o e.
    let one = header_of-spells s header.statement (header-ok line s header h) in
    let more = others-spell one.listed text end ends ss others o in
    let found : SpellsBody (header ∷ others) (joined (s ∷ ss) ++ end ∷ [])
    = record {
      listed = one.listed;
      good = record { order = (one.first, more.behind); good = (one.good, more.good) };
      fits = subst (Fits (module_parts one.listed (header ∷ others)) []) (sym (append_assoc s (joined ss) (end ∷ []))) (append_parts one.listed header others s (joined ss ++ end ∷ []) one.fits more.fits);
    }
    in
    subst (λ (ps : List Placed). SpellsBody ps (joined (s ∷ ss) ++ end ∷ [])) (same_Ok _ ps e) found))

end-none : (text : List ℕ) (ts : List Token) (done : Unit {0}) → read_end text ts ≡ Ok done → ts ≡ []
unfolding read_end
end-none text [] done e = refl
end-none text (t ∷ ts) done e =
    choose (bytes_eq t.text (codes "module")) _ _ _ e (λ w k. ok-err (fault_at SecondModule (line_at text t.start)) done k) (λ w k. ok-err (fault_at VerilogSyntax (line_at text t.start)) done k)

module-spells : (text : List ℕ) (ts : List Token) (ps : List Placed) → read_module text ts ≡ Ok ps → SpellsBody ps ts
unfolding read_module
module-spells text ts ps e =
    choose (body_len ts == length ts) _ _ _ e (λ all e. ok-err (fault_at VerilogSyntax (line_of_tokens text ts)) ps e)
    (λ some e. result-ok _ _ ps e (λ statements s e. result-ok _ _ ps e (λ done d e.
    let c = closed ts some (end-none text (drop (body_len ts + 1) ts) done d) in
    let body = body-spells (line_of_tokens text ts) text c.token (statements_of (take (body_len ts) ts)) statements c.text s in
    subst (λ (ps : List Placed). SpellsBody ps ts) (same_Ok _ ps e)
    (subst (SpellsBody statements) (ap (λ (l : List Token). l ++ c.token ∷ []) (joined-statements (take (body_len ts) ts)) ∙ sym c.is) body))))

pub spelled_law : SpelledLaw
spelled_law text ps e = let m = module-spells text (tokens_in text) ps e in record { listed = m.listed; good = m.good; fits = m.fits }
