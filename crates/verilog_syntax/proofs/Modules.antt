-- What a text is read as is its module, and no other, or its first fault of form.
use Rattle.std.proofs.Common.{◌≡◌, ℕ, ◌+◌, ◌==◌, Bool, true, false, if◌then◌else◌, List, [], ◌∷◌, ◌++◌, length, take, drop, codes, Option, Some, None, Result, Ok, Err, refl, sym, ap, ◌∙◌, subst, arith, length-append}
use Rattle.std.specs.Str.{bytes_eq}
use Rattle.std.proofs.lemmas.Bool.{ne_eqb}
use Rattle.std.proofs.lemmas.Option.{none-some}
use Rattle.std.proofs.Math.Seq.{take-append_seam, drop-append-add}
use Rattle.base_types.specs.Lines.{line_at}
use Rattle.base_types.specs.declared.fault.Fault.{Fault}
use Rattle.base_types.specs.declared.fault.ReadFault.{ReadFault}
use Rattle.base_types.specs.declared.fault.ReadFault.TheVariants as faults
use Rattle.base_types.specs.declared.kind.Kind.TheVariants.{VerilogSyntax, SecondModule}
use Rattle.base_types.proofs.TruthValues.{bytes_are, bytes_same}
use Rattle.token_forms.specs.Tokens.{Token}
use Rattle.token_forms.specs.Statements.{is_semicolon, begin_with, statements_of}
use Rattle.verilog_syntax.specs.declared.statement.Statement.{Statement}
use Rattle.verilog_syntax.specs.declared.reading.Placed.{Placed}
use Rattle.verilog_syntax.specs.Grammar.{header, statement}
use Rattle.verilog_syntax.specs.Reading.{Answers, statement_of, header_of, result_and_then, fault_at, line_of_tokens, placed_or, read_statement, read_header, read_others, read_body, ends_module, body_len, read_end, read_module, read_statements}
use Rattle.verilog_syntax.specs.Laws.{tokens_in}
use Rattle.verilog_syntax.specs.Module.{IsOpen, IsClosed, IsLocated, AreStatements, IsBody, IsModule, HasNoForm, IsFormFault, Open, Empty, NoHeader, NoStatement, Second, Behind, IsExactModule, ModuleLaw, FormFaultLaw, OneFormFaultLaw, OneModuleLaw}
use Rattle.verilog_syntax.proofs.Bodies.{joined, joined-statements}
use Rattle.verilog_syntax.proofs.Forms.{statement_spells, header_spells}
use Rattle.verilog_syntax.proofs.ReadForms.{statement_reads, header_reads}

-- the tokens up to the first endmodule
data Body (ts : List Token) : Type 0 where
  IsWhole : IsOpen ts → body_len ts ≡ length ts → Body ts
  IsCut : (body behind : List Token) (end : Token) → ts ≡ body ++ end ∷ behind → end.text ≡ codes "endmodule" → IsOpen body → Body ts

more_body : (t : Token) (ts : List Token) (b : Bool) → ends_module t ≡ b → Body ts → Body (t ∷ ts)
more_body t ts true e more = IsCut [] ts t refl (bytes_are t.text (codes "endmodule") e) tt
more_body t ts false e (IsWhole none count) = IsWhole (e, none) (let len : 1 + body_len ts ≡ length (t ∷ ts) = omega (arith, count) in rw e len)
more_body t ts false e (IsCut body behind end is text none) = IsCut (t ∷ body) behind end (ap (λ (l : List Token). t ∷ l) is) text (e, none)

body_of : (ts : List Token) → Body ts
body_of [] = IsWhole tt refl
body_of (t ∷ ts) = more_body t ts (ends_module t) refl (body_of ts)

closed_len : (body behind : List Token) (end : Token) → IsOpen body → end.text ≡ codes "endmodule" → body_len (body ++ end ∷ behind) ≡ length body
closed_len [] behind end none text = rw (bytes_same end.text (codes "endmodule") text) refl
closed_len (t ∷ body) behind end none text = let k = closed_len body behind end none.1 text in rw (none.0) (omega arith)

-- what a module that is closed is read as
abbrev closing : List ℕ → List Token → Result (List Placed) Fault → Result (List Placed) Fault
closing text behind read = result_and_then (λ statements. result_and_then (λ done. Ok statements) (read_end text behind)) read

closed_module : (text : List ℕ) (ts body behind : List Token) (end : Token) → ts ≡ body ++ end ∷ behind → end.text ≡ codes "endmodule" → IsOpen body
    → read_module text ts ≡ closing text behind (read_body (line_of_tokens text ts) text (statements_of body))
unfolding read_module
closed_module text ts body behind end is text_is none =
    let len : body_len ts ≡ length body = ap body_len is ∙ closed_len body behind end none text_is in
    let all : length ts ≡ length body + length (end ∷ behind) = ap length is ∙ length-append body (end ∷ behind) in
    let differ : (body_len ts == length ts) ≡ false = ne_eqb (body_len ts) (length ts) (λ same. omega (arith, same)) in
    let taken : take (body_len ts) ts ≡ body = ap (λ (n : ℕ). take n ts) len ∙ ap (take (length body)) is ∙ take-append_seam body (end ∷ behind) in
    let left : drop (body_len ts + 1) ts ≡ behind = ap (λ (n : ℕ). drop (n + 1) ts) len ∙ ap (drop (length body + 1)) is ∙ drop-append-add body (end ∷ behind) 1 in
    rw (differ, taken, left) refl

-- the first statement begins with the first token
first_begins : (text : List ℕ) (t : Token) (ss ss' : List (List Token)) (s : List Token) → begin_with t ss' ≡ s ∷ ss → line_of_tokens text s ≡ line_at text t.start
first_begins text t ss [] s e = let first : (t ∷ []) ≡ s = cc in ap (line_of_tokens text) (sym first)
first_begins text t ss (u ∷ us) s e = let first : (t ∷ u) ≡ s = cc in ap (line_of_tokens text) (sym first)

first_line : (text : List ℕ) (ts behind s : List Token) (ss : List (List Token)) → statements_of ts ≡ s ∷ ss → line_of_tokens text s ≡ line_of_tokens text (ts ++ behind)
unfolding statements_of
first_line text [] behind s ss e = absurd cc
first_line text (t ∷ ts) behind s ss e = decide (is_semicolon t) e
  where
    decide : (b : Bool) → (if b then (t ∷ []) ∷ statements_of ts else begin_with t (statements_of ts)) ≡ s ∷ ss → line_of_tokens text s ≡ line_at text t.start
    decide true e = let first : (t ∷ []) ≡ s = cc in ap (line_of_tokens text) (sym first)
    decide false e = first_begins text t ss (statements_of ts) s e

no_statement : (ts : List Token) → statement_of ts ≡ None → HasNoForm statement ts
no_statement ts none = λ s h. none-some s (sym none ∙ statement_reads s ts h)

no_header : (ts : List Token) → header_of ts ≡ None → HasNoForm header ts
no_header ts none = λ s h. none-some s (sym none ∙ header_reads s ts h)

-- the first statement that is of no form, and those before it
record StopsAt (text : List ℕ) (ss : List (List Token)) (f : Fault) : Type 0 where
  pub front : List (List Token)
  pub stop : List Token
  pub behind : List (List Token)
  pub values : List Placed
  pub is : ss ≡ front ++ stop ∷ behind
  pub before : AreStatements text front values
  pub none : HasNoForm statement stop
  pub fault : f ≡ fault_at VerilogSyntax (line_of_tokens text stop)

abbrev OthersAre : List ℕ → List (List Token) → Result (List Placed) Fault → Type 0
OthersAre text ss (Ok ps) = AreStatements text ss ps
OthersAre text ss (Err f) = StopsAt text ss f

-- a statement is read in front of others
abbrev turn : ℕ → Option Statement → Result (List Placed) Fault → Result (List Placed) Fault
turn line o more = result_and_then (λ first. result_and_then (λ others. Ok (first ∷ others)) more) (placed_or line o)

one_more : (text : List ℕ) (s : List Token) (ss : List (List Token)) (o : Option Statement) (more : Result (List Placed) Fault) → statement_of s ≡ o → OthersAre text ss more
    → OthersAre text (s ∷ ss) (turn (line_of_tokens text s) o more)
one_more text s ss None more e m = record { front = []; stop = s; behind = ss; values = []; is = refl; before = tt; none = no_statement s e; fault = refl }
one_more text s ss (Some v) (Ok others) e m = (record { spelled = statement_spells s v e; line = refl }, m)
one_more text s ss (Some v) (Err f) e m =
    record {
      front = s ∷ m.front;
      stop = m.stop;
      behind = m.behind;
      values = record { statement = v; line = line_of_tokens text s } ∷ m.values;
      is = ap (λ (l : List (List Token)). s ∷ l) m.is;
      before = (record { spelled = statement_spells s v e; line = refl }, m.before);
      none = m.none;
      fault = m.fault;
    }

others_are : (text : List ℕ) (ss : List (List Token)) → OthersAre text ss (read_others text ss)
unfolding read_others read_statement
others_are text [] = tt
others_are text (s ∷ ss) = one_more text s ss (statement_of s) (read_others text ss) refl (others_are text ss)

abbrev BodyIs : List ℕ → List (List Token) → Result (List Placed) Fault → Type 0
BodyIs text ss (Ok ps) = IsBody text ss ps
BodyIs text ss (Err f) = IsFormFault text f

module _ (text : List ℕ) (body behind : List Token) (c : IsClosed text body behind) where
  behind_header : (s : List Token) (ss : List (List Token)) (line : ℕ) (o : Option Statement) (more : Result (List Placed) Fault) → statements_of body ≡ s ∷ ss → line ≡ line_of_tokens text s
      → header_of s ≡ o → OthersAre text ss more → BodyIs text (s ∷ ss) (turn line o more)
  behind_header s ss line None more is at e m = NoHeader body behind s ss c is (no_header s e) (ap (fault_at VerilogSyntax) at)
  behind_header s ss line (Some v) (Ok others) is at e m = (record { spelled = header_spells s v e; line = at }, m)
  behind_header s ss line (Some v) (Err f) is at e m =
      NoStatement body behind m.stop (s ∷ m.front) m.behind (record { statement = v; line = line } ∷ m.values) c (is ∙ ap (λ (l : List (List Token)). s ∷ l) m.is)
      (record { spelled = header_spells s v e; line = at }, m.before) m.none m.fault

  no_body : statements_of body ≡ [] → body ≡ []
  no_body e = sym (joined-statements body) ∙ ap joined e

  first_at : (s : List Token) (ss : List (List Token)) → statements_of body ≡ s ∷ ss → line_of_tokens text (tokens_in text) ≡ line_of_tokens text s
  first_at s ss e = ap (line_of_tokens text) c.is ∙ sym (first_line text body (c.end ∷ behind) s ss e)

  body_is : (ss : List (List Token)) → statements_of body ≡ ss → BodyIs text ss (read_body (line_of_tokens text (tokens_in text)) text ss)
  unfolding read_body read_header
  body_is [] e = Empty behind (subst (λ (l : List Token). IsClosed text l behind) (no_body e) c) refl
  body_is (s ∷ ss) e = behind_header s ss (line_of_tokens text (tokens_in text)) (header_of s) (read_others text ss) e (first_at s ss e) refl (others_are text ss)

-- a module, or its first fault
abbrev ModuleIs : List ℕ → Result (List Placed) Fault → Type 0
ModuleIs text (Ok ps) = IsModule text ps
ModuleIs text (Err f) = IsFormFault text f

end_is : (text : List ℕ) (body : List Token) (t : Token) (behind : List Token) (ps : List Placed) → IsClosed text body (t ∷ behind) → IsBody text (statements_of body) ps
    → (b : Bool) → bytes_eq t.text (codes "module") ≡ b
    → ModuleIs text (result_and_then (λ (done : Unit {0}). Ok ps) (if b then Err (fault_at SecondModule (line_at text t.start)) else Err (fault_at VerilogSyntax (line_at text t.start))))
end_is text body t behind ps c m true e = Second body behind t ps c m (bytes_are t.text (codes "module") e) refl
end_is text body t behind ps c m false e = Behind body behind t ps c m e refl

closing_is : (text : List ℕ) (body behind : List Token) (read : Result (List Placed) Fault) → IsClosed text body behind → BodyIs text (statements_of body) read → ModuleIs text (closing text behind read)
unfolding read_end
closing_is text body behind (Err f) c m = m
closing_is text body [] (Ok ps) c m = record { body = body; closed = c; statements = m }
closing_is text body (t ∷ behind) (Ok ps) c m = end_is text body t behind ps c m (bytes_eq t.text (codes "module")) refl

open_module : (text : List ℕ) (ts : List Token) → body_len ts ≡ length ts → read_module text ts ≡ Err (fault_at VerilogSyntax (line_of_tokens text ts))
unfolding read_module
open_module text ts all = let same : (body_len ts == length ts) ≡ true = all_same (body_len ts) (length ts) all in rw same refl
  where
    all_same : (a b : ℕ) → a ≡ b → (a == b) ≡ true
    all_same a b e = grind (arith, e)

module_is : (text : List ℕ) → ModuleIs text (read_statements text)
module_is text = decide (body_of (tokens_in text))
  where
    decide : Body (tokens_in text) → ModuleIs text (read_statements text)
    decide (IsWhole none count) = subst (ModuleIs text) (sym (open_module text (tokens_in text) count)) (Open none refl)
    decide (IsCut body behind end is text_is none) =
        let c : IsClosed text body behind = record { end = end; is = is; text_is = text_is; first = none } in
        subst (ModuleIs text) (sym (closed_module text (tokens_in text) body behind end is text_is none))
        (closing_is text body behind (read_body (line_of_tokens text (tokens_in text)) text (statements_of body)) c (body_is text body behind c (statements_of body) refl))

-- and back
one_statement : (text : List ℕ) (s : List Token) (p : Placed) → IsLocated statement text s p → read_statement (line_of_tokens text s) s ≡ Ok p
unfolding read_statement
one_statement text s p h = ap (placed_or (line_of_tokens text s)) (statement_reads p.statement s h.spelled) ∙ ap (λ (n : ℕ). Ok (record { statement = p.statement; line = n })) (sym h.line)

one_header : (text : List ℕ) (s : List Token) (p : Placed) (line : ℕ) → line ≡ line_of_tokens text s → IsLocated header text s p → read_header line s ≡ Ok p
unfolding read_header
one_header text s p line at h = ap (placed_or line) (header_reads p.statement s h.spelled) ∙ ap (λ (n : ℕ). Ok (record { statement = p.statement; line = n })) (at ∙ sym h.line)

others_read : (text : List ℕ) (ss : List (List Token)) (ps : List Placed) → AreStatements text ss ps → read_others text ss ≡ Ok ps
unfolding read_others
others_read text [] [] h = refl
others_read text [] (p ∷ ps) h = absurd h
others_read text (s ∷ ss) [] h = absurd h
others_read text (s ∷ ss) (p ∷ ps) h = rw (one_statement text s p h.0, others_read text ss ps h.1) refl

body_reads : (text : List ℕ) (line : ℕ) (ss : List (List Token)) (ps : List Placed) → ((s : List Token) (others : List (List Token)) → ss ≡ s ∷ others → line ≡ line_of_tokens text s) → IsBody text ss ps
    → read_body line text ss ≡ Ok ps
unfolding read_body
body_reads text line [] ps at h = absurd h
body_reads text line (s ∷ ss) [] at h = absurd h
body_reads text line (s ∷ ss) (p ∷ ps) at h = rw (one_header text s p line (at s ss refl) h.0, others_read text ss ps h.1) refl

end_reads : (text : List ℕ) (ps : List Placed) → closing text [] (Ok ps) ≡ Ok ps
unfolding read_end
end_reads text ps = refl

module_reads : (text : List ℕ) (ps : List Placed) → IsModule text ps → read_statements text ≡ Ok ps
module_reads text ps m =
    let c = m.closed in
    let body = body_reads text (line_of_tokens text (tokens_in text)) (statements_of m.body) ps (first_at text m.body [] c) m.statements in
    closed_module text (tokens_in text) m.body [] c.end c.is c.text_is c.first ∙ ap (closing text []) body ∙ end_reads text ps

same_ok : {X : Type 0} (x y : X) → ◌≡◌ {A = Result X Fault} (Ok x) (Ok y) → x ≡ y
same_ok x y e = cc

ok_err : {X : Type 0} (f : Fault) (x : X) → ◌≡◌ {A = Result X Fault} (Ok x) (Err f) → ⊥
ok_err f x e = cc

pub module_law : ModuleLaw
module_law text ps = (λ e. subst (ModuleIs text) e (module_is text), λ m. module_reads text ps m)

-- a first fault of form is what is answered
absent : (o : Option Statement) → ((v : Statement) → o ≡ Some v → ⊥) → o ≡ None
absent None none = refl
absent (Some v) none = absurd (none v refl)

none_read : (line : ℕ) (ts : List Token) → HasNoForm statement ts → read_statement line ts ≡ Err (fault_at VerilogSyntax line)
unfolding read_statement
none_read line ts none = ap (placed_or line) (absent (statement_of ts) (λ v e. none v (statement_spells ts v e)))

no_header_read : (line : ℕ) (ts : List Token) → HasNoForm header ts → read_header line ts ≡ Err (fault_at VerilogSyntax line)
unfolding read_header
no_header_read line ts none = ap (placed_or line) (absent (header_of ts) (λ v e. none v (header_spells ts v e)))

others_stop : (text : List ℕ) (front ss : List (List Token)) (s : List Token) (ps : List Placed) → AreStatements text front ps → HasNoForm statement s
    → read_others text (front ++ s ∷ ss) ≡ Err (fault_at VerilogSyntax (line_of_tokens text s))
unfolding read_others
others_stop text [] ss s [] are none = rw (none_read (line_of_tokens text s) s none) refl
others_stop text [] ss s (p ∷ ps) are none = absurd are
others_stop text (t ∷ front) ss s [] are none = absurd are
others_stop text (t ∷ front) ss s (p ∷ ps) are none = rw (one_statement text t p are.0, others_stop text front ss s ps are.1 none) refl

body_stops : (text : List ℕ) (line : ℕ) (front ss : List (List Token)) (s : List Token) (ps : List Placed)
    → ((t : List Token) (others : List (List Token)) → front ++ s ∷ ss ≡ t ∷ others → line ≡ line_of_tokens text t) → IsBody text front ps → HasNoForm statement s
    → read_body line text (front ++ s ∷ ss) ≡ Err (fault_at VerilogSyntax (line_of_tokens text s))
unfolding read_body
body_stops text line [] ss s ps at is none = absurd is
body_stops text line (t ∷ front) ss s [] at is none = absurd is
body_stops text line (t ∷ front) ss s (p ∷ ps) at is none = rw (one_header text t p line (at t (front ++ s ∷ ss) refl) is.0, others_stop text front ss s ps is.1 none) refl

headless : (text : List ℕ) (line : ℕ) (s : List Token) (ss : List (List Token)) → HasNoForm header s → read_body line text (s ∷ ss) ≡ Err (fault_at VerilogSyntax line)
unfolding read_body
headless text line s ss none = rw (no_header_read line s none) refl

empty_body : (text : List ℕ) (line : ℕ) → read_body line text (statements_of []) ≡ Err (fault_at VerilogSyntax line)
unfolding read_body statements_of
empty_body text line = refl

open_len : (ts : List Token) → IsOpen ts → body_len ts ≡ length ts
open_len [] none = refl
open_len (t ∷ ts) none = let k = open_len ts none.1 in rw (none.0) (omega arith)

second_end : (text : List ℕ) (t : Token) (behind : List Token) (ps : List Placed) → t.text ≡ codes "module" → closing text (t ∷ behind) (Ok ps) ≡ Err (fault_at SecondModule (line_at text t.start))
unfolding read_end
second_end text t behind ps is = rw (bytes_same t.text (codes "module") is) refl

other_end : (text : List ℕ) (t : Token) (behind : List Token) (ps : List Placed) → bytes_eq t.text (codes "module") ≡ false → closing text (t ∷ behind) (Ok ps) ≡ Err (fault_at VerilogSyntax (line_at text t.start))
unfolding read_end
other_end text t behind ps is = rw is refl

module _ (text : List ℕ) (body behind : List Token) (c : IsClosed text body behind) where
  abbrev line : ℕ
  line = line_of_tokens text (tokens_in text)

  -- what a module that is closed is read as, by what its body is
  from_body : (read : Result (List Placed) Fault) → read_body line text (statements_of body) ≡ read → read_statements text ≡ closing text behind read
  from_body read e = closed_module text (tokens_in text) body behind c.end c.is c.text_is c.first ∙ ap (closing text behind) e

  full_body : (ps : List Placed) → IsBody text (statements_of body) ps → read_statements text ≡ closing text behind (Ok ps)
  full_body ps is = from_body (Ok ps) (body_reads text line (statements_of body) ps (first_at text body behind c) is)

  bare_body : (s : List Token) (ss : List (List Token)) → statements_of body ≡ s ∷ ss → HasNoForm header s → read_statements text ≡ Err (fault_at VerilogSyntax (line_of_tokens text s))
  bare_body s ss is none =
      from_body (Err (fault_at VerilogSyntax line)) (ap (read_body line text) is ∙ headless text line s ss none) ∙ ap (λ (n : ℕ). Err (fault_at VerilogSyntax n)) (first_at text body behind c s ss is)

  stopped_body : (front ss : List (List Token)) (s : List Token) (ps : List Placed) → statements_of body ≡ front ++ s ∷ ss → IsBody text front ps → HasNoForm statement s
      → read_statements text ≡ Err (fault_at VerilogSyntax (line_of_tokens text s))
  stopped_body front ss s ps is are none =
      from_body (Err (fault_at VerilogSyntax (line_of_tokens text s)))
      (ap (read_body line text) is ∙ body_stops text line front ss s ps (λ t others e. first_at text body behind c t others (is ∙ e)) are none)

form_fault_reads : (text : List ℕ) (f : Fault) → IsFormFault text f → read_statements text ≡ Err f
form_fault_reads text f (Open none is) = open_module text (tokens_in text) (open_len (tokens_in text) none) ∙ ap Err (sym is)
form_fault_reads text f (Empty behind c is) = from_body text [] behind c (Err _) (empty_body text (line_of_tokens text (tokens_in text))) ∙ ap Err (sym is)
form_fault_reads text f (NoHeader body behind s ss c cut none is) = bare_body text body behind c s ss cut none ∙ ap Err (sym is)
form_fault_reads text f (NoStatement body behind s front ss ps c cut are none is) = stopped_body text body behind c front ss s ps cut are none ∙ ap Err (sym is)
form_fault_reads text f (Second body behind t ps c are text_is is) = full_body text body (t ∷ behind) c ps are ∙ second_end text t behind ps text_is ∙ ap Err (sym is)
form_fault_reads text f (Behind body behind t ps c are other is) = full_body text body (t ∷ behind) c ps are ∙ other_end text t behind ps other ∙ ap Err (sym is)

pub form_fault_law : FormFaultLaw
form_fault_law text f = (λ e. subst (ModuleIs text) e (module_is text), form_fault_reads text f)

same_err : {X : Type 0} (r : Result X Fault) (f g : Fault) → r ≡ Err f → r ≡ Err g → f ≡ g
same_err r f g a b = let both = sym a ∙ b in cc

pub one_form_fault : OneFormFaultLaw
one_form_fault text f g a b = same_err (read_statements text) f g (form_fault_reads text f a) (form_fault_reads text g b)

pub one_module : OneModuleLaw
one_module text ps m =
    (λ f fault. ok_err f ps (sym (module_reads text ps m) ∙ form_fault_reads text f fault), λ qs n. same_ok qs ps (sym (module_reads text qs n) ∙ module_reads text ps m))

pub exact_module : (text : List ℕ) (result : Result (List Placed) ReadFault) → Answers result (read_statements text) → IsExactModule text result
exact_module text (Ok ps) e = ((module_law text ps).0 e, λ qs m. same_ok qs ps (sym (module_reads text qs m) ∙ e))
exact_module text (Err (faults.Fault f)) e = ((form_fault_law text f).0 e, λ qs m. ok_err f qs (sym (module_reads text qs m) ∙ e))
exact_module text (Err faults.NoMemory) e = tt
