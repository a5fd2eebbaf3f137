-- The ports of a head that is read can be written in quotes, and none stands twice.
use Rattle.std.proofs.Common.{◌≡◌, inl, inr, ℕ, zero, suc, ◌+◌, ◌-◌, ◌<◌, Bool, true, false, cond, eqb, ◌&&◌, ◌||◌, not, filter, List, [], ◌∷◌, ◌++◌, length, take, drop, map, flat_map, codes, Option, Some, None, refl, sym, ap, ◌∙◌, subst, arith}
use Rattle.std.specs.Prelude.{IfSome}
use Rattle.std.specs.List.{AllByRecursion as Each, list_any, list_all, prefix_len}
use Rattle.std.specs.Str.{bytes_eq}
use Rattle.std.proofs.lemmas.Bool.{cases_Bool, true≢false, eqb-true, and_from, and_parts, or_parts, or_from, or_left, or_right}
use Rattle.base_types.specs.Names.{plain_name}
use Rattle.base_types.specs.declared.span.Span.{Span}
use Rattle.base_types.proofs.TruthValues.{bytes_are, bytes_same}
use Rattle.token_forms.specs.declared.piece.Piece.TheVariants.{Blank, Token as token}
use Rattle.token_forms.specs.Parsing.{◌>>=◌}
use Rattle.token_forms.specs.Forms.{put_all}
use Rattle.token_forms.specs.Pieces.{piece_len}
use Rattle.token_forms.specs.Tokens.{Token}
use Rattle.stil_tokens.specs.StilTokens.{is_blank, is_quote, is_mark, is_run, quoted_len, slash_piece, piece_at, tokens_in}
use Rattle.stil_tokens.specs.StilStatements.{is_only, statement_len, statements_within}
use Rattle.stil_tokens.proofs.StilSplitLaw.{choose}
use Rattle.stil_types.specs.declared.head.ScanChainDecl.{ScanChainDecl}
use Rattle.stil_syntax.specs.Names.{is_enclosed, is_word, is_string, inner, string_at, name_at}
use Rattle.stil_syntax.specs.Shapes.{behind_brace, in_block, is_empty, behind_labels, body_statements}
use Rattle.stil_syntax.proofs.Labelled.{labels_law}
use Rattle.stil_blocks.specs.declared.clause.Clause.{Clause}
use Rattle.stil_blocks.specs.declared.clause.Clause.TheVariants.{Length, In, Out, Inversion, Cells, OutLength, Passed, NoForm}
use Rattle.stil_blocks.specs.declared.cells.CellList.{CellList}
use Rattle.stil_blocks.specs.declared.chain.ChainParts.{ChainParts}
use Rattle.stil_blocks.specs.declared.chain.ReadChain.{ReadChain}
use Rattle.stil_blocks.specs.Statements.{statements_of, start_of, is_whole, has_word, behind_word, is_end, opens, statements_in}
use Rattle.stil_blocks.specs.Chains.{length_at, sole_name, port_at, inversion_at, cells_at, cells_span, clause_by, further_clause, word_clause, unlabelled_clause, clause_of, no_parts, once, put_clause, whole_chain, parts_of, block_chain, named_chain, chain_at, listed, chain_in, structure_chains, chains_of}
use Rattle.stil_head.specs.Ends.{head_text}
use Rattle.list_laws.specs.Leasts.{place_if}
use Rattle.stil_head.specs.Twice.{Row, again_in, chain_row, port_rows}
use Rattle.stil_head.proofs.Rows.{one_name}
use Rattle.stil_writer.specs.Calls.{is_plain, ports_of, AreOnce, ArePorts}
use Rattle.stil_writer.proofs.Lays.{AreLaid, laid}
use Rattle.stil_writer.proofs.ReadAgain.{all_tokens}
use Rattle.stil_writer.proofs.Transfer.{each_behind}
use Rattle.pattern_laws.specs.Laws.{SamePorts, PortsLaw, SamePortsLaw}
use Rattle.pattern_laws.proofs.Cuts.{Pieces}
use Rattle.pattern_laws.proofs.Enclosed.{pieces_of}

-- no "
abbrev unquoted : ℕ → Bool
unquoted b = not (eqb b 34)

-- in the name that a token gives stands no "
record IsClean (w : List ℕ) : Type 0 where
  word : is_word w ≡ true → list_all unquoted w ≡ true
  string : is_string w ≡ true → list_all unquoted (inner w) ≡ true

run_one : (b : ℕ) → is_run b ≡ true → unquoted b ≡ true
run_one b r = elim (cases_Bool (eqb b 34)) [
  | inl e ↦ absurd (let k : is_run 34 ≡ true = subst (λ (n : ℕ). is_run n ≡ true) (eqb-true b 34 e) r in true≢false (sym k))
  | inr e ↦ ap not e
]

prefix_as : (t : Bool) (m k : ℕ) → cond t (1 + m) 0 ≡ suc k → (t ≡ true) × (m ≡ k)
prefix_as true m k e = (refl, omega (arith, e))
prefix_as false m k e = absurd (omega (arith, e))

run_all : (v rest : List ℕ) → prefix_len is_run (v ++ rest) ≡ length v → list_all unquoted v ≡ true
run_all [] rest e = refl
run_all (c ∷ v) rest e =
    let p = prefix_as (is_run c) (prefix_len is_run (v ++ rest)) (length v) e in
    and_from (unquoted c) (list_all unquoted v) (run_one c p.0) (run_all v rest p.1)

quoted_as : (t : Bool) (m k : ℕ) → cond t 1 (1 + m) ≡ suc (suc k) → (t ≡ false) × (m ≡ suc k)
quoted_as true m k e = absurd (omega (arith, e))
quoted_as false m k e = (refl, omega (arith, e))

quoted_all : (v rest : List ℕ) → quoted_len 34 (v ++ rest) ≡ length v → list_all unquoted (take (length v - 1) v) ≡ true
quoted_all [] rest e = refl
quoted_all (c ∷ []) rest e = refl
quoted_all (c ∷ d ∷ v) rest e =
    let q = quoted_as (eqb c 34) (quoted_len 34 (d ∷ v ++ rest)) (length v) e in
    let more = quoted_all (d ∷ v) rest q.1 in
    let n : length (c ∷ d ∷ v) - 1 ≡ suc (length (d ∷ v) - 1) = omega arith in
    ap (λ (k : ℕ). list_all unquoted (take k (c ∷ d ∷ v))) n ∙ and_from (unquoted c) (list_all unquoted (take (length (d ∷ v) - 1) (d ∷ v))) (ap not q.0) more

-- a text in quotes, or an annotation, is no word
no_word : (x e : Bool) → e ≡ true → (x && not e) ≡ true → ⊥
no_word x e f h = true≢false (sym ((and_parts x (not e) h).1) ∙ ap not f)

quote_encloses : (a c d : Bool) → (a || c) ≡ true → (a || (c || d)) ≡ true
quote_encloses true c d e = refl
quote_encloses false true d e = refl
quote_encloses false false d e = absurd (true≢false (sym e))

brace_encloses : (a c d : Bool) → d ≡ true → (a || (c || d)) ≡ true
brace_encloses true c d e = refl
brace_encloses false true d e = refl
brace_encloses false false d e = e

blank_not : (m n : ℕ) → Blank m ≡ token n → ⊥
blank_not m n e = absurd cc

slash_run : (bs : List ℕ) (n : ℕ) → slash_piece bs ≡ token n → 1 + prefix_len is_run bs ≡ n
unfolding slash_piece
slash_run [] n e = ap piece_len e
slash_run (c ∷ bs) n e = choose (eqb c 47) _ _ _ e (λ t f. absurd (blank_not _ n f)) (λ t f. choose (eqb c 42) _ _ _ f (λ u g. absurd (blank_not _ n g)) (λ u g. ap piece_len g))

one_clean : (b : ℕ) (v : List ℕ) → eqb b 34 ≡ false → length v ≡ 0 → IsClean (b ∷ v)
one_clean b [] q e = record { word = λ h. and_from (unquoted b) true (ap not q) refl; string = λ h. absurd (true≢false (sym h ∙ q)) }
one_clean b (c ∷ v) q e = absurd (omega (arith, e))

module _ (b : ℕ) (v rest : List ℕ) where
  clean_run : eqb b 34 ≡ false → prefix_len is_run (v ++ rest) ≡ length v → IsClean (b ∷ v)
  clean_run q e = record { word = λ h. and_from (unquoted b) (list_all unquoted v) (ap not q) (run_all v rest e); string = λ h. absurd (true≢false (sym h ∙ q)) }

  clean_brace : eqb b 34 ≡ false → eqb b 123 ≡ true → IsClean (b ∷ v)
  clean_brace q e = record {
    word = λ h. absurd (no_word _ (is_enclosed (b ∷ v)) (brace_encloses (eqb b 34) (eqb b 39) (eqb b 123) e) h);
    string = λ h. absurd (true≢false (sym h ∙ q));
  }

  clean_quote : is_quote b ≡ true → quoted_len b (v ++ rest) ≡ length v → IsClean (b ∷ v)
  clean_quote q e = record {
    word = λ h. absurd (no_word _ (is_enclosed (b ∷ v)) (quote_encloses (eqb b 34) (eqb b 39) (eqb b 123) q) h);
    string = λ h.
        (let k : b ≡ 34 = eqb-true b 34 h in
        let n : length (b ∷ v) - 2 ≡ length v - 1 = omega arith in
        ap (λ (i : ℕ). list_all unquoted (take i v)) n ∙ quoted_all v rest (subst (λ (c : ℕ). quoted_len c (v ++ rest) ≡ length v) k e));
  }

  clean_piece : piece_at (b ∷ v ++ rest) ≡ token (length (b ∷ v)) → IsClean (b ∷ v)
  unfolding piece_at
  clean_piece e =
      choose (is_blank b) _ _ _ e (λ t f. absurd (blank_not _ (length (b ∷ v)) f))
      (λ t e1. choose (is_quote b) _ _ _ e1 (λ q f. let k : 1 + quoted_len b (v ++ rest) ≡ length (b ∷ v) = ap piece_len f in clean_quote q (omega (arith, k)))
      (λ q e2. let o = or_parts (eqb b 34) (eqb b 39) q in
      choose (eqb b 123) _ _ _ e2 (λ c f. clean_brace o.0 c)
      (λ c e3. choose (is_mark b) _ _ _ e3 (λ m f. let k : 1 ≡ length (b ∷ v) = ap piece_len f in one_clean b v o.0 (omega (arith, k)))
      (λ m e4. choose (eqb b 47) _ _ _ e4 (λ s f. let k = slash_run (v ++ rest) (length (b ∷ v)) f in clean_run o.0 (omega (arith, k)))
      (λ s f. let k : 1 + prefix_len is_run (v ++ rest) ≡ length (b ∷ v) = ap piece_len f in clean_run o.0 (omega (arith, k)))))))

clean_text : (w rest : List ℕ) → 0 < length w → piece_at (w ++ rest) ≡ token (length w) → IsClean w
clean_text [] rest some e = absurd (omega arith)
clean_text (b ∷ v) rest some e = clean_piece b v rest e

abbrev IsCleanToken : Token → Type 0
IsCleanToken t = IsClean t.text

laid_clean : (at : ℕ) (ps : Pieces) (z : List ℕ) → AreLaid z ps → Each IsCleanToken (laid at ps)
laid_clean at [] z a = tt
laid_clean at ((true, w) ∷ ps) z a = (clean_text w _ a.0 a.1, laid_clean (at + length w) ps z a.2)
laid_clean at ((false, w) ∷ ps) z a = laid_clean (at + length w) ps z a.2

-- so it is with all tokens of a text
tokens_clean : (text : List ℕ) → Each IsCleanToken (tokens_in text)
tokens_clean text =
    let w = pieces_of (length text) text (omega arith) in
    subst (Each IsCleanToken) (sym (ap tokens_in w.is ∙ all_tokens w.pieces w.lies)) (laid_clean 0 w.pieces [] w.lies)

-- one value of two by a test
by_test : {A : Type 0} (P : A → Type 0) (b : Bool) (x y : A) → P x → P y → P (cond b x y)
by_test P true x y p q = p
by_test P false x y p q = q

each_take : (n : ℕ) (ts : List Token) → Each IsCleanToken ts → Each IsCleanToken (take n ts)
each_take zero ts e = tt
each_take (suc n) [] e = tt
each_take (suc n) (t ∷ ts) e = (e.0, each_take n ts e.1)

each_drop : (n : ℕ) (ts : List Token) → Each IsCleanToken ts → Each IsCleanToken (drop n ts)
each_drop zero ts e = e
each_drop (suc n) [] e = tt
each_drop (suc n) (t ∷ ts) e = each_drop n ts e.1

abbrev AreClean : List Token → Type 0
AreClean ts = Each IsCleanToken ts

within_clean : (n : ℕ) (ts : List Token) → AreClean ts → Each AreClean (statements_within n ts)
unfolding statements_within
within_clean zero ts e = tt
within_clean (suc n) [] e = tt
within_clean (suc n) (t ∷ ts) e = (each_take (statement_len (t ∷ ts)) (t ∷ ts) e, within_clean n (drop (statement_len (t ∷ ts)) (t ∷ ts)) (each_drop (statement_len (t ∷ ts)) (t ∷ ts) e))

each_filter : (t : List Token → Bool) (ss : List (List Token)) → Each AreClean ss → Each AreClean (filter t ss)
each_filter t [] e = tt
each_filter t (s ∷ ss) e = let more = each_filter t ss e.1 in by_test (Each AreClean) (t s) (s ∷ filter t ss) (filter t ss) (e.0, more) more

body_clean : (ts : List Token) → AreClean ts → Each AreClean (body_statements ts)
body_clean ts e = each_filter (λ s. not (is_empty s)) (statements_within (length ts) ts) (within_clean (length ts) ts e)

brace_clean : (ts : List Token) → AreClean ts → AreClean (behind_brace ts)
brace_clean [] e = tt
brace_clean (t ∷ ts) e = by_test AreClean (is_only 123 t.text) ts (behind_brace ts) e.1 (brace_clean ts e.1)

inside_clean : (s : List Token) → AreClean s → Each AreClean (statements_in s)
inside_clean s e = body_clean (in_block s) (each_take (length (behind_brace s) - 1) (behind_brace s) (brace_clean s e))

labels_clean : (ts : List Token) → AreClean ts → AreClean (behind_labels ts)
labels_clean ts e = let h = labels_law ts in each_behind IsCleanToken h.stand.front (behind_labels ts) (subst AreClean h.stand.is e)

-- names

all_append : (x y : List ℕ) → list_all unquoted x ≡ true → list_all unquoted y ≡ true → list_all unquoted (x ++ y) ≡ true
all_append [] y e f = f
all_append (b ∷ x) y e f = let p = and_parts (unquoted b) (list_all unquoted x) e in and_from (unquoted b) (list_all unquoted (x ++ y)) p.0 (all_append x y p.1 f)

abbrev with_rest : List ℕ → List Token → List ℕ × List Token
with_rest x ts = (x, ts)

abbrev IsCleanName : List ℕ × List Token → Type 0
IsCleanName n = list_all unquoted n.0 ≡ true

joined_clean : (w s : Bool) (x y : List ℕ) (us vs : List Token) → list_all unquoted x ≡ true → (w ≡ true → list_all unquoted y ≡ true) → IsCleanName (cond (w && s) (with_rest (x ++ y) us) (with_rest x vs))
joined_clean true true x y us vs e f = all_append x y e (f refl)
joined_clean true false x y us vs e f = e
joined_clean false s x y us vs e f = e

string_clean : (t : Token) (ts : List Token) → list_all unquoted (inner t.text) ≡ true → AreClean ts → IsCleanName (string_at t ts)
string_clean t [] i e = i
string_clean t (u ∷ us) i e = joined_clean (is_word u.text) (eqb u.start t.end) (inner t.text) u.text us (u ∷ us) i (e.0.word)

name_as : (w s : Bool) (x : List ℕ) (ts : List Token) (p : List ℕ × List Token) → (w ≡ true → list_all unquoted x ≡ true) → (s ≡ true → IsCleanName p) → IfSome (cond w (Some (with_rest x ts)) (cond s (Some p) None)) IsCleanName
name_as true s x ts p e f = e refl
name_as false true x ts p e f = f refl
name_as false false x ts p e f = tt

name_clean : (ts : List Token) → AreClean ts → IfSome (name_at ts) IsCleanName
unfolding name_at
name_clean [] e = tt
name_clean (t ∷ ts) e = name_as (is_word t.text) (is_string t.text) t.text ts (string_at t ts) (e.0.word) (λ h. string_clean t ts (e.0.string h) e.1)

-- a name without its backslashes can stand in quotes
plain_of : (name : List ℕ) → list_all unquoted name ≡ true → is_plain (plain_name name) ≡ true
plain_of [] h = refl
plain_of (b ∷ bs) h =
    let e = and_parts (unquoted b) (list_all unquoted bs) h in
    let more = plain_of bs e.1 in
    elim (cases_Bool (eqb b 92)) [
      | inl k ↦ ap (λ (t : Bool). is_plain (cond (not t) (b ∷ plain_name bs) (plain_name bs))) k ∙ more
      | inr k ↦ ap (λ (t : Bool). is_plain (cond (not t) (b ∷ plain_name bs) (plain_name bs))) k
          ∙ and_from (not (eqb b 34) && not (eqb b 92)) (is_plain (plain_name bs)) (and_from (not (eqb b 34)) (not (eqb b 92)) e.0 (ap not k)) more
    ]

abbrev IsPlain : List ℕ → Type 0
IsPlain name = is_plain name ≡ true

abbrev and_plain : Option (List ℕ) → Option (List ℕ)
and_plain o = o >>= λ name. Some (plain_name name)

sole_as : (b : Bool) (name : List ℕ) → list_all unquoted name ≡ true → IfSome (and_plain (cond b (Some name) None)) IsPlain
sole_as true name h = plain_of name h
sole_as false name h = tt

sole_plain : (o : Option (List ℕ × List Token)) → IfSome o IsCleanName → IfSome (and_plain (sole_name o)) IsPlain
sole_plain None h = tt
sole_plain (Some n) h = sole_as (is_end n.1) n.0 h

port_plain : (ts : List Token) → AreClean ts → IfSome (port_at ts) IsPlain
port_plain ts e = sole_plain (name_at ts) (name_clean ts e)

-- what a statement in a ScanChain says

abbrev IsPlainClause : Clause → Type 0
IsPlainClause (Length n at) = Unit {0}
IsPlainClause (In port) = IsPlain port
IsPlainClause (Out port) = IsPlain port
IsPlainClause (Inversion bit at) = Unit {0}
IsPlainClause (Cells list at) = Unit {0}
IsPlainClause OutLength = Unit {0}
IsPlainClause Passed = Unit {0}
IsPlainClause NoForm = Unit {0}

made_clause : {A : Type 0} (P : A → Type 0) (made : A → Clause) (o : Option A) → IfSome o P → ((a : A) → P a → IsPlainClause (made a)) → IsPlainClause (clause_by made o)
made_clause P made None h each = tt
made_clause P made (Some a) h each = each a h

any_value : {A : Type 0} (o : Option A) → IfSome o (λ a. Unit {0})
any_value None = tt
any_value (Some a) = tt

further_plain : (t : Token) (ts : List Token) → IsPlainClause (further_clause t ts)
further_plain t ts =
    by_test IsPlainClause (bytes_eq t.text (codes "ScanInversion")) _ _ (made_clause (λ b. Unit {0}) (λ (b : Bool × Span). Inversion b.0 b.1) (inversion_at ts) (any_value (inversion_at ts)) (λ b u. tt))
    (by_test IsPlainClause (bytes_eq t.text (codes "ScanCells")) _ _ (made_clause (λ c. Unit {0}) (λ (c : CellList × ℕ). Cells c.0 (cells_span t c.1)) (cells_at ts) (any_value (cells_at ts)) (λ c u. tt))
    (by_test IsPlainClause (bytes_eq t.text (codes "ScanOutLength")) OutLength Passed tt tt))

word_plain : (t : Token) (ts : List Token) → AreClean ts → IsPlainClause (word_clause t ts)
word_plain t ts e =
    by_test IsPlainClause (bytes_eq t.text (codes "ScanLength")) _ _ (made_clause (λ n. Unit {0}) (λ (n : ℕ × Span). Length n.0 n.1) (length_at ts) (any_value (length_at ts)) (λ n u. tt))
    (by_test IsPlainClause (bytes_eq t.text (codes "ScanIn")) _ _ (made_clause IsPlain In (port_at ts) (port_plain ts e) (λ p h. h))
    (by_test IsPlainClause (bytes_eq t.text (codes "ScanOut")) _ _ (made_clause IsPlain Out (port_at ts) (port_plain ts e) (λ p h. h)) (further_plain t ts)))

unlabelled_plain : (ts : List Token) → AreClean ts → IsPlainClause (unlabelled_clause ts)
unlabelled_plain [] e = tt
unlabelled_plain (t ∷ ts) e = word_plain t ts e.1

clause_plain : (s : List Token) → AreClean s → IsPlainClause (clause_of s)
unfolding clause_of
clause_plain s e = by_test IsPlainClause (is_whole s) _ NoForm (unlabelled_plain (behind_labels s) (labels_clean s e)) tt

-- what is put to a chain's parts

abbrev HasPlain : ChainParts → Type 0
HasPlain p = IfSome p.scan_in IsPlain × IfSome p.scan_out IsPlain

bound : {A : Type 0} (P : A → Type 0) (o : Option A) (made : A → ChainParts) → IfSome o P → ((a : A) → P a → HasPlain (made a)) → IfSome (o >>= λ a. Some (made a)) HasPlain
bound P None made h each = tt
bound P (Some a) made h each = each a h

once_plain : (o : Option (List ℕ)) (v : List ℕ) → IsPlain v → IfSome (once o v) (λ l. IfSome l IsPlain)
once_plain None v h = h
once_plain (Some w) v h = tt

put_plain : (p : ChainParts) (c : Clause) → HasPlain p → IsPlainClause c → IfSome (put_clause p c) HasPlain
put_plain p (Length n at) h l = bound (λ o. Unit {0}) (once p.length (n, at)) _ (any_value (once p.length (n, at))) (λ o u. h)
put_plain p (In port) h l = bound (λ (o : Option (List ℕ)). IfSome o IsPlain) (once p.scan_in port) _ (once_plain p.scan_in port l) (λ o e. (e, h.1))
put_plain p (Out port) h l = bound (λ (o : Option (List ℕ)). IfSome o IsPlain) (once p.scan_out port) _ (once_plain p.scan_out port l) (λ o e. (h.0, e))
put_plain p (Inversion bit at) h l = bound (λ o. Unit {0}) (once p.inversion (bit, at)) _ (any_value (once p.inversion (bit, at))) (λ o u. h)
put_plain p (Cells list at) h l = bound (λ o. Unit {0}) (once p.cells (list, at)) _ (any_value (once p.cells (list, at))) (λ o u. h)
put_plain p OutLength h l = h
put_plain p Passed h l = h
put_plain p NoForm h l = tt

then_plain : (o : Option ChainParts) (f : ChainParts → Option ChainParts) → IfSome o HasPlain → ((p : ChainParts) → HasPlain p → IfSome (f p) HasPlain) → IfSome (o >>= f) HasPlain
then_plain None f h each = tt
then_plain (Some p) f h each = each p h

all_put : (p : ChainParts) (ss : List (List Token)) → HasPlain p → Each AreClean ss → IfSome (put_all put_clause p (map clause_of ss)) HasPlain
unfolding put_all
all_put p [] h e = h
all_put p (s ∷ ss) h e = then_plain (put_clause p (clause_of s)) (λ q. put_all put_clause q (map clause_of ss)) (put_plain p (clause_of s) h (clause_plain s e.0)) (λ q g. all_put q ss g e.1)

parts_plain : (ss : List (List Token)) → Each AreClean ss → IfSome (parts_of ss) HasPlain
unfolding parts_of
parts_plain ss e = all_put no_parts ss (tt, tt) e

-- so each chain has plain ports

abbrev ArePlain : ReadChain → Type 0
ArePlain c = IsPlain c.decl.scan_in × IsPlain c.decl.scan_out

then_chain : {A : Type 0} (P : A → Type 0) (o : Option A) (f : A → Option ReadChain) → IfSome o P → ((a : A) → P a → IfSome (f a) ArePlain) → IfSome (o >>= f) ArePlain
then_chain P None f h each = tt
then_chain P (Some a) f h each = each a h

whole_plain : (name : List ℕ) (place line : ℕ) (p : ChainParts) → HasPlain p → IfSome (whole_chain name place line p) ArePlain
whole_plain name place line p h = then_chain (λ l. Unit {0}) p.length _ (any_value p.length) (λ l u. then_chain IsPlain p.scan_in _ h.0 (λ i e. then_chain IsPlain p.scan_out _ h.1 (λ o f. (e, f))))

block_plain : (text name : List ℕ) (s : List Token) → AreClean s → IfSome (block_chain text name s) ArePlain
block_plain text name s e = then_chain HasPlain (parts_of (statements_in s)) _ (parts_plain (statements_in s) (inside_clean s e)) (λ p h. whole_plain name (start_of s) _ p h)

named_plain : (text : List ℕ) (s : List Token) (o : Option (List ℕ × List Token)) → AreClean s → IfSome (named_chain text s o) ArePlain
named_plain text s None e = tt
named_plain text s (Some n) e = by_test (λ (o : Option ReadChain). IfSome o ArePlain) (opens n.1) _ None (block_plain text (plain_name n.0) s e) tt

chain_plain : (text : List ℕ) (s : List Token) → AreClean s → IfSome (chain_at text s) ArePlain
unfolding chain_at
chain_plain text s e = by_test (λ (o : Option ReadChain). IfSome o ArePlain) (is_whole s) _ None (named_plain text s (name_at (behind_word s)) e) tt

each_listed : (o : Option ReadChain) → IfSome o ArePlain → Each ArePlain (listed o)
each_listed None h = tt
each_listed (Some c) h = (h, tt)

each_append : (xs ys : List ReadChain) → Each ArePlain xs → Each ArePlain ys → Each ArePlain (xs ++ ys)
each_append [] ys e f = f
each_append (x ∷ xs) ys e f = (e.0, each_append xs ys e.1 f)

each_flat : (f : List Token → List ReadChain) (ss : List (List Token)) → Each AreClean ss → ((s : List Token) → AreClean s → Each ArePlain (f s)) → Each ArePlain (flat_map f ss)
each_flat f [] e each = tt
each_flat f (s ∷ ss) e each = each_append (f s) (flat_map f ss) (each s e.0) (each_flat f ss e.1 each)

item_plain : (text : List ℕ) (s : List Token) → AreClean s → Each ArePlain (chain_in text s)
unfolding chain_in
item_plain text s e = by_test (Each ArePlain) (has_word (codes "ScanChain") s) _ [] (each_listed (chain_at text s) (chain_plain text s e)) tt

structure_plain : (text : List ℕ) (s : List Token) → AreClean s → Each ArePlain (structure_chains text s)
unfolding structure_chains
structure_plain text s e = by_test (Each ArePlain) (has_word (codes "ScanStructures") s) _ [] (each_flat (chain_in text) (statements_in s) (inside_clean s e) (item_plain text)) tt

chains_plain : (text : List ℕ) → Each ArePlain (chains_of text)
chains_plain text = each_flat (structure_chains text) (statements_of text) (body_clean (tokens_in text) (tokens_clean text)) (structure_plain text)

abbrev decls : List ReadChain → List ScanChainDecl
decls cs = map (λ c. c.decl) cs

ports_plain : (cs : List ReadChain) → Each ArePlain cs → list_all is_plain (ports_of (decls cs)) ≡ true
ports_plain [] e = refl
ports_plain (c ∷ cs) e =
    let more = list_all is_plain (ports_of (decls cs)) in
    and_from (is_plain c.decl.scan_in) (is_plain c.decl.scan_out && more) (e.0.0) (and_from (is_plain c.decl.scan_out) more (e.0.1) (ports_plain cs e.1))

-- no port stands twice

abbrev row_names : List Row → List (List ℕ)
row_names [] = []
row_names (row ∷ rows) = row.0 ∷ row_names rows

ports_named : (cs : List ReadChain) → row_names (flat_map port_rows cs) ≡ ports_of (decls cs)
ports_named [] = refl
ports_named (c ∷ cs) = ap (λ (l : List (List ℕ)). c.decl.scan_in ∷ c.decl.scan_out ∷ l) (ports_named cs)

none_behind : (xs ys : List ℕ) → xs ++ ys ≡ [] → (xs ≡ []) × (ys ≡ [])
none_behind [] ys e = (refl, e)
none_behind (x ∷ xs) ys e = absurd cc

not_placed : (b : Bool) (place : ℕ) → place_if b place ≡ [] → b ≡ false
not_placed true place e = absurd cc
not_placed false place e = refl

-- the names stand once each, and none of them among those in front
record AreFresh (before : List (List ℕ)) (rows : List Row) : Type 0 where
  once : AreOnce (row_names rows)
  others : (q : List ℕ) → list_any (bytes_eq q) before ≡ true → list_any (bytes_eq q) (row_names rows) ≡ false

not_same : (before : List (List ℕ)) (name : List ℕ) → list_any (bytes_eq name) before ≡ false → (q : List ℕ) → list_any (bytes_eq q) before ≡ true → bytes_eq q name ≡ false
not_same before name new q h = elim (cases_Bool (bytes_eq q name)) [
  | inl e ↦ absurd (true≢false (sym h ∙ ap (λ (n : List ℕ). list_any (bytes_eq n) before) (bytes_are q name e) ∙ new))
  | inr e ↦ e
]

fresh : (before : List (List ℕ)) (rows : List Row) → again_in before rows ≡ [] → AreFresh before rows
fresh before [] e = record { once = tt; others = λ q h. refl }
fresh before (row ∷ rows) e =
    let behind = before ++ row.0 ∷ [] in
    let parts = none_behind (place_if (list_any (bytes_eq row.0) before) row.1) (again_in behind rows) e in
    let new : list_any (bytes_eq row.0) before ≡ false = not_placed (list_any (bytes_eq row.0) before) row.1 parts.0 in
    let more = fresh behind rows parts.1 in
    record {
      once = (more.others row.0 (one_name row.0 row.0 before ∙ or_right (list_any (bytes_eq row.0) before) (bytes_eq row.0 row.0) (bytes_same row.0 row.0 refl)), more.once);
      others = λ q h. or_from (bytes_eq q row.0) (list_any (bytes_eq q) (row_names rows)) (not_same before row.0 new q h) (more.others q (one_name q row.0 before ∙ or_left (list_any (bytes_eq q) before) (bytes_eq q row.0) h));
    }

pub ports_law : PortsLaw
ports_law bytes head d =
    let text = head_text bytes in
    let cs = chains_of text in
    let twice = none_behind (again_in [] (map chain_row cs)) _ d.says.no_twice in
    let ports = none_behind (again_in [] (flat_map port_rows cs)) _ twice.1 in
    let f = fresh [] (flat_map port_rows cs) ports.0 in
    subst ArePorts (sym d.says.chains) (record { plain = ports_plain cs (chains_plain text); once = subst AreOnce (ports_named cs) f.once })

ports_same : (cs ds : List ScanChainDecl) → SamePorts cs ds → ports_of ds ≡ ports_of cs
ports_same [] [] s = refl
ports_same [] (d ∷ ds) s = absurd s
ports_same (c ∷ cs) [] s = absurd s
ports_same (c ∷ cs) (d ∷ ds) s =
    ap (λ (n : List ℕ). n ∷ d.scan_out ∷ ports_of ds) s.0 ∙ ap (λ (n : List ℕ). c.scan_in ∷ n ∷ ports_of ds) s.1 ∙ ap (λ (l : List (List ℕ)). c.scan_in ∷ c.scan_out ∷ l) (ports_same cs ds s.2)

pub same_ports_law : SamePortsLaw
same_ports_law cs ds s p =
    let same = sym (ports_same cs ds s) in
    record { plain = subst (λ (l : List (List ℕ)). list_all is_plain l ≡ true) same p.plain; once = subst AreOnce same p.once }
