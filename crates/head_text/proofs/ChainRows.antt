-- A ScanChain as it is written.
use Rattle.std.specs.Prelude.{⊤}
use Rattle.std.proofs.Common.{◌≡◌, ℕ, zero, suc, ◌+◌, ◌-◌, ◌^◌, ◌<◌, ◌≤◌, Bool, true, false, ◌||◌, not, cond, ◌⊎◌, inl, inr, List, [], ◌∷◌, ◌++◌, length, map, filter, codes, decimal, is_some, Option, Some, None, refl, sym, ap, ◌∙◌, subst, arith, append_assoc, length-append}
use Rattle.std.specs.List.{flat_map, AllByRecursion as Each}
use Rattle.std.proofs.lemmas.Bool.{cases_Bool, true≢false}
use Rattle.std.proofs.lemmas.List.{append-nil}
use Rattle.std.proofs.lemmas.Option.{same_Some}
use Rattle.base_types.specs.Lines.{line_at}
use Rattle.base_types.specs.declared.span.Span.{Span}
use Rattle.token_forms.specs.Parsing.{◌>>=◌}
use Rattle.base_types.specs.Names.{plain_name}
use Rattle.base_types.proofs.TruthValues.{and_first}
use Rattle.token_forms.specs.Tokens.{Token}
use Rattle.splice.specs.declared.Edit.{Edit}
use Rattle.splice.specs.Spliced.{AreRising}
use Rattle.token_forms.specs.Forms.{put_all}
use Rattle.stil_tokens.specs.StilStatements.{is_only, is_closed, len_in, stil_statements}
use Rattle.stil_types.specs.declared.head.ScanChainDecl.{ScanChainDecl}
use Rattle.stil_syntax.specs.Names.{name_at}
use Rattle.stil_syntax.specs.Shapes.{behind_labels, closes_nothing, in_block, is_empty, body_statements}
use Rattle.stil_blocks.specs.declared.cells.CellList.{CellList}
use Rattle.stil_blocks.specs.declared.clause.Clause.{Clause}
use Rattle.stil_blocks.specs.declared.clause.Clause.TheVariants.{Length, In, Out, Inversion, Cells, OutLength, Passed, NoForm}
use Rattle.stil_blocks.specs.declared.chain.ChainParts.{ChainParts}
use Rattle.stil_blocks.specs.declared.chain.ReadChain.{ReadChain}
use Rattle.stil_blocks.specs.Statements.{start_of, is_whole, behind_word, opens, statements_in}
use Rattle.stil_blocks.specs.Chains.{put_clause, no_parts, value_of, place_in, cell_names, whole_chain, parts_of, block_chain, named_chain, chain_at, unlabelled_clause, clause_of}
use Rattle.head_alike.specs.Steps.{Step, Keep, olds, news, AreSteps}
use Rattle.head_alike.specs.Chains.{AreTurned, clauses_in, IsNewFor, IsTurnedRow}
use Rattle.head_alike.specs.Trees.{joined, IsStatement, IsLead, block_steps}
use Rattle.head_alike.proofs.Turning.{clauses_law}
use Rattle.head_alike.proofs.Trees.{no_statements}
use Rattle.head_text.specs.Mixes.{bytes_in, AreLaid, laid, token_of_bytes, Mix, new_pieces, steps}
use Rattle.head_text.specs.Ready.{AreBlank}
use Rattle.head_text.specs.Written.{NewBit, NewChain, bit_text, cells_text, edit_at, edit_if, sorted_edits, chain_edits, name_read, inversion_anew, cells_anew, declared_chain}
use Rattle.head_text.proofs.Mixes.{bytes_append, laid_append, are_behind, some_laid, some_behind, AreSome}
use Rattle.head_text.proofs.Cutting.{Pieces, AreCut, cut_all, no_tokens, blank_laid, PieceCut, piece_cut, OnePiece, one_piece}
use Rattle.head_text.proofs.Singles.{are_front}
use Rattle.head_text.proofs.Makes.{stays, new_stays, new_mixes, stays_none, stays_lead, NoBrace, after, Made, made_stays, made_both, both_steps, Row, Rows, RowsAt, made_tokens, row_of_made, made_rises, all_rows}
use Rattle.head_text.proofs.NewCells.{Shapes}
use Rattle.head_text.proofs.ClauseRows.{FitsClause, clause_row, clause_edits}
use Rattle.head_text.proofs.ChainEdits.{part_edits, sorted_parts, Covers, clauses_covered}
use Rattle.head_text.proofs.Blocks.{BlockCut, block_cut, EmptyIs, empty_closed, empty_clause, each_all, gather_all}

-- lead { body last tail    the body is written anew, all else stays
module _ (at : ℕ) (lead body : Pieces) (last : List ℕ) (tail : Pieces) where
  abbrev pub block_pieces : Pieces
  block_pieces = lead ++ ((true, 123 ∷ []) ∷ [] ++ (body ++ (true, last) ∷ tail))

  abbrev pub body_at : ℕ
  body_at = at + length (bytes_in lead) + length (bytes_in ((true, 123 ∷ []) ∷ []))

-- steps that are such a block
pub record Opens (Fs : List (List Step) → Type 0) (s : List Step) : Type 0 where
  pub lead : List Step
  pub t : Token
  pub u : Token
  pub v : Token
  pub w : Token
  pub rows : List (List Step)
  pub is : s ≡ block_steps lead t u rows v w
  pub is_lead : IsLead lead
  pub t_is : t.text ≡ 123 ∷ []
  pub u_is : u.text ≡ 123 ∷ []
  pub each : Each IsStatement rows
  pub facts : Fs rows

module _ (at : ℕ) (lead body : Pieces) (last : List ℕ) (tail : Pieces) (edits : List Edit) (Fs : List (List Step) → Type 0) (inner : Rows Fs (body_at at lead body last tail) body edits) where
  abbrev inside : ℕ
  inside = body_at at lead body last tail

  abbrev flag : Bool
  flag = after true (stays lead)

  abbrev end_made : Made (after true inner.made.mixes) (inside + length (bytes_in body)) ((true, last) ∷ tail) []
  end_made = made_stays (after true inner.made.mixes) (inside + length (bytes_in body)) ((true, last) ∷ tail)

  abbrev body_made : Made true inside (body ++ (true, last) ∷ tail) (edits ++ [])
  body_made = made_both true (after true inner.made.mixes) inside body ((true, last) ∷ tail) edits [] inner.made refl end_made

  abbrev brace_made : Made flag (at + length (bytes_in lead)) ((true, 123 ∷ []) ∷ [] ++ (body ++ (true, last) ∷ tail)) ([] ++ (edits ++ []))
  brace_made = made_both flag true (at + length (bytes_in lead)) ((true, 123 ∷ []) ∷ []) (body ++ (true, last) ∷ tail) [] (edits ++ []) (made_stays flag (at + length (bytes_in lead)) ((true, 123 ∷ []) ∷ [])) refl body_made

  abbrev pub block_made : Made true at (block_pieces at lead body last tail) ([] ++ ([] ++ (edits ++ [])))
  block_made = made_both true flag at lead ((true, 123 ∷ []) ∷ [] ++ (body ++ (true, last) ∷ tail)) [] ([] ++ (edits ++ [])) (made_stays true at lead) refl brace_made

  pub block_new : new_pieces block_made.mixes ≡ lead ++ (true, 123 ∷ []) ∷ (new_pieces inner.made.mixes ++ (true, last) ∷ tail)
  block_new =
      new_mixes (stays lead) brace_made.mixes ∙ ap (λ (l : Pieces). l ++ new_pieces brace_made.mixes) (new_stays lead)
      ∙ ap (λ (l : Pieces). lead ++ (true, 123 ∷ []) ∷ l) (new_mixes inner.made.mixes end_made.mixes ∙ ap (λ (l : Pieces). new_pieces inner.made.mixes ++ l) (new_stays ((true, last) ∷ tail)))

  pub block_opens : AreBlank tail → NoBrace (laid at lead) → (to : ℕ) → Opens Fs (steps at to block_made.mixes)
  block_opens none no_brace to =
      let from = at + length (bytes_in lead) in
      let to1 = to + length (bytes_in (new_pieces (stays lead))) in
      let to2 = to1 + length (bytes_in (new_pieces (stays ((true, 123 ∷ []) ∷ [])))) in
      let to3 = to2 + length (bytes_in (new_pieces inner.made.mixes)) in
      let r = inner.rows to2 in
      let a = both_steps true flag at to lead ((true, 123 ∷ []) ∷ [] ++ (body ++ (true, last) ∷ tail)) [] ([] ++ (edits ++ [])) (made_stays true at lead) brace_made in
      let b = both_steps flag true from to1 ((true, 123 ∷ []) ∷ []) (body ++ (true, last) ∷ tail) [] (edits ++ []) (made_stays flag from ((true, 123 ∷ []) ∷ [])) body_made in
      let c = both_steps true (after true inner.made.mixes) inside to2 body ((true, last) ∷ tail) edits [] inner.made end_made in
      let v = token_of_bytes last (inside + length (bytes_in body)) in
      let w = token_of_bytes last to3 in
      let t = token_of_bytes (123 ∷ []) from in
      let u = token_of_bytes (123 ∷ []) to1 in
      let d : steps (inside + length (bytes_in body)) to3 (stays ((true, last) ∷ tail)) ≡ Keep v w ∷ [] = ap (λ (l : List Step). Keep v w ∷ l) (stays_none tail (inside + length (bytes_in body) + length last) (to3 + length last) none) in
      record {
        lead = steps at to (stays lead);
        t = t;
        u = u;
        v = v;
        w = w;
        rows = r.rows;
        is = a ∙ ap (λ (l : List Step). steps at to (stays lead) ++ l) (b ∙ ap (λ (l : List Step). Keep t u ∷ l) (c ∙ ap (λ (l : List Step). l ++ steps (inside + length (bytes_in body)) to3 (stays ((true, last) ∷ tail))) r.is ∙ ap (λ (l : List Step). joined r.rows ++ l) d));
        is_lead = stays_lead lead at to no_brace;
        t_is = refl;
        u_is = refl;
        each = r.each;
        facts = r.facts;
      }

-- the pieces of a block
pub record BlockPieces (at : ℕ) (qs : Pieces) (lead_tokens body_tokens : List Token) : Type 0 where
  pub lead : Pieces
  pub body : Pieces
  pub last : List ℕ
  pub tail : Pieces
  pub is : qs ≡ block_pieces at lead body last tail
  pub lead_is : laid at lead ≡ lead_tokens
  pub body_is : laid (body_at at lead body last tail) body ≡ body_tokens
  pub none : AreBlank tail

pub pieces_of : (at : ℕ) (qs : Pieces) (b : BlockCut (laid at qs)) → BlockPieces at qs b.lead b.body
pieces_of at qs b =
    let c = piece_cut at qs b.lead (b.brace ∷ (b.body ++ b.last ∷ [])) b.is in
    let o = one_piece (at + length (bytes_in c.front)) c.rest b.brace (b.body ++ b.last ∷ []) c.rest_is in
    let from = at + length (bytes_in c.front) + length (bytes_in o.blanks) + length o.word in
    let d = piece_cut from o.rest b.body (b.last ∷ []) o.rest_is in
    let p = one_piece (from + length (bytes_in d.front)) d.rest b.last [] d.rest_is in
    let lead = c.front ++ o.blanks in
    let body = d.front ++ p.blanks in
    let word : o.word ≡ 123 ∷ [] = sym (ap (λ (t : Token). t.text) o.token) ∙ b.opens in
    let size = ap length word in
    let len = ap length (bytes_append c.front o.blanks) ∙ length-append (bytes_in c.front) (bytes_in o.blanks) in
    let place : body_at at lead body p.word p.rest ≡ from = omega (arith, size, len) in
    record {
      lead = lead;
      body = body;
      last = p.word;
      tail = p.rest;
      is = c.is ∙ ap (λ (l : Pieces). c.front ++ l) (o.is ∙ ap (λ (w : List ℕ). o.blanks ++ (true, w) ∷ o.rest) word ∙ ap (λ (l : Pieces). o.blanks ++ (true, 123 ∷ []) ∷ l) (d.is ∙ ap (λ (l : Pieces). d.front ++ l) p.is ∙ sym (append_assoc d.front p.blanks ((true, p.word) ∷ p.rest))))
          ∙ sym (append_assoc c.front o.blanks ((true, 123 ∷ []) ∷ (body ++ (true, p.word) ∷ p.rest)));
      lead_is = laid_append at c.front o.blanks ∙ ap (λ (l : List Token). laid at c.front ++ l) (blank_laid (at + length (bytes_in c.front)) o.blanks o.none) ∙ append-nil (laid at c.front) ∙ c.front_is;
      body_is = ap (λ (n : ℕ). laid n body) place ∙ laid_append from d.front p.blanks ∙ ap (λ (l : List Token). laid from d.front ++ l) (blank_laid (from + length (bytes_in d.front)) p.blanks p.none) ∙ append-nil (laid from d.front) ∙ d.front_is;
      none = no_tokens _ p.rest p.rest_is;
    }

-- the pieces of the body stand before what follows them
pub body_laid : (z : List ℕ) (at : ℕ) (lead body : Pieces) (last : List ℕ) (tail : Pieces) → AreLaid z (block_pieces at lead body last tail) → AreLaid (bytes_in ((true, last) ∷ tail) ++ z) body
body_laid z at lead body last tail are = are_front z body ((true, last) ∷ tail) (are_behind z lead ((true, 123 ∷ []) ∷ (body ++ (true, last) ∷ tail)) are).2

-- what a chain is made of
pub record ChainIs (text : List ℕ) (s : List Token) (c : ReadChain) : Type 0 where
  pub name : List ℕ
  pub parts : ChainParts
  pub said : parts_of (statements_in s) ≡ Some parts
  pub whole : whole_chain name (start_of s) (line_at text (start_of s)) parts ≡ Some c

pub chain_is : (text : List ℕ) (s : List Token) (c : ReadChain) → chain_at text s ≡ Some c → ChainIs text s c
unfolding chain_at
chain_is text s c e = by (is_whole s) e
  where
    of_parts : (name : List ℕ) (o : Option ChainParts) → parts_of (statements_in s) ≡ o → (o >>= λ p. whole_chain name (start_of s) (line_at text (start_of s)) p) ≡ Some c → ChainIs text s c
    of_parts name None f e = absurd cc
    of_parts name (Some p) f e = record { name = name; parts = p; said = f; whole = e }

    of_open : (n : List ℕ × List Token) (b : Bool) → cond b (block_chain text (plain_name n.0) s) None ≡ Some c → ChainIs text s c
    of_open n true e = of_parts (plain_name n.0) (parts_of (statements_in s)) refl e
    of_open n false e = absurd cc

    of_name : (o : Option (List ℕ × List Token)) → named_chain text s o ≡ Some c → ChainIs text s c
    of_name None e = absurd cc
    of_name (Some n) e = of_open n (opens n.1) e

    by : (b : Bool) → cond b (named_chain text s (name_at (behind_word s))) None ≡ Some c → ChainIs text s c
    by true e = of_name (name_at (behind_word s)) e
    by false e = absurd cc

pub record WholeIs (p : ChainParts) (d : ScanChainDecl) : Type 0 where
  pub length : place_in p.length ≡ Some d.length_at
  pub inversion : d.inversion ≡ value_of p.inversion
  pub inversion_at : d.inversion_at ≡ place_in p.inversion
  pub cells : d.cells ≡ cell_names p.cells
  pub cells_at : d.cells_at ≡ place_in p.cells

pub whole_is : (name : List ℕ) (place line : ℕ) (l : Option (ℕ × Span)) (i o : Option (List ℕ)) (v : Option (Bool × Span)) (c : Option (CellList × Span)) (b : Bool) (r : ReadChain)
    → whole_chain name place line (record { length = l; scan_in = i; scan_out = o; inversion = v; cells = c; out_length = b }) ≡ Some r → WholeIs (record { length = l; scan_in = i; scan_out = o; inversion = v; cells = c; out_length = b }) r.decl
whole_is name place line None i o v c b r e = absurd cc
whole_is name place line (Some l) None o v c b r e = absurd cc
whole_is name place line (Some l) (Some i) None v c b r e = absurd cc
whole_is name place line (Some l) (Some i) (Some o) v c b r e =
    subst (λ (r : ReadChain). WholeIs (record { length = Some l; scan_in = Some i; scan_out = Some o; inversion = v; cells = c; out_length = b }) r.decl) (same_Some _ _ e)
    (record { length = refl; inversion = refl; inversion_at = refl; cells = refl; cells_at = refl })

-- a new chain that fits one that was read
pub record FitShape (old : ScanChainDecl) (n : NewChain) : Type 0 where
  pub some : 0 < length n.bits
  pub few : length n.bits < 2 ^ 32
  pub cells : is_some old.cells ≡ true → Shapes n.bits

value_some : {A : Type 0} (o : Option (A × Span)) → is_some (value_of o) ≡ is_some o
value_some None = refl
value_some (Some a) = refl

names_some : (o : Option (CellList × Span)) → is_some (cell_names o) ≡ is_some o
names_some None = refl
names_some (Some a) = refl

inversion_some : (o : Option Bool) (bit : Bool) → is_some o ≡ true → inversion_anew o bit ≡ Some bit
inversion_some None bit e = absurd cc
inversion_some (Some a) bit e = refl

cells_some : (o : Option (List (List ℕ))) (names : List (List ℕ)) → is_some o ≡ true → cells_anew o names ≡ Some names
cells_some None names e = absurd cc
cells_some (Some a) names e = refl

pub fits_new : (old : ScanChainDecl) (n : NewChain) → IsNewFor old (declared_chain old n)
fits_new old n = record { name = refl; scan_in = refl; scan_out = refl; inversion = of_inversion old.inversion; cells = of_cells old.cells (map (λ (b : NewBit). name_read b.name) n.bits) }
  where
    of_inversion : (o : Option Bool) → is_some (inversion_anew o n.inversion) ≡ is_some o
    of_inversion None = refl
    of_inversion (Some b) = refl

    of_cells : (o : Option (List (List ℕ))) (names : List (List ℕ)) → is_some (cells_anew o names) ≡ is_some o
    of_cells None names = refl
    of_cells (Some a) names = refl

fits_clause : (p : ChainParts) (d : ScanChainDecl) (n : NewChain) → WholeIs p d → FitShape d n → (c : Clause) → Covers p c → FitsClause (declared_chain d n) n c
fits_clause p d n w f (Length m s) k = (refl, f.some, f.few)
fits_clause p d n w f (Inversion m s) k = inversion_some d.inversion n.inversion (ap is_some w.inversion ∙ value_some p.inversion ∙ k)
fits_clause p d n w f (Cells m s) k =
    let has : is_some d.cells ≡ true = ap is_some w.cells ∙ names_some p.cells ∙ k in
    (cells_some d.cells (map (λ (b : NewBit). name_read b.name) n.bits) has, f.cells has)
fits_clause p d n w f (In port) k = tt
fits_clause p d n w f (Out port) k = tt
fits_clause p d n w f OutLength k = tt
fits_clause p d n w f Passed k = tt
fits_clause p d n w f NoForm k = k

pub no_form : (s : List Token) → is_whole s ≡ false → clause_of s ≡ NoForm
unfolding clause_of
no_form s e = ap (λ (b : Bool). cond b (unlabelled_clause (behind_labels s)) NoForm) e

closed_of : (p : ChainParts) (s : List Token) → Covers p (clause_of s) → is_closed s ≡ true
closed_of p s k = by (is_whole s) refl k
  where
    by : (b : Bool) → is_whole s ≡ b → Covers p (clause_of s) → is_closed s ≡ true
    by true e k = and_first (is_closed s) (not (closes_nothing 0 s)) e
    by false e k = absurd (subst (Covers p) (no_form s e) k)

flat_clauses : (marks : Bool) (n : NewChain) (ss : List (List Token)) → flat_map (λ s. clause_edits marks n (clause_of s)) ss ≡ flat_map (clause_edits marks n) (map clause_of ss)
flat_clauses marks n [] = refl
flat_clauses marks n (s ∷ ss) = ap (λ (l : List Edit). clause_edits marks n (clause_of s) ++ l) (flat_clauses marks n ss)

parts_none : parts_of [] ≡ Some no_parts
unfolding parts_of put_all
parts_none = refl

pub block_statements_none : (s : List Token) → in_block s ≡ [] → statements_in s ≡ []
block_statements_none s e = ap body_statements e ∙ ap (λ (l : List (List Token)). filter (λ s. not (is_empty s)) l) no_statements

-- a ScanChain: what it was, and what it says anew
abbrev pub ChainFact : List Token → ScanChainDecl → List Step → Type 0
ChainFact tokens new s = (olds s ≡ tokens) × AreTurned new (clauses_in (olds s)) (clauses_in (news s))

module _ (marks : Bool) (n : NewChain) (text : List ℕ) (tokens : List Token) (c : ReadChain) (is : chain_at text tokens ≡ Some c) (fit : FitShape c.decl n) where
  abbrev new : ScanChainDecl
  new = declared_chain c.decl n

  abbrev Good : List Token → Type 0
  Good s = (is_closed s ≡ true) × FitsClause new n (clause_of s)

  abbrev edits_of : List Token → List Edit
  edits_of s = clause_edits marks n (clause_of s)

  k : ChainIs text tokens c
  k = chain_is text tokens c is

  w : WholeIs k.parts c.decl
  w = whole_is k.name (start_of tokens) (line_at text (start_of tokens)) k.parts.length k.parts.scan_in k.parts.scan_out k.parts.inversion k.parts.cells k.parts.out_length c k.whole

  good_of : (s : List Token) → Covers k.parts (clause_of s) → Good s
  good_of s v = (closed_of k.parts s v, fits_clause k.parts c.decl n w fit (clause_of s) v)

  good_all : (ss : List (List Token)) → Each (Covers k.parts) (map clause_of ss) → Each Good ss
  good_all [] each = tt
  good_all (s ∷ ss) each = (good_of s each.0, good_all ss each.1)

  good_single : (t : Token) → t.text ≡ 59 ∷ [] → Good (t ∷ [])
  good_single t e = (empty_closed t e, subst (FitsClause new n) (sym (empty_clause t e)) tt)

  none_single : (t : Token) → t.text ≡ 59 ∷ [] → edits_of (t ∷ []) ≡ []
  none_single t e = ap (clause_edits marks n) (empty_clause t e)

  abbrev Puts : List (List Token) → Type 0
  Puts ss = put_all put_clause no_parts (map clause_of ss) ≡ Some k.parts

  said_all : Puts (statements_in tokens)
  unfolding parts_of
  said_all = k.said

  module _ (body : List Token) (inner : in_block tokens ≡ body) where
    abbrev all : List (List Token)
    all = stil_statements body

    abbrev counting : List (List Token)
    counting = filter (λ s. not (is_empty s)) all

    said : Puts counting
    said = subst (λ (l : List Token). Puts (body_statements l)) inner said_all

    each_good : Each Good all
    each_good = each_all Good good_single all body (cut_all body) (good_all counting (clauses_covered (map clause_of counting) no_parts k.parts said))

    flat_is : flat_map edits_of all ≡ flat_map (clause_edits marks n) (map clause_of counting)
    flat_is = sym (gather_all edits_of none_single all body (cut_all body)) ∙ flat_clauses marks n counting

    chain_flat : (at end : ℕ) → AreRising at end (flat_map edits_of all) → flat_map edits_of all ≡ chain_edits marks c.decl n
    chain_flat at end rising =
        flat_is ∙ sym (sorted_parts marks n (map clause_of counting) at end no_parts k.parts said tt (subst (AreRising at end) flat_is rising))
        ∙ ap (λ (l : Option Span). sorted_edits (edit_if l (decimal (length n.bits)) ++ (edit_if (place_in k.parts.inversion) (bit_text n.inversion) ++ edit_if (place_in k.parts.cells) (cells_text marks n)))) w.length
        ∙ ap (λ (l : Option Span). sorted_edits (edit_at c.decl.length_at (decimal (length n.bits)) ∷ (edit_if l (bit_text n.inversion) ++ edit_if (place_in k.parts.cells) (cells_text marks n)))) (sym w.inversion_at)
        ∙ ap (λ (l : Option Span). sorted_edits (edit_at c.decl.length_at (decimal (length n.bits)) ∷ (edit_if c.decl.inversion_at (bit_text n.inversion) ++ edit_if l (cells_text marks n)))) (sym w.cells_at)

  module _ (at : ℕ) (z : List ℕ) (qs : Pieces) (are : AreLaid z qs) (tokens_are : laid at qs ≡ tokens) (one : len_in 0 tokens ≡ length tokens) (closed : is_closed tokens ≡ true) where
    no_block : in_block tokens ≡ [] → ⊥
    no_block e =
        let p : parts_of [] ≡ Some k.parts = sym (ap parts_of (block_statements_none tokens e)) ∙ k.said in
        let q : no_parts ≡ k.parts = same_Some _ _ (sym parts_none ∙ p) in
        let r : None ≡ Some c.decl.length_at = ap (λ (p : ChainParts). place_in p.length) q ∙ w.length in
        cc

    of_pieces : (b : BlockCut tokens) → BlockPieces at qs b.lead b.body → Row (ChainFact tokens new) at qs (chain_edits marks c.decl n)
    of_pieces b p =
        let inside = body_at at p.lead p.body p.last p.tail in
        let whole = p.is in
        let laid_whole = subst (AreLaid z) whole are in
        let inner = all_rows (IsTurnedRow new) Good edits_of (λ at z qs are one good. clause_row marks n new at z qs are one good.0 good.1) (all b.body b.inner) inside (bytes_in ((true, p.last) ∷ p.tail) ++ z) p.body
        (body_laid z at p.lead p.body p.last p.tail laid_whole) (subst (AreCut (all b.body b.inner)) (sym p.body_is) (cut_all b.body)) (each_good b.body b.inner) in
        let flat = flat_map edits_of (all b.body b.inner) in
        let made = block_made at p.lead p.body p.last p.tail flat (Each (IsTurnedRow new)) inner in
        let rises = made_rises inside p.body flat inner.made in
        let edits : [] ++ ([] ++ (flat ++ [])) ≡ chain_edits marks c.decl n = append-nil flat ∙ chain_flat b.body b.inner inside (inside + length (bytes_in p.body)) rises in
        let here : laid at (block_pieces at p.lead p.body p.last p.tail) ≡ tokens = ap (laid at) (sym whole) ∙ tokens_are in
        let fact : (to : ℕ) → ChainFact tokens new (steps at to made.mixes)
        = λ to.
        let o = block_opens at p.lead p.body p.last p.tail flat (Each (IsTurnedRow new)) inner p.none (subst NoBrace (sym p.lead_is) b.none) to in (
          made_tokens at (block_pieces at p.lead p.body p.last p.tail) ([] ++ ([] ++ (flat ++ []))) made to ∙ here,
          subst (λ (s : List Step). AreTurned new (clauses_in (olds s)) (clauses_in (news s))) (sym o.is) (clauses_law new o.lead o.t o.u o.v o.w o.rows o.is_lead o.t_is o.u_is o.each o.facts),
        ) in
        let row = row_of_made at (block_pieces at p.lead p.body p.last p.tail) ([] ++ ([] ++ (flat ++ []))) made (ChainFact tokens new) (some_laid z (block_pieces at p.lead p.body p.last p.tail) laid_whole)
        (subst (λ (l : List Token). len_in 0 l ≡ length l) (sym here) one) (subst (λ (l : List Token). is_closed l ≡ true) (sym here) closed) fact in
        subst (λ (q : Pieces). Row (ChainFact tokens new) at q (chain_edits marks c.decl n)) (sym whole) (subst (Row (ChainFact tokens new) at (block_pieces at p.lead p.body p.last p.tail)) edits row)

    of_block : BlockCut tokens → Row (ChainFact tokens new) at qs (chain_edits marks c.decl n)
    of_block b = of_pieces b (subst (λ (l : List Token). (b : BlockCut l) → BlockPieces at qs b.lead b.body) tokens_are (pieces_of at qs) b)

    pub chain_row : Row (ChainFact tokens new) at qs (chain_edits marks c.decl n)
    chain_row = elim (block_cut tokens) [ inl e ↦ absurd (no_block e) | inr b ↦ of_block b ]
