-- ScanStructures as it is written.
use Rattle.std.specs.Prelude.{⊤}
use Rattle.std.proofs.Common.{◌≡◌, ℕ, zero, suc, ◌+◌, ◌-◌, ◌<◌, ◌≤◌, Bool, true, false, ◌&&◌, ◌||◌, not, cond, ◌⊎◌, inl, inr, List, [], ◌∷◌, ◌++◌, length, map, filter, codes, is_some, Option, Some, None, refl, sym, ap, ◌∙◌, subst, arith}
use Rattle.std.specs.List.{flat_map, AllByRecursion as Each}
use Rattle.std.proofs.lemmas.Bool.{cases_Bool, true≢false}
use Rattle.std.proofs.lemmas.List.{append-nil}
use Rattle.base_types.proofs.TruthValues.{and_first}
use Rattle.token_forms.specs.Tokens.{Token}
use Rattle.splice.specs.declared.Edit.{Edit}
use Rattle.stil_tokens.specs.StilStatements.{is_closed, len_in, stil_statements}
use Rattle.stil_types.specs.declared.head.ScanChainDecl.{ScanChainDecl}
use Rattle.stil_syntax.specs.Shapes.{closes_nothing, in_block, is_empty, body_statements}
use Rattle.stil_blocks.specs.declared.chain.ReadChain.{ReadChain}
use Rattle.stil_blocks.specs.Statements.{start_of, is_whole, has_word, statements_in}
use Rattle.stil_blocks.specs.Chains.{chain_at, listed, chain_in, structure_chains}
use Rattle.list_laws.specs.Leasts.{place_if}
use Rattle.stil_head.specs.Faults.{is_bad_item, item_places}
use Rattle.head_alike.specs.Steps.{Step, olds, news, AreSteps}
use Rattle.head_alike.specs.Heads.{IsOther, IsChain, AreItems}
use Rattle.head_alike.specs.Trees.{joined, IsStatement, counted}
use Rattle.head_alike.proofs.Empties.{no_front, no_back, if_none}
use Rattle.head_alike.proofs.Heads.{wider}
use Rattle.head_alike.proofs.Plain.{Inner, inner_plain}
use Rattle.head_alike.proofs.Trees.{inner_law, no_statements}
use Rattle.head_text.specs.Mixes.{bytes_in, AreLaid, laid, new_pieces, steps}
use Rattle.head_text.specs.Ready.{AreBlank}
use Rattle.head_text.specs.Written.{NewChain, chain_edits, head_edits, declared_chain, declared}
use Rattle.head_text.proofs.Mixes.{are_behind, some_laid}
use Rattle.head_text.proofs.Cutting.{Pieces, AreCut, cut_all, no_tokens, PieceCut, piece_cut}
use Rattle.head_text.proofs.Singles.{are_front}
use Rattle.head_text.proofs.Makes.{NoBrace, Made, Row, Rows, rows_none, rows_more, new_stays, stays_row, made_tokens, row_of_made}
use Rattle.head_text.proofs.Blocks.{BlockCut, block_cut, EmptyIs, empty_is, empty_closed, empty_word, each_all, gather_all}
use Rattle.head_text.proofs.ChainRows.{block_pieces, body_at, Opens, block_made, block_opens, block_new, BlockPieces, pieces_of, body_laid, FitShape, fits_new, ChainFact, chain_row}

abbrev pub AllFit : List ScanChainDecl → List NewChain → Type 0
AllFit [] [] = ⊤
AllFit (d ∷ ds) (n ∷ ns) = FitShape d n × AllFit ds ns
AllFit ds ns = ⊥

abbrev pub decls_of : List ReadChain → List ScanChainDecl
decls_of cs = map (λ (c : ReadChain). c.decl) cs

-- a statement in ScanStructures that is no fault
pub record IsItem (text : List ℕ) (s : List Token) : Type 0 where
  pub closed : is_closed s ≡ true
  pub chain : has_word (codes "ScanChain") s ≡ true → is_some (chain_at text s) ≡ true

both_false : (a b : Bool) → (not a || b) ≡ false → (a ≡ true) × (b ≡ false)
both_false true false e = (refl, refl)
both_false true true e = absurd cc
both_false false b e = absurd cc

second_true : (a b : Bool) → (a && not b) ≡ false → a ≡ true → b ≡ true
second_true true true e f = refl
second_true true false e f = absurd cc
second_true false b e f = absurd cc

module _ (text : List ℕ) where
  item_of : (s : List Token) → is_bad_item text s ≡ false → IsItem text s
  unfolding is_bad_item
  item_of s e =
      let k = both_false (is_whole s) (has_word (codes "ScanChain") s && not (is_some (chain_at text s))) e in
      record { closed = and_first (is_closed s) (not (closes_nothing 0 s)) k.0; chain = λ h. second_true (has_word (codes "ScanChain") s) (is_some (chain_at text s)) k.1 h }

  items_of : (ss : List (List Token)) → item_places text ss ≡ [] → Each (IsItem text) ss
  items_of [] e = tt
  items_of (s ∷ ss) e = (item_of s (if_none (is_bad_item text s) (start_of s) (no_front (place_if (is_bad_item text s) (start_of s)) _ e)), items_of ss (no_back (place_if (is_bad_item text s) (start_of s)) (item_places text ss) e))

  single_item : (t : Token) → t.text ≡ 59 ∷ [] → IsItem text (t ∷ [])
  single_item t e = record { closed = empty_closed t e; chain = λ h. absurd (true≢false (sym h ∙ empty_word t (codes "ScanChain") e refl)) }

  chain_none : (s : List Token) → has_word (codes "ScanChain") s ≡ false → chain_in text s ≡ []
  unfolding chain_in
  chain_none s e = ap (λ (b : Bool). cond b (listed (chain_at text s)) []) e

  chain_listed : (s : List Token) → has_word (codes "ScanChain") s ≡ true → chain_in text s ≡ listed (chain_at text s)
  unfolding chain_in
  chain_listed s e = ap (λ (b : Bool). cond b (listed (chain_at text s)) []) e

  single_chain : (t : Token) → t.text ≡ 59 ∷ [] → chain_in text (t ∷ []) ≡ []
  single_chain t e = chain_none (t ∷ []) (empty_word t (codes "ScanChain") e refl)

  -- rows that don't count
  abbrev pub Counted : List ScanChainDecl → List (List Step) → Type 0
  Counted new rows = AreItems text new (counted rows)

  put_other : (b : Bool) (r : List Step) (rows : List (List Step)) (new : List ScanChainDecl) → IsOther r → AreItems text new rows → AreItems text new (cond b (r ∷ rows) rows)
  put_other true r rows new k more = inl (k, more)
  put_other false r rows new k more = more

  module _ (marks : Bool) where
    abbrev Out : List ReadChain → List NewChain → ℕ → Pieces → Type 0
    Out cs ns at ps = Rows (Counted (declared (decls_of cs) ns)) at ps (head_edits marks (decls_of cs) ns)

    module _ (s : List Token) (at : ℕ) (z : List ℕ) (front rest : Pieces) (are : AreLaid z (front ++ rest)) (front_is : laid at front ≡ s) (some : 0 < length s) (one : len_in 0 s ≡ length s) (item : IsItem text s) where
      front_laid : AreLaid (bytes_in rest ++ z) front
      front_laid = are_front z front rest are

      -- another statement
      other : (cs : List ReadChain) (ns : List NewChain) → has_word (codes "ScanChain") s ≡ false → Out cs ns (at + length (bytes_in front)) rest → Out cs ns at (front ++ rest)
      other cs ns apart more =
          let row = stays_row IsOther at front (some_laid (bytes_in rest ++ z) front front_laid) (subst (λ (l : List Token). len_in 0 l ≡ length l) (sym front_is) one) (ap is_closed front_is ∙ item.closed)
          (λ r plain is. record { other = ap (has_word (codes "ScanChain")) (is ∙ front_is) ∙ apart; steps = wider r true plain }) in
          rows_more IsOther (Counted (declared (decls_of cs) ns)) (Counted (declared (decls_of cs) ns)) at front rest [] (head_edits marks (decls_of cs) ns)
          (λ r rows k more. put_other (not (is_empty (olds r))) r (counted rows) (declared (decls_of cs) ns) k more) row more

      -- a ScanChain counts
      not_empty : has_word (codes "ScanChain") s ≡ true → is_empty s ≡ false
      not_empty has = elim (cases_Bool (is_empty s)) [
        | inl e ↦ (let k = empty_is s some one e in absurd (true≢false (sym has ∙ ap (has_word (codes "ScanChain")) k.is ∙ empty_word k.t (codes "ScanChain") k.text refl)))
        | inr e ↦ e
      ]

      chain : (c : ReadChain) (cs : List ReadChain) (n : NewChain) (ns : List NewChain) → has_word (codes "ScanChain") s ≡ true → chain_at text s ≡ Some c → FitShape c.decl n → Out cs ns (at + length (bytes_in front)) rest
          → Out (c ∷ cs) (n ∷ ns) at (front ++ rest)
      chain c cs n ns has is fit more =
          let new = declared_chain c.decl n in
          let row = chain_row marks n text s c is fit at (bytes_in rest ++ z) front front_laid front_is one item.closed in
          let both : Row (λ r. ChainFact s new r × AreSteps true true r) at front (chain_edits marks c.decl n) = record { made = row.made; ends = row.ends; is = row.is; fact = λ to. (row.fact to, (row.is to).steps) } in
          rows_more (λ r. ChainFact s new r × AreSteps true true r) (Counted (declared (decls_of cs) ns)) (Counted (declared (decls_of (c ∷ cs)) (n ∷ ns))) at front rest (chain_edits marks c.decl n) (head_edits marks (decls_of cs) ns)
          (λ r rows k more. subst (λ (b : Bool). AreItems text (new ∷ declared (decls_of cs) ns) (cond b (r ∷ counted rows) (counted rows))) (sym (ap not (ap is_empty k.0.0 ∙ not_empty has)))
          (inr (record {
            new = new;
            left = declared (decls_of cs) ns;
            is = refl;
            steps = k.1;
            has = ap (has_word (codes "ScanChain")) k.0.0 ∙ has;
            chain = c;
            was = ap (chain_at text) k.0.0 ∙ is;
            fits = fits_new c.decl n;
            turned = k.0.1;
            more = more;
          }))) both more

      chain_by : (o : Option ReadChain) (tail cs : List ReadChain) (ns : List NewChain) → has_word (codes "ScanChain") s ≡ true → chain_at text s ≡ o → is_some o ≡ true
          → listed o ++ tail ≡ cs → AllFit (decls_of cs) ns → ((cs : List ReadChain) (ns : List NewChain) → tail ≡ cs → AllFit (decls_of cs) ns → Out cs ns (at + length (bytes_in front)) rest) → Out cs ns at (front ++ rest)
      chain_by None tail cs ns has is ok e fits more = absurd cc
      chain_by (Some c) tail [] ns has is ok e fits more = absurd cc
      chain_by (Some c) tail (d ∷ cs) [] has is ok e fits more = absurd fits
      chain_by (Some c) tail (d ∷ cs) (n ∷ ns) has is ok e fits more =
          let first : c ≡ d = (let r = e in cc) in
          let behind : tail ≡ cs = (let r = e in cc) in
          chain d cs n ns has (is ∙ ap Some first) fits.0 (more cs ns behind fits.1)

    pub item_rows : (ss : List (List Token)) (at : ℕ) (z : List ℕ) (ps : Pieces) (cs : List ReadChain) (ns : List NewChain) → AreLaid z ps → AreCut ss (laid at ps) → Each (IsItem text) ss → flat_map (chain_in text) ss ≡ cs → AllFit (decls_of cs) ns → Out cs ns at ps
    item_rows [] at z ps [] [] are cut each e fits = rows_none (Counted []) at ps (no_tokens at ps cut) refl
    item_rows [] at z ps [] (n ∷ ns) are cut each e fits = absurd fits
    item_rows [] at z ps (c ∷ cs) ns are cut each e fits = absurd cc
    item_rows (s ∷ ss) at z ps cs ns are cut each e fits =
        let c = piece_cut at ps s cut.rest cut.is in
        let both = subst (AreLaid z) c.is are in
        let tail = flat_map (chain_in text) ss in
        let more : (cs : List ReadChain) (ns : List NewChain) → tail ≡ cs → AllFit (decls_of cs) ns → Out cs ns (at + length (bytes_in c.front)) c.rest
        = λ cs ns e fits. item_rows ss (at + length (bytes_in c.front)) z c.rest cs ns (are_behind z c.front c.rest both) (subst (AreCut ss) (sym c.rest_is) cut.more) each.1 e fits in
        subst (Out cs ns at) (sym c.is) (elim (cases_Bool (has_word (codes "ScanChain") s)) [
          | inl has ↦ chain_by s at z c.front c.rest both c.front_is cut.some cut.one each.0 (chain_at text s) tail cs ns has refl (each.0.chain has) (sym (ap (λ (l : List ReadChain). l ++ tail) (chain_listed s has)) ∙ e) fits more
          | inr apart ↦ other s at z c.front c.rest both c.front_is cut.some cut.one each.0 cs ns apart (more cs ns (sym (ap (λ (l : List ReadChain). l ++ tail) (chain_none s apart)) ∙ e) fits)
        ])

-- ScanStructures, read and written
pub record IsStructures (text : List ℕ) (new : List ScanChainDecl) (tokens : List Token) (s : List Step) : Type 0 where
  pub olds_are : olds s ≡ tokens
  pub items : List (List Step)
  pub old_items : statements_in (olds s) ≡ map olds items
  pub new_items : statements_in (news s) ≡ map news items
  pub are_items : AreItems text new items

no_items : (s : List Token) → in_block s ≡ [] → statements_in s ≡ []
no_items s e = ap body_statements e ∙ ap (λ (l : List (List Token)). filter (λ s. not (is_empty s)) l) no_statements

none_map : (f : List Step → List Token) (rows : List (List Step)) → map f rows ≡ [] → rows ≡ []
none_map f [] e = refl
none_map f (r ∷ rows) e = absurd cc

-- a block whose front and end stay
pub record BlockKept (qs ns : Pieces) : Type 0 where
  pub lead : Pieces
  pub old : Pieces
  pub new : Pieces
  pub last : List ℕ
  pub tail : Pieces
  pub old_is : qs ≡ lead ++ (true, 123 ∷ []) ∷ (old ++ (true, last) ∷ tail)
  pub new_is : ns ≡ lead ++ (true, 123 ∷ []) ∷ (new ++ (true, last) ∷ tail)
  pub none : AreBlank tail
  pub no_brace : (at : ℕ) → NoBrace (laid at lead)

no_brace_at : (ps : Pieces) (a b : ℕ) → NoBrace (laid a ps) → NoBrace (laid b ps)
no_brace_at [] a b n = tt
no_brace_at ((true, w) ∷ ps) a b n = (n.0, no_brace_at ps (a + length w) (b + length w) n.1)
no_brace_at ((false, w) ∷ ps) a b n = no_brace_at ps (a + length w) (b + length w) n

-- ScanStructures made of pieces
pub record StructuresMade (text : List ℕ) (new : List ScanChainDecl) (tokens : List Token) (at : ℕ) (qs : Pieces) (edits : List Edit) : Type 0 where
  pub row : Row (IsStructures text new tokens) at qs edits
  pub kept : (new_pieces row.made.mixes ≡ qs) ⊎ BlockKept qs (new_pieces row.made.mixes)

module _ (marks : Bool) (text : List ℕ) (tokens : List Token) (cs : List ReadChain) (ns : List NewChain) (are_chains : flat_map (chain_in text) (statements_in tokens) ≡ cs) (fits : AllFit (decls_of cs) ns) (sound : item_places text (statements_in tokens) ≡ [])
    (at : ℕ) (z : List ℕ) (qs : Pieces) (are : AreLaid z qs) (tokens_are : laid at qs ≡ tokens) (one : len_in 0 tokens ≡ length tokens) (closed : is_closed tokens ≡ true) where
  abbrev new : List ScanChainDecl
  new = declared (decls_of cs) ns

  abbrev edits : List Edit
  edits = head_edits marks (decls_of cs) ns

  -- without a block
  no_chains : (cs : List ReadChain) (ns : List NewChain) → [] ≡ cs → AllFit (decls_of cs) ns → (declared (decls_of cs) ns ≡ []) × (head_edits marks (decls_of cs) ns ≡ [])
  no_chains [] [] e f = (refl, refl)
  no_chains [] (n ∷ ns) e f = absurd f
  no_chains (c ∷ cs) ns e f = absurd cc

  bare : in_block tokens ≡ [] → StructuresMade text new tokens at qs edits
  bare e =
      let none = no_items tokens e in
      let k = no_chains cs ns (sym (ap (flat_map (chain_in text)) none) ∙ are_chains) fits in
      let row = stays_row (IsStructures text new tokens) at qs (some_laid z qs are) (subst (λ (l : List Token). len_in 0 l ≡ length l) (sym tokens_are) one) (ap is_closed tokens_are ∙ closed)
      (λ s plain is.
      let i = inner_plain s plain in
      let old : statements_in (olds s) ≡ [] = ap statements_in (is ∙ tokens_are) ∙ none in
      let rows = none_map olds i.rows (sym i.old_is ∙ old) in
      record { olds_are = is ∙ tokens_are; items = []; old_items = old; new_items = i.new_is ∙ ap (map news) rows; are_items = k.0 }) in
      subst (StructuresMade text new tokens at qs) (sym k.1) (record { row = row; kept = inl (new_stays qs) })

  of_pieces : (b : BlockCut tokens) → BlockPieces at qs b.lead b.body → StructuresMade text new tokens at qs edits
  of_pieces b p =
      let inside = body_at at p.lead p.body p.last p.tail in
      let whole = p.is in
      let laid_whole = subst (AreLaid z) whole are in
      let all = stil_statements b.body in
      let counting : statements_in tokens ≡ filter (λ s. not (is_empty s)) all = ap body_statements b.inner in
      let items = each_all (IsItem text) (single_item text) all b.body (cut_all b.body) (items_of text (filter (λ s. not (is_empty s)) all) (sym (ap (item_places text) counting) ∙ sound)) in
      let chains : flat_map (chain_in text) all ≡ cs = sym (gather_all (chain_in text) (single_chain text) all b.body (cut_all b.body)) ∙ sym (ap (flat_map (chain_in text)) counting) ∙ are_chains in
      let inner = item_rows text marks all inside (bytes_in ((true, p.last) ∷ p.tail) ++ z) p.body cs ns (body_laid z at p.lead p.body p.last p.tail laid_whole) (subst (AreCut all) (sym p.body_is) (cut_all b.body)) items chains fits in
      let made = block_made at p.lead p.body p.last p.tail edits (Counted text new) inner in
      let here : laid at (block_pieces at p.lead p.body p.last p.tail) ≡ tokens = ap (laid at) (sym whole) ∙ tokens_are in
      let fact : (to : ℕ) → IsStructures text new tokens (steps at to made.mixes)
      = λ to.
      let o = block_opens at p.lead p.body p.last p.tail edits (Counted text new) inner p.none (subst NoBrace (sym p.lead_is) b.none) to in
      let l = inner_law o.lead o.t o.u o.v o.w o.rows o.is_lead o.t_is o.u_is o.each in
      record {
        olds_are = made_tokens at (block_pieces at p.lead p.body p.last p.tail) ([] ++ ([] ++ (edits ++ []))) made to ∙ here;
        items = counted o.rows;
        old_items = ap (λ (s : List Step). statements_in (olds s)) o.is ∙ l.0;
        new_items = ap (λ (s : List Step). statements_in (news s)) o.is ∙ l.1;
        are_items = o.facts;
      } in
      let row = row_of_made at (block_pieces at p.lead p.body p.last p.tail) ([] ++ ([] ++ (edits ++ []))) made (IsStructures text new tokens) (some_laid z (block_pieces at p.lead p.body p.last p.tail) laid_whole)
      (subst (λ (l : List Token). len_in 0 l ≡ length l) (sym here) one) (subst (λ (l : List Token). is_closed l ≡ true) (sym here) closed) fact in
      let kept : BlockKept (block_pieces at p.lead p.body p.last p.tail) (new_pieces made.mixes) = record {
        lead = p.lead;
        old = p.body;
        new = new_pieces inner.made.mixes;
        last = p.last;
        tail = p.tail;
        old_is = refl;
        new_is = block_new at p.lead p.body p.last p.tail edits (Counted text new) inner;
        none = p.none;
        no_brace = λ a. no_brace_at p.lead at a (subst NoBrace (sym p.lead_is) b.none);
      } in
      subst (λ (q : Pieces). StructuresMade text new tokens at q edits) (sym whole)
      (subst (StructuresMade text new tokens at (block_pieces at p.lead p.body p.last p.tail)) (append-nil edits) (record { row = row; kept = inr kept }))

  of_block : BlockCut tokens → StructuresMade text new tokens at qs edits
  of_block b = of_pieces b (subst (λ (l : List Token). (b : BlockCut l) → BlockPieces at qs b.lead b.body) tokens_are (pieces_of at qs) b)

  pub structures_row : StructuresMade text new tokens at qs edits
  structures_row = elim (block_cut tokens) [ inl e ↦ bare e | inr b ↦ of_block b ]
