-- The lists of cells that a head declares: where they stand, and the bytes of their names there.
use Rattle.std.specs.Prelude.{⊤}
use Rattle.std.proofs.Common.{◌≡◌, ℕ, ◌+◌, ◌-◌, Bool, true, false, not, cond, ◌⊎◌, inl, inr, List, [], ◌∷◌, ◌++◌, length, take, drop, map, filter, codes, Option, Some, None, refl, sym, ap, ap₂, ◌∙◌, subst, arith, append_assoc, length-append}
use Rattle.std.specs.List.{flat_map, AllByRecursion as Each}
use Rattle.std.proofs.lemmas.List.{append-nil}
use Rattle.std.proofs.lemmas.Option.{same_Some}
use Rattle.base_types.specs.declared.span.Span.{Span}
use Rattle.token_forms.specs.Forms.{put_all}
use Rattle.token_forms.specs.Tokens.{Token}
use Rattle.stil_tokens.specs.StilTokens.{tokens_in}
use Rattle.stil_tokens.specs.StilStatements.{stil_statements}
use Rattle.stil_types.specs.declared.head.ScanChainDecl.{ScanChainDecl}
use Rattle.stil_syntax.specs.Shapes.{behind_labels, is_empty, body_statements}
use Rattle.stil_blocks.specs.declared.cells.CellList.{CellList}
use Rattle.stil_blocks.specs.declared.clause.Clause.{Clause}
use Rattle.stil_blocks.specs.declared.clause.Clause.TheVariants.{Length, In, Out, Inversion, Cells, OutLength, Passed, NoForm}
use Rattle.stil_blocks.specs.declared.chain.ChainParts.{ChainParts}
use Rattle.stil_blocks.specs.declared.chain.ReadChain.{ReadChain}
use Rattle.stil_blocks.specs.Statements.{start_of, is_whole, has_word, statements_of, statements_in}
use Rattle.stil_blocks.specs.Chains.{no_cells, cells_at, cells_span, put_clause, no_parts, cell_names, place_in, parts_of, listed, chain_at, chain_in, structure_chains, chains_of, unlabelled_clause, clause_of}
use Rattle.head_alike.specs.Chains.{IsOtherClause}
use Rattle.head_alike.proofs.Clauses.{WordIs, IsLength, IsInversion, IsCells, IsOther, IsBad, word_cases}
use Rattle.head_text.specs.Mixes.{bytes_in, AreLaid, laid}
use Rattle.head_text.specs.Ready.{AreBlank}
use Rattle.head_text.specs.Written.{name_read, name_texts_within, name_texts}
use Rattle.head_text.proofs.Mixes.{bytes_append, laid_append, are_behind, tokens_laid}
use Rattle.head_text.proofs.Ready.{pieces_law}
use Rattle.head_text.proofs.Lays.{take_front, drop_front}
use Rattle.head_text.proofs.Cutting.{Pieces, AreCut, cut_all, label_cut, piece_cut, one_piece, blank_laid}
use Rattle.head_text.proofs.Singles.{are_front, laid_alone}
use Rattle.head_text.proofs.ClauseRows.{cells_cut}
use Rattle.head_text.proofs.Blocks.{block_cut}
use Rattle.head_text.proofs.ChainRows.{chain_is, whole_is, block_statements_none, no_form}
use Rattle.head_text.proofs.ChainEdits.{all_more, all_none}
use Rattle.head_text.proofs.ReadNames.{IsInfix}
use Rattle.head_writer.specs.Fits.{AreNamesAt}
use Rattle.head_writer.proofs.fits.NameTexts.{moved, laid_moved, fine_pieces, names_are}

infix_more : (a b c : List Token) → IsInfix a b → IsInfix b c → IsInfix a c
infix_more a b c x y = record {
  front = y.front ++ x.front;
  behind = x.behind ++ y.behind;
  is = y.is ∙ ap (λ (l : List Token). y.front ++ (l ++ y.behind)) x.is ∙ ap (λ (l : List Token). y.front ++ l) (append_assoc x.front (a ++ x.behind) y.behind ∙ ap (λ (l : List Token). x.front ++ l) (append_assoc a x.behind y.behind))
      ∙ sym (append_assoc y.front x.front (a ++ (x.behind ++ y.behind)));
}

each_infix : (ss : List (List Token)) (a b : List Token) → IsInfix a b → Each (λ s. IsInfix s a) ss → Each (λ s. IsInfix s b) ss
each_infix [] a b x each = tt
each_infix (s ∷ ss) a b x each = (infix_more s a b each.0 x, each_infix ss a b x each.1)

cut_infix : (ss : List (List Token)) (ts : List Token) → AreCut ss ts → Each (λ s. IsInfix s ts) ss
cut_infix [] ts cut = tt
cut_infix (s ∷ ss) ts cut = (
  record { front = []; behind = cut.rest; is = cut.is },
  each_infix ss cut.rest ts (record { front = s; behind = []; is = cut.is ∙ ap (λ (l : List Token). s ++ l) (sym (append-nil cut.rest)) }) (cut_infix ss cut.rest cut.more),
)

each_cond : {X : Type 0} (P : X → Type 0) (b : Bool) (x : X) (xs : List X) → P x → Each P xs → Each P (cond b (x ∷ xs) xs)
each_cond P true x xs p ps = (p, ps)
each_cond P false x xs p ps = ps

each_filter : (P : List Token → Type 0) (ss : List (List Token)) → Each P ss → Each P (filter (λ s. not (is_empty s)) ss)
each_filter P [] each = tt
each_filter P (s ∷ ss) each = each_cond P (not (is_empty s)) s (filter (λ s. not (is_empty s)) ss) each.0 (each_filter P ss each.1)

body_infix : (ts : List Token) → Each (λ s. IsInfix s ts) (body_statements ts)
body_infix ts = each_filter (λ s. IsInfix s ts) (stil_statements ts) (cut_infix (stil_statements ts) ts (cut_all ts))

block_infix : (s : List Token) → Each (λ r. IsInfix r s) (statements_in s)
block_infix s = elim (block_cut s) [
  | inl e ↦ subst (λ (l : List (List Token)). Each (λ r. IsInfix r s) l) (sym (block_statements_none s e)) tt
  | inr b ↦ (
      let inner : IsInfix b.body s = record { front = b.lead ++ b.brace ∷ []; behind = b.last ∷ []; is = b.is ∙ sym (append_assoc b.lead (b.brace ∷ []) (b.body ++ b.last ∷ [])) } in
      subst (λ (l : List Token). Each (λ r. IsInfix r s) (body_statements l)) (sym b.inner) (each_infix (body_statements b.body) b.body s inner (body_infix b.body)))
]

-- a list of cells by its tokens
record ListAt (tokens : List Token) (list : CellList) (at : Span) : Type 0 where
  t : Token
  cells : List Token
  last : Token
  among : IsInfix (t ∷ (cells ++ last ∷ [])) tokens
  start : at.start ≡ t.end
  end : at.end ≡ last.start
  semicolon : last.text ≡ 59 ∷ []
  said : cells_at (cells ++ last ∷ []) ≡ Some (list, last.start)

abbrev HasList : List Token → Option (CellList × Span) → Type 0
HasList tokens None = ⊤
HasList tokens (Some v) = ListAt tokens v.0 v.1

module _ (tokens s : List Token) (among : IsInfix s tokens) (list : CellList) (at : Span) where
  by_word : (t : Token) (ts : List Token) → behind_labels s ≡ t ∷ ts → (c : Clause) → c ≡ Cells list at → WordIs t ts c → ListAt tokens list at
  by_word t ts behind c is w = elim w [
    | IsLength word v e k ↦ absurd (let r = sym is ∙ k in cc)
    | IsInversion word v e k ↦ absurd (let r = sym is ∙ k in cc)
    | IsCells word v e k ↦ (
        let place : at ≡ cells_span t v.1 = (let r = sym is ∙ k in cc) in
        let names : list ≡ v.0 = (let r = sym is ∙ k in cc) in
        let cut = cells_cut (length ts) no_cells ts v e in
        let l = label_cut s (t ∷ ts) behind in
        let own : IsInfix (t ∷ (cut.cells ++ cut.last ∷ [])) s = record { front = l.front; behind = []; is = l.is ∙ ap (λ (x : List Token). l.front ++ t ∷ x) (cut.is ∙ sym (append-nil (cut.cells ++ cut.last ∷ []))) } in
        record {
          t = t;
          cells = cut.cells;
          last = cut.last;
          among = infix_more (t ∷ (cut.cells ++ cut.last ∷ [])) s tokens own among;
          start = ap (λ (p : Span). p.start) place;
          end = ap (λ (p : Span). p.end) place ∙ cut.place;
          semicolon = cut.semicolon;
          said = ap cells_at (sym cut.is) ∙ e ∙ ap₂ (λ (l : CellList) (n : ℕ). Some (l, n)) (sym names) cut.place;
        })
    | IsOther k o ↦ absurd (subst IsOtherClause is o)
    | IsBad k ↦ absurd (let r = sym is ∙ k in cc)
  ]

  by_behind : (ts : List Token) → behind_labels s ≡ ts → unlabelled_clause ts ≡ Cells list at → ListAt tokens list at
  by_behind [] behind is = absurd cc
  by_behind (t ∷ ts) behind is = by_word t ts behind (unlabelled_clause (t ∷ ts)) is (word_cases t ts)

  whole_clause : is_whole s ≡ true → clause_of s ≡ unlabelled_clause (behind_labels s)
  unfolding clause_of
  whole_clause e = ap (λ (b : Bool). cond b (unlabelled_clause (behind_labels s)) NoForm) e

  clause_cells : clause_of s ≡ Cells list at → ListAt tokens list at
  clause_cells is = by (is_whole s) refl
    where
      by : (b : Bool) → is_whole s ≡ b → ListAt tokens list at
      by true e = by_behind (behind_labels s) refl (sym (whole_clause e) ∙ is)
      by false e = absurd (let r = sym (no_form s e) ∙ is in cc)

-- where the cells of a chain come from
abbrev HasClause : CellList × Span → List Clause → Type 0
HasClause v [] = ⊥
HasClause v (c ∷ cs) = (c ≡ Cells v.0 v.1) ⊎ HasClause v cs

module _ (v : CellList × Span) where
  abbrev said : Option (ℕ × Span) → Option (List ℕ) → Option (List ℕ) → Option (Bool × Span) → Option (CellList × Span) → Bool → ChainParts
  said l i o w c b = record { length = l; scan_in = i; scan_out = o; inversion = w; cells = c; out_length = b }

  from : (l : Option (ℕ × Span)) (i o : Option (List ℕ)) (w : Option (Bool × Span)) (c : Option (CellList × Span)) (b : Bool) (d : Clause) (q : ChainParts) → put_clause (said l i o w c b) d ≡ Some q → q.cells ≡ Some v → (c ≡ Some v) ⊎ (d ≡ Cells v.0 v.1)
  from None i o w c b (Length m s) q e f = inl (ap (λ (q : ChainParts). q.cells) (same_Some _ _ e) ∙ f)
  from (Some a) i o w c b (Length m s) q e f = absurd cc
  from l i o None c b (Inversion m s) q e f = inl (ap (λ (q : ChainParts). q.cells) (same_Some _ _ e) ∙ f)
  from l i o (Some a) c b (Inversion m s) q e f = absurd cc
  from l i o w None b (Cells m s) q e f =
      let k : (m, s) ≡ v = same_Some _ _ (ap (λ (q : ChainParts). q.cells) (same_Some _ _ e) ∙ f) in
      inr (ap (λ (p : CellList × Span). Cells p.0 p.1) k)
  from l i o w (Some a) b (Cells m s) q e f = absurd cc
  from l None o w c b (In port) q e f = inl (ap (λ (q : ChainParts). q.cells) (same_Some _ _ e) ∙ f)
  from l (Some a) o w c b (In port) q e f = absurd cc
  from l i None w c b (Out port) q e f = inl (ap (λ (q : ChainParts). q.cells) (same_Some _ _ e) ∙ f)
  from l i (Some a) w c b (Out port) q e f = absurd cc
  from l i o w c b OutLength q e f = inl (ap (λ (q : ChainParts). q.cells) (same_Some _ _ e) ∙ f)
  from l i o w c b Passed q e f = inl (ap (λ (q : ChainParts). q.cells) (same_Some _ _ e) ∙ f)
  from l i o w c b NoForm q e f = absurd cc

  from_all : (cs : List Clause) (p q : ChainParts) → put_all put_clause p cs ≡ Some q → q.cells ≡ Some v → (p.cells ≡ Some v) ⊎ HasClause v cs
  from_all [] p q e f = inl (ap (λ (p : ChainParts). p.cells) (same_Some _ _ (sym (all_none p) ∙ e)) ∙ f)
  from_all (c ∷ cs) p q e f = by (λ p e. from_all cs p q e f) (put_clause p c) refl
    where
      by : ((p : ChainParts) → put_all put_clause p cs ≡ Some q → (p.cells ≡ Some v) ⊎ HasClause v cs) → (o : Option ChainParts) → put_clause p c ≡ o → (p.cells ≡ Some v) ⊎ HasClause v (c ∷ cs)
      by more None g = absurd (let k = sym (all_more p c cs None g) ∙ e in cc)
      by more (Some r) g = elim (more r (sym (all_more p c cs (Some r) g) ∙ e)) [
        | inl k ↦ elim (from p.length p.scan_in p.scan_out p.inversion p.cells p.out_length c r g k) [ inl m ↦ inl m | inr m ↦ inr (inl m) ]
        | inr k ↦ inr (inr k)
      ]

  in_statements : (tokens : List Token) (ss : List (List Token)) → Each (λ s. IsInfix s tokens) ss → HasClause v (map clause_of ss) → ListAt tokens v.0 v.1
  in_statements tokens [] each has = absurd has
  in_statements tokens (s ∷ ss) each has = elim has [
    | inl e ↦ clause_cells tokens s each.0 v.0 v.1 e
    | inr more ↦ in_statements tokens ss each.1 more
  ]

parts_cells : (tokens : List Token) (ss : List (List Token)) → Each (λ s. IsInfix s tokens) ss → (p : ChainParts) (o : Option (CellList × Span)) → p.cells ≡ o → put_all put_clause no_parts (map clause_of ss) ≡ Some p → HasList tokens o
parts_cells tokens ss each p None e f = tt
parts_cells tokens ss each p (Some v) e f = elim (from_all v (map clause_of ss) no_parts p f e) [
  | inl k ↦ absurd (let r = k in cc)
  | inr k ↦ in_statements v tokens ss each k
]

put_is : (ss : List (List Token)) (p : ChainParts) → parts_of ss ≡ Some p → put_all put_clause no_parts (map clause_of ss) ≡ Some p
unfolding parts_of
put_is ss p e = e

-- the list of a chain
record HasOwnList (tokens : List Token) (c : ReadChain) : Type 0 where
  list : Option (CellList × Span)
  names : c.decl.cells ≡ cell_names list
  place : c.decl.cells_at ≡ place_in list
  has : HasList tokens list

module _ (text : List ℕ) (tokens : List Token) where
  abbrev IsRead : ReadChain → Type 0
  IsRead c = HasOwnList tokens c

  chain_cells : (s : List Token) → IsInfix s tokens → (c : ReadChain) → chain_at text s ≡ Some c → IsRead c
  chain_cells s among c is =
      let k = chain_is text s c is in
      let p = k.parts in
      let w = whole_is k.name (start_of s) _ p.length p.scan_in p.scan_out p.inversion p.cells p.out_length c k.whole in
      record {
        list = p.cells;
        names = w.cells;
        place = w.cells_at;
        has = parts_cells tokens (statements_in s) (each_infix (statements_in s) s tokens among (block_infix s)) p p.cells refl (put_is (statements_in s) p k.said);
      }

  each_listed : (s : List Token) → IsInfix s tokens → (o : Option ReadChain) → chain_at text s ≡ o → Each IsRead (listed o)
  each_listed s among None e = tt
  each_listed s among (Some c) e = (chain_cells s among c e, tt)

  each_or_none : (b : Bool) (cs : List ReadChain) → Each IsRead cs → Each IsRead (cond b cs [])
  each_or_none true cs each = each
  each_or_none false cs each = tt

  each_in : (s : List Token) → IsInfix s tokens → Each IsRead (chain_in text s)
  unfolding chain_in
  each_in s among = each_or_none (has_word (codes "ScanChain") s) (listed (chain_at text s)) (each_listed s among (chain_at text s) refl)

  each_both : (cs ds : List ReadChain) → Each IsRead cs → Each IsRead ds → Each IsRead (cs ++ ds)
  each_both [] ds p q = q
  each_both (c ∷ cs) ds p q = (p.0, each_both cs ds p.1 q)

  each_flat : (f : List Token → List ReadChain) → ((s : List Token) → IsInfix s tokens → Each IsRead (f s)) → (ss : List (List Token)) → Each (λ s. IsInfix s tokens) ss → Each IsRead (flat_map f ss)
  each_flat f h [] each = tt
  each_flat f h (s ∷ ss) each = each_both (f s) (flat_map f ss) (h s each.0) (each_flat f h ss each.1)

  each_structures : (s : List Token) → IsInfix s tokens → Each IsRead (structure_chains text s)
  unfolding structure_chains
  each_structures s among = each_or_none (has_word (codes "ScanStructures") s) (flat_map (chain_in text) (statements_in s)) (each_flat (chain_in text) each_in (statements_in s) (each_infix (statements_in s) s tokens among (block_infix s)))

read_cells : (text : List ℕ) → Each (HasOwnList (tokens_in text)) (chains_of text)
read_cells text = each_flat text (tokens_in text) (structure_chains text) (each_structures text (tokens_in text)) (statements_of text) (body_infix (tokens_in text))

-- the bytes between a word and a ; of a text
between : (a b rest : List ℕ) (start end : ℕ) → start ≡ length a → end ≡ length a + length b → take (end - start) (drop start (a ++ (b ++ rest))) ≡ b
between a b rest start end e f =
    let n : end - start ≡ length b = omega (arith, e, f) in
    ap (λ (k : ℕ). take k (drop start (a ++ (b ++ rest)))) n ∙ ap (λ (k : ℕ). take (length b) (drop k (a ++ (b ++ rest)))) e ∙ ap (take (length b)) (drop_front a (b ++ rest)) ∙ take_front b rest

-- the bytes of a list as pieces, and its cells as their tokens
record RunAt (text : List ℕ) (list : CellList) (at : Span) : Type 0 where
  run : Pieces
  behind : List ℕ
  are : AreLaid (59 ∷ behind) run
  bytes : take (at.end - at.start) (drop at.start text) ≡ bytes_in run
  from : ℕ
  last : Token
  semicolon : last.text ≡ 59 ∷ []
  said : cells_at (laid from run ++ last ∷ []) ≡ Some (list, last.start)

-- pieces cut behind a word and before a ;
module _ (a blanks c ends tail : Pieces) (w : List ℕ) where
  abbrev lead : Pieces
  lead = a ++ (blanks ++ (true, w) ∷ [])

  abbrev run : Pieces
  run = c ++ ends

  abbrev cut : Pieces
  cut = lead ++ (run ++ (true, 59 ∷ []) ∷ tail)

  cut_twice : (ps r s t : Pieces) (v : List ℕ) → ps ≡ a ++ r → r ≡ blanks ++ (true, w) ∷ s → s ≡ c ++ t → t ≡ ends ++ (true, v) ∷ tail → v ≡ 59 ∷ [] → ps ≡ cut
  cut_twice ps r s t v e f g h semicolon =
      let inner : s ≡ run ++ (true, 59 ∷ []) ∷ tail =
      g ∙ ap (λ (l : Pieces). c ++ l) (h ∙ ap (λ (x : List ℕ). ends ++ (true, x) ∷ tail) semicolon) ∙ sym (append_assoc c ends ((true, 59 ∷ []) ∷ tail)) in
      e ∙ ap (λ (l : Pieces). a ++ l) (f ∙ ap (λ (l : Pieces). blanks ++ (true, w) ∷ l) inner ∙ sym (append_assoc blanks ((true, w) ∷ []) (run ++ (true, 59 ∷ []) ∷ tail)))
      ∙ sym (append_assoc a (blanks ++ (true, w) ∷ []) (run ++ (true, 59 ∷ []) ∷ tail))

  lead_length : length (bytes_in lead) ≡ length (bytes_in a) + length (bytes_in blanks) + length w
  lead_length =
      let all = ap length (bytes_append a (blanks ++ (true, w) ∷ [])) ∙ length-append (bytes_in a) (bytes_in (blanks ++ (true, w) ∷ [])) in
      let word = ap length (bytes_append blanks ((true, w) ∷ [])) ∙ length-append (bytes_in blanks) (w ++ []) in
      let one = ap length (append-nil w) in
      omega (arith, all, word, one)

  run_length : length (bytes_in run) ≡ length (bytes_in c) + length (bytes_in ends)
  run_length = ap length (bytes_append c ends) ∙ length-append (bytes_in c) (bytes_in ends)

  cut_bytes : bytes_in cut ≡ bytes_in lead ++ (bytes_in run ++ 59 ∷ bytes_in tail)
  cut_bytes = bytes_append lead (run ++ (true, 59 ∷ []) ∷ tail) ∙ ap (λ (l : List ℕ). bytes_in lead ++ l) (bytes_append run ((true, 59 ∷ []) ∷ tail))

  cut_at : (text : List ℕ) (list : CellList) (at : Span) (ps : Pieces) (cells : List Token) (last : Token) (from : ℕ) → bytes_in ps ≡ text → AreLaid [] ps → ps ≡ cut
      → laid from c ≡ cells → AreBlank ends → at.start ≡ length (bytes_in a) + length (bytes_in blanks) + length w → at.end ≡ at.start + length (bytes_in c) + length (bytes_in ends)
      → last.text ≡ 59 ∷ [] → cells_at (cells ++ last ∷ []) ≡ Some (list, last.start) → RunAt text list at
  cut_at text list at ps cells last from is are whole own none starts ends_at semicolon said =
      let start : at.start ≡ length (bytes_in lead) = omega (arith, starts, lead_length) in
      let end : at.end ≡ length (bytes_in lead) + length (bytes_in run) = omega (arith, start, ends_at, run_length) in
      let all : text ≡ bytes_in lead ++ (bytes_in run ++ 59 ∷ bytes_in tail) = sym is ∙ ap bytes_in whole ∙ cut_bytes in
      let tokens : laid from run ≡ cells = laid_append from c ends ∙ ap₂ (λ (x y : List Token). x ++ y) own (blank_laid (from + length (bytes_in c)) ends none) ∙ append-nil cells in
      record {
        run = run;
        behind = bytes_in tail ++ [];
        are = are_front [] run ((true, 59 ∷ []) ∷ tail) (are_behind [] lead (run ++ (true, 59 ∷ []) ∷ tail) (subst (AreLaid []) whole are));
        bytes = ap (λ (l : List ℕ). take (at.end - at.start) (drop at.start l)) all ∙ between (bytes_in lead) (bytes_in run) (59 ∷ bytes_in tail) at.start at.end start end;
        from = from;
        last = last;
        semicolon = semicolon;
        said = ap (λ (l : List Token). cells_at (l ++ last ∷ [])) tokens ∙ said;
      }

run_at : (text : List ℕ) (list : CellList) (at : Span) → ListAt (tokens_in text) list at → RunAt text list at
run_at text list at k =
    let p = pieces_law text in
    let tokens : laid 0 p.pieces ≡ k.among.front ++ ((k.t ∷ (k.cells ++ k.last ∷ [])) ++ k.among.behind) = sym (ap tokens_in (sym p.is) ∙ tokens_laid p.pieces p.are) ∙ k.among.is in
    let a = piece_cut 0 p.pieces k.among.front ((k.t ∷ (k.cells ++ k.last ∷ [])) ++ k.among.behind) tokens in
    let b = one_piece (0 + length (bytes_in a.front)) a.rest k.t ((k.cells ++ k.last ∷ []) ++ k.among.behind) a.rest_is in
    let from = 0 + length (bytes_in a.front) + length (bytes_in b.blanks) + length b.word in
    let c = piece_cut from b.rest k.cells (k.last ∷ k.among.behind) (b.rest_is ∙ append_assoc k.cells (k.last ∷ []) k.among.behind) in
    let d = one_piece (from + length (bytes_in c.front)) c.rest k.last k.among.behind c.rest_is in
    let end_word : d.word ≡ 59 ∷ [] = sym (ap (λ (t : Token). t.text) d.token) ∙ k.semicolon in
    let whole = cut_twice a.front b.blanks c.front d.blanks d.rest b.word p.pieces a.rest b.rest c.rest d.word a.is b.is c.is d.is end_word in
    let t_end : k.t.end ≡ 0 + length (bytes_in a.front) + length (bytes_in b.blanks) + length b.word = ap (λ (t : Token). t.end) b.token in
    let last_start : k.last.start ≡ from + length (bytes_in c.front) + length (bytes_in d.blanks) = ap (λ (t : Token). t.start) d.token in
    let start = k.start in
    let end = k.end in
    cut_at a.front b.blanks c.front d.blanks d.rest b.word text list at p.pieces k.cells k.last from p.is p.are whole c.front_is d.none
    (omega (arith, start, t_end)) (omega (arith, start, end, t_end, last_start)) k.semicolon k.said

names_at : (text : List ℕ) (list : CellList) (at : Span) → RunAt text list at → map name_read (name_texts text at) ≡ list.names
names_at text list at r =
    let alone = laid 0 r.run in
    let tokens : tokens_in (bytes_in r.run) ≡ alone = tokens_laid r.run (laid_alone r.run (59 ∷ r.behind) r.are) in
    let texts : name_texts text at ≡ name_texts_within (length alone) alone =
    ap (λ (l : List ℕ). name_texts_within (length (tokens_in l)) (tokens_in l)) r.bytes ∙ ap (λ (ts : List Token). name_texts_within (length ts) ts) tokens in
    let later : laid r.from r.run ≡ map (moved r.from) alone = (let z : r.from ≡ r.from + 0 = omega arith in ap (λ (n : ℕ). laid n r.run) z ∙ laid_moved r.from 0 r.run) in
    let said = sym (ap (λ (l : List Token). cells_at (l ++ r.last ∷ [])) later) ∙ r.said in
    ap (map name_read) texts
    ∙ sym (names_are r.from r.last r.semicolon (length (map (moved r.from) alone ++ r.last ∷ [])) (length alone) no_cells alone (list, r.last.start) (fine_pieces r.run 59 r.behind 0 r.are) (omega arith) said)

module _ (text : List ℕ) where
  abbrev IsNamed : ScanChainDecl → Type 0
  IsNamed c = AreNamesAt text c.cells c.cells_at

  list_named : (list : Option (CellList × Span)) → HasList (tokens_in text) list → AreNamesAt text (cell_names list) (place_in list)
  list_named None has = tt
  list_named (Some v) has = names_at text v.0 v.1 (run_at text v.0 v.1 has)

  each_named : (cs : List ReadChain) → Each (HasOwnList (tokens_in text)) cs → Each IsNamed (map (λ (c : ReadChain). c.decl) cs)
  each_named [] each = tt
  each_named (c ∷ cs) each =
      let r = each.0 in (
        subst (λ (at : Option Span). AreNamesAt text c.decl.cells at) (sym r.place) (subst (λ (names : Option (List (List ℕ))). AreNamesAt text names (place_in r.list)) (sym r.names) (list_named r.list r.has)),
        each_named cs each.1,
      )

-- the names of each chain stand at its place
pub chains_named : (text : List ℕ) → Each (λ (c : ScanChainDecl). AreNamesAt text c.cells c.cells_at) (map (λ (c : ReadChain). c.decl) (chains_of text))
chains_named text = each_named text (chains_of text) (read_cells text)
