-- The names in the lists of cells that a head declares, as they stand before other bytes.
use Rattle.std.specs.Prelude.{⊤}
use Rattle.std.proofs.Common.{◌≡◌, ℕ, zero, suc, ◌+◌, ◌-◌, ◌<◌, ◌≤◌, Bool, true, false, ◌&&◌, not, cond, ◌⊎◌, inl, inr, List, [], ◌∷◌, ◌++◌, length, take, drop, map, filter, codes, Option, Some, None, refl, sym, ap, ◌∙◌, subst, arith, append_assoc, length-append}
use Rattle.std.specs.List.{flat_map, AllByRecursion as Each}
use Rattle.std.proofs.lemmas.List.{append-nil}
use Rattle.std.proofs.lemmas.Option.{same_Some}
use Rattle.base_types.specs.declared.span.Span.{Span}
use Rattle.token_forms.specs.Forms.{put_all}
use Rattle.token_forms.specs.Parsing.{◌>>=◌}
use Rattle.token_forms.specs.Tokens.{Token}
use Rattle.stil_tokens.specs.StilTokens.{tokens_in}
use Rattle.stil_tokens.specs.StilStatements.{stil_statements}
use Rattle.stil_types.specs.declared.head.ScanChainDecl.{ScanChainDecl}
use Rattle.stil_syntax.specs.Shapes.{behind_labels, in_block, is_empty, body_statements}
use Rattle.stil_blocks.specs.declared.cells.CellList.{CellList}
use Rattle.stil_blocks.specs.declared.clause.Clause.{Clause}
use Rattle.stil_blocks.specs.declared.clause.Clause.TheVariants.{Length, In, Out, Inversion, Cells, OutLength, Passed, NoForm}
use Rattle.stil_blocks.specs.declared.chain.ChainParts.{ChainParts}
use Rattle.stil_blocks.specs.declared.chain.ReadChain.{ReadChain}
use Rattle.stil_blocks.specs.Statements.{start_of, is_whole, has_word, statements_of, statements_in}
use Rattle.stil_blocks.specs.Chains.{no_cells, cells_span, put_clause, no_parts, place_in, parts_of, listed, chain_at, chain_in, structure_chains, chains_of, unlabelled_clause, clause_of}
use Rattle.head_alike.specs.Chains.{IsOtherClause}
use Rattle.head_alike.proofs.Clauses.{WordIs, IsLength, IsInversion, IsCells, IsOther, IsBad, word_cases}
use Rattle.head_text.specs.Mixes.{bytes_in, AreLaid, laid, token_of_bytes}
use Rattle.head_text.specs.Written.{name_texts_within, name_texts}
use Rattle.head_text.proofs.Mixes.{bytes_append, are_behind, tokens_laid}
use Rattle.head_text.proofs.Ready.{pieces_law}
use Rattle.head_text.proofs.Lays.{take_front, drop_front}
use Rattle.head_text.proofs.Cutting.{Pieces, AreCut, cut_all, LabelCut, label_cut, PieceCut, piece_cut, OnePiece, one_piece}
use Rattle.head_text.proofs.Singles.{are_front}
use Rattle.head_text.proofs.Shapes.{NameShape, shapes_of}
use Rattle.head_text.proofs.ClauseRows.{CellsCut, cells_cut}
use Rattle.head_text.proofs.Blocks.{BlockCut, block_cut}
use Rattle.head_text.proofs.ChainRows.{ChainIs, chain_is, WholeIs, whole_is, block_statements_none, no_form}
use Rattle.head_text.proofs.ChainEdits.{all_more, all_none}

-- tokens among others, one behind the other
pub record IsInfix (s ts : List Token) : Type 0 where
  pub front : List Token
  pub behind : List Token
  pub is : ts ≡ front ++ (s ++ behind)

infix_more : (a b c : List Token) → IsInfix a b → IsInfix b c → IsInfix a c
infix_more a b c x y = record {
  front = y.front ++ x.front;
  behind = x.behind ++ y.behind;
  is = y.is ∙ ap (λ (l : List Token). y.front ++ (l ++ y.behind)) x.is ∙ ap (λ (l : List Token). y.front ++ l) (append_assoc x.front (a ++ x.behind) y.behind ∙ ap (λ (l : List Token). x.front ++ l) (append_assoc a x.behind y.behind))
      ∙ sym (append_assoc y.front x.front (a ++ (x.behind ++ y.behind)));
}

each_infix : (ss : List (List Token)) (a b : List Token) → IsInfix a b → Each (λ s. IsInfix s a) ss → Each (λ s. IsInfix s b) ss
each_infix [] a b x each = tt
each_infix (s ∷ ss) a b x each = (infix_more s a b each.0 x, each_infix ss a b x each.1)

cut_infix : (ss : List (List Token)) (ts : List Token) → AreCut ss ts → Each (λ s. IsInfix s ts) ss
cut_infix [] ts cut = tt
cut_infix (s ∷ ss) ts cut = (
  record { front = []; behind = cut.rest; is = cut.is },
  each_infix ss cut.rest ts (record { front = s; behind = []; is = cut.is ∙ ap (λ (l : List Token). s ++ l) (sym (append-nil cut.rest)) }) (cut_infix ss cut.rest cut.more),
)

each_cond : {X : Type 0} (P : X → Type 0) (b : Bool) (x : X) (xs : List X) → P x → Each P xs → Each P (cond b (x ∷ xs) xs)
each_cond P true x xs p ps = (p, ps)
each_cond P false x xs p ps = ps

each_filter : (P : List Token → Type 0) (ss : List (List Token)) → Each P ss → Each P (filter (λ s. not (is_empty s)) ss)
each_filter P [] each = tt
each_filter P (s ∷ ss) each = each_cond P (not (is_empty s)) s (filter (λ s. not (is_empty s)) ss) each.0 (each_filter P ss each.1)

body_infix : (ts : List Token) → Each (λ s. IsInfix s ts) (body_statements ts)
body_infix ts = each_filter (λ s. IsInfix s ts) (stil_statements ts) (cut_infix (stil_statements ts) ts (cut_all ts))

block_infix : (s : List Token) → Each (λ r. IsInfix r s) (statements_in s)
block_infix s = elim (block_cut s) [
  | inl e ↦ subst (λ (l : List (List Token)). Each (λ r. IsInfix r s) l) (sym (block_statements_none s e)) tt
  | inr b ↦ (
      let inner : IsInfix b.body s = record { front = b.lead ++ b.brace ∷ []; behind = b.last ∷ []; is = b.is ∙ sym (append_assoc b.lead (b.brace ∷ []) (b.body ++ b.last ∷ [])) } in
      subst (λ (l : List Token). Each (λ r. IsInfix r s) (body_statements l)) (sym b.inner) (each_infix (body_statements b.body) b.body s inner (body_infix b.body)))
]

-- a list of cells by its tokens
pub record CellsAt (tokens : List Token) (at : Span) : Type 0 where
  pub t : Token
  pub cells : List Token
  pub last : Token
  pub among : IsInfix (t ∷ (cells ++ last ∷ [])) tokens
  pub start : at.start ≡ t.end
  pub end : at.end ≡ last.start
  pub semicolon : last.text ≡ 59 ∷ []

abbrev pub HasCells : List Token → Option Span → Type 0
HasCells tokens None = ⊤
HasCells tokens (Some at) = CellsAt tokens at

module _ (tokens s : List Token) (among : IsInfix s tokens) (list : CellList) (at : Span) where
  by_word : (t : Token) (ts : List Token) → behind_labels s ≡ t ∷ ts → (c : Clause) → c ≡ Cells list at → WordIs t ts c → CellsAt tokens at
  by_word t ts behind c is w = elim w [
    | IsLength word v e k ↦ absurd (let r = sym is ∙ k in cc)
    | IsInversion word v e k ↦ absurd (let r = sym is ∙ k in cc)
    | IsCells word v e k ↦ (
        let place : at ≡ cells_span t v.1 = (let r = sym is ∙ k in cc) in
        let cut = cells_cut (length ts) no_cells ts v e in
        let l = label_cut s (t ∷ ts) behind in
        let own : IsInfix (t ∷ (cut.cells ++ cut.last ∷ [])) s = record { front = l.front; behind = []; is = l.is ∙ ap (λ (x : List Token). l.front ++ t ∷ x) (cut.is ∙ sym (append-nil (cut.cells ++ cut.last ∷ []))) } in
        record {
          t = t;
          cells = cut.cells;
          last = cut.last;
          among = infix_more (t ∷ (cut.cells ++ cut.last ∷ [])) s tokens own among;
          start = ap (λ (p : Span). p.start) place;
          end = ap (λ (p : Span). p.end) place ∙ cut.place;
          semicolon = cut.semicolon;
        })
    | IsOther k o ↦ absurd (subst IsOtherClause is o)
    | IsBad k ↦ absurd (let r = sym is ∙ k in cc)
  ]

  by_behind : (ts : List Token) → behind_labels s ≡ ts → unlabelled_clause ts ≡ Cells list at → CellsAt tokens at
  by_behind [] behind is = absurd cc
  by_behind (t ∷ ts) behind is = by_word t ts behind (unlabelled_clause (t ∷ ts)) is (word_cases t ts)

  whole_clause : is_whole s ≡ true → clause_of s ≡ unlabelled_clause (behind_labels s)
  unfolding clause_of
  whole_clause e = ap (λ (b : Bool). cond b (unlabelled_clause (behind_labels s)) NoForm) e

  clause_cells : clause_of s ≡ Cells list at → CellsAt tokens at
  clause_cells is = by (is_whole s) refl
    where
      by : (b : Bool) → is_whole s ≡ b → CellsAt tokens at
      by true e = by_behind (behind_labels s) refl (sym (whole_clause e) ∙ is)
      by false e = absurd (let r = sym (no_form s e) ∙ is in cc)

-- where the cells of a chain come from
abbrev HasClause : CellList × Span → List Clause → Type 0
HasClause v [] = ⊥
HasClause v (c ∷ cs) = (c ≡ Cells v.0 v.1) ⊎ HasClause v cs

module _ (v : CellList × Span) where
  abbrev said : Option (ℕ × Span) → Option (List ℕ) → Option (List ℕ) → Option (Bool × Span) → Option (CellList × Span) → Bool → ChainParts
  said l i o w c b = record { length = l; scan_in = i; scan_out = o; inversion = w; cells = c; out_length = b }

  from : (l : Option (ℕ × Span)) (i o : Option (List ℕ)) (w : Option (Bool × Span)) (c : Option (CellList × Span)) (b : Bool) (d : Clause) (q : ChainParts) → put_clause (said l i o w c b) d ≡ Some q → q.cells ≡ Some v → (c ≡ Some v) ⊎ (d ≡ Cells v.0 v.1)
  from None i o w c b (Length m s) q e f = inl (ap (λ (q : ChainParts). q.cells) (same_Some _ _ e) ∙ f)
  from (Some a) i o w c b (Length m s) q e f = absurd cc
  from l i o None c b (Inversion m s) q e f = inl (ap (λ (q : ChainParts). q.cells) (same_Some _ _ e) ∙ f)
  from l i o (Some a) c b (Inversion m s) q e f = absurd cc
  from l i o w None b (Cells m s) q e f =
      let k : (m, s) ≡ v = same_Some _ _ (ap (λ (q : ChainParts). q.cells) (same_Some _ _ e) ∙ f) in
      inr (ap (λ (p : CellList × Span). Cells p.0 p.1) k)
  from l i o w (Some a) b (Cells m s) q e f = absurd cc
  from l None o w c b (In port) q e f = inl (ap (λ (q : ChainParts). q.cells) (same_Some _ _ e) ∙ f)
  from l (Some a) o w c b (In port) q e f = absurd cc
  from l i None w c b (Out port) q e f = inl (ap (λ (q : ChainParts). q.cells) (same_Some _ _ e) ∙ f)
  from l i (Some a) w c b (Out port) q e f = absurd cc
  from l i o w c b OutLength q e f = inl (ap (λ (q : ChainParts). q.cells) (same_Some _ _ e) ∙ f)
  from l i o w c b Passed q e f = inl (ap (λ (q : ChainParts). q.cells) (same_Some _ _ e) ∙ f)
  from l i o w c b NoForm q e f = absurd cc

  from_all : (cs : List Clause) (p q : ChainParts) → put_all put_clause p cs ≡ Some q → q.cells ≡ Some v → (p.cells ≡ Some v) ⊎ HasClause v cs
  from_all [] p q e f = inl (ap (λ (p : ChainParts). p.cells) (same_Some _ _ (sym (all_none p) ∙ e)) ∙ f)
  from_all (c ∷ cs) p q e f = by (λ p e. from_all cs p q e f) (put_clause p c) refl
    where
      by : ((p : ChainParts) → put_all put_clause p cs ≡ Some q → (p.cells ≡ Some v) ⊎ HasClause v cs) → (o : Option ChainParts) → put_clause p c ≡ o → (p.cells ≡ Some v) ⊎ HasClause v (c ∷ cs)
      by more None g = absurd (let k = sym (all_more p c cs None g) ∙ e in cc)
      by more (Some r) g = elim (more r (sym (all_more p c cs (Some r) g) ∙ e)) [
        | inl k ↦ elim (from p.length p.scan_in p.scan_out p.inversion p.cells p.out_length c r g k) [ inl m ↦ inl m | inr m ↦ inr (inl m) ]
        | inr k ↦ inr (inr k)
      ]

  in_statements : (tokens : List Token) (ss : List (List Token)) → Each (λ s. IsInfix s tokens) ss → HasClause v (map clause_of ss) → CellsAt tokens v.1
  in_statements tokens [] each has = absurd has
  in_statements tokens (s ∷ ss) each has = elim has [
    | inl e ↦ clause_cells tokens s each.0 v.0 v.1 e
    | inr more ↦ in_statements tokens ss each.1 more
  ]

parts_cells : (tokens : List Token) (ss : List (List Token)) → Each (λ s. IsInfix s tokens) ss → (p : ChainParts) (o : Option (CellList × Span)) → p.cells ≡ o → put_all put_clause no_parts (map clause_of ss) ≡ Some p → HasCells tokens (place_in o)
parts_cells tokens ss each p None e f = tt
parts_cells tokens ss each p (Some v) e f = elim (from_all v (map clause_of ss) no_parts p f e) [
  | inl k ↦ absurd (let r = k in cc)
  | inr k ↦ in_statements v tokens ss each k
]

put_is : (ss : List (List Token)) (p : ChainParts) → parts_of ss ≡ Some p → put_all put_clause no_parts (map clause_of ss) ≡ Some p
unfolding parts_of
put_is ss p e = e

module _ (text : List ℕ) (tokens : List Token) where
  abbrev IsRead : ReadChain → Type 0
  IsRead c = HasCells tokens c.decl.cells_at

  chain_cells : (s : List Token) → IsInfix s tokens → (c : ReadChain) → chain_at text s ≡ Some c → IsRead c
  chain_cells s among c is =
      let k = chain_is text s c is in
      let p = k.parts in
      let w = whole_is k.name (start_of s) _ p.length p.scan_in p.scan_out p.inversion p.cells p.out_length c k.whole in
      subst (HasCells tokens) (sym w.cells_at) (parts_cells tokens (statements_in s) (each_infix (statements_in s) s tokens among (block_infix s)) p p.cells refl (put_is (statements_in s) p k.said))

  each_listed : (s : List Token) → IsInfix s tokens → (o : Option ReadChain) → chain_at text s ≡ o → Each IsRead (listed o)
  each_listed s among None e = tt
  each_listed s among (Some c) e = (chain_cells s among c e, tt)

  each_or_none : (b : Bool) (cs : List ReadChain) → Each IsRead cs → Each IsRead (cond b cs [])
  each_or_none true cs each = each
  each_or_none false cs each = tt

  each_in : (s : List Token) → IsInfix s tokens → Each IsRead (chain_in text s)
  unfolding chain_in
  each_in s among = each_or_none (has_word (codes "ScanChain") s) (listed (chain_at text s)) (each_listed s among (chain_at text s) refl)

  each_both : (cs ds : List ReadChain) → Each IsRead cs → Each IsRead ds → Each IsRead (cs ++ ds)
  each_both [] ds p q = q
  each_both (c ∷ cs) ds p q = (p.0, each_both cs ds p.1 q)

  each_flat : (f : List Token → List ReadChain) → ((s : List Token) → IsInfix s tokens → Each IsRead (f s)) → (ss : List (List Token)) → Each (λ s. IsInfix s tokens) ss → Each IsRead (flat_map f ss)
  each_flat f h [] each = tt
  each_flat f h (s ∷ ss) each = each_both (f s) (flat_map f ss) (h s each.0) (each_flat f h ss each.1)

  each_structures : (s : List Token) → IsInfix s tokens → Each IsRead (structure_chains text s)
  unfolding structure_chains
  each_structures s among = each_or_none (has_word (codes "ScanStructures") s) (flat_map (chain_in text) (statements_in s)) (each_flat (chain_in text) each_in (statements_in s) (each_infix (statements_in s) s tokens among (block_infix s)))

pub read_cells : (text : List ℕ) → Each (λ (c : ReadChain). HasCells (tokens_in text) c.decl.cells_at) (chains_of text)
read_cells text = each_flat text (tokens_in text) (structure_chains text) (each_structures text (tokens_in text)) (statements_of text) (body_infix (tokens_in text))

-- the names between a word and a ; of a text
between : (a b rest : List ℕ) (start end : ℕ) → start ≡ length a → end ≡ length a + length b → take (end - start) (drop start (a ++ (b ++ rest))) ≡ b
between a b rest start end e f =
    let n : end - start ≡ length b = omega (arith, e, f) in
    ap (λ (k : ℕ). take k (drop start (a ++ (b ++ rest)))) n ∙ ap (λ (k : ℕ). take (length b) (drop k (a ++ (b ++ rest)))) e ∙ ap (take (length b)) (drop_front a (b ++ rest)) ∙ take_front b rest

pub names_at : (text : List ℕ) (at : Span) → CellsAt (tokens_in text) at → Each NameShape (name_texts text at)
names_at text at k =
    let p = pieces_law text in
    let tokens : laid 0 p.pieces ≡ k.among.front ++ ((k.t ∷ (k.cells ++ k.last ∷ [])) ++ k.among.behind) = sym (ap tokens_in (sym p.is) ∙ tokens_laid p.pieces p.are) ∙ k.among.is in
    let a = piece_cut 0 p.pieces k.among.front ((k.t ∷ (k.cells ++ k.last ∷ [])) ++ k.among.behind) tokens in
    let b = one_piece (0 + length (bytes_in a.front)) a.rest k.t ((k.cells ++ k.last ∷ []) ++ k.among.behind) a.rest_is in
    let from = 0 + length (bytes_in a.front) + length (bytes_in b.blanks) + length b.word in
    let c = piece_cut from b.rest k.cells (k.last ∷ k.among.behind) (b.rest_is ∙ append_assoc k.cells (k.last ∷ []) k.among.behind) in
    let d = one_piece (from + length (bytes_in c.front)) c.rest k.last k.among.behind c.rest_is in
    let lead = a.front ++ (b.blanks ++ (true, b.word) ∷ []) in
    let run = c.front ++ d.blanks in
    let end_word : d.word ≡ 59 ∷ [] = sym (ap (λ (t : Token). t.text) d.token) ∙ k.semicolon in
    let inner : b.rest ≡ run ++ (true, 59 ∷ []) ∷ d.rest =
    c.is ∙ ap (λ (l : Pieces). c.front ++ l) (d.is ∙ ap (λ (w : List ℕ). d.blanks ++ (true, w) ∷ d.rest) end_word) ∙ sym (append_assoc c.front d.blanks ((true, 59 ∷ []) ∷ d.rest)) in
    let whole : p.pieces ≡ lead ++ (run ++ (true, 59 ∷ []) ∷ d.rest) =
    a.is ∙ ap (λ (l : Pieces). a.front ++ l) (b.is ∙ ap (λ (l : Pieces). b.blanks ++ (true, b.word) ∷ l) inner ∙ sym (append_assoc b.blanks ((true, b.word) ∷ []) (run ++ (true, 59 ∷ []) ∷ d.rest)))
    ∙ sym (append_assoc a.front (b.blanks ++ (true, b.word) ∷ []) (run ++ (true, 59 ∷ []) ∷ d.rest)) in
    let are = subst (AreLaid []) whole p.are in
    let run_are : AreLaid (59 ∷ (bytes_in d.rest ++ [])) run = are_front [] run ((true, 59 ∷ []) ∷ d.rest) (are_behind [] lead (run ++ (true, 59 ∷ []) ∷ d.rest) are) in
    let bytes : text ≡ bytes_in lead ++ (bytes_in run ++ 59 ∷ bytes_in d.rest) =
    sym p.is ∙ ap bytes_in whole ∙ bytes_append lead (run ++ (true, 59 ∷ []) ∷ d.rest) ∙ ap (λ (l : List ℕ). bytes_in lead ++ l) (bytes_append run ((true, 59 ∷ []) ∷ d.rest)) in
    let len_lead = ap length (bytes_append a.front (b.blanks ++ (true, b.word) ∷ [])) ∙ length-append (bytes_in a.front) (bytes_in (b.blanks ++ (true, b.word) ∷ [])) in
    let len_word = ap length (bytes_append b.blanks ((true, b.word) ∷ [])) ∙ length-append (bytes_in b.blanks) (b.word ++ []) in
    let len_one = ap length (append-nil b.word) in
    let len_run = ap length (bytes_append c.front d.blanks) ∙ length-append (bytes_in c.front) (bytes_in d.blanks) in
    let t_end : k.t.end ≡ 0 + length (bytes_in a.front) + length (bytes_in b.blanks) + length b.word = ap (λ (t : Token). t.end) b.token in
    let last_start : k.last.start ≡ from + length (bytes_in c.front) + length (bytes_in d.blanks) = ap (λ (t : Token). t.start) d.token in
    let start : at.start ≡ length (bytes_in lead) = (let s = k.start in omega (arith, s, t_end, len_lead, len_word, len_one)) in
    let end : at.end ≡ length (bytes_in lead) + length (bytes_in run) = (let s = k.end in omega (arith, s, last_start, len_lead, len_word, len_one, len_run)) in
    let cut : take (at.end - at.start) (drop at.start text) ≡ bytes_in run = ap (λ (l : List ℕ). take (at.end - at.start) (drop at.start l)) bytes ∙ between (bytes_in lead) (bytes_in run) (59 ∷ bytes_in d.rest) at.start at.end start end in
    subst (λ (l : List ℕ). Each NameShape (name_texts_within (length (tokens_in l)) (tokens_in l))) (sym cut) (shapes_of run 59 (bytes_in d.rest ++ []) run_are)
