-- A ScanChain is read as it is meant.
use Rattle.std.proofs.Common.{◌≡◌, ℕ, zero, suc, Bool, true, false, ◌&&◌, ◌||◌, not, cond, inl, inr, List, [], ◌∷◌, ◌++◌, length, map, codes, is_some, Option, Some, None, refl, sym, ap, ◌∙◌, subst}
use Rattle.std.proofs.lemmas.Bool.{cases_Bool, true≢false}
use Rattle.std.proofs.lemmas.Option.{same_Some}
use Rattle.base_types.specs.declared.span.Span.{Span}
use Rattle.base_types.specs.Lines.{line_at}
use Rattle.base_types.specs.Names.{plain_name}
use Rattle.token_forms.specs.Tokens.{Token}
use Rattle.token_forms.specs.Parsing.{◌>>=◌}
use Rattle.token_forms.specs.Forms.{put_all}
use Rattle.stil_types.specs.declared.head.ScanChainDecl.{ScanChainDecl}
use Rattle.stil_syntax.specs.Names.{name_at}
use Rattle.stil_blocks.specs.declared.cells.CellList.{CellList}
use Rattle.stil_blocks.specs.declared.clause.Clause.{Clause}
use Rattle.stil_blocks.specs.declared.clause.Clause.TheVariants.{Length, In, Out, Inversion, Cells, OutLength, Passed, NoForm}
use Rattle.stil_blocks.specs.declared.chain.ChainParts.{ChainParts}
use Rattle.stil_blocks.specs.declared.chain.ReadChain.{ReadChain}
use Rattle.stil_blocks.specs.Statements.{start_of, is_whole, has_word, behind_word, opens, statements_in}
use Rattle.stil_blocks.specs.Chains.{clause_of, no_parts, put_clause, once, value_of, cell_names, parts_of, whole_chain, block_chain, named_chain, chain_at}
use Rattle.head_alike.specs.Steps.{Step, olds, news, AreSteps}
use Rattle.head_alike.specs.Chains.{IsNewLength, IsNewInversion, IsNewCells, IsTurned, AreTurned, clauses_in, SaysAs, IsNewFor, IsReadAnew}
use Rattle.head_alike.specs.Laws.{ChainLaw}
use Rattle.head_alike.proofs.Names.{Names, NoName, Named, Front, names}
use Rattle.head_alike.proofs.Statements.{whole_same, opens_same, BehindWord, behind_named}

abbrev parts : Option (ℕ × Span) → Option (List ℕ) → Option (List ℕ) → Option (Bool × Span) → Option (CellList × Span) → Bool → ChainParts
parts l i o v c b = record { length = l; scan_in = i; scan_out = o; inversion = v; cells = c; out_length = b }

module _ (new : ScanChainDecl) where
  abbrev LengthIs : Option (ℕ × Span) → Option (ℕ × Span) → Type 0
  LengthIs None None = Unit {0}
  LengthIs (Some a) (Some b) = b.0 ≡ new.length
  LengthIs a b = ⊥

  abbrev InversionIs : Option (Bool × Span) → Option (Bool × Span) → Type 0
  InversionIs None None = Unit {0}
  InversionIs (Some a) (Some b) = new.inversion ≡ Some b.0
  InversionIs a b = ⊥

  abbrev CellsAre : Option (CellList × Span) → Option (CellList × Span) → Type 0
  CellsAre None None = Unit {0}
  CellsAre (Some a) (Some b) = new.cells ≡ Some b.0.names
  CellsAre a b = ⊥

  -- what was said, and what is said anew
  record IsSaid (p q : ChainParts) : Type 0 where
    length : LengthIs p.length q.length
    scan_in : q.scan_in ≡ p.scan_in
    scan_out : q.scan_out ≡ p.scan_out
    inversion : InversionIs p.inversion q.inversion
    cells : CellsAre p.cells q.cells
    out_length : q.out_length ≡ p.out_length

  record Puts (q' : ChainParts) (d : Clause) (r : ChainParts) : Type 0 where
    parts : ChainParts
    is : put_clause q' d ≡ Some parts
    said : IsSaid r parts

  put_length : (l l' : Option (ℕ × Span)) (i o : Option (List ℕ)) (v v' : Option (Bool × Span)) (c c' : Option (CellList × Span)) (b : Bool) (n : ℕ) (at at' : Span) (r : ChainParts)
      → LengthIs l l' → InversionIs v v' → CellsAre c c' → put_clause (parts l i o v c b) (Length n at) ≡ Some r → Puts (parts l' i o v' c' b) (Length new.length at') r
  put_length None None i o v v' c c' b n at at' r x y z e = subst (Puts (parts None i o v' c' b) (Length new.length at')) (same_Some _ _ e)
      (record { parts = parts (Some (new.length, at')) i o v' c' b; is = refl; said = record { length = refl; scan_in = refl; scan_out = refl; inversion = y; cells = z; out_length = refl } })
  put_length None (Some a) i o v v' c c' b n at at' r x y z e = absurd x
  put_length (Some a) l' i o v v' c c' b n at at' r x y z e = absurd cc

  put_inversion : (l l' : Option (ℕ × Span)) (i o : Option (List ℕ)) (v v' : Option (Bool × Span)) (c c' : Option (CellList × Span)) (b : Bool) (n n' : Bool) (at at' : Span) (r : ChainParts)
      → LengthIs l l' → InversionIs v v' → CellsAre c c' → new.inversion ≡ Some n' → put_clause (parts l i o v c b) (Inversion n at) ≡ Some r → Puts (parts l' i o v' c' b) (Inversion n' at') r
  put_inversion l l' i o None None c c' b n n' at at' r x y z m e = subst (Puts (parts l' i o None c' b) (Inversion n' at')) (same_Some _ _ e)
      (record { parts = parts l' i o (Some (n', at')) c' b; is = refl; said = record { length = x; scan_in = refl; scan_out = refl; inversion = m; cells = z; out_length = refl } })
  put_inversion l l' i o None (Some a) c c' b n n' at at' r x y z m e = absurd y
  put_inversion l l' i o (Some a) v' c c' b n n' at at' r x y z m e = absurd cc

  put_cells : (l l' : Option (ℕ × Span)) (i o : Option (List ℕ)) (v v' : Option (Bool × Span)) (c c' : Option (CellList × Span)) (b : Bool) (n n' : CellList) (at at' : Span) (r : ChainParts)
      → LengthIs l l' → InversionIs v v' → CellsAre c c' → new.cells ≡ Some n'.names → put_clause (parts l i o v c b) (Cells n at) ≡ Some r → Puts (parts l' i o v' c' b) (Cells n' at') r
  put_cells l l' i o v v' None None b n n' at at' r x y z m e = subst (Puts (parts l' i o v' None b) (Cells n' at')) (same_Some _ _ e)
      (record { parts = parts l' i o v' (Some (n', at')) b; is = refl; said = record { length = x; scan_in = refl; scan_out = refl; inversion = y; cells = m; out_length = refl } })
  put_cells l l' i o v v' None (Some a) b n n' at at' r x y z m e = absurd z
  put_cells l l' i o v v' (Some a) c' b n n' at at' r x y z m e = absurd cc

  put_in : (l l' : Option (ℕ × Span)) (i o : Option (List ℕ)) (v v' : Option (Bool × Span)) (c c' : Option (CellList × Span)) (b : Bool) (port : List ℕ) (r : ChainParts)
      → LengthIs l l' → InversionIs v v' → CellsAre c c' → put_clause (parts l i o v c b) (In port) ≡ Some r → Puts (parts l' i o v' c' b) (In port) r
  put_in l l' None o v v' c c' b port r x y z e = subst (Puts (parts l' None o v' c' b) (In port)) (same_Some _ _ e)
      (record { parts = parts l' (Some port) o v' c' b; is = refl; said = record { length = x; scan_in = refl; scan_out = refl; inversion = y; cells = z; out_length = refl } })
  put_in l l' (Some a) o v v' c c' b port r x y z e = absurd cc

  put_out : (l l' : Option (ℕ × Span)) (i o : Option (List ℕ)) (v v' : Option (Bool × Span)) (c c' : Option (CellList × Span)) (b : Bool) (port : List ℕ) (r : ChainParts)
      → LengthIs l l' → InversionIs v v' → CellsAre c c' → put_clause (parts l i o v c b) (Out port) ≡ Some r → Puts (parts l' i o v' c' b) (Out port) r
  put_out l l' i None v v' c c' b port r x y z e = subst (Puts (parts l' i None v' c' b) (Out port)) (same_Some _ _ e)
      (record { parts = parts l' i (Some port) v' c' b; is = refl; said = record { length = x; scan_in = refl; scan_out = refl; inversion = y; cells = z; out_length = refl } })
  put_out l l' i (Some a) v v' c c' b port r x y z e = absurd cc

  -- the same ports in both
  put_plain : (p : ChainParts) (l' : Option (ℕ × Span)) (v' : Option (Bool × Span)) (c' : Option (CellList × Span)) (c d : Clause) (r : ChainParts)
      → LengthIs p.length l' → InversionIs p.inversion v' → CellsAre p.cells c' → IsTurned new c d → put_clause p c ≡ Some r → Puts (parts l' p.scan_in p.scan_out v' c' p.out_length) d r
  put_plain p l' v' c' (Length n at) d r x y z t e = subst (λ (d : Clause). Puts (parts l' p.scan_in p.scan_out v' c' p.out_length) d r) (sym t.is)
      (put_length p.length l' p.scan_in p.scan_out p.inversion v' p.cells c' p.out_length n at t.place r x y z e)
  put_plain p l' v' c' (Inversion n at) d r x y z t e = subst (λ (d : Clause). Puts (parts l' p.scan_in p.scan_out v' c' p.out_length) d r) (sym t.is)
      (put_inversion p.length l' p.scan_in p.scan_out p.inversion v' p.cells c' p.out_length n t.bit at t.place r x y z t.meant e)
  put_plain p l' v' c' (Cells n at) d r x y z t e = subst (λ (d : Clause). Puts (parts l' p.scan_in p.scan_out v' c' p.out_length) d r) (sym t.is)
      (put_cells p.length l' p.scan_in p.scan_out p.inversion v' p.cells c' p.out_length n t.list at t.place r x y z t.meant e)
  put_plain p l' v' c' (In port) d r x y z t e = subst (λ (d : Clause). Puts (parts l' p.scan_in p.scan_out v' c' p.out_length) d r) (sym t)
      (put_in p.length l' p.scan_in p.scan_out p.inversion v' p.cells c' p.out_length port r x y z e)
  put_plain p l' v' c' (Out port) d r x y z t e = subst (λ (d : Clause). Puts (parts l' p.scan_in p.scan_out v' c' p.out_length) d r) (sym t)
      (put_out p.length l' p.scan_in p.scan_out p.inversion v' p.cells c' p.out_length port r x y z e)
  put_plain p l' v' c' OutLength d r x y z t e = subst (λ (d : Clause). Puts (parts l' p.scan_in p.scan_out v' c' p.out_length) d r) (sym t)
      (subst (Puts (parts l' p.scan_in p.scan_out v' c' p.out_length) OutLength) (same_Some _ _ e)
      (record { parts = parts l' p.scan_in p.scan_out v' c' true; is = refl; said = record { length = x; scan_in = refl; scan_out = refl; inversion = y; cells = z; out_length = refl } }))
  put_plain p l' v' c' Passed d r x y z t e = subst (λ (d : Clause). Puts (parts l' p.scan_in p.scan_out v' c' p.out_length) d r) (sym t)
      (subst (Puts (parts l' p.scan_in p.scan_out v' c' p.out_length) Passed) (same_Some _ _ e)
      (record { parts = parts l' p.scan_in p.scan_out v' c' p.out_length; is = refl; said = record { length = x; scan_in = refl; scan_out = refl; inversion = y; cells = z; out_length = refl } }))
  put_plain p l' v' c' NoForm d r x y z t e = absurd cc

  put_one : (p q : ChainParts) (c d : Clause) (r : ChainParts) → IsSaid p q → IsTurned new c d → put_clause p c ≡ Some r → Puts q d r
  put_one p q c d r s t e =
      let k = put_plain p q.length q.inversion q.cells c d r s.length s.inversion s.cells t e in
      let same : parts q.length p.scan_in p.scan_out q.inversion q.cells p.out_length ≡ q =
      ap (λ (i : Option (List ℕ)). parts q.length i p.scan_out q.inversion q.cells p.out_length) (sym s.scan_in)
      ∙ ap (λ (o : Option (List ℕ)). parts q.length q.scan_in o q.inversion q.cells p.out_length) (sym s.scan_out)
      ∙ ap (λ (b : Bool). parts q.length q.scan_in q.scan_out q.inversion q.cells b) (sym s.out_length) in
      subst (λ (x : ChainParts). Puts x d r) same k

  record PutsAll (q : ChainParts) (ds : List Clause) (r : ChainParts) : Type 0 where
    parts : ChainParts
    is : put_all put_clause q ds ≡ Some parts
    said : IsSaid r parts

  all_more : (q : ChainParts) (d : Clause) (ds : List Clause) (x : ChainParts) → put_clause q d ≡ Some x → put_all put_clause q (d ∷ ds) ≡ put_all put_clause x ds
  unfolding put_all
  all_more q d ds x e = ap (λ (o : Option ChainParts). o >>= λ t. put_all put_clause t ds) e

  put_more : (q : ChainParts) (d : Clause) (ds : List Clause) (cs : List Clause) (r : ChainParts) (p : ChainParts) (c : Clause) (o : Option ChainParts) → put_clause p c ≡ o → IsSaid p q → IsTurned new c d
      → ((x y : ChainParts) → IsSaid x y → put_all put_clause x cs ≡ Some r → PutsAll y ds r) → (o >>= λ t. put_all put_clause t cs) ≡ Some r → PutsAll q (d ∷ ds) r
  put_more q d ds cs r p c None is s t rest e = absurd cc
  put_more q d ds cs r p c (Some x) is s t rest e =
      let k = put_one p q c d x s t is in
      let l = rest x k.parts k.said e in
      record { parts = l.parts; is = all_more q d ds k.parts k.is ∙ l.is; said = l.said }

  put_each : (cs ds : List Clause) (r : ChainParts) → AreTurned new cs ds → (p q : ChainParts) → IsSaid p q → put_all put_clause p cs ≡ Some r → PutsAll q ds r
  unfolding put_all
  put_each [] [] r t p q s e = record { parts = q; is = refl; said = subst (λ (x : ChainParts). IsSaid x q) (same_Some _ _ e) s }
  put_each [] (d ∷ ds) r t p q s e = absurd t
  put_each (c ∷ cs) [] r t p q s e = absurd t
  put_each (c ∷ cs) (d ∷ ds) r t p q s e = put_more q d ds cs r p c (put_clause p c) refl s t.0 (put_each cs ds r t.1) e

  none_said : IsSaid no_parts no_parts
  none_said = record { length = tt; scan_in = refl; scan_out = refl; inversion = tt; cells = tt; out_length = refl }

  -- the whole chain
  same_inversion : (v v' : Option (Bool × Span)) → InversionIs v v' → is_some new.inversion ≡ is_some (value_of v) → value_of v' ≡ new.inversion
  same_inversion None None x e = sym (none_is new.inversion e)
    where
      none_is : (o : Option Bool) → is_some o ≡ false → o ≡ None
      none_is None e = refl
      none_is (Some b) e = absurd cc
  same_inversion None (Some a) x e = absurd x
  same_inversion (Some a) None x e = absurd x
  same_inversion (Some a) (Some b) x e = sym x

  same_cells : (c c' : Option (CellList × Span)) → CellsAre c c' → is_some new.cells ≡ is_some (cell_names c) → cell_names c' ≡ new.cells
  same_cells None None x e = sym (none_is new.cells e)
    where
      none_is : (o : Option (List (List ℕ))) → is_some o ≡ false → o ≡ None
      none_is None e = refl
      none_is (Some b) e = absurd cc
  same_cells None (Some a) x e = absurd x
  same_cells (Some a) None x e = absurd x
  same_cells (Some a) (Some b) x e = sym x

  record Wholes (name : List ℕ) (place line : ℕ) (q : ChainParts) (old : ReadChain) : Type 0 where
    chain : ReadChain
    is : whole_chain name place line q ≡ Some chain
    says : SaysAs new chain.decl
    out_length : chain.out_length ≡ old.out_length

  wholes : (l l' : Option (ℕ × Span)) (i o : Option (List ℕ)) (v v' : Option (Bool × Span)) (c c' : Option (CellList × Span)) (b : Bool) (name : List ℕ) (place line place' line' : ℕ) (old : ReadChain)
      → LengthIs l l' → InversionIs v v' → CellsAre c c' → whole_chain name place line (parts l i o v c b) ≡ Some old → IsNewFor old.decl new → Wholes name place' line' (parts l' i o v' c' b) old
  wholes None l' i o v v' c c' b name place line place' line' old x y z e n = absurd cc
  wholes (Some a) l' None o v v' c c' b name place line place' line' old x y z e n = absurd cc
  wholes (Some a) l' (Some i) None v v' c c' b name place line place' line' old x y z e n = absurd cc
  wholes (Some a) None (Some i) (Some o) v v' c c' b name place line place' line' old x y z e n = absurd x
  wholes (Some a) (Some a') (Some i) (Some o) v v' c c' b name place line place' line' old x y z e n =
      let is = same_Some _ _ e in
      record {
        chain = _;
        is = refl;
        says = record {
          name = ap (λ (r : ReadChain). r.decl.name) is ∙ sym n.name;
          length = x;
          scan_in = ap (λ (r : ReadChain). r.decl.scan_in) is ∙ sym n.scan_in;
          scan_out = ap (λ (r : ReadChain). r.decl.scan_out) is ∙ sym n.scan_out;
          inversion = same_inversion v v' y (n.inversion ∙ sym (ap (λ (r : ReadChain). is_some r.decl.inversion) is));
          cells = same_cells c c' z (n.cells ∙ sym (ap (λ (r : ReadChain). is_some r.decl.cells) is));
        };
        out_length = ap (λ (r : ReadChain). r.out_length) is;
      }

  whole_again : (p q : ChainParts) (name : List ℕ) (place line place' line' : ℕ) (old : ReadChain) → IsSaid p q → whole_chain name place line p ≡ Some old → IsNewFor old.decl new → Wholes name place' line' q old
  whole_again p q name place line place' line' old s e n =
      let k = wholes p.length q.length p.scan_in p.scan_out p.inversion q.inversion p.cells q.cells p.out_length name place line place' line' old s.length s.inversion s.cells e n in
      let same : parts q.length p.scan_in p.scan_out q.inversion q.cells p.out_length ≡ q =
      ap (λ (i : Option (List ℕ)). parts q.length i p.scan_out q.inversion q.cells p.out_length) (sym s.scan_in)
      ∙ ap (λ (o : Option (List ℕ)). parts q.length q.scan_in o q.inversion q.cells p.out_length) (sym s.scan_out)
      ∙ ap (λ (b : Bool). parts q.length q.scan_in q.scan_out q.inversion q.cells b) (sym s.out_length) in
      subst (λ (x : ChainParts). Wholes name place' line' x old) same k

  -- by the block
  record Blocks (text' name : List ℕ) (s : List Token) (old : ReadChain) : Type 0 where
    chain : ReadChain
    is : block_chain text' name s ≡ Some chain
    says : SaysAs new chain.decl
    out_length : chain.out_length ≡ old.out_length

  blocks_by : (text' name : List ℕ) (s s' : List Token) (place line : ℕ) (old : ReadChain) (o : Option ChainParts) → parts_of (statements_in s) ≡ o → AreTurned new (clauses_in s) (clauses_in s') → IsNewFor old.decl new
      → (o >>= λ p. whole_chain name place line p) ≡ Some old → Blocks text' name s' old
  unfolding parts_of
  blocks_by text' name s s' place line old None is t n e = absurd cc
  blocks_by text' name s s' place line old (Some p) is t n e =
      let k = put_each (clauses_in s) (clauses_in s') p t no_parts no_parts none_said is in
      let w = whole_again p k.parts name place line (start_of s') (line_at text' (start_of s')) old k.said e n in
      record { chain = w.chain; is = ap (λ (o : Option ChainParts). o >>= λ p. whole_chain name (start_of s') (line_at text' (start_of s')) p) k.is ∙ w.is; says = w.says; out_length = w.out_length }

-- from the statement to its block
chain_fine : (text : List ℕ) (s : List Token) (n : List ℕ × List Token) → is_whole s ≡ true → name_at (behind_word s) ≡ Some n → opens n.1 ≡ true → chain_at text s ≡ block_chain text (plain_name n.0) s
unfolding chain_at
chain_fine text s n a b c =
    ap (λ (k : Bool). cond k (named_chain text s (name_at (behind_word s))) None) a ∙ ap (named_chain text s) b ∙ ap (λ (k : Bool). cond k (block_chain text (plain_name n.0) s) None) c

chain_whole : (text : List ℕ) (s : List Token) (old : ReadChain) → chain_at text s ≡ Some old → is_whole s ≡ true
unfolding chain_at
chain_whole text s old e = by (is_whole s) (named_chain text s (name_at (behind_word s))) e
  where
    by : (b : Bool) (o : Option ReadChain) → cond b o None ≡ Some old → b ≡ true
    by true o e = refl
    by false o e = absurd cc

chain_named : (text : List ℕ) (s : List Token) (old : ReadChain) (o : Option (List ℕ × List Token)) → chain_at text s ≡ Some old → name_at (behind_word s) ≡ o → named_chain text s o ≡ Some old
unfolding chain_at
chain_named text s old o e f =
    sym (ap (λ (k : Bool). cond k (named_chain text s (name_at (behind_word s))) None) (chain_whole text s old e) ∙ ap (named_chain text s) f) ∙ e

opens_if : (b : Bool) (o : Option ReadChain) (old : ReadChain) → cond b o None ≡ Some old → b ≡ true
opens_if true o old e = refl
opens_if false o old e = absurd cc

pub chain_law : ChainLaw
chain_law allow text text' s old new are has is_old for_old turned =
    let b = behind_named allow s (codes "ScanChain") refl refl are has in
    let whole = chain_whole text (olds s) old is_old in
    elim (names allow false b.rest b.are) [
      | NoName e f ↦ absurd (let k = chain_named text (olds s) old None is_old (ap name_at b.old ∙ e) in cc)
      | Named x r e f rest short fr cut ↦
          let k = chain_named text (olds s) old (Some (x, olds r)) is_old (ap name_at b.old ∙ e) in
          let opened = opens_if (opens (olds r)) (block_chain text (plain_name x) (olds s)) old k in
          let here = sym (ap (λ (c : Bool). cond c (block_chain text (plain_name x) (olds s)) None) opened) ∙ k in
          let again = blocks_by new text' (plain_name x) (olds s) (news s) (start_of (olds s)) (line_at text (start_of (olds s))) old (parts_of (statements_in (olds s))) refl turned for_old here in
          record {
            chain = again.chain;
            is = chain_fine text' (news s) (x, news r) (sym (whole_same allow true s are) ∙ whole) (ap name_at b.new ∙ f) (sym (opens_same allow false r rest) ∙ opened) ∙ again.is;
            says = again.says;
            out_length = again.out_length;
          }
      | Front t u xs ys c d r is e f ↦ absurd (true≢false (sym is.first))
    ]
