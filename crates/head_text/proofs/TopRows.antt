-- The statements of a head as they are written.
use Rattle.std.specs.Prelude.{⊤}
use Rattle.std.proofs.Common.{◌≡◌, ℕ, zero, suc, ◌+◌, ◌-◌, ◌<◌, ◌≤◌, Bool, true, false, ◌&&◌, ◌||◌, not, cond, ◌⊎◌, inl, inr, List, [], ◌∷◌, ◌++◌, length, map, filter, codes, Option, Some, None, refl, sym, ap, ◌∙◌, subst, arith}
use Rattle.std.specs.List.{flat_map, list_any, AllByRecursion as Each}
use Rattle.std.proofs.lemmas.Bool.{cases_Bool, true≢false}
use Rattle.std.proofs.lemmas.List.{append-nil}
use Rattle.token_forms.specs.Tokens.{Token}
use Rattle.splice.specs.declared.Edit.{Edit}
use Rattle.stil_tokens.specs.StilStatements.{is_closed, len_in}
use Rattle.stil_types.specs.declared.head.ScanChainDecl.{ScanChainDecl}
use Rattle.stil_syntax.specs.Shapes.{closes_nothing, is_empty}
use Rattle.stil_blocks.specs.declared.chain.ReadChain.{ReadChain}
use Rattle.stil_blocks.specs.Statements.{start_of, is_whole, is_worded, has_word, statements_in}
use Rattle.stil_blocks.specs.Chains.{chain_in, structure_chains}
use Rattle.list_laws.specs.Leasts.{place_if}
use Rattle.stil_head.specs.Faults.{callee_faults, is_unread, is_read, is_bad, item_places, block_faults, statement_faults}
use Rattle.stil_head.specs.Unsupported.{later_places}
use Rattle.head_alike.specs.Steps.{Step, olds, news, AreSteps}
use Rattle.head_alike.specs.Heads.{IsKept}
use Rattle.head_alike.specs.Trees.{IsStatement}
use Rattle.head_alike.proofs.Empties.{no_front, no_back}
use Rattle.head_alike.proofs.Cuts.{closed_same}
use Rattle.head_alike.proofs.Trees.{one_new}
use Rattle.head_text.specs.Mixes.{bytes_in, AreLaid, laid, Mix, old_pieces, new_pieces, steps}
use Rattle.head_text.specs.Ready.{AreBlank}
use Rattle.head_text.specs.Written.{NewChain, head_edits, declared}
use Rattle.head_text.proofs.Mixes.{are_behind, some_laid, new_laid}
use Rattle.head_text.proofs.Cutting.{Pieces, Tight, AreCut, no_tokens, PieceCut, piece_cut}
use Rattle.head_text.proofs.Singles.{are_front}
use Rattle.head_text.proofs.Makes.{stays, Made, Row, Rows, rows_none, rows_more, stays_row}
use Rattle.head_text.proofs.Blocks.{empty_closed, empty_word, each_all, EmptyIs, empty_is}
use Rattle.head_text.proofs.ItemRows.{AllFit, decls_of, IsStructures, BlockKept, StructuresMade, structures_row}

abbrev is_structures : List Token → Bool
is_structures s = has_word (codes "ScanStructures") s

-- another statement than ScanStructures
abbrev Kept : List Token → Type 0
Kept s = (is_closed s ≡ true) × (is_structures s ≡ false)

kept_single : (t : Token) → t.text ≡ 59 ∷ [] → Kept (t ∷ [])
kept_single t e = (empty_closed t e, empty_word t (codes "ScanStructures") e refl)

-- this statement once, and else others
abbrev pub Once : List Token → List (List Token) → Type 0
Once structures [] = ⊥
Once structures (s ∷ ss) = ((s ≡ structures) × Each Kept ss) ⊎ (Kept s × Once structures ss)

module _ (structures : List Token) where
  once_by : (b : Bool) (s : List Token) (ss : List (List Token)) (ts : List Token) → is_empty s ≡ b → 0 < length s → len_in 0 s ≡ length s → AreCut ss ts → (Once structures (filter (λ s. not (is_empty s)) ss) → Once structures ss)
      → Once structures (cond (not b) (s ∷ filter (λ s. not (is_empty s)) ss) (filter (λ s. not (is_empty s)) ss)) → Once structures (s ∷ ss)
  once_by true s ss ts e some one cut more once = inr ((let k = empty_is s some one e in subst Kept (sym k.is) (kept_single k.t k.text)), more once)
  once_by false s ss ts e some one cut more once = elim once [
    | inl k ↦ inl (k.0, each_all Kept kept_single ss ts cut k.1)
    | inr k ↦ inr (k.0, more k.1)
  ]

  pub once_all : (ss : List (List Token)) (ts : List Token) → AreCut ss ts → Once structures (filter (λ s. not (is_empty s)) ss) → Once structures ss
  once_all [] ts cut once = once
  once_all (s ∷ ss) ts cut once = once_by (is_empty s) s ss cut.rest refl cut.some cut.one cut.more (λ o. once_all ss cut.rest cut.more o) once

-- what the faults of a statement say where there are none
module _ (text : List ℕ) (s : List Token) where
  by_bad : (b : Bool) (p : ℕ) (xs : List ℕ) → cond b (p ∷ []) xs ≡ [] → (b ≡ false) × (xs ≡ [])
  by_bad true p xs e = absurd cc
  by_bad false p xs e = (refl, e)

  left_false : (a b : Bool) → (a || b) ≡ false → a ≡ false
  left_false true b e = absurd cc
  left_false false b e = refl

  not_false : (a b : Bool) → not (a && b) ≡ false → a ≡ true
  not_false true b e = refl
  not_false false b e = absurd cc

  left_true : (a b : Bool) → (a && b) ≡ true → a ≡ true
  left_true true b e = refl
  left_true false b e = absurd cc

  fine : statement_faults text s ≡ [] → (is_bad s ≡ false) × (block_faults text s ≡ [])
  unfolding statement_faults
  fine e = by_bad (is_bad s) (start_of s) (block_faults text s) e

  whole_of : is_bad s ≡ false → is_whole s ≡ true
  unfolding is_bad is_unread
  whole_of e = not_false (is_whole s) (is_worded s) (left_false (is_unread s) _ e)

  closed_of : statement_faults text s ≡ [] → is_closed s ≡ true
  closed_of e = left_true (is_closed s) (not (closes_nothing 0 s)) (whole_of (fine e).0)

  items_sound : is_structures s ≡ true → statement_faults text s ≡ [] → item_places text (statements_in s) ≡ []
  unfolding block_faults
  items_sound has e = sym (ap (λ (b : Bool). cond b (item_places text (statements_in s)) (cond (has_word (codes "Procedures") s || has_word (codes "MacroDefs") s) (flat_map callee_faults (statements_in s)) [])) has) ∙ (fine e).1

  chains_of_structures : is_structures s ≡ true → structure_chains text s ≡ flat_map (chain_in text) (statements_in s)
  unfolding structure_chains
  chains_of_structures has = ap (λ (b : Bool). cond b (flat_map (chain_in text) (statements_in s)) []) has

  no_chains : is_structures s ≡ false → structure_chains text s ≡ []
  unfolding structure_chains
  no_chains e = ap (λ (b : Bool). cond b (flat_map (chain_in text) (statements_in s)) []) e

-- the one ScanStructures
pub record TheOne (text : List ℕ) (ss : List (List Token)) : Type 0 where
  pub structures : List Token
  pub once : Once structures ss
  pub has : is_structures structures ≡ true
  pub closed : is_closed structures ≡ true
  pub sound : item_places text (statements_in structures) ≡ []
  pub chains : flat_map (structure_chains text) ss ≡ flat_map (chain_in text) (statements_in structures)

module _ (text : List ℕ) where
  later_none : (ss : List (List Token)) → flat_map (statement_faults text) ss ≡ [] → later_places is_structures true ss ≡ [] → Each Kept ss × (flat_map (structure_chains text) ss ≡ [])
  later_none [] faults e = (tt, refl)
  later_none (s ∷ ss) faults e =
      let apart : is_structures s ≡ false = by (is_structures s) (no_front (place_if (is_structures s) (start_of s)) (later_places is_structures true ss) e) in
      let more = later_none ss (no_back (statement_faults text s) (flat_map (statement_faults text) ss) faults) (no_back (place_if (is_structures s) (start_of s)) (later_places is_structures true ss) e) in
      (((closed_of text s (no_front (statement_faults text s) (flat_map (statement_faults text) ss) faults), apart), more.0), ap (λ (l : List ReadChain). l ++ flat_map (structure_chains text) ss) (no_chains text s apart) ∙ more.1)
    where
      by : (b : Bool) → place_if b (start_of s) ≡ [] → b ≡ false
      by true e = absurd cc
      by false e = refl

  pub the_one : (ss : List (List Token)) → flat_map (statement_faults text) ss ≡ [] → list_any is_structures ss ≡ true → later_places is_structures false ss ≡ [] → TheOne text ss
  the_one [] faults any later = absurd cc
  the_one (s ∷ ss) faults any later =
      let here = no_front (statement_faults text s) (flat_map (statement_faults text) ss) faults in
      let there = no_back (statement_faults text s) (flat_map (statement_faults text) ss) faults in
      elim (cases_Bool (is_structures s)) [
        | inl has ↦ (
            let rest : later_places is_structures true ss ≡ [] = sym (ap (λ (b : Bool). later_places is_structures b ss) has) ∙ later in
            let k = later_none ss there rest in
            record {
              structures = s;
              once = inl (refl, k.0);
              has = has;
              closed = closed_of text s here;
              sound = items_sound text s has here;
              chains = ap (λ (l : List ReadChain). structure_chains text s ++ l) k.1 ∙ append-nil (structure_chains text s) ∙ chains_of_structures text s has;
            })
        | inr apart ↦ (
            let rest : later_places is_structures false ss ≡ [] = sym (ap (λ (b : Bool). later_places is_structures b ss) apart) ∙ later in
            let k = the_one ss there (sym (ap (λ (b : Bool). b || list_any is_structures ss) apart) ∙ any) rest in
            record {
              structures = k.structures;
              once = inr ((closed_of text s here, apart), k.once);
              has = k.has;
              closed = k.closed;
              sound = k.sound;
              chains = ap (λ (l : List ReadChain). l ++ flat_map (structure_chains text) ss) (no_chains text s apart) ∙ k.chains;
            })
      ]

-- the rows of a head
pub record TopRows (text : List ℕ) (new : List ScanChainDecl) (tokens : List Token) (rows : List (List Step)) : Type 0 where
  pub front : List (List Step)
  pub structures : List Step
  pub behind : List (List Step)
  pub is : rows ≡ front ++ structures ∷ behind
  pub front_kept : Each IsKept front
  pub behind_kept : Each IsKept behind
  pub steps : AreSteps true true structures
  pub said : IsStructures text new tokens structures

abbrev kept_row : (at : ℕ) (z : List ℕ) (qs : Pieces) → AreLaid z qs → len_in 0 (laid at qs) ≡ length (laid at qs) → Kept (laid at qs) → Row IsKept at qs []
kept_row at z qs are one kept = stays_row IsKept at qs (some_laid z qs are) one kept.0 (λ r plain is. record { other = ap is_structures is ∙ kept.1; plain = plain })

-- a statement by its pieces
pub record IsPart (qs : Pieces) : Type 0 where
  pub at : ℕ
  pub one : len_in 0 (laid at qs) ≡ length (laid at qs)
  pub closed : is_closed (laid at qs) ≡ true
  pub some : 0 < length (laid at qs)
  pub tight : Tight qs

-- a statement that stays, and what stands behind it
pub record KeptStep (qs ps : Pieces) (m : List Mix) (More : Pieces → List Mix → Type 0) : Type 0 where
  pub rest : Pieces
  pub left : List Mix
  pub cut : ps ≡ qs ++ rest
  pub is : m ≡ stays qs ++ left
  pub part : IsPart qs
  pub more : More rest left

-- statements that stay, and blanks behind them
abbrev pub KeptParts : List Pieces → Pieces → List Mix → Type 0
KeptParts [] ps m = AreBlank ps × (m ≡ stays ps)
KeptParts (qs ∷ qss) ps m = KeptStep qs ps m (KeptParts qss)

-- ScanStructures, and what stands behind it
pub record StructuresStep (qs ps : Pieces) (m : List Mix) (More : Pieces → List Mix → Type 0) : Type 0 where
  pub rest : Pieces
  pub own : List Mix
  pub left : List Mix
  pub cut : ps ≡ qs ++ rest
  pub is : m ≡ own ++ left
  pub part : IsPart qs
  pub old : old_pieces own ≡ qs
  pub new : (to : ℕ) → (len_in 0 (laid to (new_pieces own)) ≡ length (laid to (new_pieces own))) × (is_closed (laid to (new_pieces own)) ≡ true)
  pub kept : (new_pieces own ≡ qs) ⊎ BlockKept qs (new_pieces own)
  pub more : More rest left

-- and it among others
abbrev pub TopParts : List Pieces → Pieces → List Pieces → Pieces → List Mix → Type 0
TopParts [] structures behind ps m = StructuresStep structures ps m (KeptParts behind)
TopParts (qs ∷ front) structures behind ps m = KeptStep qs ps m (TopParts front structures behind)

record KeptMade (at : ℕ) (ps : Pieces) : Type 0 where
  rows : Rows (Each IsKept) at ps []
  all : List Pieces
  parts : KeptParts all ps rows.made.mixes

pub record TopMade (text : List ℕ) (new : List ScanChainDecl) (tokens : List Token) (at : ℕ) (ps : Pieces) (edits : List Edit) : Type 0 where
  pub rows : Rows (TopRows text new tokens) at ps edits
  pub front : List Pieces
  pub structures : Pieces
  pub behind : List Pieces
  pub parts : TopParts front structures behind ps rows.made.mixes

kept_made : (ss : List (List Token)) (at : ℕ) (z : List ℕ) (ps : Pieces) → AreLaid z ps → AreCut ss (laid at ps) → Each Kept ss → KeptMade at ps
kept_made [] at z ps are cut each = let none = no_tokens at ps cut in record { rows = rows_none (Each IsKept) at ps none tt; all = []; parts = (none, refl) }
kept_made (s ∷ ss) at z ps are cut each =
    let c = piece_cut at ps s cut.rest cut.is in
    let both = subst (AreLaid z) c.is are in
    let front_laid = are_front z c.front c.rest both in
    let one : len_in 0 (laid at c.front) ≡ length (laid at c.front) = subst (λ (l : List Token). len_in 0 l ≡ length l) (sym c.front_is) cut.one in
    let kept = subst Kept (sym c.front_is) each.0 in
    let row = kept_row at (bytes_in c.rest ++ z) c.front front_laid one kept in
    let more = kept_made ss (at + length (bytes_in c.front)) z c.rest (are_behind z c.front c.rest both) (subst (AreCut ss) (sym c.rest_is) cut.more) each.1 in
    subst (KeptMade at) (sym c.is) (record {
      rows = rows_more IsKept (Each IsKept) (Each IsKept) at c.front c.rest [] [] (λ r rows p ps. (p, ps)) row more.rows;
      all = c.front ∷ more.all;
      parts = record { rest = c.rest; left = more.rows.made.mixes; cut = refl; is = refl; part = record { at = at; one = one; closed = kept.0; some = subst (λ (l : List Token). 0 < length l) (sym c.front_is) cut.some; tight = c.tight }; more = more.parts };
    })

new_one : (at : ℕ) (m : List Mix) → ((to : ℕ) → IsStatement (steps at to m)) → (to : ℕ) → (len_in 0 (laid to (new_pieces m)) ≡ length (laid to (new_pieces m))) × (is_closed (laid to (new_pieces m)) ≡ true)
new_one at m is to =
    let k = is to in
    let e = new_laid at to m in (
      subst (λ (l : List Token). len_in 0 l ≡ length l) (sym e) (one_new (steps at to m) k.steps k.one),
      ap is_closed e ∙ sym (closed_same true true false 0 (steps at to m) k.steps) ∙ k.closed,
    )

module _ (marks : Bool) (text : List ℕ) (tokens : List Token) (cs : List ReadChain) (ns : List NewChain) (are_chains : flat_map (chain_in text) (statements_in tokens) ≡ cs) (fits : AllFit (decls_of cs) ns) (sound : item_places text (statements_in tokens) ≡ [])
    (closed : is_closed tokens ≡ true) where
  abbrev new : List ScanChainDecl
  new = declared (decls_of cs) ns

  abbrev edits : List Edit
  edits = head_edits marks (decls_of cs) ns

  pub top_made : (ss : List (List Token)) (at : ℕ) (z : List ℕ) (ps : Pieces) → AreLaid z ps → AreCut ss (laid at ps) → Once tokens ss → TopMade text new tokens at ps edits
  top_made [] at z ps are cut once = absurd once
  top_made (s ∷ ss) at z ps are cut once =
      let c = piece_cut at ps s cut.rest cut.is in
      let both = subst (AreLaid z) c.is are in
      let front_laid = are_front z c.front c.rest both in
      let rest_laid = are_behind z c.front c.rest both in
      let rest_cut = subst (AreCut ss) (sym c.rest_is) cut.more in
      let one_here : len_in 0 (laid at c.front) ≡ length (laid at c.front) = subst (λ (l : List Token). len_in 0 l ≡ length l) (sym c.front_is) cut.one in
      let some_here : 0 < length (laid at c.front) = subst (λ (l : List Token). 0 < length l) (sym c.front_is) cut.some in
      subst (λ (q : Pieces). TopMade text new tokens at q edits) (sym c.is) (elim once [
        | inl k ↦ (
            let made = structures_row marks text tokens cs ns are_chains fits sound at (bytes_in c.rest ++ z) c.front front_laid (c.front_is ∙ k.0) (subst (λ (l : List Token). len_in 0 l ≡ length l) k.0 cut.one) closed in
            let row = made.row in
            let full : Row (λ r. IsStructures text new tokens r × AreSteps true true r) at c.front edits = record { made = row.made; ends = row.ends; is = row.is; fact = λ to. (row.fact to, (row.is to).steps) } in
            let more = kept_made ss (at + length (bytes_in c.front)) z c.rest rest_laid rest_cut k.1 in
            subst (TopMade text new tokens at (c.front ++ c.rest)) (append-nil edits) (record {
              rows = rows_more (λ r. IsStructures text new tokens r × AreSteps true true r) (Each IsKept) (TopRows text new tokens) at c.front c.rest edits []
                  (λ r rows f kept. record { front = []; structures = r; behind = rows; is = refl; front_kept = tt; behind_kept = kept; steps = f.1; said = f.0 }) full more.rows;
              front = [];
              structures = c.front;
              behind = more.all;
              parts = record { rest = c.rest; own = row.made.mixes; left = more.rows.made.mixes; cut = refl; is = refl; part = record { at = at; one = one_here; closed = ap is_closed (c.front_is ∙ k.0) ∙ closed; some = some_here; tight = c.tight }; old = row.made.old; new = new_one at row.made.mixes row.is; kept = made.kept; more = more.parts };
            }))
        | inr k ↦ (
            let kept = subst Kept (sym c.front_is) k.0 in
            let more = top_made ss (at + length (bytes_in c.front)) z c.rest rest_laid rest_cut k.1 in
            record {
              rows = rows_more IsKept (TopRows text new tokens) (TopRows text new tokens) at c.front c.rest [] edits
                  (λ r rows f t. record { front = r ∷ t.front; structures = t.structures; behind = t.behind; is = ap (λ (l : List (List Step)). r ∷ l) t.is; front_kept = (f, t.front_kept); behind_kept = t.behind_kept; steps = t.steps; said = t.said })
                  (kept_row at (bytes_in c.rest ++ z) c.front front_laid one_here kept) more.rows;
              front = c.front ∷ more.front;
              structures = more.structures;
              behind = more.behind;
              parts = record { rest = c.rest; left = more.rows.made.mixes; cut = refl; is = refl; part = record { at = at; one = one_here; closed = kept.0; some = some_here; tight = c.tight }; more = more.parts };
            })
      ])
