-- The written text of a head: its statements beside those read, and its tokens.
use Rattle.std.specs.Prelude.{⊤}
use Rattle.std.proofs.Common.{◌≡◌, ℕ, zero, suc, ◌+◌, ◌<◌, ◌≤◌, Bool, true, false, not, cond, inl, inr, List, [], ◌∷◌, ◌++◌, length, map, filter, codes, refl, sym, ap, ◌∙◌, subst, arith}
use Rattle.std.specs.List.{flat_map, list_any, AllByRecursion as Each}
use Rattle.std.proofs.lemmas.Bool.{cases_Bool, true≢false}
use Rattle.std.proofs.lemmas.List.{append-nil}
use Rattle.token_forms.specs.Tokens.{Token}
use Rattle.splice.specs.declared.Edit.{Edit}
use Rattle.splice.specs.Spliced.{spliced, AreRising}
use Rattle.stil_tokens.specs.StilTokens.{tokens_in}
use Rattle.stil_tokens.specs.StilStatements.{stil_statements}
use Rattle.stil_types.specs.declared.head.ScanChainDecl.{ScanChainDecl}
use Rattle.stil_types.specs.declared.head.StilHead.{StilHead}
use Rattle.stil_syntax.specs.Shapes.{is_empty, body_statements}
use Rattle.stil_blocks.specs.declared.chain.ReadChain.{ReadChain}
use Rattle.stil_blocks.specs.Statements.{statements_of, has_word, statements_in}
use Rattle.stil_blocks.specs.Chains.{chain_in, chains_of}
use Rattle.stil_head.specs.Faults.{first_places, statement_faults, syntax_in}
use Rattle.list_laws.specs.Leasts.{place_if}
use Rattle.stil_head.specs.Unsupported.{later_places, unlisted_places, out_length_places, structures_again, unsupported_places}
use Rattle.stil_head.specs.Heads.{IsHead}
use Rattle.head_alike.specs.Steps.{Step, Keep, Anew, olds, news, AreSteps}
use Rattle.head_alike.specs.Heads.{IsKept, StandBeside}
use Rattle.head_alike.specs.Trees.{joined, counted}
use Rattle.head_alike.specs.Erased.{erased_from, erased_statement, head_tokens}
use Rattle.head_alike.proofs.Empties.{no_front, no_back}
use Rattle.head_alike.proofs.Rows.{each_rows}
use Rattle.head_alike.proofs.Statements.{has_same}
use Rattle.head_alike.proofs.Trees.{joined_law, old_joined, new_joined, erased_law}
use Rattle.head_text.specs.Mixes.{bytes_in, AreLaid, laid, Mix, new_pieces, old_pieces, steps, AreTokensBeside}
use Rattle.head_text.specs.Written.{NewChain, head_edits, written_head, declared}
use Rattle.head_text.proofs.Mixes.{tokens_laid, new_stand, mix_law}
use Rattle.head_text.proofs.Ready.{pieces_law}
use Rattle.head_text.proofs.Cutting.{Pieces, AreCut, cut_all}
use Rattle.head_text.proofs.Patches.{was, now, patch_edits, spliced_patches}
use Rattle.head_text.proofs.Makes.{Made, Rows, RowsAt, made_rises}
use Rattle.head_text.proofs.Blocks.{no_word}
use Rattle.head_text.proofs.ItemRows.{AllFit, decls_of, IsStructures}
use Rattle.head_text.proofs.TopRows.{Once, once_all, TheOne, the_one, TopRows, TopParts, TopMade, top_made}

-- what is said of a written text
pub record Stands (text text' : List ℕ) (new : List ScanChainDecl) (edits : List Edit) : Type 0 where
  pub beside : StandBeside text text' new
  pub tokens : head_tokens text' ≡ head_tokens text
  pub rising : AreRising 0 (length text) edits

-- tokens that stay have the same bytes
texts_same : (s : List Step) (b : Bool) → AreSteps false b s → map (λ (t : Token). t.text) (olds s) ≡ map (λ (t : Token). t.text) (news s)
texts_same [] b are = refl
texts_same (Keep t u ∷ s) b are = ap (λ (w : List ℕ). w ∷ map (λ (t : Token). t.text) (olds s)) are.0 ∙ ap (λ (l : List (List ℕ)). u.text ∷ l) (texts_same s _ are.2)
texts_same (Anew t u xs ys c d ∷ s) b are = absurd (true≢false (sym are.0.allowed))

abbrev is_structures : List Token → Bool
is_structures s = has_word (codes "ScanStructures") s

kept_erased : (r : List Step) → IsKept r → erased_statement (olds r) ≡ erased_statement (news r)
kept_erased r k =
    let again : is_structures (news r) ≡ false = sym (has_same false r k.plain (codes "ScanStructures")) ∙ k.other in
    ap (λ (b : Bool). cond b (erased_from true false (olds r)) (map (λ (t : Token). t.text) (olds r))) k.other ∙ texts_same r true k.plain
    ∙ sym (ap (λ (b : Bool). cond b (erased_from true false (news r)) (map (λ (t : Token). t.text) (news r))) again)

structures_erased : (r : List Step) → AreSteps true true r → is_structures (olds r) ≡ true → erased_statement (olds r) ≡ erased_statement (news r)
structures_erased r are has =
    let again : is_structures (news r) ≡ true = sym (has_same true r are (codes "ScanStructures")) ∙ has in
    ap (λ (b : Bool). cond b (erased_from true false (olds r)) (map (λ (t : Token). t.text) (olds r))) has ∙ erased_law true r are
    ∙ sym (ap (λ (b : Bool). cond b (erased_from true false (news r)) (map (λ (t : Token). t.text) (news r))) again)

abbrev old_erased : List (List Step) → List (List ℕ)
old_erased rows = flat_map erased_statement (map olds rows)

abbrev new_erased : List (List Step) → List (List ℕ)
new_erased rows = flat_map erased_statement (map news rows)

all_erased : (rows : List (List Step)) → Each IsKept rows → old_erased rows ≡ new_erased rows
all_erased [] each = refl
all_erased (r ∷ rows) each = ap (λ (l : List (List ℕ)). l ++ old_erased rows) (kept_erased r each.0) ∙ ap (λ (l : List (List ℕ)). erased_statement (news r) ++ l) (all_erased rows each.1)

top_erased : (front : List (List Step)) (s : List Step) (behind : List (List Step)) → Each IsKept front → AreSteps true true s → is_structures (olds s) ≡ true → Each IsKept behind
    → old_erased (front ++ s ∷ behind) ≡ new_erased (front ++ s ∷ behind)
top_erased [] s behind f are has b = ap (λ (l : List (List ℕ)). l ++ old_erased behind) (structures_erased s are has) ∙ ap (λ (l : List (List ℕ)). erased_statement (news s) ++ l) (all_erased behind b)
top_erased (r ∷ front) s behind f are has b =
    ap (λ (l : List (List ℕ)). l ++ old_erased (front ++ s ∷ behind)) (kept_erased r f.0) ∙ ap (λ (l : List (List ℕ)). erased_statement (news r) ++ l) (top_erased front s behind f.1 are has b)

-- ScanStructures counts
counted_one : (b : Bool) (s : List Step) (rows : List (List Step)) → b ≡ true → cond b (s ∷ rows) rows ≡ s ∷ rows
counted_one true s rows e = refl
counted_one false s rows e = absurd cc

counted_if : (b : Bool) (r s : List Step) (front behind rows : List (List Step)) → rows ≡ front ++ s ∷ behind → cond b (r ∷ rows) rows ≡ cond b (r ∷ front) front ++ s ∷ behind
counted_if true r s front behind rows e = ap (λ (l : List (List Step)). r ∷ l) e
counted_if false r s front behind rows e = e

counted_top : (front : List (List Step)) (s : List Step) (behind : List (List Step)) → is_empty (olds s) ≡ false → counted (front ++ s ∷ behind) ≡ counted front ++ s ∷ counted behind
counted_top [] s behind e = counted_one (not (is_empty (olds s))) s (counted behind) (ap not e)
counted_top (r ∷ front) s behind e = counted_if (not (is_empty (olds r))) r s (counted front) (counted behind) (counted (front ++ s ∷ behind)) (counted_top front s behind e)

structures_count : (s : List Token) → is_structures s ≡ true → is_empty s ≡ false
structures_count s has = elim (cases_Bool (is_empty s)) [
  | inl e ↦ absurd (true≢false (sym has ∙ no_word s (codes "ScanStructures") e refl))
  | inr e ↦ e
]

-- side by side
module _ (text text' : List ℕ) (new : List ScanChainDecl) (edits : List Edit) (tokens : List Token) (has : is_structures tokens ≡ true) (s : List Step) (old : tokens_in text ≡ olds s) (new_is : tokens_in text' ≡ news s)
    (r : RowsAt (TopRows text new tokens) s) (rising : AreRising 0 (length text) edits) where
  abbrev t : TopRows text new tokens r.rows
  t = r.facts

  has_here : is_structures (olds t.structures) ≡ true
  has_here = ap is_structures t.said.olds_are ∙ has

  rows_are : counted r.rows ≡ counted t.front ++ t.structures ∷ counted t.behind
  rows_are = ap counted t.is ∙ counted_top t.front t.structures t.behind (structures_count (olds t.structures) has_here)

  old_tokens : tokens_in text ≡ olds (joined r.rows)
  old_tokens = old ∙ ap olds r.is

  new_tokens : tokens_in text' ≡ news (joined r.rows)
  new_tokens = new_is ∙ ap news r.is

  pub stands_by : Stands text text' new edits
  stands_by = record {
    beside = record {
      front = counted t.front;
      structures = t.structures;
      behind = counted t.behind;
      old_is = ap body_statements old_tokens ∙ (joined_law r.rows r.each).0 ∙ ap (map olds) rows_are;
      new_is = ap body_statements new_tokens ∙ (joined_law r.rows r.each).1 ∙ ap (map news) rows_are;
      front_kept = each_rows IsKept t.front t.front_kept;
      behind_kept = each_rows IsKept t.behind t.behind_kept;
      steps = t.steps;
      has = has_here;
      items = t.said.items;
      old_items = t.said.old_items;
      new_items = t.said.new_items;
      are_items = t.said.are_items;
    };
    tokens = ap (λ (ts : List Token). flat_map erased_statement (stil_statements ts)) new_tokens ∙ ap (flat_map erased_statement) (new_joined r.rows r.each)
        ∙ ap new_erased t.is ∙ sym (top_erased t.front t.structures t.behind t.front_kept t.steps has_here t.behind_kept) ∙ sym (ap old_erased t.is)
        ∙ sym (ap (λ (ts : List Token). flat_map erased_statement (stil_statements ts)) old_tokens ∙ ap (flat_map erased_statement) (old_joined r.rows r.each));
    rising = rising;
  }

list_any_of : (b : Bool) (p : ℕ) (xs ys : List ℕ) → xs ++ (ys ++ place_if (not b) p) ≡ [] → b ≡ true
list_any_of true p xs ys e = refl
list_any_of false p xs ys e = absurd (let k = no_back ys (p ∷ []) (no_back xs (ys ++ p ∷ []) e) in cc)

-- ScanStructures stands once
again_none : (text : List ℕ) → unsupported_places text ≡ [] → structures_again (statements_of text) ≡ []
again_none text e =
    no_front (structures_again (statements_of text)) _ (no_back (unlisted_places (statements_of text)) _ (no_back (out_length_places (chains_of text)) _ e))

-- a head with what was made of it
pub record Built (text : List ℕ) (head : StilHead) (ns : List NewChain) : Type 0 where
  pub pieces : Pieces
  pub mixes : List Mix
  pub old_text : bytes_in pieces ≡ text
  pub new_text : bytes_in (new_pieces mixes) ≡ written_head ns head text
  pub are : AreLaid [] pieces
  pub new_are : AreLaid [] (new_pieces mixes)
  pub front : List Pieces
  pub structures : Pieces
  pub behind : List Pieces
  pub parts : TopParts front structures behind pieces mixes
  pub stands : Stands text (written_head ns head text) (declared head.chains ns) (head_edits head.marks head.chains ns)

record BuiltBy (text : List ℕ) (marks : Bool) (decls : List ScanChainDecl) (ns : List NewChain) : Type 0 where
  pieces : Pieces
  mixes : List Mix
  old_text : bytes_in pieces ≡ text
  new_text : bytes_in (new_pieces mixes) ≡ spliced text (head_edits marks decls ns)
  are : AreLaid [] pieces
  new_are : AreLaid [] (new_pieces mixes)
  front : List Pieces
  structures : Pieces
  behind : List Pieces
  parts : TopParts front structures behind pieces mixes
  stands : Stands text (spliced text (head_edits marks decls ns)) (declared decls ns) (head_edits marks decls ns)

pub built : (text : List ℕ) (head : StilHead) (ns : List NewChain) → IsHead text head → AllFit head.chains ns → Built text head ns
built text head ns is fits =
    let ss = statements_of text in
    let cs = chains_of text in
    let faults : syntax_in text ss ≡ [] = is.no_syntax in
    let barred = is.no_unsupported in
    let one = the_one text ss (no_front (flat_map (statement_faults text) ss) _ (no_back (first_places ss) _ faults))
    (list_any_of (list_any is_structures ss) 0 (first_places ss) (flat_map (statement_faults text) ss) faults) (again_none text barred) in
    let p = pieces_law text in
    let tokens : tokens_in text ≡ laid 0 p.pieces = ap tokens_in (sym p.is) ∙ tokens_laid p.pieces p.are in
    let all = stil_statements (tokens_in text) in
    let once = once_all one.structures all (tokens_in text) (cut_all (tokens_in text)) one.once in
    let are : head.chains ≡ decls_of cs = is.chains in
    let own = subst (λ (l : List ScanChainDecl). AllFit l ns) are fits in
    let top = top_made head.marks text one.structures cs ns (sym one.chains) own one.sound one.closed all 0 [] p.pieces p.are (subst (AreCut all) tokens (cut_all (tokens_in text))) once in
    let rows = top.rows in
    let made = rows.made in
    let mixes = made.mixes in
    let mix = mix_law mixes (subst (AreLaid []) (sym made.old) p.are) made.ready in
    let old_text : bytes_in (old_pieces mixes) ≡ text = ap bytes_in made.old ∙ p.is in
    let was_text : was made.patches ≡ text = made.was_is ∙ p.is in
    let edits = head_edits head.marks (decls_of cs) ns in
    let new_text : bytes_in (new_pieces mixes) ≡ spliced text edits =
    sym made.now_is ∙ sym (spliced_patches [] made.patches 0 refl) ∙ ap (λ (l : List ℕ). spliced l (patch_edits 0 made.patches)) was_text ∙ ap (spliced text) made.edits_are in
    let rises : AreRising 0 (length text) edits = subst (λ (n : ℕ). AreRising 0 n edits) (let k = ap length p.is in omega (arith, k)) (made_rises 0 p.pieces edits made) in
    let by : BuiltBy text head.marks (decls_of cs) ns = record {
      pieces = p.pieces;
      mixes = mixes;
      old_text = p.is;
      new_text = new_text;
      are = p.are;
      new_are = new_stand mixes true (subst (AreLaid []) (sym made.old) p.are) made.ready;
      front = top.front;
      structures = top.structures;
      behind = top.behind;
      parts = top.parts;
      stands = stands_by text (spliced text edits) (declared (decls_of cs) ns) edits one.structures one.has (steps 0 0 mixes) (ap tokens_in (sym old_text) ∙ mix.old) (ap tokens_in (sym new_text) ∙ mix.new) (let standing = rows.rows in standing 0) rises;
    } in
    let k = subst (λ (l : List ScanChainDecl). BuiltBy text head.marks l ns) (sym are) by in
    record { pieces = k.pieces; mixes = k.mixes; old_text = k.old_text; new_text = k.new_text; are = k.are; new_are = k.new_are; front = k.front; structures = k.structures; behind = k.behind; parts = k.parts; stands = k.stands }
