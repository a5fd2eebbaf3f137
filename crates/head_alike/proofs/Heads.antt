-- The statements of a head, those written anew beside those read.
use Rattle.std.proofs.Common.{◌≡◌, ℕ, zero, suc, Bool, true, false, ◌&&◌, ◌||◌, not, cond, ◌⊎◌, inl, inr, List, [], ◌∷◌, ◌++◌, map, filter, drop, length, codes, is_some, Option, Some, None, refl, sym, ap, ◌∙◌, subst}
use Rattle.std.specs.List.{flat_map, list_any, AllByRecursion as Each}
use Rattle.std.specs.Str.{bytes_eq}
use Rattle.std.proofs.lemmas.Bool.{true≢false}
use Rattle.std.proofs.lemmas.Slice.Eq.{bytes_eq-Decides}
use Rattle.stil_syntax.specs.Shapes.{behind_labels}
use Rattle.std.proofs.lemmas.List.{map-append, append-nil}
use Rattle.token_forms.specs.Tokens.{Token}
use Rattle.stil_types.specs.declared.head.ScanChainDecl.{ScanChainDecl}
use Rattle.stil_types.specs.declared.head.Callee.{Callee}
use Rattle.stil_types.specs.declared.head.StilHead.{StilHead}
use Rattle.stil_blocks.specs.declared.chain.ReadChain.{ReadChain}
use Rattle.stil_blocks.specs.declared.callee.ReadCallee.{ReadCallee}
use Rattle.stil_blocks.specs.Statements.{statements_of, start_of, begins_word, has_word, behind_word, statements_in}
use Rattle.stil_blocks.specs.Chains.{listed, structure_chains, chains_of, chain_in}
use Rattle.stil_blocks.specs.Callees.{callee_at, block_callees, callees_of, names_within, statement_keywords, keywords_of}
use Rattle.list_laws.specs.Leasts.{place_if}
use Rattle.stil_head.specs.Faults.{ends_or_opens, begins_stil, is_stil, first_places, statement_faults, syntax_in, syntax_places}
use Rattle.stil_head.specs.Twice.{again_in, chain_row, port_rows, callee_row, twice_among, twice_places}
use Rattle.stil_head.specs.Unsupported.{is_unlisted, unlisted_in, unlisted_places, later_places, structures_again, out_length_places, scan_names, is_name_of, callee_places, bodies_places, places_in, unsupported_in, unsupported_places}
use Rattle.stil_head.specs.Heads.{IsHead}
use Rattle.head_alike.specs.Steps.{Step, Keep, Anew, olds, news, AreSteps, starts_behind}
use Rattle.head_alike.specs.Heads.{IsKept, StandBeside, IsHeadAnew}
use Rattle.head_alike.specs.Laws.{HeadLaw}
use Rattle.head_alike.proofs.Statements.{has_same}
use Rattle.head_alike.proofs.Empties.{no_front, no_back, both_none, place_both, more_both, flat_both, any_both, map_both}
use Rattle.head_alike.proofs.Plain.{IsPlain, again, later, Inner, inner_plain, told, callee_same, keywords_steady}
use Rattle.head_alike.proofs.Barred.{callee_places_both, unlisted_same, later_both}
use Rattle.head_alike.proofs.Syntax.{stil_steady, kept_faults}
use Rattle.head_alike.proofs.Items.{one_word, AreRead, StructuresRead, has_again, structures_read, out_both, SameNames, again_both, chain_names, port_names, all_say}

-- tokens that stay may stay where others don't
pub wider : (s : List Step) (b : Bool) → AreSteps false b s → AreSteps true b s
wider [] b are = tt
wider (Keep t u ∷ s) b are = (are.0, are.1, wider s (starts_behind t.text) are.2)
wider (Anew t u xs ys c d ∷ s) b are = absurd (true≢false (sym are.0.allowed))

-- procedures and macros without their places
abbrev bare : List ReadCallee → List Callee
bare cs = map (λ c. c.callee) cs

bare_listed : (o : Option ReadCallee) → bare (listed o) ≡ listed (told o)
bare_listed None = refl
bare_listed (Some c) = refl

bare_flat : (rows : List (List Step)) → Each IsPlain rows → bare (flat_map (λ p. listed (callee_at p)) (map olds rows)) ≡ bare (flat_map (λ p. listed (callee_at p)) (map news rows))
bare_flat [] each = refl
bare_flat (r ∷ rows) each =
    map-append (λ c. c.callee) (listed (callee_at (olds r))) (flat_map (λ p. listed (callee_at p)) (map olds rows))
    ∙ ap (λ (l : List Callee). l ++ bare (flat_map (λ p. listed (callee_at p)) (map olds rows))) (bare_listed (callee_at (olds r)) ∙ ap listed (callee_same r each.0) ∙ sym (bare_listed (callee_at (news r))))
    ∙ ap (λ (l : List Callee). bare (listed (callee_at (news r))) ++ l) (bare_flat rows each.1)
    ∙ sym (map-append (λ c. c.callee) (listed (callee_at (news r))) (flat_map (λ p. listed (callee_at p)) (map news rows)))

bare_if : (b : Bool) (cs : List ReadCallee) → bare (cond b cs []) ≡ cond b (bare cs) []
bare_if true cs = refl
bare_if false cs = refl

kept_callees : (word : List ℕ) (s : List Step) → IsPlain s → bare (block_callees word (olds s)) ≡ bare (block_callees word (news s))
unfolding block_callees
kept_callees word s are =
    let k = inner_plain s are in
    bare_if (has_word word (olds s)) (flat_map (λ p. listed (callee_at p)) (statements_in (olds s)))
    ∙ ap (λ (b : Bool). cond b (bare (flat_map (λ p. listed (callee_at p)) (statements_in (olds s)))) []) (has_same false s are word)
    ∙ ap (λ (l : List Callee). cond (has_word word (news s)) l [])
    (ap (λ (l : List (List Token)). bare (flat_map (λ p. listed (callee_at p)) l)) k.old_is ∙ bare_flat k.rows k.each ∙ sym (ap (λ (l : List (List Token)). bare (flat_map (λ p. listed (callee_at p)) l)) k.new_is))
    ∙ sym (bare_if (has_word word (news s)) (flat_map (λ p. listed (callee_at p)) (statements_in (news s))))

no_callees : (word : List ℕ) (s : List Token) → has_word word s ≡ false → block_callees word s ≡ []
unfolding block_callees
no_callees word s e = ap (λ (b : Bool). cond b (flat_map (λ p. listed (callee_at p)) (statements_in s)) []) e

no_keywords : (s : List Token) → has_word (codes "UserKeywords") s ≡ false → statement_keywords s ≡ []
unfolding statement_keywords
no_keywords s e = ap (λ (b : Bool). cond b (names_within (length (behind_word s)) (behind_word s)) []) e

no_chains : (text : List ℕ) (s : List Token) → has_word (codes "ScanStructures") s ≡ false → structure_chains text s ≡ []
unfolding structure_chains
no_chains text s e = ap (λ (b : Bool). cond b (flat_map (chain_in text) (statements_in s)) []) e

no_places : (f p : List ℕ → Bool) (s : List Token) → has_word (codes "Procedures") s ≡ false → has_word (codes "MacroDefs") s ≡ false → callee_places f p s ≡ []
unfolding callee_places
no_places f p s e g = ap (λ (b : Bool). cond b (bodies_places f p (statements_in s)) []) (ap (λ (b : Bool). b || has_word (codes "MacroDefs") s) e ∙ g)

-- what holds of those that stay and of ScanStructures
abbrev IsRow : List Step → List Step → Type 0
IsRow structures r = IsKept r ⊎ (r ≡ structures)

each_row : (structures : List Step) (front behind : List (List Step)) → Each IsKept front → Each IsKept behind → Each (IsRow structures) (front ++ structures ∷ behind)
each_row structures [] [] a b = (inr refl, tt)
each_row structures [] (r ∷ behind) a b = (inr refl, each_kept structures (r ∷ behind) b)
  where
    each_kept : (structures : List Step) (rows : List (List Step)) → Each IsKept rows → Each (IsRow structures) rows
    each_kept structures [] b = tt
    each_kept structures (r ∷ rows) b = (inl b.0, each_kept structures rows b.1)
each_row structures (r ∷ front) behind a b = (inl a.0, each_row structures front behind a.1 b)

-- the names of scan procedures, by what they are without places
names_of : List Callee → List (List ℕ)
names_of cs = map (λ c. c.name) (filter (λ c. c.scan) cs)

names_step : (b : Bool) (c : ReadCallee) (cs : List ReadCallee) (ds : List Callee) → map {A = ReadCallee} (λ c. c.callee.name) cs ≡ map (λ c. c.name) ds → map (λ c. c.callee.name) (cond b (c ∷ cs) cs) ≡ map (λ c. c.name) (cond b (c.callee ∷ ds) ds)
names_step true c cs ds e = ap (λ (l : List (List ℕ)). c.callee.name ∷ l) e
names_step false c cs ds e = e

names_bare : (cs : List ReadCallee) → scan_names cs ≡ names_of (bare cs)
unfolding names_of
names_bare [] = refl
names_bare (c ∷ cs) = names_step c.callee.scan c (filter (λ c. c.callee.scan) cs) (filter (λ c. c.scan) (bare cs)) (names_bare cs)

bare_names : (cs ds : List ReadCallee) → bare cs ≡ bare ds → SameNames (map callee_row cs) (map callee_row ds)
bare_names [] [] e = tt
bare_names [] (d ∷ ds) e = absurd cc
bare_names (c ∷ cs) [] e = absurd cc
bare_names (c ∷ cs) (d ∷ ds) e = (ap (λ (l : List Callee). head_name l) e, bare_names cs ds (ap (drop 1) e))
  where
    head_name : List Callee → List ℕ
    head_name [] = []
    head_name (c ∷ cs) = c.name

not_stil : (s : List Token) → has_word (codes "ScanStructures") s ≡ true → is_stil s ≡ false
unfolding has_word is_stil
not_stil s has = by (behind_labels s) has
  where
    by : (ts : List Token) → begins_word (codes "ScanStructures") ts ≡ true → begins_stil ts ≡ false
    by [] h = refl
    by (t ∷ []) h = refl
    by (t ∷ u ∷ []) h = refl
    by (t ∷ u ∷ v ∷ ts) h = ap (λ (w : List ℕ). bytes_eq w (codes "STIL") && (bytes_eq u.text (codes "1.0") && ends_or_opens v.text)) ((bytes_eq-Decides t.text (codes "ScanStructures")).0 h)

module _ {X : Type 0} (g : List Token → List X) (f : List Step → List Token) where
  flat_none : (rows : List (List Step)) → Each (λ r. g (f r) ≡ []) rows → flat_map g (map f rows) ≡ []
  flat_none [] each = refl
  flat_none (r ∷ rows) each = both_none (g (f r)) (flat_map g (map f rows)) each.0 (flat_none rows each.1)

  -- all of them stand in one statement
  flat_alone : (front : List (List Step)) (s : List Step) (behind : List (List Step)) → Each (λ r. g (f r) ≡ []) front → Each (λ r. g (f r) ≡ []) behind → flat_map g (map f (front ++ s ∷ behind)) ≡ g (f s)
  flat_alone [] s behind a b = ap (λ (l : List X). g (f s) ++ l) (flat_none behind b) ∙ append-nil (g (f s))
  flat_alone (r ∷ front) s behind a b = ap (λ (l : List X). l ++ flat_map g (map f (front ++ s ∷ behind))) a.0 ∙ flat_alone front s behind a.1 b

  flat_at : (front : List (List Step)) (s : List Step) (behind : List (List Step)) → flat_map g (map f (front ++ s ∷ behind)) ≡ [] → g (f s) ≡ []
  flat_at [] s behind e = no_front (g (f s)) (flat_map g (map f behind)) e
  flat_at (r ∷ front) s behind e = flat_at front s behind (no_back (g (f r)) (flat_map g (map f (front ++ s ∷ behind))) e)

pub each_more : (P Q : List Step → Type 0) → ((r : List Step) → P r → Q r) → (rows : List (List Step)) → Each P rows → Each Q rows
each_more P Q h [] e = tt
each_more P Q h (r ∷ rows) e = (h r e.0, each_more P Q h rows e.1)

drop_rows : (P : List Step → Type 0) (rows : List (List Step)) → Each P rows → Each P (drop 1 rows)
drop_rows P [] e = tt
drop_rows P (r ∷ rows) e = e.1

drop_map : (f : List Step → List Token) (rows : List (List Step)) → drop 1 (map f rows) ≡ map f (drop 1 rows)
drop_map f [] = refl
drop_map f (r ∷ rows) = refl

module _ (text text' : List ℕ) (new : List ScanChainDecl) (b : StandBeside text text' new) where
  abbrev rows : List (List Step)
  rows = b.front ++ b.structures ∷ b.behind

  are_rows : Each (IsRow b.structures) rows
  are_rows = each_row b.structures b.front b.behind b.front_kept b.behind_kept

  row_steps : (r : List Step) → IsRow b.structures r → AreSteps true true r
  row_steps r (inl k) = wider r true k.plain
  row_steps r (inr e) = subst (AreSteps true true) (sym e) b.steps

  all_steps : Each (AreSteps true true) rows
  all_steps = each_more (IsRow b.structures) (AreSteps true true) row_steps rows are_rows

  again_has : has_word (codes "ScanStructures") (news b.structures) ≡ true
  again_has = has_again text text' b.structures b.steps b.has

  -- no fault of form
  first_both : (front : List (List Step)) → Each IsKept front → first_places (map olds (front ++ b.structures ∷ b.behind)) ≡ [] → first_places (map news (front ++ b.structures ∷ b.behind)) ≡ []
  first_both [] kept e = absurd (let k = sym (ap (λ (c : Bool). place_if (not c) (start_of (olds b.structures))) (not_stil (olds b.structures) b.has)) ∙ e in cc)
  first_both (r ∷ front) kept e = place_both (not (is_stil (olds r))) (not (is_stil (news r))) (start_of (olds r)) (start_of (news r)) (ap not (stil_steady r kept.0.plain)) e

  faults_row : (r : List Step) → IsRow b.structures r → statement_faults text (olds r) ≡ [] → statement_faults text' (news r) ≡ []
  faults_row r (inl k) e = kept_faults text text' r k e
  faults_row r (inr q) e = subst (λ (r : List Step). statement_faults text' (news r) ≡ []) (sym q)
      (structures_read text text' b.structures b.steps b.has b.items new b.old_items b.new_items b.are_items (subst (λ (r : List Step). statement_faults text (olds r) ≡ []) q e)).faults

  syntax_both : syntax_in text (map olds rows) ≡ [] → syntax_in text' (map news rows) ≡ []
  syntax_both e =
      more_both (first_places (map olds rows)) _ (first_places (map news rows)) _ (first_both b.front b.front_kept)
      (more_both (flat_map (statement_faults text) (map olds rows)) _ (flat_map (statement_faults text') (map news rows)) _ (flat_both (IsRow b.structures) (statement_faults text) (statement_faults text') faults_row rows are_rows)
      (place_both _ _ 0 0 (ap not (any_both (AreSteps true true) (has_word (codes "ScanStructures")) (λ r are. has_same true r are (codes "ScanStructures")) rows all_steps)))) e

  -- procedures and macros
  module _ (word : List ℕ) (apart : bytes_eq (codes "ScanStructures") word ≡ false) where
    callee_row_same : (r : List Step) → IsRow b.structures r → bare (block_callees word (olds r)) ≡ bare (block_callees word (news r))
    callee_row_same r (inl k) = kept_callees word r k.plain
    callee_row_same r (inr e) = subst (λ (r : List Step). bare (block_callees word (olds r)) ≡ bare (block_callees word (news r))) (sym e)
        (ap bare (no_callees word (olds b.structures) (one_word (codes "ScanStructures") word (olds b.structures) apart b.has))
        ∙ sym (ap bare (no_callees word (news b.structures) (one_word (codes "ScanStructures") word (news b.structures) apart again_has))))

    bare_rows : (rs : List (List Step)) → Each (IsRow b.structures) rs → bare (flat_map (block_callees word) (map olds rs)) ≡ bare (flat_map (block_callees word) (map news rs))
    bare_rows [] each = refl
    bare_rows (r ∷ rs) each =
        map-append (λ c. c.callee) (block_callees word (olds r)) (flat_map (block_callees word) (map olds rs))
        ∙ ap (λ (l : List Callee). l ++ bare (flat_map (block_callees word) (map olds rs))) (callee_row_same r each.0)
        ∙ ap (λ (l : List Callee). bare (block_callees word (news r)) ++ l) (bare_rows rs each.1)
        ∙ sym (map-append (λ c. c.callee) (block_callees word (news r)) (flat_map (block_callees word) (map news rs)))

    callees_same : bare (callees_of word text) ≡ bare (callees_of word text')
    callees_same = ap (λ (l : List (List Token)). bare (flat_map (block_callees word) l)) b.old_is ∙ bare_rows rows are_rows ∙ sym (ap (λ (l : List (List Token)). bare (flat_map (block_callees word) l)) b.new_is)

  keywords_row : (r : List Step) → IsRow b.structures r → statement_keywords (olds r) ≡ statement_keywords (news r)
  keywords_row r (inl k) = keywords_steady r k.plain
  keywords_row r (inr e) = subst (λ (r : List Step). statement_keywords (olds r) ≡ statement_keywords (news r)) (sym e)
      (no_keywords (olds b.structures) (one_word (codes "ScanStructures") (codes "UserKeywords") (olds b.structures) refl b.has)
      ∙ sym (no_keywords (news b.structures) (one_word (codes "ScanStructures") (codes "UserKeywords") (news b.structures) refl again_has)))

  keywords_same : keywords_of text ≡ keywords_of text'
  keywords_same = ap (flat_map statement_keywords) b.old_is ∙ map_both (IsRow b.structures) statement_keywords statement_keywords keywords_row rows are_rows ∙ sym (ap (flat_map statement_keywords) b.new_is)

  -- chains
  none_old : (rs : List (List Step)) → Each IsKept rs → Each (λ r. structure_chains text (olds r) ≡ []) rs
  none_old rs k = each_more IsKept (λ r. structure_chains text (olds r) ≡ []) (λ r k. no_chains text (olds r) k.other) rs k

  none_new : (rs : List (List Step)) → Each IsKept rs → Each (λ r. structure_chains text' (news r) ≡ []) rs
  none_new rs k = each_more IsKept (λ r. structure_chains text' (news r) ≡ []) (λ r k. no_chains text' (news r) (sym (has_same false r k.plain (codes "ScanStructures")) ∙ k.other)) rs k

  chains_old : chains_of text ≡ structure_chains text (olds b.structures)
  chains_old = ap (flat_map (structure_chains text)) b.old_is ∙ flat_alone (structure_chains text) olds b.front b.structures b.behind (none_old b.front b.front_kept) (none_old b.behind b.behind_kept)

  chains_new : chains_of text' ≡ structure_chains text' (news b.structures)
  chains_new = ap (flat_map (structure_chains text')) b.new_is ∙ flat_alone (structure_chains text') news b.front b.structures b.behind (none_new b.front b.front_kept) (none_new b.behind b.behind_kept)

  chains_read : syntax_places text ≡ [] → AreRead (chains_of text) (chains_of text') new
  chains_read e =
      let f : syntax_in text (map olds rows) ≡ [] = sym (ap (syntax_in text) b.old_is) ∙ e in
      let g = no_front (flat_map (statement_faults text) (map olds rows)) _ (no_back (first_places (map olds rows)) _ f) in
      let s = structures_read text text' b.structures b.steps b.has b.items new b.old_items b.new_items b.are_items (flat_at (statement_faults text) olds b.front b.structures b.behind g) in
      subst (λ (l : List ReadChain). AreRead l (chains_of text') new) (sym chains_old) (subst (λ (l : List ReadChain). AreRead (structure_chains text (olds b.structures)) l new) (sym chains_new) s.chains)

  -- what is barred
  unlisted_both : (rs : List (List Step)) → Each (AreSteps true true) rs → unlisted_in (map olds rs) ≡ [] → unlisted_in (map news rs) ≡ []
  unlisted_both rs each e =
      flat_both (AreSteps true true) (λ s. place_if (is_unlisted s) (start_of s)) (λ s. place_if (is_unlisted s) (start_of s))
      (λ r are. place_both _ _ (start_of (olds r)) (start_of (news r)) (unlisted_same true r are)) rs each e

  module _ (f p : List ℕ → Bool) where
    places_row : (r : List Step) → IsRow b.structures r → callee_places f p (olds r) ≡ [] → callee_places f p (news r) ≡ []
    places_row r (inl k) e = callee_places_both f p r k.plain e
    places_row r (inr q) e = subst (λ (r : List Step). callee_places f p (news r) ≡ []) (sym q)
        (no_places f p (news b.structures) (one_word (codes "ScanStructures") (codes "Procedures") (news b.structures) refl again_has) (one_word (codes "ScanStructures") (codes "MacroDefs") (news b.structures) refl again_has))

    places_both : places_in f p (map olds rows) ≡ [] → places_in f p (map news rows) ≡ []
    places_both e =
        more_both (unlisted_places (map olds rows)) _ (unlisted_places (map news rows)) _
        (λ e. ap unlisted_in (drop_map news rows) ∙ unlisted_both (drop 1 rows) (drop_rows (AreSteps true true) rows all_steps) (sym (ap unlisted_in (drop_map olds rows)) ∙ e))
        (more_both (structures_again (map olds rows)) _ (structures_again (map news rows)) _
        (λ e. later_both (has_word (codes "ScanStructures")) (AreSteps true true) (λ r are. has_same true r are (codes "ScanStructures")) false rows all_steps e)
        (flat_both (IsRow b.structures) (callee_places f p) (callee_places f p) places_row rows are_rows)) e

  abbrev tests : List ReadCallee → List ℕ → Bool
  tests cs = is_name_of (scan_names cs)

  same_tests : (word : List ℕ) → bytes_eq (codes "ScanStructures") word ≡ false → scan_names (callees_of word text) ≡ scan_names (callees_of word text')
  same_tests word apart = names_bare (callees_of word text) ∙ ap names_of (callees_same word apart) ∙ sym (names_bare (callees_of word text'))

  unsupported_both : syntax_places text ≡ [] → unsupported_places text ≡ [] → unsupported_places text' ≡ []
  unsupported_both none e =
      let f = tests (callees_of (codes "Procedures") text) in
      let p = tests (callees_of (codes "MacroDefs") text) in
      more_both (out_length_places (chains_of text)) (places_in f p (statements_of text)) (out_length_places (chains_of text')) (places_in (tests (callees_of (codes "Procedures") text')) (tests (callees_of (codes "MacroDefs") text')) (statements_of text'))
      (out_both (chains_of text) (chains_of text') new (chains_read none))
      (λ e. ap (λ (l : List (List ℕ)). places_in (is_name_of l) (tests (callees_of (codes "MacroDefs") text')) (statements_of text')) (sym (same_tests (codes "Procedures") refl))
      ∙ ap (λ (l : List (List ℕ)). places_in f (is_name_of l) (statements_of text')) (sym (same_tests (codes "MacroDefs") refl))
      ∙ ap (places_in f p) b.new_is ∙ places_both f p (sym (ap (places_in f p) b.old_is) ∙ e)) e

  twice_both : syntax_places text ≡ [] → twice_places text ≡ [] → twice_places text' ≡ []
  twice_both none e =
      let r = chains_read none in
      more_both (again_in [] (map chain_row (chains_of text))) _ (again_in [] (map chain_row (chains_of text'))) _ (again_both [] _ _ (chain_names (chains_of text) (chains_of text') new r))
      (more_both (again_in [] (flat_map port_rows (chains_of text))) _ (again_in [] (flat_map port_rows (chains_of text'))) _ (again_both [] _ _ (port_names (chains_of text) (chains_of text') new r))
      (more_both (again_in [] (map callee_row (callees_of (codes "Procedures") text))) _ (again_in [] (map callee_row (callees_of (codes "Procedures") text'))) _
      (again_both [] _ _ (bare_names (callees_of (codes "Procedures") text) (callees_of (codes "Procedures") text') (callees_same (codes "Procedures") refl)))
      (again_both [] _ _ (bare_names (callees_of (codes "MacroDefs") text) (callees_of (codes "MacroDefs") text') (callees_same (codes "MacroDefs") refl))))) e

-- the written text is a head that says what is meant
pub head_law : HeadLaw
head_law text text' head new is b = record {
  again = record {
    chains = map (λ c. c.decl) (chains_of text');
    procedures = bare (callees_of (codes "Procedures") text');
    macros = bare (callees_of (codes "MacroDefs") text');
    keywords = keywords_of text';
    marks = list_any (λ c. c.marks) (chains_of text');
    end = 0;
  };
  is = record {
    no_syntax = ap (syntax_in text') b.new_is ∙ syntax_both text text' new b (sym (ap (syntax_in text) b.old_is) ∙ is.no_syntax);
    no_twice = twice_both text text' new b is.no_syntax is.no_twice;
    no_unsupported = unsupported_both text text' new b is.no_syntax is.no_unsupported;
    chains = refl;
    procedures = refl;
    macros = refl;
    keywords = refl;
    marks = refl;
  };
  chains = all_say (chains_of text) (chains_of text') new (chains_read text text' new b is.no_syntax);
  procedures = sym (callees_same text text' new b (codes "Procedures") refl) ∙ sym is.procedures;
  macros = sym (callees_same text text' new b (codes "MacroDefs") refl) ∙ sym is.macros;
  keywords = sym (keywords_same text text' new b) ∙ sym is.keywords;
}
