-- ScanStructures, its chains read anew.
use Rattle.std.proofs.Common.{◌≡◌, ℕ, zero, suc, Bool, true, false, ◌&&◌, ◌||◌, not, cond, inl, inr, List, [], ◌∷◌, ◌++◌, map, codes, is_some, Option, Some, None, refl, sym, ap, ◌∙◌, subst}
use Rattle.std.specs.List.{flat_map, list_any, AllByRecursion as Each}
use Rattle.std.specs.Str.{bytes_eq}
use Rattle.std.proofs.lemmas.Bool.{cases_Bool, true≢false}
use Rattle.std.proofs.lemmas.Slice.Eq.{bytes_eq-Decides}
use Rattle.token_forms.specs.Tokens.{Token}
use Rattle.stil_types.specs.declared.head.ScanChainDecl.{ScanChainDecl}
use Rattle.stil_syntax.specs.Names.{name_at}
use Rattle.stil_syntax.specs.Shapes.{behind_labels}
use Rattle.stil_blocks.specs.declared.chain.ReadChain.{ReadChain}
use Rattle.stil_blocks.specs.Statements.{start_of, is_whole, begins_word, has_word, behind_word, opens, opens_behind, opens_named, opens_maybe_named, statements_in}
use Rattle.stil_blocks.specs.Chains.{chain_at, listed, chain_in, structure_chains}
use Rattle.list_laws.specs.Leasts.{place_if}
use Rattle.stil_head.specs.Faults.{callee_faults, is_unread, is_read, is_bad, is_bad_item, item_places, block_faults, statement_faults}
use Rattle.stil_head.specs.Unsupported.{out_length_places}
use Rattle.stil_head.specs.Twice.{Row, again_in, chain_row, port_rows}
use Rattle.head_alike.specs.Steps.{Step, Keep, Anew, olds, news, AreSteps}
use Rattle.head_alike.specs.Chains.{IsNewFor, SaysAs}
use Rattle.head_alike.specs.Heads.{IsOther, IsChain, AreItems, AllSayAs}
use Rattle.head_alike.proofs.Names.{NoName, Named, Front, names}
use Rattle.head_alike.proofs.Statements.{whole_same, opens_same, has_same, BehindWord, behind_named}
use Rattle.head_alike.proofs.Chains.{chain_law}
use Rattle.head_alike.proofs.Empties.{no_front, no_back, both_none, if_none, none_if, more_both, place_both}
use Rattle.head_alike.proofs.Syntax.{unread_same, read_same, if_two}

-- a statement has one word
pub one_word : (a b : List ℕ) (s : List Token) → bytes_eq a b ≡ false → has_word a s ≡ true → has_word b s ≡ false
unfolding has_word
one_word a b s apart has = by (behind_labels s) has
  where
    by : (ts : List Token) → begins_word a ts ≡ true → begins_word b ts ≡ false
    by [] h = absurd cc
    by (t ∷ ts) h = ap (λ (w : List ℕ). bytes_eq w b) ((bytes_eq-Decides t.text a).0 h) ∙ apart

-- chains read, and read anew
pub record IsReadTwice (old again : ReadChain) (new : ScanChainDecl) : Type 0 where
  pub says : SaysAs new again.decl
  pub fits : IsNewFor old.decl new
  pub out_length : again.out_length ≡ old.out_length

abbrev pub AreRead : List ReadChain → List ReadChain → List ScanChainDecl → Type 0
AreRead [] [] [] = Unit {0}
AreRead (c ∷ cs) (d ∷ ds) (n ∷ ns) = IsReadTwice c d n × AreRead cs ds ns
AreRead cs ds ns = ⊥

pub record ItemsRead (text text' : List ℕ) (new : List ScanChainDecl) (items : List (List Step)) : Type 0 where
  pub places : item_places text' (map news items) ≡ []
  pub chains : AreRead (flat_map (chain_in text) (map olds items)) (flat_map (chain_in text') (map news items)) new

chain_none : (text : List ℕ) (s : List Token) → has_word (codes "ScanChain") s ≡ false → chain_in text s ≡ []
unfolding chain_in
chain_none text s e = ap (λ (b : Bool). cond b (listed (chain_at text s)) []) e

chain_one : (text : List ℕ) (s : List Token) (c : ReadChain) → has_word (codes "ScanChain") s ≡ true → chain_at text s ≡ Some c → chain_in text s ≡ c ∷ []
unfolding chain_in
chain_one text s c e f = ap (λ (b : Bool). cond b (listed (chain_at text s)) []) e ∙ ap listed f

bad_other : (text : List ℕ) (s : List Token) → has_word (codes "ScanChain") s ≡ false → is_bad_item text s ≡ (not (is_whole s) || false)
unfolding is_bad_item
bad_other text s e = ap (λ (b : Bool). not (is_whole s) || (b && not (is_some (chain_at text s)))) e

bad_chain : (text : List ℕ) (s : List Token) (c : ReadChain) → has_word (codes "ScanChain") s ≡ true → chain_at text s ≡ Some c → is_bad_item text s ≡ (not (is_whole s) || false)
unfolding is_bad_item
bad_chain text s c e f = ap (λ (b : Bool). not (is_whole s) || (b && not (is_some (chain_at text s)))) e ∙ ap (λ (o : Option ReadChain). not (is_whole s) || (true && not (is_some o))) f

whole_if : (allow : Bool) (s : List Step) → AreSteps allow true s → (not (is_whole (olds s)) || false) ≡ (not (is_whole (news s)) || false)
whole_if allow s are = ap (λ (b : Bool). not b || false) (whole_same allow true s are)

module _ (text text' : List ℕ) where
  bad_at : List Token → List ℕ
  bad_at s = place_if (is_bad_item text' s) (start_of s)

  put_other : (s : List Step) (ss : List (List Step)) (new : List ScanChainDecl) → IsOther s → ItemsRead text text' new ss → place_if (is_bad_item text (olds s)) (start_of (olds s)) ≡ [] → ItemsRead text text' new (s ∷ ss)
  put_other s ss new k r e =
      let no = sym (has_same true s k.steps (codes "ScanChain")) ∙ k.other in
      let bad = bad_other text (olds s) k.other ∙ whole_if true s k.steps ∙ sym (bad_other text' (news s) no) in
      record {
        places = both_none (place_if (is_bad_item text' (news s)) (start_of (news s))) _ (place_both _ _ (start_of (olds s)) (start_of (news s)) bad e) r.places;
        chains = subst (λ (l : List ReadChain). AreRead (l ++ flat_map (chain_in text) (map olds ss)) (chain_in text' (news s) ++ flat_map (chain_in text') (map news ss)) new) (sym (chain_none text (olds s) k.other))
            (subst (λ (l : List ReadChain). AreRead (flat_map (chain_in text) (map olds ss)) (l ++ flat_map (chain_in text') (map news ss)) new) (sym (chain_none text' (news s) no)) r.chains);
      }

  put_chain : (s : List Step) (ss : List (List Step)) (new : List ScanChainDecl) (More : List ScanChainDecl → Type 0) (k : IsChain text s new More) → ItemsRead text text' k.left ss → place_if (is_bad_item text (olds s)) (start_of (olds s)) ≡ [] → ItemsRead text text' new (s ∷ ss)
  put_chain s ss new More k r e =
      let has = sym (has_same true s k.steps (codes "ScanChain")) ∙ k.has in
      let c = chain_law true text text' s k.chain k.new k.steps k.has k.was k.fits k.turned in
      let bad = bad_chain text (olds s) k.chain k.has k.was ∙ whole_if true s k.steps ∙ sym (bad_chain text' (news s) c.chain has c.is) in
      subst (λ (l : List ScanChainDecl). ItemsRead text text' l (s ∷ ss)) (sym k.is) (record {
        places = both_none (place_if (is_bad_item text' (news s)) (start_of (news s))) _ (place_both _ _ (start_of (olds s)) (start_of (news s)) bad e) r.places;
        chains = subst (λ (l : List ReadChain). AreRead (l ++ flat_map (chain_in text) (map olds ss)) (chain_in text' (news s) ++ flat_map (chain_in text') (map news ss)) (k.new ∷ k.left)) (sym (chain_one text (olds s) k.chain k.has k.was))
            (subst (λ (l : List ReadChain). AreRead (k.chain ∷ flat_map (chain_in text) (map olds ss)) (l ++ flat_map (chain_in text') (map news ss)) (k.new ∷ k.left)) (sym (chain_one text' (news s) c.chain has c.is))
            (record { says = c.says; fits = k.fits; out_length = c.out_length }, r.chains));
      })

  pub items_read : (items : List (List Step)) (new : List ScanChainDecl) → AreItems text new items → item_places text (map olds items) ≡ [] → ItemsRead text text' new items
  items_read [] new are e = subst (λ (l : List ScanChainDecl). ItemsRead text text' l []) (sym are) (record { places = refl; chains = tt })
  items_read (s ∷ ss) new are e =
      let here = no_front (place_if (is_bad_item text (olds s)) (start_of (olds s))) _ e in
      let there = no_back (place_if (is_bad_item text (olds s)) (start_of (olds s))) (item_places text (map olds ss)) e in
      elim are [
        | inl k ↦ put_other s ss new k.0 (items_read ss new k.1 there) here
        | inr k ↦ put_chain s ss new (λ left. AreItems text left ss) k (items_read ss k.left k.more there) here
      ]

  -- ScanStructures itself
  module _ (s : List Step) (are : AreSteps true true s) (has : has_word (codes "ScanStructures") (olds s) ≡ true) where
    pub has_again : has_word (codes "ScanStructures") (news s) ≡ true
    has_again = sym (has_same true s are (codes "ScanStructures")) ∙ has

    maybe_opens : (r : List Step) → AreSteps true false r → opens_maybe_named (olds r) ≡ opens_maybe_named (news r)
    unfolding opens_maybe_named opens_named
    maybe_opens r is = elim (names true false r is) [
      | NoName e f ↦ ap (λ (b : Bool). b || opens_behind (name_at (olds r))) (opens_same true false r is) ∙ ap (λ (o : Option (List ℕ × List Token)). opens (news r) || opens_behind o) e ∙ sym (ap (λ (o : Option (List ℕ × List Token)). opens (news r) || opens_behind o) f)
      | Named x q e f rest short fr cut ↦ ap (λ (b : Bool). b || opens_behind (name_at (olds r))) (opens_same true false r is) ∙ ap (λ (o : Option (List ℕ × List Token)). opens (news r) || opens_behind o) e
          ∙ ap (λ (b : Bool). opens (news r) || b) (opens_same true false q rest) ∙ sym (ap (λ (o : Option (List ℕ × List Token)). opens (news r) || opens_behind o) f)
      | Front t u xs ys c d q i e f ↦ absurd (true≢false (sym i.first))
    ]

    bad_same : is_bad (olds s) ≡ is_bad (news s)
    unfolding is_bad
    bad_same =
        let b = behind_named true s (codes "ScanStructures") refl refl are has in
        ap (λ (b : Bool). b || (is_read (olds s) && not (opens_maybe_named (behind_word (olds s))))) (unread_same true s are)
        ∙ ap (λ (b : Bool). is_unread (news s) || (b && not (opens_maybe_named (behind_word (olds s))))) (read_same true s are)
        ∙ ap (λ (b : Bool). is_unread (news s) || (is_read (news s) && not b)) (ap opens_maybe_named b.old ∙ maybe_opens b.rest b.are ∙ sym (ap opens_maybe_named b.new))

    items_of : (text : List ℕ) (ts : List Token) → has_word (codes "ScanStructures") ts ≡ true → block_faults text ts ≡ item_places text (statements_in ts)
    unfolding block_faults
    items_of text ts e = ap (λ (b : Bool). cond b (item_places text (statements_in ts)) (cond (has_word (codes "Procedures") ts || has_word (codes "MacroDefs") ts) (flat_map callee_faults (statements_in ts)) [])) e

    chains_in : (text : List ℕ) (ts : List Token) → has_word (codes "ScanStructures") ts ≡ true → structure_chains text ts ≡ flat_map (chain_in text) (statements_in ts)
    unfolding structure_chains
    chains_in text ts e = ap (λ (b : Bool). cond b (flat_map (chain_in text) (statements_in ts)) []) e

    pub record StructuresRead (new : List ScanChainDecl) : Type 0 where
      pub faults : statement_faults text' (news s) ≡ []
      pub chains : AreRead (structure_chains text (olds s)) (structure_chains text' (news s)) new

    by_bad : (b : Bool) (p : ℕ) (xs : List ℕ) → cond b (p ∷ []) xs ≡ [] → b ≡ false
    by_bad true p xs e = absurd cc
    by_bad false p xs e = refl

    pub structures_read : (items : List (List Step)) (new : List ScanChainDecl) → statements_in (olds s) ≡ map olds items → statements_in (news s) ≡ map news items → AreItems text new items → statement_faults text (olds s) ≡ [] → StructuresRead new
    unfolding statement_faults
    structures_read items new old_is new_is are_items e =
        let fine = by_bad (is_bad (olds s)) (start_of (olds s)) (block_faults text (olds s)) e in
        let inner : block_faults text (olds s) ≡ [] = sym (ap (λ (b : Bool). cond b (start_of (olds s) ∷ []) (block_faults text (olds s))) fine) ∙ e in
        let r = items_read items new are_items (sym (items_of text (olds s) has ∙ ap (item_places text) old_is) ∙ inner) in
        record {
          faults = ap (λ (b : Bool). cond b (start_of (news s) ∷ []) (block_faults text' (news s))) (sym bad_same ∙ fine) ∙ items_of text' (news s) has_again ∙ ap (item_places text') new_is ∙ r.places;
          chains = subst (λ (l : List ReadChain). AreRead l (structure_chains text' (news s)) new) (sym (chains_in text (olds s) has ∙ ap (flat_map (chain_in text)) old_is))
              (subst (λ (l : List ReadChain). AreRead (flat_map (chain_in text) (map olds items)) l new) (sym (chains_in text' (news s) has_again ∙ ap (flat_map (chain_in text')) new_is)) r.chains);
        }

-- what is asked of chains, for those read anew
pub out_both : (cs ds : List ReadChain) (ns : List ScanChainDecl) → AreRead cs ds ns → out_length_places cs ≡ [] → out_length_places ds ≡ []
out_both [] [] [] are e = refl
out_both [] [] (n ∷ ns) are e = absurd are
out_both [] (d ∷ ds) ns are e = absurd are
out_both (c ∷ cs) [] ns are e = absurd are
out_both (c ∷ cs) (d ∷ ds) [] are e = absurd are
out_both (c ∷ cs) (d ∷ ds) (n ∷ ns) are e =
    more_both (place_if c.out_length c.place) (out_length_places cs) (place_if d.out_length d.place) (out_length_places ds) (place_both c.out_length d.out_length c.place d.place (sym are.0.out_length)) (out_both cs ds ns are.1) e

abbrev pub SameNames : List Row → List Row → Type 0
SameNames [] [] = Unit {0}
SameNames (r ∷ rs) (q ∷ qs) = (r.0 ≡ q.0) × SameNames rs qs
SameNames rs qs = ⊥

pub again_both : (before : List (List ℕ)) (rs qs : List Row) → SameNames rs qs → again_in before rs ≡ [] → again_in before qs ≡ []
again_both before [] [] same e = refl
again_both before [] (q ∷ qs) same e = absurd same
again_both before (r ∷ rs) [] same e = absurd same
again_both before (r ∷ rs) (q ∷ qs) same e =
    more_both (place_if (list_any (bytes_eq r.0) before) r.1) (again_in (before ++ r.0 ∷ []) rs) (place_if (list_any (bytes_eq q.0) before) q.1) (again_in (before ++ q.0 ∷ []) qs)
    (place_both _ _ r.1 q.1 (ap (λ (n : List ℕ). list_any (bytes_eq n) before) same.0))
    (λ e. ap (λ (n : List ℕ). again_in (before ++ n ∷ []) qs) (sym same.0) ∙ again_both (before ++ r.0 ∷ []) rs qs same.1 e) e

pub chain_names : (cs ds : List ReadChain) (ns : List ScanChainDecl) → AreRead cs ds ns → SameNames (map chain_row cs) (map chain_row ds)
chain_names [] [] [] are = tt
chain_names [] [] (n ∷ ns) are = absurd are
chain_names [] (d ∷ ds) ns are = absurd are
chain_names (c ∷ cs) [] ns are = absurd are
chain_names (c ∷ cs) (d ∷ ds) [] are = absurd are
chain_names (c ∷ cs) (d ∷ ds) (n ∷ ns) are = (sym (are.0.says.name ∙ are.0.fits.name), chain_names cs ds ns are.1)

pub port_names : (cs ds : List ReadChain) (ns : List ScanChainDecl) → AreRead cs ds ns → SameNames (flat_map port_rows cs) (flat_map port_rows ds)
port_names [] [] [] are = tt
port_names [] [] (n ∷ ns) are = absurd are
port_names [] (d ∷ ds) ns are = absurd are
port_names (c ∷ cs) [] ns are = absurd are
port_names (c ∷ cs) (d ∷ ds) [] are = absurd are
port_names (c ∷ cs) (d ∷ ds) (n ∷ ns) are = (sym (are.0.says.scan_in ∙ are.0.fits.scan_in), (sym (are.0.says.scan_out ∙ are.0.fits.scan_out), port_names cs ds ns are.1))

pub all_say : (cs ds : List ReadChain) (ns : List ScanChainDecl) → AreRead cs ds ns → AllSayAs ns (map (λ c. c.decl) ds)
all_say [] [] [] are = tt
all_say [] [] (n ∷ ns) are = absurd are
all_say [] (d ∷ ds) ns are = absurd are
all_say (c ∷ cs) [] ns are = absurd are
all_say (c ∷ cs) (d ∷ ds) [] are = absurd are
all_say (c ∷ cs) (d ∷ ds) (n ∷ ns) are = (are.0.says, all_say cs ds ns are.1)
