-- What the made head says, by its tokens.
use Rattle.std.proofs.Common.{◌≡◌, ℕ, zero, suc, ◌<◌, ◌≤◌, Bool, true, false, not, List, [], ◌∷◌, ◌++◌, refl, sym, ap, ◌∙◌, append-nil, filter, codes, decimal, Some, arith}
use Rattle.std.specs.List.{flat_map}
use Rattle.std.specs.Fmt.{digits}
use Rattle.base_types.specs.Lines.{line_at}
use Rattle.base_types.specs.declared.span.Span.{Span}
use Rattle.token_forms.specs.Tokens.{Token}
use Rattle.stil_tokens.specs.StilTokens.{tokens_in}
use Rattle.stil_tokens.specs.StilStatements.{stil_statements, statements_within}
use Rattle.stil_syntax.specs.Names.{name_at}
use Rattle.stil_syntax.specs.Shapes.{is_empty, body_statements, label_at, behind_within}
use Rattle.stil_blocks.specs.declared.chain.ReadChain.{ReadChain}
use Rattle.stil_blocks.specs.declared.callee.ReadCallee.{ReadCallee}
use Rattle.stil_blocks.specs.Statements.{statements_of, statements_in, is_worded, has_word, behind_word, opens_named, opens_maybe_named}
use Rattle.stil_blocks.specs.Chains.{chain_at, chain_in, structure_chains, chains_of}
use Rattle.stil_blocks.specs.Callees.{block_callees, callees_of, statement_keywords}
use Rattle.stil_head.specs.Faults.{is_stil, is_unread, is_bad_item, item_places, block_faults, is_read, is_bad, statement_faults, syntax_in}
use Rattle.stil_head.specs.Twice.{twice_among}
use Rattle.stil_head.specs.Unsupported.{is_unlisted, is_name_of, scan_names, unlisted_places, structures_again, callee_places, unsupported_in}
use Rattle.stil_head.specs.Heads.{IsHead}
use Rattle.design_maker.specs.Chains.{chain_length}
use Rattle.made_law.specs.Designs.Names.{in_port, out_port, chain_name}
use Rattle.made_law.specs.Patterns.MadeHead.{BlockPlace, chain_numbers, made_head}
use Rattle.made_law.proofs.patterns.Numbers.{length_back, length_is, length_plain, chain_plain, in_plain, out_plain}
use Rattle.made_law.proofs.patterns.Tokens.{tokens_by, on, ends, pass, pass_both, pass_ends, one_statement, whole_is}
use Rattle.made_law.proofs.patterns.Chains.{read_block, block_is, block_ends, block_pass, is_block}
use Rattle.made_law.proofs.patterns.HeadWords.{version_words, signal_words, chain_words, structure_words, procedure_words, head_words}
use Rattle.made_law.proofs.patterns.Procedures.{procedures_end, signals_end, procedures_are, procedures_faultless, procedures_supported, signals_supported, version_supported, signals_faultless, version_faultless}

-- chain k, at these places
abbrev pub read_chain : List ℕ → (ℕ → Span) → ℕ → ℕ → ReadChain
read_chain text at n k = read_block text at (chain_name k) (chain_length n k) (in_port k) (out_port k)

-- numbers of chains
abbrev pub AreChains : List ℕ → Type 0
AreChains [] = Unit {0}
AreChains (k ∷ ks) = (k < 8) × AreChains ks

pub numbers_are : AreChains chain_numbers
numbers_are = (omega arith, (omega arith, (omega arith, (omega arith, (omega arith, (omega arith, (omega arith, (omega arith, tt))))))))

-- the statements of some chains
abbrev pub chain_statements : (ℕ → Span) → ℕ → List ℕ → List (List Token)
chain_statements at n [] = []
chain_statements at n (k ∷ ks) = tokens_by at (chain_words n k) ∷ chain_statements (on 16 at) n ks

-- and what they say
abbrev pub read_chains : List ℕ → (ℕ → Span) → ℕ → List ℕ → List ReadChain
read_chains text at n [] = []
read_chains text at n (k ∷ ks) = read_chain text at n k ∷ read_chains text (on 16 at) n ks

module _ (n : ℕ) (least : 8 ≤ n) (most : n ≤ 16384) where
  chain_ends : (k : ℕ) → k < 8 → ends 0 (chain_words n k) ≡ true
  chain_ends k lt = block_ends (chain_name k) (decimal (chain_length n k)) (in_port k) (out_port k) (chain_plain k lt) (length_plain n k most lt) (in_plain k lt) (out_plain k lt)

  chain_pass : (k : ℕ) → k < 8 → pass 1 (chain_words n k) ≡ Some 1
  chain_pass k lt = block_pass (chain_name k) (decimal (chain_length n k)) (in_port k) (out_port k) (chain_plain k lt) (length_plain n k most lt) (in_plain k lt) (out_plain k lt)

  chains_pass : (ks : List ℕ) → AreChains ks → pass 1 (flat_map (chain_words n) ks) ≡ Some 1
  chains_pass [] all = refl
  chains_pass (k ∷ ks) all = pass_both 1 1 (chain_words n k) (flat_map (chain_words n) ks) (chain_pass k all.0) ∙ chains_pass ks all.1

  structures_end : ends 0 (structure_words n) ≡ true
  structures_end = pass_ends 1 1 (flat_map (chain_words n) chain_numbers) (codes "}") [] (chains_pass chain_numbers numbers_are)

  chains_split : (at : ℕ → Span) (ks : List ℕ) → AreChains ks → stil_statements (tokens_by at (flat_map (chain_words n) ks)) ≡ chain_statements at n ks
  unfolding statements_within
  chains_split at [] all = refl
  chains_split at (k ∷ ks) all =
      one_statement at (chain_words n k) (tokens_by (on 16 at) (flat_map (chain_words n) ks)) (chain_ends k all.0)
      ∙ ap (λ (l : List (List Token)). tokens_by at (chain_words n k) ∷ l) (chains_split (on 16 at) ks all.1)

  chain_is : (text : List ℕ) (at : ℕ → Span) (k : ℕ) → k < 8 → chain_at text (tokens_by at (chain_words n k)) ≡ Some (read_chain text at n k)
  chain_is text at k lt =
      let l = length_is n k least most lt in
      block_is text at (chain_name k) (decimal (chain_length n k)) (in_port k) (out_port k) (chain_length n k) (chain_plain k lt) (length_plain n k most lt) (in_plain k lt) (out_plain k lt)
      (length_back (chain_length n k) l.some (omega (arith, l.few)))

  named_block : (at : ℕ → Span) (k : ℕ) → k < 8 → has_word (codes "ScanChain") (tokens_by at (chain_words n k)) ≡ true
  named_block at k lt = is_block at (chain_name k) (decimal (chain_length n k)) (in_port k) (out_port k) (chain_plain k lt)

  chains_read : (text : List ℕ) (at : ℕ → Span) (ks : List ℕ) → AreChains ks → flat_map (chain_in text) (chain_statements at n ks) ≡ read_chains text at n ks
  unfolding chain_in
  chains_read text at [] all = refl
  chains_read text at (k ∷ ks) all =
      rw (named_block at k all.0, chain_is text at k all.0) (ap (λ (l : List ReadChain). read_chain text at n k ∷ l) (chains_read text (on 16 at) ks all.1))

  no_items : (text : List ℕ) (at : ℕ → Span) (ks : List ℕ) → AreChains ks → item_places text (chain_statements at n ks) ≡ []
  unfolding is_bad_item
  no_items text at [] all = refl
  no_items text at (k ∷ ks) all = rw (whole_is at (chain_words n k) (chain_ends k all.0), named_block at k all.0, chain_is text at k all.0) (no_items text (on 16 at) ks all.1)

  inner_are : (at : ℕ → Span) → statements_in (tokens_by at (structure_words n)) ≡ chain_statements (on 2 at) n chain_numbers
  inner_are at = ap (λ (ss : List (List Token)). filter (λ s. not (is_empty s)) ss) (chains_split (on 2 at) chain_numbers numbers_are)

  -- the block of structures
  structures_faultless : (text : List ℕ) (at : ℕ → Span) → statement_faults text (tokens_by at (structure_words n)) ≡ []
  unfolding digits statement_faults is_bad is_unread is_worded is_read block_faults opens_maybe_named opens_named has_word behind_word behind_within label_at name_at
  structures_faultless text at = rw (whole_is at (structure_words n) structures_end, inner_are at) (no_items text (on 2 at) chain_numbers numbers_are)

  structures_supported : (at : ℕ → Span) (p q : List ℕ → Bool) → callee_places p q (tokens_by at (structure_words n)) ≡ []
  unfolding callee_places has_word behind_within label_at name_at digits
  structures_supported at p q = refl

  structures_read : (text : List ℕ) (at : ℕ → Span) → structure_chains text (tokens_by at (structure_words n)) ≡ read_chains text (on 2 at) n chain_numbers
  unfolding structure_chains has_word behind_within label_at name_at
  structures_read text at = rw (inner_are at) (chains_read text (on 2 at) chain_numbers numbers_are)

  -- the four statements of the head
  abbrev four : (ℕ → Span) → List (List Token)
  four at = tokens_by at version_words ∷ tokens_by (on 3 at) signal_words ∷ tokens_by (on 111 at) (structure_words n) ∷ tokens_by (on 242 at) procedure_words ∷ []

  four_are : (at : ℕ → Span) → body_statements (tokens_by at (head_words n)) ≡ four at
  unfolding digits statements_within
  four_are at =
      let last = tokens_by (on 242 at) procedure_words in
      let third = tokens_by (on 111 at) (structure_words n) ++ last in
      let second = tokens_by (on 3 at) signal_words ++ third in
      ap (λ (ss : List (List Token)). filter (λ s. not (is_empty s)) ss) (one_statement at version_words second refl
      ∙ ap (λ (l : List (List Token)). tokens_by at version_words ∷ l) (one_statement (on 3 at) signal_words third signals_end
      ∙ ap (λ (l : List (List Token)). tokens_by (on 3 at) signal_words ∷ l) (one_statement (on 111 at) (structure_words n) last structures_end
      ∙ ap (λ (l : List (List Token)). tokens_by (on 111 at) (structure_words n) ∷ l) (ap stil_statements (sym (append-nil last)) ∙ one_statement (on 242 at) procedure_words [] procedures_end))))

  chains_are : (text : List ℕ) (at : ℕ → Span) → flat_map (structure_chains text) (four at) ≡ read_chains text (on 113 at) n chain_numbers
  unfolding structure_chains has_word behind_within label_at name_at digits
  chains_are text at = append-nil (structure_chains text (tokens_by (on 111 at) (structure_words n))) ∙ structures_read text (on 111 at)

  syntax_none : (text : List ℕ) (at : ℕ → Span) → syntax_in text (four at) ≡ []
  unfolding is_stil has_word behind_within label_at name_at digits
  syntax_none text at = rw (version_faultless text at, signals_faultless text (on 3 at), structures_faultless text (on 111 at), procedures_faultless text (on 242 at)) refl

  callees_are : (at : ℕ → Span) → flat_map (block_callees (codes "Procedures")) (four at)
      ≡ record { place = (on 242 at 2).start; callee = record { name = codes "load_unload"; scan = true } } ∷ record { place = (on 242 at 89).start; callee = record { name = codes "capture"; scan = false } } ∷ []
  unfolding block_callees has_word behind_within label_at name_at digits
  callees_are at = append-nil (block_callees (codes "Procedures") (tokens_by (on 242 at) procedure_words)) ∙ procedures_are (on 242 at)

  macros_none : (at : ℕ → Span) → flat_map (block_callees (codes "MacroDefs")) (four at) ≡ []
  unfolding block_callees has_word behind_within label_at name_at digits
  macros_none at = refl

  keywords_none : (at : ℕ → Span) → flat_map statement_keywords (four at) ≡ []
  unfolding statement_keywords has_word behind_within label_at name_at digits
  keywords_none at = refl

  twice_none : (text : List ℕ) (at : ℕ → Span) (p q : ℕ)
      → twice_among (read_chains text at n chain_numbers) (record { place = p; callee = record { name = codes "load_unload"; scan = true } } ∷ record { place = q; callee = record { name = codes "capture"; scan = false } } ∷ []) [] ≡ []
  unfolding digits
  twice_none text at p q = refl

  no_places : (at : ℕ → Span) (p q : List ℕ → Bool) → flat_map (callee_places p q) (four at) ≡ []
  no_places at p q = rw (version_supported at p q, signals_supported (on 3 at) p q, structures_supported (on 111 at) p q, procedures_supported (on 242 at) p q) refl

  no_unlisted : (at : ℕ → Span) → unlisted_places (four at) ≡ []
  unfolding is_unlisted behind_within label_at name_at digits
  no_unlisted at = refl

  no_second : (at : ℕ → Span) → structures_again (four at) ≡ []
  unfolding has_word behind_within label_at name_at digits
  no_second at = refl

  supported : (text : List ℕ) (at by : ℕ → Span) (ps ms : List ReadCallee) → unsupported_in (read_chains text by n chain_numbers) ps ms (four at) ≡ []
  supported text at by ps ms = rw (no_unlisted at, no_second at, no_places at (is_name_of (scan_names ps)) (is_name_of (scan_names ms))) refl

-- where chain k stands
abbrev from : ℕ → (ℕ → Span) → ℕ → Span
from zero at = at
from (suc k) at = from k (on 16 at)

abbrev pub block_places : List ℕ → (ℕ → Span) → ℕ → BlockPlace
block_places text at k = record { line = line_at text (from k at 0).start; length = from k at 4; inversion = from k at 13 }

-- tokens with these words say the head
pub head_says : (n : ℕ) → 8 ≤ n → n ≤ 16384 → (text : List ℕ) (at : ℕ → Span) → tokens_in text ≡ tokens_by at (head_words n) → IsHead text (made_head (block_places text (on 113 at)) n)
unfolding digits
head_says n least most text at are =
    let ss = four n least most at in
    let st : statements_of text ≡ ss = ap body_statements are ∙ four_are n least most at in
    let c : chains_of text ≡ read_chains text (on 113 at) n chain_numbers = ap (λ (l : List (List Token)). flat_map (structure_chains text) l) st ∙ chains_are n least most text at in
    let p = ap (λ (l : List (List Token)). flat_map (block_callees (codes "Procedures")) l) st ∙ callees_are n least most at in
    let m = ap (λ (l : List (List Token)). flat_map (block_callees (codes "MacroDefs")) l) st ∙ macros_none n least most at in
    let k = ap (λ (l : List (List Token)). flat_map statement_keywords l) st ∙ keywords_none n least most at in
    record {
      no_syntax = ap (syntax_in text) st ∙ syntax_none n least most text at;
      no_twice = rw (c, p, m) (twice_none n least most text (on 113 at) (on 242 at 2).start (on 242 at 89).start);
      no_unsupported =
          let ps = callees_of (codes "Procedures") text in
          let ms = callees_of (codes "MacroDefs") text in
          ap (λ (l : List ReadChain). unsupported_in l ps ms (statements_of text)) c
          ∙ ap (λ (l : List (List Token)). unsupported_in (read_chains text (on 113 at) n chain_numbers) ps ms l) st ∙ supported n least most text at (on 113 at) ps ms;
      chains = rw c refl;
      procedures = rw p refl;
      macros = rw m refl;
      keywords = sym k;
      marks = rw c refl;
    }
