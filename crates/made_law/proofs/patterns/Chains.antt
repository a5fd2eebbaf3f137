-- What a ScanChain block of the made STIL says.
use Rattle.std.proofs.Common.{◌≡◌, ℕ, true, false, if◌then◌else◌, ◌&&◌, ◌||◌, List, [], ◌∷◌, ◌++◌, drop, refl, ap, ◌∙◌, Some, None, codes}
use Rattle.base_types.specs.Lines.{line_at}
use Rattle.base_types.specs.declared.span.Span.{Span}
use Rattle.token_forms.specs.Tokens.{Token}
use Rattle.token_forms.specs.Forms.{put_all}
use Rattle.stil_tokens.specs.StilStatements.{is_only, stil_statements, statements_within}
use Rattle.stil_syntax.specs.Names.{name_at}
use Rattle.stil_syntax.specs.Shapes.{label_at, behind_within}
use Rattle.stil_blocks.specs.declared.chain.ReadChain.{ReadChain}
use Rattle.stil_blocks.specs.Statements.{has_word, behind_word, statements_in}
use Rattle.stil_blocks.specs.Chains.{length_of, clause_of, parts_of, chain_at}
use Rattle.stil_blocks.specs.declared.clause.Clause.TheVariants.{Length, In, Out}
use Rattle.made_law.proofs.patterns.Plain.{Plain}
use Rattle.made_law.proofs.patterns.Tokens.{tokens_by, ends, pass, on, whole_is, one_statement, no_labels}

-- ScanChain name { ScanLength number ; ScanIn in ; ScanOut out ; ScanInversion 0 ; }
abbrev pub block_words : List ℕ → List ℕ → List ℕ → List ℕ → List (List ℕ)
block_words c d i o =
    codes "ScanChain" ∷ c ∷ codes "{" ∷ codes "ScanLength" ∷ d ∷ codes ";" ∷ codes "ScanIn" ∷ i ∷ codes ";" ∷ codes "ScanOut" ∷ o ∷ codes ";"
    ∷ codes "ScanInversion" ∷ codes "0" ∷ codes ";" ∷ codes "}" ∷ []

abbrev pub read_block : List ℕ → (ℕ → Span) → List ℕ → ℕ → List ℕ → List ℕ → ReadChain
read_block text at c n i o = record {
  place = (at 0).start;
  decl = record {
    name = c;
    length = n;
    scan_in = i;
    scan_out = o;
    inversion = Some false;
    cells = None;
    length_at = at 4;
    inversion_at = Some (at 13);
    cells_at = None;
    line = line_at text (at 0).start;
  };
  marks = false;
  out_length = false;
}

pub block_ends : (c d i o : List ℕ) → Plain c → Plain d → Plain i → Plain o → ends 0 (block_words c d i o) ≡ true
block_ends c d i o pc pd pi po =
    rw (
      if◌then◌else◌,
      ◌&&◌,
      ◌||◌,
      pc.semicolon,
      pc.closing,
      pc.opening,
      pc.note,
      pd.semicolon,
      pd.closing,
      pd.opening,
      pd.note,
      pi.semicolon,
      pi.closing,
      pi.opening,
      pi.note,
      po.semicolon,
      po.closing,
      po.opening,
      po.note,
    ) refl

-- word value ;
abbrev clause : List ℕ → List ℕ → List (List ℕ)
clause word value = word ∷ value ∷ codes ";" ∷ []

length_ends : (d : List ℕ) → Plain d → ends 0 (clause (codes "ScanLength") d) ≡ true
length_ends d p = rw (if◌then◌else◌, ◌&&◌, ◌||◌, p.semicolon, p.closing, p.opening, p.note) refl

in_ends : (d : List ℕ) → Plain d → ends 0 (clause (codes "ScanIn") d) ≡ true
in_ends d p = rw (if◌then◌else◌, ◌&&◌, ◌||◌, p.semicolon, p.closing, p.opening, p.note) refl

out_ends : (d : List ℕ) → Plain d → ends 0 (clause (codes "ScanOut") d) ≡ true
out_ends d p = rw (if◌then◌else◌, ◌&&◌, ◌||◌, p.semicolon, p.closing, p.opening, p.note) refl

length_is : (at : ℕ → Span) (d : List ℕ) (n : ℕ) → Plain d → length_of d ≡ Some n → clause_of (tokens_by at (clause (codes "ScanLength") d)) ≡ Length n (at 1)
unfolding clause_of
length_is at d n p len = rw (whole_is at (clause (codes "ScanLength") d) (length_ends d p), no_labels at (codes "ScanLength") d (codes ";" ∷ []) refl p.colon, len) refl

in_is : (at : ℕ → Span) (i : List ℕ) → Plain i → clause_of (tokens_by at (clause (codes "ScanIn") i)) ≡ In i
unfolding clause_of name_at
in_is at i p = rw (whole_is at (clause (codes "ScanIn") i) (in_ends i p), no_labels at (codes "ScanIn") i (codes ";" ∷ []) refl p.colon, p.run, p.plain) refl

out_is : (at : ℕ → Span) (i : List ℕ) → Plain i → clause_of (tokens_by at (clause (codes "ScanOut") i)) ≡ Out i
unfolding clause_of name_at
out_is at i p = rw (whole_is at (clause (codes "ScanOut") i) (out_ends i p), no_labels at (codes "ScanOut") i (codes ";" ∷ []) refl p.colon, p.run, p.plain) refl

inner_is : (at : ℕ → Span) (d i o : List ℕ) → Plain d → Plain i → Plain o
    → stil_statements (tokens_by at (clause (codes "ScanLength") d ++ (clause (codes "ScanIn") i ++ (clause (codes "ScanOut") o ++ clause (codes "ScanInversion") (codes "0")))))
    ≡ tokens_by at (clause (codes "ScanLength") d) ∷ tokens_by (on 3 at) (clause (codes "ScanIn") i) ∷ tokens_by (on 6 at) (clause (codes "ScanOut") o) ∷ tokens_by (on 9 at) (clause (codes "ScanInversion") (codes "0")) ∷ []
unfolding statements_within
inner_is at d i o pd pi po =
    let last = tokens_by (on 9 at) (clause (codes "ScanInversion") (codes "0")) in
    let third = tokens_by (on 6 at) (clause (codes "ScanOut") o) ++ last in
    let second = tokens_by (on 3 at) (clause (codes "ScanIn") i) ++ third in
    one_statement at (clause (codes "ScanLength") d) second (length_ends d pd)
    ∙ ap (λ (l : List (List Token)). tokens_by at (clause (codes "ScanLength") d) ∷ l) (one_statement (on 3 at) (clause (codes "ScanIn") i) third (in_ends i pi)
    ∙ ap (λ (l : List (List Token)). tokens_by (on 3 at) (clause (codes "ScanIn") i) ∷ l) (one_statement (on 6 at) (clause (codes "ScanOut") o) last (out_ends o po)))

parts_are : (at : ℕ → Span) (c d i o : List ℕ) (n : ℕ) → is_only 123 c ≡ false → Plain d → Plain i → Plain o → length_of d ≡ Some n
    → parts_of (statements_in (tokens_by at (block_words c d i o))) ≡ Some (record { length = Some (n, at 4); scan_in = Some i; scan_out = Some o; inversion = Some (false, at 13); cells = None; out_length = false })
unfolding put_all parts_of clause_of behind_within label_at name_at
parts_are at c d i o n opening pd pi po len =
    rw (if◌then◌else◌, opening, inner_is (on 3 at) d i o pd pi po, length_is (on 3 at) d n pd len, in_is (on 6 at) i pi, out_is (on 9 at) o po) refl

pub block_is : (text : List ℕ) (at : ℕ → Span) (c d i o : List ℕ) (n : ℕ) → Plain c → Plain d → Plain i → Plain o → length_of d ≡ Some n
    → chain_at text (tokens_by at (block_words c d i o)) ≡ Some (read_block text at c n i o)
unfolding chain_at name_at behind_word
block_is text at c d i o n pc pd pi po len =
    let words = block_words c d i o in
    rw (whole_is at words (block_ends c d i o pc pd pi po), no_labels at (codes "ScanChain") c (drop 2 words) refl pc.colon, pc.run, pc.plain, parts_are at c d i o n pc.opening pd pi po len) refl

-- behind an opening brace the words of a block leave its depth
pub block_pass : (c d i o : List ℕ) → Plain c → Plain d → Plain i → Plain o → pass 1 (block_words c d i o) ≡ Some 1
block_pass c d i o pc pd pi po =
    rw (
      if◌then◌else◌,
      ◌&&◌,
      ◌||◌,
      pc.semicolon,
      pc.closing,
      pc.opening,
      pc.note,
      pd.semicolon,
      pd.closing,
      pd.opening,
      pd.note,
      pi.semicolon,
      pi.closing,
      pi.opening,
      pi.note,
      po.semicolon,
      po.closing,
      po.opening,
      po.note,
    ) refl

pub is_block : (at : ℕ → Span) (c d i o : List ℕ) → Plain c → has_word (codes "ScanChain") (tokens_by at (block_words c d i o)) ≡ true
unfolding has_word
is_block at c d i o pc = rw (no_labels at (codes "ScanChain") c (drop 2 (block_words c d i o)) refl pc.colon) refl
