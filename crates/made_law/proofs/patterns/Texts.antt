-- The words of the made head.
use Rattle.std.proofs.Common.{◌≡◌, ℕ, zero, suc, ◌+◌, ◌<◌, ◌≤◌, true, false, List, [], ◌∷◌, ◌++◌, length, drop, refl, sym, ap, ◌∙◌, append_assoc, append-nil, codes, decimal, arith}
use Rattle.std.specs.List.{list_all, prefix_len}
use Rattle.std.specs.Fmt.{digits}
use Rattle.std.proofs.Math.Seq.{drop-append_seam, take-append_seam}
use Rattle.std.proofs.lemmas.Fmt.{decimal_nonempty}
use Rattle.std.proofs.lemmas.Bool.{and_parts}
use Rattle.token_forms.specs.declared.piece.Piece.TheVariants.{Token}
use Rattle.token_forms.specs.Pieces.{texts_from}
use Rattle.token_forms.proofs.Fronts.{texts-step}
use Rattle.stil_tokens.specs.StilTokens.{is_run, piece_at, brace_piece}
use Rattle.stil_tokens.proofs.StilPieces.{stil_cut}
use Rattle.stil_parts.proofs.TokenEnds.{dull}
use Rattle.design_maker.specs.Pieces.{pieces}
use Rattle.design_maker.specs.Chains.{chain_length}
use Rattle.design_maker.specs.MadeStil.{signals_text, scan_chain, structures_text, procedures_text}
use Rattle.made_law.specs.Designs.Names.{in_port, out_port, chain_name}
use Rattle.made_law.specs.Patterns.MadeHead.{head_bytes}
use Rattle.made_law.proofs.patterns.Plain.{is_letter, letter_run, letters_run, letter_apart}
use Rattle.made_law.proofs.patterns.Numbers.{decimal_letters}
use Rattle.made_law.proofs.patterns.HeadWords.{version_words, signal_words, chain_words, structure_words, procedure_words, head_words}

abbrev pub texts : List ℕ → List (List ℕ)
texts text = texts_from piece_at 0 text

prefix_is : (bs : List ℕ) (c : ℕ) (rest : List ℕ) → list_all is_run bs ≡ true → is_run c ≡ false → prefix_len is_run (bs ++ c ∷ rest) ≡ length bs
prefix_is [] c rest all stop = rw stop refl
prefix_is (b ∷ bs) c rest all stop =
    let h = and_parts (is_run b) (list_all is_run bs) all in
    let more = prefix_is bs c rest h.1 stop in
    rw (h.0, more) (omega arith)

piece_is : (b : ℕ) (bs rest : List ℕ) (c : ℕ) → list_all is_letter (b ∷ bs) ≡ true → is_run c ≡ false → piece_at (b ∷ (bs ++ c ∷ rest)) ≡ Token (length (b ∷ bs))
unfolding piece_at
piece_is b bs rest c all stop =
    let h = and_parts (is_letter b) (list_all is_letter bs) all in
    let i = dull b (letter_run b h.0) in
    let n : 1 + length bs ≡ length (b ∷ bs) = omega arith in
    rw (i.blank, i.quote, i.opening, i.closing, i.semicolon, i.other, letter_apart b 47 h.0 refl, prefix_is bs c rest (letters_run bs h.1) stop) (ap Token n)

-- a name or a number, before a byte that doesn't go on in it
pub word_texts : (w rest : List ℕ) (c : ℕ) → 0 < length w → list_all is_letter w ≡ true → is_run c ≡ false → texts (w ++ c ∷ rest) ≡ w ∷ texts (c ∷ rest)
word_texts [] rest c some all stop = absurd (omega arith)
word_texts (b ∷ bs) rest c some all stop =
    let w = b ∷ bs in
    texts-step piece_at (w ++ c ∷ rest) (Token (length w)) stil_cut (piece_is b bs rest c all stop)
    ∙ ap (λ (v : List ℕ). v ∷ texts (drop (length w) (w ++ c ∷ rest))) (take-append_seam w (c ∷ rest))
    ∙ ap (λ (v : List ℕ). w ∷ texts v) (drop-append_seam w (c ∷ rest))

-- a name with its first letters
named_texts : (b : ℕ) (bs : List ℕ) (k : ℕ) (c : ℕ) (rest : List ℕ) → list_all is_letter (b ∷ bs) ≡ true → is_run c ≡ false → texts (b ∷ bs ++ c ∷ rest) ≡ (b ∷ bs) ∷ texts (c ∷ rest)
named_texts b bs k c rest all stop = word_texts (b ∷ bs) rest c (omega arith) all stop

signals_are : (z : List ℕ) → texts (signals_text ++ z) ≡ version_words ++ (signal_words ++ texts z)
unfolding signals_text pieces digits texts_from piece_at brace_piece
signals_are z = refl

procedures_are : (z : List ℕ) → texts (procedures_text ++ z) ≡ procedure_words ++ texts z
unfolding procedures_text pieces digits texts_from piece_at brace_piece
procedures_are z = refl

block_a : (r : List ℕ) → texts (codes "  ScanChain " ++ r) ≡ codes "ScanChain" ∷ texts r
unfolding texts_from piece_at
block_a r = refl

block_b : (r : List ℕ) → texts (codes " {\n    ScanLength " ++ r) ≡ codes "{" ∷ codes "ScanLength" ∷ texts r
unfolding texts_from piece_at brace_piece
block_b r = refl

block_c : (r : List ℕ) → texts (codes "; ScanIn " ++ r) ≡ codes ";" ∷ codes "ScanIn" ∷ texts r
unfolding texts_from piece_at
block_c r = refl

block_d : (r : List ℕ) → texts (codes "; ScanOut " ++ r) ≡ codes ";" ∷ codes "ScanOut" ∷ texts r
unfolding texts_from piece_at
block_d r = refl

block_e : (r : List ℕ) → texts (codes "; ScanInversion 0;\n  }\n" ++ r) ≡ codes ";" ∷ codes "ScanInversion" ∷ codes "0" ∷ codes ";" ∷ codes "}" ∷ texts r
unfolding texts_from piece_at
block_e r = refl

-- the words of chain k, whatever stands behind them
chain_texts : (n k : ℕ) (z : List ℕ) → n ≤ 16384 → k < 8 → texts (scan_chain n k ++ z) ≡ chain_words n k ++ texts z
chain_texts n k z most lt =
    let l = chain_length n k in
    let dk = decimal k in
    let dl = decimal l in
    let ks = decimal_letters k (omega arith) in
    let ls = decimal_letters l (omega arith) in
    let e = codes "; ScanInversion 0;\n  }\n" in
    let y5 = codes "; ScanOut so" ++ (dk ++ e) in
    let y4 = codes "; ScanIn si" ++ (dk ++ y5) in
    let y3 = codes " {\n    ScanLength " ++ (dl ++ y4) in
    let r5 = e ++ z in
    let r4 = codes "; ScanOut so" ++ (dk ++ r5) in
    let r3 = codes "; ScanIn si" ++ (dk ++ r4) in
    let r2 = codes " {\n    ScanLength " ++ (dl ++ r3) in
    let c = chain_name k in
    let i = in_port k in
    let o = out_port k in
    let nested : scan_chain n k ++ z ≡ codes "  ScanChain c" ++ (dk ++ r2) =
    ap (λ (x : List ℕ). codes "  ScanChain c" ++ x) (append_assoc dk y3 z ∙ ap (λ (x : List ℕ). dk ++ (codes " {\n    ScanLength " ++ x)) (append_assoc dl y4 z
    ∙ ap (λ (x : List ℕ). dl ++ (codes "; ScanIn si" ++ x)) (append_assoc dk y5 z ∙ ap (λ (x : List ℕ). dk ++ (codes "; ScanOut so" ++ x)) (append_assoc dk e z))))
    in
    ap texts nested ∙ block_a (c ++ r2)
    ∙ ap (λ (x : List (List ℕ)). codes "ScanChain" ∷ x) (named_texts 99 dk k 32 (drop 1 r2) (rw ks refl) refl ∙ ap (λ (x : List (List ℕ)). c ∷ x) (block_b (dl ++ r3)
    ∙ ap (λ (x : List (List ℕ)). codes "{" ∷ codes "ScanLength" ∷ x) (word_texts dl (drop 1 r3) 59 (decimal_nonempty l (omega arith)) ls refl ∙ ap (λ (x : List (List ℕ)). dl ∷ x) (block_c (i ++ r4)
    ∙ ap (λ (x : List (List ℕ)). codes ";" ∷ codes "ScanIn" ∷ x) (named_texts 115 (105 ∷ dk) k 59 (drop 1 r4) (rw ks refl) refl ∙ ap (λ (x : List (List ℕ)). i ∷ x) (block_d (o ++ r5)
    ∙ ap (λ (x : List (List ℕ)). codes ";" ∷ codes "ScanOut" ∷ x) (named_texts 115 (111 ∷ dk) k 59 (drop 1 r5) (rw ks refl) refl ∙ ap (λ (x : List (List ℕ)). o ∷ x) (block_e z))))))))

-- the words of numbered pieces
abbrev pub words_to : (ℕ → List (List ℕ)) → ℕ → List (List ℕ)
words_to words zero = []
words_to words (suc m) = words_to words m ++ words m

pub pieces_texts : (piece : ℕ → List ℕ) (words : ℕ → List (List ℕ)) (most : ℕ) → ((k : ℕ) (z : List ℕ) → k < most → texts (piece k ++ z) ≡ words k ++ texts z)
    → (m : ℕ) (z : List ℕ) → m ≤ most → texts (pieces piece m ++ z) ≡ words_to words m ++ texts z
unfolding pieces
pieces_texts piece words most law zero z le = refl
pieces_texts piece words most law (suc m) z le =
    ap texts (append_assoc (pieces piece m) (piece m) z) ∙ pieces_texts piece words most law m (piece m ++ z) (omega arith)
    ∙ ap (λ (x : List (List ℕ)). words_to words m ++ x) (law m z (omega arith)) ∙ sym (append_assoc (words_to words m) (words m) (texts z))

structures_open : (r : List ℕ) → texts (codes "ScanStructures {\n" ++ r) ≡ codes "ScanStructures" ∷ codes "{" ∷ texts r
unfolding texts_from piece_at brace_piece
structures_open r = refl

structures_end : (r : List ℕ) → texts (codes "}\n" ++ r) ≡ codes "}" ∷ texts r
unfolding texts_from piece_at
structures_end r = refl

structures_are : (n : ℕ) (z : List ℕ) → n ≤ 16384 → texts (structures_text n ++ z) ≡ structure_words n ++ texts z
unfolding structures_text
structures_are n z most =
    let ps = pieces (scan_chain n) 8 in
    structures_open ((ps ++ codes "}\n") ++ z)
    ∙ ap (λ (x : List (List ℕ)). codes "ScanStructures" ∷ codes "{" ∷ x) (ap texts (append_assoc ps (codes "}\n") z)
    ∙ pieces_texts (scan_chain n) (chain_words n) 8 (λ k y lt. chain_texts n k y most lt) 8 (codes "}\n" ++ z) (omega arith)
    ∙ ap (λ (x : List (List ℕ)). words_to (chain_words n) 8 ++ x) (structures_end z))

pub head_texts : (n : ℕ) → n ≤ 16384 → texts (head_bytes n) ≡ head_words n
unfolding texts_from
head_texts n most =
    signals_are (structures_text n ++ procedures_text)
    ∙ ap (λ (x : List (List ℕ)). version_words ++ (signal_words ++ x)) (structures_are n procedures_text most
    ∙ ap (λ (x : List (List ℕ)). structure_words n ++ x) (ap texts (sym (append-nil procedures_text)) ∙ procedures_are [] ∙ append-nil procedure_words))
