-- Where the made head ends.
use Rattle.std.proofs.Common.{◌≡◌, ℕ, zero, suc, ◌+◌, ◌-◌, ◌<◌, ◌≤◌, Bool, true, false, List, [], ◌∷◌, ◌++◌, length, refl, sym, ap, ◌∙◌, append_assoc, append-nil, length-append, codes, decimal, Option, Some, None, arith}
use Rattle.std.specs.List.{list_all, concat}
use Rattle.std.specs.Fmt.{digits}
use Rattle.std.proofs.lemmas.Fmt.{decimal_nonempty}
use Rattle.std.proofs.lemmas.Bool.{and_parts}
use Rattle.stil_parts.specs.declared.gap.Comment.TheVariants.{Outside}
use Rattle.stil_parts.specs.declared.word.Word.TheVariants.{Known}
use Rattle.stil_parts.specs.declared.head.HeadTurn.TheVariants.{Passed, Here}
use Rattle.stil_parts.specs.declared.gap.Comment.{Comment}
use Rattle.stil_parts.specs.declared.scan.Scan.{Scan}
use Rattle.stil_parts.specs.declared.scan.After.TheVariants.{Goes}
use Rattle.stil_parts.specs.Scanner.{end_of, run, step, mode_step, run_step, mark_step, free_step, later, found}
use Rattle.stil_parts.specs.Gaps.{gap_at, outside_gap}
use Rattle.stil_parts.specs.Parts.{begin}
use Rattle.stil_parts.specs.Heads.{word_of, head_turn, head_end, statement_turn}
use Rattle.stil_parts.proofs.TokenEnds.{dull}
use Rattle.design_maker.specs.Pieces.{pieces, between}
use Rattle.design_maker.specs.Chains.{chain_length}
use Rattle.design_maker.specs.MadeStil.{signals_text, scan_chain, structures_text, shifted, procedures_text, pattern_text, first_call, later_call, stil_text}
use Rattle.made_law.specs.Patterns.MadeHead.{head_bytes}
use Rattle.made_law.proofs.patterns.Plain.{is_letter, letter_run, letters_run, letter_apart}
use Rattle.made_law.proofs.patterns.Numbers.{decimal_letters}
use Rattle.made_law.proofs.patterns.Scans.{Through, over, through_both, through_none, at_mode, in_run, run_through}

one_letter : (depth b : ℕ) → is_letter b ≡ true → step (at_mode depth) b ≡ Goes (in_run depth)
unfolding step mode_step free_step run_step mark_step
one_letter depth b l = let i = dull b (letter_run b l) in rw (letter_apart b 47 l refl, i.blank, i.quote, i.semicolon, i.closing, i.opening, i.other) refl

-- a name or a number
pub letters_through : (depth : ℕ) (w : List ℕ) → 0 < length w → list_all is_letter w ≡ true → Through (at_mode depth) w (in_run depth)
unfolding end_of run
letters_through depth [] some all = absurd (omega arith)
letters_through depth (b ∷ bs) some all =
    let h = and_parts (is_letter b) (list_all is_letter bs) all in
    let more = run_through depth bs (letters_run bs h.1) in
    record { none = rw (end_of, one_letter depth b h.0, more.none) refl; reaches = rw (run, one_letter depth b h.0) more.reaches }

through_a : Through (at_mode 1) (codes "  ScanChain c") (in_run 1)
unfolding end_of run step mode_step free_step run_step mark_step
through_a = record { none = refl; reaches = refl }

through_b : Through (in_run 1) (codes " {\n    ScanLength ") (at_mode 2)
unfolding end_of run step mode_step free_step run_step mark_step
through_b = record { none = refl; reaches = refl }

through_c : Through (in_run 2) (codes "; ScanIn si") (in_run 2)
unfolding end_of run step mode_step free_step run_step mark_step
through_c = record { none = refl; reaches = refl }

through_d : Through (in_run 2) (codes "; ScanOut so") (in_run 2)
unfolding end_of run step mode_step free_step run_step mark_step
through_d = record { none = refl; reaches = refl }

through_e : Through (in_run 2) (codes "; ScanInversion 0;\n  }\n") (at_mode 1)
unfolding end_of run step mode_step free_step run_step mark_step
through_e = record { none = refl; reaches = refl }

chain_through : (n k : ℕ) → n ≤ 16384 → k < 8 → Through (at_mode 1) (scan_chain n k) (at_mode 1)
chain_through n k most lt =
    let l = chain_length n k in
    let dk = decimal k in
    let dl = decimal l in
    let ks = letters_run dk (decimal_letters k (omega arith)) in
    let e = codes "; ScanInversion 0;\n  }\n" in
    let y5 = codes "; ScanOut so" ++ (dk ++ e) in
    let y4 = codes "; ScanIn si" ++ (dk ++ y5) in
    let y3 = codes " {\n    ScanLength " ++ (dl ++ y4) in
    let t5 = through_both (in_run 2) (in_run 2) (at_mode 1) (codes "; ScanOut so") (dk ++ e) through_d (through_both (in_run 2) (in_run 2) (at_mode 1) dk e (run_through 2 dk ks) through_e) in
    let t4 = through_both (in_run 2) (in_run 2) (at_mode 1) (codes "; ScanIn si") (dk ++ y5) through_c (through_both (in_run 2) (in_run 2) (at_mode 1) dk y5 (run_through 2 dk ks) t5) in
    let t3 = through_both (in_run 1) (at_mode 2) (at_mode 1) (codes " {\n    ScanLength ") (dl ++ y4) through_b
    (through_both (at_mode 2) (in_run 2) (at_mode 1) dl y4 (letters_through 2 dl (decimal_nonempty l (omega arith)) (decimal_letters l (omega arith))) t4)
    in
    through_both (at_mode 1) (in_run 1) (at_mode 1) (codes "  ScanChain c") (dk ++ y3) through_a (through_both (in_run 1) (in_run 1) (at_mode 1) dk y3 (run_through 1 dk ks) t3)

pub pieces_through : (s : Scan) (piece : ℕ → List ℕ) (most : ℕ) → ((k : ℕ) → k < most → Through s (piece k) s) → (m : ℕ) → m ≤ most → Through s (pieces piece m) s
unfolding pieces
pieces_through s piece most law zero le = through_none s
pieces_through s piece most law (suc m) le = through_both s s s (pieces piece m) (piece m) (pieces_through s piece most law m (omega arith)) (law m (omega arith))

-- where a head ends so many bytes later
abbrev pub plus : ℕ → Option ℕ → Option ℕ
plus n None = None
plus n (Some m) = Some (n + m)

plus_plus : (m n : ℕ) (o : Option ℕ) → plus m (plus n o) ≡ plus (m + n) o
plus_plus m n None = refl
plus_plus m n (Some k) = ap Some (omega arith)

skip : (c : Comment) (x y : List ℕ) → head_end true c (length x) (x ++ y) ≡ plus (length x) (head_end true c 0 y)
unfolding head_end
skip c [] y = plus_zero (head_end true c 0 y)
  where
    plus_zero : (o : Option ℕ) → o ≡ plus 0 o
    plus_zero None = refl
    plus_zero (Some m) = ap Some (omega arith)
skip c (b ∷ bs) y = ap (plus 1) (skip c bs y) ∙ plus_plus 1 (length bs) (head_end true c 0 y) ∙ ap (λ (n : ℕ). plus n (head_end true c 0 y)) (let e : 1 + length bs ≡ length (b ∷ bs) = omega arith in e)

-- a statement that is no Pattern
part_passes : (b : ℕ) (bs y : List ℕ) → head_turn true Outside (b ∷ (bs ++ y)) ≡ Some (Passed (length (b ∷ bs)) Outside) → head_end true Outside 0 (b ∷ (bs ++ y)) ≡ plus (length (b ∷ bs)) (head_end true Outside 0 y)
unfolding head_end
part_passes b bs y e =
    let n : length (b ∷ bs) - 1 ≡ length bs = omega arith in
    let m : 1 + length bs ≡ length (b ∷ bs) = omega arith in
    rw (head_end, e, n, skip Outside bs y) (plus_plus 1 (length bs) (head_end true Outside 0 y) ∙ ap (λ (k : ℕ). plus k (head_end true Outside 0 y)) m)

version_turn : (y : List ℕ) → head_turn true Outside (codes "STIL 1.0;" ++ y) ≡ Some (Passed 9 Outside)
unfolding head_turn gap_at outside_gap word_of end_of step mode_step free_step run_step mark_step
version_turn y = refl

line_turn : (y : List ℕ) → head_turn true Outside (10 ∷ y) ≡ Some (Passed 1 Outside)
unfolding head_turn gap_at outside_gap
line_turn y = refl

line_passes : (y : List ℕ) → head_end true Outside 0 (10 ∷ y) ≡ plus 1 (head_end true Outside 0 y)
line_passes y = part_passes 10 [] y (line_turn y)

-- behind the first letter
abbrev signal_rest : List ℕ
signal_rest =
    concat (codes "ignals { clk In; se In; d In;" ∷ pieces (between (codes " si") (codes " In { ScanIn; }")) 8 ∷ pieces (between (codes " so") (codes " Out { ScanOut; }")) 8 ∷ codes " }" ∷ [])

signals_turn : (y : List ℕ) → head_turn true Outside (83 ∷ (signal_rest ++ y)) ≡ Some (Passed (length (83 ∷ signal_rest)) Outside)
unfolding pieces digits head_turn gap_at outside_gap word_of end_of step mode_step free_step run_step mark_step
signals_turn y = refl

signals_nested : (y : List ℕ) → signals_text ++ y ≡ codes "STIL 1.0;" ++ (10 ∷ (83 ∷ (signal_rest ++ (10 ∷ y))))
unfolding signals_text pieces digits
signals_nested y = refl

signals_length : length signals_text ≡ 9 + (1 + (length (83 ∷ signal_rest) + 1))
unfolding signals_text pieces digits
signals_length = refl

signals_pass : (y : List ℕ) → head_end true Outside 0 (signals_text ++ y) ≡ plus (length signals_text) (head_end true Outside 0 y)
signals_pass y =
    let m = length (83 ∷ signal_rest) in
    let o = head_end true Outside 0 y in
    ap (head_end true Outside 0) (signals_nested y) ∙ part_passes 83 (codes "TIL 1.0;") (10 ∷ (83 ∷ (signal_rest ++ (10 ∷ y)))) (version_turn (10 ∷ (83 ∷ (signal_rest ++ (10 ∷ y)))))
    ∙ ap (plus 9) (line_passes (83 ∷ (signal_rest ++ (10 ∷ y))) ∙ ap (plus 1) (part_passes 83 signal_rest (10 ∷ y) (signals_turn (10 ∷ y)) ∙ ap (plus m) (line_passes y) ∙ plus_plus m 1 o) ∙ plus_plus 1 (m + 1) o)
    ∙ plus_plus 9 (1 + (m + 1)) o ∙ ap (λ (k : ℕ). plus k o) (sym signals_length)

structures_turn : (r : List ℕ) → head_turn true Outside (codes "ScanStructures {\n" ++ r) ≡ statement_turn (Some false) (end_of true (begin (Known false)) (codes "ScanStructures {\n" ++ r))
unfolding head_turn gap_at outside_gap word_of step mode_step free_step run_step mark_step
structures_turn r = refl

structures_start : Through (begin (Known false)) (codes "ScanStructures {\n") (at_mode 1)
unfolding end_of run step mode_step free_step run_step mark_step
structures_start = record { none = refl; reaches = refl }

brace_ends : (last : Bool) (r : List ℕ) → end_of last (at_mode 1) (125 ∷ r) ≡ Some (found 1 false)
unfolding end_of step mode_step free_step run_step mark_step
brace_ends last r = refl

structures_pass : (n : ℕ) (y : List ℕ) → n ≤ 16384 → head_end true Outside 0 (structures_text n ++ y) ≡ plus (length (structures_text n)) (head_end true Outside 0 y)
unfolding structures_text
structures_pass n y most =
    let mid = pieces (scan_chain n) 8 in
    let o = head_end true Outside 0 y in
    let bs = codes "canStructures {\n" ++ (mid ++ 125 ∷ []) in
    let m = length (83 ∷ bs) in
    let ends : end_of true (begin (Known false)) (codes "ScanStructures {\n" ++ (mid ++ (125 ∷ 10 ∷ y))) ≡ Some (found (17 + (length mid + 1)) false) =
    over true (begin (Known false)) (at_mode 1) (codes "ScanStructures {\n") (mid ++ (125 ∷ 10 ∷ y)) structures_start
    ∙ ap (later 17) (over true (at_mode 1) (at_mode 1) mid (125 ∷ 10 ∷ y) (pieces_through (at_mode 1) (scan_chain n) 8 (λ k lt. chain_through n k most lt) 8 (omega arith))
    ∙ ap (later (length mid)) (brace_ends true (10 ∷ y)))
    in
    let count : 17 + (length mid + 1) ≡ m = simp length-append (omega arith) in
    let turn : head_turn true Outside (codes "ScanStructures {\n" ++ (mid ++ (125 ∷ 10 ∷ y))) ≡ Some (Passed m Outside) =
    structures_turn (mid ++ (125 ∷ 10 ∷ y)) ∙ ap (statement_turn (Some false)) ends ∙ ap (λ (k : ℕ). Some (Passed k Outside)) count
    in
    let seam : codes "ScanStructures {\n" ++ (mid ++ (125 ∷ 10 ∷ y)) ≡ 83 ∷ (bs ++ (10 ∷ y)) = ap (λ (l : List ℕ). codes "ScanStructures {\n" ++ l) (sym (append_assoc mid (125 ∷ []) (10 ∷ y))) in
    let all : m + 1 ≡ length (structures_text n) = simp length-append (omega arith) in
    ap (λ (l : List ℕ). head_end true Outside 0 (codes "ScanStructures {\n" ++ l)) (append_assoc mid (codes "}\n") y) ∙ ap (head_end true Outside 0) seam
    ∙ part_passes 83 bs (10 ∷ y) (ap (head_turn true Outside) (sym seam) ∙ turn) ∙ ap (plus m) (line_passes y) ∙ plus_plus m 1 o ∙ ap (λ (k : ℕ). plus k o) all

abbrev procedure_rest : List ℕ
procedure_rest =
    concat (codes "rocedures {\n  load_unload { W t1; C { se=1; } Shift { V { clk=P;" ∷ pieces shifted 8 ∷ codes " } } }\n  capture { W t1; V { se=0; clk=P; } }\n}" ∷ [])

procedures_turn : (y : List ℕ) → head_turn true Outside (80 ∷ (procedure_rest ++ y)) ≡ Some (Passed (length (80 ∷ procedure_rest)) Outside)
unfolding pieces digits head_turn gap_at outside_gap word_of end_of step mode_step free_step run_step mark_step
procedures_turn y = refl

procedures_nested : (y : List ℕ) → procedures_text ++ y ≡ 80 ∷ (procedure_rest ++ (10 ∷ y))
unfolding procedures_text pieces digits
procedures_nested y = refl

procedures_length : length procedures_text ≡ length (80 ∷ procedure_rest) + 1
unfolding procedures_text pieces digits
procedures_length = refl

procedures_pass : (y : List ℕ) → head_end true Outside 0 (procedures_text ++ y) ≡ plus (length procedures_text) (head_end true Outside 0 y)
procedures_pass y =
    let m = length (80 ∷ procedure_rest) in
    let o = head_end true Outside 0 y in
    ap (head_end true Outside 0) (procedures_nested y) ∙ part_passes 80 procedure_rest (10 ∷ y) (procedures_turn (10 ∷ y)) ∙ ap (plus m) (line_passes y) ∙ plus_plus m 1 o
    ∙ ap (λ (k : ℕ). plus k o) (sym procedures_length)

-- the head, whatever stands behind it
head_passes : (n : ℕ) (y : List ℕ) → n ≤ 16384 → head_end true Outside 0 (signals_text ++ (structures_text n ++ (procedures_text ++ y))) ≡ plus (length (head_bytes n)) (head_end true Outside 0 y)
head_passes n y most =
    let o = head_end true Outside 0 y in
    let a = length signals_text in
    let b = length (structures_text n) in
    let c = length procedures_text in
    let all : a + (b + c) ≡ length (head_bytes n) = simp length-append (omega arith) in
    signals_pass (structures_text n ++ (procedures_text ++ y))
    ∙ ap (plus a) (structures_pass n (procedures_text ++ y) most ∙ ap (plus b) (procedures_pass y) ∙ plus_plus b c o)
    ∙ plus_plus a (b + c) o ∙ ap (λ (k : ℕ). plus k o) all

nothing_ends : head_end true Outside 0 [] ≡ Some 0
unfolding head_end
nothing_ends = refl

pattern_turn : (r : List ℕ) → head_turn true Outside (codes "Pattern p {\n" ++ r) ≡ Some Here
unfolding head_turn gap_at outside_gap word_of step mode_step free_step run_step mark_step
pattern_turn r = refl

pattern_ends : (n : ℕ) (y : List ℕ) → head_end true Outside 0 (pattern_text n ++ y) ≡ Some 0
unfolding head_end pattern_text
pattern_ends n y = rw (head_end, pattern_turn ((first_call n ++ (pieces (λ r. later_call n (r + 1)) 15 ++ codes "}\n")) ++ y)) refl

-- the made STIL is its head and its pattern
pub stil_parts : (n : ℕ) → stil_text n ≡ head_bytes n ++ pattern_text n
unfolding stil_text
stil_parts n =
    ap (λ (l : List ℕ). signals_text ++ (structures_text n ++ (procedures_text ++ l))) (append-nil (pattern_text n))
    ∙ ap (λ (l : List ℕ). signals_text ++ l) (sym (append_assoc (structures_text n) procedures_text (pattern_text n)))
    ∙ sym (append_assoc signals_text (structures_text n ++ procedures_text) (pattern_text n))

pub whole_ends : (n : ℕ) → n ≤ 16384 → head_end true Outside 0 (stil_text n) ≡ Some (length (head_bytes n))
unfolding stil_text
whole_ends n most =
    let e : length (head_bytes n) + 0 ≡ length (head_bytes n) = omega arith in
    head_passes n (pattern_text n ++ []) most ∙ ap (plus (length (head_bytes n))) (pattern_ends n []) ∙ ap Some e

pub head_alone_ends : (n : ℕ) → n ≤ 16384 → head_end true Outside 0 (head_bytes n) ≡ Some (length (head_bytes n))
head_alone_ends n most =
    let e : length (head_bytes n) + 0 ≡ length (head_bytes n) = omega arith in
    ap (λ (l : List ℕ). head_end true Outside 0 (signals_text ++ (structures_text n ++ l))) (sym (append-nil procedures_text))
    ∙ head_passes n [] most ∙ ap (plus (length (head_bytes n))) nothing_ends ∙ ap Some e
