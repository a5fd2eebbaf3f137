-- What the made STIL says, whole.
use Rattle.std.proofs.Common.{◌≡◌, ℕ, ◌+◌, ◌*◌, ◌<◌, ◌≤◌, Bool, List, [], ◌∷◌, ◌++◌, length, take, drop, refl, sym, ap, ◌∙◌, subst, codes, decimal, Option, None, length-append, arith}
use Rattle.std.specs.Fmt.{digits}
use Rattle.std.proofs.Math.Seq.{drop-append_seam, take-append_seam}
use Rattle.std.proofs.lemmas.Option.{same_Some}
use Rattle.stil_types.specs.declared.head.StilHead.{StilHead}
use Rattle.stil_types.specs.declared.head.ScanChainDecl.{ScanChainDecl}
use Rattle.stil_types.specs.declared.head.Callee.{Callee}
use Rattle.stil_parts.specs.declared.gap.Place.TheVariants.{Top}
use Rattle.stil_parts.specs.declared.gap.Comment.TheVariants.{Outside}
use Rattle.stil_parts.specs.declared.gap.Point.{Point}
use Rattle.stil_parts.specs.Coming.{moved, to_come}
use Rattle.stil_calls.specs.declared.judging.Judging.TheVariants.{Lengths}
use Rattle.stil_calls.specs.Parts.{judge_by}
use Rattle.stil_head.specs.Heads.{DenotesHead}
use Rattle.stil_reader.specs.Sayings.{Told, beginning, told, told_by, told_before, told_whole}
use Rattle.stil_reader.specs.Patterns.{names_in, statements_in, patterns_told}
use Rattle.design_maker.specs.Pieces.{pieces}
use Rattle.design_maker.specs.Chains.{chain_length}
use Rattle.design_maker.specs.MadeStil.{signals_text, scan_chain, structures_text, procedures_text, pattern_text, stil_text}
use Rattle.design_maker.proofs.Sizes.{small_texts}
use Rattle.made_law.specs.Patterns.MadeHead.{BlockPlace, head_bytes, made_head}
use Rattle.made_law.specs.Patterns.MadePatterns.{made_statements}
use Rattle.made_law.specs.Patterns.Laws.{PatternsLaw, NoPatternFaultLaw}
use Rattle.made_law.proofs.patterns.Numbers.{decimal_letters}
use Rattle.made_law.proofs.patterns.HeadEnds.{stil_parts}
use Rattle.made_law.proofs.patterns.Denoting.{head_law, text_law}
use Rattle.made_law.proofs.patterns.CallTexts.{feeds, feeds_append, no_feeds, pieces_feeds}
use Rattle.made_law.proofs.patterns.Comes.{point, Says}
use Rattle.made_law.proofs.patterns.Patterns.{tells_pattern}

chain_feeds : (n k : ℕ) → n ≤ 16384 → k < 8 → feeds (scan_chain n k) ≡ 3
chain_feeds n k most lt =
    let dk = decimal k in
    let dl = decimal (chain_length n k) in
    let x4 = codes "; ScanInversion 0;\n  }\n" in
    let x3 = codes "; ScanOut so" ++ (dk ++ x4) in
    let x2 = codes "; ScanIn si" ++ (dk ++ x3) in
    let x1 = codes " {\n    ScanLength " ++ (dl ++ x2) in
    let a0 = feeds_append (codes "  ScanChain c") (dk ++ x1) in
    let a1 = feeds_append dk x1 in
    let a2 = feeds_append (codes " {\n    ScanLength ") (dl ++ x2) in
    let a3 = feeds_append dl x2 in
    let a4 = feeds_append (codes "; ScanIn si") (dk ++ x3) in
    let a5 = feeds_append dk x3 in
    let a6 = feeds_append (codes "; ScanOut so") (dk ++ x4) in
    let a7 = feeds_append dk x4 in
    let ks = no_feeds dk (decimal_letters k (omega arith)) in
    let ls = no_feeds dl (decimal_letters (chain_length n k) (omega arith)) in
    let e0 : feeds (codes "  ScanChain c") ≡ 0 = refl in
    let e2 : feeds (codes " {\n    ScanLength ") ≡ 1 = refl in
    let e4 : feeds (codes "; ScanIn si") ≡ 0 = refl in
    let e6 : feeds (codes "; ScanOut so") ≡ 0 = refl in
    let e8 : feeds x4 ≡ 2 = refl in
    a0 ∙ sum (feeds (codes "  ScanChain c")) (feeds (dk ++ x1)) e0 (a1 ∙ sum (feeds dk) (feeds x1) ks (a2 ∙ both_of 1 2 (feeds (codes " {\n    ScanLength ")) (feeds (dl ++ x2)) e2
    (a3 ∙ both_of 0 2 (feeds dl) (feeds x2) ls (a4 ∙ both_of 0 2 (feeds (codes "; ScanIn si")) (feeds (dk ++ x3)) e4 (a5 ∙ both_of 0 2 (feeds dk) (feeds x3) ks
    (a6 ∙ both_of 0 2 (feeds (codes "; ScanOut so")) (feeds (dk ++ x4)) e6 (a7 ∙ both_of 0 2 (feeds dk) (feeds x4) ks e8)))))))
  where
    both_of : (a b x y : ℕ) → x ≡ a → y ≡ b → x + y ≡ a + b
    both_of a b x y e f = rw (e, f) refl

    sum : (x y : ℕ) → x ≡ 0 → y ≡ 3 → x + y ≡ 3
    sum x y e f = rw (e, f) refl

signals_feeds : feeds signals_text ≡ 2
unfolding signals_text pieces digits
signals_feeds = refl

procedures_feeds : feeds procedures_text ≡ 4
unfolding procedures_text pieces digits
procedures_feeds = refl

structures_feeds : (n : ℕ) → n ≤ 16384 → feeds (structures_text n) ≡ 26
unfolding structures_text
structures_feeds n most =
    let mid = pieces (scan_chain n) 8 in
    let a = feeds_append (codes "ScanStructures {\n") (mid ++ codes "}\n") in
    let b = feeds_append mid (codes "}\n") in
    let c = pieces_feeds (scan_chain n) 8 3 (λ k lt. chain_feeds n k most lt) 8 (omega arith) in
    let d : feeds (codes "ScanStructures {\n") ≡ 1 = refl in
    let e : feeds (codes "}\n") ≡ 1 = refl in
    a ∙ sum (feeds (codes "ScanStructures {\n")) (feeds (mid ++ codes "}\n")) (feeds mid) (feeds (codes "}\n")) d b c e
  where
    sum : (w x y z : ℕ) → w ≡ 1 → x ≡ y + z → y ≡ 3 * 8 → z ≡ 1 → w + x ≡ 26
    sum w x y z d b c e = omega (arith, d, b, c, e)

head_feeds : (n : ℕ) → n ≤ 16384 → feeds (head_bytes n) ≡ 32
head_feeds n most =
    feeds_append signals_text (structures_text n ++ procedures_text)
    ∙ sum (feeds signals_text) (feeds (structures_text n ++ procedures_text)) (feeds (structures_text n)) (feeds procedures_text) signals_feeds (feeds_append (structures_text n) procedures_text) (structures_feeds n most) procedures_feeds
  where
    sum : (w x y z : ℕ) → w ≡ 2 → x ≡ y + z → y ≡ 26 → z ≡ 4 → w + x ≡ 32
    sum w x y z d b c e = omega (arith, d, b, c, e)

told_is : (n : ℕ) (at : ℕ → BlockPlace) → n ≤ 16384 → patterns_told Lengths (made_head at n) (stil_text n) ≡ told (made_head at n) (to_come (judge_by Lengths (made_head at n)) (point (length (head_bytes n)) 33 0 Top) 0 (pattern_text n))
told_is n at most =
    let head = made_head at n in
    let h = head_bytes n in
    let p = pattern_text n in
    let e = length h in
    let here : moved beginning h Top Outside ≡ point e 33 0 Top =
    let given : 0 + length h ≡ e = omega arith in
    let line : 1 + feeds h ≡ 33 = let f = head_feeds n most in omega (arith, f) in
    ap (λ (g : ℕ). point g (1 + feeds h) 0 Top) given ∙ ap (λ (l : ℕ). point e l 0 Top) line
    in
    ap (λ (b : List ℕ). told_by Lengths head (moved beginning (take e b) Top Outside) (drop e b)) (stil_parts n)
    ∙ ap (λ (t : List ℕ). told_by Lengths head (moved beginning t Top Outside) (drop e (h ++ p))) (take-append_seam h p)
    ∙ ap (λ (d : List ℕ). told_by Lengths head (moved beginning h Top Outside) d) (drop-append_seam h p)
    ∙ ap (λ (q : Point). told_by Lengths head q p) here

said : (n : ℕ) (at : ℕ → BlockPlace) → 8 ≤ n → n ≤ 16384
    → Says (made_head at n) (to_come (judge_by Lengths (made_head at n)) (point (length (head_bytes n)) 33 0 Top) 0 (pattern_text n)) (codes "p" ∷ []) (made_statements n)
said n at least most =
    let size = (small_texts n least most).stil in
    let parts = ap (λ (l : List ℕ). length l) (stil_parts n) in
    let sum = length-append (head_bytes n) (pattern_text n) in
    tells_pattern n least most at (length (head_bytes n)) (omega (arith, size, parts, sum))

pub patterns_law : PatternsLaw
patterns_law n at least most =
    let s = said n at least most in
    let e = told_is n at most in
    record {
      head_is = refl;
      sound = ap (λ (t : Told). t.fault) e ∙ s.sound;
      patterns = sym (ap (λ (t : Told). names_in t.says) e ∙ s.names_are);
      statements = sym (ap (λ (t : Told). statements_in t.says) e ∙ s.statements_are);
    }

-- a text denotes one head at most
same_head : (g h : StilHead) → g.chains ≡ h.chains → g.procedures ≡ h.procedures → g.macros ≡ h.macros → g.keywords ≡ h.keywords → g.marks ≡ h.marks → g.end ≡ h.end → g ≡ h
same_head g h a b c d e f =
    ap (λ (x : List ScanChainDecl). record { chains = x; procedures = g.procedures; macros = g.macros; keywords = g.keywords; marks = g.marks; end = g.end }) a
    ∙ ap (λ (x : List Callee). record { chains = h.chains; procedures = x; macros = g.macros; keywords = g.keywords; marks = g.marks; end = g.end }) b
    ∙ ap (λ (x : List Callee). record { chains = h.chains; procedures = h.procedures; macros = x; keywords = g.keywords; marks = g.marks; end = g.end }) c
    ∙ ap (λ (x : List (List ℕ)). record { chains = h.chains; procedures = h.procedures; macros = h.macros; keywords = x; marks = g.marks; end = g.end }) d
    ∙ ap (λ (x : Bool). record { chains = h.chains; procedures = h.procedures; macros = h.macros; keywords = h.keywords; marks = x; end = g.end }) e
    ∙ ap (λ (x : ℕ). record { chains = h.chains; procedures = h.procedures; macros = h.macros; keywords = h.keywords; marks = h.marks; end = x }) f

pub one_head : (bytes : List ℕ) (g h : StilHead) → DenotesHead bytes g → DenotesHead bytes h → g ≡ h
one_head bytes g h d e =
    let s = d.says in
    let t = e.says in
    same_head g h (s.chains ∙ sym t.chains) (s.procedures ∙ sym t.procedures) (s.macros ∙ sym t.macros) (s.keywords ∙ sym t.keywords) (s.marks ∙ sym t.marks) (same_Some _ _ (sym d.ends ∙ e.ends))

pub no_pattern_fault : NoPatternFaultLaw
no_pattern_fault n head least most d =
    let m = head_law n least most in
    let text = text_law n least most in
    let stil = stil_text n in
    let same : head ≡ made_head m.at n = one_head (head_bytes n) head (made_head m.at n) d m.denotes in
    subst (λ (x : StilHead). (told_whole x stil).fault ≡ None) (sym same)
    (ap (λ (o : Option ℕ). (told_before (made_head m.at n) beginning stil o).fault) text.shown ∙ (patterns_law n m.at least most).sound)
