-- A written Loop stands for the read one.
use Rattle.std.proofs.Common.{◌≡◌, ℕ, ◌+◌, ◌-◌, ◌<◌, ◌≤◌, Bool, true, false, cond, ◌||◌, not, filter, List, [], ◌∷◌, ◌++◌, length, take, drop, map, codes, Option, Some, None, refl, sym, ap, ◌∙◌, subst, arith, append_assoc, length-append}
use Rattle.std.specs.List.{AllByRecursion as Each, list_any}
use Rattle.std.specs.Str.{bytes_eq}
use Rattle.std.proofs.lemmas.Bool.{true≢false}
use Rattle.std.proofs.lemmas.List.{append-nil, take-append-drop, drop-drop}
use Rattle.token_forms.specs.declared.piece.Piece.TheVariants.{Token as token}
use Rattle.token_forms.specs.Tokens.{Token}
use Rattle.stil_tokens.specs.StilTokens.{piece_at, tokens_in}
use Rattle.stil_tokens.specs.StilStatements.{is_closed, stil_statements}
use Rattle.stil_types.specs.declared.head.ScanChainDecl.{ScanChainDecl}
use Rattle.stil_types.specs.declared.head.StilHead.{StilHead}
use Rattle.stil_types.specs.declared.statement.ScanCall.{ScanCall}
use Rattle.stil_types.specs.declared.statement.BodyStatement.{BodyStatement}
use Rattle.stil_types.specs.declared.statement.PatternStatement.TheVariants as statements
use Rattle.stil_parts.specs.declared.word.Word.TheVariants.{Known}
use Rattle.stil_parts.specs.Scanner.{end_of}
use Rattle.stil_parts.specs.Parts.{begin}
use Rattle.stil_parts.specs.Ending.{statement_end}
use Rattle.stil_parts.proofs.EndLaw.{end_law}
use Rattle.stil_syntax.specs.declared.shape.Shape.{Shape}
use Rattle.stil_syntax.specs.declared.shape.Shape.TheVariants.{NoForm, Unsupported, Other, Scan, Loop}
use Rattle.stil_syntax.specs.Names.{is_word}
use Rattle.stil_syntax.specs.Shapes.{is_call, is_scan_call, before_block, in_block, loop_times, body_statements, unlabelled_shape, behind_labels, closes_nothing, shape_of}
use Rattle.stil_syntax.proofs.Labelled.{labels_law}
use Rattle.stil_calls.specs.declared.judging.Judging.TheVariants.{Lengths}
use Rattle.stil_calls.specs.Faults.{body_fault, shape_fault, fault_by}
use Rattle.stil_calls.specs.Statements.{body_of, statement_of}
use Rattle.stil_tester.specs.declared.chains.Chains.{Chains}
use Rattle.stil_tester.specs.Meaning.{BlocksAlike, BlocksShowSame}
use Rattle.stil_tester.specs.Runs.{bytes_in as slice}
use Rattle.stil_writer.specs.Calls.{brace_end, written_scan}
use Rattle.stil_writer.specs.Laws.{SameFront}
use Rattle.stil_writer.proofs.Lays.{bytes_in, AreLaid, laid, Found, find}
use Rattle.stil_writer.proofs.Blocks.{close_piece}
use Rattle.stil_writer.proofs.Closed.{Closing, plain_laid, flat, flat_closed, front_ends}
use Rattle.stil_writer.proofs.Transfer.{IsPlainToken, each_behind}
use Rattle.stil_writer.proofs.Heads.{labels_on}
use Rattle.stil_written.specs.Written.{with_chains, IsWhole, IsStated, ReadsAs, IsRewritten}
use Rattle.stil_written.specs.Laws.{IsKept}
use Rattle.stil_written.specs.Readings.{reading, heading_of}
use Rattle.pattern_laws.specs.Laws.{SamePorts, IsMove, LoopLaw, AreRisingIn, RisingLaw, IsStillCall, StillLoopLaw}
use Rattle.pattern_laws.proofs.Headings.{heading_law}
use Rattle.stil_writer.specs.Loops.{written_part, calls_left, loop_from, written_loop, call_moved, calls_moved}
use Rattle.stil_writer.proofs.ReadAgain.{bytes_append, laid_append, are_append, all_tokens, found_at, place_of_end, none_within, two_same}
use Rattle.pattern_laws.proofs.Cuts.{Pieces, Seg, all_pieces, runs, IsRunSeg, are_front, laid_stays, cut, Segs, segs_of, AreRenewed, renewed_runs, renewed_first, renewed_laid}
use Rattle.pattern_laws.proofs.Moves.{unmoved}
use Rattle.pattern_laws.proofs.Bodies.{is_full, AreKept, kept_renewed, any_kept, BlockOf, blocks, writes, keep_all, rises, left_moved}
use Rattle.pattern_laws.proofs.Enclosed.{Whole, pieces_of, Closed, close_of, block_closes, form_parts, kept_safe, block_closed}
use Rattle.pattern_laws.proofs.Forms.{IsLoop, find_loop, make_loop, before_plain, block_in, has_brace}

abbrev brace_at : ℕ → Token
brace_at n = record { text = 123 ∷ []; start = n; end = n + 1 }

-- a Loop's form, and its statements
record IsStatedLoop (head : StilHead) (at : ℕ) (text : List ℕ) (times line : ℕ) (body : List BodyStatement) (shape : Shape) : Type 0 where
  tokens : List Token
  is : shape ≡ Loop times tokens
  body_is : body ≡ map (body_of head at text) (body_statements tokens)

stated_loop : (head : StilHead) (pattern at : ℕ) (text : List ℕ) (times line : ℕ) (body : List BodyStatement) (shape : Shape) → statement_of head pattern at text shape ≡ Some (statements.Loop pattern text times body line)
    → IsStatedLoop head at text times line body shape
stated_loop head pattern at text times line body NoForm e = absurd cc
stated_loop head pattern at text times line body Unsupported e = absurd cc
stated_loop head pattern at text times line body Other e = absurd cc
stated_loop head pattern at text times line body (Scan items) e = absurd cc
stated_loop head pattern at text times line body (Loop n tokens) e =
    let k : n ≡ times = cc in
    let m : map (body_of head at text) (body_statements tokens) ≡ body = cc in
    record { tokens = tokens; is = ap (λ (i : ℕ). Loop i tokens) k; body_is = sym m }

body_sound : (head : StilHead) (line : ℕ) (text : List ℕ) (times : ℕ) (tokens : List Token) → shape_of head false (tokens_in text) ≡ Loop times tokens → fault_by Lengths head line text ≡ None → body_fault Lengths head line text (body_statements tokens) ≡ None
unfolding fault_by
body_sound head line text times tokens is e = sym (ap (shape_fault Lengths head line text) is) ∙ e

loop_sound : (head : StilHead) (line : ℕ) (text : List ℕ) (times : ℕ) (tokens : List Token) → shape_of head false (tokens_in text) ≡ Loop times tokens → body_fault Lengths head line text (body_statements tokens) ≡ None → fault_by Lengths head line text ≡ None
unfolding fault_by
loop_sound head line text times tokens is e = ap (shape_fault Lengths head line text) is ∙ e

form_from : (head : StilHead) (inside : Bool) (ts : List Token) (b : Shape) → is_closed ts ≡ true → closes_nothing 0 ts ≡ false → unlabelled_shape head inside (behind_labels ts) ≡ b → shape_of head inside ts ≡ b
unfolding shape_of
form_from head inside ts b c s u =
    ap (λ (t : Bool). cond (not t || closes_nothing 0 ts) NoForm (unlabelled_shape head inside (behind_labels ts))) c
    ∙ ap (λ (t : Bool). cond t NoForm (unlabelled_shape head inside (behind_labels ts))) s ∙ u

-- the word of the Loop stands before its brace
record Before (head : StilHead) (front : List Token) (b : Token) (rest : List Token) (times : ℕ) (body : List Token) : Type 0 where
  word : Token
  us : List Token
  cut : behind_labels front ≡ word ∷ us
  plain : Each IsPlainToken us
  is_word_there : is_word word.text ≡ true
  calls : is_call word.text ≡ false
  loops : bytes_eq word.text (codes "Loop") ≡ true
  any : list_any (is_scan_call head) (stil_statements (in_block (us ++ b ∷ rest))) ≡ true
  times_is : loop_times us ≡ Some times
  body_is : body ≡ in_block (us ++ b ∷ rest)

before_of : (head : StilHead) (front : List Token) (b : Token) (rest : List Token) (times : ℕ) (body ls : List Token) → b.text ≡ 123 ∷ [] → behind_labels front ≡ ls → Each IsPlainToken ls → IsLoop head (ls ++ b ∷ rest) times body → Before head front b rest times body
before_of head front b rest times body [] brace e p l = absurd (let k : b ≡ l.word = let c = l.cut in cc in true≢false (sym l.is_word_there ∙ ap (λ (t : Token). is_word t.text) (sym k) ∙ ap is_word brace))
before_of head front b rest times body (w ∷ us) brace e p l =
    let c = l.cut in
    let k : l.word ≡ w = cc in
    let m : l.behind ≡ us ++ b ∷ rest = cc in
    record {
      word = w;
      us = us;
      cut = e;
      plain = p.1;
      is_word_there = ap (λ (t : Token). is_word t.text) (sym k) ∙ l.is_word_there;
      calls = ap (λ (t : Token). is_call t.text) (sym k) ∙ l.calls;
      loops = ap (λ (t : Token). bytes_eq t.text (codes "Loop")) (sym k) ∙ l.loops;
      any = ap (λ (ts : List Token). list_any (is_scan_call head) (stil_statements (in_block ts))) (sym m) ∙ l.any;
      times_is = ap loop_times (sym (before_plain us b rest p.1 brace)) ∙ ap (λ (ts : List Token). loop_times (before_block ts)) (sym m) ∙ l.times_is;
      body_is = l.is ∙ ap in_block m;
    }

some_tokens : (head : StilHead) (ps : Pieces) (b : Token) (rest : List Token) (times : ℕ) (body : List Token) (z : List ℕ) → Before head (laid 0 ps) b rest times body → AreLaid z ps → 0 < length (bytes_in ps)
some_tokens head [] b rest times body z e a = absurd (let c = e.cut in let k : [] ≡ e.word ∷ e.us = sym none_within ∙ c in cc)
some_tokens head (p ∷ ps) b rest times body z e a = omega (arith, a.0, length-append p.1 (bytes_in ps))

module _ (head : StilHead) (pattern times line : ℕ) (text : List ℕ) (body : List BodyStatement) (s : IsStated Lengths head (statements.Loop pattern text times body line)) where
  st : IsStatedLoop head s.line text times line body (shape_of head false (tokens_in text))
  st = stated_loop head pattern s.line text times line body (shape_of head false (tokens_in text)) s.is

  not_none : (b : Shape) (ts : List Token) → b ≡ Loop times ts → b ≡ NoForm → ⊥
  not_none b ts e f = absurd (let k : NoForm ≡ Loop times ts = sym f ∙ e in cc)

  form : (is_closed (tokens_in text) ≡ true) × (closes_nothing 0 (tokens_in text) ≡ false) × (unlabelled_shape head false (behind_labels (tokens_in text)) ≡ Loop times st.tokens)
  form = form_parts head false (tokens_in text) (Loop times st.tokens) st.is (not_none (Loop times st.tokens) st.tokens refl)

  is_loop : IsLoop head (behind_labels (tokens_in text)) times st.tokens
  is_loop = find_loop head times st.tokens (behind_labels (tokens_in text)) form.2

  module _ (n : ℕ) (opens : brace_end (tokens_in text) ≡ Some n) (f : Found text 0 n) (whole : Whole f.rest) where
    abbrev before : Pieces
    before = f.pieces

    abbrev size : ℕ
    size = 0 + length (bytes_in before)

    abbrev front : List Token
    front = laid 0 before

    abbrev old_block : List Token
    old_block = laid (size + 1) whole.pieces

    text_is : text ≡ bytes_in (before ++ (true, 123 ∷ []) ∷ whole.pieces)
    text_is = f.cut ∙ ap (λ (l : List ℕ). bytes_in before ++ 123 ∷ l) whole.is ∙ sym (bytes_append before ((true, 123 ∷ []) ∷ whole.pieces))

    old_brace : piece_at (123 ∷ (bytes_in whole.pieces ++ [])) ≡ token 1
    old_brace = ap (λ (l : List ℕ). piece_at (123 ∷ l)) (append-nil (bytes_in whole.pieces) ∙ sym whole.is) ∙ f.alone

    old_laid : AreLaid [] (before ++ (true, 123 ∷ []) ∷ whole.pieces)
    old_laid = are_append before ((true, 123 ∷ []) ∷ whole.pieces) [] (f.are_laid (bytes_in whole.pieces ++ [])) (omega arith, old_brace, whole.lies)

    old_tokens : tokens_in text ≡ front ++ brace_at size ∷ old_block
    old_tokens = ap tokens_in text_is ∙ all_tokens (before ++ (true, 123 ∷ []) ∷ whole.pieces) old_laid ∙ laid_append 0 before ((true, 123 ∷ []) ∷ whole.pieces)

    plain : Each IsPlainToken front
    plain = plain_laid 0 before f.none

    labels_plain : Each IsPlainToken (behind_labels front)
    labels_plain = let h = labels_law front in each_behind IsPlainToken h.stand.front (behind_labels front) (subst (Each IsPlainToken) h.stand.is plain)

    stands : Before head front (brace_at size) old_block times st.tokens
    stands = before_of head front (brace_at size) old_block times st.tokens (behind_labels front) refl refl labels_plain
        (subst (λ (l : List Token). IsLoop head l times st.tokens) (ap behind_labels old_tokens ∙ labels_on front (brace_at size) old_block refl) is_loop)

    old_safe : closes_nothing 0 (front ++ brace_at size ∷ old_block) ≡ false
    old_safe = ap (closes_nothing 0) (sym old_tokens) ∙ form.1

    old_len : length text ≡ size + 1 + length (bytes_in whole.pieces)
    old_len =
        let k : length text ≡ length (bytes_in before ++ 123 ∷ bytes_in whole.pieces) = ap (λ (l : List ℕ). length l) (f.cut ∙ ap (λ (l : List ℕ). bytes_in before ++ 123 ∷ l) whole.is) in
        omega (arith, k, length-append (bytes_in before) (123 ∷ bytes_in whole.pieces))

    old_end : statement_end 0 (front ++ brace_at size ∷ old_block) ≡ Some (length text)
    old_end =
        ap (statement_end 0) (sym old_tokens) ∙ sym (end_law false text) ∙ place_of_end (end_of false (begin (Known false)) text) s.whole.end s.whole.ends ∙ ap (λ (i : ℕ). Some i) s.whole.whole

    block_end : statement_end 1 old_block ≡ Some (length text)
    block_end = sym (front_ends before 0 (brace_at size ∷ old_block) (brace_at size ∷ old_block) (length text) f.none old_safe old_end (omega (arith, old_len))) ∙ old_end

    shut : Closed whole.pieces
    shut = close_of whole.pieces 0 (size + 1) (length text) [] block_end old_len whole.lies

    abbrev last : Pieces
    last = (true, 125 ∷ []) ∷ []

    abbrev last_at : ℕ → Token
    last_at at = record { text = 125 ∷ []; start = at; end = at + length {A = ℕ} (125 ∷ []) }

    old_inner : old_block ≡ laid (size + 1) shut.inner ++ last_at (size + 1 + length (bytes_in shut.inner)) ∷ []
    old_inner = ap (laid (size + 1)) shut.is ∙ laid_append (size + 1) shut.inner last

    inner_is : st.tokens ≡ laid (size + 1) shut.inner
    inner_is =
        stands.body_is ∙ ap (λ (l : List Token). in_block (stands.us ++ brace_at size ∷ l)) old_inner
        ∙ block_in stands.us (brace_at size) (last_at (size + 1 + length (bytes_in shut.inner))) (laid (size + 1) shut.inner) stands.plain refl

    no_faults : body_fault Lengths head s.line text (filter is_full (stil_statements (laid (size + 1) shut.inner))) ≡ None
    no_faults = ap (λ (l : List Token). body_fault Lengths head s.line text (filter is_full (stil_statements l))) (sym inner_is) ∙ body_sound head s.line text times st.tokens st.is s.sound

    inner_laid : AreLaid (125 ∷ []) shut.inner
    inner_laid = are_front shut.inner last [] (subst (AreLaid []) shut.is whole.lies)

    parts : Segs shut.inner
    parts = segs_of (length shut.inner) (size + 1) shut.inner (omega arith) (block_closed head s.line text (laid (size + 1) shut.inner) no_faults)

    abbrev gs : List Seg
    gs = parts.segs

    old_runs : stil_statements (laid (size + 1) shut.inner) ≡ runs (size + 1) gs
    old_runs = ap (λ (l : Pieces). stil_statements (laid (size + 1) l)) parts.is ∙ cut (size + 1) gs parts.each

    gs_laid : AreLaid (125 ∷ []) (all_pieces gs)
    gs_laid = subst (AreLaid (125 ∷ [])) parts.is inner_laid

    run_faults : body_fault Lengths head s.line text (filter is_full (runs (size + 1) gs)) ≡ None
    run_faults = ap (λ (l : List (List Token)). body_fault Lengths head s.line text (filter is_full l)) (sym old_runs) ∙ no_faults

    body_is : body ≡ map (body_of head s.line text) (filter is_full (runs (size + 1) gs))
    body_is = st.body_is ∙ ap (λ (l : List Token). map (body_of head s.line text) (filter is_full (stil_statements l))) inner_is ∙ ap (λ (l : List (List Token)). map (body_of head s.line text) (filter is_full l)) old_runs

    old_text : text ≡ (bytes_in before ++ 123 ∷ []) ++ (bytes_in (all_pieces gs) ++ 125 ∷ [])
    old_text =
        f.cut ∙ ap (λ (l : List ℕ). bytes_in before ++ 123 ∷ l) (whole.is ∙ ap bytes_in shut.is ∙ bytes_append shut.inner last ∙ ap (λ (l : Pieces). bytes_in l ++ 125 ∷ []) parts.is)
        ∙ sym (append_assoc (bytes_in before) (123 ∷ []) (bytes_in (all_pieces gs) ++ 125 ∷ []))

    pre_len : size + 1 ≡ length (bytes_in before ++ 123 ∷ [])
    pre_len = omega (arith, length-append (bytes_in before) (123 ∷ []))

    rises_so : AreRisingIn 0 (length text) body
    rises_so =
        let len : length text ≡ length (bytes_in before ++ 123 ∷ []) + length (bytes_in (all_pieces gs) ++ 125 ∷ []) = ap (λ (l : List ℕ). length l) old_text ∙ length-append (bytes_in before ++ 123 ∷ []) (bytes_in (all_pieces gs) ++ 125 ∷ []) in
        subst (AreRisingIn 0 (length text)) (sym body_is) (rises head s.line text gs 0 (size + 1) (length text) parts.each (omega arith) (omega (arith, len, pre_len, length-append (bytes_in (all_pieces gs)) (125 ∷ []))))

    module _ (chains : List ScanChainDecl) (marks : Bool) (end : ℕ) (old new : Chains) (move : ScanCall → ScanCall) (ports : SamePorts head.chains chains) (moving : IsMove head (with_chains head chains marks end) old new move) where
      abbrev other : StilHead
      other = with_chains head chains marks end

      module _ (hs : List Seg) (kept : AreKept head other old new move gs hs) where
        abbrev new_pieces : Pieces
        new_pieces = all_pieces hs ++ last

        abbrev all_new : Pieces
        all_new = before ++ (true, 123 ∷ []) ∷ new_pieces

        abbrev bytes : List ℕ
        bytes = bytes_in all_new

        abbrev new_block : List Token
        new_block = laid (size + 1) new_pieces

        new_text : bytes ≡ (bytes_in before ++ 123 ∷ []) ++ (bytes_in (all_pieces hs) ++ 125 ∷ [])
        new_text =
            bytes_append before ((true, 123 ∷ []) ∷ new_pieces) ∙ ap (λ (l : List ℕ). bytes_in before ++ 123 ∷ l) (bytes_append (all_pieces hs) last)
            ∙ sym (append_assoc (bytes_in before) (123 ∷ []) (bytes_in (all_pieces hs) ++ 125 ∷ []))

        written_is : written_loop chains text body (calls_moved move body) ≡ bytes
        written_is =
            let k : size + 1 ≡ 0 + length (bytes_in before ++ 123 ∷ []) = omega (arith, pre_len) in
            ap (λ (b : List BodyStatement). loop_from chains text 0 b (calls_moved move b)) body_is
            ∙ writes head other old new move s.line text gs hs [] (bytes_in before ++ 123 ∷ []) (125 ∷ []) 0 (size + 1) old_text refl k parts.each kept ∙ sym new_text

        renewed : AreRenewed gs hs
        renewed = kept_renewed head other old new move gs hs kept

        hs_runs : Each IsRunSeg hs
        hs_runs = renewed_runs gs hs renewed

        hs_laid : AreLaid [] new_pieces
        hs_laid = are_append (all_pieces hs) last [] (renewed_laid gs hs (125 ∷ []) (125 ∷ []) renewed refl gs_laid) (omega arith, close_piece [], tt)

        new_brace : piece_at (123 ∷ (bytes_in new_pieces ++ [])) ≡ token 1
        new_brace =
            let olds : bytes_in whole.pieces ≡ bytes_in (all_pieces gs) ++ 125 ∷ [] = ap bytes_in shut.is ∙ bytes_append shut.inner last ∙ ap (λ (l : Pieces). bytes_in l ++ 125 ∷ []) parts.is in
            let first : take 1 (bytes_in whole.pieces ++ []) ≡ take 1 (bytes_in new_pieces ++ []) =
            ap (take 1) (append-nil (bytes_in whole.pieces) ∙ olds) ∙ renewed_first gs hs (125 ∷ []) (125 ∷ []) renewed refl ∙ ap (take 1) (sym (append-nil (bytes_in new_pieces) ∙ bytes_append (all_pieces hs) last)) in
            (laid_stays ((true, 123 ∷ []) ∷ []) (bytes_in whole.pieces ++ []) (bytes_in new_pieces ++ []) first (omega arith, old_brace, tt)).1

        new_laid : AreLaid [] all_new
        new_laid = are_append before ((true, 123 ∷ []) ∷ new_pieces) [] (f.are_laid (bytes_in new_pieces ++ [])) (omega arith, new_brace, hs_laid)

        new_tokens : tokens_in bytes ≡ front ++ brace_at size ∷ new_block
        new_tokens = all_tokens all_new new_laid ∙ laid_append 0 before ((true, 123 ∷ []) ∷ new_pieces)

        abbrev total : ℕ
        total = size + 1 + length (bytes_in (all_pieces hs)) + 1

        closing : Closing total new_block
        closing = block_closes hs (size + 1) total hs_runs (kept_safe head other old new move gs hs kept) refl

        new_closed : is_closed (front ++ brace_at size ∷ new_block) ≡ true
        new_closed = flat_closed front (brace_at size ∷ old_block) (brace_at size) new_block false plain old_safe ∙ closing.closed false

        new_safe : closes_nothing 0 (front ++ brace_at size ∷ new_block) ≡ false
        new_safe = (flat front (brace_at size ∷ old_block) (brace_at size ∷ new_block) plain old_safe).safe ∙ closing.safe

        new_end : statement_end 0 (front ++ brace_at size ∷ new_block) ≡ Some total
        new_end = front_ends before 0 (brace_at size ∷ old_block) (brace_at size ∷ new_block) (length text) f.none old_safe old_end (omega (arith, old_len)) ∙ closing.ends

        total_is : length bytes ≡ total
        total_is =
            let k : length bytes ≡ length ((bytes_in before ++ 123 ∷ []) ++ (bytes_in (all_pieces hs) ++ 125 ∷ [])) = ap (λ (l : List ℕ). length l) new_text in
            omega (arith, k, pre_len, length-append (bytes_in before ++ 123 ∷ []) (bytes_in (all_pieces hs) ++ 125 ∷ []), length-append (bytes_in (all_pieces hs)) (125 ∷ []))

        is_whole : IsWhole bytes
        is_whole =
            let e = found_at (end_of false (begin (Known false)) bytes) total (end_law false bytes ∙ ap (statement_end 0) new_tokens ∙ new_end) in
            record { end = e.0; ends = e.1; whole = e.2 ∙ sym total_is }

        abbrev new_inner : List Token
        new_inner = laid (size + 1) (all_pieces hs)

        inner_new : in_block (stands.us ++ brace_at size ∷ new_block) ≡ new_inner
        inner_new =
            ap (λ (l : List Token). in_block (stands.us ++ brace_at size ∷ l)) (laid_append (size + 1) (all_pieces hs) last)
            ∙ block_in stands.us (brace_at size) (last_at (size + 1 + length (bytes_in (all_pieces hs)))) new_inner stands.plain refl

        new_runs : stil_statements new_inner ≡ runs (size + 1) hs
        new_runs = cut (size + 1) hs hs_runs

        any_new : list_any (is_scan_call other) (stil_statements (in_block (stands.us ++ brace_at size ∷ new_block))) ≡ true
        any_new =
            let olds : list_any (is_scan_call head) (runs (size + 1) gs) ≡ true =
            ap (list_any (is_scan_call head)) (sym (ap stil_statements (sym stands.body_is ∙ inner_is) ∙ old_runs)) ∙ stands.any in
            ap (list_any (is_scan_call other)) (ap stil_statements inner_new ∙ new_runs) ∙ any_kept head other old new move (size + 1) (size + 1) gs hs kept olds

        new_form : unlabelled_shape other false (behind_labels (front ++ brace_at size ∷ new_block)) ≡ Loop times new_inner
        new_form =
            ap (unlabelled_shape other false) (labels_on front (brace_at size) new_block refl ∙ ap (λ (l : List Token). l ++ brace_at size ∷ new_block) stands.cut)
            ∙ make_loop other stands.word (stands.us ++ brace_at size ∷ new_block) times stands.is_word_there stands.calls stands.loops any_new
            (ap loop_times (before_plain stands.us (brace_at size) new_block stands.plain refl) ∙ stands.times_is)
            ∙ ap (Loop times) inner_new

        new_shape : shape_of other false (tokens_in bytes) ≡ Loop times new_inner
        new_shape = ap (shape_of other false) new_tokens ∙ form_from other false (front ++ brace_at size ∷ new_block) (Loop times new_inner) new_closed new_safe new_form

        same_front : SameFront text bytes
        same_front = record { front = front; brace = brace_at size; old_rest = old_block; new_rest = new_block; is_brace = refl; old_is = old_tokens; new_is = new_tokens }

        same_heading : heading_of text ≡ heading_of bytes
        same_heading = heading_law text bytes same_front

        begins : take 2 text ≡ take 2 bytes
        begins =
            let long : 1 < length (bytes_in before ++ 123 ∷ []) = omega (arith, pre_len, some_tokens head before (brace_at size) old_block times st.tokens (123 ∷ []) stands (f.are_laid [])) in
            ap (take 2) old_text ∙ two_same (bytes_in before ++ 123 ∷ []) (bytes_in (all_pieces gs) ++ 125 ∷ []) (bytes_in (all_pieces hs) ++ 125 ∷ []) long ∙ ap (take 2) (sym new_text)

        block : (at : ℕ) → BlockOf head other old new move s.line at text bytes (filter is_full (runs (size + 1) gs)) (filter is_full (runs (size + 1) hs))
        block at = blocks head other old new move s.line at text bytes gs hs (bytes_in before ++ 123 ∷ []) (125 ∷ []) (bytes_in before ++ 123 ∷ []) (125 ∷ []) (size + 1) (size + 1) old_text new_text pre_len pre_len parts.each kept

        reads_at : (at : ℕ) → ReadsAs Lengths other (IsKept old new) (statements.Loop pattern text times body line) at bytes
        reads_at at =
            let b = block at in
            let news : List BodyStatement = map (body_of other at bytes) (filter is_full (runs (size + 1) hs)) in
            let bodies : map (body_of other at bytes) (body_statements new_inner) ≡ news = ap (λ (l : List (List Token)). map (body_of other at bytes) (filter is_full l)) new_runs in
            let alike : BlocksAlike reading text bytes body news = subst (λ (l : List BodyStatement). BlocksAlike reading text bytes l news) (sym body_is) b.alike in
            let shows : BlocksShowSame old new body news = subst (λ (l : List BodyStatement). BlocksShowSame old new l news) (sym body_is) b.shows in
            record {
              sound = loop_sound other at bytes times new_inner new_shape (ap (λ (l : List (List Token)). body_fault Lengths other at bytes (filter is_full l)) new_runs ∙ b.sound);
              statement = statements.Loop pattern bytes times news at;
              is = ap (statement_of other pattern at bytes) new_shape ∙ ap (λ (l : List BodyStatement). Some (statements.Loop pattern bytes times l at)) bodies;
              pairs = record { alike = (refl, same_heading, refl, alike); shows = shows };
            }

        stands_so : IsRewritten Lengths other (IsKept old new) (statements.Loop pattern text times body line) (written_loop chains text body (calls_moved move body))
        stands_so = subst (IsRewritten Lengths other (IsKept old new) (statements.Loop pattern text times body line)) (sym written_is) (record { begins = begins; whole = is_whole; reads = reads_at })

      rewritten : IsRewritten Lengths other (IsKept old new) (statements.Loop pattern text times body line) (written_loop chains text body (calls_moved move body))
      rewritten =
          let k = keep_all head chains marks end old new move ports moving s.line text gs (size + 1) (125 ∷ []) parts.each gs_laid run_faults in
          stands_so k.0 k.1

  pub rises_law : AreRisingIn 0 (length text) body
  rises_law =
      let b = has_brace head (tokens_in text) times st.tokens is_loop in
      let f = find (length text) [] text 0 b.0 (omega arith) refl b.1 in
      rises_so b.0 b.1 f (pieces_of (length f.rest) f.rest (omega arith))

  pub loop_so : (chains : List ScanChainDecl) (marks : Bool) (end : ℕ) (old new : Chains) (move : ScanCall → ScanCall) (ports : SamePorts head.chains chains) (moving : IsMove head (with_chains head chains marks end) old new move)
      → IsRewritten Lengths (with_chains head chains marks end) (IsKept old new) (statements.Loop pattern text times body line) (written_loop chains text body (calls_moved move body))
  loop_so chains marks end old new move ports moving =
      let b = has_brace head (tokens_in text) times st.tokens is_loop in
      let f = find (length text) [] text 0 b.0 (omega arith) refl b.1 in
      rewritten b.0 b.1 f (pieces_of (length f.rest) f.rest (omega arith)) chains marks end old new move ports moving

pub loop_law : LoopLaw
loop_law head chains marks end old new move pattern times line text body s ports moving = loop_so head pattern times line text body s chains marks end old new move ports moving

pub rising_law : RisingLaw
rising_law head pattern times line text body s = rises_law head pattern times line text body s

-- bytes up to a place, and those behind it
drop_split : (text : List ℕ) (at n : ℕ) → at ≤ n → take (n - at) (drop at text) ++ drop n text ≡ drop at text
drop_split text at n le =
    let k : at + (n - at) ≡ n = omega (arith, le) in
    ap (λ (l : List ℕ). take (n - at) (drop at text) ++ l) (sym (drop-drop (n - at) at text ∙ ap (λ (i : ℕ). drop i text) k)) ∙ take-append-drop (n - at) (drop at text)

still_part : (chains : List ScanChainDecl) (move : ScanCall → ScanCall) (text : List ℕ) (o : Option ScanCall) (more : List ScanCall) → ((call : ScanCall) → call.shifts ≡ 0 → move call ≡ call) → IsStillCall o → written_part chains text o (call_moved move o more) ≡ text
still_part chains move text None more stays e = refl
still_part chains move text (Some call) more stays e = ap (written_scan chains text) (stays call e) ∙ unmoved chains text call e

still_from : (chains : List ScanChainDecl) (move : ScanCall → ScanCall) (text : List ℕ) (at end : ℕ) (body : List BodyStatement) → ((call : ScanCall) → call.shifts ≡ 0 → move call ≡ call) → AreRisingIn at end body → Each (λ b. IsStillCall b.call) body
    → loop_from chains text at body (calls_moved move body) ≡ drop at text
still_from chains move text at end [] stays r e = refl
still_from chains move text at end (b ∷ bs) stays r e =
    let calls = calls_moved move bs in
    let later : loop_from chains text b.end bs (calls_left b.call (call_moved move b.call calls)) ≡ drop b.end text =
    ap (loop_from chains text b.end bs) (left_moved move b.call calls) ∙ still_from chains move text b.end end bs stays r.2 e.1 in
    ap (λ (l : List ℕ). take (b.start - at) (drop at text) ++ (l ++ loop_from chains text b.end bs (calls_left b.call (call_moved move b.call calls)))) (still_part chains move (slice text b) b.call calls stays e.0)
    ∙ ap (λ (l : List ℕ). take (b.start - at) (drop at text) ++ (slice text b ++ l)) later
    ∙ ap (λ (l : List ℕ). take (b.start - at) (drop at text) ++ l) (drop_split text b.start b.end r.1) ∙ drop_split text at b.start r.0

pub still_loop_law : StillLoopLaw
still_loop_law head chains move pattern times line text body s stays e = still_from chains move text 0 (length text) body stays (rises_law head pattern times line text body s) e
