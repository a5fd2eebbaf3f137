-- What is written for a scan call reads as the call that was meant.
use Rattle.std.proofs.Common.{◌≡◌, ℕ, zero, suc, ◌+◌, ◌<◌, Bool, true, false, cond, eqb, ◌||◌, not, List, [], ◌∷◌, ◌++◌, length, take, Option, Some, None, refl, sym, ap, ◌∙◌, subst, arith, append_assoc, length-append}
use Rattle.std.specs.List.{AllByRecursion as Each, flat_map}
use Rattle.std.proofs.Math.Dec.{eqb-suc-zero}
use Rattle.std.proofs.lemmas.List.{append-nil}
use Rattle.std.proofs.lemmas.Option.{same_Some}
use Rattle.token_forms.specs.Pieces.{tokens_from}
use Rattle.token_forms.specs.Tokens.{Token, tokens_of}
use Rattle.token_forms.specs.Parts.{token_texts}
use Rattle.stil_tokens.specs.StilTokens.{piece_at, tokens_in}
use Rattle.stil_tokens.specs.StilStatements.{is_closed}
use Rattle.stil_types.specs.declared.head.StilHead.{StilHead}
use Rattle.stil_types.specs.declared.statement.ScanCall.{ScanCall}
use Rattle.stil_parts.specs.declared.scan.Found.{Found as Ending}
use Rattle.stil_parts.specs.declared.word.Word.TheVariants.{Known}
use Rattle.stil_parts.specs.Scanner.{end_of}
use Rattle.stil_parts.specs.Parts.{begin}
use Rattle.stil_parts.specs.Ending.{statement_end, end_place}
use Rattle.stil_parts.proofs.EndLaw.{end_law}
use Rattle.stil_syntax.specs.declared.item.Item.{Item}
use Rattle.stil_syntax.specs.declared.shape.Shape.{Shape}
use Rattle.stil_syntax.specs.declared.shape.Shape.TheVariants.{NoForm, Scan}
use Rattle.stil_syntax.specs.Grammar.{call_end}
use Rattle.stil_syntax.specs.Shapes.{scan_shape, unlabelled_shape, behind_within, behind_labels, closes_nothing, shape_of}
use Rattle.stil_syntax.proofs.Labelled.{items_law, labels_law}
use Rattle.stil_writer.specs.Calls.{brace_end, block_text, with_block, written_scan}
use Rattle.stil_writer.specs.Laws.{IsWritable, IsScanText, ReadsAsCall, ReadsLaw}
use Rattle.stil_writer.proofs.Data.{items_for}
use Rattle.stil_writer.proofs.Lays.{bytes_in, AreLaid, laid, laid_is, take_front, brace_alone, Found, find}
use Rattle.stil_writer.proofs.Blocks.{lines_bytes, blank_piece, line_piece, close_piece, lines_laid}
use Rattle.stil_writer.proofs.Items.{call_is, sound}
use Rattle.stil_writer.proofs.Spells.{laid_texts, pairs_for, pair_texts, items_are, lines_pieces, all_good, block_spelled}
use Rattle.stil_writer.proofs.Heads.{labels_on}
use Rattle.stil_writer.proofs.Transfer.{IsPlainToken, each_behind, IsCallBefore, find_call, reads_call}
use Rattle.stil_writer.proofs.Closed.{Closing, closing_pieces, block_pieces, block_closes, plain_laid, flat, flat_closed, front_ends}

-- pieces one behind the other
pub bytes_append : (ps qs : List (Bool × List ℕ)) → bytes_in (ps ++ qs) ≡ bytes_in ps ++ bytes_in qs
bytes_append [] qs = refl
bytes_append (p ∷ ps) qs = ap (λ (l : List ℕ). p.1 ++ l) (bytes_append ps qs) ∙ sym (append_assoc p.1 (bytes_in ps) (bytes_in qs))

pub laid_append : (at : ℕ) (ps qs : List (Bool × List ℕ)) → laid at (ps ++ qs) ≡ laid at ps ++ laid (at + length (bytes_in ps)) qs
laid_append at [] qs = let k : at ≡ at + 0 = omega arith in ap (λ (n : ℕ). laid n qs) k
laid_append at ((true, w) ∷ ps) qs =
    let k : at + length w + length (bytes_in ps) ≡ at + length (w ++ bytes_in ps) = omega (arith, length-append w (bytes_in ps)) in
    ap (λ (l : List Token). record { text = w; start = at; end = at + length w } ∷ l) (laid_append (at + length w) ps qs ∙ ap (λ (n : ℕ). laid (at + length w) ps ++ laid n qs) k)
laid_append at ((false, w) ∷ ps) qs =
    let k : at + length w + length (bytes_in ps) ≡ at + length (w ++ bytes_in ps) = omega (arith, length-append w (bytes_in ps)) in
    laid_append (at + length w) ps qs ∙ ap (λ (n : ℕ). laid (at + length w) ps ++ laid n qs) k

pub are_append : (ps qs : List (Bool × List ℕ)) (z : List ℕ) → AreLaid (bytes_in qs ++ z) ps → AreLaid z qs → AreLaid z (ps ++ qs)
are_append [] qs z a b = b
are_append (p ∷ ps) qs z a b =
    let same : bytes_in (ps ++ qs) ++ z ≡ bytes_in ps ++ (bytes_in qs ++ z) = ap (λ (l : List ℕ). l ++ z) (bytes_append ps qs) ∙ append_assoc (bytes_in ps) (bytes_in qs) z in
    (a.0, ap (λ (l : List ℕ). piece_at (p.1 ++ l)) same ∙ a.1, are_append ps qs z a.2 b)

-- all tokens of a text that is laid
no_tokens : (at : ℕ) (x : List ℕ) → tokens_of x (tokens_from piece_at at 0 []) ≡ []
unfolding tokens_from
no_tokens at x = refl

pub all_tokens : (ps : List (Bool × List ℕ)) → AreLaid [] ps → tokens_in (bytes_in ps) ≡ laid 0 ps
all_tokens ps l =
    let whole = append-nil (bytes_in ps) in
    ap tokens_in (sym whole) ∙ laid_is [] 0 ps [] refl l ∙ ap (λ (ts : List Token). laid 0 ps ++ ts) (no_tokens (0 + length (bytes_in ps)) (bytes_in ps ++ [])) ∙ append-nil (laid 0 ps)

abbrev brace_at : ℕ → Token
brace_at n = record { text = 123 ∷ []; start = n; end = n + 1 }

-- a form that is a scan call is closed, closes nothing else, and is one behind its labels
shape_parts : (c s : Bool) (shape : Shape) (items : List Item) → cond (not c || s) NoForm shape ≡ Scan items → (c ≡ true) × (s ≡ false) × (shape ≡ Scan items)
shape_parts true true shape items e = absurd cc
shape_parts true false shape items e = (refl, refl, e)
shape_parts false s shape items e = absurd cc

module _ (head : StilHead) (inside : Bool) (ts : List Token) where
  parts_of : (items : List Item) → shape_of head inside ts ≡ Scan items → (is_closed ts ≡ true) × (closes_nothing 0 ts ≡ false) × (unlabelled_shape head inside (behind_labels ts) ≡ Scan items)
  unfolding shape_of
  parts_of items e = shape_parts (is_closed ts) (closes_nothing 0 ts) (unlabelled_shape head inside (behind_labels ts)) items e

  shape_from : (items : List Item) → is_closed ts ≡ true → closes_nothing 0 ts ≡ false → unlabelled_shape head inside (behind_labels ts) ≡ Scan items → shape_of head inside ts ≡ Scan items
  unfolding shape_of
  shape_from items c s u =
      ap (λ (b : Bool). cond (not b || closes_nothing 0 ts) NoForm (unlabelled_shape head inside (behind_labels ts))) c
      ∙ ap (λ (b : Bool). cond b NoForm (unlabelled_shape head inside (behind_labels ts))) s ∙ u

pub found_at : (o : Option Ending) (n : ℕ) → end_place o ≡ Some n → (f : Ending) × (o ≡ Some f) × (f.len ≡ n)
found_at None n e = absurd cc
found_at (Some f) n e = (f, refl, same_Some _ _ e)

pub place_of_end : (o : Option Ending) (f : Ending) → o ≡ Some f → end_place o ≡ Some f.len
place_of_end o f e = ap end_place e

pub none_within : behind_labels [] ≡ []
unfolding behind_within
none_within = refl

some_before : (head : StilHead) (z : List ℕ) (ps : List (Bool × List ℕ)) → AreLaid z ps → IsCallBefore head (behind_labels (laid 0 ps)) → 0 < length (bytes_in ps)
some_before head z [] l c = absurd (let k : [] ≡ c.word ∷ c.behind = sym none_within ∙ c.cut in cc)
some_before head z (p ∷ ps) l c = omega (arith, l.0, length-append p.1 (bytes_in ps))

pub two_same : (x y z : List ℕ) → 1 < length x → take 2 (x ++ y) ≡ take 2 (x ++ z)
two_same [] y z h = absurd (omega arith)
two_same (a ∷ []) y z h = absurd (omega arith)
two_same (a ∷ b ∷ x) y z h = refl

shifts_some : (n : ℕ) → 0 < n → eqb n 0 ≡ false
shifts_some zero h = absurd (omega arith)
shifts_some (suc n) h = eqb-suc-zero n

module _ (head other : StilHead) (inside : Bool) (text : List ℕ) (call : ScanCall) (st : IsScanText head inside text) (some : 0 < call.shifts) (w : IsWritable other call) (f : Found text 0 st.brace) where
  abbrev before : List (Bool × List ℕ)
  before = f.pieces

  abbrev inner : List (Bool × List ℕ)
  inner = block_pieces other.chains call.loads call.compares

  abbrev behind : List (Bool × List ℕ)
  behind = (true, 123 ∷ []) ∷ inner

  abbrev size : ℕ
  size = 0 + length (bytes_in before)

  block_is : block_text other.chains call ≡ bytes_in inner
  block_is = ap (λ (l : List ℕ). 10 ∷ l) (sym (lines_bytes other.chains call.loads call.compares closing_pieces))

  front_is : take st.brace text ≡ bytes_in before ++ 123 ∷ []
  front_is =
      let x = bytes_in before ++ 123 ∷ [] in
      let cut : text ≡ x ++ f.rest = f.cut ∙ sym (append_assoc (bytes_in before) (123 ∷ []) f.rest) in
      let n : st.brace ≡ length x = omega (arith, f.place, length-append (bytes_in before) (123 ∷ [])) in
      ap (λ (k : ℕ). take k text) n ∙ ap (take (length x)) cut ∙ take_front x f.rest

  pub written_is : written_scan other.chains text call ≡ bytes_in (before ++ behind)
  written_is =
      ap (λ (b : Bool). cond b text (with_block text (block_text other.chains call) (brace_end (tokens_in text)))) (shifts_some call.shifts some)
      ∙ ap (with_block text (block_text other.chains call)) st.opens
      ∙ ap (λ (l : List ℕ). l ++ block_text other.chains call) front_is ∙ append_assoc (bytes_in before) (123 ∷ []) (block_text other.chains call)
      ∙ ap (λ (l : List ℕ). bytes_in before ++ 123 ∷ l) block_is ∙ sym (bytes_append before behind)

  inner_laid : AreLaid [] inner
  inner_laid = (
    omega arith,
    line_piece _,
    lines_laid other.chains call.loads call.compares [] closing_pieces w.ports.plain w.fits.load_characters w.fits.compare_characters
        (omega arith, blank_piece _, (omega arith, blank_piece _, (omega arith, close_piece [], tt))),
  )

  new_laid : AreLaid [] (before ++ behind)
  new_laid = are_append before behind [] (f.are_laid (bytes_in inner ++ [])) (omega arith, brace_alone (bytes_in inner ++ []) refl, inner_laid)

  abbrev front : List Token
  front = laid 0 before

  abbrev block : List Token
  block = laid (size + 1) inner

  new_tokens : tokens_in (bytes_in (before ++ behind)) ≡ front ++ brace_at size ∷ block
  new_tokens = all_tokens (before ++ behind) new_laid ∙ laid_append 0 before behind

  abbrev rest : List Token
  rest = tokens_of ([] ++ (bytes_in (before ++ (true, 123 ∷ []) ∷ []) ++ f.rest)) (tokens_from piece_at (0 + length (bytes_in (before ++ (true, 123 ∷ []) ∷ []))) 0 f.rest)

  old_tokens : tokens_in text ≡ front ++ brace_at size ∷ rest
  old_tokens =
      let ps = before ++ (true, 123 ∷ []) ∷ [] in
      let cut : text ≡ bytes_in ps ++ f.rest = f.cut ∙ sym (append_assoc (bytes_in before) (123 ∷ []) f.rest) ∙ ap (λ (l : List ℕ). l ++ f.rest) (sym (bytes_append before ((true, 123 ∷ []) ∷ []))) in
      let l : AreLaid f.rest ps = are_append before ((true, 123 ∷ []) ∷ []) f.rest (f.are_laid f.rest) (omega arith, f.alone, tt) in
      ap tokens_in cut ∙ laid_is [] 0 ps f.rest refl l ∙ ap (λ (ts : List Token). ts ++ rest) (laid_append 0 before ((true, 123 ∷ []) ∷ [])) ∙ append_assoc front (brace_at size ∷ []) rest

  plain : Each IsPlainToken front
  plain = plain_laid 0 before f.none

  old_parts : (is_closed (front ++ brace_at size ∷ rest) ≡ true) × (closes_nothing 0 (front ++ brace_at size ∷ rest) ≡ false) × (unlabelled_shape head inside (behind_labels (front ++ brace_at size ∷ rest)) ≡ Scan st.items)
  old_parts = parts_of head inside (front ++ brace_at size ∷ rest) st.items (ap (shape_of head inside) (sym old_tokens) ∙ st.shape)

  labels_plain : Each IsPlainToken (behind_labels front)
  labels_plain = let h = labels_law front in each_behind IsPlainToken h.stand.front (behind_labels front) (subst (Each IsPlainToken) h.stand.is plain)

  called : IsCallBefore head (behind_labels front)
  called = find_call (brace_at size) refl head inside rest st.items (behind_labels front) labels_plain (ap (unlabelled_shape head inside) (sym (labels_on front (brace_at size) rest refl)) ∙ old_parts.2)

  abbrev total : ℕ
  total = size + 1 + length (bytes_in inner)

  closing : Closing total block
  closing = block_closes other.chains call.loads call.compares total w.fits.load_characters w.fits.compare_characters (size + 1) refl

  new_closed : is_closed (front ++ brace_at size ∷ block) ≡ true
  new_closed = flat_closed front (brace_at size ∷ rest) (brace_at size) block false plain old_parts.1 ∙ closing.closed false

  new_safe : closes_nothing 0 (front ++ brace_at size ∷ block) ≡ false
  new_safe = (flat front (brace_at size ∷ rest) (brace_at size ∷ block) plain old_parts.1).safe ∙ closing.safe

  texts : token_texts (brace_at size ∷ block) ≡ (123 ∷ []) ∷ (flat_map pair_texts (pairs_for other.chains call.loads call.compares) ++ (125 ∷ []) ∷ [])
  texts = ap (λ (l : List (List ℕ)). (123 ∷ []) ∷ l) (laid_texts (size + 1) inner ∙ lines_pieces other.chains call.loads call.compares closing_pieces)

  abbrev its : List Item
  its = items_for other.chains call.loads call.compares

  spelled : scan_shape (call_end.reads (brace_at size ∷ block)) ≡ Scan its
  spelled =
      let pairs = pairs_for other.chains call.loads call.compares in
      let good = all_good other.chains call.loads call.compares w.ports.plain w.fits.load_characters w.fits.compare_characters in
      (items_law (brace_at size ∷ block) its).1 (subst (λ (l : List Item). call_end.spells l (brace_at size ∷ block)) (sym (items_are other.chains call.loads call.compares)) (block_spelled pairs (brace_at size ∷ block) good texts))

  new_shape : other.procedures ≡ head.procedures → other.macros ≡ head.macros → shape_of other inside (front ++ brace_at size ∷ block) ≡ Scan its
  new_shape p m = shape_from other inside (front ++ brace_at size ∷ block) its new_closed new_safe
      (ap (unlabelled_shape other inside) (labels_on front (brace_at size) block refl) ∙ reads_call (brace_at size) refl head other inside (behind_labels front) block called p m ∙ spelled)

  old_end : statement_end 0 (front ++ brace_at size ∷ rest) ≡ Some (length text)
  old_end =
      ap (statement_end 0) (sym old_tokens) ∙ sym (end_law false text) ∙ place_of_end (end_of false (begin (Known false)) text) st.end st.ends ∙ ap (λ (n : ℕ). Some n) st.whole

  new_end : statement_end 0 (front ++ brace_at size ∷ block) ≡ Some total
  new_end =
      let longer : 0 + length (bytes_in before) < length text =
      (let k : length text ≡ length (bytes_in before ++ 123 ∷ f.rest) = ap (λ (l : List ℕ). length l) f.cut in omega (arith, k, length-append (bytes_in before) (123 ∷ f.rest))) in
      front_ends before 0 (brace_at size ∷ rest) (brace_at size ∷ block) (length text) f.none old_parts.1 old_end longer ∙ closing.ends

  total_is : length (bytes_in (before ++ behind)) ≡ total
  total_is = let k : length (bytes_in (before ++ behind)) ≡ length (bytes_in before ++ bytes_in behind) = ap (λ (l : List ℕ). length l) (bytes_append before behind) in omega (arith, k, length-append (bytes_in before) (bytes_in behind))

  begins_so : take 2 text ≡ take 2 (bytes_in (before ++ behind))
  begins_so =
      let x = bytes_in before ++ 123 ∷ [] in
      let long : 1 < length x = omega (arith, some_before head (123 ∷ []) before (f.are_laid []) called, length-append (bytes_in before) (123 ∷ [])) in
      ap (take 2) (f.cut ∙ sym (append_assoc (bytes_in before) (123 ∷ []) f.rest)) ∙ two_same x f.rest (bytes_in inner) long
      ∙ ap (take 2) (append_assoc (bytes_in before) (123 ∷ []) (bytes_in inner) ∙ sym (bytes_append before behind))

  reads_so : other.procedures ≡ head.procedures → other.macros ≡ head.macros → ReadsAsCall other inside call text (bytes_in (before ++ behind))
  reads_so p m =
      let end = found_at (end_of false (begin (Known false)) (bytes_in (before ++ behind))) total (end_law false (bytes_in (before ++ behind)) ∙ ap (statement_end 0) new_tokens ∙ new_end) in
      record {
        items = its;
        shape = ap (shape_of other inside) new_tokens ∙ new_shape p m;
        is = call_is other call w.ports.once w.fits;
        sound = sound other call w.ports.once w.fits w.accepted w.few;
        end = end.0;
        ends = end.1;
        whole = end.2 ∙ sym total_is;
        begins = begins_so;
        same_front = record { front = front; brace = brace_at size; old_rest = rest; new_rest = block; is_brace = refl; old_is = old_tokens; new_is = new_tokens };
      }

  pub reads : other.procedures ≡ head.procedures → other.macros ≡ head.macros → ReadsAsCall other inside call text (written_scan other.chains text call)
  reads p m = subst (ReadsAsCall other inside call text) (sym written_is) (reads_so p m)

pub reads_law : ReadsLaw
reads_law head other inside text call st some w p m = reads head other inside text call st some w (find (length text) [] text 0 st.brace (omega arith) refl st.opens) p m
