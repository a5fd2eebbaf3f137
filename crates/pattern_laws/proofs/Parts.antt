-- A statement in the block of a Loop, and what stands for it.
use Rattle.std.proofs.Common.{◌≡◌, ◌⊎◌, inl, inr, ℕ, ◌+◌, ◌<◌, Bool, true, false, cond, ◌&&◌, ◌||◌, not, List, [], ◌∷◌, ◌++◌, length, take, codes, Option, Some, None, refl, sym, ap, ◌∙◌, subst, arith, length-append}
use Rattle.std.specs.Str.{bytes_eq}
use Rattle.std.proofs.lemmas.Bool.{cases_Bool, true≢false}
use Rattle.std.proofs.lemmas.Option.{same_Some}
use Rattle.base_types.specs.declared.kind.Kind.{Kind}
use Rattle.token_forms.specs.Tokens.{Token, last_end_of, place_of}
use Rattle.stil_tokens.specs.StilTokens.{tokens_in}
use Rattle.stil_tokens.specs.StilStatements.{token_ends, depth_behind, is_closed}
use Rattle.stil_types.specs.declared.head.ScanChainDecl.{ScanChainDecl}
use Rattle.stil_types.specs.declared.head.StilHead.{StilHead}
use Rattle.stil_types.specs.declared.statement.ScanCall.{ScanCall}
use Rattle.stil_types.specs.declared.statement.PatternStatement.TheVariants as statements
use Rattle.stil_parts.specs.declared.word.Word.TheVariants.{Known}
use Rattle.stil_parts.specs.Scanner.{end_of}
use Rattle.stil_parts.specs.Parts.{begin}
use Rattle.stil_parts.specs.Ending.{statement_end, end_place}
use Rattle.stil_parts.proofs.EndLaw.{end_law}
use Rattle.stil_syntax.specs.declared.item.Item.{Item}
use Rattle.stil_syntax.specs.declared.shape.Shape.{Shape}
use Rattle.stil_syntax.specs.declared.shape.Shape.TheVariants.{NoForm, Unsupported, Other, Scan, Loop}
use Rattle.stil_syntax.specs.Names.{is_word, name_at}
use Rattle.stil_syntax.specs.Shapes.{is_call, is_yes, names_scan, calls_scan, is_scan_call, scans_by, callees, passes_unread, other_shape, loop_shape, callee_shape, call_shape, word_shape, unlabelled_shape, behind_labels, closes_nothing, is_empty, shape_of}
use Rattle.stil_calls.specs.declared.judging.Judging.TheVariants.{Lengths}
use Rattle.stil_calls.specs.Faults.{kind_of, fault_or}
use Rattle.stil_calls.specs.Scans.{call_of}
use Rattle.stil_calls.specs.Statements.{call_in, IsAcceptedBy}
use Rattle.stil_calls.proofs.Stated.{are_accepted}
use Rattle.stil_tester.specs.declared.chains.Chains.{Chains}
use Rattle.stil_tester.specs.Meaning.{ReadAlike, ShowSame, CallsShowSame}
use Rattle.stil_writer.specs.Calls.{written_scan}
use Rattle.stil_writer.specs.Laws.{IsWritable, IsScanText, ReadsAsCall}
use Rattle.stil_writer.proofs.Lays.{bytes_in, AreLaid, laid, brace_alone, Found, find}
use Rattle.stil_writer.proofs.Blocks.{blank_piece, line_piece, close_piece, lines_laid}
use Rattle.stil_writer.proofs.Closed.{closing_pieces, block_pieces}
use Rattle.stil_writer.proofs.Transfer.{no_other, no_word, not_scan}
use Rattle.stil_writer.proofs.ReadAgain.{are_append, all_tokens, found_at, place_of_end, written_is, reads_law}
use Rattle.stil_written.specs.Written.{with_chains}
use Rattle.stil_written.proofs.Others.{shape_law}
use Rattle.stil_written.specs.Readings.{reading}
use Rattle.pattern_laws.specs.Laws.{SamePorts, IsMove, token_on, tokens_on}
use Rattle.pattern_laws.proofs.Headings.{heading_law}
use Rattle.pattern_laws.proofs.Blocks.{block_law}
use Rattle.pattern_laws.proofs.Still.{call_same, still_kind}
use Rattle.stil_writer.specs.Loops.{written_part, call_moved}
use Rattle.pattern_laws.proofs.Cuts.{Pieces, IsOneFrom, IsRun, laid_on, one_end, one_more, IsRenewed, stay_renewed}
use Rattle.pattern_laws.proofs.Moves.{none_or_some, unmoved}
use Rattle.pattern_laws.proofs.Truncated.{laid_alone}

-- pieces whose tokens end a statement where they end
one_last : (depth : ℕ) (t : Token) (at : ℕ) (us : Pieces) (z : List ℕ) → AreLaid z us → length (bytes_in us) ≡ 0 → token_ends depth t.text ≡ true → IsOneFrom depth (t ∷ laid at us)
one_last depth t at [] z a n e = e
one_last depth t at (p ∷ us) z a n e = absurd (omega (arith, n, a.0, length-append p.1 (bytes_in us)))

pub ends_one : (ps : Pieces) (depth at n : ℕ) (z : List ℕ) → statement_end depth (laid at ps) ≡ Some n → n ≡ at + length (bytes_in ps) → AreLaid z ps → IsOneFrom depth (laid at ps)
ends_one [] depth at n z h e a = absurd cc
ends_one ((false, w) ∷ ps) depth at n z h e a = ends_one ps depth (at + length w) n z h (omega (arith, e, length-append w (bytes_in ps))) a.2
ends_one ((true, w) ∷ ps) depth at n z h e a = elim (cases_Bool (token_ends depth w)) [
  | inl c ↦ (
      let k : at + length w ≡ n = same_Some _ _ (sym (ap (λ (b : Bool). cond b (Some (at + length w)) (statement_end (depth_behind depth w) (laid (at + length w) ps))) c) ∙ h) in
      one_last depth (record { text = w; start = at; end = at + length w }) (at + length w) ps z a.2 (omega (arith, k, e, length-append w (bytes_in ps))) c)
  | inr c ↦ (
      let more : statement_end (depth_behind depth w) (laid (at + length w) ps) ≡ Some n = sym (ap (λ (b : Bool). cond b (Some (at + length w)) (statement_end (depth_behind depth w) (laid (at + length w) ps))) c) ∙ h in
      one_more depth (record { text = w; start = at; end = at + length w }) (laid (at + length w) ps) c (ends_one ps (depth_behind depth w) (at + length w) n z more (omega (arith, e, length-append w (bytes_in ps))) a.2))
]

-- a statement further on
one_on : (k depth : ℕ) (ts : List Token) → IsOneFrom depth ts → IsOneFrom depth (tokens_on k ts)
one_on k depth [] o = o
one_on k depth (t ∷ []) o = o
one_on k depth (t ∷ u ∷ us) o = (o.0, one_on k (depth_behind depth t.text) (u ∷ us) o.1)

last_on : (k : ℕ) (t : Token) (ts : List Token) → last_end_of (token_on k t) (tokens_on k ts) ≡ k + last_end_of t ts
last_on k t [] = refl
last_on k t (u ∷ us) = last_on k u us

start_on : (k depth : ℕ) (ts : List Token) → IsOneFrom depth ts → (place_of (tokens_on k ts)).start ≡ k + (place_of ts).start
start_on k depth [] o = absurd o
start_on k depth (t ∷ ts) o = refl

end_on : (k depth : ℕ) (ts : List Token) → IsOneFrom depth ts → (place_of (tokens_on k ts)).end ≡ k + (place_of ts).end
end_on k depth [] o = absurd o
end_on k depth (t ∷ ts) o = last_on k t ts

pub laid_at : (at : ℕ) (ps : Pieces) → laid at ps ≡ tokens_on at (laid 0 ps)
laid_at at ps = let k : at ≡ at + 0 = omega arith in ap (λ (n : ℕ). laid n ps) k ∙ laid_on at 0 ps

run_at : (ps : Pieces) → IsOneFrom 0 (laid 0 ps) → (place_of (laid 0 ps)).start ≡ 0 → (place_of (laid 0 ps)).end ≡ length (bytes_in ps) → IsRun ps
run_at ps o s e = record {
  one = λ at. subst (IsOneFrom 0) (sym (laid_at at ps)) (one_on at 0 (laid 0 ps) o);
  start = λ at. (let k : at + (place_of (laid 0 ps)).start ≡ at = omega (arith, s) in ap (λ (l : List Token). (place_of l).start) (laid_at at ps) ∙ start_on at 0 (laid 0 ps) o ∙ k);
  end = λ at. ap (λ (l : List Token). (place_of l).end) (laid_at at ps) ∙ end_on at 0 (laid 0 ps) o ∙ ap (λ (n : ℕ). at + n) e;
}

pub run_some : (ps : Pieces) (z : List ℕ) → IsRun ps → AreLaid z ps → 0 < length (bytes_in ps)
run_some [] z r a = absurd (r.one 0)
run_some (p ∷ ps) z r a = omega (arith, a.0, length-append p.1 (bytes_in ps))

-- a form that is a Scan is that of a scan call
yes_scan : (o : Option Bool) (head : StilHead) (ts : List Token) (items : List Item) → callee_shape head ts o ≡ Scan items → is_yes o ≡ true
yes_scan None head ts items e = absurd cc
yes_scan (Some true) head ts items e = refl
yes_scan (Some false) head ts items e = absurd (not_scan _ items (no_other head ts) e)

yes_name : (head : StilHead) (w : List ℕ) (o : Option (List ℕ × List Token)) (items : List Item) → call_shape head w o ≡ Scan items → names_scan head w o ≡ true
yes_name head w None items e = absurd cc
yes_name head w (Some n) items e = yes_scan (scans_by (callees head w) n.0) head n.1 items e

yes_call : (head : StilHead) (inside c : Bool) (w : List ℕ) (ts : List Token) (items : List Item) → is_call w ≡ c → word_shape head inside w ts ≡ Scan items → (c && names_scan head w (name_at ts)) ≡ true
yes_call head inside false w ts items c e = absurd (not_scan _ items (no_word head inside w ts c) e)
yes_call head inside true w ts items c e =
    yes_name head w (name_at ts) items
    (sym (ap (λ (t : Bool). cond t (call_shape head w (name_at ts)) (cond (bytes_eq w (codes "Loop")) (cond inside (other_shape head ts) (loop_shape head ts)) (cond (passes_unread head w) (other_shape head ts) Unsupported))) c) ∙ e)

yes_word : (head : StilHead) (inside w : Bool) (t : Token) (ts : List Token) (items : List Item) → cond w (word_shape head inside t.text ts) NoForm ≡ Scan items → calls_scan head (t ∷ ts) ≡ true
yes_word head inside false t ts items e = absurd cc
yes_word head inside true t ts items e = yes_call head inside (is_call t.text) t.text ts items refl e

yes_labels : (head : StilHead) (inside : Bool) (ts : List Token) (items : List Item) → unlabelled_shape head inside ts ≡ Scan items → calls_scan head ts ≡ true
yes_labels head inside [] items e = absurd cc
yes_labels head inside (t ∷ ts) items e = yes_word head inside (is_word t.text) t ts items e

yes_closed : (head : StilHead) (inside b : Bool) (ts : List Token) (items : List Item) → cond b NoForm (unlabelled_shape head inside (behind_labels ts)) ≡ Scan items → is_scan_call head ts ≡ true
yes_closed head inside true ts items e = absurd cc
yes_closed head inside false ts items e = yes_labels head inside (behind_labels ts) items e

pub scan_is : (head : StilHead) (inside : Bool) (ts : List Token) (items : List Item) → shape_of head inside ts ≡ Scan items → is_scan_call head ts ≡ true
unfolding shape_of
scan_is head inside ts items e = yes_closed head inside (not (is_closed ts) || closes_nothing 0 ts) ts items e

-- what stands for a statement reads as it should, beside another head
pub record KeptAs (head other : StilHead) (old new : Chains) (move : ScanCall → ScanCall) (qs rs : Pieces) : Type 0 where
  pub before : Shape
  pub after : Shape
  pub shape : shape_of head true (laid 0 qs) ≡ before
  pub shape_new : shape_of other true (laid 0 rs) ≡ after
  pub written : (more : List ScanCall) → written_part other.chains (bytes_in qs) (call_in head before) (call_moved move (call_in head before) more) ≡ bytes_in rs
  pub kind : kind_of Lengths other after ≡ None
  pub alike : ReadAlike reading (call_in head before) (bytes_in qs) (call_in other after) (bytes_in rs)
  pub shows : CallsShowSame old new (call_in head before) (call_in other after)

pub record Kept (head other : StilHead) (old new : Chains) (move : ScanCall → ScanCall) (qs rs : Pieces) : Type 0 where
  pub renewed : IsRenewed qs rs
  pub empty : is_empty (laid 0 rs) ≡ is_empty (laid 0 qs)
  pub scans : is_scan_call head (laid 0 qs) ≡ true → is_scan_call other (laid 0 rs) ≡ true
  pub stays : is_empty (laid 0 qs) ≡ true → bytes_in qs ≡ bytes_in rs
  pub reads : is_empty (laid 0 qs) ≡ false → KeptAs head other old new move qs rs

one_of_two : (x y : List ℕ) → take 2 x ≡ take 2 y → take 1 x ≡ take 1 y
one_of_two [] [] e = refl
one_of_two [] (b ∷ y) e = absurd cc
one_of_two (a ∷ x) [] e = absurd cc
one_of_two (a ∷ x) (b ∷ y) e = let k : a ≡ b = cc in ap (λ (n : ℕ). n ∷ []) k

front_same : (front : List Token) (brace : Token) (r s : List Token) → ((place_of (front ++ brace ∷ r)).start ≡ (place_of (front ++ brace ∷ s)).start) × (is_empty (front ++ brace ∷ r) ≡ is_empty (front ++ brace ∷ s))
front_same [] brace r s = (refl, refl)
front_same (t ∷ front) brace r s = (refl, refl)

module _ (head : StilHead) (chains : List ScanChainDecl) (marks : Bool) (end : ℕ) (old new : Chains) (move : ScanCall → ScanCall) (ports : SamePorts head.chains chains)
    (moving : IsMove head (with_chains head chains marks end) old new move) where
  abbrev other : StilHead
  other = with_chains head chains marks end

  abbrev IsKeptFor : Pieces → Pieces → Type 0
  IsKeptFor qs rs = Kept head other old new move qs rs

  module _ (qs : Pieces) (y : List ℕ) (run : IsRun qs) (lies : AreLaid y qs) where
    same_renewed : IsRenewed qs qs
    same_renewed = stay_renewed qs (run_some qs y run lies) run

    stays_by : (is_empty (laid 0 qs) ≡ false → KeptAs head other old new move qs qs) → IsKeptFor qs qs
    stays_by reads = record { renewed = same_renewed; empty = refl; scans = λ e. e; stays = λ e. refl; reads = reads }

    empty_kept : is_empty (laid 0 qs) ≡ true → IsKeptFor qs qs
    empty_kept e = stays_by (λ f. absurd (true≢false (sym e ∙ f)))

    other_kept : shape_of head true (laid 0 qs) ≡ Other → KeptAs head other old new move qs qs
    other_kept e = record { before = Other; after = Other; shape = e; shape_new = shape_law head chains marks end true (laid 0 qs) ∙ e; written = λ more. refl; kind = refl; alike = refl; shows = tt }

    loop_kept : (times : ℕ) (body : List Token) → shape_of head true (laid 0 qs) ≡ Loop times body → KeptAs head other old new move qs qs
    loop_kept times body e =
        record { before = Loop times body; after = Loop times body; shape = e; shape_new = shape_law head chains marks end true (laid 0 qs) ∙ e; written = λ more. refl; kind = refl; alike = refl; shows = tt }

    module _ (items : List Item) (shape : shape_of head true (laid 0 qs) ≡ Scan items) (sound : kind_of Lengths head (Scan items) ≡ None) where
      abbrev call : ScanCall
      call = call_of head.chains items

      still_kept : call.shifts ≡ 0 → KeptAs head other old new move qs qs
      still_kept z =
          let m = moving.stays call z in
          let calls = call_same items head.chains chains ports in
          record {
            before = Scan items;
            after = Scan items;
            shape = shape;
            shape_new = shape_law head chains marks end true (laid 0 qs) ∙ shape;
            written = λ more. ap (written_scan chains (bytes_in qs)) m.0 ∙ unmoved chains (bytes_in qs) call z;
            kind = still_kind head other items ports z sound;
            alike = refl;
            shows = subst (ShowSame old new call) (sym calls) m.1;
          }

      accepted : IsAcceptedBy Lengths head call
      accepted = are_accepted Lengths head 0 [] 0 (Scan items) (statements.Scan 0 [] call 0) (ap (λ (o : Option Kind). fault_or o 0 None) sound) refl

      abbrev text : List ℕ
      text = bytes_in qs

      tokens : tokens_in text ≡ laid 0 qs
      tokens = all_tokens qs (laid_alone qs y lies)

      old_end : end_place (end_of false (begin (Known false)) text) ≡ Some (0 + length text)
      old_end = end_law false text ∙ ap (statement_end 0) tokens ∙ one_end 0 (laid 0 qs) (run.one 0) ∙ ap (λ (n : ℕ). Some n) (run.end 0)

      scan_text : 0 < call.shifts → IsScanText head true text
      scan_text some =
          let is = ap (shape_of head true) tokens ∙ shape in
          let b = block_law head true (tokens_in text) items is some in
          let e = found_at (end_of false (begin (Known false)) text) (0 + length text) old_end in
          let n : e.0.len ≡ length text = omega (arith, e.2) in
          record { items = items; shape = is; brace = b.0; opens = b.1; end = e.0; ends = e.1; whole = n }

      module _ (some : 0 < call.shifts) (st : IsScanText head true text) (f : Found text 0 st.brace) (moves : 0 < (move call).shifts) (w : IsWritable other (move call)) (same : ShowSame old new call (move call)) where
        abbrev inner : Pieces
        inner = block_pieces chains (move call).loads (move call).compares

        abbrev rs : Pieces
        rs = f.pieces ++ (true, 123 ∷ []) ∷ inner

        new_is : written_scan chains text (move call) ≡ bytes_in rs
        new_is = written_is head other true text (move call) st moves w f

        new_laid : (z : List ℕ) → AreLaid z rs
        new_laid z =
            let deep : AreLaid z inner = (
              omega arith,
              line_piece _,
              lines_laid chains (move call).loads (move call).compares z closing_pieces w.ports.plain w.fits.load_characters w.fits.compare_characters
                  (omega arith, blank_piece _, (omega arith, blank_piece _, (omega arith, close_piece z, tt))),
            ) in
            are_append f.pieces ((true, 123 ∷ []) ∷ inner) z (f.are_laid (bytes_in inner ++ z)) (omega arith, brace_alone (bytes_in inner ++ z) refl, deep)

        reads_so : ReadsAsCall other true (move call) text (bytes_in rs)
        reads_so = subst (ReadsAsCall other true (move call) text) new_is (reads_law head other true text (move call) st moves w refl refl)

        new_tokens : tokens_in (bytes_in rs) ≡ laid 0 rs
        new_tokens = all_tokens rs (new_laid [])

        new_end : statement_end 0 (laid 0 rs) ≡ Some (length (bytes_in rs))
        new_end =
            let r = reads_so in
            ap (statement_end 0) (sym new_tokens) ∙ sym (end_law false (bytes_in rs)) ∙ place_of_end (end_of false (begin (Known false)) (bytes_in rs)) r.end r.ends ∙ ap (λ (n : ℕ). Some n) r.whole

        new_one : IsOneFrom 0 (laid 0 rs)
        new_one = let k : length (bytes_in rs) ≡ 0 + length (bytes_in rs) = omega arith in ends_one rs 0 0 (length (bytes_in rs)) [] new_end k (new_laid [])

        fronts : ((place_of (laid 0 rs)).start ≡ (place_of (laid 0 qs)).start) × (is_empty (laid 0 rs) ≡ is_empty (laid 0 qs))
        fronts =
            let s = reads_so.same_front in
            let q = front_same s.front s.brace s.new_rest s.old_rest in
            let news : laid 0 rs ≡ s.front ++ s.brace ∷ s.new_rest = sym new_tokens ∙ s.new_is in
            let olds : laid 0 qs ≡ s.front ++ s.brace ∷ s.old_rest = sym tokens ∙ s.old_is in
            (ap (λ (l : List Token). (place_of l).start) news ∙ q.0 ∙ ap (λ (l : List Token). (place_of l).start) (sym olds), ap is_empty news ∙ q.1 ∙ ap is_empty (sym olds))

        new_run : IsRun rs
        new_run = run_at rs new_one (fronts.0 ∙ run.start 0) (same_Some _ _ (sym (one_end 0 (laid 0 rs) new_one) ∙ new_end))

        moved_kept : is_empty (laid 0 qs) ≡ false → IsKeptFor qs rs
        moved_kept full =
            let r = reads_so in
            let shape_new : shape_of other true (laid 0 rs) ≡ Scan r.items = ap (shape_of other true) (sym new_tokens) ∙ r.shape in
            record {
              renewed = record { some = run_some qs y run lies; first = one_of_two text (bytes_in rs) r.begins; run = new_run; lays = λ a z e l. new_laid z };
              empty = fronts.1;
              scans = λ e. scan_is other true (laid 0 rs) r.items shape_new;
              stays = λ e. absurd (true≢false (sym e ∙ full));
              reads = λ e. record {
                before = Scan items;
                after = Scan r.items;
                shape = shape;
                shape_new = shape_new;
                written = λ more. new_is;
                kind = r.sound;
                alike = heading_law text (bytes_in rs) r.same_front;
                shows = subst (ShowSame old new call) (sym r.is) same;
              };
            }

      scan_as : is_empty (laid 0 qs) ≡ false → (call.shifts ≡ 0) ⊎ (0 < call.shifts) → (rs : Pieces) × IsKeptFor qs rs
      scan_as full (inl z) = (qs, stays_by (λ e. still_kept z))
      scan_as full (inr some) =
          let st = scan_text some in
          let m = moving.moves call accepted some in
          let f = find (length text) [] text 0 st.brace (omega arith) refl st.opens in
          (rs some st f m.0 m.1 m.2, moved_kept some st f m.0 m.1 m.2 full)

    by_shape : is_empty (laid 0 qs) ≡ false → (shape : Shape) → shape_of head true (laid 0 qs) ≡ shape → kind_of Lengths head shape ≡ None → (rs : Pieces) × IsKeptFor qs rs
    by_shape full NoForm e k = absurd cc
    by_shape full Unsupported e k = absurd cc
    by_shape full Other e k = (qs, stays_by (λ f. other_kept e))
    by_shape full (Scan items) e k = scan_as items e k full (none_or_some (call_of head.chains items).shifts)
    by_shape full (Loop times body) e k = (qs, stays_by (λ f. loop_kept times body e))

  -- each statement without fault has one that stands for it
  pub keep : (qs : Pieces) (y : List ℕ) → IsRun qs → AreLaid y qs → (is_empty (laid 0 qs) ≡ false → kind_of Lengths head (shape_of head true (laid 0 qs)) ≡ None) → (rs : Pieces) × IsKeptFor qs rs
  keep qs y run lies sound = elim (cases_Bool (is_empty (laid 0 qs))) [
    | inl e ↦ (qs, empty_kept qs y run lies e)
    | inr e ↦ by_shape qs y run lies e (shape_of head true (laid 0 qs)) refl (sound e)
  ]
