-- Lines before the last token of a text in which some parts are replaced: its tokens, those of the lines, and the last token.
use Rattle.std.proofs.Common.{◌≡◌, ◌≢◌, ℕ, Bool, true, false, cond, suc, ◌+◌, ◌-◌, ◌<◌, ◌≤◌, List, [], ◌∷◌, ◌++◌, length, take, drop, map, refl, sym, ap, ◌∙◌, subst, arith, append_assoc}
use Rattle.std.specs.List.{prefix_len}
use Rattle.std.proofs.lemmas.List.{map-append, take-append-drop, take-take}
use Rattle.base_types.specs.declared.span.Span.{Span}
use Rattle.token_forms.specs.Pieces.{tokens_from}
use Rattle.token_forms.specs.Runs.{bytes_of, texts_of}
use Rattle.token_forms.proofs.Fronts.{part, part-append, part-drop, part-length}
use Rattle.token_forms.proofs.Reaches.{jump, reach_none, texts_here}
use Rattle.splice.specs.declared.Edit.{Edit}
use Rattle.splice.specs.Spliced.{spliced, AreRising}
use Rattle.splice.proofs.Written.{turned, Swapped}
use Rattle.verilog_syntax.specs.VerilogTokens.{is_word, piece_at, texts}
use Rattle.verilog_syntax.specs.Seams.{Starts, IsMarkAt}
use Rattle.verilog_syntax.proofs.VerilogPieces.{verilog_cut}
use Rattle.verilog_syntax.proofs.VerilogSeams.{Hard, verilog_seams}
use Rattle.verilog_syntax.proofs.VerilogMarks.{Stop}
use Rattle.verilog_syntax.proofs.VerilogLaws.{starts_more, between, stops_at}
use Rattle.verilog_writer.specs.Inserted.{put_in}
use Rattle.verilog_writer.proofs.Seams.{verilog}
use Rattle.verilog_writer.proofs.Settled.{settled, gap}

record Following {X : Type 0} (n : X) (bs : List X) (last end : X) : Type 0 where
  front : List X
  is : n ∷ bs ≡ front ++ last ∷ end ∷ []

ends_behind : {X : Type 0} (xs front : List X) (n last end : X) (bs : List X) → xs ++ n ∷ bs ≡ front ++ last ∷ end ∷ [] → (n ≡ end → ⊥) → Following n bs last end
ends_behind [] front n last end bs e other = record { front = front; is = e }
ends_behind (x ∷ []) [] n last end bs e other = absurd (other cc)
ends_behind (x ∷ y ∷ []) [] n last end bs e other = absurd cc
ends_behind (x ∷ y ∷ z ∷ xs) [] n last end bs e other = absurd cc
ends_behind {X} (x ∷ xs) (f ∷ front) n last end bs e other = let more : xs ++ n ∷ bs ≡ front ++ last ∷ end ∷ [] = cc in ends_behind xs front n last end bs more other

-- parts of a text
pub part_split : (text : List ℕ) (at m e : ℕ) → at ≤ m → m ≤ e → part text at e ≡ part text at m ++ part text m e
part_split text at m e le more =
    let n = m - at in
    let k : at + n ≡ m = omega arith in
    sym (take-append-drop n (part text at e))
    ∙ ap (λ (l : List ℕ). l ++ drop n (part text at e)) (take-take n (e - at) (drop at text) (omega arith))
    ∙ ap (λ (l : List ℕ). part text at m ++ l) (part-drop text at n e (omega arith) ∙ ap (λ (a : ℕ). part text a e) k)

pub part_first : (text : List ℕ) (at e b : ℕ) (rest : List ℕ) → at < e → drop at text ≡ b ∷ rest → part text at e ≡ b ∷ take (e - (at + 1)) rest
part_first text at e b rest lt is = let k : e - at ≡ suc (e - (at + 1)) = omega arith in rw (is, k) refl

-- a text that goes on where no word does
stop_cut : (p q : List ℕ) → 0 < length p → (r : List ℕ) → Stop (p ++ r) → Stop (p ++ q)
stop_cut [] q some r stop = absurd (omega arith)
stop_cut (c ∷ cs) q some r stop = by (is_word c) stop
  where
    by : (t : Bool) → cond t (1 + prefix_len is_word (cs ++ r)) 0 ≡ 0 → cond t (1 + prefix_len is_word (cs ++ q)) 0 ≡ 0
    by true stop = absurd (omega arith)
    by false stop = refl

cut_stop : (text : List ℕ) (at s : ℕ) (q w : List ℕ) → w ≡ part text at s ++ q → at < s → s ≤ length text → Stop (drop at text) → Stop w
cut_stop text at s q w is lt within stop =
    let size = part-length text at s (omega arith) within in
    subst Stop (sym is) (stop_cut (part text at s) q (omega arith) (drop s text) (subst Stop (sym (part-append text at s (omega arith))) stop))

-- the tokens before the last one, the lines' and the last one
pub record Put (ws vs : List (List ℕ)) (end : List ℕ) (rs : List (List ℕ)) : Type 0 where
  pub front : List (List ℕ)
  pub old : ws ≡ front ++ end ∷ []
  pub new : rs ≡ front ++ (vs ++ end ∷ [])

module _ (text lines : List ℕ) (vs : List (List ℕ)) (last end : Span) (goes : (z : List ℕ) → texts (32 ∷ (lines ++ z)) ≡ vs ++ texts z) (semicolon : bytes_of text last ≡ 59 ∷ []) (no_mark : IsMarkAt text end → ⊥) where
  abbrev added : Edit
  added = put_in end.start (32 ∷ lines)

  base : (at : ℕ) (front : List Span) (ws : List (List ℕ)) → AreRising at (length text) (added ∷ []) → tokens_from piece_at at 0 (drop at text) ≡ front ++ last ∷ end ∷ [] → ws ≡ texts_of text (front ++ last ∷ end ∷ [])
      → Put ws vs (bytes_of text end) (texts (drop at (spliced text (added ∷ []))))
  unfolding spliced
  base at front ws rising is same =
      let t = turned text at added [] rising in
      let s = settled (length text) text at front last (end ∷ []) (omega arith) semicolon is in
      let j = jump piece_at verilog_cut (length text) text at front last (end ∷ []) (omega arith) is in
      let r = reach_none piece_at Starts Hard verilog_seams (length text) text last.end end [] (omega arith) j.rest in
      let o = r.ordered in
      let b = s.before in
      let one = s.one in
      let rest = drop end.start text in
      let z = lines ++ rest in
      let two : part text at end.start ≡ part text at last.start ++ 59 ∷ part text last.end end.start
      = part_split text at last.start end.start s.before (omega arith)
      ∙ ap (λ (l : List ℕ). part text at last.start ++ l) (part_first text last.start end.start 59 (drop last.end text) (omega arith) s.here ∙ ap (λ (k : ℕ). 59 ∷ take (end.start - k) (drop last.end text)) (sym s.one))
      in
      let tail : texts rest ≡ bytes_of text end ∷ [] = texts_here piece_at verilog_cut (length text) text end.start (omega arith) ∙ ap (texts_of text) r.rest in
      let semi : bytes_of text last ≡ 59 ∷ [] = semicolon in
      record {
        front = texts_of text (front ++ last ∷ []);
        old = same ∙ ap (texts_of text) (sym (append_assoc front (last ∷ []) (end ∷ []))) ∙ map-append (bytes_of text) (front ++ last ∷ []) (end ∷ []);
        new = ap (λ (l : List ℕ). texts l) t.cut
            ∙ ap (λ (l : List ℕ). texts (l ++ 32 ∷ z)) two
            ∙ ap (λ (l : List ℕ). texts l) (append_assoc (part text at last.start) (59 ∷ part text last.end end.start) (32 ∷ z))
            ∙ s.goes (part text last.end end.start ++ 32 ∷ z)
            ∙ ap (λ (l : List (List ℕ)). texts_of text front ++ (59 ∷ []) ∷ l) (gap (length text) text last.end end [] z (omega arith) j.rest ∙ goes rest ∙ ap (λ (l : List (List ℕ)). vs ++ l) tail)
            ∙ ap (λ (w : List ℕ). texts_of text front ++ w ∷ (vs ++ bytes_of text end ∷ [])) (sym semicolon)
            ∙ sym (append_assoc (texts_of text front) (bytes_of text last ∷ []) (vs ++ bytes_of text end ∷ []))
            ∙ ap (λ (l : List (List ℕ)). l ++ (vs ++ bytes_of text end ∷ [])) (sym (map-append (bytes_of text) front (last ∷ [])));
      }

  -- behind an edit the text goes on vs it was
  goes_on : (es : List Edit) (at : ℕ) → AreRising (at + 1) (length text) (es ++ added ∷ []) → AreRising at (length text) (es ++ added ∷ []) → Stop (drop at text) → Stop (drop at (spliced text (es ++ added ∷ [])))
  goes_on [] at further rising stop =
      let t = turned text at added [] rising in
      let a = further.0 in
      let c = further.2 in
      cut_stop text at end.start _ _ t.cut (omega arith) (omega arith) stop
  goes_on (e ∷ es) at further rising stop =
      let t = turned text at e (es ++ added ∷ []) rising in
      let a = further.0 in
      let b = further.1 in
      let c = further.2 in
      cut_stop text at e.span.start _ _ t.cut (omega arith) (omega arith) stop

  pub put_from : (es : List Edit) (at : ℕ) (ss front : List Span) (ws : List (List ℕ)) → AreRising at (length text) (es ++ added ∷ []) → tokens_from piece_at at 0 (drop at text) ≡ ss → ss ≡ front ++ last ∷ end ∷ []
      → Swapped verilog text es ss ws → Put ws vs (bytes_of text end) (texts (drop at (spliced text (es ++ added ∷ []))))
  put_from [] at ss front ws rising is ends sw = base at front ws rising (is ∙ ends) (sw ∙ ap (texts_of text) ends)
  put_from (e ∷ es) at ss front ws rising is ends sw =
      let t = turned text at e (es ++ added ∷ []) rising in
      let opens : IsMarkAt text sw.mark = record { mark = sw.opens.mark; is = sw.opens.is; only = sw.opens.only } in
      let closes : IsMarkAt text sw.next = record { mark = sw.closes.mark; is = sw.closes.is; only = sw.closes.only } in
      let p = between text at e.span sw.front sw.mark sw.run sw.next sw.behind opens sw.place (is ∙ sw.cut) in
      let rest = drop e.span.end (spliced text (es ++ added ∷ [])) in
      let stop = goes_on es e.span.end rising.3 t.rising (stops_at text e.span.end sw.next sw.behind closes p.rest) in
      let cut : (sw.front ++ sw.mark ∷ sw.run) ++ sw.next ∷ sw.behind ≡ front ++ last ∷ end ∷ [] = append_assoc sw.front (sw.mark ∷ sw.run) (sw.next ∷ sw.behind) ∙ sym sw.cut ∙ ends in
      let b = ends_behind (sw.front ++ sw.mark ∷ sw.run) front sw.next last end sw.behind cut (λ s. no_mark (subst (IsMarkAt text) s closes)) in
      let more = put_from es e.span.end (sw.next ∷ sw.behind) b.front sw.later t.rising p.rest b.is sw.more in
      let here = texts_of text (sw.front ++ sw.mark ∷ []) in
      let own = texts e.text in
      let far : (q : List (List ℕ)) → here ++ (own ++ (more.front ++ q)) ≡ (here ++ (own ++ more.front)) ++ q
      = λ q. ap (λ (l : List (List ℕ)). here ++ l) (sym (append_assoc own more.front q)) ∙ sym (append_assoc here (own ++ more.front) q)
      in
      record {
        front = here ++ (own ++ more.front);
        old = sw.news ∙ ap (λ (l : List (List ℕ)). here ++ (own ++ l)) more.old ∙ far (bytes_of text end ∷ []);
        new = ap (λ (l : List ℕ). texts l) t.cut
            ∙ p.front.goes (e.text ++ rest) (starts_more e.text rest sw.ready.starts)
            ∙ ap (λ (ts : List (List ℕ)). here ++ ts) (sw.ready.goes rest stop ∙ ap (λ (ts : List (List ℕ)). own ++ ts) more.new)
            ∙ far (vs ++ bytes_of text end ∷ []);
      }
