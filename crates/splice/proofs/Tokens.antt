-- The written text's tokens, from the tokens with their texts.
use Rattle.std.proofs.Common.{◌≡◌, ℕ, true, suc, ◌+◌, ◌≤◌, List, [], ◌∷◌, ◌++◌, length, take, drop, map, refl, sym, ap, ◌∙◌, subst, arith}
use Rattle.std.proofs.lemmas.List.{map-append}
use Rattle.base_types.specs.declared.span.Span.{Span}
use Rattle.token_forms.specs.Tokens.{Token, token_of, tokens_of}
use Rattle.std.specs.List.{AllByRecursion as Each}
use Rattle.token_forms.specs.Runs.{bytes_of, texts_of, IsRun, end_of}
use Rattle.splice.proofs.Seams.{Seams, spans_in, texts_in, IsReady}
use Rattle.splice.specs.declared.Edit.{Edit}
use Rattle.splice.specs.Spliced.{spliced, AreRising}
use Rattle.splice.proofs.Written.{Swap, Swapped, written_from}
use Rattle.token_forms.specs.Parts.{IsPlace, last_end, token_texts}

abbrev pub back : Token → Span
back t = record { start = t.start; end = t.end }

abbrev pub IsOf : List ℕ → Token → Type 0
IsOf text t = bytes_of text (back t) ≡ t.text

pub are_of : (text : List ℕ) (ss : List Span) → Each (IsOf text) (tokens_of text ss)
are_of text [] = tt
are_of text (s ∷ ss) = (refl, are_of text ss)

pub back_again : (text : List ℕ) (ss : List Span) → map back (tokens_of text ss) ≡ ss
back_again text [] = refl
back_again text (s ∷ ss) = ap (λ (l : List Span). s ∷ l) (back_again text ss)

pub each_behind : {X : Type 0} (P : X → Type 0) (xs ys : List X) → Each P (xs ++ ys) → Each P ys
each_behind P [] ys e = e
each_behind P (x ∷ xs) ys e = each_behind P xs ys e.1

pub each_front : {X : Type 0} (P : X → Type 0) (xs ys : List X) → Each P (xs ++ ys) → Each P xs
each_front P [] ys e = tt
each_front P (x ∷ xs) ys e = (e.0, each_front P xs ys e.1)

pub each_join : {X : Type 0} (P : X → Type 0) (xs ys : List X) → Each P xs → Each P ys → Each P (xs ++ ys)
each_join P [] ys e f = f
each_join P (x ∷ xs) ys e f = (e.0, each_join P xs ys e.1 f)

texts_back : (text : List ℕ) (ts : List Token) → Each (IsOf text) ts → texts_of text (map back ts) ≡ token_texts ts
texts_back text [] e = refl
texts_back text (t ∷ ts) e = rw (e.0) (ap (λ (l : List (List ℕ)). t.text ∷ l) (texts_back text ts e.1))

-- the first edit is of tokens between two marks
pub record SwapTokens (s : Seams) (ts : List Token) (e : Edit) (ws : List (List ℕ)) (More : List Token → List (List ℕ) → Type 0) : Type 0 where
  pub front : List Token
  pub mark : Token
  pub run : List Token
  pub next : Token
  pub behind : List Token
  pub opening : ℕ
  pub closing : ℕ
  pub cut : ts ≡ front ++ mark ∷ (run ++ next ∷ behind)
  pub opens : s.marks opening ≡ true
  pub opens_is : mark.text ≡ opening ∷ []
  pub closes : s.marks closing ≡ true
  pub closes_is : next.text ≡ closing ∷ []
  pub place : IsPlace e.span run next
  pub ready : IsReady s e.text
  pub later : List (List ℕ)
  pub news : ws ≡ token_texts (front ++ mark ∷ []) ++ (texts_in s e.text ++ later)
  pub more : More (next ∷ behind) later

abbrev pub AreSwapped : Seams → List Edit → List Token → List (List ℕ) → Type 0
AreSwapped s [] ts ws = ws ≡ token_texts ts
AreSwapped s (e ∷ es) ts ws = SwapTokens s ts e ws (AreSwapped s es)

end_back : (t : Token) (ts : List Token) → end_of (back t) (map back ts) ≡ last_end t ts
end_back t [] = refl
end_back t (u ∷ us) = end_back u us

place_back : (place : Span) (run : List Token) (next : Token) → IsPlace place run next → IsRun place (map back run) (back next)
place_back place [] next p = p
place_back place (t ∷ ts) next p = (p.0, p.1 ∙ sym (end_back t ts))

module _ (s : Seams) where
  pub swapped_back : (text : List ℕ) (es : List Edit) (ts : List Token) (ws : List (List ℕ)) → Each (IsOf text) ts → AreSwapped s es ts ws → Swapped s text es (map back ts) ws
  swapped_back text [] ts ws each sw = sw ∙ sym (texts_back text ts each)
  swapped_back text (e ∷ es) ts ws each sw =
      let whole = subst (Each (IsOf text)) sw.cut each in
      let here = each_behind (IsOf text) sw.front (sw.mark ∷ (sw.run ++ sw.next ∷ sw.behind)) whole in
      let later = each_behind (IsOf text) sw.run (sw.next ∷ sw.behind) here.1 in
      let front : Each (IsOf text) (sw.front ++ sw.mark ∷ []) = each_join (IsOf text) sw.front (sw.mark ∷ []) (each_front (IsOf text) sw.front _ whole) (here.0, tt) in
      record {
        front = map back sw.front;
        mark = back sw.mark;
        run = map back sw.run;
        next = back sw.next;
        behind = map back sw.behind;
        cut = ap (λ (l : List Token). map back l) sw.cut ∙ map-append back sw.front (sw.mark ∷ (sw.run ++ sw.next ∷ sw.behind))
            ∙ ap (λ (l : List Span). map back sw.front ++ back sw.mark ∷ l) (map-append back sw.run (sw.next ∷ sw.behind));
        opens = record { mark = sw.opening; is = sw.opens; only = here.0 ∙ sw.opens_is };
        closes = record { mark = sw.closing; is = sw.closes; only = later.0 ∙ sw.closes_is };
        place = place_back e.span sw.run sw.next sw.place;
        ready = sw.ready;
        later = sw.later;
        news = sw.news ∙ ap (λ (l : List (List ℕ)). l ++ (texts_in s e.text ++ sw.later)) (sym (texts_back text (sw.front ++ sw.mark ∷ []) front) ∙ ap (texts_of text) (map-append back sw.front (sw.mark ∷ [])));
        more = swapped_back text es (sw.next ∷ sw.behind) sw.later later sw.more;
      }

  -- the written text's tokens
  pub written_tokens : (text : List ℕ) (es : List Edit) (ws : List (List ℕ)) → AreRising 0 (length text) es → AreSwapped s es (tokens_of text (spans_in s text)) ws → texts_in s (spliced text es) ≡ ws
  written_tokens text es ws rising sw =
      let spans = spans_in s text in
      let swapped = swapped_back text es (tokens_of text spans) ws (are_of text spans) sw in
      written_from s es text 0 (map back (tokens_of text spans)) ws rising (sym (back_again text spans)) swapped
