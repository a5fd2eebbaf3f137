-- Edits of runs of tokens, one behind the other.
use Rattle.std.proofs.Common.{◌≡◌, ℕ, ◌<◌, Bool, true, List, [], ◌∷◌, ◌++◌, length, map, drop, refl, sym, ap, ◌∙◌, subst, append_assoc, append-nil, length-append, arith, ◌⊎◌, inl, inr}
use Rattle.std.proofs.lemmas.List.{map-append}
use Rattle.token_forms.specs.Tokens.{Token, place_of}
use Rattle.token_forms.specs.Parts.{token_texts}
use Rattle.splice.specs.declared.Edit.{Edit}
use Rattle.splice.specs.Spliced.{spliced, AreRising}
use Rattle.def_tokens.specs.DefTokens.{tokens_in}
use Rattle.def_tokens.specs.DefSplit.{goes_on}
use Rattle.def_layout.specs.Words.{texts}
use Rattle.def_layout.proofs.NetThere.{texts_both}
use Rattle.def_edit.specs.Seams.{WordEdit, HasWordsBefore, is_firm, ends_plain, AreWordEditsOf, AreWordEdits}
use Rattle.def_edit.proofs.seams.Words.{rising_law, seam_law}

-- some tokens of a text have these words with edits of runs of them, before whatever edits stand behind
pub record IsEdited (text : List ℕ) (ts : List Token) (edits : List Edit) (ws : List (List ℕ)) : Type 0 where
  pub es : List WordEdit
  pub are : map (λ (e : WordEdit). e.edit) es ≡ edits
  pub goes : (rest : List Token) (later : List WordEdit) (us : List (List ℕ)) → AreWordEditsOf text true rest later us → AreWordEditsOf text true (ts ++ rest) (es ++ later) (ws ++ us)

-- tokens that stay, before edits
with_front : (text : List ℕ) (free : Bool) (front rest : List Token) (es : List WordEdit) (us : List (List ℕ)) → (free ≡ true) ⊎ (0 < length front) → AreWordEditsOf text true rest es us
    → AreWordEditsOf text free (front ++ rest) es (token_texts front ++ us)
with_front text free front rest [] us apart h = ap (λ (l : List (List ℕ)). token_texts front ++ l) h ∙ sym (texts_both front rest)
with_front text free front rest (e ∷ es) us apart h = record {
  front = front ++ h.front;
  run = h.run;
  behind = h.behind;
  is = ap (λ (l : List Token). front ++ l) h.is ∙ sym (append_assoc front h.front (h.run ++ h.behind));
  apart = elim apart [ inl is ↦ inl is | inr some ↦ inr (more front h.front some) ];
  firm = h.firm;
  place = h.place;
  begins = h.begins;
  news = h.news;
  later = h.later;
  words = ap (λ (l : List (List ℕ)). token_texts front ++ l) h.words ∙ sym (append_assoc (token_texts front) (token_texts h.front) (e.words ++ h.later)) ∙ ap (λ (l : List (List ℕ)). l ++ (e.words ++ h.later)) (sym (texts_both front h.front));
  more = h.more;
}
  where
    more : (a b : List Token) → 0 < length a → 0 < length (a ++ b)
    more a b some = omega (arith, length-append a b)

-- tokens without edits
pub unedited : (text : List ℕ) (ts : List Token) → IsEdited text ts [] (token_texts ts)
unedited text ts = record { es = []; are = refl; goes = λ rest later us h. with_front text true ts rest later us (inl refl) h }

-- tokens behind tokens
pub edited_both : (text : List ℕ) (ts us : List Token) (es fs : List Edit) (ws vs : List (List ℕ)) → IsEdited text ts es ws → IsEdited text us fs vs → IsEdited text (ts ++ us) (es ++ fs) (ws ++ vs)
edited_both text ts us es fs ws vs a b = record {
  es = a.es ++ b.es;
  are = map-append (λ (e : WordEdit). e.edit) a.es b.es ∙ ap (λ (l : List Edit). l ++ map (λ (e : WordEdit). e.edit) b.es) a.are ∙ ap (λ (l : List Edit). es ++ l) b.are;
  goes = λ rest later k h.
      let all = a.goes (us ++ rest) (b.es ++ later) (vs ++ k) (b.goes rest later k h) in
      rw (append_assoc ts us rest, append_assoc a.es b.es later, append_assoc ws vs k) all;
}

-- one run of tokens is edited
pub one_edited : (text : List ℕ) (front run tail : List Token) (edit : Edit) (words : List (List ℕ)) → is_firm run ≡ true → edit.span ≡ place_of run → goes_on edit.text ≡ true
    → HasWordsBefore edit.text words (drop edit.span.end text) → (ends_plain run ≡ true) ⊎ (0 < length tail) → IsEdited text (front ++ (run ++ tail)) (edit ∷ []) (token_texts front ++ (words ++ token_texts tail))
one_edited text front run tail edit words firm place begins news apart = record {
  es = record { edit = edit; words = words } ∷ [];
  are = refl;
  goes = λ rest later us h. record {
    front = front;
    run = run;
    behind = tail ++ rest;
    is = append_assoc front (run ++ tail) rest ∙ ap (λ (l : List Token). front ++ l) (append_assoc run tail rest);
    apart = inl refl;
    firm = firm;
    place = place;
    begins = begins;
    news = news;
    later = token_texts tail ++ us;
    words = append_assoc (token_texts front) (words ++ token_texts tail) us ∙ ap (λ (l : List (List ℕ)). token_texts front ++ l) (append_assoc words (token_texts tail) us);
    more = with_front text (ends_plain run) tail rest later us apart h;
  };
}

-- the same, with other names
pub edited_as : (text : List ℕ) (ts us : List Token) (es fs : List Edit) (ws vs : List (List ℕ)) → ts ≡ us → es ≡ fs → ws ≡ vs → IsEdited text ts es ws → IsEdited text us fs vs
edited_as text ts us es fs ws vs a b c h = rw (← a, ← b, ← c) h

-- all tokens of a text
module _ (text : List ℕ) (edits : List Edit) (ws : List (List ℕ)) (h : IsEdited text (tokens_in text) edits ws) where
  all_edits : AreWordEdits text h.es ws
  all_edits = rw (append-nil (tokens_in text), append-nil h.es, append-nil ws) at (h.goes [] [] [] refl)

  pub edited_rising : AreRising 0 (length text) edits
  edited_rising = subst (AreRising 0 (length text)) h.are (rising_law text h.es ws all_edits)

  pub edited_words : texts (spliced text edits) ≡ ws
  edited_words = ap (λ (l : List Edit). texts (spliced text l)) (sym h.are) ∙ seam_law text h.es ws all_edits
