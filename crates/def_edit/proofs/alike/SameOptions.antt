-- Options are spelled by words alone.
use Rattle.std.proofs.Common.{◌≡◌, ℕ, Bool, List, [], ◌∷◌, Option, refl, sym, ◌∙◌}
use Rattle.token_forms.specs.Tokens.{Token}
use Rattle.token_forms.specs.Parts.{token_texts}
use Rattle.token_forms.specs.Classes.{Class, Only, begins}
use Rattle.token_forms.specs.Forms.{Form, many, maybe}
use Rattle.def_syntax.specs.Options.{all_stand, open_after, open_behind, first_word, unread, options, with_options}
use Rattle.def_edit.specs.Alike.ByWords.{IsByWords}
use Rattle.def_edit.proofs.alike.SameForms.{pair_by, many_by, maybe_by}

same_stand : (depth : ℕ) (ts us : List Token) → token_texts ts ≡ token_texts us → all_stand depth ts ≡ all_stand depth us
unfolding all_stand
same_stand depth [] [] e = refl
same_stand depth [] (u ∷ us) e = absurd cc
same_stand depth (t ∷ ts) [] e = absurd cc
same_stand depth (t ∷ ts) (u ∷ us) e =
    let here : t.text ≡ u.text = cc in
    let tail : token_texts ts ≡ token_texts us = cc in
    rw (here, same_stand (open_behind depth u.text) ts us tail) refl

same_open : (depth : ℕ) (ts us : List Token) → token_texts ts ≡ token_texts us → open_after depth ts ≡ open_after depth us
unfolding open_after
same_open depth [] [] e = refl
same_open depth [] (u ∷ us) e = absurd cc
same_open depth (t ∷ ts) [] e = absurd cc
same_open depth (t ∷ ts) (u ∷ us) e =
    let here : t.text ≡ u.text = cc in
    let tail : token_texts ts ≡ token_texts us = cc in
    rw (here) (same_open (open_behind depth u.text) ts us tail)

pub same_begins : (cs : List Class) (ts us : List Token) → token_texts ts ≡ token_texts us → begins cs ts ≡ begins cs us
same_begins cs [] [] e = refl
same_begins cs [] (u ∷ us) e = absurd cc
same_begins cs (t ∷ ts) [] e = absurd cc
same_begins cs (t ∷ ts) (u ∷ us) e = let here : t.text ≡ u.text = cc in rw here refl

same_first : (ts us : List Token) → token_texts ts ≡ token_texts us → first_word ts ≡ first_word us
same_first [] [] e = refl
same_first [] (u ∷ us) e = absurd cc
same_first (t ∷ ts) [] e = absurd cc
same_first (t ∷ ts) (u ∷ us) e = let here : t.text ≡ u.text = cc in rw here refl

pub unread_by : (closed : Bool) (read : List (List ℕ)) → IsByWords (unread closed read)
unread_by closed read =
    record {
      same = λ x ts us e h.
          record {
            stand = sym (same_stand 0 ts us e) ∙ h.stand;
            shut = λ c. sym (same_open 0 ts us e) ∙ h.shut c;
            free = sym (same_begins (Only read ∷ []) ts us e) ∙ h.free;
            first = sym (same_first ts us e) ∙ h.first;
          };
    }

pub options_by : {X : Type 0} (closed any : Form X) → IsByWords closed → IsByWords any → IsByWords (options closed any)
options_by closed any f g = record { same = λ x ts us e h. record { parts = h.parts; is = h.is; holds = (pair_by (many closed) (maybe any) (many_by closed f) (maybe_by any g)).same h.parts ts us e h.holds } }

pub with_options_by : {S X : Type 0} (start : Form S) (put : S → X → Option S) (closed any : Form X) → IsByWords start → IsByWords closed → IsByWords any → IsByWords (with_options start put closed any)
with_options_by start put closed any s f g =
    record { same = λ x ts us e h. record { parts = h.parts; is = h.is; holds = (pair_by start (options closed any) s (options_by closed any f g)).same h.parts ts us e h.holds } }
