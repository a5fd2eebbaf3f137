-- Which statements open and end a section.
use Rattle.std.proofs.Common.{◌≡◌, ℕ, List, [], ◌∷◌, refl, codes}
use Rattle.token_forms.specs.Tokens.{Token}
use Rattle.token_forms.specs.Parts.{token_texts}
use Rattle.def_tokens.specs.DefStatements.{ends_with, is_closed}
use Rattle.def_syntax.specs.Frames.{opened_by, is_end, is_head}
use Rattle.def_edit.proofs.alike.SameStatements.{same_length}

pub same_opened : (ts us : List Token) → token_texts ts ≡ token_texts us → opened_by ts ≡ opened_by us
same_opened [] [] e = refl
same_opened [] (u ∷ us) e = absurd cc
same_opened (t ∷ ts) [] e = absurd cc
same_opened (t ∷ ts) (u ∷ us) e = let here : t.text ≡ u.text = cc in rw here refl

pub same_end : (word : List ℕ) (ts us : List Token) → token_texts ts ≡ token_texts us → is_end word ts ≡ is_end word us
same_end word [] [] e = refl
same_end word [] (u ∷ us) e = absurd cc
same_end word (t ∷ []) [] e = absurd cc
same_end word (t ∷ []) (u ∷ []) e = refl
same_end word (t ∷ []) (u ∷ v ∷ us) e = absurd cc
same_end word (t ∷ t2 ∷ []) [] e = absurd cc
same_end word (t ∷ t2 ∷ []) (u ∷ []) e = absurd cc
same_end word (t ∷ t2 ∷ []) (u ∷ v ∷ []) e = let here : t.text ≡ u.text = cc in let there : t2.text ≡ v.text = cc in rw (here, there) refl
same_end word (t ∷ t2 ∷ []) (u ∷ v ∷ w ∷ us) e = absurd cc
same_end word (t ∷ t2 ∷ t3 ∷ ts) [] e = absurd cc
same_end word (t ∷ t2 ∷ t3 ∷ ts) (u ∷ []) e = absurd cc
same_end word (t ∷ t2 ∷ t3 ∷ ts) (u ∷ v ∷ []) e = absurd cc
same_end word (t ∷ t2 ∷ t3 ∷ ts) (u ∷ v ∷ w ∷ us) e = refl

pub same_head : (ts us : List Token) → token_texts ts ≡ token_texts us → is_head ts ≡ is_head us
same_head [] [] e = refl
same_head [] (u ∷ us) e = absurd cc
same_head (t ∷ ts) [] e = absurd cc
same_head (t ∷ []) (u ∷ []) e = refl
same_head (t ∷ []) (u ∷ v ∷ us) e = absurd cc
same_head (t ∷ t2 ∷ ts) (u ∷ []) e = absurd cc
same_head (t ∷ t2 ∷ []) (u ∷ v ∷ []) e = refl
same_head (t ∷ t2 ∷ []) (u ∷ v ∷ w ∷ us) e = absurd cc
same_head (t ∷ t2 ∷ t3 ∷ ts) (u ∷ v ∷ []) e = absurd cc
same_head (t ∷ t2 ∷ t3 ∷ []) (u ∷ v ∷ w ∷ []) e = let here : t3.text ≡ w.text = cc in rw here refl
same_head (t ∷ t2 ∷ t3 ∷ []) (u ∷ v ∷ w ∷ x ∷ us) e = absurd cc
same_head (t ∷ t2 ∷ t3 ∷ t4 ∷ ts) (u ∷ v ∷ w ∷ []) e = absurd cc
same_head (t ∷ t2 ∷ t3 ∷ t4 ∷ ts) (u ∷ v ∷ w ∷ x ∷ us) e = refl

same_ends : (w : List ℕ) (ts us : List Token) → token_texts ts ≡ token_texts us → ends_with w ts ≡ ends_with w us
same_ends w [] [] e = refl
same_ends w [] (u ∷ us) e = absurd cc
same_ends w (t ∷ ts) [] e = absurd cc
same_ends w (t ∷ []) (u ∷ []) e = let here : t.text ≡ u.text = cc in rw here refl
same_ends w (t ∷ []) (u ∷ v ∷ us) e = absurd cc
same_ends w (t ∷ t2 ∷ ts) (u ∷ []) e = absurd cc
same_ends w (t ∷ t2 ∷ ts) (u ∷ v ∷ us) e = let tail : token_texts (t2 ∷ ts) ≡ token_texts (v ∷ us) = cc in same_ends w (t2 ∷ ts) (v ∷ us) tail

pub same_closed : (ts us : List Token) → token_texts ts ≡ token_texts us → is_closed ts ≡ is_closed us
same_closed [] [] e = refl
same_closed [] (u ∷ us) e = absurd cc
same_closed (t ∷ ts) [] e = absurd cc
same_closed (t ∷ ts) (u ∷ us) e =
    let here : t.text ≡ u.text = cc in
    let tail : token_texts ts ≡ token_texts us = cc in
    rw (here, same_length ts us tail, same_ends (codes "ENDEXT") ts us tail, same_ends (codes ";") (t ∷ ts) (u ∷ us) e) refl
