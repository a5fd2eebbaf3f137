-- Statements of PINS, NETS and SCANCHAINS end by themselves, and none of them is an END.
use Rattle.std.proofs.Common.{◌≡◌, ℕ, zero, suc, ◌<◌, Bool, true, false, not, ◌||◌, List, [], ◌∷◌, ◌++◌, length, take, drop, codes, refl, sym, ap, ◌∙◌, subst}
use Rattle.std.specs.List.{list_all}
use Rattle.std.specs.Str.{bytes_eq}
use Rattle.std.proofs.lemmas.Bool.{and_parts}
use Rattle.base_types.proofs.TruthValues.{bytes_are}
use Rattle.token_forms.specs.Tokens.{Token}
use Rattle.token_forms.specs.Parts.{token_texts}
use Rattle.token_forms.specs.Classes.{But, is_in, is_in_any, Only}
use Rattle.token_forms.specs.Forms.{Form}
use Rattle.token_forms.specs.Laws.{IsStatement}
use Rattle.def_tokens.specs.DefStatements.{ends_with, is_closed}
use Rattle.def_syntax.specs.Words.{marks}
use Rattle.def_syntax.specs.Frames.{is_end}
use Rattle.def_syntax.specs.Grammar.{component, design_pin, net, chain}
use Rattle.def_syntax.specs.OptionForms.{component_form, design_pin_form, component_option, pin_option}
use Rattle.def_syntax.specs.declared.pin.DesignPin.{DesignPin}
use Rattle.def_syntax.proofs.Lawful.{component_statement, pin_statement, net_statement, chain_statement}
use Rattle.def_layout.specs.declared.chains.ChainLayout.{ChainLayout}
use Rattle.def_layout.specs.SectionForms.{is_written_well, chain_words}
use Rattle.def_layout.specs.Words.{is_whole}
use Rattle.def_layout.proofs.Closing.{are_free}
use Rattle.def_layout.proofs.SectionWords.{is_part, front_words, words_cut, words_parts}
use Rattle.def_layout.proofs.SectionStatements.{statement_front}
use Rattle.def_edit.proofs.alike.Statements.{IsShut, IsEnded}
use Rattle.def_edit.proofs.alike.SamePins.{ChangedPin}

-- the first word of a statement is a -
abbrev pub BeginsDashed : List Token → Type 0
BeginsDashed [] = ⊥
BeginsDashed (t ∷ ts) = t.text ≡ codes "-"

-- a form whose statements begin so
pub record IsDashed {X : Type 0} (form : Form X) : Type 0 where
  pub first : (x : X) (ts : List Token) → form.spells x ts → BeginsDashed ts

dash_is : (w : List ℕ) → ((bytes_eq w (codes "-") || false) || false) ≡ true → w ≡ codes "-"
dash_is w e = bytes_are w (codes "-") (of (bytes_eq w (codes "-")) e)
  where
    of : (b : Bool) → ((b || false) || false) ≡ true → b ≡ true
    of true e = refl
    of false e = absurd cc

begins_dashed : {X : Type 0} (form : Form X) (h : IsStatement form) → form.starts ≡ Only (codes "-" ∷ []) ∷ [] → (x : X) (ts : List Token) → form.spells x ts → BeginsDashed ts
begins_dashed form h e x [] k = absurd (h.lawful.not_empty h.full x k)
begins_dashed form h e x (t ∷ ts) k = dash_is t.text (ap (λ cs. is_in_any cs t.text) (sym e) ∙ h.lawful.first x t ts k)

pub components_dashed : IsDashed component
unfolding component component_form component_option
components_dashed = record { first = begins_dashed component component_statement refl }

pub pins_dashed : IsDashed design_pin
unfolding design_pin design_pin_form pin_option
pins_dashed = record { first = begins_dashed design_pin pin_statement refl }

pub nets_dashed : IsDashed net
unfolding net
nets_dashed = record { first = begins_dashed net net_statement refl }

pub chains_dashed : IsDashed chain
unfolding chain
chains_dashed = record { first = begins_dashed chain chain_statement refl }

pub no_end : (word : List ℕ) (ts : List Token) → BeginsDashed ts → is_end word ts ≡ false
no_end word [] h = absurd h
no_end word (t ∷ []) h = refl
no_end word (t ∷ u ∷ []) h = rw h refl
no_end word (t ∷ u ∷ v ∷ ts) h = refl

-- statements that begin so end at a semicolon
dashed_closed : (ts : List Token) → BeginsDashed ts → is_closed ts ≡ ends_with (codes ";") ts
dashed_closed [] h = absurd h
dashed_closed (t ∷ ts) h = rw h refl

-- each word of the one tokens is a semicolon where the other's is
abbrev AreLike : List Token → List Token → Type 0
AreLike [] [] = Unit {0}
AreLike [] (u ∷ us) = ⊥
AreLike (t ∷ ts) [] = ⊥
AreLike (t ∷ ts) (u ∷ us) = (bytes_eq t.text (codes ";") ≡ bytes_eq u.text (codes ";")) × AreLike ts us

like_length : (ts us : List Token) → AreLike ts us → length ts ≡ length us
like_length [] [] h = refl
like_length [] (u ∷ us) h = absurd h
like_length (t ∷ ts) [] h = absurd h
like_length (t ∷ ts) (u ∷ us) h = ap (λ (n : ℕ). suc n) (like_length ts us h.1)

like_take : (n : ℕ) (ts us : List Token) → AreLike ts us → AreLike (take n ts) (take n us)
like_take zero ts us h = tt
like_take (suc n) [] [] h = tt
like_take (suc n) [] (u ∷ us) h = absurd h
like_take (suc n) (t ∷ ts) [] h = absurd h
like_take (suc n) (t ∷ ts) (u ∷ us) h = (h.0, like_take n ts us h.1)

like_ends : (ts us : List Token) → AreLike ts us → ends_with (codes ";") ts ≡ ends_with (codes ";") us
like_ends [] [] h = refl
like_ends [] (u ∷ us) h = absurd h
like_ends (t ∷ ts) [] h = absurd h
like_ends (t ∷ []) (u ∷ []) h = h.0
like_ends (t ∷ []) (u ∷ v ∷ us) h = absurd h.1
like_ends (t ∷ w ∷ ts) (u ∷ []) h = absurd h.1
like_ends (t ∷ w ∷ ts) (u ∷ v ∷ us) h = like_ends (w ∷ ts) (v ∷ us) h.1

dashed_take : (n : ℕ) (ts : List Token) → BeginsDashed ts → BeginsDashed (take (suc n) ts)
dashed_take n [] h = absurd h
dashed_take n (t ∷ ts) h = h

like_ended : (s u : List Token) → BeginsDashed s → BeginsDashed u → AreLike s u → IsEnded s → IsEnded u
like_ended s u ds du like h =
    let len = like_length s u like in
    record {
      some = subst (λ (n : ℕ). 0 < n) len h.some;
      ends = dashed_closed u du ∙ sym (like_ends s u like) ∙ sym (dashed_closed s ds) ∙ h.ends;
      shortest = λ n lt. short n (subst (λ (m : ℕ). n < m) (sym len) lt);
    }
  where
    short : (n : ℕ) → n < length s → is_closed (take n u) ≡ false
    short zero lt = refl
    short (suc n) lt =
        dashed_closed (take (suc n) u) (dashed_take n u du) ∙ sym (like_ends (take (suc n) s) (take (suc n) u) (like_take (suc n) s u like)) ∙ sym (dashed_closed (take (suc n) s) (dashed_take n s ds)) ∙ h.shortest (suc n) lt

same_like : (ts us : List Token) → token_texts us ≡ token_texts ts → AreLike ts us
same_like [] [] e = tt
same_like [] (u ∷ us) e = absurd cc
same_like (t ∷ ts) [] e = absurd cc
same_like (t ∷ ts) (u ∷ us) e = let here : u.text ≡ t.text = cc in let tail : token_texts us ≡ token_texts ts = cc in (ap (λ (w : List ℕ). bytes_eq w (codes ";")) (sym here), same_like ts us tail)

no_mark : (a b c d : Bool) → not (a || (b || (c || (d || false)))) ≡ true → d ≡ false
no_mark true b c d e = absurd cc
no_mark false true c d e = absurd cc
no_mark false false true d e = absurd cc
no_mark false false false true e = absurd cc
no_mark false false false false e = refl

pub free_name : (w : List ℕ) → is_in (But marks) w ≡ true → bytes_eq w (codes ";") ≡ false
free_name w e = no_mark (bytes_eq w (codes "(")) (bytes_eq w (codes ")")) (bytes_eq w (codes "+")) (bytes_eq w (codes ";")) e

like_word : (a b us : List Token) (v : Token) (w : List ℕ) → is_in (But marks) v.text ≡ true → is_in (But marks) w ≡ true → token_texts us ≡ token_texts a ++ w ∷ token_texts b → AreLike (a ++ v ∷ b) us
like_word [] b [] v w old new e = absurd cc
like_word [] b (u ∷ us) v w old new e =
    let here : u.text ≡ w = cc in
    let tail : token_texts us ≡ token_texts b = cc in
    (free_name v.text old ∙ sym (free_name w new) ∙ ap (λ (x : List ℕ). bytes_eq x (codes ";")) (sym here), same_like b us tail)
like_word (t ∷ a) b [] v w old new e = absurd cc
like_word (t ∷ a) b (u ∷ us) v w old new e =
    let here : u.text ≡ t.text = cc in
    let tail : token_texts us ≡ token_texts a ++ w ∷ token_texts b = cc in
    (ap (λ (x : List ℕ). bytes_eq x (codes ";")) (sym here), like_word a b us v w old new tail)

-- so does a design pin's statement with another word
pub changed_ended : (x : DesignPin) (w : List ℕ) (ts us : List Token) → is_in (But marks) w ≡ true → design_pin.spells x ts → ChangedPin x w ts us → IsEnded ts → IsEnded us
changed_ended x w ts us good h c ended =
    like_ended ts us (pins_dashed.first x ts h) (pins_dashed.first c.value us c.spelled) (subst (λ (l : List Token). AreLike l us) (sym c.stands) (like_word c.front c.behind us c.token w c.good good c.words)) ended

pub free_parts : (ws : List (List ℕ)) → list_all is_part ws ≡ true → are_free ws ≡ true
free_parts [] all = refl
free_parts (w ∷ ws) all =
    let h = and_parts (is_part w) (list_all is_part ws) all in
    rw ((and_parts (is_whole w) (not (bytes_eq w (codes ";"))) h.0).1) (free_parts ws h.1)

-- and a chain's
pub chain_shut : (c : ChainLayout) (s : List Token) → is_written_well c ≡ true → token_texts s ≡ chain_words c → IsShut s
chain_shut c [] well e rest = let f : [] ≡ front_words c ++ codes ";" ∷ [] = e ∙ words_cut c in absurd cc
chain_shut c (t ∷ s) well e rest = statement_front t s rest (codes "-") (drop 1 (front_words c)) (e ∙ words_cut c) (free_parts (front_words c) (words_parts c well)) refl refl refl
