-- The words of design pins' nets that are written anew.
use Rattle.std.proofs.Common.{◌≡◌, ℕ, ◌<◌, true, false, not, eqb, List, [], ◌∷◌, ◌++◌, length, map, drop, codes, Option, Some, None, refl, sym, ap, ◌∙◌, subst, append_assoc, length-append, arith, inr}
use Rattle.std.specs.List.{AllByRecursion as Each}
use Rattle.std.specs.Str.{bytes_eq}
use Rattle.std.proofs.lemmas.Bool.Decides.{nat_tests}
use Rattle.std.proofs.lemmas.List.{map-append}
use Rattle.std.proofs.lemmas.Option.{same_Some}
use Rattle.base_types.specs.declared.span.Span.{Span}
use Rattle.token_forms.specs.Tokens.{Token}
use Rattle.token_forms.specs.Parts.{token_texts}
use Rattle.token_forms.specs.Parsing.{◌>>=◌}
use Rattle.token_forms.specs.Classes.{But, is_in}
use Rattle.token_forms.specs.Forms.{Split, AreMany, IsMaybe, put_all}
use Rattle.splice.specs.declared.Edit.{Edit}
use Rattle.def_syntax.specs.Words.{marks}
use Rattle.def_syntax.specs.Options.{and_last}
use Rattle.def_syntax.specs.Pieces.{once, put_pin, pin_of}
use Rattle.def_syntax.specs.OptionForms.{design_pin_form, pin_option}
use Rattle.def_syntax.proofs.OptionWords.{pin_law}
use Rattle.def_syntax.specs.Grammar.{design_pin}
use Rattle.def_syntax.specs.Designs.{AreLocated}
use Rattle.def_syntax.specs.declared.design.Located.{Located}
use Rattle.def_syntax.specs.declared.pin.DesignPin.{DesignPin}
use Rattle.def_layout.specs.Words.{is_whole}
use Rattle.def_edit.specs.Alike.Changes.{each_words, words_with, pin_statement_words}
use Rattle.def_edit.proofs.alike.Endings.{free_name}
use Rattle.def_edit.proofs.alike.PinOptions.{Opt, State, IsPlain, IsNet, Plain, Net, kind_of}
use Rattle.def_edit.proofs.alike.PinStatements.{Kept}
use Rattle.def_edit.proofs.alike.SamePins.{other_at, strict_alone}
use Rattle.def_edit.proofs.alike.Statements.{Strict}
use Rattle.def_edit.specs.Words.{word_before}
use Rattle.def_edit.specs.MovedText.{each_edit, pin_edit}
use Rattle.def_edit.proofs.EditsRuns.{IsEdited, unedited, edited_both, one_edited, edited_as}
use Rattle.def_edit.proofs.EditsWords.{word_stands, word_begins}
use Rattle.def_edit.proofs.EditsNets.{flat, flat_words, flat_texts}

abbrev option_type : {A X : Type 0} → (A → Option X) → Type 0
option_type {A} {X} f = X

-- the word of a net, and its place
abbrev NetWord : Type 0
NetWord = option_type (λ (s : State). s.net)

abbrev AreOptions : List Opt → Option Opt → List Token → Type 0
AreOptions xs last ts = Split (AreMany (pin_option true).spells xs) (IsMaybe (pin_option false).spells last) ts

abbrev all_put : State → List Opt → Option Opt → Option State
all_put s xs last = put_all put_pin s (and_last xs last)

put_first : (s : State) (x : Opt) (xs : List Opt) (last : Option Opt) → all_put s (x ∷ xs) last ≡ (put_pin s x >>= λ t. all_put t xs last)
unfolding put_all
put_first s x xs None = refl
put_first s x xs (Some o) = refl

step_plain : (s : State) (o : Opt) (rest : State → Option State) (r : State) (p : IsPlain o) → (put_pin s o >>= rest) ≡ Some r → rest (record s { place = p.place s.place }) ≡ Some r
step_plain s o rest r p e = sym (ap (λ (t : Option State). t >>= rest) (p.is s)) ∙ e

step_none : (s : State) (o : Opt) (rest : State → Option State) (r : State) (w : List ℕ) (p : Span) → IsNet o w p → s.net ≡ None → (put_pin s o >>= rest) ≡ Some r → rest (record s { net = Some (record { text = w; span = p }) }) ≡ Some r
step_none s o rest r w p n none e =
    let next : State = record s { net = Some (record { text = w; span = p }) } in
    subst (λ (m : Option NetWord). (once m next >>= rest) ≡ Some r) none (sym (ap (λ (t : Option State). t >>= rest) (n.is s)) ∙ e)

step_again : (s : State) (o : Opt) (rest : State → Option State) (r : State) (w : List ℕ) (p : Span) (k : NetWord) → IsNet o w p → s.net ≡ Some k → (put_pin s o >>= rest) ≡ Some r → ⊥
step_again s o rest r w p k n some e =
    let next : State = record s { net = Some (record { text = w; span = p }) } in
    let f : None ≡ Some r = subst (λ (m : Option NetWord). (once m next >>= rest) ≡ Some r) some (sym (ap (λ (t : Option State). t >>= rest) (n.is s)) ∙ e) in
    absurd cc

-- behind its net a design pin has no other one
net_stays : (xs : List Opt) (last : Option Opt) (ts : List Token) (s r : State) (m : NetWord) → s.net ≡ Some m → AreOptions xs last ts → all_put s xs last ≡ Some r → r.net ≡ s.net
unfolding put_all
net_stays [] None ts s r m some h put = ap (λ (t : State). t.net) (sym (same_Some s r put))
net_stays [] (Some o) ts s r m some h put = elim (kind_of false o h.back h.second) [
  | Plain p again ↦ ap (λ (t : State). t.net) (sym (same_Some (record s { place = p.place s.place }) r (step_plain s o (λ t. Some t) r p put)))
  | Net t u v is law good again ↦ absurd (step_again s o (λ t. Some t) r v.text (record { start = v.start; end = v.end }) m law some put)
]
net_stays (x ∷ xs) last ts s r m some h put =
    let put_rest = λ (t : State). all_put t xs last in
    let step = sym (put_first s x xs last) ∙ put in
    let rest : AreOptions xs last (h.first.back ++ h.back) = record { front = h.first.back; back = h.back; is = refl; first = h.first.second; second = h.second } in
    elim (kind_of true x h.first.front h.first.first) [
      | Plain p again ↦ net_stays xs last (h.first.back ++ h.back) (record s { place = p.place s.place }) r m some rest (step_plain s x put_rest r p step)
      | Net t u v is law good again ↦ absurd (step_again s x put_rest r v.text (record { start = v.start; end = v.end }) m law some step)
    ]

-- the token at a place, which is a name
record TokenAt (place : Span) (ts : List Token) : Type 0 where
  front : List Token
  token : Token
  behind : List Token
  is : ts ≡ front ++ token ∷ behind
  here : place ≡ record { start = token.start; end = token.end }
  good : is_in (But marks) token.text ≡ true

-- that of a net among options
net_token : (xs : List Opt) (last : Option Opt) (ts : List Token) (s r : State) (m : NetWord) → s.net ≡ None → r.net ≡ Some m → AreOptions xs last ts → all_put s xs last ≡ Some r → TokenAt m.span ts
unfolding put_all
net_token [] None ts s r m none some h put = let no : None ≡ Some m = sym none ∙ ap (λ (t : State). t.net) (same_Some s r put) ∙ some in absurd cc
net_token [] (Some o) ts s r m none some h put =
    let here : ts ≡ h.back = h.is ∙ ap (λ (x : List Token). x ++ h.back) h.first in
    elim (kind_of false o h.back h.second) [
      | Plain p again ↦
          let same : record s { place = p.place s.place } ≡ r = same_Some _ r (step_plain s o (λ t. Some t) r p put) in
          let no : None ≡ Some m = sym none ∙ ap (λ (t : State). t.net) same ∙ some in
          absurd cc
      | Net t u v is law good again ↦
          let place : Span = record { start = v.start; end = v.end } in
          let same : record s { net = Some (record { text = v.text; span = place }) } ≡ r = same_Some _ r (step_none s o (λ t. Some t) r v.text place law none put) in
          let word : record { text = v.text; span = place } ≡ m = same_Some _ m (ap (λ (t : State). t.net) same ∙ some) in
          record { front = t ∷ u ∷ []; token = v; behind = []; is = here ∙ is; here = ap (λ (n : NetWord). n.span) (sym word); good = good }
    ]
net_token (x ∷ xs) last ts s r m none some h put =
    let put_rest = λ (t : State). all_put t xs last in
    let step = sym (put_first s x xs last) ∙ put in
    let back = h.first.back ++ h.back in
    let whole : ts ≡ h.first.front ++ back = h.is ∙ ap (λ (y : List Token). y ++ h.back) h.first.is ∙ append_assoc h.first.front h.first.back h.back in
    let rest : AreOptions xs last back = record { front = h.first.back; back = h.back; is = refl; first = h.first.second; second = h.second } in
    elim (kind_of true x h.first.front h.first.first) [
      | Plain p again ↦
          let t = net_token xs last back (record s { place = p.place s.place }) r m none some rest (step_plain s x put_rest r p step) in
          record {
            front = h.first.front ++ t.front;
            token = t.token;
            behind = t.behind;
            is = whole ∙ ap (λ (y : List Token). h.first.front ++ y) t.is ∙ sym (append_assoc h.first.front t.front (t.token ∷ t.behind));
            here = t.here;
            good = t.good;
          }
      | Net t u v is law good again ↦
          let place : Span = record { start = v.start; end = v.end } in
          let n : NetWord = record { text = v.text; span = place } in
          let next : State = record s { net = Some n } in
          let stays = net_stays xs last back next r n refl rest (step_none s x put_rest r v.text place law none step) in
          let word : n ≡ m = same_Some n m (sym stays ∙ some) in
          record { front = t ∷ u ∷ []; token = v; behind = back; is = whole ∙ ap (λ (y : List Token). y ++ back) is; here = ap (λ (k : NetWord). k.span) (sym word); good = good }
    ]

-- what is left of a design pin whose options are read
record NetIs (r : State) (x : DesignPin) : Type 0 where
  word : NetWord
  some : r.net ≡ Some word
  place : word.span ≡ x.net_span

net_is : (r : State) (x : DesignPin) → pin_of r ≡ Some x → NetIs r x
net_is r x e = of r.net refl e
  where
    of : (o : Option NetWord) → r.net ≡ o → (o >>= λ n. Some (record { name = r.name; net = n.text; net_span = n.span; place = r.place })) ≡ Some x → NetIs r x
    of None f e = absurd cc
    of (Some w) f e = record { word = w; some = f; place = ap (λ (y : DesignPin). y.net_span) (same_Some _ x e) }

-- the token of a design pin's net, behind which others stand
record PinToken (x : DesignPin) (ts : List Token) : Type 0 where
  at : TokenAt x.net_span ts
  more : 0 < length at.behind

pin_token_form : (x : DesignPin) (ts : List Token) → design_pin_form.spells x ts → PinToken x ts
unfolding design_pin_form
pin_token_form x ts h =
    let q = h.holds in
    let w = q.holds.first in
    let o = w.holds.second in
    let r : State = h.parts in
    let n = net_is r x h.is in
    let s : State = w.parts.0 in
    let fresh = w.holds.first in
    let none : s.net ≡ None = ap (λ (t : State). t.net) (sym fresh.is) in
    let put : all_put s o.parts.0 o.parts.1 ≡ Some r = ap (λ (os : List Opt). put_all put_pin s os) o.is ∙ w.is ∙ ap (λ (t : State). Some t) q.is in
    let start = w.holds.front in
    let opts = w.holds.back in
    let end = q.holds.second.token in
    let t = net_token o.parts.0 o.parts.1 opts s r n.word none n.some o.holds put in
    let whole : ts ≡ start ++ (opts ++ end ∷ []) = q.holds.is ∙ ap (λ (l : List Token). l ++ q.holds.back) w.holds.is ∙ append_assoc start opts q.holds.back ∙ ap (λ (l : List Token). start ++ (opts ++ l)) q.holds.second.is in
    record {
      at = record {
        front = start ++ t.front;
        token = t.token;
        behind = t.behind ++ end ∷ [];
        is = whole ∙ ap (λ (l : List Token). start ++ (l ++ end ∷ [])) t.is ∙ ap (λ (l : List Token). start ++ l) (append_assoc t.front (t.token ∷ t.behind) (end ∷ [])) ∙ sym (append_assoc start t.front (t.token ∷ (t.behind ++ end ∷ [])));
        here = sym n.place ∙ t.here;
        good = t.good;
      };
      more = some t.behind end;
    }
  where
    some : (a : List Token) (e : Token) → 0 < length (a ++ e ∷ [])
    some a e = omega (arith, length-append a (e ∷ []))

pin_token : (x : DesignPin) (ts : List Token) → design_pin.spells x ts → PinToken x ts
unfolding design_pin
pin_token x ts h = pin_token_form x ts (pin_law.back x ts h)

kept_texts : (f : Token → List ℕ) (ts : List Token) → Kept f ts → map f ts ≡ token_texts ts
kept_texts f [] h = refl
kept_texts f (t ∷ ts) h = rw (h.0, kept_texts f ts h.1) refl

there_other : (at : ℕ) (w : List ℕ) (t : Token) → t.start ≡ at → other_at at w t ≡ w
there_other at w t e = let yes : eqb t.start at ≡ true = grind (arith, nat_tests) in rw yes refl

-- the words of its statement with another net
words_are : (at : ℕ) (w : List ℕ) (ts front behind : List Token) (t : Token) → Strict ts → ts ≡ front ++ t ∷ behind → t.start ≡ at → words_with at w ts ≡ token_texts front ++ w ∷ token_texts behind
words_are at w ts front behind t strict is here =
    let f = other_at at w in
    let kept = strict_alone at w ts strict front behind t is here in
    ap (map f) is ∙ map-append f front (t ∷ behind) ∙ ap (λ (l : List (List ℕ)). l ++ f t ∷ map f behind) (kept_texts f front kept.0)
    ∙ ap (λ (v : List ℕ). token_texts front ++ v ∷ map f behind) (there_other at w t here) ∙ ap (λ (l : List (List ℕ)). token_texts front ++ w ∷ l) (kept_texts f behind kept.1)

name_firm : (t : Token) → is_in (But marks) t.text ≡ true → not (bytes_eq t.text (codes ";")) ≡ true
name_firm t good = rw (free_name t.text good) refl

-- a statement that changes
pin_edited : (text : List ℕ) (s : List Token) (x : Located DesignPin) (w : List ℕ) → Strict s → design_pin.spells x.statement s → is_whole w ≡ true → IsEdited text s (pin_edit text x w) (pin_statement_words s x.statement w)
pin_edited text s x w strict h whole =
    let k = pin_token x.statement s h in
    let t = k.at.token in
    let z = drop x.statement.net_span.end text in
    let edit : Edit = record { span = x.statement.net_span; text = word_before w z } in
    let one = one_edited text k.at.front (t ∷ []) k.at.behind edit (w ∷ []) (name_firm t k.at.good) k.at.here (word_begins w z whole) (word_stands w z whole) (inr k.more) in
    let words = words_are x.statement.net_span.start w s k.at.front k.at.behind t strict k.at.is (ap (λ (p : Span). p.start) (sym k.at.here)) in
    edited_as text (k.at.front ++ t ∷ k.at.behind) s (edit ∷ []) (pin_edit text x w) (token_texts k.at.front ++ w ∷ token_texts k.at.behind) (pin_statement_words s x.statement w) (sym k.at.is) refl (sym words) one

-- words that come are whole
abbrev pub AreWhole : List (Option (List ℕ)) → Type 0
AreWhole [] = Unit {0}
AreWhole (None ∷ cs) = AreWhole cs
AreWhole (Some w ∷ cs) = (is_whole w ≡ true) × AreWhole cs

-- all statements of PINS
pub pins_edited : (text : List ℕ) (ss : List (List Token)) (xs : List (Located DesignPin)) (cs : List (Option (List ℕ))) → AreLocated design_pin text ss xs → Each Strict ss → AreWhole cs
    → IsEdited text (flat ss) (each_edit (pin_edit text) xs cs) (flat_words (each_words pin_statement_words ss xs cs))
pins_edited text [] [] cs h strict whole = unedited text []
pins_edited text [] (x ∷ xs) cs h strict whole = absurd h
pins_edited text (s ∷ ss) [] cs h strict whole = absurd h
pins_edited text (s ∷ ss) (x ∷ xs) [] h strict whole = edited_as text (flat (s ∷ ss)) (flat (s ∷ ss)) [] [] _ _ refl refl (flat_texts (s ∷ ss)) (unedited text (flat (s ∷ ss)))
pins_edited text (s ∷ ss) (x ∷ xs) (None ∷ cs) h strict whole = edited_both text s (flat ss) [] _ _ _ (unedited text s) (pins_edited text ss xs cs h.1 strict.1 whole)
pins_edited text (s ∷ ss) (x ∷ xs) (Some w ∷ cs) h strict whole =
    edited_both text s (flat ss) _ _ _ _ (pin_edited text s x w strict.0 h.0.spelled whole.0) (pins_edited text ss xs cs h.1 strict.1 whole.1)
