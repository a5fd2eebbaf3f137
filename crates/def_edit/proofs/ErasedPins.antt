-- A design pin's statement with another word for its net, once that word is erased.
use Rattle.std.proofs.Common.{◌≡◌, ℕ, eqb, Bool, true, false, if◌then◌else◌, List, [], ◌∷◌, ◌++◌, map, Option, Some, None, refl, sym, ap, ◌∙◌, subst, append_assoc, append-nil, codes, inl, inr}
use Rattle.std.proofs.lemmas.List.{map-append}
use Rattle.std.proofs.lemmas.Option.{same_Some}
use Rattle.base_types.specs.Names.{plain_name}
use Rattle.base_types.specs.declared.span.Span.{Span}
use Rattle.token_forms.specs.Tokens.{Token, place_of}
use Rattle.token_forms.specs.Parts.{token_texts}
use Rattle.token_forms.specs.Parsing.{◌>>=◌}
use Rattle.token_forms.specs.Classes.{Only, But, is_among, is_in}
use Rattle.token_forms.specs.Forms.{Split, AreMany, IsMaybe, IsText, put_all}
use Rattle.token_forms.proofs.ClassLemmas.{apart}
use Rattle.def_syntax.specs.Words.{marks, placings}
use Rattle.def_syntax.specs.Options.{open_behind, open_after, and_last}
use Rattle.def_syntax.specs.Pieces.{once, or_else, put_pin, pin_of}
use Rattle.def_syntax.specs.Placements.{turned, placement}
use Rattle.def_syntax.specs.OptionForms.{design_pin_form, pin_option}
use Rattle.def_syntax.proofs.OptionWords.{pin_law}
use Rattle.def_syntax.specs.Grammar.{design_pin}
use Rattle.def_syntax.specs.declared.placement.Placement.{Placement}
use Rattle.def_syntax.specs.declared.pin.DesignPin.{DesignPin}
use Rattle.def_layout.proofs.NetThere.{texts_both}
use Rattle.def_edit.specs.Alike.Changes.{pin_statement_words}
use Rattle.def_edit.proofs.alike.Statements.{Strict}
use Rattle.def_edit.proofs.alike.PinOptions.{Opt, State, IsPlain, IsNet}
use Rattle.def_edit.proofs.alike.PinStatements.{Kept}
use Rattle.def_edit.proofs.alike.SamePins.{other_at, strict_alone}
use Rattle.def_edit.specs.ErasedDef.{Erasing, Word, Plus, NetWord, Other, behind_word, unless_net, without_net, erased_pin, is_end_of}
use Rattle.def_edit.proofs.ErasedWords.{NoMark, no_mark}

-- how many brackets are open behind words
abbrev depth_after : ℕ → List (List ℕ) → ℕ
depth_after d [] = d
depth_after d (w ∷ ws) = depth_after (open_behind d w) ws

depth_both : (d : ℕ) (a b : List (List ℕ)) → depth_after d (a ++ b) ≡ depth_after (depth_after d a) b
depth_both d [] b = refl
depth_both d (w ∷ a) b = depth_both (open_behind d w) a b

depth_open : (d : ℕ) (ts : List Token) → depth_after d (token_texts ts) ≡ open_after d ts
unfolding open_after
depth_open d [] = refl
depth_open d (t ∷ ts) = depth_open (open_behind d t.text) ts

depth_name : (d : ℕ) (w : List ℕ) (ws : List (List ℕ)) → is_in (But marks) w ≡ true → depth_after d (w ∷ ws) ≡ depth_after d ws
depth_name d w ws e = let h = no_mark w e in rw (h.opens, h.closes) refl

depth_text : (d : ℕ) (test : List ℕ → Bool) (value : List ℕ) (ts : List Token) (rest : List (List ℕ)) → IsText (But marks) test value ts → depth_after d (token_texts ts ++ rest) ≡ depth_after d rest
depth_text d test value ts rest h =
    ap (λ (l : List Token). depth_after d (token_texts l ++ rest)) h.is ∙ ap (λ (w : List ℕ). depth_after d (w ∷ rest)) h.text ∙ depth_name d value rest h.kind_is

placing_name : (w : List ℕ) → is_in (Only placings) w ≡ true → is_in (But marks) w ≡ true
placing_name w e = of (is_among marks w) refl
  where
    of : (b : Bool) → is_among marks w ≡ b → is_in (But marks) w ≡ true
    of true f = absurd (apart (Only placings) (Only marks) w refl e f)
    of false f = rw f refl

placement_depth : (p : Placement) (ts : List Token) → placement.spells p ts → depth_after 0 (token_texts ts) ≡ 0
unfolding placement turned
placement_depth p ts h =
    let a = h.holds in
    let word = a.first in
    let b = a.second in
    let paren = b.first.holds in
    let inner = paren.second.holds in
    let pair = inner.first in
    let last = b.second.holds in
    let words : token_texts ts ≡ token_texts a.front ++ ((token_texts paren.front ++ ((token_texts pair.front ++ token_texts pair.back) ++ token_texts inner.back)) ++ token_texts b.back) =
    ap token_texts a.is ∙ texts_both a.front a.back ∙ ap (λ (l : List (List ℕ)). token_texts a.front ++ l)
    (ap token_texts b.is ∙ texts_both b.front b.back ∙ ap (λ (l : List (List ℕ)). l ++ token_texts b.back)
    (ap token_texts paren.is ∙ texts_both paren.front paren.back ∙ ap (λ (l : List (List ℕ)). token_texts paren.front ++ l)
    (ap token_texts inner.is ∙ texts_both inner.front inner.back ∙ ap (λ (l : List (List ℕ)). l ++ token_texts inner.back) (ap token_texts pair.is ∙ texts_both pair.front pair.back))))
    in
    let first = word.token in
    let good = placing_name h.parts.0 word.kind_is in
    ap (depth_after 0) words
    ∙ ap (λ (l : List Token). depth_after 0 (token_texts l ++ ((token_texts paren.front ++ ((token_texts pair.front ++ token_texts pair.back) ++ token_texts inner.back)) ++ token_texts b.back))) word.is
    ∙ depth_name 0 first.text ((token_texts paren.front ++ ((token_texts pair.front ++ token_texts pair.back) ++ token_texts inner.back)) ++ token_texts b.back) (subst (λ (w : List ℕ). is_in (But marks) w ≡ true) (sym word.text) good)
    ∙ ap (λ (l : List Token). depth_after 0 ((token_texts l ++ ((token_texts pair.front ++ token_texts pair.back) ++ token_texts inner.back)) ++ token_texts b.back)) paren.first.is
    ∙ ap (λ (w : List ℕ). depth_after 0 (w ∷ (((token_texts pair.front ++ token_texts pair.back) ++ token_texts inner.back) ++ token_texts b.back))) paren.first.text
    ∙ ap (depth_after 1) (append_assoc (token_texts pair.front ++ token_texts pair.back) (token_texts inner.back) (token_texts b.back) ∙ append_assoc (token_texts pair.front) (token_texts pair.back) (token_texts inner.back ++ token_texts b.back))
    ∙ depth_text 1 _ _ pair.front (token_texts pair.back ++ (token_texts inner.back ++ token_texts b.back)) pair.first
    ∙ depth_text 1 _ _ pair.back (token_texts inner.back ++ token_texts b.back) pair.second
    ∙ ap (λ (l : List Token). depth_after 1 (token_texts l ++ token_texts b.back)) inner.second.is
    ∙ ap (λ (w : List ℕ). depth_after 1 (w ∷ token_texts b.back)) inner.second.text
    ∙ ap (depth_after 0) (sym (append-nil (token_texts b.back)))
    ∙ depth_text 0 _ _ b.back [] last

-- an option is no net, and closed it leaves no bracket open; or it is + NET and a word
data Piece (closed : Bool) (o : Opt) (ts : List Token) : Type 0 where
  Plain : IsPlain o → (closed ≡ true → depth_after 0 (token_texts ts) ≡ 0) → Piece closed o ts
  Net : (t u v : Token) → ts ≡ t ∷ u ∷ v ∷ [] → t.text ≡ codes "+" → u.text ≡ codes "NET" → is_in (But marks) v.text ≡ true → IsNet o v.text (record { start = v.start; end = v.end }) → Piece closed o ts

piece_of : (closed : Bool) (o : Opt) (ts : List Token) → (pin_option closed).spells o ts → Piece closed o ts
unfolding pin_option
piece_of closed o ts h =
    let a = h.holds in
    let words : token_texts ts ≡ codes "+" ∷ token_texts a.back =
    ap token_texts a.is ∙ texts_both a.front a.back ∙ ap (λ (l : List Token). token_texts l ++ token_texts a.back) a.first.is ∙ ap (λ (w : List ℕ). w ∷ token_texts a.back) a.first.text
    in
    elim a.second [
      | inl k ↦
          Plain (record { place = λ q. Some (or_else q k.parts); is = subst (λ (p : Opt). (s : State) → put_pin s p ≡ Some (record s { place = Some (or_else s.place k.parts) })) (k.is ∙ h.is) (λ s. refl) })
          (λ shut. ap (depth_after 0) words ∙ placement_depth k.parts a.back k.holds)
      | inr r ↦
          elim r [
            | inl n ↦
                let b = n.holds.holds in
                let word = b.second.holds in
                let t = a.first.token in
                let u = b.first.token in
                let v = word.token in
                let here : Span = record { start = v.start; end = v.end } in
                let place : n.holds.parts.1.1 ≡ here = b.second.place ∙ ap place_of word.is in
                let law : (s : State) → put_pin s o ≡ once s.net (record s { net = Some (record { text = n.parts.0; span = n.parts.1 }) }) =
                subst (λ (p : Opt). (s : State) → put_pin s p ≡ once s.net (record s { net = Some (record { text = n.parts.0; span = n.parts.1 }) })) (n.is ∙ h.is) (λ s. refl)
                in
                let first : n.parts.0 ≡ v.text = ap (λ (q : List ℕ × Span). q.0) (sym n.holds.is) ∙ sym word.text in
                let second : n.parts.1 ≡ here = ap (λ (q : List ℕ × Span). q.1) (sym n.holds.is) ∙ place in
                let at_word : IsNet o v.text n.parts.1 = subst (λ (w : List ℕ). IsNet o w n.parts.1) first (record { is = law }) in
                Net t u v (a.is ∙ ap (λ (xs : List Token). xs ++ a.back) a.first.is ∙ ap (λ (xs : List Token). t ∷ xs) (b.is ∙ ap (λ (xs : List Token). xs ++ b.back) b.first.is ∙ ap (λ (xs : List Token). u ∷ xs) word.is))
                a.first.text b.first.text (subst (λ (w : List ℕ). is_in (But marks) w ≡ true) (sym word.text) word.kind_is) (subst (λ (p : Span). IsNet o v.text p) second at_word)
            | inr k ↦
                Plain (record { place = λ q. q; is = subst (λ (p : Opt). (s : State) → put_pin s p ≡ Some s) (k.is ∙ h.is) (λ s. refl) })
                (λ shut. ap (depth_after 0) words ∙ depth_open 0 a.back ∙ k.holds.shut shut)
          ]
    ]

abbrev option_type : {A X : Type 0} → (A → Option X) → Type 0
option_type {A} {X} f = X

-- the word of a net, and its place
abbrev NetAt : Type 0
NetAt = option_type (λ (s : State). s.net)

-- the tokens spell these options, of which the last one may be open
abbrev AreOptions : List Opt → Option Opt → List Token → Type 0
AreOptions xs last ts = Split (AreMany (pin_option true).spells xs) (IsMaybe (pin_option false).spells last) ts

abbrev all_put : State → List Opt → Option Opt → Option State
all_put s xs last = put_all put_pin s (and_last xs last)

put_first : (s : State) (x : Opt) (xs : List Opt) (last : Option Opt) → all_put s (x ∷ xs) last ≡ (put_pin s x >>= λ t. all_put t xs last)
unfolding put_all
put_first s x xs None = refl
put_first s x xs (Some o) = refl

-- a step of an option
step_plain : (s : State) (o : Opt) (rest : State → Option State) (r : State) (p : IsPlain o) → (put_pin s o >>= rest) ≡ Some r → rest (record s { place = p.place s.place }) ≡ Some r
step_plain s o rest r p e = sym (ap (λ (t : Option State). t >>= rest) (p.is s)) ∙ e

step_none : (s : State) (o : Opt) (rest : State → Option State) (r : State) (w : List ℕ) (p : Span) → IsNet o w p → s.net ≡ None → (put_pin s o >>= rest) ≡ Some r → rest (record s { net = Some (record { text = w; span = p }) }) ≡ Some r
step_none s o rest r w p n none e =
    let next : State = record s { net = Some (record { text = w; span = p }) } in
    subst (λ (m : Option NetAt). (once m next >>= rest) ≡ Some r) none (sym (ap (λ (t : Option State). t >>= rest) (n.is s)) ∙ e)

step_again : (s : State) (o : Opt) (rest : State → Option State) (r : State) (w : List ℕ) (p : Span) (k : NetAt) → IsNet o w p → s.net ≡ Some k → (put_pin s o >>= rest) ≡ Some r → ⊥
step_again s o rest r w p k n some e =
    let next : State = record s { net = Some (record { text = w; span = p }) } in
    let f : None ≡ Some r = subst (λ (m : Option NetAt). (once m next >>= rest) ≡ Some r) some (sym (ap (λ (t : Option State). t >>= rest) (n.is s)) ∙ e) in
    absurd cc

step_name : (s : State) (o : Opt) (rest : State → Option State) (r : State) (w : List ℕ) (p : Span) → IsNet o w p → (put_pin s o >>= rest) ≡ Some r → ((t : State) → rest t ≡ Some r → t.name ≡ r.name) → s.name ≡ r.name
step_name s o rest r w p n e more = of s.net refl
  where
    of : (m : Option NetAt) → s.net ≡ m → s.name ≡ r.name
    of None f = more (record s { net = Some (record { text = w; span = p }) }) (step_none s o rest r w p n f e)
    of (Some k) f = absurd (step_again s o rest r w p k n f e)

-- options behind the net leave it
net_stays : (xs : List Opt) (last : Option Opt) (ts : List Token) (s r : State) (m : NetAt) → s.net ≡ Some m → AreOptions xs last ts → all_put s xs last ≡ Some r → r.net ≡ Some m
unfolding put_all
net_stays [] None ts s r m some h put = ap (λ (t : State). t.net) (sym (same_Some s r put)) ∙ some
net_stays [] (Some o) ts s r m some h put =
    elim (piece_of false o h.back h.second) [
      | Plain p level ↦ ap (λ (t : State). t.net) (sym (same_Some _ r (step_plain s o (λ t. Some t) r p put))) ∙ some
      | Net t u v is plus net good law ↦ absurd (step_again s o (λ t. Some t) r v.text (record { start = v.start; end = v.end }) m law some put)
    ]
net_stays (x ∷ xs) last ts s r m some h put =
    let put_rest = λ (t : State). all_put t xs last in
    let step = sym (put_first s x xs last) ∙ put in
    let rest : AreOptions xs last (h.first.back ++ h.back) = record { front = h.first.back; back = h.back; is = refl; first = h.first.second; second = h.second } in
    elim (piece_of true x h.first.front h.first.first) [
      | Plain p level ↦ net_stays xs last (h.first.back ++ h.back) (record s { place = p.place s.place }) r m some rest (step_plain s x put_rest r p step)
      | Net t u v is plus net good law ↦ absurd (step_again s x put_rest r v.text (record { start = v.start; end = v.end }) m law some step)
    ]

-- no option changes the name
name_stays : (xs : List Opt) (last : Option Opt) (ts : List Token) (s r : State) → AreOptions xs last ts → all_put s xs last ≡ Some r → s.name ≡ r.name
unfolding put_all
name_stays [] None ts s r h put = ap (λ (t : State). t.name) (same_Some s r put)
name_stays [] (Some o) ts s r h put =
    elim (piece_of false o h.back h.second) [
      | Plain p level ↦ ap (λ (t : State). t.name) (same_Some _ r (step_plain s o (λ t. Some t) r p put))
      | Net t u v is plus net good law ↦ step_name s o (λ t. Some t) r v.text (record { start = v.start; end = v.end }) law put (λ t f. ap (λ (t : State). t.name) (same_Some t r f))
    ]
name_stays (x ∷ xs) last ts s r h put =
    let put_rest = λ (t : State). all_put t xs last in
    let step = sym (put_first s x xs last) ∙ put in
    let back = h.first.back ++ h.back in
    let rest : AreOptions xs last back = record { front = h.first.back; back = h.back; is = refl; first = h.first.second; second = h.second } in
    elim (piece_of true x h.first.front h.first.first) [
      | Plain p level ↦ name_stays xs last back (record s { place = p.place s.place }) r rest (step_plain s x put_rest r p step)
      | Net t u v is plus net good law ↦ step_name s x put_rest r v.text (record { start = v.start; end = v.end }) law step (λ t f. name_stays xs last back t r rest f)
    ]

-- where the net stands
record Stands (ts : List Token) (m : NetAt) : Type 0 where
  front : List Token
  sign : Token
  key : Token
  token : Token
  behind : List Token
  is : ts ≡ front ++ sign ∷ key ∷ token ∷ behind
  plus : sign.text ≡ codes "+"
  net : key.text ≡ codes "NET"
  good : is_in (But marks) token.text ≡ true
  here : token.start ≡ m.span.start
  level : depth_after 0 (token_texts front) ≡ 0

stands : (xs : List Opt) (last : Option Opt) (ts : List Token) (s r : State) (m : NetAt) → s.net ≡ None → r.net ≡ Some m → AreOptions xs last ts → all_put s xs last ≡ Some r → Stands ts m
unfolding put_all
stands [] None ts s r m none some h put =
    let no : None ≡ Some m = sym none ∙ ap (λ (t : State). t.net) (same_Some s r put) ∙ some in
    absurd cc
stands [] (Some o) ts s r m none some h put =
    let here : ts ≡ h.back = h.is ∙ ap (λ (x : List Token). x ++ h.back) h.first in
    elim (piece_of false o h.back h.second) [
      | Plain p level ↦
          let same : record s { place = p.place s.place } ≡ r = same_Some _ r (step_plain s o (λ t. Some t) r p put) in
          let no : None ≡ Some m = sym none ∙ ap (λ (t : State). t.net) same ∙ some in
          absurd cc
      | Net t u v is plus net good law ↦
          let place : Span = record { start = v.start; end = v.end } in
          let same : record s { net = Some (record { text = v.text; span = place }) } ≡ r = same_Some _ r (step_none s o (λ t. Some t) r v.text place law none put) in
          let word : record { text = v.text; span = place } ≡ m = same_Some _ m (ap (λ (t : State). t.net) same ∙ some) in
          record { front = []; sign = t; key = u; token = v; behind = []; is = here ∙ is; plus = plus; net = net; good = good; here = ap (λ (n : NetAt). n.span.start) word; level = refl }
    ]
stands (x ∷ xs) last ts s r m none some h put =
    let put_rest = λ (t : State). all_put t xs last in
    let step = sym (put_first s x xs last) ∙ put in
    let back = h.first.back ++ h.back in
    let whole : ts ≡ h.first.front ++ back = h.is ∙ ap (λ (y : List Token). y ++ h.back) h.first.is ∙ append_assoc h.first.front h.first.back h.back in
    let rest : AreOptions xs last back = record { front = h.first.back; back = h.back; is = refl; first = h.first.second; second = h.second } in
    elim (piece_of true x h.first.front h.first.first) [
      | Plain p level ↦
          let q = stands xs last back (record s { place = p.place s.place }) r m none some rest (step_plain s x put_rest r p step) in
          record {
            front = h.first.front ++ q.front;
            sign = q.sign;
            key = q.key;
            token = q.token;
            behind = q.behind;
            is = whole ∙ ap (λ (y : List Token). h.first.front ++ y) q.is ∙ sym (append_assoc h.first.front q.front (q.sign ∷ q.key ∷ q.token ∷ q.behind));
            plus = q.plus;
            net = q.net;
            good = q.good;
            here = q.here;
            level = ap (depth_after 0) (texts_both h.first.front q.front) ∙ depth_both 0 (token_texts h.first.front) (token_texts q.front) ∙ ap (λ (d : ℕ). depth_after d (token_texts q.front)) (level refl) ∙ q.level;
          }
      | Net t u v is plus net good law ↦
          let n : NetAt = record { text = v.text; span = record { start = v.start; end = v.end } } in
          let next : State = record s { net = Some n } in
          let quick = net_stays xs last back next r n refl rest (step_none s x put_rest r v.text (record { start = v.start; end = v.end }) law none step) in
          let word : n ≡ m = same_Some n m (sym quick ∙ some) in
          record { front = []; sign = t; key = u; token = v; behind = back; is = whole ∙ ap (λ (y : List Token). y ++ back) is; plus = plus; net = net; good = good; here = ap (λ (k : NetAt). k.span.start) word; level = refl }
    ]

-- the word behind + NET is left blank, whichever it is
blank : (d : ℕ) (b : Word) (front : List (List ℕ)) (v w : List ℕ) (rest : List (List ℕ)) → depth_after d front ≡ 0 → NoMark v → NoMark w
    → without_net d b (front ++ codes "+" ∷ codes "NET" ∷ v ∷ rest) ≡ without_net d b (front ++ codes "+" ∷ codes "NET" ∷ w ∷ rest)
unfolding without_net
blank d Plus [] v w rest level f g = rw (level, f.opens, f.closes, f.plus, g.opens, g.closes, g.plus) refl
blank d NetWord [] v w rest level f g = rw (level, f.opens, f.closes, f.plus, g.opens, g.closes, g.plus) refl
blank d Other [] v w rest level f g = rw (level, f.opens, f.closes, f.plus, g.opens, g.closes, g.plus) refl
blank d b (x ∷ front) v w rest level f g = ap (λ (l : List (List ℕ)). unless_net b x ∷ l) (blank (open_behind d x) (behind_word d b x) front v w rest level f g)

kept_texts : (f : Token → List ℕ) (ts : List Token) → Kept f ts → map f ts ≡ token_texts ts
kept_texts f [] h = refl
kept_texts f (t ∷ ts) h = rw (h.0, kept_texts f ts h.1) refl

other_good : (at : ℕ) (w : List ℕ) (t : Token) → is_in (But marks) w ≡ true → is_in (But marks) t.text ≡ true → is_in (But marks) (other_at at w t) ≡ true
other_good at w t good old = of (eqb t.start at)
  where
    of : (b : Bool) → is_in (But marks) (if b then w else t.text) ≡ true
    of true = good
    of false = old

-- what is left of a design pin whose options are read
record NetIs (r : State) (x : DesignPin) : Type 0 where
  word : NetAt
  some : r.net ≡ Some word
  same : record { name = r.name; net = word.text; net_span = word.span; place = r.place } ≡ x

net_is : (r : State) (x : DesignPin) → pin_of r ≡ Some x → NetIs r x
net_is r x e = of r.net refl e
  where
    of : (o : Option NetAt) → r.net ≡ o → (o >>= λ n. Some (record { name = r.name; net = n.text; net_span = n.span; place = r.place })) ≡ Some x → NetIs r x
    of None f e = absurd cc
    of (Some w) f e = record { word = w; some = f; same = same_Some _ x e }

-- a design pin's statement: its name, and + NET and a word behind options that leave no bracket open
record PinStands (x : DesignPin) (ts : List Token) : Type 0 where
  dash : Token
  name : Token
  named : name.text ≡ x.name
  front : List Token
  sign : Token
  key : Token
  token : Token
  behind : List Token
  is : ts ≡ (dash ∷ name ∷ (front ++ sign ∷ key ∷ [])) ++ token ∷ behind
  plus : sign.text ≡ codes "+"
  net : key.text ≡ codes "NET"
  good : is_in (But marks) token.text ≡ true
  here : token.start ≡ x.net_span.start
  level : depth_after 0 (token_texts front) ≡ 0

pin_stands_form : (x : DesignPin) (ts : List Token) → design_pin_form.spells x ts → PinStands x ts
unfolding design_pin_form
pin_stands_form x ts h =
    let q = h.holds in
    let w = q.holds.first in
    let o = w.holds.second in
    let r : State = h.parts in
    let n = net_is r x h.is in
    let s : State = w.parts.0 in
    let fresh = w.holds.first in
    let none : s.net ≡ None = ap (λ (t : State). t.net) (sym fresh.is) in
    let put : all_put s o.parts.0 o.parts.1 ≡ Some r = ap (λ (os : List Opt). put_all put_pin s os) o.is ∙ w.is ∙ ap (λ (t : State). Some t) q.is in
    let at = stands o.parts.0 o.parts.1 w.holds.back s r n.word none n.some o.holds put in
    let head = fresh.holds.holds in
    let dash = head.first.token in
    let name = head.second.token in
    let end = q.holds.back in
    let start : w.holds.front ≡ dash ∷ name ∷ [] = head.is ∙ ap (λ (l : List Token). l ++ head.back) head.first.is ∙ ap (λ (l : List Token). dash ∷ l) head.second.is in
    let left : ts ≡ dash ∷ name ∷ (at.front ++ at.sign ∷ at.key ∷ at.token ∷ at.behind) ++ end =
    q.holds.is ∙ ap (λ (l : List Token). l ++ end) (w.holds.is ∙ ap (λ (l : List Token). l ++ w.holds.back) start ∙ ap (λ (l : List Token). dash ∷ name ∷ l) at.is)
    in
    let last : (at.front ++ at.sign ∷ at.key ∷ at.token ∷ at.behind) ++ end ≡ (at.front ++ at.sign ∷ at.key ∷ []) ++ at.token ∷ (at.behind ++ end) =
    append_assoc at.front (at.sign ∷ at.key ∷ at.token ∷ at.behind) end ∙ sym (append_assoc at.front (at.sign ∷ at.key ∷ []) (at.token ∷ (at.behind ++ end)))
    in
    let state : s.name ≡ r.name = name_stays o.parts.0 o.parts.1 w.holds.back s r o.holds put in
    record {
      dash = dash;
      name = name;
      named = head.second.text ∙ fresh.holds.is ∙ ap (λ (t : State). t.name) fresh.is ∙ state ∙ ap (λ (y : DesignPin). y.name) n.same;
      front = at.front;
      sign = at.sign;
      key = at.key;
      token = at.token;
      behind = at.behind ++ end;
      is = left ∙ ap (λ (l : List Token). dash ∷ name ∷ l) last;
      plus = at.plus;
      net = at.net;
      good = at.good;
      here = at.here ∙ ap (λ (y : DesignPin). y.net_span.start) n.same;
      level = at.level;
    }

pin_stands : (x : DesignPin) (ts : List Token) → design_pin.spells x ts → PinStands x ts
unfolding design_pin
pin_stands x ts h = pin_stands_form x ts (pin_law.back x ts h)

pub pin_erased : (e : Erasing) (x : DesignPin) (w : List ℕ) (ts : List Token) → Strict ts → is_in (But marks) w ≡ true → design_pin.spells x ts → e.is_free (plain_name x.name) ≡ true
    → erased_pin e (pin_statement_words ts x w) ≡ erased_pin e (token_texts ts)
pin_erased e x w ts strict good h free =
    let p = pin_stands x ts h in
    let at = x.net_span.start in
    let f = other_at at w in
    let front = p.dash ∷ p.name ∷ (p.front ++ p.sign ∷ p.key ∷ []) in
    let kept = strict_alone at w ts strict front p.behind p.token p.is p.here in
    let other = f p.token in
    let words : map f ts ≡ token_texts front ++ other ∷ token_texts p.behind =
    ap (map f) p.is ∙ map-append f front (p.token ∷ p.behind) ∙ ap (λ (l : List (List ℕ)). l ++ other ∷ map f p.behind) (kept_texts f front kept.0)
    ∙ ap (λ (l : List (List ℕ)). token_texts front ++ other ∷ l) (kept_texts f p.behind kept.1)
    in
    let old : token_texts ts ≡ token_texts front ++ p.token.text ∷ token_texts p.behind = ap token_texts p.is ∙ texts_both front (p.token ∷ p.behind) in
    let inner = λ (v : List ℕ). token_texts p.front ++ codes "+" ∷ codes "NET" ∷ v ∷ token_texts p.behind in
    let shown : (v : List ℕ) → token_texts front ++ v ∷ token_texts p.behind ≡ p.dash.text ∷ x.name ∷ inner v =
    λ v.
    ap (λ (l : List (List ℕ)). p.dash.text ∷ p.name.text ∷ (l ++ v ∷ token_texts p.behind)) (texts_both p.front (p.sign ∷ p.key ∷ []))
    ∙ ap (λ (l : List (List ℕ)). p.dash.text ∷ p.name.text ∷ l) (append_assoc (token_texts p.front) (p.sign.text ∷ p.key.text ∷ []) (v ∷ token_texts p.behind))
    ∙ ap (λ (u : List ℕ). p.dash.text ∷ u ∷ (token_texts p.front ++ p.sign.text ∷ p.key.text ∷ v ∷ token_texts p.behind)) p.named
    ∙ ap (λ (u : List ℕ). p.dash.text ∷ x.name ∷ (token_texts p.front ++ u ∷ p.key.text ∷ v ∷ token_texts p.behind)) p.plus
    ∙ ap (λ (u : List ℕ). p.dash.text ∷ x.name ∷ (token_texts p.front ++ codes "+" ∷ u ∷ v ∷ token_texts p.behind)) p.net
    in
    let same = blank 0 Other (token_texts p.front) other p.token.text (token_texts p.behind) p.level (no_mark other (other_good at w p.token good p.good)) (no_mark p.token.text p.good) in
    let gone : (v : List ℕ) → erased_pin e (p.dash.text ∷ x.name ∷ inner v) ≡ p.dash.text ∷ x.name ∷ without_net 0 Other (inner v) = λ v. rw free refl in
    ap (erased_pin e) (words ∙ shown other) ∙ gone other ∙ ap (λ (l : List (List ℕ)). p.dash.text ∷ x.name ∷ l) same ∙ sym (gone p.token.text) ∙ ap (erased_pin e) (sym (old ∙ shown p.token.text))

-- it is no END
pub pin_open : (word : List ℕ) (x : DesignPin) (w : List ℕ) (ts : List Token) → design_pin.spells x ts → is_end_of word (pin_statement_words ts x w) ≡ false
pin_open word x w ts h =
    let p = pin_stands x ts h in
    ap (λ (l : List Token). is_end_of word (map (other_at x.net_span.start w) l)) p.is ∙ of p.front p.dash p.name p.sign p.key p.token p.behind
  where
    of : (front : List Token) (dash name sign key token : Token) (behind : List Token) → is_end_of word (map (other_at x.net_span.start w) ((dash ∷ name ∷ (front ++ sign ∷ key ∷ [])) ++ token ∷ behind)) ≡ false
    of [] dash name sign key token behind = refl
    of (t ∷ front) dash name sign key token behind = refl
