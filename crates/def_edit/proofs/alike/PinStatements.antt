-- A design pin's statement with another word for its net.
use Rattle.std.proofs.Common.{◌≡◌, ℕ, true, false, List, [], ◌∷◌, ◌++◌, Option, Some, None, map, codes, refl, sym, ap, ◌∙◌, subst, append_assoc, append-nil}
use Rattle.std.specs.List.{AllByRecursion as Each}
use Rattle.std.proofs.lemmas.List.{map-append}
use Rattle.std.proofs.lemmas.Option.{same_Some}
use Rattle.base_types.specs.declared.span.Span.{Span}
use Rattle.token_forms.specs.Tokens.{Token}
use Rattle.token_forms.specs.Parts.{token_texts}
use Rattle.token_forms.specs.Parsing.{◌>>=◌}
use Rattle.token_forms.specs.Classes.{But, is_in}
use Rattle.token_forms.specs.Forms.{Split, AreMany, IsMaybe, made, ◌▸◌, put_all}
use Rattle.token_forms.proofs.Joined.{no_texts, cut_texts, word_joined}
use Rattle.token_forms.proofs.Parted.{word_texts}
use Rattle.def_syntax.specs.Words.{marks, name}
use Rattle.def_syntax.specs.Options.{and_last}
use Rattle.def_syntax.specs.Pieces.{once, fresh_pin, put_pin, pin_of}
use Rattle.def_syntax.specs.OptionForms.{design_pin_form, pin_option}
use Rattle.def_syntax.proofs.OptionWords.{pin_law}
use Rattle.def_syntax.specs.Grammar.{design_pin}
use Rattle.def_syntax.specs.declared.pin.DesignPin.{DesignPin}
use Rattle.def_syntax.proofs.FrameLaws.{each_front, each_behind}
use Rattle.def_edit.specs.Alike.ByWords.{IsByWords}
use Rattle.def_edit.proofs.alike.SameForms.{cut_again, text_by, made_by, before_by}
use Rattle.def_edit.proofs.alike.PinOptions.{Opt, State, IsPlain, IsNet, Plain, Net, kind_of}

abbrev option_type : {A X : Type 0} → (A → Option X) → Type 0
option_type {A} {X} f = X

-- the word of a net, and its place
abbrev NetWord : Type 0
NetWord = option_type (λ (s : State). s.net)

-- the tokens spell these options, of which the last one may be open
abbrev AreOptions : List Opt → Option Opt → List Token → Type 0
AreOptions xs last ts = Split (AreMany (pin_option true).spells xs) (IsMaybe (pin_option false).spells last) ts

abbrev all_put : State → List Opt → Option Opt → Option State
all_put s xs last = put_all put_pin s (and_last xs last)

put_first : (s : State) (x : Opt) (xs : List Opt) (last : Option Opt) → all_put s (x ∷ xs) last ≡ (put_pin s x >>= λ t. all_put t xs last)
unfolding put_all
put_first s x xs None = refl
put_first s x xs (Some o) = refl

-- a step of an option
step_plain : (s : State) (o : Opt) (rest : State → Option State) (r : State) (p : IsPlain o) → (put_pin s o >>= rest) ≡ Some r → rest (record s { place = p.place s.place }) ≡ Some r
step_plain s o rest r p e = sym (ap (λ (t : Option State). t >>= rest) (p.is s)) ∙ e

step_none : (s : State) (o : Opt) (rest : State → Option State) (r : State) (w : List ℕ) (p : Span) → IsNet o w p → s.net ≡ None → (put_pin s o >>= rest) ≡ Some r → rest (record s { net = Some (record { text = w; span = p }) }) ≡ Some r
step_none s o rest r w p n none e =
    let next : State = record s { net = Some (record { text = w; span = p }) } in
    subst (λ (m : Option NetWord). (once m next >>= rest) ≡ Some r) none (sym (ap (λ (t : Option State). t >>= rest) (n.is s)) ∙ e)

step_again : (s : State) (o : Opt) (rest : State → Option State) (r : State) (w : List ℕ) (p : Span) (k : NetWord) → IsNet o w p → s.net ≡ Some k → (put_pin s o >>= rest) ≡ Some r → ⊥
step_again s o rest r w p k n some e =
    let next : State = record s { net = Some (record { text = w; span = p }) } in
    let f : None ≡ Some r = subst (λ (m : Option NetWord). (once m next >>= rest) ≡ Some r) some (sym (ap (λ (t : Option State). t >>= rest) (n.is s)) ∙ e) in
    absurd cc

-- options behind the net: they hang on their words alone, and none of them looks at the net
record After (xs : List Opt) (last : Option Opt) (us : List Token) (s r : State) : Type 0 where
  spelled : AreOptions xs last us
  net : r.net ≡ s.net
  other : (k : NetWord) → all_put (record s { net = Some k }) xs last ≡ Some (record r { net = Some k })

after : (xs : List Opt) (last : Option Opt) (ts us : List Token) (s r : State) (m : NetWord) → s.net ≡ Some m → token_texts ts ≡ token_texts us → AreOptions xs last ts → all_put s xs last ≡ Some r → After xs last us s r
unfolding put_all
after [] None ts us s r m some e h put =
    let none : token_texts us ≡ [] = sym e ∙ ap token_texts (h.is ∙ ap (λ (x : List Token). x ++ h.back) h.first ∙ h.second) in
    let same : s ≡ r = same_Some s r put in
    record {
      spelled = record { front = []; back = []; is = no_texts us none; first = refl; second = refl };
      net = ap (λ (t : State). t.net) (sym same);
      other = λ k. ap (λ (t : State). Some (record t { net = Some k })) same;
    }
after [] (Some o) ts us s r m some e h put =
    let here : ts ≡ h.back = h.is ∙ ap (λ (x : List Token). x ++ h.back) h.first in
    elim (kind_of false o h.back h.second) [
      | Plain p again ↦
          let same : record s { place = p.place s.place } ≡ r = same_Some _ r (step_plain s o (λ t. Some t) r p put) in
          record {
            spelled = record { front = []; back = us; is = refl; first = refl; second = again us (ap token_texts (sym here) ∙ e) };
            net = ap (λ (t : State). t.net) (sym same);
            other = λ k. ap (λ (t : Option State). t >>= λ u. Some u) (p.is (record s { net = Some k })) ∙ ap (λ (t : State). Some (record t { net = Some k })) same;
          }
      | Net t u v is law good again ↦ absurd (step_again s o (λ t. Some t) r v.text (record { start = v.start; end = v.end }) m law some put)
    ]
after (x ∷ xs) last ts us s r m some e h put =
    let put_rest = λ (t : State). all_put t xs last in
    let step = sym (put_first s x xs last) ∙ put in
    let whole : ts ≡ h.first.front ++ (h.first.back ++ h.back) = h.is ∙ ap (λ (y : List Token). y ++ h.back) h.first.is ∙ append_assoc h.first.front h.first.back h.back in
    let rest : AreOptions xs last (h.first.back ++ h.back) = record { front = h.first.back; back = h.back; is = refl; first = h.first.second; second = h.second } in
    elim (kind_of true x h.first.front h.first.first) [
      | Plain p again ↦
          let c = cut_again ts us h.first.front (h.first.back ++ h.back) e whole in
          let t : State = record s { place = p.place s.place } in
          let r1 = after xs last (h.first.back ++ h.back) c.behind t r m some (sym c.second) rest (step_plain s x put_rest r p step) in
          record {
            spelled = record {
              front = c.front ++ r1.spelled.front;
              back = r1.spelled.back;
              is = c.is ∙ ap (λ (y : List Token). c.front ++ y) r1.spelled.is ∙ sym (append_assoc c.front r1.spelled.front r1.spelled.back);
              first = record { front = c.front; back = r1.spelled.front; is = refl; first = again c.front (sym c.first); second = r1.spelled.first };
              second = r1.spelled.second;
            };
            net = r1.net;
            other = λ k. put_first (record s { net = Some k }) x xs last ∙ ap (λ (o : Option State). o >>= put_rest) (p.is (record s { net = Some k })) ∙ r1.other k;
          }
      | Net t u v is law good again ↦ absurd (step_again s x put_rest r v.text (record { start = v.start; end = v.end }) m law some step)
    ]

-- tokens whose words a rule leaves
abbrev pub Kept : (Token → List ℕ) → List Token → Type 0
Kept f ts = Each (λ t. f t ≡ t.text) ts

kept_texts : (f : Token → List ℕ) (ts : List Token) → Kept f ts → map f ts ≡ token_texts ts
kept_texts f [] h = refl
kept_texts f (t ∷ ts) h = rw (h.0, kept_texts f ts h.1) refl

-- the token that begins at this place is the only one to which the rule may give another word
abbrev pub Alone : (Token → List ℕ) → ℕ → List Token → Type 0
Alone f at ts = (a b : List Token) (v : Token) → ts ≡ a ++ v ∷ b → v.start ≡ at → Kept f a × Kept f b

alone_in : (f : Token → List ℕ) (at : ℕ) (x y z : List Token) → Alone f at (x ++ (y ++ z)) → Alone f at y
alone_in f at x y z h a b v e here =
    let whole : x ++ (y ++ z) ≡ (x ++ a) ++ v ∷ (b ++ z) = ap (λ (l : List Token). x ++ (l ++ z)) e ∙ ap (λ (l : List Token). x ++ l) (append_assoc a (v ∷ b) z) ∙ sym (append_assoc x a (v ∷ (b ++ z))) in
    let k = h (x ++ a) (b ++ z) v whole here in
    (each_behind (λ t. f t ≡ t.text) x a k.0, each_front (λ t. f t ≡ t.text) b z k.1)

-- a rule by which names stay names
module _ (f : Token → List ℕ) (names : (v : Token) → is_in (But marks) v.text ≡ true → is_in (But marks) (f v) ≡ true) where
  -- options with their net, where the net has another word
  record Before (xs : List Opt) (last : Option Opt) (ts us : List Token) (s r : State) (m : NetWord) : Type 0 where
    more : List Opt
    end : Option Opt
    spelled : AreOptions more end us
    net : NetWord
    put : all_put s more end ≡ Some (record r { net = Some net })
    front : List Token
    token : Token
    behind : List Token
    stands : ts ≡ front ++ token ∷ behind
    here : token.start ≡ m.span.start
    old : token.text ≡ m.text
    good : is_in (But marks) token.text ≡ true
    text : net.text ≡ f token

  before : (xs : List Opt) (last : Option Opt) (ts us : List Token) (s r : State) (m : NetWord) → s.net ≡ None → r.net ≡ Some m → Alone f m.span.start ts → token_texts us ≡ map f ts → AreOptions xs last ts → all_put s xs last ≡ Some r
      → Before xs last ts us s r m
  unfolding put_all
  before [] None ts us s r m none some alone e h put =
      let same : s ≡ r = same_Some s r put in
      let no : None ≡ Some m = sym none ∙ ap (λ (t : State). t.net) same ∙ some in
      absurd cc
  before [] (Some o) ts us s r m none some alone e h put =
      let here : ts ≡ h.back = h.is ∙ ap (λ (x : List Token). x ++ h.back) h.first in
      elim (kind_of false o h.back h.second) [
        | Plain p again ↦
            let same : record s { place = p.place s.place } ≡ r = same_Some _ r (step_plain s o (λ t. Some t) r p put) in
            let no : None ≡ Some m = sym none ∙ ap (λ (t : State). t.net) same ∙ some in
            absurd cc
        | Net t u v is law good again ↦
            let place : Span = record { start = v.start; end = v.end } in
            let same : record s { net = Some (record { text = v.text; span = place }) } ≡ r = same_Some _ r (step_none s o (λ t. Some t) r v.text place law none put) in
            let word : record { text = v.text; span = place } ≡ m = same_Some _ m (ap (λ (t : State). t.net) same ∙ some) in
            let at : v.start ≡ m.span.start = ap (λ (n : NetWord). n.span.start) word in
            let whole : ts ≡ (t ∷ u ∷ []) ++ v ∷ [] = here ∙ is in
            let kept = alone (t ∷ u ∷ []) [] v whole at in
            let words : token_texts us ≡ t.text ∷ u.text ∷ f v ∷ [] = e ∙ ap (map f) whole ∙ ap (λ (l : List (List ℕ)). l ++ f v ∷ []) (kept_texts f (t ∷ u ∷ []) kept.0) in
            let other = again (f v) us (names v good) words in
            let k : NetWord = record { text = f v; span = other.place } in
            record {
              more = [];
              end = Some other.option;
              spelled = record { front = []; back = us; is = refl; first = refl; second = other.spelled };
              net = k;
              put = ap (λ (o : Option State). o >>= λ t. Some t) (other.net.is s ∙ ap (λ (n : Option NetWord). once n (record s { net = Some k })) none) ∙ ap (λ (t : State). Some (record t { net = Some k })) same;
              front = t ∷ u ∷ [];
              token = v;
              behind = [];
              stands = whole;
              here = at;
              old = ap (λ (n : NetWord). n.text) word;
              good = good;
              text = refl;
            }
      ]
  before (x ∷ xs) last ts us s r m none some alone e h put =
      let put_rest = λ (t : State). all_put t xs last in
      let step = sym (put_first s x xs last) ∙ put in
      let back = h.first.back ++ h.back in
      let whole : ts ≡ h.first.front ++ back = h.is ∙ ap (λ (y : List Token). y ++ h.back) h.first.is ∙ append_assoc h.first.front h.first.back h.back in
      let rest : AreOptions xs last back = record { front = h.first.back; back = h.back; is = refl; first = h.first.second; second = h.second } in
      let c = cut_texts (map f h.first.front) (map f back) us (e ∙ ap (map f) whole ∙ map-append f h.first.front back) in
      elim (kind_of true x h.first.front h.first.first) [
        | Plain p again ↦
            let t : State = record s { place = p.place s.place } in
            let both : ts ≡ h.first.front ++ (back ++ []) = whole ∙ ap (λ (y : List Token). h.first.front ++ y) (sym (append-nil back)) in
            let r1 = before xs last back c.behind t r m none some (alone_in f m.span.start h.first.front back [] (subst (Alone f m.span.start) both alone)) c.second rest (step_plain s x put_rest r p step) in
            let stands : ts ≡ (h.first.front ++ r1.front) ++ r1.token ∷ r1.behind = whole ∙ ap (λ (y : List Token). h.first.front ++ y) r1.stands ∙ sym (append_assoc h.first.front r1.front (r1.token ∷ r1.behind)) in
            let kept = each_front (λ t. f t ≡ t.text) h.first.front r1.front (alone (h.first.front ++ r1.front) r1.behind r1.token stands r1.here).0 in
            record {
              more = x ∷ r1.more;
              end = r1.end;
              spelled = record {
                front = c.front ++ r1.spelled.front;
                back = r1.spelled.back;
                is = c.is ∙ ap (λ (y : List Token). c.front ++ y) r1.spelled.is ∙ sym (append_assoc c.front r1.spelled.front r1.spelled.back);
                first = record { front = c.front; back = r1.spelled.front; is = refl; first = again c.front (sym (c.first ∙ kept_texts f h.first.front kept)); second = r1.spelled.first };
                second = r1.spelled.second;
              };
              net = r1.net;
              put = put_first s x r1.more r1.end ∙ ap (λ (o : Option State). o >>= λ t. all_put t r1.more r1.end) (p.is s) ∙ r1.put;
              front = h.first.front ++ r1.front;
              token = r1.token;
              behind = r1.behind;
              stands = stands;
              here = r1.here;
              old = r1.old;
              good = r1.good;
              text = r1.text;
            }
        | Net t u v is law good again ↦
            let place : Span = record { start = v.start; end = v.end } in
            let n : NetWord = record { text = v.text; span = place } in
            let next : State = record s { net = Some n } in
            let rest_put = step_none s x put_rest r v.text place law none step in
            let whole3 : ts ≡ (t ∷ u ∷ []) ++ v ∷ back = whole ∙ ap (λ (y : List Token). y ++ back) is in
            let quick = after xs last back back next r n refl refl rest rest_put in
            let word : n ≡ m = same_Some n m (sym quick.net ∙ some) in
            let at : v.start ≡ m.span.start = ap (λ (k : NetWord). k.span.start) word in
            let kept = alone (t ∷ u ∷ []) back v whole3 at in
            let behind = after xs last back c.behind next r n refl (sym (c.second ∙ kept_texts f back kept.1)) rest rest_put in
            let words : token_texts c.front ≡ t.text ∷ u.text ∷ f v ∷ [] = c.first ∙ ap (map f) is ∙ ap (λ (l : List (List ℕ)). l ++ f v ∷ []) (kept_texts f (t ∷ u ∷ []) kept.0) in
            let other = again (f v) c.front (names v good) words in
            let k : NetWord = record { text = f v; span = other.place } in
            record {
              more = other.option ∷ xs;
              end = last;
              spelled = record {
                front = c.front ++ behind.spelled.front;
                back = behind.spelled.back;
                is = c.is ∙ ap (λ (y : List Token). c.front ++ y) behind.spelled.is ∙ sym (append_assoc c.front behind.spelled.front behind.spelled.back);
                first = record { front = c.front; back = behind.spelled.front; is = refl; first = other.spelled; second = behind.spelled.first };
                second = behind.spelled.second;
              };
              net = k;
              put = put_first s other.option xs last ∙ ap (λ (o : Option State). o >>= put_rest) (other.net.is s ∙ ap (λ (q : Option NetWord). once q (record s { net = Some k })) none) ∙ behind.other k;
              front = t ∷ u ∷ [];
              token = v;
              behind = back;
              stands = whole3;
              here = at;
              old = ap (λ (q : NetWord). q.text) word;
              good = good;
              text = refl;
            }
      ]

-- what is left of a design pin whose options are read
record NetIs (r : State) (x : DesignPin) : Type 0 where
  word : NetWord
  some : r.net ≡ Some word
  same : record { name = r.name; net = word.text; net_span = word.span; place = r.place } ≡ x

net_is : (r : State) (x : DesignPin) → pin_of r ≡ Some x → NetIs r x
net_is r x e = of r.net refl e
  where
    of : (o : Option NetWord) → r.net ≡ o → (o >>= λ n. Some (record { name = r.name; net = n.text; net_span = n.span; place = r.place })) ≡ Some x → NetIs r x
    of None f e = absurd cc
    of (Some w) f e = record { word = w; some = f; same = same_Some _ x e }

start_by : IsByWords (made fresh_pin ("-" ▸ name))
start_by = search (made_by, before_by, text_by) depth 6

-- the same design pin with another word for its net, which is that of a token
pub record OtherPin (f : Token → List ℕ) (x : DesignPin) (ts us : List Token) : Type 0 where
  pub value : DesignPin
  pub spelled : design_pin.spells value us
  pub name : value.name ≡ x.name
  pub place : value.place ≡ x.place
  pub token : Token
  pub net : value.net ≡ f token
  pub old : token.text ≡ x.net
  pub here : token.start ≡ x.net_span.start
  pub good : is_in (But marks) token.text ≡ true
  pub front : List Token
  pub behind : List Token
  pub stands : ts ≡ front ++ token ∷ behind
  pub words : token_texts us ≡ token_texts front ++ f token ∷ token_texts behind

other_form : (f : Token → List ℕ) → ((v : Token) → is_in (But marks) v.text ≡ true → is_in (But marks) (f v) ≡ true) → (x : DesignPin) (ts us : List Token) → Alone f x.net_span.start ts → token_texts us ≡ map f ts → design_pin_form.spells x ts
    → OtherPin f x ts us
unfolding design_pin design_pin_form
other_form f names x ts us alone e h =
    let q = h.holds in
    let w = q.holds.first in
    let o = w.holds.second in
    let r : State = h.parts in
    let n = net_is r x h.is in
    let same_r : q.parts.0 ≡ r = q.is in
    let s : State = w.parts.0 in
    let fresh = w.holds.first in
    let none : s.net ≡ None = ap (λ (t : State). t.net) (sym fresh.is) in
    let put : all_put s o.parts.0 o.parts.1 ≡ Some r = ap (λ (os : List Opt). put_all put_pin s os) o.is ∙ w.is ∙ ap (λ (t : State). Some t) same_r in
    let at : n.word.span.start ≡ x.net_span.start = ap (λ (y : DesignPin). y.net_span.start) n.same in
    let start = w.holds.front in
    let opts = w.holds.back in
    let end = q.holds.back in
    let whole : ts ≡ start ++ (opts ++ end) = q.holds.is ∙ ap (λ (l : List Token). l ++ end) w.holds.is ∙ append_assoc start opts end in
    let alone_whole : Alone f n.word.span.start (start ++ (opts ++ end)) = subst (λ (k : ℕ). Alone f k (start ++ (opts ++ end))) (sym at) (subst (Alone f x.net_span.start) whole alone) in
    let c = cut_texts (map f start) (map f (opts ++ end)) us (e ∙ ap (map f) whole ∙ map-append f start (opts ++ end)) in
    let d = cut_texts (map f opts) (map f end) c.behind (c.second ∙ map-append f opts end) in
    let b = before f names o.parts.0 o.parts.1 opts d.front s r n.word none n.some (alone_in f n.word.span.start start opts end alone_whole) d.first o.holds put in
    let stands : start ++ (opts ++ end) ≡ (start ++ b.front) ++ b.token ∷ (b.behind ++ end) =
    ap (λ (l : List Token). start ++ (l ++ end)) b.stands ∙ ap (λ (l : List Token). start ++ l) (append_assoc b.front (b.token ∷ b.behind) end) ∙ sym (append_assoc start b.front (b.token ∷ (b.behind ++ end)))
    in
    let kept = alone_whole (start ++ b.front) (b.behind ++ end) b.token stands b.here in
    let kept_start = each_front (λ t. f t ≡ t.text) start b.front kept.0 in
    let kept_end = each_behind (λ t. f t ≡ t.text) b.behind end kept.1 in
    let end_text : token_texts d.behind ≡ codes ";" ∷ [] = d.second ∙ kept_texts f end kept_end ∙ word_texts (codes ";") end q.holds.second in
    let start_same : token_texts start ≡ token_texts c.front = sym (c.first ∙ kept_texts f start kept_start) in
    let t : State = record r { net = Some b.net } in
    let value : DesignPin = record { name = r.name; net = b.net.text; net_span = b.net.span; place = r.place } in
    record {
      value = value;
      spelled = pin_law.there value us (record {
        parts = t;
        is = refl;
        holds = record {
          parts = (t, tt);
          is = refl;
          holds = record {
            front = c.front ++ d.front;
            back = d.behind;
            is = c.is ∙ ap (λ (l : List Token). c.front ++ l) d.is ∙ sym (append_assoc c.front d.front d.behind);
            first = record {
              parts = (s, and_last b.more b.end);
              is = b.put;
              holds = record { front = c.front; back = d.front; is = refl; first = start_by.same s start c.front start_same fresh; second = record { parts = (b.more, b.end); is = refl; holds = b.spelled } };
            };
            second = word_joined (codes ";") d.behind end_text;
          };
        };
      });
      name = ap (λ (y : DesignPin). y.name) n.same;
      place = ap (λ (y : DesignPin). y.place) n.same;
      token = b.token;
      net = b.text;
      old = b.old ∙ ap (λ (y : DesignPin). y.net) n.same;
      here = b.here ∙ at;
      good = b.good;
      front = start ++ b.front;
      behind = b.behind ++ end;
      stands = whole ∙ stands;
      words = e ∙ ap (map f) (whole ∙ stands) ∙ map-append f (start ++ b.front) (b.token ∷ (b.behind ++ end)) ∙ ap (λ (l : List (List ℕ)). l ++ f b.token ∷ map f (b.behind ++ end)) (kept_texts f (start ++ b.front) kept.0)
          ∙ ap (λ (l : List (List ℕ)). token_texts (start ++ b.front) ++ f b.token ∷ l) (kept_texts f (b.behind ++ end) kept.1);
    }

pub other_pin : (f : Token → List ℕ) → ((v : Token) → is_in (But marks) v.text ≡ true → is_in (But marks) (f v) ≡ true) → (x : DesignPin) (ts us : List Token) → Alone f x.net_span.start ts → token_texts us ≡ map f ts → design_pin.spells x ts
    → OtherPin f x ts us
unfolding design_pin
other_pin f names x ts us alone e h = other_form f names x ts us alone e (pin_law.back x ts h)
