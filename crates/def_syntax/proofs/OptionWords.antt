-- The forms of options, and of the statements that have them, spell what Statements says of their tokens.
use Rattle.std.proofs.Common.{◌≡◌, ◌≤◌, ℕ, zero, suc, ◌+◌, ◌-◌, ◌==◌, Bool, true, false, ◌&&◌, ◌||◌, not, if◌then◌else◌, List, [], ◌∷◌, ◌++◌, length, Option, Some, None, inl, inr, refl, sym, ap, ◌∙◌, subst, append_assoc, arith, codes, length-append}
use Prim.Native.String.{String}
use Rattle.std.specs.Prelude.{◌⊎◌}
use Rattle.std.specs.List.{list_all}
use Rattle.std.specs.Option.{option_or}
use Rattle.std.specs.Str.{bytes_eq}
use Rattle.std.proofs.lemmas.List.{append-nil}
use Rattle.std.proofs.lemmas.Bool.{eqb-true, and_parts}
use Rattle.std.proofs.lemmas.Option.{same_Some}
use Rattle.base_types.proofs.TruthValues.{bytes_are}
use Rattle.token_forms.specs.Tokens.{Token, place_of}
use Rattle.token_forms.specs.Parsing.{◌>>=◌}
use Rattle.token_forms.specs.Classes.{Class, Only, But, is_in, begins}
use Rattle.token_forms.specs.Forms.{Form, word, key, text, AreMany, IsMaybe, ◌&◌, ◌▸◌, ◌◂◌, ◌or◌, made, made_if, at, put_all}
use Rattle.def_syntax.specs.Words.{marks, placings, any, in_components, in_pins, in_nets, name}
use Rattle.def_syntax.specs.Options.{open_behind, may_stand, all_stand, open_after, first_word, unread, and_last, options, with_options}
use Rattle.def_syntax.specs.Pieces.{or_else, fresh_component, put_component, component_of, fresh_pin, put_pin, pin_of}
use Rattle.def_syntax.specs.Placements.{turned, placement}
use Rattle.def_syntax.specs.OptionForms.{component_form, design_pin_form, component_option, pin_option}
use Rattle.def_syntax.specs.Grammar.{net_option}
use Rattle.def_syntax.specs.OptionLaw.{ComponentLaw, PinLaw, NetOptionsLaw}
use Rattle.def_syntax.specs.Statements.{cut_at, is_within, AreEach, AreOptions, IsComponentOption, IsPinOption, IsNetOption, component_place, pin_place, nets_in, IsComponentText, IsPinText}
use Rattle.def_syntax.specs.declared.placement.Placement.{Placement}
use Rattle.def_syntax.specs.declared.component.ComponentOption.{ComponentOption}
use Rattle.def_syntax.specs.declared.component.ComponentOption.TheVariants as component_options
use Rattle.def_syntax.specs.declared.component.SoFar.{SoFar as ComponentSoFar}
use Rattle.def_syntax.specs.declared.component.Component.{Component}
use Rattle.def_syntax.specs.declared.pin.PinOption.{PinOption}
use Rattle.def_syntax.specs.declared.pin.PinOption.TheVariants as pin_options
use Rattle.def_syntax.specs.declared.pin.SoFar.{SoFar as PinSoFar}
use Rattle.def_syntax.specs.declared.pin.NetWord.{NetWord}
use Rattle.def_syntax.specs.declared.pin.DesignPin.{DesignPin}
use Rattle.def_syntax.specs.declared.net_parts.NetOption.{NetOption}

-- Where options are cut

-- a token that stands in an option begins no other, and is no semicolon
no_cut : (p s z : Bool) → (not s && (not p || not z)) ≡ true → (p && z) ≡ false
no_cut p true z e = absurd cc
no_cut true false true e = absurd cc
no_cut true false false e = refl
no_cut false false z e = refl

no_end : (s r : Bool) → (not s && r) ≡ true → not s ≡ true
no_end true r e = absurd cc
no_end false r e = refl

-- tokens that stand in an option aren't cut
stand_cut : (depth : ℕ) (ts rest : List Token) → all_stand depth ts ≡ true → cut_at depth (ts ++ rest) ≡ (ts ++ (cut_at (open_after depth ts) rest).0, (cut_at (open_after depth ts) rest).1)
unfolding cut_at all_stand open_after
stand_cut depth [] rest e = refl
stand_cut depth (t ∷ ts) rest e =
    let b = and_parts (may_stand depth t.text) (all_stand (open_behind depth t.text) ts) e in
    let none = no_cut (bytes_eq t.text (codes "+")) (bytes_eq t.text (codes ";")) (depth == 0) b.0 in
    let more = stand_cut (open_behind depth t.text) ts rest b.1 in
    rw (none, more) refl

stand_within : (depth : ℕ) (ts : List Token) → all_stand depth ts ≡ true → list_all is_within ts ≡ true
unfolding all_stand
stand_within depth [] e = refl
stand_within depth (t ∷ ts) e =
    let b = and_parts (may_stand depth t.text) (all_stand (open_behind depth t.text) ts) e in
    let one = no_end (bytes_eq t.text (codes ";")) _ b.0 in
    rw (one, stand_within (open_behind depth t.text) ts b.1) refl

within_append : (us ts : List Token) → list_all is_within us ≡ true → list_all is_within ts ≡ true → list_all is_within (us ++ ts) ≡ true
within_append [] ts e f = f
within_append (u ∷ us) ts e f = let b = and_parts (is_within u) (list_all is_within us) e in rw (b.0, within_append us ts b.1 f) refl

-- a `+` outside brackets begins a piece
plus_cut : (t : Token) (ts : List Token) → t.text ≡ codes "+" → cut_at 0 (t ∷ ts) ≡ ([], (t ∷ (cut_at 0 ts).0) ∷ (cut_at 0 ts).1)
unfolding cut_at
plus_cut t ts e = rw e refl

none_cut : cut_at 0 [] ≡ ([], [])
unfolding cut_at
none_cut = refl

-- what stands before the first cut, and what is cut behind it: nothing, or options from a closed place on
record IsFirstPiece (depth : ℕ) (ts : List Token) : Type 0 where
  rest : List Token
  is : ts ≡ (cut_at depth ts).0 ++ rest
  stand : all_stand depth (cut_at depth ts).0 ≡ true
  within : list_all is_within rest ≡ true
  behind : ((rest ≡ []) × ((cut_at depth ts).1 ≡ [])) ⊎ ((open_after depth (cut_at depth ts).0 ≡ 0) × (cut_at 0 rest ≡ ([], (cut_at depth ts).1)))

stands_here : (p s z : Bool) → not s ≡ true → (p && z) ≡ false → (not s && (not p || not z)) ≡ true
stands_here p true z e f = absurd cc
stands_here true false true e f = absurd cc
stands_here true false false e f = refl
stands_here false false z e f = refl

first_piece : (depth : ℕ) (ts : List Token) → list_all is_within ts ≡ true → IsFirstPiece depth ts
unfolding cut_at all_stand open_after
first_piece depth [] e = record { rest = []; is = refl; stand = refl; within = refl; behind = inl (refl, refl) }
first_piece depth (t ∷ ts) e =
    let b = and_parts (is_within t) (list_all is_within ts) e in
    by_cut (bytes_eq t.text (codes "+") && depth == 0) refl b.0 (first_piece (open_behind depth t.text) ts b.1)
  where
    by_cut : (c : Bool) → (bytes_eq t.text (codes "+") && depth == 0) ≡ c → is_within t ≡ true → IsFirstPiece (open_behind depth t.text) ts → IsFirstPiece depth (t ∷ ts)
    by_cut true cut one f =
        let zero_is : depth ≡ 0 = eqb-true depth 0 (and_parts (bytes_eq t.text (codes "+")) (depth == 0) cut).1 in
        let here : cut_at depth (t ∷ ts) ≡ ([], (t ∷ (cut_at (open_behind depth t.text) ts).0) ∷ (cut_at (open_behind depth t.text) ts).1) = rw cut refl in
        record {
          rest = t ∷ ts;
          is = ap (λ (x : List Token × List (List Token)). x.0 ++ (t ∷ ts)) (sym here);
          stand = ap (λ (x : List Token × List (List Token)). all_stand depth x.0) here;
          within = e;
          behind = inr (
            ap (λ (x : List Token × List (List Token)). open_after depth x.0) here ∙ zero_is,
            ap (λ (d : ℕ). cut_at d (t ∷ ts)) (sym zero_is) ∙ here ∙ ap (λ (l : List (List Token)). ([], l)) (sym (ap (λ (x : List Token × List (List Token)). x.1) here)),
          );
        }
    by_cut false cut one f =
        let here : cut_at depth (t ∷ ts) ≡ (t ∷ (cut_at (open_behind depth t.text) ts).0, (cut_at (open_behind depth t.text) ts).1) = rw cut refl in
        let stands : may_stand depth t.text ≡ true = stands_here (bytes_eq t.text (codes "+")) (bytes_eq t.text (codes ";")) (depth == 0) one cut in
        let all : all_stand depth (t ∷ (cut_at (open_behind depth t.text) ts).0) ≡ true = rw (stands, f.stand) refl in
        record {
          rest = f.rest;
          is = ap (λ (l : List Token). t ∷ l) f.is ∙ ap (λ (x : List Token × List (List Token)). x.0 ++ f.rest) (sym here);
          stand = ap (λ (x : List Token × List (List Token)). all_stand depth x.0) here ∙ all;
          within = f.within;
          behind = elim f.behind [
            | inl none ↦ inl (none.0, ap (λ (x : List Token × List (List Token)). x.1) here ∙ none.1)
            | inr more ↦ inr (ap (λ (x : List Token × List (List Token)). open_after depth x.0) here ∙ more.0, more.1 ∙ ap (λ (l : List (List Token)). ([], l)) (sym (ap (λ (x : List Token × List (List Token)). x.1) here)))
          ];
        }

-- The options of a statement

-- a `+`, and tokens that stand in the option behind it, whose brackets are shut where it is closed; they are the option of the value
record Told {X : Type 0} (IsOption : X → List Token → Type 0) (closed : Bool) (x : X) (s : List Token) : Type 0 where
  plus : Token
  behind : List Token
  is : s ≡ plus ∷ behind
  begins_so : plus.text ≡ codes "+"
  stand : all_stand 0 behind ≡ true
  shut : closed ≡ true → open_after 0 behind ≡ 0
  option : IsOption x (plus ∷ behind)

-- a form of options, closed or not, spells these tokens alone
record IsFlavour {X : Type 0} (IsOption : X → List Token → Type 0) (closed : Bool) (form : Form X) : Type 0 where
  told : (x : X) (s : List Token) → form.spells x s → Told IsOption closed x s
  spelled : (x : X) (s : List Token) → Told IsOption closed x s → form.spells x s

module _ {X : Type 0} (IsOption : X → List Token → Type 0) (closed any_form : Form X) (c : IsFlavour IsOption true closed) (a : IsFlavour IsOption false any_form) where
  no_options : AreOptions IsOption [] []
  unfolding cut_at
  no_options = record { front = refl; within = refl; each = tt }

  within_piece : (x : X) (b : Bool) (s : List Token) → Told IsOption b x s → list_all is_within s ≡ true
  within_piece x b s o =
      let plus_within : is_within o.plus ≡ true = rw (o.begins_so) refl in
      let all : list_all is_within (o.plus ∷ o.behind) ≡ true = rw (plus_within, stand_within 0 o.behind o.stand) refl in
      ap (list_all is_within) o.is ∙ all

  closed_cut : (plus : Token) (behind rest : List Token) → plus.text ≡ codes "+" → all_stand 0 behind ≡ true → open_after 0 behind ≡ 0 → (cut_at 0 rest).0 ≡ []
      → cut_at 0 (plus ∷ (behind ++ rest)) ≡ ([], (plus ∷ behind) ∷ (cut_at 0 rest).1)
  closed_cut plus behind rest begins_so stand shut front =
      let more = stand_cut 0 behind rest stand in
      let first : (cut_at 0 (behind ++ rest)).0 ≡ behind =
      ap (λ (x : List Token × List (List Token)). x.0) more ∙ ap (λ (d : ℕ). behind ++ (cut_at d rest).0) shut ∙ ap (λ (l : List Token). behind ++ l) front ∙ append-nil behind in
      let others : (cut_at 0 (behind ++ rest)).1 ≡ (cut_at 0 rest).1 = ap (λ (x : List Token × List (List Token)). x.1) more ∙ ap (λ (d : ℕ). (cut_at d rest).1) shut in
      plus_cut plus (behind ++ rest) begins_so ∙ (λ k. ([], (plus ∷ first k) ∷ others k))

  last_cut : (plus : Token) (behind : List Token) → plus.text ≡ codes "+" → all_stand 0 behind ≡ true → cut_at 0 (plus ∷ behind) ≡ ([], (plus ∷ behind) ∷ [])
  unfolding cut_at
  last_cut plus behind begins_so stand =
      let more = ap (cut_at 0) (sym (append-nil behind)) ∙ stand_cut 0 behind [] stand in
      let first : (cut_at 0 behind).0 ≡ behind = ap (λ (x : List Token × List (List Token)). x.0) more ∙ append-nil behind in
      let others : (cut_at 0 behind).1 ≡ [] = ap (λ (x : List Token × List (List Token)). x.1) more in
      plus_cut plus behind begins_so ∙ (λ k. ([], (plus ∷ first k) ∷ others k))

  one_more : (x : X) (xs : List X) (u v : List Token) → Told IsOption true x u → AreOptions IsOption xs v → AreOptions IsOption (x ∷ xs) (u ++ v)
  one_more x xs u v o os =
      let cut : cut_at 0 (u ++ v) ≡ ([], (o.plus ∷ o.behind) ∷ (cut_at 0 v).1) =
      ap (λ (l : List Token). cut_at 0 (l ++ v)) o.is ∙ closed_cut o.plus o.behind v o.begins_so o.stand (o.shut refl) os.front in
      record {
        front = ap (λ (y : List Token × List (List Token)). y.0) cut;
        within = within_append u v (within_piece x true u o) os.within;
        each = subst (λ (y : List Token × List (List Token)). AreEach IsOption (x ∷ xs) y.1) (sym cut) (o.option, os.each);
      }

  last_one : (x : X) (u : List Token) → Told IsOption false x u → AreOptions IsOption (x ∷ []) u
  last_one x u o =
      let cut : cut_at 0 u ≡ ([], (o.plus ∷ o.behind) ∷ []) = ap (cut_at 0) o.is ∙ last_cut o.plus o.behind o.begins_so o.stand in
      record {
        front = ap (λ (y : List Token × List (List Token)). y.0) cut;
        within = within_piece x false u o;
        each = subst (λ (y : List Token × List (List Token)). AreEach IsOption (x ∷ []) y.1) (sym cut) (o.option, tt);
      }

  last_told : (last : Option X) (v : List Token) → IsMaybe any_form.spells last v → AreOptions IsOption (and_last [] last) v
  last_told None v h = subst (AreOptions IsOption []) (sym h) no_options
  last_told (Some x) v h = last_one x v (a.told x v h)

  longer : (x : X) (ys : List X) (last : Option X) → and_last (x ∷ ys) last ≡ x ∷ and_last ys last
  longer x ys None = refl
  longer x ys (Some y) = refl

  many_told : (xs : List X) (last : Option X) (u v : List Token) → AreMany closed.spells xs u → IsMaybe any_form.spells last v → AreOptions IsOption (and_last xs last) (u ++ v)
  many_told [] last u v h k = subst (λ (l : List Token). AreOptions IsOption (and_last [] last) (l ++ v)) (sym h) (last_told last v k)
  many_told (x ∷ xs) last u v h k =
      let more = one_more x (and_last xs last) h.front (h.back ++ v) (c.told x h.front h.first) (many_told xs last h.back v h.second k) in
      subst (λ (l : List X). AreOptions IsOption l (u ++ v)) (sym (longer x xs last))
      (subst (AreOptions IsOption (x ∷ and_last xs last)) (sym (ap (λ (l : List Token). l ++ v) h.is ∙ append_assoc h.front h.back v)) more)

  options_told : (xs : List X) (ts : List Token) → (options closed any_form).spells xs ts → AreOptions IsOption xs ts
  options_told xs ts h =
      let s = h.holds in
      subst (λ (l : List X). AreOptions IsOption l ts) h.is (subst (AreOptions IsOption (and_last h.parts.0 h.parts.1)) (sym s.is) (many_told h.parts.0 h.parts.1 s.front s.back s.first s.second))

  -- and back
  list_is : List X → List Token → Type 0
  list_is = (options closed any_form).spells

  in_front : (x : X) (xs : List X) (u v ts : List Token) → closed.spells x u → list_is xs v → ts ≡ u ++ v → list_is (x ∷ xs) ts
  unfolding list_is
  in_front x xs u v ts f s is = record {
    parts = (x ∷ s.parts.0, s.parts.1);
    is = longer x s.parts.0 s.parts.1 ∙ ap (λ (l : List X). x ∷ l) s.is;
    holds = record {
      front = u ++ s.holds.front;
      back = s.holds.back;
      is = is ∙ ap (λ (l : List Token). u ++ l) s.holds.is ∙ sym (append_assoc u s.holds.front s.holds.back);
      first = record { front = u; back = s.holds.front; is = refl; first = f; second = s.holds.first };
      second = s.holds.second;
    };
  }

  alone : (x : X) (ts : List Token) → any_form.spells x ts → list_is (x ∷ []) ts
  unfolding list_is
  alone x ts f = record { parts = ([], Some x); is = refl; holds = record { front = []; back = ts; is = refl; first = refl; second = f } }

  nothing : list_is [] []
  unfolding list_is
  nothing = record { parts = ([], None); is = refl; holds = record { front = []; back = []; is = refl; first = refl; second = refl } }

  -- the first token is a `+`
  begins_option : (t : Token) (ts : List Token) → (cut_at 0 (t ∷ ts)).0 ≡ [] → t.text ≡ codes "+"
  unfolding cut_at
  begins_option t ts e = by_plus (bytes_eq t.text (codes "+")) refl e
    where
      cut_by : Bool → List Token × List (List Token)
      cut_by b = if b && true then ([], (t ∷ (cut_at (open_behind 0 t.text) ts).0) ∷ (cut_at (open_behind 0 t.text) ts).1) else (t ∷ (cut_at (open_behind 0 t.text) ts).0, (cut_at (open_behind 0 t.text) ts).1)

      by_plus : (b : Bool) → bytes_eq t.text (codes "+") ≡ b → (cut_by b).0 ≡ [] → t.text ≡ codes "+"
      by_plus true is e = bytes_are t.text (codes "+") is
      by_plus false is e = absurd cc

  none_each : (xs : List X) → AreEach IsOption xs [] → xs ≡ []
  none_each [] h = refl
  none_each (x ∷ xs) h = absurd h

  first_spelled : (n : ℕ) (xs : List X) (t : Token) (us : List Token) → t.text ≡ codes "+" → list_all is_within us ≡ true → AreEach IsOption xs ((t ∷ (cut_at 0 us).0) ∷ (cut_at 0 us).1)
      → ((ys : List X) (rest : List Token) → length rest ≤ length us → AreOptions IsOption ys rest → list_is ys rest) → list_is xs (t ∷ us)
  first_spelled n [] t us plus within each more = absurd each
  first_spelled n (x ∷ xs) t us plus within each more =
      let f = first_piece 0 us within in
      let first = (cut_at 0 us).0 in
      elim f.behind [
        | inl none ↦
            let all : us ≡ first = f.is ∙ ap (λ (l : List Token). first ++ l) none.0 ∙ append-nil first in
            let last : xs ≡ [] = none_each xs (subst (AreEach IsOption xs) none.1 each.1) in
            subst (λ (l : List X). list_is (x ∷ l) (t ∷ us)) (sym last)
            (alone x (t ∷ us) (a.spelled x (t ∷ us) (record { plus = t; behind = first; is = ap (λ (l : List Token). t ∷ l) all; begins_so = plus; stand = f.stand; shut = λ e. absurd cc; option = each.0 })))
        | inr go ↦
            let len = ap (length {A = Token}) f.is in
            let two = length-append first f.rest in
            in_front x xs (t ∷ first) f.rest (t ∷ us) (c.spelled x (t ∷ first) (record { plus = t; behind = first; is = refl; begins_so = plus; stand = f.stand; shut = λ e. go.0; option = each.0 }))
            (more xs f.rest (omega arith)
            (record {
              front = ap (λ (y : List Token × List (List Token)). y.0) go.1;
              within = f.within;
              each = subst (λ (y : List Token × List (List Token)). AreEach IsOption xs y.1) (sym go.1) each.1;
            }))
            (ap (λ (l : List Token). t ∷ l) f.is)
      ]

  within_n : (n : ℕ) (xs : List X) (ts : List Token) → length ts ≤ n → AreOptions IsOption xs ts → list_is xs ts
  within_n n xs [] short h = subst (λ (l : List X). list_is l []) (sym (none_each xs (subst (λ (y : List Token × List (List Token)). AreEach IsOption xs y.1) none_cut h.each))) nothing
  within_n zero xs (t ∷ us) short h = absurd (omega arith)
  within_n (suc n) xs (t ∷ us) short h =
      let plus = begins_option t us h.front in
      first_spelled n xs t us plus (and_parts (is_within t) (list_all is_within us) h.within).1 (subst (λ (y : List Token × List (List Token)). AreEach IsOption xs y.1) (plus_cut t us plus) h.each)
      (λ ys rest le is. within_n n ys rest (omega arith) is)

  options_spelled : (xs : List X) (ts : List Token) → AreOptions IsOption xs ts → (options closed any_form).spells xs ts
  unfolding list_is
  options_spelled xs ts h = within_n (length ts) xs ts (omega arith) h

-- Forms that stand in an option

stand_append : (depth : ℕ) (us ts : List Token) → all_stand depth us ≡ true → all_stand (open_after depth us) ts ≡ true → all_stand depth (us ++ ts) ≡ true
unfolding all_stand open_after
stand_append depth [] ts e f = f
stand_append depth (u ∷ us) ts e f =
    let b = and_parts (may_stand depth u.text) (all_stand (open_behind depth u.text) us) e in
    rw (b.0, stand_append (open_behind depth u.text) us ts b.1 f) refl

depth_append : (depth : ℕ) (us ts : List Token) → open_after depth (us ++ ts) ≡ open_after (open_after depth us) ts
unfolding open_after
depth_append depth [] ts = refl
depth_append depth (u ∷ us) ts = depth_append (open_behind depth u.text) us ts

-- tokens of the form stand where so many brackets are open, and leave so many open
record Keeps {X : Type 0} (from to : ℕ) (form : Form X) : Type 0 where
  stand : (x : X) (ts : List Token) → form.spells x ts → all_stand from ts ≡ true
  left : (x : X) (ts : List Token) → form.spells x ts → open_after from ts ≡ to

seq_keeps : {A B : Type 0} (d e f : ℕ) (a : Form A) (b : Form B) → Keeps d e a → Keeps e f b → Keeps d f (a & b)
seq_keeps d e f a b ka kb = record {
  stand = λ x ts h.
      let left = ka.left x.0 h.front h.first in
      ap (all_stand d) h.is ∙ stand_append d h.front h.back (ka.stand x.0 h.front h.first) (ap (λ (n : ℕ). all_stand n h.back) left ∙ kb.stand x.1 h.back h.second);
  left = λ x ts h. ap (open_after d) h.is ∙ depth_append d h.front h.back ∙ ap (λ (n : ℕ). open_after n h.back) (ka.left x.0 h.front h.first) ∙ kb.left x.1 h.back h.second;
}

made_keeps : {A X : Type 0} (d e : ℕ) (f : A → X) (a : Form A) → Keeps d e a → Keeps d e (made f a)
made_keeps d e f a k = record { stand = λ x ts h. k.stand h.parts ts h.holds; left = λ x ts h. k.left h.parts ts h.holds }

made_if_keeps : {A X : Type 0} (d e : ℕ) (f : A → Option X) (a : Form A) → Keeps d e a → Keeps d e (made_if f a)
made_if_keeps d e f a k = record { stand = λ x ts h. k.stand h.parts ts h.holds; left = λ x ts h. k.left h.parts ts h.holds }

at_keeps : {A : Type 0} (d e : ℕ) (a : Form A) → Keeps d e a → Keeps d e (at a)
at_keeps d e a k = record { stand = λ x ts h. k.stand x.0 ts h.holds; left = λ x ts h. k.left x.0 ts h.holds }

one_stands : (d : ℕ) (t : Token) (ts : List Token) → ts ≡ t ∷ [] → may_stand d t.text ≡ true → all_stand d ts ≡ true
unfolding all_stand
one_stands d t ts is e = rw (is, e) refl

one_leaves : (d : ℕ) (t : Token) (ts : List Token) → ts ≡ t ∷ [] → open_after d ts ≡ open_behind d t.text
unfolding open_after
one_leaves d t ts is = rw is refl

word_keeps : (d e : ℕ) (w : List ℕ) → may_stand d w ≡ true → open_behind d w ≡ e → Keeps d e (word w)
word_keeps d e w m o = record {
  stand = λ x ts h. one_stands d h.token ts h.is (ap (may_stand d) h.text ∙ m);
  left = λ x ts h. one_leaves d h.token ts h.is ∙ ap (open_behind d) h.text ∙ o;
}

text_keeps : (d : ℕ) (kind : Class) (test : List ℕ → Bool) → ((w : List ℕ) → is_in kind w ≡ true → (may_stand d w ≡ true) × (open_behind d w ≡ d)) → Keeps d d (text kind test)
text_keeps d kind test k = record {
  stand = λ x ts h. one_stands d h.token ts h.is (ap (may_stand d) h.text ∙ (k x h.kind_is).0);
  left = λ x ts h. one_leaves d h.token ts h.is ∙ ap (open_behind d) h.text ∙ (k x h.kind_is).1;
}

before_keeps : {A : Type 0} (d e f : ℕ) (w : String) (a : Form A) → Keeps d e (key w) → Keeps e f a → Keeps d f (w ▸ a)
before_keeps d e f w a k ka = made_keeps d f (λ x. x.1) (key w & a) (seq_keeps d e f (key w) a k ka)

behind_keeps : {A : Type 0} (d e f : ℕ) (w : String) (a : Form A) → Keeps d e a → Keeps e f (key w) → Keeps d f (a ◂ w)
behind_keeps d e f w a ka k = made_keeps d f (λ x. x.0) (a & key w) (seq_keeps d e f a (key w) ka k)

unmarked : (o c p s z : Bool) (d : ℕ) → not (o || (c || (p || (s || false)))) ≡ true → ((not s && (not p || z)) ≡ true) × ((if o then d + 1 else (if c then d - 1 else d)) ≡ d)
unmarked true c p s z d e = absurd cc
unmarked false true p s z d e = absurd cc
unmarked false false true s z d e = absurd cc
unmarked false false false true z d e = absurd cc
unmarked false false false false z d e = (refl, refl)

name_stays : (d : ℕ) (w : List ℕ) → is_in (But marks) w ≡ true → (may_stand d w ≡ true) × (open_behind d w ≡ d)
name_stays d w e = unmarked (bytes_eq w (codes "(")) (bytes_eq w (codes ")")) (bytes_eq w (codes "+")) (bytes_eq w (codes ";")) (not (d == 0)) d e

abbrev Stays : List ℕ → Type 0
Stays v = (may_stand 0 v ≡ true) × (open_behind 0 v ≡ 0)

placing_stays : (w : List ℕ) → is_in (Only placings) w ≡ true → (may_stand 0 w ≡ true) × (open_behind 0 w ≡ 0)
placing_stays w e = by_word (bytes_eq w (codes "PLACED")) (bytes_eq w (codes "FIXED")) (bytes_eq w (codes "COVER")) refl refl refl e
  where
    by_word : (a b c : Bool) → bytes_eq w (codes "PLACED") ≡ a → bytes_eq w (codes "FIXED") ≡ b → bytes_eq w (codes "COVER") ≡ c → (a || (b || (c || false))) ≡ true → Stays w
    by_word true b c i j k e = subst Stays (sym (bytes_are w (codes "PLACED") i)) (refl, refl)
    by_word false true c i j k e = subst Stays (sym (bytes_are w (codes "FIXED") j)) (refl, refl)
    by_word false false true i j k e = subst Stays (sym (bytes_are w (codes "COVER") k)) (refl, refl)
    by_word false false false i j k e = absurd cc

name_keeps : (d : ℕ) (test : List ℕ → Bool) → Keeps d d (text (But marks) test)
name_keeps d test = text_keeps d (But marks) test (name_stays d)

placement_keeps : Keeps 0 0 placement
unfolding placement turned
placement_keeps =
    made_keeps 0 0 _ _ (seq_keeps 0 0 0 _ _ (text_keeps 0 (Only placings) any placing_stays)
    (seq_keeps 0 0 0 _ _ (before_keeps 0 1 0 "(" _ (word_keeps 0 1 (codes "(") refl refl) (behind_keeps 1 1 0 ")" _ (seq_keeps 1 1 1 _ _ (name_keeps 1 _) (name_keeps 1 _)) (word_keeps 1 0 (codes ")") refl refl)))
    (made_if_keeps 0 0 _ _ (name_keeps 0 _))))

net_keeps : Keeps 0 0 ("NET" ▸ at name)
net_keeps = before_keeps 0 0 0 "NET" (at name) (word_keeps 0 0 (codes "NET") refl refl) (at_keeps 0 0 name (name_keeps 0 _))

unplaced_keeps : Keeps 0 0 (key "UNPLACED")
unplaced_keeps = word_keeps 0 0 (codes "UNPLACED") refl refl

-- The options of each kind

-- a word, and what stands behind it
record IsBefore {A : Type 0} (w : List ℕ) (a : Form A) (x : A) (s : List Token) : Type 0 where
  token : Token
  behind : List Token
  is : s ≡ token ∷ behind
  text : token.text ≡ w
  holds : a.spells x behind

before_told : {A : Type 0} (w : String) (a : Form A) (x : A) (s : List Token) → (w ▸ a).spells x s → IsBefore (codes w) a x s
before_told w a x s h =
    let p = h.holds in
    record {
      token = p.first.token;
      behind = p.back;
      is = p.is ∙ ap (λ (l : List Token). l ++ p.back) p.first.is;
      text = p.first.text;
      holds = subst (λ (y : _). a.spells y p.back) h.is p.second;
    }

before_spelled : {A : Type 0} (w : String) (a : Form A) (x : A) (t : Token) (ts : List Token) → t.text ≡ codes w → a.spells x ts → (w ▸ a).spells x (t ∷ ts)
before_spelled w a x t ts e h = record { parts = (tt, x); is = refl; holds = record { front = t ∷ []; back = ts; is = refl; first = record { token = t; is = refl; text = e }; second = h } }

-- an option that stands by its form
kept : {X A : Type 0} (IsOption : X → List Token → Type 0) (closed : Bool) (a : Form A) → Keeps 0 0 a → (x : X) (y : A) (t : Token) (ts s : List Token) → s ≡ t ∷ ts → t.text ≡ codes "+" → a.spells y ts
    → IsOption x (t ∷ ts) → Told IsOption closed x s
kept IsOption closed a k x y t ts s is e h o = record { plus = t; behind = ts; is = is; begins_so = e; stand = k.stand y ts h; shut = λ c. k.left y ts h; option = o }

abbrev component_behind : Bool → Form ComponentOption
component_behind closed =
    made component_options.Placed placement
    or made (λ nothing. component_options.Unplaced) (key "UNPLACED")
    or made (λ word. component_options.Other) (unread closed in_components)

abbrev pin_behind : Bool → Form PinOption
pin_behind closed =
    made pin_options.Placed placement
    or made (λ p. pin_options.Net (record { text = p.0; span = p.1 })) ("NET" ▸ at name)
    or made (λ word. pin_options.Other) (unread closed in_pins)

component_flavour : (closed : Bool) → IsFlavour IsComponentOption closed (component_option closed)
unfolding component_option
component_flavour closed = record { told = told; spelled = spelled }
  where
    told : (x : ComponentOption) (s : List Token) → (component_option closed).spells x s → Told IsComponentOption closed x s
    told x s h =
        let b = before_told "+" (component_behind closed) x s h in
        elim b.holds [
          | inl p ↦ subst (λ (y : ComponentOption). Told IsComponentOption closed y s) p.is
              (kept IsComponentOption closed placement placement_keeps (component_options.Placed p.parts) p.parts b.token b.behind s b.is b.text p.holds p.holds)
          | inr other ↦ elim other [
            | inl u ↦ subst (λ (y : ComponentOption). Told IsComponentOption closed y s) u.is
                (kept IsComponentOption closed (key "UNPLACED") unplaced_keeps component_options.Unplaced tt b.token b.behind s b.is b.text u.holds u.holds)
            | inr o ↦ subst (λ (y : ComponentOption). Told IsComponentOption closed y s) o.is
                (record { plus = b.token; behind = b.behind; is = b.is; begins_so = b.text; stand = o.holds.stand; shut = o.holds.shut; option = o.holds.free })
          ]
        ]

    at_plus : (x : ComponentOption) (t : Token) (ts : List Token) → t.text ≡ codes "+" → all_stand 0 ts ≡ true → (closed ≡ true → open_after 0 ts ≡ 0) → IsComponentOption x (t ∷ ts) → (component_option closed).spells x (t ∷ ts)
    at_plus (component_options.Placed p) t ts e stand shut o = before_spelled "+" (component_behind closed) (component_options.Placed p) t ts e (inl (record { parts = p; is = refl; holds = o }))
    at_plus component_options.Unplaced t ts e stand shut o = before_spelled "+" (component_behind closed) component_options.Unplaced t ts e (inr (inl (record { parts = tt; is = refl; holds = o })))
    at_plus component_options.Other t ts e stand shut o =
        before_spelled "+" (component_behind closed) component_options.Other t ts e (inr (inr (record { parts = first_word ts; is = refl; holds = record { stand = stand; shut = shut; free = o; first = refl } })))

    spelled : (x : ComponentOption) (s : List Token) → Told IsComponentOption closed x s → (component_option closed).spells x s
    spelled x s o = subst ((component_option closed).spells x) (sym o.is) (at_plus x o.plus o.behind o.begins_so o.stand o.shut o.option)

pin_flavour : (closed : Bool) → IsFlavour IsPinOption closed (pin_option closed)
unfolding pin_option
pin_flavour closed = record { told = told; spelled = spelled }
  where
    told : (x : PinOption) (s : List Token) → (pin_option closed).spells x s → Told IsPinOption closed x s
    told x s h =
        let b = before_told "+" (pin_behind closed) x s h in
        elim b.holds [
          | inl p ↦ subst (λ (y : PinOption). Told IsPinOption closed y s) p.is
              (kept IsPinOption closed placement placement_keeps (pin_options.Placed p.parts) p.parts b.token b.behind s b.is b.text p.holds p.holds)
          | inr other ↦ elim other [
            | inl u ↦ subst (λ (y : PinOption). Told IsPinOption closed y s) u.is
                (kept IsPinOption closed ("NET" ▸ at name) net_keeps (pin_options.Net (record { text = u.parts.0; span = u.parts.1 })) u.parts b.token b.behind s b.is b.text u.holds u.holds)
            | inr o ↦ subst (λ (y : PinOption). Told IsPinOption closed y s) o.is
                (record { plus = b.token; behind = b.behind; is = b.is; begins_so = b.text; stand = o.holds.stand; shut = o.holds.shut; option = o.holds.free })
          ]
        ]

    at_plus : (x : PinOption) (t : Token) (ts : List Token) → t.text ≡ codes "+" → all_stand 0 ts ≡ true → (closed ≡ true → open_after 0 ts ≡ 0) → IsPinOption x (t ∷ ts) → (pin_option closed).spells x (t ∷ ts)
    at_plus (pin_options.Placed p) t ts e stand shut o = before_spelled "+" (pin_behind closed) (pin_options.Placed p) t ts e (inl (record { parts = p; is = refl; holds = o }))
    at_plus (pin_options.Net net) t ts e stand shut o = before_spelled "+" (pin_behind closed) (pin_options.Net net) t ts e (inr (inl (record { parts = (net.text, net.span); is = refl; holds = o })))
    at_plus pin_options.Other t ts e stand shut o =
        before_spelled "+" (pin_behind closed) pin_options.Other t ts e (inr (inr (record { parts = first_word ts; is = refl; holds = record { stand = stand; shut = shut; free = o; first = refl } })))

    spelled : (x : PinOption) (s : List Token) → Told IsPinOption closed x s → (pin_option closed).spells x s
    spelled x s o = subst ((pin_option closed).spells x) (sym o.is) (at_plus x o.plus o.behind o.begins_so o.stand o.shut o.option)

none_free : (ts : List Token) → begins (Only in_nets ∷ []) ts ≡ false
none_free [] = refl
none_free (t ∷ ts) = refl

net_flavour : (closed : Bool) → IsFlavour IsNetOption closed (net_option closed)
unfolding net_option
net_flavour closed = record { told = told; spelled = spelled }
  where
    told : (x : NetOption) (s : List Token) → (net_option closed).spells x s → Told IsNetOption closed x s
    told x s h =
        let b = before_told "+" (unread closed in_nets) h.parts.0 s h.holds.holds in
        let u = b.holds in
        let word_is : x.word ≡ first_word b.behind = sym (ap (λ (y : NetOption). y.word) h.is) ∙ sym u.first in
        let span_is : x.span ≡ place_of (b.token ∷ b.behind) = sym (ap (λ (y : NetOption). y.span) h.is) ∙ h.holds.place ∙ ap place_of b.is in
        record { plus = b.token; behind = b.behind; is = b.is; begins_so = b.text; stand = u.stand; shut = u.shut; option = (word_is, span_is) }

    at_plus : (x : NetOption) (t : Token) (ts : List Token) → t.text ≡ codes "+" → all_stand 0 ts ≡ true → (closed ≡ true → open_after 0 ts ≡ 0) → IsNetOption x (t ∷ ts) → (net_option closed).spells x (t ∷ ts)
    at_plus x t ts e stand shut o = record {
      parts = (first_word ts, place_of (t ∷ ts));
      is = (λ k. record { word = sym o.0 k; span = sym o.1 k });
      holds = record { holds = before_spelled "+" (unread closed in_nets) (first_word ts) t ts e (record { stand = stand; shut = shut; free = none_free ts; first = refl }); place = refl };
    }

    spelled : (x : NetOption) (s : List Token) → Told IsNetOption closed x s → (net_option closed).spells x s
    spelled x s o = subst ((net_option closed).spells x) (sym o.is) (at_plus x o.plus o.behind o.begins_so o.stand o.shut o.option)

pub net_options_law : NetOptionsLaw
net_options_law = record {
  there = λ xs s h. options_told IsNetOption (net_option true) (net_option false) (net_flavour true) (net_flavour false) xs s h;
  back = λ xs s h. options_spelled IsNetOption (net_option true) (net_option false) (net_flavour true) (net_flavour false) xs s h;
}

-- Statements with options

-- the start of a statement, its options and its semicolon
record IsOptioned {S X : Type 0} (start : Form S) (put : S → X → Option S) (IsOption : X → List Token → Type 0) (x : S) (s : List Token) : Type 0 where
  first : S
  values : List X
  front : List Token
  behind : List Token
  end : Token
  is : s ≡ front ++ (behind ++ end ∷ [])
  starts_so : start.spells first front
  options_are : AreOptions IsOption values behind
  ends : end.text ≡ codes ";"
  puts : put_all put first values ≡ Some x

module _ {S X : Type 0} (start : Form S) (put : S → X → Option S) (IsOption : X → List Token → Type 0) (closed any_form : Form X) (c : IsFlavour IsOption true closed) (a : IsFlavour IsOption false any_form) where
  optioned_told : (x : S) (s : List Token) → (with_options start put closed any_form ◂ ";").spells x s → IsOptioned start put IsOption x s
  optioned_told x s h =
      let split = h.holds in
      let m = split.first in
      let w = m.holds in
      let e = split.second in
      record {
        first = m.parts.0;
        values = m.parts.1;
        front = w.front;
        behind = w.back;
        end = e.token;
        is = split.is ∙ ap (λ (l : List Token). l ++ split.back) w.is ∙ ap (λ (l : List Token). (w.front ++ w.back) ++ l) e.is ∙ append_assoc w.front w.back (e.token ∷ []);
        starts_so = w.first;
        options_are = options_told IsOption closed any_form c a m.parts.1 w.back w.second;
        ends = e.text;
        puts = m.is ∙ ap (λ (y : S). Some y) h.is;
      }

  optioned_spelled : (x : S) (s : List Token) → IsOptioned start put IsOption x s → (with_options start put closed any_form ◂ ";").spells x s
  optioned_spelled x s o = record {
    parts = (x, tt);
    is = refl;
    holds = record {
      front = o.front ++ o.behind;
      back = o.end ∷ [];
      is = o.is ∙ sym (append_assoc o.front o.behind (o.end ∷ []));
      first = record {
        parts = (o.first, o.values);
        is = o.puts;
        holds = record { front = o.front; back = o.behind; is = refl; first = o.starts_so; second = options_spelled IsOption closed any_form c a o.values o.behind o.options_are };
      };
      second = record { token = o.end; is = refl; text = o.ends };
    };
  }

-- what the options of a component make
components_put : (n w : List ℕ) (o : Option (Option Placement)) (xs : List ComponentOption) → put_all put_component (record { name = n; cell = w; place = o }) xs >>= (λ s. Some (component_of s))
    ≡ Some (record { name = n; cell = w; place = or_else o (component_place xs) })
unfolding put_all
components_put n w o [] = refl
components_put n w o (component_options.Placed p ∷ xs) = components_put n w (Some (or_else o (Some p))) xs
components_put n w o (component_options.Unplaced ∷ xs) = components_put n w (Some (or_else o None)) xs
components_put n w o (component_options.Other ∷ xs) = components_put n w o xs

-- a value that follows from another
record Follows {A B : Type 0} (o : Option A) (f : A → Option B) (y : B) : Type 0 where
  middle : A
  first : o ≡ Some middle
  second : f middle ≡ Some y

follows : {A B : Type 0} (o : Option A) (f : A → Option B) (y : B) → (o >>= f) ≡ Some y → Follows o f y
follows None f y e = absurd cc
follows (Some x) f y e = record { middle = x; first = refl; second = e }

component_told : (c : Component) (s : List Token) → component_form.spells c s → IsComponentText c s
unfolding component_form
component_told c s h =
    let o = optioned_told (made fresh_component ("-" ▸ (name & name))) put_component IsComponentOption (component_option true) (component_option false) (component_flavour true) (component_flavour false) h.parts s h.holds in
    let m = o.starts_so in
    let b = before_told "-" (name & name) m.parts o.front m.holds in
    let n = b.holds.first in
    let w = b.holds.second in
    let all : o.front ≡ b.token ∷ n.token ∷ w.token ∷ [] =
    b.is ∙ ap (λ (l : List Token). b.token ∷ l) (b.holds.is ∙ ap (λ (l : List Token). l ++ b.holds.back) n.is ∙ ap (λ (l : List Token). n.token ∷ l) w.is) in
    let made_so : c ≡ record { name = m.parts.0; cell = m.parts.1; place = component_place o.values } =
    same_Some _ _ (ap (λ (x : Component). Some x) (sym h.is) ∙ ap (λ (y : Option ComponentSoFar). y >>= (λ z. Some (component_of z))) (sym o.puts)
    ∙ ap (λ (z : ComponentSoFar). put_all put_component z o.values >>= (λ y. Some (component_of y))) (sym m.is) ∙ components_put m.parts.0 m.parts.1 None o.values) in
    record {
      dash = b.token;
      name = n.token;
      cell = w.token;
      behind = o.behind;
      end = o.end;
      is = o.is ∙ ap (λ (l : List Token). l ++ (o.behind ++ o.end ∷ [])) all;
      begins = b.text;
      names = (ap (is_in (But marks)) n.text ∙ n.kind_is, ap (is_in (But marks)) w.text ∙ w.kind_is);
      ends = o.ends;
      values = o.values;
      options = o.options_are;
      value = made_so ∙ (λ k. record { name = sym n.text k; cell = sym w.text k; place = component_place o.values });
    }

component_back : (c : Component) (s : List Token) → IsComponentText c s → component_form.spells c s
unfolding component_form
component_back c s t =
    let p = follows (put_all put_component (fresh_component (t.name.text, t.cell.text)) t.values) (λ z. Some (component_of z)) _ (components_put t.name.text t.cell.text None t.values) in
    record {
      parts = p.middle;
      is = same_Some _ _ p.second ∙ sym t.value;
      holds = optioned_spelled (made fresh_component ("-" ▸ (name & name))) put_component IsComponentOption (component_option true) (component_option false) (component_flavour true) (component_flavour false) p.middle s
          (record {
            first = fresh_component (t.name.text, t.cell.text);
            values = t.values;
            front = t.dash ∷ t.name ∷ t.cell ∷ [];
            behind = t.behind;
            end = t.end;
            is = t.is;
            starts_so = record {
              parts = (t.name.text, t.cell.text);
              is = refl;
              holds = before_spelled "-" (name & name) (t.name.text, t.cell.text) t.dash (t.name ∷ t.cell ∷ []) t.begins (record {
                front = t.name ∷ [];
                back = t.cell ∷ [];
                is = refl;
                first = record { token = t.name; is = refl; text = refl; kind_is = t.names.0; passes = refl };
                second = record { token = t.cell; is = refl; text = refl; kind_is = t.names.1; passes = refl };
              });
            };
            options_are = t.options;
            ends = t.ends;
            puts = p.first;
          });
    }

pub component_law : ComponentLaw
component_law = record { there = component_told; back = component_back }

-- what the options of a design pin make: something, where they have one net
pin_from : List ℕ → List NetWord → Option Placement → Option DesignPin
pin_from n [] place = None
pin_from n (net ∷ []) place = Some (record { name = n; net = net.text; net_span = net.span; place = place })
pin_from n (net ∷ other ∷ nets) place = None

and_nets : Option NetWord → List NetWord → List NetWord
and_nets None nets = nets
and_nets (Some net) nets = net ∷ nets

pins_put : (n : List ℕ) (o : Option NetWord) (q : Option Placement) (xs : List PinOption) → (put_all put_pin (record { name = n; net = o; place = q }) xs >>= pin_of) ≡ pin_from n (and_nets o (nets_in xs)) (option_or q (pin_place xs))
unfolding put_all pin_from and_nets
pins_put n None None [] = refl
pins_put n None (Some p) [] = refl
pins_put n (Some net) None [] = refl
pins_put n (Some net) (Some p) [] = refl
pins_put n None q (pin_options.Net m ∷ xs) = pins_put n (Some m) q xs
pins_put n (Some net) q (pin_options.Net m ∷ xs) = refl
pins_put n o None (pin_options.Placed p ∷ xs) = pins_put n o (Some p) xs
pins_put n o (Some r) (pin_options.Placed p ∷ xs) = pins_put n o (Some r) xs
pins_put n o q (pin_options.Other ∷ xs) = pins_put n o q xs

-- where something is made, there is one net
record IsFrom (n : List ℕ) (nets : List NetWord) (place : Option Placement) (p : DesignPin) : Type 0 where
  net : NetWord
  one : nets ≡ net ∷ []
  value : p ≡ record { name = n; net = net.text; net_span = net.span; place = place }

is_from : (n : List ℕ) (nets : List NetWord) (place : Option Placement) (p : DesignPin) → pin_from n nets place ≡ Some p → IsFrom n nets place p
unfolding pin_from
is_from n [] place p e = absurd cc
is_from n (net ∷ []) place p e = record { net = net; one = refl; value = sym (same_Some _ _ e) }
is_from n (net ∷ other ∷ nets) place p e = absurd cc

from_one : (n : List ℕ) (nets : List NetWord) (place : Option Placement) (net : NetWord) → nets ≡ net ∷ [] → pin_from n nets place ≡ Some (record { name = n; net = net.text; net_span = net.span; place = place })
unfolding pin_from
from_one n nets place net e = rw e refl

pin_told : (p : DesignPin) (s : List Token) → design_pin_form.spells p s → IsPinText p s
unfolding design_pin_form and_nets
pin_told p s h =
    let o = optioned_told (made fresh_pin ("-" ▸ name)) put_pin IsPinOption (pin_option true) (pin_option false) (pin_flavour true) (pin_flavour false) h.parts s h.holds in
    let m = o.starts_so in
    let b = before_told "-" name m.parts o.front m.holds in
    let n = b.holds in
    let all : o.front ≡ b.token ∷ n.token ∷ [] = b.is ∙ ap (λ (l : List Token). b.token ∷ l) n.is in
    let made_so : pin_from m.parts (nets_in o.values) (pin_place o.values) ≡ Some p =
    sym (pins_put m.parts None None o.values) ∙ ap (λ (z : PinSoFar). put_all put_pin z o.values >>= pin_of) m.is ∙ ap (λ (y : Option PinSoFar). y >>= pin_of) o.puts ∙ h.is in
    let f = is_from m.parts (nets_in o.values) (pin_place o.values) p made_so in
    record {
      dash = b.token;
      name = n.token;
      behind = o.behind;
      end = o.end;
      is = o.is ∙ ap (λ (l : List Token). l ++ (o.behind ++ o.end ∷ [])) all;
      begins = b.text;
      named = ap (is_in (But marks)) n.text ∙ n.kind_is;
      ends = o.ends;
      values = o.values;
      options = o.options_are;
      net = f.net;
      one_net = f.one;
      value = f.value ∙ (λ k. record { name = sym n.text k; net = f.net.text; net_span = f.net.span; place = pin_place o.values });
    }

pin_back : (p : DesignPin) (s : List Token) → IsPinText p s → design_pin_form.spells p s
unfolding design_pin_form and_nets
pin_back p s t =
    let made_so = pins_put t.name.text None None t.values ∙ from_one t.name.text (nets_in t.values) (pin_place t.values) t.net t.one_net in
    let f = follows (put_all put_pin (fresh_pin t.name.text) t.values) pin_of _ made_so in
    record {
      parts = f.middle;
      is = f.second ∙ ap (λ (x : DesignPin). Some x) (sym t.value);
      holds = optioned_spelled (made fresh_pin ("-" ▸ name)) put_pin IsPinOption (pin_option true) (pin_option false) (pin_flavour true) (pin_flavour false) f.middle s
          (record {
            first = fresh_pin t.name.text;
            values = t.values;
            front = t.dash ∷ t.name ∷ [];
            behind = t.behind;
            end = t.end;
            is = t.is;
            starts_so = record {
              parts = t.name.text;
              is = refl;
              holds = before_spelled "-" name t.name.text t.dash (t.name ∷ []) t.begins (record { token = t.name; is = refl; text = refl; kind_is = t.named; passes = refl });
            };
            options_are = t.options;
            ends = t.ends;
            puts = f.first;
          });
    }

pub pin_law : PinLaw
pin_law = record { there = pin_told; back = pin_back }
