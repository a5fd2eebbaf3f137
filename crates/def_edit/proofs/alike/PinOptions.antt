-- The options of a design pin, of which one is its net, with another word for the net.
use Rattle.std.proofs.Common.{◌≡◌, ℕ, Bool, true, List, [], ◌∷◌, ◌++◌, Option, Some, codes, refl, sym, ap, ◌∙◌, subst, inl, inr}
use Rattle.base_types.specs.declared.span.Span.{Span}
use Rattle.token_forms.specs.Tokens.{Token, place_of}
use Rattle.token_forms.specs.Parts.{token_texts}
use Rattle.token_forms.specs.Classes.{But, is_in}
use Rattle.token_forms.specs.Forms.{Form, at, ◌▸◌}
use Rattle.token_forms.proofs.Joined.{word_joined}
use Rattle.token_forms.proofs.Parted.{word_texts}
use Rattle.def_syntax.specs.Words.{marks, in_pins, name}
use Rattle.def_syntax.specs.Pieces.{once, or_else, put_pin}
use Rattle.def_syntax.specs.OptionForms.{pin_option}
use Rattle.def_syntax.specs.declared.placement.Placement.{Placement}
use Rattle.def_edit.proofs.alike.SameForms.{cut_again}
use Rattle.def_edit.proofs.alike.SameOptions.{unread_by}
use Rattle.def_edit.proofs.alike.SameGrammar.{placement_by}

abbrev value_type : {X : Type 0} → Form X → Type 0
value_type {X} f = X

abbrev state_type : {S X : Type 0} → (S → X → Option S) → Type 0
state_type {S} put = S

-- an option, and a design pin as far as its options are read
abbrev pub Opt : Type 0
Opt = value_type (pin_option true)

abbrev pub State : Type 0
State = state_type put_pin

-- an option without a net
pub record IsPlain (o : Opt) : Type 0 where
  pub place : Option Placement → Option Placement
  pub is : (s : State) → put_pin s o ≡ Some (record s { place = place s.place })

-- the option is the net of this word, at this place
pub record IsNet (o : Opt) (w : List ℕ) (p : Span) : Type 0 where
  pub is : (s : State) → put_pin s o ≡ once s.net (record s { net = Some (record { text = w; span = p }) })

-- another word for the net
pub record OtherNet (closed : Bool) (w : List ℕ) (us : List Token) : Type 0 where
  pub option : Opt
  pub place : Span
  pub spelled : (pin_option closed).spells option us
  pub net : IsNet option w place

-- the option is no net, and hangs on words alone; or it is + NET and a word
pub data Kind (closed : Bool) (o : Opt) (ts : List Token) : Type 0 where
  Plain : IsPlain o → ((us : List Token) → token_texts ts ≡ token_texts us → (pin_option closed).spells o us) → Kind closed o ts
  Net : (t u v : Token) → ts ≡ t ∷ u ∷ v ∷ [] → IsNet o v.text (record { start = v.start; end = v.end }) → is_in (But marks) v.text ≡ true
      → ((w : List ℕ) (us : List Token) → is_in (But marks) w ≡ true → token_texts us ≡ t.text ∷ u.text ∷ w ∷ [] → OtherNet closed w us) → Kind closed o ts

other_net : (closed : Bool) (w : List ℕ) (us : List Token) → is_in (But marks) w ≡ true → token_texts us ≡ codes "+" ∷ codes "NET" ∷ w ∷ [] → OtherNet closed w us
unfolding pin_option
other_net closed w [] good e = absurd cc
other_net closed w (t ∷ []) good e = absurd cc
other_net closed w (t ∷ u ∷ []) good e = absurd cc
other_net closed w (t ∷ u ∷ v ∷ x ∷ us) good e = absurd cc
other_net closed w (t ∷ u ∷ v ∷ []) good e =
    let te : t.text ≡ codes "+" = cc in
    let ue : u.text ≡ codes "NET" = cc in
    let ve : v.text ≡ w = cc in
    let here : Span = record { start = v.start; end = v.end } in
    let word : (at name).spells (w, here) (v ∷ []) = record { holds = record { token = v; is = refl; text = ve; kind_is = good; passes = refl }; place = refl } in
    let behind : ("NET" ▸ at name).spells (w, here) (u ∷ v ∷ []) =
    record { parts = (tt, (w, here)); is = refl; holds = record { front = u ∷ []; back = v ∷ []; is = refl; first = record { token = u; is = refl; text = ue }; second = word } }
    in
    record {
      option = _;
      place = here;
      spelled = record {
        parts = (tt, _);
        is = refl;
        holds = record { front = t ∷ []; back = u ∷ v ∷ []; is = refl; first = record { token = t; is = refl; text = te }; second = inr (inl (record { parts = (w, here); is = refl; holds = behind })) };
      };
      net = record { is = λ s. refl };
    }

pub kind_of : (closed : Bool) (o : Opt) (ts : List Token) → (pin_option closed).spells o ts → Kind closed o ts
unfolding pin_option
kind_of closed o ts h =
    let a = h.holds in
    elim a.second [
      | inl k ↦
          Plain (record { place = λ q. Some (or_else q k.parts); is = subst (λ (p : Opt). (s : State) → put_pin s p ≡ Some (record s { place = Some (or_else s.place k.parts) })) (k.is ∙ h.is) (λ s. refl) })
          (λ us e.
          let c = cut_again ts us a.front a.back e a.is in
          record {
            parts = h.parts;
            is = h.is;
            holds = record {
              front = c.front;
              back = c.behind;
              is = c.is;
              first = word_joined (codes "+") c.front (c.first ∙ word_texts (codes "+") a.front a.first);
              second = inl (record { parts = k.parts; is = k.is; holds = placement_by.same k.parts a.back c.behind (sym c.second) k.holds });
            };
          })
      | inr r ↦
          elim r [
            | inl n ↦
                let b = n.holds.holds in
                let word = b.second.holds in
                let t = a.first.token in
                let u = b.first.token in
                let v = word.token in
                let here : Span = record { start = v.start; end = v.end } in
                let place : n.holds.parts.1.1 ≡ here = b.second.place ∙ ap place_of word.is in
                let law : (s : State) → put_pin s o ≡ once s.net (record s { net = Some (record { text = n.parts.0; span = n.parts.1 }) }) =
                subst (λ (p : Opt). (s : State) → put_pin s p ≡ once s.net (record s { net = Some (record { text = n.parts.0; span = n.parts.1 }) })) (n.is ∙ h.is) (λ s. refl)
                in
                let first : n.parts.0 ≡ v.text = ap (λ (q : List ℕ × Span). q.0) (sym n.holds.is) ∙ sym word.text in
                let second : n.parts.1 ≡ here = ap (λ (q : List ℕ × Span). q.1) (sym n.holds.is) ∙ place in
                let at_word : IsNet o v.text n.parts.1 = subst (λ (w : List ℕ). IsNet o w n.parts.1) first (record { is = law }) in
                Net t u v (a.is ∙ ap (λ (xs : List Token). xs ++ a.back) a.first.is ∙ ap (λ (xs : List Token). t ∷ xs) (b.is ∙ ap (λ (xs : List Token). xs ++ b.back) b.first.is ∙ ap (λ (xs : List Token). u ∷ xs) word.is))
                (subst (λ (p : Span). IsNet o v.text p) second at_word)
                (subst (λ (w : List ℕ). is_in (But marks) w ≡ true) (sym word.text) word.kind_is)
                (λ w us good e. other_net closed w us good (e ∙ ap (λ (x : List ℕ). x ∷ u.text ∷ w ∷ []) a.first.text ∙ ap (λ (x : List ℕ). codes "+" ∷ x ∷ w ∷ []) b.first.text))
            | inr k ↦
                Plain (record { place = λ q. q; is = subst (λ (p : Opt). (s : State) → put_pin s p ≡ Some s) (k.is ∙ h.is) (λ s. refl) })
                (λ us e.
                let c = cut_again ts us a.front a.back e a.is in
                record {
                  parts = h.parts;
                  is = h.is;
                  holds = record {
                    front = c.front;
                    back = c.behind;
                    is = c.is;
                    first = word_joined (codes "+") c.front (c.first ∙ word_texts (codes "+") a.front a.first);
                    second = inr (inr (record { parts = k.parts; is = k.is; holds = (unread_by closed in_pins).same k.parts a.back c.behind (sym c.second) k.holds }));
                  };
                })
          ]
    ]
