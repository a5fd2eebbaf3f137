-- A design pin's statement by its words, and with another word for its net.
use Rattle.std.proofs.Common.{◌≡◌, ℕ, ◌<◌, eqb, Bool, true, false, if◌then◌else◌, List, [], ◌∷◌, ◌++◌, refl, sym, ap, ◌∙◌, subst, arith}
use Rattle.std.specs.List.{AllByRecursion as Each}
use Rattle.std.proofs.lemmas.Bool.Decides.{nat_tests}
use Rattle.token_forms.specs.Tokens.{Token}
use Rattle.token_forms.specs.Parts.{token_texts}
use Rattle.token_forms.specs.Classes.{But, is_in}
use Rattle.def_syntax.specs.Words.{marks}
use Rattle.def_syntax.specs.Grammar.{design_pin}
use Rattle.def_syntax.specs.declared.pin.DesignPin.{DesignPin}
use Rattle.def_syntax.proofs.FrameLaws.{each_behind}
use Rattle.def_edit.specs.Alike.Changes.{pin_statement_words, names_word}
use Rattle.def_edit.specs.Alike.Laws.{IsSamePin, pin_value, with_word}
use Rattle.def_edit.proofs.alike.Lists.{each_weaker}
use Rattle.def_edit.proofs.alike.Statements.{Strict}
use Rattle.def_edit.proofs.alike.PinStatements.{Kept, Alone, other_pin}

kept_all : (ts : List Token) → Kept (λ t. t.text) ts
kept_all [] = tt
kept_all (t ∷ ts) = (refl, kept_all ts)

pub same_pin : (ts us : List Token) → token_texts ts ≡ token_texts us → (x : DesignPin) → design_pin.spells x ts → IsSamePin x us
same_pin ts us e x h =
    let o = other_pin (λ t. t.text) (λ v good. good) x ts us (λ a b v is at. (kept_all a, kept_all b)) (sym e) h in
    let net : o.value.net ≡ x.net = o.net ∙ o.old in
    record { value = o.value; spelled = o.spelled; same = rw (o.name, net, o.place) refl }

-- the rule by which one token has another word
abbrev pub other_at : ℕ → List ℕ → Token → List ℕ
other_at at w t = if eqb t.start at then w else t.text

all_before : (a b : List Token) (v : Token) → Strict (a ++ v ∷ b) → Each (λ t. t.start < v.start) a
all_before [] b v h = tt
all_before (t ∷ a) b v h = ((each_behind (λ u. t.start < u.start) a (v ∷ b) h.0).0, all_before a b v h.1)

all_behind : (a b : List Token) (v : Token) → Strict (a ++ v ∷ b) → Each (λ t. v.start < t.start) b
all_behind [] b v h = h.0
all_behind (t ∷ a) b v h = all_behind a b v h.1

apart_less : (at : ℕ) (w : List ℕ) (t v : Token) → v.start ≡ at → t.start < v.start → other_at at w t ≡ t.text
apart_less at w t v e lt = let no : eqb t.start at ≡ false = grind (arith, nat_tests) in rw no refl

apart_more : (at : ℕ) (w : List ℕ) (t v : Token) → v.start ≡ at → v.start < t.start → other_at at w t ≡ t.text
apart_more at w t v e lt = let no : eqb t.start at ≡ false = grind (arith, nat_tests) in rw no refl

pub strict_alone : (at : ℕ) (w : List ℕ) (ts : List Token) → Strict ts → Alone (other_at at w) at ts
strict_alone at w ts strict a b v is e =
    let h = subst Strict is strict in (
      each_weaker (λ t. t.start < v.start) (λ t. other_at at w t ≡ t.text) a (λ t lt. apart_less at w t v e lt) (all_before a b v h),
      each_weaker (λ t. v.start < t.start) (λ t. other_at at w t ≡ t.text) b (λ t lt. apart_more at w t v e lt) (all_behind a b v h),
    )

other_names : (at : ℕ) (w : List ℕ) → names_word w ≡ true → (v : Token) → is_in (But marks) v.text ≡ true → is_in (But marks) (other_at at w v) ≡ true
other_names at w good v h = of (eqb v.start at)
  where
    of : (b : Bool) → is_in (But marks) (if b then w else v.text) ≡ true
    of true = good
    of false = h

there_other : (at : ℕ) (w : List ℕ) (t : Token) → t.start ≡ at → other_at at w t ≡ w
there_other at w t e = let yes : eqb t.start at ≡ true = grind (arith, nat_tests) in rw yes refl

-- the statement with another word for its net
pub record ChangedPin (x : DesignPin) (w : List ℕ) (ts us : List Token) : Type 0 where
  pub value : DesignPin
  pub spelled : design_pin.spells value us
  pub same : pin_value value ≡ with_word (pin_value x) w
  pub token : Token
  pub good : is_in (But marks) token.text ≡ true
  pub front : List Token
  pub behind : List Token
  pub stands : ts ≡ front ++ token ∷ behind
  pub words : token_texts us ≡ token_texts front ++ w ∷ token_texts behind

pub changed_pin : (x : DesignPin) (w : List ℕ) (ts us : List Token) → Strict ts → names_word w ≡ true → token_texts us ≡ pin_statement_words ts x w → design_pin.spells x ts → ChangedPin x w ts us
changed_pin x w ts us strict good e h =
    let at = x.net_span.start in
    let o = other_pin (other_at at w) (other_names at w good) x ts us (strict_alone at w ts strict) e h in
    let word = there_other at w o.token o.here in
    let net : o.value.net ≡ w = o.net ∙ word in
    record {
      value = o.value;
      spelled = o.spelled;
      same = rw (o.name, net, o.place) refl;
      token = o.token;
      good = o.good;
      front = o.front;
      behind = o.behind;
      stands = o.stands;
      words = o.words ∙ ap (λ (v : List ℕ). token_texts o.front ++ v ∷ token_texts o.behind) word;
    }
