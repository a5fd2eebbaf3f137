-- What stands behind a scan call's name, and behind the labels, is what is spelled.
use Rattle.std.proofs.Common.{◌≡◌, ◌<◌, ◌≤◌, ℕ, zero, suc, Bool, false, cond, nat_eq, List, [], ◌∷◌, ◌++◌, length, length-append, Option, Some, None, refl, sym, ap, ◌∙◌, subst, arith, append_assoc, codes}
use Rattle.std.specs.Str.{bytes_eq}
use Rattle.std.proofs.Math.Dec.{eqb-suc-zero}
use Rattle.std.proofs.lemmas.Option.{same_Some}
use Rattle.base_types.proofs.TruthValues.{bytes_are}
use Rattle.token_forms.specs.Tokens.{Token}
use Rattle.token_forms.specs.Laws.{Stands}
use Rattle.token_forms.proofs.Spelled.{choose}
use Rattle.stil_syntax.specs.declared.item.Item.{Item}
use Rattle.stil_syntax.specs.declared.shape.Shape.TheVariants.{NoForm, Scan}
use Rattle.stil_syntax.specs.Names.{IsName, name_at}
use Rattle.stil_syntax.specs.Grammar.{call_end}
use Rattle.stil_syntax.specs.Shapes.{label_by, label_at, behind_within, scan_shape}
use Rattle.stil_syntax.specs.Laws.{ItemsLaw, label, HasLabels, LabelsLaw}
use Rattle.stil_syntax.proofs.Lawful.{call_statement, name-spelled, name-read}

-- a Scan was read whole
all_read : (read : Option (List Item × List Token)) (items : List Item) → scan_shape read ≡ Scan items → read ≡ Some (items, [])
all_read None items e = absurd cc
all_read (Some (found, [])) items e = cc
all_read (Some (found, t ∷ ts)) items e =
    let some : nat_eq (length (t ∷ ts)) 0 ≡ false = eqb-suc-zero (length ts) in
    let f : NoForm ≡ Scan items = subst (λ (b : Bool). cond b (Scan found) NoForm ≡ Scan items) some e in
    absurd cc

append_nil : (xs : List Token) → xs ++ [] ≡ xs
append_nil [] = refl
append_nil (x ∷ xs) = ap (λ (l : List Token). x ∷ l) (append_nil xs)

items_spelled : (ts : List Token) (items : List Item) → scan_shape (call_end.reads ts) ≡ Scan items → call_end.spells items ts
items_spelled ts items e =
    let s = call_statement.lawful.spelled ts items [] (all_read (call_end.reads ts) items e) in
    subst (λ (l : List Token). call_end.spells items l) (sym (s.is ∙ append_nil s.front)) s.holds

items_read : (ts : List Token) (items : List Item) → call_end.spells items ts → scan_shape (call_end.reads ts) ≡ Scan items
items_read ts items s =
    let read : call_end.reads (ts ++ []) ≡ Some (items, []) = call_statement.lawful.read call_statement.clear items ts [] s refl in
    let same : call_end.reads ts ≡ Some (items, []) = subst (λ (l : List Token). call_end.reads l ≡ Some (items, [])) (append_nil ts) read in
    rw same refl

pub items_law : ItemsLaw
items_law ts items = (items_spelled ts items, items_read ts items)

-- a label, by what it is made of
record Labelled (ts rest : List Token) : Type 0 where
  pub name : List ℕ
  pub front : List Token
  pub colon : Token
  pub is : ts ≡ front ++ (colon ∷ rest)
  pub named : IsName name front
  pub text : colon.text ≡ codes ":"

labelled_by : (ts : List Token) (n : Option (List ℕ × List Token)) (rest : List Token) → name_at ts ≡ n → label_by n ≡ Some rest → Labelled ts rest
labelled_by ts None rest read e = absurd cc
labelled_by ts (Some (x, [])) rest read e = absurd cc
labelled_by ts (Some (x, t ∷ us)) rest read e =
    choose (bytes_eq t.text (codes ":")) (Some us) None (Some rest) e
    (λ b e. let s = name-spelled ts x (t ∷ us) read in
    record { name = x; front = s.front; colon = t; is = s.is ∙ ap (λ (l : List Token). s.front ++ (t ∷ l)) (same_Some _ _ e); named = s.holds; text = bytes_are t.text (codes ":") b })
    (λ b e. absurd cc)

labelled : (ts rest : List Token) → label_at ts ≡ Some rest → Labelled ts rest
unfolding label_at
labelled ts rest e = labelled_by ts (name_at ts) rest refl e

shorter : (ts rest : List Token) → Labelled ts rest → length rest < length ts
shorter ts rest l = rw (l.is, length-append l.front (l.colon ∷ rest)) (omega arith)

spelled_so : (ts rest : List Token) (l : Labelled ts rest) → label.spells l.name (l.front ++ (l.colon ∷ []))
spelled_so ts rest l = record {
  parts = (l.name, tt);
  is = refl;
  holds = record { front = l.front; back = l.colon ∷ []; is = refl; first = l.named; second = record { token = l.colon; is = refl; text = l.text } };
}

-- no label stands where none is read
colon_read : (x : List ℕ) (front : List Token) (colon : Token) (other : List Token) → IsName x front → colon.text ≡ codes ":" → label_at (front ++ (colon ∷ other)) ≡ Some other
unfolding label_at
colon_read x front colon other named text =
    rw (name-read x front (colon ∷ other) named (rw text refl), text) refl

none_read : (rest : List Token) → label_at rest ≡ None → (x : List ℕ) (other : List Token) → Stands (label.spells x) rest other → ⊥
none_read rest none x other s =
    let m = s.holds in
    let p = m.holds in
    let w = p.second in
    let is : rest ≡ p.front ++ (w.token ∷ other) = s.is ∙ ap (λ (l : List Token). l ++ other) (p.is ∙ ap (λ (l : List Token). p.front ++ l) w.is) ∙ append_assoc p.front (w.token ∷ []) other in
    let read : label_at rest ≡ Some other = subst (λ (l : List Token). label_at l ≡ Some other) (sym is) (colon_read (m.parts.0) p.front w.token other p.first w.text) in
    absurd cc

-- one more label in front
one_more : (ts more rest : List Token) → Labelled ts more → HasLabels more rest → HasLabels ts rest
one_more ts more rest l h = record {
  names = l.name ∷ h.names;
  stand = record {
    front = (l.front ++ (l.colon ∷ [])) ++ h.stand.front;
    is = l.is ∙ ap (λ (r : List Token). l.front ++ (l.colon ∷ r)) h.stand.is ∙ sym (append_assoc l.front (l.colon ∷ []) (h.stand.front ++ rest)) ∙ sym (append_assoc (l.front ++ (l.colon ∷ [])) h.stand.front rest);
    holds = record { front = l.front ++ (l.colon ∷ []); back = h.stand.front; is = refl; first = spelled_so ts more l; second = h.stand.holds };
  };
  last = h.last;
}

no_more : (ts : List Token) → label_at ts ≡ None → HasLabels ts ts
no_more ts none = record { names = []; stand = record { front = []; is = refl; holds = refl }; last = none_read ts none }

abbrev next : ℕ → List Token → Option (List Token) → List Token
next n ts o = elim o [ None ↦ ts | Some rest ↦ behind_within n rest ]

labels_by : (n : ℕ) (ts : List Token) (o : Option (List Token)) → label_at ts ≡ o → length ts ≤ suc n → ((rest : List Token) → length rest ≤ n → HasLabels rest (behind_within n rest)) → HasLabels ts (next n ts o)
labels_by n ts None e le more = no_more ts e
labels_by n ts (Some rest) e le more =
    let l = labelled ts rest e in
    one_more ts rest (behind_within n rest) l (more rest (omega (arith, shorter ts rest l)))

none_here : label_at [] ≡ None
unfolding label_at name_at
none_here = refl

labels_within : (n : ℕ) (ts : List Token) → length ts ≤ n → HasLabels ts (behind_within n ts)
unfolding behind_within
labels_within zero [] le = no_more [] none_here
labels_within zero (t ∷ ts) le = absurd (omega arith)
labels_within (suc n) ts le = labels_by n ts (label_at ts) refl le (labels_within n)

pub labels_law : LabelsLaw
labels_law ts = labels_within (length ts) ts (omega arith)
