-- Each word of Forms makes lawful forms of lawful ones.
use Rattle.std.proofs.Common.{◌≡◌, ◌≤◌, ◌-◌, ◌==◌, ℕ, zero, suc, Bool, true, false, ◌&&◌, not, if◌then◌else◌, List, [], ◌∷◌, ◌++◌, length, take, Option, Some, None, IsSomeAnd, inl, inr, refl, sym, ap, ◌∙◌, subst, append_assoc, arith, codes, length-append}
use Prim.Native.String.{String}
use Rattle.std.specs.Str.{bytes_eq}
use Rattle.std.proofs.lemmas.Bool.{eqb-true, false_from_ne_true, and_parts, or_parts, not-true}
use Rattle.std.proofs.Math.Seq.{take-append_seam}
use Rattle.std.proofs.lemmas.Option.{option_and_then_some, cond_some, same_Some}
use Rattle.token_forms.specs.Tokens.{Token, place_of, run_place, front_of}
use Rattle.base_types.specs.declared.span.Span.{Span}
use Rattle.base_types.proofs.TruthValues.{bytes_self, bytes_are}
use Rattle.token_forms.specs.Parsing.{◌>>=◌, word_at}
use Rattle.token_forms.proofs.Spelled.{choose}
use Rattle.token_forms.specs.Classes.{Class, Only, is_in, is_in_any, all_apart, begins}
use Rattle.token_forms.specs.Forms.{Form, IsWord, word, key, IsText, text_at, text, ◌&◌, made, ◌▸◌, ◌◂◌, ◌only_if◌, ◌or◌, maybe, AreMany, many_within, many_at, many, some, listed, Passing, depth_behind, AllPass, passes_at, passed, at, between, made_if, put_all, gathered_at, gathered}
use Rattle.token_forms.specs.Laws.{Stands, IsLawful}
use Rattle.token_forms.proofs.ClassLemmas.{any_apart, not_begins, in_left, in_right}

same_head : {X : Type 0} (x y : X) (xs ys : List X) → (x ∷ xs) ≡ (y ∷ ys) → x ≡ y
same_head x y xs ys e = cc

-- a word
word-spelled : (w : List ℕ) (ts : List Token) (x : Unit {0}) (rest : List Token) → word_at w ts ≡ Some (x, rest) → Stands (IsWord w) ts rest
unfolding word_at
word-spelled w [] x rest e = absurd cc
word-spelled w (t ∷ ts) x rest e =
    let c = cond_some (bytes_eq t.text w) (tt, ts) _ e in
    record { front = t ∷ []; is = ap (λ (p : Unit {0} × List Token). t ∷ p.1) c.1; holds = record { token = t; is = refl; text = bytes_are t.text w c.0 } }

word-read : (w : List ℕ) (t : Token) (rest : List Token) → t.text ≡ w → word_at w (t ∷ rest) ≡ Some (tt, rest)
unfolding word_at
word-read w t rest is = rw (is, bytes_self w)

one_word : (w text : List ℕ) → text ≡ w → is_in_any (Only (w ∷ []) ∷ []) text ≡ true
one_word w text is = rw (is, bytes_self w)

pub word-lawful : (w : List ℕ) → IsLawful (word w)
word-lawful w = record {
  spelled = word-spelled w;
  read = λ clear x front rest s behind. rw s.is (word-read w s.token rest s.text);
  first = λ x t ts s. let is : t.text ≡ w = ap (λ (u : Token). u.text) (same_head t s.token ts [] s.is) ∙ s.text in one_word w t.text is;
  not_empty = λ never x s. let is = s.is in cc;
}

-- a token of a class
text-spelled : (kind : Class) (test : List ℕ → Bool) (ts : List Token) (x : List ℕ) (rest : List Token) → text_at kind test ts ≡ Some (x, rest) → Stands (IsText kind test x) ts rest
unfolding text_at
text-spelled kind test [] x rest e = absurd cc
text-spelled kind test (t ∷ ts) x rest e =
    let c = cond_some (is_in kind t.text && test t.text) (t.text, ts) _ e in
    let h = and_parts (is_in kind t.text) (test t.text) c.0 in
    subst (λ (p : List ℕ × List Token). Stands (IsText kind test p.0) (t ∷ ts) p.1) c.1
    (record { front = t ∷ []; is = refl; holds = record { token = t; is = refl; text = refl; kind_is = h.0; passes = h.1 } })

text-read : (kind : Class) (test : List ℕ → Bool) (x : List ℕ) (t : Token) (rest : List Token) → t.text ≡ x → is_in kind x ≡ true → test x ≡ true → text_at kind test (t ∷ rest) ≡ Some (x, rest)
unfolding text_at
text-read kind test x t rest is k p = rw (is, k, p)

pub text-lawful : (kind : Class) (test : List ℕ → Bool) → IsLawful (text kind test)
text-lawful kind test = record {
  spelled = text-spelled kind test;
  read = λ clear x front rest s behind. rw s.is (text-read kind test x s.token rest s.text s.kind_is s.passes);
  first = λ x t ts s. let is : t.text ≡ x = ap (λ (u : Token). u.text) (same_head t s.token ts [] s.is) ∙ s.text in rw (is, s.kind_is);
  not_empty = λ never x s. let is = s.is in cc;
}

-- one behind the other
module _ {A B : Type 0} (a : Form A) (b : Form B) (la : IsLawful a) (lb : IsLawful b) where
  seq-spelled : (ts : List Token) (x : A × B) (rest : List Token) → (a & b).reads ts ≡ Some (x, rest) → Stands ((a & b).spells x) ts rest
  seq-spelled ts x rest e =
      option_and_then_some _ (a.reads ts) _ e (λ p r e. option_and_then_some _ (b.reads p.1) _ e (λ q s e.
      let u = la.spelled ts p.0 p.1 r in
      let v = lb.spelled p.1 q.0 q.1 s in
      subst (λ (y : (A × B) × List Token). Stands ((a & b).spells y.0) ts y.1) (same_Some _ _ e)
      (record {
        front = u.front ++ v.front;
        is = u.is ∙ (ap (λ (r : List Token). u.front ++ r) v.is ∙ sym (append_assoc u.front v.front q.1));
        holds = record { front = u.front; back = v.front; is = refl; first = u.holds; second = v.holds };
      })))

  -- the first form doesn't go on with what is behind it
  ends : (m : Bool) → b.may_be_empty ≡ m → all_apart a.goes_on b.starts ≡ true → (y : B) (v rest : List Token) → b.spells y v
      → begins (b.goes_on ++ (if m then a.goes_on else [])) rest ≡ false → begins a.goes_on (v ++ rest) ≡ false
  ends true is far y [] rest s behind = (not_begins b.goes_on a.goes_on rest behind).1
  ends false is far y [] rest s behind = absurd (lb.not_empty is y s)
  ends m is far y (t ∷ v) rest s behind = false_from_ne_true _ (λ i. any_apart a.goes_on b.starts t.text far i (lb.first y t v s))

  seq-step : (x : A) (y : B) (u v rest : List Token) → a.reads (u ++ (v ++ rest)) ≡ Some (x, v ++ rest) → b.reads (v ++ rest) ≡ Some (y, rest) → (a & b).reads (u ++ (v ++ rest)) ≡ Some ((x, y), rest)
  seq-step x y u v rest r s = rw (r, s)

  seq-read : (a & b).is_clear ≡ true → (x : A × B) (front rest : List Token) → (a & b).spells x front → begins (a & b).goes_on rest ≡ false → (a & b).reads (front ++ rest) ≡ Some (x, rest)
  seq-read clear x front rest s behind =
      let c = and_parts a.is_clear _ clear in
      let d = and_parts b.is_clear _ c.1 in
      let r = la.read c.0 x.0 s.front (s.back ++ rest) s.first (ends b.may_be_empty refl d.1 x.1 s.back rest s.second behind) in
      let q = lb.read d.0 x.1 s.back rest s.second (not_begins b.goes_on _ rest behind).0 in
      ap (a & b).reads (ap (λ (f : List Token). f ++ rest) s.is ∙ append_assoc s.front s.back rest) ∙ seq-step x.0 x.1 s.front s.back rest r q

  seq-first-of : (m : Bool) → a.may_be_empty ≡ m → (x : A × B) (t : Token) (ts u v : List Token) → (t ∷ ts) ≡ u ++ v → a.spells x.0 u → b.spells x.1 v → is_in_any (a.starts ++ (if m then b.starts else [])) t.text ≡ true
  seq-first-of true is x t ts [] v e s r = in_right a.starts b.starts t.text (lb.first x.1 t ts (subst (b.spells x.1) (sym e) r))
  seq-first-of false is x t ts [] v e s r = absurd (la.not_empty is x.0 s)
  seq-first-of m is x t ts (k ∷ u) v e s r = in_left a.starts _ t.text (la.first x.0 t u (subst (λ (h : Token). a.spells x.0 (h ∷ u)) (sym (same_head t k ts (u ++ v) e)) s))

  seq-not_empty : (m n : Bool) → a.may_be_empty ≡ m → b.may_be_empty ≡ n → (m && n) ≡ false → (x : A × B) (u v : List Token) → [] ≡ u ++ v → a.spells x.0 u → b.spells x.1 v → ⊥
  seq-not_empty true n ma mb never x [] v e s r = lb.not_empty (mb ∙ never) x.1 (subst (b.spells x.1) (sym e) r)
  seq-not_empty false n ma mb never x [] v e s r = la.not_empty ma x.0 s
  seq-not_empty m n ma mb never x (k ∷ u) v e s r = cc

  pub seq-lawful : IsLawful (a & b)
  seq-lawful = record {
    spelled = seq-spelled;
    read = seq-read;
    first = λ x t ts s. seq-first-of a.may_be_empty refl x t ts s.front s.back s.is s.first s.second;
    not_empty = λ never x s. seq-not_empty a.may_be_empty b.may_be_empty refl refl never x s.front s.back s.is s.first s.second;
  }

-- a value made of parts
module _ {A X : Type 0} (f : A → X) (a : Form A) (la : IsLawful a) where
  made-spelled : (ts : List Token) (x : X) (rest : List Token) → (made f a).reads ts ≡ Some (x, rest) → Stands ((made f a).spells x) ts rest
  made-spelled ts x rest e =
      option_and_then_some _ (a.reads ts) _ e (λ p r e.
      let u = la.spelled ts p.0 p.1 r in
      subst (λ (y : X × List Token). Stands ((made f a).spells y.0) ts y.1) (same_Some _ _ e)
      (record { front = u.front; is = u.is; holds = record { parts = p.0; is = refl; holds = u.holds } }))

  made-step : (p : A) (x : X) (ts rest : List Token) → f p ≡ x → a.reads ts ≡ Some (p, rest) → (made f a).reads ts ≡ Some (x, rest)
  made-step p x ts rest is r = rw (r, is)

  pub made-lawful : IsLawful (made f a)
  made-lawful = record {
    spelled = made-spelled;
    read = λ clear x front rest s behind. made-step s.parts x (front ++ rest) rest s.is (la.read clear s.parts front rest s.holds behind);
    first = λ x t ts s. la.first s.parts t ts s.holds;
    not_empty = λ never x s. la.not_empty never s.parts s.holds;
  }

pub before-lawful : {A : Type 0} (w : String) (a : Form A) → IsLawful a → IsLawful (w ▸ a)
before-lawful w a la = made-lawful _ (key w & a) (seq-lawful (key w) a (word-lawful (codes w)) la)

pub behind-lawful : {A : Type 0} (a : Form A) (w : String) → IsLawful a → IsLawful (a ◂ w)
behind-lawful a w la = made-lawful _ (a & key w) (seq-lawful a (key w) la (word-lawful (codes w)))

-- values that pass a test
module _ {X : Type 0} (a : Form X) (test : X → Bool) (la : IsLawful a) where
  only-spelled : (ts : List Token) (x : X) (rest : List Token) → (a only_if test).reads ts ≡ Some (x, rest) → Stands ((a only_if test).spells x) ts rest
  only-spelled ts x rest e =
      option_and_then_some _ (a.reads ts) _ e (λ p r e.
      let c = cond_some (test p.0) p _ e in
      let u = la.spelled ts p.0 p.1 r in
      subst (λ (y : X × List Token). Stands ((a only_if test).spells y.0) ts y.1) c.1
      (record { front = u.front; is = u.is; holds = record { holds = u.holds; passes = c.0 } }))

  only-step : (x : X) (ts rest : List Token) → test x ≡ true → a.reads ts ≡ Some (x, rest) → (a only_if test).reads ts ≡ Some (x, rest)
  only-step x ts rest is r = rw (r, is)

  pub only-lawful : IsLawful (a only_if test)
  only-lawful = record {
    spelled = only-spelled;
    read = λ clear x front rest s behind. only-step x (front ++ rest) rest s.passes (la.read clear x front rest s.holds behind);
    first = λ x t ts s. la.first x t ts s.holds;
    not_empty = λ never x s. la.not_empty never x s.holds;
  }

-- the one or the other
module _ {X : Type 0} (a b : Form X) (la : IsLawful a) (lb : IsLawful b) where
  or-spelled : (ts : List Token) (x : X) (rest : List Token) → (a or b).reads ts ≡ Some (x, rest) → Stands ((a or b).spells x) ts rest
  or-spelled ts x rest e =
      choose (begins a.starts ts) _ _ _ e
      (λ one e. let u = la.spelled ts x rest e in record { front = u.front; is = u.is; holds = inl u.holds })
      (λ other e. let u = lb.spelled ts x rest e in record { front = u.front; is = u.is; holds = inr u.holds })

  one-read : (ts : List Token) → begins a.starts ts ≡ true → (a or b).reads ts ≡ a.reads ts
  one-read ts is = rw is

  other-read : (ts : List Token) → begins a.starts ts ≡ false → (a or b).reads ts ≡ b.reads ts
  other-read ts is = rw is

  read_one : a.is_clear ≡ true → a.may_be_empty ≡ false → (x : X) (front rest : List Token) → a.spells x front → begins a.goes_on rest ≡ false → (a or b).reads (front ++ rest) ≡ Some (x, rest)
  read_one clear some x [] rest s behind = absurd (la.not_empty some x s)
  read_one clear some x (t ∷ u) rest s behind = one-read (t ∷ (u ++ rest)) (la.first x t u s) ∙ la.read clear x (t ∷ u) rest s behind

  read_other : (m : Bool) → b.may_be_empty ≡ m → b.is_clear ≡ true → all_apart a.starts b.starts ≡ true → (x : X) (front rest : List Token) → b.spells x front
      → begins (b.goes_on ++ (if m then a.starts else [])) rest ≡ false → (a or b).reads (front ++ rest) ≡ Some (x, rest)
  read_other true is clear far x [] rest s behind =
      let n = not_begins b.goes_on a.starts rest behind in
      other-read rest n.1 ∙ lb.read clear x [] rest s n.0
  read_other false is clear far x [] rest s behind = absurd (lb.not_empty is x s)
  read_other m is clear far x (t ∷ u) rest s behind =
      other-read (t ∷ (u ++ rest)) (false_from_ne_true _ (λ i. any_apart a.starts b.starts t.text far i (lb.first x t u s))) ∙ lb.read clear x (t ∷ u) rest s (not_begins b.goes_on _ rest behind).0

  or-read : (a or b).is_clear ≡ true → (x : X) (front rest : List Token) → (a or b).spells x front → begins (a or b).goes_on rest ≡ false → (a or b).reads (front ++ rest) ≡ Some (x, rest)
  or-read clear x front rest s behind =
      let c = and_parts (a.is_clear && not a.may_be_empty) _ clear in
      let d = and_parts a.is_clear _ c.0 in
      let g = and_parts b.is_clear _ c.1 in
      let n = not_begins a.goes_on _ rest behind in
      elim s [
        | inl one ↦ read_one d.0 (not-true _ d.1) x front rest one n.0
        | inr other ↦ read_other b.may_be_empty refl g.0 g.1 x front rest other n.1
      ]

  or-not_empty : (a or b).may_be_empty ≡ false → (x : X) → (a or b).spells x [] → ⊥
  or-not_empty never x s =
      let n = or_parts a.may_be_empty b.may_be_empty never in
      elim s [ inl one ↦ la.not_empty n.0 x one | inr other ↦ lb.not_empty n.1 x other ]

  or-first : (x : X) (t : Token) (ts : List Token) → (a or b).spells x (t ∷ ts) → is_in_any (a or b).starts t.text ≡ true
  or-first x t ts s =
      elim s [ inl one ↦ in_left a.starts b.starts t.text (la.first x t ts one) | inr other ↦ in_right a.starts b.starts t.text (lb.first x t ts other) ]

  pub or-lawful : IsLawful (a or b)
  or-lawful = record { spelled = or-spelled; read = or-read; first = or-first; not_empty = or-not_empty }

module _ {X : Type 0} (a : Form X) (la : IsLawful a) where
  -- a value or none
  maybe-spelled : (ts : List Token) (x : Option X) (rest : List Token) → (maybe a).reads ts ≡ Some (x, rest) → Stands ((maybe a).spells x) ts rest
  maybe-spelled ts x rest e =
      choose (begins a.starts ts) _ _ _ e
      (λ one e. option_and_then_some _ (a.reads ts) _ e (λ p r e.
      let u = la.spelled ts p.0 p.1 r in
      subst (λ (y : Option X × List Token). Stands ((maybe a).spells y.0) ts y.1) (same_Some _ _ e) (record { front = u.front; is = u.is; holds = u.holds })))
      (λ none e. subst (λ (y : Option X × List Token). Stands ((maybe a).spells y.0) ts y.1) (same_Some _ _ e) (record { front = []; is = refl; holds = refl }))

  maybe-one : (x : X) (ts rest : List Token) → begins a.starts ts ≡ true → a.reads ts ≡ Some (x, rest) → (maybe a).reads ts ≡ Some (Some x, rest)
  maybe-one x ts rest is r = rw (is, r)

  maybe-none : (ts : List Token) → begins a.starts ts ≡ false → (maybe a).reads ts ≡ Some (None, ts)
  maybe-none ts is = rw is

  maybe-read : (maybe a).is_clear ≡ true → (x : Option X) (front rest : List Token) → (maybe a).spells x front → begins (maybe a).goes_on rest ≡ false → (maybe a).reads (front ++ rest) ≡ Some (x, rest)
  maybe-read clear None front rest s behind = rw s (maybe-none rest (not_begins a.goes_on a.starts rest behind).1)
  maybe-read clear (Some x) [] rest s behind = absurd (la.not_empty (not-true _ (and_parts a.is_clear _ clear).1) x s)
  maybe-read clear (Some x) (t ∷ u) rest s behind =
      maybe-one x (t ∷ (u ++ rest)) rest (la.first x t u s) (la.read (and_parts a.is_clear _ clear).0 x (t ∷ u) rest s (not_begins a.goes_on a.starts rest behind).0)

  maybe-first : (x : Option X) (t : Token) (ts : List Token) → (maybe a).spells x (t ∷ ts) → is_in_any a.starts t.text ≡ true
  maybe-first None t ts s = absurd cc
  maybe-first (Some x) t ts s = la.first x t ts s

  pub maybe-lawful : IsLawful (maybe a)
  maybe-lawful = record { spelled = maybe-spelled; read = maybe-read; first = maybe-first; not_empty = λ never x s. absurd cc }

  -- values one behind the other
  within-spelled : (n : ℕ) (ts : List Token) (xs : List X) (rest : List Token) → many_within a.starts a.reads n ts ≡ Some (xs, rest) → Stands (AreMany a.spells xs) ts rest
  unfolding many_within
  within-spelled zero ts xs rest e =
      choose (begins a.starts ts) _ _ _ e (λ one e. absurd cc)
      (λ none e. subst (λ (y : List X × List Token). Stands (AreMany a.spells y.0) ts y.1) (same_Some _ _ e) (record { front = []; is = refl; holds = refl }))
  within-spelled (suc n) ts xs rest e =
      choose (begins a.starts ts) _ _ _ e
      (λ one e. option_and_then_some _ (a.reads ts) _ e (λ p r e. option_and_then_some _ (many_within a.starts a.reads n p.1) _ e (λ q s e.
      let u = la.spelled ts p.0 p.1 r in
      let v = within-spelled n p.1 q.0 q.1 s in
      subst (λ (y : List X × List Token). Stands (AreMany a.spells y.0) ts y.1) (same_Some _ _ e)
      (record {
        front = u.front ++ v.front;
        is = u.is ∙ (ap (λ (r : List Token). u.front ++ r) v.is ∙ sym (append_assoc u.front v.front q.1));
        holds = record { front = u.front; back = v.front; is = refl; first = u.holds; second = v.holds };
      }))))
      (λ none e. subst (λ (y : List X × List Token). Stands (AreMany a.spells y.0) ts y.1) (same_Some _ _ e) (record { front = []; is = refl; holds = refl }))

  pub within-none : (n : ℕ) (ts : List Token) → begins a.starts ts ≡ false → many_within a.starts a.reads n ts ≡ Some ([], ts)
  unfolding many_within
  within-none zero ts is = rw is
  within-none (suc n) ts is = rw is

  within-one : (n : ℕ) (x : X) (xs : List X) (ts middle rest : List Token) → begins a.starts ts ≡ true → a.reads ts ≡ Some (x, middle) → many_within a.starts a.reads n middle ≡ Some (xs, rest)
      → many_within a.starts a.reads (suc n) ts ≡ Some (x ∷ xs, rest)
  unfolding many_within
  within-one n x xs ts middle rest is r s = rw (is, r, s)

  many-first : (xs : List X) (t : Token) (ts : List Token) → AreMany a.spells xs (t ∷ ts) → is_in_any a.starts t.text ≡ true
  many-first [] t ts s = absurd cc
  many-first (x ∷ xs) t ts s = first_of s.front s.is s.first (λ back. many-first xs t ts back)
    where
      first_of : (u : List Token) → (t ∷ ts) ≡ u ++ s.back → a.spells x u → (AreMany a.spells xs (t ∷ ts) → is_in_any a.starts t.text ≡ true) → is_in_any a.starts t.text ≡ true
      first_of [] e f later = later (subst (AreMany a.spells xs) (sym e) s.second)
      first_of (k ∷ u) e f later = la.first x t u (subst (λ (h : Token). a.spells x (h ∷ u)) (sym (same_head t k ts (u ++ s.back) e)) f)

  many-ends : all_apart a.goes_on a.starts ≡ true → (xs : List X) (v rest : List Token) → AreMany a.spells xs v
      → begins (a.goes_on ++ a.starts) rest ≡ false → begins a.goes_on (v ++ rest) ≡ false
  many-ends far xs [] rest s behind = (not_begins a.goes_on a.starts rest behind).0
  many-ends far xs (t ∷ v) rest s behind = false_from_ne_true _ (λ i. any_apart a.goes_on a.starts t.text far i (many-first xs t v s))

  Reads : ℕ → List X → List Token → List Token → Type 0
  Reads n xs ts rest = many_within a.starts a.reads n ts ≡ Some (xs, rest)

  one_more : a.may_be_empty ≡ false → a.is_clear ≡ true → (x : X) (xs : List X) (n : ℕ) (u v rest : List Token) → length (u ++ v) ≤ n → a.spells x u → begins a.goes_on (v ++ rest) ≡ false
      → ((m : ℕ) → length v ≤ m → Reads m xs (v ++ rest) rest) → Reads n (x ∷ xs) (u ++ (v ++ rest)) rest
  unfolding Reads
  one_more full clear x xs n [] v rest enough f behind later = absurd (la.not_empty full x f)
  one_more full clear x xs zero (t ∷ u) v rest enough f behind later = absurd (omega arith)
  one_more full clear x xs (suc n) (t ∷ u) v rest enough f behind later =
      within-one n x xs (t ∷ (u ++ (v ++ rest))) (v ++ rest) rest (la.first x t u f) (la.read clear x (t ∷ u) (v ++ rest) f behind)
      (later n (omega (arith, length-append u v)))

  within-read : a.may_be_empty ≡ false → a.is_clear ≡ true → all_apart a.goes_on a.starts ≡ true → (n : ℕ) (xs : List X) (front rest : List Token) → length front ≤ n → AreMany a.spells xs front
      → begins (a.goes_on ++ a.starts) rest ≡ false → Reads n xs (front ++ rest) rest
  unfolding Reads
  within-read full clear far n [] front rest enough s behind = rw s (within-none n rest (not_begins a.goes_on a.starts rest behind).1)
  within-read full clear far n (x ∷ xs) front rest enough s behind =
      let all : front ++ rest ≡ s.front ++ (s.back ++ rest) = ap (λ (f : List Token). f ++ rest) s.is ∙ append_assoc s.front s.back rest in
      subst (λ (ts : List Token). many_within a.starts a.reads n ts ≡ Some (x ∷ xs, rest)) (sym all)
      (one_more full clear x xs n s.front s.back rest (subst (λ (f : List Token). length f ≤ n) s.is enough) s.first (many-ends far xs s.back rest s.second behind)
      (λ m short. within-read full clear far m xs s.back rest short s.second behind))

  many-spelled : (ts : List Token) (xs : List X) (rest : List Token) → many_at a.starts a.reads ts ≡ Some (xs, rest) → Stands (AreMany a.spells xs) ts rest
  unfolding many_at
  many-spelled ts xs rest e = within-spelled (length ts) ts xs rest e

  many-read : (many a).is_clear ≡ true → (xs : List X) (front rest : List Token) → (many a).spells xs front → begins (many a).goes_on rest ≡ false → (many a).reads (front ++ rest) ≡ Some (xs, rest)
  unfolding many_at Reads
  many-read clear xs front rest s behind =
      let c = and_parts a.is_clear _ clear in
      let d = and_parts (not a.may_be_empty) _ c.1 in
      within-read (not-true _ d.0) c.0 d.1 (length (front ++ rest)) xs front rest (omega (arith, length-append front rest)) s behind

  pub many-lawful : IsLawful (many a)
  many-lawful = record { spelled = many-spelled; read = many-read; first = many-first; not_empty = λ never x s. absurd cc }

pub some-lawful : {X : Type 0} (a : Form X) → IsLawful a → IsLawful (some a)
some-lawful a la = made-lawful _ (a & many a) (seq-lawful a (many a) la (many-lawful a la))

-- a value and where it stands
front_is : (front rest : List Token) → front_of (front ++ rest) rest ≡ front
front_is front rest =
    let n : length (front ++ rest) - length rest ≡ length front = omega (arith, length-append front rest) in
    ap (λ (n : ℕ). take n (front ++ rest)) n ∙ take-append_seam front rest

module _ {X : Type 0} (a : Form X) (la : IsLawful a) where
  at-spelled : (ts : List Token) (x : X × Span) (rest : List Token) → (at a).reads ts ≡ Some (x, rest) → Stands ((at a).spells x) ts rest
  at-spelled ts x rest e =
      option_and_then_some _ (a.reads ts) _ e (λ p r e.
      let u = la.spelled ts p.0 p.1 r in
      let f : front_of ts p.1 ≡ u.front = ap (λ (us : List Token). front_of us p.1) u.is ∙ front_is u.front p.1 in
      subst (λ (y : (X × Span) × List Token). Stands ((at a).spells y.0) ts y.1) (same_Some _ _ e)
      (record { front = u.front; is = u.is; holds = record { holds = u.holds; place = ap place_of f } }))

  at-step : (x : X) (s : Span) (ts rest : List Token) → a.reads ts ≡ Some (x, rest) → s ≡ place_of (front_of ts rest) → (at a).reads ts ≡ Some ((x, s), rest)
  at-step x s ts rest r is = rw (r, is)

  pub at-lawful : IsLawful (at a)
  at-lawful = record {
    spelled = at-spelled;
    read = λ clear x front rest s behind. at-step x.0 x.1 (front ++ rest) rest (la.read clear x.0 front rest s.holds behind) (s.place ∙ ap place_of (sym (front_is front rest)));
    first = λ x t ts s. la.first x.0 t ts s.holds;
    not_empty = λ never x s. la.not_empty never x.0 s.holds;
  }

-- a value between two marks
placed_before : (run : List Token) (next : Token) (behind : List Token) → run_place run (next ∷ behind) ≡ run_place run (next ∷ [])
placed_before [] next behind = refl
placed_before (t ∷ ts) next behind = refl

module _ {A : Type 0} (w : String) (a : Form A) (v : String) (la : IsLawful a) where
  between-spelled : (ts : List Token) (x : A × Span) (rest : List Token) → (between w a v).reads ts ≡ Some (x, rest) → Stands ((between w a v).spells x) ts rest
  between-spelled ts x rest e =
      option_and_then_some _ (word_at (codes w) ts) _ e (λ o r e. option_and_then_some _ (a.reads o.1) _ e (λ q s e. option_and_then_some _ (word_at (codes v) q.1) _ e (λ k m e.
      let u = word-spelled (codes w) ts o.0 o.1 r in
      let b = la.spelled o.1 q.0 q.1 s in
      let n = word-spelled (codes v) q.1 k.0 k.1 m in
      let opened : ts ≡ u.holds.token ∷ o.1 = u.is ∙ ap (λ (f : List Token). f ++ o.1) u.holds.is in
      let closed : q.1 ≡ n.holds.token ∷ k.1 = n.is ∙ ap (λ (f : List Token). f ++ k.1) n.holds.is in
      let inside : o.1 ≡ b.front ++ n.holds.token ∷ k.1 = b.is ∙ ap (λ (r : List Token). b.front ++ r) closed in
      let run : front_of o.1 q.1 ≡ b.front = ap (λ (us : List Token). front_of us q.1) b.is ∙ front_is b.front q.1 in
      subst (λ (y : (A × Span) × List Token). Stands ((between w a v).spells y.0) ts y.1) (same_Some _ _ e)
      (record {
        front = u.holds.token ∷ (b.front ++ n.holds.token ∷ []);
        is = opened ∙ ap (λ (r : List Token). u.holds.token ∷ r) (inside ∙ sym (append_assoc b.front (n.holds.token ∷ []) k.1));
        holds = record {
          mark = u.holds.token;
          run = b.front;
          next = n.holds.token;
          is = refl;
          opens = u.holds.text;
          holds = b.holds;
          closes = n.holds.text;
          placed = ap (λ (f : List Token). run_place f q.1) run ∙ (ap (λ (r : List Token). run_place b.front r) closed ∙ placed_before b.front n.holds.token k.1);
        };
      }))))

  between-step : (x : A) (place : Span) (ts us vs rest : List Token) → word_at (codes w) ts ≡ Some (tt, us) → a.reads us ≡ Some (x, vs) → word_at (codes v) vs ≡ Some (tt, rest)
      → place ≡ run_place (front_of us vs) vs → (between w a v).reads ts ≡ Some ((x, place), rest)
  between-step x place ts us vs rest r s m is = rw (r, s, m, is)

  between-read : (between w a v).is_clear ≡ true → (x : A × Span) (front rest : List Token) → (between w a v).spells x front → (between w a v).reads (front ++ rest) ≡ Some (x, rest)
  between-read clear x front rest s =
      let c = and_parts a.is_clear _ clear in
      let far : begins a.goes_on (s.next ∷ rest) ≡ false = false_from_ne_true _ (λ i. any_apart a.goes_on (Only (codes v ∷ []) ∷ []) s.next.text c.1 i (one_word (codes v) s.next.text s.closes)) in
      let whole : front ++ rest ≡ s.mark ∷ (s.run ++ s.next ∷ rest) = ap (λ (f : List Token). f ++ rest) s.is ∙ ap (λ (r : List Token). s.mark ∷ r) (append_assoc s.run (s.next ∷ []) rest) in
      ap (between w a v).reads whole
      ∙ between-step x.0 x.1 (s.mark ∷ (s.run ++ s.next ∷ rest)) (s.run ++ s.next ∷ rest) (s.next ∷ rest) rest (word-read (codes w) s.mark (s.run ++ s.next ∷ rest) s.opens)
      (la.read c.0 x.0 s.run (s.next ∷ rest) s.holds far) (word-read (codes v) s.next rest s.closes)
      (s.placed ∙ (sym (placed_before s.run s.next rest) ∙ ap (λ (f : List Token). run_place f (s.next ∷ rest)) (sym (front_is s.run (s.next ∷ rest)))))

  pub between-lawful : IsLawful (between w a v)
  between-lawful = record {
    spelled = between-spelled;
    read = λ clear x front rest s behind. between-read clear x front rest s;
    first = λ x t ts s. one_word (codes w) t.text (ap (λ (u : Token). u.text) (same_head t s.mark ts _ s.is) ∙ s.opens);
    not_empty = λ never x s. let is = s.is in cc;
  }

-- tokens that pass
module _ (p : Passing) where
  -- what is read where a token may pass or not
  next : ℕ → Token → List Token → Option ℕ → Option (Unit {0} × List Token)
  next depth t ts o = elim o [ None ↦ if depth == 0 then Some (tt, t ∷ ts) else None | Some d ↦ passes_at p d ts ]

  by_depth : (depth : ℕ) (t : Token) (ts rest : List Token) (x : Unit {0}) (o : Option ℕ) → o ≡ depth_behind p depth t.text → next depth t ts o ≡ Some (x, rest)
      → ((d : ℕ) → passes_at p d ts ≡ Some (x, rest) → Stands (AllPass p d) ts rest) → Stands (AllPass p depth) (t ∷ ts) rest
  unfolding next
  by_depth depth t ts rest x None is e later =
      let c = cond_some (depth == 0) (tt, t ∷ ts) _ e in
      record { front = []; is = ap (λ (y : Unit {0} × List Token). y.1) c.1; holds = eqb-true depth 0 c.0 }
  by_depth depth t ts rest x (Some d) is e later =
      let u = later d e in
      record { front = t ∷ u.front; is = ap (λ (us : List Token). t ∷ us) u.is; holds = subst (λ (o : Option ℕ). IsSomeAnd o (λ d. AllPass p d u.front)) is u.holds }

  passes-spelled : (depth : ℕ) (ts : List Token) (x : Unit {0}) (rest : List Token) → passes_at p depth ts ≡ Some (x, rest) → Stands (AllPass p depth) ts rest
  unfolding passes_at next
  passes-spelled depth [] x rest e =
      let c = cond_some (depth == 0) (tt, []) _ e in
      record { front = []; is = ap (λ (y : Unit {0} × List Token). y.1) c.1; holds = eqb-true depth 0 c.0 }
  passes-spelled depth (t ∷ ts) x rest e = by_depth depth t ts rest x (depth_behind p depth t.text) refl e (λ d e. passes-spelled d ts x rest e)

  stays_out : (text : List ℕ) → is_in_any (Only (p.opens ∷ []) ∷ p.outside ∷ []) text ≡ false → depth_behind p 0 text ≡ None
  stays_out text e =
      let n = or_parts (is_in (Only (p.opens ∷ [])) text) _ e in
      let m = or_parts (is_in p.outside text) false n.1 in
      let k = or_parts (bytes_eq text p.opens) false n.0 in
      rw (k.0, m.0)

  unfolds : (depth : ℕ) (t : Token) (ts : List Token) → passes_at p depth (t ∷ ts) ≡ next depth t ts (depth_behind p depth t.text)
  unfolding passes_at next
  unfolds depth t ts = refl

  stops_at : (t : Token) (ts : List Token) (o : Option ℕ) → o ≡ None → next 0 t ts o ≡ Some (tt, t ∷ ts)
  unfolding next
  stops_at t ts o is = rw is

  read_by : (depth : ℕ) (t : Token) (front rest : List Token) (o : Option ℕ) → IsSomeAnd o (λ d. AllPass p d front)
      → ((d : ℕ) → AllPass p d front → passes_at p d (front ++ rest) ≡ Some (tt, rest)) → next depth t (front ++ rest) o ≡ Some (tt, rest)
  unfolding next
  read_by depth t front rest None s later = absurd s
  read_by depth t front rest (Some d) s later = later d s

  passes-read : (depth : ℕ) (front rest : List Token) → AllPass p depth front → begins (Only (p.opens ∷ []) ∷ p.outside ∷ []) rest ≡ false → passes_at p depth (front ++ rest) ≡ Some (tt, rest)
  unfolding passes_at
  passes-read depth [] [] s behind = rw s
  passes-read depth [] (t ∷ rest) s behind = rw s (unfolds 0 t rest ∙ stops_at t rest _ (stays_out t.text behind))
  passes-read depth (t ∷ front) rest s behind =
      unfolds depth t (front ++ rest) ∙ read_by depth t front rest (depth_behind p depth t.text) s (λ d s. passes-read d front rest s behind)

  may_pass : (t : Token) (ts : List Token) (a b : Bool) → a ≡ bytes_eq t.text p.opens → b ≡ is_in p.outside t.text → AllPass p 0 (t ∷ ts) → is_in_any (Only (p.opens ∷ []) ∷ p.outside ∷ []) t.text ≡ true
  may_pass t ts true b a-is b-is s = rw (← a-is)
  may_pass t ts false true a-is b-is s = rw (← a-is, ← b-is)
  may_pass t ts false false a-is b-is s =
      let none : depth_behind p 0 t.text ≡ None = rw (← a-is, ← b-is) in
      absurd (subst (λ (o : Option ℕ). IsSomeAnd o (λ d. AllPass p d ts)) none s)

  pub passed-lawful : IsLawful (passed p)
  passed-lawful = record {
    spelled = λ ts x rest e. let u = passes-spelled 0 ts x rest e in record { front = u.front; is = u.is; holds = record { all = u.holds } };
    read = λ clear x front rest s behind. passes-read 0 front rest s.all behind;
    first = λ x t ts s. may_pass t ts (bytes_eq t.text p.opens) (is_in p.outside t.text) refl refl s.all;
    not_empty = λ never x s. absurd cc;
  }

-- a value made of parts, where they make one
module _ {A X : Type 0} (f : A → Option X) (a : Form A) (la : IsLawful a) where
  made_if-spelled : (ts : List Token) (x : X) (rest : List Token) → (made_if f a).reads ts ≡ Some (x, rest) → Stands ((made_if f a).spells x) ts rest
  made_if-spelled ts x rest e =
      option_and_then_some _ (a.reads ts) _ e (λ p r e. option_and_then_some _ (f p.0) _ e (λ y s e.
      let u = la.spelled ts p.0 p.1 r in
      subst (λ (y : X × List Token). Stands ((made_if f a).spells y.0) ts y.1) (same_Some _ _ e)
      (record { front = u.front; is = u.is; holds = record { parts = p.0; is = s; holds = u.holds } })))

  made_if-step : (p : A) (x : X) (ts rest : List Token) → f p ≡ Some x → a.reads ts ≡ Some (p, rest) → (made_if f a).reads ts ≡ Some (x, rest)
  made_if-step p x ts rest is r = rw (r, is)

  pub made_if-lawful : IsLawful (made_if f a)
  made_if-lawful = record {
    spelled = made_if-spelled;
    read = λ clear x front rest s behind. made_if-step s.parts x (front ++ rest) rest s.is (la.read clear s.parts front rest s.holds behind);
    first = λ x t ts s. la.first s.parts t ts s.holds;
    not_empty = λ never x s. la.not_empty never s.parts s.holds;
  }

-- a value, and pieces put to it
module _ {S X : Type 0} (start : Form S) (put : S → X → Option S) (piece : Form X) (ls : IsLawful start) (lp : IsLawful piece) where
  whole : Form S
  whole = made_if (λ p. put_all put p.0 p.1) (start & many piece)

  whole-lawful : IsLawful whole
  unfolding whole
  whole-lawful = made_if-lawful (λ p. put_all put p.0 p.1) (start & many piece) (seq-lawful start (many piece) ls (many-lawful piece lp))

  abbrev put_pieces : S → Option (List X × List Token) → Option (S × List Token)
  put_pieces s o = o >>= λ p. put_all put s p.0 >>= λ t. Some (t, p.1)

  abbrev with_start : S → Option (List X × List Token) → Option ((S × List X) × List Token)
  with_start s o = o >>= λ y. Some ((s, y.0), y.1)

  abbrev put_to_start : Option ((S × List X) × List Token) → Option (S × List Token)
  put_to_start o = o >>= λ p. put_all put p.0.0 p.0.1 >>= λ t. Some (t, p.1)

  behind_pieces : (s : S) (o : Option (List X × List Token)) → put_pieces s o ≡ put_to_start (with_start s o)
  behind_pieces s None = refl
  behind_pieces s (Some p) = refl

  behind_start : (o : Option (S × List Token)) → (o >>= λ s. gathered_at put piece.starts piece.reads s.0 s.1) ≡ put_to_start (o >>= λ s. with_start s.0 (many_at piece.starts piece.reads s.1))
  unfolding gathered_at
  behind_start None = refl
  behind_start (Some s) = behind_pieces s.0 (many_at piece.starts piece.reads s.1)

  same_reads : (ts : List Token) → (gathered start put piece).reads ts ≡ whole.reads ts
  unfolding whole
  same_reads ts = behind_start (start.reads ts)

  pub gathered-lawful : IsLawful (gathered start put piece)
  unfolding whole
  gathered-lawful =
      let w = whole-lawful in
      record {
        spelled = λ ts x rest e. w.spelled ts x rest (sym (same_reads ts) ∙ e);
        read = λ clear x front rest s behind. same_reads (front ++ rest) ∙ w.read clear x front rest s behind;
        first = w.first;
        not_empty = w.not_empty;
      }

pub listed-lawful : {X : Type 0} (a : Form X) (w : String) → IsLawful a → IsLawful (listed a w)
listed-lawful a w la = made-lawful _ (a & many (w ▸ a)) (seq-lawful a (many (w ▸ a)) la (many-lawful (w ▸ a) (before-lawful w a la)))
