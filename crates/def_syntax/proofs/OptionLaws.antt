-- Options of which each is closed but for the last are a lawful form, where the two forms of one agree.
use Rattle.std.proofs.Common.{◌≡◌, ◌≤◌, ℕ, zero, suc, Bool, true, false, ◌&&◌, ◌||◌, not, if◌then◌else◌, List, [], ◌∷◌, ◌++◌, length, Option, Some, None, refl, sym, ap, ◌∙◌, subst, append_assoc, arith, codes, length-append}
use Prim.Native.String.{String}
use Rattle.std.proofs.lemmas.Option.{option_and_then_some, same_Some}
use Rattle.std.proofs.lemmas.List.Folds.{list_any-append}
use Rattle.std.proofs.lemmas.Bool.{false_from_ne_true, and_parts, not-true}
use Rattle.token_forms.specs.Tokens.{Token}
use Rattle.token_forms.specs.Parsing.{◌>>=◌, word_at}
use Rattle.token_forms.specs.Classes.{Class, Only, is_in, is_in_any, begins}
use Rattle.token_forms.specs.Forms.{Form, key, many_within, many_at, many, maybe, ◌&◌, ◌or◌, ◌▸◌, made, made_if, at, put_all, gathered_at}
use Rattle.token_forms.specs.Laws.{Stands, IsLawful}
use Rattle.token_forms.proofs.Spelled.{choose}
use Rattle.token_forms.proofs.ClassLemmas.{any_apart, not_begins}
use Rattle.token_forms.proofs.Laws.{seq-lawful, made_if-lawful, maybe-lawful, many-lawful, within-none}
use Rattle.def_syntax.specs.Options.{and_last, options, with_options, unread}
use Rattle.def_syntax.proofs.Unread.{unread-closed, unread-open}

-- what is read as closed is read so where it may be open too, and what is read where it may be open, before a token with which
-- another option begins, is closed
pub record Agree {X : Type 0} (plus : List Class) (closed any : Form X) : Type 0 where
  pub also : (ts : List Token) (x : X × List Token) → closed.reads ts ≡ Some x → any.reads ts ≡ Some x
  pub before : (ts rest : List Token) (x : X) → any.reads ts ≡ Some (x, rest) → begins plus rest ≡ true → closed.reads ts ≡ Some (x, rest)
  pub starts : closed.starts ≡ any.starts

abbrev pub plus_first : List Class
plus_first = Only (codes "+" ∷ []) ∷ []

pub unread-agree : (read : List (List ℕ)) → Agree plus_first (unread true read) (unread false read)
unread-agree read = record { also = unread-closed read; before = λ ts rest x e p. unread-open read ts rest x e p; starts = refl }

pub same-agree : {X : Type 0} (plus : List Class) (a : Form X) → Agree plus a a
same-agree plus a = record { also = λ ts x e. e; before = λ ts rest x e p. e; starts = refl }

pub made-agree : {A X : Type 0} (plus : List Class) (f : A → X) (a b : Form A) → Agree plus a b → Agree plus (made f a) (made f b)
made-agree plus f a b g = record {
  also = λ ts x e. option_and_then_some _ (a.reads ts) _ e (λ p r e. rw (g.also ts p r) e);
  before = λ ts rest x e p. option_and_then_some _ (b.reads ts) _ e (λ q r e.
      let left : q.1 ≡ rest = ap (λ (y : _ × List Token). y.1) (same_Some _ _ e) in
      rw (g.before ts q.1 q.0 r (subst (λ (l : List Token). begins plus l ≡ true) (sym left) p)) e);
  starts = g.starts;
}

pub behind-agree : {A : Type 0} (plus : List Class) (w : String) (a b : Form A) → Agree plus a b → Agree plus (key w & a) (key w & b)
behind-agree {A} plus w a b g = record {
  also = λ ts x e. option_and_then_some _ (word_at (codes w) ts) _ e (λ o r e. option_and_then_some _ (a.reads o.1) _ e (λ p q e. rw (r, g.also o.1 p q) e));
  before = λ ts rest x e p. option_and_then_some _ (word_at (codes w) ts) _ e (λ o r e. option_and_then_some _ (b.reads o.1) _ e (λ y q e.
      let left : y.1 ≡ rest = ap (λ (z : (Unit {0} × A) × List Token). z.1) (same_Some _ _ e) in
      rw (r, g.before o.1 y.1 y.0 q (subst (λ (l : List Token). begins plus l ≡ true) (sym left) p)) e));
  starts = refl;
}

pub before-agree : {A : Type 0} (plus : List Class) (w : String) (a b : Form A) → Agree plus a b → Agree plus (w ▸ a) (w ▸ b)
before-agree plus w a b g = made-agree plus (λ x. x.1) (key w & a) (key w & b) (behind-agree plus w a b g)

pub or-agree : {X : Type 0} (plus : List Class) (a b c : Form X) → Agree plus b c → Agree plus (a or b) (a or c)
or-agree plus a b c g = record {
  also = λ ts x e. also (begins a.starts ts) ts x e;
  before = λ ts rest x e p. before (begins a.starts ts) ts rest x e p;
  starts = ap (λ (s : List Class). a.starts ++ s) g.starts;
}
  where
    also : (t : Bool) (ts : List Token) (x : _) → (if t then a.reads ts else b.reads ts) ≡ Some x → (if t then a.reads ts else c.reads ts) ≡ Some x
    also true ts x e = e
    also false ts x e = g.also ts x e

    before : (t : Bool) (ts rest : List Token) (x : _) → (if t then a.reads ts else c.reads ts) ≡ Some (x, rest) → begins plus rest ≡ true → (if t then a.reads ts else b.reads ts) ≡ Some (x, rest)
    before true ts rest x e p = e
    before false ts rest x e p = g.before ts rest x e p

pub at-agree : {X : Type 0} (plus : List Class) (a b : Form X) → Agree plus a b → Agree plus (at a) (at b)
at-agree plus a b g = record {
  also = λ ts x e. option_and_then_some _ (a.reads ts) _ e (λ p r e. rw (g.also ts p r) e);
  before = λ ts rest x e p. option_and_then_some _ (b.reads ts) _ e (λ q r e.
      let left : q.1 ≡ rest = ap (λ (y : _ × List Token). y.1) (same_Some _ _ e) in
      rw (g.before ts q.1 q.0 r (subst (λ (l : List Token). begins plus l ≡ true) (sym left) p)) e);
  starts = g.starts;
}

module _ {X : Type 0} (closed any : Form X) (lc : IsLawful closed) (la : IsLawful any) (g : Agree any.starts closed any) where
  list_is : List X → List Token → Type 0
  list_is = (options closed any).spells

  -- a closed option in front of others
  in_front : (x : X) (xs : List X) (u v ts : List Token) → closed.spells x u → list_is xs v → ts ≡ u ++ v → list_is (x ∷ xs) ts
  unfolding list_is
  in_front x xs u v ts f s is = record {
    parts = (x ∷ s.parts.0, s.parts.1);
    is = longer s.parts.0 s.parts.1 ∙ ap (λ (l : List X). x ∷ l) s.is;
    holds = record {
      front = u ++ s.holds.front;
      back = s.holds.back;
      is = is ∙ ap (λ (l : List Token). u ++ l) s.holds.is ∙ sym (append_assoc u s.holds.front s.holds.back);
      first = record { front = u; back = s.holds.front; is = refl; first = f; second = s.holds.first };
      second = s.holds.second;
    };
  }
    where
      longer : (ys : List X) (last : Option X) → and_last (x ∷ ys) last ≡ x ∷ and_last ys last
      longer ys None = refl
      longer ys (Some y) = refl

  alone : (x : X) (ts : List Token) → any.spells x ts → list_is (x ∷ []) ts
  unfolding list_is
  alone x ts f = record { parts = ([], Some x); is = refl; holds = record { front = []; back = ts; is = refl; first = refl; second = f } }

  nothing : list_is [] []
  unfolding list_is
  nothing = record { parts = ([], None); is = refl; holds = record { front = []; back = []; is = refl; first = refl; second = refl } }

  none_more : (n : ℕ) (ts : List Token) (xs : List X) (rest : List Token) → begins any.starts ts ≡ false → many_within any.starts any.reads n ts ≡ Some (xs, rest) → (xs ≡ []) × (rest ≡ ts)
  none_more n ts xs rest here e =
      let k = same_Some _ _ (sym (within-none any la n ts here) ∙ e) in
      (sym (ap (λ (y : List X × List Token). y.0) k), sym (ap (λ (y : List X × List Token). y.1) k))

  -- what is read is spelled so
  within-spelled : (n : ℕ) (ts : List Token) (xs : List X) (rest : List Token) → many_within any.starts any.reads n ts ≡ Some (xs, rest) → Stands (list_is xs) ts rest
  unfolding many_within
  within-spelled zero ts xs rest e =
      choose (begins any.starts ts) _ _ _ e (λ one e. absurd cc)
      (λ none e. subst (λ (y : List X × List Token). Stands (list_is y.0) ts y.1) (same_Some _ _ e) (record { front = []; is = refl; holds = nothing }))
  within-spelled (suc n) ts xs rest e =
      choose (begins any.starts ts) _ _ _ e
      (λ one e. option_and_then_some _ (any.reads ts) _ e (λ p r e. option_and_then_some _ (many_within any.starts any.reads n p.1) _ e (λ q s e.
      subst (λ (y : List X × List Token). Stands (list_is y.0) ts y.1) (same_Some _ _ e) (one_more p q r s (begins any.starts p.1) refl (within-spelled n p.1 q.0 q.1 s)))))
      (λ none e. subst (λ (y : List X × List Token). Stands (list_is y.0) ts y.1) (same_Some _ _ e) (record { front = []; is = refl; holds = nothing }))
    where
      one_more : (p : X × List Token) (q : List X × List Token) → any.reads ts ≡ Some p → many_within any.starts any.reads n p.1 ≡ Some q → (b : Bool) → begins any.starts p.1 ≡ b → Stands (list_is q.0) p.1 q.1
          → Stands (list_is (p.0 ∷ q.0)) ts q.1
      one_more p q r s true here v =
          let u = lc.spelled ts p.0 p.1 (g.before ts p.1 p.0 r here) in
          record {
            front = u.front ++ v.front;
            is = u.is ∙ (ap (λ (l : List Token). u.front ++ l) v.is ∙ sym (append_assoc u.front v.front q.1));
            holds = in_front p.0 q.0 u.front v.front (u.front ++ v.front) u.holds v.holds refl;
          }
      one_more p q r s false here v =
          let u = la.spelled ts p.0 p.1 r in
          let k = none_more n p.1 q.0 q.1 here s in
          record { front = u.front; is = u.is ∙ ap (λ (l : List Token). u.front ++ l) (sym k.1); holds = subst (λ (l : List X). list_is (p.0 ∷ l) u.front) (sym k.0) (alone p.0 u.front u.holds) }

  -- what is spelled so is read
  Reads : ℕ → List X → List Token → List Token → Type 0
  Reads n xs ts rest = many_within any.starts any.reads n ts ≡ Some (xs, rest)

  within-one : (n : ℕ) (x : X) (xs : List X) (ts middle rest : List Token) → begins any.starts ts ≡ true → any.reads ts ≡ Some (x, middle) → Reads n xs middle rest → Reads (suc n) (x ∷ xs) ts rest
  unfolding many_within Reads
  within-one n x xs ts middle rest is r s = rw (is, r, s)

  both_starts : (text : List ℕ) → is_in_any (closed.starts ++ any.starts) text ≡ true → is_in_any any.starts text ≡ true
  both_starts text i = either (is_in_any any.starts text) (sym (list_any-append (λ c. is_in c text) closed.starts any.starts ∙ ap (λ (cs : List Class). is_in_any cs text || is_in_any any.starts text) g.starts) ∙ i)
    where
      either : (b : Bool) → (b || b) ≡ true → b ≡ true
      either true e = refl
      either false e = e

  -- behind a closed option stands another, or what may stand behind options
  ends_so : (options closed any).is_clear ≡ true → (xs : List X) (last : Option X) (v rest : List Token) → (many closed & maybe any).spells (xs, last) v → begins (options closed any).goes_on rest ≡ false
      → begins closed.goes_on (v ++ rest) ≡ false
  ends_so clear xs last [] rest s behind = (not_begins closed.goes_on (any.goes_on ++ any.starts) rest behind).0
  ends_so clear xs last (t ∷ v) rest s behind =
      let far = (and_parts (not closed.may_be_empty && not any.may_be_empty) _ (and_parts (closed.is_clear && any.is_clear) _ clear).1).1 in
      let w = seq-lawful (many closed) (maybe any) (many-lawful closed lc) (maybe-lawful any la) in
      let first = w.first (xs, last) t v s in
      false_from_ne_true _ (λ i. any_apart closed.goes_on any.starts t.text far i (both_starts t.text first))

  Reading : List X → Option X → List Token → List Token → Type 0
  Reading xs last front rest = (n : ℕ) → length front ≤ n → Reads n (and_last xs last) (front ++ rest) rest

  last_read : (options closed any).is_clear ≡ true → (last : Option X) (front rest : List Token) → (maybe any).spells last front → begins (options closed any).goes_on rest ≡ false → Reading [] last front rest
  unfolding Reading Reads
  last_read clear None front rest s behind n enough =
      rw s (within-none any la n rest (not_begins any.goes_on any.starts rest (not_begins closed.goes_on (any.goes_on ++ any.starts) rest behind).1).1)
  last_read clear (Some x) [] rest s behind n enough =
      absurd (la.not_empty (not-true _ (and_parts (not closed.may_be_empty) _ (and_parts (not closed.may_be_empty && not any.may_be_empty) _ (and_parts (closed.is_clear && any.is_clear) _ clear).1).0).1) x s)
  last_read clear (Some x) (t ∷ front) rest s behind zero enough = absurd (omega arith)
  last_read clear (Some x) (t ∷ front) rest s behind (suc n) enough =
      let far = not_begins any.goes_on any.starts rest (not_begins closed.goes_on (any.goes_on ++ any.starts) rest behind).1 in
      within-one n x [] (t ∷ (front ++ rest)) rest rest (la.first x t front s) (la.read (and_parts closed.is_clear _ (and_parts (closed.is_clear && any.is_clear) _ clear).0).1 x (t ∷ front) rest s far.0)
      (within-none any la n rest far.1)

  one_read : (options closed any).is_clear ≡ true → (x : X) (xs : List X) (n : ℕ) (u v rest : List Token) → length (u ++ v) ≤ n → closed.spells x u → begins closed.goes_on (v ++ rest) ≡ false
      → ((m : ℕ) → length v ≤ m → Reads m xs (v ++ rest) rest) → Reads n (x ∷ xs) (u ++ (v ++ rest)) rest
  one_read clear x xs n [] v rest enough f behind later =
      absurd (lc.not_empty (not-true _ (and_parts (not closed.may_be_empty) _ (and_parts (not closed.may_be_empty && not any.may_be_empty) _ (and_parts (closed.is_clear && any.is_clear) _ clear).1).0).0) x f)
  one_read clear x xs zero (t ∷ u) v rest enough f behind later = absurd (omega arith)
  one_read clear x xs (suc n) (t ∷ u) v rest enough f behind later =
      within-one n x xs (t ∷ (u ++ (v ++ rest))) (v ++ rest) rest (ap (λ (cs : List Class). is_in_any cs t.text) (sym g.starts) ∙ lc.first x t u f)
      (g.also (t ∷ (u ++ (v ++ rest))) (x, v ++ rest) (lc.read (and_parts closed.is_clear _ (and_parts (closed.is_clear && any.is_clear) _ clear).0).0 x (t ∷ u) (v ++ rest) f behind))
      (later n (omega (arith, length-append u v)))

  longer : (x : X) (ys : List X) (last : Option X) → and_last (x ∷ ys) last ≡ x ∷ and_last ys last
  longer x ys None = refl
  longer x ys (Some y) = refl

  list_read : (options closed any).is_clear ≡ true → (xs : List X) (last : Option X) (u v rest : List Token) → (many closed).spells xs u → (maybe any).spells last v
      → begins (options closed any).goes_on rest ≡ false → Reading xs last (u ++ v) rest
  unfolding Reading Reads
  list_read clear [] last u v rest f s behind n enough = subst (λ (w : List Token). many_within any.starts any.reads n ((w ++ v) ++ rest) ≡ Some (and_last [] last, rest)) (sym f) (last_read clear last v rest s behind n (subst (λ (w : List Token). length (w ++ v) ≤ n) f enough))
  list_read clear (x ∷ xs) last u v rest f s behind n enough =
      let all : (u ++ v) ++ rest ≡ f.front ++ ((f.back ++ v) ++ rest) =
      ap (λ (w : List Token). (w ++ v) ++ rest) f.is ∙ append_assoc (f.front ++ f.back) v rest ∙ append_assoc f.front f.back (v ++ rest) ∙ ap (λ (w : List Token). f.front ++ w) (sym (append_assoc f.back v rest)) in
      let tail : (many closed & maybe any).spells (xs, last) (f.back ++ v) = record { front = f.back; back = v; is = refl; first = f.second; second = s } in
      let size : length (f.front ++ (f.back ++ v)) ≤ n = subst (λ (w : List Token). length w ≤ n) (ap (λ (w : List Token). w ++ v) f.is ∙ append_assoc f.front f.back v) enough in
      subst (λ (ts : List Token). many_within any.starts any.reads n ts ≡ Some (and_last (x ∷ xs) last, rest)) (sym all)
      (subst (λ (l : List X). many_within any.starts any.reads n (f.front ++ ((f.back ++ v) ++ rest)) ≡ Some (l, rest)) (sym (longer x xs last))
      (one_read clear x (and_last xs last) n f.front (f.back ++ v) rest size f.first (ends_so clear xs last (f.back ++ v) rest tail behind)
      (λ m short. list_read clear xs last f.back v rest f.second s behind m short)))

  options-read : (options closed any).is_clear ≡ true → (xs : List X) (front rest : List Token) → list_is xs front → begins (options closed any).goes_on rest ≡ false → (options closed any).reads (front ++ rest) ≡ Some (xs, rest)
  unfolding list_is many_at Reading Reads
  options-read clear xs front rest s behind =
      let h = s.holds in
      subst (λ (l : List X). many_within any.starts any.reads (length (front ++ rest)) (front ++ rest) ≡ Some (l, rest)) s.is
      (subst (λ (w : List Token). many_within any.starts any.reads (length (front ++ rest)) (w ++ rest) ≡ Some (and_last s.parts.0 s.parts.1, rest)) (sym h.is)
      (list_read clear s.parts.0 s.parts.1 h.front h.back rest h.first h.second behind (length (front ++ rest))
      (subst (λ (w : List Token). length w ≤ length (front ++ rest)) h.is (omega (arith, length-append front rest)))))

  options-spelled : (ts : List Token) (xs : List X) (rest : List Token) → (options closed any).reads ts ≡ Some (xs, rest) → Stands (list_is xs) ts rest
  unfolding many_at
  options-spelled ts xs rest e = within-spelled (length ts) ts xs rest e

  options-first : (xs : List X) (t : Token) (ts : List Token) → list_is xs (t ∷ ts) → is_in_any any.starts t.text ≡ true
  unfolding list_is
  options-first xs t ts s =
      let w = seq-lawful (many closed) (maybe any) (many-lawful closed lc) (maybe-lawful any la) in
      both_starts t.text (w.first s.parts t ts s.holds)

  pub options-lawful : IsLawful (options closed any)
  unfolding list_is
  options-lawful = record { spelled = options-spelled; read = options-read; first = options-first; not_empty = λ never x s. absurd cc }

-- a value to which options are put
module _ {S X : Type 0} (start : Form S) (put : S → X → Option S) (closed any : Form X) (ls : IsLawful start) (lc : IsLawful closed) (la : IsLawful any) (g : Agree any.starts closed any) where
  whole : Form S
  whole = made_if (λ p. put_all put p.0 p.1) (start & options closed any)

  whole-lawful : IsLawful whole
  unfolding whole
  whole-lawful = made_if-lawful (λ p. put_all put p.0 p.1) (start & options closed any) (seq-lawful start (options closed any) ls (options-lawful closed any lc la g))

  abbrev put_pieces : S → Option (List X × List Token) → Option (S × List Token)
  put_pieces s o = o >>= λ p. put_all put s p.0 >>= λ t. Some (t, p.1)

  abbrev with_start : S → Option (List X × List Token) → Option ((S × List X) × List Token)
  with_start s o = o >>= λ y. Some ((s, y.0), y.1)

  abbrev put_to_start : Option ((S × List X) × List Token) → Option (S × List Token)
  put_to_start o = o >>= λ p. put_all put p.0.0 p.0.1 >>= λ t. Some (t, p.1)

  behind_pieces : (s : S) (o : Option (List X × List Token)) → put_pieces s o ≡ put_to_start (with_start s o)
  behind_pieces s None = refl
  behind_pieces s (Some p) = refl

  behind_start : (o : Option (S × List Token)) → (o >>= λ s. gathered_at put any.starts any.reads s.0 s.1) ≡ put_to_start (o >>= λ s. with_start s.0 (many_at any.starts any.reads s.1))
  unfolding gathered_at
  behind_start None = refl
  behind_start (Some s) = behind_pieces s.0 (many_at any.starts any.reads s.1)

  same_reads : (ts : List Token) → (with_options start put closed any).reads ts ≡ whole.reads ts
  unfolding whole
  same_reads ts = behind_start (start.reads ts)

  pub with_options-lawful : IsLawful (with_options start put closed any)
  unfolding whole
  with_options-lawful =
      let w = whole-lawful in
      record {
        spelled = λ ts x rest e. w.spelled ts x rest (sym (same_reads ts) ∙ e);
        read = λ clear x front rest s behind. same_reads (front ++ rest) ∙ w.read clear x front rest s behind;
        first = w.first;
        not_empty = w.not_empty;
      }
