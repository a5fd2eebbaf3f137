-- What a statement is read as is all that its tokens spell.
use Rattle.std.proofs.Common.{◌≡◌, ◌==◌, ◌<◌, Bool, true, false, ◌&&◌, not, List, [], ◌∷◌, ◌++◌, length, Some, Result, Ok, Err, refl, sym, ap, ◌∙◌, subst, append_assoc, append-nil, arith, length-append}
use Rattle.std.proofs.lemmas.Bool.{ne_eqb}
use Rattle.std.proofs.lemmas.Option.{same_Some, none-some}
use Rattle.token_forms.specs.Tokens.{Token}
use Rattle.base_types.specs.declared.stop.Stop.{Stop}
use Rattle.base_types.specs.declared.stop.Stop.TheVariants as stops
use Rattle.token_forms.specs.Parsing.{Gives}
use Rattle.token_forms.specs.Classes.{Class, all_apart, begins}
use Rattle.token_forms.specs.Forms.{Form, AreMany, many}
use Rattle.token_forms.proofs.Laws.{many-lawful}
use Rattle.token_forms.specs.Laws.{Stands, IsLawful, IsStatement, IsExactly, IsExactlyFirst, AreExactly}

module _ {X : Type 0} (f : Form X) (s : IsStatement f) where
  read_first : (ts rest : List Token) (x : X) → Stands (f.spells x) ts rest → f.reads ts ≡ Some (x, rest)
  read_first ts rest x u =
      let behind : begins f.goes_on rest ≡ false = ap (λ (cs : List _). begins cs rest) s.closed ∙ nothing rest in
      ap f.reads u.is ∙ s.lawful.read s.clear x u.front rest u.holds behind
    where
      nothing : (rest : List Token) → begins [] rest ≡ false
      nothing [] = refl
      nothing (t ∷ ts) = refl

  -- in the stream of tokens
  pub exactly_first : (r : Result X Stop) (ts rest : List Token) → Gives r rest (f.reads ts) → IsExactlyFirst r f ts rest
  exactly_first (Ok x) ts rest e =
      (s.lawful.spelled ts x rest e, λ y other u. let p = same_Some _ _ (sym (read_first ts other y u) ∙ e) in (ap (λ (q : X × List Token). q.0) p, ap (λ (q : X × List Token). q.1) p))
  exactly_first (Err stops.NoForm) ts rest e = λ y other u. none-some _ (sym e ∙ read_first ts other y u)
  exactly_first (Err stops.NoMemory) ts rest e = tt

  all_front : (x : X) (ts : List Token) → f.spells x ts → Stands (f.spells x) ts []
  all_front x ts h = record { front = ts; is = sym (append-nil ts); holds = h }

  -- all of some tokens
  pub exactly_all : (x : X) (ts rest : List Token) → rest ≡ [] → f.reads ts ≡ Some (x, rest) → IsExactly {X = X} (Ok x) f ts
  exactly_all x ts rest empty e =
      let u = s.lawful.spelled ts x rest e in
      let is : u.front ≡ ts = sym (append-nil u.front) ∙ ap (λ (r : List Token). u.front ++ r) (sym empty) ∙ sym u.is in
      (subst (f.spells x) is u.holds, λ y h. ap (λ (q : X × List Token). q.0) (same_Some _ _ (sym (read_first ts [] y (all_front y ts h)) ∙ e)))

  pub not_all : (x : X) (ts rest : List Token) → 0 < length rest → f.reads ts ≡ Some (x, rest) → (y : X) → f.spells y ts → ⊥
  not_all x ts rest more e y h =
      let p = same_Some _ _ (sym (read_first ts [] y (all_front y ts h)) ∙ e) in
      let none : [] ≡ rest = ap (λ (q : X × List Token). q.1) p in
      absurd (omega (arith, ap length none))

  pub not_read : (e : Stop) (ts rest : List Token) → Gives {X = X} (Err e) rest (f.reads ts) → IsExactly {X = X} (Err e) f ts
  not_read stops.NoForm ts rest e = λ y h. none-some _ (sym e ∙ read_first ts [] y (all_front y ts h))
  not_read stops.NoMemory ts rest e = tt

-- one value more
pub one_more_stands : {X : Type 0} (f : Form X) (x : X) (xs : List X) (ts middle rest : List Token) → Stands (AreMany f.spells xs) ts middle → Stands (f.spells x) middle rest → Stands (AreMany f.spells (xs ++ x ∷ [])) ts rest
one_more_stands {X} f x xs ts middle rest u v =
    record { front = u.front ++ v.front; is = u.is ∙ (ap (λ (r : List Token). u.front ++ r) v.is ∙ sym (append_assoc u.front v.front rest)); holds = more xs u.front u.holds }
  where
    more : (xs : List X) (us : List Token) → AreMany f.spells xs us → AreMany f.spells (xs ++ x ∷ []) (us ++ v.front)
    more [] us h = record { front = v.front; back = []; is = ap (λ (r : List Token). r ++ v.front) h ∙ sym (append-nil v.front); first = v.holds; second = refl }
    more (y ∷ ys) us h =
        record { front = h.front; back = h.back ++ v.front; is = ap (λ (r : List Token). r ++ v.front) h.is ∙ append_assoc h.front h.back v.front; first = h.first; second = more ys h.back h.second }

empty_is : (ts : List Token) → true ≡ (length ts == 0) → ts ≡ []
empty_is [] e = refl
empty_is (t ∷ ts) e = let n : (length (t ∷ ts) == 0) ≡ false = ne_eqb _ _ (λ z. absurd (omega arith)) in absurd cc

more_is : (ts : List Token) → false ≡ (length ts == 0) → 0 < length ts
more_is [] e = absurd cc
more_is (t ∷ ts) e = omega arith

module _ {X : Type 0} (f : Form X) (s : IsStatement f) (x : X) (ts rest : List Token) (read : f.reads ts ≡ Some (x, rest)) where
  pub is_all : (b : Bool) → b ≡ (length rest == 0) → b ≡ true → IsExactly {X = X} (Ok x) f ts
  is_all true e is = exactly_all f s x ts rest (empty_is rest e) read
  is_all false e is = absurd cc

  pub is_not_all : (b : Bool) → b ≡ (length rest == 0) → b ≡ false → (y : X) → f.spells y ts → ⊥
  is_not_all true e is = absurd cc
  is_not_all false e is = not_all f s x ts rest (more_is rest e) read

-- the values that stand before a token with which none begins
module _ {X : Type 0} (f : Form X) (s : IsStatement f) where
  many_clear : (cs : List Class) → cs ≡ [] → (m : Bool) → m ≡ false → f.is_clear ≡ true → (f.is_clear && (not m && all_apart cs f.starts)) ≡ true
  many_clear cs none m full clear = rw (none, full, clear)

  read_many : (ts rest : List Token) (xs : List X) → Stands (AreMany f.spells xs) ts rest → begins f.starts rest ≡ false → (many f).reads ts ≡ Some (xs, rest)
  read_many ts rest xs u none =
      let l = many-lawful f s.lawful in
      let behind : begins (f.goes_on ++ f.starts) rest ≡ false = ap (λ (cs : List Class). begins (cs ++ f.starts) rest) s.closed ∙ none in
      ap (many f).reads u.is ∙ l.read (many_clear f.goes_on s.closed f.may_be_empty s.full s.clear) xs u.front rest u.holds behind

  pub only_these : (ts rest : List Token) (xs : List X) → Stands (AreMany f.spells xs) ts rest → (b : Bool) → b ≡ begins f.starts rest → b ≡ false → AreExactly {X = X} (Ok xs) f ts rest
  only_these ts rest xs u true is none = absurd cc
  only_these ts rest xs u false is none = (
    u,
    sym is,
    λ ys other v end.
        let p = same_Some _ _ (sym (read_many ts other ys v end) ∙ read_many ts rest xs u (sym is)) in
        (ap (λ (q : List X × List Token). q.0) p, ap (λ (q : List X × List Token). q.1) p),
  )

-- what isn't empty takes a token at least
pub reads_shorter : {X : Type 0} (f : Form X) → IsLawful f → f.may_be_empty ≡ false → (ts : List Token) (x : X × List Token) → f.reads ts ≡ Some x → length x.1 < length ts
reads_shorter f l full ts x e = taken (l.spelled ts x.0 x.1 e)
  where
    counted : (front : List Token) → f.spells x.0 front → ts ≡ front ++ x.1 → length x.1 < length ts
    counted [] h is = absurd (l.not_empty full x.0 h)
    counted (t ∷ us) h is = let n = ap length is ∙ length-append (t ∷ us) x.1 in omega arith

    taken : Stands (f.spells x.0) ts x.1 → length x.1 < length ts
    taken u = counted u.front u.holds u.is
