-- A loop that reads values one behind the other: those in front, and what is still read.
use Rattle.std.proofs.Common.{◌≡◌, ℕ, zero, suc, ◌-◌, ◌<◌, ◌≤◌, Bool, true, false, if◌then◌else◌, List, [], ◌∷◌, ◌++◌, length, Option, Some, None, Err, refl, sym, ap, ◌∙◌, append_assoc, append-nil, arith}
use Rattle.token_forms.specs.Tokens.{Token}
use Rattle.base_types.specs.declared.stop.Stop.{Stop}
use Rattle.base_types.specs.declared.stop.Stop.TheVariants as stops
use Rattle.token_forms.specs.Parsing.{◌>>=◌, Gives, GivesAll}
use Rattle.token_forms.specs.Classes.{Class, begins}
use Rattle.token_forms.specs.Forms.{many_within, many_at, put_all, gathered_at}

abbrev pub with_front : {X : Type 0} → List X → Option (List X × List Token) → Option (List X × List Token)
with_front front read = read >>= λ x. Some (front ++ x.0, x.1)

-- the values so far, the tokens that are left, and what the whole is read as
pub record SoFar {X : Type 0} (starts : List Class) (reads : List Token → Option (X × List Token)) (front : List X) (ts : List Token) (total : Option (List X × List Token)) : Type 0 where
  pub fuel : ℕ
  pub enough : length ts ≤ fuel
  pub same : with_front front (many_within starts reads fuel ts) ≡ total

front_more : {X : Type 0} (front : List X) (x : X) (read : Option (List X × List Token)) → with_front front (read >>= λ y. Some (x ∷ y.0, y.1)) ≡ with_front (front ++ x ∷ []) read
front_more front x (Some y) = ap (λ (xs : List _). Some (xs, y.1)) (sym (append_assoc front (x ∷ []) y.0))
front_more front x None = refl

module _ {X : Type 0} (starts : List Class) (reads : List Token → Option (X × List Token)) where
  pub begins_many : (front : List X) (ts : List Token) → SoFar starts reads front ts (with_front front (many_at starts reads ts))
  unfolding many_at
  begins_many front ts = record { fuel = length ts; enough = omega arith; same = refl }

  module _ (front : List X) (ts : List Token) (total : Option (List X × List Token)) where
    turn : (n : ℕ) (x : X) (rest : List Token) → begins starts ts ≡ true → reads ts ≡ Some (x, rest)
        → with_front front (many_within starts reads (suc n) ts) ≡ with_front (front ++ x ∷ []) (many_within starts reads n rest)
    unfolding many_within
    turn n x rest here read = rw (here, read) (front_more front x (many_within starts reads n rest))

    pub goes_on_many : (x : X) (rest : List Token) → begins starts ts ≡ true → reads ts ≡ Some (x, rest) → length rest < length ts
        → SoFar starts reads front ts total → SoFar starts reads (front ++ x ∷ []) rest total
    goes_on_many x rest here read shorter s =
        let n = s.fuel - 1 in
        let k : s.fuel ≡ suc n = omega (arith, s.enough) in
        let one = ap (λ (f : ℕ). with_front front (many_within starts reads f ts)) k ∙ turn n x rest here read in
        record { fuel = n; enough = omega (arith, s.enough); same = sym one ∙ s.same }

    last : (n : ℕ) → begins starts ts ≡ false → with_front front (many_within starts reads n ts) ≡ Some (front, ts)
    unfolding many_within
    last zero none = rw none (ap (λ (xs : List X). Some (xs, ts)) (append-nil front))
    last (suc n) none = rw none (ap (λ (xs : List X). Some (xs, ts)) (append-nil front))

    pub ends_many : begins starts ts ≡ false → SoFar starts reads front ts total → total ≡ Some (front, ts)
    ends_many none s = sym s.same ∙ last s.fuel none

    none_within : (n : ℕ) → begins starts ts ≡ true → reads ts ≡ None → many_within starts reads n ts ≡ None
    unfolding many_within
    none_within zero here read = rw here
    none_within (suc n) here read = rw (here, read)

    pub stops_many : (e : Stop) (rest rest' : List Token) → begins starts ts ≡ true → Gives {X = X} (Err e) rest (reads ts) → SoFar starts reads front ts total → Gives {X = List X} (Err e) rest' total
    stops_many stops.NoForm rest rest' here read s = sym s.same ∙ ap (with_front front) (none_within s.fuel here read)
    stops_many stops.NoMemory rest rest' here read s = tt

-- no value stands there, or the first is of no form
module _ {X : Type 0} (starts : List Class) (reads : List Token → Option (X × List Token)) (ts : List Token) where
  none_more : (n : ℕ) → begins starts ts ≡ false → many_within starts reads n ts ≡ Some ([], ts)
  unfolding many_within
  none_more zero none = rw none
  none_more (suc n) none = rw none

  pub no_more : begins starts ts ≡ false → many_at starts reads ts ≡ Some ([], ts)
  unfolding many_at
  no_more none = none_more (length ts) none

  none_first : (n : ℕ) → begins starts ts ≡ true → reads ts ≡ None → many_within starts reads n ts ≡ None
  unfolding many_within
  none_first zero here read = rw here
  none_first (suc n) here read = rw (here, read)

  pub stops_first : (e : Stop) (rest rest' : List Token) → begins starts ts ≡ true → Gives {X = X} (Err e) rest (reads ts) → Gives {X = List X} (Err e) rest' (many_at starts reads ts)
  unfolding many_at
  stops_first stops.NoForm rest rest' here read = none_first (length ts) here read
  stops_first stops.NoMemory rest rest' here read = tt

-- where each value takes a token at least, more turns than tokens change nothing
module _ {X : Type 0} (starts : List Class) (reads : List Token → Option (X × List Token)) (short : (ts : List Token) (x : X × List Token) → reads ts ≡ Some x → length x.1 < length ts) where
  abbrev turn_of : Bool → Option (X × List Token) → (X × List Token → Option (List X × List Token)) → List Token → Option (List X × List Token)
  turn_of here read later ts = if here then (read >>= λ x. later x >>= λ xs. Some (x.0 ∷ xs.0, xs.1)) else Some ([], ts)

  same_turn : (here : Bool) (read : Option (X × List Token)) (f g : X × List Token → Option (List X × List Token)) (ts : List Token) → ((x : X × List Token) → read ≡ Some x → f x ≡ g x) → turn_of here read f ts ≡ turn_of here read g ts
  same_turn false read f g ts same = refl
  same_turn true None f g ts same = refl
  same_turn true (Some x) f g ts same = ap (λ (o : Option (List X × List Token)). o >>= λ xs. Some (x.0 ∷ xs.0, xs.1)) (same x refl)

  pub same_fuel : (n m : ℕ) (ts : List Token) → length ts ≤ n → length ts ≤ m → many_within starts reads n ts ≡ many_within starts reads m ts
  unfolding many_within
  same_fuel zero zero ts a b = refl
  same_fuel zero (suc m) [] a b = refl
  same_fuel zero (suc m) (t ∷ ts) a b = absurd (omega arith)
  same_fuel (suc n) zero [] a b = refl
  same_fuel (suc n) zero (t ∷ ts) a b = absurd (omega arith)
  same_fuel (suc n) (suc m) ts a b =
      same_turn (begins starts ts) (reads ts) (λ x. many_within starts reads n x.1) (λ x. many_within starts reads m x.1) ts
      (λ x e. let less = short ts x e in same_fuel n m x.1 (omega arith) (omega arith))

  front_none : (o : Option (List X × List Token)) → with_front [] o ≡ o
  front_none None = refl
  front_none (Some x) = refl

  -- a first value, and those behind it
  pub first_many : (ts rest : List Token) (x : X) → begins starts ts ≡ true → reads ts ≡ Some (x, rest) → many_at starts reads ts ≡ with_front (x ∷ []) (many_at starts reads rest)
  unfolding many_at
  first_many ts rest x here read =
      let s = goes_on_many starts reads [] ts (with_front [] (many_within starts reads (length ts) ts)) x rest here read (short ts (x, rest) read) (begins_many starts reads [] ts) in
      sym (front_none (many_within starts reads (length ts) ts)) ∙ sym s.same ∙ ap (with_front (x ∷ [])) (same_fuel s.fuel (length rest) rest s.enough (omega arith))

-- a loop that puts pieces to a value
module _ {S X : Type 0} (put : S → X → Option S) (starts : List Class) (reads : List Token → Option (X × List Token)) where
  abbrev pub with_put : S → Option (List X × List Token) → Option (S × List Token)
  with_put s o = o >>= λ p. put_all put s p.0 >>= λ t. Some (t, p.1)

  abbrev with_first : X → Option (List X × List Token) → Option (List X × List Token)
  with_first x o = o >>= λ q. Some (x ∷ q.0, q.1)

  abbrev pub put_behind : ℕ → S → List Token → Option (S × List Token)
  put_behind n s ts = with_put s (many_within starts reads n ts)

  -- the value so far, the tokens that are left, and what the whole is read as
  pub record PutSoFar (s : S) (ts : List Token) (total : Option (S × List Token)) : Type 0 where
    pub fuel : ℕ
    pub enough : length ts ≤ fuel
    pub same : put_behind fuel s ts ≡ total

  pub begins_put : (s : S) (ts : List Token) → PutSoFar s ts (gathered_at put starts reads s ts)
  unfolding gathered_at many_at
  begins_put s ts = record { fuel = length ts; enough = omega arith; same = refl }

  put_more : (s t : S) (x : X) (o : Option (List X × List Token)) → put s x ≡ Some t
      → with_put s (with_first x o) ≡ with_put t o
  unfolding put_all
  put_more s t x None is = refl
  put_more s t x (Some q) is = rw is

  put_none : (s : S) (x : X) (o : Option (List X × List Token)) → put s x ≡ None → with_put s (with_first x o) ≡ None
  unfolding put_all
  put_none s x None is = refl
  put_none s x (Some q) is = rw is

  module _ (s : S) (ts : List Token) (total : Option (S × List Token)) where
    put_turn : (n : ℕ) (x : X) (t : S) (rest : List Token) → begins starts ts ≡ true → reads ts ≡ Some (x, rest) → put s x ≡ Some t → put_behind (suc n) s ts ≡ put_behind n t rest
    unfolding many_within
    put_turn n x t rest here read is = rw (here, read) (put_more s t x (many_within starts reads n rest) is)

    pub goes_on_put : (x : X) (t : S) (rest : List Token) → begins starts ts ≡ true → reads ts ≡ Some (x, rest) → put s x ≡ Some t → length rest < length ts → PutSoFar s ts total → PutSoFar t rest total
    goes_on_put x t rest here read is shorter f =
        let n = f.fuel - 1 in
        let k : f.fuel ≡ suc n = omega (arith, f.enough) in
        let one = ap (λ (n : ℕ). put_behind n s ts) k ∙ put_turn n x t rest here read is in
        record { fuel = n; enough = omega (arith, f.enough); same = sym one ∙ f.same }

    put_last : (n : ℕ) → begins starts ts ≡ false → put_behind n s ts ≡ Some (s, ts)
    unfolding many_within put_all
    put_last zero none = rw none
    put_last (suc n) none = rw none

    pub ends_put : begins starts ts ≡ false → PutSoFar s ts total → total ≡ Some (s, ts)
    ends_put none f = sym f.same ∙ put_last f.fuel none

    unread_within : (n : ℕ) → begins starts ts ≡ true → reads ts ≡ None → put_behind n s ts ≡ None
    unfolding many_within
    unread_within zero here read = rw here
    unread_within (suc n) here read = rw (here, read)

    refused_within : (n : ℕ) (x : X) (rest : List Token) → begins starts ts ≡ true → reads ts ≡ Some (x, rest) → put s x ≡ None → put_behind n s ts ≡ None
    unfolding many_within
    refused_within zero x rest here read is = rw here
    refused_within (suc n) x rest here read is = rw (here, read) (put_none s x (many_within starts reads n rest) is)

    pub stops_put : (e : Stop) (rest rest' : List Token) → begins starts ts ≡ true → Gives {X = X} (Err e) rest (reads ts) → PutSoFar s ts total → Gives {X = S} (Err e) rest' total
    stops_put stops.NoForm rest rest' here read f = sym f.same ∙ unread_within f.fuel here read
    stops_put stops.NoMemory rest rest' here read f = tt

    pub refuses_put : (e : Stop) (x : X) (rest rest' : List Token) → begins starts ts ≡ true → reads ts ≡ Some (x, rest) → GivesAll {X = S} (Err e) (put s x) → PutSoFar s ts total → Gives {X = S} (Err e) rest' total
    refuses_put stops.NoForm x rest rest' here read is f = sym f.same ∙ refused_within f.fuel x rest here read is
    refuses_put stops.NoMemory x rest rest' here read is f = tt
