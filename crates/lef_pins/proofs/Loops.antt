-- A loop over a block's items gathers what all its items give.
use Rattle.std.proofs.Common.{◌≡◌, ℕ, suc, ◌<◌, ◌≤◌, ◌==◌, Bool, true, false, ◌||◌, not, List, [], ◌∷◌, length, refl, sym, ap, ◌∙◌, arith}
use Rattle.std.proofs.lemmas.Bool.Decides.{nat_tests}
use Rattle.std.proofs.lemmas.Bool.{not-true, not-false}
use Rattle.token_forms.specs.Tokens.{Token}
use Rattle.lef_pins.specs.BlockReading.{Taken, items_within, found_at}
use Rattle.lef_pins.specs.Blocks.{Kind, ends_never}
use Rattle.lef_pins.specs.Reading.{gathered, goes_on}
use Rattle.lef_pins.proofs.Trees.{Reads, IsSame, found, ended, gone_on, items_only}

-- the first item, and those behind it
pub record IsNext {I : Type 0} (ends : List Token → Bool) (item : List Token → Taken I) (ts : List Token) : Type 0 where
  pub items : (found_at ends item ts).0 ≡ (item ts).0 ∷ (found_at ends item (item ts).1).0
  pub end : (found_at ends item ts).1 ≡ (found_at ends item (item ts).1).1
  pub less : length (item ts).1 < length ts

-- no item is left
pub record IsEnd {I : Type 0} (ends : List Token → Bool) (item : List Token → Taken I) (ts : List Token) : Type 0 where
  pub items : (found_at ends item ts).0 ≡ []
  pub end : (found_at ends item ts).1 ≡ ts

-- what is gathered so far, with what is left, is what is gathered of all
pub record Kept {S I : Type 0} (ends : List Token → Bool) (item : List Token → Taken I) (put : S → I → S) (state start : S) (left all : List Token) : Type 0 where
  pub same : gathered put state (found_at ends item left).0 ≡ gathered put start (found_at ends item all).0
  pub end : (found_at ends item left).1 ≡ (found_at ends item all).1

-- all is gathered
pub record Gathered {S I : Type 0} (ends : List Token → Bool) (item : List Token → Taken I) (put : S → I → S) (state start : S) (left all : List Token) : Type 0 where
  pub same : state ≡ gathered put start (found_at ends item all).0
  pub end : left ≡ (found_at ends item all).1

some : (n : ℕ) → (suc n == 0) ≡ false
some n = grind (arith, nat_tests)

goes : {ends : Bool} (n : ℕ) → not (suc n == 0 || ends) ≡ true → ends ≡ false
goes {ends} n e = not-true ends (sym (ap (λ (b : Bool). not (b || ends)) (some n)) ∙ e)

stops : {ends : Bool} (n : ℕ) → not (suc n == 0 || ends) ≡ false → ends ≡ true
stops {ends} n e = not-false ends (sym (ap (λ (b : Bool). not (b || ends)) (some n)) ∙ e)

module _ {I : Type 0} (ends : List Token → Bool) (kind : Kind I) (item : List Token → Taken I) (reads : Reads ends kind item) where
  -- the items don't hang on how many may be found
  enough : (n : ℕ) (ts : List Token) → length ts ≤ n → IsSame (items_within n ends item ts) (found_at ends item ts).0 (found_at ends item ts).1
  enough n ts short =
      let all = found ends kind item reads (length ts) ts (omega arith) in
      items_only ends kind item reads n ts (found_at ends item ts).0 (found_at ends item ts).1 short all.whole all.are all.stops

  behind : (t : Token) (ts : List Token) → ends (t ∷ ts) ≡ false → IsNext ends item (t ∷ ts)
  behind t ts e =
      let less = (reads.takes t ts e).less in
      let rest = enough (length ts) (item (t ∷ ts)).1 (omega arith) in
      let more = gone_on ends kind item reads (length ts) t ts e in
      record {
        items = ap (λ (x : Taken (List I)). x.0) more ∙ ap (λ (x : List I). (item (t ∷ ts)).0 ∷ x) (sym rest.item);
        end = ap (λ (x : Taken (List I)). x.1) more ∙ sym rest.behind;
        less = less;
      }

  pub next : (ts : List Token) → goes_on ends ts ≡ true → IsNext ends item ts
  unfolding goes_on
  next [] e = absurd cc
  next (t ∷ ts) e = behind t ts (goes (length ts) e)

  pub at_end : (ts : List Token) → goes_on ends ts ≡ false → IsEnd ends item ts
  unfolding goes_on items_within
  at_end [] e = record { items = refl; end = refl }
  at_end (t ∷ ts) e =
      let none = ended ends kind item reads (length ts) t ts (stops (length ts) e) in
      record { items = ap (λ (x : Taken (List I)). x.0) none; end = ap (λ (x : Taken (List I)). x.1) none }

  -- fewer tokens are left
  pub fewer : (left behind : List Token) → goes_on ends left ≡ true → behind ≡ (item left).1 → length behind < length left
  fewer left behind e rest = let less = (next left e).less in rw rest less

  module _ {S : Type 0} (put : S → I → S) where
    pub one_more : (state new start : S) (left behind all : List Token) → goes_on ends left ≡ true → new ≡ put state (item left).0 → behind ≡ (item left).1
        → Kept ends item put state start left all → Kept ends item put new start behind all
    one_more state new start left behind all e is rest kept =
        let first = next left e in
        record {
          same = ap (λ (s : S). gathered put s (found_at ends item behind).0) is ∙ ap (λ (ts : List Token). gathered put (put state (item left).0) (found_at ends item ts).0) rest
              ∙ sym (ap (gathered put state) first.items) ∙ kept.same;
          end = ap (λ (ts : List Token). (found_at ends item ts).1) rest ∙ sym first.end ∙ kept.end;
        }

    pub all_done : (state start : S) (left all : List Token) → goes_on ends left ≡ false → Kept ends item put state start left all → Gathered ends item put state start left all
    all_done state start left all e kept =
        let none = at_end left e in
        record { same = sym (ap (gathered put state) none.items) ∙ kept.same; end = sym none.end ∙ kept.end }

-- a file goes on as long as tokens are left
pub file_goes_on : (ts : List Token) → 0 < length ts → goes_on ends_never ts ≡ true
unfolding goes_on
file_goes_on [] e = absurd (omega arith)
file_goes_on (t ∷ ts) e = ap (λ (b : Bool). not (b || false)) (some (length ts))

pub file_stops : (ts : List Token) → length ts ≡ 0 → goes_on ends_never ts ≡ false
unfolding goes_on
file_stops [] e = refl
file_stops (t ∷ ts) e = absurd (omega arith)
