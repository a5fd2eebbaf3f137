-- Each LEF has the blocks that lef_at finds, and no others.
use Rattle.std.proofs.Common.{◌≡◌, ℕ, zero, suc, ◌+◌, ◌<◌, ◌≤◌, ◌==◌, Bool, true, false, ◌&&◌, not, cond, min, List, [], ◌∷◌, ◌++◌, length, take, drop, inl, inr, refl, sym, ap, ◌∙◌, subst, arith, append_assoc, length-append, length-drop, codes}
use Rattle.std.specs.Prelude.{◌⊎◌}
use Rattle.std.specs.List.{flat_map}
use Rattle.std.specs.Str.{bytes_eq}
use Rattle.std.proofs.Math.Seq.{take-append_seam, drop-append_seam}
use Rattle.std.proofs.lemmas.Bool.{cond_both}
use Rattle.std.proofs.lemmas.List.{append-nil, take-append-drop, length-take-le}
use Rattle.base_types.proofs.TruthValues.{and_false, bytes_are}
use Rattle.token_forms.specs.Tokens.{Token}
use Rattle.def_tokens.proofs.DefCuts.{statement_len-some, statement_len-le}
use Rattle.lef_pins.specs.BlockReading.{outer_len, Taken, items_within, end_at, block_at, inner_at, pin_item_at, pin_at, macro_item_at, macro_at, file_item_at, lef_at, LefLaw, OnlyLefLaw}
use Rattle.lef_pins.specs.Blocks.{name_of, is_no_name, begins_with, begins_shapes, inner_len, Kind, Block, PinItem, Port, OfPin, MacroItem, Pin, Shapes, OfMacro, FileItem, Macro, Passed, tokens_within, AreItems, IsBlock, ends_shapes, ends_named, ends_never, IsInner, statements, is_port, is_shapes, begins_named, IsPinItem, pin_items, IsMacroItem, macro_items, IsFileItem, file_items, OneLefLaw}
use Rattle.lef_pins.proofs.OuterLaws.{passed_front, passed_len}

-- an item of the kind stands at the front of some tokens, and fewer are behind it
pub record IsTaken {I : Type 0} (kind : Kind I) (x : Taken I) (ts : List Token) : Type 0 where
  pub whole : ts ≡ kind.tokens x.0 ++ x.1
  pub is : kind.Is x.0 x.1
  pub less : length x.1 < length ts

-- this is the item and these are the tokens behind it
pub record IsSame {X : Type 0} (x : Taken X) (i : X) (rest : List Token) : Type 0 where
  pub item : i ≡ x.0
  pub behind : rest ≡ x.1

-- where a block goes on, the item at the front is found, and no other stands there; each item has a token
pub record Reads {I : Type 0} (ends : List Token → Bool) (kind : Kind I) (item : List Token → Taken I) : Type 0 where
  pub takes : (t : Token) (ts : List Token) → ends (t ∷ ts) ≡ false → IsTaken kind (item (t ∷ ts)) (t ∷ ts)
  pub only : (t : Token) (ts : List Token) (i : I) (rest : List Token) → t ∷ ts ≡ kind.tokens i ++ rest → kind.Is i rest → IsSame (item (t ∷ ts)) i rest
  pub some : (i : I) (rest : List Token) → kind.Is i rest → 0 < length (kind.tokens i)

-- the END of a block has n tokens, which tell it
record IsEnding (ends : List Token → Bool) (n : ℕ) : Type 0 where
  none : ends [] ≡ false
  front : (ts : List Token) → ends ts ≡ true → (ends (take n ts) ≡ true) × (length (take n ts) ≡ n)
  some : 0 < n
  whole : (end rest : List Token) → ends end ≡ true → ends (end ++ rest) ≡ true

-- the END of a block, or none where nothing is left
record IsCut (ends : List Token → Bool) (n : ℕ) (ts : List Token) : Type 0 where
  whole : ts ≡ end_at ends n ts ++ drop n ts
  closed : ((ends (end_at ends n ts) ≡ true) × (length (end_at ends n ts) ≡ n)) ⊎ ((end_at ends n ts ≡ []) × (drop n ts ≡ []))

none_behind : (n : ℕ) → drop {A = Token} n [] ≡ []
none_behind zero = refl
none_behind (suc n) = refl

module _ (ends : List Token → Bool) (n : ℕ) (ending : IsEnding ends n) where
  no_end : end_at ends n [] ≡ []
  no_end = rw ending.none refl

  an_end : (ts : List Token) → ends ts ≡ true → end_at ends n ts ≡ take n ts
  an_end ts e = rw e refl

  cut_at : (ts : List Token) → (ends ts ≡ true) ⊎ (ts ≡ []) → IsCut ends n ts
  cut_at ts stops =
      elim stops [
        | inl e ↦
            let k = an_end ts e in
            let f = ending.front ts e in
            record {
              whole = sym (take-append-drop n ts) ∙ ap (λ (l : List Token). l ++ drop n ts) (sym k);
              closed = inl (ap ends k ∙ f.0, ap length k ∙ f.1);
            }
        | inr none ↦
            subst (IsCut ends n) (sym none) (record {
              whole = sym (ap (λ (l : List Token). l ++ drop n []) no_end ∙ none_behind n);
              closed = inr (no_end, none_behind n);
            })
      ]

  -- this is the END, and these are the tokens behind it
  record IsEndOf (end rest : List Token) : Type 0 where
    end_is : end ≡ end_at ends n (end ++ rest)
    rest_is : rest ≡ drop n (end ++ rest)
    stops : (ends (end ++ rest) ≡ true) ⊎ (end ++ rest ≡ [])

  end_of : (end rest : List Token) → ((ends end ≡ true) × (length end ≡ n)) ⊎ ((end ≡ []) × (rest ≡ [])) → IsEndOf end rest
  end_of end rest closed =
      elim closed [
        | inl c ↦
            let all = ending.whole end rest c.0 in
            record {
              end_is = sym (an_end (end ++ rest) all ∙ ap (λ (k : ℕ). take k (end ++ rest)) (sym c.1) ∙ take-append_seam end rest);
              rest_is = sym (ap (λ (k : ℕ). drop k (end ++ rest)) (sym c.1) ∙ drop-append_seam end rest);
              stops = inl all;
            }
        | inr c ↦
            let none : end ++ rest ≡ [] = ap (λ (l : List Token). l ++ rest) c.0 ∙ c.1 in
            record {
              end_is = c.0 ∙ sym no_end ∙ ap (end_at ends n) (sym none);
              rest_is = c.1 ∙ sym (none_behind n) ∙ ap (λ (l : List Token). drop n l) (sym none);
              stops = inr none;
            }
      ]

module _ {I : Type 0} (ends : List Token → Bool) (kind : Kind I) (item : List Token → Taken I) (reads : Reads ends kind item) where
  -- the items up to the end, and no more tokens behind them than before
  pub record Found (x : Taken (List I)) (ts : List Token) : Type 0 where
    pub whole : ts ≡ flat_map kind.tokens x.0 ++ x.1
    pub are : AreItems kind ends x.0 x.1
    pub stops : (ends x.1 ≡ true) ⊎ (x.1 ≡ [])
    pub less : length x.1 ≤ length ts

  one_more : (ts : List Token) (x : Taken I) (y : Taken (List I)) → ends ts ≡ false → IsTaken kind x ts → Found y x.1 → Found (x.0 ∷ y.0, y.1) ts
  one_more ts x y e first more =
      let shorter = first.less in
      let rest = more.less in
      let cut : ts ≡ kind.tokens x.0 ++ (flat_map kind.tokens y.0 ++ y.1) = first.whole ∙ ap (λ (l : List Token). kind.tokens x.0 ++ l) more.whole in
      record {
        whole = cut ∙ sym (append_assoc (kind.tokens x.0) (flat_map kind.tokens y.0) y.1);
        are = (subst (kind.Is x.0) more.whole first.is, subst (λ (l : List Token). ends l ≡ false) cut e, more.are);
        stops = more.stops;
        less = omega arith;
      }

  pub found : (n : ℕ) (ts : List Token) → length ts ≤ n → Found (items_within n ends item ts) ts
  unfolding items_within
  found zero [] short = record { whole = refl; are = tt; stops = inr refl; less = omega arith }
  found zero (t ∷ ts) short = absurd (omega arith)
  found (suc n) [] short = record { whole = refl; are = tt; stops = inr refl; less = omega arith }
  found (suc n) (t ∷ ts) short =
      cond_both (ends (t ∷ ts)) ([], t ∷ ts) ((item (t ∷ ts)).0 ∷ (items_within n ends item (item (t ∷ ts)).1).0, (items_within n ends item (item (t ∷ ts)).1).1)
      (λ (x : Taken (List I)). Found x (t ∷ ts)) (λ e. record { whole = refl; are = tt; stops = inl e; less = omega arith })
      (λ e.
      let first = reads.takes t ts e in
      let shorter = first.less in
      one_more (t ∷ ts) (item (t ∷ ts)) (items_within n ends item (item (t ∷ ts)).1) e first (found n (item (t ∷ ts)).1 (omega arith)))

  pub ended : (n : ℕ) (t : Token) (ts : List Token) → ends (t ∷ ts) ≡ true → items_within (suc n) ends item (t ∷ ts) ≡ ([], t ∷ ts)
  unfolding items_within
  ended n t ts e = rw e refl

  pub gone_on : (n : ℕ) (t : Token) (ts : List Token) → ends (t ∷ ts) ≡ false
      → items_within (suc n) ends item (t ∷ ts) ≡ ((item (t ∷ ts)).0 ∷ (items_within n ends item (item (t ∷ ts)).1).0, (items_within n ends item (item (t ∷ ts)).1).1)
  unfolding items_within
  gone_on n t ts e = rw e refl

  at : {X : Type 0} (x y : Taken X) (i : X) (rest : List Token) → x ≡ y → IsSame y i rest → IsSame x i rest
  at {X} x y i rest e same = subst (λ (z : Taken X). IsSame z i rest) (sym e) same

  none_there : (i : I) (is : List I) (rest : List Token) → [] ≡ (kind.tokens i ++ flat_map kind.tokens is) ++ rest → 0 < length (kind.tokens i) → ⊥
  none_there i is rest whole some =
      let all = ap (length {A = Token}) whole in
      let outer = length-append (kind.tokens i ++ flat_map kind.tokens is) rest in
      let inner = length-append (kind.tokens i) (flat_map kind.tokens is) in
      omega arith

  pub items_only : (n : ℕ) (ts : List Token) (is : List I) (rest : List Token) → length ts ≤ n → ts ≡ flat_map kind.tokens is ++ rest → AreItems kind ends is rest
      → (ends rest ≡ true) ⊎ (rest ≡ []) → IsSame (items_within n ends item ts) is rest
  unfolding items_within
  items_only zero [] [] rest short whole are stops = record { item = refl; behind = sym whole }
  items_only (suc n) [] [] rest short whole are stops = record { item = refl; behind = sym whole }
  items_only zero (t ∷ ts) is rest short whole are stops = absurd (omega arith)
  items_only n [] (i ∷ is) rest short whole are stops = absurd (none_there i is rest whole (reads.some i (flat_map kind.tokens is ++ rest) are.0))
  items_only (suc n) (t ∷ ts) [] rest short whole are stops =
      elim stops [
        | inl e ↦ at _ _ [] rest (ended n t ts (ap ends whole ∙ e)) (record { item = refl; behind = sym whole })
        | inr none ↦ let no_token : t ∷ ts ≡ [] = whole ∙ none in absurd cc
      ]
  items_only (suc n) (t ∷ ts) (i ∷ is) rest short whole are stops =
      let cut : t ∷ ts ≡ kind.tokens i ++ (flat_map kind.tokens is ++ rest) = whole ∙ append_assoc (kind.tokens i) (flat_map kind.tokens is) rest in
      let goes : ends (t ∷ ts) ≡ false = ap ends cut ∙ are.1 in
      let first = reads.only t ts i (flat_map kind.tokens is ++ rest) cut are.0 in
      let shorter = (reads.takes t ts goes).less in
      let more = items_only n (item (t ∷ ts)).1 is rest (omega arith) (sym first.behind) are.2 stops in
      at _ _ (i ∷ is) rest (gone_on n t ts goes) (record { item = (λ k. first.item k ∷ more.item k); behind = more.behind })

  -- the block behind its mark
  block_less : (n : ℕ) (t : Token) (ts : List Token) → length (block_at ends n item t ts).1 ≤ length ts
  block_less n t ts =
      let less = (found (length ts) ts (omega arith)).less in
      let len = length-drop n (items_within (length ts) ends item ts).1 in
      omega arith

  module _ (n : ℕ) (ending : IsEnding ends n) where
    block_is : (t : Token) (ts : List Token) → IsBlock kind ends n (block_at ends n item t ts).0 (block_at ends n item t ts).1
    block_is t ts =
        let all = found (length ts) ts (omega arith) in
        let cut = cut_at ends n ending (items_within (length ts) ends item ts).1 all.stops in
        record { items = subst (AreItems kind ends (items_within (length ts) ends item ts).0) cut.whole all.are; closed = cut.closed }

    block_whole : (t : Token) (ts : List Token) → ts ≡ tokens_within kind.tokens (block_at ends n item t ts).0 ++ (block_at ends n item t ts).1
    block_whole t ts =
        let x = items_within (length ts) ends item ts in
        let all = found (length ts) ts (omega arith) in
        let cut = cut_at ends n ending x.1 all.stops in
        all.whole ∙ ap (λ (l : List Token). flat_map kind.tokens x.0 ++ l) cut.whole ∙ sym (append_assoc (flat_map kind.tokens x.0) (end_at ends n x.1) (drop n x.1))

    block_only : (t : Token) (ts : List Token) (b : Block I) (rest : List Token) → b.mark ≡ t → ts ≡ tokens_within kind.tokens b ++ rest → IsBlock kind ends n b rest → IsSame (block_at ends n item t ts) b rest
    block_only t ts b rest mark whole is =
        let end = end_of ends n ending b.end rest is.closed in
        let same = items_only (length ts) ts b.items (b.end ++ rest) (omega arith) (whole ∙ append_assoc (flat_map kind.tokens b.items) b.end rest) is.items end.stops in
        let last = end.end_is ∙ ap (end_at ends n) same.behind in
        record { item = (λ k. record { mark = mark k; items = same.item k; end = last k }); behind = end.rest_is ∙ ap (λ (x : List Token). drop n x) same.behind }

-- END alone
shapes_front : (ts : List Token) → ends_shapes ts ≡ true → (ends_shapes (take 1 ts) ≡ true) × (length (take 1 ts) ≡ 1)
shapes_front [] e = absurd cc
shapes_front (t ∷ ts) e = (e, refl)

shapes_whole : (end rest : List Token) → ends_shapes end ≡ true → ends_shapes (end ++ rest) ≡ true
shapes_whole [] rest e = absurd cc
shapes_whole (t ∷ end) rest e = e

shapes_ending : IsEnding ends_shapes 1
shapes_ending = record { none = refl; front = shapes_front; some = omega arith; whole = shapes_whole }

-- END and a name
named_front : (name : List ℕ) (ts : List Token) → ends_named name ts ≡ true → (ends_named name (take 2 ts) ≡ true) × (length (take 2 ts) ≡ 2)
named_front name [] e = absurd cc
named_front name (t ∷ []) e = let no = and_false (bytes_eq t.text (codes "END")) in absurd cc
named_front name (t ∷ n ∷ ts) e = (e, refl)

named_whole : (name : List ℕ) (end rest : List Token) → ends_named name end ≡ true → ends_named name (end ++ rest) ≡ true
named_whole name [] rest e = absurd cc
named_whole name (t ∷ []) rest e = let no = and_false (bytes_eq t.text (codes "END")) in absurd cc
named_whole name (t ∷ n ∷ end) rest e = e

named_ending : (name : List ℕ) → IsEnding (ends_named name) 2
named_ending name = record { none = refl; front = named_front name; some = omega arith; whole = named_whole name }

-- a block is closed where its END stands
pub shapes_closed : (ts : List Token) → not (length (end_at ends_shapes 1 ts) == 0) ≡ ends_shapes ts
shapes_closed [] = refl
shapes_closed (t ∷ ts) = by_end (bytes_eq t.text (codes "END")) refl
  where
    by_end : (b : Bool) → bytes_eq t.text (codes "END") ≡ b → not (length (end_at ends_shapes 1 (t ∷ ts)) == 0) ≡ ends_shapes (t ∷ ts)
    by_end true e = rw e refl
    by_end false e = rw e refl

pub named_closed : (name : List ℕ) (ts : List Token) → not (length (end_at (ends_named name) 2 ts) == 0) ≡ ends_named name ts
named_closed name ts = by_end (ends_named name ts) refl
  where
    by_end : (b : Bool) → ends_named name ts ≡ b → not (length (end_at (ends_named name) 2 ts) == 0) ≡ ends_named name ts
    by_end true e = let two = (named_front name ts e).1 in rw (an_end (ends_named name) 2 (named_ending name) ts e, two, e) refl
    by_end false e = rw e refl

-- some tokens at least
dropped : (n : ℕ) (t : Token) (ts : List Token) → 0 < n → length (drop n (t ∷ ts)) < length (t ∷ ts)
dropped n t ts some = let len = length-drop n (t ∷ ts) in omega arith

-- one token at least, and no more than there are
record IsLength (n all : ℕ) : Type 0 where
  some : 0 < n
  within : n ≤ all

either : (b : Bool) (m n all : ℕ) → IsLength m all → IsLength n all → IsLength (cond b m n) all
either true m n all h k = h
either false m n all h k = k

inner_len-is : (t : Token) (ts : List Token) → IsLength (inner_len (t ∷ ts)) (1 + length ts)
unfolding inner_len
inner_len-is t ts =
    let two : IsLength (min 2 (1 + length ts)) (1 + length ts) = record { some = omega arith; within = omega arith } in
    let one : IsLength 1 (1 + length ts) = record { some = omega arith; within = omega arith } in
    let le = statement_len-le (t ∷ ts) in
    either _ _ _ _ two (either _ _ _ _ one (record { some = statement_len-some t ts; within = omega arith }))

-- so many tokens at the front
front_some : (n : ℕ) (t : Token) (ts : List Token) → 0 < n → 0 < length (take n (t ∷ ts))
front_some zero t ts some = absurd (omega arith)
front_some (suc n) t ts some = omega arith

front_word : (w : List ℕ) (n : ℕ) (t : Token) (ts : List Token) → 0 < n → begins_with w (take n (t ∷ ts)) ≡ bytes_eq t.text w
front_word w zero t ts some = absurd (omega arith)
front_word w (suc n) t ts some = refl

front_shapes : (n : ℕ) (t : Token) (ts : List Token) → 0 < n → begins_shapes (take n (t ∷ ts)) ≡ is_shapes t.text
front_shapes zero t ts some = absurd (omega arith)
front_shapes (suc n) t ts some = refl

-- the first token of the front is the first of all
first_word : (w : List ℕ) (t : Token) (ts s rest : List Token) → t ∷ ts ≡ s ++ rest → 0 < length s → begins_with w s ≡ bytes_eq t.text w
first_word w t ts [] rest whole some = absurd (omega arith)
first_word w t ts (u ∷ s) rest whole some = let same : t ≡ u = cc in ap (λ (x : Token). bytes_eq x.text w) (sym same)

first_shapes : (t : Token) (ts s rest : List Token) → t ∷ ts ≡ s ++ rest → 0 < length s → begins_shapes s ≡ is_shapes t.text
first_shapes t ts [] rest whole some = absurd (omega arith)
first_shapes t ts (u ∷ s) rest whole some = let same : t ≡ u = cc in ap (λ (x : Token). is_shapes x.text) (sym same)

-- a front of so many tokens
cut_front : (n : ℕ) (t : Token) (ts s rest : List Token) → t ∷ ts ≡ s ++ rest → n ≡ length s → IsSame (take n (t ∷ ts), drop n (t ∷ ts)) s rest
cut_front n t ts s rest whole len =
    record {
      item = sym (ap (λ (k : ℕ). take k (t ∷ ts)) len ∙ ap (λ (l : List Token). take (length s) l) whole ∙ take-append_seam s rest);
      behind = sym (ap (λ (k : ℕ). drop k (t ∷ ts)) len ∙ ap (λ (l : List Token). drop (length s) l) whole ∙ drop-append_seam s rest);
    }

-- a statement
inner_takes : (t : Token) (ts : List Token) → IsTaken statements (inner_at (t ∷ ts)) (t ∷ ts)
inner_takes t ts =
    let n = inner_len-is t ts in
    let within = n.within in
    let all = take-append-drop (inner_len (t ∷ ts)) (t ∷ ts) in
    record {
      whole = sym all;
      is = (front_some (inner_len (t ∷ ts)) t ts n.some, ap inner_len all ∙ sym (length-take-le (inner_len (t ∷ ts)) (t ∷ ts) (omega arith)));
      less = dropped (inner_len (t ∷ ts)) t ts n.some;
    }

inner_only : (t : Token) (ts s rest : List Token) → t ∷ ts ≡ s ++ rest → IsInner s rest → IsSame (inner_at (t ∷ ts)) s rest
inner_only t ts s rest whole is = cut_front (inner_len (t ∷ ts)) t ts s rest whole (ap inner_len whole ∙ is.1)

pub inner_reads : (ends : List Token → Bool) → Reads ends statements inner_at
inner_reads ends = record { takes = λ t ts e. inner_takes t ts; only = inner_only; some = λ s rest is. is.0 }

-- a port, an OBS or a DENSITY
shapes_is : (t : Token) (ts : List Token) → IsBlock statements ends_shapes 1 (block_at ends_shapes 1 inner_at t ts).0 (block_at ends_shapes 1 inner_at t ts).1
shapes_is t ts = block_is ends_shapes statements inner_at (inner_reads ends_shapes) 1 shapes_ending t ts

shapes_all : (t : Token) (ts : List Token) → t ∷ ts ≡ (t ∷ tokens_within (λ s. s) (block_at ends_shapes 1 inner_at t ts).0) ++ (block_at ends_shapes 1 inner_at t ts).1
shapes_all t ts = ap (λ (l : List Token). t ∷ l) (block_whole ends_shapes statements inner_at (inner_reads ends_shapes) 1 shapes_ending t ts)

shapes_less : (t : Token) (ts : List Token) → length (block_at ends_shapes 1 inner_at t ts).1 < length (t ∷ ts)
shapes_less t ts = let less = block_less ends_shapes statements inner_at (inner_reads ends_shapes) 1 t ts in omega arith

shapes_only : (t : Token) (ts : List Token) (b : Block (List Token)) (rest : List Token) → t ∷ ts ≡ (b.mark ∷ tokens_within (λ s. s) b) ++ rest → IsBlock statements ends_shapes 1 b rest
    → IsSame (block_at ends_shapes 1 inner_at t ts) b rest
shapes_only t ts b rest whole is =
    let first : b.mark ≡ t = cc in
    let behind : ts ≡ tokens_within (λ s. s) b ++ rest = cc in
    block_only ends_shapes statements inner_at (inner_reads ends_shapes) 1 shapes_ending t ts b rest first behind is

-- the one or the other, as a test says
pick : {X : Type 0} (P : Taken X → Type 0) (b : Bool) (x y : Taken X) → (b ≡ true → P x) → (b ≡ false → P y) → P (cond b x y)
pick P true x y f g = f refl
pick P false x y f g = g refl

pin_item_takes : (t : Token) (ts : List Token) → IsTaken pin_items (pin_item_at (t ∷ ts)) (t ∷ ts)
unfolding pin_item_at
pin_item_takes t ts =
    let s = inner_takes t ts in
    pick (λ (x : Taken PinItem). IsTaken pin_items x (t ∷ ts)) (is_port t.text) _ _ (λ e. record { whole = shapes_all t ts; is = (e, shapes_is t ts); less = shapes_less t ts })
    (λ e. record { whole = s.whole; is = (front_word (codes "PORT") (inner_len (t ∷ ts)) t ts (inner_len-is t ts).some ∙ e, s.is); less = s.less })

pin_item_only : (t : Token) (ts : List Token) (i : PinItem) (rest : List Token) → t ∷ ts ≡ pin_items.tokens i ++ rest → IsPinItem i rest → IsSame (pin_item_at (t ∷ ts)) i rest
unfolding pin_item_at
pin_item_only t ts (Port b) rest whole is =
    let same = shapes_only t ts b rest whole is.1 in
    let first : t ≡ b.mark = cc in
    let word : is_port t.text ≡ true = ap (λ (x : Token). is_port x.text) first ∙ is.0 in
    pick (λ (x : Taken PinItem). IsSame x (Port b) rest) (is_port t.text) _ _ (λ e. record { item = ap (λ (x : Block (List Token)). Port x) same.item; behind = same.behind })
    (λ e. absurd cc)
pin_item_only t ts (OfPin s) rest whole is =
    let same = inner_only t ts s rest whole is.1 in
    let word : is_port t.text ≡ false = sym (first_word (codes "PORT") t ts s rest whole is.1.0) ∙ is.0 in
    pick (λ (x : Taken PinItem). IsSame x (OfPin s) rest) (is_port t.text) _ _ (λ e. absurd cc)
    (λ e. record { item = ap (λ (x : List Token). OfPin x) same.item; behind = same.behind })

pin_item_some : (i : PinItem) (rest : List Token) → IsPinItem i rest → 0 < length (pin_items.tokens i)
pin_item_some (Port b) rest is = omega arith
pin_item_some (OfPin s) rest is = is.1.0

pub pin_reads : (ends : List Token → Bool) → Reads ends pin_items pin_item_at
pin_reads ends = record { takes = λ t ts e. pin_item_takes t ts; only = pin_item_only; some = pin_item_some }

-- a pin or a macro, by its name
module _ {I : Type 0} (kind : Kind I) (item : List Token → Taken I) (reads : (ends : List Token → Bool) → Reads ends kind item) where
  named_is : (t n : Token) (ts : List Token) → IsBlock kind (ends_named (name_of n)) 2 (block_at (ends_named (name_of n)) 2 item t ts).0 (block_at (ends_named (name_of n)) 2 item t ts).1
  named_is t n ts = block_is (ends_named (name_of n)) kind item (reads (ends_named (name_of n))) 2 (named_ending (name_of n)) t ts

  named_all : (t n : Token) (ts : List Token)
      → t ∷ n ∷ ts ≡ (t ∷ n ∷ tokens_within kind.tokens (block_at (ends_named (name_of n)) 2 item t ts).0) ++ (block_at (ends_named (name_of n)) 2 item t ts).1
  named_all t n ts = ap (λ (l : List Token). t ∷ n ∷ l) (block_whole (ends_named (name_of n)) kind item (reads (ends_named (name_of n))) 2 (named_ending (name_of n)) t ts)

  named_less : (t n : Token) (ts : List Token) → length (block_at (ends_named (name_of n)) 2 item t ts).1 < length (t ∷ n ∷ ts)
  named_less t n ts = let less = block_less (ends_named (name_of n)) kind item (reads (ends_named (name_of n))) 2 t ts in omega arith

  named_only : (t n : Token) (ts : List Token) (name : Token) (b : Block I) (rest : List Token) → t ∷ n ∷ ts ≡ (b.mark ∷ name ∷ tokens_within kind.tokens b) ++ rest
      → IsBlock kind (ends_named (name_of name)) 2 b rest → IsSame (block_at (ends_named (name_of n)) 2 item t ts) b rest
  named_only t n ts name b rest whole is =
      let first : b.mark ≡ t = cc in
      let same : name ≡ n = cc in
      let behind : ts ≡ tokens_within kind.tokens b ++ rest = cc in
      block_only (ends_named (name_of n)) kind item (reads (ends_named (name_of n))) 2 (named_ending (name_of n)) t ts b rest first behind
      (subst (λ (x : Token). IsBlock kind (ends_named (name_of x)) 2 b rest) same is)

no_name : (w : List ℕ) (t : Token) (ts : List Token) → bytes_eq t.text w ≡ false → begins_named w (t ∷ ts) ≡ false
no_name w t [] e = refl
no_name w t (n ∷ ts) e = rw e refl

-- nor where a semicolon stands behind the word
no_semicolon : (w : List ℕ) (t n : Token) (ts : List Token) → is_no_name n ≡ true → begins_named w (t ∷ n ∷ ts) ≡ false
no_semicolon w t n ts e = rw e (and_false (bytes_eq t.text w))

a_name : (w : List ℕ) (t n : Token) (ts : List Token) → bytes_eq t.text w ≡ true → is_no_name n ≡ false → begins_named w (t ∷ n ∷ ts) ≡ true
a_name w t n ts e named = rw (e, named) refl

named_parts : (b none : Bool) → (b && not none) ≡ true → (b ≡ true) × (none ≡ false)
named_parts true true e = absurd cc
named_parts true false e = (refl, refl)
named_parts false none e = absurd cc

-- the word and the name of a named block
record IsNamed (w : List ℕ) (t n : Token) : Type 0 where
  word : bytes_eq t.text w ≡ true
  name : is_no_name n ≡ false

named_by : {I : Type 0} (tokens : I → List Token) (w : List ℕ) (t n : Token) (ts : List Token) (name : Token) (b : Block I) (rest : List Token) → t ∷ n ∷ ts ≡ (b.mark ∷ name ∷ tokens_within tokens b) ++ rest
    → begins_named w (b.mark ∷ name ∷ []) ≡ true → IsNamed w t n
named_by tokens w t n ts name b rest whole begins =
    let first : t ≡ b.mark = cc in
    let second : n ≡ name = cc in
    let both = named_parts (bytes_eq b.mark.text w) (is_no_name name) begins in
    record { word = ap (λ (x : Token). bytes_eq x.text w) first ∙ both.0; name = ap is_no_name second ∙ both.1 }

-- PIN is no word of shapes
pub pin_only : (w : List ℕ) → bytes_eq w (codes "PIN") ≡ true → is_shapes w ≡ false
pin_only w e = let same = bytes_are w (codes "PIN") e in subst (λ (x : List ℕ). is_shapes x ≡ false) (sym same) refl

-- a statement of a macro
macro_statement : (t : Token) (ts : List Token) → begins_named (codes "PIN") (t ∷ ts) ≡ false → is_shapes t.text ≡ false → IsTaken macro_items (OfMacro (inner_at (t ∷ ts)).0, (inner_at (t ∷ ts)).1) (t ∷ ts)
macro_statement t ts no_pin no_shapes =
    let s = inner_takes t ts in
    record {
      whole = s.whole;
      is = (ap (begins_named (codes "PIN")) (sym s.whole) ∙ no_pin, front_shapes (inner_len (t ∷ ts)) t ts (inner_len-is t ts).some ∙ no_shapes, s.is);
      less = s.less;
    }

pin_takes : (t : Token) (ts : List Token) → bytes_eq t.text (codes "PIN") ≡ true → IsTaken macro_items (pin_at t ts) (t ∷ ts)
pin_takes t [] e = macro_statement t [] refl (pin_only t.text e)
pin_takes t (n ∷ ts) e =
    pick (λ (x : Taken MacroItem). IsTaken macro_items x (t ∷ n ∷ ts)) (is_no_name n) _ _ (λ none. macro_statement t (n ∷ ts) (no_semicolon (codes "PIN") t n ts none) (pin_only t.text e))
    (λ named. record { whole = named_all pin_items pin_item_at pin_reads t n ts; is = (a_name (codes "PIN") t n [] e named, named_is pin_items pin_item_at pin_reads t n ts); less = named_less pin_items pin_item_at pin_reads t n ts })

macro_item_takes : (t : Token) (ts : List Token) → IsTaken macro_items (macro_item_at (t ∷ ts)) (t ∷ ts)
unfolding macro_item_at
macro_item_takes t ts =
    pick (λ (x : Taken MacroItem). IsTaken macro_items x (t ∷ ts)) (bytes_eq t.text (codes "PIN")) _ _ (pin_takes t ts)
    (λ no_pin. pick (λ (x : Taken MacroItem). IsTaken macro_items x (t ∷ ts)) (is_shapes t.text) _ _ (λ e. record { whole = shapes_all t ts; is = (e, shapes_is t ts); less = shapes_less t ts })
    (λ e. macro_statement t ts (no_name (codes "PIN") t ts no_pin) e))

-- a PIN at the text's end or before a semicolon is a statement
lone_pin : (t : Token) (ts : List Token) (s rest : List Token) → IsSame (inner_at (t ∷ ts)) s rest → begins_named (codes "PIN") (t ∷ ts) ≡ false → bytes_eq t.text (codes "PIN") ≡ true → IsSame (pin_at t ts) (OfMacro s) rest
lone_pin t [] s rest same no_pin e = record { item = ap (λ (x : List Token). OfMacro x) same.item; behind = same.behind }
lone_pin t (n ∷ ts) s rest same no_pin e =
    pick (λ (x : Taken MacroItem). IsSame x (OfMacro s) rest) (is_no_name n) _ _ (λ none. record { item = ap (λ (x : List Token). OfMacro x) same.item; behind = same.behind })
    (λ named. let begins = a_name (codes "PIN") t n ts e named in absurd cc)

macro_item_only : (t : Token) (ts : List Token) (i : MacroItem) (rest : List Token) → t ∷ ts ≡ macro_items.tokens i ++ rest → IsMacroItem i rest → IsSame (macro_item_at (t ∷ ts)) i rest
unfolding macro_item_at
macro_item_only t [] (Pin name b) rest whole is = absurd cc
macro_item_only t (n ∷ ts) (Pin name b) rest whole is =
    let same = named_only pin_items pin_item_at pin_reads t n ts name b rest whole is.1 in
    let named = named_by pin_items.tokens (codes "PIN") t n ts name b rest whole is.0 in
    let word = named.word in
    let some_name = named.name in
    let second : name ≡ n = cc in
    pick (λ (x : Taken MacroItem). IsSame x (Pin name b) rest) (bytes_eq t.text (codes "PIN")) _ _
    (λ e. pick (λ (x : Taken MacroItem). IsSame x (Pin name b) rest) (is_no_name n) _ _ (λ none. absurd cc) (λ k. record { item = (λ j. Pin (second j) (same.item j)); behind = same.behind }))
    (λ e. absurd cc)
macro_item_only t ts (Shapes b) rest whole is =
    let same = shapes_only t ts b rest whole is.1 in
    let first : t ≡ b.mark = cc in
    let word : is_shapes t.text ≡ true = ap (λ (x : Token). is_shapes x.text) first ∙ is.0 in
    pick (λ (x : Taken MacroItem). IsSame x (Shapes b) rest) (bytes_eq t.text (codes "PIN")) _ _ (λ e. let none = pin_only t.text e in absurd cc)
    (λ no_pin. pick (λ (x : Taken MacroItem). IsSame x (Shapes b) rest) (is_shapes t.text) _ _ (λ e. record { item = ap (λ (x : Block (List Token)). Shapes x) same.item; behind = same.behind }) (λ e. absurd cc))
macro_item_only t ts (OfMacro s) rest whole is =
    let same = inner_only t ts s rest whole is.2 in
    let no_shapes : is_shapes t.text ≡ false = sym (first_shapes t ts s rest whole is.2.0) ∙ is.1 in
    pick (λ (x : Taken MacroItem). IsSame x (OfMacro s) rest) (bytes_eq t.text (codes "PIN")) _ _ (lone_pin t ts s rest same (ap (begins_named (codes "PIN")) whole ∙ is.0))
    (λ no_pin. pick (λ (x : Taken MacroItem). IsSame x (OfMacro s) rest) (is_shapes t.text) _ _ (λ e. absurd cc)
    (λ e. record { item = ap (λ (x : List Token). OfMacro x) same.item; behind = same.behind }))

macro_item_some : (i : MacroItem) (rest : List Token) → IsMacroItem i rest → 0 < length (macro_items.tokens i)
macro_item_some (Pin name b) rest is = omega arith
macro_item_some (Shapes b) rest is = omega arith
macro_item_some (OfMacro s) rest is = is.2.0

pub macro_reads : (ends : List Token → Bool) → Reads ends macro_items macro_item_at
macro_reads ends = record { takes = λ t ts e. macro_item_takes t ts; only = macro_item_only; some = macro_item_some }

-- tokens that are passed over
passed_takes : (t : Token) (ts : List Token) → begins_named (codes "MACRO") (t ∷ ts) ≡ false → IsTaken file_items (Passed (take (outer_len (t ∷ ts)) (t ∷ ts)), drop (outer_len (t ∷ ts)) (t ∷ ts)) (t ∷ ts)
passed_takes t ts no_macro =
    let p = passed_front t ts in
    let all = take-append-drop (outer_len (t ∷ ts)) (t ∷ ts) in
    record { whole = sym all; is = (ap (begins_named (codes "MACRO")) all ∙ no_macro, front_some (outer_len (t ∷ ts)) t ts p.some, p.is); less = dropped (outer_len (t ∷ ts)) t ts p.some }

macro_takes : (t : Token) (ts : List Token) → bytes_eq t.text (codes "MACRO") ≡ true → IsTaken file_items (macro_at t ts) (t ∷ ts)
macro_takes t [] e = passed_takes t [] refl
macro_takes t (n ∷ ts) e =
    pick (λ (x : Taken FileItem). IsTaken file_items x (t ∷ n ∷ ts)) (is_no_name n) _ _ (λ none. passed_takes t (n ∷ ts) (no_semicolon (codes "MACRO") t n ts none))
    (λ named. record {
      whole = named_all macro_items macro_item_at macro_reads t n ts;
      is = (a_name (codes "MACRO") t n [] e named, named_is macro_items macro_item_at macro_reads t n ts);
      less = named_less macro_items macro_item_at macro_reads t n ts;
    })

file_item_takes : (t : Token) (ts : List Token) → IsTaken file_items (file_item_at (t ∷ ts)) (t ∷ ts)
unfolding file_item_at
file_item_takes t ts =
    pick (λ (x : Taken FileItem). IsTaken file_items x (t ∷ ts)) (bytes_eq t.text (codes "MACRO")) _ _ (macro_takes t ts) (λ e. passed_takes t ts (no_name (codes "MACRO") t ts e))

lone_macro : (t : Token) (ts : List Token) (s rest : List Token) → IsSame (take (outer_len (t ∷ ts)) (t ∷ ts), drop (outer_len (t ∷ ts)) (t ∷ ts)) s rest → begins_named (codes "MACRO") (t ∷ ts) ≡ false → bytes_eq t.text (codes "MACRO") ≡ true
    → IsSame (macro_at t ts) (Passed s) rest
lone_macro t [] s rest same no_macro e = record { item = ap (λ (x : List Token). Passed x) same.item; behind = same.behind }
lone_macro t (n ∷ ts) s rest same no_macro e =
    pick (λ (x : Taken FileItem). IsSame x (Passed s) rest) (is_no_name n) _ _ (λ none. record { item = ap (λ (x : List Token). Passed x) same.item; behind = same.behind })
    (λ named. let begins = a_name (codes "MACRO") t n ts e named in absurd cc)

file_item_only : (t : Token) (ts : List Token) (i : FileItem) (rest : List Token) → t ∷ ts ≡ file_items.tokens i ++ rest → IsFileItem i rest → IsSame (file_item_at (t ∷ ts)) i rest
unfolding file_item_at
file_item_only t [] (Macro name b) rest whole is = absurd cc
file_item_only t (n ∷ ts) (Macro name b) rest whole is =
    let same = named_only macro_items macro_item_at macro_reads t n ts name b rest whole is.1 in
    let named = named_by macro_items.tokens (codes "MACRO") t n ts name b rest whole is.0 in
    let word = named.word in
    let some_name = named.name in
    let second : name ≡ n = cc in
    pick (λ (x : Taken FileItem). IsSame x (Macro name b) rest) (bytes_eq t.text (codes "MACRO")) _ _
    (λ e. pick (λ (x : Taken FileItem). IsSame x (Macro name b) rest) (is_no_name n) _ _ (λ none. absurd cc) (λ k. record { item = (λ j. Macro (second j) (same.item j)); behind = same.behind }))
    (λ e. absurd cc)
file_item_only t ts (Passed s) rest whole is =
    let same = cut_front (outer_len (t ∷ ts)) t ts s rest whole (ap outer_len whole ∙ passed_len s rest is.2) in
    pick (λ (x : Taken FileItem). IsSame x (Passed s) rest) (bytes_eq t.text (codes "MACRO")) _ _ (lone_macro t ts s rest same (ap (begins_named (codes "MACRO")) whole ∙ is.0))
    (λ e. record { item = ap (λ (x : List Token). Passed x) same.item; behind = same.behind })

file_item_some : (i : FileItem) (rest : List Token) → IsFileItem i rest → 0 < length (file_items.tokens i)
file_item_some (Macro name b) rest is = omega arith
file_item_some (Passed s) rest is = is.1

pub file_reads : Reads ends_never file_items file_item_at
file_reads = record { takes = λ t ts e. file_item_takes t ts; only = file_item_only; some = file_item_some }

-- nothing is left behind the file's items
all_taken : (ts : List Token) → (items_within (length ts) ends_never file_item_at ts).1 ≡ []
all_taken ts = elim (found ends_never file_items file_item_at file_reads (length ts) ts (omega arith)).stops [ inl e ↦ absurd cc | inr e ↦ e ]

pub lef_law : LefLaw
lef_law ts =
    let all = found ends_never file_items file_item_at file_reads (length ts) ts (omega arith) in
    let none = all_taken ts in
    record {
      is = all.whole ∙ ap (λ (x : List Token). flat_map file_items.tokens (lef_at ts) ++ x) none ∙ append-nil (flat_map file_items.tokens (lef_at ts));
      are = subst (AreItems file_items ends_never (lef_at ts)) none all.are;
    }

pub only_lef_law : OnlyLefLaw
only_lef_law ts items is =
    (items_only ends_never file_items file_item_at file_reads (length ts) ts items [] (omega arith) (is.is ∙ sym (append-nil (flat_map file_items.tokens items))) is.are (inr refl)).item

pub one_lef_law : OneLefLaw
one_lef_law ts = (lef_at ts, lef_law ts, only_lef_law ts)
