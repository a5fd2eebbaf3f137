-- What passes over together outside macros is what the reader passes over.
use Rattle.std.proofs.Common.{◌≡◌, ℕ, zero, suc, ◌+◌, ◌<◌, ◌≤◌, Bool, true, false, ◌&&◌, not, cond, List, [], ◌∷◌, ◌++◌, length, take, drop, inl, inr, min, refl, sym, ap, ◌∙◌, subst, arith, append_assoc, length-append}
use Rattle.std.specs.Prelude.{codes, ◌⊎◌}
use Rattle.std.proofs.Math.Seq.{take-append_seam, drop-append_seam}
use Rattle.std.specs.List.{flat_map, list_all, AllByRecursion}
use Rattle.std.specs.Str.{bytes_eq}
use Rattle.std.proofs.lemmas.List.{append-nil}
use Rattle.std.proofs.lemmas.Bool.{not-true}
use Rattle.base_types.proofs.TruthValues.{bytes_are}
use Rattle.token_forms.specs.Tokens.{Token}
use Rattle.def_tokens.specs.DefStatements.{count_with}
use Rattle.lef_pins.specs.BlockReading.{definitions_len, extended_behind, passing_len}
use Rattle.lef_pins.proofs.FormLaws.{both}
use Rattle.lef_pins.specs.BlockReading.{OuterLaw, OpenLaw}
use Rattle.lef_pins.specs.Outside.{is_other, is_plain, Piece, Plain, Extension, IsExtension, IsPiece, piece_tokens, End, Semicolon, Name, Definitions, AreDefinitions, IsEnd, end_tokens, Rest, Nothing, LastEnd, OpenDefinitions, OpenExtension, AreOpenDefinitions, IsRest, rest_tokens, IsPassed, Ended, Open}

plain_passes : (t : Token) (ts : List Token) → is_plain t ≡ true → passing_len false (t ∷ ts) ≡ 1 + passing_len false ts
unfolding passing_len
plain_passes t ts e =
    let parts = both (is_other (codes ";") t && is_other (codes "END") t) (is_other (codes "PROPERTYDEFINITIONS") t && is_other (codes "BEGINEXT") t) e in
    let first = both (is_other (codes ";") t) (is_other (codes "END") t) parts.left in
    let second = both (is_other (codes "PROPERTYDEFINITIONS") t) (is_other (codes "BEGINEXT") t) parts.right in
    let a = not-true (bytes_eq t.text (codes ";")) first.left in
    let b = not-true (bytes_eq t.text (codes "END")) first.right in
    let c = not-true (bytes_eq t.text (codes "PROPERTYDEFINITIONS")) second.left in
    let d = not-true (bytes_eq t.text (codes "BEGINEXT")) second.right in
    rw (a, b, c, d) refl

mark_passes : (t : Token) (ts : List Token) → t.text ≡ codes "BEGINEXT" → passing_len false (t ∷ ts) ≡ 1 + passing_len true ts
unfolding passing_len
mark_passes t ts e = rw e refl

inner_passes : (inner ts : List Token) → list_all (is_other (codes "ENDEXT")) inner ≡ true → passing_len true (inner ++ ts) ≡ length inner + passing_len true ts
unfolding passing_len
inner_passes [] ts e = omega arith
inner_passes (t ∷ inner) ts e =
    let parts = both (is_other (codes "ENDEXT") t) (list_all (is_other (codes "ENDEXT")) inner) e in
    let other = not-true (bytes_eq t.text (codes "ENDEXT")) parts.left in
    let more = inner_passes inner ts parts.right in
    let step : 1 + passing_len (not (bytes_eq t.text (codes "ENDEXT"))) (inner ++ ts) ≡ 1 + passing_len true (inner ++ ts) = ap (λ (b : Bool). 1 + passing_len (not b) (inner ++ ts)) other in
    step ∙ omega arith

end_passes : (t : Token) (ts : List Token) → t.text ≡ codes "ENDEXT" → passing_len true (t ∷ ts) ≡ 1 + passing_len false ts
unfolding passing_len
end_passes t ts e = rw e refl

extension_passes : (mark : Token) (inner : List Token) (end : Token) (ts : List Token) → IsExtension mark inner end
    → passing_len false ((mark ∷ inner ++ end ∷ []) ++ ts) ≡ length (mark ∷ inner ++ end ∷ []) + passing_len false ts
extension_passes mark inner end ts is =
    let whole = ap (λ (l : List Token). passing_len false (mark ∷ l)) (append_assoc inner (end ∷ []) ts) in
    let first = mark_passes mark (inner ++ end ∷ ts) is.begins in
    let second = inner_passes inner (end ∷ ts) is.inside in
    let third = end_passes end ts is.ends in
    let len = length-append inner (end ∷ []) in
    whole ∙ omega arith

piece_passes : (p : Piece) (ts : List Token) → IsPiece p → passing_len false (piece_tokens p ++ ts) ≡ length (piece_tokens p) + passing_len false ts
piece_passes (Plain t) ts is = plain_passes t ts is
piece_passes (Extension mark inner end) ts is = extension_passes mark inner end ts is

pieces_pass : (ps : List Piece) (ts : List Token) → AllByRecursion IsPiece ps → passing_len false (flat_map piece_tokens ps ++ ts) ≡ length (flat_map piece_tokens ps) + passing_len false ts
pieces_pass [] ts are = omega arith
pieces_pass (p ∷ ps) ts are =
    let whole = ap (passing_len false) (append_assoc (piece_tokens p) (flat_map piece_tokens ps) ts) in
    let first = piece_passes p (flat_map piece_tokens ps ++ ts) are.0 in
    let more = pieces_pass ps ts are.1 in
    let len = length-append (piece_tokens p) (flat_map piece_tokens ps) in
    whole ∙ omega arith

counts : (inner ts : List Token) (end : Token) → list_all (is_other (codes "END")) inner ≡ true → end.text ≡ codes "END" → count_with (codes "END") (inner ++ end ∷ ts) ≡ length inner + 1
counts [] ts end e is = rw is refl
counts (t ∷ inner) ts end e is =
    let parts = both (is_other (codes "END") t) (list_all (is_other (codes "END")) inner) e in
    let other = not-true (bytes_eq t.text (codes "END")) parts.left in
    let more = counts inner ts end parts.right is in
    let step : count_with (codes "END") (t ∷ (inner ++ end ∷ ts)) ≡ 1 + count_with (codes "END") (inner ++ end ∷ ts) = rw other refl in
    step ∙ omega arith

semicolon_ends : (t : Token) (ts : List Token) → t.text ≡ codes ";" → passing_len false (t ∷ ts) ≡ 1
unfolding passing_len
semicolon_ends t ts e = rw e refl

name_ends : (t n : Token) (ts : List Token) → t.text ≡ codes "END" → passing_len false (t ∷ n ∷ ts) ≡ 2
unfolding passing_len
name_ends t n ts e = let all : min 2 (1 + length (n ∷ ts)) ≡ 2 = omega arith in rw e all

definitions_begin : (t : Token) (ts : List Token) → t.text ≡ codes "PROPERTYDEFINITIONS" → passing_len false (t ∷ ts) ≡ 1 + min (count_with (codes "END") ts + 1) (length ts)
unfolding passing_len
definitions_begin t ts e = rw e refl

definitions_end : (mark : Token) (inner : List Token) (end name : Token) (ts : List Token) → AreDefinitions mark inner end
    → passing_len false ((mark ∷ inner ++ end ∷ name ∷ []) ++ ts) ≡ length (mark ∷ inner ++ end ∷ name ∷ [])
definitions_end mark inner end name ts is =
    let whole = ap (λ (l : List Token). passing_len false (mark ∷ l)) (append_assoc inner (end ∷ name ∷ []) ts) in
    let first = definitions_begin mark (inner ++ end ∷ name ∷ ts) is.begins in
    let count = counts inner (name ∷ ts) end is.inside is.ends in
    let len = length-append inner (end ∷ name ∷ []) in
    let all = length-append inner (end ∷ name ∷ ts) in
    whole ∙ omega arith

end_is : (e : End) (ts : List Token) → IsEnd e → passing_len false (end_tokens e ++ ts) ≡ length (end_tokens e)
end_is (Semicolon t) ts is = semicolon_ends t ts is
end_is (Name end name) ts is = name_ends end name ts is
end_is (Definitions mark inner end name) ts is = definitions_end mark inner end name ts is

pub outer_law : OuterLaw
outer_law pieces end behind are is =
    let front = pieces_pass pieces (end_tokens end ++ behind) are in
    let last = end_is end behind is in
    let len = length-append (flat_map piece_tokens pieces) (end_tokens end) in
    omega arith

none_left : passing_len false [] ≡ 0
unfolding passing_len
none_left = refl

pub open_law : OpenLaw
open_law pieces are =
    let front = pieces_pass pieces [] are in
    let last = none_left in
    sym (ap (passing_len false) (append-nil (flat_map piece_tokens pieces))) ∙ omega arith

-- what is left open passes over up to the text's end
lone_end : (t : Token) → t.text ≡ codes "END" → passing_len false (t ∷ []) ≡ 1
unfolding passing_len
lone_end t e = rw e refl

none_counts : (ts : List Token) → list_all (is_other (codes "END")) ts ≡ true → count_with (codes "END") ts ≡ length ts
none_counts [] e = refl
none_counts (t ∷ ts) e =
    let parts = both (is_other (codes "END") t) (list_all (is_other (codes "END")) ts) e in
    let other = not-true (bytes_eq t.text (codes "END")) parts.left in
    let more = none_counts ts parts.right in
    let step : count_with (codes "END") (t ∷ ts) ≡ 1 + count_with (codes "END") ts = rw other refl in
    step ∙ omega arith

open_definitions : (mark : Token) (inner last : List Token) → AreOpenDefinitions mark inner last → passing_len false (mark ∷ inner ++ last) ≡ length (mark ∷ inner ++ last)
open_definitions mark inner last is =
    elim is.ends [
      | inl none ↦
          let first = definitions_begin mark inner is.begins in
          let count = none_counts inner is.inside in
          let len : passing_len false (mark ∷ inner) ≡ length (mark ∷ inner) = omega arith in
          let whole : inner ++ last ≡ inner = ap (λ (l : List Token). inner ++ l) none ∙ append-nil inner in
          subst (λ (l : List Token). passing_len false (mark ∷ l) ≡ length (mark ∷ l)) (sym whole) len
      | inr end ↦
          let first = definitions_begin mark (inner ++ end.0 ∷ []) is.begins in
          let count = counts inner [] end.0 is.inside end.2 in
          let all = length-append inner (end.0 ∷ []) in
          let len : passing_len false (mark ∷ inner ++ end.0 ∷ []) ≡ length (mark ∷ inner ++ end.0 ∷ []) = omega arith in
          subst (λ (l : List Token). passing_len false (mark ∷ inner ++ l) ≡ length (mark ∷ inner ++ l)) (sym end.1) len
    ]

no_more : passing_len true [] ≡ 0
unfolding passing_len
no_more = refl

open_extension : (mark : Token) (inner : List Token) → mark.text ≡ codes "BEGINEXT" → list_all (is_other (codes "ENDEXT")) inner ≡ true → passing_len false (mark ∷ inner) ≡ length (mark ∷ inner)
open_extension mark inner begins inside =
    let first = mark_passes mark (inner ++ []) begins in
    let second = inner_passes inner [] inside in
    let none = no_more in
    ap (λ (l : List Token). passing_len false (mark ∷ l)) (sym (append-nil inner)) ∙ omega arith

rest_is : (r : Rest) → IsRest r → passing_len false (rest_tokens r) ≡ length (rest_tokens r)
rest_is Nothing is = none_left
rest_is (LastEnd end) is = lone_end end is
rest_is (OpenDefinitions mark inner last) is = open_definitions mark inner last is
rest_is (OpenExtension mark inner) is = open_extension mark inner is.begins is.inside

-- what passes over together is as long as the reader says
pub passed_len : (s behind : List Token) → IsPassed s behind → passing_len false (s ++ behind) ≡ length s
passed_len s behind (Ended pieces end are ends is) =
    let law = outer_law pieces end behind are ends in
    ap (λ (l : List Token). passing_len false (l ++ behind)) is ∙ ap (passing_len false) (append_assoc (flat_map piece_tokens pieces) (end_tokens end) behind) ∙ law ∙ ap (length {A = Token}) (sym is)
passed_len s behind (Open pieces rest are opens is none) =
    let front = pieces_pass pieces (rest_tokens rest) are in
    let last = rest_is rest opens in
    let len = length-append (flat_map piece_tokens pieces) (rest_tokens rest) in
    let all : passing_len false (flat_map piece_tokens pieces ++ rest_tokens rest) ≡ length (flat_map piece_tokens pieces ++ rest_tokens rest) = omega arith in
    ap (λ (l : List Token). passing_len false (s ++ l)) none ∙ ap (passing_len false) (append-nil s) ∙ ap (passing_len false) is ∙ all ∙ ap (length {A = Token}) (sym is)

-- the first token of a text, between those before and those behind it
record IsAt (w : List ℕ) (ts : List Token) : Type 0 where
  inner : List Token
  token : Token
  behind : List Token
  is : ts ≡ inner ++ token ∷ behind
  inside : list_all (is_other w) inner ≡ true
  text : token.text ≡ w

find_word : (w : List ℕ) (ts : List Token) → IsAt w ts ⊎ (list_all (is_other w) ts ≡ true)
find_word w [] = inr refl
find_word w (t ∷ ts) = by_first (bytes_eq t.text w) refl (find_word w ts)
  where
    by_first : (b : Bool) → bytes_eq t.text w ≡ b → IsAt w ts ⊎ (list_all (is_other w) ts ≡ true) → IsAt w (t ∷ ts) ⊎ (list_all (is_other w) (t ∷ ts) ≡ true)
    by_first true e more = inl (record { inner = []; token = t; behind = ts; is = refl; inside = refl; text = bytes_are t.text w e })
    by_first false e more =
        elim more [
          | inl f ↦ inl (record { inner = t ∷ f.inner; token = f.token; behind = f.behind; is = ap (λ (l : List Token). t ∷ l) f.is; inside = rw e f.inside; text = f.text })
          | inr none ↦ inr (rw e none)
        ]

-- what passes over at the front of some tokens
record Front (ts : List Token) : Type 0 where
  front : List Token
  back : List Token
  is : ts ≡ front ++ back
  len : passing_len false ts ≡ length front
  passed : IsPassed front back

one_piece : (p : Piece) → IsPiece p → (s behind : List Token) → IsPassed s behind → IsPassed (piece_tokens p ++ s) behind
one_piece p one s behind (Ended pieces end are ends is) =
    Ended (p ∷ pieces) end (one, are) ends (ap (λ (l : List Token). piece_tokens p ++ l) is ∙ sym (append_assoc (piece_tokens p) (flat_map piece_tokens pieces) (end_tokens end)))
one_piece p one s behind (Open pieces rest are opens is none) =
    Open (p ∷ pieces) rest (one, are) opens (ap (λ (l : List Token). piece_tokens p ++ l) is ∙ sym (append_assoc (piece_tokens p) (flat_map piece_tokens pieces) (rest_tokens rest))) none

-- a piece, and what passes over behind it
behind_piece : (p : Piece) (ts rest : List Token) → IsPiece p → ts ≡ piece_tokens p ++ rest → Front rest → Front ts
behind_piece p ts rest one is f =
    let first = ap (passing_len false) is ∙ piece_passes p rest one in
    let more = f.len in
    let len = length-append (piece_tokens p) f.front in
    record {
      front = piece_tokens p ++ f.front;
      back = f.back;
      is = is ∙ ap (λ (l : List Token). piece_tokens p ++ l) f.is ∙ sym (append_assoc (piece_tokens p) f.front f.back);
      len = omega arith;
      passed = one_piece p one f.front f.back f.passed;
    }

-- all that is left
all_open : (ts : List Token) (r : Rest) → IsRest r → ts ≡ rest_tokens r → Front ts
all_open ts r opens is =
    record {
      front = ts;
      back = [];
      is = sym (append-nil ts);
      len = ap (passing_len false) is ∙ rest_is r opens ∙ ap (length {A = Token}) (sym is);
      passed = Open [] r tt opens is refl;
    }

an_end : (ts behind : List Token) (e : End) → IsEnd e → ts ≡ end_tokens e ++ behind → Front ts
an_end ts behind e ends is = record { front = end_tokens e; back = behind; is = is; len = ap (passing_len false) is ∙ end_is e behind ends; passed = Ended [] e tt ends refl }

end_front : (t : Token) (ts : List Token) → t.text ≡ codes "END" → Front (t ∷ ts)
end_front t [] e = all_open (t ∷ []) (LastEnd t) e refl
end_front t (n ∷ ts) e = an_end (t ∷ n ∷ ts) ts (Name t n) e refl

definitions_found : (t : Token) (ts : List Token) → t.text ≡ codes "PROPERTYDEFINITIONS" → IsAt (codes "END") ts → Front (t ∷ ts)
definitions_found t ts e f = by_name f.behind f.is
  where
    by_name : (behind : List Token) → ts ≡ f.inner ++ f.token ∷ behind → Front (t ∷ ts)
    by_name [] is = all_open (t ∷ ts) (OpenDefinitions t f.inner (f.token ∷ [])) (record { begins = e; inside = f.inside; ends = inr (f.token, refl, f.text) }) (ap (λ (l : List Token). t ∷ l) is)
    by_name (n ∷ behind) is =
        an_end (t ∷ ts) behind (Definitions t f.inner f.token n) (record { begins = e; inside = f.inside; ends = f.text })
        (ap (λ (l : List Token). t ∷ l) (is ∙ sym (append_assoc f.inner (f.token ∷ n ∷ []) behind)))

definitions_front : (t : Token) (ts : List Token) → t.text ≡ codes "PROPERTYDEFINITIONS" → Front (t ∷ ts)
definitions_front t ts e =
    elim (find_word (codes "END") ts) [
      | inl f ↦ definitions_found t ts e f
      | inr none ↦ all_open (t ∷ ts) (OpenDefinitions t ts []) (record { begins = e; inside = none; ends = inl refl }) (ap (λ (l : List Token). t ∷ l) (sym (append-nil ts)))
    ]

extension_front : (t : Token) (ts : List Token) → ((rest : List Token) → length rest ≤ length ts → Front rest) → t.text ≡ codes "BEGINEXT" → Front (t ∷ ts)
extension_front t ts more e =
    elim (find_word (codes "ENDEXT") ts) [
      | inl f ↦
          let all = ap (length {A = Token}) f.is in
          let len = length-append f.inner (f.token ∷ f.behind) in
          behind_piece (Extension t f.inner f.token) (t ∷ ts) f.behind (record { begins = e; inside = f.inside; ends = f.text })
          (ap (λ (l : List Token). t ∷ l) (f.is ∙ sym (append_assoc f.inner (f.token ∷ []) f.behind))) (more f.behind (omega arith))
      | inr none ↦ all_open (t ∷ ts) (OpenExtension t ts) (record { begins = e; inside = none }) refl
    ]

plain_text : (t : Token) → bytes_eq t.text (codes ";") ≡ false → bytes_eq t.text (codes "END") ≡ false → bytes_eq t.text (codes "PROPERTYDEFINITIONS") ≡ false → bytes_eq t.text (codes "BEGINEXT") ≡ false → is_plain t ≡ true
plain_text t a b c d = rw (a, b, c, d) refl

one_front : (t : Token) (ts : List Token) → ((rest : List Token) → length rest ≤ length ts → Front rest) → Front (t ∷ ts)
one_front t ts more = by_word (bytes_eq t.text (codes ";")) (bytes_eq t.text (codes "END")) (bytes_eq t.text (codes "PROPERTYDEFINITIONS")) (bytes_eq t.text (codes "BEGINEXT")) refl refl refl refl
  where
    by_word : (a b c d : Bool) → bytes_eq t.text (codes ";") ≡ a → bytes_eq t.text (codes "END") ≡ b → bytes_eq t.text (codes "PROPERTYDEFINITIONS") ≡ c → bytes_eq t.text (codes "BEGINEXT") ≡ d → Front (t ∷ ts)
    by_word true b c d ae be ce de = an_end (t ∷ ts) ts (Semicolon t) (bytes_are t.text (codes ";") ae) refl
    by_word false true c d ae be ce de = end_front t ts (bytes_are t.text (codes "END") be)
    by_word false false true d ae be ce de = definitions_front t ts (bytes_are t.text (codes "PROPERTYDEFINITIONS") ce)
    by_word false false false true ae be ce de = extension_front t ts more (bytes_are t.text (codes "BEGINEXT") de)
    by_word false false false false ae be ce de = behind_piece (Plain t) (t ∷ ts) ts (plain_text t ae be ce de) refl (more ts (omega arith))

front_within : (n : ℕ) (ts : List Token) → length ts ≤ n → Front ts
front_within n [] short = all_open [] Nothing tt refl
front_within zero (t ∷ ts) short = absurd (omega arith)
front_within (suc n) (t ∷ ts) short = one_front t ts (λ rest le. front_within n rest (omega arith))

-- where a token stands, some pass over, which do so together
pub record PassedFront (ts : List Token) : Type 0 where
  pub some : 0 < passing_len false ts
  pub is : IsPassed (take (passing_len false ts) ts) (drop (passing_len false ts) ts)

record IsSome (n : ℕ) : Type 0 where
  some : 0 < n

either : (b : Bool) (m n : ℕ) → IsSome m → IsSome n → IsSome (cond b m n)
either true m n h k = h
either false m n h k = k

passing_some : (t : Token) (ts : List Token) → IsSome (passing_len false (t ∷ ts))
unfolding passing_len
passing_some t ts =
    let one : IsSome 1 = record { some = omega arith } in
    let two : IsSome (min 2 (1 + length ts)) = record { some = omega arith } in
    let definitions : IsSome (1 + definitions_len ts) = record { some = omega arith } in
    let more : IsSome (1 + passing_len (extended_behind false t.text) ts) = record { some = omega arith } in
    either _ _ _ one (either _ _ _ two (either _ _ _ definitions more))

pub passed_front : (t : Token) (ts : List Token) → PassedFront (t ∷ ts)
passed_front t ts =
    let f = front_within (1 + length ts) (t ∷ ts) (omega arith) in
    let front : f.front ≡ take (passing_len false (t ∷ ts)) (t ∷ ts) = sym (ap (λ (n : ℕ). take n (t ∷ ts)) f.len ∙ ap (λ (l : List Token). take (length f.front) l) f.is ∙ take-append_seam f.front f.back) in
    let back : f.back ≡ drop (passing_len false (t ∷ ts)) (t ∷ ts) = sym (ap (λ (n : ℕ). drop n (t ∷ ts)) f.len ∙ ap (λ (l : List Token). drop (length f.front) l) f.is ∙ drop-append_seam f.front f.back) in
    record { some = (passing_some t ts).some; is = subst (λ (l : List Token). IsPassed l (drop (passing_len false (t ∷ ts)) (t ∷ ts))) front (subst (IsPassed f.front) back f.passed) }
