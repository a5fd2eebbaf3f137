-- A statement passes the tests of its form where its tokens have the form's texts, and nowhere else.
use Rattle.std.proofs.Common.{◌≡◌, ℕ, zero, suc, ◌+◌, ◌==◌, Bool, true, false, ◌&&◌, not, cond, List, [], ◌∷◌, length, get_or, inl, inr, refl, sym, ap, ◌∙◌, arith, eq-eqb}
use Rattle.std.specs.Prelude.{codes}
use Rattle.std.specs.Str.{bytes_eq}
use Rattle.std.proofs.Math.ListN.{get_or-map}
use Rattle.std.proofs.lemmas.Bool.{cases_Bool, eqb-true, and_from}
use Rattle.base_types.proofs.TruthValues.{bytes_are, bytes_same}
use Rattle.token_forms.specs.Tokens.{Token}
use Rattle.def_tokens.specs.Numbers.{is_integer, is_decimal}
use Rattle.lef_pins.specs.Statements.{no_token, text_at, is_word_at, are_decimals, is_size, is_origin, is_masked, corner_place, is_read_rect, are_corners, is_rect, values_from, rect_values, begins_size, begins_origin, size_values, origin_values}
use Rattle.lef_pins.specs.Forms.{texts_of, SpellsSize, SpellsOrigin, Corners, corner_texts, AreCorners, SpellsRect, Plain, Masked, SizeLaw, OriginLaw, RectLaw}

-- two tests
pub record Both (a b : Bool) : Type 0 where
  pub left : a ≡ true
  pub right : b ≡ true

pub both : (a b : Bool) → (a && b) ≡ true → Both a b
both true b e = record { left = refl; right = e }
both false b e = absurd cc

-- the texts of so many tokens from a place on
texts_from : ℕ → List Token → ℕ → List (List ℕ)
texts_from zero s k = []
texts_from (suc n) s k = text_at s k ∷ texts_from n s (suc k)

one_on : (n : ℕ) (t : Token) (s : List Token) (k : ℕ) → texts_from n (t ∷ s) (suc k) ≡ texts_from n s k
unfolding texts_from
one_on zero t s k = refl
one_on (suc n) t s k = ap (λ (l : List (List ℕ)). text_at s k ∷ l) (one_on n t s (suc k))

texts_are : (s : List Token) (n : ℕ) → length s ≡ n → texts_of s ≡ texts_from n s 0
unfolding texts_from
texts_are [] zero e = refl
texts_are [] (suc n) e = absurd (omega arith)
texts_are (t ∷ s) zero e = absurd (omega arith)
texts_are (t ∷ s) (suc n) e = ap (λ (l : List (List ℕ)). t.text ∷ l) (texts_are s n (omega arith) ∙ sym (one_on n t s 0))

has_length : (s : List Token) (n : ℕ) → (length s == n) ≡ true → length s ≡ n
has_length s n e = eqb-true (length s) n e

-- a token's text by its place
text_is : (s : List Token) (texts : List (List ℕ)) (k : ℕ) → texts_of s ≡ texts → text_at s k ≡ get_or texts k []
text_is s texts k e = sym (get_or-map (λ (t : Token). t.text) s k no_token) ∙ ap (λ (l : List (List ℕ)). get_or l k []) e

same_length : (s : List Token) → length s ≡ length (texts_of s)
same_length [] = refl
same_length (t ∷ s) = ap (λ (n : ℕ). suc n) (same_length s)

counted : (s : List Token) (texts : List (List ℕ)) → texts_of s ≡ texts → (length s == length texts) ≡ true
counted s texts e = eq-eqb (length s) (length texts) (same_length s ∙ ap (λ (l : List (List ℕ)). length l) e)

word_is : (s : List Token) (texts : List (List ℕ)) (k : ℕ) (w : List ℕ) → texts_of s ≡ texts → get_or texts k [] ≡ w → is_word_at s k w ≡ true
word_is s texts k w e is = bytes_same (text_at s k) w (text_is s texts k e ∙ is)

decimal_is : (s : List Token) (texts : List (List ℕ)) (k : ℕ) → texts_of s ≡ texts → is_decimal (get_or texts k []) ≡ true → is_decimal (text_at s k) ≡ true
decimal_is s texts k e is = ap is_decimal (text_is s texts k e) ∙ is

-- SIZE

size_there : (s : List Token) → (begins_size s && is_size s) ≡ true → SpellsSize s
unfolding begins_size is_size size_values texts_from
size_there s e =
    let first = both (is_word_at s 0 (codes "SIZE")) ((length s == 5 && are_decimals s 1 3) && (is_word_at s 2 (codes "BY") && is_word_at s 4 (codes ";"))) e in
    let parts = both (length s == 5 && are_decimals s 1 3) (is_word_at s 2 (codes "BY") && is_word_at s 4 (codes ";")) first.right in
    let front = both (length s == 5) (are_decimals s 1 3) parts.left in
    let words = both (is_word_at s 2 (codes "BY")) (is_word_at s 4 (codes ";")) parts.right in
    let numbers = both (is_decimal (text_at s 1)) (is_decimal (text_at s 3)) front.right in
    let size = bytes_are (text_at s 0) (codes "SIZE") first.left in
    let by = bytes_are (text_at s 2) (codes "BY") words.left in
    let end = bytes_are (text_at s 4) (codes ";") words.right in
    record {
      w = text_at s 1;
      h = text_at s 3;
      texts = texts_are s 5 (has_length s 5 front.left) ∙ (λ k. size k ∷ text_at s 1 ∷ by k ∷ text_at s 3 ∷ end k ∷ []);
      w_is = numbers.left;
      h_is = numbers.right;
      values = refl;
    }

size_back : (s : List Token) → SpellsSize s → (begins_size s && is_size s) ≡ true
unfolding begins_size is_size
size_back s p =
    let texts = codes "SIZE" ∷ p.w ∷ codes "BY" ∷ p.h ∷ codes ";" ∷ [] in
    and_from _ _ (word_is s texts 0 (codes "SIZE") p.texts refl)
    (and_from _ _ (and_from _ _ (counted s texts p.texts) (and_from _ _ (decimal_is s texts 1 p.texts p.w_is) (decimal_is s texts 3 p.texts p.h_is)))
    (and_from _ _ (word_is s texts 2 (codes "BY") p.texts refl) (word_is s texts 4 (codes ";") p.texts refl)))

pub size_law : SizeLaw
size_law = record { there = size_there; back = size_back }

-- ORIGIN

origin_there : (s : List Token) → (begins_origin s && is_origin s) ≡ true → SpellsOrigin s
unfolding begins_origin is_origin origin_values texts_from
origin_there s e =
    let first = both (is_word_at s 0 (codes "ORIGIN")) ((length s == 4 && are_decimals s 1 2) && is_word_at s 3 (codes ";")) e in
    let parts = both (length s == 4 && are_decimals s 1 2) (is_word_at s 3 (codes ";")) first.right in
    let front = both (length s == 4) (are_decimals s 1 2) parts.left in
    let numbers = both (is_decimal (text_at s 1)) (is_decimal (text_at s 2)) front.right in
    let origin = bytes_are (text_at s 0) (codes "ORIGIN") first.left in
    let end = bytes_are (text_at s 3) (codes ";") parts.right in
    record {
      x = text_at s 1;
      y = text_at s 2;
      texts = texts_are s 4 (has_length s 4 front.left) ∙ (λ k. origin k ∷ text_at s 1 ∷ text_at s 2 ∷ end k ∷ []);
      x_is = numbers.left;
      y_is = numbers.right;
      values = refl;
    }

origin_back : (s : List Token) → SpellsOrigin s → (begins_origin s && is_origin s) ≡ true
unfolding begins_origin is_origin
origin_back s p =
    let texts = codes "ORIGIN" ∷ p.x ∷ p.y ∷ codes ";" ∷ [] in
    and_from _ _ (word_is s texts 0 (codes "ORIGIN") p.texts refl)
    (and_from _ _ (and_from _ _ (counted s texts p.texts) (and_from _ _ (decimal_is s texts 1 p.texts p.x_is) (decimal_is s texts 2 p.texts p.y_is)))
    (word_is s texts 3 (codes ";") p.texts refl))

pub origin_law : OriginLaw
origin_law = record { there = origin_there; back = origin_back }

-- RECT

record AreFour (s : List Token) (k : ℕ) : Type 0 where
  long : length s ≡ k + 5
  end : text_at s (k + 4) ≡ codes ";"
  x1_is : is_decimal (text_at s k) ≡ true
  y1_is : is_decimal (text_at s (k + 1)) ≡ true
  x2_is : is_decimal (text_at s (k + 2)) ≡ true
  y2_is : is_decimal (text_at s (k + 3)) ≡ true

are_four : (s : List Token) (k : ℕ) → are_corners s k ≡ true → AreFour s k
are_four s k e =
    let parts = both (length s == k + 5 && is_word_at s (k + 4) (codes ";")) (are_decimals s k (k + 1) && are_decimals s (k + 2) (k + 3)) e in
    let front = both (length s == k + 5) (is_word_at s (k + 4) (codes ";")) parts.left in
    let numbers = both (are_decimals s k (k + 1)) (are_decimals s (k + 2) (k + 3)) parts.right in
    let a = both (is_decimal (text_at s k)) (is_decimal (text_at s (k + 1))) numbers.left in
    let b = both (is_decimal (text_at s (k + 2))) (is_decimal (text_at s (k + 3))) numbers.right in
    record { long = has_length s (k + 5) front.left; end = bytes_are (text_at s (k + 4)) (codes ";") front.right; x1_is = a.left; y1_is = a.right; x2_is = b.left; y2_is = b.right }

corners_at : List Token → ℕ → Corners
corners_at s k = record { x1 = text_at s k; y1 = text_at s (k + 1); x2 = text_at s (k + 2); y2 = text_at s (k + 3) }

plain_there : (s : List Token) → is_word_at s 0 (codes "RECT") ≡ true → is_masked s ≡ false → are_corners s 1 ≡ true → SpellsRect s
unfolding corners_at texts_from rect_values
plain_there s word plain e =
    let rect = bytes_are (text_at s 0) (codes "RECT") word in
    let four = are_four s 1 e in
    let end = four.end in
    Plain (corners_at s 1) (texts_are s 6 four.long ∙ (λ k. rect k ∷ text_at s 1 ∷ text_at s 2 ∷ text_at s 3 ∷ text_at s 4 ∷ end k ∷ []))
    (record { x1_is = four.x1_is; y1_is = four.y1_is; x2_is = four.x2_is; y2_is = four.y2_is; values = ap (λ (b : Bool). values_from s (cond b 3 1)) plain })

masked_there : (s : List Token) → is_word_at s 0 (codes "RECT") ≡ true → is_masked s ≡ true → is_integer (text_at s 2) ≡ true → are_corners s 3 ≡ true → SpellsRect s
unfolding corners_at texts_from rect_values
masked_there s word masked number e =
    let rect = bytes_are (text_at s 0) (codes "RECT") word in
    let mask = bytes_are (text_at s 1) (codes "MASK") masked in
    let four = are_four s 3 e in
    let end = four.end in
    Masked (text_at s 2) (corners_at s 3) (texts_are s 8 four.long ∙ (λ k. rect k ∷ mask k ∷ text_at s 2 ∷ text_at s 3 ∷ text_at s 4 ∷ text_at s 5 ∷ text_at s 6 ∷ end k ∷ [])) number
    (record { x1_is = four.x1_is; y1_is = four.y1_is; x2_is = four.x2_is; y2_is = four.y2_is; values = ap (λ (b : Bool). values_from s (cond b 3 1)) masked })

rect_there : (s : List Token) → (is_read_rect s && is_rect s) ≡ true → SpellsRect s
unfolding is_read_rect is_rect
rect_there s e =
    let parts = both (is_word_at s 0 (codes "RECT") && not (is_word_at s (corner_place s) (codes "ITERATE"))) (cond (is_masked s) (is_integer (text_at s 2) && are_corners s 3) (are_corners s 1)) e in
    let word = (both (is_word_at s 0 (codes "RECT")) (not (is_word_at s (corner_place s) (codes "ITERATE"))) parts.left).left in
    elim (cases_Bool (is_masked s)) [
      | inl masked ↦
          let more : (is_integer (text_at s 2) && are_corners s 3) ≡ true = sym (ap (λ (b : Bool). cond b (is_integer (text_at s 2) && are_corners s 3) (are_corners s 1)) masked) ∙ parts.right in
          let two = both (is_integer (text_at s 2)) (are_corners s 3) more in
          masked_there s word masked two.left two.right
      | inr plain ↦
          let more : are_corners s 1 ≡ true = sym (ap (λ (b : Bool). cond b (is_integer (text_at s 2) && are_corners s 3) (are_corners s 1)) plain) ∙ parts.right in
          plain_there s word plain more
    ]

-- a decimal is no word
no_word : (w v : List ℕ) → is_decimal w ≡ true → is_decimal v ≡ false → bytes_eq w v ≡ false
no_word w v e f =
    elim (cases_Bool (bytes_eq w v)) [
      | inl same ↦ let both_same = bytes_are w v same in let clash : is_decimal v ≡ true = ap is_decimal (sym both_same) ∙ e in absurd cc
      | inr other ↦ other
    ]

not_it : (s : List Token) (texts : List (List ℕ)) (k : ℕ) (v : List ℕ) → texts_of s ≡ texts → is_decimal (get_or texts k []) ≡ true → is_decimal v ≡ false → is_word_at s k v ≡ false
not_it s texts k v e is none = no_word (text_at s k) v (decimal_is s texts k e is) none

plain_back : (s : List Token) (c : Corners) → texts_of s ≡ codes "RECT" ∷ corner_texts c → AreCorners s c → (is_read_rect s && is_rect s) ≡ true
unfolding is_read_rect is_rect
plain_back s c e are =
    let texts = codes "RECT" ∷ corner_texts c in
    let plain = not_it s texts 1 (codes "MASK") e are.x1_is refl in
    let read : not (is_word_at s (corner_place s) (codes "ITERATE")) ≡ true =
    ap (λ (b : Bool). not (is_word_at s (cond b 3 1) (codes "ITERATE"))) plain ∙ ap not (not_it s texts 1 (codes "ITERATE") e are.x1_is refl) in
    let corners = and_from _ _ (and_from _ _ (counted s texts e) (word_is s texts 5 (codes ";") e refl))
    (and_from _ _ (and_from _ _ (decimal_is s texts 1 e are.x1_is) (decimal_is s texts 2 e are.y1_is)) (and_from _ _ (decimal_is s texts 3 e are.x2_is) (decimal_is s texts 4 e are.y2_is))) in
    and_from _ _ (and_from _ _ (word_is s texts 0 (codes "RECT") e refl) read)
    (ap (λ (b : Bool). cond b (is_integer (text_at s 2) && are_corners s 3) (are_corners s 1)) plain ∙ corners)

masked_back : (s : List Token) (n : List ℕ) (c : Corners) → texts_of s ≡ codes "RECT" ∷ codes "MASK" ∷ n ∷ corner_texts c → is_integer n ≡ true → AreCorners s c → (is_read_rect s && is_rect s) ≡ true
unfolding is_read_rect is_rect
masked_back s n c e number are =
    let texts = codes "RECT" ∷ codes "MASK" ∷ n ∷ corner_texts c in
    let masked = word_is s texts 1 (codes "MASK") e refl in
    let read : not (is_word_at s (corner_place s) (codes "ITERATE")) ≡ true =
    ap (λ (b : Bool). not (is_word_at s (cond b 3 1) (codes "ITERATE"))) masked ∙ ap not (not_it s texts 3 (codes "ITERATE") e are.x1_is refl) in
    let integer : is_integer (text_at s 2) ≡ true = ap is_integer (text_is s texts 2 e) ∙ number in
    let corners = and_from _ _ (and_from _ _ (counted s texts e) (word_is s texts 7 (codes ";") e refl))
    (and_from _ _ (and_from _ _ (decimal_is s texts 3 e are.x1_is) (decimal_is s texts 4 e are.y1_is)) (and_from _ _ (decimal_is s texts 5 e are.x2_is) (decimal_is s texts 6 e are.y2_is))) in
    and_from _ _ (and_from _ _ (word_is s texts 0 (codes "RECT") e refl) read)
    (ap (λ (b : Bool). cond b (is_integer (text_at s 2) && are_corners s 3) (are_corners s 1)) masked ∙ and_from _ _ integer corners)

rect_back : (s : List Token) → SpellsRect s → (is_read_rect s && is_rect s) ≡ true
rect_back s (Plain c e are) = plain_back s c e are
rect_back s (Masked n c e number are) = masked_back s n c e number are

pub rect_law : RectLaw
rect_law = record { there = rect_there; back = rect_back }
