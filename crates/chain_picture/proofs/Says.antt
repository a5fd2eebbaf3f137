-- Pieces of a picture's text: their bytes are plain, and how many links begin in them, whatever follows.
use Rattle.std.proofs.Common.{◌≡◌, ℕ, zero, suc, ◌+◌, ◌/◌, ◌%◌, ◌<◌, Bool, true, false, ◌&&◌, ◌||◌, not, List, [], ◌∷◌, ◌++◌, take, drop, get_or, refl, ap, ◌∙◌, subst, arith, append_assoc}
use Rattle.std.specs.Prelude.{ℤ, pos, negsuc, nat_eq, nat_lt, codes, decimal, All}
use Rattle.std.specs.Fmt.{signed_decimal, digit_glyph, digits, digits_onto}
use Rattle.std.proofs.lemmas.Bool.{cond_both, and_from, not-true}
use Rattle.std.proofs.lemmas.Bool.Decides.{nat_tests}
use Rattle.std.proofs.lemmas.List.Elements.{All-nil, All-cons}
use Rattle.base_types.proofs.TruthValues.{and_first, and_second}
use Rattle.chain_picture.specs.Xml.{IsPlainByte, attribute, count_of, digit, element, escaped, escaped_byte, leaf, place, size}

-- the byte is a line feed or printable ASCII
abbrev pub is_plain : ℕ → Bool
is_plain b = nat_eq b 10 || (nat_lt 31 b && nat_lt b 127)

-- and no `<`
abbrev pub is_quiet : ℕ → Bool
is_quiet b = is_plain b && not (nat_eq 60 b)

abbrev pub are_plain : List ℕ → Bool
are_plain [] = true
are_plain (b ∷ bs) = is_plain b && are_plain bs

abbrev pub are_quiet : List ℕ → Bool
are_quiet [] = true
are_quiet (b ∷ bs) = is_quiet b && are_quiet bs

-- how a link begins
abbrev pub mark : List ℕ
mark = codes "<line "

-- the bytes of the piece are plain, and no link begins in it
pub record Quiet (xs : List ℕ) : Type 0 where
  pub plain : are_plain xs ≡ true
  pub count : (ys : List ℕ) → count_of mark (xs ++ ys) ≡ count_of mark ys

-- the bytes of the piece are plain, and n links begin in it
pub record Says (n : ℕ) (xs : List ℕ) : Type 0 where
  pub plain : are_plain xs ≡ true
  pub count : (ys : List ℕ) → count_of mark (xs ++ ys) ≡ n + count_of mark ys

plain_both : (xs ys : List ℕ) → are_plain xs ≡ true → are_plain ys ≡ true → are_plain (xs ++ ys) ≡ true
plain_both [] ys p q = q
plain_both (x ∷ xs) ys p q = and_from (is_plain x) (are_plain (xs ++ ys)) (and_first (is_plain x) (are_plain xs) p) (plain_both xs ys (and_second (is_plain x) (are_plain xs) p) q)

-- one piece behind another
infixl 30 ◌⊕◌
pub ◌⊕◌ : {xs ys : List ℕ} → Quiet xs → Quiet ys → Quiet (xs ++ ys)
◌⊕◌ {xs} {ys} p q = record {
  plain = plain_both xs ys p.plain q.plain;
  count = λ zs. ap (count_of mark) (append_assoc xs ys zs) ∙ (p.count (ys ++ zs) ∙ q.count zs);
}

infixl 30 ◌⊞◌
pub ◌⊞◌ : {n m : ℕ} {xs ys : List ℕ} → Says n xs → Says m ys → Says (n + m) (xs ++ ys)
◌⊞◌ {n} {m} {xs} {ys} p q = record {
  plain = plain_both xs ys p.plain q.plain;
  count = λ zs. let a = p.count (ys ++ zs) in let b = q.count zs in ap (count_of mark) (append_assoc xs ys zs) ∙ omega (arith, a, b);
}

pub same : {n m : ℕ} {xs : List ℕ} → Says n xs → n ≡ m → Says m xs
same {n} {m} {xs} p e = subst (λ (k : ℕ). Says k xs) e p

pub loud : {xs : List ℕ} → Quiet xs → Says 0 xs
loud p = record { plain = p.plain; count = λ ys. let a = p.count ys in omega (arith, a) }

pub empty : Quiet []
empty = record { plain = refl; count = λ ys. refl }

quiet_first : (b : ℕ) → is_quiet b ≡ true → (ys : List ℕ) → count_of mark (b ∷ ys) ≡ count_of mark ys
quiet_first b e ys = let other : nat_eq 60 b ≡ false = not-true (nat_eq 60 b) (and_second (is_plain b) (not (nat_eq 60 b)) e) in rw other refl

-- one byte before a quiet piece
quiet_cons : (b : ℕ) (xs : List ℕ) → is_quiet b ≡ true → Quiet xs → Quiet (b ∷ xs)
quiet_cons b xs e more = record {
  plain = and_from (is_plain b) (are_plain xs) (and_first (is_plain b) (not (nat_eq 60 b)) e) more.plain;
  count = λ ys. quiet_first b e (xs ++ ys) ∙ more.count ys;
}

-- a piece without `<`
pub quiet : (xs : List ℕ) → are_quiet xs ≡ true → Quiet xs
quiet [] e = empty
quiet (x ∷ xs) e = quiet_cons x xs (and_first (is_quiet x) (are_quiet xs) e) (quiet xs (and_second (is_quiet x) (are_quiet xs) e))

quiet_take : (n : ℕ) (xs : List ℕ) → are_quiet xs ≡ true → are_quiet (take n xs) ≡ true
quiet_take zero xs e = refl
quiet_take (suc n) [] e = refl
quiet_take (suc n) (x ∷ xs) e = and_from (is_quiet x) (are_quiet (take n xs)) (and_first (is_quiet x) (are_quiet xs) e) (quiet_take n xs (and_second (is_quiet x) (are_quiet xs) e))

quiet_drop : (n : ℕ) (xs : List ℕ) → are_quiet xs ≡ true → are_quiet (drop n xs) ≡ true
quiet_drop zero xs e = e
quiet_drop (suc n) [] e = refl
quiet_drop (suc n) (x ∷ xs) e = quiet_drop n xs (and_second (is_quiet x) (are_quiet xs) e)

pub quiet_part : (n m : ℕ) (xs : List ℕ) → are_quiet xs ≡ true → Quiet (take n (drop m xs))
quiet_part n m xs e = quiet (take n (drop m xs)) (quiet_take n (drop m xs) (quiet_drop m xs e))

quiet_get : (xs : List ℕ) (n d : ℕ) → are_quiet xs ≡ true → is_quiet d ≡ true → is_quiet (get_or xs n d) ≡ true
quiet_get [] n d e h = h
quiet_get (x ∷ xs) zero d e h = and_first (is_quiet x) (are_quiet xs) e
quiet_get (x ∷ xs) (suc n) d e h = quiet_get xs n d (and_second (is_quiet x) (are_quiet xs) e) h

glyph_quiet : (d : ℕ) → d < 10 → is_quiet (digit_glyph false d) ≡ true
glyph_quiet d lt = grind (arith, nat_tests)

digits_say : (k n : ℕ) (acc : List ℕ) → Quiet acc → Quiet (digits_onto k 10 false n acc)
digits_say zero n acc h = h
digits_say (suc k) n acc h =
    let small : n % 10 < 10 = omega arith in
    let more = quiet_cons (digit_glyph false (n % 10)) acc (glyph_quiet (n % 10) small) h in
    cond_both (nat_eq (n / 10) 0) _ _ Quiet (λ is. more) (λ other. digits_say k (n / 10) _ more)

pub number : (n : ℕ) → Quiet (decimal n)
unfolding digits
number n = digits_say 64 n [] empty

pub signed : (z : ℤ) → Quiet (signed_decimal z)
signed (pos n) = number n
signed (negsuc n) = quiet_cons 45 (decimal (suc n)) refl (number (suc n))

pub attribute_says : {value : List ℕ} (name : List ℕ) → are_quiet name ≡ true → Quiet value → Quiet (attribute name value)
unfolding attribute
attribute_says name e h = quiet (codes " ") refl ⊕ quiet name e ⊕ quiet (codes "=\"") refl ⊕ h ⊕ quiet (codes "\"") refl

pub size_says : (name : List ℕ) (n : ℕ) → are_quiet name ≡ true → Quiet (size name n)
unfolding size
size_says name n e = attribute_says name e (number n)

pub place_says : (name : List ℕ) (z : ℤ) → are_quiet name ≡ true → Quiet (place name z)
unfolding place
place_says name z e = attribute_says name e (signed z)

-- a name of an element that isn't `line`
pub record Tag (name : List ℕ) : Type 0 where
  pub opens : Quiet (codes "<" ++ name)
  pub is_quiet : are_quiet name ≡ true

pub leaf_says : {name attributes : List ℕ} → Tag name → Quiet attributes → Quiet (leaf name attributes)
leaf_says tag h = tag.opens ⊕ h ⊕ quiet (codes "/>\n") refl

-- what closes an element
closing : Quiet (codes "</")
closing = record { plain = refl; count = λ ys. refl }

pub element_says : {name attributes content : List ℕ} → Tag name → Quiet attributes → Quiet content → Quiet (element name attributes content)
element_says {name} tag h k = tag.opens ⊕ h ⊕ quiet (codes ">") refl ⊕ k ⊕ closing ⊕ quiet name tag.is_quiet ⊕ quiet (codes ">\n") refl

pub element_loud : {n : ℕ} {name attributes content : List ℕ} → Tag name → Quiet attributes → Says n content → Says n (element name attributes content)
element_loud {n} {name} tag h k = same (loud (tag.opens ⊕ h ⊕ quiet (codes ">") refl) ⊞ k ⊞ loud closing ⊞ loud (quiet name tag.is_quiet) ⊞ loud (quiet (codes ">\n") refl)) (omega arith)

digit_quiet : (n : ℕ) → is_quiet (digit n) ≡ true
digit_quiet n = quiet_get (codes "0123456789ABCDEF") n 48 refl refl

other_quiet : (b : ℕ) → ((nat_lt 31 b && nat_lt b 127) && not (nat_eq b 92)) ≡ true → nat_eq b 60 ≡ false → is_quiet b ≡ true
other_quiet b e other = grind (arith, nat_tests)

byte_says : (b : ℕ) → Quiet (escaped_byte b)
byte_says b =
    cond_both (nat_eq b 38) _ _ Quiet (λ is. quiet (codes "&amp;") refl) (λ no.
    cond_both (nat_eq b 60) _ _ Quiet (λ is. quiet (codes "&lt;") refl) (λ other.
    cond_both (nat_eq b 62) _ _ Quiet (λ is. quiet (codes "&gt;") refl) (λ no.
    cond_both (nat_eq b 34) _ _ Quiet (λ is. quiet (codes "&quot;") refl) (λ no.
    cond_both ((nat_lt 31 b && nat_lt b 127) && not (nat_eq b 92)) _ _ Quiet (λ is. quiet_cons b [] (other_quiet b is other) empty) (λ no.
    quiet_cons 92 _ refl (quiet_cons 120 _ refl (quiet_cons (digit (b / 16)) _ (digit_quiet (b / 16)) (quiet_cons (digit (b % 16)) [] (digit_quiet (b % 16)) empty))))))))

pub escaped_says : (bs : List ℕ) → Quiet (escaped bs)
escaped_says [] = empty
escaped_says (b ∷ bs) = byte_says b ⊕ escaped_says bs

plain_byte : (b : ℕ) → is_plain b ≡ true → IsPlainByte b
plain_byte b e = grind (arith, nat_tests)

pub all_plain : (xs : List ℕ) → are_plain xs ≡ true → All IsPlainByte xs
all_plain [] e = All-nil IsPlainByte
all_plain (x ∷ xs) e = All-cons IsPlainByte x xs (plain_byte x (and_first (is_plain x) (are_plain xs) e)) (all_plain xs (and_second (is_plain x) (are_plain xs) e))
