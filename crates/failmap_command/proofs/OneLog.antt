-- A text says one log at most.
use Rattle.std.proofs.Common.{◌≡◌, ℕ, suc, ◌<◌, ◌≤◌, List, [], ◌∷◌, ◌++◌, length, decimal, Some, refl, sym, ◌∙◌, append_assoc, arith, ⊎_elim}
use Rattle.std.specs.List.{slice_get}
use Rattle.std.specs.Str.Parse.{AllDigits}
use Rattle.std.proofs.lemmas.Fmt.{decimal_injective, decimal_is_IsNumeral}
use Rattle.std.proofs.lemmas.Str.Parse.{digit_from_value}
use Rattle.fail_map.specs.declared.line.LogLine.{LogLine}
use Rattle.fail_map.specs.Logs.{most_number, parted, rows_of, IsBlank, IsLogLine, IsLogText}

-- a blank is below all digits
below_digits : (b : ℕ) → IsBlank b → b < 48
below_digits b = ⊎_elim (λ (e : b ≡ 32). omega (arith, e)) (λ (e : b ≡ 9). omega (arith, e))

-- digits up to the first blank
up_to_blank : (m n : ℕ) → IsBlank m → IsBlank n → (a b r s : List ℕ) → AllDigits 10 a → AllDigits 10 b → a ++ m ∷ r ≡ b ++ n ∷ s → (a ≡ b) × (r ≡ s)
up_to_blank m n k l [] [] r s p q e = (refl, cc)
up_to_blank m n k l [] (y ∷ b) r s p q e = let d = digit_from_value y q.0 in let here : m ≡ y = cc in let low = below_digits m k in absurd (omega arith)
up_to_blank m n k l (x ∷ a) [] r s p q e = let d = digit_from_value x p.0 in let here : x ≡ n = cc in let low = below_digits n l in absurd (omega arith)
up_to_blank m n k l (x ∷ a) (y ∷ b) r s p q e =
    let here : x ≡ y = cc in
    let rest : a ++ m ∷ r ≡ b ++ n ∷ s = cc in
    let both = up_to_blank m n k l a b r s p.1 q.1 rest in
    (cc (here, both.0), both.1)

digits : (n : ℕ) → n ≤ most_number → AllDigits 10 (decimal n)
digits n small = let n_is = decimal_is_IsNumeral n (omega (arith, small)) in n_is.0.1

number_first : (a b : ℕ) → IsBlank a → IsBlank b → (m n : ℕ) (r s : List ℕ) → m ≤ most_number → n ≤ most_number → decimal m ++ a ∷ r ≡ decimal n ++ b ∷ s → (m ≡ n) × (r ≡ s)
number_first a b k l m n r s p q e =
    let both = up_to_blank a b k l (decimal m) (decimal n) r s (digits m p) (digits n q) e in
    (decimal_injective m n (omega (arith, p)) (omega (arith, q)) both.0, both.1)

line_is : (a b : LogLine) → a.pattern ≡ b.pattern → a.scan ≡ b.scan → a.chain ≡ b.chain → a.index ≡ b.index → a ≡ b
line_is a b p s c i = λ j. record { pattern = p j; scan = s j; chain = c j; index = i j }

-- a row in other parentheses
parts_of : (a b c : ℕ) (line : LogLine) → parted a b c line ≡ decimal line.pattern ++ a ∷ (decimal line.scan ++ b ∷ (decimal line.chain ++ c ∷ decimal line.index))
parts_of a b c line =
    append_assoc (decimal line.pattern ++ a ∷ decimal line.scan) (b ∷ decimal line.chain) (c ∷ decimal line.index)
    ∙ append_assoc (decimal line.pattern) (a ∷ decimal line.scan) ((b ∷ decimal line.chain) ++ c ∷ decimal line.index)

one_line : (row : List ℕ) (a b : LogLine) → IsLogLine row a → IsLogLine row b → a ≡ b
one_line row a b x y =
    let whole = sym (parts_of x.first x.second x.third a) ∙ sym x.is ∙ y.is ∙ parts_of y.first y.second y.third b in
    let p = number_first x.first y.first x.blanks.0 y.blanks.0 a.pattern b.pattern _ _ x.small.pattern y.small.pattern whole in
    let s = number_first x.second y.second x.blanks.1 y.blanks.1 a.scan b.scan _ _ x.small.scan y.small.scan p.1 in
    let c = number_first x.third y.third x.blanks.2 y.blanks.2 a.chain b.chain _ _ x.small.chain y.small.chain s.1 in
    line_is a b p.0 s.0 c.0 (decimal_injective a.index b.index (omega (arith, x.small.index)) (omega (arith, y.small.index)) c.1)

abbrev AreLines : List (List ℕ) → List LogLine → Type 0
AreLines rows log = (k : ℕ) (row : List ℕ) (line : LogLine) → slice_get rows k ≡ Some row → slice_get log k ≡ Some line → IsLogLine row line

one_by_one : (rows : List (List ℕ)) (a b : List LogLine) → length a ≡ length rows → length b ≡ length rows → AreLines rows a → AreLines rows b → a ≡ b
one_by_one [] [] [] m n x y = refl
one_by_one [] [] (v ∷ b) m n x y = absurd (omega (arith, n))
one_by_one [] (u ∷ a) b m n x y = absurd (omega (arith, m))
one_by_one (row ∷ rows) [] b m n x y = absurd (omega (arith, m))
one_by_one (row ∷ rows) (u ∷ a) [] m n x y = absurd (omega (arith, n))
one_by_one (row ∷ rows) (u ∷ a) (v ∷ b) m n x y =
    let here = one_line row u v (x 0 row u refl refl) (y 0 row v refl refl) in
    let rest = one_by_one rows a b (omega (arith, m)) (omega (arith, n)) (λ k. x (suc k)) (λ k. y (suc k)) in
    λ i. here i ∷ rest i

pub one_log : (text : List ℕ) (a b : List LogLine) → IsLogText text a → IsLogText text b → a ≡ b
one_log text a b x y = one_by_one (rows_of text) a b x.count y.count x.each y.each
