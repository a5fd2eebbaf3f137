use Rattle.std.proofs.Common.{rules, ◌≡◌, ◌<◌, ◌≤◌, ◌^◌, ℕ, decimal, Bool, true, false, nat_le, List, refl, sym, ap, ◌∙◌, subst, arith}
use Rattle.std.proofs.lemmas.Fmt.{decimal_injective}
use Rattle.std.proofs.lemmas.Bool.Decides.{nat_tests}
use Rattle.scan_words.specs.Form.{Text}
use Rattle.scan_words.specs.Table.{is_number}
use Rattle.scan_words.proofs.Numbers.{number_in, passes}
use Rattle.scan_words.proofs.table.is_number.Goals as goal

-- the test of a number's decimal, by whether the number is from one to another
decided : (low high number : ℕ) (value : Text) (t : Bool) → low ≤ high → high < 2 ^ 32 → number < 2 ^ 32 → value ≡ decimal number
    → (t ≡ true → (low ≤ number) × (number ≤ high)) → ((low ≤ number) × (number ≤ high) → t ≡ true) → t ≡ is_number low high value
decided low high number value t order small least is holds back = cases t (is_number low high value) refl refl
  where
    cases : (a b : Bool) → t ≡ a → is_number low high value ≡ b → t ≡ is_number low high value
    cases true b e f = let in_it = holds e in e ∙ sym (passes low high number value in_it.0 in_it.1 is)
    cases false false e f = e ∙ sym f
    cases false true e f =
        let other = number_in low high value order f in
        let most = other.most in
        let same = decimal_injective number other.number (omega (arith, least)) (omega (arith, most, small)) (sym is ∙ other.is) in
        let both = back (let l = other.least in (omega (arith, l, same), omega (arith, most, same))) in
        absurd cc

none : (low high : ℕ) (value : Text) → low ≤ high → high < 2 ^ 32 → ((number : ℕ) → number < 2 ^ 32 → value ≡ decimal number → ⊥) → false ≡ is_number low high value
none low high value order small no_one = cases (is_number low high value) refl
  where
    cases : (b : Bool) → is_number low high value ≡ b → false ≡ is_number low high value
    cases false e = sym e
    cases true e =
        let other = number_in low high value order e in
        let most = other.most in
        absurd (no_one other.number (omega (arith, most, small)) other.is)

pub returns-then-low-number : goal.returns-then-low-number
returns-then-low-number c =
    let fits : c.in-Some.number < 2 ^ 32 = search rules in
    decided c.args.low c.args.high c.in-Some.number c.args.value.now (nat_le c.in-Some.number c.args.high) c.requires.order c.ranges.high.fits fits c.in-Some.ensures.value
    (λ e. (c.if-low-number.true, grind (arith, nat_tests))) (λ both. let le = both.1 in grind (arith, nat_tests))

pub returns-else-low-number : goal.returns-else-low-number
returns-else-low-number c =
    let fits : c.in-Some.number < 2 ^ 32 = search rules in
    decided c.args.low c.args.high c.in-Some.number c.args.value.now (nat_le c.args.low c.in-Some.number) c.requires.order c.ranges.high.fits fits c.in-Some.ensures.value
    (λ e. let lt = c.if-low-number.false in let le : c.args.low ≤ c.in-Some.number = grind (arith, nat_tests) in absurd (omega (arith, lt, le))) (λ both. let le = both.0 in grind (arith, nat_tests))

pub returns-in-None : goal.returns-in-None
returns-in-None c = none c.args.low c.args.high c.args.value.now c.requires.order c.ranges.high.fits c.in-None.ensures.value
