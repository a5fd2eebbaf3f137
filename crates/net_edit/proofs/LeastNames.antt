-- The least names of tails are names for them.
use Rattle.std.proofs.Common.{◌≡◌, ℕ, zero, suc, ◌+◌, ◌-◌, ◌<◌, ◌≤◌, ◌^◌, ◌||◌, Bool, true, false, List, [], ◌∷◌, ◌++◌, length, map, get_or, inl, inr, refl, sym, ap, ◌∙◌, arith}
use Rattle.std.specs.Prelude.{decimal}
use Rattle.std.specs.List.{list_any}
use Rattle.std.specs.Str.{bytes_eq}
use Rattle.std.proofs.lemmas.Bool.{false≢true, cases_order, cases_lt}
use Rattle.std.proofs.lemmas.Fmt.{decimal_injective}
use Rattle.std.proofs.lemmas.List.{get_or_append_left, get_or-append_right, length-append, length-map, get_or-map}
use Rattle.std.proofs.lemmas.List.Folds.{list_any_at}
use Rattle.std.proofs.lemmas.Slice.Eq.{bytes_eq-Decides}
use Rattle.netlist_core.specs.declared.netlist.NetName.{NetName}
use Rattle.netlist_core.specs.declared.netlist.Netlist.{Netlist}
use Rattle.netlist_core.specs.Netlists.{AreDistinct, IsNetlist}
use Rattle.net_edit.specs.TailNames.{tail_name, is_bit_of_vector, is_taken, AreLeastFree}

-- two numbers of one name are one
same_number : (a b : ℕ) → a < 2 ^ 32 → b < 2 ^ 32 → tail_name a ≡ tail_name b → a ≡ b
same_number a b l m e = let same : decimal a ≡ decimal b = cc in decimal_injective a b (omega (arith, l)) (omega (arith, m)) same

-- where a number stands among such numbers
record IsNumberAt (n : Netlist) (from : ℕ) (number : ℕ) : Type 0 where
  from_on : from ≤ number
  small : number < 2 ^ 32
  free : is_taken n (tail_name number) ≡ false

number_at : (n : Netlist) (from : ℕ) (ks : List ℕ) (d : ℕ) → AreLeastFree n from ks → (i : ℕ) → i < length ks → IsNumberAt n from (get_or ks i d)
number_at n from [] d free i lt = absurd (omega (arith, lt))
number_at n from (k ∷ ks) d free zero lt = record { from_on = free.0.from_on; small = free.0.small; free = free.0.free }
number_at n from (k ∷ ks) d free (suc i) lt =
    let r = number_at n (k + 1) ks d free.1 i (omega (arith, lt)) in
    let here = free.0.from_on in
    let more = r.from_on in
    record { from_on = omega (arith, here, more); small = r.small; free = r.free }

rising : (n : Netlist) (from : ℕ) (ks : List ℕ) (d : ℕ) → AreLeastFree n from ks → (i j : ℕ) → i < j → j < length ks → get_or ks i d < get_or ks j d
rising n from [] d free i j below lt = absurd (omega (arith, lt))
rising n from (k ∷ ks) d free i zero below lt = absurd (omega (arith, below))
rising n from (k ∷ ks) d free zero (suc j) below lt = let r = (number_at n (k + 1) ks d free.1 j (omega (arith, lt))).from_on in omega (arith, r)
rising n from (k ∷ ks) d free (suc i) (suc j) below lt = rising n (k + 1) ks d free.1 i j (omega (arith, below)) (omega (arith, lt))

one_place : (n : Netlist) (from : ℕ) (ks : List ℕ) (d : ℕ) → AreLeastFree n from ks → (i j : ℕ) → i < length ks → j < length ks → get_or ks i d ≡ get_or ks j d → i ≡ j
one_place n from ks d free i j l m e =
    elim (cases_order i j) [
      | inl same ↦ same
      | inr apart ↦ elim apart [
        | inl below ↦ let lt = rising n from ks d free i j below m in absurd (omega (arith, lt, e))
        | inr above ↦ let lt = rising n from ks d free j i above l in absurd (omega (arith, lt, e))
      ]
    ]

nowhere : NetName
nowhere = record { plain = []; text = [] }

-- the name of a free number is no net's
not_net : (n : Netlist) (number : ℕ) → is_taken n (tail_name number) ≡ false → (i : ℕ) → i < length n.nets → (get_or n.nets i nowhere).plain ≡ tail_name number → ⊥
not_net n number free i lt e =
    let p : NetName → Bool = λ net. bytes_eq net.plain (tail_name number) || is_bit_of_vector (tail_name number) net.text in
    let here : bytes_eq (get_or n.nets i nowhere).plain (tail_name number) ≡ true = (bytes_eq-Decides (get_or n.nets i nowhere).plain (tail_name number)).1 e in
    let any : list_any p n.nets ≡ true = list_any_at p n.nets i nowhere lt (ap (λ (b : Bool). b || is_bit_of_vector (tail_name number) (get_or n.nets i nowhere).text) here) in
    false≢true (sym free ∙ ap (λ (b : Bool). b || list_any (λ placed. bytes_eq placed.name (tail_name number)) n.instances) any)

module _ (n : Netlist) (ks : List ℕ) (ok : IsNetlist n) (free : AreLeastFree n 0 ks) where
  abbrev nets : List (List ℕ)
  nets = map (λ (net : NetName). net.plain) n.nets

  abbrev names : List (List ℕ)
  names = map tail_name ks

  nets_count : length nets ≡ length n.nets
  nets_count = length-map n.nets (λ (net : NetName). net.plain)

  names_count : length names ≡ length ks
  names_count = length-map ks tail_name

  at_left : (i : ℕ) (d : List ℕ) → i < length nets → get_or (nets ++ names) i d ≡ (get_or n.nets i nowhere).plain
  at_left i d lt = get_or_append_left nets names d i lt ∙ get_or-map (λ (net : NetName). net.plain) n.nets i nowhere d (omega (arith, lt, nets_count))

  at_right : (i : ℕ) (d : List ℕ) → length nets ≤ i → i - length nets < length ks → get_or (nets ++ names) i d ≡ tail_name (get_or ks (i - length nets) 0)
  at_right i d le lt = get_or-append_right nets names (length nets) i d refl le ∙ get_or-map tail_name ks (i - length nets) 0 d lt

  behind : (i : ℕ) → length nets ≤ i → i < length (nets ++ names) → i - length nets < length ks
  behind i le lt = omega (arith, lt, length-append nets names, names_count)

  apart : (i j : ℕ) (d : List ℕ) → i < length nets → length nets ≤ j → j - length nets < length ks → get_or (nets ++ names) i d ≡ get_or (nets ++ names) j d → ⊥
  apart i j d l le m e =
      let k = number_at n 0 ks 0 free (j - length nets) m in
      not_net n (get_or ks (j - length nets) 0) k.free i (omega (arith, l, nets_count)) (sym (at_left i d l) ∙ e ∙ at_right j d le m)

  both_right : (i j : ℕ) (d : List ℕ) → length nets ≤ i → length nets ≤ j → i - length nets < length ks → j - length nets < length ks → get_or (nets ++ names) i d ≡ get_or (nets ++ names) j d → i ≡ j
  both_right i j d li lj l m e =
      let a = number_at n 0 ks 0 free (i - length nets) l in
      let b = number_at n 0 ks 0 free (j - length nets) m in
      let same = same_number (get_or ks (i - length nets) 0) (get_or ks (j - length nets) 0) a.small b.small (sym (at_right i d li l) ∙ e ∙ at_right j d lj m) in
      let one = one_place n 0 ks 0 free (i - length nets) (j - length nets) l m same in
      omega (arith, one, li, lj)

  pub are_apart : AreDistinct (nets ++ names)
  are_apart i j d l m e =
      elim (cases_lt i (length nets)) [
        | inl il ↦ elim (cases_lt j (length nets)) [
          | inl jl ↦ ok.names i j d il jl (sym (get_or_append_left nets names d i il) ∙ e ∙ get_or_append_left nets names d j jl)
          | inr jr ↦ absurd (apart i j d il jr (behind j jr m) e)
        ]
        | inr ir ↦ elim (cases_lt j (length nets)) [
          | inl jl ↦ absurd (apart j i d jl ir (behind i ir l) (sym e))
          | inr jr ↦ both_right i j d ir jr (behind i ir l) (behind j jr m) e
        ]
      ]
