-- The words say an order exactly where the definition gives it.
use Rattle.std.proofs.Common.{◌≡◌, ◌≢◌, ℕ, zero, suc, ◌<◌, ◌==◌, Bool, true, false, cond, ◌&&◌, ◌||◌, not, List, [], ◌∷◌, ◌++◌, length, get_or, codes, Option, Some, None, inl, inr, refl, sym, ap, ◌∙◌, subst, arith}
use Rattle.std.specs.Prelude.{◌↔◌, option_and_then}
use Rattle.std.specs.List.{list_all}
use Rattle.std.specs.Str.{bytes_eq}
use Rattle.std.proofs.lemmas.Bool.Decides.{nat_tests}
use Rattle.std.proofs.lemmas.Option.{same_Some}
use Rattle.std.proofs.lemmas.Slice.Eq.{bytes_eq-Decides}
use Rattle.base_types.proofs.TruthValues.{and_first, and_second}
use Rattle.clap.specs.Lexer.{has_byte, strip_byte, name_and_value, long_of_rest, long_of}
use Rattle.clap.proofs.CutLemmas.{Lacks}
use Rattle.clap.proofs.LexerLemmas.{name_and_value-at, name_and_value-without}
use Rattle.scan_words.specs.declared.order.Order.{Order}
use Rattle.scan_words.specs.declared.form.WordKind.TheVariants as kinds
use Rattle.scan_words.specs.declared.verb.Verb.{Verb}
use Rattle.scan_words.specs.declared.verb.Verb.TheVariants.{Rewire, Trace, Check, Reorder, Play, Bound, Verify, Failmap, Bench, Balance, Draw}
use Rattle.scan_words.specs.Form.{◌>>=◌, Text, Part, is_name, is_value, word_kind, long_kind, with_part, word_parts, parts_from, values_of, only_if}
use Rattle.scan_words.specs.Verbs.{options_of, verb_name, option_names, takes_further, verb_of}
use Rattle.scan_words.specs.Orders.{values_by, is_count, order_by, verb_order, order_in}
use Rattle.scan_words.proofs.Orders.{verb_word}
use Rattle.scan_words.proofs.Sim.{part_first}
use Rattle.scan_words.specs.Written.{dashed, attached, IsSpelled, AreSpelled, Says}

-- a name that can be told from what is attached to it
abbrev is_clear : Text → Bool
is_clear [] = false
is_clear (b ∷ bs) = not (has_byte 61 (b ∷ bs))

clear_names : (verb : Verb) → list_all is_clear (option_names verb) ≡ true
clear_names Rewire = refl
clear_names Trace = refl
clear_names Check = refl
clear_names Reorder = refl
clear_names Play = refl
clear_names Bound = refl
clear_names Verify = refl
clear_names Failmap = refl
clear_names Bench = refl
clear_names Balance = refl
clear_names Draw = refl

clear_among : (names : List Text) (name : Text) → list_all is_clear names ≡ true → is_name names name ≡ true → is_clear name ≡ true
clear_among [] name all h = absurd cc
clear_among (n ∷ ns) name all h =
    let cases : (b : Bool) → bytes_eq n name ≡ b → (b || is_name ns name) ≡ true → is_clear name ≡ true
    = λ b. elim b as (λ b. bytes_eq n name ≡ b → (b || is_name ns name) ≡ true → is_clear name ≡ true) [
      | true ↦ λ e k. subst (λ (t : Text). is_clear t ≡ true) ((bytes_eq-Decides n name).0 e) (and_first (is_clear n) (list_all is_clear ns) all)
      | false ↦ λ e k. clear_among ns name (and_second (is_clear n) (list_all is_clear ns) all) k
    ]
    in cases (bytes_eq n name) refl h

lacks : (xs : Text) → has_byte 61 xs ≡ false → Lacks 61 xs
lacks [] h = λ i lt. absurd (omega (arith, lt))
lacks (x ∷ xs) h =
    let cases : (b : Bool) → (x == 61) ≡ b → (b || has_byte 61 xs) ≡ false → Lacks 61 (x ∷ xs)
    = λ b. elim b as (λ b. (x == 61) ≡ b → (b || has_byte 61 xs) ≡ false → Lacks 61 (x ∷ xs)) [
      | true ↦ λ e k. absurd cc
      | false ↦ λ e k. λ i. elim i as (λ i. i < length (x ∷ xs) → get_or (x ∷ xs) i 0 ≢ 61) [
        | zero ↦ λ lt. grind (arith, nat_tests)
        | suc j ↦ λ lt. lacks xs k j (omega (arith, lt))
      ]
    ]
    in cases (x == 61) refl h

clear_lacks : (name : Text) → is_clear name ≡ true → Lacks 61 name
clear_lacks [] h = absurd cc
clear_lacks (b ∷ bs) h = lacks (b ∷ bs) (not_true (has_byte 61 (b ∷ bs)) h)
  where
    not_true : (b : Bool) → not b ≡ true → b ≡ false
    not_true true h = absurd cc
    not_true false h = refl

pub alone_is : (name : Text) → is_clear name ≡ true → long_of (dashed name) ≡ Some (name, None)
alone_is [] h = absurd cc
alone_is (b ∷ bs) h = ap Some (name_and_value-without (b ∷ bs) (clear_lacks (b ∷ bs) h))

pub attached_is : (name value : Text) → is_clear name ≡ true → long_of (attached name value) ≡ Some (name, Some value)
attached_is [] value h = absurd cc
attached_is (b ∷ bs) value h = ap Some (name_and_value-at (b ∷ bs) value (clear_lacks (b ∷ bs) h))

-- what stands around the first `=`
record Around (xs : Text) : Type 0 where
  before : Text
  after : Text
  is : xs ≡ before ++ 61 ∷ after
  clear : Lacks 61 before

lacks_more : (x : ℕ) (xs : Text) → (x == 61) ≡ false → Lacks 61 xs → Lacks 61 (x ∷ xs)
lacks_more x xs e h = λ i. elim i as (λ i. i < length (x ∷ xs) → get_or (x ∷ xs) i 0 ≢ 61) [
  | zero ↦ λ lt. grind (arith, nat_tests)
  | suc j ↦ λ lt. h j (omega (arith, lt))
]

around : (xs : Text) → has_byte 61 xs ≡ true → Around xs
around [] h = absurd cc
around (x ∷ xs) h =
    let cases : (b : Bool) → (x == 61) ≡ b → (b || has_byte 61 xs) ≡ true → Around (x ∷ xs)
    = λ b. elim b as (λ b. (x == 61) ≡ b → (b || has_byte 61 xs) ≡ true → Around (x ∷ xs)) [
      | true ↦ λ e k. let same : x ≡ 61 = grind (arith, nat_tests) in record { before = []; after = xs; is = ap (λ (n : ℕ). n ∷ xs) same; clear = λ i lt. absurd (omega (arith, lt)) }
      | false ↦ λ e k. let a = around xs k in record { before = x ∷ a.before; after = a.after; is = ap (λ (ys : Text). x ∷ ys) a.is; clear = lacks_more x a.before e a.clear }
    ]
    in cases (x == 61) refl h

abbrev joined : Text → Option Text → Text
joined name None = name
joined name (Some value) = name ++ 61 ∷ value

rejoined : (xs : Text) → joined (name_and_value xs).0 (name_and_value xs).1 ≡ xs
rejoined xs =
    let cases : (b : Bool) → has_byte 61 xs ≡ b → joined (name_and_value xs).0 (name_and_value xs).1 ≡ xs
    = λ b. elim b as (λ b. has_byte 61 xs ≡ b → joined (name_and_value xs).0 (name_and_value xs).1 ≡ xs) [
      | true ↦ λ e. let a = around xs e in
          ap (λ (p : Text × Option Text). joined p.0 p.1) (ap name_and_value a.is ∙ name_and_value-at a.before a.after a.clear) ∙ sym a.is
      | false ↦ λ e. ap (λ (p : Text × Option Text). joined p.0 p.1) (name_and_value-without xs (lacks xs e))
    ]
    in cases (has_byte 61 xs) refl

-- a word that is an option's is spelled with two hyphens
long_back : (word name : Text) (value : Option Text) → long_of word ≡ Some (name, value) → word ≡ dashed (joined name value)
long_back [] name value h = absurd cc
long_back (x ∷ xs) name value h =
    let cases : (b : Bool) → (x == 45) ≡ b → option_and_then long_of_rest (option_and_then (strip_byte 45) (cond b (Some xs) None)) ≡ Some (name, value) → x ∷ xs ≡ dashed (joined name value)
    = λ b. elim b as (λ b. (x == 45) ≡ b → option_and_then long_of_rest (option_and_then (strip_byte 45) (cond b (Some xs) None)) ≡ Some (name, value) → x ∷ xs ≡ dashed (joined name value)) [
      | true ↦ λ e k. let same : x ≡ 45 = grind (arith, nat_tests) in ap (λ (n : ℕ). n ∷ xs) same ∙ ap (λ (ys : Text). 45 ∷ ys) (second xs k)
      | false ↦ λ e k. absurd cc
    ]
    in cases (x == 45) refl h
  where
    third : (ys : Text) → long_of_rest ys ≡ Some (name, value) → ys ≡ joined name value
    third [] k = absurd cc
    third (y ∷ ys) k = sym (rejoined (y ∷ ys)) ∙ ap (λ (p : Text × Option Text). joined p.0 p.1) (same_Some _ _ k)

    second : (ys : Text) → option_and_then long_of_rest (strip_byte 45 ys) ≡ Some (name, value) → ys ≡ 45 ∷ joined name value
    second [] k = absurd cc
    second (y ∷ ys) k =
        let cases : (b : Bool) → (y == 45) ≡ b → option_and_then long_of_rest (cond b (Some ys) None) ≡ Some (name, value) → y ∷ ys ≡ 45 ∷ joined name value
        = λ b. elim b as (λ b. (y == 45) ≡ b → option_and_then long_of_rest (cond b (Some ys) None) ≡ Some (name, value) → y ∷ ys ≡ 45 ∷ joined name value) [
          | true ↦ λ e j. let same : y ≡ 45 = grind (arith, nat_tests) in ap (λ (n : ℕ). n ∷ ys) same ∙ ap (λ (zs : Text). 45 ∷ zs) (third ys j)
          | false ↦ λ e j. absurd cc
        ]
        in cases (y == 45) refl k

module _ (verb : Verb) where
  abbrev parts : Option Text → List Text → Option (List Part)
  parts want words = parts_from (option_names verb) (takes_further verb) want words

  clear : (name : Text) → is_name (option_names verb) name ≡ true → is_clear name ≡ true
  clear name h = clear_among (option_names verb) name (clear_names verb) h

  -- what is spelled is read
  alone_read : (p : Part) (ps : List Part) (rest : List Text) → is_name (option_names verb) p.0 ≡ true → is_value p.1 ≡ true → parts None rest ≡ Some ps
      → parts None (dashed p.0 ∷ p.1 ∷ rest) ≡ Some (p ∷ ps)
  unfolding parts_from word_kind
  alone_read p ps rest named value ih = rw (alone_is p.0 (clear p.0 named), named, value, ih) refl

  attached_read : (p : Part) (ps : List Part) (rest : List Text) → is_name (option_names verb) p.0 ≡ true → is_value p.1 ≡ true → parts None rest ≡ Some ps
      → parts None (attached p.0 p.1 ∷ rest) ≡ Some (p ∷ ps)
  unfolding parts_from word_kind
  attached_read p ps rest named value ih = rw (attached_is p.0 p.1 (clear p.0 named), named, value, ih) refl

  further_read : (p : Part) (ps : List Part) (rest : List Text) → p.0 ≡ codes "further" → takes_further verb ≡ true → is_value p.1 ≡ true → parts None rest ≡ Some ps
      → parts None (p.1 ∷ rest) ≡ Some (p ∷ ps)
  unfolding parts_from word_kind
  further_read p ps rest name takes value ih = rw (value, takes, ih) (ap (λ (n : Text). Some ((n, p.1) ∷ ps)) (sym name))

  spelled_read : (ps : List Part) (words : List Text) → AreSpelled verb ps words → parts None words ≡ Some ps
  unfolding parts_from
  spelled_read [] words h = rw h refl
  spelled_read (p ∷ ps) words h =
      let ih = spelled_read ps h.0 h.3 in
      elim h.2 [
        | inl a ↦ ap (parts None) a.1 ∙ alone_read p ps h.0 a.0 h.1 ih
        | inr more ↦ elim more [
          | inl a ↦ ap (parts None) a.1 ∙ attached_read p ps h.0 a.0 h.1 ih
          | inr f ↦ ap (parts None) f.2 ∙ further_read p ps h.0 f.0 f.1 h.1 ih
        ]
      ]

  -- what is read is spelled
  abbrev Read : Option Text → List Text → List Part → Type 0
  Read None words ps = AreSpelled verb ps words
  Read (Some name) words ps = (value : Text) × (rest : List Text) × (qs : List Part) × (words ≡ value ∷ rest) × (ps ≡ (name, value) ∷ qs) × (is_value value ≡ true) × AreSpelled verb qs rest

  abbrev Reads : List Text → Type 0
  Reads words = (want : Option Text) (ps : List Part) → parts want words ≡ Some ps → Read want words ps

  module _ (w : Text) (ws : List Text) (ih : Reads ws) (ps : List Part) where
    value_read : (name : Text) → parts (Some name) (w ∷ ws) ≡ Some ps → Read (Some name) (w ∷ ws) ps
    unfolding parts_from
    value_read name h =
        let cases : (b : Bool) → is_value w ≡ b → cond b (with_part (name, w) (parts None ws)) None ≡ Some ps → Read (Some name) (w ∷ ws) ps
        = λ b. elim b as (λ b. is_value w ≡ b → cond b (with_part (name, w) (parts None ws)) None ≡ Some ps → Read (Some name) (w ∷ ws) ps) [
          | true ↦ λ e k. let q = part_first (name, w) (parts None ws) ps k in (w, ws, q.0, refl, q.2, e, ih None q.0 q.1)
          | false ↦ λ e k. absurd cc
        ]
        in cases (is_value w) refl h

    -- the first part is this one
    first_is : (p : Part) → is_value p.1 ≡ true → IsSpelled verb p (w ∷ ws) ws → with_part p (parts None ws) ≡ Some ps → AreSpelled verb ps (w ∷ ws)
    first_is p value spelled k =
        let q = part_first p (parts None ws) ps k in
        subst (λ (xs : List Part). AreSpelled verb xs (w ∷ ws)) (sym q.2) (ws, value, spelled, ih None q.0 q.1)

    plain_read : is_value w ≡ true → cond (takes_further verb) (with_part (codes "further", w) (parts None ws)) None ≡ Some ps → AreSpelled verb ps (w ∷ ws)
    plain_read value h =
        let cases : (b : Bool) → takes_further verb ≡ b → cond b (with_part (codes "further", w) (parts None ws)) None ≡ Some ps → AreSpelled verb ps (w ∷ ws)
        = λ b. elim b as (λ b. takes_further verb ≡ b → cond b (with_part (codes "further", w) (parts None ws)) None ≡ Some ps → AreSpelled verb ps (w ∷ ws)) [
          | true ↦ λ e k. first_is (codes "further", w) value (inr (inr (refl, e, refl))) k
          | false ↦ λ e k. absurd cc
        ]
        in cases (takes_further verb) refl h

    behind_is : (name : Text) → is_name (option_names verb) name ≡ true → w ≡ dashed name → parts (Some name) ws ≡ Some ps → AreSpelled verb ps (w ∷ ws)
    behind_is name named is k =
        let r = ih (Some name) ps k in
        subst (λ (xs : List Part). AreSpelled verb xs (w ∷ ws)) (sym r.4)
        (r.1, r.5, inl (named, ap (λ (a : Text). a ∷ ws) is ∙ ap (λ (b : List Text). dashed name ∷ b) r.3), r.6)

    long_read : (l : Option (Text × Option Text)) → long_of w ≡ l → word_parts (takes_further verb) w (long_kind (option_names verb) l) l (λ want. parts want ws) ≡ Some ps
        → AreSpelled verb ps (w ∷ ws)
    long_read None is h = absurd cc
    long_read (Some (name, None)) is h =
        let cases : (b : Bool) → is_name (option_names verb) name ≡ b → word_parts (takes_further verb) w (cond b kinds.Alone kinds.Wrong) (Some (name, None)) (λ want. parts want ws) ≡ Some ps → AreSpelled verb ps (w ∷ ws)
        = λ b. elim b as (λ b. is_name (option_names verb) name ≡ b → word_parts (takes_further verb) w (cond b kinds.Alone kinds.Wrong) (Some (name, None)) (λ want. parts want ws) ≡ Some ps → AreSpelled verb ps (w ∷ ws)) [
          | true ↦ λ e k. behind_is name e (long_back w name None is) k
          | false ↦ λ e k. absurd cc
        ]
        in cases (is_name (option_names verb) name) refl h
    long_read (Some (name, Some value)) is h =
        let cases : (b : Bool) → (is_name (option_names verb) name && is_value value) ≡ b → word_parts (takes_further verb) w (cond b kinds.Attached kinds.Wrong) (Some (name, Some value)) (λ want. parts want ws) ≡ Some ps → AreSpelled verb ps (w ∷ ws)
        = λ b. elim b as (λ b. (is_name (option_names verb) name && is_value value) ≡ b → word_parts (takes_further verb) w (cond b kinds.Attached kinds.Wrong) (Some (name, Some value)) (λ want. parts want ws) ≡ Some ps → AreSpelled verb ps (w ∷ ws)) [
          | true ↦ λ e k. first_is (name, value) (and_second _ _ e) (inr (inl (and_first _ _ e, ap (λ (a : Text). a ∷ ws) (long_back w name (Some value) is)))) k
          | false ↦ λ e k. absurd cc
        ]
        in cases (is_name (option_names verb) name && is_value value) refl h

    word_read : parts None (w ∷ ws) ≡ Some ps → AreSpelled verb ps (w ∷ ws)
    unfolding parts_from word_kind
    word_read h =
        let cases : (b : Bool) → is_value w ≡ b → word_parts (takes_further verb) w (cond b kinds.Plain (long_kind (option_names verb) (long_of w))) (long_of w) (λ want. parts want ws) ≡ Some ps → AreSpelled verb ps (w ∷ ws)
        = λ b. elim b as (λ b. is_value w ≡ b → word_parts (takes_further verb) w (cond b kinds.Plain (long_kind (option_names verb) (long_of w))) (long_of w) (λ want. parts want ws) ≡ Some ps → AreSpelled verb ps (w ∷ ws)) [
          | true ↦ λ e k. plain_read e k
          | false ↦ λ e k. long_read (long_of w) refl k
        ]
        in cases (is_value w) refl h

  read_spelled : (words : List Text) → Reads words
  unfolding parts_from
  read_spelled [] None ps h = subst (λ (xs : List Part). AreSpelled verb xs []) (same_Some _ _ h) refl
  read_spelled [] (Some name) ps h = absurd cc
  read_spelled (w ∷ ws) None ps h = word_read w ws (read_spelled ws) ps h
  read_spelled (w ∷ ws) (Some name) ps h = value_read w ws (read_spelled ws) ps name h

verb_at : (verb : Verb) → verb_of (verb_name verb) ≡ Some verb
unfolding verb_of
verb_at Rewire = refl
verb_at Trace = refl
verb_at Check = refl
verb_at Reorder = refl
verb_at Play = refl
verb_at Bound = refl
verb_at Verify = refl
verb_at Failmap = refl
verb_at Bench = refl
verb_at Balance = refl
verb_at Draw = refl

order_at : (verb : Verb) (behind : List Text) (ps : List Part) → parts_from (option_names verb) (takes_further verb) None behind ≡ Some ps
    → order_in (verb_name verb ∷ behind) ≡ order_by verb (λ name. values_of name ps)
unfolding order_in verb_order
order_at verb behind ps is = rw (verb_at verb, is) refl

-- an order that the words say is read off them
pub says_read : (words : List Text) (order : Order) → Says words order → order_in words ≡ Some order
says_read words order s =
    ap order_in s.command ∙ order_at order.verb s.behind s.parts (spelled_read order.verb s.parts s.behind s.spelled) ∙ s.values

-- an order keeps the command that it is made for
order_verb : (verb : Verb) (values : Text → List Text) (order : Order) → order_by verb values ≡ Some order → verb ≡ order.verb
unfolding order_by
order_verb verb values order h = found (values_by values (options_of verb)) h
  where
    counted : (c : Option (Unit {0})) (given : List Text) → (c >>= λ counted. Some (record { verb = verb; values = given; further = values (codes "further") })) ≡ Some order → verb ≡ order.verb
    counted None given k = absurd cc
    counted (Some done) given k = ap (λ (o : Order). o.verb) (same_Some _ _ k)

    found : (o : Option (List Text)) → (o >>= λ given. only_if (is_count (takes_further verb) (length (values (codes "further")))) >>= λ counted. Some (record { verb = verb; values = given; further = values (codes "further") })) ≡ Some order → verb ≡ order.verb
    found None k = absurd cc
    found (Some given) k = counted (only_if (is_count (takes_further verb) (length (values (codes "further"))))) given k

-- what is read off the words they say
parts_say : (verb : Verb) (behind : List Text) (order : Order) (o : Option (List Part)) → parts_from (option_names verb) (takes_further verb) None behind ≡ o
    → (o >>= λ parts. order_by verb (λ name. values_of name parts)) ≡ Some order → Says (verb_name verb ∷ behind) order
parts_say verb behind order None is h = absurd cc
parts_say verb behind order (Some ps) is h =
    subst (λ (v : Verb). parts_from (option_names v) (takes_further v) None behind ≡ Some ps → order_by v (λ name. values_of name ps) ≡ Some order → Says (verb_name v ∷ behind) order)
    (sym (order_verb verb (λ name. values_of name ps) order h))
    (λ read made. record { behind = behind; parts = ps; command = refl; spelled = read_spelled order.verb behind None ps read; values = made }) is h

verb_says : (command : Text) (behind : List Text) (order : Order) (o : Option Verb) → verb_of command ≡ o → (o >>= λ verb. verb_order verb behind) ≡ Some order → Says (command ∷ behind) order
unfolding verb_order
verb_says command behind order None is h = absurd cc
verb_says command behind order (Some verb) is h =
    subst (λ (c : Text). Says (c ∷ behind) order) (sym (verb_word command verb is)) (parts_say verb behind order (parts_from (option_names verb) (takes_further verb) None behind) refl h)

pub read_says : (words : List Text) (order : Order) → order_in words ≡ Some order → Says words order
unfolding order_in
read_says [] order h = absurd cc
read_says (command ∷ behind) order h = verb_says command behind order (verb_of command) refl h

pub form : (words : List Text) (order : Order) → (Says words order ↔ order_in words ≡ Some order)
form words order = (says_read words order, read_says words order)
