-- Names and labels at the front of a head's statement stay.
use Rattle.std.proofs.Common.{◌≡◌, ℕ, zero, suc, ◌+◌, ◌<◌, ◌≤◌, Bool, true, false, ◌&&◌, cond, eqb, inl, inr, List, [], ◌∷◌, ◌++◌, length, take, drop, codes, Option, Some, None, refl, sym, ap, ◌∙◌, subst, arith, append_assoc}
use Rattle.std.specs.Str.{bytes_eq}
use Rattle.std.proofs.lemmas.Bool.{cases_Bool, true≢false}
use Rattle.std.proofs.lemmas.List.{map-append}
use Rattle.std.proofs.lemmas.Slice.Eq.{bytes_eq-Decides}
use Rattle.token_forms.specs.Tokens.{Token}
use Rattle.token_forms.specs.Parts.{token_texts}
use Rattle.stil_tokens.specs.StilStatements.{token_ends, depth_behind, len_in}
use Rattle.stil_syntax.specs.Names.{is_word, is_string, string_at, name_at}
use Rattle.stil_syntax.specs.Shapes.{colon_at, label_by, label_at, behind_within, behind_labels}
use Rattle.stil_blocks.specs.Statements.{begins_word, has_word}
use Rattle.head_alike.specs.Steps.{starts_behind, AreFree}
use Rattle.head_alike.specs.Erased.{erased_from, erased_statement}
use Rattle.head_alike.proofs.Words.{colon_starts}
use Rattle.head_alike.proofs.Ends.{len_over, take_over, drop_over}
use Rattle.head_alike.proofs.Names.{name_word, name_string, name_none, label_is, behind_none, behind_one}
use Rattle.scan_verify.specs.Staying.{staying, in_statement, kept_behind, behind_name}
use Rattle.scan_verify.proofs.alike.Cutting.{staying_none, staying_cut, take_on, drop_on, colon_end, colon_depth}

-- what is left behind a name is shorter
abbrev rest_of : Option (List ℕ × List Token) → List Token
rest_of None = []
rest_of (Some n) = n.1

no_name : name_at [] ≡ None
unfolding name_at
no_name = refl

abbrev chosen : Bool → List ℕ × List Token → List ℕ × List Token → List ℕ × List Token
chosen b x y = cond b x y

string_by : (b : Bool) (n m : List ℕ) (u : Token) (us : List Token) → length ((chosen b (n, us) (m, u ∷ us)).1) ≤ length (u ∷ us)
string_by true n m u us = omega arith
string_by false n m u us = omega arith

string_short : (t : Token) (ts : List Token) → length ((string_at t ts).1) ≤ length ts
string_short t [] = omega arith
string_short t (u ∷ us) = string_by (is_word u.text && eqb u.start t.end) _ _ u us

none_some : (n : List ℕ × List Token) → None ≡ Some n → ⊥
none_some n e = cc

name_short : (ts : List Token) (x : List ℕ) (r : List Token) → name_at ts ≡ Some (x, r) → length r < length ts
name_short [] x r e = absurd (none_some (x, r) (sym no_name ∙ e))
name_short (t ∷ ts) x r e = elim (cases_Bool (is_word t.text)) [
  | inl w ↦ let same : length ts ≡ length r = ap (λ (o : Option (List ℕ × List Token)). length (rest_of o)) (sym (name_word t ts w) ∙ e) in omega (arith, same)
  | inr w ↦ elim (cases_Bool (is_string t.text)) [
    | inl q ↦ let same : length ((string_at t ts).1) ≡ length r = ap (λ (o : Option (List ℕ × List Token)). length (rest_of o)) (sym (name_string t ts w q) ∙ e) in let le = string_short t ts in omega (arith, same, le)
    | inr q ↦ absurd (none_some (x, r) (sym (name_none t ts w q) ∙ e))
  ]
]

colon_by : (b : Bool) (us rest : List Token) → cond b (Some us) None ≡ Some rest → us ≡ rest
colon_by true us rest e = cc
colon_by false us rest e = absurd cc

label_by_name : (ts : List Token) (n : Option (List ℕ × List Token)) (rest : List Token) → name_at ts ≡ n → label_by n ≡ Some rest → length rest < length ts
label_by_name ts None rest read e = absurd cc
label_by_name ts (Some (x, [])) rest read e = absurd cc
label_by_name ts (Some (x, u ∷ us)) rest read e =
    let same : length us ≡ length rest = ap (λ (l : List Token). length l) (colon_by (bytes_eq u.text (codes ":")) us rest e) in
    let le = name_short ts x (u ∷ us) read in
    omega (arith, same, le)

label_short : (ts rest : List Token) → label_at ts ≡ Some rest → length rest < length ts
label_short ts rest e = label_by_name ts (name_at ts) rest refl (sym (label_is ts (name_at ts) refl) ∙ e)

-- how many labels there may be is all the same
fuel_by : (m n : ℕ) (ts : List Token) (o : Option (List Token)) → label_at ts ≡ o → length ts ≤ suc m → length ts ≤ suc n
    → ((rest : List Token) → length rest ≤ m → length rest ≤ n → behind_within m rest ≡ behind_within n rest) → behind_within (suc m) ts ≡ behind_within (suc n) ts
fuel_by m n ts None e a b more = behind_none (suc m) ts e ∙ sym (behind_none (suc n) ts e)
fuel_by m n ts (Some rest) e a b more =
    let l = label_short ts rest e in
    behind_one m ts rest e ∙ more rest (omega (arith, l)) (omega (arith, l)) ∙ sym (behind_one n ts rest e)

none_label : label_at [] ≡ None
none_label = label_is [] None no_name

fuel : (m n : ℕ) (ts : List Token) → length ts ≤ m → length ts ≤ n → behind_within m ts ≡ behind_within n ts
fuel m n [] a b = behind_none m [] none_label ∙ sym (behind_none n [] none_label)
fuel zero n (t ∷ ts) a b = absurd (omega arith)
fuel (suc m) zero (t ∷ ts) a b = absurd (omega arith)
fuel (suc m) (suc n) (t ∷ ts) a b = fuel_by m n (t ∷ ts) (label_at (t ∷ ts)) refl a b (fuel m n)

behind_longer : (k : ℕ) (ts rest : List Token) → length ts ≡ k → label_at ts ≡ Some rest → behind_within k ts ≡ behind_within (length rest) rest
behind_longer zero ts rest is e = let l = label_short ts rest e in absurd (omega (arith, l))
behind_longer (suc k) ts rest is e = let l = label_short ts rest e in behind_one k ts rest e ∙ fuel k (length rest) rest (omega (arith, l)) (omega arith)

-- behind a label stands what stands behind the others
labels_behind : (ts rest : List Token) → label_at ts ≡ Some rest → behind_labels ts ≡ behind_labels rest
labels_behind ts rest e = behind_longer (length ts) ts rest refl e

word_behind : (word : List ℕ) (ts rest : List Token) → behind_labels ts ≡ behind_labels rest → has_word word ts ≡ has_word word rest
unfolding has_word
word_behind word ts rest e = ap (begins_word word) e

word_is : (word : List ℕ) (ts : List Token) (s : Bool) → behind_labels ts ≡ ts → begins_word word ts ≡ s → has_word word ts ≡ s
unfolding has_word
word_is word ts s e f = ap (begins_word word) e ∙ f

by_word : (b : Bool) (ts : List Token) → has_word (codes "ScanStructures") ts ≡ b → erased_statement ts ≡ cond b (erased_from true false ts) (token_texts ts)
by_word b ts e = ap (λ (k : Bool). cond k (erased_from true false ts) (token_texts ts)) e

-- a statement has its first token
pub first_kept : (b : Bool) (t : Token) (us : List Token) → token_ends 0 t.text ≡ b → (r : List Token) × (take (len_in 0 (t ∷ us)) (t ∷ us) ≡ t ∷ r)
first_kept true t us e = ([], ap (λ (b : Bool). take (cond b 1 (1 + len_in (depth_behind 0 t.text) us)) (t ∷ us)) e)
first_kept false t us e = (take (len_in (depth_behind 0 t.text) us) us, take_on 0 t us e)

-- the tokens of a name, behind which another token may be the word of a clause that doesn't stay
pub record IsNameFront (f : List Token) (s c : Bool) : Type 0 where
  pub free : AreFree f
  pub front : (q : List Token) → erased_from true false (f ++ q) ≡ token_texts f ++ erased_from false c q
  pub plain : s ≡ true → c ≡ false

none_skips : (c : Bool) (u : Token) (r : List Token) → starts_behind u.text ≡ true → erased_from false c (u ∷ r) ≡ u.text ∷ erased_from true false r
none_skips true u r e = rw e refl
none_skips false u r e = rw e refl

module _ (f : List Token) (s c : Bool) (is : IsNameFront f s c) where
  kept_by : (b : Bool) → s ≡ b → (r : List Token) → cond b (erased_from true false (f ++ r)) (token_texts (f ++ r)) ≡ token_texts f ++ kept_behind b r
  kept_by true e r = is.front r ∙ ap (λ (k : Bool). token_texts f ++ erased_from false k r) (is.plain e)
  kept_by false e r = map-append (λ (t : Token). t.text) f r

  -- no label
  alone : (x : List ℕ) (r : List Token) → name_at (f ++ r) ≡ Some (x, r) → colon_at r ≡ None → begins_word (codes "ScanStructures") (f ++ r) ≡ s → erased_statement (f ++ r) ≡ token_texts f ++ kept_behind s r
  alone x r named none begins =
      by_word s (f ++ r) (word_is (codes "ScanStructures") (f ++ r) s (behind_none (length (f ++ r)) (f ++ r) (label_is (f ++ r) (Some (x, r)) named ∙ none)) begins)
      ∙ kept_by s refl r

  label_kept : (b : Bool) (u : Token) (r : List Token) → starts_behind u.text ≡ true
      → cond b (erased_from true false (f ++ u ∷ r)) (token_texts (f ++ u ∷ r)) ≡ token_texts f ++ u.text ∷ cond b (erased_from true false r) (token_texts r)
  label_kept true u r e = is.front (u ∷ r) ∙ ap (λ (l : List (List ℕ)). token_texts f ++ l) (none_skips c u r e)
  label_kept false u r e = map-append (λ (t : Token). t.text) f (u ∷ r)

  -- a label
  labelled : (x : List ℕ) (u : Token) (r : List Token) → name_at (f ++ u ∷ r) ≡ Some (x, u ∷ r) → bytes_eq u.text (codes ":") ≡ true → erased_statement (f ++ u ∷ r) ≡ token_texts f ++ u.text ∷ erased_statement r
  labelled x u r named colon =
      let label : label_at (f ++ u ∷ r) ≡ Some r = label_is (f ++ u ∷ r) (Some (x, u ∷ r)) named ∙ ap (λ (k : Bool). cond k (Some r) None) colon in
      by_word (has_word (codes "ScanStructures") r) (f ++ u ∷ r) (word_behind (codes "ScanStructures") (f ++ u ∷ r) r (labels_behind (f ++ u ∷ r) r label))
      ∙ label_kept (has_word (codes "ScanStructures") r) u r (colon_starts u.text colon)

  -- the statement that begins with the name
  first : (ts : List Token) → staying (f ++ ts) ≡ erased_statement (f ++ take (len_in 0 ts) ts) ++ staying (drop (len_in 0 ts) ts)
  first ts =
      staying_cut (f ++ ts)
      ∙ ap (λ (n : ℕ). erased_statement (take n (f ++ ts)) ++ staying (drop n (f ++ ts))) (len_over 0 f ts is.free)
      ∙ ap (λ (l : List Token). erased_statement l ++ staying (drop (length f + len_in 0 ts) (f ++ ts))) (take_over f ts (len_in 0 ts))
      ∙ ap (λ (l : List Token). erased_statement (f ++ take (len_in 0 ts) ts) ++ staying l) (drop_over f ts (len_in 0 ts))

  kept_none : (b : Bool) → kept_behind b [] ≡ []
  kept_none true = refl
  kept_none false = refl

  abbrev pub Begins : List Token → Type 0
  Begins ts = (x : List ℕ) × (name_at (f ++ take (len_in 0 ts) ts) ≡ Some (x, take (len_in 0 ts) ts)) × (begins_word (codes "ScanStructures") (f ++ take (len_in 0 ts) ts) ≡ s)

  no_colon : (u : Token) (us r : List Token) → take (len_in 0 (u ∷ us)) (u ∷ us) ≡ u ∷ r → bytes_eq u.text (codes ":") ≡ false → colon_at (take (len_in 0 (u ∷ us)) (u ∷ us)) ≡ None
  no_colon u us r e other = ap colon_at e ∙ ap (λ (k : Bool). cond k (Some r) None) other

  by_colon : (b : Bool) (u : Token) (us : List Token) → bytes_eq u.text (codes ":") ≡ b → Begins (u ∷ us)
      → staying (f ++ u ∷ us) ≡ token_texts f ++ cond b (u.text ∷ staying us) (in_statement (kept_behind s) 0 (u ∷ us))
  by_colon true u us colon begins =
      let n = len_in 0 us in
      let on = take_on 0 u us (colon_end u.text colon) ∙ ap (λ (d : ℕ). u ∷ take (len_in d us) us) (colon_depth u.text colon) in
      let behind = drop_on 0 u us (colon_end u.text colon) ∙ ap (λ (d : ℕ). drop (len_in d us) us) (colon_depth u.text colon) in
      let named : name_at (f ++ u ∷ take n us) ≡ Some (begins.0, u ∷ take n us) = subst (λ (l : List Token). name_at (f ++ l) ≡ Some (begins.0, l)) on begins.1 in
      first (u ∷ us)
      ∙ ap (λ (l : List Token). erased_statement (f ++ l) ++ staying (drop (len_in 0 (u ∷ us)) (u ∷ us))) on
      ∙ ap (λ (l : List Token). erased_statement (f ++ u ∷ take n us) ++ staying l) behind
      ∙ ap (λ (l : List (List ℕ)). l ++ staying (drop n us)) (labelled begins.0 u (take n us) named colon)
      ∙ append_assoc (token_texts f) (u.text ∷ erased_statement (take n us)) (staying (drop n us))
      ∙ ap (λ (l : List (List ℕ)). token_texts f ++ u.text ∷ l) (sym (staying_cut us))
  by_colon false u us other begins =
      let n = len_in 0 (u ∷ us) in
      let k = first_kept (token_ends 0 u.text) u us refl in
      first (u ∷ us)
      ∙ ap (λ (l : List (List ℕ)). l ++ staying (drop n (u ∷ us))) (alone begins.0 (take n (u ∷ us)) begins.1 (no_colon u us k.0 k.1 other) begins.2)
      ∙ append_assoc (token_texts f) (kept_behind s (take n (u ∷ us))) (staying (drop n (u ∷ us)))

  -- the tokens of the name stay, and behind it what its state says
  pub named_front : (ts : List Token) → Begins ts → staying (f ++ ts) ≡ token_texts f ++ behind_name s ts
  named_front [] begins =
      first []
      ∙ ap (λ (l : List (List ℕ)). l ++ staying []) (alone begins.0 [] begins.1 refl begins.2)
      ∙ append_assoc (token_texts f) (kept_behind s []) (staying [])
      ∙ ap (λ (l : List (List ℕ)). token_texts f ++ (l ++ staying [])) (kept_none s)
      ∙ ap (λ (l : List (List ℕ)). token_texts f ++ l) staying_none
  named_front (u ∷ us) begins = by_colon (bytes_eq u.text (codes ":")) u us refl begins

-- a statement that begins with no name
unnamed_kept : (t : Token) (l r : List Token) → l ≡ t ∷ r → is_word t.text ≡ false → is_string t.text ≡ false → erased_statement l ≡ token_texts l
unnamed_kept t l r is run quoted =
    let other : bytes_eq t.text (codes "ScanStructures") ≡ false = elim (cases_Bool (bytes_eq t.text (codes "ScanStructures"))) [
      | inl e ↦ let word : is_word t.text ≡ true = ap is_word ((bytes_eq-Decides t.text (codes "ScanStructures")).0 e) in absurd (true≢false (sym word ∙ run))
      | inr e ↦ e
    ]
    in
    let label : label_at l ≡ None = ap label_at is ∙ label_is (t ∷ r) None (name_none t r run quoted) in
    by_word false l (word_is (codes "ScanStructures") l false (behind_none (length l) l label) (ap (begins_word (codes "ScanStructures")) is ∙ other))

pub unnamed : (t : Token) (ts : List Token) → is_word t.text ≡ false → is_string t.text ≡ false → staying (t ∷ ts) ≡ in_statement token_texts 0 (t ∷ ts)
unnamed t ts run quoted =
    let n = len_in 0 (t ∷ ts) in
    let k = first_kept (token_ends 0 t.text) t ts refl in
    staying_cut (t ∷ ts) ∙ ap (λ (l : List (List ℕ)). l ++ staying (drop n (t ∷ ts))) (unnamed_kept t (take n (t ∷ ts)) k.0 k.1 run quoted)
