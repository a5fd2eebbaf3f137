-- Names and labels at the front of tokens side by side.
use Rattle.std.proofs.Common.{◌≡◌, ℕ, zero, suc, ◌+◌, ◌<◌, ◌≤◌, Bool, true, false, ◌&&◌, ◌||◌, not, cond, eqb, inl, inr, List, [], ◌∷◌, ◌++◌, length, codes, Option, Some, None, refl, sym, ap, ◌∙◌, subst, arith, append_assoc}
use Rattle.std.specs.Str.{bytes_eq}
use Rattle.std.proofs.lemmas.Bool.{cases_Bool, true≢false}
use Rattle.token_forms.specs.Tokens.{Token}
use Rattle.stil_syntax.specs.Names.{is_word, is_string, inner, string_at, name_at}
use Rattle.stil_syntax.specs.Shapes.{colon_at, label_by, label_at, behind_within, behind_labels}
use Rattle.head_alike.specs.Steps.{Step, Keep, Anew, olds, news, AreSteps, IsAnew, starts_behind, AreFree, meets}
use Rattle.head_alike.proofs.Words.{free_word, run_word, word_free, string_free, no_colon, colon_starts}
use Rattle.head_alike.proofs.Ends.{is_free}

-- a name that begins with a text in quotes
pub record Strings (allow : Bool) (t u : Token) (s : List Step) : Type 0 where
  pub name : List ℕ
  pub rest : List Step
  pub old : string_at t (olds s) ≡ (name, olds rest)
  pub new : string_at u (news s) ≡ (name, news rest)
  pub are : AreSteps allow false rest
  pub shorter : length rest ≤ length s
  pub front : List Step
  pub cut : s ≡ front ++ rest

module _ (allow : Bool) (t u : Token) (same : t.text ≡ u.text) where
  module _ (v w : Token) (s : List Step) (texts : v.text ≡ w.text) (meet : eqb v.start t.end ≡ eqb w.start u.end) (next : meets v (olds s) ≡ meets w (news s)) (are : AreSteps allow (starts_behind v.text) s) where
    joined : is_word v.text ≡ true → eqb v.start t.end ≡ true → Strings allow t u (Keep v w ∷ s)
    joined a b =
        let c : is_word w.text ≡ true = ap is_word (sym texts) ∙ a in
        let d : eqb w.start u.end ≡ true = sym meet ∙ b in
        record {
          name = inner t.text ++ v.text;
          rest = s;
          old = rw (a, b) refl;
          new = rw (c, d) (ap (λ (x : List ℕ). (x, news s)) (ap (λ (x : List ℕ). inner x ++ w.text) (sym same) ∙ ap (λ (x : List ℕ). inner t.text ++ x) (sym texts)));
          are = subst (λ (k : Bool). AreSteps allow k s) (word_free v.text a) are;
          shorter = omega arith;
          front = Keep v w ∷ [];
          cut = refl;
        }

    alone : (is_word v.text && eqb v.start t.end) ≡ false → Strings allow t u (Keep v w ∷ s)
    alone a =
        let c : (is_word w.text && eqb w.start u.end) ≡ false = ap (λ (x : List ℕ). is_word x && eqb w.start u.end) (sym texts) ∙ ap (λ (k : Bool). is_word v.text && k) (sym meet) ∙ a in
        record {
          name = inner t.text;
          rest = Keep v w ∷ s;
          old = rw a refl;
          new = rw c (ap (λ (x : List ℕ). (inner x, w ∷ news s)) (sym same));
          are = (texts, next, are);
          shorter = omega arith;
          front = [];
          cut = refl;
        }

    both_or : (a b : Bool) → is_word v.text ≡ a → eqb v.start t.end ≡ b → Strings allow t u (Keep v w ∷ s)
    both_or true true e f = joined e f
    both_or true false e f = alone (ap (λ (k : Bool). k && eqb v.start t.end) e ∙ f)
    both_or false b e f = alone (ap (λ (k : Bool). k && eqb v.start t.end) e)

  pub strings : (s : List Step) → meets t (olds s) ≡ meets u (news s) → AreSteps allow false s → Strings allow t u s
  strings [] meet are = record { name = inner t.text; rest = []; old = refl; new = ap (λ (x : List ℕ). (inner x, [])) (sym same); are = tt; shorter = omega arith; front = []; cut = refl }
  strings (Keep v w ∷ s) meet are = both_or v w s are.0 meet are.1 are.2 (is_word v.text) (eqb v.start t.end) refl refl
  strings (Anew v w xs ys c d ∷ s) meet are = absurd (true≢false (sym are.0.first))

-- the name in front of both; or a word in front behind which other tokens stand
pub data Names (allow begins : Bool) (s : List Step) : Type 0 where
  NoName : name_at (olds s) ≡ None → name_at (news s) ≡ None → Names allow begins s
  Named : (x : List ℕ) (r : List Step) → name_at (olds s) ≡ Some (x, olds r) → name_at (news s) ≡ Some (x, news r) → AreSteps allow false r → length r < length s → (f : List Step) → s ≡ f ++ r → Names allow begins s
  Front : (t u : Token) (xs ys : List Token) (c d : Token) (r : List Step) → IsAnew allow begins t u xs ys c d → name_at (olds s) ≡ Some (t.text, xs ++ c ∷ olds r) → name_at (news s) ≡ Some (u.text, ys ++ d ∷ news r) → Names allow begins s

no_name : name_at [] ≡ None
unfolding name_at
no_name = refl

pub name_word : (t : Token) (ts : List Token) → is_word t.text ≡ true → name_at (t ∷ ts) ≡ Some (t.text, ts)
unfolding name_at
name_word t ts e = ap (λ (k : Bool). cond k (Some (t.text, ts)) (cond (is_string t.text) (Some (string_at t ts)) None)) e

pub name_string : (t : Token) (ts : List Token) → is_word t.text ≡ false → is_string t.text ≡ true → name_at (t ∷ ts) ≡ Some (string_at t ts)
unfolding name_at
name_string t ts e f =
    ap (λ (k : Bool). cond k (Some (t.text, ts)) (cond (is_string t.text) (Some (string_at t ts)) None)) e ∙ ap (λ (k : Bool). cond k (Some (string_at t ts)) None) f

pub name_none : (t : Token) (ts : List Token) → is_word t.text ≡ false → is_string t.text ≡ false → name_at (t ∷ ts) ≡ None
unfolding name_at
name_none t ts e f =
    ap (λ (k : Bool). cond k (Some (t.text, ts)) (cond (is_string t.text) (Some (string_at t ts)) None)) e ∙ ap (λ (k : Bool). cond k (Some (string_at t ts)) None) f

module _ (allow begins : Bool) (t u : Token) (s : List Step) (same : t.text ≡ u.text) (meet : meets t (olds s) ≡ meets u (news s)) (are : AreSteps allow (starts_behind t.text) s) where
  keep_names : (a b : Bool) → is_word t.text ≡ a → is_string t.text ≡ b → Names allow begins (Keep t u ∷ s)
  keep_names true b e f =
      Named t.text s (name_word t (olds s) e) (name_word u (news s) (ap is_word (sym same) ∙ e) ∙ ap (λ (x : List ℕ). Some (x, news s)) (sym same))
      (subst (λ (k : Bool). AreSteps allow k s) (word_free t.text e) are) (omega arith) (Keep t u ∷ []) refl
  keep_names false true e f =
      let k = strings allow t u same s meet (subst (λ (k : Bool). AreSteps allow k s) (string_free t.text f) are) in
      let short = k.shorter in
      Named k.name k.rest (name_string t (olds s) e f ∙ ap (λ (p : List ℕ × List Token). Some p) k.old)
      (name_string u (news s) (ap is_word (sym same) ∙ e) (ap is_string (sym same) ∙ f) ∙ ap (λ (p : List ℕ × List Token). Some p) k.new)
      k.are (omega (arith, short)) (Keep t u ∷ k.front) (ap (λ (l : List Step). Keep t u ∷ l) k.cut)
  keep_names false false e f = NoName (name_none t (olds s) e f) (name_none u (news s) (ap is_word (sym same) ∙ e) (ap is_string (sym same) ∙ f))

pub names : (allow begins : Bool) (s : List Step) → AreSteps allow begins s → Names allow begins s
names allow begins [] are = NoName no_name no_name
names allow begins (Keep t u ∷ s) are = keep_names allow begins t u s are.0 are.1 are.2 (is_word t.text) (is_string t.text) refl refl
names allow begins (Anew t u xs ys c d ∷ s) are =
    let run = run_word t.text are.0.which in
    Front t u xs ys c d s are.0 (name_word t (xs ++ c ∷ olds s) run) (name_word u (ys ++ d ∷ news s) (ap is_word (sym are.0.word) ∙ run))

-- whether a statement may begin behind steps
abbrev pub begins_after : Bool → List Step → Bool
begins_after b [] = b
begins_after b (Keep t u ∷ s) = begins_after (starts_behind t.text) s
begins_after b (Anew t u xs ys c d ∷ s) = begins_after true s

after_last : (f : List Step) (b : Bool) (t u : Token) → begins_after b (f ++ Keep t u ∷ []) ≡ starts_behind t.text
after_last [] b t u = refl
after_last (Keep v w ∷ f) b t u = after_last f (starts_behind v.text) t u
after_last (Anew v w xs ys c d ∷ f) b t u = after_last f true t u

after_both : (f g : List Step) (b : Bool) → begins_after b (f ++ g) ≡ begins_after (begins_after b f) g
after_both [] g b = refl
after_both (Keep v w ∷ f) g b = after_both f g (starts_behind v.text)
after_both (Anew v w xs ys c d ∷ f) g b = after_both f g true

-- a label in front of both
pub data Label (allow : Bool) (s : List Step) : Type 0 where
  NoLabel : label_at (olds s) ≡ None → label_at (news s) ≡ None → Label allow s
  Labelled : (r : List Step) → label_at (olds s) ≡ Some (olds r) → label_at (news s) ≡ Some (news r) → AreSteps allow true r → length r < length s → (f : List Step) → s ≡ f ++ r → begins_after true f ≡ true → Label allow s

pub label_is : (ts : List Token) (n : Option (List ℕ × List Token)) → name_at ts ≡ n → label_at ts ≡ label_by n
unfolding label_at
label_is ts n e = ap label_by e

colon_over : (xs : List Token) (c : Token) (ts : List Token) → AreFree xs → c.text ≡ 59 ∷ [] → colon_at (xs ++ c ∷ ts) ≡ None
colon_over [] c ts f e = ap (λ (w : List ℕ). cond (bytes_eq w (codes ":")) (Some ts) None) e
colon_over (x ∷ xs) c ts f e = ap (λ (k : Bool). cond k (Some (xs ++ c ∷ ts)) None) (no_colon x.text ((is_free x.text f.0).colon))

module _ (allow : Bool) (s : List Step) (x : List ℕ) (old : List Token) (new : List Token) (first : name_at (olds s) ≡ Some (x, old)) (second : name_at (news s) ≡ Some (x, new)) where
  no_label : colon_at old ≡ None → colon_at new ≡ None → Label allow s
  no_label e f = NoLabel (label_is (olds s) _ first ∙ e) (label_is (news s) _ second ∙ f)

label_keep : (allow : Bool) (s : List Step) (x : List ℕ) (r : List Step) → name_at (olds s) ≡ Some (x, olds r) → name_at (news s) ≡ Some (x, news r) → AreSteps allow false r → length r < length s → (fr : List Step) → s ≡ fr ++ r → Label allow s
label_keep allow s x [] e f are short fr cut = no_label allow s x [] [] e f refl refl
label_keep allow s x (Keep t u ∷ r) e f are short fr cut = elim (cases_Bool (bytes_eq t.text (codes ":"))) [
  | inl c ↦ Labelled r (label_is (olds s) _ e ∙ ap (λ (k : Bool). cond k (Some (olds r)) None) c)
      (label_is (news s) _ f ∙ ap (λ (k : Bool). cond k (Some (news r)) None) (ap (λ (w : List ℕ). bytes_eq w (codes ":")) (sym are.0) ∙ c))
      (subst (λ (k : Bool). AreSteps allow k r) (colon_starts t.text c) are.2) (omega (arith, short)) (fr ++ Keep t u ∷ []) (cut ∙ sym (append_assoc fr (Keep t u ∷ []) r)) (after_last fr true t u ∙ colon_starts t.text c)
  | inr c ↦ no_label allow s x (t ∷ olds r) (u ∷ news r) e f (ap (λ (k : Bool). cond k (Some (olds r)) None) c)
      (ap (λ (k : Bool). cond k (Some (news r)) None) (ap (λ (w : List ℕ). bytes_eq w (codes ":")) (sym are.0) ∙ c))
]
label_keep allow s x (Anew t u xs ys c d ∷ r) e f are short fr cut = absurd (true≢false (sym are.0.first))

pub label : (allow : Bool) (s : List Step) → AreSteps allow true s → Label allow s
label allow s are = elim (names allow true s are) [
  | NoName e f ↦ NoLabel (label_is (olds s) None e) (label_is (news s) None f)
  | Named x r e f rest short fr cut ↦ label_keep allow s x r e f rest short fr cut
  | Front t u xs ys c d r is e f ↦ NoLabel (label_is (olds s) _ e ∙ colon_over xs c (olds r) is.old_free is.old_end) (label_is (news s) _ f ∙ colon_over ys d (news r) is.new_free is.new_end)
]

-- behind the labels of both
pub record Unlabelled (allow : Bool) (m n : ℕ) (s : List Step) : Type 0 where
  pub rest : List Step
  pub old : behind_within m (olds s) ≡ olds rest
  pub new : behind_within n (news s) ≡ news rest
  pub are : AreSteps allow true rest
  pub front : List Step
  pub cut : s ≡ front ++ rest
  pub index : begins_after true front ≡ true

no_label_none : label_at [] ≡ None
unfolding label_at
no_label_none = ap label_by no_name

pub behind_none : (n : ℕ) (ts : List Token) → label_at ts ≡ None → behind_within n ts ≡ ts
unfolding behind_within
behind_none zero ts e = refl
behind_none (suc n) ts e = ap (λ (o : Option (List Token)). elim o [ None ↦ ts | Some rest ↦ behind_within n rest ]) e

pub behind_one : (n : ℕ) (ts rest : List Token) → label_at ts ≡ Some rest → behind_within (suc n) ts ≡ behind_within n rest
unfolding behind_within
behind_one n ts rest e = ap (λ (o : Option (List Token)). elim o [ None ↦ ts | Some rest ↦ behind_within n rest ]) e

unlabelled : (m n : ℕ) (allow : Bool) (s : List Step) → length s ≤ m → length s ≤ n → AreSteps allow true s → Unlabelled allow m n s
unlabelled m n allow [] a b are = record { rest = []; old = behind_none m [] no_label_none; new = behind_none n [] no_label_none; are = tt; front = []; cut = refl; index = refl }
unlabelled zero n allow (p ∷ s) a b are = absurd (omega arith)
unlabelled (suc m) zero allow (p ∷ s) a b are = absurd (omega arith)
unlabelled (suc m) (suc n) allow (p ∷ s) a b are = elim (label allow (p ∷ s) are) [
  | NoLabel e f ↦ record { rest = p ∷ s; old = behind_none (suc m) (olds (p ∷ s)) e; new = behind_none (suc n) (news (p ∷ s)) f; are = are; front = []; cut = refl; index = refl }
  | Labelled r e f rest short fr cut index ↦
      let k = unlabelled m n allow r (omega (arith, short)) (omega (arith, short)) rest in
      record { rest = k.rest; old = behind_one m (olds (p ∷ s)) (olds r) e ∙ k.old; new = behind_one n (news (p ∷ s)) (news r) f ∙ k.new; are = k.are; front = fr ++ k.front; cut = cut ∙ ap (λ (l : List Step). fr ++ l) k.cut ∙ sym (append_assoc fr k.front k.rest); index = after_both fr k.front true ∙ ap (λ (b : Bool). begins_after b k.front) index ∙ k.index }
]

pub over_length : (xs : List Token) (c : Token) (ts : List Token) → length ts ≤ length (xs ++ c ∷ ts)
over_length [] c ts = omega arith
over_length (x ∷ xs) c ts = let k = over_length xs c ts in omega (arith, k)

pub old_length : (s : List Step) → length s ≤ length (olds s)
old_length [] = omega arith
old_length (Keep t u ∷ s) = let k = old_length s in omega (arith, k)
old_length (Anew t u xs ys c d ∷ s) = let k = old_length s in let l = over_length xs c (olds s) in omega (arith, k, l)

pub new_length : (s : List Step) → length s ≤ length (news s)
new_length [] = omega arith
new_length (Keep t u ∷ s) = let k = new_length s in omega (arith, k)
new_length (Anew t u xs ys c d ∷ s) = let k = new_length s in let l = over_length ys d (news s) in omega (arith, k, l)

pub behind_both : (allow : Bool) (s : List Step) → AreSteps allow true s → Unlabelled allow (length (olds s)) (length (news s)) s
behind_both allow s are = unlabelled (length (olds s)) (length (news s)) allow s (old_length s) (new_length s) are
