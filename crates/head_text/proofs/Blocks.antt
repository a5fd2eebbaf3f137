-- What stands in the block of a statement, and which of its statements are empty.
use Rattle.std.specs.Prelude.{⊤}
use Rattle.std.proofs.Common.{◌≡◌, ℕ, zero, suc, ◌+◌, ◌-◌, ◌<◌, ◌≤◌, Bool, true, false, ◌&&◌, ◌||◌, not, cond, eqb, ◌⊎◌, inl, inr, List, [], ◌∷◌, ◌++◌, length, take, drop, map, filter, codes, Option, Some, None, refl, sym, ap, ◌∙◌, subst, arith}
use Rattle.std.specs.List.{flat_map, AllByRecursion as Each}
use Rattle.std.specs.Str.{bytes_eq}
use Rattle.std.proofs.lemmas.Bool.{cases_Bool, true≢false}
use Rattle.token_forms.specs.Tokens.{Token}
use Rattle.stil_tokens.specs.StilStatements.{is_only, is_note, token_ends, is_closed, len_in}
use Rattle.stil_syntax.specs.Names.{is_word, is_string, name_at}
use Rattle.stil_syntax.specs.Shapes.{label_by, label_at, behind_within, behind_labels, closes_nothing, behind_brace, in_block, is_empty}
use Rattle.stil_blocks.specs.declared.clause.Clause.TheVariants.{Passed, NoForm}
use Rattle.stil_blocks.specs.Statements.{is_whole, begins_word, has_word}
use Rattle.stil_blocks.specs.Chains.{word_clause, unlabelled_clause, clause_of}
use Rattle.head_alike.proofs.Words.{only_is}
use Rattle.head_alike.proofs.Cuts.{len_here}
use Rattle.head_alike.proofs.Names.{name_none, label_is, behind_none}
use Rattle.head_alike.proofs.Trees.{but_last, brace_here, brace_later}
use Rattle.head_text.proofs.Cutting.{IsFront, AreCut}
use Rattle.head_text.proofs.Makes.{NoBrace}

-- the first brace
record Opened (s : List Token) : Type 0 where
  lead : List Token
  brace : Token
  rest : List Token
  is : s ≡ lead ++ brace ∷ rest
  none : NoBrace lead
  opens : is_only 123 brace.text ≡ true

find : (s : List Token) → NoBrace s ⊎ Opened s
find [] = inl tt
find (t ∷ ts) = elim (cases_Bool (is_only 123 t.text)) [
  | inl e ↦ inr (record { lead = []; brace = t; rest = ts; is = refl; none = tt; opens = e })
  | inr e ↦ elim (find ts) [
    | inl n ↦ inl (e, n)
    | inr o ↦ inr (record { lead = t ∷ o.lead; brace = o.brace; rest = o.rest; is = ap (λ (l : List Token). t ∷ l) o.is; none = (e, o.none); opens = o.opens })
  ]
]

over_lead : (lead rest : List Token) → NoBrace lead → behind_brace (lead ++ rest) ≡ behind_brace rest
over_lead [] rest n = refl
over_lead (t ∷ lead) rest n = brace_later t (lead ++ rest) n.0 ∙ over_lead lead rest n.1

behind_none_is : (s : List Token) → NoBrace s → behind_brace s ≡ []
behind_none_is [] n = refl
behind_none_is (t ∷ ts) n = brace_later t ts n.0 ∙ behind_none_is ts n.1

abbrev init_of : List Token → List Token
init_of ts = take (length ts - 1) ts

init_none : init_of [] ≡ []
init_none = let e : length {A = Token} [] - 1 ≡ zero = omega arith in ap (λ (n : ℕ). take {A = Token} n []) e

record Last (ts : List Token) : Type 0 where
  body : List Token
  last : Token
  is : ts ≡ body ++ last ∷ []

last_of : (t : Token) (ts : List Token) → Last (t ∷ ts)
last_of t [] = record { body = []; last = t; is = refl }
last_of t (u ∷ us) = let k = last_of u us in record { body = t ∷ k.body; last = k.last; is = ap (λ (l : List Token). t ∷ l) k.is }

-- lead { body last
pub record BlockCut (s : List Token) : Type 0 where
  pub lead : List Token
  pub brace : Token
  pub body : List Token
  pub last : Token
  pub is : s ≡ lead ++ brace ∷ (body ++ last ∷ [])
  pub none : NoBrace lead
  pub opens : brace.text ≡ 123 ∷ []
  pub inner : in_block s ≡ body

pub block_cut : (s : List Token) → (in_block s ≡ []) ⊎ BlockCut s
block_cut s = elim (find s) [
  | inl n ↦ inl (ap init_of (behind_none_is s n) ∙ init_none)
  | inr o ↦ by o o.rest refl
]
  where
    behind : (o : Opened s) → behind_brace s ≡ o.rest
    behind o = ap behind_brace o.is ∙ over_lead o.lead (o.brace ∷ o.rest) o.none ∙ brace_here o.brace o.rest o.opens

    by : (o : Opened s) (rest : List Token) → o.rest ≡ rest → (in_block s ≡ []) ⊎ BlockCut s
    by o [] e = inl (ap init_of (behind o ∙ e) ∙ init_none)
    by o (t ∷ ts) e =
        let k = last_of t ts in
        inr (record {
          lead = o.lead;
          brace = o.brace;
          body = k.body;
          last = k.last;
          is = o.is ∙ ap (λ (l : List Token). o.lead ++ o.brace ∷ l) (e ∙ k.is);
          none = o.none;
          opens = only_is 123 o.brace.text o.opens;
          inner = ap init_of (behind o ∙ e ∙ k.is) ∙ but_last k.body k.last;
        })

-- an empty statement is a ;
pub record EmptyIs (s : List Token) : Type 0 where
  pub t : Token
  pub is : s ≡ t ∷ []
  pub text : t.text ≡ 59 ∷ []

pub empty_is : (s : List Token) → 0 < length s → len_in 0 s ≡ length s → is_empty s ≡ true → EmptyIs s
empty_is [] some one e = absurd (omega arith)
empty_is (t ∷ ts) some one e = by ts one
  where
    text : t.text ≡ 59 ∷ []
    text = only_is 59 t.text e

    ends : token_ends 0 t.text ≡ true
    ends = let k = text in rw k refl

    by : (ts : List Token) → len_in 0 (t ∷ ts) ≡ length (t ∷ ts) → EmptyIs (t ∷ ts)
    by [] one = record { t = t; is = refl; text = text }
    by (u ∷ us) one = absurd (let k = len_here 0 t (u ∷ us) ends in omega (arith, k, one))

pub empty_closed : (t : Token) → t.text ≡ 59 ∷ [] → is_closed (t ∷ []) ≡ true
empty_closed t e = rw e refl

empty_labels : (t : Token) → t.text ≡ 59 ∷ [] → behind_labels (t ∷ []) ≡ t ∷ []
empty_labels t e =
    let word : is_word t.text ≡ false = rw e refl in
    let text : is_string t.text ≡ false = rw e refl in
    behind_none (suc zero) (t ∷ []) (label_is (t ∷ []) None (name_none t [] word text))

pub empty_word : (t : Token) (word : List ℕ) → t.text ≡ 59 ∷ [] → bytes_eq (59 ∷ []) word ≡ false → has_word word (t ∷ []) ≡ false
unfolding has_word
empty_word t word e apart = ap (begins_word word) (empty_labels t e) ∙ ap (λ (w : List ℕ). bytes_eq w word) e ∙ apart

-- a statement that a ; begins has no word
nothing_word : (word : List ℕ) → has_word word [] ≡ false
unfolding has_word behind_within
nothing_word word = refl

semicolon_word : (t : Token) (ts : List Token) (word : List ℕ) → t.text ≡ 59 ∷ [] → bytes_eq (59 ∷ []) word ≡ false → has_word word (t ∷ ts) ≡ false
unfolding has_word
semicolon_word t ts word e apart =
    let run : is_word t.text ≡ false = rw e refl in
    let text : is_string t.text ≡ false = rw e refl in
    ap (begins_word word) (behind_none (suc (length ts)) (t ∷ ts) (label_is (t ∷ ts) None (name_none t ts run text))) ∙ ap (λ (w : List ℕ). bytes_eq w word) e ∙ apart

pub no_word : (s : List Token) (word : List ℕ) → is_empty s ≡ true → bytes_eq (59 ∷ []) word ≡ false → has_word word s ≡ false
no_word [] word e apart = nothing_word word
no_word (t ∷ ts) word e apart = semicolon_word t ts word (only_is 59 t.text e) apart

pub empty_clause : (t : Token) → t.text ≡ 59 ∷ [] → clause_of (t ∷ []) ≡ Passed
unfolding clause_of
empty_clause t e =
    let whole : is_whole (t ∷ []) ≡ true = rw e refl in
    let word : word_clause t [] ≡ Passed = rw e refl in
    ap (λ (b : Bool). cond b (unlabelled_clause (behind_labels (t ∷ []))) NoForm) whole ∙ ap unlabelled_clause (empty_labels t e) ∙ word

-- what holds of those that count and of a ; holds of all
module _ (P : List Token → Type 0) (single : (t : Token) → t.text ≡ 59 ∷ [] → P (t ∷ [])) where
  by_empty : (b : Bool) (s : List Token) (ss : List (List Token)) → is_empty s ≡ b → 0 < length s → len_in 0 s ≡ length s → Each P (cond (not b) (s ∷ filter (λ s. not (is_empty s)) ss) (filter (λ s. not (is_empty s)) ss))
      → P s × Each P (filter (λ s. not (is_empty s)) ss)
  by_empty true s ss e some one each = (let k = empty_is s some one e in subst P (sym k.is) (single k.t k.text), each)
  by_empty false s ss e some one each = each

  pub each_all : (ss : List (List Token)) (ts : List Token) → AreCut ss ts → Each P (filter (λ s. not (is_empty s)) ss) → Each P ss
  each_all [] ts cut each = tt
  each_all (s ∷ ss) ts cut each = let k = by_empty (is_empty s) s ss refl cut.some cut.one each in (k.0, each_all ss cut.rest cut.more k.1)

-- what is gathered of those that count is gathered of all
module _ {X : Type 0} (f : List Token → List X) (single : (t : Token) → t.text ≡ 59 ∷ [] → f (t ∷ []) ≡ []) where
  gather_by : (b : Bool) (s : List Token) (xs : List (List Token)) (all : List X) → is_empty s ≡ b → 0 < length s → len_in 0 s ≡ length s → flat_map f xs ≡ all → flat_map f (cond (not b) (s ∷ xs) xs) ≡ f s ++ all
  gather_by true s xs all e some one h = let k = empty_is s some one e in h ∙ ap (λ (l : List X). l ++ all) (sym (ap f k.is ∙ single k.t k.text))
  gather_by false s xs all e some one h = ap (λ (l : List X). f s ++ l) h

  pub gather_all : (ss : List (List Token)) (ts : List Token) → AreCut ss ts → flat_map f (filter (λ s. not (is_empty s)) ss) ≡ flat_map f ss
  gather_all [] ts cut = refl
  gather_all (s ∷ ss) ts cut = gather_by (is_empty s) s (filter (λ s. not (is_empty s)) ss) (flat_map f ss) refl cut.some cut.one (gather_all ss cut.rest cut.more)
