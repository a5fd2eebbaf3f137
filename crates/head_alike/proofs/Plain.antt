-- Tokens that all stay.
use Rattle.std.proofs.Common.{◌≡◌, ℕ, zero, suc, ◌+◌, ◌-◌, Bool, true, false, ◌&&◌, ◌||◌, not, cond, inl, inr, List, [], ◌∷◌, ◌++◌, length, take, drop, map, codes, Option, Some, None, refl, sym, ap, ◌∙◌, subst, arith}
use Rattle.std.specs.List.{flat_map, AllByRecursion as Each}
use Rattle.std.proofs.lemmas.Bool.{cases_Bool, true≢false}
use Rattle.base_types.specs.Names.{plain_name}
use Rattle.token_forms.specs.Tokens.{Token}
use Rattle.stil_tokens.specs.StilStatements.{is_only}
use Rattle.stil_types.specs.declared.head.Callee.{Callee}
use Rattle.stil_syntax.specs.Names.{name_at}
use Rattle.stil_syntax.specs.Shapes.{behind_labels, begins_behind, behind_brace, in_block, body_statements}
use Rattle.stil_blocks.specs.declared.callee.ReadCallee.{ReadCallee}
use Rattle.stil_blocks.specs.Statements.{start_of, is_whole, has_word, behind_word, opens, opens_behind, opens_named, opens_maybe_named, statements_in}
use Rattle.stil_blocks.specs.Chains.{listed}
use Rattle.stil_blocks.specs.Callees.{begins_shift, holds, holds_shift, named_callee, callee_at, block_callees, names_within, statement_keywords}
use Rattle.head_alike.specs.Steps.{Step, Keep, Anew, olds, news, AreSteps, starts_behind, meets}
use Rattle.head_alike.specs.Laws.{SplitsAlike}
use Rattle.head_alike.proofs.Rows.{split_law}
use Rattle.head_alike.proofs.Names.{Names, NoName, Named, Front, names, behind_both}
use Rattle.head_alike.proofs.Statements.{whole_same, opens_same, has_same}
use Rattle.head_alike.proofs.Empties.{map_both}

abbrev pub IsPlain : List Step → Type 0
IsPlain s = AreSteps false true s

pub again : (b c : Bool) (s : List Step) → AreSteps false b s → AreSteps false c s
again b c [] are = tt
again b c (Keep t u ∷ s) are = are
again b c (Anew t u xs ys a d ∷ s) are = absurd (true≢false (sym are.0.allowed))

pub later : (t u : Token) (s : List Step) → IsPlain (Keep t u ∷ s) → IsPlain s
later t u s are = again (starts_behind t.text) true s are.2

take_meets : (t u : Token) (n : ℕ) (s : List Step) → IsPlain s → meets t (olds s) ≡ meets u (news s) → meets t (olds (take n s)) ≡ meets u (news (take n s))
take_meets t u zero s are e = refl
take_meets t u (suc n) [] are e = refl
take_meets t u (suc n) (Keep v w ∷ s) are e = e
take_meets t u (suc n) (Anew v w xs ys c d ∷ s) are e = absurd (true≢false (sym are.0.allowed))

pub plain_take : (n : ℕ) (s : List Step) → IsPlain s → IsPlain (take n s)
plain_take zero s are = tt
plain_take (suc n) [] are = tt
plain_take (suc n) (Keep t u ∷ s) are = (are.0, take_meets t u n s (later t u s are) are.1, again true (starts_behind t.text) (take n s) (plain_take n s (later t u s are)))
plain_take (suc n) (Anew t u xs ys c d ∷ s) are = absurd (true≢false (sym are.0.allowed))

pub old_take : (n : ℕ) (s : List Step) → IsPlain s → take n (olds s) ≡ olds (take n s)
old_take zero s are = refl
old_take (suc n) [] are = refl
old_take (suc n) (Keep t u ∷ s) are = ap (λ (l : List Token). t ∷ l) (old_take n s (later t u s are))
old_take (suc n) (Anew t u xs ys c d ∷ s) are = absurd (true≢false (sym are.0.allowed))

pub new_take : (n : ℕ) (s : List Step) → IsPlain s → take n (news s) ≡ news (take n s)
new_take zero s are = refl
new_take (suc n) [] are = refl
new_take (suc n) (Keep t u ∷ s) are = ap (λ (l : List Token). u ∷ l) (new_take n s (later t u s are))
new_take (suc n) (Anew t u xs ys c d ∷ s) are = absurd (true≢false (sym are.0.allowed))

pub same_length : (s : List Step) → IsPlain s → length (olds s) ≡ length (news s)
same_length [] are = refl
same_length (Keep t u ∷ s) are = ap suc (same_length s (later t u s are))
same_length (Anew t u xs ys c d ∷ s) are = absurd (true≢false (sym are.0.allowed))

-- one token less in front
pub record Rest (old new : List Token) : Type 0 where
  pub rest : List Step
  pub old_is : old ≡ olds rest
  pub new_is : new ≡ news rest
  pub are : IsPlain rest

pub drop_one : (s : List Step) → IsPlain s → Rest (drop 1 (olds s)) (drop 1 (news s))
drop_one [] are = record { rest = []; old_is = refl; new_is = refl; are = tt }
drop_one (Keep t u ∷ s) are = record { rest = s; old_is = refl; new_is = refl; are = later t u s are }
drop_one (Anew t u xs ys c d ∷ s) are = absurd (true≢false (sym are.0.allowed))

pub behind_plain : (s : List Step) → IsPlain s → Rest (behind_word (olds s)) (behind_word (news s))
unfolding behind_word
behind_plain s are =
    let k = behind_both false s are in
    let d = drop_one k.rest k.are in
    record { rest = d.rest; old_is = ap (drop 1) k.old ∙ d.old_is; new_is = ap (drop 1) k.new ∙ d.new_is; are = d.are }

brace_plain : (s : List Step) → IsPlain s → Rest (behind_brace (olds s)) (behind_brace (news s))
brace_plain [] are = record { rest = []; old_is = refl; new_is = refl; are = tt }
brace_plain (Keep t u ∷ s) are = elim (cases_Bool (is_only 123 t.text)) [
  | inl e ↦ record {
    rest = s;
    old_is = ap (λ (b : Bool). cond b (olds s) (behind_brace (olds s))) e;
    new_is = ap (λ (b : Bool). cond b (news s) (behind_brace (news s))) (ap (is_only 123) (sym are.0) ∙ e);
    are = later t u s are;
  }
  | inr e ↦
      let k = brace_plain s (later t u s are) in
      record {
        rest = k.rest;
        old_is = ap (λ (b : Bool). cond b (olds s) (behind_brace (olds s))) e ∙ k.old_is;
        new_is = ap (λ (b : Bool). cond b (news s) (behind_brace (news s))) (ap (is_only 123) (sym are.0) ∙ e) ∙ k.new_is;
        are = k.are;
      }
]
brace_plain (Anew t u xs ys c d ∷ s) are = absurd (true≢false (sym are.0.allowed))

pub block_plain : (s : List Step) → IsPlain s → Rest (in_block (olds s)) (in_block (news s))
block_plain s are =
    let k = brace_plain s are in
    let n = length (olds k.rest) - 1 in
    record {
      rest = take n k.rest;
      old_is = ap (λ (l : List Token). take (length l - 1) l) k.old_is ∙ old_take n k.rest k.are;
      new_is = ap (λ (l : List Token). take (length l - 1) l) k.new_is ∙ ap (λ (m : ℕ). take (m - 1) (news k.rest)) (sym (same_length k.rest k.are)) ∙ new_take n k.rest k.are;
      are = plain_take n k.rest k.are;
    }

-- the statements in a block
pub record Inner (old new : List (List Token)) : Type 0 where
  pub rows : List (List Step)
  pub old_is : old ≡ map olds rows
  pub new_is : new ≡ map news rows
  pub each : Each IsPlain rows

pub body_plain : (old new : List Token) → Rest old new → Inner (body_statements old) (body_statements new)
body_plain old new r =
    let k = split_law false r.rest r.are in
    record { rows = k.rows; old_is = ap body_statements r.old_is ∙ k.old; new_is = ap body_statements r.new_is ∙ k.new; each = k.each }

pub inner_plain : (s : List Step) → IsPlain s → Inner (statements_in (olds s)) (statements_in (news s))
inner_plain s are = body_plain (in_block (olds s)) (in_block (news s)) (block_plain s are)

-- a test that is the same for tokens that all stay
abbrev pub IsSteady : (List Token → Bool) → (List Token → Bool) → Type 0
IsSteady f g = (s : List Step) → IsPlain s → f (olds s) ≡ g (news s)

pub rest_steady : (f g : List Token → Bool) → IsSteady f g → (old new : List Token) → Rest old new → f old ≡ g new
rest_steady f g h old new r = ap f r.old_is ∙ h r.rest r.are ∙ sym (ap g r.new_is)

pub opens_steady : IsSteady opens opens
opens_steady s are = opens_same false true s are

pub shift_steady : IsSteady begins_shift begins_shift
unfolding begins_shift
shift_steady s are =
    ap (λ (b : Bool). b && opens (behind_word (olds s))) (has_same false s are (codes "Shift"))
    ∙ ap (λ (b : Bool). has_word (codes "Shift") (news s) && b) (rest_steady opens opens opens_steady _ _ (behind_plain s are))

pub holds_steady : (f g : List Token → Bool) → IsSteady f g → (b : Bool) → IsSteady (holds f b) (holds g b)
holds_steady f g h b [] are = refl
holds_steady f g h b (Keep t u ∷ s) are =
    ap (λ (k : Bool). (b && k) || holds f (begins_behind t.text) (olds s)) (h (Keep t u ∷ s) are)
    ∙ ap (λ (k : Bool). (b && g (u ∷ news s)) || k) (holds_steady f g h (begins_behind t.text) s (later t u s are))
    ∙ ap (λ (w : List ℕ). (b && g (u ∷ news s)) || holds g (begins_behind w) (news s)) are.0
holds_steady f g h b (Anew t u xs ys c d ∷ s) are = absurd (true≢false (sym are.0.allowed))

pub holds_shift_steady : IsSteady holds_shift holds_shift
holds_shift_steady s are = holds_steady begins_shift begins_shift shift_steady true s are

-- names
pub data PlainNames (s : List Step) : Type 0 where
  No : name_at (olds s) ≡ None → name_at (news s) ≡ None → PlainNames s
  Yes : (x : List ℕ) (r : List Step) → name_at (olds s) ≡ Some (x, olds r) → name_at (news s) ≡ Some (x, news r) → IsPlain r → PlainNames s

pub plain_names : (s : List Step) → IsPlain s → PlainNames s
plain_names s are = elim (names false true s are) [
  | NoName e f ↦ No e f
  | Named x r e f rest short fr cut ↦ Yes x r e f (again false true r rest)
  | Front t u xs ys c d r is e f ↦ absurd (true≢false (sym is.allowed))
]

pub opens_named_steady : IsSteady opens_named opens_named
unfolding opens_named
opens_named_steady s are = elim (plain_names s are) [
  | No e f ↦ ap opens_behind e ∙ sym (ap opens_behind f)
  | Yes x r e f rest ↦ ap opens_behind e ∙ opens_steady r rest ∙ sym (ap opens_behind f)
]

pub maybe_steady : IsSteady opens_maybe_named opens_maybe_named
unfolding opens_maybe_named
maybe_steady s are = ap (λ (b : Bool). b || opens_named (olds s)) (opens_steady s are) ∙ ap (λ (b : Bool). opens (news s) || b) (opens_named_steady s are)

-- a procedure or macro without its place
abbrev pub told : Option ReadCallee → Option Callee
told None = None
told (Some c) = Some c.callee

callee_by : (b : Bool) (place : ℕ) (name : List ℕ) (scan : Bool) → told (cond b (Some (record { place = place; callee = record { name = name; scan = scan } })) None) ≡ cond b (Some (record { name = name; scan = scan })) None
callee_by true place name scan = refl
callee_by false place name scan = refl

callee_as : Bool → List ℕ → Bool → Option Callee
callee_as b name scan = cond b (Some (record { name = name; scan = scan })) None

pub labels_plain : (s : List Step) → IsPlain s → Rest (behind_labels (olds s)) (behind_labels (news s))
labels_plain s are = let k = behind_both false s are in record { rest = k.rest; old_is = k.old; new_is = k.new; are = k.are }

named_same : (s : List Step) → IsPlain s → (r : List Step) → IsPlain r → told (named_callee (olds s) (name_at (olds r))) ≡ told (named_callee (news s) (name_at (news r)))
unfolding callee_as
named_same s are r is = elim (plain_names r is) [
  | No e f ↦ ap (λ (o : Option (List ℕ × List Token)). told (named_callee (olds s) o)) e ∙ sym (ap (λ (o : Option (List ℕ × List Token)). told (named_callee (news s) o)) f)
  | Yes x q e f rest ↦
      ap (λ (o : Option (List ℕ × List Token)). told (named_callee (olds s) o)) e
      ∙ callee_by (opens (olds q)) (start_of (olds s)) (plain_name x) (holds_shift (in_block (olds s)))
      ∙ ap (λ (b : Bool). callee_as b (plain_name x) (holds_shift (in_block (olds s)))) (opens_steady q rest)
      ∙ ap (λ (b : Bool). callee_as (opens (news q)) (plain_name x) b) (rest_steady holds_shift holds_shift holds_shift_steady _ _ (block_plain s are))
      ∙ sym (callee_by (opens (news q)) (start_of (news s)) (plain_name x) (holds_shift (in_block (news s))))
      ∙ sym (ap (λ (o : Option (List ℕ × List Token)). told (named_callee (news s) o)) f)
]

told_if : (b : Bool) (o : Option ReadCallee) → told (cond b o None) ≡ cond b (told o) None
told_if true o = refl
told_if false o = refl

pub callee_same : (s : List Step) → IsPlain s → told (callee_at (olds s)) ≡ told (callee_at (news s))
unfolding callee_at
callee_same s are =
    let k = labels_plain s are in
    told_if (is_whole (olds s)) (named_callee (olds s) (name_at (behind_labels (olds s))))
    ∙ ap (λ (b : Bool). cond b (told (named_callee (olds s) (name_at (behind_labels (olds s))))) None) (whole_same false true s are)
    ∙ ap (λ (o : Option Callee). cond (is_whole (news s)) o None)
    (ap (λ (l : List Token). told (named_callee (olds s) (name_at l))) k.old_is ∙ named_same s are k.rest k.are ∙ sym (ap (λ (l : List Token). told (named_callee (news s) (name_at l))) k.new_is))
    ∙ sym (told_if (is_whole (news s)) (named_callee (news s) (name_at (behind_labels (news s)))))

-- the names of UserKeywords
names_nothing : (n : ℕ) (ts : List Token) → name_at ts ≡ None → names_within (suc n) ts ≡ names_within n (drop 1 ts)
unfolding names_within
names_nothing n ts e = ap (λ (o : Option (List ℕ × List Token)). elim o [ None ↦ names_within n (drop 1 ts) | Some name ↦ plain_name name.0 ∷ names_within n name.1 ]) e

names_one : (n : ℕ) (ts : List Token) (x : List ℕ) (r : List Token) → name_at ts ≡ Some (x, r) → names_within (suc n) ts ≡ plain_name x ∷ names_within n r
unfolding names_within
names_one n ts x r e = ap (λ (o : Option (List ℕ × List Token)). elim o [ None ↦ names_within n (drop 1 ts) | Some name ↦ plain_name name.0 ∷ names_within n name.1 ]) e

names_zero : (ts : List Token) → names_within zero ts ≡ []
unfolding names_within
names_zero ts = refl

names_steady : (n : ℕ) (s : List Step) → IsPlain s → names_within n (olds s) ≡ names_within n (news s)
names_steady zero s are = names_zero (olds s) ∙ sym (names_zero (news s))
names_steady (suc n) s are = elim (plain_names s are) [
  | No e f ↦
      let d = drop_one s are in
      names_nothing n (olds s) e ∙ ap (names_within n) d.old_is ∙ names_steady n d.rest d.are ∙ sym (names_nothing n (news s) f ∙ ap (names_within n) d.new_is)
  | Yes x r e f rest ↦ names_one n (olds s) x (olds r) e ∙ ap (λ (l : List (List ℕ)). plain_name x ∷ l) (names_steady n r rest) ∙ sym (names_one n (news s) x (news r) f)
]

pub keywords_steady : (s : List Step) → IsPlain s → statement_keywords (olds s) ≡ statement_keywords (news s)
unfolding statement_keywords
keywords_steady s are =
    let k = behind_plain s are in
    ap (λ (b : Bool). cond b (names_within (length (behind_word (olds s))) (behind_word (olds s))) []) (has_same false s are (codes "UserKeywords"))
    ∙ ap (λ (l : List (List ℕ)). cond (has_word (codes "UserKeywords") (news s)) l [])
    (ap (λ (l : List Token). names_within (length l) l) k.old_is ∙ names_steady (length (olds k.rest)) k.rest k.are ∙ ap (λ (n : ℕ). names_within n (news k.rest)) (same_length k.rest k.are)
    ∙ sym (ap (λ (l : List Token). names_within (length l) l) k.new_is))
