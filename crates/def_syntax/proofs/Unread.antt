-- The form of an option's tokens that aren't read is lawful, closed or not.
use Rattle.std.proofs.Common.{◌≡◌, ◌≤◌, ◌+◌, ◌-◌, arith, ◌==◌, ℕ, Bool, true, false, ◌&&◌, ◌||◌, not, if◌then◌else◌, List, [], ◌∷◌, ◌++◌, Option, Some, None, refl, sym, ap, ◌∙◌, subst, codes}
use Rattle.std.specs.Str.{bytes_eq}
use Rattle.std.proofs.lemmas.Bool.{eqb-true, and_parts, or_parts}
use Rattle.std.proofs.lemmas.Option.{same_Some}
use Rattle.base_types.proofs.TruthValues.{bytes_are}
use Rattle.token_forms.specs.Tokens.{Token}
use Rattle.token_forms.specs.Classes.{Only, But, is_among, is_in_any, are_apart, begins}
use Rattle.token_forms.specs.Laws.{Stands, IsLawful}
use Rattle.token_forms.proofs.Spelled.{choose}
use Rattle.token_forms.proofs.ClassLemmas.{apart}
use Rattle.def_syntax.specs.Options.{open_behind, may_stand, all_stand, open_after, first_word, IsUnread, rest_at, depth_at, word_in, unread_at, going_on, unread}

-- the tokens that stand in the option, in front of what is left
record Run (depth : ℕ) (ts : List Token) : Type 0 where
  pub front : List Token
  pub is : ts ≡ front ++ rest_at depth ts
  pub stand : all_stand depth front ≡ true
  pub depth_is : open_after depth front ≡ depth_at depth ts
  pub first : first_word front ≡ word_in depth ts

one_more : (depth : ℕ) (t : Token) (ts : List Token) (b : Bool) → may_stand depth t.text ≡ b → Run (open_behind depth t.text) ts → Run depth (t ∷ ts)
unfolding rest_at depth_at all_stand open_after word_in
one_more depth t ts true e u = record { front = t ∷ u.front; is = rw e (ap (λ (l : List Token). t ∷ l) u.is); stand = rw e u.stand; depth_is = rw e u.depth_is; first = rw e refl }
one_more depth t ts false e u = record { front = []; is = rw e refl; stand = refl; depth_is = rw e refl; first = rw e refl }

run_of : (depth : ℕ) (ts : List Token) → Run depth ts
unfolding rest_at depth_at all_stand open_after word_in
run_of depth [] = record { front = []; is = refl; stand = refl; depth_is = refl; first = refl }
run_of depth (t ∷ ts) = one_more depth t ts (may_stand depth t.text) refl (run_of (open_behind depth t.text) ts)

-- the tokens in front stand in the option, and those behind don't go on with it
record Reads (depth : ℕ) (front rest : List Token) : Type 0 where
  pub left : rest_at depth (front ++ rest) ≡ rest
  pub depth_is : depth_at depth (front ++ rest) ≡ open_after depth front
  pub word : word_in depth (front ++ rest) ≡ first_word front

abbrev Stops : ℕ → List Token → Type 0
Stops depth [] = Unit {0}
Stops depth (t ∷ ts) = may_stand depth t.text ≡ false

ends_here : (depth : ℕ) (rest : List Token) → Stops depth rest → Reads depth [] rest
unfolding rest_at depth_at open_after word_in
ends_here depth [] s = record { left = refl; depth_is = refl; word = refl }
ends_here depth (t ∷ rest) s = record { left = rw s refl; depth_is = rw s refl; word = rw s refl }

reads_of : (depth : ℕ) (front rest : List Token) → all_stand depth front ≡ true → Stops (open_after depth front) rest → Reads depth front rest
unfolding all_stand rest_at depth_at open_after word_in
reads_of depth [] rest stand s = ends_here depth rest s
reads_of depth (t ∷ front) rest stand s =
    let b = and_parts (may_stand depth t.text) (all_stand (open_behind depth t.text) front) stand in
    let u = reads_of (open_behind depth t.text) front rest b.1 s in
    record { left = rw (b.0) u.left; depth_is = rw (b.0) u.depth_is; word = rw (b.0) refl }

module _ (read : List (List ℕ)) where
  -- what is read is spelled so
  shut_at : (closed : Bool) (depth : ℕ) → (closed && not (depth == 0)) ≡ false → closed ≡ true → depth ≡ 0
  shut_at true depth e c = eqb-true depth 0 (not_false (depth == 0) e)
    where
      not_false : (b : Bool) → not b ≡ false → b ≡ true
      not_false true e = refl
      not_false false e = absurd cc
  shut_at false depth e c = absurd cc

  front_free : (front rest : List Token) (ts : List Token) → ts ≡ front ++ rest → begins (Only read ∷ []) ts ≡ false → begins (Only read ∷ []) front ≡ false
  front_free [] rest ts is e = refl
  front_free (t ∷ front) rest ts is e = subst (λ (l : List Token). begins (Only read ∷ []) l ≡ false) is e

  unread-spelled : (closed : Bool) (ts : List Token) (x : Option (List ℕ)) (rest : List Token) → unread_at closed read ts ≡ Some (x, rest) → Stands (IsUnread closed read x) ts rest
  unfolding unread_at
  unread-spelled closed ts x rest e =
      choose (begins (Only read ∷ []) ts || (closed && not (depth_at 0 ts == 0))) _ _ _ e (λ n e. absurd cc)
      (λ n e.
      let k = or_parts (begins (Only read ∷ []) ts) _ n in
      let u = run_of 0 ts in
      let p = same_Some _ _ e in
      let word : word_in 0 ts ≡ x = ap (λ (y : Option (List ℕ) × List Token). y.0) p in
      let left : rest_at 0 ts ≡ rest = ap (λ (y : Option (List ℕ) × List Token). y.1) p in
      record {
        front = u.front;
        is = u.is ∙ ap (λ (l : List Token). u.front ++ l) left;
        holds = record { stand = u.stand; shut = λ c. u.depth_is ∙ shut_at closed (depth_at 0 ts) k.1 c; free = front_free u.front (rest_at 0 ts) ts u.is k.0; first = u.first ∙ word };
      })

  -- what is spelled so is read
  stops_at : (closed : Bool) (depth : ℕ) (rest : List Token) → (closed ≡ true → depth ≡ 0) → begins (going_on closed ∷ []) rest ≡ false → Stops depth rest
  stops_at closed depth [] shut e = tt
  stops_at true depth (t ∷ rest) shut e = rw (shut refl) (mark (bytes_eq t.text (codes "+")) (bytes_eq t.text (codes ";")) e)
    where
      mark : (p s : Bool) → (not (p || (s || false)) || false) ≡ false → (not s && (not p || false)) ≡ false
      mark true true e = refl
      mark true false e = refl
      mark false true e = refl
      mark false false e = absurd cc
  stops_at false depth (t ∷ rest) shut e = mark (bytes_eq t.text (codes ";")) e
    where
      mark : (s : Bool) → (not (s || false) || false) ≡ false → (not s && (not (bytes_eq t.text (codes "+")) || not (depth == 0))) ≡ false
      mark true e = refl
      mark false e = absurd cc

  -- what may stand behind is none of the words that are read
  behind_free : (closed : Bool) (front rest : List Token) → are_apart (Only read) (Only (codes "+" ∷ codes ";" ∷ [])) ≡ true → begins (Only read ∷ []) front ≡ false → begins (going_on closed ∷ []) rest ≡ false
      → begins (Only read ∷ []) (front ++ rest) ≡ false
  behind_free closed (t ∷ front) rest clear free e = free
  behind_free closed [] [] clear free e = refl
  behind_free closed [] (t ∷ rest) clear free e = rw (none (is_among read t.text) refl) refl
    where
      marked : (c : Bool) → begins (going_on c ∷ []) (t ∷ rest) ≡ false → is_among (codes "+" ∷ codes ";" ∷ []) t.text ≡ true
      marked true e = two (bytes_eq t.text (codes "+")) (bytes_eq t.text (codes ";")) e
        where
          two : (p s : Bool) → (not (p || (s || false)) || false) ≡ false → (p || (s || false)) ≡ true
          two true s e = refl
          two false true e = refl
          two false false e = absurd cc
      marked false e = one (bytes_eq t.text (codes "+")) (bytes_eq t.text (codes ";")) e
        where
          one : (p s : Bool) → (not (s || false) || false) ≡ false → (p || (s || false)) ≡ true
          one true s e = refl
          one false true e = refl
          one false false e = absurd cc

      none : (b : Bool) → is_among read t.text ≡ b → b ≡ false
      none true i = absurd (apart (Only read) (Only (codes "+" ∷ codes ";" ∷ [])) t.text clear i (marked closed e))
      none false i = refl

  shut_depth : (closed : Bool) (depth : ℕ) → (closed ≡ true → depth ≡ 0) → (closed && not (depth == 0)) ≡ false
  shut_depth true depth shut = rw (shut refl) refl
  shut_depth false depth shut = refl

  unread-read : (closed : Bool) → are_apart (Only read) (Only (codes "+" ∷ codes ";" ∷ [])) ≡ true → (x : Option (List ℕ)) (front rest : List Token) → IsUnread closed read x front
      → begins (going_on closed ∷ []) rest ≡ false → unread_at closed read (front ++ rest) ≡ Some (x, rest)
  unfolding unread_at
  unread-read closed clear x front rest s behind =
      let r = reads_of 0 front rest s.stand (stops_at closed (open_after 0 front) rest s.shut behind) in
      let free = behind_free closed front rest clear s.free behind in
      let shut = shut_depth closed (open_after 0 front) s.shut in
      rw (free, r.left, r.depth_is, r.word, shut, s.first) refl

  starts_so : (x : Option (List ℕ)) (t : Token) (ts : List Token) (closed : Bool) → IsUnread closed read x (t ∷ ts) → is_in_any (But (codes "+" ∷ codes ";" ∷ read) ∷ []) t.text ≡ true
  unfolding all_stand
  starts_so x t ts closed s =
      mark (bytes_eq t.text (codes "+")) (bytes_eq t.text (codes ";")) (is_among read t.text) (and_parts (may_stand 0 t.text) _ s.stand).0 s.free
    where
      mark : (p s r : Bool) → (not s && (not p || false)) ≡ true → (r || false) ≡ false → (not (p || (s || r)) || false) ≡ true
      mark true true r e f = absurd cc
      mark true false r e f = absurd cc
      mark false true r e f = absurd cc
      mark false false true e f = absurd cc
      mark false false false e f = refl

  pub unread-lawful : (closed : Bool) → IsLawful (unread closed read)
  unread-lawful closed = record {
    spelled = unread-spelled closed;
    read = λ clear x front rest s behind. unread-read closed clear x front rest s behind;
    first = λ x t ts s. starts_so x t ts closed s;
    not_empty = λ never x s. absurd cc;
  }

  -- a closed option is read so too where it may be open
  pub unread-closed : (ts : List Token) (x : Option (List ℕ) × List Token) → unread_at true read ts ≡ Some x → unread_at false read ts ≡ Some x
  unfolding unread_at
  unread-closed ts x e = decide (begins (Only read ∷ []) ts) (not (depth_at 0 ts == 0)) e
    where
      decide : (b d : Bool) → (if b || (true && d) then None else Some (word_in 0 ts, rest_at 0 ts)) ≡ Some x → (if b || (false && d) then None else Some (word_in 0 ts, rest_at 0 ts)) ≡ Some x
      decide true d e = e
      decide false true e = absurd cc
      decide false false e = e

  -- where a `+` stands behind it, it is closed
  shut_before : (depth : ℕ) (ts : List Token) → begins (Only (codes "+" ∷ []) ∷ []) (rest_at depth ts) ≡ true → depth_at depth ts ≡ 0
  unfolding rest_at depth_at
  shut_before depth [] e = absurd cc
  shut_before depth (t ∷ ts) e = decide (may_stand depth t.text) refl e (shut_before (open_behind depth t.text) ts)
    where
      plus : (p s z : Bool) → (not s && (not p || not z)) ≡ false → ((p || false) || false) ≡ true → (s ≡ true → p ≡ true → ⊥) → z ≡ true
      plus p s true a b n = refl
      plus true true false a b n = absurd (n refl refl)
      plus true false false a b n = absurd cc
      plus false s false a b n = absurd cc

      decide : (b : Bool) → may_stand depth t.text ≡ b → begins (Only (codes "+" ∷ []) ∷ []) (if b then rest_at (open_behind depth t.text) ts else t ∷ ts) ≡ true
          → (begins (Only (codes "+" ∷ []) ∷ []) (rest_at (open_behind depth t.text) ts) ≡ true → depth_at (open_behind depth t.text) ts ≡ 0) → (if b then depth_at (open_behind depth t.text) ts else depth) ≡ 0
      decide true m e later = later e
      decide false m e later =
          eqb-true depth 0 (plus (bytes_eq t.text (codes "+")) (bytes_eq t.text (codes ";")) (depth == 0) m e
          (λ s p. let a = bytes_are t.text (codes ";") s in let b = bytes_are t.text (codes "+") p in let k : codes ";" ≡ codes "+" = sym a ∙ b in absurd cc))

  pub unread-open : (ts rest : List Token) (x : Option (List ℕ)) → unread_at false read ts ≡ Some (x, rest) → begins (Only (codes "+" ∷ []) ∷ []) rest ≡ true → unread_at true read ts ≡ Some (x, rest)
  unfolding unread_at
  unread-open ts rest x e plus =
      choose (begins (Only read ∷ []) ts || false) _ _ _ e (λ n e. absurd cc)
      (λ n e.
      let p = same_Some _ _ e in
      let left : rest_at 0 ts ≡ rest = ap (λ (y : Option (List ℕ) × List Token). y.1) p in
      let k = or_parts (begins (Only read ∷ []) ts) false n in
      rw (k.0, shut_before 0 ts (subst (λ (l : List Token). begins (Only (codes "+" ∷ []) ∷ []) l ≡ true) (sym left) plus)) e)

-- the loop that takes these tokens
pub takes_one : (depth : ℕ) (t : Token) (ts us : List Token) → ts ≡ t ∷ us → may_stand depth t.text ≡ true → rest_at (open_behind depth t.text) us ≡ rest_at depth ts
unfolding rest_at
takes_one depth t ts us is e = rw (is, e) refl

pub stops_here : (depth : ℕ) (t : Token) (ts us : List Token) → ts ≡ t ∷ us → may_stand depth t.text ≡ false → ts ≡ rest_at depth ts
unfolding rest_at
stops_here depth t ts us is e = rw (is, e) refl

pub none_left : (depth : ℕ) (ts : List Token) → ts ≡ [] → ts ≡ rest_at depth ts
unfolding rest_at
none_left depth ts is = rw is refl

pub one_deeper : (depth : ℕ) (text : List ℕ) → open_behind depth text ≤ depth + 1
one_deeper depth text = cases (bytes_eq text (codes "(")) (bytes_eq text (codes ")"))
  where
    cases : (o c : Bool) → (if o then depth + 1 else (if c then depth - 1 else depth)) ≤ depth + 1
    cases true c = omega arith
    cases false true = omega arith
    cases false false = omega arith
