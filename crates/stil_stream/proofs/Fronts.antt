-- What a scan shows of the front of a head: the word of its first statement, and where this ends.
use Rattle.std.proofs.Common.{◌≡◌, ℕ, ◌+◌, ◌-◌, ◌<◌, ◌≤◌, Bool, true, false, ◌&&◌, List, [], ◌∷◌, ◌++◌, length, take, drop, Option, Some, None, refl, sym, ap, subst, ◌∙◌, arith, append_assoc, length-drop, inl, inr}
use Rattle.std.specs.Prelude.{nat_lt}
use Rattle.std.proofs.lemmas.Bool.{cases_Bool, cases_eq, ne_eqb, lt-ltb, true≢false, false≢true}
use Rattle.std.proofs.lemmas.List.{append-nil, take-append-drop, length-take-le, take-take, take_all}
use Rattle.stil_parts.specs.declared.gap.Place.TheVariants.{Top}
use Rattle.stil_parts.specs.declared.gap.Comment.{Comment}
use Rattle.stil_parts.specs.declared.gap.Comment.TheVariants.{Outside, Line, Block}
use Rattle.stil_parts.specs.declared.gap.Gap.{Gap}
use Rattle.stil_parts.specs.declared.word.Word.{Word}
use Rattle.stil_parts.specs.declared.word.Word.TheVariants.{Start, Letters, Text, Joined, After, Known}
use Rattle.stil_parts.specs.declared.word.Word.TheVariants as words
use Rattle.stil_parts.specs.declared.scan.Scan.{Scan}
use Rattle.stil_parts.specs.declared.scan.After.TheVariants.{Goes, Ends}
use Rattle.stil_parts.specs.declared.scan.Found.{Found}
use Rattle.stil_parts.specs.declared.head.HeadTurn.TheVariants.{Passed, Here}
use Rattle.stil_parts.specs.Words.{word_shown, word_settled, names_pattern}
use Rattle.stil_parts.specs.Scanner.{free_step, mode_step, step, found, later, at_brace, end_of, run, HasReached, HasFound}
use Rattle.stil_parts.specs.Parts.{begin}
use Rattle.stil_parts.specs.Gaps.{gap_at, outside_gap, line_gap, block_gap}
use Rattle.stil_parts.specs.Heads.{word_of, statement_turn, head_turn}
use Rattle.stil_parts.specs.Resuming.{Reaches}
use Rattle.stil_parts.proofs.Ends.{Went, Ended, Opened, stepped, end_goes, end_ends, end_opens, run_goes, later-some, end-stable, end-on, end-within}
use Rattle.stil_parts.proofs.Scans.{later-none}
use Rattle.stil_parts.proofs.Resumed.{resumed-some, resumed-reaches}
use Rattle.stil_parts.proofs.GapLemmas.{gap-stable, gap-two, outside-one, gap-within}
use Rattle.stil_stream.specs.Walks.{holds, IsPassing}
use Rattle.stil_stream.proofs.Forgetting.{forget, beside-ends, known-goes, pattern-opens, together}

-- a word that is shown before the text ends is known
shown-known : (w : Word) (is : Bool) → word_shown false w ≡ Some is → w ≡ Known is
shown-known Start is e = absurd (cc)
shown-known (Letters k) is e = absurd (cc)
shown-known words.Run is e = absurd (cc)
shown-known Text is e = absurd (cc)
shown-known Joined is e = absurd (cc)
shown-known (After known) is e = absurd (cc)
shown-known (Known known) is e = let k : known ≡ is = cc in ap (λ (b : Bool). Known b) k

pattern-known : (w : Word) → names_pattern w ≡ true → word_shown false w ≡ Some true
pattern-known Start e = absurd (false≢true e)
pattern-known (Letters k) e = absurd (false≢true e)
pattern-known words.Run e = absurd (false≢true e)
pattern-known Text e = absurd (false≢true e)
pattern-known Joined e = absurd (false≢true e)
pattern-known (After known) e = absurd (false≢true e)
pattern-known (Known known) e = ap (λ (b : Bool). Some b) e

-- where the word is known, bytes that follow change nothing
word-known : (last : Bool) (s : Scan) (x : List ℕ) (is : Bool) → s.word ≡ Known is → word_of last s x ≡ Some is
unfolding word_of
word-known last s [] is e = rw e refl
word-known last s (b ∷ bs) is e = rw (e, word_of) refl

-- one byte in front
module _ (last : Bool) (s : Scan) (b : ℕ) (bs : List ℕ) where
  goes-as : (t : Scan) (o : Option Bool) → word_shown false s.word ≡ o → Goes t ≡ step s b → word_of last s (b ∷ bs) ≡ word_of last t bs
  unfolding word_of
  goes-as t None e h = rw (e, ← h, word_of) refl
  goes-as t (Some is) e h =
      let k = shown-known s.word is e in
      word-known last s (b ∷ bs) is k ∙ sym (word-known last t bs is (known-goes s t b is h k))

  pub word-goes : (t : Scan) → Goes t ≡ step s b → word_of last s (b ∷ bs) ≡ word_of last t bs
  word-goes t h = goes-as t (word_shown false s.word) refl h

  ends-as : (o : Option Bool) → word_shown false s.word ≡ o → Ends ≡ step s b → word_of last s (b ∷ bs) ≡ word_shown true (word_settled s.word)
  unfolding word_of
  ends-as None e h = rw (e, ← h, word_of) refl
  ends-as (Some is) e h = let k = shown-known s.word is e in word-known last s (b ∷ bs) is k ∙ sym (ap (λ (w : Word). word_shown true (word_settled w)) k)

  pub word-ends : Ends ≡ step s b → word_of last s (b ∷ bs) ≡ word_shown true (word_settled s.word)
  word-ends h = ends-as (word_shown false s.word) refl h

-- behind bytes that show no end
pub word-on : (last : Bool) (s : Scan) (x y : List ℕ) → end_of false s x ≡ None → word_of last s (x ++ y) ≡ word_of last (run s x) y
unfolding run
word-on last s [] y e = refl
word-on last s (b ∷ bs) y e = elim (stepped s b) [
  | Went t h ↦ (
      let none = later-none 1 (end_of false t bs) (sym (end_goes false s b bs t h) ∙ e) in
      word-goes last s b (bs ++ y) t h ∙ word-on last t bs y none ∙ ap (λ (r : Scan). word_of last r y) (sym (run_goes s t b bs h)))
  | Ended h ↦ absurd (let k = sym (end_ends false s b bs h) ∙ e in cc)
  | Opened h ↦ absurd (let k = sym (end_opens false s b bs h) ∙ e in cc)
]

word-nil : (last : Bool) (s : Scan) → word_of last s [] ≡ word_shown last s.word
unfolding word_of
word-nil last s = refl

-- where a Pattern opens, its word is Pattern
pub word-opens : (last : Bool) (s : Scan) (x : List ℕ) (n : ℕ) → end_of false s x ≡ Some (found n true) → word_of last s x ≡ Some true
unfolding end_of
word-opens last s [] n e = absurd (cc)
word-opens last s (b ∷ bs) n e = elim (stepped s b) [
  | Went t h ↦ (
      let w = later-some 1 (end_of false t bs) (found n true) (sym (end_goes false s b bs t h) ∙ e) in
      let k : found w.found_len w.opens ≡ found w.found_len true = ap (found w.found_len) (sym w.same) in
      word-goes last s b bs t h ∙ word-opens last t bs w.found_len (w.is ∙ ap (λ (f : Found). Some f) k))
  | Ended h ↦ absurd (let k : found 1 false ≡ found n true = (let q = sym (end_ends false s b bs h) ∙ e in cc) in false≢true (ap (λ (f : Found). f.opens) k))
  | Opened h ↦ word-known last s (b ∷ bs) true (shown-known s.word true (pattern-known s.word (pattern-opens s b h)))
]

-- an end has a byte at least
ends-some : (last : Bool) (s : Scan) (x : List ℕ) (f : Found) → end_of last s x ≡ Some f → f.opens ≡ false → 0 < f.len
unfolding end_of
ends-some last s [] f e plain = elim (cases_Bool (last && at_brace s)) [
  | inl t ↦ absurd (let k : Some (found 0 true) ≡ Some f = sym (rw (t, end_of) refl) ∙ e in let l : found 0 true ≡ f = cc in true≢false (ap (λ (g : Found). g.opens) l ∙ plain))
  | inr t ↦ absurd (let k : None ≡ Some f = sym (rw (t, end_of) refl) ∙ e in cc)
]
ends-some last s (b ∷ bs) f e plain = elim (stepped s b) [
  | Went t h ↦ (let w = later-some 1 (end_of last t bs) f (sym (end_goes last s b bs t h) ∙ e) in omega (arith, w.len))
  | Ended h ↦ (let l : found 1 false ≡ f = (let k = sym (end_ends last s b bs h) ∙ e in cc) in let m : 1 ≡ f.len = ap (λ (g : Found). g.len) l in omega arith)
  | Opened h ↦ absurd (let l : found 0 true ≡ f = (let k = sym (end_opens last s b bs h) ∙ e in cc) in true≢false (ap (λ (g : Found). g.opens) l ∙ plain))
]

-- fewer bytes show no end
none-as : (s : Scan) (x : List ℕ) (n : ℕ) (f : Found) (o : Option Found) → end_of false s (take n x) ≡ o → end_of false s x ≡ Some f → n < f.len → n ≤ length x → end_of false s (take n x) ≡ None
none-as s x n f None h e lt le = h
none-as s x n f (Some g) h e lt le =
    let whole : end_of false s x ≡ Some g = ap (end_of false s) (sym (take-append-drop n x)) ∙ end-stable false s (take n x) (drop n x) g h in
    let same : g ≡ f = (let q = sym whole ∙ e in cc) in
    let within = end-within false s (take n x) g h in
    let len : g.len ≡ f.len = ap (λ (k : Found). k.len) same in
    absurd (omega (arith, within, length-take-le n x le))

pub none-before : (s : Scan) (x : List ℕ) (n : ℕ) (f : Found) → end_of false s x ≡ Some f → n < f.len → n ≤ length x → end_of false s (take n x) ≡ None
none-before s x n f e lt le = none-as s x n f (end_of false s (take n x)) refl e lt le

-- a scan that goes on is there before the end
pub before-end : (s t : Scan) (x : List ℕ) (done n : ℕ) → Reaches s x done t → HasFound false x done t (found n false) → done < n
before-end s t x done n r h =
    let w = later-some done (end_of false t (drop done x)) (found n false) h.same in
    omega (arith, w.len, ends-some false t (drop done x) (found w.found_len w.opens) w.is (sym w.same))

-- what a scan has reached in the first bytes
pub reaches-front : (s t : Scan) (x : List ℕ) (done n : ℕ) → Reaches s x done t → done ≤ n → n ≤ length x → Reaches s (take n x) done t
reaches-front s t x done n r le within =
    let front : take done (take n x) ≡ take done x = take-take done n x le in
    record {
      within = omega (arith, length-take-le n x within);
      none = rw front r.none;
      ran = rw front r.ran;
      shallow = r.shallow;
    }

-- a scan of all bytes but the last of a statement
pub whole-reaches : (s t u : Scan) (x : List ℕ) (done n : ℕ) → Reaches s x done t → HasFound false x done t (found n false) → HasReached false (take (n - 1) x) done t u
    → Reaches s (take (n - 1) x) (n - 1) u
whole-reaches s t u x done n r h k =
    let lt = before-end s t x done n r h in
    let within = h.within in
    let front = reaches-front s t x done (n - 1) r (omega arith) (omega arith) in
    let len : length (take (n - 1) x) ≡ n - 1 = length-take-le (n - 1) x (omega arith) in
    subst (λ (m : ℕ). Reaches s (take (n - 1) x) m u) len (resumed-reaches s t (take (n - 1) x) done front u k)

-- such a scan finds nothing
pub whole-open : (s t : Scan) (x : List ℕ) (done n : ℕ) (f : Found) → Reaches s x done t → HasFound false x done t (found n false) → HasFound false (take (n - 1) x) done t f → ⊥
whole-open s t x done n f r h k =
    let lt = before-end s t x done n r h in
    let within = h.within in
    let front = reaches-front s t x done (n - 1) r (omega arith) (omega arith) in
    let none = none-before s x (n - 1) (found n false) (resumed-some s t x done r false (found n false) h) (omega arith) (omega arith) in
    let some = resumed-some s t (take (n - 1) x) done front false f k in
    absurd (let q = sym none ∙ some in cc)

-- the byte that ends a statement
module _ (u : Scan) (b : ℕ) (bs : List ℕ) (f : Found) (e : end_of false u (b ∷ bs) ≡ Some f) (plain : f.opens ≡ false) (one : f.len ≡ 1) where
  last-byte : Ends ≡ step u b
  last-byte = elim (stepped u b) [
    | Went t h ↦ absurd (
        let w = later-some 1 (end_of false t bs) f (sym (end_goes false u b bs t h) ∙ e) in
        let some = ends-some false t bs (found w.found_len w.opens) w.is (sym w.same ∙ plain) in
        omega (arith, w.len))
    | Ended h ↦ h
    | Opened h ↦ absurd (let l : found 0 true ≡ f = (let k = sym (end_opens false u b bs h) ∙ e in cc) in true≢false (ap (λ (g : Found). g.opens) l ∙ plain))
  ]

-- no gap is shown, whatever follows, where the word is
word-nothing : word_of false (begin Start) [] ≡ None
unfolding word_of
word-nothing = refl

word-slash : word_of false (begin Start) (47 ∷ []) ≡ None
unfolding word_of step mode_step free_step
word-slash = refl

none-one : (w : Bool) (b : ℕ) (y : List ℕ) → (outside_gap Top (b ∷ [])).len ≡ 0 → word_of false (begin Start) (b ∷ []) ≡ Some w → (outside_gap Top (b ∷ y)).len ≡ 0
none-one w b y none h = elim (cases_eq b 47) [
  | inl e ↦ absurd (let q = rw e at h in let k = sym word-slash ∙ q in cc)
  | inr ne ↦ ap (λ (g : Gap). g.len) (outside-one Top b y [] (ne_eqb b 47 ne)) ∙ none
]

none-word : (c : Comment) (w : Bool) (x y : List ℕ) → (gap_at Top c x).len ≡ 0 → word_of false (begin Start) x ≡ Some w → (gap_at Top c (x ++ y)).len ≡ 0
unfolding gap_at line_gap block_gap
none-word c w [] y none h = absurd (let k = sym word-nothing ∙ h in cc)
none-word Outside w (b ∷ []) y none h = none-one w b y none h
none-word Line w (b ∷ []) y none h = absurd (omega arith)
none-word (Block star) w (b ∷ []) y none h = absurd (omega arith)
none-word c w (b ∷ d ∷ bs) y none h = ap (λ (g : Gap). g.len) (gap-two Top c (b ∷ d ∷ bs) y (omega arith)) ∙ none

-- the turn, by its cases
turn-at-gap : (last : Bool) (c : Comment) (x : List ℕ) → nat_lt 0 (gap_at Top c x).len ≡ true → head_turn last c x ≡ Some (Passed (gap_at Top c x).len (gap_at Top c x).comment)
unfolding head_turn
turn-at-gap last c x e = rw e refl

turn-at-word : (last : Bool) (c : Comment) (x : List ℕ) → (gap_at Top c x).len ≡ 0 → head_turn last c x ≡ statement_turn (word_of last (begin Start) x) (end_of last (begin (Known false)) x)
unfolding head_turn
turn-at-word last c x e = rw e refl

pub gap-front : (c : Comment) (x : List ℕ) (g : Gap) → g ≡ gap_at Top c x → 0 < g.len → IsPassing c x g.len g.comment
gap-front c x g is some = record {
  some = some;
  within = rw is (gap-within Top c x);
  passes = λ last more.
      let shown : 0 < (gap_at Top c x).len = rw (← is) some in
      let same = gap-stable Top c x more shown ∙ sym is in
      turn-at-gap last c (x ++ more) (ap (λ (h : Gap). nat_lt 0 h.len) same ∙ lt-ltb 0 g.len some) ∙ ap (λ (h : Gap). Some (Passed h.len h.comment)) same;
}

-- at the end of the bytes no end is shown by a scan that knows of no Pattern
no-end : (last : Bool) (s : Scan) → end_of last (forget s) [] ≡ None
unfolding end_of
no-end true s = refl
no-end false s = refl

-- of some bytes there is a first
of-some : (P : Type 0) (y : List ℕ) → 0 < length y → ((b : ℕ) (bs : List ℕ) → y ≡ b ∷ bs → P) → P
of-some P [] some f = absurd (omega arith)
of-some P (b ∷ bs) some f = f b bs refl

pub holds-some : (o : Option Bool) → true ≡ holds o → o ≡ Some true
holds-some None e = absurd (true≢false e)
holds-some (Some is) e = ap (λ (b : Bool). Some b) (sym e)

pub holds-other : (o : Option Bool) → false ≡ holds o → o ≡ Some true → ⊥
holds-other None e t = absurd (cc)
holds-other (Some is) e t = let k : is ≡ true = cc in false≢true (e ∙ k)

-- where no gap is shown
module _ (c : Comment) (x : List ℕ) (no_gap : (gap_at Top c x).len ≡ 0) where
  here-at : (last : Bool) → word_of last (begin Start) x ≡ Some true → head_turn last c x ≡ Some Here
  here-at last w = turn-at-word last c x no_gap ∙ ap (λ (o : Option Bool). statement_turn o (end_of last (begin (Known false)) x)) w

  pub opens-here : (last : Bool) (done : ℕ) (t : Scan) (f : Found) → Reaches (begin Start) x done t → HasFound false x done t f → f.opens ≡ true → head_turn last c x ≡ Some Here
  opens-here last done t f r h e =
      here-at last (word-opens last (begin Start) x f.len (resumed-some (begin Start) t x done r false f h ∙ ap (λ (b : Bool). Some (found f.len b)) e))

  -- where a scan of all bytes shows no end
  module _ (u : Scan) (r : Reaches (begin Start) x (length x) u) where
    whole : take (length x) x ≡ x
    whole = take_all (length x) x (omega arith)

    none : end_of false (begin Start) x ≡ None
    none = ap (end_of false (begin Start)) (sym whole) ∙ r.none

    ran : run (begin Start) x ≡ u
    ran = ap (run (begin Start)) (sym whole) ∙ r.ran

    word-is : (last : Bool) → word_of last (begin Start) x ≡ word_shown last u.word
    word-is last =
        ap (word_of last (begin Start)) (sym (append-nil x)) ∙ word-on last (begin Start) x [] none ∙ word-nil last (run (begin Start) x) ∙ ap (λ (s : Scan). word_shown last s.word) ran

    pub shown-here : (last : Bool) → word_shown last u.word ≡ Some true → head_turn last c x ≡ Some Here
    shown-here last e = here-at last (word-is last ∙ e)

    open-end : (last : Bool) → end_of last (begin (Known false)) x ≡ None
    open-end last =
        let t = together (begin Start) x none in
        ap (end_of last (begin (Known false))) (sym (append-nil x)) ∙ end-on last (begin (Known false)) x [] t.none
        ∙ ap (λ (s : Scan). later (length x) (end_of last s [])) t.same ∙ ap (later (length x)) (no-end last (run (begin Start) x))

    open-as : (last : Bool) (o : Option Bool) → (o ≡ Some true → ⊥) → statement_turn o (end_of last (begin (Known false)) x) ≡ None
    open-as last None plain = refl
    open-as last (Some true) plain = absurd (plain refl)
    open-as last (Some false) plain = ap (statement_turn (Some false)) (open-end last)

    pub shown-open : (last : Bool) → (word_shown last u.word ≡ Some true → ⊥) → head_turn last c x ≡ None
    shown-open last plain =
        turn-at-word last c x no_gap ∙ ap (λ (o : Option Bool). statement_turn o (end_of last (begin (Known false)) x)) (word-is last)
        ∙ open-as last (word_shown last u.word) plain

  -- where they hold a whole statement, whose last byte a scan has come to
  module _ (n : ℕ) (u : Scan) (found_at : end_of false (begin Start) x ≡ Some (found n false)) (some : 0 < n) (within : n ≤ length x)
      (r : Reaches (begin Start) (take (n - 1) x) (n - 1) u) where
    front-len : length (take (n - 1) x) ≡ n - 1
    front-len = length-take-le (n - 1) x (omega arith)

    front-whole : take (n - 1) (take (n - 1) x) ≡ take (n - 1) x
    front-whole = take_all (n - 1) (take (n - 1) x) (omega (arith, front-len))

    front-none : end_of false (begin Start) (take (n - 1) x) ≡ None
    front-none = ap (end_of false (begin Start)) (sym front-whole) ∙ r.none

    front-ran : run (begin Start) (take (n - 1) x) ≡ u
    front-ran = ap (run (begin Start)) (sym front-whole) ∙ r.ran

    -- behind these bytes, of which b is the next
    module _ (b : ℕ) (bs : List ℕ) (rest : drop (n - 1) x ≡ b ∷ bs) where
      parts : x ≡ take (n - 1) x ++ (b ∷ bs)
      parts = sym (take-append-drop (n - 1) x) ∙ ap (λ (y : List ℕ). take (n - 1) x ++ y) rest

      ends-there : Ends ≡ step u b
      ends-there =
          let all = sym (ap (end_of false (begin Start)) parts ∙ end-on false (begin Start) (take (n - 1) x) (b ∷ bs) front-none ∙ ap (λ (s : Scan). later (length (take (n - 1) x)) (end_of false s (b ∷ bs))) front-ran) ∙ found_at in
          let w = later-some (length (take (n - 1) x)) (end_of false u (b ∷ bs)) (found n false) all in
          last-byte u b bs (found w.found_len w.opens) w.is (sym w.same) (omega (arith, w.len, front-len))

      onward : (more : List ℕ) → x ++ more ≡ take (n - 1) x ++ (b ∷ (bs ++ more))
      onward more = ap (λ (y : List ℕ). y ++ more) parts ∙ append_assoc (take (n - 1) x) (b ∷ bs) more

      word-there : (last : Bool) (more : List ℕ) → word_of last (begin Start) (x ++ more) ≡ word_shown true (word_settled u.word)
      word-there last more =
          ap (word_of last (begin Start)) (onward more) ∙ word-on last (begin Start) (take (n - 1) x) (b ∷ (bs ++ more)) front-none
          ∙ ap (λ (s : Scan). word_of last s (b ∷ (bs ++ more))) front-ran ∙ word-ends last u b (bs ++ more) ends-there

      end-there : (last : Bool) (more : List ℕ) → end_of last (begin (Known false)) (x ++ more) ≡ Some (found n false)
      end-there last more =
          let t = together (begin Start) (take (n - 1) x) front-none in
          let len : length (take (n - 1) x) + 1 ≡ n = omega (arith, front-len) in
          ap (end_of last (begin (Known false))) (onward more) ∙ end-on last (begin (Known false)) (take (n - 1) x) (b ∷ (bs ++ more)) t.none
          ∙ ap (λ (s : Scan). later (length (take (n - 1) x)) (end_of last s (b ∷ (bs ++ more)))) (t.same ∙ ap forget front-ran)
          ∙ ap (later (length (take (n - 1) x))) (end_ends last (forget u) b (bs ++ more) (beside-ends u b ends-there))
          ∙ ap (λ (k : ℕ). Some (found k false)) len

      whole-here-at : (last : Bool) → word_shown true (word_settled u.word) ≡ Some true → head_turn last c x ≡ Some Here
      whole-here-at last e = here-at last (ap (word_of last (begin Start)) (sym (append-nil x)) ∙ word-there last [] ∙ e)

      whole-passes-at : word_shown true (word_settled u.word) ≡ Some false → (last : Bool) (more : List ℕ) → head_turn last c (x ++ more) ≡ Some (Passed n Outside)
      whole-passes-at e last more =
          let here = ap (word_of false (begin Start)) (sym (append-nil x)) ∙ word-there false [] ∙ e in
          turn-at-word last c (x ++ more) (none-word c false x more no_gap here)
          ∙ ap (λ (o : Option Bool). statement_turn o (end_of last (begin (Known false)) (x ++ more))) (word-there last more ∙ e)
          ∙ ap (statement_turn (Some false)) (end-there last more)

    more-left : 0 < length (drop (n - 1) x)
    more-left = omega (arith, length-drop (n - 1) x)

    pub whole-here : (last : Bool) → word_shown true (word_settled u.word) ≡ Some true → head_turn last c x ≡ Some Here
    whole-here last e = of-some (head_turn last c x ≡ Some Here) (drop (n - 1) x) more-left (λ b bs rest. whole-here-at b bs rest last e)

    pub whole-passes : word_shown true (word_settled u.word) ≡ Some false → IsPassing c x n Outside
    whole-passes e = record {
      some = some;
      within = within;
      passes = λ last more. of-some (head_turn last c (x ++ more) ≡ Some (Passed n Outside)) (drop (n - 1) x) more-left (λ b bs rest. whole-passes-at b bs rest e last more);
    }
