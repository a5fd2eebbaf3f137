-- A text, each statement of which is written so that it reads as it should, is read so whole.
use Rattle.std.proofs.Common.{◌≡◌, inl, inr, ℕ, zero, suc, ◌+◌, ◌-◌, ◌<◌, ◌≤◌, Bool, true, false, cond, List, [], ◌∷◌, ◌++◌, length, drop, take, map, Option, Some, None, refl, sym, ap, subst, ◌∙◌, arith, length-append, length-drop}
use Rattle.std.specs.List.{AllByRecursion as Each}
use Rattle.std.specs.Prelude.{nat_lt}
use Rattle.std.proofs.lemmas.Bool.{cases_Bool, ltb-true, true≢false}
use Rattle.std.proofs.lemmas.List.{append-nil, take-append-drop, length-take-le}
use Rattle.std.proofs.lemmas.Option.{same_Some}
use Rattle.base_types.specs.declared.kind.Kind.{Kind}
use Rattle.stil_tokens.specs.StilTokens.{tokens_in}
use Rattle.stil_types.specs.declared.head.StilHead.{StilHead}
use Rattle.stil_types.specs.declared.statement.PatternStatement.{PatternStatement}
use Rattle.stil_parts.specs.declared.gap.Place.{Place}
use Rattle.stil_parts.specs.declared.gap.Place.TheVariants.{Top, Pattern}
use Rattle.stil_parts.specs.declared.gap.Comment.{Comment}
use Rattle.stil_parts.specs.declared.gap.Gap.{Gap}
use Rattle.stil_parts.specs.declared.gap.Point.{Point}
use Rattle.stil_parts.specs.declared.word.Word.TheVariants.{Known}
use Rattle.stil_parts.specs.declared.scan.Found.{Found}
use Rattle.stil_parts.specs.declared.part.Part.{Part}
use Rattle.stil_parts.specs.declared.part.Part.TheVariants.{Passes, Opens, Whole}
use Rattle.stil_parts.specs.Gaps.{gap_at}
use Rattle.stil_parts.specs.Scanner.{end_of}
use Rattle.stil_parts.specs.Parts.{begin, begin_at, parted, part_at, part_len}
use Rattle.stil_parts.specs.Coming.{ending, moved, point_behind}
use Rattle.stil_parts.proofs.Ends.{end-stable, end-within}
use Rattle.stil_parts.proofs.GapLemmas.{gap-within}
use Rattle.stil_parts.proofs.PartStable.{parted-from, part-some, end-some}
use Rattle.stil_syntax.specs.declared.shape.Shape.{Shape}
use Rattle.stil_syntax.specs.declared.shape.Shape.TheVariants.{NoForm, Unsupported, Other, Scan, Loop}
use Rattle.stil_syntax.specs.Shapes.{shape_of}
use Rattle.stil_calls.specs.declared.judging.Judging.{Judging}
use Rattle.stil_calls.specs.Faults.{fault_or, fault_by}
use Rattle.stil_calls.specs.Parts.{opening_kind, opened_in, passing_in, judge_by}
use Rattle.stil_calls.specs.Statements.{is_read, statement_of}
use Rattle.stil_written.proofs.Readable.{is_read_so}
use Rattle.stil_reader.specs.Sayings.{Saying, GapByte, Stated, Told, after, name_in, named, statement_at, told, text_of}
use Rattle.stil_reader.specs.Patterns.{names_in, statements_in}
use Rattle.stil_reader.specs.Reading.{named_one}
use Rattle.stil_reader.proofs.Said.{text-is}
use Rattle.stil_written.specs.Unbounded.{says_free}
use Rattle.stil_written.specs.Written.{Form, written_says, pattern_of, IsWhole, IsStated, IsRewritten, SamePlace, AreTogether, SaysSame}
use Rattle.stil_written.proofs.Alone.{end_alone}
use Rattle.stil_written.proofs.Gaps.{SameGap, gap_same}
use Rattle.stil_written.proofs.Tails.{two_on, one_on, two_alike, one_alike, gap_by_two, part_tail}
use Rattle.stil_written.proofs.Turns.{comes-ended, says-gap, says-open, judged-sound, says-passed, says-stated}

-- bytes, and a name behind them
abbrev pub bytes_named : List ℕ → Option (List ℕ) → List Saying
bytes_named x name = map GapByte x ++ named name

names-on : (x : List ℕ) (name : Option (List ℕ)) (says : List Saying) → names_in (bytes_named x name ++ says) ≡ named_one name ++ names_in says
names-on [] None says = refl
names-on [] (Some name) says = refl
names-on (b ∷ bs) name says = names-on bs name says

pub statements-on : (x : List ℕ) (name : Option (List ℕ)) (says : List Saying) → statements_in (bytes_named x name ++ says) ≡ statements_in says
statements-on [] None says = refl
statements-on [] (Some name) says = refl
statements-on (b ∷ bs) name says = statements-on bs name says

pub written-on : (form : Form) (x : List ℕ) (name : Option (List ℕ)) (says : List Saying) → written_says form (bytes_named x name ++ says) ≡ x ++ written_says form says
written-on form [] None says = refl
written-on form [] (Some name) says = refl
written-on form (b ∷ bs) name says = ap (λ (l : List ℕ). b ∷ l) (written-on form bs name says)

take_all : (x w : List ℕ) → take (length x) (x ++ w) ≡ x
take_all [] w = refl
take_all (b ∷ bs) w = ap (λ (l : List ℕ). b ∷ l) (take_all bs w)

drop_all : (x w : List ℕ) → drop (length x) (x ++ w) ≡ w
drop_all [] w = refl
drop_all (b ∷ bs) w = drop_all bs w

by_end : (line other : ℕ) (o : Option Found) → parted (Pattern other) o ≡ parted (Pattern line) o
by_end line other None = refl
by_end line other (Some f) = refl

-- parts at the same place
part_same : (a b : Place) (bs : List ℕ) → SamePlace a b → part_at true b bs ≡ part_at true a bs
unfolding part_at
part_same Top Top bs s = refl
part_same Top (Pattern line) bs s = absurd s
part_same (Pattern line) Top bs s = absurd s
part_same (Pattern line) (Pattern other) bs s = by_end line other (end_of true (begin (Known false)) bs)

-- a statement in a Pattern stands in one
not_whole : (opens : Bool) (m n : ℕ) → cond opens (Opens m) (Passes m) ≡ Whole n → ⊥
not_whole true m n e = absurd cc
not_whole false m n e = absurd cc

pub top_whole : (o : Option Found) (n : ℕ) → parted Top o ≡ Some (Whole n) → ⊥
top_whole None n e = absurd cc
top_whole (Some f) n e = not_whole f.opens f.len n (same_Some _ _ e)

at_pattern : (a b : Place) (bs new : List ℕ) (n : ℕ) (f : Found) → SamePlace a b → part_at true a bs ≡ Some (Whole n) → end_of true (begin (Known false)) new ≡ Some f → part_at true b new ≡ Some (Whole f.len)
unfolding part_at
at_pattern Top b bs new n f s e h = absurd (top_whole (end_of true (begin_at Top) bs) n e)
at_pattern (Pattern line) Top bs new n f s e h = absurd s
at_pattern (Pattern line) (Pattern other) bs new n f s e h = ap (parted (Pattern other)) h

pub part_within : (last : Bool) (place : Place) (x : List ℕ) (part : Part) → part_at last place x ≡ Some part → part_len part ≤ length x
unfolding part_at
part_within last place x part e =
    let i = parted-from place (end_of last (begin_at place) x) part e in
    omega (arith, i.len, end-within last (begin_at place) x i.end i.is)

abbrev pub is_whole : Part → Bool
is_whole (Passes n) = false
is_whole (Opens n) = false
is_whole (Whole n) = true

-- what is behind parts is together too
behind_together : (p q : Point) (part : Part) (x y : List ℕ) → AreTogether p q → AreTogether (point_behind p part x) (point_behind q part y)
behind_together p q (Passes n) x y t = record { opened = t.opened; place = tt; comment = refl }
behind_together p q (Opens n) x y t = record { opened = ap (λ (k : ℕ). k + 1) t.opened; place = tt; comment = refl }
behind_together p q (Whole n) x y t = record { opened = t.opened; place = t.place; comment = refl }

whole_together : (p q : Point) (m n : ℕ) (x y : List ℕ) → AreTogether p q → AreTogether (point_behind p (Whole m) x) (point_behind q (Whole n) y)
whole_together p q m n x y t = record { opened = t.opened; place = t.place; comment = refl }

no_kind : (k : Option Kind) (line other : ℕ) → fault_or k line None ≡ None → fault_or k other None ≡ None
no_kind None line other e = refl
no_kind (Some k) line other e = absurd cc

-- what is judged sound outside a Pattern is so beside any head
judged_too : (judging : Judging) (head other : StilHead) (p q : Point) (part : Part) (x : List ℕ) → is_whole part ≡ false → judge_by judging head p part x ≡ None → judge_by judging other q part x ≡ None
unfolding judge_by
judged_too judging head other p q (Passes n) x e h = no_kind (passing_in x) p.line q.line h
judged_too judging head other p q (Opens n) x e h = no_kind (opening_kind (opened_in x)) p.line q.line h
judged_too judging head other p q (Whole n) x e h = absurd (true≢false e)

judge_whole : (judging : Judging) (head : StilHead) (p : Point) (n : ℕ) (text : List ℕ) → fault_by judging head p.line text ≡ None → judge_by judging head p (Whole n) text ≡ None
unfolding judge_by
judge_whole judging head p n text e = e

whole_judged : (judging : Judging) (head : StilHead) (p : Point) (n : ℕ) (text : List ℕ) → judge_by judging head p (Whole n) text ≡ None → fault_by judging head p.line text ≡ None
unfolding judge_by
whole_judged judging head p n text e = e

-- a statement in a Pattern ends with its last byte
whole_of : (bs : List ℕ) (n : ℕ) (o : Option Found) → end_of true (begin (Known false)) bs ≡ o → parted (Pattern 0) o ≡ Some (Whole n) → n ≤ length bs → IsWhole (take n bs)
whole_of bs n None e h within = absurd cc
whole_of bs n (Some f) e h within =
    let k : Whole f.len ≡ Whole n = same_Some _ _ h in
    let len : f.len ≡ n = ap part_len k in
    let size : length (take n bs) ≡ n = length-take-le n bs within in
    record {
      end = f;
      ends = end_alone (begin (Known false)) (take n bs) (drop n bs) f refl (len ∙ sym size) (ap (end_of true (begin (Known false))) (take-append-drop n bs) ∙ e);
      whole = len ∙ sym size;
    }

any_line : (line : ℕ) (o : Option Found) (n : ℕ) → parted (Pattern line) o ≡ Some (Whole n) → parted (Pattern 0) o ≡ Some (Whole n)
any_line line None n e = absurd cc
any_line line (Some f) n e = e

whole_in : (a : Place) (bs : List ℕ) (n : ℕ) → part_at true a bs ≡ Some (Whole n) → n ≤ length bs → IsWhole (take n bs)
unfolding part_at
whole_in Top bs n e within = absurd (top_whole (end_of true (begin_at Top) bs) n e)
whole_in (Pattern line) bs n e within = whole_of bs n (end_of true (begin (Known false)) bs) refl (any_line line _ n e) within

-- a statement that is judged sound is there
there : (head : StilHead) (pattern line : ℕ) (text : List ℕ) (shape : Shape) → is_read shape ≡ true → (s : PatternStatement) × (statement_of head pattern line text shape ≡ Some s)
there head pattern line text NoForm e = absurd cc
there head pattern line text Unsupported e = absurd cc
there head pattern line text Other e = (_, refl)
there head pattern line text (Scan items) e = (_, refl)
there head pattern line text (Loop times body) e = (_, refl)

judged_there : (judging : Judging) (head : StilHead) (p : Point) (n : ℕ) (text : List ℕ) → judge_by judging head p (Whole n) text ≡ None → (s : PatternStatement) × (statement_at head p text ≡ Some s)
unfolding judge_by fault_by
judged_there judging head p n text e = there head (p.opened - 1) p.line text (shape_of head false (tokens_in text)) (is_read_so judging head p.line text (shape_of head false (tokens_in text)) e)

same_pattern : (a s : PatternStatement) → Some a ≡ Some s → pattern_of s ≡ pattern_of a
same_pattern a s e = let k : a ≡ s = cc in ap pattern_of (sym k)

pattern_is : (head : StilHead) (pattern line : ℕ) (text : List ℕ) (shape : Shape) (s : PatternStatement) → statement_of head pattern line text shape ≡ Some s → pattern_of s ≡ pattern
pattern_is head pattern line text NoForm s e = absurd cc
pattern_is head pattern line text Unsupported s e = absurd cc
pattern_is head pattern line text Other s e = same_pattern _ s e
pattern_is head pattern line text (Scan items) s e = same_pattern _ s e
pattern_is head pattern line text (Loop times body) s e = same_pattern _ s e

-- the gaps at two points together
len_together : (p q : Point) (bs cs : List ℕ) → AreTogether p q → take 2 bs ≡ take 2 cs → SameGap (gap_at p.place p.comment bs) (gap_at q.place q.comment cs)
len_together p q bs cs t e =
    let same = gap_by_two q.place p.comment bs cs e in
    let k = ap (λ (c : Comment). gap_at q.place c cs) t.comment in
    subst (λ (g : Gap). SameGap (gap_at p.place p.comment bs) g) (same ∙ sym k) (gap_same p.place q.place p.comment bs t.place)

-- a statement that comes next without fault, and what is said of it
pub record IsSaid (judging : Judging) (head : StilHead) (p : Point) (n : ℕ) (bs : List ℕ) : Type 0 where
  pub statement : PatternStatement
  pub is : statement_at head p (take n bs) ≡ Some statement
  pub text : text_of statement ≡ take n bs
  pub stated : IsStated judging head statement
  pub says : says_free judging head p bs ≡ after (Stated statement ∷ []) (says_free judging head (point_behind p (Whole n) (take n bs)) (drop n bs))

pub said_whole : (judging : Judging) (head : StilHead) (p : Point) (n : ℕ) (bs : List ℕ) → 0 < length bs → nat_lt 0 (gap_at p.place p.comment bs).len ≡ false → part_at true p.place bs ≡ Some (Whole n) → 0 < n → n ≤ length bs
    → (says_free judging head p bs).fault ≡ None → IsSaid judging head p n bs
said_whole judging head p n bs some none is more within fine =
    let x = take n bs in
    let sound = judged-sound judging head p bs some none (Whole n) is fine in
    let found = judged_there judging head p n x sound in
    let s = found.0 in
    let e = found.1 in
    let text : text_of s ≡ x = text-is head (p.opened - 1) p.line x (shape_of head false (tokens_in x)) s e in
    let pattern : pattern_of s ≡ p.opened - 1 = pattern_is head (p.opened - 1) p.line x (shape_of head false (tokens_in x)) s e in
    record {
      statement = s;
      is = e;
      text = text;
      stated = record {
        whole = subst IsWhole (sym text) (whole_in p.place bs n is within);
        line = p.line;
        sound = ap (fault_by judging head p.line) text ∙ whole_judged judging head p n x sound;
        is = ap (λ (t : List ℕ). statement_of head (pattern_of s) p.line t (shape_of head false (tokens_in t))) text ∙ ap (λ (k : ℕ). statement_of head k p.line x (shape_of head false (tokens_in x))) pattern ∙ e;
      };
      says = says-stated judging head p bs some none n is more sound s e;
    }

module _ (form : Form) (judging : Judging) (head other : StilHead) (R : PatternStatement → PatternStatement → Type 0) where
  abbrev AreWell : List Saying → Type 0
  AreWell says = Each (λ s. IsStated judging head s → IsRewritten judging other R s (form.statement s)) (statements_in says)

  record IsOver (p q : Point) (bs : List ℕ) : Type 0 where
    same : SaysSame R (says_free judging head p bs).says (says_free judging other q (written_says form (says_free judging head p bs).says))
    first : take 1 bs ≡ take 1 (written_says form (says_free judging head p bs).says)

  abbrev Goes : Point → Point → List ℕ → Type 0
  Goes p q bs = (says_free judging head p bs).fault ≡ None → AreWell (says_free judging head p bs).says → IsOver p q bs

  -- bytes that stay
  same_kept : (x : List ℕ) (name : Option (List ℕ)) (says : List Saying) (told : Told) → SaysSame R says told → SaysSame R (bytes_named x name ++ says) (after (bytes_named x name) told)
  same_kept x name says told s = record {
    sound = s.sound;
    names = names-on x name told.says ∙ ap (λ (l : List (List ℕ)). named_one name ++ l) s.names ∙ sym (names-on x name says);
    statements = rw (statements-on x name says, statements-on x name told.says) s.statements;
  }

  over_as : (p q : Point) (bs : List ℕ) (says : List Saying) (w : List ℕ) → (says_free judging head p bs).says ≡ says → written_says form says ≡ w
      → SaysSame R says (says_free judging other q w) → take 1 bs ≡ take 1 w → IsOver p q bs
  over_as p q bs says w e f same first = record { same = rw (e, f) same; first = rw (e, f) first }

  kept : (p q p1 q1 : Point) (bs x r : List ℕ) (name : Option (List ℕ)) → bs ≡ x ++ r → 0 < length x
      → says_free judging head p bs ≡ after (bytes_named x name) (says_free judging head p1 r)
      → ((w : List ℕ) → take 1 r ≡ take 1 w → says_free judging other q (x ++ w) ≡ after (bytes_named x name) (says_free judging other q1 w))
      → Goes p1 q1 r → Goes p q bs
  kept p q p1 q1 bs x r name cut some e f more sound well =
      let rest = says_free judging head p1 r in
      let w = written_says form rest.says in
      let sound1 : rest.fault ≡ None = sym (ap (λ (t : Told). t.fault) e) ∙ sound in
      let well1 : AreWell rest.says = subst (Each (λ s. IsStated judging head s → IsRewritten judging other R s (form.statement s))) (statements-on x name rest.says) (subst (λ (t : Told). AreWell t.says) e well) in
      let go = more sound1 well1 in
      let g = f w go.first in
      over_as p q bs (bytes_named x name ++ rest.says) (x ++ w) (ap (λ (t : Told). t.says) e) (written-on form x name rest.says)
      (subst (λ (t : Told). SaysSame R (bytes_named x name ++ rest.says) t) (sym g) (same_kept x name rest.says (says_free judging other q1 w) go.same))
      (ap (take 1) cut ∙ one_on x r w some)

  -- a statement that is written anew
  stated : (p q p1 q1 : Point) (bs x r : List ℕ) (s : PatternStatement) → bs ≡ x ++ r → 0 < length x → text_of s ≡ x → IsStated judging head s
      → says_free judging head p bs ≡ after (Stated s ∷ []) (says_free judging head p1 r)
      → (IsRewritten judging other R s (form.statement s) → (w : List ℕ) → take 1 r ≡ take 1 w
      → (t : PatternStatement) × (R s t) × (says_free judging other q (form.statement s ++ w) ≡ after (Stated t ∷ []) (says_free judging other q1 w)))
      → Goes p1 q1 r → Goes p q bs
  stated p q p1 q1 bs x r s cut some is denoted e f more sound well =
      let rest = says_free judging head p1 r in
      let w = written_says form rest.says in
      let new = form.statement s in
      let sound1 : rest.fault ≡ None = sym (ap (λ (t : Told). t.fault) e) ∙ sound in
      let both : AreWell (Stated s ∷ rest.says) = subst (λ (t : Told). AreWell t.says) e well in
      let go = more sound1 both.1 in
      let good = both.0 denoted in
      let g = f good w go.first in
      let begins : take 2 x ≡ take 2 new = ap (take 2) (sym is) ∙ good.begins in
      let same : SaysSame R (Stated s ∷ rest.says) (after (Stated (g.0) ∷ []) (says_free judging other q1 w)) = record {
        sound = go.same.sound;
        names = go.same.names;
        statements = (g.1, go.same.statements);
      } in
      over_as p q bs (Stated s ∷ rest.says) (new ++ w) (ap (λ (t : Told). t.says) e) refl
      (subst (λ (t : Told). SaysSame R (Stated s ∷ rest.says) t) (sym (g.2)) same)
      (ap (take 1) cut ∙ one_alike x new r w begins some)

  -- the text's end
  ends : (a b : Place) → SamePlace a b → (told head (ending a)).fault ≡ None → (told head (ending a) ≡ record { says = []; fault = None }) × (told other (ending b) ≡ record { says = []; fault = None })
  ends Top Top s e = (refl, refl)
  ends Top (Pattern line) s e = absurd s
  ends (Pattern line) b s e = absurd cc

  at_end : (p q : Point) → AreTogether p q → Goes p q []
  at_end p q t sound well =
      let a : says_free judging head p [] ≡ told head (ending p.place) = ap (told head) (comes-ended (judge_by judging head) p) in
      let b : says_free judging other q [] ≡ told other (ending q.place) = ap (told other) (comes-ended (judge_by judging other) q) in
      let e = ends p.place q.place t.place (sym (ap (λ (t : Told). t.fault) a) ∙ sound) in
      let mine = a ∙ e.0 in
      let yours = b ∙ e.1 in
      over_as p q [] [] [] (ap (λ (t : Told). t.says) mine) refl (subst (λ (t : Told). SaysSame R [] t) (sym yours) (record { sound = refl; names = refl; statements = tt })) refl

  module _ (p q : Point) (together : AreTogether p q) (bs : List ℕ) (some : 0 < length bs) where
    gap_yours : (w : List ℕ) → nat_lt 0 (gap_at p.place p.comment bs).len ≡ true → take 1 (drop (gap_at p.place p.comment bs).len bs) ≡ take 1 w
        → says_free judging other q (take (gap_at p.place p.comment bs).len bs ++ w)
        ≡ after (bytes_named (take (gap_at p.place p.comment bs).len bs) None) (says_free judging other (moved q (take (gap_at p.place p.comment bs).len bs) (gap_at q.place q.comment bs).place (gap_at q.place q.comment bs).comment) w)
    gap_yours w e first =
        let g = gap_at p.place p.comment bs in
        let n = g.len in
        let x = take n bs in
        let more : 0 < n = ltb-true 0 n e in
        let len : length x ≡ n = length-take-le n bs (gap-within p.place p.comment bs) in
        let longer : 0 < length x = omega (arith, len) in
        let all : 0 < length (x ++ w) = omega (arith, longer, length-append x w) in
        let cut = take-append-drop n bs in
        let two : take 2 bs ≡ take 2 (x ++ w) = ap (take 2) (sym cut) ∙ two_on x (drop n bs) w longer first in
        let same = gap_by_two q.place q.comment bs (x ++ w) two in
        let alike = len_together p q bs bs together refl in
        let m : (gap_at q.place q.comment (x ++ w)).len ≡ n = ap (λ (k : Gap). k.len) (sym same) ∙ alike.len in
        let shown : nat_lt 0 (gap_at q.place q.comment (x ++ w)).len ≡ true = ap (λ (k : ℕ). nat_lt 0 k) m ∙ e in
        let s = says-gap judging other q (x ++ w) all shown (omega (arith, m)) in
        let front : take (gap_at q.place q.comment (x ++ w)).len (x ++ w) ≡ x = ap (λ (k : ℕ). take k (x ++ w)) (m ∙ sym len) ∙ take_all x w in
        let back : drop (gap_at q.place q.comment (x ++ w)).len (x ++ w) ≡ w = ap (λ (k : ℕ). drop k (x ++ w)) (m ∙ sym len) ∙ drop_all x w in
        s ∙ ap (λ (l : List ℕ). after (map GapByte l) (says_free judging other (moved q l (gap_at q.place q.comment (x ++ w)).place (gap_at q.place q.comment (x ++ w)).comment) (drop (gap_at q.place q.comment (x ++ w)).len (x ++ w)))) front
        ∙ ap (λ (l : List ℕ). after (map GapByte x) (says_free judging other (moved q x (gap_at q.place q.comment (x ++ w)).place (gap_at q.place q.comment (x ++ w)).comment) l)) back
        ∙ ap (λ (k : Gap). after (map GapByte x) (says_free judging other (moved q x k.place k.comment) w)) (sym same)
        ∙ ap (λ (xs : List Saying). after xs (says_free judging other (moved q x (gap_at q.place q.comment bs).place (gap_at q.place q.comment bs).comment) w)) (sym (append-nil (map GapByte x)))

    abbrev Later : Type 0
    Later = (p1 q1 : Point) (n : ℕ) → AreTogether p1 q1 → 0 < n → n ≤ length bs → Goes p1 q1 (drop n bs)

    -- a gap
    over_gap : nat_lt 0 (gap_at p.place p.comment bs).len ≡ true → Later → Goes p q bs
    over_gap e ih =
        let g = gap_at p.place p.comment bs in
        let h = gap_at q.place q.comment bs in
        let n = g.len in
        let x = take n bs in
        let more : 0 < n = ltb-true 0 n e in
        let within : n ≤ length bs = gap-within p.place p.comment bs in
        let alike = len_together p q bs bs together refl in
        let p1 = moved p x g.place g.comment in
        let q1 = moved q x h.place h.comment in
        let len : length x ≡ n = length-take-le n bs within in
        let longer : 0 < length x = omega (arith, len) in
        let t1 : AreTogether p1 q1 = record { opened = together.opened; place = alike.place; comment = alike.comment } in
        let mine : says_free judging head p bs ≡ after (bytes_named x None) (says_free judging head p1 (drop n bs)) =
        says-gap judging head p bs some e more ∙ ap (λ (xs : List Saying). after xs (says_free judging head p1 (drop n bs))) (sym (append-nil (map GapByte x))) in
        kept p q p1 q1 bs x (drop n bs) None (sym (take-append-drop n bs)) longer mine (λ w first. gap_yours w e first) (ih p1 q1 n t1 more within)

    module _ (none : nat_lt 0 (gap_at p.place p.comment bs).len ≡ false) where
      -- where the bytes begin alike, no gap stands there either
      none_too : (cs : List ℕ) → take 2 bs ≡ take 2 cs → nat_lt 0 (gap_at q.place q.comment cs).len ≡ false
      none_too cs two = ap (λ (k : ℕ). nat_lt 0 k) (len_together p q bs cs together two).len ∙ none

      -- a part outside a Pattern
      part_yours : (part : Part) (w : List ℕ) → is_whole part ≡ false → part_at true p.place bs ≡ Some part → 0 < part_len part → part_len part ≤ length bs
          → judge_by judging head p part (take (part_len part) bs) ≡ None → take 1 (drop (part_len part) bs) ≡ take 1 w
          → says_free judging other q (take (part_len part) bs ++ w) ≡ after (bytes_named (take (part_len part) bs) (name_in part (take (part_len part) bs))) (says_free judging other (point_behind q part (take (part_len part) bs)) w)
      part_yours part w passes is more within sound first =
          let n = part_len part in
          let x = take n bs in
          let len : length x ≡ n = length-take-le n bs within in
          let longer : 0 < length x = omega (arith, len) in
          let all : 0 < length (x ++ w) = omega (arith, longer, length-append x w) in
          let cut = take-append-drop n bs in
          let two : take 2 bs ≡ take 2 (x ++ w) = ap (take 2) (sym cut) ∙ two_on x (drop n bs) w longer first in
          let here : part_at true q.place (x ++ drop n bs) ≡ Some part = part_same p.place q.place (x ++ drop n bs) together.place ∙ ap (part_at true p.place) cut ∙ is in
          let there : part_at true q.place (x ++ w) ≡ Some part = part_tail q.place x (drop n bs) w part (sym len) first here in
          let front : take n (x ++ w) ≡ x = ap (λ (k : ℕ). take k (x ++ w)) (sym len) ∙ take_all x w in
          let back : drop n (x ++ w) ≡ w = ap (λ (k : ℕ). drop k (x ++ w)) (sym len) ∙ drop_all x w in
          let sound1 : judge_by judging other q part (take n (x ++ w)) ≡ None = ap (judge_by judging other q part) front ∙ judged_too judging head other p q part x passes sound in
          let s = says-passed judging other q (x ++ w) all (none_too (x ++ w) two) part there (λ m e. absurd (true≢false (sym (ap is_whole e) ∙ passes))) more sound1 in
          s ∙ ap (λ (l : List ℕ). after (map GapByte l ++ named (name_in part l)) (says_free judging other (point_behind q part l) (drop n (x ++ w)))) front
          ∙ ap (λ (l : List ℕ). after (bytes_named x (name_in part x)) (says_free judging other (point_behind q part x) l)) back

      over_passed : (part : Part) → is_whole part ≡ false → part_at true p.place bs ≡ Some part → 0 < part_len part → part_len part ≤ length bs → Later → Goes p q bs
      over_passed part passes is more within ih fine well =
          let n = part_len part in
          let x = take n bs in
          let sound = judged-sound judging head p bs some none part is fine in
          let p1 = point_behind p part x in
          let q1 = point_behind q part x in
          let len : length x ≡ n = length-take-le n bs within in
          let longer : 0 < length x = omega (arith, len) in
          let mine = says-passed judging head p bs some none part is (λ m e. absurd (true≢false (sym (ap is_whole e) ∙ passes))) more sound in
          kept p q p1 q1 bs x (drop n bs) (name_in part x) (sym (take-append-drop n bs)) longer mine (λ w first. part_yours part w passes is more within sound first)
          (ih p1 q1 n (behind_together p q part x x together) more within) fine well

      -- a statement
      stated_yours : (n : ℕ) (s : PatternStatement) (w : List ℕ) → part_at true p.place bs ≡ Some (Whole n) → 0 < n → n ≤ length bs → statement_at head p (take n bs) ≡ Some s
          → IsRewritten judging other R s (form.statement s) → take 1 (drop n bs) ≡ take 1 w
          → (t : PatternStatement) × (R s t) × (says_free judging other q (form.statement s ++ w) ≡ after (Stated t ∷ []) (says_free judging other (point_behind q (Whole (length (form.statement s))) (form.statement s)) w))
      stated_yours n s w is more within e well first =
          let x = take n bs in
          let new = form.statement s in
          let text : text_of s ≡ x = text-is head (p.opened - 1) p.line x (shape_of head false (tokens_in x)) s e in
          let pattern : pattern_of s ≡ q.opened - 1 = pattern_is head (p.opened - 1) p.line x (shape_of head false (tokens_in x)) s e ∙ ap (λ (k : ℕ). k - 1) (sym together.opened) in
          let len : length x ≡ n = length-take-le n bs within in
          let longer : 0 < length x = omega (arith, len) in
          let begins : take 2 x ≡ take 2 new = ap (take 2) (sym text) ∙ well.begins in
          let two : take 2 bs ≡ take 2 (new ++ w) = ap (take 2) (sym (take-append-drop n bs)) ∙ two_alike x new (drop n bs) w begins first longer in
          let there : part_at true q.place (new ++ w) ≡ Some (Whole (length new)) =
          at_pattern p.place q.place bs (new ++ w) n well.whole.end together.place is (end-stable true (begin (Known false)) new w well.whole.end well.whole.ends) ∙ ap (λ (k : ℕ). Some (Whole k)) well.whole.whole in
          let some1 : 0 < length new = omega (arith, well.whole.whole, end-some false (Known false) new well.whole.end well.whole.ends) in
          let all : 0 < length (new ++ w) = omega (arith, some1, length-append new w) in
          let front : take (length new) (new ++ w) ≡ new = take_all new w in
          let back : drop (length new) (new ++ w) ≡ w = drop_all new w in
          let reads = well.reads q.line in
          let sound1 : judge_by judging other q (Whole (length new)) (take (length new) (new ++ w)) ≡ None = ap (judge_by judging other q (Whole (length new))) front ∙ judge_whole judging other q (length new) new reads.sound in
          let at : statement_at other q (take (length new) (new ++ w)) ≡ Some reads.statement =
          ap (statement_at other q) front ∙ ap (λ (k : ℕ). statement_of other k q.line new (shape_of other false (tokens_in new))) (sym pattern) ∙ reads.is in
          let s1 = says-stated judging other q (new ++ w) all (none_too (new ++ w) two) (length new) there some1 sound1 reads.statement at in (
            reads.statement,
            reads.pairs,
            s1 ∙ ap (λ (l : List ℕ). after (Stated reads.statement ∷ []) (says_free judging other (point_behind q (Whole (length new)) l) (drop (length new) (new ++ w)))) front
                ∙ ap (λ (l : List ℕ). after (Stated reads.statement ∷ []) (says_free judging other (point_behind q (Whole (length new)) new) l)) back,
          )

      over_whole : (n : ℕ) → part_at true p.place bs ≡ Some (Whole n) → 0 < n → n ≤ length bs → Later → Goes p q bs
      over_whole n is more within ih fine well =
          let x = take n bs in
          let said = said_whole judging head p n bs some none is more within fine in
          let s = said.statement in
          let p1 = point_behind p (Whole n) x in
          let q1 = point_behind q (Whole (length (form.statement s))) (form.statement s) in
          let len : length x ≡ n = length-take-le n bs within in
          let longer : 0 < length x = omega (arith, len) in
          stated p q p1 q1 bs x (drop n bs) s (sym (take-append-drop n bs)) longer said.text said.stated said.says (λ good w first. stated_yours n s w is more within said.is good first)
          (ih p1 q1 n (whole_together p q n (length (form.statement s)) x (form.statement s) together) more within) fine well

      by_kind : (part : Part) → part_at true p.place bs ≡ Some part → 0 < part_len part → part_len part ≤ length bs → Later → Goes p q bs
      by_kind (Passes n) is more within ih = over_passed (Passes n) refl is more within ih
      by_kind (Opens n) is more within ih = over_passed (Opens n) refl is more within ih
      by_kind (Whole n) is more within ih = over_whole n is more within ih

      over_part : (o : Option Part) → part_at true p.place bs ≡ o → Later → Goes p q bs
      over_part None is ih fine well = absurd (says-open judging head p bs some none is fine)
      over_part (Some part) is ih fine well =
          let more : 0 < part_len part = part-some true p.place bs part is in
          let within : part_len part ≤ length bs = part_within true p.place bs part is in
          by_kind part is more within ih fine well

  over : (fuel : ℕ) (p q : Point) (bs : List ℕ) → length bs ≤ fuel → AreTogether p q → Goes p q bs
  over zero p q [] short t = at_end p q t
  over zero p q (b ∷ bs) short t = absurd (omega arith)
  over (suc fuel) p q [] short t = at_end p q t
  over (suc fuel) p q (b ∷ bs) short t =
      let later : (p1 q1 : Point) (n : ℕ) → AreTogether p1 q1 → 0 < n → n ≤ length (b ∷ bs) → Goes p1 q1 (drop n (b ∷ bs)) =
      λ p1 q1 n t1 more within. over fuel p1 q1 (drop n (b ∷ bs)) (omega (arith, length-drop n (b ∷ bs))) t1 in
      elim (cases_Bool (nat_lt 0 (gap_at p.place p.comment (b ∷ bs)).len)) [
        | inl e ↦ over_gap p q t (b ∷ bs) (omega arith) e later
        | inr e ↦ over_part p q t (b ∷ bs) (omega arith) e (part_at true p.place (b ∷ bs)) refl later
      ]

pub whole : (form : Form) (judging : Judging) (head other : StilHead) (R : PatternStatement → PatternStatement → Type 0) (p q : Point) (bytes : List ℕ)
    → AreTogether p q → (says_free judging head p bytes).fault ≡ None
    → Each (λ s. IsStated judging head s → IsRewritten judging other R s (form.statement s)) (statements_in (says_free judging head p bytes).says)
    → SaysSame R (says_free judging head p bytes).says (says_free judging other q (written_says form (says_free judging head p bytes).says))
whole form judging head other R p q bytes t sound well = (over form judging head other R (length bytes) p q bytes (omega arith) t sound well).same
