-- What the fields of a stream keep.
use Rattle.std.proofs.Common.{◌≡◌, ℕ, ◌+◌, ◌≤◌, Bool, true, false, List, [], ◌++◌, length, take, drop, None, refl, sym, ap, subst, ◌∙◌, arith, length-append, length-drop, inl, inr}
use Rattle.std.specs.Prelude.{nat_lt, is_some, ◌||◌}
use Rattle.std.proofs.lemmas.Bool.{cases_Bool, ltb-false, false≢true, true≢false}
use Rattle.std.proofs.lemmas.List.{take-append-le, take-append-drop, drop-append-le, take-take, take_all}
use Rattle.stil_parts.specs.declared.gap.Place.TheVariants.{Top}
use Rattle.stil_parts.specs.declared.gap.Comment.TheVariants.{Outside}
use Rattle.stil_parts.specs.declared.gap.Point.{Point}
use Rattle.stil_parts.specs.declared.scan.Scan.{Scan}
use Rattle.stil_parts.specs.Gaps.{gap_at}
use Rattle.stil_parts.specs.Parts.{begin_at, part_at}
use Rattle.stil_parts.specs.Coming.{Judge, largest, next_turn, IsEarly}
use Rattle.stil_parts.specs.Resuming.{Resumes}
use Rattle.stil_parts.proofs.Resumed.{reaches-more}
use Rattle.stil_stream.specs.declared.walk.Walk.{Walk}
use Rattle.stil_reader.specs.Sayings.{beginning}
use Rattle.stil_stream.specs.Streams.{shows_part}
use Rattle.stil_stream.specs.Walks.{IsWalked}
use Rattle.stil_stream.specs.Holding.{IsHeld}
use Rattle.stil_stream.proofs.Walking.{resumes-begin, walk-more, passed-none}
use Rattle.stil_stream.proofs.Telling.{turn-shows}

-- a walk at the beginning of a text
pub walk-fresh : (bytes : List ℕ) (w : Walk) → w ≡ record { passed = 0; comment = Outside; done = 0; scan = begin_at Top } → IsWalked bytes w
walk-fresh bytes w e = subst (IsWalked bytes) (sym e) (record {
  within = omega arith;
  passed = passed-none (take 0 bytes);
  resumes = resumes-begin Top bytes (begin_at Top) refl;
})

pub held-fresh : (buffer : List ℕ) (w : Walk) (s : Scan) → buffer ≡ [] → w ≡ record { passed = 0; comment = Outside; done = 0; scan = begin_at Top } → s ≡ begin_at Top
    → IsHeld buffer 0 true true beginning w 0 s
held-fresh buffer w s e f g = record {
  within = omega arith;
  early = record { given = omega arith; line = omega arith; opened = omega arith };
  bounded = rw e (omega arith);
  small = λ h. rw e (omega arith);
  begins = λ h. refl;
  walked = λ h. walk-fresh (take largest (drop 0 buffer)) w f;
  resumes = resumes-begin Top (drop 0 buffer) s g;
}

-- the first bytes of more
walk-fed : (kept more : List ℕ) (w : Walk) → length kept ≤ largest → IsWalked (take largest kept) w → IsWalked (take largest (kept ++ more)) w
walk-fed kept more w le h =
    let n = length kept in
    let front : take n (take largest (kept ++ more)) ≡ kept = take-take n largest (kept ++ more) le ∙ take-append-le n kept more (omega arith) ∙ take_all n kept (omega arith) in
    let split : kept ++ drop n (take largest (kept ++ more)) ≡ take largest (kept ++ more) = ap (λ (x : List ℕ). x ++ drop n (take largest (kept ++ more))) (sym front) ∙ take-append-drop n (take largest (kept ++ more)) in
    let here : IsWalked kept w = subst (λ (x : List ℕ). IsWalked x w) (take_all largest kept le) h in
    subst (λ (x : List ℕ). IsWalked x w) split (walk-more kept w here (drop n (take largest (kept ++ more))))

-- many bytes show something
or-true : (a b : Bool) → (a || (b || true)) ≡ true
or-true true b = refl
or-true false true = refl
or-true false false = refl

shows-large : (p : Point) (x : List ℕ) → nat_lt largest (length x) ≡ true → shows_part p x ≡ true
shows-large p x e =
    ap (λ (b : Bool). nat_lt 0 (gap_at p.place p.comment x).len || (is_some (part_at false p.place x) || b)) e ∙ or-true (nat_lt 0 (gap_at p.place p.comment x).len) (is_some (part_at false p.place x))

-- where more is wanted, the bytes are few
few-as : (p : Point) (x : List ℕ) → shows_part p x ≡ false → length x ≤ largest
few-as p x e = elim (cases_Bool (nat_lt largest (length x))) [
  | inl large ↦ absurd (true≢false (sym (shows-large p x large) ∙ e))
  | inr small ↦ ltb-false largest (length x) small
]

pub want-small : (judge : Judge) (p : Point) (x : List ℕ) → next_turn judge false p x ≡ None → length x ≤ largest
want-small judge p x e = few-as p x (sym (turn-shows judge p x) ∙ ap is_some e)

module _ (buffer : List ℕ) (at : ℕ) (hungry in_head : Bool) (p : Point) (w : Walk) (done : ℕ) (s : Scan) (h : IsHeld buffer at hungry in_head p w done s) where
  pub held-fed : (new piece : List ℕ) → hungry ≡ true → length piece ≤ 65536 → new ≡ drop at (buffer ++ piece) → IsHeld new 0 false in_head p w done s
  held-fed new piece wants little e =
      let is : new ≡ drop at buffer ++ piece = e ∙ drop-append-le at buffer piece h.within in
      let few = h.small wants in
      let len : length new ≡ length (drop at buffer) + length piece = ap length is ∙ length-append (drop at buffer) piece in
      record {
        within = omega arith;
        early = h.early;
        bounded = omega arith;
        small = λ f. absurd (false≢true f);
        begins = h.begins;
        walked = λ b. subst (λ (x : List ℕ). IsWalked (take largest x) w) (sym is) (walk-fed (drop at buffer) piece w few (h.walked b));
        resumes = subst (λ (x : List ℕ). Resumes p.place x done s) (sym is) (reaches-more (begin_at p.place) s (drop at buffer) piece done h.resumes);
      }

  -- more is wanted behind the head
  pub held-want : (judge : Judge) (kept : List ℕ) (n : ℕ) (t : Scan) → in_head ≡ false → kept ≡ drop at buffer → n ≡ length kept → next_turn judge false p kept ≡ None → Resumes p.place kept (length kept) t
      → IsHeld buffer at true in_head p w n t
  held-want judge kept n t behind is e none r = record {
    within = h.within;
    early = h.early;
    bounded = h.bounded;
    small = λ f. subst (λ (x : List ℕ). length x ≤ largest) is (want-small judge p kept none);
    begins = h.begins;
    walked = h.walked;
    resumes = subst (λ (m : ℕ). Resumes p.place (drop at buffer) m t) (sym (e ∙ ap length is)) (subst (λ (x : List ℕ). Resumes p.place x (length x) t) is r);
  }

  -- more is wanted of the head
  pub held-walk : (v : Walk) → length (drop at buffer) ≤ largest → IsWalked (take largest (drop at buffer)) v → IsHeld buffer at true in_head p v done s
  held-walk v few walked = record {
    within = h.within;
    early = h.early;
    bounded = h.bounded;
    small = λ f. few;
    begins = h.begins;
    walked = λ b. walked;
    resumes = h.resumes;
  }

  -- bytes are handed out
  pub held-off : (n : ℕ) (q : Point) (t : Scan) → n ≤ length (drop at buffer) → IsEarly q → t ≡ begin_at q.place → IsHeld buffer (at + n) hungry false q w 0 t
  held-off n q t le early e =
      let len = length-drop at buffer in
      let rest = length-drop (at + n) buffer in
      record {
        within = omega (arith, h.within);
        early = early;
        bounded = omega (arith, h.bounded);
        small = λ f. let k = h.small f in omega arith;
        begins = λ b. absurd (false≢true b);
        walked = λ b. absurd (false≢true b);
        resumes = resumes-begin q.place (drop (at + n) buffer) t e;
      }
