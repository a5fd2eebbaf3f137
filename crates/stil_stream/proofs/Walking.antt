-- The search for the head's end, from statement to statement.
use Rattle.std.proofs.Common.{◌≡◌, ℕ, zero, suc, ◌+◌, ◌-◌, ◌<◌, ◌≤◌, Bool, true, false, List, [], ◌∷◌, ◌++◌, length, take, drop, Option, Some, None, refl, sym, ap, subst, ◌∙◌, arith, append_assoc, length-drop, length-append}
use Rattle.std.specs.Prelude.{if◌then◌else◌}
use Rattle.std.proofs.lemmas.Bool.{false≢true}
use Rattle.std.proofs.lemmas.List.{append-nil, take-append-drop, take-append-le, drop-append-le, length-take-le, take_all, drop-drop}
use Rattle.stil_parts.specs.declared.gap.Place.{Place}
use Rattle.stil_parts.specs.declared.gap.Place.TheVariants.{Top}
use Rattle.stil_parts.specs.declared.gap.Comment.{Comment}
use Rattle.stil_parts.specs.declared.gap.Comment.TheVariants.{Outside}
use Rattle.stil_parts.specs.declared.scan.Scan.{Scan}
use Rattle.stil_parts.specs.declared.head.HeadTurn.TheVariants.{Passed, Here}
use Rattle.stil_parts.specs.Heads.{head_turn, head_end}
use Rattle.stil_parts.specs.Resuming.{Resumes}
use Rattle.stil_parts.specs.Scanner.{run}
use Rattle.stil_parts.proofs.PartStable.{nothing-in-nothing}
use Rattle.stil_parts.proofs.Resumed.{reaches-more}
use Rattle.stil_parts.specs.declared.word.Word.TheVariants.{Start}
use Rattle.stil_parts.specs.Parts.{begin, begin_at, word_at}
use Rattle.stil_stream.specs.declared.walk.Walk.{Walk}
use Rattle.stil_stream.specs.Walks.{plus, IsPassed, IsWalked, IsPassing}

plus-plus : (n m : ℕ) (o : Option ℕ) → plus n (plus m o) ≡ plus (n + m) o
plus-plus n m None = refl
plus-plus n m (Some k) = let e : n + (m + k) ≡ n + m + k = omega arith in rw e refl

pub plus-zero : (o : Option ℕ) → o ≡ plus 0 o
plus-zero None = refl
plus-zero (Some k) = let e : 0 + k ≡ k = omega arith in rw e refl

as-plus : (o : Option ℕ) → elim o [ None ↦ None | Some n ↦ Some (1 + n) ] ≡ plus 1 o
as-plus None = refl
as-plus (Some n) = refl

-- inside what is passed nothing ends
end-inside : (last : Bool) (c : Comment) (k b : ℕ) (bs : List ℕ) → head_end last c (suc k) (b ∷ bs) ≡ plus 1 (head_end last c k bs)
unfolding head_end
end-inside last c k b bs = as-plus (head_end last c k bs)

inside-passed : (last : Bool) (c : Comment) (k : ℕ) (bs : List ℕ) → k ≤ length bs → head_end last c k bs ≡ plus k (head_end last c 0 (drop k bs))
inside-passed last c zero bs le = plus-zero (head_end last c 0 bs)
inside-passed last c (suc k) [] le = absurd (omega arith)
inside-passed last c (suc k) (b ∷ bs) le =
    let e : 1 + k ≡ suc k = omega arith in
    end-inside last c k b bs ∙ ap (plus 1) (inside-passed last c k bs (omega arith)) ∙ plus-plus 1 k (head_end last c 0 (drop k bs))
    ∙ ap (λ (n : ℕ). plus n (head_end last c 0 (drop k bs))) e

-- at the front
end-passed : (last : Bool) (c d : Comment) (n b : ℕ) (bs : List ℕ) → head_turn last c (b ∷ bs) ≡ Some (Passed n d) → head_end last c 0 (b ∷ bs) ≡ plus 1 (head_end last d (n - 1) bs)
unfolding head_end
end-passed last c d n b bs e = rw (e, head_end) (as-plus (head_end last d (n - 1) bs))

end-here : (last : Bool) (c : Comment) (x : List ℕ) → 0 < length x → head_turn last c x ≡ Some Here → head_end last c 0 x ≡ Some 0
unfolding head_end
end-here last c [] some e = absurd (omega arith)
end-here last c (b ∷ bs) some e = rw (e, head_end) refl

end-open : (last : Bool) (c : Comment) (x : List ℕ) → head_turn last c x ≡ None → head_end last c 0 x ≡ (if last then Some (length x) else None)
unfolding head_end
end-open last c [] e = refl
end-open last c (b ∷ bs) e = rw (e, head_end) refl

passed-suc : (last : Bool) (c d : Comment) (n b : ℕ) (bs : List ℕ) → n ≤ length bs → head_turn last c (b ∷ bs) ≡ Some (Passed (suc n) d)
    → head_end last c 0 (b ∷ bs) ≡ plus (suc n) (head_end last d 0 (drop n bs))
passed-suc last c d n b bs le e =
    let k : suc n - 1 ≡ n = omega arith in
    let l : 1 + n ≡ suc n = omega arith in
    end-passed last c d (suc n) b bs e ∙ ap (λ (i : ℕ). plus 1 (head_end last d i bs)) k ∙ ap (plus 1) (inside-passed last d n bs le)
    ∙ plus-plus 1 n (head_end last d 0 (drop n bs)) ∙ ap (λ (i : ℕ). plus i (head_end last d 0 (drop n bs))) l

passed-on : (last : Bool) (c d : Comment) (n : ℕ) (x : List ℕ) → 0 < n → n ≤ length x → head_turn last c x ≡ Some (Passed n d) → head_end last c 0 x ≡ plus n (head_end last d 0 (drop n x))
passed-on last c d zero x some le e = absurd (omega arith)
passed-on last c d (suc n) [] some le e = absurd (omega arith)
passed-on last c d (suc n) (b ∷ bs) some le e = passed-suc last c d n b bs (omega arith) e

end-nil : (last : Bool) (c : Comment) (x : List ℕ) → length x ≡ 0 → head_end last c 0 x ≡ (if last then Some 0 else None)
unfolding head_end
end-nil last c [] e = refl
end-nil last c (b ∷ bs) e = absurd (omega arith)

pub resumes-begin : (place : Place) (bytes : List ℕ) (s : Scan) → s ≡ begin_at place → Resumes place bytes 0 s
unfolding run
resumes-begin place bytes s e = record {
  within = omega arith;
  none = nothing-in-nothing false (word_at place);
  ran = sym e;
  shallow = let k : s.depth ≡ 0 = ap (λ (t : Scan). t.depth) e in omega arith;
}

-- one turn of a walk over these bytes
module _ (bytes : List ℕ) (n : ℕ) (c : Comment) (p : IsPassed bytes n c) where
  here-len : length (drop n bytes) ≡ length bytes - n
  here-len = length-drop n bytes

  pub walk-passes : (m : ℕ) (d : Comment) → IsPassing c (drop n bytes) m d → IsPassed bytes (n + m) d
  walk-passes m d f = record {
    within = omega (arith, f.within, here-len, p.within);
    same = λ last more.
        let le : m ≤ length (drop n bytes ++ more) = omega (arith, f.within, length-append (drop n bytes) more) in
        p.same last more ∙ ap (plus n) (passed-on last c d m (drop n bytes ++ more) f.some le (f.passes last more))
        ∙ plus-plus n m (head_end last d 0 (drop m (drop n bytes ++ more)))
        ∙ ap (λ (y : List ℕ). plus (n + m) (head_end last d 0 y)) (drop-append-le m (drop n bytes) more f.within ∙ ap (λ (y : List ℕ). y ++ more) (drop-drop m n bytes));
  }

  at-nil : (last : Bool) → head_end last Outside 0 bytes ≡ plus n (head_end last c 0 (drop n bytes))
  at-nil last = ap (head_end last Outside 0) (sym (append-nil bytes)) ∙ p.same last [] ∙ ap (λ (y : List ℕ). plus n (head_end last c 0 y)) (append-nil (drop n bytes))

  pub walk-here : (last : Bool) → n < length bytes → head_turn last c (drop n bytes) ≡ Some Here → head_end last Outside 0 bytes ≡ Some n
  walk-here last lt e =
      let k : n + 0 ≡ n = omega arith in
      at-nil last ∙ ap (plus n) (end-here last c (drop n bytes) (omega (arith, here-len)) e) ∙ ap (λ (i : ℕ). Some i) k

  pub walk-open : head_turn false c (drop n bytes) ≡ None → head_end false Outside 0 bytes ≡ None
  walk-open e = at-nil false ∙ ap (plus n) (end-open false c (drop n bytes) e)

  pub walk-last : head_turn true c (drop n bytes) ≡ None → head_end true Outside 0 bytes ≡ Some (length bytes)
  walk-last e =
      let k : n + length (drop n bytes) ≡ length bytes = omega (arith, here-len, p.within) in
      at-nil true ∙ ap (plus n) (end-open true c (drop n bytes) e) ∙ ap (λ (i : ℕ). Some i) k

-- a walk that has seen all bytes
pub walk-seen : (bytes : List ℕ) (w : Walk) → w.passed + w.done ≡ length bytes → IsPassed bytes w.passed w.comment → Resumes Top (drop w.passed bytes) w.done w.scan → IsWalked bytes w
walk-seen bytes w all p r = record {
  within = omega (arith, all);
  passed = subst (λ (y : List ℕ). IsPassed y w.passed w.comment) (sym (take_all (w.passed + w.done) bytes (omega (arith, all)))) p;
  resumes = r;
}

-- what stands at a place that a walk has come to
module _ (bytes : List ℕ) (n : ℕ) (c : Comment) (p : IsPassed bytes n c) where
  pub rest-passes : (rest : List ℕ) (m : ℕ) (d : Comment) (w : Walk) → rest ≡ drop n bytes → IsPassing c rest m d → w ≡ record { passed = n + m; comment = d; done = 0; scan = begin_at Top }
      → IsPassed bytes w.passed w.comment × Resumes Top (drop w.passed bytes) w.done w.scan
  rest-passes rest m d w is f e =
      subst (λ (v : Walk). IsPassed bytes v.passed v.comment × Resumes Top (drop v.passed bytes) v.done v.scan) (sym e)
      (walk-passes bytes n c p m d (subst (λ (y : List ℕ). IsPassing c y m d) is f), resumes-begin Top (drop (n + m) bytes) (begin_at Top) refl)

  pub rest-here : (last : Bool) (rest : List ℕ) → rest ≡ drop n bytes → n < length bytes → head_turn last c rest ≡ Some Here → (head_end last Outside 0 bytes ≡ Some n) × (n ≤ length bytes)
  rest-here last rest is lt e = (walk-here bytes n c p last lt (sym (ap (head_turn last c) is) ∙ e), omega arith)

  pub rest-last : (last : Bool) (rest : List ℕ) → rest ≡ drop n bytes → last ≡ true → head_turn last c rest ≡ None → (head_end last Outside 0 bytes ≡ Some (length bytes)) × (length bytes ≤ length bytes)
  rest-last true rest is l e = (walk-last bytes n c p (sym (ap (head_turn true c) is) ∙ e), omega arith)
  rest-last false rest is l e = absurd (false≢true l)

  pub rest-open : (last : Bool) (rest : List ℕ) (s : Scan) → rest ≡ drop n bytes → last ≡ false → head_turn last c rest ≡ None → Resumes Top rest (length rest) s
      → (last ≡ false) × (head_end false Outside 0 bytes ≡ None) × IsWalked bytes (record { passed = n; comment = c; done = length rest; scan = s })
  rest-open last rest s is l e r =
      let none : head_turn false c (drop n bytes) ≡ None = ap (λ (b : Bool). head_turn b c (drop n bytes)) (sym l) ∙ sym (ap (head_turn last c) is) ∙ e in
      let all : n + length rest ≡ length bytes = omega (arith, ap length is, length-drop n bytes, p.within) in (
        l,
        walk-open bytes n c p none,
        walk-seen bytes (record { passed = n; comment = c; done = length rest; scan = s }) all p (subst (λ (y : List ℕ). Resumes Top y (length rest) s) is r),
      )

  -- where all bytes are passed
  done-len : length bytes ≤ n → length (drop n bytes) ≡ 0
  done-len ge = omega (arith, length-drop n bytes)

  pub done-last : (last : Bool) → last ≡ true → length bytes ≤ n → (head_end last Outside 0 bytes ≡ Some (length bytes)) × (length bytes ≤ length bytes)
  done-last true l ge =
      let k : n + 0 ≡ length bytes = omega (arith, p.within) in
      (at-nil bytes n c p true ∙ ap (plus n) (end-nil true c (drop n bytes) (done-len ge)) ∙ ap (λ (i : ℕ). Some i) k, omega arith)
  done-last false l ge = absurd (false≢true l)

  pub done-open : (last : Bool) (w : Walk) → last ≡ false → length bytes ≤ n → w.passed ≡ n → w.comment ≡ c → Resumes Top (drop w.passed bytes) w.done w.scan
      → (last ≡ false) × (head_end false Outside 0 bytes ≡ None) × IsWalked bytes w
  done-open last w l ge e f r =
      let all : w.passed + w.done ≡ length bytes = omega (arith, r.within, length-drop w.passed bytes, p.within) in (
        l,
        at-nil bytes n c p false ∙ ap (plus n) (end-nil false c (drop n bytes) (done-len ge)),
        walk-seen bytes w all (subst (λ (m : ℕ). IsPassed bytes m w.comment) (sym e) (subst (λ (d : Comment). IsPassed bytes n d) (sym f) p)) r,
      )

-- a walk that has seen some first bytes
module _ (bytes : List ℕ) (w : Walk) (walked : IsWalked bytes w) where
  seen-split : take (w.passed + w.done) bytes ++ drop (w.passed + w.done) bytes ≡ bytes
  seen-split = take-append-drop (w.passed + w.done) bytes

  pub walk-begin : IsPassed bytes w.passed w.comment
  walk-begin =
      let n = w.passed + w.done in
      let len : length (take n bytes) ≡ n = length-take-le n bytes walked.within in
      record {
        within = omega (arith, walked.within);
        same = λ last more.
            ap (λ (y : List ℕ). head_end last Outside 0 (y ++ more)) (sym seen-split)
            ∙ ap (head_end last Outside 0) (append_assoc (take n bytes) (drop n bytes) more)
            ∙ walked.passed.same last (drop n bytes ++ more)
            ∙ ap (λ (y : List ℕ). plus w.passed (head_end last w.comment 0 y))
            (sym (append_assoc (drop w.passed (take n bytes)) (drop n bytes) more)
            ∙ ap (λ (y : List ℕ). y ++ more) (sym (drop-append-le w.passed (take n bytes) (drop n bytes) (omega (arith, len))) ∙ ap (drop w.passed) seen-split));
      }

  -- more bytes change nothing of it
  pub walk-more : (more : List ℕ) → IsWalked (bytes ++ more) w
  walk-more more =
      let n = w.passed + w.done in
      record {
        within = omega (arith, walked.within, length-append bytes more);
        passed = subst (λ (y : List ℕ). IsPassed y w.passed w.comment) (sym (take-append-le n bytes more walked.within)) walked.passed;
        resumes = subst (λ (y : List ℕ). Resumes Top y w.done w.scan) (sym (drop-append-le w.passed bytes more (omega (arith, walked.within))))
            (reaches-more (begin Start) w.scan (drop w.passed bytes) more w.done walked.resumes);
      }

-- at the beginning of a text
pub passed-none : (bytes : List ℕ) → IsPassed bytes 0 Outside
passed-none bytes = record {
  within = omega arith;
  same = λ last more. plus-zero (head_end last Outside 0 (bytes ++ more));
}
