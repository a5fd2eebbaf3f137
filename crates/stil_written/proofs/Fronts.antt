-- What is written behind a head begins as it did, as far as the head's end looks.
use Rattle.std.proofs.Common.{◌≡◌, inl, inr, ℕ, zero, suc, ◌+◌, ◌-◌, ◌<◌, ◌≤◌, Bool, true, false, cond, List, [], ◌∷◌, ◌++◌, length, drop, take, map, Option, Some, None, refl, sym, ap, subst, ◌∙◌, arith}
use Rattle.std.specs.List.{AllByRecursion as Each}
use Rattle.std.specs.Prelude.{nat_lt}
use Rattle.std.proofs.lemmas.Bool.{cases_Bool, ltb-true, true≢false}
use Rattle.std.proofs.lemmas.List.{append-nil, take-append-drop, length-take-le}
use Rattle.std.proofs.lemmas.Option.{same_Some}
use Rattle.stil_types.specs.declared.head.StilHead.{StilHead}
use Rattle.stil_parts.specs.declared.gap.Place.{Place}
use Rattle.stil_parts.specs.declared.gap.Place.TheVariants.{Top, Pattern}
use Rattle.stil_parts.specs.declared.gap.Comment.{Comment}
use Rattle.stil_parts.specs.declared.gap.Comment.TheVariants.{Outside, Line, Block}
use Rattle.stil_parts.specs.declared.gap.Gap.{Gap}
use Rattle.stil_parts.specs.declared.gap.Point.{Point}
use Rattle.stil_parts.specs.declared.word.Word.TheVariants.{Start, Known}
use Rattle.stil_parts.specs.declared.scan.Scan.{Scan}
use Rattle.stil_parts.specs.declared.scan.After.TheVariants.{Goes, Ends, Opens as opens}
use Rattle.stil_parts.specs.declared.scan.Found.{Found}
use Rattle.stil_parts.specs.declared.head.HeadTurn.{HeadTurn}
use Rattle.stil_parts.specs.declared.head.HeadTurn.TheVariants.{Passed, Here}
use Rattle.stil_parts.specs.declared.part.Part.{Part}
use Rattle.stil_parts.specs.declared.part.Part.TheVariants.{Passes, Opens, Whole}
use Rattle.stil_parts.specs.Words.{word_settled, word_shown}
use Rattle.stil_parts.specs.Gaps.{line_gap, block_gap, gap_at}
use Rattle.stil_parts.specs.Scanner.{step, found, end_of}
use Rattle.stil_parts.specs.Parts.{begin, begin_at, part_at, part_len}
use Rattle.stil_parts.specs.Heads.{word_of, statement_turn, head_turn, head_end}
use Rattle.stil_parts.specs.Coming.{ending, moved, point_behind}
use Rattle.stil_parts.proofs.Ends.{Went, Ended, Opened, stepped, end_goes, later-some}
use Rattle.stil_parts.proofs.GapLemmas.{gap-within}
use Rattle.stil_parts.proofs.PartStable.{IsFrom, parted-from, part-some}
use Rattle.stil_calls.specs.declared.judging.Judging.{Judging}
use Rattle.stil_calls.specs.Parts.{judge_by}
use Rattle.stil_reader.specs.Sayings.{Saying, GapByte, Stated, Told, after, name_in, told, text_of}
use Rattle.stil_reader.specs.Patterns.{statements_in}
use Rattle.stil_written.specs.Unbounded.{says_free}
use Rattle.stil_written.specs.Written.{Form, written_says, IsStated}
use Rattle.stil_written.specs.Laws.{IsFront, FrontLaw, HeadFrontLaw}
use Rattle.stil_written.proofs.Induction.{bytes_named, statements-on, written-on, top_whole, part_within, is_whole, said_whole}
use Rattle.stil_written.proofs.Tails.{two_on, one_on, one_alike, gap_by_two}
use Rattle.stil_written.proofs.Turns.{comes-ended, says-gap, says-open, judged-sound, says-passed}

-- one byte in front of a word
module _ (s : Scan) (b : ℕ) (bs : List ℕ) where
  word_known : (is : Bool) → word_shown false s.word ≡ Some is → word_of true s (b ∷ bs) ≡ Some is
  unfolding word_of
  word_known is e = rw (e, word_of) refl

  word_goes : (t : Scan) → word_shown false s.word ≡ None → Goes t ≡ step s b → word_of true s (b ∷ bs) ≡ word_of true t bs
  unfolding word_of
  word_goes t e h = rw (e, ← h, word_of) refl

  word_ends : word_shown false s.word ≡ None → Ends ≡ step s b → word_of true s (b ∷ bs) ≡ word_shown true (word_settled s.word)
  unfolding word_of
  word_ends e h = rw (e, ← h, word_of) refl

  word_opens : word_shown false s.word ≡ None → opens ≡ step s b → word_of true s (b ∷ bs) ≡ Some true
  unfolding word_of
  word_opens e h = rw (e, ← h, word_of) refl

word_byte : (s : Scan) (b : ℕ) (y z : List ℕ) (o : Option Bool) → word_shown false s.word ≡ o → ((t : Scan) → Goes t ≡ step s b → word_of true t y ≡ word_of true t z) → word_of true s (b ∷ y) ≡ word_of true s (b ∷ z)
word_byte s b y z (Some is) e more = word_known s b y is e ∙ sym (word_known s b z is e)
word_byte s b y z None e more = elim (stepped s b) [
  | Went t h ↦ word_goes s b y t e h ∙ more t h ∙ sym (word_goes s b z t e h)
  | Ended h ↦ word_ends s b y e h ∙ sym (word_ends s b z e h)
  | Opened h ↦ word_opens s b y e h ∙ sym (word_opens s b z e h)
]

-- the word of a part doesn't hang on the bytes behind it, but for the first of them where it opens a Pattern
word_tail : (s : Scan) (x y z : List ℕ) (f : Found) → f.len ≡ length x → take 1 y ≡ take 1 z → end_of true s (x ++ y) ≡ Some f → word_of true s (x ++ y) ≡ word_of true s (x ++ z)
word_tail s [] [] [] f len e h = refl
word_tail s [] [] (c ∷ z) f len e h = absurd cc
word_tail s [] (b ∷ y) [] f len e h = absurd cc
word_tail s [] (b ∷ y) (c ∷ z) f len e h =
    let k : b ≡ c = cc in
    rw (← k) (word_byte s b y z (word_shown false s.word) refl (λ t g. absurd (let w = later-some 1 (end_of true t y) f (sym (end_goes true s b y t g) ∙ h) in omega (arith, w.len))))
word_tail s (b ∷ x) y z f len e h =
    word_byte s b (x ++ y) (x ++ z) (word_shown false s.word) refl
    (λ t g. let w = later-some 1 (end_of true t (x ++ y)) f (sym (end_goes true s b (x ++ y) t g) ∙ h) in
    let shorter : w.found_len ≡ length x = omega (arith, w.len) in
    word_tail t x y z (found w.found_len w.opens) shorter e w.is)

-- the first Pattern stands here: no gap, and its word
here_as : (t : Bool) (n : ℕ) (c : Comment) (w : Option Bool) (e : Option Found) → cond t (Some (Passed n c)) (statement_turn w e) ≡ Some Here → (t ≡ false) × (w ≡ Some true)
here_as true n c w e h = absurd cc
here_as false n c None e h = absurd cc
here_as false n c (Some true) e h = (refl, refl)
here_as false n c (Some false) None h = absurd cc
here_as false n c (Some false) (Some f) h = absurd cc

here_parts : (bs : List ℕ) → head_turn true Outside bs ≡ Some Here → (nat_lt 0 (gap_at Top Outside bs).len ≡ false) × (word_of true (begin Start) bs ≡ Some true)
unfolding head_turn
here_parts bs h = here_as (nat_lt 0 (gap_at Top Outside bs).len) (gap_at Top Outside bs).len (gap_at Top Outside bs).comment (word_of true (begin Start) bs) (end_of true (begin (Known false)) bs) h

here_made : (bs : List ℕ) → nat_lt 0 (gap_at Top Outside bs).len ≡ false → word_of true (begin Start) bs ≡ Some true → head_turn true Outside bs ≡ Some Here
unfolding head_turn
here_made bs none word =
    ap (λ (t : Bool). cond t (Some (Passed (gap_at Top Outside bs).len (gap_at Top Outside bs).comment)) (statement_turn (word_of true (begin Start) bs) (end_of true (begin (Known false)) bs))) none
    ∙ ap (λ (o : Option Bool). statement_turn o (end_of true (begin (Known false)) bs)) word

end_at_top : (bs : List ℕ) (part : Part) → part_at true Top bs ≡ Some part → IsFrom Top (end_of true (begin Start) bs) part
unfolding part_at
end_at_top bs part e = parted-from Top (end_of true (begin_at Top) bs) part e

-- no statement of a Pattern stands at the top
top_at : (bs : List ℕ) (n : ℕ) → part_at true Top bs ≡ Some (Whole n) → ⊥
unfolding part_at
top_at bs n e = top_whole (end_of true (begin_at Top) bs) n e

whole_or_not : (part : Part) (n : ℕ) → part ≡ Whole n → is_whole part ≡ false → ⊥
whole_or_not part n e passes = true≢false (sym (ap is_whole e) ∙ passes)

module _ (form : Form) (judging : Judging) (head : StilHead) where
  abbrev AreBegun : List Saying → Type 0
  AreBegun says = Each (λ s. IsStated judging head s → take 2 (text_of s) ≡ take 2 (form.statement s)) (statements_in says)

  abbrev FirstStays : Point → List ℕ → Type 0
  FirstStays p bs = take 1 bs ≡ take 1 (written_says form (says_free judging head p bs).says)

  -- what is written for a text begins with the text's first byte
  stays_behind : (p : Point) (bs x r : List ℕ) (name : Option (List ℕ)) (rest : Told) → bs ≡ x ++ r → 0 < length x → says_free judging head p bs ≡ after (bytes_named x name) rest → FirstStays p bs
  stays_behind p bs x r name rest cut some e =
      let w = written_says form rest.says in
      ap (take 1) cut ∙ one_on x r w some ∙ ap (take 1) (sym (written-on form x name rest.says)) ∙ ap (λ (t : Told). take 1 (written_says form t.says)) (sym e)

  nothing_written : (place : Place) → written_says form (told head (ending place)).says ≡ []
  nothing_written Top = refl
  nothing_written (Pattern line) = refl

  ended : (p : Point) → written_says form (says_free judging head p []).says ≡ []
  ended p = ap (λ (c : Told). written_says form c.says) (ap (told head) (comes-ended (judge_by judging head) p)) ∙ nothing_written p.place

  module _ (p : Point) (bs : List ℕ) (some : 0 < length bs) (fine : (says_free judging head p bs).fault ≡ None) (begun : AreBegun (says_free judging head p bs).says) where
    first_gap : nat_lt 0 (gap_at p.place p.comment bs).len ≡ true → FirstStays p bs
    first_gap e =
        let g = gap_at p.place p.comment bs in
        let n = g.len in
        let x = take n bs in
        let more : 0 < n = ltb-true 0 n e in
        let rest = says_free judging head (moved p x g.place g.comment) (drop n bs) in
        let len : length x ≡ n = length-take-le n bs (gap-within p.place p.comment bs) in
        stays_behind p bs x (drop n bs) None rest (sym (take-append-drop n bs)) (omega (arith, len, more))
        (says-gap judging head p bs some e more ∙ ap (λ (xs : List Saying). after xs rest) (sym (append-nil (map GapByte x))))

    module _ (none : nat_lt 0 (gap_at p.place p.comment bs).len ≡ false) where
      said_passed : (part : Part) → is_whole part ≡ false → part_at true p.place bs ≡ Some part
          → says_free judging head p bs ≡ after (bytes_named (take (part_len part) bs) (name_in part (take (part_len part) bs))) (says_free judging head (point_behind p part (take (part_len part) bs)) (drop (part_len part) bs))
      said_passed part passes is = says-passed judging head p bs some none part is (λ m e. whole_or_not part m e passes) (part-some true p.place bs part is) (judged-sound judging head p bs some none part is fine)

      first_passed : (part : Part) → is_whole part ≡ false → part_at true p.place bs ≡ Some part → FirstStays p bs
      first_passed part passes is =
          let n = part_len part in
          let x = take n bs in
          let len : length x ≡ n = length-take-le n bs (part_within true p.place bs part is) in
          let more : 0 < n = part-some true p.place bs part is in
          stays_behind p bs x (drop n bs) (name_in part x) (says_free judging head (point_behind p part x) (drop n bs)) (sym (take-append-drop n bs)) (omega (arith, len, more)) (said_passed part passes is)

      first_whole : (n : ℕ) → part_at true p.place bs ≡ Some (Whole n) → FirstStays p bs
      first_whole n is =
          let x = take n bs in
          let within : n ≤ length bs = part_within true p.place bs (Whole n) is in
          let more : 0 < n = part-some true p.place bs (Whole n) is in
          let said = said_whole judging head p n bs some none is more within fine in
          let s = said.statement in
          let rest = says_free judging head (point_behind p (Whole n) x) (drop n bs) in
          let both : AreBegun (Stated s ∷ rest.says) = subst (λ (t : Told). AreBegun t.says) said.says begun in
          let len : length x ≡ n = length-take-le n bs within in
          let two : take 2 x ≡ take 2 (form.statement s) = ap (take 2) (sym said.text) ∙ both.0 said.stated in
          ap (take 1) (sym (take-append-drop n bs)) ∙ one_alike x (form.statement s) (drop n bs) (written_says form rest.says) two (omega (arith, len, more)) ∙ ap (λ (t : Told). take 1 (written_says form t.says)) (sym said.says)

      first_part : (o : Option Part) → part_at true p.place bs ≡ o → FirstStays p bs
      first_part None is = absurd (says-open judging head p bs some none is fine)
      first_part (Some (Passes n)) is = first_passed (Passes n) refl is
      first_part (Some (Opens n)) is = first_passed (Opens n) refl is
      first_part (Some (Whole n)) is = first_whole n is

  first_stays : (p : Point) (bs : List ℕ) → (says_free judging head p bs).fault ≡ None → AreBegun (says_free judging head p bs).says → FirstStays p bs
  first_stays p [] fine begun = ap (take 1) (sym (ended p))
  first_stays p (b ∷ bs) fine begun = elim (cases_Bool (nat_lt 0 (gap_at p.place p.comment (b ∷ bs)).len)) [
    | inl e ↦ first_gap p (b ∷ bs) (omega arith) fine begun e
    | inr e ↦ first_part p (b ∷ bs) (omega arith) fine begun e (part_at true p.place (b ∷ bs)) refl
  ]

  -- a Pattern's front, or another part at the top, and then what is written behind it
  module _ (p : Point) (bs : List ℕ) (some : 0 < length bs) (top : p.place ≡ Top) (outside : p.comment ≡ Outside) (fine : (says_free judging head p bs).fault ≡ None) (begun : AreBegun (says_free judging head p bs).says)
      (word : word_of true (begin Start) bs ≡ Some true) (none : nat_lt 0 (gap_at Top Outside bs).len ≡ false) where
    here : nat_lt 0 (gap_at p.place p.comment bs).len ≡ false
    here = ap (λ (a : Place). nat_lt 0 (gap_at a p.comment bs).len) top ∙ ap (λ (c : Comment). nat_lt 0 (gap_at Top c bs).len) outside ∙ none

    front_passed : (part : Part) → is_whole part ≡ false → part_at true p.place bs ≡ Some part → head_turn true Outside (written_says form (says_free judging head p bs).says) ≡ Some Here
    front_passed part passes is =
        let n = part_len part in
        let x = take n bs in
        let r = drop n bs in
        let p1 = point_behind p part x in
        let rest = says_free judging head p1 r in
        let w = written_says form rest.says in
        let said = said_passed p bs some fine begun here part passes is in
        let fine1 : rest.fault ≡ None = sym (ap (λ (t : Told). t.fault) said) ∙ fine in
        let begun1 : AreBegun rest.says = subst (Each (λ s. IsStated judging head s → take 2 (text_of s) ≡ take 2 (form.statement s))) (statements-on x (name_in part x) rest.says) (subst (λ (t : Told). AreBegun t.says) said begun) in
        let first : take 1 r ≡ take 1 w = first_stays p1 r fine1 begun1 in
        let len : length x ≡ n = length-take-le n bs (part_within true p.place bs part is) in
        let more : 0 < n = part-some true p.place bs part is in
        let longer : 0 < length x = omega (arith, len, more) in
        let cut : x ++ r ≡ bs = take-append-drop n bs in
        let i = end_at_top bs part (ap (λ (a : Place). part_at true a bs) (sym top) ∙ is) in
        let ends : end_of true (begin Start) (x ++ r) ≡ Some i.end = ap (end_of true (begin Start)) cut ∙ i.is in
        let same : word_of true (begin Start) (x ++ r) ≡ word_of true (begin Start) (x ++ w) = word_tail (begin Start) x r w i.end (sym i.len ∙ sym len) first ends in
        let word1 : word_of true (begin Start) (x ++ w) ≡ Some true = sym same ∙ ap (word_of true (begin Start)) cut ∙ word in
        let two : take 2 (x ++ w) ≡ take 2 bs = sym (two_on x r w longer first) ∙ ap (take 2) cut in
        let none1 : nat_lt 0 (gap_at Top Outside (x ++ w)).len ≡ false = ap (λ (g : Gap). nat_lt 0 g.len) (gap_by_two Top Outside (x ++ w) bs two) ∙ none in
        let written : written_says form (says_free judging head p bs).says ≡ x ++ w = ap (λ (t : Told). written_says form t.says) said ∙ written-on form x (name_in part x) rest.says in
        ap (head_turn true Outside) written ∙ here_made (x ++ w) none1 word1

    front_part : (o : Option Part) → part_at true p.place bs ≡ o → head_turn true Outside (written_says form (says_free judging head p bs).says) ≡ Some Here
    front_part None is = absurd (says-open judging head p bs some here is fine)
    front_part (Some (Passes n)) is = front_passed (Passes n) refl is
    front_part (Some (Opens n)) is = front_passed (Opens n) refl is
    front_part (Some (Whole n)) is = absurd (top_at bs n (ap (λ (a : Place). part_at true a bs) (sym top) ∙ is))

pub front_law : FrontLaw
front_law form judging head p [] top outside fine begun front = inl (ended form judging head p)
front_law form judging head p (b ∷ bs) top outside fine begun (inl e) = absurd cc
front_law form judging head p (b ∷ bs) top outside fine begun (inr h) =
    let parts = here_parts (b ∷ bs) h in
    inr (front_part form judging head p (b ∷ bs) (omega arith) top outside fine begun parts.1 parts.0 (part_at true p.place (b ∷ bs)) refl)

-- where a head ends no comment is open, since what stands in one is passed
here_outside : (c : Comment) (b : ℕ) (bs : List ℕ) → head_turn true c (b ∷ bs) ≡ Some Here → head_turn true Outside (b ∷ bs) ≡ Some Here
unfolding head_turn gap_at line_gap block_gap
here_outside Outside b bs h = h
here_outside Line b bs h = absurd cc
here_outside (Block star) b bs h = absurd cc

drop_whole : (bs : List ℕ) → drop (length bs) bs ≡ []
drop_whole [] = refl
drop_whole (b ∷ bs) = drop_whole bs

-- an end of the bytes behind the first is one byte further on
end_more : (b n : ℕ) (bs : List ℕ) (o : Option ℕ) → elim o [ None ↦ None | Some m ↦ Some (1 + m) ] ≡ Some n → ((m : ℕ) → o ≡ Some m → IsFront (drop m bs)) → IsFront (drop n (b ∷ bs))
end_more b n bs None e more = absurd cc
end_more b n bs (Some m) e more = let k : 1 + m ≡ n = same_Some _ _ e in let s : n ≡ suc m = omega (arith, k) in subst (λ (i : ℕ). IsFront (drop i (b ∷ bs))) (sym s) (more m refl)

end_turn : (c : Comment) (b n : ℕ) (bs : List ℕ) (o : Option HeadTurn) → head_turn true c (b ∷ bs) ≡ o → ((d : Comment) (inside m : ℕ) → head_end true d inside bs ≡ Some m → IsFront (drop m bs))
    → elim o [
      | None ↦ Some (length (b ∷ bs))
      | Some turn ↦ elim turn [ Here ↦ Some 0 | Passed m d ↦ elim (head_end true d (m - 1) bs) [ None ↦ None | Some k ↦ Some (1 + k) ] ]
    ] ≡ Some n → IsFront (drop n (b ∷ bs))
end_turn c b n bs None t more e = inl (ap (λ (i : ℕ). drop i (b ∷ bs)) (sym (same_Some _ _ e)) ∙ drop_whole (b ∷ bs))
end_turn c b n bs (Some Here) t more e = subst (λ (i : ℕ). IsFront (drop i (b ∷ bs))) (same_Some _ _ e) (inr (here_outside c b bs t))
end_turn c b n bs (Some (Passed m d)) t more e = end_more b n bs (head_end true d (m - 1) bs) e (λ k is. more d (m - 1) k is)

end_front : (c : Comment) (inside n : ℕ) (bs : List ℕ) → head_end true c inside bs ≡ Some n → IsFront (drop n bs)
unfolding head_end
end_front c inside n [] e = subst (λ (i : ℕ). IsFront (drop {A = ℕ} i [])) (same_Some _ _ e) (inl refl)
end_front c (suc inside) n (b ∷ bs) e = end_more b n bs (head_end true c inside bs) e (λ m is. end_front c inside m bs is)
end_front c zero n (b ∷ bs) e = end_turn c b n bs (head_turn true c (b ∷ bs)) refl (λ d inside m is. end_front d inside m bs is) e

pub head_front_law : HeadFrontLaw
head_front_law bytes n e = end_front Outside 0 n bytes e
