-- What comes of a text whatever its size, turn after turn, and what it says.
use Rattle.std.proofs.Common.{◌≡◌, ℕ, zero, suc, ◌-◌, ◌<◌, true, false, List, [], ◌∷◌, ◌++◌, length, drop, take, map, Option, Some, None, refl, sym, ap, ◌∙◌, arith}
use Rattle.std.specs.List.{flat_map}
use Rattle.std.specs.Prelude.{nat_lt}
use Rattle.stil_types.specs.declared.head.StilHead.{StilHead}
use Rattle.stil_types.specs.declared.statement.PatternStatement.{PatternStatement}
use Rattle.stil_parts.specs.declared.gap.Point.{Point}
use Rattle.stil_parts.specs.declared.part.PartFault.{PartFault}
use Rattle.stil_parts.specs.declared.part.Part.{Part}
use Rattle.stil_parts.specs.declared.part.Part.TheVariants.{Whole}
use Rattle.stil_parts.specs.Gaps.{gap_at}
use Rattle.stil_parts.specs.Parts.{part_at, part_len}
use Rattle.stil_parts.specs.Coming.{Event, Byte, Judge, Coming, Refused, Taken, before, stopped, ending, moved, judged, part_events, point_behind}
use Rattle.stil_calls.specs.declared.judging.Judging.{Judging}
use Rattle.stil_calls.specs.Parts.{judge_by}
use Rattle.stil_reader.specs.Sayings.{Saying, GapByte, Stated, after, name_in, named, statement_at, said, told}
use Rattle.stil_reader.proofs.Said.{told-on, said-bytes, said-part, said-statement}
use Rattle.stil_written.specs.Unbounded.{free_part, free_turn, comes, says_free}
use Rattle.stil_written.proofs.Sizes.{free-gap, free-part}

module _ (judge : Judge) where
  comes-inside : (p : Point) (n : ℕ) (bs : List ℕ) → comes judge p n bs ≡ comes judge p 0 (drop n bs)
  unfolding comes
  comes-inside p zero bs = refl
  comes-inside p (suc n) [] = refl
  comes-inside p (suc n) (b ∷ bs) = comes-inside p n bs

  comes-behind : (p : Point) (n b : ℕ) (bs : List ℕ) → 0 < n → comes judge p (n - 1) bs ≡ comes judge p 0 (drop n (b ∷ bs))
  comes-behind p zero b bs some = absurd (omega arith)
  comes-behind p (suc n) b bs some = let k : suc n - 1 ≡ n = omega arith in rw k (comes-inside p n bs)

  pub comes-taken : (p q : Point) (n : ℕ) (es : List Event) (bs : List ℕ) → 0 < length bs → 0 < n → free_turn judge p bs ≡ Taken n es q
      → comes judge p 0 bs ≡ before es (comes judge q 0 (drop n bs))
  unfolding comes
  comes-taken p q n es [] some more e = absurd (omega arith)
  comes-taken p q n es (b ∷ bs) some more e = rw (e, comes) (ap (before es) (comes-behind q n b bs more))

  pub comes-refused : (p : Point) (f : PartFault) (bs : List ℕ) → 0 < length bs → free_turn judge p bs ≡ Refused f → comes judge p 0 bs ≡ stopped f
  unfolding comes
  comes-refused p f [] some e = absurd (omega arith)
  comes-refused p f (b ∷ bs) some e = rw (e, comes) refl

  pub comes-ended : (p : Point) → comes judge p 0 [] ≡ ending p.place
  unfolding comes
  comes-ended p = refl

module _ (judging : Judging) (head : StilHead) (p : Point) (bs : List ℕ) (some : 0 < length bs) where
  says-taken : (q : Point) (n : ℕ) (es : List Event) → 0 < n → free_turn (judge_by judging head) p bs ≡ Taken n es q
      → says_free judging head p bs ≡ after (flat_map (said head) es) (says_free judging head q (drop n bs))
  says-taken q n es more e = ap (told head) (comes-taken (judge_by judging head) p q n es bs some more e) ∙ told-on head es _

  -- a gap
  pub says-gap : nat_lt 0 (gap_at p.place p.comment bs).len ≡ true → 0 < (gap_at p.place p.comment bs).len
      → says_free judging head p bs ≡ after (map GapByte (take (gap_at p.place p.comment bs).len bs))
      (says_free judging head (moved p (take (gap_at p.place p.comment bs).len bs) (gap_at p.place p.comment bs).place (gap_at p.place p.comment bs).comment) (drop (gap_at p.place p.comment bs).len bs))
  says-gap e more =
      let g = gap_at p.place p.comment bs in
      let x = take g.len bs in
      let rest = says_free judging head (moved p x g.place g.comment) (drop g.len bs) in
      says-taken (moved p x g.place g.comment) g.len (map Byte x) more (free-gap (judge_by judging head) p bs e)
      ∙ ap (λ (xs : List Saying). after xs rest) (said-bytes head x)

  module _ (none : nat_lt 0 (gap_at p.place p.comment bs).len ≡ false) where
    -- a part that isn't judged sound, or none
    pub says-open : part_at true p.place bs ≡ None → (says_free judging head p bs).fault ≡ None → ⊥
    says-open e sound =
        let t = free-part (judge_by judging head) p bs none ∙ ap (free_part (judge_by judging head) p bs) e in
        let c = comes-refused (judge_by judging head) p _ bs some t in
        let k = sym (ap (λ (d : Coming). d.fault) c) ∙ sound in cc

    module _ (part : Part) (is : part_at true p.place bs ≡ Some part) where
      turn-is : (o : Option PartFault) → judge_by judging head p part (take (part_len part) bs) ≡ o
          → free_turn (judge_by judging head) p bs ≡ judged o (part_len part) (part_events p part (take (part_len part) bs)) (point_behind p part (take (part_len part) bs))
      turn-is o e =
          free-part (judge_by judging head) p bs none ∙ ap (free_part (judge_by judging head) p bs) is
          ∙ ap (λ (j : Option PartFault). judged j (part_len part) (part_events p part (take (part_len part) bs)) (point_behind p part (take (part_len part) bs))) e

      sound-as : (o : Option PartFault) → judge_by judging head p part (take (part_len part) bs) ≡ o → (says_free judging head p bs).fault ≡ None → o ≡ None
      sound-as None e sound = refl
      sound-as (Some f) e sound =
          let c = comes-refused (judge_by judging head) p f bs some (turn-is (Some f) e) in
          absurd (let k = sym (ap (λ (d : Coming). d.fault) c) ∙ sound in cc)

      pub judged-sound : (says_free judging head p bs).fault ≡ None → judge_by judging head p part (take (part_len part) bs) ≡ None
      judged-sound sound = sound-as (judge_by judging head p part (take (part_len part) bs)) refl sound

      says-part : 0 < part_len part → judge_by judging head p part (take (part_len part) bs) ≡ None
          → says_free judging head p bs ≡ after (flat_map (said head) (part_events p part (take (part_len part) bs))) (says_free judging head (point_behind p part (take (part_len part) bs)) (drop (part_len part) bs))
      says-part more sound = says-taken _ _ _ more (turn-is None sound)

      -- one outside a Pattern
      pub says-passed : ((n : ℕ) → part ≡ Whole n → ⊥) → 0 < part_len part → judge_by judging head p part (take (part_len part) bs) ≡ None
          → says_free judging head p bs ≡ after (map GapByte (take (part_len part) bs) ++ named (name_in part (take (part_len part) bs))) (says_free judging head (point_behind p part (take (part_len part) bs)) (drop (part_len part) bs))
      says-passed other more sound =
          says-part more sound
          ∙ ap (λ (xs : List Saying). after xs (says_free judging head (point_behind p part (take (part_len part) bs)) (drop (part_len part) bs))) (said-part head p part (take (part_len part) bs) other)

    -- one in a Pattern
    pub says-stated : (n : ℕ) → part_at true p.place bs ≡ Some (Whole n) → 0 < n → judge_by judging head p (Whole n) (take n bs) ≡ None → (s : PatternStatement) → statement_at head p (take n bs) ≡ Some s
        → says_free judging head p bs ≡ after (Stated s ∷ []) (says_free judging head (point_behind p (Whole n) (take n bs)) (drop n bs))
    says-stated n is more sound s e =
        says-part (Whole n) is more sound
        ∙ ap (λ (xs : List Saying). after xs (says_free judging head (point_behind p (Whole n) (take n bs)) (drop n bs))) (said-statement head p (take n bs) s e)
