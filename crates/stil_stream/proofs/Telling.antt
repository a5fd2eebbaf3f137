-- What the bytes kept show of a text, and what it says from its head on.
use Rattle.std.proofs.Common.{◌≡◌, ℕ, ◌<◌, ◌≤◌, Bool, true, false, List, [], ◌∷◌, ◌++◌, length, take, drop, Option, Some, None, refl, sym, ap, ◌∙◌, arith, length-append, inl, inr}
use Rattle.std.specs.Prelude.{nat_lt, is_some, ◌||◌, if◌then◌else◌}
use Rattle.std.proofs.lemmas.Bool.{cases_Bool, lt-ltb, le-ltb}
use Rattle.std.proofs.lemmas.List.{append-nil, take-append-drop, take-append-le, drop-append-le, take-take}
use Rattle.stil_types.specs.declared.head.StilHead.{StilHead}
use Rattle.stil_parts.specs.declared.gap.Place.TheVariants.{Top}
use Rattle.stil_parts.specs.declared.gap.Comment.TheVariants.{Outside}
use Rattle.stil_parts.specs.declared.gap.Point.{Point}
use Rattle.stil_parts.specs.declared.part.Part.{Part}
use Rattle.stil_parts.specs.Gaps.{gap_at}
use Rattle.stil_parts.specs.Parts.{part_at}
use Rattle.stil_parts.specs.Coming.{Judge, largest, moved, turn_in, next_turn}
use Rattle.stil_parts.specs.Heads.{head_end, head_len}
use Rattle.stil_parts.specs.Deciding.{Shown}
use Rattle.stil_parts.proofs.Turns.{turn-gap, turn-none}
use Rattle.stil_parts.proofs.HeadStable.{head-stays}
use Rattle.stil_reader.specs.Sayings.{Head, after, told_before, told_from}
use Rattle.stil_stream.specs.Streams.{shows_head, shows_part}

-- what the bytes show doesn't hang on the judge
in-shows : (judge : Judge) (p : Point) (kept : List ℕ) (o : Option Part) → is_some (turn_in judge false p kept o) ≡ (is_some o || nat_lt largest (length kept))
in-shows judge p kept (Some part) = refl
in-shows judge p kept None = elim (cases_Bool (nat_lt largest (length kept))) [ inl e ↦ rw e refl | inr e ↦ rw e refl ]

pub turn-shows : (judge : Judge) (p : Point) (kept : List ℕ) → is_some (next_turn judge false p kept) ≡ shows_part p kept
turn-shows judge p kept = elim (cases_Bool (nat_lt 0 (gap_at p.place p.comment kept).len)) [
  | inl g ↦ ap is_some (turn-gap judge false p kept g) ∙ sym (ap (λ (b : Bool). b || (is_some (part_at false p.place kept) || nat_lt largest (length kept))) g)
  | inr g ↦ ap is_some (turn-none judge false p kept g) ∙ in-shows judge p kept (part_at false p.place kept)
      ∙ sym (ap (λ (b : Bool). b || (is_some (part_at false p.place kept) || nat_lt largest (length kept))) g)
]

pub shown-behind : (judge : Judge) (ended in_head : Bool) (p : Point) (kept : List ℕ) → in_head ≡ false → Shown judge ended p kept → (ended || (if in_head then shows_head kept else shows_part p kept)) ≡ true
shown-behind judge true in_head p kept h s = refl
shown-behind judge false in_head p kept h s = ap (λ (b : Bool). if b then shows_head kept else shows_part p kept) h ∙ sym (turn-shows judge p kept) ∙ s

pub wants-behind : (judge : Judge) (ended in_head : Bool) (p : Point) (kept : List ℕ) → in_head ≡ false → ended ≡ false → next_turn judge false p kept ≡ None
    → (ended || (if in_head then shows_head kept else shows_part p kept)) ≡ false
wants-behind judge ended in_head p kept h e none =
    ap (λ (b : Bool). b || (if in_head then shows_head kept else shows_part p kept)) e ∙ ap (λ (b : Bool). if b then shows_head kept else shows_part p kept) h
    ∙ sym (turn-shows judge p kept) ∙ ap is_some none

-- the head's end, which the first bytes show
end-front : (last : Bool) (x y : List ℕ) (limit n : ℕ) → take limit y ≡ take limit x → head_end false Outside 0 (take limit x) ≡ Some n → head_end last Outside 0 y ≡ Some n
end-front last x y limit n e h =
    ap (head_end last Outside 0) (sym (take-append-drop limit y) ∙ ap (λ (z : List ℕ). z ++ drop limit y) e) ∙ head-stays last Outside 0 n (take limit x) (drop limit y) h

module _ (kept : List ℕ) (limit : ℕ) (within : limit ≤ length kept) (small : limit ≤ largest) where
  front-same : (more : List ℕ) → take limit (kept ++ more) ≡ take limit kept
  front-same more = take-append-le limit kept more within

  front-cut : (more : List ℕ) → take limit (take largest (kept ++ more)) ≡ take limit kept
  front-cut more = take-take limit largest (kept ++ more) small ∙ front-same more

  -- where the text goes on
  pub len-goes : (n : ℕ) (more : List ℕ) → head_end false Outside 0 (take limit kept) ≡ Some n → head_len (kept ++ more) ≡ Some n
  len-goes n more h = elim (cases_Bool (nat_lt largest (length (kept ++ more)))) [
    | inl e ↦ rw e (end-front false kept (take largest (kept ++ more)) limit n (front-cut more) h)
    | inr e ↦ rw e (end-front true kept (kept ++ more) limit n (front-same more) h)
  ]

-- where it doesn't
pub len-ends : (kept : List ℕ) (n : ℕ) (more : List ℕ) → length kept ≤ largest → more ≡ [] → head_end true Outside 0 kept ≡ Some n → head_len (kept ++ more) ≡ Some n
len-ends kept n more le e h =
    let k : kept ++ more ≡ kept = ap (λ (y : List ℕ). kept ++ y) e ∙ append-nil kept in
    ap head_len k ∙ (rw (le-ltb largest (length kept) le) h)

-- where it is too long
pub len-none : (kept more : List ℕ) → largest < length kept → head_end false Outside 0 (take largest kept) ≡ None → head_len (kept ++ more) ≡ None
len-none kept more lt h =
    let long : largest < length (kept ++ more) = omega (arith, length-append kept more) in
    rw (lt-ltb largest (length (kept ++ more)) long) (ap (head_end false Outside 0) (take-append-le largest kept more (omega arith)) ∙ h)

-- what is told of a head
pub head-told : (head : StilHead) (p : Point) (kept more : List ℕ) (n : ℕ) → n ≤ length kept → head_len (kept ++ more) ≡ Some n
    → told_from head true p (kept ++ more) ≡ after (Head (take n kept) ∷ []) (told_from head false (moved p (take n kept) Top Outside) (drop n kept ++ more))
head-told head p kept more n le e =
    ap (told_before head p (kept ++ more)) e
    ∙ ap (λ (t : List ℕ). after (Head t ∷ []) (told_from head false (moved p t Top Outside) (drop n (kept ++ more)))) (take-append-le n kept more le)
    ∙ ap (λ (r : List ℕ). after (Head (take n kept) ∷ []) (told_from head false (moved p (take n kept) Top Outside) r)) (drop-append-le n kept more le)
