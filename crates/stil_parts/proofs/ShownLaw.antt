-- What shows something in a Pattern, by tokens.
use Rattle.std.proofs.Common.{◌≡◌, ℕ, Bool, false, ◌||◌, List, length, Option, Some, None, refl, sym, ap, ◌∙◌, inl, inr}
use Rattle.std.specs.Prelude.{nat_lt, is_some}
use Rattle.std.proofs.lemmas.Bool.{cases_Bool}
use Rattle.stil_parts.specs.declared.gap.Place.{Place}
use Rattle.stil_parts.specs.declared.gap.Place.TheVariants.{Pattern}
use Rattle.stil_parts.specs.declared.gap.Point.{Point}
use Rattle.stil_parts.specs.declared.scan.Found.{Found}
use Rattle.stil_parts.specs.declared.part.Part.{Part}
use Rattle.stil_parts.specs.Scanner.{end_of}
use Rattle.stil_parts.specs.Gaps.{gap_at}
use Rattle.stil_parts.specs.Parts.{begin, parted, part_at}
use Rattle.stil_tokens.specs.StilTokens.{tokens_in}
use Rattle.stil_parts.specs.Ending.{statement_end, end_place}
use Rattle.stil_parts.specs.Coming.{Judge, largest, turn_in}
use Rattle.stil_parts.specs.declared.word.Word.TheVariants.{Known}
use Rattle.stil_parts.specs.Laws.{ShownLaw}
use Rattle.stil_parts.proofs.EndLaw.{end_law}
use Rattle.stil_parts.proofs.Turns.{turn-gap, turn-none}

-- of a part
shown-in : (judge : Judge) (p : Point) (line : ℕ) (kept : List ℕ) (o : Option Found) → is_some (turn_in judge false p kept (parted (Pattern line) o)) ≡ (is_some (end_place o) || nat_lt largest (length kept))
shown-in judge p line kept (Some f) = refl
shown-in judge p line kept None = elim (cases_Bool (nat_lt largest (length kept))) [ inl e ↦ rw e refl | inr e ↦ rw e refl ]

part-is : (line : ℕ) (kept : List ℕ) → part_at false (Pattern line) kept ≡ parted (Pattern line) (end_of false (begin (Known false)) kept)
unfolding part_at
part-is line kept = refl

pub shown_law : ShownLaw
shown_law judge p line kept e = elim (cases_Bool (nat_lt 0 (gap_at p.place p.comment kept).len)) [
  | inl g ↦ (ap is_some (turn-gap judge false p kept g) ∙ sym (ap (λ (b : Bool). b || (is_some (statement_end 0 (tokens_in kept)) || nat_lt largest (length kept))) g))
  | inr g ↦ (
      let part = ap (λ (place : Place). part_at false place kept) e ∙ part-is line kept in
      let tokens = ap (λ (o : Option ℕ). is_some o || nat_lt largest (length kept)) (end_law false kept) in
      ap is_some (turn-none judge false p kept g) ∙ ap (λ (o : Option Part). is_some (turn_in judge false p kept o)) part ∙ shown-in judge p line kept (end_of false (begin (Known false)) kept) ∙ tokens
      ∙ sym (ap (λ (b : Bool). b || (is_some (statement_end 0 (tokens_in kept)) || nat_lt largest (length kept))) g))
]
