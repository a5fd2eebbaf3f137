-- One piece of the patterns, from what was decided of the bytes.
use Rattle.std.proofs.Common.{◌≡◌, ℕ, ◌-◌, true, false, List, [], ◌++◌, take, drop, map, Option, Some, None, refl, sym, ap, subst, ◌∙◌, arith}
use Rattle.std.specs.List.{flat_map}
use Rattle.std.proofs.lemmas.List.{append-nil}
use Rattle.std.specs.Prelude.{Err}
use Rattle.base_types.specs.FirstFault.{IfFault, IsFirstFault}
use Rattle.base_types.specs.declared.fault.Fault.{Fault}
use Rattle.base_types.specs.declared.fault.ReadFault.{ReadFault}
use Rattle.base_types.specs.declared.fault.ReadFault.TheVariants as faults
use Rattle.stil_types.specs.declared.head.StilHead.{StilHead}
use Rattle.stil_types.specs.declared.statement.PatternStatement.{PatternStatement}
use Rattle.stil_types.specs.Statements.{IsPlaced}
use Rattle.stil_parts.specs.declared.gap.Place.{Place}
use Rattle.stil_parts.specs.declared.gap.Place.TheVariants.{Top}
use Rattle.stil_parts.specs.declared.gap.Point.{Point}
use Rattle.stil_parts.specs.declared.part.Part.{Part}
use Rattle.stil_parts.specs.declared.part.Part.TheVariants.{Passes, Opens, Whole}
use Rattle.stil_parts.specs.declared.part.PartFault.{PartFault}
use Rattle.stil_parts.specs.declared.scan.Scan.{Scan}
use Rattle.stil_parts.specs.Scanner.{run}
use Rattle.stil_parts.specs.Parts.{word_at, begin_at, part_len}
use Rattle.stil_parts.specs.Resuming.{Resumes}
use Rattle.stil_parts.proofs.PartStable.{nothing-in-nothing}
use Rattle.stil_parts.specs.Coming.{Event, Byte, Coming, before, ending, part_events, to_come}
use Rattle.stil_parts.specs.Deciding.{Takes, IsPart, IsStopped, IsAtEnd, verdict}
use Rattle.stil_calls.specs.declared.judging.Judging.{Judging}
use Rattle.stil_calls.specs.Faults.{fault_by}
use Rattle.stil_calls.specs.Parts.{judge_by}
use Rattle.stil_calls.specs.Statements.{DenotesBy, HoldsBy, AreAcceptedBy, IsFaultOf}
use Rattle.stil_reader.specs.declared.step.Piece.{Piece}
use Rattle.stil_reader.specs.declared.step.Piece.TheVariants as pieces
use Rattle.stil_reader.specs.Sayings.{Saying, GapByte, Told, after, name_in, named, said, told, told_by}
use Rattle.stil_reader.specs.Reading.{IsRead, Steps, IsDone}
use Rattle.stil_reader.proofs.Said.{told-on, said-bytes, said-part, said-statement, text-is}

-- a scan at the beginning of a part
pub resumes-begin : (place : Place) (bytes : List ℕ) (s : Scan) → s ≡ begin_at place → Resumes place bytes 0 s
unfolding run
resumes-begin place bytes s e = record {
  within = omega arith;
  none = nothing-in-nothing false (word_at place);
  ran = sym e;
  shallow = let k : s.depth ≡ 0 = ap (λ (t : Scan). t.depth) e in omega arith;
}

-- what is read of a part
module _ (judging : Judging) (head : StilHead) (p : Point) (text : List ℕ) where
  judge-whole : (n : ℕ) → judge_by judging head p (Whole n) text ≡ fault_by judging head p.line text
  unfolding judge_by
  judge-whole n = refl

  pub statement-read : (n pattern : ℕ) (s : PatternStatement) → pattern ≡ p.opened - 1 → DenotesBy judging head pattern p.line text s → AreAcceptedBy judging head s → IsPlaced s
      → IsRead judging head p (Whole n) text (pieces.Statement s)
  statement-read n pattern s number d accepted placed =
      let here = subst (λ (m : ℕ). DenotesBy judging head m p.line text s) number d in
      record {
        sound = judge-whole n ∙ here.sound;
        is_piece = record { text_is = text-is head (p.opened - 1) p.line text _ s here.is; accepted = accepted; placed = placed };
        says = said-statement head p text s here.is;
      }

  statement-fault : (n : ℕ) (fault : Fault) → HoldsBy judging head p.line text fault → IsFaultOf (judge_by judging head p (Whole n) text) fault
  statement-fault n fault h = (h.0, judge-whole n ∙ h.1, h.2)

  pub fault-read : (X Y : Type 0) (n : ℕ) (part : Part) (answer : ReadFault) → part ≡ Whole n → IfFault {X = X} (Err answer) (IsFirstFault (HoldsBy judging head p.line text))
      → IfFault {X = Y} (Err answer) (λ fault. IsFaultOf (judge_by judging head p part text) fault)
  fault-read X Y n part (faults.Fault fault) e first = subst (λ (x : Part). IsFaultOf (judge_by judging head p x text) fault) (sym e) (statement-fault n fault first.holds)
  fault-read X Y n part faults.NoMemory e first = tt

  pub gap-read : (part : Part) (name : Option (List ℕ)) → ((n : ℕ) → part ≡ Whole n → ⊥) → judge_by judging head p part text ≡ None → name ≡ name_in part text
      → IsRead judging head p part text (pieces.Gap name)
  gap-read part name other sound e = record {
    sound = sound;
    is_piece = tt;
    says = said-part head p part text other ∙ ap (λ (o : Option (List ℕ)). map GapByte text ++ named o) (sym e);
  }

-- a part that opens no Pattern has no name
pub none-named : (part : Part) (text : List ℕ) → ((n : ℕ) → part ≡ Whole n → ⊥) → ((n : ℕ) → part ≡ Opens n → ⊥) → None ≡ name_in part text
none-named (Passes n) text whole opens = refl
none-named (Opens n) text whole opens = absurd (opens n refl)
none-named (Whole n) text whole opens = absurd (whole n refl)

-- the next piece
module _ (judging : Judging) (head : StilHead) (p : Point) (rest : List ℕ) where
  comes-whole : (c : Coming) → to_come (judge_by judging head) p 0 (rest ++ []) ≡ c → told_by judging head p rest ≡ told head c
  comes-whole c e = ap (told_by judging head p) (sym (append-nil rest)) ∙ ap (told head) e

  told-as : (es : List Event) (says : List Saying) (n : ℕ) (q : Point) → flat_map (said head) es ≡ says
      → to_come (judge_by judging head) p 0 (rest ++ []) ≡ before es (to_come (judge_by judging head) q 0 (drop n rest ++ []))
      → told_by judging head p rest ≡ after says (told_by judging head q (drop n rest))
  told-as es says n q e c =
      comes-whole _ c ∙ told-on head es (to_come (judge_by judging head) q 0 (drop n rest ++ []))
      ∙ ap (λ (xs : List Saying). after xs (told_by judging head q (drop n rest ++ []))) e ∙ ap (λ (r : List ℕ). after says (told_by judging head q r)) (append-nil (drop n rest))

  pub gap-step : (n : ℕ) (q : Point) → Takes (judge_by judging head) true p rest n (map Byte (take n rest)) q → Steps judging head p rest (record { len = n; piece = pieces.Gap None; point = q })
  gap-step n q t = record {
    some = t.some;
    within = t.within;
    early = t.early;
    is_piece = tt;
    comes = told-as (map Byte (take n rest)) _ n q (said-bytes head (take n rest) ∙ sym (append-nil (map GapByte (take n rest)))) (t.comes [] refl);
  }

  by-part : (part : Part) (q : Point) (piece : Piece) → IsPart (judge_by judging head) true p rest part q → IsRead judging head p part (take (part_len part) rest) piece
      → Steps judging head p rest (record { len = part_len part; piece = piece; point = q })
  by-part part q piece is r =
      let n = part_len part in
      let es = part_events p part (take n rest) in
      record {
        some = is.some;
        within = is.within;
        early = is.early;
        is_piece = r.is_piece;
        comes = told-as es _ n q r.says (is.comes [] refl ∙ ap (λ (o : Option PartFault). verdict o (before es (to_come (judge_by judging head) q 0 (drop n rest ++ [])))) r.sound);
      }

  pub part-step : (part : Part) (q : Point) (piece : Piece) (n : ℕ) → n ≡ part_len part → IsPart (judge_by judging head) true p rest part q → IsRead judging head p part (take n rest) piece
      → Steps judging head p rest (record { len = n; piece = piece; point = q })
  part-step part q piece n e is r =
      subst (λ (m : ℕ). Steps judging head p rest (record { len = m; piece = piece; point = q })) (sym e)
      (by-part part q piece is (subst (λ (m : ℕ). IsRead judging head p part (take m rest) piece) e r))

  pub stop-fault : (f : PartFault) → IsStopped (judge_by judging head) true p rest f → (told_by judging head p rest).fault ≡ Some f
  stop-fault f s = ap (λ (t : Told). t.fault) (comes-whole _ (s.comes [] refl))

  pub stop-nothing : (f : PartFault) → IsStopped (judge_by judging head) true p rest f → (told_by judging head p rest).says ≡ []
  stop-nothing f s = ap (λ (t : Told). t.says) (comes-whole _ (s.comes [] refl))

  pub part-fault : (part : Part) (q : Point) (n : ℕ) (fault : Fault) → n ≡ part_len part → IsPart (judge_by judging head) true p rest part q → IsFaultOf (judge_by judging head p part (take n rest)) fault
      → IsFaultOf (told_by judging head p rest).fault fault
  part-fault part q n fault e is h =
      let es = part_events p part (take (part_len part) rest) in
      let found : judge_by judging head p part (take (part_len part) rest) ≡ Some h.0 = ap (λ (m : ℕ). judge_by judging head p part (take m rest)) (sym e) ∙ h.1 in
      (h.0, ap (λ (t : Told). t.fault) (comes-whole _ (is.comes [] refl ∙ ap (λ (o : Option PartFault). verdict o (before es (to_come (judge_by judging head) q 0 (drop (part_len part) rest ++ [])))) found)), h.2)

  pub part-nothing : (part : Part) (q : Point) (n : ℕ) (fault : Fault) → n ≡ part_len part → IsPart (judge_by judging head) true p rest part q → IsFaultOf (judge_by judging head p part (take n rest)) fault
      → (told_by judging head p rest).says ≡ []
  part-nothing part q n fault e is h =
      let es = part_events p part (take (part_len part) rest) in
      let found : judge_by judging head p part (take (part_len part) rest) ≡ Some h.0 = ap (λ (m : ℕ). judge_by judging head p part (take m rest)) (sym e) ∙ h.1 in
      ap (λ (t : Told). t.says) (comes-whole _ (is.comes [] refl ∙ ap (λ (o : Option PartFault). verdict o (before es (to_come (judge_by judging head) q 0 (drop (part_len part) rest ++ [])))) found))

  at-end : (place : Place) → place ≡ Top → told head (ending place) ≡ record { says = []; fault = None }
  at-end place e = ap (λ (x : Place). told head (ending x)) e

  nothing-comes : told_by judging head p [] ≡ told head (ending p.place)
  unfolding to_come
  nothing-comes = refl

  pub is-done : IsAtEnd true p rest → IsDone judging head p rest
  is-done end = record {
    nothing_left = end.nothing_left;
    comes = ap (told_by judging head p) end.nothing_left ∙ nothing-comes ∙ at-end p.place end.at_top;
  }
