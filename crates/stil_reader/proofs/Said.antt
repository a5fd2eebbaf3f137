-- What a text says, by what comes of it; and a statement that bytes denote has these bytes.
use Rattle.std.proofs.Common.{◌≡◌, ℕ, List, [], ◌∷◌, ◌++◌, map, Option, Some, refl, sym, ap, ◌∙◌}
use Rattle.std.specs.List.{flat_map}
use Rattle.std.proofs.lemmas.List.{append-nil}
use Rattle.std.proofs.lemmas.Grind.{flat_map-append}
use Rattle.stil_types.specs.declared.head.StilHead.{StilHead}
use Rattle.stil_types.specs.declared.statement.PatternStatement.{PatternStatement}
use Rattle.stil_parts.specs.declared.gap.Point.{Point}
use Rattle.stil_parts.specs.declared.part.Part.{Part}
use Rattle.stil_parts.specs.declared.part.Part.TheVariants.{Passes, Opens, Whole}
use Rattle.stil_parts.specs.Coming.{Event, Byte, Opened, Statement, Coming, before, part_events}
use Rattle.stil_syntax.specs.declared.shape.Shape.{Shape}
use Rattle.stil_syntax.specs.declared.shape.Shape.TheVariants.{NoForm, Unsupported, Other, Scan, Loop}
use Rattle.stil_calls.specs.Parts.{opened_in}
use Rattle.stil_calls.specs.Statements.{statement_of}
use Rattle.stil_reader.specs.Sayings.{Saying, GapByte, Stated, after, name_in, named, stated, statement_at, said, told, text_of}

pub told-on : (head : StilHead) (es : List Event) (c : Coming) → told head (before es c) ≡ after (flat_map (said head) es) (told head c)
told-on head es c = ap (λ (xs : List Saying). record { says = xs; fault = c.fault }) (flat_map-append (said head) es c.events)

pub said-bytes : (head : StilHead) (text : List ℕ) → flat_map (said head) (map Byte text) ≡ map GapByte text
said-bytes head [] = refl
said-bytes head (b ∷ bs) = ap (λ (xs : List Saying). GapByte b ∷ xs) (said-bytes head bs)

pub said-part : (head : StilHead) (p : Point) (part : Part) (text : List ℕ) → ((n : ℕ) → part ≡ Whole n → ⊥) → flat_map (said head) (part_events p part text) ≡ map GapByte text ++ named (name_in part text)
said-part head p (Passes n) text other = said-bytes head text ∙ sym (append-nil (map GapByte text))
said-part head p (Opens n) text other =
    flat_map-append (said head) (map Byte text) (Opened text p ∷ []) ∙ ap (λ (xs : List Saying). xs ++ (named (opened_in text) ++ [])) (said-bytes head text)
    ∙ ap (λ (xs : List Saying). map GapByte text ++ xs) (append-nil (named (opened_in text)))
said-part head p (Whole n) text other = absurd (other n refl)

pub said-statement : (head : StilHead) (p : Point) (text : List ℕ) (s : PatternStatement) → statement_at head p text ≡ Some s → flat_map (said head) (Statement text p ∷ []) ≡ Stated s ∷ []
said-statement head p text s e = ap (λ (o : Option PatternStatement). stated o ++ []) e

same-text : (a s : PatternStatement) → Some a ≡ Some s → text_of s ≡ text_of a
same-text a s e = let k : a ≡ s = cc in ap text_of (sym k)

pub text-is : (head : StilHead) (pattern line : ℕ) (text : List ℕ) (shape : Shape) (s : PatternStatement) → statement_of head pattern line text shape ≡ Some s → text_of s ≡ text
text-is head pattern line text NoForm s e = absurd (cc)
text-is head pattern line text Unsupported s e = absurd (cc)
text-is head pattern line text Other s e = same-text _ s e
text-is head pattern line text (Scan items) s e = same-text _ s e
text-is head pattern line text (Loop times body) s e = same-text _ s e
