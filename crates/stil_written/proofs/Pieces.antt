-- What is written piece by piece.
use Rattle.std.proofs.Common.{◌≡◌, ℕ, List, [], ◌∷◌, ◌++◌, map, Option, Some, None, refl, sym, ap, ◌∙◌, append_assoc}
use Rattle.std.proofs.lemmas.List.{append-nil}
use Rattle.std.proofs.lemmas.Grind.{flat_map-append}
use Rattle.stil_reader.specs.Sayings.{Saying, GapByte, Told, after, named}
use Rattle.stil_written.specs.Written.{Form, written_saying, written_says, IsWrittenTo}
use Rattle.stil_written.specs.Laws.{PiecesLaw}

goes_on : (form : Form) (whole rest : Told) (done : List ℕ) (says : List Saying) → IsWrittenTo form whole done (after says rest) → IsWrittenTo form whole (done ++ written_says form says) rest
goes_on form whole rest done says w = record {
  same = w.same ∙ ap (λ (l : List ℕ). done ++ l) (flat_map-append (written_saying form) says rest.says) ∙ sym (append_assoc done (written_says form says) (written_says form rest.says));
  fault = w.fault;
}

gap_is : (form : Form) (text : List ℕ) (name : Option (List ℕ)) → written_says form (map GapByte text ++ named name) ≡ text
gap_is form [] None = refl
gap_is form [] (Some name) = refl
gap_is form (b ∷ bs) name = ap (λ (l : List ℕ). b ∷ l) (gap_is form bs name)

pub pieces_law : PiecesLaw
pieces_law = record {
  begins = λ form whole. record { same = refl; fault = refl };
  goes = goes_on;
  prefix = λ form whole rest done w. (written_says form rest.says, w.same);
  ends = λ form whole done w. (sym (w.same ∙ append-nil done), w.fault);
  stops = λ form whole done f w. (sym (w.same ∙ append-nil done), w.fault);
  gap = gap_is;
  statement = λ form s. append-nil (form.statement s);
  head = λ form text. append-nil (form.head text);
}
