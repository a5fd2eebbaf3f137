-- What is read of the patterns piece by piece is what the text says behind its head.
use Rattle.std.proofs.Common.{◌≡◌, ℕ, ◌+◌, ◌≤◌, List, [], ◌∷◌, ◌++◌, length, length-append, length-drop, take, drop, map, Option, Some, None, refl, sym, ap, subst, ◌∙◌, arith, append_assoc}
use Rattle.std.proofs.lemmas.List.{append-nil, take-append-drop}
use Rattle.std.proofs.lemmas.List.Elements.{All-nil, All-push}
use Rattle.base_types.specs.declared.fault.Fault.{Fault}
use Rattle.stil_types.specs.declared.head.StilHead.{StilHead}
use Rattle.stil_types.specs.declared.statement.PatternStatement.{PatternStatement}
use Rattle.stil_types.specs.Statements.{IsPlaced}
use Rattle.stil_parts.specs.declared.gap.Point.{Point}
use Rattle.stil_parts.specs.Coming.{IsEarly}
use Rattle.stil_calls.specs.declared.judging.Judging.{Judging}
use Rattle.stil_calls.specs.Statements.{AreAcceptedBy, IsFaultOf}
use Rattle.stil_reader.specs.declared.stil.Judged.{Judged}
use Rattle.stil_reader.specs.declared.step.Piece.{Piece}
use Rattle.stil_reader.specs.declared.step.Piece.TheVariants as pieces
use Rattle.stil_reader.specs.declared.step.Step.{Step}
use Rattle.stil_reader.specs.Sayings.{Saying, GapByte, Stated, Told, after, named, told_by, text_of}
use Rattle.stil_reader.specs.Patterns.{names_in, statements_in, gaps_from, pieces_of, behind_head, HoldsBehind}
use Rattle.stil_reader.specs.Reading.{Progress, begun, named_one, with_piece, finished, piece_says, IsPiece, Steps, IsDone, IsSoFar, IsReadBy}

-- bytes of a gap in front
pub names-bytes : (text : List ℕ) (says : List Saying) → names_in (map GapByte text ++ says) ≡ names_in says
names-bytes [] says = refl
names-bytes (b ∷ bs) says = names-bytes bs says

pub statements-bytes : (text : List ℕ) (says : List Saying) → statements_in (map GapByte text ++ says) ≡ statements_in says
statements-bytes [] says = refl
statements-bytes (b ∷ bs) says = statements-bytes bs says

gaps-bytes : (gap text : List ℕ) (says : List Saying) → gaps_from gap (map GapByte text ++ says) ≡ gaps_from (gap ++ text) says
gaps-bytes gap [] says = ap (λ (g : List ℕ). gaps_from g says) (sym (append-nil gap))
gaps-bytes gap (b ∷ bs) says = gaps-bytes (gap ++ b ∷ []) bs says ∙ ap (λ (g : List ℕ). gaps_from g says) (append_assoc gap (b ∷ []) bs)

-- and a name behind them
pub names-named : (name : Option (List ℕ)) (says : List Saying) → names_in (named name ++ says) ≡ named_one name ++ names_in says
names-named None says = refl
names-named (Some name) says = refl

pub statements-named : (name : Option (List ℕ)) (says : List Saying) → statements_in (named name ++ says) ≡ statements_in says
statements-named None says = refl
statements-named (Some name) says = refl

gaps-named : (gap : List ℕ) (name : Option (List ℕ)) (says : List Saying) → gaps_from gap (named name ++ says) ≡ gaps_from gap says
gaps-named gap None says = refl
gaps-named gap (Some name) says = refl

pub split : (text : List ℕ) (name : Option (List ℕ)) (says : List Saying) → (map GapByte text ++ named name) ++ says ≡ map GapByte text ++ (named name ++ says)
split text name says = append_assoc (map GapByte text) (named name) says

-- a statement more between the pieces
pieces-on : (gaps : List (List ℕ)) (ss : List PatternStatement) (gap x : List ℕ) (s : PatternStatement) → length gaps ≡ length ss
    → pieces_of ((gaps ++ gap ∷ []) ++ x ∷ []) (ss ++ s ∷ []) ≡ pieces_of (gaps ++ (gap ++ (text_of s ++ x)) ∷ []) ss
pieces-on [] [] gap x s e = refl
pieces-on [] (r ∷ ss) gap x s e = absurd (omega arith)
pieces-on (g ∷ gaps) [] gap x s e = absurd (omega arith)
pieces-on (g ∷ gaps) (r ∷ ss) gap x s e = ap (λ (y : List ℕ). g ++ (text_of r ++ y)) (pieces-on gaps ss gap x s (omega arith))

module _ (judging : Judging) (head : StilHead) (bytes : List ℕ) where
  pub so-far-begun : (p : Point) → p ≡ behind_head head bytes → IsEarly p → IsSoFar judging head bytes (begun p) (drop head.end bytes)
  so-far-begun p e early = subst (λ (q : Point). IsSoFar judging head bytes (begun q) (drop head.end bytes)) (sym e) (record {
    early = subst IsEarly e early;
    within = omega (arith, length-drop head.end bytes);
    fault = refl;
    patterns = refl;
    statements = refl;
    gaps = refl;
    count = refl;
    pieces = refl;
    accepted = All-nil (AreAcceptedBy judging head);
    placed = All-nil IsPlaced;
  })

  module _ (r : Progress) (rest : List ℕ) (h : IsSoFar judging head bytes r rest) where
    shorter : (text later : List ℕ) → rest ≡ text ++ later → length later ≤ length bytes
    shorter text later e = omega (arith, h.within, ap length e, length-append text later)

    -- a gap
    gap-on : (text later : List ℕ) (name : Option (List ℕ)) (q : Point) → IsEarly q → rest ≡ text ++ later
        → told_by judging head r.point rest ≡ after (map GapByte text ++ named name) (told_by judging head q later) → IsSoFar judging head bytes (with_piece text (pieces.Gap name) q r) later
    gap-on text later name q early e comes =
        let says = (told_by judging head q later).says in
        let told : (told_by judging head r.point rest).says ≡ map GapByte text ++ (named name ++ says) = ap (λ (t : Told). t.says) comes ∙ split text name says in
        record {
          early = early;
          within = shorter text later e;
          fault = h.fault ∙ ap (λ (t : Told). t.fault) comes;
          patterns = h.patterns ∙ ap (λ (xs : List Saying). r.patterns ++ names_in xs) told ∙ ap (λ (xs : List (List ℕ)). r.patterns ++ xs) (names-bytes text (named name ++ says) ∙ names-named name says)
              ∙ sym (append_assoc r.patterns (named_one name) (names_in says));
          statements = h.statements ∙ ap (λ (xs : List Saying). r.statements ++ statements_in xs) told
              ∙ ap (λ (xs : List PatternStatement). r.statements ++ xs) (statements-bytes text (named name ++ says) ∙ statements-named name says);
          gaps = h.gaps ∙ ap (λ (xs : List Saying). r.gaps ++ gaps_from r.gap xs) told
              ∙ ap (λ (xs : List (List ℕ)). r.gaps ++ xs) (gaps-bytes r.gap text (named name ++ says) ∙ gaps-named (r.gap ++ text) name says);
          count = h.count;
          pieces = ap (λ (x : List ℕ). pieces_of (r.gaps ++ x ∷ []) r.statements) (append_assoc r.gap text later ∙ ap (λ (x : List ℕ). r.gap ++ x) (sym e)) ∙ h.pieces;
          accepted = h.accepted;
          placed = h.placed;
        }

    -- a statement
    statement-on : (text later : List ℕ) (s : PatternStatement) (q : Point) → IsEarly q → rest ≡ text ++ later → IsPiece judging head text (pieces.Statement s)
        → told_by judging head r.point rest ≡ after (Stated s ∷ []) (told_by judging head q later) → IsSoFar judging head bytes (with_piece text (pieces.Statement s) q r) later
    statement-on text later s q early e is comes =
        let says = (told_by judging head q later).says in
        let told : (told_by judging head r.point rest).says ≡ Stated s ∷ says = ap (λ (t : Told). t.says) comes in
        record {
          early = early;
          within = shorter text later e;
          fault = h.fault ∙ ap (λ (t : Told). t.fault) comes;
          patterns = h.patterns ∙ ap (λ (xs : List Saying). r.patterns ++ names_in xs) told;
          statements = h.statements ∙ ap (λ (xs : List Saying). r.statements ++ statements_in xs) told ∙ sym (append_assoc r.statements (s ∷ []) (statements_in says));
          gaps = h.gaps ∙ ap (λ (xs : List Saying). r.gaps ++ gaps_from r.gap xs) told ∙ sym (append_assoc r.gaps (r.gap ∷ []) (gaps_from [] says));
          count = length-append r.gaps (r.gap ∷ []) ∙ ap (λ (n : ℕ). n + 1) h.count ∙ sym (length-append r.statements (s ∷ []));
          pieces = pieces-on r.gaps r.statements r.gap later s h.count
              ∙ ap (λ (x : List ℕ). pieces_of (r.gaps ++ (r.gap ++ x) ∷ []) r.statements) (ap (λ (x : List ℕ). x ++ later) is.text_is ∙ sym e) ∙ h.pieces;
          accepted = All-push (AreAcceptedBy judging head) r.statements s h.accepted is.accepted;
          placed = All-push IsPlaced r.statements s h.placed is.placed;
        }

    piece-on : (text later : List ℕ) (piece : Piece) (q : Point) → IsEarly q → rest ≡ text ++ later → IsPiece judging head text piece
        → told_by judging head r.point rest ≡ after (piece_says text piece) (told_by judging head q later) → IsSoFar judging head bytes (with_piece text piece q r) later
    piece-on text later (pieces.Gap name) q early e is comes = gap-on text later name q early e comes
    piece-on text later (pieces.Statement s) q early e is comes = statement-on text later s q early e is comes

    pub so-far-on : (step : Step) → Steps judging head r.point rest step → (text later : List ℕ) (new : Progress) → text ≡ take step.len rest → later ≡ drop step.len rest
        → new ≡ with_piece text step.piece step.point r → IsSoFar judging head bytes new later
    so-far-on step s text later new front behind e =
        let here = piece-on (take step.len rest) (drop step.len rest) step.piece step.point s.early (sym (take-append-drop step.len rest)) s.is_piece s.comes in
        subst (λ (n : Progress). IsSoFar judging head bytes n later) (sym e)
        (subst (λ (x : List ℕ). IsSoFar judging head bytes (with_piece x step.piece step.point r) later) (sym front)
        (subst (λ (x : List ℕ). IsSoFar judging head bytes (with_piece (take step.len rest) step.piece step.point r) x) (sym behind) here))

    -- at the end
    pub so-far-done : IsDone judging head r.point rest → (judged : Judged) → judged ≡ finished head r → IsReadBy judging bytes head judged
    so-far-done done judged e =
        let none : (told_by judging head r.point rest).says ≡ [] = ap (λ (t : Told). t.says) done.comes in
        subst (IsReadBy judging bytes head) (sym e) (record {
          says = record {
            head_is = refl;
            sound = h.fault ∙ ap (λ (t : Told). t.fault) done.comes;
            patterns = sym (h.patterns ∙ ap (λ (xs : List Saying). r.patterns ++ names_in xs) none ∙ append-nil r.patterns);
            statements = sym (h.statements ∙ ap (λ (xs : List Saying). r.statements ++ statements_in xs) none ∙ append-nil r.statements);
          };
          gaps = sym (h.gaps ∙ ap (λ (xs : List Saying). r.gaps ++ gaps_from r.gap xs) none);
          count = length-append r.gaps (r.gap ∷ []) ∙ ap (λ (n : ℕ). n + 1) h.count;
          pieces = ap (λ (x : List ℕ). pieces_of (r.gaps ++ x ∷ []) r.statements) (sym (append-nil r.gap) ∙ ap (λ (x : List ℕ). r.gap ++ x) (sym done.nothing_left)) ∙ h.pieces;
          accepted = h.accepted;
          placed = h.placed;
        })

    -- or at a fault
    pub so-far-fault : (fault : Fault) → IsFaultOf (told_by judging head r.point rest).fault fault → HoldsBehind judging bytes head fault
    so-far-fault fault f = (f.0, h.fault ∙ f.1, f.2)
