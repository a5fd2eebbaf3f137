-- What is left of the patterns behind each piece.
use Rattle.std.proofs.Common.{◌≡◌, ℕ, ◌<◌, ◌^◌, List, [], ◌∷◌, ◌++◌, length, length-drop, take, drop, map, Option, Some, None, Err, refl, sym, ap, subst, ◌∙◌, arith}
use Rattle.std.proofs.lemmas.List.{length-take-le}
use Rattle.base_types.specs.declared.fault.Fault.{Fault}
use Rattle.base_types.specs.declared.fault.ReadFault.{ReadFault}
use Rattle.base_types.specs.declared.fault.ReadFault.TheVariants as faults
use Rattle.base_types.specs.FirstFault.{IfFault}
use Rattle.stil_types.specs.declared.head.StilHead.{StilHead}
use Rattle.stil_parts.specs.declared.gap.Point.{Point}
use Rattle.stil_parts.specs.Coming.{IsEarly}
use Rattle.stil_calls.specs.declared.judging.Judging.TheVariants.{Lengths}
use Rattle.stil_calls.specs.Statements.{IsFaultOf}
use Rattle.stil_reader.specs.declared.cursor.PatternItem.{PatternItem}
use Rattle.stil_reader.specs.declared.cursor.Taken.{Taken}
use Rattle.stil_reader.specs.declared.step.Piece.{Piece}
use Rattle.stil_reader.specs.declared.step.Piece.TheVariants.{Gap, Statement}
use Rattle.stil_reader.specs.declared.step.Step.{Step}
use Rattle.stil_reader.specs.Sayings.{GapByte, Told, after, named, told_behind}
use Rattle.stil_reader.specs.Sayings.{Stated as SaidStatement}
use Rattle.stil_reader.specs.Patterns.{names_in, statements_in}
use Rattle.stil_reader.specs.Reading.{piece_says, IsPiece, Steps, IsDone}
use Rattle.stil_reader.specs.Cursors.{Ahead, ahead_from, with_item, item_of, IsAtEnd, IsAtFault, IsReadableItem, Leaves, ComesFirst}
use Rattle.stil_reader.proofs.SoFar.{names-bytes, statements-bytes, split}

-- what is left where an item comes first, if one does
abbrev with_items : Option PatternItem → Ahead → Ahead
with_items None rest = rest
with_items (Some item) rest = with_item item rest

module _ (head : StilHead) where
  gap-ahead : (p q : Point) (rest text later : List ℕ) (name : Option (List ℕ)) → told_behind head p rest ≡ after (map GapByte text ++ named name) (told_behind head q later)
      → ahead_from head p rest ≡ with_items (item_of (Gap name)) (ahead_from head q later)
  gap-ahead p q rest text later None e =
      let says = (told_behind head q later).says in
      let told : (told_behind head p rest).says ≡ map GapByte text ++ (named None ++ says) = ap (λ (t : Told). t.says) e ∙ split text None says in
      let names = ap names_in told ∙ names-bytes text says in
      let statements = ap statements_in told ∙ statements-bytes text says in
      let fault = ap (λ (t : Told). t.fault) e in
      λ i. record { head = head; names = names i; statements = statements i; fault = fault i }
  gap-ahead p q rest text later (Some name) e =
      let says = (told_behind head q later).says in
      let told : (told_behind head p rest).says ≡ map GapByte text ++ (named (Some name) ++ says) = ap (λ (t : Told). t.says) e ∙ split text (Some name) says in
      let names = ap names_in told ∙ names-bytes text (named (Some name) ++ says) in
      let statements = ap statements_in told ∙ statements-bytes text (named (Some name) ++ says) in
      let fault = ap (λ (t : Told). t.fault) e in
      λ i. record { head = head; names = names i; statements = statements i; fault = fault i }

  piece-ahead : (p q : Point) (rest text later : List ℕ) (piece : Piece) → told_behind head p rest ≡ after (piece_says text piece) (told_behind head q later)
      → ahead_from head p rest ≡ with_items (item_of piece) (ahead_from head q later)
  piece-ahead p q rest text later (Gap name) e = gap-ahead p q rest text later name e
  piece-ahead p q rest text later (Statement s) e =
      let told : (told_behind head p rest).says ≡ SaidStatement s ∷ (told_behind head q later).says = ap (λ (t : Told). t.says) e in
      let names = ap names_in told in
      let statements = ap statements_in told in
      let fault = ap (λ (t : Told). t.fault) e in
      λ i. record { head = head; names = names i; statements = statements i; fault = fault i }

  readable : (text : List ℕ) (piece : Piece) → length text < 2 ^ 32 → IsPiece Lengths head text piece → IsReadableItem head (item_of piece)
  readable text (Gap None) small is = tt
  readable text (Gap (Some name)) small is = tt
  readable text (Statement s) small is = record { accepted = is.accepted; placed = is.placed; small = let e = ap length is.text_is in omega (arith, e, small) }

  module _ (p : Point) (rest : List ℕ) (small : length rest < 2 ^ 32) (q : Point) (left : List ℕ) (l : Leaves head p rest q left) where
    left-on : (step : Step) → Steps Lengths head q left step → (o : Option PatternItem) → item_of step.piece ≡ o → (later : List ℕ) → later ≡ drop step.len left
        → ahead_from head p rest ≡ with_items o (ahead_from head step.point later)
    left-on step s o e later behind =
        l.same ∙ piece-ahead q step.point left (take step.len left) (drop step.len left) step.piece s.comes ∙ ap (λ (x : Option PatternItem). with_items x (ahead_from head step.point (drop step.len left))) e
        ∙ ap (λ (x : List ℕ). with_items o (ahead_from head step.point x)) (sym behind)

    pub leaves-on : (step : Step) → Steps Lengths head q left step → item_of step.piece ≡ None → (later : List ℕ) → later ≡ drop step.len left → Leaves head p rest step.point later
    leaves-on step s e later behind = record {
      early = s.early;
      within = let size = ap length behind in let le = l.within in omega (arith, size, le, length-drop step.len left);
      same = left-on step s None e later behind;
    }

    pub leaves-item : (step : Step) → Steps Lengths head q left step → (taken : Taken) → item_of step.piece ≡ Some taken.item → taken.point ≡ step.point → taken.rest.now ≡ drop step.len left
        → ComesFirst head (ahead_from head p rest) taken
    leaves-item step s taken e point behind =
        let le = l.within in
        let size = ap length behind in
        let few = length-take-le step.len left s.within in
        let within = s.within in
        record {
          is = left-on step s (Some taken.item) e taken.rest.now behind ∙ ap (λ (x : Point). with_item taken.item (ahead_from head x taken.rest.now)) (sym point);
          readable = subst (IsReadableItem head) e (readable (take step.len left) step.piece (omega (arith, few, within, le, small)) s.is_piece);
          early = subst IsEarly (sym point) s.early;
          within = omega (arith, size, le, small, length-drop step.len left);
        }

    pub leaves-end : IsDone Lengths head q left → IsAtEnd (ahead_from head p rest)
    leaves-end done = subst IsAtEnd (sym l.same) (record {
      nothing = record { no_names = ap (λ (t : Told). names_in t.says) done.comes; no_statements = ap (λ (t : Told). statements_in t.says) done.comes };
      sound = ap (λ (t : Told). t.fault) done.comes;
    })

    pub leaves-fault : (fault : Fault) → (told_behind head q left).says ≡ [] → IsFaultOf (told_behind head q left).fault fault → IsAtFault (ahead_from head p rest) fault
    leaves-fault fault none found = subst (λ (a : Ahead). IsAtFault a fault) (sym l.same) (record {
      nothing = record { no_names = ap names_in none; no_statements = ap statements_in none };
      found = found;
    })

    pub leaves-stop : (X Y : Type 0) (e : ReadFault) → IfFault {X = X} (Err e) (λ fault. IsFaultOf (told_behind head q left).fault fault) → IfFault {X = X} (Err e) (λ fault. (told_behind head q left).says ≡ [])
        → IfFault {X = Y} (Err e) (IsAtFault (ahead_from head p rest))
    leaves-stop X Y (faults.Fault fault) found none = leaves-fault fault none found
    leaves-stop X Y faults.NoMemory found none = tt

  -- at first
  pub leaves-begun : (p : Point) (rest : List ℕ) → IsEarly p → Leaves head p rest p rest
  leaves-begun p rest early = record { early = early; within = omega arith; same = refl }
