-- The names of Patterns that are taken one after the other.
use Rattle.std.proofs.Common.{◌≡◌, ℕ, ◌+◌, ◌<◌, List, [], ◌∷◌, ◌++◌, length, Some, None, refl, sym, ap, ◌∙◌, append_assoc, arith}
use Rattle.std.proofs.lemmas.List.{append-nil}
use Rattle.stil_types.specs.declared.head.StilHead.{StilHead}
use Rattle.stil_types.specs.declared.statement.PatternStatement.{PatternStatement}
use Rattle.stil_reader.specs.declared.cursor.PatternItem.{PatternItem}
use Rattle.stil_reader.specs.declared.cursor.PatternItem.TheVariants.{Named, Stated}
use Rattle.stil_reader.specs.Sayings.{Told}
use Rattle.stil_reader.specs.Patterns.{names_in}
use Rattle.stil_reader.specs.Cursors.{Ahead, ahead_by, Takes}
use Rattle.same_files.specs.Sets.{AreNames}

-- these names are taken of what is told, and so much is left
pub record NamesSoFar (told : Told) (taken : List (List ℕ)) (ahead : Ahead) : Type 0 where
  pub names : taken ++ ahead.names ≡ names_in told.says
  pub fault : ahead.fault ≡ told.fault

-- how many items are left
abbrev pub items_left : Ahead → ℕ
items_left ahead = length ahead.names + length ahead.statements

pub begun : (head : StilHead) (told : Told) (ahead : Ahead) → ahead ≡ ahead_by head told → NamesSoFar told [] ahead
begun head told ahead e = record { names = ap (λ (a : Ahead). a.names) e; fault = ap (λ (a : Ahead). a.fault) e }

pub named_on : (told : Told) (taken : List (List ℕ)) (old new : Ahead) (name : List ℕ) → Takes old (Some (Named name)) new → NamesSoFar told taken old → NamesSoFar told (taken ++ name ∷ []) new
named_on told taken old new name e h = record {
  names = append_assoc taken (name ∷ []) new.names ∙ ap (λ (xs : List (List ℕ)). taken ++ xs) (sym (ap (λ (a : Ahead). a.names) e)) ∙ h.names;
  fault = sym (ap (λ (a : Ahead). a.fault) e) ∙ h.fault;
}

stated_on : (told : Told) (taken : List (List ℕ)) (old new : Ahead) (s : PatternStatement) → Takes old (Some (Stated s)) new → NamesSoFar told taken old → NamesSoFar told taken new
stated_on told taken old new s e h = record {
  names = ap (λ (xs : List (List ℕ)). taken ++ xs) (sym (ap (λ (a : Ahead). a.names) e)) ∙ h.names;
  fault = sym (ap (λ (a : Ahead). a.fault) e) ∙ h.fault;
}

pub other_on : (told : Told) (taken : List (List ℕ)) (old new : Ahead) (item : PatternItem) → ((name : List ℕ) → item ≡ Named name → ⊥) → Takes old (Some item) new → NamesSoFar told taken old → NamesSoFar told taken new
other_on told taken old new (Named name) never e h = absurd (never name refl)
other_on told taken old new (Stated s) never e h = stated_on told taken old new s e h

pub at_end : (told : Told) (taken : List (List ℕ)) (old new : Ahead) → Takes old None new → NamesSoFar told taken old → AreNames told taken
at_end told taken old new end h = record {
  are = sym (append-nil taken) ∙ ap (λ (xs : List (List ℕ)). taken ++ xs) (sym end.0.nothing.no_names) ∙ h.names;
  sound = sym h.fault ∙ end.0.sound;
}

pub fewer : (old new : Ahead) (item : PatternItem) → Takes old (Some item) new → items_left new < items_left old
fewer old new (Named name) e =
    let names = ap (λ (a : Ahead). length a.names) e in
    let statements = ap (λ (a : Ahead). length a.statements) e in
    omega (arith, names, statements)
fewer old new (Stated s) e =
    let names = ap (λ (a : Ahead). length a.names) e in
    let statements = ap (λ (a : Ahead). length a.statements) e in
    omega (arith, names, statements)
