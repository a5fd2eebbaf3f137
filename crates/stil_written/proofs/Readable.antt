-- A statement without fault is of a form that is read.
use Rattle.std.proofs.Common.{◌≡◌, ℕ, true, List, None, refl}
use Rattle.stil_types.specs.declared.head.StilHead.{StilHead}
use Rattle.stil_syntax.specs.declared.shape.Shape.{Shape}
use Rattle.stil_syntax.specs.declared.shape.Shape.TheVariants.{NoForm, Unsupported, Other, Scan, Loop}
use Rattle.stil_calls.specs.declared.judging.Judging.{Judging}
use Rattle.stil_calls.specs.Faults.{shape_fault}
use Rattle.stil_calls.specs.Statements.{is_read}

pub is_read_so : (judging : Judging) (head : StilHead) (line : ℕ) (text : List ℕ) (shape : Shape) → shape_fault judging head line text shape ≡ None → is_read shape ≡ true
is_read_so judging head line text NoForm sound = absurd cc
is_read_so judging head line text Unsupported sound = absurd cc
is_read_so judging head line text Other sound = refl
is_read_so judging head line text (Scan items) sound = refl
is_read_so judging head line text (Loop times body) sound = refl
