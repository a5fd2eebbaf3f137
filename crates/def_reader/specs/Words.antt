-- The bytes at places of a text.
use Rattle.std.specs.Prelude.{ℕ, ◌-◌, List, take, drop}
use Rattle.base_types.specs.declared.span.Span.{Span}

-- the bytes of a place
abbrev pub word_at : List ℕ → Span → List ℕ
word_at text span = take (span.end - span.start) (drop span.start text)
