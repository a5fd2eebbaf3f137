-- Names without their escapes.
use Rattle.std.specs.Prelude.{ℕ, List, filter, not, ◌==◌}

-- the bytes without backslashes
abbrev pub plain_name : List ℕ → List ℕ
plain_name bytes = filter (λ b. not (b == 92)) bytes
