-- Laws of the definitions, which know nothing of the code.
use Rattle.std.specs.Prelude.{◌≡◌, ℕ, List, [], ◌∷◌, take, Some}
use Rattle.stil_types.specs.declared.head.StilHead.{StilHead}
use Rattle.stil_parts.specs.Heads.{head_len}
use Rattle.stil_calls.specs.declared.judging.Judging.TheVariants.{Lengths}
use Rattle.stil_head.specs.Heads.{DenotesHead}
use Rattle.stil_reader.specs.Sayings.{Head, after, told_whole}
use Rattle.stil_reader.specs.Patterns.{patterns_told}

-- a head that a text denotes ends where the text shows its end
abbrev pub EndLaw : Type 0
EndLaw = (bytes : List ℕ) (head : StilHead) (n : ℕ) → head_len bytes ≡ Some n → DenotesHead bytes head → n ≡ head.end

-- and the whole text says the head and then what stands behind it: what a text in pieces says is what a whole one does
abbrev pub WholeLaw : Type 0
WholeLaw = (bytes : List ℕ) (head : StilHead) (n : ℕ) → head_len bytes ≡ Some n → DenotesHead bytes head
    → told_whole head bytes ≡ after (Head (take head.end bytes) ∷ []) (patterns_told Lengths head bytes)
