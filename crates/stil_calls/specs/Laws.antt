-- Laws of the definitions, which know nothing of the code.
use Rattle.std.specs.Prelude.{◌≡◌, ◌<◌, ◌↔◌, true, List}
use Rattle.stil_types.specs.declared.head.ScanChainDecl.{ScanChainDecl}
use Rattle.stil_types.specs.Calls.{IsShortLoadOn, IsLongCompareOn}
use Rattle.stil_syntax.specs.declared.item.Item.{Item}
use Rattle.stil_calls.specs.Scans.{bits_of, is_short, is_long, is_vast, call_of, most_characters}

-- a call is refused as short exactly where it is, written out
abbrev pub ShortLaw : Type 0
ShortLaw = (chains : List ScanChainDecl) (items : List Item) → (is_short chains items ≡ true) ↔ IsShortLoadOn (bits_of chains) (call_of chains items)

-- and as long exactly where it is, written out
abbrev pub LongLaw : Type 0
LongLaw = (chains : List ScanChainDecl) (items : List Item) → (is_long chains items ≡ true) ↔ IsLongCompareOn (bits_of chains) (call_of chains items)

-- and as vast exactly where its longest string, written out, has more characters than are taken
abbrev pub VastLaw : Type 0
VastLaw = (chains : List ScanChainDecl) (items : List Item) → (is_vast chains items ≡ true) ↔ (most_characters < (call_of chains items).shifts)
