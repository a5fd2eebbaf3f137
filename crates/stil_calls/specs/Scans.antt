-- A scan call beside the chains of the head: what it gives each chain, and what is wrong with it (IEEE 1450-1999, Shift). Its
-- names and those of the ports stand without backslashes.
use Rattle.std.specs.Prelude.{ℕ, Bool, false, ◌&&◌, ◌||◌, not, nat_lt, if◌then◌else◌, max, List, [], ◌∷◌, map, Option, Some, None}
use Rattle.std.specs.List.{list_any}
use Rattle.std.specs.Str.{bytes_eq}
use Rattle.stil_types.specs.declared.head.ScanChainDecl.{ScanChainDecl}
use Rattle.stil_types.specs.declared.statement.ScanCall.{ScanCall}
use Rattle.stil_types.specs.Calls.{most_bits, longest_string}
use Rattle.stil_syntax.specs.declared.item.Item.{Item}
use Rattle.stil_calls.specs.declared.repeats.Side.{Side}
use Rattle.stil_calls.specs.declared.repeats.Side.TheVariants.{Load, Compare}
use Rattle.stil_calls.specs.Repeats.{repeats_of, is_sound, count_of, reach_from, written}

-- one of the items has the name
abbrev pub has_name : List Item → List ℕ → Bool
has_name items name = list_any (λ i. bytes_eq i.name name) items

-- a name is given twice
abbrev pub gives_twice : List Item → Bool
gives_twice [] = false
gives_twice (i ∷ is) = has_name is i.name || gives_twice is

-- the data given to a name
abbrev pub data_for : List Item → List ℕ → Option (List ℕ)
data_for [] name = None
data_for (i ∷ is) name = if bytes_eq i.name name then Some i.data else data_for is name

-- the port of a chain: its ScanIn or its ScanOut
abbrev pub port : Side → ScanChainDecl → List ℕ
port Load chain = chain.scan_in
port Compare chain = chain.scan_out

-- the data given to a chain
abbrev pub given : Side → List Item → ScanChainDecl → Option (List ℕ)
given side items chain = data_for items (port side chain)

-- a name is the ScanIn or ScanOut of a chain
abbrev pub is_port : List ScanChainDecl → List ℕ → Bool
is_port chains name = list_any (λ c. bytes_eq name c.scan_in || bytes_eq name c.scan_out) chains

-- data are given to a name that is no chain's ScanIn or ScanOut
abbrev pub is_foreign : List ScanChainDecl → List Item → Bool
is_foreign chains items = list_any (λ i. not (is_port chains i.name)) items

-- data hold another character or escape than their alphabet and \r n c
abbrev pub is_unsound : Side → Option (List ℕ) → Bool
is_unsound side None = false
is_unsound side (Some bytes) = not (is_sound side bytes)

-- some chain is given such data
abbrev pub has_unsound : List ScanChainDecl → List Item → Bool
has_unsound chains items = list_any (λ c. is_unsound Load (given Load items c) || is_unsound Compare (given Compare items c)) chains

-- how many characters are given
abbrev pub count_in : Option (List ℕ) → ℕ
count_in None = 0
count_in (Some bytes) = count_of (repeats_of bytes)

-- how many up to and with the last L or H
abbrev pub reach_in : Option (List ℕ) → ℕ
reach_in None = 0
reach_in (Some bytes) = reach_from 0 (repeats_of bytes)

-- the longer string of a chain
abbrev pub longer : List Item → ScanChainDecl → ℕ
longer items chain = max (count_in (given Load items chain)) (count_in (given Compare items chain))

-- how often the call shifts: the length of its longest string
abbrev pub shifts_in : List ScanChainDecl → List Item → ℕ
shifts_in [] items = 0
shifts_in (c ∷ cs) items = max (longer items c) (shifts_in cs items)

-- the ScanLengths of the chains
abbrev pub bits_of : List ScanChainDecl → List ℕ
bits_of chains = map (λ c. c.length) chains

-- the call shifts at least once and fewer times than the longest chain has bits
abbrev pub is_short : List ScanChainDecl → List Item → Bool
is_short chains items = nat_lt 0 (shifts_in chains items) && nat_lt (shifts_in chains items) (most_bits (bits_of chains))

-- an L or H stands at an index that isn't below its chain's bits
abbrev pub is_long : List ScanChainDecl → List Item → Bool
is_long chains items = list_any (λ c. nat_lt c.length (reach_in (given Compare items c))) chains

-- the characters of a string at most
abbrev pub most_characters : ℕ
most_characters = 524288

-- a string is longer
abbrev pub is_vast : List ScanChainDecl → List Item → Bool
is_vast chains items = nat_lt most_characters (shifts_in chains items)

-- what is given, written out
abbrev pub written_in : Option (List ℕ) → Option (List ℕ)
written_in None = None
written_in (Some bytes) = Some (written (repeats_of bytes))

-- the strings that the chains are given on a side
abbrev pub strings_of : Side → List ScanChainDecl → List Item → List (Option (List ℕ))
strings_of side chains items = map (λ c. written_in (given side items c)) chains

-- what the call shifts in and compares
abbrev pub call_of : List ScanChainDecl → List Item → ScanCall
call_of chains items =
    let loads = strings_of Load chains items in
    let compares = strings_of Compare chains items in
    record { shifts = max (longest_string loads) (longest_string compares); loads = loads; compares = compares }
