-- Links as keys of a set.
use Rattle.std.specs.Prelude.{◌≡◌, ℕ, Bool, ◌==◌, ◌&&◌, List, Option, Some, None}
use Rattle.std.specs.Option.{option_eq}
use Rattle.std.specs.List.{list_any}
use Rattle.std.specs.HashSet.{HashSet, contains}
use Rattle.chain_trace.specs.declared.path.Source.{Source}
use Rattle.chain_trace.specs.declared.path.Source.TheVariants as sources
use Rattle.chain_trace.specs.declared.path.Sink.{Sink}
use Rattle.chain_trace.specs.declared.path.Sink.TheVariants as sinks
use Rattle.path_links.specs.Edits.{Link}

-- the place of a step and its out pin, or a port
abbrev pub source_key : Source → Option (ℕ × ℕ) × ℕ
source_key (sources.Port net) = (None, net.0)
source_key (sources.Out step) = (Some (step.instance, step.path), step.out)

-- an instance and its path, or a port
abbrev pub sink_key : Sink → Option ℕ × ℕ
sink_key (sinks.Port net) = (None, net.0)
sink_key (sinks.In instance path) = (Some instance, path)

-- a link by numbers
abbrev pub Key : Type 0
Key = Option (ℕ × ℕ) × ℕ × Option ℕ × ℕ

-- the numbers of a link
abbrev pub key_of : Link → Key
key_of link = ((source_key link.0).0, (source_key link.0).1, (sink_key link.1).0, (sink_key link.1).1)

-- the same numbers
abbrev pub same_key : Key → Key → Bool
same_key a b = ((option_eq (λ x y. x.0 == y.0 && x.1 == y.1) a.0 b.0 && a.1 == b.1) && option_eq ◌==◌ a.2 b.2) && a.3 == b.3

-- the set has the keys of the links, and no others
abbrev pub HasLinks : {S : Type 0} → List Link → HashSet Key S → Type 0
HasLinks links set = (q : Key) → contains same_key set q ≡ list_any (λ l. same_key (key_of l) q) links
