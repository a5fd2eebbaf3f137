use Rattle.std.proofs.Common.{◌≡◌, drop, ◌&&◌}
use Rattle.std.specs.List.{list_any}
use Rattle.std.specs.Str.{bytes_eq}
use Rattle.path_links.specs.Erasure.{is_sink_pin}
use Rattle.path_links.proofs.sinks.Sinks.has_pin.Given as goal

abbrev pub invariant-loop-sink : goal.invariant-loop-sink
invariant-loop-sink l =
    list_any (λ sink. bytes_eq sink.instance l.instance && bytes_eq sink.pin l.pin) (drop l.sink-index l.self.pins) ≡ is_sink_pin l.self l.instance l.pin
