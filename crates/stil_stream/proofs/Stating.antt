-- A fault of a text tells its kind and line.
use Rattle.std.proofs.Common.{◌≡◌, ℕ, ap, ◌∙◌}
use Rattle.base_types.specs.declared.kind.Kind.{Kind}
use Rattle.base_types.specs.declared.fault.Fault.{Fault}
use Rattle.base_types.specs.declared.fault.Spot.{Spot}
use Rattle.base_types.specs.declared.fault.Spot.TheVariants as spots
use Rattle.stil_parts.specs.declared.part.PartFault.{PartFault}
use Rattle.stil_stream.specs.Streams.{fault_of}

-- the line of a spot
abbrev line_at_spot : Spot → ℕ
line_at_spot (spots.Line line) = line
line_at_spot (spots.Cell name) = 0
line_at_spot spots.Nowhere = 0

made : (f g : PartFault) → f.kind ≡ g.kind → f.line ≡ g.line → f ≡ g
made f g e h = ap (λ (k : Kind). record { kind = k; line = f.line }) e ∙ ap (λ (l : ℕ). record { kind = g.kind; line = l }) h

pub fault-one : (f g : PartFault) → fault_of f ≡ fault_of g → f ≡ g
fault-one f g e = made f g (ap (λ (x : Fault). x.kind) e) (ap (λ (x : Fault). line_at_spot x.spot) e)
