-- What the words of a command ask for, and the files that it names.
use Rattle.std.specs.Prelude.{◌≡◌, ◌⊎◌, ℕ, List}
use Rattle.desk_io.specs.Names.{Names}
use Rattle.scan_words.specs.declared.order.Order.{Order}
use Rattle.scan_words.specs.Written.{Says}
use Rattle.scan_job.specs.declared.commands.rewire.RewireRequest.{RewireRequest}
use Rattle.scan_job.specs.declared.commands.trace.TraceRequest.{TraceRequest}
use Rattle.scan_job.specs.declared.commands.check.CheckRequest.{CheckRequest}
use Rattle.scan_job.specs.declared.commands.reorder.ReorderRequest.{ReorderRequest}
use Rattle.scan_job.specs.declared.commands.patterns.PatternsRequest.{PatternsRequest}
use Rattle.scan_job.specs.declared.commands.play.PlayRequest.{PlayRequest}
use Rattle.scan_job.specs.declared.commands.bound.BoundRequest.{BoundRequest}
use Rattle.scan_job.specs.declared.commands.verify.VerifyRequest.{VerifyRequest}
use Rattle.scan_job.specs.declared.commands.failmap.FailmapRequest.{FailmapRequest}
use Rattle.scan_job.specs.declared.commands.bench.BenchRequest.{BenchRequest}
use Rattle.scan_job.specs.declared.commands.draw.DrawRequest.{DrawRequest}
use Rattle.scan_job.specs.Commands.{Command}
use Rattle.scan_job.specs.Commands.Rewire.{rewire}
use Rattle.scan_job.specs.Commands.Trace.{trace}
use Rattle.scan_job.specs.Commands.Check.{check}
use Rattle.scan_job.specs.Commands.Reorder.{reorder}
use Rattle.scan_job.specs.Commands.Patterns.{reorder_patterns}
use Rattle.scan_job.specs.Commands.Play.{play}
use Rattle.scan_job.specs.Commands.Bound.{bound}
use Rattle.scan_job.specs.Commands.Verify.{verify}
use Rattle.scan_job.specs.Commands.Failmap.{failmap}
use Rattle.scan_job.specs.Commands.Bench.{bench}
use Rattle.scan_job.specs.Commands.Draw.{draw}

-- what the words ask for: a command, with its values by the names of its options
pub data Request : Type 0 where
  Rewire : RewireRequest → Request
  Trace : TraceRequest → Request
  Check : CheckRequest → Request
  Reorder : ReorderRequest → Request
  ReorderPatterns : PatternsRequest → Request
  Play : PlayRequest → Request
  Bound : BoundRequest → Request
  Verify : VerifyRequest → Request
  Failmap : FailmapRequest → Request
  Bench : BenchRequest → Request
  Draw : DrawRequest → Request

-- what is asked for, as a command
abbrev pub command_of : Request → Command
command_of (Rewire r) = rewire r
command_of (Trace r) = trace r
command_of (Check r) = check r
command_of (Reorder r) = reorder r
command_of (ReorderPatterns r) = reorder_patterns r
command_of (Play r) = play r
command_of (Bound r) = bound r
command_of (Verify r) = verify r
command_of (Failmap r) = failmap r
command_of (Bench r) = bench r
command_of (Draw r) = draw r

-- the order whose values a request gives names
abbrev pub order_of : Request → Order
order_of request = (command_of request).order

-- an order that asks for a design alone, or for one with its patterns
abbrev pub IsDesignOrder : Order → Type 0
IsDesignOrder order = ((r : ReorderRequest) × (order_of (Reorder r) ≡ order)) ⊎ ((r : PatternsRequest) × (order_of (ReorderPatterns r) ≡ order))

-- the words say this request
abbrev pub Asks : List (List ℕ) → Request → Type 0
Asks words request = Says words (order_of request)

-- what the values of a request must be besides
abbrev pub IsSound : Request → Type 0
IsSound request = (command_of request).sound

-- the order is that of a request whose values are sound
pub record IsAsked (order : Order) : Type 0 where
  pub request : Request
  pub order_is : order_of request ≡ order
  pub sound : IsSound request

-- the values of the file options
abbrev pub names_of : Request → Names
names_of request = (command_of request).names
