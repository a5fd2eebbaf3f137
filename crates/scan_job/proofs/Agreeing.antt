-- Files that agree at the inputs of a request.
use Rattle.std.proofs.Common.{◌≡◌, ℕ, List, ap, ◌∙◌}
use Rattle.desk_io.specs.declared.slot.Slot.{Slot}
use Rattle.desk_io.specs.declared.slot.Slot.TheVariants.{Table, Lef, Verilog, Def}
use Rattle.desk_io.specs.Desk.{IsInput}
use Rattle.desk_io.specs.Names.{IsNamed}
use Rattle.design_files.specs.Files.{texts_of}
use Rattle.scan_job.specs.Commands.{Files}
use Rattle.scan_job.specs.Requests.{Request, names_of}

abbrev pub AgreeAt : Request → Files → Files → Type 0
AgreeAt request one other = (slot : Slot) → IsInput slot → IsNamed (names_of request) slot → one slot ≡ other slot

-- the four files of a design
pub design_same : (one other : Slot → List ℕ) → one Table ≡ other Table → one Lef ≡ other Lef → one Verilog ≡ other Verilog → one Def ≡ other Def
    → texts_of (one Table) (one Lef) (one Verilog) (one Def) ≡ texts_of (other Table) (other Lef) (other Verilog) (other Def)
design_same one other table lef verilog def =
    ap (λ (text : List ℕ). texts_of text (one Lef) (one Verilog) (one Def)) table ∙ ap (λ (text : List ℕ). texts_of (other Table) text (one Verilog) (one Def)) lef
    ∙ ap (λ (text : List ℕ). texts_of (other Table) (other Lef) text (one Def)) verilog ∙ ap (texts_of (other Table) (other Lef) (other Verilog)) def
