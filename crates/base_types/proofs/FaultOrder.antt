-- Faults are ordered by their keys, which tell them apart.
use Rattle.std.proofs.Common.{◌≡◌, ◌==◌, ℕ, if◌then◌else◌, List, [], ◌∷◌, Ordering, Less, Equal, Greater, refl, sym, ap, ◌∙◌}
use Rattle.std.specs.Ordering.{nat_cmp}
use Rattle.std.specs.Cmp.Lexicographic.{slice_cmp}
use Rattle.std.proofs.lemmas.Cmp.{nat_list_cmp_total}
use Rattle.std.proofs.lemmas.Map.Lookups.{exact_bytes}
use Rattle.base_types.specs.declared.fault.Fault.{Fault}
use Rattle.base_types.specs.declared.fault.FileKind.{FileKind}
use Rattle.base_types.specs.declared.fault.FileKind.TheVariants.{Table, Lef, Verilog, Def, Stil, NewVerilog, NewStil, Log, Words}
use Rattle.base_types.specs.declared.fault.Spot.{Spot}
use Rattle.base_types.specs.declared.fault.Spot.TheVariants.{Line, Cell, Nowhere}
use Rattle.base_types.specs.declared.kind.Kind.{Kind}
use Rattle.base_types.specs.declared.kind.Kind.TheVariants.{FileSize, TableSyntax, TableShape, LefSyntax, LefNumber, LefTwice, VerilogSyntax, SecondModule, VerilogNumber, VerilogTwice, BadSelect, DefSyntax, DefNumber, DefTwice, ElementUnknown, ElementTwice, ElementUnplaced, ElementPin, BitsDiffer, NoMacro, TooManyElements, InstanceMissing, CellDiffers, NetDiffers, StilSyntax, StilTwice, Unsupported, ChainUndeclared, NoPort, TooManyPaths, NoDriver, TwoDrivers, Loop, SharedCell, WrongPort, LengthDiffers, InversionDiffers, CellsDiffer, TooManyBits, PinMissing, NotAStretch, UnlistedBits, OrderBroken, OverMaxBits, PlaceUnknown, TooManyUnits, PatternSyntax, PatternUnsupported, ScanCharacter, ForeignData, ShortLoad, LongCompare, TooManyShifts, StatementSize, PatternSize, NotPermutation, PinnedLast, NotSame, LogSyntax, LogPlace, LogTwice}
use Rattle.base_types.specs.Faults.{number_of}
use Rattle.base_types.specs.FirstFault.{file_number, spot_key, fault_key, ComesBefore, FaultLaw}

-- the kind of a number
kind_at : ℕ → Kind
kind_at n =
    if n == 0 then FileSize else
    if n == 1 then TableSyntax else
    if n == 2 then TableShape else
    if n == 10 then LefSyntax else
    if n == 11 then LefNumber else
    if n == 12 then LefTwice else
    if n == 20 then VerilogSyntax else
    if n == 21 then SecondModule else
    if n == 22 then VerilogNumber else
    if n == 23 then VerilogTwice else
    if n == 24 then BadSelect else
    if n == 30 then DefSyntax else
    if n == 31 then DefNumber else
    if n == 32 then DefTwice else
    if n == 33 then ElementUnknown else
    if n == 34 then ElementTwice else
    if n == 35 then ElementUnplaced else
    if n == 36 then ElementPin else
    if n == 37 then BitsDiffer else
    if n == 38 then NoMacro else
    if n == 39 then TooManyElements else
    if n == 40 then InstanceMissing else
    if n == 41 then CellDiffers else
    if n == 42 then NetDiffers else
    if n == 50 then StilSyntax else
    if n == 51 then StilTwice else
    if n == 52 then Unsupported else
    if n == 53 then ChainUndeclared else
    if n == 58 then NoPort else
    if n == 59 then TooManyPaths else
    if n == 60 then NoDriver else
    if n == 61 then TwoDrivers else
    if n == 62 then Loop else
    if n == 63 then SharedCell else
    if n == 64 then WrongPort else
    if n == 65 then LengthDiffers else
    if n == 66 then InversionDiffers else
    if n == 67 then CellsDiffer else
    if n == 68 then TooManyBits else
    if n == 69 then PinMissing else
    if n == 70 then NotAStretch else
    if n == 71 then UnlistedBits else
    if n == 72 then OrderBroken else
    if n == 73 then OverMaxBits else
    if n == 74 then PlaceUnknown else
    if n == 75 then TooManyUnits else
    if n == 80 then PatternSyntax else
    if n == 81 then PatternUnsupported else
    if n == 82 then ScanCharacter else
    if n == 83 then ForeignData else
    if n == 84 then ShortLoad else
    if n == 85 then LongCompare else
    if n == 86 then TooManyShifts else
    if n == 87 then StatementSize else
    if n == 88 then PatternSize else
    if n == 91 then NotPermutation else
    if n == 92 then PinnedLast else
    if n == 93 then NotSame else
    if n == 94 then LogSyntax else
    if n == 95 then LogPlace else
    LogTwice

kind_back : (k : Kind) → kind_at (number_of k) ≡ k
unfolding kind_at
kind_back FileSize = refl
kind_back TableSyntax = refl
kind_back TableShape = refl
kind_back LefSyntax = refl
kind_back LefNumber = refl
kind_back LefTwice = refl
kind_back VerilogSyntax = refl
kind_back SecondModule = refl
kind_back VerilogNumber = refl
kind_back VerilogTwice = refl
kind_back BadSelect = refl
kind_back DefSyntax = refl
kind_back DefNumber = refl
kind_back DefTwice = refl
kind_back ElementUnknown = refl
kind_back ElementTwice = refl
kind_back ElementUnplaced = refl
kind_back ElementPin = refl
kind_back BitsDiffer = refl
kind_back NoMacro = refl
kind_back TooManyElements = refl
kind_back InstanceMissing = refl
kind_back CellDiffers = refl
kind_back NetDiffers = refl
kind_back StilSyntax = refl
kind_back StilTwice = refl
kind_back Unsupported = refl
kind_back ChainUndeclared = refl
kind_back NoPort = refl
kind_back TooManyPaths = refl
kind_back NoDriver = refl
kind_back TwoDrivers = refl
kind_back Loop = refl
kind_back SharedCell = refl
kind_back WrongPort = refl
kind_back LengthDiffers = refl
kind_back InversionDiffers = refl
kind_back CellsDiffer = refl
kind_back TooManyBits = refl
kind_back PinMissing = refl
kind_back NotAStretch = refl
kind_back UnlistedBits = refl
kind_back OrderBroken = refl
kind_back OverMaxBits = refl
kind_back PlaceUnknown = refl
kind_back TooManyUnits = refl
kind_back PatternSyntax = refl
kind_back PatternUnsupported = refl
kind_back ScanCharacter = refl
kind_back ForeignData = refl
kind_back ShortLoad = refl
kind_back LongCompare = refl
kind_back TooManyShifts = refl
kind_back StatementSize = refl
kind_back PatternSize = refl
kind_back NotPermutation = refl
kind_back PinnedLast = refl
kind_back NotSame = refl
kind_back LogSyntax = refl
kind_back LogPlace = refl
kind_back LogTwice = refl

same_kind : (a b : Kind) → number_of a ≡ number_of b → a ≡ b
same_kind a b e = sym (kind_back a) ∙ ap kind_at e ∙ kind_back b

file_at : ℕ → FileKind
file_at n = if n == 0 then Table else if n == 1 then Lef else if n == 2 then Verilog else if n == 3 then Def else if n == 4 then Stil else if n == 5 then NewVerilog else if n == 6 then NewStil else if n == 7 then Log else Words

file_back : (f : FileKind) → file_at (file_number f) ≡ f
unfolding file_at
file_back Table = refl
file_back Lef = refl
file_back Verilog = refl
file_back Def = refl
file_back Stil = refl
file_back NewVerilog = refl
file_back NewStil = refl
file_back Log = refl
file_back Words = refl

same_file : (a b : FileKind) → file_number a ≡ file_number b → a ≡ b
same_file a b e = sym (file_back a) ∙ ap file_at e ∙ file_back b

first_or : ℕ → List ℕ → ℕ
first_or n [] = n
first_or n (x ∷ xs) = x

rest_of : List ℕ → List ℕ
rest_of [] = []
rest_of (x ∷ xs) = xs

spot_at : List ℕ → Spot
spot_at key =
    if first_or 0 key == 0 then Nowhere else
    if first_or 0 key == 1 then Line (first_or 0 (rest_of key)) else
    Cell (rest_of key)

spot_back : (s : Spot) → spot_at (spot_key s) ≡ s
unfolding spot_at first_or rest_of
spot_back (Line line) = refl
spot_back (Cell name) = refl
spot_back Nowhere = refl

with_kind : Fault → Kind → Fault
with_kind f k = record { kind = k; file = f.file; spot = f.spot }

with_file : Fault → FileKind → Fault
with_file f k = record { kind = f.kind; file = k; spot = f.spot }

with_spot : Fault → Spot → Fault
with_spot f s = record { kind = f.kind; file = f.file; spot = s }

same_parts : (f g : Fault) → f.kind ≡ g.kind → f.file ≡ g.file → f.spot ≡ g.spot → f ≡ g
unfolding with_kind with_file with_spot
same_parts f g a b c = ap (with_kind f) a ∙ ap (with_file (with_kind f g.kind)) b ∙ ap (with_spot (with_file (with_kind f g.kind) g.file)) c

same_key : (f g : Fault) → fault_key f ≡ fault_key g → f ≡ g
unfolding first_or rest_of
same_key f g e =
    let kind = same_kind f.kind g.kind (ap (first_or 0) e) in
    let file = same_file f.file g.file (ap (λ key. first_or 0 (rest_of key)) e) in
    let spot : f.spot ≡ g.spot = sym (spot_back f.spot) ∙ ap (λ key. spot_at (rest_of (rest_of key))) e ∙ spot_back g.spot in
    same_parts f g kind file spot

by_order : (f g : Fault) (o p : Ordering) → o ≡ slice_cmp nat_cmp (fault_key f) (fault_key g) → (ComesBefore f g → ⊥) → (ComesBefore g f → ⊥) → f ≡ g
by_order f g Less p e a b = absurd (a (sym e))
by_order f g Equal p e a b = same_key f g (exact_bytes (fault_key f) (fault_key g) (sym e))
by_order f g Greater p e a b = absurd (b (nat_list_cmp_total.antisymm (fault_key g) (fault_key f) ∙ rw (← e)))

pub same_fault : FaultLaw
same_fault f g a b = by_order f g _ Equal refl a b
