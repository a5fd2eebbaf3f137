-- The kinds of faults: their numbers and their printed names; and faults by where they are found.
use Rattle.std.specs.Prelude.{ℕ, List, codes}
use Rattle.base_types.specs.declared.fault.Fault.{Fault}
use Rattle.base_types.specs.declared.fault.FileKind.{FileKind}
use Rattle.base_types.specs.declared.fault.FileKind.TheVariants as files
use Rattle.base_types.specs.declared.fault.Spot.TheVariants as spots
use Rattle.base_types.specs.declared.kind.Kind.{Kind}
use Rattle.base_types.specs.declared.kind.Kind.TheVariants.{FileSize, TableSyntax, TableShape, LefSyntax, LefNumber, LefTwice, VerilogSyntax, SecondModule, VerilogNumber, VerilogTwice, BadSelect, DefSyntax, DefNumber, DefTwice, ElementUnknown, ElementTwice, ElementUnplaced, ElementPin, BitsDiffer, NoMacro, TooManyElements, InstanceMissing, CellDiffers, NetDiffers, StilSyntax, StilTwice, Unsupported, ChainUndeclared, NoPort, TooManyPaths, NoDriver, TwoDrivers, Loop, SharedCell, WrongPort, LengthDiffers, InversionDiffers, CellsDiffer, TooManyBits, PinMissing, NotAStretch, UnlistedBits, OrderBroken, OverMaxBits, PlaceUnknown, TooManyUnits, PatternSyntax, PatternUnsupported, ScanCharacter, ForeignData, ShortLoad, LongCompare, TooManyShifts, StatementSize, PatternSize, NotPermutation, PinnedLast, NotSame, LogSyntax, LogPlace, LogTwice}

-- kinds are answered by this number, the least first
abbrev pub number_of : Kind → ℕ
number_of FileSize = 0
number_of TableSyntax = 1
number_of TableShape = 2
number_of LefSyntax = 10
number_of LefNumber = 11
number_of LefTwice = 12
number_of VerilogSyntax = 20
number_of SecondModule = 21
number_of VerilogNumber = 22
number_of VerilogTwice = 23
number_of BadSelect = 24
number_of DefSyntax = 30
number_of DefNumber = 31
number_of DefTwice = 32
number_of ElementUnknown = 33
number_of ElementTwice = 34
number_of ElementUnplaced = 35
number_of ElementPin = 36
number_of BitsDiffer = 37
number_of NoMacro = 38
number_of TooManyElements = 39
number_of InstanceMissing = 40
number_of CellDiffers = 41
number_of NetDiffers = 42
number_of StilSyntax = 50
number_of StilTwice = 51
number_of Unsupported = 52
number_of ChainUndeclared = 53
number_of NoPort = 58
number_of TooManyPaths = 59
number_of NoDriver = 60
number_of TwoDrivers = 61
number_of Loop = 62
number_of SharedCell = 63
number_of WrongPort = 64
number_of LengthDiffers = 65
number_of InversionDiffers = 66
number_of CellsDiffer = 67
number_of TooManyBits = 68
number_of PinMissing = 69
number_of NotAStretch = 70
number_of UnlistedBits = 71
number_of OrderBroken = 72
number_of OverMaxBits = 73
number_of PlaceUnknown = 74
number_of TooManyUnits = 75
number_of PatternSyntax = 80
number_of PatternUnsupported = 81
number_of ScanCharacter = 82
number_of ForeignData = 83
number_of ShortLoad = 84
number_of LongCompare = 85
number_of TooManyShifts = 86
number_of StatementSize = 87
number_of PatternSize = 88
number_of NotPermutation = 91
number_of PinnedLast = 92
number_of NotSame = 93
number_of LogSyntax = 94
number_of LogPlace = 95
number_of LogTwice = 96

-- the name of a kind, as it is printed
abbrev pub kind_name : Kind → List ℕ
kind_name FileSize = codes "FileSize"
kind_name TableSyntax = codes "TableSyntax"
kind_name TableShape = codes "TableShape"
kind_name LefSyntax = codes "LefSyntax"
kind_name LefNumber = codes "LefNumber"
kind_name LefTwice = codes "LefTwice"
kind_name VerilogSyntax = codes "VerilogSyntax"
kind_name SecondModule = codes "SecondModule"
kind_name VerilogNumber = codes "VerilogNumber"
kind_name VerilogTwice = codes "VerilogTwice"
kind_name BadSelect = codes "BadSelect"
kind_name DefSyntax = codes "DefSyntax"
kind_name DefNumber = codes "DefNumber"
kind_name DefTwice = codes "DefTwice"
kind_name ElementUnknown = codes "ElementUnknown"
kind_name ElementTwice = codes "ElementTwice"
kind_name ElementUnplaced = codes "ElementUnplaced"
kind_name ElementPin = codes "ElementPin"
kind_name BitsDiffer = codes "BitsDiffer"
kind_name NoMacro = codes "NoMacro"
kind_name TooManyElements = codes "TooManyElements"
kind_name InstanceMissing = codes "InstanceMissing"
kind_name CellDiffers = codes "CellDiffers"
kind_name NetDiffers = codes "NetDiffers"
kind_name StilSyntax = codes "StilSyntax"
kind_name StilTwice = codes "StilTwice"
kind_name Unsupported = codes "Unsupported"
kind_name ChainUndeclared = codes "ChainUndeclared"
kind_name NoPort = codes "NoPort"
kind_name TooManyPaths = codes "TooManyPaths"
kind_name NoDriver = codes "NoDriver"
kind_name TwoDrivers = codes "TwoDrivers"
kind_name Loop = codes "Loop"
kind_name SharedCell = codes "SharedCell"
kind_name WrongPort = codes "WrongPort"
kind_name LengthDiffers = codes "LengthDiffers"
kind_name InversionDiffers = codes "InversionDiffers"
kind_name CellsDiffer = codes "CellsDiffer"
kind_name TooManyBits = codes "TooManyBits"
kind_name PinMissing = codes "PinMissing"
kind_name NotAStretch = codes "NotAStretch"
kind_name UnlistedBits = codes "UnlistedBits"
kind_name OrderBroken = codes "OrderBroken"
kind_name OverMaxBits = codes "OverMaxBits"
kind_name PlaceUnknown = codes "PlaceUnknown"
kind_name TooManyUnits = codes "TooManyUnits"
kind_name PatternSyntax = codes "PatternSyntax"
kind_name PatternUnsupported = codes "PatternUnsupported"
kind_name ScanCharacter = codes "ScanCharacter"
kind_name ForeignData = codes "ForeignData"
kind_name ShortLoad = codes "ShortLoad"
kind_name LongCompare = codes "LongCompare"
kind_name TooManyShifts = codes "TooManyShifts"
kind_name StatementSize = codes "StatementSize"
kind_name PatternSize = codes "PatternSize"
kind_name NotPermutation = codes "NotPermutation"
kind_name PinnedLast = codes "PinnedLast"
kind_name NotSame = codes "NotSame"
kind_name LogSyntax = codes "LogSyntax"
kind_name LogPlace = codes "LogPlace"
kind_name LogTwice = codes "LogTwice"

-- a fault at a line of a file, in the words, or at a cell of the table
abbrev pub at_line : Kind → FileKind → ℕ → Fault
at_line kind file line = record { kind = kind; file = file; spot = spots.Line line }

-- a fault of the words of the command
abbrev pub of_words : Kind → Fault
of_words kind = record { kind = kind; file = files.Words; spot = spots.Line 0 }

-- a fault of the table, at a cell
abbrev pub of_cell : Kind → List ℕ → Fault
of_cell kind name = record { kind = kind; file = files.Table; spot = spots.Cell name }
