-- Statements beside a small head, judged by computing: one or more for each kind of fault, and some without.
use Rattle.std.proofs.Common.{◌≡◌, true, false, [], ◌∷◌, Option, Some, None, refl}
use Prim.Native.String.{String}
use Rattle.std.specs.Prelude.{codes}
use Rattle.base_types.specs.declared.kind.Kind.{Kind}
use Rattle.base_types.specs.declared.kind.Kind.TheVariants.{PatternSyntax, PatternUnsupported, ScanCharacter, ForeignData, ShortLoad, LongCompare, TooManyShifts}
use Rattle.token_forms.specs.Parsing.{word_at}
use Rattle.token_forms.specs.Pieces.{tokens_from}
use Rattle.token_forms.specs.Forms.{text_at, many_within, many_at, put_all, gathered_at}
use Rattle.stil_tokens.specs.StilTokens.{brace_piece, slash_piece, piece_at}
use Rattle.stil_tokens.specs.StilStatements.{statements_within}
use Rattle.stil_parts.specs.declared.part.PartFault.{PartFault}
use Rattle.stil_parts.specs.Coming.{fault_at}
use Rattle.stil_types.specs.declared.head.ScanChainDecl.{ScanChainDecl}
use Rattle.stil_types.specs.declared.head.StilHead.{StilHead}
use Rattle.base_types.specs.declared.span.Span.{Span}
use Rattle.stil_syntax.specs.Names.{name_at}
use Rattle.stil_syntax.specs.Grammar.{item, entry, block, call_end}
use Rattle.stil_syntax.specs.Shapes.{label_at, behind_within, shape_of}
use Rattle.stil_calls.specs.Repeats.{repeats_from, whole_from}
use Rattle.stil_calls.specs.declared.judging.Judging.TheVariants.{Form}
use Rattle.stil_calls.specs.Faults.{fault_by, fault_in}

nowhere : Span
nowhere = record { start = 0; end = 0 }

chain : ScanChainDecl
chain = record { name = codes "ch1"; length = 3; scan_in = codes "si"; scan_out = codes "so"; inversion = None; cells = None; length_at = nowhere; inversion_at = None; cells_at = None; line = 4 }

-- one chain of three bits, a scan procedure, one that isn't, a scan macro, and a word of the user
head : StilHead
head = record {
  chains = chain ∷ [];
  procedures = record { name = codes "load_unload"; scan = true } ∷ record { name = codes "capture"; scan = false } ∷ [];
  macros = record { name = codes "load"; scan = true } ∷ [];
  keywords = codes "Goto" ∷ [];
  marks = false;
  end = 0;
}

-- what is wrong with a statement whose first line is the 14th
found : String → Option PartFault
found text = fault_in head 14 (codes text)

abbrev at_14 : Kind → Option PartFault
at_14 kind = Some (fault_at kind 14)

loads : found "Call load_unload { si=011; }" ≡ None
unfolding found head chain nowhere fault_by shape_of label_at behind_within name_at call_end block entry item word_at text_at many_within many_at put_all gathered_at tokens_from piece_at brace_piece slash_piece statements_within repeats_from whole_from
loads = refl

no_data : found "Call load_unload;" ≡ None
unfolding found head chain nowhere fault_by shape_of label_at behind_within name_at call_end block entry item word_at text_at many_within many_at put_all gathered_at tokens_from piece_at brace_piece slash_piece statements_within repeats_from whole_from
no_data = refl

macro : found "Macro load { 'x'; }" ≡ at_14 PatternSyntax
unfolding found head chain nowhere fault_by shape_of label_at behind_within name_at call_end block entry item word_at text_at many_within many_at put_all gathered_at tokens_from piece_at brace_piece slash_piece statements_within repeats_from whole_from
macro = refl

both_ports : found "Macro load { \"si\"=011; ; so=LHX; }" ≡ None
unfolding found head chain nowhere fault_by shape_of label_at behind_within name_at call_end block entry item word_at text_at many_within many_at put_all gathered_at tokens_from piece_at brace_piece slash_piece statements_within repeats_from whole_from
both_ports = refl

labels : found "x: \"y\"z : Call load_unload { si= 0 /* c */ 1 \\r1 1; }" ≡ None
unfolding found head chain nowhere fault_by shape_of label_at behind_within name_at call_end block entry item word_at text_at many_within many_at put_all gathered_at tokens_from piece_at brace_piece slash_piece statements_within repeats_from whole_from
labels = refl

no_procedure : found "Call load;" ≡ at_14 PatternUnsupported
unfolding found head chain nowhere fault_by shape_of label_at behind_within name_at call_end block entry item word_at text_at many_within many_at put_all gathered_at tokens_from piece_at brace_piece slash_piece statements_within repeats_from whole_from
no_procedure = refl

no_name : found "Call;" ≡ at_14 PatternSyntax
unfolding found head chain nowhere fault_by shape_of label_at behind_within name_at call_end block entry item word_at text_at many_within many_at put_all gathered_at tokens_from piece_at brace_piece slash_piece statements_within repeats_from whole_from
no_name = refl

data_unseen : found "Call load_unload si;" ≡ at_14 PatternSyntax
unfolding found head chain nowhere fault_by shape_of label_at behind_within name_at call_end block entry item word_at text_at many_within many_at put_all gathered_at tokens_from piece_at brace_piece slash_piece statements_within repeats_from whole_from
data_unseen = refl

nested : found "Call load_unload { V { si=011; } }" ≡ at_14 PatternSyntax
unfolding found head chain nowhere fault_by shape_of label_at behind_within name_at call_end block entry item word_at text_at many_within many_at put_all gathered_at tokens_from piece_at brace_piece slash_piece statements_within repeats_from whole_from
nested = refl

twice : found "Call load_unload { si=011; \"si\"=; }" ≡ at_14 PatternSyntax
unfolding found head chain nowhere fault_by shape_of label_at behind_within name_at call_end block entry item word_at text_at many_within many_at put_all gathered_at tokens_from piece_at brace_piece slash_piece statements_within repeats_from whole_from
twice = refl

quoted_word : found "\"V\" { a=1; }" ≡ at_14 PatternSyntax
unfolding found head chain nowhere fault_by shape_of label_at behind_within name_at call_end block entry item word_at text_at many_within many_at put_all gathered_at tokens_from piece_at brace_piece slash_piece statements_within repeats_from whole_from
quoted_word = refl

annotation : found "{* a *}" ≡ at_14 PatternSyntax
unfolding found head chain nowhere fault_by shape_of label_at behind_within name_at call_end block entry item word_at text_at many_within many_at put_all gathered_at tokens_from piece_at brace_piece slash_piece statements_within repeats_from whole_from
annotation = refl

labels_alone : found "x: ;" ≡ at_14 PatternSyntax
unfolding found head chain nowhere fault_by shape_of label_at behind_within name_at call_end block entry item word_at text_at many_within many_at put_all gathered_at tokens_from piece_at brace_piece slash_piece statements_within repeats_from whole_from
labels_alone = refl

closes_nothing_here : found "V } a;" ≡ at_14 PatternSyntax
unfolding found head chain nowhere fault_by shape_of label_at behind_within name_at call_end block entry item word_at text_at many_within many_at put_all gathered_at tokens_from piece_at brace_piece slash_piece statements_within repeats_from whole_from
closes_nothing_here = refl

unclosed : found "V a" ≡ at_14 PatternSyntax
unfolding found head chain nowhere fault_by shape_of label_at behind_within name_at call_end block entry item word_at text_at many_within many_at put_all gathered_at tokens_from piece_at brace_piece slash_piece statements_within repeats_from whole_from
unclosed = refl

user_word : found "Goto x;" ≡ None
unfolding found head chain nowhere fault_by shape_of label_at behind_within name_at call_end block entry item word_at text_at many_within many_at put_all gathered_at tokens_from piece_at brace_piece slash_piece statements_within repeats_from whole_from
user_word = refl

unlisted : found "MatchLoop 3 { V { a=1; } }" ≡ at_14 PatternUnsupported
unfolding found head chain nowhere fault_by shape_of label_at behind_within name_at call_end block entry item word_at text_at many_within many_at put_all gathered_at tokens_from piece_at brace_piece slash_piece statements_within repeats_from whole_from
unlisted = refl

label_of_word : found "V: W w;" ≡ None
unfolding found head chain nowhere fault_by shape_of label_at behind_within name_at call_end block entry item word_at text_at many_within many_at put_all gathered_at tokens_from piece_at brace_piece slash_piece statements_within repeats_from whole_from
label_of_word = refl

hidden_call : found "V { x: Call load_unload; }" ≡ at_14 PatternUnsupported
unfolding found head chain nowhere fault_by shape_of label_at behind_within name_at call_end block entry item word_at text_at many_within many_at put_all gathered_at tokens_from piece_at brace_piece slash_piece statements_within repeats_from whole_from
hidden_call = refl

no_call : found "V { a = Call load_unload; }" ≡ None
unfolding found head chain nowhere fault_by shape_of label_at behind_within name_at call_end block entry item word_at text_at many_within many_at put_all gathered_at tokens_from piece_at brace_piece slash_piece statements_within repeats_from whole_from
no_call = refl

other_procedure : found "Call capture { si=P; }" ≡ None
unfolding found head chain nowhere fault_by shape_of label_at behind_within name_at call_end block entry item word_at text_at many_within many_at put_all gathered_at tokens_from piece_at brace_piece slash_piece statements_within repeats_from whole_from
other_procedure = refl

other_holds : found "Call capture { Macro load; }" ≡ at_14 PatternUnsupported
unfolding found head chain nowhere fault_by shape_of label_at behind_within name_at call_end block entry item word_at text_at many_within many_at put_all gathered_at tokens_from piece_at brace_piece slash_piece statements_within repeats_from whole_from
other_holds = refl

other_character : found "Call load_unload { si=01P; d0=1; }" ≡ at_14 ScanCharacter
unfolding found head chain nowhere fault_by shape_of label_at behind_within name_at call_end block entry item word_at text_at many_within many_at put_all gathered_at tokens_from piece_at brace_piece slash_piece statements_within repeats_from whole_from
other_character = refl

other_alphabet : found "Call load_unload { si=LHX; }" ≡ at_14 ScanCharacter
unfolding found head chain nowhere fault_by shape_of label_at behind_within name_at call_end block entry item word_at text_at many_within many_at put_all gathered_at tokens_from piece_at brace_piece slash_piece statements_within repeats_from whole_from
other_alphabet = refl

zero_times : found "Call load_unload { si=011\\r0 1; }" ≡ at_14 ScanCharacter
unfolding found head chain nowhere fault_by shape_of label_at behind_within name_at call_end block entry item word_at text_at many_within many_at put_all gathered_at tokens_from piece_at brace_piece slash_piece statements_within repeats_from whole_from
zero_times = refl

no_digits : found "Call load_unload { si=011\\r 3 1; }" ≡ at_14 ScanCharacter
unfolding found head chain nowhere fault_by shape_of label_at behind_within name_at call_end block entry item word_at text_at many_within many_at put_all gathered_at tokens_from piece_at brace_piece slash_piece statements_within repeats_from whole_from
no_digits = refl

no_character : found "Call load_unload { si=011\\r3; }" ≡ at_14 ScanCharacter
unfolding found head chain nowhere fault_by shape_of label_at behind_within name_at call_end block entry item word_at text_at many_within many_at put_all gathered_at tokens_from piece_at brace_piece slash_piece statements_within repeats_from whole_from
no_character = refl

repeated_digit : found "Call load_unload { si=\\r3 1; }" ≡ None
unfolding found head chain nowhere fault_by shape_of label_at behind_within name_at call_end block entry item word_at text_at many_within many_at put_all gathered_at tokens_from piece_at brace_piece slash_piece statements_within repeats_from whole_from
repeated_digit = refl

repeated_letter : found "Call load_unload { so=\\r3X; }" ≡ None
unfolding found head chain nowhere fault_by shape_of label_at behind_within name_at call_end block entry item word_at text_at many_within many_at put_all gathered_at tokens_from piece_at brace_piece slash_piece statements_within repeats_from whole_from
repeated_letter = refl

quoted_data : found "Call load_unload { si=\"011\"; }" ≡ at_14 ScanCharacter
unfolding found head chain nowhere fault_by shape_of label_at behind_within name_at call_end block entry item word_at text_at many_within many_at put_all gathered_at tokens_from piece_at brace_piece slash_piece statements_within repeats_from whole_from
quoted_data = refl

mark_in_data : found "Call load_unload { si=0=11; }" ≡ at_14 ScanCharacter
unfolding found head chain nowhere fault_by shape_of label_at behind_within name_at call_end block entry item word_at text_at many_within many_at put_all gathered_at tokens_from piece_at brace_piece slash_piece statements_within repeats_from whole_from
mark_in_data = refl

foreign : found "Call load_unload { d0=P; si=01; }" ≡ at_14 ForeignData
unfolding found head chain nowhere fault_by shape_of label_at behind_within name_at call_end block entry item word_at text_at many_within many_at put_all gathered_at tokens_from piece_at brace_piece slash_piece statements_within repeats_from whole_from
foreign = refl

foreign_empty : found "Call load_unload { d0=; }" ≡ at_14 ForeignData
unfolding found head chain nowhere fault_by shape_of label_at behind_within name_at call_end block entry item word_at text_at many_within many_at put_all gathered_at tokens_from piece_at brace_piece slash_piece statements_within repeats_from whole_from
foreign_empty = refl

short : found "Call load_unload { si=01; }" ≡ at_14 ShortLoad
unfolding found head chain nowhere fault_by shape_of label_at behind_within name_at call_end block entry item word_at text_at many_within many_at put_all gathered_at tokens_from piece_at brace_piece slash_piece statements_within repeats_from whole_from
short = refl

short_compare : found "Call load_unload { so=LH; }" ≡ at_14 ShortLoad
unfolding found head chain nowhere fault_by shape_of label_at behind_within name_at call_end block entry item word_at text_at many_within many_at put_all gathered_at tokens_from piece_at brace_piece slash_piece statements_within repeats_from whole_from
short_compare = refl

no_shift : found "Call load_unload { si=; }" ≡ None
unfolding found head chain nowhere fault_by shape_of label_at behind_within name_at call_end block entry item word_at text_at many_within many_at put_all gathered_at tokens_from piece_at brace_piece slash_piece statements_within repeats_from whole_from
no_shift = refl

long : found "Call load_unload { si=0110; so=XXXH; }" ≡ at_14 LongCompare
unfolding found head chain nowhere fault_by shape_of label_at behind_within name_at call_end block entry item word_at text_at many_within many_at put_all gathered_at tokens_from piece_at brace_piece slash_piece statements_within repeats_from whole_from
long = refl

long_unknown : found "Call load_unload { si=0110; so=LLLX; }" ≡ None
unfolding found head chain nowhere fault_by shape_of label_at behind_within name_at call_end block entry item word_at text_at many_within many_at put_all gathered_at tokens_from piece_at brace_piece slash_piece statements_within repeats_from whole_from
long_unknown = refl

vast : found "Call load_unload { si=\\r600000 0; }" ≡ at_14 TooManyShifts
unfolding found head chain nowhere fault_by shape_of label_at behind_within name_at call_end block entry item word_at text_at many_within many_at put_all gathered_at tokens_from piece_at brace_piece slash_piece statements_within repeats_from whole_from
vast = refl

vast_number : found "Call load_unload { si=\\r99999999999999999999999 0; }" ≡ at_14 TooManyShifts
unfolding found head chain nowhere fault_by shape_of label_at behind_within name_at call_end block entry item word_at text_at many_within many_at put_all gathered_at tokens_from piece_at brace_piece slash_piece statements_within repeats_from whole_from
vast_number = refl

vast_expected : found "Call load_unload { si=\\r600000 0; so=\\r600000 H; }" ≡ at_14 LongCompare
unfolding found head chain nowhere fault_by shape_of label_at behind_within name_at call_end block entry item word_at text_at many_within many_at put_all gathered_at tokens_from piece_at brace_piece slash_piece statements_within repeats_from whole_from
vast_expected = refl

most : found "Call load_unload { si=\\r524288 0; }" ≡ None
unfolding found head chain nowhere fault_by shape_of label_at behind_within name_at call_end block entry item word_at text_at many_within many_at put_all gathered_at tokens_from piece_at brace_piece slash_piece statements_within repeats_from whole_from
most = refl

loop : found "Loop 2 { Call load_unload { si=011; } Call capture; ; }" ≡ None
unfolding found head chain nowhere fault_by shape_of label_at behind_within name_at call_end block entry item word_at text_at many_within many_at put_all gathered_at tokens_from piece_at brace_piece slash_piece statements_within repeats_from whole_from
loop = refl

loop_zero : found "Loop 0 { Call load_unload { si=01; } }" ≡ at_14 PatternUnsupported
unfolding found head chain nowhere fault_by shape_of label_at behind_within name_at call_end block entry item word_at text_at many_within many_at put_all gathered_at tokens_from piece_at brace_piece slash_piece statements_within repeats_from whole_from
loop_zero = refl

loop_words : found "Loop 2 x { Call load_unload { si=01; } }" ≡ at_14 PatternUnsupported
unfolding found head chain nowhere fault_by shape_of label_at behind_within name_at call_end block entry item word_at text_at many_within many_at put_all gathered_at tokens_from piece_at brace_piece slash_piece statements_within repeats_from whole_from
loop_words = refl

loop_body : found "Loop 2 {\n  Call load_unload { si=01; } Goto x; MatchLoop; }" ≡ Some (fault_at ShortLoad 15)
unfolding found head chain nowhere fault_by shape_of label_at behind_within name_at call_end block entry item word_at text_at many_within many_at put_all gathered_at tokens_from piece_at brace_piece slash_piece statements_within repeats_from whole_from
loop_body = refl

loop_order : found "Loop 2 {\n  MatchLoop; Call load_unload { si=01; } }" ≡ Some (fault_at PatternUnsupported 15)
unfolding found head chain nowhere fault_by shape_of label_at behind_within name_at call_end block entry item word_at text_at many_within many_at put_all gathered_at tokens_from piece_at brace_piece slash_piece statements_within repeats_from whole_from
loop_order = refl

loop_open : found "Loop 2 {\n  Call load_unload;\n V a }" ≡ Some (fault_at PatternSyntax 16)
unfolding found head chain nowhere fault_by shape_of label_at behind_within name_at call_end block entry item word_at text_at many_within many_at put_all gathered_at tokens_from piece_at brace_piece slash_piece statements_within repeats_from whole_from
loop_open = refl

loop_in_loop : found "Loop 2 { Call load_unload;\n Loop 3 { Call load_unload; } }" ≡ Some (fault_at PatternUnsupported 15)
unfolding found head chain nowhere fault_by shape_of label_at behind_within name_at call_end block entry item word_at text_at many_within many_at put_all gathered_at tokens_from piece_at brace_piece slash_piece statements_within repeats_from whole_from
loop_in_loop = refl

loop_deep : found "Loop 2 { V { Call load_unload; } }" ≡ at_14 PatternUnsupported
unfolding found head chain nowhere fault_by shape_of label_at behind_within name_at call_end block entry item word_at text_at many_within many_at put_all gathered_at tokens_from piece_at brace_piece slash_piece statements_within repeats_from whole_from
loop_deep = refl

loop_other : found "Loop x { V { a=1; } }" ≡ None
unfolding found head chain nowhere fault_by shape_of label_at behind_within name_at call_end block entry item word_at text_at many_within many_at put_all gathered_at tokens_from piece_at brace_piece slash_piece statements_within repeats_from whole_from
loop_other = refl

shift : found "Shift { V { a=#; } }" ≡ at_14 PatternUnsupported
unfolding found head chain nowhere fault_by shape_of label_at behind_within name_at call_end block entry item word_at text_at many_within many_at put_all gathered_at tokens_from piece_at brace_piece slash_piece statements_within repeats_from whole_from
shift = refl

-- names go without backslashes
escaped : found "Call load_unload { \"s\\i\"=011; }" ≡ None
unfolding found head chain nowhere fault_by shape_of label_at behind_within name_at call_end block entry item word_at text_at many_within many_at put_all gathered_at tokens_from piece_at brace_piece slash_piece statements_within repeats_from whole_from
escaped = refl

escaped_twice : found "Call load_unload { si=011; s\\i=011; }" ≡ at_14 PatternSyntax
unfolding found head chain nowhere fault_by shape_of label_at behind_within name_at call_end block entry item word_at text_at many_within many_at put_all gathered_at tokens_from piece_at brace_piece slash_piece statements_within repeats_from whole_from
escaped_twice = refl

-- where the lengths of the chains don't count
formed : String → Option PartFault
formed text = fault_by Form head 14 (codes text)

short_formed : formed "Call load_unload { si=01; so=LHXH; }" ≡ None
unfolding formed head chain nowhere fault_by shape_of label_at behind_within name_at call_end block entry item word_at text_at many_within many_at put_all gathered_at tokens_from piece_at brace_piece slash_piece statements_within repeats_from whole_from
short_formed = refl

vast_formed : formed "Loop 2 {\n  Call load_unload { si=\\r524289 0; } }" ≡ Some (fault_at TooManyShifts 15)
unfolding formed head chain nowhere fault_by shape_of label_at behind_within name_at call_end block entry item word_at text_at many_within many_at put_all gathered_at tokens_from piece_at brace_piece slash_piece statements_within repeats_from whole_from
vast_formed = refl
