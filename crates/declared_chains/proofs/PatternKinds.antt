-- The kinds of the faults of `play`: those before the patterns come before those of the patterns.
use Rattle.std.proofs.Common.{◌≡◌, ◌<◌, ◌≤◌, ℕ, zero, suc, ◌+◌, ◌-◌, ◌||◌, not, nat_lt, Bool, true, false, List, [], ◌∷◌, length, take, drop, Option, Some, None, cond, codes, refl, sym, ◌∙◌, ap, subst, arith}
use Rattle.std.specs.Str.{bytes_eq}
use Rattle.token_forms.specs.Tokens.{Token}
use Rattle.base_types.specs.declared.fault.Fault.{Fault}
use Rattle.base_types.specs.declared.fault.FileKind.{FileKind}
use Rattle.base_types.specs.declared.fault.FileKind.TheVariants.{Verilog, Stil}
use Rattle.base_types.specs.declared.kind.Kind.{Kind}
use Rattle.base_types.specs.declared.kind.Kind.TheVariants as kinds
use Rattle.base_types.specs.Faults.{number_of, at_line}
use Rattle.cell_table.specs.Cells.{Cells}
use Rattle.cell_table.specs.Entries.{HoldsInTable, Syntax, Top, Cell}
use Rattle.netlist_core.specs.declared.netlist.Netlist.{Netlist}
use Rattle.verilog_checks.proofs.VerilogFaults.{early}
use Rattle.chain_trace.proofs.TraceKinds.{trace_early}
use Rattle.traced_paths.specs.Traced.{HoldsInPaths, OfPort, OfCount, OfTrace, OfCell}
use Rattle.head_checks.specs.Heads.{HoldsInHeads, OfPort as OfWrongPort, OfLength, OfInversion, OfCells}
use Rattle.stil_types.specs.declared.head.StilHead.{StilHead}
use Rattle.stil_head.specs.Faults.{HoldsInHead, Syntax as HeadSyntax, Twice as HeadTwice, Barred}
use Rattle.stil_syntax.specs.declared.shape.Shape.{Shape}
use Rattle.stil_syntax.specs.declared.shape.Shape.TheVariants as shapes
use Rattle.stil_syntax.specs.Names.{is_word}
use Rattle.stil_syntax.specs.Shapes.{body_statements, shape_of, behind_labels, closes_nothing}
use Rattle.stil_tokens.specs.StilTokens.{tokens_in}
use Rattle.stil_tokens.specs.StilStatements.{is_closed}
use Rattle.stil_parts.specs.declared.gap.Comment.TheVariants.{Outside}
use Rattle.stil_parts.specs.declared.gap.Gap.{Gap}
use Rattle.stil_parts.specs.declared.gap.Point.{Point}
use Rattle.stil_parts.specs.declared.gap.Place.{Place}
use Rattle.stil_parts.specs.declared.gap.Place.TheVariants.{Top as AtTop, Pattern}
use Rattle.stil_parts.specs.declared.part.Part.{Part}
use Rattle.stil_parts.specs.declared.part.Part.TheVariants.{Passes, Opens, Whole}
use Rattle.stil_parts.specs.declared.part.PartFault.{PartFault}
use Rattle.stil_parts.specs.Gaps.{gap_at}
use Rattle.stil_parts.specs.Parts.{part_at, part_len}
use Rattle.stil_parts.specs.Coming.{largest, most, Event, Coming, Judge, Turn, Refused, Taken, fault_at, ending, stopped, before, moved, judged, sized, gap_turn, turn_in, next_turn, to_come}
use Rattle.stil_parts.specs.Heads.{head_len}
use Rattle.stil_calls.specs.declared.judging.Judging.TheVariants.{Lengths}
use Rattle.stil_calls.specs.Faults.{kind_of, is_pattern_syntax, is_pattern_unsupported, is_scan_character, is_foreign_data, is_short_load, is_long_compare, is_too_many_shifts, fault_or, body_fault, inner_fault, fault_by, fault_in}
use Rattle.stil_calls.specs.Parts.{opening_kind, passing_kind, passing_in, opened_in, judge_by, judge_of}
use Rattle.stil_reader.specs.Sayings.{told_before, told_whole, beginning}
use Rattle.declared_chains.specs.Faults.{HoldsBeforePatterns, OfTable, OfVerilog, OfHead, OfPaths, OfDeclarations, OfBits}

-- the kinds of faults of patterns: PatternSyntax to PatternSize
abbrev pub IsPatternKind : Kind → Type 0
IsPatternKind kind = (80 ≤ number_of kind) × (number_of kind ≤ 88)

-- the kind's number is below that of the first kind of patterns
abbrev pub IsEarlyKind : Fault → Type 0
IsEarlyKind f = number_of f.kind < 80

of_line : (kind : Kind) (file : FileKind) (line : ℕ) (f : Fault) → f ≡ at_line kind file line → number_of f.kind ≡ number_of kind
of_line kind file line f is = ap (λ (x : Fault). number_of x.kind) is

of_table : (table : List ℕ) (f : Fault) → HoldsInTable table f → IsEarlyKind f
of_table table _ (Syntax none) = omega arith
of_table table _ (Top document is wrong) = omega arith
of_table table _ (Cell document entries name is has least) = omega arith

of_head : (text : List ℕ) (f : Fault) → HoldsInHead text f → IsEarlyKind f
of_head text _ (HeadSyntax place there) = omega arith
of_head text _ (HeadTwice place there) = omega arith
of_head text _ (Barred place there) = omega arith

of_paths : (n : Netlist) (cells : Cells) (file : FileKind) (asked : _) (f : Fault) → HoldsInPaths n cells file asked f → IsEarlyKind f
of_paths n cells file asked f (OfPort line is at) = let kind = of_line kinds.NoPort file line f at in omega (arith, kind)
of_paths n cells file asked f (OfCount line is at) = let kind = of_line kinds.TooManyPaths file line f at in omega (arith, kind)
of_paths n cells file asked f (OfTrace met) = let high = trace_early n cells met.net f met.met in omega (arith, high)
of_paths n cells file asked f (OfCell line is at) = let kind = of_line kinds.SharedCell Verilog line f at in omega (arith, kind)

of_declarations : (n : Netlist) (cells : Cells) (paths : _) (head : StilHead) (f : Fault) → HoldsInHeads n cells paths head f → IsEarlyKind f
of_declarations n cells paths head _ (OfWrongPort line fails) = omega arith
of_declarations n cells paths head _ (OfLength line fails) = omega arith
of_declarations n cells paths head _ (OfInversion line fails) = omega arith
of_declarations n cells paths head _ (OfCells line fails) = omega arith

pub before_early : (table verilog text : List ℕ) (f : Fault) → HoldsBeforePatterns table verilog text f → IsEarlyKind f
before_early table verilog text f (OfTable h) = of_table table f h
before_early table verilog text f (OfVerilog h) = let high = early verilog f h in omega (arith, high)
before_early table verilog text f (OfHead h) = of_head text f h
before_early table verilog text f (OfPaths cells n head read h) = of_paths n cells Stil _ f h
before_early table verilog text f (OfDeclarations cells n head paths traced h) = of_declarations n cells paths head f h
before_early table verilog text f (OfBits cells n head paths traced h) = let kind = of_line kinds.TooManyBits Verilog n.line f h.is in omega (arith, kind)

-- the fault, if there is one, is of a kind of patterns
abbrev IsLate : Option PartFault → Type 0
IsLate None = Unit {0}
IsLate (Some f) = IsPatternKind f.kind

-- so is the kind, if there is one
abbrev IsLateKind : Option Kind → Type 0
IsLateKind None = Unit {0}
IsLateKind (Some kind) = IsPatternKind kind

if_late : (b : Bool) (kind : Kind) (more : Option Kind) → IsLateKind (Some kind) → IsLateKind more → IsLateKind (cond b (Some kind) more)
if_late true kind more one other = one
if_late false kind more one other = other

late_kind : (head : StilHead) (shape : Shape) → IsLateKind (kind_of Lengths head shape)
late_kind head shape =
    if_late (is_pattern_syntax shape) kinds.PatternSyntax _ (omega arith, omega arith)
    (if_late (is_pattern_unsupported shape) kinds.PatternUnsupported _ (omega arith, omega arith)
    (if_late (is_scan_character head shape) kinds.ScanCharacter _ (omega arith, omega arith)
    (if_late (is_foreign_data head shape) kinds.ForeignData _ (omega arith, omega arith)
    (if_late (is_short_load head shape) kinds.ShortLoad _ (omega arith, omega arith)
    (if_late (is_long_compare head shape) kinds.LongCompare _ (omega arith, omega arith)
    (if_late (is_too_many_shifts head shape) kinds.TooManyShifts None (omega arith, omega arith) tt))))))

late_or : (kind : Option Kind) (line : ℕ) (more : Option PartFault) → IsLateKind kind → IsLate more → IsLate (fault_or kind line more)
late_or None line more one other = other
late_or (Some kind) line more one other = one

late_body : (head : StilHead) (line : ℕ) (text : List ℕ) (ss : List (List Token)) → IsLate (body_fault Lengths head line text ss)
late_body head line text [] = tt
late_body head line text (s ∷ ss) = late_or (kind_of Lengths head (shape_of head true s)) _ _ (late_kind head (shape_of head true s)) (late_body head line text ss)

late_inner : (head : StilHead) (line : ℕ) (text : List ℕ) (shape : Shape) → IsLate (inner_fault Lengths head line text shape)
late_inner head line text (shapes.Loop times body) = late_body head line text (body_statements body)
late_inner head line text shape = tt

late_statement : (head : StilHead) (line : ℕ) (text : List ℕ) → IsLate (fault_in head line text)
unfolding fault_by
late_statement head line text =
    let shape = shape_of head false (tokens_in text) in
    late_or (kind_of Lengths head shape) line _ (late_kind head shape) (late_inner head line text shape)

late_opening : (name : Option (List ℕ)) → IsLateKind (opening_kind name)
late_opening None = (omega arith, omega arith)
late_opening (Some name) = tt

late_ann : (b : Bool) → IsLateKind (cond b None (Some kinds.PatternUnsupported))
late_ann true = tt
late_ann false = (omega arith, omega arith)

late_passing : (ts : List Token) → IsLateKind (passing_kind ts)
late_passing [] = (omega arith, omega arith)
late_passing (t ∷ ts) = if_late (not (is_word t.text) || bytes_eq t.text (codes "Pattern")) kinds.PatternSyntax _ (omega arith, omega arith) (late_ann (bytes_eq t.text (codes "Ann")))

late_top : (text : List ℕ) → IsLateKind (passing_in text)
unfolding passing_in
late_top text =
    let ts = tokens_in text in
    if_late (not (is_closed ts) || closes_nothing 0 ts) kinds.PatternSyntax _ (omega arith, omega arith) (late_passing (behind_labels ts))

late_part : (head : StilHead) (p : Point) (part : Part) (text : List ℕ) → IsLate (judge_of head p part text)
unfolding judge_by
late_part head p (Whole n) text = late_statement head p.line text
late_part head p (Opens n) text = late_or (opening_kind (opened_in text)) p.line None (late_opening (opened_in text)) tt
late_part head p (Passes n) text = late_or (passing_in text) p.line None (late_top text) tt

-- a turn that refuses does so by a kind of patterns
abbrev IsLateTurn : Turn → Type 0
IsLateTurn (Refused f) = IsPatternKind f.kind
IsLateTurn (Taken n es q) = Unit {0}

abbrev IsLateNext : Option Turn → Type 0
IsLateNext None = Unit {0}
IsLateNext (Some turn) = IsLateTurn turn

if_turn : (b : Bool) (one other : Turn) → IsLateTurn one → IsLateTurn other → IsLateTurn (cond b one other)
if_turn true one other first second = first
if_turn false one other first second = second

if_next : (b : Bool) (one other : Option Turn) → IsLateNext one → IsLateNext other → IsLateNext (cond b one other)
if_next true one other first second = first
if_next false one other first second = second

late_sized : (p : Point) (n : ℕ) (turn : Turn) → IsLateTurn turn → IsLateTurn (sized p n turn)
late_sized p n turn late =
    if_turn (nat_lt largest n) (Refused (fault_at kinds.StatementSize p.line)) _ (omega arith, omega arith)
    (if_turn (nat_lt most (p.given + n)) (Refused (fault_at kinds.PatternSize p.line)) turn (omega arith, omega arith) late)

late_judged : (f : Option PartFault) (n : ℕ) (es : List Event) (q : Point) → IsLate f → IsLateTurn (judged f n es q)
late_judged None n es q late = tt
late_judged (Some f) n es q late = late

late_in : (head : StilHead) (p : Point) (bs : List ℕ) (part : Option Part) → IsLateNext (turn_in (judge_of head) true p bs part)
late_in head p bs None =
    if_next (nat_lt largest (length bs)) (Some (Refused (fault_at kinds.StatementSize p.line))) _ (omega arith, omega arith)
    (if_next (nat_lt 0 (length bs)) (Some (sized p (length bs) (Refused (fault_at kinds.PatternSyntax p.line)))) None
    (late_sized p (length bs) (Refused (fault_at kinds.PatternSyntax p.line)) (omega arith, omega arith)) tt)
late_in head p bs (Some part) = late_sized p (part_len part) _ (late_judged _ _ _ _ (late_part head p part (take (part_len part) bs)))

late_gap : (p : Point) (bs : List ℕ) (g : Gap) → IsLateTurn (gap_turn p bs g)
late_gap p bs g = if_turn (nat_lt most (p.given + g.len)) (Refused (fault_at kinds.PatternSize p.line)) _ (omega arith, omega arith) tt

late_next : (head : StilHead) (p : Point) (bs : List ℕ) → IsLateNext (next_turn (judge_of head) true p bs)
unfolding next_turn
late_next head p bs =
    let g = gap_at p.place p.comment bs in
    if_next (nat_lt 0 g.len) (Some (gap_turn p bs g)) _ (late_gap p bs g) (late_in head p bs (part_at true p.place bs))

late_ending : (place : Place) → IsLate (ending place).fault
late_ending AtTop = tt
late_ending (Pattern line) = (omega arith, omega arith)

-- what comes by its first turn
come_none : (judge : Judge) (p : Point) (b : ℕ) (bs : List ℕ) → next_turn judge true p (b ∷ bs) ≡ None → to_come judge p 0 (b ∷ bs) ≡ ending p.place
unfolding to_come
come_none judge p b bs e = rw (e, to_come) refl

come_refused : (judge : Judge) (p : Point) (b : ℕ) (bs : List ℕ) (f : PartFault) → next_turn judge true p (b ∷ bs) ≡ Some (Refused f) → to_come judge p 0 (b ∷ bs) ≡ stopped f
unfolding to_come
come_refused judge p b bs f e = rw (e, to_come) refl

come_taken : (judge : Judge) (p : Point) (b : ℕ) (bs : List ℕ) (n : ℕ) (es : List Event) (q : Point) → next_turn judge true p (b ∷ bs) ≡ Some (Taken n es q)
    → to_come judge p 0 (b ∷ bs) ≡ before es (to_come judge q (n - 1) bs)
unfolding to_come
come_taken judge p b bs n es q e = rw (e, to_come) refl

come_empty : (judge : Judge) (p : Point) (inside : ℕ) → to_come judge p inside [] ≡ ending p.place
unfolding to_come
come_empty judge p zero = refl
come_empty judge p (suc n) = refl

come_inside : (judge : Judge) (p : Point) (inside b : ℕ) (bs : List ℕ) → to_come judge p (suc inside) (b ∷ bs) ≡ to_come judge p inside bs
unfolding to_come
come_inside judge p inside b bs = refl

late_same : (one other : Coming) → one ≡ other → IsLate other.fault → IsLate one.fault
late_same one other e late = subst (λ (c : Coming). IsLate c.fault) (sym e) late

late_come : (head : StilHead) (bs : List ℕ) (p : Point) (inside : ℕ) → IsLate (to_come (judge_of head) p inside bs).fault
late_come head [] p inside = late_same _ _ (come_empty (judge_of head) p inside) (late_ending p.place)
late_come head (b ∷ bs) p (suc inside) = late_same _ _ (come_inside (judge_of head) p inside b bs) (late_come head bs p inside)
late_come head (b ∷ bs) p zero = by_turn (next_turn (judge_of head) true p (b ∷ bs)) refl (late_next head p (b ∷ bs)) (λ q n. late_come head bs q n)
  where
    by_turn : (turn : Option Turn) → next_turn (judge_of head) true p (b ∷ bs) ≡ turn → IsLateNext turn → ((q : Point) (n : ℕ) → IsLate (to_come (judge_of head) q n bs).fault)
        → IsLate (to_come (judge_of head) p 0 (b ∷ bs)).fault
    by_turn None e late more = late_same _ _ (come_none (judge_of head) p b bs e) (late_ending p.place)
    by_turn (Some (Refused f)) e late more = late_same _ _ (come_refused (judge_of head) p b bs f e) late
    by_turn (Some (Taken n es q)) e late more = late_same _ _ (come_taken (judge_of head) p b bs n es q e) (more q (n - 1))

-- a fault of the patterns, which come where the head's end shows
pub pattern_late : (head : StilHead) (stil : List ℕ) (n : ℕ) (f : PartFault) → head_len stil ≡ Some n → (told_whole head stil).fault ≡ Some f → IsPatternKind f.kind
pattern_late head stil n f shows says =
    let whole : (told_whole head stil).fault ≡ (told_before head beginning stil (Some n)).fault = ap (λ (o : Option ℕ). (told_before head beginning stil o).fault) shows in
    let late : IsLate (told_before head beginning stil (Some n)).fault = late_come head (drop n stil) (moved beginning (take n stil) AtTop Outside) 0 in
    subst IsLate (sym whole ∙ says) late
