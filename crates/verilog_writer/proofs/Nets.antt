-- The nets of a netlist that a text denotes are net bits.
use Rattle.std.proofs.Common.{◌≡◌, ℕ, zero, suc, ◌≤◌, Bool, true, false, cond, not, List, [], ◌∷◌, ◌++◌, map, option_map, Option, Some, None, Ok, Err, Result, refl, sym, subst, arith}
use Rattle.std.specs.List.{flat_map, list_any}
use Rattle.std.proofs.lemmas.Bool.{ltb-false, not-true}
use Rattle.std.specs.List.{AllByRecursion as Each}
use Rattle.verilog_syntax.specs.Seams.{is_escapable}
use Rattle.base_types.specs.declared.fault.Fault.{Fault}
use Rattle.base_types.proofs.TruthValues.{or_first, or_second, and_first, and_second}
use Rattle.splice.proofs.Tokens.{each_front, each_behind, each_join}
use Rattle.netlist_core.specs.declared.netlist.NetName.{NetName}
use Rattle.verilog_syntax.specs.declared.statement.Declared.{Declared}
use Rattle.verilog_syntax.specs.declared.statement.Range.{Range}
use Rattle.verilog_syntax.specs.declared.statement.Item.{Item}
use Rattle.verilog_syntax.specs.declared.statement.Item.TheVariants as items
use Rattle.verilog_syntax.specs.declared.statement.Connection.{Connection}
use Rattle.verilog_syntax.specs.declared.statement.Statement.{Statement}
use Rattle.verilog_syntax.specs.declared.statement.Statement.TheVariants as statements
use Rattle.verilog_syntax.specs.declared.reading.Placed.{Placed}
use Rattle.verilog_syntax.specs.StatementParts.{IsName, IsExpression, IsAnyExpression, IsGoodConnection, IsGoodStatement}
use Rattle.verilog_syntax.proofs.SpelledLaw.{spelled_law}
use Rattle.verilog_syntax.proofs.Trees.{Begins, Behind, expression_begins}
use Rattle.verilog_names.specs.declared.bounds.Bounds.{Bounds}
use Rattle.verilog_names.specs.Values.{decimal_value, is_big_index, bit_name}
use Rattle.verilog_names.specs.Declarations.{indexes, width, Declaration, declaration_of, declarations_in, declarations, is_declared, bounds_of, has, mentions_of, connection_items, items_in, mentions_in, mentions, undeclared_in}
use Rattle.verilog_reader.specs.Denoted.{first_declared, first_mentioned, net_entries, entry_nets, bit_text}
use Rattle.verilog_checks.specs.Faults.{is_bad_range, range_in, is_bad_number}
use Rattle.verilog_checks.specs.Steps.{has_bad_number, are_small}
use Rattle.verilog_reader.proofs.BitNaming.{IsSmall, indexes_within}
use Rattle.verilog_reader.proofs.BitNaming as naming
use Rattle.verilog_checks.proofs.Faultless.{Passed, passed}
use Rattle.verilog_checks.proofs.Small.{small_passed}
use Rattle.verilog_writer.specs.NetTexts.{IsNetText, NetsLaw}
use Rattle.verilog_writer.proofs.Names.{plain_escapable}

abbrev pub CanBeEscaped : List ℕ → Type 0
CanBeEscaped name = is_escapable name ≡ true

-- the names that statements mention
abbrev AreNamed : List Item → Type 0
AreNamed all = Each CanBeEscaped (flat_map mentions_of all)

mutual
  begins_named : (all : List Item) (depth : ℕ) → Begins all depth → AreNamed all
  begins_named [] depth h = tt
  begins_named (items.Open ∷ others) depth h = begins_named others (suc depth) h
  begins_named (items.Comma ∷ others) depth h = absurd h
  begins_named (items.Close ∷ others) depth h = absurd h
  begins_named (items.Name name ∷ others) depth h = (plain_escapable name h.0, behind_named others depth h.1)
  begins_named (items.Bit name index ∷ others) depth h = (plain_escapable name h.0.0, behind_named others depth h.1)
  begins_named (items.Part name left right ∷ others) depth h = (plain_escapable name h.0.0, behind_named others depth h.1)
  begins_named (items.Constant text ∷ others) depth h = behind_named others depth h.1

  behind_named : (all : List Item) (depth : ℕ) → Behind all depth → AreNamed all
  behind_named [] depth h = tt
  behind_named (i ∷ others) zero h = absurd h
  behind_named (items.Open ∷ others) (suc depth) h = absurd h
  behind_named (items.Comma ∷ others) (suc depth) h = begins_named others (suc depth) h
  behind_named (items.Close ∷ others) (suc depth) h = behind_named others depth h
  behind_named (items.Name name ∷ others) (suc depth) h = absurd h
  behind_named (items.Bit name index ∷ others) (suc depth) h = absurd h
  behind_named (items.Part name left right ∷ others) (suc depth) h = absurd h
  behind_named (items.Constant text ∷ others) (suc depth) h = absurd h

expression_named : (all : List Item) → IsExpression all → AreNamed all
expression_named all good = begins_named all 0 (expression_begins all good)

any_named : (all : List Item) → IsAnyExpression all → AreNamed all
any_named [] good = tt
any_named (i ∷ others) good = expression_named (i ∷ others) good

named_join : (xs ys : List Item) → AreNamed xs → AreNamed ys → AreNamed (xs ++ ys)
named_join [] ys a b = b
named_join (x ∷ xs) ys a b =
    each_join CanBeEscaped (mentions_of x) (flat_map mentions_of (xs ++ ys)) (each_front CanBeEscaped (mentions_of x) (flat_map mentions_of xs) a)
    (named_join xs ys (each_behind CanBeEscaped (mentions_of x) (flat_map mentions_of xs) a) b)

connections_named : (cs : List Connection) → Each IsGoodConnection cs → AreNamed (connection_items cs)
connections_named [] good = tt
connections_named (c ∷ cs) good = named_join c.expression.items (connection_items cs) (any_named c.expression.items good.0.expression) (connections_named cs good.1)

statement_named : (listed : Bool) (s : Statement) → IsGoodStatement listed s → AreNamed (items_in s)
statement_named listed (statements.Module name ports) good = tt
statement_named listed (statements.Declare kind range names) good = tt
statement_named listed (statements.Assign left right) good = named_join left.items right.items (expression_named left.items good.0) (expression_named right.items good.2)
statement_named listed (statements.Instance cell name connections) good = connections_named connections good.2

mentions_named : (listed : Bool) (ps : List Placed) → Each (λ (p : Placed). IsGoodStatement listed p.statement) ps → Each CanBeEscaped (mentions ps)
mentions_named listed [] good = tt
mentions_named listed (p ∷ ps) good = each_join CanBeEscaped (mentions_in p.statement) (mentions ps) (statement_named listed p.statement good.0) (mentions_named listed ps good.1)

-- and those that they declare
abbrev pub HasSmall : Option Bounds → Type 0
HasSmall None = Unit {0}
HasSmall (Some b) = IsSmall b

abbrev IsSoundDeclaration : Declaration → Type 0
IsSoundDeclaration d = CanBeEscaped d.name × HasSmall d.bounds

range_small : (range : Option Range) → is_bad_range range ≡ false → HasSmall (option_map bounds_of range)
range_small None h = tt
range_small (Some range) h = (
  ltb-false 65535 (decimal_value range.left) (or_first (is_big_index range.left) (is_big_index range.right) h),
  ltb-false 65535 (decimal_value range.right) (or_second (is_big_index range.left) (is_big_index range.right) h),
)

names_sound : (kind : Declared) (range : Option Range) (names : List (List ℕ)) → HasSmall (option_map bounds_of range) → Each IsName names → Each IsSoundDeclaration (map (declaration_of kind range) names)
names_sound kind range [] small good = tt
names_sound kind range (name ∷ names) small good = ((plain_escapable name good.0, small), names_sound kind range names small good.1)

statement_sound : (listed : Bool) (s : Statement) → IsGoodStatement listed s → is_bad_range (range_in s) ≡ false → Each IsSoundDeclaration (declarations_in s)
statement_sound listed (statements.Module name ports) good small = tt
statement_sound listed (statements.Declare kind range names) good small = names_sound kind range names (range_small range small) good.2
statement_sound listed (statements.Assign left right) good small = tt
statement_sound listed (statements.Instance cell name connections) good small = tt

declarations_sound : (listed : Bool) (ps : List Placed) → Each (λ (p : Placed). IsGoodStatement listed p.statement) ps → are_small ps ≡ true → Each IsSoundDeclaration (declarations ps)
declarations_sound listed [] good small = tt
declarations_sound listed (p ∷ ps) good small =
    let own = not-true (has_bad_number p.statement) (and_first (not (has_bad_number p.statement)) _ small) in
    let range = or_first (is_bad_range (range_in p.statement)) (list_any is_bad_number (items_in p.statement)) own in
    each_join IsSoundDeclaration (declarations_in p.statement) (declarations ps) (statement_sound listed p.statement good.0 range)
    (declarations_sound listed ps good.1 (and_second (not (has_bad_number p.statement)) _ small))

-- so the entries of the nets have names that can be escaped, and small bounds
abbrev pub IsSoundEntry : List ℕ × Option Bounds → Type 0
IsSoundEntry e = CanBeEscaped e.0 × HasSmall e.1

declared_sound : (before ds : List Declaration) → Each IsSoundDeclaration ds → Each IsSoundEntry (first_declared before ds)
unfolding first_declared
declared_sound before [] sound = tt
declared_sound before (d ∷ ds) sound =
    let more = declared_sound (before ++ d ∷ []) ds sound.1 in
    elim (is_declared before d.name) as (λ t. Each IsSoundEntry (cond t (first_declared (before ++ d ∷ []) ds) ((d.name, d.bounds) ∷ first_declared (before ++ d ∷ []) ds))) [
      | true ↦ more
      | false ↦ (sound.0, more)
    ]

mentioned_sound : (before names : List (List ℕ)) → Each CanBeEscaped names → Each IsSoundEntry (first_mentioned before names)
unfolding first_mentioned
mentioned_sound before [] sound = tt
mentioned_sound before (name ∷ names) sound =
    let more = mentioned_sound (before ++ name ∷ []) names sound.1 in
    elim (has before name) as (λ t. Each IsSoundEntry (cond t (first_mentioned (before ++ name ∷ []) names) ((name, None) ∷ first_mentioned (before ++ name ∷ []) names))) [
      | true ↦ more
      | false ↦ ((sound.0, tt), more)
    ]

undeclared_sound : (ds : List Declaration) (names : List (List ℕ)) → Each CanBeEscaped names → Each CanBeEscaped (undeclared_in ds names)
undeclared_sound ds [] sound = tt
undeclared_sound ds (name ∷ names) sound =
    elim (not (is_declared ds name)) as (λ t. Each CanBeEscaped (cond t (name ∷ undeclared_in ds names) (undeclared_in ds names))) [
      | true ↦ (sound.0, undeclared_sound ds names sound.1)
      | false ↦ undeclared_sound ds names sound.1
    ]

-- and the nets are net bits
abbrev IsWrittenNet : NetName → Type 0
IsWrittenNet net = IsNetText net.plain net.text

bits_written : (name : List ℕ) (b : Bounds) → CanBeEscaped name → IsSmall b → (is : List ℕ) → Each (naming.IsIndex b) is → Each IsWrittenNet (map (λ i. record { plain = bit_name name i; text = bit_text name i }) is)
bits_written name b black small [] within = tt
bits_written name b black small (i ∷ is) within =
    let low : i ≤ 65535 = omega (arith, small.0, small.1, within.0.1) in
    (record { bit = record { name = name; index = Some i }; is = record { name = black; index = omega (arith, low) }; named = refl; written = refl }, bits_written name b black small is within.1)

entry_written : (name : List ℕ) (bounds : Option Bounds) → CanBeEscaped name → HasSmall bounds → Each IsWrittenNet (entry_nets name bounds)
entry_written name None black small = (record { bit = record { name = name; index = None }; is = record { name = black; index = tt }; named = refl; written = refl }, tt)
entry_written name (Some b) black small = bits_written name b black small (indexes b) (indexes_within b 0 (width b) (omega arith))

entries_written : (es : List (List ℕ × Option Bounds)) → Each IsSoundEntry es → Each IsWrittenNet (flat_map (λ e. entry_nets e.0 e.1) es)
entries_written [] sound = tt
entries_written (e ∷ es) sound = each_join IsWrittenNet (entry_nets e.0 e.1) (flat_map (λ e. entry_nets e.0 e.1) es) (entry_written e.0 e.1 sound.0.0 sound.0.1) (entries_written es sound.1)

pub entries_sound : (text : List ℕ) (ps : List Placed) → Passed text ps → Each IsSoundEntry (net_entries ps)
entries_sound text ps p =
    let s = spelled_law text ps p.read in
    let declared = declarations_sound s.listed ps s.good.good (small_passed ps p.number) in
    let mentioned = undeclared_sound (declarations ps) (mentions ps) (mentions_named s.listed ps s.good.good) in
    each_join IsSoundEntry (first_declared [] (declarations ps)) (first_mentioned [] (undeclared_in (declarations ps) (mentions ps))) (declared_sound [] (declarations ps) declared)
    (mentioned_sound [] (undeclared_in (declarations ps) (mentions ps)) mentioned)

pub nets_law : NetsLaw
nets_law text n d = subst (Each IsWrittenNet) (sym d.is.nets) (entries_written (net_entries d.statements) (entries_sound text d.statements (passed text d.statements d.reads)))
