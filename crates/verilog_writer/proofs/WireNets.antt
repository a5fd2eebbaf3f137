-- The nets of statements with wires in front and assigns behind: the wires, and then those that were there.
use Rattle.std.proofs.Common.{◌≡◌, ℕ, suc, ◌+◌, ◌≤◌, Bool, true, false, cond, ◌||◌, List, [], ◌∷◌, ◌++◌, length, map, Option, None, refl, sym, ap, ap₂, ◌∙◌, subst, append_assoc, arith}
use Rattle.std.specs.List.{flat_map, AllByRecursion as Each}
use Rattle.std.specs.Set.{is_member}
use Rattle.std.specs.Str.{bytes_eq}
use Rattle.std.proofs.lemmas.Bool.{false≢true, or_parts}
use Rattle.std.proofs.lemmas.List.{append-nil, length-map}
use Rattle.std.proofs.lemmas.List.Folds.{list_any-append}
use Rattle.std.proofs.lemmas.Map.Made.{length-le_from_is_member}
use Rattle.verilog_syntax.specs.declared.reading.Placed.{Placed}
use Rattle.verilog_syntax.specs.StatementParts.{is_header}
use Rattle.verilog_names.specs.declared.bounds.Bounds.{Bounds}
use Rattle.verilog_names.specs.NameTables.{total}
use Rattle.verilog_names.specs.Declarations.{Declaration, declarations, is_declared, mentions, undeclared_in}
use Rattle.verilog_reader.specs.Denoted.{first_declared, first_mentioned}
use Rattle.verilog_reader.specs.Numbering.{entries}
use Rattle.verilog_reader.proofs.Checked.{mentioned_named, declared_named}
use Rattle.verilog_reader.proofs.Distinct.{Distinct, each_weaker}
use Rattle.verilog_reader.proofs.Filling.{Entries}
use Rattle.verilog_reader.proofs.Places.{named, entries_are}
use Rattle.verilog_writer.specs.Inserted.{BitAssign, extended}
use Rattle.verilog_writer.proofs.KeptCounts.{total_append, names_of, total_mentioned, mentioned_each, first_apart, laws, member_named, named_has, undeclared_each, first_named}
use Rattle.verilog_writer.proofs.KeptDenoted.{nets_from, plains}
use Rattle.verilog_writer.proofs.KeptNets.{undeclared_new}
use Rattle.verilog_writer.proofs.WireNames.{IsNew, wire_of, skip_declared, AllNew, pushed_all, no_before}
use Rattle.verilog_writer.proofs.WireParts.{IsNearAssign, said, declared_more, known_skip, named_back}

-- the first declarations
first_wires : (before : List Declaration) (names : List (List ℕ)) (ds : List Declaration) → Distinct names → AllNew before names
    → first_declared before (map wire_of names ++ ds) ≡ said names ++ first_declared (before ++ map wire_of names) ds
unfolding first_declared
first_wires before [] ds apart all = ap (λ (l : List Declaration). first_declared l ds) (sym (append-nil before))
first_wires before (name ∷ names) ds apart all =
    let behind = before ++ wire_of name ∷ [] in
    let w : List ℕ × Option Bounds = (name, None) in
    ap (λ (t : Bool). cond t (first_declared behind (map wire_of names ++ ds)) (w ∷ first_declared behind (map wire_of names ++ ds))) all.0
    ∙ ap (λ (l : Entries). w ∷ l) (first_wires behind names ds apart.1 (pushed_all before name names all.1 apart.0))
    ∙ ap (λ (l : List Declaration). w ∷ (said names ++ first_declared l ds)) (append_assoc before (wire_of name ∷ []) (map wire_of names))

first_behind : (ws before ds : List Declaration) → Each (λ (d : Declaration). is_declared ws d.name ≡ false) ds → first_declared (ws ++ before) ds ≡ first_declared before ds
unfolding first_declared
first_behind ws before [] none = refl
first_behind ws before (d ∷ ds) none =
    let w : List ℕ × Option Bounds = (d.name, d.bounds) in
    let more : first_declared ((ws ++ before) ++ d ∷ []) ds ≡ first_declared (before ++ d ∷ []) ds
    = ap (λ (l : List Declaration). first_declared l ds) (append_assoc ws before (d ∷ [])) ∙ first_behind ws (before ++ d ∷ []) ds none.1
    in
    ap₂ (λ (t : Bool) (l : Entries). cond t l (w ∷ l)) (skip_declared d.name ws before none.0) more

pub first_more : (names : List (List ℕ)) (ds : List Declaration) → Distinct names → Each (λ (d : Declaration). is_declared (map wire_of names) d.name ≡ false) ds
    → first_declared [] (map wire_of names ++ ds) ≡ said names ++ first_declared [] ds
first_more names ds apart none =
    first_wires [] names ds apart (no_before names)
    ∙ ap (λ (l : Entries). said names ++ l) (ap (λ (l : List Declaration). first_declared l ds) (sym (append-nil (map wire_of names))) ∙ first_behind (map wire_of names) [] ds none)

pub said_plains : (names : List (List ℕ)) (es : Entries) → plains (nets_from (said names ++ es)) ≡ names ++ plains (nets_from es)
said_plains [] es = refl
said_plains (name ∷ names) es = ap (λ (l : List (List ℕ)). name ∷ l) (said_plains names es)

said_total : (names : List (List ℕ)) → total (said names) ≡ length names
said_total [] = refl
said_total (name ∷ names) = let more = said_total names in omega (arith, more)

or_right : (a b : Bool) → (a || b) ≡ true → a ≡ false → b ≡ true
or_right true b is none = absurd (false≢true (sym none))
or_right false b is none = is

module _ (h : Placed) (body : List Placed) (header : is_header h.statement ≡ true) (names : List (List ℕ)) (assigns : List BitAssign) (news : Each (IsNew (h ∷ body)) names) (near : Each (IsNearAssign (h ∷ body) names) assigns) (apart : Distinct names) where
  abbrev ps : List Placed
  ps = h ∷ body

  abbrev more : List Placed
  more = extended names assigns (h ∷ body)

  abbrev ws : List Declaration
  ws = map wire_of names

  none : Each (λ (d : Declaration). is_declared ws d.name ≡ false) (declarations ps)
  none =
      each_weaker (λ (d : Declaration). named (entries ps) d.name ≡ true) (λ (d : Declaration). is_declared ws d.name ≡ false) (declarations ps) (λ d k. known_skip h body header names assigns news d.name k)
      (declared_named ps)

  pub firsts_more : first_declared [] (declarations more) ≡ said names ++ first_declared [] (declarations ps)
  firsts_more = ap (first_declared []) (declared_more h body header names assigns news) ∙ first_more names (declarations ps) apart none

  pub total_more : total (entries more) ≤ length names + total (entries ps)
  total_more =
      let ds = declarations ps in
      let es = declarations more in
      let old = first_mentioned [] (undeclared_in ds (mentions ps)) in
      let new = first_mentioned [] (undeclared_in es (mentions more)) in
      let there : Each (λ (e : List ℕ × Option Bounds). named (entries more) e.0 ≡ true) new
      = mentioned_each (λ (q : List ℕ). named (entries more) q ≡ true) [] (undeclared_in es (mentions more)) (undeclared_each (λ (q : List ℕ). named (entries more) q ≡ true) es (mentions more) (mentioned_named more)) in
      let undeclared : Each (λ (e : List ℕ × Option Bounds). is_declared es e.0 ≡ false) new = mentioned_each (λ (q : List ℕ). is_declared es q ≡ false) [] (undeclared_in es (mentions more)) (undeclared_new es (mentions more)) in
      let inside : (q : List ℕ) → is_member bytes_eq (names_of new) q ≡ true → is_member bytes_eq (names_of old) q ≡ true
      = λ q is.
      let mine = sym (member_named new q) ∙ is in
      let alone = named_has (λ (q : List ℕ). is_declared es q ≡ false) new q undeclared mine in
      let both = or_parts (is_declared ws q) (is_declared ds q) (sym (list_any-append _ ws ds) ∙ ap (λ (l : List Declaration). is_declared l q) (sym (declared_more h body header names assigns news)) ∙ alone) in
      let back = named_back h body header names assigns news near q (named_has (λ (q : List ℕ). named (entries more) q ≡ true) new q there mine) both.0 in
      let all : (named (first_declared [] ds) q || named old q) ≡ true
      = sym (list_any-append (λ (e : List ℕ × Option Bounds). bytes_eq q e.0) (first_declared [] ds) old) ∙ ap (λ (es : Entries). named es q) (sym (entries_are ps)) ∙ back
      in
      member_named old q ∙ or_right (named (first_declared [] ds) q) (named old q) all (first_named ds q ∙ both.1)
      in
      let fewer = length-le_from_is_member laws (names_of new) (names_of old) (first_apart [] (undeclared_in es (mentions more))).apart inside in
      let old_total : total (entries ps) ≡ total (first_declared [] ds) + total old = ap total (entries_are ps) ∙ total_append (first_declared [] ds) old in
      let new_total : total (entries more) ≡ total (first_declared [] es) + total new = ap total (entries_are more) ∙ total_append (first_declared [] es) new in
      let first_total : total (first_declared [] es) ≡ total (said names) + total (first_declared [] ds) = ap total firsts_more ∙ total_append (said names) (first_declared [] ds) in
      let s = said_total names in
      let a = total_mentioned [] (undeclared_in ds (mentions ps)) in
      let b = total_mentioned [] (undeclared_in es (mentions more)) in
      omega (arith, fewer, old_total, new_total, first_total, s, a, b)
