-- Names of wires that stand nowhere in a module: where these are declared in front, every other name is declared as before.
use Rattle.std.proofs.Common.{◌≡◌, ℕ, ◌+◌, ◌≤◌, Bool, true, false, cond, not, nat_lt, ◌&&◌, ◌||◌, List, [], ◌∷◌, ◌++◌, map, Option, Some, None, is_some, refl, sym, ap, ap₂, ◌∙◌, subst, append_assoc, arith}
use Rattle.std.specs.Option.{option_or}
use Rattle.std.specs.List.{flat_map, list_any, list_all, AllByRecursion as Each}
use Rattle.std.specs.Str.{bytes_eq}
use Rattle.std.proofs.lemmas.Bool.{false≢true, or_parts}
use Rattle.std.proofs.lemmas.List.{append-nil}
use Rattle.std.proofs.lemmas.List.Concat.{flat_map-append}
use Rattle.std.proofs.lemmas.List.Folds.{find-append, list_any-append}
use Rattle.base_types.proofs.TruthValues.{and_first, and_second, bytes_are, bytes_same}
use Rattle.verilog_syntax.specs.VerilogTokens.{is_word_start, is_word}
use Rattle.verilog_syntax.specs.Seams.{is_identifier, is_escapable}
use Rattle.verilog_writer.specs.Wired.{declared_wire}
use Rattle.verilog_syntax.specs.declared.statement.Statement.{Statement}
use Rattle.verilog_syntax.specs.declared.statement.Statement.TheVariants as statements
use Rattle.verilog_syntax.specs.declared.reading.Placed.{Placed}
use Rattle.verilog_syntax.specs.StatementParts.{is_header}
use Rattle.verilog_names.specs.declared.bounds.Bounds.{Bounds}
use Rattle.verilog_names.specs.Values.{unescaped, bit_name, name_text}
use Rattle.verilog_names.specs.Declarations.{indexes, Declaration, declarations_in, declarations, is_named, first_of, is_declared, bounds_or_none, bounds_in, mentions_in, mentions, undeclared_in}
use Rattle.verilog_checks.specs.Checks.{stands_again, any_again, has_bit_in}
use Rattle.verilog_checks.specs.Faults.{is_vector, added_bits, vector_bits_from, vector_bits}
use Rattle.verilog_reader.specs.Numbering.{entries}
use Rattle.verilog_reader.proofs.Distinct.{Distinct, IsApartFrom, each_weaker}
use Rattle.verilog_reader.proofs.Places.{named}
use Rattle.verilog_reader.proofs.PortNames.{find_any, again-append}
use Rattle.verilog_writer.specs.Inserted.{BitAssign, wire_statement, assign_statement, extended, IsPlainName}
use Rattle.verilog_writer.proofs.Names.{name_again, plain_black}

-- a plain name that is declared and mentioned nowhere
pub record IsNew (ps : List Placed) (name : List ℕ) : Type 0 where
  pub plain : IsPlainName name
  pub new : named (entries ps) name ≡ false

abbrev pub wire_of : List ℕ → Declaration
wire_of name = declared_wire name

pub plain_text : (name : List ℕ) → IsPlainName name → name_text name ≡ name
plain_text name plain = rw (plain.identifier, plain.free) refl

pub plain_again : (name : List ℕ) → IsPlainName name → unescaped name ≡ name
plain_again name plain = ap unescaped (sym (plain_text name plain)) ∙ name_again name (plain_black name plain.identifier)

pub wires_declared : (names : List (List ℕ)) → Each IsPlainName names → declarations (map wire_statement names) ≡ map wire_of names
wires_declared [] plain = refl
wires_declared (name ∷ names) plain = ap₂ (λ (n : List ℕ) (ds : List Declaration). wire_of n ∷ ds) (plain_again name plain.0) (wires_declared names plain.1)

-- names that are no wire's
pub not_wire : (ps : List Placed) (names : List (List ℕ)) (q : List ℕ) → Each (IsNew ps) names → named (entries ps) q ≡ true → is_declared (map wire_of names) q ≡ false
not_wire ps [] q news known = refl
not_wire ps (name ∷ names) q news known = by (bytes_eq name q) refl (not_wire ps names q news.1 known)
  where
    by : (t : Bool) → bytes_eq name q ≡ t → is_declared (map wire_of names) q ≡ false → (t || is_declared (map wire_of names) q) ≡ false
    by true same more = absurd (false≢true (sym (ap (named (entries ps)) (sym (bytes_are name q same)) ∙ news.0.new) ∙ known))
    by false other more = more

-- wires in front of declarations
none_first : (q : List ℕ) (ws : List Declaration) → is_declared ws q ≡ false → first_of q ws ≡ None
none_first q ws none = by (first_of q ws) (find_any (is_named q) ws ∙ none)
  where
    by : (o : Option Declaration) → is_some o ≡ false → o ≡ None
    by None is = refl
    by (Some d) is = absurd (false≢true (sym is))

pub skip_first : (q : List ℕ) (ws ds : List Declaration) → is_declared ws q ≡ false → first_of q (ws ++ ds) ≡ first_of q ds
skip_first q ws ds none = find-append (is_named q) ws ds ∙ ap (λ (o : Option Declaration). option_or o (first_of q ds)) (none_first q ws none)

pub skip_bounds : (q : List ℕ) (ws ds : List Declaration) → is_declared ws q ≡ false → bounds_in (ws ++ ds) q ≡ bounds_in ds q
skip_bounds q ws ds none = ap bounds_or_none (skip_first q ws ds none)

pub skip_declared : (q : List ℕ) (ws ds : List Declaration) → is_declared ws q ≡ false → is_declared (ws ++ ds) q ≡ is_declared ds q
skip_declared q ws ds none = list_any-append (is_named q) ws ds ∙ ap (λ (t : Bool). t || is_declared ds q) none

-- a wire has no bounds
pub wire_bounds : (q : List ℕ) (names : List (List ℕ)) (ds : List Declaration) → is_declared (map wire_of names) q ≡ true → bounds_in (map wire_of names ++ ds) q ≡ None
wire_bounds q [] ds is = absurd (false≢true is)
wire_bounds q (name ∷ names) ds is = by (bytes_eq name q) is (λ more. wire_bounds q names ds more)
  where
    by : (t : Bool) → (t || is_declared (map wire_of names) q) ≡ true → (is_declared (map wire_of names) q ≡ true → bounds_in (map wire_of names ++ ds) q ≡ None)
        → bounds_or_none (cond t (Some (wire_of name)) (first_of q (map wire_of names ++ ds))) ≡ None
    by true is more = refl
    by false is more = more is

-- the bits of vectors
no_vectors : (q : List ℕ) (names : List (List ℕ)) → list_any (λ (e : Declaration). is_named q e && is_vector e) (map wire_of names) ≡ false
no_vectors q [] = refl
no_vectors q (name ∷ names) = by (bytes_eq name q) (no_vectors q names)
  where
    by : (t : Bool) → list_any (λ (e : Declaration). is_named q e && is_vector e) (map wire_of names) ≡ false → ((t && false) || list_any (λ (e : Declaration). is_named q e && is_vector e) (map wire_of names)) ≡ false
    by true more = more
    by false more = more

added_same : (names : List (List ℕ)) (before : List Declaration) (d : Declaration) (b : Option Bounds) → added_bits (map wire_of names ++ before) d b ≡ added_bits before d b
added_same names before d None = refl
added_same names before d (Some b) =
    let same : list_any (λ (e : Declaration). is_named d.name e && is_vector e) (map wire_of names ++ before) ≡ list_any (λ (e : Declaration). is_named d.name e && is_vector e) before
    = list_any-append (λ (e : Declaration). is_named d.name e && is_vector e) (map wire_of names) before ∙ ap (λ (t : Bool). t || list_any (λ (e : Declaration). is_named d.name e && is_vector e) before) (no_vectors d.name names)
    in
    rw same refl

bits_behind : (names : List (List ℕ)) (before ds : List Declaration) → vector_bits_from (map wire_of names ++ before) ds ≡ vector_bits_from before ds
unfolding vector_bits_from
bits_behind names before [] = refl
bits_behind names before (d ∷ ds) =
    ap₂ (λ (a b : ℕ). a + b) (added_same names before d d.bounds)
    (ap (λ (es : List Declaration). vector_bits_from es ds) (append_assoc (map wire_of names) before (d ∷ [])) ∙ bits_behind names (before ++ d ∷ []) ds)

bits_in_front : (before : List Declaration) (names : List (List ℕ)) (ds : List Declaration) → vector_bits_from before (map wire_of names ++ ds) ≡ vector_bits_from (before ++ map wire_of names) ds
unfolding vector_bits_from
bits_in_front before [] ds = ap (λ (es : List Declaration). vector_bits_from es ds) (sym (append-nil before))
bits_in_front before (name ∷ names) ds =
    let more = bits_in_front (before ++ wire_of name ∷ []) names ds in
    let cut = ap (λ (es : List Declaration). vector_bits_from es ds) (append_assoc before (wire_of name ∷ []) (map wire_of names)) in
    omega (arith, more ∙ cut)

pub same_bits : (names : List (List ℕ)) (ds : List Declaration) → vector_bits (map wire_of names ++ ds) ≡ vector_bits ds
same_bits names ds =
    bits_in_front [] names ds ∙ ap (λ (es : List Declaration). vector_bits_from es ds) (sym (append-nil (map wire_of names))) ∙ bits_behind names [] ds

abbrev pub AllNew : List Declaration → List (List ℕ) → Type 0
AllNew before names = Each (λ name. is_declared before name ≡ false) names

pushed_new : (before : List Declaration) (name q : List ℕ) → is_declared before q ≡ false → (name ≡ q → ⊥) → is_declared (before ++ wire_of name ∷ []) q ≡ false
pushed_new before name q none apart = skip_declared q before (wire_of name ∷ []) none ∙ by (bytes_eq name q) refl
  where
    by : (t : Bool) → bytes_eq name q ≡ t → (t || false) ≡ false
    by true same = absurd (apart (bytes_are name q same))
    by false is = refl

pub pushed_all : (before : List Declaration) (name : List ℕ) (names : List (List ℕ)) → AllNew before names → IsApartFrom name names → AllNew (before ++ wire_of name ∷ []) names
pushed_all before name [] all apart = tt
pushed_all before name (q ∷ names) all apart = (pushed_new before name q all.0 apart.0, pushed_all before name names all.1 apart.1)

new_wires : (before : List Declaration) (names : List (List ℕ)) → Distinct names → AllNew before names → any_again before (map wire_of names) ≡ false
unfolding any_again
new_wires before [] apart all = refl
new_wires before (name ∷ names) apart all =
    ap (λ (o : Option Declaration). stands_again o (wire_of name) || any_again (before ++ wire_of name ∷ []) (map wire_of names)) (none_first name before all.0)
    ∙ new_wires (before ++ wire_of name ∷ []) names apart.1 (pushed_all before name names all.1 apart.0)

again_behind : (ws before ds : List Declaration) → Each (λ (d : Declaration). is_declared ws d.name ≡ false) ds → any_again (ws ++ before) ds ≡ any_again before ds
unfolding any_again
again_behind ws before [] none = refl
again_behind ws before (d ∷ ds) none =
    ap₂ (λ (a b : Bool). a || b) (ap (λ (o : Option Declaration). stands_again o d) (skip_first d.name ws before none.0))
    (ap (λ (es : List Declaration). any_again es ds) (append_assoc ws before (d ∷ [])) ∙ again_behind ws (before ++ d ∷ []) ds none.1)

pub no_before : (names : List (List ℕ)) → AllNew [] names
no_before [] = tt
no_before (name ∷ names) = (refl, no_before names)

pub again_same : (names : List (List ℕ)) (ds : List Declaration) → Distinct names → Each (λ (d : Declaration). is_declared (map wire_of names) d.name ≡ false) ds → any_again [] (map wire_of names ++ ds) ≡ any_again [] ds
again_same names ds apart none =
    again-append [] (map wire_of names) ds ∙ ap (λ (t : Bool). t || any_again (map wire_of names) ds) (new_wires [] names apart (no_before names))
    ∙ ap (λ (es : List Declaration). any_again es ds) (sym (append-nil (map wire_of names))) ∙ again_behind (map wire_of names) [] ds none

-- an identifier is no bit of a vector
all_words : (name : List ℕ) → is_identifier name ≡ true → list_all is_word name ≡ true
all_words [] is = absurd (false≢true is)
all_words (b ∷ bs) is = rw (and_first (is_word_start b) (list_all is_word bs) is) (and_second (is_word_start b) (list_all is_word bs) is)

not_all : (xs ys : List ℕ) → list_all is_word (xs ++ 91 ∷ ys) ≡ false
not_all [] ys = refl
not_all (x ∷ xs) ys = by (is_word x) (not_all xs ys)
  where
    by : (t : Bool) → list_all is_word (xs ++ 91 ∷ ys) ≡ false → (t && list_all is_word (xs ++ 91 ∷ ys)) ≡ false
    by true more = more
    by false more = refl

no_bit_name : (v s : List ℕ) (i : ℕ) → is_identifier s ≡ true → bytes_eq (bit_name v i) s ≡ false
no_bit_name v s i is = by (bytes_eq (bit_name v i) s) refl
  where
    by : (t : Bool) → bytes_eq (bit_name v i) s ≡ t → t ≡ false
    by true same = absurd (false≢true (sym (ap (list_all is_word) (sym (bytes_are (bit_name v i) s same)) ∙ not_all v _) ∙ all_words s is))
    by false other = refl

none_bit : (v s : List ℕ) (all : List ℕ) → is_identifier s ≡ true → list_any (λ i. bytes_eq (bit_name v i) s) all ≡ false
none_bit v s [] is = refl
none_bit v s (i ∷ all) is = rw (no_bit_name v s i is) (none_bit v s all is)

pub no_bit_of : (v s : List ℕ) (b : Option Bounds) → is_identifier s ≡ true → has_bit_in v b s ≡ false
no_bit_of v s None is = refl
no_bit_of v s (Some b) is = none_bit v s (indexes b) is

-- the wire of a name
pub wire_member : (P : List ℕ → Type 0) (names : List (List ℕ)) (q : List ℕ) → Each P names → is_declared (map wire_of names) q ≡ true → P q
wire_member P [] q each is = absurd (false≢true is)
wire_member P (name ∷ names) q each is = by (bytes_eq name q) refl is (λ more. wire_member P names q each.1 more)
  where
    by : (t : Bool) → bytes_eq name q ≡ t → (t || is_declared (map wire_of names) q) ≡ true → (is_declared (map wire_of names) q ≡ true → P q) → P q
    by true same is more = subst P (bytes_are name q same) each.0
    by false other is more = more is
