-- The changed statements name no more nets than the old ones.
use Rattle.std.proofs.Common.{◌≡◌, ℕ, ◌+◌, ◌≤◌, Bool, true, false, cond, not, ◌||◌, List, [], ◌∷◌, ◌++◌, length, map, Option, None, refl, sym, ap, ◌∙◌, subst, arith}
use Rattle.std.specs.Cmp.{IsEquivalence}
use Rattle.std.specs.List.{IsDistinct, AllByRecursion}
use Rattle.std.specs.Set.{is_member}
use Rattle.std.specs.Str.{bytes_eq}
use Rattle.std.proofs.lemmas.Bool.{false≢true, or_parts}
use Rattle.std.proofs.lemmas.List.Folds.{list_any-append}
use Rattle.std.proofs.lemmas.Map.Made.{length-le_from_is_member}
use Rattle.std.specs.List.{AllByRecursion as Each}
use Rattle.base_types.proofs.TruthValues.{bytes_are, bytes_same, bytes_turned}
use Rattle.verilog_syntax.specs.declared.reading.Placed.{Placed}
use Rattle.verilog_names.specs.declared.bounds.Bounds.{Bounds}
use Rattle.verilog_names.specs.Declarations.{Declaration, declarations, is_declared, has, mentions, undeclared_in}
use Rattle.verilog_reader.specs.Denoted.{first_declared, first_mentioned}
use Rattle.verilog_names.specs.NameTables.{total}
use Rattle.verilog_reader.specs.Numbering.{entries}
use Rattle.verilog_reader.proofs.Distinct.{each_weaker}
use Rattle.verilog_reader.proofs.Filling.{Entries}
use Rattle.verilog_reader.proofs.Places.{named, named_all, declared_first, declared_named, entries_are}
use Rattle.verilog_writer.proofs.KeptNets.{undeclared_new}

pub total_append : (es fs : Entries) → total (es ++ fs) ≡ total es + total fs
total_append [] fs = omega arith
total_append (e ∷ es) fs = let more = total_append es fs in omega (arith, more)

abbrev pub names_of : Entries → List (List ℕ)
names_of es = map (λ (e : List ℕ × Option Bounds). e.0) es

-- names that are mentioned alone have one net each
pub total_mentioned : (before names : List (List ℕ)) → total (first_mentioned before names) ≡ length (names_of (first_mentioned before names))
unfolding first_mentioned
total_mentioned before [] = refl
total_mentioned before (name ∷ names) = by (has before name) (total_mentioned (before ++ name ∷ []) names)
  where
    by : (t : Bool) → total (first_mentioned (before ++ name ∷ []) names) ≡ length (names_of (first_mentioned (before ++ name ∷ []) names))
        → total (cond t (first_mentioned (before ++ name ∷ []) names) ((name, None) ∷ first_mentioned (before ++ name ∷ []) names))
        ≡ length (names_of (cond t (first_mentioned (before ++ name ∷ []) names) ((name, None) ∷ first_mentioned (before ++ name ∷ []) names)))
    by true more = more
    by false more = omega (arith, more)

pub mentioned_each : (P : List ℕ → Type 0) (before names : List (List ℕ)) → Each P names → Each (λ (e : List ℕ × Option Bounds). P e.0) (first_mentioned before names)
unfolding first_mentioned
mentioned_each P before [] each = tt
mentioned_each P before (name ∷ names) each = by (has before name) (mentioned_each P (before ++ name ∷ []) names each.1)
  where
    by : (t : Bool) → Each (λ (e : List ℕ × Option Bounds). P e.0) (first_mentioned (before ++ name ∷ []) names)
        → Each (λ (e : List ℕ × Option Bounds). P e.0) (cond t (first_mentioned (before ++ name ∷ []) names) ((name, None) ∷ first_mentioned (before ++ name ∷ []) names))
    by true more = more
    by false more = (each.0, more)

-- each is new
pub record AreFirst (before : List (List ℕ)) (es : Entries) : Type 0 where
  pub new : Each (λ (e : List ℕ × Option Bounds). has before e.0 ≡ false) es
  pub apart : IsDistinct bytes_eq (names_of es)

last_has : (before : List (List ℕ)) (name q : List ℕ) → has (before ++ name ∷ []) q ≡ false → (has before q ≡ false) × (bytes_eq name q ≡ false)
last_has before name q is =
    let both = or_parts (has before q) (has (name ∷ []) q) (sym (list_any-append (λ (other : List ℕ). bytes_eq other q) before (name ∷ [])) ∙ is) in
    (both.0, (or_parts (bytes_eq name q) false both.1).0)

apart_names : (name : List ℕ) (es : Entries) → Each (λ (e : List ℕ × Option Bounds). bytes_eq name e.0 ≡ false) es → AllByRecursion (λ (y : List ℕ). bytes_eq name y ≡ false) (names_of es)
apart_names name [] each = tt
apart_names name (e ∷ es) each = (each.0, apart_names name es each.1)

pub first_apart : (before names : List (List ℕ)) → AreFirst before (first_mentioned before names)
unfolding first_mentioned IsDistinct
first_apart before [] = record { new = tt; apart = tt }
first_apart before (name ∷ names) = by (has before name) refl (first_apart (before ++ name ∷ []) names)
  where
    by : (t : Bool) → has before name ≡ t → AreFirst (before ++ name ∷ []) (first_mentioned (before ++ name ∷ []) names)
        → AreFirst before (cond t (first_mentioned (before ++ name ∷ []) names) ((name, None) ∷ first_mentioned (before ++ name ∷ []) names))
    by true is more = record {
      new = each_weaker (λ (e : List ℕ × Option Bounds). has (before ++ name ∷ []) e.0 ≡ false) (λ (e : List ℕ × Option Bounds). has before e.0 ≡ false) (first_mentioned (before ++ name ∷ []) names)
          (λ e h. (last_has before name e.0 h).0) more.new;
      apart = more.apart;
    }
    by false is more = record {
      new = (
        is,
        each_weaker (λ (e : List ℕ × Option Bounds). has (before ++ name ∷ []) e.0 ≡ false) (λ (e : List ℕ × Option Bounds). has before e.0 ≡ false) (first_mentioned (before ++ name ∷ []) names)
            (λ e h. (last_has before name e.0 h).0) more.new,
      );
      apart = (
        apart_names name (first_mentioned (before ++ name ∷ []) names)
            (each_weaker (λ (e : List ℕ × Option Bounds). has (before ++ name ∷ []) e.0 ≡ false) (λ (e : List ℕ × Option Bounds). bytes_eq name e.0 ≡ false) (first_mentioned (before ++ name ∷ []) names)
            (λ e h. (last_has before name e.0 h).1) more.new),
        more.apart,
      );
    }

pub laws : IsEquivalence bytes_eq
laws = record {
  refl = λ x. bytes_same x x refl;
  symm = λ x y. bytes_turned x y;
  congr = λ x y z same. ap (λ (w : List ℕ). bytes_eq w z) (bytes_are x y same);
}

pub member_named : (es : Entries) (q : List ℕ) → is_member bytes_eq (names_of es) q ≡ named es q
member_named [] q = refl
member_named (e ∷ es) q = ap (λ (t : Bool). bytes_eq q e.0 || t) (member_named es q)

-- a fact of all names
pub named_has : (P : List ℕ → Type 0) (es : Entries) (q : List ℕ) → Each (λ (e : List ℕ × Option Bounds). P e.0) es → named es q ≡ true → P q
named_has P [] q each is = absurd (false≢true is)
named_has P (e ∷ es) q each is = by (bytes_eq q e.0) refl is (λ more. named_has P es q each.1 more)
  where
    by : (t : Bool) → bytes_eq q e.0 ≡ t → (t || named es q) ≡ true → (named es q ≡ true → P q) → P q
    by true here is rest = subst P (sym (bytes_are q e.0 here)) each.0
    by false other is rest = rest is

pub undeclared_each : (P : List ℕ → Type 0) (ds : List Declaration) (names : List (List ℕ)) → Each P names → Each P (undeclared_in ds names)
undeclared_each P ds [] each = tt
undeclared_each P ds (name ∷ names) each = by (is_declared ds name) (undeclared_each P ds names each.1)
  where
    by : (t : Bool) → Each P (undeclared_in ds names) → Each P (cond (not t) (name ∷ undeclared_in ds names) (undeclared_in ds names))
    by true more = more
    by false more = (each.0, more)

pub first_named : (ds : List Declaration) (q : List ℕ) → named (first_declared [] ds) q ≡ is_declared ds q
first_named ds q =
    ap (λ (es : Entries). named es q) (sym (declared_first [] [] ds (λ q. refl)))
    ∙ named_all [] (map (λ (d : Declaration). let e : List ℕ × Option Bounds = (d.name, d.bounds) in e) ds) q ∙ declared_named ds q

-- where the declarations are the same and each mention is known
pub fewer_nets : (ps qs : List Placed) → declarations qs ≡ declarations ps → Each (λ q. named (entries ps) q ≡ true) (mentions qs) → total (entries qs) ≤ total (entries ps)
fewer_nets ps qs same known =
    let ds = declarations ps in
    let old = first_mentioned [] (undeclared_in ds (mentions ps)) in
    let new = first_mentioned [] (undeclared_in ds (mentions qs)) in
    let there : Each (λ (e : List ℕ × Option Bounds). named (entries ps) e.0 ≡ true) new = mentioned_each (λ (q : List ℕ). named (entries ps) q ≡ true) [] (undeclared_in ds (mentions qs)) (undeclared_each (λ (q : List ℕ). named (entries ps) q ≡ true) ds (mentions qs) known) in
    let undeclared : Each (λ (e : List ℕ × Option Bounds). is_declared ds e.0 ≡ false) new = mentioned_each (λ (q : List ℕ). is_declared ds q ≡ false) [] (undeclared_in ds (mentions qs)) (undeclared_new ds (mentions qs)) in
    let inside : (q : List ℕ) → is_member bytes_eq (names_of new) q ≡ true → is_member bytes_eq (names_of old) q ≡ true
    = λ q is.
    let mine = sym (member_named new q) ∙ is in
    let alone = named_has (λ (q : List ℕ). is_declared ds q ≡ false) new q undeclared mine in
    let all : (named (first_declared [] ds) q || named old q) ≡ true
    = sym (list_any-append (λ (e : List ℕ × Option Bounds). bytes_eq q e.0) (first_declared [] ds) old) ∙ ap (λ (es : Entries). named es q) (sym (entries_are ps)) ∙ named_has (λ (q : List ℕ). named (entries ps) q ≡ true) new q there mine in
    member_named old q ∙ sym (ap (λ (t : Bool). t || named old q) (first_named ds q ∙ alone)) ∙ all
    in
    let fewer = length-le_from_is_member laws (names_of new) (names_of old) (first_apart [] (undeclared_in ds (mentions qs))).apart inside in
    let old_total : total (entries ps) ≡ total (first_declared [] ds) + total old = ap total (entries_are ps) ∙ total_append (first_declared [] ds) old in
    let new_total : total (entries qs) ≡ total (first_declared [] ds) + total new
    = ap total (entries_are qs ∙ ap (λ (es : List Declaration). first_declared [] es ++ first_mentioned [] (undeclared_in es (mentions qs))) same) ∙ total_append (first_declared [] ds) new in
    let a = total_mentioned [] (undeclared_in ds (mentions ps)) in
    let b = total_mentioned [] (undeclared_in ds (mentions qs)) in
    omega (arith, fewer, old_total, new_total, a, b)
