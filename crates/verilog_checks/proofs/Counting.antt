-- The bits of declared vectors, as declarations are counted one by one.
use Rattle.std.proofs.Common.{◌≡◌, ℕ, ◌+◌, ◌<◌, ◌≤◌, Bool, true, false, cond, not, ◌&&◌, ◌||◌, List, [], ◌∷◌, ◌++◌, length, map, get_or, take, drop, Option, Some, None, is_some, refl, sym, ap, ◌∙◌, append_assoc, arith}
use Rattle.std.specs.Prelude.{nat_lt}
use Rattle.std.specs.List.{list_any}
use Rattle.std.specs.HashSet.{contains_by}
use Rattle.std.specs.Str.{bytes_eq}
use Rattle.std.proofs.lemmas.List.{append-nil, map-append, take-append-drop, map_more}
use Rattle.std.proofs.lemmas.List.Folds.{list_any-append, list_all_more}
use Rattle.std.proofs.lemmas.Bool.{lt-ltb, le-ltb}
use Rattle.base_types.proofs.TruthValues.{or_false, or_true}
use Rattle.verilog_syntax.specs.declared.statement.Declared.{Declared}
use Rattle.verilog_syntax.specs.declared.reading.Placed.{Placed}
use Rattle.verilog_names.specs.declared.bounds.Bounds.{Bounds}
use Rattle.verilog_checks.specs.declared.number.Vectors.{Vectors}
use Rattle.verilog_names.specs.Values.{unescaped}
use Rattle.verilog_names.specs.Declarations.{Declaration, declaration_of, declarations_in, declarations, width, is_named}
use Rattle.verilog_checks.specs.Faults.{is_vector, added_bits, vector_bits_from, vector_bits, bad_number}
use Rattle.verilog_checks.specs.Steps.{has_bad_number, are_small, AreCounted}
use Rattle.verilog_checks.proofs.Firsts.{declarations-append}

bits-append : (before ds es : List Declaration) → vector_bits_from before (ds ++ es) ≡ vector_bits_from before ds + vector_bits_from (before ++ ds) es
unfolding vector_bits_from
bits-append before [] es = let k = ap (λ (l : List Declaration). vector_bits_from l es) (append-nil before) in omega (arith, k)
bits-append before (d ∷ ds) es =
    let more = bits-append (before ++ d ∷ []) ds es in
    let k = ap (λ (l : List Declaration). vector_bits_from l es) (append_assoc before (d ∷ []) ds) in
    omega (arith, more, k)

-- one declaration more
pub bits_more : (ds : List Declaration) (d : Declaration) → vector_bits (ds ++ d ∷ []) ≡ vector_bits ds + added_bits ds d d.bounds
unfolding vector_bits_from
bits_more ds d = let k = bits-append [] ds (d ∷ []) in omega (arith, k)

-- more declarations have no fewer bits
pub bits_grow : (ds es : List Declaration) → vector_bits ds ≤ vector_bits (ds ++ es)
bits_grow ds es = let k = bits-append [] ds es in omega (arith, k)

abbrev pub is_vector_named : List ℕ → Declaration → Bool
is_vector_named q d = is_named q d && is_vector d

or_cond : (a b : Bool) → (a || b) ≡ cond b true a
or_cond true true = refl
or_cond true false = refl
or_cond false true = refl
or_cond false false = refl

and_true : (a : Bool) → (a && true) ≡ a
and_true true = refl
and_true false = refl

module _ (ds : List Declaration) (d : Declaration) (b : Bounds) (is : d.bounds ≡ Some b) where
  -- a vector more
  pub named_more : (q : List ℕ) → list_any (is_vector_named q) (ds ++ d ∷ []) ≡ cond (bytes_eq d.name q) true (list_any (is_vector_named q) ds)
  named_more q =
      list_any-append (is_vector_named q) ds (d ∷ [])
      ∙ ap (λ (t : Bool). list_any (is_vector_named q) ds || t) (or_false (is_vector_named q d) ∙ ap (λ (o : Option Bounds). is_named q d && is_some o) is ∙ and_true (is_named q d))
      ∙ or_cond (list_any (is_vector_named q) ds) (is_named q d)

  -- its bits are counted where its name is new
  pub bits_new : list_any (is_vector_named d.name) ds ≡ false → vector_bits (ds ++ d ∷ []) ≡ vector_bits ds + width b
  bits_new new =
      bits_more ds d ∙ ap (λ (o : Option Bounds). vector_bits ds + added_bits ds d o) is
      ∙ ap (λ (t : Bool). vector_bits ds + cond t 0 (width b)) new

  pub bits_old : list_any (is_vector_named d.name) ds ≡ true → vector_bits (ds ++ d ∷ []) ≡ vector_bits ds
  bits_old old =
      let k = bits_more ds d ∙ ap (λ (o : Option Bounds). vector_bits ds + added_bits ds d o) is
      ∙ ap (λ (t : Bool). vector_bits ds + cond t 0 (width b)) old in
      omega (arith, k)

abbrev pub has_vector : Vectors → List ℕ → Bool
has_vector v q = contains_by (λ k. bytes_eq q k.now) v.names

module _ (old new : Vectors) (ds : List Declaration) (d : Declaration) (b : Bounds) (name : List ℕ) (e : d.name ≡ name) (is : d.bounds ≡ Some b)
    (updates : (q : List ℕ) → has_vector new q ≡ cond (bytes_eq name q) true (has_vector old q)) (h : AreCounted old ds) where
  names_after : (q : List ℕ) → has_vector new q ≡ list_any (is_vector_named q) (ds ++ d ∷ [])
  names_after q =
      updates q ∙ ap (λ (t : Bool). cond (bytes_eq name q) true t) (h.names q)
      ∙ ap (λ (n : List ℕ). cond (bytes_eq n q) true (list_any (is_vector_named q) ds)) (sym e)
      ∙ sym (named_more ds d b is q)

  before : list_any (is_vector_named d.name) ds ≡ has_vector old name
  before = ap (λ (n : List ℕ). list_any (is_vector_named n) ds) e ∙ sym (h.names name)

  -- a vector whose name is new is counted
  pub counts_new : has_vector old name ≡ false → new.bits ≡ old.bits + width b → AreCounted new (ds ++ d ∷ [])
  counts_new absent bits = record {
    names = names_after;
    bits = bits ∙ ap (λ (n : ℕ). n + width b) h.bits ∙ sym (bits_new ds d b is (before ∙ absent));
  }

  -- another is not
  pub counts_old : has_vector old name ≡ true → new.bits ≡ old.bits → AreCounted new (ds ++ d ∷ [])
  counts_old there bits = record {
    names = names_after;
    bits = bits ∙ h.bits ∙ sym (bits_old ds d b is (before ∙ there));
  }

-- a front of the names, and all of them
module _ (f : List ℕ → Declaration) (ds : List Declaration) (names : List (List ℕ)) (i : ℕ) where
  pub front_more : (d : List ℕ) → i < length names → (ds ++ map f (take i names)) ++ f (get_or names i d) ∷ [] ≡ ds ++ map f (take (i + 1) names)
  front_more d lt = append_assoc ds (map f (take i names)) (f (get_or names i d) ∷ []) ∙ ap (λ (l : List Declaration). ds ++ l) (sym (map_more f names i d lt))

  pub front_within : vector_bits (ds ++ map f (take i names)) ≤ vector_bits (ds ++ map f names)
  front_within =
      let whole = append_assoc ds (map f (take i names)) (map f (drop i names))
      ∙ ap (λ (l : List Declaration). ds ++ l) (sym (map-append f (take i names) (drop i names)) ∙ ap (map f) (take-append-drop i names)) in
      let bits = ap vector_bits whole in
      let more = bits_grow (ds ++ map f (take i names)) (map f (drop i names)) in
      omega (arith, bits, more)

-- names without a range are no vectors
module _ (kind : Declared) where
  scalars_named : (q : List ℕ) (names : List (List ℕ)) → list_any (is_vector_named q) (map (declaration_of kind None) names) ≡ false
  scalars_named q [] = refl
  scalars_named q (name ∷ names) =
      let none : (t : Bool) → (t && false) ≡ false = λ t. elim t as (λ t. (t && false) ≡ false) [ true ↦ refl | false ↦ refl ] in
      ap (λ (t : Bool). t || list_any (is_vector_named q) (map (declaration_of kind None) names)) (none (bytes_eq (unescaped name) q)) ∙ scalars_named q names

  scalars_bits : (before : List Declaration) (names : List (List ℕ)) → vector_bits_from before (map (declaration_of kind None) names) ≡ 0
  unfolding vector_bits_from
  scalars_bits before [] = refl
  scalars_bits before (name ∷ names) = let k = scalars_bits (before ++ declaration_of kind None name ∷ []) names in omega (arith, k)

  pub scalars_counted : (v : Vectors) (ds : List Declaration) (names : List (List ℕ)) → AreCounted v ds → AreCounted v (ds ++ map (declaration_of kind None) names)
  scalars_counted v ds names h = record {
    names = λ q. h.names q
        ∙ sym (list_any-append (is_vector_named q) ds (map (declaration_of kind None) names)
        ∙ ap (λ (t : Bool). list_any (is_vector_named q) ds || t) (scalars_named q names) ∙ or_false (list_any (is_vector_named q) ds));
    bits = let all = bits-append [] ds (map (declaration_of kind None) names) in let k = scalars_bits ds names in let b = h.bits in omega (arith, all, k, b);
  }

-- a statement's numbers are bad by themselves, or make the vectors too many
module _ (ps : List Placed) (i : ℕ) (p : Placed) where
  abbrev after : List Declaration
  after = declarations (take i ps) ++ declarations_in p.statement

  with_it : declarations (take i ps ++ p ∷ []) ≡ after
  with_it = declarations-append (take i ps) (p ∷ []) ∙ ap (λ (l : List Declaration). declarations (take i ps) ++ l) (append-nil (declarations_in p.statement))

  bad_is : bad_number (take i ps) p ≡ (has_bad_number p.statement || nat_lt 16777216 (vector_bits after))
  unfolding bad_number
  bad_is = ap (λ (l : List Declaration). has_bad_number p.statement || nat_lt 16777216 (vector_bits l)) with_it

  pub bad_itself : has_bad_number p.statement ≡ true → bad_number (take i ps) p ≡ true
  bad_itself h = bad_is ∙ ap (λ (t : Bool). t || nat_lt 16777216 (vector_bits after)) h

  pub bad_bits : 16777216 < vector_bits after → bad_number (take i ps) p ≡ true
  bad_bits h = bad_is ∙ ap (λ (t : Bool). has_bad_number p.statement || t) (lt-ltb 16777216 (vector_bits after) h) ∙ or_true (has_bad_number p.statement)

  pub no_bad : has_bad_number p.statement ≡ false → vector_bits after ≤ 16777216 → bad_number (take i ps) p ≡ false
  no_bad h le = bad_is ∙ ap (λ (t : Bool). t || nat_lt 16777216 (vector_bits after)) h ∙ le-ltb 16777216 (vector_bits after) le

-- one statement more is small
pub small_more : (ps : List Placed) (i : ℕ) (p : Placed) → i < length ps → p ≡ get_or ps i p → has_bad_number p.statement ≡ false → are_small (take i ps) ≡ true → are_small (take (i + 1) ps) ≡ true
small_more ps i p lt at good so_far =
    list_all_more (λ (x : Placed). not (has_bad_number x.statement)) ps i p lt
    ∙ ap (λ (t : Bool). t && not (has_bad_number (get_or ps i p).statement)) so_far
    ∙ ap (λ (x : Placed). not (has_bad_number x.statement)) (sym at) ∙ ap not good
