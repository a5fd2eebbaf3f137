-- The items of a written call give each chain just what was meant.
use Rattle.std.specs.Prelude.{⊤}
use Rattle.std.proofs.Common.{◌≡◌, ℕ, suc, ◌≤◌, Bool, true, false, ◌||◌, not, List, [], ◌∷◌, length, max, All, Option, Some, None, refl, sym, ap, ◌∙◌, subst, arith}
use Rattle.std.specs.Str.{bytes_eq}
use Rattle.std.proofs.lemmas.Bool.{true≢false, or_parts}
use Rattle.std.proofs.lemmas.List.Elements.{All-head, All-tail}
use Rattle.std.proofs.lemmas.List.Sums.{list_all-from_AllPass}
use Rattle.base_types.proofs.TruthValues.{bytes_same}
use Rattle.stil_types.specs.Calls.{IsStringOf, is_load_character, is_compare_character, IsCallOn, IsShortLoadOn, IsLongCompareOn, IsAcceptedOn, longest_string}
use Rattle.stil_types.specs.declared.head.ScanChainDecl.{ScanChainDecl}
use Rattle.stil_types.specs.declared.head.StilHead.{StilHead}
use Rattle.stil_types.specs.declared.statement.ScanCall.{ScanCall}
use Rattle.stil_syntax.specs.declared.item.Item.{Item}
use Rattle.stil_syntax.specs.declared.shape.Shape.TheVariants.{Scan}
use Rattle.stil_calls.specs.declared.judging.Judging.TheVariants.{Lengths}
use Rattle.stil_calls.specs.declared.repeats.Side.{Side}
use Rattle.stil_calls.specs.declared.repeats.Side.TheVariants.{Load, Compare}
use Rattle.stil_calls.specs.Repeats.{is_character}
use Rattle.stil_calls.specs.Faults.{kind_of}
use Rattle.stil_calls.specs.Scans.{has_name, gives_twice, data_for, port, given, is_port, is_foreign, is_unsound, has_unsound, is_short, is_long, is_vast, written_in, strings_of, bits_of, call_of, most_characters}
use Rattle.stil_calls.proofs.Refusals.{long_law, short_law, vast_law}
use Rattle.stil_writer.specs.Calls.{ports_of, AreOnce}
use Rattle.stil_writer.proofs.Data.{data_text, data_written, data_sound, put_item, items_for, NoneIs, same_ways, put_absent, put_present, absent}

-- a string as the data of an item
abbrev pub as_data : Option (List ℕ) → Option (List ℕ)
as_data None = None
as_data (Some bytes) = Some (data_text bytes)

-- each chain is given its string
abbrev pub AreGiven : Side → List ScanChainDecl → List Item → List (Option (List ℕ)) → Type 0
AreGiven side [] items [] = ⊤
AreGiven side [] items (s ∷ ss) = ⊥
AreGiven side (c ∷ cs) items [] = ⊥
AreGiven side (c ∷ cs) items (s ∷ ss) = (given side items c ≡ as_data s) × AreGiven side cs items ss

port_none : (side : Side) (key : List ℕ) (d : ScanChainDecl) (ds : List ScanChainDecl) → NoneIs key (ports_of (d ∷ ds)) → (bytes_eq key (port side d) ≡ false) × NoneIs key (ports_of ds)
port_none Load key d ds e =
    let a = or_parts (bytes_eq key d.scan_in) _ e in
    let b = or_parts (bytes_eq key d.scan_out) _ a.1 in
    (a.0, b.1)
port_none Compare key d ds e =
    let a = or_parts (bytes_eq key d.scan_in) _ e in
    let b = or_parts (bytes_eq key d.scan_out) _ a.1 in
    (b.0, b.1)

-- an item of another name in front changes nothing
behind_item : (side : Side) (cs : List ScanChainDecl) (key : List ℕ) (string : Option (List ℕ)) (more : List Item) (ss : List (Option (List ℕ))) → NoneIs key (ports_of cs) → AreGiven side cs more ss → AreGiven side cs (put_item key string more) ss
behind_item side [] key string more [] none g = tt
behind_item side [] key string more (s ∷ ss) none g = absurd g
behind_item side (d ∷ ds) key string more [] none g = absurd g
behind_item side (d ∷ ds) key string more (s ∷ ss) none g =
    let p = port_none side key d ds none in
    (put_absent (port side d) key string more p.0 ∙ g.0, behind_item side ds key string more ss p.1 g.1)

as_is : (s : Option (List ℕ)) → elim s [ None ↦ None | Some bytes ↦ Some (data_text bytes) ] ≡ as_data s
as_is None = refl
as_is (Some bytes) = refl

are_loads : (chains : List ScanChainDecl) (loads compares : List (Option (List ℕ))) → length loads ≡ length chains → length compares ≡ length chains → AreOnce (ports_of chains) → AreGiven Load chains (items_for chains loads compares) loads
are_loads [] [] compares e f once = tt
are_loads [] (l ∷ ls) compares e f once = absurd (omega arith)
are_loads (c ∷ cs) [] compares e f once = absurd (omega arith)
are_loads (c ∷ cs) (l ∷ ls) [] e f once = absurd (omega arith)
are_loads (c ∷ cs) (l ∷ ls) (k ∷ ks) e f once =
    let rest = items_for cs ls ks in
    let inner = put_item c.scan_out k rest in
    let a = or_parts (bytes_eq c.scan_in c.scan_out) _ once.0 in
    let more = are_loads cs ls ks (omega arith) (omega arith) once.1.1 in
    let none : data_for inner c.scan_in ≡ None = put_absent c.scan_in c.scan_out k rest (same_ways c.scan_in c.scan_out a.0) ∙ absent cs ls ks c.scan_in a.1 in (
      put_present c.scan_in l inner none ∙ as_is l,
      behind_item Load cs c.scan_in l inner ls a.1 (behind_item Load cs c.scan_out k rest ls once.1.0 more),
    )

are_compares : (chains : List ScanChainDecl) (loads compares : List (Option (List ℕ))) → length loads ≡ length chains → length compares ≡ length chains → AreOnce (ports_of chains) → AreGiven Compare chains (items_for chains loads compares) compares
are_compares [] loads [] e f once = tt
are_compares [] loads (k ∷ ks) e f once = absurd (omega arith)
are_compares (c ∷ cs) [] compares e f once = absurd (omega arith)
are_compares (c ∷ cs) (l ∷ ls) [] e f once = absurd (omega arith)
are_compares (c ∷ cs) (l ∷ ls) (k ∷ ks) e f once =
    let rest = items_for cs ls ks in
    let inner = put_item c.scan_out k rest in
    let a = or_parts (bytes_eq c.scan_in c.scan_out) _ once.0 in
    let more = are_compares cs ls ks (omega arith) (omega arith) once.1.1 in (
      put_absent c.scan_out c.scan_in l inner a.0 ∙ (put_present c.scan_out k rest (absent cs ls ks c.scan_out once.1.0) ∙ as_is k),
      behind_item Compare cs c.scan_in l inner ks a.1 (behind_item Compare cs c.scan_out k rest ks once.1.0 more),
    )

module _ (side : Side) where
  one_string : (s : Option (List ℕ)) → IsStringOf (is_character side) s → written_in (as_data s) ≡ s
  one_string None e = refl
  one_string (Some bytes) e = ap (λ (l : List ℕ). Some l) (data_written side bytes (list_all-from_AllPass (is_character side) bytes e))

  one_sound : (s : Option (List ℕ)) → IsStringOf (is_character side) s → is_unsound side (as_data s) ≡ false
  one_sound None e = refl
  one_sound (Some bytes) e = ap not (data_sound side bytes (list_all-from_AllPass (is_character side) bytes e))

  -- what was given is what was meant
  strings_are : (chains : List ScanChainDecl) (items : List Item) (ss : List (Option (List ℕ))) → AreGiven side chains items ss → All (IsStringOf (is_character side)) ss → strings_of side chains items ≡ ss
  strings_are [] items [] g all = refl
  strings_are [] items (s ∷ ss) g all = absurd g
  strings_are (c ∷ cs) items [] g all = absurd g
  strings_are (c ∷ cs) items (s ∷ ss) g all =
      let here : written_in (given side items c) ≡ s = ap written_in g.0 ∙ one_string s (All-head (IsStringOf (is_character side)) s ss all) in
      rw here (ap (λ (l : List (Option (List ℕ))). s ∷ l) (strings_are cs items ss g.1 (All-tail (IsStringOf (is_character side)) s ss all)))

all_sound : (chains : List ScanChainDecl) (items : List Item) (ls ks : List (Option (List ℕ))) → AreGiven Load chains items ls → AreGiven Compare chains items ks
    → All (IsStringOf is_load_character) ls → All (IsStringOf is_compare_character) ks → has_unsound chains items ≡ false
all_sound [] items ls ks g h a b = refl
all_sound (c ∷ cs) items [] ks g h a b = absurd g
all_sound (c ∷ cs) items (l ∷ ls) [] g h a b = absurd h
all_sound (c ∷ cs) items (l ∷ ls) (k ∷ ks) g h a b =
    let x : is_unsound Load (given Load items c) ≡ false = ap (is_unsound Load) g.0 ∙ one_sound Load l (All-head (IsStringOf is_load_character) l ls a) in
    let y : is_unsound Compare (given Compare items c) ≡ false = ap (is_unsound Compare) h.0 ∙ one_sound Compare k (All-head (IsStringOf is_compare_character) k ks b) in
    rw (x, y) (all_sound cs items ls ks g.1 h.1 (All-tail (IsStringOf is_load_character) l ls a) (All-tail (IsStringOf is_compare_character) k ks b))

-- no name is given twice
has_put : (name key : List ℕ) (string : Option (List ℕ)) (more : List Item) → bytes_eq key name ≡ false → has_name more name ≡ false → has_name (put_item key string more) name ≡ false
has_put name key None more e h = h
has_put name key (Some bytes) more e h = rw (e, h) refl

has_absent : (chains : List ScanChainDecl) (loads compares : List (Option (List ℕ))) (name : List ℕ) → NoneIs name (ports_of chains) → has_name (items_for chains loads compares) name ≡ false
has_absent [] loads compares name e = refl
has_absent (c ∷ cs) [] compares name e = refl
has_absent (c ∷ cs) (load ∷ loads) [] name e = refl
has_absent (c ∷ cs) (load ∷ loads) (compare ∷ compares) name e =
    let a = or_parts (bytes_eq name c.scan_in) _ e in
    let b = or_parts (bytes_eq name c.scan_out) _ a.1 in
    has_put name c.scan_in load _ (same_ways name c.scan_in a.0) (has_put name c.scan_out compare _ (same_ways name c.scan_out b.0) (has_absent cs loads compares name b.1))

twice_put : (key : List ℕ) (string : Option (List ℕ)) (more : List Item) → has_name more key ≡ false → gives_twice more ≡ false → gives_twice (put_item key string more) ≡ false
twice_put key None more e h = h
twice_put key (Some bytes) more e h = rw (e, h) refl

never_twice : (chains : List ScanChainDecl) (loads compares : List (Option (List ℕ))) → AreOnce (ports_of chains) → gives_twice (items_for chains loads compares) ≡ false
never_twice [] loads compares once = refl
never_twice (c ∷ cs) [] compares once = refl
never_twice (c ∷ cs) (load ∷ loads) [] once = refl
never_twice (c ∷ cs) (load ∷ loads) (compare ∷ compares) once =
    let a = or_parts (bytes_eq c.scan_in c.scan_out) _ once.0 in
    twice_put c.scan_in load _ (has_put c.scan_in c.scan_out compare _ (same_ways c.scan_in c.scan_out a.0) (has_absent cs loads compares c.scan_in a.1))
    (twice_put c.scan_out compare _ (has_absent cs loads compares c.scan_out once.1.0) (never_twice cs loads compares once.1.1))

-- each name is that of a port
foreign_put : (all : List ScanChainDecl) (key : List ℕ) (string : Option (List ℕ)) (more : List Item) → is_port all key ≡ true → is_foreign all more ≡ false → is_foreign all (put_item key string more) ≡ false
foreign_put all key None more e h = h
foreign_put all key (Some bytes) more e h = rw e h

wider_one : (t u : Bool) (rest : Bool) → (not t || rest) ≡ false → (not (u || t) || rest) ≡ rest
wider_one true true rest e = refl
wider_one true false rest e = refl
wider_one false u rest e = absurd (true≢false e)

wider : (c : ScanChainDecl) (cs : List ScanChainDecl) (items : List Item) → is_foreign cs items ≡ false → is_foreign (c ∷ cs) items ≡ false
wider c cs [] e = refl
wider c cs (i ∷ is) e =
    let a = or_parts (not (is_port cs i.name)) (is_foreign cs is) e in
    wider_one (is_port cs i.name) (bytes_eq i.name c.scan_in || bytes_eq i.name c.scan_out) (is_foreign (c ∷ cs) is) (ap (λ (t : Bool). t || is_foreign (c ∷ cs) is) a.0 ∙ wider c cs is a.1) ∙ wider c cs is a.1

or_right : (t u v : Bool) → u ≡ true → ((t || u) || v) ≡ true
or_right true u v e = refl
or_right false true v e = refl
or_right false false v e = absurd (true≢false (sym e))

out_port : (c : ScanChainDecl) (cs : List ScanChainDecl) → is_port (c ∷ cs) c.scan_out ≡ true
out_port c cs = or_right (bytes_eq c.scan_out c.scan_in) (bytes_eq c.scan_out c.scan_out) (is_port cs c.scan_out) (bytes_same c.scan_out c.scan_out refl)

in_port : (c : ScanChainDecl) (cs : List ScanChainDecl) → is_port (c ∷ cs) c.scan_in ≡ true
in_port c cs = ap (λ (t : Bool). (t || bytes_eq c.scan_in c.scan_out) || is_port cs c.scan_in) (bytes_same c.scan_in c.scan_in refl)

never_foreign : (chains : List ScanChainDecl) (loads compares : List (Option (List ℕ))) → is_foreign chains (items_for chains loads compares) ≡ false
never_foreign [] loads compares = refl
never_foreign (c ∷ cs) [] compares = refl
never_foreign (c ∷ cs) (load ∷ loads) [] = refl
never_foreign (c ∷ cs) (load ∷ loads) (compare ∷ compares) =
    foreign_put (c ∷ cs) c.scan_in load _ (in_port c cs) (foreign_put (c ∷ cs) c.scan_out compare _ (out_port c cs) (wider c cs (items_for cs loads compares) (never_foreign cs loads compares)))

never : (b : Bool) (P : Type 0) → (b ≡ true → P) → (P → ⊥) → b ≡ false
never true P f g = absurd (g (f refl))
never false P f g = refl

module _ (head : StilHead) (call : ScanCall) (once : AreOnce (ports_of head.chains)) (fits : IsCallOn (bits_of head.chains) call) where
  length_map : (cs : List ScanChainDecl) → length (bits_of cs) ≡ length cs
  length_map [] = refl
  length_map (c ∷ cs) = ap suc (length_map cs)

  abbrev its : List Item
  its = items_for head.chains call.loads call.compares

  loads_are : AreGiven Load head.chains its call.loads
  loads_are = are_loads head.chains call.loads call.compares (fits.loads ∙ length_map head.chains) (fits.compares ∙ length_map head.chains) once

  compares_are : AreGiven Compare head.chains its call.compares
  compares_are = are_compares head.chains call.loads call.compares (fits.loads ∙ length_map head.chains) (fits.compares ∙ length_map head.chains) once

  pub call_is : call_of head.chains its ≡ call
  call_is =
      let l = strings_are Load head.chains its call.loads loads_are fits.load_characters in
      let k = strings_are Compare head.chains its call.compares compares_are fits.compare_characters in
      ap (λ (x : List (Option (List ℕ))). record { shifts = max (longest_string x) (longest_string (strings_of Compare head.chains its)); loads = x; compares = strings_of Compare head.chains its }) l
      ∙ ap (λ (x : List (Option (List ℕ))). record { shifts = max (longest_string call.loads) (longest_string x); loads = call.loads; compares = x }) k
      ∙ ap (λ (n : ℕ). record { shifts = n; loads = call.loads; compares = call.compares }) (sym fits.shifts)

  pub sound : IsAcceptedOn (bits_of head.chains) call → call.shifts ≤ most_characters → kind_of Lengths head (Scan its) ≡ None
  sound accepted few =
      let twice = never_twice head.chains call.loads call.compares once in
      let unsound = all_sound head.chains its call.loads call.compares loads_are compares_are fits.load_characters fits.compare_characters in
      let foreign = never_foreign head.chains call.loads call.compares in
      let short : is_short head.chains its ≡ false = never (is_short head.chains its) _ (λ e. subst (IsShortLoadOn (bits_of head.chains)) call_is ((short_law head.chains its).0 e)) accepted.not_short in
      let long : is_long head.chains its ≡ false = never (is_long head.chains its) _ (λ e. subst (IsLongCompareOn (bits_of head.chains)) call_is ((long_law head.chains its).0 e)) accepted.not_long in
      let vast : is_vast head.chains its ≡ false = never (is_vast head.chains its) _ (λ e. (vast_law head.chains its).0 e)
      (λ h. let k : call.shifts ≡ (call_of head.chains its).shifts = ap (λ (x : ScanCall). x.shifts) (sym call_is) in absurd (omega (arith, h, k, few))) in
      rw (twice, unsound, foreign, short, long, vast) refl
