-- Statements with wires in front and assigns behind: what they declare and mention, and that their items stay fine.
use Rattle.std.proofs.Common.{◌≡◌, ℕ, suc, ◌+◌, Bool, true, false, cond, not, ◌||◌, ◌⊎◌, inl, inr, ⊎_elim, List, [], ◌∷◌, ◌++◌, map, Option, Some, None, refl, sym, ap, ap₂, ◌∙◌, subst, append_assoc, arith}
use Rattle.std.specs.Prelude.{◌==◌}
use Rattle.std.specs.List.{flat_map, list_any, sum_by, AllByRecursion as Each}
use Rattle.std.specs.Str.{bytes_eq}
use Rattle.std.proofs.lemmas.Bool.{false≢true, or_parts, or_cases, or_left, or_right}
use Rattle.std.proofs.lemmas.Bool.Decides.{nat_tests}
use Rattle.std.proofs.lemmas.List.{append-nil}
use Rattle.std.proofs.lemmas.List.Concat.{flat_map-append}
use Rattle.std.proofs.lemmas.List.Folds.{list_any-append}
use Rattle.std.proofs.lemmas.List.Sums.{sum_by-cons}
use Rattle.base_types.proofs.TruthValues.{bytes_same}
use Rattle.verilog_syntax.specs.declared.statement.Item.{Item}
use Rattle.verilog_syntax.specs.declared.statement.Item.TheVariants as items
use Rattle.verilog_syntax.specs.declared.statement.Statement.{Statement}
use Rattle.verilog_syntax.specs.declared.statement.Statement.TheVariants as statements
use Rattle.verilog_syntax.specs.declared.reading.Placed.{Placed}
use Rattle.verilog_syntax.specs.StatementParts.{is_header}
use Rattle.verilog_names.specs.declared.bounds.Bounds.{Bounds}
use Rattle.verilog_names.specs.Values.{unescaped, decimal_value, name_text}
use Rattle.verilog_names.specs.NameTables.{with_declared}
use Rattle.verilog_names.specs.Declarations.{Declaration, declarations_in, declarations, is_declared, bounds_in, ports_in, header_ports, items_in, mentions_of, mentions_in, mentions, width_or_one, selects, selects_part, part_of}
use Rattle.verilog_checks.specs.Faults.{instances_named, instance_names, pins_in, is_bad_number, is_bad_select, item_width, differ_in_width}
use Rattle.verilog_reader.specs.Numbering.{entries}
use Rattle.verilog_reader.proofs.Checked.{IsSound, mentioned_named, each_left, each_right}
use Rattle.verilog_reader.proofs.Distinct.{each_weaker, each_append}
use Rattle.verilog_reader.proofs.Filling.{Entries}
use Rattle.verilog_reader.proofs.Places.{named, named_all, declared_named}
use Rattle.verilog_writer.specs.VerilogText.{NetBit, net_item, indexed_item, IsNetBit}
use Rattle.verilog_writer.specs.Inserted.{BitAssign, wire_statement, bit_expression, assign_statement, extended, IsPlainName}
use Rattle.verilog_writer.proofs.Names.{name_again}
use Rattle.verilog_writer.proofs.KeptBits.{IsKnownBit}
use Rattle.verilog_writer.proofs.KeptCounts.{named_has}
use Rattle.verilog_writer.proofs.KeptNames.{index_wide}
use Rattle.verilog_writer.proofs.KeptNets.{IsKnown}
use Rattle.verilog_writer.proofs.KeptSound.{IsFine, AreKnownNames, vector_named, bit_fine, all_fine, numbers_fine, selects_fine}
use Rattle.verilog_writer.proofs.WireNames.{IsNew, wire_of, wires_declared, not_wire, skip_bounds, skip_declared, wire_bounds}

-- a header declares and mentions nothing
pub record IsBare (s : Statement) : Type 0 where
  pub declares : declarations_in s ≡ []
  pub items : items_in s ≡ []
  pub instances : instances_named s ≡ []

pub header_bare : (s : Statement) → is_header s ≡ true → IsBare s
header_bare (statements.Module name ports) is = record { declares = refl; items = refl; instances = refl }
header_bare (statements.Declare kind range names) is = absurd (false≢true is)
header_bare (statements.Assign left right) is = absurd (false≢true is)
header_bare (statements.Instance cell name connections) is = absurd (false≢true is)

-- wires and assigns have nothing of this
pub wires_none : {X : Type 0} (f : Statement → List X) → ((name : List ℕ) → f (wire_statement name).statement ≡ []) → (names : List (List ℕ)) → flat_map (λ (p : Placed). f p.statement) (map wire_statement names) ≡ []
wires_none f none [] = refl
wires_none f none (name ∷ names) = ap (λ (l : List _). l ++ flat_map (λ (p : Placed). f p.statement) (map wire_statement names)) (none name) ∙ wires_none f none names

pub assigns_none : {X : Type 0} (f : Statement → List X) → ((a : BitAssign) → f (assign_statement a).statement ≡ []) → (all : List BitAssign) → flat_map (λ (p : Placed). f p.statement) (map assign_statement all) ≡ []
assigns_none f none [] = refl
assigns_none f none (a ∷ all) = ap (λ (l : List _). l ++ flat_map (λ (p : Placed). f p.statement) (map assign_statement all)) (none a) ∙ assigns_none f none all

-- the names that are mentioned, as entries
abbrev pub said : List (List ℕ) → Entries
said names = map (λ (name : List ℕ). let e : List ℕ × Option Bounds = (name, None) in e) names

pub named_or : (ps : List Placed) (q : List ℕ) → named (entries ps) q ≡ (is_declared (declarations ps) q || named (said (mentions ps)) q)
named_or ps q =
    named_all (with_declared [] (declarations ps)) (said (mentions ps)) q
    ∙ ap (λ (t : Bool). t || named (said (mentions ps)) q) (named_all [] (map (λ (d : Declaration). let e : List ℕ × Option Bounds = (d.name, d.bounds) in e) (declarations ps)) q ∙ declared_named (declarations ps) q)

said_append : (xs ys : List (List ℕ)) (q : List ℕ) → named (said (xs ++ ys)) q ≡ (named (said xs) q || named (said ys) q)
said_append [] ys q = refl
said_append (x ∷ xs) ys q = ap (λ (t : Bool). bytes_eq q x || t) (said_append xs ys q) ∙ or_assoc (bytes_eq q x) (named (said xs) q) (named (said ys) q)
  where
    or_assoc : (a b c : Bool) → (a || (b || c)) ≡ ((a || b) || c)
    or_assoc true b c = refl
    or_assoc false b c = refl

said_each : (P : List ℕ → Type 0) (xs : List (List ℕ)) → Each P xs → Each (λ (e : List ℕ × Option Bounds). P e.0) (said xs)
said_each P [] each = tt
said_each P (x ∷ xs) each = (each.0, said_each P xs each.1)

-- a bit of a wire, or one that was known before
pub record IsNearBit (ps : List Placed) (names : List (List ℕ)) (bit : NetBit) : Type 0 where
  pub is : IsNetBit bit
  pub near : ((is_declared (map wire_of names) bit.name ≡ true) × (bit.index ≡ None)) ⊎ IsKnown ps bit.name bit.index

pub record IsNearAssign (ps : List Placed) (names : List (List ℕ)) (a : BitAssign) : Type 0 where
  pub left : IsNearBit ps names a.left
  pub right : IsNearBit ps names a.right

module _ (h : Placed) (body : List Placed) (header : is_header h.statement ≡ true) (names : List (List ℕ)) (assigns : List BitAssign) where
  abbrev ps : List Placed
  ps = h ∷ body

  abbrev more : List Placed
  more = extended names assigns (h ∷ body)

  abbrev ws : List Declaration
  ws = map wire_of names

  pub flat_more : {X : Type 0} (f : Statement → List X) → flat_map (λ (p : Placed). f p.statement) more
      ≡ f h.statement ++ (flat_map (λ (p : Placed). f p.statement) (map wire_statement names) ++ (flat_map (λ (p : Placed). f p.statement) body ++ flat_map (λ (p : Placed). f p.statement) (map assign_statement assigns)))
  flat_more f =
      ap (λ (l : List _). f h.statement ++ l)
      (flat_map-append (λ (p : Placed). f p.statement) (map wire_statement names) (body ++ map assign_statement assigns)
      ∙ ap (λ (l : List _). flat_map (λ (p : Placed). f p.statement) (map wire_statement names) ++ l) (flat_map-append (λ (p : Placed). f p.statement) body (map assign_statement assigns)))

  -- what is the same
  flat_same : {X : Type 0} (f : Statement → List X) → ((name : List ℕ) → f (wire_statement name).statement ≡ []) → ((a : BitAssign) → f (assign_statement a).statement ≡ [])
      → flat_map (λ (p : Placed). f p.statement) more ≡ flat_map (λ (p : Placed). f p.statement) ps
  flat_same f wire assign =
      flat_more f
      ∙ ap₂ (λ (a b : List _). f h.statement ++ (a ++ (flat_map (λ (p : Placed). f p.statement) body ++ b))) (wires_none f wire names) (assigns_none f assign assigns)
      ∙ ap (λ (l : List _). f h.statement ++ l) (append-nil (flat_map (λ (p : Placed). f p.statement) body))

  pub ports_more : header_ports more ≡ header_ports ps
  ports_more = flat_same ports_in (λ name. refl) (λ a. refl)

  module _ (news : Each (IsNew ps) names) where
    plain : Each IsPlainName names
    plain = each_weaker (IsNew ps) IsPlainName names (λ name n. n.plain) news

    pub declared_more : declarations more ≡ ws ++ declarations ps
    declared_more =
        flat_more declarations_in
        ∙ ap (λ (l : List Declaration). l ++ (declarations (map wire_statement names) ++ (declarations body ++ declarations (map assign_statement assigns)))) (header_bare h.statement header).declares
        ∙ ap₂ (λ (a b : List Declaration). a ++ (declarations body ++ b)) (wires_declared names plain) (assigns_none declarations_in (λ a. refl) assigns)
        ∙ ap (λ (l : List Declaration). ws ++ l) (append-nil (declarations body) ∙ ap (λ (l : List Declaration). l ++ declarations body) (sym (header_bare h.statement header).declares))

    pub mentions_more : mentions more ≡ mentions ps ++ mentions (map assign_statement assigns)
    mentions_more =
        flat_more mentions_in
        ∙ ap (λ (l : List (List ℕ)). mentions_in h.statement ++ (l ++ (mentions body ++ mentions (map assign_statement assigns)))) (wires_none mentions_in (λ name. refl) names)
        ∙ sym (append_assoc (mentions_in h.statement) (mentions body) (mentions (map assign_statement assigns)))

    pub known_skip : (q : List ℕ) → named (entries ps) q ≡ true → is_declared ws q ≡ false
    known_skip q known = not_wire ps names q news known

    pub bounds_same : (q : List ℕ) → named (entries ps) q ≡ true → bounds_in (declarations more) q ≡ bounds_in (declarations ps) q
    bounds_same q known = ap (λ (ds : List Declaration). bounds_in ds q) declared_more ∙ skip_bounds q ws (declarations ps) (known_skip q known)

    named_now : (q : List ℕ) → named (entries more) q ≡ ((is_declared ws q || is_declared (declarations ps) q) || (named (said (mentions ps)) q || named (said (mentions (map assign_statement assigns))) q))
    named_now q =
        named_or more q
        ∙ ap₂ (λ (a b : Bool). a || b) (ap (λ (ds : List Declaration). is_declared ds q) declared_more ∙ list_any-append _ ws (declarations ps))
        (ap (λ (l : List (List ℕ)). named (said l) q) mentions_more ∙ said_append (mentions ps) (mentions (map assign_statement assigns)) q)

    pub named_still : (q : List ℕ) → named (entries ps) q ≡ true → named (entries more) q ≡ true
    named_still q known =
        named_now q
        ∙ ⊎_elim (λ (d : is_declared (declarations ps) q ≡ true). or_left (is_declared ws q || is_declared (declarations ps) q) _ (or_right (is_declared ws q) (is_declared (declarations ps) q) d))
        (λ (m : named (said (mentions ps)) q ≡ true). or_right (is_declared ws q || is_declared (declarations ps) q) _ (or_left (named (said (mentions ps)) q) _ m))
        (or_cases (is_declared (declarations ps) q) (named (said (mentions ps)) q) (sym (named_or ps q) ∙ known))

    pub wire_named : (q : List ℕ) → is_declared ws q ≡ true → named (entries more) q ≡ true
    wire_named q is = named_now q ∙ or_left (is_declared ws q || is_declared (declarations ps) q) _ (or_left (is_declared ws q) _ is)

    -- near bits are known
    pub near_known : (bit : NetBit) → IsNearBit ps names bit → IsKnownBit more bit
    near_known bit n = record { is = n.is; known = ⊎_elim (λ (w : (is_declared ws bit.name ≡ true) × (bit.index ≡ None)). wire bit.index w.1 w.0) (λ (k : IsKnown ps bit.name bit.index). old bit.index k) n.near }
      where
        wire : (i : Option ℕ) → i ≡ None → is_declared ws bit.name ≡ true → IsKnown more bit.name i
        wire None e is = (wire_named bit.name is, ap (λ (ds : List Declaration). bounds_in ds bit.name) declared_more ∙ wire_bounds bit.name names (declarations ps) is)
        wire (Some i) e is = absurd cc

        old : (i : Option ℕ) → IsKnown ps bit.name i → IsKnown more bit.name i
        old None k = (named_still bit.name k.0, bounds_same bit.name k.0 ∙ k.1)
        old (Some i) k = (k.0, ap (λ (b : Option Bounds). selects b i) (bounds_same bit.name (vector_named ps bit.name i k.1)) ∙ k.1)

    -- a name of the module, or of a wire
    abbrev IsNear : List ℕ → Type 0
    IsNear q = (is_declared ws q ≡ true) ⊎ (named (entries ps) q ≡ true)

    near_name : (bit : NetBit) → IsNearBit ps names bit → IsNear bit.name
    near_name bit n = ⊎_elim (λ (w : (is_declared ws bit.name ≡ true) × (bit.index ≡ None)). inl w.0) (λ (k : IsKnown ps bit.name bit.index). inr (old bit.index k)) n.near
      where
        old : (i : Option ℕ) → IsKnown ps bit.name i → named (entries ps) bit.name ≡ true
        old None k = k.0
        old (Some i) k = vector_named ps bit.name i k.1

    near_mentions : (bit : NetBit) → IsNearBit ps names bit → Each IsNear (mentions_of (net_item bit))
    near_mentions bit n = by bit.index (subst IsNear (sym (name_again bit.name n.is.name)) (near_name bit n))
      where
        by : (i : Option ℕ) → IsNear (unescaped (name_text bit.name)) → Each IsNear (mentions_of (indexed_item bit.name i))
        by None near = (near, tt)
        by (Some i) near = (near, tt)

    assigned_names : (all : List BitAssign) → Each (IsNearAssign ps names) all → Each IsNear (mentions (map assign_statement all))
    assigned_names [] near = tt
    assigned_names (a ∷ all) near =
        each_append IsNear (mentions_in (assign_statement a).statement) (mentions (map assign_statement all))
        (each_append IsNear (mentions_of (net_item a.left)) (mentions_of (net_item a.right) ++ []) (near_mentions a.left near.0.left)
        (each_append IsNear (mentions_of (net_item a.right)) [] (near_mentions a.right near.0.right) tt))
        (assigned_names all near.1)

    -- what isn't a wire was named before
    pub named_back : Each (IsNearAssign ps names) assigns → (q : List ℕ) → named (entries more) q ≡ true → is_declared ws q ≡ false → named (entries ps) q ≡ true
    named_back near q now none =
        named_or ps q
        ∙ ⊎_elim
        (λ (d : (is_declared ws q || is_declared (declarations ps) q) ≡ true). or_left (is_declared (declarations ps) q) _ (sym (ap (λ (t : Bool). t || is_declared (declarations ps) q) none) ∙ d))
        (λ (m : (named (said (mentions ps)) q || named (said (mentions (map assign_statement assigns))) q) ≡ true).
        ⊎_elim (λ (a : named (said (mentions ps)) q ≡ true). or_right (is_declared (declarations ps) q) _ a)
        (λ (b : named (said (mentions (map assign_statement assigns))) q ≡ true).
        ⊎_elim (λ (w : is_declared ws q ≡ true). absurd (false≢true (sym none ∙ w))) (λ (k : named (entries ps) q ≡ true). sym (named_or ps q) ∙ k)
        (named_has IsNear (said (mentions (map assign_statement assigns))) q (said_each IsNear (mentions (map assign_statement assigns)) (assigned_names assigns near)) b))
        (or_cases (named (said (mentions ps)) q) (named (said (mentions (map assign_statement assigns))) q) m))
        (or_cases (is_declared ws q || is_declared (declarations ps) q) _ (sym (named_now q) ∙ now))

    -- items
    select_same : (x : Item) → AreKnownNames ps (mentions_of x) → is_bad_select (bounds_in (declarations more)) x ≡ is_bad_select (bounds_in (declarations ps)) x
    select_same items.Open known = refl
    select_same items.Comma known = refl
    select_same items.Close known = refl
    select_same (items.Name name) known = refl
    select_same (items.Bit name index) known = ap (λ (b : Option Bounds). not (selects b (decimal_value index))) (bounds_same (unescaped name) known.0)
    select_same (items.Part name left right) known = ap (λ (b : Option Bounds). not (selects_part b (part_of left right))) (bounds_same (unescaped name) known.0)
    select_same (items.Constant text) known = refl

    fine_more : (x : Item) → IsFine ps x → IsFine more x
    fine_more x f = record {
      number = f.number;
      select = select_same x f.mentions ∙ f.select;
      mentions = each_weaker (λ (q : List ℕ). named (entries ps) q ≡ true) (λ (q : List ℕ). named (entries more) q ≡ true) (mentions_of x) (λ q k. named_still q k) f.mentions;
    }

    width_same : (x : Item) → AreKnownNames ps (mentions_of x) → item_width (bounds_in (declarations more)) x ≡ item_width (bounds_in (declarations ps)) x
    width_same items.Open known = refl
    width_same items.Comma known = refl
    width_same items.Close known = refl
    width_same (items.Name name) known = ap width_or_one (bounds_same (unescaped name) known.0)
    width_same (items.Bit name index) known = refl
    width_same (items.Part name left right) known = refl
    width_same (items.Constant text) known = refl

    abbrev P : List ℕ → Type 0
    P q = named (entries ps) q ≡ true

    sums_same : (xs : List Item) → AreKnownNames ps (flat_map mentions_of xs) → sum_by (item_width (bounds_in (declarations more))) xs ≡ sum_by (item_width (bounds_in (declarations ps))) xs
    sums_same [] known = refl
    sums_same (x ∷ xs) known =
        sum_by-cons (item_width (bounds_in (declarations more))) x xs
        ∙ ap₂ (λ (a b : ℕ). a + b) (width_same x (each_left P (mentions_of x) (flat_map mentions_of xs) known)) (sums_same xs (each_right P (mentions_of x) (flat_map mentions_of xs) known))
        ∙ sym (sum_by-cons (item_width (bounds_in (declarations ps))) x xs)

    widths_same : (s : Statement) → AreKnownNames ps (mentions_in s) → differ_in_width (bounds_in (declarations more)) s ≡ differ_in_width (bounds_in (declarations ps)) s
    widths_same (statements.Module name ports) known = refl
    widths_same (statements.Declare kind range names) known = refl
    widths_same (statements.Assign left right) known =
        let parts = subst (AreKnownNames ps) (flat_map-append mentions_of left.items right.items) known in
        ap₂ (λ (a b : ℕ). not (a == b)) (sums_same left.items (each_left P (flat_map mentions_of left.items) (flat_map mentions_of right.items) parts))
        (sums_same right.items (each_right P (flat_map mentions_of left.items) (flat_map mentions_of right.items) parts))
    widths_same (statements.Instance cell name connections) known = refl

    sound_one : (s : Statement) → IsSound ps s → AreKnownNames ps (mentions_in s) → IsSound more s
    sound_one s sound known =
        let fine = each_weaker (IsFine ps) (IsFine more) (items_in s) fine_more (all_fine ps (items_in s) sound.number sound.select known) in
        record { range = sound.range; number = sound.number; select = selects_fine more (items_in s) fine; widths = widths_same s known ∙ sound.widths }

    sound_old : (qs : List Placed) → Each (λ (q : Placed). IsSound ps q.statement) qs → AreKnownNames ps (mentions qs) → Each (λ (q : Placed). IsSound more q.statement) qs
    sound_old [] sound known = tt
    sound_old (q ∷ qs) sound known = (sound_one q.statement sound.0 (each_left P (mentions_in q.statement) (mentions qs) known), sound_old qs sound.1 (each_right P (mentions_in q.statement) (mentions qs) known))

    sound_wires : (all : List (List ℕ)) → Each (λ (q : Placed). IsSound more q.statement) (map wire_statement all)
    sound_wires [] = tt
    sound_wires (name ∷ all) = (record { range = refl; number = refl; select = refl; widths = refl }, sound_wires all)

    one_wide : (x y : ℕ) → x ≡ 1 → y ≡ 1 → not (x == y) ≡ false
    one_wide x y a b = grind (arith, nat_tests)

    sound_assigns : (all : List BitAssign) → Each (IsNearAssign ps names) all → Each (λ (q : Placed). IsSound more q.statement) (map assign_statement all)
    sound_assigns [] near = tt
    sound_assigns (a ∷ all) near =
        let left = near_known a.left near.0.left in
        let right = near_known a.right near.0.right in
        let fine : Each (IsFine more) (net_item a.left ∷ net_item a.right ∷ []) = (bit_fine more a.left left, (bit_fine more a.right right, tt)) in
        let width = item_width (bounds_in (declarations more)) in
        let wl = index_wide more a.left left in
        let wr = index_wide more a.right right in
        let sl = sum_by-cons width (net_item a.left) [] in
        let sr = sum_by-cons width (net_item a.right) [] in (
          record {
            range = refl;
            number = numbers_fine more (net_item a.left ∷ net_item a.right ∷ []) fine;
            select = selects_fine more (net_item a.left ∷ net_item a.right ∷ []) fine;
            widths = one_wide (sum_by width (net_item a.left ∷ [])) (sum_by width (net_item a.right ∷ [])) (omega (arith, wl, sl)) (omega (arith, wr, sr));
          },
          sound_assigns all near.1,
        )

    -- all statements are sound
    pub sound_more : Each (λ (q : Placed). IsSound ps q.statement) ps → Each (IsNearAssign ps names) assigns → Each (λ (q : Placed). IsSound more q.statement) more
    sound_more sound near =
        let S = λ (q : Placed). IsSound more q.statement in
        let olds = sound_old ps sound (mentioned_named ps) in
        (olds.0, each_append S (map wire_statement names) (body ++ map assign_statement assigns) (sound_wires names) (each_append S body (map assign_statement assigns) olds.1 (sound_assigns assigns near)))
