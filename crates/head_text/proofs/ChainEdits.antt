-- The edits of a chain's statements, in the order in which they stand, are those of its declaration.
use Rattle.std.specs.Prelude.{⊤}
use Rattle.std.proofs.Common.{◌≡◌, ℕ, zero, suc, ◌+◌, ◌-◌, ◌<◌, ◌≤◌, Bool, true, false, cond, List, [], ◌∷◌, ◌++◌, length, decimal, is_some, Option, Some, None, refl, sym, ap, ◌∙◌, subst, arith, append_assoc}
use Rattle.std.specs.Prelude.{nat_le}
use Rattle.std.specs.List.{flat_map, AllByRecursion as Each}
use Rattle.std.proofs.lemmas.Bool.Decides.{nat_tests}
use Rattle.std.proofs.lemmas.List.{append-nil}
use Rattle.std.proofs.lemmas.Option.{same_Some}
use Rattle.base_types.specs.declared.span.Span.{Span}
use Rattle.token_forms.specs.Forms.{put_all}
use Rattle.token_forms.specs.Parsing.{◌>>=◌}
use Rattle.splice.specs.declared.Edit.{Edit}
use Rattle.splice.specs.Spliced.{AreRising}
use Rattle.stil_blocks.specs.declared.cells.CellList.{CellList}
use Rattle.stil_blocks.specs.declared.clause.Clause.{Clause}
use Rattle.stil_blocks.specs.declared.clause.Clause.TheVariants.{Length, In, Out, Inversion, Cells, OutLength, Passed, NoForm}
use Rattle.stil_blocks.specs.declared.chain.ChainParts.{ChainParts}
use Rattle.stil_blocks.specs.Chains.{once, put_clause, place_in}
use Rattle.head_text.specs.Written.{NewChain, bit_text, cells_text, edit_at, edit_if, put_edit, sorted_edits}
use Rattle.head_text.proofs.ClauseRows.{clause_edits}

-- edits that begin before a place
abbrev Before : ℕ → List Edit → Type 0
Before b es = Each (λ e. e.span.start < b) es

put_last : (e : Edit) (es : List Edit) → Before e.span.start es → put_edit e es ≡ es ++ e ∷ []
put_last e [] x = refl
put_last e (f ∷ es) x =
    let here = x.0 in
    let later : nat_le e.span.start f.span.start ≡ false = grind (arith, nat_tests) in
    ap (λ (b : Bool). cond b (e ∷ f ∷ es) (f ∷ put_edit e es)) later ∙ ap (λ (l : List Edit). f ∷ l) (put_last e es x.1)

put_first : (b : Bool) (e f : Edit) (es : List Edit) (last : Edit) → put_edit e (es ++ last ∷ []) ≡ put_edit e es ++ last ∷ [] → cond b (e ∷ f ∷ (es ++ last ∷ [])) (f ∷ put_edit e (es ++ last ∷ [])) ≡ cond b (e ∷ f ∷ es) (f ∷ put_edit e es) ++ last ∷ []
put_first true e f es last h = refl
put_first false e f es last h = ap (λ (l : List Edit). f ∷ l) h

put_before : (e last : Edit) (es : List Edit) → e.span.start < last.span.start → put_edit e (es ++ last ∷ []) ≡ put_edit e es ++ last ∷ []
put_before e last [] less =
    let sooner : nat_le e.span.start last.span.start ≡ true = grind (arith, nat_tests) in
    ap (λ (b : Bool). cond b (e ∷ last ∷ []) (last ∷ e ∷ [])) sooner
put_before e last (f ∷ es) less = put_first (nat_le e.span.start f.span.start) e f es last (put_before e last es less)

module _ (P : Edit → Type 0) where
  each_put_if : (b : Bool) (e f : Edit) (es : List Edit) → P e → P f → Each P es → Each P (put_edit e es) → Each P (cond b (e ∷ f ∷ es) (f ∷ put_edit e es))
  each_put_if true e f es p q r s = (p, (q, r))
  each_put_if false e f es p q r s = (q, s)

  each_put : (e : Edit) (es : List Edit) → P e → Each P es → Each P (put_edit e es)
  each_put e [] p ps = (p, tt)
  each_put e (f ∷ es) p ps = each_put_if (nat_le e.span.start f.span.start) e f es p ps.0 ps.1 (each_put e es p ps.1)

  each_sorted : (es : List Edit) → Each P es → Each P (sorted_edits es)
  each_sorted [] ps = tt
  each_sorted (e ∷ es) ps = each_put e (sorted_edits es) ps.0 (each_sorted es ps.1)

  each_back : (xs ys : List Edit) → Each P (xs ++ ys) → Each P ys
  each_back [] ys ps = ps
  each_back (x ∷ xs) ys ps = each_back xs ys ps.1

-- one that begins behind all others stands last, wherever it stood
sorted_last : (xs ys : List Edit) (e : Edit) → Before e.span.start (xs ++ ys) → sorted_edits (xs ++ e ∷ ys) ≡ sorted_edits (xs ++ ys) ++ e ∷ []
sorted_last [] ys e before = put_last e (sorted_edits ys) (each_sorted (λ f. f.span.start < e.span.start) ys before)
sorted_last (x ∷ xs) ys e before = ap (put_edit x) (sorted_last xs ys e before.1) ∙ put_before x e (sorted_edits (xs ++ ys)) before.0

put_each : (b : ℕ) (xs ys : List Edit) (e : Edit) → e.span.start < b → Before b (xs ++ ys) → Before b (xs ++ e ∷ ys)
put_each b [] ys e less before = (less, before)
put_each b (x ∷ xs) ys e less before = (before.0, put_each b xs ys e less before.1)

wider : (a b : ℕ) (es : List Edit) → a ≤ b → Before a es → Before b es
wider a b [] less before = tt
wider a b (e ∷ es) less before = (let k = before.0 in omega arith, wider a b es less before.1)

pub all_more : (q : ChainParts) (d : Clause) (ds : List Clause) (x : Option ChainParts) → put_clause q d ≡ x → put_all put_clause q (d ∷ ds) ≡ (x >>= λ t. put_all put_clause t ds)
unfolding put_all
all_more q d ds x e = ap (λ (o : Option ChainParts). o >>= λ t. put_all put_clause t ds) e

pub all_none : (q : ChainParts) → put_all put_clause q [] ≡ Some q
unfolding put_all
all_none q = refl

module _ (marks : Bool) (n : NewChain) where
  -- the edits of what was said so far
  abbrev edits_by : Option Span → Option Span → Option Span → List Edit
  edits_by l i c = edit_if l (decimal (length n.bits)) ++ (edit_if i (bit_text n.inversion) ++ edit_if c (cells_text marks n))

  abbrev pub part_edits : ChainParts → List Edit
  part_edits p = edits_by (place_in p.length) (place_in p.inversion) (place_in p.cells)

  -- a statement more, with its edits behind all others
  record Grown (at end : ℕ) (p q : ChainParts) (c : Clause) (cs : List Clause) : Type 0 where
    next : ℕ
    same : sorted_edits (part_edits q) ≡ sorted_edits (part_edits p) ++ clause_edits marks n c
    before : Before next (part_edits q)
    rising : AreRising next end (flat_map (clause_edits marks n) cs)

  module _ (at end : ℕ) (cs : List Clause) where
    -- at a place
    grown : (p q : ChainParts) (c : Clause) (xs ys : List Edit) (e : Edit) → part_edits p ≡ xs ++ ys → part_edits q ≡ xs ++ e ∷ ys → clause_edits marks n c ≡ e ∷ [] → Before at (part_edits p)
        → AreRising at end (e ∷ flat_map (clause_edits marks n) cs) → Grown at end p q c cs
    grown p q c xs ys e old new is before rising =
        let first = rising.0 in
        let wide = rising.1 in
        let all = subst (Before at) old before in
        record {
          next = e.span.end + 1;
          same = ap sorted_edits new ∙ sorted_last xs ys e (wider at e.span.start (xs ++ ys) first all) ∙ ap (λ (l : List Edit). sorted_edits l ++ e ∷ []) (sym old) ∙ ap (λ (l : List Edit). sorted_edits (part_edits p) ++ l) (sym is);
          before = subst (Before (e.span.end + 1)) (sym new) (put_each (e.span.end + 1) xs ys e (omega (arith, wide)) (wider at (e.span.end + 1) (xs ++ ys) (omega (arith, wide, first)) all));
          rising = rising.3;
        }

    none : (p q : ChainParts) (c : Clause) → part_edits q ≡ part_edits p → clause_edits marks n c ≡ [] → Before at (part_edits p) → AreRising at end (flat_map (clause_edits marks n) cs) → Grown at end p q c cs
    none p q c same is before rising = record {
      next = at;
      same = ap sorted_edits same ∙ sym (append-nil (sorted_edits (part_edits p))) ∙ ap (λ (l : List Edit). sorted_edits (part_edits p) ++ l) (sym is);
      before = subst (Before at) (sym same) before;
      rising = rising;
    }

    abbrev parts : Option (ℕ × Span) → Option (List ℕ) → Option (List ℕ) → Option (Bool × Span) → Option (CellList × Span) → Bool → ChainParts
    parts l i o v c b = record { length = l; scan_in = i; scan_out = o; inversion = v; cells = c; out_length = b }

    grow : (l : Option (ℕ × Span)) (i o : Option (List ℕ)) (v : Option (Bool × Span)) (c : Option (CellList × Span)) (b : Bool) (d : Clause) (q : ChainParts) → put_clause (parts l i o v c b) d ≡ Some q
        → Before at (part_edits (parts l i o v c b)) → AreRising at end (clause_edits marks n d ++ flat_map (clause_edits marks n) cs) → Grown at end (parts l i o v c b) q d cs
    grow None i o v c b (Length m s) q e before rising = subst (λ (q : ChainParts). Grown at end (parts None i o v c b) q (Length m s) cs) (same_Some _ _ e)
        (grown (parts None i o v c b) (parts (Some (m, s)) i o v c b) (Length m s) [] (edit_if (place_in v) (bit_text n.inversion) ++ edit_if (place_in c) (cells_text marks n)) (edit_at s (decimal (length n.bits))) refl refl refl before rising)
    grow (Some a) i o v c b (Length m s) q e before rising = absurd cc
    grow l i o None c b (Inversion m s) q e before rising = subst (λ (q : ChainParts). Grown at end (parts l i o None c b) q (Inversion m s) cs) (same_Some _ _ e)
        (grown (parts l i o None c b) (parts l i o (Some (m, s)) c b) (Inversion m s) (edit_if (place_in l) (decimal (length n.bits))) (edit_if (place_in c) (cells_text marks n)) (edit_at s (bit_text n.inversion)) refl refl refl before rising)
    grow l i o (Some a) c b (Inversion m s) q e before rising = absurd cc
    grow l i o v None b (Cells m s) q e before rising =
        let x = edit_if (place_in l) (decimal (length n.bits)) in
        let y = edit_if (place_in v) (bit_text n.inversion) in
        subst (λ (q : ChainParts). Grown at end (parts l i o v None b) q (Cells m s) cs) (same_Some _ _ e)
        (grown (parts l i o v None b) (parts l i o v (Some (m, s)) b) (Cells m s) (x ++ y) [] (edit_at s (cells_text marks n)) (sym (append_assoc x y [])) (sym (append_assoc x y (edit_at s (cells_text marks n) ∷ []))) refl before rising)
    grow l i o v (Some a) b (Cells m s) q e before rising = absurd cc
    grow l None o v c b (In port) q e before rising = subst (λ (q : ChainParts). Grown at end (parts l None o v c b) q (In port) cs) (same_Some _ _ e)
        (none (parts l None o v c b) (parts l (Some port) o v c b) (In port) refl refl before rising)
    grow l (Some a) o v c b (In port) q e before rising = absurd cc
    grow l i None v c b (Out port) q e before rising = subst (λ (q : ChainParts). Grown at end (parts l i None v c b) q (Out port) cs) (same_Some _ _ e)
        (none (parts l i None v c b) (parts l i (Some port) v c b) (Out port) refl refl before rising)
    grow l i (Some a) v c b (Out port) q e before rising = absurd cc
    grow l i o v c b OutLength q e before rising = subst (λ (q : ChainParts). Grown at end (parts l i o v c b) q OutLength cs) (same_Some _ _ e)
        (none (parts l i o v c b) (parts l i o v c true) OutLength refl refl before rising)
    grow l i o v c b Passed q e before rising = subst (λ (q : ChainParts). Grown at end (parts l i o v c b) q Passed cs) (same_Some _ _ e)
        (none (parts l i o v c b) (parts l i o v c b) Passed refl refl before rising)
    grow l i o v c b NoForm q e before rising = absurd cc

  -- all of them
  pub sorted_parts : (cs : List Clause) (at end : ℕ) (p q : ChainParts) → put_all put_clause p cs ≡ Some q → Before at (part_edits p) → AreRising at end (flat_map (clause_edits marks n) cs)
      → sorted_edits (part_edits q) ≡ sorted_edits (part_edits p) ++ flat_map (clause_edits marks n) cs
  sorted_parts [] at end p q e before rising =
      ap (λ (p : ChainParts). sorted_edits (part_edits p)) (sym (same_Some _ _ (sym (all_none p) ∙ e))) ∙ sym (append-nil (sorted_edits (part_edits p)))
  sorted_parts (c ∷ cs) at end p q e before rising = by (λ at p e b r. sorted_parts cs at end p q e b r) (put_clause p c) refl
    where
      by : ((at : ℕ) (p : ChainParts) → put_all put_clause p cs ≡ Some q → Before at (part_edits p) → AreRising at end (flat_map (clause_edits marks n) cs)
          → sorted_edits (part_edits q) ≡ sorted_edits (part_edits p) ++ flat_map (clause_edits marks n) cs)
          → (o : Option ChainParts) → put_clause p c ≡ o → sorted_edits (part_edits q) ≡ sorted_edits (part_edits p) ++ (clause_edits marks n c ++ flat_map (clause_edits marks n) cs)
      by more None f = absurd (let k = sym (all_more p c cs None f) ∙ e in cc)
      by more (Some r) f =
          let g = grow at end cs p.length p.scan_in p.scan_out p.inversion p.cells p.out_length c r f before rising in
          more g.next r (sym (all_more p c cs (Some r) f) ∙ e) g.before g.rising ∙ ap (λ (l : List Edit). l ++ flat_map (clause_edits marks n) cs) g.same
          ∙ append_assoc (sorted_edits (part_edits p)) (clause_edits marks n c) (flat_map (clause_edits marks n) cs)

-- what a statement says is among what all say
abbrev pub Covers : ChainParts → Clause → Type 0
Covers p (Length m s) = ⊤
Covers p (Inversion m s) = is_some p.inversion ≡ true
Covers p (Cells m s) = is_some p.cells ≡ true
Covers p (In port) = ⊤
Covers p (Out port) = ⊤
Covers p OutLength = ⊤
Covers p Passed = ⊤
Covers p NoForm = ⊥

record Held (p q : ChainParts) : Type 0 where
  inversion : is_some p.inversion ≡ true → is_some q.inversion ≡ true
  cells : is_some p.cells ≡ true → is_some q.cells ≡ true

record Step (p q : ChainParts) (c : Clause) : Type 0 where
  held : Held p q
  covers : Covers q c

module _ where
  abbrev said : Option (ℕ × Span) → Option (List ℕ) → Option (List ℕ) → Option (Bool × Span) → Option (CellList × Span) → Bool → ChainParts
  said l i o v c b = record { length = l; scan_in = i; scan_out = o; inversion = v; cells = c; out_length = b }

  step : (l : Option (ℕ × Span)) (i o : Option (List ℕ)) (v : Option (Bool × Span)) (c : Option (CellList × Span)) (b : Bool) (d : Clause) (q : ChainParts) → put_clause (said l i o v c b) d ≡ Some q → Step (said l i o v c b) q d
  step None i o v c b (Length m s) q e = subst (λ (q : ChainParts). Step (said None i o v c b) q (Length m s)) (same_Some _ _ e) (record { held = record { inversion = λ h. h; cells = λ h. h }; covers = tt })
  step (Some a) i o v c b (Length m s) q e = absurd cc
  step l i o None c b (Inversion m s) q e = subst (λ (q : ChainParts). Step (said l i o None c b) q (Inversion m s)) (same_Some _ _ e) (record { held = record { inversion = λ h. refl; cells = λ h. h }; covers = refl })
  step l i o (Some a) c b (Inversion m s) q e = absurd cc
  step l i o v None b (Cells m s) q e = subst (λ (q : ChainParts). Step (said l i o v None b) q (Cells m s)) (same_Some _ _ e) (record { held = record { inversion = λ h. h; cells = λ h. refl }; covers = refl })
  step l i o v (Some a) b (Cells m s) q e = absurd cc
  step l None o v c b (In port) q e = subst (λ (q : ChainParts). Step (said l None o v c b) q (In port)) (same_Some _ _ e) (record { held = record { inversion = λ h. h; cells = λ h. h }; covers = tt })
  step l (Some a) o v c b (In port) q e = absurd cc
  step l i None v c b (Out port) q e = subst (λ (q : ChainParts). Step (said l i None v c b) q (Out port)) (same_Some _ _ e) (record { held = record { inversion = λ h. h; cells = λ h. h }; covers = tt })
  step l i (Some a) v c b (Out port) q e = absurd cc
  step l i o v c b OutLength q e = subst (λ (q : ChainParts). Step (said l i o v c b) q OutLength) (same_Some _ _ e) (record { held = record { inversion = λ h. h; cells = λ h. h }; covers = tt })
  step l i o v c b Passed q e = subst (λ (q : ChainParts). Step (said l i o v c b) q Passed) (same_Some _ _ e) (record { held = record { inversion = λ h. h; cells = λ h. h }; covers = tt })
  step l i o v c b NoForm q e = absurd cc

covers_held : (q r : ChainParts) (c : Clause) → Held q r → Covers q c → Covers r c
covers_held q r (Length m s) h k = tt
covers_held q r (Inversion m s) h k = h.inversion k
covers_held q r (Cells m s) h k = h.cells k
covers_held q r (In port) h k = tt
covers_held q r (Out port) h k = tt
covers_held q r OutLength h k = tt
covers_held q r Passed h k = tt
covers_held q r NoForm h k = k

record AllCovered (p q : ChainParts) (cs : List Clause) : Type 0 where
  held : Held p q
  each : Each (Covers q) cs

put_covered : (p q r : ChainParts) (c : Clause) (cs : List Clause) → Step p r c → AllCovered r q cs → AllCovered p q (c ∷ cs)
put_covered p q r c cs s a =
    let h = s.held in
    let g = a.held in
    record { held = record { inversion = λ k. g.inversion (h.inversion k); cells = λ k. g.cells (h.cells k) }; each = (covers_held r q c g s.covers, a.each) }

all_covered : (cs : List Clause) (p q : ChainParts) → put_all put_clause p cs ≡ Some q → AllCovered p q cs
all_covered [] p q e = subst (λ (q : ChainParts). AllCovered p q []) (same_Some _ _ (sym (all_none p) ∙ e)) (record { held = record { inversion = λ h. h; cells = λ h. h }; each = tt })
all_covered (c ∷ cs) p q e = by (λ p e. all_covered cs p q e) (put_clause p c) refl
  where
    by : ((p : ChainParts) → put_all put_clause p cs ≡ Some q → AllCovered p q cs) → (o : Option ChainParts) → put_clause p c ≡ o → AllCovered p q (c ∷ cs)
    by more None f = absurd (let k = sym (all_more p c cs None f) ∙ e in cc)
    by more (Some r) f = put_covered p q r c cs (step p.length p.scan_in p.scan_out p.inversion p.cells p.out_length c r f) (more r (sym (all_more p c cs (Some r) f) ∙ e))

pub clauses_covered : (cs : List Clause) (p q : ChainParts) → put_all put_clause p cs ≡ Some q → Each (Covers q) cs
clauses_covered cs p q e = (all_covered cs p q e).each
