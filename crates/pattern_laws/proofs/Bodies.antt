-- The block of a Loop, statement by statement.
use Rattle.std.specs.Prelude.{⊤}
use Rattle.std.proofs.Common.{◌≡◌, inl, inr, ℕ, ◌+◌, ◌-◌, ◌≤◌, Bool, true, false, cond, ◌||◌, not, filter, List, [], ◌∷◌, ◌++◌, length, take, drop, map, Option, Some, None, refl, sym, ap, ◌∙◌, subst, arith, append_assoc, length-append}
use Rattle.std.specs.List.{AllByRecursion as Each, list_any}
use Rattle.std.proofs.lemmas.Bool.{cases_Bool, true≢false}
use Rattle.std.proofs.lemmas.List.{append-nil}
use Rattle.base_types.specs.declared.kind.Kind.{Kind}
use Rattle.token_forms.specs.Tokens.{Token, place_of}
use Rattle.stil_parts.specs.declared.part.PartFault.{PartFault}
use Rattle.stil_types.specs.declared.head.ScanChainDecl.{ScanChainDecl}
use Rattle.stil_types.specs.declared.head.StilHead.{StilHead}
use Rattle.stil_types.specs.declared.statement.ScanCall.{ScanCall}
use Rattle.stil_types.specs.declared.statement.BodyStatement.{BodyStatement}
use Rattle.stil_syntax.specs.Shapes.{is_scan_call, is_empty, shape_of}
use Rattle.stil_calls.specs.declared.judging.Judging.TheVariants.{Lengths}
use Rattle.stil_calls.specs.Faults.{kind_of, fault_or, line_in, body_fault}
use Rattle.stil_calls.specs.Statements.{call_in, body_of}
use Rattle.stil_tester.specs.declared.chains.Chains.{Chains}
use Rattle.stil_tester.specs.Meaning.{ReadAlike, CallsShowSame, BlocksAlike, BlocksShowSame}
use Rattle.stil_tester.specs.Runs.{bytes_in as slice}
use Rattle.stil_writer.proofs.Lays.{bytes_in, AreLaid, laid, take_front, drop_front}
use Rattle.stil_written.specs.Written.{with_chains}
use Rattle.stil_written.specs.Readings.{reading}
use Rattle.pattern_laws.specs.Laws.{SamePorts, IsMove, tokens_on, AreRisingIn}
use Rattle.stil_writer.specs.Loops.{written_part, calls_left, loop_from, call_moved, calls_moved}
use Rattle.pattern_laws.proofs.Shifts.{scan_call_on, shift_law}
use Rattle.stil_writer.proofs.ReadAgain.{bytes_append}
use Rattle.pattern_laws.proofs.Cuts.{Pieces, Seg, Gap, Run, all_pieces, runs, IsRunSeg, are_front, are_back, AreRenewed}
use Rattle.pattern_laws.proofs.Parts.{laid_at, KeptAs, Kept, keep}

-- a statement that counts
abbrev pub is_full : List Token → Bool
is_full s = not (is_empty s)

empty_on : (k : ℕ) (ts : List Token) → is_empty (tokens_on k ts) ≡ is_empty ts
empty_on k [] = refl
empty_on k (t ∷ ts) = refl

empty_at : (at : ℕ) (qs : Pieces) → is_empty (laid at qs) ≡ is_empty (laid 0 qs)
empty_at at qs = ap is_empty (laid_at at qs) ∙ empty_on at (laid 0 qs)

shape_at : (head : StilHead) (at : ℕ) (qs : Pieces) → shape_of head true (laid at qs) ≡ shape_of head true (laid 0 qs)
shape_at head at qs = ap (shape_of head true) (laid_at at qs) ∙ shift_law at head (laid 0 qs)

scan_at : (head : StilHead) (at : ℕ) (qs : Pieces) → is_scan_call head (laid at qs) ≡ is_scan_call head (laid 0 qs)
scan_at head at qs = ap (is_scan_call head) (laid_at at qs) ∙ scan_call_on at head (laid 0 qs)

pub counts : (s : List Token) (ss : List (List Token)) → is_empty s ≡ false → filter is_full (s ∷ ss) ≡ s ∷ filter is_full ss
counts s ss e = ap (λ (b : Bool). cond (not b) (s ∷ filter is_full ss) (filter is_full ss)) e

pub counts_not : (s : List Token) (ss : List (List Token)) → is_empty s ≡ true → filter is_full (s ∷ ss) ≡ filter is_full ss
counts_not s ss e = ap (λ (b : Bool). cond (not b) (s ∷ filter is_full ss) (filter is_full ss)) e

-- the bytes between two places
slice_is : (text pre w rest : List ℕ) (at s e : ℕ) → text ≡ pre ++ (w ++ rest) → at ≡ length pre → s ≡ at → e ≡ at + length w → take (e - s) (drop s text) ≡ w
slice_is text pre w rest at s e is here start stop =
    let n : e - s ≡ length w = omega (arith, start, stop) in
    let m : s ≡ length pre = omega (arith, here, start) in
    ap (λ (k : ℕ). take k (drop s text)) n ∙ ap (λ (k : ℕ). take (length w) (drop k text)) m ∙ ap (λ (l : List ℕ). take (length w) (drop (length pre) l)) is
    ∙ ap (take (length w)) (drop_front pre (w ++ rest)) ∙ take_front w rest

pub no_fault : (k : Option Kind) (line : ℕ) (more : Option PartFault) → fault_or k line more ≡ None → (k ≡ None) × (more ≡ None)
no_fault None line more e = (refl, e)
no_fault (Some k) line more e = absurd cc

fault_none : (k : Option Kind) (line : ℕ) (more : Option PartFault) → k ≡ None → more ≡ None → fault_or k line more ≡ None
fault_none k line more e f = ap (λ (o : Option Kind). fault_or o line more) e ∙ f

or_true : (a b c d : Bool) → (a ≡ true → c ≡ true) → (b ≡ true → d ≡ true) → (a || b) ≡ true → (c || d) ≡ true
or_true true b c d f g e = ap (λ (t : Bool). t || d) (f refl)
or_true false b true d f g e = refl
or_true false b false d f g e = g e

pub left_moved : (move : ScanCall → ScanCall) (o : Option ScanCall) (more : List ScanCall) → calls_left o (call_moved move o more) ≡ more
left_moved move None more = refl
left_moved move (Some c) more = refl

-- the text, a statement further on
behind_run : (text pre z : List ℕ) (qs ps : Pieces) → text ≡ pre ++ (bytes_in (qs ++ ps) ++ z) → text ≡ pre ++ (bytes_in qs ++ (bytes_in ps ++ z))
behind_run text pre z qs ps is = is ∙ ap (λ (l : List ℕ). pre ++ (l ++ z)) (bytes_append qs ps) ∙ ap (λ (l : List ℕ). pre ++ l) (append_assoc (bytes_in qs) (bytes_in ps) z)

further : (text pre w rest : List ℕ) → text ≡ pre ++ (w ++ rest) → text ≡ (pre ++ w) ++ rest
further text pre w rest is = is ∙ sym (append_assoc pre w rest)

behind_gap : (text pre w b z : List ℕ) → text ≡ pre ++ ((w ++ b) ++ z) → text ≡ (pre ++ w) ++ (b ++ z)
behind_gap text pre w b z is = further text pre w (b ++ z) (is ∙ ap (λ (l : List ℕ). pre ++ l) (append_assoc w b z))

module _ (head other : StilHead) (old new : Chains) (move : ScanCall → ScanCall) where
  -- at each place stands what may stand for the read one
  abbrev pub AreKept : List Seg → List Seg → Type 0
  AreKept [] [] = ⊤
  AreKept [] (h ∷ hs) = ⊥
  AreKept (g ∷ gs) [] = ⊥
  AreKept (Gap w ∷ gs) (Gap v ∷ hs) = (w ≡ v) × AreKept gs hs
  AreKept (Gap w ∷ gs) (Run rs ∷ hs) = ⊥
  AreKept (Run qs ∷ gs) (Gap v ∷ hs) = ⊥
  AreKept (Run qs ∷ gs) (Run rs ∷ hs) = Kept head other old new move qs rs × AreKept gs hs

  pub kept_renewed : (gs hs : List Seg) → AreKept gs hs → AreRenewed gs hs
  kept_renewed [] [] k = tt
  kept_renewed [] (h ∷ hs) k = absurd k
  kept_renewed (g ∷ gs) [] k = absurd k
  kept_renewed (Gap w ∷ gs) (Gap v ∷ hs) k = (k.0, kept_renewed gs hs k.1)
  kept_renewed (Gap w ∷ gs) (Run rs ∷ hs) k = absurd k
  kept_renewed (Run qs ∷ gs) (Gap v ∷ hs) k = absurd k
  kept_renewed (Run qs ∷ gs) (Run rs ∷ hs) k = (k.0.renewed, kept_renewed gs hs k.1)

  -- a scan call stands there still
  pub any_kept : (at at' : ℕ) (gs hs : List Seg) → AreKept gs hs → list_any (is_scan_call head) (runs at gs) ≡ true → list_any (is_scan_call other) (runs at' hs) ≡ true
  any_kept at at' [] [] k e = absurd (true≢false (sym e))
  any_kept at at' [] (h ∷ hs) k e = absurd k
  any_kept at at' (g ∷ gs) [] k e = absurd k
  any_kept at at' (Gap w ∷ gs) (Gap v ∷ hs) k e = any_kept (at + length w) (at' + length v) gs hs k.1 e
  any_kept at at' (Gap w ∷ gs) (Run rs ∷ hs) k e = absurd k
  any_kept at at' (Run qs ∷ gs) (Gap v ∷ hs) k e = absurd k
  any_kept at at' (Run qs ∷ gs) (Run rs ∷ hs) k e =
      or_true (is_scan_call head (laid at qs)) (list_any (is_scan_call head) (runs (at + length (bytes_in qs)) gs)) (is_scan_call other (laid at' rs)) (list_any (is_scan_call other) (runs (at' + length (bytes_in rs)) hs))
      (λ h. scan_at other at' rs ∙ k.0.scans (sym (scan_at head at qs) ∙ h)) (any_kept (at + length (bytes_in qs)) (at' + length (bytes_in rs)) gs hs k.1) e

  -- the statements of two blocks are alike at each place, and the new ones have no fault
  pub record BlockOf (line line' : ℕ) (text text' : List ℕ) (ss ss' : List (List Token)) : Type 0 where
    pub alike : BlocksAlike reading text text' (map (body_of head line text) ss) (map (body_of other line' text') ss')
    pub shows : BlocksShowSame old new (map (body_of head line text) ss) (map (body_of other line' text') ss')
    pub sound : body_fault Lengths other line' text' ss' ≡ None

  alike_by : (o o' p p' : Option ScanCall) (a a' b b' : List ℕ) → o ≡ o' → a ≡ a' → p ≡ p' → b ≡ b' → ReadAlike reading o' a' p' b' → ReadAlike reading o a p b
  alike_by o o' p p' a a' b b' e f g h r =
      subst (λ (x : Option ScanCall). ReadAlike reading x a p b) (sym e)
      (subst (λ (x : List ℕ). ReadAlike reading o' x p b) (sym f) (subst (λ (x : Option ScanCall). ReadAlike reading o' a' x b) (sym g) (subst (λ (x : List ℕ). ReadAlike reading o' a' p' x) (sym h) r)))

  shows_by : (o o' p p' : Option ScanCall) → o ≡ o' → p ≡ p' → CallsShowSame old new o' p' → CallsShowSame old new o p
  shows_by o o' p p' e f r = subst (λ (x : Option ScanCall). CallsShowSame old new x p) (sym e) (subst (λ (x : Option ScanCall). CallsShowSame old new o' x) (sym f) r)

  module _ (line line' : ℕ) (text text' : List ℕ) where
    one_block : (qs rs : Pieces) (at at' : ℕ) (ss ss' : List (List Token)) → KeptAs head other old new move qs rs → slice text (body_of head line text (laid at qs)) ≡ bytes_in qs → slice text' (body_of other line' text' (laid at' rs)) ≡ bytes_in rs
        → BlockOf line line' text text' ss ss' → BlockOf line line' text text' (laid at qs ∷ ss) (laid at' rs ∷ ss')
    one_block qs rs at at' ss ss' k a b more =
        let o : call_in head (shape_of head true (laid at qs)) ≡ call_in head k.before = ap (call_in head) (shape_at head at qs ∙ k.shape) in
        let p : call_in other (shape_of other true (laid at' rs)) ≡ call_in other k.after = ap (call_in other) (shape_at other at' rs ∙ k.shape_new) in
        record {
          alike = (alike_by _ _ _ _ _ _ _ _ o a p b k.alike, more.alike);
          shows = (shows_by _ _ _ _ o p k.shows, more.shows);
          sound = fault_none (kind_of Lengths other (shape_of other true (laid at' rs))) (line_in line' text' (place_of (laid at' rs)).start) (body_fault Lengths other line' text' ss')
              (ap (kind_of Lengths other) (shape_at other at' rs ∙ k.shape_new) ∙ k.kind) more.sound;
        }

    block_by : (ss us ss' us' : List (List Token)) → ss ≡ us → ss' ≡ us' → BlockOf line line' text text' us us' → BlockOf line line' text text' ss ss'
    block_by ss us ss' us' e f b = subst (λ (x : List (List Token)). BlockOf line line' text text' x ss') (sym e) (subst (λ (x : List (List Token)). BlockOf line line' text text' us x) (sym f) b)

    pub blocks : (gs hs : List Seg) (pre z pre' z' : List ℕ) (at at' : ℕ) → text ≡ pre ++ (bytes_in (all_pieces gs) ++ z) → text' ≡ pre' ++ (bytes_in (all_pieces hs) ++ z') → at ≡ length pre → at' ≡ length pre' → Each IsRunSeg gs → AreKept gs hs
        → BlockOf line line' text text' (filter is_full (runs at gs)) (filter is_full (runs at' hs))
    blocks [] [] pre z pre' z' at at' is is' here here' each k = record { alike = tt; shows = tt; sound = refl }
    blocks [] (h ∷ hs) pre z pre' z' at at' is is' here here' each k = absurd k
    blocks (g ∷ gs) [] pre z pre' z' at at' is is' here here' each k = absurd k
    blocks (Gap w ∷ gs) (Gap v ∷ hs) pre z pre' z' at at' is is' here here' each k =
        blocks gs hs (pre ++ w) z (pre' ++ v) z' (at + length w) (at' + length v) (behind_gap text pre w (bytes_in (all_pieces gs)) z is) (behind_gap text' pre' v (bytes_in (all_pieces hs)) z' is')
        (omega (arith, here, length-append pre w)) (omega (arith, here', length-append pre' v)) each.1 k.1
    blocks (Gap w ∷ gs) (Run rs ∷ hs) pre z pre' z' at at' is is' here here' each k = absurd k
    blocks (Run qs ∷ gs) (Gap v ∷ hs) pre z pre' z' at at' is is' here here' each k = absurd k
    blocks (Run qs ∷ gs) (Run rs ∷ hs) pre z pre' z' at at' is is' here here' each k =
        let a = behind_run text pre z qs (all_pieces gs) is in
        let b = behind_run text' pre' z' rs (all_pieces hs) is' in
        let more = blocks gs hs (pre ++ bytes_in qs) z (pre' ++ bytes_in rs) z' (at + length (bytes_in qs)) (at' + length (bytes_in rs))
        (further text pre (bytes_in qs) (bytes_in (all_pieces gs) ++ z) a) (further text' pre' (bytes_in rs) (bytes_in (all_pieces hs) ++ z') b)
        (omega (arith, here, length-append pre (bytes_in qs))) (omega (arith, here', length-append pre' (bytes_in rs))) each.1 k.1 in
        elim (cases_Bool (is_empty (laid 0 qs))) [
          | inl e ↦ block_by _ _ _ _ (counts_not (laid at qs) (runs (at + length (bytes_in qs)) gs) (empty_at at qs ∙ e)) (counts_not (laid at' rs) (runs (at' + length (bytes_in rs)) hs) (empty_at at' rs ∙ k.0.empty ∙ e)) more
          | inr e ↦ block_by _ _ _ _ (counts (laid at qs) (runs (at + length (bytes_in qs)) gs) (empty_at at qs ∙ e)) (counts (laid at' rs) (runs (at' + length (bytes_in rs)) hs) (empty_at at' rs ∙ k.0.empty ∙ e))
              (one_block qs rs at at' (filter is_full (runs (at + length (bytes_in qs)) gs)) (filter is_full (runs (at' + length (bytes_in rs)) hs)) (k.0.reads e)
              (slice_is text pre (bytes_in qs) (bytes_in (all_pieces gs) ++ z) at (place_of (laid at qs)).start (place_of (laid at qs)).end a here (each.0.start at) (each.0.end at))
              (slice_is text' pre' (bytes_in rs) (bytes_in (all_pieces hs) ++ z') at' (place_of (laid at' rs)).start (place_of (laid at' rs)).end b here' (k.0.renewed.run.start at') (k.0.renewed.run.end at')) more)
        ]

  -- what is written of the block
  module _ (line : ℕ) (text : List ℕ) where
    abbrev body : List (List Token) → List BodyStatement
    body ss = map (body_of head line text) ss

    abbrev from_there : ℕ → List (List Token) → List ℕ
    from_there n ss = loop_from other.chains text n (body ss) (calls_moved move (body ss))

    one_written : (qs rs : Pieces) (at n : ℕ) (ss : List (List Token)) (g rest : List ℕ) → KeptAs head other old new move qs rs → slice text (body_of head line text (laid at qs)) ≡ bytes_in qs
        → take ((place_of (laid at qs)).start - n) (drop n text) ≡ g → from_there (place_of (laid at qs)).end ss ≡ rest → from_there n (laid at qs ∷ ss) ≡ g ++ (bytes_in rs ++ rest)
    one_written qs rs at n ss g rest k a before more =
        let b = body_of head line text (laid at qs) in
        let calls = calls_moved move (body ss) in
        let o : b.call ≡ call_in head k.before = ap (call_in head) (shape_at head at qs ∙ k.shape) in
        let part : written_part other.chains (slice text b) b.call (call_moved move b.call calls) ≡ bytes_in rs =
        ap (λ (l : List ℕ). written_part other.chains l b.call (call_moved move b.call calls)) a ∙ ap (λ (c : Option ScanCall). written_part other.chains (bytes_in qs) c (call_moved move c calls)) o ∙ k.written calls in
        let behind : loop_from other.chains text b.end (body ss) (calls_left b.call (call_moved move b.call calls)) ≡ rest = ap (loop_from other.chains text b.end (body ss)) (left_moved move b.call calls) ∙ more in
        ap (λ (l : List ℕ). l ++ (written_part other.chains (slice text b) b.call (call_moved move b.call calls) ++ loop_from other.chains text b.end (body ss) (calls_left b.call (call_moved move b.call calls)))) before
        ∙ ap (λ (l : List ℕ). g ++ (l ++ loop_from other.chains text b.end (body ss) (calls_left b.call (call_moved move b.call calls)))) part
        ∙ ap (λ (l : List ℕ). g ++ (bytes_in rs ++ l)) behind

    pub writes : (gs hs : List Seg) (p g z : List ℕ) (n at : ℕ) → text ≡ (p ++ g) ++ (bytes_in (all_pieces gs) ++ z) → n ≡ length p → at ≡ n + length g → Each IsRunSeg gs → AreKept gs hs
        → from_there n (filter is_full (runs at gs)) ≡ g ++ (bytes_in (all_pieces hs) ++ z)
    writes [] [] p g z n at is here there each k = ap (λ (i : ℕ). drop i text) here ∙ ap (drop (length p)) (is ∙ append_assoc p g z) ∙ drop_front p (g ++ z)
    writes [] (h ∷ hs) p g z n at is here there each k = absurd k
    writes (x ∷ gs) [] p g z n at is here there each k = absurd k
    writes (Gap w ∷ gs) (Gap v ∷ hs) p g z n at is here there each k =
        let b = bytes_in (all_pieces gs) in
        let c = bytes_in (all_pieces hs) in
        let a : text ≡ (p ++ (g ++ w)) ++ (b ++ z) = behind_gap text (p ++ g) w b z is ∙ ap (λ (l : List ℕ). l ++ (b ++ z)) (append_assoc p g w) in
        writes gs hs p (g ++ w) z n (at + length w) a here (omega (arith, there, length-append g w)) each.1 k.1 ∙ append_assoc g w (c ++ z) ∙ ap (λ (l : List ℕ). g ++ l) (sym (append_assoc w c z))
        ∙ ap (λ (l : List ℕ). g ++ ((l ++ c) ++ z)) k.0
    writes (Gap w ∷ gs) (Run rs ∷ hs) p g z n at is here there each k = absurd k
    writes (Run qs ∷ gs) (Gap v ∷ hs) p g z n at is here there each k = absurd k
    writes (Run qs ∷ gs) (Run rs ∷ hs) p g z n at is here there each k =
        let b = bytes_in (all_pieces gs) in
        let c = bytes_in (all_pieces hs) in
        let w = bytes_in qs in
        let a = behind_run text (p ++ g) z qs (all_pieces gs) is in
        let whole : bytes_in rs ++ (c ++ z) ≡ bytes_in (rs ++ all_pieces hs) ++ z = sym (append_assoc (bytes_in rs) c z) ∙ ap (λ (l : List ℕ). l ++ z) (sym (bytes_append rs (all_pieces hs))) in
        let at_is : at ≡ length (p ++ g) = omega (arith, here, there, length-append p g) in
        elim (cases_Bool (is_empty (laid 0 qs))) [
          | inl e ↦ (
              let same = k.0.stays e in
              let h : text ≡ (p ++ (g ++ w)) ++ (b ++ z) = further text (p ++ g) w (b ++ z) a ∙ ap (λ (l : List ℕ). l ++ (b ++ z)) (append_assoc p g w) in
              ap (from_there n) (counts_not (laid at qs) (runs (at + length w) gs) (empty_at at qs ∙ e))
              ∙ writes gs hs p (g ++ w) z n (at + length w) h here (omega (arith, there, length-append g w)) each.1 k.1 ∙ append_assoc g w (c ++ z) ∙ ap (λ (l : List ℕ). g ++ (l ++ (c ++ z))) same
              ∙ ap (λ (l : List ℕ). g ++ l) whole)
          | inr e ↦ (
              let stop = each.0.end at in
              let next : text ≡ (((p ++ g) ++ w) ++ []) ++ (b ++ z) = further text (p ++ g) w (b ++ z) a ∙ ap (λ (l : List ℕ). l ++ (b ++ z)) (sym (append-nil ((p ++ g) ++ w))) in
              let more = writes gs hs ((p ++ g) ++ w) [] z (place_of (laid at qs)).end (at + length w) next (omega (arith, stop, at_is, length-append (p ++ g) w)) (omega (arith, stop)) each.1 k.1 in
              let fore = slice_is text p g (w ++ (b ++ z)) n n (place_of (laid at qs)).start (a ∙ append_assoc p g (w ++ (b ++ z))) here refl (each.0.start at ∙ there) in
              ap (from_there n) (counts (laid at qs) (runs (at + length w) gs) (empty_at at qs ∙ e))
              ∙ one_written qs rs at n (filter is_full (runs (at + length w) gs)) g (c ++ z) (k.0.reads e)
              (slice_is text (p ++ g) w (b ++ z) at (place_of (laid at qs)).start (place_of (laid at qs)).end a at_is (each.0.start at) stop) fore more
              ∙ ap (λ (l : List ℕ). g ++ l) whole)
        ]

-- the statements of a block stand in order
pub rises : (head : StilHead) (line : ℕ) (text : List ℕ) (gs : List Seg) (n at e : ℕ) → Each IsRunSeg gs → n ≤ at → at + length (bytes_in (all_pieces gs)) ≤ e → AreRisingIn n e (map (body_of head line text) (filter is_full (runs at gs)))
rises head line text [] n at e each le end = omega (arith, le, end)
rises head line text (Gap w ∷ gs) n at e each le end = rises head line text gs n (at + length w) e each.1 (omega (arith, le)) (omega (arith, end, length-append w (bytes_in (all_pieces gs))))
rises head line text (Run qs ∷ gs) n at e each le end =
    let len : length (bytes_in (qs ++ all_pieces gs)) ≡ length (bytes_in qs) + length (bytes_in (all_pieces gs)) = ap (λ (l : List ℕ). length l) (bytes_append qs (all_pieces gs)) ∙ length-append (bytes_in qs) (bytes_in (all_pieces gs)) in
    let start = each.0.start at in
    let stop = each.0.end at in
    let behind : at + length (bytes_in qs) + length (bytes_in (all_pieces gs)) ≤ e = omega (arith, end, len) in
    elim (cases_Bool (is_empty (laid 0 qs))) [
      | inl f ↦ subst (λ (l : List (List Token)). AreRisingIn n e (map (body_of head line text) l)) (sym (counts_not (laid at qs) (runs (at + length (bytes_in qs)) gs) (empty_at at qs ∙ f)))
          (rises head line text gs n (at + length (bytes_in qs)) e each.1 (omega (arith, le)) behind)
      | inr f ↦ subst (λ (l : List (List Token)). AreRisingIn n e (map (body_of head line text) l)) (sym (counts (laid at qs) (runs (at + length (bytes_in qs)) gs) (empty_at at qs ∙ f)))
          (omega (arith, le, start), omega (arith, start, stop), rises head line text gs (place_of (laid at qs)).end (at + length (bytes_in qs)) e each.1 (omega (arith, stop)) behind)
    ]

module _ (head : StilHead) (chains : List ScanChainDecl) (marks : Bool) (end : ℕ) (old new : Chains) (move : ScanCall → ScanCall) (ports : SamePorts head.chains chains)
    (moving : IsMove head (with_chains head chains marks end) old new move) (line : ℕ) (text : List ℕ) where
  abbrev AreKeptFor : List Seg → List Seg → Type 0
  AreKeptFor gs hs = AreKept head (with_chains head chains marks end) old new move gs hs

  -- each statement of a block without fault has one that stands for it
  pub keep_all : (gs : List Seg) (at : ℕ) (z : List ℕ) → Each IsRunSeg gs → AreLaid z (all_pieces gs) → body_fault Lengths head line text (filter is_full (runs at gs)) ≡ None → (hs : List Seg) × AreKeptFor gs hs
  keep_all [] at z each lies sound = ([], tt)
  keep_all (Gap w ∷ gs) at z each lies sound = let m = keep_all gs (at + length w) z each.1 lies.2 sound in (Gap w ∷ m.0, (refl, m.1))
  keep_all (Run qs ∷ gs) at z each lies sound =
      let ss = runs (at + length (bytes_in qs)) gs in
      let s = laid at qs in
      let parts : (is_empty s ≡ false → kind_of Lengths head (shape_of head true s) ≡ None) × (body_fault Lengths head line text (filter is_full ss) ≡ None) = elim (cases_Bool (is_empty s)) [
        | inl e ↦ ((λ f. absurd (true≢false (sym e ∙ f))), ap (body_fault Lengths head line text) (sym (counts_not s ss e)) ∙ sound)
        | inr e ↦ (let h = no_fault (kind_of Lengths head (shape_of head true s)) (line_in line text (place_of s).start) (body_fault Lengths head line text (filter is_full ss)) (ap (body_fault Lengths head line text) (sym (counts s ss e)) ∙ sound) in ((λ f. h.0), h.1))
      ] in
      let one = keep head chains marks end old new move ports moving qs (bytes_in (all_pieces gs) ++ z) each.0 (are_front qs (all_pieces gs) z lies)
      (λ f. ap (kind_of Lengths head) (sym (shape_at head at qs)) ∙ parts.0 (empty_at at qs ∙ f)) in
      let m = keep_all gs (at + length (bytes_in qs)) z each.1 (are_back qs (all_pieces gs) z lies) parts.1 in
      (Run one.0 ∷ m.0, (one.1, m.1))
