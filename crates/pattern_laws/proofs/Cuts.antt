-- The statements in a block whose texts are replaced one by one are as many, each with the tokens of its own text.
use Rattle.std.specs.Prelude.{⊤}
use Rattle.std.proofs.Common.{◌≡◌, inl, inr, ℕ, zero, suc, ◌+◌, ◌<◌, ◌≤◌, Bool, true, false, cond, List, [], ◌∷◌, ◌++◌, length, take, drop, Some, None, refl, sym, ap, ◌∙◌, subst, arith, append_assoc, length-append}
use Rattle.std.specs.List.{AllByRecursion as Each}
use Rattle.std.proofs.lemmas.Bool.{cases_Bool, true≢false}
use Rattle.std.proofs.Math.Seq.{drop-append_seam, take-append_seam}
use Rattle.token_forms.specs.Pieces.{piece_len}
use Rattle.token_forms.specs.Tokens.{Token, place_of}
use Rattle.stil_tokens.specs.StilTokens.{piece_at}
use Rattle.stil_tokens.specs.StilStatements.{token_ends, depth_behind, closed_in, is_closed, len_in, statement_len, statements_within, stil_statements}
use Rattle.stil_tokens.proofs.StilCuts.{first_law}
use Rattle.stil_parts.specs.Ending.{statement_end}
use Rattle.stil_writer.proofs.Lays.{bytes_in, len_for, AreLaid, laid}
use Rattle.stil_writer.proofs.Pieces.{piece_stays}
use Rattle.stil_writer.proofs.ReadAgain.{bytes_append, laid_append, are_append}
use Rattle.pattern_laws.specs.Laws.{tokens_on}

abbrev pub Pieces : Type 0
Pieces = List (Bool × List ℕ)

-- a piece between statements, or the pieces of one
pub data Seg : Type 0 where
  Gap : List ℕ → Seg
  Run : Pieces → Seg

abbrev pub seg_pieces : Seg → Pieces
seg_pieces (Gap w) = (false, w) ∷ []
seg_pieces (Run qs) = qs

abbrev pub all_pieces : List Seg → Pieces
all_pieces [] = []
all_pieces (g ∷ gs) = seg_pieces g ++ all_pieces gs

-- the tokens of each statement, from a place on
abbrev pub runs : ℕ → List Seg → List (List Token)
runs at [] = []
runs at (Gap w ∷ gs) = runs (at + length w) gs
runs at (Run qs ∷ gs) = laid at qs ∷ runs (at + length (bytes_in qs)) gs

-- the last of the tokens ends a statement, and none before does
abbrev pub IsOneFrom : ℕ → List Token → Type 0
IsOneFrom depth [] = ⊥
IsOneFrom depth (t ∷ []) = token_ends depth t.text ≡ true
IsOneFrom depth (t ∷ u ∷ us) = (token_ends depth t.text ≡ false) × IsOneFrom (depth_behind depth t.text) (u ∷ us)

-- pieces of one statement: its first token is the first piece, and its last the last
pub record IsRun (qs : Pieces) : Type 0 where
  pub one : (at : ℕ) → IsOneFrom 0 (laid at qs)
  pub start : (at : ℕ) → (place_of (laid at qs)).start ≡ at
  pub end : (at : ℕ) → (place_of (laid at qs)).end ≡ at + length (bytes_in qs)

abbrev pub IsRunSeg : Seg → Type 0
IsRunSeg (Gap w) = ⊤
IsRunSeg (Run qs) = IsRun qs

pub are_front : (ps qs : Pieces) (z : List ℕ) → AreLaid z (ps ++ qs) → AreLaid (bytes_in qs ++ z) ps
are_front [] qs z a = tt
are_front (p ∷ ps) qs z a =
    let same : bytes_in (ps ++ qs) ++ z ≡ bytes_in ps ++ (bytes_in qs ++ z) = ap (λ (l : List ℕ). l ++ z) (bytes_append ps qs) ∙ append_assoc (bytes_in ps) (bytes_in qs) z in
    (a.0, ap (λ (l : List ℕ). piece_at (p.1 ++ l)) (sym same) ∙ a.1, are_front ps qs z a.2)

pub are_back : (ps qs : Pieces) (z : List ℕ) → AreLaid z (ps ++ qs) → AreLaid z qs
are_back [] qs z a = a
are_back (p ∷ ps) qs z a = are_back ps qs z a.2

-- pieces hang on the first byte behind them alone
pub laid_stays : (ps : Pieces) (y z : List ℕ) → take 1 y ≡ take 1 z → AreLaid y ps → AreLaid z ps
laid_stays ps [] [] e a = a
laid_stays ps [] (c ∷ z) e a = absurd cc
laid_stays ps (b ∷ y) [] e a = absurd cc
laid_stays [] (b ∷ y) (c ∷ z) e a = tt
laid_stays (p ∷ ps) (b ∷ y) (c ∷ z) e a =
    let same : b ≡ c = cc in
    let x = p.1 ++ (bytes_in ps ++ b ∷ []) in
    let to : (v : List ℕ) → p.1 ++ (bytes_in ps ++ b ∷ v) ≡ x ++ v = λ v. ap (λ (l : List ℕ). p.1 ++ l) (sym (append_assoc (bytes_in ps) (b ∷ []) v)) ∙ sym (append_assoc p.1 (bytes_in ps ++ b ∷ []) v) in
    let len : piece_len (piece_at (x ++ y)) ≡ length p.1 = ap (λ (l : List ℕ). piece_len (piece_at l)) (sym (to y)) ∙ ap piece_len a.1 ∙ len_for p.0 (length p.1) in
    let short : piece_len (piece_at (x ++ y)) < length x = omega (arith, len, length-append p.1 (bytes_in ps ++ b ∷ []), length-append (bytes_in ps) (b ∷ [])) in
    let here = ap (λ (n : ℕ). piece_at (p.1 ++ (bytes_in ps ++ n ∷ z))) (sym same) ∙ ap piece_at (to z) ∙ piece_stays x y z short ∙ ap piece_at (sym (to y)) ∙ a.1 in
    (a.0, here, laid_stays ps (b ∷ y) (c ∷ z) e a.2)

-- the tokens of pieces further on
pub laid_on : (k at : ℕ) (ps : Pieces) → laid (k + at) ps ≡ tokens_on k (laid at ps)
laid_on k at [] = refl
laid_on k at ((true, w) ∷ ps) =
    let e : k + at + length w ≡ k + (at + length w) = omega arith in
    ap (λ (n : ℕ). record { text = w; start = k + at; end = n } ∷ laid (k + at + length w) ps) e
    ∙ ap (λ (n : ℕ). record { text = w; start = k + at; end = k + (at + length w) } ∷ laid n ps) e
    ∙ ap (λ (l : List Token). record { text = w; start = k + at; end = k + (at + length w) } ∷ l) (laid_on k (at + length w) ps)
laid_on k at ((false, w) ∷ ps) = let e : k + at + length w ≡ k + (at + length w) = omega arith in ap (λ (n : ℕ). laid n ps) e ∙ laid_on k (at + length w) ps

-- one statement in front
len_as : (t : Bool) (m n : ℕ) → t ≡ false → m ≡ n → cond t 1 (1 + m) ≡ suc n
len_as true m n e f = absurd (true≢false e)
len_as false m n e f = omega (arith, f)

len_one : (depth : ℕ) (s rest : List Token) → IsOneFrom depth s → len_in depth (s ++ rest) ≡ length s
len_one depth [] rest o = absurd o
len_one depth (t ∷ []) rest o = ap (λ (b : Bool). cond b 1 (1 + len_in (depth_behind depth t.text) rest)) o
len_one depth (t ∷ u ∷ us) rest o = len_as (token_ends depth t.text) _ _ o.0 (len_one (depth_behind depth t.text) (u ∷ us) rest o.1)

pub cut_one : (s rest : List Token) → IsOneFrom 0 s → stil_statements (s ++ rest) ≡ s ∷ stil_statements rest
cut_one [] rest o = absurd o
cut_one (t ∷ us) rest o =
    let s = t ∷ us in
    let n : statement_len (s ++ rest) ≡ length s = len_one 0 s rest o in
    first_law t (us ++ rest) ∙ ap (λ (k : ℕ). take k (s ++ rest) ∷ stil_statements (drop k (s ++ rest))) n
    ∙ ap (λ (l : List Token). l ∷ stil_statements (drop (length s) (s ++ rest))) (take-append_seam s rest)
    ∙ ap (λ (l : List Token). s ∷ stil_statements l) (drop-append_seam s rest)

none : stil_statements [] ≡ []
unfolding statements_within
none = refl

-- the cut
pub cut : (at : ℕ) (gs : List Seg) → Each IsRunSeg gs → stil_statements (laid at (all_pieces gs)) ≡ runs at gs
cut at [] e = none
cut at (Gap w ∷ gs) e = cut (at + length w) gs e.1
cut at (Run qs ∷ gs) e =
    ap stil_statements (laid_append at qs (all_pieces gs)) ∙ cut_one (laid at qs) (laid (at + length (bytes_in qs)) (all_pieces gs)) (e.0.one at)
    ∙ ap (λ (l : List (List Token)). laid at qs ∷ l) (cut (at + length (bytes_in qs)) gs e.1)

-- where one statement ends
pub one_end : (depth : ℕ) (ts : List Token) → IsOneFrom depth ts → statement_end depth ts ≡ Some (place_of ts).end
one_end depth [] o = absurd o
one_end depth (t ∷ []) o = ap (λ (b : Bool). cond b (Some t.end) None) o
one_end depth (t ∷ u ∷ us) o = ap (λ (b : Bool). cond b (Some t.end) (statement_end (depth_behind depth t.text) (u ∷ us))) o.0 ∙ one_end (depth_behind depth t.text) (u ∷ us) o.1

pub one_more : (depth : ℕ) (t : Token) (us : List Token) → token_ends depth t.text ≡ false → IsOneFrom (depth_behind depth t.text) us → IsOneFrom depth (t ∷ us)
one_more depth t [] e o = absurd o
one_more depth t (u ∷ us) e o = (e, o)

-- the pieces up to the end of a statement
pub record Ended (depth : ℕ) (ps : Pieces) : Type 0 where
  pub front : Pieces
  pub rest : Pieces
  pub is : ps ≡ front ++ rest
  pub one : (at : ℕ) → IsOneFrom depth (laid at front)
  pub ends : (at : ℕ) → statement_end depth (laid at front) ≡ Some (at + length (bytes_in front))

abbrev closed_first : ℕ → List Token → Bool
closed_first depth ts = closed_in false depth (take (len_in depth ts) ts)

closed_next : (depth : ℕ) (t : Token) (ts : List Token) → token_ends depth t.text ≡ false → closed_first depth (t ∷ ts) ≡ true → closed_first (depth_behind depth t.text) ts ≡ true
closed_next depth t ts e h =
    let d = depth_behind depth t.text in
    let n : len_in depth (t ∷ ts) ≡ suc (len_in d ts) = len_as (token_ends depth t.text) _ _ e refl in
    sym (ap (λ (k : ℕ). closed_in false depth (take k (t ∷ ts))) n ∙ ap (λ (b : Bool). closed_in b d (take (len_in d ts) ts)) e) ∙ h

pub ended : (depth at : ℕ) (ps : Pieces) → closed_first depth (laid at ps) ≡ true → Ended depth ps
ended depth at [] h = absurd (true≢false (sym h))
ended depth at ((false, w) ∷ ps) h =
    let f = ended depth (at + length w) ps h in
    record {
      front = (false, w) ∷ f.front;
      rest = f.rest;
      is = ap (λ (l : Pieces). (false, w) ∷ l) f.is;
      one = λ n. f.one (n + length w);
      ends = λ n. (let k : n + length w + length (bytes_in f.front) ≡ n + length (w ++ bytes_in f.front) = omega (arith, length-append w (bytes_in f.front)) in f.ends (n + length w) ∙ ap (λ (i : ℕ). Some i) k);
    }
ended depth at ((true, w) ∷ ps) h = elim (cases_Bool (token_ends depth w)) [
  | inl e ↦ record {
    front = (true, w) ∷ [];
    rest = ps;
    is = refl;
    one = λ n. e;
    ends = λ n. (let k : n + length w ≡ n + length (w ++ []) = omega (arith, length-append w []) in ap (λ (b : Bool). cond b (Some (n + length w)) None) e ∙ ap (λ (i : ℕ). Some i) k);
  }
  | inr e ↦ (
      let t : Token = record { text = w; start = at; end = at + length w } in
      let f = ended (depth_behind depth w) (at + length w) ps (closed_next depth t (laid (at + length w) ps) e h) in
      record {
        front = (true, w) ∷ f.front;
        rest = f.rest;
        is = ap (λ (l : Pieces). (true, w) ∷ l) f.is;
        one = λ n. one_more depth (record { text = w; start = n; end = n + length w }) (laid (n + length w) f.front) e (f.one (n + length w));
        ends = λ n. (
            let k : n + length w + length (bytes_in f.front) ≡ n + length (w ++ bytes_in f.front) = omega (arith, length-append w (bytes_in f.front)) in
            ap (λ (b : Bool). cond b (Some (n + length w)) (statement_end (depth_behind depth w) (laid (n + length w) f.front))) e ∙ f.ends (n + length w) ∙ ap (λ (i : ℕ). Some i) k);
      })
]

start_front : (s r : List Token) → IsOneFrom 0 s → (place_of (s ++ r)).start ≡ (place_of s).start
start_front [] r o = absurd o
start_front (t ∷ s) r o = refl

some_same : (m n : ℕ) → Some m ≡ Some n → m ≡ n
some_same m n e = cc

pub run_from : (w : List ℕ) (ps : Pieces) (f : Ended 0 ((true, w) ∷ ps)) → IsRun f.front
run_from w ps f = record {
  one = f.one;
  start = λ at.
      sym (start_front (laid at f.front) (laid (at + length (bytes_in f.front)) f.rest) (f.one at)) ∙ ap (λ (l : List Token). (place_of l).start) (sym (laid_append at f.front f.rest))
      ∙ ap (λ (l : Pieces). (place_of (laid at l)).start) (sym f.is);
  end = λ at. some_same _ _ (sym (one_end 0 (laid at f.front) (f.one at)) ∙ f.ends at);
}

abbrev pub IsClosed : List Token → Type 0
IsClosed s = is_closed s ≡ true

-- a block by its statements
pub record Segs (ps : Pieces) : Type 0 where
  pub segs : List Seg
  pub is : ps ≡ all_pieces segs
  pub each : Each IsRunSeg segs

front_some : (ps rest : Pieces) → IsOneFrom 0 (laid 0 ps) → length rest < length (ps ++ rest)
front_some [] rest o = absurd o
front_some (p ∷ ps) rest o = omega (arith, length-append ps rest)

pub segs_of : (fuel at : ℕ) (ps : Pieces) → length ps ≤ fuel → Each IsClosed (stil_statements (laid at ps)) → Segs ps
segs_of fuel at [] short e = record { segs = []; is = refl; each = tt }
segs_of zero at (p ∷ ps) short e = absurd (omega arith)
segs_of (suc fuel) at ((false, w) ∷ ps) short e =
    let f = segs_of fuel (at + length w) ps (omega arith) e in
    record { segs = Gap w ∷ f.segs; is = ap (λ (l : Pieces). (false, w) ∷ l) f.is; each = (tt, f.each) }
segs_of (suc fuel) at ((true, w) ∷ ps) short e =
    let whole = (true, w) ∷ ps in
    let t : Token = record { text = w; start = at; end = at + length w } in
    let first = subst (Each IsClosed) (first_law t (laid (at + length w) ps)) e in
    let f = ended 0 at whole first.0 in
    let run = run_from w ps f in
    let behind = laid (at + length (bytes_in f.front)) f.rest in
    let cuts : stil_statements (laid at whole) ≡ laid at f.front ∷ stil_statements behind = ap (λ (l : Pieces). stil_statements (laid at l)) f.is ∙ ap stil_statements (laid_append at f.front f.rest) ∙ cut_one (laid at f.front) behind (f.one at) in
    let more = subst (Each IsClosed) cuts e in
    let g = segs_of fuel (at + length (bytes_in f.front)) f.rest (omega (arith, short, ap (λ (l : Pieces). length l) f.is, front_some f.front f.rest (f.one 0))) more.1 in
    record { segs = Run f.front ∷ g.segs; is = f.is ∙ ap (λ (l : Pieces). f.front ++ l) g.is; each = (run, g.each) }

-- other pieces for those of a statement: they begin alike, and stand wherever the old ones do
pub record IsRenewed (qs rs : Pieces) : Type 0 where
  pub some : 0 < length (bytes_in qs)
  pub first : take 1 (bytes_in qs) ≡ take 1 (bytes_in rs)
  pub run : IsRun rs
  pub lays : (y z : List ℕ) → take 1 y ≡ take 1 z → AreLaid y qs → AreLaid z rs

abbrev pub AreRenewed : List Seg → List Seg → Type 0
AreRenewed [] [] = ⊤
AreRenewed [] (h ∷ hs) = ⊥
AreRenewed (g ∷ gs) [] = ⊥
AreRenewed (Gap w ∷ gs) (Gap v ∷ hs) = (w ≡ v) × AreRenewed gs hs
AreRenewed (Gap w ∷ gs) (Run rs ∷ hs) = ⊥
AreRenewed (Run qs ∷ gs) (Gap v ∷ hs) = ⊥
AreRenewed (Run qs ∷ gs) (Run rs ∷ hs) = IsRenewed qs rs × AreRenewed gs hs

pub renewed_runs : (gs hs : List Seg) → AreRenewed gs hs → Each IsRunSeg hs
renewed_runs [] [] r = tt
renewed_runs [] (h ∷ hs) r = absurd r
renewed_runs (g ∷ gs) [] r = absurd r
renewed_runs (Gap w ∷ gs) (Gap v ∷ hs) r = (tt, renewed_runs gs hs r.1)
renewed_runs (Gap w ∷ gs) (Run rs ∷ hs) r = absurd r
renewed_runs (Run qs ∷ gs) (Gap v ∷ hs) r = absurd r
renewed_runs (Run qs ∷ gs) (Run rs ∷ hs) r = (r.0.run, renewed_runs gs hs r.1)

gap_first : (w y z : List ℕ) → take 1 y ≡ take 1 z → take 1 (w ++ y) ≡ take 1 (w ++ z)
gap_first [] y z e = e
gap_first (b ∷ w) y z e = refl

run_first : (x u y z : List ℕ) → 0 < length x → take 1 x ≡ take 1 u → take 1 (x ++ y) ≡ take 1 (u ++ z)
run_first [] u y z some e = absurd (omega arith)
run_first (a ∷ x) [] y z some e = absurd cc
run_first (a ∷ x) (b ∷ u) y z some e = e

-- the bytes begin alike
pub renewed_first : (gs hs : List Seg) (y z : List ℕ) → AreRenewed gs hs → take 1 y ≡ take 1 z → take 1 (bytes_in (all_pieces gs) ++ y) ≡ take 1 (bytes_in (all_pieces hs) ++ z)
renewed_first [] [] y z r e = e
renewed_first [] (h ∷ hs) y z r e = absurd r
renewed_first (g ∷ gs) [] y z r e = absurd r
renewed_first (Gap w ∷ gs) (Gap v ∷ hs) y z r e =
    ap (take 1) (append_assoc w (bytes_in (all_pieces gs)) y) ∙ gap_first w (bytes_in (all_pieces gs) ++ y) (bytes_in (all_pieces hs) ++ z) (renewed_first gs hs y z r.1 e)
    ∙ ap (λ (x : List ℕ). take 1 (x ++ (bytes_in (all_pieces hs) ++ z))) r.0 ∙ ap (take 1) (sym (append_assoc v (bytes_in (all_pieces hs)) z))
renewed_first (Gap w ∷ gs) (Run rs ∷ hs) y z r e = absurd r
renewed_first (Run qs ∷ gs) (Gap v ∷ hs) y z r e = absurd r
renewed_first (Run qs ∷ gs) (Run rs ∷ hs) y z r e =
    ap (λ (l : List ℕ). take 1 (l ++ y)) (bytes_append qs (all_pieces gs)) ∙ ap (take 1) (append_assoc (bytes_in qs) (bytes_in (all_pieces gs)) y)
    ∙ run_first (bytes_in qs) (bytes_in rs) (bytes_in (all_pieces gs) ++ y) (bytes_in (all_pieces hs) ++ z) r.0.some r.0.first
    ∙ ap (take 1) (sym (append_assoc (bytes_in rs) (bytes_in (all_pieces hs)) z)) ∙ ap (λ (l : List ℕ). take 1 (l ++ z)) (sym (bytes_append rs (all_pieces hs)))

-- and are laid
pub renewed_laid : (gs hs : List Seg) (y z : List ℕ) → AreRenewed gs hs → take 1 y ≡ take 1 z → AreLaid y (all_pieces gs) → AreLaid z (all_pieces hs)
renewed_laid [] [] y z r e a = tt
renewed_laid [] (h ∷ hs) y z r e a = absurd r
renewed_laid (g ∷ gs) [] y z r e a = absurd r
renewed_laid (Gap w ∷ gs) (Gap v ∷ hs) y z r e a =
    let one = laid_stays ((false, w) ∷ []) (bytes_in (all_pieces gs) ++ y) (bytes_in (all_pieces hs) ++ z) (renewed_first gs hs y z r.1 e) (a.0, a.1, tt) in
    let more = renewed_laid gs hs y z r.1 e a.2 in
    subst (λ (x : List ℕ). AreLaid z ((false, x) ∷ all_pieces hs)) r.0 (one.0, one.1, more)
renewed_laid (Gap w ∷ gs) (Run rs ∷ hs) y z r e a = absurd r
renewed_laid (Run qs ∷ gs) (Gap v ∷ hs) y z r e a = absurd r
renewed_laid (Run qs ∷ gs) (Run rs ∷ hs) y z r e a =
    are_append rs (all_pieces hs) z (r.0.lays (bytes_in (all_pieces gs) ++ y) (bytes_in (all_pieces hs) ++ z) (renewed_first gs hs y z r.1 e) (are_front qs (all_pieces gs) y a))
    (renewed_laid gs hs y z r.1 e (are_back qs (all_pieces gs) y a))

-- pieces that stay
pub stay_renewed : (qs : Pieces) → 0 < length (bytes_in qs) → IsRun qs → IsRenewed qs qs
stay_renewed qs some run = record { some = some; first = refl; run = run; lays = laid_stays qs }
