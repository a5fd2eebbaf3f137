-- The lines of a log's text.
use Rattle.std.proofs.Common.{◌≡◌, ◌≢◌, ℕ, ◌+◌, ◌<◌, ◌≤◌, List, [], ◌∷◌, ◌++◌, length, Bool, true, false, cond, decimal, get_or, drop, zero, suc, refl, sym, ap, ◌∙◌, subst, arith, ⊎_elim, append_assoc, Some}
use Rattle.std.specs.Prelude.{slice_get}
use Rattle.base_types.specs.Faults.{at_line}
use Rattle.base_types.specs.declared.fault.Fault.{Fault}
use Rattle.base_types.specs.declared.fault.FileKind.TheVariants.{Log}
use Rattle.base_types.specs.declared.kind.Kind.TheVariants.{LogSyntax}
use Rattle.base_types.specs.FirstFault.{IsFirstFault, ComesBefore}
use Rattle.fail_map.proofs.FaultLines.{syntax_before}
use Rattle.std.specs.Char.{is_ascii_digit}
use Rattle.std.specs.Str.{all_ascii_digits}
use Rattle.std.proofs.lemmas.Bool.{false≢true, cases_lt, cases_eq, ne_eqb, and_parts}
use Rattle.std.proofs.lemmas.List.{length-append, length-drop, append-nil, drop-drop, drop_all, drop_more}
use Rattle.std.proofs.lemmas.Option.{slice_get_within, same_Some}
use Rattle.fail_map.specs.declared.line.LogLine.{LogLine}
use Rattle.fail_map.specs.Logs.{most_number, parted, rows_of, with_byte, IsBlank, IsLogLine, IsLogText, HoldsInLog}
use Rattle.fail_map.specs.Rows.{StopsDigits, HasNumber, HasNumberBehind, IsNumberAt, IsNumberBehind, EndsRow, HasRow, IsRowAt, SayLines, AreReadTo}
use Rattle.fail_map.proofs.Decimals.{same_number, decimal_digits}
use Rattle.fail_map.proofs.Lists.{get_left, get_right}

-- ---- one line

-- a decimal behind a byte
abbrev pub behind : ℕ → ℕ → List ℕ → List ℕ
behind blank n tail = blank ∷ decimal n ++ tail

-- what stands behind the third number of a row, the second and the first
abbrev pub behind_chain : {bytes : List ℕ} → HasRow bytes → List ℕ
behind_chain h = behind h.says.third h.line.index h.tail

abbrev pub behind_scan : {bytes : List ℕ} → HasRow bytes → List ℕ
behind_scan h = behind h.says.second h.line.chain (behind_chain h)

abbrev pub behind_pattern : {bytes : List ℕ} → HasRow bytes → List ℕ
behind_pattern h = behind h.says.first h.line.scan (behind_scan h)

-- a line in front of other bytes, number by number
row_parts : (a b c : ℕ) (line : LogLine) (tail : List ℕ) → parted a b c line ++ tail ≡ decimal line.pattern ++ behind a line.scan (behind b line.chain (behind c line.index tail))
row_parts a b c line tail =
    append_assoc (decimal line.pattern ++ a ∷ decimal line.scan ++ b ∷ decimal line.chain) (c ∷ decimal line.index) tail
    ∙ append_assoc (decimal line.pattern ++ a ∷ decimal line.scan) (b ∷ decimal line.chain) (behind c line.index tail)
    ∙ append_assoc (decimal line.pattern) (a ∷ decimal line.scan) (behind b line.chain (behind c line.index tail))

-- a blank is no digit
pub blank_stops : (b : ℕ) → IsBlank b → is_ascii_digit b ≡ false
blank_stops b = ⊎_elim (λ (e : b ≡ 32). ap is_ascii_digit e) (λ (e : b ≡ 9). ap is_ascii_digit e)

-- the first number of a row, and what stands behind it
row_front : (bytes : List ℕ) (h : HasRow bytes) → bytes ≡ decimal h.line.pattern ++ behind_pattern h
row_front bytes h = h.is ∙ ap (λ xs. xs ++ h.tail) h.says.is ∙ row_parts h.says.first h.says.second h.says.third h.line h.tail

pub has_first : (bytes : List ℕ) → HasRow bytes → HasNumber bytes
has_first bytes h = record {
  number = h.line.pattern;
  tail = behind_pattern h;
  small = h.says.small.pattern;
  stops = blank_stops h.says.first h.says.blanks.0;
  is = row_front bytes h;
}

pub has_behind : (bytes tail : List ℕ) (b n : ℕ) → IsBlank b → n ≤ most_number → StopsDigits tail → bytes ≡ behind b n tail → HasNumberBehind bytes
has_behind bytes tail b n blank small stops e = record {
  blank = b;
  is_blank = blank;
  rest = decimal n ++ tail;
  is = e;
  number = record { number = n; tail = tail; small = small; stops = stops; is = refl };
}

pub ends_stop : (tail : List ℕ) → EndsRow tail → StopsDigits tail
ends_stop [] e = tt
ends_stop (b ∷ bs) e = ap is_ascii_digit e

-- what stands behind the first number, and behind each other one
pub behind_first : (bytes : List ℕ) (h : HasRow bytes) (n : ℕ) (rest : List ℕ) → n ≤ most_number → StopsDigits rest → bytes ≡ decimal n ++ rest → rest ≡ behind_pattern h
behind_first bytes h n rest small stops e =
    (same_number n h.line.pattern rest (behind_pattern h) small h.says.small.pattern stops (blank_stops h.says.first h.says.blanks.0) (sym e ∙ row_front bytes h)).1

pub behind_next : (bytes tail : List ℕ) (a b m n : ℕ) (rest : List ℕ) → m ≤ most_number → n ≤ most_number → StopsDigits tail → StopsDigits rest → bytes ≡ behind a m tail → bytes ≡ behind b n rest → rest ≡ tail
behind_next bytes tail a b m n rest small small' stops stops' e f =
    let same : decimal n ++ rest ≡ decimal m ++ tail = ap (λ xs. drop 1 xs) (sym f ∙ e) in
    (same_number n m rest tail small' small stops' stops same).1

pub row_read : (bytes : List ℕ) (at a b c d : ℕ) (line : LogLine) → IsNumberAt bytes at line.pattern a → IsNumberBehind bytes a line.scan b → IsNumberBehind bytes b line.chain c → IsNumberBehind bytes c line.index d → EndsRow (drop d bytes) → IsRowAt bytes at line d
row_read bytes at a b c d line p s h i ends = record {
  some = omega (arith, p.some, s.some, h.some, i.some);
  within = i.within;
  row = parted s.blank h.blank i.blank line;
  says = record {
    first = s.blank;
    second = h.blank;
    third = i.blank;
    blanks = (s.is_blank, h.is_blank, i.is_blank);
    is = refl;
    small = record { pattern = p.small; scan = s.small; chain = h.small; index = i.small };
  };
  ends = ends;
  is = p.is
      ∙ ap (λ xs. decimal line.pattern ++ xs) (s.is ∙ ap (λ xs. behind s.blank line.scan xs) (h.is ∙ ap (λ xs. behind h.blank line.chain xs) i.is))
      ∙ sym (row_parts s.blank h.blank i.blank line (drop d bytes));
}

-- ---- the lines of a text

-- no line feed stands in a row
abbrev HasNoFeed : List ℕ → Type 0
HasNoFeed [] = Unit {0}
HasNoFeed (b ∷ bs) = (b ≢ 10) × HasNoFeed bs

no_feeds : (xs ys : List ℕ) → HasNoFeed xs → HasNoFeed ys → HasNoFeed (xs ++ ys)
no_feeds [] ys a b = b
no_feeds (x ∷ xs) ys a b = (a.0, no_feeds xs ys a.1 b)

digits_no_feed : (ds : List ℕ) → all_ascii_digits ds ≡ true → HasNoFeed ds
digits_no_feed [] a = tt
digits_no_feed (d ∷ ds) a =
    let both = and_parts (is_ascii_digit d) (all_ascii_digits ds) a in
    ((λ (e : d ≡ 10). false≢true (ap is_ascii_digit (sym e) ∙ both.0)), digits_no_feed ds both.1)

decimal_no_feed : (n : ℕ) → n ≤ most_number → HasNoFeed (decimal n)
decimal_no_feed n small = digits_no_feed (decimal n) (decimal_digits n small)

behind_no_feed : (b n : ℕ) → IsBlank b → n ≤ most_number → HasNoFeed (b ∷ decimal n)
behind_no_feed b n blank small = (⊎_elim (λ (e : b ≡ 32) (f : b ≡ 10). omega (arith, e, f)) (λ (e : b ≡ 9) (f : b ≡ 10). omega (arith, e, f)) blank, decimal_no_feed n small)

row_no_feed : (row : List ℕ) (line : LogLine) → IsLogLine row line → HasNoFeed row
row_no_feed row line says =
    let first = says.first ∷ decimal line.scan in
    let second = says.second ∷ decimal line.chain in
    let third = says.third ∷ decimal line.index in
    let small = says.small in
    subst HasNoFeed (sym says.is)
    (no_feeds (decimal line.pattern ++ first ++ second) third
    (no_feeds (decimal line.pattern ++ first) second
    (no_feeds (decimal line.pattern) first (decimal_no_feed line.pattern small.pattern) (behind_no_feed says.first line.scan says.blanks.0 small.scan))
    (behind_no_feed says.second line.chain says.blanks.1 small.chain))
    (behind_no_feed says.third line.index says.blanks.2 small.index))

rows_step : (b : ℕ) (bs : List ℕ) → b ≢ 10 → rows_of (b ∷ bs) ≡ with_byte b (rows_of bs)
rows_step b bs ne = ap (λ (q : Bool). cond q ([] ∷ rows_of bs) (with_byte b (rows_of bs))) (ne_eqb b 10 ne)

rows_feed : (b : ℕ) (bs : List ℕ) → b ≡ 10 → rows_of (b ∷ bs) ≡ [] ∷ rows_of bs
rows_feed b bs e = ap (λ (x : ℕ). rows_of (x ∷ bs)) e

-- a row with its line feed, in front of other bytes
rows_front : (row tail : List ℕ) → HasNoFeed row → rows_of (row ++ 10 ∷ tail) ≡ row ∷ rows_of tail
rows_front [] tail h = refl
rows_front (b ∷ bs) tail h = rows_step b (bs ++ 10 ∷ tail) h.0 ∙ ap (with_byte b) (rows_front bs tail h.1)

-- a row without one
rows_last : (b : ℕ) (row : List ℕ) → HasNoFeed (b ∷ row) → rows_of (b ∷ row) ≡ (b ∷ row) ∷ []
rows_last b [] h = rows_step b [] h.0
rows_last b (c ∷ row) h = rows_step b (c ∷ row) h.0 ∙ ap (with_byte b) (rows_last c row h.1)

rows_end : (row : List ℕ) → 0 < length row → HasNoFeed row → rows_of row ≡ row ∷ []
rows_end [] l h = absurd (omega arith)
rows_end (b ∷ row) l h = rows_last b row h

rows_tail : (row tail : List ℕ) → 0 < length row → HasNoFeed row → EndsRow tail → rows_of (row ++ tail) ≡ row ∷ rows_of (drop 1 tail)
rows_tail row [] l h e = ap rows_of (append-nil row) ∙ rows_end row l h
rows_tail row (b ∷ tail) l h e = ap (λ (x : ℕ). rows_of (row ++ x ∷ tail)) e ∙ rows_front row tail h

row_some : (row : List ℕ) (line : LogLine) → IsLogLine row line → 0 < length row
row_some row line says = omega (arith, ap length says.is, length-append (decimal line.pattern ++ says.first ∷ decimal line.scan ++ says.second ∷ decimal line.chain) (says.third ∷ decimal line.index))

-- the rows from a place on, of which the first one is read
rows_read : (bytes : List ℕ) (at : ℕ) (line : LogLine) (end : ℕ) (read : IsRowAt bytes at line end) → rows_of (drop at bytes) ≡ read.row ∷ rows_of (drop (end + 1) bytes)
rows_read bytes at line end read =
    ap rows_of read.is ∙ rows_tail read.row (drop end bytes) (row_some read.row line read.says) (row_no_feed read.row line read.says) read.ends
    ∙ ap (λ xs. read.row ∷ rows_of xs) (drop-drop 1 end bytes)

-- ---- the first row

no_rows : (bytes : List ℕ) → rows_of bytes ≡ [] → bytes ≡ []
no_rows [] e = refl
no_rows (b ∷ bs) e =
    ⊎_elim (λ (k : b ≡ 10). let f = sym (rows_feed b bs k) ∙ e in absurd cc)
    (λ (ne : b ≢ 10). let f = sym (rows_step b bs ne) ∙ e in absurd (with_some b (rows_of bs) f))
    (cases_eq b 10)
  where
    with_some : (b : ℕ) (rows : List (List ℕ)) → with_byte b rows ≡ [] → ⊥
    with_some b [] e = cc
    with_some b (row ∷ rows) e = cc

some_first : {X : Type 0} (x y : X) (xs : List X) → slice_get (x ∷ xs) 0 ≡ Some y → x ≡ y
some_first x y xs e = cc

-- what stands behind the first row is its end
record Fronts (bytes row : List ℕ) : Type 0 where
  tail : List ℕ
  ends : EndsRow tail
  is : bytes ≡ row ++ tail

fronts_with : (b : ℕ) (bs : List ℕ) (lines : List (List ℕ)) (row : List ℕ) → lines ≡ rows_of bs → ((r : List ℕ) → slice_get lines 0 ≡ Some r → Fronts bs r) → slice_get (with_byte b lines) 0 ≡ Some row → Fronts (b ∷ bs) row
fronts_with b bs [] row none rest e =
    let empty : bs ≡ [] = no_rows bs (sym none) in
    let same : b ∷ [] ≡ row = some_first (b ∷ []) row [] e in
    record { tail = []; ends = tt; is = ap (λ xs. b ∷ xs) empty ∙ same ∙ sym (append-nil row) }
fronts_with b bs (r ∷ rows) row some rest e =
    let f : Fronts bs r = rest r refl in
    let same : b ∷ r ≡ row = some_first (b ∷ r) row rows e in
    record { tail = f.tail; ends = f.ends; is = ap (λ xs. b ∷ xs) f.is ∙ ap (λ xs. xs ++ f.tail) same }

first_fronts : (bytes row : List ℕ) → slice_get (rows_of bytes) 0 ≡ Some row → Fronts bytes row
first_fronts [] row e = absurd cc
first_fronts (b ∷ bs) row e =
    ⊎_elim (λ (k : b ≡ 10).
    let same : [] ≡ row = some_first [] row (rows_of bs) (ap (λ lines. slice_get lines 0) (sym (rows_feed b bs k)) ∙ e) in
    record { tail = b ∷ bs; ends = k; is = ap (λ xs. xs ++ b ∷ bs) same })
    (λ (ne : b ≢ 10). fronts_with b bs (rows_of bs) row refl (λ r f. first_fronts bs r f) (ap (λ lines. slice_get lines 0) (sym (rows_step b bs ne)) ∙ e))
    (cases_eq b 10)

-- where the first row is that of a line, this line stands in front
pub has_row : (bytes row : List ℕ) (line : LogLine) → slice_get (rows_of bytes) 0 ≡ Some row → IsLogLine row line → HasRow bytes
has_row bytes row line e is =
    let f : Fronts bytes row = first_fronts bytes row e in
    record { line = line; row = row; says = is; tail = f.tail; ends = f.ends; is = f.is }

first_of : {X : Type 0} (xs : List X) → 0 < length xs → (x : X) × (slice_get xs 0 ≡ Some x)
first_of [] l = absurd (omega arith)
first_of (x ∷ xs) l = (x, refl)

-- a text has a first row
pub some_row : (bytes : List ℕ) → 0 < length bytes → (row : List ℕ) × (slice_get (rows_of bytes) 0 ≡ Some row)
some_row bytes l =
    first_of (rows_of bytes) (⊎_elim (λ (some : 0 < length (rows_of bytes)). some)
    (λ (none : length (rows_of bytes) ≤ 0). absurd (omega (arith, l, ap length (no_rows bytes (nothing (rows_of bytes) (omega (arith, none)))))))
    (cases_lt 0 (length (rows_of bytes))))
  where
    nothing : (rows : List (List ℕ)) → length rows ≡ 0 → rows ≡ []
    nothing [] e = refl
    nothing (r ∷ rows) e = absurd (omega arith)

-- ---- where a row ends

pub not_end : (bytes tail : List ℕ) (d : ℕ) → d < length bytes → drop d bytes ≡ tail → EndsRow tail → get_or bytes d 0 ≡ 10
not_end bytes [] d l e ends = let f : get_or bytes d 0 ∷ drop (d + 1) bytes ≡ [] = sym (drop_more bytes d 0 l) ∙ e in absurd cc
not_end bytes (b ∷ tail) d l e ends =
    let f : get_or bytes d 0 ∷ drop (d + 1) bytes ≡ b ∷ tail = sym (drop_more bytes d 0 l) ∙ e in
    let g : get_or bytes d 0 ≡ b = cc in
    g ∙ ends

pub end_here : (bytes : List ℕ) (d : ℕ) → d < length bytes → get_or bytes d 0 ≡ 10 → EndsRow (drop d bytes)
end_here bytes d l e = subst EndsRow (sym (drop_more bytes d 0 l)) e

pub end_text : (bytes : List ℕ) (d : ℕ) → length bytes ≤ d → EndsRow (drop d bytes)
end_text bytes d g = subst EndsRow (sym (drop_all d bytes g)) tt

-- ---- the lines that were read

pub none_read : (bytes : List ℕ) → AreReadTo bytes 0 []
none_read bytes = record { rows = []; say = tt; is = refl }

-- one row more is read
pub read_more : (bytes : List ℕ) (at : ℕ) (log : List LogLine) (line : LogLine) (end : ℕ) → AreReadTo bytes at log → IsRowAt bytes at line end → AreReadTo bytes (end + 1) (log ++ line ∷ [])
read_more bytes at log line end r read = record {
  rows = r.rows ++ read.row ∷ [];
  say = say_more r.rows log r.say;
  is = r.is ∙ ap (λ rows. r.rows ++ rows) (rows_read bytes at line end read) ∙ sym (append_assoc r.rows (read.row ∷ []) (rows_of (drop (end + 1) bytes)));
}
  where
    say_more : (rows : List (List ℕ)) (lines : List LogLine) → SayLines rows lines → SayLines (rows ++ read.row ∷ []) (lines ++ line ∷ [])
    say_more [] [] s = (read.says, tt)
    say_more [] (x ∷ lines) s = absurd s
    say_more (row ∷ rows) [] s = absurd s
    say_more (row ∷ rows) (x ∷ lines) s = (s.0, say_more rows lines s.1)

as_many : (rows : List (List ℕ)) (log : List LogLine) → SayLines rows log → length rows ≡ length log
as_many [] [] s = refl
as_many [] (x ∷ log) s = absurd s
as_many (row ∷ rows) [] s = absurd s
as_many (row ∷ rows) (x ∷ log) s = ap (λ n. suc n) (as_many rows log s.1)

-- a row says the line at its place
row_here : (rows : List (List ℕ)) (log : List LogLine) → SayLines rows log → (k : ℕ) (row : List ℕ) (line : LogLine) → slice_get rows k ≡ Some row → slice_get log k ≡ Some line → IsLogLine row line
row_here [] log s k row line e f = absurd cc
row_here (r ∷ rows) [] s k row line e f = absurd s
row_here (r ∷ rows) (x ∷ log) s zero row line e f =
    subst (λ (y : LogLine). IsLogLine row y) (same_Some x line f) (subst (λ (q : List ℕ). IsLogLine q x) (same_Some r row e) s.0)
row_here (r ∷ rows) (x ∷ log) s (suc k) row line e f = row_here rows log s.1 k row line e f

line_there : (log : List LogLine) (k : ℕ) → k < length log → (line : LogLine) × (slice_get log k ≡ Some line)
line_there [] k l = absurd (omega arith)
line_there (x ∷ log) zero l = (x, refl)
line_there (x ∷ log) (suc k) l = line_there log k (omega arith)

module _ (bytes : List ℕ) (log : List LogLine) (at : ℕ) (r : AreReadTo bytes at log) where
  -- no fault holds of a row that was read
  read_is_sound : (fault : Fault) (h : HoldsInLog bytes fault) → h.at < length log → ⊥
  read_is_sound fault h l =
      let line = line_there log h.at l in
      let left = get_left r.rows (rows_of (drop at bytes)) h.at (omega (arith, as_many r.rows log r.say, l)) in
      h.no_line line.0 (row_here r.rows log r.say h.at h.row line.0 (sym (ap (λ rows. slice_get rows h.at) r.is ∙ left) ∙ h.there) line.1)

  -- all rows were read
  all_rows : length bytes ≤ at → rows_of bytes ≡ r.rows
  all_rows end = r.is ∙ ap (λ xs. r.rows ++ rows_of xs) (drop_all at bytes end) ∙ append-nil r.rows

  pub log_read : length bytes ≤ at → IsLogText bytes log
  log_read end = record {
    count = sym (ap length (all_rows end) ∙ as_many r.rows log r.say);
    each = λ k row line f g. row_here r.rows log r.say k row line (ap (λ rows. slice_get rows k) (sym (all_rows end)) ∙ f) g;
  }

  pub no_syntax : length bytes ≤ at → (fault : Fault) → HoldsInLog bytes fault → ⊥
  no_syntax end fault h = read_is_sound fault h (omega (arith, slice_get_within (rows_of bytes) h.at h.row h.there, ap length (all_rows end), as_many r.rows log r.say))

  pub first_syntax : (fault : Fault) → at < length bytes → (HasRow (drop at bytes) → ⊥) → fault ≡ at_line LogSyntax Log (length log + 1) → IsFirstFault (HoldsInLog bytes) fault
  first_syntax fault l none is =
      let first = some_row (drop at bytes) (omega (arith, length-drop at bytes, l)) in
      record {
        holds = record {
          at = length log;
          row = first.0;
          there = ap (λ rows. slice_get rows (length log)) r.is ∙ get_right r.rows (rows_of (drop at bytes)) (length log) 0 (omega (arith, as_many r.rows log r.say)) ∙ first.1;
          no_line = λ line line_is. none (has_row (drop at bytes) first.0 line first.1 line_is);
          is = is;
        };
        least = λ g h before.
            ⊎_elim (λ (m : h.at < length log). read_is_sound g h m)
            (λ (n : length log ≤ h.at).
            let lines : h.at + 1 < length log + 1 = syntax_before (h.at + 1) (length log + 1) (subst (λ (f : Fault). ComesBefore (at_line LogSyntax Log (h.at + 1)) f) is (subst (λ (f : Fault). ComesBefore f fault) h.is before)) in
            omega (arith, n, lines))
            (cases_lt h.at (length log));
      }
