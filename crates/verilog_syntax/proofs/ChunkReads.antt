-- Reading a module statement by statement, as its tokens are taken.
use Rattle.std.proofs.Common.{◌≡◌, ◌==◌, ◌<◌, ℕ, ◌+◌, Bool, false, true, cond, List, [], ◌∷◌, ◌++◌, length, Result, Ok, Err, refl, sym, ap, ◌∙◌, append_assoc, append-nil, subst, arith}
use Rattle.std.proofs.lemmas.Bool.{eqb-true}
use Rattle.token_forms.specs.Tokens.{Token}
use Rattle.base_types.specs.declared.fault.Fault.{Fault}
use Rattle.base_types.specs.declared.fault.ReadFault.{ReadFault}
use Rattle.base_types.specs.declared.fault.ReadFault.TheVariants as faults
use Rattle.base_types.specs.declared.kind.Kind.TheVariants.{VerilogSyntax}
use Rattle.verilog_syntax.specs.declared.reading.Placed.{Placed}
use Rattle.token_forms.specs.declared.source.Ended.{Ended}
use Rattle.token_forms.specs.declared.source.Ended.TheVariants.{Closed, Stopped, Text}
use Rattle.verilog_syntax.specs.Reading.{Answers, result_and_then, fault_at, line_of_tokens, read_statement, read_header, read_others, read_body, read_end, read_module}
use Rattle.verilog_syntax.specs.Chunks.{chunk_of, is_closed, IsLast, read_last, read_behind, statements_behind, behind_module, one_of, with_front}
use Rattle.verilog_syntax.proofs.ChunkLemmas.{IsChunkOf, is_chunk, closed_len, unclosed_len}

-- how many turns a loop over statements may still take, where the last one ended so
abbrev pub turns_left : Ended → List Token → ℕ
turns_left Closed ts = 1 + length ts
turns_left Stopped ts = 0
turns_left Text ts = 0

-- a statement, and those behind it
abbrev first_then : Result Placed Fault → Result (List Placed) Fault → Result (List Placed) Fault
first_then first others = result_and_then (λ p. result_and_then (λ ps. Ok (p ∷ ps)) others) first

-- statements, where nothing stands behind their module
abbrev ended_by : Result (Unit {0}) Fault → Result (List Placed) Fault → Result (List Placed) Fault
ended_by end read = result_and_then (λ ps. result_and_then (λ done. Ok ps) end) read

front_first : (front front2 : List Placed) (first : Result Placed Fault) (others : Result (List Placed) Fault) (end : Result (Unit {0}) Fault)
    → with_front front (first_then first (Ok [])) ≡ Ok front2 → with_front front (ended_by end (first_then first others)) ≡ with_front front2 (ended_by end others)
front_first front front2 (Err f) others end is = absurd cc
front_first front front2 (Ok p) (Err f) end is = refl
front_first front front2 (Ok p) (Ok ps) (Err f) is = refl
front_first front front2 (Ok p) (Ok ps) (Ok done) is =
    let same : front ++ p ∷ [] ≡ front2 = cc in
    ap (λ (l : List Placed). Ok l) (sym (append_assoc front (p ∷ []) ps) ∙ ap (λ (l : List Placed). l ++ ps) same)

front_fault : (front : List Placed) (f : Fault) (first : Result Placed Fault) (others : Result (List Placed) Fault) (end : Result (Unit {0}) Fault)
    → with_front front (first_then first (Ok [])) ≡ Err f → with_front front (ended_by end (first_then first others)) ≡ Err f
front_fault front f (Ok p) others end is = absurd cc
front_fault front f (Err g) others end is = is

-- the tokens that were taken are a statement or none
taken_ok : (text : List ℕ) (front front2 : List Placed) (taken : List Token) (ss : List (List Token)) (behind : List Token)
    → with_front front (read_others text (one_of taken)) ≡ Ok front2 → with_front front (read_last text (one_of taken ++ ss) behind) ≡ with_front front2 (read_last text ss behind)
unfolding read_others read_last
taken_ok text front front2 [] ss behind is =
    let k : front ++ [] ≡ front2 = cc in
    ap (λ (l : List Placed). with_front l (read_last text ss behind)) (sym (append-nil front) ∙ k)
taken_ok text front front2 (t ∷ ts) ss behind is =
    front_first front front2 (read_statement (line_of_tokens text (t ∷ ts)) (t ∷ ts)) (read_others text ss) (read_end text behind) is

taken_fault : (text : List ℕ) (front : List Placed) (f : Fault) (taken : List Token) (ss : List (List Token)) (behind : List Token)
    → with_front front (read_others text (one_of taken)) ≡ Err f → with_front front (read_last text (one_of taken ++ ss) behind) ≡ Err f
unfolding read_others read_last
taken_fault text front f [] ss behind is = absurd cc
taken_fault text front f (t ∷ ts) ss behind is =
    front_fault front f (read_statement (line_of_tokens text (t ∷ ts)) (t ∷ ts)) (read_others text ss) (read_end text behind) is

-- the statement that some tokens are, behind those that were read
pub next_none : (text : List ℕ) (front : List Placed) (taken : List Token) → (length taken == 0) ≡ true → with_front front (read_others text (one_of taken)) ≡ Ok front
unfolding read_others
next_none text front [] is = ap (λ (l : List Placed). Ok l) (append-nil front)
next_none text front (t ∷ ts) is = let n = eqb-true (length (t ∷ ts)) 0 is in absurd (omega (arith, n))

pub next_goes : (text : List ℕ) (front : List Placed) (taken : List Token) → (length taken == 0) ≡ false → (p : Placed) → read_statement (line_of_tokens text taken) taken ≡ Ok p
    → with_front front (read_others text (one_of taken)) ≡ Ok (front ++ p ∷ [])
unfolding read_others
next_goes text front [] some p read = absurd cc
next_goes text front (t ∷ ts) some p read = rw read refl

pub next_stops : (text : List ℕ) (front : List Placed) (taken : List Token) → (length taken == 0) ≡ false → (e : ReadFault) → Answers {X = Placed} (Err e) (read_statement (line_of_tokens text taken) taken)
    → Answers {X = List Placed} (Err e) (with_front front (read_others text (one_of taken)))
unfolding read_others
next_stops text front [] some e read = absurd cc
next_stops text front (t ∷ ts) some (faults.Fault f) read = let k : read_statement (line_of_tokens text (t ∷ ts)) (t ∷ ts) ≡ Err f = read in rw k refl
next_stops text front (t ∷ ts) some faults.NoMemory read = tt

body_none : (text : List ℕ) (line : ℕ) (taken : List Token) (ss : List (List Token)) → (length taken == 0) ≡ true → (taken ≡ [] → ss ≡ [])
    → read_body line text (one_of taken ++ ss) ≡ Err (fault_at VerilogSyntax line)
unfolding read_body
body_none text line [] ss is none = let k = none refl in rw k refl
body_none text line (t ∷ ts) ss is none = let n = eqb-true (length (t ∷ ts)) 0 is in absurd (omega (arith, n))

body_fault : (text : List ℕ) (line : ℕ) (taken : List Token) (ss : List (List Token)) → (length taken == 0) ≡ false → (f : Fault) → read_header line taken ≡ Err f
    → read_body line text (one_of taken ++ ss) ≡ Err f
unfolding read_body
body_fault text line [] ss some f read = absurd cc
body_fault text line (t ∷ ts) ss some f read = rw read refl

body_goes : (text : List ℕ) (line : ℕ) (taken : List Token) (ss : List (List Token)) → (length taken == 0) ≡ false → (p : Placed) → read_header line taken ≡ Ok p
    → read_body line text (one_of taken ++ ss) ≡ result_and_then (λ others. Ok (p ∷ others)) (read_others text ss)
unfolding read_body
body_goes text line [] ss some p read = absurd cc
body_goes text line (t ∷ ts) ss some p read = rw read refl

header_first-of : (p : Placed) (others : Result (List Placed) Fault) (end : Result (Unit {0}) Fault)
    → ended_by end (result_and_then (λ ps. Ok (p ∷ ps)) others) ≡ with_front (p ∷ []) (ended_by end others)
header_first-of p (Err f) end = refl
header_first-of p (Ok ps) (Err f) = refl
header_first-of p (Ok ps) (Ok done) = refl

header_first : (text : List ℕ) (p : Placed) (ss : List (List Token)) (behind : List Token)
    → ended_by (read_end text behind) (result_and_then (λ ps. Ok (p ∷ ps)) (read_others text ss)) ≡ with_front (p ∷ []) (read_last text ss behind)
unfolding read_last
header_first text p ss behind = header_first-of p (read_others text ss) (read_end text behind)

fewer_turns : (ended : Ended) (ts left : List Token) → (ended ≡ Closed → length left < length ts) → turns_left ended left < turns_left Closed ts
fewer_turns Closed ts left shorter = let n = shorter refl in omega (arith, n)
fewer_turns Stopped ts left shorter = omega arith
fewer_turns Text ts left shorter = omega arith

-- behind endmodule
pub close_goes : (text : List ℕ) (front : List Placed) (ts : List Token) (done : Unit {0}) → read_end text ts ≡ Ok done → with_front front (read_behind text Stopped ts) ≡ Ok front
unfolding read_others read_last
close_goes text front ts done end = rw end (ap (λ (l : List Placed). Ok l) (append-nil front))

pub close_stops : (text : List ℕ) (front : List Placed) (ts : List Token) (e : ReadFault) → Answers {X = Unit {0}} (Err e) (read_end text ts)
    → Answers {X = List Placed} (Err e) (with_front front (read_behind text Stopped ts))
unfolding read_others read_last
close_stops text front ts (faults.Fault f) end = let k : read_end text ts ≡ Err f = end in rw k refl
close_stops text front ts faults.NoMemory end = tt

pub last_closed : (ended : Ended) → IsLast ended → (ended ≡ Text → ⊥) → ended ≡ Stopped
last_closed Closed last other = absurd last
last_closed Stopped last other = refl
last_closed Text last other = absurd (other refl)

-- a module that isn't closed
unclosed : (text : List ℕ) (line : ℕ) (ts : List Token) → line ≡ line_of_tokens text ts → is_closed ts ≡ false → read_module text ts ≡ Err (fault_at VerilogSyntax line)
unfolding read_module
unclosed text line ts line-is open_end = let n = unclosed_len ts open_end in rw (n, line-is) refl

fault_by_test : (text : List ℕ) (line : ℕ) (ts : List Token) (found : Fault) → line ≡ line_of_tokens text ts → (is_closed ts ≡ true → read_module text ts ≡ Err found) → (b : Bool) → is_closed ts ≡ b
    → read_module text ts ≡ Err (cond b found (fault_at VerilogSyntax line))
fault_by_test text line ts found line-is read true e = read e
fault_by_test text line ts found line-is read false e = unclosed text line ts line-is e

pub fault_found : (text : List ℕ) (line : ℕ) (ts : List Token) (found : Fault) → line ≡ line_of_tokens text ts → (is_closed ts ≡ true → read_module text ts ≡ Err found)
    → read_module text ts ≡ Err (cond (is_closed ts) found (fault_at VerilogSyntax line))
fault_found text line ts found line-is read = fault_by_test text line ts found line-is read (is_closed ts) refl

module _ (text : List ℕ) (ts : List Token) (ended : Ended) (taken left : List Token) (is : chunk_of ts ≡ record { ended = ended; taken = taken; left = left }) where
  pub chunk : IsChunkOf ts (record { ended = ended; taken = taken; left = left })
  chunk = subst (IsChunkOf ts) is (is_chunk ts)

  unrolled : read_behind text Closed ts ≡ read_last text (one_of taken ++ statements_behind ended left) (behind_module ended left)
  unrolled = rw (chunk.statements, chunk.behind) refl

  pub goes_on : (front front2 : List Placed) → with_front front (read_others text (one_of taken)) ≡ Ok front2
      → with_front front (read_behind text Closed ts) ≡ with_front front2 (read_behind text ended left)
  goes_on front front2 read = ap (with_front front) unrolled ∙ taken_ok text front front2 taken (statements_behind ended left) (behind_module ended left) read

  pub stops : (front : List Placed) (e : ReadFault) → Answers {X = List Placed} (Err e) (with_front front (read_others text (one_of taken)))
      → Answers {X = List Placed} (Err e) (with_front front (read_behind text Closed ts))
  stops front (faults.Fault f) read = ap (with_front front) unrolled ∙ taken_fault text front f taken (statements_behind ended left) (behind_module ended left) read
  stops front faults.NoMemory read = tt

  pub fewer : turns_left ended left < turns_left Closed ts
  fewer = fewer_turns ended ts left chunk.shorter

  module _ (line : ℕ) (line-is : line ≡ line_of_tokens text ts) (closed : is_closed ts ≡ true) where
    by_body : read_module text ts ≡ ended_by (read_end text (behind_module ended left)) (read_body line text (one_of taken ++ statements_behind ended left))
    unfolding read_module
    by_body = let n = closed_len ts closed in rw (n, line-is, chunk.statements, chunk.behind) refl

    pub empty : (length taken == 0) ≡ true → read_module text ts ≡ Err (fault_at VerilogSyntax line)
    empty nothing = by_body ∙ ap (ended_by (read_end text (behind_module ended left))) (body_none text line taken (statements_behind ended left) nothing chunk.none)

    pub header_stops : (length taken == 0) ≡ false → (e : ReadFault) → Answers {X = Placed} (Err e) (read_header line taken) → Answers {X = List Placed} (Err e) (read_module text ts)
    header_stops some (faults.Fault f) read = by_body ∙ ap (ended_by (read_end text (behind_module ended left))) (body_fault text line taken (statements_behind ended left) some f read)
    header_stops some faults.NoMemory read = tt

    pub header_goes : (length taken == 0) ≡ false → (p : Placed) → read_header line taken ≡ Ok p → read_module text ts ≡ with_front (p ∷ []) (read_behind text ended left)
    header_goes some p read =
        by_body ∙ ap (ended_by (read_end text (behind_module ended left))) (body_goes text line taken (statements_behind ended left) some p read)
        ∙ header_first text p (statements_behind ended left) (behind_module ended left)
