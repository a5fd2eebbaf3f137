-- What a statement's tokens, taken from a module's, say of the module.
use Rattle.std.proofs.Common.{◌≡◌, ◌==◌, suc, ◌+◌, ◌<◌, Bool, true, false, cond, List, [], ◌∷◌, ◌++◌, length, take, drop, refl, ap, ◌∙◌, arith}
use Rattle.std.proofs.lemmas.Bool.{ne_eqb, eq-eqb}
use Rattle.token_forms.specs.Tokens.{Token}
use Rattle.token_forms.specs.Statements.{is_semicolon, begin_with, statements_of}
use Rattle.token_forms.specs.declared.source.Ended.TheVariants.{Closed, Stopped}
use Rattle.verilog_syntax.specs.Reading.{ends_module, body_len}
use Rattle.token_forms.specs.Chunks.{Chunk, put_before, chunk_at}
use Rattle.token_forms.specs.Chunks as steps
use Rattle.token_forms.specs.declared.source.Step.TheVariants.{GoesOn, Closes, Stops}
use Rattle.verilog_syntax.specs.Chunks.{step_at, chunk_of, is_closed, is_closed_behind, statements_behind, behind_module, one_of}

abbrev pub body_of : List Token → List Token
body_of ts = take (body_len ts) ts

-- a chunk of some tokens, and what stands behind it
pub record IsChunkOf (ts : List Token) (chunk : Chunk) : Type 0 where
  pub statements : statements_of (body_of ts) ≡ one_of chunk.taken ++ statements_behind chunk.ended chunk.left
  pub put : (t : Token) → begin_with t (statements_of (body_of ts)) ≡ (t ∷ chunk.taken) ∷ statements_behind chunk.ended chunk.left
  pub none : chunk.taken ≡ [] → statements_behind chunk.ended chunk.left ≡ []
  pub behind : drop (body_len ts + 1) ts ≡ behind_module chunk.ended chunk.left
  pub closed : is_closed ts ≡ is_closed_behind chunk.ended chunk.left
  pub shorter : chunk.ended ≡ Closed → length chunk.left < length ts
  pub some : chunk.ended ≡ Closed → chunk.taken ≡ [] → ⊥

at_end : (t : Token) (ts : List Token) → ends_module t ≡ true → IsChunkOf (t ∷ ts) (record { ended = Stopped; taken = []; left = ts })
unfolding statements_of
at_end t ts e = record {
  statements = rw e refl;
  put = λ x. rw e refl;
  none = λ _. refl;
  behind = rw e refl;
  closed = rw e refl;
  shorter = λ k. absurd cc;
  some = λ k _. absurd cc;
}

body_more : (t : Token) (ts : List Token) → ends_module t ≡ false → body_of (t ∷ ts) ≡ t ∷ body_of ts
body_more t ts e = let k : 1 + body_len ts ≡ suc (body_len ts) = omega arith in rw (e, k) refl

behind_more : (t : Token) (ts : List Token) → ends_module t ≡ false → drop (body_len (t ∷ ts) + 1) (t ∷ ts) ≡ drop (body_len ts + 1) ts
behind_more t ts e = let k : 1 + body_len ts + 1 ≡ suc (body_len ts + 1) = omega arith in rw (e, k) refl

at_semicolon : (t : Token) (ts : List Token) → ends_module t ≡ false → is_semicolon t ≡ true → IsChunkOf (t ∷ ts) (record { ended = Closed; taken = t ∷ []; left = ts })
unfolding statements_of
at_semicolon t ts e k =
    let all : statements_of (body_of (t ∷ ts)) ≡ (t ∷ []) ∷ statements_of (body_of ts) = ap statements_of (body_more t ts e) ∙ rw k refl in
    record {
      statements = all;
      put = λ x. ap (begin_with x) all;
      none = λ n. absurd cc;
      behind = behind_more t ts e;
      closed = rw e refl;
      shorter = λ _. omega arith;
      some = λ _ n. absurd cc;
    }

more : (t : Token) (ts : List Token) (chunk : Chunk) → ends_module t ≡ false → is_semicolon t ≡ false → IsChunkOf ts chunk → IsChunkOf (t ∷ ts) (put_before t chunk)
unfolding statements_of
more t ts chunk e k is =
    let all : statements_of (body_of (t ∷ ts)) ≡ begin_with t (statements_of (body_of ts)) = ap statements_of (body_more t ts e) ∙ rw k refl in
    record {
      statements = all ∙ is.put t;
      put = λ x. ap (begin_with x) (all ∙ is.put t);
      none = λ n. absurd cc;
      behind = behind_more t ts e ∙ is.behind;
      closed = rw e is.closed;
      shorter = λ s. let l = is.shorter s in omega (arith, l);
      some = λ _ n. absurd cc;
    }

by_tests : (t : Token) (ts : List Token) (ends closes : Bool) → ends_module t ≡ ends → is_semicolon t ≡ closes → IsChunkOf ts (chunk_of ts)
    → IsChunkOf (t ∷ ts) (cond ends (record { ended = Stopped; taken = []; left = ts }) (cond closes (record { ended = Closed; taken = t ∷ []; left = ts }) (put_before t (chunk_of ts))))
by_tests t ts true closes e k is = at_end t ts e
by_tests t ts false true e k is = at_semicolon t ts e k
by_tests t ts false false e k is = more t ts (chunk_of ts) e k is

pub is_chunk : (ts : List Token) → IsChunkOf ts (chunk_of ts)
unfolding statements_of
is_chunk [] = record {
  statements = refl;
  put = λ x. refl;
  none = λ _. refl;
  behind = refl;
  closed = refl;
  shorter = λ k. absurd cc;
  some = λ k _. absurd cc;
}
is_chunk (t ∷ ts) = by_tests t ts (ends_module t) (is_semicolon t) refl refl (is_chunk ts)

-- where endmodule stands, the body is shorter than the module
less_by_test : (t : Token) (ts : List Token) (b : Bool) → ends_module t ≡ b → (is_closed ts ≡ true → body_len ts < length ts) → is_closed (t ∷ ts) ≡ true → body_len (t ∷ ts) < length (t ∷ ts)
less_by_test t ts true e _ c = rw e (omega arith)
less_by_test t ts false e rest c = let k = rw e at c in let n = rest k in rw e (omega (arith, n))

body_less : (ts : List Token) → is_closed ts ≡ true → body_len ts < length ts
body_less [] c = absurd cc
body_less (t ∷ ts) c = less_by_test t ts (ends_module t) refl (body_less ts) c

pub closed_len : (ts : List Token) → is_closed ts ≡ true → (body_len ts == length ts) ≡ false
closed_len ts c = ne_eqb (body_len ts) (length ts) (λ e. let n = body_less ts c in absurd (omega (arith, n, e)))

all_by_test : (t : Token) (ts : List Token) (b : Bool) → ends_module t ≡ b → (is_closed ts ≡ false → body_len ts ≡ length ts) → is_closed (t ∷ ts) ≡ false → body_len (t ∷ ts) ≡ length (t ∷ ts)
all_by_test t ts true e _ c = let k = rw e at c in absurd cc
all_by_test t ts false e rest c = let k = rw e at c in let n = rest k in rw e (omega (arith, n))

body_all : (ts : List Token) → is_closed ts ≡ false → body_len ts ≡ length ts
body_all [] c = refl
body_all (t ∷ ts) c = all_by_test t ts (ends_module t) refl (body_all ts) c

pub unclosed_len : (ts : List Token) → is_closed ts ≡ false → (body_len ts == length ts) ≡ true
unclosed_len ts c = eq-eqb (body_len ts) (length ts) (body_all ts c)

-- so it is taken by the steps
module _ {S : Type 0} (s : S) where
  one_step : (ends closes : Bool) (t : Token) (ts : List Token) (more : Chunk)
      → chunk_at (cond ends Stops (cond closes Closes GoesOn)) t ts more
      ≡ cond ends (record { ended = Stopped; taken = []; left = ts }) (cond closes (record { ended = Closed; taken = t ∷ []; left = ts }) (put_before t more))
  one_step true closes t ts more = refl
  one_step false true t ts more = refl
  one_step false false t ts more = refl

  pub chunk_same : (ts : List Token) → steps.chunk_of (λ (s : S) text. (step_at text, s)) s ts ≡ chunk_of ts
  chunk_same [] = refl
  chunk_same (t ∷ ts) =
      ap (λ (c : Chunk). chunk_at (step_at t.text) t ts c) (chunk_same ts) ∙ one_step (ends_module t) (is_semicolon t) t ts (chunk_of ts)
