-- The tokens that a statement takes step by step are those of the first statement.
use Rattle.std.proofs.Common.{◌≡◌, ℕ, zero, suc, ◌+◌, ◌<◌, ◌==◌, Bool, true, false, not, if◌then◌else◌, min, List, [], ◌∷◌, length, take, drop, refl, sym, ap, ◌∙◌, arith, length-drop, codes}
use Rattle.std.specs.Str.{bytes_eq}
use Rattle.std.proofs.lemmas.Bool.Decides.{nat_tests}
use Rattle.base_types.specs.declared.span.Span.{Span}
use Rattle.token_forms.specs.Tokens.{Token, token_of, tokens_of}
use Rattle.token_forms.specs.Chunks.{Chunk, chunk_at, chunk_of}
use Rattle.token_forms.specs.declared.source.Step.{Step}
use Rattle.token_forms.specs.declared.source.Step.TheVariants.{GoesOn, Closes}
use Rattle.token_forms.specs.declared.source.Ended.{Ended}
use Rattle.def_tokens.specs.DefStatements.{count_with, statement_len, statements_within, def_statements}
use Rattle.def_tokens.proofs.DefCuts.{statement_len-some, first_law}
use Rattle.def_syntax.specs.Cuts.{step_to, cut_step}
use Rattle.def_syntax.specs.declared.statements.StatementCut.{StatementCut}
use Rattle.def_syntax.specs.declared.statements.StatementCut.TheVariants.{First, End, Extension, Other}

-- the first so many tokens are taken
record Takes (ts : List Token) (n : ℕ) (c : Chunk) : Type 0 where
  taken : c.taken ≡ take n ts
  left : c.left ≡ drop n ts

one_more : (t : Token) (ts : List Token) (n : ℕ) (c : Chunk) → Takes ts n c → Takes (t ∷ ts) (1 + n) (chunk_at GoesOn t ts c)
one_more t ts n c h = let k : 1 + n ≡ suc n = omega arith in rw k (record { taken = ap (λ (l : List Token). t ∷ l) h.taken; left = h.left })

to_word : (word : List ℕ) (state : StatementCut) → ((w : List ℕ) → cut_step state w ≡ (step_to word w, state)) → (ts : List Token) → Takes ts (count_with word ts) (chunk_of cut_step state ts)
to_word word state same [] = record { taken = refl; left = refl }
to_word word state same (t ∷ ts) = rw (same t.text) (by_text (bytes_eq t.text word) (to_word word state same ts))
  where
    by_text : (b : Bool) → Takes ts (count_with word ts) (chunk_of cut_step state ts)
        → Takes (t ∷ ts) (if b then 1 else 1 + count_with word ts) (chunk_at (if b then Closes else GoesOn) t ts (chunk_of cut_step state ts))
    by_text true h = record { taken = refl; left = refl }
    by_text false h = one_more t ts (count_with word ts) (chunk_of cut_step state ts) h

with_end : (t : Token) (ts : List Token) → Takes (t ∷ ts) (min 2 (1 + length ts)) (chunk_at GoesOn t ts (chunk_of cut_step End ts))
with_end t [] = record { taken = refl; left = refl }
with_end t (u ∷ us) = let k : min 2 (1 + length (u ∷ us)) ≡ 2 = omega arith in rw k (record { taken = refl; left = refl })

abbrev said : Bool → Bool → Bool → Bool → Step × StatementCut
said a b c d = if a then (GoesOn, End) else (if b then (Closes, Other) else (if c then (GoesOn, Extension) else (if d then Closes else GoesOn, Other)))

first_takes : (t : Token) (ts : List Token) → Takes (t ∷ ts) (statement_len (t ∷ ts)) (chunk_of cut_step First (t ∷ ts))
unfolding statement_len
first_takes t ts = by_text (bytes_eq t.text (codes "END")) (bytes_eq t.text (codes "PROPERTYDEFINITIONS")) (bytes_eq t.text (codes "BEGINEXT")) (bytes_eq t.text (codes ";"))
  where
    by_text : (a b c d : Bool)
        → Takes (t ∷ ts) (if a then min 2 (1 + length ts) else (if b then 1 else (if c then 1 + count_with (codes "ENDEXT") ts else (if d then 1 else 1 + count_with (codes ";") ts)))) (chunk_at (said a b c d).0 t ts (chunk_of cut_step (said a b c d).1 ts))
    by_text true b c d = with_end t ts
    by_text false true c d = record { taken = refl; left = refl }
    by_text false false true d = one_more t ts (count_with (codes "ENDEXT") ts) (chunk_of cut_step Extension ts) (to_word (codes "ENDEXT") Extension (λ w. refl) ts)
    by_text false false false true = record { taken = refl; left = refl }
    by_text false false false false = one_more t ts (count_with (codes ";") ts) (chunk_of cut_step Other ts) (to_word (codes ";") Other (λ w. refl) ts)

-- a token at least is taken, where there is one
takes_some : (n : ℕ) (t : Token) (ts : List Token) → 0 < n → take n (t ∷ ts) ≡ [] → ⊥
takes_some zero t ts some e = absurd (omega arith)
takes_some (suc n) t ts some e = absurd cc

module _ (text : List ℕ) (left : List Token) (e : Ended) where
  pub taken_is : (spans : List Span) (ts : List Token) → chunk_of cut_step First ts ≡ record { ended = e; taken = tokens_of text spans; left = left }
      → def_statements ts ≡ (if not (length spans == 0) then tokens_of text spans ∷ def_statements left else [])
  unfolding statements_within
  taken_is [] [] is = refl
  taken_is (s ∷ ss) [] is = let none : [] ≡ token_of text s ∷ tokens_of text ss = ap (λ (c : Chunk). c.taken) is in absurd cc
  taken_is [] (t ∷ ts) is = absurd (takes_some (statement_len (t ∷ ts)) t ts (statement_len-some t ts) (sym (first_takes t ts).taken ∙ ap (λ (c : Chunk). c.taken) is))
  taken_is (s ∷ ss) (t ∷ ts) is =
      let some : (length (s ∷ ss) == 0) ≡ false = grind (arith, nat_tests) in
      let front = sym (first_takes t ts).taken ∙ ap (λ (c : Chunk). c.taken) is in
      let behind = sym (first_takes t ts).left ∙ ap (λ (c : Chunk). c.left) is in
      rw some
      (first_law t ts ∙ ap (λ (l : List Token). l ∷ def_statements (drop (statement_len (t ∷ ts)) (t ∷ ts))) front ∙ ap (λ (l : List Token). (token_of text s ∷ tokens_of text ss) ∷ def_statements l) behind)

  pub fewer_left : (spans : List Span) (ts : List Token) → chunk_of cut_step First ts ≡ record { ended = e; taken = tokens_of text spans; left = left } → not (length spans == 0) ≡ true → length left < length ts
  fewer_left [] [] is some = absurd cc
  fewer_left (s ∷ ss) [] is some = let none : [] ≡ token_of text s ∷ tokens_of text ss = ap (λ (c : Chunk). c.taken) is in absurd cc
  fewer_left spans (t ∷ ts) is some =
      let behind = ap length (sym (first_takes t ts).left ∙ ap (λ (c : Chunk). c.left) is) in
      let len = length-drop (statement_len (t ∷ ts)) (t ∷ ts) in
      let more = statement_len-some t ts in
      omega (arith, behind, len, more)

-- whether a statement is taken, and which
pub next_is : (text other : List ℕ) (spans slice : List Span) (tokens : List Token) (ss rest : List (List Token)) (some : Bool) → ss ≡ (if some then tokens_of text spans ∷ rest else []) → some ≡ true → tokens ≡ tokens_of other slice
    → other ≡ text → slice ≡ spans → ss ≡ tokens ∷ rest
next_is text other spans slice tokens ss rest some e is tk o sl =
    e ∙ ap (λ (b : Bool). if b then tokens_of text spans ∷ rest else []) is ∙ ap (λ (s : List Token). s ∷ rest) (sym (tk ∙ ap (λ (t : List ℕ). tokens_of t slice) o ∙ ap (tokens_of text) sl))

pub none_next : (ss more : List (List Token)) (some : Bool) → ss ≡ (if some then more else []) → some ≡ false → ss ≡ []
none_next ss more some e is = e ∙ ap (λ (b : Bool). if b then more else []) is
