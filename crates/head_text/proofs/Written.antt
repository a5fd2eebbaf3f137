-- A text that begins with a written head denotes it.
use Rattle.std.specs.Prelude.{⊤, nat_lt}
use Rattle.std.proofs.Common.{◌≡◌, ℕ, zero, suc, ◌+◌, ◌-◌, ◌<◌, ◌≤◌, Bool, true, false, cond, eqb, ◌&&◌, ◌⊎◌, inl, inr, List, [], ◌∷◌, ◌++◌, length, take, drop, Option, Some, None, refl, sym, ap, ◌∙◌, subst, arith, length-append}
use Rattle.std.specs.Option.{unwrap_or}
use Rattle.std.proofs.lemmas.List.{append-nil, take-append-drop, length-take-le}
use Rattle.stil_types.specs.declared.head.StilHead.{StilHead}
use Rattle.stil_parts.specs.declared.gap.Comment.{Comment}
use Rattle.stil_parts.specs.declared.gap.Comment.TheVariants.{Outside, Line, Block}
use Rattle.stil_parts.specs.declared.head.HeadTurn.{HeadTurn}
use Rattle.stil_parts.specs.declared.head.HeadTurn.TheVariants.{Passed, Here}
use Rattle.stil_parts.specs.declared.word.Word.TheVariants.{Start, Known}
use Rattle.stil_parts.specs.Scanner.{end_of}
use Rattle.stil_parts.specs.Parts.{begin}
use Rattle.stil_parts.specs.Heads.{word_of, statement_turn, head_turn, head_end}
use Rattle.stil_head.specs.Ends.{end_at, head_text}
use Rattle.stil_head.specs.Heads.{IsHead, DenotesHead}
use Rattle.head_alike.specs.Heads.{IsHeadAnew}
use Rattle.head_text.specs.Mixes.{bytes_in, new_pieces}
use Rattle.head_text.specs.Written.{NewChain, written_head, declared}
use Rattle.head_text.specs.Laws.{read_names, FitChains, IsWrittenText, MayFollow, DenotesAnew, HeadLaw}
use Rattle.head_text.proofs.Lays.{take_front, drop_front}
use Rattle.head_text.proofs.Standing.{Built}
use Rattle.head_text.proofs.Passes.{plus, Passes, Stands, end_here, end_nothing, line_any, block_any, nothing_here}
use Rattle.head_text.proofs.HeadEnds.{AllPassed, top_pass}
use Rattle.head_text.proofs.Texts.{build, text_law}

-- a head ends within its text
abbrev Within : ℕ → Option ℕ → Type 0
Within k None = ⊤
Within k (Some n) = n ≤ k

within_more : (k : ℕ) (o : Option ℕ) → Within k o → Within (suc k) (elim o [ None ↦ None | Some n ↦ Some (1 + n) ])
within_more k None h = tt
within_more k (Some n) h = omega (arith, h)

within_turn : (k : ℕ) (bs : List ℕ) (o : Option HeadTurn) → ((c : Comment) (i : ℕ) → Within k (head_end true c i bs))
    → Within (suc k) (elim o [ None ↦ Some (suc k) | Some turn ↦ elim turn [ Here ↦ Some 0 | Passed n c ↦ elim (head_end true c (n - 1) bs) [ None ↦ None | Some m ↦ Some (1 + m) ] ] ])
within_turn k bs None more = omega arith
within_turn k bs (Some Here) more = omega arith
within_turn k bs (Some (Passed n c)) more = within_more k (head_end true c (n - 1) bs) (more c (n - 1))

within : (x : List ℕ) (c : Comment) (i : ℕ) → Within (length x) (head_end true c i x)
unfolding head_end
within [] c zero = omega arith
within [] c (suc i) = omega arith
within (b ∷ bs) c (suc i) = within_more (length bs) (head_end true c i bs) (within bs c i)
within (b ∷ bs) c zero = within_turn (length bs) bs (head_turn true c (b ∷ bs)) (λ c i. within bs c i)

-- in a comment no head ends
plus_never : (o : Option ℕ) → plus 1 o ≡ Some 0 → ⊥
plus_never None e = absurd cc
plus_never (Some n) e = absurd (let k : 1 + n ≡ 0 = (let r = e in cc) in omega (arith, k))

open_line : (b : ℕ) (r : List ℕ) → head_end true Line 0 (b ∷ r) ≡ Some 0 → ⊥
open_line b r e = plus_never (head_end true (cond (eqb b 10) Outside Line) 0 r) (sym ((line_any b).is r) ∙ e)

open_block : (star : Bool) (b : ℕ) (r : List ℕ) → head_end true (Block star) 0 (b ∷ r) ≡ Some 0 → ⊥
open_block star b r e = plus_never (head_end true (cond (star && eqb b 47) Outside (Block (eqb b 42))) 0 r) (sym ((block_any star b).is r) ∙ e)

-- a Pattern has bytes
here_some : (z : List ℕ) → head_turn true Outside z ≡ Some Here → (b : ℕ) × (r : List ℕ) × (z ≡ b ∷ r)
here_some [] e = absurd (nothing_here e)
here_some (b ∷ r) e = (b, r, refl)

-- where a text goes on with a Pattern, no comment is open before it
ends_outside : (c : Comment) (was : List ℕ) → Stands c [] → head_end true c 0 was ≡ Some 0 → (c ≡ Outside) ⊎ (was ≡ [])
ends_outside Outside was s e = inl refl
ends_outside Line [] s e = inr refl
ends_outside Line (b ∷ r) s e = absurd (open_line b r e)
ends_outside (Block star) [] s e = inr refl
ends_outside (Block star) (b ∷ r) s e = absurd (open_block star b r e)

rest_ends : (c : Comment) (was rest : List ℕ) → Stands c [] → head_end true c 0 was ≡ Some 0 → MayFollow was rest → head_end true c 0 rest ≡ Some 0
rest_ends c was rest s e f = elim f [
  | inl none ↦ ap (head_end true c 0) none ∙ end_nothing c
  | inr here ↦ elim (ends_outside c was s e) [
    | inl out ↦ (
        let k = here_some rest here.1 in
        ap (λ (c : Comment). head_end true c 0 rest) out ∙ ap (head_end true Outside 0) k.2 ∙ end_here Outside k.0 k.1 (sym (ap (head_turn true Outside) k.2) ∙ here.1))
    | inr none ↦ (let k = here_some was here.0 in absurd (let r = sym k.2 ∙ none in cc))
  ]
]

-- the text of a head, and what stands behind it
record HeadCut (bytes : List ℕ) (head : StilHead) : Type 0 where
  rest : List ℕ
  is : head_text bytes ++ rest ≡ bytes
  rest_is : rest ≡ drop head.end bytes
  len : length (head_text bytes) ≡ head.end

cut_head : (bytes : List ℕ) (head : StilHead) → head_end true Outside 0 bytes ≡ Some head.end → HeadCut bytes head
cut_head bytes head e =
    let end : end_at bytes ≡ head.end = ap (λ (o : Option ℕ). unwrap_or o (length bytes)) e in
    let less : head.end ≤ length bytes = subst (Within (length bytes)) e (within bytes Outside 0) in
    record {
      rest = drop head.end bytes;
      is = ap (λ (n : ℕ). take n bytes ++ drop head.end bytes) end ∙ take-append-drop head.end bytes;
      rest_is = refl;
      len = ap (λ (n : ℕ). length (take n bytes)) end ∙ length-take-le head.end bytes less;
    }

pub written_ends : (bytes : List ℕ) (head : StilHead) (new : List NewChain) (rest : List ℕ) → DenotesHead bytes head → FitChains (read_names (head_text bytes) head.chains) head.chains new → MayFollow (drop head.end bytes) rest
    → head_end true Outside 0 (written_head new head (head_text bytes) ++ rest) ≡ Some (length (written_head new head (head_text bytes)))
written_ends bytes head new rest is fits follows =
    let text = head_text bytes in
    let b = build text head new is.says fits in
    let c = cut_head bytes head is.ends in
    let out = written_head new head text in
    let len : head.end ≡ length (bytes_in b.pieces) + 0 = (let k = ap length b.old_text in let s = c.len in omega (arith, k, s)) in
    let old : head_end true Outside 0 (bytes_in b.pieces ++ c.rest) ≡ Some (length (bytes_in b.pieces) + 0) = ap (λ (l : List ℕ). head_end true Outside 0 (l ++ c.rest)) b.old_text ∙ ap (head_end true Outside 0) c.is ∙ is.ends ∙ ap (λ (n : ℕ). Some n) len in
    let all = subst (λ (l : List ℕ). AllPassed l c.rest) b.new_text (top_pass b.front b.structures b.behind b.pieces b.mixes c.rest b.parts b.are b.new_are old) in
    let p = all.passes in
    let none : length out + 0 ≡ length out = omega arith in
    p.is rest ∙ ap (plus (length out)) (rest_ends all.comment c.rest rest all.stands all.last (subst (λ (l : List ℕ). MayFollow l rest) (sym c.rest_is) follows)) ∙ ap (λ (n : ℕ). Some n) none

pub head_law : HeadLaw
head_law bytes head new rest is fits follows =
    let text = head_text bytes in
    let out = written_head new head text in
    let ends = written_ends bytes head new rest is fits follows in
    let says = (text_law text head new is.says fits).says in
    let a = says.again in
    let h = says.is in
    let end : end_at (out ++ rest) ≡ length out = ap (λ (o : Option ℕ). unwrap_or o (length (out ++ rest))) ends in
    let front : head_text (out ++ rest) ≡ out = ap (λ (n : ℕ). take n (out ++ rest)) end ∙ take_front out rest in
    let again : StilHead = record { chains = a.chains; procedures = a.procedures; macros = a.macros; keywords = a.keywords; marks = a.marks; end = length out } in
    let own : IsHead out again = record {
      no_syntax = h.no_syntax;
      no_twice = h.no_twice;
      no_unsupported = h.no_unsupported;
      chains = h.chains;
      procedures = h.procedures;
      macros = h.macros;
      keywords = h.keywords;
      marks = h.marks;
    } in
    record {
      again = again;
      is = record { ends = ends; says = subst (λ (l : List ℕ). IsHead l again) (sym front) own };
      end = refl;
      chains = says.chains;
      procedures = says.procedures;
      macros = says.macros;
      keywords = says.keywords;
    }
