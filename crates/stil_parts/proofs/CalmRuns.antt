-- A scan goes on over calm bytes at once.
use Rattle.std.proofs.Common.{◌≡◌, ◌<◌, ◌≤◌, ℕ, zero, suc, ◌+◌, ◌-◌, Bool, true, false, ◌&&◌, ◌||◌, not, cond, List, [], ◌∷◌, length, take, drop, get_or, eqb, refl, sym, ap, ◌∙◌, subst, arith}
use Rattle.std.proofs.lemmas.Bool.{not-true, and_parts, or_parts}
use Rattle.std.proofs.lemmas.List.{drop-drop, get_or-drop, take_rest}
use Rattle.stil_parts.specs.declared.scan.Mode.{Mode}
use Rattle.stil_parts.specs.declared.scan.Mode.TheVariants.{Free, Run, Slash, Quoted, Line, Block, Brace, Note}
use Rattle.stil_parts.specs.declared.scan.Scan.{Scan}
use Rattle.stil_parts.specs.declared.scan.After.TheVariants.{Goes}
use Rattle.stil_parts.specs.declared.word.Word.{Word}
use Rattle.stil_parts.specs.declared.word.Word.TheVariants.{Start, Letters, Text, Joined, After, Known}
use Rattle.stil_parts.specs.declared.word.Word.TheVariants as words
use Rattle.stil_parts.specs.Words.{is_known}
use Rattle.stil_parts.specs.Scanner.{goes, run_step, mark_step, free_step, mode_step, step, later, end_of, run}
use Rattle.stil_parts.specs.Calm.{is_block_mark, begins_text, is_calm, mode_behind, is_loose, is_between}
use Rattle.stil_tokens.specs.StilTokens.{is_blank, is_quote, other_mark}
use Rattle.stil_parts.proofs.Scans.{later-later, later-zero, end_goes, run_goes}

record IsCalm (b : ℕ) : Type 0 where
  quote : is_quote b ≡ false
  slash : eqb b 47 ≡ false
  semicolon : eqb b 59 ≡ false
  opening : eqb b 123 ≡ false
  closing : eqb b 125 ≡ false

calm : (b : ℕ) → is_calm b ≡ true → IsCalm b
calm b e =
    let both = and_parts (not (is_block_mark b)) (not (begins_text b)) e in
    let mark = or_parts (eqb b 59 || eqb b 123) (eqb b 125) (not-true (is_block_mark b) (both.0)) in
    let opens = or_parts (eqb b 59) (eqb b 123) (mark.0) in
    let begin = or_parts (is_quote b) (eqb b 47) (not-true (begins_text b) (both.1)) in
    record { quote = begin.0; slash = begin.1; semicolon = opens.0; opening = opens.1; closing = mark.1 }

abbrev in_mode : Mode → ℕ → Bool → Scan
in_mode m d known = record { mode = m; depth = d; word = Known known }

calm-by : (d : ℕ) (known blank other colon : Bool) → goes (cond (blank || other) Free Run) d (Known known) ≡ cond blank (goes Free d (Known known)) (cond other (goes Free d (cond colon (Known known) (Known known))) (goes Run d (Known known)))
calm-by d known true other colon = refl
calm-by d known false true true = refl
calm-by d known false true false = refl
calm-by d known false false colon = refl

run-calm : (d : ℕ) (known : Bool) (b : ℕ) → IsCalm b → goes (mode_behind b) d (Known known) ≡ run_step (Known known) d b
unfolding run_step mark_step
run-calm d known b i = rw (i.quote, i.semicolon, i.closing, i.opening) (calm-by d known (is_blank b) (other_mark b) (eqb b 58))

free-calm : (d : ℕ) (known : Bool) (b : ℕ) → IsCalm b → goes (mode_behind b) d (Known known) ≡ free_step (Known known) d b
unfolding free_step
free-calm d known b i = rw i.slash (run-calm d known b i)

calm-step : (m : Mode) (d : ℕ) (known : Bool) (b : ℕ) → is_loose m ≡ true → IsCalm b → Goes (in_mode (mode_behind b) d known) ≡ step (in_mode m d known) b
unfolding step mode_step
calm-step Free d known b loose i = free-calm d known b i
calm-step Run d known b loose i = run-calm d known b i
calm-step Slash d known b loose i = absurd cc
calm-step (Quoted quote) d known b loose i = absurd cc
calm-step Line d known b loose i = absurd cc
calm-step (Block star) d known b loose i = absurd cc
calm-step Brace d known b loose i = absurd cc
calm-step (Note star) d known b loose i = absurd cc

loose-by : (t : Bool) → is_loose (cond t Free Run) ≡ true
loose-by true = refl
loose-by false = refl

-- the mode behind so many bytes
abbrev behind_all : Mode → ℕ → List ℕ → Mode
behind_all m zero x = m
behind_all m (suc n) [] = m
behind_all m (suc n) (b ∷ bs) = behind_all (mode_behind b) n bs

behind-last : (m : Mode) (n : ℕ) (x : List ℕ) → n < length x → behind_all m (suc n) x ≡ mode_behind (get_or x n 0)
behind-last m n [] l = absurd (omega arith)
behind-last m zero (b ∷ bs) l = refl
behind-last m (suc n) (b ∷ bs) l = behind-last (mode_behind b) n bs (omega arith)

module _ (d : ℕ) (known : Bool) where
  calm-end : (last : Bool) (m : Mode) (n : ℕ) (x : List ℕ) → is_loose m ≡ true → n ≤ length x → ((k : ℕ) → k < n → is_calm (get_or x k 0) ≡ true) → end_of last (in_mode m d known) x ≡ later n (end_of last (in_mode (behind_all m n x) d known) (drop n x))
  calm-end last m zero x loose le all = sym (later-zero _)
  calm-end last m (suc n) [] loose le all = absurd (omega arith)
  calm-end last m (suc n) (b ∷ bs) loose le all =
      let s : 1 + n ≡ suc n = omega arith in
      end_goes last (in_mode m d known) b bs (in_mode (mode_behind b) d known) (calm-step m d known b loose (calm b (all 0 (omega arith))))
      ∙ ap (later 1) (calm-end last (mode_behind b) n bs (loose-by (is_blank b || other_mark b)) (omega arith) (λ k l. all (suc k) (omega arith)))
      ∙ later-later 1 n _
      ∙ ap (λ (i : ℕ). later i (end_of last (in_mode (behind_all (mode_behind b) n bs) d known) (drop n bs))) s

  calm-run : (m : Mode) (n : ℕ) (x : List ℕ) → is_loose m ≡ true → n ≤ length x → ((k : ℕ) → k < n → is_calm (get_or x k 0) ≡ true) → run (in_mode m d known) x ≡ run (in_mode (behind_all m n x) d known) (drop n x)
  calm-run m zero x loose le all = refl
  calm-run m (suc n) [] loose le all = absurd (omega arith)
  calm-run m (suc n) (b ∷ bs) loose le all =
      run_goes (in_mode m d known) b bs (in_mode (mode_behind b) d known) (calm-step m d known b loose (calm b (all 0 (omega arith))))
      ∙ calm-run (mode_behind b) n bs (loose-by (is_blank b || other_mark b)) (omega arith) (λ k l. all (suc k) (omega arith))

-- what a jump over so many bytes behind a place owes
pub record IsJump (bytes : List ℕ) (at k : ℕ) (s t : Scan) : Type 0 where
  pub depth : t.depth ≡ s.depth
  pub ends : (last : Bool) → end_of last s (drop at bytes) ≡ later k (end_of last t (drop (at + k) bytes))
  pub ran : run s (drop at bytes) ≡ run t (drop (at + k) bytes)

pub no-jump : (bytes : List ℕ) (at : ℕ) (s : Scan) → IsJump bytes at 0 s s
no-jump bytes at s =
    let e : at + 0 ≡ at = omega arith in
    record {
      depth = refl;
      ends = λ last. sym (ap (λ (i : ℕ). later 0 (end_of last s (drop i bytes))) e ∙ later-zero _);
      ran = ap (λ (i : ℕ). run s (drop i bytes)) (sym e);
    }

jump-by : (bytes : List ℕ) (at n : ℕ) (m : Mode) (d : ℕ) (known : Bool) (b : ℕ) → is_loose m ≡ true → suc n ≤ length (drop at bytes) → ((k : ℕ) → k < suc n → is_calm (get_or (drop at bytes) k 0) ≡ true)
    → b ≡ get_or (drop at bytes) n 0 → IsJump bytes at (suc n) (in_mode m d known) (in_mode (mode_behind b) d known)
jump-by bytes at n m d known b loose le all is =
    let mode : behind_all m (suc n) (drop at bytes) ≡ mode_behind b = behind-last m n (drop at bytes) (omega arith) ∙ ap (λ (c : ℕ). mode_behind c) (sym is) in
    record {
      depth = refl;
      ends = λ last. calm-end d known last m (suc n) (drop at bytes) loose le all
          ∙ ap (λ (k : Mode). later (suc n) (end_of last (in_mode k d known) (drop (suc n) (drop at bytes)))) mode
          ∙ ap (λ (x : List ℕ). later (suc n) (end_of last (in_mode (mode_behind b) d known) x)) (drop-drop (suc n) at bytes);
      ran = calm-run d known m (suc n) (drop at bytes) loose le all
          ∙ ap (λ (k : Mode). run (in_mode k d known) (drop (suc n) (drop at bytes))) mode
          ∙ ap (λ (x : List ℕ). run (in_mode (mode_behind b) d known) x) (drop-drop (suc n) at bytes);
    }

known-by : (w : Word) (P : Word → Type 0) → (is_loose Free && is_known w) ≡ true → ((known : Bool) → P (Known known)) → P w
known-by Start P e all = absurd cc
known-by (Letters k) P e all = absurd cc
known-by words.Run P e all = absurd cc
known-by Text P e all = absurd cc
known-by Joined P e all = absurd cc
known-by (After is) P e all = absurd cc
known-by (Known is) P e all = all is

jump : (bytes : List ℕ) (at n : ℕ) (m : Mode) (d : ℕ) (w : Word) (b : ℕ) → (is_loose m && is_known w) ≡ true → suc n ≤ length (drop at bytes) → ((k : ℕ) → k < suc n → is_calm (get_or (drop at bytes) k 0) ≡ true)
    → b ≡ get_or (drop at bytes) n 0 → IsJump bytes at (suc n) (record { mode = m; depth = d; word = w }) (record { mode = mode_behind b; depth = d; word = w })
jump bytes at n m d w b between le all is =
    let parts = and_parts (is_loose m) (is_known w) between in
    known-by w (λ (v : Word). IsJump bytes at (suc n) (record { mode = m; depth = d; word = v }) (record { mode = mode_behind b; depth = d; word = v })) (parts.1)
    (λ known. jump-by bytes at n m d known b (parts.0) le all is)

-- the same, where the last of the bytes is read at its place
jump_at : (bytes : List ℕ) (at k : ℕ) (s : Scan) (m2 : Mode) → is_between s ≡ true → (k ≡ 0 → ⊥) → k ≤ length (drop at bytes) → ((j : ℕ) → j < k → is_calm (get_or (drop at bytes) j 0) ≡ true) → m2 ≡ mode_behind (get_or bytes (at + k - 1) 0)
    → IsJump bytes at k s (record { mode = m2; depth = s.depth; word = s.word })
jump_at bytes at zero s m2 between some le all is = absurd (some refl)
jump_at bytes at (suc n) s m2 between some le all is =
    let e : at + suc n - 1 ≡ at + n = omega arith in
    let same : m2 ≡ mode_behind (get_or (drop at bytes) n 0) = is ∙ ap (λ (i : ℕ). mode_behind (get_or bytes i 0)) e ∙ ap mode_behind (sym (get_or-drop at bytes n 0)) in
    subst (λ (m : Mode). IsJump bytes at (suc n) s (record { mode = m; depth = s.depth; word = s.word })) (sym same) (jump bytes at n s.mode s.depth s.word (get_or (drop at bytes) n 0) between le all refl)

-- and of the bytes from there on as a slice has them
pub jump_in : (bytes : List ℕ) (at k : ℕ) (s : Scan) (m2 : Mode) → is_between s ≡ true → (k ≡ 0 → ⊥) → k ≤ length (take (length bytes - at) (drop at bytes))
    → ((j : ℕ) → j < k → is_calm (get_or (take (length bytes - at) (drop at bytes)) j 0) ≡ true) → m2 ≡ mode_behind (get_or bytes (at + k - 1) 0)
    → IsJump bytes at k s (record { mode = m2; depth = s.depth; word = s.word })
jump_in bytes at k s m2 between some le all is =
    jump_at bytes at k s m2 between some (subst (λ (x : List ℕ). k ≤ length x) (take_rest bytes at) le) (λ j l. subst (λ (x : List ℕ). is_calm (get_or x j 0) ≡ true) (take_rest bytes at) (all j l)) is

-- at a place of the bytes
module _ (last : Bool) (bytes : List ℕ) (at k : ℕ) (s t : Scan) (j : IsJump bytes (at + 1) k s t) where
  pub jumped-end : later (at + 1) (end_of last s (drop (at + 1) bytes)) ≡ later (at + (1 + k)) (end_of last t (drop (at + (1 + k)) bytes))
  jumped-end =
      let e : at + 1 + k ≡ at + (1 + k) = omega arith in
      ap (later (at + 1)) (j.ends last) ∙ later-later (at + 1) k _ ∙ ap (λ (i : ℕ). later i (end_of last t (drop i bytes))) e

  pub jumped-run : run s (drop (at + 1) bytes) ≡ run t (drop (at + (1 + k)) bytes)
  jumped-run =
      let e : at + 1 + k ≡ at + (1 + k) = omega arith in
      j.ran ∙ ap (λ (i : ℕ). run t (drop i bytes)) e
