-- A STIL text and the text of its head denote one head; what the whole text says is the head and what stands behind it.
use Rattle.std.proofs.Common.{◌≡◌, inl, inr, ℕ, ◌≤◌, true, List, [], ◌∷◌, ◌++◌, length, take, drop, Option, Some, None, sym, ap, ◌∙◌, subst}
use Rattle.std.specs.Option.{unwrap_or}
use Rattle.std.proofs.lemmas.List.{take-append-drop, length-take-le}
use Rattle.std.proofs.lemmas.Option.{same_Some}
use Rattle.std.proofs.Math.Seq.{take-length}
use Rattle.stil_types.specs.declared.head.StilHead.{StilHead}
use Rattle.stil_parts.specs.declared.gap.Comment.TheVariants.{Outside}
use Rattle.stil_parts.specs.declared.gap.Point.{Point}
use Rattle.stil_parts.specs.declared.part.PartFault.{PartFault}
use Rattle.stil_parts.specs.Coming.{to_come}
use Rattle.stil_parts.specs.Heads.{head_end, head_len}
use Rattle.stil_calls.specs.declared.judging.Judging.TheVariants.{Lengths}
use Rattle.stil_calls.specs.Parts.{judge_by}
use Rattle.stil_head.specs.Ends.{head_text}
use Rattle.stil_head.specs.Heads.{IsHead, DenotesHead}
use Rattle.stil_reader.specs.Sayings.{Head, Told, after, beginning, told, told_behind, told_before, told_whole}
use Rattle.stil_reader.specs.Patterns.{behind_head}
use Rattle.stil_reader.proofs.Heads.{end_within, shown_end}
use Rattle.stil_written.specs.Unbounded.{IsSizeFault, says_free}
use Rattle.stil_written.proofs.Sizes.{size_law}
use Rattle.declared_chains.specs.Files.{IsHeadText}
use Rattle.same_files.specs.Meaning.{patterns_in}
use Rattle.same_files.proofs.HeadCuts.{ends_in_front}

-- the head of a text whose own text this is
pub record IsOwnHead (stil text : List ℕ) (head : StilHead) : Type 0 where
  pub denotes : DenotesHead stil head
  pub text_is : head_text stil ≡ text
  pub own : head_text text ≡ text
  pub end : head_len stil ≡ Some head.end

pub own_head : (stil text : List ℕ) (head : StilHead) → IsHeadText stil text → DenotesHead text head → IsOwnHead stil text head
own_head stil text head is d =
    let len = is.len in
    let whole = shown_end stil len is.ends in
    let le : len ≤ length stil = end_within Outside 0 stil len whole in
    let size : length text ≡ len = ap length is.is ∙ length-take-le len stil le in
    let cut : text ++ drop len stil ≡ stil = ap (λ (l : List ℕ). l ++ drop len stil) is.is ∙ take-append-drop len stil in
    let here : head_end true Outside 0 text ≡ Some len = ends_in_front Outside 0 len text (drop len stil) (ap (head_end true Outside 0) cut ∙ whole) (sym size) in
    let end : head.end ≡ len = same_Some _ _ (sym d.ends ∙ here) in
    let own : head_text text ≡ text = ap (λ (o : Option ℕ). take (unwrap_or o (length text)) text) here ∙ ap (λ (n : ℕ). take n text) (sym size) ∙ take-length text in
    let text_is : head_text stil ≡ text = ap (λ (o : Option ℕ). take (unwrap_or o (length stil)) stil) whole ∙ sym is.is in
    record {
      denotes = record { ends = whole ∙ ap (λ (n : ℕ). Some n) (sym end); says = subst (λ (l : List ℕ). IsHead l head) (own ∙ sym text_is) d.says };
      text_is = text_is;
      own = own;
      end = is.ends ∙ ap (λ (n : ℕ). Some n) (sym end);
    }

-- without a fault nothing is too big
no_size : (o : Option PartFault) → o ≡ None → IsSizeFault o → ⊥
no_size None e is = is
no_size (Some f) e is = absurd cc

pub free_behind : (head : StilHead) (p : Point) (bytes : List ℕ) → (told_behind head p bytes).fault ≡ None → told_behind head p bytes ≡ says_free Lengths head p bytes
free_behind head p bytes fine = elim (size_law (judge_by Lengths head) p 0 bytes) [
  | inl same ↦ ap (told head) same
  | inr big ↦ absurd (no_size (to_come (judge_by Lengths head) p 0 bytes).fault fine big)
]

-- what the whole text says, where it has no fault
pub told_is : (head : StilHead) (stil : List ℕ) → head_len stil ≡ Some head.end → (told_whole head stil).fault ≡ None → told_whole head stil ≡ after (Head (take head.end stil) ∷ []) (patterns_in head stil)
told_is head stil len fine =
    let cut : told_whole head stil ≡ after (Head (take head.end stil) ∷ []) (told_behind head (behind_head head stil) (drop head.end stil)) = ap (told_before head beginning stil) len in
    let sound : (told_behind head (behind_head head stil) (drop head.end stil)).fault ≡ None = sym (ap (λ (t : Told). t.fault) cut) ∙ fine in
    cut ∙ ap (after (Head (take head.end stil) ∷ [])) (free_behind head (behind_head head stil) (drop head.end stil) sound)
