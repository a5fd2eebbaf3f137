-- The made STIL denotes its head.
use Rattle.std.proofs.Common.{◌≡◌, ℕ, ◌≤◌, true, false, List, [], ◌∷◌, ◌++◌, length, take, refl, sym, ap, ◌∙◌, subst, append-nil, Option, Some, arith}
use Rattle.std.specs.Prelude.{nat_lt}
use Rattle.std.specs.Option.{unwrap_or}
use Rattle.std.proofs.Math.Seq.{take-append_seam}
use Rattle.std.proofs.lemmas.Bool.Decides.{nat_tests}
use Rattle.base_types.specs.declared.span.Span.{Span}
use Rattle.token_forms.specs.Tokens.{tokens_of}
use Rattle.token_forms.specs.Parts.{token_texts}
use Rattle.token_forms.specs.Runs.{bytes_of, texts_of}
use Rattle.token_forms.proofs.Reaches.{texts_here}
use Rattle.stil_tokens.specs.StilTokens.{piece_at, stil_tokens, tokens_in}
use Rattle.stil_tokens.proofs.StilPieces.{stil_cut}
use Rattle.stil_parts.specs.declared.gap.Comment.TheVariants.{Outside}
use Rattle.stil_parts.specs.Heads.{head_end}
use Rattle.stil_parts.specs.Coming.{largest}
use Rattle.stil_head.specs.Ends.{head_text}
use Rattle.stil_head.specs.Heads.{DenotesHead, IsHead}
use Rattle.stil_reader.proofs.Heads.{no_head_fault}
use Rattle.design_maker.specs.MadeStil.{stil_text, pattern_text}
use Rattle.design_maker.proofs.Sizes.{small_texts}
use Rattle.made_law.specs.Patterns.MadeHead.{BlockPlace, head_bytes, made_head}
use Rattle.made_law.specs.Patterns.Laws.{HeadTextLaw, WholeHeadLaw, HeadLaw, NoWholeHeadFaultLaw, NoHeadFaultLaw}
use Rattle.made_law.proofs.patterns.Tokens.{on, tokens_by, places_of, tokens_are}
use Rattle.made_law.proofs.patterns.Texts.{texts, head_texts}
use Rattle.made_law.proofs.patterns.HeadValues.{block_places, head_says}
use Rattle.made_law.proofs.patterns.HeadEnds.{stil_parts, whole_ends, head_alone_ends}

spans_texts : (text : List ℕ) (ss : List Span) → token_texts (tokens_of text ss) ≡ texts_of text ss
spans_texts text [] = refl
spans_texts text (s ∷ ss) = ap (λ (l : List (List ℕ)). bytes_of text s ∷ l) (spans_texts text ss)

-- the texts of the tokens of a text
pub texts_in : (text : List ℕ) → token_texts (tokens_in text) ≡ texts text
texts_in text = spans_texts text (stil_tokens text) ∙ sym (texts_here piece_at stil_cut (length text) text 0 (omega arith))

places : ℕ → ℕ → BlockPlace
places n = block_places (head_bytes n) (on 113 (places_of (tokens_in (head_bytes n))))

says : (n : ℕ) → 8 ≤ n → n ≤ 16384 → IsHead (head_bytes n) (made_head (places n) n)
unfolding places
says n least most =
    let ts = tokens_in (head_bytes n) in
    head_says n least most (head_bytes n) (places_of ts) (tokens_are ts ∙ ap (tokens_by (places_of ts)) (texts_in (head_bytes n) ∙ head_texts n most))

-- the head's bytes, with others behind them
head_of : (n : ℕ) (bytes y : List ℕ) → 8 ≤ n → n ≤ 16384 → bytes ≡ head_bytes n ++ y → head_end true Outside 0 bytes ≡ Some (length (head_bytes n)) → DenotesHead bytes (made_head (places n) n)
head_of n bytes y least most is ends =
    let h = head_bytes n in
    let cut : head_text bytes ≡ h = ap (λ (o : Option ℕ). take (unwrap_or o (length bytes)) bytes) ends ∙ ap (take (length h)) is ∙ take-append_seam h y in
    record { ends = ends; says = subst (λ (t : List ℕ). IsHead t (made_head (places n) n)) (sym cut) (says n least most) }

pub whole_law : WholeHeadLaw
whole_law n least most = record { at = places n; denotes = head_of n (stil_text n) (pattern_text n) least most (stil_parts n) (whole_ends n most) }

pub head_law : HeadLaw
head_law n least most = record { at = places n; denotes = head_of n (head_bytes n) [] least most (sym (append-nil (head_bytes n))) (head_alone_ends n most) }

pub no_whole_fault : NoWholeHeadFaultLaw
no_whole_fault n least most fault = let d = whole_law n least most in no_head_fault (stil_text n) (made_head d.at n) d.denotes fault

pub no_fault : NoHeadFaultLaw
no_fault n least most fault = let d = head_law n least most in no_head_fault (head_bytes n) (made_head d.at n) d.denotes fault

pub text_law : HeadTextLaw
text_law n least most =
    let size = (small_texts n least most).stil in
    let small : nat_lt largest (length (stil_text n)) ≡ false = grind (arith, nat_tests) in
    record {
      shown = rw small (whole_ends n most);
      are = ap (take (length (head_bytes n))) (stil_parts n) ∙ take-append_seam (head_bytes n) (pattern_text n);
    }
