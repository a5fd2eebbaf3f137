-- Where a scan in a Pattern ends a statement, its tokens end it, and nowhere else.
use Rattle.std.proofs.Common.{◌≡◌, ℕ, suc, ◌+◌, Bool, true, false, cond, eqb, ◌&&◌, List, [], ◌∷◌, length, Option, Some, None, refl, sym, ap, ◌∙◌, arith, inl, inr}
use Rattle.std.proofs.lemmas.Bool.{cases_eq, eq-eqb, ne_eqb}
use Rattle.stil_tokens.specs.StilTokens.{tokens_in}
use Rattle.stil_parts.specs.declared.scan.Scan.{Scan}
use Rattle.stil_parts.specs.declared.scan.Found.{Found}
use Rattle.stil_parts.specs.Scanner.{at_brace, found, later, end_of}
use Rattle.stil_parts.specs.Parts.{begin}
use Rattle.stil_parts.specs.declared.word.Word.TheVariants.{Known}
use Rattle.stil_parts.specs.Ending.{statement_end, end_place, EndLaw}
use Rattle.stil_parts.specs.ByTokens.{ended, shown_of, shown}
use Rattle.stil_parts.proofs.Scans.{later-zero}
use Rattle.stil_parts.proofs.Ends.{Went, Ended, Opened, stepped, end_goes, end_ends, end_opens}
use Rattle.stil_parts.proofs.Stages.{Sure}
use Rattle.stil_parts.proofs.TokenScan.{holds}
use Rattle.stil_parts.proofs.Labels.{word-sure, ends-top, top_end}

same-len : (m n : ℕ) → eqb (1 + m) (suc n) ≡ eqb m n
same-len m n = elim (cases_eq m n) [
  | inl e ↦ (let k : 1 + m ≡ suc n = omega arith in eq-eqb (1 + m) (suc n) k ∙ sym (eq-eqb m n e))
  | inr ne ↦ ne_eqb (1 + m) (suc n) (λ e. ne (omega (arith, e))) ∙ sym (ne_eqb m n ne)
]

shown-later : (n : ℕ) (o : Option Found) → later 1 (shown_of n o) ≡ shown_of (suc n) (later 1 o)
shown-later n None = refl
shown-later n (Some f) = later-if (f.opens && eqb f.len n) ∙ ap (λ (b : Bool). cond (f.opens && b) None (Some (found (1 + f.len) f.opens))) (sym (same-len f.len n))
  where
    later-if : (b : Bool) → later 1 (cond b None (Some f)) ≡ cond b None (Some (found (1 + f.len) f.opens))
    later-if true = refl
    later-if false = refl

shown-none : (s : Scan) → end_of false s [] ≡ shown_of 0 (end_of true s [])
unfolding end_of
shown-none s = by (at_brace s)
  where
    by : (b : Bool) → None ≡ shown_of 0 (cond b (Some (found 0 true)) None)
    by true = refl
    by false = refl

-- in a text that goes on, a brace as the last byte shows nothing, and all else is as in one that ends
pub front-shown : (s : Scan) (x : List ℕ) → end_of false s x ≡ shown_of (length x) (end_of true s x)
front-shown s [] = shown-none s
front-shown s (b ∷ bs) = elim (stepped s b) [
  | Went t h ↦ end_goes false s b bs t h ∙ ap (later 1) (front-shown t bs) ∙ shown-later (length bs) (end_of true t bs) ∙ sym (ap (shown_of (suc (length bs))) (end_goes true s b bs t h))
  | Ended h ↦ end_ends false s b bs h ∙ sym (ap (shown_of (suc (length bs))) (end_ends true s b bs h))
  | Opened h ↦ (
      let apart : eqb 0 (suc (length bs)) ≡ false = ne_eqb 0 (suc (length bs)) (λ e. omega arith) in
      end_opens false s b bs h ∙ sym (ap (λ (c : Bool). cond c None (Some (found 0 true))) apart) ∙ sym (ap (shown_of (suc (length bs))) (end_opens true s b bs h)))
]

pub front-as : (last : Bool) (s : Scan) (x : List ℕ) → end_of last s x ≡ shown last (length x) (end_of true s x)
front-as true s x = refl
front-as false s x = front-shown s x

shown-ended : (last : Bool) (n : ℕ) (o : Option ℕ) → shown last n (ended o) ≡ ended o
shown-ended true n o = refl
shown-ended false n None = refl
shown-ended false n (Some e) = refl

end_whole : (text : List ℕ) → end_of true (begin (Known false)) text ≡ ended (statement_end 0 (tokens_in text))
end_whole text =
    let ts = tokens_in text in
    let h = holds text (Sure false) 0 0 in
    sym (later-zero (end_of true (begin (Known false)) text)) ∙ h.ends ∙ ends-top (Sure false) 0 ts ∙ ap (λ (b : Bool). top_end b ts) (word-sure false 0 ts)

-- the end that is found in a Pattern, by tokens
pub end_found : (last : Bool) (text : List ℕ) → end_of last (begin (Known false)) text ≡ ended (statement_end 0 (tokens_in text))
end_found last text = front-as last (begin (Known false)) text ∙ ap (shown last (length text)) (end_whole text) ∙ shown-ended last (length text) (statement_end 0 (tokens_in text))

place-ended : (o : Option ℕ) → end_place (ended o) ≡ o
place-ended None = refl
place-ended (Some n) = refl

pub end_law : EndLaw
end_law last text = ap end_place (end_found last text) ∙ place-ended (statement_end 0 (tokens_in text))
