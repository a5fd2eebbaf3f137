-- Where a scan ends a statement or opens a Pattern, and its word, by the tokens of the text.
use Rattle.std.proofs.Common.{◌≡◌, ℕ, zero, suc, ◌+◌, ◌-◌, ◌<◌, ◌≤◌, Bool, true, false, cond, eqb, List, [], ◌∷◌, length, drop, take, get_or, Option, Some, None, refl, sym, ap, subst, ◌∙◌, arith, inl, inr}
use Rattle.std.proofs.lemmas.Bool.{cases_lt, ne_eqb, eq-eqb}
use Rattle.std.proofs.lemmas.List.{drop_more, drop_all, drop-drop}
use Rattle.token_forms.specs.declared.piece.Piece.{Piece}
use Rattle.token_forms.specs.declared.piece.Piece.TheVariants.{Blank, Token as token}
use Rattle.token_forms.specs.Pieces.{tokens_from}
use Rattle.token_forms.specs.Tokens.{Token, tokens_of}
use Rattle.token_forms.proofs.Cuts.{Steps, steps}
use Rattle.stil_parts.specs.declared.scan.Mode.TheVariants.{Free}
use Rattle.stil_parts.specs.declared.scan.Found.{Found}
use Rattle.stil_parts.specs.Scanner.{found, later, end_of}
use Rattle.stil_parts.specs.Words.{word_shown}
use Rattle.stil_parts.specs.Heads.{word_of}
use Rattle.stil_tokens.specs.StilTokens.{piece_at}
use Rattle.stil_tokens.specs.StilStatements.{token_ends, depth_behind}
use Rattle.stil_tokens.proofs.StilPieces.{stil_cut}
use Rattle.stil_parts.proofs.Scans.{later-later}
use Rattle.stil_parts.proofs.Comes.{at, end_nil}
use Rattle.stil_parts.proofs.Stages.{Stage, Begin, String, Named, Sure, word_for, settled, behind_blank, behind_token, blank-blank, settled-blank}
use Rattle.stil_parts.proofs.TokenEnds.{opens, IsThrough, piece-through}

-- what is known before a token: a gap before it ends what stood before the gap
abbrev pub before_token : Stage → ℕ → Token → Stage
before_token g prev t = cond (eqb t.start prev) g (behind_blank g)

-- where some tokens end the statement, or open a Pattern, behind a token that ended at a place
abbrev pub ends_in : Stage → ℕ → ℕ → List Token → Option Found
ends_in g prev d [] = None
ends_in g prev d (t ∷ ts) =
    cond (opens (before_token g prev t) d t.text) (Some (found t.end true))
    (cond (token_ends d t.text) (Some (found t.end false)) (ends_in (behind_token (before_token g prev t) t.text) t.end (depth_behind d t.text) ts))

-- whether the word is Pattern by some tokens
abbrev pub word_in : Stage → ℕ → List Token → Bool
word_in g prev [] = settled g
word_in g prev (t ∷ ts) = word_in (behind_token (before_token g prev t) t.text) t.end ts

-- the text's end
shown-settled : (g : Stage) → word_shown true (word_for g) ≡ Some (settled g)
shown-settled Begin = refl
shown-settled String = refl
shown-settled (Named is) = refl
shown-settled (Sure is) = refl

word-nothing : (d : ℕ) (g : Stage) → word_of true (at Free d (word_for g)) [] ≡ Some (settled g)
unfolding word_of
word-nothing d g = shown-settled g

-- tokens that begin behind a place
pub record BeginsBehind (prev : ℕ) (t : Token) : Type 0 where
  pub is : prev < t.start

abbrev pub AllBehind : ℕ → List Token → Type 0
AllBehind prev [] = Unit {0}
AllBehind prev (t ∷ ts) = BeginsBehind prev t

before-apart : (g : Stage) (prev : ℕ) (t : Token) → BeginsBehind prev t → before_token g prev t ≡ behind_blank g
before-apart g prev t b = let lt = b.is in ap (λ (e : Bool). cond e g (behind_blank g)) (ne_eqb t.start prev (λ e. omega arith))

cond-one : (e : Bool) (g : Stage) → cond e g g ≡ g
cond-one true g = refl
cond-one false g = refl

before-blank : (g : Stage) (prev : ℕ) (t : Token) → before_token (behind_blank g) prev t ≡ behind_blank g
before-blank g prev t = ap (λ (h : Stage). cond (eqb t.start prev) (behind_blank g) h) (blank-blank g) ∙ cond-one (eqb t.start prev) (behind_blank g)

before-here : (g : Stage) (prev : ℕ) (t : Token) → t.start ≡ prev → before_token g prev t ≡ g
before-here g prev t e = ap (λ (b : Bool). cond b g (behind_blank g)) (eq-eqb t.start prev e)

-- behind a gap
ends-apart : (g : Stage) (prev next d : ℕ) (ts : List Token) → AllBehind prev ts → ends_in g prev d ts ≡ ends_in (behind_blank g) next d ts
ends-apart g prev next d [] b = refl
ends-apart g prev next d (t ∷ ts) b =
    let e = before-apart g prev t b ∙ sym (before-blank g next t) in
    ap (λ (h : Stage). cond (opens h d t.text) (Some (found t.end true)) (cond (token_ends d t.text) (Some (found t.end false)) (ends_in (behind_token h t.text) t.end (depth_behind d t.text) ts))) e

word-apart : (g : Stage) (prev next : ℕ) (ts : List Token) → AllBehind prev ts → word_in g prev ts ≡ word_in (behind_blank g) next ts
word-apart g prev next [] b = settled-blank g
word-apart g prev next (t ∷ ts) b =
    let e = before-apart g prev t b ∙ sym (before-blank g next t) in
    ap (λ (h : Stage). word_in (behind_token h t.text) t.end ts) e

module _ (text : List ℕ) where
  abbrev pub tokens_at : ℕ → List Token
  tokens_at k = tokens_of text (tokens_from piece_at k 0 (drop k text))

  pub tokens-nothing : (k : ℕ) → length text ≤ k → tokens_at k ≡ []
  unfolding tokens_from
  tokens-nothing k le = rw (drop_all k text le) refl

  -- the token that stands at a place, and those behind it
  abbrev pub token_at : ℕ → ℕ → Token
  token_at k n = record { text = take n (drop k text); start = k; end = k + n }

  tokens-token : (k n : ℕ) → Steps piece_at text k (token n) → tokens_at k ≡ token_at k n ∷ tokens_at (k + n)
  tokens-token k n s =
      let size : k + n - k ≡ n = omega arith in
      ap (tokens_of text) s.same ∙ ap (λ (m : ℕ). record { text = take m (drop k text); start = k; end = k + n } ∷ tokens_at (k + n)) size

  tokens-blank : (k n : ℕ) → Steps piece_at text k (Blank n) → tokens_at k ≡ tokens_at (k + n)
  tokens-blank k n s = ap (tokens_of text) s.same

  -- the piece at a place
  pub data At (k : ℕ) : Type 0 where
    AtEnd : length text ≤ k → tokens_at k ≡ [] → At k
    AtBlank : (n : ℕ) → Blank n ≡ piece_at (drop k text) → 0 < n → k + n ≤ length text → tokens_at k ≡ tokens_at (k + n) → At k
    AtToken : (n : ℕ) → token n ≡ piece_at (drop k text) → 0 < n → k + n ≤ length text → tokens_at k ≡ token_at k n ∷ tokens_at (k + n) → At k

  at-piece : (k : ℕ) (p : Piece) → p ≡ piece_at (drop k text) → Steps piece_at text k p → At k
  at-piece k (Blank n) e s = AtBlank n e s.some s.within (tokens-blank k n s)
  at-piece k (token n) e s = AtToken n e s.some s.within (tokens-token k n s)

  pub at-place : (k : ℕ) → At k
  at-place k = elim (cases_lt k (length text)) [
    | inl lt ↦ at-piece k (piece_at (drop k text)) refl (steps piece_at text k (piece_at (drop k text)) stil_cut lt refl)
    | inr ge ↦ AtEnd ge (tokens-nothing k ge)
  ]

  -- each token from a place on begins there or behind it
  behind-within : (fuel prev k : ℕ) → prev < k → length text ≤ k + fuel → AllBehind prev (tokens_at k)
  behind-within zero prev k lt le = subst (AllBehind prev) (sym (tokens-nothing k (omega arith))) tt
  behind-within (suc fuel) prev k lt le = elim (at-place k) [
    | AtEnd ge e ↦ subst (AllBehind prev) (sym e) tt
    | AtBlank n is some within e ↦ subst (AllBehind prev) (sym e) (behind-within fuel prev (k + n) (omega arith) (omega arith))
    | AtToken n is some within e ↦ subst (AllBehind prev) (sym e) (record { is = lt })
  ]

  pub all-behind : (prev k : ℕ) → prev < k → AllBehind prev (tokens_at k)
  all-behind prev k lt = behind-within (length text) prev k lt (omega arith)

  -- the law from a place on
  pub record Holds (g : Stage) (d k : ℕ) : Type 0 where
    pub ends : later k (end_of true (at Free d (word_for g)) (drop k text)) ≡ ends_in g k d (tokens_at k)
    pub word : word_of true (at Free d (word_for g)) (drop k text) ≡ Some (word_in g k (tokens_at k))

  holds-nothing : (g : Stage) (d k : ℕ) → length text ≤ k → tokens_at k ≡ [] → Holds g d k
  holds-nothing g d k ge none =
      let cut : drop k text ≡ [] = drop_all k text ge in
      record {
        ends = ap (λ (l : List ℕ). later k (end_of true (at Free d (word_for g)) l)) cut ∙ ap (later k) (end_nil (at Free d (word_for g)) refl) ∙ sym (ap (ends_in g k d) none);
        word = ap (word_of true (at Free d (word_for g))) cut ∙ word-nothing d g ∙ sym (ap (λ (ts : List Token). Some (word_in g k ts)) none);
      }

  through : (g : Stage) (d k : ℕ) → k < length text → IsThrough d g (drop k text) (piece_at (drop k text))
  through g d k lt = subst (λ (x : List ℕ). IsThrough d g x (piece_at x)) (sym (drop_more text k 0 lt)) (piece-through d g (get_or text k 0) (drop (k + 1) text))

  holds-blank : (g : Stage) (d k n : ℕ) → k < length text → Blank n ≡ piece_at (drop k text) → 0 < n → tokens_at k ≡ tokens_at (k + n) → Holds (behind_blank g) d (k + n) → Holds g d k
  holds-blank g d k n lt is some same more =
      let t : IsThrough d g (drop k text) (Blank n) = subst (IsThrough d g (drop k text)) (sym is) (through g d k lt) in
      let s = at Free d (word_for (behind_blank g)) in
      let apart = all-behind k (k + n) (omega arith) in
      record {
        ends = ap (later k) t.ends ∙ later-later k n _ ∙ ap (λ (x : List ℕ). later (k + n) (end_of true s x)) (drop-drop n k text) ∙ more.ends
            ∙ sym (ends-apart g k (k + n) d (tokens_at (k + n)) apart) ∙ sym (ap (ends_in g k d) same);
        word = t.word ∙ ap (word_of true s) (drop-drop n k text) ∙ more.word
            ∙ ap (λ (b : Bool). Some b) (sym (word-apart g k (k + n) (tokens_at (k + n)) apart) ∙ sym (ap (word_in g k) same));
      }

  token-ends : (g : Stage) (d k n : ℕ) (w : List ℕ) (more : Option Found) (there : Option Found) → later (k + n) more ≡ there
      → later k (cond (opens g d w) (Some (found n true)) (cond (token_ends d w) (Some (found n false)) (later n more)))
      ≡ cond (opens g d w) (Some (found (k + n) true)) (cond (token_ends d w) (Some (found (k + n) false)) there)
  token-ends g d k n w more there e = by (opens g d w) (token_ends d w)
    where
      by : (a b : Bool) → later k (cond a (Some (found n true)) (cond b (Some (found n false)) (later n more))) ≡ cond a (Some (found (k + n) true)) (cond b (Some (found (k + n) false)) there)
      by true b = refl
      by false true = refl
      by false false = later-later k n more ∙ e

  holds-token : (g : Stage) (d k n : ℕ) → k < length text → token n ≡ piece_at (drop k text) → tokens_at k ≡ token_at k n ∷ tokens_at (k + n)
      → Holds (behind_token g (take n (drop k text))) (depth_behind d (take n (drop k text))) (k + n) → Holds g d k
  holds-token g d k n lt is same more =
      let t : IsThrough d g (drop k text) (token n) = subst (IsThrough d g (drop k text)) (sym is) (through g d k lt) in
      let w = take n (drop k text) in
      let s = at Free (depth_behind d w) (word_for (behind_token g w)) in
      let here = before-here g k (token_at k n) refl in
      let behind = ends_in (behind_token g w) (k + n) (depth_behind d w) (tokens_at (k + n)) in
      record {
        ends = ap (later k) t.ends
            ∙ token-ends g d k n w (end_of true s (drop n (drop k text))) behind (ap (λ (x : List ℕ). later (k + n) (end_of true s x)) (drop-drop n k text) ∙ more.ends)
            ∙ sym (ap (λ (h : Stage). cond (opens h d w) (Some (found (k + n) true)) (cond (token_ends d w) (Some (found (k + n) false)) (ends_in (behind_token h w) (k + n) (depth_behind d w) (tokens_at (k + n))))) here)
            ∙ sym (ap (ends_in g k d) same);
        word = t.word ∙ ap (word_of true s) (drop-drop n k text) ∙ more.word
            ∙ ap (λ (b : Bool). Some b) (sym (ap (λ (h : Stage). word_in (behind_token h w) (k + n) (tokens_at (k + n))) here) ∙ sym (ap (word_in g k) same));
      }

  holds-within : (fuel : ℕ) (g : Stage) (d k : ℕ) → length text ≤ k + fuel → Holds g d k
  holds-within zero g d k le = holds-nothing g d k (omega arith) (tokens-nothing k (omega arith))
  holds-within (suc fuel) g d k le = elim (at-place k) [
    | AtEnd ge e ↦ holds-nothing g d k ge e
    | AtBlank n is some within e ↦ holds-blank g d k n (omega arith) is some e (holds-within fuel (behind_blank g) d (k + n) (omega arith))
    | AtToken n is some within e ↦ holds-token g d k n (omega arith) is e
        (holds-within fuel (behind_token g (take n (drop k text))) (depth_behind d (take n (drop k text))) (k + n) (omega arith))
  ]

  -- at each place of a text
  pub holds : (g : Stage) (d k : ℕ) → Holds g d k
  holds g d k = holds-within (length text) g d k (omega arith)
