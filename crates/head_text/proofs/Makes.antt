-- Pieces that stay and pieces that are written anew, one statement behind the other.
use Rattle.std.specs.Prelude.{⊤}
use Rattle.std.proofs.Common.{◌≡◌, ℕ, ◌+◌, ◌-◌, ◌<◌, ◌≤◌, Bool, true, false, List, [], ◌∷◌, ◌++◌, length, refl, sym, ap, ◌∙◌, subst, arith, append_assoc, length-append}
use Rattle.std.specs.List.{flat_map, AllByRecursion as Each}
use Rattle.std.proofs.lemmas.Bool.{true≢false}
use Rattle.std.proofs.lemmas.List.{append-nil}
use Rattle.token_forms.specs.Tokens.{Token}
use Rattle.splice.specs.declared.Edit.{Edit}
use Rattle.splice.specs.Spliced.{AreRising}
use Rattle.stil_tokens.specs.StilStatements.{is_only, is_closed, len_in}
use Rattle.head_alike.specs.Steps.{Step, Keep, Anew, olds, news, AreSteps, starts_behind}
use Rattle.head_alike.specs.Trees.{joined, IsStatement, IsLead}
use Rattle.head_alike.proofs.Heads.{wider}
use Rattle.head_text.specs.Mixes.{bytes_in, AreLaid, laid, token_of_bytes, Mix, Stay, Change, old_pieces, new_pieces, steps, AreReady}
use Rattle.head_text.specs.Ready.{AreBlank}
use Rattle.head_text.proofs.Mixes.{bytes_append, laid_append, are_behind, AreSome, some_laid, meet_both, are_steps, old_laid}
use Rattle.head_text.proofs.Ready.{steps_law}
use Rattle.head_text.proofs.Cutting.{Pieces, after_tokens, closed_ends, AreCut, piece_cut, no_tokens}
use Rattle.head_text.proofs.Singles.{are_front}
use Rattle.head_text.proofs.Patches.{Patch, Same, Swap, was, now, patch_edits, was_append, now_append, edits_append, AreSpaced, spaced_append, patches_rise}

-- pieces that all stay
abbrev pub stays : Pieces → List Mix
stays [] = []
stays ((t, w) ∷ ps) = Stay t w ∷ stays ps

pub old_stays : (ps : Pieces) → old_pieces (stays ps) ≡ ps
old_stays [] = refl
old_stays ((t, w) ∷ ps) = ap (λ (l : Pieces). (t, w) ∷ l) (old_stays ps)

pub new_stays : (ps : Pieces) → new_pieces (stays ps) ≡ ps
new_stays [] = refl
new_stays ((t, w) ∷ ps) = ap (λ (l : Pieces). (t, w) ∷ l) (new_stays ps)

pub stays_ready : (b : Bool) (ps : Pieces) → AreReady b (stays ps)
stays_ready b [] = tt
stays_ready b ((true, w) ∷ ps) = stays_ready (starts_behind w) ps
stays_ready b ((false, w) ∷ ps) = stays_ready b ps

pub stays_plain : (ps : Pieces) (b : Bool) (at to : ℕ) → AreSome ps → AreSteps false b (steps at to (stays ps))
stays_plain [] b at to some = tt
stays_plain ((true, w) ∷ ps) b at to some = (
  refl,
  meet_both (token_of_bytes w at) (token_of_bytes w to) (at + length w) (to + length w) (stays ps) refl refl (subst AreSome (sym (old_stays ps)) some.1),
  stays_plain ps (starts_behind w) (at + length w) (to + length w) some.1,
)
stays_plain ((false, w) ∷ ps) b at to some = stays_plain ps b (at + length w) (to + length w) some.1

pub stays_olds : (ps : Pieces) (at to : ℕ) → olds (steps at to (stays ps)) ≡ laid at ps
stays_olds ps at to = sym (old_laid at to (stays ps)) ∙ ap (laid at) (old_stays ps)

pub stays_none : (ps : Pieces) (at to : ℕ) → AreBlank ps → steps at to (stays ps) ≡ []
stays_none [] at to none = refl
stays_none ((true, w) ∷ ps) at to none = absurd (true≢false none.0)
stays_none ((false, w) ∷ ps) at to none = stays_none ps (at + length w) (to + length w) none.1

-- none of the tokens opens a block
abbrev pub NoBrace : List Token → Type 0
NoBrace ts = Each (λ t. is_only 123 t.text ≡ false) ts

pub stays_lead : (ps : Pieces) (at to : ℕ) → NoBrace (laid at ps) → IsLead (steps at to (stays ps))
stays_lead [] at to each = tt
stays_lead ((true, w) ∷ ps) at to each = (refl, each.0, stays_lead ps (at + length w) (to + length w) each.1)
stays_lead ((false, w) ∷ ps) at to each = stays_lead ps (at + length w) (to + length w) each

-- whether a statement may begin behind them
abbrev pub after : Bool → List Mix → Bool
after b [] = b
after b (Stay true w ∷ m) = after (starts_behind w) m
after b (Stay false w ∷ m) = after b m
after b (Change w os ns ∷ m) = after true m

pub after_append : (m n : List Mix) (b : Bool) → after b (m ++ n) ≡ after (after b m) n
after_append [] n b = refl
after_append (Stay true w ∷ m) n b = after_append m n (starts_behind w)
after_append (Stay false w ∷ m) n b = after_append m n b
after_append (Change w os ns ∷ m) n b = after_append m n true

pub after_stays : (ps : Pieces) (b : Bool) (at : ℕ) → after b (stays ps) ≡ after_tokens b (laid at ps)
after_stays [] b at = refl
after_stays ((true, w) ∷ ps) b at = after_stays ps (starts_behind w) (at + length w)
after_stays ((false, w) ∷ ps) b at = after_stays ps b (at + length w)

pub after_blank : (ps : Pieces) (b : Bool) → AreBlank ps → after b (stays ps) ≡ b
after_blank [] b none = refl
after_blank ((true, w) ∷ ps) b none = absurd (true≢false none.0)
after_blank ((false, w) ∷ ps) b none = after_blank ps b none.1

pub ready_append : (m n : List Mix) (b c : Bool) → after b m ≡ c → AreReady b m → AreReady c n → AreReady b (m ++ n)
ready_append [] n b c e p q = subst (λ (d : Bool). AreReady d n) (sym e) q
ready_append (Stay true w ∷ m) n b c e p q = ready_append m n (starts_behind w) c e p q
ready_append (Stay false w ∷ m) n b c e p q = ready_append m n b c e p q
ready_append (Change w os ns ∷ m) n b c e p q = (p.0, p.1, ready_append m n true c e p.2 q)

-- mixes behind mixes
pub old_mixes : (m n : List Mix) → old_pieces (m ++ n) ≡ old_pieces m ++ old_pieces n
old_mixes [] n = refl
old_mixes (Stay t w ∷ m) n = ap (λ (l : Pieces). (t, w) ∷ l) (old_mixes m n)
old_mixes (Change w os ns ∷ m) n =
    ap (λ (l : Pieces). (true, w) ∷ (os ++ (true, 59 ∷ []) ∷ l)) (old_mixes m n) ∙ ap (λ (l : Pieces). (true, w) ∷ l) (sym (append_assoc os ((true, 59 ∷ []) ∷ old_pieces m) (old_pieces n)))

pub new_mixes : (m n : List Mix) → new_pieces (m ++ n) ≡ new_pieces m ++ new_pieces n
new_mixes [] n = refl
new_mixes (Stay t w ∷ m) n = ap (λ (l : Pieces). (t, w) ∷ l) (new_mixes m n)
new_mixes (Change w os ns ∷ m) n =
    ap (λ (l : Pieces). (true, w) ∷ (ns ++ (true, 59 ∷ []) ∷ l)) (new_mixes m n) ∙ ap (λ (l : Pieces). (true, w) ∷ l) (sym (append_assoc ns ((true, 59 ∷ []) ∷ new_pieces m) (new_pieces n)))

-- what is made of pieces that begin at a place, with these edits; b tells whether a statement may begin at the first
pub record Made (b : Bool) (at : ℕ) (ps : Pieces) (edits : List Edit) : Type 0 where
  pub mixes : List Mix
  pub old : old_pieces mixes ≡ ps
  pub ready : AreReady b mixes
  pub patches : List Patch
  pub spaced : AreSpaced patches
  pub was_is : was patches ≡ bytes_in ps
  pub now_is : now patches ≡ bytes_in (new_pieces mixes)
  pub edits_are : patch_edits at patches ≡ edits

abbrev pub made_stays : (b : Bool) (at : ℕ) (ps : Pieces) → Made b at ps []
made_stays b at ps = record {
  mixes = stays ps;
  old = old_stays ps;
  ready = stays_ready b ps;
  patches = Same (bytes_in ps) ∷ [];
  spaced = tt;
  was_is = append-nil (bytes_in ps);
  now_is = append-nil (bytes_in ps) ∙ ap bytes_in (sym (new_stays ps));
  edits_are = refl;
}

abbrev pub made_both : (b c : Bool) (at : ℕ) (ps qs : Pieces) (e f : List Edit) (x : Made b at ps e) → after b x.mixes ≡ c → Made c (at + length (bytes_in ps)) qs f → Made b at (ps ++ qs) (e ++ f)
made_both b c at ps qs e f x flag y = record {
  mixes = x.mixes ++ y.mixes;
  old = old_mixes x.mixes y.mixes ∙ ap (λ (l : Pieces). l ++ old_pieces y.mixes) x.old ∙ ap (λ (l : Pieces). ps ++ l) y.old;
  ready = ready_append x.mixes y.mixes b c flag x.ready y.ready;
  patches = x.patches ++ y.patches;
  spaced = spaced_append x.patches y.patches x.spaced y.spaced;
  was_is = was_append x.patches y.patches ∙ ap (λ (l : List ℕ). l ++ was y.patches) x.was_is ∙ ap (λ (l : List ℕ). bytes_in ps ++ l) y.was_is ∙ sym (bytes_append ps qs);
  now_is = now_append x.patches y.patches ∙ ap (λ (l : List ℕ). l ++ now y.patches) x.now_is ∙ ap (λ (l : List ℕ). bytes_in (new_pieces x.mixes) ++ l) y.now_is
      ∙ sym (ap bytes_in (new_mixes x.mixes y.mixes) ∙ bytes_append (new_pieces x.mixes) (new_pieces y.mixes));
  edits_are = edits_append at x.patches y.patches ∙ ap (λ (l : List Edit). l ++ patch_edits (at + length (was x.patches)) y.patches) x.edits_are
      ∙ ap (λ (l : List ℕ). e ++ patch_edits (at + length l) y.patches) x.was_is ∙ ap (λ (l : List Edit). e ++ l) y.edits_are;
}

-- the steps of both
pub both_steps : (b c : Bool) (at to : ℕ) (ps qs : Pieces) (e f : List Edit) (x : Made b at ps e) (y : Made c (at + length (bytes_in ps)) qs f)
    → steps at to (x.mixes ++ y.mixes) ≡ steps at to x.mixes ++ steps (at + length (bytes_in ps)) (to + length (bytes_in (new_pieces x.mixes))) y.mixes
both_steps b c at to ps qs e f x y =
    steps_law at to x.mixes y.mixes ∙ ap (λ (l : Pieces). steps at to x.mixes ++ steps (at + length (bytes_in l)) (to + length (bytes_in (new_pieces x.mixes))) y.mixes) x.old

-- a statement made of pieces
pub record Row (F : List Step → Type 0) (at : ℕ) (qs : Pieces) (edits : List Edit) : Type 0 where
  pub made : Made true at qs edits
  pub ends : after true made.mixes ≡ true
  pub is : (to : ℕ) → IsStatement (steps at to made.mixes)
  pub fact : (to : ℕ) → F (steps at to made.mixes)

-- statements, and what is said of them all
pub record RowsAt (Fs : List (List Step) → Type 0) (s : List Step) : Type 0 where
  pub rows : List (List Step)
  pub is : s ≡ joined rows
  pub each : Each IsStatement rows
  pub facts : Fs rows

pub record Rows (Fs : List (List Step) → Type 0) (at : ℕ) (ps : Pieces) (edits : List Edit) : Type 0 where
  pub made : Made true at ps edits
  pub rows : (to : ℕ) → RowsAt Fs (steps at to made.mixes)

abbrev pub rows_none : (Fs : List (List Step) → Type 0) (at : ℕ) (ps : Pieces) → AreBlank ps → Fs [] → Rows Fs at ps []
rows_none Fs at ps none facts = record { made = made_stays true at ps; rows = λ to. record { rows = []; is = stays_none ps at to none; each = tt; facts = facts } }

abbrev pub rows_more : (F : List Step → Type 0) (Fs Gs : List (List Step) → Type 0) (at : ℕ) (qs ps : Pieces) (e f : List Edit) → ((r : List Step) (rows : List (List Step)) → F r → Fs rows → Gs (r ∷ rows))
    → Row F at qs e → Rows Fs (at + length (bytes_in qs)) ps f → Rows Gs at (qs ++ ps) (e ++ f)
rows_more F Fs Gs at qs ps e f put row rest = record {
  made = made_both true true at qs ps e f row.made row.ends rest.made;
  rows = λ to.
      let k = rest.rows (to + length (bytes_in (new_pieces row.made.mixes))) in
      let s = steps at to row.made.mixes in
      record {
        rows = s ∷ k.rows;
        is = both_steps true true at to qs ps e f row.made rest.made ∙ ap (λ (l : List Step). s ++ l) k.is;
        each = (row.is to, k.each);
        facts = put s k.rows (row.fact to) k.facts;
      };
}

-- a statement that stays
pub stays_statement : (at to : ℕ) (qs : Pieces) → AreSome qs → len_in 0 (laid at qs) ≡ length (laid at qs) → is_closed (laid at qs) ≡ true → IsStatement (steps at to (stays qs))
stays_statement at to qs some one closed = record {
  steps = wider (steps at to (stays qs)) true (stays_plain qs true at to some);
  one = subst (λ (l : List Token). len_in 0 l ≡ length l) (sym (stays_olds qs at to)) one;
  closed = ap is_closed (stays_olds qs at to) ∙ closed;
}

abbrev pub stays_row : (F : List Step → Type 0) (at : ℕ) (qs : Pieces) → AreSome qs → len_in 0 (laid at qs) ≡ length (laid at qs) → is_closed (laid at qs) ≡ true
    → ((s : List Step) → AreSteps false true s → olds s ≡ laid at qs → F s) → Row F at qs []
stays_row F at qs some one closed fact = record {
  made = made_stays true at qs;
  ends = after_stays qs true at ∙ closed_ends (laid at qs) closed;
  is = λ to. stays_statement at to qs some one closed;
  fact = λ to. fact (steps at to (stays qs)) (stays_plain qs true at to some) (stays_olds qs at to);
}

-- the flag behind mixes, by their tokens
after_over : (xs : List Token) (y : Token) (ts : List Token) (b : Bool) → after_tokens b (xs ++ y ∷ ts) ≡ after_tokens (starts_behind y.text) ts
after_over [] y ts b = refl
after_over (x ∷ xs) y ts b = after_over xs y ts (starts_behind x.text)

pub after_is : (m : List Mix) (b : Bool) (at : ℕ) → after b m ≡ after_tokens b (laid at (old_pieces m))
after_is [] b at = refl
after_is (Stay true w ∷ m) b at = after_is m (starts_behind w) (at + length w)
after_is (Stay false w ∷ m) b at = after_is m b (at + length w)
after_is (Change w os ns ∷ m) b at =
    let last = token_of_bytes (59 ∷ []) (at + length w + length (bytes_in os)) in
    after_is m true (at + length w + length (bytes_in os) + 1)
    ∙ sym (ap (after_tokens (starts_behind w)) (laid_append (at + length w) os ((true, 59 ∷ []) ∷ old_pieces m))
    ∙ after_over (laid (at + length w) os) last (laid (at + length w + length (bytes_in os) + 1) (old_pieces m)) (starts_behind w))

-- a statement of what is made
module _ (at : ℕ) (qs : Pieces) (edits : List Edit) (x : Made true at qs edits) where
  pub made_tokens : (to : ℕ) → olds (steps at to x.mixes) ≡ laid at qs
  made_tokens to = sym (old_laid at to x.mixes) ∙ ap (laid at) x.old

  pub made_steps : AreSome qs → (to : ℕ) → AreSteps true true (steps at to x.mixes)
  made_steps some to = are_steps x.mixes true at to (subst AreSome (sym x.old) some) x.ready

  pub made_rises : AreRising at (at + length (bytes_in qs)) edits
  made_rises =
      let len : length (was x.patches) ≡ length (bytes_in qs) = ap length x.was_is in
      subst (AreRising at (at + length (bytes_in qs))) x.edits_are (patches_rise at (at + length (bytes_in qs)) x.patches (omega (arith, len)) x.spaced)

  abbrev pub row_of_made : (F : List Step → Type 0) → AreSome qs → len_in 0 (laid at qs) ≡ length (laid at qs) → is_closed (laid at qs) ≡ true → ((to : ℕ) → F (steps at to x.mixes)) → Row F at qs edits
  row_of_made F some one closed fact = record {
    made = x;
    ends = after_is x.mixes true at ∙ ap (λ (l : Pieces). after_tokens true (laid at l)) x.old ∙ closed_ends (laid at qs) closed;
    is = λ to. record {
      steps = made_steps some to;
      one = subst (λ (l : List Token). len_in 0 l ≡ length l) (sym (made_tokens to)) one;
      closed = ap is_closed (made_tokens to) ∙ closed;
    };
    fact = fact;
  }

-- statements one behind the other
module _ (F : List Step → Type 0) (P : List Token → Type 0) (edits_of : List Token → List Edit)
    (row : (at : ℕ) (z : List ℕ) (qs : Pieces) → AreLaid z qs → len_in 0 (laid at qs) ≡ length (laid at qs) → P (laid at qs) → Row F at qs (edits_of (laid at qs))) where
  pub all_rows : (ss : List (List Token)) (at : ℕ) (z : List ℕ) (ps : Pieces) → AreLaid z ps → AreCut ss (laid at ps) → Each P ss → Rows (Each F) at ps (flat_map edits_of ss)
  all_rows [] at z ps are cut each = rows_none (Each F) at ps (no_tokens at ps cut) tt
  all_rows (s ∷ ss) at z ps are cut each =
      let c = piece_cut at ps s cut.rest cut.is in
      let both = subst (AreLaid z) c.is are in
      let one : len_in 0 (laid at c.front) ≡ length (laid at c.front) = subst (λ (l : List Token). len_in 0 l ≡ length l) (sym c.front_is) cut.one in
      let first = subst (λ (l : List Token). Row F at c.front (edits_of l)) c.front_is (row at (bytes_in c.rest ++ z) c.front (are_front z c.front c.rest both) one (subst P (sym c.front_is) each.0)) in
      let more = all_rows ss (at + length (bytes_in c.front)) z c.rest (are_behind z c.front c.rest both) (subst (AreCut ss) (sym c.rest_is) cut.more) each.1 in
      subst (λ (q : Pieces). Rows (Each F) at q (edits_of s ++ flat_map edits_of ss)) (sym c.is)
      (rows_more F (Each F) (Each F) at c.front c.rest (edits_of s) (flat_map edits_of ss) (λ r rows p ps. (p, ps)) first more)
