-- A statement in a ScanChain of which a run of pieces behind the word is written anew.
use Rattle.std.specs.Prelude.{⊤}
use Rattle.std.proofs.Common.{◌≡◌, ℕ, ◌+◌, ◌-◌, ◌<◌, ◌≤◌, Bool, true, false, List, [], ◌∷◌, ◌++◌, length, refl, sym, ap, ◌∙◌, subst, arith, append_assoc, length-append}
use Rattle.std.proofs.lemmas.List.{append-nil}
use Rattle.token_forms.specs.Tokens.{Token}
use Rattle.splice.specs.declared.Edit.{Edit}
use Rattle.stil_tokens.specs.StilStatements.{is_closed, len_in}
use Rattle.stil_types.specs.declared.head.ScanChainDecl.{ScanChainDecl}
use Rattle.stil_syntax.specs.Shapes.{behind_labels}
use Rattle.stil_blocks.specs.Chains.{word_clause}
use Rattle.head_alike.specs.Steps.{Step, Keep, Anew, olds, news, AreSteps}
use Rattle.head_alike.specs.Chains.{IsTurned, IsTurnedRow}
use Rattle.head_alike.specs.Trees.{IsStatement}
use Rattle.head_alike.proofs.Clauses.{said_law}
use Rattle.head_text.specs.Mixes.{bytes_in, laid, token_of_bytes, Mix, Stay, Change, old_pieces, new_pieces, steps, IsReady, AreReady}
use Rattle.head_text.specs.Ready.{AreBlank}
use Rattle.head_text.specs.Written.{edit_at}
use Rattle.head_text.proofs.Mixes.{bytes_append, laid_append, AreSome, are_steps, old_laid}
use Rattle.head_text.proofs.Ready.{steps_law}
use Rattle.head_text.proofs.Cutting.{Pieces, after_tokens, blank_laid, LabelCut, label_cut, PieceCut, piece_cut, OnePiece, one_piece}
use Rattle.head_text.proofs.Patches.{Patch, Same, Swap, was, now, patch_edits}
use Rattle.head_text.proofs.Makes.{stays, old_stays, new_stays, stays_ready, stays_none, after, after_append, after_stays, after_blank, ready_append, old_mixes, new_mixes, Made, Row}

flat : (a w f x b z : List ℕ) → (a ++ (w ++ f)) ++ (x ++ ((b ++ z) ++ [])) ≡ a ++ (w ++ ((f ++ (x ++ b)) ++ z))
flat a w f x b z =
    ap (λ (l : List ℕ). (a ++ (w ++ f)) ++ (x ++ l)) (append-nil (b ++ z)) ∙ append_assoc a (w ++ f) (x ++ (b ++ z)) ∙ ap (λ (l : List ℕ). a ++ l) (append_assoc w f (x ++ (b ++ z)))
    ∙ ap (λ (l : List ℕ). a ++ (w ++ (f ++ l))) (sym (append_assoc x b z)) ∙ ap (λ (l : List ℕ). a ++ (w ++ l)) (sym (append_assoc f (x ++ b) z))

pub blank_front : (at : ℕ) (f ps : Pieces) → AreBlank f → laid at (f ++ ps) ≡ laid (at + length (bytes_in f)) ps
blank_front at f ps none = laid_append at f ps ∙ ap (λ (l : List Token). l ++ laid (at + length (bytes_in f)) ps) (blank_laid at f none)

module _ (at : ℕ) (lp : Pieces) (w : List ℕ) (f x y b tail : Pieces) where
  abbrev pub old_run : Pieces
  old_run = f ++ (x ++ b)

  abbrev pub new_run : Pieces
  new_run = f ++ (y ++ b)

  abbrev pub said_pieces : Pieces
  said_pieces = lp ++ (true, w) ∷ (old_run ++ (true, 59 ∷ []) ∷ tail)

  abbrev said_mixes : List Mix
  said_mixes = stays lp ++ Change w old_run new_run ∷ stays tail

  abbrev pub said_edits : List Edit
  said_edits = patch_edits at (Same (bytes_in lp ++ (w ++ bytes_in f)) ∷ Swap (bytes_in x) (bytes_in y) ∷ Same (bytes_in b ++ 59 ∷ bytes_in tail) ∷ [])

  run_bytes : (m : Pieces) → bytes_in (lp ++ (true, w) ∷ ((f ++ (m ++ b)) ++ (true, 59 ∷ []) ∷ tail)) ≡ bytes_in lp ++ (w ++ ((bytes_in f ++ (bytes_in m ++ bytes_in b)) ++ 59 ∷ bytes_in tail))
  run_bytes m =
      bytes_append lp ((true, w) ∷ ((f ++ (m ++ b)) ++ (true, 59 ∷ []) ∷ tail))
      ∙ ap (λ (l : List ℕ). bytes_in lp ++ (w ++ l)) (bytes_append (f ++ (m ++ b)) ((true, 59 ∷ []) ∷ tail)
      ∙ ap (λ (l : List ℕ). l ++ 59 ∷ bytes_in tail) (bytes_append f (m ++ b) ∙ ap (λ (l : List ℕ). bytes_in f ++ l) (bytes_append m b)))

  old_is : old_pieces said_mixes ≡ said_pieces
  old_is = old_mixes (stays lp) (Change w old_run new_run ∷ stays tail) ∙ ap (λ (l : Pieces). l ++ (true, w) ∷ (old_run ++ (true, 59 ∷ []) ∷ old_pieces (stays tail))) (old_stays lp)
      ∙ ap (λ (l : Pieces). lp ++ (true, w) ∷ (old_run ++ (true, 59 ∷ []) ∷ l)) (old_stays tail)

  new_is : new_pieces said_mixes ≡ lp ++ (true, w) ∷ (new_run ++ (true, 59 ∷ []) ∷ tail)
  new_is = new_mixes (stays lp) (Change w old_run new_run ∷ stays tail) ∙ ap (λ (l : Pieces). l ++ (true, w) ∷ (new_run ++ (true, 59 ∷ []) ∷ new_pieces (stays tail))) (new_stays lp)
      ∙ ap (λ (l : Pieces). lp ++ (true, w) ∷ (new_run ++ (true, 59 ∷ []) ∷ l)) (new_stays tail)

  module _ (begin : after true (stays lp) ≡ true) (ready : IsReady w old_run new_run) where
    said_ready : AreReady true said_mixes
    said_ready = ready_append (stays lp) (Change w old_run new_run ∷ stays tail) true true begin (stays_ready true lp) (refl, ready, stays_ready true tail)

    abbrev said_made : Made true at said_pieces said_edits
    said_made = record {
      mixes = said_mixes;
      old = old_is;
      ready = said_ready;
      patches = Same (bytes_in lp ++ (w ++ bytes_in f)) ∷ Swap (bytes_in x) (bytes_in y) ∷ Same (bytes_in b ++ 59 ∷ bytes_in tail) ∷ [];
      spaced = (let k = length-append (bytes_in b) (59 ∷ bytes_in tail) in omega (arith, k), tt);
      was_is = flat (bytes_in lp) w (bytes_in f) (bytes_in x) (bytes_in b) (59 ∷ bytes_in tail) ∙ sym (run_bytes x);
      now_is = flat (bytes_in lp) w (bytes_in f) (bytes_in y) (bytes_in b) (59 ∷ bytes_in tail) ∙ sym (ap bytes_in new_is ∙ run_bytes y);
      edits_are = refl;
    }

    -- the word of both, what stands behind it, and the ;
    abbrev pub old_word : ℕ
    old_word = at + length (bytes_in lp)

    abbrev pub old_end : Token
    old_end = token_of_bytes (59 ∷ []) (old_word + length w + length (bytes_in old_run))

    abbrev pub Turns : ScanChainDecl → Type 0
    Turns new = (to : ℕ) → IsTurned new (word_clause (token_of_bytes w old_word) (laid (old_word + length w) old_run ++ old_end ∷ []))
        (word_clause (token_of_bytes w to) (laid (to + length w) new_run ++ token_of_bytes (59 ∷ []) (to + length w + length (bytes_in new_run)) ∷ []))

    module _ (none : AreBlank tail) where
      shape : (to : ℕ) → steps at to said_mixes ≡ steps at to (stays lp) ++ Anew (token_of_bytes w old_word) (token_of_bytes w (to + length (bytes_in lp))) (laid (old_word + length w) old_run)
          (laid (to + length (bytes_in lp) + length w) new_run) old_end (token_of_bytes (59 ∷ []) (to + length (bytes_in lp) + length w + length (bytes_in new_run))) ∷ []
      shape to =
          steps_law at to (stays lp) (Change w old_run new_run ∷ stays tail)
          ∙ ap (λ (l : Pieces). steps at to (stays lp) ++ steps (at + length (bytes_in l)) (to + length (bytes_in (new_pieces (stays lp)))) (Change w old_run new_run ∷ stays tail)) (old_stays lp)
          ∙ ap (λ (l : Pieces). steps at to (stays lp) ++ steps (at + length (bytes_in lp)) (to + length (bytes_in l)) (Change w old_run new_run ∷ stays tail)) (new_stays lp)
          ∙ ap (λ (l : List Step). steps at to (stays lp) ++ Anew (token_of_bytes w old_word) (token_of_bytes w (to + length (bytes_in lp))) (laid (old_word + length w) old_run)
          (laid (to + length (bytes_in lp) + length w) new_run) old_end (token_of_bytes (59 ∷ []) (to + length (bytes_in lp) + length w + length (bytes_in new_run))) ∷ l)
          (stays_none tail (old_word + length w + length (bytes_in old_run) + 1) (to + length (bytes_in lp) + length w + length (bytes_in new_run) + 1) none)

      tokens_are : (to : ℕ) → olds (steps at to said_mixes) ≡ laid at said_pieces
      tokens_are to = sym (old_laid at to said_mixes) ∙ ap (laid at) old_is

      pub behind_word_is : laid (old_word + length w) (old_run ++ (true, 59 ∷ []) ∷ tail) ≡ laid (old_word + length w) old_run ++ old_end ∷ []
      behind_word_is = laid_append (old_word + length w) old_run ((true, 59 ∷ []) ∷ tail)
          ∙ ap (λ (l : List Token). laid (old_word + length w) old_run ++ old_end ∷ l) (blank_laid (old_word + length w + length (bytes_in old_run) + 1) tail none)

      module _ (new : ScanChainDecl) (some : AreSome said_pieces) (one : len_in 0 (laid at said_pieces) ≡ length (laid at said_pieces)) (closed : is_closed (laid at said_pieces) ≡ true)
          (behind : behind_labels (laid at said_pieces) ≡ token_of_bytes w old_word ∷ laid (old_word + length w) (old_run ++ (true, 59 ∷ []) ∷ tail)) (turns : Turns new) where
        said_steps : (to : ℕ) → AreSteps true true (steps at to said_mixes)
        said_steps to = are_steps said_mixes true at to (subst AreSome (sym old_is) some) said_ready

        said_fact : (to : ℕ) → IsTurnedRow new (steps at to said_mixes)
        said_fact to =
            let e = shape to in
            let there : behind_labels (olds (steps at to said_mixes)) ≡ token_of_bytes w old_word ∷ (laid (old_word + length w) old_run ++ old_end ∷ []) =
            subst (λ (l : List Token). behind_labels l ≡ token_of_bytes w old_word ∷ (laid (old_word + length w) old_run ++ old_end ∷ [])) (sym (tokens_are to)) (behind ∙ ap (λ (l : List Token). token_of_bytes w old_word ∷ l) behind_word_is) in
            subst (IsTurnedRow new) (sym e) (said_law new (steps at to (stays lp)) (token_of_bytes w old_word) (token_of_bytes w (to + length (bytes_in lp))) (laid (old_word + length w) old_run)
            (laid (to + length (bytes_in lp) + length w) new_run) old_end (token_of_bytes (59 ∷ []) (to + length (bytes_in lp) + length w + length (bytes_in new_run)))
            (subst (AreSteps true true) e (said_steps to))
            (subst (λ (s : List Step). behind_labels (olds s) ≡ token_of_bytes w old_word ∷ (laid (old_word + length w) old_run ++ old_end ∷ [])) e there) (turns (to + length (bytes_in lp))))

        pub said_row : Row (IsTurnedRow new) at said_pieces said_edits
        said_row = record {
          made = said_made;
          ends = after_append (stays lp) (Change w old_run new_run ∷ stays tail) true ∙ after_blank tail true none;
          is = λ to. record {
            steps = said_steps to;
            one = subst (λ (l : List Token). len_in 0 l ≡ length l) (sym (tokens_are to)) one;
            closed = ap is_closed (tokens_are to) ∙ closed;
          };
          fact = said_fact;
        }

-- the word of a statement among its pieces
pub record WordCut (at : ℕ) (qs : Pieces) (t : Token) (ts : List Token) : Type 0 where
  pub lead : Pieces
  pub word : List ℕ
  pub rest : Pieces
  pub is : qs ≡ lead ++ (true, word) ∷ rest
  pub after_is : after true (stays lead) ≡ true
  pub token : t ≡ token_of_bytes word (at + length (bytes_in lead))
  pub rest_is : laid (at + length (bytes_in lead) + length word) rest ≡ ts

pub word_cut : (at : ℕ) (qs : Pieces) (t : Token) (ts : List Token) → behind_labels (laid at qs) ≡ t ∷ ts → WordCut at qs t ts
word_cut at qs t ts behind =
    let l = label_cut (laid at qs) (t ∷ ts) behind in
    let c = piece_cut at qs l.front (t ∷ ts) l.is in
    let o = one_piece (at + length (bytes_in c.front)) c.rest t ts c.rest_is in
    let lead = c.front ++ o.blanks in
    let places : at + length (bytes_in c.front) + length (bytes_in o.blanks) ≡ at + length (bytes_in lead) =
    (let k = ap length (bytes_append c.front o.blanks) ∙ length-append (bytes_in c.front) (bytes_in o.blanks) in omega (arith, k)) in
    let tokens : laid at lead ≡ l.front = laid_append at c.front o.blanks ∙ ap (λ (x : List Token). laid at c.front ++ x) (blank_laid (at + length (bytes_in c.front)) o.blanks o.none) ∙ append-nil (laid at c.front) ∙ c.front_is in
    record {
      lead = lead;
      word = o.word;
      rest = o.rest;
      is = c.is ∙ ap (λ (x : Pieces). c.front ++ x) o.is ∙ sym (append_assoc c.front o.blanks ((true, o.word) ∷ o.rest));
      after_is = after_stays lead true at ∙ ap (after_tokens true) tokens ∙ l.after;
      token = o.token ∙ ap (token_of_bytes o.word) places;
      rest_is = ap (λ (n : ℕ). laid (n + length o.word) o.rest) (sym places) ∙ o.rest_is;
    }
