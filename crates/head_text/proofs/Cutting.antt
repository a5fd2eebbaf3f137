-- Tokens cut into statements, and pieces cut where their tokens are.
use Rattle.std.specs.Prelude.{⊤}
use Rattle.std.proofs.Common.{◌≡◌, ℕ, zero, suc, ◌+◌, ◌-◌, ◌<◌, ◌≤◌, Bool, true, false, cond, List, [], ◌∷◌, ◌++◌, length, take, drop, refl, sym, ap, ◌∙◌, subst, arith, append_assoc, length-append, length-drop}
use Rattle.std.specs.List.{AllByRecursion as Each}
use Rattle.std.proofs.lemmas.Bool.{true≢false}
use Rattle.std.proofs.lemmas.List.{append-nil, take-append-drop, length-take-le}
use Rattle.token_forms.specs.Tokens.{Token}
use Rattle.stil_tokens.specs.StilStatements.{token_ends, depth_behind, closed_in, is_closed, len_in, statement_len, stil_statements}
use Rattle.stil_tokens.proofs.StilCuts.{first_law, statement_len-some, statement_len-le}
use Rattle.stil_syntax.specs.Shapes.{behind_labels}
use Rattle.head_alike.specs.Steps.{Step, Keep, Anew, olds, news, AreSteps, starts_behind, meets}
use Rattle.head_alike.proofs.Ends.{end_starts}
use Rattle.head_alike.proofs.Cuts.{len_take, statements_none}
use Rattle.head_alike.proofs.Names.{begins_after, behind_both}
use Rattle.head_alike.proofs.Trees.{old_append}
use Rattle.head_text.specs.Mixes.{bytes_in, AreLaid, laid, one_token, token_of_bytes}
use Rattle.head_text.specs.Ready.{AreBlank}

-- statements one behind the other
pub record IsFront (s ts : List Token) (More : List Token → Type 0) : Type 0 where
  pub rest : List Token
  pub is : ts ≡ s ++ rest
  pub some : 0 < length s
  pub one : len_in 0 s ≡ length s
  pub more : More rest

abbrev pub AreCut : List (List Token) → List Token → Type 0
AreCut [] ts = ts ≡ []
AreCut (s ∷ ss) ts = IsFront s ts (AreCut ss)

cut_within : (fuel : ℕ) (ts : List Token) → length ts ≤ fuel → AreCut (stil_statements ts) ts
cut_within fuel [] short = subst (λ (l : List (List Token)). AreCut l []) (sym statements_none) refl
cut_within zero (t ∷ ts) short = absurd (omega arith)
cut_within (suc fuel) (t ∷ ts) short =
    let n = statement_len (t ∷ ts) in
    let some = statement_len-some t ts in
    let left = length-drop n (t ∷ ts) in
    let len = length-take-le n (t ∷ ts) (statement_len-le (t ∷ ts)) in
    subst (λ (l : List (List Token)). AreCut l (t ∷ ts)) (sym (first_law t ts)) (record {
      rest = drop n (t ∷ ts);
      is = sym (take-append-drop n (t ∷ ts));
      some = omega (arith, len, some);
      one = len_take 0 (t ∷ ts);
      more = cut_within fuel (drop n (t ∷ ts)) (omega (arith, left, some));
    })

pub cut_all : (ts : List Token) → AreCut (stil_statements ts) ts
cut_all ts = cut_within (length ts) ts (omega arith)

-- whether a statement may begin behind tokens
abbrev pub after_tokens : Bool → List Token → Bool
after_tokens b [] = b
after_tokens b (t ∷ ts) = after_tokens (starts_behind t.text) ts

pub after_one : (b : Bool) (xs : List Token) (x : Token) → after_tokens b (xs ++ x ∷ []) ≡ starts_behind x.text
after_one b [] x = refl
after_one b (y ∷ xs) x = after_one (starts_behind y.text) xs x

closed_after : (ts : List Token) (closed b : Bool) (depth : ℕ) → (closed ≡ true → b ≡ true) → closed_in closed depth ts ≡ true → after_tokens b ts ≡ true
closed_after [] closed b depth f e = f e
closed_after (t ∷ ts) closed b depth f e = closed_after ts (token_ends depth t.text) (starts_behind t.text) (depth_behind depth t.text) (λ k. end_starts depth t.text k) e

pub closed_ends : (ts : List Token) → is_closed ts ≡ true → after_tokens true ts ≡ true
closed_ends ts e = closed_after ts false true 0 (λ k. refl) e

-- what stands before the word of a statement
abbrev kept : List Token → List Step
kept [] = []
kept (t ∷ ts) = Keep t t ∷ kept ts

kept_olds : (ts : List Token) → olds (kept ts) ≡ ts
kept_olds [] = refl
kept_olds (t ∷ ts) = ap (λ (l : List Token). t ∷ l) (kept_olds ts)

kept_news : (ts : List Token) → news (kept ts) ≡ ts
kept_news [] = refl
kept_news (t ∷ ts) = ap (λ (l : List Token). t ∷ l) (kept_news ts)

kept_are : (ts : List Token) (b : Bool) → AreSteps true b (kept ts)
kept_are [] b = tt
kept_are (t ∷ ts) b = (refl, ap (meets t) (kept_olds ts ∙ sym (kept_news ts)), kept_are ts (starts_behind t.text))

kept_after : (f r : List Step) (ts : List Token) (b : Bool) → kept ts ≡ f ++ r → begins_after b f ≡ after_tokens b (olds f)
kept_after [] r ts b e = refl
kept_after (Keep t u ∷ f) r [] b e = absurd cc
kept_after (Keep t u ∷ f) r (x ∷ ts) b e = kept_after f r ts (starts_behind t.text) (ap (drop 1) e)
kept_after (Anew t u xs ys c d ∷ f) r [] b e = absurd cc
kept_after (Anew t u xs ys c d ∷ f) r (x ∷ ts) b e = absurd cc

pub record LabelCut (s rest : List Token) : Type 0 where
  pub front : List Token
  pub is : s ≡ front ++ rest
  pub after : after_tokens true front ≡ true

pub label_cut : (s rest : List Token) → behind_labels s ≡ rest → LabelCut s rest
label_cut s rest e =
    let k = behind_both true (kept s) (kept_are s true) in
    let behind : behind_labels s ≡ olds k.rest = subst (λ (l : List Token). behind_labels l ≡ olds k.rest) (kept_olds s) k.old in
    record {
      front = olds k.front;
      is = sym (kept_olds s) ∙ ap olds k.cut ∙ old_append k.front k.rest ∙ ap (λ (l : List Token). olds k.front ++ l) (sym behind ∙ e);
      after = sym (kept_after k.front k.rest s true k.cut) ∙ k.index;
    }

-- pieces cut behind some of their tokens
abbrev pub Pieces : Type 0
Pieces = List (Bool × List ℕ)

-- the last of pieces is a token
abbrev pub Tight : Pieces → Type 0
Tight [] = ⊤
Tight (p ∷ []) = p.0 ≡ true
Tight (p ∷ q ∷ ps) = Tight (q ∷ ps)

tight_more : (at : ℕ) (p : Bool × List ℕ) (ps : Pieces) (xs : List Token) → (ps ≡ [] → p.0 ≡ true) → Tight ps → Tight (p ∷ ps)
tight_more at p [] xs f t = f refl
tight_more at p (q ∷ ps) xs f t = t

pub record PieceCut (at : ℕ) (ps : Pieces) (xs us : List Token) : Type 0 where
  pub front : Pieces
  pub rest : Pieces
  pub is : ps ≡ front ++ rest
  pub front_is : laid at front ≡ xs
  pub rest_is : laid (at + length (bytes_in front)) rest ≡ us
  pub tight : Tight front

pub piece_cut : (at : ℕ) (ps : Pieces) (xs us : List Token) → laid at ps ≡ xs ++ us → PieceCut at ps xs us
piece_cut at ps [] us e = let k : at + 0 ≡ at = omega arith in record { front = []; rest = ps; is = refl; front_is = refl; rest_is = ap (λ (n : ℕ). laid n ps) k ∙ e; tight = tt }
piece_cut at [] (x ∷ xs) us e = absurd cc
piece_cut at ((true, w) ∷ ps) (x ∷ xs) us e =
    let k = piece_cut (at + length w) ps xs us (ap (drop 1) e) in
    let here : token_of_bytes w at ≡ x = (let r = e in cc) in
    let places : at + length (w ++ bytes_in k.front) ≡ at + length w + length (bytes_in k.front) = omega (arith, length-append w (bytes_in k.front)) in
    record {
      front = (true, w) ∷ k.front;
      rest = k.rest;
      is = ap (λ (l : Pieces). (true, w) ∷ l) k.is;
      front_is = ap (λ (l : List Token). token_of_bytes w at ∷ l) k.front_is ∙ ap (λ (t : Token). t ∷ xs) here;
      rest_is = ap (λ (n : ℕ). laid n k.rest) places ∙ k.rest_is;
      tight = tight_more at (true, w) k.front xs (λ e. refl) k.tight;
    }
piece_cut at ((false, w) ∷ ps) (x ∷ xs) us e =
    let k = piece_cut (at + length w) ps (x ∷ xs) us e in
    let places : at + length (w ++ bytes_in k.front) ≡ at + length w + length (bytes_in k.front) = omega (arith, length-append w (bytes_in k.front)) in
    record { front = (false, w) ∷ k.front; rest = k.rest; is = ap (λ (l : Pieces). (false, w) ∷ l) k.is; front_is = k.front_is; rest_is = ap (λ (n : ℕ). laid n k.rest) places ∙ k.rest_is; tight = tight_more at (false, w) k.front xs (λ e. absurd (let g = sym k.front_is ∙ ap (laid (at + length w)) e in cc)) k.tight }

-- the first token among pieces
pub record OnePiece (at : ℕ) (ps : Pieces) (x : Token) (xs : List Token) : Type 0 where
  pub blanks : Pieces
  pub word : List ℕ
  pub rest : Pieces
  pub is : ps ≡ blanks ++ (true, word) ∷ rest
  pub none : AreBlank blanks
  pub token : x ≡ token_of_bytes word (at + length (bytes_in blanks))
  pub rest_is : laid (at + length (bytes_in blanks) + length word) rest ≡ xs

pub one_piece : (at : ℕ) (ps : Pieces) (x : Token) (xs : List Token) → laid at ps ≡ x ∷ xs → OnePiece at ps x xs
one_piece at [] x xs e = absurd cc
one_piece at ((true, w) ∷ ps) x xs e =
    let k : at ≡ at + 0 = omega arith in
    let here : token_of_bytes w at ≡ x = (let r = e in cc) in
    record {
      blanks = [];
      word = w;
      rest = ps;
      is = refl;
      none = tt;
      token = sym here ∙ ap (λ (n : ℕ). token_of_bytes w n) k;
      rest_is = ap (λ (n : ℕ). laid (n + length w) ps) (sym k) ∙ ap (drop 1) e;
    }
one_piece at ((false, w) ∷ ps) x xs e =
    let k = one_piece (at + length w) ps x xs e in
    let places : at + length w + length (bytes_in k.blanks) ≡ at + length (w ++ bytes_in k.blanks) = omega (arith, length-append w (bytes_in k.blanks)) in
    record {
      blanks = (false, w) ∷ k.blanks;
      word = k.word;
      rest = k.rest;
      is = ap (λ (l : Pieces). (false, w) ∷ l) k.is;
      none = (refl, k.none);
      token = k.token ∙ ap (λ (n : ℕ). token_of_bytes k.word n) places;
      rest_is = ap (λ (n : ℕ). laid (n + length k.word) k.rest) (sym places) ∙ k.rest_is;
    }

pub no_tokens : (at : ℕ) (ps : Pieces) → laid at ps ≡ [] → AreBlank ps
no_tokens at [] e = tt
no_tokens at ((true, w) ∷ ps) e = absurd cc
no_tokens at ((false, w) ∷ ps) e = (refl, no_tokens (at + length w) ps e)

pub blank_laid : (at : ℕ) (ps : Pieces) → AreBlank ps → laid at ps ≡ []
blank_laid at [] none = refl
blank_laid at ((true, w) ∷ ps) none = absurd (true≢false none.0)
blank_laid at ((false, w) ∷ ps) none = blank_laid (at + length w) ps none.1
